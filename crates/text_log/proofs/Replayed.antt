-- A replay does what was recorded.
use mathlib.Core.{Bool.{Bool, true, false, cond}, List.{List, [], ◌∷◌, ◌++◌}, Path.{◌≡◌, refl, sym, ap, ap₂, ◌∙◌}}
use Prim.Native.Nat.{ℕ, zero, suc, ◌*◌, ◌≤◌}
use native.Mathlib.Omega.{arith}
use lib.{Dec.leb, ListN.{length, take, length-take}}
use borrow.Author.Tests.{leb-true, eq-eqb}
use Rattle.text_lines.specs.Programs.{transcript, state_after}
use Rattle.text_numerals.specs.Decimal.{past, AllBelow, spaced_texts}
use Rattle.text_answers.specs.Printed.{ok, spelled, ok_bytes}
use Rattle.state.specs.Outcomes.{Said, done_answer, pointer, given, granted, pairs, ordered, refused}
use Rattle.spec.specs.{Machine.Machine, Calls.{call, Turn}}
use Rattle.spec.specs.Messages.{Call, begin, on, commit, abort, places, set_window, undo_commit, best_order, seek, write}
use Rattle.spec.specs.Messages.{get_file_pointer, read}
use Rattle.text_log.specs.LogLines.{LogEntry, expects, call_in, entry_in, lettered_entry, expectation_in, line_of, fresh_line}
use Rattle.text_log.specs.LogLines.{longest, most_written, most_files, most_ordered}
use Rattle.text_log.specs.Answers.{words_of, answer_text, reply_text, expectation, same_bytes}
use Rattle.text_log.specs.{Statements.{numbers_of, numbers_of_op, bytes_of_call, bytes_of_op, Loggable}, Replays.{shown, SameTurn}}
use Rattle.text_log.specs.Replay.{ReplayState, Printed, silent, answered, compared, entry_turn, line_turn, replaying, Event}
use Rattle.text_log.specs.Replay.{starts, makes, event_turn, logged_op, logged_part, event_line, answer_lines, recorded_lines}
use Rattle.text_log.specs.Replay.{answers_of, events_after, Typed, AllTyped, ReplayedFrom, Replayed}
use Rattle.text_log.proofs.{RoundTrip.{back, fresh-back}, ReadingLaws.entry-within, Cutting.{fresh-cut, order-cut}}
use Rattle.text_log.proofs.{Again.{same_turn, blanked}, Recorder.{all-taken, alike_then, fronted}}

-- ---- an answer's line depends on what the answer shows

taken-again : (n : ℕ) (l : List ℕ) → take n (take n l) ≡ take n l
taken-again zero l = refl
taken-again (suc n) [] = refl
taken-again (suc n) (x ∷ l) = ap (λ (k : List ℕ). x ∷ k) (taken-again n l)

text-shown : (a : Said) (b : List ℕ) → answer_text a (shown a b) ≡ answer_text a b
unfolding answer_text spelled shown
text-shown done_answer b = refl
text-shown (pointer n) b = refl
text-shown (given n) b = ap ok_bytes (taken-again n b)
text-shown (granted n) b = refl
text-shown (pairs n) b = ap (λ (l : List ℕ). ok ++ spaced_texts (words_of l)) (taken-again (4 * n) b)
text-shown (ordered grants gap tried) b = refl
text-shown (refused n) b = refl

pub same_text : (x y : Turn) → SameTurn x y → reply_text x.reply ≡ reply_text y.reply
same_text x y h = sym (text-shown x.reply.answer x.reply.buffer) ∙ ap₂ answer_text h.answer h.shows
    ∙ text-shown y.reply.answer y.reply.buffer

same-answered : (x y : Turn) (k : ReplayState) → SameTurn x y → answered x k ≡ answered y k
same-answered x y k h = unfold answered in ap₂ (λ (m : Machine) (t : List ℕ). record {
  text = t ++ (10 ∷ []);
  after = record { machine = m; answer = t; malformed = k.malformed; differing = k.differing; ended = k.ended };
}) h.after (same_text x y h)

-- ---- the line of an event

front-alike : (c : Call) (m : Machine) → SameTurn (call (logged_part c) m) (call c m)
unfolding logged_part logged_op
front-alike (begin t) m = same_turn _
front-alike (on t (seek d v)) m = same_turn _
front-alike (on t (write d bytes)) m = rw (fronted bytes [] t d m) (same_turn _)
front-alike (on t (get_file_pointer d)) m = same_turn _
front-alike (on t (read d n buffer)) m = same_turn _
front-alike (commit t minute) m = same_turn _
front-alike (abort t) m = same_turn _
front-alike (places t f out) m = same_turn _
front-alike (set_window f start end) m = same_turn _
front-alike undo_commit m = same_turn _
front-alike (best_order ts minute budget) m = rw (order-cut ts minute budget m) (same_turn _)

loggable : (c : Call) → AllBelow past (numbers_of c) → AllBelow 256 (bytes_of_call c) → Loggable (logged_part c)
unfolding logged_part logged_op numbers_of numbers_of_op bytes_of_call bytes_of_op AllBelow
loggable (begin t) h b = record { numbers = h; few = omega arith; bytes = tt; short = omega arith }
loggable (on t (seek d v)) h b = record { numbers = h; few = omega arith; bytes = tt; short = omega arith }
loggable (on t (write d bytes)) h b = record {
  numbers = h;
  few = omega arith;
  bytes = all-taken 256 most_written bytes b;
  short = omega (arith, length-take most_written bytes);
}
loggable (on t (get_file_pointer d)) h b = record { numbers = h; few = omega arith; bytes = tt; short = omega arith }
loggable (on t (read d n buffer)) h b = record { numbers = h; few = omega arith; bytes = tt; short = omega arith }
loggable (commit t minute) h b = record { numbers = h; few = omega arith; bytes = tt; short = omega arith }
loggable (abort t) h b = record { numbers = h; few = omega arith; bytes = tt; short = omega arith }
loggable (places t f out) h b = record { numbers = h; few = omega arith; bytes = tt; short = omega arith }
loggable (set_window f start end) h b = record { numbers = h; few = omega arith; bytes = tt; short = omega arith }
loggable undo_commit h b = record { numbers = h; few = omega arith; bytes = tt; short = omega arith }
loggable (best_order ts minute budget) h b = record {
  numbers = (h.0, (h.1.0, all-taken past most_ordered ts h.1.1));
  few = omega (arith, length-take most_ordered ts);
  bytes = all-taken 256 most_ordered ts b;
  short = omega (arith, length-take most_ordered ts);
}

-- A line while the run goes on.
running : (line : List ℕ) (k : ReplayState) → k.ended ≡ false → line_turn line k ≡ entry_turn line (call_in line) k
running line k go = unfold line_turn in ap (λ (b : Bool). cond b (silent k) (entry_turn line (call_in line) k)) go

-- The line of an event is answered by the event's turn.
line-of-event : (e : Event) (k : ReplayState) → Typed e → k.ended ≡ false → line_turn (event_line e) k
    ≡ answered (event_turn e k.machine) k
unfolding event_line event_turn entry_turn Typed
line-of-event (starts files) k h go = let line = fresh_line (take most_files files) in
    running line k go ∙ ap (λ (x : LogEntry). entry_turn line x k)
    (fresh-back (take most_files files) (omega (arith, length-take most_files files)) (all-taken 256 most_files files h))
    ∙ ap (λ (w : Turn). answered w k) (fresh-cut files k.machine)
line-of-event (makes c) k h go = let line = line_of (logged_part c) in
    running line k go ∙ ap (λ (x : LogEntry). entry_turn line x k) (back (logged_part c) (loggable c h.0 h.1))
    ∙ same-answered _ _ k (alike_then (blanked (logged_part c) k.machine) (front-alike c k.machine))

-- ---- the line of its answer

same-as-itself : (l : List ℕ) → same_bytes l l ≡ true
unfolding same_bytes
same-as-itself [] = refl
same-as-itself (b ∷ l) = rw (eq-eqb b b refl) (same-as-itself l)

expects-line : (text : List ℕ) → length (expectation text) ≤ longest → call_in (expectation text) ≡ expects
expects-line text h = unfold expectation entry_in lettered_entry expectation_in in entry-within (61 ∷ 32 ∷ text) h

agrees : (text : List ℕ) (k : ReplayState) → k.ended ≡ false → k.answer ≡ text → length (expectation text) ≤ longest
    → line_turn (expectation text) k ≡ silent k
unfolding line_turn entry_turn compared expectation
agrees text k go same l = rw (go, expects-line text l, same, same-as-itself text)

-- ---- whole lists

module _ (text : List ℕ) (k : ReplayState) (rest : List (List ℕ)) (go : k.ended ≡ false) (same : k.answer ≡ text) where
  past-answer : (transcript replaying (answer_lines text ++ rest) k ≡ transcript replaying rest k)
      × (state_after replaying (answer_lines text ++ rest) k ≡ state_after replaying rest k)
  unfolding answer_lines
  past-answer = pick (leb (length (expectation text)) longest) refl
    where
      one : length (expectation text) ≤ longest → (transcript replaying (expectation text ∷ rest) k ≡ transcript replaying
          rest k) × (state_after replaying (expectation text ∷ rest) k ≡ state_after replaying rest k)
      one l = unfold transcript state_after silent in (
        ap (λ (p : Printed). p.text ++ transcript replaying rest p.after) (agrees text k go same l),
        ap (λ (p : Printed). state_after replaying rest p.after) (agrees text k go same l),
      )

      pick : (b : Bool) → leb (length (expectation text)) longest ≡ b
          → (transcript replaying (cond b (expectation text ∷ []) [] ++ rest) k ≡ transcript replaying rest k)
          × (state_after replaying (cond b (expectation text ∷ []) [] ++ rest) k ≡ state_after replaying rest k)
      pick true e = one (leb-true (length (expectation text)) longest e)
      pick false e = (refl, refl)

same_none : (k : ReplayState) → ReplayedFrom [] k
unfolding recorded_lines transcript state_after answers_of events_after
same_none k = record { text = refl; machine = refl; differing = refl; malformed = refl }

same_more : (e : Event) (es : List Event) (k : ReplayState) → Typed e → k.ended ≡ false
    → ReplayedFrom es (answered (event_turn e k.machine) k).after → ReplayedFrom (e ∷ es) k
unfolding recorded_lines transcript state_after answers_of events_after answered
same_more e es k h go ih = let w = event_turn e k.machine in let text = reply_text w.reply in
    let after = (answered w k).after in let rest = recorded_lines es w.after in let first = line-of-event e k h go in
    let past = past-answer text after rest go refl in
    let state : state_after replaying (event_line e ∷ (answer_lines text ++ rest)) k ≡ state_after replaying rest after =
    ap (λ (p : Printed). state_after replaying (answer_lines text ++ rest) p.after) first ∙ past.1 in record {
      text = ap (λ (p : Printed). p.text ++ transcript replaying (answer_lines text ++ rest) p.after) first
          ∙ ap (λ (l : List ℕ). (text ++ (10 ∷ [])) ++ l) (past.0 ∙ ih.text);
      machine = ap (λ (x : ReplayState). x.machine) state ∙ ih.machine;
      differing = ap (λ (x : ReplayState). x.differing) state ∙ ih.differing;
      malformed = ap (λ (x : ReplayState). x.malformed) state ∙ ih.malformed;
    }

same-all : (es : List Event) (k : ReplayState) → AllTyped es → k.ended ≡ false → ReplayedFrom es k
unfolding AllTyped answered
same-all [] k h go = same_none k
same-all (e ∷ es) k h go = same_more e es k h.0 go (same-all es (answered (event_turn e k.machine) k).after h.1 go)

pub replayed : Replayed
replayed = same-all
