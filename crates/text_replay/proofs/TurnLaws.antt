-- What the program does with a line is what the definition of a replay says. Assumes nothing.
use mathlib.Core.{Bool.{Bool, true, false, cond, not}, List.{List, [], ◌∷◌, ◌++◌, append-nil}}
use mathlib.Core.Path.{◌≡◌, refl, sym, ap, ap₂, ◌∙◌, subst}
use mathlib.Core.Logic.{◌⊎◌, inl, inr}
use lib.{Dec.leb, ListN.{length, take, drop, length-drop, drop_of_length-le}, Seq.take_all}
use borrow.Author.Tests.{eq-eqb, ne_eqb, leb-true, leb-false}
use native.Mathlib.Omega.{arith}
use Prim.Native.Nat.{ℕ, ◌+◌, ◌-◌, ◌≤◌, min}
use Rattle.std.specs.Prelude.{is_some}
use Rattle.buffers.{specs.Parts.cut, proofs.PartLaws.{cut-pasted, cut-pasted-before}}
use Rattle.text_numerals.{specs.Put.Put, proofs.PutLaws.{then, put-preserved, put-text}}
use Rattle.state.specs.{Outcomes.{refused, said}, Outcomes.Outcome}
use Rattle.requests.specs.declared.Request.{Request}
use Rattle.spec.specs.{Machine.Machine, Calls.Turn, Messages.says}
use Rattle.text_log.specs.{Answers.{answer_text, reply_text}, LogLines.{LogEntry, another, call_in}, Reading.log_entry_of}
use Rattle.text_log.specs.Replay.{ReplayState, Printed, silent, answered, malformed_line, compared, versioned, entry_turn, line_turn}
use Rattle.text_log.specs.declared.parsing.ParsedEntry.{ParsedEntry}
use Rattle.text_log.specs.declared.parsing.ParsedEntry.TheVariants.{Another, Comment, Expects, Version, Fresh, Asks, Order}
use Rattle.text_replay.specs.{Counting.CountsDifference, Performing.{turn_of, Replies}}
use Rattle.text_replay.specs.Turns.{replay_state_in, Took, Compared, Versioned, Noted}
use Rattle.text_replay.specs.declared.answering.ReplayProgress.{ReplayProgress}

-- ---- texts

module _ (out mid after : List ℕ) (from end next : ℕ) (text : List ℕ) (fits : from + length text + 1 ≤ length out)
    (a : Put out from text mid end) (b : Put mid end (10 ∷ []) after next) where
  line-waits : take next after ≡ take from out ++ (text ++ (10 ∷ []))
  line-waits = put-text out from (text ++ (10 ∷ [])) after next (omega arith) (then text (10 ∷ []) fits a b)

  answer-stands : cut after from (end - from) ≡ text
  answer-stands = let e : end - from ≡ length text = omega (arith, a.end) in let l = put-preserved text (omega arith) a in
      ap₂ (λ (l : List ℕ) (n : ℕ). cut l from n) b.bytes e
      ∙ cut-pasted-before mid end (10 ∷ []) (omega (arith, a.end, l)) from (length text) (omega (arith, a.end))
      ∙ ap (λ (l : List ℕ). cut l from (length text)) a.bytes ∙ cut-pasted out from text (omega arith)

-- ---- what is kept

abbrev keeping : Machine → List ℕ → ℕ → ℕ → Bool → ReplayState
keeping m answer malformed differing ended =
    record { machine = m; answer = answer; malformed = malformed; differing = differing; ended = ended }

same-preserved : (m : Machine) (a b : List ℕ) (n k i j : ℕ) (s t : Bool) → a ≡ b → n ≡ k → i ≡ j → s ≡ t
    → keeping m a n i s ≡ keeping m b k j t
same-preserved m a b n k i j s t p q r u =
    ap₂ (λ (x : List ℕ) (y : ℕ). keeping m x y i s) p q ∙ ap₂ (λ (x : ℕ) (y : Bool). keeping m b k x y) r u

-- ---- an answer is printed

pub answered-took : (w : Turn) (p : ReplayProgress) (m m' : Machine) (o : Outcome) (reader buffer out mid after : List ℕ)
    (n end next : ℕ) → p.waiting + length (answer_text (said o) buffer) + 1 ≤ length out → buffer ≡ cut reader 0 n
    → Replies w o m' (take n reader) → Put out p.waiting (answer_text (said o) buffer) mid end
    → Put mid end (10 ∷ []) after next → Took (answered w (replay_state_in p m out)) (take p.waiting out)
    (keeping m' (cut after p.waiting (end - p.waiting)) p.malformed.count p.differing.count (is_some p.ended)) (take next after)
unfolding answered cut
answered-took w p m m' o reader buffer out mid after n end next fits is h a b = let text = answer_text (said o) buffer in
    let same : text ≡ reply_text w.reply = ap (answer_text (said o)) is ∙ h.text in record {
      says = line-waits out mid after p.waiting end next text fits a b
          ∙ ap (λ (t : List ℕ). take p.waiting out ++ (t ++ (10 ∷ []))) same;
      keeps = ap₂ (λ (x : Machine) (t : List ℕ). keeping x t p.malformed.count p.differing.count (is_some p.ended)) h.machine
          (answer-stands out mid after p.waiting end next text fits a b ∙ same);
    }

-- ---- an answer of the log is compared

pub behind-two : (l : List ℕ) (k : ℕ) → k ≡ min (length l) 2 → take (length l - k) (drop k l) ≡ drop 2 l
behind-two l k is = take_all (length l - k) (drop k l) (omega (arith, length-drop k l)) ∙ pick (leb 2 (length l)) refl
  where
    pick : (b : Bool) → leb 2 (length l) ≡ b → drop k l ≡ drop 2 l
    pick true e = let h = leb-true 2 (length l) e in let at : k ≡ 2 = omega arith in ap (λ (i : ℕ). drop i l) at
    pick false e = let h = leb-false 2 (length l) e in let past : length l ≤ k = omega arith in
        let short : length l ≤ 2 = omega arith in drop_of_length-le l past ∙ sym (drop_of_length-le l short)

pub counted-here : (p r : ReplayProgress) (x text y answer : List ℕ) → x ≡ text → y ≡ answer → CountsDifference p r x y
    → CountsDifference p r text answer
counted-here p r x text y answer e f h =
    subst (λ (t : List ℕ). CountsDifference p r t answer) e (subst (λ (a : List ℕ). CountsDifference p r x a) f h)

pub counted-compared : (p r : ReplayProgress) (text out : List ℕ)
    → CountsDifference p r text (cut out p.from (p.end - p.from)) → Compared p r text out
counted-compared p r text out h = unfold compared in record {
  waiting = h.waiting;
  keeps = λ m. same-preserved m _ _ _ _ _ _ _ _ (ap₂ (λ (i k : ℕ). cut out i (k - i)) h.starts h.ends) h.malformed
      h.differing h.ended;
}

-- ---- a version

pub known-version : (p : ReplayProgress) (v : ℕ) → is_some p.ended ≡ false → v ≡ 1 → Versioned p p v
known-version p v go e = unfold versioned in record {
  waiting = refl;
  keeps = λ m out. same-preserved m _ _ _ _ _ _ _ _ refl refl refl (go ∙ sym (ap not (eq-eqb v 1 e)));
}

pub other-version : (p r : ReplayProgress) (v : ℕ) → (v ≡ 1 → ⊥) → r.waiting ≡ p.waiting → r.from ≡ p.from
    → r.end ≡ p.end → r.malformed.count ≡ p.malformed.count → r.differing.count ≡ p.differing.count → is_some r.ended ≡ true
    → Versioned p r v
other-version p r v e w f n i d g = unfold versioned in record {
  waiting = w;
  keeps = λ m out. same-preserved m _ _ _ _ _ _ _ _ (ap₂ (λ (i k : ℕ). cut out i (k - i)) f n) i d (g
      ∙ sym (ap not (ne_eqb v 1 e)));
}

-- ---- a line

counted-took : (p q : ReplayProgress) (m : Machine) (out : List ℕ) (k : ReplayState) (waiting : List ℕ) → Noted p q
    → Took (answered (turn_of another m) (replay_state_in q m out)) (take q.waiting out) k waiting
    → Took (malformed_line (replay_state_in p m out)) (take p.waiting out) k waiting
unfolding turn_of answered malformed_line
counted-took p q m out k waiting n t = let text = reply_text (says (refused 17)) ++ (10 ∷ []) in record {
  says = t.says ∙ ap (λ (i : ℕ). take i out ++ text) n.waiting;
  keeps = t.keeps ∙ same-preserved m _ _ _ _ _ _ _ _ refl n.malformed n.differing n.ended;
}

module _ (line bytes : List ℕ) (l : ParsedEntry) (p : ReplayProgress) (m : Machine) (out : List ℕ) where
  pub comment-took : l ≡ Comment → Took (entry_turn line (log_entry_of l bytes) (replay_state_in p m out))
      (take p.waiting out) (replay_state_in p m out) (take p.waiting out)
  unfolding entry_turn log_entry_of silent
  comment-took e = rw e (record { says = sym (append-nil (take p.waiting out)); keeps = refl })

  module _ (r : ReplayProgress) where
    pub expects-took : l ≡ Expects → Compared p r (drop 2 line) out → Took (entry_turn line (log_entry_of l bytes)
        (replay_state_in p m out)) (take p.waiting out) (replay_state_in r m out) (take r.waiting out)
    expects-took e h = unfold entry_turn log_entry_of silent in rw e (record {
      says = ap (λ (n : ℕ). take n out) h.waiting ∙ sym (append-nil (take p.waiting out));
      keeps = h.keeps m;
    })

    pub version-took : (v : ℕ) → l ≡ Version v → Versioned p r v → Took (entry_turn line (log_entry_of l bytes)
        (replay_state_in p m out)) (take p.waiting out) (replay_state_in r m out) (take r.waiting out)
    version-took v e h = unfold entry_turn log_entry_of silent in rw e (record {
      says = ap (λ (n : ℕ). take n out) h.waiting ∙ sym (append-nil (take p.waiting out));
      keeps = h.keeps m out;
    })

  module _ (k : ReplayState) (waiting : List ℕ) where
    -- 17, and it is counted
    pub another-took : (q : ReplayProgress) → l ≡ Another → Noted p q
        → Took (answered (turn_of (log_entry_of l bytes) m) (replay_state_in q m out)) (take q.waiting out) k waiting
        → Took (entry_turn line (log_entry_of l bytes) (replay_state_in p m out)) (take p.waiting out) k waiting
    unfolding entry_turn log_entry_of
    another-took q e n t = rw e (counted-took p q m out k waiting n (subst (λ (x : ParsedEntry). Took
        (answered (turn_of (log_entry_of x bytes) m) (replay_state_in q m out)) (take q.waiting out) k waiting) e t))

    abbrev Answered : Type 0
    Answered = Took (answered (turn_of (log_entry_of l bytes) m) (replay_state_in p m out)) (take p.waiting out) k waiting

    abbrev Taken : Type 0
    Taken = Took (entry_turn line (log_entry_of l bytes) (replay_state_in p m out)) (take p.waiting out) k waiting

    -- a call
    pub calls-took : ((n : ℕ) × (l ≡ Fresh n)) ⊎ (((q : Request) × (n : ℕ) × (room : ℕ) × (l ≡ Asks q n room))
        ⊎ ((minute : ℕ) × (budget : ℕ) × (n : ℕ) × (l ≡ Order minute budget n))) → Answered → Taken
    unfolding entry_turn log_entry_of turn_of
    calls-took (inl (n, e)) t = rw e (rw e at t)
    calls-took (inr (inl (q, n, room, e))) t = rw e (rw e at t)
    calls-took (inr (inr (minute, budget, n, e))) t = rw e (rw e at t)

    -- a line while the run goes on
    pub line-took : is_some p.ended ≡ false → log_entry_of l bytes ≡ call_in line → Taken
        → Took (line_turn line (replay_state_in p m out)) (take p.waiting out) k waiting
    unfolding line_turn
    line-took go means t = subst (λ (w : Printed). Took w (take p.waiting out) k waiting) (sym (ap (λ (b : Bool). cond b
        (silent (replay_state_in p m out)) (entry_turn line (call_in line) (replay_state_in p m out))) go)) (subst
        (λ (x : LogEntry). Took (entry_turn line x (replay_state_in p m out)) (take p.waiting out) k waiting) means t)

-- a line after another version
pub ended-took : (line : List ℕ) (p : ReplayProgress) (m : Machine) (out : List ℕ) → is_some p.ended ≡ true
    → Took (line_turn line (replay_state_in p m out)) (take p.waiting out) (replay_state_in p m out) (take p.waiting out)
unfolding line_turn silent
ended-took line p m out e = subst (λ (w : Printed). Took w (take p.waiting out) (replay_state_in p m out)
    (take p.waiting out)) (sym (ap (λ (b : Bool). cond b (silent (replay_state_in p m out)) (entry_turn line (call_in line)
    (replay_state_in p m out))) e)) (record { says = sym (append-nil (take p.waiting out)); keeps = refl })
