-- What the steps of the code come to: each law takes what stands before a step to what stands after it.
use Rattle.state.specs.declared.outcomes.{Answer.{Answer, TheVariants.{Done, Offset, Given, Granted, Pairs, Ordered}}, Refusal.TheVariants.{BufferLength, RecordRange, NoSuchTransaction, NotOpen, AlreadyOpen, NoSuchTarget}}
use Rattle.state.specs.declared.outcomes.Refusal.TheVariants.{ReaderTooShort, SeekPastEnd, WritePastEnd, RecordsFull, LogFull}
use Rattle.state.specs.declared.outcomes.Refusal.TheVariants.{AppendPastEnd, Stale, NoSuchFile, NoPlaceYet, ListTooLong, BadLine}
use Rattle.state.specs.declared.outcomes.Refusal.TheVariants.{StaleReader, NotAtRest, ScriptRange, FileClosed, NoSuchMinute}
use Rattle.state.specs.declared.outcomes.Refusal.TheVariants.{StillOpen, NoGrant, NotReady, BadList, BadBudget}
use Rattle.std.specs.declared.result.Result.TheVariants.{Ok, Err}
use mathlib.Core.{Bool.{Bool, true, false, cond, not, ◌&&◌}, List.{List, [], ◌∷◌, ◌++◌}}
use mathlib.Core.Path.{◌≡◌, refl, sym, ap, ◌∙◌, subst, subst⁻¹}
use borrow.Author.Tests.{eqb-true, eqb-false, ne_eqb, not-true}
use lib.{Dec.{eqb, ltb}, ListN.{set, length-set, replicate, get_or-replicate}, Seq.{get_or-set_same, get_or-set_other}}
use native.Mathlib.{Numerals.add-one, Omega.arith}
use Prim.Native.Nat.{ℕ, zero, suc, ◌+◌, ◌-◌, ◌≤◌, ◌<◌}
use Rattle.limits.specs.Limits.{script_count}
use Rattle.state.specs.{declared.outcomes.Refusal.Refusal, Outcomes.{Outcome, number, said}}
use Rattle.admission.specs.{Admission.{Gate, gate_number}, FirstRefusal.below}
use Rattle.admission.proofs.Laws.{number-suc, below_at}
use Rattle.requests.specs.{declared.Request.Request, Requests.call_of, Performing.{Unanswered, Performs}}
use Rattle.spec.specs.{Messages.{refusal_of, Call, begin, on, commit, abort, Reply, buffer_of, buffer_of_call, after_all}, Transactions.put}
use Rattle.spec.{specs.{Machine.Machine, Calls.{call, calls_after}, Promises.Meets}, proofs.Abstract.Rerun.put_same}
use Rattle.spec.proofs.Abstract.Lists.{put_other}
use Rattle.spec_dispatch.specs.Rounds.{ScriptCall, seeks, writes, asks, reads, Scripts, passed, goes_on, Work, nothing_done}
use Rattle.spec_dispatch.specs.Rounds.{with_end, with_reader, with_commit, with_call, refusal_in, failing, or_failing, decided, op_of}
use Rattle.spec_dispatch.specs.Rounds.{reader_after, begins, perform, turn, turns, passes, commit_one, commit_all, round, rounds}
use Rattle.spec_dispatch.{specs.Dispatch.store_reply, proofs.Counting.rounds-idle}
use Rattle.dispatcher.specs.{declared.ends.{End.{End, TheVariants.Failed}, Ended.Ended}, Types.{end_of_script, no_end, end_at}}
use Rattle.dispatcher.specs.Steps.{request_of, bytes_of_script_call, Makes, WorkStands}

-- One call more at the end of a list.
calls-more : (cs : List Call) (c : Call) (m : Machine) → calls_after (cs ++ (c ∷ [])) m ≡ (call c (calls_after cs m)).after
unfolding after_all
calls-more [] c m = refl
calls-more (d ∷ cs) c m = calls-more cs c (call d m).after

-- Work that is equal stands as well.
pub stands-as : (m₀ : Machine) (v w : Work) (m : Machine) (buffer : List ℕ) (es : List Ended) (n : ℕ) → v ≡ w
    → WorkStands m₀ w m buffer es n → WorkStands m₀ v m buffer es n
stands-as m₀ v w m buffer es n e s = subst⁻¹ (λ (u : Work). WorkStands m₀ u m buffer es n) e s

module _ (m₀ : Machine) (w : Work) (m : Machine) (buffer : List ℕ) (es : List Ended) (n : ℕ)
    (s : WorkStands m₀ w m buffer es n) where
  -- What is replied to the next call.
  pub replied : (c : Call) → (call c m).reply ≡ store_reply m₀ c w.made
  replied c = ap (λ (a : Machine). (call c a).reply) s.machine

  -- A call is made.
  pub stands-call : (c : Call) (m' : Machine) → m' ≡ (call c m).after → WorkStands m₀ (with_call c w) m' buffer es n
  stands-call c m' e = record {
    machine = e ∙ ap (λ (a : Machine). (call c a).after) s.machine ∙ sym (calls-more w.made c m₀);
    reader = s.reader;
    eight = s.eight;
    ends = s.ends;
    commits = s.commits;
  }

  -- Script k is over.
  pub stands-end : (k : ℕ) (e : End) → k < script_count → WorkStands m₀ (with_end k (end_of_script e) w) m buffer
      (set es k (record { end = e })) n
  stands-end k e l = record {
    machine = s.machine;
    reader = s.reader;
    eight = length-set es k (record { end = e }) ∙ s.eight;
    ends = λ j h. pick j h (eqb j k) refl;
    commits = s.commits;
  }
    where
      after : List Ended
      after = set es k (record { end = e })

      pick : (j : ℕ) → j < script_count → (b : Bool) → eqb j k ≡ b → end_at after j ≡ put k (end_of_script e) w.ends j
      pick j h true q = let f = eqb-true j k q in
          ap (λ (i : ℕ). end_at after i) f ∙ ap (λ (a : Ended). end_of_script a.end)
          (get_or-set_same es k (record { end = e }) no_end (omega (arith, s.eight)))
          ∙ sym (ap (put k (end_of_script e) w.ends) f ∙ put_same k (end_of_script e) w.ends)
      pick j h false q = let f = eqb-false j k q in
          ap (λ (a : Ended). end_of_script a.end) (get_or-set_other es k j (record { end = e }) no_end f) ∙ s.ends j h
          ∙ sym (put_other k (end_of_script e) w.ends j f)

  -- Whether script k goes on, as the code has tested it.
  pub goes-as : (k : ℕ) → k < script_count → (r b : Bool) → r ≡ goes_on (end_at es k) → r ≡ b → goes_on (w.ends k) ≡ b
  goes-as k l r b e h = sym (ap goes_on (s.ends k l)) ∙ sym e ∙ h

-- Script k fails, and is aborted.
pub stands-failed : (m₀ : Machine) (w : Work) (m : Machine) (buffer : List ℕ) (es : List Ended) (n : ℕ) → WorkStands m₀ w m
    buffer es n → (k : ℕ) (r : Refusal) → k < script_count → (m' : Machine) → m' ≡ (call (abort k) m).after
    → WorkStands m₀ (failing k (number r) w) m' buffer (set es k (record { end = Failed r })) n
unfolding failing end_of_script
stands-failed m₀ w m buffer es n s k r l m' e = stands-call m₀ (with_end k (end_of_script (Failed r)) w) m buffer
    (set es k (record { end = Failed r })) n (stands-end m₀ w m buffer es n s k (Failed r) l) (abort k) m' e

-- ---- what a refusal comes to

-- An answer is no refusal.
pub accepted : (a : Answer) → 0 ≡ refusal_in (said (Ok a))
unfolding said refusal_in refusal_of
accepted Done = refl
accepted (Offset n) = refl
accepted (Given n) = refl
accepted (Granted n) = refl
accepted (Pairs n) = refl
accepted (Ordered a b n) = refl

module _ (k : ℕ) (w : Work) (g : Gate) where
  pub answered-passes : g ≡ Ok tt → or_failing k (gate_number g) w ≡ w
  answered-passes e = unfold or_failing gate_number in ap (λ (a : Gate). or_failing k (gate_number a) w) e

  pub answered-fails : (r : Refusal) → g ≡ Err r → or_failing k (gate_number g) w ≡ failing k (number r) w
  unfolding or_failing gate_number
  answered-fails r e = ap (λ (a : Gate). or_failing k (gate_number a) w) e ∙ pick (number r) (number-suc r).0 (number-suc r).1
    where
      pick : (n j : ℕ) → n ≡ suc j → or_failing k n w ≡ failing k n w
      pick zero j q = absurd (omega (arith, q))
      pick (suc n) j q = refl

-- 13 is Stale's number alone.
pub stale-is : (r : Refusal) → number r ≡ 13 → r ≡ Stale
stale-is BufferLength e = absurd (omega (arith, e))
stale-is RecordRange e = absurd (omega (arith, e))
stale-is NoSuchTransaction e = absurd (omega (arith, e))
stale-is NotOpen e = absurd (omega (arith, e))
stale-is AlreadyOpen e = absurd (omega (arith, e))
stale-is NoSuchTarget e = absurd (omega (arith, e))
stale-is ReaderTooShort e = absurd (omega (arith, e))
stale-is SeekPastEnd e = absurd (omega (arith, e))
stale-is WritePastEnd e = absurd (omega (arith, e))
stale-is RecordsFull e = absurd (omega (arith, e))
stale-is LogFull e = absurd (omega (arith, e))
stale-is AppendPastEnd e = absurd (omega (arith, e))
stale-is Stale e = refl
stale-is NoSuchFile e = absurd (omega (arith, e))
stale-is NoPlaceYet e = absurd (omega (arith, e))
stale-is ListTooLong e = absurd (omega (arith, e))
stale-is BadLine e = absurd (omega (arith, e))
stale-is StaleReader e = absurd (omega (arith, e))
stale-is NotAtRest e = absurd (omega (arith, e))
stale-is ScriptRange e = absurd (omega (arith, e))
stale-is FileClosed e = absurd (omega (arith, e))
stale-is NoSuchMinute e = absurd (omega (arith, e))
stale-is StillOpen e = absurd (omega (arith, e))
stale-is NoGrant e = absurd (omega (arith, e))
stale-is NotReady e = absurd (omega (arith, e))
stale-is BadList e = absurd (omega (arith, e))
stale-is BadBudget e = absurd (omega (arith, e))

module _ (k : ℕ) (w : Work) (o : Outcome) where
  pub decided-passes : (a : Answer) → o ≡ Ok a → decided k (refusal_in (said o)) w ≡ with_end k passed w
  decided-passes a e = unfold decided in ap (λ (p : Outcome). decided k (refusal_in (said p)) w) e
      ∙ ap (λ (n : ℕ). decided k n w) (sym (accepted a))

  pub decided-stale : o ≡ Err Stale → decided k (refusal_in (said o)) w ≡ w
  unfolding decided said refusal_in refusal_of
  decided-stale e = ap (λ (p : Outcome). decided k (refusal_in (said p)) w) e

  pub decided-fails : (r : Refusal) → o ≡ Err r → (number r ≡ 13 → ⊥) → decided k (refusal_in (said o)) w ≡ failing k (number r) w
  unfolding decided said refusal_in refusal_of
  decided-fails r e h = ap (λ (p : Outcome). decided k (refusal_in (said p)) w) e
      ∙ pick (number r) (number-suc r).0 (number-suc r).1 h
    where
      pick : (n j : ℕ) → n ≡ suc j → (n ≡ 13 → ⊥) → decided k n w ≡ failing k n w
      pick zero j q f = absurd (omega (arith, q))
      pick (suc n) j q f = ap (λ (b : Bool). cond b w (failing k (suc n) w)) (ne_eqb (suc n) 13 f)

-- ---- one script's step

-- A step under a test.
pub chosen-step : (b : Bool) (u v : Work) → b ≡ true → cond b u v ≡ u
chosen-step b u v e = ap (λ (a : Bool). cond a u v) e

pub passed_over : (b : Bool) (u v : Work) → b ≡ false → cond b u v ≡ v
passed_over b u v e = ap (λ (a : Bool). cond a u v) e

-- A call of a script, as its request was performed.
pub makes-of : (k : ℕ) (l : ScriptCall) (bytes : List ℕ) (m : Machine) (buffer : List ℕ) (g : Gate) (m' : Machine)
    (buffer' : List ℕ) → (q : Request) (part : List ℕ) (o : Outcome) → q ≡ request_of k l → part ≡ bytes_of_script_call l bytes
    → gate_number g ≡ refusal_in (said o) → Performs q part buffer m o m' buffer' → Makes k l bytes m buffer g m' buffer'
makes-of k l bytes m buffer g m' buffer' q part o e f h p = pick l (subst (λ (b : List ℕ). Performs (request_of k l) b buffer
    m o m' buffer') f (subst (λ (a : Request). Performs a part buffer m o m' buffer') e p))
  where
    pick : (l : ScriptCall) → Performs (request_of k l) (bytes_of_script_call l bytes) buffer m o m' buffer'
        → Makes k l bytes m buffer g m' buffer'
    pick (seeks d v) p = unfold request_of bytes_of_script_call call_of op_of reader_after Unanswered in
        record { refusal = h ∙ ap refusal_in p.meets.outcome; machine = p.meets.machine; reader = p.unanswered }
    pick (writes d start n) p = unfold request_of bytes_of_script_call call_of op_of reader_after Unanswered in
        record { refusal = h ∙ ap refusal_in p.meets.outcome; machine = p.meets.machine; reader = p.unanswered }
    pick (asks d) p = unfold request_of bytes_of_script_call call_of op_of reader_after Unanswered in
        record { refusal = h ∙ ap refusal_in p.meets.outcome; machine = p.meets.machine; reader = p.unanswered }
    pick (reads d n) p = unfold request_of bytes_of_script_call call_of op_of reader_after buffer_of_call buffer_of in
        record { refusal = h ∙ ap refusal_in p.meets.outcome; machine = p.meets.machine; reader = p.meets.reader }

-- Whether call i of script k is due, as the code has tested it.
pub turn-as : (bytes : List ℕ) (minute : ℕ) (x : Scripts) (i k : ℕ) (m₀ : Machine) (w : Work) (due : Bool)
    → due ≡ goes_on (w.ends k) && ltb i (x.script k).count
    → turn (store_reply m₀) bytes minute x i k w ≡ cond due (perform (store_reply m₀) bytes minute x k ((x.script k).call i) w) w
turn-as bytes minute x i k m₀ w due e = unfold turn in
    ap (λ (b : Bool). cond b (perform (store_reply m₀) bytes minute x k ((x.script k).call i) w) w) (sym e)

module _ (bytes : List ℕ) (minute : ℕ) (x : Scripts) (k : ℕ) (line : ScriptCall) (m₀ : Machine) (w : Work) (m : Machine)
    (buffer : List ℕ) (es : List Ended) (n : ℕ) (s : WorkStands m₀ w m buffer es n) (g : Gate) (m₁ : Machine)
    (buffer₁ : List ℕ) (h : Makes k line bytes m buffer g m₁ buffer₁) where
  abbrev made : Call
  made = on k (op_of bytes w.reader line)

  -- The call is made, and what was read stands in the reader's buffer.
  abbrev after : Work
  after = with_reader (reader_after line (store_reply m₀ made w.made) w.reader) (with_call made w)

  after-stands : WorkStands m₀ after m₁ buffer₁ es n
  after-stands = let t = stands-call m₀ w m buffer es n s made m₁ (h.machine
      ∙ ap (λ (b : List ℕ). (call (on k (op_of bytes b line)) m).after) s.reader) in record {
        machine = t.machine;
        reader = h.reader ∙ ap (λ (b : List ℕ). reader_after line (call (on k (op_of bytes b line)) m).reply b) s.reader
            ∙ ap (λ (r : Reply). reader_after line r w.reader) (replied m₀ w m buffer es n s made);
        eight = t.eight;
        ends = t.ends;
        commits = t.commits;
      }

  performed : perform (store_reply m₀) bytes minute x k line w ≡ or_failing k (gate_number g) after
  performed = unfold perform in
      ap (λ (a : ℕ). or_failing k a after) (sym (h.refusal ∙ ap (λ (b : List ℕ). refusal_in (call (on k (op_of bytes b line))
      m).reply.answer) s.reader ∙ ap (λ (r : Reply). refusal_in r.answer) (replied m₀ w m buffer es n s made)))

  pub turn-done : (m₂ : Machine) (es₂ : List Ended)
      → ((v : Work) → WorkStands m₀ v m₁ buffer₁ es n → WorkStands m₀ (or_failing k (gate_number g) v) m₂ buffer₁ es₂ n)
      → WorkStands m₀ (perform (store_reply m₀) bytes minute x k line w) m₂ buffer₁ es₂ n
  turn-done m₂ es₂ f = stands-as m₀ (perform (store_reply m₀) bytes minute x k line w)
      (or_failing k (gate_number g) after) m₂ buffer₁ es₂ n performed (f after after-stands)

module _ (bytes : List ℕ) (minute : ℕ) (x : Scripts) (k : ℕ) (m₀ : Machine) (w : Work) where
  pub commit-over : goes_on (w.ends k) ≡ false → commit_one (store_reply m₀) bytes minute x k w ≡ w
  commit-over e = unfold commit_one in passed_over (goes_on (w.ends k)) _ w e

  module _ (m : Machine) (buffer : List ℕ) (es : List Ended) (n : ℕ) (s : WorkStands m₀ w m buffer es n) (o : Outcome)
      (m₁ : Machine) (h : Meets (call (commit k minute) m) o m₁ []) where
    abbrev counted : Work
    counted = with_commit (with_call (commit k minute) w)

    counted-stands : WorkStands m₀ counted m₁ buffer es (n + 1)
    counted-stands = let t = stands-call m₀ w m buffer es n s (commit k minute) m₁ h.machine in record {
      machine = t.machine;
      reader = t.reader;
      eight = t.eight;
      ends = t.ends;
      commits = ap (λ (a : ℕ). a + 1) s.commits;
    }

    committed : goes_on (w.ends k) ≡ true → commit_one (store_reply m₀) bytes minute x k w ≡ decided k (refusal_in (said o)) counted
    unfolding commit_one
    committed e = chosen-step (goes_on (w.ends k)) _ w e ∙ ap (λ (a : ℕ). decided k a counted) (sym (ap refusal_in
        h.outcome ∙ ap (λ (a : Reply). refusal_in a.answer) (replied m₀ w m buffer es n s (commit k minute))))

    pub commit-done : goes_on (w.ends k) ≡ true → (m₂ : Machine) (es₂ : List Ended)
        → ((v : Work) → WorkStands m₀ v m₁ buffer es (n + 1) → WorkStands m₀ (decided k (refusal_in (said o)) v) m₂ buffer es₂ (n + 1))
        → WorkStands m₀ (commit_one (store_reply m₀) bytes minute x k w) m₂ buffer es₂ (n + 1)
    commit-done e m₂ es₂ f = stands-as m₀ (commit_one (store_reply m₀) bytes minute x k w) (decided k (refusal_in (said o)) counted)
        m₂ buffer es₂ (n + 1) (committed e) (f counted counted-stands)

-- ---- loops: one more turn of each

module _ (reply_to : Call → List Call → Reply) (bytes : List ℕ) (minute : ℕ) (x : Scripts) where
  pub begins-again : (k : ℕ) (w : Work) → begins reply_to bytes minute x (k + 1) w ≡ cond (goes_on ((begins reply_to bytes
      minute x k w).ends k)) (with_call (begin k) (begins reply_to bytes minute x k w)) (begins reply_to bytes minute x k w)
  begins-again k w = unfold begins in rw add-one

  pub turns-again : (i k : ℕ) (w : Work) → turns reply_to bytes minute x i (k + 1) w
      ≡ turn reply_to bytes minute x i k (turns reply_to bytes minute x i k w)
  turns-again i k w = unfold turns in rw add-one

  pub passes-again : (i : ℕ) (w : Work)
      → passes reply_to bytes minute x (i + 1) w ≡ turns reply_to bytes minute x i x.count (passes reply_to bytes minute x i w)
  passes-again i w = unfold passes in rw add-one

  pub commits-again : (k : ℕ) (w : Work)
      → commit_all reply_to bytes minute x (k + 1) w ≡ commit_one reply_to bytes minute x k (commit_all reply_to bytes minute x k w)
  commits-again k w = unfold commit_all in rw add-one

  pub rounds-again : (j : ℕ) (w : Work) → rounds reply_to bytes minute x (j + 1) w
      ≡ round reply_to bytes minute x (rounds reply_to bytes minute x j w)
  rounds-again j w = unfold rounds in rw add-one

-- Where every script is over after j rounds, all rounds are made.
pub rounds-stopped : (m₀ : Machine) (bytes : List ℕ) (minute : ℕ) (x : Scripts) (j : ℕ) (w : Work) (m : Machine)
    (buffer : List ℕ) (es : List Ended) (n : ℕ) → WorkStands m₀ (rounds (store_reply m₀) bytes minute x j w) m buffer es n
    → x.count ≤ script_count → j ≤ x.count → below (λ k. not (goes_on (end_at es k))) x.count ≡ true
    → WorkStands m₀ (rounds (store_reply m₀) bytes minute x x.count w) m buffer es n
rounds-stopped m₀ bytes minute x j w m buffer es n s few l over = let e : x.count ≡ (x.count - j) + j = omega arith in
    stands-as m₀ _ _ m buffer es n (ap (λ (i : ℕ). rounds (store_reply m₀) bytes minute x i w) e
    ∙ rounds-idle (store_reply m₀) bytes minute x j w (λ k h. sym (ap goes_on (s.ends k (omega arith)))
    ∙ not-true _ (below_at (λ i. not (goes_on (end_at es i))) x.count k over h)) (x.count - j)) s

-- Nothing is done yet.
pub nothing-stands : (m : Machine) (buffer : List ℕ) → WorkStands m (nothing_done buffer) m buffer (replicate script_count no_end) 0
nothing-stands m buffer = unfold end_of_script after_all in record {
  machine = refl;
  reader = refl;
  eight = refl;
  ends = λ k l. ap (λ (a : Ended). end_of_script a.end) (get_or-replicate 8 k no_end no_end l);
  commits = refl;
}
