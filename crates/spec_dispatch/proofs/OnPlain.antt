-- The laws of rounds on the reference model: which calls each open transaction has had, and whose grants there were.
use mathlib.Core.{Bool.{Bool, true, false, cond, true≢false}, List.{List, [], ◌∷◌, ◌++◌, map, map-append}}
use mathlib.Core.{Logic.{◌⊎◌, inl, inr, ⊎_elim}, Path.{◌≡◌, refl, sym, ap, ap₂, ◌∙◌, subst, subst⁻¹}}
use borrow.Author.Tests.{le-leb, eqb-true, eqb-false, ne_eqb, eq-eqb}
use lib.{Dec.{leb, eqb}, ListN.replicate}
use native.Mathlib.Omega.{arith}
use Prim.Native.Nat.{ℕ, zero, suc, ◌+◌, ◌≤◌, ◌<◌, min}
use Rattle.limits.specs.Limits.{last_transaction, script_count, last_script, script_calls}
use Rattle.buffers.{specs.Parts.tabulate, proofs.PartLaws.le-or-lt}
use Rattle.windows.specs.Windows.{fresh_windows}
use Rattle.state.specs.Outcomes.{Said, done_answer, pointer, given, granted, pairs, ordered, refused}
use Rattle.spec.specs.Transactions.{put}
use Rattle.spec.specs.Messages.{Op, buffer_of, Call, begin, on, commit, abort, Reply, is_grant, after_all, refusal_of, answer_with}
use Rattle.spec.specs.{Messages.refuse_turn, Steps.{Stepped, refuse, accept}, Sightings.Entry}
use Rattle.spec.specs.Plain.{Accepted, Running, Slot, closed, running, Plain, plain_with_windows, is_stale, PlainTurn, with_slot}
use Rattle.spec.specs.Plain.{plain_begin, plain_stepped, plain_on, grant, plain_committed, plain_commit, plain_abort, with_number}
use Rattle.spec.specs.{Plain.{plain_call, plain_after}, Grants.{Grant, granted_by, Serial, adding, serial_by, serial_from, serial_of}}
use Rattle.spec.proofs.{Abstract.{Rerun.put_same, Lists.put_other}, Theorems.Answers.{Right, right-step}}
use Rattle.spec_dispatch.specs.Rounds.{ScriptCall, seeks, writes, asks, reads, Scripts, End, unfinished, passed, failed}
use Rattle.spec_dispatch.specs.Rounds.{goes_on, Work, nothing_done, refusal_in, op_of}
use Rattle.spec_dispatch.specs.Dispatch.{plain_reply, without_buffer, IsScript, EveryScript, none, more, times_in, times_of}
use Rattle.spec_dispatch.proofs.{Phases.{Quiet, begins-it, calls-it, aborts-it, Laws, AtRest}, OnAbstract.answer-none}

after_one : (cs : List Call) (c : Call) (p : Plain) → plain_after (cs ++ (c ∷ [])) p ≡ (plain_call c (plain_after cs p)).after
unfolding after_all
after_one [] c p = refl
after_one (d ∷ cs) c p = after_one cs c (plain_call d p).after

serial-from-one : (cs : List Call) (c : Call) (p : Plain) (s : Serial)
    → serial_from (cs ++ (c ∷ [])) p s ≡ serial_by c (plain_after cs p) (serial_from cs p s)
unfolding serial_from after_all
serial-from-one [] c p s = refl
serial-from-one (d ∷ cs) c p s = serial-from-one cs c (plain_call d p).after (serial_by d p s)

serial-one : (cs : List Call) (c : Call) (p : Plain) → serial_of (cs ++ (c ∷ [])) p ≡ serial_by c (plain_after cs p) (serial_of cs p)
serial-one cs c p = unfold serial_of in serial-from-one cs c p _

-- ---- one call

-- A refusal is no grant.
no-grant : (a : Said) (n : ℕ) → refusal_in a ≡ suc n → is_grant a ≡ 0
unfolding is_grant refusal_in refusal_of
no-grant done_answer n e = refl
no-grant (pointer o) n e = refl
no-grant (given m) n e = refl
no-grant (granted m) n e = absurd (omega (arith, e))
no-grant (pairs m) n e = refl
no-grant (ordered grants gap tried) n e = refl
no-grant (refused m) n e = refl

module _ (t : ℕ) (p : Plain) where
  -- What a call of an open transaction gives: a refusal, and nothing changes; or it is added to its calls.
  abbrev Served : Op → List Accepted → PlainTurn → Type 0
  Served o calls τ =
      ((refusal_in τ.reply.answer ≡ 0 → ⊥) × (τ.after ≡ p)) ⊎ ((refusal_in τ.reply.answer ≡ 0) × (r : Running)
      × (τ.after.slots t ≡ running r) × (reply : Reply) × (r.calls ≡ calls ++ (record { op = o; reply = reply } ∷ [])))

  served-step : (o : Op) (r : Running) (es : List Entry) (z : Stepped) → Right z → Served o r.calls (plain_stepped t o r es p z)
  unfolding plain_stepped refuse_turn refusal_in refusal_of with_slot
  served-step o r es (refuse n) h = inl (λ e. omega (arith, h.0, e), refl)
  served-step o r es (accept y a buffer) h = inr (answer-none a h, _, put_same t _ p.slots, _, refl)

  module _ (small : leb t last_transaction ≡ true) where
    served-call : (o : Op) (r : Running) → p.slots t ≡ running r → Served o r.calls (plain_call (on t o) p)
    served-call o r e = unfold plain_call with_number plain_on in
        subst (Served o r.calls) (sym (ap₂ (λ (b : Bool) (z : Slot). cond b (plain_on t o z p) (refuse_turn 3 (buffer_of o)
        p)) small e)) (served-step o r _ _ (right-step p.file_of o r.txn p.committed.value (is_stale p r)))

    begin-slot : p.slots t ≡ closed → (r : Running) × ((plain_call (begin t) p).after.slots t ≡ running r) × (r.calls ≡ [])
    begin-slot e = unfold plain_call with_number plain_begin answer_with with_slot in (
      _,
      ap (λ (τ : PlainTurn). τ.after.slots t)
          (ap₂ (λ (b : Bool) (z : Slot). cond b (plain_begin t z p) (refuse_turn 3 [] p)) small e) ∙ put_same t _ p.slots,
      refl,
    )

    abort-slot : (r : Running) → p.slots t ≡ running r → (plain_call (abort t) p).after.slots t ≡ closed
    unfolding plain_call with_number plain_abort answer_with with_slot
    abort-slot r e = ap (λ (τ : PlainTurn). τ.after.slots t) (ap₂ (λ (b : Bool) (z : Slot). cond b (plain_abort t z p)
        (refuse_turn 3 [] p)) small e) ∙ put_same t closed p.slots

    commit-call : (minute : ℕ) (r : Running) → p.slots t ≡ running r → (n : ℕ)
        × (plain_call (commit t minute) p ≡ plain_committed t r p n)
    unfolding plain_call with_number plain_commit
    commit-call minute r e = (_, ap₂ (λ (b : Bool) (z : Slot). cond b (plain_commit t minute z p) (refuse_turn 3 [] p)) small e)

  -- Ended by a grant and by 13, otherwise left.
  committed-ends : (r : Running) (n : ℕ) → (refusal_in (plain_committed t r p n).reply.answer ≡ 0)
      ⊎ (refusal_in (plain_committed t r p n).reply.answer ≡ 13) → (plain_committed t r p n).after.slots t ≡ closed
  unfolding plain_committed answer_with grant refusal_in refusal_of with_slot
  committed-ends r zero e = put_same t closed p.slots
  committed-ends r (suc n) (inl e) = absurd (omega (arith, e))
  committed-ends r (suc n) (inr e) =
      ap (λ (b : Bool). (cond b (with_slot t closed p) p).slots t) (ap (λ (k : ℕ). eqb k 13) e) ∙ put_same t closed p.slots

  committed-left : (r : Running) (n m : ℕ) → refusal_in (plain_committed t r p n).reply.answer ≡ suc m → (suc m ≡ 13 → ⊥)
      → (plain_committed t r p n).after ≡ p
  unfolding plain_committed answer_with refusal_in refusal_of
  committed-left r zero m e g = absurd (omega (arith, e))
  committed-left r (suc n) m e g = pick (eqb (suc n) 13) refl
    where
      pick : (b : Bool) → eqb (suc n) 13 ≡ b → cond b (with_slot t closed p) p ≡ p
      pick true f = absurd (g (sym e ∙ eqb-true (suc n) 13 f))
      pick false f = refl

  -- The grant of a granted one, and none of another.
  module _ (minute : ℕ) where
    if-granted : (r : Running) (n : ℕ) → refusal_in (plain_committed t r p n).reply.answer ≡ 0
        → granted_by t minute (plain_committed t r p n).reply.answer (running r)
        ≡ record { txn_number = t; minute = minute; calls = r.calls } ∷ []
    unfolding plain_committed answer_with refusal_in refusal_of granted_by is_grant
    if-granted r zero e = refl
    if-granted r (suc n) e = absurd (omega (arith, e))

    granted-one : leb t last_transaction ≡ true → (r : Running) → p.slots t ≡ running r
        → refusal_in (plain_call (commit t minute) p).reply.answer ≡ 0 → granted_by t minute (plain_call (commit t minute)
        p).reply.answer (p.slots t) ≡ record { txn_number = t; minute = minute; calls = r.calls } ∷ []
    granted-one small r e f = let c = commit-call small minute r e in
        ap₂ (λ (τ : PlainTurn) (z : Slot). granted_by t minute τ.reply.answer z) c.1 e
        ∙ if-granted r c.0 (sym (ap (λ (τ : PlainTurn). refusal_in τ.reply.answer) c.1) ∙ f)

    not-granted : (a : Said) (n : ℕ) (z : Slot) → refusal_in a ≡ suc n → granted_by t minute a z ≡ []
    unfolding granted_by
    not-granted a n closed e = refl
    not-granted a n (running r) e = ap (λ (k : ℕ). replicate k (record { txn_number = t; minute = minute; calls = r.calls }))
        (no-grant a n e)

  -- ---- the others

  module _ (j : ℕ) (other : j ≡ t → ⊥) where
    abbrev Same : PlainTurn → Type 0
    Same τ = τ.after.slots j ≡ p.slots j

    same-slot : (q : Plain) (z : Slot) → q.slots ≡ p.slots → (with_slot t z q).slots j ≡ p.slots j
    same-slot q z e = unfold with_slot in put_other t z q.slots j other ∙ ap (λ (f : ℕ → Slot). f j) e

    same-stepped : (o : Op) (r : Running) (es : List Entry) (z : Stepped) → Same (plain_stepped t o r es p z)
    unfolding plain_stepped refuse_turn
    same-stepped o r es (refuse n) = refl
    same-stepped o r es (accept y a buffer) = same-slot p _ refl

    same-on : (o : Op) (z : Slot) → Same (plain_on t o z p)
    unfolding plain_on refuse_turn
    same-on o closed = refl
    same-on o (running r) = same-stepped o r _ _

    same-begin : (z : Slot) → Same (plain_begin t z p)
    unfolding plain_begin refuse_turn answer_with
    same-begin closed = same-slot p _ refl
    same-begin (running r) = refl

    same-abort : (z : Slot) → Same (plain_abort t z p)
    unfolding plain_abort refuse_turn answer_with
    same-abort closed = refl
    same-abort (running r) = same-slot p _ refl

    same-committed : (r : Running) (n : ℕ) → Same (plain_committed t r p n)
    unfolding plain_committed answer_with grant
    same-committed r zero = same-slot _ _ refl
    same-committed r (suc n) = pick (eqb (suc n) 13)
      where
        pick : (b : Bool) → (cond b (with_slot t closed p) p).slots j ≡ p.slots j
        pick true = same-slot p _ refl
        pick false = refl

    same-commit : (minute : ℕ) (z : Slot) → Same (plain_commit t minute z p)
    unfolding plain_commit refuse_turn
    same-commit minute closed = refl
    same-commit minute (running r) = same-committed r _

    same-numbered : (buffer : List ℕ) (next : Slot → Plain → PlainTurn) → Same (next (p.slots t) p)
        → Same (with_number t buffer next p)
    unfolding with_number
    same-numbered buffer next h = pick (leb t last_transaction)
      where
        pick : (b : Bool) → Same (cond b (next (p.slots t) p) (refuse_turn 3 buffer p))
        pick true = h
        pick false = unfold refuse_turn in refl

    same-quiet : (c : Call) → Quiet t c → (plain_call c p).after.slots j ≡ p.slots j
    unfolding plain_call
    same-quiet _ begins-it = same-numbered [] (plain_begin t) (same-begin (p.slots t))
    same-quiet _ (calls-it o) = same-numbered (buffer_of o) (plain_on t o) (same-on o (p.slots t))
    same-quiet _ aborts-it = same-numbered [] (plain_abort t) (same-abort (p.slots t))

    same-other-commit : (minute : ℕ) → (plain_call (commit t minute) p).after.slots j ≡ p.slots j
    same-other-commit minute = unfold plain_call in same-numbered [] (plain_commit t minute) (same-commit minute (p.slots t))

-- ---- the calls of a script

-- What a line asks for, but for the reader's buffer.
bare-line : (bytes reader : List ℕ) (l : ScriptCall) → without_buffer (op_of bytes reader l) ≡ op_of bytes [] l
unfolding without_buffer op_of
bare-line bytes reader (seeks d v) = refl
bare-line bytes reader (writes d start n) = refl
bare-line bytes reader (asks d) = refl
bare-line bytes reader (reads d n) = refl

abbrev bares : List Accepted → List Op
bares = map (λ (a : Accepted). without_buffer a.op)

-- One line more.
lines_more : (f : ℕ → Op) (i n : ℕ) (xs ys : List Accepted) (a : Accepted) → i < n → ys ≡ xs ++ (a ∷ [])
    → bares xs ≡ tabulate f (min i n) → without_buffer a.op ≡ f i → bares ys ≡ tabulate f (min (suc i) n)
unfolding tabulate
lines_more f i n xs ys a l e h g = let low : min i n ≡ i = omega arith in let high : min (suc i) n ≡ suc i = omega arith in
    ap bares e ∙ map-append (λ (b : Accepted). without_buffer b.op) xs (a ∷ [])
    ∙ ap₂ (λ (os : List Op) (o : Op). os ++ (o ∷ [])) (h ∙ ap (tabulate f) low) g ∙ ap (tabulate f) (sym high)

lines_same : (f : ℕ → Op) (i j : ℕ) (xs : List Accepted) → i ≡ j → bares xs ≡ tabulate f i → bares xs ≡ tabulate f j
lines_same f i j xs e h = h ∙ ap (tabulate f) e

-- ---- the grants

times-append : (k : ℕ) (gs hs : List Grant) → times_in k (gs ++ hs) ≡ times_in k gs + times_in k hs
unfolding times_in
times-append k [] hs = omega arith
times-append k (g ∷ gs) hs = omega (arith, times-append k gs hs)

times-one : (k : ℕ) (g : Grant) → times_in k (g ∷ []) ≡ cond (eqb g.txn_number k) 1 0
times-one k g = unfold times_in in omega arith

every_append : (bytes : List ℕ) (minute : ℕ) (x : Scripts) (g : Grant) (gs : List Grant) → EveryScript bytes minute x gs
    → IsScript bytes minute x g → EveryScript bytes minute x (gs ++ (g ∷ []))
every_append bytes minute x g _ none s = more g [] s none
every_append bytes minute x g _ (more h hs i es) s = more h (hs ++ (g ∷ [])) i (every_append bytes minute x g hs es s)

-- A script that goes on has no grant, nor has one that failed.
times-going : (e : End) → goes_on e ≡ true → times_of e ≡ 0
unfolding times_of goes_on
times-going unfinished h = refl
times-going passed h = absurd (true≢false (sym h))
times-going (failed n) h = refl

module _ (bytes : List ℕ) (minute : ℕ) (x : Scripts) where
  -- The grants so far are the scripts that passed, each once; and where their order starts.
  pub record Granted (start : Plain) (s : Serial) (e : ℕ → End) : Type 0 where
    pub from : s.start ≡ start
    pub every : EveryScript bytes minute x s.grants
    pub once : (k : ℕ) → k < x.count → times_in k s.grants ≡ times_of (e k)

  granted-failed : (start : Plain) (s : Serial) (e : ℕ → End) (k n : ℕ) → goes_on (e k) ≡ true → Granted start s e
      → Granted start s (put k (failed n) e)
  granted-failed start s e k n h g =
      record { from = g.from; every = g.every; once = λ j l. g.once j l ∙ pick j (eqb j k) refl }
    where
      pick : (j : ℕ) (b : Bool) → eqb j k ≡ b → times_of (e j) ≡ times_of (put k (failed n) e j)
      pick j true q = let f : j ≡ k = eqb-true j k q in
          ap (λ (i : ℕ). times_of (e i)) f ∙ times-going (e k) h ∙ sym (ap (λ (i : ℕ). times_of (put k (failed n) e i)) f
          ∙ ap times_of (put_same k (failed n) e) ∙ (unfold times_of in refl))
      pick j false q = sym (ap times_of (put_other k (failed n) e j (eqb-false j k q)))

  granted-passed : (start : Plain) (s : Serial) (e : ℕ → End) (g : Grant) → IsScript bytes minute x g → goes_on
      (e g.txn_number) ≡ true → Granted start s e → Granted start (adding (g ∷ []) s) (put g.txn_number passed e)
  unfolding adding
  granted-passed start s e g i h old = record {
    from = old.from;
    every = every_append bytes minute x g s.grants old.every i;
    once = λ j l. times-append j s.grants (g ∷ []) ∙ ap₂ (λ (a b : ℕ). a + b) (old.once j l) (times-one j g)
        ∙ pick j (eqb j g.txn_number) refl;
  }
    where
      pick : (j : ℕ) (b : Bool) → eqb j g.txn_number ≡ b
          → times_of (e j) + cond (eqb g.txn_number j) 1 0 ≡ times_of (put g.txn_number passed e j)
      pick j true q = let f : j ≡ g.txn_number = eqb-true j g.txn_number q in
          let one : times_of passed ≡ 1 = unfold times_of in refl in
          ap₂ (λ (a : ℕ) (b : Bool). a + cond b 1 0) (ap (λ (i : ℕ). times_of (e i)) f ∙ times-going (e g.txn_number) h)
          (eq-eqb g.txn_number j (sym f)) ∙ sym (ap (λ (i : ℕ). times_of (put g.txn_number passed e i)) f
          ∙ ap times_of (put_same g.txn_number passed e) ∙ one)
      pick j false q = let f : j ≡ g.txn_number → ⊥ = eqb-false j g.txn_number q in
          let z : times_of (e j) + 0 ≡ times_of (e j) = omega arith in
          ap (λ (b : Bool). times_of (e j) + cond b 1 0) (ne_eqb g.txn_number j (λ r. f (sym r))) ∙ z
          ∙ sym (ap times_of (put_other g.txn_number passed e j f))

-- ---- the laws

module _ (p₀ : Plain) (bytes : List ℕ) (minute : ℕ) (x : Scripts) (few : x.count ≤ script_count)
    (short : (k : ℕ) → k < x.count → (x.script k).count ≤ script_calls) where
  abbrev slot_after : ℕ → List Call → Slot
  slot_after k cs = (plain_after cs p₀).slots k

  abbrev line : ℕ → ℕ → Op
  line k i = op_of bytes [] ((x.script k).call i)

  -- Open, with the first n calls of its script.
  abbrev Open : ℕ → ℕ → List Call → Type 0
  Open n k cs = (r : Running) × (slot_after k cs ≡ running r) × (bares r.calls ≡ tabulate (line k) n)

  then-slot : (k : ℕ) (c : Call) (cs : List Call) (z : Slot) → (plain_call c (plain_after cs p₀)).after.slots k ≡ z
      → slot_after k (cs ++ (c ∷ [])) ≡ z
  then-slot k c cs z e = ap (λ (p : Plain). p.slots k) (after_one cs c p₀) ∙ e

  small : (k : ℕ) → k < x.count → leb k last_script ≡ true
  small k l = le-leb k last_script (omega (arith, few))

  ended : (k : ℕ) (cs : List Call) → k < x.count → Open (x.script k).count k cs
      → (refusal_in (plain_reply p₀ (commit k minute) cs).answer ≡ 0)
      ⊎ (refusal_in (plain_reply p₀ (commit k minute) cs).answer ≡ 13) → slot_after k (cs ++ (commit k minute ∷ [])) ≡ closed
  ended k cs l g e = let c = commit-call k (plain_after cs p₀) (small k l) minute g.0 g.1 in
      then-slot k (commit k minute) cs _ (ap (λ (τ : PlainTurn). τ.after.slots k) c.1
      ∙ committed-ends k (plain_after cs p₀) g.0 c.0
      (subst (λ (τ : PlainTurn). (refusal_in τ.reply.answer ≡ 0) ⊎ (refusal_in τ.reply.answer ≡ 13)) c.1 e))

  -- The grants so far, and nobody else is open.
  pub record PreservedOnPlain (cs : List Call) (e : ℕ → End) : Type 0 where
    pub granted : Granted bytes minute x (plain_with_windows fresh_windows p₀) (serial_of cs p₀) e
    pub beyond : (j : ℕ) → x.count ≤ j → (plain_after cs p₀).slots j ≡ closed

  beyond-quiet : (k : ℕ) (c : Call) (cs : List Call) → k < x.count → Quiet k c
      → ((j : ℕ) → x.count ≤ j → slot_after j cs ≡ closed) → (j : ℕ) → x.count ≤ j → slot_after j (cs ++ (c ∷ [])) ≡ closed
  beyond-quiet k c cs l q h j m = then-slot j c cs _ (same-quiet k (plain_after cs p₀) j (λ f. omega arith) c q ∙ h j m)

  beyond-commit : (k : ℕ) (cs : List Call) → k < x.count → ((j : ℕ) → x.count ≤ j → slot_after j cs ≡ closed) → (j : ℕ)
      → x.count ≤ j → slot_after j (cs ++ (commit k minute ∷ [])) ≡ closed
  beyond-commit k cs l h j m = then-slot j (commit k minute) cs _
      (same-other-commit k (plain_after cs p₀) j (λ f. omega arith) minute ∙ h j m)

  quiet-serial : (k : ℕ) (c : Call) (cs : List Call) → Quiet k c → serial_of (cs ++ (c ∷ [])) p₀ ≡ serial_of cs p₀
  unfolding serial_by
  quiet-serial k _ cs begins-it = serial-one cs (begin k) p₀
  quiet-serial k _ cs (calls-it o) = serial-one cs (on k o) p₀
  quiet-serial k _ cs aborts-it = serial-one cs (abort k) p₀

  preserved-call : (k : ℕ) (c : Call) (cs : List Call) (e : ℕ → End) → k < x.count → Quiet k c → PreservedOnPlain cs e
      → PreservedOnPlain (cs ++ (c ∷ [])) e
  preserved-call k c cs e l q h = record {
    granted = subst⁻¹ (λ (s : Serial). Granted bytes minute x (plain_with_windows fresh_windows p₀) s e)
        (quiet-serial k c cs q) h.granted;
    beyond = beyond-quiet k c cs l q h.beyond;
  }

  preserved-fails : (k n : ℕ) (cs : List Call) (e : ℕ → End) → goes_on (e k) ≡ true → PreservedOnPlain cs e
      → PreservedOnPlain cs (put k (failed n) e)
  preserved-fails k n cs e h g = record {
    granted = granted-failed bytes minute x (plain_with_windows fresh_windows p₀) (serial_of cs p₀) e k n h g.granted;
    beyond = g.beyond;
  }

  -- The serial order after a Commit.
  commit-serial : (k : ℕ) (cs : List Call) (gs : List Grant) → granted_by k minute (plain_reply p₀ (commit k minute)
      cs).answer ((plain_after cs p₀).slots k) ≡ gs → serial_of (cs ++ (commit k minute ∷ [])) p₀ ≡ adding gs (serial_of cs p₀)
  unfolding serial_by
  commit-serial k cs gs e = serial-one cs (commit k minute) p₀ ∙ ap (λ (hs : List Grant). adding hs (serial_of cs p₀)) e

  preserved-not : (k n : ℕ) (cs : List Call) (e : ℕ → End) → k < x.count → refusal_in (plain_reply p₀ (commit k minute)
      cs).answer ≡ suc n → PreservedOnPlain cs e → PreservedOnPlain (cs ++ (commit k minute ∷ [])) e
  preserved-not k n cs e l f h = unfold adding in record {
    granted = subst⁻¹ (λ (s : Serial). Granted bytes minute x (plain_with_windows fresh_windows p₀) s e)
        (commit-serial k cs [] (not-granted k p₀ minute (plain_reply p₀ (commit k minute) cs).answer n _ f)) h.granted;
    beyond = beyond-commit k cs l h.beyond;
  }

  preserved-one : (k : ℕ) (cs : List Call) (e : ℕ → End) → k < x.count → Open (x.script k).count k cs
      → refusal_in (plain_reply p₀ (commit k minute) cs).answer ≡ 0 → goes_on (e k) ≡ true
      → PreservedOnPlain cs e → PreservedOnPlain (cs ++ (commit k minute ∷ [])) (put k passed e)
  preserved-one k cs e l g f h old = let one : Grant = record { txn_number = k; minute = minute; calls = g.0.calls } in
      record {
        granted = subst⁻¹ (λ (s : Serial). Granted bytes minute x (plain_with_windows fresh_windows p₀) s (put k passed e))
            (commit-serial k cs (one ∷ []) (granted-one k (plain_after cs p₀) minute (small k l) g.0 g.1 f))
            (granted-passed bytes minute x (plain_with_windows fresh_windows p₀) (serial_of cs p₀) e one
            (record { small = l; at_minute = refl; calls = g.2 }) h old.granted);
        beyond = beyond-commit k cs l old.beyond;
      }

  pub plain-laws : Laws (plain_reply p₀) bytes minute x
  plain-laws = record {
    is_closed = λ k cs. slot_after k cs ≡ closed;
    given = λ k i cs. Open (min i (x.script k).count) k cs;
    ready = λ k cs. Open (x.script k).count k cs;
    invariant = PreservedOnPlain;
    begun = λ k cs l e. let b = begin-slot k (plain_after cs p₀) (small k l) e in
        let z : 0 ≡ min 0 (x.script k).count = omega arith in (
          b.0,
          then-slot k (begin k) cs _ b.1,
          lines_same (line k) 0 _ b.0.calls z (ap bares b.2 ∙ (unfold tabulate in refl)),
        );
    accepted = λ k i reader cs l m g e. ⊎_elim (λ f. absurd (f.0 e)) (λ f. (
      f.1,
      then-slot k _ cs _ f.2,
      lines_more (line k) i (x.script k).count g.0.calls f.1.calls _ m f.4 g.2
          (bare-line bytes reader ((x.script k).call i)),
    )) (served-call k (plain_after cs p₀) (small k l) _ g.0 g.1);
    refused_call =
        λ k i n o cs l g e. ⊎_elim (λ f. (g.0, then-slot k _ cs _ (ap (λ (p : Plain). p.slots k) f.1 ∙ g.1), g.2))
        (λ f. absurd (omega (arith, e, f.0))) (served-call k (plain_after cs p₀) (small k l) o g.0 g.1);
    skipped = λ k i cs l g. let z : min i (x.script k).count ≡ min (suc i) (x.script k).count = omega arith in
        (g.0, g.1, lines_same (line k) _ _ g.0.calls z g.2);
    full = λ k cs l g. let z : min 16 (x.script k).count ≡ (x.script k).count = omega (arith, short k l) in
        (g.0, g.1, lines_same (line k) _ _ g.0.calls z g.2);
    aborted = λ k i cs l g. then-slot k (abort k) cs _ (abort-slot k (plain_after cs p₀) (small k l) g.0 g.1);
    dropped = λ k cs l g. then-slot k (abort k) cs _ (abort-slot k (plain_after cs p₀) (small k l) g.0 g.1);
    granted = λ k cs l g e. ended k cs l g (inl e);
    staled = λ k cs l g e. ended k cs l g (inr e);
    held = λ k n cs l g e f. let c = commit-call k (plain_after cs p₀) (small k l) minute g.0 g.1 in (
      g.0,
      then-slot k (commit k minute) cs _ (ap (λ (τ : PlainTurn). τ.after.slots k) c.1
          ∙ ap (λ (p : Plain). p.slots k) (committed-left k (plain_after cs p₀) g.0 c.0 n
          (sym (ap (λ (τ : PlainTurn). refusal_in τ.reply.answer) c.1) ∙ e) f) ∙ g.1),
      g.2,
    );
    closed-other = λ j k c cs q h e. then-slot j c cs _ (same-quiet k (plain_after cs p₀) j h c q ∙ e);
    given-other = λ j k i c cs q h g. (g.0, then-slot j c cs _ (same-quiet k (plain_after cs p₀) j h c q ∙ g.1), g.2);
    ready-other = λ j k c cs q h g. (g.0, then-slot j c cs _ (same-quiet k (plain_after cs p₀) j h c q ∙ g.1), g.2);
    closed-commit =
        λ j k cs h e. then-slot j (commit k minute) cs _ (same-other-commit k (plain_after cs p₀) j h minute ∙ e);
    ready-commit = λ j k cs h g.
        (g.0, then-slot j (commit k minute) cs _ (same-other-commit k (plain_after cs p₀) j h minute ∙ g.1), g.2);
    invariant-begun = λ k cs e l g. preserved-call k (begin k) cs e l begins-it;
    invariant-accepted = λ k o cs e l f. preserved-call k (on k o) cs e l (calls-it o);
    invariant-aborted = λ k i cs e l g. preserved-call k (abort k) cs e l aborts-it;
    invariant-dropped = λ k cs e l g. preserved-call k (abort k) cs e l aborts-it;
    invariant-failed = λ k i n o cs e l g f h old. preserved-fails k (suc n) (cs ++ (on k o ∷ [])) e h
        (preserved-call k (on k o) cs e l (calls-it o) old);
    invariant-granted = preserved-one;
    invariant-stale = λ k cs e l g f old. preserved-not k 12 cs e l f old;
    invariant-refused = λ k n cs e l g f d h old. preserved-fails k (suc n) (cs ++ (commit k minute ∷ [])) e h
        (preserved-not k n cs e l f old);
  }

  pub plain-rests : (reader : List ℕ) → ((j : ℕ) → p₀.slots j ≡ closed)
      → AtRest (plain_reply p₀) bytes minute x plain-laws (nothing_done reader)
  plain-rests reader h = unfold plain-laws serial_of serial_from times_in times_of after_all in record {
    below = λ j l. h j;
    above = λ j l m. h j;
    invariant = record { granted = record { from = refl; every = none; once = λ k l. refl }; beyond = λ j l. h j };
  }

  -- What it comes to.
  pub plain-granted : (w : Work) → AtRest (plain_reply p₀) bytes minute x plain-laws w
      → Granted bytes minute x (plain_with_windows fresh_windows p₀) (serial_of w.made p₀) w.ends
  plain-granted w s = unfold plain-laws in s.invariant.granted

  pub plain_closed : (w : Work) → AtRest (plain_reply p₀) bytes minute x plain-laws w → (j : ℕ) → (plain_after w.made p₀).slots j
      ≡ closed
  plain_closed w s j = unfold plain-laws in ⊎_elim (s.invariant.beyond j) (s.below j) (le-or-lt x.count j)
