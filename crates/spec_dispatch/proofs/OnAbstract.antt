-- The laws of rounds on the abstract store: nobody is stale before the first Commit of a round.
use mathlib.Core.{Bool.{Bool, true, false, cond}, List.{List, [], ◌∷◌, ◌++◌}, Logic.{◌⊎◌, inl, inr, ⊎_elim}}
use mathlib.Core.Path.{◌≡◌, refl, sym, ap, ap₂, ◌∙◌, subst, subst⁻¹}
use borrow.Author.Tests.{le-leb, eqb-true}
use lib.Dec.{leb, eqb}
use native.Mathlib.Omega.{arith}
use Prim.Native.Nat.{ℕ, zero, suc, ◌≤◌, ◌<◌}
use Rattle.limits.specs.Limits.{last_transaction, script_count, last_script}
use Rattle.state.specs.Outcomes.{Said, done_answer, pointer, given, granted, pairs, ordered, refused}
use Rattle.spec.specs.{Items.{Item, result, asked}, Transactions.put}
use Rattle.spec.specs.Messages.{Op, buffer_of, Call, begin, on, commit, abort, Reply, refusal_of}
use Rattle.spec.{specs.{Steps.{Stepped, refuse, accept, step}, Commits.{Setting, commit_refusal}}, proofs.Abstract.Rerun.put_same}
use Rattle.spec.proofs.Abstract.Lists.{put_other}
use Rattle.spec.proofs.Abstract.AbstractStore.{OpenTxn, Seat, vacant, occupied, Abstract, AbstractTurn, abstract_refuse, with_seat}
use Rattle.spec.proofs.Abstract.AbstractStore.{abstract_answer, abstract_begin, abstract_stepped, abstract_on, touch, granting}
use Rattle.spec.proofs.Abstract.AbstractStore.{abstract_committed, abstract_commit, abstract_abort, seated, abstract_call}
use Rattle.spec.proofs.Abstract.AbstractStore.{abstract_after, abstract_replies}
use Rattle.spec.proofs.Theorems.Answers.{IsAnswer, Right, right-step, OfStep, Plainly, plain_step}
use Rattle.spec.proofs.Abstract.Programs.{not-refused-stale}
use Rattle.spec_dispatch.specs.Rounds.{Scripts, End, unfinished, passed, failed, Work, nothing_done, refusal_in}
use Rattle.spec_dispatch.specs.Dispatch.{EndsScript, AnsweredInRounds}
use Rattle.spec_dispatch.proofs.{Follows.abstract_reply, Phases.{Quiet, begins-it, calls-it, aborts-it, Laws, AtRest}}

-- An answer is no refusal.
pub answer-none : (a : Said) → IsAnswer a → refusal_in a ≡ 0
unfolding refusal_in refusal_of
answer-none done_answer h = refl
answer-none (pointer o) h = refl
answer-none (given n) h = refl
answer-none (granted n) h = refl
answer-none (pairs n) h = refl
answer-none (ordered grants gap tried) h = refl
answer-none (refused n) h = absurd h

after_one : (cs : List Call) (c : Call) (s : Abstract) → abstract_after (cs ++ (c ∷ [])) s
    ≡ (abstract_call c (abstract_after cs s)).after
unfolding abstract_after
after_one [] c s = refl
after_one (d ∷ cs) c s = after_one cs c (abstract_call d s).after

replies-one : (cs : List Call) (c : Call) (s : Abstract)
    → abstract_replies (cs ++ (c ∷ [])) s ≡ abstract_replies cs s ++ (abstract_reply s c cs ∷ [])
unfolding abstract_replies abstract_after
replies-one [] c s = refl
replies-one (d ∷ cs) c s = ap (λ (rs : List Reply). (abstract_call d s).reply ∷ rs) (replies-one cs c (abstract_call d s).after)

-- ---- one call

module _ (t : ℕ) (s : Abstract) where
  -- What a call of an open transaction t gives: a refusal, and nothing changes; or it is stale after it if it was before.
  abbrev Served : Bool → AbstractTurn → Type 0
  Served stale τ = ((refusal_in τ.reply.answer ≡ 0 → ⊥) × (τ.after ≡ s))
      ⊎ ((refusal_in τ.reply.answer ≡ 0) × (h : OpenTxn) × (τ.after.seats t ≡ occupied h) × (h.stale ≡ stale))

  served-step : (o : Op) (h : OpenTxn) (is : List Item) (z : Stepped) → Right z
      → Served h.stale (abstract_stepped t o h is s z)
  unfolding abstract_stepped abstract_refuse refusal_in refusal_of with_seat
  served-step o h is (refuse n) r = inl (λ e. omega (arith, r.0, e), refl)
  served-step o h is (accept y a buffer) r = inr (answer-none a r, _, put_same t _ s.seats, refl)

  module _ (small : leb t last_transaction ≡ true) where
    served-call : (o : Op) (h : OpenTxn) → s.seats t ≡ occupied h → Served h.stale (abstract_call (on t o) s)
    served-call o h e = unfold abstract_call seated abstract_on in
        subst (Served h.stale) (sym (ap₂ (λ (b : Bool) (z : Seat). cond b (abstract_on t o z s) (abstract_refuse 3
        (buffer_of o) s)) small e)) (served-step o h _ _ (right-step s.file_of o h.txn s.value h.stale))

    -- One that is not stale is refused with 6 to 12 only.
    step-refused : (o : Op) (h : OpenTxn) (is : List Item) (n : ℕ) (z : Stepped) → Plainly z
        → refusal_in (abstract_stepped t o h is s z).reply.answer ≡ suc n → OfStep (suc n)
    unfolding abstract_stepped abstract_refuse refusal_in refusal_of
    step-refused o h is n (refuse k) r e = subst OfStep e r
    step-refused o h is n (accept y a buffer) r e = absurd (omega (arith, e, answer-none a r))

    call-refused : (o : Op) (h : OpenTxn) (n : ℕ) → s.seats t ≡ occupied h → h.stale ≡ false
        → refusal_in (abstract_call (on t o) s).reply.answer ≡ suc n → OfStep (suc n)
    unfolding abstract_call seated abstract_on
    call-refused o h n e f g = let r = result s.value (step s.file_of o h.txn) in
        step-refused o h (asked s.value (step s.file_of o h.txn)) n r (plain_step s.file_of o h.txn s.value)
        (sym (ap (λ (τ : AbstractTurn). refusal_in τ.reply.answer) (ap₂ (λ (b : Bool) (z : Seat). cond b
        (abstract_on t o z s) (abstract_refuse 3 (buffer_of o) s)) small e ∙ ap (abstract_stepped t o h
        (asked s.value (step s.file_of o h.txn)) s) (not-refused-stale h.stale o r f))) ∙ g)

    begin-plain : s.seats t ≡ vacant → refusal_in (abstract_call (begin t) s).reply.answer ≡ 0
    unfolding abstract_call seated abstract_begin abstract_answer refusal_in refusal_of
    begin-plain e = ap (λ (τ : AbstractTurn). refusal_in τ.reply.answer)
        (ap₂ (λ (b : Bool) (z : Seat). cond b (abstract_begin t z s) (abstract_refuse 3 [] s)) small e)

    abort-plain : (h : OpenTxn) → s.seats t ≡ occupied h → refusal_in (abstract_call (abort t) s).reply.answer ≡ 0
    unfolding abstract_call seated abstract_abort abstract_answer refusal_in refusal_of
    abort-plain h e = ap (λ (τ : AbstractTurn). refusal_in τ.reply.answer)
        (ap₂ (λ (b : Bool) (z : Seat). cond b (abstract_abort t z s) (abstract_refuse 3 [] s)) small e)

    begin-seat : s.seats t ≡ vacant → (h : OpenTxn) × ((abstract_call (begin t) s).after.seats t ≡ occupied h)
        × (h.stale ≡ false)
    begin-seat e = unfold abstract_call seated abstract_begin abstract_answer with_seat in (
      _,
      ap (λ (τ : AbstractTurn). τ.after.seats t) (ap₂ (λ (b : Bool) (z : Seat). cond b (abstract_begin t z s)
          (abstract_refuse 3 [] s)) small e) ∙ put_same t _ s.seats,
      refl,
    )

    abort-seat : (h : OpenTxn) → s.seats t ≡ occupied h → (abstract_call (abort t) s).after.seats t ≡ vacant
    unfolding abstract_call seated abstract_abort abstract_answer with_seat
    abort-seat h e = ap (λ (τ : AbstractTurn). τ.after.seats t) (ap₂ (λ (b : Bool) (z : Seat). cond b
        (abstract_abort t z s) (abstract_refuse 3 [] s)) small e) ∙ put_same t vacant s.seats

    -- Its Commit, by what refuses it.
    commit-call : (minute : ℕ) (h : OpenTxn) → s.seats t ≡ occupied h
        → (daily : Bool) × (is_closed : Bool) × (placed : Bool)
        × (abstract_call (commit t minute) s ≡ abstract_committed t h s (commit_refusal daily h.stale is_closed placed))
    commit-call minute h e = unfold abstract_call seated abstract_commit in
        (_, _, _, ap₂ (λ (b : Bool) (z : Seat). cond b (abstract_commit t minute z s) (abstract_refuse 3 [] s)) small e)

  -- Ended by a grant and by 13, otherwise left.
  committed-ends : (h : OpenTxn) (r : ℕ) → (refusal_in (abstract_committed t h s r).reply.answer ≡ 0)
      ⊎ (refusal_in (abstract_committed t h s r).reply.answer ≡ 13) → (abstract_committed t h s r).after.seats t ≡ vacant
  unfolding abstract_committed granting touch refusal_in refusal_of with_seat
  committed-ends h zero e = ap (touch _) (put_same t vacant s.seats)
  committed-ends h (suc n) (inl e) = absurd (omega (arith, e))
  committed-ends h (suc n) (inr e) =
      ap (λ (b : Bool). (cond b (with_seat t vacant s) s).seats t) (ap (λ (k : ℕ). eqb k 13) e) ∙ put_same t vacant s.seats

  committed-left : (h : OpenTxn) (r n : ℕ) → refusal_in (abstract_committed t h s r).reply.answer ≡ suc n → (suc n ≡ 13 → ⊥)
      → (abstract_committed t h s r).after ≡ s
  unfolding abstract_committed granting refusal_in refusal_of
  committed-left h zero n e g = absurd (omega (arith, e))
  committed-left h (suc k) n e g = pick (eqb (suc k) 13) refl
    where
      pick : (b : Bool) → eqb (suc k) 13 ≡ b → cond b (with_seat t vacant s) s ≡ s
      pick true f = absurd (g (sym e ∙ eqb-true (suc k) 13 f))
      pick false f = refl

  -- One that is not stale is not refused with 13.
  committed-first : (h : OpenTxn) (daily is_closed placed : Bool)
      → refusal_in (abstract_committed t h s (commit_refusal daily false is_closed placed)).reply.answer ≡ 13 → ⊥
  unfolding abstract_committed granting refusal_in refusal_of commit_refusal
  committed-first h false is_closed placed e = omega (arith, e)
  committed-first h true true placed e = omega (arith, e)
  committed-first h true false true e = omega (arith, e)
  committed-first h true false false e = omega (arith, e)

  -- What refuses a Commit, but for 13.
  committed-refused : (h : OpenTxn) (daily stale is_closed placed : Bool) (n : ℕ) → refusal_in (abstract_committed t h s
      (commit_refusal daily stale is_closed placed)).reply.answer ≡ suc n → (suc n ≡ 13 → ⊥) → EndsScript (suc n)
  unfolding abstract_committed granting refusal_in refusal_of commit_refusal
  committed-refused h false stale is_closed placed n e g = inr (inr (sym e))
  committed-refused h true true is_closed placed n e g = absurd (g (sym e))
  committed-refused h true false true placed n e g = inr (inl (sym e))
  committed-refused h true false false true n e g = absurd (omega (arith, e))
  committed-refused h true false false false n e g = inl (omega (arith, e), omega (arith, e))

  -- ---- the others

  module _ (j : ℕ) (other : j ≡ t → ⊥) where
    abbrev Same : AbstractTurn → Type 0
    Same τ = τ.after.seats j ≡ s.seats j

    same-seat : (x : Seat) → (with_seat t x s).seats j ≡ s.seats j
    same-seat x = unfold with_seat in put_other t x s.seats j other

    same-stepped : (o : Op) (h : OpenTxn) (is : List Item) (z : Stepped) → Same (abstract_stepped t o h is s z)
    unfolding abstract_stepped abstract_refuse
    same-stepped o h is (refuse n) = refl
    same-stepped o h is (accept y a buffer) = same-seat _

    same-on : (o : Op) (x : Seat) → Same (abstract_on t o x s)
    unfolding abstract_on abstract_refuse
    same-on o vacant = refl
    same-on o (occupied h) = same-stepped o h _ _

    same-begin : (x : Seat) → Same (abstract_begin t x s)
    unfolding abstract_begin abstract_refuse abstract_answer
    same-begin vacant = same-seat _
    same-begin (occupied h) = refl

    same-abort : (x : Seat) → Same (abstract_abort t x s)
    unfolding abstract_abort abstract_refuse abstract_answer
    same-abort vacant = refl
    same-abort (occupied h) = same-seat _

    same-seated : (buffer : List ℕ) (next : Seat → Abstract → AbstractTurn) → Same (next (s.seats t) s)
        → Same (seated t buffer next s)
    unfolding seated abstract_refuse
    same-seated buffer next h = pick (leb t last_transaction)
      where
        pick : (b : Bool) → Same (cond b (next (s.seats t) s) (abstract_refuse 3 buffer s))
        pick true = h
        pick false = unfold abstract_refuse in refl

    pub same-quiet : (c : Call) → Quiet t c → (abstract_call c s).after.seats j ≡ s.seats j
    unfolding abstract_call
    same-quiet _ begins-it = same-seated [] (abstract_begin t) (same-begin (s.seats t))
    same-quiet _ (calls-it o) = same-seated (buffer_of o) (abstract_on t o) (same-on o (s.seats t))
    same-quiet _ aborts-it = same-seated [] (abstract_abort t) (same-abort (s.seats t))

    -- A Commit of t keeps another open, or closed.
    touched-vacant : (ss : List Setting) (x : Seat) → x ≡ vacant → touch ss x ≡ vacant
    touched-vacant ss x e = unfold touch in ap (touch ss) e

    touched-occupied : (ss : List Setting) (x : Seat) (h : OpenTxn) → x ≡ occupied h → (g : OpenTxn) × (touch ss x ≡ occupied g)
    touched-occupied ss x h e = unfold touch in (_, ap (touch ss) e)

    -- Its seat is left, or touched.
    abbrev Touched : AbstractTurn → Type 0
    Touched τ = Same τ ⊎ ((ss : List Setting) × (τ.after.seats j ≡ touch ss (s.seats j)))

    touched-committed : (h : OpenTxn) (r : ℕ) → Touched (abstract_committed t h s r)
    unfolding abstract_committed granting
    touched-committed h zero = inr (_, ap (touch _) (put_other t vacant s.seats j other))
    touched-committed h (suc n) = pick (eqb (suc n) 13)
      where
        pick : (b : Bool) → Touched
            (record { reply = record { answer = refused (suc n); buffer = [] }; after = cond b (with_seat t vacant s) s })
        pick true = inl (same-seat vacant)
        pick false = inl refl

    touched-seat : (minute : ℕ) (x : Seat) → Touched (abstract_commit t minute x s)
    unfolding abstract_commit abstract_refuse
    touched-seat minute vacant = inl refl
    touched-seat minute (occupied h) = touched-committed h _

    touched-commit : (minute : ℕ) → Touched (abstract_call (commit t minute) s)
    unfolding abstract_call seated
    touched-commit minute = pick (leb t last_transaction)
      where
        pick : (b : Bool) → Touched (cond b (abstract_commit t minute (s.seats t) s) (abstract_refuse 3 [] s))
        pick true = touched-seat minute (s.seats t)
        pick false = unfold abstract_refuse in inl refl

    vacant-commit : (minute : ℕ) → s.seats j ≡ vacant → (abstract_call (commit t minute) s).after.seats j ≡ vacant
    vacant-commit minute e = ⊎_elim (λ f. f ∙ e) (λ f. f.1 ∙ touched-vacant f.0 (s.seats j) e) (touched-commit minute)

    occupied-commit : (minute : ℕ) (h : OpenTxn) → s.seats j ≡ occupied h → (g : OpenTxn)
        × ((abstract_call (commit t minute) s).after.seats j ≡ occupied g)
    occupied-commit minute h e = ⊎_elim (λ f. (h, f ∙ e))
        (λ f. let g = touched-occupied f.0 (s.seats j) h e in (g.0, f.1 ∙ g.1)) (touched-commit minute)

-- ---- which refusals end scripts

abbrev pub Known : (ℕ → End) → Type 0
Known e = (k n : ℕ) → e k ≡ failed n → EndsScript n

is_failed : End → ℕ
is_failed unfinished = 0
is_failed passed = 0
is_failed (failed n) = 1

failed-same : {m n : ℕ} → failed m ≡ failed n → m ≡ n
failed-same {m} q = ap number q
  where
    number : End → ℕ
    number unfinished = m
    number passed = m
    number (failed n) = n

not-failed : (z : End) (n : ℕ) → is_failed z ≡ 0 → z ≡ failed n → ⊥
not-failed z n e q = unfold is_failed in let f : is_failed (failed n) ≡ 0 = sym (ap is_failed q) ∙ e in omega (arith, f)

known_more : (e : ℕ → End) (k : ℕ) (z : End) → ((n : ℕ) → z ≡ failed n → EndsScript n) → Known e → Known (put k z e)
unfolding put
known_more e k z h old j n = pick (eqb j k)
  where
    pick : (b : Bool) → cond b z (e j) ≡ failed n → EndsScript n
    pick true q = h n q
    pick false q = old j n q

-- ---- how calls are answered

abbrev MayBe : ℕ → Type 0
MayBe n = (n ≡ 0) ⊎ ((n ≡ 13) ⊎ EndsScript n)

answered-more : (rs : List Reply) (r : Reply) → AnsweredInRounds rs → MayBe (refusal_in r.answer)
    → AnsweredInRounds (rs ++ (r ∷ []))
unfolding AnsweredInRounds
answered-more [] r h m = (m, tt)
answered-more (q ∷ rs) r h m = (h.0, answered-more rs r h.1 m)

-- ---- the laws

module _ (s₀ : Abstract) (bytes : List ℕ) (minute : ℕ) (x : Scripts) (few : x.count ≤ script_count) where
  abbrev seat_after : ℕ → List Call → Seat
  seat_after k cs = (abstract_after cs s₀).seats k

  abbrev Open : (OpenTxn → Type 0) → ℕ → List Call → Type 0
  Open P k cs = (h : OpenTxn) × (seat_after k cs ≡ occupied h) × P h

  -- After one call more.
  then-seat : (k : ℕ) (c : Call) (cs : List Call) (z : Seat) → (abstract_call c (abstract_after cs s₀)).after.seats k ≡ z
      → seat_after k (cs ++ (c ∷ [])) ≡ z
  then-seat k c cs z e = ap (λ (s : Abstract). s.seats k) (after_one cs c s₀) ∙ e

  small : (k : ℕ) → k < x.count → leb k last_script ≡ true
  small k l = le-leb k last_script (omega (arith, few))

  abbrev fresh : OpenTxn → Type 0
  fresh h = h.stale ≡ false

  abbrev any : OpenTxn → Type 0
  any h = Unit {0}

  -- Which refusals ended scripts, and how the calls were answered.
  pub record PreservedOnAbstract (cs : List Call) (e : ℕ → End) : Type 0 where
    pub ends : Known e
    pub answers : AnsweredInRounds (abstract_replies cs s₀)

  preserved-answer : (c : Call) (cs : List Call) (e : ℕ → End) → MayBe (refusal_in (abstract_reply s₀ c cs).answer)
      → PreservedOnAbstract cs e → PreservedOnAbstract (cs ++ (c ∷ [])) e
  preserved-answer c cs e h old = record {
    ends = old.ends;
    answers = subst⁻¹ AnsweredInRounds (replies-one cs c s₀)
        (answered-more (abstract_replies cs s₀) (abstract_reply s₀ c cs) old.answers h);
  }

  preserved-end : (k n : ℕ) (c : Call) (cs : List Call) (e : ℕ → End) → refusal_in (abstract_reply s₀ c cs).answer ≡ suc n
      → EndsScript (suc n) → PreservedOnAbstract cs e → PreservedOnAbstract (cs ++ (c ∷ [])) (put k (failed (suc n)) e)
  preserved-end k n c cs e f h old = let new = preserved-answer c cs e (inr (inr (subst⁻¹ EndsScript f h))) old in record {
    ends = known_more e k (failed (suc n)) (λ m q. subst EndsScript (failed-same q) h) new.ends;
    answers = new.answers;
  }

  pub abstract-laws : Laws (abstract_reply s₀) bytes minute x
  abstract-laws = record {
    is_closed = λ k cs. seat_after k cs ≡ vacant;
    given = λ k i cs. Open fresh k cs;
    ready = λ k cs. Open any k cs;
    invariant = PreservedOnAbstract;
    begun = λ k cs l e. let b = begin-seat k (abstract_after cs s₀) (small k l) e in
        (b.0, then-seat k (begin k) cs _ b.1, b.2);
    accepted = λ k i reader cs l m g e. ⊎_elim (λ f. absurd (f.0 e)) (λ f. (f.1, then-seat k _ cs _ f.2, f.3 ∙ g.2))
        (served-call k (abstract_after cs s₀) (small k l) _ g.0 g.1);
    refused_call = λ k i n o cs l g e. ⊎_elim
        (λ f. (g.0, then-seat k _ cs _ (ap (λ (s : Abstract). s.seats k) f.1 ∙ g.1), g.2))
        (λ f. absurd (omega (arith, e, f.0))) (served-call k (abstract_after cs s₀) (small k l) o g.0 g.1);
    skipped = λ k i cs l g. g;
    full = λ k cs l g. (g.0, g.1, tt);
    aborted = λ k i cs l g. then-seat k (abort k) cs _ (abort-seat k (abstract_after cs s₀) (small k l) g.0 g.1);
    dropped = λ k cs l g. then-seat k (abort k) cs _ (abort-seat k (abstract_after cs s₀) (small k l) g.0 g.1);
    granted = λ k cs l g e. ended k cs l g (inl e);
    staled = λ k cs l g e. ended k cs l g (inr e);
    held = λ k n cs l g e f. let c = commit-call k (abstract_after cs s₀) (small k l) minute g.0 g.1 in (
      g.0,
      then-seat k (commit k minute) cs _ (ap (λ (τ : AbstractTurn). τ.after.seats k) c.3
          ∙ ap (λ (s : Abstract). s.seats k) (committed-left k (abstract_after cs s₀) g.0 _ n
          (sym (ap (λ (τ : AbstractTurn). refusal_in τ.reply.answer) c.3) ∙ e) f) ∙ g.1),
      tt,
    );
    closed-other = λ j k c cs q h e. then-seat j c cs _ (same-quiet k (abstract_after cs s₀) j h c q ∙ e);
    given-other = λ j k i c cs q h g. (g.0, then-seat j c cs _ (same-quiet k (abstract_after cs s₀) j h c q ∙ g.1), g.2);
    ready-other = λ j k c cs q h g. (g.0, then-seat j c cs _ (same-quiet k (abstract_after cs s₀) j h c q ∙ g.1), tt);
    closed-commit = λ j k cs h e. then-seat j (commit k minute) cs _ (vacant-commit k (abstract_after cs s₀) j h minute e);
    ready-commit = λ j k cs h g. let f = occupied-commit k (abstract_after cs s₀) j h minute g.0 g.1 in
        (f.0, then-seat j (commit k minute) cs _ f.1, tt);
    invariant-begun =
        λ k cs e l g. preserved-answer (begin k) cs e (inl (begin-plain k (abstract_after cs s₀) (small k l) g));
    invariant-accepted = λ k o cs e l f. preserved-answer (on k o) cs e (inl f);
    invariant-aborted = λ k i cs e l g. preserved-answer (abort k) cs e
        (inl (abort-plain k (abstract_after cs s₀) (small k l) g.0 g.1));
    invariant-dropped =
        λ k cs e l g. preserved-answer (abort k) cs e (inl (abort-plain k (abstract_after cs s₀) (small k l) g.0 g.1));
    invariant-failed = λ k i n o cs e l g f h. preserved-end k n (on k o) cs e f
        (inl (call-refused k (abstract_after cs s₀) (small k l) o g.0 n g.1 g.2 f));
    invariant-granted = λ k cs e l g f h old. let new = preserved-answer (commit k minute) cs e (inl f) old in record {
      ends = known_more e k passed (λ m q. absurd (not-failed passed m (unfold is_failed in refl) q)) new.ends;
      answers = new.answers;
    };
    invariant-stale = λ k cs e l g f. preserved-answer (commit k minute) cs e (inr (inl f));
    invariant-refused = λ k n cs e l g f d h. let c =
        commit-call k (abstract_after cs s₀) (small k l) minute g.0 g.1 in
        preserved-end k n (commit k minute) cs e f (committed-refused k (abstract_after cs s₀) g.0 c.0 g.0.stale
        c.1 c.2 n (sym (ap (λ (τ : AbstractTurn). refusal_in τ.reply.answer) c.3) ∙ f) d);
  }
    where
      ended : (k : ℕ) (cs : List Call) → k < x.count → Open any k cs → (refusal_in (abstract_reply s₀ (commit k minute)
          cs).answer ≡ 0) ⊎ (refusal_in (abstract_reply s₀ (commit k minute) cs).answer ≡ 13)
          → seat_after k (cs ++ (commit k minute ∷ [])) ≡ vacant
      ended k cs l g e = let c = commit-call k (abstract_after cs s₀) (small k l) minute g.0 g.1 in
          then-seat k (commit k minute) cs _ (ap (λ (τ : AbstractTurn). τ.after.seats k) c.3
          ∙ committed-ends k (abstract_after cs s₀) g.0 _
          (subst (λ (τ : AbstractTurn). (refusal_in τ.reply.answer ≡ 0) ⊎ (refusal_in τ.reply.answer ≡ 13)) c.3 e))

  -- "nobody is stale before the first Commit of a round"
  pub abstract-first : (k : ℕ) (cs : List Call) → k < x.count → abstract-laws.given k 16 cs
      → refusal_in (abstract_reply s₀ (commit k minute) cs).answer ≡ 13 → ⊥
  unfolding abstract-laws
  abstract-first k cs l g e = let c = commit-call k (abstract_after cs s₀) (small k l) minute g.0 g.1 in
      committed-first k (abstract_after cs s₀) g.0 c.0 c.1 c.2
      (sym (ap (λ (τ : AbstractTurn). refusal_in τ.reply.answer) (c.3 ∙ ap (λ (b : Bool). abstract_committed k g.0
      (abstract_after cs s₀) (commit_refusal c.0 b c.1 c.2)) g.2)) ∙ e)

  pub abstract-rests : (reader : List ℕ) → ((j : ℕ) → s₀.seats j ≡ vacant)
      → AtRest (abstract_reply s₀) bytes minute x abstract-laws (nothing_done reader)
  abstract-rests reader h = unfold abstract-laws abstract_after abstract_replies AnsweredInRounds is_failed in record {
    below = λ j l. h j;
    above = λ j l m. h j;
    invariant = record { ends = λ k n q. absurd (not-failed unfinished n refl q); answers = tt };
  }

  pub sighted-preserved : (w : Work) → AtRest (abstract_reply s₀) bytes minute x abstract-laws w
      → PreservedOnAbstract w.made w.ends
  sighted-preserved w s = unfold abstract-laws in s.invariant
