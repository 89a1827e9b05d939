-- The rounds over any machine for which some laws hold: which transactions are open at each point of a round.
use mathlib.Core.{Bool.{Bool, true, false, cond, ◌&&◌}, List.{List, [], ◌∷◌, ◌++◌}, Logic.⊎_elim}
use mathlib.Core.Path.{◌≡◌, refl, sym, ◌∙◌, subst}
use borrow.Author.Tests.{ltb-true, ltb-false, eqb-true, eqb-false}
use lib.Dec.{ltb, eqb}
use native.Mathlib.Omega.{arith}
use Prim.Native.Nat.{ℕ, zero, suc, ◌≤◌, ◌<◌}
use Rattle.buffers.proofs.PartLaws.{le-or-lt}
use Rattle.spec.{specs.{Messages.{Op, Call, begin, on, commit, abort, Reply}, Transactions.put}, proofs.Abstract.Rerun.put_same}
use Rattle.spec.proofs.Abstract.Lists.{put_other}
use Rattle.spec_dispatch.specs.Rounds.{Scripts, End, passed, failed, goes_on, Work, with_end, with_reader, with_commit}
use Rattle.spec_dispatch.specs.Rounds.{with_call, refusal_in, failing, or_failing, decided, op_of, begins, perform, turn, turns}
use Rattle.spec_dispatch.specs.Rounds.{passes, commit_one, commit_all, round, rounds}

-- The calls of transaction k that grant nothing.
pub data Quiet (k : ℕ) : Call → Type 0 where
  begins-it : Quiet k (begin k)
  calls-it : (o : Op) → Quiet k (on k o)
  aborts-it : Quiet k (abort k)

-- After a list of calls a transaction is closed; or it is open, has been given its first i calls, and no grant came since; or it
-- is open and has been given all. Besides, something holds of the calls made and the scripts' ends.
pub record Laws (reply_to : Call → List Call → Reply) (bytes : List ℕ) (minute : ℕ) (x : Scripts) : Type 1 where
  pub is_closed : ℕ → List Call → Type 0
  pub given : ℕ → ℕ → List Call → Type 0
  pub ready : ℕ → List Call → Type 0
  pub invariant : List Call → (ℕ → End) → Type 0
  -- a call of its own
  pub begun : (k : ℕ) (cs : List Call) → k < x.count → is_closed k cs → given k 0 (cs ++ (begin k ∷ []))
  pub accepted : (k i : ℕ) (reader : List ℕ) (cs : List Call) → k < x.count → i < (x.script k).count → given k i cs
      → refusal_in (reply_to (on k (op_of bytes reader ((x.script k).call i))) cs).answer ≡ 0
      → given k (suc i) (cs ++ (on k (op_of bytes reader ((x.script k).call i)) ∷ []))
  pub refused_call : (k i n : ℕ) (o : Op) (cs : List Call) → k < x.count → given k i cs
      → refusal_in (reply_to (on k o) cs).answer ≡ suc n → given k i (cs ++ (on k o ∷ []))
  pub skipped : (k i : ℕ) (cs : List Call) → (x.script k).count ≤ i → given k i cs → given k (suc i) cs
  pub full : (k : ℕ) (cs : List Call) → k < x.count → given k 16 cs → ready k cs
  pub aborted : (k i : ℕ) (cs : List Call) → k < x.count → given k i cs → is_closed k (cs ++ (abort k ∷ []))
  pub dropped : (k : ℕ) (cs : List Call) → k < x.count → ready k cs → is_closed k (cs ++ (abort k ∷ []))
  pub granted : (k : ℕ) (cs : List Call) → k < x.count → ready k cs → refusal_in (reply_to (commit k minute) cs).answer ≡ 0
      → is_closed k (cs ++ (commit k minute ∷ []))
  pub staled : (k : ℕ) (cs : List Call) → k < x.count → ready k cs → refusal_in (reply_to (commit k minute) cs).answer ≡ 13
      → is_closed k (cs ++ (commit k minute ∷ []))
  pub held : (k n : ℕ) (cs : List Call) → k < x.count → ready k cs
      → refusal_in (reply_to (commit k minute) cs).answer ≡ suc n → (suc n ≡ 13 → ⊥) → ready k (cs ++ (commit k minute ∷ []))
  -- a call of another
  pub closed-other : (j k : ℕ) (c : Call) (cs : List Call) → Quiet k c → (j ≡ k → ⊥) → is_closed j cs → is_closed j (cs ++ (c ∷ []))
  pub given-other : (j k i : ℕ) (c : Call) (cs : List Call) → Quiet k c → (j ≡ k → ⊥) → given j i cs → given j i (cs ++ (c ∷ []))
  pub ready-other : (j k : ℕ) (c : Call) (cs : List Call) → Quiet k c → (j ≡ k → ⊥) → ready j cs → ready j (cs ++ (c ∷ []))
  pub closed-commit : (j k : ℕ) (cs : List Call) → (j ≡ k → ⊥) → is_closed j cs → is_closed j (cs ++ (commit k minute ∷ []))
  pub ready-commit : (j k : ℕ) (cs : List Call) → (j ≡ k → ⊥) → ready j cs → ready j (cs ++ (commit k minute ∷ []))
  -- what is kept
  pub invariant-begun : (k : ℕ) (cs : List Call) (e : ℕ → End) → k < x.count → is_closed k cs → invariant cs e
      → invariant (cs ++ (begin k ∷ [])) e
  pub invariant-accepted : (k : ℕ) (o : Op) (cs : List Call) (e : ℕ → End) → k < x.count
      → refusal_in (reply_to (on k o) cs).answer ≡ 0 → invariant cs e → invariant (cs ++ (on k o ∷ [])) e
  pub invariant-aborted : (k i : ℕ) (cs : List Call) (e : ℕ → End) → k < x.count → given k i cs → invariant cs e
      → invariant (cs ++ (abort k ∷ [])) e
  pub invariant-dropped : (k : ℕ) (cs : List Call) (e : ℕ → End) → k < x.count → ready k cs → invariant cs e
      → invariant (cs ++ (abort k ∷ [])) e
  pub invariant-failed : (k i n : ℕ) (o : Op) (cs : List Call) (e : ℕ → End) → k < x.count → given k i cs
      → refusal_in (reply_to (on k o) cs).answer ≡ suc n → goes_on (e k) ≡ true → invariant cs e
      → invariant (cs ++ (on k o ∷ [])) (put k (failed (suc n)) e)
  pub invariant-granted :
      (k : ℕ) (cs : List Call) (e : ℕ → End) → k < x.count → ready k cs → refusal_in (reply_to (commit k minute) cs).answer ≡ 0
      → goes_on (e k) ≡ true → invariant cs e → invariant (cs ++ (commit k minute ∷ [])) (put k passed e)
  pub invariant-stale : (k : ℕ) (cs : List Call) (e : ℕ → End) → k < x.count → ready k cs
      → refusal_in (reply_to (commit k minute) cs).answer ≡ 13 → invariant cs e → invariant (cs ++ (commit k minute ∷ [])) e
  pub invariant-refused : (k n : ℕ) (cs : List Call) (e : ℕ → End) → k < x.count → ready k cs
      → refusal_in (reply_to (commit k minute) cs).answer ≡ suc n → (suc n ≡ 13 → ⊥) → goes_on (e k) ≡ true → invariant cs e
      → invariant (cs ++ (commit k minute ∷ [])) (put k (failed (suc n)) e)

-- Of a script that goes on, or not, as transaction j.
abbrev pub Stands : Type 1
Stands = Bool → ℕ → List Call → Type 0

module _ (reply_to : Call → List Call → Reply) (bytes : List ℕ) (minute : ℕ) (x : Scripts) (L : Laws reply_to bytes minute x) where
  -- Between rounds; when those that go on have been given i calls; and when they have been given all.
  abbrev pub Rest : Stands
  Rest b j cs = L.is_closed j cs

  abbrev pub Given : ℕ → Stands
  Given i true j cs = L.given j i cs
  Given i false j cs = L.is_closed j cs

  abbrev pub Ready : Stands
  Ready true j cs = L.ready j cs
  Ready false j cs = L.is_closed j cs

  -- Scripts below k are at one point, those from k on at another.
  pub record Sides (P Q : Stands) (k : ℕ) (w : Work) : Type 0 where
    pub below : (j : ℕ) → j < k → P (goes_on (w.ends j)) j w.made
    pub above : (j : ℕ) → k ≤ j → j < x.count → Q (goes_on (w.ends j)) j w.made
    pub invariant : L.invariant w.made w.ends

  -- One script more, by a step that leaves the ends of the others and where they are.
  sides-step : (P Q : Stands) (k : ℕ) (w v : Work) → Sides P Q k w → ((j : ℕ) → (j ≡ k → ⊥) → v.ends j ≡ w.ends j)
      → ((b : Bool) (j : ℕ) → (j ≡ k → ⊥) → P b j w.made → P b j v.made)
      → ((b : Bool) (j : ℕ) → (j ≡ k → ⊥) → Q b j w.made → Q b j v.made) → P (goes_on (v.ends k)) k v.made
      → L.invariant v.made v.ends → Sides P Q (suc k) v
  sides-step P Q k w v s e p q own state = record {
    below = λ j l. ⊎_elim (λ m. let f : j ≡ k = omega arith in subst (λ (i : ℕ). P (goes_on (v.ends i)) i v.made)
        (sym f) own) (λ m. let other : j ≡ k → ⊥ = λ f. omega arith in subst (λ (z : End). P (goes_on z) j v.made)
        (sym (e j other)) (p (goes_on (w.ends j)) j other (s.below j m))) (le-or-lt k j);
    above = λ j l m. let other : j ≡ k → ⊥ = λ f. omega arith in
        subst (λ (z : End). Q (goes_on z) j v.made) (sym (e j other))
        (q (goes_on (w.ends j)) j other (s.above j (omega arith) m));
    invariant = state;
  }

  -- A script that is passed over.
  sides-same : (P Q : Stands) (k : ℕ) (w : Work) → Sides P Q k w → P (goes_on (w.ends k)) k w.made → Sides P Q (suc k) w
  sides-same P Q k w s own = sides-step P Q k w w s (λ j h. refl) (λ b j h p. p) (λ b j h q. q) own s.invariant

  -- Where all are, the next phase starts.
  sides-again : (P Q R : Stands) (w : Work) → Sides P Q x.count w → Sides R P 0 w
  sides-again P Q R w s =
      record { below = λ j l. absurd (omega arith); above = λ j l m. s.below j m; invariant = s.invariant }

  module _ (k : ℕ) (c : Call) (cs : List Call) (q : Quiet k c) where
    rest-quiet : (b : Bool) (j : ℕ) → (j ≡ k → ⊥) → Rest b j cs → Rest b j (cs ++ (c ∷ []))
    rest-quiet b j h s = L.closed-other j k c cs q h s

    given-quiet : (i : ℕ) (b : Bool) (j : ℕ) → (j ≡ k → ⊥) → Given i b j cs → Given i b j (cs ++ (c ∷ []))
    given-quiet i true j h s = L.given-other j k i c cs q h s
    given-quiet i false j h s = L.closed-other j k c cs q h s

    ready-quiet : (b : Bool) (j : ℕ) → (j ≡ k → ⊥) → Ready b j cs → Ready b j (cs ++ (c ∷ []))
    ready-quiet true j h s = L.ready-other j k c cs q h s
    ready-quiet false j h s = L.closed-other j k c cs q h s

  ready-committed : (k : ℕ) (cs : List Call) (b : Bool) (j : ℕ) → (j ≡ k → ⊥) → Ready b j cs
      → Ready b j (cs ++ (commit k minute ∷ []))
  ready-committed k cs true j h s = L.ready-commit j k cs h s
  ready-committed k cs false j h s = L.closed-commit j k cs h s

  -- ---- Begin

  begin-step : (k : ℕ) (w : Work) → k < x.count → Sides (Given 0) Rest k w → (b : Bool) → goes_on (w.ends k) ≡ b
      → Sides (Given 0) Rest (suc k) (cond b (with_call (begin k) w) w)
  begin-step k w l s true e = sides-step (Given 0) Rest k w (with_call (begin k) w) s (λ j h. refl)
      (given-quiet k (begin k) w.made begins-it 0) (rest-quiet k (begin k) w.made begins-it) (subst (λ (b : Bool).
      Given 0 b k (w.made ++ (begin k ∷ []))) (sym e) (L.begun k w.made l (s.above k (omega arith) l)))
      (L.invariant-begun k w.made w.ends l (s.above k (omega arith) l) s.invariant)
  begin-step k w l s false e =
      sides-same (Given 0) Rest k w s (subst (λ (b : Bool). Given 0 b k w.made) (sym e) (s.above k (omega arith) l))

  begins-sides : (k : ℕ) (w : Work) → k ≤ x.count → Sides (Given 0) Rest 0 w
      → Sides (Given 0) Rest k (begins reply_to bytes minute x k w)
  unfolding begins
  begins-sides zero w l s = s
  begins-sides (suc k) w l s = let v = begins reply_to bytes minute x k w in
      begin-step k v (omega arith) (begins-sides k w (omega arith) s) (goes_on (v.ends k)) refl

  -- ---- a call

  module _ (i k : ℕ) (w : Work) (l : k < x.count) (s : Sides (Given (suc i)) (Given i) k w) (e : goes_on (w.ends k) ≡ true)
      (m : i < (x.script k).count) where
    abbrev asked : Call
    asked = on k (op_of bytes w.reader ((x.script k).call i))

    its_own : L.given k i w.made
    its_own = subst (λ (b : Bool). Given i b k w.made) e (s.above k (omega arith) l)

    performed : (reader : List ℕ) (r : ℕ) → refusal_in (reply_to asked w.made).answer ≡ r
        → Sides (Given (suc i)) (Given i) (suc k) (or_failing k r (with_reader reader (with_call asked w)))
    unfolding or_failing failing goes_on
    performed reader zero f = sides-step (Given (suc i)) (Given i) k w (with_reader reader (with_call asked w)) s
        (λ j h. refl) (given-quiet k asked w.made (calls-it _) (suc i)) (given-quiet k asked w.made (calls-it _) i)
        (subst (λ (b : Bool). Given (suc i) b k (w.made ++ (asked ∷ []))) (sym e) (L.accepted k i w.reader w.made l
        m its_own f)) (L.invariant-accepted k _ w.made w.ends l f s.invariant)
    performed reader (suc n) f = let cs = w.made ++ (asked ∷ []) in
        sides-step (Given (suc i)) (Given i) k w (failing k (suc n) (with_reader reader (with_call asked w))) s
        (λ j h. put_other k (failed (suc n)) w.ends j h) (λ b j h p. given-quiet k (abort k) cs aborts-it (suc i) b j h
        (given-quiet k asked w.made (calls-it _) (suc i) b j h p))
        (λ b j h p. given-quiet k (abort k) cs aborts-it i b j h (given-quiet k asked w.made (calls-it _) i b j h p))
        (subst (λ (z : End). Given (suc i) (goes_on z) k (cs ++ (abort k ∷ [])))
        (sym (put_same k (failed (suc n)) w.ends)) (L.aborted k i cs l (L.refused_call k i n _ w.made l its_own f)))
        (L.invariant-aborted k i cs _ l (L.refused_call k i n _ w.made l its_own f)
        (L.invariant-failed k i n _ w.made w.ends l its_own f e s.invariant))

  turn_step : (i k : ℕ) (w : Work) → k < x.count → Sides (Given (suc i)) (Given i) k w
      → Sides (Given (suc i)) (Given i) (suc k) (turn reply_to bytes minute x i k w)
  unfolding turn perform
  turn_step i k w l s = pick (goes_on (w.ends k)) (ltb i (x.script k).count) refl refl
    where
      pick : (b c : Bool) → goes_on (w.ends k) ≡ b → ltb i (x.script k).count ≡ c
          → Sides (Given (suc i)) (Given i) (suc k) (cond (b && c) (perform reply_to bytes minute x k ((x.script k).call i) w) w)
      pick true true e f = performed i k w l s e (ltb-true i (x.script k).count f) _ _ refl
      pick true false e f = sides-same (Given (suc i)) (Given i) k w s (subst (λ (b : Bool). Given (suc i) b k w.made)
          (sym e) (L.skipped k i w.made (ltb-false i (x.script k).count f)
          (subst (λ (b : Bool). Given i b k w.made) e (s.above k (omega arith) l))))
      pick false c e f = sides-same (Given (suc i)) (Given i) k w s (subst (λ (b : Bool). Given (suc i) b k w.made)
          (sym e) (subst (λ (b : Bool). Given i b k w.made) e (s.above k (omega arith) l)))

  turns-sides : (i k : ℕ) (w : Work) → k ≤ x.count → Sides (Given (suc i)) (Given i) 0 w
      → Sides (Given (suc i)) (Given i) k (turns reply_to bytes minute x i k w)
  unfolding turns
  turns-sides i zero w l s = s
  turns-sides i (suc k) w l s =
      turn_step i k (turns reply_to bytes minute x i k w) (omega arith) (turns-sides i k w (omega arith) s)

  passes-given : (i : ℕ) (w : Work) → Sides (Given 0) Rest x.count w
      → Sides Rest (Given i) 0 (passes reply_to bytes minute x i w)
  unfolding passes
  passes-given zero w s = sides-again (Given 0) Rest Rest w s
  passes-given (suc i) w s = let v = passes reply_to bytes minute x i w in let r = passes-given i w s in
      sides-again (Given (suc i)) (Given i) Rest _ (turns-sides i x.count v (omega arith)
      (record { below = λ j l. absurd (omega arith); above = r.above; invariant = r.invariant }))

  -- ---- Commit

  module _ (k : ℕ) (w : Work) (l : k < x.count) (s : Sides Rest Ready k w) (e : goes_on (w.ends k) ≡ true) where
    abbrev committed : List Call
    committed = w.made ++ (commit k minute ∷ [])

    own-ready : L.ready k w.made
    own-ready = subst (λ (b : Bool). Ready b k w.made) e (s.above k (omega arith) l)

    decided-sides : (r : ℕ) → refusal_in (reply_to (commit k minute) w.made).answer ≡ r
        → Sides Rest Ready (suc k) (decided k r (with_commit (with_call (commit k minute) w)))
    unfolding decided
    decided-sides zero f = sides-step Rest Ready k w (with_end k passed (with_commit (with_call (commit k minute) w))) s
        (λ j h. put_other k passed w.ends j h) (λ b j h p. L.closed-commit j k w.made h p)
        (ready-committed k w.made) (L.granted k w.made l own-ready f)
        (L.invariant-granted k w.made w.ends l own-ready f e s.invariant)
    decided-sides (suc n) f = pick (eqb (suc n) 13) refl
      where
        pick : (b : Bool) → eqb (suc n) 13 ≡ b → Sides Rest Ready (suc k) (cond b
            (with_commit (with_call (commit k minute) w)) (failing k (suc n) (with_commit (with_call (commit k minute) w))))
        pick true g = sides-step Rest Ready k w (with_commit (with_call (commit k minute) w)) s (λ j h. refl)
            (λ b j h p. L.closed-commit j k w.made h p) (ready-committed k w.made)
            (L.staled k w.made l own-ready (f ∙ eqb-true (suc n) 13 g))
            (L.invariant-stale k w.made w.ends l own-ready (f ∙ eqb-true (suc n) 13 g) s.invariant)
        pick false g = unfold failing in
            sides-step Rest Ready k w (failing k (suc n) (with_commit (with_call (commit k minute) w))) s
            (λ j h. put_other k (failed (suc n)) w.ends j h)
            (λ b j h p. L.closed-other j k (abort k) committed aborts-it h (L.closed-commit j k w.made h p))
            (λ b j h p. ready-quiet k (abort k) committed aborts-it b j h (ready-committed k w.made b j h p))
            (L.dropped k committed l (L.held k n w.made l own-ready f (eqb-false (suc n) 13 g)))
            (L.invariant-dropped k committed _ l (L.held k n w.made l own-ready f (eqb-false (suc n) 13 g))
            (L.invariant-refused k n w.made w.ends l own-ready f (eqb-false (suc n) 13 g) e s.invariant))

  commit-step : (k : ℕ) (w : Work) → k < x.count → Sides Rest Ready k w
      → Sides Rest Ready (suc k) (commit_one reply_to bytes minute x k w)
  unfolding commit_one
  commit-step k w l s = pick (goes_on (w.ends k)) refl
    where
      pick : (b : Bool) → goes_on (w.ends k) ≡ b → Sides Rest Ready (suc k) (cond b (decided k
          (refusal_in (reply_to (commit k minute) w.made).answer) (with_commit (with_call (commit k minute) w))) w)
      pick true e = decided-sides k w l s e _ refl
      pick false e = sides-same Rest Ready k w s (subst (λ (b : Bool). Ready b k w.made) e (s.above k (omega arith) l))

  commits-sides : (k : ℕ) (w : Work) → k ≤ x.count → Sides Rest Ready 0 w
      → Sides Rest Ready k (commit_all reply_to bytes minute x k w)
  unfolding commit_all
  commits-sides zero w l s = s
  commits-sides (suc k) w l s =
      commit-step k (commit_all reply_to bytes minute x k w) (omega arith) (commits-sides k w (omega arith) s)

  -- ---- a round

  -- Nothing is open.
  abbrev pub AtRest : Work → Type 0
  AtRest w = Sides Rest Rest x.count w

  -- Before its Commits.
  abbrev pub before : Work → Work
  before w = passes reply_to bytes minute x 16 (begins reply_to bytes minute x x.count w)

  pub all-given : (w : Work) → AtRest w → Sides Rest (Given 16) 0 (before w)
  all-given w s = passes-given 16 (begins reply_to bytes minute x x.count w)
      (begins-sides x.count w (omega arith) (sides-again Rest Rest (Given 0) w s))

  given-ready : (w : Work) → Sides Rest (Given 16) 0 w → Sides Rest Ready 0 w
  given-ready w s =
      record { below = s.below; above = λ j l m. each (goes_on (w.ends j)) j m (s.above j l m); invariant = s.invariant }
    where
      each : (b : Bool) (j : ℕ) → j < x.count → Given 16 b j w.made → Ready b j w.made
      each true j m h = L.full j w.made m h
      each false j m h = h

  pub round-rests : (w : Work) → AtRest w → AtRest (round reply_to bytes minute x w)
  unfolding round
  round-rests w s = let r = commits-sides x.count (before w) (omega arith) (given-ready (before w) (all-given w s)) in
      record { below = r.below; above = λ j l m. absurd (omega arith); invariant = r.invariant }

  pub rounds-rest : (j : ℕ) (w : Work) → AtRest w → AtRest (rounds reply_to bytes minute x j w)
  unfolding rounds
  rounds-rest zero w s = s
  rounds-rest (suc j) w s = round-rests _ (rounds-rest j w s)
