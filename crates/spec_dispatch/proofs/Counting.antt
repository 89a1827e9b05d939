-- How many scripts go on and how many Commits are made, round by round: every script is over within as many rounds as there are
-- scripts.
use mathlib.Core.{Bool.{Bool, true, false, cond, ◌&&◌, true≢false}, List.List, Logic.{◌⊎◌, inl, inr, ⊎_elim}}
use mathlib.Core.Path.{◌≡◌, refl, sym, ap, ◌∙◌, subst}
use borrow.Author.Tests.{eqb-true}
use lib.Dec.{ltb, eqb}
use native.Mathlib.Omega.{arith}
use Prim.Native.Nat.{ℕ, zero, suc, ◌+◌, ◌*◌, ◌≤◌, ◌<◌}
use Rattle.buffers.proofs.PartLaws.{le-or-lt}
use Rattle.spec.{specs.{Messages.{Call, begin, commit, Reply}, Transactions.put}, proofs.Abstract.Rerun.put_same}
use Rattle.spec.proofs.Abstract.Lists.{put_other}
use Rattle.spec_dispatch.specs.Rounds.{Scripts, End, passed, failed, goes_on, Work, nothing_done, with_commit, with_call}
use Rattle.spec_dispatch.specs.Rounds.{refusal_in, failing, or_failing, decided, begins, perform, turn, turns, passes}
use Rattle.spec_dispatch.specs.Rounds.{commit_one, commit_all, round, rounds}
use Rattle.spec_dispatch.proofs.Phases.{Laws, Sides, Rest, Given, AtRest, before, all-given, round-rests}

-- ---- how many go on

abbrev one : Bool → ℕ
one b = cond b 1 0

-- Those below n.
unfoldable going : ℕ → (ℕ → End) → ℕ
going zero e = 0
going (suc n) e = going n e + one (goes_on (e n))

-- Who goes on later went on before.
abbrev Fades : (ℕ → End) → (ℕ → End) → Type 0
Fades e f = (j : ℕ) → goes_on (f j) ≡ true → goes_on (e j) ≡ true

one-le : (a b : Bool) → (a ≡ true → b ≡ true) → one a ≤ one b
one-le false b h = omega arith
one-le true true h = omega arith
one-le true false h = absurd (true≢false (sym (h refl)))

one_at_most : (a : Bool) → one a ≤ 1
one_at_most true = omega arith
one_at_most false = omega arith

going-at-most : (n : ℕ) (e : ℕ → End) → going n e ≤ n
unfolding going
going-at-most zero e = omega arith
going-at-most (suc n) e = omega (arith, going-at-most n e, one_at_most (goes_on (e n)))

going_less : (n : ℕ) (e f : ℕ → End) → Fades e f → going n f ≤ going n e
unfolding going
going_less zero e f h = omega arith
going_less (suc n) e f h = omega (arith, going_less n e f h, one-le (goes_on (f n)) (goes_on (e n)) (h n))

going_drop : (n k : ℕ) (e f : ℕ → End) → Fades e f → k < n → goes_on (e k) ≡ true → goes_on (f k) ≡ false
    → suc (going n f) ≤ going n e
unfolding going
going_drop zero k e f h l a b = absurd (omega arith)
going_drop (suc n) k e f h l a b = ⊎_elim (λ m. let q : n ≡ k = omega arith in let c : one (goes_on (e n)) ≡ 1 =
    ap (λ (i : ℕ). one (goes_on (e i))) q ∙ ap (λ (z : Bool). one z) a in let d : one (goes_on (f n)) ≡ 0 =
    ap (λ (i : ℕ). one (goes_on (f i))) q ∙ ap (λ (z : Bool). one z) b in omega (arith, going_less n e f h, c, d))
    (λ m. omega (arith, going_drop n k e f h m a b, one-le (goes_on (f n)) (goes_on (e n)) (h n))) (le-or-lt n k)

going-none : (n : ℕ) (e : ℕ → End) → ((j : ℕ) → j < n → goes_on (e j) ≡ false) → going n e ≡ 0
unfolding going
going-none zero e h = refl
going-none (suc n) e h = let c : one (goes_on (e n)) ≡ 0 = ap (λ (z : Bool). one z) (h n (omega arith)) in
    omega (arith, going-none n e (λ j l. h j (omega arith)), c)

-- One that is over from now on.
put-fades : (k : ℕ) (a : End) → goes_on a ≡ false → (e : ℕ → End) → Fades e (put k a e)
unfolding put
put-fades k a h e j = pick (eqb j k)
  where
    pick : (b : Bool) → goes_on (cond b a (e j)) ≡ true → goes_on (e j) ≡ true
    pick true q = absurd (true≢false (sym q ∙ h))
    pick false q = q

going-over : (n : ℕ) (e : ℕ → End) → going n e ≡ 0 → (j : ℕ) → j < n → goes_on (e j) ≡ false
going-over n e z j l = pick (goes_on (e j)) refl
  where
    pick : (b : Bool) → goes_on (e j) ≡ b → goes_on (e j) ≡ false
    pick false q = q
    pick true q = absurd (omega (
      arith,
      z,
      going_drop n j e (put j passed e) (put-fades j passed (unfold goes_on in refl) e) l q (ap goes_on (put_same j passed e)
          ∙ (unfold goes_on in refl)),
    ))

-- ---- what a round does to ends and Commits

-- Ends only fade, and no Commit is made.
record Fading (w v : Work) : Type 0 where
  fades : Fades w.ends v.ends
  commits : v.commits ≡ w.commits

fading-same : (w : Work) → Fading w w
fading-same w = record { fades = λ j h. h; commits = refl }

fading-then : (u v w : Work) → Fading u v → Fading v w → Fading u w
fading-then u v w a b = record { fades = λ j h. a.fades j (b.fades j h); commits = b.commits ∙ a.commits }

failing-fading : (k n : ℕ) (w : Work) → Fading w (failing k n w)
unfolding failing
failing-fading k n w = record { fades = put-fades k (failed n) (unfold goes_on in refl) w.ends; commits = refl }

or-failing-fading : (k r : ℕ) (w : Work) → Fading w (or_failing k r w)
unfolding or_failing
or-failing-fading k zero w = fading-same w
or-failing-fading k (suc n) w = failing-fading k (suc n) w

-- A decided Commit changes no other's end, and leaves its own script over unless it was refused with 13.
decided-fading : (k r : ℕ) (w : Work) → Fading w (decided k r w)
unfolding decided
decided-fading k zero w = record { fades = put-fades k passed (unfold goes_on in refl) w.ends; commits = refl }
decided-fading k (suc n) w = pick (eqb (suc n) 13)
  where
    pick : (b : Bool) → Fading w (cond b w (failing k (suc n) w))
    pick true = fading-same w
    pick false = failing-fading k (suc n) w

decided-other : (k r j : ℕ) (w : Work) → (j ≡ k → ⊥) → (decided k r w).ends j ≡ w.ends j
unfolding decided
decided-other k zero j w h = put_other k passed w.ends j h
decided-other k (suc n) j w h = pick (eqb (suc n) 13)
  where
    pick : (b : Bool) → (cond b w (failing k (suc n) w)).ends j ≡ w.ends j
    pick true = refl
    pick false = unfold failing in put_other k (failed (suc n)) w.ends j h

decided-over : (k r : ℕ) (w : Work) → (r ≡ 13 → ⊥) → goes_on ((decided k r w).ends k) ≡ false
unfolding decided
decided-over k zero w h = ap goes_on (put_same k passed w.ends) ∙ (unfold goes_on in refl)
decided-over k (suc n) w h = pick (eqb (suc n) 13) refl
  where
    pick : (b : Bool) → eqb (suc n) 13 ≡ b → goes_on ((cond b w (failing k (suc n) w)).ends k) ≡ false
    pick true e = absurd (h (eqb-true (suc n) 13 e))
    pick false e = unfold failing in ap goes_on (put_same k (failed (suc n)) w.ends) ∙ (unfold goes_on in refl)

module _ (reply_to : Call → List Call → Reply) (bytes : List ℕ) (minute : ℕ) (x : Scripts) where
  begins-fading : (k : ℕ) (w : Work) → Fading w (begins reply_to bytes minute x k w)
  unfolding begins
  begins-fading zero w = fading-same w
  begins-fading (suc k) w = let v = begins reply_to bytes minute x k w in pick v (begins-fading k w) (goes_on (v.ends k))
    where
      pick : (v : Work) → Fading w v → (b : Bool) → Fading w (cond b (with_call (begin k) v) v)
      pick v f true = record { fades = f.fades; commits = f.commits }
      pick v f false = f

  turn-fading : (i k : ℕ) (w : Work) → Fading w (turn reply_to bytes minute x i k w)
  unfolding turn perform
  turn-fading i k w = pick (goes_on (w.ends k) && ltb i (x.script k).count)
    where
      pick : (b : Bool) → Fading w (cond b (perform reply_to bytes minute x k ((x.script k).call i) w) w)
      pick true = let f = or-failing-fading k _ _ in record { fades = f.fades; commits = f.commits }
      pick false = fading-same w

  turns-fading : (i k : ℕ) (w : Work) → Fading w (turns reply_to bytes minute x i k w)
  unfolding turns
  turns-fading i zero w = fading-same w
  turns-fading i (suc k) w = fading-then w (turns reply_to bytes minute x i k w) _ (turns-fading i k w) (turn-fading i k _)

  passes-fading : (i : ℕ) (w : Work) → Fading w (passes reply_to bytes minute x i w)
  unfolding passes
  passes-fading zero w = fading-same w
  passes-fading (suc i) w = fading-then w (passes reply_to bytes minute x i w) _ (passes-fading i w) (turns-fading i x.count _)

  -- After the Commit of a script that goes on.
  abbrev after_commit : ℕ → Work → Work
  after_commit k w = decided k (refusal_in (reply_to (commit k minute) w.made).answer)
      (with_commit (with_call (commit k minute) w))

  -- The Commits below k: who goes on does one.
  record Committing (k : ℕ) (w v : Work) : Type 0 where
    fades : Fades w.ends v.ends
    rest : (j : ℕ) → k ≤ j → v.ends j ≡ w.ends j
    commits : v.commits ≡ w.commits + going k w.ends

  one-committing : (k : ℕ) (w v : Work) → Committing k w v → Committing (suc k) w (commit_one reply_to bytes minute x k v)
  unfolding commit_one going
  one-committing k w v c = pick (goes_on (v.ends k)) refl
    where
      its : (b : Bool) → goes_on (v.ends k) ≡ b → goes_on (w.ends k) ≡ b
      its b e = ap goes_on (sym (c.rest k (omega arith))) ∙ e

      pick : (b : Bool) → goes_on (v.ends k) ≡ b → Committing (suc k) w (cond b (after_commit k v) v)
      pick true e = let r = refusal_in (reply_to (commit k minute) v.made).answer in
          let u = with_commit (with_call (commit k minute) v) in let d = decided-fading k r u in
          let o : one (goes_on (w.ends k)) ≡ 1 = ap one (its true e) in record {
            fades = λ j h. c.fades j (d.fades j h);
            rest = λ j l. decided-other k r j u (λ q. omega arith) ∙ c.rest j (omega arith);
            commits = d.commits ∙ omega (arith, c.commits, o);
          }
      pick false e = let o : one (goes_on (w.ends k)) ≡ 0 = ap one (its false e) in
          record { fades = c.fades; rest = λ j l. c.rest j (omega arith); commits = omega (arith, c.commits, o) }

  all-committing : (k : ℕ) (w : Work) → Committing k w (commit_all reply_to bytes minute x k w)
  unfolding commit_all going
  all-committing zero w = record { fades = λ j h. h; rest = λ j l. refl; commits = omega arith }
  all-committing (suc k) w = one-committing k w _ (all-committing k w)

  one-fades : (k : ℕ) (w : Work) → Fades w.ends (commit_one reply_to bytes minute x k w).ends
  unfolding commit_one
  one-fades k w = pick (goes_on (w.ends k))
    where
      pick : (b : Bool) → Fades w.ends (cond b (after_commit k w) w).ends
      pick true = (decided-fading k _ (with_commit (with_call (commit k minute) w))).fades
      pick false = λ j h. h

  passed_over : (k : ℕ) (w : Work) → goes_on (w.ends k) ≡ false → commit_one reply_to bytes minute x k w ≡ w
  passed_over k w e = unfold commit_one in ap (λ (b : Bool). cond b (after_commit k w) w) e

  -- ---- where every script is over

  module _ (w : Work) (over : (j : ℕ) → j < x.count → goes_on (w.ends j) ≡ false) where
    idle-begins : (k : ℕ) → k ≤ x.count → begins reply_to bytes minute x k w ≡ w
    unfolding begins
    idle-begins zero l = refl
    idle-begins (suc k) l = ap (λ (v : Work). cond (goes_on (v.ends k)) (with_call (begin k) v) v)
        (idle-begins k (omega arith)) ∙ ap (λ (b : Bool). cond b (with_call (begin k) w) w) (over k (omega arith))

    idle-turns : (i k : ℕ) → k ≤ x.count → turns reply_to bytes minute x i k w ≡ w
    unfolding turns turn
    idle-turns i zero l = refl
    idle-turns i (suc k) l = ap (turn reply_to bytes minute x i k) (idle-turns i k (omega arith)) ∙ ap (λ (b : Bool). cond (b
        && ltb i (x.script k).count) (perform reply_to bytes minute x k ((x.script k).call i) w) w) (over k (omega arith))

    idle-passes : (i : ℕ) → passes reply_to bytes minute x i w ≡ w
    unfolding passes
    idle-passes zero = refl
    idle-passes (suc i) = ap (turns reply_to bytes minute x i x.count) (idle-passes i) ∙ idle-turns i x.count (omega arith)

    idle-commits : (k : ℕ) → k ≤ x.count → commit_all reply_to bytes minute x k w ≡ w
    unfolding commit_all
    idle-commits zero l = refl
    idle-commits (suc k) l = ap (commit_one reply_to bytes minute x k) (idle-commits k (omega arith))
        ∙ passed_over k w (over k (omega arith))

    idle-round : round reply_to bytes minute x w ≡ w
    unfolding round
    idle-round = ap (λ (v : Work). commit_all reply_to bytes minute x x.count (passes reply_to bytes minute x 16 v))
        (idle-begins x.count (omega arith)) ∙ ap (commit_all reply_to bytes minute x x.count) (idle-passes 16)
        ∙ idle-commits x.count (omega arith)

  -- Where every script is over after j rounds, further ones change nothing.
  pub rounds-idle : (j : ℕ) (w : Work) → ((k : ℕ) → k < x.count → goes_on ((rounds reply_to bytes minute x j w).ends k)
      ≡ false) → (i : ℕ) → rounds reply_to bytes minute x (i + j) w ≡ rounds reply_to bytes minute x j w
  unfolding rounds
  rounds-idle j w over zero = let e : 0 + j ≡ j = omega arith in ap (λ (a : ℕ). rounds reply_to bytes minute x a w) e
  rounds-idle j w over (suc i) = let e : suc i + j ≡ suc (i + j) = omega arith in
      ap (λ (a : ℕ). rounds reply_to bytes minute x a w) e ∙ ap (round reply_to bytes minute x) (rounds-idle j w over i)
      ∙ idle-round (rounds reply_to bytes minute x j w) over

-- ---- numbers

-- The sum of the numbers up to n.
unfoldable sum_to : ℕ → ℕ
sum_to zero = 0
sum_to (suc n) = sum_to n + suc n

sum_more : (m n : ℕ) → m ≤ n → sum_to m ≤ sum_to n
unfolding sum_to
sum_more m zero l = let e : m ≡ 0 = omega arith in rw e (omega arith)
sum_more m (suc n) l = ⊎_elim (λ (k : suc n ≤ m). let e : m ≡ suc n = omega arith in rw e (omega arith))
    (λ (k : m < suc n). omega (arith, sum_more m n (omega arith))) (le-or-lt (suc n) m)

sum-above : (n : ℕ) → n ≤ sum_to n
unfolding sum_to
sum-above zero = omega arith
sum-above (suc n) = omega arith

sum-fewer : (u v : ℕ) → (v ≡ 0) ⊎ (suc v ≤ u) → u + sum_to v ≤ sum_to u
unfolding sum_to
sum-fewer u v (inl e) = rw e (omega (arith, sum-above u))
sum-fewer zero v (inr l) = absurd (omega arith)
sum-fewer (suc u) v (inr l) = omega (arith, sum_more v u (omega arith))

sum_twice : (n : ℕ) → 2 * sum_to n ≡ n * (n + 1)
unfolding sum_to
sum_twice zero = refl
sum_twice (suc n) = omega (arith, sum_twice n)

-- ---- the rounds

module _ (reply_to : Call → List Call → Reply) (bytes : List ℕ) (minute : ℕ) (x : Scripts) (L : Laws reply_to bytes minute x)
    (first : (k : ℕ) (cs : List Call) → k < x.count → L.given k 16 cs → refusal_in (reply_to (commit k minute) cs).answer ≡ 13
    → ⊥) where
  -- How many scripts go on; all of them have been given their calls; and the Commits below k.
  abbrev many : Work → ℕ
  many w = going x.count w.ends

  abbrev Full : Work → Type 0
  Full w = Sides reply_to bytes minute x L (Rest reply_to bytes minute x L) (Given reply_to bytes minute x L 16) 0 w

  abbrev committed : ℕ → Work → Work
  committed k w = commit_all reply_to bytes minute x k w

  -- The first Commit of a round does not answer 13.
  module _ (k : ℕ) (w : Work) (l : k < x.count) (s : Full w) (e : goes_on (w.ends k) ≡ true) where
    first-over : goes_on ((commit_one reply_to bytes minute x k w).ends k) ≡ false
    first-over = unfold commit_one in
        let g = subst (λ (b : Bool). Given reply_to bytes minute x L 16 b k w.made) e (s.above k (omega arith) l) in
        ap (λ (b : Bool). goes_on ((cond b (after_commit reply_to bytes minute x k w) w).ends k)) e
        ∙ decided-over k _ (with_commit (with_call (commit k minute) w)) (first k w.made l g)

    first-drops : suc (many (commit_one reply_to bytes minute x k w)) ≤ many w
    first-drops = going_drop x.count k w.ends _ (one-fades reply_to bytes minute x k w) l e first-over

  -- Either no Commit was made below k, and nobody below k goes on; or one script fewer goes on.
  abbrev Fewer : ℕ → Work → Type 0
  Fewer k w = ((committed k w ≡ w) × ((j : ℕ) → j < k → goes_on (w.ends j) ≡ false)) ⊎ (suc (many (committed k w)) ≤ many w)

  fewer : (k : ℕ) (w : Work) → k ≤ x.count → Full w → Fewer k w
  unfolding commit_all
  fewer zero w l s = inl (refl, λ j m. absurd (omega arith))
  fewer (suc k) w l s = step (fewer k w (omega arith) s) (goes_on (w.ends k)) refl
    where
      step : Fewer k w → (b : Bool) → goes_on (w.ends k) ≡ b → Fewer (suc k) w
      step (inr h) b e = let v = committed k w in
          inr (omega (arith, h, going_less x.count v.ends _ (one-fades reply_to bytes minute x k v)))
      step (inl h) true e = inr (subst (λ (v : Work). suc (many (commit_one reply_to bytes minute x k v)) ≤ many w)
          (sym h.0) (first-drops k w (omega arith) s e))
      step (inl h) false e = inl (
        ap (commit_one reply_to bytes minute x k) h.0 ∙ passed_over reply_to bytes minute x k w e,
        λ j m. ⊎_elim (λ q. let f : j ≡ k = omega arith in ap (λ (i : ℕ). goes_on (w.ends i)) f ∙ e) (λ q. h.1 j q)
            (le-or-lt k j),
      )

  -- After j rounds.
  record Rounded (j : ℕ) (w : Work) : Type 0 where
    rests : AtRest reply_to bytes minute x L w
    few : w.commits + sum_to (many w) ≤ sum_to x.count
    shrinks : (many w ≡ 0) ⊎ (many w + j ≤ x.count)

  rounded : (j : ℕ) (w : Work) → Rounded j w → Rounded (suc j) (round reply_to bytes minute x w)
  rounded j w r = let u = begins reply_to bytes minute x x.count w in let v = before reply_to bytes minute x L w in
      let z : Work = round reply_to bytes minute x w in let e : z ≡ committed x.count v = unfold round in refl in
      let f = fading-then w u v (begins-fading reply_to bytes minute x x.count w)
      (passes-fading reply_to bytes minute x 16 u) in let less = going_less x.count w.ends v.ends f.fades in
      let made : z.commits ≡ v.commits + many v = ap (λ (u : Work). u.commits) e
      ∙ (all-committing reply_to bytes minute x x.count v).commits in
      let drop : (many z ≡ 0) ⊎ (suc (many z) ≤ many w) = ⊎_elim (λ h. inl (ap many (e ∙ h.0) ∙ going-none x.count
      v.ends h.1)) (λ h. inr (subst (λ (u : Work). suc (many u) ≤ many w) (sym e) (omega (arith, h, less))))
      (fewer x.count v (omega arith) (all-given reply_to bytes minute x L w r.rests)) in record {
        rests = round-rests reply_to bytes minute x L w r.rests;
        few = omega (arith, r.few, made, f.commits, less, sum-fewer (many w) (many z) drop);
        shrinks =
            ⊎_elim inl (λ d. ⊎_elim (λ h. absurd (omega (arith, d, h))) (λ h. inr (omega (arith, d, h))) r.shrinks) drop;
      }

  rounded-all : (j : ℕ) (w : Work) → Rounded 0 w → Rounded j (rounds reply_to bytes minute x j w)
  unfolding rounds
  rounded-all zero w r = r
  rounded-all (suc j) w r = rounded j _ (rounded-all j w r)

  module _ (reader : List ℕ) (start : AtRest reply_to bytes minute x L (nothing_done reader)) where
    abbrev go : ℕ → Work
    go j = rounds reply_to bytes minute x j (nothing_done reader)

    all-rounds : Rounded x.count (go x.count)
    all-rounds = let g = going-at-most x.count (nothing_done reader).ends in
        rounded-all x.count (nothing_done reader) (record {
          rests = start;
          few = omega (arith, sum_more (many (nothing_done reader)) x.count g);
          shrinks = inr (omega (arith, g));
        })

    -- Every script is over, few Commits were made, and more rounds change nothing.
    pub rounds-over : (k : ℕ) → k < x.count → goes_on ((rounds reply_to bytes minute x x.count (nothing_done reader)).ends k)
        ≡ false
    rounds-over =
        going-over x.count (go x.count).ends (⊎_elim (λ h. h) (λ h. omega (arith, h)) all-rounds.shrinks)

    pub rounds-few : 2 * (rounds reply_to bytes minute x x.count (nothing_done reader)).commits ≤ x.count * (x.count + 1)
    rounds-few = omega (arith, all-rounds.few, sum_twice x.count)

    pub rounds-stop : (j : ℕ) → rounds reply_to bytes minute x (j + x.count) (nothing_done reader) ≡ rounds reply_to bytes
        minute x x.count (nothing_done reader)
    rounds-stop = rounds-idle reply_to bytes minute x x.count (nothing_done reader) rounds-over
