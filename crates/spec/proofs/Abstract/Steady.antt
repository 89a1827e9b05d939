-- A step that sights nothing on which two committed values differ does the same on both, the second with no shorter length.
use mathlib.Core.{Bool.{Bool, true, false, cond}, List.{List, [], ◌∷◌, ◌++◌}, Path.{◌≡◌, refl, sym, ap, ap₂, ◌∙◌, subst}}
use borrow.Author.Tests.{ltb-false}
use lib.Dec.{leb, ltb}
use native.Mathlib.Omega.{arith}
use Prim.Native.Nat.{ℕ, zero, suc, ◌+◌, ◌-◌, ◌*◌, min}
use Rattle.limits.specs.Limits.{file_bytes}
use Rattle.standings.specs.Table.{advance, pointer_settles, offset_of}
use Rattle.spec.specs.{Items.{Item, offset, file_length, Values, Prog, done, ask, and_then, result, asked}, Lengths.Longer}
use Rattle.spec.specs.Messages.{Op, seek, write, get_file_pointer, read}
use Rattle.spec.specs.Transactions.{Txn, Write, settle, Settled, past, all, settling}
use Rattle.spec.specs.Reading.{Source, own, file, bring, latest, fetch, length_for, length_sighted, gather}
use Rattle.spec.specs.Steps.{Stepped, check, or_given_back, seek_step, write_step, pointer_step, settled_by_read, read_settled}
use Rattle.spec.specs.Steps.{read_step, step}
use Rattle.spec.proofs.Abstract.Programs.{Every, every-left, every-right, result-and_then, asked-and_then}

module _ (v w : Values) (longer : Longer v w) where
  -- The items have the same values in both.
  abbrev Agree : List Item → Type 0
  Agree = Every (λ (i : Item). w i ≡ v i)

  -- A program that does the same on both where what it sights has the same values.
  unfoldable pub Steady : {A : Type 0} → Prog A → Type 0
  Steady p = Agree (asked v p) → (result w p ≡ result v p) × (asked w p ≡ asked v p)

  steady-done : {A : Type 0} (a : A) → Steady (done a)
  unfolding Steady result asked
  steady-done a h = (refl, refl)

  steady-ask : {A : Type 0} (i : Item) (g : ℕ → Prog A) → ((n : ℕ) → Steady (g n)) → Steady (ask i g)
  unfolding Steady result asked
  steady-ask i g s h =
      let r = s (v i) h.1 in
      (ap (λ (n : ℕ). result w (g n)) h.0 ∙ r.0, ap (λ (l : List Item). i ∷ l) (ap (λ (n : ℕ). asked w (g n)) h.0 ∙ r.1))

  steady-and_then : {A B : Type 0} (p : Prog A) (k : A → Prog B) → Steady p → ((a : A) → Steady (k a)) → Steady (and_then p k)
  unfolding Steady
  steady-and_then {A} {B} p k s t h = let a = result v p in
      let both : Agree (asked v p ++ asked v (k a)) = subst Agree (asked-and_then v p k) h in
      let r = s (every-left (λ (i : Item). w i ≡ v i) (asked v p) (asked v (k a)) both) in
      let q = t a (every-right (λ (i : Item). w i ≡ v i) (asked v p) (asked v (k a)) both) in (
        result-and_then w p k ∙ ap (λ (b : A). result w (k b)) r.0 ∙ q.0 ∙ sym (result-and_then v p k),
        asked-and_then w p k ∙ ap₂ (λ (l : List Item) (b : A). l ++ asked w (k b)) r.1 r.0
            ∙ ap (λ (l : List Item). asked v p ++ l) q.1 ∙ sym (asked-and_then v p k),
      )

  steady-check : (ok : Bool) (n : ℕ) (p : Prog Stepped) → Steady p → Steady (check ok n p)
  unfolding check
  steady-check true n p s = s
  steady-check false n p s = steady-done _

  steady-settling : (ds : List ℕ) (x : Txn) → Steady (settling ds x)
  unfolding settling
  steady-settling [] x = steady-done (all x)
  steady-settling (d ∷ ds) x =
      steady-ask (offset d) _ (λ c. pick c (leb (c + advance (x.standing d)) file_bytes) (steady-settling ds (settle d c x)))
    where
      pick : (c : ℕ) (b : Bool) → Steady (settling ds (settle d c x)) → Steady (cond b (settling ds (settle d c x)) (done past))
      pick c true s = s
      pick c false s = steady-done past

  steady-given-back : (next : Txn → Prog Stepped) → ((y : Txn) → Steady (next y)) → (s : Settled) → Steady (or_given_back next s)
  unfolding or_given_back
  steady-given-back next h past = steady-done _
  steady-given-back next h (all y) = h y

  steady-bring : (s : Source) (q : ℕ) → Steady (bring s q)
  unfolding bring
  steady-bring (own b) q = steady-done b
  steady-bring file q = steady-ask _ _ (λ b. steady-done b)

  module _ (file_of : ℕ → ℕ) where
    steady-fetch : (ws : List Write) (f p n : ℕ) → Steady (fetch file_of ws f p n)
    unfolding fetch
    steady-fetch ws f p zero = steady-done []
    steady-fetch ws f p (suc n) = steady-and_then (bring (latest file_of f p ws) (file_bytes * f + p)) _
        (steady-bring (latest file_of f p ws) (file_bytes * f + p))
        (λ b. steady-and_then (fetch file_of ws f (suc p) n) _ (steady-fetch ws f (suc p) n) (λ bs. steady-done (b ∷ bs)))

    steady-sighted : (b : Bool) (f : ℕ) (bytes : List ℕ) → Steady (length_sighted b f bytes)
    unfolding length_sighted
    steady-sighted true f bytes = steady-ask (file_length f) _ (λ n. steady-done bytes)
    steady-sighted false f bytes = steady-done bytes

    -- A Read that gave all it wanted gives as many bytes with a greater length; one that gave fewer sighted the length.
    steady-gather : (ws : List Write) (f p n : ℕ) → Steady (gather file_of ws f p n)
    unfolding Steady gather length_for length_sighted result asked
    steady-gather ws f p n h = let now = count (v (file_length f)) in
        let s = steady-and_then (fetch file_of ws f p now) (length_sighted (ltb now n) f) (steady-fetch ws f p now)
        (steady-sighted (ltb now n) f) h in let e = same (ltb now n) refl h in
        (ap (λ (m : ℕ). result w (given m)) e ∙ s.0, ap (λ (m : ℕ). asked w (given m)) e ∙ s.1)
      where
        count : ℕ → ℕ
        count committed = min n (length_for file_of f ws committed - p)

        given : ℕ → Prog (List ℕ)
        given m = and_then (fetch file_of ws f p m) (length_sighted (ltb m n) f)

        same : (b : Bool) → ltb (count (v (file_length f))) n ≡ b → Agree (asked v (and_then (fetch file_of ws f p
            (count (v (file_length f)))) (length_sighted b f))) → count (w (file_length f)) ≡ count (v (file_length f))
        same true e g = let fetched = fetch file_of ws f p (count (v (file_length f))) in
            let sighted : Agree (asked v (length_sighted true f (result v fetched))) =
            every-right (λ (i : Item). w i ≡ v i) (asked v fetched) (asked v (length_sighted true f (result v fetched)))
            (subst Agree (asked-and_then v fetched (length_sighted true f)) g) in ap count sighted.0
        same false e g = let l = ltb-false (count (v (file_length f))) n e in let k = longer f in omega arith

    steady-read : (d n : ℕ) (buffer : List ℕ) (y : Txn) → Steady (read_settled file_of d n buffer y)
    unfolding read_settled
    steady-read d n buffer y = steady-and_then (gather file_of y.writes (file_of d) (offset_of (y.standing d)) n) _
        (steady-gather y.writes (file_of d) (offset_of (y.standing d)) n) (λ bytes. steady-done _)

    pub steady-step : (o : Op) (x : Txn) → Steady (step file_of o x)
    unfolding step seek_step write_step pointer_step read_step
    steady-step (seek d u) x = steady-check _ 6 _ (steady-check _ 8 _ (steady-done _))
    steady-step (write d bytes) x = steady-check _ 6 _
        (steady-check _ 9 _ (steady-check _ 10 _ (steady-check _ 11 _ (steady-done _))))
    steady-step (get_file_pointer d) x =
        steady-check _ 6 _ (steady-and_then (settling (cond (pointer_settles (x.standing d)) (d ∷ []) []) x) _
        (steady-settling (cond (pointer_settles (x.standing d)) (d ∷ []) []) x) (steady-given-back _ (λ y. steady-done _)))
    steady-step (read d n buffer) x = steady-check _ 6 _ (steady-check _ 7 _ (steady-and_then (settling (settled_by_read file_of
        d x) x) _ (steady-settling (settled_by_read file_of d x) x) (steady-given-back _ (steady-read d n buffer))))
