-- A step of a transaction in which a write is split, beside the same step of one in which it is not.
use mathlib.Core.{Bool.{Bool, true, false, cond, false≢true}, List.{List, [], ◌∷◌, ◌++◌, map}, Logic.{◌⊎◌, inl, inr}}
use mathlib.Core.Path.{◌≡◌, refl, sym, ap, ap₂, ◌∙◌, subst⁻¹, fun_ext}
use borrow.Author.Tests.{leb-true, le-leb}
use lib.{Dec.{leb, ltb}, ListN.{length, drop}}
use native.Mathlib.Omega.{arith}
use Prim.Native.Nat.{ℕ, zero, suc, ◌+◌, ◌-◌, ◌*◌, min, max}
use Rattle.limits.specs.Limits.{file_bytes, last_descriptor, record_count, log_bytes}
use Rattle.standings.specs.declared.Standing.{Standing}
use Rattle.standings.specs.Table.{advance, settled, after_seek, after_write, after_read, write_place, offset_of, pointer_settles}
use Rattle.standings.specs.Table.{place_number}
use Rattle.state.specs.Outcomes.{Said, done_answer, pointer, given}
use Rattle.spec.specs.Items.{Item, offset, Values, Prog, done, measure, and_then, result, asked}
use Rattle.spec.specs.Messages.{Op, seek, write, get_file_pointer, read}
use Rattle.spec.specs.Transactions.{Txn, Write, put, place_write, settle, dirtied, Settled, past, all, settling}
use Rattle.spec.specs.Reading.{Source, bring, fetch, length_for, length_sighted, gather}
use Rattle.spec.specs.Steps.{Stepped, refuse, accept, check, or_given_back, total, written, seek_step, write_step, pointer_step}
use Rattle.spec.specs.{Steps.{settled_by_read, read_settled, read_step, step}, Splitting.{through, Split, SplitTxn}}
use Rattle.spec.proofs.Abstract.Programs.{result-and_then, asked-and_then}
use Rattle.spec.proofs.Splitting.Writes.{latest-split, own-end-split, placed-split, more-split, split-one-more}
use Rattle.spec.proofs.Splitting.Writes.{total-split}

abbrev pub txn : (ℕ → Standing) → (ℕ → Bool) → List Write → Txn
txn f g ws = record { standing = f; dirty = g; writes = ws }

-- What one comes to, and the other beside it.
abbrev pub Beside : Stepped → Stepped → Type 0
Beside (refuse n) t = (n ≡ 10) ⊎ (t ≡ refuse n)
Beside (accept x a i) t = (y : Txn) × (t ≡ accept y a i) × SplitTxn x y

-- Two programs ask for the same, and one comes to what it comes to beside the other.
pub record InStep (v : Values) (p q : Prog Stepped) : Type 0 where
  pub sightings : asked v p ≡ asked v q
  pub comes : Beside (result v p) (result v q)

module _ (v : Values) where
  accepts : (f : ℕ → Standing) (g : ℕ → Bool) (xs ys : List Write) (a : Said) (i : List ℕ) → Split xs ys
      → InStep v (done (accept (txn f g xs) a i)) (done (accept (txn f g ys) a i))
  accepts f g xs ys a i s = unfold asked result in
      record { sightings = refl; comes = (txn f g ys, refl, record { standing = refl; dirty = refl; writes = s }) }

  checks : (ok : Bool) (n : ℕ) (p q : Prog Stepped) → InStep v p q → InStep v (check ok n p) (check ok n q)
  unfolding check asked result
  checks true n p q h = h
  checks false n p q h = record { sightings = refl; comes = inr refl }

  asks_none : (ok : Bool) (n : ℕ) (p : Prog Stepped) → asked v p ≡ [] → asked v (check ok n p) ≡ []
  unfolding check asked
  asks_none true n p e = e
  asks_none false n p e = refl

  -- The test of 10, which the second passes where the first does, before what asks for nothing.
  checks-ten : (ok more : Bool) (p q : Prog Stepped) → (ok ≡ true → more ≡ true) → asked v q ≡ [] → InStep v p q
      → InStep v (check ok 10 p) (check more 10 q)
  unfolding check asked result
  checks-ten true true p q m e h = h
  checks-ten true false p q m e h = absurd (false≢true (m refl))
  checks-ten false true p q m e h = record { sightings = sym e; comes = inl refl }
  checks-ten false false p q m e h = record { sightings = refl; comes = inr refl }

-- ---- Write

pub write-asks : (v : Values) (d : ℕ) (bytes : List ℕ) (z : Txn) → asked v (write_step d bytes z) ≡ []
unfolding write_step
write-asks v d bytes z = let last : asked v (done (accept (written d bytes z) done_answer [])) ≡ [] = unfold asked in refl in
    asks_none v _ 6 _ (asks_none v _ 9 _ (asks_none v _ 10 _ (asks_none v _ 11 _ last)))

module _ (v : Values) (f : ℕ → Standing) (g : ℕ → Bool) (xs ys : List Write) (s : Split xs ys) (d : ℕ) (bytes : List ℕ) where
  -- It sets d's standing, and adds a write.
  abbrev after : List Write → Txn
  after ws = txn (put d (after_write (length bytes) (f d)) f) (put d true g) (ws ++ (through d (write_place (f d)) bytes ∷ []))

  abbrev eleven : List Write → Prog Stepped
  eleven ws = check (leb (total ws + length bytes) log_bytes) 11 (done (accept (after ws) done_answer []))

  eleven-asks : asked v (eleven ys) ≡ []
  eleven-asks = asks_none v (leb (total ys + length bytes) log_bytes) 11 (done (accept (after ys) done_answer []))
      (unfold asked in refl)

  last-test : InStep v (eleven xs) (eleven ys)
  last-test = subst⁻¹ (λ (n : ℕ). InStep v (check (leb (n + length bytes) file_bytes) 11
      (done (accept (after xs) done_answer []))) (eleven ys)) (total-split xs ys s)
      (checks v (leb (total ys + length bytes) log_bytes) 11 _ _ (accepts v (put d (after_write (length bytes) (f d)) f)
      (put d true g) _ _ done_answer [] (more-split xs ys (through d (write_place (f d)) bytes ∷ []) s)))

  fewer : leb (length xs + 1) record_count ≡ true → leb (length ys + 1) record_count ≡ true
  fewer e = le-leb (length ys + 1) record_count (omega (arith, leb-true (length xs + 1) record_count e, split-one-more xs ys s))

  writes-in-step : InStep v (write_step d bytes (txn f g xs)) (write_step d bytes (txn f g ys))
  unfolding write_step written
  writes-in-step = checks v (leb d last_descriptor) 6 _ _ (checks v
      (leb (place_number (write_place (f d)) + length bytes) file_bytes) 9 _ _ (checks-ten v (leb (length xs + 1) record_count)
      (leb (length ys + 1) record_count) (eleven xs) (eleven ys) fewer eleven-asks last-test))

-- ---- settling

data BothSettled : Settled → Settled → Type 0 where
  both_past : BothSettled past past
  both_all : (f : ℕ → Standing) (g : ℕ → Bool) (xs ys : List Write) → Split xs ys
      → BothSettled (all (txn f g xs)) (all (txn f g ys))

module _ (v : Values) where
  settling-split : (ds : List ℕ) (f : ℕ → Standing) (g : ℕ → Bool) (xs ys : List Write) → Split xs ys
      → (asked v (settling ds (txn f g xs)) ≡ asked v (settling ds (txn f g ys)))
      × BothSettled (result v (settling ds (txn f g xs))) (result v (settling ds (txn f g ys)))
  unfolding settling asked result
  settling-split [] f g xs ys s = (refl, both_all f g xs ys s)
  settling-split (d ∷ ds) f g xs ys s = let c = v (offset d) in
      pick (leb (c + advance (f d)) file_bytes) (settling-split ds (put d (settled c (f d)) f) g (map (place_write d c) xs)
      (map (place_write d c) ys) (placed-split d c xs ys s))
    where
      onward : List Write → Prog Settled
      onward ws = settling ds (txn (put d (settled (v (offset d)) (f d)) f) g (map (place_write d (v (offset d))) ws))

      pick : (fits : Bool) → (asked v (onward xs) ≡ asked v (onward ys)) × BothSettled (result v (onward xs))
          (result v (onward ys)) → (offset d ∷ asked v (cond fits (settling ds (settle d (v (offset d)) (txn f g xs)))
          (done past)) ≡ offset d ∷ asked v (cond fits (settling ds (settle d (v (offset d)) (txn f g ys))) (done past)))
          × BothSettled (result v (cond fits (settling ds (settle d (v (offset d)) (txn f g xs))) (done past)))
          (result v (cond fits (settling ds (settle d (v (offset d)) (txn f g ys))) (done past)))
      pick true r = unfold settle in (ap (λ (l : List Item). offset d ∷ l) r.0, r.1)
      pick false r = (refl, both_past)

  -- What comes after it.
  module _ (k : Txn → Prog Stepped) (h : (f : ℕ → Standing) (g : ℕ → Bool) (xs ys : List Write) → Split xs ys
      → InStep v (k (txn f g xs)) (k (txn f g ys))) where
    given_back : (x y : Settled) → BothSettled x y → InStep v (or_given_back k x) (or_given_back k y)
    unfolding or_given_back asked result
    given_back x y both_past = record { sightings = refl; comes = inr refl }
    given_back x y (both_all f g xs ys s) = h f g xs ys s

    settles : (ds : List ℕ) (f : ℕ → Standing) (g : ℕ → Bool) (xs ys : List Write) → Split xs ys
        → InStep v (and_then (settling ds (txn f g xs)) (or_given_back k)) (and_then (settling ds (txn f g ys)) (or_given_back k))
    settles ds f g xs ys s = let p = settling ds (txn f g xs) in let q = settling ds (txn f g ys) in
        let both = settling-split ds f g xs ys s in let then = given_back (result v p) (result v q) both.1 in record {
          sightings = asked-and_then v p (or_given_back k) ∙ ap₂ (λ (l m : List Item). l ++ m) both.0 then.sightings
              ∙ sym (asked-and_then v q (or_given_back k));
          comes = subst⁻¹ (λ (z : Stepped). Beside z (result v (and_then q (or_given_back k)))) (result-and_then v p
              (or_given_back k)) (subst⁻¹ (λ (z : Stepped). Beside (result v (or_given_back k (result v p))) z)
              (result-and_then v q (or_given_back k)) then.comes);
        }

-- ---- Read

fetch-split : (file_of : ℕ → ℕ) (f : ℕ) (xs ys : List Write) → Split xs ys → (n p : ℕ) → fetch file_of xs f p n
    ≡ fetch file_of ys f p n
unfolding fetch
fetch-split file_of f xs ys s zero p = refl
fetch-split file_of f xs ys s (suc n) p =
    ap₂ (λ (source : Source) (rest : Prog (List ℕ)). and_then (bring source (file_bytes * f + p))
    (λ b. and_then rest (λ bs. done (b ∷ bs)))) (latest-split file_of f p xs ys s) (fetch-split file_of f xs ys s n (suc p))

gather-split : (file_of : ℕ → ℕ) (f : ℕ) (xs ys : List Write) → Split xs ys → (n p : ℕ) → gather file_of xs f p n
    ≡ gather file_of ys f p n
unfolding gather length_for
gather-split file_of f xs ys s n p = let given : (ℕ → Prog (List ℕ)) → ℕ → Prog (List ℕ) = λ fetched end. measure f
    (λ committed. and_then (fetched (min n (max committed end - p))) (length_sighted (ltb (min n (max committed end - p)) n)
    f)) in ap₂ given (fun_ext (λ m. fetch-split file_of f xs ys s m p)) (own-end-split file_of f xs ys s)

module _ (v : Values) (file_of : ℕ → ℕ) (d n : ℕ) (buffer : List ℕ) where
  reads : (f : ℕ → Standing) (g : ℕ → Bool) (xs ys : List Write) → Split xs ys
      → InStep v (read_settled file_of d n buffer (txn f g xs)) (read_settled file_of d n buffer (txn f g ys))
  unfolding read_settled
  reads f g xs ys s = subst⁻¹ (λ (p : Prog (List ℕ)). InStep v (and_then p (gives xs)) (and_then bytes (gives ys)))
      (gather-split file_of (file_of d) xs ys s n (offset_of (f d))) (record {
        sightings = asked-and_then v bytes (gives xs) ∙ ap (λ (l : List Item). asked v bytes ++ l)
            given-in-step.sightings ∙ sym (asked-and_then v bytes (gives ys));
        comes = subst⁻¹ (λ (z : Stepped). Beside z (result v (and_then bytes (gives ys))))
            (result-and_then v bytes (gives xs)) (subst⁻¹ (λ (z : Stepped). Beside (result v (gives xs (result v bytes))) z)
            (result-and_then v bytes (gives ys)) given-in-step.comes);
      })
    where
      bytes : Prog (List ℕ)
      bytes = gather file_of ys (file_of d) (offset_of (f d)) n

      gives : List Write → List ℕ → Prog Stepped
      gives ws bs = done (accept (dirtied d (after_read (length bs) (f d)) (txn f g ws)) (given (length bs))
          (bs ++ drop (length bs) buffer))

      given-in-step : InStep v (gives xs (result v bytes)) (gives ys (result v bytes))
      given-in-step = accepts v (put d (after_read (length (result v bytes)) (f d)) f) (put d true g) xs ys _ _ s

-- ---- each call

pub step-split : (file_of : ℕ → ℕ) (v : Values) (f : ℕ → Standing) (g : ℕ → Bool) (xs ys : List Write) → Split xs ys
    → (o : Op) → InStep v (step file_of o (txn f g xs)) (step file_of o (txn f g ys))
unfolding step
step-split file_of v f g xs ys s (seek d n) = unfold seek_step in
    checks v (leb d last_descriptor) 6 _ _
    (checks v (leb n file_bytes) 8 _ _ (accepts v (put d (after_seek n (f d)) f) (put d true g) xs ys done_answer [] s))
step-split file_of v f g xs ys s (write d bytes) = writes-in-step v f g xs ys s d bytes
step-split file_of v f g xs ys s (get_file_pointer d) = unfold pointer_step in
    checks v (leb d last_descriptor) 6 _ _ (settles v (λ y. done (accept y (pointer (offset_of (y.standing d))) []))
    (λ f' g' xs' ys' s'. accepts v f' g' xs' ys' (pointer (offset_of (f' d))) [] s')
    (cond (pointer_settles (f d)) (d ∷ []) []) f g xs ys s)
step-split file_of v f g xs ys s (read d n buffer) = unfold read_step settled_by_read in
    checks v (leb d last_descriptor) 6 _ _ (checks v (leb n (length buffer)) 7 _ _
    (settles v (read_settled file_of d n buffer) (reads v file_of d n buffer) _ f g xs ys s))
