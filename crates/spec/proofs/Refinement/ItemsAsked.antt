-- Every item that a step asks for is one that the store has.
use mathlib.Core.{Bool.{Bool, true, false, cond}, List.{List, [], ◌∷◌, ◌++◌}, Path.{◌≡◌, refl}}
use borrow.Author.Tests.{leb-true}
use lib.Dec.{leb, ltb, eqb}
use native.Mathlib.Omega.{arith}
use Prim.Native.Nat.{ℕ, zero, suc, ◌+◌, ◌-◌, ◌*◌, ◌≤◌, ◌<◌, min}
use Rattle.limits.specs.Limits.{last_file, file_bytes, buffer_bytes, last_descriptor}
use Rattle.spec.specs.Items.{Item, offset, file_length, Values, Prog, done, and_then, result, asked}
use Rattle.spec.specs.Transactions.{Txn, Write, those, settle, Settled, past, all, settling}
use Rattle.spec.specs.Reading.{Source, own, file, bring, latest, fetch, length_for, gather}
use Rattle.spec.specs.Messages.{Op, seek, write, get_file_pointer, read}
use Rattle.spec.specs.Steps.{Stepped, check, or_given_back, seek_step, write_step, pointer_step, settled_by_read, read_settled}
use Rattle.spec.specs.Steps.{read_step, step}
use Rattle.standings.specs.Table.{advance, pointer_settles, read_settles, offset_of}
use Rattle.spec.proofs.{Abstract.{Programs.asked-and_then, Gathers.read-stops}, Refinement.{Relation.TxnIn, Marks.ItemsIn}}
use Rattle.spec.proofs.Refinement.{Chosen.{DescriptorsIn, one_in, those-in}, WriteEnds.length-for}
use Rattle.spec.proofs.Refinement.StepPreserves.{pieces, settling-preserved}

items-append : (is js : List Item) → ItemsIn is → ItemsIn js → ItemsIn (is ++ js)
items-append [] js h g = g
items-append (i ∷ is) js h g = (h.0, items-append is js h.1 g)

module _ (v : Values) (bounded : (f : ℕ) → v (file_length f) ≤ file_bytes) where
  -- A program that asks only for items that the store has.
  AsksIn : {A : Type 0} → Prog A → Type 0
  AsksIn p = ItemsIn (asked v p)

  asks-done : {A : Type 0} (a : A) → AsksIn (done a)
  unfolding AsksIn asked
  asks-done a = tt

  asks-next : {A B : Type 0} (p : Prog A) (k : A → Prog B) → AsksIn p → AsksIn (k (result v p)) → AsksIn (and_then p k)
  unfolding AsksIn
  asks-next p k h g = rw (asked-and_then v p k) (items-append (asked v p) (asked v (k (result v p))) h g)

  asks-and_then : {A B : Type 0} (p : Prog A) (k : A → Prog B) → AsksIn p → ((a : A) → AsksIn (k a)) → AsksIn (and_then p k)
  asks-and_then p k h g = asks-next p k h (g (result v p))

  asks-check : (b : Bool) (n : ℕ) (p : Prog Stepped) → (b ≡ true → AsksIn p) → AsksIn (check b n p)
  unfolding AsksIn check asked
  asks-check true n p h = h refl
  asks-check false n p h = tt

  asks-settling : (ds : List ℕ) (x : Txn) → DescriptorsIn ds → AsksIn (settling ds x)
  unfolding AsksIn settling asked
  asks-settling [] x h = tt
  asks-settling (d ∷ ds) x h =
      (h.0, pick (asks-settling ds (settle d (v (offset d)) x) h.1) (leb (v (offset d) + advance (x.standing d)) file_bytes))
    where
      pick : ItemsIn (asked v (settling ds (settle d (v (offset d)) x)))
          → (b : Bool) → ItemsIn (asked v (cond b (settling ds (settle d (v (offset d)) x)) (done past)))
      pick later true = later
      pick later false = tt

  -- What follows a settling of a transaction in range that is not given back.
  asks-settled : (ds : List ℕ) (x : Txn) (next : Txn → Prog Stepped) → DescriptorsIn ds → TxnIn x
      → ((y : Txn) → TxnIn y → AsksIn (next y)) → AsksIn (and_then (settling ds x) (or_given_back next))
  asks-settled ds x next low h k =
      asks-next (settling ds x) (or_given_back next) (asks-settling ds x low) (pick (result v (settling ds x)) refl)
    where
      pick : (s : Settled) → result v (settling ds x) ≡ s → AsksIn (or_given_back next s)
      pick past e = unfold AsksIn or_given_back asked in tt
      pick (all y) e = unfold or_given_back in
          k y (settling-preserved v ds x y (pieces x.writes) low (record { ranges = h; same = refl }) e).ranges

  asks-bring : (s : Source) (q : ℕ) → q < buffer_bytes → AsksIn (bring s q)
  unfolding AsksIn bring asked
  asks-bring (own b) q h = tt
  asks-bring file q h = (h, tt)

  module _ (file_of : ℕ → ℕ) (small : (d : ℕ) → file_of d ≤ last_file) where
    asks-fetch : (ws : List Write) (f p n : ℕ) → f ≤ last_file → n ≤ file_bytes - p → AsksIn (fetch file_of ws f p n)
    unfolding fetch
    asks-fetch ws f p zero hf hn = asks-done []
    asks-fetch ws f p (suc n) hf hn = asks-and_then (bring (latest file_of f p ws) (file_bytes * f + p)) _
        (asks-bring (latest file_of f p ws) (file_bytes * f + p) (omega arith)) (λ b. asks-and_then
        (fetch file_of ws f (suc p) n) _ (asks-fetch ws f (suc p) n hf (omega arith)) (λ bs. asks-done (b ∷ bs)))

    asks-gather : (y : Txn) (f p n : ℕ) → f ≤ last_file → TxnIn y → AsksIn (gather file_of y.writes f p n)
    unfolding AsksIn
    asks-gather y f p n hf h = let m = min n (length_for file_of f y.writes (v (file_length f)) - p) in
        let l = length-for file_of f y (v (file_length f)) (bounded f) h in
        rw (read-stops file_of y.writes f p n v).sightings (items-append (asked v (fetch file_of y.writes f p m)) _
        (asks-fetch y.writes f p m hf (omega arith)) (pick (ltb m n)))
      where
        pick : (b : Bool) → ItemsIn (cond b (file_length f ∷ []) [])
        pick true = (omega arith, tt)
        pick false = tt

    asks_read : (d n : ℕ) (buffer : List ℕ) (y : Txn) → TxnIn y → AsksIn (read_settled file_of d n buffer y)
    unfolding read_settled
    asks_read d n buffer y h = asks-and_then (gather file_of y.writes (file_of d) (offset_of (y.standing d)) n) _
        (asks-gather y (file_of d) (offset_of (y.standing d)) n (small d) h) (λ bytes. asks-done _)

    asks-step : (o : Op) (x : Txn) → TxnIn x → AsksIn (step file_of o x)
    unfolding step seek_step write_step pointer_step read_step settled_by_read
    asks-step (seek d u) x h = asks-check _ 6 _ (λ e. asks-check _ 8 _ (λ f. asks-done _))
    asks-step (write d bytes) x h =
        asks-check _ 6 _ (λ e. asks-check _ 9 _ (λ f. asks-check _ 10 _ (λ g. asks-check _ 11 _ (λ k. asks-done _))))
    asks-step (get_file_pointer d) x h = asks-check (leb d last_descriptor) 6 _
        (λ e. let l = leb-true d last_descriptor e in asks-settled (cond (pointer_settles (x.standing d)) (d ∷ []) []) x _
        (one_in (pointer_settles (x.standing d)) d (omega arith)) h (λ y k. asks-done _))
    asks-step (read d n buffer) x h = let ds =
        those (λ e. read_settles (eqb (file_of e) (file_of d)) (eqb e d) (x.standing e)) 16 in
        asks-check _ 6 _ (λ e. asks-check _ 7 _ (λ f. asks-settled ds x _ (those-in (λ e. read_settles
        (eqb (file_of e) (file_of d)) (eqb e d) (x.standing e)) 16 (omega arith)) h (asks_read d n buffer)))

    pub asked_in : (o : Op) (x : Txn) → TxnIn x → ItemsIn (asked v (step file_of o x))
    asked_in o x h = unfold AsksIn in asks-step o x h
