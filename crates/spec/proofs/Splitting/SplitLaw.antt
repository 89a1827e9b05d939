-- F-12's law: one long write or two short ones.
use mathlib.Core.{Bool.{Bool, true, false, cond, not, ◌&&◌, false≢true}, List.{List, [], ◌∷◌, ◌++◌, append_assoc}}
use mathlib.Core.Path.{◌≡◌, refl, sym, ap, ap₂, ◌∙◌, fun_ext, subst, subst⁻¹}
use borrow.Author.Tests.{leb-true, le-leb}
use lib.{Dec.leb, ListN.{length, length-append}}
use native.Mathlib.Omega.{arith}
use Prim.Native.Nat.{ℕ, zero, suc, ◌+◌, ◌*◌, ◌≤◌}
use Rattle.limits.specs.Limits.{last_file, file_bytes, last_descriptor, record_count, log_bytes}
use Rattle.standings.specs.declared.{Standing.Standing, Place.{Place, TheVariants.{At, After}}}
use Rattle.standings.specs.Table.{after_write, write_place, place_number, is_touched, final_offset}
use Rattle.state.specs.Outcomes.{Said, done_answer, pairs, refused}
use Rattle.admission.specs.FirstRefusal.{guarded, is_none, unless}
use Rattle.spec.specs.{Items.{Item, offset, Values, Prog, result}, Messages.{Op, write, Reply}}
use Rattle.spec.specs.Transactions.{Txn, Write, put}
use Rattle.spec.specs.Steps.{Stepped, refuse, accept, check, total, written, write_step, step}
use Rattle.spec.specs.Places.{intervals_of, with_pairs, places_refusal, places_reply, places_of}
use Rattle.spec.specs.Commits.{Setting, sets_offset, offset_settings, settings, fits}
use Rattle.spec.specs.Splitting.{further, through, Split, SplitTxn, Accepts, SameStep, SameCommit, SplitsAlike}
use Rattle.spec.specs.Corollaries.{Moment, AcceptsAll, stop, next, SplitLists}
use Rattle.spec.proofs.{Abstract.Rerun.{put_same, put-twice}, Refinement.StepPreserves.total-append}
use Rattle.spec.proofs.Splitting.Writes.{adds-up, covered-split, unplaced-split, closed-split, byte-settings-split}
use Rattle.spec.proofs.Splitting.Writes.{length-settings-split, old-split, last-split}
use Rattle.spec.proofs.Splitting.Steps.{txn, Beside, InStep, write-asks, step-split}

-- Two transactions with a split have the same standings and dirty descriptors.
as_first : (x y : Txn) → SplitTxn x y → y ≡ txn x.standing x.dirty y.writes
as_first x y s = λ i. record { standing = sym s.standing i; dirty = sym s.dirty i; writes = y.writes }

-- ---- the two Writes and the one

-- Every test of a Write passed.
record Passes (d : ℕ) (bytes : List ℕ) (z : Txn) : Type 0 where
  few : leb d last_descriptor ≡ true
  place : place_number (write_place (z.standing d)) + length bytes ≤ log_bytes
  records : length z.writes + 1 ≤ record_count
  log : total z.writes + length bytes ≤ log_bytes

is_accepted : Stepped → Bool
is_accepted (refuse n) = false
is_accepted (accept x a i) = true

-- Where a step was accepted, the transaction after it; and the same answer and buffer with another transaction.
after_it : Txn → Stepped → Txn
after_it z (refuse n) = z
after_it z (accept x a i) = x

with_after : Txn → Stepped → Stepped
with_after y (refuse n) = refuse n
with_after y (accept x a i) = accept y a i

module _ (v : Values) where
  check-passed : (ok : Bool) (n : ℕ) (p : Prog Stepped) (x : Txn) (a : Said) (i : List ℕ)
      → result v (check ok n p) ≡ accept x a i → (ok ≡ true) × (result v p ≡ accept x a i)
  unfolding check result is_accepted
  check-passed true n p x a i e = (refl, e)
  check-passed false n p x a i e = absurd (false≢true (ap is_accepted e))

  write-passes : (d : ℕ) (bytes : List ℕ) (z x : Txn) (a : Said) (i : List ℕ) → result v (write_step d bytes z) ≡ accept x a i
      → Passes d bytes z × (accept (written d bytes z) done_answer [] ≡ accept x a i)
  unfolding write_step result
  write-passes d bytes z x a i e =
      let six = check-passed (leb d last_descriptor) 6 _ x a i e in
      let nine = check-passed (leb (place_number (write_place (z.standing d)) + length bytes) file_bytes) 9 _ x a i six.1 in
      let ten = check-passed (leb (length z.writes + 1) record_count) 10 _ x a i nine.1 in
      let eleven = check-passed (leb (total z.writes + length bytes) log_bytes) 11 _ x a i ten.1 in (
        record { few = six.0; place = leb-true _ _ nine.0; records = leb-true _ _ ten.0; log = leb-true _ _ eleven.0 },
        eleven.1,
      )

  write-accepted : (d : ℕ) (bytes : List ℕ) (z : Txn) → Passes d bytes z → result v (write_step d bytes z)
      ≡ accept (written d bytes z) done_answer []
  unfolding write_step check result
  write-accepted d bytes z p = rw (p.few, le-leb _ _ p.place, le-leb _ _ p.records, le-leb _ _ p.log)

further-number : (n : ℕ) (q : Place) → place_number (further n q) ≡ place_number q + n
unfolding further
further-number n (At p) = refl
further-number n (After a) = refl

module _ (d : ℕ) (a b : List ℕ) (z : Txn) where
  -- After the first d stands as a Write of a leaves it.
  stands : (written d a z).standing d ≡ after_write (length a) (z.standing d)
  stands = unfold written in put_same d (after_write (length a) (z.standing d)) z.standing

  -- So the second lies where the first ends.
  behind : write_place ((written d a z).standing d) ≡ further (length a) (write_place (z.standing d))
  behind = ap write_place stands ∙ (adds-up (z.standing d)).place (length a)

  passes-joined : Passes d a z → Passes d b (written d a z) → Passes d (a ++ b) z
  passes-joined p q = let l = length-append a b in
      let at : place_number (write_place ((written d a z).standing d)) ≡ place_number (write_place (z.standing d)) + length a =
      ap place_number behind ∙ further-number (length a) (write_place (z.standing d)) in
      let t : total (written d a z).writes ≡ total z.writes + length a = unfold written in total-append z.writes _ in
      record
      { few = p.few; place = omega (arith, q.place, at, l); records = p.records; log = omega (arith, q.log, t, l) }

  written-split : SplitTxn (written d b (written d a z)) (written d (a ++ b) z)
  unfolding written
  written-split = let f = z.standing in let A = after_write (length a) (f d) in let one = adds-up (f d) in record {
    standing = ap (λ (y : Standing). put d (after_write (length b) y) (put d A f)) stands
        ∙ put-twice d (after_write (length b) A) A f ∙ ap (λ (y : Standing). put d y f) (one.standing (length a) (length b)
        ∙ ap (λ (n : ℕ). after_write n (f d)) (sym (length-append a b)));
    dirty = put-twice d true true z.dirty;
    writes = subst⁻¹ (λ (l : List Write). Split l (z.writes ++ (through d (write_place (f d)) (a ++ b) ∷ [])))
        (append_assoc z.writes (through d (write_place (f d)) a ∷ []) (through d (write_place (put d A f d)) b ∷ [])
        ∙ ap (λ (q : Place). z.writes ++ (through d (write_place (f d)) a ∷ (through d q b ∷ []))) behind)
        (last-split z.writes d (write_place (f d)) a b);
  }

module _ (file_of : ℕ → ℕ) where
  sights-none : (v : Values) (d : ℕ) (bytes : List ℕ) (z x : Txn) (r : Reply) (is : List Item)
      → Accepts file_of v (write d bytes) z x r is → is ≡ []
  sights-none v d bytes z x r is h = sym h.sights ∙ (unfold step in write-asks v d bytes z)

  one-write : (u v w : Values) (d : ℕ) (a b : List ℕ) (z x x' : Txn) (r s : Reply) (is js : List Item)
      → Accepts file_of u (write d a) z x r is → Accepts file_of v (write d b) x x' s js
      → (y : Txn) × Accepts file_of w (write d (a ++ b)) z y s (is ++ js) × SplitTxn x' y
  one-write u v w d a b z x x' r s is js h k = unfold step after_it with_after in let y = written d (a ++ b) z in
      let p = write-passes u d a z x r.answer r.buffer h.leads in
      let q = write-passes v d b x x' s.answer s.buffer k.leads in
      let first : written d a z ≡ x = ap (after_it z) p.1 in let second : written d b x ≡ x' = ap (after_it x) q.1 in
      let joined = passes-joined d a b z p.0 (subst⁻¹ (λ (t : Txn). Passes d b t) first q.0) in
      let said : accept y done_answer [] ≡ accept y s.answer s.buffer = ap (with_after y) q.1 in
      let none : is ++ js ≡ [] =
      ap₂ (λ (l m : List Item). l ++ m) (sights-none u d a z x r is h) (sights-none v d b x x' s js k) in (
        y,
        record { leads = write-accepted w d (a ++ b) z joined ∙ said; sights = write-asks w d (a ++ b) z ∙ sym none },
        subst (λ (t : Txn). SplitTxn t y) (ap (written d b) first ∙ second) (written-split d a b z),
      )

  -- ---- further calls

  in_step : (v : Values) (o : Op) (x y : Txn) → SplitTxn x y → InStep v (step file_of o x) (step file_of o y)
  in_step v o x y s = subst⁻¹ (λ (z : Txn). InStep v (step file_of o x) (step file_of o z)) (as_first x y s)
      (step-split file_of v x.standing x.dirty x.writes y.writes s.writes o)

  same_step : (v : Values) (o : Op) (x y : Txn) → SplitTxn x y → SameStep file_of v o x y
  same_step v o x y s = let both = in_step v o x y s in record {
    accepted = λ x' r is h. let c : Beside (accept x' r.answer r.buffer) (result v (step file_of o y)) =
        subst (λ (z : Stepped). Beside z (result v (step file_of o y))) h.leads both.comes in
        (c.0, record { leads = c.1; sights = sym both.sightings ∙ h.sights }, c.2);
    refused = λ n e. subst (λ (z : Stepped). Beside z (result v (step file_of o y))) e both.comes;
  }

  same-list : (ns : List Moment) (x y x' : Txn) → SplitTxn x y → AcceptsAll file_of x ns x'
      → (y' : Txn) × AcceptsAll file_of y ns y' × SplitTxn x' y'
  same-list ns x y x' s (stop z) = (y, stop y, s)
  same-list ns x y x' s (next x₀ x₁ z n ms h rest) = let one = (same_step n.value n.op x y s).accepted x₁ n.reply
      n.sightings h in let others = same-list ms x₁ one.0 x' one.2 rest in
      (others.0, next y one.0 others.0 n ms one.1 others.1, others.2)

  same-places : (f : ℕ) (out : List ℕ) (x y : Txn) → SplitTxn x y → places_of file_of f out x ≡ places_of file_of f out y
  unfolding places_of places_reply places_refusal
  same-places f out x y s = ap₂ (λ (waits : Bool) (covers : ℕ → Bool). let l = intervals_of covers in let n = unless
      (leb f last_file) 6 (unless (not waits) 15 (unless (leb (4 * length l) (length out)) 16 0)) in guarded (λ k. record
      { answer = refused k; buffer = out }) (is_none n) n (record { answer = pairs (length l); buffer = with_pairs l out }))
      (unplaced-split file_of f x.writes y.writes s.writes)
      (fun_ext (λ p. covered-split file_of f p x.writes y.writes s.writes))

  -- ---- Commit

  module _ (v : Values) (f : ℕ → Standing) (g : ℕ → Bool) (xs ys : List Write) (s : Split xs ys) where
    offsets-same : (n : ℕ) → offset_settings v (txn f g xs) n ≡ offset_settings v (txn f g ys) n
    unfolding offset_settings sets_offset
    offsets-same zero = refl
    offsets-same (suc d) = ap (λ (l : List Setting). l ++ cond (g d && is_touched (f d))
        (record { item = offset d; to = final_offset (v (offset d)) (f d) } ∷ []) []) (offsets-same d)

    settings-same : settings file_of v (txn f g xs) ≡ settings file_of v (txn f g ys)
    unfolding settings
    settings-same = ap₂ (λ (l m : List Setting). l ++ m) (byte-settings-split file_of v xs ys s)
        (ap₂ (λ (l m : List Setting). l ++ m) (offsets-same 16) (length-settings-split file_of v xs ys s 8))

    fits-same : fits v (txn f g xs) ≡ fits v (txn f g ys)
    fits-same = unfold fits in refl

  same-commit : (v : Values) (x y : Txn) → SplitTxn x y → SameCommit file_of v x y
  same-commit v x y s = let back = sym (as_first x y s) in record {
    sets = settings-same v x.standing x.dirty x.writes y.writes s.writes ∙ ap (settings file_of v) back;
    placing = fits-same v x.standing x.dirty x.writes y.writes s.writes ∙ ap (fits v) back;
    old = λ files inside. old-split file_of v x.writes y.writes s.writes files inside;
    closed = λ windows minute. closed-split file_of windows minute x.writes y.writes s.writes;
  }

pub splits-alike : SplitsAlike
splits-alike file_of =
    record { writes = one-write file_of; later = same_step file_of; places = same-places file_of; commit = same-commit file_of }

pub splits-lists : SplitLists
splits-lists file_of = same-list file_of
