-- The committed offsets after a grant, and where 12 cannot come.
use mathlib.Core.{Bool.{Bool, true, false, cond}, List.{List, [], ◌∷◌, ◌++◌}, Logic.⊎_elim, Path.{◌≡◌, refl, sym, ap, ◌∙◌}}
use borrow.Author.Tests.{ne_eqb, eq-eqb}
use lib.{Dec.{ltb, leb}, ListN.get_or}
use native.Mathlib.{Nat.{eq-or-lt_of_le, le_of_suc-le-suc}, Omega.arith}
use Prim.Native.Nat.{ℕ, zero, suc, ◌+◌, ◌*◌, ◌≤◌, ◌<◌}
use Rattle.limits.specs.Limits.{file_bytes, descriptor_count}
use Rattle.buffers.proofs.TableLaws.{get_d_tabulate}
use Rattle.standings.specs.Table.{advance, final_offset}
use Rattle.admission.proofs.Laws.{below-same}
use Rattle.spec.specs.{Items.{offset, file_length, same, Values}, Transactions.{Txn, Write}}
use Rattle.spec.specs.Commits.{Setting, lands_at, bytes_from, byte_settings, sets_offset, offset_settings, landed_end, length_settings}
use Rattle.spec.{specs.Commits.{settings, fits, put_item, landed}, proofs.Abstract.Lists.{touched, landed_at}}
use Rattle.spec.proofs.{Abstract.Lengths.landed-append, Refinement.Zeros.neither}
use Rattle.call_order.specs.OrderStatements.{fits_at, offsets_after}

module _ (file_of : ℕ → ℕ) (v : Values) (d : ℕ) where
  interval-no-offset : (q : ℕ) (bs : List ℕ) → touched (bytes_from q bs) (offset d) ≡ false
  unfolding bytes_from touched same
  interval-no-offset q [] = refl
  interval-no-offset q (b ∷ bs) = interval-no-offset (suc q) bs

  bytes-no-offset : (ws : List Write) → touched (byte_settings file_of v ws) (offset d) ≡ false
  unfolding byte_settings
  bytes-no-offset [] = unfold touched in refl
  bytes-no-offset (w ∷ ws) = let q = file_bytes * file_of w.descriptor + lands_at (v (offset w.descriptor)) w.place in
      neither (bytes_from q w.bytes) (byte_settings file_of v ws) (offset d) (interval-no-offset q w.bytes)
      (bytes-no-offset ws)

  lengths-no-offset : (ws : List Write) (n : ℕ) → touched (length_settings file_of v ws n) (offset d) ≡ false
  unfolding length_settings
  lengths-no-offset ws zero = unfold touched in refl
  lengths-no-offset ws (suc f) = let b = ltb (v (file_length f)) (landed_end file_of v f ws) in
      neither (length_settings file_of v ws f) (last b) (offset d) (lengths-no-offset ws f) (none b)
    where
      last : Bool → List Setting
      last b = cond b (record { item = file_length f; to = landed_end file_of v f ws } ∷ []) []

      none : (b : Bool) → touched (last b) (offset d) ≡ false
      none true = unfold touched same in refl
      none false = unfold touched in refl

  -- What it is set to, by the settings of the first n descriptors.
  abbrev final : Txn → Values → ℕ
  final x w = cond (sets_offset x d) (final_offset (v (offset d)) (x.standing d)) (w (offset d))

  module _ (x : Txn) (w : Values) where
    abbrev last : ℕ → Bool → List Setting
    last n b = cond b (record { item = offset n; to = final_offset (v (offset n)) (x.standing n) } ∷ []) []

    not_last : (n : ℕ) (b : Bool) (u : Values) → (d ≡ n → ⊥) → landed (last n b) u (offset d) ≡ u (offset d)
    unfolding landed put_item same
    not_last n true u h = rw (ne_eqb d n h)
    not_last n false u h = refl

    offset-before : (n : ℕ) → n ≤ d → landed (offset_settings v x n) w (offset d) ≡ w (offset d)
    unfolding offset_settings
    offset-before zero l = unfold landed in refl
    offset-before (suc n) l =
        ap (λ (u : Values). u (offset d)) (landed-append file_of v (offset_settings v x n) (last n (sets_offset x n)) w)
        ∙ not_last n (sets_offset x n) (landed (offset_settings v x n) w) (λ e. omega arith) ∙ offset-before n (omega arith)

    offset-landed : (n : ℕ) → d < n → landed (offset_settings v x n) w (offset d) ≡ final x w
    unfolding offset_settings
    offset-landed zero l = absurd (omega arith)
    offset-landed (suc n) l = ap (λ (u : Values). u (offset d)) (landed-append file_of v (offset_settings v x n)
        (last n (sets_offset x n)) w) ∙ ⊎_elim own (λ k. not_last n (sets_offset x n) (landed (offset_settings v x n) w)
        (λ e. omega arith) ∙ offset-landed n k) (eq-or-lt_of_le (le_of_suc-le-suc l))
      where
        before : landed (offset_settings v x d) w (offset d) ≡ w (offset d)
        before = offset-before d (omega arith)

        pick : (b : Bool) → landed (last d b) (landed (offset_settings v x d) w) (offset d)
            ≡ cond b (final_offset (v (offset d)) (x.standing d)) (w (offset d))
        pick true = unfold landed put_item same in rw (eq-eqb d d refl) refl
        pick false = unfold landed in before

        own : d ≡ n → landed (last n (sets_offset x n)) (landed (offset_settings v x n) w) (offset d) ≡ final x w
        own e = ap (λ (k : ℕ). landed (last k (sets_offset x k)) (landed (offset_settings v x k) w) (offset d)) (sym e)
            ∙ pick (sets_offset x d)

  commit-offset : (x : Txn) → d < descriptor_count → landed (settings file_of v x) v (offset d) ≡ final x v
  commit-offset x l = unfold settings in let bs = byte_settings file_of v x.writes in let os = offset_settings v x 16 in
      let ls = length_settings file_of v x.writes 8 in
      ap (λ (u : Values). u (offset d)) (landed-append file_of v bs (os ++ ls) v ∙ landed-append file_of v os ls
      (landed bs v)) ∙ landed_at ls (landed os (landed bs v)) (offset d) (lengths-no-offset x.writes 8) ∙ offset-landed x
      (landed bs v) 16 l ∙ ap (λ (n : ℕ). cond (sets_offset x d) (final_offset (v (offset d)) (x.standing d)) n)
      (landed_at bs v (offset d) (bytes-no-offset x.writes))

-- Offsets that a list holds.
abbrev pub Holding : Values → List ℕ → Type 0
Holding v offsets = (d : ℕ) → d < descriptor_count → v (offset d) ≡ get_or offsets d 0

module _ (x : Txn) (v : Values) (offsets : List ℕ) (h : Holding v offsets) where
  pub fits-same : fits v x ≡ fits_at x offsets
  unfolding fits fits_at
  fits-same = below-same _ _ 16 (λ d l. ap (λ (n : ℕ). leb (n + advance (x.standing d)) file_bytes) (h d l))

  pub still-holding : (file_of : ℕ → ℕ) → Holding (landed (settings file_of v x) v) (offsets_after x offsets)
  unfolding offsets_after
  still-holding file_of d l = commit-offset file_of v d x l
      ∙ ap (λ (n : ℕ). cond (sets_offset x d) (final_offset n (x.standing d)) n) (h d l) ∙ sym (get_d_tabulate (λ e. cond
      (sets_offset x e) (final_offset (get_or offsets e 0) (x.standing e)) (get_or offsets e 0)) descriptor_count d 0 l)
