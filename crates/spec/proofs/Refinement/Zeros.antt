-- A grant sets no byte beyond the length that it leaves: what was 0 there stays 0.
use mathlib.Core.{Bool.{Bool, true, false, cond, ◌||◌}, List.{List, [], ◌∷◌, ◌++◌}, Path.{◌≡◌, refl, ap, ap₂, ◌∙◌}}
use borrow.Author.Tests.{ne_eqb, eq-eqb}
use lib.{Dec.ltb, ListN.{length, get_or}}
use native.Mathlib.Omega.{arith}
use Prim.Native.Nat.{ℕ, zero, suc, ◌+◌, ◌*◌, ◌≤◌, ◌<◌, max, suc-le-suc}
use Rattle.limits.specs.Limits.{last_file, file_bytes, descriptor_count}
use Rattle.standings.specs.Table.{final_offset}
use Rattle.spec.specs.{Items.{Item, byte, offset, file_length, same, Values}, Transactions.{Txn, Write}}
use Rattle.spec.specs.Reading.{write_end, farthest}
use Rattle.spec.specs.Commits.{Setting, lands_at, bytes_from, byte_settings, sets_offset, offset_settings, landed_end}
use Rattle.spec.specs.{Commits.{length_settings, settings, fits, landed}, Machine.no_write, Lengths.ZeroBeyond}
use Rattle.spec.proofs.Abstract.{Lists.{touched, landed_at}, Lengths.{commit-longer, commit-raised}}
use Rattle.spec.proofs.Refinement.{Relation.{WriteIn, TxnIn}, SettingsIn.{lands-in, settings-fit-at}}

touched-append : (ss rs : List Setting) (j : Item) → touched (ss ++ rs) j ≡ (touched ss j || touched rs j)
unfolding touched
touched-append [] rs j = refl
touched-append (s ∷ ss) rs j = ap (λ (b : Bool). same s.item j || b) (touched-append ss rs j)
    ∙ or_same (same s.item j) (touched ss j) (touched rs j)
  where
    or_same : (a b c : Bool) → (a || (b || c)) ≡ ((a || b) || c)
    or_same true b c = refl
    or_same false b c = refl

-- Neither touches it.
pub neither : (ss rs : List Setting) (j : Item) → touched ss j ≡ false → touched rs j ≡ false → touched (ss ++ rs) j ≡ false
neither ss rs j e f = touched-append ss rs j ∙ ap₂ (λ (a b : Bool). a || b) e f

-- A byte before or after a range.
interval-off : (a : ℕ) (bs : List ℕ) (q : ℕ) → (a ≤ q → q < a + length bs → ⊥) → touched (bytes_from a bs) (byte q) ≡ false
unfolding bytes_from touched same
interval-off a [] q h = refl
interval-off a (b ∷ bs) q h =
    rw (ne_eqb a q (λ e. h (omega arith) (omega arith))) (interval-off (suc a) bs q (λ l k. h (omega arith) (omega arith)))

-- A place in a write lies before its end.
in-write : (a n p : ℕ) → a ≤ p → p < a + n → p < write_end a n
unfolding write_end
in-write a zero p l k = absurd (omega arith)
in-write a (suc n) p l k = k

module _ (file_of : ℕ → ℕ) (v : Values) (y : Txn) (files : (d : ℕ) → d < descriptor_count → file_of d ≤ last_file)
    (ranges : TxnIn y) (fit : fits v y ≡ true) (f p : ℕ) (small : p < file_bytes) where
  abbrev place : Write → ℕ
  place w = lands_at (v (offset w.descriptor)) w.place

  abbrev end_of_write : Write → ℕ
  end_of_write w = write_end (place w) (length w.bytes)

  -- No write that ends before the place sets it.
  bytes-off : (ws : List Write) → ((k : ℕ) → k < length ws → WriteIn y (get_or ws k no_write)) → farthest file_of f end_of_write ws ≤ p
      → touched (byte_settings file_of v ws) (byte (file_bytes * f + p)) ≡ false
  unfolding byte_settings touched farthest
  bytes-off [] h l = refl
  bytes-off (w ∷ ws) h l = let i = h 0 (omega arith) in let d = w.descriptor in let g = files d i.descriptor in
      let a = place w in
      let k = lands-in (v (offset d)) (y.standing d) w.place (length w.bytes)
      (settings-fit-at v y fit d i.descriptor) i.place in
      neither (bytes_from (file_bytes * file_of d + a) w.bytes) (byte_settings file_of v ws) (byte (file_bytes * f + p))
      (interval-off (file_bytes * file_of d + a) w.bytes (file_bytes * f + p) (λ m n. let same-file : file_of d ≡ f =
      omega arith in let inside = in-write a (length w.bytes) p (omega arith) (omega arith) in let e = eq-eqb (file_of d)
      f same-file in let bound : max (end_of_write w) (farthest file_of f end_of_write ws) ≤ p = rw e at l in omega arith))
      (bytes-off ws (λ k l. h (suc k) (suc-le-suc l)) (omega arith))

  offsets-off : (n : ℕ) → touched (offset_settings v y n) (byte (file_bytes * f + p)) ≡ false
  unfolding offset_settings
  offsets-off zero = unfold touched in refl
  offsets-off (suc d) = neither (offset_settings v y d)
      (cond (sets_offset y d) (record { item = offset d; to = final_offset (v (offset d)) (y.standing d) } ∷ []) [])
      (byte (file_bytes * f + p)) (offsets-off d) (pick (sets_offset y d))
    where
      pick : (b : Bool) → touched (cond b (record { item = offset d; to = final_offset (v (offset d)) (y.standing d) } ∷ []) [])
          (byte (file_bytes * f + p)) ≡ false
      pick true = unfold touched same in refl
      pick false = unfold touched in refl

  lengths-off : (n : ℕ) → touched (length_settings file_of v y.writes n) (byte (file_bytes * f + p)) ≡ false
  unfolding length_settings
  lengths-off zero = unfold touched in refl
  lengths-off (suc g) = neither (length_settings file_of v y.writes g) (cond (ltb (v (file_length g))
      (landed_end file_of v g y.writes)) (record { item = file_length g; to = landed_end file_of v g y.writes } ∷ []) [])
      (byte (file_bytes * f + p)) (lengths-off g) (pick (ltb (v (file_length g)) (landed_end file_of v g y.writes)))
    where
      pick : (b : Bool) → touched (cond b (record { item = file_length g; to = landed_end file_of v g y.writes } ∷ []) [])
          (byte (file_bytes * f + p)) ≡ false
      pick true = unfold touched same in refl
      pick false = unfold touched in refl

  settings-off : landed_end file_of v f y.writes ≤ p → touched (settings file_of v y) (byte (file_bytes * f + p)) ≡ false
  unfolding settings landed_end
  settings-off l = neither (byte_settings file_of v y.writes) (offset_settings v y 16 ++ length_settings file_of v y.writes
      8) (byte (file_bytes * f + p)) (bytes-off y.writes ranges.writes l) (neither (offset_settings v y 16)
      (length_settings file_of v y.writes 8) (byte (file_bytes * f + p)) (offsets-off 16) (lengths-off 8))

-- After a grant.
pub zero-granted : (file_of : ℕ → ℕ) (v : Values) (y : Txn) → ((d : ℕ) → d < descriptor_count → file_of d ≤ last_file) → TxnIn y
    → fits v y ≡ true → ZeroBeyond v → ZeroBeyond (landed (settings file_of v y) v)
zero-granted file_of v y files ranges fit zeros f p low past small = let a = commit-longer file_of v y f in
    let b = commit-raised file_of v y f low in
    landed_at (settings file_of v y) v (byte (file_bytes * f + p))
    (settings-off file_of v y files ranges fit f p small (omega arith)) ∙ zeros f p low (omega arith) small
