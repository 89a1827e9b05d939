-- Lengths only grow: a commit sets a length to no less than it was.
use mathlib.Core.{Bool.{Bool, true, false, cond}, List.{List, [], ◌∷◌, ◌++◌}, Logic.⊎_elim, Path.{◌≡◌, refl}}
use borrow.Author.Tests.{ltb-true, ltb-false, eqb-true, eq-eqb, ne_eqb}
use lib.Dec.{ltb, eqb}
use native.Mathlib.{Nat.{eq-or-lt_of_le, le_of_suc-le-suc, not-suc-le-zero}, Omega.arith}
use Prim.Native.Nat.{ℕ, zero, suc, ◌+◌, ◌*◌, ◌≤◌, ◌<◌}
use Rattle.limits.specs.Limits.{file_count, file_bytes}
use Rattle.spec.specs.{Items.{Item, byte, offset, file_length, same, Values}, Transactions.{Txn, Write}}
use Rattle.spec.specs.Commits.{Setting, lands_at, bytes_from, byte_settings, sets_offset, offset_settings, landed_end}
use Rattle.spec.specs.{Commits.{length_settings, settings, put_item, landed}, Lengths.Longer}
use Rattle.standings.specs.Table.{final_offset}
use Rattle.spec.proofs.Abstract.Programs.{Every, every_append}

-- A setting that makes no length shorter.
abbrev Keeping : Values → Item → ℕ → Type 0
Keeping v (byte q) n = Unit {0}
Keeping v (offset d) n = Unit {0}
Keeping v (file_length f) n = v (file_length f) ≤ n

abbrev Growing : Values → List Setting → Type 0
Growing v = Every (λ (s : Setting). Keeping v s.item s.to)

put-longer : (v w : Values) (i : Item) (n : ℕ) → Keeping v i n → Longer v w → Longer v (put_item i n w)
unfolding put_item same
put-longer v w (byte q) n h l f = l f
put-longer v w (offset d) n h l f = l f
put-longer v w (file_length g) n h l f = pick (eqb f g) refl
  where
    pick : (b : Bool) → eqb f g ≡ b → v (file_length f) ≤ cond b n (w (file_length f))
    pick true e = rw (eqb-true f g e) h
    pick false e = l f

landed-longer : (v w : Values) (ss : List Setting) → Growing v ss → Longer v w → Longer v (landed ss w)
unfolding landed
landed-longer v w [] h l = l
landed-longer v w (s ∷ ss) h l = landed-longer v (put_item s.item s.to w) ss h.1
    (put-longer v w s.item s.to h.0 l)

module _ (file_of : ℕ → ℕ) (v : Values) where
  growing-append : (ss rs : List Setting) → Growing v ss → Growing v rs → Growing v (ss ++ rs)
  growing-append ss rs h k = every_append (λ (s : Setting). Keeping v s.item s.to) ss rs h k

  growing-interval : (q : ℕ) (bs : List ℕ) → Growing v (bytes_from q bs)
  unfolding bytes_from
  growing-interval q [] = tt
  growing-interval q (b ∷ bs) = (tt, growing-interval (suc q) bs)

  growing-bytes : (ws : List Write) → Growing v (byte_settings file_of v ws)
  unfolding byte_settings
  growing-bytes [] = tt
  growing-bytes (w ∷ ws) = let q = file_bytes * file_of w.descriptor + lands_at (v (offset w.descriptor)) w.place in
      growing-append (bytes_from q w.bytes) (byte_settings file_of v ws) (growing-interval q w.bytes) (growing-bytes ws)

  growing-offsets : (x : Txn) (n : ℕ) → Growing v (offset_settings v x n)
  unfolding offset_settings
  growing-offsets x zero = tt
  growing-offsets x (suc d) = growing-append (offset_settings v x d) _ (growing-offsets x d) (pick (sets_offset x d))
    where
      pick : (b : Bool) → Growing v (cond b (record { item = offset d; to = final_offset (v (offset d)) (x.standing d) } ∷ []) [])
      pick true = (tt, tt)
      pick false = tt

  growing-lengths : (ws : List Write) (n : ℕ) → Growing v (length_settings file_of v ws n)
  unfolding length_settings
  growing-lengths ws zero = tt
  growing-lengths ws (suc f) = growing-append (length_settings file_of v ws f) _ (growing-lengths ws f)
      (pick (ltb (v (file_length f)) (landed_end file_of v f ws)) refl)
    where
      pick : (b : Bool) → ltb (v (file_length f)) (landed_end file_of v f ws) ≡ b
          → Growing v (cond b (record { item = file_length f; to = landed_end file_of v f ws } ∷ []) [])
      pick true e = (omega (arith, ltb-true (v (file_length f)) (landed_end file_of v f ws) e), tt)
      pick false e = tt

  growing-settings : (x : Txn) → Growing v (settings file_of v x)
  unfolding settings
  growing-settings x = growing-append (byte_settings file_of v x.writes) _ (growing-bytes x.writes)
      (growing-append (offset_settings v x 16) _ (growing-offsets x 16) (growing-lengths x.writes 8))

  -- After a commit no length is shorter.
  pub commit-longer : (x : Txn) → Longer v (landed (settings file_of v x) v)
  commit-longer x = landed-longer v v (settings file_of v x) (growing-settings x) (λ f. omega arith)

  -- One list of settings after another.
  pub landed-append : (ss rs : List Setting) (w : Values) → landed (ss ++ rs) w ≡ landed rs (landed ss w)
  unfolding landed
  landed-append [] rs w = refl
  landed-append (s ∷ ss) rs w = landed-append ss rs (put_item s.item s.to w)

  -- The length of a file that writes reach is no less than where they end.
  raised : (ws : List Write) (n f : ℕ) (w : Values) → Longer v w → f < n
      → landed_end file_of v f ws ≤ landed (length_settings file_of v ws n) w (file_length f)
  unfolding length_settings
  raised ws zero f w l h = absurd (not-suc-le-zero h)
  raised ws (suc n) f w l h = rw (landed-append (length_settings file_of v ws n)
      (last (ltb (v (file_length n)) (landed_end file_of v n ws))) w) (⊎_elim own (λ g. other
      (ltb (v (file_length n)) (landed_end file_of v n ws)) g (raised ws n f w l g)) (eq-or-lt_of_le (le_of_suc-le-suc h)))
    where
      last : Bool → List Setting
      last b = cond b (record { item = file_length n; to = landed_end file_of v n ws } ∷ []) []

      before : Values
      before = landed (length_settings file_of v ws n) w

      own : f ≡ n → landed_end file_of v f ws ≤ landed (last (ltb (v (file_length n)) (landed_end file_of v n ws))) before
          (file_length f)
      own e = rw e (set (ltb (v (file_length n)) (landed_end file_of v n ws)) refl)
        where
          set : (b : Bool) → ltb (v (file_length n)) (landed_end file_of v n ws) ≡ b
              → landed_end file_of v n ws ≤ landed (last b) before (file_length n)
          set true q = unfold landed put_item same in rw (eq-eqb n n refl) (omega arith)
          set false q = let k = ltb-false (v (file_length n)) (landed_end file_of v n ws) q in
              let g = landed-longer v w (length_settings file_of v ws n) (growing-lengths ws n) l n in unfold landed in
              omega arith

      other : (b : Bool) → f < n → landed_end file_of v f ws ≤ before (file_length f)
          → landed_end file_of v f ws ≤ landed (last b) before (file_length f)
      other true g k = unfold landed put_item same in rw (ne_eqb f n (λ e. omega arith)) k
      other false g k = unfold landed in k

  pub commit-raised : (x : Txn) (f : ℕ) → f < file_count
      → landed_end file_of v f x.writes ≤ landed (settings file_of v x) v (file_length f)
  unfolding settings
  commit-raised x f h = let bs = byte_settings file_of v x.writes in let os = offset_settings v x 16 in rw (
    landed-append bs (os ++ length_settings file_of v x.writes 8) v,
    landed-append os (length_settings file_of v x.writes 8) (landed bs v),
  ) (raised x.writes 8 f (landed os (landed bs v)) (landed-longer v (landed bs v) os (growing-offsets x 16)
      (landed-longer v v bs (growing-bytes x.writes) (λ g. omega arith))) h)
