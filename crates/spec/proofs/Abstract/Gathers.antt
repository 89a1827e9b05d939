-- What a Read gives and sights: the bytes of a fetch, and the length after them where it gave fewer than wanted.
use mathlib.Core.{Bool.{Bool, true, false, cond}, List.{List, [], ◌∷◌, ◌++◌}, Path.{◌≡◌, refl, ap, ◌∙◌}}
use lib.{Dec.ltb, ListN.length}
use Prim.Native.Nat.{ℕ, zero, suc, ◌+◌, ◌-◌, ◌*◌, min}
use Rattle.limits.specs.Limits.{file_bytes}
use Rattle.spec.specs.{Items.{Item, file_length, Values, done, and_then, result, asked}, Transactions.Write}
use Rattle.spec.specs.Reading.{bring, latest, fetch, length_for, length_sighted, gather}
use Rattle.spec.proofs.Abstract.Programs.{result-and_then, asked-and_then}

module _ (v : Values) (f : ℕ) where
  sighted-result : (b : Bool) (bytes : List ℕ) → result v (length_sighted b f bytes) ≡ bytes
  unfolding length_sighted result
  sighted-result true bytes = refl
  sighted-result false bytes = refl

  sighted-asked : (b : Bool) (bytes : List ℕ) → asked v (length_sighted b f bytes) ≡ cond b (file_length f ∷ []) []
  unfolding length_sighted asked
  sighted-asked true bytes = refl
  sighted-asked false bytes = refl

module _ (file_of : ℕ → ℕ) (ws : List Write) (f p n : ℕ) (v : Values) where
  -- How many bytes a Read gives.
  abbrev pub gathered_count : ℕ
  gathered_count = min n (length_for file_of f ws (v (file_length f)) - p)

  pub record Gathers : Type 0 where
    pub bytes : result v (gather file_of ws f p n) ≡ result v (fetch file_of ws f p gathered_count)
    pub sightings : asked v (gather file_of ws f p n) ≡ asked v (fetch file_of ws f p gathered_count)
        ++ cond (ltb gathered_count n) (file_length f ∷ []) []

  pub read-stops : Gathers
  read-stops = unfold gather result asked in let fetched = fetch file_of ws f p gathered_count in record {
    bytes = result-and_then v fetched (length_sighted (ltb gathered_count n) f)
        ∙ sighted-result v f (ltb gathered_count n) (result v fetched);
    sightings = asked-and_then v fetched (length_sighted (ltb gathered_count n) f)
        ∙ ap (λ (l : List Item). asked v fetched ++ l) (sighted-asked v f (ltb gathered_count n) (result v fetched));
  }

-- A fetch brings as many bytes as are asked for.
pub length-fetch : (file_of : ℕ → ℕ) (ws : List Write) (f : ℕ) (v : Values) (p n : ℕ) → length (result v (fetch file_of ws f p n))
    ≡ n
unfolding fetch result
length-fetch file_of ws f v p zero = refl
length-fetch file_of ws f v p (suc n) = let one = bring (latest file_of f p ws) (file_bytes * f + p) in
    let rest = fetch file_of ws f (suc p) n in
    ap length (result-and_then v one (λ b. and_then rest (λ bs. done (b ∷ bs)))
    ∙ result-and_then v rest (λ bs. done (result v one ∷ bs))) ∙ ap (λ (k : ℕ). suc k) (length-fetch file_of ws f v (suc p) n)

pub length-gather : (file_of : ℕ → ℕ) (ws : List Write) (f p n : ℕ) (v : Values)
    → length (result v (gather file_of ws f p n)) ≡ min n (length_for file_of f ws (v (file_length f)) - p)
length-gather file_of ws f p n v = ap length (read-stops file_of ws f p n v).bytes
    ∙ length-fetch file_of ws f v p (min n (length_for file_of f ws (v (file_length f)) - p))
