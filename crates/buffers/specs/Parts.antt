-- Parts of a buffer, which is a list of octets, and lists made by index.
use Rattle.std.specs.Prelude.{ℕ, zero, suc, ◌+◌, ◌*◌, Bool, cond, List, [], ◌∷◌, ◌++◌, length, take, drop}
use Rattle.limits.specs.Limits.{file_bytes}

-- The list of f 0, f 1, .. below n.
module _ {A : Type 0} where
  unfoldable pub tabulate : (ℕ → A) → ℕ → List A
  tabulate f zero = []
  tabulate f (suc n) = tabulate f n ++ (f n ∷ [])

-- d with s in the place of its octets from `at` on
unfoldable pub pasted : List ℕ → ℕ → List ℕ → List ℕ
pasted d at s = take at d ++ (s ++ drop (at + length s) d)

-- the n octets of the buffer from `at` on
unfoldable pub cut : List ℕ → ℕ → ℕ → List ℕ
cut buffer at n = take n (drop at buffer)

-- "handed over as that part of the log or of the file" [R-2.5]: the one that supplies
unfoldable pub chosen : Bool → List ℕ → List ℕ → List ℕ
chosen logged log file = cond logged log file

-- "file f is the part that starts at place 4,096 × f" [R-2.1], and each is "exactly 4,096 bytes" [R-2.1]
unfoldable pub file_part : List ℕ → ℕ → List ℕ
file_part files f = cut files (file_bytes * f) file_bytes
