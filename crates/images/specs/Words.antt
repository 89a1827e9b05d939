-- Numbers of 16 bits as bytes, the low one first.
use Rattle.std.specs.Prelude.{List, [], ◌∷◌, ◌++◌, get_or, set, ℕ, zero, suc, ◌+◌, ◌*◌, ◌/◌, ◌%◌}

-- Number i of these bytes.
unfoldable pub word_at : List ℕ → ℕ → ℕ
word_at bytes i = get_or bytes (2 * i) 0 + 256 * get_or bytes (2 * i + 1) 0

-- The bytes of f 0, f 1, .. below n.
unfoldable pub low_first : (ℕ → ℕ) → ℕ → List ℕ
low_first f zero = []
low_first f (suc n) = low_first f n ++ (f n % 256 ∷ f n / 256 ∷ [])

-- The bytes with n as number i.
unfoldable pub with_word_at : List ℕ → ℕ → ℕ → List ℕ
with_word_at bytes i n = set (set bytes (2 * i) (n % 256)) (2 * i + 1) (n / 256)
