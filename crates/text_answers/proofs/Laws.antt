-- Laws of the texts that are put.
use mathlib.Core.{Path.{◌≡◌, refl}, List.{List, [], ◌∷◌, ◌++◌}}
use Prim.Native.Nat.{ℕ, ◌+◌, ◌*◌, ◌≤◌, ◌<◌}
use native.Mathlib.Omega.{arith}
use lib.ListN.{length, take, length-take}
use Rattle.state.specs.Outcomes.{Said, done_answer, pointer, given, granted, pairs, ordered, refused}
use Rattle.text_numerals.{specs.{Decimal.number_text, Pairs.hex_pairs}, proofs.PutLaws.{below-agree, length-below, length_pairs}}
use Rattle.text_answers.specs.Printed.{decimal, ok, ok_number, ok_bytes, spelled}

pub decimal-number : (n : ℕ) → n < 65536 → decimal n ≡ number_text n
decimal-number n h = unfold decimal number_text in below-agree 4 19 n (omega arith) (omega arith)

pub length-decimal : (n : ℕ) → length (decimal n) ≤ 5
length-decimal n = unfold decimal in length-below 5 n

length-number : (n : ℕ) → length (ok_number n) ≤ 8
length-number n = unfold ok_number in omega (arith, length-decimal n)

length-bytes : (bs : List ℕ) → length (ok_bytes bs) ≤ 3 + 2 * length bs
unfolding ok_bytes
length-bytes [] = omega arith
length-bytes (b ∷ bs) = omega (arith, length_pairs (b ∷ bs))

pub text-bytes-none : (bs : List ℕ) → length bs ≡ 0 → ok_bytes bs ≡ ok
unfolding ok_bytes
text-bytes-none [] h = refl
text-bytes-none (b ∷ bs) h = absurd (omega arith)

pub bytes-some : (bs : List ℕ) → (length bs ≡ 0 → ⊥) → ok_bytes bs ≡ (ok ++ (32 ∷ [])) ++ hex_pairs bs
unfolding ok_bytes
bytes-some [] h = absurd (h refl)
bytes-some (b ∷ bs) h = refl

length-given : (n : ℕ) (b : List ℕ) → length (ok_bytes (take n b)) ≤ 3 + 2 * length b
length-given n b = omega (arith, length-bytes (take n b), length-take n b)

pub length-spelled : (a : Said) (b : List ℕ) → length (spelled a b) ≤ 8 + 2 * length b
unfolding spelled
length-spelled done_answer b = omega arith
length-spelled (pointer n) b = omega (arith, length-number n)
length-spelled (given n) b = omega (arith, length-given n b)
length-spelled (granted n) b = omega (arith, length-number n)
length-spelled (pairs n) b = omega (arith, length-number n)
length-spelled (ordered grants gap tried) b = omega (arith, length-number grants)
length-spelled (refused n) b = omega (arith, length-decimal n)
