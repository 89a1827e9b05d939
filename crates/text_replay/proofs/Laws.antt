-- Laws for this crate's proofs. Assumes nothing.
use mathlib.Core.{Bool.{Bool, true, cond, ◌&&◌}, List.{List, [], ◌∷◌}, Path.{◌≡◌, refl, sym, ap, ◌∙◌}}
use lib.{Dec.eqb, ListN.{length, drop, length-take}}
use borrow.Author.Tests.{lt-ltb}
use native.Mathlib.{Numerals.add-one, Omega.arith}
use Prim.Native.Nat.{ℕ, ◌+◌, ◌*◌, ◌≤◌, ◌<◌}
use Rattle.std.specs.Cmp.Lexicographic.{pointwise}
use Rattle.buffers.specs.Parts.{cut}
use Rattle.text_numerals.specs.Put.{Put}
use Rattle.state.specs.Outcomes.{Said}
use Rattle.text_log.{specs.{Answers.{answer_text, same_bytes}, Replay.one_more}, proofs.AnswerTexts.length-answer}

-- a part of a buffer
pub line-part-short : (x : List ℕ) (at n : ℕ) (l : List ℕ) → x ≡ cut l at n → length x ≤ n
line-part-short x at n l e = unfold cut in omega (arith, ap length e, length-take n (drop at l))

-- the end of an answer's text
pub reply-end : {b m : List ℕ} {at e : ℕ} (a : Said) (x : List ℕ) → Put b at (answer_text a x) m e → (at ≤ e)
    × (e ≤ at + 65 + 21 * length x)
reply-end a x p = (omega (arith, p.end), omega (arith, length-answer a x, p.end))

-- ---- counting

pub count-one-more : (n : ℕ) → n < 18446744073709551615 → n + 1 ≡ one_more n
count-one-more n h = unfold one_more in rw (lt-ltb n 18446744073709551615 h) (add-one n)

pub same-line-count : (t s : Bool) (n : ℕ) → t ≡ s → t ≡ true → n ≡ cond s n (one_more n)
same-line-count t s n e h = sym (ap (λ (b : Bool). cond b n (one_more n)) (sym e ∙ h))

-- ---- bytes that are the same

pub same_pointwise : (a b : List ℕ) → pointwise eqb a b ≡ same_bytes a b
unfolding same_bytes
same_pointwise [] [] = refl
same_pointwise [] (y ∷ b) = refl
same_pointwise (x ∷ a) [] = refl
same_pointwise (x ∷ a) (y ∷ b) = ap (λ (t : Bool). eqb x y && t) (same_pointwise a b)
