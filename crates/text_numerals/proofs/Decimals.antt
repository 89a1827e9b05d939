-- What is printed in decimal is read back.
use mathlib.Core.{Bool.{Bool, true, false}, List.{List, [], ◌∷◌, ◌++◌}, Path.{◌≡◌, refl, ap, ◌∙◌}}
use Prim.Native.Nat.{ℕ, zero, suc, ◌+◌, ◌*◌, ◌/◌, ◌%◌, ◌^◌, ◌≤◌, ◌<◌}
use native.Mathlib.Omega.{arith}
use lib.{Dec.ltb, ListN.length, Seq.append_snoc}
use borrow.Author.Tests.{lt-ltb, le-ltb, ltb-true, ltb-false, le-leb}
use Rattle.text_numerals.specs.Decimal.{glyph, decimal_below, past, number_text, spaced_texts, numeral, is_digit, worth, digits}
use Rattle.text_numerals.specs.Decimal.{front_within, fitting, front_number, spaced_number, more_digits, values, before}
use Rattle.text_numerals.specs.Decimal.{then_values, numbers_in, AllBelow, Stops, ReadsBack}

-- The character of a digit is one, and is worth that digit.
pub glyph-small : (d : ℕ) → d < 10 → glyph d ≡ 48 + d
glyph-small d h = rw (lt-ltb d 10 h)

pub glyph-digit : (d : ℕ) → d < 10 → is_digit (glyph d) ≡ true
unfolding is_digit
glyph-digit d h = rw (glyph-small d h) (rw (le-leb 48 (48 + d) (omega arith), le-leb (48 + d) 57 (omega arith)))

pub glyph-worth : (d : ℕ) → d < 10 → worth (glyph d) ≡ d
glyph-worth d h = rw (glyph-small d h) (omega arith)

-- One digit more; none more.
digits-glyph : (j v d : ℕ) (s : List ℕ) → d < 10 → digits (suc j) v (glyph d ∷ s) ≡ digits j (v * 10 + d) s
digits-glyph j v d s h = unfold digits in rw (glyph-digit d h, glyph-worth d h)

pub digits-stops : (j v : ℕ) (s : List ℕ) → Stops s → digits j v s ≡ numeral v s
unfolding digits Stops
digits-stops zero v s h = refl
digits-stops (suc j) v [] h = refl
digits-stops (suc j) v (b ∷ s) h = rw h

front-glyph : (m d : ℕ) (s : List ℕ) → d < 10 → front_within m (glyph d ∷ s) ≡ digits m d s
front-glyph m d s h = unfold front_within in rw (glyph-digit d h, glyph-worth d h)

-- A digit, and a number of more digits, as they are printed.
pub below-digit : (k n : ℕ) → n < 10 → decimal_below (suc k) n ≡ glyph n ∷ []
below-digit k n h = unfold decimal_below in rw (lt-ltb n 10 h)

pub decimal-below-more : (k n : ℕ) → 10 ≤ n → decimal_below (suc k) n ≡ decimal_below k (n / 10) ++ (glyph (n % 10) ∷ [])
decimal-below-more k n h = unfold decimal_below in rw (le-ltb n 10 h)

-- A number below 10 ^ suc k, read with at most m digits after its first: at least m - k more may follow it.
front_reads : (k m n : ℕ) (s : List ℕ) → n < 10 ^ suc k → k ≤ m
    → (j : ℕ) × (m ≤ j + k) × (front_within m (decimal_below (suc k) n ++ s) ≡ digits j n s)
front_reads zero m n s h l = let d : n < 10 = omega arith in (m, omega arith, rw (below-digit 0 n d) (front-glyph m n s d))
front_reads (suc k) m n s h l = pick (ltb n 10) refl (front_reads k m (n / 10) (glyph (n % 10) ∷ s) (omega arith) (omega arith))
  where
    more : (j : ℕ) → m ≤ j + k → front_within m (decimal_below (suc k) (n / 10) ++ (glyph (n % 10) ∷ s))
        ≡ digits j (n / 10) (glyph (n % 10) ∷ s)
        → (i : ℕ) × (m ≤ i + suc k) × (front_within m (decimal_below (suc k) (n / 10) ++ (glyph (n % 10) ∷ s)) ≡ digits i n s)
    more zero g e = absurd (omega arith)
    more (suc j) g e = let v : n / 10 * 10 + n % 10 ≡ n = omega arith in
        (j, omega arith, e ∙ digits-glyph j (n / 10) (n % 10) s (omega arith) ∙ ap (λ (w : ℕ). digits j w s) v)

    pick : (t : Bool) → ltb n 10 ≡ t → (j : ℕ) × (m ≤ j + k)
        × (front_within m (decimal_below (suc k) (n / 10) ++ (glyph (n % 10) ∷ s)) ≡ digits j (n / 10) (glyph (n % 10) ∷ s))
        → (i : ℕ) × (m ≤ i + suc k) × (front_within m (decimal_below (suc (suc k)) n ++ s) ≡ digits i n s)
    pick true e ih = (m, omega arith, rw (below-digit (suc k) n (ltb-true n 10 e)) (front-glyph m n s (ltb-true n 10 e)))
    pick false e ih =
        rw (decimal-below-more (suc k) n (ltb-false n 10 e), append_snoc (decimal_below (suc k) (n / 10)) (glyph (n % 10)) s)
        (more ih.0 ih.1 ih.2)

-- A number of 64 bits is read back, where no digit follows.
pub number-back : (n : ℕ) (rest : List ℕ) → n < past → Stops rest → front_number more_digits (number_text n ++ rest) ≡ numeral n rest
unfolding front_number number_text fitting
number-back n rest h stop = let f = front_reads 19 19 n rest (omega arith) (omega arith) in
    ap fitting (f.2 ∙ digits-stops f.0 n rest stop) ∙ rw (lt-ltb n past h)

spaced-back : (n : ℕ) (rest : List ℕ) → n < past → Stops rest → spaced_number more_digits (32 ∷ (number_text n ++ rest))
    ≡ numeral n rest
spaced-back n rest h stop = unfold spaced_number in number-back n rest h stop

pub texts-stop : (ns : List ℕ) → Stops (spaced_texts ns)
unfolding Stops spaced_texts is_digit
texts-stop [] = tt
texts-stop (n ∷ ns) = refl

pub numbers-back : (k : ℕ) (ns : List ℕ) → length ns ≤ k → AllBelow past ns → numbers_in k (spaced_texts ns) ≡ values ns
unfolding numbers_in spaced_texts AllBelow then_values before
numbers-back zero [] l h = refl
numbers-back zero (n ∷ ns) l h = absurd (omega arith)
numbers-back (suc k) [] l h = refl
numbers-back (suc k) (n ∷ ns) l h =
    rw (spaced-back n (spaced_texts ns) h.0 (texts-stop ns), numbers-back k ns (omega arith) h.1)

pub reads-back : ReadsBack
reads-back = record { number = number-back; numbers = numbers-back }
