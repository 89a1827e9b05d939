-- Laws of the line of a Write.
use mathlib.Core.{Bool.{true, false, ◌&&◌}, List.{List, [], ◌∷◌, ◌++◌}, Path.{◌≡◌, refl, ap, ◌∙◌}}
use Prim.Native.Nat.{ℕ, ◌+◌, ◌≤◌, ◌<◌}
use native.Mathlib.Omega.{arith}
use lib.{Dec.leb, ListN.{length, length-append}}
use borrow.Author.Tests.{le-leb, lt-leb}
use Rattle.buffers.specs.Parts.{pasted}
use Rattle.text_numerals.{specs.{Decimal.joined_texts, Pairs.hex_pairs, Put.Put}, proofs.PutLaws.{then, length_pairs}}
use Rattle.text_log.specs.LogLines.{letter_and_numbers, printable, text_line, write_line, most_written, log_line_bytes}
use Rattle.text_log.proofs.Texts.{behind-space, length-joined}

module _ (after : ℕ) (bytes : List ℕ) where
  pub text-long : 128 < after → false ≡ leb after 128 && printable bytes
  text-long h = rw (lt-leb after 128 h)

  pub text-short : after ≤ 128 → printable bytes ≡ leb after 128 && printable bytes
  text-short h = rw (le-leb after 128 h)

abbrev spaced : ℕ → ℕ → ℕ → List ℕ
spaced k t d = letter_and_numbers k (t ∷ d ∷ []) ++ (32 ∷ [])

module _ {b m n : List ℕ} {e f : ℕ} (k t d : ℕ) (room : log_line_bytes ≤ length b) where
  pub put-space : Put b 0 (letter_and_numbers k (t ∷ d ∷ [])) m e → Put m e (32 ∷ []) n f → Put b 0 (spaced k t d) n f
  put-space p q = let l = length-joined t (d ∷ []) in then (letter_and_numbers k (t ∷ d ∷ [])) (32 ∷ []) (omega arith) p q

-- Another letter in front.
relettered : {b m n : List ℕ} {e : ℕ} (x y : ℕ) (xs : List ℕ) {f : ℕ} → Put b 0 (x ∷ xs) m e → Put m 0 (y ∷ []) n f
    → Put b 0 (y ∷ xs) n e
unfolding pasted
relettered {b} {m} {n} {e} x y xs p q =
    record { bytes = q.bytes ∙ ap (λ (l : List ℕ). pasted l 0 (y ∷ [])) p.bytes; end = p.end }

whole : {b m : List ℕ} {e : ℕ} (t d : ℕ) (bytes : List ℕ) → Put b 0 (spaced 87 t d) m e → e + length bytes
    ≡ length (text_line t d bytes)
whole t d bytes p = let l = length-append (joined_texts (t ∷ d ∷ [])) (32 ∷ []) in
    let k = length-append (joined_texts (t ∷ d ∷ [])) (32 ∷ bytes) in omega (arith, p.end)

pub put-write-line : {b m n : List ℕ} {e : ℕ} (t d : ℕ) (bytes : List ℕ) → log_line_bytes ≤ length b
    → length bytes ≤ most_written → Put b 0 (spaced 87 t d) m e → n ≡ pasted m e bytes
    → (leb (e + length bytes) 128 && printable bytes) ≡ true → Put b 0 (write_line t d bytes) n (e + length bytes)
put-write-line t d bytes room short p q is = unfold write_line in let l = length-joined t (d ∷ []) in
    let a = length-append (joined_texts (t ∷ d ∷ [])) (32 ∷ []) in
    rw (← whole t d bytes p, is, behind-space (letter_and_numbers 87 (t ∷ d ∷ [])) bytes)
    (then (spaced 87 t d) bytes (omega arith) p (record { bytes = q; end = refl }))

pub put-other-text : {b m n o : List ℕ} {e f g : ℕ} (t d : ℕ) (bytes : List ℕ) → log_line_bytes ≤ length b
    → length bytes ≤ most_written → Put b 0 (spaced 87 t d) m e → Put m 0 (88 ∷ []) o f → Put o e (hex_pairs bytes) n g
    → (leb (e + length bytes) 128 && printable bytes) ≡ false → Put b 0 (write_line t d bytes) n g
put-other-text t d bytes room short p r q off = unfold write_line in let l = length-joined t (d ∷ []) in
    let a = length-append (joined_texts (t ∷ d ∷ [])) (32 ∷ []) in let h = length_pairs bytes in
    rw (← whole t d bytes p, off, behind-space (letter_and_numbers 88 (t ∷ d ∷ [])) (hex_pairs bytes))
    (then (spaced 88 t d) (hex_pairs bytes) (omega arith) (relettered 87 88 (joined_texts (t ∷ d ∷ []) ++ (32 ∷ [])) p r) q)
