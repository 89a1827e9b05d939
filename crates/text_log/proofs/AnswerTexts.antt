-- Laws of the texts of answers.
use mathlib.Core.{List.{List, [], ◌∷◌, ◌++◌, append_assoc}, Path.{◌≡◌, refl, sym, ap, ◌∙◌}}
use Prim.Native.Nat.{ℕ, suc, ◌+◌, ◌-◌, ◌*◌, ◌≤◌, ◌<◌, min}
use native.Mathlib.Omega.{arith}
use lib.{ListN.{length, take, drop, get_or, length-drop, length-take, length-append}, Seq.drop-cons}
use Rattle.text_numerals.specs.{Decimal.{number_text, spaced_texts}, Put.Put}
use Rattle.text_numerals.proofs.PutLaws.{then, put-preserved, nothing, take_within, append-none, texts-snoc, length-number}
use Rattle.text_numerals.proofs.PutLaws.{length-texts}
use Rattle.text_answers.{specs.Printed.{ok}, proofs.Laws.length-spelled}
use Rattle.state.specs.Outcomes.{Said, done_answer, pointer, given, granted, pairs, ordered, refused}
use Rattle.text_log.specs.Answers.{words_of, answer_text}

-- ---- words

words-short : (l : List ℕ) → length l < 2 → words_of l ≡ []
unfolding words_of
words-short [] h = refl
words-short (a ∷ []) h = refl
words-short (a ∷ b ∷ l) h = absurd (omega arith)

words_more : (l : List ℕ) (i : ℕ) → 2 ≤ length l - i
    → words_of (drop i l) ≡ (get_or l i 0 * 256 + get_or l (i + 1) 0) ∷ words_of (drop (i + 2) l)
words_more l i h = unfold words_of in let one : i + 1 ≡ suc i = omega arith in let two : i + 2 ≡ suc (suc i) = omega arith in
    rw (one, two, drop-cons l i 0 (omega arith), drop-cons l (suc i) 0 (omega arith))

pub length-words : (l : List ℕ) → 2 * length (words_of l) ≤ length l
unfolding words_of
length-words [] = omega arith
length-words (a ∷ []) = omega arith
length-words (a ∷ b ∷ l) = omega (arith, length-words l)

-- The words of the first i bytes are put.
pub record Put-so-far (b : List ℕ) (at : ℕ) (bytes : List ℕ) (i : ℕ) (o : List ℕ) (next : ℕ) : Type 0 where
  pub done : List ℕ
  pub few : 2 * length done ≤ i
  pub rest : words_of bytes ≡ done ++ words_of (drop i bytes)
  pub put : Put b at (spaced_texts done) o next

pub none-put : (b : List ℕ) (at : ℕ) (bytes : List ℕ) → Put-so-far b at bytes 0 b at
none-put b at bytes = unfold spaced_texts in record { done = []; few = omega arith; rest = refl; put = nothing b at }

pub more-put : {b o n : List ℕ} {at next end : ℕ} (bytes : List ℕ) (i w : ℕ) → at + 11 * length bytes ≤ length b
    → 2 ≤ length bytes - i → w ≡ get_or bytes i 0 * 256 + get_or bytes (i + 1) 0 → Put-so-far b at bytes i o next
    → Put o next (32 ∷ number_text w) n end → Put-so-far b at bytes (i + 2) n end
more-put bytes i w fits more is p q = let l = length-append p.done (w ∷ []) in let t = length-texts p.done in
    let k = length-number w in let f = p.few in record {
      done = p.done ++ (w ∷ []);
      few = omega arith;
      rest = p.rest ∙ ap (λ (x : List ℕ). p.done ++ x) (words_more bytes i more ∙ ap (λ (x : ℕ). x ∷ words_of
          (drop (i + 2) bytes)) (sym is)) ∙ sym (append_assoc p.done (w ∷ []) (words_of (drop (i + 2) bytes)));
      put = rw (texts-snoc p.done w) (then (spaced_texts p.done) (32 ∷ number_text w) (omega arith) p.put q);
    }

pub text-room-left : {b o : List ℕ} {at next : ℕ} (bytes : List ℕ) (i : ℕ) → at + 11 * length bytes ≤ length b
    → 2 ≤ length bytes - i → Put-so-far b at bytes i o next → next + 21 ≤ length b
text-room-left bytes i fits more p = omega (arith, p.few, length-texts p.done, p.put.end)

pub all-put : {b o : List ℕ} {at next : ℕ} (bytes : List ℕ) (i : ℕ) → length bytes - i < 2 → Put-so-far b at bytes i o next
    → Put b at (spaced_texts (words_of bytes)) o next
all-put bytes i less p = let l = length-drop i bytes in
    let e : words_of bytes ≡ p.done = p.rest ∙ ap (λ (x : List ℕ). p.done ++ x) (words-short (drop i bytes) (omega arith))
    ∙ append-none p.done in rw e p.put

-- ---- answers

pub length-answer : (a : Said) (b : List ℕ) → length (answer_text a b) ≤ 65 + 21 * length b
unfolding answer_text spaced_texts
length-answer done_answer b = omega (arith, length-spelled done_answer b)
length-answer (pointer n) b = omega (arith, length-spelled (pointer n) b)
length-answer (given n) b = omega (arith, length-spelled (given n) b)
length-answer (granted n) b = omega (arith, length-spelled (granted n) b)
length-answer (pairs n) b =
    omega (arith, length-texts (words_of (take (4 * n) b)), length-words (take (4 * n) b), length-take (4 * n) b)
length-answer (ordered grants gap tried) b = omega (arith, length-texts (grants ∷ gap ∷ tried ∷ b))
length-answer (refused n) b = omega (arith, length-spelled (refused n) b)

-- ok, three numbers and a list, put one after the other
pub best-text : {b o p q r s : List ℕ} {at e f g h k x y z : ℕ} {grants gap tried : ℕ} (order : List ℕ)
    → at + 65 + 21 * length order ≤ length b → x ≡ grants → y ≡ gap → z ≡ tried
    → Put b at ok o e → Put o e (32 ∷ number_text x) p f → Put p f (32 ∷ number_text y) q g → Put q g (32 ∷ number_text z) r h
    → Put r h (spaced_texts order) s k → Put b at (ok ++ spaced_texts (grants ∷ gap ∷ tried ∷ order)) s k
unfolding spaced_texts
best-text {b} {o} {p} {q} {r} {s} {at} {e} {f} {g} {h} {k} {x} {y} {z} order fits i j l a c d m n = let lx =
    length-number x in let ly = length-number y in let lz = length-number z in let lo = length-texts order in
    let tz = length-append (number_text z) (spaced_texts order) in
    let ty = length-append (number_text y) (32 ∷ (number_text z ++ spaced_texts order)) in
    let tx = length-append (number_text x) (32 ∷ (number_text y ++ (32 ∷ (number_text z ++ spaced_texts order)))) in
    let lp = a.end in let lq = c.end in let lr = d.end in let ko = put-preserved ok (omega arith) a in
    let kp = put-preserved (32 ∷ number_text x) (omega arith) c in
    let kq = put-preserved (32 ∷ number_text y) (omega arith) d in
    rw (← i, ← j, ← l) (then ok (spaced_texts (x ∷ y ∷ z ∷ order)) (omega arith) a
    (then (32 ∷ number_text x) (spaced_texts (y ∷ z ∷ order)) (omega arith) c (then (32 ∷ number_text y)
    (spaced_texts (z ∷ order)) (omega arith) d (then (32 ∷ number_text z) (spaced_texts order) (omega arith) m n))))

pub places-text : {b o p : List ℕ} {at e f : ℕ} (l : List ℕ) (n k : ℕ) → at + 2 + 11 * length l ≤ length b → n ≡ min k (length l)
    → Put b at ok o e → Put o e (spaced_texts (words_of (take n l))) p f → Put b at (ok ++ spaced_texts (words_of (take k l))) p f
places-text l n k fits is a c = let t = length-texts (words_of (take n l)) in let w = length-words (take n l) in
    let m = length-take n l in let e : take n l ≡ take k l = ap (λ (j : ℕ). take j l) is ∙ take_within k l in
    rw (← e) (then ok (spaced_texts (words_of (take n l))) (omega arith) a c)
