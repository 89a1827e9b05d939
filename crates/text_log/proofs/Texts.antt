-- Laws of the texts that are put for a call.
use mathlib.Core.{Bool.{Bool, true, false, cond, ◌&&◌}, List.{List, [], ◌∷◌, ◌++◌, append_assoc}, Path.{◌≡◌, refl, sym, ap, ◌∙◌}}
use Prim.Native.Nat.{ℕ, ◌+◌, ◌*◌, ◌≤◌}
use native.Mathlib.Omega.{arith}
use lib.{Dec.leb, ListN.{length, take, replicate, length-append, length-take}, Seq.append_snoc}
use borrow.Author.Tests.{leb-true}
use Rattle.text_numerals.specs.{Decimal.{number_text, spaced_texts, joined_texts}, Pairs.hex_pairs}
use Rattle.text_numerals.proofs.PutLaws.{append-none, length-number, length-texts, length_pairs}
use Rattle.requests.specs.declared.Request.{Request}
use Rattle.requests.specs.declared.Request.TheVariants.{Begin, Seek, Write, GetFilePointer, Read, Places, Commit, Abort}
use Rattle.requests.specs.{declared.Request.TheVariants.{SetWindow, UndoCommit}, Requests.call_of}
use Rattle.spec.specs.Messages.{best_order}
use Rattle.text_log.specs.LogLines.{letter_and_numbers, printable, text_line, pairs_line, write_line, op_line, line_of}
use Rattle.text_log.specs.{LogLines.most_written, Recorded.request_line}

-- A text behind one space.
pub behind-space : (xs h : List ℕ) → xs ++ (32 ∷ h) ≡ (xs ++ (32 ∷ [])) ++ h
behind-space xs h = sym (append_snoc xs 32 h)

-- A minute and a budget before a list.
pub order-text : (minute budget : ℕ) (ts : List ℕ)
    → line_of (best_order ts minute budget) ≡ letter_and_numbers 79 (minute ∷ budget ∷ []) ++ spaced_texts ts
order-text minute budget ts = unfold line_of joined_texts spaced_texts in
    ap (λ (l : List ℕ). 79 ∷ l) (ap (λ (l : List ℕ). number_text minute ++ (32 ∷ (l ++ spaced_texts ts))) (sym (append-none
    (number_text budget))) ∙ sym (append_assoc (number_text minute) (32 ∷ (number_text budget ++ [])) (spaced_texts ts)))

-- How long they are.
pub length-joined : (n : ℕ) (ns : List ℕ) → length (joined_texts (n ∷ ns)) ≤ 20 + 21 * length ns
unfolding joined_texts
length-joined n ns = omega (arith, length-append (number_text n) (spaced_texts ns), length-number n, length-texts ns)

pub length-pairs-line : (t d : ℕ) (bytes : List ℕ) → length bytes ≤ most_written → length (pairs_line t d bytes) ≤ 8237
length-pairs-line t d bytes l = omega (
  arith,
  length-append (joined_texts (t ∷ d ∷ [])) (32 ∷ hex_pairs bytes),
  length-joined t (d ∷ []),
  length_pairs bytes,
)

pub length-write : (t d : ℕ) (bytes : List ℕ) → length bytes ≤ most_written → length (write_line t d bytes) ≤ 8237
unfolding write_line
length-write t d bytes l = pick (leb (length (text_line t d bytes)) 128) refl (printable bytes)
  where
    pick : (s : Bool) → leb (length (text_line t d bytes)) 128 ≡ s → (p : Bool)
        → length (cond (s && p) (text_line t d bytes) (pairs_line t d bytes)) ≤ 8237
    pick true e true = omega (arith, leb-true (length (text_line t d bytes)) 128 e)
    pick true e false = length-pairs-line t d bytes l
    pick false e p = length-pairs-line t d bytes l

pub length-request : (q : Request) (bytes : List ℕ) (room : ℕ) → length (request_line q bytes room) ≤ 8237
unfolding request_line line_of op_line call_of joined_texts
length-request (Begin t) bytes room = omega (arith, length-joined t ([]))
length-request (Seek t d v) bytes room = omega (arith, length-joined t (d ∷ v ∷ []))
length-request (Write t d) bytes room = length-write t d (take 4097 bytes) (omega (arith, length-take 4097 bytes))
length-request (GetFilePointer t d) bytes room = omega (arith, length-joined t (d ∷ []))
length-request (Read t d n) bytes room = omega (arith, length-joined t (d ∷ n ∷ length {A = ℕ} (replicate room 0) ∷ []))
length-request (Places t f) bytes room = omega (arith, length-joined t (f ∷ length {A = ℕ} (replicate room 0) ∷ []))
length-request (Commit t minute) bytes room = omega (arith, length-joined t (minute ∷ []))
length-request (Abort t) bytes room = omega (arith, length-joined t ([]))
length-request (SetWindow f start end) bytes room = omega (arith, length-joined f (start ∷ end ∷ []))
length-request UndoCommit bytes room = omega arith
