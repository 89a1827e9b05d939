-- A call's line is read as that call.
use mathlib.Core.{Bool.{Bool, true, false, cond, ◌&&◌}, List.{List, [], ◌∷◌, ◌++◌, append_assoc}, Path.{◌≡◌, refl, ap, ◌∙◌}}
use Prim.Native.Nat.{ℕ, ◌≤◌}
use native.Mathlib.Omega.{arith}
use lib.{Dec.leb, ListN.length}
use borrow.Author.Tests.{le-leb, leb-true, lt-ltb}
use Rattle.text_numerals.specs.Decimal.{past, AllBelow, Stops, number_text, spaced_texts, joined_texts, front_number, front_within}
use Rattle.text_numerals.specs.Decimal.{fitting, spaced_number, more_digits, Numeral, none, numeral, values, at_most, then_values}
use Rattle.text_numerals.specs.{Decimal.{before, numbers_in, is_digit}, Pairs.hex_pairs}
use Rattle.text_numerals.proofs.{Decimals.{number-back, numbers-back, texts-stop}, PairLaws.pairs-back}
use Rattle.spec.specs.Messages.{Call, begin, on, commit, abort, places, set_window, undo_commit, best_order, Op, seek, write}
use Rattle.spec.specs.Messages.{get_file_pointer, read}
use Rattle.text_log.specs.LogLines.{LogEntry, calls, fresh, text_line, pairs_line, write_line, printable, op_line, line_of}
use Rattle.text_log.specs.LogLines.{fresh_line, next_number, last, last_or, octets, numbers_only, entry_asked, if_whole, on_number}
use Rattle.text_log.specs.LogLines.{ordering, pairs_behind, text_behind, write_entry, lettered_entry, entry_in, call_in}
use Rattle.text_log.specs.LogLines.{most_numbers, most_written, longest}
use Rattle.text_log.specs.Statements.{numbers_of, numbers_of_op, bytes_of_call, bytes_of_op, Loggable, blank, blank_op}
use Rattle.text_log.proofs.{Texts.{length-joined, length-pairs-line}, ReadingLaws.entry-within}

no_number : (w : ℕ) (rest : List ℕ) → none ≡ numeral w rest → ⊥
no_number w rest e = let z : ◌≡◌ {A = ℕ} 0 1 = cc in omega arith

-- A number at the front, and the numbers behind it.
only-front : (bytes : List ℕ) (v : ℕ) (rest : List ℕ) → front_number more_digits bytes ≡ numeral v rest
    → numbers_only bytes ≡ before v (numbers_in most_numbers rest)
unfolding numbers_only then_values front_number front_within fitting
only-front [] v rest e = absurd (no_number v rest e)
only-front (b ∷ bytes) v rest e = ap (λ (g : Numeral). then_values g (numbers_in most_numbers)) e

joined_back : (n : ℕ) (ns : List ℕ) → length ns ≤ most_numbers → AllBelow past (n ∷ ns)
    → numbers_only (joined_texts (n ∷ ns)) ≡ values (n ∷ ns)
unfolding joined_texts before AllBelow
joined_back n ns l h = only-front (joined_texts (n ∷ ns)) n (spaced_texts ns)
    (number-back n (spaced_texts ns) h.0 (texts-stop ns)) ∙ rw (numbers-back most_numbers ns l h.1)

-- A letter with its numbers is short enough.
short : (k n : ℕ) (ns : List ℕ) → length ns ≤ most_numbers → length (k ∷ joined_texts (n ∷ ns)) ≤ longest
short k n ns l = omega (arith, length-joined n ns)

-- Two numbers, and what is made of the bytes behind them.
written_back : (f : ℕ → ℕ → List ℕ → LogEntry) (t d : ℕ) (rest : List ℕ) → AllBelow past (t ∷ d ∷ []) → Stops rest
    → write_entry f (joined_texts (t ∷ d ∷ []) ++ rest) ≡ f t d rest
written_back f t d rest h stop = unfold write_entry joined_texts spaced_texts spaced_number on_number AllBelow Stops is_digit in
    rw (append_assoc (number_text t) (32 ∷ (number_text d ++ [])) rest, append_assoc (number_text d) [] rest)
    (rw (number-back t (32 ∷ (number_text d ++ rest)) h.0 refl, number-back d rest h.1.0 stop))

module _ (t d : ℕ) (bytes : List ℕ) (h : AllBelow past (t ∷ d ∷ [])) where
  text-back : length (text_line t d bytes) ≤ 128 → call_in (text_line t d bytes) ≡ calls (on t (write d bytes))
  unfolding entry_in lettered_entry text_behind Stops is_digit
  text-back l = entry-within (text_line t d bytes) (omega arith) ∙ rw (le-leb (length (joined_texts (t ∷ d ∷ [])
      ++ (32 ∷ bytes))) 127 (omega arith)) (written_back text_behind t d (32 ∷ bytes) h refl)

  pairs-line-back : AllBelow 256 bytes → length bytes ≤ most_written → call_in (pairs_line t d bytes) ≡ calls (on t (write d bytes))
  unfolding entry_in lettered_entry pairs_behind if_whole at_most Stops is_digit
  pairs-line-back b l = entry-within (pairs_line t d bytes) (length-pairs-line t d bytes l) ∙ written_back pairs_behind t d
      (32 ∷ hex_pairs bytes) h refl ∙ rw (pairs-back bytes b, le-leb (length bytes) most_written l)

  write-back : AllBelow 256 bytes → length bytes ≤ most_written → call_in (write_line t d bytes) ≡ calls (on t (write d bytes))
  unfolding write_line
  write-back b l = pick (leb (length (text_line t d bytes)) 128) refl (printable bytes)
    where
      pick : (s : Bool) → leb (length (text_line t d bytes)) 128 ≡ s → (p : Bool)
          → call_in (cond (s && p) (text_line t d bytes) (pairs_line t d bytes)) ≡ calls (on t (write d bytes))
      pick true e true = text-back (leb-true (length (text_line t d bytes)) 128 e)
      pick true e false = pairs-line-back b l
      pick false e p = pairs-line-back b l

op-back : (t : ℕ) (o : Op) → Loggable (on t o) → call_in (op_line t o) ≡ calls (on t (blank_op o))
unfolding op_line blank_op entry_in lettered_entry entry_asked next_number last last_or if_whole numbers_of numbers_of_op bytes_of_call
    bytes_of_op
op-back t (seek d v) h =
    entry-within _ (short 83 t (d ∷ v ∷ []) (omega arith)) ∙ rw (joined_back t (d ∷ v ∷ []) (omega arith) h.numbers)
op-back t (write d bytes) h = write-back t d bytes h.numbers h.bytes h.short
op-back t (get_file_pointer d) h =
    entry-within _ (short 80 t (d ∷ []) (omega arith)) ∙ rw (joined_back t (d ∷ []) (omega arith) h.numbers)
op-back t (read d n buffer) h = entry-within _ (short 82 t (d ∷ n ∷ length buffer ∷ []) (omega arith))
    ∙ rw (joined_back t (d ∷ n ∷ length buffer ∷ []) (omega arith) h.numbers)

-- Numbers below 256 are octets.
all-octets : (ns : List ℕ) → AllBelow 256 ns → octets ns ≡ true
unfolding octets AllBelow
all-octets [] h = refl
all-octets (n ∷ ns) h = rw (lt-ltb n 256 h.0) (all-octets ns h.1)

pub back : (c : Call) → Loggable c → call_in (line_of c) ≡ calls (blank c)
unfolding line_of blank entry_in lettered_entry entry_asked ordering next_number last last_or if_whole numbers_of bytes_of_call
back (begin t) h = entry-within _ (short 66 t [] (omega arith)) ∙ rw (joined_back t [] (omega arith) h.numbers)
back (on t o) h = op-back t o h
back (commit t minute) h =
    entry-within _ (short 67 t (minute ∷ []) (omega arith)) ∙ rw (joined_back t (minute ∷ []) (omega arith) h.numbers)
back (abort t) h = entry-within _ (short 65 t [] (omega arith)) ∙ rw (joined_back t [] (omega arith) h.numbers)
back (places t f out) h = entry-within _ (short 76 t (f ∷ length out ∷ []) (omega arith))
    ∙ rw (joined_back t (f ∷ length out ∷ []) (omega arith) h.numbers)
back (set_window f start end) h = entry-within _ (short 72 f (start ∷ end ∷ []) (omega arith))
    ∙ rw (joined_back f (start ∷ end ∷ []) (omega arith) h.numbers)
back undo_commit h = unfold joined_texts numbers_only in entry-within _ (omega arith)
back (best_order ts minute budget) h = entry-within _ (short 79 minute (budget ∷ ts) (omega (arith, h.few)))
    ∙ rw (joined_back minute (budget ∷ ts) (omega (arith, h.few)) h.numbers, all-octets ts h.bytes)

pub fresh-back : (files : List ℕ) → length files ≤ most_numbers → AllBelow 256 files → call_in (fresh_line files) ≡ fresh files
unfolding fresh_line entry_in lettered_entry entry_asked if_whole joined_texts numbers_only octets AllBelow
fresh-back [] l h = entry-within _ (omega arith)
fresh-back (n ∷ ns) l h =
    entry-within _ (short 70 n ns (omega arith)) ∙ rw (joined_back n ns (omega arith) (wider (n ∷ ns) h), all-octets (n ∷ ns) h)
  where
    wider : (l : List ℕ) → AllBelow 256 l → AllBelow past l
    wider [] h = tt
    wider (n ∷ ns) h = (omega (arith, h.0), wider ns h.1)
