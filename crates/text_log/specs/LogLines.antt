-- A call log: calls as lines of text. The line of a call, and what a line says. The forms of a trace (paper
-- 02, F-5) are among its forms.
use Rattle.std.specs.Prelude.{Bool, true, cond, ◌&&◌, List, [], ◌∷◌, ◌++◌, eqb, leb, ltb, length, replicate, ℕ}
use Prim.Native.Char.{code}
use Rattle.limits.specs.Limits.{file_bytes}
use Rattle.text_numerals.specs.Decimal.{Numeral, none, numeral, joined_texts, front_number, spaced_number}
use Rattle.text_numerals.specs.Decimal.{more_digits}
use Rattle.text_numerals.specs.Decimal.{NumberList, unread, values, then_values, at_most, numbers_in}
use Rattle.text_numerals.specs.Pairs.{hex_pairs, pairs_in}
use Rattle.spec.specs.Messages.{Call, begin, on, commit, abort, places, set_window, undo_commit, best_order}
use Rattle.spec.specs.Messages.{Op, seek, write, get_file_pointer, read}

-- What a line says: a call; Fresh, with its file numbers; the version of the format; that the call before had
-- the answer that stands behind `= `; nothing; or it has another form.
pub data LogEntry : Type 0 where
  another : LogEntry
  comment : LogEntry
  expects : LogEntry
  version : ℕ → LogEntry
  fresh : List ℕ → LogEntry
  calls : Call → LogEntry

-- ---- printed

-- A letter with its numbers, the first directly behind it.
abbrev pub letter_and_numbers : ℕ → List ℕ → List ℕ
letter_and_numbers k ns = k ∷ joined_texts ns

-- A byte that a terminal shows: blank to tilde.
unfoldable pub printable : List ℕ → Bool
printable [] = true
printable (b ∷ bytes) = leb (code " ") b && leb b (code "~") && printable bytes

-- A Write's bytes as they are, and as hexadecimal pairs. Printable ones are put as they are where the line
-- has at most 128 bytes, so that a log can be searched.
abbrev pub text_line : ℕ → ℕ → List ℕ → List ℕ
text_line t d bytes = letter_and_numbers (code "W") (t ∷ d ∷ []) ++ (32 ∷ bytes)

abbrev pub pairs_line : ℕ → ℕ → List ℕ → List ℕ
pairs_line t d bytes = letter_and_numbers (code "X") (t ∷ d ∷ []) ++ (32 ∷ hex_pairs bytes)

unfoldable pub write_line : ℕ → ℕ → List ℕ → List ℕ
write_line t d bytes =
    cond (leb (length (text_line t d bytes)) 128 && printable bytes) (text_line t d bytes) (pairs_line t d bytes)

-- The line of a call of one transaction.
unfoldable pub op_line : ℕ → Op → List ℕ
op_line t (seek d v) = letter_and_numbers (code "S") (t ∷ d ∷ v ∷ [])
op_line t (write d bytes) = write_line t d bytes
op_line t (get_file_pointer d) = letter_and_numbers (code "P") (t ∷ d ∷ [])
op_line t (read d n buffer) = letter_and_numbers (code "R") (t ∷ d ∷ n ∷ length buffer ∷ [])

-- The line of a call, without its end. Of the buffer for an answer it has the length.
unfoldable pub line_of : Call → List ℕ
line_of (begin t) = letter_and_numbers (code "B") (t ∷ [])
line_of (on t o) = op_line t o
line_of (commit t minute) = letter_and_numbers (code "C") (t ∷ minute ∷ [])
line_of (abort t) = letter_and_numbers (code "A") (t ∷ [])
line_of (places t f out) = letter_and_numbers (code "L") (t ∷ f ∷ length out ∷ [])
line_of (set_window f start end) = letter_and_numbers (code "H") (f ∷ start ∷ end ∷ [])
line_of undo_commit = letter_and_numbers (code "U") []
line_of (best_order ts minute budget) = letter_and_numbers (code "O") (minute ∷ budget ∷ ts)

unfoldable pub fresh_line : List ℕ → List ℕ
fresh_line files = letter_and_numbers (code "F") files

-- ---- read

-- The next number; the end; a last number, which may be left out.
unfoldable pub next_number : (ℕ → List ℕ → LogEntry) → List ℕ → LogEntry
next_number f [] = another
next_number f (n ∷ ns) = f n ns

unfoldable pub last : LogEntry → List ℕ → LogEntry
last e [] = e
last e (n ∷ ns) = another

unfoldable pub last_or : ℕ → (ℕ → LogEntry) → List ℕ → LogEntry
last_or n f [] = f n
last_or n f (m ∷ ns) = last (f m) ns

-- The room of a Read whose line names none.
abbrev pub trace_room : ℕ
trace_room = file_bytes

-- Each number is an octet.
unfoldable pub octets : List ℕ → Bool
octets [] = true
octets (n ∷ ns) = ltb n 256 && octets ns

-- The entry, if the numbers of a list are octets.
abbrev pub of_octets : List ℕ → LogEntry → LogEntry
of_octets ns e = cond (octets ns) e another

-- A minute, a budget and transactions.
unfoldable pub ordering : List ℕ → LogEntry
ordering ns = next_number (λ minute. next_number
    (λ budget ts. of_octets ts (calls (best_order ts minute budget)))) ns

-- What a line of a letter k and numbers asks. The room is that of a buffer of zeros.
unfoldable pub entry_asked : ℕ → List ℕ → LogEntry
entry_asked k ns =
    cond (eqb k (code "B")) (next_number (λ t. last (calls (begin t))) ns)
    (cond (eqb k (code "C")) (next_number (λ t. last_or 0 (λ minute. calls (commit t minute))) ns)
    (cond (eqb k (code "A")) (next_number (λ t. last (calls (abort t))) ns)
    (cond (eqb k (code "P")) (next_number (λ t. next_number (λ d. last (calls (on t (get_file_pointer d))))) ns)
    (cond (eqb k (code "S")) (next_number
    (λ t. next_number (λ d. next_number (λ v. last (calls (on t (seek d v)))))) ns)
    (cond (eqb k (code "R"))
    (next_number (λ t. next_number (λ d. next_number
    (λ n. last_or trace_room (λ room. calls (on t (read d n (replicate room 0))))))) ns)
    (cond (eqb k (code "L")) (next_number
    (λ t. next_number (λ f. next_number (λ room. last (calls (places t f (replicate room 0)))))) ns)
    (cond (eqb k (code "H")) (next_number
    (λ f. next_number (λ start. next_number (λ end. last (calls (set_window f start end))))) ns)
    (cond (eqb k (code "U")) (last (calls undo_commit) ns)
    (cond (eqb k (code "V")) (next_number (λ v. last (version v)) ns)
    (cond (eqb k (code "F")) (of_octets ns (fresh ns))
    (cond (eqb k (code "O")) (ordering ns)
    another)))))))))))

unfoldable pub if_whole : (List ℕ → LogEntry) → NumberList → LogEntry
if_whole f unread = another
if_whole f (values vs) = f vs

-- The most numbers of a line behind a space.
abbrev pub most_numbers : ℕ
most_numbers = 17

-- How many of Fresh's file numbers and of an order's transactions a recorder puts.
abbrev pub most_files : ℕ
most_files = 17

abbrev pub most_ordered : ℕ
most_ordered = 15

-- Numbers with one space between, up to the line's end.
unfoldable pub numbers_only : List ℕ → NumberList
numbers_only [] = values []
numbers_only (b ∷ bytes) = then_values (front_number more_digits (b ∷ bytes)) (numbers_in most_numbers)

-- What comes of a number and the bytes after it.
unfoldable pub on_number : Numeral → (ℕ → List ℕ → LogEntry) → LogEntry
on_number none f = another
on_number (numeral v bytes) f = f v bytes

-- A Write of bytes as hexadecimal pairs, at most 4,097 of them, behind one space; none may do without the
-- space.
abbrev pub most_written : ℕ
most_written = 4097

unfoldable pub pairs_behind : ℕ → ℕ → List ℕ → LogEntry
pairs_behind t d [] = calls (on t (write d []))
pairs_behind t d (b ∷ bytes) =
    cond (eqb b (code " ")) (if_whole (λ bs. calls (on t (write d bs))) (at_most most_written (pairs_in bytes)))
    another

-- A Write of the bytes behind one space, as they are.
unfoldable pub text_behind : ℕ → ℕ → List ℕ → LogEntry
text_behind t d [] = another
text_behind t d (b ∷ bytes) = cond (eqb b (code " ")) (calls (on t (write d bytes))) another

unfoldable pub write_entry : (ℕ → ℕ → List ℕ → LogEntry) → List ℕ → LogEntry
write_entry f bytes = on_number (front_number more_digits bytes)
    (λ t rest. on_number (spaced_number more_digits rest) (λ d. f t d))

-- `= ` and the answer that the call before had.
unfoldable pub expectation_in : List ℕ → LogEntry
expectation_in [] = another
expectation_in (b ∷ bytes) = cond (eqb b (code " ")) expects another

-- What a line says, by its letter k and the bytes behind it. As text a Write has at most the bytes that F-5
-- leaves it.
unfoldable pub lettered_entry : ℕ → List ℕ → LogEntry
lettered_entry k bytes =
    cond (eqb k (code "#")) comment
    (cond (eqb k (code "=")) (expectation_in bytes)
    (cond (eqb k (code "X")) (write_entry pairs_behind bytes)
    (cond (eqb k (code "W")) (cond (leb (length bytes) 127) (write_entry text_behind bytes) another)
    (if_whole (entry_asked k) (numbers_only bytes)))))

-- The most bytes of a line, without its end: an X with 4,097 bytes and two numbers of 20 digits.
abbrev pub longest : ℕ
longest = 8237

-- The most bytes of a line, with its end.
abbrev pub log_line_bytes : ℕ
log_line_bytes = 8238

unfoldable pub entry_in : List ℕ → LogEntry
entry_in [] = comment
entry_in (k ∷ bytes) = lettered_entry k bytes

-- What a line says. It comes without its end.
unfoldable pub call_in : List ℕ → LogEntry
call_in line = cond (leb (length line) longest) (entry_in line) another
