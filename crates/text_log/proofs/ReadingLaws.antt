-- Laws of what a line of numbers asks, by how many they are.
use mathlib.Core.{Bool.{Bool, true, false, cond, ◌&&◌}, List.{List, [], ◌∷◌}, Path.{◌≡◌, refl, sym, ap, ◌∙◌}}
use Prim.Native.Nat.{ℕ, ◌+◌, ◌≤◌, ◌<◌}
use native.Mathlib.{Omega.arith, Numerals.add-one}
use lib.{Dec.{leb, ltb}, ListN.{length, take, drop, get_or, drop_of_length-le}, Seq.{drop-cons, take_at}}
use borrow.Author.Tests.{ne_eqb, eq-eqb, le-leb, lt-leb, lt-ltb, le-ltb}
use Rattle.buffers.specs.Parts.{pasted}
use Rattle.text_numerals.specs.Decimal.{Numeral, NumberList, unread, values, before, at_most, front_number, more_digits, numbers_in}
use Rattle.text_numerals.specs.{Decimal.then_values, Pairs.pairs_in, Fields.{numeral_of, values_of, number_count}}
use Rattle.text_numerals.specs.declared.Number.{Number}
use Rattle.std.specs.declared.option.Option.{Option, TheVariants.{None, Some}}
use Rattle.spec.specs.Messages.{on, write, best_order, begin, commit, abort, places, set_window, undo_commit, seek, get_file_pointer, read}
use Rattle.std.proofs.Common.{replicate}
use Rattle.text_log.specs.LogLines.{LogEntry, another, version, trace_room, comment, expects, calls, next_number, last, last_or, entry_asked}
use Rattle.text_log.specs.LogLines.{ordering, if_whole, on_number, octets, of_octets, numbers_only, expectation_in, pairs_behind}
use Rattle.text_log.specs.LogLines.{text_behind, write_entry, lettered_entry, entry_in, call_in, most_written, most_numbers}
use Rattle.text_log.specs.{LogLines.longest, Octets.octets_in, Reading.{log_entry_of, written_by, Says}}
use Rattle.text_log.specs.declared.parsing.{ParsedEntry.{ParsedEntry, TheVariants.Another}}

pub other-entry : (bytes : List ℕ) (meant : LogEntry) → meant ≡ another → Says Another bytes meant
other-entry bytes meant e = unfold log_entry_of written_by in record { means = sym e; bytes = omega arith }

-- The numbers of a list of so many.
pub one-of : (l : List ℕ) → length l ≡ 1 → l ≡ get_or l 0 0 ∷ []
one-of [] h = absurd (omega arith)
one-of (a ∷ []) h = refl
one-of (a ∷ b ∷ l) h = absurd (omega arith)

pub two_of : (l : List ℕ) → length l ≡ 2 → l ≡ get_or l 0 0 ∷ get_or l 1 0 ∷ []
two_of [] h = absurd (omega arith)
two_of (a ∷ []) h = absurd (omega arith)
two_of (a ∷ b ∷ []) h = refl
two_of (a ∷ b ∷ c ∷ l) h = absurd (omega arith)

pub three-of : (l : List ℕ) → length l ≡ 3 → l ≡ get_or l 0 0 ∷ get_or l 1 0 ∷ get_or l 2 0 ∷ []
three-of [] h = absurd (omega arith)
three-of (a ∷ l) h = let e = two_of l (omega arith) in ap (λ (m : List ℕ). a ∷ m) e

pub four-of : (l : List ℕ) → length l ≡ 4 → l ≡ get_or l 0 0 ∷ get_or l 1 0 ∷ get_or l 2 0 ∷ get_or l 3 0 ∷ []
four-of [] h = absurd (omega arith)
four-of (a ∷ l) h = let e = three-of l (omega arith) in ap (λ (m : List ℕ). a ∷ m) e

pub none-of : (l : List ℕ) → length l < 1 → l ≡ []
none-of [] h = refl
none-of (a ∷ l) h = absurd (omega arith)

-- Lists of another length.
not_none : (e : LogEntry) (l : List ℕ) → (length l ≡ 0 → ⊥) → last e l ≡ another
unfolding last
not_none e [] g = absurd (g refl)
not_none e (a ∷ l) g = refl

not-one : (f : ℕ → LogEntry) (l : List ℕ) → (length l ≡ 1 → ⊥) → next_number (λ a. last (f a)) l ≡ another
unfolding next_number last
not-one f [] h = refl
not-one f (a ∷ []) h = absurd (h refl)
not-one f (a ∷ b ∷ l) h = refl

not-two : (f : ℕ → ℕ → LogEntry) (l : List ℕ) → (length l ≡ 2 → ⊥) → next_number (λ a. next_number (λ b. last (f a b))) l ≡ another
unfolding next_number
not-two f [] h = refl
not-two f (a ∷ l) h = not-one (f a) l (λ e. h (omega arith))

not_three : (f : ℕ → ℕ → ℕ → LogEntry) (l : List ℕ) → (length l ≡ 3 → ⊥)
    → next_number (λ a. next_number (λ b. next_number (λ c. last (f a b c)))) l ≡ another
unfolding next_number
not_three f [] h = refl
not_three f (a ∷ l) h = not-two (f a) l (λ e. h (omega arith))

not_last : (n : ℕ) (f : ℕ → LogEntry) (l : List ℕ) → (length l ≡ 0 → ⊥) → (length l ≡ 1 → ⊥) → last_or n f l ≡ another
unfolding last_or last
not_last n f [] g h = absurd (g refl)
not_last n f (a ∷ []) g h = absurd (h refl)
not_last n f (a ∷ b ∷ l) g h = refl

not-one-two : (n : ℕ) (f : ℕ → ℕ → LogEntry) (l : List ℕ) → (length l ≡ 1 → ⊥) → (length l ≡ 2 → ⊥)
    → next_number (λ a. last_or n (f a)) l ≡ another
unfolding next_number
not-one-two n f [] g h = refl
not-one-two n f (a ∷ l) g h = not_last n (f a) l (λ e. g (omega arith)) (λ e. h (omega arith))

not-three-four : (n : ℕ) (f : ℕ → ℕ → ℕ → ℕ → LogEntry) (l : List ℕ) → (length l ≡ 3 → ⊥) → (length l ≡ 4 → ⊥)
    → next_number (λ a. next_number (λ b. next_number (λ c. last_or n (f a b c)))) l ≡ another
unfolding next_number
not-three-four n f [] g h = refl
not-three-four n f (a ∷ []) g h = refl
not-three-four n f (a ∷ b ∷ l) g h = not-one-two n (f a b) l (λ e. g (omega arith)) (λ e. h (omega arith))

-- A letter that asks for another count of numbers.
module _ (ns bytes : List ℕ) where
  pub not-begin : (length ns ≡ 1 → ⊥) → Says Another bytes (entry_asked 66 ns)
  not-begin g = unfold entry_asked in other-entry bytes _ (not-one (λ t. calls (begin t)) ns g)

  pub not-commit : (length ns ≡ 1 → ⊥) → (length ns ≡ 2 → ⊥) → Says Another bytes (entry_asked 67 ns)
  not-commit g h = unfold entry_asked in other-entry bytes _ (not-one-two 0 (λ t minute. calls (commit t minute)) ns g h)

  pub not-abort : (length ns ≡ 1 → ⊥) → Says Another bytes (entry_asked 65 ns)
  not-abort g = unfold entry_asked in other-entry bytes _ (not-one (λ t. calls (abort t)) ns g)

  pub not-pointer : (length ns ≡ 2 → ⊥) → Says Another bytes (entry_asked 80 ns)
  not-pointer g = unfold entry_asked in other-entry bytes _ (not-two (λ t d. calls (on t (get_file_pointer d))) ns g)

  pub not-seek : (length ns ≡ 3 → ⊥) → Says Another bytes (entry_asked 83 ns)
  not-seek g = unfold entry_asked in other-entry bytes _ (not_three (λ t d v. calls (on t (seek d v))) ns g)

  pub not-read : (length ns ≡ 3 → ⊥) → (length ns ≡ 4 → ⊥) → Says Another bytes (entry_asked 82 ns)
  not-read g h = unfold entry_asked in other-entry bytes _
      (not-three-four trace_room (λ t d n room. calls (on t (read d n (replicate room 0)))) ns g h)

  pub not-places : (length ns ≡ 3 → ⊥) → Says Another bytes (entry_asked 76 ns)
  not-places g = unfold entry_asked in other-entry bytes _ (not_three (λ t f room. calls (places t f (replicate room 0))) ns g)

  pub not-window : (length ns ≡ 3 → ⊥) → Says Another bytes (entry_asked 72 ns)
  not-window g = unfold entry_asked in other-entry bytes _ (not_three (λ f start end. calls (set_window f start end)) ns g)

  pub not-undo : (length ns ≡ 0 → ⊥) → Says Another bytes (entry_asked 85 ns)
  not-undo g = unfold entry_asked in other-entry bytes _ (not_none (calls undo_commit) ns g)

  pub not-version : (length ns ≡ 1 → ⊥) → Says Another bytes (entry_asked 86 ns)
  not-version g = unfold entry_asked in other-entry bytes _ (not-one (λ v. version v) ns g)

-- A letter of no line of numbers.
pub asked-other : (k : ℕ) (l : List ℕ) → (k ≡ 66 → ⊥) → (k ≡ 67 → ⊥) → (k ≡ 65 → ⊥) → (k ≡ 80 → ⊥) → (k ≡ 83 → ⊥) → (k ≡ 82 → ⊥)
    → (k ≡ 76 → ⊥) → (k ≡ 72 → ⊥) → (k ≡ 85 → ⊥) → (k ≡ 86 → ⊥) → (k ≡ 70 → ⊥) → (k ≡ 79 → ⊥) → entry_asked k l ≡ another
asked-other k l b c a p s r o h u v f i = unfold entry_asked in rw (
  ne_eqb k 66 b,
  ne_eqb k 67 c,
  ne_eqb k 65 a,
  ne_eqb k 80 p,
  ne_eqb k 83 s,
  ne_eqb k 82 r,
  ne_eqb k 76 o,
  ne_eqb k 72 h,
  ne_eqb k 85 u,
  ne_eqb k 86 v,
  ne_eqb k 70 f,
  ne_eqb k 79 i,
)

-- ---- answers of the readers of numbers and pairs

pub entry-as-meant : (r : ParsedEntry) (bytes : List ℕ) (meant said : LogEntry) → meant ≡ said → Says r bytes said
    → Says r bytes meant
entry-as-meant r bytes meant said e h = rw e h

module _ (c : Option ℕ) (buffer : List ℕ) (v : NumberList) (f : List ℕ → LogEntry) (h : values_of c buffer ≡ v) where
  pub counted-unread : c ≡ None → if_whole f v ≡ another
  counted-unread e = unfold values_of if_whole in rw (← h, e)

  pub counted-many : (n : ℕ) → c ≡ Some n → if_whole f v ≡ f (take n buffer)
  counted-many n e = unfold values_of if_whole in rw (← h, e)

pub whole-none : (f : List ℕ → LogEntry) (v : NumberList) → v ≡ values [] → if_whole f v ≡ f []
whole-none f v e = unfold if_whole in rw e

pub whole-as : (f : List ℕ → LogEntry) (v w : NumberList) → v ≡ w → if_whole f v ≡ if_whole f w
whole-as f v w e = ap (if_whole f) e

pub many-within : (c : Option ℕ) (n k : ℕ) → number_count c ≤ k → c ≡ Some n → n ≤ k
many-within c n k h e = unfold number_count in rw e at h

module _ (line : List ℕ) (f : Option Number) (g : Numeral) (made : ℕ → List ℕ → LogEntry) (h : numeral_of line f ≡ g) where
  pub on-missing : f ≡ None → on_number g made ≡ another
  on-missing e = unfold numeral_of on_number in rw (← h, e)

  pub on-number : (n : Number) → f ≡ Some n → on_number g made ≡ made n.value (drop n.end line)
  on-number n e = unfold numeral_of on_number in rw (← h, e)

-- ---- lists

pub short-order : (l : List ℕ) → length l < 2 → ordering l ≡ another
unfolding ordering next_number
short-order [] h = refl
short-order (a ∷ []) h = refl
short-order (a ∷ b ∷ l) h = absurd (omega arith)

pub order-of : (l : List ℕ) → 2 ≤ length l → ordering l ≡ of_octets (drop 2 l)
    (calls (best_order (drop 2 l) (get_or l 0 0) (get_or l 1 0)))
unfolding ordering next_number
order-of [] h = absurd (omega arith)
order-of (a ∷ []) h = absurd (omega arith)
order-of (a ∷ b ∷ l) h = refl

-- ---- octets

before-if : (n : ℕ) (ns : List ℕ) (b : Bool) → before n (cond b (values ns) unread) ≡ cond b (values (n ∷ ns)) unread
unfolding before
before-if n ns true = refl
before-if n ns false = refl

octets-read : (l : List ℕ) → octets_in l ≡ cond (octets l) (values l) unread
unfolding octets_in octets
octets-read [] = refl
octets-read (n ∷ ns) = pick (ltb n 256) (octets-read ns)
  where
    pick : (b : Bool) → octets_in ns ≡ cond (octets ns) (values ns) unread
        → cond b (before n (octets_in ns)) unread ≡ cond (b && octets ns) (values (n ∷ ns)) unread
    pick true e = ap (before n) e ∙ before-if n ns (octets ns)
    pick false e = refl

unlike : (ns : List ℕ) → unread ≡ values ns → ⊥
unlike ns e = let z : ◌≡◌ {A = ℕ} 0 1 = cc in omega arith

module _ (l : List ℕ) (c : Option ℕ) (buffer : List ℕ) (h : values_of c buffer ≡ octets_in l) where
  pub no-octets : c ≡ None → (e : LogEntry) → of_octets l e ≡ another
  unfolding values_of
  no-octets u e = pick (octets l) (ap (λ (x : Option ℕ). values_of x buffer) (sym u) ∙ h ∙ octets-read l)
    where
      pick : (b : Bool) → unread ≡ cond b (values l) unread → cond b e another ≡ another
      pick true q = absurd (unlike l q)
      pick false q = refl

  pub all-octets : (k : ℕ) → c ≡ Some k → (f : List ℕ → LogEntry) → f (take k buffer) ≡ of_octets l (f l)
  unfolding values_of
  all-octets k m f = pick (octets l) (ap (λ (x : Option ℕ). values_of x buffer) (sym m) ∙ h ∙ octets-read l)
    where
      pick : (b : Bool) → values (take k buffer) ≡ cond b (values l) unread → f (take k buffer) ≡ cond b (f l) another
      pick true q = let e : take k buffer ≡ l = cc in ap f e
      pick false q = absurd (unlike (take k buffer) (sym q))

pub octets-end : (l : List ℕ) (i : ℕ) → length l ≤ i → octets_in (drop i l) ≡ values []
octets-end l i h = unfold octets_in in ap octets_in (drop_of_length-le l h)

pub octets-over : (l : List ℕ) (i : ℕ) → i < length l → 255 < get_or l i 0 → octets_in (drop i l) ≡ unread
octets-over l i h v = unfold octets_in in rw (drop-cons l i 0 h, le-ltb (get_or l i 0) 256 (omega arith))

pub octets-more : (l : List ℕ) (i : ℕ) → i < length l → get_or l i 0 ≤ 255
    → octets_in (drop i l) ≡ before (get_or l i 0) (octets_in (drop (i + 1) l))
octets-more l i h v = unfold octets_in in rw (drop-cons l i 0 h, lt-ltb (get_or l i 0) 256 (omega arith), add-one i)

-- ---- bytes behind two numbers

module _ (t d : ℕ) (line : List ℕ) (at : ℕ) where
  pub pairs-none : length line ≤ at → pairs_behind t d (drop at line) ≡ calls (on t (write d []))
  pairs-none h = unfold pairs_behind in rw (drop_of_length-le line h)

  pub pairs-no-space : at < length line → (get_or line at 0 ≡ 32 → ⊥) → pairs_behind t d (drop at line) ≡ another
  pairs-no-space h e = unfold pairs_behind in rw (drop-cons line at 0 h, ne_eqb (get_or line at 0) 32 e)

  pub pairs-space : at < length line → get_or line at 0 ≡ 32 → pairs_behind t d (drop at line) ≡ if_whole
      (λ bs. calls (on t (write d bs))) (at_most most_written (pairs_in (drop (at + 1) line)))
  pairs-space h e = unfold pairs_behind in rw (drop-cons line at 0 h, eq-eqb (get_or line at 0) 32 e, add-one at)

  pub text-none : length line ≤ at → text_behind t d (drop at line) ≡ another
  text-none h = unfold text_behind in rw (drop_of_length-le line h)

  pub text-no-space : at < length line → (get_or line at 0 ≡ 32 → ⊥) → text_behind t d (drop at line) ≡ another
  text-no-space h e = unfold text_behind in rw (drop-cons line at 0 h, ne_eqb (get_or line at 0) 32 e)

  pub text-space : at < length line → get_or line at 0 ≡ 32 → text_behind t d (drop at line)
      ≡ calls (on t (write d (drop (at + 1) line)))
  text-space h e = unfold text_behind in rw (drop-cons line at 0 h, eq-eqb (get_or line at 0) 32 e, add-one at)

-- A text at the front of a buffer.
pub front-pasted : (buffer text : List ℕ) (n : ℕ) → length text ≡ n → take n (pasted buffer 0 text) ≡ text
front-pasted buffer text n h = unfold pasted in take_at text (drop (0 + length text) buffer) n h

pub copied : (x buffer text : List ℕ) (n : ℕ) → x ≡ pasted buffer 0 text → length text ≡ n → take n x ≡ text
copied x buffer text n e h = ap (take n) e ∙ front-pasted buffer text n h

-- ---- the numbers of a line

pub only_none : (line : List ℕ) → length line < 2 → numbers_only (drop 1 line) ≡ values []
unfolding numbers_only
only_none [] h = refl
only_none (k ∷ []) h = refl
only_none (k ∷ b ∷ bytes) h = absurd (omega arith)

pub only-some : (line : List ℕ) → 2 ≤ length line
    → numbers_only (drop 1 line) ≡ then_values (front_number more_digits (drop 1 line)) (numbers_in most_numbers)
unfolding numbers_only
only-some [] h = absurd (omega arith)
only-some (k ∷ []) h = absurd (omega arith)
only-some (k ∷ b ∷ bytes) h = refl

-- ---- the letter of a line

pub call_none : (line : List ℕ) → length line ≡ 0 → entry_in line ≡ comment
unfolding entry_in
call_none [] h = refl
call_none (k ∷ bytes) h = absurd (omega arith)

call-letter : (line : List ℕ) → (length line ≡ 0 → ⊥) → entry_in line ≡ lettered_entry (get_or line 0 0) (drop 1 line)
unfolding entry_in
call-letter [] h = absurd (h refl)
call-letter (k ∷ bytes) h = refl

module _ (line : List ℕ) (some : length line ≡ 0 → ⊥) where
  pub call-comment : get_or line 0 0 ≡ 35 → entry_in line ≡ comment
  call-comment e = unfold lettered_entry in call-letter line some ∙ rw e

  pub call-expects : get_or line 0 0 ≡ 61 → entry_in line ≡ expectation_in (drop 1 line)
  call-expects e = unfold lettered_entry in call-letter line some ∙ rw e

  pub call-pairs : get_or line 0 0 ≡ 88 → entry_in line ≡ write_entry pairs_behind (drop 1 line)
  call-pairs e = unfold lettered_entry in call-letter line some ∙ rw e

  pub call-text : get_or line 0 0 ≡ 87
      → entry_in line ≡ cond (leb (length (drop 1 line)) 127) (write_entry text_behind (drop 1 line)) another
  call-text e = unfold lettered_entry in call-letter line some ∙ rw e

  pub call-asked : (get_or line 0 0 ≡ 35 → ⊥) → (get_or line 0 0 ≡ 61 → ⊥) → (get_or line 0 0 ≡ 88 → ⊥) → (get_or line 0 0 ≡ 87 → ⊥)
      → entry_in line ≡ if_whole (entry_asked (get_or line 0 0)) (numbers_only (drop 1 line))
  call-asked c x p w = unfold lettered_entry in let k = get_or line 0 0 in
      call-letter line some ∙ rw (ne_eqb k 35 c, ne_eqb k 61 x, ne_eqb k 88 p, ne_eqb k 87 w)

-- ---- an answer's line

pub expects-none : (line : List ℕ) → length line < 2 → expectation_in (drop 1 line) ≡ another
unfolding expectation_in
expects-none [] h = refl
expects-none (k ∷ []) h = refl
expects-none (k ∷ b ∷ bytes) h = absurd (omega arith)

pub expects-other : (line : List ℕ) → 2 ≤ length line → (get_or line 1 0 ≡ 32 → ⊥) → expectation_in (drop 1 line) ≡ another
unfolding expectation_in
expects-other [] h e = refl
expects-other (k ∷ []) h e = refl
expects-other (k ∷ b ∷ bytes) h e = rw (ne_eqb b 32 e)

pub expects-text : (line : List ℕ) → 2 ≤ length line → get_or line 1 0 ≡ 32 → expectation_in (drop 1 line) ≡ expects
unfolding expectation_in
expects-text [] h e = absurd (omega arith)
expects-text (k ∷ []) h e = absurd (omega arith)
expects-text (k ∷ b ∷ bytes) h e = rw (eq-eqb b 32 e)

-- ---- the length of a line

pub too_long : (line : List ℕ) → longest < length line → call_in line ≡ another
too_long line h = unfold call_in in rw (lt-leb (length line) longest h)

pub entry-within : (line : List ℕ) → length line ≤ longest → call_in line ≡ entry_in line
entry-within line h = unfold call_in in rw (le-leb (length line) longest h)
