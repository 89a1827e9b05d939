-- The line that is put for a request says a call that comes to the same.
use mathlib.Core.{Bool.{Bool, true, false}, List.{List, [], ◌∷◌}, Path.{◌≡◌, refl, sym, ap, ◌∙◌}}
use Prim.Native.Nat.{ℕ, zero, suc}
use native.Mathlib.Omega.{arith}
use lib.{Dec.leb, ListN.{length, take, replicate, length-take, length-replicate}, Seq.take_all}
use borrow.Author.Tests.{leb-true, leb-false}
use Rattle.text_numerals.specs.Decimal.{past, AllBelow}
use Rattle.requests.specs.declared.Request.{Request}
use Rattle.requests.specs.declared.Request.TheVariants.{Begin, Seek, Write, GetFilePointer, Read, Places, Commit, Abort}
use Rattle.requests.specs.{declared.Request.TheVariants.{SetWindow, UndoCommit}, Requests.call_of}
use Rattle.spec.specs.{Machine.Machine, Calls.{call, calls_after, Turn}, Messages.{Call, on, write, buffer_of}}
use Rattle.text_log.specs.{LogLines.{call_in, calls, most_written}, Recorded.request_line}
use Rattle.text_log.specs.Statements.{numbers_of, numbers_of_op, bytes_of_call, bytes_of_op, Loggable, blank}
use Rattle.text_log.specs.Replays.{SameTurn, Replays}
use Rattle.text_log.proofs.{RoundTrip.back, Clipping.clipped}
use Rattle.text_log.proofs.Again.{same_turn, admitted-alike, read_alike, places-alike, blanked, blanked-all}
use Rattle.text_log.proofs.Rooms.{roomy, roomless, made-sound}

pub all-taken : (m n : ℕ) (l : List ℕ) → AllBelow m l → AllBelow m (take n l)
unfolding AllBelow
all-taken m zero l h = tt
all-taken m (suc n) [] h = tt
all-taken m (suc n) (x ∷ l) h = (h.0, all-taken m n l h.1)

pub alike_then : {x y z : Turn} → SameTurn x y → SameTurn y z → SameTurn x z
alike_then h k = record { after = h.after ∙ k.after; answer = h.answer ∙ k.answer; shows = h.shows ∙ k.shows }

module _ (bytes reader : List ℕ) where
  abbrev front : List ℕ
  front = take most_written bytes

  abbrev zeros : List ℕ
  zeros = replicate (length reader) 0

  loggable : (q : Request) → AllBelow past (numbers_of (call_of q bytes reader)) → AllBelow 256 bytes
      → Loggable (call_of q front zeros)
  unfolding call_of numbers_of numbers_of_op bytes_of_call bytes_of_op AllBelow
  loggable (Begin t) h b = record { numbers = h; few = omega arith; bytes = tt; short = omega arith }
  loggable (Seek t d v) h b = record { numbers = h; few = omega arith; bytes = tt; short = omega arith }
  loggable (Write t d) h b = record {
    numbers = h;
    few = omega arith;
    bytes = all-taken 256 most_written bytes b;
    short = omega (arith, length-take most_written bytes);
  }
  loggable (GetFilePointer t d) h b = record { numbers = h; few = omega arith; bytes = tt; short = omega arith }
  loggable (Read t d n) h b =
      record { numbers = rw (length-replicate {A = ℕ} (length reader) 0) h; few = omega arith; bytes = tt; short = omega arith }
  loggable (Places t f) h b =
      record { numbers = rw (length-replicate {A = ℕ} (length reader) 0) h; few = omega arith; bytes = tt; short = omega arith }
  loggable (Commit t minute) h b = record { numbers = h; few = omega arith; bytes = tt; short = omega arith }
  loggable (Abort t) h b = record { numbers = h; few = omega arith; bytes = tt; short = omega arith }
  loggable (SetWindow f start end) h b = record { numbers = h; few = omega arith; bytes = tt; short = omega arith }
  loggable UndoCommit h b = record { numbers = h; few = omega arith; bytes = tt; short = omega arith }

  pub fronted : (t d : ℕ) (m : Machine) → call (on t (write d front)) m ≡ call (on t (write d bytes)) m
  fronted t d m = pick (leb (length bytes) most_written) refl
    where
      pick : (b : Bool) → leb (length bytes) most_written ≡ b → call (on t (write d front)) m ≡ call (on t (write d bytes)) m
      pick true e = ap (λ (l : List ℕ). call (on t (write d l)) m)
          (take_all most_written bytes (leb-true (length bytes) most_written e))
      pick false e = sym (clipped t d bytes m (omega (arith, leb-false (length bytes) most_written e)))

  same-request : (q : Request) (m : Machine) → SameTurn (call (call_of q front zeros) m) (call (call_of q bytes reader) m)
  unfolding call_of
  same-request (Begin t) m = same_turn _
  same-request (Seek t d v) m = same_turn _
  same-request (Write t d) m = rw (fronted t d m) (same_turn _)
  same-request (GetFilePointer t d) m = same_turn _
  same-request (Read t d n) m = unfold call buffer_of in
      admitted-alike t zeros reader m _ _ (read_alike t d n zeros reader (length-replicate (length reader) 0) m)
  same-request (Places t f) m =
      unfold call in admitted-alike t zeros reader m _ _ (places-alike t f zeros reader (length-replicate (length reader) 0) m)
  same-request (Commit t minute) m = same_turn _
  same-request (Abort t) m = same_turn _
  same-request (SetWindow f start end) m = same_turn _
  same-request UndoCommit m = same_turn _

pub recorder-lines : (q : Request) (bytes reader : List ℕ) → AllBelow past (numbers_of (call_of q bytes reader))
    → AllBelow 256 bytes → (c : Call) × (call_in (request_line q bytes (length reader)) ≡ calls c) × ((m : Machine)
    → SameTurn (call c m) (call (call_of q bytes reader) m))
unfolding request_line
recorder-lines q bytes reader h b = let c = call_of q (take most_written bytes) (replicate (length reader) 0) in
    (blank c, back c (loggable bytes reader q h b), λ m. alike_then (blanked c m) (same-request bytes reader q m))

pub replays : Replays
replays = record {
  blanked = blanked;
  blanked_all = blanked-all;
  recorded = recorder-lines;
  roomy = λ numbers m made cs t d n buffer other l e. roomy (calls_after cs m) t (made-sound numbers m made cs) d n buffer
      other l e;
  roomless = λ numbers m made cs t d n buffer other l e. roomless (calls_after cs m) t (made-sound numbers m made cs) d n
      buffer other l e;
}
