-- The reader's buffer of the program serves for every call. Assumes nothing.
use Rattle.std.specs.declared.result.Result.TheVariants.{Ok, Err}
use mathlib.Core.{Bool.{Bool, true, false, cond}, List.{List, [], ◌++◌}, Path.{◌≡◌, refl, sym, ap, ap₂, ◌∙◌, subst}}
use mathlib.Core.Logic.{◌⊎◌, inl, inr}
use lib.{Dec.leb, ListN.{length, take, drop, replicate, length-replicate}, Seq.{take-append_seam, take-append-le}}
use borrow.Author.Tests.{leb-true, leb-false, le-leb, lt-leb}
use native.Mathlib.Omega.{arith}
use Prim.Native.Nat.{ℕ, zero, suc, ◌+◌, ◌*◌, ◌≤◌, ◌<◌, min}
use Rattle.limits.specs.Limits.{file_bytes}
use Rattle.state.specs.{Outcomes.{Said, refused, said}, Outcomes.Outcome}
use Rattle.state.specs.declared.outcomes.Answer.TheVariants.{Done, Offset, Given, Granted, Pairs, Ordered}
use Rattle.state.proofs.LayoutLaws.{length-journal}
use Rattle.buffers.specs.Parts.{pasted}
use Rattle.text_numerals.proofs.PutLaws.{take_within}
use Rattle.call_order.specs.Answer.{order_part}
use Rattle.text_log.specs.{Reading.log_entry_of, declared.parsing.ParsedEntry.ParsedEntry}
use Rattle.text_log.specs.declared.parsing.ParsedEntry.TheVariants.{Another, Comment, Expects, Version, Fresh, Asks, Order}
use Rattle.text_log.specs.{Answers.answer_text, Replays.{SameTurn, shown}}
use Rattle.text_log.proofs.{Again.{same_turn, admitted-alike, read_alike, reply-alike}, Replayed.same_text}
use Rattle.text_log.proofs.Rooms.{admitted-open, roomy, roomless}
use Rattle.refinement.proofs.Shapes.{shaped}
use Rattle.admission.{specs.Admission.admission, proofs.Laws.{shared-zero, in-range}}
use Rattle.requests.specs.declared.Request.{Request}
use Rattle.requests.specs.declared.Request.TheVariants.{Begin, Seek, Write, GetFilePointer, Read, Places, Commit, Abort}
use Rattle.requests.specs.{declared.Request.TheVariants.{SetWindow, UndoCommit}, Requests.call_of, Performing.Performs}
use Rattle.spec.specs.Machine.{Machine, sizes, txn_of, file_of}
use Rattle.spec.specs.Messages.{on, read, places, best_order, says, buffer_of, buffer_of_call}
use Rattle.spec.specs.Places.{covered, intervals_of, places_refusal, places_of}
use Rattle.spec.specs.Calls.{Turn, call, refuse_turn, passing, admitted, places_turn, fresh as fresh_turn}
use Rattle.spec.{specs.Promises.{machine_of, Meets}, proofs.Refinement.{Relation.Sound, Decode.decoded-in}}
use Rattle.text_replay.specs.Performing.{clipped_to, answer_size, order_size, turn_of, Replies}
use Rattle.text_replay.proofs.Listing.{few-intervals}

leb-within : (n k : ℕ) → n ≤ 4097 → leb n (min k 4097) ≡ leb n k
leb-within n k h = pick (leb n k) refl
  where
    pick : (b : Bool) → leb n k ≡ b → leb n (min k 4097) ≡ leb n k
    pick true e = le-leb n (min k 4097) (omega (arith, leb-true n k e)) ∙ sym e
    pick false e = lt-leb n (min k 4097) (omega (arith, leb-false n k e)) ∙ sym e

module _ (state files logs marks undo : List ℕ) where
  abbrev m : Machine
  m = machine_of state files logs marks undo

  sound-here : (t : ℕ) → admission (sizes m) m.store m.journal t ≡ 0 → Sound m
  sound-here t e = unfold admission in let a = (shared-zero (sizes m) m.store m.journal t _ e).0 in record {
    shaped = shaped state;
    journal = length-journal state;
    files = a.lengths.files;
    logs = a.lengths.logs;
    marks = a.lengths.marks;
    undo = a.lengths.undo;
    in_range = a.ranges;
  }

  -- A store that is not sound refuses whatever the buffer is.
  if-sound : (t : ℕ) (b c : List ℕ) (x y : Turn) → (Sound m → SameTurn (admitted t b m x) (admitted t c m y))
      → SameTurn (admitted t b m x) (admitted t c m y)
  if-sound t b c x y h = pick (admission (sizes m) m.store m.journal t) refl
    where
      refused-alike : (n : ℕ) → admission (sizes m) m.store m.journal t ≡ suc n
          → SameTurn (admitted t b m x) (admitted t c m y)
      refused-alike n e = unfold admitted passing refuse_turn shown in rw e
          (record { after = refl; answer = refl; shows = refl })

      pick : (n : ℕ) → admission (sizes m) m.store m.journal t ≡ n → SameTurn (admitted t b m x) (admitted t c m y)
      pick zero e = h (sound-here t e)
      pick (suc n) e = refused-alike n e

  places-room : (t f : ℕ) (b c : List ℕ) → length b ≡ min (length c) 4097
      → SameTurn (call (places t f b) m) (call (places t f c) m)
  places-room t f b c l = unfold call places_turn places_of places_refusal in
      if-sound t b c _ _ (λ sound. admitted-open m t sound b c _ _ (λ small begun. let r = in-range m.store m.journal
      sound.in_range in let x = txn_of m.store m.journal m.logs t in let ranges = decoded-in m.store
      m.journal m.logs t sound.logs small (r.transactions t small begun) (sound.shaped.descriptors t small) in
      let few = few-intervals (file_of m.store) f x.writes in let n = 4 * length (intervals_of (covered
      (file_of m.store) f x.writes)) in let e : leb n (length b) ≡ leb n (length c) = ap (leb n) l ∙ leb-within n
      (length c) (omega (arith, few, ranges.records)) in rw e (reply-alike (file_of m.store) f b c x m _)))

  read-room : (t d n room : ℕ) (c : List ℕ) → length c ≡ min room 4097
      → SameTurn (call (on t (read d (cond (leb n room) (min n 4097) n) c)) m) (call (on t (read d n (replicate room 0))) m)
  unfolding call buffer_of
  read-room t d n room c l = pick (leb n room) (leb room file_bytes) refl refl
    where
      zeros : length {A = ℕ} (replicate room 0) ≡ room
      zeros = length-replicate room 0

      pick : (p q : Bool) → leb n room ≡ p → leb room file_bytes ≡ q
          → SameTurn (call (on t (read d (cond p (min n 4097) n) c)) m) (call (on t (read d n (replicate room 0))) m)
      pick true true e g = let fits = leb-true n room e in let short = leb-true room file_bytes g in
          let same : min n 4097 ≡ n = omega arith in
          rw same
          (admitted-alike t c (replicate room 0) m _ _ (read_alike t d n c (replicate room 0) (omega (arith, l, zeros)) m))
      pick true false e g = let fits = leb-true n room e in let long = leb-false room file_bytes g in
          if-sound t c (replicate room 0) _ _
          (λ sound. roomy m t sound d n (replicate room 0) c (omega (arith, zeros)) (omega (arith, l)))
      pick false q e g = let more = leb-false n room e in
          if-sound t c (replicate room 0) _ _
          (λ sound. roomless m t sound d n (replicate room 0) c (omega (arith, zeros)) (omega (arith, l, zeros)))

  request-alike : (q : Request) (bytes c : List ℕ) (room : ℕ) → length c ≡ min room 4097
      → SameTurn (call (call_of (clipped_to room q) bytes c) m) (call (call_of q bytes (replicate room 0)) m)
  unfolding call_of clipped_to
  request-alike (Begin t) bytes c room l = same_turn _
  request-alike (Seek t d v) bytes c room l = same_turn _
  request-alike (Write t d) bytes c room l = same_turn _
  request-alike (GetFilePointer t d) bytes c room l = same_turn _
  request-alike (Read t d n) bytes c room l = read-room t d n room c l
  request-alike (Places t f) bytes c room l = places-room t f c (replicate room 0) (l
      ∙ ap (λ (k : ℕ). min k 4097) (sym (length-replicate room 0)))
  request-alike (Commit t minute) bytes c room l = same_turn _
  request-alike (Abort t) bytes c room l = same_turn _
  request-alike (SetWindow f start end) bytes c room l = same_turn _
  request-alike UndoCommit bytes c room l = same_turn _

-- What is answered in the reader's buffer.
answer-part : (q : Request) (bytes c rest : List ℕ) (room n : ℕ) → length c ≡ n
    → take (answer_size q n) (c ++ rest) ≡ buffer_of_call (call_of (clipped_to room q) bytes c)
unfolding answer_size clipped_to call_of buffer_of_call buffer_of
answer-part (Begin t) bytes c rest room n l = refl
answer-part (Seek t d v) bytes c rest room n l = refl
answer-part (Write t d) bytes c rest room n l = refl
answer-part (GetFilePointer t d) bytes c rest room n l = refl
answer-part (Read t d k) bytes c rest room n l = ap (λ (i : ℕ). take i (c ++ rest)) (sym l) ∙ take-append_seam c rest
answer-part (Places t f) bytes c rest room n l = ap (λ (i : ℕ). take i (c ++ rest)) (sym l) ∙ take-append_seam c rest
answer-part (Commit t minute) bytes c rest room n l = refl
answer-part (Abort t) bytes c rest room n l = refl
answer-part (SetWindow f start end) bytes c rest room n l = refl
answer-part UndoCommit bytes c rest room n l = refl

pub meets-replies : (w v : Turn) (o : Outcome) (m : Machine) (buffer : List ℕ) → SameTurn w v
    → Meets w o m buffer → Replies v o m buffer
meets-replies w v o m buffer a h = record {
  answer = h.outcome ∙ a.answer;
  text = ap₂ answer_text h.outcome h.reader ∙ same_text w v a;
  machine = h.machine ∙ a.after;
}

pub request-replies : (state files logs marks undo : List ℕ) (q q' : Request) (bytes c c' rest : List ℕ) (room n size : ℕ)
    (o : Outcome) (m' : Machine) → q' ≡ clipped_to room q → size ≡ answer_size q n → n ≡ min room 4097 → length c ≡ n
    → length c' ≡ n → Performs q' bytes c (machine_of state files logs marks undo) o m' c' → Replies
    (call (call_of q bytes (replicate room 0)) (machine_of state files logs marks undo)) o m' (take size (c' ++ rest))
request-replies state files logs marks undo q q' bytes c c' rest room n size o m' same by is l l' h =
    let g : Performs (clipped_to room q) bytes c (machine_of state files logs marks undo) o m' c' =
    subst (λ (x : Request). Performs x bytes c (machine_of state files logs marks undo) o m' c') same h in
    rw (by, answer-part q bytes c' rest room n l')
    (meets-replies _ _ o m' _ (request-alike state files logs marks undo q bytes c room (l ∙ is)) g.meets)

pub size-within : (q : Request) (size n : ℕ) → size ≡ answer_size q n → n ≤ 4097 → size ≤ 4097
unfolding answer_size
size-within (Begin t) size n e h = omega (arith, e)
size-within (Seek t d v) size n e h = omega (arith, e)
size-within (Write t d) size n e h = omega (arith, e)
size-within (GetFilePointer t d) size n e h = omega (arith, e)
size-within (Read t d k) size n e h = omega (arith, e, h)
size-within (Places t f) size n e h = omega (arith, e, h)
size-within (Commit t minute) size n e h = omega (arith, e)
size-within (Abort t) size n e h = omega (arith, e)
size-within (SetWindow f start end) size n e h = omega (arith, e)
size-within UndoCommit size n e h = omega (arith, e)

-- ---- an order

order-part : (o : Outcome) (n : ℕ) (order rest : List ℕ) → length order ≡ 8
    → take (order_size o n) (order ++ rest) ≡ order_part o n order
unfolding order_size order_part
order-part (Ok Done) n order rest l = refl
order-part (Ok (Offset k)) n order rest l = refl
order-part (Ok (Given k)) n order rest l = refl
order-part (Ok (Granted k)) n order rest l = refl
order-part (Ok (Pairs k)) n order rest l = refl
order-part (Ok (Ordered grants gap tried)) n order rest l = take-append-le (min n 8) order rest (omega arith)
    ∙ ap (λ (k : ℕ). take (min n k) order) (sym l) ∙ take_within n order
order-part (Err r) n order rest l = refl

order-within : (o : Outcome) (n : ℕ) → order_size o n ≤ 8
unfolding order_size
order-within (Ok Done) n = omega arith
order-within (Ok (Offset k)) n = omega arith
order-within (Ok (Given k)) n = omega arith
order-within (Ok (Granted k)) n = omega arith
order-within (Ok (Pairs k)) n = omega arith
order-within (Ok (Ordered grants gap tried)) n = omega arith
order-within (Err r) n = omega arith

pub order-replies : (w : Turn) (o : Outcome) (m : Machine) (n size : ℕ) (order reader reader' : List ℕ) → length order ≡ 8
    → reader' ≡ pasted reader 0 order → size ≡ order_size o n → Meets w o m (order_part o n order)
    → (size ≤ 4097) × Replies w o m (take size reader')
unfolding pasted
order-replies w o m n size order reader reader' l is by h = let part : take size reader' ≡ order_part o n order =
    ap₂ (λ (k : ℕ) (x : List ℕ). take k x) by is ∙ order-part o n order (drop (0 + length order) reader) l in
    (omega (arith, by, order-within o n), rw part (meets-replies w w o m _ (same_turn w) h))

-- ---- what a line says

-- no call
pub none-replies : (o : Outcome) (m : Machine) (reader : List ℕ) → said o ≡ refused 17
    → Replies (record { reply = says (refused 17); after = m }) o m (take 0 reader)
none-replies o m reader says17 =
    record { answer = says17; text = ap (λ (a : Said). answer_text a []) says17; machine = refl }

pub none-entry : (l : ParsedEntry) (bytes : List ℕ) (m : Machine)
    → (l ≡ Another) ⊎ ((l ≡ Comment) ⊎ ((l ≡ Expects) ⊎ ((v : ℕ) × (l ≡ Version v))))
    → turn_of (log_entry_of l bytes) m ≡ record { reply = says (refused 17); after = m }
unfolding turn_of log_entry_of
none-entry l bytes m (inl e) = rw e refl
none-entry l bytes m (inr (inl e)) = rw e refl
none-entry l bytes m (inr (inr (inl e))) = rw e refl
none-entry l bytes m (inr (inr (inr (v, e)))) = rw e refl

-- the bytes that it names
pub front-is : (bytes : List ℕ) (n k : ℕ) → k ≡ min n (length bytes) → take k bytes ≡ take n bytes
front-is bytes n k e = ap (λ (i : ℕ). take i bytes) e ∙ take_within n bytes

-- a call
module _ (line : ParsedEntry) (bytes reader : List ℕ) (m m' : Machine) (o : Outcome) where
  module _ (n : ℕ) (x : List ℕ) (front : x ≡ take n bytes) where
    pub fresh-replies : line ≡ Fresh n → Meets (fresh_turn x m) o m' []
        → (0 ≤ 4097) × Replies (turn_of (log_entry_of line bytes) m) o m' (take 0 reader)
    fresh-replies e h = unfold turn_of log_entry_of in (
      omega arith,
      rw (e, ← front) (meets-replies (fresh_turn x m) (fresh_turn x m) o m' [] (same_turn (fresh_turn x m)) h),
    )

    pub asks-replies : (q : Request) (room size : ℕ) → line ≡ Asks q n room
        → (size ≤ 4097) × Replies (call (call_of q x (replicate room 0)) m) o m' (take size reader)
        → (size ≤ 4097) × Replies (turn_of (log_entry_of line bytes) m) o m' (take size reader)
    asks-replies q room size e h = unfold turn_of log_entry_of in rw (e, ← front) h

    pub order-line-replies : (minute budget size : ℕ) → line ≡ Order minute budget n
        → (size ≤ 4097) × Replies (call (best_order x minute budget) m) o m' (take size reader)
        → (size ≤ 4097) × Replies (turn_of (log_entry_of line bytes) m) o m' (take size reader)
    order-line-replies minute budget size e h = unfold turn_of log_entry_of in rw (e, ← front) h

-- ---- a Read that is not clipped

pub preserved-read : (q : Request) (t d n room : ℕ) → q ≡ Read t d n → room < n → Read t d n ≡ clipped_to room q
preserved-read q t d n room e h = unfold clipped_to in rw (e, lt-leb n room h) refl
