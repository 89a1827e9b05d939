-- The reference model, executable: 01's plain machine, as paper 01 words it, and what 02's requests add to
-- it. "It has no marks and looks at nothing in the store's record or buffers." [R-17.2]
use Rattle.std.specs.Prelude.{Bool, true, false, cond, not, ◌&&◌, ◌||◌, List, [], ◌∷◌, ◌++◌, map, leb, eqb, ℕ, zero, suc, ◌+◌}
use Rattle.limits.specs.Limits.{transaction_count, last_transaction}
use Rattle.windows.specs.Windows.{minute_in, window, Windows, fresh_windows}
use Rattle.buffers.specs.Bits.{bits_of}
use Rattle.state.specs.declared.outcomes.Refusal.TheVariants.{Stale}
use Rattle.state.specs.Outcomes.{number, Said, done_answer, granted, refused}
use Rattle.admission.specs.FirstRefusal.{guarded, is_none, below}
use Rattle.admission.specs.Admission.{window_refusal}
use Rattle.spec.specs.Messages.{Op, buffer_of, Call, begin, on, commit, abort, places, set_window}
use Rattle.spec.specs.Messages.{undo_commit, best_order, Reply, says}
use Rattle.spec.specs.Messages.{TurnOf, answer_with, refuse_turn, replies_to, after_all}
use Rattle.spec.specs.Items.{Values, result, asked}
use Rattle.spec.specs.Transactions.{Txn, Write, empty, put}
use Rattle.spec.specs.Steps.{Stepped, refuse, accept, step, refused_stale}
use Rattle.spec.specs.Places.{places_of}
use Rattle.spec.specs.Windows.{for_closed}
use Rattle.spec.specs.OrderReply.{grants_in, has_unplaced, Asked, order_reply}
use Rattle.spec.specs.Commits.{settings, fits, landed, set_by, commit_refusal}
use Rattle.spec.specs.Sightings.{Entry, same_entries, Committed, entries}
use Rattle.spec.specs.LoneRuns.{lone}

-- An accepted call with what it gave.
pub record Accepted : Type 0 where
  pub op : Op
  pub reply : Reply

-- "for each open transaction its accepted calls, standings, writes and sightings" [R-17.1]
pub record Running : Type 0 where
  pub txn : Txn
  pub calls : List Accepted
  pub seen : List Entry

-- Just begun; and after an accepted call that leaves y and sights es.
abbrev pub just_begun : Running
just_begun = record { txn = empty; calls = []; seen = [] }

abbrev pub after_call : Txn → Accepted → List Entry → Running → Running
after_call y a es r = record { txn = y; calls = r.calls ++ (a ∷ []); seen = r.seen ++ es }

pub data Slot : Type 0 where
  closed : Slot
  running : Running → Slot

-- 02, F-13: "The plain machine keeps the files, offsets, lengths, setters and count of grants that the last
-- grant found until it goes back to them." [R-17.5]
pub data Earlier : Type 0 where
  nothing : Earlier
  found : Committed → ℕ → Earlier

-- "It holds these, a count of grants from 0, and for each open transaction its accepted calls, standings,
-- writes and sightings." [R-17.1] 02, F-11: "the plain machine holds the windows" [R-17.1].
pub record Plain : Type 0 where
  pub file_of : ℕ → ℕ
  pub committed : Committed
  pub grants : ℕ
  pub windows : Windows
  pub earlier : Earlier
  pub slots : ℕ → Slot

-- A machine of these parts.
abbrev pub plain_with : (ℕ → ℕ) → Committed → ℕ → Windows → Earlier → (ℕ → Slot) → Plain
plain_with file_of c n windows earlier slots =
    record { file_of = file_of; committed = c; grants = n; windows = windows; earlier = earlier; slots = slots }

-- The machine with these committed values, these windows, these values to restore, and nothing open, counting
-- its grants from here on.
unfoldable pub start_plain : (ℕ → ℕ) → Values → Windows → Earlier → Plain
start_plain file_of v windows earlier = plain_with file_of (record { value = v; setter = λ i. 0 }) 0 windows
    earlier (λ t. closed)

-- "starts with the files, each descriptor's file, the offsets and the setters that an accepted Fresh gives"
-- [R-17.1]; 02, F-8: "Lengths join what the plain machine holds" [R-17.1]. F-11: "Fresh sets all to 0 and 0."
-- [R-11.2]
abbrev pub fresh_plain : (ℕ → ℕ) → Plain
fresh_plain file_of = start_plain file_of (λ i. 0) fresh_windows nothing

unfoldable pub ops : List Accepted → List Op
ops = map (λ a. a.op)

-- "the first list of an open transaction is the sightings that the machine holds for it. The second is the
-- sightings of its accepted calls run alone on the committed files, offsets and setters that the machine
-- holds then." [R-17.7]
unfoldable pub first_list : Running → List Entry
first_list r = r.seen

unfoldable pub second_list : Plain → Running → List Entry
second_list p r = (lone p.file_of p.committed (ops r.calls) empty).seen

-- "a transaction is stale to it when the two lists differ" [R-17.2]
unfoldable pub is_stale : Plain → Running → Bool
is_stale p r = not (same_entries (first_list r) (second_list p r))

-- A call's reply and the machine after it. "Any other refused call changes nothing" [R-17.4].
abbrev pub PlainTurn : Type 0
PlainTurn = TurnOf Plain

-- The machine with another transaction as number t; and after a grant that leaves c committed, one grant
-- more, with what it found saved.
unfoldable pub with_slot : ℕ → Slot → Plain → Plain
with_slot t s p = plain_with p.file_of p.committed p.grants p.windows p.earlier
    (put t s p.slots)

abbrev pub with_grant : Committed → Plain → Plain
with_grant c p = plain_with p.file_of c (p.grants + 1) p.windows (found p.committed p.grants)
    p.slots

-- 02, F-11: "setting one changes nothing else in it" [R-17.5].
abbrev pub plain_with_windows : Windows → Plain → Plain
plain_with_windows windows p = plain_with p.file_of p.committed p.grants windows p.earlier p.slots

-- F-13: "until it goes back to them" [R-17.5], "whatever the windows" [R-12.1], which stay.
abbrev pub plain_restored : Committed → ℕ → Plain → Plain
plain_restored c n p = plain_with p.file_of c n p.windows nothing p.slots

-- 5: "Begin of one already open" [R-16.1]; "Begin opens a transaction with nothing in it, all Untouched."
-- [R-17.3]
unfoldable pub plain_begin : ℕ → Slot → Plain → PlainTurn
plain_begin t closed p = answer_with done_answer (with_slot t (running just_begun) p)
plain_begin t (running r) p = refuse_turn 5 [] p

-- "Seek, Write, GetFilePointer and Read go by the sections above and add the call, then its sightings with
-- the setters of that moment." [R-17.3]
unfoldable pub plain_stepped : ℕ → Op → Running → List Entry → Plain → Stepped → PlainTurn
plain_stepped t o r es p (refuse n) = refuse_turn n (buffer_of o) p
plain_stepped t o r es p (accept y answer buffer) =
    let reply : Reply = record { answer = answer; buffer = buffer } in
    record {
      reply = reply;
      after = with_slot t
          (running (after_call y (record { op = o; reply = reply }) es r)) p;
    }

unfoldable pub plain_on : ℕ → Op → Slot → Plain → PlainTurn
plain_on t o closed p = refuse_turn 4 (buffer_of o) p
plain_on t o (running r) p =
    let v = p.committed.value in
    let s = step p.file_of o r.txn in
    plain_stepped t o r (entries p.committed.setter (asked v s)) p
    (refused_stale (is_stale p r) o (result v s))

-- What a granted Commit leaves, as grant number n: it "lands the writes, sets the offsets and makes the count
-- the setter of all it set" [R-17.4].
unfoldable pub committing : (ℕ → ℕ) → ℕ → Txn → Committed → Committed
committing file_of n x c =
    let ss = settings file_of c.value x in
    record { value = landed ss c.value; setter = set_by n ss c.setter }

-- "A granted Commit raises the count ..; the transaction ends." [R-17.4]
unfoldable pub grant : ℕ → Running → Plain → Plain
grant t r p = with_slot t closed (with_grant (committing p.file_of (p.grants + 1) r.txn p.committed) p)

-- Open with lists that differ.
unfoldable pub stale_slot : Plain → Slot → Bool
stale_slot p closed = false
stale_slot p (running r) = is_stale p r

-- Whether u is one of those that a Commit of t which takes the machine from p to q made stale: "the other
-- open ones whose two lists were equal before that commit and aren't after it" [R-18.5]. (A Commit opens
-- none.)
unfoldable pub became_stale : ℕ → Plain → Plain → ℕ → Bool
became_stale t p q u = not (eqb u t) && not (stale_slot p (p.slots u)) && stale_slot q (q.slots u)

-- "Abort and a Commit refused with 13 end it and set nothing." [R-17.4]
unfoldable pub plain_committed : ℕ → Running → Plain → ℕ → PlainTurn
plain_committed t r p zero =
    answer_with (granted (bits_of (became_stale t p (grant t r p)) transaction_count)) (grant t r p)
plain_committed t r p (suc n) =
    record {
      reply = says (refused (suc n));
      after = cond (eqb (suc n) (number Stale))
          (with_slot t closed p) p;
    }

unfoldable pub plain_commit : ℕ → ℕ → Slot → Plain → PlainTurn
plain_commit t minute closed p = refuse_turn 4 [] p
plain_commit t minute (running r) p =
    let x = r.txn in
    plain_committed t r p
    (commit_refusal (minute_in minute) (is_stale p r) (for_closed p.file_of p.windows minute x.writes)
    (fits p.committed.value x))

unfoldable pub plain_abort : ℕ → Slot → Plain → PlainTurn
plain_abort t closed p = refuse_turn 4 [] p
plain_abort t (running r) p = answer_with done_answer (with_slot t closed p)

-- F-1, "for the plain machine too" [R-17.3]: it answers from what it holds, and adds nothing to the
-- transaction's accepted calls.
unfoldable pub plain_places : ℕ → List ℕ → Slot → Plain → PlainTurn
plain_places f out closed p = refuse_turn 4 out p
plain_places f out (running r) p = record { reply = places_of p.file_of f out r.txn; after = p }

-- F-11: a window is set, after 6 and 22.
unfoldable pub plain_set_window : ℕ → ℕ → ℕ → Plain → PlainTurn
plain_set_window f start end p =
    let n = window_refusal f start end in
    guarded (λ k. refuse_turn k [] p) (is_none n) n
    (answer_with done_answer (plain_with_windows (put f (window start end) p.windows) p))

-- 3: "transaction number above 7" [R-16.1]
unfoldable pub with_number : ℕ → List ℕ → (Slot → Plain → PlainTurn) → Plain → PlainTurn
with_number t buffer next p =
    guarded (λ n. refuse_turn n buffer p) (leb t last_transaction) 3 (next (p.slots t) p)

-- Whether a number is open, and whether one of the eight is.
unfoldable pub is_running : Slot → Bool
is_running closed = false
is_running (running r) = true

unfoldable pub none_running : Plain → Bool
none_running p = below (λ t. not (is_running (p.slots t))) transaction_count

-- 02, F-13: "23 when any transaction is open, after 2; 24 when there has been no grant since the latest Fresh
-- or taking back, after 23." [R-16.1]
unfoldable pub plain_restore : Earlier → Plain → PlainTurn
plain_restore nothing p = refuse_turn 24 [] p
plain_restore (found c n) p = answer_with done_answer (plain_restored c n p)

unfoldable pub plain_undo : Plain → PlainTurn
plain_undo p = guarded (λ n. refuse_turn n [] p) (none_running p) 23 (plain_restore p.earlier p)

abbrev pub plain_commit_call : ℕ → ℕ → Plain → PlainTurn
plain_commit_call t minute p = with_number t [] (plain_commit t minute) p

-- 02, F-14, "for the plain machine too" [R-17.3] (F-1's words): it answers from what it holds, and changes
-- nothing.
unfoldable pub writes_in : Slot → List Write
writes_in closed = []
writes_in (running r) = r.txn.writes

unfoldable pub plain_asked : ℕ → Plain → Asked
plain_asked minute p =
    record {
      is_open = λ t. is_running (p.slots t);
      not_ready = λ t. stale_slot p (p.slots t) || has_unplaced (writes_in (p.slots t));
      has_closed = λ t. for_closed p.file_of p.windows minute (writes_in (p.slots t));
      grants = λ o. grants_in (λ t q. (plain_commit_call t minute q).reply)
          (λ t q. (plain_commit_call t minute q).after) o p;
    }

unfoldable pub plain_best_order : List ℕ → ℕ → ℕ → Plain → PlainTurn
plain_best_order ts minute budget p =
    record { reply = order_reply (plain_asked minute p) ts minute budget; after = p }

unfoldable pub plain_call : Call → Plain → PlainTurn
plain_call (begin t) p = with_number t [] (plain_begin t) p
plain_call (on t o) p = with_number t (buffer_of o) (plain_on t o) p
plain_call (commit t minute) p = plain_commit_call t minute p
plain_call (abort t) p = with_number t [] (plain_abort t) p
plain_call (places t f out) p = with_number t out (plain_places f out) p
plain_call (set_window f start end) p = plain_set_window f start end p
plain_call undo_commit p = plain_undo p
plain_call (best_order ts minute budget) p = plain_best_order ts minute budget p

-- A list of calls: the machine after it, and its replies.
abbrev pub plain_after : List Call → Plain → Plain
plain_after cs p = after_all plain_call cs p

abbrev pub plain_replies : List Call → Plain → List Reply
plain_replies cs p = replies_to plain_call cs p
