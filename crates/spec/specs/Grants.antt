-- The granted transactions of a list of calls, and the list of calls that runs them again alone.
use Rattle.std.specs.Prelude.{List, [], ◌∷◌, ◌++◌, map, replicate, ℕ}
use Rattle.std.proofs.Math.Option.{Option-elim}
use Rattle.windows.specs.Windows.{fresh_windows}
use Rattle.state.specs.Outcomes.{Said, done_answer, granted}
use Rattle.spec.specs.Messages.{Call, begin, on, commit, abort, places, set_window, undo_commit}
use Rattle.spec.specs.Messages.{best_order, Reply, says, refusal_of, is_grant}
use Rattle.spec.specs.Plain.{Accepted, Slot, closed, running, Plain, plain_with_windows, plain_call}

-- A granted transaction: its number, its Commit's minute, and "the accepted Seeks, Writes, GetFilePointers
-- and Reads since its Begin" [R-1.10].
pub record Grant : Type 0 where
  pub txn_number : ℕ
  pub minute : ℕ
  pub calls : List Accepted

-- The grant of t, where its Commit at the minute has the answer of one and the transaction was open;
-- otherwise none. "A call is accepted when it returns no refusal; a Commit is then granted." [R-1.10]
unfoldable pub granted_by : ℕ → ℕ → Said → Slot → List Grant
granted_by t minute a closed = []
granted_by t minute a (running r) = replicate (is_grant a)
    (record { txn_number = t; minute = minute; calls = r.calls })

-- What the serial order is made of: the machine that it starts from, and the grants, "in the order of their
-- grants" [R-18.6].
pub record Serial : Type 0 where
  pub start : Plain
  pub grants : List Grant

-- A list without its last.
unfoldable pub but_last : List Grant → List Grant
but_last [] = []
but_last (g ∷ []) = []
but_last (g ∷ (h ∷ gs)) = g ∷ but_last (h ∷ gs)

-- 02, F-13: "serial order is then over the grants not taken back." [R-18.6] Where none of them is left, the
-- machine at the start is undone itself (one that has nothing to undo there never is: Serializability.antt,
-- `start`).
unfoldable pub dropped_from : Plain → List Grant → Serial
dropped_from p [] = record { start = (plain_call undo_commit p).after; grants = [] }
dropped_from p (g ∷ gs) = record { start = p; grants = but_last (g ∷ gs) }

-- With further grants at the end; after one more call, on machine p (an undo that is refused drops none);
-- and after a list of calls.
unfoldable pub adding : List Grant → Serial → Serial
adding [] s = s
adding (g ∷ gs) s = record { start = s.start; grants = s.grants ++ (g ∷ gs) }

unfoldable pub serial_by : Call → Plain → Serial → Serial
serial_by (begin t) p s = s
serial_by (on t o) p s = s
serial_by (commit t minute) p s = adding
    (granted_by t minute (plain_call (commit t minute) p).reply.answer (p.slots t)) s
serial_by (abort t) p s = s
serial_by (places t f out) p s = s
serial_by (set_window f start end) p s = s
serial_by undo_commit p s =
    let n = refusal_of (plain_call undo_commit p).reply.answer in
    Option-elim n (dropped_from s.start s.grants) (λ k. s)
serial_by (best_order ts minute budget) p s = s

unfoldable pub serial_from : List Call → Plain → Serial → Serial
serial_from [] p s = s
serial_from (c ∷ cs) p s = serial_from cs (plain_call c p).after (serial_by c p s)

-- F-11: "the serial order runs with Fresh's windows" [R-18.6].
unfoldable pub serial_of : List Call → Plain → Serial
serial_of cs p = serial_from cs p (record { start = plain_with_windows fresh_windows p; grants = [] })

-- "the granted ones are run alone from the state of Fresh, in the order of their grants, with their accepted
-- calls and then their granted Commit, each on what the one before left" [R-18.6]: a list of calls, in which
-- each is begun when the one before has ended.
unfoldable pub again_of : Grant → List Call
again_of g = begin g.txn_number ∷ (map (λ a. on g.txn_number a.op) g.calls
    ++ (commit g.txn_number g.minute ∷ []))

unfoldable pub rerun : List Grant → List Call
rerun [] = []
rerun (g ∷ gs) = again_of g ++ rerun gs

-- What it is to give: Begin's plain answer, for each accepted call the reply that it had, and a grant, by
-- which nobody becomes stale.
unfoldable pub replies_of : Grant → List Reply
replies_of g = says done_answer ∷ (map (λ a. a.reply) g.calls ++ (says (granted 0) ∷ []))

unfoldable pub same_replies : List Grant → List Reply
same_replies [] = []
same_replies (g ∷ gs) = replies_of g ++ same_replies gs
