-- Request F-10: the dispatcher on the store and on the reference model, and what is proved of it.
use Rattle.std.specs.Prelude.{false, cond, List, [], ◌∷◌, map, ◌⊎◌, ◌≡◌, eqb, length, ℕ, ◌+◌, ◌*◌, ◌≤◌, ◌<◌}
use Rattle.limits.specs.Limits.{last_transaction}
use Rattle.buffers.specs.Parts.{tabulate}
use Rattle.admission.specs.FirstRefusal.{guarded, is_none, unless}
use Rattle.admission.specs.Admission.{admission_of_dispatch}
use Rattle.state.specs.StoreMeaning.{transaction, window_at}
use Rattle.windows.specs.Windows.{fresh_windows}
use Rattle.spec.specs.Messages.{Op, seek, write, get_file_pointer, read, Call, Reply}
use Rattle.spec.specs.Machine.{Machine, sizes, file_of, values}
use Rattle.spec.specs.Calls.{call, calls_after, calls_replies}
use Rattle.spec.specs.Promises.{machine_of}
use Rattle.spec.specs.Plain.{Accepted, Plain, start_plain, plain_with_windows, none_running, plain_call}
use Rattle.spec.specs.Plain.{plain_after}
use Rattle.spec.specs.Grants.{Grant, serial_of}
use Rattle.spec.specs.Serializability.{Holds}
use Rattle.spec.specs.SerializabilityOfStore.{the_store}
use Rattle.spec.specs.Age.{AtRest, earlier_in}
use Rattle.spec_dispatch.specs.Rounds.{Scripts, scripts_in, End, unfinished, passed, failed, goes_on}
use Rattle.spec_dispatch.specs.Rounds.{Work, nothing_done, refusal_in, op_of}
use Rattle.spec_dispatch.specs.Rounds.{rounds, dispatched}

-- ---- the dispatcher

-- Replies are the store's, or the reference model's, after the calls made so far.
abbrev pub store_reply : Machine → Call → List Call → Reply
store_reply m c cs = (call c (calls_after cs m)).reply

abbrev pub plain_reply : Plain → Call → List Call → Reply
plain_reply p c cs = (plain_call c (plain_after cs p)).reply

unfoldable pub work_on_store : List ℕ → ℕ → Scripts → Machine → List ℕ → Work
work_on_store bytes minute x m reader = dispatched (store_reply m) bytes minute x reader

unfoldable pub work_on_plain : List ℕ → ℕ → Scripts → Plain → List ℕ → Work
work_on_plain bytes minute x p reader = dispatched (plain_reply p) bytes minute x reader

-- What the dispatcher gives: a refusal (0 for none), each script's end, the number of Commit calls made, the
-- reader's buffer; and the machine that it leaves.
pub record Dispatched (M : Type 0) : Type 0 where
  pub refusal : ℕ
  pub ends : ℕ → End
  pub commits : ℕ
  pub reader : List ℕ
  pub after : M

module _ {M : Type 0} where
  unfoldable pub reported : Work → M → Dispatched M
  reported w m = record { refusal = 0; ends = w.ends; commits = w.commits; reader = w.reader; after = m }

  -- A refusal leaves everything.
  unfoldable pub not_started : M → List ℕ → ℕ → Dispatched M
  not_started m reader n =
      record { refusal = n; ends = λ k. unfinished; commits = 0; reader = reader; after = m }

-- What it leaves is what its list of calls leaves.
unfoldable pub dispatch : List ℕ → ℕ → Scripts → Machine → List ℕ → Dispatched Machine
dispatch bytes minute x m reader =
    let n = admission_of_dispatch (sizes m) m.store m.journal (scripts_in (length bytes) x) in
    let w = work_on_store bytes minute x m reader in
    guarded (not_started m reader) (is_none n) n (reported w (calls_after w.made m))

-- The reference model has no buffers and no state: 1 and 2 are not its refusals.
unfoldable pub plain_dispatch : List ℕ → ℕ → Scripts → Plain → List ℕ → Dispatched Plain
plain_dispatch bytes minute x p reader =
    let n = unless (none_running p) 19 (unless (scripts_in (length bytes) x) 20 0) in
    let w = work_on_plain bytes minute x p reader in
    guarded (not_started p reader) (is_none n) n (reported w (plain_after w.made p))

-- ---- what the rounds come to

-- A call without the reader's buffer.
unfoldable pub without_buffer : Op → Op
without_buffer (seek d v) = seek d v
without_buffer (write d bytes) = write d bytes
without_buffer (get_file_pointer d) = get_file_pointer d
without_buffer (read d n buffer) = read d n []

-- A grant is script k's: it has the number k, the minute, and all calls of the script, in order.
pub record IsScript (bytes : List ℕ) (minute : ℕ) (x : Scripts) (g : Grant) : Type 0 where
  pub small : g.txn_number < x.count
  pub at_minute : g.minute ≡ minute
  pub calls :
      map (λ (a : Accepted). without_buffer a.op) g.calls
      ≡ tabulate (λ i. op_of bytes [] ((x.script g.txn_number).call i)) (x.script g.txn_number).count

pub data EveryScript (bytes : List ℕ) (minute : ℕ) (x : Scripts) : List Grant → Type 0 where
  none : EveryScript bytes minute x []
  more : (g : Grant) (gs : List Grant) → IsScript bytes minute x g → EveryScript bytes minute x gs
      → EveryScript bytes minute x (g ∷ gs)

-- How many of these grants have number k; and how many a script with this end is to have.
unfoldable pub times_in : ℕ → List Grant → ℕ
times_in k [] = 0
times_in k (g ∷ gs) = cond (eqb g.txn_number k) 1 0 + times_in k gs

unfoldable pub times_of : End → ℕ
times_of unfinished = 0
times_of passed = 1
times_of (failed n) = 0

-- The refusals that end a script: 6 to 12 of a call; 12, 21 and 22 of its Commit.
abbrev pub EndsScript : ℕ → Type 0
EndsScript n = ((6 ≤ n) × (n ≤ 12)) ⊎ ((n ≡ 21) ⊎ (n ≡ 22))

-- These, 13 and none are what its calls are answered with: not 5, since nothing is open when a round begins,
-- and not 18, since in a round no Commit comes before a call.
unfoldable pub AnsweredInRounds : List Reply → Type 0
AnsweredInRounds [] = Unit {0}
AnsweredInRounds (r ∷ rs) = ((refusal_in r.answer ≡ 0) ⊎
    ((refusal_in r.answer ≡ 13) ⊎ EndsScript (refusal_in r.answer))) × AnsweredInRounds rs

-- ---- on the reference model too

-- What the dispatcher gives on a store and on the reference model is the same, and so are the committed
-- files, offsets and lengths after it.
pub record SameGiven (d : Dispatched Machine) (e : Dispatched Plain) : Type 0 where
  pub refusal : d.refusal ≡ e.refusal
  pub ends : d.ends ≡ e.ends
  pub commits : d.commits ≡ e.commits
  pub reader : d.reader ≡ e.reader
  pub committed : values d.after.store d.after.files ≡ e.after.committed.value

-- On a store m and on the reference model p it gives the same, and makes the same calls.
pub record PlainToo (bytes : List ℕ) (minute : ℕ) (x : Scripts) (m : Machine) (p : Plain) (reader : List ℕ)
    : Type 0 where
  pub given : SameGiven (dispatch bytes minute x m reader) (plain_dispatch bytes minute x p reader)
  pub work : work_on_store bytes minute x m reader ≡ work_on_plain bytes minute x p reader

-- From a store m with nothing open, whose reference model is p, with scripts that pass 20: what the
-- dispatcher does, and its grants in order.
module _ (bytes : List ℕ) (minute : ℕ) (x : Scripts) (m : Machine) (p : Plain) (reader : List ℕ) where
  abbrev pub work : Work
  work = work_on_store bytes minute x m reader

  abbrev pub grants : List Grant
  grants = (serial_of work.made p).grants

  pub record Dispatches : Type 0 where
    -- "Every script is over within as many rounds as there are scripts" [R-13.5]; more rounds would make no
    -- call.
    pub over : (k : ℕ) → k < x.count → goes_on (work.ends k) ≡ false
    pub no_more : (j : ℕ) → rounds (store_reply m) bytes minute x (j + x.count) (nothing_done reader) ≡ work
    -- "or which refusal ended it" [R-13.6]
    pub refusals : (k n : ℕ) → work.ends k ≡ failed n → EndsScript n
    pub answers : AnsweredInRounds (calls_replies work.made m)
    -- "so at most 36 commits for eight" [R-13.5]; 01: "at most n(n+1)/2" [R-13.5].
    pub few : 2 * work.commits ≤ x.count * (x.count + 1)
    -- On the reference model too.
    pub plain_too : PlainToo bytes minute x m p reader
    -- "The committed files, offsets and lengths after it are those of the granted scripts alone in grant
    -- order" [R-13.7]: Serializability of that list of calls, from what the dispatcher found (F-11: "the
    -- serial order runs with Fresh's windows" [R-18.6]), whatever that has to undo.
    pub serial : Holds the_store m p work.made (calls_after work.made m) (plain_after work.made p)
    pub start : (serial_of work.made p).start ≡ plain_with_windows fresh_windows p
    -- Its grants are the scripts that were granted, each once, at the minute and with all its calls.
    pub scripts : EveryScript bytes minute x grants
    pub once : (k : ℕ) → k < x.count → times_in k grants ≡ times_of (work.ends k)
    -- "aborting it if still open" [R-13.4]: nothing is open after it.
    pub closed :
        (t : ℕ) → t ≤ last_transaction → (transaction (calls_after work.made m).store t).begun ≡ false

-- The reference model of a store with nothing open.
abbrev pub plain_of : Machine → Plain
plain_of m = start_plain (file_of m.store) (values m.store m.files) (window_at m.store) (earlier_in m)

-- On any state and any buffers on which the dispatcher is not refused.
abbrev pub DispatchHolds : Type 0
DispatchHolds =
    (state files logs marks undo : List ℕ) (bytes : List ℕ) (minute : ℕ) (x : Scripts) (reader : List ℕ)
    → let m = machine_of state files logs marks undo in
    (dispatch bytes minute x m reader).refusal ≡ 0 → Dispatches bytes minute x m (plain_of m) reader

-- After any list of calls from any store at rest, refused or not.
abbrev pub SameDispatch : Type 0
SameDispatch =
    (m : Machine) → AtRest m → (cs : List Call) (bytes : List ℕ) (minute : ℕ) (x : Scripts) (reader : List ℕ)
    → PlainToo bytes minute x (calls_after cs m) (plain_after cs (plain_of m)) reader
