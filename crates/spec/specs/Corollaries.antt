-- What follows from the statements of this crate. It is proved and used, and nobody has to believe it.
use Rattle.std.specs.Prelude.{true, List, [], ◌∷◌, map, ◌≡◌, length, ℕ, ◌+◌}
use Rattle.std.proofs.Math.Option.{some}
use Rattle.limits.specs.Limits.{buffer_bytes}
use Rattle.state.specs.declared.outcomes.Refusal.TheVariants.{Stale}
use Rattle.state.specs.Outcomes.{Outcome}
use Rattle.state.specs.Outcomes.{number, refused, said}
use Rattle.spec_orders.specs.Orders.{is_in}
use Rattle.buffers.specs.Marks.{by_byte, names, rearranged}
use Rattle.standings.specs.declared.Standing.{Standing}
use Rattle.standings.specs.Table.{after_write, write_place}
use Rattle.spec.specs.Messages.{Op, seek, write, get_file_pointer, read, Call, begin, on, commit, abort}
use Rattle.spec.specs.Messages.{places, set_window, undo_commit, best_order, Reply, buffer_of_call}
use Rattle.spec.specs.Messages.{refusal_of}
use Rattle.spec.specs.Items.{Item, Values}
use Rattle.spec.specs.Transactions.{Txn}
use Rattle.spec.specs.MarkPairs.{Named}
use Rattle.spec.specs.SerializabilityOfStore.{FreshlyMade}
use Rattle.spec.specs.BestOrder.{BestOrderHolds}
use Rattle.spec.specs.Splitting.{further, Accepts, SplitTxn}
use Rattle.spec.specs.Machine.{Machine, with_logs, with_marking}
use Rattle.spec.specs.Calls.{fresh, call, calls_after}
use Rattle.spec.specs.Promises.{Meets, machine_of}
use Rattle.spec.specs.RefusalOrder.{first_failing, tests_of, fresh_tests}
use Rattle.spec.specs.Recovery.{EndsAll, recovered, Reached}
use Rattle.spec.specs.Age.{AtRest, Alike, rejuvenated}

-- ---- demand 1: of Refusals

-- The refusals of each call, in the order of its tests. (The dispatcher's are
-- spec_dispatch/specs/Corollaries.antt.)
unfoldable pub refusals_of : Call → List ℕ
refusals_of (begin t) = 1 ∷ 2 ∷ 3 ∷ 5 ∷ []
refusals_of (on t (seek d v)) = 1 ∷ 2 ∷ 3 ∷ 4 ∷ 6 ∷ 8 ∷ []
refusals_of (on t (write d bytes)) = 1 ∷ 2 ∷ 3 ∷ 4 ∷ 6 ∷ 9 ∷ 10 ∷ 11 ∷ []
refusals_of (on t (get_file_pointer d)) = 1 ∷ 2 ∷ 3 ∷ 4 ∷ 6 ∷ 18 ∷ 12 ∷ []
refusals_of (on t (read d n buffer)) = 1 ∷ 2 ∷ 3 ∷ 4 ∷ 6 ∷ 18 ∷ 7 ∷ 12 ∷ []
refusals_of (commit t minute) = 1 ∷ 2 ∷ 3 ∷ 4 ∷ 22 ∷ 13 ∷ 21 ∷ 12 ∷ []
refusals_of (abort t) = 1 ∷ 2 ∷ 3 ∷ 4 ∷ []
refusals_of (places t f out) = 1 ∷ 2 ∷ 3 ∷ 4 ∷ 6 ∷ 15 ∷ 16 ∷ []
refusals_of (set_window f start end) = 1 ∷ 2 ∷ 6 ∷ 22 ∷ []
refusals_of undo_commit = 1 ∷ 2 ∷ 23 ∷ 24 ∷ []
refusals_of (best_order ts minute budget) = 1 ∷ 2 ∷ 26 ∷ 3 ∷ 4 ∷ 22 ∷ 25 ∷ 27 ∷ []

abbrev pub refusals_of_fresh : List ℕ
refusals_of_fresh = 1 ∷ 14 ∷ []

-- The numbers of the tests are the call's row, in order, and no others; and a refusal is one of the call's
-- own, on any state and any buffers m.
pub record RefusalsKnown (m : Machine) : Type 0 where
  pub rows : (c : Call) → map (λ x. x.number) (tests_of c m) ≡ refusals_of c
  pub fresh_row : (numbers : List ℕ) → map (λ x. x.number) (fresh_tests numbers m) ≡ refusals_of_fresh
  pub known : (c : Call) (n : ℕ) → (call c m).reply.answer ≡ refused n → is_in n (refusals_of c) ≡ true
  pub fresh_known : (numbers : List ℕ) (n : ℕ) → (fresh numbers m).reply.answer ≡ refused n
      → is_in n refusals_of_fresh ≡ true

-- ---- demand 1 about the code: of Refusals, by the promise of a call

-- A call that kept its promise, with outcome o, and left state, buffers and reader's buffer.
pub record RefusedByCode (c : Call) (m : Machine) (n : ℕ) (after : Machine) (reader : List ℕ) : Type 0 where
  pub first : first_failing (tests_of c m) ≡ some n
  pub known : is_in n (refusals_of c) ≡ true
  pub leaves : (n ≡ number Stale → ⊥) → (after ≡ m) × (reader ≡ buffer_of_call c)
  pub ends : n ≡ number Stale → (t : ℕ) × (minute : ℕ) × (c ≡ commit t minute)
      × (after ≡ (call (abort t) m).after)

pub record RefusalsOfCode : Type 0 where
  -- Of every call, refused or not.
  pub first :
      (c : Call) (m : Machine) (o : Outcome) (after : Machine) (reader : List ℕ)
      → Meets (call c m) o after reader → refusal_of (said o) ≡ first_failing (tests_of c m)
  pub fresh_first :
      (numbers : List ℕ) (m : Machine) (o : Outcome) (after : Machine)
      → Meets (fresh numbers m) o after [] → refusal_of (said o) ≡ first_failing (fresh_tests numbers m)
  pub calls :
      (c : Call) (m : Machine) (o : Outcome) (after : Machine) (reader : List ℕ) (n : ℕ)
      → Meets (call c m) o after reader → said o ≡ refused n → RefusedByCode c m n after reader
  -- Of Fresh: "the record at hand, which a refused Fresh hands back" [R-1.6].
  pub fresh :
      (numbers : List ℕ) (m : Machine) (o : Outcome) (after : Machine) (n : ℕ)
      → Meets (fresh numbers m) o after [] → said o ≡ refused n → (is_in n refusals_of_fresh ≡ true)
      × (after ≡ m)

-- ---- age: of CommittedDecides

-- A store at rest answers every further list of calls as a young one does, however many grants came before
-- and whatever log bytes and old write records lie about.
abbrev pub Ageless : Type 0
Ageless =
    (m : Machine) → AtRest m → (logs : List ℕ) → length logs ≡ buffer_bytes
    → (cs : List Call) → Alike cs m (rejuvenated m logs)

-- The case of a store at rest: it goes on as the store that was saved would have, with any other logs and
-- marks of their length; and so it does where its state was saved as it lies.
pub record LoadedAlike (m : Machine) (logs marks : List ℕ) (cs : List Call) : Type 0 where
  pub ended : Alike cs m (recovered logs marks m)
  pub as_it_lies : Alike cs m (with_logs logs (with_marking marks m))

abbrev pub Reloads : Type 0
Reloads =
    (m : Machine) → AtRest m → (logs marks : List ℕ) → length logs ≡ buffer_bytes → length marks ≡ buffer_bytes
    → (cs : List Call) → LoadedAlike m logs marks cs

-- ---- recovery: of `EndsAll`

-- The state that `end_all` leaves, lent with the same files and undo log, is the store that goes on.
abbrev pub RecoversByCode : Type 0
RecoversByCode =
    (before after files logs marks undo new_logs new_marks : List ℕ) → EndsAll before after
    → machine_of after files new_logs new_marks undo
    ≡ recovered new_logs new_marks (machine_of before files logs marks undo)

-- ---- marks: of AlwaysRestsOnPairs and SamePairs (buffers/specs/Marks.antt)

-- The store with the new arrangement of any old marks that name the pairs of its own answers alike.
abbrev pub RestsOnOldPairs : Type 0
RestsOnOldPairs =
    (m : Machine) → Reached m → (marks : List ℕ) → Named (names by_byte marks) m → (cs : List Call)
    → Alike cs m (with_marking (rearranged marks) m)

-- ---- one long write or two short ones (F-12): of SplitsAlike

-- "Show it for each standing from one fact" [R-5.3]: a Write of m bytes and then one of n leave a standing
-- where one of m + n leaves it, and the second lies where the first ends.
pub record AddsUp (z : Standing) : Type 0 where
  pub standing : (m n : ℕ) → after_write n (after_write m z) ≡ after_write (m + n) z
  pub place : (m : ℕ) → write_place (after_write m z) ≡ further m (write_place z)

-- One of a list of calls: what is committed then (others may commit between the calls), the call, its reply
-- and its sightings.
pub record Moment : Type 0 where
  pub value : Values
  pub op : Op
  pub reply : Reply
  pub sightings : List Item

-- A list of calls, each accepted.
pub data AcceptsAll (file_of : ℕ → ℕ) : Txn → List Moment → Txn → Type 0 where
  stop : (x : Txn) → AcceptsAll file_of x [] x
  next :
      (x y z : Txn) (n : Moment) (ns : List Moment)
      → Accepts file_of n.value n.op x y n.reply n.sightings → AcceptsAll file_of y ns z
      → AcceptsAll file_of x (n ∷ ns) z

-- A list of calls that is accepted in x, where a write is split, is accepted in y, where it is not, with the
-- same replies and sightings, and again only the writes differ.
abbrev pub SplitLists : Type 0
SplitLists =
    (file_of : ℕ → ℕ) (ns : List Moment) (x y x' : Txn) → SplitTxn x y → AcceptsAll file_of x ns x' → (y' : Txn)
    × AcceptsAll file_of y ns y' × SplitTxn x' y'

-- ---- the best order (F-14)

-- In every store that calls lead to from Fresh. (On any numbers and any buffers: `BestOrderOfAny`,
-- call_order/specs/Answer.antt.)
abbrev pub BestOrderAlwaysHolds : Type 0
BestOrderAlwaysHolds = (numbers : List ℕ) (m₀ : Machine) → FreshlyMade numbers m₀ → (cs : List Call)
    → BestOrderHolds (calls_after cs m₀)
