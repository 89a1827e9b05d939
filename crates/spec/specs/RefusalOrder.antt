-- Paper 01, "What a turned-down call brings" [R-16.1]: the tests of each call in their order, on any state
-- and any buffers. "Checked in this order, save that 13 comes before 12" [R-16.2]; 02 says of each later
-- number where it stands.
use Rattle.std.specs.Prelude.{Bool, cond, not, ◌&&◌, List, [], ◌∷◌, leb, eqb, length, get_or, ℕ, ◌+◌, ◌*◌}
use Rattle.std.proofs.Math.Option.{Option, none, some}
use Rattle.limits.specs.Limits.{last_file, file_bytes, descriptor_count, last_descriptor, last_transaction}
use Rattle.limits.specs.Limits.{record_count, log_bytes, most_orders}
use Rattle.windows.specs.Windows.{minute_in}
use Rattle.standings.specs.Table.{advance, place_number, write_place, pointer_settles}
use Rattle.state.specs.StoreMeaning.{transaction, window_at}
use Rattle.admission.specs.FirstRefusal.{below}
use Rattle.admission.specs.Admission.{store_in, sizes_in, none_begun}
use Rattle.spec_orders.specs.Orders.{all_in, is_list}
use Rattle.spec.specs.Items.{offset, Values}
use Rattle.spec.specs.Transactions.{Txn}
use Rattle.spec.specs.Steps.{total, settled_by_read}
use Rattle.spec.specs.Commits.{fits}
use Rattle.spec.specs.Places.{covered, unplaced, intervals_of}
use Rattle.spec.specs.Windows.{for_closed}
use Rattle.spec.specs.Messages.{Op, seek, write, get_file_pointer, read, Call, begin, on, commit, abort}
use Rattle.spec.specs.Messages.{places, set_window, undo_commit}
use Rattle.spec.specs.Messages.{best_order}
use Rattle.spec.specs.Machine.{Machine, sizes, file_of, values, txn_of}
use Rattle.spec.specs.Calls.{asked_of}

-- A test: the number with which the call is refused if it fails, and whether it passes.
pub record Test : Type 0 where
  pub number : ℕ
  pub passes : Bool

abbrev pub test : ℕ → Bool → Test
test n passes = record { number = n; passes = passes }

-- The number of the first test that fails, if one does.
unfoldable pub first_failing : List Test → Option ℕ
first_failing [] = none
first_failing (x ∷ xs) = cond x.passes (first_failing xs) (some x.number)

-- 1: "a store buffer .. has another length" [R-16.1]. 2: "the store record breaks a range" [R-16.1]. Then the
-- later ones.
unfoldable pub first_two : Machine → List Test → List Test
first_two m later = test 1 (sizes_in (sizes m)) ∷ test 2 (store_in m.store m.journal) ∷ later

-- 3: "transaction number above 7" [R-16.1]. 4: "not open" [R-16.1].
unfoldable pub first_four : ℕ → Machine → List Test → List Test
first_four t m later =
    first_two m (test 3 (leb t last_transaction) ∷ test 4 (transaction m.store t).begun ∷ later)

-- 12: "settling .. takes committed offset plus advance above 4,096" [R-16.1]: none of these descriptors does.
unfoldable pub settles : Values → Txn → List ℕ → Bool
settles v x ds = all_in (λ d. leb (v (offset d) + advance (x.standing d)) file_bytes) ds

-- The tests of Seek, Write, GetFilePointer and Read after 4. 9: "Write whose offset, or advance while
-- Deferred or Untouched (0), plus length is above 4,096" [R-16.1]. F-6: "18 when the transaction is stale,
-- after 6 and before 7" [R-16.1].
unfoldable pub step_tests : ℕ → Op → Machine → List Test
step_tests t (seek d n) m = test 6 (leb d last_descriptor) ∷ test 8 (leb n file_bytes) ∷ []
step_tests t (write d bytes) m =
    let x = txn_of m.store m.journal m.logs t in
    test 6 (leb d last_descriptor)
    ∷ test 9 (leb (place_number (write_place (x.standing d)) + length bytes) file_bytes)
    ∷ test 10 (leb (length x.writes + 1) record_count)
    ∷ test 11 (leb (total x.writes + length bytes) log_bytes)
    ∷ []
step_tests t (get_file_pointer d) m =
    let x = txn_of m.store m.journal m.logs t in
    test 6 (leb d last_descriptor)
    ∷ test 18 (not (transaction m.store t).stale)
    ∷ test 12 (settles (values m.store m.files) x (cond (pointer_settles (x.standing d)) (d ∷ []) []))
    ∷ []
step_tests t (read d n buffer) m =
    let x = txn_of m.store m.journal m.logs t in
    test 6 (leb d last_descriptor)
    ∷ test 18 (not (transaction m.store t).stale)
    ∷ test 7 (leb n (length buffer))
    ∷ test 12 (settles (values m.store m.files) x (settled_by_read (file_of m.store) d x))
    ∷ []

-- 5: "Begin of one already open" [R-16.1]. F-11: 21 "after 13 and before 12" [R-16.2], 22 "after 4 in Commit"
-- [R-16.2] and "after the file number (6) when setting" [R-16.2]. F-1: 15 "after 4 and a file number above 7
-- (which is 6); 16 .. last" [R-16.2]. F-13: 23 "after 2" [R-16.1], 24 "after 23" [R-16.2]. F-14: 26 "before
-- 3" [R-16.2], 25 "after 4 and 22" [R-16.2], 27 "last" [R-16.2].
unfoldable pub tests_of : Call → Machine → List Test
tests_of (begin t) m =
    first_two m (test 3 (leb t last_transaction) ∷ test 5 (not (transaction m.store t).begun) ∷ [])
tests_of (on t o) m = first_four t m (step_tests t o m)
tests_of (commit t minute) m =
    let s = m.store in
    let x = txn_of s m.journal m.logs t in
    first_four t m
    (test 22 (minute_in minute)
    ∷ test 13 (not (transaction s t).stale)
    ∷ test 21 (not (for_closed (file_of s) (window_at s) minute x.writes))
    ∷ test 12 (fits (values s m.files) x)
    ∷ [])
tests_of (abort t) m = first_four t m []
tests_of (places t f out) m =
    let ws = (txn_of m.store m.journal m.logs t).writes in
    first_four t m
    (test 6 (leb f last_file)
    ∷ test 15 (not (unplaced (file_of m.store) f ws))
    ∷ test 16 (leb (4 * length (intervals_of (covered (file_of m.store) f ws))) (length out))
    ∷ [])
tests_of (set_window f start end) m =
    first_two m (test 6 (leb f last_file) ∷ test 22 (minute_in start && minute_in end) ∷ [])
tests_of undo_commit m = first_two m (test 23 (none_begun m.store) ∷ test 24 m.store.undo.valid ∷ [])
tests_of (best_order ts minute budget) m =
    let a = asked_of minute m in
    first_two m
    (test 26 (is_list ts)
    ∷ test 3 (all_in (λ t. leb t last_transaction) ts)
    ∷ test 4 (all_in a.is_open ts)
    ∷ test 22 (minute_in minute)
    ∷ test 25 (all_in (λ t. not (a.not_ready t)) ts)
    ∷ test 27 (leb 1 budget && leb budget most_orders)
    ∷ [])

-- 1: "a store buffer, or Fresh's list, has another length" [R-16.1]. 14: "Fresh with a file number above 7"
-- [R-16.1].
unfoldable pub fresh_tests : List ℕ → Machine → List Test
fresh_tests numbers m =
    test 1 (sizes_in (sizes m) && eqb (length numbers) descriptor_count)
    ∷ test 14 (below (λ d. leb (get_or numbers d 0) last_file) descriptor_count) ∷ []
