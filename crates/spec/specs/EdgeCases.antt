-- Edge cases of paper 01's text and of requests F-1 to F-8 that no program shows: what is sighted, the two
-- lists, forged transactions and stores. Of lists of calls each has the replies expected, in order; they
-- start as the situations do. Edge cases that replies and committed values show are lines of
-- crates/replay/stdin, under their names.
use Rattle.std.specs.Prelude.{Bool, true, false, cond, List, [], ◌∷◌, ◌++◌, ◌≡◌, eqb, replicate, ℕ}
use Rattle.buffers.specs.Bits.{bits_of}
use Rattle.standings.specs.declared.Standing.{Standing}
use Rattle.standings.specs.declared.Standing.TheVariants.{Untouched, Placed, Deferred, Known}
use Rattle.standings.specs.declared.Place.{Place}
use Rattle.standings.specs.declared.Place.TheVariants.{At, After}
use Rattle.state.specs.declared.Transaction.{Transaction}
use Rattle.state.specs.declared.journal.WriteRecord.{WriteRecord}
use Rattle.state.specs.StoreMeaning.{ended, begun, with_begun, with_stale, with_used, with_descriptors}
use Rattle.state.specs.StoreMeaning.{with_transactions}
use Rattle.state.specs.Journal.{with_record_at}
use Rattle.state.specs.Outcomes.{done_answer, pointer, granted, refused}
use Rattle.spec.specs.Items.{byte, offset, file_length, result}
use Rattle.spec.specs.Messages.{seek, write, get_file_pointer, read, begin, on, places, says}
use Rattle.spec.specs.Transactions.{Txn, Write, empty}
use Rattle.spec.specs.Reading.{own_end}
use Rattle.spec.specs.Steps.{Stepped, refuse, accept, step}
use Rattle.spec.specs.Commits.{settings, fits}
use Rattle.spec.specs.Machine.{Machine, lent, txn_of}
use Rattle.spec.specs.Calls.{fresh_store, made_stale, after_commit, settings_of, former_number}
use Rattle.spec.specs.LoneRuns.{Lone, lone}
use Rattle.spec.specs.Setup.{Seen, Exchange, ◌gets◌, commits, calls_of, Goes, former_numbers, sighted}
use Rattle.spec.specs.Setup.{beginning}
use Rattle.spec.specs.Setup.{sightings_of, gives, refuses_with, lists, three_begun, A, B, C, X, Y, Z, dot}
use Rattle.spec.specs.Situations.{expected_k, expected_l}

-- Before the others, T7 commits two zeros at the front of file 0, and the offset 0 of descriptor 0.
unfoldable pub two_zeros : List Exchange
two_zeros =
    begin 7 gets says done_answer
    ∷ on 7 (seek 0 0) gets says done_answer
    ∷ on 7 (write 0 (0 ∷ 0 ∷ [])) gets says done_answer
    ∷ on 7 (seek 0 0) gets says done_answer
    ∷ commits 7 gets says (granted 0)
    ∷ []

-- "a refusal 12 tells the caller something about an offset and makes no sighting" [R-7.2]: T1 sights nothing
-- by two of them.
unfoldable pub expected_refused_settling : List Exchange
expected_refused_settling =
    three_begun
    ++ on 0 (seek 0 4096) gets says done_answer
    ∷ commits 0 gets says (granted 0)
    ∷ on 1 (write 0 (A ∷ [])) gets says done_answer
    ∷ on 1 (get_file_pointer 0) gets says (refused 12)
    ∷ on 1 (read 0 1 (dot ∷ [])) gets refuses_with 12 (dot ∷ [])
    ∷ []

-- "it settles every descriptor of d's file that stands Deferred or Moved" [R-4.4]: 8 stands Moved when T0
-- reads through 0. "Moved becomes Known at its own offset." [R-4.1]
unfoldable pub expected_moved : List Exchange
expected_moved =
    three_begun
    ++ on 0 (write 8 (A ∷ [])) gets says done_answer
    ∷ on 0 (seek 8 9) gets says done_answer
    ∷ on 0 (seek 0 0) gets says done_answer
    ∷ on 0 (read 0 1 (dot ∷ [])) gets gives 1 (A ∷ [])
    ∷ on 0 (get_file_pointer 8) gets says (pointer 9)
    ∷ []

-- "The notes, read to the letter, would settle untouched descriptors too; that is not done" [R-4.4]: 8 is
-- Untouched when T0 reads through 0.
unfoldable pub expected_neighbour : List Exchange
expected_neighbour =
    two_zeros
    ++ three_begun
    ++ on 0 (seek 0 0) gets says done_answer
    ∷ on 0 (read 0 1 (dot ∷ [])) gets gives 1 (0 ∷ [])
    ∷ []

-- "0 bytes is a lawful result and settles all the same." [R-4.4]
unfoldable pub expected_read_none : List Exchange
expected_read_none =
    three_begun
    ++ on 0 (read 0 0 []) gets gives 0 []
    ∷ []

-- A forged transaction whose descriptor 0 stands so, the dirty ones being all or none.
unfoldable pub mixed : Standing → Bool → Txn
mixed z b = record { standing = λ d. cond (eqb d 0) z Untouched; dirty = λ d. b; writes = [] }

-- Whether descriptor d is dirty after a step; a refused one leaves everything.
unfoldable pub dirty_after : Stepped → ℕ → Bool
dirty_after (refuse n) d = false
dirty_after (accept y a buffer) d = y.dirty d

-- A Read of 0 bytes through 1, all descriptors of one file: 0, Deferred and clean, is settled beside 1.
unfoldable pub read_beside : Stepped
read_beside = result (λ i. 0) (step (λ d. 0) (read 1 0 []) (mixed (Deferred 1) false))

-- F-6, "Read and GetFilePointer of a stale transaction are now refused" [R-8.2]; "18 when the transaction is
-- stale, after 6 and before 7" [R-16.1]: T0 is stale by the offset of 1, and its write on 0 would run past
-- the end (12). 18 comes whatever the standing: 0 stands Deferred, 1 Known, 2 Moved, 3 Placed, 4 Untouched.
-- Its Seeks, its Writes and its list of places go on.
unfoldable pub expected_refused_when_stale : List Exchange
expected_refused_when_stale =
    three_begun
    ++ on 0 (get_file_pointer 1) gets says (pointer 0)
    ∷ on 0 (write 0 (A ∷ [])) gets says done_answer
    ∷ on 0 (write 2 (A ∷ [])) gets says done_answer
    ∷ on 0 (seek 2 9) gets says done_answer
    ∷ on 0 (seek 3 5) gets says done_answer
    ∷ on 1 (seek 0 4096) gets says done_answer
    ∷ on 1 (seek 1 0) gets says done_answer
    ∷ commits 1 gets says (granted 1)
    ∷ on 0 (read 16 2 (dot ∷ [])) gets refuses_with 6 (dot ∷ [])
    ∷ on 0 (get_file_pointer 16) gets says (refused 6)
    ∷ on 0 (read 0 2 (dot ∷ [])) gets refuses_with 18 (dot ∷ [])
    ∷ on 0 (read 0 1 (dot ∷ [])) gets refuses_with 18 (dot ∷ [])
    ∷ on 0 (read 15 0 []) gets refuses_with 18 []
    ∷ on 0 (get_file_pointer 0) gets says (refused 18)
    ∷ on 0 (get_file_pointer 1) gets says (refused 18)
    ∷ on 0 (get_file_pointer 2) gets says (refused 18)
    ∷ on 0 (get_file_pointer 3) gets says (refused 18)
    ∷ on 0 (get_file_pointer 4) gets says (refused 18)
    ∷ on 0 (get_file_pointer 15) gets says (refused 18)
    ∷ on 0 (seek 3 7) gets says done_answer
    ∷ on 0 (write 3 (B ∷ [])) gets says done_answer
    ∷ places 0 3 (replicate 4 dot) gets lists 1 (0 ∷ 7 ∷ 0 ∷ 1 ∷ [])
    ∷ []

-- "it stays open until Commit or Abort" [R-8.2]: T0 is stale by byte 0. "how many became stale by it that
-- were not so before" [R-9.9]: T2's commit makes no other stale.
unfoldable pub expected_stays_open : List Exchange
expected_stays_open =
    two_zeros
    ++ three_begun
    ++ on 0 (seek 0 0) gets says done_answer
    ∷ on 0 (read 0 1 (dot ∷ [])) gets gives 1 (0 ∷ [])
    ∷ on 1 (seek 8 0) gets says done_answer
    ∷ on 1 (write 8 (Z ∷ [])) gets says done_answer
    ∷ commits 1 gets says (granted 1)
    ∷ on 0 (read 0 1 (dot ∷ [])) gets refuses_with 18 (dot ∷ [])
    ∷ begin 0 gets says (refused 5)
    ∷ on 2 (seek 8 0) gets says done_answer
    ∷ on 2 (write 8 (Y ∷ [])) gets says done_answer
    ∷ commits 2 gets says (granted 0)
    ∷ []

-- Placed is never sighted.
unfoldable pub expected_placed_unsighted : List Exchange
expected_placed_unsighted =
    three_begun
    ++ on 0 (seek 0 0) gets says done_answer
    ∷ on 0 (get_file_pointer 0) gets says (pointer 0)
    ∷ on 1 (seek 0 5) gets says done_answer
    ∷ commits 1 gets says (granted 0)
    ∷ []

-- Descriptor 15, of file 7 as 7 is, is settled by a Read as any other.
unfoldable pub expected_fifteen : List Exchange
expected_fifteen =
    three_begun
    ++ on 0 (write 15 (A ∷ [])) gets says done_answer
    ∷ on 0 (seek 7 0) gets says done_answer
    ∷ on 0 (read 7 1 (dot ∷ [])) gets gives 1 (A ∷ [])
    ∷ []

-- "A call's sightings are listed settled offsets first, by descriptor, then bytes by place" [R-7.3]: 0 and 8
-- stand Deferred.
unfoldable pub expected_in_order : List Exchange
expected_in_order =
    two_zeros
    ++ three_begun
    ++ on 0 (write 0 []) gets says done_answer
    ∷ on 0 (write 8 []) gets says done_answer
    ∷ on 0 (read 8 2 (dot ∷ dot ∷ [])) gets gives 2 (0 ∷ 0 ∷ [])
    ∷ []

-- A descriptor that stands Known is not sighted again.
unfoldable pub expected_known_once : List Exchange
expected_known_once =
    two_zeros
    ++ three_begun
    ++ on 0 (read 0 1 (dot ∷ [])) gets gives 1 (0 ∷ [])
    ∷ on 0 (read 0 1 (dot ∷ [])) gets gives 1 (0 ∷ [])
    ∷ []

-- F-1: "sorted by offset; touching stretches are joined and none is empty" [R-15.1]: 5 and 6, and 7 through
-- 8, are one interval, 9 is another, and the write of 0 bytes at 12 is none. "16 when the buffer is shorter
-- than the list, last" [R-16.1]: by one byte. "the rest of it is left" [R-15.2]
unfoldable pub expected_places : List Exchange
expected_places =
    three_begun
    ++ on 0 (seek 0 9) gets says done_answer
    ∷ on 0 (write 0 (X ∷ [])) gets says done_answer
    ∷ on 0 (seek 8 7) gets says done_answer
    ∷ on 0 (write 8 (C ∷ [])) gets says done_answer
    ∷ on 0 (seek 0 5) gets says done_answer
    ∷ on 0 (write 0 (A ∷ B ∷ [])) gets says done_answer
    ∷ on 0 (seek 0 12) gets says done_answer
    ∷ on 0 (write 0 []) gets says done_answer
    ∷ places 0 0 (replicate 7 dot) gets refuses_with 16 (replicate 7 dot)
    ∷ places 0 0 (replicate 9 dot) gets lists 2 (0 ∷ 5 ∷ 0 ∷ 3 ∷ 0 ∷ 9 ∷ 0 ∷ 1 ∷ dot ∷ [])
    ∷ places 0 1 [] gets lists 0 []
    ∷ []

-- F-4, "bit t (worth 2 to the power t) for each transaction that this commit made stale and that was not so
-- before" [R-9.9]: 1, 2 and 7, and then 0 alone, as those three were stale before.
unfoldable pub expected_octet : List Exchange
expected_octet =
    three_begun
    ++ begin 7 gets says done_answer
    ∷ on 1 (get_file_pointer 0) gets says (pointer 0)
    ∷ on 2 (get_file_pointer 0) gets says (pointer 0)
    ∷ on 7 (get_file_pointer 0) gets says (pointer 0)
    ∷ on 0 (seek 0 3) gets says done_answer
    ∷ commits 0 gets says (granted 134)
    ∷ begin 0 gets says done_answer
    ∷ on 0 (get_file_pointer 0) gets says (pointer 3)
    ∷ begin 3 gets says done_answer
    ∷ on 3 (seek 0 4) gets says done_answer
    ∷ commits 3 gets says (granted 1)
    ∷ []

-- F-8: "A Read that gave fewer bytes than wanted sights the length" [R-7.1]: T0's gives nothing. T1 writes
-- from place 1 on, so that the length is 2 and byte 0 is set by nobody: run alone T0 would now sight byte 0,
-- whose setter is 0 as the length's was; entries of unlike kind differ.
unfoldable pub expected_nothing_given : List Exchange
expected_nothing_given =
    three_begun
    ++ on 0 (seek 0 0) gets says done_answer
    ∷ on 0 (read 0 1 (dot ∷ [])) gets gives 0 (dot ∷ [])
    ∷ []

unfoldable pub expected_nothing_given_stale : List Exchange
expected_nothing_given_stale =
    expected_nothing_given
    ++ on 1 (seek 8 1) gets says done_answer
    ∷ on 1 (write 8 (X ∷ [])) gets says done_answer
    ∷ commits 1 gets says (granted 1)
    ∷ commits 0 gets says (refused 13)
    ∷ []

-- A Read that ends at an own write sights the length too.
unfoldable pub expected_own_end : List Exchange
expected_own_end =
    three_begun
    ++ on 0 (seek 0 0) gets says done_answer
    ∷ on 0 (write 0 (A ∷ B ∷ [])) gets says done_answer
    ∷ on 0 (seek 0 0) gets says done_answer
    ∷ on 0 (read 0 3 (dot ∷ dot ∷ dot ∷ [])) gets gives 2 (A ∷ B ∷ dot ∷ [])
    ∷ []

-- A Read that gave all the bytes wanted sights no length: T1 may raise it.
unfoldable pub expected_full_read : List Exchange
expected_full_read =
    two_zeros
    ++ three_begun
    ++ on 0 (seek 0 0) gets says done_answer
    ∷ on 0 (read 0 2 (dot ∷ dot ∷ [])) gets gives 2 (0 ∷ 0 ∷ [])
    ∷ on 1 (seek 8 2) gets says done_answer
    ∷ on 1 (write 8 (X ∷ [])) gets says done_answer
    ∷ commits 1 gets says (granted 0)
    ∷ []

-- A Read of 0 bytes wanted sights none either, wherever it starts.
unfoldable pub expected_none_wanted : List Exchange
expected_none_wanted =
    three_begun
    ++ on 0 (seek 0 9) gets says done_answer
    ∷ on 0 (read 0 0 []) gets gives 0 []
    ∷ []

-- "gives nothing from beyond it" [R-6.2]: the offset stays, the length is sighted, after the bytes of the
-- call. The Seek is lawful, and so is a Write there: "Bytes between an old end and a write come from the
-- file" [R-1.1].
unfoldable pub expected_beyond : List Exchange
expected_beyond =
    two_zeros
    ++ three_begun
    ++ on 0 (seek 0 1) gets says done_answer
    ∷ on 0 (read 0 2 (dot ∷ dot ∷ [])) gets gives 1 (0 ∷ dot ∷ [])
    ∷ on 0 (seek 0 4) gets says done_answer
    ∷ on 0 (read 0 1 (dot ∷ [])) gets gives 0 (dot ∷ [])
    ∷ on 0 (get_file_pointer 0) gets says (pointer 4)
    ∷ on 0 (write 0 (A ∷ [])) gets says done_answer
    ∷ on 0 (seek 0 2) gets says done_answer
    ∷ on 0 (read 0 3 (dot ∷ dot ∷ dot ∷ [])) gets gives 3 (0 ∷ 0 ∷ A ∷ [])
    ∷ []

-- Own writes that have no place yet do not count; a Read places those of its file first.
unfoldable pub own_write : Place → List ℕ → List Write
own_write place bytes = record { descriptor = 0; place = place; bytes = bytes } ∷ []

unfoldable pub expected_deferred_end : List Exchange
expected_deferred_end =
    three_begun
    ++ on 0 (write 0 (A ∷ B ∷ [])) gets says done_answer
    ∷ on 0 (seek 8 0) gets says done_answer
    ∷ on 0 (read 8 2 (dot ∷ dot ∷ [])) gets gives 2 (A ∷ B ∷ [])
    ∷ []

-- GetFilePointer settles its own descriptor alone: 8, of the same file, stays Deferred.
unfoldable pub expected_pointer_alone : List Exchange
expected_pointer_alone =
    three_begun
    ++ on 0 (write 8 (A ∷ [])) gets says done_answer
    ∷ on 0 (get_file_pointer 0) gets says (pointer 0)
    ∷ places 0 0 [] gets says (refused 15)
    ∷ []

-- F-8, "Each file gets a committed length" [R-1.1]: file 0 has two bytes, file 1 none, and each is sighted
-- for itself.
unfoldable pub expected_other_length : List Exchange
expected_other_length =
    two_zeros
    ++ three_begun
    ++ on 0 (seek 1 0) gets says done_answer
    ∷ on 0 (read 1 1 (dot ∷ [])) gets gives 0 (dot ∷ [])
    ∷ []

-- "The run stops before the first call that meets one of 6 to 12" [R-17.6]: run alone on what T1 leaves, T0
-- stops before its GetFilePointer, which would settle past the end; the second list is empty, the first is
-- not, and T0 is stale.
unfoldable pub expected_stops_alone : List Exchange
expected_stops_alone =
    three_begun
    ++ on 0 (write 0 (A ∷ [])) gets says done_answer
    ∷ on 0 (get_file_pointer 0) gets says (pointer 1)
    ∷ on 1 (seek 0 4096) gets says done_answer
    ∷ commits 1 gets says (granted 1)
    ∷ commits 0 gets says (refused 13)
    ∷ []

-- A run in isolation whose second call is refused: the third is not made, and it did not get through.
unfoldable pub halfway : Lone
halfway = lone (λ d. d) (record { value = λ i. 4; setter = λ i. 3 })
    (get_file_pointer 0 ∷ get_file_pointer 16 ∷ get_file_pointer 1 ∷ []) empty

-- A store, forged: 0 is to commit with the offset of descriptor 0 set, and 1, 2 and 7 have settled that
-- offset; of them 1 is closed and 2 is stale.
unfoldable pub stands_so : Standing → Bool → Transaction
stands_so z dirty = with_descriptors (record { standing = z; dirty = dirty } ∷ []) begun

unfoldable pub settled_by_three : Machine
settled_by_three =
    let x = stands_so (Known 0) false in
    let ts = stands_so (Placed 5) true ∷ with_begun false x ∷ with_stale true x ∷ replicate 4 begun
    ++ (x ∷ []) in
    lent (with_transactions ts (fresh_store [])) [] [] [] [] []

abbrev pub stale_after : ℕ → Bool
stale_after u = (after_commit 0 (settings_of settled_by_three 0) settled_by_three u).stale

-- A store, forged: transaction 1 has two writes, of one byte and of two. "transaction t's part starting at
-- 4,096 × t" [R-2.1]: its log starts behind that of 0, and the data of the second write lie behind those of
-- the first.
unfoldable pub logged_by_one : Machine
logged_by_one =
    let first : WriteRecord = record { descriptor = 2; place = At 5; length = 1 } in
    let second : WriteRecord = record { descriptor = 3; place = After 7; length = 2 } in
    lent (with_transactions (ended ∷ with_used (record { records = 2; bytes = 3 }) begun ∷ []) (fresh_store []))
    (with_record_at (with_record_at (replicate 1728 0) 1 0 first) 1 1 second) []
    (replicate 4096 dot ++ A ∷ B ∷ C ∷ dot ∷ []) [] []

-- What situations k and l and the edge cases come to, together.
pub record EdgeCases (x : Seen) : Type 0 where
  pub k : Goes x expected_k × (sightings_of (calls_of expected_k) 0 ≡ sighted (byte 4095) 1
      ∷ sighted (file_length 0) 1 ∷ [])
  pub l : Goes x expected_l
  pub refused_settling : Goes x expected_refused_settling
      × (sightings_of (calls_of expected_refused_settling) 1 ≡ [])
  pub moved : Goes x expected_moved × (sightings_of (calls_of expected_moved) 0 ≡ sighted (offset 8) 0 ∷ [])
  pub neighbour : Goes x expected_neighbour
      × (sightings_of (calls_of expected_neighbour) 0 ≡ sighted (byte 0) 1 ∷ [])
  pub read_none : Goes x expected_read_none
      × (sightings_of (calls_of expected_read_none) 0 ≡ sighted (offset 0) 0 ∷ [])
  -- Deferred and clean, or Untouched and dirty, sets nothing; 12 at Commit tests both. Deferred and dirty is
  -- set.
  pub mixtures :
      (settings (λ d. 0) (λ i. 4096) (mixed (Deferred 1) false) ≡ [])
      × (settings (λ d. 0) (λ i. 4096) (mixed Untouched true) ≡ [])
      × (fits (λ i. 4096) (mixed (Deferred 1) false) ≡ false)
      × (settings (λ d. 0) (λ i. 7) (mixed (Deferred 1) true) ≡ record { item = offset 0; to = 8 } ∷ [])
  pub settled_stays_clean : (dirty_after read_beside 0 ≡ false) × (dirty_after read_beside 1 ≡ true)
  pub refused_when_stale : Goes x expected_refused_when_stale
      × (sightings_of (calls_of expected_refused_when_stale) 0 ≡ sighted (offset 1) 0 ∷ [])
  pub stays_open : Goes x expected_stays_open
      × (sightings_of (calls_of expected_stays_open) 0 ≡ sighted (byte 0) 1 ∷ [])
  pub placed_unsighted : Goes x expected_placed_unsighted
      × (sightings_of (calls_of expected_placed_unsighted) 0 ≡ [])
  pub fifteen : Goes x expected_fifteen
      × (sightings_of (calls_of expected_fifteen) 0 ≡ sighted (offset 15) 0 ∷ [])
  pub in_order :
      Goes x expected_in_order
      × (sightings_of (calls_of expected_in_order) 0
      ≡ sighted (offset 0) 1
      ∷ sighted (offset 8) 0
      ∷ sighted (byte 0) 1
      ∷ sighted (byte 1) 1
      ∷ [])
  pub known_once :
      Goes x expected_known_once
      × (sightings_of (calls_of expected_known_once) 0 ≡ sighted (offset 0) 1 ∷ sighted (byte 0) 1
      ∷ sighted (byte 1) 1 ∷ [])
  pub listed_places : Goes x expected_places × (sightings_of (calls_of expected_places) 0 ≡ [])
  pub octet : Goes x expected_octet × (former_numbers expected_octet ≡ 3 ∷ 1 ∷ [])
  pub nothing_given : Goes x expected_nothing_given
      × (sightings_of (calls_of expected_nothing_given) 0 ≡ sighted (file_length 0) 0 ∷ [])
  pub nothing_given_stale :
      Goes x expected_nothing_given_stale
      × (x.value (calls_of expected_nothing_given_stale) (file_length 0) ≡ 2)
      × (beginning (x.value (calls_of expected_nothing_given_stale)) 0 2 ≡ 0 ∷ X ∷ [])
  pub own_ending : Goes x expected_own_end
      × (sightings_of (calls_of expected_own_end) 0 ≡ sighted (file_length 0) 0 ∷ [])
  pub full_read :
      Goes x expected_full_read
      × (sightings_of (calls_of expected_full_read) 0 ≡ sighted (byte 0) 1 ∷ sighted (byte 1) 1 ∷ [])
      × (x.value (calls_of expected_full_read) (file_length 0) ≡ 3)
  pub none_wanted : Goes x expected_none_wanted × (sightings_of (calls_of expected_none_wanted) 0 ≡ [])
  pub beyond :
      Goes x expected_beyond
      × (sightings_of (calls_of expected_beyond) 0
      ≡ sighted (byte 1) 1
      ∷ sighted (file_length 0) 1
      ∷ sighted (file_length 0) 1
      ∷ sighted (byte 2) 0
      ∷ sighted (byte 3) 0
      ∷ [])
  pub deferred_end :
      Goes x expected_deferred_end
      × (own_end (λ d. 0) 0 (own_write (After 3) (A ∷ B ∷ [])) ≡ 0)
      × (own_end (λ d. 0) 0 (own_write (At 3) (A ∷ B ∷ [])) ≡ 5)
      × (own_end (λ d. 0) 0 (own_write (At 3) []) ≡ 0)
      × (own_end (λ d. 0) 1 (own_write (At 3) (A ∷ B ∷ [])) ≡ 0)
  pub pointer_alone : Goes x expected_pointer_alone
      × (sightings_of (calls_of expected_pointer_alone) 0 ≡ sighted (offset 0) 0 ∷ [])
  pub other_length : Goes x expected_other_length
      × (sightings_of (calls_of expected_other_length) 0 ≡ sighted (file_length 1) 0 ∷ [])
  pub stops_alone : Goes x expected_stops_alone
  pub stops_halfway :
      (halfway.through ≡ false) × (halfway.replies ≡ says (pointer 4) ∷ [])
      × (halfway.seen ≡ sighted (offset 0) 3 ∷ [])
      × (halfway.txn.standing 1 ≡ Untouched)
  -- "Every other open transaction that has sighted .. is stale from then on" [R-8.1], and the answer has
  -- those "not so before" [R-9.9]: 7 alone.
  pub three_settled :
      (stale_after 0 ≡ false) × (stale_after 1 ≡ false) × (stale_after 2 ≡ true) × (stale_after 3 ≡ false)
      × (stale_after 7 ≡ true)
      × (after_commit 0 (settings_of settled_by_three 0) settled_by_three 0 ≡ ended)
      × (bits_of (made_stale 0 (settings_of settled_by_three 0) settled_by_three) 8 ≡ 128)
      × (former_number 0 settled_by_three ≡ 1)
  pub log_part :
      (txn_of logged_by_one.store logged_by_one.journal logged_by_one.logs 1).writes
      ≡ record { descriptor = 2; place = At 5; bytes = A ∷ [] }
      ∷ record { descriptor = 3; place = After 7; bytes = B ∷ C ∷ [] }
      ∷ []
