-- Edge cases of requests F-11 and F-13 that no program shows: the serial order, setters and the count of
-- grants, what a grant saves. The others, and those of F-14, are lines of crates/replay/stdin, under their
-- names.
use Rattle.std.specs.Prelude.{true, false, List, [], ◌∷◌, ◌++◌, map, ◌≡◌, length, replicate, ℕ}
use Rattle.buffers.specs.Parts.{cut}
use Rattle.standings.specs.declared.Standing.TheVariants.{Untouched}
use Rattle.standings.specs.declared.Place.TheVariants.{At, After}
use Rattle.windows.specs.Windows.{window}
use Rattle.state.specs.StoreMeaning.{with_offsets, with_lengths}
use Rattle.state.specs.Journal.{last_grant, write_record_at}
use Rattle.state.specs.Outcomes.{done_answer, pointer, granted, refused}
use Rattle.spec.specs.Items.{offset}
use Rattle.spec.specs.Messages.{seek, write, get_file_pointer, Call, begin, on, commit, abort, set_window}
use Rattle.spec.specs.Messages.{undo_commit, says}
use Rattle.spec.specs.Transactions.{Txn}
use Rattle.spec.specs.Machine.{Machine, lent, with_store, with_files}
use Rattle.spec.specs.Undo.{saving_undo, undone}
use Rattle.spec.specs.Calls.{fresh_store}
use Rattle.spec.specs.Plain.{Plain, nothing, found, start_plain, plain_replies}
use Rattle.spec.specs.Grants.{serial_of, rerun, same_replies}
use Rattle.spec.specs.Setup.{Seen, Exchange, ◌gets◌, commits, calls_of, Goes, sighted}
use Rattle.spec.specs.Setup.{sightings_of, three_begun, A, B, C, X, Y, Z, dot}

-- "the serial order runs with Fresh's windows" [R-18.6], and each grant at its minute: file 0 is closed at
-- the start, is opened, and T0 is granted; run again from the windows found it would be refused with 21.
unfoldable pub closed_at_start : Plain
closed_at_start = start_plain (λ d. 0) (λ i. 0) (λ f. window 1 2) nothing

unfoldable pub opened_then : List Call
opened_then = set_window 0 0 0 ∷ begin 0 ∷ on 0 (write 0 (A ∷ [])) ∷ commit 0 5 ∷ []

-- "serial order is then over the grants not taken back" [R-18.6]: a machine that starts with 7s to restore,
-- and a list that undoes more than it granted.
unfoldable pub undo_at_start : Plain
undo_at_start = start_plain (λ d. 0) (λ i. 0) (λ f. window 0 0)
    (found (record { value = λ i. 7; setter = λ i. 0 }) 0)

unfoldable pub undo_twice : List Call
undo_twice = undo_commit ∷ begin 0 ∷ commit 0 0 ∷ begin 1 ∷ on 1 (seek 0 1) ∷ commit 1 0 ∷ undo_commit ∷ []

-- "The plain machine keeps the files, offsets, lengths, setters and count of grants that the last grant found
-- until it goes back to them" [R-17.5]: the second grant is undone, so that the offset is again set by the
-- first, and the next grant is again the second.
unfoldable pub expected_setters_back : List Exchange
expected_setters_back =
    begin 0 gets says done_answer
    ∷ on 0 (write 0 (A ∷ [])) gets says done_answer
    ∷ commits 0 gets says (granted 0)
    ∷ begin 0 gets says done_answer
    ∷ on 0 (write 0 (B ∷ [])) gets says done_answer
    ∷ commits 0 gets says (granted 0)
    ∷ undo_commit gets says done_answer
    ∷ begin 1 gets says done_answer
    ∷ on 1 (get_file_pointer 0) gets says (pointer 1)
    ∷ begin 0 gets says done_answer
    ∷ on 0 (seek 1 3) gets says done_answer
    ∷ commits 0 gets says (granted 0)
    ∷ on 1 (get_file_pointer 1) gets says (pointer 3)
    ∷ []

-- A store, forged, with three bytes in file 1, and what a grant of two writes saves of it: AB at place 0, and
-- C, which lies after the offset 1 of descriptor 1. The fourth buffer holds the bytes on which each landed,
-- from its front; the rest of it is left.
unfoldable pub two_writes : Txn
two_writes =
    record {
      standing = λ d. Untouched;
      dirty = λ d. false;
      writes =
          record { descriptor = 0; place = At 0; bytes = A ∷ B ∷ [] }
          ∷ record { descriptor = 1; place = After 0; bytes = C ∷ [] } ∷ [];
    }

unfoldable pub in_file_one : List ℕ → List ℕ
in_file_one bytes = replicate 4096 dot ++ bytes

unfoldable pub of_three_bytes : Machine
of_three_bytes =
    lent (with_offsets (0 ∷ 1 ∷ []) (with_lengths (0 ∷ 3 ∷ []) (fresh_store (1 ∷ 1 ∷ [])))) (replicate 1728 0)
    (in_file_one (X ∷ Y ∷ Z ∷ [])) [] [] (dot ∷ dot ∷ dot ∷ dot ∷ [])

abbrev pub undo_state_of : Machine
undo_state_of = saving_undo two_writes of_three_bytes

-- Once the writes have landed, offsets and lengths too, and all is undone.
abbrev pub undo_state_undone : Machine
undo_state_undone = undone (with_files (in_file_one (A ∷ C ∷ Z ∷ []))
    (with_store (with_offsets [] (with_lengths [] undo_state_of.store)) undo_state_of))

-- 01: "A granted Commit raises the count" [R-17.4]: neither the setting of a window nor an Abort nor a Commit
-- refused with 13 or 22 does.
unfoldable pub expected_only_grants_count : List Exchange
expected_only_grants_count =
    three_begun
    ++ set_window 7 0 0 gets says done_answer
    ∷ on 1 (get_file_pointer 0) gets says (pointer 0)
    ∷ on 0 (seek 0 5) gets says done_answer
    ∷ commits 0 gets says (granted 2)
    ∷ set_window 7 0 0 gets says done_answer
    ∷ abort 2 gets says done_answer
    ∷ commit 1 1440 gets says (refused 22)
    ∷ commits 1 gets says (refused 13)
    ∷ begin 0 gets says done_answer
    ∷ on 0 (seek 1 3) gets says done_answer
    ∷ commits 0 gets says (granted 0)
    ∷ begin 1 gets says done_answer
    ∷ on 1 (get_file_pointer 0) gets says (pointer 5)
    ∷ on 1 (get_file_pointer 1) gets says (pointer 3)
    ∷ []

-- What they come to, together.
pub record LaterEdgeCases (x : Seen) : Type 0 where
  pub fresh_windows :
      let s = serial_of opened_then closed_at_start in
      (map (λ g. g.minute) s.grants ≡ 5 ∷ [])
      × (plain_replies (rerun s.grants) s.start ≡ same_replies s.grants)
  pub start_goes_back :
      let s = serial_of undo_twice undo_at_start in
      (length s.grants ≡ 1) × (s.start.committed.value (offset 0) ≡ 7)
      × (plain_replies (rerun s.grants) s.start ≡ same_replies s.grants)
  pub setters_back :
      Goes x expected_setters_back × (sightings_of (calls_of expected_setters_back) 1 ≡ sighted (offset 0) 1
      ∷ sighted (offset 1) 2 ∷ [])
  pub undo_state :
      (undo_state_of.undo ≡ X ∷ Y ∷ B ∷ dot ∷ []) × (undo_state_of.files ≡ in_file_one (X ∷ Y ∷ Z ∷ []))
      × (undo_state_of.store.undo
      ≡ record {
        valid = true;
        used = record { records = 2; bytes = 3 };
        offsets = 0 ∷ 1 ∷ [];
        lengths = 0 ∷ 3
            ∷ [];
      })
      × (write_record_at undo_state_of.journal last_grant 1
      ≡ record { descriptor = 1; place = At 1; length = 1 })
  pub back :
      (cut undo_state_undone.files 4096 3 ≡ X ∷ Y ∷ Z ∷ []) × (undo_state_undone.store.offsets ≡ 0 ∷ 1 ∷ [])
      × (undo_state_undone.store.lengths ≡ 0 ∷ 3 ∷ [])
      × (undo_state_undone.store.undo.valid ≡ false) × (undo_state_undone.undo ≡ X ∷ Y ∷ B ∷ dot ∷ [])
  pub only_grants_count :
      Goes x expected_only_grants_count × (sightings_of (calls_of expected_only_grants_count) 1 ≡ sighted (offset 0) 1
      ∷ sighted (offset 1) 2 ∷ [])
