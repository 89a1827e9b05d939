-- Every definition of the rules that the situations compute with, opened under one name.
use mathlib.Core.Option as Option
use Rattle.buffers.specs.Bits as Bits
use Rattle.buffers.specs.Marks as Marks
use Rattle.windows.specs.Windows as FileWindows
use Rattle.admission.specs.FirstRefusal as FirstRefusal
use Rattle.admission.specs.Admission as Admission
use Rattle.spec.specs.Items as Items
use Rattle.standings.specs.Table as Table
use Rattle.spec.specs.Transactions as Transactions
use Rattle.spec.specs.Reading as Reading
use Rattle.spec.specs.Steps as Steps
use Rattle.spec.specs.Commits as Commits
use Rattle.spec.specs.Places as Places
use Rattle.spec.specs.Windows as Windows
use Rattle.buffers.specs.Parts as Parts
use Rattle.spec_undo.specs.OldBytes as OldBytes
use Rattle.state.specs.StoreMeaning as State
use Rattle.state.specs.Journal as Journal
use Rattle.spec.specs.Machine as Machine
use Rattle.spec.specs.Undo as Undo
use Rattle.spec.specs.Calls as Calls
use Rattle.spec.specs.Messages as Messages
use Rattle.spec.specs.Sightings as Sightings
use Rattle.spec.specs.LoneRuns as Lone
use Rattle.spec.specs.Plain as Plain
use Rattle.spec.specs.Grants as Grants
use Rattle.spec.specs.Setup as Setup

unfoldable pub opened : Type 0
unfolding FirstRefusal.below FirstRefusal.sum Admission.lengths_before Bits.bit Bits.bits_of Bits.count_of Marks.contains
    Items.same Items.and_then Items.result Items.asked Table.after_seek Table.after_write Table.after_read Table.settled
    Table.write_place Table.final_offset Transactions.empty Transactions.put Transactions.placed_at Transactions.place_write
    Transactions.settle Transactions.those Transactions.settling Reading.lies_over Reading.byte_at Reading.supplies
    Reading.or_else Reading.latest Reading.bring Reading.fetch Reading.write_end Reading.placed_end Reading.farthest
    Reading.own_end Reading.length_for Reading.length_sighted Reading.gather Messages.buffer_of Messages.answer_with
    Messages.refuse_turn Steps.check Steps.or_given_back Steps.total Steps.written Steps.seek_step Steps.write_step
    Steps.pointer_step Steps.settled_by_read Steps.read_settled Steps.read_step Steps.step Steps.descriptor_of_op Steps.is_read_call
    Steps.refuses_stale Steps.refused_stale FirstRefusal.unless Admission.window_refusal FileWindows.minute_in
    FileWindows.is_open_at FileWindows.is_closed_at Windows.is_for_closed Windows.for_closed Places.some_write Places.covers_place
    Places.covered Places.no_place Places.unplaced_on Places.unplaced Places.with_place Places.intervals_from Places.intervals_of
    Places.sixteen Places.encoded Places.places_refusal Places.places_reply Places.places_of Commits.lands_at Commits.bytes_from
    Commits.byte_settings Commits.sets_offset Commits.offset_settings Commits.landed_end Commits.length_settings Commits.settings
    Commits.fits Commits.put_item Commits.landed Commits.set_by Commits.commit_refusal Sightings.same_entry
    Sightings.same_entries Sightings.entries Plain.start_plain Plain.ops Plain.first_list Plain.second_list Plain.is_stale
    Plain.with_slot Plain.plain_begin Plain.plain_stepped Plain.plain_on Plain.committing Plain.grant Plain.stale_slot
    Plain.became_stale Plain.plain_committed Plain.plain_commit Plain.plain_abort Plain.plain_places Plain.plain_set_window
    Plain.with_number Plain.plain_call Messages.replies_to Messages.after_all Plain.is_running Plain.none_running
    Plain.plain_restore Plain.plain_undo Lone.stopped Lone.prepend Lone.go_on Lone.lone Grants.granted_by Grants.again_of
    Grants.rerun Grants.replies_of Grants.same_replies Grants.serial_of Grants.serial_from Grants.serial_by Grants.adding
    Grants.dropped_from Grants.but_last Option.Option-elim Messages.refusal_of Setup.numbers Setup.fresh_numbered Setup.on_plain
    Setup.committed_bytes Setup.beginning Setup.seen_in Setup.sightings_of Setup.former_in Setup.former_numbers Setup.three_begun
    Setup.calls_of Messages.is_grant Parts.tabulate Parts.cut Parts.pasted OldBytes.old_bytes OldBytes.restored State.begun
    State.ended Journal.decoded_as Journal.decoded Journal.write_record_at Journal.with_record_at Journal.with_records
    Machine.file_of Machine.values Machine.write_at Machine.data_start Machine.txn_of Undo.landing_of Undo.landed_record
    Undo.saving_undo Undo.span_of_record Undo.landed_on Undo.undone Calls.fresh_store Calls.has_sighted Calls.conflicts
    Calls.made_stale Calls.after_commit Calls.former_number
opened = Unit {0}
