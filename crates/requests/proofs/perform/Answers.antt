-- In each arm the request is the arm's, and its call's promise is what is promised.
use mathlib.Core.Path.{refl}
use borrow.Author.Rules.{rules}
use Rattle.spec.specs.Messages.{buffer_of, buffer_of_call}
use Rattle.requests.specs.{Requests.call_of, Performing.Unanswered}
use Rattle.requests.proofs.Laws.{performs-as}
use Rattle.requests.proofs.perform.Goals as goal

pub returns-in-Begin : goal.returns-in-Begin
unfolding call_of buffer_of_call buffer_of Unanswered
returns-in-Begin c = let called = c in let met = called.begin.ensures in (
  performs-as _ _ _ _ _ _ _ _ called.in-Begin.is
      (record { meets = met.0; unanswered = refl }),
  met.1,
)

pub returns-in-Seek : goal.returns-in-Seek
unfolding call_of buffer_of_call buffer_of Unanswered
returns-in-Seek c = let called = c in let met = called.seek.ensures in (
  performs-as _ _ _ _ _ _ _ _ called.in-Seek.is
      (record { meets = met.0; unanswered = refl }),
  met.1,
)

pub returns-in-Write : goal.returns-in-Write
unfolding call_of buffer_of_call buffer_of Unanswered
returns-in-Write c = let called = c in let met = called.write.ensures in (
  performs-as _ _ _ _ _ _ _ _ called.in-Write.is
      (record { meets = met.0; unanswered = refl }),
  met.1,
)

pub returns-in-GetFilePointer : goal.returns-in-GetFilePointer
unfolding call_of buffer_of_call buffer_of Unanswered
returns-in-GetFilePointer c = let called = c in let met = called.get_file_pointer.ensures in (
  performs-as _ _ _ _ _ _ _ _ called.in-GetFilePointer.is
      (record { meets = met.0; unanswered = refl }),
  met.1,
)

pub returns-in-Read : goal.returns-in-Read
unfolding call_of buffer_of_call buffer_of Unanswered
returns-in-Read c = let called = c in let met = called.read.ensures in (
  performs-as _ _ _ _ _ _ _ _ called.in-Read.is
      (record { meets = met.0; unanswered = tt }),
  met.1,
)

pub returns-in-Places : goal.returns-in-Places
unfolding call_of buffer_of_call buffer_of Unanswered
returns-in-Places c = let called = c in let met = called.places.ensures in (
  performs-as _ _ _ _ _ _ _ _ called.in-Places.is
      (record { meets = met.0; unanswered = tt }),
  met.1,
)

pub returns-in-Commit : goal.returns-in-Commit
unfolding call_of buffer_of_call buffer_of Unanswered
returns-in-Commit c = let called = c in let met = called.commit-outcome.ensures in (
  performs-as _ _ _ _ _ _ _ _ called.in-Commit.is
      (record { meets = met.0; unanswered = refl }),
  met.1,
)

pub returns-in-Abort : goal.returns-in-Abort
unfolding call_of buffer_of_call buffer_of Unanswered
returns-in-Abort c = let called = c in let met = called.abort.ensures in (
  performs-as _ _ _ _ _ _ _ _ called.in-Abort.is
      (record { meets = met.0; unanswered = refl }),
  met.1,
)

pub returns-in-SetWindow : goal.returns-in-SetWindow
unfolding call_of buffer_of_call buffer_of Unanswered
returns-in-SetWindow c = let called = c in let met = called.set_window.ensures in (
  performs-as _ _ _ _ _ _ _ _ called.in-SetWindow.is
      (record { meets = met.0; unanswered = refl }),
  met.1,
)

pub returns-in-UndoCommit : goal.returns-in-UndoCommit
unfolding call_of buffer_of_call buffer_of Unanswered
returns-in-UndoCommit c = let called = c in let met = called.undo_commit.ensures in (
  performs-as _ _ _ _ _ _ _ _ called.in-UndoCommit.is
      (record { meets = met.0; unanswered = refl }),
  met.1,
)
