-- In each arm the request is the arm's, and its line is what was put.
use lib.ListN.{length-replicate}
use Prim.Native.Nat.{ℕ}
use Rattle.text_numerals.specs.Decimal.{joined_texts}
use Rattle.requests.specs.Requests.{call_of}
use Rattle.text_log.specs.{LogLines.{line_of, op_line}, Recorded.request_line}
use Rattle.text_log.proofs.put_request.Goals as goal

pub returns-in-Begin : goal.returns-in-Begin
unfolding request_line line_of op_line call_of joined_texts
returns-in-Begin c = rw c.in-Begin.is c.put_numbers.ensures

pub returns-in-Seek : goal.returns-in-Seek
unfolding request_line line_of op_line call_of joined_texts
returns-in-Seek c = rw c.in-Seek.is c.put_numbers-in-Seek.ensures

pub returns-in-Write : goal.returns-in-Write
unfolding request_line line_of op_line call_of joined_texts
returns-in-Write c = rw c.in-Write.is c.put_front.ensures

pub returns-in-GetFilePointer : goal.returns-in-GetFilePointer
unfolding request_line line_of op_line call_of joined_texts
returns-in-GetFilePointer c = rw c.in-GetFilePointer.is c.put_numbers-in-GetFilePointer.ensures

pub returns-in-Read : goal.returns-in-Read
unfolding request_line line_of op_line call_of joined_texts
returns-in-Read c = rw (
  c.in-Read.is,
  length-replicate {A = ℕ} c.args.room 0,
) c.put_numbers-in-Read.ensures

pub returns-in-Places : goal.returns-in-Places
unfolding request_line line_of op_line call_of joined_texts
returns-in-Places c = rw (
  c.in-Places.is,
  length-replicate {A = ℕ} c.args.room 0,
) c.put_numbers-in-Places.ensures

pub returns-in-Commit : goal.returns-in-Commit
unfolding request_line line_of op_line call_of joined_texts
returns-in-Commit c = rw c.in-Commit.is c.put_numbers-in-Commit.ensures

pub returns-in-Abort : goal.returns-in-Abort
unfolding request_line line_of op_line call_of joined_texts
returns-in-Abort c = rw c.in-Abort.is c.put_numbers-in-Abort.ensures

pub returns-in-SetWindow : goal.returns-in-SetWindow
unfolding request_line line_of op_line call_of joined_texts
returns-in-SetWindow c = rw c.in-SetWindow.is c.put_numbers-in-SetWindow.ensures

pub returns-in-UndoCommit : goal.returns-in-UndoCommit
unfolding request_line line_of op_line call_of joined_texts
returns-in-UndoCommit c = rw c.in-UndoCommit.is c.put_byte.ensures
