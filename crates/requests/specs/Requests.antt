-- The calls that requests stand for.
use Rattle.std.specs.Prelude.{List, ℕ}
use Rattle.spec.specs.Messages.{Call, begin, on, commit, abort, places, set_window, undo_commit, seek, write}
use Rattle.spec.specs.Messages.{get_file_pointer, read}
use Rattle.requests.specs.declared.Request.{Request}
use Rattle.requests.specs.declared.Request.TheVariants.{Begin, Seek, Write, GetFilePointer, Read}
use Rattle.requests.specs.declared.Request.TheVariants.{Places, Commit, Abort, SetWindow, UndoCommit}

-- The call of a request, with the bytes of a Write and the buffer for an answer.
unfoldable pub call_of : Request → List ℕ → List ℕ → Call
call_of (Begin t) bytes reader = begin t
call_of (Seek t d v) bytes reader = on t (seek d v)
call_of (Write t d) bytes reader = on t (write d bytes)
call_of (GetFilePointer t d) bytes reader = on t (get_file_pointer d)
call_of (Read t d n) bytes reader = on t (read d n reader)
call_of (Places t f) bytes reader = places t f reader
call_of (Commit t minute) bytes reader = commit t minute
call_of (Abort t) bytes reader = abort t
call_of (SetWindow f start end) bytes reader = set_window f start end
call_of UndoCommit bytes reader = undo_commit
