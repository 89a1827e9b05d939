-- The call of each request, computed: T 7, descriptor 3, the bytes 65 and 66, a buffer of one byte 46.
use Rattle.std.specs.Prelude.{[], ◌∷◌, ◌≡◌}
use Rattle.spec.specs.Messages.{Call, begin, on, commit, abort, places, set_window, undo_commit, seek, write}
use Rattle.spec.specs.Messages.{get_file_pointer, read}
use Rattle.requests.specs.declared.Request.{Request}
use Rattle.requests.specs.declared.Request.TheVariants.{Begin, Seek, Write, GetFilePointer, Read}
use Rattle.requests.specs.declared.Request.TheVariants.{Places, Commit, Abort, SetWindow, UndoCommit}
use Rattle.requests.specs.Requests.{call_of}

abbrev pub asks : Request → Call
asks q = call_of q (65 ∷ 66 ∷ []) (46 ∷ [])

pub record CallsEach : Type 0 where
  -- 01: "the calls Fresh, Begin, Seek, Write, GetFilePointer, Read, Commit, Abort" [R-1.8]; 02, F-11: "Commit
  -- takes the minute" [R-9.1].
  pub begins : asks (Begin 7) ≡ begin 7
  pub seeks : asks (Seek 7 3 5) ≡ on 7 (seek 3 5)
  pub writes : asks (Write 7 3) ≡ on 7 (write 3 (65 ∷ 66 ∷ []))
  pub looks : asks (GetFilePointer 7 3) ≡ on 7 (get_file_pointer 3)
  pub reads : asks (Read 7 3 5) ≡ on 7 (read 3 5 (46 ∷ []))
  pub commits : asks (Commit 7 600) ≡ commit 7 600
  pub aborts : asks (Abort 7) ≡ abort 7
  -- F-1: "for one open transaction and one file" [R-15.1]
  pub lists : asks (Places 7 3) ≡ places 7 3 (46 ∷ [])
  -- F-11: "A call sets a window" [R-11.2]: a file, its start and its end.
  pub windows : asks (SetWindow 3 600 700) ≡ set_window 3 600 700
  -- F-13: "Taking back the last grant." [R-12.1]
  pub back : asks UndoCommit ≡ undo_commit
