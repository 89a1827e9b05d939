-- Lines of a call log, and what they say.
use Rattle.std.specs.Prelude.{[], ◌∷◌, ◌≡◌, replicate}
use Prim.Native.String.{String}
use Rattle.text_trace.specs.Examples.{bytes_of_text}
use Rattle.spec.specs.Messages.{begin, on, commit, places, set_window, undo_commit, best_order, seek, write}
use Rattle.spec.specs.Messages.{get_file_pointer, read}
use Rattle.text_log.specs.LogLines.{LogEntry, another, comment, expects, version, fresh, calls, line_of}
use Rattle.text_log.specs.LogLines.{call_in}

abbrev pub entry_of_text : String → LogEntry
entry_of_text text = call_in (bytes_of_text text)

pub record LogExamples : Type 0 where
  pub started :
      (entry_of_text "F0 1 2 3 4 5 6 7 0 1 2 3 4 5 6 7"
      ≡ fresh (0 ∷ 1 ∷ 2 ∷ 3 ∷ 4 ∷ 5 ∷ 6 ∷ 7 ∷ 0 ∷ 1 ∷ 2 ∷ 3 ∷ 4 ∷ 5 ∷ 6 ∷ 7 ∷ []))
      × (entry_of_text "F" ≡ fresh [])
  pub committed :
      (entry_of_text "C0 600" ≡ calls (commit 0 600)) × (entry_of_text "C0" ≡ calls (commit 0 0))
      × (entry_of_text "C0 600 1" ≡ another)
      × (entry_of_text "C 0" ≡ another)
  pub written :
      (entry_of_text "X0 3 68690a" ≡ calls (on 0 (write 3 (104 ∷ 105 ∷ 10 ∷ []))))
      × (entry_of_text "W0 3 hi" ≡ calls (on 0 (write 3 (104 ∷ 105 ∷ []))))
      × (entry_of_text "X0 3 " ≡ calls (on 0 (write 3 []))) × (entry_of_text "X0 3" ≡ calls (on 0 (write 3 [])))
      × (entry_of_text "X0 3 6" ≡ another)
      × (entry_of_text "X0 3 6A" ≡ another) × (entry_of_text "W0 3" ≡ another)
  pub looked :
      (entry_of_text "R0 3 5 64" ≡ calls (on 0 (read 3 5 (replicate 64 0))))
      × (entry_of_text "L0 2 64" ≡ calls (places 0 2 (replicate 64 0)))
      × (entry_of_text "L0 2" ≡ another) × (entry_of_text "P0 3" ≡ calls (on 0 (get_file_pointer 3)))
  pub others :
      (entry_of_text "H2 480 1320" ≡ calls (set_window 2 480 1320)) × (entry_of_text "U" ≡ calls undo_commit)
      × (entry_of_text "U0" ≡ another)
      × (entry_of_text "U " ≡ another) × (entry_of_text "O600 40320 2 0 1"
      ≡ calls (best_order (2 ∷ 0 ∷ 1 ∷ []) 600 40320)) × (entry_of_text "O600" ≡ another)
  -- File numbers and the transactions of an order are octets.
  pub octet :
      (entry_of_text "F255" ≡ fresh (255 ∷ [])) × (entry_of_text "F256" ≡ another)
      × (entry_of_text "O600 40320 255" ≡ calls (best_order (255 ∷ []) 600 40320))
      × (entry_of_text "O600 40320 256" ≡ another)
  pub silent : (entry_of_text "# 14:02 jingle" ≡ comment) × (entry_of_text "" ≡ comment)
  -- Lines about the log itself.
  pub about_log :
      (entry_of_text "V1" ≡ version 1) × (entry_of_text "V2" ≡ version 2) × (entry_of_text "V" ≡ another)
      × (entry_of_text "= ok 2" ≡ expects) × (entry_of_text "=" ≡ another)
      × (entry_of_text "=ok" ≡ another)
  -- Numbers of 64 bits; zeros in front are read, and are not printed.
  pub wide :
      (entry_of_text "B18446744073709551615" ≡ calls (begin 18446744073709551615))
      × (entry_of_text "B18446744073709551616" ≡ another)
      × (entry_of_text "B00000000000000000007" ≡ calls (begin 7))
      × (entry_of_text "B000000000000000000007" ≡ another)
  pub printed :
      (line_of (on 0 (write 3 (104 ∷ 105 ∷ 10 ∷ []))) ≡ bytes_of_text "X0 3 68690a")
      × (line_of (on 0 (write 3 (bytes_of_text "hi ~"))) ≡ bytes_of_text "W0 3 hi ~")
      × (line_of (on 0 (write 3 [])) ≡ bytes_of_text "W0 3 ") × (line_of (commit 0 600) ≡ bytes_of_text "C0 600")
      × (line_of (on 18446744073709551615 (seek 0 100)) ≡ bytes_of_text "S18446744073709551615 0 100")
      × (line_of undo_commit ≡ bytes_of_text "U")
      × (line_of (best_order (2 ∷ 0 ∷ 1 ∷ []) 600 40320) ≡ bytes_of_text "O600 40320 2 0 1")
