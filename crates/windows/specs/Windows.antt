-- Request F-11, "Hours in which a file may change" [R-11.1]: the window of a file.
use Rattle.std.specs.Prelude.{Bool, cond, not, ◌&&◌, ◌||◌, leb, ltb, eqb, ℕ}
use Rattle.limits.specs.Limits.{last_minute}
use Rattle.windows.specs.declared.Window.{Window}

-- "Each file has a window of start and end minute, 0 to 1,439" [R-11.1]: whether a number is a minute of the
-- day.
unfoldable pub minute_in : ℕ → Bool
minute_in n = leb n last_minute

abbrev pub window : ℕ → ℕ → Window
window start end = record { start = start; end = end }

-- The window of each file.
abbrev pub Windows : Type 0
Windows = ℕ → Window

-- "Fresh sets all to 0 and 0." [R-11.2] This one also stands in an array of windows past its end.
abbrev pub fresh_window : Window
fresh_window = window 0 0

abbrev pub fresh_windows : Windows
fresh_windows f = fresh_window

-- "start in, end out; a start above the end runs over midnight, equal ones mean always open" [R-11.1]:
-- whether the minute lies in the window.
unfoldable pub is_open_at : Window → ℕ → Bool
is_open_at w minute =
    let from = leb w.start minute in
    let before = ltb minute w.end in
    eqb w.start w.end || cond (ltb w.start w.end) (from && before) (from || before)

-- "a file that is closed at its minute" [R-11.4]
unfoldable pub is_closed_at : Windows → ℕ → ℕ → Bool
is_closed_at windows minute f = not (is_open_at (windows f) minute)
