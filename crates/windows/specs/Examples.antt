-- The words of request F-11, computed: the last minute of the day, and each end of a window.
use Rattle.std.specs.Prelude.{true, false, ◌≡◌}
use Rattle.windows.specs.Windows.{minute_in, window, fresh_window, is_open_at}

pub record WindowExamples : Type 0 where
  pub minutes : (minute_in 1439 ≡ true) × (minute_in 1440 ≡ false)
  -- "start in, end out" [R-11.1]
  pub day :
      (is_open_at (window 600 1439) 599 ≡ false) × (is_open_at (window 600 1439) 600 ≡ true)
      × (is_open_at (window 600 1439) 1438 ≡ true) × (is_open_at (window 600 1439) 1439 ≡ false)
  -- "a start above the end runs over midnight" [R-11.1]
  pub night :
      (is_open_at (window 1380 60) 1379 ≡ false) × (is_open_at (window 1380 60) 1380 ≡ true)
      × (is_open_at (window 1380 60) 1439 ≡ true)
      × (is_open_at (window 1380 60) 0 ≡ true) × (is_open_at (window 1380 60) 59 ≡ true)
      × (is_open_at (window 1380 60) 60 ≡ false)
  -- "Fresh sets all to 0 and 0" [R-11.2], which "mean always open" [R-11.1].
  pub fresh :
      (fresh_window.start ≡ 0) × (fresh_window.end ≡ 0) × (is_open_at fresh_window 0 ≡ true)
      × (is_open_at fresh_window 1439 ≡ true)
  -- "equal ones mean always open" [R-11.1]
  pub always :
      (is_open_at (window 720 720) 719 ≡ true) × (is_open_at (window 720 720) 720 ≡ true)
      × (is_open_at (window 720 720) 721 ≡ true)
