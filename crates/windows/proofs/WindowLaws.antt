-- A minute of the day is at most 1,439; the two cases of src/lib.rt decide whether a minute lies in the window.
use mathlib.Core.{Bool.{Bool, true, false, ◌&&◌, ◌||◌}, Path.{◌≡◌, refl}}
use lib.Dec.{leb, ltb, eqb}
use Prim.Native.Nat.{ℕ, ◌≤◌, ◌<◌}
use native.Mathlib.Omega.{arith}
use borrow.Author.Tests.{leb-true, leb-false, eqb-true, lt-ltb, le-ltb, ne_eqb}
use Rattle.limits.specs.Limits.{last_minute}
use Rattle.windows.specs.{declared.Window.Window, Windows.{minute_in, is_open_at}}

pub minute-most : (n : ℕ) → minute_in n ≡ true → n ≤ last_minute
minute-most n e = unfold minute_in in leb-true n last_minute e

module _ (w : Window) (minute : ℕ) where
  pub by_day : w.start < w.end → leb w.start minute && ltb minute w.end ≡ is_open_at w minute
  by_day l = unfold is_open_at in rw (ne_eqb w.start w.end (λ p. omega arith), lt-ltb w.start w.end l)

  pub by_night : w.end ≤ w.start → leb w.start minute || ltb minute w.end ≡ is_open_at w minute
  unfolding is_open_at
  by_night l = rw (le-ltb w.start w.end l) (pick (eqb w.start w.end) refl)
    where
      always : (b : Bool) → leb w.start minute ≡ b → w.start ≡ w.end → b || ltb minute w.end ≡ true
      always true e q = refl
      always false e q = let m = leb-false w.start minute e in lt-ltb minute w.end (omega arith)

      pick : (b : Bool) → eqb w.start w.end ≡ b
          → leb w.start minute || ltb minute w.end ≡ b || (leb w.start minute || ltb minute w.end)
      pick true e = always (leb w.start minute) refl (eqb-true w.start w.end e)
      pick false e = refl
