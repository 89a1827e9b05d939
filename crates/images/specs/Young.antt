-- How the code puts an image's numbers w 0, w 1, .. into a state, and that it then means what they say.
-- The promises of the calls do not name this; those of the functions below them do.
use Rattle.std.specs.Prelude.{List, ◌≡◌, length, ℕ, zero, suc, ◌+◌}
use Rattle.windows.specs.Windows.{window}
use Rattle.state.specs.Layout.{is_set, store_of, journal_of, state_length}
use Rattle.state.specs.Updates.{with_file_number_at, with_offset_at, with_found_offset_at, with_length_at}
use Rattle.state.specs.Updates.{with_window_at}
use Rattle.state.specs.Updates.{with_found_length_at, with_undo_valid_at, with_undo_used_at}
use Rattle.images.specs.Images.{store_from, journal_from}

-- What `put` puts for 0, 1, .. below n.
unfoldable pub with_each : (ℕ → List ℕ → List ℕ) → ℕ → List ℕ → List ℕ
with_each put zero r = r
with_each put (suc n) r = put n (with_each put n r)

unfoldable pub put_descriptor : (ℕ → ℕ) → ℕ → List ℕ → List ℕ
put_descriptor w d r =
    with_found_offset_at (with_offset_at (with_file_number_at r d (w (1 + d))) d (w (17 + d))) d (w (60 + d))

unfoldable pub put_file : (ℕ → ℕ) → ℕ → List ℕ → List ℕ
put_file w f r =
    with_found_length_at (with_window_at (with_length_at r f (w (33 + f))) f (window (w (41 + f)) (w (49 + f)))) f
    (w (76 + f))

unfoldable pub with_last_grant : (ℕ → ℕ) → List ℕ → List ℕ
with_last_grant w r = with_undo_used_at (with_undo_valid_at r (is_set (w 57)))
    (record { records = w 58; bytes = w 59 })

-- A state that means what the numbers say.
pub record Young (w : ℕ → ℕ) (r : List ℕ) : Type 0 where
  pub long : length r ≡ state_length
  pub store : store_of r ≡ store_from w
  pub journal : journal_of r ≡ journal_from w
