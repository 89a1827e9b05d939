-- Whom a commit would make stale, read off the state and the marks.
use Rattle.std.specs.Prelude.{Bool, true, not, ◌&&◌, List, ◌≡◌, eqb, ℕ, ◌<◌}
use Rattle.limits.specs.Limits.{file_count, descriptor_count, transaction_count}
use Rattle.buffers.specs.Bits.{bits_of}
use Rattle.buffers.specs.Parts.{tabulate}
use Rattle.buffers.specs.Marks.{contains}
use Rattle.state.specs.StoreMeaning.{standing_at}
use Rattle.state.specs.Layout.{transaction_of, store_of, journal_of}
use Rattle.standings.specs.Table.{is_known}
use Rattle.spec.specs.Items.{Values}
use Rattle.spec.specs.Commits.{Setting, offset_settings, length_settings}
use Rattle.spec.specs.Machine.{Machine, file_of, values, write_at}
use Rattle.spec.specs.Calls.{conflicts, made_stale, settings_of}
use Rattle.commit_apply.specs.Apply.{descriptors_only}

-- F-4's octet, as a Commit of transaction t would answer it now, were it granted.
unfoldable pub stale_by : Machine → ℕ → ℕ
stale_by m t = bits_of (made_stale t (settings_of m t) m) transaction_count

-- The transactions that a commit of t can make stale: every other one that is open and not stale.
abbrev pub is_watched : List ℕ → ℕ → ℕ → Bool
is_watched state t u = not (eqb u t) && (transaction_of state u).begun && not (transaction_of state u).stale

-- r holds those of the watched transactions that have sighted one of the items of ss.
abbrev pub Sighters : List ℕ → List ℕ → ℕ → List Setting → ℕ → Type 0
Sighters state marks watched ss r =
    (u : ℕ) → u < transaction_count
    → contains r u ≡ contains watched u && conflicts marks u (transaction_of state u) ss

-- The offsets that a commit of transaction t sets, at committed values v; and the lengths that its first n
-- writes raise.
abbrev pub offsets_set_in : List ℕ → Values → ℕ → List Setting
offsets_set_in state v t = offset_settings v (descriptors_only (transaction_of state t)) descriptor_count

abbrev pub lengths_set_in : List ℕ → List ℕ → List ℕ → ℕ → ℕ → List Setting
lengths_set_in state files logs t n =
    let s = store_of state in
    length_settings (file_of s) (values s files) (tabulate (write_at (journal_of state) logs t) n) file_count

-- Transaction u is watched, and has settled the offset of descriptor d; and has sighted the length of file f.
abbrev pub knows_offset : List ℕ → ℕ → ℕ → ℕ → Bool
knows_offset state watched d u = contains watched u && is_known (standing_at (transaction_of state u) d)

abbrev pub knows_length : List ℕ → ℕ → ℕ → ℕ → Bool
knows_length state watched f u = contains watched u && contains (transaction_of state u).lengthmarks f

-- None of the watched ones among the first n transactions has sighted a length.
abbrev pub NoneSighted : List ℕ → ℕ → ℕ → Type 0
NoneSighted state watched n = (u : ℕ) → u < n → contains watched u ≡ true → (transaction_of state u).lengthmarks
    ≡ 0
