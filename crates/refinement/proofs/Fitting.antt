-- A standing in the ranges of refusal 2 has room in its two numbers of 16 bits.
use mathlib.Core.{Bool.true, Path.{◌≡◌, sym, ◌∙◌}}
use borrow.Author.Tests.{leb-true}
use lib.Dec.{leb}
use native.Mathlib.Omega.{arith}
use Rattle.limits.specs.Limits.{file_bytes}
use Rattle.standings.specs.{declared.Standing.Standing, Table.{advance, offset_of}}
use Rattle.state.specs.Updates.{StandingFits}
use Rattle.admission.{specs.Admission.standing_in, proofs.Laws.{and_left, and_right, standing-numbers}}

pub standing-fits : (z : Standing) → standing_in z ≡ true → StandingFits z
standing-fits z e = let both = sym (standing-numbers z) ∙ e in
    let a = leb-true (advance z) file_bytes (and_left (leb (advance z) file_bytes) (leb (offset_of z) file_bytes) both) in
    let o = leb-true (offset_of z) file_bytes (and_right (leb (advance z) file_bytes) (leb (offset_of z) file_bytes) both) in
    (omega arith, omega arith)
