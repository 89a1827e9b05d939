-- What request F-1 says of the list. Assumes nothing.
use mathlib.Core.{Bool.{Bool, ◌&&◌}, Logic.⊎_elim, Path.{sym, ap, ◌∙◌}}
use native.Mathlib.Omega.{arith}
use borrow.Author.Tests.{lt-ltb, le-ltb}
use Rattle.limits.specs.Limits.{file_bytes}
use Rattle.buffers.proofs.PartLaws.{le-or-lt}
use Rattle.spec.specs.Places.{intervals_of, ListsItsPlaces, IsProper, OneList}
use Rattle.spec.proofs.Places.IntervalLaws.{proper-from, listed-from, listed-past, one_list}

pub lists-its-places : ListsItsPlaces
unfolding intervals_of
lists-its-places S p = ⊎_elim (λ h. listed-past S 0 file_bytes p (omega arith)
    ∙ sym (ap (λ (b : Bool). b && S p) (le-ltb p file_bytes h))) (λ h. listed-from S 0 file_bytes p (omega arith)
    (omega arith) ∙ sym (ap (λ (b : Bool). b && S p) (lt-ltb p file_bytes h))) (le-or-lt file_bytes p)

pub is-proper : IsProper
unfolding intervals_of
is-proper S = proper-from S 0 file_bytes

pub the-one-list : OneList
the-one-list l m x y same = one_list 0 l m x y same
