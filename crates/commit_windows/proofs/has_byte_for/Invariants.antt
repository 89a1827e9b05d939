-- `commit_windows::has_byte_for` meets its contract. The loop's invariant: none of the first k records has a byte for a file of
-- the octet.
use mathlib.Core.{Bool.{false}, Path.{◌≡◌}}
use Rattle.admission.{specs.FirstRefusal.some_below}
use Rattle.commit_windows.specs.WindowCheck.{record_has_byte_for}
use Rattle.commit_windows.proofs.has_byte_for.Given as goal

abbrev pub invariant-loop-k : goal.invariant-loop-k
invariant-loop-k l = some_below (record_has_byte_for l.state l.t l.octet) l.k ≡ false
