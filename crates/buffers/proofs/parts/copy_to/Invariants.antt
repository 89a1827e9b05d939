-- `buffers::parts::copy_to` meets its contract. The loop's invariant: the first i octets of src are pasted. Assumes nothing.
use mathlib.Core.{Path.◌≡◌}
use lib.ListN.{length, take}
use Rattle.buffers.specs.Parts.{pasted}
use Rattle.buffers.proofs.parts.copy_to.Given as goal

abbrev pub invariant-loop-i : goal.invariant-loop-i
invariant-loop-i l = (l.dst ≡ pasted l.initial.dst l.at (take l.i l.src)) × (length l.dst ≡ length l.initial.dst)
