-- `state::readers::tables_at_most` meets its contract.
use Rattle.state.specs.Layout.{file_numbers_at, offsets_at, lengths_at, starts_at}
use Rattle.buffers.{specs.Below.below}
use lib.{Dec.{leb, eqb}, ListN.get_or}
use Prim.Native.Nat.{◌+◌}
use mathlib.Core.{Bool.◌&&◌, Path.{◌≡◌}}
use Rattle.state.proofs.readers.tables_at_most.Given as goal

abbrev pub invariant-loop-k : goal.invariant-loop-k
invariant-loop-k l = (eqb l.bad 0 ≡ below (λ j.
    (leb (get_or l.state (file_numbers_at + j) 0) l.file && leb (get_or l.state (file_numbers_at + (8 + j)) 0) l.file) && (leb (get_or l.state
    (offsets_at + j) 0) l.offset && leb (get_or l.state (offsets_at + (8 + j)) 0) l.offset) && leb (get_or l.state (lengths_at + j) 0)
    l.length && (leb (get_or l.state (starts_at + j) 0) l.minute && leb (get_or l.state (starts_at + (8 + j)) 0) l.minute)) l.k)
