-- `found` has those of the transactions passed that pass the test.
use Rattle.std.proofs.Common.{Bool, ◌≡◌, ℕ, ◌<◌}
use Rattle.limits.specs.Limits.{transaction_count}
use Rattle.buffers.specs.Bits.{bits_of}
use Rattle.buffers.specs.contracts.transaction_sets.those.F-Fn.{words}
use Rattle.buffers.proofs.transaction_sets.those.Given as goal

abbrev pub invariant-loop-u : goal.invariant-loop-u
invariant-loop-u g l =
    (p : ℕ → Bool) → ((u : ℕ) (r : Bool) → u < transaction_count → (words g.row.F g.F.Fn).post l.test u r → r ≡ p u)
    → l.found ≡ bits_of p l.u
