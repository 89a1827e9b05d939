-- `buffers::parts::copy_to` meets its contract. Assumes nothing.
use mathlib.Core.{Path.{◌≡◌, sym, ap, ◌∙◌}, List.List}
use Prim.Native.Nat.{ℕ, ◌+◌, ◌≤◌}
use native.Mathlib.{Numerals.add-one, Omega.arith}
use lib.{ListN.{length, take, get_or, set, length-set}, Seq.{length-take-le, take-suc, take_all}}
use Rattle.buffers.specs.Parts.{pasted}
use Rattle.buffers.proofs.PartLaws.{pasted-none, pasted-more}
use Rattle.buffers.proofs.parts.copy_to.Goals as goal

-- a turn's store
store : (d s : List ℕ) (at i : ℕ) → at + length s ≤ length d → i + 1 ≤ length s
    → set (pasted d at (take i s)) (at + i) (get_or s i 0) ≡ pasted d at (take (i + 1) s)
store d s at i fits h = let e : length (take i s) ≡ i = length-take-le i s (omega arith) in
    ap (λ (k : ℕ). set (pasted d at (take i s)) (at + k) (get_or s i 0)) (sym e)
    ∙ pasted-more d at (take i s) (omega arith) (get_or s i 0) (omega arith)
    ∙ ap (pasted d at) (sym (ap (λ (k : ℕ). take k s) (add-one i) ∙ take-suc s i 0 (omega arith)))

pub loop-i-init : goal.loop-i-init
loop-i-init c = (sym (pasted-none c.args.dst.now c.args.at), omega arith)

pub loop-i-preserved : goal.loop-i-preserved
loop-i-preserved c = let l = c.loop-i in let a = c.args in (
  ap (λ (d : List ℕ). set d (a.at + l.i) (get_or a.src.now l.i 0)) l.invariant.0
      ∙ store a.dst.now a.src.now a.at l.i (omega arith) (omega arith),
  length-set l.dst (a.at + l.i) (get_or a.src.now l.i 0) ∙ l.invariant.1,
)
