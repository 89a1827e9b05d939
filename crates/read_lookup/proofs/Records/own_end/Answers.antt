-- `read_lookup::Records::own_end` meets its contract. The loop's invariant: `end` is the largest of the ends of the records passed.
use mathlib.Core.Path.{◌≡◌, sym, ap, ap₂, ◌∙◌}
use Prim.Native.Nat.{ℕ, max}
use Rattle.state.specs.Layout.{store_of}
use Rattle.read_lookup.specs.Lookup.{recorded_in, record_end}
use Rattle.read_lookup.proofs.RunLaws.{reach-none, reach-more}
use borrow.Author.Rules.{rules}
use Rattle.read_lookup.proofs.Records.own_end.Goals as goal

pub loop-k-init : goal.loop-k-init
loop-k-init c = let a = c.args in sym (reach-none (recorded_in a.self.now.state.now) a.self.now.t a.file 0)

pub loop-k-preserved : goal.loop-k-preserved
loop-k-preserved c = let a = c.args in let l = c.loop-k in
    let larger : c.max-end.result ≡ max l.end c.end_in.result = search rules in
    larger ∙ ap₂ (λ (m n : ℕ). max m n) l.invariant (c.end_in.ensures
    ∙ ap (record_end (store_of a.self.now.state.now).filenumbers a.file) c.get-w.ensures)
    ∙ sym (reach-more (recorded_in a.self.now.state.now) a.self.now.t a.file _ l.k)
