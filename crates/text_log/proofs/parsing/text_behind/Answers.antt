-- The tests before the text are those of `text_behind`.
use mathlib.Core.{Path.{◌≡◌, sym, ap, ◌∙◌}, List.List}
use Prim.Native.Nat.{ℕ, ◌+◌, ◌-◌}
use lib.{Seq.take_all, ListN.{length, drop, length-take, length-drop}}
use native.Mathlib.Omega.{arith}
use borrow.Author.Rules.{rules}
use Rattle.requests.specs.Requests.{call_of}
use Rattle.spec.specs.Messages.{on, write}
use Rattle.text_log.specs.{LogLines.{calls}, Reading.{log_entry_of, written_by}}
use Rattle.text_log.proofs.ReadingLaws.{other-entry, text-none, text-no-space, text-space, copied}
use Rattle.text_log.proofs.parsing.text_behind.Goals as goal

pub returns-then-line-at : goal.returns-then-line-at
returns-then-line-at c = other-entry _ _ (text-none _ _ _ _ c.if-line-at.true)

pub returns-then-line-at-ne32 : goal.returns-then-line-at-ne32
returns-then-line-at-ne32 c = other-entry _ _ (text-no-space _ _ _ _ c.if-line-at.false
    c.if-line-at-ne32.true)

pub returns : goal.returns
unfolding log_entry_of written_by call_of
returns c = let start = c in
    let line = start.args.line.now in let from = start.args.at + 1 in let n = length line - from in
    let text = drop from line in
    let k : length c.copy_to.new.dst ≡ length start.args.bytes.now = search rules in record {
      means = ap (λ (l : List ℕ). calls (on start.args.t (write start.args.d l)))
          (copied _ _ _ n c.copy_to.ensures (omega (arith, length-take n text, length-drop from line))
          ∙ take_all n text (omega (arith, length-drop from line)))
          ∙ sym (text-space _ _ _ _ c.if-line-at.false
          c.if-line-at-ne32.false);
      bytes = omega (arith, k, start.requires.0, start.requires.1);
    }
