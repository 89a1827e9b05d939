-- One number, one space, then the bytes.
use Rattle.std.proofs.Common.{refl, sym, ◌∙◌, ◌≡◌, arith, get_or}
use Rattle.text_trace.specs.Parsing.{parsed_line, start_of}
use Rattle.text_trace.proofs.Laws.{writes_end, writes-other, writes-space, after-missing, after-number, other}
use Rattle.text_trace.proofs.write_line.Goals as goal

pub returns-in_err-d : goal.returns-in_err-d
returns-in_err-d c = rw c.from_residual.ensures (after-missing _ _ _ _ c.in_err-d.ensures refl)

pub returns-in_err-get : goal.returns-in_err-get
returns-in_err-get c = let h = c.in_err-get.ensures.lookup in rw c.from_residual-in_err-get.ensures
    (after-number _ _ _ _ c.in_ok-d.ensures _ _ refl (other _ _ (writes_end c.args.line.now c.in_ok-d.d.end _ (omega arith))))

pub returns-then-branch-ne32 : goal.returns-then-branch-ne32
returns-then-branch-ne32 c = let h = c.in_ok-get.ensures.lookup in after-number _ _ _ _ c.in_ok-d.ensures _ _ refl
    (other _ _ (writes-other _ _ _ h.3.0
    (λ (e : get_or c.args.line.now c.in_ok-d.d.end 0 ≡ 32). c.if-branch-ne32.true (h.3.1 0 ∙ e))))

pub returns : goal.returns
unfolding parsed_line start_of
returns c = let h = c.in_ok-get.ensures.lookup in after-number _ _ _ _ c.in_ok-d.ensures _ _ refl
    (record { means = sym (writes-space _ _ _ h.3.0 (sym (h.3.1 0) ∙ c.if-branch-ne32.false)); within = omega arith })
