-- The tests before a line is taken apart are those of `parsed` and `form`.
use Rattle.std.proofs.Common.{◌∙◌}
use Rattle.text_trace.proofs.Laws.{as-meant, other, form-short, form-other, form-digit, parsed-long, parsed-form}
use Rattle.text_trace.proofs.parse_line.Goals as goal

pub returns-then-line-gt-TRACE_LINE_BYTES : goal.returns-then-line-gt-TRACE_LINE_BYTES
returns-then-line-gt-TRACE_LINE_BYTES c = other _ _ (parsed-long _ c.if-line-gt-TRACE_LINE_BYTES.true)

pub returns-in_default : goal.returns-in_default
returns-in_default c = other _ _ (parsed-form _ c.if-line-gt-TRACE_LINE_BYTES.false ∙ form-short _ c.in_default.len_below)

pub returns-in_err-digit : goal.returns-in_err-digit
returns-in_err-digit c = rw c.from_residual.ensures (other _ _ (parsed-form _ c.if-line-gt-TRACE_LINE_BYTES.false
    ∙ form-other _ c.in-len2-up.len_at_least c.in_err-digit.ensures))

pub returns : goal.returns
returns c = let d = c.in_ok-digit.ensures in as-meant _ _ _ _ (parsed-form _ c.if-line-gt-TRACE_LINE_BYTES.false
    ∙ form-digit _ c.in-len2-up.len_at_least d.0 _ d.1.0) c.by_letter.ensures
