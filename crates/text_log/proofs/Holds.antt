-- What specs/ states of a call log.
use Rattle.text_log.specs.Statements.{CallLogHolds}
use Rattle.text_log.proofs.{RoundTrip.{back, fresh-back}, Clipping.clipped, Cutting.{fresh-cut, order-cut}, Traces.traces}

pub call-log-holds : CallLogHolds
call-log-holds =
    record { back = back; fresh_back = fresh-back; clipped = clipped; fresh_cut = fresh-cut; order_cut = order-cut; traces = traces }
