-- `luzhanem_parts_replay_line` meets its contract: the code of what the line's turn answers. Assumes nothing.
use mathlib.Core.Path.{refl, ◌∙◌}
use Rattle.c_codes.proofs.CodeLaws.{read_back}
use Rattle.c_replay.proofs.{LineLaws.{nothing-replayed, call-replayed}}
use Rattle.c_replay.proofs.luzhanem_parts_replay_line.Goals as goal

pub returns-then-asks_nothing : goal.returns-then-asks_nothing
returns-then-asks_nothing c = let at-asks = c in let at-parse = at-asks in
    nothing-replayed _ _ _ _ _ _ _ _ _ at-parse.parse_entry-said.ensures at-asks.asks_nothing.ensures c.if-asks_nothing.true
    refl refl

pub returns : goal.returns
returns c = let at-perform = c in
    let at-if1 = at-perform in
    let at-asks = at-if1 in let at-parse = at-asks in
    let done = at-perform.perform_line-a.ensures.1 in
    call-replayed _ _ _ _ _ _ _ _ _ at-parse.parse_entry-said.ensures at-asks.asks_nothing.ensures _ _ _
    at-if1.if-asks_nothing.false done.0 done.1 (read_back _ c.code.type_inv ∙ c.code.ensures)
