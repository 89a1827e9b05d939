-- The edge cases hold: each is computed.
use mathlib.Core.Path.{refl}
use Rattle.spec.proofs.Examples.Opened.{opened}
use Rattle.spec_dispatch.specs.DispatchEdgeCases.{DispatchEdgeCases}
use Rattle.buffers.specs.Parts as Parts
use Rattle.spec_dispatch.specs.Rounds as Rounds
use Rattle.spec_dispatch.specs.Dispatch as Dispatch
use Rattle.spec_dispatch.specs.DispatchEdgeCases as Told

pub dispatch-edge-cases : DispatchEdgeCases
unfolding opened Parts.tabulate Parts.cut Rounds.part_in Rounds.script_in Rounds.scripts_in Rounds.goes_on Rounds.refusal_in
    Rounds.failing Rounds.or_failing Rounds.decided Rounds.op_of Rounds.reader_after Rounds.begins Rounds.perform Rounds.turn
    Rounds.turns Rounds.passes Rounds.commit_one Rounds.commit_all Rounds.round Rounds.rounds Rounds.dispatched
    Dispatch.work_on_plain Dispatch.reported Dispatch.not_started Dispatch.plain_dispatch Told.script_of Told.script_list
    Told.bytes Told.reader Told.expected Told.bytes_left Told.appends Told.adds Told.reads_own
dispatch-edge-cases = record {
  one = refl;
  two = refl;
  three = refl;
  most_commits = refl;
  in_order = refl;
  no_script = refl;
  no_call = refl;
  failing = refl;
  aborted = refl;
  nothing_open = refl;
  at_commit = refl;
  closed = refl;
  bad_minute = refl;
  second_round = refl;
  later = refl;
  same_turn = refl;
  later_turn = refl;
  opened = refl;
  eight = refl;
  nine = refl;
  sixteen = refl;
  seventeen = refl;
  part = refl;
  past = refl;
  past_empty = refl;
  beyond = (refl, refl, refl);
  undoes_last = (refl, refl);
}
