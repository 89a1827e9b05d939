-- `flat_scripts::scripts_of` meets its contract.
use lib.ListN.{get_or}
use Rattle.c_scripts.specs.FlatScripts.{scripts_from}
use Rattle.c_scripts.proofs.flat_scripts.scripts_of.Goals as goal

pub returns : goal.returns
unfolding scripts_from
returns c = λ i. record {
  lines = c.lines_of-lines.ensures i;
  counts = c.counts_of-counts.ensures i;
  count = get_or c.args.flat.now 520 0;
}
