-- `rounds::run_round` meets its contract: its three parts, one after the other.
use Rattle.spec_dispatch.specs.Rounds.{round}
use Rattle.dispatcher.specs.Types.{scripts_of}
use Rattle.dispatcher.proofs.ScriptLaws.{scripts-eight}
use Rattle.dispatcher.proofs.rounds.run_round.Goals as goal

pub begin_all-requires : goal.begin_all-requires
begin_all-requires c = scripts-eight _ _ c.requires.0

pub commit_all-requires : goal.commit_all-requires
commit_all-requires c = (scripts-eight _ _ c.requires.0, c.requires.1)

pub returns : goal.returns
unfolding round scripts_of
returns c = let a =
    c.args in record {
      work = λ m₀ w s. c.commit_all.ensures.work _ _ _ m₀ _
          (c.make_passes-called.ensures a.minute _ m₀ _ (c.begin_all.ensures _ a.minute _ _ _ m₀ w s));
      few = c.commit_all.ensures.few;
    }
