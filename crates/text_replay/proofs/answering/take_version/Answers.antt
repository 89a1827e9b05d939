-- `take_version` meets its contract. Assumes nothing.
use mathlib.Core.Path.{refl}
use native.Mathlib.Omega.{arith}
use Rattle.text_replay.proofs.TurnLaws.{known-version, other-version}
use Rattle.text_replay.proofs.answering.take_version.Goals as goal

pub returns-then-version-eq-VERSION : goal.returns-then-version-eq-VERSION
returns-then-version-eq-VERSION c = let start = c in (
  record { pending = refl; at = refl; waiting = omega (arith, start.requires.0); answer = start.requires.1.0 },
  known-version _ _ start.requires.1.1 c.if-version-eq-VERSION.true,
)

pub returns : goal.returns
returns c = let start = c in let a = start.requires.1.0 in (
  record {
    pending = refl;
    at = refl;
    waiting = omega (arith, start.requires.0);
    answer = record { starts = a.starts; ends = a.ends };
  },
  other-version start.args.p _ _ c.if-version-eq-VERSION.false refl refl refl refl refl refl,
)
