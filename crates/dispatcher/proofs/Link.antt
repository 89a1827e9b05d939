-- The dispatcher's promise links it to the calls before and after it.
use mathlib.Core.Path.{◌≡◌, refl, ap, ◌∙◌}
use Prim.Native.Nat.{ℕ, zero, suc}
use Rattle.spec.specs.Messages.{refusal_of}
use Rattle.spec_dispatch.specs.Rounds.{refusal_in}
use Rattle.dispatcher.specs.{Promise.said_of, Link.DispatcherLinks}

refusal-said : (n : ℕ) → refusal_in (said_of n) ≡ n
unfolding refusal_in refusal_of said_of
refusal-said zero = refl
refusal-said (suc n) = refl

pub dispatcher-links : DispatcherLinks
dispatcher-links bytes minute x m reader a n buffer g = (
  record {
    refusal = ap refusal_in g.outcome ∙ refusal-said _;
    ends = g.ends;
    commits = g.commits;
    reader = g.reader;
  },
  g.machine,
)
