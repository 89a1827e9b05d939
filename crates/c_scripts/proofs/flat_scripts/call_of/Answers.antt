-- `flat_scripts::call_of` meets its contract: in each arm the kind is the arm's.
use mathlib.Core.Path.{sym, ap}
use Rattle.std.proofs.Common.{ℕ, arith}
use Rattle.c_scripts.specs.FlatScripts.{flat_call_of}
use Rattle.c_scripts.proofs.RunLaws.{no_kind}
use Rattle.c_scripts.proofs.flat_scripts.call_of.Goals as goal

pub returns-in-0 : goal.returns-in-0
unfolding flat_call_of
returns-in-0 c = sym (ap (λ (k : ℕ). flat_call_of k c.args.d c.args.at c.args.n) c.in-0.is)

pub returns-in-1 : goal.returns-in-1
unfolding flat_call_of
returns-in-1 c = sym (ap (λ (k : ℕ). flat_call_of k c.args.d c.args.at c.args.n) c.in-1.is)

pub returns-in-2 : goal.returns-in-2
unfolding flat_call_of
returns-in-2 c = sym (ap (λ (k : ℕ). flat_call_of k c.args.d c.args.at c.args.n) c.in-2.is)

pub returns-in-3 : goal.returns-in-3
unfolding flat_call_of
returns-in-3 c = sym (ap (λ (k : ℕ). flat_call_of k c.args.d c.args.at c.args.n) c.in-3.is)

pub returns-in_default : goal.returns-in_default
returns-in_default c = no_kind c.args.kind _ _ _ (omega arith) (omega arith) (omega arith) (omega arith)
