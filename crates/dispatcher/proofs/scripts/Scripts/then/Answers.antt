-- `scripts::Scripts::then` meets its contract.
use mathlib.Core.Path.{◌≡◌, refl}
use lib.ListN.{length}
use native.Mathlib.Omega.{arith}
use Rattle.dispatcher.specs.Types.{scripts_of}
use Rattle.dispatcher.proofs.ScriptLaws.{more-full, more-counted, more_added}
use borrow.Author.Rules.{rules}
use Rattle.dispatcher.proofs.scripts.Scripts.then.Goals as goal

pub returns-then-n-gt-SCRIPT_CALLS : goal.returns-then-n-gt-SCRIPT_CALLS
returns-then-n-gt-SCRIPT_CALLS c = unfold scripts_of in more-full _ _ _ c.if-n-gt-SCRIPT_CALLS.true

pub returns-then-n-lt-SCRIPT_CALLS : goal.returns-then-n-lt-SCRIPT_CALLS
returns-then-n-lt-SCRIPT_CALLS c = let a = c.args in let eight : length a.self.counts ≡ 8 = search rules in
    let long : length a.self.lines ≡ 128 = c.well_formed.0.1.1.0.1.0.1 in
    more_added a.self.lines a.self.counts a.self.count a.k _ a.call (omega arith) eight refl
    c.if-n-lt-SCRIPT_CALLS.true long

pub returns-else-n-lt-SCRIPT_CALLS : goal.returns-else-n-lt-SCRIPT_CALLS
returns-else-n-lt-SCRIPT_CALLS c = let a = c.args in let eight : length a.self.counts ≡ 8 = search rules in
    more-counted a.self.lines a.self.counts a.self.count a.k _ a.call (omega arith) eight refl
    (omega arith)
