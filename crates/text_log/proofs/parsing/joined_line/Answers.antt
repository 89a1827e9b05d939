-- No numbers, or those behind the letter.
use Rattle.std.proofs.Common.{sym, ◌∙◌, arith}
use Rattle.std.proofs.Math.Seq.{length-take-le}
use lib.ListN.{length-take}
use Rattle.text_log.specs.LogLines.{entry_asked}
use Rattle.text_log.proofs.ReadingLaws.{other-entry, entry-as-meant, counted-unread, counted-many, whole-none, whole-as, many-within}
use Rattle.text_log.proofs.ReadingLaws.{only_none, only-some}
use Rattle.text_log.proofs.parsing.joined_line.Goals as goal

pub returns-then-line-lt2 : goal.returns-then-line-lt2
returns-then-line-lt2 c = entry-as-meant _ _ _ _
    (whole-none (entry_asked c.args.letter) _ (only_none c.args.line.now c.if-line-lt2.true)) c.with_list.ensures

pub returns-in_default : goal.returns-in_default
returns-in_default c = other-entry _ _ (whole-as (entry_asked c.args.letter) _ _
    (only-some c.args.line.now c.if-line-lt2.false)
    ∙ counted-unread _ _ _ _ c.joined_numbers.ensures.means c.in_default.is)

pub with_list-requires-2 : goal.with_list-requires-2
with_list-requires-2 c = let e = c.joined_numbers.ensures in
    omega (arith, length-take c.in-Some.n c.joined_numbers.new.buffer, e.same_length)

pub slice_bounds-with_list-end-2 : goal.slice_bounds-with_list-end-2
slice_bounds-with_list-end-2 c = many-within _ _ _ c.joined_numbers.ensures.within c.in-Some.is

pub slice_bounds-with_list-end-3 : goal.slice_bounds-with_list-end-3
slice_bounds-with_list-end-3 c = sym (length-take-le c.in-Some.n c.joined_numbers.new.buffer
    (many-within _ _ _ c.joined_numbers.ensures.within c.in-Some.is))

pub returns : goal.returns
returns c = entry-as-meant _ _ _ _ (whole-as (entry_asked c.args.letter) _ _ (only-some c.args.line.now c.if-line-lt2.false)
    ∙ counted-many _ _ _ _ c.joined_numbers.ensures.means _ c.in-Some.is) c.with_list-2.ensures
