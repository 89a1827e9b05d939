-- A minute and a budget, and the transactions after them.
use Rattle.std.proofs.Common.{List, ℕ, sym, ◌∙◌, get_or}
use Rattle.std.proofs.lemmas.List.{take_rest}
use Rattle.spec.specs.Messages.{best_order}
use Rattle.text_log.specs.{LogLines.{calls}, Reading.{log_entry_of, written_by}}
use Rattle.text_log.proofs.ReadingLaws.{other-entry, short-order, order-of, no-octets, all-octets, many-within}
use Rattle.text_log.proofs.parsing.order_line.Goals as goal

pub returns-in_default : goal.returns-in_default
returns-in_default c = other-entry _ _ (short-order _ c.in_default.len_below)

pub returns-in_default-octets_of : goal.returns-in_default-octets_of
returns-in_default-octets_of c = other-entry _ _ (order-of c.args.numbers.now c.in-len2-up.len_at_least
    ∙ no-octets _ _ _ (rw (take_rest c.args.numbers.now 2) at c.octets_of.ensures.means) c.in_default-octets_of.is _)

pub returns : goal.returns
unfolding log_entry_of written_by
returns c = let ns = c.args.numbers.now in let e = c.octets_of.ensures in record {
  means = all-octets _ _ _ (rw (take_rest ns 2) at e.means) _ c.in-Some.is (λ (ts : List ℕ). calls (best_order ts (get_or ns 0 0) (get_or ns 1 0)))
      ∙ sym (order-of ns c.in-len2-up.len_at_least);
  bytes = many-within _ _ _ e.within c.in-Some.is;
}
