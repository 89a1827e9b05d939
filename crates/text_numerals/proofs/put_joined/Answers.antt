-- The first number, then the others behind spaces.
use Rattle.std.proofs.Common.{◌-◌, ◌≡◌, arith, length, drop, length-drop}
use lib.ListN.{length-take}
use Rattle.text_numerals.proofs.PutLaws.{put-none, put-joined, length-number}
use Rattle.text_numerals.proofs.put_joined.Goals as goal

pub returns-in_default : goal.returns-in_default
returns-in_default c = put-none _ _ _ (omega arith)

pub put_number-next-requires : goal.put_number-next-requires
put_number-next-requires c = omega (arith, length-number c.from.result)

pub put_list-requires : goal.put_list-requires
put_list-requires c = let l = c.args.list.now in
    omega (arith, length-number c.from.result, length-drop 1 l, length-take (length l - 1) (drop 1 l))

pub returns : goal.returns
returns c = put-joined c.args.list.now _ (λ (e : length c.args.list.now ≡ 0). omega arith) c.requires c.from.ensures
    c.put_number-next.ensures c.put_list.ensures
