-- The letter, the first number, and each other behind a space.
use Rattle.std.proofs.Common.{◌≡◌, ◌<◌, ◌≤◌, ◌∷◌, [], ◌++◌, arith, length, take, drop, get_or, append_assoc, length-append, length-drop}
use lib.ListN.{length-take}
use Rattle.std.proofs.lemmas.List.{take_rest, take_all}
use Rattle.text_numerals.specs.Decimal.{number_text, spaced_texts, joined_texts}
use Rattle.text_numerals.proofs.PutLaws.{then, append-none, length-number, length-texts, texts-more, joined-first}
use Rattle.text_log.proofs.ReadingLaws.{none-of}
use Rattle.text_log.proofs.put_numbers.Goals as goal

pub returns-in_default : goal.returns-in_default
unfolding joined_texts
returns-in_default c = rw (none-of c.args.numbers.now c.in_default.len_below) c.put_byte-next.ensures

pub put_number-next-requires : goal.put_number-next-requires
put_number-next-requires c = omega (arith, length-number (get_or c.args.numbers.now 0 0), c.put_byte-next.ensures.end)

pub loop-n-init : goal.loop-n-init
unfolding spaced_texts
loop-n-init c = let a = get_or c.args.numbers.now 0 0 in let k = length-number a in record {
  put = rw (append-none (number_text a)) (then (c.args.letter ∷ []) (number_text a) (omega arith) c.put_byte-next.ensures
      c.put_number-next.ensures);
  same_length = omega arith;
}

pub put_spaced-next-requires : goal.put_spaced-next-requires
put_spaced-next-requires c = let l = c.loop-n in let ns = c.args.numbers.now in let done = take l.n-index (drop 1 ns) in
    omega (
      arith,
      l.invariant.put.end,
      l.invariant.same_length,
      length-append (number_text (get_or ns 0 0)) (spaced_texts done),
      length-number (get_or ns 0 0),
      length-texts done,
      length-take l.n-index (drop 1 ns),
      length-drop 1 ns,
    )

pub loop-n-preserved : goal.loop-n-preserved
loop-n-preserved c = let l = c.loop-n in let ns = c.args.numbers.now in let i = l.n-index in let others = drop 1 ns in
    let a = number_text (get_or ns 0 0) in let done = spaced_texts (take i others) in
    let h : i < length others = rw (take_rest ns 1) at c.loop-n-test.true in let x = get_or others i 0 in
    let k = length-append a done in let n = length-number (get_or ns 0 0) in let m = length-number x in
    let t = length-texts (take i others) in let q = length-take i others in let d = length-drop 1 ns in record {
      put = rw (texts-more others i h, ← append_assoc a done (32 ∷ number_text x))
          (then (c.args.letter ∷ (a ++ done)) (32 ∷ number_text x) (omega arith) l.invariant.put
          (rw (take_rest ns 1) at c.put_spaced-next.ensures));
      same_length = omega (arith, l.invariant.same_length);
    }

pub returns : goal.returns
returns c = let l = c.loop-n in let ns = c.args.numbers.now in
    let all : length (drop 1 ns) ≤ l.n-index = rw (take_rest ns 1) at c.loop-n-test.false in
    let some : length ns ≡ 0 → ⊥ = λ e. omega arith in
    rw (joined-first ns some, ← take_all l.n-index (drop 1 ns) all) l.invariant.put
