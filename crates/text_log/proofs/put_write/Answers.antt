-- Two numbers and a space; then the text, or another letter and the pairs.
use mathlib.Core.{Path.{sym, ◌∙◌}, List.{[], ◌∷◌}}
use native.Mathlib.Omega.{arith}
use Rattle.text_log.proofs.{Texts.length-joined, WriteTexts.{put-space, put-write-line, put-other-text}}
use Rattle.text_log.proofs.put_write.Goals as goal

pub put_byte-next-requires : goal.put_byte-next-requires
put_byte-next-requires c = let start = c in omega (
  arith,
  length-joined start.args.t (start.args.d ∷ []),
  c.put_numbers-end.ensures.end,
  start.requires.0,
)

pub overflow_add-after : goal.overflow_add-after
overflow_add-after c = let start = c in omega (
  arith,
  length-joined start.args.t (start.args.d ∷ []),
  c.put_numbers-end.ensures.end,
  c.put_byte-next.ensures.end,
  start.requires.1,
)

pub returns-then-is_text : goal.returns-then-is_text
returns-then-is_text c = let start = c in
    let spaced = put-space _ _ _ start.requires.0
    c.put_numbers-end.ensures
    c.put_byte-next.ensures in
    put-write-line start.args.t start.args.d start.args.bytes.now start.requires.0 start.requires.1 spaced
    c.copy_to.ensures (sym c.is_text.ensures
    ∙ c.if-is_text.true)

pub put_pairs-requires : goal.put_pairs-requires
put_pairs-requires c = let start = c in omega (
  arith,
  length-joined start.args.t (start.args.d ∷ []),
  c.put_numbers-end.ensures.end,
  c.put_byte-next.ensures.end,
  start.requires.0,
  start.requires.1,
)

pub returns : goal.returns
returns c = let start = c in
    let spaced = put-space _ _ _ start.requires.0 c.put_numbers-end.ensures c.put_byte-next.ensures in
    put-other-text start.args.t start.args.d start.args.bytes.now start.requires.0 start.requires.1 spaced
    c.put_byte.ensures c.put_pairs.ensures
    (sym c.is_text.ensures
    ∙ c.if-is_text.false)
