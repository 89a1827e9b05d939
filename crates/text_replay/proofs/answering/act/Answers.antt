-- `act` meets its contract. Assumes nothing.
use mathlib.Core.Path.{refl, ◌∙◌}
use native.Mathlib.Omega.{arith}
use Rattle.text_replay.proofs.TurnLaws.{comment-took, expects-took, version-took, another-took, calls-took}
use Rattle.text_replay.proofs.answering.act.Goals as goal

pub returns-in-Comment : goal.returns-in-Comment
returns-in-Comment c = let start = c in (
  record { pending = refl; at = refl; waiting = omega (arith, start.requires.0); answer = start.requires.1.0 },
  comment-took _ _ _ start.args.p _ _ c.in-Comment.is,
)

pub returns-in-Expects : goal.returns-in-Expects
returns-in-Expects c = let at-enum-told2 = c in
    let start = at-enum-told2 in (
      c.expect_line.ensures.0,
      expects-took _ _ _ start.args.p _ _ c.expect_line.result at-enum-told2.in-Expects.is
          c.expect_line.ensures.1,
    )

pub returns-in-Version : goal.returns-in-Version
returns-in-Version c = let at-said = c in let start = at-said in (
  c.take_version.ensures.0,
  version-took _ _ _ start.args.p _ _ c.take_version.result _ at-said.in-Version.is
      c.take_version.ensures.1,
)

pub returns-in-Another : goal.returns-in-Another
returns-in-Another c = let at-answer = c in
    let at-note-malformed = at-answer in
    let at-enum-told3 = at-note-malformed in
    let start = at-enum-told3 in let t = at-answer.answer.ensures in
    let q = at-note-malformed.note_malformed-q.ensures in (
      record {
        pending = t.0.pending ∙ q.0.pending;
        at = t.0.at ∙ q.0.at;
        waiting = t.0.waiting;
        answer = t.0.answer;
      },
      another-took _ _ _ start.args.p _ _ _ _ at-note-malformed.note_malformed-q.result
          at-enum-told3.in-Another.is q.1 t.1,
    )

pub returns-in-Fresh : goal.returns-in-Fresh
returns-in-Fresh c = let t = c.answer-in-Fresh.ensures in
    (t.0, calls-took _ _ _ c.args.p _ _ _ _ c.in-Fresh.is t.1)
