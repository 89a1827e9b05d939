-- A byte ends the line, joins what is pending, or is let go; then the piece ends.
use Rattle.std.proofs.Common.{◌≡◌, ◌+◌, ◌-◌, ◌<◌, ◌≤◌, sym, ap, ◌∙◌, arith, List, ◌∷◌, [], ◌++◌, suc, ℕ, length, take, drop, get_or}
use Rattle.std.proofs.lemmas.Bool.{false≢true}
use lib.ListN.{length-set, drop_of_length-le}
use Rattle.text_lines.specs.{Lines.{truncated, completed_in, pending_after}, Scans.NextLine}
use Rattle.text_lines.proofs.Laws.{Same, scan-passed, scan-stopped, joins, let_go}
use Rattle.text_lines.proofs.next_line.Goals as goal
use Rattle.text_lines.proofs.next_line.Goals.{then-n-line, else-n-line}

pub returns-then-b-eq10 : goal.returns-then-b-eq10
unfolding NextLine
returns-then-b-eq10 c = let l = c.loop-i in let s = l.invariant.same in
    let f = scan-stopped (length c.args.line.now - 1) (take l.n l.line) c.args.piece.now l.i (omega arith) c.if-b-eq10.true in (
      (s.0 ∙ f.0, s.1 ∙ f.1),
      record {
        within = omega arith;
        onward = omega arith;
        inside = omega arith;
        past = λ e. omega arith;
        whole = λ e. absurd (false≢true (sym e));
      },
    )

pub loop-i-preserved : goal.loop-i-preserved
loop-i-preserved c = let l = c.loop-i in let p = c.args.piece.now in
    let most = length c.args.line.now - 1 in let b = get_or p l.i 0 in let s = l.invariant.same in
    let h : l.i < length p = omega arith in let q = scan-passed most (take l.n l.line) p l.i h c.if-b-eq10.false in
    let full : length l.line ≡ suc most = omega (arith, l.invariant.same_length) in
    let on : (pending : List ℕ) → truncated most (take l.n l.line ++ (b ∷ [])) ≡ pending
    → Same most (take c.args.pending c.args.line.now) (drop c.args.from p) pending (drop (l.i + 1) p) = λ pending j. (
      s.0 ∙ q.0 ∙ ap (λ (x : List ℕ). completed_in most x (drop (l.i + 1) p)) j,
      s.1 ∙ q.1 ∙ ap (λ (x : List ℕ). pending_after most x (drop (l.i + 1) p)) j,
    ) in
    elim c.if-n-line.branch [
      | then-n-line w ↦ rw (w.line-is, w.n-is) (record {
        room = omega arith;
        same_length = length-set l.line l.n b ∙ l.invariant.same_length;
        same = on _ (joins l.line l.n b most full w.if-n-line.true);
      })
      | else-n-line w ↦ rw (w.line-is, w.n-is) (record {
        room = omega arith;
        same_length = l.invariant.same_length;
        same = on _ (let_go l.line l.n b most full (omega arith) w.if-n-line.false);
      })
    ]

pub returns : goal.returns
unfolding NextLine completed_in pending_after
returns c = let l = c.loop-i in let p = c.args.piece.now in
    let most = length c.args.line.now - 1 in let s = l.invariant.same in
    let h : length p ≤ l.i = omega arith in let e = drop_of_length-le p h in (
      (s.0 ∙ ap (completed_in most (take l.n l.line)) e, s.1 ∙ ap (pending_after most (take l.n l.line)) e),
      record {
        within = omega arith;
        onward = omega arith;
        inside = omega arith;
        past = λ e. absurd (false≢true e);
        whole = λ e. omega arith;
      },
    )
