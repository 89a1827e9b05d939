-- What a whole run puts out is the text of the lines of its input. Assumes nothing.
use mathlib.Core.{Bool.{Bool, true, false}, List.{List, [], ◌∷◌, ◌++◌, map, append_assoc, append-nil}}
use mathlib.Core.Path.{◌≡◌, refl, sym, ap, ap₂, ◌∙◌}
use native.Mathlib.Omega.{arith}
use Prim.Native.Nat.{ℕ, ◌<◌}
use Rattle.text_lines.specs.Lines.{lines_of, last_line, truncated, completed_in, pending_after, from_pieces, joined_pieces}
use Rattle.text_lines.specs.Programs.{LineProgram, TruncatedIsEnough, transcript, state_after, Answered, Under, within}
use Rattle.text_lines.specs.Programs.{to_come, at_end}
use Rattle.text_lines.specs.WholeRun.{Leg, input_of, output_of, through_pieces, PutOut, Legs, PiecesReach, LinesLead, WholeRun}
use Rattle.text_lines.proofs.Pieces.{pieces-are-the-whole}
use Rattle.text_lines.proofs.Passing.{transcript-append, state-append, none-to-come, end-reached}

pieces : List Leg → List (List ℕ)
pieces xs = map (λ x. x.piece) xs

pieces-joined : (xs : List Leg) → joined_pieces (pieces xs) ≡ input_of xs
unfolding pieces joined_pieces input_of
pieces-joined [] = refl
pieces-joined (x ∷ xs) = ap (λ (r : List ℕ). x.piece ++ r) (pieces-joined xs)

-- turns are left only where the run goes on
pub goes_on : (t : Bool) (n : ℕ) → (t ≡ false → n ≡ 0) → 0 < n → t ≡ true
goes_on true n none h = refl
goes_on false n none h = let e = none refl in absurd (omega (arith, e, h))

module _ {K : Type 0} (p : LineProgram K) where
  record Got (u : Under K) (texts : List (List ℕ)) (w : Under K) : Type 0 where
    says : to_come p u ≡ joined_pieces texts ++ to_come p w
    reaches : at_end p u ≡ at_end p w

  put-out : (u : Under K) (texts : List (List ℕ)) (w : Under K) → PutOut p u texts w → Got u texts w
  unfolding PutOut joined_pieces
  put-out u [] w e = record { says = ap (to_come p) e; reaches = ap (at_end p) e }
  put-out u (text ∷ texts) w h = let v = h.0 in let g = put-out v texts w h.1.1 in record {
    says = h.1.0.says ∙ ap (λ (x : List ℕ). text ++ x) g.says
        ∙ sym (append_assoc text (joined_pieces texts) (to_come p w));
    reaches = h.1.0.reaches ∙ g.reaches;
  }

  record LegsExpected (pending : List ℕ) (k : K) (xs : List Leg) (last : List ℕ) (k' : K) : Type 0 where
    says : output_of xs ++ last ≡ transcript p (from_pieces p.most pending (pieces xs)) k
    keeps : k' ≡ state_after p (from_pieces p.most pending (pieces xs)) k

  legs-expected : (pending : List ℕ) (k : K) (xs : List Leg) (last : List ℕ) (k' : K) → Legs p pending k xs last k'
      → LegsExpected pending k xs last k'
  unfolding Legs output_of pieces from_pieces to_come at_end
  legs-expected pending k [] last k' h = record { says = h.says; keeps = h.keeps }
  legs-expected pending k (x ∷ xs) last k' h = let w = h.0 in
      let g = put-out (within k pending x.piece) x.texts w h.1.1.0 in
      let ls = completed_in p.most pending x.piece in
      let rest = from_pieces p.most (pending_after p.most pending x.piece) (pieces xs) in
      let more = legs-expected w.pending w.state xs last k' h.1.1.1 in
      let text : joined_pieces x.texts ≡ transcript p ls k = sym (append-nil (joined_pieces x.texts))
      ∙ ap (λ (r : List ℕ). joined_pieces x.texts ++ r) (sym (none-to-come p w h.1.0)) ∙ sym g.says in
      let end : at_end p (within k pending x.piece) ≡ w = g.reaches ∙ end-reached p w h.1.0 in record {
        says = append_assoc (joined_pieces x.texts) (output_of xs) last ∙ ap₂ (λ (a b : List ℕ). a ++ b) text more.says
            ∙ ap (λ (v : Under K). transcript p ls k ++ transcript p (from_pieces p.most v.pending (pieces xs))
            v.state) (sym end) ∙ sym (transcript-append p ls rest k);
        keeps = more.keeps ∙ ap (λ (v : Under K). state_after p (from_pieces p.most v.pending (pieces xs)) v.state)
            (sym end) ∙ sym (state-append p ls rest k);
      }

  -- ---- where pieces lead

  through-more : (u : Under K) (ps : List (List ℕ)) (piece : List ℕ) → through_pieces p u (ps ++ (piece ∷ [])) ≡ at_end p
      (within (through_pieces p u ps).state (through_pieces p u ps).pending piece)
  unfolding through_pieces
  through-more u [] piece = refl
  through-more u (q ∷ ps) piece = through-more (at_end p (within u.state u.pending q)) ps piece

  pub reached-first : (k : K) → PiecesReach p k (within k [] [])
  reached-first k = unfold through_pieces in record { pieces = []; there = refl }

  pub reached-more : (k₀ k : K) (pending piece : List ℕ) (v : Under K) → PiecesReach p k₀ (within k pending [])
      → at_end p (within k pending piece) ≡ v → PiecesReach p k₀ v
  reached-more k₀ k pending piece v r e = record {
    pieces = r.pieces ++ (piece ∷ []);
    there = through-more (within k₀ [] []) r.pieces piece
        ∙ ap (λ (w : Under K). at_end p (within w.state w.pending piece)) r.there ∙ e;
  }

  through-lines : (k : K) (pending : List ℕ) (ps : List (List ℕ))
      → state_after p (from_pieces p.most pending ps) k ≡ state_after p
      (last_line (through_pieces p (within k pending []) ps).pending) (through_pieces p (within k pending []) ps).state
  unfolding through_pieces from_pieces at_end
  through-lines k pending [] = refl
  through-lines k pending (q ∷ ps) = let ls = completed_in p.most pending q in let h = pending_after p.most pending q in
      state-append p ls (from_pieces p.most h ps) k ∙ through-lines (state_after p ls k) h ps

  -- ---- each program that takes a truncated line as the whole line

  module _ (enough : TruncatedIsEnough p) where
    text-of-truncated : (ls : List (List ℕ)) (k : K) → transcript p (map (truncated p.most) ls) k ≡ transcript p ls k
    unfolding transcript
    text-of-truncated [] k = refl
    text-of-truncated (l ∷ ls) k = ap₂ (λ (t : List ℕ) (j : K). t ++ transcript p (map (truncated p.most) ls) j)
        (enough.text l k) (enough.next l k) ∙ ap (λ (x : List ℕ). p.text l k ++ x) (text-of-truncated ls (p.next l k))

    after-truncated : (ls : List (List ℕ)) (k : K) → state_after p (map (truncated p.most) ls) k ≡ state_after p ls k
    unfolding state_after
    after-truncated [] k = refl
    after-truncated (l ∷ ls) k =
        ap (state_after p (map (truncated p.most) ls)) (enough.next l k) ∙ after-truncated ls (p.next l k)

    pub whole_run : WholeRun p
    whole_run k legs last k' h = let told = legs-expected [] k legs last k' h in
        let lines = lines_of (joined_pieces (pieces legs)) in let cut = pieces-are-the-whole p.most (pieces legs) in
        record {
          says = told.says ∙ ap (λ (ls : List (List ℕ)). transcript p ls k) cut ∙ text-of-truncated lines k
              ∙ ap (λ (input : List ℕ). transcript p (lines_of input) k) (pieces-joined legs);
          keeps = told.keeps ∙ ap (λ (ls : List (List ℕ)). state_after p ls k) cut ∙ after-truncated lines k
              ∙ ap (λ (input : List ℕ). state_after p (lines_of input) k) (pieces-joined legs);
        }

    -- the end of the input
    pub ran : (k₀ k : K) (pending text : List ℕ) (k' : K) → PiecesReach p k₀ (within k pending [])
        → Answered p (last_line pending) k [] k' text → LinesLead p k₀ k'
    ran k₀ k pending text k' r a = record {
      input = joined_pieces r.pieces;
      keeps = a.keeps ∙ ap (λ (u : Under K). state_after p (last_line u.pending) u.state) (sym r.there)
          ∙ sym (through-lines k₀ [] r.pieces) ∙ ap (λ (ls : List (List ℕ)). state_after p ls k₀)
          (pieces-are-the-whole p.most r.pieces) ∙ after-truncated (lines_of (joined_pieces r.pieces)) k₀;
    }
