-- Laws of the way through a piece of input. Assumes nothing.
use mathlib.Core.{Bool.{Bool, true, false, cond, not, false≢true}, List.{List, [], ◌∷◌, ◌++◌, append_assoc}}
use mathlib.Core.Path.{◌≡◌, refl, sym, ap, ap₂, subst, subst⁻¹, ◌∙◌}
use lib.ListN.{take, drop}
use native.Mathlib.Omega.{arith}
use Prim.Native.Nat.{ℕ, suc, ◌-◌}
use Rattle.text_lines.specs.{Lines.{last_line, completed_in, pending_after}, Scans.NextLine}
use Rattle.text_lines.specs.Programs.{LineProgram, transcript, state_after, Answered, Under, within, to_come, at_end, Passes}

-- a test with `!`
pub off : (t : Bool) → not t ≡ true → t ≡ false
off true e = absurd (false≢true e)
off false e = refl

pub on : (t : Bool) → not t ≡ false → t ≡ true
on true e = refl
on false e = absurd (false≢true (sym e))

pub take_none : (n : ℕ) (xs : List ℕ) → n ≡ 0 → take n xs ≡ []
take_none n xs e = ap (λ (k : ℕ). take k xs) e

module _ {K : Type 0} (p : LineProgram K) where
  pub transcript-append : (ls rest : List (List ℕ)) (k : K)
      → transcript p (ls ++ rest) k ≡ transcript p ls k ++ transcript p rest (state_after p ls k)
  unfolding transcript state_after
  transcript-append [] rest k = refl
  transcript-append (l ∷ ls) rest k = ap (λ (x : List ℕ). p.text l k ++ x) (transcript-append ls rest (p.next l k))
      ∙ sym (append_assoc (p.text l k) (transcript p ls (p.next l k)) (transcript p rest (state_after p ls (p.next l k))))

  pub state-append : (ls rest : List (List ℕ)) (k : K) → state_after p (ls ++ rest) k ≡ state_after p rest (state_after p ls k)
  unfolding state_after
  state-append [] rest k = refl
  state-append (l ∷ ls) rest k = state-append ls rest (p.next l k)

  none_in : (pending rest : List ℕ) → rest ≡ [] → completed_in p.most pending rest ≡ []
  none_in pending rest e = unfold completed_in in ap (completed_in p.most pending) e

  pending-in : (pending rest : List ℕ) → rest ≡ [] → pending_after p.most pending rest ≡ pending
  pending-in pending rest e = unfold pending_after in ap (pending_after p.most pending) e

  -- a buffer of one byte more holds the truncated line
  pub of_room : (n : ℕ) (t : Bool) (pending rest line rest' : List ℕ) → n ≡ suc p.most
      → NextLine (n - 1) t pending rest line rest' → NextLine p.most t pending rest line rest'
  of_room n t pending rest line rest' e f = let m : n - 1 ≡ p.most = omega (arith, e) in
      subst (λ (k : ℕ). NextLine k t pending rest line rest') m f

  -- no line ends in the rest of the piece
  pub pending-passes : (t : Bool) (k : K) (pending rest line rest' waiting : List ℕ) → NextLine p.most t pending rest
      line rest' → t ≡ false → rest' ≡ [] → Passes p (within k pending rest) waiting (within k line rest') waiting
  unfolding NextLine to_come at_end
  pending-passes true k pending rest line rest' waiting f t e = absurd (false≢true (sym t))
  pending-passes false k pending rest line rest' waiting f t e = let none : completed_in p.most pending rest ≡ completed_in
      p.most line rest' = f.0 ∙ sym (none_in line rest' e) in record {
        says = ap (λ (ls : List (List ℕ)). waiting ++ transcript p ls k) none;
        reaches = ap₂ (λ (ls : List (List ℕ)) (h : List ℕ). within (state_after p ls k) h []) none (f.1
            ∙ sym (pending-in line rest' e));
      }

  -- the line that ends next was answered
  answer-line-passes : (k : K) (pending rest line rest' waiting : List ℕ) (k' : K) (waiting' : List ℕ)
      → NextLine p.most true pending rest line rest' → Answered p (line ∷ []) k waiting k' waiting'
      → Passes p (within k pending rest) waiting (within k' [] rest') waiting'
  unfolding NextLine to_come at_end
  answer-line-passes k pending rest line rest' waiting k' waiting' f a = let ls = completed_in p.most [] rest' in
      let one = transcript p (line ∷ []) k in let more = transcript p ls (state_after p (line ∷ []) k) in record {
        says = ap (λ (x : List (List ℕ)). waiting ++ transcript p x k) f.0
            ∙ ap (λ (x : List ℕ). waiting ++ x) (transcript-append (line ∷ []) ls k) ∙ sym (append_assoc waiting one more)
            ∙ ap₂ (λ (x : List ℕ) (j : K). x ++ transcript p ls j) (sym a.says) (sym a.keeps);
        reaches = ap₂ (λ (x : List (List ℕ)) (h : List ℕ). within (state_after p x k) h []) f.0 f.1
            ∙ ap (λ (j : K). within j (pending_after p.most [] rest') []) (state-append (line ∷ []) ls k
            ∙ ap (state_after p ls) (sym a.keeps));
      }

  -- as the code has it: the line is a part of the buffer, and nothing is pending after it
  pub answer-passes : (t : Bool) (k : K) (pending rest line rest' waiting : List ℕ)
      → NextLine p.most t pending rest line rest' → t ≡ true → (given : List ℕ) → given ≡ line
      → (k' : K) (waiting' : List ℕ) → Answered p (given ∷ []) k waiting k' waiting' → (pending' last : List ℕ)
      → pending' ≡ [] → last ≡ rest' → Passes p (within k pending rest) waiting (within k' pending' last) waiting'
  answer-passes t k pending rest line rest' waiting f y given g k' waiting' a pending' last h l = let f' : NextLine
      p.most true pending rest line rest' = subst (λ (b : Bool). NextLine p.most b pending rest line rest') y f in
      let a' : Answered p (line ∷ []) k waiting k' waiting' =
      subst (λ (x : List ℕ). Answered p (x ∷ []) k waiting k' waiting') g a in
      subst⁻¹ (λ (x : List ℕ). Passes p (within k pending rest) waiting (within k' x last) waiting') h
      (subst⁻¹ (λ (x : List ℕ). Passes p (within k pending rest) waiting (within k' [] x) waiting') l
      (answer-line-passes k pending rest line rest' waiting k' waiting' f' a'))

  pub passes-nothing : (u : Under K) (waiting : List ℕ) → waiting ≡ [] → Passes p u [] u waiting
  passes-nothing u waiting e = record { says = ap (λ (x : List ℕ). x ++ to_come p u) (sym e); reaches = refl }

  pub passes_on : (u v w : Under K) (a b c : List ℕ) → Passes p u a v b → Passes p v b w c → Passes p u a w c
  passes_on u v w a b c x y = record { says = x.says ∙ y.says; reaches = x.reaches ∙ y.reaches }

  -- nothing is to come where nothing of the piece is left
  pub none-to-come : (u : Under K) → u.rest ≡ [] → to_come p u ≡ []
  unfolding to_come transcript completed_in
  none-to-come u e = ap (λ (r : List ℕ). transcript p (completed_in p.most u.pending r) u.state) e

  pub end-reached : (u : Under K) → u.rest ≡ [] → at_end p u ≡ u
  unfolding at_end state_after completed_in pending_after
  end-reached u e = ap (λ (r : List ℕ). within (state_after p (completed_in p.most u.pending r) u.state)
      (pending_after p.most u.pending r) []) e ∙ ap (λ (r : List ℕ). within u.state u.pending r) (sym e)

  -- as the code has it: what is pending and the rest of the piece are parts of buffers
  pub end_same : (k k' : K) (line piece : List ℕ) (h h' a a' : ℕ) → k' ≡ k → h' ≡ h → a' ≡ a
      → at_end p (within k (take h line) (drop a piece)) ≡ at_end p (within k' (take h' line) (drop a' piece))
  end_same k k' line piece h h' a a' s e f = ap (λ (j : K). at_end p (within j (take h line) (drop a piece))) (sym s)
      ∙ ap₂ (λ (x y : ℕ). at_end p (within k' (take x line) (drop y piece))) (sym e) (sym f)

  pub end_of : (k : K) (pending rest : List ℕ) → rest ≡ [] → at_end p (within k pending rest) ≡ within k pending []
  end_of k pending rest e = end-reached (within k pending rest) e ∙ ap (λ (r : List ℕ). within k pending r) e

  -- the end of the input, with no line and with one: the rest is a part of the buffer
  pub no-last-line : (t : Bool) (k : K) (pending given waiting : List ℕ) → given ≡ pending
      → last_line given ≡ cond t (given ∷ []) [] → t ≡ false → waiting ≡ [] → Answered p (last_line pending) k [] k waiting
  no-last-line t k pending given waiting g l y z = unfold transcript state_after in
      let e : last_line pending ≡ [] = ap last_line (sym g) ∙ l ∙ ap (λ (b : Bool). cond b (given ∷ []) []) y in record {
        says = z ∙ ap (λ (ls : List (List ℕ)). transcript p ls k) (sym e);
        keeps = ap (λ (ls : List (List ℕ)). state_after p ls k) (sym e);
      }

  pub last_line_lem : (t : Bool) (k : K) (pending given : List ℕ) → given ≡ pending → last_line given ≡ cond t (given ∷ []) []
      → t ≡ true → (waiting : List ℕ) → waiting ≡ [] → (again : List ℕ) → again ≡ pending → (k' : K) (text : List ℕ)
      → Answered p (again ∷ []) k waiting k' text → Answered p (last_line pending) k [] k' text
  last_line_lem t k pending given g l y waiting z again j k' text a = let e : last_line pending ≡ again ∷ [] =
      ap last_line (sym g) ∙ l ∙ ap (λ (b : Bool). cond b (given ∷ []) []) y ∙ ap (λ (x : List ℕ). x ∷ []) (g ∙ sym j) in
      subst⁻¹ (λ (ls : List (List ℕ)). Answered p ls k [] k' text) e
      (subst (λ (w : List ℕ). Answered p (again ∷ []) k w k' text) z a)
