-- What a program prints that works line by line, whatever it does with a line.
use Rattle.std.specs.Prelude.{List, [], ◌∷◌, ◌++◌, ◌≡◌, ℕ}
use Rattle.text_lines.specs.Lines.{truncated, completed_in, pending_after}

-- A program that works line by line (a Mealy machine): what it prints for a line, its state after it, and the
-- most bytes of a line.
pub record LineProgram (K : Type 0) : Type 0 where
  pub text : List ℕ → K → List ℕ
  pub next : List ℕ → K → K
  pub most : ℕ

-- A truncated line comes to the same as the whole line, however long that is.
pub record TruncatedIsEnough {K : Type 0} (p : LineProgram K) : Type 0 where
  pub text : (line : List ℕ) (k : K) → p.text (truncated p.most line) k ≡ p.text line k
  pub next : (line : List ℕ) (k : K) → p.next (truncated p.most line) k ≡ p.next line k

module _ {K : Type 0} (p : LineProgram K) where
  -- The text of lines, and the state after them.
  unfoldable pub transcript : List (List ℕ) → K → List ℕ
  transcript [] k = []
  transcript (l ∷ ls) k = p.text l k ++ transcript ls (p.next l k)

  unfoldable pub state_after : List (List ℕ) → K → K
  state_after [] k = k
  state_after (l ∷ ls) k = state_after ls (p.next l k)

-- ---- what the functions of a program promise

-- Lines were answered from k on: their text was added to the pending output, and k' is the state after them.
pub record Answered {K : Type 0} (p : LineProgram K) (lines : List (List ℕ)) (k : K) (waiting : List ℕ)
    (k' : K) (waiting' : List ℕ) : Type 0 where
  pub says : waiting' ≡ waiting ++ transcript p lines k
  pub keeps : k' ≡ state_after p lines k

-- In the middle of a piece of input: the state, what is pending of the current line, and the piece's rest.
pub record Under (K : Type 0) : Type 0 where
  pub state : K
  pub pending : List ℕ
  pub rest : List ℕ

abbrev pub within : {K : Type 0} → K → List ℕ → List ℕ → Under K
within k pending rest = record { state = k; pending = pending; rest = rest }

module _ {K : Type 0} (p : LineProgram K) where
  -- The text that the rest of the piece is to be answered, and where its end is reached.
  unfoldable pub to_come : Under K → List ℕ
  to_come u = transcript p (completed_in p.most u.pending u.rest) u.state

  unfoldable pub at_end : Under K → Under K
  at_end u =
      record {
        state = state_after p (completed_in p.most u.pending u.rest) u.state;
        pending = pending_after p.most u.pending u.rest;
        rest = [];
      }

-- From u to v some lines were answered: pending output and what is to come make the same text as before, and
-- the same end is reached.
pub record Passes {K : Type 0} (p : LineProgram K) (u : Under K) (waiting : List ℕ)
    (v : Under K) (waiting' : List ℕ) : Type 0 where
  pub says : waiting ++ to_come p u ≡ waiting' ++ to_come p v
  pub reaches : at_end p u ≡ at_end p v
