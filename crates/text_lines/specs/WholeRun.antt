-- A whole run of a program that works line by line. What the operating system reads and writes is outside:
-- pieces of input come in, texts are handed over to be written. The theorem binds what the functions hand
-- over; whether
-- it is written no contract says, and a function that writes nothing would keep every contract.
use Rattle.std.specs.Prelude.{List, [], ◌∷◌, ◌++◌, ◌≡◌, ℕ}
use Rattle.text_lines.specs.Lines.{lines_of, last_line, joined_pieces}
use Rattle.text_lines.specs.Programs.{LineProgram, Under, within, Passes, Answered, at_end}
use Rattle.text_lines.specs.Programs.{transcript, state_after}

-- A piece of input, and the texts put out for it, until nothing of it is left.
pub record Leg : Type 0 where
  pub piece : List ℕ
  pub texts : List (List ℕ)

unfoldable pub input_of : List Leg → List ℕ
input_of [] = []
input_of (x ∷ xs) = x.piece ++ input_of xs

unfoldable pub output_of : List Leg → List ℕ
output_of [] = []
output_of (x ∷ xs) = joined_pieces x.texts ++ output_of xs

module _ {K : Type 0} (p : LineProgram K) where
  -- Where pieces of input lead, one after the other.
  unfoldable pub through_pieces : Under K → List (List ℕ) → Under K
  through_pieces u [] = u
  through_pieces u (piece ∷ pieces) = through_pieces (at_end p (within u.state u.pending piece)) pieces

  -- The texts put out one after the other, each with none pending before it.
  unfoldable pub PutOut : Under K → List (List ℕ) → Under K → Type 0
  PutOut u [] w = u ≡ w
  PutOut u (text ∷ texts) w = (v : Under K) × (Passes p u [] v text × PutOut v texts w)

  -- Pieces one after the other, each on what the one before left; last, the text of the line that the end of
  -- the input ends. k' is the state then.
  unfoldable pub Legs : List ℕ → K → List Leg → List ℕ → K → Type 0
  Legs pending k [] last k' = Answered p (last_line pending) k [] k' last
  Legs pending k (x ∷ xs) last k' =
      (w : Under K)
      × ((w.rest ≡ []) × (PutOut (within k pending x.piece) x.texts w
      × Legs w.pending w.state xs last k'))

-- Some pieces of input lead from k, with nothing pending, to u. That the pieces are those that were read is
-- not said: reading is outside.
pub record PiecesReach {K : Type 0} (p : LineProgram K) (k : K) (u : Under K) : Type 0 where
  pub pieces : List (List ℕ)
  pub there : through_pieces p (within k [] []) pieces ≡ u

-- The lines of some input lead from k to k'.
pub record LinesLead {K : Type 0} (p : LineProgram K) (k k' : K) : Type 0 where
  pub input : List ℕ
  pub keeps : k' ≡ state_after p (lines_of input) k

-- Proved in proofs/WholeRun.antt of each program that takes a truncated line as the whole line: what is
-- handed over to be written is the text of the lines of the input, however it was cut, and the state at the
-- end is what these lines leave.
pub record Whole {K : Type 0} (p : LineProgram K) (k : K) (legs : List Leg) (last : List ℕ)
    (k' : K) : Type 0 where
  pub says : output_of legs ++ last ≡ transcript p (lines_of (input_of legs)) k
  pub keeps : k' ≡ state_after p (lines_of (input_of legs)) k

abbrev pub WholeRun : {K : Type 0} → LineProgram K → Type 0
WholeRun {K} p =
    (k : K) (legs : List Leg) (last : List ℕ) (k' : K) → Legs p [] k legs last k' → Whole p k legs last k'
