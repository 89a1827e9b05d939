-- What a line of a log comes to, by what was parsed of it. Assumes nothing.
use mathlib.Core.{Bool.{Bool, true, false}, List.List, Path.{◌≡◌, refl, sym, ap, ◌∙◌}}
use lib.{IntN.{ℤ, pos}}
use Prim.Native.Nat.{ℕ}
use Rattle.state.specs.{Outcomes.Outcome, Outcomes.{done_answer, said}}
use Rattle.spec.specs.{Machine.Machine, Calls.{Turn, answer_with}, Promises.{Lent, handed, handed_back, LeftAsFound}}
use Rattle.text_log.specs.{LogLines.call_in, Reading.{log_entry_of, Says}, declared.parsing.ParsedEntry.ParsedEntry}
use Rattle.text_replay.specs.Performing.{turn_of, Replies}
use Rattle.c_codes.{specs.Codes.code_of, proofs.CodeLaws.answers}
use Rattle.c_replay.specs.ReplayLine.{asks_nothing, AsksNothing, line_rule, ReplaysLine}

module _ (line : List ℕ) (state files logs marks undo : Lent) (entry : ParsedEntry) (bytes : List ℕ) (b : Bool)
    (says : Says entry bytes (call_in line)) (asks : AsksNothing entry b) where
  abbrev m : Machine
  m = handed state files logs marks undo

  asked : asks_nothing (call_in line) ≡ b
  asked = sym (asks bytes ∙ ap asks_nothing says.means)

  nothing-turn : b ≡ true → line_rule (call_in line) m ≡ answer_with done_answer m
  nothing-turn e = unfold line_rule in rw (asked ∙ e) refl

  call-turn : b ≡ false → line_rule (call_in line) m ≡ turn_of (log_entry_of entry bytes) m
  call-turn e = unfold line_rule in rw (asked ∙ e, says.means) refl

  pub nothing-replayed : b ≡ true → handed_back state files logs marks undo ≡ m → state.exit ≡ state.entry
      → ReplaysLine line state files logs marks undo (pos 0)
  nothing-replayed e back left = unfold answer_with code_of in let w = nothing-turn e in record {
    answer = sym (ap (λ (x : Turn). code_of x.reply.answer) w);
    machine = back ∙ sym (ap (λ (x : Turn). x.after) w);
    buffer = refl;
    left = λ n q other. left;
  }

  pub call-replayed : (o : Outcome) (r : ℤ) (buffer : List ℕ) → b ≡ false → Replies (turn_of (log_entry_of entry bytes) m) o
      (handed_back state files logs marks undo) buffer → LeftAsFound o state.entry state.exit
      → r ≡ code_of (said o) → ReplaysLine line state files logs marks undo r
  call-replayed o r buffer e h left is = let w = call-turn e in
      answers (line_rule (call_in line)) state files logs marks undo o _ r (
        record {
          outcome = h.answer ∙ sym (ap (λ (x : Turn). x.reply.answer) w);
          machine = h.machine ∙ sym (ap (λ (x : Turn). x.after) w);
          reader = refl;
        },
        left,
      ) is
