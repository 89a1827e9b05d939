-- What a whole run puts out is the text of the lines of its input, on the store and on the reference model. Assumes nothing.
use mathlib.Core.{List.{List, [], ◌∷◌, ◌++◌}, Path.{◌≡◌, refl, sym, ap, ◌∙◌}}
use lib.ListN.{get_or}
use Prim.Native.Nat.{ℕ}
use Rattle.text_trace.specs.Grammar.{Line, another, asks, parsed}
use Rattle.text_lines.{specs.{Lines.lines_of, Programs.transcript, WholeRun.input_of}, proofs.WholeRun.{whole_run as whole-lines}}
use Rattle.text_answers.specs.Printed.{printed}
use Rattle.state.specs.Outcomes.{refused}
use Rattle.requests.specs.Requests.{call_of}
use Rattle.spec.specs.{Messages.{Call, Reply, TurnOf, refuse_turn, after_all, replies_to}, Machine.Machine}
use Rattle.spec.specs.{Calls.{call, calls_after, calls_replies}, Plain.{Plain, fresh_plain, plain_call, plain_after, plain_replies}}
use Rattle.spec.{specs.SerializabilityOfStore.FreshlyMade, proofs.Theorems.Serializability.serializability}
use Rattle.trace.specs.Transcript.{mod_eight, reader_after_line, TraceState, trace_line_turn, tracing, store_trace}
use Rattle.trace.specs.WholeRun.{TraceWholeRun}
use Rattle.trace.proofs.TruncatedLines.{trace-truncated-is-enough}

last_reply : Reply → List Reply → Reply
last_reply r [] = r
last_reply r (x ∷ xs) = last_reply x xs

store-last : (cs : List Call) (c : Call) (m : Machine) (r : Reply)
    → last_reply r (calls_replies (cs ++ (c ∷ [])) m) ≡ (call c (calls_after cs m)).reply
unfolding last_reply after_all replies_to
store-last [] c m r = refl
store-last (x ∷ cs) c m r = store-last cs c (call x m).after (call x m).reply

plain-last : (cs : List Call) (c : Call) (p : Plain) (r : Reply)
    → last_reply r (plain_replies (cs ++ (c ∷ [])) p) ≡ (plain_call c (plain_after cs p)).reply
unfolding last_reply after_all replies_to
plain-last [] c p r = refl
plain-last (x ∷ cs) c p r = plain-last cs c (plain_call x p).after (plain_call x p).reply

store-more : (cs : List Call) (c : Call) (m : Machine) → calls_after (cs ++ (c ∷ [])) m ≡ (call c (calls_after cs m)).after
unfolding after_all
store-more [] c m = refl
store-more (x ∷ cs) c m = store-more cs c (call x m).after

plain_more : (cs : List Call) (c : Call) (p : Plain) → plain_after (cs ++ (c ∷ [])) p ≡ (plain_call c (plain_after cs p)).after
unfolding after_all
plain_more [] c p = refl
plain_more (x ∷ cs) c p = plain_more cs c (plain_call x p).after

module _ (m₀ : Machine) (made : FreshlyMade mod_eight m₀) where
  p₀ : Plain
  p₀ = fresh_plain (λ d. get_or mod_eight d 0)

  same-reply : (cs : List Call) (c : Call) → (call c (calls_after cs m₀)).reply ≡ (plain_call c (plain_after cs p₀)).reply
  same-reply cs c = unfold p₀ in let r = (call c m₀).reply in
      sym (store-last cs c m₀ r) ∙ ap (last_reply r) (serializability mod_eight m₀ made (cs ++ (c ∷ []))).replies
      ∙ plain-last cs c p₀ r

  abbrev on_store : List Call → List ℕ → TraceState Machine
  on_store cs reader = record { machine = calls_after cs m₀; reader = reader }

  abbrev on_plain : List Call → List ℕ → TraceState Plain
  on_plain cs reader = record { machine = plain_after cs p₀; reader = reader }

  -- after the same calls, the same lines have the same text
  abbrev SameText : List (List ℕ) → Type 0
  SameText ls = (cs : List Call) (reader : List ℕ)
      → transcript store_trace ls (on_store cs reader) ≡ transcript (tracing plain_call) ls (on_plain cs reader)

  text-by : {S : Type 0} → (Call → S → TurnOf S) → List (List ℕ) → TurnOf (TraceState S) → List ℕ
  text-by a ls t = printed t.reply ++ transcript (tracing a) ls t.after

  same_line : (l : Line) (ls : List (List ℕ)) → SameText ls → (cs : List Call) (reader : List ℕ) → text-by call ls
      (trace_line_turn call l (on_store cs reader)) ≡ text-by plain_call ls (trace_line_turn plain_call l (on_plain cs reader))
  unfolding trace_line_turn refuse_turn text-by
  same_line another ls more cs reader = ap (λ (x : List ℕ). printed (record { answer = refused 17; buffer = reader }) ++ x)
      (more cs reader)
  same_line (asks q bytes) ls more cs reader = let c = call_of q bytes reader in let s = (call c (calls_after cs m₀)).reply in
      let after = (plain_call c (plain_after cs p₀)).after in
      let left : Reply → List ℕ = λ r. reader_after_line q reader r.buffer in
      let shown : Reply → List ℕ = λ r. printed (record { answer = r.answer; buffer = left r }) in
      ap (λ (m : Machine). shown s ++ transcript store_trace ls (record { machine = m; reader = left s }))
      (sym (store-more cs c m₀)) ∙ ap (λ (x : List ℕ). shown s ++ x) (more (cs ++ (c ∷ [])) (left s)) ∙ ap (λ (p : Plain).
      shown s ++ transcript (tracing plain_call) ls (record { machine = p; reader = left s })) (plain_more cs c p₀)
      ∙ ap (λ (r : Reply). shown r ++ transcript (tracing plain_call) ls (record { machine = after; reader = left r }))
      (same-reply cs c)

  same_text : (ls : List (List ℕ)) → SameText ls
  unfolding transcript text-by
  same_text [] cs reader = refl
  same_text (l ∷ ls) cs reader = same_line (parsed l) ls (same_text ls) cs reader

pub trace-whole-run : TraceWholeRun
unfolding p₀ after_all
trace-whole-run m made reader legs last k h = let text =
    (whole-lines store_trace (trace-truncated-is-enough call) (record { machine = m; reader = reader }) legs last k h).says in
    record { on_store = text; on_plain = text ∙ same_text m made (lines_of (input_of legs)) [] reader }
