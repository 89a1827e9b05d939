-- Fresh accepts buffers of the right lengths and a list that its tests pass, and what it answers is no refusal. Assumes nothing.
use mathlib.Core.{List.{List, []}, Path.{◌≡◌, refl, ap, ap₂, ◌∙◌}}
use lib.ListN.{length, replicate}
use Rattle.std.proofs.lemmas.List.{length-replicate}
use native.Mathlib.Omega.{arith}
use Prim.Native.Nat.{ℕ}
use Rattle.limits.specs.Limits.{buffer_bytes, undo_bytes}
use Rattle.buffers.specs.Parts.{tabulate}
use Rattle.std.specs.Prelude.{Ok, Err}
use Rattle.std.specs.Result.{IsOk}
use Rattle.state.specs.Outcomes.{Outcome, done_answer, said}
use Rattle.admission.specs.{FirstRefusal.{below, unless}, Admission.{sized, sizes_in, admission_of_fresh}}
use Rattle.spec.specs.{Machine.{Machine, sizes}, Calls.{answer_with, passing, fresh, fresh_machine}}
use Rattle.store.specs.{Kept.machine_in, declared.kept.Store.Store}
use Rattle.trace.specs.Transcript.{mod_eight}

pub passes : admission_of_fresh (sized buffer_bytes buffer_bytes buffer_bytes undo_bytes) mod_eight ≡ 0
unfolding admission_of_fresh sizes_in mod_eight tabulate below unless
passes = refl

-- Fresh's tests pass this list, with buffers of the right lengths.
abbrev pub Passes : List ℕ → Type 0
Passes numbers = admission_of_fresh (sized buffer_bytes buffer_bytes buffer_bytes undo_bytes) numbers ≡ 0

pub fresh-accepts : (numbers : List ℕ) → Passes numbers → (m : Machine) → length m.files ≡ buffer_bytes → length m.logs ≡ buffer_bytes
    → length m.marks ≡ buffer_bytes → length m.undo ≡ undo_bytes → (fresh numbers m).reply.answer ≡ done_answer
unfolding fresh passing answer_with
fresh-accepts numbers p m f l k u = let next = answer_with done_answer (fresh_machine numbers m.logs m.undo) in
    let e : admission_of_fresh (sizes m) numbers ≡ 0 = ap₂ (λ (x y : ℕ). admission_of_fresh (sized x y (length m.marks)
    (length m.undo)) numbers) f l ∙ ap₂ (λ (x y : ℕ). admission_of_fresh (sized buffer_bytes buffer_bytes x y) numbers) k u
    ∙ p in ap (λ (n : ℕ). (passing n [] m next).reply.answer) e

pub done-is-ok : (o : Outcome) → said o ≡ done_answer → IsOk o
unfolding said
done-is-ok (Ok a) e = refl
done-is-ok (Err r) e = grind arith

-- a new store has zeros alone
pub zeros-accepted : (numbers : List ℕ) → Passes numbers → (s : Store) → s.files ≡ replicate buffer_bytes 0
    → s.logs ≡ replicate buffer_bytes 0 → s.marks ≡ replicate buffer_bytes 0 → s.undo ≡ replicate undo_bytes 0
    → (fresh numbers (machine_in s)).reply.answer ≡ done_answer
zeros-accepted numbers p s f l k u = let of : (n : ℕ) (xs : List ℕ) → xs ≡ replicate n 0 → length xs ≡ n =
    λ n xs e. ap length e ∙ length-replicate n 0 in
    fresh-accepts numbers p (machine_in s) (of _ _ f) (of _ _ l) (of _ _ k) (of _ _ u)
