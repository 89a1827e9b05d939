-- The counterexamples hold.
use mathlib.Core.{List.{List, [], ◌∷◌}, Logic.{◌⊎◌, inl, inr}, Path.{◌≡◌, refl, ap}}
use lib.ListN.{length, get_or}
use native.Mathlib.Omega.{arith}
use Prim.Native.Nat.{ℕ, ◌≤◌, ◌<◌}
use Rattle.spec.specs.{Messages.{Op, seek, write, get_file_pointer, read}, Grants.Grant}
use Rattle.spec_dispatch.specs.Dispatch.{EndsScript, AnsweredInRounds, without_buffer, IsScript, EveryScript, more, times_in}
use Rattle.spec_dispatch.specs.{Dispatch.times_of, Corollaries.IsDispatchRefusal}
use Rattle.spec_dispatch.specs.DispatchEdgeCases.{script_of, script_list, bytes, appends}
use Rattle.spec_dispatch.specs.DispatchCounterexamples.{RefusalsTell, two, grant_of, asks_and_writes, ScriptsTell}
use Rattle.buffers.specs.Parts as Parts
use Rattle.spec.specs.Messages as Messages
use Rattle.spec_dispatch.specs.Rounds as Rounds

no-other-refusal : (n : ℕ) → (n ≡ 0) ⊎ (((3 ≤ n) × (n ≤ 18)) ⊎ (21 ≤ n)) → IsDispatchRefusal n → ⊥
no-other-refusal n (inl e) (inl h) = omega (arith, e, h)
no-other-refusal n (inl e) (inr (inl h)) = omega (arith, e, h)
no-other-refusal n (inl e) (inr (inr (inl h))) = omega (arith, e, h)
no-other-refusal n (inl e) (inr (inr (inr h))) = omega (arith, e, h)
no-other-refusal n (inr (inl e)) (inl h) = omega (arith, e.0, h)
no-other-refusal n (inr (inl e)) (inr (inl h)) = omega (arith, e.0, h)
no-other-refusal n (inr (inl e)) (inr (inr (inl h))) = omega (arith, e.1, h)
no-other-refusal n (inr (inl e)) (inr (inr (inr h))) = omega (arith, e.1, h)
no-other-refusal n (inr (inr e)) (inl h) = omega (arith, e, h)
no-other-refusal n (inr (inr e)) (inr (inl h)) = omega (arith, e, h)
no-other-refusal n (inr (inr e)) (inr (inr (inl h))) = omega (arith, e, h)
no-other-refusal n (inr (inr e)) (inr (inr (inr h))) = omega (arith, e, h)

no-other-end : (n : ℕ) → (n ≤ 5) ⊎ (((13 ≤ n) × (n ≤ 20)) ⊎ (23 ≤ n)) → EndsScript n → ⊥
no-other-end n (inl e) (inl h) = omega (arith, e, h.0)
no-other-end n (inl e) (inr (inl h)) = omega (arith, e, h)
no-other-end n (inl e) (inr (inr h)) = omega (arith, e, h)
no-other-end n (inr (inl e)) (inl h) = omega (arith, e.0, h.1)
no-other-end n (inr (inl e)) (inr (inl h)) = omega (arith, e.1, h)
no-other-end n (inr (inl e)) (inr (inr h)) = omega (arith, e.1, h)
no-other-end n (inr (inr e)) (inl h) = omega (arith, e, h.1)
no-other-end n (inr (inr e)) (inr (inl h)) = omega (arith, e, h)
no-other-end n (inr (inr e)) (inr (inr h)) = omega (arith, e, h)

-- A reply with refusal n, which is neither none nor 13 and ends no script.
not-answered : (n : ℕ) → (n ≡ 5) ⊎ (n ≡ 18) → (n ≡ 0) ⊎ ((n ≡ 13) ⊎ EndsScript n) → ⊥
not-answered n (inl e) (inl h) = omega (arith, e, h)
not-answered n (inl e) (inr (inl h)) = omega (arith, e, h)
not-answered n (inl e) (inr (inr h)) = no-other-end n (inl (omega (arith, e))) h
not-answered n (inr e) (inl h) = omega (arith, e, h)
not-answered n (inr e) (inr (inl h)) = omega (arith, e, h)
not-answered n (inr e) (inr (inr h)) = no-other-end n (inr (inl (omega (arith, e), omega (arith, e)))) h

pub refusals-tell : RefusalsTell
refusals-tell = unfold AnsweredInRounds Rounds.refusal_in Messages.refusal_of in record {
  of_dispatch = no-other-refusal;
  ending = no-other-end;
  first = λ a. not-answered 5 (inl refl) a.0;
  later = λ a. not-answered 18 (inr refl) a.1.0;
}

-- The first byte that a call writes.
unfoldable written_first : Op → ℕ
written_first (seek d v) = 0
written_first (write d bs) = get_or bs 0 0
written_first (get_file_pointer d) = 0
written_first (read d n buffer) = 0

abbrev written : ℕ → List Op → ℕ
written i os = written_first (get_or os i (get_file_pointer 0))

no_third : IsScript bytes 0 two (grant_of 2 0 []) → ⊥
no_third s = unfold two script_list in let l : 2 < 2 = s.small in omega (arith, l)

not-every : (f : Grant) → EveryScript bytes 0 two (f ∷ grant_of 2 0 [] ∷ []) → ⊥
not-every f (more g gs s (more h hs t r)) = no_third t

pub scripts-tell : ScriptsTell
unfolding Parts.tabulate Parts.cut Rounds.op_of without_buffer times_in times_of script_of script_list bytes appends two asks_and_writes
    written_first
scripts-tell = record {
  second = record { small = omega arith; at_minute = refl; calls = refl };
  third = no_third;
  minute = λ s. let e : ◌≡◌ {A = ℕ} 1 0 = s.at_minute in omega (arith, e);
  other = λ s. let e : ◌≡◌ {A = ℕ} 66 65 = ap (written 1) s.calls in omega (arith, e);
  fewer = λ s. let e : ◌≡◌ {A = ℕ} 1 2 = ap length s.calls in omega (arith, e);
  order = λ s. let e : ◌≡◌ {A = ℕ} 66 0 = ap (written 0) s.calls in omega (arith, e);
  every = not-every _;
  calls = (refl, refl, refl, refl);
  times = refl;
  ended = (refl, refl, refl);
}
