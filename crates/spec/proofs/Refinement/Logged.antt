-- The logs after an accepted step: a Write's bytes directly after the data used, and no other byte changed.
use mathlib.Core.{List.{List, [], ◌∷◌, ◌++◌}, Logic.⊎_elim, Path.{◌≡◌, refl, ap, ◌∙◌}}
use lib.{ListN.{length, get_or, length-append, get_or-append}, Seq.get_or_at}
use native.Mathlib.{Nat.{eq-or-lt_of_le, le_of_suc-le-suc}, Omega.arith}
use Prim.Native.Nat.{ℕ, suc, ◌+◌, ◌*◌, ◌≤◌, ◌<◌}
use Rattle.limits.specs.Limits.{buffer_bytes, transaction_count, log_bytes}
use Rattle.buffers.specs.Parts.{cut, pasted}
use Rattle.buffers.proofs.PartLaws.{length-pasted, pasted-before, pasted-after, cut-pasted, cut-pasted-before}
use Rattle.state.specs.{declared.StoreMeaning.StoreMeaning, StoreMeaning.transaction}
use Rattle.admission.{specs.FirstRefusal.sum, proofs.Laws.sum_same}
use Rattle.spec.specs.{Messages.{Op, seek, write, get_file_pointer, read}, Calls.logged}
use Rattle.spec.proofs.Refinement.{IndexedLists.sum-le, StepPreserves.pieces_after, Decode.{data_before, Carries}}
use Rattle.spec.proofs.Refinement.Others.{LogsApart}

-- One piece more.
module _ (ps : List (List ℕ)) (b : List ℕ) where
  piece-before : (k : ℕ) → k < length ps → get_or (ps ++ (b ∷ [])) k [] ≡ get_or ps k []
  piece-before k h = get_or-append ps (b ∷ []) [] k h

  piece-last : get_or (ps ++ (b ∷ [])) (length ps) [] ≡ b
  piece-last = get_or_at ps b [] [] (length ps) refl

  data-more : (k : ℕ) → k ≤ length ps → data_before (ps ++ (b ∷ [])) k ≡ data_before ps k
  data-more k h = sum_same (λ j. length (get_or (ps ++ (b ∷ [])) j [])) (λ j. length (get_or ps j [])) k
      (λ j g. ap length (piece-before j (omega arith)))

  pub data-all : data_before (ps ++ (b ∷ [])) (length (ps ++ (b ∷ []))) ≡ data_before ps (length ps) + length b
  data-all = unfold sum in let e : length (ps ++ (b ∷ [])) ≡ suc (length ps) = simp length-append (omega arith) in
      let m = data-more (length ps) (omega arith) in let l = ap length piece-last in rw e (omega arith)

  module _ (logs : List ℕ) (a : ℕ) (fits : a + data_before ps (length ps) + length b ≤ length logs) (h : Carries logs a ps) where
    after-paste : List ℕ
    after-paste = pasted logs (a + data_before ps (length ps)) b

    carries-before : (k : ℕ) → k < length ps → cut after-paste (a + data_before ps k) (length (get_or ps k [])) ≡ get_or ps k []
    carries-before k l = unfold after-paste sum in let g = sum-le (λ j. length (get_or ps j [])) (suc k) (length ps) l in
        cut-pasted-before logs (a + data_before ps (length ps)) b fits (a + data_before ps k) (length (get_or ps k []))
        (omega arith) ∙ h k l

    pub carries-more : Carries (pasted logs (a + data_before ps (length ps)) b) a (ps ++ (b ∷ []))
    unfolding after-paste
    carries-more k l = let few : k < suc (length ps) = omega (arith, l, length-append ps (b ∷ [])) in
        ⊎_elim here earlier (eq-or-lt_of_le (le_of_suc-le-suc few))
      where
        here : k ≡ length ps → cut after-paste (a + data_before (ps ++ (b ∷ [])) k)
            (length (get_or (ps ++ (b ∷ [])) k [])) ≡ get_or (ps ++ (b ∷ [])) k []
        here e = rw (e, data-more (length ps) (omega arith), piece-last) (cut-pasted logs (a + data_before ps (length ps)) b fits)

        earlier : k < length ps → cut after-paste (a + data_before (ps ++ (b ∷ [])) k)
            (length (get_or (ps ++ (b ∷ [])) k [])) ≡ get_or (ps ++ (b ∷ [])) k []
        earlier m = rw (data-more k (omega arith), piece-before k m) (carries-before k m)

-- The logs after a step on a transaction whose data used are its pieces'.
module _ (s : StoreMeaning) (t : ℕ) (logs : List ℕ) (ps : List (List ℕ)) (small : t < transaction_count)
    (size : length logs ≡ buffer_bytes) (used : data_before ps (length ps) ≡ (transaction s t).used.bytes) where
  pub logged-carries : (o : Op) → data_before (pieces_after o ps) (length (pieces_after o ps)) ≤ log_bytes
      → Carries logs (log_bytes * t) ps → Carries (logged t o s logs) (log_bytes * t) (pieces_after o ps)
  unfolding logged
  logged-carries (seek d v) few h = h
  logged-carries (write d bytes) few h =
      rw (← used) (carries-more ps bytes logs (log_bytes * t) (omega (arith, data-all ps bytes)) h)
  logged-carries (get_file_pointer d) few h = h
  logged-carries (read d n buffer) few h = h

  pub logged-apart : (o : Op) → data_before (pieces_after o ps) (length (pieces_after o ps)) ≤ log_bytes
      → LogsApart t (logged t o s logs) logs
  unfolding logged
  logged-apart (seek d v) few = record { size = refl; before = λ i l. refl; beyond = λ i l. refl }
  logged-apart (write d bytes) few = let p = log_bytes * t + (transaction s t).used.bytes in
      let fits : p + length bytes ≤ length logs = omega (arith, data-all ps bytes) in record {
        size = length-pasted logs p bytes fits;
        before = λ i l. pasted-before logs p bytes fits i 0 (omega arith);
        beyond = λ i l. pasted-after logs p bytes fits i 0 (omega (arith, data-all ps bytes));
      }
  logged-apart (get_file_pointer d) few = record { size = refl; before = λ i l. refl; beyond = λ i l. refl }
  logged-apart (read d n buffer) few = record { size = refl; before = λ i l. refl; beyond = λ i l. refl }
