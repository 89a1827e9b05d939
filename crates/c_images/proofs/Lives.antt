-- A store that was saved and loaded any number of times stands for the same store without buffers as one on which every
-- transaction was aborted instead.
use mathlib.Core.{List.{List, [], ◌∷◌, ◌++◌}, Path.{◌≡◌, refl, sym, ◌∙◌, subst⁻¹}}
use lib.ListN.{length, replicate, length-replicate}
use Prim.Native.Nat.{ℕ, zero}
use Rattle.limits.specs.Limits.{buffer_bytes}
use Rattle.spec.specs.{Messages.{Call, after_all}, Machine.Machine, Calls.{answer_with, passing, calls_after}}
use Rattle.spec.specs.{SerializabilityOfStore.FreshlyMade, Recovery.{ProgramRun, abort_all}, Age.rejuvenated}
use Rattle.spec.proofs.{Refinement.Relation.Sound, Theorems.Serializability.{calls-agree, fresh-facts}}
use Rattle.spec.proofs.Theorems.{Recovery.{Twins, run-twins, recovered-view, calls-append}, Age.{young-sound, young-view}}
use Rattle.images.specs.Images.{image_numbers, number_of}
use Rattle.c_images.specs.ImageCalls.{load_rule}
use Rattle.c_images.specs.ImagesHold.{Life, by_state, by_image, after_life, lives_after, calls_of_life, calls_of_lives}
use Rattle.c_images.proofs.{Rejuvenated.{loaded-image, not-refused}, Back.word_back}

-- What is loaded from the image of a sound store.
load_after : (m into : Machine) → Sound m
    → (load_rule (image_numbers m) m.files m.undo into).after ≡ rejuvenated m into.logs
unfolding load_rule passing answer_with image_numbers
load_after m into s = let same = word_back (number_of m.store m.journal) 276 in
    rw (not-refused m into.logs _ same s.shaped s.in_range) (loaded-image m into.logs _ same s.shaped)

-- An image has what a store has that comes back with every transaction ended.
image-twins : (cs : List Call) (logs : List ℕ) → length logs ≡ buffer_bytes → (m n : Machine) → Twins m n
    → Twins (calls_after abort_all (calls_after cs m)) (rejuvenated (calls_after cs n) logs)
image-twins cs logs size m n w = let marks : List ℕ = replicate buffer_bytes 0 in
    let r : ProgramRun =
    record { calls = cs; logs = logs; marks = marks; logs_length = size; marks_length = length-replicate buffer_bytes zero } in
    let down = run-twins r m n w in let k = calls_after cs n in let s = (calls-agree cs n w.second).sound in record {
      first = down.first;
      second = young-sound k s logs size;
      same = down.same ∙ recovered-view logs marks k ∙ sym (young-view k s logs size);
    }

life-twins : (l : Life) (m n : Machine) → Twins m n → Twins (calls_after abort_all (calls_after (calls_of_life l) m)) (after_life l n)
unfolding calls_of_life after_life
life-twins (by_state r) m n w = run-twins r m n w
life-twins (by_image cs into size) m n w = let k = calls_after cs n in
    subst⁻¹ (λ (x : Machine). Twins (calls_after abort_all (calls_after cs m)) x)
    (load_after k into (calls-agree cs n w.second).sound) (image-twins cs into.logs size m n w)

lives-twins : (ls : List Life) (m n : Machine) → Twins m n → Twins (calls_after (calls_of_lives ls) m) (lives_after ls n)
unfolding calls_of_lives lives_after after_all
lives-twins [] m n w = w
lives-twins (l ∷ ls) m n w = let cs = calls_of_life l in let k = calls_after cs m in
    let e : calls_after (cs ++ (abort_all ++ calls_of_lives ls)) m ≡ calls_after (calls_of_lives ls) (calls_after abort_all k) =
    calls-append cs (abort_all ++ calls_of_lives ls) m ∙ calls-append abort_all (calls_of_lives ls) k in
    subst⁻¹ (λ (x : Machine). Twins x (lives_after ls (after_life l n))) e
    (lives-twins ls (calls_after abort_all k) (after_life l n) (life-twins l m n w))

pub lives-from-fresh : (numbers : List ℕ) (m₀ : Machine) → FreshlyMade numbers m₀ → (ls : List Life)
    → Twins (calls_after (calls_of_lives ls) m₀) (lives_after ls m₀)
lives-from-fresh numbers m₀ made ls = let s = (fresh-facts numbers m₀ made).sound in
    lives-twins ls m₀ m₀ (record { first = s; second = s; same = refl })
