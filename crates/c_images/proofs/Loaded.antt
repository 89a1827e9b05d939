-- What was loaded from an image goes on as a store that did not go down; so lengths and undo are as there.
use mathlib.Core.{List.{List, [], ◌∷◌, ◌++◌}, Path.{◌≡◌, refl, sym, ap, subst, ◌∙◌, fun_ext}}
use lib.ListN.{get_or, length, replicate, length-replicate}
use Prim.Native.Nat.{ℕ, zero, ◌+◌, ◌≤◌}
use Rattle.limits.specs.Limits.{file_bytes, buffer_bytes}
use Rattle.state.specs.Outcomes.{done_answer, granted}
use Rattle.spec.specs.Items.{Values, Item, byte, offset, file_length}
use Rattle.spec.specs.{Messages.{Call, Reply, commit, undo_commit, after_all, replies_to, grants_among}, Machine.{Machine, values}}
use Rattle.spec.specs.{Calls.{call, calls_after, calls_replies}, SerializabilityOfStore.FreshlyMade}
use Rattle.spec.specs.{Recovery.{ProgramRun, Reached, runs_after, recovered}, Age.{rejuvenated, Alike}}
use Rattle.spec.specs.{Lengths.{ZeroBeyond, committed_in}, UndoRestores.{SameCommitted, grants_in_runs}}
use Rattle.spec.proofs.{Abstract.AbstractStore.{Abstract, start_abstract, abstract_after}, Refinement.Relation.view}
use Rattle.spec.proofs.Theorems.Age.{young-sound, young-view, alike}
use Rattle.spec.proofs.Theorems.{Recovery.{Twins, calls-append, recovered-sound, recovered-view}, Serializability.calls-agree}
use Rattle.spec.proofs.Theorems.{Lengths.lengths-always-hold, UndoRestores.undo-restores}
use Rattle.c_images.specs.{ImagesHold.{Life, lives_after, calls_of_lives}, LoadedStores.LoadedStoresHold}
use Rattle.c_images.proofs.Lives.{lives-from-fresh}

-- ---- two stores that stand for the same store without buffers

twins-after : (cs : List Call) (m n : Machine) → Twins m n → Twins (calls_after cs m) (calls_after cs n)
twins-after cs m n w = let a = calls-agree cs m w.first in let b = calls-agree cs n w.second in
    record { first = a.sound; second = b.sound; same = a.state ∙ ap (abstract_after cs) w.same ∙ sym b.state }

twins-alike : (cs : List Call) (m n : Machine) → Twins m n → Alike cs m n
twins-alike cs m n w = alike m n w.first w.second w.same cs

twins-values : (m n : Machine) → Twins m n → committed_in m ≡ committed_in n
twins-values m n w = unfold view in ap (λ (s : Abstract). s.value) w.same

last_reply : Reply → List Reply → Reply
last_reply r [] = r
last_reply r (x ∷ xs) = last_reply x xs

last-reply : (cs : List Call) (c : Call) (m : Machine) (r : Reply)
    → last_reply r (calls_replies (cs ++ (c ∷ [])) m) ≡ (call c (calls_after cs m)).reply
unfolding last_reply after_all replies_to
last-reply [] c m r = refl
last-reply (x ∷ cs) c m r = last-reply cs c (call x m).after (call x m).reply

twins-reply : (cs : List Call) (c : Call) (m n : Machine) → Twins m n
    → (call c (calls_after cs m)).reply ≡ (call c (calls_after cs n)).reply
twins-reply cs c m n w = let any = (call c m).reply in
    sym (last-reply cs c m any) ∙ ap (last_reply any) (twins-alike (cs ++ (c ∷ [])) m n w).replies ∙ last-reply cs c n any

-- Both go down: the first is recovered from its state, the second loaded from its image.
down-twins : (logs marks : List ℕ) → length logs ≡ buffer_bytes → length marks ≡ buffer_bytes → (m n : Machine) → Twins m n
    → Twins (recovered logs marks m) (rejuvenated n logs)
down-twins logs marks size wide m n w = unfold view in record {
  first = recovered-sound logs marks m w.first size wide;
  second = young-sound n w.second logs size;
  same = recovered-view logs marks m ∙ ap (λ (s : Abstract). start_abstract s.file_of s.value s.windows s.back)
      w.same ∙ sym (young-view n w.second logs size);
}

-- ---- however often

module _ (numbers : List ℕ) (m₀ : Machine) (made : FreshlyMade numbers m₀) (ls : List Life) where
  -- The store that never went down, and the one that was loaded.
  abbrev whole : Machine
  whole = calls_after (calls_of_lives ls) m₀

  from-fresh : Twins whole (lives_after ls m₀)
  from-fresh = lives-from-fresh numbers m₀ made ls

  reached : (cs : List Call) → Reached (calls_after cs whole)
  reached cs = unfold runs_after in record {
    numbers = numbers;
    first = m₀;
    made = made;
    runs = [];
    calls = calls_of_lives ls ++ cs;
    by = sym (calls-append (calls_of_lives ls) cs m₀);
  }

  loaded-lengths : (cs : List Call) → let n = calls_after cs (lives_after ls m₀) in
      ZeroBeyond (committed_in n) × ((f : ℕ) → committed_in n (file_length f) ≤ file_bytes)
  loaded-lengths cs = let held = lengths-always-hold (calls_after cs whole) (reached cs) in
      let e = twins-values _ _ (twins-after cs whole (lives_after ls m₀) from-fresh) in
      (subst ZeroBeyond e held.zeros, subst (λ (v : Values). (f : ℕ) → v (file_length f) ≤ file_bytes) e held.limit)

-- ---- undo

same-values : (m n : Machine) → SameCommitted m n → committed_in n ≡ committed_in m
same-values m n s = fun_ext each
  where
    each : (i : Item) → committed_in n i ≡ committed_in m i
    each (byte q) = unfold values in ap (λ (l : List ℕ). get_or l q 0) s.files
    each (offset d) = unfold values in ap (λ (l : List ℕ). get_or l d 0) s.offsets
    each (file_length f) = unfold values in ap (λ (l : List ℕ). get_or l f 0) s.lengths

module _ (a b : Machine) (w : Twins a b) (r : Reached a) (logs : List ℕ) (size : length logs ≡ buffer_bytes) where
  abbrev marks : List ℕ
  marks = replicate buffer_bytes 0

  run_of : List Call → ProgramRun
  run_of cs =
      record { calls = cs; logs = logs; marks = marks; logs_length = size; marks_length = length-replicate buffer_bytes zero }

  undo-loaded : (zs ys : List Call) (t minute n : ℕ) → let after = (call (commit t minute) b).after in
      let young = rejuvenated (calls_after zs after) logs in let m = calls_after ys young in
      (call (commit t minute) b).reply.answer ≡ granted n → grants_among (calls_replies zs after) ≡ 0
      → grants_among (calls_replies ys young) ≡ 0 → (call undo_commit m).reply.answer ≡ done_answer
      → committed_in (call undo_commit m).after ≡ committed_in b
  undo-loaded zs ys t minute n g none_before none_after taken = unfold runs_after grants_in_runs run_of after_all in
      let c = commit t minute in let after-a = (call c a).after in let after-b = (call c b).after in
      let after : Twins after-a after-b = twins-after (c ∷ []) a b w in let saved = twins-after zs after-a after-b after in
      let found = recovered logs marks (calls_after zs after-a) in let young = rejuvenated (calls_after zs after-b) logs in
      let down = down-twins logs marks size (length-replicate buffer_bytes zero) _ _ saved in
      let end-a = (call undo_commit (calls_after ys found)).after in
      let end-b = (call undo_commit (calls_after ys young)).after in
      let ended : Twins end-a end-b =
      twins-after (undo_commit ∷ []) (calls_after ys found) (calls_after ys young) (twins-after ys found young down) in
      let restored = undo-restores a r (run_of zs ∷ []) ys t minute n (ap (λ (q : Reply). q.answer)
      (twins-reply [] c a b w) ∙ g) (ap (λ (k : ℕ). k + 0) (ap grants_among (twins-alike zs after-a after-b after).replies
      ∙ none_before)) (ap grants_among (twins-alike ys found young down).replies ∙ none_after)
      (ap (λ (q : Reply). q.answer) (twins-reply ys undo_commit found young down) ∙ taken) in
      sym (twins-values end-a end-b ended) ∙ same-values a end-a restored ∙ twins-values a b w

pub loaded-stores-hold : LoadedStoresHold
loaded-stores-hold = record {
  lengths = loaded-lengths;
  undo = λ numbers m₀ made ls xs zs ys t minute n logs size. let from = from-fresh numbers m₀ made ls in
      undo-loaded _ _ (twins-after xs (whole numbers m₀ made ls) (lives_after ls m₀) from) (reached numbers m₀ made ls xs)
      logs size zs ys t minute n;
}
