-- Serializability of the code: calls and dispatchers that keep their promises are calls of the rules.
use mathlib.Core.{Bool.cond, List.{List, [], ◌∷◌, ◌++◌, map}, Path.{◌≡◌, refl, sym, ap, ap₂, ◌∙◌, subst, subst⁻¹}}
use lib.ListN.{length, get_or}
use Prim.Native.Nat.{ℕ, zero, suc}
use Rattle.admission.specs.FirstRefusal.{is_none, unless}
use Rattle.windows.specs.Windows.{fresh_windows}
use Rattle.spec.specs.{Messages.{Call, on, Reply, replies_to, after_all}, Machine.Machine, Calls.{Turn, call, calls_after}}
use Rattle.spec.specs.{Plain.{Plain, nothing, fresh_plain, none_running, plain_after, plain_replies}, Promises.Meets}
use Rattle.spec.specs.{Serializability.{IsAccepted, OneMoment, Holds}, SerializabilityOfStore.{FreshlyMade, the_store}}
use Rattle.spec.proofs.Abstract.{PlainInvariant.good_start, Rerun.after-append, SameReplies.{back_of, abs-start}}
use Rattle.spec.proofs.Theorems.{Recovery.calls-append, Serializability.{fresh-facts, serializability}}
use Rattle.spec_dispatch.specs.Rounds.{scripts_in, End, Work}
use Rattle.spec_dispatch.specs.Dispatch.{Dispatched, reported, not_started, work_on_store, work_on_plain, dispatch}
use Rattle.spec_dispatch.specs.Dispatch.{plain_dispatch, PlainToo}
use Rattle.spec_dispatch.specs.SerializabilityOfCode.{CallMade, made_reply, DispatchMade, Gives, DispatchMeets}
use Rattle.spec_dispatch.specs.SerializabilityOfCode.{dispatch_calls, Linked, start, called, ran, SerializabilityOfCode}
use Rattle.spec_dispatch.specs.Corollaries.{MomentOfCode, CallsMeet, RepliesOfCode}
use Rattle.spec_dispatch.proofs.{Follows.{TwinWork, store-plain, twins-after}, Same.{if_passed, gate, plain-too}}

reply-same : (w : Turn) (x : CallMade) → Meets w x.outcome x.after x.reader → made_reply x ≡ w.reply
reply-same w x k = λ i. record { answer = k.outcome i; buffer = k.reader i }

-- A dispatcher leaves what its calls leave: those of its work, or none where its tests refuse it with n.
passed-after : {M : Type 0} (after : List Call → M → M) (m : M) → after [] m ≡ m → (reader : List ℕ) (w : Work) (n : ℕ)
    → let d = if_passed m reader w (after w.made m) n in d.after ≡ after (cond (is_none d.refusal) w.made []) m
unfolding reported not_started
passed-after after m e reader w zero = refl
passed-after after m e reader w (suc n) = sym e

module _ (y : DispatchMade) (m : Machine) where
  abbrev ruled : Dispatched Machine
  ruled = dispatch y.bytes y.minute y.scripts m y.reader

  abbrev worked : Work
  worked = work_on_store y.bytes y.minute y.scripts m y.reader

  -- Its calls, where it was refused with n.
  calls_by : (n : ℕ) → y.gave.refusal ≡ n → dispatch_calls y m ≡ cond (is_none n) worked.made []
  calls_by n e = unfold dispatch_calls in ap (λ (k : ℕ). cond (is_none k) worked.made []) e

  dispatch-after : DispatchMeets m y → y.gave.after ≡ calls_after (dispatch_calls y m) m
  unfolding dispatch after_all
  dispatch-after k = k.1 ∙ passed-after calls_after m refl y.reader worked (gate y.bytes y.minute y.scripts m
      y.reader) ∙ ap (λ (cs : List Call). calls_after cs m) (sym (calls_by ruled.refusal k.0.refusal))

-- What they lead to is what the calls lead to.
linked-after : (m₀ : Machine) (cs : List Call) (m : Machine) → Linked m₀ cs m → m ≡ calls_after cs m₀
unfolding after_all
linked-after m₀ cs m start = refl
linked-after m₀ cs m (called ds n x l k) = k.machine
    ∙ ap (λ (w : Machine). (call x.made w).after) (linked-after m₀ ds n l) ∙ sym (calls-append ds (x.made ∷ []) m₀)
linked-after m₀ cs m (ran ds n y l k) = dispatch-after y n k ∙ ap (calls_after (dispatch_calls y n)) (linked-after m₀ ds n l)
    ∙ sym (calls-append ds (dispatch_calls y n) m₀)

-- What the dispatcher gave on the store, it gives on the reference model, and its calls lead there.
module _ (m : Machine) (p : Plain) (y : DispatchMade) (k : DispatchMeets m y)
    (too : PlainToo y.bytes y.minute y.scripts m p y.reader) where
  abbrev on_plain : Dispatched Plain
  on_plain = plain_dispatch y.bytes y.minute y.scripts p y.reader

  gives-plain : Gives y.gave on_plain
  gives-plain = let g = k.0 in let s = too.given in record {
    refusal = g.refusal ∙ s.refusal;
    ends = λ i l. g.ends i l ∙ ap (λ (f : ℕ → End). f i) s.ends;
    commits = g.commits ∙ s.commits;
    reader = g.reader ∙ s.reader;
  }

  plain-left : on_plain.after ≡ plain_after (dispatch_calls y m) p
  plain-left = unfold plain_dispatch after_all in let w = work_on_plain y.bytes y.minute y.scripts p y.reader in
      passed-after plain_after p refl y.reader w (unless (none_running p) 19 (unless (scripts_in (length y.bytes)
      y.scripts) 20 0)) ∙ ap (λ (cs : List Call). plain_after cs p) (sym (calls_by y m on_plain.refusal
      gives-plain.refusal ∙ ap (λ (w : Work). cond (is_none on_plain.refusal) w.made []) too.work))

fresh-twins : (numbers : List ℕ) (m₀ : Machine) → FreshlyMade numbers m₀ → TwinWork m₀ (fresh_plain (λ d. get_or numbers d 0))
unfolding back_of
fresh-twins numbers m₀ made = let f = fresh-facts numbers m₀ made in let F : ℕ → ℕ = λ d. get_or numbers d 0 in record {
  sound = f.sound;
  good = good_start F (λ i. 0) fresh_windows nothing tt;
  same = f.same ∙ abs-start F (λ i. 0) fresh_windows nothing;
}

pub serializability-of-code : SerializabilityOfCode
serializability-of-code numbers before o m₀ k accepted cs m linked = record {
  holds = holds;
  reply = λ x kept. reply-same (call x.made m) x kept ∙ ap (λ (w : Machine). (call x.made w).reply) e
      ∙ ap (λ (f : Call → List Call → Reply). f x.made cs) (store-plain m₀ p₀ twins);
  dispatch = λ y kept. let too =
      plain-too y.bytes y.minute y.scripts m (plain_after cs p₀) y.reader now holds.openness in (
        gives-plain m (plain_after cs p₀) y kept too,
        plain-left m (plain_after cs p₀) y kept too ∙ sym (after-append cs (dispatch_calls y m) p₀),
      );
}
  where
    p₀ : Plain
    p₀ = fresh_plain (λ d. get_or numbers d 0)

    fresh-made : FreshlyMade numbers m₀
    fresh-made = record { before = before; accepted = sym k.outcome ∙ accepted; gave = k.machine }

    e : m ≡ calls_after cs m₀
    e = linked-after m₀ cs m linked

    holds : Holds the_store m₀ p₀ cs m (plain_after cs p₀)
    holds = subst⁻¹ (λ (w : Machine). Holds the_store m₀ p₀ cs w (plain_after cs p₀)) e (serializability numbers m₀ fresh-made cs)

    twins : TwinWork m₀ p₀
    twins = fresh-twins numbers m₀ fresh-made

    now : TwinWork m (plain_after cs p₀)
    now = subst⁻¹ (λ (w : Machine). TwinWork w (plain_after cs p₀)) e (twins-after m₀ p₀ twins cs)

pub moment-of-code : MomentOfCode
moment-of-code numbers before o m₀ k accepted cs m linked x t op made kept look taken =
    let h = serializability-of-code numbers before o m₀ k accepted cs m linked in
    let e : made_reply x ≡ (call (on t op) m).reply = reply-same _ x kept ∙ ap (λ (c : Call). (call c m).reply) made in
    subst⁻¹ (OneMoment (plain_after cs (fresh_plain (λ d. get_or numbers d 0))) t op) e
    (h.holds.moment t op look (subst IsAccepted e taken))

pub replies-of-code : RepliesOfCode
unfolding after_all replies_to CallsMeet
replies-of-code numbers before o m₀ k accepted xs kept = go xs [] m₀ start kept
  where
    p₀ : Plain
    p₀ = fresh_plain (λ d. get_or numbers d 0)

    go : (xs : List CallMade) (cs : List Call) (m : Machine) → Linked m₀ cs m → CallsMeet m xs
        → map made_reply xs ≡ plain_replies (map (λ (x : CallMade). x.made) xs) (plain_after cs p₀)
    go [] cs m l h = refl
    go (x ∷ xs) cs m l h = ap₂ (λ (y : Reply) (ys : List Reply). y ∷ ys) ((serializability-of-code numbers before o m₀ k
        accepted cs m l).reply x h.0) (go xs (cs ++ (x.made ∷ [])) x.after (called cs m x l h.0) h.1
        ∙ ap (plain_replies (map (λ (x : CallMade). x.made) xs)) (after-append cs (x.made ∷ []) p₀))
