-- Store, abstract store and reference model make the same calls, since they reply alike to every list of calls.
use mathlib.Core.{Bool.false, List.List, Path.{◌≡◌, ap, ◌∙◌, fun_ext}}
use Prim.Native.Nat.{ℕ, ◌≤◌}
use Rattle.limits.specs.Limits.{last_transaction}
use Rattle.state.specs.StoreMeaning.{transaction, window_at}
use Rattle.spec.specs.{Messages.{Call, Reply}, Machine.{Machine, file_of, values}, Calls.calls_after, Plain.{Plain, plain_after}}
use Rattle.spec.{specs.Age.earlier_in, proofs.Abstract.AbstractStore.{Abstract, AbstractTurn, abstract_call, abstract_after}}
use Rattle.spec.proofs.Abstract.PlainInvariant.{Good, good_start, good-after}
use Rattle.spec.proofs.{Abstract.SameReplies.{abs, abs-start, abs_turn, same-call, same_after}, Refinement.Relation.{Sound, view}}
use Rattle.spec.proofs.Theorems.{Serializability.{call-turn, calls-agree}, Age.{resting-start, earlier-good}}
use Rattle.spec_dispatch.specs.Dispatch.{store_reply, plain_reply, plain_of}

-- The replies of the abstract store.
abbrev pub abstract_reply : Abstract → Call → List Call → Reply
abstract_reply s c cs = (abstract_call c (abstract_after cs s)).reply

pub store-abstract : (m : Machine) → Sound m → store_reply m ≡ abstract_reply (view m)
store-abstract m s = fun_ext (λ c. fun_ext (λ cs. let a = calls-agree cs m s in (call-turn c (calls_after cs m) a.sound).0
    ∙ ap (λ (z : Abstract). (abstract_call c z).reply) a.state))

-- A store, and the reference model that it stands for.
pub record TwinWork (m : Machine) (p : Plain) : Type 0 where
  pub sound : Sound m
  pub good : Good p
  pub same : view m ≡ abs p

module _ (m : Machine) (p : Plain) (t : TwinWork m p) where
  pub store-plain : store_reply m ≡ plain_reply p
  unfolding abs_turn
  store-plain = store-abstract m t.sound ∙ fun_ext (λ c. fun_ext (λ cs. ap (λ (z : Abstract). (abstract_call c
      (abstract_after cs z)).reply) t.same ∙ ap (λ (z : Abstract). (abstract_call c z).reply) (same_after cs p t.good)
      ∙ ap (λ (τ : AbstractTurn). τ.reply) (same-call c (plain_after cs p) (good-after cs p t.good))))

  pub twins-after : (cs : List Call) → TwinWork (calls_after cs m) (plain_after cs p)
  twins-after cs = let a = calls-agree cs m t.sound in record {
    sound = a.sound;
    good = good-after cs p t.good;
    same = a.state ∙ ap (abstract_after cs) t.same ∙ same_after cs p t.good;
  }

-- A sound store with nothing open.
pub record WorkResting (m : Machine) : Type 0 where
  pub sound : Sound m
  pub closed : (t : ℕ) → t ≤ last_transaction → (transaction m.store t).begun ≡ false

pub resting-twins : (m : Machine) → WorkResting m → TwinWork m (plain_of m)
resting-twins m r = let F = file_of m.store in let v = values m.store m.files in record {
  sound = r.sound;
  good = good_start F v (window_at m.store) (earlier_in m) (earlier-good m);
  same = resting-start m r.sound r.closed ∙ abs-start F v (window_at m.store) (earlier_in m);
}
