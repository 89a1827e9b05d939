-- The situations and the edge cases hold of every freshly made store: by Serializability its replies and values are the reference
-- model's.
use mathlib.Core.{List.List, Path.{◌≡◌, ap, ◌∙◌, subst⁻¹}}
use lib.ListN.{get_or}
use Rattle.windows.specs.Windows.{fresh_windows}
use Rattle.spec.specs.{Messages.Call, Sightings.Committed, Plain.{nothing, fresh_plain, plain_after}}
use Rattle.spec.specs.{Machine.{Machine, values}, Calls.calls_after, SerializabilityOfStore.FreshlyMade}
use Rattle.spec.specs.{Setup.{numbers, fresh_numbered, Seen, on_plain, on_store}, Situations.Starred, EdgeCases.EdgeCases}
use Rattle.spec.specs.LaterEdgeCases.{LaterEdgeCases}
use Rattle.spec.proofs.Abstract.AbstractSerializability.{again-left}
use Rattle.spec.proofs.Examples.Situations.{starred, edge-cases, later-edge-cases}
use Rattle.spec.proofs.Theorems.Serializability.{serializability}

module _ (m : Machine) (made : FreshlyMade numbers m) where
  same-values : (cs : List Call) → values (calls_after cs m).store (calls_after cs m).files ≡ (plain_after cs
      (fresh_plain (λ d. get_or numbers d 0))).committed.value
  same-values cs = (serializability numbers m made cs).left
      ∙ ap (λ (c : Committed). c.value) (again-left (λ d. get_or numbers d 0) (λ i. 0) fresh_windows nothing tt cs)

  same_seen : on_store m ≡ on_plain
  unfolding on_store on_plain fresh_numbered
  same_seen = λ i. record { replies = λ cs. (serializability numbers m made cs).replies i; value = λ cs. same-values cs i }

  -- "The starred ones hold together as a theorem about the rules."
  pub starred-on-store : Starred (on_store m)
  starred-on-store = subst⁻¹ (λ (x : Seen). Starred x) same_seen starred

  pub edge-cases-on-store : EdgeCases (on_store m)
  edge-cases-on-store = subst⁻¹ (λ (x : Seen). EdgeCases x) same_seen edge-cases

  pub later-edge-cases-on-store : LaterEdgeCases (on_store m)
  later-edge-cases-on-store = subst⁻¹ (λ (x : Seen). LaterEdgeCases x) same_seen later-edge-cases
