-- Settling on the state: which descriptors a call settles, and the transaction afterwards. Lists have an
-- element for each of the sixteen descriptors.
use Rattle.std.specs.Prelude.{Bool, false, cond, not, ◌&&◌, ◌||◌, List, leb, eqb, get_or, ℕ, ◌+◌, Result, Ok, Err, ⊤}
use Rattle.limits.specs.Limits.{file_bytes, descriptor_count}
use Rattle.buffers.specs.Parts.{tabulate}
use Rattle.state.specs.declared.Descriptor.{Descriptor}
use Rattle.state.specs.declared.Transaction.{Transaction}
use Rattle.state.specs.StoreMeaning.{standing_at, dirty_at, with_descriptors}
use Rattle.admission.specs.FirstRefusal.{below}
use Rattle.standings.specs.Table.{pointer_settles, read_settles, advance, settled}
use Rattle.state.specs.declared.outcomes.Refusal.{Refusal}
use Rattle.state.specs.declared.outcomes.Refusal.TheVariants.{AppendPastEnd}

-- "Before a Read through descriptor d fetches bytes, it settles every descriptor of d's file that stands
-- Deferred or Moved, and d if Untouched" [R-4.4]: the files of the descriptors, and the transaction.
unfoldable pub settles_for_read : List ℕ → Transaction → ℕ → ℕ → Bool
settles_for_read filenumbers x d e =
    read_settles (eqb (get_or filenumbers e 0) (get_or filenumbers d 0)) (eqb e d) (standing_at x e)

unfoldable pub chosen_by_read : List ℕ → Transaction → ℕ → List Bool
chosen_by_read filenumbers x d = tabulate (settles_for_read filenumbers x d) descriptor_count

-- The column "GetFilePointer" [R-4.3]: the descriptor itself, if it stands Untouched or Deferred.
unfoldable pub settles_for_pointer : Transaction → ℕ → ℕ → Bool
settles_for_pointer x d e = eqb e d && pointer_settles (standing_at x d)

unfoldable pub chosen_by_pointer : Transaction → ℕ → List Bool
chosen_by_pointer x d = tabulate (settles_for_pointer x d) descriptor_count

-- Descriptor d alone.
abbrev pub only_one : ℕ → List Bool
only_one d = tabulate (λ e. eqb e d) descriptor_count

-- 12: "settling .. takes committed offset plus advance above 4,096" [R-16.1]. Every chosen descriptor passes.
unfoldable pub settles_within : List Bool → List ℕ → Transaction → ℕ → Bool
settles_within chosen offsets x e =
    not (get_or chosen e false) || leb (get_or offsets e 0 + advance (standing_at x e)) file_bytes

unfoldable pub all_within : List Bool → List ℕ → Transaction → Bool
all_within chosen offsets x = below (settles_within chosen offsets x) descriptor_count

-- Descriptor e, settled at its committed offset if chosen.
unfoldable pub settled_descriptor : List Bool → List ℕ → Transaction → ℕ → Descriptor
settled_descriptor chosen offsets x e =
    record {
      standing = cond (get_or chosen e false) (settled (get_or offsets e 0) (standing_at x e))
          (standing_at x e);
      dirty = dirty_at x e;
    }

-- The transaction with every chosen descriptor settled.
unfoldable pub settled_transaction : List Bool → List ℕ → Transaction → Transaction
settled_transaction chosen offsets x =
    with_descriptors (tabulate (settled_descriptor chosen offsets x) descriptor_count) x

-- Every chosen descriptor is settled, or none is.
unfoldable pub settling_of : List Bool → List ℕ → Transaction → Result Transaction Refusal
settling_of chosen offsets x =
    cond (all_within chosen offsets x) (Ok (settled_transaction chosen offsets x)) (Err AppendPastEnd)

-- Whether they are, without the transaction.
abbrev pub verdict_of : Result Transaction Refusal → Result ⊤ Refusal
verdict_of (Ok y) = Ok tt
verdict_of (Err r) = Err r
