-- F-9: stores whose marks name the same pairs stand for the same abstract store, so both answer alike.
use mathlib.Core.{Bool.{Bool, true, false, cond, ◌&&◌}, List.List, Path.{◌≡◌, refl, sym, ap, ◌∙◌, fun_ext}}
use borrow.Author.Tests.{leb-true}
use lib.{Dec.leb, ListN.length}
use native.Mathlib.Omega.{arith}
use Prim.Native.Nat.{ℕ, ◌<◌}
use Rattle.limits.specs.Limits.{buffer_bytes, transaction_count, last_transaction}
use Rattle.buffers.{specs.Marks.{by_transaction, names, rearranged, has_mark}, proofs.Rearranged.same-pairs}
use Rattle.state.specs.StoreMeaning.{transaction, window_at}
use Rattle.spec.specs.{Items.{Item, byte, offset, file_length, Values}, Messages.Call}
use Rattle.spec.specs.{Machine.{Machine, with_marking, file_of, values}, Age.Alike, MarkPairs.{Named, AlwaysRestsOnPairs}}
use Rattle.spec.specs.Corollaries.{RestsOnOldPairs}
use Rattle.spec.proofs.Abstract.AbstractStore.{OpenTxn, Seat, vacant, occupied, none, preserved, Abstract, abstract_after}
use Rattle.spec.proofs.Abstract.AbstractStore.{abstract_replies}
use Rattle.spec.proofs.Refinement.Relation.{open_txn_in, seat, back_values, back_in, view, Sound}
use Rattle.spec.proofs.Theorems.{Serializability.calls-agree, Recovery.reached-sound}

module _ (m : Machine) (sound : Sound m) (marks : List ℕ) (size : length marks ≡ buffer_bytes)
    (named : Named (names by_transaction marks) m) where
  abbrev other : Machine
  other = with_marking marks m

  same-open : (t : ℕ) → t < transaction_count → open_txn_in other t ≡ open_txn_in m t
  unfolding open_txn_in has_mark
  same-open t small = let e : ◌≡◌ {A = ℕ → Bool} (names by_transaction marks t) (names by_transaction m.marks t) =
      fun_ext (λ q. named t q small) in ap (λ (p : ℕ → Bool). open_with p) e
    where
      open_with : (ℕ → Bool) → OpenTxn
      open_with p =
          record { txn = (open_txn_in m t).txn; marked = p; lengths = (open_txn_in m t).lengths; stale = (open_txn_in m t).stale }

  same-seat : (t : ℕ) → seat other t ≡ seat m t
  unfolding seat
  same-seat t = pick (leb t last_transaction) (transaction m.store t).begun
      (λ e. let l = leb-true t last_transaction e in same-open t (omega arith))
    where
      pick : (b c : Bool) → (b ≡ true → open_txn_in other t ≡ open_txn_in m t)
          → cond (b && c) (occupied (open_txn_in other t)) vacant ≡ cond (b && c) (occupied (open_txn_in m t)) vacant
      pick false c h = refl
      pick true false h = refl
      pick true true h = ap occupied (h refl)

  same-found : (i : Item) → back_values other i ≡ back_values m i
  unfolding back_values
  same-found (byte q) = refl
  same-found (offset d) = refl
  same-found (file_length f) = refl

  same_back : back_in other ≡ back_in m
  same_back = unfold back_in in let e : ◌≡◌ {A = Values} (back_values other) (back_values m) = fun_ext same-found in
      ap (λ (v : Values). cond m.store.undo.valid (preserved v) none) e

  same_view : view other ≡ view m
  same_view = unfold view in let e : ◌≡◌ {A = ℕ → Seat} (seat other) (seat m) = fun_ext same-seat in λ i. record {
    file_of = file_of m.store;
    value = values m.store m.files;
    windows = window_at m.store;
    back = same_back i;
    seats = e i;
  }

  other-sound : Sound other
  other-sound = record {
    shaped = sound.shaped;
    journal = sound.journal;
    files = sound.files;
    logs = sound.logs;
    marks = size;
    undo = sound.undo;
    in_range = sound.in_range;
  }

  pub same-pairs-alike : (cs : List Call) → Alike cs m other
  unfolding view
  same-pairs-alike cs = let a = calls-agree cs m sound in let b = calls-agree cs other other-sound in record {
    replies = a.replies ∙ ap (abstract_replies cs) (sym same_view) ∙ sym b.replies;
    left = ap (λ (x : Abstract). x.value) (a.state ∙ ap (abstract_after cs) (sym same_view) ∙ sym b.state);
  }

pub always-rests-on-pairs : AlwaysRestsOnPairs
always-rests-on-pairs m r = same-pairs-alike m (reached-sound m r)

pub rests-on-old-pairs : RestsOnOldPairs
rests-on-old-pairs m r marks named =
    always-rests-on-pairs m r (rearranged marks) (same-pairs.size marks) (λ t q l. same-pairs.pairs marks t q l ∙ named t q l)
