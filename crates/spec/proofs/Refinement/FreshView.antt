-- Fresh: a sound store, which stands for the abstract store's first.
use mathlib.Core.{Bool.{false, true≢false}, List.List, Logic.{◌⊎◌, inl, inr}, Path.{◌≡◌, refl, sym, ap, ◌∙◌, fun_ext}}
use lib.ListN.{length, get_or, replicate, length-replicate, get_or-replicate}
use Prim.Native.Nat.{ℕ, zero, suc, ◌≤◌, ◌<◌}
use native.Mathlib.Omega.{arith}
use Rattle.state.specs.{Journal.journal_length, declared.Transaction.Transaction}
use Rattle.state.specs.StoreMeaning.{transaction, no_transaction, no_descriptor, ended, window_at}
use Rattle.limits.specs.Limits.{last_file, buffer_bytes, descriptor_count, transaction_count, undo_bytes}
use Rattle.windows.specs.Windows.{minute_in, Windows, fresh_window, fresh_windows}
use Rattle.buffers.proofs.PartLaws.{le-or-lt}
use Rattle.admission.{proofs.Laws.{InRange, in-range-intro}, specs.Admission.window_in}
use Rattle.spec.specs.{Items.{Item, byte, offset, file_length, Values}, Machine.{file_of, values}}
use Rattle.spec.specs.Calls.{fresh_store, fresh_machine}
use Rattle.spec.proofs.Abstract.AbstractStore.{Seat, vacant, none, start_abstract}
use Rattle.spec.proofs.Refinement.{Relation.{open_txn_in, seat, back_in, view, Shaped, Sound}, AfterReset.{seat-in, seat-out}}

-- Zeros, inside and past the end.
zeros : (n k : ℕ) → ◌≡◌ {A = ℕ} (get_or (replicate n 0) k 0) 0
zeros zero k = refl
zeros (suc n) zero = refl
zeros (suc n) (suc k) = zeros n k

-- Windows of 0 and 0, inside and past the end.
always : (n k : ℕ) → get_or (replicate n fresh_window) k fresh_window ≡ fresh_window
always zero k = refl
always (suc n) zero = refl
always (suc n) (suc k) = always n k

length-zeros : (n : ℕ) → length (replicate n zero) ≡ n
length-zeros n = length-replicate n zero

module _ (numbers : List ℕ) (logs old : List ℕ) where
  ended_at : (u : ℕ) → u < transaction_count → transaction (fresh_store numbers) u ≡ ended
  ended_at u l = unfold fresh_store in get_or-replicate 8 u ended no_transaction l

  pub closed_at : (u : ℕ) → u < transaction_count → (transaction (fresh_machine numbers logs old).store u).begun ≡ false
  closed_at u l = unfold fresh_machine ended in ap (λ (x : Transaction). x.begun) (ended_at u l)

  seats : (u : ℕ) → (transaction_count ≤ u) ⊎ (u < transaction_count) → seat (fresh_machine numbers logs old) u ≡ vacant
  seats u (inl l) = seat-out (fresh_machine numbers logs old) u l
  seats u (inr l) =
      seat-in (fresh_machine numbers logs old) u false (open_txn_in (fresh_machine numbers logs old) u) l (closed_at u l) refl

  fresh-values : (n : ℕ) (i : Item) → values (fresh_store numbers) (replicate n 0) i ≡ 0
  unfolding values fresh_store
  fresh-values n (byte q) = zeros n q
  fresh-values n (offset d) = zeros 16 d
  fresh-values n (file_length f) = zeros 8 f

  pub fresh-view : view (fresh_machine numbers logs old) ≡ start_abstract (λ d. get_or numbers d 0) (λ i. 0) fresh_windows none
  unfolding view start_abstract fresh_machine fresh_store file_of back_in
  fresh-view = let e : ◌≡◌ {A = ℕ → Seat} (seat (fresh_machine numbers logs old)) (λ u. vacant) =
      fun_ext (λ u. seats u (le-or-lt 8 u)) in
      let f : ◌≡◌ {A = Values} (values (fresh_store numbers) (replicate buffer_bytes 0)) (λ i. 0) = fun_ext (fresh-values
      buffer_bytes) in let w : ◌≡◌ {A = Windows} (window_at (fresh_store numbers)) fresh_windows = fun_ext (always 8) in
      λ i. record { file_of = λ d. get_or numbers d 0; value = f i; windows = w i; back = none; seats = e i }

  fresh-shaped : length numbers ≡ descriptor_count → Shaped (fresh_store numbers)
  fresh-shaped e = unfold fresh_store ended in record {
    files = e;
    offsets = length-zeros 16;
    lengths = length-zeros 8;
    windows = length-replicate 8 fresh_window;
    found_offsets = length-zeros 16;
    found_lengths = length-zeros 8;
    transactions = length-replicate 8 ended;
    descriptors = λ u l. ap (λ (x : Transaction). length x.descriptors) (ended_at u l)
        ∙ length-replicate 16 no_descriptor;
  }

  fresh_in : ((d : ℕ) → d < descriptor_count → get_or numbers d 0 ≤ last_file)
      → InRange (fresh_store numbers) (replicate journal_length 0)
  fresh_in h = unfold fresh_store ended in record {
    files = h;
    offsets = λ d l. rw (zeros 16 d) (omega arith);
    lengths = λ f l. rw (zeros 8 f) (omega arith);
    windows = λ f l. rw (always 8 f) (unfold window_in minute_in in refl);
    undo = λ h. absurd (true≢false (sym h));
    transactions = λ u l b. absurd (true≢false (sym b ∙ ap (λ (x : Transaction). x.begun) (ended_at u l)));
  }

  pub fresh-sound : length numbers ≡ descriptor_count → ((d : ℕ) → d < descriptor_count → get_or numbers d 0 ≤ last_file)
      → length logs ≡ buffer_bytes → length old ≡ undo_bytes → Sound (fresh_machine numbers logs old)
  fresh-sound e h g k = unfold fresh_machine in record {
    shaped = fresh-shaped e;
    journal = length-zeros journal_length;
    files = length-zeros buffer_bytes;
    logs = g;
    marks = length-zeros buffer_bytes;
    undo = k;
    in_range = in-range-intro (fresh_store numbers) (replicate journal_length 0) (fresh_in h);
  }
