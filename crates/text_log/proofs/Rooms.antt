-- A buffer of 4,097 bytes serves for every Read.
use mathlib.Core.{Bool.{Bool, true, false}, List.{List, [], ◌++◌}, Path.{◌≡◌, refl, sym, ap, ap₂, ◌∙◌}}
use Prim.Native.Nat.{ℕ, ◌-◌, ◌≤◌, ◌<◌, min}
use native.Mathlib.Omega.{arith}
use lib.{Dec.{leb, ltb}, ListN.{length, drop}, Seq.take-append_seam}
use borrow.Author.Tests.{leb-true, le-leb, lt-leb, lt-ltb, le-ltb, ltb-true, ltb-false}
use Rattle.text_log.specs.{LogLines.most_written, Replays.{shown, SameTurn}}
use Rattle.limits.specs.Limits.{file_bytes, last_descriptor, transaction_count, last_transaction}
use Rattle.state.specs.StoreMeaning.{transaction}
use Rattle.admission.{specs.{Admission.admission, FirstRefusal.unless}, proofs.Laws.in-range}
use Rattle.standings.specs.Table.{offset_of}
use Rattle.spec.specs.{Items.{Item, file_length, Values, and_then, result, asked}, Machine.{Machine, txn_of, values, file_of}}
use Rattle.spec.specs.{Messages.{Call, on, read, buffer_of}, Transactions.{Txn, Write, settling, Settled, past, all}}
use Rattle.spec.specs.Reading.{fetch, length_for, length_sighted, gather}
use Rattle.spec.specs.Steps.{check, or_given_back, read_settled, read_step, settled_by_read, step, refused_stale, refuses_stale}
use Rattle.spec.specs.{Steps.{is_read_call, descriptor_of_op}, SerializabilityOfStore.FreshlyMade}
use Rattle.spec.proofs.Theorems.Serializability.{calls-agree, fresh-facts}
use Rattle.spec.specs.Calls.{call, calls_after, Turn, refuse_turn, passing, admitted, step_turn}
use Rattle.spec.proofs.Refinement.{Relation.{TxnIn, Sound}, Admissions.shared-is, Accepted.length-in, Chosen.those-in}
use Rattle.spec.proofs.Refinement.{Decode.decoded-in, WriteEnds.length-for, StepPreserves.{Preserved, pieces, settling-preserved}}
use Rattle.spec.proofs.Abstract.Programs.{result-and_then, asked-and_then}
use Rattle.text_log.proofs.Again.{Close, Near, near-at, near-refused, near-check, turned-close, served-alike}

-- ---- what is gathered

-- Of a file of at most 4,096 bytes, 4,097 and more give and sight the same.
module _ (v : Values) (file : ℕ → ℕ) (ws : List Write) (f p n : ℕ)
    (short : length_for file f ws (v (file_length f)) ≤ file_bytes) where
  abbrev space : ℕ
  space = length_for file f ws (v (file_length f)) - p

  same_count : min (min n most_written) space ≡ min n space
  same_count = omega arith

  same-short : ltb (min (min n most_written) space) (min n most_written) ≡ ltb (min n space) n
  same-short = pick (ltb space n) refl
    where
      pick : (b : Bool) → ltb space n ≡ b → ltb (min (min n most_written) space) (min n most_written) ≡ ltb (min n space) n
      pick true e = let h = ltb-true space n e in
          lt-ltb (min (min n 4097) space) (min n 4097) (omega arith) ∙ sym (lt-ltb (min n space) n (omega arith))
      pick false e = let h = ltb-false space n e in
          le-ltb (min (min n 4097) space) (min n 4097) (omega arith) ∙ sym (le-ltb (min n space) n (omega arith))

  same_bytes : result v (gather file ws f p (min n most_written)) ≡ result v (gather file ws f p n)
  unfolding gather result
  same_bytes = ap₂ (λ (m : ℕ) (b : Bool). result v (and_then (fetch file ws f p m) (length_sighted b f))) same_count same-short

  same_asked : asked v (gather file ws f p (min n most_written)) ≡ asked v (gather file ws f p n)
  unfolding gather asked
  same_asked = ap₂ (λ (m : ℕ) (b : Bool). asked v (and_then (fetch file ws f p m) (length_sighted b f))) same_count same-short

-- ---- a step

module _ (v : Values) (file : ℕ → ℕ) (d n : ℕ) (b c : List ℕ) (bounded : (f : ℕ) → v (file_length f) ≤ file_bytes) where
  near-settled : (y : Txn) → TxnIn y → Near v (read_settled file d (min n most_written) c y) (read_settled file d n b y)
  near-settled y h = unfold read_settled Close asked result shown in let f = file d in let p = offset_of (y.standing d) in
      let short = length-for file f y (v (file_length f)) (bounded f) h in
      let g = gather file y.writes f p (min n 4097) in let k = gather file y.writes f p n in
      let e = same_bytes v file y.writes f p n short in let bytes = result v k in record {
        asks = asked-and_then v g _ ∙ ap (λ (is : List Item). is ++ []) (same_asked v file y.writes f p n short)
            ∙ sym (asked-and_then v k _);
        comes = rw (result-and_then v g, result-and_then v k, e) (
          refl,
          refl,
          take-append_seam bytes (drop (length bytes) c) ∙ sym (take-append_seam bytes (drop (length bytes) b)),
        );
      }

  near-given : (ds : List ℕ) (x : Txn) → Preserved (pieces x.writes) x
      → ((y : Txn) → result v (settling ds x) ≡ all y → TxnIn y) → (s : Settled) → result v (settling ds x) ≡ s
      → Near v (or_given_back (read_settled file d (min n most_written) c) s) (or_given_back (read_settled file d n b) s)
  unfolding or_given_back
  near-given ds x h state past e = near-refused v 12
  near-given ds x h state (all y) e = near-settled y (state y e)

  near-read : n ≤ length b → length c ≡ most_written → (x : Txn) → TxnIn x
      → Near v (read_step file d (min n most_written) c x) (read_step file d n b x)
  near-read l e x h = unfold read_step check settled_by_read in let ds = settled_by_read file d x in
      let start : Preserved (pieces x.writes) x = record { ranges = h; same = refl } in
      rw (le-leb (min n 4097) (length c) (omega arith), le-leb n (length b) l) (near-check v (leb d last_descriptor) 6 _ _
      (near-at v (settling ds x) _ _ (near-given ds x start (λ y q. (settling-preserved v ds x y (pieces x.writes)
      (those-in _ 16 (omega arith)) start q).ranges) (result v (settling ds x)) refl)))

  -- A Read of more than its buffer holds is refused in either.
  near-refusing : length b < n → length c ≤ length b → (x : Txn) → Near v (read_step file d n c x) (read_step file d n b x)
  unfolding read_step check
  near-refusing l e x =
      rw (lt-leb n (length c) (omega arith), lt-leb n (length b) l) (near-check v (leb d last_descriptor) 6 _ _ (near-refused v 7))

-- ---- a call

refused-alike : (b c : List ℕ) (m : Machine) (x y : Turn) (p q : Bool) → (p ≡ true → q ≡ true → SameTurn x y)
    → SameTurn (passing (unless p 3 (unless q 4 0)) b m x) (passing (unless p 3 (unless q 4 0)) c m y)
unfolding passing unless refuse_turn shown
refused-alike b c m x y false q h = record { after = refl; answer = refl; shows = refl }
refused-alike b c m x y true false h = record { after = refl; answer = refl; shows = refl }
refused-alike b c m x y true true h = h refl refl

module _ (m : Machine) (t : ℕ) (sound : Sound m) where
  pub admitted-open : (b c : List ℕ) (x y : Turn) → (t < transaction_count → (transaction m.store t).begun ≡ true → SameTurn x y)
      → SameTurn (admitted t b m x) (admitted t c m y)
  unfolding admitted admission
  admitted-open b c x y h = rw (shared-is m t sound (unless (transaction m.store t).begun 4 0))
      (refused-alike b c m x y (leb t last_transaction) (transaction m.store t).begun
      (λ l q. let k = leb-true t last_transaction l in h (omega arith) q))

  pub roomy : (d n : ℕ) (b c : List ℕ) → n ≤ length b → length c ≡ most_written
      → SameTurn (call (on t (read d (min n most_written) c)) m) (call (on t (read d n b)) m)
  unfolding call buffer_of step_turn step refused_stale refuses_stale is_read_call descriptor_of_op
  roomy d n b c l e = admitted-open c b _ _ (λ small begun. let r = in-range m.store m.journal sound.in_range in
      let x = txn_of m.store m.journal m.logs t in let v = values m.store m.files in let ranges =
      decoded-in m.store m.journal m.logs t sound.logs small (r.transactions t small begun)
      (sound.shaped.descriptors t small) in let near = near-read v (file_of m.store) d n b c (length-in m.store
      m.journal m.files sound.shaped.lengths r) l e x ranges in rw near.asks (served-alike t d (min n 4097) n c
      b m _ _ _ (turned-close (refuses_stale (transaction m.store t).stale (read d n b)) _ _ near.comes)))

  pub roomless : (d n : ℕ) (b c : List ℕ) → length b < n → length c ≤ length b
      → SameTurn (call (on t (read d n c)) m) (call (on t (read d n b)) m)
  unfolding call buffer_of step_turn step refused_stale refuses_stale is_read_call descriptor_of_op
  roomless d n b c l e = admitted-open c b _ _
      (λ small begun. let r = in-range m.store m.journal sound.in_range in let x = txn_of m.store m.journal
      m.logs t in let v = values m.store m.files in let near = near-refusing v (file_of m.store) d n b c
      (length-in m.store m.journal m.files sound.shaped.lengths r) l e x in rw near.asks (served-alike t d n
      n c b m _ _ _ (turned-close (refuses_stale (transaction m.store t).stale (read d n b)) _ _ near.comes)))

-- A store that was made by Fresh is sound after every list of calls.
pub made-sound : (numbers : List ℕ) (m : Machine) → FreshlyMade numbers m → (cs : List Call) → Sound (calls_after cs m)
made-sound numbers m made cs = (calls-agree cs m (fresh-facts numbers m made).sound).sound
