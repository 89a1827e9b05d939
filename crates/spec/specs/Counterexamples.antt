-- Values, stores and lists of which the predicates of the statements are false: they say something.
use Rattle.std.specs.Prelude.{true, false, cond, List, [], ◌∷◌, ◌≡◌, eqb}
use Rattle.windows.specs.Windows.{window}
use Rattle.standings.specs.declared.Standing.TheVariants.{Untouched, Known}
use Rattle.state.specs.Outcomes.{done_answer, pointer, granted, refused}
use Rattle.state.specs.StoreMeaning.{begun, ended, with_stale, with_lengthmarks, with_used, with_descriptors}
use Rattle.state.specs.StoreMeaning.{with_offsets, with_lengths}
use Rattle.state.specs.StoreMeaning.{with_windows, with_transactions}
use Rattle.spec.specs.Items.{byte, offset, file_length, Values}
use Rattle.spec.specs.Messages.{get_file_pointer, read, begin, on, Reply, says}
use Rattle.spec.specs.Machine.{Machine, lent, with_store, with_files}
use Rattle.spec.specs.Calls.{fresh_store, call}
use Rattle.spec.specs.Transactions.{empty}
use Rattle.spec.specs.Plain.{Accepted, Plain, running, plain_after, with_slot}
use Rattle.spec.specs.Lengths.{ZeroBeyond, Longer}
use Rattle.spec.specs.Buffers.{Unmarked, Emptied, AllZero}
use Rattle.spec.specs.Serializability.{OneMoment}
use Rattle.spec.specs.UndoRestores.{SameCommitted}
use Rattle.spec.specs.ClosedFiles.{Spared}
use Rattle.spec.specs.Age.{Alike}
use Rattle.spec.specs.Setup.{fresh_numbered, on_plain, on_store, ◌gets◌, Goes, gives, A, dot}

-- The first byte beyond a length alone is not 0.
unfoldable pub first_beyond : Values
first_beyond (byte q) = cond (eqb q 3) 1 0
first_beyond (offset d) = 0
first_beyond (file_length f) = 3

-- That byte is one of those that ZeroBeyond speaks of; and lengths that shrink are not longer.
pub record LengthsTell : Type 0 where
  pub beyond : ZeroBeyond first_beyond → ⊥
  pub shorter : Longer (λ i. 1) (λ i. 0) → ⊥

-- A store with nothing in it, and no buffers; one with byte 3 marked; one with a length sighted.
unfoldable pub bare : Machine
bare = lent (fresh_store []) [] [] [] [] []

unfoldable pub marks_three : Machine
marks_three = lent (fresh_store []) [] [] [] (8 ∷ []) []

unfoldable pub marks_length : Machine
marks_length = lent (with_transactions (with_lengthmarks 1 begun ∷ []) (fresh_store [])) [] [] [] [] []

pub record UnmarkedTells : Type 0 where
  pub byte : Unmarked 0 marks_three → ⊥
  pub file_length : Unmarked 0 marks_length → ⊥
  pub zeros : AllZero marks_three → ⊥

-- A record used, a byte used, a descriptor that stands Known, a dirty one, and one that is stale.
pub record EmptiedTells : Type 0 where
  pub one_record : Emptied (with_used (record { records = 1; bytes = 0 }) ended) → ⊥
  pub one_byte : Emptied (with_used (record { records = 0; bytes = 1 }) ended) → ⊥
  pub known : Emptied (with_descriptors (record { standing = Known 0; dirty = false } ∷ []) ended) → ⊥
  pub dirty : Emptied (with_descriptors (record { standing = Untouched; dirty = true } ∷ []) ended) → ⊥
  pub stale : Emptied (with_stale true ended) → ⊥

-- The first reply, the second, and the buffer of the second are not those that the calls give.
pub record GoesTells : Type 0 where
  pub first : Goes on_plain (begin 0 gets says (granted 0) ∷ begin 1 gets says done_answer ∷ []) → ⊥
  pub second : Goes on_plain (begin 0 gets says done_answer ∷ begin 1 gets says (granted 0) ∷ []) → ⊥
  pub buffer : Goes on_plain (begin 0 gets says done_answer ∷ on 0 (read 0 0 (dot ∷ [])) gets gives 0 (A ∷ [])
      ∷ []) → ⊥
  -- On a store it is the store that is compared: this one has no buffers, and a byte that no call wrote.
  pub store_replies : Goes (on_store bare) (begin 0 gets says (refused 1) ∷ [])
  pub store_values : (on_store (with_files (A ∷ []) bare)).value [] (byte 0) ≡ A

-- A byte, an offset, a length that differs.
pub record SameCommittedTells : Type 0 where
  pub files : SameCommitted bare (with_files (A ∷ []) bare) → ⊥
  pub offsets : SameCommitted bare (with_store (with_offsets (1 ∷ []) bare.store) bare) → ⊥
  pub lengths : SameCommitted bare (with_store (with_lengths (1 ∷ []) bare.store) bare) → ⊥

-- Transaction 0 has written a byte to file 0, which is closed at minute 3: a grant of it would set that byte.
unfoldable pub writes_to_closed : Machine
writes_to_closed =
    let x = with_used (record { records = 1; bytes = 1 }) begun in
    lent (with_windows (window 1 2 ∷ []) (with_transactions (x ∷ []) (fresh_store []))) (0 ∷ 0 ∷ 1 ∷ []) []
    (A ∷ []) [] []

pub record SparedTells : Type 0 where
  pub bytes : Spared writes_to_closed 0 3 → ⊥

-- Transaction 0 just begun, and one whose call is recorded with a reply that it never had.
unfoldable pub one_begun : Plain
one_begun = plain_after (begin 0 ∷ []) fresh_numbered

unfoldable pub otherwise_expected : Plain
otherwise_expected =
    let calls : List Accepted = record { op = get_file_pointer 1; reply = says (granted 0) } ∷ [] in
    with_slot 0 (running (record { txn = empty; calls = calls; seen = [] })) fresh_numbered

-- Not open; another answer, other bytes; another reply before it; a call that no run in isolation gets
-- through.
pub record OneMomentTells : Type 0 where
  pub not_open : OneMoment fresh_numbered 0 (get_file_pointer 0) (says (pointer 0)) → ⊥
  pub answer : OneMoment one_begun 0 (get_file_pointer 0) (says (granted 0)) → ⊥
  pub buffer : OneMoment one_begun 0 (read 0 0 (dot ∷ [])) (gives 0 (A ∷ [])) → ⊥
  pub before : OneMoment otherwise_expected 0 (get_file_pointer 0) (says (pointer 0)) → ⊥
  pub stops : (r : Reply) → OneMoment one_begun 0 (get_file_pointer 16) r → ⊥

-- One has no buffers and refuses to begin a transaction, the other begins it; and a byte that differs.
pub record AlikeTells : Type 0 where
  pub replies : (m : Machine) → (call (begin 0) m).reply.answer ≡ done_answer → Alike (begin 0 ∷ []) bare m → ⊥
  pub left : Alike [] bare (with_files (A ∷ []) bare) → ⊥
