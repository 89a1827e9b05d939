-- The predicates of the statements say something: each is false of the values of Counterexamples.antt.
use mathlib.Core.{Bool.{Bool, true≢false}, List.{List, [], ◌∷◌, ◌++◌, map}, Path.{◌≡◌, refl, sym, ap, ◌∙◌}}
use lib.ListN.{get_or}
use native.Mathlib.Omega.{arith}
use Prim.Native.Nat.{ℕ}
use Rattle.buffers.specs.{Bits.bit, Marks.{names, has_mark}}
use Rattle.standings.specs.{declared.Standing.Standing, Table.is_known}
use Rattle.state.specs.{Outcomes.done_answer, StoreMeaning.ended}
use Rattle.admission.specs.Admission.{sizes_in, first_tests, shared, admission_of_begin}
use Rattle.spec.specs.{Items.{byte, Values}, Messages.{Op, Reply, says, grants_among}}
use Rattle.spec.specs.Plain.{Accepted, Slot, closed, running, is_running, Plain}
use Rattle.spec.specs.{Calls.{call, passing, refuse_turn, fresh_store}, Serializability.{up_to, OneMoment}, ClosedFiles.first}
use Rattle.spec.specs.Setup.{on_store}
use Rattle.spec.specs.Counterexamples.{bare, marks_three, marks_length, UnmarkedTells, EmptiedTells, GoesTells}
use Rattle.spec.specs.Counterexamples.{SameCommittedTells, writes_to_closed, SparedTells, one_begun, otherwise_expected}
use Rattle.spec.specs.Counterexamples.{OneMomentTells, AlikeTells}
use Rattle.spec.proofs.{Examples.Opened.opened, Theorems.Answers.answer-not-refused}

pub unmarked-tells : UnmarkedTells
unmarked-tells = unfold marks_three marks_length fresh_store has_mark names bit in record {
  byte = λ h. true≢false (h.bytes 3);
  file_length = λ h. let z : ◌≡◌ {A = ℕ} 1 0 = h.lengths in omega arith;
  zeros = λ h. let z : ◌≡◌ {A = ℕ} 8 0 = ap (λ (xs : List ℕ). get_or xs 0 0) h.marks in omega arith;
}

pub emptied-tells : EmptiedTells
emptied-tells = unfold ended in record {
  one_record = λ h. let z : ◌≡◌ {A = ℕ} 1 0 = h.records in omega arith;
  one_byte = λ h. let z : ◌≡◌ {A = ℕ} 1 0 = h.bytes in omega arith;
  known = λ h. true≢false (ap (λ (z : Standing). is_known z) (h.untouched 0));
  dirty = λ h. true≢false (h.clean 0);
  stale = λ h. true≢false h.not_stale;
}

-- The first byte of reply k.
abbrev first_byte : ℕ → List Reply → ℕ
first_byte k rs = get_or (get_or rs k (says done_answer)).buffer 0 0

pub goes-tells : GoesTells
unfolding opened grants_among on_store bare call passing refuse_turn admission_of_begin shared first_tests sizes_in
goes-tells = record {
  first = λ h. let z : ◌≡◌ {A = ℕ} 0 1 = ap grants_among h in omega arith;
  second = λ h. let z : ◌≡◌ {A = ℕ} 0 1 = ap grants_among h in omega arith;
  buffer = λ h. let z : ◌≡◌ {A = ℕ} 46 65 = ap (first_byte 1) h in omega arith;
  store_replies = refl;
  store_values = refl;
}

pub same-committed-tells : SameCommittedTells
same-committed-tells = unfold bare fresh_store in let head : List ℕ → ℕ = λ xs. get_or xs 0 0 in record {
  files = λ h. let z : ◌≡◌ {A = ℕ} 65 0 = ap head h.files in omega arith;
  offsets = λ h. let z : ◌≡◌ {A = ℕ} 1 0 = ap head h.offsets in omega arith;
  lengths = λ h. let z : ◌≡◌ {A = ℕ} 1 0 = ap head h.lengths in omega arith;
}

pub spared-tells : SparedTells
spared-tells = unfold opened writes_to_closed in record { bytes = λ h. true≢false (h.bytes _ 0 (first _) refl) }

-- What a moment says of the transaction that is open.
replies_in : Plain → Op → Slot → List Reply
replies_in p o closed = []
replies_in p o (running r) = (up_to p r o).replies

through_in : Plain → Op → Slot → Bool
through_in p o closed = is_running closed
through_in p o (running r) = (up_to p r o).through

calls_in : Slot → List Accepted
calls_in closed = []
calls_in (running r) = r.calls

moment-replies : (p : Plain) (t : ℕ) (o : Op) (reply : Reply) → OneMoment p t o reply
    → replies_in p o (p.slots t) ≡ map (λ a. a.reply) (calls_in (p.slots t)) ++ (reply ∷ [])
unfolding replies_in calls_in
moment-replies p t o reply h = ap (replies_in p o) h.is_open ∙ h.replies
    ∙ sym (ap (λ (s : Slot). map (λ a. a.reply) (calls_in s) ++ (reply ∷ [])) h.is_open)

pub one-moment-tells : OneMomentTells
one-moment-tells = unfold opened up_to one_begun otherwise_expected grants_among replies_in through_in calls_in in record {
  not_open = λ h. true≢false (sym (ap is_running h.is_open));
  answer = λ h. let z : ◌≡◌ {A = ℕ} 0 1 = ap grants_among (moment-replies _ 0 _ _ h) in omega arith;
  buffer = λ h. let z : ◌≡◌ {A = ℕ} 46 65 = ap (first_byte 0) (moment-replies _ 0 _ _ h) in omega arith;
  before = λ h. let z : ◌≡◌ {A = ℕ} 0 1 = ap grants_among (moment-replies _ 0 _ _ h) in omega arith;
  stops = λ r h. true≢false (sym (ap (through_in one_begun _) h.is_open ∙ h.through));
}

pub alike-tells : AlikeTells
alike-tells = unfold opened bare call passing refuse_turn admission_of_begin shared first_tests sizes_in in record {
  replies = λ m e h. answer-not-refused done_answer 1 tt
      (sym (ap (λ (rs : List Reply). (get_or rs 0 (says done_answer)).answer) h.replies ∙ e));
  left = λ h. let z : ◌≡◌ {A = ℕ} 0 65 = ap (λ (v : Values). v (byte 0)) h.left in omega arith;
}
