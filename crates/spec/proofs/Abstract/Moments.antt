-- F-7: what an accepted Read or GetFilePointer gave is what the run in isolation gives at that moment. One that is accepted is
-- not stale, so its entries are current, and the run in isolation up to it is the recorded one.
use mathlib.Core.{Bool.{Bool, true, false, cond}, List.{List, map}, Path.{◌≡◌, refl, ap, ◌∙◌, subst⁻¹}}
use lib.Dec.{leb}
use Prim.Native.Nat.{ℕ}
use Rattle.limits.specs.Limits.{last_descriptor, last_transaction}
use Rattle.spec.specs.{Items.{done, result, asked}, Transactions.{Txn, empty}}
use Rattle.spec.specs.Messages.{Op, seek, write, get_file_pointer, read, buffer_of, on, refuse_turn}
use Rattle.spec.specs.Steps.{Stepped, refuse, accept, check, seek_step, write_step, pointer_step, read_step, step}
use Rattle.spec.specs.{Steps.{descriptor_of_op, is_read_call, refuses_stale, refused_stale}, Sightings.{Entry, entries}}
use Rattle.spec.specs.LoneRuns.{Lone}
use Rattle.spec.specs.Plain.{Running, Slot, closed, running, Plain, ops, is_stale, plain_stepped, plain_on, with_number}
use Rattle.spec.specs.{Plain.plain_call, Serializability.{IsAccepted, up_to, OneMoment}}
use Rattle.spec.proofs.Abstract.{Programs.not-refused-stale, Lone.lone-more, RecordedRuns.SoundRun}
use Rattle.spec.proofs.Abstract.{PlainInvariant.{Good, SoundSlot}, SerialOrder.alone-recorded}

-- A step through a descriptor above 15 is refused with 6.
no-descriptor : (file_of : ℕ → ℕ) (o : Op) (x : Txn) → leb (descriptor_of_op o) last_descriptor ≡ false
    → step file_of o x ≡ done (refuse 6)
unfolding descriptor_of_op step seek_step write_step pointer_step read_step check
no-descriptor file_of (seek d v) x e = rw e
no-descriptor file_of (write d bytes) x e = rw e
no-descriptor file_of (get_file_pointer d) x e = rw e
no-descriptor file_of (read d n buffer) x e = rw e

module _ (p : Plain) (g : Good p) (t : ℕ) (o : Op) (look : is_read_call o ≡ true) where
  module _ (r : Running) (at : p.slots t ≡ running r) (sound : SoundRun p.file_of p.committed p.grants r) where
    abbrev es : List Entry
    es = entries p.committed.setter (asked p.committed.value (step p.file_of o r.txn))

    -- One that is not stale.
    fresh-moment : is_stale p r ≡ false → (s : Stepped) → result p.committed.value (step p.file_of o r.txn) ≡ s
        → IsAccepted (plain_stepped t o r es p s).reply → OneMoment p t o (plain_stepped t o r es p s).reply
    unfolding plain_stepped refuse_turn up_to
    fresh-moment e (refuse n) q a = absurd (a n refl)
    fresh-moment e (accept y answer buffer) q a = let l = lone-more p.file_of p.committed (ops r.calls) o empty
        r.txn y answer buffer (map (λ x. x.reply) r.calls) r.seen (alone-recorded p r sound e) q in record {
          reader = r;
          is_open = at;
          through = ap (λ (l : Lone). l.through) l;
          replies = ap (λ (l : Lone). l.replies) l;
        }

    -- What is claimed of the call's turn.
    Claim : Stepped → Type 0
    Claim s = IsAccepted (plain_stepped t o r es p s).reply → OneMoment p t o (plain_stepped t o r es p s).reply

    refused-claim : (n : ℕ) → Claim (refuse n)
    unfolding Claim plain_stepped refuse_turn
    refused-claim n a = absurd (a n refl)

    -- A stale one is refused: with 18, or before that with 6.
    open-moment : (stale low : Bool) → is_stale p r ≡ stale → leb (descriptor_of_op o) last_descriptor ≡ low
        → Claim (refused_stale stale o (result p.committed.value (step p.file_of o r.txn)))
    unfolding Claim refused_stale refuses_stale result
    open-moment false low e f = let s = result p.committed.value (step p.file_of o r.txn) in
        subst⁻¹ Claim (not-refused-stale false o s refl) (fresh-moment e s refl)
    open-moment true true e f = let s = result p.committed.value (step p.file_of o r.txn) in
        let b : refuses_stale true o ≡ true = rw (look, f) in
        subst⁻¹ Claim (ap (λ (c : Bool). cond c (refuse 18) s) b) (refused-claim 18)
    open-moment true false e f = let s = result p.committed.value (step p.file_of o r.txn) in
        let b : refuses_stale true o ≡ false = rw (look, f) in
        let six : s ≡ refuse 6 = ap (result p.committed.value) (no-descriptor p.file_of o r.txn f) in
        subst⁻¹ Claim (ap (λ (c : Bool). cond c (refuse 18) s) b ∙ six) (refused-claim 6)

  slot-moment : (s : Slot) → p.slots t ≡ s → SoundSlot p.file_of p.committed p.grants s
      → IsAccepted (plain_on t o s p).reply → OneMoment p t o (plain_on t o s p).reply
  unfolding plain_on refuse_turn SoundSlot Claim
  slot-moment closed at sound a = absurd (a 4 refl)
  slot-moment (running r) at sound a = open-moment r at sound (is_stale p r) (leb (descriptor_of_op o) last_descriptor) refl refl a

  pub plain-moment : IsAccepted (plain_call (on t o) p).reply → OneMoment p t o (plain_call (on t o) p).reply
  unfolding plain_call with_number refuse_turn
  plain-moment = chosen (leb t last_transaction)
    where
      chosen : (b : Bool) → let w = cond b (plain_on t o (p.slots t) p) (refuse_turn 3 (buffer_of o) p) in IsAccepted w.reply
          → OneMoment p t o w.reply
      chosen true a = slot-moment (p.slots t) refl (g.sound t) a
      chosen false a = absurd (a 3 refl)
