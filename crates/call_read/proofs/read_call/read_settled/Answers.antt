-- `read_call::read_settled` meets its contract.
-- What is read off the record before the bytes are copied.
use mathlib.Core.Path.{◌≡◌, sym, ap, ◌∙◌}
use Prim.Native.Nat.{max}
use native.Mathlib.Omega.{arith}
use Rattle.standings.specs.Table.{offset_of}
use Rattle.read_lookup.{specs.declared.Extent.Extent, proofs.RunLaws.reach-from}
use Rattle.call_read.specs.ReadCall.{places_from}
use Rattle.call_read.proofs.GivingLaws.{places-are, handed-as, given-as}
use Rattle.call_read.proofs.read_call.read_settled.Goals as goal

pub invariant_of-records : goal.invariant_of-records
invariant_of-records c = record { counted = rw c.used_at-used.ensures c.requires.counted }

pub copy_bytes-requires : goal.copy_bytes-requires
copy_bytes-requires c =
    let a = c.args in let p = c.requires in
    let given : c.places_given-extent.result ≡ places_from a.state.now a.t a.d a.n =
    places-are _ _ _ _ _ _ _ _ _ c.used_at-used.ensures (c.from-place.ensures ∙ c.offset.ensures
    ∙ ap offset_of c.standing_at-z.ensures) c.file_at-file.ensures (c.length_for-end.ensures
    ∙ ap (max _) c.own_end-own.ensures ∙ sym (reach-from _ _ _ _ _)) c.places_given-extent.ensures in record {
      handed = handed-as _ _ _ _ _ _ _ _ c.used_at-used.ensures given p.handed;
      room = omega (arith, p.room, ap (λ (e : Extent). e.length) given);
      ends = rw (ap (λ (e : Extent). e.file) c.places_given-extent.ensures) c.own_end-own.ensures;
    }

pub put_read-requires : goal.put_read-requires
put_read-requires c =
    let a = c.args in let p = c.requires in
    let given : c.places_given-extent.result ≡ places_from a.state.now a.t a.d a.n =
    places-are _ _ _ _ _ _ _ _ _ c.used_at-used.ensures (c.from-place.ensures ∙ c.offset.ensures
    ∙ ap offset_of c.standing_at-z.ensures) c.file_at-file.ensures (c.length_for-end.ensures
    ∙ ap (max _) c.own_end-own.ensures ∙ sym (reach-from _ _ _ _ _)) c.places_given-extent.ensures in record {
      long = p.long;
      small = p.counted.small;
      few = p.few;
      standing = p.standing;
      file_in = rw given p.handed.file_in;
      places = omega (arith, p.handed.places, ap (λ (e : Extent). e.length) given);
    }

pub overflow_cast-result : goal.overflow_cast-result
overflow_cast-result c =
    let a = c.args in let p = c.requires in
    let given : c.places_given-extent.result ≡ places_from a.state.now a.t a.d a.n =
    places-are _ _ _ _ _ _ _ _ _ c.used_at-used.ensures (c.from-place.ensures ∙ c.offset.ensures
    ∙ ap offset_of c.standing_at-z.ensures) c.file_at-file.ensures (c.length_for-end.ensures
    ∙ ap (max _) c.own_end-own.ensures ∙ sym (reach-from _ _ _ _ _)) c.places_given-extent.ensures in
    omega (arith, p.handed.places, ap (λ (e : Extent). e.length) given)

pub returns : goal.returns
returns c =
    let a = c.args in let p = c.requires in
    let given : c.places_given-extent.result ≡ places_from a.state.now a.t a.d a.n =
    places-are _ _ _ _ _ _ _ _ _ c.used_at-used.ensures (c.from-place.ensures ∙ c.offset.ensures
    ∙ ap offset_of c.standing_at-z.ensures) c.file_at-file.ensures (c.length_for-end.ensures
    ∙ ap (max _) c.own_end-own.ensures ∙ sym (reach-from _ _ _ _ _)) c.places_given-extent.ensures in (
      ap (λ (e : Extent). e.length) given,
      rw given at c.put_read.ensures,
      given-as _ _ _ _ _ _ _ _ c.used_at-used.ensures given _ _ _ c.copy_bytes.ensures.reader c.copy_bytes.ensures.marks,
    )
