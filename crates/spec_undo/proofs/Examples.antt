-- Old bytes of writes that overlap are computed.
use mathlib.Core.Path.{refl}
use native.Mathlib.Omega.{arith}
use Rattle.buffers.specs.Parts.{cut, pasted}
use Rattle.spec_undo.specs.{OldBytes.{land_all, old_bytes, restored}, Examples.{overlapping, twice, UndoExamples}}

pub undo-examples : UndoExamples
undo-examples = unfold cut pasted land_all old_bytes restored overlapping twice in record {
  inside = ((omega arith, (omega arith, tt)), (omega arith, (omega arith, tt)), λ h. let z = h.0 in omega arith);
  files = refl;
  old = refl;
  back = refl;
  values = refl;
}
