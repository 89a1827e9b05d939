-- The limits of specs/ hang together, computed.
use mathlib.Core.Path.{refl}
use Rattle.limits.specs.Limits.{Consistent}

consistent : Consistent
consistent = record {
  files = refl;
  descriptors = refl;
  transactions = refl;
  last_one = refl;
  file_buffer = refl;
  log_buffer = refl;
  mark_buffer = refl;
  marks = refl;
  undo = refl;
  scripts = refl;
}
