-- The rows of the table hold of its columns: each entry is computed.
use mathlib.Core.Path.{refl}
use Rattle.standings.specs.{Table.{after_seek, after_write, after_read, settled, write_place, final_offset}, Rows.Rows}

pub rows : Rows
rows = unfold after_seek after_write after_read settled write_place final_offset in record {
  untouched = (refl, refl, refl, refl, refl, refl);
  placed = (refl, refl, refl, refl, refl, refl);
  deferred = (refl, refl, refl, refl, refl, refl);
  moved = (refl, refl, refl, refl, refl, refl);
  known = (refl, refl, refl, refl, refl, refl);
  neighbours = (refl, refl, refl);
  pointers = (refl, refl, refl);
  set = (refl, refl, refl, refl, refl, refl, refl, refl, refl);
  sighted = (refl, refl, refl, refl, refl);
  advances = (refl, refl, refl, refl, refl);
  waits = (refl, refl, refl, refl, refl);
  places = (refl, refl);
}
