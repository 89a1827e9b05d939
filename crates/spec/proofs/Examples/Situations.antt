-- The situations of paper 01 hold of the rules: each is computed.
use mathlib.Core.Path.{refl}
use Rattle.spec.specs.Situations.{Starred, filled, expected_a, expected_b, expected_c, expected_d, expected_e, expected_f}
use Rattle.spec.specs.Situations.{expected_g, expected_h, expected_i, expected_j, expected_k, expected_l}
use Rattle.spec.specs.EdgeCases.{EdgeCases, two_zeros, expected_refused_settling, expected_moved, expected_neighbour}
use Rattle.spec.specs.EdgeCases.{expected_read_none, mixed, dirty_after, read_beside, expected_refused_when_stale}
use Rattle.spec.specs.EdgeCases.{expected_stays_open, expected_placed_unsighted, expected_fifteen, expected_in_order}
use Rattle.spec.specs.EdgeCases.{expected_known_once, expected_places, expected_octet, expected_nothing_given}
use Rattle.spec.specs.EdgeCases.{expected_nothing_given_stale, expected_own_end, expected_full_read, expected_none_wanted}
use Rattle.spec.specs.EdgeCases.{expected_beyond, own_write, expected_deferred_end, expected_pointer_alone, expected_other_length}
use Rattle.spec.specs.EdgeCases.{expected_stops_alone, halfway, stands_so, settled_by_three, logged_by_one}
use Rattle.spec.specs.LaterEdgeCases.{LaterEdgeCases, closed_at_start, opened_then, undo_at_start, undo_twice}
use Rattle.spec.specs.LaterEdgeCases.{expected_setters_back, two_writes, in_file_one, of_three_bytes, expected_only_grants_count}
use Rattle.spec.specs.Setup.{on_plain}
use Rattle.spec.proofs.Examples.Opened.{opened}

-- "The starred ones hold together as a theorem about the rules."
pub starred : Starred on_plain
unfolding opened filled expected_a expected_b expected_c expected_d expected_e expected_f expected_g expected_h expected_i expected_j
starred = record {
  a = (refl, refl, refl, refl);
  b = (refl, refl);
  c = (refl, refl, refl);
  d = ((refl, refl), (refl, refl));
  e = (refl, refl);
  f = (refl, refl);
  g = (refl, refl);
  h = (refl, refl, refl, refl);
  i = (refl, refl, refl, refl);
  j = (refl, refl);
}

-- Situations k and l, and edge cases of the text that no program shows.
pub edge-cases : EdgeCases on_plain
unfolding opened filled expected_k expected_l two_zeros expected_refused_settling expected_moved expected_neighbour
    expected_read_none mixed dirty_after read_beside expected_refused_when_stale expected_stays_open expected_placed_unsighted
    expected_fifteen expected_in_order expected_known_once expected_places expected_octet expected_nothing_given
    expected_nothing_given_stale expected_own_end expected_full_read expected_none_wanted expected_beyond own_write expected_deferred_end
    expected_pointer_alone expected_other_length expected_stops_alone halfway stands_so settled_by_three logged_by_one
edge-cases = record {
  k = (refl, refl);
  l = refl;
  refused_settling = (refl, refl);
  moved = (refl, refl);
  neighbour = (refl, refl);
  read_none = (refl, refl);
  mixtures = (refl, refl, refl, refl);
  settled_stays_clean = (refl, refl);
  refused_when_stale = (refl, refl);
  stays_open = (refl, refl);
  placed_unsighted = (refl, refl);
  fifteen = (refl, refl);
  in_order = (refl, refl);
  known_once = (refl, refl);
  listed_places = (refl, refl);
  octet = (refl, refl);
  nothing_given = (refl, refl);
  nothing_given_stale = (refl, refl, refl);
  own_ending = (refl, refl);
  full_read = (refl, refl, refl);
  none_wanted = (refl, refl);
  beyond = (refl, refl);
  deferred_end = (refl, refl, refl, refl, refl);
  pointer_alone = (refl, refl);
  other_length = (refl, refl);
  stops_alone = refl;
  stops_halfway = (refl, refl, refl, refl);
  three_settled = (refl, refl, refl, refl, refl, refl, refl, refl);
  log_part = refl;
}

pub later-edge-cases : LaterEdgeCases on_plain
unfolding opened closed_at_start opened_then undo_at_start undo_twice expected_setters_back two_writes in_file_one of_three_bytes
    expected_only_grants_count
later-edge-cases = record {
  fresh_windows = (refl, refl);
  start_goes_back = (refl, refl, refl);
  setters_back = (refl, refl);
  undo_state = (refl, refl, refl, refl);
  back = (refl, refl, refl, refl, refl);
  only_grants_count = (refl, refl);
}
