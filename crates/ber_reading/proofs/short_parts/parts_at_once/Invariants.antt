use Rattle.std.proofs.Common.{◌≡◌, ◌+◌, drop, length}
use Rattle.std.specs.Vec.{vec_len, vec_capacity}
use Rattle.asn1_types.specs.Rows.{begins}
use Rattle.ber_spelling.specs.Reading.{spot_of, GoesOn}
use Rattle.ber_spelling.specs.Rules.{reads}
use Rattle.ber_reading.specs.Parts.{parts_from, parts_behind}
use Rattle.ber_reading.proofs.short_parts.parts_at_once.Given as goal

abbrev pub invariant-loop-part : goal.invariant-loop-part
invariant-loop-part l = record {
  onward : GoesOn l.fn.spot.place (length l.fn.spot.rest.now) l.spot;
  len : vec_len l.found ≡ vec_len l.fn.found + l.part-index;
  room : vec_capacity l.found ≡ vec_capacity l.fn.found;
  so_far : parts_behind l.found.items (parts_from (begins l.table) (reads l.table) l.scope (spot_of l.spot) (drop l.part-index l.parts)) ≡ parts_behind l.fn.found.items (parts_from (begins l.table) (reads l.table) l.scope (spot_of l.fn.spot) l.parts);
}
