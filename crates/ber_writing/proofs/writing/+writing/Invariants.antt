use Rattle.std.proofs.Common.{◌≡◌, ◌≤◌, ◌+◌, ◌-◌, ◌*◌, ◌++◌, drop, length}
use Rattle.asn1_types.specs.ValueView.{parts_of, values_of}
use Rattle.asn1_types.specs.Writing.{parts_contents, values_contents, of_rank, risen_parts, writes}
use Rattle.asn1_types.specs.Tags.{ranks}
use Rattle.ber_writing.proofs.writing.+writing.Given as goal

abbrev pub decreases-put_value : goal.decreases-put_value
decreases-put_value l = 6 * l.of.0 + 5

abbrev pub decreases-put_row : goal.decreases-put_row
decreases-put_row l = 6 * l.of.0 + 4

abbrev pub decreases-put_explicit : goal.decreases-put_explicit
decreases-put_explicit l = 6 * l.of.0 + 3

abbrev pub decreases-put_choice : goal.decreases-put_choice
decreases-put_choice l = 6 * l.of.0 + 3

abbrev pub decreases-put_alternative : goal.decreases-put_alternative
decreases-put_alternative l = 6 * l.of.0 + 2

abbrev pub decreases-put_sequence : goal.decreases-put_sequence
decreases-put_sequence l = 6 * l.of.0 + 3

abbrev pub decreases-put_parts : goal.decreases-put_parts
decreases-put_parts l = 6 * l.of.0 + 2

abbrev pub decreases-put_part : goal.decreases-put_part
decreases-put_part l = 6 * l.of.0 + 1

abbrev pub decreases-put_parts-loop-index : goal.decreases-put_parts-loop-index
decreases-put_parts-loop-index l = l.index

abbrev pub invariant-put_parts-loop-index : goal.invariant-put_parts-loop-index
invariant-put_parts-loop-index l = record {
  parts : l.index ≤ length l.parts;
  values : l.index ≤ length l.values;
  place : l.start + length (parts_contents (writes l.table) (drop l.index l.parts) (parts_of (drop l.index l.values))) ≡ l.end;
  put : drop l.start l.room ≡ parts_contents (writes l.table) (drop l.index l.parts) (parts_of (drop l.index l.values)) ++ drop l.end l.fn.room;
}

abbrev pub decreases-put_list : goal.decreases-put_list
decreases-put_list l = 6 * l.of.0 + 3

abbrev pub decreases-put_values : goal.decreases-put_values
decreases-put_values l = 6 * l.of.0 + 2

abbrev pub decreases-put_values-loop-index : goal.decreases-put_values-loop-index
decreases-put_values-loop-index l = l.index

abbrev pub invariant-put_values-loop-index : goal.invariant-put_values-loop-index
invariant-put_values-loop-index l = record {
  within : l.index ≤ length l.values;
  place : l.start + length (values_contents (writes l.table l.inner.0) (values_of (drop l.index l.values))) ≡ l.end;
  put : drop l.start l.room ≡ values_contents (writes l.table l.inner.0) (values_of (drop l.index l.values)) ++ drop l.end l.fn.room;
}

abbrev pub decreases-put_set : goal.decreases-put_set
decreases-put_set l = 6 * l.of.0 + 3

abbrev pub decreases-put_risen : goal.decreases-put_risen
decreases-put_risen l = 6 * l.of.0 + 2

abbrev pub decreases-put_of_rank : goal.decreases-put_of_rank
decreases-put_of_rank l = 6 * l.of.0 + 1

abbrev pub decreases-put_if_of_rank : goal.decreases-put_if_of_rank
decreases-put_if_of_rank l = 6 * l.of.0

abbrev pub decreases-put_risen-loop-bound : goal.decreases-put_risen-loop-bound
decreases-put_risen-loop-bound l = l.bound

abbrev pub invariant-put_risen-loop-bound : goal.invariant-put_risen-loop-bound
invariant-put_risen-loop-bound l = record {
  within : l.bound ≤ ranks;
  place : l.start + length (risen_parts (writes l.table) (ranks - l.bound) l.bound l.parts (parts_of l.values)) ≡ l.end;
  put : drop l.start l.room ≡ risen_parts (writes l.table) (ranks - l.bound) l.bound l.parts (parts_of l.values) ++ drop l.end l.fn.room;
}

abbrev pub decreases-put_of_rank-loop-index : goal.decreases-put_of_rank-loop-index
decreases-put_of_rank-loop-index l = l.index

abbrev pub invariant-put_of_rank-loop-index : goal.invariant-put_of_rank-loop-index
invariant-put_of_rank-loop-index l = record {
  parts : l.index ≤ length l.parts;
  values : l.index ≤ length l.values;
  place : l.start + length (parts_contents (of_rank l.rank (writes l.table)) (drop l.index l.parts) (parts_of (drop l.index l.values))) ≡ l.end;
  put : drop l.start l.room ≡ parts_contents (of_rank l.rank (writes l.table)) (drop l.index l.parts) (parts_of (drop l.index l.values)) ++ drop l.end l.fn.room;
}
