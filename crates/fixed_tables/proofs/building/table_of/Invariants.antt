use Rattle.std.proofs.Common.{◌≡◌, true}
use Rattle.std.specs.Vec.Iter.{into_iter_items}
use Rattle.fixed_tables.specs.Rows.{all_added}
use Rattle.fixed_tables.proofs.building.table_of.Given as goal

abbrev pub invariant-loop-row : goal.invariant-loop-row
invariant-loop-row l = record {
  is : l.table ≡ l.yielded;
  added : all_added l.yielded (into_iter_items l.row-iterator) ≡ true;
}
