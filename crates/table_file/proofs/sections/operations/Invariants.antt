use Rattle.std.proofs.Common.{◌≡◌, [], length}
use Rattle.std.specs.Prelude.{IsTrue}
use Rattle.stub_tables.specs.Codes.{have_own_codes}
use Rattle.table_file.specs.Reading.{spot_of}
use Rattle.table_file.specs.Sections.{adds_operation}
use Rattle.table_file.specs.Kept.{AreNames, AreOperationCodes}
use Rattle.table_file.proofs.Folding.{Goes}
use Rattle.table_file.proofs.sections.operations.Given as goal

abbrev pub invariant-loop-index : goal.invariant-loop-index
invariant-loop-index l = record {
  goes : Goes (adds_operation l.types l.errors) [] (spot_of l.fn.spot) l.count l._index l.operations (spot_of l.spot);
  names : AreNames l.names l.errors l.operations;
  codes : AreOperationCodes l.codes l.operations;
  own : IsTrue (have_own_codes (λ o. o.code) l.operations);
  count : length l.operations ≡ l._index;
}
