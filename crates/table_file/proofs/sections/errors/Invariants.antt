use Rattle.std.proofs.Common.{◌≡◌, [], length}
use Rattle.std.specs.Prelude.{IsTrue}
use Rattle.stub_tables.specs.Codes.{have_own_codes}
use Rattle.table_file.specs.Reading.{spot_of}
use Rattle.table_file.specs.Sections.{adds_error}
use Rattle.table_file.specs.Kept.{AreErrorNames, AreErrorCodes}
use Rattle.table_file.proofs.Folding.{Goes}
use Rattle.table_file.proofs.sections.errors.Given as goal

abbrev pub invariant-loop-index : goal.invariant-loop-index
invariant-loop-index l = record {
  goes : Goes (λ n. adds_error l.types) [] (spot_of l.fn.spot) l.number l._index l.errors (spot_of l.spot);
  names : AreErrorNames l.names l.errors;
  codes : AreErrorCodes l.codes l.errors;
  own : IsTrue (have_own_codes (λ e. e.code) l.errors);
  count : length l.errors ≡ l._index;
}
