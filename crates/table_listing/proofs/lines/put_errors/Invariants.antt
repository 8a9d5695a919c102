use Rattle.std.proofs.Common.{◌≡◌, ◌++◌, take}
use Rattle.std.specs.Prelude.{flat_map}
use Rattle.table_listing.specs.Listing.{error_line}
use Rattle.table_listing.proofs.lines.put_errors.Given as goal

abbrev pub invariant-loop-error : goal.invariant-loop-error
invariant-loop-error l = l.text ≡ l.fn.text ++ flat_map error_line (take l.error-index l.errors)
