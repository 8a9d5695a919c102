use Rattle.std.proofs.Common.{◌≡◌, drop}
use Rattle.std.specs.List.{list_all}
use Rattle.stub_tables.specs.declared.operation.ErrorRow.{ErrorRow}
use Rattle.stub_tables.specs.Readable.{code_fits}
use Rattle.stub_tables.proofs.readable.errors_fit.Given as goal

abbrev pub invariant-loop-error : goal.invariant-loop-error
invariant-loop-error l = list_all (λ (e : ErrorRow). code_fits e.code) (drop l.error-index l.errors) ≡ list_all (λ (e : ErrorRow). code_fits e.code) l.errors
