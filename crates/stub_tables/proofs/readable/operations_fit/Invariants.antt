use Rattle.std.proofs.Common.{◌≡◌, drop}
use Rattle.std.specs.List.{list_all}
use Rattle.stub_tables.specs.declared.operation.Operation.{Operation}
use Rattle.stub_tables.specs.Readable.{code_fits}
use Rattle.stub_tables.proofs.readable.operations_fit.Given as goal

abbrev pub invariant-loop-operation : goal.invariant-loop-operation
invariant-loop-operation l = list_all (λ (o : Operation). code_fits o.code) (drop l.operation-index l.operations) ≡ list_all (λ (o : Operation). code_fits o.code) l.operations
