use Rattle.std.proofs.Common.{rules}
use Rattle.module_compiler.specs.Refusals.{HasFault}
use Rattle.module_compiler.proofs.Least.{fault_or_none, complete_of}
use Rattle.module_compiler.proofs.compiling.compile.Goals as goal

pub returns-in-Some-clause-complete : goal.returns-in-Some-clause-complete
returns-in-Some-clause-complete c none =
    let has : HasFault c.args.text.now c.in-Some.found.place.line c.in-Some.found.place.column c.in-Some.found.kind = search rules in
    absurd (fault_or_none c.args.text.now c.in-Some.found.place.line c.in-Some.found.place.column c.in-Some.found.kind none has)

pub returns-in-None-clause-complete : goal.returns-in-None-clause-complete
returns-in-None-clause-complete c = complete_of c.args.text.now c.tabled_module.result c.tabled_module.ensures.no_memory
