use Rattle.std.proofs.Common.{Option, subst}
use Rattle.asn1_types.specs.declared.value.Val.{Val}
use Rattle.rose_roles.specs.Values.{IsAllowedIn}
use Rattle.rose_roles.proofs.Allowed.{right_there, wrong_there}
use Rattle.rose_roles.proofs.apdu_problems.value_or_problem.Goals as goal

pub returns-in-Some : goal.returns-in-Some
returns-in-Some c = λ carried k.
    right_there c.args.tables.now c.hold_readable.ensures c.args.syntax c.args.room c.args.used.now c.args.octets.now c.args.problem carried c.in-Some.value k
    (subst (λ (x : Option (Option Val)). IsAllowedIn c.args.syntax c.args.tables.now.types c.args.room c.args.used.now c.args.octets.now x) c.in-Some.is c.in_ok-value.ensures)

pub returns-in-None : goal.returns-in-None
returns-in-None c = λ carried k.
    wrong_there c.args.tables.now c.hold_readable.ensures c.args.syntax c.args.room c.args.used.now c.args.octets.now c.args.problem carried k
    (subst (λ (x : Option (Option Val)). IsAllowedIn c.args.syntax c.args.tables.now.types c.args.room c.args.used.now c.args.octets.now x) c.in-None.is c.in_ok-value.ensures)
