use Rattle.std.proofs.Common.{ap, subst, ◌∙◌}
use Rattle.end_wire.specs.end_rules.Hearing as rules
use Rattle.rose_roles.specs.declared.apdu_problems.ValueOrProblem.{ValueOrProblem}
use Rattle.rose_roles.specs.Calls.{Performing, calls_of}
use Rattle.rose_roles.specs.Hearing.{heard_with}
use Rattle.rose_roles.specs.ApduProblems.{early_problem, invoke_problem, IsValueOrProblem, IsFree}
use Rattle.rose_roles.proofs.Keys.{apart}
use Rattle.rose_roles.proofs.Counts.{Once, once_sorted}
use Rattle.rose_roles.proofs.Hearings.{is_free, link_open, heard_wrong, heard_right}
use Rattle.rose_roles.proofs.Outcomes.{said_invoke, carries_argument}
use Rattle.rose_roles.proofs.performer.Performer.take_invocation.Goals as goal

pub returns-in-Wrong-clause-heard : goal.returns-in-Wrong-clause-heard
returns-in-Wrong-clause-heard c = λ base carried same k.
    let kind = c.requires.kind in
    let there = carries_argument c.args.tables.now c.args.syntax c.args.head.room c.args.head.rest carried c.args.head.kind c.args.head.code c.in-Some-code.code c.operation_with-place.result kind c.in-Some-code.is c.operation_with-place.ensures k in
    let found =
    subst (λ (j : ValueOrProblem). IsValueOrProblem (invoke_problem c.args.tables.now c.args.own.now.kept c.args.self.now.kept c.in-Some.id c.args.head.linked c.operation_with-place.result carried) (rules.value_in carried) j) c.in-Wrong.is
    (c.in_ok-number.ensures.found carried there) in
    let once = subst (λ (p : Performing). Once p.kept) c.self.view_is (once_sorted c.self.inside.kept.entries c.len-count.ensures.ordered) in
    ap (heard_with (calls_of c.args.forest.now c.args.own.now c.args.self.now.kept)) c.invoke_rejected.ensures
    ∙ heard_wrong base c.args.tables.now same c.args.forest.now c.args.own.now c.args.self.now.kept c.requires.own c.requires.peer (apart c.args.forest.now c.hold_forest.ensures) once c.args.self.now.context c.in-Some.id c.args.head.linked
    c.in-Some-code.code c.operation_with-place.result c.operation_with-place.ensures carried c.in-Wrong.number found
    ∙ ap (rules.hear base (calls_of c.args.forest.now c.args.own.now c.args.self.now.kept) c.args.self.now.context) (said_invoke c.args.head carried c.in-Some.id c.in-Some-code.code kind c.in-Some.is c.in-Some-code.is)

pub perform-requires-clause-shut : goal.perform-requires-clause-shut
perform-requires-clause-shut c =
    is_free c.args.tables.now c.args.own.now.kept c.args.self.now.kept c.in-Some.id c.args.head.linked c.operation_with-place.result
    (subst (λ (j : ValueOrProblem). IsFree (early_problem c.args.tables.now c.args.own.now.kept c.args.self.now.kept c.in-Some.id c.args.head.linked c.operation_with-place.result) j) c.in-Right.is c.in_ok-number.ensures.free)

pub perform-requires-clause-linked : goal.perform-requires-clause-linked
perform-requires-clause-linked c =
    link_open c.args.tables.now c.args.forest.now c.args.own.now.kept c.args.self.now.kept c.in-Some.id c.args.head.linked c.operation_with-place.result c.requires.own
    (subst (λ (j : ValueOrProblem). IsFree (early_problem c.args.tables.now c.args.own.now.kept c.args.self.now.kept c.in-Some.id c.args.head.linked c.operation_with-place.result) j) c.in-Right.is c.in_ok-number.ensures.free)

pub returns-clause-heard : goal.returns-clause-heard
returns-clause-heard c = λ base carried same k.
    let kind = c.requires.kind in
    let there = carries_argument c.args.tables.now c.args.syntax c.args.head.room c.args.head.rest carried c.args.head.kind c.args.head.code c.in-Some-code.code c.operation_with-place.result kind c.in-Some-code.is c.operation_with-place.ensures k in
    let found =
    subst (λ (j : ValueOrProblem). IsValueOrProblem (invoke_problem c.args.tables.now c.args.own.now.kept c.args.self.now.kept c.in-Some.id c.args.head.linked c.operation_with-place.result carried) (rules.value_in carried) j) c.in-Right.is
    (c.in_ok-number.ensures.found carried there) in
    let once = subst (λ (p : Performing). Once p.kept) c.self.view_is (once_sorted c.self.inside.kept.entries c.len-count.ensures.ordered) in
    c.in_ok-taken-in-Right.ensures.performed base c.args.own.now carried same found.1
    ∙ heard_right base c.args.tables.now same c.args.forest.now c.args.own.now c.args.self.now.kept c.requires.own c.requires.peer (apart c.args.forest.now c.hold_forest.ensures) once c.args.self.now.context c.in-Some.id c.args.head.linked
    c.in-Some-code.code c.operation_with-place.result c.operation_with-place.ensures carried found.0
    ∙ ap (rules.hear base (calls_of c.args.forest.now c.args.own.now c.args.self.now.kept) c.args.self.now.context) (said_invoke c.args.head carried c.in-Some.id c.in-Some-code.code kind c.in-Some.is c.in-Some-code.is)
