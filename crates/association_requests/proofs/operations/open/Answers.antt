use Rattle.std.proofs.Common.{◌+◌, refl, sym, ◌∙◌}
use Rattle.std.proofs.lemmas.Result.{IfOk-weaker, on_ok_weaker}
use Rattle.stub_tables.specs.Lookup.{operation_at}
use Rattle.end_rules.specs.State.{Calls}
use Rattle.association_hearing.specs.association_state.Seen.{base_in, seen}
use Rattle.association_requests.proofs.Invoked.{numbered, roomy, next_is, silent_invoked, open_invoked}
use Rattle.association_requests.proofs.operations.open.Goals as goal

pub count_silent-requires : goal.count_silent-requires
count_silent-requires c = numbered (operation_at c.args.basis.now.tables.now c.args.making.place) (seen c.args.body.now) c.requires.room c.requires.there

pub open-requires-clause-numbers : goal.open-requires-clause-numbers
open-requires-clause-numbers c = numbered (operation_at c.args.basis.now.tables.now c.args.making.place) (seen c.args.body.now) c.requires.room c.requires.there

pub open-requires-clause-room : goal.open-requires-clause-room
open-requires-clause-room c =
    roomy (base_in c.args.basis.now) c.args.making.place (seen c.args.body.now) c.requires.room c.requires.there (sym c.is_silent_at.ensures ∙ c.if-is_silent_at.false)

pub returns-then-is_silent_at-clause-id : goal.returns-then-is_silent_at-clause-id
returns-then-is_silent_at-clause-id c =
    IfOk-weaker c.count_silent.result _ _
    (λ id h. h ∙ next_is (seen c.args.body.now) (numbered (operation_at c.args.basis.now.tables.now c.args.making.place) (seen c.args.body.now) c.requires.room c.requires.there))
    c.count_silent.ensures.id

pub returns-then-is_silent_at-clause-opened : goal.returns-then-is_silent_at-clause-opened
returns-then-is_silent_at-clause-opened c =
    let now : Calls = (seen c.args.body.now).calls in
    on_ok_weaker c.count_silent.result
    (λ h. h ∙ silent_invoked (base_in c.args.basis.now) (seen c.args.body.now) c.args.making.context c.args.making.place c.args.making.linked
    (numbered (operation_at c.args.basis.now.tables.now c.args.making.place) (seen c.args.body.now) c.requires.room c.requires.there)
    (record now { made = now.made + 1 }) (sym c.is_silent_at.ensures ∙ c.if-is_silent_at.true) refl)
    c.count_silent.ensures.passed

pub returns-clause-id : goal.returns-clause-id
returns-clause-id c =
    IfOk-weaker c.open.result _ _
    (λ id h. h ∙ next_is (seen c.args.body.now) (numbered (operation_at c.args.basis.now.tables.now c.args.making.place) (seen c.args.body.now) c.requires.room c.requires.there))
    c.open.ensures.id

pub returns-clause-opened : goal.returns-clause-opened
returns-clause-opened c =
    on_ok_weaker c.open.result
    (open_invoked (base_in c.args.basis.now) (seen c.args.body.now) c.args.making.context c.args.making.place c.args.making.linked
    (numbered (operation_at c.args.basis.now.tables.now c.args.making.place) (seen c.args.body.now) c.requires.room c.requires.there)
    c.open.new.self (sym c.is_silent_at.ensures ∙ c.if-is_silent_at.false))
    c.open.ensures.opened
