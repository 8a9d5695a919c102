use Rattle.std.proofs.Common.{sym, subst, ◌∙◌}
use Rattle.association_reacting.specs.association_state.Seen.{base_in, seen}
use Rattle.association_meaning.specs.Grounds.{FailsAs}
use Rattle.end_rules.specs.State.{joined}
use Rattle.association_end.proofs.Arriving.{read_so, arrives_handed, arrives_value, arrives_fault}
use Rattle.association_end.proofs.reading.arrived.Goals as goal

pub returns-then-body : goal.returns-then-body
returns-then-body c = arrives_handed (base_in c.args.basis.now) (seen c.args.body.now) c.if-body.true

pub returns-in-Ok : goal.returns-in-Ok
returns-in-Ok c =
    let b = base_in c.args.basis.now in
    let body = seen c.args.body.now in
    arrives_value b body c.in-Ok.arrived c.arrived_value.result c.if-body.false
    (sym (read_so c.reading.result.tables.now c.args.basis.now.tables.now c.as_slice.result.now body.sets.held c.as_slice-2.result.now (joined body.receiving.pieces) c.reading.ensures.tables c.as_slice.ensures (c.as_slice-2.ensures ∙ c.in_ok-octets.ensures))
    ∙ c.in-Ok.ensures)
    c.arrived_value.ensures

pub returns : goal.returns
returns c =
    let b = base_in c.args.basis.now in
    let body = seen c.args.body.now in
    arrives_fault b body c.in-Err.halt c.in_ok-fault-in-Err.fault c.if-body.false
    (subst (FailsAs c.in-Err.halt)
    (read_so c.reading.result.tables.now c.args.basis.now.tables.now c.as_slice.result.now body.sets.held c.as_slice-2.result.now (joined body.receiving.pieces) c.reading.ensures.tables c.as_slice.ensures (c.as_slice-2.ensures ∙ c.in_ok-octets.ensures))
    c.in-Err.ensures)
    c.in_ok-fault-in-Err.ensures
