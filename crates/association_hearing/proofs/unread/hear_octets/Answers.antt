use Rattle.std.proofs.Common.{refl}
use Rattle.association_answers.specs.association_state.Seen.{base_in}
use Rattle.association_hearing.proofs.HeadsHeard.{fields_carry, heard_so, refused_heard}
use Rattle.association_hearing.proofs.unread.hear_octets.Goals as goal

pub take-requires : goal.take-requires
take-requires c = fields_carry c.args.basis.now.tables.now c.hold_readable.ensures c.args.syntax c.args.octets.now c.in-Ok.head c.in-Ok.ensures c.hold_some_octets.ensures

pub returns-in-Ok : goal.returns-in-Ok
returns-in-Ok c =
    heard_so c.args.basis.now.tables.now c.hold_readable.ensures c.args.syntax c.args.octets.now c.in-Ok.head c.in-Ok.ensures c.hold_some_octets.ensures (base_in c.args.basis.now) refl c.args.context
    c.args.calls.now c.take.new.self c.take.result c.take.ensures.heard

pub returns-in-Err : goal.returns-in-Err
returns-in-Err c =
    refused_heard c.args.basis.now.tables.now c.hold_readable.ensures c.args.syntax c.args.octets.now c.hold_octets.ensures (base_in c.args.basis.now) c.args.context c.args.calls.now c.in-Err.fault c.refused_head.result c.in-Err.ensures c.refused_head.ensures
