use Rattle.association_hearing.specs.association_state.Seen.{base_in, seen}
use Rattle.association_requests.proofs.Rows.{refused_first, by_rows}
use Rattle.association_requests.proofs.calls.make_call.Goals as goal

pub returns-in-None : goal.returns-in-None
returns-in-None c = by_rows (base_in c.args.basis.now) (seen c.args.body.now) (seen c.make.new.body) c.args.call.now c.make.result c.in-None.ensures c.make.ensures

pub returns-in-Some : goal.returns-in-Some
returns-in-Some c = refused_first (base_in c.args.basis.now) (seen c.args.body.now) c.args.call.now c.in-Some.refusal c.in-Some.ensures
