use Rattle.tpkt.proofs.WrittenLaws.{connect_is, confirm_is, disconnect_is, problem_is}
use Rattle.tpkt.proofs.laws.written_units.Goals as goal

pub returns : goal.returns
returns c = record { connect = connect_is; confirm = confirm_is; disconnect = disconnect_is; problem = problem_is }
