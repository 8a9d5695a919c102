use Rattle.operation_notation.proofs.ModuleLaws.{answer_found, answer_only}
use Rattle.operation_notation.proofs.Well.{well_answer}
use Rattle.operation_notation.proofs.FirstFaults.{answer_first}
use Rattle.operation_notation.proofs.parser.parse_module.Goals as goal

pub returns-clause-found : goal.returns-clause-found
returns-clause-found c = answer_found c.args.text.now c.read.result c.read.ensures

pub returns-clause-only : goal.returns-clause-only
returns-clause-only c = answer_only c.args.text.now c.read.result c.read.ensures

pub returns-clause-well : goal.returns-clause-well
returns-clause-well c = well_answer c.read.result c.args.text.now (answer_found c.args.text.now c.read.result c.read.ensures)

pub returns-clause-first : goal.returns-clause-first
returns-clause-first c = answer_first c.args.text.now c.read.result c.read.ensures
