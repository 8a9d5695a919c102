use Rattle.std.proofs.Common.{arith, subst}
use Rattle.spdu_codec.specs.Reading.{Gives}
use Rattle.spdu_codec.proofs.WireLaws.{found_of, all_again}
use Rattle.spdu_codec.proofs.FirstFaultLaws.{fault_of, first_is_given}
use Rattle.spdu_codec.proofs.reading.read_spdus.Goals as goal

pub returns-clause-found : goal.returns-clause-found
returns-clause-found c = found_of c.units_at.result c.args.tsdu.now (record { each = λ i. omega (arith, c.type_inv.tsdu i) }) c.units_at.ensures

pub returns-clause-only : goal.returns-clause-only
returns-clause-only c = λ words a. subst (Gives c.units_at.result) (all_again c.args.tsdu.now words a) c.units_at.ensures

pub returns-clause-first : goal.returns-clause-first
returns-clause-first c = fault_of c.units_at.result c.args.tsdu.now (record { each = λ i. omega (arith, c.type_inv.tsdu i) }) c.units_at.ensures

pub returns-clause-given : goal.returns-clause-given
returns-clause-given c = λ f w. subst (Gives c.units_at.result) (first_is_given c.args.tsdu.now f (record { each = λ i. omega (arith, c.type_inv.tsdu i) }) w) c.units_at.ensures
