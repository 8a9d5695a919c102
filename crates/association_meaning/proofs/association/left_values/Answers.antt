use Rattle.std.proofs.Common.{subst}
use Rattle.association_intake.specs.association_reading.Places.{pdv_places}
use Rattle.association_intake.specs.association_reading.Association.{left_values}
use Rattle.association_meaning.specs.Grounds.{association_base, GivesAs}
use Rattle.association_words.specs.Seen.{seen_values}
use Rattle.association_meaning.proofs.Judged.{left_right, left_wrong}
use Rattle.association_meaning.proofs.Fails.{halts}
use Rattle.association_meaning.proofs.association.left_values.Goals as goal

pub returns : goal.returns
returns c =
    subst (GivesAs seen_values c.all_or_left.result) (left_right (association_base c.args.basis.now.tables.now c.args.basis.now.config.now) c.args.definitions.now c.args.set.now (pdv_places c.args.carrier.now.place c.args.carrier.now.start c.args.carrier.now.user.now) c.args.pdvs.now c.first_wrong_unless_left.result c.first_wrong_unless_left.ensures c.in_ok-check.ensures) c.all_or_left.ensures

pub returns-in_err-check : goal.returns-in_err-check
returns-in_err-check c =
    halts seen_values c.from_residual.result (left_values (association_base c.args.basis.now.tables.now c.args.basis.now.config.now) c.args.definitions.now c.args.set.now (pdv_places c.args.carrier.now.place c.args.carrier.now.start c.args.carrier.now.user.now) c.args.pdvs.now) c.in_err-check.field-0.0 c.from_residual.ensures.1 (left_wrong (association_base c.args.basis.now.tables.now c.args.basis.now.config.now) c.args.definitions.now c.args.set.now (pdv_places c.args.carrier.now.place c.args.carrier.now.start c.args.carrier.now.user.now) c.args.pdvs.now c.first_wrong_unless_left.result c.first_wrong_unless_left.ensures c.in_err-check.field-0.0 c.in_err-check.ensures)
