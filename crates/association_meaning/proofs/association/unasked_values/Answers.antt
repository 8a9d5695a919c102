use Rattle.std.proofs.Common.{subst}
use Rattle.association_intake.specs.association_reading.Places.{pdv_places}
use Rattle.association_intake.specs.association_reading.Association.{unasked_values}
use Rattle.association_meaning.specs.Grounds.{GivesAs}
use Rattle.association_words.specs.Seen.{seen_values}
use Rattle.association_meaning.proofs.Judged.{unasked_right, unasked_wrong}
use Rattle.association_meaning.proofs.Fails.{halts}
use Rattle.association_meaning.proofs.association.unasked_values.Goals as goal

pub returns : goal.returns
returns c =
    subst (GivesAs seen_values c.all_unasked.result) (unasked_right (pdv_places c.args.carrier.now.place c.args.carrier.now.start c.args.carrier.now.user.now) c.args.pdvs.now c.first_form_wrong.result c.first_form_wrong.ensures c.in_ok-check.ensures) c.all_unasked.ensures

pub returns-in_err-check : goal.returns-in_err-check
returns-in_err-check c =
    halts seen_values c.from_residual.result (unasked_values (pdv_places c.args.carrier.now.place c.args.carrier.now.start c.args.carrier.now.user.now) c.args.pdvs.now) c.in_err-check.field-0.0 c.from_residual.ensures.1 (unasked_wrong (pdv_places c.args.carrier.now.place c.args.carrier.now.start c.args.carrier.now.user.now) c.args.pdvs.now c.first_form_wrong.result c.first_form_wrong.ensures c.in_err-check.field-0.0 c.in_err-check.ensures)
