use Rattle.std.proofs.Common.{subst}
use Rattle.association_intake.specs.association_reading.Places.{pdv_places}
use Rattle.association_intake.specs.association_reading.Values.{values_under}
use Rattle.association_meaning.specs.Grounds.{GivesAs}
use Rattle.association_words.specs.Seen.{seen_values}
use Rattle.association_meaning.proofs.Judged.{under_right, under_wrong}
use Rattle.association_meaning.proofs.Fails.{halts}
use Rattle.association_meaning.proofs.values.values_under.Goals as goal

pub returns : goal.returns
returns c =
    subst (GivesAs seen_values c.all_in.result) (under_right c.args.basis.now.tables.now c.args.set.now c.args.carried (pdv_places c.args.carrier.now.place c.args.carrier.now.start c.args.carrier.now.user.now) c.args.pdvs.now c.first_wrong.result (rw c.name_carried-name.ensures at c.first_wrong.ensures) c.in_ok-check.ensures) c.all_in.ensures

pub returns-in_err-check : goal.returns-in_err-check
returns-in_err-check c =
    halts seen_values c.from_residual.result (values_under c.args.basis.now.tables.now c.args.set.now c.args.carried (pdv_places c.args.carrier.now.place c.args.carrier.now.start c.args.carrier.now.user.now) c.args.pdvs.now) c.in_err-check.field-0.0 c.from_residual.ensures.1 (under_wrong c.args.basis.now.tables.now c.args.set.now c.args.carried (pdv_places c.args.carrier.now.place c.args.carrier.now.start c.args.carrier.now.user.now) c.args.pdvs.now c.first_wrong.result (rw c.name_carried-name.ensures at c.first_wrong.ensures) c.in_err-check.field-0.0 c.in_err-check.ensures)
