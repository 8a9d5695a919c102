use Rattle.std.proofs.Common.{◌≡◌, sym, subst, ◌∙◌}
use Rattle.association_intake.specs.association_reading.Places.{pdv_places}
use Rattle.end_rules.specs.Connecting.{set_accepted}
use Rattle.association_intake.specs.association_reading.Transfers.{association_spellings}
use Rattle.association_words.specs.Seen.{seen_values}
use Rattle.association_meaning.specs.Grounds.{association_base, GivesAs}
use Rattle.association_meaning.proofs.Openings.{stands_so}
use Rattle.association_meaning.proofs.association.accept_values.Goals as goal

pub stands-requires : goal.stands-requires
stands-requires c =
    c.as_slice-accepted.ensures ∙ c.in_ok-set.ensures (association_spellings c.args.basis.now.tables.now)

pub returns : goal.returns
returns c =
    let set : c.as_slice-accepted.result.now ≡ set_accepted (association_base c.args.basis.now.tables.now c.args.basis.now.config.now) c.args.presentation.now = c.as_slice-accepted.ensures ∙ c.in_ok-set.ensures (association_spellings c.args.basis.now.tables.now) in
    subst (GivesAs seen_values c.accepted_values.result) (stands_so (association_base c.args.basis.now.tables.now c.args.basis.now.config.now) c.args.presentation.now (pdv_places c.args.carrier.now.place c.args.carrier.now.start c.args.carrier.now.user.now) c.as_slice-accepted.result.now set (sym c.in_ok-stands.ensures ∙ c.if-not-branch.false)) c.accepted_values.ensures
