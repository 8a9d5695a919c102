use Rattle.std.proofs.Common.{◌≡◌, List, [], true, false, sym, ap, subst, ◌∙◌}
use Rattle.osi_base.specs.declared.layer_words.Proposal.{Proposal}
use Rattle.association_intake.specs.association_reading.Places.{pdv_places}
use Rattle.end_rules.specs.Policy.{is_faulty_proposal}
use Rattle.end_rules.specs.Connecting.{set_for}
use Rattle.association_intake.specs.association_reading.Transfers.{association_spellings}
use Rattle.association_words.specs.Seen.{seen_values}
use Rattle.association_meaning.specs.Grounds.{association_base, GivesAs}
use Rattle.association_meaning.proofs.Openings.{opens_so}
use Rattle.association_meaning.proofs.association.connect_values.Goals as goal

pub returns : goal.returns
returns c =
    let set : c.as_slice-2.result.now ≡ set_for (association_base c.args.basis.now.tables.now c.args.basis.now.config.now) c.args.presentation.now = c.as_slice-2.ensures ∙ c.in_ok-set.ensures (association_spellings c.args.basis.now.tables.now) in
    let sound : is_faulty_proposal true [] c.args.presentation.now.definitions ≡ false
    = ap (λ (ps : List Proposal). is_faulty_proposal true [] ps) (sym c.as_slice.ensures) ∙ sym c.is_faulty_proposal.ensures ∙ c.if-is_faulty_proposal.false in
    subst (GivesAs seen_values c.values_for.result) (opens_so (association_base c.args.basis.now.tables.now c.args.basis.now.config.now) c.args.presentation.now (pdv_places c.args.carrier.now.place c.args.carrier.now.start c.args.carrier.now.user.now) c.as_slice-2.result.now set sound) c.values_for.ensures
