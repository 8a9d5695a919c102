use Rattle.std.proofs.Common.{◌∙◌}
use Rattle.association_words.specs.Seen.{seen_fault}
use Rattle.association_place.specs.association_state.Seen.{seen}
use Rattle.association_reacting.proofs.Reactions.{result_failed}
use Rattle.association_reacting.proofs.faults.fails_on_accepted.Goals as goal

pub returns : goal.returns
returns c =
    result_failed (seen c.args.body.now) (seen c.fail_association.new.body) (seen c.args.body.now).link.accepted c.as_slice-2.result.now (seen_fault c.args.fault) c.fail_association.result
    (c.as_slice-2.ensures ∙ c.in_ok-accepted.ensures ∙ c.as_slice.ensures) c.fail_association.ensures.body c.fail_association.ensures.reaction
