use Rattle.std.proofs.Common.{◌∙◌}
use Rattle.association_line.specs.association_reading.Reacting.{contexts_of_unit}
use Rattle.association_words.specs.Seen.{seen_fault}
use Rattle.association_reacting.specs.association_state.Seen.{base_in, seen}
use Rattle.association_reacting.proofs.Reactions.{result_failed}
use Rattle.association_end.proofs.reading.fail_unit.Goals as goal

pub returns : goal.returns
returns c =
    result_failed (seen c.args.body.now) (seen c.fail_association.new.body) (contexts_of_unit (base_in c.args.basis.now) (seen c.args.body.now) c.args.unit.now) c.as_slice.result.now (seen_fault c.args.fault) c.fail_association.result
    (c.as_slice.ensures ∙ c.in_ok-accepted.ensures) c.fail_association.ensures.body c.fail_association.ensures.reaction
