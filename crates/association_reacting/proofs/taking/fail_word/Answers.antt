use Rattle.std.proofs.Common.{◌∙◌}
use Rattle.end_rules.specs.Reacting.{contexts_of_word}
use Rattle.association_words.specs.Seen.{seen_fault, seen_word}
use Rattle.association_place.specs.association_state.Seen.{base_in, seen}
use Rattle.association_reacting.proofs.Reactions.{result_failed}
use Rattle.association_reacting.proofs.taking.fail_word.Goals as goal

pub returns : goal.returns
returns c =
    result_failed (seen c.args.body.now) (seen c.fail_association.new.body) (contexts_of_word (base_in c.args.basis.now) (seen c.args.body.now) (seen_word c.args.word.now)) c.as_slice.result.now (seen_fault c.args.fault) c.fail_association.result
    (c.as_slice.ensures ∙ c.in_ok-accepted.ensures) c.fail_association.ensures.body c.fail_association.ensures.reaction
