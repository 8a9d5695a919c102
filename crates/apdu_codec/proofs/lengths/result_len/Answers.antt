use Rattle.std.proofs.Common.{ap, ◌∙◌, length, Some}
use Rattle.std.proofs.lemmas.Int.{to_z-of_z}
use mir.Syntax.{w64}
use Rattle.asn1_types.specs.Writing.{saturated}
use Rattle.apdu_spelling.specs.Heads.{or_none}
use Rattle.apdu_spelling.specs.Writing.{written_carried}
use Rattle.apdu_codec.proofs.Sizes.{result_told}
use Rattle.apdu_codec.proofs.lengths.result_len.Goals as goal

pub returns : goal.returns
returns c =
    let carried = c.outcome_len-carried.ensures ∙ ap (λ used. saturated (length (or_none (written_carried c.args.syntax c.args.tables.now.types used (Some c.args.returned.now.value))))) c.requires in
    let id = rw (to_z-of_z w64 c.args.id c.ranges.id) at c.integer_len.ensures in
    result_told c.args.syntax c.args.id c.args.returned.now.code _ _ _ _ _ _ _ _ id carried c.code_len.ensures c.saturating_add-behind.ensures c.held_len-outcome.ensures
    c.saturating_add-contents.ensures c.held_len.ensures
