use Rattle.std.proofs.Common.{ap, ◌∙◌, length}
use Rattle.std.proofs.lemmas.Int.{to_z-of_z}
use mir.Syntax.{w64}
use Rattle.asn1_types.specs.Writing.{saturated}
use Rattle.apdu_spelling.specs.Heads.{or_none}
use Rattle.apdu_spelling.specs.Writing.{written_carried}
use Rattle.apdu_codec.proofs.Sizes.{invoke_told}
use Rattle.apdu_codec.proofs.lengths.invoke_len.Goals as goal

pub returns : goal.returns
returns c =
    let carried = c.carried_len-carried.ensures ∙ ap (λ used. saturated (length (or_none (written_carried c.args.syntax c.args.tables.now.types used c.args.argument.now)))) c.requires in
    let id = rw (to_z-of_z w64 c.args.id c.ranges.id) at c.integer_len.ensures in
    invoke_told c.args.syntax c.args.id c.args.linked c.args.code.now _ _ _ _ _ _ _ _ _ _ id c.linked_len.ensures c.saturating_add-front.ensures carried c.code_len.ensures c.marked_len.ensures
    c.saturating_add-behind.ensures c.saturating_add-contents.ensures c.held_len.ensures
