use Rattle.std.proofs.lemmas.Int.{to_z-of_z}
use mir.Syntax.{w64}
use Rattle.apdu_codec.proofs.Sizes.{none_told}
use Rattle.apdu_codec.proofs.lengths.none_len.Goals as goal

pub returns : goal.returns
returns c =
    let id = rw (to_z-of_z w64 c.args.id c.ranges.id) at c.integer_len.ensures in
    none_told c.args.syntax c.args.id _ _ _ _ id c.marked_len.ensures c.saturating_add-contents.ensures c.held_len.ensures
