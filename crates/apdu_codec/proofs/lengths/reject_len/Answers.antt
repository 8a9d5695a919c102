use Rattle.std.proofs.Common.{rules}
use Rattle.std.proofs.lemmas.Int.{to_z-of_z}
use mir.Syntax.{w64}
use mir.Val.{SFits}
use Rattle.apdu_codec.proofs.Sizes.{reject_told}
use Rattle.apdu_codec.proofs.lengths.reject_len.Goals as goal

pub returns : goal.returns
returns c =
    let fits : SFits w64 c.args.problem.now.number = search rules in
    let number = rw (to_z-of_z w64 c.args.problem.now.number fits) at c.integer_len-number.ensures in
    reject_told c.args.syntax c.args.id c.args.problem.now _ _ _ _ _ c.rejected_len-rejected.ensures number c.marked_len.ensures c.saturating_add-contents.ensures c.held_len.ensures
