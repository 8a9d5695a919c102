use Rattle.std.proofs.Common.{◌-◌, length, not, sym, ap, ◌∙◌, arith}
use Rattle.std.proofs.lemmas.Grind.{common_steps}
use Rattle.asn1_types.specs.Writing.{written}
use Rattle.ber_writing.proofs.LessLaws.{last_is}
use Rattle.ber_writing.proofs.sort.follows_last.Goals as goal

pub returns : goal.returns
returns c =
    ap not c.in_ok-less.ensures
    ∙ sym (last_is (written c.args.table.now c.args.of.0) c.args.before.now (length c.args.before.now - 1) c.index-before-before.result c.args.value.now (grind (arith, common_steps, c.is_empty.ensures, c.if-is_empty.false)) c.index-before-before.is)
