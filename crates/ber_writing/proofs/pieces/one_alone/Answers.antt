use Rattle.ber_writing.proofs.ComparedLaws.{alone}
use Rattle.ber_writing.proofs.pieces.one_alone.Goals as goal

pub returns : goal.returns
returns c = λ xs ys l o none. alone (record { len = c.args.len; other = c.args.other; order = c.cmp.result }) xs ys l o c.cmp.ensures none
