use Rattle.ber_writing.proofs.ComparedLaws.{then_compared}
use Rattle.ber_writing.proofs.pieces.Compared.then.Goals as goal

pub returns : goal.returns
returns c = λ xs ys zs ws h k.
    then_compared c.args.self c.args.behind (record { len = c.saturating_add.result; other = c.saturating_add-2.result; order = c.then.result }) xs ys zs ws
    c.saturating_add.ensures c.saturating_add-2.ensures c.then.ensures h k
