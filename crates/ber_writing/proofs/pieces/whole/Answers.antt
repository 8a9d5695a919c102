use Rattle.std.proofs.Common.{◌∙◌}
use Rattle.ber_writing.proofs.ComparedLaws.{definite_len, whole_apart}
use Rattle.ber_writing.proofs.pieces.whole.Goals as goal

pub returns : goal.returns
returns c = λ constructed xs ys h.
    whole_apart (record { len = c.definite_len.result; other = c.definite_len-2.result; order = c.behind_tag.result }) constructed c.args.tag xs ys
    (c.definite_len.ensures ∙ definite_len constructed c.args.tag xs c.args.contents.len h.len) (c.definite_len-2.ensures ∙ definite_len constructed c.args.tag ys c.args.contents.other h.other)
    (λ p q. c.behind_tag.ensures xs ys h p q)
