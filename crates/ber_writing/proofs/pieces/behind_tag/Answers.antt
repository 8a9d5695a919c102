use Rattle.std.proofs.Common.{◌≡◌, length, sym, ◌∙◌, arith}
use Rattle.asn1_types.specs.Writing.{length_octets}
use Rattle.ber_writing.specs.Comparing.{compared}
use Rattle.ber_writing.proofs.ComparedLaws.{same_behind, other_behind}
use Rattle.ber_writing.proofs.pieces.behind_tag.Goals as goal

pub returns-then-contents : goal.returns-then-contents
returns-then-contents c = λ xs ys h p q. same_behind c.args.contents.order xs ys (omega (arith, h.len, h.other, c.if-contents.true)) (h.order p q)

pub returns-else-contents : goal.returns-else-contents
returns-else-contents c = λ xs ys h p q.
    let n : c.args.contents.len ≡ length xs = omega (arith, h.len) in
    let m : c.args.contents.other ≡ length ys = omega (arith, h.other) in
    other_behind c.lengths_compared.result (length xs) (length ys) xs ys (λ e. c.if-contents.false (n ∙ e ∙ sym m)) (c.lengths_compared.ensures ∙ (λ i. compared (length_octets (n i)) (length_octets (m i))))
