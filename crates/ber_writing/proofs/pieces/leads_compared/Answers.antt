use Rattle.ber_writing.proofs.ComparedLaws.{not_equal}
use Rattle.ber_writing.proofs.RestLaws.{leads_told}
use Rattle.ber_writing.proofs.pieces.leads_compared.Goals as goal

pub returns-else-is_eq : goal.returns-else-is_eq
returns-else-is_eq c = λ xs ys h k.
    leads_told c.heads_compared-order.result c.in-Identifier-Identifier.a c.in-Identifier-Identifier.b xs ys (rw c.in-Identifier-Identifier.is-0 at h) (rw c.in-Identifier-Identifier.is-1 at k)
    c.heads_compared-order.ensures (not_equal c.heads_compared-order.result c.is_eq.result c.is_eq.ensures c.if-is_eq.false)
