use Rattle.std.proofs.Common.{List, ℕ, None}
use Rattle.asn1_types.specs.Writing.{writes}
use Rattle.ber_writing.proofs.ComparedLaws.{not_equal}
use Rattle.ber_writing.proofs.RestLaws.{leads_decide}
use Rattle.ber_writing.proofs.compare.told_by_heads.Goals as goal

pub returns : goal.returns
returns c =
    let x : List ℕ = writes c.args.table.now c.args.of.0 None c.args.a.now in
    let y : List ℕ = writes c.args.table.now c.args.from.0 None c.args.b.now in
    record {
      len = c.value_len.ensures;
      other = c.value_len-2.ensures;
      order = λ p q.
          leads_decide c.heads_compared-order.result c.in_ok-head.head c.in_ok-head_of.field-0 x y c.in_ok-head.ensures c.in_ok-head_of.ensures c.heads_compared-order.ensures
          (not_equal c.heads_compared-order.result c.is_eq.result c.is_eq.ensures c.if-is_eq.false);
    }
