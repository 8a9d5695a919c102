use Rattle.std.proofs.Common.{ℕ, ◌-◌, get_or, ap, ◌∙◌, refl, arith}
use Rattle.std.specs.declared.cmp.Ordering.{Ordering}
use Rattle.std.specs.Ordering.{ordering_then}
use Rattle.ber_writing.proofs.ComparedLaws.{numbers_end, numbers_before}
use Rattle.ber_writing.proofs.pieces.each_compared.Goals as goal

pub loop-index-init : goal.loop-index-init
loop-index-init c = record {
  numbers = omega (arith, c.min-index.ensures);
  others = omega (arith, c.min-index.ensures);
  so_far = c.cmp-order.ensures ∙ numbers_end c.args.numbers.now c.args.others.now c.min-index.result c.min-index.ensures;
}

pub loop-index-preserved : goal.loop-index-preserved
loop-index-preserved c =
    let i : ℕ = c.loop-index.index - 1 in
    record {
      numbers = omega (arith, c.loop-index.invariant.numbers);
      others = omega (arith, c.loop-index.invariant.others);
      so_far = c.then-order.ensures ∙ ap (λ (o : Ordering). ordering_then o c.loop-index.order) c.digits_compared.ensures
          ∙ numbers_before c.args.numbers.now c.args.others.now i c.loop-index.index (get_or c.args.numbers.now i 0) (get_or c.args.others.now i 0) c.loop-index.order
          (omega (arith, c.loop-index-test.true)) (omega (arith, c.loop-index-test.true, c.loop-index.invariant.numbers)) (omega (arith, c.loop-index-test.true, c.loop-index.invariant.others)) refl refl c.loop-index.invariant.so_far;
    }
