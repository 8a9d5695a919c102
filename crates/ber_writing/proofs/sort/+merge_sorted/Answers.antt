use Rattle.std.proofs.Common.{◌≡◌, ◌<◌, ◌/◌, List, length, ◌∙◌, subst, IfOk, arith}
use Rattle.std.proofs.lemmas.Grind.{common_steps}
use Rattle.asn1_types.specs.Value.{Value}
use Rattle.asn1_types.specs.Rising.{sorted}
use Rattle.asn1_types.specs.Writing.{written}
use Rattle.ber_writing.specs.Merging.{merged}
use Rattle.ber_writing.proofs.MergeLaws.{few_sorted, halves_sorted}
use Rattle.ber_writing.proofs.sort.+merge_sorted.Goals as goal

pub returns-then-len-lt2 : goal.returns-then-len-lt2
returns-then-len-lt2 t c =
    let lt : length c.args.values.items < 2 = grind (arith, common_steps) in
    few_sorted (written c.args.table.now c.args.of.0) c.args.values.items lt

pub returns : goal.returns
returns t c =
    let items = c.in_ok-back.ensures.items in
    let tail = c.in_ok-back.ensures.tail in
    let front = c.in_ok-front.ensures in
    let back = c.in_ok-back-2.ensures in
    let parts : merged (written c.args.table.now c.args.of.0) c.in_ok-front.front.items c.in_ok-back-2.back.items ≡ sorted (written c.args.table.now c.args.of.0) c.args.values.items =
    (λ i. merged (written c.args.table.now c.args.of.0) (front i) (back i))
    ∙ (λ i. merged (written c.args.table.now c.args.of.0) (sorted (written c.args.table.now c.args.of.0) (items i)) (sorted (written c.args.table.now c.args.of.0) (tail i)))
    ∙ halves_sorted (written c.args.table.now c.args.of.0) (c.len-2.result / 2) c.args.values.items in
    subst (λ (l : List Value). IfOk c.merge.result (λ r. r.items ≡ l)) parts c.merge.ensures
