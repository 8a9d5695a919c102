use Rattle.std.proofs.Common.{◌≡◌, ◌-◌, arith, ap, sym, subst, ◌∙◌, None, length}
use Rattle.spdu_codec.specs.Tables.{row_of}
use Rattle.spdu_codec.specs.Reading.{value_at}
use Rattle.spdu_codec.specs.Places.{placed}
use Rattle.spdu_codec.proofs.PlaceLoop.{among, loop_on, loop_stops, loop_ends, fault_is}
use Rattle.spdu_codec.proofs.places.user_among.Goals as goal

pub returns-in_default-value_at : goal.returns-in_default-value_at
returns-in_default-value_at c =
    let f = fault_is c.in_default-value_at.field-0 (value_at c.args.end c.in-Some.after.now) c.in_default-value_at.ensures.at c.in_default-value_at.ensures.read in
    loop_stops c.args.table.now c.args.end c.loop-code.at c.loop-code.rest.now c.in-Some.code c.in-Some.after.now f.0 _ c.in-Some.ensures f.1 c.loop-code.invariant.reads

pub loop-code-preserved : goal.loop-code-preserved
loop-code-preserved c = record {
  within = omega (arith, c.loop-code.invariant.within, c.in-Ok.ensures.less, ap length c.in-Some.ensures);
  reads =
      let e = c.placed-at.ensures ∙ ap (λ s. placed s c.in-Ok.value.now (c.args.end - length c.in-Ok.more.now - length c.in-Ok.value.now) c.loop-code.at) c.row_of.ensures in
      subst (λ a. among c.args.table.now c.args.end a c.in-Ok.more.now ≡ among c.args.table.now c.args.end None c.args.octets.now) (sym e)
      (loop_on c.args.table.now c.args.end c.loop-code.at c.loop-code.rest.now c.in-Some.code c.in-Some.after.now (c.in-Ok.value.now, c.in-Ok.more.now) _ c.in-Some.ensures c.in-Ok.ensures.read c.loop-code.invariant.reads);
}

pub returns : goal.returns
returns c = loop_ends c.args.table.now c.args.end c.loop-code.at c.loop-code.rest.now _ c.in_default.ensures c.loop-code.invariant.reads
