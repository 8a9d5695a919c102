use Rattle.std.proofs.Common.{◌<◌, length, sym, ◌∙◌, arith}
use Rattle.notation_tokens.proofs.Cutting.{cutting_starts, passes, cuts, full, bad, cutting_done, some_left, none_left}
use Rattle.notation_tokens.proofs.token_cutting.cut_text.Goals as goal

pub loop-rest-init : goal.loop-rest-init
loop-rest-init c = record {
  cutting = rw c.new-tokens.ensures (cutting_starts c.args.text.now);
  counted = omega arith;
  line = omega arith;
  column = omega arith;
}

pub loop-rest-preserved-in-Passed : goal.loop-rest-preserved-in-Passed
loop-rest-preserved-in-Passed c =
    let i = c.loop-rest.invariant in
    let fits = c.in-Passed.ensures.within in
    let split = c.split_at.ensures in
    let past = c.past-place.ensures in
    record {
      cutting = rw (past.value, split.front, split.back) (passes c.loop-rest.tokens c.loop-rest.from c.loop-rest.place c.loop-rest.rest.now _ c.in-Passed.length i.cutting (sym c.in-Passed.ensures.value) fits.0 fits.1);
      counted = omega (arith, split.back_len);
      line = omega (arith, past.line, split.front_len);
      column = omega (arith, past.column, split.front_len);
    }

pub returns-then-len-eq-MOST_TOKENS : goal.returns-then-len-eq-MOST_TOKENS
returns-then-len-eq-MOST_TOKENS c = c.lexed_until.ensures ∙ full c.loop-rest.tokens c.loop-rest.from c.loop-rest.place c.loop-rest.rest.now _ c.in-Cut.kind c.in-Cut.length c.loop-rest.invariant.cutting (sym c.in-Cut.ensures.value) (omega (arith, c.in-Cut.ensures.within)) (sym c.len.ensures ∙ c.if-len-eq-MOST_TOKENS.true)

pub loop-rest-preserved : goal.loop-rest-preserved
loop-rest-preserved c =
    let i = c.loop-rest.invariant in
    let fits = c.in-Cut.ensures.within in
    let split = c.split_at-in-Cut.ensures in
    let past = c.past-place-in-Cut.ensures in
    let few : length c.loop-rest.tokens < 65536 = omega (arith, i.cutting.counted, c.len.ensures, c.if-len-eq-MOST_TOKENS.false) in
    record {
      cutting = rw (past.value, split.front, split.back, c.in_ok-push-in-Cut.ensures.ok) (cuts c.loop-rest.tokens c.loop-rest.from c.loop-rest.place c.loop-rest.rest.now _ c.in-Cut.kind c.in-Cut.length i.cutting (sym c.in-Cut.ensures.value) fits.0 fits.1 few);
      counted = omega (arith, split.back_len);
      line = omega (arith, past.line, split.front_len);
      column = omega (arith, past.column, split.front_len);
    }

pub returns-in-Bad : goal.returns-in-Bad
returns-in-Bad c = c.lexed_until-in-Bad.ensures ∙ bad c.loop-rest.tokens c.loop-rest.from c.loop-rest.place c.loop-rest.rest.now _ c.loop-rest.invariant.cutting (sym c.in-Bad.ensures.value) (some_left (length c.loop-rest.rest.now) c.is_empty.result c.is_empty.ensures c.loop-rest-test.true)

pub returns : goal.returns
returns c = cutting_done c.loop-rest.tokens c.loop-rest.from c.loop-rest.place c.loop-rest.rest.now _ c.loop-rest.invariant.cutting (none_left (length c.loop-rest.rest.now) c.is_empty.result c.is_empty.ensures c.loop-rest-test.false)
