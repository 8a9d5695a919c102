use Rattle.std.proofs.Common.{rules, arith, ◌≡◌, ◌-◌, ◌+◌, length, false, Some, sym, ap, ◌∙◌}
use Rattle.std.specs.Prelude.{◌&&◌}
use Rattle.asn1_types.specs.Whole.{is_constructed, is_marked, behind_values, behind_whole}
use Rattle.asn1_types.proofs.Behind.{values_end, values_step, values_out, whole_none, whole_some, length_marked, length_sized}
use Rattle.asn1_types.proofs.whole.+wholes.Goals as goal

pub behind_values-returns-then-is_ended-clause-behind : goal.behind_values-returns-then-is_ended-clause-behind
behind_values-returns-then-is_ended-clause-behind t c =
    ap (λ rest. Some rest) c.behind.ensures.is
    ∙ values_end (behind_whole c.args.levels) (length c.args.octets.now - c.loop-turn._turn) c.loop-turn.rest.now _ (omega arith) (sym c.is_ended.ensures ∙ c.if-is_ended.true) c.loop-turn.invariant.going

pub behind_values-returns-in_err-rest-clause-behind : goal.behind_values-returns-in_err-rest-clause-behind
behind_values-returns-in_err-rest-clause-behind t c =
    let h = values_step (behind_whole c.args.levels) (length c.args.octets.now - c.loop-turn._turn) c.loop-turn.rest.now _ _ (omega arith) (sym c.is_ended.ensures ∙ c.if-is_ended.false) (sym c.behind_whole.ensures.behind) c.loop-turn.invariant.going in
    search rules

pub behind_values-loop-turn-preserved : goal.behind_values-loop-turn-preserved
behind_values-loop-turn-preserved t c =
    let less : length c.args.octets.now - c.loop-turn._turn - 1 ≡ length c.args.octets.now - (c.loop-turn._turn + 1) = omega arith in
    record {
      going =
          ap (λ k. behind_values (behind_whole c.args.levels) k c.in_ok-rest.rest.now) (sym less)
          ∙ values_step (behind_whole c.args.levels) (length c.args.octets.now - c.loop-turn._turn) c.loop-turn.rest.now (Some c.in_ok-rest.rest.now) _ (omega arith) (sym c.is_ended.ensures ∙ c.if-is_ended.false) (search rules) c.loop-turn.invariant.going;
      within = search (rules, arith);
    }

pub behind_values-returns-clause-behind : goal.behind_values-returns-clause-behind
behind_values-returns-clause-behind t c = values_out (behind_whole c.args.levels) (length c.args.octets.now - c.loop-turn._turn) c.loop-turn.rest.now _ (omega arith) c.loop-turn.invariant.going

pub behind_whole-returns-then-levels-eq0-clause-behind : goal.behind_whole-returns-then-levels-eq0-clause-behind
behind_whole-returns-then-levels-eq0-clause-behind t c = whole_none c.args.levels c.args.octets.now c.if-levels-eq0.true

pub behind_whole-returns-in_err-rest-clause-behind : goal.behind_whole-returns-in_err-rest-clause-behind
behind_whole-returns-in_err-rest-clause-behind t c =
    let h = whole_some c.args.levels c.args.octets.now _ (omega arith) (sym c.behind_identifier.ensures.behind) in
    search rules

pub behind_whole-returns-then-is_constructed-clause-behind : goal.behind_whole-returns-then-is_constructed-clause-behind
behind_whole-returns-then-is_constructed-clause-behind t c =
    let h = whole_some c.args.levels c.args.octets.now (Some c.in_ok-rest.rest.now) (omega arith) (search rules) in
    let m = length_marked (behind_whole (c.args.levels - 1)) (is_constructed c.args.octets.now) c.in_ok-rest.rest.now (sym c.is_marked.ensures ∙ c.if-is_marked.true) (sym c.is_constructed.ensures ∙ c.if-is_constructed.true) in
    c.behind_values.ensures.behind ∙ ap (λ rest. behind_values (behind_whole (c.args.levels - 1)) (length rest) rest) c.behind.ensures.is ∙ m ∙ h

pub behind_whole-returns-else-is_marked-clause-behind : goal.behind_whole-returns-else-is_marked-clause-behind
behind_whole-returns-else-is_marked-clause-behind t c =
    let h = whole_some c.args.levels c.args.octets.now (Some c.in_ok-rest.rest.now) (omega arith) (search rules) in
    let b : (is_marked c.in_ok-rest.rest.now && is_constructed c.args.octets.now) ≡ false = search rules in
    c.behind_sized.ensures.behind ∙ length_sized (behind_whole (c.args.levels - 1)) (is_constructed c.args.octets.now) c.in_ok-rest.rest.now b ∙ h
