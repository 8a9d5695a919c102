use Rattle.std.proofs.Common.{◌≡◌, ◌-◌, ◌+◌, Some, Ok, false, refl, sym, ap, ◌∙◌, subst, arith, rules, length}
use Rattle.std.specs.Prelude.{◌&&◌}
use Rattle.asn1_types.specs.Rows.{is_no_tag}
use Rattle.asn1_types.specs.Whole.{is_marked}
use Rattle.ber_spelling.specs.Reading.{spot_of, opened_of, ahead_of, behind_of, LiesIn, Gives, Reading, Spot, refuse}
use Rattle.ber_spelling.specs.Rules.{whole_at, items_at}
use Rattle.ber_spelling.proofs.Steps.{FailsWith-same}
use Rattle.ber_spelling.proofs.Loops.{goes_then}
use Rattle.ber_spelling.proofs.Turns.{whole_none, whole_no_tag, whole_marked, whole_sized, look_fails, step_fails, step_goes, turns_end, no_turns}
use Rattle.osi_base.specs.declared.layer_words.Kind.TheVariants.{Tag}
use Rattle.ber_spelling.proofs.whole.+wholes.Goals.{whole_value-then-levels-eq0-via-then-levels-eq0, whole_value-then-levels-eq0-via-else-levels-eq0+then-is_no_tag}
use Rattle.ber_spelling.proofs.whole.+wholes.Goals as goal

pub whole_values-returns-in_err-after-clause-gives : goal.whole_values-returns-in_err-after-clause-gives
whole_values-returns-in_err-after-clause-gives t c =
    let h = look_fails (whole_at c.args.levels) (λ u. Some u) c.in_err-after.field-0.0 (length c.args.spot.rest.now + 1 - c.loop-turn._turn) tt c.args.scope.now (spot_of c.loop-turn.spot) _ (omega arith) c.loop-turn.invariant.so_far c.in_err-after.ensures.gives in
    search rules

pub whole_values-returns-in-Ended-clause-gives : goal.whole_values-returns-in-Ended-clause-gives
whole_values-returns-in-Ended-clause-gives t c =
    turns_end (whole_at c.args.levels) (λ u. Some u) tt tt c.args.scope.now (spot_of c.loop-turn.spot) (length c.args.spot.rest.now + 1 - c.loop-turn._turn) c.in-Ended.place (spot_of c.in-Ended.after) _ (omega arith) c.loop-turn.invariant.so_far
    (c.in_ok-after.ensures.gives ∙ ap (λ a. Ok (ahead_of a)) c.in-Ended.is) refl

pub whole_values-returns-in_err-spot-in-Begun-clause-gives : goal.whole_values-returns-in_err-spot-in-Begun-clause-gives
whole_values-returns-in_err-spot-in-Begun-clause-gives t c =
    let h = step_fails (whole_at c.args.levels) (λ u. Some u) c.in_err-spot-in-Begun.field-0.0 (length c.args.spot.rest.now + 1 - c.loop-turn._turn) tt c.args.scope.now (spot_of c.loop-turn.spot) (opened_of c.in-Begun.opened) (spot_of c.in-Begun.after) _ (omega arith) c.loop-turn.invariant.so_far
    (c.in_ok-after.ensures.gives ∙ ap (λ a. Ok (ahead_of a)) c.in-Begun.is) c.in_err-spot-in-Begun.ensures.gives in
    search rules

pub whole_values-loop-turn-preserved : goal.whole_values-loop-turn-preserved
whole_values-loop-turn-preserved t c =
    let opens = subst (LiesIn c.loop-turn.spot.place (length c.loop-turn.spot.rest.now)) c.in-Begun.is c.in_ok-after.ensures.stops in
    let less : length c.args.spot.rest.now + 1 - c.loop-turn._turn - 1 ≡ length c.args.spot.rest.now + 1 - (c.loop-turn._turn + 1) = omega arith in
    record {
      onward = goes_then c.loop-turn.invariant.onward (goes_then opens.behind c.in_ok-spot-in-Begun.ensures.stops);
      so_far = ap (λ k. items_at (whole_at c.args.levels) (λ u. Some u) k tt c.args.scope.now (spot_of c.in_ok-spot-in-Begun.spot)) (sym less)
          ∙ step_goes (whole_at c.args.levels) (λ u. Some u) (length c.args.spot.rest.now + 1 - c.loop-turn._turn) tt tt c.args.scope.now (spot_of c.loop-turn.spot) (opened_of c.in-Begun.opened) (spot_of c.in-Begun.after) (spot_of c.in_ok-spot-in-Begun.spot) _ (omega arith) c.loop-turn.invariant.so_far
          (c.in_ok-after.ensures.gives ∙ ap (λ a. Ok (ahead_of a)) c.in-Begun.is) c.in_ok-spot-in-Begun.ensures.gives;
    }

pub whole_values-returns-clause-gives : goal.whole_values-returns-clause-gives
whole_values-returns-clause-gives t c =
    no_turns (whole_at c.args.levels) (λ u. Some u) (length c.args.spot.rest.now + 1 - c.loop-turn._turn) tt c.args.scope.now (spot_of c.loop-turn.spot) _ (omega arith) c.loop-turn.invariant.so_far

pub whole_value-returns-then-levels-eq0-clause-gives : goal.whole_value-returns-then-levels-eq0-clause-gives
whole_value-returns-then-levels-eq0-clause-gives t c =
    let same : whole_at c.args.levels tt c.args.scope.now (opened_of c.args.opened.now) (spot_of c.args.spot) ≡ refuse c.args.opened.now.start.place Tag = elim c.then-levels-eq0.branch [
      | whole_value-then-levels-eq0-via-then-levels-eq0 w ↦ whole_none c.args.levels c.args.scope.now (opened_of c.args.opened.now) (spot_of c.args.spot) w.if-levels-eq0.true
      | whole_value-then-levels-eq0-via-else-levels-eq0+then-is_no_tag w ↦ whole_no_tag c.args.levels c.args.scope.now (opened_of c.args.opened.now) (spot_of c.args.spot) (sym w.is_no_tag.ensures ∙ w.if-is_no_tag.true)
    ] in
    FailsWith-same c.refusal.result _ _ (sym same) (rw c.refusal.ensures refl)

pub whole_value-returns-then-opened-clause-gives : goal.whole_value-returns-then-opened-clause-gives
whole_value-returns-then-opened-clause-gives t c =
    let tagged : is_no_tag c.args.opened.now.class c.args.opened.now.number ≡ false = search rules in
    subst (λ (r : Reading (Unit {0} × Spot)). Gives behind_of c.marked.result r)
    (whole_marked c.args.levels c.args.scope.now (opened_of c.args.opened.now) (spot_of c.args.spot) (omega arith) tagged (sym c.is_marked.ensures ∙ c.if-is_marked.true) c.if-opened.true) c.marked.ensures.gives

pub whole_value-returns-else-is_marked-clause-gives : goal.whole_value-returns-else-is_marked-clause-gives
whole_value-returns-else-is_marked-clause-gives t c =
    let tagged : is_no_tag c.args.opened.now.class c.args.opened.now.number ≡ false = search rules in
    let plain : (is_marked c.args.spot.rest.now && c.args.opened.now.constructed) ≡ false = search rules in
    subst (λ (r : Reading (Unit {0} × Spot)). Gives behind_of c.sized.result r)
    (whole_sized c.args.levels c.args.scope.now (opened_of c.args.opened.now) (spot_of c.args.spot) (omega arith) tagged plain) c.sized.ensures.gives
