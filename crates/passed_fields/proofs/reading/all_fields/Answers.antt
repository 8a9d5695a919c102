use Rattle.std.proofs.Common.{rules, ◌≡◌, ◌+◌, ◌-◌, length, Ok, sym, ap, ◌∙◌, subst, arith}
use Rattle.ber_spelling.specs.Reading.{opened_of, spot_of, ahead_of, LiesIn}
use Rattle.ber_spelling.specs.Rules.{items_at}
use Rattle.ber_spelling.proofs.Loops.{goes_then}
use Rattle.ber_spelling.proofs.Turns.{look_fails, step_fails, step_goes, turns_end, no_turns}
use Rattle.ber_reading.proofs.Slots.{turns_lack}
use Rattle.passed_fields.specs.Reading.{field_at, fields_done}
use Rattle.passed_fields.proofs.reading.all_fields.Goals as goal

pub returns-in_err-place-clause-gives : goal.returns-in_err-place-clause-gives
returns-in_err-place-clause-gives c =
    let h = look_fails (field_at c.args.table.now c.args.fields.now.known.now c.args.fields.now.passed.now) (fields_done c.args.fields.now.known.now) c.in_err-place.field-0.0 (length c.args.spot.rest.now + 1 - c.loop-turn._turn) c.loop-turn.found.items c.args.scope.now (spot_of c.loop-turn.spot) _ (omega arith) c.loop-turn.invariant.so_far c.in_err-place.ensures.gives in
    search rules

pub returns-in_default-clause-gives : goal.returns-in_default-clause-gives
returns-in_default-clause-gives c =
    rw c.refusal.ensures (turns_lack (field_at c.args.table.now c.args.fields.now.known.now c.args.fields.now.passed.now) (fields_done c.args.fields.now.known.now) c.loop-turn.found.items c.args.scope.now (spot_of c.loop-turn.spot) (length c.args.spot.rest.now + 1 - c.loop-turn._turn) c.in-Ended.place (spot_of c.in-Ended.after) _ (omega arith) c.loop-turn.invariant.so_far
    (c.in_ok-place.ensures.gives ∙ ap (λ a. Ok (ahead_of a)) c.in-Ended.is) (sym c.in_ok-value-in-Ended.ensures ∙ c.in_default.is))

pub returns-in-Ended-clause-gives : goal.returns-in-Ended-clause-gives
returns-in-Ended-clause-gives c =
    turns_end (field_at c.args.table.now c.args.fields.now.known.now c.args.fields.now.passed.now) (fields_done c.args.fields.now.known.now) c.loop-turn.found.items _ c.args.scope.now (spot_of c.loop-turn.spot) (length c.args.spot.rest.now + 1 - c.loop-turn._turn) c.in-Ended.place (spot_of c.in-Ended.after) _ (omega arith) c.loop-turn.invariant.so_far
    (c.in_ok-place.ensures.gives ∙ ap (λ a. Ok (ahead_of a)) c.in-Ended.is) (sym c.in_ok-value-in-Ended.ensures ∙ c.in-Some.is)

pub returns-in_err-more-in-Begun-clause-gives : goal.returns-in_err-more-in-Begun-clause-gives
returns-in_err-more-in-Begun-clause-gives c =
    let h = step_fails (field_at c.args.table.now c.args.fields.now.known.now c.args.fields.now.passed.now) (fields_done c.args.fields.now.known.now) c.in_err-more-in-Begun.field-0.0 (length c.args.spot.rest.now + 1 - c.loop-turn._turn) c.loop-turn.found.items c.args.scope.now (spot_of c.loop-turn.spot) (opened_of c.in-Begun.opened) (spot_of c.in-Begun.after) _ (omega arith) c.loop-turn.invariant.so_far
    (c.in_ok-place.ensures.gives ∙ ap (λ a. Ok (ahead_of a)) c.in-Begun.is) c.in_err-more-in-Begun.ensures.gives in
    search rules

pub loop-turn-preserved : goal.loop-turn-preserved
loop-turn-preserved c =
    let opens = subst (LiesIn c.loop-turn.spot.place (length c.loop-turn.spot.rest.now)) c.in-Begun.is c.in_ok-place.ensures.stops in
    let less : length c.args.spot.rest.now + 1 - c.loop-turn._turn - 1 ≡ length c.args.spot.rest.now + 1 - (c.loop-turn._turn + 1) = omega arith in
    let goes = step_goes (field_at c.args.table.now c.args.fields.now.known.now c.args.fields.now.passed.now) (fields_done c.args.fields.now.known.now) (length c.args.spot.rest.now + 1 - c.loop-turn._turn) c.loop-turn.found.items c.in_ok-more-in-Begun.more.items c.args.scope.now (spot_of c.loop-turn.spot) (opened_of c.in-Begun.opened) (spot_of c.in-Begun.after) (spot_of c.in_ok-more-in-Begun.next) _ (omega arith) c.loop-turn.invariant.so_far
    (c.in_ok-place.ensures.gives ∙ ap (λ a. Ok (ahead_of a)) c.in-Begun.is) c.in_ok-more-in-Begun.ensures.gives in
    record {
      onward = goes_then c.loop-turn.invariant.onward (goes_then opens.behind c.in_ok-more-in-Begun.ensures.stops);
      so_far = ap (λ k. items_at (field_at c.args.table.now c.args.fields.now.known.now c.args.fields.now.passed.now) (fields_done c.args.fields.now.known.now) k c.in_ok-more-in-Begun.more.items c.args.scope.now (spot_of c.in_ok-more-in-Begun.next)) (sym less) ∙ goes;
    }

pub returns-clause-gives : goal.returns-clause-gives
returns-clause-gives c =
    no_turns (field_at c.args.table.now c.args.fields.now.known.now c.args.fields.now.passed.now) (fields_done c.args.fields.now.known.now) (length c.args.spot.rest.now + 1 - c.loop-turn._turn) c.loop-turn.found.items c.args.scope.now (spot_of c.loop-turn.spot) _ (omega arith) c.loop-turn.invariant.so_far
