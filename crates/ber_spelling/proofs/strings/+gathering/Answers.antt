use Rattle.std.proofs.Common.{◌≡◌, ◌-◌, ◌+◌, Some, Ok, true, false, refl, sym, ap, ◌∙◌, subst, arith, rules, length}
use Rattle.ber_spelling.specs.Reading.{spot_of, opened_of, ahead_of, LiesIn, Gives, Reading, Spot}
use Rattle.ber_spelling.specs.Rules.{segment_at, items_at}
use Rattle.ber_spelling.specs.declared.spot.Gathered.{Gathered}
use Rattle.ber_spelling.proofs.Steps.{FailsWith-same}
use Rattle.ber_spelling.proofs.Loops.{goes_then}
use Rattle.ber_spelling.proofs.Turns.{segment_none, segment_some, look_fails, step_fails, step_goes, turns_end, no_turns}
use Rattle.ber_spelling.proofs.strings.+gathering.Goals as goal

pub segment-returns-then-depth-eq0-clause-gives : goal.segment-returns-then-depth-eq0-clause-gives
segment-returns-then-depth-eq0-clause-gives t c =
    FailsWith-same c.refusal.result _ _ (sym (segment_none c.args.kind c.args.depth c.args.before c.args.scope.now (opened_of c.args.opened.now) (spot_of c.args.spot) c.if-depth-eq0.true)) (rw c.refusal.ensures refl)

pub segment-returns-then-opened-clause-gives : goal.segment-returns-then-opened-clause-gives
segment-returns-then-opened-clause-gives t c =
    subst (λ (r : Reading (Gathered × Spot)). Gives (λ x. (x.0, spot_of x.1)) c.nested.result r)
    (segment_some c.args.kind c.args.depth c.args.before c.args.scope.now (opened_of c.args.opened.now) (spot_of c.args.spot) true (omega arith) c.if-opened.true) c.nested.ensures.gives

pub segment-returns-else-opened-clause-gives : goal.segment-returns-else-opened-clause-gives
segment-returns-else-opened-clause-gives t c =
    subst (λ (r : Reading (Gathered × Spot)). Gives (λ x. (x.0, spot_of x.1)) c.single.result r)
    (segment_some c.args.kind c.args.depth c.args.before c.args.scope.now (opened_of c.args.opened.now) (spot_of c.args.spot) false (omega arith) c.if-opened.false) c.single.ensures.gives

pub segments-returns-in_err-after-clause-gives : goal.segments-returns-in_err-after-clause-gives
segments-returns-in_err-after-clause-gives t c =
    let h = look_fails (segment_at c.args.kind c.args.depth) (λ g. Some g) c.in_err-after.field-0.0 (length c.args.spot.rest.now + 1 - c.loop-turn._turn) c.loop-turn.gathered c.args.scope.now (spot_of c.loop-turn.spot) _ (omega arith) c.loop-turn.invariant.so_far c.in_err-after.ensures.gives in
    search rules

pub segments-returns-in-Ended-clause-gives : goal.segments-returns-in-Ended-clause-gives
segments-returns-in-Ended-clause-gives t c =
    turns_end (segment_at c.args.kind c.args.depth) (λ g. Some g) c.loop-turn.gathered c.loop-turn.gathered c.args.scope.now (spot_of c.loop-turn.spot) (length c.args.spot.rest.now + 1 - c.loop-turn._turn) c.in-Ended.place (spot_of c.in-Ended.after) _ (omega arith) c.loop-turn.invariant.so_far
    (c.in_ok-after.ensures.gives ∙ ap (λ a. Ok (ahead_of a)) c.in-Ended.is) refl

pub segments-returns-in_err-more-in-Begun-clause-gives : goal.segments-returns-in_err-more-in-Begun-clause-gives
segments-returns-in_err-more-in-Begun-clause-gives t c =
    let h = step_fails (segment_at c.args.kind c.args.depth) (λ g. Some g) c.in_err-more-in-Begun.field-0.0 (length c.args.spot.rest.now + 1 - c.loop-turn._turn) c.loop-turn.gathered c.args.scope.now (spot_of c.loop-turn.spot) (opened_of c.in-Begun.opened) (spot_of c.in-Begun.after) _ (omega arith) c.loop-turn.invariant.so_far
    (c.in_ok-after.ensures.gives ∙ ap (λ a. Ok (ahead_of a)) c.in-Begun.is) c.in_err-more-in-Begun.ensures.gives in
    search rules

pub segments-loop-turn-preserved : goal.segments-loop-turn-preserved
segments-loop-turn-preserved t c =
    let opens = subst (LiesIn c.loop-turn.spot.place (length c.loop-turn.spot.rest.now)) c.in-Begun.is c.in_ok-after.ensures.stops in
    let less : length c.args.spot.rest.now + 1 - c.loop-turn._turn - 1 ≡ length c.args.spot.rest.now + 1 - (c.loop-turn._turn + 1) = omega arith in
    record {
      onward = goes_then c.loop-turn.invariant.onward (goes_then opens.behind c.in_ok-more-in-Begun.ensures.stops);
      so_far = ap (λ k. items_at (segment_at c.args.kind c.args.depth) (λ g. Some g) k c.in_ok-more-in-Begun.more c.args.scope.now (spot_of c.in_ok-more-in-Begun.next)) (sym less)
          ∙ step_goes (segment_at c.args.kind c.args.depth) (λ g. Some g) (length c.args.spot.rest.now + 1 - c.loop-turn._turn) c.loop-turn.gathered c.in_ok-more-in-Begun.more c.args.scope.now (spot_of c.loop-turn.spot) (opened_of c.in-Begun.opened) (spot_of c.in-Begun.after) (spot_of c.in_ok-more-in-Begun.next) _ (omega arith) c.loop-turn.invariant.so_far
          (c.in_ok-after.ensures.gives ∙ ap (λ a. Ok (ahead_of a)) c.in-Begun.is) c.in_ok-more-in-Begun.ensures.gives;
    }

pub segments-returns-clause-gives : goal.segments-returns-clause-gives
segments-returns-clause-gives t c =
    no_turns (segment_at c.args.kind c.args.depth) (λ g. Some g) (length c.args.spot.rest.now + 1 - c.loop-turn._turn) c.loop-turn.gathered c.args.scope.now (spot_of c.loop-turn.spot) _ (omega arith) c.loop-turn.invariant.so_far
