use Rattle.std.proofs.Common.{◌≡◌, ℕ, ◌-◌, ◌+◌, List, [], ◌∷◌, ◌++◌, map, sym, ap, subst, ◌∙◌, append_assoc, arith}
use Rattle.std.proofs.lemmas.List.{append-nil}
use Rattle.std.proofs.lemmas.Grind.{common_steps}
use Rattle.ber_spelling.specs.Reading as readings
use Rattle.association_reading.specs.Places as reading
use Rattle.pdv_places.specs.Seen.{spot_of, HaveSmallPlaces}
use Rattle.pdv_places.proofs.Fitting.{fit_on, map_on, until_done, until_more}
use Rattle.pdv_places.proofs.spots.values_until.Goals as goal

pub returns-then-is_done-clause-is : goal.returns-then-is_done-clause-is
returns-then-is_done-clause-is c =
    let found : List readings.Spot = map spot_of c.loop-turn.values.items in
    sym (append-nil found)
    ∙ ap (λ (t : List readings.Spot). found ++ t) (sym (until_done (c.args.turns - c.loop-turn._turn) c.args.left (spot_of c.loop-turn.at) (sym c.is_done.ensures ∙ c.if-is_done.true)))
    ∙ c.loop-turn.invariant.going

pub loop-turn-preserved : goal.loop-turn-preserved
loop-turn-preserved c =
    let found : List readings.Spot = map spot_of c.loop-turn.values.items in
    let s : readings.Spot = spot_of c.loop-turn.at in
    let here : ℕ = c.args.turns - c.loop-turn._turn in
    let next : ℕ = c.args.turns - (c.loop-turn._turn + 1) in
    let items : c.push.new.self.items ≡ c.loop-turn.values.items ++ c.loop-turn.at ∷ [] = grind (arith, common_steps, c.push.ensures.items, c.in_ok-push.was) in
    let mapped : map spot_of c.push.new.self.items ≡ found ++ s ∷ [] = ap (map spot_of) items ∙ map_on c.loop-turn.values.items c.loop-turn.at in
    let less : next ≡ here - 1 = omega arith in
    let more = until_more here c.args.left s (omega arith) (sym c.is_done.ensures ∙ c.if-is_done.false) in
    record {
      going =
          ap (λ (t : List readings.Spot). t ++ reading.values_until next c.args.left (spot_of c.behind_value-at.result)) mapped
          ∙ append_assoc found (s ∷ []) (reading.values_until next c.args.left (spot_of c.behind_value-at.result))
          ∙ ap (λ (n : ℕ). found ++ s ∷ reading.values_until n c.args.left (spot_of c.behind_value-at.result)) less
          ∙ ap (λ (x : readings.Spot). found ++ s ∷ reading.values_until (here - 1) c.args.left x) c.behind_value-at.ensures.is
          ∙ ap (λ (t : List readings.Spot). found ++ t) (sym more)
          ∙ c.loop-turn.invariant.going;
      fits = c.behind_value-at.ensures.fit;
      all = subst HaveSmallPlaces (sym items) (fit_on c.loop-turn.values.items c.loop-turn.at c.loop-turn.invariant.all c.loop-turn.invariant.fits);
    }
