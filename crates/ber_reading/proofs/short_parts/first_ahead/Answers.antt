use Rattle.std.proofs.Common.{◌∙◌, ap, rules}
use Rattle.std.proofs.lemmas.Int.{to_z-of_z}
use mir.Syntax.{w64}
use mir.Val.{SFits}
use Rattle.std.specs.Prelude.{Some}
use Rattle.ber_spelling.specs.Reading.{spot_of}
use Rattle.ber_reading.proofs.ShortParts.{choice_ahead}
use Rattle.ber_reading.proofs.short_parts.first_ahead.Goals as goal

pub returns-in-Integer-clause-gives : goal.returns-in-Integer-clause-gives
returns-in-Integer-clause-gives c =
    let low : SFits w64 c.in-Integer.low = search rules in
    let high : SFits w64 c.in-Integer.high = search rules in
    let gives = simp to_z-of_z at c.integer_ahead.ensures.gives in
    choice_ahead c.args.table.now c.row.ensures.sound c.in-Integer.low c.in-Integer.high c.args.alternatives.now c.first-item.result c.in-len1-up.len_at_least c.first-item.is (c.row.ensures.value ∙ ap Some c.in-Integer.is) c.args.scope.now (spot_of c.args.spot) c.integer_ahead.result c.integer_ahead.ensures.looks gives
