use Rattle.std.proofs.Common.{◌∙◌, sym, ap, arith, rules}
use Rattle.std.proofs.lemmas.List.{take_rest}
use Rattle.std.proofs.lemmas.Int.{to_z-of_z}
use mir.Syntax.{w64}
use mir.Val.{SFits}
use Rattle.std.specs.Prelude.{take, drop, slice_index_or, option_map}
use Rattle.asn1_types.specs.Value as tree
use Rattle.ber_spelling.specs.Rules.{integer_rule}
use Rattle.ber_reading.proofs.ShortParts.{integer_looks, integer_is}
use Rattle.ber_reading.proofs.short_parts.integer_ahead.Goals as goal

pub returns-clause-looks : goal.returns-clause-looks
returns-clause-looks c =
    integer_looks c.args.scope.now _ c.args.reach c.requires.reach c.args.spot.place c.args.spot.rest.now (omega arith) (omega arith) (omega arith)

pub returns-clause-gives : goal.returns-clause-gives
returns-clause-gives c =
    let front = ap (λ os. take (slice_index_or c.args.spot.rest.now 1 0) os) (take_rest c.args.spot.rest.now 2) in
    let octets = sym front ∙ sym c.split_at.ensures.front in
    let ensured = rw (to_z-of_z w64 c.args.low c.ranges.low, to_z-of_z w64 c.args.high c.ranges.high) at c.integer_within.ensures in
    let rule = ap (integer_rule c.args.low c.args.high) octets ∙ ensured ∙ ap (option_map tree.integer) c.in_ok-number.was in
    let h = integer_is c.args.scope.now _ c.args.reach c.requires.reach c.args.low c.args.high c.in_ok-number.number c.args.spot.place c.args.spot.rest.now (omega arith) (omega arith) (omega arith) (omega arith) (omega arith) rule in
    let back = ap (drop (slice_index_or c.args.spot.rest.now 1 0)) (sym (take_rest c.args.spot.rest.now 2)) ∙ sym c.split_at.ensures.back in
    let fits : SFits w64 c.in_ok-number.number = search rules in
    rw (to_z-of_z w64 c.in_ok-number.number fits, sym back) h
