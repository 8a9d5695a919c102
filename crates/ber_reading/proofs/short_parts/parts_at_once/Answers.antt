use Rattle.std.proofs.Common.{◌≡◌, true, ◌<◌, ◌∙◌, sym, ap, refl, arith, rules, length}
use Rattle.std.proofs.lemmas.Int.{to_z-of_z}
use Rattle.std.proofs.lemmas.Option.{slice_get_within}
use mir.Syntax.{w64}
use mir.Val.{SFits}
use Rattle.std.specs.Prelude.{Some, None}
use Rattle.std.specs.Vec.{vec_len, vec_capacity}
use Rattle.asn1_types.specs.Value as tree
use Rattle.asn1_types.specs.Rows.{begins}
use Rattle.asn1_types.proofs.Sound.{each_part, choice_down}
use Rattle.ber_spelling.specs.Reading.{spot_of}
use Rattle.ber_spelling.specs.Rules.{reads, is_other}
use Rattle.ber_spelling.proofs.Loops.{goes_then}
use Rattle.ber_reading.proofs.ShortParts.{lower, part_is, choice_part, no_choice}
use Rattle.ber_reading.proofs.PartsFrom.{part_goes_on}
use Rattle.ber_reading.proofs.short_parts.parts_at_once.Goals.{in-Integer+in-Some+else-not-is_other_number, in-Choice+in-Some-first+in-Ok, in_default+else-not-is_absent}
use Rattle.ber_reading.proofs.short_parts.parts_at_once.Goals as goal

pub row-row-requires : goal.row-row-requires
row-row-requires c = each_part (λ m. m < length c.args.table.now) c.args.parts.now c.loop-part.part-index c.part-item.result c.requires.below c.loop-part-test.true c.part-item.is

pub first_ahead-first-requires-clause-below : goal.first_ahead-first-requires-clause-below
first_ahead-first-requires-clause-below c =
    let lt = slice_get_within c.args.table.now c.part-item.result.inner.0 c.row-row.result.now c.row-row.ensures.value in
    let down = choice_down c.args.table.now c.part-item.result.inner.0 c.row-row.result.now c.in-Choice.alternatives c.row-row.ensures.sound c.row-row.ensures.value c.in-Choice.is in
    rw c.as_slice.ensures (lower c.in-Choice.alternatives c.part-item.result.inner.0 (length c.args.table.now) (omega arith) down)

pub loop-part-preserved : goal.loop-part-preserved
loop-part-preserved c = elim c.match-row.branch [
  | in-Integer+in-Some+else-not-is_other_number w ↦
      let low : SFits w64 w.in-Integer.low = search rules in
      let high : SFits w64 w.in-Integer.high = search rules in
      let number : SFits w64 w.in-Some.number = search rules in
      let gives = simp to_z-of_z at w.in-Some.ensures.gives in
      let tested = simp to_z-of_z at w.is_other_number.ensures in
      let other : is_other c.part-item.result.default (Some (tree.integer w.in-Some.number)) ≡ true = sym tested ∙ w.if-not-is_other_number.false in
      let read = part_is c.args.table.now c.row-row.ensures.sound c.part-item.result.inner.0 w.in-Integer.low w.in-Integer.high w.in-Some.number (c.row-row.ensures.value ∙ ap Some w.in-Integer.is) c.args.scope.now (spot_of c.loop-part.spot) (spot_of w.in-Some.next) w.in-Some.ensures.looks gives c.part-item.result refl other in
      let items = simp to_z-of_z at w.push_reserved.ensures.items in
      record {
        onward = goes_then c.loop-part.invariant.onward (rw w.spot-is w.in-Some.ensures.stops);
        len = ap vec_len w.found-is ∙ w.push_reserved.ensures.len ∙ omega (arith, c.loop-part.invariant.len);
        room = ap vec_capacity w.found-is ∙ w.push_reserved.ensures.capacity ∙ c.loop-part.invariant.room;
        so_far = rw (w.found-is, items, w.spot-is) (part_goes_on (begins c.args.table.now) (reads c.args.table.now) c.args.scope.now c.args.parts.now c.loop-part.part-index c.part-item.result c.loop-part.found.items (spot_of c.loop-part.spot) _ c.loop-part-test.true c.part-item.is c.loop-part.invariant.so_far (Some (tree.integer w.in-Some.number)) (spot_of w.in-Some.next) read);
      }
  | in-Choice+in-Some-first+in-Ok w ↦
      let number : SFits w64 w.in-Some-first.number = search rules in
      let gives = rw w.as_slice.ensures at w.in-Some-first.ensures.gives in
      let read = choice_part c.args.table.now c.row-row.ensures.sound c.part-item.result w.in-Choice.alternatives (c.row-row.ensures.value ∙ ap Some w.in-Choice.is) c.args.scope.now (spot_of c.loop-part.spot) (tree.chosen 0 (tree.integer w.in-Some-first.number)) (spot_of w.in-Some-first.next) w.in-Some-first.ensures.looks gives (no_choice c.part-item.result.default 0 (tree.integer w.in-Some-first.number)) in
      let boxed = simp to_z-of_z at w.in-Ok.ensures.ok in
      record {
        onward = goes_then c.loop-part.invariant.onward (rw w.spot-is w.in-Some-first.ensures.stops);
        len = ap vec_len w.found-is ∙ w.push_reserved-in-Choice.ensures.len ∙ omega (arith, c.loop-part.invariant.len);
        room = ap vec_capacity w.found-is ∙ w.push_reserved-in-Choice.ensures.capacity ∙ c.loop-part.invariant.room;
        so_far = rw (w.found-is, w.push_reserved-in-Choice.ensures.items, w.spot-is, boxed) (part_goes_on (begins c.args.table.now) (reads c.args.table.now) c.args.scope.now c.args.parts.now c.loop-part.part-index c.part-item.result c.loop-part.found.items (spot_of c.loop-part.spot) _ c.loop-part-test.true c.part-item.is c.loop-part.invariant.so_far (Some (tree.chosen 0 (tree.integer w.in-Some-first.number))) (spot_of w.in-Some-first.next) read);
      }
  | in_default+else-not-is_absent w ↦
      let read = w.is_absent.ensures w.if-not-is_absent.false in
      record {
        onward = rw w.spot-is c.loop-part.invariant.onward;
        len = ap vec_len w.found-is ∙ w.push_reserved-in_default.ensures.len ∙ omega (arith, c.loop-part.invariant.len);
        room = ap vec_capacity w.found-is ∙ w.push_reserved-in_default.ensures.capacity ∙ c.loop-part.invariant.room;
        so_far = rw (w.found-is, w.push_reserved-in_default.ensures.items, w.spot-is) (part_goes_on (begins c.args.table.now) (reads c.args.table.now) c.args.scope.now c.args.parts.now c.loop-part.part-index c.part-item.result c.loop-part.found.items (spot_of c.loop-part.spot) _ c.loop-part-test.true c.part-item.is c.loop-part.invariant.so_far None (spot_of c.loop-part.spot) read);
      }
]
