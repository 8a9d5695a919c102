use Rattle.std.proofs.Common.{◌≡◌, ◌<◌, length, sym, ap, ◌∙◌, arith, true, Some, ℕ, List, Option}
use Rattle.std.proofs.Math.ListN.{length-set}
use denote.Ref.{Bor}
use Rattle.std.proofs.lemmas.Grind.{common_steps}
use Rattle.std.specs.Prelude.{slice_get, option_map}
use Rattle.std.specs.Option.{option_copied}
use Rattle.asn1_types.specs.declared.row.TypeRow.TheVariants.{Sequence, Set, SequenceOf, SetOf, Choice, Tagged}
use Rattle.asn1_types.proofs.Sound.{down_as}
use Rattle.asn1_types.proofs.FitLaws.{each_slot, not_within, false_not}
use Rattle.value_reading.specs.Found.{found}
use Rattle.value_reading.specs.Words.{word, behind_word, after_comma}
use Rattle.value_reading.specs.Typed.{place_of, may_stand, part_at, read_as}
use Rattle.value_reading.proofs.Turns.{goes_on}
use Rattle.value_reading.proofs.ReadLaws.{read_at, read_past}
use Rattle.value_reading.proofs.typed.+reading.Goals as goal

pub read_as-returns-then-has : goal.read_as-returns-then-has
read_as-returns-then-has t c =
    rw (read_at c.args.table.now c.row.ensures.sound c.args.of.0 c.row.result.now c.row.ensures.value) c.read_row.ensures

pub read_as-returns-else-has : goal.read_as-returns-else-has
read_as-returns-else-has t c =
    sym (read_past c.args.table.now c.args.of.0 c.args.text.now (not_within (length c.args.table.now) c.args.of.0 (λ lt. false_not (sym c.if-has.false ∙ c.has.ensures.1 lt))))

pub read_row-read_sequence-requires : goal.read_row-read_sequence-requires
read_row-read_sequence-requires t c =
    (omega arith, down_as c.args.table.now c.args.of.0 c.args.row.now (Sequence c.in-Sequence.parts) c.requires.row.sound c.requires.row.found c.in-Sequence.is)

pub read_row-read_sequence-requires-in-Set : goal.read_row-read_sequence-requires-in-Set
read_row-read_sequence-requires-in-Set t c =
    (omega arith, down_as c.args.table.now c.args.of.0 c.args.row.now (Set c.in-Set.parts) c.requires.row.sound c.requires.row.found c.in-Set.is)

pub read_row-read_list-requires : goal.read_row-read_list-requires
read_row-read_list-requires t c =
    let down = down_as c.args.table.now c.args.of.0 c.args.row.now (SequenceOf c.in-SequenceOf.inner) c.requires.row.sound c.requires.row.found c.in-SequenceOf.is in
    (omega arith, down.0)

pub read_row-read_set_of-requires : goal.read_row-read_set_of-requires
read_row-read_set_of-requires t c =
    let down = down_as c.args.table.now c.args.of.0 c.args.row.now (SetOf c.in-SetOf.inner) c.requires.row.sound c.requires.row.found c.in-SetOf.is in
    (omega arith, down.0)

pub read_row-read_choice-requires : goal.read_row-read_choice-requires
read_row-read_choice-requires t c =
    (omega arith, down_as c.args.table.now c.args.of.0 c.args.row.now (Choice c.in-Choice.alternatives) c.requires.row.sound c.requires.row.found c.in-Choice.is)

pub read_row-read_tagged-requires : goal.read_row-read_tagged-requires
read_row-read_tagged-requires t c =
    let down = down_as c.args.table.now c.args.of.0 c.args.row.now (Tagged c.in-Tagged.class c.in-Tagged.number c.in-Tagged.explicit c.in-Tagged.inner) c.requires.row.sound c.requires.row.found c.in-Tagged.is in
    (omega arith, down.0)

pub read_choice-read_as-requires : goal.read_choice-read_as-requires
read_choice-read_as-requires t c =
    let slot : slice_get c.args.alternatives.now c.in-Some.which ≡ Some c.in-Some-get.part.now = sym c.get.ensures ∙ ap option_copied c.in-Some-get.is in
    let lt : c.in-Some-get.part.now.inner.0 < c.args.of.0 = each_slot (λ m. m < c.args.of.0) c.args.alternatives.now c.in-Some.which c.in-Some-get.part.now c.requires.below slot in
    omega arith

pub read_parts-read_part-requires : goal.read_parts-read_part-requires
read_parts-read_part-requires t c =
    let slot : slice_get c.args.parts.now c.in-Some.place ≡ Some c.in-Some-get.part.now = sym c.get.ensures ∙ ap option_copied c.in-Some-get.is in
    let lt : c.in-Some-get.part.now.inner.0 < c.args.of.0 = each_slot (λ m. m < c.args.of.0) c.args.parts.now c.in-Some.place c.in-Some-get.part.now c.requires.below slot in
    (omega arith, lt)

pub read_parts-loop-turn-preserved : goal.read_parts-loop-turn-preserved
read_parts-loop-turn-preserved t c =
    let parts = c.args.parts.now in
    let here = c.loop-turn.here.now in
    let place = c.in-Some.place in
    let e1 : place_of parts (word here) ≡ Some place = cc in
    let e2 : may_stand c.args.in_order c.loop-turn.least c.loop-turn.slots.items place ≡ true = grind (arith, common_steps) in
    let e3 : slice_get parts place ≡ Some c.in-Some-get.part.now = sym c.get.ensures ∙ ap option_copied c.in-Some-get.is in
    let b : c.behind_word.result.now ≡ behind_word here = c.behind_word.ensures in
    let e4 : part_at (read_as c.args.table.now) (Some c.in-Some-get.part.now) (behind_word here) ≡ Some (record { value = c.in-Some-2.front.value; rest = c.in-Some-2.front.rest.now }) =
    ap (λ (x : List ℕ). part_at (read_as c.args.table.now) (Some c.in-Some-get.part.now) x) (sym b) ∙ sym c.in_ok-front.ensures ∙ ap found c.in-Some-2.is in
    let e5 : after_comma c.in-Some-2.front.rest.now ≡ Some c.in-Some-after_comma.next.now =
    sym c.after_comma.ensures ∙ ap (λ (x : Option (Bor (List ℕ))). option_map (λ r. r.now) x) c.in-Some-after_comma.is in
    let on = goes_on (read_as c.args.table.now) c.args.in_order parts (length parts) c.loop-turn._turn c.loop-turn.slots.items c.loop-turn.least here place
    c.in-Some-get.part.now c.in-Some-2.front.value c.in-Some-2.front.rest.now c.in-Some-after_comma.next.now (omega arith) e1 e2 e3 e4 e5 in
    rw (c.put_slot.ensures) (record {
      rest = c.loop-turn.invariant.rest ∙ on;
      slots = length-set c.loop-turn.slots.items place (Some c.in-Some-2.front.value) ∙ c.loop-turn.invariant.slots;
    })
