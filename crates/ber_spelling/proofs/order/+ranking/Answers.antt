use Rattle.std.proofs.Common.{◌≡◌, ◌<◌, sym, ap, ◌∙◌, arith, Some, [], true, false}
use Rattle.std.specs.Prelude.{slice_get}
use Rattle.std.specs.Option.{option_copied}
use Rattle.std.proofs.lemmas.Option.{slice_get_within}
use Rattle.asn1_types.specs.declared.row.TypeRow.TheVariants.{Choice}
use Rattle.asn1_types.proofs.Sound.{down_as}
use Rattle.asn1_types.proofs.FitLaws.{each_slot}
use Rattle.ber_spelling.proofs.WriteLaws.{writes_at}
use Rattle.asn1_types.specs.declared.row.Class.TheVariants.{Universal}
use Rattle.asn1_types.specs.Rows.{text_number}
use Rattle.asn1_types.specs.Writing.{boolean_contents, integer_contents, octets_contents, bits_contents, object_id_contents, text_contents, sequence_contents, parts_contents, set_parts, list_contents, writes}
use Rattle.asn1_types.specs.Tags.{rank}
use Rattle.ber_spelling.proofs.Orders.{definite_rank}
use Rattle.ber_spelling.proofs.Ranks.{tagged_rank, ranked_as}
use Rattle.ber_spelling.proofs.order.+ranking.Goals as goal

pub rank_of-returns : goal.rank_of-returns
rank_of-returns t c =
    rw (writes_at c.args.table.now c.row.ensures.sound c.args.of.0 c.row.result.now c.row.ensures.value) c.rank_by.ensures

pub rank_by-rank_of_chosen-requires : goal.rank_by-rank_of_chosen-requires
rank_by-rank_of_chosen-requires t c =
    let lt = slice_get_within c.args.table.now c.args.of.0 c.args.row.now c.requires.row.found in
    let down = down_as c.args.table.now c.args.of.0 c.args.row.now (Choice c.in-Choice.alternatives) c.requires.row.sound c.requires.row.found c.in-Choice.is in
    (omega arith, (down, omega arith))

pub rank_by-returns-in-Tagged : goal.rank_by-returns-in-Tagged
rank_by-returns-in-Tagged t c =
    c.tag_rank-in-Tagged.ensures.value ∙ sym (tagged_rank c.args.table.now c.requires.row.sound c.args.of.0 c.args.row.now _ _ _ _ c.args.value.now c.requires.row.found c.in-Tagged.is)

pub rank_of_chosen-rank_of-requires : goal.rank_of_chosen-rank_of-requires
rank_of_chosen-rank_of-requires t c =
    let slot : slice_get c.args.alternatives.now c.in-Chosen.which ≡ Some c.in-Some.part.now = sym c.get.ensures ∙ ap option_copied c.in-Some.is in
    let lt : c.in-Some.part.now.inner.0 < c.args.of.0 = each_slot (λ m. m < c.args.of.0) c.args.alternatives.now c.in-Chosen.which c.in-Some.part.now c.requires.below slot in
    (omega arith, omega arith)

pub rank_by-returns-in-Boolean : goal.rank_by-returns-in-Boolean
rank_by-returns-in-Boolean t c =
    ranked_as (writes c.args.table.now) c.args.row.now _ c.args.value.now _ _ c.in-Boolean.is c.tag_rank.ensures.value (definite_rank false (record { class = Universal; number = 1 }) (boolean_contents c.args.value.now))

pub rank_by-returns-in-Integer : goal.rank_by-returns-in-Integer
rank_by-returns-in-Integer t c =
    ranked_as (writes c.args.table.now) c.args.row.now _ c.args.value.now _ _ c.in-Integer.is c.tag_rank-in-Integer.ensures.value (definite_rank false (record { class = Universal; number = 2 }) (integer_contents c.args.value.now))

pub rank_by-returns-in-BitString : goal.rank_by-returns-in-BitString
rank_by-returns-in-BitString t c =
    ranked_as (writes c.args.table.now) c.args.row.now _ c.args.value.now _ _ c.in-BitString.is c.tag_rank-in-BitString.ensures.value (definite_rank false (record { class = Universal; number = 3 }) (bits_contents c.args.value.now))

pub rank_by-returns-in-OctetString : goal.rank_by-returns-in-OctetString
rank_by-returns-in-OctetString t c =
    ranked_as (writes c.args.table.now) c.args.row.now _ c.args.value.now _ _ c.in-OctetString.is c.tag_rank-in-OctetString.ensures.value (definite_rank false (record { class = Universal; number = 4 }) (octets_contents c.args.value.now))

pub rank_by-returns-in-Null : goal.rank_by-returns-in-Null
rank_by-returns-in-Null t c =
    ranked_as (writes c.args.table.now) c.args.row.now _ c.args.value.now _ _ c.in-Null.is c.tag_rank-in-Null.ensures.value (definite_rank false (record { class = Universal; number = 5 }) [])

pub rank_by-returns-in-ObjectId : goal.rank_by-returns-in-ObjectId
rank_by-returns-in-ObjectId t c =
    ranked_as (writes c.args.table.now) c.args.row.now _ c.args.value.now _ _ c.in-ObjectId.is c.tag_rank-in-ObjectId.ensures.value (definite_rank false (record { class = Universal; number = 6 }) (object_id_contents c.args.value.now))

pub rank_by-returns-in-Enumerated : goal.rank_by-returns-in-Enumerated
rank_by-returns-in-Enumerated t c =
    ranked_as (writes c.args.table.now) c.args.row.now _ c.args.value.now _ _ c.in-Enumerated.is c.tag_rank-in-Enumerated.ensures.value (definite_rank false (record { class = Universal; number = 10 }) (integer_contents c.args.value.now))

pub rank_by-returns-in-Text : goal.rank_by-returns-in-Text
rank_by-returns-in-Text t c =
    ranked_as (writes c.args.table.now) c.args.row.now _ c.args.value.now _ _ c.in-Text.is (c.tag_rank-in-Text.ensures.value ∙ ap (rank Universal) c.text_number.ensures) (definite_rank false (record { class = Universal; number = (text_number c.in-Text.kind) }) (text_contents c.args.value.now))

pub rank_by-returns-in-Sequence : goal.rank_by-returns-in-Sequence
rank_by-returns-in-Sequence t c =
    ranked_as (writes c.args.table.now) c.args.row.now _ c.args.value.now _ _ c.in-Sequence.is c.tag_rank-in-Sequence.ensures.value (definite_rank true (record { class = Universal; number = 16 }) (sequence_contents (parts_contents (writes c.args.table.now) c.in-Sequence.field-0) c.args.value.now))

pub rank_by-returns-in-SequenceOf : goal.rank_by-returns-in-SequenceOf
rank_by-returns-in-SequenceOf t c =
    ranked_as (writes c.args.table.now) c.args.row.now _ c.args.value.now _ _ c.in-SequenceOf.is c.tag_rank-in-SequenceOf.ensures.value (definite_rank true (record { class = Universal; number = 16 }) (list_contents (writes c.args.table.now c.in-SequenceOf.field-0.0) c.args.value.now))

pub rank_by-returns-in-Set : goal.rank_by-returns-in-Set
rank_by-returns-in-Set t c =
    ranked_as (writes c.args.table.now) c.args.row.now _ c.args.value.now _ _ c.in-Set.is c.tag_rank-in-Set.ensures.value (definite_rank true (record { class = Universal; number = 17 }) (sequence_contents (set_parts (writes c.args.table.now) c.in-Set.field-0) c.args.value.now))

pub rank_by-returns-in-SetOf : goal.rank_by-returns-in-SetOf
rank_by-returns-in-SetOf t c =
    ranked_as (writes c.args.table.now) c.args.row.now _ c.args.value.now _ _ c.in-SetOf.is c.tag_rank-in-SetOf.ensures.value (definite_rank true (record { class = Universal; number = 17 }) (list_contents (writes c.args.table.now c.in-SetOf.field-0.0) c.args.value.now))
