-- The worked first faults: the tables are sound, and reading gives them.
use Rattle.std.proofs.Common.{ℕ, zero, suc, ◌<◌, true, false, List, [], ◌∷◌, refl, arith}
use Rattle.std.specs.Prelude.{slice_index}
use Rattle.osi_base.specs.declared.layer_words.Kind.TheVariants.{Tag, Length, Form}
use Rattle.asn1_types.specs.Rows.{openings}
use Rattle.asn1_types.specs.Writing.{integer_octets, writes, written}
use Rattle.ber_spelling.specs.declared.fault.ReadFault.TheVariants.{NotSpelled, TooDeep, TooLong}
use Rattle.osi_base.specs.Octets.{AreOctets}
use Rattle.ber_spelling.specs.Reading.{within}
use Rattle.ber_spelling.specs.Fields.{identifier_at, announced_at, definite_at, extent_at, contents_at, look_at}
use Rattle.ber_spelling.specs.Primitives.{integer_of}
use Rattle.ber_spelling.specs.Rules.{primitive_at, items_at, segment_at, segmented_at, string_at, part_at, parts_at, sequence_at, slot_at, reads, value_at, read_at}
use Rattle.ber_faults.specs.Examples.{with_default, set_of_integers, string_table, number_and_flag, default_written, falling_items, cut_by_its_end, half_a_mark, twice_and_constructed, nested_strings}
use Rattle.ber_faults.specs.FirstFault.{FirstFault, BerFault, DerFault}
use Rattle.ber_faults.proofs.FirstFaults.{given_is_first}

-- ---- octets

none : AreOctets []
none = record { each = λ i. omega arith }

more : (o : ℕ) (os : List ℕ) → o < 256 → AreOctets os → AreOctets (o ∷ os)
more o os lt h = record { each = at }
  where
    at : (i : ℕ) → slice_index (o ∷ os) i < 256
    at zero = lt
    at (suc i) = h.each i

-- ---- what reading gives

pub default_is_written : DerFault with_default 1 default_written (NotSpelled 7 Form)
unfolding read_at value_at reads openings within identifier_at extent_at look_at sequence_at parts_at part_at primitive_at contents_at definite_at announced_at integer_of
default_is_written =
    given_is_first with_default 1 true 262144 default_written (NotSpelled 7 Form) (more 48 _ (omega arith) (more 6 _ (omega arith) (more 2 _ (omega arith) (more 1 _ (omega arith) (more 5 _ (omega arith) (more 2 _ (omega arith) (more 1 _ (omega arith) (more 7 _ (omega arith) none)))))))) (λ e. cc) refl

pub items_fall : DerFault set_of_integers 1 falling_items (NotSpelled 5 Form)
unfolding read_at value_at reads openings within identifier_at extent_at look_at items_at primitive_at contents_at definite_at announced_at integer_of written writes integer_octets
items_fall =
    given_is_first set_of_integers 1 true 262144 falling_items (NotSpelled 5 Form) (more 49 _ (omega arith) (more 6 _ (omega arith) (more 2 _ (omega arith) (more 1 _ (omega arith) (more 3 _ (omega arith) (more 2 _ (omega arith) (more 1 _ (omega arith) (more 1 _ (omega arith) none)))))))) (λ e. cc) refl

pub contents_cut_a_field : BerFault with_default 1 cut_by_its_end (NotSpelled 3 Length)
unfolding read_at value_at reads openings within identifier_at extent_at look_at sequence_at parts_at part_at primitive_at contents_at definite_at announced_at integer_of
contents_cut_a_field =
    given_is_first with_default 1 false 262144 cut_by_its_end (NotSpelled 3 Length) (more 48 _ (omega arith) (more 1 _ (omega arith) (more 2 _ (omega arith) none))) (λ e. cc) refl

pub mark_passes_the_limit : FirstFault string_table 0 false 5 half_a_mark (TooLong 5)
unfolding read_at value_at reads openings within identifier_at extent_at look_at items_at primitive_at contents_at definite_at announced_at string_at segmented_at segment_at
mark_passes_the_limit =
    given_is_first string_table 0 false 5 half_a_mark (TooLong 5) (more 36 _ (omega arith) (more 128 _ (omega arith) (more 4 _ (omega arith) (more 1 _ (omega arith) (more 7 _ (omega arith) (more 0 _ (omega arith) none)))))) (λ e. cc) refl

pub part_comes_twice_in_another_form : BerFault number_and_flag 2 twice_and_constructed (NotSpelled 5 Tag)
unfolding read_at value_at reads openings within identifier_at extent_at look_at items_at slot_at primitive_at contents_at definite_at announced_at integer_of
part_comes_twice_in_another_form =
    given_is_first number_and_flag 2 false 262144 twice_and_constructed (NotSpelled 5 Tag) (more 49 _ (omega arith) (more 6 _ (omega arith) (more 2 _ (omega arith) (more 1 _ (omega arith) (more 7 _ (omega arith) (more 34 _ (omega arith) (more 1 _ (omega arith) (more 5 _ (omega arith) none)))))))) (λ e. cc) refl

nested_octets : (depth : ℕ) → AreOctets (nested_strings depth)
nested_octets zero = more 4 _ (omega arith) none
nested_octets (suc depth) = more 36 _ (omega arith) (more 128 _ (omega arith) (nested_octets depth))

pub strings_nest_too_deep : BerFault string_table 0 (nested_strings 32) (TooDeep 64)
unfolding read_at value_at reads openings within identifier_at extent_at look_at items_at primitive_at contents_at definite_at announced_at string_at segmented_at segment_at
strings_nest_too_deep = given_is_first string_table 0 false 262144 (nested_strings 32) (TooDeep 64) (nested_octets 32) (λ e. cc) refl
