-- The worked first faults: reading gives them.
use Rattle.std.proofs.Common.{ℕ, zero, suc, ◌<◌, List, [], ◌∷◌, refl, arith}
use Rattle.std.specs.Prelude.{slice_index}
use Rattle.osi_base.specs.declared.layer_words.Kind.TheVariants.{Content}
use Rattle.asn1_types.specs.Writing.{integer_octets as der_octets, writes, written}
use Rattle.packed_codec.specs.declared.fault.PackedFault.TheVariants.{NotSpelled}
use Rattle.packed_codec.specs.Fields.{announced_at, field_at, octet_at, count_at}
use Rattle.ber_spelling.specs.Primitives.{integer_of}
use Rattle.packed_codec.specs.Numbers.{integer_octets}
use Rattle.osi_base.specs.Octets.{AreOctets}
use Rattle.packed_codec.specs.Reading.{within}
use Rattle.packed_codec.specs.Rules.{sized_at, number_at, present_at, part_at, parts_at, sequence_at, set_item_at, set_items_at, set_of_at, reads, read_at}
use Rattle.packed_faults.specs.Examples.{with_default, set_of_integers, default_written, falling_items, large_size}
use Rattle.packed_faults.specs.FirstFault.{FirstFault}
use Rattle.packed_faults.proofs.FirstFaults.{given_is_first}

none : AreOctets []
none = record { each = λ i. omega arith }

more : (o : ℕ) (os : List ℕ) → o < 256 → AreOctets os → AreOctets (o ∷ os)
more o os lt h = record { each = at }
  where
    at : (i : ℕ) → slice_index (o ∷ os) i < 256
    at zero = lt
    at (suc i) = h.each i

pub default_is_written : FirstFault with_default 1 262144 default_written (NotSpelled 4 Content)
unfolding read_at reads sequence_at parts_at part_at present_at number_at sized_at octet_at field_at announced_at within integer_of integer_octets
default_is_written =
    given_is_first with_default 1 262144 default_written (NotSpelled 4 Content) 4 (more 1 _ (omega arith) (more 5 _ (omega arith) (more 1 _ (omega arith) (more 1 _ (omega arith) (more 7 _ (omega arith) none))))) refl refl

pub items_fall : FirstFault set_of_integers 1 262144 falling_items (NotSpelled 6 Content)
unfolding read_at reads set_of_at set_items_at set_item_at number_at sized_at count_at octet_at field_at announced_at within integer_of written writes der_octets
items_fall =
    given_is_first set_of_integers 1 262144 falling_items (NotSpelled 6 Content) 6 (more 0 _ (omega arith) (more 0 _ (omega arith) (more 0 _ (omega arith) (more 2 _ (omega arith) (more 1 _ (omega arith) (more 3 _ (omega arith) (more 1 _ (omega arith) (more 1 _ (omega arith) none)))))))) refl refl

pub size_is_large : FirstFault set_of_integers 0 1 large_size (NotSpelled 0 Content)
unfolding read_at reads number_at octet_at field_at announced_at within
size_is_large = given_is_first set_of_integers 0 1 large_size (NotSpelled 0 Content) 0 (more 9 _ (omega arith) none) refl refl
