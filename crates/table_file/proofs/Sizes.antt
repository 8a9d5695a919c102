-- The room that a number and an object identifier need.
use Rattle.std.proofs.Common.{◌≡◌, ℕ, ◌*◌, ◌≤◌, Bool, true, false, List, [], ◌∷◌, length, sym, subst, arith, length-append}
use Rattle.std.specs.Prelude.{ℤ, nat_eq, nat_le, if◌then◌else◌}
use Rattle.std.specs.List.{flat_map}
use Rattle.std.specs.Int.{w64, cast_unsigned, bytes_high_first}
use Rattle.std.proofs.lemmas.Bool.{and_parts}
use Rattle.std.proofs.lemmas.Bool.Decides.{nat_tests}
use Rattle.asn1_types.specs.declared.row.TypeRow.{TypeRow}
use Rattle.asn1_types.specs.Value.{integer, object_id}
use Rattle.osi_base.specs.Oid.{IsOid, starts_well}
use Rattle.asn1_types.specs.Writing.{subidentifiers}
use Rattle.ber_spelling.specs.Primitives.{is_padded}
use Rattle.packed_codec.specs.Numbers.{unpadded, integer_octets}
use Rattle.packed_codec.specs.ObjectIds.{digits_128, without_zeros, base_128, arcs_octets}
use Rattle.packed_codec.specs.Writing.{packed}
use Rattle.table_file.specs.FieldTypes.{field_types}

unpadded_few : (os : List ℕ) → length (unpadded os) ≤ length os
unpadded_few [] = omega arith
unpadded_few (o ∷ os) = by (unpadded_few os) (is_padded (o ∷ os))
  where
    by : length (unpadded os) ≤ length os → (b : Bool) → length (if b then unpadded os else o ∷ os) ≤ length (o ∷ os)
    by h true = omega arith
    by h false = omega arith

integer_few : (z : ℤ) → length (integer_octets z) ≤ 8
unfolding integer_octets
integer_few z = unpadded_few (bytes_high_first 8 (cast_unsigned w64 z))

pub integer_room : (types : List TypeRow) (z : ℤ) → types ≡ field_types → length (packed types 0 (integer z)) ≤ 200
unfolding packed
integer_room types z is = subst (λ (t : List TypeRow). length (packed t 0 (integer z)) ≤ 200) (sym is) (omega (arith, integer_few z))

without_few : (ds : List ℕ) → length (without_zeros ds) ≤ length ds
without_few [] = omega arith
without_few (d ∷ ds) = by (without_few ds) (nat_eq d 128)
  where
    by : length (without_zeros ds) ≤ length ds → (b : Bool) → length (if b then without_zeros ds else d ∷ ds) ≤ length (d ∷ ds)
    by h true = omega arith
    by h false = omega arith

base_few : (n : ℕ) → length (base_128 n) ≤ 5
unfolding base_128
base_few n = without_few (digits_128 n)

all_few : (ns : List ℕ) → length (flat_map base_128 ns) ≤ 5 * length ns
all_few [] = omega arith
all_few (n ∷ ns) = omega (arith, length-append (base_128 n) (flat_map base_128 ns), base_few n, all_few ns)

subidentifiers_few : (arcs : List ℕ) → length (subidentifiers arcs) ≤ length arcs
subidentifiers_few [] = omega arith
subidentifiers_few (root ∷ []) = omega arith
subidentifiers_few (root ∷ second ∷ arcs) = omega arith

arcs_few : (arcs : List ℕ) → length arcs ≤ 32 → length (arcs_octets arcs) ≤ 160
unfolding arcs_octets
arcs_few arcs le = omega (arith, all_few (subidentifiers arcs), subidentifiers_few arcs, le)

oid_few : (arcs : List ℕ) → IsOid arcs → length arcs ≤ 32
oid_few arcs h = let p = (and_parts (nat_le (length arcs) 32) (starts_well arcs) h).0 in grind (arith, nat_tests)

pub oid_room : (types : List TypeRow) (arcs : List ℕ) → types ≡ field_types → IsOid arcs → length (packed types 1 (object_id arcs)) ≤ 200
unfolding packed
oid_room types arcs is one = subst (λ (t : List TypeRow). length (packed t 1 (object_id arcs)) ≤ 200) (sym is) (omega (arith, arcs_few arcs (oid_few arcs one)))
