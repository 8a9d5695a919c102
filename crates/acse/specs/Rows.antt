-- The APDUs of association control as rows of types (X.227 9), without the fields that are passed over.
use Rattle.std.specs.Prelude.{◌≡◌, ℕ, pos, negsuc, true, false, List, [], ◌∷◌, length, codes}
use Rattle.osi_base.specs.Limits.{highest_context, most_signed}
use Rattle.osi_base.specs.OctetPlaces.{HasPlaces}
use Rattle.asn1_types.specs.declared.row.Class.TheVariants.{Universal, Application}
use Rattle.asn1_types.specs.declared.row.TypeRow.{TypeRow}
use Rattle.asn1_types.specs.declared.row.TypeRow.TheVariants.{Integer, BitString, ObjectId, Sequence, SequenceOf, Choice, Tagged, Any}
use Rattle.asn1_types.specs.FixedRows.{part, implicit, explicit}
use Rattle.ber_spelling.specs.declared.spot.Spot.{Spot}

-- how many rows the table has
abbrev pub row_count : ℕ
row_count = 31

-- A table has all rows, and the octets of a spot all have places.
pub record HasRowsAndPlaces (table : List TypeRow) (spot : Spot) : Type 0 where
  pub all : length table ≡ row_count
  pub whole : HasPlaces spot.place spot.rest.now

-- the row of all APDUs
abbrev pub acse_row : ℕ
acse_row = 30

abbrev pub acse_rows : List TypeRow
acse_rows =
    -- 0: an identifier of a presentation context
    Integer (pos 1) (pos highest_context)
    -- 1 to 4: a name, a version, a value for the user, a reason
    ∷ ObjectId
    ∷ BitString
    ∷ Any
    ∷ Integer (negsuc most_signed) (pos most_signed)
    -- 5, 6: a result, a source of an abort
    ∷ Integer (pos 0) (pos 2)
    ∷ Integer (pos 0) (pos 1)
    -- 7 to 11: user information
    ∷ explicit 0 3
    ∷ Sequence (part (codes "identifier") 0 false ∷ part (codes "value") 7 false ∷ [])
    ∷ Tagged Universal 8 false (record { 0 = 8 })
    ∷ SequenceOf (record { 0 = 9 })
    ∷ implicit 30 10
    -- 12 to 15: AARQ
    ∷ implicit 0 2
    ∷ explicit 1 1
    ∷ Sequence (part (codes "version") 12 true ∷ part (codes "context") 13 false ∷ part (codes "user") 11 true ∷ [])
    ∷ Tagged Application 0 false (record { 0 = 14 })
    -- 16 to 22: AARE
    ∷ explicit 2 5
    ∷ explicit 1 4
    ∷ explicit 2 4
    ∷ Choice (part (codes "user") 17 false ∷ part (codes "provider") 18 false ∷ [])
    ∷ explicit 3 19
    ∷ Sequence (part (codes "context") 13 false ∷ part (codes "result") 16 false ∷ part (codes "diagnostic") 20 false ∷ part (codes "user") 11 true ∷ [])
    ∷ Tagged Application 1 false (record { 0 = 21 })
    -- 23 to 26: RLRQ and RLRE
    ∷ implicit 0 4
    ∷ Sequence (part (codes "reason") 23 true ∷ [])
    ∷ Tagged Application 2 false (record { 0 = 24 })
    ∷ Tagged Application 3 false (record { 0 = 24 })
    -- 27 to 29: ABRT
    ∷ implicit 0 6
    ∷ Sequence (part (codes "source") 27 false ∷ part (codes "user") 11 true ∷ [])
    ∷ Tagged Application 4 false (record { 0 = 28 })
    -- 30: any of them
    ∷ Choice (part (codes "AARQ") 15 false ∷ part (codes "AARE") 22 false ∷ part (codes "RLRQ") 25 false ∷ part (codes "RLRE") 26 false ∷ part (codes "ABRT") 29 false ∷ [])
    ∷ []
