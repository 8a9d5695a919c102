-- The units of the presentation protocol as rows of types (X.226 8.2 to 8.4), without the fields that are passed over
-- and without default contexts.
use Rattle.std.specs.Prelude.{◌≡◌, ℕ, pos, negsuc, true, false, List, [], ◌∷◌, length, codes}
use Rattle.osi_base.specs.Limits.{highest_context, most_spelled, most_signed}
use Rattle.osi_base.specs.OctetPlaces.{HasPlaces}
use Rattle.asn1_types.specs.declared.row.Class.TheVariants.{Application}
use Rattle.asn1_types.specs.declared.row.Part.{Part}
use Rattle.asn1_types.specs.declared.row.TypeRow.{TypeRow}
use Rattle.asn1_types.specs.declared.row.TypeRow.TheVariants.{Integer, OctetString, BitString, ObjectId, Sequence, Set, SequenceOf, Choice, Tagged, Any}
use Rattle.asn1_types.specs.FixedRows.{part, implicit, explicit}
use Rattle.ber_spelling.specs.declared.spot.Spot.{Spot}

-- how many rows the table has
abbrev pub row_count : ℕ
row_count = 64

-- A table has all rows, and the octets of a spot all have places.
pub record HasRowsAndPlaces (table : List TypeRow) (spot : Spot) : Type 0 where
  pub all : length table ≡ row_count
  pub whole : HasPlaces spot.place spot.rest.now

abbrev pub connect_row : ℕ
connect_row = 44

abbrev pub accept_row : ℕ
accept_row = 47

abbrev pub reject_row : ℕ
reject_row = 48

abbrev pub alter_row : ℕ
alter_row = 52

abbrev pub alter_ack_row : ℕ
alter_ack_row = 56

abbrev pub restart_row : ℕ
restart_row = 58

abbrev pub user_abort_row : ℕ
user_abort_row = 60

abbrev pub provider_abort_row : ℕ
provider_abort_row = 63

abbrev pub data_row : ℕ
data_row = 16

-- ---- the parts of the rows that have parts

abbrev pub content_parts : List Part
content_parts = part (codes "single") 10 false ∷ part (codes "aligned") 11 false ∷ part (codes "arbitrary") 12 false ∷ []

abbrev pub pdv_parts : List Part
pdv_parts = part (codes "transfer") 1 true ∷ part (codes "identifier") 0 false ∷ part (codes "values") 13 false ∷ []

abbrev pub definition_parts : List Part
definition_parts = part (codes "identifier") 0 false ∷ part (codes "abstract") 1 false ∷ part (codes "transfers") 17 false ∷ []

abbrev pub answer_parts : List Part
answer_parts = part (codes "result") 20 false ∷ part (codes "transfer") 21 true ∷ part (codes "reason") 22 true ∷ []

abbrev pub restored_parts : List Part
restored_parts = part (codes "identifier") 0 false ∷ part (codes "transfer") 1 false ∷ []

abbrev pub mode_parts : List Part
mode_parts = part (codes "mode") 29 false ∷ []

abbrev pub connect_fields_parts : List Part
connect_fields_parts =
    part (codes "version") 32 true ∷ part (codes "calling") 33 true ∷ part (codes "called") 34 true
    ∷ part (codes "definitions") 36 true ∷ part (codes "requirements") 39 true ∷ part (codes "session") 40 true
    ∷ part (codes "user") 16 true ∷ []

abbrev pub connect_parts : List Part
connect_parts = part (codes "mode") 31 false ∷ part (codes "fields") 43 false ∷ []

abbrev pub accept_fields_parts : List Part
accept_fields_parts =
    part (codes "version") 32 true ∷ part (codes "responding") 35 true ∷ part (codes "results") 37 true
    ∷ part (codes "requirements") 39 true ∷ part (codes "session") 40 true ∷ part (codes "user") 16 true ∷ []

abbrev pub accept_parts : List Part
accept_parts = part (codes "mode") 31 false ∷ part (codes "fields") 46 false ∷ []

abbrev pub reject_parts : List Part
reject_parts =
    part (codes "version") 32 true ∷ part (codes "responding") 35 true ∷ part (codes "results") 37 true
    ∷ part (codes "default") 38 true ∷ part (codes "reason") 41 true ∷ part (codes "user") 16 true ∷ []

abbrev pub alter_parts : List Part
alter_parts = part (codes "additions") 49 true ∷ part (codes "deletions") 50 true ∷ []

abbrev pub alter_ack_parts : List Part
alter_ack_parts = part (codes "additions") 53 true ∷ part (codes "deletions") 54 true ∷ []

abbrev pub restart_parts : List Part
restart_parts = part (codes "contexts") 57 true ∷ []

abbrev pub user_abort_parts : List Part
user_abort_parts = part (codes "contexts") 57 true ∷ part (codes "user") 16 true ∷ []

abbrev pub provider_abort_parts : List Part
provider_abort_parts = part (codes "reason") 61 false ∷ part (codes "event") 62 true ∷ []

-- ---- the rows, each group in front of the others

-- rows 0 to 16: values and user data
abbrev pub rows_of_values : List TypeRow → List TypeRow
rows_of_values others =
    -- 0: an identifier of a context
    Integer (pos 1) (pos highest_context)
    -- 1: a name, octets, bits, any value, a reason
    ∷ ObjectId
    ∷ OctetString most_spelled
    ∷ BitString
    ∷ Any
    ∷ Integer (negsuc most_signed) (pos most_signed)
    -- 6: a result, the reason of a provider, the answer to a deletion, the mode
    ∷ Integer (pos 0) (pos 2)
    ∷ Integer (pos 0) (pos 3)
    ∷ Integer (pos 0) (pos 1)
    ∷ Integer (pos 1) (pos 1)
    -- 10: presentation data values and user data
    ∷ explicit 0 4
    ∷ implicit 1 2
    ∷ implicit 2 3
    ∷ Choice content_parts
    ∷ Sequence pdv_parts
    ∷ SequenceOf (record { 0 = 14 })
    ∷ Tagged Application 1 false (record { 0 = 15 })
    ∷ others

-- rows 17 to 31: lists of contexts, and the mode
abbrev pub rows_of_definitions : List TypeRow → List TypeRow
rows_of_definitions others =
    -- 17: definitions of contexts
    SequenceOf (record { 0 = 1 })
    ∷ Sequence definition_parts
    ∷ SequenceOf (record { 0 = 18 })
    -- 20: results of definitions
    ∷ implicit 0 6
    ∷ implicit 1 1
    ∷ implicit 2 7
    ∷ Sequence answer_parts
    ∷ SequenceOf (record { 0 = 23 })
    -- 25: contexts that are restored
    ∷ Sequence restored_parts
    ∷ SequenceOf (record { 0 = 25 })
    -- 27: deletions and the answers to them
    ∷ SequenceOf (record { 0 = 0 })
    ∷ SequenceOf (record { 0 = 8 })
    -- 29: the mode selector
    ∷ implicit 0 9
    ∷ Set mode_parts
    ∷ implicit 0 30
    ∷ others

-- rows 32 to 41: fields of CP, CPA and CPR
abbrev pub rows_of_fields : List TypeRow → List TypeRow
rows_of_fields others =
    implicit 0 3
    ∷ implicit 1 2
    ∷ implicit 2 2
    ∷ implicit 3 2
    ∷ implicit 4 19
    ∷ implicit 5 24
    ∷ implicit 7 6
    ∷ implicit 8 3
    ∷ implicit 9 3
    ∷ implicit 10 5
    ∷ others

-- rows 42 to 48: CP, CPA and CPR
abbrev pub rows_of_connections : List TypeRow → List TypeRow
rows_of_connections others =
    -- 42: CP
    Sequence connect_fields_parts
    ∷ implicit 2 42
    ∷ Set connect_parts
    -- 45: CPA
    ∷ Sequence accept_fields_parts
    ∷ implicit 2 45
    ∷ Set accept_parts
    -- 48: CPR
    ∷ Sequence reject_parts
    ∷ others

-- rows 49 to 56: AC and ACA
abbrev pub rows_of_alterations : List TypeRow → List TypeRow
rows_of_alterations others =
    implicit 0 19
    ∷ implicit 1 27
    ∷ Sequence alter_parts
    ∷ implicit 0 51
    ∷ implicit 0 24
    ∷ implicit 1 28
    ∷ Sequence alter_ack_parts
    ∷ implicit 1 55
    ∷ others

-- rows 57 to 63: RS, RSA, ARU and ARP
abbrev pub rows_of_restarts : List TypeRow → List TypeRow
rows_of_restarts others =
    -- 57: RS and RSA
    implicit 0 26
    ∷ Sequence restart_parts
    -- 59: ARU and ARP
    ∷ Sequence user_abort_parts
    ∷ implicit 0 59
    ∷ implicit 0 5
    ∷ implicit 1 5
    ∷ Sequence provider_abort_parts
    ∷ others

abbrev pub ppdu_rows : List TypeRow
ppdu_rows = rows_of_values (rows_of_definitions (rows_of_fields (rows_of_connections (rows_of_alterations (rows_of_restarts [])))))
