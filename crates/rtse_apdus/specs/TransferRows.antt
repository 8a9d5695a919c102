-- The octets of a transfer, one presentation data value with its context, as rows of types (PDV-list of X.226 8.4.2).
use Rattle.std.specs.Prelude.{ℕ, pos, true, false, List, [], ◌∷◌, codes}
use Rattle.osi_base.specs.Limits.{highest_context, most_spelled}
use Rattle.asn1_types.specs.declared.row.TypeRow.{TypeRow}
use Rattle.asn1_types.specs.declared.row.TypeRow.TheVariants.{Integer, ObjectId, OctetString, BitString, Any, Choice, Sequence}
use Rattle.asn1_types.specs.FixedRows.{part, implicit, explicit}

abbrev pub transfer_row : ℕ
transfer_row = 9

abbrev pub transfer_rows : List TypeRow
transfer_rows =
    -- 0: the identifier of a context
    Integer (pos 1) (pos highest_context)
    -- 1: the name of a transfer syntax
    ∷ ObjectId
    ∷ OctetString most_spelled
    ∷ BitString
    ∷ Any
    -- 5 to 8: the forms of a value
    ∷ explicit 0 4
    ∷ implicit 1 2
    ∷ implicit 2 3
    ∷ Choice (part (codes "single") 5 false ∷ part (codes "aligned") 6 false ∷ part (codes "arbitrary") 7 false ∷ [])
    -- 9: the value with its context
    ∷ Sequence (part (codes "transfer") 1 true ∷ part (codes "identifier") 0 false ∷ part (codes "values") 8 false ∷ [])
    ∷ []
