-- The APDUs of reliable transfer as rows of types (X.228 9).
use Rattle.std.specs.Prelude.{ℕ, pos, negsuc, true, false, List, [], ◌∷◌, codes}
use Rattle.osi_base.specs.Limits.{most_checkpoint, most_32, most_spelled, most_signed}
use Rattle.asn1_types.specs.declared.row.Class.TheVariants.{Universal}
use Rattle.asn1_types.specs.declared.row.TypeRow.{TypeRow}
use Rattle.asn1_types.specs.declared.row.TypeRow.TheVariants.{Integer, OctetString, Sequence, Set, Choice, Tagged, Any}
use Rattle.asn1_types.specs.FixedRows.{part, implicit, explicit}

-- the row of all APDUs
abbrev pub rtse_row : ℕ
rtse_row = 23

abbrev pub rtse_rows : List TypeRow
rtse_rows =
    -- 0: a size of checkpoints, or of a window, which have the same limit
    Integer (pos 0) (pos most_checkpoint)
    -- 1: a reason, or a dialogue mode
    ∷ Integer (negsuc most_signed) (pos most_signed)
    -- 2: RTTP
    ∷ Integer (pos 0) (pos most_32)
    -- 3: RTTR, or a reference
    ∷ OctetString most_spelled
    -- 4: what an opening carries for its user
    ∷ Any
    -- 5: a common reference
    ∷ Tagged Universal 23 false (record { 0 = 3 })
    -- 6: the references of an association
    ∷ Sequence (part (codes "reference") 3 false ∷ part (codes "common") 5 false ∷ [])
    -- 7 to 9: connection data
    ∷ explicit 0 4
    ∷ implicit 1 6
    ∷ Choice (part (codes "open") 7 false ∷ part (codes "recover") 8 false ∷ [])
    -- 10, 11: connection data in RTORQ and in RTOAC
    ∷ explicit 3 9
    ∷ explicit 2 9
    -- 12 to 14: sizes and mode
    ∷ implicit 0 0
    ∷ implicit 1 0
    ∷ implicit 2 1
    -- 15, 16: RTORQ
    ∷ Set (part (codes "checkpoint") 12 true ∷ part (codes "window") 13 true ∷ part (codes "mode") 14 true ∷ part (codes "data") 10 false ∷ [])
    ∷ implicit 16 15
    -- 17, 18: RTOAC
    ∷ Set (part (codes "checkpoint") 12 true ∷ part (codes "window") 13 true ∷ part (codes "data") 11 false ∷ [])
    ∷ implicit 17 17
    -- 19, 20: a reason
    ∷ implicit 0 1
    ∷ Set (part (codes "reason") 19 false ∷ [])
    -- 21, 22: RTORJ and RTAB
    ∷ implicit 18 20
    ∷ implicit 22 20
    -- 23: any of them
    ∷ Choice (part (codes "openRequest") 16 false ∷ part (codes "openAccept") 18 false ∷ part (codes "openReject") 21 false ∷
    part (codes "abort") 22 false ∷ part (codes "turnPlease") 2 false ∷ part (codes "transfer") 3 false ∷ [])
    ∷ []
