-- The APDUs of association control and the values that they stand for (X.227 9).
use Rattle.std.specs.Prelude.{◌==◌, ℕ, pos, List, [], ◌∷◌, map, Option, Some, None, if◌then◌else◌}
use Rattle.osi_base.specs.declared.bit_string.BitString as strings
use Rattle.osi_base.specs.declared.acse_word.External as externals
use Rattle.osi_base.specs.declared.acse_word.Diagnostic as diagnostics
use Rattle.osi_base.specs.declared.acse_word.Diagnostic.TheVariants as diagnostic
use Rattle.osi_base.specs.declared.acse_word.Acse as apdus
use Rattle.osi_base.specs.declared.acse_word.Acse.TheVariants as apdu
use Rattle.asn1_types.specs.Value.{Value, integer, object_id, bits, parts, list, chosen, any, MaybeValues, no_parts, absent, present}
use Rattle.asn1_types.specs.ValueView.{values_of}
use Rattle.fixed_tables.specs.Reasons.{reason_in, reason_value}
use Rattle.fixed_tables.specs.Values.{part_in, number_or, small_or, octet_or, octets_in, arcs_in, maybe_bits, items_in, alternative, inside}

-- ---- what a value says

abbrev pub external_in : Value → externals.External
external_in v = record { id = small_or (pos 0) (part_in 0 (Some v)); value = octets_in (part_in 1 (Some v)) }

-- user information that lacks has no items
abbrev pub user_in : Option Value → List externals.External
user_in v = map external_in (items_in v)

abbrev pub diagnostic_in : Option Value → diagnostics.Diagnostic
diagnostic_in v = if alternative v == 0 then diagnostic.User (number_or (pos 0) (inside v)) else diagnostic.Provider (number_or (pos 0) (inside v))

abbrev pub request_in : Option Value → apdus.Acse
request_in v = apdu.AssociateRequest (maybe_bits (part_in 0 v)) (arcs_in (part_in 1 v)) (user_in (part_in 2 v))

abbrev pub response_in : Option Value → apdus.Acse
response_in v = apdu.AssociateResponse (arcs_in (part_in 0 v)) (octet_or (pos 0) (part_in 1 v)) (diagnostic_in (part_in 2 v)) (user_in (part_in 3 v))

-- the APDU of an alternative with its value
abbrev pub apdu_by : ℕ → Option Value → apdus.Acse
apdu_by which v =
    if which == 0 then request_in v
    else (if which == 1 then response_in v
    else (if which == 2 then apdu.ReleaseRequest (reason_in v)
    else (if which == 3 then apdu.ReleaseResponse (reason_in v)
    else apdu.Abort (octet_or (pos 0) (part_in 0 v)) (user_in (part_in 1 v)))))

abbrev pub apdu_in : Value → apdus.Acse
apdu_in v = apdu_by (alternative (Some v)) (inside (Some v))

-- ---- the value that says it

abbrev pub external_value : externals.External → Value
external_value e = parts (present (integer (pos e.id)) (present (any e.value) no_parts))

-- a list of no items isn't written
abbrev pub user_part : List externals.External → MaybeValues
user_part [] = absent no_parts
user_part (e ∷ es) = present (list (values_of (map external_value (e ∷ es)))) no_parts

abbrev pub bits_part : Option strings.BitString → MaybeValues → MaybeValues
bits_part None more = absent more
bits_part (Some string) more = present (bits string.octets string.unused) more

abbrev pub diagnostic_value : diagnostics.Diagnostic → Value
diagnostic_value (diagnostic.User number) = chosen 0 (integer number)
diagnostic_value (diagnostic.Provider number) = chosen 1 (integer number)

abbrev pub value_of : apdus.Acse → Value
value_of (apdu.AssociateRequest version context user) = chosen 0 (parts (bits_part version (present (object_id context) (user_part user))))
value_of (apdu.AssociateResponse context result reason user) = chosen 1 (parts (present (object_id context) (present (integer (pos result)) (present (diagnostic_value reason) (user_part user)))))
value_of (apdu.ReleaseRequest reason) = chosen 2 (reason_value reason)
value_of (apdu.ReleaseResponse reason) = chosen 3 (reason_value reason)
value_of (apdu.Abort source user) = chosen 4 (parts (present (integer (pos source)) (user_part user)))
