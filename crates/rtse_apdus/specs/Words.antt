-- The APDUs of reliable transfer and the values that they stand for (X.228 9).
use Rattle.std.specs.Prelude.{◌==◌, ℕ, pos, Option, Some, if◌then◌else◌}
use Rattle.osi_base.specs.declared.rtse_word.ConnectionData as connections
use Rattle.osi_base.specs.declared.rtse_word.ConnectionData.TheVariants as connection
use Rattle.osi_base.specs.declared.rtse_word.Rtse as apdus
use Rattle.osi_base.specs.declared.rtse_word.Rtse.TheVariants as apdu
use Rattle.asn1_types.specs.Value.{Value, integer, octets, parts, chosen, any, no_parts, present}
use Rattle.fixed_tables.specs.Reasons.{reason_in, reason_value}
use Rattle.fixed_tables.specs.Values.{part_in, number_or, small_or, octets_in, alternative, inside}

-- ---- what a value says

abbrev pub data_in : Option Value → connections.ConnectionData
data_in v = if alternative v == 0 then connection.Open (octets_in (inside v)) else connection.Recover (octets_in (part_in 0 (inside v))) (octets_in (part_in 1 (inside v)))

-- a size of checkpoints is 0, a window 3 and a dialogue mode 0 where it lacks
abbrev pub request_in : Option Value → apdus.Rtse
request_in v = apdu.OpenRequest (small_or (pos 0) (part_in 0 v)) (small_or (pos 3) (part_in 1 v)) (number_or (pos 0) (part_in 2 v)) (data_in (part_in 3 v))

abbrev pub accept_in : Option Value → apdus.Rtse
accept_in v = apdu.OpenAccept (small_or (pos 0) (part_in 0 v)) (small_or (pos 3) (part_in 1 v)) (data_in (part_in 2 v))

-- the APDU of an alternative with its value
abbrev pub apdu_by : ℕ → Option Value → apdus.Rtse
apdu_by which v =
    if which == 0 then request_in v
    else (if which == 1 then accept_in v
    else (if which == 2 then apdu.OpenReject (reason_in v)
    else (if which == 3 then apdu.Abort (reason_in v)
    else (if which == 4 then apdu.TurnPlease (small_or (pos 0) v) else apdu.Transfer (octets_in v)))))

abbrev pub apdu_in : Value → apdus.Rtse
apdu_in v = apdu_by (alternative (Some v)) (inside (Some v))

-- ---- the value that says it: all fields stand, those with their defaults too

abbrev pub data_value : connections.ConnectionData → Value
data_value (connection.Open value) = chosen 0 (any value)
data_value (connection.Recover reference common) = chosen 1 (parts (present (octets reference) (present (octets common) no_parts)))

abbrev pub value_of : apdus.Rtse → Value
value_of (apdu.OpenRequest checkpoint window mode data_) =
    chosen 0 (parts (present (integer (pos checkpoint)) (present (integer (pos window)) (present (integer mode) (present (data_value data_) no_parts)))))
value_of (apdu.OpenAccept checkpoint window data_) = chosen 1 (parts (present (integer (pos checkpoint)) (present (integer (pos window)) (present (data_value data_) no_parts))))
value_of (apdu.OpenReject reason) = chosen 2 (reason_value reason)
value_of (apdu.Abort reason) = chosen 3 (reason_value reason)
value_of (apdu.TurnPlease priority) = chosen 4 (integer (pos priority))
value_of (apdu.Transfer os) = chosen 5 (octets os)
