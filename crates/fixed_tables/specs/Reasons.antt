-- A reason that stands alone in a SEQUENCE.
use Rattle.std.specs.Prelude.{ℤ, pos, Option}
use Rattle.asn1_types.specs.Value.{Value, integer, parts, no_parts, present}
use Rattle.fixed_tables.specs.Values.{part_in, number_or}

abbrev pub reason_in : Option Value → ℤ
reason_in v = number_or (pos 0) (part_in 0 v)

abbrev pub reason_value : ℤ → Value
reason_value reason = parts (present (integer reason) no_parts)
