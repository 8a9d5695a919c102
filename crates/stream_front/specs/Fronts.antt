-- What stands first in octets: one whole value of any type (X.690 8.1).
use Rattle.std.specs.Prelude.{ℕ, Bool, List, Result, Ok, Err}
use Rattle.osi_base.specs.Limits.{most_octets}
use Rattle.asn1_types.specs.Value.{Value}
use Rattle.ber_spelling.specs.declared.fault.ReadFault.{ReadFault}
use Rattle.ber_spelling.specs.declared.fault.ReadFault.TheVariants as faults
use Rattle.ber_spelling.specs.Rules.{read_at}
use Rattle.stub_tables.specs.AnyValue.{any_value_rows, any_value_row}
use Rattle.stream_front.specs.declared.first_value.FirstValue.{FirstValue}
use Rattle.stream_front.specs.declared.first_value.FirstValue.TheVariants.{Short, Whole, Faulty}

-- what a fault says of octets, however they go on
abbrev pub faulty : ReadFault → FirstValue
faulty (faults.NotSpelled place kind) = Faulty place
faulty (faults.TooDeep place) = Faulty place
faulty (faults.TooLong place) = Faulty place
faulty faults.Short = Short
faulty faults.NoMemory = Short

abbrev pub front_of : Result (Value × ℕ) ReadFault → FirstValue
front_of (Ok x) = Whole x.1
front_of (Err fault) = faulty fault

-- What octets begin with, in BER or in DER alone. A value has at most 262,144 octets.
unfoldable pub front_at : Bool → List ℕ → FirstValue
front_at strict octets = front_of (read_at any_value_rows any_value_row strict most_octets octets)
