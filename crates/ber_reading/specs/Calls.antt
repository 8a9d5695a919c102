-- What a call of the readers gives.
use Rattle.std.specs.Prelude.{◌≡◌, ℕ, Result, Ok, MatchResult}
use Rattle.asn1_types.specs.Value.{Value}
use Rattle.ber_spelling.specs.declared.fault.ReadFault.{ReadFault}
use Rattle.ber_spelling.specs.declared.fault.ReadFault.TheVariants.{NoMemory}
use Rattle.ber_spelling.specs.Reading.{Spot, Reading, ◌>>=◌, Gives}
use Rattle.ber_reading.specs.declared.whole_values.Read.{Read}

-- unless memory is refused, a call gave this value with this many octets
abbrev pub IsRead : Result Read ReadFault → Value → ℕ → Type 0
IsRead result v used = MatchResult result (λ r. (r.value ≡ v) × (r.used ≡ used)) (λ e. e ≡ NoMemory)

-- unless memory is refused, a call gave what reading gives, with the place where reading goes on
abbrev pub GivesRead : Result Read ReadFault → Reading (Value × Spot) → Type 0
GivesRead result read = Gives {Y = Value × ℕ} (λ r. (r.value, r.used)) result (read >>= λ x. Ok (x.0, x.1.place))
