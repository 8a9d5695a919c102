-- What the scanner found, as what stands first.
use Rattle.std.proofs.Common.{◌≡◌, ℕ, zero, suc, ◌<◌, false, List, [], take, Result, Ok, Err, refl, sym, ap, subst, ◌∙◌, arith}
use Rattle.asn1_types.specs.Value.{Value}
use Rattle.ber_spelling.specs.declared.fault.ReadFault.{ReadFault}
use Rattle.ber_spelling.specs.declared.fault.ReadFault.TheVariants as faults
use Rattle.osi_base.specs.Octets.{AreOctets}
use Rattle.ber_spelling.specs.Rules.{read_at}
use Rattle.ber_spelling.specs.Spelling.{Ber}
use Rattle.ber_spelling.proofs.FirstFaults.{fault_is_first}
use Rattle.ber_spelling.proofs.Limits.{short_is_within}
use Rattle.ber_spelling.proofs.WholeValues.{read_is_spelled, spelled_is_read}
use Rattle.stub_tables.specs.AnyValue.{any_value_rows, any_value_row}
use Rattle.stub_tables.specs.Apdus.{IsShort}
use Rattle.stub_tables.proofs.Readings.{any_value_sound, nothing_short}
use Rattle.stream_front.specs.declared.first_value.FirstValue.{FirstValue}
use Rattle.stream_front.specs.Fronts.{front_at, front_of}
use Rattle.end_wire.specs.Bare.{beginning_of, first_at}
use Rattle.bare_end.specs.First.{IsFirst}

abbrev Read : Type 0
Read = Result (Value × ℕ) ReadFault

abbrev read_any : List ℕ → Read
read_any octets = read_at any_value_rows any_value_row false 262144 octets

abbrev done : Value × ℕ → Read
done x = Ok x

abbrev failed : ReadFault → Read
failed f = Err f

read_nothing : read_any [] ≡ failed faults.Short
unfolding IsShort
read_nothing = nothing_short

-- no value is spelled by no octets
nothing_spelled : (v : Value) → Ber any_value_rows any_value_row v [] → ⊥
nothing_spelled v p =
    let no : done (v, 0) ≡ failed faults.Short = sym (spelled_is_read any_value_rows any_value_row false 262144 v [] [] any_value_sound p) ∙ read_nothing in
    cc

some_used : (octets : List ℕ) (v : Value) (used : ℕ) → Ber any_value_rows any_value_row v (take used octets) → 0 < used
some_used octets v zero p = absurd (nothing_spelled v p)
some_used octets v (suc n) p = omega arith

module _ (octets : List ℕ) (are : AreOctets octets) where
  by_read : (r : Read) → read_any octets ≡ r → IsFirst octets (front_of r)
  unfolding first_at
  by_read (Ok x) e =
      let found = read_is_spelled any_value_rows any_value_row false 262144 octets x.0 x.1 are e in
      record { first = ap beginning_of e; some = some_used octets x.0 x.1 found.1; within = found.0 }
  by_read (Err faults.Short) e = record { first = ap beginning_of e; few = short_is_within any_value_rows any_value_row false 262144 octets e }
  by_read (Err (faults.NotSpelled place kind)) e = ap beginning_of e
  by_read (Err (faults.TooDeep place)) e = ap beginning_of e
  by_read (Err (faults.TooLong place)) e = ap beginning_of e
  by_read (Err faults.NoMemory) e = absurd (fault_is_first any_value_rows any_value_row false 262144 octets faults.NoMemory (λ q. cc) e).1

  -- what the scanner says of octets is what stands first in them
  pub first_found : (front : FirstValue) → front ≡ front_at false octets → IsFirst octets front
  unfolding front_at
  first_found front e = subst (IsFirst octets) (sym e) (by_read (read_any octets) refl)
