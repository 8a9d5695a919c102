-- What stands first in a text.
use Rattle.std.specs.Prelude.{ℕ, List, Option, option_map}
use Rattle.asn1_types.specs.Value.{Value}
use Rattle.value_reading.specs.declared.value_and_rest.ValueAndRest.{ValueAndRest}
use Rattle.value_reading.specs.declared.value_and_rest.Items.{Items}

-- a value, and what follows it
pub record Found : Type 0 where
  pub value : Value
  pub rest : List ℕ

abbrev pub Reader : Type 0
Reader = List ℕ → Option Found

-- before what follows
abbrev pub found_before : List ℕ → Option Value → Option Found
found_before rest v = option_map (λ value. record { value = value; rest = rest }) v

abbrev pub found : Option ValueAndRest → Option Found
found front = option_map (λ f. record { value = f.value; rest = f.rest.now }) front

-- the items of a list, and what follows it
pub record Listed : Type 0 where
  pub values : List Value
  pub rest : List ℕ

abbrev pub listed : Option Items → Option Listed
listed items = option_map (λ l. record { values = l.values.items; rest = l.rest.now }) items
