-- Values of types, as trees (X.680 3.8.84). The value's type tells which case stands where.
use Rattle.std.specs.Prelude.{ℕ, ℤ, Bool, ◌+◌, max, List}

mutual
  pub data Value : Type 0 where
    boolean : Bool → Value
    integer : ℤ → Value
    null : Value
    octets : List ℕ → Value
    -- octets, and how many bits of the last are unused
    bits : List ℕ → ℕ → Value
    object_id : List ℕ → Value
    text : List ℕ → Value
    -- of a SEQUENCE or SET, in the order of the notation
    parts : MaybeValues → Value
    -- of a SEQUENCE OF
    list : Values → Value
    -- of a CHOICE: the alternative's place from 0, and its value
    chosen : ℕ → Value → Value
    -- one whole BER value, as octets
    any : List ℕ → Value

  pub data MaybeValues : Type 0 where
    no_parts : MaybeValues
    absent : MaybeValues → MaybeValues
    present : Value → MaybeValues → MaybeValues

  pub data Values : Type 0 where
    no_values : Values
    value : Value → Values → Values

-- how deep the tree is
abbrev mutual
  pub depth : Value → ℕ
  depth (boolean b) = 0
  depth (integer z) = 0
  depth null = 0
  depth (octets os) = 0
  depth (bits os unused) = 0
  depth (object_id arcs) = 0
  depth (text os) = 0
  depth (parts ps) = depth_of_parts ps
  depth (list vs) = depth_of_values vs
  depth (chosen which v) = depth v + 1
  depth (any os) = 0

  pub depth_of_parts : MaybeValues → ℕ
  depth_of_parts no_parts = 0
  depth_of_parts (absent ps) = depth_of_parts ps
  depth_of_parts (present v ps) = max (depth v + 1) (depth_of_parts ps)

  pub depth_of_values : Values → ℕ
  depth_of_values no_values = 0
  depth_of_values (value v vs) = max (depth v + 1) (depth_of_values vs)
