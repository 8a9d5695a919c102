-- Heads of APDUs of remote operations (X.880 9, X.882 9): all but the value that an operation or an error carries,
-- which stands in them as its octets.
use Rattle.std.specs.Prelude.{ℕ, ℤ, List, [], Option, Some, None}
use Rattle.osi_base.specs.declared.layer_words.Problem.{Problem}
use Rattle.osi_base.specs.Limits.{most_octets}
use Rattle.stub_tables.specs.declared.operation.Code.{Code}
use Rattle.apdu_spelling.specs.declared.head.ApduHead.{ApduHead}
use Rattle.apdu_spelling.specs.declared.head.ApduKind.TheVariants as kind

-- what a result returns: the operation's code, and the octets of the value
pub record ReturnedOctets : Type 0 where
  pub code : Code
  pub octets : List ℕ

pub data Head : Type 0 where
  -- identifier, the identifier it is linked to, code, octets of the argument
  invoke : ℤ → Option ℤ → Code → Option (List ℕ) → Head
  result : ℤ → Option ReturnedOctets → Head
  -- identifier, code, octets of the parameter
  error : ℤ → Code → Option (List ℕ) → Head
  -- a reject of what has no identifier that can be read names none
  reject : Option ℤ → Problem → Head

abbrev pub or_none : Option (List ℕ) → List ℕ
or_none None = []
or_none (Some octets) = octets

-- the octets of the value, none where there is none
abbrev pub carried : Head → List ℕ
carried (invoke id linked code argument) = or_none argument
carried (result id None) = []
carried (result id (Some outcome)) = outcome.octets
carried (error id code parameter) = or_none parameter
carried (reject id problem) = []

-- the fields of a head, as the program keeps them before it knows how many octets the head has
abbrev pub fields_of : Head → ApduHead
fields_of (invoke id linked code argument) = record { kind = kind.Invoke; id = Some id; linked = linked; code = Some code; problem = None; rest = argument; room = most_octets }
fields_of (result id None) = record { kind = kind.Result; id = Some id; linked = None; code = None; problem = None; rest = None; room = most_octets }
fields_of (result id (Some outcome)) = record { kind = kind.Result; id = Some id; linked = None; code = Some outcome.code; problem = None; rest = Some outcome.octets; room = most_octets }
fields_of (error id code parameter) = record { kind = kind.Error; id = Some id; linked = None; code = Some code; problem = None; rest = parameter; room = most_octets }
fields_of (reject id problem) = record { kind = kind.Reject; id = id; linked = None; code = None; problem = Some problem; rest = None; room = most_octets }
