-- What the rules of one end stand on: the module, the configuration, how values are spelled; the names
-- of this project's profile, and its limits.
use Rattle.std.specs.Prelude.{ℕ, ℤ, List, [], ◌∷◌, Bool, true, false, Option, Result}
use Rattle.osi_base.specs.declared.syntax.Pair.{Pair}
use Rattle.osi_base.specs.declared.syntax.Syntax.{Syntax}
use Rattle.osi_base.specs.declared.layer_words.SetItem.{SetItem}
use Rattle.osi_base.specs.declared.layer_words.Problem.{Problem}
use Rattle.osi_base.specs.declared.layer_words.Layer.{Layer}
use Rattle.asn1_types.specs.declared.value.Val.{Val}
use Rattle.stub_tables.specs.declared.tables.Tables.{Tables}
use Rattle.stub_tables.specs.declared.operation.Code.{Code}
use Rattle.stub_tables.specs.declared.apdu.Apdu.{Apdu}
use Rattle.dialogue.specs.declared.config.Config.{Config}
use Rattle.dialogue.specs.declared.config.Mode.{Mode}
use Rattle.dialogue.specs.declared.config.Mode.TheVariants.{Bare, Direct, Reliable}
use Rattle.dialogue.specs.declared.indication.Indication.{Indication}

-- a value where one may stand: none, one that its type spells, or octets that spell none
pub data Carried : Type 0 where
  Absent : Carried
  Spelled : Val → Carried
  Unspelled : Carried

-- what the octets of an APDU say down to its value (X.882 9); General: what no head is read from, with
-- the number of the general problem; BadReject: a reject that can't be read
pub data HeardHead : Type 0 where
  General : ℕ → HeardHead
  BadReject : HeardHead
  InvokeHead : (id : ℤ) → (linked : Option ℤ) → (code : Code) → (argument : Carried) → HeardHead
  ResultHead : (id : ℤ) → (code : Option Code) → (value : Carried) → HeardHead
  ErrorHead : (id : ℤ) → (code : Code) → (parameter : Carried) → HeardHead
  RejectHead : (id : Option ℤ) → (problem : Problem) → HeardHead

-- an APDU on a context, with the pair under which it is written or was read
pub record Item : Type 0 where
  pub id : ℕ
  pub pair : Pair
  pub apdu : Apdu

-- why what came ends the association: the layer that finds it, the place of the faulty field, the
-- reason, and what is shown before all else
pub record Fault : Type 0 where
  pub layer : Layer
  pub place : ℕ
  pub reason : ℕ
  pub shown_before : List Indication

-- what a transfer holds: an APDU, or octets on a context of the module that spell none
pub data Arrived : Type 0 where
  Whole : Item → Arrived
  Raw : (id : ℕ) → (pair : Pair) → (octets : List ℕ) → Arrived

-- how APDUs and transfers are spelled, over the module's tables
pub record Spellings : Type 0 where
  -- the one spelling of an APDU in a syntax
  pub apdu : Syntax → Apdu → List ℕ
  -- what octets say of an APDU in a syntax
  pub head : Syntax → List ℕ → HeardHead
  -- the octets of a transfer, one PDV-list
  pub transfer : Item → List ℕ
  -- what the octets of a transfer are under a set, or their fault
  pub arrived : List SetItem → List ℕ → Result Arrived Fault

pub record Base : Type 0 where
  pub tables : Tables
  pub config : Config
  pub initiator : Bool
  pub mode : Mode
  pub spellings : Spellings

-- the base of an end that is made with these tables and this configuration
abbrev pub base_of : Tables → Config → Spellings → Base
base_of tables config spellings =
    record { tables = tables; config = config; initiator = config.initiator; mode = config.mode; spellings = spellings }

abbrev pub is_bare : Mode → Bool
is_bare Bare = true
is_bare Direct = false
is_bare Reliable = false

abbrev pub is_direct : Mode → Bool
is_direct Bare = false
is_direct Direct = true
is_direct Reliable = false

abbrev pub is_reliable : Mode → Bool
is_reliable Bare = false
is_reliable Direct = false
is_reliable Reliable = true

-- ---- names

abbrev pub ber_name : List ℕ
ber_name = 2 ∷ 1 ∷ 1 ∷ []

-- the application contexts of direct and of reliable mode (this project's own)
abbrev pub application_context : Mode → List ℕ
application_context Reliable = 2 ∷ 999 ∷ 5 ∷ 4 ∷ []
application_context Direct = 2 ∷ 999 ∷ 5 ∷ 3 ∷ []
application_context Bare = 2 ∷ 999 ∷ 5 ∷ 3 ∷ []
