-- Session units as octets (X.225 8.2, 8.3).
use Rattle.std.specs.Prelude.{◌≡◌, ℕ, ◌/◌, ◌%◌, ◌<◌, ◌⊎◌, true, false, List, [], ◌∷◌, ◌++◌, length, Option, Some, None}
use Rattle.osi_base.specs.declared.session_word.SessionWord.{SessionWord}
use Rattle.osi_base.specs.Limits.{past_two_octets}
use Rattle.spdu_codec.specs.declared.kind.SpduKind.{SpduKind}
use Rattle.spdu_codec.specs.declared.parameters.Slot.{Slot}
use Rattle.spdu_codec.specs.declared.parameters.Parameters.{Parameters}
use Rattle.spdu_codec.specs.Tables.{row_of, first_units, second_units, parameters_of, items_of}
use Rattle.spdu_codec.specs.Parameters.{none_yet, is_free, put}
use Rattle.spdu_codec.specs.Words.{word_of, has_information, leads}

-- a length: one octet up to 254, or FF and two octets, the higher first, for any (X.225 8.2.5)
abbrev pub IsLength : ℕ → List ℕ → Type 0
IsLength n octets = ((n < 255) × (octets ≡ n ∷ [])) ⊎ ((n < past_two_octets) × (octets ≡ 255 ∷ n / 256 ∷ n % 256 ∷ []))

-- a code, a length, and so many octets: a unit without user information, a group or a parameter (X.225 8.2.2 to 8.2.4)
abbrev pub IsCoded : ℕ → List ℕ → List ℕ → Type 0
IsCoded code value octets = (len : List ℕ) × IsLength (length value) len × (octets ≡ code ∷ len ++ value)

-- parameters by their codes and values, one after the other
abbrev pub AreParameters : List (ℕ × List ℕ) → List ℕ → Type 0
AreParameters [] octets = octets ≡ []
AreParameters (x ∷ xs) octets = (first rest : List ℕ) × IsCoded x.0 x.1 first × AreParameters xs rest × (octets ≡ first ++ rest)

-- A parameter stands once; one that isn't looked at may stand any number of times.
abbrev pub IsFree : Option Slot → Parameters → Type 0
IsFree None p = Unit {0}
IsFree (Some slot) p = is_free slot p ≡ true

-- From p, these parameters, of which those in the table are looked at, make q; One says what each makes.
abbrev pub AllPut : (Option Slot → List ℕ → Parameters → Parameters → Type 0) → List (ℕ × Slot) → List (ℕ × List ℕ) → Parameters → Parameters → Type 0
AllPut One table [] p q = p ≡ q
AllPut One table (x ∷ xs) p q = IsFree (row_of x.0 table) p × ((r : Parameters) × One (row_of x.0 table) x.1 p r × AllPut One table xs r q)

-- a parameter that is no group
abbrev pub ItemPut : Option Slot → List ℕ → Parameters → Parameters → Type 0
ItemPut None value p q = p ≡ q
ItemPut (Some slot) value p q = put slot value p ≡ Some q

-- what is inside a group
abbrev pub IsInside : Option (List (ℕ × Slot)) → List ℕ → Parameters → Parameters → Type 0
IsInside None value p q = p ≡ q
IsInside (Some table) value p q = (items : List (ℕ × List ℕ)) × AreParameters items value × AllPut ItemPut table items p q

abbrev pub GroupPut : Option Slot → List ℕ → Parameters → Parameters → Type 0
GroupPut None value p q = p ≡ q
GroupPut (Some slot) value p q = IsInside (items_of slot) value p q

-- a parameter of a unit, which may be a group
abbrev pub ParameterPut : Option Slot → List ℕ → Parameters → Parameters → Type 0
ParameterPut slot value p q = (r : Parameters) × ItemPut slot value p r × GroupPut slot value r q

-- a unit of the table, with its parameters, without what follows them
pub record IsUnit (table : List (ℕ × SpduKind)) (kind : SpduKind) (q : Parameters) (octets : List ℕ) : Type 0 where
  pub code : ℕ
  pub value : List ℕ
  pub parameters : List (ℕ × List ℕ)
  pub stands : row_of code table ≡ Some kind
  pub coded : IsCoded code value octets
  pub spelled : AreParameters parameters value
  pub puts : AllPut ParameterPut (parameters_of kind) parameters none_yet q

-- the word of the last unit, with its user information
pub record IsLast (table : List (ℕ × SpduKind)) (word : SessionWord) (octets : List ℕ) : Type 0 where
  pub kind : SpduKind
  pub found : Parameters
  pub unit : List ℕ
  pub behind : List ℕ
  pub is : IsUnit table kind found unit
  pub parts : octets ≡ unit ++ behind
  pub information : (has_information kind ≡ true) ⊎ (behind ≡ [])
  pub means : word_of kind true found behind ≡ Some word

-- the word of a unit in front of another
pub record IsFront (word : SessionWord) (octets : List ℕ) : Type 0 where
  pub kind : SpduKind
  pub found : Parameters
  pub is : IsUnit first_units kind found octets
  pub leading : leads kind ≡ true
  pub means : word_of kind false found [] ≡ Some word

-- The units of a TSDU: one alone, or GT or PT and one behind it.
abbrev pub AreUnits : List SessionWord → List ℕ → Type 0
AreUnits [] octets = ⊥
AreUnits (word ∷ []) octets = IsLast first_units word octets
AreUnits (first ∷ second ∷ []) octets = (front rest : List ℕ) × IsFront first front × IsLast second_units second rest × (octets ≡ front ++ rest)
AreUnits (first ∷ second ∷ third ∷ words) octets = ⊥
