-- The first field of a TSDU that breaks the grammar of session units: all before it is right (X.225 8.2, 8.3).
use Rattle.std.specs.Prelude.{◌≡◌, ℕ, ◌+◌, ◌<◌, ◌⊎◌, true, false, List, [], ◌∷◌, ◌++◌, length, Option, Some, None}
use Rattle.osi_base.specs.declared.layer_words.Kind.TheVariants as why
use Rattle.osi_base.specs.declared.session_word.SessionWord.{SessionWord}
use Rattle.spdu_codec.specs.declared.fault.SFault.{SFault}
use Rattle.spdu_codec.specs.declared.fault.SFault.TheVariants as faults
use Rattle.spdu_codec.specs.declared.kind.SpduKind.{SpduKind}
use Rattle.spdu_codec.specs.declared.parameters.Slot.{Slot}
use Rattle.spdu_codec.specs.declared.parameters.Parameters.{Parameters}
use Rattle.spdu_codec.specs.Tables.{row_of, first_units, second_units, parameters_of, items_of}
use Rattle.spdu_codec.specs.Parameters.{none_yet, is_free, put}
use Rattle.spdu_codec.specs.Words.{word_of, has_information, leads}
use Rattle.spdu_codec.specs.Reading.{UnitFault, at}
use Rattle.spdu_codec.specs.Wire.{IsLength, AreParameters, IsFree, AllPut, ItemPut, ParameterPut, IsUnit}

-- In each relation the octets stand at `place`, counted from the first octet of the TSDU.

-- no length stands in front that tells at most the octets behind it
abbrev pub LacksValue : List ℕ → Type 0
LacksValue octets = (n : ℕ) (len more : List ℕ) → IsLength n len → octets ≡ len ++ more → length more < n

-- Behind a code: a length with its value lacks, or stands and the value has the fault.
abbrev pub ValueFault : (ℕ → List ℕ → UnitFault → Type 0) → ℕ → List ℕ → UnitFault → Type 0
ValueFault Inside place octets f =
    (LacksValue octets × (f ≡ at place why.Length))
    ⊎ ((len value more : List ℕ) × IsLength (length value) len × (octets ≡ len ++ (value ++ more)) × Inside (place + length len) value f)

-- a parameter that is looked at stood before
abbrev pub IsRepeated : Option Slot → Parameters → Type 0
IsRepeated None p = ⊥
IsRepeated (Some slot) p = is_free slot p ≡ false

-- a parameter with what follows it, where those before it made p: it stands again, or its value has the fault
abbrev pub CodeFault : (Option Slot → Parameters → ℕ → List ℕ → UnitFault → Type 0) → List (ℕ × Slot) → Parameters → ℕ → ℕ → List ℕ → UnitFault → Type 0
CodeFault Inside table p place code rest f =
    (IsRepeated (row_of code table) p × (f ≡ at place why.Extra))
    ⊎ (IsFree (row_of code table) p × ValueFault (Inside (row_of code table) p) (place + 1) rest f)

-- parameters, of which those in the table are looked at, from p on: some are right, and the next has the fault
pub record ParametersFault
    (Inside : Option Slot → Parameters → ℕ → List ℕ → UnitFault → Type 0)
    (One : Option Slot → List ℕ → Parameters → Parameters → Type 0)
    (table : List (ℕ × Slot)) (p : Parameters) (place : ℕ) (octets : List ℕ) (f : UnitFault) : Type 0 where
  pub right : List (ℕ × List ℕ)
  pub before : List ℕ
  pub made : Parameters
  pub code : ℕ
  pub rest : List ℕ
  pub spelled : AreParameters right before
  pub puts : AllPut One table right p made
  pub parts : octets ≡ before ++ code ∷ rest
  pub wrong : CodeFault Inside table made (place + length before) code rest f

-- a value breaks the rule of its parameter
abbrev pub ItemFault : Option Slot → Parameters → ℕ → List ℕ → UnitFault → Type 0
ItemFault None p place value f = ⊥
ItemFault (Some slot) p place value f = (put slot value p ≡ None) × (f ≡ at place why.Content)

-- a parameter inside a group has the fault
abbrev pub InsideFault : Option (List (ℕ × Slot)) → Parameters → ℕ → List ℕ → UnitFault → Type 0
InsideFault None p place value f = ⊥
InsideFault (Some table) p place value f = ParametersFault ItemFault ItemPut table p place value f

abbrev pub GroupFault : Option Slot → Parameters → ℕ → List ℕ → UnitFault → Type 0
GroupFault None p place value f = ⊥
GroupFault (Some slot) p place value f = InsideFault (items_of slot) p place value f

-- the value of a parameter of a unit, which may be a group
abbrev pub ParameterFault : Option Slot → Parameters → ℕ → List ℕ → UnitFault → Type 0
ParameterFault slot p place value f = ItemFault slot p place value f ⊎ ((q : Parameters) × ItemPut slot value p q × GroupFault slot q place value f)

-- A unit of the table: there is none, none has its code, or its length or a parameter has the fault.
abbrev pub HasUnitFault : List (ℕ × SpduKind) → ℕ → List ℕ → UnitFault → Type 0
HasUnitFault table place [] f = f ≡ at place why.Missing
HasUnitFault table place (code ∷ rest) f =
    ((row_of code table ≡ None) × (f ≡ at place why.Tag))
    ⊎ ((kind : SpduKind) × (row_of code table ≡ Some kind) × ValueFault (ParametersFault ParameterFault ParameterPut (parameters_of kind) none_yet) (place + 1) rest f)

-- Behind a unit that stands last: a parameter that must stand in it lacks, or octets follow.
abbrev pub EndFault : SpduKind → Parameters → ℕ → List ℕ → UnitFault → Type 0
EndFault kind found place behind f =
    ((word_of kind true found behind ≡ None) × (f ≡ at place why.Missing))
    ⊎ ((word : SessionWord) × (word_of kind true found behind ≡ Some word) × (has_information kind ≡ false) × (0 < length behind) × (f ≡ at place why.Extra))

-- a unit with its parameters is right, and what stands behind it has the fault
pub record BehindFault (Behind : SpduKind → Parameters → ℕ → List ℕ → UnitFault → Type 0) (table : List (ℕ × SpduKind)) (place : ℕ) (octets : List ℕ) (f : UnitFault) : Type 0 where
  pub kind : SpduKind
  pub found : Parameters
  pub unit : List ℕ
  pub behind : List ℕ
  pub is : IsUnit table kind found unit
  pub parts : octets ≡ unit ++ behind
  pub wrong : Behind kind found (place + length unit) behind f

-- the unit that stands last
abbrev pub LastFault : List (ℕ × SpduKind) → ℕ → List ℕ → UnitFault → Type 0
LastFault table place octets f = HasUnitFault table place octets f ⊎ BehindFault EndFault table place octets f

-- Behind the first unit: the second one has the fault, where one follows GT or PT; else the first one stands last.
abbrev pub SecondFault : SpduKind → Parameters → ℕ → List ℕ → UnitFault → Type 0
SecondFault kind found place behind f =
    ((leads kind ≡ true) × (0 < length behind) × LastFault second_units place behind f)
    ⊎ (((leads kind ≡ false) ⊎ (behind ≡ [])) × EndFault kind found place behind f)

-- the first fault of a TSDU
abbrev pub FirstFault : List ℕ → UnitFault → Type 0
FirstFault octets f = HasUnitFault first_units 0 octets f ⊎ BehindFault SecondFault first_units 0 octets f

-- what a call answers is the first fault, unless memory ran out
abbrev pub IsFirstFault : List ℕ → SFault → Type 0
IsFirstFault octets faults.NoMemory = Unit {0}
IsFirstFault octets (faults.At place kind) = FirstFault octets (at place kind)
