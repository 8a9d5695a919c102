-- What a trace says of a TSDU: its session units, and the units of the presentation protocol with their values that these carry.
use Rattle.std.specs.Prelude.{◌≡◌, ℕ, ◌+◌, ◌-◌, ◌^◌, min, List, [], ◌∷◌, ◌++◌, Option, Some, None, Result, Ok, Err, codes}
use Rattle.osi_base.specs.declared.session_word.SessionWord.{SessionWord}
use Rattle.osi_base.specs.declared.session_word.SessionWord.TheVariants as words
use Rattle.osi_base.specs.declared.presentation_word.Pdv.{Pdv}
use Rattle.osi_base.specs.declared.presentation_word.PresentationWord as units
use Rattle.osi_base.specs.declared.presentation_word.PresentationWord.TheVariants as unit
use Rattle.spdu_codec.specs.declared.places.UserPlaces.{UserPlaces}
use Rattle.spdu_codec.specs.Reading.{UnitFault, units_at}
use Rattle.spdu_codec.specs.Places.{user_of, user_places}
use Rattle.presentation_pdus.specs.declared.place.PpduPlace.{PpduPlace}
use Rattle.presentation_pdus.specs.declared.place.PpduPlace.TheVariants as carriers
use Rattle.presentation_pdus.specs.declared.place.PpduFault as faults
use Rattle.presentation_pdus.specs.declared.place.PpduFault.TheVariants as fault
use Rattle.presentation_pdus.specs.Units.{ppdu_at}
use Rattle.stub_tables.specs.declared.tables.Tables.{Tables}
use Rattle.trace_values.specs.Values.{ArePdvsText}
use Rattle.trace_units.specs.declared.said_text.Said.{Said}
use Rattle.trace_units.specs.declared.said_text.Said.TheVariants as said
use Rattle.trace_units.specs.Names.{fault_text, spdu_name, ppdu_name}

-- the kind of a session unit that may carry a unit of the presentation protocol
abbrev pub carrier_of : SessionWord → Option PpduPlace
carrier_of (words.Connect c) = Some carriers.Cn
carrier_of (words.Accept options version initial requirements user) = Some carriers.Ac
carrier_of (words.Refuse transport reason user) = Some carriers.Rf
carrier_of (words.Finish transport user) = Some carriers.Fn
carrier_of (words.Disconnect user) = Some carriers.Dn
carrier_of (words.Abort transport user) = Some carriers.Ab
carrier_of (words.PleaseTokens tokens user) = Some carriers.Pt
carrier_of (words.TypedData user) = Some carriers.Td
carrier_of (words.Data user) = Some carriers.Dt
carrier_of (words.Resynchronize number user) = Some carriers.Rs
carrier_of (words.ResynchronizeAck number user) = Some carriers.Ra
carrier_of _ = None

-- the values that a unit of the presentation protocol carries
abbrev pub values_of : units.PresentationWord → List Pdv
values_of (unit.Connect c) = c.user
values_of (unit.Accept a) = a.user
values_of (unit.Reject r) = r.user
values_of (unit.UserAbort contexts user) = user
values_of (unit.Data user) = user
values_of _ = []

-- what is said of a unit of the presentation protocol: its name and its values
abbrev pub IsUnitText : Tables → units.PresentationWord → List ℕ → Type 0
IsUnitText tables word text = (values : List ℕ) × ArePdvsText tables (values_of word) values × (text ≡ ppdu_name word ++ values)

-- a place in user data that begin at another; it stands still at the end of its type
abbrev pub on : ℕ → ℕ → ℕ
on place at = min (place + at) (2 ^ 64 - 1)

-- What is said of user data that begin at this place of the TSDU: the unit (Ok), or the first fault, whose place
-- counts in the TSDU (Err).
abbrev pub UnitSaid : Tables → ℕ → Result units.PresentationWord faults.PpduFault → Result (List ℕ) (List ℕ) → Type 0
UnitSaid tables place (Ok word) (Ok text) = IsUnitText tables word text
UnitSaid tables place (Err (fault.At at kind reason)) (Err text) = text ≡ fault_text (codes "presentation") (on place at) kind
UnitSaid tables place (Ok word) (Err text) = ⊥
UnitSaid tables place (Err e) _ = ⊥

abbrev pub place_in : Option ℕ → ℕ
place_in None = 0
place_in (Some place) = place

-- what is said of what a session unit of this kind carries, which may be nothing
abbrev pub CarriedSaid : Tables → Option PpduPlace → Option (List ℕ) → Option ℕ → Result (List ℕ) (List ℕ) → Type 0
CarriedSaid tables carrier None place text = text ≡ Ok []
CarriedSaid tables None (Some octets) place text = text ≡ Ok []
CarriedSaid tables (Some carrier) (Some octets) place text = UnitSaid tables (place_in place) (ppdu_at carrier octets) text

abbrev pub WordSaid : Tables → SessionWord → Option ℕ → Result (List ℕ) (List ℕ) → Type 0
WordSaid tables word place text = CarriedSaid tables (carrier_of word) (user_of word) place text

-- a line with these names, or the fault that it came to
abbrev pub closed : List ℕ → Result (List ℕ) (List ℕ) → Said
closed before (Ok text) = said.Line (before ++ text)
closed before (Err text) = said.Fault text

-- what is said of a unit alone, behind these names
abbrev pub ClosedSaid : Tables → List ℕ → SessionWord → Option ℕ → Said → Type 0
ClosedSaid tables names word place result = (text : Result (List ℕ) (List ℕ)) × WordSaid tables word place text × (result ≡ closed names text)

abbrev pub OneSaid : Tables → SessionWord → Option ℕ → Said → Type 0
OneSaid tables word place result = ClosedSaid tables (spdu_name word) word place result

-- behind what is said of the first unit, what is said of the second
abbrev pub SecondSaid : Tables → List ℕ → SessionWord → Option ℕ → Result (List ℕ) (List ℕ) → Said → Type 0
SecondSaid tables names word place (Ok text) result = ClosedSaid tables (names ++ text) word place result
SecondSaid tables names word place (Err text) result = result ≡ said.Fault text

abbrev pub two_names : SessionWord → SessionWord → List ℕ
two_names first second = spdu_name first ++ codes "+" ++ spdu_name second

abbrev pub TwoSaid : Tables → SessionWord → SessionWord → UserPlaces → Said → Type 0
TwoSaid tables first second places result =
    (text : Result (List ℕ) (List ℕ)) × WordSaid tables first places.first text × SecondSaid tables (two_names first second) second places.second text result

-- one unit, or two whose names are joined
abbrev pub WordsSaid : Tables → List SessionWord → UserPlaces → Said → Type 0
WordsSaid tables [] places result = ⊥
WordsSaid tables (word ∷ []) places result = OneSaid tables word places.first result
WordsSaid tables (first ∷ second ∷ []) places result = TwoSaid tables first second places result
WordsSaid tables (first ∷ second ∷ third ∷ more) places result = ⊥

abbrev pub ReadSaid : Tables → UserPlaces → Result (List SessionWord) UnitFault → Said → Type 0
ReadSaid tables places (Ok words) result = WordsSaid tables words places result
ReadSaid tables places (Err fault) result = result ≡ said.Fault (fault_text (codes "session") fault.place fault.kind)

-- what is said of a TSDU: its units in their order, or the first fault
abbrev pub TsduSaid : Tables → List ℕ → Said → Type 0
TsduSaid tables tsdu result = ReadSaid tables (user_places tsdu) (units_at tsdu) result

-- what was put behind a text: all that is said, or something before its fault was found
abbrev pub WasPut : (Result (List ℕ) (List ℕ) → Type 0) → List ℕ → List ℕ → Option (List ℕ) → Type 0
WasPut IsSaid before after None = (text : List ℕ) × IsSaid (Ok text) × (after ≡ before ++ text)
WasPut IsSaid before after (Some fault) = IsSaid (Err fault)

-- one word, or two
abbrev pub IsOneOrTwo : List SessionWord → Type 0
IsOneOrTwo [] = ⊥
IsOneOrTwo (word ∷ []) = Unit {0}
IsOneOrTwo (first ∷ second ∷ []) = Unit {0}
IsOneOrTwo (first ∷ second ∷ third ∷ more) = ⊥
