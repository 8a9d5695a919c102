-- Where the user data of each unit begin in a TSDU (X.225 8.3): parameters that are passed over and lengths in the long form move them.
use Rattle.std.specs.Prelude.{◌≡◌, ℕ, zero, suc, ◌+◌, ◌-◌, ◌<◌, List, [], ◌∷◌, ◌++◌, length, take, drop, Option, Some, None, Result, Ok, Err, if◌then◌else◌}
use Rattle.osi_base.specs.declared.session_word.SessionWord.{SessionWord}
use Rattle.osi_base.specs.declared.session_word.SessionWord.TheVariants as words
use Rattle.spdu_codec.specs.declared.kind.SpduKind.{SpduKind}
use Rattle.spdu_codec.specs.declared.parameters.Slot.{Slot}
use Rattle.spdu_codec.specs.declared.parameters.Slot.TheVariants.{ConnectData, ExtendedData, UserData, RefuseReason}
use Rattle.spdu_codec.specs.declared.places.UserPlaces.{UserPlaces}
use Rattle.spdu_codec.specs.Tables.{row_of, first_units, second_units, parameters_of}
use Rattle.spdu_codec.specs.Parameters.{refusal}
use Rattle.spdu_codec.specs.Words.{has_information}
use Rattle.spdu_codec.specs.Reading.{UnitFault, front, value_at, is_first}
use Rattle.spdu_codec.specs.Wire.{IsLength}

abbrev pub place : ℕ → Option ℕ
place n = Some n

-- behind the code of a reason for refusing, where user data are there
abbrev pub behind_code : List ℕ → ℕ → Option ℕ
behind_code [] start = None
behind_code (code ∷ rest) start = elim (refusal code rest) [ None ↦ None | Some user ↦ place (start + 1) ]

-- where user data begin, once a parameter was looked at whose value begins at start, and where they began before
abbrev pub placed : Option Slot → List ℕ → ℕ → Option ℕ → Option ℕ
placed (Some ConnectData) value start before = place start
placed (Some ExtendedData) value start before = place start
placed (Some UserData) value start before = place start
placed (Some RefuseReason) value start before = behind_code value start
placed _ value start before = before

-- ---- by the grammar

-- From the first octet of these parameters on, which has this place: where user data begin, and where they began before.
abbrev pub UserAmong : List (ℕ × Slot) → List (ℕ × List ℕ) → ℕ → List ℕ → Option ℕ → Option ℕ → Type 0
UserAmong table [] here octets before at = (octets ≡ []) × (before ≡ at)
UserAmong table (x ∷ xs) here octets before at =
    (len rest : List ℕ) × IsLength (length x.1) len × (octets ≡ x.0 ∷ (len ++ (x.1 ++ rest)))
    × UserAmong table xs (here + 1 + length len + length x.1) rest (placed (row_of x.0 table) x.1 (here + 1 + length len) before) at

-- a unit without what stands behind it: where user data begin among its parameters
pub record UserIn (table : List (ℕ × SpduKind)) (kind : SpduKind) (here : ℕ) (octets : List ℕ) (at : Option ℕ) : Type 0 where
  pub code : ℕ
  pub value : List ℕ
  pub len : List ℕ
  pub parameters : List (ℕ × List ℕ)
  pub stands : row_of code table ≡ Some kind
  pub size : IsLength (length value) len
  pub parts : octets ≡ code ∷ (len ++ value)
  pub among : UserAmong (parameters_of kind) parameters (here + 1 + length len) value None at

-- the unit that stands last: octets behind DT and TD are their user data
pub record UserOfLast (table : List (ℕ × SpduKind)) (here : ℕ) (octets : List ℕ) (at : Option ℕ) : Type 0 where
  pub kind : SpduKind
  pub unit : List ℕ
  pub behind : List ℕ
  pub inner : Option ℕ
  pub is : UserIn table kind here unit inner
  pub parts : octets ≡ unit ++ behind
  pub information : (if has_information kind then place (here + length unit) else inner) ≡ at

-- the units of a TSDU, one alone or two, with the places of their user data
abbrev pub ArePlaced : List SessionWord → List ℕ → UserPlaces → Type 0
ArePlaced [] octets at = ⊥
ArePlaced (word ∷ []) octets at = UserOfLast first_units 0 octets at.first × (at.second ≡ None)
ArePlaced (first ∷ second ∷ []) octets at =
    (kind : SpduKind) × (front rest : List ℕ) × UserIn first_units kind 0 front at.first × UserOfLast second_units (length front) rest at.second × (octets ≡ front ++ rest)
ArePlaced (first ∷ second ∷ third ∷ words) octets at = ⊥

-- ---- what stands there

abbrev pub user_of : SessionWord → Option (List ℕ)
user_of (words.Connect c) = Some c.user
user_of (words.Accept options version initial requirements user) = Some user
user_of (words.Refuse transport reason user) = user
user_of (words.Finish transport user) = Some user
user_of (words.Disconnect user) = Some user
user_of (words.Abort transport user) = user
user_of (words.PleaseTokens tokens user) = user
user_of (words.TypedData user) = Some user
user_of (words.Data user) = Some user
user_of (words.Resynchronize number user) = user
user_of (words.ResynchronizeAck number user) = user
user_of _ = None

-- user data stand there, or there are none
abbrev pub StandsAt : Option (List ℕ) → List ℕ → Option ℕ → Type 0
StandsAt None octets None = Unit {0}
StandsAt (Some user) octets (Some at) = (at + length user < length octets + 1) × (take (length user) (drop at octets) ≡ user)
StandsAt None octets (Some at) = ⊥
StandsAt (Some user) octets None = ⊥

abbrev pub HoldUser : List SessionWord → List ℕ → UserPlaces → Type 0
HoldUser [] octets at = ⊥
HoldUser (word ∷ []) octets at = StandsAt (user_of word) octets at.first × (at.second ≡ None)
HoldUser (first ∷ second ∷ []) octets at = StandsAt (user_of first) octets at.first × StandsAt (user_of second) octets at.second
HoldUser (first ∷ second ∷ third ∷ words) octets at = ⊥

-- ---- from the left, as it is computed

abbrev pub on_value : Option ℕ → Result (List ℕ × List ℕ) UnitFault → (List ℕ × List ℕ → Option ℕ) → Option ℕ
on_value at (Err f) next = at
on_value at (Ok v) next = next v

-- the octets end at the place `end`; the fuel is at least their number
unfoldable pub user_among : List (ℕ × Slot) → ℕ → ℕ → Option ℕ → List ℕ → Option ℕ
user_among table fuel end at [] = at
user_among table zero end at (code ∷ rest) = at
user_among table (suc fuel) end at (code ∷ rest) =
    on_value at (value_at end rest) (λ v. user_among table fuel end (placed (row_of code table) v.0 (front end v.1 - length v.0) at) v.1)

-- a unit of the table, the octets of its parameters, and those behind it
pub record UnitHead : Type 0 where
  pub kind : SpduKind
  pub value : List ℕ
  pub behind : List ℕ

abbrev pub head : SpduKind → List ℕ → List ℕ → UnitHead
head kind value behind = record { kind = kind; value = value; behind = behind }

abbrev pub head_of : SpduKind → Result (List ℕ × List ℕ) UnitFault → Option UnitHead
head_of kind (Err f) = None
head_of kind (Ok v) = Some (head kind v.0 v.1)

abbrev pub known_head : Option SpduKind → Result (List ℕ × List ℕ) UnitFault → Option UnitHead
known_head None v = None
known_head (Some kind) v = head_of kind v

unfoldable pub head_at : List (ℕ × SpduKind) → ℕ → List ℕ → Option UnitHead
head_at table end [] = None
head_at table end (code ∷ rest) = known_head (row_of code table) (value_at end rest)

abbrev pub user_in : ℕ → UnitHead → Option ℕ
user_in end u = user_among (parameters_of u.kind) (length u.value) (front end u.behind) None u.value

abbrev pub user_of_last : ℕ → UnitHead → Option ℕ
user_of_last end u = if has_information u.kind then place (front end u.behind) else user_in end u

abbrev pub place_in_second : ℕ → Option UnitHead → Option ℕ
place_in_second end None = None
place_in_second end (Some u) = user_of_last end u

abbrev pub places : Option ℕ → Option ℕ → UserPlaces
places first second = record { first = first; second = second }

abbrev pub places_of : ℕ → Option UnitHead → UserPlaces
places_of end None = places None None
places_of end (Some u) =
    if is_first u.kind u.behind then places (user_in end u) (place_in_second end (head_at second_units end u.behind)) else places (user_of_last end u) None

unfoldable pub user_places : List ℕ → UserPlaces
user_places octets = places_of (length octets) (head_at first_units (length octets) octets)
