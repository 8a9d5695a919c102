-- The places of user data that are computed are those of the grammar.
use Rattle.std.proofs.Common.{◌≡◌, ℕ, ◌+◌, ◌-◌, ◌==◌, true, false, cond, List, [], ◌∷◌, ◌++◌, length, Option, Some, None, refl, sym, ap, subst, ◌∙◌, append_assoc, arith}
use Rattle.std.proofs.lemmas.List.{length-append}
use Rattle.osi_base.specs.declared.session_word.SessionWord.{SessionWord}
use Rattle.spdu_codec.specs.declared.kind.SpduKind.{SpduKind}
use Rattle.spdu_codec.specs.declared.parameters.Slot.{Slot}
use Rattle.spdu_codec.specs.declared.parameters.Parameters.{Parameters}
use Rattle.spdu_codec.specs.declared.places.UserPlaces.{UserPlaces}
use Rattle.spdu_codec.specs.Tables.{row_of, first_units, second_units, parameters_of}
use Rattle.spdu_codec.specs.Words.{has_information, leads}
use Rattle.spdu_codec.specs.Reading.{front, is_first}
use Rattle.spdu_codec.specs.Wire.{IsLength, AreParameters, IsUnit, IsLast, IsFront, AreUnits}
use Rattle.spdu_codec.specs.Places.{place, placed, user_among, UserAmong, UserIn, UserOfLast, ArePlaced, head, head_at, user_in, user_of_last, place_in_second, places, places_of, user_places}
use Rattle.spdu_codec.proofs.PlaceLoop.{among, goes_on}
use Rattle.spdu_codec.proofs.WireLaws.{value_again, not_first, last_some}

-- among parameters
pub among_found : (table : List (ℕ × Slot)) (ps : List (ℕ × List ℕ)) (here end : ℕ) (xs : List ℕ) (before : Option ℕ) → end ≡ here + length xs → AreParameters ps xs
    → UserAmong table ps here xs before (among table end before xs)
unfolding user_among
among_found table [] here end xs before e a = (a, ap (λ (l : List ℕ). among table end before l) (sym a))
among_found table (x ∷ ps) here end xs before e a =
    let len = a.2.0 in
    let rest = a.1 in
    let whole : xs ≡ x.0 ∷ (len ++ (x.1 ++ rest)) = a.4 ∙ ap (λ (l : List ℕ). l ++ rest) a.2.2 ∙ ap (λ (l : List ℕ). x.0 ∷ l) (append_assoc len x.1 rest) in
    let size = ap length whole in
    let start : end - length rest - length x.1 ≡ here + 1 + length len = omega (arith, size, e, length-append len (x.1 ++ rest), length-append x.1 rest) in
    let there : end ≡ here + 1 + length len + length x.1 + length rest = omega (arith, size, e, length-append len (x.1 ++ rest), length-append x.1 rest) in
    let next = placed (row_of x.0 table) x.1 (here + 1 + length len) before in
    let same : among table end before xs ≡ among table end next rest =
    ap (λ (l : List ℕ). among table end before l) whole ∙ goes_on table end before x.0 (len ++ (x.1 ++ rest)) (x.1, rest) (value_again end len x.1 rest a.2.1)
    ∙ ap (λ (s : ℕ). among table end (placed (row_of x.0 table) x.1 s before) rest) start in (
      len,
      rest,
      a.2.1,
      whole,
      subst (λ (o : Option ℕ). UserAmong table ps (here + 1 + length len + length x.1) rest next o) (sym same)
          (among_found table ps (here + 1 + length len + length x.1) end rest next there a.3),
    )

-- the head of a unit
pub head_found : (table : List (ℕ × SpduKind)) (end : ℕ) (kind : SpduKind) (code : ℕ) (len value behind : List ℕ) → row_of code table ≡ Some kind → IsLength (length value) len
    → head_at table end (code ∷ (len ++ value) ++ behind) ≡ Some (head kind value behind)
unfolding head_at
head_found table end kind code len value behind stands size =
    let e = append_assoc len value behind in
    ap (λ (l : List ℕ). head_at table end (code ∷ l)) e ∙ rw (stands, value_again end len value behind size) refl

-- a unit with the octets behind it, of which all end at this place
pub head_of_unit : (table : List (ℕ × SpduKind)) (end : ℕ) (kind : SpduKind) (here : ℕ) (unit behind : List ℕ) (at : Option ℕ)
    → (u : UserIn table kind here unit at) → head_at table end (unit ++ behind) ≡ Some (head kind u.value behind)
head_of_unit table end kind here unit behind at u =
    ap (λ (l : List ℕ). head_at table end (l ++ behind)) u.parts ∙ head_found table end kind u.code u.len u.value behind u.stands u.size

pub in_found : (table : List (ℕ × SpduKind)) (end : ℕ) (kind : SpduKind) (q : Parameters) (here : ℕ) (unit behind : List ℕ) → end ≡ here + length unit + length behind
    → (u : IsUnit table kind q unit) → UserIn table kind here unit (user_in end (head kind u.value behind))
in_found table end kind q here unit behind e u =
    let len = u.coded.0 in
    let size = ap length u.coded.2 in
    let there : end - length behind ≡ here + 1 + length len + length u.value = omega (arith, size, e, length-append len u.value) in
    record {
      code = u.code;
      value = u.value;
      len = len;
      parameters = u.parameters;
      stands = u.stands;
      size = u.coded.1;
      parts = u.coded.2;
      among = among_found (parameters_of kind) u.parameters (here + 1 + length len) (front end behind) u.value None there u.spelled;
    }

-- the place behind a unit
behind_place : (end here : ℕ) (unit behind : List ℕ) → end ≡ here + length unit + length behind → here + length unit ≡ front end behind
behind_place end here unit behind e = omega arith

same_place : (kind : SpduKind) (here there : ℕ) (inner : Option ℕ) → here ≡ there → cond (has_information kind) (place here) inner ≡ cond (has_information kind) (place there) inner
same_place kind here there inner e = ap (λ n. cond (has_information kind) (place n) inner) e

pub last_found : (table : List (ℕ × SpduKind)) (end here : ℕ) (word : SessionWord) (octets : List ℕ) → end ≡ here + length octets → (l : IsLast table word octets)
    → UserOfLast table here octets (user_of_last end (head l.kind l.is.value l.behind))
last_found table end here word octets e l =
    let size = ap length l.parts in
    let there : end ≡ here + length l.unit + length l.behind = omega (arith, size, e, length-append l.unit l.behind) in
    record {
      kind = l.kind;
      unit = l.unit;
      behind = l.behind;
      inner = user_in end (head l.kind l.is.value l.behind);
      is = in_found table end l.kind l.found here l.unit l.behind there l.is;
      parts = l.parts;
      information = same_place l.kind (here + length l.unit) (front end l.behind) _ (behind_place end here l.unit l.behind there);
    }

pub head_of_is : (table : List (ℕ × SpduKind)) (end : ℕ) (kind : SpduKind) (q : Parameters) (unit behind : List ℕ) → (u : IsUnit table kind q unit) → head_at table end (unit ++ behind) ≡ Some (head kind u.value behind)
head_of_is table end kind q unit behind u =
    ap (λ (l : List ℕ). head_at table end (l ++ behind)) u.coded.2 ∙ head_found table end kind u.code u.coded.0 u.value behind u.stands u.coded.1

head_of_last : (table : List (ℕ × SpduKind)) (end : ℕ) (word : SessionWord) (octets : List ℕ) → (l : IsLast table word octets) → head_at table end octets ≡ Some (head l.kind l.is.value l.behind)
head_of_last table end word octets l = ap (head_at table end) l.parts ∙ head_of_is table end l.kind l.found l.unit l.behind l.is

follows : (kind : SpduKind) (behind : List ℕ) → leads kind ≡ true → (length behind == 0) ≡ false → is_first kind behind ≡ true
follows kind behind l some = rw (l, some) refl

-- the places that are computed of one unit, and of two
pub places_of_one : (xs : List ℕ) (word : SessionWord) → (l : IsLast first_units word xs) → user_places xs ≡ places (user_of_last (length xs) (head l.kind l.is.value l.behind)) None
unfolding user_places
places_of_one xs word l =
    ap (places_of (length xs)) (head_of_last first_units (length xs) word xs l) ∙ rw (not_first l.kind l.behind l.information) refl

pub places_of_two : (xs front rest : List ℕ) (first second : SessionWord) → (f : IsFront first front) → (l : IsLast second_units second rest) → xs ≡ front ++ rest
    → user_places xs ≡ places (user_in (length xs) (head f.kind f.is.value rest)) (user_of_last (length xs) (head l.kind l.is.value l.behind))
unfolding user_places
places_of_two xs front rest first second f l e =
    let end = length xs in
    ap (places_of end) (ap (head_at first_units end) e ∙ head_of_is first_units end f.kind f.found front rest f.is)
    ∙ rw (follows f.kind rest f.leading (last_some second rest l)) (ap (λ h. places (user_in end (head f.kind f.is.value rest)) (place_in_second end h)) (head_of_last second_units end second rest l))

pub all_placed : (xs : List ℕ) (ws : List SessionWord) → AreUnits ws xs → ArePlaced ws xs (user_places xs)
all_placed xs [] a = absurd a
all_placed xs (w ∷ []) l =
    subst (λ (p : UserPlaces). ArePlaced (w ∷ []) xs p) (sym (places_of_one xs w l)) (last_found first_units (length xs) 0 w xs (omega arith) l, refl)
all_placed xs (w ∷ v ∷ []) a =
    let size : length xs ≡ length a.0 + length a.1 = ap length a.4 ∙ length-append a.0 a.1 in
    subst (λ (p : UserPlaces). ArePlaced (w ∷ v ∷ []) xs p) (sym (places_of_two xs a.0 a.1 w v a.2 a.3 a.4))
    (a.2.kind, a.0, a.1, in_found first_units (length xs) a.2.kind a.2.found 0 a.0 a.1 (omega arith) a.2.is, last_found second_units (length xs) (length a.0) v a.1 size a.3, a.4)
all_placed xs (w ∷ v ∷ u ∷ ws) a = absurd a
