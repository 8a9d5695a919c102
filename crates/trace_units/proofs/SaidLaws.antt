-- What is said of what session units carry.
use Rattle.std.proofs.Common.{◌≡◌, ℕ, List, [], ◌∷◌, ◌++◌, Option, Some, None, Result, Ok, Err, refl, sym, ap, subst, ◌∙◌, append_assoc}
use Rattle.std.specs.Prelude.{codes}
use Rattle.std.proofs.lemmas.List.{append-nil}
use Rattle.osi_base.specs.declared.layer_words.Kind.{Kind}
use Rattle.osi_base.specs.declared.session_word.SessionWord.{SessionWord}
use Rattle.osi_base.specs.declared.presentation_word.PresentationWord as units
use Rattle.spdu_codec.specs.declared.places.UserPlaces.{UserPlaces}
use Rattle.spdu_codec.specs.Reading.{UnitFault, at, units_at}
use Rattle.spdu_codec.specs.Wire.{AreUnits}
use Rattle.spdu_codec.specs.Places.{user_of, user_places}
use Rattle.presentation_pdus.specs.declared.place.PpduPlace.{PpduPlace}
use Rattle.presentation_pdus.specs.declared.place.PpduFault as faults
use Rattle.presentation_pdus.specs.declared.place.PpduFault.TheVariants as fault
use Rattle.presentation_pdus.specs.Units.{ppdu_at}
use Rattle.stub_tables.specs.declared.tables.Tables.{Tables}
use Rattle.trace_values.specs.Values.{ArePdvsText, Puts}
use Rattle.trace_units.specs.declared.said_text.Said.{Said}
use Rattle.trace_units.specs.declared.said_text.Said.TheVariants as said
use Rattle.trace_units.specs.Names.{fault_text, spdu_name, ppdu_name}
use Rattle.trace_units.specs.Units.{carrier_of, values_of, IsUnitText, on, UnitSaid, place_in, CarriedSaid, WordSaid, ClosedSaid, OneSaid, two_names, TwoSaid, WordsSaid, ReadSaid, TsduSaid, WasPut, IsOneOrTwo}

pub unit_put : (tables : Tables) (word : units.PresentationWord) (before mid after : List ℕ) → mid ≡ before ++ ppdu_name word → Puts (ArePdvsText tables (values_of word)) mid after → Puts (IsUnitText tables word) before after
unit_put tables word before mid after e p =
    (ppdu_name word ++ p.0, (p.0, p.1, refl), p.2 ∙ ap (λ (l : List ℕ). l ++ p.0) e ∙ append_assoc before (ppdu_name word) p.0)

abbrev Read : Type 0
Read = Result units.PresentationWord faults.PpduFault

pub put_ok : (tables : Tables) (start : ℕ) (read : Read) (word : units.PresentationWord) (before after : List ℕ) → read ≡ Ok word → Puts (IsUnitText tables word) before after → WasPut (UnitSaid tables start read) before after None
put_ok tables start read word before after e p = subst (λ (r : Read). WasPut (UnitSaid tables start r) before after None) (sym e) p

pub put_err : (tables : Tables) (start : ℕ) (read : Read) (place : ℕ) (kind : Kind) (reason : ℕ) (before after text : List ℕ) → read ≡ Err (fault.At place kind reason)
    → text ≡ fault_text (codes "presentation") (on start place) kind → WasPut (UnitSaid tables start read) before after (Some text)
put_err tables start read place kind reason before after text e f = subst (λ (r : Read). UnitSaid tables start r (Err text)) (sym e) f

pub none_said : (tables : Tables) (word : SessionWord) (place : Option ℕ) (text : List ℕ) → user_of word ≡ None → WasPut (WordSaid tables word place) text text None
none_said tables word place text e =
    ([], subst (λ (u : Option (List ℕ)). CarriedSaid tables (carrier_of word) u place (Ok [])) (sym e) refl, sym (append-nil text))

pub some_said : (tables : Tables) (word : SessionWord) (place : Option ℕ) (carrier : PpduPlace) (octets before after : List ℕ) (result : Option (List ℕ)) → carrier_of word ≡ Some carrier → user_of word ≡ Some octets
    → WasPut (UnitSaid tables (place_in place) (ppdu_at carrier octets)) before after result → WasPut (WordSaid tables word place) before after result
some_said tables word place carrier octets before after result e f p =
    subst (λ (c : Option PpduPlace). WasPut (CarriedSaid tables c (user_of word) place) before after result) (sym e)
    (subst (λ (u : Option (List ℕ)). WasPut (CarriedSaid tables (Some carrier) u place) before after result) (sym f) (whole result p))
  where
    whole : (r : Option (List ℕ)) → WasPut (UnitSaid tables (place_in place) (ppdu_at carrier octets)) before after r → WasPut (CarriedSaid tables (Some carrier) (Some octets) place) before after r
    whole None q = q
    whole (Some text) q = q

-- ---- lines and faults

pub second_line : (tables : Tables) (names : List ℕ) (word : SessionWord) (place : Option ℕ) (after : List ℕ) → WasPut (WordSaid tables word place) names after None → ClosedSaid tables names word place (said.Line after)
second_line tables names word place after p = (Ok p.0, p.1, ap (λ (l : List ℕ). said.Line l) p.2)

pub second_fault : (tables : Tables) (names : List ℕ) (word : SessionWord) (place : Option ℕ) (after text : List ℕ) → WasPut (WordSaid tables word place) names after (Some text) → ClosedSaid tables names word place (said.Fault text)
second_fault tables names word place after text p = (Err text, p, refl)

pub one_line : (tables : Tables) (word : SessionWord) (place : Option ℕ) (names after : List ℕ) → names ≡ spdu_name word → WasPut (WordSaid tables word place) names after None → OneSaid tables word place (said.Line after)
one_line tables word place names after e p = subst (λ (n : List ℕ). ClosedSaid tables n word place (said.Line after)) e (second_line tables names word place after p)

pub one_fault : (tables : Tables) (word : SessionWord) (place : Option ℕ) (names after text : List ℕ) → names ≡ spdu_name word → WasPut (WordSaid tables word place) names after (Some text) → OneSaid tables word place (said.Fault text)
one_fault tables word place names after text e p = subst (λ (n : List ℕ). ClosedSaid tables n word place (said.Fault text)) e (second_fault tables names word place after text p)

pub two_behind : (tables : Tables) (first second : SessionWord) (places : UserPlaces) (names mid : List ℕ) (result : Said) → names ≡ two_names first second → WasPut (WordSaid tables first places.first) names mid None
    → ClosedSaid tables mid second places.second result → TwoSaid tables first second places result
two_behind tables first second places names mid result e p q =
    (Ok p.0, p.1, subst (λ (n : List ℕ). ClosedSaid tables n second places.second result) (p.2 ∙ ap (λ (l : List ℕ). l ++ p.0) e) q)

pub two_fault : (tables : Tables) (first second : SessionWord) (places : UserPlaces) (names mid text : List ℕ) → WasPut (WordSaid tables first places.first) names mid (Some text) → TwoSaid tables first second places (said.Fault text)
two_fault tables first second places names mid text p = (Err text, p, refl)

-- ---- words

pub one_or_two : (words : List SessionWord) (octets : List ℕ) → AreUnits words octets → IsOneOrTwo words
one_or_two [] octets a = a
one_or_two (w ∷ []) octets a = tt
one_or_two (w ∷ v ∷ []) octets a = tt
one_or_two (w ∷ v ∷ u ∷ more) octets a = a

pub none_there : (words : List SessionWord) → words ≡ [] → IsOneOrTwo words → ⊥
none_there words e h = subst IsOneOrTwo e h

pub one_there : (tables : Tables) (words rest : List SessionWord) (word : SessionWord) (places : UserPlaces) (result : Said) → words ≡ word ∷ rest → rest ≡ [] → OneSaid tables word places.first result → WordsSaid tables words places result
one_there tables words rest word places result e f h =
    subst (λ (l : List SessionWord). WordsSaid tables l places result) (sym (e ∙ ap (λ (l : List SessionWord). word ∷ l) f)) h

two_there_of : (tables : Tables) (more : List SessionWord) (first second : SessionWord) (places : UserPlaces) (result : Said) → IsOneOrTwo (first ∷ second ∷ more) → TwoSaid tables first second places result → WordsSaid tables (first ∷ second ∷ more) places result
two_there_of tables [] first second places result h t = t
two_there_of tables (third ∷ more) first second places result h t = absurd h

pub two_there : (tables : Tables) (words rest more : List SessionWord) (first second : SessionWord) (places : UserPlaces) (result : Said) → words ≡ first ∷ rest → rest ≡ second ∷ more → IsOneOrTwo words
    → TwoSaid tables first second places result → WordsSaid tables words places result
two_there tables words rest more first second places result e f h t =
    let all : words ≡ first ∷ second ∷ more = e ∙ ap (λ (l : List SessionWord). first ∷ l) f in
    subst (λ (l : List SessionWord). WordsSaid tables l places result) (sym all) (two_there_of tables more first second places result (subst IsOneOrTwo all h) t)

pub read_ok : (tables : Tables) (tsdu : List ℕ) (words : List SessionWord) (places : UserPlaces) (result : Said) → units_at tsdu ≡ Ok words → places ≡ user_places tsdu → WordsSaid tables words places result → TsduSaid tables tsdu result
read_ok tables tsdu words places result e f h =
    subst (λ (r : Result (List SessionWord) UnitFault). ReadSaid tables (user_places tsdu) r result) (sym e) (subst (λ (p : UserPlaces). WordsSaid tables words p result) f h)

pub read_err : (tables : Tables) (tsdu : List ℕ) (place : ℕ) (kind : Kind) (text : List ℕ) → units_at tsdu ≡ Err (at place kind) → text ≡ fault_text (codes "session") place kind → TsduSaid tables tsdu (said.Fault text)
read_err tables tsdu place kind text e f =
    subst (λ (r : Result (List SessionWord) UnitFault). ReadSaid tables (user_places tsdu) r (said.Fault text)) (sym e) (ap (λ (l : List ℕ). said.Fault l) f)
