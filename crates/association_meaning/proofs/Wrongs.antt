-- The first wrong value is that of the first fault, with its places.
use Rattle.std.proofs.Common.{◌≡◌, ℕ, zero, suc, ◌+◌, List, [], ◌∷◌, Bool, true, false, not, Option, Some, None, refl, ap, ◌∙◌, add-one}
use Rattle.osi_base.specs.declared.syntax.Pair.{Pair}
use Rattle.osi_base.specs.declared.syntax.Syntax.{Syntax}
use Rattle.osi_base.specs.declared.presentation_word.Pdv.{Pdv}
use Rattle.osi_base.specs.declared.presentation_word.PdvContent.{PdvContent}
use Rattle.end_rules.specs.Base.{Fault}
use Rattle.end_rules.specs.Faults.{fault_if, or_fault}
use Rattle.pdv_places.specs.declared.places.PdvField.{PdvField}
use Rattle.pdv_places.specs.declared.places.PdvField.TheVariants as fields
use Rattle.pdv_places.specs.Seen.{place_in, places_at}
use Rattle.association_intake.specs.association_reading.Places.{PdvPlaces}
use Rattle.association_intake.specs.association_reading.Contexts.{is_named, is_form, is_carried, invalid_at, pdv_fault, form_fault, first_place, other_places, first_fault}
use Rattle.association_meaning.specs.declared.contexts.Wrong.{Wrong}
use Rattle.association_meaning.specs.Steps.{wrong_if, or_wrong, form_wrong, pdv_wrong, wrong_at, first_wrong, told_wrong}

-- the fault of a wrong field
abbrev pub told : PdvPlaces → Option PdvField → Option Fault
told at None = None
told at (Some field) = Some (invalid_at (place_in field at))

told_if : (at : PdvPlaces) (b : Bool) (field : PdvField) → told at (wrong_if b field) ≡ fault_if b (invalid_at (place_in field at))
told_if at true field = refl
told_if at false field = refl

told_or : (at : PdvPlaces) (a b : Option PdvField) → told at (or_wrong a b) ≡ or_fault (told at a) (told at b)
told_or at None b = refl
told_or at (Some field) b = refl

pub told_form : (at : PdvPlaces) (syntax : Syntax) (content : PdvContent) → told at (form_wrong syntax content) ≡ form_fault at syntax content
told_form at syntax content = told_if at (not (is_form syntax content)) fields.Form

pub told_pdv : (carried : List ℕ) (at : PdvPlaces) (pdv : Pdv) (pair : Option Pair) → told at (pdv_wrong carried pdv pair) ≡ pdv_fault carried at pdv pair
told_pdv carried at pdv None = refl
told_pdv carried at pdv (Some pair) =
    let named : Option PdvField = wrong_if (not (is_named pair.transfer pdv.transfer)) fields.Name in
    let carries : Option PdvField = wrong_if (not (is_carried carried pair.abstract_name)) fields.Identifier in
    told_or at named (or_wrong carries (form_wrong pair.transfer pdv.content))
    ∙ ap (λ (f : Option Fault). or_fault f (told at (or_wrong carries (form_wrong pair.transfer pdv.content)))) (told_if at (not (is_named pair.transfer pdv.transfer)) fields.Name)
    ∙ ap (λ (f : Option Fault). or_fault (fault_if (not (is_named pair.transfer pdv.transfer)) (invalid_at at.name)) f)
    (told_or at carries (form_wrong pair.transfer pdv.content)
    ∙ ap (λ (f : Option Fault). or_fault f (told at (form_wrong pair.transfer pdv.content))) (told_if at (not (is_carried carried pair.abstract_name)) fields.Identifier)
    ∙ ap (λ (f : Option Fault). or_fault (fault_if (not (is_carried carried pair.abstract_name)) (invalid_at at.identifier)) f) (told_form at pair.transfer pdv.content))

-- ---- the first of them

-- so many places on
abbrev moved : ℕ → List PdvPlaces → List PdvPlaces
moved zero places = places
moved (suc n) places = moved n (other_places places)

places_moved : (n : ℕ) (places : List PdvPlaces) → places_at n places ≡ first_place (moved n places)
places_moved zero [] = refl
places_moved zero (at ∷ places) = refl
places_moved (suc n) [] = places_moved n []
places_moved (suc n) (at ∷ places) = places_moved n places

moved_other : (n : ℕ) (places : List PdvPlaces) → moved n (other_places places) ≡ other_places (moved n places)
moved_other zero places = refl
moved_other (suc n) places = moved_other n (other_places places)

module _ (places : List PdvPlaces) (wrong : Pdv → Option PdvField) (fault : PdvPlaces → Pdv → Option Fault)
    (same : (at : PdvPlaces) (pdv : Pdv) → told at (wrong pdv) ≡ fault at pdv) where
  one : (n : ℕ) (pdv : Pdv) (later : Option Wrong) (f : Option PdvField) → wrong pdv ≡ f → told_wrong places (wrong_at n f later) ≡ or_fault (told (first_place (moved n places)) f) (told_wrong places later)
  one n pdv later None e = refl
  one n pdv later (Some field) e = ap (λ (at : PdvPlaces). Some (invalid_at (place_in field at))) (places_moved n places)

  from : (n : ℕ) (pdvs : List Pdv) → told_wrong places (first_wrong n wrong pdvs) ≡ first_fault fault (moved n places) pdvs
  from n [] = refl
  from n (pdv ∷ pdvs) =
      let step : told_wrong places (first_wrong (n + 1) wrong pdvs) ≡ first_fault fault (other_places (moved n places)) pdvs
      = from (n + 1) pdvs ∙ ap (λ (ps : List PdvPlaces). first_fault fault ps pdvs) (moved_next n) in
      one n pdv (first_wrong (n + 1) wrong pdvs) (wrong pdv) refl
      ∙ ap (λ (f : Option Fault). or_fault f (told_wrong places (first_wrong (n + 1) wrong pdvs))) (same (first_place (moved n places)) pdv)
      ∙ ap (λ (f : Option Fault). or_fault (fault (first_place (moved n places)) pdv) f) step
    where
      moved_next : (n : ℕ) → moved (n + 1) places ≡ other_places (moved n places)
      moved_next n = rw add-one (moved_other n places)

  pub told_first : (pdvs : List Pdv) → told_wrong places (first_wrong 0 wrong pdvs) ≡ first_fault fault places pdvs
  told_first pdvs = from 0 pdvs
