-- Values whose contexts and forms were looked at.
use Rattle.std.proofs.Common.{◌≡◌, ℕ, List, Bool, true, false, Option, Some, None, Result, Ok, Err, refl, sym, ap, subst, ◌∙◌}
use Rattle.std.specs.Prelude.{if◌then◌else◌}
use Rattle.osi_base.specs.declared.syntax.Pair.{Pair}
use Rattle.osi_base.specs.declared.syntax.Syntax.TheVariants.{Ber}
use Rattle.osi_base.specs.declared.presentation_word.Pdv.{Pdv}
use Rattle.osi_base.specs.declared.layer_words.Proposal.{Proposal}
use Rattle.osi_base.specs.declared.layer_words.SetItem.{SetItem}
use Rattle.stub_tables.specs.declared.tables.Tables.{Tables}
use Rattle.end_rules.specs.Base.{Base, Fault, Arrived}
use Rattle.osi_base.specs.SetPlaces.{pair_of}
use Rattle.osi_base.specs.Syntax.{acse_name}
use Rattle.end_rules.specs.Messages as meant
use Rattle.pdv_places.specs.declared.places.PdvField.{PdvField}
use Rattle.pdv_places.specs.Seen.{place_in}
use Rattle.association_intake.specs.association_reading.declared.layer_of_values.LayerOfValues.{LayerOfValues}
use Rattle.association_intake.specs.association_reading.Places.{PdvPlaces}
use Rattle.association_intake.specs.association_reading.Contexts.{name_carried, invalid_at, pdv_fault, form_fault, first_fault}
use Rattle.association_intake.specs.association_reading.Values.{unless_fault, all_values, value_in, values_under}
use Rattle.association_intake.specs.association_reading.Association.{is_left, fault_unless_left, value_or_left, left_values, unasked_value, unasked_values}
use Rattle.association_intake.specs.association_reading.Transfers.{unless_wrong, arrived_under}
use Rattle.association_meaning.specs.declared.contexts.Wrong.{Wrong}
use Rattle.association_meaning.specs.declared.basis.Halt.{Halt}
use Rattle.association_meaning.specs.Grounds.{FailsAs}
use Rattle.association_meaning.specs.Steps.{under_set, unless_left, pdv_wrong, first_wrong, told_wrong, checked, unasked, arrived_by}
use Rattle.association_meaning.proofs.Wrongs.{told, told_pdv, told_form, told_first}
use Rattle.association_meaning.proofs.Alls.{right_values, wrong_values}

module _ (places : List PdvPlaces) (wrong : Pdv → Option PdvField) (fault : PdvPlaces → Pdv → Option Fault)
    (same : (at : PdvPlaces) (pdv : Pdv) → told at (wrong pdv) ≡ fault at pdv) (pdvs : List Pdv) (v : Result (List meant.DataValue) Fault) (w : Option Wrong)
    (first : w ≡ first_wrong 0 wrong pdvs) where
  told_here : told_wrong places w ≡ first_fault fault places pdvs
  told_here = ap (told_wrong places) first ∙ told_first places wrong fault same pdvs

  pub judged_right : (u : Unit {0}) → checked (told_wrong places w) ≡ Ok u → v ≡ unless_fault (first_fault fault places pdvs) v
  judged_right u e = sym (right_values (first_fault fault places pdvs) v u (subst (λ (x : Option Fault). checked x ≡ Ok u) told_here e))

  pub judged_wrong : (e : Halt) → FailsAs e (checked (told_wrong places w)) → FailsAs e (unless_fault (first_fault fault places pdvs) v)
  judged_wrong e h = wrong_values e (first_fault fault places pdvs) v (subst (λ (x : Option Fault). FailsAs e (checked x)) told_here h)

-- ---- transfers

module _ (tables : Tables) (at : PdvPlaces) (pdv : Pdv) (pair : Option Pair) where
  pub wrong_arrives : (field : PdvField) → pdv_wrong tables.name_oid pdv pair ≡ Some field → (let r : Result Arrived Fault = Err (invalid_at (place_in field at)) in r) ≡ arrived_by tables at pdv pair
  wrong_arrives field e = ap (λ (f : Option Fault). unless_wrong f (arrived_under tables at pdv pair)) (ap (told at) (sym e) ∙ told_pdv tables.name_oid at pdv pair)

  pub right_arrives : pdv_wrong tables.name_oid pdv pair ≡ None → arrived_under tables at pdv pair ≡ arrived_by tables at pdv pair
  right_arrives e = ap (λ (f : Option Fault). unless_wrong f (arrived_under tables at pdv pair)) (ap (told at) (sym e) ∙ told_pdv tables.name_oid at pdv pair)

-- ---- values under a set

module _ (tables : Tables) (set : List SetItem) (carried : LayerOfValues) (places : List PdvPlaces) (pdvs : List Pdv) (w : Option Wrong) (first : w ≡ first_wrong 0 (under_set (name_carried tables carried) set) pdvs) where
  abbrev name : List ℕ
  name = name_carried tables carried

  pub under_right : checked (told_wrong places w) ≡ Ok tt → all_values (value_in tables carried set) pdvs ≡ values_under tables set carried places pdvs
  under_right e =
      judged_right places (under_set name set) (λ at pdv. pdv_fault name at pdv (pair_of set pdv.id)) (λ at pdv. told_pdv name at pdv (pair_of set pdv.id)) pdvs (all_values (value_in tables carried set) pdvs) w first tt e

  pub under_wrong : (e : Halt) → FailsAs e (checked (told_wrong places w)) → FailsAs e (values_under tables set carried places pdvs)
  under_wrong e h =
      judged_wrong places (under_set name set) (λ at pdv. pdv_fault name at pdv (pair_of set pdv.id)) (λ at pdv. told_pdv name at pdv (pair_of set pdv.id)) pdvs (all_values (value_in tables carried set) pdvs) w first e h

-- ---- values of which nothing is asked where they are of association control

told_unless : (at : PdvPlaces) (left : Bool) (w : Option PdvField) (f : Option Fault) → told at w ≡ f → told at (if left then None else w) ≡ (if left then None else f)
told_unless at true w f e = refl
told_unless at false w f e = e

told_left : (definitions : List Proposal) (set : List SetItem) (at : PdvPlaces) (pdv : Pdv) → told at (unless_left definitions (under_set acse_name set) pdv) ≡ fault_unless_left definitions set at pdv
told_left definitions set at pdv =
    told_unless at (is_left definitions pdv) (under_set acse_name set pdv) (pdv_fault acse_name at pdv (pair_of set pdv.id)) (told_pdv acse_name at pdv (pair_of set pdv.id))

module _ (base : Base) (definitions : List Proposal) (set : List SetItem) (places : List PdvPlaces) (pdvs : List Pdv) (w : Option Wrong) (first : w ≡ first_wrong 0 (unless_left definitions (under_set acse_name set)) pdvs) where
  pub left_right : checked (told_wrong places w) ≡ Ok tt → all_values (value_or_left base definitions set) pdvs ≡ left_values base definitions set places pdvs
  left_right e =
      judged_right places (unless_left definitions (under_set acse_name set)) (fault_unless_left definitions set) (told_left definitions set) pdvs (all_values (value_or_left base definitions set) pdvs) w first tt e

  pub left_wrong : (e : Halt) → FailsAs e (checked (told_wrong places w)) → FailsAs e (left_values base definitions set places pdvs)
  left_wrong e h =
      judged_wrong places (unless_left definitions (under_set acse_name set)) (fault_unless_left definitions set) (told_left definitions set) pdvs (all_values (value_or_left base definitions set) pdvs) w first e h

-- ---- values of which no contexts are asked

module _ (places : List PdvPlaces) (pdvs : List Pdv) (w : Option Wrong) (first : w ≡ first_wrong 0 unasked pdvs) where
  pub unasked_right : checked (told_wrong places w) ≡ Ok tt → all_values unasked_value pdvs ≡ unasked_values places pdvs
  unasked_right e =
      judged_right places unasked (λ at pdv. form_fault at Ber pdv.content) (λ at pdv. told_form at Ber pdv.content) pdvs (all_values unasked_value pdvs) w first tt e

  pub unasked_wrong : (e : Halt) → FailsAs e (checked (told_wrong places w)) → FailsAs e (unasked_values places pdvs)
  unasked_wrong e h =
      judged_wrong places unasked (λ at pdv. form_fault at Ber pdv.content) (λ at pdv. told_form at Ber pdv.content) pdvs (all_values unasked_value pdvs) w first e h
