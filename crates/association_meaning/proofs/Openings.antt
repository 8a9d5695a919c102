-- Values of openings that stand.
use Rattle.std.proofs.Common.{◌≡◌, List, [], Bool, true, false, Result, Ok, refl, sym, ap, ◌∙◌}
use Rattle.std.specs.Prelude.{if◌then◌else◌}
use Rattle.osi_base.specs.declared.layer_words.SetItem.{SetItem}
use Rattle.osi_base.specs.declared.presentation_word.PresentationConnect.{PresentationConnect}
use Rattle.osi_base.specs.declared.presentation_word.PresentationAccept.{PresentationAccept}
use Rattle.end_rules.specs.Base.{Base, Fault}
use Rattle.end_rules.specs.Messages.{DataValue}
use Rattle.end_rules.specs.Policy.{is_faulty_proposal}
use Rattle.end_rules.specs.Connecting.{set_for, set_accepted}
use Rattle.association_intake.specs.association_reading.Places.{PdvPlaces}
use Rattle.association_intake.specs.association_reading.Association.{stands, accept_values, connect_values}
use Rattle.association_meaning.specs.Steps.{values_for, accepted_values}

abbrev Values : Type 0
Values = Result (List DataValue) Fault

where_true : (b : Bool) (v w : Values) → b ≡ true → (if b then v else w) ≡ v
where_true true v w e = refl
where_true false v w e = absurd cc

where_false : (b : Bool) (v w : Values) → b ≡ false → (if b then v else w) ≡ w
where_false true v w e = absurd cc
where_false false v w e = refl

pub stands_so : (base : Base) (p : PresentationAccept) (places : List PdvPlaces) (set : List SetItem) → set ≡ set_accepted base p → stands base p ≡ true → accepted_values base p set places ≡ accept_values base p places
stands_so base p places set e s =
    ap (λ (x : List SetItem). accepted_values base p x places) e ∙ sym (where_true (stands base p) (accepted_values base p (set_accepted base p) places) (Ok []) s)

pub opens_so : (base : Base) (p : PresentationConnect) (places : List PdvPlaces) (set : List SetItem) → set ≡ set_for base p → is_faulty_proposal true [] p.definitions ≡ false → values_for base p set places ≡ connect_values base p places
opens_so base p places set e f =
    ap (λ (x : List SetItem). values_for base p x places) e ∙ sym (where_false (is_faulty_proposal true [] p.definitions) (Ok []) (values_for base p (set_for base p) places) f)
