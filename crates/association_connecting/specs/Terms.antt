-- The terms on which a CN is accepted.
use Rattle.std.specs.Prelude.{◌≡◌, List}
use Rattle.osi_base.specs.declared.session_word.SessionConnect.{SessionConnect}
use Rattle.osi_base.specs.declared.presentation_word.PresentationConnect.{PresentationConnect}
use Rattle.end_rules.specs.Base.{Base}
use Rattle.end_rules.specs.Messages.{DataValue}
use Rattle.end_rules.specs.Units.{selected_with, manages_with}
use Rattle.end_rules.specs.Connecting.{set_for, agreed_for}
use Rattle.association_connecting.specs.declared.joining.Terms as terms
use Rattle.association_connecting.specs.Agreed.{seen_agreed}

-- these are the terms of this CN
pub record TermsOf (base : Base) (session : SessionConnect) (presentation : PresentationConnect) (values : List DataValue) (t : terms.Terms) : Type 0 where
  pub accepted : t.accepted.now ≡ set_for base presentation
  pub selected : t.selected ≡ selected_with base.mode session.requirements
  pub manages : t.manages ≡ manages_with presentation.requirements (selected_with base.mode session.requirements)
  pub agreed : seen_agreed t.agreed ≡ agreed_for base values
