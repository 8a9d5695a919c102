-- What an end holds and answers once a CN is accepted on its terms.
use Rattle.std.proofs.Common.{◌≡◌, Bool, List, ◌∙◌, if◌then◌else◌}
use Rattle.osi_base.specs.declared.session_word.SessionConnect.{SessionConnect}
use Rattle.osi_base.specs.declared.presentation_word.PresentationConnect.{PresentationConnect}
use Rattle.end_rules.specs.Base.{Base}
use Rattle.osi_base.specs.declared.presentation_word.PresentationAccept.{PresentationAccept}
use Rattle.end_rules.specs.Messages.{DataValue, Accepting}
use Rattle.end_rules.specs.Units.{selected_with, manages_with}
use Rattle.end_rules.specs.State.{Body}
use Rattle.end_rules.specs.Connecting.{recovers_in, joined_with, begun_with, accepted_connect, set_accepted, agreed_for, after_accept}
use Rattle.association_connecting.specs.declared.joining.Terms as terms
use Rattle.association_connecting.specs.Agreed.{seen_agreed}
use Rattle.association_connecting.specs.Terms.{TermsOf}

pub accepted_on : (base : Base) (old new : Body) (session : SessionConnect) (p : PresentationConnect) (values : List DataValue) (t : terms.Terms) (recovers : Bool) → TermsOf base session p values t → recovers ≡ recovers_in base values
    → new ≡ joined_with base t.accepted.now t.selected t.manages (seen_agreed t.agreed) (if recovers then old else begun_with base session) → new ≡ accepted_connect base old session p values
accepted_on base old new session p values t recovers h r e =
    e ∙ (λ i. joined_with base (h.accepted i) (h.selected i) (h.manages i) (h.agreed i) (if r i then old else begun_with base session))

pub stands_on : (base : Base) (old new : Body) (session : Accepting) (p : PresentationAccept) (values : List DataValue) (t : terms.Terms)
    → t.accepted.now ≡ set_accepted base p → t.selected ≡ selected_with base.mode session.requirements
    → t.manages ≡ manages_with p.requirements (selected_with base.mode session.requirements) → seen_agreed t.agreed ≡ agreed_for base values
    → new ≡ joined_with base t.accepted.now t.selected t.manages (seen_agreed t.agreed) old → new ≡ after_accept base old session p values
stands_on base old new session p values t a s m g e = e ∙ (λ i. joined_with base (a i) (s i) (m i) (g i) old)
