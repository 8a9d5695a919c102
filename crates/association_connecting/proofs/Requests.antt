-- A CN in which nothing is faulty carries a request where association control is accepted.
use Rattle.std.proofs.Common.{◌≡◌, List, Bool, true, false, not, ◌&&◌, ◌||◌, Option, Some, None, refl, sym, ap, ◌∙◌}
use Rattle.osi_base.specs.declared.presentation_word.PresentationConnect.{PresentationConnect}
use Rattle.end_rules.specs.Base.{Base, Fault}
use Rattle.end_rules.specs.Messages.{DataValue}
use Rattle.osi_base.specs.declared.presentation_word.PresentationAccept.{PresentationAccept}
use Rattle.end_rules.specs.Sets.{fit_proposals}
use Rattle.end_rules.specs.Writing.{proposals}
use Rattle.end_rules.specs.Faults.{fault_if, or_fault, invalid_ppdu}
use Rattle.association_connecting.specs.Accepted.{accepted_fault}
use Rattle.osi_base.specs.declared.session_word.SessionConnect.{SessionConnect}
use Rattle.end_rules.specs.State.{Body}
use Rattle.end_rules.specs.Connecting.{connect_fault, set_for, has_acse, is_request, the_one, is_refused, session_refuses, presentation_refuses, set_accepted, accept_fault}

pub no_fault : (b : Bool) (f : Fault) → fault_if b f ≡ None → b ≡ false
no_fault true f h = cc
no_fault false f h = refl

pub no_first : (a b : Option Fault) → or_fault a b ≡ None → a ≡ None
no_first None b h = refl
no_first (Some f) b h = cc

pub no_later : (a b : Option Fault) → or_fault a b ≡ None → b ≡ None
no_later None b h = h
no_later (Some f) b h = cc

pub both : (a b : Bool) → (a && not b) ≡ false → a ≡ true → b ≡ true
both true true h e = refl
both true false h e = cc
both false b h e = cc

pub requested : (base : Base) (p : PresentationConnect) (values : List DataValue) → connect_fault base p values ≡ None → has_acse (set_for base p) ≡ true → is_request (the_one values) ≡ true
requested base p values free has =
    both (has_acse (set_for base p)) (is_request (the_one values)) (no_fault _ _ (no_first _ _ (no_later _ _ free))) has

left_false : (a b : Bool) → (a || b) ≡ false → a ≡ false
left_false true b h = h
left_false false b h = refl

right_false : (a b : Bool) → (a || b) ≡ false → b ≡ false
right_false true b h = cc
right_false false b h = h

not_false : (a : Bool) → not a ≡ false → a ≡ true
not_false true h = refl
not_false false h = cc

-- one that isn't refused gets association control
pub has_control : (base : Base) (body : Body) (session : SessionConnect) (p : PresentationConnect) (values : List DataValue) → is_refused base body session p values ≡ false → has_acse (set_for base p) ≡ true
has_control base body session p values h =
    not_false _ (right_false _ _ (left_false _ _ (right_false (session_refuses base session) (presentation_refuses base p values) (left_false _ _ h))))

-- what may not stand in an AC whose results fit
pub fits_then : (base : Base) (p : PresentationAccept) (values : List DataValue) (r : Option Fault) → fit_proposals (proposals base) p.results ≡ true → r ≡ accepted_fault base (set_accepted base p) values → r ≡ accept_fault base p values
fits_then base p values r fit e = e ∙ ap (λ (b : Bool). or_fault (fault_if (not b) invalid_ppdu) (accepted_fault base (set_accepted base p) values)) (sym fit)
