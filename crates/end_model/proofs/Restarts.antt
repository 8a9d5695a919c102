-- What a restart brings back at one end is what it brings back in the model; the CN opens or recovers.
use Rattle.std.proofs.Common.{◌≡◌, ℕ, true, false, List, [], ◌∷◌, map, refl, ap, ◌∙◌}
use Rattle.std.specs.Prelude.{Bool, nat_lt, if◌then◌else◌}
use Rattle.dialogue.specs.declared.config.Mode.{Mode}
use Rattle.dialogue.specs.declared.config.Mode.TheVariants.{Direct}
use Rattle.dialogue.specs.declared.config.Phase.{Phase}
use Rattle.dialogue.specs.declared.config.Phase.TheVariants.{Opening, Recovering}
use Rattle.end_rules.specs.Base.{Base}
use Rattle.end_rules.specs.Sets.{Saved, below, newest}
use Rattle.end_rules.specs.State.{Body, Carrying, Queued}
use Rattle.end_rules.specs.TakesTransport.{at_stage}
use Rattle.end_rules.specs.TakesMarks.{restarted}
use Rattle.agreement.specs.Sets.{is_initiator, ContextSet, Saved as ModelSaved, below as model_below, newest as model_newest}
use Rattle.agreement.specs.State.{State, Outgoing}
use Rattle.agreement.specs.State.Phase.{Opening as model_opening, Recovering as model_recovering}
use Rattle.agreement.specs.State.Awaited.{NoAnswer as model_no_answer}
use Rattle.agreement.specs.Takings.{restored}
use Rattle.end_model.specs.Seen.{role_seen, set_seen, saved_seen, queued_seen, phase_seen, outgoing_seen, seen}
use Rattle.end_model.specs.Rows.{at}

pub if-map : {A B : Type 0} (f : A → B) (b : Bool) (x y : A) → f (if b then x else y) ≡ (if b then f x else f y)
if-map f true x y = refl
if-map f false x y = refl

pub below-seen : (n : ℕ) (saved : List Saved) → saved_seen (below n saved) ≡ model_below n (saved_seen saved)
below-seen n [] = refl
below-seen n (mark ∷ marks) =
    if-map saved_seen (nat_lt mark.number n) (mark ∷ marks) (below n marks) ∙
    ap (λ rest. if nat_lt mark.number n then saved_seen (mark ∷ marks) else rest) (below-seen n marks)

pub newest-seen : (saved : List Saved) → set_seen (newest saved) ≡ model_newest (saved_seen saved)
newest-seen [] = refl
newest-seen (mark ∷ marks) = refl

pub role-is : (initiator : Bool) → initiator ≡ is_initiator (role_seen initiator)
role-is true = refl
role-is false = refl

pub restarted-seen : (number : ℕ) (base : Base) (body : Body) → body.sending.queue ≡ [] → seen (at Direct base) (restarted (at Direct base) number body) ≡ restored (role_seen base.initiator) number (seen (at Direct base) body)
restarted-seen number base body h =
    let put : Bool → ContextSet → List ModelSaved → Outgoing → State = λ turn held marks o. record (seen (at Direct base) body) { turn = turn; awaits = model_no_answer; sets = record { held = held; inter = set_seen body.sets.inter; own = [] }; saved = marks; outgoing = o; calls = record { own_open = []; peer_open = []; made = body.calls.made } } in
    let queue : List Queued → Outgoing = λ q. record (outgoing_seen (at Direct base) body.sending) { queue = map (queued_seen (at Direct base)) q } in
    ap (λ held. put base.initiator held (saved_seen (below number body.saved)) (outgoing_seen (at Direct base) body.sending)) (newest-seen (below number body.saved)) ∙
    ap (λ marks. put base.initiator (model_newest marks) marks (outgoing_seen (at Direct base) body.sending)) (below-seen number body.saved) ∙
    ap (λ turn. put turn (model_newest (model_below number (saved_seen body.saved))) (model_below number (saved_seen body.saved)) (outgoing_seen (at Direct base) body.sending)) (role-is base.initiator) ∙
    ap (λ q. put (is_initiator (role_seen base.initiator)) (model_newest (model_below number (saved_seen body.saved))) (model_below number (saved_seen body.saved)) (queue q)) h

pub connects-seen : (mode : Mode) (base : Base) (body : Body) → body.link.phase ≡ Opening → seen (at mode base) (at_stage Carrying body.link.phase body) ≡ record (seen (at mode base) body) { phase = model_opening }
connects-seen mode base body h =
    let put : Phase → State = λ p. record (seen (at mode base) body) { phase = phase_seen Carrying p } in ap put h

pub recovers-seen : (mode : Mode) (base : Base) (body : Body) → body.link.phase ≡ Recovering → seen (at mode base) (at_stage Carrying body.link.phase body) ≡ record (seen (at mode base) body) { phase = model_recovering }
recovers-seen mode base body h =
    let put : Phase → State = λ p. record (seen (at mode base) body) { phase = phase_seen Carrying p } in ap put h
