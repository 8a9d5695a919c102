-- Openings and recoveries, as they are taken.
use Rattle.std.proofs.Common.{◌≡◌, refl, true, false, ◌∙◌, sym, ap, List, [], ◌∷◌}
use Rattle.std.specs.Prelude.{ℕ, Bool, not, ◌||◌, is_some, if◌then◌else◌}
use Rattle.osi_base.specs.declared.layer_words.SetItem.{SetItem}
use Rattle.osi_base.specs.declared.layer_words.Proposal.{Proposal}
use Rattle.osi_base.specs.declared.session_word.SessionConnect.{SessionConnect}
use Rattle.osi_base.specs.declared.presentation_word.PresentationConnect.{PresentationConnect}
use Rattle.osi_base.specs.declared.presentation_word.PresentationAccept.{PresentationAccept}
use Rattle.dialogue.specs.declared.config.Mode.{Mode}
use Rattle.dialogue.specs.declared.config.Mode.TheVariants.{Bare, Direct, Reliable}
use Rattle.dialogue.specs.declared.config.Phase.{Phase}
use Rattle.dialogue.specs.declared.config.Phase.TheVariants as phases
use Rattle.end_rules.specs.Base.{Base}
use Rattle.end_rules.specs.State.{Body, Stage, Unused, Asked, Joined, Carrying, is_broken}
use Rattle.end_rules.specs.Connecting.{Agreed, agreed_for, set_for, set_accepted, results_for}
use Rattle.end_rules.specs.Connecting.{has_acse, is_refused, recovers_in, joined_with, begun_with}
use Rattle.end_rules.specs.Connecting.{refused_connect, refusal_message, context_named, the_one}
use Rattle.end_rules.specs.Connecting.{lacks_request, rejecting_information, transfer_rejection}
use Rattle.end_rules.specs.Writing.{provider_refusal, refuse_message}
use Rattle.end_rules.specs.Units.{selected_with, manages_with}
use Rattle.end_rules.specs.Messages.{Accepting, DataValue, OfAssociation, Connect, Accept}
use Rattle.agreement.specs.Sets.{ContextSet}
use Rattle.agreement.specs.Messages.Choice.{Nothing, Accepting as accepting, Refusing}
use Rattle.agreement.specs.Messages.Message.{Connect as model_connect, Recover as model_recover}
use Rattle.agreement.specs.Messages.Message.{Accept as model_accept, Refuse as model_refuse}
use Rattle.agreement.specs.State as states
use Rattle.agreement.specs.State.Phase.{Over as model_over}
use Rattle.agreement.specs.Takings.{refusing}
use Rattle.end_model.specs.Seen.{Free, mode_seen, role_seen, set_seen, phase_seen, seen, setup_seen}
use Rattle.end_model.specs.Rows.{at}
use Rattle.end_model.specs.Words.{AreMeant}
use Rattle.end_model.specs.Openings.{OpensAs, OpeningsTaken}
use Rattle.end_model.proofs.Restarts.{role-is}

-- ---- up with the accepted contexts

joined-seen : (mode : Mode) (base : Base) (accepted : List SetItem) (selected : ℕ) (manages : Bool) (agreed : Agreed) (body : Body) → seen (at mode base) (joined_with (at mode base) accepted selected manages agreed body) ≡ states.joined_with (mode_seen mode) (role_seen base.initiator) (set_seen accepted) (seen (at mode base) body)
joined-seen Bare base accepted selected manages agreed body =
    let put : Bool → states.State = λ turn. record (seen (at Bare base) (joined_with (at Bare base) accepted selected manages agreed body)) { turn = turn } in
    ap put (role-is base.initiator)
joined-seen Direct base accepted selected manages agreed body =
    let put : Bool → states.State = λ turn. record (seen (at Direct base) (joined_with (at Direct base) accepted selected manages agreed body)) { turn = turn } in
    ap put (role-is base.initiator)
joined-seen Reliable base accepted selected manages agreed body =
    let put : Bool → states.State = λ turn. record (seen (at Reliable base) (joined_with (at Reliable base) accepted selected manages agreed body)) { turn = turn } in
    ap put (role-is base.initiator)

-- an opening begins anew
pub begun-joined : (free : Free) (mode : Mode) (base : Base) (session : SessionConnect) (set : ContextSet) → states.joined_with (mode_seen mode) (role_seen base.initiator) set (seen (at mode base) (begun_with (at mode base) session)) ≡ states.joined_with (mode_seen mode) (role_seen base.initiator) set (states.new_end (setup_seen free mode base) (role_seen base.initiator))
begun-joined free Bare base session set = refl
begun-joined free Direct base session set = refl
begun-joined free Reliable base session set = refl

accept-taken : (mode : Mode) (session : Accepting) (presentation : PresentationAccept) (values : List DataValue) (free : Free) (base : Base) (proposed : List Proposal) (body : Body) → OpensAs free mode base proposed body (OfAssociation (Accept session presentation values)) (model_accept (set_seen (set_accepted (at mode base) presentation))) Nothing
accept-taken mode session presentation values free base proposed body =
    record { after = joined-seen mode base (set_accepted (at mode base) presentation) (selected_with mode session.requirements) (manages_with presentation.requirements (selected_with mode session.requirements)) (agreed_for (at mode base) values) body; means = tt }

opened-taken : (mode : Mode) (session : SessionConnect) (presentation : PresentationConnect) (values : List DataValue) (free : Free) (base : Base) (body : Body) → is_refused (at mode base) body session presentation values ≡ false → recovers_in (at mode base) values ≡ false → OpensAs free mode base presentation.definitions body (OfAssociation (Connect session presentation values)) model_connect (accepting (set_seen (set_for (at mode base) presentation)))
opened-taken mode session presentation values free base body kept anew =
    record {
      after = rw (kept, anew) (joined-seen mode base (set_for (at mode base) presentation) (selected_with mode session.requirements) (manages_with presentation.requirements (selected_with mode session.requirements)) (agreed_for (at mode base) values) (begun_with (at mode base) session) ∙ begun-joined free mode base session (set_seen (set_for (at mode base) presentation)));
      means = rw kept (refl, tt);
    }

recovered-taken : (mode : Mode) (session : SessionConnect) (presentation : PresentationConnect) (values : List DataValue) (free : Free) (base : Base) (body : Body) → is_refused (at mode base) body session presentation values ≡ false → recovers_in (at mode base) values ≡ true → OpensAs free mode base presentation.definitions body (OfAssociation (Connect session presentation values)) model_recover (accepting (set_seen (set_for (at mode base) presentation)))
recovered-taken mode session presentation values free base body kept back =
    record {
      after = rw (kept, back) (joined-seen mode base (set_for (at mode base) presentation) (selected_with mode session.requirements) (manages_with presentation.requirements (selected_with mode session.requirements)) (agreed_for (at mode base) values) body);
      means = rw kept (refl, tt);
    }

-- ---- refusals

refusal-meant : (proposed : List Proposal) (base : Base) (body : Body) (session : SessionConnect) (presentation : PresentationConnect) (values : List DataValue) → AreMeant proposed base (refusal_message base body session presentation values ∷ []) (model_refuse ∷ [])
refusal-meant proposed base body session presentation values =
    go (is_some presentation.default_context || not (has_acse (set_for base presentation)))
  where
    go : (b : Bool) → AreMeant proposed base ((if b then provider_refusal else refuse_message (set_for base presentation) (results_for base presentation) (context_named (the_one values)) (if lacks_request base (set_for base presentation) values then [] else rejecting_information base session (set_for base presentation) (transfer_rejection base body values))) ∷ []) (model_refuse ∷ [])
    go true = (refl, tt)
    go false = (refl, tt)

at-opening : (stage : Stage) → refusing (phase_seen stage phases.Opening) ≡ model_over
at-opening Unused = refl
at-opening Asked = refl
at-opening Joined = refl
at-opening Carrying = refl

refused-state : (mode : Mode) (base : Base) (body : Body) (phase : Phase) → body.link.phase ≡ phase → phase_seen Carrying (if is_broken phase then phases.Broken else phases.Over) ≡ refusing (phase_seen body.link.stage phase) → seen (at mode base) (refused_connect body) ≡ record (seen (at mode base) body) { phase = refusing (phase_seen body.link.stage body.link.phase) }
refused-state mode base body phase e h =
    let put : states.Phase → states.State = λ p. record (seen (at mode base) body) { phase = p } in
    ap (λ p. put (phase_seen Carrying (if is_broken p then phases.Broken else phases.Over))) e ∙ ap put h ∙ sym (ap (λ p. put (refusing (phase_seen body.link.stage p))) e)

refused-opening : (mode : Mode) (session : SessionConnect) (presentation : PresentationConnect) (values : List DataValue) (free : Free) (base : Base) (proposed : List Proposal) (body : Body) → is_refused (at mode base) body session presentation values ≡ true → body.link.phase ≡ phases.Opening → OpensAs free mode base proposed body (OfAssociation (Connect session presentation values)) model_connect Refusing
refused-opening mode session presentation values free base proposed body refused phase =
    record {
      after = rw refused (refused-state mode base body phases.Opening phase (sym (at-opening body.link.stage)));
      means = rw refused (refusal-meant proposed (at mode base) body session presentation values);
    }

refused-broken : (mode : Mode) (session : SessionConnect) (presentation : PresentationConnect) (values : List DataValue) (free : Free) (base : Base) (proposed : List Proposal) (body : Body) → is_refused (at mode base) body session presentation values ≡ true → body.link.phase ≡ phases.Broken → OpensAs free mode base proposed body (OfAssociation (Connect session presentation values)) model_connect Refusing
refused-broken mode session presentation values free base proposed body refused phase =
    record {
      after = rw refused (refused-state mode base body phases.Broken phase refl);
      means = rw refused (refusal-meant proposed (at mode base) body session presentation values);
    }

refused-recovery : (mode : Mode) (session : SessionConnect) (presentation : PresentationConnect) (values : List DataValue) (free : Free) (base : Base) (proposed : List Proposal) (body : Body) → is_refused (at mode base) body session presentation values ≡ true → body.link.phase ≡ phases.Broken → OpensAs free mode base proposed body (OfAssociation (Connect session presentation values)) model_recover Refusing
refused-recovery mode session presentation values free base proposed body refused phase =
    record {
      after = rw refused (refused-state mode base body phases.Broken phase refl);
      means = rw refused (refusal-meant proposed (at mode base) body session presentation values);
    }

pub openings-taken : OpeningsTaken
openings-taken =
    record {
      accept = accept-taken;
      opened = opened-taken;
      recovered = recovered-taken;
      refused_opening = refused-opening;
      refused_broken = refused-broken;
      refused_recovery = refused-recovery;
    }
