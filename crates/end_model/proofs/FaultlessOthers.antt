-- A word without a fault may be taken: openings, data with an APDU, the answer to a release, and the words of a transfer.
use Rattle.std.proofs.Common.{◌≡◌, refl, true, false, ◌∙◌, sym, ap, subst, ℕ, suc, ◌≤◌, inl, inr, ◌⊎◌}
use Rattle.std.proofs.Common.{List}
use Rattle.std.specs.Prelude.{Bool, not, ◌&&◌, ◌||◌, Option, Some, None, Result, Ok, Err}
use Rattle.std.specs.Prelude.{if◌then◌else◌, nat_eq, nat_le}
use Rattle.osi_base.specs.declared.session_word.SessionConnect.{SessionConnect}
use Rattle.osi_base.specs.declared.presentation_word.PresentationConnect.{PresentationConnect}
use Rattle.osi_base.specs.declared.presentation_word.PresentationAccept.{PresentationAccept}
use Rattle.osi_base.specs.declared.presentation_word.PresentationReject.{PresentationReject}
use Rattle.dialogue.specs.declared.config.Mode.{Mode}
use Rattle.dialogue.specs.declared.config.Mode.TheVariants.{Direct, Reliable}
use Rattle.dialogue.specs.declared.config.Phase.{Phase}
use Rattle.dialogue.specs.declared.config.Phase.TheVariants as phases
use Rattle.end_rules.specs.Base.{Base, Item, Fault, Arrived}
use Rattle.end_rules.specs.State.{Body, Stage, Unused, Asked, Joined, Carrying, Awaited, NoAnswer, RestartOf, InterruptOf, DiscardOf, ReleaseOf}
use Rattle.end_rules.specs.State.{Transfer, Receiving, Progress, Running, Ending, Suspended, is_up, is_joined, is_carrying, highest}
use Rattle.end_rules.specs.State.{is_current, is_ending, pieces_of}
use Rattle.end_rules.specs.Sets.{fit_proposals}
use Rattle.end_rules.specs.Units.{has_activities, has_version_two, has_units, needed_units, selected_with}
use Rattle.end_rules.specs.Writing.{proposals}
use Rattle.end_rules.specs.Faults.{invalid_ppdu}
use Rattle.end_rules.specs.InPlace.{is_peers, is_opening, asked_to_open, awaits_interrupt, awaits_discard, awaits_release, may_resume_at}
use Rattle.end_rules.specs.Connecting.{set_accepted}
use Rattle.end_rules.specs.TakesActivities.{arrived_now, fault_in}
use Rattle.end_rules.specs.Reacting.{word_fault}
use Rattle.end_rules.specs.Messages.{DataValue, Accepting, OfAssociation, OfActivities, Connect, Accept, Refuse}
use Rattle.end_rules.specs.Messages.{Disconnect, Resume, End, EndAck, InterruptAck, DiscardAck}
use Rattle.agreement.specs.Sets.Role.{Initiator}
use Rattle.agreement.specs.State.Progress.{Ending as model_ending}
use Rattle.agreement.specs.State.Awaited.{InterruptOf as model_interrupt_of, DiscardOf as model_discard_of, ReleaseOf as model_release_of}
use Rattle.agreement.specs.Messages.Message.{Connect as model_connect, Recover as model_recover}
use Rattle.agreement.specs.Messages.Message.{Accept as model_accept, Refuse as model_refuse}
use Rattle.agreement.specs.Messages.Message.{Data as model_data, Resume as model_resume, End as model_end}
use Rattle.agreement.specs.Messages.Message.{EndAnswer as model_end_answer}
use Rattle.agreement.specs.Messages.Message.{InterruptAnswer as model_interrupt_answer}
use Rattle.agreement.specs.Messages.Message.{DiscardAnswer as model_discard_answer}
use Rattle.agreement.specs.Messages.Message.{ReleaseAnswer as model_release_answer}
use Rattle.agreement.specs.Takings.{MayTake, IsBack, IsUnjoined, IsEndOf, MayResumeAt, IsReadUnder}
use Rattle.end_model.specs.Seen.{Free, role_seen, set_seen, item_seen, awaited_seen, progress_seen, incoming_seen, transfer_seen, phase_seen, seen, setup_seen}
use Rattle.end_model.specs.Rows.{at}
use Rattle.end_model.specs.Words.{data_word}
use Rattle.end_model.specs.Faultless.{Faultless}
use Rattle.end_model.specs.FaultlessOthers.{FaultlessWhere, IsAsked, IsUp, IsReleasing, HasPair, BringsValue, OpeningsMayBeTaken, DataMayBeTaken, TransfersMayBeTaken}
use Rattle.end_model.proofs.Faultless.{both, is-false, is-true, equal, at-most, fine, no-fault_if, up-at, peers, responds, not-reliable}
use Rattle.end_model.proofs.Held.{found-pair}
use Rattle.end_model.proofs.Transfers.{highest-seen}
use Rattle.end_model.proofs.TransferRows.{joined-seen}
use Rattle.end_model.proofs.DirectOpening.{known-set, rising-set}

-- ---- openings

-- a responder whose CC went
unjoined : (stage : Stage) (phase : Phase) → is_joined stage ≡ true → ((phase ≡ phases.Opening) ⊎ (phase ≡ phases.Broken)) → IsUnjoined (phase_seen stage phase)
unjoined Unused phase h a = cc
unjoined Asked phase h a = cc
unjoined Joined phase h (inl e) = subst (λ (p : Phase). IsUnjoined (phase_seen Joined p)) (sym e) tt
unjoined Joined phase h (inr e) = subst (λ (p : Phase). IsUnjoined (phase_seen Joined p)) (sym e) tt
unjoined Carrying phase h a = cc

connect-taken : (mode : Mode) (session : SessionConnect) (presentation : PresentationConnect) (values : List DataValue) → FaultlessWhere IsAsked mode (OfAssociation (Connect session presentation values)) model_connect
connect-taken mode session presentation values free base body asked h =
    let f = fine (at mode base) body (OfAssociation (Connect session presentation values)) h in
    let a = both (not base.initiator) (is_joined body.link.stage) f.in_place in
    record { responds = responds base.initiator a.left; is_unjoined = unjoined body.link.stage body.link.phase a.right asked }

recover-taken : (mode : Mode) (session : SessionConnect) (presentation : PresentationConnect) (values : List DataValue) → FaultlessWhere IsAsked mode (OfAssociation (Connect session presentation values)) model_recover
recover-taken mode session presentation values free base body asked h =
    let f = fine (at mode base) body (OfAssociation (Connect session presentation values)) h in
    let a = both (not base.initiator) (is_joined body.link.stage) f.in_place in
    record { responds = responds base.initiator a.left; is_unjoined = unjoined body.link.stage body.link.phase a.right asked }

-- an initiator whose CN went
initiates : (initiator : Bool) → initiator ≡ true → role_seen initiator ≡ Initiator
initiates true h = refl
initiates false h = cc

back : (stage : Stage) (phase : Phase) → is_carrying stage ≡ true → is_opening phase ≡ true → IsBack (phase_seen stage phase)
back Unused phase h k = cc
back Asked phase h k = cc
back Joined phase h k = cc
back Carrying phases.Opening h k = tt
back Carrying phases.Recovering h k = tt
back Carrying phases.Idle h k = cc
back Carrying phases.Up h k = cc
back Carrying phases.Releasing h k = cc
back Carrying phases.Broken h k = cc
back Carrying phases.Over h k = cc
back Carrying phases.Dead h k = cc

record Asking (base : Base) (body : Body) : Type 0 where
  initiator : base.initiator ≡ true
  back_at : IsBack (phase_seen body.link.stage body.link.phase)

asking : (base : Base) (body : Body) → asked_to_open base body ≡ true → Asking base body
asking base body h =
    let a = both (base.initiator && is_carrying body.link.stage) (is_opening body.link.phase) h in
    let b = both base.initiator (is_carrying body.link.stage) a.left in
    record { initiator = b.left; back_at = back body.link.stage body.link.phase b.right a.right }

refuse-taken : (mode : Mode) (transport reason : Option ℕ) (presentation : Option PresentationReject) (values : List DataValue) → Faultless mode (OfAssociation (Refuse transport reason presentation values)) model_refuse
refuse-taken mode transport reason presentation values free base body h =
    let f = fine (at mode base) body (OfAssociation (Refuse transport reason presentation values)) h in
    let a = asking (at mode base) body f.in_place in
    record { initiates = initiates base.initiator a.initiator; asked = a.back_at }

accept-taken : (mode : Mode) (session : Accepting) (presentation : PresentationAccept) (values : List DataValue) (free : Free) (base : Base) (body : Body) → word_fault (at mode base) body (OfAssociation (Accept session presentation values)) ≡ None
    → MayTake (setup_seen free mode base) (role_seen base.initiator) (seen (at mode base) body) (model_accept (set_seen (set_accepted (at mode base) presentation)))
accept-taken mode session presentation values free base body h =
    let f = fine (at mode base) body (OfAssociation (Accept session presentation values)) h in
    let a = both (asked_to_open (at mode base) body && has_version_two session.version) (has_units (needed_units mode) (selected_with mode session.requirements)) f.in_place in
    let b = both (asked_to_open (at mode base) body) (has_version_two session.version) a.left in
    let c = asking (at mode base) body b.left in
    let d = no-fault_if (not (fit_proposals (proposals (at mode base)) presentation.results)) invalid_ppdu _ f.above in
    let fits : fit_proposals (proposals (at mode base)) presentation.results ≡ true = negated (fit_proposals (proposals (at mode base)) presentation.results) d.0 in
    record {
      initiates = initiates base.initiator c.initiator;
      asked = c.back_at;
      is_set = rising-set (proposals (at mode base)) presentation.results fits;
      is_known = known-set (set_accepted (at mode base) presentation);
    }
  where
    negated : (b : Bool) → not b ≡ false → b ≡ true
    negated b e = is-true b e

released : (awaited : Awaited) → awaits_release awaited ≡ true → awaited_seen awaited ≡ model_release_of
released NoAnswer h = cc
released (RestartOf number) h = cc
released InterruptOf h = cc
released DiscardOf h = cc
released ReleaseOf h = refl

disconnect-taken : (mode : Mode) (values : List DataValue) → FaultlessWhere IsReleasing mode (OfAssociation (Disconnect values)) model_release_answer
disconnect-taken mode values free base body releasing h =
    let f = fine (at mode base) body (OfAssociation (Disconnect values)) h in
    record { is_releasing = ap (phase_seen body.link.stage) releasing; asked = released body.link.awaits f.in_place }

pub openings-may_be_taken : OpeningsMayBeTaken
openings-may_be_taken = record { connect = connect-taken; recover = recover-taken; accept = accept-taken; refuse = refuse-taken; disconnect = disconnect-taken }

-- ---- data

data-taken : (item : Item) (free : Free) (base : Base) (body : Body) → HasPair item free base body → word_fault (at Direct base) body (data_word item) ≡ None
    → MayTake (setup_seen free Direct base) (role_seen base.initiator) (seen (at Direct base) body) (model_data (item_seen (at Direct base) item))
data-taken item free base body pair h =
    let f = fine (at Direct base) body (data_word item) h in
    let a = both (is_up body.link.phase) true f.in_place in
    record { at_once = λ e. not-reliable e; is_up = up-at (at Direct base) body a.left; is_read = found-pair body.sets.held item.id item.pair pair }

pub data-may_be_taken : DataMayBeTaken
data-may_be_taken = record { data_ = data-taken }

-- ---- transfers

resumes : (r : Receiving) (activity mark : ℕ) → may_resume_at r activity mark ≡ true → MayResumeAt (incoming_seen r) activity mark
resumes r activity mark h = by (nat_eq activity r.last && nat_le mark (highest r.pieces)) refl h
  where
    by : (b : Bool) → (nat_eq activity r.last && nat_le mark (highest r.pieces)) ≡ b → (b || (nat_eq activity (suc r.last) && nat_eq mark 0)) ≡ true → MayResumeAt (incoming_seen r) activity mark
    by true e h =
        let a = both (nat_eq activity r.last) (nat_le mark (highest r.pieces)) e in
        inl (equal activity r.last a.left, subst (λ n. mark ≤ n) (highest-seen r.pieces) (at-most mark (highest r.pieces) a.right))
    by false e h =
        let a = both (nat_eq activity (suc r.last)) (nat_eq mark 0) h in
        inr (equal activity (suc r.last) a.left, equal mark 0 a.right)

resume-taken : (activity mark : ℕ) → Faultless Reliable (OfActivities (Resume activity mark)) (model_resume activity mark)
resume-taken activity mark free base body h =
    let f = fine (at Reliable base) body (OfActivities (Resume activity mark)) h in
    let a = both (is_peers body && has_activities body.link.selected && not body.receiving.active) (may_resume_at body.receiving activity mark) f.in_place in
    let b = both (is_peers body && has_activities body.link.selected) (not body.receiving.active) a.left in
    let c = both (is_peers body) (has_activities body.link.selected) b.left in
    let p = peers body c.left in
    record { by_transfers = refl; is_up = up-at (at Reliable base) body p.up; lacks_turn = p.turn; rests = is-false body.receiving.active b.right; at_mark = resumes body.receiving activity mark a.right }

arrived-so : (base : Base) (body : Body) (x : Result Arrived Fault) → arrived_now base body ≡ x → fault_in x ≡ None → (arrived : Arrived) × (arrived_now base body ≡ Ok arrived)
arrived-so base body (Ok arrived) e h = (arrived, e)
arrived-so base body (Err fault) e h = cc

end-taken : (number : ℕ) → FaultlessWhere BringsValue Reliable (OfActivities (End number)) (model_end number)
end-taken number free base body brings h =
    let f = fine (at Reliable base) body (OfActivities (End number)) h in
    let a = both (is_up body.link.phase && body.receiving.active) (nat_eq number (suc (highest body.receiving.pieces))) f.in_place in
    let b = both (is_up body.link.phase) body.receiving.active a.left in
    record {
      by_transfers = refl;
      is_up = up-at (at Reliable base) body b.left;
      lacks_turn = brings.turn b.right;
      is_active = b.right;
      is_next = equal number (suc (highest body.receiving.pieces)) a.right ∙ ap suc (highest-seen body.receiving.pieces);
      is_read = λ fresh.
          let none : fault_in (arrived_now (at Reliable base) body) ≡ None = ap (λ (b : Bool). if b then None else fault_in (arrived_now (at Reliable base) body)) (sym fresh) ∙ f.above in
          let arrived = arrived-so (at Reliable base) body (arrived_now (at Reliable base) body) refl none in
          subst (λ (xs : List ℕ). IsReadUnder (set_seen body.sets.held) (free.codec.read (set_seen body.sets.held) xs)) (sym (joined-seen body.receiving.pieces)) (brings.reads arrived.0 arrived.1);
    }

ends : (base : Base) (t : Option Transfer) (number : ℕ) → is_current is_ending t ≡ true → nat_eq number (suc (highest (pieces_of t))) ≡ true → IsEndOf (transfer_seen base t) number
ends base None number h k = cc
ends base (Some t) number h k = record { ends = ending t.progress h; is_its = equal number (suc (highest t.pieces)) k ∙ ap suc (highest-seen t.pieces) }
  where
    ending : (p : Progress) → is_ending p ≡ true → progress_seen p ≡ model_ending
    ending Running h = cc
    ending Ending h = refl
    ending Suspended h = cc

end_ack-taken : (number : ℕ) → Faultless Reliable (OfActivities (EndAck number)) (model_end_answer number)
end_ack-taken number free base body h =
    let f = fine (at Reliable base) body (OfActivities (EndAck number)) h in
    let a = both (is_up body.link.phase && is_current is_ending body.sending.current) (nat_eq number (suc (highest (pieces_of body.sending.current)))) f.in_place in
    let b = both (is_up body.link.phase) (is_current is_ending body.sending.current) a.left in
    record { by_transfers = refl; is_up = up-at (at Reliable base) body b.left; is_its = ends (at Reliable base) body.sending.current number b.right a.right }

interrupted : (awaited : Awaited) → awaits_interrupt awaited ≡ true → awaited_seen awaited ≡ model_interrupt_of
interrupted NoAnswer h = cc
interrupted (RestartOf number) h = cc
interrupted InterruptOf h = refl
interrupted DiscardOf h = cc
interrupted ReleaseOf h = cc

interrupt_ack-taken : FaultlessWhere IsUp Reliable (OfActivities InterruptAck) model_interrupt_answer
interrupt_ack-taken free base body up h =
    let f = fine (at Reliable base) body (OfActivities InterruptAck) h in
    record { by_transfers = refl; is_up = ap (phase_seen body.link.stage) up; asked = interrupted body.link.awaits f.in_place }

discarded : (awaited : Awaited) → awaits_discard awaited ≡ true → awaited_seen awaited ≡ model_discard_of
discarded NoAnswer h = cc
discarded (RestartOf number) h = cc
discarded InterruptOf h = cc
discarded DiscardOf h = refl
discarded ReleaseOf h = cc

discard_ack-taken : FaultlessWhere IsUp Reliable (OfActivities DiscardAck) model_discard_answer
discard_ack-taken free base body up h =
    let f = fine (at Reliable base) body (OfActivities DiscardAck) h in
    record { by_transfers = refl; is_up = ap (phase_seen body.link.stage) up; asked = discarded body.link.awaits f.in_place }

pub transfers-may_be_taken : TransfersMayBeTaken
transfers-may_be_taken = record { resume = resume-taken; end = end-taken; end_ack = end_ack-taken; interrupt_ack = interrupt_ack-taken; discard_ack = discard_ack-taken }
