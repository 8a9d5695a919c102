-- The takings of each kind of word, in direct and in reliable mode.
use Rattle.std.proofs.Common.{◌≡◌, refl, true, ◌∙◌, sym, ap, subst, ℕ, suc, List, [], ◌∷◌, ◌≤◌, map}
use Rattle.std.proofs.Common.{length}
use Rattle.std.specs.Prelude.{Option, Some, nat_eq, nat_le, false, ◌||◌}
use Rattle.std.specs.List.{list_any}
use Rattle.osi_base.specs.declared.layer_words.Proposal.{Proposal}
use Rattle.osi_base.specs.declared.layer_words.Answers.{Answers}
use Rattle.osi_base.specs.declared.layer_words.RestoredItem.{RestoredItem}
use Rattle.osi_base.specs.Limits.{most_marks}
use Rattle.dialogue.specs.declared.config.Mode.{Mode}
use Rattle.dialogue.specs.declared.config.Mode.TheVariants.{Bare, Direct, Reliable}
use Rattle.end_rules.specs.Base.{Base}
use Rattle.end_rules.specs.State.{Body, highest, is_up}
use Rattle.end_rules.specs.Sets.{Alteration, next_number, fit_proposals, fit_alteration, altered}
use Rattle.end_rules.specs.Units.{proposed_units}
use Rattle.end_rules.specs.InPlace.{may_send_typed}
use Rattle.end_rules.specs.Policy.{policy}
use Rattle.end_rules.specs.Connecting.{the_one}
use Rattle.end_rules.specs.TakesAssociation.{is_release_request, is_release_response}
use Rattle.end_rules.specs.TakesData.{alteration, settled, is_associated}
use Rattle.end_rules.specs.TakesMarks.{priority_in}
use Rattle.end_rules.specs.Messages.{ValueContent, Remote, Unread, Association, Plea, Part}
use Rattle.end_rules.specs.Messages.{AbortData, DataValue, OfAssociation, OfData, OfMarks, OfActivities}
use Rattle.end_rules.specs.Messages.{Finish, Disconnect, Abort, AlterContext, AlterContextAck, Mark}
use Rattle.end_rules.specs.Messages.{Restart, RestartAck, Give, Please, GiveConfirm, GiveAck, Start}
use Rattle.end_rules.specs.Messages.{Interrupt, InterruptAck, Discard}
use Rattle.agreement.specs.Sets as sets
use Rattle.agreement.specs.Messages.Choice.{Nothing}
use Rattle.agreement.specs.Messages.Message.{Mark as model_mark, Restart as model_restart}
use Rattle.agreement.specs.Messages.Message.{RestartAnswer as model_restart_answer}
use Rattle.agreement.specs.Messages.Message.{Give as model_give, GiveAnswer as model_give_answer}
use Rattle.agreement.specs.Messages.Message.{Please as model_please, Start as model_start}
use Rattle.agreement.specs.Messages.Message.{Interrupt as model_interrupt}
use Rattle.agreement.specs.Messages.Message.{InterruptAnswer as model_interrupt_answer}
use Rattle.agreement.specs.Messages.Message.{Discard as model_discard, Alter as model_alter}
use Rattle.agreement.specs.Messages.Message.{AlterAnswer as model_alter_answer}
use Rattle.agreement.specs.Messages.Message.{Release as model_release}
use Rattle.agreement.specs.Messages.Message.{ReleaseAnswer as model_release_answer}
use Rattle.agreement.specs.Messages.Message.{UserAbort as model_abort}
use Rattle.agreement.specs.State as states
use Rattle.agreement.specs.Takings.{MayTake, altered_first, later}
use Rattle.end_model.specs.Seen.{Free, role_seen, set_seen, items_seen, seen, setup_seen}
use Rattle.end_model.specs.Rows.{at}
use Rattle.end_model.specs.Meant.{list_meant}
use Rattle.end_model.specs.Words.{results_seen}
use Rattle.end_model.specs.Acting.{TakenAs}
use Rattle.end_model.specs.Takings.{IsJoined, TakenWhere, nothing, by_policy, AnswersTaken}
use Rattle.end_model.proofs.Marks.{next-seen}
use Rattle.end_model.proofs.Transfers.{highest-seen, interrupt-confirmed}
use Rattle.end_model.proofs.Restarts.{restarted-seen}
use Rattle.end_model.proofs.Sendings.{restored-seen}
use Rattle.end_model.proofs.Altered.{altered-seen}
use Rattle.end_model.proofs.Fitting.{all-fit, policy-fits, and-left}
use Rattle.end_model.proofs.Takes.{eq-true, le-true, up-now, is-responder, fine, no-list_fault}
use Rattle.end_model.proofs.Takes.{awaits-restart, awaits-release, awaits-interrupt}
use Rattle.end_model.proofs.Takes.{no-faulty_proposal}

-- ---- marks and the turn

pub mark-direct : (number : ℕ) → TakenWhere Direct (OfMarks (Mark number)) (model_mark number) nothing
mark-direct number free base proposed body sound joined may =
    let up : is_up body.link.phase ≡ true = up-now (at Direct base) body may.is_up in
    let next : nat_eq number (next_number body.saved) ≡ true = eq-true number (next_number body.saved) (may.in_mode.is_next ∙ sym (next-seen body.saved)) in
    let within : nat_le number most_marks ≡ true = le-true number most_marks may.in_mode.is_within in
    record {
      no_fault = fine (at Direct base) body (OfMarks (Mark number)) (rw (up, may.in_mode.lacks_turn, joined.selected, next, within) refl) refl;
      chosen = tt;
      after = refl;
      means = tt;
    }

pub mark-reliable : (number : ℕ) → TakenWhere Reliable (OfMarks (Mark number)) (model_mark number) nothing
mark-reliable number free base proposed body sound joined may =
    let up : is_up body.link.phase ≡ true = up-now (at Reliable base) body may.is_up in
    let next : nat_eq number (suc (highest body.receiving.pieces)) ≡ true = eq-true number (suc (highest body.receiving.pieces)) (may.in_mode.is_next ∙ sym (ap suc (highest-seen body.receiving.pieces))) in
    let within : nat_le number most_marks ≡ true = le-true number most_marks may.in_mode.is_within in
    record {
      no_fault = fine (at Reliable base) body (OfMarks (Mark number)) (rw (up, may.in_mode.lacks_turn, joined.selected, may.in_mode.is_active, next, within) refl) refl;
      chosen = tt;
      after = refl;
      means = (refl, tt);
    }

pub give-direct : (tokens : ℕ) → TakenWhere Direct (OfMarks (Give (Some tokens))) model_give nothing
give-direct tokens free base proposed body sound joined may =
    let up : is_up body.link.phase ≡ true = up-now (at Direct base) body may.is_up in
    record { no_fault = fine (at Direct base) body (OfMarks (Give (Some tokens))) (rw (joined.selected, up, may.in_mode) refl) refl; chosen = tt; after = refl; means = tt }

pub give-reliable : TakenWhere Reliable (OfMarks GiveConfirm) model_give nothing
give-reliable free base proposed body sound joined may =
    let up : is_up body.link.phase ≡ true = up-now (at Reliable base) body may.is_up in
    record { no_fault = fine (at Reliable base) body (OfMarks GiveConfirm) (rw (up, may.in_mode.lacks_turn, may.in_mode.rests) refl) refl; chosen = tt; after = refl; means = (refl, tt) }

pub give_ack-reliable : TakenWhere Reliable (OfMarks GiveAck) model_give_answer nothing
give_ack-reliable free base proposed body sound joined may =
    let up : is_up body.link.phase ≡ true = up-now (at Reliable base) body may.is_up in
    record { no_fault = fine (at Reliable base) body (OfMarks GiveAck) (rw (up, may.asked) refl) refl; chosen = tt; after = refl; means = tt }

pub please-direct : (tokens : ℕ) → TakenWhere Direct (OfMarks (Please (Some tokens) [])) (model_please 0) nothing
please-direct tokens free base proposed body sound joined may =
    let up : is_up body.link.phase ≡ true = up-now (at Direct base) body may.is_up in
    record { no_fault = fine (at Direct base) body (OfMarks (Please (Some tokens) [])) (rw (up, joined.selected) refl) refl; chosen = tt; after = refl; means = tt }

-- a plea is no value of association control
no-plea : (v : DataValue) (priority : ℕ) (c : ValueContent) → priority_in (record v { content = c } ∷ []) ≡ Some priority → is_associated c ≡ false
no-plea v priority (Remote apdu) h = cc
no-plea v priority (Unread octets) h = cc
no-plea v priority (Association apdu user) h = cc
no-plea v priority (Plea p) h = refl
no-plea v priority (Part octets) h = refl

plea-alone : (values : List DataValue) (priority : ℕ) → priority_in values ≡ Some priority → list_any (λ (v : DataValue). is_associated v.content) values ≡ false
plea-alone [] priority h = refl
plea-alone (v ∷ []) priority h = ap (λ b. b || false) (no-plea v priority v.content h)
plea-alone (v ∷ more ∷ values) priority h = cc

pub please-reliable : (tokens priority : ℕ) (values : List DataValue) → priority_in values ≡ Some priority → TakenWhere Reliable (OfMarks (Please (Some tokens) values)) (model_please priority) nothing
please-reliable tokens priority values plea free base proposed body sound joined may =
    let up : is_up body.link.phase ≡ true = up-now (at Reliable base) body may.is_up in
    record { no_fault = fine (at Reliable base) body (OfMarks (Please (Some tokens) values)) (rw up refl) (rw (plea-alone values priority plea, plea) refl); chosen = tt; after = refl; means = tt }

-- ---- restarts

pub restart-direct : (number : ℕ) (list : Option (List RestoredItem)) → TakenWhere Direct (OfMarks (Restart number list)) (model_restart number (list_meant list)) nothing
restart-direct number list free base proposed body sound joined may =
    let up : is_up body.link.phase ≡ true = up-now (at Direct base) body may.is_up in
    let low : nat_le 1 number ≡ true = le-true 1 number may.is_positive in
    let high : nat_le number (next_number body.saved) ≡ true = le-true number (next_number body.saved) (subst (λ n. number ≤ n) (sym (next-seen body.saved)) may.is_known) in
    record {
      no_fault = fine (at Direct base) body (OfMarks (Restart number list)) (rw (up, joined.selected, low, high) refl) (no-list_fault body number list may.is_same);
      chosen = tt;
      after = restarted-seen number base body sound.queues;
      means = (ap (model_restart_answer number) (sym (restored-seen number body.saved)), tt);
    }

pub restart_ack-direct : (number : ℕ) (list : Option (List RestoredItem)) → TakenWhere Direct (OfMarks (RestartAck number list)) (model_restart_answer number (list_meant list)) nothing
restart_ack-direct number list free base proposed body sound joined may =
    record {
      no_fault = fine (at Direct base) body (OfMarks (RestartAck number list)) (awaits-restart body.link.awaits number may.asked) (no-list_fault body number list may.is_same);
      chosen = tt;
      after = restarted-seen number base body sound.queues;
      means = tt;
    }

-- ---- alterations

policied : (mode : Mode) (base : Base) (body : Body) (a : Alteration) → set_seen (altered a (policy (at mode base) body a) body.sets.held) ≡ sets.altered (items_seen a) (results_seen a (policy (at mode base) body a)) (set_seen body.sets.held)
policied mode base body a =
    altered-seen a (policy (at mode base) body a) body.sets.held (and-left (fit_proposals a.add (policy (at mode base) body a).added) (nat_eq (length a.delete) (length (policy (at mode base) body a).deleted)) (policy-fits (at mode base) body a))

pub alter-direct : (add : List Proposal) (delete : List ℕ) → TakenWhere Direct (OfData (AlterContext add delete)) (model_alter (items_seen (alteration add delete))) (by_policy Direct (alteration add delete))
alter-direct add delete free base proposed body sound joined may =
    let a : Alteration = alteration add delete in
    let up : is_up body.link.phase ≡ true = up-now (at Direct base) body may.is_up in
    let all = all-fit a (policy (at Direct base) body a) (policy-fits (at Direct base) body a) in
    let put : sets.ContextSet → states.State = λ held. record (seen (at Direct base) body) { sets = record (seen (at Direct base) body).sets { held = held } } in
    record {
      no_fault = fine (at Direct base) body (OfData (AlterContext add delete)) (rw (up, joined.selected) refl) (rw (joined.manages, no-faulty_proposal base.initiator body.sets.held a may.once may.may_be_asked) refl);
      chosen = record { fits = all.fits; is_known = all.known };
      after = ap put (policied Direct base body a);
      means = ((a, policy-fits (at Direct base) body a, refl), tt);
    }

pub alter-reliable : (add : List Proposal) (delete : List ℕ) → TakenWhere Reliable (OfData (AlterContext add delete)) (model_alter (items_seen (alteration add delete))) (by_policy Reliable (alteration add delete))
alter-reliable add delete free base proposed body sound joined may =
    let a : Alteration = alteration add delete in
    let up : is_up body.link.phase ≡ true = up-now (at Reliable base) body may.is_up in
    let all = all-fit a (policy (at Reliable base) body a) (policy-fits (at Reliable base) body a) in
    let put : sets.ContextSet → states.State = λ held. record (seen (at Reliable base) body) { sets = record (seen (at Reliable base) body).sets { held = held } } in
    record {
      no_fault = fine (at Reliable base) body (OfData (AlterContext add delete)) (rw (up, joined.selected) refl) (rw (joined.manages, may.in_mode, no-faulty_proposal base.initiator body.sets.held a may.once may.may_be_asked) refl);
      chosen = record { fits = all.fits; is_known = all.known };
      after = ap put (policied Reliable base body a);
      means = ((a, policy-fits (at Reliable base) body a, refl), tt);
    }

settled-so : (mode : Mode) (base : Base) (body : Body) (a : Alteration) (own : List Alteration) (answers : Answers) → fit_proposals a.add answers.added ≡ true → seen (at mode base) (settled (a ∷ own) answers body) ≡ record (seen (at mode base) body) { sets = record { held = sets.altered (items_seen a) (results_seen a answers) (set_seen body.sets.held); inter = set_seen body.sets.inter; own = map items_seen own } }
settled-so mode base body a own answers h =
    let put : sets.ContextSet → states.State = λ held. record (seen (at mode base) body) { sets = record { held = held; inter = set_seen body.sets.inter; own = map items_seen own } } in
    ap put (altered-seen a answers body.sets.held h)

typed : (mode : Mode) (body : Body) → is_up body.link.phase ≡ true → body.link.selected ≡ proposed_units mode → may_send_typed body ≡ true
typed Bare body up selected = rw (up, selected) refl
typed Direct body up selected = rw (up, selected) refl
typed Reliable body up selected = rw (up, selected) refl

alter_ack-taken : (mode : Mode) (a : Alteration) (own : List Alteration) (answers : Answers) (free : Free) (base : Base) (proposed : List Proposal) (body : Body) → IsJoined mode body → body.sets.own ≡ a ∷ own → fit_alteration a answers ≡ true → MayTake (setup_seen free mode base) (role_seen base.initiator) (seen (at mode base) body) (model_alter_answer (results_seen a answers)) → TakenAs free mode base proposed body (OfData (AlterContextAck answers)) (model_alter_answer (results_seen a answers)) Nothing
alter_ack-taken mode a own answers free base proposed body joined first fits may =
    let up : is_up body.link.phase ≡ true = up-now (at mode base) body may.is_up in
    let put : List Alteration → states.State = λ os. record (seen (at mode base) body) { sets = record (seen (at mode base) body).sets { held = altered_first (map items_seen os) (results_seen a answers) (set_seen body.sets.held); own = later (map items_seen os) } } in
    record {
      no_fault = fine (at mode base) body (OfData (AlterContextAck answers)) (typed mode body up joined.selected) (rw (first, fits) refl);
      chosen = tt;
      after =
          ap (λ os. seen (at mode base) (settled os answers body)) first ∙
          settled-so mode base body a own answers (and-left (fit_proposals a.add answers.added) (nat_eq (length a.delete) (length answers.deleted)) fits) ∙
          sym (ap put first);
      means = tt;
    }

pub answers-taken : AnswersTaken
answers-taken = record { alter_ack = alter_ack-taken }

-- ---- activities

pub start-reliable : (activity : ℕ) → TakenWhere Reliable (OfActivities (Start activity)) (model_start activity) nothing
start-reliable activity free base proposed body sound joined may =
    let up : is_up body.link.phase ≡ true = up-now (at Reliable base) body may.is_up in
    let next : nat_eq activity (suc body.receiving.last) ≡ true = eq-true activity (suc body.receiving.last) may.is_next in
    record { no_fault = fine (at Reliable base) body (OfActivities (Start activity)) (rw (up, may.lacks_turn, joined.selected, may.rests, next) refl) refl; chosen = tt; after = refl; means = tt }

pub interrupt-reliable : (reason : Option ℕ) → TakenWhere Reliable (OfActivities (Interrupt reason)) model_interrupt nothing
interrupt-reliable reason free base proposed body sound joined may =
    let up : is_up body.link.phase ≡ true = up-now (at Reliable base) body may.is_up in
    record { no_fault = fine (at Reliable base) body (OfActivities (Interrupt reason)) (rw (up, may.is_active) refl) refl; chosen = tt; after = refl; means = (refl, tt) }

pub discard-reliable : (reason : Option ℕ) → TakenWhere Reliable (OfActivities (Discard reason)) model_discard nothing
discard-reliable reason free base proposed body sound joined may =
    let up : is_up body.link.phase ≡ true = up-now (at Reliable base) body may.is_up in
    record { no_fault = fine (at Reliable base) body (OfActivities (Discard reason)) (rw (up, may.is_active) refl) refl; chosen = tt; after = refl; means = (refl, tt) }

pub interrupt_ack-reliable : TakenWhere Reliable (OfActivities InterruptAck) model_interrupt_answer nothing
interrupt_ack-reliable free base proposed body sound joined may =
    record { no_fault = fine (at Reliable base) body (OfActivities InterruptAck) (awaits-interrupt body.link.awaits may.asked) refl; chosen = tt; after = interrupt-confirmed free base body; means = tt }

-- ---- the end of the association

pub finish-direct : (transport : Option ℕ) (values : List DataValue) → is_release_request (the_one values) ≡ true → TakenWhere Direct (OfAssociation (Finish transport values)) model_release nothing
finish-direct transport values request free base proposed body sound joined may =
    let up : is_up body.link.phase ≡ true = up-now (at Direct base) body may.is_up in
    record { no_fault = fine (at Direct base) body (OfAssociation (Finish transport values)) (rw (is-responder base.initiator may.responds, up) refl) (rw request refl); chosen = tt; after = refl; means = (refl, tt) }

pub disconnect-direct : (values : List DataValue) → is_release_response (the_one values) ≡ true → TakenWhere Direct (OfAssociation (Disconnect values)) model_release_answer nothing
disconnect-direct values response free base proposed body sound joined may =
    record { no_fault = fine (at Direct base) body (OfAssociation (Disconnect values)) (awaits-release body.link.awaits may.asked) (rw response refl); chosen = tt; after = refl; means = tt }

pub disconnect-reliable : (values : List DataValue) → is_release_response (the_one values) ≡ true → TakenWhere Reliable (OfAssociation (Disconnect values)) model_release_answer nothing
disconnect-reliable values response free base proposed body sound joined may =
    record { no_fault = fine (at Reliable base) body (OfAssociation (Disconnect values)) (awaits-release body.link.awaits may.asked) (rw response refl); chosen = tt; after = refl; means = tt }

pub abort-direct : (transport : Option ℕ) (user : AbortData) → TakenWhere Direct (OfAssociation (Abort transport user)) model_abort nothing
abort-direct transport user free base proposed body sound joined may =
    record { no_fault = fine (at Direct base) body (OfAssociation (Abort transport user)) (rw joined.stage refl) refl; chosen = tt; after = refl; means = tt }

pub abort-reliable : (transport : Option ℕ) (user : AbortData) → TakenWhere Reliable (OfAssociation (Abort transport user)) model_abort nothing
abort-reliable transport user free base proposed body sound joined may =
    record { no_fault = fine (at Reliable base) body (OfAssociation (Abort transport user)) (rw joined.stage refl) refl; chosen = tt; after = refl; means = tt }
