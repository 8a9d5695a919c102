-- The transport connection of an initiator, and own aborts, as acts of the model.
use Rattle.std.proofs.Common.{◌≡◌, refl, true, false, ◌∙◌, sym, ap, subst, ℕ, List, [], ◌∷◌}
use Rattle.std.specs.Prelude.{ℤ, Bool, not, ◌&&◌, Option, None, Ok, if◌then◌else◌}
use Rattle.osi_base.specs.declared.layer_words.Proposal.{Proposal}
use Rattle.dialogue.specs.declared.config.Mode.{Mode}
use Rattle.dialogue.specs.declared.config.Mode.TheVariants.{Bare, Direct, Reliable}
use Rattle.dialogue.specs.declared.config.Phase.{Phase}
use Rattle.dialogue.specs.declared.config.Phase.TheVariants as phases
use Rattle.dialogue.specs.declared.call.Call.TheVariants as the_calls
use Rattle.end_rules.specs.Base.{Base, Fault}
use Rattle.end_rules.specs.State.{Body, Stage, Unused, Asked, Joined, Carrying, is_asked}
use Rattle.end_rules.specs.State.{is_carrying}
use Rattle.end_rules.specs.Messages.{Message, ConnectionConfirm, DisconnectRequest}
use Rattle.end_rules.specs.Calling.{can_call, may_abort_in}
use Rattle.end_rules.specs.Faults.{fault_if, transport_fault, over}
use Rattle.end_rules.specs.Requesting.{due_of}
use Rattle.end_rules.specs.Writing.{connect_message, is_recovering, user_abort}
use Rattle.end_rules.specs.TakesTransport.{is_size, may_respond, transport_unit_fault}
use Rattle.end_rules.specs.TakesTransport.{after_transport, answers_to_transport}
use Rattle.agreement.specs.Sets.{Role}
use Rattle.agreement.specs.Sets.Role.{Initiator}
use Rattle.agreement.specs.Messages.Act.{Connects, Recovers, TransportFails, Aborts, Withdraws}
use Rattle.agreement.specs.Messages.Message.{Connect as model_connect, Recover as model_recover}
use Rattle.agreement.specs.Messages.Message.{UserAbort as model_user_abort}
use Rattle.agreement.specs.State.Phase.{Idle as model_idle, Broken as model_broken}
use Rattle.agreement.specs.Acts.{MayAbortIn, MayWithdrawIn, IsNotBare}
use Rattle.end_model.specs.Seen.{Free, mode_seen, role_seen, phase_seen, seen}
use Rattle.end_model.specs.Rows.{at}
use Rattle.end_model.specs.Words.{AreMeant}
use Rattle.end_model.specs.Acting.{ActsAs}
use Rattle.end_model.specs.Requests.{after_called, sent_all}
use Rattle.end_model.specs.Connections.{IsAssociated, ConnectionsAct}
use Rattle.end_model.proofs.Restarts.{connects-seen, recovers-seen}
use Rattle.end_model.proofs.Ladder.{called}

no-fault : (b : Bool) (fault : Fault) → fault_if (not b) fault ≡ None → b ≡ true
no-fault true fault h = refl
no-fault false fault h = cc

and-left : (a b : Bool) → (a && b) ≡ true → a ≡ true
and-left true b h = refl
and-left false b h = cc

and-right : (a b : Bool) → (a && b) ≡ true → b ≡ true
and-right true b h = h
and-right false b h = cc

not-bare : (mode : Mode) → IsAssociated mode → IsNotBare (mode_seen mode)
not-bare Bare h = h
not-bare Direct h = tt
not-bare Reliable h = tt

initiates : (initiator : Bool) → initiator ≡ true → role_seen initiator ≡ Initiator
initiates true h = refl
initiates false h = cc

asked-idle : (stage : Stage) → is_asked stage ≡ true → phase_seen stage phases.Opening ≡ model_idle
asked-idle Unused h = refl
asked-idle Asked h = refl
asked-idle Joined h = refl
asked-idle Carrying h = cc

asked-broken : (stage : Stage) → is_asked stage ≡ true → phase_seen stage phases.Recovering ≡ model_broken
asked-broken Unused h = refl
asked-broken Asked h = refl
asked-broken Joined h = refl
asked-broken Carrying h = cc

-- ---- CC

cn-meant : (mode : Mode) (proposed : List Proposal) (base : Base) (phase : Phase) → phase ≡ phases.Opening → AreMeant proposed (at mode base) (connect_message (at mode base) (is_recovering phase) ∷ []) (model_connect ∷ [])
cn-meant Bare proposed base phase e = (refl, tt)
cn-meant Direct proposed base phase e = (refl, tt)
cn-meant Reliable proposed base phase e = rw e (refl, tt)

recovery-meant : (proposed : List Proposal) (base : Base) (phase : Phase) → phase ≡ phases.Recovering → AreMeant proposed (at Reliable base) (connect_message (at Reliable base) (is_recovering phase) ∷ []) (model_recover ∷ [])
recovery-meant proposed base phase e = rw e (refl, tt)

connects-act : (mode : Mode) (destination : ℕ) (size : Option ℕ) (free : Free) (base : Base) (proposed : List Proposal) (body : Body) → IsAssociated mode → body.link.phase ≡ phases.Opening → transport_unit_fault (at mode base) body (ConnectionConfirm destination size) ≡ None → ActsAs free mode base proposed body (after_transport (at mode base) body (ConnectionConfirm destination size)) (answers_to_transport (at mode base) body (ConnectionConfirm destination size)) Connects
connects-act mode destination size free base proposed body associated phase fine =
    let h : (may_respond (at mode base) body && is_size size) ≡ true = no-fault (may_respond (at mode base) body && is_size size) transport_fault fine in
    let k : (base.initiator && is_asked body.link.stage) ≡ true = and-left (may_respond (at mode base) body) (is_size size) h in
    record {
      may =
          record {
            initiates = initiates base.initiator (and-left base.initiator (is_asked body.link.stage) k);
            is_idle = ap (phase_seen body.link.stage) phase ∙ asked-idle body.link.stage (and-right base.initiator (is_asked body.link.stage) k);
          };
      after = connects-seen mode base body phase;
      means = cn-meant mode proposed base body.link.phase phase;
    }

recovers-act : (destination : ℕ) (size : Option ℕ) (free : Free) (base : Base) (proposed : List Proposal) (body : Body) → body.link.phase ≡ phases.Recovering → transport_unit_fault (at Reliable base) body (ConnectionConfirm destination size) ≡ None → ActsAs free Reliable base proposed body (after_transport (at Reliable base) body (ConnectionConfirm destination size)) (answers_to_transport (at Reliable base) body (ConnectionConfirm destination size)) Recovers
recovers-act destination size free base proposed body phase fine =
    let h : (may_respond (at Reliable base) body && is_size size) ≡ true = no-fault (may_respond (at Reliable base) body && is_size size) transport_fault fine in
    let k : (base.initiator && is_asked body.link.stage) ≡ true = and-left (may_respond (at Reliable base) body) (is_size size) h in
    record {
      may =
          record {
            initiates = initiates base.initiator (and-left base.initiator (is_asked body.link.stage) k);
            is_broken = ap (phase_seen body.link.stage) phase ∙ asked-broken body.link.stage (and-right base.initiator (is_asked body.link.stage) k);
          };
      after = recovers-seen Reliable base body phase;
      means = recovery-meant proposed base body.link.phase phase;
    }

-- ---- DR

fails-act : (mode : Mode) (destination : ℕ) (free : Free) (base : Base) (proposed : List Proposal) (body : Body) → IsAssociated mode → body.link.phase ≡ phases.Opening → transport_unit_fault (at mode base) body (DisconnectRequest destination) ≡ None → ActsAs free mode base proposed body (after_transport (at mode base) body (DisconnectRequest destination)) (answers_to_transport (at mode base) body (DisconnectRequest destination)) TransportFails
fails-act mode destination free base proposed body associated phase fine =
    let k : (base.initiator && is_asked body.link.stage) ≡ true = no-fault (may_respond (at mode base) body) transport_fault fine in
    let idle : phase_seen body.link.stage body.link.phase ≡ model_idle = ap (phase_seen body.link.stage) phase ∙ asked-idle body.link.stage (and-right base.initiator (is_asked body.link.stage) k) in
    record {
      may = record { in_phase = subst (MayWithdrawIn (role_seen base.initiator)) (sym idle) tt; in_mode = not-bare mode associated };
      after = refl;
      means = tt;
    }

recovery-fails : (mode : Mode) (destination : ℕ) (free : Free) (base : Base) (proposed : List Proposal) (body : Body) → IsAssociated mode → body.link.phase ≡ phases.Recovering → transport_unit_fault (at mode base) body (DisconnectRequest destination) ≡ None → ActsAs free mode base proposed body (after_transport (at mode base) body (DisconnectRequest destination)) (answers_to_transport (at mode base) body (DisconnectRequest destination)) TransportFails
recovery-fails mode destination free base proposed body associated phase fine =
    let k : (base.initiator && is_asked body.link.stage) ≡ true = no-fault (may_respond (at mode base) body) transport_fault fine in
    let broken : phase_seen body.link.stage body.link.phase ≡ model_broken = ap (phase_seen body.link.stage) phase ∙ asked-broken body.link.stage (and-right base.initiator (is_asked body.link.stage) k) in
    record {
      may =
          record {
            in_phase = subst (MayWithdrawIn (role_seen base.initiator)) (sym broken) (initiates base.initiator (and-left base.initiator (is_asked body.link.stage) k));
            in_mode = not-bare mode associated;
          };
      after = refl;
      means = tt;
    }

-- ---- own aborts

abort-phase : (phase : Phase) → may_abort_in phase ≡ true → MayAbortIn (phase_seen Carrying phase)
abort-phase phases.Idle h = cc
abort-phase phases.Opening h = tt
abort-phase phases.Up h = tt
abort-phase phases.Releasing h = tt
abort-phase phases.Broken h = cc
abort-phase phases.Recovering h = tt
abort-phase phases.Over h = cc
abort-phase phases.Dead h = cc

abort-due : (mode : Mode) (base : Base) (body : Body) (sent : List Message) → sent_all mode (over body) (user_abort body.link.accepted 0 [] ∷ []) ≡ over body
abort-due Bare base body sent = refl
abort-due Direct base body sent = refl
abort-due Reliable base body sent = refl

aborts-act : (mode : Mode) (free : Free) (base : Base) (proposed : List Proposal) (body : Body) (answer : Option ℤ) → IsAssociated mode → body.link.stage ≡ Carrying → can_call (at mode base) body the_calls.Abort ≡ Ok answer → ActsAs free mode base proposed body (after_called mode base body the_calls.Abort answer) (due_of (at mode base) body the_calls.Abort (Ok answer)) Aborts
aborts-act mode free base proposed body answer associated stage h =
    let c = called (at mode base) body the_calls.Abort answer h in
    let due : (if is_carrying body.link.stage then user_abort body.link.accepted 0 [] ∷ [] else []) ≡ user_abort body.link.accepted 0 [] ∷ [] = ap (λ s. if is_carrying s then user_abort body.link.accepted 0 [] ∷ [] else []) stage in
    record {
      may = record { in_phase = subst (λ s. MayAbortIn (phase_seen s body.link.phase)) (sym stage) (abort-phase body.link.phase c.in_phase); in_mode = not-bare mode associated };
      after = ap (λ ms. seen (at mode base) (sent_all mode (over body) ms)) due ∙ ap (seen (at mode base)) (abort-due mode base body []);
      means = subst (λ ms. AreMeant proposed (at mode base) ms (model_user_abort ∷ [])) (sym due) (refl, tt);
    }

pub withdraw-phase : (role : Role) (stage : Stage) → is_carrying stage ≡ false → MayWithdrawIn role (phase_seen stage phases.Opening)
withdraw-phase role Unused h = tt
withdraw-phase role Asked h = tt
withdraw-phase role Joined h = tt
withdraw-phase role Carrying h = cc

withdraws-act : (mode : Mode) (free : Free) (base : Base) (proposed : List Proposal) (body : Body) (answer : Option ℤ) → IsAssociated mode → is_carrying body.link.stage ≡ false → body.link.phase ≡ phases.Opening → can_call (at mode base) body the_calls.Abort ≡ Ok answer → ActsAs free mode base proposed body (after_called mode base body the_calls.Abort answer) (due_of (at mode base) body the_calls.Abort (Ok answer)) Withdraws
withdraws-act mode free base proposed body answer associated stage phase h =
    let due : (if is_carrying body.link.stage then user_abort body.link.accepted 0 [] ∷ [] else []) ≡ [] = ap (λ b. if b then user_abort body.link.accepted 0 [] ∷ [] else []) stage in
    record {
      may = record { in_phase = subst (λ p. MayWithdrawIn (role_seen base.initiator) (phase_seen body.link.stage p)) (sym phase) (withdraw-phase (role_seen base.initiator) body.link.stage stage); in_mode = not-bare mode associated };
      after = ap (λ ms. seen (at mode base) (sent_all mode (over body) ms)) due;
      means = subst (λ ms. AreMeant proposed (at mode base) ms []) (sym due) tt;
    }

pub connections-act : ConnectionsAct
connections-act =
    record {
      connects = connects-act;
      recovers = recovers-act;
      fails = fails-act;
      recovery_fails = recovery-fails;
      aborts = aborts-act;
      withdraws = withdraws-act;
    }
