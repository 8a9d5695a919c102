-- Two ends of direct mode: accepted calls of an end whose association stands.
use Rattle.std.proofs.Common.{◌≡◌, refl, true, false, ◌∙◌, sym, ap, subst, ℕ, List, [], ◌∷◌, ◌++◌}
use Rattle.std.proofs.Common.{◌⊎◌, inl, inr}
use Rattle.std.specs.Prelude.{ℤ, Option, Some, None, Ok, if◌then◌else◌}
use Rattle.osi_base.specs.declared.layer_words.Proposal.{Proposal}
use Rattle.osi_base.specs.declared.layer_words.SetItem.{SetItem}
use Rattle.asn1_types.specs.declared.value.Val.{Val}
use Rattle.stub_tables.specs.declared.apdu.Apdu.{Apdu}
use Rattle.stub_tables.specs.declared.operation.Operation.{Operation}
use Rattle.stub_tables.specs.declared.tables.Tables.{Tables}
use Rattle.stub_tables.specs.Lookup.{operation_at, error_at}
use Rattle.dialogue.specs.declared.config.Config.{Config}
use Rattle.dialogue.specs.declared.config.Mode.TheVariants.{Direct}
use Rattle.dialogue.specs.declared.config.Phase.TheVariants.{Up, Releasing, Over}
use Rattle.dialogue.specs.declared.call.Call.{Call}
use Rattle.dialogue.specs.declared.call.Call.TheVariants as the_calls
use Rattle.end_rules.specs.Base.{Base, Spellings}
use Rattle.end_rules.specs.Messages.{Message, Transport, Session, OfAssociation, OfData, OfMarks}
use Rattle.end_rules.specs.Messages.{OfActivities}
use Rattle.end_rules.specs.World.{Shared}
use Rattle.end_rules.specs.State.{Body, Link, Carrying, OpenCall, opened_with, is_carrying}
use Rattle.end_rules.specs.State.{is_broken}
use Rattle.end_rules.specs.Writing.{user_abort}
use Rattle.end_rules.specs.Faults.{over}
use Rattle.end_rules.specs.Calling.{can_call, is_idle}
use Rattle.end_rules.specs.Requesting.{after_call, after_invoke, after_outcome, result_in}
use Rattle.end_rules.specs.Requesting.{error_for, due_of}
use Rattle.agreement.specs.Sets.{Role, named, AreDistinct}
use Rattle.agreement.specs.Sets.Role.{Initiator, Responder}
use Rattle.agreement.specs.Messages as model
use Rattle.agreement.specs.Messages.Act.{Aborts as model_aborts}
use Rattle.agreement.specs.State as states
use Rattle.agreement.specs.Worlds.{World}
use Rattle.agreement.specs.Worlds.Step.{Acts}
use Rattle.agreement.specs.Worlds.Moment.{By}
use Rattle.agreement.proofs.Interface.{laws}
use Rattle.end_model.specs.Seen.{Free, seen}
use Rattle.end_model.specs.OpenInvocations.{IsProper, AreNumberedCalls}
use Rattle.end_model.specs.Acting.{HandsIn, ActsAs, IsSoundBody, ReadsBack}
use Rattle.end_model.specs.Requests.{sent_all, after_called}
use Rattle.end_model.specs.BothEnds.{WritesAll}
use Rattle.end_model.specs.Sharing.{side_of, shared_all_sent, before}
use Rattle.end_model.proofs.Ladder.{called}
use Rattle.end_model.proofs.HandingRows.{invoke-in}
use Rattle.end_model.proofs.OutcomeRows.{answer-in, refuse-in}
use Rattle.end_model.proofs.Alters.{alter-direct_acts}
use Rattle.end_model.proofs.Requests.{mark-acts, give-acts, please-acts, restart-acts, release-acts}
use Rattle.end_model.proofs.Connecting.{connections-act}
use Rattle.end_model.proofs.Joint.{AreDirect, acts-joint}
use Rattle.end_model.proofs.DirectWords.{AreOwn, ours-own, direct-sent, Live}
use Rattle.end_model.proofs.DirectTaking as taking
use Rattle.end_model.proofs.DirectTaking.{data-direct}

-- ---- what is handed in leaves the connection

invoke-link : (base : Base) (body : Body) (context place : ℕ) (id : ℤ) (linked : Option ℤ) (operation : Option Operation) (argument : Option Val) → (after_invoke (record base { mode = Direct }) body context place id linked operation argument).link ≡ body.link
invoke-link base body context place id linked None argument = refl
invoke-link base body context place id linked (Some operation) argument = refl

outcome-link : (base : Base) (body : Body) (id : ℤ) (o : Option OpenCall) (apdu : Option Apdu) → (after_outcome (record base { mode = Direct }) body id o apdu).link ≡ body.link
outcome-link base body id None apdu = refl
outcome-link base body id (Some o) None = refl
outcome-link base body id (Some o) (Some apdu) = refl

own-direct : (base : Base) (sent : List Message) → AreOwn base sent → AreDirect sent
own-direct base [] h = tt
own-direct base (Transport unit ∷ sent) h = absurd h
own-direct base (Session (OfAssociation word) ∷ sent) h = (tt, own-direct base sent h.1)
own-direct base (Session (OfData word) ∷ sent) h = (tt, own-direct base sent h.1)
own-direct base (Session (OfMarks word) ∷ sent) h = (tt, own-direct base sent h.1)
own-direct base (Session (OfActivities word) ∷ sent) h = absurd h.0

module _ (free : Free) (tables : Tables) (spellings : Spellings) (a b : Config) where
  abbrev base : Role → Base
  base = taking.base free tables spellings a b

  abbrev proposed : List Proposal
  proposed = taking.proposed free tables spellings a b

  abbrev setup : model.ModelSetup
  setup = taking.setup free tables spellings a b

  abbrev AreJoint : World → Role → Body → List Message → Body → List Message → List (List SetItem) → List (List SetItem) → Shared → Type 0
  AreJoint = taking.AreJoint free tables spellings a b

  -- spellings read back at one end do so at the other
  pub reads-at : (role : Role) → ReadsBack (base Initiator) → ReadsBack (base role)
  reads-at Initiator h = h
  reads-at Responder h = record { reads = λ apdu proper short. h.reads apdu (proper-for apdu proper) short }
    where
      proper-for : (apdu : Apdu) → IsProper (base Responder) apdu → IsProper (base Initiator) apdu
      proper-for apdu h = h

  pub record CalledTo (role : Role) (later : Body) (sent coming : List Message) (peer : Body) (to_peer : List Message) (fs gs : List (List SetItem)) (shared : Shared) : Type 0 where
    pub world : World
    pub ends : AreJoint world role later coming peer (to_peer ++ sent) fs (gs ++ before shared sent) (shared_all_sent Direct (side_of role) sent shared)
    pub sound : IsSoundBody Direct (base role) later
    pub side : Live later ⊎ (later.link.phase ≡ Over)
    pub own : AreOwn (base Initiator) sent

  handing : (world : World) (role : Role) (body : Body) (call : Call) (answer : Option ℤ) (coming : List Message) (peer : Body) (to_peer : List Message) (fs gs : List (List SetItem)) (shared : Shared) → AreJoint world role body coming peer to_peer fs gs shared → Live body → (after_call (base role) body call (Ok answer)).link ≡ body.link → HandsIn free Direct (base role) proposed body call answer → CalledTo role (after_called Direct (base role) body call answer) (due_of (base role) body call (Ok answer)) coming peer to_peer fs gs shared
  handing world role body call answer coming peer to_peer fs gs shared j live kept x =
      let later : Body = after_call (base role) body call (Ok answer) in
      let due : List Message = due_of (base role) body call (Ok answer) in
      subst (λ y. CalledTo role y due coming peer to_peer fs gs shared) (sym (direct-sent (base role) due _ x.acts.ours later))
      (record {
        world = By role (Acts x.act) ∷ world;
        ends = acts-joint free tables spellings a b world role body later coming peer to_peer due x.act fs gs shared j x.acts.acts (data-direct (base role) due _ x.acts.ours);
        sound = x.acts.sound;
        side = inl (taking.same_live free tables spellings a b body later live (ap (λ (l : Link). l.stage) kept) (ap (λ (l : Link). l.selected) kept) (ap (λ (l : Link). l.manages) kept) (ap (λ (l : Link). l.phase) kept));
        own = taking.own-for free tables spellings a b role due (ours-own (base role) due _ x.acts.ours);
      })

  acting : (world : World) (role : Role) (body later : Body) (sent coming : List Message) (peer : Body) (to_peer : List Message) (act : model.Act) (fs gs : List (List SetItem)) (shared : Shared) → AreJoint world role body coming peer to_peer fs gs shared → ActsAs free Direct (base role) proposed body later sent act → IsSoundBody Direct (base role) later → Live later ⊎ (later.link.phase ≡ Over) → AreOwn (base Initiator) sent → CalledTo role later sent coming peer to_peer fs gs shared
  acting world role body later sent coming peer to_peer act fs gs shared j x sound side own =
      record {
        world = By role (Acts act) ∷ world;
        ends = acts-joint free tables spellings a b world role body later coming peer to_peer sent act fs gs shared j x (own-direct (base Initiator) sent own);
        sound = sound;
        side = side;
        own = own;
      }

  not-idle : (body : Body) → Live body → is_idle body.link.phase ≡ true → ⊥
  not-idle body live h = go live.phase
    where
      up : is_idle Up ≡ true → ⊥
      up e = cc

      releasing : is_idle Releasing ≡ true → ⊥
      releasing e = cc

      go : (body.link.phase ≡ Up) ⊎ (body.link.phase ≡ Releasing) → ⊥
      go (inl e) = up (sym (ap is_idle e) ∙ h)
      go (inr e) = releasing (sym (ap is_idle e) ∙ h)

  not-broken : (body : Body) → Live body → is_broken body.link.phase ≡ true → ⊥
  not-broken body live h = go live.phase
    where
      up : is_broken Up ≡ true → ⊥
      up e = cc

      releasing : is_broken Releasing ≡ true → ⊥
      releasing e = cc

      go : (body.link.phase ≡ Up) ⊎ (body.link.phase ≡ Releasing) → ⊥
      go (inl e) = up (sym (ap is_broken e) ∙ h)
      go (inr e) = releasing (sym (ap is_broken e) ∙ h)

  -- an abort sends an AB and leaves the end over
  pub aborting : (world : World) (role : Role) (body : Body) (answer : Option ℤ) (coming : List Message) (peer : Body) (to_peer : List Message) (fs gs : List (List SetItem)) (shared : Shared) → AreJoint world role body coming peer to_peer fs gs shared → IsSoundBody Direct (base role) body → body.link.stage ≡ Carrying → can_call (base role) body the_calls.Abort ≡ Ok answer → CalledTo role (after_called Direct (base role) body the_calls.Abort answer) (due_of (base role) body the_calls.Abort (Ok answer)) coming peer to_peer fs gs shared
  aborting world role body answer coming peer to_peer fs gs shared j sound stage h =
      let ab : Message = user_abort body.link.accepted 0 [] in
      let due : (if is_carrying body.link.stage then ab ∷ [] else []) ≡ ab ∷ [] = ap (λ s. if is_carrying s then ab ∷ [] else []) stage in
      let later : sent_all Direct (over body) (if is_carrying body.link.stage then ab ∷ [] else []) ≡ over body = ap (sent_all Direct (over body)) due in
      acting world role body (after_called Direct (base role) body the_calls.Abort answer) (due_of (base role) body the_calls.Abort (Ok answer)) coming peer to_peer model_aborts fs gs shared j
      (connections-act.aborts Direct free (base role) proposed body answer tt stage h)
      (subst (IsSoundBody Direct (base role)) (sym later) (record { numbered = tt; calm = tt; sets = tt; queues = sound.queues }))
      (inr (ap (λ (y : Body). y.link.phase) later))
      (subst (AreOwn (base Initiator)) (sym due) (tt, tt))

  same-numbered : (role : Role) (body later : Body) → IsSoundBody Direct (base role) body → later.calls ≡ body.calls → later.sending.queue ≡ body.sending.queue → IsSoundBody Direct (base role) later
  same-numbered role body later sound c q = record { numbered = subst AreNumberedCalls (sym c) sound.numbered; calm = tt; sets = tt; queues = q ∙ sound.queues }

  pub called-so : (world : World) (role : Role) (body : Body) (call : Call) (answer : Option ℤ) (coming : List Message) (peer : Body) (to_peer : List Message) (fs gs : List (List SetItem)) (shared : Shared) → WritesAll free → ReadsBack (base Initiator) → AreJoint world role body coming peer to_peer fs gs shared → IsSoundBody Direct (base role) body → Live body → can_call (base role) body call ≡ Ok answer → CalledTo role (after_called Direct (base role) body call answer) (due_of (base role) body call (Ok answer)) coming peer to_peer fs gs shared
  called-so world role body (the_calls.Invoke context operation argument linked) answer coming peer to_peer fs gs shared writes back j sound live h =
      handing world role body (the_calls.Invoke context operation argument linked) answer coming peer to_peer fs gs shared j live (kept answer)
      (invoke-in Direct context operation argument linked free (base role) proposed body answer writes (reads-at role back) sound h)
    where
      kept : (answer : Option ℤ) → (after_call (base role) body (the_calls.Invoke context operation argument linked) (Ok answer)).link ≡ body.link
      kept None = refl
      kept (Some id) = invoke-link (base role) body context operation id linked (operation_at tables operation) argument
  called-so world role body (the_calls.Answer id result) answer coming peer to_peer fs gs shared writes back j sound live h =
      handing world role body (the_calls.Answer id result) answer coming peer to_peer fs gs shared j live
      (outcome-link (base role) body id (opened_with false id body.calls.opens) (result_in (base role) body id result))
      (answer-in Direct id result free (base role) proposed body answer writes (reads-at role back) sound h)
  called-so world role body (the_calls.Refuse id error parameter) answer coming peer to_peer fs gs shared writes back j sound live h =
      handing world role body (the_calls.Refuse id error parameter) answer coming peer to_peer fs gs shared j live
      (outcome-link (base role) body id (opened_with false id body.calls.opens) (error_for id parameter (error_at tables error)))
      (refuse-in Direct id error parameter free (base role) proposed body answer writes (reads-at role back) sound h)
  called-so world role body (the_calls.Alter add delete) answer coming peer to_peer fs gs shared writes back j sound live h =
      let few = (laws setup).alterations_few world j.ends.run role in
      let distinct : AreDistinct (named (seen (base role) body).sets.own) = subst (λ (x : states.State). AreDistinct (named x.sets.own)) j.ends.own.state few.1 in
      acting world role body (after_called Direct (base role) body (the_calls.Alter add delete) answer) (due_of (base role) body (the_calls.Alter add delete) (Ok answer)) coming peer to_peer _ fs gs shared j
      (alter-direct_acts add delete free (base role) proposed body answer sound distinct h)
      (same-numbered role body (after_called Direct (base role) body (the_calls.Alter add delete) answer) sound refl refl)
      (inl (taking.same_live free tables spellings a b body (after_called Direct (base role) body (the_calls.Alter add delete) answer) live refl refl refl refl))
      (tt, tt)
  called-so world role body the_calls.Mark answer coming peer to_peer fs gs shared writes back j sound live h =
      acting world role body (after_called Direct (base role) body the_calls.Mark answer) (due_of (base role) body the_calls.Mark (Ok answer)) coming peer to_peer _ fs gs shared j
      (mark-acts free (base role) proposed body answer sound h)
      (same-numbered role body (after_called Direct (base role) body the_calls.Mark answer) sound refl refl)
      (inl (taking.same_live free tables spellings a b body (after_called Direct (base role) body the_calls.Mark answer) live refl refl refl refl))
      (tt, tt)
  called-so world role body the_calls.Give answer coming peer to_peer fs gs shared writes back j sound live h =
      acting world role body (after_called Direct (base role) body the_calls.Give answer) (due_of (base role) body the_calls.Give (Ok answer)) coming peer to_peer _ fs gs shared j
      (give-acts free (base role) proposed body answer sound h)
      (same-numbered role body (after_called Direct (base role) body the_calls.Give answer) sound refl refl)
      (inl (taking.same_live free tables spellings a b body (after_called Direct (base role) body the_calls.Give answer) live refl refl refl refl))
      (tt, tt)
  called-so world role body (the_calls.Please priority) answer coming peer to_peer fs gs shared writes back j sound live h =
      acting world role body (after_called Direct (base role) body (the_calls.Please priority) answer) (due_of (base role) body (the_calls.Please priority) (Ok answer)) coming peer to_peer _ fs gs shared j
      (please-acts priority free (base role) proposed body answer sound h) sound (inl live) (tt, tt)
  called-so world role body (the_calls.Resync n) answer coming peer to_peer fs gs shared writes back j sound live h =
      acting world role body (after_called Direct (base role) body (the_calls.Resync n) answer) (due_of (base role) body (the_calls.Resync n) (Ok answer)) coming peer to_peer _ fs gs shared j
      (restart-acts n free (base role) proposed body answer sound h)
      (same-numbered role body (after_called Direct (base role) body (the_calls.Resync n) answer) sound refl refl)
      (inl (taking.same_live free tables spellings a b body (after_called Direct (base role) body (the_calls.Resync n) answer) live refl refl refl refl))
      (tt, tt)
  called-so world role body the_calls.Release answer coming peer to_peer fs gs shared writes back j sound live h =
      acting world role body (after_called Direct (base role) body the_calls.Release answer) (due_of (base role) body the_calls.Release (Ok answer)) coming peer to_peer _ fs gs shared j
      (release-acts free (base role) proposed body answer sound h)
      (same-numbered role body (after_called Direct (base role) body the_calls.Release answer) sound refl refl)
      (inl (record { joined = record { stage = live.joined.stage; selected = live.joined.selected; manages = live.joined.manages }; phase = inr refl }))
      (refl, tt)
  called-so world role body the_calls.Abort answer coming peer to_peer fs gs shared writes back j sound live h =
      aborting world role body answer coming peer to_peer fs gs shared j sound live.joined.stage h
  called-so world role body the_calls.Open answer coming peer to_peer fs gs shared writes back j sound live h =
      absurd (not-idle body live (called (base role) body the_calls.Open answer h).in_phase)
  called-so world role body the_calls.Recover answer coming peer to_peer fs gs shared writes back j sound live h =
      absurd (not-broken body live (called (base role) body the_calls.Recover answer h).in_phase)
  called-so world role body the_calls.Interrupt answer coming peer to_peer fs gs shared writes back j sound live h =
      let c = (called (base role) body the_calls.Interrupt answer h).rows in cc
  called-so world role body the_calls.Discard answer coming peer to_peer fs gs shared writes back j sound live h =
      let c = (called (base role) body the_calls.Discard answer h).rows in cc
  called-so world role body the_calls.Resume answer coming peer to_peer fs gs shared writes back j sound live h =
      let c = (called (base role) body the_calls.Resume answer h).rows in cc
