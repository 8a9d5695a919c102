-- Two ends of reliable mode: accepted calls of an end whose association stands, and what it does by itself.
use Rattle.std.proofs.Common.{◌≡◌, refl, true, false, ◌∙◌, sym, ap, subst, ℕ, List, [], ◌∷◌, ◌++◌, ◌⊎◌, inl, inr}
use Rattle.std.specs.Prelude.{ℤ, Option, Some, None, Ok, Err, if◌then◌else◌}
use Rattle.osi_base.specs.declared.layer_words.Proposal.{Proposal}
use Rattle.osi_base.specs.declared.layer_words.SetItem.{SetItem}
use Rattle.asn1_types.specs.declared.value.Val.{Val}
use Rattle.osi_base.specs.SetPlaces.{pair_of}
use Rattle.end_model.specs.end_rules.Encodings.{next_queued, Encoding, encoding_of}
use Rattle.stub_tables.specs.declared.apdu.Apdu.{Apdu}
use Rattle.stub_tables.specs.declared.apdu.Apdu.TheVariants as apdus
use Rattle.stub_tables.specs.declared.operation.Operation.{Operation}
use Rattle.stub_tables.specs.declared.operation.ErrorRow.{ErrorRow}
use Rattle.stub_tables.specs.declared.tables.Tables.{Tables}
use Rattle.stub_tables.specs.Lookup.{operation_at, error_at}
use Rattle.end_model.specs.dialogue.declared.config.Config.{Config}
use Rattle.end_model.specs.dialogue.declared.config.Mode.TheVariants.{Reliable}
use Rattle.end_model.specs.dialogue.declared.config.Phase.TheVariants.{Up, Releasing, Over}
use Rattle.end_model.specs.dialogue.declared.call.Call.{Call}
use Rattle.end_model.specs.dialogue.declared.call.Call.TheVariants as the_calls
use Rattle.end_model.specs.dialogue.declared.call.CallRefusal.TheVariants as refusals
use Rattle.end_model.specs.end_rules.Base.{Base, Spellings}
use Rattle.end_model.specs.end_rules.Messages.{Message, Session, OfActivities, Start}
use Rattle.end_model.specs.end_rules.State.{Queued, Transfer, Body, Link, Carrying, OpenCall, opened_with, is_carrying, is_broken}
use Rattle.end_model.specs.end_rules.Writing.{user_abort}
use Rattle.end_model.specs.end_rules.Faults.{over}
use Rattle.end_model.specs.end_rules.Invoking.{is_too_long}
use Rattle.end_model.specs.end_rules.Calling.{can_call, is_idle}
use Rattle.end_model.specs.end_rules.Requesting.{after_call, after_invoke, after_outcome, due_invoke, due_outcome, result_in, result_for}
use Rattle.end_model.specs.end_rules.Requesting.{error_for, operation_opened, resumed, due_of}
use Rattle.end_model.specs.end_rules.ByItself.{OwnAct, SendsNow, EncodesOn, next_own}
use Rattle.end_model.specs.end_rules.History.{after_step, step_of}
use Rattle.agreement.specs.Sets.{Role, named, AreDistinct}
use Rattle.agreement.specs.Sets.Role.{Initiator, Responder}
use Rattle.agreement.specs.Messages as model
use Rattle.agreement.specs.Messages.Act.{SaysValue, Queues, Aborts as model_aborts}
use Rattle.agreement.specs.State as states
use Rattle.agreement.specs.Worlds.{World}
use Rattle.agreement.specs.Worlds.Step.{Acts}
use Rattle.agreement.specs.Worlds.Moment.{By}
use Rattle.agreement.specs.Laws.{handed_by}
use Rattle.agreement.proofs.Interface.{laws}
use Rattle.end_model.specs.Seen.{Free, seen}
use Rattle.end_model.specs.OpenInvocations.{IsProper, AreNumberedCalls}
use Rattle.end_model.specs.Acting.{as_list, invoked_as, HandsIn, ActsAs, IsSoundBody, ReadsBack}
use Rattle.end_model.specs.Requests.{sent_all, after_called}
use Rattle.end_model.proofs.Ladder.{called}
use Rattle.end_model.proofs.HandingRows.{invoke-in}
use Rattle.end_model.proofs.OutcomeRows.{answer-in, refuse-in}
use Rattle.end_model.proofs.Alters.{alter-reliable_acts}
use Rattle.end_model.proofs.Requests.{give_all-acts, please_with-acts, interrupt-acts, discard-acts, resume-acts}
use Rattle.end_model.proofs.Requests.{release_in_turn-acts}
use Rattle.end_model.proofs.Connecting.{connections-act}
use Rattle.reliable_model.specs.Codecs.{IsShort, IsTransferable, SpellsTransfers, IsTransferOf, Carries}
use Rattle.reliable_model.specs.Transferring.{AreTransferable, OnCurrent, IsSending}
use Rattle.reliable_model.specs.Ledgers.{Ledger, after_sending, own_messages, after_own, started_by, encoded_by}
use Rattle.reliable_model.proofs.Transferring.{queue-append, kept-current, with-confirmed, resumed-current}
use Rattle.reliable_model.specs.OwnRows.{EncodesInPlace}
use Rattle.reliable_model.proofs.OwnRows.{own-rows, Leaves, leaves}
use Rattle.reliable_model.proofs.Ledgers as ledgers
use Rattle.reliable_model.proofs.Ledgers.{AreEncodable}
use Rattle.reliable_model.proofs.Words.{AreOwn, Live}
use Rattle.reliable_model.proofs.Taking as taking
use Rattle.reliable_model.proofs.Taking.{same-live}

-- ---- what is handed in leaves the connection, and is queued

invoke-link : (base : Base) (body : Body) (context place : ℕ) (id : ℤ) (linked : Option ℤ) (operation : Option Operation) (argument : Option Val) → (after_invoke (record base { mode = Reliable }) body context place id linked operation argument).link ≡ body.link
invoke-link base body context place id linked None argument = refl
invoke-link base body context place id linked (Some operation) argument = refl

outcome-link : (base : Base) (body : Body) (id : ℤ) (o : Option OpenCall) (apdu : Option Apdu) → (after_outcome (record base { mode = Reliable }) body id o apdu).link ≡ body.link
outcome-link base body id None apdu = refl
outcome-link base body id (Some o) None = refl
outcome-link base body id (Some o) (Some apdu) = refl

invoke-due : (base : Base) (body : Body) (context : ℕ) (id : ℤ) (linked : Option ℤ) (operation : Option Operation) (argument : Option Val) → due_invoke (record base { mode = Reliable }) body context id linked operation argument ≡ []
invoke-due base body context id linked None argument = refl
invoke-due base body context id linked (Some operation) argument = refl

outcome-due : (base : Base) (body : Body) (o : Option OpenCall) (apdu : Option Apdu) → due_outcome (record base { mode = Reliable }) body o apdu ≡ []
outcome-due base body None apdu = refl
outcome-due base body (Some o) None = refl
outcome-due base body (Some o) (Some apdu) = refl

-- a call hands in no reject
abbrev NoReject : Apdu → Type 0
NoReject (apdus.Reject id problem) = ⊥
NoReject apdu = Unit {0}

one-apdu : (x y : Apdu) → x ∷ [] ≡ y ∷ [] → x ≡ y
one-apdu x y h = cc

none-apdu : (x : Apdu) → [] ≡ x ∷ [] → ⊥
none-apdu x h = cc

invoke-no_reject : (id : ℤ) (linked : Option ℤ) (argument : Option Val) (o : Option Operation) (apdu : Apdu) → invoked_as id linked argument o ≡ apdu ∷ [] → NoReject apdu
invoke-no_reject id linked argument None apdu h = absurd (none-apdu apdu h)
invoke-no_reject id linked argument (Some operation) apdu h = subst NoReject (one-apdu _ apdu h) tt

result-no_reject : (id : ℤ) (result : Option Val) (o : Option Operation) (apdu : Apdu) → as_list (result_for id result o) ≡ apdu ∷ [] → NoReject apdu
result-no_reject id result None apdu h = absurd (none-apdu apdu h)
result-no_reject id result (Some operation) apdu h = subst NoReject (one-apdu _ apdu h) tt

error-no_reject : (id : ℤ) (parameter : Option Val) (e : Option ErrorRow) (apdu : Apdu) → as_list (error_for id parameter e) ≡ apdu ∷ [] → NoReject apdu
error-no_reject id parameter None apdu h = absurd (none-apdu apdu h)
error-no_reject id parameter (Some error) apdu h = subst NoReject (one-apdu _ apdu h) tt

short-of : (base : Base) (apdu : Apdu) → NoReject apdu → is_too_long base apdu ≡ false → IsShort base apdu
short-of base (apdus.Invoke id linked code argument) n h = h
short-of base (apdus.Result id returned) n h = h
short-of base (apdus.Error id code parameter) n h = h
short-of base (apdus.Reject id problem) n h = absurd n

-- what an end starts and encodes is transferable
first-good : (base : Base) (queue : List Queued) → AreTransferable base queue → AreTransferable base (next_queued queue)
first-good base [] h = tt
first-good base (item ∷ items) h = (h.0, tt)

started-good : (base : Base) (body : Body) (own : OwnAct) → IsSending base body.sending → AreTransferable base (started_by body own)
started-good base body (SendsNow (Session (OfActivities (Start activity)))) h = first-good base body.sending.queue h.queue
started-good base body own h = tt

encoding-good : (base : Base) (current : Option Transfer) (activity : ℕ) (set : List SetItem) (context : ℕ) → OnCurrent base current → AreEncodable base (encoding_of activity context (pair_of set context) current)
encoding-good base None activity set context h = tt
encoding-good base (Some t) activity set context h = (h.item, tt)

encoded-good : (base : Base) (body : Body) (set : List SetItem) (own : OwnAct) → IsSending base body.sending → AreEncodable base (encoded_by body set own)
encoded-good base body set (SendsNow message) h = tt
encoded-good base body set (EncodesOn context) h = encoding-good base body.sending.current body.sending.started set context h.current

module _ (free : Free) (tables : Tables) (spellings : Spellings) (a b : Config) where
  abbrev base : Role → Base
  base = taking.base free tables spellings a b

  abbrev proposed : List Proposal
  proposed = taking.proposed free tables spellings a b

  abbrev setup : model.ModelSetup
  setup = taking.setup free tables spellings a b

  abbrev AreJoint : World → Role → Body → List Message → Body → List Message → Ledger → Type 0
  AreJoint = taking.AreJoint free tables spellings a b

  abbrev ActLog : Role → Body → List SetItem → model.Act → Type 0
  ActLog role body set act = ledgers.ActLog free tables spellings a b role body set act [] []

  -- ---- premises at one end are those at the other

  pub reads-at : (role : Role) → ReadsBack (base Initiator) → ReadsBack (base role)
  reads-at Initiator h = h
  reads-at Responder h = record { reads = λ apdu proper short. h.reads apdu (proper-for apdu proper) short }
    where
      proper-for : (apdu : Apdu) → IsProper (base Responder) apdu → IsProper (base Initiator) apdu
      proper-for apdu h = h

  transferable-for : (apdu : Apdu) → IsTransferable (base Responder) apdu → IsTransferable (base Initiator) apdu
  transferable-for apdu h = record { proper = h.proper; short = short apdu h.short }
    where
      short : (apdu : Apdu) → IsShort (base Responder) apdu → IsShort (base Initiator) apdu
      short apdu h = h

  pub transferable-at : (role : Role) (apdu : Apdu) → IsTransferable (base role) apdu → IsTransferable (base Initiator) apdu
  transferable-at Initiator apdu h = h
  transferable-at Responder apdu h = transferable-for apdu h

  transferable-back : (apdu : Apdu) → IsTransferable (base Initiator) apdu → IsTransferable (base Responder) apdu
  transferable-back apdu h = record { proper = h.proper; short = short apdu h.short }
    where
      short : (apdu : Apdu) → IsShort (base Initiator) apdu → IsShort (base Responder) apdu
      short apdu h = h

  pub spells-at : (role : Role) → SpellsTransfers (base Initiator) → SpellsTransfers (base role)
  spells-at Initiator h = h
  spells-at Responder h =
      record {
        within = λ item t placed. h.within item (transferable-for item.apdu t) placed;
        reads = λ set item t placed there. h.reads set item (transferable-for item.apdu t) placed there;
      }

  transfer-of : (octets : List ℕ) (value : model.Value) → IsTransferOf (base Initiator) octets value → IsTransferOf (base Responder) octets value
  transfer-of octets value x = record { item = x.item; transferable = transferable-back x.item.apdu x.transferable; placed = x.placed; spelled = x.spelled; is_its = x.is_its }

  pub carries-at : (role : Role) → Carries free (base Initiator) → Carries free (base role)
  carries-at Initiator h = h
  carries-at Responder h =
      record {
        writes = λ item t placed. h.writes item (transferable-for item.apdu t) placed;
        written = λ item t placed. h.written item (transferable-for item.apdu t) placed;
        reads = λ set octets value e. transfer-of octets value (h.reads set octets value e);
      }

  items-for : (role : Role) (items : List Queued) → AreTransferable (base role) items → AreTransferable (base Initiator) items
  items-for Initiator items h = h
  items-for Responder [] h = tt
  items-for Responder (item ∷ items) h = (transferable-for item.apdu h.0, items-for Responder items h.1)

  encodings-for : (role : Role) (es : List Encoding) → AreEncodable (base role) es → AreEncodable (base Initiator) es
  encodings-for Initiator es h = h
  encodings-for Responder [] h = tt
  encodings-for Responder (e ∷ es) h = (transferable-for e.apdu h.0, encodings-for Responder es h.1)

  -- ---- accepted calls

  pub record CalledTo (role : Role) (later : Body) (sent coming : List Message) (peer : Body) (to_peer : List Message) (ledger : Ledger) : Type 0 where
    pub world : World
    pub ends : AreJoint world role later coming peer (to_peer ++ sent) (after_sending (taking.common free tables spellings a b) role sent ledger)
    pub sound : IsSoundBody Reliable (base role) later
    pub sending : IsSending (base role) later.sending
    pub side : Live later ⊎ (later.link.phase ≡ Over)
    pub own : AreOwn sent

  -- an APDU that is handed in starts and encodes nothing
  of-handing : (role : Role) (body : Body) (set : List SetItem) (act : model.Act) (apdu : model.Apdu) → handed_by (Acts act) ≡ apdu ∷ [] → ActLog role body set act
  of-handing role body set (SaysValue value) apdu h = record { starts = λ rest. refl; encodes = refl }
  of-handing role body set (Queues context x) apdu h = record { starts = λ rest. refl; encodes = refl }
  of-handing role body set act apdu h = absurd (none h)
    where
      none : [] ≡ apdu ∷ [] → ⊥
      none h = cc

  handing-in : (world : World) (role : Role) (body : Body) (call : Call) (answer : Option ℤ) (coming : List Message) (peer : Body) (to_peer : List Message) (ledger : Ledger) → AreJoint world role body coming peer to_peer ledger → IsSending (base role) body.sending → Live body → (after_call (base role) body call (Ok answer)).link ≡ body.link → due_of (base role) body call (Ok answer) ≡ [] → (x : HandsIn free Reliable (base role) proposed body call answer) → NoReject x.apdu → CalledTo role (after_called Reliable (base role) body call answer) (due_of (base role) body call (Ok answer)) coming peer to_peer ledger
  handing-in world role body call answer coming peer to_peer ledger j sending live kept none x usual =
      let later : Body = after_call (base role) body call (Ok answer) in
      let due : List Message = due_of (base role) body call (Ok answer) in
      subst (λ y. CalledTo role y due coming peer to_peer ledger) (sym (ap (sent_all Reliable later) none))
      (record {
        world = By role (Acts x.act) ∷ world;
        ends = ledgers.quiet-joint free tables spellings a b world role body later coming peer to_peer due x.act ledger j x.acts.acts (of-handing role body ledger.shared.set x.act _ x.hands);
        sound = x.acts.sound;
        sending =
            subst (IsSending (base role)) (sym x.sending)
            (record {
              queue = queue-append (base role) body.sending.queue _ sending.queue (record { proper = x.is_proper; short = short-of (base role) x.apdu usual x.is_short }, tt);
              current = sending.current;
            });
        side = inl (same-live body later live (ap (λ (l : Link). l.stage) kept) (ap (λ (l : Link). l.selected) kept) (ap (λ (l : Link). l.manages) kept) (ap (λ (l : Link). l.phase) kept));
        own = subst AreOwn (sym none) tt;
      })

  acting : (world : World) (role : Role) (body later : Body) (sent coming : List Message) (peer : Body) (to_peer : List Message) (act : model.Act) (ledger : Ledger) → AreJoint world role body coming peer to_peer ledger → ActsAs free Reliable (base role) proposed body later sent act → ActLog role body ledger.shared.set act → IsSoundBody Reliable (base role) later → IsSending (base role) later.sending → Live later ⊎ (later.link.phase ≡ Over) → AreOwn sent → CalledTo role later sent coming peer to_peer ledger
  acting world role body later sent coming peer to_peer act ledger j x d sound sending side own =
      record {
        world = By role (Acts act) ∷ world;
        ends = ledgers.quiet-joint free tables spellings a b world role body later coming peer to_peer sent act ledger j x d;
        sound = sound;
        sending = sending;
        side = side;
        own = own;
      }

  not-idle : (body : Body) → Live body → is_idle body.link.phase ≡ true → ⊥
  not-idle body live h = go live.phase
    where
      up : is_idle Up ≡ true → ⊥
      up e = cc

      releasing : is_idle Releasing ≡ true → ⊥
      releasing e = cc

      go : (body.link.phase ≡ Up) ⊎ (body.link.phase ≡ Releasing) → ⊥
      go (inl e) = up (sym (ap is_idle e) ∙ h)
      go (inr e) = releasing (sym (ap is_idle e) ∙ h)

  not-broken : (body : Body) → Live body → is_broken body.link.phase ≡ true → ⊥
  not-broken body live h = go live.phase
    where
      up : is_broken Up ≡ true → ⊥
      up e = cc

      releasing : is_broken Releasing ≡ true → ⊥
      releasing e = cc

      go : (body.link.phase ≡ Up) ⊎ (body.link.phase ≡ Releasing) → ⊥
      go (inl e) = up (sym (ap is_broken e) ∙ h)
      go (inr e) = releasing (sym (ap is_broken e) ∙ h)

  -- an abort sends an AB and leaves the end over
  pub aborting : (world : World) (role : Role) (body : Body) (answer : Option ℤ) (coming : List Message) (peer : Body) (to_peer : List Message) (ledger : Ledger) → AreJoint world role body coming peer to_peer ledger → IsSending (base role) body.sending → body.link.stage ≡ Carrying → can_call (base role) body the_calls.Abort ≡ Ok answer → CalledTo role (after_called Reliable (base role) body the_calls.Abort answer) (due_of (base role) body the_calls.Abort (Ok answer)) coming peer to_peer ledger
  aborting world role body answer coming peer to_peer ledger j sending stage h =
      let ab : Message = user_abort body.link.accepted 0 [] in
      let due : (if is_carrying body.link.stage then ab ∷ [] else []) ≡ ab ∷ [] = ap (λ s. if is_carrying s then ab ∷ [] else []) stage in
      let later : sent_all Reliable (over body) (if is_carrying body.link.stage then ab ∷ [] else []) ≡ over body = ap (sent_all Reliable (over body)) due in
      acting world role body (after_called Reliable (base role) body the_calls.Abort answer) (due_of (base role) body the_calls.Abort (Ok answer)) coming peer to_peer model_aborts ledger j
      (connections-act.aborts Reliable free (base role) proposed body answer tt stage h) (record { starts = λ rest. refl; encodes = refl })
      (subst (IsSoundBody Reliable (base role)) (sym later) (record { numbered = tt; calm = tt; sets = tt; queues = tt }))
      (subst (λ (y : Body). IsSending (base role) y.sending) (sym later) sending)
      (inr (ap (λ (y : Body). y.link.phase) later))
      (subst AreOwn (sym due) (tt, tt))

  same-numbered : (role : Role) (body later : Body) → IsSoundBody Reliable (base role) body → later.calls ≡ body.calls → IsSoundBody Reliable (base role) later
  same-numbered role body later sound c = record { numbered = subst AreNumberedCalls (sym c) sound.numbered; calm = tt; sets = tt; queues = tt }

  no-mark : (answer : Option ℤ) → Err refusals.NotNegotiated ≡ Ok answer → ⊥
  no-mark answer h = cc

  pub called-so : (world : World) (role : Role) (body : Body) (call : Call) (answer : Option ℤ) (coming : List Message) (peer : Body) (to_peer : List Message) (ledger : Ledger) → ReadsBack (base Initiator) → AreJoint world role body coming peer to_peer ledger → IsSoundBody Reliable (base role) body → IsSending (base role) body.sending → Live body → can_call (base role) body call ≡ Ok answer → CalledTo role (after_called Reliable (base role) body call answer) (due_of (base role) body call (Ok answer)) coming peer to_peer ledger
  called-so world role body (the_calls.Invoke context operation argument linked) None coming peer to_peer ledger back j sound sending live h =
      let x = invoke-in Reliable context operation argument linked free (base role) proposed body None tt (reads-at role back) sound h in
      absurd (none-apdu x.apdu x.of_call)
  called-so world role body (the_calls.Invoke context operation argument linked) (Some id) coming peer to_peer ledger back j sound sending live h =
      let x = invoke-in Reliable context operation argument linked free (base role) proposed body (Some id) tt (reads-at role back) sound h in
      handing-in world role body (the_calls.Invoke context operation argument linked) (Some id) coming peer to_peer ledger j sending live
      (invoke-link (base role) body context operation id linked (operation_at tables operation) argument)
      (invoke-due (base role) body context id linked (operation_at tables operation) argument) x
      (invoke-no_reject id linked argument (operation_at tables operation) x.apdu x.of_call)
  called-so world role body (the_calls.Answer id result) answer coming peer to_peer ledger back j sound sending live h =
      let x = answer-in Reliable id result free (base role) proposed body answer tt (reads-at role back) sound h in
      handing-in world role body (the_calls.Answer id result) answer coming peer to_peer ledger j sending live
      (outcome-link (base role) body id (opened_with false id body.calls.opens) (result_in (base role) body id result))
      (outcome-due (base role) body (opened_with false id body.calls.opens) (result_in (base role) body id result)) x
      (result-no_reject id result (operation_opened (base role) (opened_with false id body.calls.opens)) x.apdu x.of_call)
  called-so world role body (the_calls.Refuse id error parameter) answer coming peer to_peer ledger back j sound sending live h =
      let x = refuse-in Reliable id error parameter free (base role) proposed body answer tt (reads-at role back) sound h in
      handing-in world role body (the_calls.Refuse id error parameter) answer coming peer to_peer ledger j sending live
      (outcome-link (base role) body id (opened_with false id body.calls.opens) (error_for id parameter (error_at tables error)))
      (outcome-due (base role) body (opened_with false id body.calls.opens) (error_for id parameter (error_at tables error))) x
      (error-no_reject id parameter (error_at tables error) x.apdu x.of_call)
  called-so world role body (the_calls.Alter add delete) answer coming peer to_peer ledger back j sound sending live h =
      let later : Body = after_called Reliable (base role) body (the_calls.Alter add delete) answer in
      let few = (laws setup).alterations_few world j.ends.run role in
      let distinct : AreDistinct (named (seen (base role) body).sets.own) = subst (λ (x : states.State). AreDistinct (named x.sets.own)) j.ends.own.state few.1 in
      acting world role body later (due_of (base role) body (the_calls.Alter add delete) (Ok answer)) coming peer to_peer _ ledger j
      (alter-reliable_acts add delete free (base role) proposed body answer sound distinct h) (record { starts = λ rest. refl; encodes = refl })
      (same-numbered role body later sound refl) sending (inl (same-live body later live refl refl refl refl)) (tt, tt)
  called-so world role body the_calls.Mark answer coming peer to_peer ledger back j sound sending live h =
      absurd (no-mark answer (called (base role) body the_calls.Mark answer h).rows)
  called-so world role body the_calls.Give answer coming peer to_peer ledger back j sound sending live h =
      let later : Body = after_called Reliable (base role) body the_calls.Give answer in
      acting world role body later (due_of (base role) body the_calls.Give (Ok answer)) coming peer to_peer _ ledger j
      (give_all-acts free (base role) proposed body answer sound h) (record { starts = λ rest. refl; encodes = refl })
      (same-numbered role body later sound refl) sending (inl (same-live body later live refl refl refl refl)) (tt, tt)
  called-so world role body (the_calls.Please priority) answer coming peer to_peer ledger back j sound sending live h =
      acting world role body (after_called Reliable (base role) body (the_calls.Please priority) answer) (due_of (base role) body (the_calls.Please priority) (Ok answer)) coming peer to_peer _ ledger j
      (please_with-acts priority free (base role) proposed body answer sound h) (record { starts = λ rest. refl; encodes = refl })
      sound sending (inl live) (record { priority = priority; is_it = refl }, tt)
  called-so world role body (the_calls.Resync n) answer coming peer to_peer ledger back j sound sending live h =
      absurd (no-mark answer (called (base role) body (the_calls.Resync n) answer h).rows)
  called-so world role body the_calls.Interrupt answer coming peer to_peer ledger back j sound sending live h =
      let later : Body = after_called Reliable (base role) body the_calls.Interrupt answer in
      acting world role body later (due_of (base role) body the_calls.Interrupt (Ok answer)) coming peer to_peer _ ledger j
      (interrupt-acts free (base role) proposed body answer sound h) (record { starts = λ rest. refl; encodes = refl })
      (same-numbered role body later sound refl) sending (inl (same-live body later live refl refl refl refl)) (tt, tt)
  called-so world role body the_calls.Resume answer coming peer to_peer ledger back j sound sending live h =
      let later : Body = after_called Reliable (base role) body the_calls.Resume answer in
      acting world role body later (due_of (base role) body the_calls.Resume (Ok answer)) coming peer to_peer _ ledger j
      (resume-acts free (base role) proposed body answer sound h) (record { starts = λ rest. refl; encodes = refl })
      (same-numbered role body later sound refl) (kept-current (base role) resumed body.sending (resumed-current (base role)) sending)
      (inl (same-live body later live refl refl refl refl)) (tt, tt)
  called-so world role body the_calls.Discard answer coming peer to_peer ledger back j sound sending live h =
      let later : Body = after_called Reliable (base role) body the_calls.Discard answer in
      acting world role body later (due_of (base role) body the_calls.Discard (Ok answer)) coming peer to_peer _ ledger j
      (discard-acts free (base role) proposed body answer sound h) (record { starts = λ rest. refl; encodes = refl })
      (same-numbered role body later sound refl) (kept-current (base role) (λ t. record t { confirmed = 0 }) body.sending (λ t k. with-confirmed (base role) 0 t k) sending)
      (inl (same-live body later live refl refl refl refl)) (tt, tt)
  called-so world role body the_calls.Release answer coming peer to_peer ledger back j sound sending live h =
      let later : Body = after_called Reliable (base role) body the_calls.Release answer in
      acting world role body later (due_of (base role) body the_calls.Release (Ok answer)) coming peer to_peer _ ledger j
      (release_in_turn-acts free (base role) proposed body answer sound h) (record { starts = λ rest. refl; encodes = refl })
      (same-numbered role body later sound refl) sending
      (inl (record { joined = record { stage = live.joined.stage; selected = live.joined.selected; manages = live.joined.manages }; phase = inr refl })) (refl, tt)
  called-so world role body the_calls.Open answer coming peer to_peer ledger back j sound sending live h =
      absurd (not-idle body live (called (base role) body the_calls.Open answer h).in_phase)
  called-so world role body the_calls.Recover answer coming peer to_peer ledger back j sound sending live h =
      absurd (not-broken body live (called (base role) body the_calls.Recover answer h).in_phase)
  called-so world role body the_calls.Abort answer coming peer to_peer ledger back j sound sending live h =
      aborting world role body answer coming peer to_peer ledger j sending live.joined.stage h

  -- ---- what it does by itself

  pub record OwnTo (role : Role) (body : Body) (own : OwnAct) (coming : List Message) (peer : Body) (to_peer : List Message) (ledger : Ledger) : Type 0 where
    pub world : World
    pub ends : AreJoint world role (after_step (base role) body (step_of own)) coming peer (to_peer ++ own_messages own) (after_own (taking.common free tables spellings a b) role body own ledger)
    pub sound : IsSoundBody Reliable (base role) (after_step (base role) body (step_of own))
    pub sending : IsSending (base role) (after_step (base role) body (step_of own)).sending
    pub live : Live (after_step (base role) body (step_of own))
    pub words : AreOwn (own_messages own)

  pub own-so : (world : World) (role : Role) (body : Body) (own : OwnAct) (coming : List Message) (peer : Body) (to_peer : List Message) (ledger : Ledger) → SpellsTransfers (base Initiator) → Carries free (base Initiator) → AreJoint world role body coming peer to_peer ledger → IsSoundBody Reliable (base role) body → IsSending (base role) body.sending → Live body → next_own (base role) body ≡ Some own → EncodesInPlace (base role) body own → OwnTo role body own coming peer to_peer ledger
  own-so world role body own coming peer to_peer ledger spells carries j sound sending live h placed =
      let x = own-rows.acts free (base role) proposed body own (spells-at role spells) (carries-at role carries) sending h placed in
      let l : Leaves (base role) body own = leaves (base role) body own h in
      let later : Body = after_step (base role) body (step_of own) in
      record {
        world = By role (Acts x.act) ∷ world;
        ends =
            ledgers.acts-joint free tables spellings a b world role body later coming peer to_peer (own_messages own) x.act (started_by body own) (encoded_by body ledger.shared.set own) ledger j x.acts
            (record { starts = x.starts; encodes = x.encodes ledger.shared.set })
            (items-for role (started_by body own) (started-good (base role) body own sending)) (encodings-for role (encoded_by body ledger.shared.set own) (encoded-good (base role) body ledger.shared.set own sending));
        sound = same-numbered role body later sound l.calls;
        sending = x.sending;
        live = same-live body later live (ap (λ (y : Link). y.stage) l.link) (ap (λ (y : Link). y.selected) l.link) (ap (λ (y : Link). y.manages) l.link) (ap (λ (y : Link). y.phase) l.link);
        words = l.words;
      }
