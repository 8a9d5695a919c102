-- In reliable mode the responder started nothing and was handed up nothing before its association stood; so that an acceptance that
-- recovers nothing forgets nothing.
use Rattle.std.proofs.Common.{◌≡◌, refl, true, false, ◌∙◌, sym, ap, subst, ℕ, List, [], ◌∷◌, inl, inr, ◌⊎◌}
use Rattle.std.specs.Prelude.{ℤ, Bool, ◌&&◌, ◌||◌, Option, Some, None, Ok, if◌then◌else◌}
use Rattle.asn1_types.specs.declared.value.Val.{Val}
use Rattle.osi_base.specs.declared.layer_words.Answers.{Answers}
use Rattle.osi_base.specs.declared.session_word.SessionConnect.{SessionConnect}
use Rattle.osi_base.specs.declared.presentation_word.PresentationConnect.{PresentationConnect}
use Rattle.stub_tables.specs.declared.tables.Tables.{Tables}
use Rattle.stub_tables.specs.declared.apdu.Apdu.{Apdu}
use Rattle.stub_tables.specs.declared.operation.Operation.{Operation}
use Rattle.stub_tables.specs.Lookup.{operation_at, error_at}
use Rattle.dialogue.specs.declared.config.Config.{Config}
use Rattle.dialogue.specs.declared.config.Mode.TheVariants.{Reliable}
use Rattle.dialogue.specs.declared.config.Phase.TheVariants as phases
use Rattle.dialogue.specs.declared.call.Call.{Call}
use Rattle.dialogue.specs.declared.call.Call.TheVariants as the_calls
use Rattle.dialogue.specs.declared.indication.Indication.{Indication}
use Rattle.end_rules.specs.Base.{Base, Spellings, Fault, HeardHead}
use Rattle.end_rules.specs.Sets.{Alteration}
use Rattle.end_rules.specs.Messages.{Message, Transport, Session, DataValue, Word, OfAssociation, OfData, OfMarks, OfActivities, TransportUnit, ConnectionRequest, ConnectionConfirm, DisconnectRequest, TransportError}
use Rattle.end_rules.specs.Messages.{Connect, Accept, Refuse, Finish, Disconnect, Abort, AbortAccept, Values, AlterContext, AlterContextAck, Mark, Give, Start, End, unit_of}
use Rattle.end_rules.specs.State.{Body, OpenCall, Queued, Octets, opened_with, is_up, is_broken, passes_over}
use Rattle.end_rules.specs.Faults.{transport_fault}
use Rattle.end_rules.specs.Writing.{connect_values}
use Rattle.end_rules.specs.Connecting.{is_refused, recovers_in, refused_connect, accepted_connect}
use Rattle.end_rules.specs.Hearing.{Rejecting, hear, with_reject, take_head, head_of, take_values}
use Rattle.end_rules.specs.Calling.{can_call}
use Rattle.end_rules.specs.Requesting.{after_accepted, after_sent, after_call, after_invoke, after_outcome, result_in, error_for, due_of}
use Rattle.end_rules.specs.ByItself.{OwnAct, SendsNow, EncodesOn}
use Rattle.end_rules.specs.Purging.{is_transport_purged}
use Rattle.end_rules.specs.TakesTransport.{after_transport, transport_unit_fault, may_request, is_waiting, is_size}
use Rattle.end_rules.specs.TakesData.{part_in, with_parts, settled}
use Rattle.end_rules.specs.TakesActivities.{received, handed_up}
use Rattle.end_rules.specs.InPlace.{is_in_place}
use Rattle.end_rules.specs.Reacting.{Passes, Takes, Fails, react, on_transport, after_word}
use Rattle.end_rules.specs.History.{after_step, step_of, after_taken}
use Rattle.agreement.specs.Sets.{Role}
use Rattle.agreement.specs.Sets.Role.{Initiator, Responder}
use Rattle.end_model.specs.Seen.{Free}
use Rattle.end_model.specs.Requests.{sent_all, after_called}
use Rattle.end_model.specs.BothEnds.{Common, base_at, Two, body_at, coming_to}
use Rattle.end_model.proofs.Ladder.{called}
use Rattle.reliable_model.specs.Ledgers.{Ledger, ReachedWithLedger, begins, calls, acts, takes, passes, fails, breaks, items_by, arrived_by}
use Rattle.reliable_model.specs.ReliableEnds.{reliable_common}
use Rattle.reliable_model.proofs.FirmSteps.{in-place}
use Rattle.reliable_model.proofs.OnWay.{took-word}
use Rattle.reliable_model.proofs.Words.{AreOwn, Side, Stands, IsOver}
use Rattle.reliable_model.proofs.Opening.{Way, First, Again}
use Rattle.reliable_model.proofs.Phases.{OnlyAborts, own-up}
use Rattle.reliable_model.proofs.Machine as machine
use Rattle.reliable_model.proofs.Machine.{LeftIdle, LeftJoined, LeftBroken, Resting, Calling, Confirming, Connecting, Accepting, Refusing, Deaf, Gone, Standing}
use Rattle.said_words.proofs.TransferEnds.{is_early}
use Rattle.association_runs.proofs.Reactions.{taken-leaves}
use Rattle.run_lemmas.proofs.Tests.{clash, and-left, and-right, no-fault-so}
use Rattle.run_lemmas.proofs.Phases.{up-late, idle-early, refused-late, was-early, broken-early}

-- ---- before an association stands

-- where an end is that early, it was so before
abbrev pub Before : Body → Body → Type 0
Before body later = is_early later.link.phase ≡ true → is_early body.link.phase ≡ true

sent-before : (body : Body) (m : Message) → Before body (after_sent Reliable body m)
sent-before body (Transport (ConnectionRequest source size calling other_)) h = h
sent-before body (Transport unit) h = h
sent-before body (Session (OfAssociation (Finish transport values))) h = absurd (clash false h refl)
sent-before body (Session (OfAssociation word)) h = h
sent-before body (Session (OfData (Values values))) h = h
sent-before body (Session (OfData word)) h = h
sent-before body (Session (OfMarks (Mark number))) h = h
sent-before body (Session (OfMarks word)) h = h
sent-before body (Session (OfActivities (Start activity))) h = h
sent-before body (Session (OfActivities word)) h = h

sents-before : (body : Body) (ms : List Message) → Before body (sent_all Reliable body ms)
sents-before body [] h = h
sents-before body (m ∷ ms) h = sent-before body m (sents-before (after_sent Reliable body m) ms h)

settled-before : (own : List Alteration) (answers : Answers) (body : Body) → Before body (settled own answers body)
settled-before [] answers body h = h
settled-before (a ∷ own) answers body h = h

parts-before : (values : List DataValue) (body : Body) → Before body (with_parts values body)
parts-before [] body h = h
parts-before (value ∷ values) body h = parts-before values (record body { receiving = record body.receiving { pieces = Octets (part_in value.content) ∷ body.receiving.pieces } }) h

items-same : (refused recovers : Bool) → ◌≡◌ {A = List Queued} (if refused || recovers then [] else []) []
items-same true recovers = refl
items-same false true = refl
items-same false false = refl

numbers-same : (refused recovers : Bool) → ◌≡◌ {A = List ℕ} (if refused || recovers then [] else []) []
numbers-same true recovers = refl
numbers-same false true = refl
numbers-same false false = refl

module _ (free : Free) (tables : Tables) (spellings : Spellings) (a b : Config) where
  abbrev common : Common
  common = reliable_common tables spellings a b

  abbrev base : Base
  base = base_at Responder common

  -- ---- calls

  invoke-before : (body : Body) (context place : ℕ) (id : ℤ) (linked : Option ℤ) (o : Option Operation) (argument : Option Val) → Before body (after_invoke base body context place id linked o argument)
  invoke-before body context place id linked None argument h = h
  invoke-before body context place id linked (Some row) argument h = h

  outcome-before : (body : Body) (id : ℤ) (o : Option OpenCall) (x : Option Apdu) → Before body (after_outcome base body id o x)
  outcome-before body id None None h = h
  outcome-before body id None (Some apdu) h = h
  outcome-before body id (Some o) None h = h
  outcome-before body id (Some o) (Some apdu) h = h

  accepted-before : (body : Body) (call : Call) (answer : Option ℤ) → can_call base body call ≡ Ok answer → Before body (after_accepted base body call answer)
  accepted-before body the_calls.Open answer can h = idle-early body.link.phase (called base body the_calls.Open answer can).in_phase
  accepted-before body (the_calls.Invoke context operation argument linked) None can h = h
  accepted-before body (the_calls.Invoke context operation argument linked) (Some id) can h = invoke-before body context operation id linked (operation_at base.tables operation) argument h
  accepted-before body (the_calls.Answer id result) answer can h = outcome-before body id (opened_with false id body.calls.opens) (result_in base body id result) h
  accepted-before body (the_calls.Refuse id error parameter) answer can h = outcome-before body id (opened_with false id body.calls.opens) (error_for id parameter (error_at base.tables error)) h
  accepted-before body the_calls.Recover answer can h = absurd (clash false h refl)
  accepted-before body the_calls.Abort answer can h = absurd (clash false h refl)
  accepted-before body _ answer can h = h

  pub call-before : (body : Body) (call : Call) (answer : Option ℤ) → can_call base body call ≡ Ok answer → Before body (after_called Reliable base body call answer)
  call-before body call answer can h = accepted-before body call answer can (sents-before (after_call base body call (Ok answer)) (due_of base body call (Ok answer)) h)

  -- ---- takings

  reject-before : (body : Body) (context : ℕ) (r : Option Rejecting) → Before body (with_reject base body context r).body
  reject-before body context None h = h
  reject-before body context (Some r) h = h

  head-before : (body : Body) (context : ℕ) (head : HeardHead) → Before body (take_head base body context head).body
  head-before body context head h = reject-before (record body { calls = (hear base body.calls context head).calls }) context (hear base body.calls context head).reject h

  values-before : (values : List DataValue) (body : Body) → Before body (take_values base body values).body
  values-before [] body h = h
  values-before (value ∷ values) body h = head-before body value.id (head_of base value) (values-before values (take_head base body value.id (head_of base value)).body h)

  connect-before : (body : Body) (session : SessionConnect) (presentation : PresentationConnect) (values : List DataValue) (r : Bool) → Before body (if r then refused_connect body else accepted_connect base body session presentation values)
  connect-before body session presentation values true h = absurd (clash (is_early (if is_broken body.link.phase then phases.Broken else phases.Over)) h (refused-late (is_broken body.link.phase)))
  connect-before body session presentation values false h = absurd (clash false h refl)

  word-before : (body : Body) (word : Word) → Before body (after_word base body word)
  word-before body (OfAssociation (Connect session presentation values)) h = connect-before body session presentation values (is_refused base body session presentation values) h
  word-before body (OfAssociation (Accept session presentation values)) h = absurd (clash false h refl)
  word-before body (OfAssociation (Refuse transport reason presentation values)) h = absurd (clash false h refl)
  word-before body (OfAssociation (Finish transport values)) h = absurd (clash false h refl)
  word-before body (OfAssociation (Disconnect values)) h = absurd (clash false h refl)
  word-before body (OfAssociation (Abort transport user)) h = absurd (clash false h refl)
  word-before body (OfAssociation AbortAccept) h = absurd (clash false h refl)
  word-before body (OfData (Values values)) h = parts-before values body h
  word-before body (OfData (AlterContext add delete)) h = h
  word-before body (OfData (AlterContextAck answers)) h = settled-before body.sets.own answers body h
  word-before body (OfMarks (Give None)) h = h
  word-before body (OfMarks (Give (Some tokens))) h = h
  word-before body (OfMarks word) h = h
  word-before body (OfActivities (End number)) h = values-before (handed_up base body) (received (λ r. record r { was_handed = true; active = false }) body) h
  word-before body (OfActivities word) h = h

  unit-fine : (body : Body) (unit : TransportUnit) (later : Body) (answers : List Message) (shown : List Indication) → react base body (Transport unit) ≡ Takes later answers shown → transport_unit_fault base body unit ≡ None
  unit-fine body unit later answers shown h = go (passes_over body.link.phase) (is_transport_purged body.link.awaits) (transport_unit_fault base body unit) refl h
    where
      go : (p q : Bool) (f : Option Fault) → transport_unit_fault base body unit ≡ f → (if p then Passes else (if q then Passes else on_transport base body unit f)) ≡ Takes later answers shown → transport_unit_fault base body unit ≡ None
      go true q f g h = absurd cc
      go false true f g h = absurd cc
      go false false (Some fault) g h = absurd cc
      go false false None g h = g

  unit-before : (body : Body) (unit : TransportUnit) → transport_unit_fault base body unit ≡ None → Before body (after_transport base body unit)
  unit-before body (ConnectionRequest source size calling other_) fine h =
      let may : may_request base body ≡ true = no-fault-so (may_request base body) transport_fault fine in
      was-early body.link.phase (is_size size) (and-right _ (is_waiting body.link.phase) may) h
  unit-before body (ConnectionConfirm destination size) fine h = h
  unit-before body (DisconnectRequest destination) fine h = absurd (clash false h refl)
  unit-before body TransportError fine h = h

  pub took-before : (body : Body) (message : Message) (later : Body) (answers : List Message) (shown : List Indication) → react base body message ≡ Takes later answers shown → Before body later
  took-before body message later answers shown r h = go message r (ap (λ (x : Body). is_early x.link.phase) (sym (taken-leaves base body message later answers shown r)) ∙ h)
    where
      go : (message : Message) → react base body message ≡ Takes later answers shown → is_early (after_taken base body message).link.phase ≡ true → is_early body.link.phase ≡ true
      go (Transport unit) r h = unit-before body unit (unit-fine body unit later answers shown r) h
      go (Session word) r h = word-before body word h

  -- an end that isn't up takes no end of an activity
  pub no-end : (body : Body) (number : ℕ) (later : Body) (answers : List Message) (shown : List Indication) → react base body (Session (OfActivities (End number))) ≡ Takes later answers shown → is_early body.link.phase ≡ true → ⊥
  no-end body number later answers shown r h =
      let t = took-word base body (OfActivities (End number)) later answers shown r in
      let p : is_in_place base body (unit_of (OfActivities (End number))) ≡ true = in-place base body (OfActivities (End number)) t.fine in
      clash (is_early body.link.phase) h (up-late body.link.phase (and-left (is_up body.link.phase) body.receiving.active (and-left (is_up body.link.phase && body.receiving.active) _ p)))

  items-none : (body : Body) (message : Message) → items_by base body message [] ≡ []
  items-none body (Session (OfAssociation (Connect session presentation values))) = items-same (is_refused base body session presentation values) (recovers_in base values)
  items-none body _ = refl

  arrived-none : (body : Body) (message : Message) (later : Body) (answers : List Message) (shown : List Indication) → react base body message ≡ Takes later answers shown → is_early body.link.phase ≡ true → arrived_by base body message [] ≡ []
  arrived-none body (Session (OfAssociation (Connect session presentation values))) later answers shown r h = numbers-same (is_refused base body session presentation values) (recovers_in base values)
  arrived-none body (Session (OfActivities (End number))) later answers shown r h = absurd (no-end body number later answers shown r h)
  arrived-none body _ later answers shown r h = refl

  -- ---- all that is reached

  abbrev pub Nothing : Two → Ledger → Type 0
  Nothing two ledger = is_early two.b.link.phase ≡ true → (ledger.transfer_logs.b.started ≡ []) × (ledger.transfer_logs.b.arrived ≡ [])

  abbrev pub NeverFails : Type 0
  NeverFails =
      (two : Two) (ledger : Ledger) → ReachedWithLedger common two ledger → (role : Role) (message : Message) (left : List Message) (fault : Fault) (body : Body) (aborts : List Message) (shown : List Indication) →
      coming_to role two ≡ message ∷ left → react (base_at role common) (body_at role two) message ≡ Fails fault body aborts shown → ⊥

  pub own-before : (body : Body) (own : OwnAct) → Before body (after_step base body (step_of own))
  own-before body (SendsNow message) h = sent-before body message h
  own-before body (EncodesOn context) h = h

  pub nothing : NeverFails → (two : Two) (ledger : Ledger) → ReachedWithLedger common two ledger → Nothing two ledger
  nothing f two ledger begins = λ h. (refl, refl)
  nothing f two ledger (calls x l Initiator call answer g c) = λ h. nothing f x l g h
  nothing f two ledger (calls x l Responder call answer g c) = λ h. nothing f x l g (call-before x.b call answer c h)
  nothing f two ledger (acts x l Initiator own g c) = λ h. nothing f x l g h
  nothing f two ledger (acts x l Responder own g c) = λ h. absurd (clash (is_early x.b.link.phase) (own-before x.b own h) (ap is_early (own-up base x.b own c)))
  nothing f two ledger (takes x l Initiator message left body answers shown g e r) = λ h. nothing f x l g h
  nothing f two ledger (takes x l Responder message left body answers shown g e r) = λ h.
      let early : is_early x.b.link.phase ≡ true = took-before x.b message body answers shown r h in
      let n = nothing f x l g early in
      (ap (items_by base x.b message) n.0 ∙ items-none x.b message, ap (arrived_by base x.b message) n.1 ∙ arrived-none x.b message body answers shown r early)
  nothing f two ledger (passes x l Initiator message left g e r) = λ h. nothing f x l g h
  nothing f two ledger (passes x l Responder message left g e r) = λ h. nothing f x l g h
  nothing f two ledger (fails x l role message left fault body aborts shown g e r) = λ h. absurd (f x l g role message left fault body aborts shown e r)
  nothing f two ledger (breaks x l g) = λ h. nothing f x l g (broken-early Reliable x.b.link.phase h)

  -- ---- an opening that is taken

  -- it is refused, or recovers; or no association stood
  abbrev pub Opens : Two → SessionConnect → PresentationConnect → List DataValue → Type 0
  Opens two session presentation values = ((is_refused base two.b session presentation values || recovers_in base values) ≡ true) ⊎ (is_early two.b.link.phase ≡ true)

  or-true : (p q : Bool) → q ≡ true → (p || q) ≡ true
  or-true true q e = refl
  or-true false q e = e

  recovers-again : recovers_in base (connect_values (base_at Initiator common) true) ≡ true
  recovers-again = refl

  abbrev opening : SessionConnect → PresentationConnect → List DataValue → Message
  opening session presentation values = Session (OfAssociation (Connect session presentation values))

  module _ (two : Two) (session : SessionConnect) (presentation : PresentationConnect) (values : List DataValue) (left : List Message) (body : Body) (answers : List Message) (shown : List Indication) where
    none : two.to_b ≡ opening session presentation values ∷ left → two.to_b ≡ [] → ⊥
    none e n = let same : [] ≡ opening session presentation values ∷ left = sym n ∙ e in cc

    a_unit : (unit : TransportUnit) (more : List Message) → two.to_b ≡ opening session presentation values ∷ left → two.to_b ≡ Transport unit ∷ more → ⊥
    a_unit unit more e n = let same : Transport unit ∷ more ≡ opening session presentation values ∷ left = sym n ∙ e in cc

    over : two.b.link.phase ≡ phases.Over → react base two.b (opening session presentation values) ≡ Takes body answers shown → ⊥
    over q r = let no_take : Passes ≡ Takes body answers shown = sym (machine.over-passes free tables spellings a b Responder two.b (opening session presentation values) q) ∙ r in cc

    -- the opening of this way
    by-way : (way : Way) (more : List Message) → two.to_b ≡ opening session presentation values ∷ left → two.to_b ≡ machine.cn free tables spellings a b way ∷ more → (way ≡ First → is_early two.b.link.phase ≡ true) → Opens two session presentation values
    by-way First more e n early = inr (early refl)
    by-way Again more e n early =
        let same : machine.cn free tables spellings a b Again ∷ more ≡ opening session presentation values ∷ left = sym n ∙ e in
        let v : connect_values (base_at Initiator common) true ≡ values = cc in
        inl (or-true (is_refused base two.b session presentation values) (recovers_in base values) (ap (recovers_in base) (sym v) ∙ recovers-again))

    by-side : two.to_b ≡ opening session presentation values ∷ left → react base two.b (opening session presentation values) ≡ Takes body answers shown → Side two.b two.to_b → Opens two session presentation values
    by-side e r (Stands live own) = absurd (subst AreOwn e own).0
    by-side e r (IsOver q) = absurd (over q r)

    by-left : two.to_b ≡ opening session presentation values ∷ left → machine.Left free tables spellings a b two.b two.to_b → Opens two session presentation values
    by-left e (LeftIdle way q (inl n)) = absurd (none e n)
    by-left e (LeftIdle way q (inr n)) = absurd (a_unit _ [] e n)
    by-left e (LeftJoined way q (inl n)) = absurd (none e n)
    by-left e (LeftJoined First q (inr n)) = by-way First n.0 e n.1 (λ w. ap is_early q.phase_is)
    by-left e (LeftJoined Again q (inr n)) = by-way Again n.0 e n.1 (λ w. absurd cc)
    by-left e (LeftBroken q own) = absurd (subst OnlyAborts e own)

    connecting : two.to_b ≡ opening session presentation values ∷ left → react base two.b (opening session presentation values) ≡ Takes body answers shown → machine.Opened free tables spellings a b two.a two.b two.to_a two.to_b → Opens two session presentation values
    connecting e r (Resting way p q c n) = absurd (none e n)
    connecting e r (Calling way p q c n) = absurd (a_unit _ [] e n)
    connecting e r (Confirming way p q c n) = absurd (none e n)
    connecting e r (Connecting First p q c n) = by-way First [] e n (λ w. ap is_early q.phase_is)
    connecting e r (Connecting Again p q c n) = by-way Again [] e n (λ w. absurd cc)
    connecting e r (Accepting way p word accept more c own s) = by-side e r s
    connecting e r (Refusing way p (inl q) word refusal c) = absurd (over q r)
    connecting e r (Refusing way p (inr q) word refusal c) = absurd (none e q.1)
    connecting e r (Deaf way q d) = absurd (over q r)
    connecting e r (Gone p l) = by-left e l
    connecting e r (Standing s t) = by-side e r t

    pub opening-keeps : {ledger : Ledger} → machine.Kept free tables spellings a b two ledger → two.to_b ≡ opening session presentation values ∷ left → react base two.b (opening session presentation values) ≡ Takes body answers shown → Opens two session presentation values
    opening-keeps k e r = connecting e r k.opened

  -- an initiator takes none
  pub no-opening : (two : Two) (session : SessionConnect) (presentation : PresentationConnect) (values : List DataValue) (body : Body) (answers : List Message) (shown : List Indication) → react (base_at Initiator common) two.a (opening session presentation values) ≡ Takes body answers shown → ⊥
  no-opening two session presentation values body answers shown r =
      let t = took-word (base_at Initiator common) two.a (OfAssociation (Connect session presentation values)) body answers shown r in
      let p : is_in_place (base_at Initiator common) two.a (unit_of (OfAssociation (Connect session presentation values))) ≡ true = in-place (base_at Initiator common) two.a (OfAssociation (Connect session presentation values)) t.fine in
      cc
