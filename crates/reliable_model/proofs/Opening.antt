-- Two ends of reliable mode: the transport connection, the opening and the recovery, and their refusals.
use Rattle.std.proofs.Common.{◌≡◌, refl, true, false, ◌∙◌, sym, ap, subst, arith, ℕ, ◌≤◌, List, [], ◌∷◌, ◌++◌, map, ◌⊎◌, inl}
use Rattle.std.specs.Prelude.{Bool, not, ◌&&◌, ◌||◌, min, Option, Some, None, is_some, nat_eq, unwrap_or, if◌then◌else◌}
use Rattle.std.proofs.lemmas.Bool.Decides.{nat_tests}
use Rattle.osi_base.specs.declared.layer_words.Proposal.{Proposal}
use Rattle.osi_base.specs.declared.layer_words.SetItem.{SetItem}
use Rattle.osi_base.specs.declared.session_word.SessionConnect.{SessionConnect}
use Rattle.osi_base.specs.declared.presentation_word.PresentationConnect.{PresentationConnect}
use Rattle.osi_base.specs.declared.presentation_word.PresentationAccept.{PresentationAccept}
use Rattle.osi_base.specs.declared.presentation_word.PresentationReject.{PresentationReject}
use Rattle.stub_tables.specs.declared.tables.Tables.{Tables}
use Rattle.end_model.specs.dialogue.declared.config.Config.{Config}
use Rattle.end_model.specs.dialogue.declared.config.Mode.TheVariants.{Reliable}
use Rattle.end_model.specs.dialogue.declared.config.Phase.{Phase}
use Rattle.end_model.specs.dialogue.declared.config.Phase.TheVariants.{Idle, Opening, Broken, Recovering, Over}
use Rattle.end_model.specs.dialogue.declared.indication.Indication.{Indication}
use Rattle.end_model.specs.end_rules.Base.{Base, Spellings, Fault}
use Rattle.end_model.specs.end_rules.Messages.{TransportUnit, ConnectionRequest, ConnectionConfirm, DataValue, AbortData, Word, OfAssociation}
use Rattle.end_model.specs.end_rules.Messages.{Connect, Accept, Refuse, Abort, Accepting, Message, Transport, Session, unit_of}
use Rattle.end_model.specs.end_rules.State.{Body, Stage, Unused, Asked, Joined, Carrying, passes_over, is_joined}
use Rattle.end_model.specs.end_rules.State.{is_carrying, is_unused, is_asked, is_broken}
use Rattle.end_model.specs.end_rules.Sets.{fit_proposals, lowest_with, has_abstract}
use Rattle.osi_base.specs.SetPlaces.{pair_of}
use Rattle.osi_base.specs.Syntax.{rtse_name}
use Rattle.end_model.specs.end_rules.Units.{selected_with, proposed_units, needed_units, has_units, has_version_two, manages_with}
use Rattle.end_model.specs.end_rules.World.{Shared}
use Rattle.end_model.specs.end_rules.Altering.{has_double}
use Rattle.end_model.specs.end_rules.Faults.{transport_fault, invalid_ppdu, acse_fault, rtse_fault, fault_if, or_fault}
use Rattle.end_model.specs.end_rules.Purging.{is_purged, is_transport_purged}
use Rattle.end_model.specs.end_rules.InPlace.{is_opening}
use Rattle.end_model.specs.end_rules.Writing.{session_connect, presentation_connect, connect_values, connect_message, connection_request}
use Rattle.end_model.specs.end_rules.Policy.{opening_policy}
use Rattle.end_model.specs.end_rules.Writing.{is_recovering, provider_refusal, refuse_message, rtse_context, connection_data, proposals}
use Rattle.end_model.specs.end_rules.Connecting.{the_one, user_of, context_named, has_acse, has_rtse, set_for, results_for}
use Rattle.end_model.specs.end_rules.Connecting.{information_fault, is_on_rtse, is_open_request, session_refuses}
use Rattle.end_model.specs.end_rules.Connecting.{presentation_refuses, lacks_request, transfer_rejection, has_association, rejecting_information}
use Rattle.end_model.specs.end_rules.Connecting.{is_refused, accept_fault, accepted_connect, refused_connect, refusal_message, acceptance_message}
use Rattle.end_model.specs.end_rules.TakesTransport.{is_waiting, transport_unit_fault, after_transport, phase_asked}
use Rattle.end_model.specs.end_rules.Reacting.{Passes, Takes, react, react_to_transport, react_to_word, on_transport, fails, on_word}
use Rattle.end_model.specs.end_rules.Reacting.{word_fault, after_word, answers_to_word, shown_of_word}
use Rattle.agreement.specs.Sets.{Role, IsRising}
use Rattle.agreement.specs.Sets.Role.{Initiator, Responder}
use Rattle.agreement.specs.Messages as model
use Rattle.agreement.specs.Messages.Message.{Connect as model_connect, Recover as model_recover}
use Rattle.agreement.specs.Messages.Message.{Refuse as model_refuse, UserAbort as model_abort}
use Rattle.agreement.specs.Messages.Choice.{Nothing, Accepting as accepting, Refusing}
use Rattle.agreement.specs.Messages.Act.{Connects, Recovers}
use Rattle.agreement.specs.State as states
use Rattle.agreement.specs.State.Phase.{Idle as model_idle, Opening as model_opening, Broken as model_broken}
use Rattle.agreement.specs.State.Phase.{Recovering as model_recovering, Over as model_over}
use Rattle.agreement.specs.Takings.{IsChoice, is_purged as model_purged}
use Rattle.agreement.specs.Worlds as worlds
use Rattle.agreement.specs.Worlds.{World, shared_at}
use Rattle.agreement.specs.Worlds.Step.{Acts, Takes as model_takes}
use Rattle.agreement.specs.Worlds.Moment.{By}
use Rattle.end_model.specs.Seen.{Free, phase_seen, awaited_seen, set_seen, queued_seen, seen}
use Rattle.end_model.specs.OpenInvocations.{AreNumberedCalls}
use Rattle.end_model.specs.Words.{Means}
use Rattle.end_model.specs.Acting.{IsSoundBody, TakenAs}
use Rattle.end_model.proofs.Takes.{fine}
use Rattle.end_model.proofs.Fitting.{additions-answered}
use Rattle.end_model.proofs.Openings.{openings-taken}
use Rattle.end_model.proofs.Connecting.{connections-act}
use Rattle.end_model.proofs.Machine.{takes-kept}
use Rattle.end_model.proofs.DirectOpening.{At, known-set, rising-set}
use Rattle.reliable_model.specs.Transferring.{IsSending}
use Rattle.reliable_model.specs.Ledgers.{Ledger, anew as arrived_anew, items_anew, after_sending, after_taking}
use Rattle.reliable_model.specs.ReliableEnds.{IsFit}
use Rattle.reliable_model.proofs.Ledgers as ledgers
use Rattle.reliable_model.proofs.Ledgers.{Same}
use Rattle.reliable_model.proofs.Words.{Live}
use Rattle.reliable_model.proofs.Contexts.{on-three, lowest-has}
use Rattle.reliable_model.proofs.Taking as taking

-- ---- the first connection, and those that recover

pub data Way : Type 0 where
  First : Way
  Again : Way

-- the phase in which both ends rest, in which the initiator asks, and in which the responder waits for the CN
abbrev pub rests : Way → Phase
rests First = Idle
rests Again = Broken

abbrev pub asks : Way → Phase
asks First = Opening
asks Again = Recovering

abbrev pub joins : Way → Phase
joins First = Opening
joins Again = Broken

abbrev pub recovers : Way → Bool
recovers First = false
recovers Again = true

abbrev meant_by : Way → model.Message
meant_by First = model_connect
meant_by Again = model_recover

rests-alive : (way : Way) → passes_over (rests way) ≡ false
rests-alive First = refl
rests-alive Again = refl

rests-waiting : (way : Way) → is_waiting (rests way) ≡ true
rests-waiting First = refl
rests-waiting Again = refl

asks-alive : (way : Way) → passes_over (asks way) ≡ false
asks-alive First = refl
asks-alive Again = refl

joins-alive : (way : Way) → passes_over (joins way) ≡ false
joins-alive First = refl
joins-alive Again = refl

rests-asked : (way : Way) → phase_asked (rests way) true ≡ joins way
rests-asked First = refl
rests-asked Again = refl

joins-seen : (way : Way) → phase_seen Joined (joins way) ≡ phase_seen Unused (rests way)
joins-seen First = refl
joins-seen Again = refl

asks-recovers : (way : Way) → is_recovering (asks way) ≡ recovers way
asks-recovers First = refl
asks-recovers Again = refl

asks-opening : (way : Way) → is_opening (asks way) ≡ true
asks-opening First = refl
asks-opening Again = refl

-- the model's ends that wait aren't over
joined-not_over : (way : Way) → phase_seen Joined (joins way) ≡ model_over → ⊥
joined-not_over First h = go h
  where
    go : model_idle ≡ model_over → ⊥
    go h = cc
joined-not_over Again h = go h
  where
    go : model_broken ≡ model_over → ⊥
    go h = cc

carrying-not_over : (way : Way) → phase_seen Carrying (asks way) ≡ model_over → ⊥
carrying-not_over First h = go h
  where
    go : model_opening ≡ model_over → ⊥
    go h = cc
carrying-not_over Again h = go h
  where
    go : model_recovering ≡ model_over → ⊥
    go h = cc

broken-not_over : phase_seen Carrying Broken ≡ model_over → ⊥
broken-not_over h = go h
  where
    go : model_broken ≡ model_over → ⊥
    go h = cc

-- ---- what an end does with a word before its association stands

reacts-before : (phase : Phase) (stage : Stage) (base : Base) (body : Body) (word : Word) → passes_over phase ≡ false → (is_joined stage || is_carrying stage) ≡ true → At phase stage body → word_fault (record base { mode = Reliable }) body word ≡ None → react (record base { mode = Reliable }) body (Session word) ≡ Takes (after_word (record base { mode = Reliable }) body word) (answers_to_word (record base { mode = Reliable }) body word) (shown_of_word (record base { mode = Reliable }) body word)
reacts-before phase stage base body word alive there at none =
    let b : Base = record base { mode = Reliable } in
    let e : passes_over body.link.phase ≡ false = ap passes_over at.phase_is ∙ alive in
    let s : (is_joined body.link.stage || is_carrying body.link.stage) ≡ true = ap (λ x. is_joined x || is_carrying x) at.stage_is ∙ there in
    let kept : is_purged base.initiator body.link.awaits (unit_of word) ≡ false = ap (λ w. is_purged base.initiator w (unit_of word)) at.calm in
    ap (λ p. if p then Passes else react_to_word b body word) e ∙
    ap (λ p. if not p then fails body body.link.accepted transport_fault else (if is_purged base.initiator body.link.awaits (unit_of word) then Passes else on_word b body word (word_fault b body word))) s ∙
    ap (λ p. if p then Passes else on_word b body word (word_fault b body word)) kept ∙
    ap (on_word b body word) none

and-none : (b : Bool) → (b && false) ≡ false
and-none true = refl
and-none false = refl

or-first : (p q : Bool) → (p || q) ≡ false → p ≡ false
or-first true q h = cc
or-first false q h = refl

or-second : (p q : Bool) → (p || q) ≡ false → q ≡ false
or-second true q h = cc
or-second false q h = h

not-false : (b : Bool) → not b ≡ false → b ≡ true
not-false true h = refl
not-false false h = cc

alive-at : (phase : Phase) (stage : Stage) (base : Base) (body : Body) → (phase_seen stage phase ≡ model_over → ⊥) → At phase stage body → (seen base body).phase ≡ model_over → ⊥
alive-at phase stage base body not_over at e =
    not_over (sym (ap (λ s. phase_seen s phase) at.stage_is) ∙ sym (ap (phase_seen body.link.stage) at.phase_is) ∙ e)

calm-at : (phase : Phase) (stage : Stage) (role : Role) (base : Base) (body : Body) → At phase stage body → (message : model.Message) → model_purged role (seen base body).awaits message ≡ false
calm-at phase stage role base body at message = ap (λ w. model_purged role (awaited_seen w) message) at.calm

-- a window is agreed
some-window : (m n : ℕ) → 1 ≤ m → nat_eq n 0 ≡ false → nat_eq (min m n) 0 ≡ false
some-window m n h e = grind (arith, nat_tests)

module _ (free : Free) (tables : Tables) (spellings : Spellings) (a b : Config) where
  abbrev base : Role → Base
  base = taking.base free tables spellings a b

  abbrev proposed : List Proposal
  proposed = taking.proposed free tables spellings a b

  abbrev pub setup : model.ModelSetup
  setup = taking.setup free tables spellings a b

  abbrev AreJoint : World → Role → Body → List Message → Body → List Message → Ledger → Type 0
  AreJoint = taking.AreJoint free tables spellings a b

  -- an end that is sound, with transfers that are
  pub record Good (role : Role) (body : Body) : Type 0 where
    pub sound : IsSoundBody Reliable (base role) body
    pub sending : IsSending (base role) body.sending

  pub good-same : (role : Role) (body later : Body) → later.calls ≡ body.calls → later.sending ≡ body.sending → Good role body → Good role later
  good-same role body later c s g =
      record {
        sound = record { numbered = subst AreNumberedCalls (sym c) g.sound.numbered; calm = tt; sets = tt; queues = tt };
        sending = subst (IsSending (base role)) (sym s) g.sending;
      }

  -- ---- CR and CC

  abbrev pub cr : Message
  cr = connection_request (base Initiator)

  abbrev pub confirm : TransportUnit
  confirm = ConnectionConfirm 1 (Some 10)

  abbrev pub cn_word : Way → Word
  cn_word way = OfAssociation (Connect (session_connect (base Initiator)) (presentation_connect (base Initiator)) (connect_values (base Initiator) (recovers way)))

  abbrev pub cn : Way → Message
  cn way = Session (cn_word way)

  abbrev request : TransportUnit
  request = ConnectionRequest 1 (Some 10) a.calling a.called

  pub record Asks (way : Way) (world : World) (body : Body) (left : List Message) (peer : Body) (to_peer : List Message) (ledger : Ledger) : Type 0 where
    pub later : Body
    pub reacts : react (base Responder) body cr ≡ Takes later (Transport confirm ∷ []) []
    pub ends : AreJoint world Responder later left peer (to_peer ++ Transport confirm ∷ []) ledger
    pub good : Good Responder later
    pub at : At (joins way) Joined later

  pub asked : (way : Way) (world : World) (body : Body) (left : List Message) (peer : Body) (to_peer : List Message) (ledger : Ledger) → AreJoint world Responder body (cr ∷ left) peer to_peer ledger → Good Responder body → At (rests way) Unused body → Asks way world body left peer to_peer ledger
  asked way world body left peer to_peer ledger j good at =
      let later : Body = after_transport (base Responder) body request in
      let put : states.Phase → states.State = λ p. record (seen (base Responder) body) { phase = p } in
      let now : phase_seen Joined (phase_asked body.link.phase true) ≡ phase_seen Joined (joins way) = ap (λ p. phase_seen Joined (phase_asked p true)) at.phase_is ∙ ap (phase_seen Joined) (rests-asked way) in
      let before : phase_seen body.link.stage body.link.phase ≡ phase_seen Unused (rests way) = ap (phase_seen body.link.stage) at.phase_is ∙ ap (λ s. phase_seen s (rests way)) at.stage_is in
      record {
        later = later;
        reacts =
            ap (λ p. if passes_over p then Passes else react_to_transport (base Responder) body request) at.phase_is ∙
            ap (λ c. if c then Passes else react_to_transport (base Responder) body request) (rests-alive way) ∙
            ap (λ w. if is_transport_purged w then Passes else on_transport (base Responder) body request (transport_unit_fault (base Responder) body request)) at.calm ∙
            ap (λ s. on_transport (base Responder) body request (fault_if (not (is_unused s && is_waiting body.link.phase)) transport_fault)) at.stage_is ∙
            ap (λ p. on_transport (base Responder) body request (fault_if (not (is_waiting p)) transport_fault)) at.phase_is ∙
            ap (λ c. on_transport (base Responder) body request (fault_if (not c) transport_fault)) (rests-waiting way);
        ends =
            ledgers.unseen-joint free tables spellings a b world Responder body later left peer to_peer (Transport confirm ∷ []) ledger
            (ledgers.units-joint free tables spellings a b world Responder body request left peer to_peer ledger j)
            (ap put (now ∙ joins-seen way ∙ sym before)) tt;
        good = good-same Responder body later refl refl good;
        at = record { phase_is = ap (λ p. phase_asked p true) at.phase_is ∙ rests-asked way; stage_is = refl; calm = at.calm };
      }

  pub record Connecting (way : Way) (world : World) (body : Body) (left : List Message) (peer : Body) (to_peer : List Message) (ledger : Ledger) : Type 0 where
    pub later : Body
    pub world' : World
    pub reacts : react (base Initiator) body (Transport confirm) ≡ Takes later (cn way ∷ []) []
    pub ends : AreJoint world' Initiator later left peer (to_peer ++ cn way ∷ []) ledger
    pub good : Good Initiator later
    pub at : At (asks way) Carrying later

  -- the CN is no change of the ledger
  acting : (way : Way) (world : World) (body : Body) (left : List Message) (peer : Body) (to_peer : List Message) (ledger : Ledger) → AreJoint world Initiator body left peer to_peer ledger → body.link.phase ≡ asks way → transport_unit_fault (base Initiator) body confirm ≡ None → connect_message (base Initiator) (is_recovering body.link.phase) ≡ cn way → (world' : World) × AreJoint world' Initiator (after_transport (base Initiator) body confirm) left peer (to_peer ++ cn way ∷ []) ledger
  acting First world body left peer to_peer ledger j phase none due = (
    By Initiator (Acts Connects) ∷ world,
    subst (λ m. AreJoint (By Initiator (Acts Connects) ∷ world) Initiator (after_transport (base Initiator) body confirm) left peer (to_peer ++ m ∷ []) (after_sending (taking.common free tables spellings a b) Initiator (m ∷ []) ledger)) due
        (ledgers.quiet-joint free tables spellings a b world Initiator body (after_transport (base Initiator) body confirm) left peer to_peer (connect_message (base Initiator) (is_recovering body.link.phase) ∷ []) Connects ledger j
        (connections-act.connects Reliable 1 (Some 10) free (base Initiator) proposed body tt phase none) (record { starts = λ rest. refl; encodes = refl })),
  )
  acting Again world body left peer to_peer ledger j phase none due = (
    By Initiator (Acts Recovers) ∷ world,
    subst (λ m. AreJoint (By Initiator (Acts Recovers) ∷ world) Initiator (after_transport (base Initiator) body confirm) left peer (to_peer ++ m ∷ []) (after_sending (taking.common free tables spellings a b) Initiator (m ∷ []) ledger)) due
        (ledgers.quiet-joint free tables spellings a b world Initiator body (after_transport (base Initiator) body confirm) left peer to_peer (connect_message (base Initiator) (is_recovering body.link.phase) ∷ []) Recovers ledger j
        (connections-act.recovers 1 (Some 10) free (base Initiator) proposed body phase none) (record { starts = λ rest. refl; encodes = refl })),
  )

  pub confirmed : (way : Way) (world : World) (body : Body) (left : List Message) (peer : Body) (to_peer : List Message) (ledger : Ledger) → AreJoint world Initiator body (Transport confirm ∷ left) peer to_peer ledger → Good Initiator body → At (asks way) Asked body → Connecting way world body left peer to_peer ledger
  confirmed way world body left peer to_peer ledger j good at =
      let later : Body = after_transport (base Initiator) body confirm in
      let none : transport_unit_fault (base Initiator) body confirm ≡ None = ap (λ s. fault_if (not (is_asked s && true)) transport_fault) at.stage_is in
      let due : connect_message (base Initiator) (is_recovering body.link.phase) ≡ cn way = ap (λ p. connect_message (base Initiator) (is_recovering p)) at.phase_is ∙ ap (connect_message (base Initiator)) (asks-recovers way) in
      let x = acting way world body left peer to_peer ledger (ledgers.units-joint free tables spellings a b world Initiator body confirm left peer to_peer ledger j) at.phase_is none due in
      record {
        later = later;
        world' = x.0;
        reacts =
            ap (λ p. if passes_over p then Passes else react_to_transport (base Initiator) body confirm) at.phase_is ∙
            ap (λ c. if c then Passes else react_to_transport (base Initiator) body confirm) (asks-alive way) ∙
            ap (λ w. if is_transport_purged w then Passes else on_transport (base Initiator) body confirm (transport_unit_fault (base Initiator) body confirm)) at.calm ∙
            ap (on_transport (base Initiator) body confirm) none ∙
            ap (λ m. Takes later (m ∷ []) []) due;
        ends = x.1;
        good = good-same Initiator body later refl refl good;
        at = record { phase_is = at.phase_is; stage_is = refl; calm = at.calm };
      }

  -- ---- AC and RF as they are sent

  pub record IsAccept (word : Word) : Type 0 where
    pub session : Accepting
    pub presentation : PresentationAccept
    pub values : List DataValue
    pub is_it : word ≡ OfAssociation (Accept session presentation values)
    pub version : has_version_two session.version ≡ true
    pub units : has_units (needed_units Reliable) (selected_with Reliable session.requirements) ≡ true
    pub selected : selected_with Reliable session.requirements ≡ proposed_units Reliable
    pub manages : manages_with presentation.requirements (selected_with Reliable session.requirements) ≡ true
    pub no_fault : accept_fault (base Initiator) presentation values ≡ None
    pub results : presentation.results ≡ opening_policy (base Responder) (proposals (base Initiator))

  pub record IsRefusal (word : Word) : Type 0 where
    pub transport : Option ℕ
    pub reason : Option ℕ
    pub presentation : Option PresentationReject
    pub values : List DataValue
    pub is_it : word ≡ OfAssociation (Refuse transport reason presentation values)

  -- ---- CN

  abbrev pub presentation : PresentationConnect
  presentation = presentation_connect (base Initiator)

  abbrev pub session : SessionConnect
  session = session_connect (base Initiator)

  abbrev pub values : Way → List DataValue
  values way = connect_values (base Initiator) (recovers way)

  abbrev held : List SetItem
  held = set_for (base Responder) presentation

  fit : fit_proposals proposed (results_for (base Responder) presentation) ≡ true
  fit = additions-answered (base Responder) true 0 proposed

  rising : IsRising (set_seen held)
  rising = rising-set proposed (results_for (base Responder) presentation) fit

  -- the RTORQ stands on the context of reliable transfer
  on-rtse : IsFit (taking.common free tables spellings a b) → is_on_rtse held 3 ≡ true
  on-rtse right = on-three (base Responder) a.contexts (or-first (has_double (1 ∷ 3 ∷ map (λ (p : Proposal). p.id) a.contexts)) _ right.proposes)

  request-fine : (way : Way) → IsFit (taking.common free tables spellings a b) → information_fault is_open_request held (user_of (the_one (values way))) ≡ None
  request-fine way right = ap (λ p. or_fault (fault_if (not p) invalid_ppdu) None) (on-rtse right)

  if-none : (b : Bool) (x : Option Fault) → x ≡ None → (if b then x else None) ≡ None
  if-none true x h = h
  if-none false x h = refl

  pub connect-fine : (way : Way) (body : Body) → IsFit (taking.common free tables spellings a b) → At (joins way) Joined body → word_fault (base Responder) body (cn_word way) ≡ None
  connect-fine way body right at =
      fine (base Responder) body (cn_word way) (ap is_joined at.stage_is)
      (ap (λ p. or_fault (fault_if p invalid_ppdu) (or_fault (fault_if (has_acse held && false) acse_fault) (if has_acse held && has_rtse held then information_fault is_open_request held (user_of (the_one (values way))) else None))) right.proposes ∙
      ap (λ p. or_fault (fault_if p acse_fault) (if has_acse held && has_rtse held then information_fault is_open_request held (user_of (the_one (values way))) else None)) (and-none (has_acse held)) ∙
      if-none (has_acse held && has_rtse held) (information_fault is_open_request held (user_of (the_one (values way)))) (request-fine way right))

  -- who refuses an opening is over, who refuses a recovery stays broken
  abbrev pub Declined : Way → Body → Type 0
  Declined First later = later.link.phase ≡ Over
  Declined Again later = At Broken Carrying later

  pub data Connected (way : Way) (body : Body) (left : List Message) (peer : Body) (to_peer : List Message) (ledger : Ledger) : Type 0 where
    Accepts : (world' : World) (later : Body) (answer : Word) (shown : List Indication) → react (base Responder) body (cn way) ≡ Takes later (Session answer ∷ []) shown
        → AreJoint world' Responder later left peer (to_peer ++ Session answer ∷ []) (after_taking (taking.common free tables spellings a b) Responder body (cn way) (Session answer ∷ []) ledger) → Good Responder later → Live later → IsAccept answer
        → Connected way body left peer to_peer ledger
    Refuses : (world' : World) (later : Body) (answer : Word) (shown : List Indication) → react (base Responder) body (cn way) ≡ Takes later (Session answer ∷ []) shown
        → AreJoint world' Responder later left peer (to_peer ++ Session answer ∷ []) (after_taking (taking.common free tables spellings a b) Responder body (cn way) (Session answer ∷ []) ledger) → Good Responder later → Declined way later → IsRefusal answer
        → Connected way body left peer to_peer ledger

  -- what an acceptance rests on
  record Accepted (way : Way) (body : Body) : Type 0 where
    acse : has_acse held ≡ true
    rtse_ : has_rtse held ≡ true
    window : nat_eq a.window 0 ≡ false

  accepted-so : (way : Way) (body : Body) → is_refused (base Responder) body session presentation (values way) ≡ false → Accepted way body
  accepted-so way body e =
      let r = or-first (session_refuses (base Responder) session || presentation_refuses (base Responder) presentation (values way)) (is_some (transfer_rejection (base Responder) body (values way))) e in
      let t = or-second (session_refuses (base Responder) session || presentation_refuses (base Responder) presentation (values way)) (is_some (transfer_rejection (base Responder) body (values way))) e in
      let p = or-second (session_refuses (base Responder) session) (presentation_refuses (base Responder) presentation (values way)) r in
      record {
        acse = not-false (has_acse held) (or-first (not (has_acse held)) (lacks_request (base Responder) held (values way)) p);
        rtse_ = not-false (has_rtse held) (or-first (not (has_rtse held)) false (or-second (not (has_acse held)) (lacks_request (base Responder) held (values way)) p));
        window = windowed (nat_eq a.window 0) refl t;
      }
    where
      windowed : (w : Bool) → nat_eq a.window 0 ≡ w → is_some (transfer_rejection (base Responder) body (values way)) ≡ false → nat_eq a.window 0 ≡ false
      windowed false w t = w
      windowed true w t = let clash : true ≡ false = sym (ap (λ c. is_some {T = ℕ} (if c then Some 2 else (if not (has_association body (connection_data (base Initiator) (recovers way))) then Some 1 else None))) w) ∙ t in cc

  some-lowest : (x : Option ℕ) → is_some x ≡ true → (k : ℕ) × (x ≡ Some k)
  some-lowest None h = cc
  some-lowest (Some k) h = (k, refl)

  -- the RTOAC stands on a context of reliable transfer, too
  accept-on : has_rtse held ≡ true → is_on_rtse held (rtse_context held) ≡ true
  accept-on h =
      let k = some-lowest (lowest_with rtse_name [] held) h in
      ap (λ x. has_abstract rtse_name (pair_of held (unwrap_or x 3))) k.1 ∙ lowest-has rtse_name k.0 held rising k.1

  acceptance : (way : Way) (body : Body) → IsFit (taking.common free tables spellings a b) → is_refused (base Responder) body session presentation (values way) ≡ false → (word : Word) × (acceptance_message (base Responder) session presentation (values way) ≡ Session word) × IsAccept word
  acceptance way body right e =
      let x = accepted-so way body e in
      let windows : nat_eq (min b.window a.window) 0 ≡ false = some-window b.window a.window right.window x.window in (
        _,
        refl,
        record {
          session = _;
          presentation = _;
          values = _;
          is_it = refl;
          version = refl;
          units = refl;
          selected = refl;
          manages = refl;
          no_fault =
              ap (λ p. or_fault (fault_if (not p) invalid_ppdu) (or_fault (fault_if (not (has_acse held) || not (has_rtse held)) invalid_ppdu) (or_fault (or_fault (fault_if (not (is_on_rtse held (rtse_context held))) invalid_ppdu) None) (fault_if (nat_eq (min b.window a.window) 0) rtse_fault)))) fit ∙
              ap (λ p. or_fault (fault_if (not p || not (has_rtse held)) invalid_ppdu) (or_fault (or_fault (fault_if (not (is_on_rtse held (rtse_context held))) invalid_ppdu) None) (fault_if (nat_eq (min b.window a.window) 0) rtse_fault))) x.acse ∙
              ap (λ p. or_fault (fault_if (not p) invalid_ppdu) (or_fault (or_fault (fault_if (not (is_on_rtse held (rtse_context held))) invalid_ppdu) None) (fault_if (nat_eq (min b.window a.window) 0) rtse_fault))) x.rtse_ ∙
              ap (λ p. or_fault (or_fault (fault_if (not p) invalid_ppdu) None) (fault_if (nat_eq (min b.window a.window) 0) rtse_fault)) (accept-on x.rtse_) ∙
              ap (λ p. fault_if p rtse_fault) windows;
          results = refl;
        },
      )

  abbrev refusal_of : Way → Body → Bool → Message
  refusal_of way body p =
      if p then provider_refusal
      else refuse_message held (results_for (base Responder) presentation) (context_named (the_one (values way)))
      (if lacks_request (base Responder) held (values way) then [] else rejecting_information (base Responder) session held (transfer_rejection (base Responder) body (values way)))

  refusal : (way : Way) (body : Body) → (word : Word) × (refusal_message (base Responder) body session presentation (values way) ≡ Session word) × IsRefusal word
  refusal way body = go (is_some presentation.default_context || not (has_acse held)) refl
    where
      go : (p : Bool) → (is_some presentation.default_context || not (has_acse held)) ≡ p → (word : Word) × (refusal_message (base Responder) body session presentation (values way) ≡ Session word) × IsRefusal word
      go true e = (_, ap (refusal_of way body) e, record { transport = _; reason = _; presentation = _; values = _; is_it = refl })
      go false e = (_, ap (refusal_of way body) e, record { transport = _; reason = _; presentation = _; values = _; is_it = refl })

  is-meant : (way : Way) (message : model.Message) → Means proposed (base Initiator) (cn_word way) message → message ≡ meant_by way
  is-meant First message m = m
  is-meant Again message m = m

  -- what a CN that is taken is in the model
  record Opens (way : Way) (body : Body) (ledger : Ledger) (theirs : worlds.Shared) (choice : model.Choice) : Type 0 where
    chosen : IsChoice setup (seen (base Responder) body) (meant_by way) choice
    taken_so : TakenAs free Reliable (base Responder) proposed body (cn_word way) (meant_by way) choice
    shares : Same (after_taking (taking.common free tables spellings a b) Responder body (cn way) (answers_to_word (base Responder) body (cn_word way)) ledger).shared (worlds.shared_answered (meant_by way) choice theirs)
    transfer_log : ledgers.TakeLog free tables spellings a b Responder body (cn_word way) (meant_by way) choice
    good : Good Responder (after_word (base Responder) body (cn_word way))

  abbrev answers_so : Way → Body → Bool → List Message
  answers_so way body refused = if refused then refusal_message (base Responder) body session presentation (values way) ∷ [] else acceptance_message (base Responder) session presentation (values way) ∷ []

  abbrev left_so : Way → Body → Bool → Body
  left_so way body refused = if refused then refused_connect body else accepted_connect (base Responder) body session presentation (values way)

  -- the shared set after an answer that is accepted, and after one that isn't
  abbrev shared_with : Way → Body → Ledger → List Message → Shared
  shared_with way body ledger answers = (after_taking (taking.common free tables spellings a b) Responder body (cn way) answers ledger).shared

  opens : (way : Way) (body : Body) (ledger : Ledger) (theirs : worlds.Shared) → IsFit (taking.common free tables spellings a b) → Same ledger.shared theirs → Good Responder body → At (joins way) Joined body → is_refused (base Responder) body session presentation (values way) ≡ false → Opens way body ledger theirs (accepting (set_seen held))
  opens First body ledger theirs right s good at e =
      let o = openings-taken.opened Reliable session presentation (values First) free (base Responder) body e refl in
      let chosen : IsChoice setup (seen (base Responder) body) model_connect (accepting (set_seen held)) = record { is_set = rising; is_known = known-set held } in
      record {
        chosen = chosen;
        taken_so = record { no_fault = connect-fine First body right at; chosen = chosen; after = o.after; means = o.means };
        shares = subst (λ ms. Same (shared_with First body ledger ms) (worlds.shared_answered model_connect (accepting (set_seen held)) theirs)) (sym (ap (answers_so First body) e)) (record { set = refl; inter = refl; saved = refl; of_a = refl; of_b = refl });
        transfer_log =
            record {
              starts = λ items rest h. ap (λ c. map (queued_seen (base Initiator)) (items_anew c false items)) e;
              arrives = λ arrived. ap (λ c. arrived_anew c false arrived) e;
            };
        good = subst (Good Responder) (sym (ap (left_so First body) e)) (record { sound = record { numbered = tt; calm = tt; sets = tt; queues = tt }; sending = record { queue = tt; current = tt } });
      }
  opens Again body ledger theirs right s good at e =
      let o = openings-taken.recovered Reliable session presentation (values Again) free (base Responder) body e refl in
      let chosen : IsChoice setup (seen (base Responder) body) model_recover (accepting (set_seen held)) = record { has_it = ap (phase_seen body.link.stage) at.phase_is; is_set = rising; is_known = known-set held } in
      record {
        chosen = chosen;
        taken_so = record { no_fault = connect-fine Again body right at; chosen = chosen; after = o.after; means = o.means };
        shares = subst (λ ms. Same (shared_with Again body ledger ms) (worlds.shared_answered model_recover (accepting (set_seen held)) theirs)) (sym (ap (answers_so Again body) e)) (record { set = refl; inter = refl; saved = refl; of_a = s.of_a; of_b = s.of_b });
        transfer_log =
            record {
              starts = λ items rest h. ap (λ c. map (queued_seen (base Initiator)) (items_anew c true items)) e ∙ h;
              arrives = λ arrived. ap (λ c. arrived_anew c true arrived) e;
            };
        good = subst (Good Responder) (sym (ap (left_so Again body) e)) (good-same Responder body (accepted_connect (base Responder) body session presentation (values Again)) refl refl good);
      }

  declines : (way : Way) (body : Body) (ledger : Ledger) (theirs : worlds.Shared) → IsFit (taking.common free tables spellings a b) → Same ledger.shared theirs → Good Responder body → At (joins way) Joined body → is_refused (base Responder) body session presentation (values way) ≡ true → (word : Word) → answers_to_word (base Responder) body (cn_word way) ≡ Session word ∷ [] → IsRefusal word → Opens way body ledger theirs Refusing
  declines First body ledger theirs right s good at e word is refusal_ =
      let o = openings-taken.refused_opening Reliable session presentation (values First) free (base Responder) proposed body e at.phase_is in
      record {
        chosen = tt;
        taken_so = record { no_fault = connect-fine First body right at; chosen = tt; after = o.after; means = o.means };
        shares = subst (λ ms. Same (shared_with First body ledger ms) theirs) (sym (is ∙ ap (λ w. Session w ∷ []) refusal_.is_it)) s;
        transfer_log =
            record {
              starts = λ items rest h. ap (λ c. map (queued_seen (base Initiator)) (items_anew c false items)) e ∙ h;
              arrives = λ arrived. ap (λ c. arrived_anew c false arrived) e;
            };
        good = subst (Good Responder) (sym (ap (left_so First body) e)) (good-same Responder body (refused_connect body) refl refl good);
      }
  declines Again body ledger theirs right s good at e word is refusal_ =
      let o = openings-taken.refused_recovery Reliable session presentation (values Again) free (base Responder) proposed body e at.phase_is in
      record {
        chosen = tt;
        taken_so = record { no_fault = connect-fine Again body right at; chosen = tt; after = o.after; means = o.means };
        shares = subst (λ ms. Same (shared_with Again body ledger ms) theirs) (sym (is ∙ ap (λ w. Session w ∷ []) refusal_.is_it)) s;
        transfer_log =
            record {
              starts = λ items rest h. ap (λ c. map (queued_seen (base Initiator)) (items_anew c true items)) e ∙ h;
              arrives = λ arrived. ap (λ c. arrived_anew c true arrived) e;
            };
        good = subst (Good Responder) (sym (ap (left_so Again body) e)) (good-same Responder body (refused_connect body) refl refl good);
      }

  joined-live : (way : Way) (body : Body) → Live (accepted_connect (base Responder) body session presentation (values way))
  joined-live First body = record { joined = record { stage = refl; selected = refl; manages = refl }; phase = inl refl }
  joined-live Again body = record { joined = record { stage = refl; selected = refl; manages = refl }; phase = inl refl }

  declined-so : (way : Way) (body : Body) → At (joins way) Joined body → Declined way (refused_connect body)
  declined-so First body at = ap (λ p. if is_broken p then Broken else Over) at.phase_is
  declined-so Again body at = record { phase_is = ap (λ p. if is_broken p then Broken else Over) at.phase_is; stage_is = refl; calm = at.calm }

  -- the taking of the CN with this choice
  opening-so : (way : Way) (world : World) (body : Body) (left : List Message) (peer : Body) (to_peer : List Message) (ledger : Ledger) (choice : model.Choice) → AreJoint world Responder body (cn way ∷ left) peer to_peer ledger → At (joins way) Joined body → Opens way body ledger (shared_at setup world) choice → (world' : World) × AreJoint world' Responder (after_word (base Responder) body (cn_word way)) left peer (to_peer ++ answers_to_word (base Responder) body (cn_word way)) (after_taking (taking.common free tables spellings a b) Responder body (cn way) (answers_to_word (base Responder) body (cn_word way)) ledger)
  opening-so way world body left peer to_peer ledger choice j at o =
      let t =
      takes-kept free (taking.common free tables spellings a b) proposed world Responder body (cn_word way) left peer to_peer choice j.ends (alive-at (joins way) Joined (base Responder) body (joined-not_over way) at)
      (λ message means. calm-at (joins way) Joined Responder (base Responder) body at message)
      (λ message means. subst (λ m. IsChoice setup (seen (base Responder) body) m choice) (sym (is-meant way message means)) o.chosen)
      (λ message means may. subst (λ m. TakenAs free Reliable (base Responder) proposed body (cn_word way) m choice) (sym (is-meant way message means)) o.taken_so) in (
        By Responder (model_takes t.message choice) ∷ world,
        ledgers.takes-joint free tables spellings a b world Responder body (cn_word way) left peer to_peer choice ledger j t
            (subst (λ m. Same (shared_with way body ledger (answers_to_word (base Responder) body (cn_word way))) (worlds.shared_answered m choice (shared_at setup world))) (sym (is-meant way t.message t.means)) o.shares)
            (subst (λ m. ledgers.TakeLog free tables spellings a b Responder body (cn_word way) m choice) (sym (is-meant way t.message t.means)) o.transfer_log),
      )

  pub connected : (way : Way) (world : World) (body : Body) (left : List Message) (peer : Body) (to_peer : List Message) (ledger : Ledger) → IsFit (taking.common free tables spellings a b) → AreJoint world Responder body (cn way ∷ left) peer to_peer ledger → Good Responder body → At (joins way) Joined body → Connected way body left peer to_peer ledger
  connected way world body left peer to_peer ledger right j good at = go (is_refused (base Responder) body session presentation (values way)) refl
    where
      later : Body
      later = after_word (base Responder) body (cn_word way)

      reacts : react (base Responder) body (cn way) ≡ Takes (after_word (base Responder) body (cn_word way)) (answers_to_word (base Responder) body (cn_word way)) (shown_of_word (base Responder) body (cn_word way))
      reacts = reacts-before (joins way) Joined (base Responder) body (cn_word way) (joins-alive way) refl at (connect-fine way body right at)

      go : (refused : Bool) → is_refused (base Responder) body session presentation (values way) ≡ refused → Connected way body left peer to_peer ledger
      go false e =
          let x = acceptance way body right e in
          let answers : answers_to_word (base Responder) body (cn_word way) ≡ Session x.0 ∷ [] = ap (answers_so way body) e ∙ ap (λ m. m ∷ []) x.1 in
          let o = opens way body ledger (shared_at setup world) right j.same good at e in
          let t = opening-so way world body left peer to_peer ledger (accepting (set_seen held)) j at o in
          Accepts t.0 (after_word (base Responder) body (cn_word way)) x.0 (shown_of_word (base Responder) body (cn_word way))
          (reacts ∙ ap (λ ms. Takes (after_word (base Responder) body (cn_word way)) ms (shown_of_word (base Responder) body (cn_word way))) answers)
          (subst (λ ms. AreJoint t.0 Responder (after_word (base Responder) body (cn_word way)) left peer (to_peer ++ ms) (after_taking (taking.common free tables spellings a b) Responder body (cn way) ms ledger)) answers t.1)
          o.good (subst Live (sym (ap (left_so way body) e)) (joined-live way body)) x.2
      go true e =
          let x = refusal way body in
          let answers : answers_to_word (base Responder) body (cn_word way) ≡ Session x.0 ∷ [] = ap (answers_so way body) e ∙ ap (λ m. m ∷ []) x.1 in
          let o = declines way body ledger (shared_at setup world) right j.same good at e x.0 answers x.2 in
          let t = opening-so way world body left peer to_peer ledger Refusing j at o in
          Refuses t.0 (after_word (base Responder) body (cn_word way)) x.0 (shown_of_word (base Responder) body (cn_word way))
          (reacts ∙ ap (λ ms. Takes (after_word (base Responder) body (cn_word way)) ms (shown_of_word (base Responder) body (cn_word way))) answers)
          (subst (λ ms. AreJoint t.0 Responder (after_word (base Responder) body (cn_word way)) left peer (to_peer ++ ms) (after_taking (taking.common free tables spellings a b) Responder body (cn way) ms ledger)) answers t.1)
          o.good (subst (Declined way) (sym (ap (left_so way body) e)) (declined-so way body at)) x.2

  -- ---- AC and RF

  -- what an initiator waits for after its CN is in place
  asked-so : (way : Way) (body : Body) → At (asks way) Carrying body → (is_carrying body.link.stage && is_opening body.link.phase) ≡ true
  asked-so way body at =
      ap (λ s. is_carrying s && is_opening body.link.phase) at.stage_is ∙ ap (λ p. is_opening p) at.phase_is ∙ asks-opening way

  pub record Answered (P : Body → Type 0) (body : Body) (role : Role) (word : Word) (left : List Message) (peer : Body) (to_peer : List Message) (ledger : Ledger) : Type 0 where
    pub world' : World
    pub later : Body
    pub shown : List Indication
    pub reacts : react (base role) body (Session word) ≡ Takes later [] shown
    pub ends : AreJoint world' role later left peer (to_peer ++ []) (after_taking (taking.common free tables spellings a b) role body (Session word) [] ledger)
    pub good : Good role later
    pub side : P later

  abbrev pub StandsOrOver : Body → Type 0
  StandsOrOver body = Live body ⊎ (body.link.phase ≡ Over)

  abbrev pub IsGone : Body → Type 0
  IsGone body = body.link.phase ≡ Over

  -- a word that is taken so, and answered by nothing
  taken-so : (P : Body → Type 0) (phase : Phase) (stage : Stage) (world : World) (role : Role) (body : Body) (word : Word) (m : model.Message) (left : List Message) (peer : Body) (to_peer : List Message) (ledger : Ledger) → passes_over phase ≡ false → (is_joined stage || is_carrying stage) ≡ true → (phase_seen stage phase ≡ model_over → ⊥) → AreJoint world role body (Session word ∷ left) peer to_peer ledger → At phase stage body → ((message : model.Message) → Means proposed (base Initiator) word message → message ≡ m) → IsChoice setup (seen (base role) body) m Nothing → TakenAs free Reliable (base role) proposed body word m Nothing → answers_to_word (base role) body word ≡ [] → Same (after_taking (taking.common free tables spellings a b) role body (Session word) (answers_to_word (base role) body word) ledger).shared (worlds.shared_answered m Nothing (shared_at setup world)) → ledgers.TakeLog free tables spellings a b role body word m Nothing → Good role (after_word (base role) body word) → P (after_word (base role) body word) → Answered P body role word left peer to_peer ledger
  taken-so P phase stage world role body word m left peer to_peer ledger alive there not_over j at is free_choice row none shares transfer_log good side =
      let t =
      takes-kept free (taking.common free tables spellings a b) proposed world role body word left peer to_peer Nothing j.ends (alive-at phase stage (base role) body not_over at)
      (λ message means. calm-at phase stage role (base role) body at message)
      (λ message means. subst (λ x. IsChoice setup (seen (base role) body) x Nothing) (sym (is message means)) free_choice)
      (λ message means may. subst (λ x. TakenAs free Reliable (base role) proposed body word x Nothing) (sym (is message means)) row) in
      let ends =
      ledgers.takes-joint free tables spellings a b world role body word left peer to_peer Nothing ledger j t
      (subst (λ x. Same (after_taking (taking.common free tables spellings a b) role body (Session word) (answers_to_word (base role) body word) ledger).shared (worlds.shared_answered x Nothing (shared_at setup world))) (sym (is t.message t.means)) shares)
      (subst (λ x. ledgers.TakeLog free tables spellings a b role body word x Nothing) (sym (is t.message t.means)) transfer_log) in
      record {
        world' = By role (model_takes t.message Nothing) ∷ world;
        later = after_word (base role) body word;
        shown = shown_of_word (base role) body word;
        reacts = reacts-before phase stage (base role) body word alive there at row.no_fault ∙ ap (λ ms. Takes (after_word (base role) body word) ms (shown_of_word (base role) body word)) none;
        ends = subst (λ ms. AreJoint (By role (model_takes t.message Nothing) ∷ world) role (after_word (base role) body word) left peer (to_peer ++ ms) (after_taking (taking.common free tables spellings a b) role body (Session word) ms ledger)) none ends;
        good = good;
        side = side;
      }

  accept-so : (way : Way) (world : World) (body : Body) (s : Accepting) (p : PresentationAccept) (v : List DataValue) (left : List Message) (peer : Body) (to_peer : List Message) (ledger : Ledger) → AreJoint world Initiator body (Session (OfAssociation (Accept s p v)) ∷ left) peer to_peer ledger → Good Initiator body → At (asks way) Carrying body → has_version_two s.version ≡ true → has_units (needed_units Reliable) (selected_with Reliable s.requirements) ≡ true → selected_with Reliable s.requirements ≡ proposed_units Reliable → manages_with p.requirements (selected_with Reliable s.requirements) ≡ true → accept_fault (base Initiator) p v ≡ None → Answered StandsOrOver body Initiator (OfAssociation (Accept s p v)) left peer to_peer ledger
  accept-so way world body s p v left peer to_peer ledger j good at version units selected manages none =
      let word : Word = OfAssociation (Accept s p v) in
      let fine_now : word_fault (base Initiator) body word ≡ None = fine (base Initiator) body word (rw (asked-so way body at, version, units) refl) none in
      let o = openings-taken.accept Reliable s p v free (base Initiator) proposed body in
      taken-so StandsOrOver (asks way) Carrying world Initiator body word _ left peer to_peer ledger (asks-alive way) refl (carrying-not_over way) j at (λ message means. means) tt
      (record { no_fault = fine_now; chosen = tt; after = o.after; means = o.means }) refl j.same (record { starts = λ items rest h. h; arrives = λ arrived. refl })
      (good-same Initiator body (after_word (base Initiator) body word) refl refl good)
      (inl (record { joined = record { stage = refl; selected = selected; manages = manages }; phase = inl refl }))

  pub accepted : (way : Way) (world : World) (body : Body) (word : Word) (left : List Message) (peer : Body) (to_peer : List Message) (ledger : Ledger) → AreJoint world Initiator body (Session word ∷ left) peer to_peer ledger → Good Initiator body → At (asks way) Carrying body → IsAccept word → Answered StandsOrOver body Initiator word left peer to_peer ledger
  accepted way world body word left peer to_peer ledger j good at x =
      subst (λ w. Answered StandsOrOver body Initiator w left peer to_peer ledger) (sym x.is_it)
      (accept-so way world body x.session x.presentation x.values left peer to_peer ledger (subst (λ w. AreJoint world Initiator body (Session w ∷ left) peer to_peer ledger) x.is_it j) good at x.version x.units x.selected x.manages x.no_fault)

  refuse-so : (way : Way) (world : World) (body : Body) (transport reason : Option ℕ) (p : Option PresentationReject) (v : List DataValue) (left : List Message) (peer : Body) (to_peer : List Message) (ledger : Ledger) → AreJoint world Initiator body (Session (OfAssociation (Refuse transport reason p v)) ∷ left) peer to_peer ledger → Good Initiator body → At (asks way) Carrying body → Answered IsGone body Initiator (OfAssociation (Refuse transport reason p v)) left peer to_peer ledger
  refuse-so way world body transport reason p v left peer to_peer ledger j good at =
      let word : Word = OfAssociation (Refuse transport reason p v) in
      taken-so IsGone (asks way) Carrying world Initiator body word model_refuse left peer to_peer ledger (asks-alive way) refl (carrying-not_over way) j at (λ message means. means) tt
      (record { no_fault = fine (base Initiator) body word (asked-so way body at) refl; chosen = tt; after = refl; means = tt }) refl j.same (record { starts = λ items rest h. h; arrives = λ arrived. refl })
      (good-same Initiator body (after_word (base Initiator) body word) refl refl good) refl

  pub refused-by : (way : Way) (world : World) (body : Body) (word : Word) (left : List Message) (peer : Body) (to_peer : List Message) (ledger : Ledger) → AreJoint world Initiator body (Session word ∷ left) peer to_peer ledger → Good Initiator body → At (asks way) Carrying body → IsRefusal word → Answered IsGone body Initiator word left peer to_peer ledger
  refused-by way world body word left peer to_peer ledger j good at x =
      subst (λ w. Answered IsGone body Initiator w left peer to_peer ledger) (sym x.is_it)
      (refuse-so way world body x.transport x.reason x.presentation x.values left peer to_peer ledger (subst (λ w. AreJoint world Initiator body (Session w ∷ left) peer to_peer ledger) x.is_it j) good at)

  -- a broken end that refused a recovery takes an abort
  pub aborted-by : (world : World) (body : Body) (transport : Option ℕ) (user : AbortData) (left : List Message) (peer : Body) (to_peer : List Message) (ledger : Ledger) → AreJoint world Responder body (Session (OfAssociation (Abort transport user)) ∷ left) peer to_peer ledger → Good Responder body → At Broken Carrying body → Answered IsGone body Responder (OfAssociation (Abort transport user)) left peer to_peer ledger
  aborted-by world body transport user left peer to_peer ledger j good at =
      let word : Word = OfAssociation (Abort transport user) in
      taken-so IsGone Broken Carrying world Responder body word model_abort left peer to_peer ledger refl refl broken-not_over j at (λ message means. means) tt
      (record { no_fault = fine (base Responder) body word (ap (λ s. is_joined s || is_carrying s) at.stage_is) refl; chosen = tt; after = refl; means = tt }) refl j.same (record { starts = λ items rest h. h; arrives = λ arrived. refl })
      (record { sound = record { numbered = tt; calm = tt; sets = tt; queues = tt }; sending = good.sending }) refl
