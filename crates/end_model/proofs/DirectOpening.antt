-- Two ends of direct mode: the transport connection, the opening, its refusal, and what breaks of them.
use Rattle.std.proofs.Common.{◌≡◌, refl, true, false, ◌∙◌, sym, ap, subst, ℕ, List, [], ◌∷◌, ◌++◌}
use Rattle.std.proofs.Common.{map, ◌⊎◌, inl, inr}
use Rattle.std.specs.Prelude.{Bool, not, ◌&&◌, ◌||◌, Option, Some, None, is_some, if◌then◌else◌}
use Rattle.osi_base.specs.declared.layer_words.Proposal.{Proposal}
use Rattle.osi_base.specs.declared.layer_words.SetItem.{SetItem}
use Rattle.osi_base.specs.declared.layer_words.AddAnswer.{AddAnswer}
use Rattle.osi_base.specs.declared.session_word.SessionConnect.{SessionConnect}
use Rattle.osi_base.specs.declared.presentation_word.PresentationConnect.{PresentationConnect}
use Rattle.osi_base.specs.declared.presentation_word.PresentationAccept.{PresentationAccept}
use Rattle.osi_base.specs.declared.presentation_word.PresentationReject.{PresentationReject}
use Rattle.osi_base.specs.Syntax.{syntax_named}
use Rattle.stub_tables.specs.declared.tables.Tables.{Tables}
use Rattle.dialogue.specs.declared.config.Config.{Config}
use Rattle.dialogue.specs.declared.config.Mode.TheVariants.{Direct}
use Rattle.dialogue.specs.declared.config.Phase.{Phase}
use Rattle.dialogue.specs.declared.config.Phase.TheVariants.{Idle, Opening, Broken, Over}
use Rattle.dialogue.specs.declared.indication.Indication.{Indication}
use Rattle.end_rules.specs.Base.{Base, Spellings}
use Rattle.end_rules.specs.Messages.{TransportUnit, ConnectionRequest, ConnectionConfirm, DataValue}
use Rattle.end_rules.specs.Messages.{Word, OfAssociation, Connect, Accept, Refuse, Accepting}
use Rattle.end_rules.specs.Messages.{Message, Transport, Session, unit_of}
use Rattle.end_rules.specs.State.{Body, Stage, Unused, Asked, Joined, Carrying, NoAnswer}
use Rattle.end_rules.specs.State.{passes_over, is_joined, is_carrying, is_unused, is_asked}
use Rattle.end_rules.specs.State.{is_broken}
use Rattle.end_rules.specs.Sets.{accepted_set, fit_proposals}
use Rattle.end_rules.specs.Units.{selected_with, proposed_units, needed_units, has_units}
use Rattle.end_rules.specs.Units.{has_version_two, manages_with}
use Rattle.end_rules.specs.World.{Shared, anew}
use Rattle.end_rules.specs.Faults.{transport_fault, invalid_ppdu, acse_fault, fault_if, or_fault}
use Rattle.end_rules.specs.Purging.{is_purged, is_transport_purged}
use Rattle.end_rules.specs.InPlace.{is_opening}
use Rattle.end_rules.specs.Writing.{session_connect, presentation_connect, connect_values}
use Rattle.end_rules.specs.Writing.{connect_message, connection_request, is_recovering}
use Rattle.end_rules.specs.Writing.{provider_refusal, refuse_message}
use Rattle.end_rules.specs.Connecting.{the_one, context_named, has_acse, set_for, results_for}
use Rattle.end_rules.specs.Connecting.{session_refuses, presentation_refuses, lacks_request}
use Rattle.end_rules.specs.Connecting.{transfer_rejection, rejecting_information, is_refused}
use Rattle.end_rules.specs.Connecting.{accept_fault, accepted_connect, refused_connect}
use Rattle.end_rules.specs.Connecting.{refusal_message, acceptance_message}
use Rattle.end_rules.specs.TakesTransport.{is_waiting, transport_unit_fault, after_transport}
use Rattle.end_rules.specs.TakesTransport.{phase_asked}
use Rattle.end_rules.specs.Reacting.{Passes, Takes, react, react_to_transport, react_to_word}
use Rattle.end_rules.specs.Reacting.{on_transport, fails, on_word, word_fault, after_word}
use Rattle.end_rules.specs.Reacting.{answers_to_word, shown_of_word}
use Rattle.agreement.specs.Sets.{Role, IsRising, IsKnownSet}
use Rattle.agreement.specs.Sets.Role.{Initiator, Responder}
use Rattle.agreement.specs.Messages as model
use Rattle.agreement.specs.Messages.Message.{Connect as model_connect}
use Rattle.agreement.specs.Messages.Choice.{Nothing, Accepting as accepting, Refusing}
use Rattle.agreement.specs.State as states
use Rattle.agreement.specs.State.Phase.{Idle as model_idle, Opening as model_opening}
use Rattle.agreement.specs.State.Phase.{Over as model_over}
use Rattle.agreement.specs.Takings.{IsChoice, is_purged as model_purged}
use Rattle.agreement.specs.Worlds as worlds
use Rattle.agreement.specs.Worlds.{World, shared_at}
use Rattle.agreement.specs.Worlds.Step.{Acts, Takes as model_takes}
use Rattle.agreement.specs.Worlds.Moment.{By}
use Rattle.agreement.specs.Messages.Act.{Connects}
use Rattle.agreement.proofs.Flights.{rising-altered}
use Rattle.end_model.specs.Seen.{Free, phase_seen, awaited_seen, set_seen, addition_seen, seen}
use Rattle.end_model.specs.Words.{added_seen}
use Rattle.end_model.specs.Acting.{IsSoundBody, TakenAs}
use Rattle.end_model.specs.DirectEnds.{ProposesRightly}
use Rattle.end_model.specs.Sharing.{side_of, shared_all_sent, shared_all_answered, before}
use Rattle.end_model.proofs.Takes.{fine}
use Rattle.end_model.proofs.Fitting.{known-syntax, additions-answered}
use Rattle.end_model.proofs.Altered.{added-altered}
use Rattle.end_model.proofs.Openings.{openings-taken}
use Rattle.end_model.proofs.Connecting.{connections-act}
use Rattle.end_model.proofs.Machine.{takes-kept}
use Rattle.end_model.proofs.Joint.{Same, acts-joint, takes-joint, unseen-joint, units-joint}
use Rattle.end_model.proofs.DirectWords.{Live}
use Rattle.end_model.proofs.DirectTaking as taking

-- ---- before the association stands: the phase, the stage, and nothing is awaited

pub record At (phase : Phase) (stage : Stage) (body : Body) : Type 0 where
  pub phase_is : body.link.phase ≡ phase
  pub stage_is : body.link.stage ≡ stage
  pub calm : body.link.awaits ≡ NoAnswer

-- ---- accepted contexts

pub known-set : (set : List SetItem) → IsKnownSet (λ name. is_some (syntax_named name)) (set_seen set)
known-set [] = tt
known-set (item ∷ set) = (known-syntax item.pair.transfer, known-set set)

append-none : {X : Type 0} (xs : List X) → xs ++ [] ≡ xs
append-none [] = refl
append-none (x ∷ xs) = ap (λ ys. x ∷ ys) (append-none xs)

pub rising-set : (add : List Proposal) (answers : List AddAnswer) → fit_proposals add answers ≡ true → IsRising (set_seen (accepted_set add answers))
rising-set add answers h =
    subst IsRising (added-altered add answers [] [] [] h) (rising-altered (map addition_seen add ++ []) (added_seen add answers ++ []) [] tt)

-- ---- what an end does with a word before its association stands

pub reacts-before : (phase : Phase) (stage : Stage) (base : Base) (body : Body) (word : Word) → passes_over phase ≡ false → (is_joined stage || is_carrying stage) ≡ true → At phase stage body → word_fault (record base { mode = Direct }) body word ≡ None → react (record base { mode = Direct }) body (Session word) ≡ Takes (after_word (record base { mode = Direct }) body word) (answers_to_word (record base { mode = Direct }) body word) (shown_of_word (record base { mode = Direct }) body word)
reacts-before phase stage base body word alive there at none =
    let b : Base = record base { mode = Direct } in
    let e : passes_over body.link.phase ≡ false = ap passes_over at.phase_is ∙ alive in
    let s : (is_joined body.link.stage || is_carrying body.link.stage) ≡ true = ap (λ x. is_joined x || is_carrying x) at.stage_is ∙ there in
    let kept : is_purged base.initiator body.link.awaits (unit_of word) ≡ false = ap (λ w. is_purged base.initiator w (unit_of word)) at.calm in
    ap (λ p. if p then Passes else react_to_word b body word) e ∙
    ap (λ p. if not p then fails body body.link.accepted transport_fault else (if is_purged base.initiator body.link.awaits (unit_of word) then Passes else on_word b body word (word_fault b body word))) s ∙
    ap (λ p. if p then Passes else on_word b body word (word_fault b body word)) kept ∙
    ap (on_word b body word) none

and-none : (b : Bool) → (b && false) ≡ false
and-none true = refl
and-none false = refl

or-first : (p q : Bool) → (p || q) ≡ false → p ≡ false
or-first true q h = cc
or-first false q h = refl

or-second : (p q : Bool) → (p || q) ≡ false → q ≡ false
or-second true q h = cc
or-second false q h = h

not-false : (b : Bool) → not b ≡ false → b ≡ true
not-false true h = refl
not-false false h = cc

alive-at : (phase : Phase) (stage : Stage) (base : Base) (body : Body) → (phase_seen stage phase ≡ model_over → ⊥) → At phase stage body → (seen base body).phase ≡ model_over → ⊥
alive-at phase stage base body not_over at e =
    not_over (sym (ap (λ s. phase_seen s phase) at.stage_is) ∙ sym (ap (phase_seen body.link.stage) at.phase_is) ∙ e)

calm-at : (phase : Phase) (stage : Stage) (role : Role) (base : Base) (body : Body) → At phase stage body → (message : model.Message) → model_purged role (seen base body).awaits message ≡ false
calm-at phase stage role base body at message = ap (λ w. model_purged role (awaited_seen w) message) at.calm

module _ (free : Free) (tables : Tables) (spellings : Spellings) (a b : Config) where
  abbrev base : Role → Base
  base = taking.base free tables spellings a b

  abbrev proposed : List Proposal
  proposed = taking.proposed free tables spellings a b

  abbrev setup : model.ModelSetup
  setup = taking.setup free tables spellings a b

  abbrev AreJoint : World → Role → Body → List Message → Body → List Message → List (List SetItem) → List (List SetItem) → Shared → Type 0
  AreJoint = taking.AreJoint free tables spellings a b

  -- ---- CR and CC

  abbrev pub cr : Message
  cr = connection_request (base Initiator)

  abbrev confirm : TransportUnit
  confirm = ConnectionConfirm 1 (Some 10)

  abbrev pub cn_word : Word
  cn_word = OfAssociation (Connect (session_connect (base Initiator)) (presentation_connect (base Initiator)) (connect_values (base Initiator) false))

  abbrev pub cn : Message
  cn = Session cn_word

  abbrev request : TransportUnit
  request = ConnectionRequest 1 (Some 10) a.calling a.called

  pub record Asks (world : World) (body : Body) (left : List Message) (peer : Body) (to_peer : List Message) (rest gs : List (List SetItem)) (shared : Shared) : Type 0 where
    pub later : Body
    pub reacts : react (base Responder) body cr ≡ Takes later (Transport confirm ∷ []) []
    pub ends : AreJoint world Responder later left peer (to_peer ++ Transport confirm ∷ []) rest (gs ++ before shared (Transport confirm ∷ [])) shared
    pub sound : IsSoundBody Direct (base Responder) later
    pub at : At Opening Joined later

  pub asked : (world : World) (body : Body) (left : List Message) (peer : Body) (to_peer : List Message) (f : List SetItem) (rest gs : List (List SetItem)) (shared : Shared) → AreJoint world Responder body (cr ∷ left) peer to_peer (f ∷ rest) gs shared → IsSoundBody Direct (base Responder) body → At Idle Unused body → Asks world body left peer to_peer rest gs shared
  asked world body left peer to_peer f rest gs shared j sound at =
      let later : Body = after_transport (base Responder) body request in
      let put : states.Phase → states.State = λ p. record (seen (base Responder) body) { phase = p } in
      let now : phase_seen Joined (phase_asked body.link.phase true) ≡ model_idle = ap (λ p. phase_seen Joined (phase_asked p true)) at.phase_is in
      let before : phase_seen body.link.stage body.link.phase ≡ model_idle = ap (phase_seen body.link.stage) at.phase_is in
      record {
        later = later;
        reacts =
            ap (λ p. if passes_over p then Passes else react_to_transport (base Responder) body request) at.phase_is ∙
            ap (λ w. if is_transport_purged w then Passes else on_transport (base Responder) body request (transport_unit_fault (base Responder) body request)) at.calm ∙
            ap (λ s. on_transport (base Responder) body request (fault_if (not (is_unused s && is_waiting body.link.phase)) transport_fault)) at.stage_is ∙
            ap (λ p. on_transport (base Responder) body request (fault_if (not (is_waiting p)) transport_fault)) at.phase_is;
        ends =
            unseen-joint free tables spellings a b world Responder body later left peer to_peer (Transport confirm ∷ []) rest gs shared
            (units-joint free tables spellings a b world Responder body request left peer to_peer f rest gs shared j)
            (ap put (now ∙ sym before)) tt;
        sound = record { numbered = sound.numbered; calm = tt; sets = tt; queues = sound.queues };
        at = record { phase_is = ap (λ p. phase_asked p true) at.phase_is; stage_is = refl; calm = at.calm };
      }

  pub record Connecting (world : World) (body : Body) (left : List Message) (peer : Body) (to_peer : List Message) (rest gs : List (List SetItem)) (shared : Shared) : Type 0 where
    pub later : Body
    pub reacts : react (base Initiator) body (Transport confirm) ≡ Takes later (cn ∷ []) []
    pub ends : AreJoint (By Initiator (Acts Connects) ∷ world) Initiator later left peer (to_peer ++ cn ∷ []) rest (gs ++ before shared (cn ∷ [])) shared
    pub sound : IsSoundBody Direct (base Initiator) later
    pub at : At Opening Carrying later

  pub confirmed : (world : World) (body : Body) (left : List Message) (peer : Body) (to_peer : List Message) (f : List SetItem) (rest gs : List (List SetItem)) (shared : Shared) → AreJoint world Initiator body (Transport confirm ∷ left) peer to_peer (f ∷ rest) gs shared → IsSoundBody Direct (base Initiator) body → At Opening Asked body → Connecting world body left peer to_peer rest gs shared
  confirmed world body left peer to_peer f rest gs shared j sound at =
      let later : Body = after_transport (base Initiator) body confirm in
      let none : transport_unit_fault (base Initiator) body confirm ≡ None = ap (λ s. fault_if (not (is_asked s && true)) transport_fault) at.stage_is in
      let due : connect_message (base Initiator) (is_recovering body.link.phase) ≡ cn = ap (λ p. connect_message (base Initiator) (is_recovering p)) at.phase_is in
      record {
        later = later;
        reacts =
            ap (λ p. if passes_over p then Passes else react_to_transport (base Initiator) body confirm) at.phase_is ∙
            ap (λ w. if is_transport_purged w then Passes else on_transport (base Initiator) body confirm (transport_unit_fault (base Initiator) body confirm)) at.calm ∙
            ap (on_transport (base Initiator) body confirm) none ∙
            ap (λ m. Takes later (m ∷ []) []) due;
        ends =
            subst (λ m. AreJoint (By Initiator (Acts Connects) ∷ world) Initiator later left peer (to_peer ++ m ∷ []) rest (gs ++ before shared (m ∷ [])) (shared_all_sent Direct (side_of Initiator) (m ∷ []) shared)) due
            (acts-joint free tables spellings a b world Initiator body later left peer to_peer (connect_message (base Initiator) (is_recovering body.link.phase) ∷ []) Connects rest gs shared
            (units-joint free tables spellings a b world Initiator body confirm left peer to_peer f rest gs shared j)
            (connections-act.connects Direct 1 (Some 10) free (base Initiator) proposed body tt at.phase_is none) (tt, tt));
        sound = record { numbered = sound.numbered; calm = tt; sets = tt; queues = sound.queues };
        at = record { phase_is = at.phase_is; stage_is = refl; calm = at.calm };
      }

  -- ---- AC and RF as they are sent

  pub record IsAccept (word : Word) : Type 0 where
    pub session : Accepting
    pub presentation : PresentationAccept
    pub values : List DataValue
    pub is_it : word ≡ OfAssociation (Accept session presentation values)
    pub version : has_version_two session.version ≡ true
    pub units : has_units (needed_units Direct) (selected_with Direct session.requirements) ≡ true
    pub selected : selected_with Direct session.requirements ≡ proposed_units Direct
    pub manages : manages_with presentation.requirements (selected_with Direct session.requirements) ≡ true
    pub no_fault : accept_fault (base Initiator) presentation values ≡ None

  pub record IsRefusal (word : Word) : Type 0 where
    pub transport : Option ℕ
    pub reason : Option ℕ
    pub presentation : Option PresentationReject
    pub values : List DataValue
    pub is_it : word ≡ OfAssociation (Refuse transport reason presentation values)

  -- ---- CN

  abbrev presentation : PresentationConnect
  presentation = presentation_connect (base Initiator)

  abbrev session : SessionConnect
  session = session_connect (base Initiator)

  abbrev values : List DataValue
  values = connect_values (base Initiator) false

  abbrev held : List SetItem
  held = set_for (base Responder) presentation

  pub connect-fine : (body : Body) → ProposesRightly (taking.common free tables spellings a b) → At Opening Joined body → word_fault (base Responder) body cn_word ≡ None
  connect-fine body right at =
      fine (base Responder) body cn_word (ap is_joined at.stage_is)
      (ap (λ p. or_fault (fault_if p invalid_ppdu) (or_fault (fault_if (has_acse held && false) acse_fault) None)) right ∙
      ap (λ p. or_fault (fault_if p acse_fault) None) (and-none (has_acse held)))

  pub data Connected (body : Body) (left : List Message) (peer : Body) (to_peer : List Message) (rest gs : List (List SetItem)) (shared : Shared) : Type 0 where
    Accepts : (world' : World) (later : Body) (answer : Word) (shown : List Indication) → react (base Responder) body cn ≡ Takes later (Session answer ∷ []) shown
        → AreJoint world' Responder later left peer (to_peer ++ Session answer ∷ []) rest (gs ++ before shared (Session answer ∷ [])) (shared_all_answered (base Responder) cn (Session answer ∷ []) shared) → IsSoundBody Direct (base Responder) later → Live later → IsAccept answer
        → Connected body left peer to_peer rest gs shared
    Refuses : (world' : World) (later : Body) (answer : Word) (shown : List Indication) → react (base Responder) body cn ≡ Takes later (Session answer ∷ []) shown
        → AreJoint world' Responder later left peer (to_peer ++ Session answer ∷ []) rest (gs ++ before shared (Session answer ∷ [])) (shared_all_answered (base Responder) cn (Session answer ∷ []) shared) → IsSoundBody Direct (base Responder) later → later.link.phase ≡ Over → IsRefusal answer
        → Connected body left peer to_peer rest gs shared

  -- where nothing refuses, association control is accepted
  has-acse : (body : Body) → is_refused (base Responder) body session presentation values ≡ false → has_acse held ≡ true
  has-acse body e =
      let r = or-first (session_refuses (base Responder) session || presentation_refuses (base Responder) presentation values) (is_some (transfer_rejection (base Responder) body values)) e in
      let p = or-second (session_refuses (base Responder) session) (presentation_refuses (base Responder) presentation values) r in
      not-false (has_acse held) (or-first (not (has_acse held)) (lacks_request (base Responder) held values) p)

  fit : fit_proposals proposed (results_for (base Responder) presentation) ≡ true
  fit = additions-answered (base Responder) true 0 proposed

  acceptance : (body : Body) → is_refused (base Responder) body session presentation values ≡ false → (word : Word) × (acceptance_message (base Responder) session presentation values ≡ Session word) × IsAccept word
  acceptance body e = (
    _,
    refl,
    record {
      session = _;
      presentation = _;
      values = _;
      is_it = refl;
      version = refl;
      units = refl;
      selected = refl;
      manages = refl;
      no_fault =
          ap (λ p. or_fault (fault_if (not p) invalid_ppdu) (or_fault (fault_if (not (has_acse held) || false) invalid_ppdu) None)) fit ∙
          ap (λ p. or_fault (fault_if (not p || false) invalid_ppdu) None) (has-acse body e);
    },
  )

  refusal : (body : Body) → (word : Word) × (refusal_message (base Responder) body session presentation values ≡ Session word) × IsRefusal word
  refusal body = go (is_some presentation.default_context || not (has_acse held)) refl
    where
      go : (p : Bool) → (is_some presentation.default_context || not (has_acse held)) ≡ p → (word : Word) × (refusal_message (base Responder) body session presentation values ≡ Session word) × IsRefusal word
      go true e = (_, ap (λ p. if p then provider_refusal else refuse_message held (results_for (base Responder) presentation) (context_named (the_one values)) (if lacks_request (base Responder) held values then [] else rejecting_information (base Responder) session held (transfer_rejection (base Responder) body values))) e, record { transport = _; reason = _; presentation = _; values = _; is_it = refl })
      go false e = (_, ap (λ p. if p then provider_refusal else refuse_message held (results_for (base Responder) presentation) (context_named (the_one values)) (if lacks_request (base Responder) held values then [] else rejecting_information (base Responder) session held (transfer_rejection (base Responder) body values))) e, record { transport = _; reason = _; presentation = _; values = _; is_it = refl })

  joined-not_over : phase_seen Joined Opening ≡ model_over → ⊥
  joined-not_over h = go h
    where
      go : model_idle ≡ model_over → ⊥
      go h = cc

  pub connected : (world : World) (body : Body) (left : List Message) (peer : Body) (to_peer : List Message) (f : List SetItem) (rest gs : List (List SetItem)) (shared : Shared) → ProposesRightly (taking.common free tables spellings a b) → AreJoint world Responder body (cn ∷ left) peer to_peer (f ∷ rest) gs shared → IsSoundBody Direct (base Responder) body → At Opening Joined body → Connected body left peer to_peer rest gs shared
  connected world body left peer to_peer f rest gs shared right j sound at = go (is_refused (base Responder) body session presentation values) refl
    where
      fine_now : word_fault (base Responder) body cn_word ≡ None
      fine_now = connect-fine body right at

      reacts : react (base Responder) body cn ≡ Takes (after_word (base Responder) body cn_word) (answers_to_word (base Responder) body cn_word) (shown_of_word (base Responder) body cn_word)
      reacts = reacts-before Opening Joined (base Responder) body cn_word refl refl at fine_now

      go : (refused : Bool) → is_refused (base Responder) body session presentation values ≡ refused → Connected body left peer to_peer rest gs shared
      go false e =
          let choice : model.Choice = accepting (set_seen held) in
          let o = openings-taken.opened Direct session presentation values free (base Responder) body e refl in
          let chosen : IsChoice setup (seen (base Responder) body) model_connect choice = record { is_set = rising-set proposed (results_for (base Responder) presentation) fit; is_known = known-set held } in
          let t =
          takes-kept free (taking.common free tables spellings a b) proposed world Responder body cn_word left peer to_peer choice j.ends (alive-at Opening Joined (base Responder) body joined-not_over at)
          (λ message means. calm-at Opening Joined Responder (base Responder) body at message)
          (λ message means. subst (λ m. IsChoice setup (seen (base Responder) body) m choice) (sym means) chosen)
          (λ message means may. subst (λ m. TakenAs free Direct (base Responder) proposed body cn_word m choice) (sym means) (record { no_fault = fine_now; chosen = chosen; after = o.after; means = o.means })) in
          let x = acceptance body e in
          let answers : answers_to_word (base Responder) body cn_word ≡ Session x.0 ∷ [] =
          ap (λ p. if p then refusal_message (base Responder) body session presentation values ∷ [] else acceptance_message (base Responder) session presentation values ∷ []) e ∙
          ap (λ m. m ∷ []) x.1 in
          let accepts : answers_to_word (base Responder) body cn_word ≡ acceptance_message (base Responder) session presentation values ∷ [] =
          ap (λ p. if p then refusal_message (base Responder) body session presentation values ∷ [] else acceptance_message (base Responder) session presentation values ∷ []) e in
          let now : Same (anew held) (worlds.shared_answered model_connect choice (shared_at setup world)) = record { set = refl; saved = refl } in
          let same : Same (shared_all_answered (base Responder) cn (answers_to_word (base Responder) body cn_word) shared) (worlds.shared_answered t.message choice (shared_at setup world)) =
          subst (λ m. Same (shared_all_answered (base Responder) cn (answers_to_word (base Responder) body cn_word) shared) (worlds.shared_answered m choice (shared_at setup world))) (sym t.means)
          (subst (λ ms. Same (shared_all_answered (base Responder) cn ms shared) (worlds.shared_answered model_connect choice (shared_at setup world))) (sym accepts) now) in
          let after : after_word (base Responder) body cn_word ≡ accepted_connect (base Responder) body session presentation values =
          ap (λ p. if p then refused_connect body else accepted_connect (base Responder) body session presentation values) e in
          Accepts (By Responder (model_takes t.message choice) ∷ world) (after_word (base Responder) body cn_word) x.0 (shown_of_word (base Responder) body cn_word)
          (reacts ∙ ap (λ ms. Takes (after_word (base Responder) body cn_word) ms (shown_of_word (base Responder) body cn_word)) answers)
          (subst (λ ms. AreJoint (By Responder (model_takes t.message choice) ∷ world) Responder (after_word (base Responder) body cn_word) left peer (to_peer ++ ms) rest (gs ++ before shared ms) (shared_all_answered (base Responder) cn ms shared)) answers
          (takes-joint free tables spellings a b world Responder body cn_word left peer to_peer choice f rest gs shared (shared_all_answered (base Responder) cn (answers_to_word (base Responder) body cn_word) shared) j t same))
          (subst (IsSoundBody Direct (base Responder)) (sym after) (record { numbered = tt; calm = tt; sets = tt; queues = refl }))
          (subst Live (sym after) (record { joined = record { stage = refl; selected = refl; manages = refl }; phase = inl refl }))
          x.2
      go true e =
          let o = openings-taken.refused_opening Direct session presentation values free (base Responder) proposed body e at.phase_is in
          let t =
          takes-kept free (taking.common free tables spellings a b) proposed world Responder body cn_word left peer to_peer Refusing j.ends (alive-at Opening Joined (base Responder) body joined-not_over at)
          (λ message means. calm-at Opening Joined Responder (base Responder) body at message)
          (λ message means. subst (λ m. IsChoice setup (seen (base Responder) body) m Refusing) (sym means) tt)
          (λ message means may. subst (λ m. TakenAs free Direct (base Responder) proposed body cn_word m Refusing) (sym means) (record { no_fault = fine_now; chosen = tt; after = o.after; means = o.means })) in
          let x = refusal body in
          let answers : answers_to_word (base Responder) body cn_word ≡ Session x.0 ∷ [] =
          ap (λ p. if p then refusal_message (base Responder) body session presentation values ∷ [] else acceptance_message (base Responder) session presentation values ∷ []) e ∙
          ap (λ m. m ∷ []) x.1 in
          let same : Same (shared_all_answered (base Responder) cn (answers_to_word (base Responder) body cn_word) shared) (worlds.shared_answered t.message Refusing (shared_at setup world)) =
          subst (λ m. Same (shared_all_answered (base Responder) cn (answers_to_word (base Responder) body cn_word) shared) (worlds.shared_answered m Refusing (shared_at setup world))) (sym t.means)
          (subst (λ ms. Same (shared_all_answered (base Responder) cn ms shared) (shared_at setup world)) (sym (answers ∙ ap (λ w. Session w ∷ []) x.2.is_it)) j.same) in
          let after : after_word (base Responder) body cn_word ≡ refused_connect body =
          ap (λ p. if p then refused_connect body else accepted_connect (base Responder) body session presentation values) e in
          Refuses (By Responder (model_takes t.message Refusing) ∷ world) (after_word (base Responder) body cn_word) x.0 (shown_of_word (base Responder) body cn_word)
          (reacts ∙ ap (λ ms. Takes (after_word (base Responder) body cn_word) ms (shown_of_word (base Responder) body cn_word)) answers)
          (subst (λ ms. AreJoint (By Responder (model_takes t.message Refusing) ∷ world) Responder (after_word (base Responder) body cn_word) left peer (to_peer ++ ms) rest (gs ++ before shared ms) (shared_all_answered (base Responder) cn ms shared)) answers
          (takes-joint free tables spellings a b world Responder body cn_word left peer to_peer Refusing f rest gs shared (shared_all_answered (base Responder) cn (answers_to_word (base Responder) body cn_word) shared) j t same))
          (subst (IsSoundBody Direct (base Responder)) (sym after) (record { numbered = sound.numbered; calm = tt; sets = tt; queues = sound.queues }))
          (ap (λ (y : Body). y.link.phase) after ∙ ap (λ p. if is_broken p then Broken else Over) at.phase_is)
          x.2

  -- ---- AC and RF

  carrying-not_over : phase_seen Carrying Opening ≡ model_over → ⊥
  carrying-not_over h = go h
    where
      go : model_opening ≡ model_over → ⊥
      go h = cc

  -- what an initiator waits for after its CN is in place
  asked-so : (body : Body) → At Opening Carrying body → (is_carrying body.link.stage && is_opening body.link.phase) ≡ true
  asked-so body at =
      ap (λ s. is_carrying s && is_opening body.link.phase) at.stage_is ∙ ap (λ p. is_opening p) at.phase_is

  pub record Answered (body : Body) (word : Word) (left : List Message) (peer : Body) (to_peer : List Message) (rest gs : List (List SetItem)) (shared : Shared) : Type 0 where
    pub world' : World
    pub later : Body
    pub shown : List Indication
    pub reacts : react (base Initiator) body (Session word) ≡ Takes later [] shown
    pub ends : AreJoint world' Initiator later left peer (to_peer ++ []) rest (gs ++ []) shared
    pub sound : IsSoundBody Direct (base Initiator) later
    pub side : Live later ⊎ (later.link.phase ≡ Over)

  accept-so : (world : World) (body : Body) (s : Accepting) (p : PresentationAccept) (v : List DataValue) (left : List Message) (peer : Body) (to_peer : List Message) (f : List SetItem) (rest gs : List (List SetItem)) (shared : Shared) → AreJoint world Initiator body (Session (OfAssociation (Accept s p v)) ∷ left) peer to_peer (f ∷ rest) gs shared → IsSoundBody Direct (base Initiator) body → At Opening Carrying body → has_version_two s.version ≡ true → has_units (needed_units Direct) (selected_with Direct s.requirements) ≡ true → selected_with Direct s.requirements ≡ proposed_units Direct → manages_with p.requirements (selected_with Direct s.requirements) ≡ true → accept_fault (base Initiator) p v ≡ None → Answered body (OfAssociation (Accept s p v)) left peer to_peer rest gs shared
  accept-so world body s p v left peer to_peer f rest gs shared j sound at version units selected manages none =
      let word : Word = OfAssociation (Accept s p v) in
      let fine_now : word_fault (base Initiator) body word ≡ None = fine (base Initiator) body word (rw (asked-so body at, version, units) refl) none in
      let o = openings-taken.accept Direct s p v free (base Initiator) proposed body in
      let t =
      takes-kept free (taking.common free tables spellings a b) proposed world Initiator body word left peer to_peer Nothing j.ends (alive-at Opening Carrying (base Initiator) body carrying-not_over at)
      (λ message means. calm-at Opening Carrying Initiator (base Initiator) body at message)
      (λ message means. subst (λ m. IsChoice setup (seen (base Initiator) body) m Nothing) (sym means) tt)
      (λ message means may. subst (λ m. TakenAs free Direct (base Initiator) proposed body word m Nothing) (sym means) (record { no_fault = fine_now; chosen = tt; after = o.after; means = o.means })) in
      record {
        world' = By Initiator (model_takes t.message Nothing) ∷ world;
        later = after_word (base Initiator) body word;
        shown = shown_of_word (base Initiator) body word;
        reacts = reacts-before Opening Carrying (base Initiator) body word refl refl at fine_now;
        ends = takes-joint free tables spellings a b world Initiator body word left peer to_peer Nothing f rest gs shared shared j t (subst (λ m. Same shared (worlds.shared_answered m Nothing (shared_at setup world))) (sym t.means) j.same);
        sound = record { numbered = sound.numbered; calm = tt; sets = tt; queues = sound.queues };
        side = inl (record { joined = record { stage = refl; selected = selected; manages = manages }; phase = inl refl });
      }

  pub accepted : (world : World) (body : Body) (word : Word) (left : List Message) (peer : Body) (to_peer : List Message) (f : List SetItem) (rest gs : List (List SetItem)) (shared : Shared) → AreJoint world Initiator body (Session word ∷ left) peer to_peer (f ∷ rest) gs shared → IsSoundBody Direct (base Initiator) body → At Opening Carrying body → IsAccept word → Answered body word left peer to_peer rest gs shared
  accepted world body word left peer to_peer f rest gs shared j sound at x =
      subst (λ w. Answered body w left peer to_peer rest gs shared) (sym x.is_it)
      (accept-so world body x.session x.presentation x.values left peer to_peer f rest gs shared (subst (λ w. AreJoint world Initiator body (Session w ∷ left) peer to_peer (f ∷ rest) gs shared) x.is_it j) sound at x.version x.units x.selected x.manages x.no_fault)

  refuse-so : (world : World) (body : Body) (transport reason : Option ℕ) (p : Option PresentationReject) (v : List DataValue) (left : List Message) (peer : Body) (to_peer : List Message) (f : List SetItem) (rest gs : List (List SetItem)) (shared : Shared) → AreJoint world Initiator body (Session (OfAssociation (Refuse transport reason p v)) ∷ left) peer to_peer (f ∷ rest) gs shared → IsSoundBody Direct (base Initiator) body → At Opening Carrying body → Answered body (OfAssociation (Refuse transport reason p v)) left peer to_peer rest gs shared
  refuse-so world body transport reason p v left peer to_peer f rest gs shared j sound at =
      let word : Word = OfAssociation (Refuse transport reason p v) in
      let fine_now : word_fault (base Initiator) body word ≡ None = fine (base Initiator) body word (asked-so body at) refl in
      let t =
      takes-kept free (taking.common free tables spellings a b) proposed world Initiator body word left peer to_peer Nothing j.ends (alive-at Opening Carrying (base Initiator) body carrying-not_over at)
      (λ message means. calm-at Opening Carrying Initiator (base Initiator) body at message)
      (λ message means. subst (λ m. IsChoice setup (seen (base Initiator) body) m Nothing) (sym means) tt)
      (λ message means may. subst (λ m. TakenAs free Direct (base Initiator) proposed body word m Nothing) (sym means) (record { no_fault = fine_now; chosen = tt; after = refl; means = tt })) in
      record {
        world' = By Initiator (model_takes t.message Nothing) ∷ world;
        later = after_word (base Initiator) body word;
        shown = shown_of_word (base Initiator) body word;
        reacts = reacts-before Opening Carrying (base Initiator) body word refl refl at fine_now;
        ends = takes-joint free tables spellings a b world Initiator body word left peer to_peer Nothing f rest gs shared shared j t (subst (λ m. Same shared (worlds.shared_answered m Nothing (shared_at setup world))) (sym t.means) j.same);
        sound = record { numbered = sound.numbered; calm = tt; sets = tt; queues = sound.queues };
        side = inr refl;
      }

  pub refused-by : (world : World) (body : Body) (word : Word) (left : List Message) (peer : Body) (to_peer : List Message) (f : List SetItem) (rest gs : List (List SetItem)) (shared : Shared) → AreJoint world Initiator body (Session word ∷ left) peer to_peer (f ∷ rest) gs shared → IsSoundBody Direct (base Initiator) body → At Opening Carrying body → IsRefusal word → Answered body word left peer to_peer rest gs shared
  refused-by world body word left peer to_peer f rest gs shared j sound at x =
      subst (λ w. Answered body w left peer to_peer rest gs shared) (sym x.is_it)
      (refuse-so world body x.transport x.reason x.presentation x.values left peer to_peer f rest gs shared (subst (λ w. AreJoint world Initiator body (Session w ∷ left) peer to_peer (f ∷ rest) gs shared) x.is_it j) sound at)
