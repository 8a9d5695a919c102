-- The messages that an end writes, with all their fields (X.224 13, X.225 8.3, X.226 8.2, X.227 9, X.228 9).
use Rattle.std.specs.Prelude.{ℕ, pos, List, [], ◌∷◌, ◌++◌, Bool, true, false, Option, Some, None, unwrap_or, option_map}
use Rattle.osi_base.specs.declared.bit_string.BitString.{BitString}
use Rattle.osi_base.specs.declared.syntax.Pair.{Pair}
use Rattle.osi_base.specs.declared.syntax.Syntax.TheVariants.{Ber}
use Rattle.osi_base.specs.declared.layer_words.SetItem.{SetItem}
use Rattle.osi_base.specs.declared.layer_words.Proposal.{Proposal}
use Rattle.osi_base.specs.declared.layer_words.AddAnswer.{AddAnswer}
use Rattle.osi_base.specs.declared.session_word.SessionConnect.{SessionConnect}
use Rattle.osi_base.specs.declared.presentation_word.PresentationConnect.{PresentationConnect}
use Rattle.osi_base.specs.declared.presentation_word.PresentationReject.{PresentationReject}
use Rattle.osi_base.specs.declared.acse_word.Acse.{Acse}
use Rattle.osi_base.specs.declared.acse_word.Acse.TheVariants as acse
use Rattle.osi_base.specs.declared.acse_word.Diagnostic.TheVariants.{User}
use Rattle.osi_base.specs.declared.rtse_word.Rtse.{Rtse}
use Rattle.osi_base.specs.declared.rtse_word.Rtse.TheVariants as rtse
use Rattle.osi_base.specs.declared.rtse_word.ConnectionData.{ConnectionData}
use Rattle.osi_base.specs.declared.rtse_word.ConnectionData.TheVariants as data_of
use Rattle.dialogue.specs.declared.config.Mode.{Mode}
use Rattle.dialogue.specs.declared.config.Mode.TheVariants.{Bare, Direct, Reliable}
use Rattle.dialogue.specs.declared.config.Phase.{Phase}
use Rattle.dialogue.specs.declared.config.Phase.TheVariants.{Recovering}
use Rattle.end_rules.specs.Base.{Base, ber_name, application_context}
use Rattle.end_rules.specs.Sets.{lowest_with}
use Rattle.osi_base.specs.SetPlaces.{pair_of}
use Rattle.osi_base.specs.Syntax.{acse_name, rtse_name}
use Rattle.end_rules.specs.Messages.{Information, Transferring, ValueContent, Association, Plea, Part, DataValue, ConnectionRequest, NoData, ProviderReason, UserValues, Connect, Accept, Refuse, Finish, Disconnect, Abort, Values, Give, GiveConfirm, Please, OfAssociation, OfData, OfMarks, Message, Transport, Session}
use Rattle.end_rules.specs.State.{Body}
use Rattle.end_rules.specs.Units.{proposed_units}

-- ---- values of the association

-- the lowest of the accepted contexts with this abstract syntax, or the one that an initiator proposes
abbrev pub context_with : List ℕ → ℕ → List SetItem → ℕ
context_with name proposed accepted = unwrap_or (lowest_with name [] accepted) proposed

abbrev pub acse_context : List SetItem → ℕ
acse_context accepted = context_with acse_name 1 accepted

abbrev pub rtse_context : List SetItem → ℕ
rtse_context accepted = context_with rtse_name 3 accepted

abbrev pub acse_pair : Pair
acse_pair = record { abstract_name = acse_name; transfer = Ber }

-- an APDU of association control with its user information
abbrev pub acse_value : List SetItem → Acse → List Information → DataValue
acse_value accepted apdu user = record { id = acse_context accepted; pair = Some acse_pair; content = Association apdu user }

-- in reliable mode user information is one APDU of reliable transfer
abbrev pub information : Mode → List SetItem → Rtse → List Information
information Reliable accepted apdu = Transferring (rtse_context accepted) apdu ∷ []
information Direct accepted apdu = []
information Bare accepted apdu = []

-- ---- the opening

-- the contexts that an initiator proposes
abbrev pub proposal_in_ber : ℕ → List ℕ → Proposal
proposal_in_ber k name = record { id = k; abstract_name = name; transfers = ber_name ∷ [] }

abbrev pub own_proposals : Mode → List Proposal
own_proposals Reliable = proposal_in_ber 1 acse_name ∷ proposal_in_ber 3 rtse_name ∷ []
own_proposals Direct = proposal_in_ber 1 acse_name ∷ []
own_proposals Bare = proposal_in_ber 1 acse_name ∷ []

abbrev pub proposals : Base → List Proposal
proposals base = own_proposals base.mode ++ base.config.contexts

-- the references of the association stand in the CN of reliable mode
abbrev pub in_reliable : Mode → List ℕ → Option (List ℕ)
in_reliable Reliable octets = Some octets
in_reliable Direct octets = None
in_reliable Bare octets = None

-- the initial serial number, in direct mode
abbrev pub initial_number : Mode → Option ℕ
initial_number Direct = Some 1
initial_number Reliable = None
initial_number Bare = None

-- context management and restoration, both or none
abbrev pub requirement_bits : Bool → BitString
requirement_bits true = record { octets = 192 ∷ []; unused = 6 }
requirement_bits false = record { octets = 0 ∷ []; unused = 6 }

abbrev pub session_connect : Base → SessionConnect
session_connect base =
    record {
      calling_reference = in_reliable base.mode base.config.reference;
      common_reference = in_reliable base.mode base.config.common;
      options = Some 0;
      version = Some 2;
      initial = initial_number base.mode;
      token_setting = None;
      requirements = Some (proposed_units base.mode);
      calling = Some base.config.calling;
      called = Some base.config.called;
      user = [];
    }

abbrev pub presentation_connect : Base → PresentationConnect
presentation_connect base =
    record {
      version = None;
      calling = Some base.config.calling;
      called = Some base.config.called;
      definitions = proposals base;
      default_context = None;
      requirements = Some (requirement_bits true);
      session_requirements = None;
      user = [];
    }

-- what the opening of an association carries for its user: NULL; or which association it recovers
abbrev pub connection_data : Base → Bool → ConnectionData
connection_data base true = data_of.Recover base.config.reference base.config.common
connection_data base false = data_of.Open (5 ∷ 0 ∷ [])

abbrev pub connect_values : Base → Bool → List DataValue
connect_values base recovers =
    acse_value [] (acse.AssociateRequest None (application_context base.mode) [])
    (information base.mode [] (rtse.OpenRequest base.config.checkpoint base.config.window (pos 1) (connection_data base recovers))) ∷ []

-- CN, for an opening or a recovery
abbrev pub connect_message : Base → Bool → Message
connect_message base recovers = Session (OfAssociation (Connect (session_connect base) (presentation_connect base) (connect_values base recovers)))

-- AC with these results
abbrev pub accept_message : Base → List SetItem → List AddAnswer → ℕ → Bool → List ℕ → List Information → Message
accept_message base accepted results selected manages context user =
    Session (OfAssociation (Accept
    (record { options = Some 0; version = Some 2; initial = initial_number base.mode; requirements = Some selected })
    (record { version = None; responding = Some base.config.called; results = results; requirements = Some (requirement_bits manages); session_requirements = None; user = [] })
    (acse_value accepted (acse.AssociateResponse context 0 (User (pos 0)) []) user ∷ [])))

abbrev pub reject_with : List AddAnswer → Option ℕ → PresentationReject
reject_with results reason =
    record { version = None; responding = None; results = results; default_result = None; reason = option_map pos reason; user = [] }

-- RF with an AARE
abbrev pub refuse_message : List SetItem → List AddAnswer → List ℕ → List Information → Message
refuse_message accepted results context user =
    Session (OfAssociation (Refuse (Some 1) (Some 2) (Some (reject_with results None))
    (acse_value accepted (acse.AssociateResponse context 1 (User (pos 1)) []) user ∷ [])))

-- RF of the provider: reason not specified
abbrev pub provider_refusal : Message
provider_refusal = Session (OfAssociation (Refuse (Some 1) (Some 2) (Some (reject_with [] (Some 0))) []))

-- ---- release

abbrev pub finish_message : Body → Message
finish_message body = Session (OfAssociation (Finish (Some 1) (acse_value body.link.accepted (acse.ReleaseRequest (pos 0)) [] ∷ [])))

abbrev pub disconnect_message : Body → Message
disconnect_message body = Session (OfAssociation (Disconnect (acse_value body.link.accepted (acse.ReleaseResponse (pos 0)) [] ∷ [])))

-- ---- aborts

-- AB of the session's own: 17 05 and nothing else
abbrev pub session_abort : Message
session_abort = Session (OfAssociation (Abort (Some 5) NoData))

-- AB with ARP
abbrev pub provider_abort : ℕ → Message
provider_abort reason = Session (OfAssociation (Abort (Some 3) (ProviderReason (Some reason))))

-- AB with ARU and ABRT
abbrev pub user_abort : List SetItem → ℕ → List Information → Message
user_abort accepted source user = Session (OfAssociation (Abort (Some 3) (UserValues (acse_value accepted (acse.Abort source []) user ∷ []))))

-- ---- tokens

-- GT with the minor token, GTC of all tokens
abbrev pub give_message : Mode → Message
give_message Reliable = Session (OfMarks GiveConfirm)
give_message Direct = Session (OfMarks (Give (Some 4)))
give_message Bare = Session (OfMarks (Give (Some 4)))

abbrev pub rtse_value : Body → ValueContent → DataValue
rtse_value body content =
    record { id = rtse_context body.link.accepted; pair = pair_of body.sets.held (rtse_context body.link.accepted); content = content }

abbrev pub please_message : Body → Mode → ℕ → Message
please_message body Reliable priority = Session (OfMarks (Please (Some 21) (rtse_value body (Plea priority) ∷ [])))
please_message body Direct priority = Session (OfMarks (Please (Some 4) []))
please_message body Bare priority = Session (OfMarks (Please (Some 4) []))

-- DT with a part of a transfer
abbrev pub part_message : Body → List ℕ → Message
part_message body octets = Session (OfData (Values (rtse_value body (Part octets) ∷ [])))

-- ---- the transport connection

-- CR proposes 1,024 octets
abbrev pub connection_request : Base → Message
connection_request base = Transport (ConnectionRequest 1 (Some 10) base.config.calling base.config.called)

abbrev pub is_recovering : Phase → Bool
is_recovering Recovering = true
is_recovering _ = false
