-- How an opening is taken: what may not stand in it, whether it is accepted, and what an end is afterwards (X.225
-- 7.1, 7.4, 7.5; X.226 6.1, X.227 7.1, X.228 7.1; recoveries as in this project's profile).
use Rattle.std.specs.Prelude.{ℕ, ◌/◌, ◌%◌, min, pos, List, [], ◌∷◌, ◌++◌, Bool, true, false, not, ◌&&◌, ◌||◌, nat_eq, if◌then◌else◌, Option, Some, None, is_some}
use Rattle.std.specs.Ordering.{int_eq}
use Rattle.osi_base.specs.declared.layer_words.SetItem.{SetItem}
use Rattle.osi_base.specs.declared.layer_words.AddAnswer.{AddAnswer}
use Rattle.osi_base.specs.declared.session_word.SessionConnect.{SessionConnect}
use Rattle.osi_base.specs.declared.presentation_word.PresentationConnect.{PresentationConnect}
use Rattle.osi_base.specs.declared.presentation_word.PresentationAccept.{PresentationAccept}
use Rattle.osi_base.specs.declared.acse_word.Acse.{Acse}
use Rattle.osi_base.specs.declared.acse_word.Acse.TheVariants as acse
use Rattle.osi_base.specs.declared.rtse_word.Rtse.{Rtse}
use Rattle.osi_base.specs.declared.rtse_word.Rtse.TheVariants as rtse
use Rattle.osi_base.specs.declared.rtse_word.ConnectionData.{ConnectionData}
use Rattle.osi_base.specs.declared.rtse_word.ConnectionData.TheVariants as data_of
use Rattle.dialogue.specs.declared.config.Mode.{Mode}
use Rattle.dialogue.specs.declared.config.Mode.TheVariants.{Bare, Direct, Reliable}
use Rattle.dialogue.specs.declared.config.Phase.TheVariants.{Up, Broken, Over}
use Rattle.dialogue.specs.declared.indication.Indication.{Indication}
use Rattle.dialogue.specs.declared.indication.Indication.TheVariants as indications
use Rattle.end_rules.specs.Base.{Base, Fault, is_reliable}
use Rattle.end_rules.specs.Sets.{same_name, has_abstract, lowest_with, accepted_set, fit_proposals, Saved}
use Rattle.osi_base.specs.SetPlaces.{pair_of}
use Rattle.osi_base.specs.Syntax.{acse_name, rtse_name}
use Rattle.end_rules.specs.Messages.{Information, Transferring, Other, ValueContent, Association, DataValue, Accepting, Message}
use Rattle.end_rules.specs.State.{Body, Carrying, NoAnswer, new_body, is_broken, is_none}
use Rattle.end_rules.specs.Units.{has_units, needed_units, selected_with, has_version_two, manages_with}
use Rattle.end_rules.specs.Policy.{opening_policy, is_faulty_proposal}
use Rattle.end_rules.specs.Writing.{proposals, rtse_context, information, accept_message, refuse_message, provider_refusal, connection_data, is_recovering}
use Rattle.end_rules.specs.Faults.{invalid_ppdu, acse_fault, rtse_fault, fault_if, or_fault, cuts, losses}

-- ---- values of association control

-- the one APDU of association control among these values, with its user information
pub record Associated : Type 0 where
  pub apdu : Acse
  pub user : List Information

abbrev pub associated_in : ValueContent → Option Associated
associated_in (Association apdu user) = Some (record { apdu = apdu; user = user })
associated_in _ = None

abbrev pub the_one : List DataValue → Option Associated
the_one [] = None
the_one (value ∷ []) = associated_in value.content
the_one (value ∷ more ∷ values) = None

abbrev pub is_request : Option Associated → Bool
is_request None = false
is_request (Some a) = is_aarq a.apdu
  where
    is_aarq : Acse → Bool
    is_aarq (acse.AssociateRequest version context user) = true
    is_aarq _ = false

-- the AARE says that the association is accepted
abbrev pub is_accepting : Option Associated → Bool
is_accepting None = false
is_accepting (Some a) = is_accepted a.apdu
  where
    is_accepted : Acse → Bool
    is_accepted (acse.AssociateResponse context result diagnostic user) = nat_eq result 0
    is_accepted _ = false

abbrev pub user_of : Option Associated → List Information
user_of None = []
user_of (Some a) = a.user

-- the application context that came, which an answer names again
abbrev pub context_named : Option Associated → List ℕ
context_named None = []
context_named (Some a) = named a.apdu
  where
    named : Acse → List ℕ
    named (acse.AssociateRequest version context user) = context
    named _ = []

-- ---- user information of reliable transfer: the first EXTERNAL is read

-- its context is an accepted one of reliable transfer
abbrev pub is_on_rtse : List SetItem → ℕ → Bool
is_on_rtse accepted id = has_abstract rtse_name (pair_of accepted id)

abbrev pub rtse_in : List Information → Option Rtse
rtse_in [] = None
rtse_in (Transferring id apdu ∷ more) = Some apdu
rtse_in (Other id octets ∷ more) = None

-- what may not stand there: another context, another APDU
abbrev pub information_fault : (Rtse → Bool) → List SetItem → List Information → Option Fault
information_fault is_meant accepted [] = None
information_fault is_meant accepted (Transferring id apdu ∷ more) =
    or_fault (fault_if (not (is_on_rtse accepted id)) invalid_ppdu) (fault_if (not (is_meant apdu)) rtse_fault)
information_fault is_meant accepted (Other id octets ∷ more) = Some invalid_ppdu

-- ---- CN

-- a CN as it is looked at: what its list is answered, and which contexts stand then
abbrev pub results_for : Base → PresentationConnect → List AddAnswer
results_for base presentation = opening_policy base presentation.definitions

abbrev pub set_for : Base → PresentationConnect → List SetItem
set_for base presentation = accepted_set presentation.definitions (results_for base presentation)

abbrev pub has_acse : List SetItem → Bool
has_acse accepted = is_some (lowest_with acse_name [] accepted)

abbrev pub has_rtse : List SetItem → Bool
has_rtse accepted = is_some (lowest_with rtse_name [] accepted)

abbrev pub is_open_request : Rtse → Bool
is_open_request (rtse.OpenRequest checkpoint window mode connection) = true
is_open_request _ = false

-- Its list is faulty; or, where association control is accepted, it carries no AARQ; or, where reliable transfer
-- is, the AARQ carries what is no RTORQ.
abbrev pub connect_fault : Base → PresentationConnect → List DataValue → Option Fault
connect_fault base presentation values =
    or_fault (fault_if (is_faulty_proposal true [] presentation.definitions) invalid_ppdu)
    (or_fault (fault_if (has_acse (set_for base presentation) && not (is_request (the_one values))) acse_fault)
    (if is_reliable base.mode && has_acse (set_for base presentation) && has_rtse (set_for base presentation)
    then information_fault is_open_request (set_for base presentation) (user_of (the_one values))
    else None))

-- The session refuses: version 2 lacks, or a unit that the mode needs; another initial number than 1; a token at
-- the responder (a pair of bits 01 of the token setting).
abbrev pub has_other_initial : Option ℕ → Bool
has_other_initial None = false
has_other_initial (Some number) = not (nat_eq number 1)

abbrev pub gives_token : Option ℕ → Bool
gives_token None = false
gives_token (Some setting) =
    nat_eq (setting % 4) 1 || nat_eq ((setting / 4) % 4) 1 || nat_eq ((setting / 16) % 4) 1 || nat_eq ((setting / 64) % 4) 1

abbrev pub session_refuses : Base → SessionConnect → Bool
session_refuses base session =
    not (has_version_two session.version) || not (has_units (needed_units base.mode) (selected_with base.mode session.requirements)) ||
    has_other_initial session.initial || gives_token session.token_setting

-- The presentation or association control refuses: a default context stands; association control isn't
-- accepted, or in reliable mode reliable transfer; or there is no RTORQ.
abbrev pub lacks_request : Base → List SetItem → List DataValue → Bool
lacks_request base accepted values = is_reliable base.mode && (not (has_rtse accepted) || is_none (rtse_in (user_of (the_one values))))

abbrev pub presentation_refuses : Base → PresentationConnect → List DataValue → Bool
presentation_refuses base presentation values =
    is_some presentation.default_context || not (has_acse (set_for base presentation)) ||
    lacks_request base (set_for base presentation) values

-- the responder has the association that these references name
abbrev pub same_octets : Option (List ℕ) → List ℕ → Bool
same_octets None octets = false
same_octets (Some own) octets = same_name own octets

abbrev pub has_association : Body → ConnectionData → Bool
has_association body (data_of.Open value) = true
has_association body (data_of.Recover reference common) =
    is_broken body.link.phase && same_octets body.link.reference reference && same_octets body.link.common common

-- the reason of an RTORJ: dialogue mode (3), window (2), unknown association (1); tried in this order
abbrev pub rejection_of : Body → Option Rtse → Option ℕ
rejection_of body (Some (rtse.OpenRequest checkpoint window mode connection)) =
    if not (int_eq mode (pos 1)) then Some 3
    else (if nat_eq window 0 then Some 2
    else (if not (has_association body connection) then Some 1
    else None))
rejection_of body _ = None

abbrev pub transfer_rejection : Base → Body → List DataValue → Option ℕ
transfer_rejection base body values = if is_reliable base.mode then rejection_of body (rtse_in (user_of (the_one values))) else None

abbrev pub is_refused : Base → Body → SessionConnect → PresentationConnect → List DataValue → Bool
is_refused base body session presentation values =
    session_refuses base session || presentation_refuses base presentation values || is_some (transfer_rejection base body values)

-- ---- the answer

-- an RTORJ stands where it alone refuses
abbrev pub rejecting_information : Base → SessionConnect → List SetItem → Option ℕ → List Information
rejecting_information base session accepted None = []
rejecting_information base session accepted (Some reason) =
    if session_refuses base session then [] else Transferring (rtse_context accepted) (rtse.OpenReject (pos reason)) ∷ []

abbrev pub refusal_message : Base → Body → SessionConnect → PresentationConnect → List DataValue → Message
refusal_message base body session presentation values =
    if is_some presentation.default_context || not (has_acse (set_for base presentation)) then provider_refusal
    else refuse_message (set_for base presentation) (results_for base presentation) (context_named (the_one values))
    (if lacks_request base (set_for base presentation) values then []
    else rejecting_information base session (set_for base presentation) (transfer_rejection base body values))

-- agreed: no checkpoints where one end says 0, else the smaller; the smaller window (X.228 8.1)
abbrev pub agreed_checkpoint : ℕ → ℕ → ℕ
agreed_checkpoint own theirs = if nat_eq own 0 || nat_eq theirs 0 then 0 else min own theirs

pub record Agreed : Type 0 where
  pub checkpoint : ℕ
  pub window : ℕ

abbrev pub agreed_with : Base → Option Rtse → Agreed
agreed_with base (Some (rtse.OpenRequest checkpoint window mode connection)) =
    record { checkpoint = agreed_checkpoint base.config.checkpoint checkpoint; window = min base.config.window window }
agreed_with base (Some (rtse.OpenAccept checkpoint window connection)) = record { checkpoint = checkpoint; window = window }
agreed_with base _ = record { checkpoint = 0; window = 1 }

abbrev pub agreed_for : Base → List DataValue → Agreed
agreed_for base values = agreed_with base (rtse_in (user_of (the_one values)))

abbrev pub data_named : Base → Option Rtse → ConnectionData
data_named base (Some (rtse.OpenRequest checkpoint window mode connection)) = connection
data_named base _ = connection_data base false

-- the RTOAC has connection data of the form that came
abbrev pub answering_data : Base → ConnectionData → ConnectionData
answering_data base (data_of.Open value) = connection_data base false
answering_data base (data_of.Recover reference common) = data_of.Recover reference common

abbrev pub accepting_information : Base → List SetItem → List DataValue → List Information
accepting_information base accepted values =
    information base.mode accepted
    (rtse.OpenAccept (agreed_for base values).checkpoint (agreed_for base values).window
    (answering_data base (data_named base (rtse_in (user_of (the_one values))))))

abbrev pub acceptance_message : Base → SessionConnect → PresentationConnect → List DataValue → Message
acceptance_message base session presentation values =
    accept_message base (set_for base presentation) (results_for base presentation)
    (selected_with base.mode session.requirements)
    (manages_with presentation.requirements (selected_with base.mode session.requirements))
    (context_named (the_one values)) (accepting_information base (set_for base presentation) values)

-- ---- up

-- in direct mode number 0 saves the accepted contexts; in reliable mode they are the inter-activity set
abbrev pub joined_with : Base → List SetItem → ℕ → Bool → Agreed → Body → Body
joined_with base accepted selected manages agreed body =
    record body {
      link =
          record body.link {
            phase = Up;
            stage = Carrying;
            selected = selected;
            manages = manages;
            turn = base.initiator;
            gave = false;
            awaits = NoAnswer;
            accepted = accepted;
            checkpoint = agreed.checkpoint;
            window = agreed.window;
          };
      sets = record { held = accepted; inter = inter_in base.mode; own = [] };
      saved = saved_in base.mode;
    }
  where
    inter_in : Mode → List SetItem
    inter_in Reliable = accepted
    inter_in Direct = body.sets.inter
    inter_in Bare = body.sets.inter

    saved_in : Mode → List Saved
    saved_in Direct = record { number = 0; set = accepted } ∷ []
    saved_in Reliable = body.saved
    saved_in Bare = body.saved

-- it names the association that is broken
abbrev pub recovers_in : Base → List DataValue → Bool
recovers_in base values = is_reliable base.mode && is_recovery (data_named base (rtse_in (user_of (the_one values))))
  where
    is_recovery : ConnectionData → Bool
    is_recovery (data_of.Open value) = false
    is_recovery (data_of.Recover reference common) = true

-- an opening begins anew, with the references of its CN; a recovery goes on
abbrev pub begun_with : Base → SessionConnect → Body
begun_with base session =
    let body = new_body base in
    record body { link = record body.link { reference = session.calling_reference; common = session.common_reference } }

abbrev pub accepted_connect : Base → Body → SessionConnect → PresentationConnect → List DataValue → Body
accepted_connect base body session presentation values =
    joined_with base (set_for base presentation) (selected_with base.mode session.requirements)
    (manages_with presentation.requirements (selected_with base.mode session.requirements)) (agreed_for base values)
    (if recovers_in base values then body else begun_with base session)

-- who refuses is over, but for an end that is broken, which stays so
abbrev pub refused_connect : Body → Body
refused_connect body =
    record body { link = record body.link { phase = if is_broken body.link.phase then Broken else Over; stage = Carrying } }

abbrev pub after_connect : Base → Body → SessionConnect → PresentationConnect → List DataValue → Body
after_connect base body session presentation values =
    if is_refused base body session presentation values then refused_connect body
    else accepted_connect base body session presentation values

abbrev pub answer_to_connect : Base → Body → SessionConnect → PresentationConnect → List DataValue → List Message
answer_to_connect base body session presentation values =
    if is_refused base body session presentation values then refusal_message base body session presentation values ∷ []
    else acceptance_message base session presentation values ∷ []

-- an opening that reaches a broken end gives the old association up
abbrev pub shown_opening : Body → Bool → List Indication
shown_opening body recovers =
    if recovers then losses body ++ indications.Recovered ∷ []
    else (if is_broken body.link.phase then cuts body ++ indications.GivenUp ∷ indications.Opened ∷ []
    else indications.Opened ∷ [])

abbrev pub shown_at_connect : Base → Body → SessionConnect → PresentationConnect → List DataValue → List Indication
shown_at_connect base body session presentation values =
    if is_refused base body session presentation values then [] else shown_opening body (recovers_in base values)

-- ---- AC

abbrev pub is_open_accept : Rtse → Bool
is_open_accept (rtse.OpenAccept checkpoint window connection) = true
is_open_accept _ = false

-- no RTOAC, or a window of 0
abbrev pub lacks_accept : Option Rtse → Bool
lacks_accept (Some (rtse.OpenAccept checkpoint window connection)) = nat_eq window 0
lacks_accept _ = true

abbrev pub set_accepted : Base → PresentationAccept → List SetItem
set_accepted base presentation = accepted_set (proposals base) presentation.results

-- its results don't fit the proposals or refuse the contexts of the association; it has no AARE that accepts; in
-- reliable mode no RTOAC
abbrev pub accept_fault : Base → PresentationAccept → List DataValue → Option Fault
accept_fault base presentation values =
    or_fault (fault_if (not (fit_proposals (proposals base) presentation.results)) invalid_ppdu)
    (or_fault (fault_if (not (has_acse (set_accepted base presentation)) || is_reliable base.mode && not (has_rtse (set_accepted base presentation))) invalid_ppdu)
    (or_fault (fault_if (not (is_accepting (the_one values))) acse_fault)
    (if is_reliable base.mode
    then or_fault (information_fault is_open_accept (set_accepted base presentation) (user_of (the_one values)))
    (fault_if (lacks_accept (rtse_in (user_of (the_one values)))) rtse_fault)
    else None)))

abbrev pub after_accept : Base → Body → Accepting → PresentationAccept → List DataValue → Body
after_accept base body session presentation values =
    joined_with base (set_accepted base presentation) (selected_with base.mode session.requirements)
    (manages_with presentation.requirements (selected_with base.mode session.requirements)) (agreed_for base values) body

abbrev pub shown_at_accept : Body → List Indication
shown_at_accept body = if is_recovering body.link.phase then losses body ++ indications.Recovered ∷ [] else indications.Opened ∷ []
