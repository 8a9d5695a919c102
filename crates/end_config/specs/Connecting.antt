-- The CP of an initiator, and its octets (X.226 8.2.1; X.227 9; X.228 9).
use Rattle.std.specs.Prelude.{◌≡◌, ℕ, pos, List, [], ◌∷◌, ◌++◌, map, Bool, true, false, Some, None}
use Rattle.osi_base.specs.declared.presentation_word.PdvContent.TheVariants.{SingleAsn1Type}
use Rattle.osi_base.specs.declared.presentation_word.Pdv.{Pdv}
use Rattle.osi_base.specs.declared.presentation_word.PresentationConnect.{PresentationConnect}
use Rattle.osi_base.specs.declared.presentation_word.PresentationWord.TheVariants as unit
use Rattle.osi_base.specs.declared.acse_word.External.{External}
use Rattle.osi_base.specs.declared.acse_word.Acse.TheVariants as acse
use Rattle.osi_base.specs.declared.rtse_word.Rtse.TheVariants as rtse
use Rattle.osi_base.specs.declared.rtse_word.ConnectionData.{ConnectionData}
use Rattle.osi_base.specs.declared.rtse_word.ConnectionData.TheVariants as data_of
use Rattle.acse.specs.Written.{written_acse}
use Rattle.rtse_apdus.specs.Written.{written_rtse}
use Rattle.presentation_pdus.specs.Words.{written_ppdu}
use Rattle.dialogue.specs.declared.config.Config.{Config}
use Rattle.dialogue.specs.declared.config.Mode.{Mode}
use Rattle.dialogue.specs.declared.config.Mode.TheVariants.{Bare, Direct, Reliable}
use Rattle.association_ground.specs.end_rules.Base.{Base, application_context}
use Rattle.association_ground.specs.end_rules.Messages.{ValueContent, Remote, Unread, Association, Plea, Part, DataValue}
use Rattle.association_ground.specs.end_rules.Writing.{own_proposals, requirement_bits, presentation_connect, connect_values}
use Rattle.association_wire.specs.Values.{external_of}

-- ---- what the rules send as CP, with its user data as octets

-- the octets of an APDU of association control with its user information
abbrev pub associated : ValueContent → List ℕ
associated (Association (acse.AssociateRequest version context none) user) = written_acse (acse.AssociateRequest version context (map external_of user))
associated (Association apdu user) = written_acse apdu
associated (Remote apdu) = []
associated (Unread octets) = octets
associated (Plea priority) = []
associated (Part octets) = octets

abbrev pub pdv_of : DataValue → Pdv
pdv_of value = record { transfer = None; id = value.id; content = SingleAsn1Type (associated value.content) }

abbrev pub connect_of_rules : Base → Bool → PresentationConnect
connect_of_rules base recovers = record (presentation_connect base) { user = map pdv_of (connect_values base recovers) }

-- ---- the same of a configuration alone

abbrev pub connection_data : Config → Bool → ConnectionData
connection_data config true = data_of.Recover config.reference config.common
connection_data config false = data_of.Open (5 ∷ 0 ∷ [])

-- the request of reliable transfer for an association, or to recover one
abbrev pub transfer_request : Config → Bool → List ℕ
transfer_request config recovers = written_rtse (rtse.OpenRequest config.checkpoint config.window (pos 1) (connection_data config recovers))

-- in reliable mode the request for an association carries it
abbrev pub externals : Config → Mode → Bool → List External
externals config Reliable recovers =
    record { id = 3; value = transfer_request config recovers } ∷ []
externals config Direct recovers = []
externals config Bare recovers = []

abbrev pub request_pdv : Config → Bool → Pdv
request_pdv config recovers =
    record {
      transfer = None;
      id = 1;
      content = SingleAsn1Type (written_acse (acse.AssociateRequest None (application_context config.mode) (externals config config.mode recovers)));
    }

abbrev pub connect_of : Config → Bool → PresentationConnect
connect_of config recovers =
    record {
      version = None;
      calling = Some config.calling;
      called = Some config.called;
      definitions = own_proposals config.mode ++ config.contexts;
      default_context = None;
      requirements = Some (requirement_bits true);
      session_requirements = None;
      user = request_pdv config recovers ∷ [];
    }

-- the octets of CP, for an opening or a recovery
abbrev pub connect_octets : Config → Bool → List ℕ
connect_octets config recovers = written_ppdu (unit.Connect (connect_of config recovers))

-- The CP of a configuration is the one that the rules send.
abbrev pub ConnectIsOfRules : Type 0
ConnectIsOfRules = (base : Base) (recovers : Bool) → base.mode ≡ base.config.mode → connect_of_rules base recovers ≡ connect_of base.config recovers
