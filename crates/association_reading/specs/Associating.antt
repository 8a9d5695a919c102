-- Openings, acceptances, refusals and aborts are read back as themselves, where their units of the presentation may be
-- written and they carry one APDU of association control (X.226 8.2, X.227 9, X.228 7.1).
use Rattle.std.specs.Prelude.{◌≡◌, ℕ, List, [], ◌∷◌, Bool, true, false, ◌&&◌, Option, Some, None, option_map, pos, Ok}
use Rattle.osi_base.specs.declared.layer_words.SetItem.{SetItem}
use Rattle.osi_base.specs.declared.acse_word.Acse.{Acse}
use Rattle.osi_base.specs.declared.session_word.SessionConnect.{SessionConnect}
use Rattle.osi_base.specs.declared.presentation_word.PresentationConnect.{PresentationConnect}
use Rattle.osi_base.specs.declared.presentation_word.PresentationAccept.{PresentationAccept}
use Rattle.osi_base.specs.declared.presentation_word.PresentationReject.{PresentationReject}
use Rattle.osi_base.specs.declared.presentation_word.PresentationWord.TheVariants as ppdus
use Rattle.acse.specs.Written.{IsWritable as IsWritableAcse}
use Rattle.rtse_apdus.specs.Written.{IsWritable as IsWritableRtse}
use Rattle.presentation_pdus.specs.declared.place.PpduPlace.TheVariants as place
use Rattle.association_wire.specs.end_rules.Base.{Base, is_reliable}
use Rattle.osi_base.specs.SetPlaces.{pair_of}
use Rattle.association_wire.specs.end_rules.State.{Body}
use Rattle.association_wire.specs.end_rules.Messages.{Information, Transferring, Other, Association, DataValue, Accepting, ProviderReason, UserValues, Word, OfAssociation, Connect, Accept, Refuse, Abort, unit_of}
use Rattle.association_wire.specs.end_rules.Policy.{is_faulty_proposal}
use Rattle.association_wire.specs.end_rules.Writing.{acse_pair}
use Rattle.association_wire.specs.end_rules.Connecting.{is_on_rtse, set_for, set_accepted, has_acse}
use Rattle.association_wire.specs.Values.{with_user as user_put, pdvs_of}
use Rattle.association_wire.specs.Written.{with_user}
use Rattle.association_wire.specs.Units.{user_octets}
use Rattle.association_reading.specs.Values.{without_user}
use Rattle.association_reading.specs.Association.{is_aarq, is_acceptance, is_response, is_abort, stands, set_refused}
use Rattle.association_reading.specs.Meaning.{meaning}
use Rattle.association_reading.specs.Laws.{IsWrittenIn}

-- ---- user information: octets that aren't read; in reliable mode, on a context of reliable transfer, an APDU of it in front

abbrev pub AreOthers : List Information → Type 0
AreOthers [] = Unit {0}
AreOthers (Other id octets ∷ more) = AreOthers more
AreOthers (Transferring id apdu ∷ more) = ⊥

abbrev pub IsInformed : Bool → List SetItem → List Information → Type 0
IsInformed reads accepted [] = Unit {0}
IsInformed reads accepted (Other id octets ∷ more) = ((reads && is_on_rtse accepted id) ≡ false) × AreOthers more
IsInformed reads accepted (Transferring id apdu ∷ more) = ((reads && is_on_rtse accepted id) ≡ true) × IsWritableRtse apdu × AreOthers more

-- ---- one value of association control, in BER, of this kind, with user information that these contexts are for

pub record CarriesOne (base : Base) (accepted : List SetItem) (is_kind : Acse → Bool) (values : List DataValue) : Type 0 where
  pub id : ℕ
  pub apdu : Acse
  pub user : List Information
  pub is_one : values ≡ record { id = id; pair = Some acse_pair; content = Association apdu user } ∷ []
  pub alone : without_user apdu ≡ apdu
  pub of_kind : is_kind apdu ≡ true
  pub writable : IsWritableAcse (user_put user apdu)
  pub informed : IsInformed (is_reliable base.mode) accepted user

-- and its context is in the set
pub record CarriesOneOn (base : Base) (set : List SetItem) (is_kind : Acse → Bool) (values : List DataValue) : Type 0 where
  pub one : CarriesOne base set is_kind values
  pub on_it : pair_of set one.id ≡ Some acse_pair

-- ---- the words

abbrev pub IsMeantAs : Base → Body → ℕ → Word → Type 0
IsMeantAs base body start word = meaning base body (with_user (user_octets base.tables word) (unit_of word)) start ≡ Ok word

pub record AssociationsAreReadBack : Type 0 where
  -- CN: association control is accepted of its own list
  pub connect : (base : Base) (body : Body) (start : ℕ) (session : SessionConnect) (presentation : PresentationConnect) (values : List DataValue) →
      session.user ≡ [] → presentation.user ≡ [] →
      is_faulty_proposal true [] presentation.definitions ≡ false → has_acse (set_for base presentation) ≡ true →
      CarriesOneOn base (set_for base presentation) is_aarq values → IsWrittenIn place.Cn (ppdus.Connect (record presentation { user = pdvs_of base.tables values })) →
      IsMeantAs base body start (OfAssociation (Connect session presentation values))
  -- AC: its results fit what was proposed, and leave the contexts of the association
  pub accept : (base : Base) (body : Body) (start : ℕ) (session : Accepting) (presentation : PresentationAccept) (values : List DataValue) →
      presentation.user ≡ [] → stands base presentation ≡ true →
      CarriesOneOn base (set_accepted base presentation) is_acceptance values → IsWrittenIn place.Ac (ppdus.Accept (record presentation { user = pdvs_of base.tables values })) →
      IsMeantAs base body start (OfAssociation (Accept session presentation values))
  -- RF with CPR
  pub refuse : (base : Base) (body : Body) (start : ℕ) (transport reason : Option ℕ) (presentation : PresentationReject) (values : List DataValue) →
      presentation.user ≡ [] →
      CarriesOne base (set_refused base presentation) is_response values → IsWrittenIn place.Rf (ppdus.Reject (record presentation { user = pdvs_of base.tables values })) →
      IsMeantAs base body start (OfAssociation (Refuse transport reason (Some presentation) values))
  -- AB with ARU, and with ARP
  pub abort : (base : Base) (body : Body) (start : ℕ) (transport : Option ℕ) (values : List DataValue) →
      CarriesOne base body.link.accepted is_abort values → IsWrittenIn place.Ab (ppdus.UserAbort None (pdvs_of base.tables values)) →
      IsMeantAs base body start (OfAssociation (Abort transport (UserValues values)))
  pub provider_abort : (base : Base) (body : Body) (start : ℕ) (transport : Option ℕ) (reason : Option ℕ) →
      IsWrittenIn place.Ab (ppdus.ProviderAbort (option_map pos reason) None) → IsMeantAs base body start (OfAssociation (Abort transport (ProviderReason reason)))
