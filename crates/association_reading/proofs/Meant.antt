-- What is meant under the sets of an end is read back.
use Rattle.osi_base.specs.declared.acse_word.Acse.{Acse}
use Rattle.osi_base.specs.declared.acse_word.Acse.TheVariants as acse
use Rattle.osi_base.specs.declared.rtse_word.Rtse.TheVariants as rtse
use Rattle.acse.specs.Fields.{acse_at}
use Rattle.acse.specs.Written.{written_acse}
use Rattle.acse.proofs.PlainLaws.{written_acse_is_read}
use Rattle.rtse_apdus.proofs.RtseLaws.{written_rtse_is_read}
use Rattle.association_wire.specs.end_rules.Messages.{Association, ValueContent, DataValue, NoData, ProviderReason, UserValues, Word, OfAssociation, Connect, Accept, Refuse, Finish, Disconnect, Abort, AbortAccept, OfData, Values, AlterContext, AlterContextAck, OfMarks, Mark, MarkAck, Restart, RestartAck, Give, Please, GiveConfirm, GiveAck, OfActivities, Start, Resume, End, EndAck, Interrupt, InterruptAck, Discard, DiscardAck}
use Rattle.association_wire.specs.Values.{with_user as user_put, content_octets, in_form, pdv_of, pdvs_of}
use Rattle.association_reading.specs.Values.{without_user, associated, acse_content, rtse_content, content_under, with_content, value_by, value_in, before_values, all_values, unless_fault, values_under}
use Rattle.association_reading.specs.Laws.{AssociationIsReadBack, TransferWordsAreReadBack, SessionWordsAreReadBack, IsWrittenIn, AlterationsAreReadBack, IsMeant, AreMeantIn, DataAreReadBack, RemoteIsReadBack}
use Rattle.std.proofs.Common.{◌≡◌, refl, sym, ap, ◌∙◌, ℕ, true, List, [], ◌∷◌, Option, Some, None, Ok}
use Rattle.std.specs.Prelude.{Result}
use Rattle.osi_base.specs.PdvContent.{octets_of}
use Rattle.osi_base.specs.declared.syntax.Pair.{Pair}
use Rattle.osi_base.specs.declared.syntax.Syntax.{Syntax}
use Rattle.osi_base.specs.declared.syntax.Syntax.TheVariants.{Ber, Der, Packed}
use Rattle.osi_base.specs.declared.layer_words.SetItem.{SetItem}
use Rattle.osi_base.specs.declared.presentation_word.Pdv.{Pdv}
use Rattle.osi_base.specs.declared.presentation_word.PresentationWord.{PresentationWord}
use Rattle.osi_base.specs.declared.presentation_word.PresentationWord.TheVariants as ppdus
use Rattle.stub_tables.specs.declared.tables.Tables.{Tables}
use Rattle.apdu_spelling.specs.Writing.{written_apdu}
use Rattle.apdu_spelling.proofs.Written.{written_spelled}
use Rattle.presentation_pdus.specs.declared.place.PpduPlace.{PpduPlace}
use Rattle.presentation_pdus.specs.declared.place.PpduPlace.TheVariants as place
use Rattle.presentation_pdus.specs.declared.place.PpduFault.{PpduFault}
use Rattle.presentation_pdus.specs.Words.{written_ppdu}
use Rattle.ppdu_laws.proofs.UnitsBack.{written_ppdu_is_read}
use Rattle.presentation_pdus.specs.Units.{ppdu_at}
use Rattle.association_wire.specs.end_rules.Base.{Base, Fault, HeardHead}
use Rattle.association_wire.specs.end_rules.Hearing.{syntax_of}
use Rattle.end_wire.specs.Heads.{apdu_of}
use Rattle.osi_base.specs.SetPlaces.{pair_of}
use Rattle.association_wire.specs.end_rules.Faults.{or_fault}
use Rattle.association_wire.specs.end_rules.State.{Body}
use Rattle.end_wire.specs.Values.{content_of}
use Rattle.end_wire.proofs.ContentLaws.{said_is, spelled_said}
use Rattle.association_reading.specs.declared.layer_of_values.LayerOfValues.{LayerOfValues}
use Rattle.association_reading.specs.declared.layer_of_values.LayerOfValues.TheVariants as carriage
use Rattle.association_reading.specs.Places.{PdvPlaces, pdv_places}
use Rattle.association_reading.specs.Contexts.{is_form, name_carried, pdv_fault, first_place, other_places, first_fault}
use Rattle.association_reading.specs.Meaning.{on_ppdu, with_values, data_meaning, carried_by_data, typed_meaning, restart_meaning, restart_ack_meaning}

-- ---- words of the session alone

pub session_words : SessionWordsAreReadBack
session_words (OfAssociation (Refuse transport reason None [])) h base body start = refl
session_words (OfAssociation (Refuse transport reason None (v ∷ vs))) h base body start = absurd h
session_words (OfAssociation (Refuse transport reason (Some p) vs)) h base body start = absurd h
session_words (OfAssociation (Abort transport NoData)) h base body start = refl
session_words (OfAssociation (Abort transport (ProviderReason reason))) h base body start = absurd h
session_words (OfAssociation (Abort transport (UserValues values))) h base body start = absurd h
session_words (OfAssociation AbortAccept) h base body start = refl
session_words (OfAssociation (Connect s p v)) h base body start = absurd h
session_words (OfAssociation (Accept s p v)) h base body start = absurd h
session_words (OfAssociation (Finish t v)) h base body start = absurd h
session_words (OfAssociation (Disconnect v)) h base body start = absurd h
session_words (OfData word) h base body start = absurd h
session_words (OfMarks (Mark number)) h base body start = refl
session_words (OfMarks (MarkAck number)) h base body start = refl
session_words (OfMarks (Give tokens)) h base body start = refl
session_words (OfMarks (Please None [])) h base body start = refl
session_words (OfMarks (Please (Some tokens) [])) h base body start = refl
session_words (OfMarks (Please tokens (v ∷ vs))) h base body start = absurd h
session_words (OfMarks GiveConfirm) h base body start = refl
session_words (OfMarks GiveAck) h base body start = refl
session_words (OfMarks (Restart number list)) h base body start = absurd h
session_words (OfMarks (RestartAck number list)) h base body start = absurd h
session_words (OfActivities (Start activity)) h base body start = refl
session_words (OfActivities (Resume activity mark)) h base body start = refl
session_words (OfActivities (End number)) h base body start = refl
session_words (OfActivities (EndAck number)) h base body start = refl
session_words (OfActivities (Interrupt reason)) h base body start = refl
session_words (OfActivities InterruptAck) h base body start = refl
session_words (OfActivities (Discard reason)) h base body start = refl
session_words (OfActivities DiscardAck) h base body start = refl

-- ---- alterations and restarts

-- what may be written is read back
pub read_in : (carrier : PpduPlace) (unit : PresentationWord) → IsWrittenIn carrier unit → ppdu_at carrier (written_ppdu unit) ≡ Ok unit
read_in carrier unit w = (written_ppdu_is_read carrier unit w).1

typed : (unit : PresentationWord) (word : Word) (start : ℕ) → IsWrittenIn place.Td unit → typed_meaning unit ≡ Ok word → on_ppdu start (ppdu_at place.Td (written_ppdu unit)) typed_meaning ≡ Ok word
typed unit word start w means = ap (λ (r : Result PresentationWord PpduFault). on_ppdu start r typed_meaning) (read_in place.Td unit w) ∙ means

pub alterations : AlterationsAreReadBack
alterations = record {
  alter = λ add delete back base body start. typed (ppdus.Alter add delete) (OfData (AlterContext add delete)) start back refl;
  alter_ack = λ answers back base body start. typed (ppdus.AlterAck answers) (OfData (AlterContextAck answers)) start back refl;
  restart = λ number list back base body start. ap (λ (r : Result PresentationWord PpduFault). on_ppdu start r (restart_meaning number)) (read_in place.Rs (ppdus.Resynchronize list) back);
  restart_ack = λ number list back base body start. ap (λ (r : Result PresentationWord PpduFault). on_ppdu start r (restart_ack_meaning number)) (read_in place.Ra (ppdus.ResynchronizeAck list) back);
}

-- ---- values

form_is : (syntax : Syntax) (octets : List ℕ) → is_form syntax (in_form syntax octets) ≡ true
form_is Ber octets = refl
form_is Der octets = refl
form_is Packed octets = refl

octets_are : (syntax : Syntax) (octets : List ℕ) → octets_of (in_form syntax octets) ≡ octets
octets_are Ber octets = refl
octets_are Der octets = refl
octets_are Packed octets = refl

module _ (tables : Tables) (set : List SetItem) (carried : LayerOfValues) where
  -- a value as it was written under this pair
  abbrev written_as : ℕ → Pair → ValueContent → Pdv
  written_as id pair content = record { transfer = None; id = id; content = in_form pair.transfer (content_octets tables pair.transfer content) }

  same_pdv : (v : DataValue) (h : IsMeant tables set carried v) → pdv_of tables v ≡ written_as v.id h.pair v.content
  same_pdv v h = ap (λ (p : Option Pair). let x : Pdv = record { transfer = None; id = v.id; content = in_form (syntax_of p) (content_octets tables (syntax_of p) v.content) } in x) h.has_pair

  abbrev fault_at_place : PdvPlaces → Pdv → Option Fault
  fault_at_place at pdv = pdv_fault (name_carried tables carried) at pdv (pair_of set pdv.id)

  no_fault : (v : DataValue) (at : PdvPlaces) → IsMeant tables set carried v → fault_at_place at (pdv_of tables v) ≡ None
  no_fault v at h =
      ap (λ (pdv : Pdv). fault_at_place at pdv) (same_pdv v h)
      ∙ ap (λ (p : Option Pair). pdv_fault (name_carried tables carried) at (written_as v.id h.pair v.content) p) h.in_set
      ∙ rw (h.carries, form_is h.pair.transfer (content_octets tables h.pair.transfer v.content)) refl

  value_back : (v : DataValue) → IsMeant tables set carried v → value_in tables carried set (pdv_of tables v) ≡ Ok v
  value_back v h =
      ap (λ (pdv : Pdv). value_in tables carried set pdv) (same_pdv v h)
      ∙ ap (λ (p : Option Pair). value_by tables carried p (written_as v.id h.pair v.content)) h.in_set
      ∙ ap (λ (os : List ℕ). with_content v.id (Some h.pair) (content_under tables carried h.pair os)) (octets_are h.pair.transfer (content_octets tables h.pair.transfer v.content))
      ∙ ap (λ (r : Result ValueContent Fault). with_content v.id (Some h.pair) r) h.content
      ∙ ap (λ (p : Option Pair). let x : Result DataValue Fault = Ok (record { id = v.id; pair = p; content = v.content }) in x) (sym h.has_pair)

  no_faults : (vs : List DataValue) (places : List PdvPlaces) → AreMeantIn tables set carried vs → first_fault fault_at_place places (pdvs_of tables vs) ≡ None
  no_faults [] places h = refl
  no_faults (v ∷ vs) places h =
      ap (λ (f : Option Fault). or_fault f (first_fault fault_at_place (other_places places) (pdvs_of tables vs))) (no_fault v (first_place places) h.0)
      ∙ no_faults vs (other_places places) h.1

  values_back : (vs : List DataValue) → AreMeantIn tables set carried vs → all_values (value_in tables carried set) (pdvs_of tables vs) ≡ Ok vs
  values_back [] h = refl
  values_back (v ∷ vs) h =
      ap (λ (r : Result DataValue Fault). before_values r (all_values (value_in tables carried set) (pdvs_of tables vs))) (value_back v h.0)
      ∙ ap (λ (r : Result (List DataValue) Fault). before_values (Ok v) r) (values_back vs h.1)

  all_back : (vs : List DataValue) (places : List PdvPlaces) → AreMeantIn tables set carried vs → values_under tables set carried places (pdvs_of tables vs) ≡ Ok vs
  all_back vs places h =
      ap (λ (f : Option Fault). unless_fault f (all_values (value_in tables carried set) (pdvs_of tables vs))) (no_faults vs places h)
      ∙ values_back vs h

data_back : (base : Base) (body : Body) (carried : LayerOfValues) (word : List DataValue → Word) (carrier : PpduPlace) (start : ℕ) (vs : List DataValue)
    → IsWrittenIn carrier (ppdus.Data (pdvs_of base.tables vs)) → AreMeantIn base.tables body.sets.held carried vs
    → on_ppdu start (ppdu_at carrier (written_ppdu (ppdus.Data (pdvs_of base.tables vs)))) (data_meaning base body carried word carrier start (written_ppdu (ppdus.Data (pdvs_of base.tables vs)))) ≡ Ok (word vs)
data_back base body carried word carrier start vs back meant =
    let user : List ℕ = written_ppdu (ppdus.Data (pdvs_of base.tables vs)) in
    ap (λ (r : Result PresentationWord PpduFault). on_ppdu start r (data_meaning base body carried word carrier start user)) (read_in carrier (ppdus.Data (pdvs_of base.tables vs)) back)
    ∙ ap (λ (r : Result (List DataValue) Fault). with_values word r) (all_back base.tables body.sets.held carried vs (pdv_places carrier start user) meant)

pub data_words : DataAreReadBack
data_words = record {
  values = λ base body start v vs back meant. data_back base body (carried_by_data base) (λ values. OfData (Values values)) place.Dt start (v ∷ vs) back meant;
  please = λ base body start tokens v vs back meant. data_back base body carriage.Transfer (λ values. OfMarks (Please (Some tokens) values)) place.Pt start (v ∷ vs) back meant;
  finish = λ base body start transport v vs back meant. data_back base body carriage.Association (λ values. OfAssociation (Finish transport values)) place.Fn start (v ∷ vs) back meant;
  disconnect = λ base body start v vs back meant. data_back base body carriage.Association (λ values. OfAssociation (Disconnect values)) place.Dn start (v ∷ vs) back meant;
}

pub remote_content : RemoteIsReadBack
remote_content tables pair apdu readable writable of_module =
    let octets : List ℕ = written_apdu tables pair.transfer apdu in
    let s = written_spelled tables readable pair.transfer apdu writable in
    let found = ap (λ (h : HeardHead). content_of octets (apdu_of tables h)) (spelled_said tables pair.transfer readable apdu octets s) ∙ ap (content_of octets) (said_is tables pair.transfer readable apdu s.head s.says) in
    rw of_module (ap (λ (c : ValueContent). let x : Result ValueContent Fault = Ok c in x) found)

without_none : (apdu : Acse) → user_put [] (without_user apdu) ≡ without_user apdu
without_none (acse.AssociateRequest version context user) = refl
without_none (acse.AssociateResponse context result diagnostic user) = refl
without_none (acse.ReleaseRequest reason) = refl
without_none (acse.ReleaseResponse reason) = refl
without_none (acse.Abort source user) = refl

alone_said : (apdu : Acse) → associated (without_user apdu) ≡ Association (without_user apdu) []
alone_said (acse.AssociateRequest version context user) = refl
alone_said (acse.AssociateResponse context result diagnostic user) = refl
alone_said (acse.ReleaseRequest reason) = refl
alone_said (acse.ReleaseResponse reason) = refl
alone_said (acse.Abort source user) = refl

pub association_content : AssociationIsReadBack
association_content tables pair apdu writable =
    let read : acse_at (written_acse (user_put [] (without_user apdu))) ≡ Ok (without_user apdu) =
    ap (λ (a : Acse). acse_at (written_acse a)) (without_none apdu) ∙ (written_acse_is_read (without_user apdu) writable).1 in
    ap acse_content read ∙ ap (λ (c : ValueContent). let x : Result ValueContent Fault = Ok c in x) (alone_said apdu)

pub transfer_contents : TransferWordsAreReadBack
transfer_contents = record {
  plea = λ tables pair priority writable is_rtse. rw is_rtse (ap rtse_content (written_rtse_is_read (rtse.TurnPlease priority) writable).1);
  part = λ tables pair octets writable is_rtse. rw is_rtse (ap rtse_content (written_rtse_is_read (rtse.Transfer octets) writable).1);
}
