-- Openings, acceptances, refusals and aborts are read back.
use Rattle.std.proofs.Common.{◌≡◌, refl, sym, ap, subst, ◌∙◌, ℕ, true, false, List, [], ◌∷◌, map, Option, Some, None, Ok, if◌then◌else◌}
use Rattle.std.specs.Prelude.{pos, Bool, option_map, Result}
use Rattle.osi_base.specs.declared.syntax.Pair.{Pair}
use Rattle.osi_base.specs.declared.layer_words.SetItem.{SetItem}
use Rattle.osi_base.specs.declared.acse_word.Acse.{Acse}
use Rattle.osi_base.specs.declared.acse_word.Acse.TheVariants as acse
use Rattle.osi_base.specs.declared.rtse_word.Rtse.{Rtse}
use Rattle.osi_base.specs.declared.session_word.SessionConnect.{SessionConnect}
use Rattle.osi_base.specs.declared.presentation_word.PresentationConnect.{PresentationConnect}
use Rattle.osi_base.specs.declared.presentation_word.PresentationAccept.{PresentationAccept}
use Rattle.osi_base.specs.declared.presentation_word.PresentationReject.{PresentationReject}
use Rattle.osi_base.specs.declared.presentation_word.PresentationWord.{PresentationWord}
use Rattle.osi_base.specs.declared.presentation_word.PresentationWord.TheVariants as ppdus
use Rattle.fixed_tables.specs.declared.pdu.PduFault.{PduFault}
use Rattle.acse.specs.Fields.{acse_at}
use Rattle.acse.specs.Written.{written_acse}
use Rattle.acse.proofs.PlainLaws.{written_acse_is_read}
use Rattle.rtse_apdus.specs.Reading.{rtse_at}
use Rattle.rtse_apdus.specs.Written.{written_rtse}
use Rattle.rtse_apdus.proofs.RtseLaws.{written_rtse_is_read}
use Rattle.presentation_pdus.specs.declared.place.PpduPlace.TheVariants as place
use Rattle.presentation_pdus.specs.declared.place.PpduFault.{PpduFault}
use Rattle.presentation_pdus.specs.Words.{written_ppdu}
use Rattle.presentation_pdus.specs.Units.{ppdu_at}
use Rattle.stub_tables.specs.declared.tables.Tables.{Tables}
use Rattle.association_wire.specs.end_rules.Base.{Base, Fault, is_reliable}
use Rattle.osi_base.specs.SetPlaces.{pair_of}
use Rattle.osi_base.specs.Syntax.{acse_name}
use Rattle.association_wire.specs.end_rules.State.{Body}
use Rattle.association_wire.specs.end_rules.Faults.{or_fault}
use Rattle.association_wire.specs.end_rules.Messages.{Information, Transferring, Other, ValueContent, Association, DataValue, Accepting, UserValues, ProviderReason, Word, OfAssociation, Connect, Accept, Refuse, Abort, natural}
use Rattle.association_wire.specs.end_rules.Writing.{acse_pair}
use Rattle.association_wire.specs.end_rules.Connecting.{set_for, set_accepted, has_acse}
use Rattle.association_wire.specs.end_rules.Policy.{is_faulty_proposal}
use Rattle.association_wire.specs.Values.{with_user as user_put, external_of, pdv_of, pdvs_of}
use Rattle.association_reading.specs.declared.layer_of_values.LayerOfValues.TheVariants as carriage
use Rattle.association_reading.specs.Places.{PdvPlaces, pdv_places}
use Rattle.association_reading.specs.Contexts.{pdv_fault, first_place}
use Rattle.association_reading.specs.Values.{without_user, externals_of, other, acse_content, with_content, value_by, before_values, unless_fault, values_under, informed, first_informed, with_user, informed_value, and_informed}
use Rattle.association_reading.specs.Association.{is_aarq, is_acceptance, is_response, is_abort, stands, set_refused, unasked_values, left_values}
use Rattle.association_reading.specs.Meaning.{on_ppdu, with_values, connect_meaning, accept_meaning, refuse_meaning, abort_meaning}
use Rattle.association_reading.specs.Laws.{IsWrittenIn}
use Rattle.association_reading.proofs.Meant.{read_in}
use Rattle.association_reading.specs.Associating.{AreOthers, IsInformed, CarriesOne, CarriesOneOn, AssociationsAreReadBack}

-- ---- user information

others-back : (user : List Information) → AreOthers user → map other (map external_of user) ≡ user
others-back [] h = refl
others-back (Other id octets ∷ more) h = ap (λ (is : List Information). Other id octets ∷ is) (others-back more h)
others-back (Transferring id apdu ∷ more) h = absurd h

-- where it isn't read, octets stand as they are
unread-back : (accepted : List SetItem) (user : List Information) → IsInformed false accepted user → map other (map external_of user) ≡ user
unread-back accepted [] h = refl
unread-back accepted (Other id octets ∷ more) h = ap (λ (is : List Information). Other id octets ∷ is) (others-back more h.1)
unread-back accepted (Transferring id apdu ∷ more) h = let no : false ≡ true = h.0 in cc

abbrev all_informed : List Information → Result (List Information) Fault
all_informed user = Ok user

read-back : (accepted : List SetItem) (user : List Information) → IsInformed true accepted user → first_informed accepted (map other (map external_of user)) ≡ all_informed user
read-back accepted [] h = refl
read-back accepted (Other id octets ∷ more) h =
    ap (λ (b : Bool). if b then informed id (map other (map external_of more)) (rtse_at octets) else Ok (Other id octets ∷ map other (map external_of more))) h.0
    ∙ ap (λ (is : List Information). all_informed (Other id octets ∷ is)) (others-back more h.1)
read-back accepted (Transferring id apdu ∷ more) h =
    ap (λ (b : Bool). if b then informed id (map other (map external_of more)) (rtse_at (written_rtse apdu)) else Ok (Other id (written_rtse apdu) ∷ map other (map external_of more))) h.0
    ∙ ap (λ (r : Result Rtse PduFault). informed id (map other (map external_of more)) r) (written_rtse_is_read apdu h.1).1
    ∙ ap (λ (is : List Information). all_informed (Transferring id apdu ∷ is)) (others-back more h.2)

-- user information as it is read at first
abbrev as_octets : List Information → List Information
as_octets user = map other (map external_of user)

-- ---- one APDU

alone-again : (apdu : Acse) (user : List Information) → without_user (user_put user apdu) ≡ without_user apdu
alone-again (acse.AssociateRequest version context before) user = refl
alone-again (acse.AssociateResponse context result reason before) user = refl
alone-again (acse.ReleaseRequest reason) user = refl
alone-again (acse.ReleaseResponse reason) user = refl
alone-again (acse.Abort source before) user = refl

-- these kinds carry user information
abbrev KeepsUser : (Acse → Bool) → Type 0
KeepsUser is_kind = (apdu : Acse) (user : List Information) → is_kind apdu ≡ true → externals_of (user_put user apdu) ≡ map external_of user

keeps-aarq : KeepsUser is_aarq
keeps-aarq (acse.AssociateRequest version context before) user e = refl
keeps-aarq (acse.AssociateResponse context result reason before) user e = refl
keeps-aarq (acse.ReleaseRequest reason) user e = absurd cc
keeps-aarq (acse.ReleaseResponse reason) user e = absurd cc
keeps-aarq (acse.Abort source before) user e = refl

keeps-acceptance : KeepsUser is_acceptance
keeps-acceptance (acse.AssociateRequest version context before) user e = refl
keeps-acceptance (acse.AssociateResponse context result reason before) user e = refl
keeps-acceptance (acse.ReleaseRequest reason) user e = absurd cc
keeps-acceptance (acse.ReleaseResponse reason) user e = absurd cc
keeps-acceptance (acse.Abort source before) user e = refl

keeps-response : KeepsUser is_response
keeps-response (acse.AssociateRequest version context before) user e = refl
keeps-response (acse.AssociateResponse context result reason before) user e = refl
keeps-response (acse.ReleaseRequest reason) user e = absurd cc
keeps-response (acse.ReleaseResponse reason) user e = absurd cc
keeps-response (acse.Abort source before) user e = refl

keeps-abort : KeepsUser is_abort
keeps-abort (acse.AssociateRequest version context before) user e = refl
keeps-abort (acse.AssociateResponse context result reason before) user e = refl
keeps-abort (acse.ReleaseRequest reason) user e = absurd cc
keeps-abort (acse.ReleaseResponse reason) user e = absurd cc
keeps-abort (acse.Abort source before) user e = refl

abbrev the_content : ValueContent → Result ValueContent Fault
the_content c = Ok c

abbrev the_values : List DataValue → Result (List DataValue) Fault
the_values vs = Ok vs

-- the value with its user information as octets, and as it is
abbrev value_so : ℕ → Acse → List Information → DataValue
value_so id apdu user = record { id = id; pair = Some acse_pair; content = Association apdu user }

module _ (base : Base) (accepted : List SetItem) (is_kind : Acse → Bool) (keeps : KeepsUser is_kind) where
  content-back : (values : List DataValue) (one : CarriesOne base accepted is_kind values) → acse_content (acse_at (written_acse (user_put one.user one.apdu))) ≡ the_content (Association one.apdu (as_octets one.user))
  content-back values one =
      ap acse_content (written_acse_is_read (user_put one.user one.apdu) one.writable).1
      ∙ (λ i. the_content (Association ((alone-again one.apdu one.user ∙ one.alone) i) (map other (keeps one.apdu one.user one.of_kind i))))

  informed-back : (values : List DataValue) (one : CarriesOne base accepted is_kind values) → and_informed base accepted is_kind (the_values (value_so one.id one.apdu (as_octets one.user) ∷ [])) ≡ the_values (value_so one.id one.apdu one.user ∷ [])
  informed-back values one = go (is_reliable base.mode) refl one.informed
    where
      go : (b : Bool) → is_reliable base.mode ≡ b → IsInformed (is_reliable base.mode) accepted one.user
          → (if is_reliable base.mode then informed_value accepted is_kind (value_so one.id one.apdu (as_octets one.user)) (Association one.apdu (as_octets one.user)) else the_values (value_so one.id one.apdu (as_octets one.user) ∷ [])) ≡ the_values (value_so one.id one.apdu one.user ∷ [])
      go false e h =
          ap (λ (b : Bool). if b then informed_value accepted is_kind (value_so one.id one.apdu (as_octets one.user)) (Association one.apdu (as_octets one.user)) else the_values (value_so one.id one.apdu (as_octets one.user) ∷ [])) e
          ∙ ap (λ (is : List Information). the_values (value_so one.id one.apdu is ∷ [])) (unread-back accepted one.user (subst (λ (b : Bool). IsInformed b accepted one.user) e h))
      go true e h =
          ap (λ (b : Bool). if b then informed_value accepted is_kind (value_so one.id one.apdu (as_octets one.user)) (Association one.apdu (as_octets one.user)) else the_values (value_so one.id one.apdu (as_octets one.user) ∷ [])) e
          ∙ ap (λ (b : Bool). if b then with_user (value_so one.id one.apdu (as_octets one.user)) one.apdu (first_informed accepted (as_octets one.user)) else the_values (value_so one.id one.apdu (as_octets one.user) ∷ [])) one.of_kind
          ∙ ap (λ (r : Result (List Information) Fault). with_user (value_so one.id one.apdu (as_octets one.user)) one.apdu r) (read-back accepted one.user (subst (λ (b : Bool). IsInformed b accepted one.user) e h))

  -- no context is asked of it
  unasked-back : (tables : Tables) (places : List PdvPlaces) (values : List DataValue) (one : CarriesOne base accepted is_kind values)
      → and_informed base accepted is_kind (unasked_values places (pdvs_of tables (value_so one.id one.apdu one.user ∷ []))) ≡ the_values (value_so one.id one.apdu one.user ∷ [])
  unasked-back tables places values one =
      ap (λ (r : Result ValueContent Fault). and_informed base accepted is_kind (before_values (with_content one.id (Some acse_pair) r) (the_values []))) (content-back values one)
      ∙ informed-back values one

  -- on its context
  under-back : (tables : Tables) (places : List PdvPlaces) (values : List DataValue) (one : CarriesOne base accepted is_kind values) → pair_of accepted one.id ≡ Some acse_pair
      → and_informed base accepted is_kind (values_under tables accepted carriage.Association places (pdvs_of tables (value_so one.id one.apdu one.user ∷ []))) ≡ the_values (value_so one.id one.apdu one.user ∷ [])
  under-back tables places values one on_it =
      ap (λ (p : Option Pair). and_informed base accepted is_kind
      (unless_fault (or_fault (pdv_fault acse_name (first_place places) (pdv_of tables (value_so one.id one.apdu one.user)) p) None) (before_values (value_by tables carriage.Association p (pdv_of tables (value_so one.id one.apdu one.user))) (the_values []))))
      on_it
      ∙ ap (λ (r : Result ValueContent Fault). and_informed base accepted is_kind (before_values (with_content one.id (Some acse_pair) r) (the_values []))) (content-back values one)
      ∙ informed-back values one

-- ---- units of the presentation that are read

abbrev the_word : Word → Result Word Fault
the_word w = Ok w

natural-back : (reason : Option ℕ) → option_map natural (option_map pos reason) ≡ reason
natural-back None = refl
natural-back (Some n) = refl

pub associations : AssociationsAreReadBack
associations = record {
  connect = connects;
  accept = accepts;
  refuse = refuses;
  abort = aborts;
  provider_abort = λ base body start transport reason w.
      ap (λ (r : Result PresentationWord PpduFault). on_ppdu start r (abort_meaning base body transport start (written_ppdu (ppdus.ProviderAbort (option_map pos reason) None)))) (read_in place.Ab (ppdus.ProviderAbort (option_map pos reason) None) w)
      ∙ ap (λ (r : Option ℕ). the_word (OfAssociation (Abort transport (ProviderReason r)))) (natural-back reason);
}
  where
    connects : (base : Base) (body : Body) (start : ℕ) (session : SessionConnect) (presentation : PresentationConnect) (values : List DataValue) → session.user ≡ [] → presentation.user ≡ []
        → is_faulty_proposal true [] presentation.definitions ≡ false → has_acse (set_for base presentation) ≡ true → CarriesOneOn base (set_for base presentation) is_aarq values
        → IsWrittenIn place.Cn (ppdus.Connect (record presentation { user = pdvs_of base.tables values }))
        → on_ppdu start (ppdu_at place.Cn (written_ppdu (ppdus.Connect (record presentation { user = pdvs_of base.tables values }))))
        (connect_meaning base (record session { user = written_ppdu (ppdus.Connect (record presentation { user = pdvs_of base.tables values })) }) start) ≡ the_word (OfAssociation (Connect session presentation values))
    connects base body start session presentation values s p faulty has h w =
        let user : List ℕ = written_ppdu (ppdus.Connect (record presentation { user = pdvs_of base.tables values })) in
        let set : List SetItem = set_for base presentation in
        let words : List DataValue → Word = λ vs. OfAssociation (Connect (record session { user = [] }) (record presentation { user = [] }) vs) in
        let places : List PdvPlaces = pdv_places place.Cn start user in
        let under : Result (List DataValue) Fault = and_informed base set is_aarq (values_under base.tables set carriage.Association places (pdvs_of base.tables values)) in
        let otherwise : Result (List DataValue) Fault = left_values base presentation.definitions set places (pdvs_of base.tables values) in
        let is : under ≡ the_values values =
        ap (λ (vs : List DataValue). and_informed base set is_aarq (values_under base.tables set carriage.Association places (pdvs_of base.tables vs))) h.one.is_one
        ∙ under-back base set is_aarq keeps-aarq base.tables places values h.one h.on_it ∙ ap the_values (sym h.one.is_one) in
        ap (λ (r : Result PresentationWord PpduFault). on_ppdu start r (connect_meaning base (record session { user = user }) start)) (read_in place.Cn (ppdus.Connect (record presentation { user = pdvs_of base.tables values })) w)
        ∙ ap (λ (b : Bool). with_values words (if b then Ok [] else (if has_acse set then under else otherwise))) faulty
        ∙ ap (λ (b : Bool). with_values words (if b then under else otherwise)) has
        ∙ ap (with_values words) is
        ∙ (λ i. the_word (OfAssociation (Connect (record session { user = sym s i }) (record presentation { user = sym p i }) values)))

    accepts : (base : Base) (body : Body) (start : ℕ) (session : Accepting) (presentation : PresentationAccept) (values : List DataValue) → presentation.user ≡ [] → stands base presentation ≡ true
        → CarriesOneOn base (set_accepted base presentation) is_acceptance values → IsWrittenIn place.Ac (ppdus.Accept (record presentation { user = pdvs_of base.tables values }))
        → on_ppdu start (ppdu_at place.Ac (written_ppdu (ppdus.Accept (record presentation { user = pdvs_of base.tables values }))))
        (accept_meaning base session start (written_ppdu (ppdus.Accept (record presentation { user = pdvs_of base.tables values })))) ≡ the_word (OfAssociation (Accept session presentation values))
    accepts base body start session presentation values p fits h w =
        let user : List ℕ = written_ppdu (ppdus.Accept (record presentation { user = pdvs_of base.tables values })) in
        let set : List SetItem = set_accepted base presentation in
        let words : List DataValue → Word = λ vs. OfAssociation (Accept session (record presentation { user = [] }) vs) in
        let places : List PdvPlaces = pdv_places place.Ac start user in
        let under : Result (List DataValue) Fault = and_informed base set is_acceptance (values_under base.tables set carriage.Association places (pdvs_of base.tables values)) in
        let is : under ≡ the_values values =
        ap (λ (vs : List DataValue). and_informed base set is_acceptance (values_under base.tables set carriage.Association places (pdvs_of base.tables vs))) h.one.is_one
        ∙ under-back base set is_acceptance keeps-acceptance base.tables places values h.one h.on_it ∙ ap the_values (sym h.one.is_one) in
        ap (λ (r : Result PresentationWord PpduFault). on_ppdu start r (accept_meaning base session start user)) (read_in place.Ac (ppdus.Accept (record presentation { user = pdvs_of base.tables values })) w)
        ∙ ap (λ (b : Bool). with_values words (if b then under else Ok [])) fits
        ∙ ap (with_values words) is
        ∙ (λ i. the_word (OfAssociation (Accept session (record presentation { user = sym p i }) values)))

    refuses : (base : Base) (body : Body) (start : ℕ) (transport reason : Option ℕ) (presentation : PresentationReject) (values : List DataValue) → presentation.user ≡ []
        → CarriesOne base (set_refused base presentation) is_response values → IsWrittenIn place.Rf (ppdus.Reject (record presentation { user = pdvs_of base.tables values }))
        → on_ppdu start (ppdu_at place.Rf (written_ppdu (ppdus.Reject (record presentation { user = pdvs_of base.tables values }))))
        (refuse_meaning base transport reason start (written_ppdu (ppdus.Reject (record presentation { user = pdvs_of base.tables values })))) ≡ the_word (OfAssociation (Refuse transport reason (Some presentation) values))
    refuses base body start transport reason presentation values p one w =
        let user : List ℕ = written_ppdu (ppdus.Reject (record presentation { user = pdvs_of base.tables values })) in
        let set : List SetItem = set_refused base presentation in
        let words : List DataValue → Word = λ vs. OfAssociation (Refuse transport reason (Some (record presentation { user = [] })) vs) in
        let places : List PdvPlaces = pdv_places place.Rf start user in
        let is : and_informed base set is_response (unasked_values places (pdvs_of base.tables values)) ≡ the_values values =
        ap (λ (vs : List DataValue). and_informed base set is_response (unasked_values places (pdvs_of base.tables vs))) one.is_one
        ∙ unasked-back base set is_response keeps-response base.tables places values one ∙ ap the_values (sym one.is_one) in
        ap (λ (r : Result PresentationWord PpduFault). on_ppdu start r (refuse_meaning base transport reason start user)) (read_in place.Rf (ppdus.Reject (record presentation { user = pdvs_of base.tables values })) w)
        ∙ ap (with_values words) is
        ∙ (λ i. the_word (OfAssociation (Refuse transport reason (Some (record presentation { user = sym p i })) values)))

    aborts : (base : Base) (body : Body) (start : ℕ) (transport : Option ℕ) (values : List DataValue) → CarriesOne base body.link.accepted is_abort values → IsWrittenIn place.Ab (ppdus.UserAbort None (pdvs_of base.tables values))
        → on_ppdu start (ppdu_at place.Ab (written_ppdu (ppdus.UserAbort None (pdvs_of base.tables values))))
        (abort_meaning base body transport start (written_ppdu (ppdus.UserAbort None (pdvs_of base.tables values)))) ≡ the_word (OfAssociation (Abort transport (UserValues values)))
    aborts base body start transport values one w =
        let user : List ℕ = written_ppdu (ppdus.UserAbort None (pdvs_of base.tables values)) in
        let set : List SetItem = body.link.accepted in
        let words : List DataValue → Word = λ vs. OfAssociation (Abort transport (UserValues vs)) in
        let places : List PdvPlaces = pdv_places place.Ab start user in
        let is : and_informed base set is_abort (unasked_values places (pdvs_of base.tables values)) ≡ the_values values =
        ap (λ (vs : List DataValue). and_informed base set is_abort (unasked_values places (pdvs_of base.tables vs))) one.is_one
        ∙ unasked-back base set is_abort keeps-abort base.tables places values one ∙ ap the_values (sym one.is_one) in
        ap (λ (r : Result PresentationWord PpduFault). on_ppdu start r (abort_meaning base body transport start user)) (read_in place.Ab (ppdus.UserAbort None (pdvs_of base.tables values)) w)
        ∙ ap (with_values words) is
