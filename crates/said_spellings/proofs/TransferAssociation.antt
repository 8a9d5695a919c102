-- The words that open, recover and end an association of reliable mode may be written.
use Rattle.std.proofs.Common.{◌≡◌, refl, true, false, sym, ap, subst, arith, ℕ, ◌≤◌, pos, List, [], ◌∷◌, length}
use Rattle.std.specs.Prelude.{Bool, ◌&&◌, ◌||◌, Some, None, min, nat_eq, if◌then◌else◌}
use Rattle.std.specs.List.{list_all}
use Rattle.osi_base.specs.declared.acse_word.Acse.TheVariants as acse
use Rattle.osi_base.specs.declared.acse_word.Diagnostic.TheVariants.{User}
use Rattle.osi_base.specs.declared.rtse_word.Rtse.TheVariants as rtse
use Rattle.osi_base.specs.declared.layer_words.AddAnswer.{AddAnswer}
use Rattle.osi_base.specs.declared.presentation_word.PdvContent.TheVariants as forms
use Rattle.osi_base.specs.declared.presentation_word.PresentationWord.{PresentationWord}
use Rattle.osi_base.specs.declared.presentation_word.PresentationWord.TheVariants as ppdus
use Rattle.osi_base.specs.declared.session_word.SessionWord.TheVariants as units
use Rattle.osi_base.proofs.OctetLaws.{no_octets}
use Rattle.asn1_types.proofs.OctetTests.{octets_by_test}
use Rattle.osi_base.specs.Syntax.{acse_name, rtse_name}
use Rattle.acse.specs.Written.{written_acse}
use Rattle.rtse_apdus.specs.Written.{written_rtse}
use Rattle.end_config.specs.presentation_pdus.declared.place.PpduPlace.TheVariants as place
use Rattle.end_config.specs.presentation_pdus.Rows.{ppdu_rows, connect_row}
use Rattle.end_config.specs.presentation_pdus.Words.{value_of, written_ppdu}
use Rattle.association_worlds.specs.ppdu_laws.Written.{definition_sized}
use Rattle.spdu_codec.specs.Written.{connect_data}
use Rattle.stub_tables.specs.declared.tables.Tables.{Tables}
use Rattle.dialogue.specs.declared.config.Config.{Config}
use Rattle.dialogue.specs.declared.config.Mode.TheVariants.{Reliable}
use Rattle.end_config.specs.Connecting.{connect_octets}
use Rattle.end_config.proofs.Connects.{connect_is_of_rules}
use Rattle.end_rules.specs.Base.{Spellings, is_bare}
use Rattle.end_rules.specs.Messages.{OfAssociation, AssociationWord, Connect, Accept, Refuse, Finish, Disconnect, Abort, AbortAccept}
use Rattle.end_rules.specs.Writing.{acse_context, rtse_context, requirement_bits, proposals, session_connect, presentation_connect, connection_data, proposal_in_ber}
use Rattle.end_rules.specs.Policy.{opening_policy}
use Rattle.end_rules.specs.Connecting.{agreed_checkpoint, answering_data}
use Rattle.association_worlds.specs.association_reading.Laws.{IsSendable}
use Rattle.agreement.specs.Sets.Role.{Initiator, Responder}
use Rattle.end_model.specs.BothEnds.{Common, base_at}
use Rattle.end_model.specs.DirectEnds.{ProposesRightly}
use Rattle.reliable_model.specs.ReliableEnds.{reliable_common}
use Rattle.reliable_model.proofs.Fixed.{AreIdentifiers}
use Rattle.der_octets.proofs.Octets.{der-octets}
use Rattle.said_words.specs.Fields.{IsContext}
use Rattle.said_words.specs.Words.{the_connect, the_acceptance, IsOfAssociation}
use Rattle.said_words.proofs.Answers.{results-so, results-few}
use Rattle.said_words.proofs.First.{first_accepted}
use Rattle.said_words.proofs.TransferFirst.{on-acse, on-rtse}
use Rattle.said_spellings.specs.Laws.{IsEndIn}
use Rattle.said_spellings.proofs.Ppdus.{connect-fitting}
use Rattle.said_spellings.proofs.Session.{spelled-are, parameters-append, alone}
use Rattle.said_spellings.proofs.Places.{InPlace}
use Rattle.said_spellings.proofs.Carried.{sendable}
use Rattle.said_spellings.proofs.Transfers.{Spelled, SpelledRtse, SpelledAcse, IsConnection, carrying, reliable_context, request-spelled, accept-spelled, asking-spelled, accepting-spelled}
use Rattle.said_spellings.proofs.Association.{accepted, short-connect, one, pdv, bits-true, accept_unit, accept-in, each-named, identified-whole, connect-data_are, AcceptSent, finish-sent, disconnect-sent, abort-sent}

both : (p q : Bool) → p ≡ true → q ≡ true → (p && q) ≡ true
both true q e f = f
both false q e f = cc

three : IsContext 3
three = (omega arith, omega arith)

wider : (os : List ℕ) → Spelled os 140 → Spelled os 150
wider os s = let few : length os ≤ 140 = s.few in record { is_whole_one = s.is_whole_one; octets_are = s.octets_are; few = omega arith }

-- the smaller of two
checkpoint-few : (own theirs : ℕ) → own ≤ 255 → agreed_checkpoint own theirs ≤ 255
checkpoint-few own theirs h = go (nat_eq own 0 || nat_eq theirs 0)
  where
    go : (p : Bool) → (if p then 0 else min own theirs) ≤ 255
    go true = omega arith
    go false = omega arith

module _ (tables : Tables) (spellings : Spellings) (a b : Config) (right : ProposesRightly (reliable_common tables spellings a b)) (ids : AreIdentifiers (proposals (base_at Initiator (reliable_common tables spellings a b)))) where
  abbrev common : Common
  common = reliable_common tables spellings a b

  -- ---- what a CN and an AC carry of reliable transfer

  data-so : IsEndIn Reliable a → (recovers : Bool) → IsConnection (connection_data (base_at Initiator common) recovers)
  data-so ea false = refl
  data-so ea true = let c = accepted a ea.accepted in ((ea.references.0, c.reference), (ea.references.1, c.common))

  answer-so : IsEndIn Reliable a → (recovers : Bool) → IsConnection (answering_data (base_at Responder common) (connection_data (base_at Initiator common) recovers))
  answer-so ea false = refl
  answer-so ea true = let c = accepted a ea.accepted in ((ea.references.0, c.reference), (ea.references.1, c.common))

  abbrev pub request_of : Bool → List ℕ
  request_of recovers = written_rtse (rtse.OpenRequest a.checkpoint a.window (pos 1) (connection_data (base_at Initiator common) recovers))

  abbrev pub response_of : Bool → List ℕ
  response_of recovers = written_rtse (rtse.OpenAccept (agreed_checkpoint b.checkpoint a.checkpoint) (min b.window a.window) (answering_data (base_at Responder common) (connection_data (base_at Initiator common) recovers)))

  pub request-so : IsEndIn Reliable a → (recovers : Bool) → SpelledRtse (rtse.OpenRequest a.checkpoint a.window (pos 1) (connection_data (base_at Initiator common) recovers)) 140
  request-so ea recovers =
      let c = accepted a ea.accepted in request-spelled a.checkpoint a.window (connection_data (base_at Initiator common) recovers) c.checkpoint c.window (data-so ea recovers)

  pub response-so : IsEndIn Reliable a → IsEndIn Reliable b → (recovers : Bool) → SpelledRtse (rtse.OpenAccept (agreed_checkpoint b.checkpoint a.checkpoint) (min b.window a.window) (answering_data (base_at Responder common) (connection_data (base_at Initiator common) recovers))) 140
  response-so ea eb recovers =
      let c = accepted b eb.accepted in
      let w : b.window ≤ 255 = c.window in
      accept-spelled (agreed_checkpoint b.checkpoint a.checkpoint) (min b.window a.window) (answering_data (base_at Responder common) (connection_data (base_at Initiator common) recovers)) (checkpoint-few b.checkpoint a.checkpoint c.checkpoint) (omega arith) (answer-so ea recovers)

  abbrev pub asking_of : Bool → List ℕ
  asking_of recovers = written_acse (acse.AssociateRequest None reliable_context (carrying 3 (request_of recovers) ∷ []))

  abbrev pub accepting_of : Bool → List ℕ
  accepting_of recovers = written_acse (acse.AssociateResponse reliable_context 0 (User (pos 0)) (carrying (rtse_context (first_accepted common)) (response_of recovers) ∷ []))

  pub asking-so : IsEndIn Reliable a → (recovers : Bool) → SpelledAcse (acse.AssociateRequest None reliable_context (carrying 3 (request_of recovers) ∷ [])) 400
  asking-so ea recovers = asking-spelled 3 (request_of recovers) three (wider (request_of recovers) (request-so ea recovers).spelled)

  on-transfers : IsContext (rtse_context (first_accepted common))
  on-transfers = subst IsContext (sym (on-rtse tables spellings a b right ids)) three

  pub accepting-so : IsEndIn Reliable a → IsEndIn Reliable b → (recovers : Bool) → SpelledAcse (acse.AssociateResponse reliable_context 0 (User (pos 0)) (carrying (rtse_context (first_accepted common)) (response_of recovers) ∷ [])) 420
  accepting-so ea eb recovers = accepting-spelled (rtse_context (first_accepted common)) (response_of recovers) on-transfers (wider (response_of recovers) (response-so ea eb recovers).spelled)

  -- ---- AC

  abbrev pub results : List AddAnswer
  results = opening_policy (base_at Responder common) (proposals (base_at Initiator common))

  pub acceptance-in : IsEndIn Reliable a → IsEndIn Reliable b → (recovers : Bool) → InPlace place.Ac (accept_unit b.called results (acse_context (first_accepted common)) (accepting_of recovers)) 50000
  acceptance-in ea eb recovers =
      let ca = accepted a ea.accepted in
      let cb = accepted b eb.accepted in
      let s = (accepting-so ea eb recovers).spelled in
      let few : length (accepting_of recovers) ≤ 420 = s.few in
      let on : IsContext (acse_context (first_accepted common)) = subst IsContext (sym (on-acse tables spellings a b right ids)) one in
      let n = results-few (base_at Responder common) true 0 (proposals (base_at Initiator common)) in
      let c : length a.contexts ≤ 62 = ca.contexts in
      accept-in b.called results (acse_context (first_accepted common)) (accepting_of recovers) on eb.called cb.called.high (results-so (base_at Responder common) true 0 (proposals (base_at Initiator common))) (omega arith) (s.is_whole_one, s.octets_are) (omega arith)

  accept-sent : IsEndIn Reliable a → IsEndIn Reliable b → (recovers : Bool) → AcceptSent tables (the_acceptance (base_at Initiator common) (base_at Responder common) recovers)
  accept-sent ea eb recovers =
      let unit = accept_unit b.called results (acse_context (first_accepted common)) (accepting_of recovers) in
      let p = acceptance-in ea eb recovers in
      let few : length (written_ppdu unit) ≤ 50000 = p.few in
      sendable tables _
      (alone (units.Accept (Some 0) (Some 2) None _ (written_ppdu unit)) refl
      (record { fields = tt; few = omega arith; code = omega arith; parameters = ((omega arith, octets_by_test _ refl), ((omega arith, octets_by_test _ refl), ((omega arith, p.octets), tt))); information = no_octets; within = omega arith }))

  -- ---- CN

  abbrev pub connect_unit : Bool → PresentationWord
  connect_unit recovers = ppdus.Connect (record (presentation_connect (base_at Initiator common)) { user = pdv 1 (asking_of recovers) ∷ [] })

  pub connect-in : IsEndIn Reliable a → a.initiator ≡ true → (recovers : Bool) → InPlace place.Cn (connect_unit recovers) 10240
  connect-in ea i recovers =
      let ca = accepted a ea.accepted in
      let x = (asking-so ea recovers).spelled in
      let size : length (asking_of recovers) ≤ 400 = x.few in
      let same : written_ppdu (connect_unit recovers) ≡ connect_octets a recovers = ap (λ c. written_ppdu (ppdus.Connect c)) (connect_is_of_rules (base_at Initiator common) recovers (sym ea.mode)) in
      let short = short-connect a recovers i (ap is_bare ea.mode) ea.accepted in
      let few : length (written_ppdu (connect_unit recovers)) ≤ 10240 = subst (λ os. length os ≤ 10240) (sym same) short in
      let s = connect-fitting a.calling a.called (proposal_in_ber 1 acse_name) (proposal_in_ber 3 rtse_name ∷ a.contexts) (requirement_bits true) 1 (forms.SingleAsn1Type (asking_of recovers)) ea.calling ca.calling.high ea.called ca.called.high
      (each-named (proposals (base_at Initiator common)) ids (refl, (refl, tt), (refl, (refl, tt), ea.contexts))) bits-true one (x.is_whole_one, x.octets_are) (omega arith) in
      record {
        writable = record { carried = refl; whole = both (list_all definition_sized (proposals (base_at Initiator common)) && true) true (both (list_all definition_sized (proposals (base_at Initiator common))) true (identified-whole (proposals (base_at Initiator common)) ids) refl) refl; fitting = s.fitting; within = omega arith };
        octets = der-octets ppdu_rows connect_row (value_of (connect_unit recovers)) s.leaves (omega arith);
        few = few;
      }

  connect-sent : IsEndIn Reliable a → a.initiator ≡ true → (recovers : Bool) → IsSendable tables (OfAssociation (the_connect (base_at Initiator common) recovers))
  connect-sent ea i recovers =
      let p = connect-in ea i recovers in
      let ca = accepted a ea.accepted in
      let few : length (written_ppdu (connect_unit recovers)) ≤ 10240 = p.few in
      let m : length a.calling ≤ 16 = ca.calling.high in
      let n : length a.called ≤ 16 = ca.called.high in
      let r : length a.reference ≤ 64 = ca.reference in
      let c : length a.common ≤ 13 = ca.common in
      sendable tables (OfAssociation (the_connect (base_at Initiator common) recovers))
      (alone (units.Connect (record (session_connect (base_at Initiator common)) { user = written_ppdu (connect_unit recovers) })) refl
      (record {
        fields = (tt, few);
        few = omega arith;
        code = omega arith;
        parameters = (
          (omega arith, spelled-are ((10, a.reference) ∷ (11, a.common) ∷ []) ((omega arith, ea.references.0), ((omega arith, ea.references.1), tt))),
          ((omega arith, octets_by_test _ refl), ((omega arith, octets_by_test _ refl), ((omega arith, ea.calling), ((omega arith, ea.called), parameters-append (connect_data (written_ppdu (connect_unit recovers))) [] (connect-data_are (written_ppdu (connect_unit recovers)) p.octets) tt)))),
        );
        information = no_octets;
        within = omega arith;
      }))

  -- ---- all of them

  pub association-sent : (word : AssociationWord) → IsEndIn Reliable a → a.initiator ≡ true → IsEndIn Reliable b → IsOfAssociation (base_at Initiator common) (base_at Responder common) word → IsSendable tables (OfAssociation word)
  association-sent (Connect session presentation values) ea i eb h = subst (λ (w : AssociationWord). IsSendable tables (OfAssociation w)) (sym h.1) (connect-sent ea i h.0)
  association-sent (Accept session presentation values) ea i eb h = subst (AcceptSent tables) (sym h.1) (accept-sent ea eb h.0)
  association-sent (Refuse transport reason presentation values) ea i eb h = absurd h
  association-sent (Finish transport values) ea i eb h = subst (λ (w : AssociationWord). IsSendable tables (OfAssociation w)) (sym h) (finish-sent tables)
  association-sent (Disconnect values) ea i eb h = subst (λ (w : AssociationWord). IsSendable tables (OfAssociation w)) (sym h) (disconnect-sent tables)
  association-sent (Abort transport user) ea i eb h = subst (λ (w : AssociationWord). IsSendable tables (OfAssociation w)) (sym h) (abort-sent tables)
  association-sent AbortAccept ea i eb h = absurd h
