-- What two ends of reliable mode say may be written, and means itself where it is taken.
use Rattle.std.proofs.Common.{◌≡◌, refl, true, false, ◌∙◌, sym, ap, subst, ℕ, pos, List, [], ◌∷◌}
use Rattle.std.specs.Prelude.{Bool, not, ◌&&◌, Option, Some, None, min}
use Rattle.osi_base.specs.declared.acse_word.Acse.TheVariants as acse
use Rattle.osi_base.specs.declared.acse_word.Diagnostic.TheVariants.{User}
use Rattle.osi_base.specs.declared.rtse_word.Rtse.TheVariants as rtse
use Rattle.stub_tables.specs.declared.tables.Tables.{Tables}
use Rattle.dialogue.specs.declared.config.Config.{Config}
use Rattle.dialogue.specs.declared.config.Mode.TheVariants.{Reliable}
use Rattle.dialogue.specs.declared.indication.Indication.{Indication}
use Rattle.end_rules.specs.Base.{Base}
use Rattle.end_rules.specs.Sets.{has_abstract, fit_proposals}
use Rattle.osi_base.specs.SetPlaces.{pair_of}
use Rattle.osi_base.specs.Syntax.{rtse_name}
use Rattle.end_rules.specs.State.{Body, is_carrying, is_joined}
use Rattle.end_rules.specs.Messages.{Message, Transport, Session, Transferring, Plea, Part, DataValue, Word, OfAssociation, OfData, OfMarks, OfActivities, AssociationWord, Connect, Accept, Refuse, Finish, Disconnect, Abort, AbortAccept, Values, AlterContext, AlterContextAck, Mark, MarkAck, Restart, RestartAck, Give, Please, GiveConfirm, GiveAck, unit_of}
use Rattle.end_rules.specs.Writing.{acse_context, rtse_context, proposals, session_connect, presentation_connect, connect_values, connection_data}
use Rattle.end_rules.specs.Policy.{opening_policy}
use Rattle.end_rules.specs.Connecting.{has_acse, has_rtse, is_on_rtse, agreed_checkpoint, answering_data}
use Rattle.end_rules.specs.InPlace.{is_in_place, is_opening}
use Rattle.end_rules.specs.Reacting.{Takes, react}
use Rattle.end_rules.specs.Units.{has_version_two, has_units, needed_units, selected_with}
use Rattle.transfer_laws.specs.association_reading.Laws.{IsOfSession}
use Rattle.transfer_laws.specs.association_reading.Associating.{IsMeantAs}
use Rattle.agreement.specs.Sets.{Role, is_initiator}
use Rattle.agreement.specs.Sets.Role.{Initiator, Responder}
use Rattle.end_model.specs.BothEnds.{Common, base_at, Two, body_at, coming_to}
use Rattle.end_model.proofs.Fitting.{additions-answered}
use Rattle.reliable_model.specs.Ledgers.{Ledger}
use Rattle.reliable_model.proofs.Fixed.{AreIdentifiers, listed-identifiers}
use Rattle.reliable_model.proofs.FirmSteps.{in-place}
use Rattle.reliable_model.proofs.OnWay.{took-word}
use Rattle.transfer_laws.specs.Laws.{reliable_ends, IsReliable}
use Rattle.transfer_laws.proofs.Configs.{has-window}
use Rattle.transfer_laws.proofs.Premises.{has-free, fit}
use Rattle.said_spellings.specs.association_worlds.InTransit.{AreCarried}
use Rattle.said_words.specs.Calls.{Speaks}
use Rattle.said_words.specs.Words.{rtse_pair, transfer_value, IsReliableWord, IsPart, IsPlea, IsOfAssociation, AreMessages, the_connect, the_acceptance}
use Rattle.said_words.proofs.First.{first_accepted}
use Rattle.said_words.proofs.TransferFirst.{acse-pair, rtse-pair, on-acse, on-rtse, with-acse, with-rtse}
use Rattle.said_words.proofs.TransferWorlds.{reliable-says}
use Rattle.said_takings.specs.Laws.{IsTakenInTransfer}
use Rattle.said_takings.proofs.Transfers.{reliable-takes_rightly}
use Rattle.said_spellings.proofs.Transfers.{reliable_context, part-spelled, plea-spelled}
use Rattle.said_spellings.proofs.TransferWords.{part-in, plea-in, part-octets}
use Rattle.said_spellings.proofs.TransferAssociation.{request-so, response-so, asking-so, accepting-so, connect-in, acceptance-in}
use Rattle.said_spellings.proofs.Messages.{said-carried}
use Rattle.said_worlds.proofs.Meant.{Readings, alter-meant, ack-meant, finish-meant, disconnect-meant, abort-meant}
use Rattle.said_worlds.specs.Laws.{AreEndsIn, ReliableIsSaid}

both : (p q : Bool) → p ≡ true → q ≡ true → (p && q) ≡ true
both true q e f = f
both false q e f = cc

and-left : (p q : Bool) → (p && q) ≡ true → p ≡ true
and-left true q h = refl
and-left false q h = cc

module _ (reads : Readings) (tables : Tables) (a b : Config) (e : AreEndsIn Reliable tables a b) where
  abbrev common : Common
  common = reliable_ends tables a b

  abbrev base : Role → Base
  base role = base_at role common

  of_a : IsReliable a
  of_a = record { mode = e.of_a.mode; accepted = e.of_a.accepted }

  of_b : IsReliable b
  of_b = record { mode = e.of_b.mode; accepted = e.of_b.accepted }

  ids : AreIdentifiers (proposals (base Initiator))
  ids = listed-identifiers (proposals (base Initiator)) (fit tables a b e.module_s of_a of_b).identifiers

  said : (two : Two) (ledger : Ledger) → Speaks common two ledger → (role : Role) → AreMessages (base Initiator) (base Responder) (coming_to role two)
  said two ledger s role =
      let f = has-free tables a b e.module_s of_a of_b in
      reliable-says f.0 tables common.spellings a b f.1 (fit tables a b e.module_s of_a of_b) (has-window a e.of_a.accepted) two ledger s role

  -- ---- they may be written

  all-carried : (messages : List Message) → AreMessages (base Initiator) (base Responder) messages → AreCarried tables messages
  all-carried [] h = tt
  all-carried (message ∷ messages) h = (
    said-carried Reliable tables common.spellings a b message e.module_s refl refl e.of_a e.initiator e.of_b (fit tables a b e.module_s of_a of_b).proposes (fit tables a b e.module_s of_a of_b).identifiers h.0,
    all-carried messages h.1,
  )

  -- ---- and mean themselves

  abbrev Meant : Role → Body → Word → ℕ → Type 0
  Meant role body word start = IsMeantAs (base role) body start word

  part-meant : (role : Role) (body : Body) (values : List DataValue) (start : ℕ) → IsPart (base Initiator) values → pair_of body.sets.held 3 ≡ Some rtse_pair → Meant role body (OfData (Values values)) start
  part-meant role body values start i there =
      let o = part-octets (base Initiator) values refl refl e.module_s i in
      subst (λ (vs : List DataValue). Meant role body (OfData (Values vs)) start) (sym o.is_one)
      (reads.data_words.values (base role) body start (transfer_value (Part o.octets)) [] (part-in o.octets o.are o.few).writable
      (record { pair = rtse_pair; has_pair = refl; in_set = there; carries = refl; content = reads.transfers.part tables rtse_pair o.octets (part-spelled o.octets o.are o.few).writable refl }, tt))

  plea-meant : (role : Role) (body : Body) (tokens : Option ℕ) (values : List DataValue) (start : ℕ) → tokens ≡ Some 21 → IsPlea values → pair_of body.sets.held 3 ≡ Some rtse_pair → Meant role body (OfMarks (Please tokens values)) start
  plea-meant role body tokens values start t i there =
      subst (λ (x : Option ℕ). Meant role body (OfMarks (Please x values)) start) (sym t)
      (subst (λ (vs : List DataValue). Meant role body (OfMarks (Please (Some 21) vs)) start) (sym i.is_one)
      (reads.data_words.please (base role) body start 21 (transfer_value (Plea i.priority)) [] (plea-in i.priority i.few).writable
      (record { pair = rtse_pair; has_pair = refl; in_set = there; carries = refl; content = reads.transfers.plea tables rtse_pair i.priority (plea-spelled i.priority i.few).writable refl }, tt)))

  connect-meant : (role : Role) (body : Body) (start : ℕ) (recovers : Bool) → (not (is_initiator role) && is_joined body.link.stage) ≡ true → Meant role body (OfAssociation (the_connect (base Initiator) recovers)) start
  connect-meant Initiator body start recovers h = cc
  connect-meant Responder body start recovers h =
      let p = (fit tables a b e.module_s of_a of_b).proposes in
      reads.associations.connect (base Responder) body start (session_connect (base Initiator)) (presentation_connect (base Initiator)) (connect_values (base Initiator) recovers) refl refl p (with-acse tables common.spellings a b p ids)
      (record {
        one =
            record {
              id = 1;
              apdu = acse.AssociateRequest None reliable_context [];
              user = Transferring 3 (rtse.OpenRequest a.checkpoint a.window (pos 1) (connection_data (base Initiator) recovers)) ∷ [];
              is_one = refl;
              alone = refl;
              of_kind = refl;
              writable = (asking-so tables common.spellings a b p ids e.of_a recovers).writable;
              informed = (ap (has_abstract rtse_name) (rtse-pair tables common.spellings a b p ids), (request-so tables common.spellings a b p ids e.of_a recovers).writable, tt);
            };
        on_it = acse-pair tables common.spellings a b p ids;
      })
      (connect-in tables common.spellings a b p ids e.of_a e.initiator recovers).writable

  abbrev AcceptMeant : Role → Body → ℕ → Message → Type 0
  AcceptMeant role body start (Session word) = Meant role body word start
  AcceptMeant role body start (Transport unit) = Unit {0}

  accept-meant : (role : Role) (body : Body) (start : ℕ) (recovers : Bool) → is_initiator role ≡ true → AcceptMeant role body start (the_acceptance (base Initiator) (base Responder) recovers)
  accept-meant Responder body start recovers h = cc
  accept-meant Initiator body start recovers h =
      let p = (fit tables a b e.module_s of_a of_b).proposes in
      let fits : fit_proposals (proposals (base Initiator)) (opening_policy (base Responder) (proposals (base Initiator))) ≡ true = additions-answered (base Responder) true 0 (proposals (base Initiator)) in
      let k : acse_context (first_accepted common) ≡ 1 = on-acse tables common.spellings a b p ids in
      let on : is_on_rtse (first_accepted common) (rtse_context (first_accepted common)) ≡ true =
      ap (λ (j : ℕ). has_abstract rtse_name (pair_of (first_accepted common) j)) (on-rtse tables common.spellings a b p ids) ∙ ap (has_abstract rtse_name) (rtse-pair tables common.spellings a b p ids) in
      reads.associations.accept (base Initiator) body start _ _ _ refl
      (both (fit_proposals (proposals (base Initiator)) (opening_policy (base Responder) (proposals (base Initiator))) && has_acse (first_accepted common)) (has_rtse (first_accepted common))
      (both (fit_proposals (proposals (base Initiator)) (opening_policy (base Responder) (proposals (base Initiator)))) (has_acse (first_accepted common)) fits (with-acse tables common.spellings a b p ids)) (with-rtse tables common.spellings a b p ids))
      (record {
        one =
            record {
              id = acse_context (first_accepted common);
              apdu = acse.AssociateResponse reliable_context 0 (User (pos 0)) [];
              user = Transferring (rtse_context (first_accepted common)) (rtse.OpenAccept (agreed_checkpoint b.checkpoint a.checkpoint) (min b.window a.window) (answering_data (base Responder) (connection_data (base Initiator) recovers))) ∷ [];
              is_one = refl;
              alone = refl;
              of_kind = refl;
              writable = (accepting-so tables common.spellings a b p ids e.of_a e.of_b recovers).writable;
              informed = (on, (response-so tables common.spellings a b p ids e.of_a e.of_b recovers).writable, tt);
            };
        on_it = ap (pair_of (first_accepted common)) k ∙ acse-pair tables common.spellings a b p ids;
      })
      (acceptance-in tables common.spellings a b p ids e.of_a e.of_b recovers).writable

  association-meant : (role : Role) (body : Body) (word : AssociationWord) (start : ℕ) → IsOfAssociation (base Initiator) (base Responder) word → IsTakenInTransfer body (OfAssociation word) → is_in_place (base role) body (unit_of (OfAssociation word)) ≡ true → Meant role body (OfAssociation word) start
  association-meant role body (Connect session presentation values) start i t p = subst (λ (w : AssociationWord). Meant role body (OfAssociation w) start) (sym i.1) (connect-meant role body start i.0 p)
  association-meant role body (Accept session presentation values) start i t p =
      subst (AcceptMeant role body start) (sym i.1)
      (accept-meant role body start i.0 (and-left (is_initiator role) (is_carrying body.link.stage) (and-left (is_initiator role && is_carrying body.link.stage) (is_opening body.link.phase) (and-left _ (has_version_two session.version) (and-left _ (has_units (needed_units Reliable) (selected_with Reliable session.requirements)) p)))))
  association-meant role body (Refuse transport reason presentation values) start i t p = absurd i
  association-meant role body (Finish transport values) start i t p = subst (λ (w : AssociationWord). Meant role body (OfAssociation w) start) (sym i) (finish-meant reads (base role) body start t)
  association-meant role body (Disconnect values) start i t p = subst (λ (w : AssociationWord). Meant role body (OfAssociation w) start) (sym i) (disconnect-meant reads (base role) body start t)
  association-meant role body (Abort transport user) start i t p = subst (λ (w : AssociationWord). Meant role body (OfAssociation w) start) (sym i) (abort-meant reads (base role) body start)
  association-meant role body AbortAccept start i t p = absurd i

  word-meant : (role : Role) (body : Body) (word : Word) (start : ℕ) → (IsOfSession word → ⊥) → IsReliableWord (base Initiator) (base Responder) word → IsTakenInTransfer body word → is_in_place (base role) body (unit_of word) ≡ true → Meant role body word start
  word-meant role body (OfAssociation word) start late i t p = association-meant role body word start i t p
  word-meant role body (OfData (Values values)) start late i t p = part-meant role body values start i t
  word-meant role body (OfData (AlterContext add delete)) start late i t p = alter-meant reads (base role) body start add delete i
  word-meant role body (OfData (AlterContextAck answers)) start late i t p = ack-meant reads (base role) body start answers i
  word-meant role body (OfMarks (Mark number)) start late i t p = absurd (late tt)
  word-meant role body (OfMarks (MarkAck number)) start late i t p = absurd (late tt)
  word-meant role body (OfMarks (Restart number list)) start late i t p = absurd i
  word-meant role body (OfMarks (RestartAck number list)) start late i t p = absurd i
  word-meant role body (OfMarks (Give tokens)) start late i t p = absurd i
  word-meant role body (OfMarks (Please tokens values)) start late i t p = plea-meant role body tokens values start i.0 i.1 t
  word-meant role body (OfMarks GiveConfirm) start late i t p = absurd (late tt)
  word-meant role body (OfMarks GiveAck) start late i t p = absurd (late tt)
  word-meant role body (OfActivities word) start late i t p = absurd (late tt)

  took-meant : (two : Two) (ledger : Ledger) → Speaks common two ledger → (role : Role) (word : Word) (left : List Message) (body : Body) (answers : List Message) (shown : List Indication) (start : ℕ) → (IsOfSession word → ⊥) → coming_to role two ≡ Session word ∷ left → react (base role) (body_at role two) (Session word) ≡ Takes body answers shown → Meant role (body_at role two) word start
  took-meant two ledger s role word left body answers shown start late comes h =
      let f = has-free tables a b e.module_s of_a of_b in
      let t = took-word (base role) (body_at role two) word body answers shown h in
      word-meant role (body_at role two) word start late (subst (AreMessages (base Initiator) (base Responder)) comes (said two ledger s role)).0
      (reliable-takes_rightly f.0 tables common.spellings a b f.1 (fit tables a b e.module_s of_a of_b) (has-window a e.of_a.accepted) two ledger s role word left body answers shown comes h)
      (in-place (base role) (body_at role two) word t.fine)

pub reliable-is_said : Readings → ReliableIsSaid
reliable-is_said reads tables a b e =
    record {
      carried = λ two ledger s role. all-carried reads tables a b e (coming_to role two) (said reads tables a b e two ledger s role);
      meant = λ two ledger s role word left body answers shown start late comes h. took-meant reads tables a b e two ledger s role word left body answers shown start late comes h;
    }
