-- What two ends of direct mode say may be written, and means itself where it is taken.
use Rattle.std.proofs.Common.{◌≡◌, refl, true, false, ◌∙◌, sym, ap, subst, ℕ, pos, List, [], ◌∷◌}
use Rattle.std.specs.Prelude.{Bool, not, ◌&&◌, ◌||◌, Some, None, Ok}
use Rattle.osi_base.specs.declared.acse_word.Acse.TheVariants as acse
use Rattle.osi_base.specs.declared.acse_word.Diagnostic.TheVariants.{User}
use Rattle.stub_tables.specs.declared.tables.Tables.{Tables}
use Rattle.dialogue.specs.declared.config.Config.{Config}
use Rattle.end_rules.specs.Base.{Base, Item}
use Rattle.end_rules.specs.Sets.{same_name, fit_proposals}
use Rattle.osi_base.specs.SetPlaces.{pair_of}
use Rattle.osi_base.specs.Syntax.{acse_name}
use Rattle.end_rules.specs.State.{Body, is_carrying, is_joined}
use Rattle.end_rules.specs.Messages.{Message, Transport, Session, DataValue, Word, OfAssociation, OfData, OfMarks, OfActivities, AssociationWord, Connect, Accept, Refuse, Finish, Disconnect, Abort, AbortAccept, Values, AlterContext, AlterContextAck, Mark, MarkAck, Restart, RestartAck, Give, Please, GiveConfirm, GiveAck, unit_of, value_of_item}
use Rattle.end_rules.specs.Writing.{acse_context, proposals, session_connect, presentation_connect, connect_values}
use Rattle.end_rules.specs.Policy.{opening_policy}
use Rattle.end_rules.specs.Connecting.{has_acse}
use Rattle.end_rules.specs.InPlace.{is_in_place, is_opening}
use Rattle.end_rules.specs.Units.{has_version_two, has_units, needed_units, selected_with}
use Rattle.dialogue.specs.declared.config.Mode.TheVariants.{Direct}
use Rattle.transfer_laws.specs.association_wire.Units.{user_octets}
use Rattle.transfer_laws.specs.association_wire.Written.{with_user}
use Rattle.transfer_laws.specs.association_reading.Laws.{IsOfSession}
use Rattle.transfer_laws.specs.association_reading.Meaning.{meaning}
use Rattle.agreement.specs.Sets.{Role, is_initiator}
use Rattle.agreement.specs.Sets.Role.{Initiator, Responder}
use Rattle.end_model.specs.BothEnds.{Common, base_at, Two, body_at, coming_to}
use Rattle.end_model.specs.DirectEnds.{ProposesRightly}
use Rattle.end_model.proofs.Plain.{has-codec}
use Rattle.end_model.proofs.Fitting.{same-itself, additions-answered}
use Rattle.end_laws.specs.Codecs.{Transfers, direct_ends, IsDirect}
use Rattle.end_laws.proofs.Premises.{direct-back, rightly}
use Rattle.reliable_model.specs.Ledgers.{Ledger}
use Rattle.reliable_model.specs.Codecs.{IsTransferable}
use Rattle.reliable_model.proofs.Fixed.{AreIdentifiers, listed-identifiers}
use Rattle.transfer_spelling.proofs.Writable.{transferables-writable}
use Rattle.transfer_laws.proofs.Configs.{identifiers-right}
use Rattle.said_spellings.specs.association_worlds.InTransit.{AreCarried}
use Rattle.said_words.specs.Calls.{Speaks}
use Rattle.said_words.specs.Laws.{ProposesContexts}
use Rattle.said_words.specs.Words.{IsWord, AreMessages, IsOfAssociation, the_connect, the_acceptance}
use Rattle.said_words.proofs.First.{first_accepted, first-pair, first-acse, first-context}
use Rattle.said_words.proofs.Worlds.{direct-says}
use Rattle.said_takings.specs.Laws.{IsTaken}
use Rattle.said_takings.proofs.Takings.{direct-takes_rightly, word-in_place}
use Rattle.said_words.specs.Fields.{IsContext}
use Rattle.said_spellings.proofs.Messages.{said-carried}
use Rattle.said_spellings.proofs.Carried.{item-in}
use Rattle.said_spellings.proofs.Association.{connect-in, acceptance-in}
use Rattle.said_worlds.proofs.Meant.{Readings, asking-writable, accepting-writable, alter-meant, ack-meant, restart-meant, restart_ack-meant, finish-meant, disconnect-meant, abort-meant}
use Rattle.said_worlds.specs.Laws.{AreEnds, DirectIsSaid}

or-true : (p q : Bool) → p ≡ true → (p || q) ≡ true
or-true true q e = refl
or-true false q e = cc

both : (p q : Bool) → p ≡ true → q ≡ true → (p && q) ≡ true
both true q e f = f
both false q e f = cc

and-left : (p q : Bool) → (p && q) ≡ true → p ≡ true
and-left true q h = refl
and-left false q h = cc

module _ (reads : Readings) (tables : Tables) (transfers : Transfers) (a b : Config) (e : AreEnds tables a b) where
  abbrev common : Common
  common = direct_ends tables transfers a b

  abbrev base : Role → Base
  base role = base_at role common

  direct : IsDirect a
  direct = record { mode = e.of_a.mode; accepted = e.of_a.accepted }

  right : ProposesRightly common
  right = rightly tables transfers a b e.module_s.readable direct

  contexts : ProposesContexts common
  contexts = identifiers-right a e.of_a.accepted

  ids : AreIdentifiers (proposals (base Initiator))
  ids = listed-identifiers (proposals (base Initiator)) contexts

  said : (two : Two) (ledger : Ledger) → Speaks common two ledger → (role : Role) → AreMessages (base Initiator) (base Responder) (coming_to role two)
  said two ledger s role = direct-says has-codec.0 tables common.spellings a b has-codec.1 (direct-back tables transfers a b e.module_s.readable) right contexts two ledger s role

  -- ---- they may be written

  all-carried : (messages : List Message) → AreMessages (base Initiator) (base Responder) messages → AreCarried tables messages
  all-carried [] h = tt
  all-carried (message ∷ messages) h = (said-carried Direct tables common.spellings a b message e.module_s refl tt e.of_a e.initiator e.of_b right contexts h.0, all-carried messages h.1)

  -- ---- and mean themselves

  abbrev Meant : Role → Body → Word → ℕ → Type 0
  Meant role body word start = meaning (base role) body (with_user (user_octets tables word) (unit_of word)) start ≡ Ok word

  value-meant : (role : Role) (body : Body) (item : Item) (start : ℕ) → IsTransferable (base Initiator) item.apdu → IsContext item.id → pair_of body.sets.held item.id ≡ Some item.pair → item.pair.abstract_name ≡ tables.name_oid → Meant role body (OfData (Values (value_of_item item ∷ []))) start
  value-meant role body item start t i there named =
      let w = transferables-writable (base Initiator) item.pair.transfer item.apdu refl e.module_s t in
      let p = item-in tables item e.module_s w i in
      let its : same_name item.pair.abstract_name tables.name_oid ≡ true = ap (λ n. same_name n tables.name_oid) named ∙ same-itself tables.name_oid in
      reads.data_words.values (base role) body start (value_of_item item) [] p.writable
      (record { pair = item.pair; has_pair = refl; in_set = there; carries = or-true (same_name item.pair.abstract_name tables.name_oid) (same_name item.pair.abstract_name acse_name) its; content = reads.remote tables item.pair item.apdu e.module_s.readable w its }, tt)

  connect-meant : (role : Role) (body : Body) (start : ℕ) → (not (is_initiator role) && is_joined body.link.stage) ≡ true → Meant role body (OfAssociation (the_connect (base Initiator) false)) start
  connect-meant Initiator body start h = cc
  connect-meant Responder body start h =
      reads.associations.connect (base Responder) body start (session_connect (base Initiator)) (presentation_connect (base Initiator)) (connect_values (base Initiator) false) refl refl right (first-acse tables common.spellings a b right ids)
      (record {
        one = record { id = 1; apdu = acse.AssociateRequest None (2 ∷ 999 ∷ 5 ∷ 3 ∷ []) []; user = []; is_one = refl; alone = refl; of_kind = refl; writable = asking-writable; informed = tt };
        on_it = first-pair tables common.spellings a b right ids;
      })
      (connect-in tables common.spellings a b right ids e.of_a e.initiator).writable

  abbrev AcceptMeant : Role → Body → ℕ → Message → Type 0
  AcceptMeant role body start (Session word) = Meant role body word start
  AcceptMeant role body start (Transport unit) = Unit {0}

  accept-meant : (role : Role) (body : Body) (start : ℕ) → is_initiator role ≡ true → AcceptMeant role body start (the_acceptance (base Initiator) (base Responder) false)
  accept-meant Responder body start h = cc
  accept-meant Initiator body start h =
      let fit : fit_proposals (proposals (base Initiator)) (opening_policy (base Responder) (proposals (base Initiator))) ≡ true = additions-answered (base Responder) true 0 (proposals (base Initiator)) in
      let k : acse_context (first_accepted common) ≡ 1 = first-context tables common.spellings a b right ids in
      reads.associations.accept (base Initiator) body start _ _ _ refl
      (both _ true (both _ (has_acse (first_accepted common)) fit (first-acse tables common.spellings a b right ids)) refl)
      (record {
        one = record { id = acse_context (first_accepted common); apdu = acse.AssociateResponse (2 ∷ 999 ∷ 5 ∷ 3 ∷ []) 0 (User (pos 0)) []; user = []; is_one = refl; alone = refl; of_kind = refl; writable = accepting-writable; informed = tt };
        on_it = ap (pair_of (first_accepted common)) k ∙ first-pair tables common.spellings a b right ids;
      })
      (acceptance-in tables common.spellings a b right ids e.of_a e.of_b).writable

  association-meant : (role : Role) (body : Body) (word : AssociationWord) (start : ℕ) → IsOfAssociation (base Initiator) (base Responder) word → IsTaken (base role) body (OfAssociation word) → is_in_place (base role) body (unit_of (OfAssociation word)) ≡ true → Meant role body (OfAssociation word) start
  association-meant role body (Connect session presentation values) start i t p = subst (λ (w : AssociationWord). Meant role body (OfAssociation w) start) (sym i.1) (connect-meant role body start p)
  association-meant role body (Accept session presentation values) start i t p =
      subst (AcceptMeant role body start) (sym i.1)
      (accept-meant role body start (and-left (is_initiator role) (is_carrying body.link.stage) (and-left (is_initiator role && is_carrying body.link.stage) (is_opening body.link.phase) (and-left _ (has_version_two session.version) (and-left _ (has_units (needed_units Direct) (selected_with Direct session.requirements)) p)))))
  association-meant role body (Refuse transport reason presentation values) start i t p = absurd i
  association-meant role body (Finish transport values) start i t p = subst (λ (w : AssociationWord). Meant role body (OfAssociation w) start) (sym i) (finish-meant reads (base role) body start t)
  association-meant role body (Disconnect values) start i t p = subst (λ (w : AssociationWord). Meant role body (OfAssociation w) start) (sym i) (disconnect-meant reads (base role) body start t)
  association-meant role body (Abort transport user) start i t p = subst (λ (w : AssociationWord). Meant role body (OfAssociation w) start) (sym i) (abort-meant reads (base role) body start)
  association-meant role body AbortAccept start i t p = absurd i

  word-meant : (role : Role) (body : Body) (word : Word) (start : ℕ) → (IsOfSession word → ⊥) → IsWord (base Initiator) (base Responder) word → IsTaken (base role) body word → is_in_place (base role) body (unit_of word) ≡ true → Meant role body word start
  word-meant role body (OfAssociation word) start late i t p = association-meant role body word start i t p
  word-meant role body (OfData (Values values)) start late i t p =
      subst (λ (vs : List DataValue). Meant role body (OfData (Values vs)) start) (sym i.is_one)
      (let on = t i.item i.is_one in value-meant role body i.item start i.transferable i.context on.there on.named)
  word-meant role body (OfData (AlterContext add delete)) start late i t p = alter-meant reads (base role) body start add delete i
  word-meant role body (OfData (AlterContextAck answers)) start late i t p = ack-meant reads (base role) body start answers i
  word-meant role body (OfMarks (Mark number)) start late i t p = absurd (late tt)
  word-meant role body (OfMarks (MarkAck number)) start late i t p = absurd i
  word-meant role body (OfMarks (Restart number list)) start late i t p = restart-meant reads (base role) body start number list i
  word-meant role body (OfMarks (RestartAck number list)) start late i t p = restart_ack-meant reads (base role) body start number list i
  word-meant role body (OfMarks (Give tokens)) start late i t p = absurd (late tt)
  word-meant role body (OfMarks (Please tokens [])) start late i t p = absurd (late tt)
  word-meant role body (OfMarks (Please tokens (value ∷ values))) start late i t p = cc
  word-meant role body (OfMarks GiveConfirm) start late i t p = absurd i
  word-meant role body (OfMarks GiveAck) start late i t p = absurd i
  word-meant role body (OfActivities word) start late i t p = absurd i

pub direct-is_said : Readings → DirectIsSaid
direct-is_said reads tables transfers a b e =
    record {
      carried = λ two ledger s role. all-carried reads tables transfers a b e (coming_to role two) (said reads tables transfers a b e two ledger s role);
      meant =
          λ two ledger s role word left body answers shown start late comes h.
          word-meant reads tables transfers a b e role (body_at role two) word start late
          (subst (AreMessages (base reads tables transfers a b e Initiator) (base reads tables transfers a b e Responder)) comes (said reads tables transfers a b e two ledger s role)).0
          (direct-takes_rightly has-codec.0 tables (direct_ends tables transfers a b).spellings a b has-codec.1 (direct-back tables transfers a b e.module_s.readable) (right reads tables transfers a b e) (contexts reads tables transfers a b e) two ledger s role word left body answers shown comes h)
          (word-in_place has-codec.0 tables (direct_ends tables transfers a b).spellings a b has-codec.1 (direct-back tables transfers a b e.module_s.readable) (right reads tables transfers a b e) (ids reads tables transfers a b e) role (body_at role two) word body answers shown h);
    }
