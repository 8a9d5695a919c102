-- The words that open and end an association, and the units of its connection, may be written.
use Rattle.std.proofs.Common.{◌≡◌, refl, true, false, ◌∙◌, sym, ap, subst, arith, ℕ, suc, ◌+◌, ◌/◌, ◌%◌, ◌≤◌, ◌<◌, pos, List, [], ◌∷◌, ◌++◌, length}
use Rattle.std.specs.Prelude.{Bool, not, ◌&&◌, ◌||◌, Option, Some, None, nat_eq, nat_lt, nat_le, if◌then◌else◌}
use Rattle.std.specs.List.{list_all, flat_map}
use Rattle.std.proofs.lemmas.Bool.Decides.{nat_tests}
use Rattle.std.proofs.lemmas.Grind.{flat_map-append}
use Rattle.std.proofs.lemmas.List.{length-append}
use Rattle.std.proofs.Math.Nat.{mod-lt}
use Rattle.osi_base.specs.declared.acse_word.Acse.TheVariants as acse
use Rattle.osi_base.specs.declared.acse_word.Diagnostic.TheVariants.{User}
use Rattle.osi_base.specs.declared.layer_words.Proposal.{Proposal}
use Rattle.osi_base.specs.declared.layer_words.AddAnswer.{AddAnswer}
use Rattle.osi_base.specs.declared.presentation_word.Pdv.{Pdv}
use Rattle.osi_base.specs.declared.presentation_word.PdvContent.TheVariants as forms
use Rattle.osi_base.specs.declared.presentation_word.PresentationWord.{PresentationWord}
use Rattle.osi_base.specs.declared.presentation_word.PresentationWord.TheVariants as ppdus
use Rattle.osi_base.specs.declared.session_word.SessionWord.TheVariants as units
use Rattle.osi_base.specs.Octets.{AreOctets}
use Rattle.osi_base.proofs.OctetLaws.{octets_join, octets_more, no_octets}
use Rattle.asn1_types.specs.Fits.{has_form, has_32_bits}
use Rattle.asn1_types.specs.Whole.{is_whole}
use Rattle.asn1_types.specs.Whole as whole
use Rattle.asn1_types.specs.Writing.{written, writes}
use Rattle.asn1_types.specs.Writing as writing
use Rattle.asn1_types.proofs.OctetTests.{octets_by_test}
use Rattle.osi_base.specs.Syntax.{acse_name}
use Rattle.acse.specs.Written.{written_acse}
use Rattle.end_config.specs.presentation_pdus.declared.place.PpduPlace.TheVariants as place
use Rattle.end_config.specs.presentation_pdus.Rows.{ppdu_rows, connect_row}
use Rattle.end_config.specs.presentation_pdus.Words.{value_of, written_ppdu}
use Rattle.association_worlds.specs.ppdu_laws.Written.{definition_sized, answer_sized}
use Rattle.spdu_codec.specs.Written.{connect_data}
use Rattle.tpkt.specs.Wire.{parameter}
use Rattle.tpkt.specs.Written.{selector_parameter, connection_fields, control_packet}
use Rattle.stub_tables.specs.declared.tables.Tables.{Tables}
use Rattle.dialogue.specs.declared.config.Config.{Config}
use Rattle.dialogue.specs.declared.config.Mode.{Mode}
use Rattle.dialogue.specs.declared.config.ConfigRefusal.{ConfigRefusal}
use Rattle.dialogue.specs.declared.config.ConfigRefusal.TheVariants as refusals
use Rattle.dialogue.specs.Config as values
use Rattle.end_config.specs.Refusing.{config_refusal, early_refusal, late_refusal, or_refusal, context_refusal, bad_context, is_too_long, has_connect}
use Rattle.end_config.specs.Connecting.{connect_octets}
use Rattle.end_config.proofs.Connects.{connect_is_of_rules}
use Rattle.end_rules.specs.Base.{Base, Spellings, is_bare}
use Rattle.end_rules.specs.Messages.{OfAssociation, AssociationWord, Connect, Accept, Refuse, Finish, Disconnect, Abort, AbortAccept, Message, Transport, Session, TransportUnit, ConnectionRequest, ConnectionConfirm, DisconnectRequest, TransportError}
use Rattle.end_rules.specs.Writing.{acse_context, requirement_bits, proposals, session_connect, presentation_connect, proposal_in_ber}
use Rattle.end_rules.specs.Policy.{opening_policy}
use Rattle.association_worlds.specs.association_wire.Written.{request_ends, written_unit}
use Rattle.association_worlds.specs.association_reading.Laws.{IsSendable}
use Rattle.association_worlds.specs.InTransit.{IsOfTransport}
use Rattle.agreement.specs.Sets.Role.{Initiator, Responder}
use Rattle.end_model.specs.BothEnds.{Common, base_at}
use Rattle.end_model.specs.DirectEnds.{direct_common, ProposesRightly}
use Rattle.reliable_model.proofs.Fixed.{AreIdentifiers}
use Rattle.der_octets.proofs.Octets.{der-octets}
use Rattle.said_words.specs.Calls.{AreNamed}
use Rattle.said_words.specs.Fields.{IsContext, AreResults}
use Rattle.said_words.specs.Words.{the_connect, the_acceptance, the_finish, the_disconnect, the_abort, IsOfAssociation, IsUnit}
use Rattle.said_words.proofs.Answers.{results-so, results-few}
use Rattle.said_words.proofs.First.{first_accepted, first-context}
use Rattle.said_spellings.proofs.Sizes.{Each}
use Rattle.said_spellings.proofs.Ppdus.{Named, IsContent, IsShortString, accept-stands, answering, connect-fitting}
use Rattle.said_spellings.proofs.Session.{AreParameters, parameters-append, alone}
use Rattle.said_spellings.proofs.Places.{InPlace, data-in, stands-in, results-whole, pdv-whole}
use Rattle.said_spellings.proofs.Carried.{sendable}
use Rattle.said_spellings.specs.Laws.{IsEndIn, IsEnd}

le-so : (m n : ℕ) → nat_le m n ≡ true → m ≤ n
le-so m n h = grind (arith, nat_tests)

not-more : (m n : ℕ) → nat_lt m n ≡ false → n ≤ m
not-more m n h = grind (arith, nat_tests)

or-left : (p q : Bool) → (p || q) ≡ false → p ≡ false
or-left true q h = cc
or-left false q h = refl

or-right : (p q : Bool) → (p || q) ≡ false → q ≡ false
or-right true q h = cc
or-right false q h = h

both : (p q : Bool) → p ≡ true → q ≡ true → (p && q) ≡ true
both true q e f = f
both false q e f = cc

-- ---- what a configuration is that isn't refused

none-first : (x y : Option ConfigRefusal) → or_refusal x y ≡ None → x ≡ None
none-first None y h = refl
none-first (Some refusal) y h = cc

none-second : (x y : Option ConfigRefusal) → or_refusal x y ≡ None → y ≡ None
none-second None y h = h
none-second (Some refusal) y h = cc

no-refusal : (p : Bool) (refusal : ConfigRefusal) (later : Option ConfigRefusal) → (if p then Some refusal else later) ≡ None → p ≡ false
no-refusal true refusal later h = cc
no-refusal false refusal later h = refl

few-contexts : (k : Option ℕ) (count : ℕ) → context_refusal k count ≡ None → count ≤ 62
few-contexts (Some id) count h = cc
few-contexts None count h = not-more 62 count (no-refusal (nat_lt 62 count) refusals.TooManyContexts None h)

pub record Selected (octets : List ℕ) : Type 0 where
  pub low : 1 ≤ length octets
  pub high : length octets ≤ 16

selected : (octets : List ℕ) → values.is_bad_selector octets ≡ false → Selected octets
selected octets h = record { low = low (length octets) (or-left (nat_eq (length octets) 0) (nat_lt 16 (length octets)) h); high = not-more 16 (length octets) (or-right (nat_eq (length octets) 0) (nat_lt 16 (length octets)) h) }
  where
    low : (n : ℕ) → nat_eq n 0 ≡ false → 1 ≤ n
    low n h = grind (arith, nat_tests)

pub record Accepted (config : Config) : Type 0 where
  pub calling : Selected config.calling
  pub called : Selected config.called
  pub contexts : length config.contexts ≤ 62
  pub reference : length config.reference ≤ 64
  pub common : length config.common ≤ 13
  pub checkpoint : config.checkpoint ≤ 255
  pub window : config.window ≤ 255

thirteen : (n : ℕ) → not (nat_eq n 13) ≡ false → n ≤ 13
thirteen n h = go (nat_eq n 13) refl h
  where
    same : (n : ℕ) → nat_eq n 13 ≡ true → n ≤ 13
    same n e = grind (arith, nat_tests)

    go : (p : Bool) → nat_eq n 13 ≡ p → not p ≡ false → n ≤ 13
    go true e h = same n e
    go false e h = cc

-- the rows behind one that doesn't hold
behind-row : (p : Bool) (refusal : ConfigRefusal) (later : Option ConfigRefusal) → (if p then Some refusal else later) ≡ None → later ≡ None
behind-row true refusal later h = cc
behind-row false refusal later h = h

pub accepted : (config : Config) → config_refusal config ≡ None → Accepted config
accepted config h =
    let early = none-first (early_refusal config) (late_refusal config) h in
    let contexts = none-first (context_refusal (bad_context config.mode [] config.contexts) (length config.contexts)) (values.bare_config_refusal config) early in
    let rest = none-second (context_refusal (bad_context config.mode [] config.contexts) (length config.contexts)) (values.bare_config_refusal config) early in
    let selectors = no-refusal (values.is_bad_selector config.calling || values.is_bad_selector config.called) refusals.BadSelector _ rest in
    let behind = behind-row (values.is_bad_selector config.calling || values.is_bad_selector config.called) refusals.BadSelector _ rest in
    let references = no-refusal (values.is_bad_reference config.reference config.common) refusals.BadReference _ behind in
    let last = behind-row (values.is_bad_reference config.reference config.common) refusals.BadReference _ behind in
    let windows = no-refusal (values.is_bad_window config.checkpoint config.window) refusals.BadWindow None last in
    record {
      calling = selected config.calling (or-left (values.is_bad_selector config.calling) (values.is_bad_selector config.called) selectors);
      called = selected config.called (or-right (values.is_bad_selector config.calling) (values.is_bad_selector config.called) selectors);
      contexts = few-contexts (bad_context config.mode [] config.contexts) (length config.contexts) contexts;
      reference =
          not-more 64 (length config.reference)
          (or-right (nat_eq (length config.reference) 0) (nat_lt 64 (length config.reference)) (or-left (nat_eq (length config.reference) 0 || nat_lt 64 (length config.reference)) (not (nat_eq (length config.common) 13)) references));
      common = thirteen (length config.common) (or-right (nat_eq (length config.reference) 0 || nat_lt 64 (length config.reference)) (not (nat_eq (length config.common) 13)) references);
      checkpoint = not-more 255 config.checkpoint (or-left (nat_lt 255 config.checkpoint) (nat_eq config.window 0) (or-left (nat_lt 255 config.checkpoint || nat_eq config.window 0) (nat_lt 255 config.window) windows));
      window = not-more 255 config.window (or-right (nat_lt 255 config.checkpoint || nat_eq config.window 0) (nat_lt 255 config.window) windows);
    }

pub short-connect : (config : Config) (recovers : Bool) → config.initiator ≡ true → is_bare config.mode ≡ false → config_refusal config ≡ None → length (connect_octets config recovers) ≤ 10240
short-connect config recovers i m h = go recovers
  where
    late : late_refusal config ≡ None
    late = none-second (early_refusal config) (late_refusal config) h

    there : has_connect config ≡ true
    there = ap (λ x. x && not (is_bare config.mode)) i ∙ ap (λ x. not x) m

    long : (has_connect config && is_too_long config) ≡ false
    long = no-refusal (has_connect config && is_too_long config) refusals.TooLong None late

    fine : is_too_long config ≡ false
    fine = sym (ap (λ x. x && is_too_long config) there) ∙ long

    go : (recovers : Bool) → length (connect_octets config recovers) ≤ 10240
    go false = not-more 10240 (length (connect_octets config false)) (or-left (nat_lt 10240 (length (connect_octets config false))) (nat_lt 10240 (length (connect_octets config true))) fine)
    go true = not-more 10240 (length (connect_octets config true)) (or-right (nat_lt 10240 (length (connect_octets config false))) (nat_lt 10240 (length (connect_octets config true))) fine)

-- ---- values of association control

one-content : (apdu : List ℕ) → is_whole apdu ≡ true → AreOctets apdu → IsContent (forms.SingleAsn1Type apdu)
one-content apdu w o = (w, o)

abbrev pub release : List ℕ
release = written_acse (acse.ReleaseRequest (pos 0))

abbrev pub released : List ℕ
released = written_acse (acse.ReleaseResponse (pos 0))

abbrev pub accepting : List ℕ
accepting = written_acse (acse.AssociateResponse (2 ∷ 999 ∷ 5 ∷ 3 ∷ []) 0 (User (pos 0)) [])

abbrev pub asking : List ℕ
asking = written_acse (acse.AssociateRequest None (2 ∷ 999 ∷ 5 ∷ 3 ∷ []) [])

abbrev pub aborting : List ℕ
aborting = written_acse (acse.Abort 0 [])

release-is : IsContent (forms.SingleAsn1Type release)
unfolding written writes is_whole whole.behind_whole writing.integer_octets
release-is = (refl, octets_by_test release refl)

pub release-few : length release ≤ 100
unfolding written writes writing.integer_octets
release-few = le-so (length release) 100 refl

released-is : IsContent (forms.SingleAsn1Type released)
unfolding written writes is_whole whole.behind_whole writing.integer_octets
released-is = (refl, octets_by_test released refl)

pub released-few : length released ≤ 100
unfolding written writes writing.integer_octets
released-few = le-so (length released) 100 refl

accepting-is : IsContent (forms.SingleAsn1Type accepting)
unfolding written writes is_whole whole.behind_whole writing.base_128 writing.integer_octets
accepting-is = (refl, octets_by_test accepting refl)

pub accepting-few : length accepting ≤ 100
unfolding written writes writing.base_128 writing.integer_octets
accepting-few = le-so (length accepting) 100 refl

pub asking-is : IsContent (forms.SingleAsn1Type asking)
unfolding written writes is_whole whole.behind_whole writing.base_128
asking-is = (refl, octets_by_test asking refl)

pub asking-few : length asking ≤ 100
unfolding written writes writing.base_128
asking-few = le-so (length asking) 100 refl

pub one : IsContext 1
one = (omega arith, omega arith)

abbrev pub pdv : ℕ → List ℕ → Pdv
pdv id apdu = record { transfer = None; id = id; content = forms.SingleAsn1Type apdu }

pub aborting-few : length aborting ≤ 100
unfolding written writes writing.integer_octets
aborting-few = le-so (length aborting) 100 refl

-- ---- FN, DN and AB

pub finish-in : InPlace place.Fn (ppdus.Data (pdv 1 (written_acse (acse.ReleaseRequest (pos 0))) ∷ [])) 122
finish-in =
    let f : length release ≤ 100 = release-few in
    let p = data-in place.Fn 1 (forms.SingleAsn1Type release) refl one release-is (omega arith) in
    let few : length (written_ppdu (ppdus.Data (pdv 1 release ∷ []))) ≤ 22 + length release = p.few in
    record { writable = p.writable; octets = p.octets; few = omega arith }

pub disconnect-in : InPlace place.Dn (ppdus.Data (pdv 1 (written_acse (acse.ReleaseResponse (pos 0))) ∷ [])) 122
disconnect-in =
    let f : length released ≤ 100 = released-few in
    let p = data-in place.Dn 1 (forms.SingleAsn1Type released) refl one released-is (omega arith) in
    let few : length (written_ppdu (ppdus.Data (pdv 1 released ∷ []))) ≤ 22 + length released = p.few in
    record { writable = p.writable; octets = p.octets; few = omega arith }

module _ (tables : Tables) where
  pub finish-sent : IsSendable tables (OfAssociation the_finish)
  finish-sent =
      let unit = ppdus.Data (pdv 1 release ∷ []) in
      let f = release-few in
      let p = finish-in in
      let few : length (written_ppdu unit) ≤ 122 = p.few in
      sendable tables (OfAssociation the_finish)
      (alone (units.Finish (Some 1) (written_ppdu unit)) refl (record { fields = tt; few = omega arith; code = omega arith; parameters = ((omega arith, octets_by_test _ refl), ((omega arith, p.octets), tt)); information = no_octets; within = omega arith }))

  pub disconnect-sent : IsSendable tables (OfAssociation the_disconnect)
  disconnect-sent =
      let unit = ppdus.Data (pdv 1 released ∷ []) in
      let f = released-few in
      let p = disconnect-in in
      let few : length (written_ppdu unit) ≤ 122 = p.few in
      sendable tables (OfAssociation the_disconnect)
      (alone (units.Disconnect (written_ppdu unit)) refl (record { fields = tt; few = omega arith; code = omega arith; parameters = ((omega arith, p.octets), tt); information = no_octets; within = omega arith }))

pub abort-in : InPlace place.Ab (ppdus.UserAbort None (pdv 1 (written_acse (acse.Abort 0 [])) ∷ [])) 200
unfolding has_form written writes is_whole whole.behind_whole writing.integer_octets
abort-in =
    let few = le-so (length (written_ppdu (ppdus.UserAbort None (pdv 1 aborting ∷ [])))) 200 refl in
    record { writable = record { carried = refl; whole = refl; fitting = refl; within = omega arith }; octets = octets_by_test _ refl; few = few }

module _ (tables : Tables) where
  pub abort-sent : IsSendable tables (OfAssociation the_abort)
  abort-sent =
      let unit = ppdus.UserAbort None (pdv 1 aborting ∷ []) in
      let few : length (written_ppdu unit) ≤ 200 = abort-in.few in
      sendable tables (OfAssociation the_abort)
      (alone (units.Abort (Some 3) (Some (written_ppdu unit))) refl (record { fields = tt; few = omega arith; code = omega arith; parameters = ((omega arith, octets_by_test _ refl), ((omega arith, abort-in.octets), tt)); information = no_octets; within = omega arith }))

-- ---- AC and CN

pub bits-true : IsShortString (requirement_bits true)
bits-true = (refl, omega arith, omega arith, octets_by_test _ refl)

-- with the octets of an AARE
abbrev pub accept_unit : List ℕ → List AddAnswer → ℕ → List ℕ → PresentationWord
accept_unit called results k os =
    ppdus.Accept (record { version = None; responding = Some called; results = results; requirements = Some (requirement_bits true); session_requirements = None; user = pdv k os ∷ [] })

pub accept-in : (called : List ℕ) (results : List AddAnswer) (k : ℕ) (os : List ℕ) → IsContext k → AreOctets called → length called ≤ 16 → AreResults results → length results ≤ 64 → IsContent (forms.SingleAsn1Type os) → length os ≤ 1000 → InPlace place.Ac (accept_unit called results k os) 50000
accept-in called results k os i o short r few c size =
    stands-in place.Ac (accept_unit called results k os) 50000 (omega arith) refl (both (list_all answer_sized results) (has_32_bits k && true) (results-whole results r) (pdv-whole k (forms.SingleAsn1Type os) i))
    (accept-stands called results (requirement_bits true) k (forms.SingleAsn1Type os) o short (answering results r) few bits-true i c (omega arith))

pub each-named : (ps : List Proposal) → AreIdentifiers ps → AreNamed ps → Each Named ps
each-named [] i n = tt
each-named (p ∷ ps) i n = (record { id = (i.0.low, i.0.high); name = n.0; transfers = n.1 }, each-named ps i.1 n.2)

pub identified-whole : (ps : List Proposal) → AreIdentifiers ps → list_all definition_sized ps ≡ true
identified-whole [] i = refl
identified-whole (p ∷ ps) i = both (definition_sized p) (list_all definition_sized ps) (short p.id i.0.high) (identified-whole ps i.1)
  where
    short : (k : ℕ) → k ≤ 32767 → has_32_bits k ≡ true
    short k h = grind (arith, nat_tests)

-- user data of a CN in its one parameter, or in the other
pub connect-data_are : (user : List ℕ) → AreOctets user → AreParameters (connect_data user)
connect-data_are user o = go (nat_le (length user) 512)
  where
    go : (p : Bool) → AreParameters (if p then (193, user) ∷ [] else (194, user) ∷ [])
    go true = ((omega arith, o), tt)
    go false = ((omega arith, o), tt)

abbrev pub AcceptSent : Tables → Message → Type 0
AcceptSent tables (Session word) = IsSendable tables word
AcceptSent tables (Transport unit) = Unit {0}

module _ (tables : Tables) (spellings : Spellings) (a b : Config) (right : ProposesRightly (direct_common tables spellings a b)) (ids : AreIdentifiers (proposals (base_at Initiator (direct_common tables spellings a b)))) where
  abbrev common : Common
  common = direct_common tables spellings a b

  abbrev pub results : List AddAnswer
  results = opening_policy (base_at Responder common) (proposals (base_at Initiator common))

  pub acceptance-in : IsEnd a → IsEnd b → InPlace place.Ac (accept_unit b.called results (acse_context (first_accepted common)) accepting) 50000
  acceptance-in ea eb =
      let ca = accepted a ea.accepted in
      let cb = accepted b eb.accepted in
      let on : IsContext (acse_context (first_accepted common)) = subst IsContext (sym (first-context tables spellings a b right ids)) one in
      let n = results-few (base_at Responder common) true 0 (proposals (base_at Initiator common)) in
      let c : length a.contexts ≤ 62 = ca.contexts in
      let f = accepting-few in
      accept-in b.called results (acse_context (first_accepted common)) accepting on eb.called cb.called.high (results-so (base_at Responder common) true 0 (proposals (base_at Initiator common))) (omega arith) accepting-is (omega arith)

  accept-sent : IsEnd a → IsEnd b → AcceptSent tables (the_acceptance (base_at Initiator common) (base_at Responder common) false)
  accept-sent ea eb =
      let k = acse_context (first_accepted common) in
      let p = acceptance-in ea eb in
      let few : length (written_ppdu (accept_unit b.called results k accepting)) ≤ 50000 = p.few in
      sendable tables _
      (alone (units.Accept (Some 0) (Some 2) (Some 1) _ (written_ppdu (accept_unit b.called results k accepting))) refl
      (record { fields = (omega arith, omega arith); few = omega arith; code = omega arith; parameters = ((omega arith, octets_by_test _ refl), ((omega arith, octets_by_test _ refl), ((omega arith, p.octets), tt))); information = no_octets; within = omega arith }))

  abbrev pub connect_unit : PresentationWord
  connect_unit = ppdus.Connect (record (presentation_connect (base_at Initiator common)) { user = pdv 1 asking ∷ [] })

  pub connect-in : IsEnd a → a.initiator ≡ true → InPlace place.Cn connect_unit 10240
  connect-in ea i =
      let ca = accepted a ea.accepted in
      let f = asking-few in
      let same : written_ppdu connect_unit ≡ connect_octets a false = ap (λ c. written_ppdu (ppdus.Connect c)) (connect_is_of_rules (base_at Initiator common) false (sym ea.mode)) in
      let short = short-connect a false i (ap is_bare ea.mode) ea.accepted in
      let few : length (written_ppdu connect_unit) ≤ 10240 = subst (λ os. length os ≤ 10240) (sym same) short in
      let s = connect-fitting a.calling a.called (proposal_in_ber 1 acse_name) a.contexts (requirement_bits true) 1 (forms.SingleAsn1Type asking) ea.calling ca.calling.high ea.called ca.called.high
      (each-named (proposals (base_at Initiator common)) ids (refl, (refl, tt), ea.contexts)) bits-true one asking-is (omega arith) in
      record {
        writable = record { carried = refl; whole = both (list_all definition_sized (proposals (base_at Initiator common)) && true) true (both (list_all definition_sized (proposals (base_at Initiator common))) true (identified-whole (proposals (base_at Initiator common)) ids) refl) refl; fitting = s.fitting; within = omega arith };
        octets = der-octets ppdu_rows connect_row (value_of connect_unit) s.leaves (omega arith);
        few = few;
      }

  connect-sent : IsEnd a → a.initiator ≡ true → IsSendable tables (OfAssociation (the_connect (base_at Initiator common) false))
  connect-sent ea i =
      let p = connect-in ea i in
      let ca = accepted a ea.accepted in
      let few : length (written_ppdu connect_unit) ≤ 10240 = p.few in
      let m : length a.calling ≤ 16 = ca.calling.high in
      let n : length a.called ≤ 16 = ca.called.high in
      sendable tables (OfAssociation (the_connect (base_at Initiator common) false))
      (alone (units.Connect (record (session_connect (base_at Initiator common)) { user = written_ppdu connect_unit })) refl
      (record {
        fields = ((omega arith, omega arith), few);
        few = omega arith;
        code = omega arith;
        parameters = ((omega arith, octets_by_test _ refl), ((omega arith, octets_by_test _ refl), ((omega arith, ea.calling), ((omega arith, ea.called), parameters-append (connect_data (written_ppdu connect_unit)) [] (connect-data_are (written_ppdu connect_unit) p.octets) tt))));
        information = no_octets;
        within = omega arith;
      }))

  -- ---- all of them

  pub association-sent : (word : AssociationWord) → IsEnd a → a.initiator ≡ true → IsEnd b → IsOfAssociation (base_at Initiator common) (base_at Responder common) word → IsSendable tables (OfAssociation word)
  association-sent (Connect session presentation values) ea i eb h = subst (λ (w : AssociationWord). IsSendable tables (OfAssociation w)) (sym h.1) (connect-sent ea i)
  association-sent (Accept session presentation values) ea i eb h = subst (AcceptSent tables) (sym h.1) (accept-sent ea eb)
  association-sent (Refuse transport reason presentation values) ea i eb h = absurd h
  association-sent (Finish transport values) ea i eb h = subst (λ (w : AssociationWord). IsSendable tables (OfAssociation w)) (sym h) (finish-sent tables)
  association-sent (Disconnect values) ea i eb h = subst (λ (w : AssociationWord). IsSendable tables (OfAssociation w)) (sym h) (disconnect-sent tables)
  association-sent (Abort transport user) ea i eb h = subst (λ (w : AssociationWord). IsSendable tables (OfAssociation w)) (sym h) (abort-sent tables)
  association-sent AbortAccept ea i eb h = absurd h

-- ---- units of the connection

packet-are : (fields : List ℕ) → length fields ≤ 254 → AreOctets fields → AreOctets (control_packet fields)
packet-are fields few o =
    let n : ℕ = suc (length fields) + 4 in
    octets_join (3 ∷ 0 ∷ (n / 256) ∷ (n % 256) ∷ []) (length fields ∷ fields)
    (octets_more 3 (0 ∷ (n / 256) ∷ (n % 256) ∷ []) (omega arith) (octets_more 0 ((n / 256) ∷ (n % 256) ∷ []) (omega arith) (octets_more (n / 256) ((n % 256) ∷ []) (omega arith) (octets_more (n % 256) [] (mod-lt n (omega arith)) no_octets))))
    (octets_more (length fields) fields (omega arith) o)

selector-are : (code : ℕ) (octets : List ℕ) → code < 256 → Selected octets → AreOctets octets → AreOctets (flat_map parameter (selector_parameter code octets)) × (length (flat_map parameter (selector_parameter code octets)) ≤ 18)
selector-are code [] low s o = (no_octets, omega arith)
selector-are code (x ∷ xs) low s o =
    let few : length (x ∷ xs) ≤ 16 = s.high in
    let n = length-append (code ∷ length (x ∷ xs) ∷ x ∷ xs) [] in
    (octets_join (code ∷ length (x ∷ xs) ∷ x ∷ xs) [] (octets_more code (length (x ∷ xs) ∷ x ∷ xs) low (octets_more (length (x ∷ xs)) (x ∷ xs) (omega arith) o)) no_octets, omega arith)

pub request-sent : (calling called : List ℕ) → Selected calling → Selected called → AreOctets calling → AreOctets called → IsOfTransport (ConnectionRequest 1 (Some 10) calling called)
request-sent calling called sa sb oa ob =
    let x = selector-are 193 calling (omega arith) sa oa in
    let y = selector-are 194 called (omega arith) sb ob in
    let xs : List ℕ = flat_map parameter (selector_parameter 193 calling) in
    let ys : List ℕ = flat_map parameter (selector_parameter 194 called) in
    let joined : flat_map parameter (selector_parameter 193 calling ++ selector_parameter 194 called) ≡ xs ++ ys = flat_map-append parameter (selector_parameter 193 calling) (selector_parameter 194 called) in
    let n = length-append xs ys in
    let few : length (flat_map parameter (selector_parameter 193 calling ++ selector_parameter 194 called)) ≤ 36 = subst (λ zs. length zs ≤ 36) (sym joined) (omega (arith, x.1, y.1, n)) in
    let are : AreOctets (flat_map parameter (selector_parameter 193 calling ++ selector_parameter 194 called)) = subst AreOctets (sym joined) (octets_join xs ys x.0 y.0) in
    let fields : List ℕ = connection_fields 224 (request_ends 1 (Some 10) calling called) in (
      omega arith,
      omega arith,
      (packet-are fields (omega arith)
          (octets_join (224 ∷ 0 ∷ 0 ∷ 0 ∷ 1 ∷ 0 ∷ 192 ∷ 1 ∷ 10 ∷ []) (flat_map parameter (selector_parameter 193 calling ++ selector_parameter 194 called)) (octets_by_test (224 ∷ 0 ∷ 0 ∷ 0 ∷ 1 ∷ 0 ∷ 192 ∷ 1 ∷ 10 ∷ []) refl) are)),
    )

pub confirm-sent : IsOfTransport (ConnectionConfirm 1 (Some 10))
confirm-sent = (omega arith, omega arith, octets_by_test (written_unit (ConnectionConfirm 1 (Some 10))) refl)

pub units-sent : (mode : Mode) (a : Config) (base : Base) (unit : TransportUnit) → base.config ≡ a → IsEndIn mode a → IsUnit base unit → IsOfTransport unit
units-sent mode a base (ConnectionRequest source size calling called) same e h =
    let c = accepted a e.accepted in
    subst IsOfTransport (sym h) (subst (λ (x : Config). IsOfTransport (ConnectionRequest 1 (Some 10) x.calling x.called)) (sym same) (request-sent a.calling a.called c.calling c.called e.calling e.called))
units-sent mode a base (ConnectionConfirm destination size) same e h = subst IsOfTransport (sym h) confirm-sent
units-sent mode a base (DisconnectRequest destination) same e h = absurd h
units-sent mode a base TransportError same e h = absurd h
