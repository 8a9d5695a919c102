-- The acts of Answer and Refuse.
use Rattle.std.proofs.Common.{◌≡◌, refl, true, false, ◌∙◌, sym, ap, subst, arith, ℕ, List, [], ◌∷◌}
use Rattle.std.proofs.Common.{◌++◌, map}
use Rattle.std.specs.Prelude.{ℤ, pos, negsuc, Bool, Option, Some, None, if◌then◌else◌, nat_eq}
use Rattle.std.specs.List.{list_any}
use Rattle.std.proofs.lemmas.Bool.Decides.{nat_tests}
use Rattle.osi_base.specs.declared.syntax.Syntax.TheVariants.{Der}
use Rattle.osi_base.specs.declared.layer_words.Proposal.{Proposal}
use Rattle.asn1_types.specs.declared.value.Val.{Val}
use Rattle.stub_tables.specs.declared.operation.Operation.{Operation}
use Rattle.stub_tables.specs.declared.operation.ErrorRow.{ErrorRow}
use Rattle.stub_tables.specs.declared.operation.Use.{Use}
use Rattle.stub_tables.specs.declared.apdu.Apdu.{Apdu}
use Rattle.stub_tables.specs.Codes.{is_error_of}
use Rattle.stub_tables.specs.Lookup.{operation_at, error_at, operation_with, error_with}
use Rattle.stub_tables.specs.Uses.{is_carried}
use Rattle.stub_tables.proofs.OwnCodes.{own_codes}
use Rattle.dialogue.specs.declared.config.Mode.{Mode}
use Rattle.dialogue.specs.declared.config.Mode.TheVariants.{Bare, Direct, Reliable}
use Rattle.dialogue.specs.declared.call.Call.TheVariants as the_calls
use Rattle.dialogue.specs.declared.call.CallRefusal.TheVariants as refusals
use Rattle.end_rules.specs.Base.{Base, Item}
use Rattle.end_rules.specs.Sets.{same_name, may_send, carrier, lowest_with}
use Rattle.end_rules.specs.State.{Body, OpenCall, Calls, is_up, is_free, is_none, is_empty}
use Rattle.end_rules.specs.State.{bare_set, opened_with, close}
use Rattle.end_rules.specs.Invoking.{result_apdu, error_apdu, is_stopped, carrier_in}
use Rattle.end_rules.specs.Invoking.{can_answer_open, can_refuse_open, operation_of}
use Rattle.end_rules.specs.Hearing.{head_of_apdu, carried_in, is_right}
use Rattle.end_rules.specs.Requesting.{after_outcome, due_outcome, answering, result_for, error_for}
use Rattle.end_rules.specs.Requesting.{operation_opened, sent_at_once, queueing}
use Rattle.agreement.specs.Messages as model
use Rattle.agreement.specs.Messages.Act.{SaysValue, Queues}
use Rattle.agreement.specs.State as states
use Rattle.agreement.specs.Calls.{handed_in, due_after, close as model_close}
use Rattle.agreement.specs.Acts.{acted}
use Rattle.agreement.specs.Worlds.Step.{Acts}
use Rattle.agreement.specs.Laws.{handed_by}
use Rattle.end_model.specs.Seen.{Free, number_seen, apdu_seen, item_seen, queued_seen, calls_seen}
use Rattle.end_model.specs.Seen.{is_outcome, seen, setup_seen}
use Rattle.end_model.specs.Rows.{at}
use Rattle.end_model.specs.OpenInvocations.{IsNumber, IsProper, IsReadBack, AreNumbered, fits_result}
use Rattle.end_model.specs.OpenInvocations.{fits_parameter, operation_of_code, error_of_code}
use Rattle.end_model.specs.Acting.{HandsActs, IsSoundBody, HasBareSet, HandingIn, WritesIn, as_list}
use Rattle.end_model.specs.Acting.{handing}
use Rattle.end_model.proofs.Ladder.{passed, called}
use Rattle.end_model.proofs.InvokeRungs.{answerable, refusable, Outgoing}
use Rattle.end_model.proofs.Numbered.{numbered-closed}
use Rattle.end_model.proofs.Handing.{id-is_number, carrier-sends, peers-closed}
use Rattle.end_model.proofs.HandingRows.{said, queued, our-data, same-sets, queue-seen, calm-at}
use Rattle.end_model.proofs.HandingRows.{IsOutcome, handed-outcome}

-- ---- outcomes that are allowed

pub right-carried : (base : Base) (use_ : Use) (value : Option Val) → is_right base use_ (carried_in value) ≡ is_carried base.tables.types use_ value
right-carried base use_ None = refl
right-carried base use_ (Some value) = refl

pub result-allowed : (base : Base) (place : ℕ) (operation : Operation) (id : ℤ) (result : Option Val) → operation_at base.tables place ≡ Some operation → operation.returns ≡ true → is_carried base.tables.types operation.result result ≡ true → is_outcome base place (head_of_apdu (result_apdu operation id result)) ≡ true
result-allowed base place operation id None known returns carried = rw (known, returns, carried) refl
result-allowed base place operation id (Some value) known returns carried =
    let own : operation_with base.tables operation.code ≡ Some place = (own_codes base.tables).operations place operation known in
    rw (known, returns, own, eq-refl place, carried) refl
  where
    eq-refl : (n : ℕ) → nat_eq n n ≡ true
    eq-refl n = grind (arith, nat_tests)

some-error : (place : ℕ) (es : List ℕ) → list_any (λ e. nat_eq e place) es ≡ true → is_empty es ≡ false
some-error place [] h = cc
some-error place (e ∷ es) h = refl

pub error-allowed : (base : Base) (place : ℕ) (operation : Operation) (at_error : ℕ) (error : ErrorRow) (id : ℤ) (parameter : Option Val) → operation_at base.tables place ≡ Some operation → error_at base.tables at_error ≡ Some error → is_error_of operation at_error ≡ true → is_carried base.tables.types error.parameter parameter ≡ true → is_outcome base place (head_of_apdu (error_apdu error id parameter)) ≡ true
error-allowed base place operation at_error error id parameter known is_it allowed carried =
    let own : error_with base.tables error.code ≡ Some at_error = (own_codes base.tables).errors at_error error is_it in
    let right : is_right base error.parameter (carried_in parameter) ≡ true = right-carried base error.parameter parameter ∙ carried in
    let some : is_empty operation.errors ≡ false = some-error at_error operation.errors allowed in
    rw (known, own, some, allowed, is_it, right) refl

-- ---- the carrier in bare mode

same-itself : (name : List ℕ) → same_name name name ≡ true
same-itself [] = refl
same-itself (x ∷ xs) = grind (arith, nat_tests, same-itself xs)

bare-carrier : (base : Base) (body : Body) (context : ℕ) → HasBareSet base body → (k : ℕ) × (carrier_in (at Bare base) body context ≡ Some k)
bare-carrier base body context h =
    let e : carrier_in (at Bare base) body context ≡ carrier base.tables.name_oid (bare_set base.tables) [] context =
    ap (λ held. carrier base.tables.name_oid held body.sets.own context) h.held ∙
    ap (λ own. carrier base.tables.name_oid (bare_set base.tables) own context) h.own in
    let k = on (may_send (bare_set base.tables) [] context) in
    (k.0, e ∙ k.1)
  where
    on : (b : Bool) → (k : ℕ) × ((if b then Some context else lowest_with base.tables.name_oid [] (bare_set base.tables)) ≡ Some k)
    on true = (context, refl)
    on false = (0, rw (same-itself base.tables.name_oid) refl)

-- ---- what an outcome changes

answered-calls : (id : ℤ) (calls : Calls) → IsNumber id → AreNumbered calls.made calls.opens → calls_seen (close false id calls) ≡ record (calls_seen calls) { peer_open = model_close (number_seen id) (calls_seen calls).peer_open }
answered-calls (negsuc n) calls i h = absurd i
answered-calls (pos n) calls i h = peers-closed n calls h

at-once-after : (free : Free) (mode : Mode) (base : Base) (body : Body) (id : ℤ) (o : OpenCall) (item : Item) → AreNumbered body.calls.made body.calls.opens → IsNumber id → IsOutcome (at mode base) body id o item.apdu → seen (at mode base) (answering id body) ≡ acted (setup_seen free mode base) (seen (at mode base) body) (SaysValue (item_seen (at mode base) item))
at-once-after free mode base body id o item numbered i h =
    subst (λ a. seen (at mode base) (answering id body) ≡ record (seen (at mode base) body) { calls = handed_in (setup_seen free mode base) (calls_seen body.calls) item.id a; outgoing = record (seen (at mode base) body).outgoing { queue = due_after a (map (queued_seen (at mode base)) body.sending.queue) } }) (sym h.seen_so)
    (ap (λ (calls : model.Calls). record (seen (at mode base) body) { calls = calls }) (answered-calls id body.calls i numbered))

queued-after : (free : Free) (base : Base) (body : Body) (id : ℤ) (o : OpenCall) (context : ℕ) (apdu : Apdu) → AreNumbered body.calls.made body.calls.opens → IsNumber id → IsOutcome (at Reliable base) body id o apdu → seen (at Reliable base) (queueing context apdu (answering id body)) ≡ acted (setup_seen free Reliable base) (seen (at Reliable base) body) (Queues context (apdu_seen (at Reliable base) apdu))
queued-after free base body id o context apdu numbered i h =
    let put : model.Calls → model.Apdu → states.State = λ calls a. record (seen (at Reliable base) body) { calls = calls; outgoing = record (seen (at Reliable base) body).outgoing { queue = map (queued_seen (at Reliable base)) body.sending.queue ++ record { context = context; apdu = a } ∷ [] } } in
    queue-seen (at Reliable base) body context apdu (calls_seen (close false id body.calls)) ∙
    ap (λ calls. put calls (apdu_seen (at Reliable base) apdu)) (answered-calls id body.calls i numbered) ∙
    ap (λ a. put (handed_in (setup_seen free Reliable base) (calls_seen body.calls) context a) (apdu_seen (at Reliable base) apdu)) (sym h.seen_so)

-- ---- the act

pub record OutcomeActs (free : Free) (mode : Mode) (base : Base) (proposed : List Proposal) (body : Body) (id : ℤ) (o : OpenCall) (apdu : Apdu) : Type 0 where
  pub act : model.Act
  pub hands : handed_by (Acts act) ≡ apdu_seen (at mode base) apdu ∷ []
  pub acts : HandsActs free mode base proposed body (after_outcome (at mode base) body id (Some o) (Some apdu)) (due_outcome (at mode base) body (Some o) (Some apdu)) act

on-bare : (free : Free) (base : Base) (proposed : List Proposal) (body : Body) (id : ℤ) (o : OpenCall) (apdu : Apdu) (k : ℕ) → ((value : model.Value) → free.codec.may_write value ≡ true) → base.spellings.head Der (base.spellings.apdu Der apdu) ≡ head_of_apdu apdu → AreNumbered body.calls.made body.calls.opens → is_up body.link.phase ≡ true → is_free body.link.awaits ≡ true → IsNumber id → IsOutcome (at Bare base) body id o apdu → IsProper (at Bare base) apdu → IsReadBack (at Bare base) apdu → IsSoundBody Bare base body → carrier_in (at Bare base) body o.context ≡ Some k → OutcomeActs free Bare base proposed body id o apdu
on-bare free base proposed body id o apdu k writes back numbered up calm i h proper read sound e =
    let m = carrier-sends base.tables.name_oid body.sets.held body.sets.own o.context k e in
    let item : Item = record { id = k; pair = m.pair; apdu = apdu } in
    record {
      act = SaysValue (item_seen (at Bare base) item);
      hands = refl;
      acts = subst (λ c. HandsActs free Bare base proposed body (answering id body) (sent_at_once Bare body c apdu) (SaysValue (item_seen (at Bare base) item))) (sym e)
          (record {
            acts = said free Bare base proposed body (answering id body) item tt up calm m.there m.kept (writes (item_seen (at Bare base) item)) (handed-outcome free Bare base body id o apdu numbered i h back (map (queued_seen (at Bare base)) body.sending.queue)) (at-once-after free Bare base body id o item numbered i h);
            ours = our-data (at Bare base) body item m.there proper read;
            sound = record { numbered = numbered-closed body.calls.made false id body.calls.opens sound.numbered; calm = sound.calm; sets = same-sets Bare base body (answering id body) refl sound.sets; queues = sound.queues };
          });
    }

on-direct : (free : Free) (base : Base) (proposed : List Proposal) (body : Body) (id : ℤ) (o : OpenCall) (apdu : Apdu) (k : ℕ) → ((value : model.Value) → free.codec.may_write value ≡ true) → base.spellings.head Der (base.spellings.apdu Der apdu) ≡ head_of_apdu apdu → AreNumbered body.calls.made body.calls.opens → is_up body.link.phase ≡ true → is_free body.link.awaits ≡ true → IsNumber id → IsOutcome (at Direct base) body id o apdu → IsProper (at Direct base) apdu → IsReadBack (at Direct base) apdu → IsSoundBody Direct base body → carrier_in (at Direct base) body o.context ≡ Some k → OutcomeActs free Direct base proposed body id o apdu
on-direct free base proposed body id o apdu k writes back numbered up calm i h proper read sound e =
    let m = carrier-sends base.tables.name_oid body.sets.held body.sets.own o.context k e in
    let item : Item = record { id = k; pair = m.pair; apdu = apdu } in
    record {
      act = SaysValue (item_seen (at Direct base) item);
      hands = refl;
      acts = subst (λ c. HandsActs free Direct base proposed body (answering id body) (sent_at_once Direct body c apdu) (SaysValue (item_seen (at Direct base) item))) (sym e)
          (record {
            acts = said free Direct base proposed body (answering id body) item tt up calm m.there m.kept (writes (item_seen (at Direct base) item)) (handed-outcome free Direct base body id o apdu numbered i h back (map (queued_seen (at Direct base)) body.sending.queue)) (at-once-after free Direct base body id o item numbered i h);
            ours = our-data (at Direct base) body item m.there proper read;
            sound = record { numbered = numbered-closed body.calls.made false id body.calls.opens sound.numbered; calm = sound.calm; sets = same-sets Direct base body (answering id body) refl sound.sets; queues = sound.queues };
          });
    }

has-carrier : (c : Option ℕ) → is_none c ≡ false → (k : ℕ) × (c ≡ Some k)
has-carrier None h = cc
has-carrier (Some k) h = (k, refl)

pub outcome-acts : (free : Free) (mode : Mode) (base : Base) (proposed : List Proposal) (body : Body) (id : ℤ) (o : OpenCall) (apdu : Apdu) (answer : Option ℤ) → WritesIn mode free → base.spellings.head Der (base.spellings.apdu Der apdu) ≡ head_of_apdu apdu → IsSoundBody mode base body → is_up body.link.phase ≡ true → is_stopped (at mode base) body ≡ false → IsNumber id → IsOutcome (at mode base) body id o apdu → IsProper (at mode base) apdu → IsReadBack (at mode base) apdu → Outgoing (at mode base) body o apdu answer → OutcomeActs free mode base proposed body id o apdu
outcome-acts free Bare base proposed body id o apdu answer writes back sound up goes i h proper read out =
    let k = bare-carrier base body o.context sound.sets in
    on-bare free base proposed body id o apdu k.0 writes back sound.numbered up (ap is_free sound.calm) i h proper read sound k.1
outcome-acts free Direct base proposed body id o apdu answer writes back sound up goes i h proper read out =
    let k = has-carrier (carrier_in (at Direct base) body o.context) out.carrier in
    on-direct free base proposed body id o apdu k.0 writes back sound.numbered up (calm-at base body goes) i h proper read sound k.1
outcome-acts free Reliable base proposed body id o apdu answer writes back sound up goes i h proper read out =
    record {
      act = Queues o.context (apdu_seen (at Reliable base) apdu);
      hands = refl;
      acts =
          record {
            acts = queued free base proposed body (queueing o.context apdu (answering id body)) o.context apdu up (handed-outcome free Reliable base body id o apdu sound.numbered i h back []) (queued-after free base body id o o.context apdu sound.numbered i h);
            ours = tt;
            sound = record { numbered = numbered-closed body.calls.made false id body.calls.opens sound.numbered; calm = tt; sets = tt; queues = tt };
          };
    }

-- what is handed in goes at once, or is queued
handed-sending : (mode : Mode) (base : Base) (body : Body) (id : ℤ) (o : OpenCall) (apdu : Apdu) → (after_outcome (at mode base) body id (Some o) (Some apdu)).sending ≡ handing mode o.context apdu body.sending
handed-sending Bare base body id o apdu = refl
handed-sending Direct base body id o apdu = refl
handed-sending Reliable base body id o apdu = refl

-- ---- Answer

returned-fits : (base : Base) (place : ℕ) (operation : Operation) (id : ℤ) (result : Option Val) → operation_at base.tables place ≡ Some operation → is_carried base.tables.types operation.result result ≡ true → IsNumber id → IsProper base (result_apdu operation id result)
returned-fits base place operation id None known carried i = (i, tt)
returned-fits base place operation id (Some value) known carried i =
    let own : operation_with base.tables operation.code ≡ Some place = (own_codes base.tables).operations place operation known in
    (i, ap (λ p. fits_result base (operation_of_code base p) (Some value)) own ∙ ap (λ p. fits_result base p (Some value)) known ∙ carried)

pub answer-in : (mode : Mode) (id : ℤ) (result : Option Val) → HandingIn mode (the_calls.Answer id result)
answer-in mode id result free base proposed body answer writes back sound h =
    let c = called (at mode base) body (the_calls.Answer id result) answer h in
    let s = passed (is_stopped (at mode base) body) refusals.Waiting (can_answer_open (at mode base) body id (opened_with false id body.calls.opens) (operation_of (at mode base) (opened_with false id body.calls.opens)) result) answer c.rows in
    let x = answerable (at mode base) body id (opened_with false id body.calls.opens) (operation_of (at mode base) (opened_with false id body.calls.opens)) result answer s.later in
    let known : operation_at base.tables x.invocation.operation ≡ Some x.operation = sym (ap (operation_of (at mode base)) x.is_its) ∙ x.is_it in
    let i : IsNumber id = id-is_number false id body.calls.made body.calls.opens x.invocation sound.numbered x.is_its in
    let apdu : Apdu = result_apdu x.operation id result in
    let proper : IsProper (at mode base) apdu = returned-fits (at mode base) x.invocation.operation x.operation id result known x.carried i in
    let out : IsOutcome (at mode base) body id x.invocation apdu = record { opened = x.is_its; seen_so = refl; allowed = result-allowed (at mode base) x.invocation.operation x.operation id result known x.returns x.carried } in
    let a = outcome-acts free mode base proposed body id x.invocation apdu answer writes (back.reads apdu proper x.sends.short) sound c.in_phase s.holds i out proper (back.reads apdu proper x.sends.short) x.sends in
    let one = subst (λ p. HandsActs free mode base proposed body (after_outcome (at mode base) body id (Some x.invocation) (result_for id result p)) (due_outcome (at mode base) body (Some x.invocation) (result_for id result p)) a.act) (sym known) a.acts in
    record {
      apdu = apdu;
      of_call = ap (λ o. as_list (result_for id result (operation_opened (at mode base) o))) x.is_its ∙ ap (λ p. as_list (result_for id result p)) known;
      context = x.invocation.context;
      sending =
          ap (λ o. (after_outcome (at mode base) body id o (result_for id result (operation_opened (at mode base) o))).sending) x.is_its ∙
          ap (λ p. (after_outcome (at mode base) body id (Some x.invocation) (result_for id result p)).sending) known ∙
          handed-sending mode base body id x.invocation apdu;
      is_proper = proper;
      is_short = x.sends.short;
      act = a.act;
      hands = a.hands;
      acts = subst (λ o. HandsActs free mode base proposed body (after_outcome (at mode base) body id o (result_for id result (operation_opened (at mode base) o))) (due_outcome (at mode base) body o (result_for id result (operation_opened (at mode base) o))) a.act) (sym x.is_its) one;
    }

-- ---- Refuse

parameter-fits : (base : Base) (place : ℕ) (error : ErrorRow) (id : ℤ) (parameter : Option Val) → error_at base.tables place ≡ Some error → is_carried base.tables.types error.parameter parameter ≡ true → IsNumber id → IsProper base (error_apdu error id parameter)
parameter-fits base place error id parameter known carried i =
    let own : error_with base.tables error.code ≡ Some place = (own_codes base.tables).errors place error known in
    (i, ap (λ p. fits_parameter base (error_of_code base p) parameter) own ∙ ap (λ p. fits_parameter base p parameter) known ∙ carried)

pub refuse-in : (mode : Mode) (id : ℤ) (error : ℕ) (parameter : Option Val) → HandingIn mode (the_calls.Refuse id error parameter)
refuse-in mode id error parameter free base proposed body answer writes back sound h =
    let c = called (at mode base) body (the_calls.Refuse id error parameter) answer h in
    let s = passed (is_stopped (at mode base) body) refusals.Waiting (can_refuse_open (at mode base) body id (opened_with false id body.calls.opens) (operation_of (at mode base) (opened_with false id body.calls.opens)) error (error_at base.tables error) parameter) answer c.rows in
    let x = refusable (at mode base) body id (opened_with false id body.calls.opens) (operation_of (at mode base) (opened_with false id body.calls.opens)) error (error_at base.tables error) parameter answer s.later in
    let known : operation_at base.tables x.invocation.operation ≡ Some x.operation = sym (ap (operation_of (at mode base)) x.is_its) ∙ x.is_it in
    let i : IsNumber id = id-is_number false id body.calls.made body.calls.opens x.invocation sound.numbered x.is_its in
    let apdu : Apdu = error_apdu x.error id parameter in
    let proper : IsProper (at mode base) apdu = parameter-fits (at mode base) error x.error id parameter x.is_error x.carried i in
    let out : IsOutcome (at mode base) body id x.invocation apdu = record { opened = x.is_its; seen_so = refl; allowed = error-allowed (at mode base) x.invocation.operation x.operation error x.error id parameter known x.is_error x.allowed x.carried } in
    let a = outcome-acts free mode base proposed body id x.invocation apdu answer writes (back.reads apdu proper x.sends.short) sound c.in_phase s.holds i out proper (back.reads apdu proper x.sends.short) x.sends in
    let one = subst (λ e. HandsActs free mode base proposed body (after_outcome (at mode base) body id (Some x.invocation) (error_for id parameter e)) (due_outcome (at mode base) body (Some x.invocation) (error_for id parameter e)) a.act) (sym x.is_error) a.acts in
    record {
      apdu = apdu;
      of_call = ap (λ e. as_list (error_for id parameter e)) x.is_error;
      context = x.invocation.context;
      sending =
          ap (λ o. (after_outcome (at mode base) body id o (error_for id parameter (error_at base.tables error))).sending) x.is_its ∙
          ap (λ e. (after_outcome (at mode base) body id (Some x.invocation) (error_for id parameter e)).sending) x.is_error ∙
          handed-sending mode base body id x.invocation apdu;
      is_proper = proper;
      is_short = x.sends.short;
      act = a.act;
      hands = a.hands;
      acts = subst (λ o. HandsActs free mode base proposed body (after_outcome (at mode base) body id o (error_for id parameter (error_at base.tables error))) (due_outcome (at mode base) body o (error_for id parameter (error_at base.tables error))) a.act) (sym x.is_its) one;
    }
