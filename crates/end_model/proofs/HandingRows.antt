-- The acts of Invoke, Answer and Refuse.
use Rattle.std.proofs.Common.{◌≡◌, refl, true, false, ◌∙◌, sym, ap, subst, arith, ℕ, suc, ◌≤◌, List}
use Rattle.std.proofs.Common.{[], ◌∷◌, ◌++◌, map}
use Rattle.std.specs.Prelude.{ℤ, pos, negsuc, Bool, Option, Some, is_some, option_map, unwrap_or}
use Rattle.std.specs.Prelude.{Ok, if◌then◌else◌, nat_le}
use Rattle.osi_base.specs.declared.syntax.Syntax.TheVariants.{Der}
use Rattle.osi_base.specs.declared.layer_words.Proposal.{Proposal}
use Rattle.osi_base.specs.Limits.{last_invocation}
use Rattle.asn1_types.specs.declared.value.Val.{Val}
use Rattle.stub_tables.specs.declared.operation.Operation.{Operation}
use Rattle.stub_tables.specs.declared.apdu.Apdu.{Apdu}
use Rattle.stub_tables.specs.Lookup.{operation_at, operation_with}
use Rattle.stub_tables.proofs.OwnCodes.{own_codes}
use Rattle.dialogue.specs.declared.config.Mode.{Mode}
use Rattle.dialogue.specs.declared.config.Mode.TheVariants.{Bare, Direct, Reliable}
use Rattle.dialogue.specs.declared.call.Call.TheVariants as the_calls
use Rattle.dialogue.specs.declared.call.CallRefusal.TheVariants as refusals
use Rattle.end_rules.specs.Base.{Base, Item}
use Rattle.end_rules.specs.Sets.{is_deleted_in}
use Rattle.osi_base.specs.SetPlaces.{pair_of}
use Rattle.end_rules.specs.State.{Body, Sets, OpenCall, is_up, is_free, opened_with}
use Rattle.end_rules.specs.Messages.{Session, OfData, Values, Remote}
use Rattle.end_rules.specs.Invoking.{invoke_apdu, is_stopped, next_id, can_invoke_operation}
use Rattle.end_rules.specs.Hearing.{is_silent_at, head_of_apdu, value_on, data_on}
use Rattle.end_rules.specs.Requesting.{after_call, due_of, after_invoke, due_invoke, invoking}
use Rattle.end_rules.specs.Requesting.{queueing}
use Rattle.agreement.specs.Messages as model
use Rattle.agreement.specs.Messages.Act.{SaysValue, Queues}
use Rattle.agreement.specs.Messages.Message.{Data as model_data}
use Rattle.agreement.specs.Messages.Apdu.{Outcome as model_outcome}
use Rattle.agreement.specs.State as states
use Rattle.agreement.specs.Calls.{MayHandIn, is_link_allowed, has_room, may_answer}
use Rattle.agreement.specs.Acts.{acted}
use Rattle.end_model.specs.Seen.{Free, number_seen, apdu_seen, item_seen, queued_seen, calls_seen}
use Rattle.end_model.specs.Seen.{opens_seen_on, is_outcome, allows_outcome, seen, setup_seen}
use Rattle.end_model.specs.Rows.{at}
use Rattle.end_model.specs.OpenInvocations.{IsNumber, IsProper, IsReadBack, AreNumbered, AreNumberedCalls}
use Rattle.end_model.specs.OpenInvocations.{fits_argument, operation_of_code}
use Rattle.end_model.specs.Words.{IsData, AreOurs}
use Rattle.end_model.specs.Acting.{ActsAs, HandsActs, SetsIn, IsSoundBody, HandingIn, apdus_of}
use Rattle.end_model.specs.Acting.{invoked_as}
use Rattle.end_model.proofs.Marks.{map-snoc}
use Rattle.end_model.proofs.Facts.{up-seen, free-seen}
use Rattle.end_model.proofs.Held.{found-pair, some-deletes}
use Rattle.end_model.proofs.Ladder.{passed, called}
use Rattle.end_model.proofs.InvokeRungs.{Invokable, invokable}
use Rattle.end_model.proofs.OpenInvocations.{found-seen, answer-found, on_opened, on-some, found}
use Rattle.end_model.proofs.Numbered.{more-made, own-fresh, numbered-opening}
use Rattle.end_model.proofs.Handing.{number-next, next-is_number, has-pair, linking, room}
use Rattle.end_model.proofs.Handing.{own-opening}

-- ---- what is said, and what is queued

abbrev pub AtOnce : Mode → Type 0
AtOnce Bare = Unit {0}
AtOnce Direct = Unit {0}
AtOnce Reliable = ⊥

pub data-meant : (base : Base) (body : Body) (item : Item) → pair_of body.sets.held item.id ≡ Some item.pair → IsData base (value_on body item.id (Remote item.apdu) ∷ []) (model_data (item_seen base item))
data-meant base body item e =
    record { item = item; is_one = ap (λ p. record { id = item.id; pair = p; content = Remote item.apdu } ∷ []) e; is_its = refl }

pub said : (free : Free) (mode : Mode) (base : Base) (proposed : List Proposal) (body later : Body) (item : Item) → AtOnce mode → is_up body.link.phase ≡ true → is_free body.link.awaits ≡ true → pair_of body.sets.held item.id ≡ Some item.pair → is_deleted_in body.sets.own item.id ≡ false → free.codec.may_write (item_seen (at mode base) item) ≡ true → MayHandIn (setup_seen free mode base) (calls_seen body.calls) (map (queued_seen (at mode base)) body.sending.queue) (apdu_seen (at mode base) item.apdu) → seen (at mode base) later ≡ acted (setup_seen free mode base) (seen (at mode base) body) (SaysValue (item_seen (at mode base) item)) → ActsAs free mode base proposed body later (data_on body item.id item.apdu ∷ []) (SaysValue (item_seen (at mode base) item))
said free Reliable base proposed body later item o up calm there kept writes may after = absurd o
said free Bare base proposed body later item o up calm there kept writes may after =
    record {
      may =
          record {
            at_once = λ e. cc;
            is_free = record { is_up = up-seen body.link.stage body.link.phase up; is_calm = free-seen body.link.awaits calm };
            is_there = found-pair body.sets.held item.id item.pair there;
            is_kept = some-deletes item.id body.sets.own ∙ kept;
            is_writable = writes;
            may_hand_in = may;
          };
      after = after;
      means = (data-meant (at Bare base) body item there, tt);
    }
said free Direct base proposed body later item o up calm there kept writes may after =
    record {
      may =
          record {
            at_once = λ e. cc;
            is_free = record { is_up = up-seen body.link.stage body.link.phase up; is_calm = free-seen body.link.awaits calm };
            is_there = found-pair body.sets.held item.id item.pair there;
            is_kept = some-deletes item.id body.sets.own ∙ kept;
            is_writable = writes;
            may_hand_in = may;
          };
      after = after;
      means = (data-meant (at Direct base) body item there, tt);
    }

pub our-data : (base : Base) (body : Body) (item : Item) → pair_of body.sets.held item.id ≡ Some item.pair → IsProper base item.apdu → IsReadBack base item.apdu → AreOurs base (data_on body item.id item.apdu ∷ []) (model_data (item_seen base item) ∷ [])
our-data base body item e proper back =
    (record { item = item; is_data = ap (λ p. Session (OfData (Values (record { id = item.id; pair = p; content = Remote item.apdu } ∷ [])))) e; is_its = refl; is_proper = proper; is_read_back = back }, tt)

pub same-sets : (mode : Mode) (base : Base) (body later : Body) → later.sets ≡ body.sets → SetsIn mode base body → SetsIn mode base later
same-sets Bare base body later e h = record { held = ap (λ (s : Sets). s.held) e ∙ h.held; own = ap (λ (s : Sets). s.own) e ∙ h.own }
same-sets Direct base body later e h = tt
same-sets Reliable base body later e h = tt

pub queued : (free : Free) (base : Base) (proposed : List Proposal) (body later : Body) (context : ℕ) (apdu : Apdu) → is_up body.link.phase ≡ true → MayHandIn (setup_seen free Reliable base) (calls_seen body.calls) [] (apdu_seen (at Reliable base) apdu) → seen (at Reliable base) later ≡ acted (setup_seen free Reliable base) (seen (at Reliable base) body) (Queues context (apdu_seen (at Reliable base) apdu)) → ActsAs free Reliable base proposed body later [] (Queues context (apdu_seen (at Reliable base) apdu))
queued free base proposed body later context apdu up may after =
    record { may = record { by_transfers = refl; is_up = up-seen body.link.stage body.link.phase up; may_hand_in = may }; after = after; means = tt }

pub queue-seen : (base : Base) (body : Body) (context : ℕ) (apdu : Apdu) (calls : model.Calls) → record (seen base body) { calls = calls; outgoing = record (seen base body).outgoing { queue = map (queued_seen base) (body.sending.queue ++ record { context = context; apdu = apdu } ∷ []) } } ≡ record (seen base body) { calls = calls; outgoing = record (seen base body).outgoing { queue = map (queued_seen base) body.sending.queue ++ record { context = context; apdu = apdu_seen base apdu } ∷ [] } }
queue-seen base body context apdu calls =
    let put : List states.Handed → states.State = λ q. record (seen base body) { calls = calls; outgoing = record (seen base body).outgoing { queue = q } } in
    ap put (map-snoc (queued_seen base) body.sending.queue (record { context = context; apdu = apdu }))

-- ---- Invoke

record Ready (free : Free) (mode : Mode) (base : Base) (body : Body) (context place : ℕ) (argument : Option Val) (linked : Option ℤ) (operation : Operation) : Type 0 where
  known : operation_at base.tables place ≡ Some operation
  same_place : unwrap_or (operation_with base.tables operation.code) 0 ≡ place
  proper : IsProper (at mode base) (invoke_apdu operation (next_id body) linked argument)
  may : (queue : List states.Handed) → MayHandIn (setup_seen free mode base) (calls_seen body.calls) queue (apdu_seen (at mode base) (invoke_apdu operation (next_id body) linked argument))

ready : (free : Free) (mode : Mode) (base : Base) (body : Body) (context place : ℕ) (argument : Option Val) (linked : Option ℤ) (answer : Option ℤ) → AreNumbered body.calls.made body.calls.opens → (i : Invokable (at mode base) body context place (operation_at base.tables place) argument linked answer) → Ready free mode base body context place argument linked i.operation
ready free mode base body context place argument linked answer numbered i =
    let own : operation_with base.tables i.operation.code ≡ Some place = (own_codes base.tables).operations place i.operation i.is_it in
    let same : unwrap_or (operation_with base.tables i.operation.code) 0 ≡ place = ap (λ o. unwrap_or o 0) own in
    let l = linking free mode base body place linked numbered i.linking in
    let r : has_room (setup_seen free mode base) place (calls_seen body.calls).own_open ≡ true = room free mode base body place i.operation i.is_it i.sends.room in
    let fits : fits_argument (at mode base) (operation_of_code (at mode base) (operation_with base.tables i.operation.code)) argument ≡ true = ap (λ o. fits_argument (at mode base) (operation_of_code (at mode base) o) argument) own ∙ ap (λ o. fits_argument (at mode base) o argument) i.is_it ∙ i.sends.carried in
    record {
      known = i.is_it;
      same_place = same;
      proper = (next-is_number body, l.named, fits);
      may = λ queue. (
        number-next body i.sends.numbers,
        subst (λ p. is_link_allowed (setup_seen free mode base) (calls_seen body.calls).peer_open p (option_map number_seen linked) ≡ true) (sym same) l.allowed,
        subst (λ p. has_room (setup_seen free mode base) p (calls_seen body.calls).own_open ≡ true) (sym same) r,
      );
    }

-- the open invocations, as the model has them after an own one
opened-as : (base : Base) (place : ℕ) (context : ℕ) (id : ℤ) (linked : Option ℤ) (body : Body) (p : ℕ) → p ≡ place → calls_seen (invoking base context place id linked body).calls ≡ record (calls_seen body.calls) { own_open = (if is_silent_at base (Some p) then (calls_seen body.calls).own_open else record { number = number_seen id; operation = p; context = context } ∷ (calls_seen body.calls).own_open); made = suc body.calls.made }
opened-as base place context id linked body p e =
    own-opening base place context id linked body.calls ∙
    ap (λ (q : ℕ). record (calls_seen body.calls) { own_open = (if is_silent_at base (Some q) then (calls_seen body.calls).own_open else record { number = number_seen id; operation = q; context = context } ∷ (calls_seen body.calls).own_open); made = suc body.calls.made }) (sym e)

-- the answer that came, and the operation that was found
invoke-steps : (free : Free) (mode : Mode) (base : Base) (proposed : List Proposal) (body : Body) (context place : ℕ) (argument : Option Val) (linked : Option ℤ) (operation : Operation) (answer : Option ℤ) (act : model.Act) → operation_at base.tables place ≡ Some operation → answer ≡ Some (next_id body) → HandsActs free mode base proposed body (after_invoke (at mode base) body context place (next_id body) linked (Some operation) argument) (due_invoke (at mode base) body context (next_id body) linked (Some operation) argument) act → HandsActs free mode base proposed body (after_call (at mode base) body (the_calls.Invoke context place argument linked) (Ok answer)) (due_of (at mode base) body (the_calls.Invoke context place argument linked) (Ok answer)) act
invoke-steps free mode base proposed body context place argument linked operation answer act known next h =
    let one = subst (λ o. HandsActs free mode base proposed body (after_invoke (at mode base) body context place (next_id body) linked o argument) (due_invoke (at mode base) body context (next_id body) linked o argument) act) (sym known) h in
    subst (λ a. HandsActs free mode base proposed body (after_call (at mode base) body (the_calls.Invoke context place argument linked) (Ok a)) (due_of (at mode base) body (the_calls.Invoke context place argument linked) (Ok a)) act) (sym next) one

pub next-is : (body : Body) → nat_le last_invocation body.calls.made ≡ false → next_id body ≡ pos (suc body.calls.made)
next-is body h = ap pos (number-next body h)

invoked-sound : (mode : Mode) (base : Base) (body : Body) (context place : ℕ) (linked : Option ℤ) → nat_le last_invocation body.calls.made ≡ false → IsSoundBody mode base body → AreNumberedCalls (invoking (at mode base) context place (next_id body) linked body).calls
invoked-sound mode base body context place linked room sound =
    let o : OpenCall = record { own = true; id = next_id body; operation = place; context = context; parent = linked } in
    let more : AreNumbered (suc body.calls.made) body.calls.opens = more-made body.calls.made (suc body.calls.made) body.calls.opens (omega arith) sound.numbered in
    let within : number_seen (next_id body) ≤ suc body.calls.made = subst (λ n. n ≤ suc body.calls.made) (sym (number-next body room)) (omega arith) in
    let fresh : is_some (opened_with true (next_id body) body.calls.opens) ≡ false = ap (λ i. is_some (opened_with true i body.calls.opens)) (next-is body room) ∙ own-fresh body.calls.made body.calls.opens sound.numbered in
    numbered-opening (at mode base) o (record body.calls { made = suc body.calls.made }) more (record { is_number = next-is_number body; made_here = λ e. within }) fresh

pub calm-at : (base : Base) (body : Body) → is_stopped (at Direct base) body ≡ false → is_free body.link.awaits ≡ true
calm-at base body h = grind (arith)

pub invoke-in : (mode : Mode) (context place : ℕ) (argument : Option Val) (linked : Option ℤ) → HandingIn mode (the_calls.Invoke context place argument linked)
invoke-in Bare context place argument linked free base proposed body answer writes back sound h =
    let c = called (at Bare base) body (the_calls.Invoke context place argument linked) answer h in
    let s = passed (is_stopped (at Bare base) body) refusals.Waiting (can_invoke_operation (at Bare base) body context place (operation_at base.tables place) argument linked) answer c.rows in
    let i = invokable (at Bare base) body context place (operation_at base.tables place) argument linked answer s.later in
    let r = ready free Bare base body context place argument linked answer sound.numbered i in
    let p = has-pair base.tables.name_oid body.sets.held context i.on_module in
    let item : Item = record { id = context; pair = p.0; apdu = invoke_apdu i.operation (next_id body) linked argument } in
    let calm : is_free body.link.awaits ≡ true = ap is_free sound.calm in
    record {
      apdu = item.apdu;
      of_call = ap (λ a. apdus_of (at Bare base) body (the_calls.Invoke context place argument linked) a) i.sends.next ∙ ap (invoked_as (next_id body) linked argument) i.is_it;
      context = context;
      sending =
          ap (λ a. (after_call (at Bare base) body (the_calls.Invoke context place argument linked) (Ok a)).sending) i.sends.next ∙
          ap (λ o. (after_invoke (at Bare base) body context place (next_id body) linked o argument).sending) i.is_it;
      is_proper = r.proper;
      is_short = i.sends.short;
      act = SaysValue (item_seen (at Bare base) item);
      hands = refl;
      acts = invoke-steps free Bare base proposed body context place argument linked i.operation answer (SaysValue (item_seen (at Bare base) item)) i.is_it i.sends.next
          (record {
            acts = said free Bare base proposed body (invoking (at Bare base) context place (next_id body) linked body) item tt c.in_phase calm p.1 i.kept (writes (item_seen (at Bare base) item)) (r.may (map (queued_seen (at Bare base)) body.sending.queue))
                (ap (λ (calls : model.Calls). record (seen (at Bare base) body) { calls = calls }) (opened-as (at Bare base) place context (next_id body) linked body (unwrap_or (operation_with base.tables i.operation.code) 0) r.same_place));
            ours = our-data (at Bare base) body item p.1 r.proper tt;
            sound = record { numbered = invoked-sound Bare base body context place linked i.sends.numbers sound; calm = sound.calm; sets = same-sets Bare base body (invoking (at Bare base) context place (next_id body) linked body) refl sound.sets; queues = sound.queues };
          });
    }
invoke-in Direct context place argument linked free base proposed body answer writes back sound h =
    let c = called (at Direct base) body (the_calls.Invoke context place argument linked) answer h in
    let s = passed (is_stopped (at Direct base) body) refusals.Waiting (can_invoke_operation (at Direct base) body context place (operation_at base.tables place) argument linked) answer c.rows in
    let i = invokable (at Direct base) body context place (operation_at base.tables place) argument linked answer s.later in
    let r = ready free Direct base body context place argument linked answer sound.numbered i in
    let p = has-pair base.tables.name_oid body.sets.held context i.on_module in
    let item : Item = record { id = context; pair = p.0; apdu = invoke_apdu i.operation (next_id body) linked argument } in
    record {
      apdu = item.apdu;
      of_call = ap (λ a. apdus_of (at Direct base) body (the_calls.Invoke context place argument linked) a) i.sends.next ∙ ap (invoked_as (next_id body) linked argument) i.is_it;
      context = context;
      sending =
          ap (λ a. (after_call (at Direct base) body (the_calls.Invoke context place argument linked) (Ok a)).sending) i.sends.next ∙
          ap (λ o. (after_invoke (at Direct base) body context place (next_id body) linked o argument).sending) i.is_it;
      is_proper = r.proper;
      is_short = i.sends.short;
      act = SaysValue (item_seen (at Direct base) item);
      hands = refl;
      acts = invoke-steps free Direct base proposed body context place argument linked i.operation answer (SaysValue (item_seen (at Direct base) item)) i.is_it i.sends.next
          (record {
            acts = said free Direct base proposed body (invoking (at Direct base) context place (next_id body) linked body) item tt c.in_phase (calm-at base body s.holds) p.1 i.kept (writes (item_seen (at Direct base) item)) (r.may (map (queued_seen (at Direct base)) body.sending.queue))
                (ap (λ (calls : model.Calls). record (seen (at Direct base) body) { calls = calls }) (opened-as (at Direct base) place context (next_id body) linked body (unwrap_or (operation_with base.tables i.operation.code) 0) r.same_place));
            ours = our-data (at Direct base) body item p.1 r.proper tt;
            sound = record { numbered = invoked-sound Direct base body context place linked i.sends.numbers sound; calm = sound.calm; sets = same-sets Direct base body (invoking (at Direct base) context place (next_id body) linked body) refl sound.sets; queues = sound.queues };
          });
    }
invoke-in Reliable context place argument linked free base proposed body answer writes back sound h =
    let c = called (at Reliable base) body (the_calls.Invoke context place argument linked) answer h in
    let s = passed (is_stopped (at Reliable base) body) refusals.Waiting (can_invoke_operation (at Reliable base) body context place (operation_at base.tables place) argument linked) answer c.rows in
    let i = invokable (at Reliable base) body context place (operation_at base.tables place) argument linked answer s.later in
    let r = ready free Reliable base body context place argument linked answer sound.numbered i in
    let apdu : Apdu = invoke_apdu i.operation (next_id body) linked argument in
    record {
      apdu = apdu;
      of_call = ap (λ a. apdus_of (at Reliable base) body (the_calls.Invoke context place argument linked) a) i.sends.next ∙ ap (invoked_as (next_id body) linked argument) i.is_it;
      context = context;
      sending =
          ap (λ a. (after_call (at Reliable base) body (the_calls.Invoke context place argument linked) (Ok a)).sending) i.sends.next ∙
          ap (λ o. (after_invoke (at Reliable base) body context place (next_id body) linked o argument).sending) i.is_it;
      is_proper = r.proper;
      is_short = i.sends.short;
      act = Queues context (apdu_seen (at Reliable base) apdu);
      hands = refl;
      acts = invoke-steps free Reliable base proposed body context place argument linked i.operation answer (Queues context (apdu_seen (at Reliable base) apdu)) i.is_it i.sends.next
          (record {
            acts = queued free base proposed body (queueing context apdu (invoking (at Reliable base) context place (next_id body) linked body)) context apdu c.in_phase (r.may [])
                (queue-seen (at Reliable base) body context apdu (calls_seen (invoking (at Reliable base) context place (next_id body) linked body).calls) ∙
                ap (λ (calls : model.Calls). record (seen (at Reliable base) body) { calls = calls; outgoing = record (seen (at Reliable base) body).outgoing { queue = map (queued_seen (at Reliable base)) body.sending.queue ++ record { context = context; apdu = apdu_seen (at Reliable base) apdu } ∷ [] } }) (opened-as (at Reliable base) place context (next_id body) linked body (unwrap_or (operation_with base.tables i.operation.code) 0) r.same_place));
            ours = tt;
            sound = record { numbered = invoked-sound Reliable base body context place linked i.sends.numbers sound; calm = tt; sets = tt; queues = tt };
          });
    }

-- ---- outcomes

-- an outcome as it is handed in
pub record IsOutcome (base : Base) (body : Body) (id : ℤ) (o : OpenCall) (apdu : Apdu) : Type 0 where
  pub opened : opened_with false id body.calls.opens ≡ Some o
  pub seen_so : apdu_seen base apdu ≡ model_outcome (number_seen id) (base.spellings.apdu Der apdu)
  pub allowed : is_outcome base o.operation (head_of_apdu apdu) ≡ true

may-answer : (free : Free) (mode : Mode) (base : Base) (body : Body) (id : ℤ) (o : OpenCall) (apdu : Apdu) → AreNumbered body.calls.made body.calls.opens → IsNumber id → IsOutcome (at mode base) body id o apdu → base.spellings.head Der (base.spellings.apdu Der apdu) ≡ head_of_apdu apdu → may_answer (setup_seen free mode base) (calls_seen body.calls).peer_open (number_seen id) (base.spellings.apdu Der apdu) ≡ true
may-answer free mode base body (negsuc n) o apdu numbered i h back = absurd i
may-answer free mode base body (pos n) o apdu numbered i h back =
    let test : model.Invocation → Bool = λ c. allows_outcome base c.operation (base.spellings.apdu Der apdu) in
    answer-found (setup_seen free mode base) n (base.spellings.apdu Der apdu) (opens_seen_on false [] body.calls.opens) ∙
    found-seen test n false [] body.calls.made body.calls.opens numbered ∙
    ap (on_opened test (found test n [])) h.opened ∙
    on-some test (found test n []) o ∙
    ap (is_outcome base o.operation) back ∙ h.allowed

pub handed-outcome : (free : Free) (mode : Mode) (base : Base) (body : Body) (id : ℤ) (o : OpenCall) (apdu : Apdu) → AreNumbered body.calls.made body.calls.opens → IsNumber id → IsOutcome (at mode base) body id o apdu → base.spellings.head Der (base.spellings.apdu Der apdu) ≡ head_of_apdu apdu → (queue : List states.Handed) → MayHandIn (setup_seen free mode base) (calls_seen body.calls) queue (apdu_seen (at mode base) apdu)
handed-outcome free mode base body id o apdu numbered i h back queue =
    subst (MayHandIn (setup_seen free mode base) (calls_seen body.calls) queue) (sym h.seen_so) (may-answer free mode base body id o apdu numbered i h back)
