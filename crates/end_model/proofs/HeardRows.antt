-- Data that is taken, with the reject that it brings.
use Rattle.std.proofs.Common.{◌≡◌, refl, true, false, ◌∙◌, sym, ap, subst, ℕ, List, [], ◌∷◌, ◌++◌}
use Rattle.std.proofs.Common.{map}
use Rattle.std.specs.Prelude.{Bool, Option, Some, None}
use Rattle.osi_base.specs.declared.session_word.SessionWord.TheVariants as units
use Rattle.dialogue.specs.declared.config.Mode.{Mode}
use Rattle.dialogue.specs.declared.config.Mode.TheVariants.{Bare, Direct, Reliable}
use Rattle.dialogue.specs.declared.indication.Indication.{Indication}
use Rattle.end_rules.specs.Base.{Base, Item}
use Rattle.end_rules.specs.State.{Body, Link, Calls, Queued, Awaited, NoAnswer, RestartOf}
use Rattle.end_rules.specs.State.{InterruptOf, DiscardOf, ReleaseOf, is_up}
use Rattle.end_rules.specs.Purging.{is_purged}
use Rattle.end_rules.specs.Invoking.{carrier_in}
use Rattle.end_rules.specs.Hearing.{Heard, Taken, Rejecting, reject_apdu, hear, head_of_apdu}
use Rattle.end_rules.specs.Hearing.{on_heard, sent_on}
use Rattle.agreement.specs.Sets.{Role}
use Rattle.agreement.specs.Messages as model
use Rattle.agreement.specs.Messages.Act.{SaysValue, Drops}
use Rattle.agreement.specs.Messages.Mode.{Reliable as model_reliable}
use Rattle.agreement.specs.Messages.Message.{Data as model_data}
use Rattle.agreement.specs.Messages.Choice.{Nothing}
use Rattle.agreement.specs.State as states
use Rattle.agreement.specs.Calls.{heard as model_heard}
use Rattle.agreement.specs.Acts.{IsFree}
use Rattle.agreement.specs.Takings.{taken}
use Rattle.end_model.specs.Seen.{Free, mode_seen, role_seen, awaited_seen, apdu_seen, item_seen}
use Rattle.end_model.specs.Seen.{queued_seen, calls_seen, seen, setup_seen}
use Rattle.end_model.specs.Rows.{at}
use Rattle.end_model.specs.Words.{AreOurs}
use Rattle.end_model.specs.Acting.{IsSoundBody, QueuesIn}
use Rattle.end_model.specs.OpenInvocations.{AreNumberedCalls, IsProper}
use Rattle.end_model.specs.Heard.{MayThen, then_acted, sent_then, HearsIn}
use Rattle.end_model.proofs.Facts.{up-seen, up-there}
use Rattle.end_model.proofs.Held.{found-pair, some-deletes}
use Rattle.end_model.proofs.Handing.{carrier-sends}
use Rattle.end_model.proofs.HandingRows.{AtOnce, our-data, same-sets}
use Rattle.end_model.proofs.Hears.{rejects_seen, IsProperReject, Hears, hears}

-- ---- what the modes say

at-once : (mode : Mode) → AtOnce mode → mode_seen mode ≡ model_reliable → ⊥
at-once Bare o e = cc
at-once Direct o e = cc
at-once Reliable o e = o

no-queue : (mode : Mode) (base : Base) (queue : List Queued) → AtOnce mode → QueuesIn mode queue → map (queued_seen base) queue ≡ []
no-queue Bare base queue o h = ap (map (queued_seen base)) h
no-queue Direct base queue o h = ap (map (queued_seen base)) h
no-queue Reliable base queue o h = absurd o

calm : (initiator : Bool) (awaited : Awaited) → is_purged initiator awaited (units.Data []) ≡ false → awaited ≡ NoAnswer
calm initiator NoAnswer h = refl
calm initiator (RestartOf own) h = cc
calm initiator InterruptOf h = cc
calm initiator DiscardOf h = cc
calm initiator ReleaseOf h = cc

-- ---- the model's state once it has heard

abbrev heard_state : Base → Body → Calls → ℕ → Option Rejecting → states.State
heard_state base body calls context r =
    record (seen base body) { calls = calls_seen calls; outgoing = record (seen base body).outgoing { queue = rejects_seen base context r } }

heard-state : (free : Free) (mode : Mode) (base : Base) (role : Role) (body : Body) (item : Item) (h : Heard) → AtOnce mode → QueuesIn mode body.sending.queue → Hears free mode base body.calls item.id item.apdu h → taken (setup_seen free mode base) role (seen (at mode base) body) (model_data (item_seen (at mode base) item)) Nothing ≡ heard_state (at mode base) body h.calls item.id h.reject
heard-state free mode base role body item h o q is =
    let put : model.Calls → List states.Handed → List states.Handed → states.State = λ calls before after. record (seen (at mode base) body) { calls = calls; outgoing = record (seen (at mode base) body).outgoing { queue = before ++ after } } in
    let before : List states.Handed = map (queued_seen (at mode base)) body.sending.queue in
    ap (λ rejects. put (model_heard (setup_seen free mode base) (calls_seen body.calls) item.id (apdu_seen (at mode base) item.apdu)) before rejects) (sym is.rejects_are) ∙
    ap (λ calls. put calls before (rejects_seen (at mode base) item.id h.reject)) (sym is.calls_are) ∙
    ap (λ b. put (calls_seen h.calls) b (rejects_seen (at mode base) item.id h.reject)) (no-queue mode (at mode base) body.sending.queue o q)

-- ---- what follows

record HeardWith (free : Free) (mode : Mode) (base : Base) (link : Link) (state : states.State) (t : Taken) : Type 0 where
  then_act : Option model.Act
  may : MayThen (setup_seen free mode base) (role_seen base.initiator) state then_act
  after : seen (at mode base) t.body ≡ then_acted (setup_seen free mode base) state then_act
  sound : IsSoundBody mode base t.body
  same_link : t.body.link ≡ link
  means : AreOurs (at mode base) t.answers (sent_then (setup_seen free mode base) state then_act)

no-queue-after : (mode : Mode) (base : Base) (body : Body) (calls : Calls) → AtOnce mode → QueuesIn mode body.sending.queue → seen base (record body { calls = calls }) ≡ record (seen base body) { calls = calls_seen calls; outgoing = record (seen base body).outgoing { queue = [] } }
no-queue-after mode base body calls o q =
    let put : List states.Handed → states.State = λ queue. record (seen base body) { calls = calls_seen calls; outgoing = record (seen base body).outgoing { queue = queue } } in
    ap put (no-queue mode base body.sending.queue o q)

is-free-there : (base : Base) (body : Body) → is_up body.link.phase ≡ true → body.link.awaits ≡ NoAnswer → IsFree (seen base body)
is-free-there base body up e = record { is_up = up-seen body.link.stage body.link.phase up; is_calm = ap awaited_seen e }

with-calls : (mode : Mode) (base : Base) (body : Body) (calls : Calls) → IsSoundBody mode base body → AreNumberedCalls calls → IsSoundBody mode base (record body { calls = calls })
with-calls mode base body calls sound numbered = record { numbered = numbered; calm = sound.calm; sets = same-sets mode base body (record body { calls = calls }) refl sound.sets; queues = sound.queues }

with-carrier : (free : Free) (mode : Mode) (base : Base) (body : Body) (context : ℕ) (calls : Calls) (r : Rejecting) (c : Option ℕ) → AtOnce mode → IsSoundBody mode base body → AreNumberedCalls calls → ((value : model.Value) → free.codec.may_write value ≡ true) → is_up body.link.phase ≡ true → body.link.awaits ≡ NoAnswer → IsProper (at mode base) (reject_apdu r) → carrier_in (at mode base) body context ≡ c → HeardWith free mode base body.link (heard_state (at mode base) body calls context (Some r)) (sent_on (record body { calls = calls }) r c)
with-carrier free mode base body context calls r None o sound numbered writes up e proper at_c =
    record {
      then_act = Some Drops;
      may = record { at_once = at-once mode o; is_free = is-free-there (at mode base) body up e; has_due = λ d. cc };
      after = no-queue-after mode (at mode base) body calls o sound.queues;
      sound = with-calls mode base body calls sound numbered;
      same_link = refl;
      means = tt;
    }
with-carrier free mode base body context calls r (Some k) o sound numbered writes up e proper at_c =
    let m = carrier-sends base.tables.name_oid body.sets.held body.sets.own context k at_c in
    let item : Item = record { id = k; pair = m.pair; apdu = reject_apdu r } in
    record {
      then_act = Some (SaysValue (item_seen (at mode base) item));
      may =
          record {
            at_once = at-once mode o;
            is_free = is-free-there (at mode base) body up e;
            is_there = found-pair body.sets.held k m.pair m.there;
            is_kept = some-deletes k body.sets.own ∙ m.kept;
            is_writable = writes (item_seen (at mode base) item);
            may_hand_in = refl;
          };
      after = no-queue-after mode (at mode base) body calls o sound.queues;
      sound = with-calls mode base body calls sound numbered;
      same_link = refl;
      means = our-data (at mode base) body item m.there proper tt;
    }

heard-with : (free : Free) (mode : Mode) (base : Base) (body : Body) (context : ℕ) (calls : Calls) (shown : List Indication) (r : Option Rejecting) → AtOnce mode → IsSoundBody mode base body → AreNumberedCalls calls → ((value : model.Value) → free.codec.may_write value ≡ true) → is_up body.link.phase ≡ true → body.link.awaits ≡ NoAnswer → IsProperReject (at mode base) r → HeardWith free mode base body.link (heard_state (at mode base) body calls context r) (on_heard (at mode base) body context (record { calls = calls; shown = shown; reject = r }))
heard-with free mode base body context calls shown None o sound numbered writes up e proper =
    record { then_act = None; may = tt; after = no-queue-after mode (at mode base) body calls o sound.queues; sound = with-calls mode base body calls sound numbered; same_link = refl; means = tt }
heard-with free Reliable base body context calls shown (Some r) o sound numbered writes up e proper = absurd o
heard-with free Bare base body context calls shown (Some r) o sound numbered writes up e proper =
    let w = with-carrier free Bare base body context calls r (carrier_in (at Bare base) body context) o sound numbered writes up e proper refl in
    record { then_act = w.then_act; may = w.may; after = w.after; sound = w.sound; same_link = w.same_link; means = w.means }
heard-with free Direct base body context calls shown (Some r) o sound numbered writes up e proper =
    let w = with-carrier free Direct base body context calls r (carrier_in (at Direct base) body context) o sound numbered writes up e proper refl in
    record { then_act = w.then_act; may = w.may; after = w.after; sound = w.sound; same_link = w.same_link; means = w.means }

append-nil : {X : Type 0} (xs : List X) → xs ++ [] ≡ xs
append-nil [] = refl
append-nil (x ∷ xs) = ap (λ ys. x ∷ ys) (append-nil xs)

data-heard : (free : Free) (mode : Mode) (base : Base) (body : Body) (item : Item) (h : Heard) → AtOnce mode → IsSoundBody mode base body → ((value : model.Value) → free.codec.may_write value ≡ true) → is_up body.link.phase ≡ true → body.link.awaits ≡ NoAnswer → Hears free mode base body.calls item.id item.apdu h → HeardWith free mode base body.link (taken (setup_seen free mode base) (role_seen base.initiator) (seen (at mode base) body) (model_data (item_seen (at mode base) item)) Nothing) (on_heard (at mode base) body item.id h)
data-heard free mode base body item h o sound writes up e is =
    subst (λ s. HeardWith free mode base body.link s (on_heard (at mode base) body item.id h)) (sym (heard-state free mode base (role_seen base.initiator) body item h o sound.queues is))
    (heard-with free mode base body item.id h.calls h.shown h.reject o sound is.numbered writes up e is.proper)

pub bare-heard : HearsIn Bare
bare-heard free base body item writes sound proper back expected kept may =
    let up : is_up body.link.phase ≡ true = ap is_up (up-there body.link.stage body.link.phase may.is_up) in
    let w = data-heard free Bare base body item (hear (at Bare base) body.calls item.id (head_of_apdu item.apdu)) tt sound writes up (calm base.initiator body.link.awaits kept) (hears free Bare base body.calls item.id item.apdu sound.numbered proper back expected) in
    record {
      no_fault = rw up refl;
      then_act = w.then_act;
      may = w.may;
      sound = w.sound;
      link = w.same_link;
      after = w.after;
      means = rw append-nil w.means;
    }

pub direct-heard : HearsIn Direct
direct-heard free base body item writes sound proper back expected kept may =
    let up : is_up body.link.phase ≡ true = ap is_up (up-there body.link.stage body.link.phase may.is_up) in
    let w = data-heard free Direct base body item (hear (at Direct base) body.calls item.id (head_of_apdu item.apdu)) tt sound writes up (calm base.initiator body.link.awaits kept) (hears free Direct base body.calls item.id item.apdu sound.numbered proper back expected) in
    record {
      no_fault = rw up refl;
      then_act = w.then_act;
      may = w.may;
      sound = w.sound;
      link = w.same_link;
      after = w.after;
      means = rw append-nil w.means;
    }
