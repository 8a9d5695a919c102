-- The end of the peer's activity, as it is taken.
use Rattle.std.proofs.Common.{◌≡◌, refl, true, false, ◌∙◌, sym, ap, ℕ, suc, List, [], ◌∷◌, ◌++◌}
use Rattle.std.proofs.Common.{map}
use Rattle.std.specs.Prelude.{Bool, ◌&&◌, Option, Some, None, Ok, nat_eq, if◌then◌else◌}
use Rattle.osi_base.specs.declared.layer_words.Proposal.{Proposal}
use Rattle.dialogue.specs.declared.config.Mode.TheVariants.{Reliable}
use Rattle.dialogue.specs.declared.indication.Indication.{Indication}
use Rattle.end_rules.specs.Base.{Base, Item, Whole}
use Rattle.end_rules.specs.State.{Body, Calls, is_up, highest, joined, between}
use Rattle.end_rules.specs.Messages.{OfActivities, End, value_of_item}
use Rattle.end_rules.specs.Hearing.{Heard, Rejecting, hear, head_of_apdu, on_heard, take_values}
use Rattle.end_rules.specs.Hearing.{reject_apdu}
use Rattle.end_rules.specs.TakesActivities.{received, arrived_now, handed_up, values_arrived}
use Rattle.end_rules.specs.TakesActivities.{fault_in}
use Rattle.agreement.specs.Messages as model
use Rattle.agreement.specs.Messages.Choice.{Nothing}
use Rattle.agreement.specs.Messages.Message.{End as model_end}
use Rattle.agreement.specs.State as states
use Rattle.agreement.specs.Calls.{heard as model_heard}
use Rattle.agreement.specs.Takings.{MayTake, value_read, hears as model_hears}
use Rattle.agreement.specs.Takings.{handed_up as model_handed_up, between as model_between}
use Rattle.end_model.specs.Seen.{Free, role_seen, set_seen, item_seen, apdu_seen, queued_seen}
use Rattle.end_model.specs.Seen.{calls_seen, incoming_seen, seen, setup_seen}
use Rattle.end_model.specs.Rows.{at}
use Rattle.end_model.specs.OpenInvocations.{IsProper, IsReadBack}
use Rattle.end_model.specs.Acting.{IsSoundBody, TakenAs}
use Rattle.end_model.specs.Heard.{IsExpected}
use Rattle.end_model.specs.Takings.{EndsTaken}
use Rattle.end_model.proofs.Marks.{map-snoc}
use Rattle.end_model.proofs.Transfers.{highest-seen}
use Rattle.end_model.proofs.Hears.{Hears, hears, rejects_seen}
use Rattle.end_model.proofs.Takes.{eq-true, up-now, fine}
use Rattle.end_model.proofs.TransferRows.{joined-seen}

-- the record once the end has come
abbrev ended : Body → Body
ended body = received (λ r. record r { was_handed = true; active = false }) body

append-nil : {X : Type 0} (xs : List X) → xs ++ [] ≡ xs
append-nil [] = refl
append-nil (x ∷ xs) = ap (λ ys. x ∷ ys) (append-nil xs)

-- what is heard in reliable mode: its reject joins the queue
heard-so : (base : Base) (body : Body) (context : ℕ) (calls : Calls) (shown : List Indication) (r : Option Rejecting) → seen (at Reliable base) (on_heard (at Reliable base) body context (record { calls = calls; shown = shown; reject = r })).body ≡ record (seen (at Reliable base) body) { calls = calls_seen calls; outgoing = record (seen (at Reliable base) body).outgoing { queue = map (queued_seen (at Reliable base)) body.sending.queue ++ rejects_seen (at Reliable base) context r } }
heard-so base body context calls shown None =
    let put : List states.Handed → states.State = λ q. record (seen (at Reliable base) body) { calls = calls_seen calls; outgoing = record (seen (at Reliable base) body).outgoing { queue = q } } in
    ap put (sym (append-nil (map (queued_seen (at Reliable base)) body.sending.queue)))
heard-so base body context calls shown (Some r) =
    let put : List states.Handed → states.State = λ q. record (seen (at Reliable base) body) { calls = calls_seen calls; outgoing = record (seen (at Reliable base) body).outgoing { queue = q } } in
    ap put (map-snoc (queued_seen (at Reliable base)) body.sending.queue (record { context = context; apdu = reject_apdu r }))

hears-so : (free : Free) (base : Base) (body : Body) (item : Item) (h : Heard) → Hears free Reliable base body.calls item.id item.apdu h → seen (at Reliable base) (on_heard (at Reliable base) body item.id h).body ≡ model_hears (setup_seen free Reliable base) (Some (item_seen (at Reliable base) item)) (seen (at Reliable base) body)
hears-so free base body item h is =
    let put : model.Calls → List states.Handed → states.State = λ calls rejects. record (seen (at Reliable base) body) { calls = calls; outgoing = record (seen (at Reliable base) body).outgoing { queue = map (queued_seen (at Reliable base)) body.sending.queue ++ rejects } } in
    heard-so base body item.id h.calls h.shown h.reject ∙
    ap (λ calls. put calls (rejects_seen (at Reliable base) item.id h.reject)) is.calls_are ∙
    ap (λ rejects. put (model_heard (setup_seen free Reliable base) (calls_seen body.calls) item.id (apdu_seen (at Reliable base) item.apdu)) rejects) is.rejects_are

in-place : (body : Body) (number : ℕ) → is_up body.link.phase ≡ true → body.receiving.active ≡ true → nat_eq number (suc (highest body.receiving.pieces)) ≡ true → ((is_up body.link.phase && body.receiving.active) && nat_eq number (suc (highest body.receiving.pieces))) ≡ true
in-place body number up active next = all (is_up body.link.phase) body.receiving.active (nat_eq number (suc (highest body.receiving.pieces))) up active next
  where
    all : (a b c : Bool) → a ≡ true → b ≡ true → c ≡ true → ((a && b) && c) ≡ true
    all true true c h k l = l
    all true false c h k l = cc
    all false b c h k l = cc

again-taken : (number : ℕ) (free : Free) (base : Base) (proposed : List Proposal) (body : Body) → body.receiving.was_handed ≡ true → MayTake (setup_seen free Reliable base) (role_seen base.initiator) (seen (at Reliable base) body) (model_end number) → TakenAs free Reliable base proposed body (OfActivities (End number)) (model_end number) Nothing
again-taken number free base proposed body handed may =
    let up : is_up body.link.phase ≡ true = up-now (at Reliable base) body may.is_up in
    let next : nat_eq number (suc (highest body.receiving.pieces)) ≡ true = eq-true number (suc (highest body.receiving.pieces)) (may.is_next ∙ sym (ap suc (highest-seen body.receiving.pieces))) in
    let none : handed_up (at Reliable base) body ≡ [] = ap (λ b. if b then [] else values_arrived (arrived_now (at Reliable base) body)) handed in
    let model_none : model_handed_up (setup_seen free Reliable base) (set_seen body.sets.held) (incoming_seen body.receiving) ≡ None = ap (λ b. if b then None else value_read (setup_seen free Reliable base) (set_seen body.sets.held) (incoming_seen body.receiving)) handed in
    record {
      no_fault = fine (at Reliable base) body (OfActivities (End number)) (in-place body number up may.is_active next) (ap (λ b. if b then None else fault_in (arrived_now (at Reliable base) body)) handed);
      chosen = tt;
      after =
          ap (λ hs. seen (at Reliable base) (between (take_values (at Reliable base) (ended body) hs).body)) none ∙
          sym (ap (λ o. model_between (model_hears (setup_seen free Reliable base) o (seen (at Reliable base) (ended body)))) model_none);
      means = (refl, tt);
    }

whole-taken : (number : ℕ) (item : Item) (free : Free) (base : Base) (proposed : List Proposal) (body : Body) → IsSoundBody Reliable base body → body.receiving.was_handed ≡ false → base.spellings.arrived body.sets.held (joined body.receiving.pieces) ≡ Ok (Whole item) → free.codec.read (set_seen body.sets.held) (joined body.receiving.pieces) ≡ Some (item_seen (at Reliable base) item) → IsProper (at Reliable base) item.apdu → IsReadBack (at Reliable base) item.apdu → IsExpected (setup_seen free Reliable base) (calls_seen body.calls) (apdu_seen (at Reliable base) item.apdu) → MayTake (setup_seen free Reliable base) (role_seen base.initiator) (seen (at Reliable base) body) (model_end number) → TakenAs free Reliable base proposed body (OfActivities (End number)) (model_end number) Nothing
whole-taken number item free base proposed body sound handed arrived read proper back expected may =
    let up : is_up body.link.phase ≡ true = up-now (at Reliable base) body may.is_up in
    let next : nat_eq number (suc (highest body.receiving.pieces)) ≡ true = eq-true number (suc (highest body.receiving.pieces)) (may.is_next ∙ sym (ap suc (highest-seen body.receiving.pieces))) in
    let one : handed_up (at Reliable base) body ≡ value_of_item item ∷ [] = ap (λ b. if b then [] else values_arrived (arrived_now (at Reliable base) body)) handed ∙ ap values_arrived arrived in
    let model_one : model_handed_up (setup_seen free Reliable base) (set_seen body.sets.held) (incoming_seen body.receiving) ≡ Some (item_seen (at Reliable base) item) =
    ap (λ b. if b then None else value_read (setup_seen free Reliable base) (set_seen body.sets.held) (incoming_seen body.receiving)) handed ∙
    ap (free.codec.read (set_seen body.sets.held)) (joined-seen body.receiving.pieces) ∙ read in
    let heard_ : Heard = hear (at Reliable base) body.calls item.id (head_of_apdu item.apdu) in
    record {
      no_fault = fine (at Reliable base) body (OfActivities (End number)) (in-place body number up may.is_active next) (ap (λ b. if b then None else fault_in (arrived_now (at Reliable base) body)) handed ∙ ap fault_in arrived);
      chosen = tt;
      after =
          ap (λ hs. seen (at Reliable base) (between (take_values (at Reliable base) (ended body) hs).body)) one ∙
          ap model_between (hears-so free base (ended body) item heard_ (hears free Reliable base body.calls item.id item.apdu sound.numbered proper back expected)) ∙
          sym (ap (λ o. model_between (model_hears (setup_seen free Reliable base) o (seen (at Reliable base) (ended body)))) model_one);
      means = (refl, tt);
    }

pub ends-taken : EndsTaken
ends-taken = record { again = again-taken; whole = whole-taken }
