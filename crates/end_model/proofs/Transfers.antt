-- The own transfer: what is sent of it, and what is confirmed.
use Rattle.std.proofs.Common.{◌≡◌, ℕ, suc, List, [], ◌∷◌, map, refl, ap}
use Rattle.std.specs.Prelude.{Option, Some, None}
use Rattle.osi_base.specs.declared.layer_words.SetItem.{SetItem}
use Rattle.dialogue.specs.declared.config.Mode.TheVariants.{Reliable}
use Rattle.end_rules.specs.Base.{Base}
use Rattle.end_rules.specs.State.{Piece, Octets, Marked, Ending, Suspended, Transfer, Queued, on_current, highest, pieces_of}
use Rattle.end_rules.specs.Messages.{Session, OfData, OfMarks, OfActivities, DataValue, Values, Mark, MarkAck, Start, End, Discard, InterruptAck}
use Rattle.end_rules.specs.Requesting.{begun}
use Rattle.end_rules.specs.TakesData.{parts_in}
use Rattle.agreement.specs.Messages.Act.{Sends, Marks, EndsActivity, Starts, Discards}
use Rattle.agreement.specs.Messages.Choice.{Nothing}
use Rattle.agreement.specs.Messages.Message.{MarkAnswer, InterruptAnswer}
use Rattle.agreement.specs.State as model
use Rattle.agreement.specs.State.Piece.{Octets as model_octets, Marked as model_marked}
use Rattle.agreement.specs.State.Progress.{Ending as model_ending, Suspended as model_suspended}
use Rattle.agreement.specs.State.Awaited.{NoAnswer as model_no_answer, DiscardOf as model_discard}
use Rattle.agreement.specs.Acts.{on_transfer as model_on, started as model_started}
use Rattle.end_model.specs.Seen.{set_seen, piece_seen, queued_seen, current_seen, outgoing_seen, seen}
use Rattle.end_model.specs.Rows.{at, SendsAs, TakesAs}

-- a change of the current transfer that is one of the model's
pub on-current : (base : Base) (change : Transfer → Transfer) (seen_change : model.Transfer → model.Transfer) → ((t : Transfer) → current_seen base (change t) ≡ seen_change (current_seen base t)) → (started : ℕ) (queue : List Queued) (current : Option Transfer) → outgoing_seen base (on_current change (record { started = started; current = current; queue = queue })) ≡ model_on seen_change (outgoing_seen base (record { started = started; current = current; queue = queue }))
on-current base change seen_change h started queue None = refl
on-current base change seen_change h started queue (Some t) =
    let put : model.Transfer → model.Outgoing = λ x. record { started = started; transfer = Some x; queue = map (queued_seen base) queue } in
    ap put (h t)

pub highest-seen : (pieces : List Piece) → highest pieces ≡ model.highest (map piece_seen pieces)
highest-seen [] = refl
highest-seen (Octets octets ∷ pieces) = highest-seen pieces
highest-seen (Marked number set ∷ pieces) = refl

pub part-sent : (values : List DataValue) → SendsAs Reliable (λ body. Session (OfData (Values values))) (λ body. Sends (parts_in values))
part-sent values free base body =
    ap (λ o. record (seen (at Reliable base) body) { outgoing = o })
    (on-current (at Reliable base) (λ t. record t { pieces = Octets (parts_in values) ∷ t.pieces }) (λ t. record t { pieces = model_octets (parts_in values) ∷ t.pieces }) (λ t. refl) body.sending.started body.sending.queue body.sending.current)

pub end-sent : SendsAs Reliable (λ body. Session (OfActivities (End (suc (highest (pieces_of body.sending.current)))))) (λ body. EndsActivity)
end-sent free base body =
    ap (λ o. record (seen (at Reliable base) body) { outgoing = o })
    (on-current (at Reliable base) (λ t. record t { progress = Ending }) (λ t. record t { progress = model_ending }) (λ t. refl) body.sending.started body.sending.queue body.sending.current)

pub discard-sent : SendsAs Reliable (λ body. Session (OfActivities (Discard (Some 0)))) (λ body. Discards)
discard-sent free base body =
    ap (λ o. record (seen (at Reliable base) body) { awaits = model_discard; outgoing = o })
    (on-current (at Reliable base) (λ t. record t { confirmed = 0 }) (λ t. record t { confirmed = 0 }) (λ t. refl) body.sending.started body.sending.queue body.sending.current)

pub mark-confirmed : (number : ℕ) → TakesAs Reliable (OfMarks (MarkAck number)) (MarkAnswer number) Nothing
mark-confirmed number free base body =
    ap (λ o. record (seen (at Reliable base) body) { outgoing = o })
    (on-current (at Reliable base) (λ t. record t { confirmed = number }) (λ t. record t { confirmed = number }) (λ t. refl) body.sending.started body.sending.queue body.sending.current)

pub interrupt-confirmed : TakesAs Reliable (OfActivities InterruptAck) InterruptAnswer Nothing
interrupt-confirmed free base body =
    ap (λ o. record (seen (at Reliable base) body) { awaits = model_no_answer; sets = record { held = set_seen body.sets.inter; inter = set_seen body.sets.inter; own = [] }; outgoing = o })
    (on-current (at Reliable base) (λ t. record t { progress = Suspended }) (λ t. record t { progress = model_suspended }) (λ t. refl) body.sending.started body.sending.queue body.sending.current)

-- a mark of the own activity
marking : (base : Base) (set : List SetItem) (started : ℕ) (queue : List Queued) (current : Option Transfer) → outgoing_seen base (on_current (λ t. record t { pieces = Marked (suc (highest (pieces_of current))) set ∷ t.pieces }) (record { started = started; current = current; queue = queue })) ≡ model_on (λ t. record t { pieces = model_marked (suc (model.highest t.pieces)) (set_seen set) ∷ t.pieces }) (outgoing_seen base (record { started = started; current = current; queue = queue }))
marking base set started queue None = refl
marking base set started queue (Some t) =
    let put : ℕ → model.Outgoing = λ n. record { started = started; transfer = Some (record (current_seen base t) { pieces = model_marked (suc n) (set_seen set) ∷ map piece_seen t.pieces }); queue = map (queued_seen base) queue } in
    ap put (highest-seen t.pieces)

pub mark-in-activity : SendsAs Reliable (λ body. Session (OfMarks (Mark (suc (highest (pieces_of body.sending.current)))))) (λ body. Marks)
mark-in-activity free base body =
    ap (λ o. record (seen (at Reliable base) body) { outgoing = o })
    (marking (at Reliable base) body.sets.held body.sending.started body.sending.queue body.sending.current)

-- the next item becomes the current transfer
begun-seen : (base : Base) (started : ℕ) (queue : List Queued) (current : Option Transfer) → outgoing_seen base (begun (record { started = started; current = current; queue = queue })) ≡ model_started (outgoing_seen base (record { started = started; current = current; queue = queue }))
begun-seen base started [] current = refl
begun-seen base started (item ∷ items) current = refl

pub start-sent : SendsAs Reliable (λ body. Session (OfActivities (Start (suc body.sending.started)))) (λ body. Starts)
start-sent free base body =
    ap (λ o. record (seen (at Reliable base) body) { outgoing = o; sets = record { held = set_seen body.sets.held; inter = set_seen body.sets.held; own = (seen (at Reliable base) body).sets.own } })
    (begun-seen (at Reliable base) body.sending.started body.sending.queue body.sending.current)
