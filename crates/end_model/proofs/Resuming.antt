-- Resumptions: how far the pieces of a transfer go back, and which set they bring back.
use Rattle.std.proofs.Common.{◌≡◌, ℕ, zero, suc, List, [], ◌∷◌, map, refl, ap, ◌∙◌, true}
use Rattle.std.specs.Prelude.{nat_eq, if◌then◌else◌, Option, Some, None}
use Rattle.osi_base.specs.declared.layer_words.SetItem.{SetItem}
use Rattle.dialogue.specs.declared.config.Mode.TheVariants.{Reliable}
use Rattle.end_rules.specs.Base.{Base}
use Rattle.end_rules.specs.State.{Piece, Octets, Marked, Progress, Encoded, Transfer, Queued, Receiving, on_current, from_mark, up_to, newest_set, resumed_set, pieces_of, confirmed_of}
use Rattle.end_rules.specs.Messages.{Session, OfActivities, Resume}
use Rattle.end_rules.specs.Requesting.{resumed}
use Rattle.end_rules.specs.TakesActivities.{resumed_record, started_record}
use Rattle.agreement.specs.Messages.Act.{Resumes}
use Rattle.agreement.specs.Messages.Choice.{Nothing}
use Rattle.agreement.specs.Messages.Message.{Resume as model_resume}
use Rattle.agreement.specs.Sets.{ContextSet}
use Rattle.agreement.specs.State as model
use Rattle.agreement.specs.Acts.{on_transfer as model_on, resumed as model_resumed, resumed_set as model_set, confirmed_of as model_confirmed, pieces_of as model_pieces}
use Rattle.agreement.specs.Takings.{resumed_in}
use Rattle.end_model.specs.Seen.{set_seen, piece_seen, queued_seen, current_seen, transfer_seen, incoming_seen, outgoing_seen, seen}
use Rattle.end_model.specs.Rows.{at, SendsAs, TakesAs}
use Rattle.end_model.proofs.Restarts.{if-map}

from_mark-seen : (n : ℕ) (pieces : List Piece) → map piece_seen (from_mark n pieces) ≡ model.from_mark n (map piece_seen pieces)
from_mark-seen n [] = refl
from_mark-seen n (Octets octets ∷ pieces) = from_mark-seen n pieces
from_mark-seen n (Marked m set ∷ pieces) =
    if-map (map piece_seen) (nat_eq m n) (Marked m set ∷ pieces) (from_mark n pieces) ∙
    ap (λ rest. if nat_eq m n then map piece_seen (Marked m set ∷ pieces) else rest) (from_mark-seen n pieces)

up_to-seen : (n : ℕ) (pieces : List Piece) → map piece_seen (up_to n pieces) ≡ model.up_to n (map piece_seen pieces)
up_to-seen zero pieces = refl
up_to-seen (suc n) pieces = from_mark-seen (suc n) pieces

newest_set-seen : (pieces : List Piece) → set_seen (newest_set pieces) ≡ model.newest_set (map piece_seen pieces)
newest_set-seen [] = refl
newest_set-seen (Octets octets ∷ pieces) = newest_set-seen pieces
newest_set-seen (Marked m set ∷ pieces) = refl

pub resumed_set-seen : (mark : ℕ) (pieces : List Piece) (held : List SetItem) → set_seen (resumed_set mark pieces held) ≡ model_set mark (map piece_seen pieces) (set_seen held)
resumed_set-seen zero pieces held = refl
resumed_set-seen (suc n) pieces held = newest_set-seen (up_to (suc n) pieces) ∙ ap model.newest_set (up_to-seen (suc n) pieces)

-- ---- the peer's activity

record-seen : (activity mark : ℕ) (r : Receiving) → incoming_seen (resumed_record activity mark r) ≡ resumed_in activity mark (incoming_seen r)
record-seen activity mark r =
    if-map incoming_seen (nat_eq activity r.last) (record r { pieces = up_to mark r.pieces; active = true }) (started_record activity) ∙
    ap (λ pieces. if nat_eq activity r.last then record (incoming_seen r) { pieces = pieces; active = true } else incoming_seen (started_record activity)) (up_to-seen mark r.pieces)

pub resumption-taken : (activity mark : ℕ) → TakesAs Reliable (OfActivities (Resume activity mark)) (model_resume activity mark) Nothing
resumption-taken activity mark free base body =
    let put : model.Incoming → ContextSet → model.State = λ i held. record (seen (at Reliable base) body) { incoming = i; sets = record { held = held; inter = set_seen body.sets.held; own = (seen (at Reliable base) body).sets.own } } in
    ap (λ i. put i (set_seen (resumed_set mark body.receiving.pieces body.sets.held))) (record-seen activity mark body.receiving) ∙
    ap (λ held. put (resumed_in activity mark (incoming_seen body.receiving)) held) (resumed_set-seen mark body.receiving.pieces body.sets.held)

-- ---- the own transfer

resumed-seen : (base : Base) (item : Queued) (encoded : Option Encoded) (pieces : List Piece) (confirmed : ℕ) (progress : Progress) → current_seen base (resumed (record { item = item; encoded = encoded; pieces = pieces; confirmed = confirmed; progress = progress })) ≡ model_resumed (current_seen base (record { item = item; encoded = encoded; pieces = pieces; confirmed = confirmed; progress = progress }))
resumed-seen base item encoded pieces zero progress = refl
resumed-seen base item encoded pieces (suc n) progress =
    ap (λ ps. record (current_seen base (resumed (record { item = item; encoded = encoded; pieces = pieces; confirmed = suc n; progress = progress }))) { pieces = ps }) (up_to-seen (suc n) pieces)

outgoing-resumed : (base : Base) (started : ℕ) (queue : List Queued) (current : Option Transfer) → outgoing_seen base (on_current resumed (record { started = started; current = current; queue = queue })) ≡ model_on model_resumed (outgoing_seen base (record { started = started; current = current; queue = queue }))
outgoing-resumed base started queue None = refl
outgoing-resumed base started queue (Some t) =
    let put : model.Transfer → model.Outgoing = λ x. record { started = started; transfer = Some x; queue = map (queued_seen base) queue } in
    ap put (resumed-seen base t.item t.encoded t.pieces t.confirmed t.progress)

set-resumed : (base : Base) (current : Option Transfer) (held : List SetItem) → set_seen (resumed_set (confirmed_of current) (pieces_of current) held) ≡ model_set (model_confirmed (transfer_seen base current)) (model_pieces (transfer_seen base current)) (set_seen held)
set-resumed base None held = refl
set-resumed base (Some t) held = resumed_set-seen t.confirmed t.pieces held

pub resumption-sent : SendsAs Reliable (λ body. Session (OfActivities (Resume body.sending.started (confirmed_of body.sending.current)))) (λ body. Resumes)
resumption-sent free base body =
    let put : model.Outgoing → ContextSet → model.State = λ o held. record (seen (at Reliable base) body) { outgoing = o; sets = record { held = held; inter = set_seen body.sets.held; own = (seen (at Reliable base) body).sets.own } } in
    ap (λ o. put o (set_seen (resumed_set (confirmed_of body.sending.current) (pieces_of body.sending.current) body.sets.held))) (outgoing-resumed (at Reliable base) body.sending.started body.sending.queue body.sending.current) ∙
    ap (λ held. put (model_on model_resumed (outgoing_seen (at Reliable base) body.sending)) held) (set-resumed (at Reliable base) body.sending.current body.sets.held)
