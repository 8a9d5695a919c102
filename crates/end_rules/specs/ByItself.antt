-- What an end of reliable mode sends by itself: while it leads, all that its transfer in progress gives, and the
-- start of the next item (X.228 7.3).
use Rattle.std.specs.Prelude.{ℕ, zero, suc, ◌-◌, ◌*◌, List, [], ◌∷◌, length, take, drop, Bool, true, false, not, ◌&&◌, nat_lt, nat_le, if◌then◌else◌, Option, Some, None, is_some}
use Rattle.osi_base.specs.declared.syntax.Pair.{Pair}
use Rattle.osi_base.specs.Limits.{last_serial, checkpoint_unit}
use Rattle.end_rules.specs.Base.{Base, Item, is_reliable}
use Rattle.osi_base.specs.SetPlaces.{pair_of}
use Rattle.end_rules.specs.Messages.{Message, Session, OfMarks, OfActivities, Mark, Start, End}
use Rattle.end_rules.specs.State.{Body, Transfer, Encoded, Queued, Piece, Octets, Marked, is_up, is_free, is_empty, is_running, joined, highest, on_transfer}
use Rattle.end_rules.specs.Invoking.{carrier_in}
use Rattle.end_rules.specs.Writing.{part_message}

-- up, with the turn, nothing awaited and no own alteration unanswered
abbrev pub leads : Base → Body → Bool
leads base body =
    is_reliable base.mode && is_up body.link.phase && body.link.turn && is_free body.link.awaits && is_empty body.sets.own

-- what an end does by itself: it sends a message, or encodes the item of its current transfer on a context
pub data OwnAct : Type 0 where
  SendsNow : (message : Message) → OwnAct
  EncodesOn : (context : ℕ) → OwnAct

-- ---- the transfer in progress

-- 1,024 octets for each unit of the checkpoint; without checkpoints all at once (X.228 8.1)
abbrev pub part_size : ℕ → ℕ → ℕ
part_size zero left = left
part_size (suc n) left = suc n * checkpoint_unit

-- the newest piece is octets, behind which a mark stands unless they are the last
abbrev pub ends_in_octets : List Piece → Bool
ends_in_octets [] = false
ends_in_octets (Octets octets ∷ pieces) = true
ends_in_octets (Marked number set ∷ pieces) = false

-- as many marks as the window aren't confirmed
abbrev pub is_window_full : Transfer → Encoded → Bool
is_window_full transfer encoded = nat_le encoded.window (highest transfer.pieces - transfer.confirmed)

abbrev pub next_of : Body → Transfer → Encoded → List ℕ → Option OwnAct
next_of body transfer encoded left =
    if ends_in_octets transfer.pieces && not (is_empty left) then Some (SendsNow (Session (OfMarks (Mark (suc (highest transfer.pieces))))))
    else (if is_window_full transfer encoded then None
    else (if is_empty left then Some (SendsNow (Session (OfActivities (End (suc (highest transfer.pieces))))))
    else Some (SendsNow (part_message body (take (part_size encoded.checkpoint (length left)) left)))))

-- what is left of the octets
abbrev pub left_of : Transfer → Encoded → List ℕ
left_of transfer encoded = drop (length (joined transfer.pieces)) encoded.octets

-- an item is encoded once it has a carrier
abbrev pub encodes_on : Option ℕ → Option OwnAct
encodes_on None = None
encodes_on (Some context) = Some (EncodesOn context)

abbrev pub next_of_encoded : Base → Body → Transfer → Option Encoded → Option OwnAct
next_of_encoded base body transfer None = encodes_on (carrier_in base body transfer.item.context)
next_of_encoded base body transfer (Some encoded) = next_of body transfer encoded (left_of transfer encoded)

-- ---- the next item, where it has a carrier and its number is one

abbrev pub next_start : Base → Body → List Queued → Option OwnAct
next_start base body [] = None
next_start base body (item ∷ items) =
    if is_some (carrier_in base body item.context) && nat_lt body.sending.started last_serial
    then Some (SendsNow (Session (OfActivities (Start (suc body.sending.started)))))
    else None

abbrev pub next_in : Base → Body → Option Transfer → Option OwnAct
next_in base body None = next_start base body body.sending.queue
next_in base body (Some transfer) = if is_running transfer.progress then next_of_encoded base body transfer transfer.encoded else None

-- what the end does next by itself, if anything
abbrev pub next_own : Base → Body → Option OwnAct
next_own base body = if leads base body then next_in base body body.sending.current else None

-- ---- an encoding: under the pair that the held set gives, with the checkpoint and window of this connection

abbrev pub item_on : ℕ → Queued → Option Pair → Option Item
item_on context item None = None
item_on context item (Some pair) = Some (record { id = context; pair = pair; apdu = item.apdu })

abbrev pub encoded_as : Base → Body → Option Item → Option Encoded
encoded_as base body None = None
encoded_as base body (Some item) =
    Some (record { item = item; octets = base.spellings.transfer item; checkpoint = body.link.checkpoint; window = body.link.window })

abbrev pub encoding : Base → ℕ → Body → Body
encoding base context body =
    on_transfer (λ (t : Transfer). record t { encoded = encoded_as base body (item_on context t.item (pair_of body.sets.held context)) }) body
