-- How much is left of what an end does by itself, and that each thing that it does leaves less (X.228 7.3).
use Rattle.std.specs.Prelude.{◌≡◌, ℕ, ◌+◌, ◌*◌, ◌<◌, List, [], ◌∷◌, length, Bool, true, false, Option, Some, None}
use Rattle.association_reading.specs.end_rules.Base.{Base}
use Rattle.osi_base.specs.SetPlaces.{pair_of}
use Rattle.association_reading.specs.end_rules.State.{Body, Transfer, Encoded, Queued, Progress, Running, Ending, Suspended}
use Rattle.association_reading.specs.end_rules.Invoking.{carrier_in}
use Rattle.association_reading.specs.end_rules.ByItself.{OwnAct, ends_in_octets, left_of, item_on, encoded_as, next_own}
use Rattle.association_reading.specs.end_rules.History.{Step, after_step, step_of, ByItself}

-- how many octets an encoding has
abbrev pub encoded_length : Option Encoded → ℕ
encoded_length None = 0
encoded_length (Some e) = length e.octets

-- how many octets an item would have on this context
abbrev pub length_on : Base → Body → Queued → Option ℕ → ℕ
length_on base body item None = 0
length_on base body item (Some context) = encoded_length (encoded_as base body (item_on context item (pair_of body.sets.held context)))

-- on its carrier
abbrev pub length_ahead : Base → Body → Queued → ℕ
length_ahead base body item = length_on base body item (carrier_in base body item.context)

abbrev pub one_if : Bool → ℕ
one_if true = 1
one_if false = 0

-- two for each octet and each mark that isn't sent, and the end
abbrev pub left_in : Base → Body → Transfer → Option Encoded → ℕ
left_in base body t None = 2 * length_ahead base body t.item + 3
left_in base body t (Some e) = 2 * length (left_of t e) + one_if (ends_in_octets t.pieces) + 1

abbrev pub left_running : Base → Body → Transfer → Progress → ℕ
left_running base body t Running = left_in base body t t.encoded
left_running base body t Ending = 0
left_running base body t Suspended = 0

abbrev pub left_queued : Base → Body → List Queued → ℕ
left_queued base body [] = 0
left_queued base body (item ∷ items) = 2 * length_ahead base body item + 4

abbrev pub left_current : Base → Body → Option Transfer → ℕ
left_current base body None = left_queued base body body.sending.queue
left_current base body (Some t) = left_running base body t t.progress

abbrev pub left_to_do : Base → Body → ℕ
left_to_do base body = left_current base body body.sending.current

-- ---- laws

-- Each thing that an end does by itself leaves less to be done.
abbrev pub OwnActsLessen : Type 0
OwnActsLessen = (base : Base) (body : Body) (act : OwnAct) → next_own base body ≡ Some act → left_to_do base (after_step base body (step_of act)) < left_to_do base body

-- So what it does by itself comes to an end.
abbrev pub OwnActsEnd : Type 0
OwnActsEnd = (base : Base) (body : Body) → (steps : List Step) × ByItself base body steps
