-- Marks, restarts and tokens (X.225 7.16 to 7.25; what is restored is this project's own rule).
use Rattle.std.specs.Prelude.{ℕ, List, [], ◌∷◌, ◌++◌, Bool, true, false, not, if◌then◌else◌, Option, Some, None}
use Rattle.std.specs.List.{list_any}
use Rattle.osi_base.specs.declared.layer_words.SetItem.{SetItem}
use Rattle.osi_base.specs.declared.layer_words.RestoredItem.{RestoredItem}
use Rattle.osi_base.specs.declared.layer_words.Layer.TheVariants as layers
use Rattle.dialogue.specs.declared.config.Mode.{Mode}
use Rattle.dialogue.specs.declared.config.Mode.TheVariants.{Bare, Direct, Reliable}
use Rattle.dialogue.specs.declared.indication.Indication.{Indication}
use Rattle.dialogue.specs.declared.indication.Indication.TheVariants as indications
use Rattle.end_rules.specs.Base.{Base, Fault}
use Rattle.end_rules.specs.Sets.{listed, same_lists, below, newest}
use Rattle.end_rules.specs.Messages.{ValueContent, Plea, DataValue, MarkWord, Mark, MarkAck, Restart, RestartAck, Give, Please, GiveConfirm, GiveAck, OfMarks, Message, Session}
use Rattle.end_rules.specs.State.{Body, NoAnswer, Marked, Transfer, on_transfer}
use Rattle.end_rules.specs.TakesData.{is_associated}
use Rattle.end_rules.specs.Faults.{acse_fault, rtse_fault, fault_if, or_fault, cuts, losses}

-- ---- marks

-- a mark that is taken saves the set: in direct mode under its number, in reliable mode in the peer's activity
abbrev pub marked_in : Mode → ℕ → Body → Body
marked_in Reliable number body = record body { receiving = record body.receiving { pieces = Marked number body.sets.held ∷ body.receiving.pieces } }
marked_in Direct number body = record body { saved = record { number = number; set = body.sets.held } ∷ body.saved }
marked_in Bare number body = body

-- it is confirmed in reliable mode, and shown in direct mode
abbrev pub mark_answer : Mode → ℕ → List Message
mark_answer Reliable number = Session (OfMarks (MarkAck number)) ∷ []
mark_answer Direct number = []
mark_answer Bare number = []

abbrev pub mark_shown : Mode → ℕ → List Indication
mark_shown Reliable number = []
mark_shown Direct number = indications.Marked number ∷ []
mark_shown Bare number = []

-- in direct mode a confirmation is passed over
abbrev pub confirmed_in : Mode → ℕ → Body → Body
confirmed_in Reliable number body = on_transfer (λ (t : Transfer). record t { confirmed = number }) body
confirmed_in Direct number body = body
confirmed_in Bare number body = body

-- ---- restarts

-- the set that a restart to n brings back: that of the highest mark below n
abbrev pub restored_set : Body → ℕ → List SetItem
restored_set body n = newest (below n body.saved)

-- a list that is there is the one of the restored set
abbrev pub list_fault : Body → ℕ → Option (List RestoredItem) → Option Fault
list_fault body n None = None
list_fault body n (Some list) =
    if same_lists list (listed (restored_set body n)) then None
    else Some (record { layer = layers.Presentation; place = 0; reason = 6; shown_before = indications.RestoredListDiffers (restored_set body n) list ∷ [] })

-- The marks from n on, own alterations and open invocations are gone, and the token is at the initiator.
abbrev pub restarted : Base → ℕ → Body → Body
restarted base n body =
    record body {
      link = record body.link { turn = base.initiator; awaits = NoAnswer };
      sets = record body.sets { held = restored_set body n; own = [] };
      saved = below n body.saved;
      calls = record body.calls { opens = [] };
    }

abbrev pub shown_restarted : Body → ℕ → List Indication
shown_restarted body n = losses body ++ cuts body ++ indications.Restarted n ∷ []

-- ---- tokens: who takes a giving has none of its own unconfirmed

abbrev pub with_turn : Option ℕ → Body → Body
with_turn None body = body
with_turn (Some tokens) body = record body { link = record body.link { turn = true; gave = false } }

abbrev pub shown_turn : Option ℕ → List Indication
shown_turn None = []
shown_turn (Some tokens) = indications.Turn ∷ []

-- a plea has a priority in reliable mode, where it carries none 0
abbrev pub priority_in : List DataValue → Option ℕ
priority_in [] = Some 0
priority_in (value ∷ []) = plea_in value.content
  where
    plea_in : ValueContent → Option ℕ
    plea_in (Plea priority) = Some priority
    plea_in _ = None
priority_in (value ∷ more ∷ values) = None

abbrev pub is_plea : Option ℕ → Bool
is_plea None = false
is_plea (Some priority) = true

-- values of association control are its fault, and what else is no plea one of reliable transfer
abbrev pub please_fault : Option ℕ → List DataValue → Option Fault
please_fault None values = None
please_fault (Some tokens) values =
    or_fault (fault_if (list_any (λ (v : DataValue). is_associated v.content) values) acse_fault)
    (fault_if (not (is_plea (priority_in values))) rtse_fault)

abbrev pub shown_plea : Option ℕ → List Indication
shown_plea None = []
shown_plea (Some priority) = indications.Asked priority ∷ []

abbrev pub shown_please : Option ℕ → List DataValue → List Indication
shown_please None values = []
shown_please (Some tokens) values = shown_plea (priority_in values)

-- ---- the four answers of a taking

abbrev pub mark_fault : Base → Body → MarkWord → Option Fault
mark_fault base body (Restart number list) = list_fault body number list
mark_fault base body (RestartAck number list) = list_fault body number list
mark_fault base body (Please tokens values) = please_fault tokens values
mark_fault base body _ = None

abbrev pub after_mark : Base → Body → MarkWord → Body
after_mark base body (Mark number) = marked_in base.mode number body
after_mark base body (MarkAck number) = confirmed_in base.mode number body
after_mark base body (Restart number list) = restarted base number body
after_mark base body (RestartAck number list) = restarted base number body
after_mark base body (Give tokens) = with_turn tokens body
after_mark base body (Please tokens values) = body
after_mark base body GiveConfirm = record body { link = record body.link { turn = true; gave = false } }
after_mark base body GiveAck = record body { link = record body.link { gave = false } }

abbrev pub answers_to_mark : Base → Body → MarkWord → List Message
answers_to_mark base body (Mark number) = mark_answer base.mode number
answers_to_mark base body (Restart number list) = Session (OfMarks (RestartAck number (Some (listed (restored_set body number))))) ∷ []
answers_to_mark base body GiveConfirm = Session (OfMarks GiveAck) ∷ []
answers_to_mark base body _ = []

abbrev pub shown_of_mark : Base → Body → MarkWord → List Indication
shown_of_mark base body (Mark number) = mark_shown base.mode number
shown_of_mark base body (MarkAck number) = []
shown_of_mark base body (Restart number list) = shown_restarted body number
shown_of_mark base body (RestartAck number list) = shown_restarted body number
shown_of_mark base body (Give tokens) = shown_turn tokens
shown_of_mark base body (Please tokens values) = shown_please tokens values
shown_of_mark base body GiveConfirm = indications.Turn ∷ []
shown_of_mark base body GiveAck = []
