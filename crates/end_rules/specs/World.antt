-- Two ends: the moments of both, and the one set that they share, from what is sent alone.
use Rattle.std.specs.Prelude.{ℕ, zero, suc, List, [], ◌∷◌, Bool, true, false, if◌then◌else◌, Option}
use Rattle.osi_base.specs.declared.layer_words.Side.{Side}
use Rattle.osi_base.specs.declared.layer_words.Side.TheVariants.{A, B}
use Rattle.osi_base.specs.declared.layer_words.SetItem.{SetItem}
use Rattle.osi_base.specs.declared.syntax.Pair.{Pair}
use Rattle.dialogue.specs.declared.config.Mode.{Mode}
use Rattle.dialogue.specs.declared.config.Mode.TheVariants.{Bare, Direct, Reliable}
use Rattle.end_rules.specs.Base.{Base}
use Rattle.end_rules.specs.Sets.{Saved, altered, accepted_set, below, newest}
use Rattle.osi_base.specs.SetPlaces.{pair_of}
use Rattle.end_rules.specs.Messages.{Message, Transport, Session, OfAssociation, OfData, OfMarks, OfActivities, AssociationWord, Connect, Accept, DataWord, AlterContext, AlterContextAck, MarkWord, Mark, RestartAck, ActivityWord, Start, Resume, EndAck, InterruptAck, DiscardAck}
use Rattle.end_rules.specs.State.{Body, first_set, holds_turn}
use Rattle.end_rules.specs.Connecting.{recovers_in}
use Rattle.end_rules.specs.TakesData.{alteration}
use Rattle.end_rules.specs.History.{Step, sent, answered, History, body_of}

-- the two ends' tables and configurations
pub record Ends : Type 0 where
  pub a : Base
  pub b : Base

abbrev pub base_at : Ends → Side → Base
base_at ends A = ends.a
base_at ends B = ends.b

-- a step of one of the two ends
pub record Moment : Type 0 where
  pub side : Side
  pub step : Step

-- the moments of both ends, newest first
abbrev pub World : Type 0
World = List Moment

abbrev pub is_side : Side → Side → Bool
is_side A A = true
is_side A B = false
is_side B A = false
is_side B B = true

-- one end's history, and what it says of its body
abbrev pub history_of : Side → World → History
history_of side [] = []
history_of side (m ∷ w) = if is_side side m.side then m.step ∷ history_of side w else history_of side w

abbrev pub body_at : Ends → Side → World → Body
body_at ends side w = body_of (base_at ends side) (history_of side w)

-- ---- the shared set (X.216 7.2; what is saved and restored is this project's own rule)

-- the set, the inter-activity set, and what was saved: under the numbers of direct mode, and under the marks of
-- each end's last activity
pub record Shared : Type 0 where
  pub set : List SetItem
  pub inter : List SetItem
  pub saved : List Saved
  pub of_a : List Saved
  pub of_b : List Saved

abbrev pub saved_of : Side → Shared → List Saved
saved_of A shared = shared.of_a
saved_of B shared = shared.of_b

abbrev pub saving : Side → List Saved → Shared → Shared
saving A marks shared = record shared { of_a = marks }
saving B marks shared = record shared { of_b = marks }

-- a mark saves the shared set at its sending
abbrev pub shared_marked : Mode → Side → ℕ → Shared → Shared
shared_marked Bare side number shared = shared
shared_marked Direct side number shared = record shared { saved = record { number = number; set = shared.set } ∷ shared.saved }
shared_marked Reliable side number shared = saving side (record { number = number; set = shared.set } ∷ saved_of side shared) shared

-- a resumption from a mark brings back the set of that mark of the sender's activity
abbrev pub shared_resumed : Side → ℕ → Shared → Shared
shared_resumed side zero shared = saving side [] (record shared { inter = shared.set })
shared_resumed side (suc n) shared =
    saving side (below (suc (suc n)) (saved_of side shared))
    (record shared { inter = shared.set; set = newest (below (suc (suc n)) (saved_of side shared)) })

-- what the sending of a request changes
abbrev pub shared_by_mark : Mode → Side → MarkWord → Shared → Shared
shared_by_mark mode side (Mark number) shared = shared_marked mode side number shared
shared_by_mark mode side _ shared = shared

abbrev pub shared_by_activity : Side → ActivityWord → Shared → Shared
shared_by_activity side (Start activity) shared = saving side [] (record shared { inter = shared.set })
shared_by_activity side (Resume activity mark) shared = shared_resumed side mark shared
shared_by_activity side _ shared = shared

abbrev pub shared_sent : Mode → Side → Message → Shared → Shared
shared_sent mode side (Session (OfMarks word)) shared = shared_by_mark mode side word shared
shared_sent mode side (Session (OfActivities word)) shared = shared_by_activity side word shared
shared_sent mode side (Session (OfAssociation word)) shared = shared
shared_sent mode side (Session (OfData word)) shared = shared
shared_sent mode side (Transport unit) shared = shared

-- an acceptance brings the accepted contexts: of an opening all begins anew, of a recovery the marks of
-- activities stay
abbrev pub anew : List SetItem → Shared
anew set = record { set = set; inter = set; saved = record { number = 0; set = set } ∷ []; of_a = []; of_b = [] }

abbrev pub shared_accepted : Bool → List SetItem → Shared → Shared
shared_accepted true set shared = record shared { set = set; inter = set; saved = record { number = 0; set = set } ∷ [] }
shared_accepted false set shared = anew set

-- what the sending of an answer changes, from what it answers and the answer
abbrev pub shared_by_acceptance : Base → AssociationWord → AssociationWord → Shared → Shared
shared_by_acceptance base (Connect session asked values) (Accept parameters given more) shared =
    shared_accepted (recovers_in base values) (accepted_set asked.definitions given.results) shared
shared_by_acceptance base _ _ shared = shared

abbrev pub shared_by_alteration : DataWord → DataWord → Shared → Shared
shared_by_alteration (AlterContext add delete) (AlterContextAck answers) shared =
    record shared { set = altered (alteration add delete) answers shared.set }
shared_by_alteration _ _ shared = shared

abbrev pub shared_by_restart : MarkWord → Shared → Shared
shared_by_restart (RestartAck number list) shared =
    record shared { set = newest (below number shared.saved); saved = below number shared.saved }
shared_by_restart _ shared = shared

abbrev pub shared_by_end : ActivityWord → Shared → Shared
shared_by_end (EndAck number) shared = record shared { set = shared.inter }
shared_by_end InterruptAck shared = record shared { set = shared.inter }
shared_by_end DiscardAck shared = record shared { set = shared.inter }
shared_by_end _ shared = shared

abbrev pub shared_answered : Base → Message → Message → Shared → Shared
shared_answered base (Session (OfAssociation to)) (Session (OfAssociation answer)) shared = shared_by_acceptance base to answer shared
shared_answered base (Session (OfData to)) (Session (OfData answer)) shared = shared_by_alteration to answer shared
shared_answered base to (Session (OfMarks answer)) shared = shared_by_restart answer shared
shared_answered base to (Session (OfActivities answer)) shared = shared_by_end answer shared
shared_answered base to answer shared = shared

abbrev pub shared_after : Base → Side → Step → Shared → Shared
shared_after base side (sent message) shared = shared_sent base.mode side message shared
shared_after base side (answered to answer) shared = shared_answered base to answer shared
shared_after base side _ shared = shared

abbrev pub shared_first : Base → Shared
shared_first base = record { set = first_set base.tables base.mode; inter = []; saved = []; of_a = []; of_b = [] }

-- No end's own set is in it.
abbrev pub shared_at : Ends → World → Shared
shared_at ends [] = shared_first ends.a
shared_at ends (m ∷ w) = shared_after (base_at ends m.side) m.side m.step (shared_at ends w)

-- the pair that the shared set gives an identifier, as a value on it is sent or a transfer is encoded
abbrev pub pair_at_sending : Ends → World → ℕ → Option Pair
pair_at_sending ends w id = pair_of (shared_at ends w).set id

-- a side holds the turn
abbrev pub holds_at : Ends → Side → World → Bool
holds_at ends side w = holds_turn (body_at ends side w)
