-- What is shown: each carry shows what the messages show that are taken in it, in their order, and nothing else.
use Rattle.std.specs.Prelude.{◌≡◌, List, [], ◌∷◌, ◌++◌, if◌then◌else◌}
use Rattle.osi_base.specs.declared.layer_words.Side.{Side}
use Rattle.dialogue.specs.Sides.{other}
use Rattle.dialogue.specs.declared.event.Entry.{Entry}
use Rattle.dialogue.specs.declared.event.Entry.TheVariants as entries
use Rattle.dialogue.specs.declared.indication.Indication.{Indication}
use Rattle.end_rules.specs.Base.{Base}
use Rattle.end_rules.specs.State.{Body}
use Rattle.end_rules.specs.Reacting.{Reaction, Passes, Takes, Fails, react}
use Rattle.end_rules.specs.History.{Step, fed, took}
use Rattle.end_rules.specs.World.{World, Ends, base_at, body_at, is_side}

-- ---- what the taking of a message shows, by the rules of its end, as the end is then

abbrev pub shown_in : Reaction → List Indication
shown_in Passes = []
shown_in (Takes body answers shown) = shown
shown_in (Fails fault body aborts shown) = shown

abbrev pub shown_at : Base → Body → Step → List Indication
shown_at base body (took message) = shown_in (react base body message)
shown_at base body _ = []

-- ---- each time octets came to an end, what the messages showed that it took behind them; the newest first

abbrev pub behind_newest : List Indication → List (List Indication) → List (List Indication)
behind_newest shown [] = []
behind_newest shown (newest ∷ older) = (newest ++ shown) ∷ older

abbrev pub showing_on : Base → Body → Step → List (List Indication) → List (List Indication)
showing_on base body (fed octets) feeds = [] ∷ feeds
showing_on base body step feeds = behind_newest (shown_at base body step) feeds

abbrev pub showings : Ends → Side → World → List (List Indication)
showings ends side [] = []
showings ends side (m ∷ w) = if is_side side m.side then showing_on (base_at ends side) (body_at ends side w) m.step (showings ends side w) else showings ends side w

-- ---- what carries to an end showed, as the transcript tells it; the newest first

abbrev pub shown_to : Side → Entry → List (List Indication)
shown_to side (entries.Carry from most carried) = if is_side side (other from) then carried.shown ∷ [] else []
shown_to side (entries.Call from call answer) = []
shown_to side entries.Break = []

abbrev pub carries_to : Side → List Entry → List (List Indication)
carries_to side [] = []
carries_to side (e ∷ es) = carries_to side es ++ shown_to side e

abbrev pub EachCarryShows : Ends → List Entry → World → Type 0
EachCarryShows ends told w = (side : Side) → carries_to side told ≡ showings ends side w

-- all that an end was told, the oldest first
abbrev pub indications_in : Side → Entry → List Indication
indications_in side (entries.Carry from most carried) = if is_side side (other from) then carried.shown else []
indications_in side (entries.Call from call answer) = []
indications_in side entries.Break = []

abbrev pub indications_at : Side → List Entry → List Indication
indications_at side [] = []
indications_at side (e ∷ es) = indications_in side e ++ indications_at side es
