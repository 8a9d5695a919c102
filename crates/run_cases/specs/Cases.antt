-- Worked runs of two ends, message by message: what the definitions compute of their moments.
use Rattle.std.specs.Prelude.{ℕ, zero, suc, pos, List, [], ◌∷◌, ◌++◌, map, true, false, Option, Some, None}
use Rattle.osi_base.specs.declared.layer_words.Side.{Side}
use Rattle.osi_base.specs.declared.layer_words.Side.TheVariants.{A, B}
use Rattle.osi_base.specs.declared.syntax.Pair.{Pair}
use Rattle.dialogue.specs.declared.call.Call.{Call}
use Rattle.dialogue.specs.declared.call.Call.TheVariants as the_calls
use Rattle.dialogue.specs.declared.config.Mode.{Mode}
use Rattle.end_rules.specs.Messages.{Message}
use Rattle.end_rules.specs.ByItself.{OwnAct, next_own}
use Rattle.end_rules.specs.Reacting.{Reaction, Passes, Takes, Fails, react}
use Rattle.end_rules.specs.History.{Step, took, answered, passed, fault, aborted, broke, call_steps, step_of}
use Rattle.end_rules.specs.World.{World, Ends, base_at, body_at}
use Rattle.end_rules.specs.Base.{ber_name}
use Rattle.end_rules.specs.Cases.{base_for, opening, invokes, adds, deletes, Event, CallsA, CallsB, TakesA, TakesB, Breaks}
use Rattle.run_laws.specs.Passing.{PairedMessage, sent_in}

abbrev pub ends_in : Mode → Ends
ends_in mode = record { a = base_for true mode; b = base_for false mode }

-- the moments, and the messages on their way to each end, the oldest first
pub record Play : Type 0 where
  pub world : World
  pub to_a : List Message
  pub to_b : List Message

abbrev pub sending_to : Side → List Message → Play → Play
sending_to A messages play = record play { to_b = play.to_b ++ messages }
sending_to B messages play = record play { to_a = play.to_a ++ messages }

-- a step of one end, with what it sends
abbrev pub stepped : Side → Step → Play → Play
stepped side step play = sending_to side (sent_in step) (record play { world = record { side = side; step = step } ∷ play.world })

abbrev pub all_stepped : Side → List Step → Play → Play
all_stepped side [] play = play
all_stepped side (x ∷ xs) play = all_stepped side xs (stepped side x play)

-- what an end does by itself, at most so many acts
abbrev pub on_act : Option OwnAct → Play → (OwnAct → Play) → Play
on_act None play goes = play
on_act (Some act) play goes = goes act

abbrev pub by_itself : ℕ → Mode → Side → Play → Play
by_itself zero mode side play = play
by_itself (suc n) mode side play =
    on_act (next_own (base_at (ends_in mode) side) (body_at (ends_in mode) side play.world)) play (λ act. by_itself n mode side (stepped side (step_of act) play))

abbrev pub steps_of : Message → Reaction → List Step
steps_of message Passes = passed ∷ []
steps_of message (Takes body answers shown) = took message ∷ map (answered message) answers
steps_of message (Fails fault_ body aborts shown) = fault fault_.layer fault_.place fault_.reason ∷ map aborted aborts

abbrev pub calling : Mode → Side → Call → Play → Play
calling mode side call play = by_itself 9 mode side (all_stepped side (call_steps (base_at (ends_in mode) side) (body_at (ends_in mode) side play.world) call) play)

abbrev pub taking : Mode → Side → Message → Play → Play
taking mode side message play = by_itself 9 mode side (all_stepped side (steps_of message (react (base_at (ends_in mode) side) (body_at (ends_in mode) side play.world) message)) play)

abbrev pub takes_first : Mode → Side → List Message → Play → Play
takes_first mode A [] play = play
takes_first mode B [] play = play
takes_first mode A (message ∷ left) play = taking mode A message (record play { to_a = left })
takes_first mode B (message ∷ left) play = taking mode B message (record play { to_b = left })

abbrev pub after_event : Mode → Play → Event → Play
after_event mode play (CallsA call) = calling mode A call play
after_event mode play (CallsB call) = calling mode B call play
after_event mode play TakesA = takes_first mode A play.to_a play
after_event mode play TakesB = takes_first mode B play.to_b play
after_event mode play Breaks = record { world = record { side = B; step = broke } ∷ record { side = A; step = broke } ∷ play.world; to_a = []; to_b = [] }

abbrev pub played_on : Mode → Play → List Event → Play
played_on mode play [] = play
played_on mode play (event ∷ events) = played_on mode (after_event mode play event) events

abbrev pub world_of : Mode → List Event → World
world_of mode events = (played_on mode (record { world = []; to_a = []; to_b = [] }) events).world

-- what an end read of what the other sent: all of it, each under its pair at the sending
abbrev pub all_read : List PairedMessage → List (Option PairedMessage)
all_read all = map Some all

-- the pairs of all values sent, and of all values read
abbrev pub pairs_sent : List PairedMessage → List (Option Pair)
pairs_sent [] = []
pairs_sent (p ∷ all) = p.pairs ++ pairs_sent all

abbrev pub pairs_read : List (Option PairedMessage) → List (Option Pair)
pairs_read [] = []
pairs_read (None ∷ all) = pairs_read all
pairs_read (Some p ∷ all) = p.pairs ++ pairs_read all

-- an invocation, its result, and a break before the next is taken
abbrev pub answered_once : List Event
answered_once = opening ++ CallsA invokes ∷ TakesB ∷ CallsB (the_calls.Answer (pos 1) None) ∷ TakesA ∷ []

abbrev pub broken_off : List Event
broken_off = answered_once ++ CallsA invokes ∷ Breaks ∷ []

-- context 7 is added
abbrev pub with_context_seven : List Event
with_context_seven = opening ++ CallsA (adds 7 ber_name) ∷ TakesB ∷ TakesA ∷ []

abbrev pub invokes_on : ℕ → Call
invokes_on id = the_calls.Invoke id 0 None None

-- a deletion of context 7 and an invocation on it cross
abbrev pub crossed_deletion : List Event
crossed_deletion = with_context_seven ++ CallsA (deletes 7) ∷ CallsB (invokes_on 7) ∷ TakesA ∷ TakesB ∷ TakesA ∷ []

-- an invocation on context 7 and its result, and the context is deleted behind them
abbrev pub deleted_later : List Event
deleted_later = with_context_seven ++ CallsA (invokes_on 7) ∷ TakesB ∷ CallsB (the_calls.Answer (pos 1) None) ∷ TakesA ∷ CallsA (deletes 7) ∷ TakesB ∷ TakesA ∷ []
