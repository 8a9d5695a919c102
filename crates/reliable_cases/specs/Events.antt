-- The events of the worked histories.
use Rattle.std.specs.Prelude.{ℕ, zero, suc, List, [], ◌∷◌, ◌++◌, true, false, None}
use Rattle.dialogue.specs.declared.call.Call.TheVariants as the_calls
use Rattle.dialogue.specs.declared.config.Mode.TheVariants.{Reliable}
use Rattle.end_rules.specs.Base.{General, Spellings}
use Rattle.osi_base.specs.SetPlaces.{pair_of}
use Rattle.end_rules.specs.Cases.{calc, config_of, repeated, arrived_on}
use Rattle.agreement.specs.Sets.Role.{Initiator, Responder}
use Rattle.end_model.specs.BothEnds.{Common}
use Rattle.reliable_cases.specs.Played.{Event, Calls, Acts, Takes_, Breaks}

-- plain spellings: an APDU has five octets, and a transfer 2,049, which are three parts at checkpoint 1
abbrev pub plain : Spellings
plain =
    record {
      apdu = λ syntax apdu. 1 ∷ 2 ∷ 3 ∷ 4 ∷ 5 ∷ [];
      head = λ syntax octets. General 1;
      transfer = λ item. repeated 2049 [];
      arrived = λ set octets. arrived_on (pair_of set 5);
    }

-- context 5 of the module in BER; checkpoint 1 and window 2
abbrev pub calc_common : Common
calc_common = record { tables = calc; spellings = plain; mode = Reliable; of_initiator = config_of true Reliable; of_responder = config_of false Reliable }

abbrev pub times : ℕ → List Event → List Event
times zero events = []
times (suc n) events = events ++ times n events

abbrev pub a_takes : List Event
a_takes = Takes_ Initiator ∷ []

abbrev pub b_takes : List Event
b_takes = Takes_ Responder ∷ []

abbrev pub a_acts : List Event
a_acts = Acts Initiator ∷ []

-- CR, CC, CN, AC: of an opening, and of a recovery
abbrev pub four_takings : List Event
four_takings = b_takes ++ a_takes ++ b_takes ++ a_takes

abbrev pub opening : List Event
opening = Calls Initiator the_calls.Open ∷ four_takings

abbrev pub recovery : List Event
recovery = Calls Initiator the_calls.Recover ∷ four_takings

-- an invocation of add, which begins as activity 1: AS, the encoding, two parts with their marks, and the window is full
abbrev pub begun : List Event
begun = opening ++ Calls Initiator (the_calls.Invoke 5 0 None None) ∷ times 6 a_acts

-- both marks are taken, and the first is confirmed
abbrev pub two_marks : List Event
two_marks = begun ++ times 5 b_takes ++ a_takes

-- the last part goes, and the end; all comes, and is confirmed
abbrev pub transferred : List Event
transferred = two_marks ++ a_takes ++ times 2 a_acts ++ times 2 b_takes ++ a_takes

-- the connection breaks before the end: what is on its way is lost, and the transfer goes on behind mark 1
abbrev pub broken : List Event
broken = two_marks ++ Breaks ∷ recovery

abbrev pub resumed : List Event
resumed = broken ++ Calls Initiator the_calls.Resume ∷ times 2 a_acts ++ times 3 b_takes ++ a_takes ++ times 2 a_acts ++ times 2 b_takes ++ a_takes

-- the end is taken, and its confirmation is lost in a break: the end comes again
abbrev pub confirmed_again : List Event
confirmed_again =
    two_marks ++ a_takes ++ times 2 a_acts ++ times 2 b_takes ++ Breaks ∷ recovery ++ Calls Initiator the_calls.Resume ∷ times 2 a_acts ++ times 3 b_takes ++ a_takes

-- the initiator interrupts behind the first two marks, and passes over the confirmation of mark 2; it resumes behind mark 1
abbrev pub interrupted : List Event
interrupted = two_marks ++ Calls Initiator the_calls.Interrupt ∷ b_takes ++ times 2 a_takes

abbrev pub interrupted_resumed : List Event
interrupted_resumed =
    interrupted ++ Calls Initiator the_calls.Resume ∷ times 2 a_acts ++ times 3 b_takes ++ a_takes ++ times 2 a_acts ++ times 2 b_takes ++ a_takes

-- or it discards, and the invocation in the transfer is cut
abbrev pub discarded : List Event
discarded = two_marks ++ Calls Initiator the_calls.Discard ∷ b_takes ++ times 2 a_takes

-- and what is invoked next is transferred as activity 2
abbrev pub next_after_discard : List Event
next_after_discard = discarded ++ Calls Initiator (the_calls.Invoke 5 0 None None) ∷ times 6 a_acts ++ times 5 b_takes ++ times 2 a_takes ++ times 2 a_acts ++ times 2 b_takes ++ a_takes

-- behind a transfer the turn is given, and the responder answers
abbrev pub given : List Event
given = transferred ++ Calls Initiator the_calls.Give ∷ b_takes ++ a_takes

-- a break while the turn is given: it is at the initiator again
abbrev pub broken_giving : List Event
broken_giving = transferred ++ Calls Initiator the_calls.Give ∷ b_takes ++ Breaks ∷ recovery

-- the responder, which hasn't the turn, has an invocation to send
abbrev pub without_turn : List Event
without_turn = opening ++ Calls Responder (the_calls.Invoke 5 0 None None) ∷ []

-- the end of a transfer is sent and not confirmed, and a second invocation waits behind it
abbrev pub end_unconfirmed : List Event
end_unconfirmed = two_marks ++ a_takes ++ times 2 a_acts ++ Calls Initiator (the_calls.Invoke 5 0 None None) ∷ []
