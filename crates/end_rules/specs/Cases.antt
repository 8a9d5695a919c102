-- Worked histories of one end: what comes and what is called, and what the rules compute of them.
use Rattle.std.specs.Prelude.{ℕ, zero, suc, pos, List, [], ◌∷◌, ◌++◌, refl, Bool, true, false, Option, Some, None, Result, Ok, Err, codes}
use Rattle.std.proofs.Common.{lit<}
use Rattle.osi_base.specs.declared.syntax.Pair.{Pair}
use Rattle.osi_base.specs.declared.syntax.Syntax.TheVariants.{Ber}
use Rattle.osi_base.specs.declared.layer_words.SetItem.{SetItem}
use Rattle.osi_base.specs.declared.layer_words.Proposal.{Proposal}
use Rattle.stub_tables.specs.declared.tables.Tables.{Tables}
use Rattle.stub_tables.specs.declared.operation.Operation.{Operation}
use Rattle.stub_tables.specs.declared.operation.Code.TheVariants.{Local}
use Rattle.stub_tables.specs.declared.apdu.Apdu.{Apdu}
use Rattle.stub_tables.specs.declared.apdu.Apdu.TheVariants as apdus
use Rattle.dialogue.specs.declared.config.Config.{Config}
use Rattle.dialogue.specs.declared.config.Mode.{Mode}
use Rattle.dialogue.specs.declared.config.Mode.TheVariants.{Bare, Direct}
use Rattle.dialogue.specs.declared.call.Call.{Call}
use Rattle.dialogue.specs.declared.call.Call.TheVariants as the_calls
use Rattle.dialogue.specs.declared.indication.Indication.{Indication}
use Rattle.end_rules.specs.Base.{Base, General, Arrived, Whole, Fault, Spellings, base_of, ber_name}
use Rattle.osi_base.specs.SetPlaces.{pair_of}
use Rattle.osi_base.specs.Syntax.{acse_name}
use Rattle.end_rules.specs.Messages.{Remote, Values, RestartAck, OfData, OfMarks, Message, Session}
use Rattle.end_rules.specs.State.{Body, new_body}
use Rattle.end_rules.specs.Invoking.{Reply}
use Rattle.end_rules.specs.Calling.{can_call}
use Rattle.end_rules.specs.Faults.{invalid_ppdu}
use Rattle.end_rules.specs.Requesting.{due_of, after_call, after_sent}
use Rattle.end_rules.specs.ByItself.{OwnAct, SendsNow, EncodesOn, next_own, encoding}
use Rattle.end_rules.specs.Reacting.{Reaction, Passes, Takes, Fails, react}
use Rattle.end_rules.specs.History.{after_broke}

-- ---- a module, and ends of it

abbrev pub operation_named : List ℕ → ℕ → List ℕ → Operation
operation_named name code linked =
    record {
      name = name;
      code = Local (pos code);
      argument = record { inner = None; optional = false };
      result = record { inner = None; optional = false };
      returns = true;
      always = true;
      errors = [];
      linked = linked;
    }

-- add (0), to which ask (1) may be linked
abbrev pub two_operations : List Operation
two_operations = operation_named (codes "add") 1 (1 ∷ []) ∷ operation_named (codes "ask") 3 [] ∷ []

abbrev pub module_name : List ℕ
module_name = 2 ∷ 999 ∷ 7 ∷ 1 ∷ []

abbrev pub packed_name : List ℕ
packed_name = 2 ∷ 999 ∷ 5 ∷ 1 ∷ []

-- plain spellings: an APDU has five octets; a transfer has 1,100, and is the first invocation of add
abbrev pub repeated : ℕ → List ℕ → List ℕ
repeated zero octets = octets
repeated (suc n) octets = repeated n (7 ∷ octets)

abbrev pub first_add : Apdu
first_add = apdus.Invoke (pos 1) None (Local (pos 1)) None

abbrev pub arrived_on : Option Pair → Result Arrived Fault
arrived_on None = Err invalid_ppdu
arrived_on (Some pair) = Ok (Whole (record { id = 5; pair = pair; apdu = first_add }))

abbrev pub plain_spellings : Spellings
plain_spellings =
    record {
      apdu = λ syntax apdu. 1 ∷ 2 ∷ 3 ∷ 4 ∷ 5 ∷ [];
      head = λ syntax octets. General 1;
      transfer = λ item. repeated 1100 [];
      arrived = λ set octets. arrived_on (pair_of set 5);
    }

abbrev pub calc : Tables
calc =
    record {
      name = codes "Calc";
      name_oid = module_name;
      types = [];
      operations = two_operations;
      errors = [];
      few_operations = lit< tt;
      few_errors = lit< tt;
      operation_codes = refl;
      error_codes = refl;
    }

abbrev pub proposal_of : ℕ → List ℕ → Proposal
proposal_of id transfer = record { id = id; abstract_name = module_name; transfers = transfer ∷ [] }

-- context 5 in BER; checkpoints of 1,024 octets, two marks unconfirmed at most
abbrev pub config_of : Bool → Mode → Config
config_of initiator mode =
    record {
      initiator = initiator;
      mode = mode;
      contexts = proposal_of 5 ber_name ∷ [];
      accepts = ber_name ∷ packed_name ∷ [];
      calling = 0 ∷ 1 ∷ [];
      called = 0 ∷ 1 ∷ [];
      reference = codes "ref1";
      common = codes "260101000000Z";
      checkpoint = 1;
      window = 2;
    }

abbrev pub base_for : Bool → Mode → Base
base_for initiator mode = base_of calc (config_of initiator mode) plain_spellings

-- ---- two ends and the messages on their way to each, the oldest first; what each was told, and what calls were answered

pub record Two : Type 0 where
  pub a : Body
  pub b : Body
  pub to_a : List Message
  pub to_b : List Message
  pub told_a : List Indication
  pub told_b : List Indication
  pub replies : List Reply

abbrev pub two_new : Mode → Two
two_new mode =
    record { a = new_body (base_for true mode); b = new_body (base_for false mode); to_a = []; to_b = []; told_a = []; told_b = []; replies = [] }

-- an end with what it sends
pub record Sends : Type 0 where
  pub body : Body
  pub messages : List Message

abbrev pub sending_one : Mode → Sends → Message → Sends
sending_one mode s message = record { body = after_sent mode s.body message; messages = s.messages ++ message ∷ [] }

abbrev pub sending_all : Mode → Sends → List Message → Sends
sending_all mode s [] = s
sending_all mode s (message ∷ messages) = sending_all mode (sending_one mode s message) messages

-- what it sends by itself, at most so many acts
abbrev pub acting : Base → Sends → OwnAct → Sends
acting base s (SendsNow message) = sending_one base.mode s message
acting base s (EncodesOn context) = record s { body = encoding base context s.body }

abbrev pub on_act : Option OwnAct → Sends → (OwnAct → Sends) → Sends
on_act None s goes = s
on_act (Some act) s goes = goes act

abbrev pub going_on : ℕ → Base → Sends → Sends
going_on zero base s = s
going_on (suc n) base s = on_act (next_own base s.body) s (λ act. going_on n base (acting base s act))

-- an event: a call of the initiator (a) or the responder (b), the taking of what comes next to one, a break
pub data Event : Type 0 where
  CallsA : Call → Event
  CallsB : Call → Event
  TakesA : Event
  TakesB : Event
  Breaks : Event

abbrev pub called_by : Base → Body → Call → Reply → Sends
called_by base body call reply =
    going_on 9 base (sending_all base.mode (record { body = after_call base body call reply; messages = [] }) (due_of base body call reply))

abbrev pub reacted : Base → Body → Reaction → Sends
reacted base body Passes = going_on 9 base (record { body = body; messages = [] })
reacted base body (Takes later answers shown) = going_on 9 base (record { body = later; messages = answers })
reacted base body (Fails fault later aborts shown) = record { body = later; messages = aborts }

abbrev pub told_by : Reaction → List Indication
told_by Passes = []
told_by (Takes later answers shown) = shown
told_by (Fails fault later aborts shown) = shown

abbrev pub after_event : Mode → Two → Event → Two
after_event mode two (CallsA call) =
    let reply = can_call (base_for true mode) two.a call in
    let s = called_by (base_for true mode) two.a call reply in
    record two { a = s.body; to_b = two.to_b ++ s.messages; replies = two.replies ++ reply ∷ [] }
after_event mode two (CallsB call) =
    let reply = can_call (base_for false mode) two.b call in
    let s = called_by (base_for false mode) two.b call reply in
    record two { b = s.body; to_a = two.to_a ++ s.messages; replies = two.replies ++ reply ∷ [] }
after_event mode two TakesA = takes_a two.to_a
  where
    takes_a : List Message → Two
    takes_a [] = two
    takes_a (message ∷ messages) =
        let reaction = react (base_for true mode) two.a message in
        let s = reacted (base_for true mode) two.a reaction in
        record two { a = s.body; to_a = messages; to_b = two.to_b ++ s.messages; told_a = two.told_a ++ told_by reaction }
after_event mode two TakesB = takes_b two.to_b
  where
    takes_b : List Message → Two
    takes_b [] = two
    takes_b (message ∷ messages) =
        let reaction = react (base_for false mode) two.b message in
        let s = reacted (base_for false mode) two.b reaction in
        record two { b = s.body; to_b = messages; to_a = two.to_a ++ s.messages; told_b = two.told_b ++ told_by reaction }
after_event mode two Breaks =
    record two { a = after_broke (base_for true mode) two.a; b = after_broke (base_for false mode) two.b; to_a = []; to_b = [] }

abbrev pub played_on : Mode → Two → List Event → Two
played_on mode two [] = two
played_on mode two (event ∷ events) = played_on mode (after_event mode two event) events

abbrev pub played : Mode → List Event → Two
played mode events = played_on mode (two_new mode) events

-- ---- the events

-- CR, CC, CN, AC
abbrev pub opening : List Event
opening = CallsA the_calls.Open ∷ TakesB ∷ TakesA ∷ TakesB ∷ TakesA ∷ []

abbrev pub adds : ℕ → List ℕ → Call
adds id transfer = the_calls.Alter (proposal_of id transfer ∷ []) []

abbrev pub deletes : ℕ → Call
deletes id = the_calls.Alter [] (id ∷ [])

abbrev pub invokes : Call
invokes = the_calls.Invoke 5 0 None None

-- both delete context 5 before either takes the other's alteration
abbrev pub collision : List Event
collision = opening ++ CallsA (deletes 5) ∷ CallsB (deletes 5) ∷ TakesB ∷ TakesA ∷ TakesA ∷ TakesB ∷ []

abbrev pub marked_twice : List Event
marked_twice = opening ++ CallsA the_calls.Mark ∷ TakesB ∷ CallsA the_calls.Mark ∷ TakesB ∷ []

-- restarts to 3 and to 2 cross
abbrev pub crossing_restarts : List Event
crossing_restarts = marked_twice ++ CallsA (the_calls.Resync 3) ∷ CallsB (the_calls.Resync 2) ∷ TakesB ∷ TakesA ∷ TakesB ∷ []

-- context 7 is added, the set is marked, and a restart to that mark brings back the set before
abbrev pub added_and_marked : List Event
added_and_marked = opening ++ CallsA (adds 7 ber_name) ∷ TakesB ∷ TakesA ∷ CallsA the_calls.Mark ∷ TakesB ∷ []

abbrev pub restored : List Event
restored = added_and_marked ++ CallsB (the_calls.Resync 1) ∷ TakesA ∷ TakesB ∷ []

-- four additions in flight, and a restart of the other end
abbrev pub four_lost : List Event
four_lost =
    opening ++ CallsA (adds 7 ber_name) ∷ CallsA (adds 9 ber_name) ∷ CallsA (adds 11 ber_name) ∷ CallsA (adds 13 ber_name) ∷ CallsA (adds 15 ber_name) ∷
    CallsB (the_calls.Resync 1) ∷ TakesA ∷ TakesB ∷ TakesB ∷ TakesB ∷ TakesB ∷ TakesB ∷ []

-- one transfer in two parts: AS, DT, MIP, DT, AE down, MIA and AEA back
abbrev pub transfer : List Event
transfer = opening ++ CallsA invokes ∷ TakesB ∷ TakesB ∷ TakesB ∷ TakesB ∷ TakesB ∷ TakesA ∷ TakesA ∷ []

-- the mark is taken and confirmed, then the connection breaks, and the transfer is resumed from mark 1
abbrev pub recovery : List Event
recovery = CallsA the_calls.Recover ∷ TakesB ∷ TakesA ∷ TakesB ∷ TakesA ∷ []

abbrev pub resumption : List Event
resumption =
    opening ++ CallsA invokes ∷ TakesB ∷ TakesB ∷ TakesB ∷ TakesA ∷ Breaks ∷ (recovery ++ CallsA the_calls.Resume ∷ TakesB ∷ TakesB ∷ TakesB ∷ TakesA ∷ [])

-- in bare mode: an invocation, one that is linked to it, its result, and the same link once more
abbrev pub invokes_bare : Call
invokes_bare = the_calls.Invoke 0 0 None None

abbrev pub asks_linked : Call
asks_linked = the_calls.Invoke 0 1 None (Some (pos 1))

abbrev pub answers_first : Call
answers_first = the_calls.Answer (pos 1) None

abbrev pub linked : List Event
linked =
    CallsA invokes_bare ∷ TakesB ∷ CallsB asks_linked ∷ TakesA ∷ CallsB answers_first ∷ TakesA ∷ CallsB asks_linked ∷ []

-- a result that comes twice, and its reject
abbrev pub answered_again : Two → Two
answered_again two = record two { to_a = data_again ∷ [] }
  where
    data_again : Message
    data_again = Session (OfData (Values (record { id = 0; pair = Some (record { abstract_name = module_name; transfer = Ber }); content = Remote (apdus.Result (pos 1) None) } ∷ [])))

abbrev pub result_twice : Two
result_twice = played_on Bare (answered_again (played Bare (CallsA invokes_bare ∷ TakesB ∷ CallsB answers_first ∷ TakesA ∷ []))) (TakesA ∷ TakesB ∷ [])

-- an RA that nobody asked for
abbrev pub unasked : Two
unasked = played_on Direct (comes (played Direct opening)) (TakesB ∷ TakesA ∷ [])
  where
    comes : Two → Two
    comes two = record two { to_b = Session (OfMarks (RestartAck 1 None)) ∷ [] }

-- the accepted contexts of the opening
abbrev pub in_ber : List ℕ → Pair
in_ber name = record { abstract_name = name; transfer = Ber }

abbrev pub acse_alone : List SetItem
acse_alone = record { id = 1; pair = in_ber acse_name } ∷ []

abbrev pub with_five : List SetItem
with_five = record { id = 1; pair = in_ber acse_name } ∷ record { id = 5; pair = in_ber module_name } ∷ []

abbrev pub with_seven : List SetItem
with_seven = record { id = 1; pair = in_ber acse_name } ∷ record { id = 5; pair = in_ber module_name } ∷ record { id = 7; pair = in_ber module_name } ∷ []
