-- Worked messages of direct mode as they are read, and faulty ones.
use Rattle.std.specs.Prelude.{ℕ, pos, List, [], ◌∷◌, length, true, Option, Some, None, Result, Ok, Err}
use Rattle.osi_base.specs.declared.layer_words.SetItem.{SetItem}
use Rattle.dialogue.specs.declared.config.Mode.TheVariants.{Direct}
use Rattle.dialogue.specs.declared.config.Phase.TheVariants.{Up}
use Rattle.asn1_types.specs.Value.{integer}
use Rattle.stub_tables.specs.declared.tables.Tables.{Tables}
use Rattle.stub_tables.specs.declared.apdu.Apdu.TheVariants as apdus
use Rattle.stub_tables.specs.declared.operation.Code.TheVariants.{Local}
use Rattle.association_wire.specs.end_rules.Base.{Base, Fault, base_of}
use Rattle.association_wire.specs.end_rules.Messages.{Remote, OfData, Values, Word, Message, Transport, Session}
use Rattle.association_wire.specs.end_rules.Writing.{acse_pair}
use Rattle.association_wire.specs.end_rules.Cases.{config_of, module_name}
use Rattle.association_wire.specs.end_rules.State.{Body, Carrying, new_body}
use Rattle.association_wire.specs.Cases.{calc, in_ber, accepted}
use Rattle.osi_base.specs.declared.syntax.Syntax.TheVariants.{Packed}
use Rattle.osi_base.specs.Syntax.{acse_name}
use Rattle.association_reading.specs.Front.{Front, Short, OfTransport, OfSession, Faulty, first_in, with_octets, nothing_came}
use Rattle.association_reading.specs.Meaning.{meaning}
use Rattle.association_reading.specs.Transfers.{association_spellings}
use Rattle.association_wire.specs.end_rules.Reacting.{Reaction, Fails}
use Rattle.association_reading.specs.Reacting.{grammar_fault, react_to}

-- an end that is up, with context 1 for association control, and 5 in BER and 9 in the packed syntax for the module
abbrev pub base : Base
base = base_of calc (config_of true Direct) (association_spellings calc)

abbrev pub packed_nine : SetItem
packed_nine = record { id = 9; pair = record { abstract_name = module_name; transfer = Packed } }

abbrev pub with_sets : List SetItem → Body → Body
with_sets set body =
    record body {
      link = record body.link { phase = Up; stage = Carrying; selected = 1066; manages = true; accepted = set };
      sets = record body.sets { held = set };
    }

abbrev pub up : Body
up = with_sets (in_ber 1 (2 ∷ 2 ∷ 1 ∷ 0 ∷ 1 ∷ []) ∷ in_ber 5 module_name ∷ packed_nine ∷ []) (new_body base)

abbrev pub up_without_nine : Body
up_without_nine = with_sets accepted (new_body base)

-- ---- what stands first of these octets, and what it means

abbrev pub session_message : Result Word Fault → Option (Result Message Fault)
session_message (Ok word) = Some (Ok (Session word))
session_message (Err fault) = Some (Err fault)

abbrev pub message_by : Base → Body → Front → Option (Result Message Fault)
message_by own body Short = None
message_by own body (OfTransport unit) = Some (Ok (Transport unit))
message_by own body (OfSession unit start) = session_message (meaning own body unit start)
message_by own body (Faulty layer at) = Some (Err (grammar_fault body layer at))

abbrev pub front_in : List ℕ → Front
front_in octets = first_in (with_octets octets nothing_came)

abbrev pub read_by : Base → Body → List ℕ → Option (Result Message Fault)
read_by own body octets = message_by own body (front_in octets)

abbrev pub read_as : Body → List ℕ → Option (Result Message Fault)
read_as body octets = read_by base body octets

-- an end of a module that has the name of association control, with context 1 for association control, and 5 for the module
abbrev pub namesake : Tables
namesake = record calc { name_oid = acse_name }

abbrev pub namesake_base : Base
namesake_base = base_of namesake (config_of true Direct) (association_spellings namesake)

abbrev pub namesake_up : Body
namesake_up = with_sets (in_ber 1 acse_name ∷ in_ber 5 acse_name ∷ []) (new_body namesake_base)

-- its invocation of the first operation with 5, on context 5
abbrev pub namesake_five : Message
namesake_five =
    Session (OfData (Values (record {
      id = 5;
      pair = Some acse_pair;
      content = Remote (apdus.Invoke (pos 1) None (Local (pos 1)) (Some (integer (pos 5))));
    } ∷ [])))

-- an invocation on context 5 in BER, with the name of the packed syntax
abbrev pub named_invoke_octets : List ℕ
named_invoke_octets =
    3 ∷ 0 ∷ 0 ∷ 37 ∷ 2 ∷ 240 ∷ 128 ∷ 1 ∷ 0 ∷ 1 ∷ 0 ∷ 97 ∷ 24 ∷ 48 ∷ 22 ∷ 6 ∷ 4 ∷ 136 ∷ 55 ∷ 5 ∷
    1 ∷ 2 ∷ 1 ∷ 5 ∷ 160 ∷ 11 ∷ 161 ∷ 9 ∷ 2 ∷ 1 ∷ 1 ∷ 2 ∷ 1 ∷ 1 ∷ 2 ∷ 1 ∷ 5 ∷ []

-- a value on context 5 as bits
abbrev pub bits_octets : List ℕ
bits_octets =
    3 ∷ 0 ∷ 0 ∷ 22 ∷ 2 ∷ 240 ∷ 128 ∷ 1 ∷ 0 ∷ 1 ∷ 0 ∷ 97 ∷ 9 ∷ 48 ∷ 7 ∷ 2 ∷ 1 ∷ 5 ∷ 130 ∷ 2 ∷
    0 ∷ 5 ∷ []

-- one value of BER on context 9, which has the packed syntax
abbrev pub single_packed_octets : List ℕ
single_packed_octets =
    3 ∷ 0 ∷ 0 ∷ 23 ∷ 2 ∷ 240 ∷ 128 ∷ 1 ∷ 0 ∷ 1 ∷ 0 ∷ 97 ∷ 10 ∷ 48 ∷ 8 ∷ 2 ∷ 1 ∷ 9 ∷ 160 ∷ 3 ∷
    2 ∷ 1 ∷ 5 ∷ []

-- DT with an RLRQ on context 1 that has an INTEGER in it
abbrev pub unreadable_acse_octets : List ℕ
unreadable_acse_octets =
    3 ∷ 0 ∷ 0 ∷ 25 ∷ 2 ∷ 240 ∷ 128 ∷ 1 ∷ 0 ∷ 1 ∷ 0 ∷ 97 ∷ 12 ∷ 48 ∷ 10 ∷ 2 ∷ 1 ∷ 1 ∷ 160 ∷ 5 ∷
    98 ∷ 3 ∷ 2 ∷ 1 ∷ 0 ∷ []

-- SI 99
abbrev pub unknown_unit_octets : List ℕ
unknown_unit_octets =
    3 ∷ 0 ∷ 0 ∷ 9 ∷ 2 ∷ 240 ∷ 128 ∷ 99 ∷ 0 ∷ []

-- MIA without a number
abbrev pub bare_confirm_octets : List ℕ
bare_confirm_octets =
    3 ∷ 0 ∷ 0 ∷ 11 ∷ 2 ∷ 240 ∷ 128 ∷ 1 ∷ 0 ∷ 50 ∷ 0 ∷ []

-- TD with a SEQUENCE
abbrev pub unknown_ppdu_octets : List ℕ
unknown_ppdu_octets =
    3 ∷ 0 ∷ 0 ∷ 11 ∷ 2 ∷ 240 ∷ 128 ∷ 33 ∷ 0 ∷ 48 ∷ 0 ∷ []

-- AB with ARP without a reason
abbrev pub bare_arp_octets : List ℕ
bare_arp_octets =
    3 ∷ 0 ∷ 0 ∷ 16 ∷ 2 ∷ 240 ∷ 128 ∷ 25 ∷ 7 ∷ 17 ∷ 1 ∷ 3 ∷ 193 ∷ 2 ∷ 48 ∷ 0 ∷ []

-- a packet of version 4
abbrev pub other_version_octets : List ℕ
other_version_octets =
    4 ∷ 0 ∷ 0 ∷ 7 ∷ 2 ∷ 240 ∷ 128 ∷ []

-- less than a packet
abbrev pub half_octets : List ℕ
half_octets =
    3 ∷ 0 ∷ 0 ∷ 9 ∷ 2 ∷ 240 ∷ 128 ∷ 99 ∷ []

-- MIP 7
abbrev pub seventh_mark_octets : List ℕ
seventh_mark_octets =
    3 ∷ 0 ∷ 0 ∷ 14 ∷ 2 ∷ 240 ∷ 128 ∷ 1 ∷ 0 ∷ 49 ∷ 3 ∷ 42 ∷ 1 ∷ 55 ∷ []

-- GT with the token, and MIP 1 behind it
abbrev pub given_and_marked_octets : List ℕ
given_and_marked_octets =
    3 ∷ 0 ∷ 0 ∷ 17 ∷ 2 ∷ 240 ∷ 128 ∷ 1 ∷ 3 ∷ 16 ∷ 1 ∷ 4 ∷ 49 ∷ 3 ∷ 42 ∷ 1 ∷ 49 ∷ []

-- PT without a token, with user data that are no unit of the presentation, and MIP 1 behind it
abbrev pub pleaded_and_marked_octets : List ℕ
pleaded_and_marked_octets =
    3 ∷ 0 ∷ 0 ∷ 18 ∷ 2 ∷ 240 ∷ 128 ∷ 2 ∷ 4 ∷ 193 ∷ 2 ∷ 48 ∷ 0 ∷ 49 ∷ 3 ∷ 42 ∷ 1 ∷ 49 ∷ []

-- ---- what an end does with them

abbrev pub fault_in : Option Reaction → Option Fault
fault_in (Some (Fails fault body aborts shown)) = Some fault
fault_in reaction = None

abbrev pub fault_of : Body → List ℕ → Option Fault
fault_of body octets = fault_in (react_to base body (front_in octets))

-- how many messages these octets are
abbrev pub how_many : List ℕ → ℕ
how_many octets = length (with_octets octets nothing_came).fronts
