-- Messages of an association in their octets: CR and CC, values in direct mode, an alteration, marks, restarts,
-- tokens, a release and aborts.
use Rattle.std.specs.Prelude.{ℕ, pos, negsuc, List, [], ◌∷◌, refl, true, false, Some, None, codes}
use Rattle.std.proofs.Common.{lit<}
use Rattle.osi_base.specs.declared.syntax.Syntax.{Syntax}
use Rattle.osi_base.specs.declared.syntax.Syntax.TheVariants.{Ber}
use Rattle.osi_base.specs.declared.layer_words.SetItem.{SetItem}
use Rattle.osi_base.specs.declared.layer_words.AddAnswer.{AddAnswer}
use Rattle.osi_base.specs.declared.layer_words.RestoredItem.{RestoredItem}
use Rattle.asn1_types.specs.Value.{integer}
use Rattle.asn1_types.specs.declared.row.TypeRow.TheVariants.{Integer}
use Rattle.osi_base.specs.Syntax.{acse_name}
use Rattle.stub_tables.specs.declared.tables.Tables.{Tables}
use Rattle.stub_tables.specs.declared.operation.Operation.{Operation}
use Rattle.stub_tables.specs.declared.operation.Code.TheVariants.{Local}
use Rattle.stub_tables.specs.declared.apdu.Apdu.TheVariants as apdus
use Rattle.dialogue.specs.declared.config.Mode.TheVariants.{Direct}
use Rattle.end_rules.specs.Base.{Base, base_of, ber_name}
use Rattle.end_rules.specs.Messages.{Remote, Values, AlterContext, AlterContextAck, OfData, Message, Session}
use Rattle.end_rules.specs.Cases.{module_name, packed_name, proposal_of, config_of, plain_spellings}
use Rattle.end_rules.specs.State.{Body, new_body}

-- ---- a module with the operation add of an integer, in direct mode

abbrev pub add : Operation
add =
    record {
      name = codes "add";
      code = Local (pos 1);
      argument = record { inner = Some (record { 0 = 0 }); optional = false };
      result = record { inner = None; optional = false };
      returns = true;
      always = true;
      errors = [];
      linked = [];
    }

abbrev pub calc : Tables
calc =
    record {
      name = codes "Calc";
      name_oid = module_name;
      types = Integer (negsuc 9223372036854775807) (pos 9223372036854775807) ∷ [];
      operations = add ∷ [];
      errors = [];
      few_operations = lit< tt;
      few_errors = lit< tt;
      operation_codes = refl;
      error_codes = refl;
    }

abbrev pub initiator : Base
initiator = base_of calc (config_of true Direct) plain_spellings

abbrev pub in_ber : ℕ → List ℕ → SetItem
in_ber id name = record { id = id; pair = record { abstract_name = name; transfer = Ber } }

-- context 1 for association control, and context 5 for the module
abbrev pub accepted : List SetItem
accepted = in_ber 1 acse_name ∷ in_ber 5 module_name ∷ []

abbrev pub acceptance_with : List ℕ → AddAnswer
acceptance_with transfer = record { result = 0; transfer = Some transfer; reason = None }

abbrev pub restored : List RestoredItem
restored = record { id = 1; transfer = ber_name } ∷ record { id = 5; transfer = ber_name } ∷ []

-- an end that is up with these contexts
abbrev pub up : Body
up = at_link (new_body initiator)
  where
    at_link : Body → Body
    at_link body = record body { link = record body.link { accepted = accepted } }

-- ---- messages

-- add 5 on a context of the module
abbrev pub add_five : ℕ → Syntax → Message
add_five id syntax =
    Session (OfData (Values (record {
      id = id;
      pair = Some (record { abstract_name = module_name; transfer = syntax });
      content = Remote (apdus.Invoke (pos 1) None (Local (pos 1)) (Some (integer (pos 5))));
    } ∷ [])))

abbrev pub addition : Message
addition = Session (OfData (AlterContext (proposal_of 7 packed_name ∷ []) []))

abbrev pub addition_answer : Message
addition_answer = Session (OfData (AlterContextAck (record { added = acceptance_with packed_name ∷ []; deleted = [] })))

abbrev pub deletion : Message
deletion = Session (OfData (AlterContext [] (5 ∷ [])))

abbrev pub deletion_answer : Message
deletion_answer = Session (OfData (AlterContextAck (record { added = []; deleted = 0 ∷ [] })))

-- ---- octets

-- CR
abbrev pub request_octets : List ℕ
request_octets =
    3 ∷ 0 ∷ 0 ∷ 22 ∷ 17 ∷ 224 ∷ 0 ∷ 0 ∷ 0 ∷ 1 ∷ 0 ∷ 192 ∷ 1 ∷ 10 ∷ 193 ∷ 2 ∷ 0 ∷ 1 ∷ 194 ∷ 2 ∷ 0 ∷
    1 ∷ []

-- CC
abbrev pub confirm_octets : List ℕ
confirm_octets =
    3 ∷ 0 ∷ 0 ∷ 14 ∷ 9 ∷ 208 ∷ 0 ∷ 1 ∷ 0 ∷ 2 ∷ 0 ∷ 192 ∷ 1 ∷ 10 ∷ []

-- DR that refuses a CR
abbrev pub refusal_octets : List ℕ
refusal_octets =
    3 ∷ 0 ∷ 0 ∷ 11 ∷ 6 ∷ 128 ∷ 0 ∷ 1 ∷ 0 ∷ 0 ∷ 0 ∷ []

-- FN with RLRQ
abbrev pub finish_octets : List ℕ
finish_octets =
    3 ∷ 0 ∷ 0 ∷ 28 ∷ 2 ∷ 240 ∷ 128 ∷ 9 ∷ 19 ∷ 17 ∷ 1 ∷ 1 ∷ 193 ∷ 14 ∷ 97 ∷ 12 ∷ 48 ∷ 10 ∷ 2 ∷ 1 ∷
    1 ∷ 160 ∷ 5 ∷ 98 ∷ 3 ∷ 128 ∷ 1 ∷ 0 ∷ []

-- DN with RLRE
abbrev pub disconnect_octets : List ℕ
disconnect_octets =
    3 ∷ 0 ∷ 0 ∷ 25 ∷ 2 ∷ 240 ∷ 128 ∷ 10 ∷ 16 ∷ 193 ∷ 14 ∷ 97 ∷ 12 ∷ 48 ∷ 10 ∷ 2 ∷ 1 ∷ 1 ∷ 160 ∷ 5 ∷
    99 ∷ 3 ∷ 128 ∷ 1 ∷ 0 ∷ []

-- AB with ARU and ABRT of the user
abbrev pub user_abort_octets : List ℕ
user_abort_octets =
    3 ∷ 0 ∷ 0 ∷ 30 ∷ 2 ∷ 240 ∷ 128 ∷ 25 ∷ 21 ∷ 17 ∷ 1 ∷ 3 ∷ 193 ∷ 16 ∷ 160 ∷ 14 ∷ 97 ∷ 12 ∷ 48 ∷
    10 ∷ 2 ∷ 1 ∷ 1 ∷ 160 ∷ 5 ∷ 100 ∷ 3 ∷ 128 ∷ 1 ∷ 0 ∷ []

-- AB with ARP 6
abbrev pub provider_abort_octets : List ℕ
provider_abort_octets =
    3 ∷ 0 ∷ 0 ∷ 19 ∷ 2 ∷ 240 ∷ 128 ∷ 25 ∷ 10 ∷ 17 ∷ 1 ∷ 3 ∷ 193 ∷ 5 ∷ 48 ∷ 3 ∷ 128 ∷ 1 ∷ 6 ∷ []

-- AB of the session
abbrev pub session_abort_octets : List ℕ
session_abort_octets =
    3 ∷ 0 ∷ 0 ∷ 12 ∷ 2 ∷ 240 ∷ 128 ∷ 25 ∷ 3 ∷ 17 ∷ 1 ∷ 5 ∷ []

-- DT with an invocation on context 5 in BER
abbrev pub invoke_octets : List ℕ
invoke_octets =
    3 ∷ 0 ∷ 0 ∷ 31 ∷ 2 ∷ 240 ∷ 128 ∷ 1 ∷ 0 ∷ 1 ∷ 0 ∷ 97 ∷ 18 ∷ 48 ∷ 16 ∷ 2 ∷ 1 ∷ 5 ∷ 160 ∷ 11 ∷
    161 ∷ 9 ∷ 2 ∷ 1 ∷ 1 ∷ 2 ∷ 1 ∷ 1 ∷ 2 ∷ 1 ∷ 5 ∷ []

-- the same on context 9 in the packed syntax
abbrev pub packed_invoke_octets : List ℕ
packed_invoke_octets =
    3 ∷ 0 ∷ 0 ∷ 30 ∷ 2 ∷ 240 ∷ 128 ∷ 1 ∷ 0 ∷ 1 ∷ 0 ∷ 97 ∷ 17 ∷ 48 ∷ 15 ∷ 2 ∷ 1 ∷ 9 ∷ 129 ∷ 10 ∷ 1 ∷
    1 ∷ 1 ∷ 0 ∷ 0 ∷ 1 ∷ 1 ∷ 1 ∷ 1 ∷ 5 ∷ []

-- TD with AC that adds context 7
abbrev pub alteration_octets : List ℕ
alteration_octets =
    3 ∷ 0 ∷ 0 ∷ 32 ∷ 2 ∷ 240 ∷ 128 ∷ 33 ∷ 0 ∷ 160 ∷ 21 ∷ 160 ∷ 19 ∷ 48 ∷ 17 ∷ 2 ∷ 1 ∷ 7 ∷ 6 ∷ 4 ∷
    136 ∷ 55 ∷ 7 ∷ 1 ∷ 48 ∷ 6 ∷ 6 ∷ 4 ∷ 136 ∷ 55 ∷ 5 ∷ 1 ∷ []

-- TD with ACA that accepts it
abbrev pub alteration_answer_octets : List ℕ
alteration_answer_octets =
    3 ∷ 0 ∷ 0 ∷ 24 ∷ 2 ∷ 240 ∷ 128 ∷ 33 ∷ 0 ∷ 161 ∷ 13 ∷ 160 ∷ 11 ∷ 48 ∷ 9 ∷ 128 ∷ 1 ∷ 0 ∷ 129 ∷ 4 ∷
    136 ∷ 55 ∷ 5 ∷ 1 ∷ []

-- TD with AC that deletes context 5
abbrev pub deletion_octets : List ℕ
deletion_octets =
    3 ∷ 0 ∷ 0 ∷ 16 ∷ 2 ∷ 240 ∷ 128 ∷ 33 ∷ 0 ∷ 160 ∷ 5 ∷ 161 ∷ 3 ∷ 2 ∷ 1 ∷ 5 ∷ []

-- TD with ACA that accepts it
abbrev pub deletion_answer_octets : List ℕ
deletion_answer_octets =
    3 ∷ 0 ∷ 0 ∷ 16 ∷ 2 ∷ 240 ∷ 128 ∷ 33 ∷ 0 ∷ 161 ∷ 5 ∷ 161 ∷ 3 ∷ 2 ∷ 1 ∷ 0 ∷ []

-- MIP 1
abbrev pub mark_octets : List ℕ
mark_octets =
    3 ∷ 0 ∷ 0 ∷ 14 ∷ 2 ∷ 240 ∷ 128 ∷ 1 ∷ 0 ∷ 49 ∷ 3 ∷ 42 ∷ 1 ∷ 49 ∷ []

-- RS 2 with its list
abbrev pub restart_octets : List ℕ
restart_octets =
    3 ∷ 0 ∷ 0 ∷ 41 ∷ 2 ∷ 240 ∷ 128 ∷ 1 ∷ 0 ∷ 53 ∷ 30 ∷ 27 ∷ 1 ∷ 0 ∷ 42 ∷ 1 ∷ 50 ∷ 193 ∷ 22 ∷ 48 ∷
    20 ∷ 160 ∷ 18 ∷ 48 ∷ 7 ∷ 2 ∷ 1 ∷ 1 ∷ 6 ∷ 2 ∷ 81 ∷ 1 ∷ 48 ∷ 7 ∷ 2 ∷ 1 ∷ 5 ∷ 6 ∷ 2 ∷ 81 ∷ 1 ∷ []

-- RA 2 with its list
abbrev pub restart_answer_octets : List ℕ
restart_answer_octets =
    3 ∷ 0 ∷ 0 ∷ 38 ∷ 2 ∷ 240 ∷ 128 ∷ 1 ∷ 0 ∷ 34 ∷ 27 ∷ 42 ∷ 1 ∷ 50 ∷ 193 ∷ 22 ∷ 48 ∷ 20 ∷ 160 ∷ 18 ∷
    48 ∷ 7 ∷ 2 ∷ 1 ∷ 1 ∷ 6 ∷ 2 ∷ 81 ∷ 1 ∷ 48 ∷ 7 ∷ 2 ∷ 1 ∷ 5 ∷ 6 ∷ 2 ∷ 81 ∷ 1 ∷ []

-- GT
abbrev pub give_octets : List ℕ
give_octets =
    3 ∷ 0 ∷ 0 ∷ 12 ∷ 2 ∷ 240 ∷ 128 ∷ 1 ∷ 3 ∷ 16 ∷ 1 ∷ 4 ∷ []

-- PT
abbrev pub please_octets : List ℕ
please_octets =
    3 ∷ 0 ∷ 0 ∷ 12 ∷ 2 ∷ 240 ∷ 128 ∷ 2 ∷ 3 ∷ 16 ∷ 1 ∷ 4 ∷ []
