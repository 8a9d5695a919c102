-- Items of lists in units of the presentation protocol, and the values that they stand for (X.226 8.2 to 8.4).
use Rattle.std.specs.Prelude.{ℕ, pos, List, [], ◌∷◌, map, Option, Some, None, option_map}
use Rattle.osi_base.specs.declared.layer_words.Proposal as proposals
use Rattle.osi_base.specs.declared.layer_words.AddAnswer as answers
use Rattle.osi_base.specs.declared.layer_words.RestoredItem as restored
use Rattle.asn1_types.specs.Value.{Value, integer, object_id, parts, list}
use Rattle.asn1_types.specs.ValueView.{parts_of, values_of}
use Rattle.fixed_tables.specs.Values.{part_in, small_or, octet_or, arcs_in, maybe_arcs, items_in}

abbrev pub number_value : ℕ → Value
number_value n = integer (pos n)

abbrev pub number_in : Value → ℕ
number_in v = small_or (pos 0) (Some v)

abbrev pub octet_in : Value → ℕ
octet_in v = octet_or (pos 0) (Some v)

abbrev pub name_in : Value → List ℕ
name_in v = arcs_in (Some v)

-- a list, and a list that doesn't stand where it has no items
abbrev pub list_value : {X : Type 0} → (X → Value) → List X → Value
list_value f xs = list (values_of (map f xs))

abbrev pub some_list : {X : Type 0} → (X → Value) → List X → Option Value
some_list f [] = None
some_list f (x ∷ xs) = Some (list_value f (x ∷ xs))

-- a definition: identifier, abstract syntax name, transfer syntax names
abbrev pub definition_value : proposals.Proposal → Value
definition_value p = parts (parts_of (Some (number_value p.id) ∷ Some (object_id p.abstract_name) ∷ Some (list_value object_id p.transfers) ∷ []))

abbrev pub definition_in : Value → proposals.Proposal
definition_in v = record { id = small_or (pos 0) (part_in 0 (Some v)); abstract_name = arcs_in (part_in 1 (Some v)); transfers = map name_in (items_in (part_in 2 (Some v))) }

-- the result of a definition, the transfer syntax name and the provider's reason
abbrev pub answer_value : answers.AddAnswer → Value
answer_value a = parts (parts_of (Some (number_value a.result) ∷ option_map object_id a.transfer ∷ option_map number_value a.reason ∷ []))

abbrev pub answer_in : Value → answers.AddAnswer
answer_in v = record { result = octet_or (pos 0) (part_in 0 (Some v)); transfer = maybe_arcs (part_in 1 (Some v)); reason = option_map octet_in (part_in 2 (Some v)) }

-- a context that is restored: its identifier and its transfer syntax name
abbrev pub restored_value : restored.RestoredItem → Value
restored_value r = parts (parts_of (Some (number_value r.id) ∷ Some (object_id r.transfer) ∷ []))

abbrev pub restored_in : Value → restored.RestoredItem
restored_in v = record { id = small_or (pos 0) (part_in 0 (Some v)); transfer = arcs_in (part_in 1 (Some v)) }
