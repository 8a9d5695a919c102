-- The units that values stand for (X.226 8.2 to 8.4), and the values that say units. A list that lacks has no items, but in a restart
-- or an abort; a list of no items isn't written.
use Rattle.std.specs.Prelude.{◌==◌, ℕ, ℤ, pos, List, map, Option, Some, option_map, if◌then◌else◌, [], ◌∷◌}
use Rattle.osi_base.specs.declared.layer_words.Proposal as proposals
use Rattle.osi_base.specs.declared.layer_words.AddAnswer as answers
use Rattle.osi_base.specs.declared.layer_words.RestoredItem as restored
use Rattle.osi_base.specs.declared.presentation_word.Pdv as pdvs
use Rattle.osi_base.specs.declared.presentation_word.PresentationConnect as connects
use Rattle.osi_base.specs.declared.presentation_word.PresentationAccept as accepts
use Rattle.osi_base.specs.declared.presentation_word.PresentationReject as rejects
use Rattle.osi_base.specs.declared.presentation_word.PresentationWord as units
use Rattle.osi_base.specs.declared.presentation_word.PresentationWord.TheVariants as unit
use Rattle.asn1_types.specs.Value.{Value, integer, octets, parts}
use Rattle.fixed_tables.specs.Values.{part_in, number_or, maybe_octets, maybe_bits, items_in, alternative, inside, bits_value}
use Rattle.fixed_tables.specs.Pdvs.{pdv_in, pdv_value}
use Rattle.presentation_pdus.specs.Items.{number_in, octet_in, definition_in, answer_in, restored_in, number_value, list_value, some_list, definition_value, answer_value, restored_value}
use Rattle.asn1_types.specs.ValueView.{parts_of}
use Rattle.asn1_types.specs.Writing.{written}
use Rattle.presentation_pdus.specs.Rows.{connect_row, accept_row, reject_row, alter_row, alter_ack_row, restart_row, user_abort_row, provider_abort_row, data_row, ppdu_rows}

abbrev pub integer_in : Value → ℤ
integer_in v = number_or (pos 0) (Some v)

abbrev pub definitions_in : Option Value → List proposals.Proposal
definitions_in v = map definition_in (items_in v)

abbrev pub answers_in : Option Value → List answers.AddAnswer
answers_in v = map answer_in (items_in v)

abbrev pub users_in : Option Value → List pdvs.Pdv
users_in v = map pdv_in (items_in v)

abbrev pub contexts_in : Value → List restored.RestoredItem
contexts_in v = map restored_in (items_in (Some v))

abbrev pub connect_in : Option Value → connects.PresentationConnect
connect_in v = record {
  version = maybe_bits (part_in 0 v);
  calling = maybe_octets (part_in 1 v);
  called = maybe_octets (part_in 2 v);
  definitions = definitions_in (part_in 3 v);
  default_context = maybe_octets (part_in 4 v);
  requirements = maybe_bits (part_in 5 v);
  session_requirements = maybe_bits (part_in 6 v);
  user = users_in (part_in 7 v);
}

abbrev pub accept_in : Option Value → accepts.PresentationAccept
accept_in v = record {
  version = maybe_bits (part_in 0 v);
  responding = maybe_octets (part_in 1 v);
  results = answers_in (part_in 2 v);
  requirements = maybe_bits (part_in 3 v);
  session_requirements = maybe_bits (part_in 4 v);
  user = users_in (part_in 5 v);
}

abbrev pub reject_in : Option Value → rejects.PresentationReject
reject_in v = record {
  version = maybe_bits (part_in 0 v);
  responding = maybe_octets (part_in 1 v);
  results = answers_in (part_in 2 v);
  default_result = option_map octet_in (part_in 3 v);
  reason = option_map integer_in (part_in 4 v);
  user = users_in (part_in 5 v);
}

-- the unit of a number with its value; that of CP and CPA stands behind the mode selector
abbrev pub unit_by : ℕ → Option Value → units.PresentationWord
unit_by which v =
    if which == 0 then unit.Connect (connect_in (part_in 1 v))
    else (if which == 1 then unit.Accept (accept_in (part_in 1 v))
    else (if which == 2 then unit.Reject (reject_in v)
    else (if which == 3 then unit.Alter (definitions_in (part_in 0 v)) (map number_in (items_in (part_in 1 v)))
    else (if which == 4 then unit.AlterAck (record { added = answers_in (part_in 0 v); deleted = map octet_in (items_in (part_in 1 v)) })
    else (if which == 5 then unit.Resynchronize (option_map contexts_in (part_in 0 v))
    else (if which == 6 then unit.ResynchronizeAck (option_map contexts_in (part_in 0 v))
    else (if which == 7 then unit.UserAbort (option_map contexts_in (part_in 0 v)) (users_in (part_in 1 v))
    else (if which == 8 then unit.ProviderAbort (option_map integer_in (part_in 0 v)) (option_map integer_in (part_in 1 v))
    else unit.Data (users_in v)))))))))

abbrev pub unit_in : Value → units.PresentationWord
unit_in v = unit_by (alternative (Some v)) (inside (Some v))

-- normal mode (X.226 8.2.1)
abbrev pub normal_mode : Value
normal_mode = parts (parts_of (Some (integer (pos 1)) ∷ []))

abbrev pub with_mode : Value → Value
with_mode fields = parts (parts_of (Some normal_mode ∷ Some fields ∷ []))

abbrev pub connect_value : connects.PresentationConnect → Value
connect_value c =
    with_mode (parts (parts_of (option_map bits_value c.version ∷ option_map octets c.calling ∷ option_map octets c.called
    ∷ some_list definition_value c.definitions ∷ option_map bits_value c.requirements
    ∷ option_map bits_value c.session_requirements ∷ some_list pdv_value c.user ∷ [])))

abbrev pub accept_value : accepts.PresentationAccept → Value
accept_value a =
    with_mode (parts (parts_of (option_map bits_value a.version ∷ option_map octets a.responding ∷ some_list answer_value a.results
    ∷ option_map bits_value a.requirements ∷ option_map bits_value a.session_requirements ∷ some_list pdv_value a.user ∷ [])))

abbrev pub reject_value : rejects.PresentationReject → Value
reject_value r =
    parts (parts_of (option_map bits_value r.version ∷ option_map octets r.responding ∷ some_list answer_value r.results
    ∷ option_map number_value r.default_result ∷ option_map integer r.reason ∷ some_list pdv_value r.user ∷ []))

-- the row and the value of a unit
abbrev pub row_of : units.PresentationWord → ℕ
row_of (unit.Connect c) = connect_row
row_of (unit.Accept a) = accept_row
row_of (unit.Reject r) = reject_row
row_of (unit.Alter add delete) = alter_row
row_of (unit.AlterAck answers) = alter_ack_row
row_of (unit.Resynchronize restored) = restart_row
row_of (unit.ResynchronizeAck restored) = restart_row
row_of (unit.UserAbort contexts user) = user_abort_row
row_of (unit.ProviderAbort reason event) = provider_abort_row
row_of (unit.Data user) = data_row

abbrev pub value_of : units.PresentationWord → Value
value_of (unit.Connect c) = connect_value c
value_of (unit.Accept a) = accept_value a
value_of (unit.Reject r) = reject_value r
value_of (unit.Alter add delete) = parts (parts_of (some_list definition_value add ∷ some_list number_value delete ∷ []))
value_of (unit.AlterAck answers) = parts (parts_of (some_list answer_value answers.added ∷ some_list number_value answers.deleted ∷ []))
value_of (unit.Resynchronize restored) = parts (parts_of (option_map (list_value restored_value) restored ∷ []))
value_of (unit.ResynchronizeAck restored) = parts (parts_of (option_map (list_value restored_value) restored ∷ []))
value_of (unit.UserAbort contexts user) = parts (parts_of (option_map (list_value restored_value) contexts ∷ some_list pdv_value user ∷ []))
value_of (unit.ProviderAbort reason event) = parts (parts_of (option_map integer reason ∷ option_map integer event ∷ []))
value_of (unit.Data user) = list_value pdv_value user

-- the octets of a unit, in its one spelling
abbrev pub written_ppdu : units.PresentationWord → List ℕ
written_ppdu word = written ppdu_rows (row_of word) (value_of word)
