-- The values that units which were written are read as: as they were written, with the fields that no part stands for.
use Rattle.std.specs.Prelude.{List, [], ◌∷◌, Option, None, option_map}
use Rattle.osi_base.specs.declared.presentation_word.PresentationConnect as connects
use Rattle.osi_base.specs.declared.presentation_word.PresentationAccept as accepts
use Rattle.osi_base.specs.declared.presentation_word.PresentationReject as rejects
use Rattle.osi_base.specs.declared.presentation_word.PresentationWord as units
use Rattle.osi_base.specs.declared.presentation_word.PresentationWord.TheVariants as unit
use Rattle.asn1_types.specs.Value.{Value, integer, octets, parts, chosen}
use Rattle.asn1_types.specs.ValueView.{parts_of}
use Rattle.fixed_tables.specs.Pdvs.{pdv_value}
use Rattle.fixed_tables.specs.Values.{bits_value}
use Rattle.presentation_pdus.specs.Items.{number_value, list_value, some_list, definition_value, answer_value, restored_value}
use Rattle.presentation_pdus.specs.Words.{with_mode}

abbrev pub connect_read : connects.PresentationConnect → List (Option Value)
connect_read c =
    option_map bits_value c.version ∷ option_map octets c.calling ∷ option_map octets c.called ∷ some_list definition_value c.definitions ∷ None ∷ option_map bits_value c.requirements ∷ option_map bits_value c.session_requirements ∷ some_list pdv_value c.user ∷ []

abbrev pub accept_read : accepts.PresentationAccept → List (Option Value)
accept_read a =
    option_map bits_value a.version ∷ option_map octets a.responding ∷ some_list answer_value a.results ∷ option_map bits_value a.requirements ∷ option_map bits_value a.session_requirements ∷ some_list pdv_value a.user ∷ []

abbrev pub reject_read : rejects.PresentationReject → List (Option Value)
reject_read r =
    option_map bits_value r.version ∷ option_map octets r.responding ∷ some_list answer_value r.results ∷ option_map number_value r.default_result ∷ option_map integer r.reason ∷ some_list pdv_value r.user ∷ []

abbrev pub read_value : units.PresentationWord → Value
read_value (unit.Connect c) = chosen 0 (with_mode (parts (parts_of (connect_read c))))
read_value (unit.Accept a) = chosen 1 (with_mode (parts (parts_of (accept_read a))))
read_value (unit.Reject r) = chosen 2 (parts (parts_of (reject_read r)))
read_value (unit.Alter add delete) = chosen 3 (parts (parts_of (some_list definition_value add ∷ some_list number_value delete ∷ None ∷ [])))
read_value (unit.AlterAck answers) = chosen 4 (parts (parts_of (some_list answer_value answers.added ∷ some_list number_value answers.deleted ∷ None ∷ [])))
read_value (unit.Resynchronize restored) = chosen 5 (parts (parts_of (option_map (list_value restored_value) restored ∷ None ∷ [])))
read_value (unit.ResynchronizeAck restored) = chosen 6 (parts (parts_of (option_map (list_value restored_value) restored ∷ None ∷ [])))
read_value (unit.UserAbort contexts user) = chosen 7 (parts (parts_of (option_map (list_value restored_value) contexts ∷ some_list pdv_value user ∷ [])))
read_value (unit.ProviderAbort reason event) = chosen 8 (parts (parts_of (option_map integer reason ∷ option_map integer event ∷ [])))
read_value (unit.Data user) = chosen 9 (list_value pdv_value user)
