-- What the taking of a message shows that is heard without a problem: an invocation, a result or an error (X.880 8).
use Rattle.std.specs.Prelude.{ℕ, ℤ, List, [], ◌∷◌, ◌++◌, Option, Some, None}
use Rattle.asn1_types.specs.declared.value.Val.{Val}
use Rattle.stub_tables.specs.declared.tables.Tables.{Tables}
use Rattle.stub_tables.specs.declared.apdu.Apdu.{Apdu}
use Rattle.stub_tables.specs.declared.apdu.Apdu.TheVariants as apdus
use Rattle.stub_tables.specs.declared.apdu.Returned.{Returned}
use Rattle.stub_tables.specs.Lookup.{operation_with, error_with}
use Rattle.dialogue.specs.declared.indication.Indication.{Indication}
use Rattle.dialogue.specs.declared.indication.Indication.TheVariants as indications
use Rattle.end_rules.specs.Messages.{Message, Session, Word, OfData, DataWord, Values, DataValue, ValueContent, Remote}

abbrev pub value_of : Option Returned → Option Val
value_of None = None
value_of (Some r) = Some r.value

abbrev pub shown_invoke : Option ℕ → ℤ → Option ℤ → Option Val → List Indication
shown_invoke None id linked argument = []
shown_invoke (Some place) id linked argument = indications.Invoked id place linked argument ∷ []

abbrev pub shown_error : Option ℕ → ℤ → Option Val → List Indication
shown_error None id parameter = []
shown_error (Some place) id parameter = indications.Error id place parameter ∷ []

abbrev pub shown_of : Tables → Apdu → List Indication
shown_of tables (apdus.Invoke id linked code argument) = shown_invoke (operation_with tables code) id linked argument
shown_of tables (apdus.Result id returned) = indications.Result id (value_of returned) ∷ []
shown_of tables (apdus.Error id code parameter) = shown_error (error_with tables code) id parameter
shown_of tables (apdus.Reject id problem) = []

-- the APDU of a message of bare mode
abbrev pub apdu_in_content : ValueContent → Option Apdu
apdu_in_content (Remote apdu) = Some apdu
apdu_in_content _ = None

abbrev pub apdu_in_values : List DataValue → Option Apdu
apdu_in_values (v ∷ []) = apdu_in_content v.content
apdu_in_values _ = None

abbrev pub apdu_in_data : DataWord → Option Apdu
apdu_in_data (Values values) = apdu_in_values values
apdu_in_data _ = None

abbrev pub apdu_in_word : Word → Option Apdu
apdu_in_word (OfData word) = apdu_in_data word
apdu_in_word _ = None

abbrev pub apdu_in : Message → Option Apdu
apdu_in (Session word) = apdu_in_word word
apdu_in _ = None

abbrev pub shown_with : Tables → Option Apdu → List Indication
shown_with tables None = []
shown_with tables (Some apdu) = shown_of tables apdu

-- what a message shows, and what messages show, one after the other
abbrev pub shown_by : Tables → Message → List Indication
shown_by tables message = shown_with tables (apdu_in message)

abbrev pub shown_all : Tables → List Message → List Indication
shown_all tables [] = []
shown_all tables (m ∷ ms) = shown_by tables m ++ shown_all tables ms
