-- The unit of the presentation protocol that each word carries (X.226 8.2, 8.3), and its octets.
use Rattle.std.specs.Prelude.{ℕ, pos, List, [], ◌∷◌, Option, Some, None, option_map}
use Rattle.osi_base.specs.declared.presentation_word.PresentationReject.{PresentationReject}
use Rattle.osi_base.specs.declared.presentation_word.PresentationWord.{PresentationWord}
use Rattle.osi_base.specs.declared.presentation_word.PresentationWord.TheVariants as units
use Rattle.stub_tables.specs.declared.tables.Tables.{Tables}
use Rattle.presentation_pdus.specs.Words.{written_ppdu}
use Rattle.end_rules.specs.Messages.{DataValue, AbortData, NoData, ProviderReason, UserValues, AssociationWord, Connect, Accept, Refuse, Finish, Disconnect, Abort, AbortAccept, DataWord, Values, AlterContext, AlterContextAck, MarkWord, Mark, MarkAck, Restart, RestartAck, Give, Please, GiveConfirm, GiveAck, Word, OfAssociation, OfData, OfMarks, OfActivities}
use Rattle.association_wire.specs.Values.{pdvs_of}

-- user data alone; none where there is no value
abbrev pub data_unit : Tables → List DataValue → Option PresentationWord
data_unit tables [] = None
data_unit tables (value ∷ values) = Some (units.Data (pdvs_of tables (value ∷ values)))

abbrev pub reject_unit : Tables → List DataValue → PresentationReject → PresentationWord
reject_unit tables values reject = units.Reject (record reject { user = pdvs_of tables values })

-- what an abort carries: nothing, ARP, or ARU, whose list of contexts isn't written
abbrev pub abort_unit : Tables → AbortData → Option PresentationWord
abort_unit tables NoData = None
abort_unit tables (ProviderReason reason) = Some (units.ProviderAbort (option_map pos reason) None)
abort_unit tables (UserValues values) = Some (units.UserAbort None (pdvs_of tables values))

abbrev pub unit_of_association : Tables → AssociationWord → Option PresentationWord
unit_of_association tables (Connect session presentation values) = Some (units.Connect (record presentation { user = pdvs_of tables values }))
unit_of_association tables (Accept session presentation values) = Some (units.Accept (record presentation { user = pdvs_of tables values }))
unit_of_association tables (Refuse transport reason presentation values) = option_map (reject_unit tables values) presentation
unit_of_association tables (Finish transport values) = data_unit tables values
unit_of_association tables (Disconnect values) = data_unit tables values
unit_of_association tables (Abort transport user) = abort_unit tables user
unit_of_association tables AbortAccept = None

abbrev pub unit_of_data : Tables → DataWord → Option PresentationWord
unit_of_data tables (Values values) = data_unit tables values
unit_of_data tables (AlterContext add delete) = Some (units.Alter add delete)
unit_of_data tables (AlterContextAck answers) = Some (units.AlterAck answers)

abbrev pub unit_of_marks : Tables → MarkWord → Option PresentationWord
unit_of_marks tables (Mark number) = None
unit_of_marks tables (MarkAck number) = None
unit_of_marks tables (Restart number list) = Some (units.Resynchronize list)
unit_of_marks tables (RestartAck number list) = Some (units.ResynchronizeAck list)
unit_of_marks tables (Give tokens) = None
unit_of_marks tables (Please tokens values) = data_unit tables values
unit_of_marks tables GiveConfirm = None
unit_of_marks tables GiveAck = None

abbrev pub presentation_unit : Tables → Word → Option PresentationWord
presentation_unit tables (OfAssociation word) = unit_of_association tables word
presentation_unit tables (OfData word) = unit_of_data tables word
presentation_unit tables (OfMarks word) = unit_of_marks tables word
presentation_unit tables (OfActivities word) = None

-- user data of the session unit that carries it
abbrev pub user_octets : Tables → Word → Option (List ℕ)
user_octets tables word = option_map written_ppdu (presentation_unit tables word)
