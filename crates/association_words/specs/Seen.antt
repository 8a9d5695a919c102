-- The values of this crate as the rules of one end speak of them: word for word the same. They say nothing of the places in tables at which codes were found.
use Rattle.std.specs.Prelude.{List, map, option_map}
use Rattle.end_rules.specs.Base as rules
use Rattle.end_rules.specs.Messages as meant
use Rattle.association_words.specs.declared.faults.Fault.{Fault}
use Rattle.association_words.specs.declared.values.Information.{Information}
use Rattle.association_words.specs.declared.values.Information.TheVariants.{Transferring, Other}
use Rattle.association_words.specs.declared.values.ValueContent.{ValueContent}
use Rattle.association_words.specs.declared.values.ValueContent.TheVariants.{Remote, Unread, Association, Plea, Part}
use Rattle.association_words.specs.declared.values.Value.{Value}
use Rattle.association_words.specs.declared.values.TransferItem.{TransferItem}
use Rattle.association_words.specs.declared.values.Arrived.{Arrived}
use Rattle.association_words.specs.declared.values.Arrived.TheVariants.{Whole, Raw}
use Rattle.association_words.specs.declared.words.TransportUnit.{TransportUnit}
use Rattle.association_words.specs.declared.words.TransportUnit.TheVariants.{ConnectionRequest, ConnectionConfirm, DisconnectRequest, TransportError}
use Rattle.association_words.specs.declared.words.Accepting.{Accepting}
use Rattle.association_words.specs.declared.words.AbortData.{AbortData}
use Rattle.association_words.specs.declared.words.AbortData.TheVariants.{NoData, ProviderReason, UserValues}
use Rattle.association_words.specs.declared.words.AssociationWord.{AssociationWord}
use Rattle.association_words.specs.declared.words.AssociationWord.TheVariants.{Connect, Accept, Refuse, Finish, Disconnect, Abort, AbortAccept}
use Rattle.association_words.specs.declared.words.DataWord.{DataWord}
use Rattle.association_words.specs.declared.words.DataWord.TheVariants.{Values, AlterContext, AlterContextAck}
use Rattle.association_words.specs.declared.words.MarkWord.{MarkWord}
use Rattle.association_words.specs.declared.words.MarkWord.TheVariants.{Mark, MarkAck, Restart, RestartAck, Give, Please, GiveConfirm, GiveAck}
use Rattle.association_words.specs.declared.words.ActivityWord.{ActivityWord}
use Rattle.association_words.specs.declared.words.ActivityWord.TheVariants.{Start, Resume, End, EndAck, Interrupt, InterruptAck, Discard, DiscardAck}
use Rattle.association_words.specs.declared.words.Word.{Word}
use Rattle.association_words.specs.declared.words.Word.TheVariants.{OfAssociation, OfData, OfMarks, OfActivities}
use Rattle.association_words.specs.declared.words.Message.{Message}
use Rattle.association_words.specs.declared.words.Message.TheVariants.{Transport, Session}

-- ---- values

abbrev pub seen_information : Information → meant.Information
seen_information (Transferring id apdu) = meant.Transferring id apdu
seen_information (Other id octets) = meant.Other id octets

abbrev pub seen_content : ValueContent → meant.ValueContent
seen_content (Remote apdu place) = meant.Remote apdu
seen_content (Unread octets) = meant.Unread octets
seen_content (Association apdu user) = meant.Association apdu (map seen_information user)
seen_content (Plea priority) = meant.Plea priority
seen_content (Part octets) = meant.Part octets

abbrev pub seen_value : Value → meant.DataValue
seen_value value = record { id = value.id; pair = value.pair; content = seen_content value.content }

abbrev pub seen_values : List Value → List meant.DataValue
seen_values values = map seen_value values

abbrev pub seen_item : TransferItem → rules.Item
seen_item item = record { id = item.id; pair = item.pair; apdu = item.apdu }

abbrev pub seen_arrived : Arrived → rules.Arrived
seen_arrived (Whole item place) = rules.Whole (seen_item item)
seen_arrived (Raw id pair octets) = rules.Raw id pair octets

-- ---- faults

abbrev pub seen_fault : Fault → rules.Fault
seen_fault fault = record { layer = fault.layer; place = fault.place; reason = fault.reason; shown_before = fault.shown_before }

-- ---- messages

abbrev pub seen_transport : TransportUnit → meant.TransportUnit
seen_transport (ConnectionRequest source size calling called) = meant.ConnectionRequest source size calling called
seen_transport (ConnectionConfirm destination size) = meant.ConnectionConfirm destination size
seen_transport (DisconnectRequest destination) = meant.DisconnectRequest destination
seen_transport TransportError = meant.TransportError

abbrev pub seen_accepting : Accepting → meant.Accepting
seen_accepting a = record { options = a.options; version = a.version; initial = a.initial; requirements = a.requirements }

abbrev pub seen_abort : AbortData → meant.AbortData
seen_abort NoData = meant.NoData
seen_abort (ProviderReason reason) = meant.ProviderReason (option_map meant.natural reason)
seen_abort (UserValues values) = meant.UserValues (seen_values values)

abbrev pub seen_association : AssociationWord → meant.AssociationWord
seen_association (Connect session presentation values) = meant.Connect session presentation (seen_values values)
seen_association (Accept session presentation values) = meant.Accept (seen_accepting session) presentation (seen_values values)
seen_association (Refuse transport reason presentation values) = meant.Refuse transport reason presentation (seen_values values)
seen_association (Finish transport values) = meant.Finish transport (seen_values values)
seen_association (Disconnect values) = meant.Disconnect (seen_values values)
seen_association (Abort transport user) = meant.Abort transport (seen_abort user)
seen_association AbortAccept = meant.AbortAccept

abbrev pub seen_data : DataWord → meant.DataWord
seen_data (Values values) = meant.Values (seen_values values)
seen_data (AlterContext add delete) = meant.AlterContext add delete
seen_data (AlterContextAck answers) = meant.AlterContextAck answers

abbrev pub seen_marks : MarkWord → meant.MarkWord
seen_marks (Mark number) = meant.Mark number
seen_marks (MarkAck number) = meant.MarkAck number
seen_marks (Restart number list) = meant.Restart number list
seen_marks (RestartAck number list) = meant.RestartAck number list
seen_marks (Give tokens) = meant.Give tokens
seen_marks (Please tokens values) = meant.Please tokens (seen_values values)
seen_marks GiveConfirm = meant.GiveConfirm
seen_marks GiveAck = meant.GiveAck

abbrev pub seen_activities : ActivityWord → meant.ActivityWord
seen_activities (Start activity) = meant.Start activity
seen_activities (Resume activity mark) = meant.Resume activity mark
seen_activities (End number) = meant.End number
seen_activities (EndAck number) = meant.EndAck number
seen_activities (Interrupt reason) = meant.Interrupt reason
seen_activities InterruptAck = meant.InterruptAck
seen_activities (Discard reason) = meant.Discard reason
seen_activities DiscardAck = meant.DiscardAck

abbrev pub seen_word : Word → meant.Word
seen_word (OfAssociation word) = meant.OfAssociation (seen_association word)
seen_word (OfData word) = meant.OfData (seen_data word)
seen_word (OfMarks word) = meant.OfMarks (seen_marks word)
seen_word (OfActivities word) = meant.OfActivities (seen_activities word)

abbrev pub seen_message : Message → meant.Message
seen_message (Transport unit) = meant.Transport (seen_transport unit)
seen_message (Session word) = meant.Session (seen_word word)
