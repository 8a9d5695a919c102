-- Words step by step, as the code reads them. No public clause cites this module.
use Rattle.std.specs.Prelude.{ℕ, List, [], Option, Some, None, option_map, Result, Ok, Err}
use Rattle.osi_base.specs.declared.layer_words.SetItem.{SetItem}
use Rattle.osi_base.specs.declared.session_word.SessionConnect.{SessionConnect}
use Rattle.osi_base.specs.declared.session_word.SessionWord.{SessionWord}
use Rattle.osi_base.specs.declared.session_word.SessionWord.TheVariants as units
use Rattle.osi_base.specs.declared.presentation_word.Pdv.{Pdv}
use Rattle.osi_base.specs.declared.presentation_word.PresentationConnect.{PresentationConnect}
use Rattle.osi_base.specs.declared.presentation_word.PresentationAccept.{PresentationAccept}
use Rattle.osi_base.specs.declared.presentation_word.PresentationReject.{PresentationReject}
use Rattle.osi_base.specs.declared.presentation_word.PresentationWord.{PresentationWord}
use Rattle.osi_base.specs.declared.presentation_word.PresentationWord.TheVariants as pdus
use Rattle.presentation_pdus.specs.declared.place.PpduPlace.{PpduPlace}
use Rattle.presentation_pdus.specs.declared.place.PpduPlace.TheVariants as place
use Rattle.presentation_pdus.specs.declared.place.PpduFault.{PpduFault}
use Rattle.presentation_pdus.specs.Units.{ppdu_at}
use Rattle.stub_tables.specs.declared.tables.Tables.{Tables}
use Rattle.end_rules.specs.Base.{Base, Fault}
use Rattle.end_rules.specs.Faults.{invalid_ppdu}
use Rattle.end_rules.specs.Messages.{DataValue, Accepting, AbortData, NoData, ProviderReason, UserValues, Word, OfAssociation, Connect, Accept, Refuse, Finish, Disconnect, Abort, AbortAccept, OfData, Values, OfMarks, Mark, MarkAck, Restart, RestartAck, Give, Please, GiveConfirm, GiveAck, OfActivities, Start, Resume, End, EndAck, Interrupt, InterruptAck, Discard, DiscardAck, natural}
use Rattle.association_intake.specs.association_reading.declared.layer_of_values.LayerOfValues.{LayerOfValues}
use Rattle.association_intake.specs.association_reading.declared.layer_of_values.LayerOfValues.TheVariants as carriage
use Rattle.association_intake.specs.association_reading.Places.{PdvPlaces, pdv_places}
use Rattle.association_intake.specs.association_reading.Values.{values_under}
use Rattle.association_intake.specs.association_reading.Association.{connect_values, accept_values, refuse_values, abort_values}
use Rattle.association_intake.specs.association_reading.Meaning.{with_values, typed_meaning, restart_meaning, restart_ack_meaning, carried_by_data, accepting}
use Rattle.association_meaning.specs.Steps.{read_unit}

-- ---- units of the presentation of one kind

abbrev pub connect_of : Result PresentationWord Fault → Result PresentationConnect Fault
connect_of (Ok (pdus.Connect p)) = Ok p
connect_of (Ok _) = Err invalid_ppdu
connect_of (Err fault) = Err fault

abbrev pub connect_in : ℕ → Result PresentationWord PpduFault → Result PresentationConnect Fault
connect_in start read = connect_of (read_unit start read)

abbrev pub accept_of : Result PresentationWord Fault → Result PresentationAccept Fault
accept_of (Ok (pdus.Accept p)) = Ok p
accept_of (Ok _) = Err invalid_ppdu
accept_of (Err fault) = Err fault

abbrev pub accept_in : ℕ → Result PresentationWord PpduFault → Result PresentationAccept Fault
accept_in start read = accept_of (read_unit start read)

abbrev pub reject_of : Result PresentationWord Fault → Result PresentationReject Fault
reject_of (Ok (pdus.Reject p)) = Ok p
reject_of (Ok _) = Err invalid_ppdu
reject_of (Err fault) = Err fault

abbrev pub reject_in : ℕ → Result PresentationWord PpduFault → Result PresentationReject Fault
reject_in start read = reject_of (read_unit start read)

abbrev pub data_of : Result PresentationWord Fault → Result (List Pdv) Fault
data_of (Ok (pdus.Data pdvs)) = Ok pdvs
data_of (Ok _) = Err invalid_ppdu
data_of (Err fault) = Err fault

abbrev pub data_in : ℕ → Result PresentationWord PpduFault → Result (List Pdv) Fault
data_in start read = data_of (read_unit start read)

-- ---- openings, refusals, releases and aborts

abbrev pub connected : Base → SessionConnect → ℕ → Result PresentationConnect Fault → Result Word Fault
connected base session start (Err fault) = Err fault
connected base session start (Ok p) =
    with_values (λ values. OfAssociation (Connect (record session { user = [] }) (record p { user = [] }) values))
    (connect_values base p (pdv_places place.Cn start session.user))

abbrev pub accepted : Base → Accepting → ℕ → List ℕ → Result PresentationAccept Fault → Result Word Fault
accepted base session start user (Err fault) = Err fault
accepted base session start user (Ok p) =
    with_values (λ values. OfAssociation (Accept session (record p { user = [] }) values))
    (accept_values base p (pdv_places place.Ac start user))

abbrev pub refused : Base → Option ℕ → Option ℕ → ℕ → List ℕ → Result PresentationReject Fault → Result Word Fault
refused base transport reason start user (Err fault) = Err fault
refused base transport reason start user (Ok p) =
    with_values (λ values. OfAssociation (Refuse transport reason (Some (record p { user = [] })) values))
    (refuse_values base p (pdv_places place.Rf start user))

abbrev pub refused_with : Base → Option ℕ → Option ℕ → ℕ → Option (List ℕ) → Result Word Fault
refused_with base transport reason start None = Ok (OfAssociation (Refuse transport reason None []))
refused_with base transport reason start (Some user) = refused base transport reason start user (reject_in start (ppdu_at place.Rf user))

abbrev pub as_values : Result (List DataValue) Fault → Result AbortData Fault
as_values (Ok values) = Ok (UserValues values)
as_values (Err fault) = Err fault

abbrev pub user_abort : Base → List SetItem → List PdvPlaces → List Pdv → Result AbortData Fault
user_abort base set places pdvs = as_values (abort_values base set places pdvs)

abbrev pub abort_of : Base → List SetItem → List PdvPlaces → Result PresentationWord Fault → Result AbortData Fault
abort_of base set places (Ok (pdus.UserAbort contexts pdvs)) = user_abort base set places pdvs
abort_of base set places (Ok (pdus.ProviderAbort reason event)) = Ok (ProviderReason (option_map natural reason))
abort_of base set places (Ok _) = Err invalid_ppdu
abort_of base set places (Err fault) = Err fault

abbrev pub abort_in : Base → List SetItem → ℕ → List ℕ → PpduPlace → Result PresentationWord PpduFault → Result AbortData Fault
abort_in base set start user carrier read = abort_of base set (pdv_places carrier start user) (read_unit start read)

abbrev pub with_abort : Option ℕ → Result AbortData Fault → Result Word Fault
with_abort transport (Ok user) = Ok (OfAssociation (Abort transport user))
with_abort transport (Err fault) = Err fault

abbrev pub aborted : Base → List SetItem → Option ℕ → ℕ → List ℕ → Result Word Fault
aborted base set transport start user = with_abort transport (abort_in base set start user place.Ab (ppdu_at place.Ab user))

abbrev pub aborted_with : Base → List SetItem → Option ℕ → ℕ → Option (List ℕ) → Result Word Fault
aborted_with base set transport start None = Ok (OfAssociation (Abort transport NoData))
aborted_with base set transport start (Some user) = aborted base set transport start user

-- ---- values alone

abbrev pub under : Tables → List SetItem → LayerOfValues → List PdvPlaces → Result (List Pdv) Fault → Result (List DataValue) Fault
under tables held carried places (Ok pdvs) = values_under tables held carried places pdvs
under tables held carried places (Err fault) = Err fault

abbrev pub values_with : Tables → List SetItem → LayerOfValues → PpduPlace → ℕ → List ℕ → Result (List DataValue) Fault
values_with tables held carried carrier start user = under tables held carried (pdv_places carrier start user) (data_in start (ppdu_at carrier user))

abbrev pub finished : Tables → List SetItem → Option ℕ → ℕ → List ℕ → Result Word Fault
finished tables held transport start user =
    with_values (λ values. OfAssociation (Finish transport values)) (values_with tables held carriage.Association place.Fn start user)

abbrev pub disconnected : Tables → List SetItem → ℕ → List ℕ → Result Word Fault
disconnected tables held start user =
    with_values (λ values. OfAssociation (Disconnect values)) (values_with tables held carriage.Association place.Dn start user)

abbrev pub sent : Base → List SetItem → ℕ → List ℕ → Result Word Fault
sent base held start user =
    with_values (λ values. OfData (Values values)) (values_with base.tables held (carried_by_data base) place.Dt start user)

abbrev pub pleaded : Tables → List SetItem → ℕ → ℕ → List ℕ → Result Word Fault
pleaded tables held tokens start user =
    with_values (λ values. OfMarks (Please (Some tokens) values)) (values_with tables held carriage.Transfer place.Pt start user)

abbrev pub pleaded_with : Tables → List SetItem → Option ℕ → ℕ → Option (List ℕ) → Result Word Fault
pleaded_with tables held None start user = Ok (OfMarks (Please None []))
pleaded_with tables held (Some tokens) start None = Ok (OfMarks (Please (Some tokens) []))
pleaded_with tables held (Some tokens) start (Some user) = pleaded tables held tokens start user

-- ---- alterations and restarts

abbrev pub meant : Result PresentationWord Fault → (PresentationWord → Result Word Fault) → Result Word Fault
meant (Ok unit) next = next unit
meant (Err fault) next = Err fault

abbrev pub typed : ℕ → Result PresentationWord PpduFault → Result Word Fault
typed start read = meant (read_unit start read) typed_meaning

abbrev pub restarted : ℕ → ℕ → Result PresentationWord PpduFault → Result Word Fault
restarted number start read = meant (read_unit start read) (restart_meaning number)

abbrev pub restart_acked : ℕ → ℕ → Result PresentationWord PpduFault → Result Word Fault
restart_acked number start read = meant (read_unit start read) (restart_ack_meaning number)

abbrev pub restarted_with : ℕ → ℕ → Option (List ℕ) → Result Word Fault
restarted_with number start None = Ok (OfMarks (Restart number None))
restarted_with number start (Some user) = restarted number start (ppdu_at place.Rs user)

abbrev pub restart_acked_with : ℕ → ℕ → Option (List ℕ) → Result Word Fault
restart_acked_with number start None = Ok (OfMarks (RestartAck number None))
restart_acked_with number start (Some user) = restart_acked number start (ppdu_at place.Ra user)

-- ---- all units

-- units of marks, tokens and activities, which carry no values
abbrev pub plain_word : SessionWord → Option Word
plain_word (units.GiveTokens tokens) = Some (OfMarks (Give tokens))
plain_word units.GiveTokensConfirm = Some (OfMarks GiveConfirm)
plain_word units.GiveTokensAck = Some (OfMarks GiveAck)
plain_word (units.Mark number) = Some (OfMarks (Mark number))
plain_word (units.MarkAck number) = Some (OfMarks (MarkAck number))
plain_word (units.ActivityStart activity) = Some (OfActivities (Start activity))
plain_word (units.ActivityResume activity mark) = Some (OfActivities (Resume activity mark))
plain_word (units.ActivityInterrupt reason) = Some (OfActivities (Interrupt reason))
plain_word units.ActivityInterruptAck = Some (OfActivities InterruptAck)
plain_word (units.ActivityDiscard reason) = Some (OfActivities (Discard reason))
plain_word units.ActivityDiscardAck = Some (OfActivities DiscardAck)
plain_word (units.ActivityEnd number) = Some (OfActivities (End number))
plain_word (units.ActivityEndAck number) = Some (OfActivities (EndAck number))
plain_word _ = None

-- the others: units that may carry values, and AA
abbrev pub carried_word : Base → List SetItem → List SetItem → SessionWord → ℕ → Result Word Fault
carried_word base set held (units.Connect session) start = connected base session start (connect_in start (ppdu_at place.Cn session.user))
carried_word base set held (units.Accept options version initial requirements user) start =
    accepted base (accepting options version initial requirements) start user (accept_in start (ppdu_at place.Ac user))
carried_word base set held (units.Refuse transport reason user) start = refused_with base transport reason start user
carried_word base set held (units.Finish transport user) start = finished base.tables held transport start user
carried_word base set held (units.Disconnect user) start = disconnected base.tables held start user
carried_word base set held (units.Abort transport user) start = aborted_with base set transport start user
carried_word base set held (units.TypedData user) start = typed start (ppdu_at place.Td user)
carried_word base set held (units.Data user) start = sent base held start user
carried_word base set held (units.PleaseTokens tokens user) start = pleaded_with base.tables held tokens start user
carried_word base set held (units.Resynchronize number user) start = restarted_with number start user
carried_word base set held (units.ResynchronizeAck number user) start = restart_acked_with number start user
carried_word base set held _ start = Ok (OfAssociation AbortAccept)

abbrev pub unless_plain : Option Word → Result Word Fault → Result Word Fault
unless_plain (Some word) read = Ok word
unless_plain None read = read

-- under these contexts of the association and this held set
abbrev pub unit_meant : Base → List SetItem → List SetItem → SessionWord → ℕ → Result Word Fault
unit_meant base set held unit start = unless_plain (plain_word unit) (carried_word base set held unit start)
