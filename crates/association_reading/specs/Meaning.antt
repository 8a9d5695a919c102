-- What a unit of the session means to an end, or the fault that ends the association: its unit of the presentation
-- protocol, then contexts and forms of values, then their APDUs (X.225 8.3, X.226 8.2 to 8.4).
use Rattle.std.specs.Prelude.{ℕ, ◌+◌, List, [], if◌then◌else◌, Option, Some, None, option_map, Result, Ok, Err}
use Rattle.osi_base.specs.declared.layer_words.Layer.TheVariants as layers
use Rattle.osi_base.specs.declared.session_word.SessionConnect.{SessionConnect}
use Rattle.osi_base.specs.declared.session_word.SessionWord.{SessionWord}
use Rattle.osi_base.specs.declared.session_word.SessionWord.TheVariants as units
use Rattle.osi_base.specs.declared.presentation_word.PresentationWord.{PresentationWord}
use Rattle.osi_base.specs.declared.presentation_word.PresentationWord.TheVariants as ppdus
use Rattle.presentation_pdus.specs.declared.place.PpduPlace.{PpduPlace}
use Rattle.presentation_pdus.specs.declared.place.PpduPlace.TheVariants as place
use Rattle.presentation_pdus.specs.declared.place.PpduFault.{PpduFault}
use Rattle.presentation_pdus.specs.declared.place.PpduFault.TheVariants as why
use Rattle.presentation_pdus.specs.Units.{ppdu_at}
use Rattle.association_wire.specs.end_rules.Base.{Base, Fault, is_reliable}
use Rattle.association_wire.specs.end_rules.Messages.{DataValue, Accepting, NoData, ProviderReason, UserValues, Word, OfAssociation, Connect, Accept, Refuse, Finish, Disconnect, Abort, AbortAccept, OfData, Values, AlterContext, AlterContextAck, OfMarks, Mark, MarkAck, Restart, RestartAck, Give, Please, GiveConfirm, GiveAck, OfActivities, Start, Resume, End, EndAck, Interrupt, InterruptAck, Discard, DiscardAck, natural}
use Rattle.association_wire.specs.end_rules.State.{Body}
use Rattle.association_wire.specs.end_rules.Faults.{fault_at, invalid_ppdu}
use Rattle.association_reading.specs.declared.layer_of_values.LayerOfValues.{LayerOfValues}
use Rattle.association_reading.specs.declared.layer_of_values.LayerOfValues.TheVariants as carriage
use Rattle.association_reading.specs.Places.{pdv_places}
use Rattle.association_reading.specs.Values.{values_under}
use Rattle.association_reading.specs.Association.{connect_values, accept_values, refuse_values, abort_values}

-- a unit of the presentation protocol that can't be read has its fault's place in the TSDU, and its reason
abbrev pub on_ppdu : ℕ → Result PresentationWord PpduFault → (PresentationWord → Result Word Fault) → Result Word Fault
on_ppdu start (Ok unit) next = next unit
on_ppdu start (Err (why.At at kind reason)) next = Err (fault_at layers.Presentation (start + at) reason)
on_ppdu start (Err why.NoMemory) next = Err invalid_ppdu

abbrev pub with_values : (List DataValue → Word) → Result (List DataValue) Fault → Result Word Fault
with_values word (Ok values) = Ok (word values)
with_values word (Err fault) = Err fault

-- no octets of such a carrier are read as such a unit
abbrev pub not_carried : Result Word Fault
not_carried = Err invalid_ppdu

-- ---- openings, refusals, releases and aborts: user data are left out of the words of the layers

abbrev pub connect_meaning : Base → SessionConnect → ℕ → PresentationWord → Result Word Fault
connect_meaning base session start (ppdus.Connect presentation) =
    with_values (λ values. OfAssociation (Connect (record session { user = [] }) (record presentation { user = [] }) values))
    (connect_values base presentation (pdv_places place.Cn start session.user))
connect_meaning base session start _ = not_carried

abbrev pub accept_meaning : Base → Accepting → ℕ → List ℕ → PresentationWord → Result Word Fault
accept_meaning base session start user (ppdus.Accept presentation) =
    with_values (λ values. OfAssociation (Accept session (record presentation { user = [] }) values))
    (accept_values base presentation (pdv_places place.Ac start user))
accept_meaning base session start user _ = not_carried

abbrev pub refuse_meaning : Base → Option ℕ → Option ℕ → ℕ → List ℕ → PresentationWord → Result Word Fault
refuse_meaning base transport reason start user (ppdus.Reject presentation) =
    with_values (λ values. OfAssociation (Refuse transport reason (Some (record presentation { user = [] })) values))
    (refuse_values base presentation (pdv_places place.Rf start user))
refuse_meaning base transport reason start user _ = not_carried

abbrev pub refused_with : Base → Option ℕ → Option ℕ → ℕ → Option (List ℕ) → Result Word Fault
refused_with base transport reason start None = Ok (OfAssociation (Refuse transport reason None []))
refused_with base transport reason start (Some user) = on_ppdu start (ppdu_at place.Rf user) (refuse_meaning base transport reason start user)

abbrev pub abort_meaning : Base → Body → Option ℕ → ℕ → List ℕ → PresentationWord → Result Word Fault
abort_meaning base body transport start user (ppdus.UserAbort contexts pdvs) =
    with_values (λ values. OfAssociation (Abort transport (UserValues values)))
    (abort_values base body.link.accepted (pdv_places place.Ab start user) pdvs)
abort_meaning base body transport start user (ppdus.ProviderAbort reason event) =
    Ok (OfAssociation (Abort transport (ProviderReason (option_map natural reason))))
abort_meaning base body transport start user _ = not_carried

abbrev pub aborted_with : Base → Body → Option ℕ → ℕ → Option (List ℕ) → Result Word Fault
aborted_with base body transport start None = Ok (OfAssociation (Abort transport NoData))
aborted_with base body transport start (Some user) = on_ppdu start (ppdu_at place.Ab user) (abort_meaning base body transport start user)

-- ---- user data alone, with values of one abstract syntax under the held set

abbrev pub data_meaning : Base → Body → LayerOfValues → (List DataValue → Word) → PpduPlace → ℕ → List ℕ → PresentationWord → Result Word Fault
data_meaning base body carried word carrier start user (ppdus.Data pdvs) =
    with_values word (values_under base.tables body.sets.held carried (pdv_places carrier start user) pdvs)
data_meaning base body carried word carrier start user _ = not_carried

abbrev pub data_with : Base → Body → LayerOfValues → (List DataValue → Word) → PpduPlace → ℕ → List ℕ → Result Word Fault
data_with base body carried word carrier start user =
    on_ppdu start (ppdu_at carrier user) (data_meaning base body carried word carrier start user)

-- DT carries the module's values, in reliable mode parts of transfers
abbrev pub carried_by_data : Base → LayerOfValues
carried_by_data base = if is_reliable base.mode then carriage.Transfer else carriage.Module

-- a plea without a token item says nothing, whatever it carries
abbrev pub pleaded_with : Base → Body → Option ℕ → ℕ → Option (List ℕ) → Result Word Fault
pleaded_with base body None start user = Ok (OfMarks (Please None []))
pleaded_with base body (Some tokens) start None = Ok (OfMarks (Please (Some tokens) []))
pleaded_with base body (Some tokens) start (Some user) =
    data_with base body carriage.Transfer (λ values. OfMarks (Please (Some tokens) values)) place.Pt start user

-- ---- alterations and restarts

abbrev pub typed_meaning : PresentationWord → Result Word Fault
typed_meaning (ppdus.Alter add delete) = Ok (OfData (AlterContext add delete))
typed_meaning (ppdus.AlterAck answers) = Ok (OfData (AlterContextAck answers))
typed_meaning _ = not_carried

abbrev pub restart_meaning : ℕ → PresentationWord → Result Word Fault
restart_meaning number (ppdus.Resynchronize list) = Ok (OfMarks (Restart number list))
restart_meaning number _ = not_carried

abbrev pub restart_ack_meaning : ℕ → PresentationWord → Result Word Fault
restart_ack_meaning number (ppdus.ResynchronizeAck list) = Ok (OfMarks (RestartAck number list))
restart_ack_meaning number _ = not_carried

abbrev pub restarted_with : ℕ → ℕ → Option (List ℕ) → Result Word Fault
restarted_with number start None = Ok (OfMarks (Restart number None))
restarted_with number start (Some user) = on_ppdu start (ppdu_at place.Rs user) (restart_meaning number)

abbrev pub restart_acked_with : ℕ → ℕ → Option (List ℕ) → Result Word Fault
restart_acked_with number start None = Ok (OfMarks (RestartAck number None))
restart_acked_with number start (Some user) = on_ppdu start (ppdu_at place.Ra user) (restart_ack_meaning number)

-- ---- all units

abbrev pub accepting : Option ℕ → Option ℕ → Option ℕ → Option ℕ → Accepting
accepting options version initial requirements =
    record { options = options; version = version; initial = initial; requirements = requirements }

-- the unit's user data begin at this place of its TSDU
abbrev pub meaning : Base → Body → SessionWord → ℕ → Result Word Fault
meaning base body (units.Connect session) start = on_ppdu start (ppdu_at place.Cn session.user) (connect_meaning base session start)
meaning base body (units.Accept options version initial requirements user) start =
    on_ppdu start (ppdu_at place.Ac user) (accept_meaning base (accepting options version initial requirements) start user)
meaning base body (units.Refuse transport reason user) start = refused_with base transport reason start user
meaning base body (units.Finish transport user) start =
    data_with base body carriage.Association (λ values. OfAssociation (Finish transport values)) place.Fn start user
meaning base body (units.Disconnect user) start =
    data_with base body carriage.Association (λ values. OfAssociation (Disconnect values)) place.Dn start user
meaning base body (units.Abort transport user) start = aborted_with base body transport start user
meaning base body units.AbortAccept start = Ok (OfAssociation AbortAccept)
meaning base body (units.GiveTokens tokens) start = Ok (OfMarks (Give tokens))
meaning base body (units.PleaseTokens tokens user) start = pleaded_with base body tokens start user
meaning base body units.GiveTokensConfirm start = Ok (OfMarks GiveConfirm)
meaning base body units.GiveTokensAck start = Ok (OfMarks GiveAck)
meaning base body (units.TypedData user) start = on_ppdu start (ppdu_at place.Td user) typed_meaning
meaning base body (units.Data user) start =
    data_with base body (carried_by_data base) (λ values. OfData (Values values)) place.Dt start user
meaning base body (units.Mark number) start = Ok (OfMarks (Mark number))
meaning base body (units.MarkAck number) start = Ok (OfMarks (MarkAck number))
meaning base body (units.Resynchronize number user) start = restarted_with number start user
meaning base body (units.ResynchronizeAck number user) start = restart_acked_with number start user
meaning base body (units.ActivityStart activity) start = Ok (OfActivities (Start activity))
meaning base body (units.ActivityResume activity mark) start = Ok (OfActivities (Resume activity mark))
meaning base body (units.ActivityInterrupt reason) start = Ok (OfActivities (Interrupt reason))
meaning base body units.ActivityInterruptAck start = Ok (OfActivities InterruptAck)
meaning base body (units.ActivityDiscard reason) start = Ok (OfActivities (Discard reason))
meaning base body units.ActivityDiscardAck start = Ok (OfActivities DiscardAck)
meaning base body (units.ActivityEnd number) start = Ok (OfActivities (End number))
meaning base body (units.ActivityEndAck number) start = Ok (OfActivities (EndAck number))
