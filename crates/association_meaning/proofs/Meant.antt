-- What units mean, as the code reads them.
use Rattle.std.proofs.Common.{◌≡◌, ℕ, List, Option, Some, None, Result, Ok, Err, refl, subst}
use Rattle.osi_base.specs.declared.layer_words.SetItem.{SetItem}
use Rattle.osi_base.specs.declared.session_word.SessionConnect.{SessionConnect}
use Rattle.osi_base.specs.declared.session_word.SessionWord.{SessionWord}
use Rattle.osi_base.specs.declared.session_word.SessionWord.TheVariants as units
use Rattle.osi_base.specs.declared.presentation_word.PresentationWord.{PresentationWord}
use Rattle.osi_base.specs.declared.presentation_word.PresentationWord.TheVariants as pdus
use Rattle.presentation_pdus.specs.declared.place.PpduPlace.{PpduPlace}
use Rattle.presentation_pdus.specs.declared.place.PpduPlace.TheVariants as place
use Rattle.presentation_pdus.specs.declared.place.PpduFault.{PpduFault}
use Rattle.presentation_pdus.specs.declared.place.PpduFault.TheVariants as why
use Rattle.presentation_pdus.specs.Units.{ppdu_at}
use Rattle.end_rules.specs.Base.{Base, Fault}
use Rattle.end_rules.specs.State.{Body}
use Rattle.end_rules.specs.Messages.{DataValue, Accepting, UserValues, Word, OfAssociation, Finish, Disconnect, Abort, OfData, Values, OfMarks, Please}
use Rattle.association_intake.specs.association_reading.declared.layer_of_values.LayerOfValues.{LayerOfValues}
use Rattle.association_intake.specs.association_reading.declared.layer_of_values.LayerOfValues.TheVariants as carriage
use Rattle.association_intake.specs.association_reading.Places.{pdv_places}
use Rattle.association_intake.specs.association_reading.Association.{abort_values}
use Rattle.association_intake.specs.association_reading.Meaning as reading
use Rattle.association_meaning.specs.Steps.{read_unit}
use Rattle.association_meaning.specs.Words.{connect_in, connected, accept_in, accepted, reject_in, refused, refused_with, as_values, abort_of, with_abort, aborted_with, data_in, under, pleaded_with, meant, restarted_with, restart_acked_with, unit_meant}

abbrev Read : Type 0
Read = Result PresentationWord PpduFault

meant_is : (start : ℕ) (r : Read) (next : PresentationWord → Result Word Fault) → meant (read_unit start r) next ≡ reading.on_ppdu start r next
meant_is start (Ok unit) next = refl
meant_is start (Err (why.At at kind reason)) next = refl
meant_is start (Err why.NoMemory) next = refl

connected_is : (base : Base) (session : SessionConnect) (start : ℕ) (r : Read) → connected base session start (connect_in start r) ≡ reading.on_ppdu start r (reading.connect_meaning base session start)
connected_is base session start (Ok (pdus.Connect p)) = refl
connected_is base session start (Ok (pdus.Accept p)) = refl
connected_is base session start (Ok (pdus.Reject p)) = refl
connected_is base session start (Ok (pdus.Alter a d)) = refl
connected_is base session start (Ok (pdus.AlterAck a)) = refl
connected_is base session start (Ok (pdus.Resynchronize l)) = refl
connected_is base session start (Ok (pdus.ResynchronizeAck l)) = refl
connected_is base session start (Ok (pdus.UserAbort c u)) = refl
connected_is base session start (Ok (pdus.ProviderAbort x e)) = refl
connected_is base session start (Ok (pdus.Data u)) = refl
connected_is base session start (Err (why.At at kind reason)) = refl
connected_is base session start (Err why.NoMemory) = refl

accepted_is : (base : Base) (session : Accepting) (start : ℕ) (user : List ℕ) (r : Read) → accepted base session start user (accept_in start r) ≡ reading.on_ppdu start r (reading.accept_meaning base session start user)
accepted_is base session start user (Ok (pdus.Connect p)) = refl
accepted_is base session start user (Ok (pdus.Accept p)) = refl
accepted_is base session start user (Ok (pdus.Reject p)) = refl
accepted_is base session start user (Ok (pdus.Alter a d)) = refl
accepted_is base session start user (Ok (pdus.AlterAck a)) = refl
accepted_is base session start user (Ok (pdus.Resynchronize l)) = refl
accepted_is base session start user (Ok (pdus.ResynchronizeAck l)) = refl
accepted_is base session start user (Ok (pdus.UserAbort c u)) = refl
accepted_is base session start user (Ok (pdus.ProviderAbort x e)) = refl
accepted_is base session start user (Ok (pdus.Data u)) = refl
accepted_is base session start user (Err (why.At at kind reason)) = refl
accepted_is base session start user (Err why.NoMemory) = refl

refused_is : (base : Base) (transport reason : Option ℕ) (start : ℕ) (user : List ℕ) (r : Read)
    → refused base transport reason start user (reject_in start r) ≡ reading.on_ppdu start r (reading.refuse_meaning base transport reason start user)
refused_is base transport reason start user (Ok (pdus.Connect p)) = refl
refused_is base transport reason start user (Ok (pdus.Accept p)) = refl
refused_is base transport reason start user (Ok (pdus.Reject p)) = refl
refused_is base transport reason start user (Ok (pdus.Alter a d)) = refl
refused_is base transport reason start user (Ok (pdus.AlterAck a)) = refl
refused_is base transport reason start user (Ok (pdus.Resynchronize l)) = refl
refused_is base transport reason start user (Ok (pdus.ResynchronizeAck l)) = refl
refused_is base transport reason start user (Ok (pdus.UserAbort c u)) = refl
refused_is base transport reason start user (Ok (pdus.ProviderAbort x e)) = refl
refused_is base transport reason start user (Ok (pdus.Data u)) = refl
refused_is base transport reason start user (Err (why.At at kind w)) = refl
refused_is base transport reason start user (Err why.NoMemory) = refl

-- ---- aborts

values_abort : (transport : Option ℕ) (r : Result (List DataValue) Fault) → with_abort transport (as_values r) ≡ reading.with_values (λ values. OfAssociation (Abort transport (UserValues values))) r
values_abort transport (Ok vs) = refl
values_abort transport (Err f) = refl

aborted_is : (base : Base) (body : Body) (transport : Option ℕ) (start : ℕ) (user : List ℕ) (r : Read)
    → with_abort transport (abort_of base body.link.accepted (pdv_places place.Ab start user) (read_unit start r)) ≡ reading.on_ppdu start r (reading.abort_meaning base body transport start user)
aborted_is base body transport start user (Ok (pdus.Connect p)) = refl
aborted_is base body transport start user (Ok (pdus.Accept p)) = refl
aborted_is base body transport start user (Ok (pdus.Reject p)) = refl
aborted_is base body transport start user (Ok (pdus.Alter a d)) = refl
aborted_is base body transport start user (Ok (pdus.AlterAck a)) = refl
aborted_is base body transport start user (Ok (pdus.Resynchronize l)) = refl
aborted_is base body transport start user (Ok (pdus.ResynchronizeAck l)) = refl
aborted_is base body transport start user (Ok (pdus.UserAbort c u)) = values_abort transport (abort_values base body.link.accepted (pdv_places place.Ab start user) u)
aborted_is base body transport start user (Ok (pdus.ProviderAbort x e)) = refl
aborted_is base body transport start user (Ok (pdus.Data u)) = refl
aborted_is base body transport start user (Err (why.At at kind reason)) = refl
aborted_is base body transport start user (Err why.NoMemory) = refl

-- ---- values alone

module _ (base : Base) (body : Body) (carried : LayerOfValues) (word : List DataValue → Word) (carrier : PpduPlace) (start : ℕ) (user : List ℕ) where
  data_is : (r : Read) → reading.with_values word (under base.tables body.sets.held carried (pdv_places carrier start user) (data_in start r)) ≡ reading.on_ppdu start r (reading.data_meaning base body carried word carrier start user)
  data_is (Ok (pdus.Connect p)) = refl
  data_is (Ok (pdus.Accept p)) = refl
  data_is (Ok (pdus.Reject p)) = refl
  data_is (Ok (pdus.Alter a d)) = refl
  data_is (Ok (pdus.AlterAck a)) = refl
  data_is (Ok (pdus.Resynchronize l)) = refl
  data_is (Ok (pdus.ResynchronizeAck l)) = refl
  data_is (Ok (pdus.UserAbort c u)) = refl
  data_is (Ok (pdus.ProviderAbort x e)) = refl
  data_is (Ok (pdus.Data u)) = refl
  data_is (Err (why.At at kind reason)) = refl
  data_is (Err why.NoMemory) = refl

-- ---- all units: one means the same to ends with the same contexts

module _ (base : Base) (body : Body) (start : ℕ) where
  refusal_is : (transport reason : Option ℕ) (user : Option (List ℕ)) → refused_with base transport reason start user ≡ reading.refused_with base transport reason start user
  refusal_is transport reason None = refl
  refusal_is transport reason (Some user) = refused_is base transport reason start user (ppdu_at place.Rf user)

  abort_is : (transport : Option ℕ) (user : Option (List ℕ)) → aborted_with base body.link.accepted transport start user ≡ reading.aborted_with base body transport start user
  abort_is transport None = refl
  abort_is transport (Some user) = aborted_is base body transport start user (ppdu_at place.Ab user)

  plea_is : (tokens : Option ℕ) (user : Option (List ℕ)) → pleaded_with base.tables body.sets.held tokens start user ≡ reading.pleaded_with base body tokens start user
  plea_is None user = refl
  plea_is (Some tokens) None = refl
  plea_is (Some tokens) (Some user) = data_is base body carriage.Transfer (λ values. OfMarks (Please (Some tokens) values)) place.Pt start user (ppdu_at place.Pt user)

  restart_is : (number : ℕ) (user : Option (List ℕ)) → restarted_with number start user ≡ reading.restarted_with number start user
  restart_is number None = refl
  restart_is number (Some user) = meant_is start (ppdu_at place.Rs user) (reading.restart_meaning number)

  restart_ack_is : (number : ℕ) (user : Option (List ℕ)) → restart_acked_with number start user ≡ reading.restart_acked_with number start user
  restart_ack_is number None = refl
  restart_ack_is number (Some user) = meant_is start (ppdu_at place.Ra user) (reading.restart_ack_meaning number)

  same : (unit : SessionWord) → unit_meant base body.link.accepted body.sets.held unit start ≡ reading.meaning base body unit start
  same (units.Connect session) = connected_is base session start (ppdu_at place.Cn session.user)
  same (units.Accept options version initial requirements user) =
      accepted_is base (reading.accepting options version initial requirements) start user (ppdu_at place.Ac user)
  same (units.Refuse transport reason user) = refusal_is transport reason user
  same (units.Finish transport user) = data_is base body carriage.Association (λ values. OfAssociation (Finish transport values)) place.Fn start user (ppdu_at place.Fn user)
  same (units.Disconnect user) = data_is base body carriage.Association (λ values. OfAssociation (Disconnect values)) place.Dn start user (ppdu_at place.Dn user)
  same (units.Abort transport user) = abort_is transport user
  same units.AbortAccept = refl
  same (units.GiveTokens tokens) = refl
  same (units.PleaseTokens tokens user) = plea_is tokens user
  same units.GiveTokensConfirm = refl
  same units.GiveTokensAck = refl
  same (units.TypedData user) = meant_is start (ppdu_at place.Td user) reading.typed_meaning
  same (units.Data user) = data_is base body (reading.carried_by_data base) (λ values. OfData (Values values)) place.Dt start user (ppdu_at place.Dt user)
  same (units.Mark number) = refl
  same (units.MarkAck number) = refl
  same (units.Resynchronize number user) = restart_is number user
  same (units.ResynchronizeAck number user) = restart_ack_is number user
  same (units.ActivityStart activity) = refl
  same (units.ActivityResume activity mark) = refl
  same (units.ActivityInterrupt reason) = refl
  same units.ActivityInterruptAck = refl
  same (units.ActivityDiscard reason) = refl
  same units.ActivityDiscardAck = refl
  same (units.ActivityEnd number) = refl
  same (units.ActivityEndAck number) = refl

pub same_meaning : (base : Base) (body : Body) (accepted held : List SetItem) (unit : SessionWord) (start : ℕ) → body.link.accepted ≡ accepted → body.sets.held ≡ held
    → unit_meant base accepted held unit start ≡ reading.meaning base body unit start
same_meaning base body accepted held unit start ea eh =
    subst (λ (a : List SetItem). unit_meant base a held unit start ≡ reading.meaning base body unit start) ea
    (subst (λ (h : List SetItem). unit_meant base body.link.accepted h unit start ≡ reading.meaning base body unit start) eh (same base body start unit))
