-- A fault, or want of memory, goes through what is made of a reading.
use Rattle.std.proofs.Common.{◌≡◌, ℕ, List, Bool, Option, Result, Ok, Err, ap, sym, subst}
use Rattle.std.specs.Result.{IsErrAnd}
use Rattle.osi_base.specs.declared.syntax.Pair.{Pair}
use Rattle.osi_base.specs.declared.layer_words.SetItem.{SetItem}
use Rattle.osi_base.specs.declared.acse_word.Acse.{Acse}
use Rattle.osi_base.specs.declared.session_word.SessionConnect.{SessionConnect}
use Rattle.osi_base.specs.declared.presentation_word.Pdv.{Pdv}
use Rattle.osi_base.specs.declared.presentation_word.PresentationConnect.{PresentationConnect}
use Rattle.osi_base.specs.declared.presentation_word.PresentationAccept.{PresentationAccept}
use Rattle.osi_base.specs.declared.presentation_word.PresentationReject.{PresentationReject}
use Rattle.osi_base.specs.declared.presentation_word.PresentationWord.{PresentationWord}
use Rattle.stub_tables.specs.declared.tables.Tables.{Tables}
use Rattle.end_rules.specs.Base.{Base, Fault}
use Rattle.end_rules.specs.Messages.{DataValue, ValueContent, Information, Accepting, AbortData, Word}
use Rattle.association_intake.specs.association_reading.declared.layer_of_values.LayerOfValues.{LayerOfValues}
use Rattle.association_intake.specs.association_reading.Places.{PdvPlaces}
use Rattle.association_intake.specs.association_reading.Values.{with_content, with_user, and_informed}
use Rattle.association_intake.specs.association_reading.Meaning.{with_values}
use Rattle.association_intake.specs.association_reading.Transfers.{arrived_as}
use Rattle.association_meaning.specs.declared.basis.Halt.{Halt}
use Rattle.association_meaning.specs.declared.basis.Halt.TheVariants.{Faulty, NoMemory}
use Rattle.association_meaning.specs.Grounds.{FailsAs, GivesAs}
use Rattle.association_meaning.specs.Informing.{as_read}
use Rattle.association_meaning.specs.Words as words

-- what the exit of a `?` returns
pub halts : {A B : Type 0} (see : A → B) (result : Result A Halt) (read : Result B Fault) (e : Halt) → IsErrAnd result (λ y. y ≡ e) → FailsAs e read → GivesAs see result read
halts see (Ok x) read e is h = absurd is
halts see (Err y) read e is h = subst (λ (z : Halt). FailsAs z read) (sym is) h

-- ---- units of the presentation

pub connect_fails : (e : Halt) (r : Result PresentationWord Fault) → FailsAs e r → FailsAs e (words.connect_of r)
connect_fails (Faulty f) r h = ap words.connect_of h
connect_fails NoMemory r h = tt

pub accept_fails : (e : Halt) (r : Result PresentationWord Fault) → FailsAs e r → FailsAs e (words.accept_of r)
accept_fails (Faulty f) r h = ap words.accept_of h
accept_fails NoMemory r h = tt

pub reject_fails : (e : Halt) (r : Result PresentationWord Fault) → FailsAs e r → FailsAs e (words.reject_of r)
reject_fails (Faulty f) r h = ap words.reject_of h
reject_fails NoMemory r h = tt

pub data_fails : (e : Halt) (r : Result PresentationWord Fault) → FailsAs e r → FailsAs e (words.data_of r)
data_fails (Faulty f) r h = ap words.data_of h
data_fails NoMemory r h = tt

pub meant_fails : (e : Halt) (r : Result PresentationWord Fault) (next : PresentationWord → Result Word Fault) → FailsAs e r → FailsAs e (words.meant r next)
meant_fails (Faulty f) r next h = ap (λ (x : Result PresentationWord Fault). words.meant x next) h
meant_fails NoMemory r next h = tt

-- ---- openings, refusals, releases and aborts

pub connected_fails : (e : Halt) (base : Base) (session : SessionConnect) (start : ℕ) (r : Result PresentationConnect Fault) → FailsAs e r → FailsAs e (words.connected base session start r)
connected_fails (Faulty f) base session start r h = ap (words.connected base session start) h
connected_fails NoMemory base session start r h = tt

pub accepted_fails : (e : Halt) (base : Base) (session : Accepting) (start : ℕ) (user : List ℕ) (r : Result PresentationAccept Fault) → FailsAs e r → FailsAs e (words.accepted base session start user r)
accepted_fails (Faulty f) base session start user r h = ap (words.accepted base session start user) h
accepted_fails NoMemory base session start user r h = tt

pub refused_fails : (e : Halt) (base : Base) (transport reason : Option ℕ) (start : ℕ) (user : List ℕ) (r : Result PresentationReject Fault) → FailsAs e r → FailsAs e (words.refused base transport reason start user r)
refused_fails (Faulty f) base transport reason start user r h = ap (words.refused base transport reason start user) h
refused_fails NoMemory base transport reason start user r h = tt

pub values_fail : (e : Halt) (word : List DataValue → Word) (r : Result (List DataValue) Fault) → FailsAs e r → FailsAs e (with_values word r)
values_fail (Faulty f) word r h = ap (with_values word) h
values_fail NoMemory word r h = tt

pub abort_fails : (e : Halt) (base : Base) (set : List SetItem) (places : List PdvPlaces) (r : Result PresentationWord Fault) → FailsAs e r → FailsAs e (words.abort_of base set places r)
abort_fails (Faulty f) base set places r h = ap (words.abort_of base set places) h
abort_fails NoMemory base set places r h = tt

pub as_values_fail : (e : Halt) (r : Result (List DataValue) Fault) → FailsAs e r → FailsAs e (words.as_values r)
as_values_fail (Faulty f) r h = ap words.as_values h
as_values_fail NoMemory r h = tt

pub with_abort_fails : (e : Halt) (transport : Option ℕ) (r : Result AbortData Fault) → FailsAs e r → FailsAs e (words.with_abort transport r)
with_abort_fails (Faulty f) transport r h = ap (words.with_abort transport) h
with_abort_fails NoMemory transport r h = tt

pub under_fails : (e : Halt) (tables : Tables) (held : List SetItem) (carried : LayerOfValues) (places : List PdvPlaces) (r : Result (List Pdv) Fault) → FailsAs e r → FailsAs e (words.under tables held carried places r)
under_fails (Faulty f) tables held carried places r h = ap (words.under tables held carried places) h
under_fails NoMemory tables held carried places r h = tt

-- ---- values and user information

pub content_fails : (e : Halt) (id : ℕ) (pair : Option Pair) (r : Result ValueContent Fault) → FailsAs e r → FailsAs e (with_content id pair r)
content_fails (Faulty f) id pair r h = ap (with_content id pair) h
content_fails NoMemory id pair r h = tt

pub as_read_fails : (e : Halt) (r : Result Information Fault) → FailsAs e r → FailsAs e (as_read r)
as_read_fails (Faulty f) r h = ap as_read h
as_read_fails NoMemory r h = tt

pub user_fails : (e : Halt) (value : DataValue) (apdu : Acse) (r : Result (List Information) Fault) → FailsAs e r → FailsAs e (with_user value apdu r)
user_fails (Faulty f) value apdu r h = ap (with_user value apdu) h
user_fails NoMemory value apdu r h = tt

pub informed_fails : (e : Halt) (base : Base) (accepted : List SetItem) (is_kind : Acse → Bool) (r : Result (List DataValue) Fault) → FailsAs e r → FailsAs e (and_informed base accepted is_kind r)
informed_fails (Faulty f) base accepted is_kind r h = ap (and_informed base accepted is_kind) h
informed_fails NoMemory base accepted is_kind r h = tt

pub arrived_fails : (e : Halt) (at : PdvPlaces) (id : ℕ) (pair : Pair) (r : Result ValueContent Fault) → FailsAs e r → FailsAs e (arrived_as at id pair r)
arrived_fails (Faulty f) at id pair r h = ap (arrived_as at id pair) h
arrived_fails NoMemory at id pair r h = tt
