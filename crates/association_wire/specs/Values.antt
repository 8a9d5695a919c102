-- Presentation data values as an association carries them, in octets (X.226 8.4.2, X.227 9, X.228 9).
use Rattle.std.specs.Prelude.{ℕ, List, map, None}
use Rattle.osi_base.specs.declared.syntax.Syntax.{Syntax}
use Rattle.osi_base.specs.declared.syntax.Syntax.TheVariants.{Ber, Der, Packed}
use Rattle.osi_base.specs.declared.acse_word.External.{External}
use Rattle.osi_base.specs.declared.acse_word.Acse.{Acse}
use Rattle.osi_base.specs.declared.acse_word.Acse.TheVariants as acse
use Rattle.osi_base.specs.declared.rtse_word.Rtse.TheVariants as rtse
use Rattle.osi_base.specs.declared.presentation_word.Pdv.{Pdv}
use Rattle.osi_base.specs.declared.presentation_word.PdvContent.{PdvContent}
use Rattle.osi_base.specs.declared.presentation_word.PdvContent.TheVariants as forms
use Rattle.stub_tables.specs.declared.tables.Tables.{Tables}
use Rattle.apdu_spelling.specs.Writing.{written_apdu}
use Rattle.acse.specs.Written.{written_acse}
use Rattle.rtse_apdus.specs.Written.{written_rtse}
use Rattle.end_rules.specs.Messages.{Information, Transferring, Other, ValueContent, Remote, Unread, Association, Plea, Part, DataValue}
use Rattle.end_rules.specs.Hearing.{syntax_of}

-- user information of an APDU of association control
abbrev pub external_of : Information → External
external_of (Transferring id apdu) = record { id = id; value = written_rtse apdu }
external_of (Other id octets) = record { id = id; value = octets }

abbrev pub with_user : List Information → Acse → Acse
with_user user (acse.AssociateRequest version context before) = acse.AssociateRequest version context (map external_of user)
with_user user (acse.AssociateResponse context result reason before) = acse.AssociateResponse context result reason (map external_of user)
with_user user (acse.ReleaseRequest reason) = acse.ReleaseRequest reason
with_user user (acse.ReleaseResponse reason) = acse.ReleaseResponse reason
with_user user (acse.Abort source before) = acse.Abort source (map external_of user)

-- the one spelling in which a value is written; octets that spell no APDU are their own
abbrev pub content_octets : Tables → Syntax → ValueContent → List ℕ
content_octets tables syntax (Remote apdu) = written_apdu tables syntax apdu
content_octets tables syntax (Unread octets) = octets
content_octets tables syntax (Association apdu user) = written_acse (with_user user apdu)
content_octets tables syntax (Plea priority) = written_rtse (rtse.TurnPlease priority)
content_octets tables syntax (Part octets) = written_rtse (rtse.Transfer octets)

-- a BER or DER value stands in the form of one value, one of the packed syntax as octets
abbrev pub in_form : Syntax → List ℕ → PdvContent
in_form Ber octets = forms.SingleAsn1Type octets
in_form Der octets = forms.SingleAsn1Type octets
in_form Packed octets = forms.OctetAligned octets

-- a value in a PDV-list of its own, which doesn't tell the transfer syntax
abbrev pub pdv_of : Tables → DataValue → Pdv
pdv_of tables value =
    record { transfer = None; id = value.id; content = in_form (syntax_of value.pair) (content_octets tables (syntax_of value.pair) value.content) }

abbrev pub pdvs_of : Tables → List DataValue → List Pdv
pdvs_of tables values = map (pdv_of tables) values
