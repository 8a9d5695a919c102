-- What is transferred can be written, as an APDU in each syntax and as a transfer of it.
use Rattle.std.specs.Prelude.{◌≡◌, ◌≤◌, ℕ, List, None}
use Rattle.osi_base.specs.declared.syntax.Syntax.{Syntax}
use Rattle.osi_base.specs.declared.syntax.Syntax.TheVariants.{Ber, Der, Packed}
use Rattle.osi_base.specs.declared.presentation_word.Pdv.{Pdv}
use Rattle.osi_base.specs.declared.presentation_word.PdvContent.{PdvContent}
use Rattle.osi_base.specs.declared.presentation_word.PdvContent.TheVariants as forms
use Rattle.osi_base.specs.Limits.{highest_context}
use Rattle.packed_codec.specs.Laws.{HasNoAny}
use Rattle.rtse_apdus.specs.Transfer.{IsTransfer}
use Rattle.stub_tables.specs.declared.tables.Tables.{Tables}
use Rattle.stub_tables.specs.declared.apdu.Apdu.{Apdu}
use Rattle.stub_tables.specs.Readable.{IsReadable}
use Rattle.apdu_spelling.specs.Writing.{written_apdu, IsWritable}
use Rattle.reliable_model.specs.end_rules.Base.{Base}
use Rattle.reliable_model.specs.Codecs.{IsTransferable}

-- A module's tables: they are readable, and no type of it is any type, as the notation has none.
pub record IsModule (tables : Tables) : Type 0 where
  pub readable : IsReadable tables
  pub typed : HasNoAny tables.types

-- Where APDUs are spelled by the codecs, what is transferred may be written in each syntax.
abbrev pub TransferablesAreWritable : Type 0
TransferablesAreWritable =
    (base : Base) (syntax : Syntax) (apdu : Apdu) → base.spellings.apdu ≡ written_apdu base.tables → IsModule base.tables → IsTransferable base apdu → IsWritable base.tables syntax apdu

-- a value of the module on a context, in the form of its syntax
abbrev pub form_of : Syntax → List ℕ → PdvContent
form_of Ber octets = forms.SingleAsn1Type octets
form_of Der octets = forms.SingleAsn1Type octets
form_of Packed octets = forms.OctetAligned octets

abbrev pub pdv_with : ℕ → Syntax → List ℕ → Pdv
pdv_with id syntax octets = record { transfer = None; id = id; content = form_of syntax octets }

-- What may be written of an APDU is a transfer, on each identifier of a context.
abbrev pub ValuesAreTransfers : Type 0
ValuesAreTransfers =
    (tables : Tables) (id : ℕ) (syntax : Syntax) (apdu : Apdu) → IsModule tables → 1 ≤ id → id ≤ highest_context
    → IsWritable tables syntax apdu → IsTransfer (pdv_with id syntax (written_apdu tables syntax apdu))
