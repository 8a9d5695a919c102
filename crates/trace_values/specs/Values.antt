-- What a trace says of presentation data values.
use Rattle.std.specs.Prelude.{◌≡◌, ℕ, List, [], ◌∷◌, ◌++◌, length, Option, Some, None, codes, decimal}
use Rattle.osi_base.specs.declared.syntax.Syntax.TheVariants.{Ber}
use Rattle.osi_base.specs.declared.presentation_word.Pdv.{Pdv}
use Rattle.osi_base.specs.declared.presentation_word.PdvContent.{PdvContent}
use Rattle.osi_base.specs.declared.presentation_word.PdvContent.TheVariants as contents
use Rattle.stub_tables.specs.declared.tables.Tables.{Tables}
use Rattle.apdu_spelling.specs.declared.head.ApduHead.{ApduHead}
use Rattle.apdu_codec.specs.HeadsRead.{HasFields, HasNone}
use Rattle.trace_values.specs.Heads.{head_told}

-- a value of so many octets
abbrev pub counted : List ℕ → List ℕ
counted octets = codes "value " ++ decimal (length octets)

-- the head of an APDU that octets spell in BER, or that they spell none
abbrev pub HeadOf : List ℕ → Option ApduHead → Type 0
HeadOf octets None = HasNone Ber octets
HeadOf octets (Some head) = HasFields Ber octets head

abbrev pub words_or : List ℕ → Option (List ℕ) → List ℕ
words_or octets None = counted octets
words_or octets (Some words) = words

-- what is said of one whole BER value
abbrev pub value_text : Tables → List ℕ → Option ApduHead → List ℕ
value_text tables octets None = counted octets
value_text tables octets (Some head) = words_or octets (head_told tables head)

-- A value in the form [0] that is the head of an APDU whose code is known is told by it; any other one is counted.
abbrev pub IsContentText : Tables → PdvContent → List ℕ → Type 0
IsContentText tables (contents.SingleAsn1Type octets) text = (head : Option ApduHead) × HeadOf octets head × (text ≡ value_text tables octets head)
IsContentText tables (contents.OctetAligned octets) text = text ≡ counted octets
IsContentText tables (contents.Arbitrary bits) text = text ≡ counted bits.octets

abbrev pub pdv_text : ℕ → List ℕ → List ℕ
pdv_text id value = codes " " ++ decimal id ++ codes ":" ++ value

abbrev pub IsPdvText : Tables → Pdv → List ℕ → Type 0
IsPdvText tables pdv text = (value : List ℕ) × IsContentText tables pdv.content value × (text ≡ pdv_text pdv.id value)

-- values in their order, each with the identifier of its context
abbrev pub ArePdvsText : Tables → List Pdv → List ℕ → Type 0
ArePdvsText tables [] text = text ≡ []
ArePdvsText tables (pdv ∷ pdvs) text =
    (first rest : List ℕ) × IsPdvText tables pdv first × ArePdvsText tables pdvs rest × (text ≡ first ++ rest)

-- a text of this kind was put behind another
abbrev pub Puts : (List ℕ → Type 0) → List ℕ → List ℕ → Type 0
Puts IsText before after = (text : List ℕ) × IsText text × (after ≡ before ++ text)
