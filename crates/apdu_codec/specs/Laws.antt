-- The law that joins writing and reading of APDUs.
use Rattle.std.specs.Prelude.{◌≡◌, Result, Ok, Err}
use Rattle.osi_base.specs.declared.syntax.Syntax.{Syntax}
use Rattle.stub_tables.specs.declared.tables.Tables.{Tables}
use Rattle.stub_tables.specs.declared.apdu.Apdu.{Apdu}
use Rattle.stub_tables.specs.Readable.{IsReadable}
use Rattle.apdu_spelling.specs.declared.head.ApduHead.{ApduHead}
use Rattle.apdu_spelling.specs.Heads.{Head}
use Rattle.apdu_spelling.specs.Spellings.{Says, fields_in}
use Rattle.apdu_spelling.specs.Writing.{written_apdu, IsWritable}
use Rattle.apdu_codec.specs.declared.fault.HeadFault.{HeadFault}
use Rattle.apdu_codec.specs.declared.fault.HeadFault.TheVariants.{NoMemory}
use Rattle.apdu_codec.specs.HeadsRead.{IsHeadRead}

-- the fields of a head that says the APDU, or memory was refused
abbrev pub SaysBack : Tables → Syntax → Apdu → Result ApduHead HeadFault → Type 0
SaysBack tables syntax a (Ok fields) = (h : Head) × Says tables syntax a h × (fields ≡ fields_in syntax h)
SaysBack tables syntax a (Err fault) = fault ≡ NoMemory

-- What is written for an APDU is read as a head that says it, unless memory is refused.
abbrev pub WrittenIsRead : Type 0
WrittenIsRead = (tables : Tables) (syntax : Syntax) (a : Apdu) (read : Result ApduHead HeadFault) → IsReadable tables → IsWritable tables syntax a
    → IsHeadRead syntax (written_apdu tables syntax a) read → SaysBack tables syntax a read
