use Rattle.std.proofs.Common.{ℕ, List, Result, Ok, Err, refl, ap, ◌∙◌}
use Rattle.osi_base.specs.declared.syntax.Syntax.{Syntax}
use Rattle.stub_tables.specs.declared.tables.Tables.{Tables}
use Rattle.stub_tables.specs.declared.apdu.Apdu.{Apdu}
use Rattle.apdu_spelling.specs.declared.head.ApduHead.{ApduHead}
use Rattle.apdu_spelling.specs.Spellings.{Spells, fields_in}
use Rattle.apdu_spelling.proofs.OneHead.{one_head}
use Rattle.apdu_spelling.proofs.Written.{written_spelled}
use Rattle.apdu_codec.specs.declared.fault.HeadFault.{HeadFault}
use Rattle.apdu_codec.specs.declared.fault.HeadFault.TheVariants.{General, BadReject, NoMemory}
use Rattle.apdu_codec.specs.HeadsRead.{IsHeadRead}
use Rattle.apdu_codec.specs.Laws.{SaysBack}
use Rattle.apdu_codec.proofs.laws.written_apdu_is_read.Goals as goal

back : (t : Tables) (s : Syntax) (a : Apdu) (text : List ℕ) (read : Result ApduHead HeadFault) → Spells t s a text → IsHeadRead s text read → SaysBack t s a read
back t s a text (Ok fields) p h = (p.head, p.says, h.are ∙ ap (fields_in s) (one_head s h.head p.head text h.spells p.is_head))
back t s a text (Err (General n)) p h = absurd (h.0 p.head p.is_head)
back t s a text (Err BadReject) p h = absurd (h.0 p.head p.is_head)
back t s a text (Err NoMemory) p h = refl

pub returns : goal.returns
returns c = λ tables syntax a read readable writable h. back tables syntax a _ read (written_spelled tables readable syntax a writable) h
