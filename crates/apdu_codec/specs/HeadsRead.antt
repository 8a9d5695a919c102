-- What reading a head says of the octets.
use Rattle.std.specs.Prelude.{◌≡◌, ℕ, List, Result, Ok, Err}
use Rattle.osi_base.specs.declared.syntax.Syntax.{Syntax}
use Rattle.apdu_spelling.specs.declared.head.ApduHead.{ApduHead}
use Rattle.apdu_spelling.specs.Heads.{Head}
use Rattle.apdu_spelling.specs.Spellings.{SpellsHead, fields_in}
use Rattle.apdu_codec.specs.declared.fault.HeadFault.{HeadFault}
use Rattle.apdu_codec.specs.declared.fault.HeadFault.TheVariants.{General, BadReject, NoMemory}
use Rattle.apdu_codec.specs.declared.reading.Tried as trieds
use Rattle.apdu_codec.specs.declared.reading.Tried.TheVariants as tried
use Rattle.apdu_codec.specs.Refusals.{problem_number, refusal_of}

-- the octets spell a head with these fields
pub record HasFields (syntax : Syntax) (text : List ℕ) (fields : ApduHead) : Type 0 where
  pub head : Head
  pub spells : SpellsHead syntax head text
  pub are : fields ≡ fields_in syntax head

-- the octets spell no head
abbrev pub HasNone : Syntax → List ℕ → Type 0
HasNone syntax text = (h : Head) → SpellsHead syntax h text → ⊥

abbrev pub IsRefused : Syntax → List ℕ → HeadFault → Type 0
IsRefused syntax text (General number) = HasNone syntax text × (refusal_of syntax text ≡ General number)
IsRefused syntax text BadReject = HasNone syntax text × (refusal_of syntax text ≡ BadReject)
IsRefused syntax text NoMemory = Unit {0}

-- The head that the octets spell was given, or the refusal of octets that spell none, or memory was refused.
abbrev pub IsHeadRead : Syntax → List ℕ → Result ApduHead HeadFault → Type 0
IsHeadRead syntax text (Ok fields) = HasFields syntax text fields
IsHeadRead syntax text (Err fault) = IsRefused syntax text fault

-- as long as the first octet isn't looked at
abbrev pub IsTried : Syntax → List ℕ → trieds.Tried → Type 0
IsTried syntax text (tried.Head fields) = HasFields syntax text fields
IsTried syntax text (tried.Fault number) = HasNone syntax text × (number ≡ problem_number syntax text)
