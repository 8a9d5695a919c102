-- How transfers are spelled, and the codec of the model that has these spellings.
use Rattle.std.specs.Prelude.{◌≡◌, ℕ, ◌≤◌, List, length, true, false, Some, Ok}
use Rattle.osi_base.specs.declared.syntax.Pair.{Pair}
use Rattle.osi_base.specs.declared.layer_words.SetItem.{SetItem}
use Rattle.osi_base.specs.Limits.{most_transferred, highest_context}
use Rattle.stub_tables.specs.declared.apdu.Apdu.{Apdu}
use Rattle.stub_tables.specs.declared.apdu.Apdu.TheVariants as apdus
use Rattle.end_model.specs.end_rules.Base.{Base, Item, Whole}
use Rattle.osi_base.specs.SetPlaces.{pair_of}
use Rattle.end_model.specs.end_rules.Invoking.{is_too_long}
use Rattle.agreement.specs.Messages as model
use Rattle.end_model.specs.Seen.{Free, number_seen, set_seen, item_seen}
use Rattle.end_model.specs.OpenInvocations.{IsProper}

-- the highest number of a problem (X.880 9)
abbrev pub last_problem : ℕ
last_problem = 7

-- what a call hands in isn't too long in any syntax; a reject has a problem of X.880
abbrev pub IsShort : Base → Apdu → Type 0
IsShort base (apdus.Invoke id linked code argument) = is_too_long base (apdus.Invoke id linked code argument) ≡ false
IsShort base (apdus.Result id returned) = is_too_long base (apdus.Result id returned) ≡ false
IsShort base (apdus.Error id code parameter) = is_too_long base (apdus.Error id code parameter) ≡ false
IsShort base (apdus.Reject id problem) = number_seen problem.number ≤ last_problem

-- an APDU that an end of this product transfers
pub record IsTransferable (base : Base) (apdu : Apdu) : Type 0 where
  pub proper : IsProper base apdu
  pub short : IsShort base apdu

-- an identifier of a context, under a pair with this abstract syntax (X.226 8.4.2)
pub record IsContextOf (name : List ℕ) (id : ℕ) (pair : Pair) : Type 0 where
  pub low : 1 ≤ id
  pub high : id ≤ highest_context
  pub named : pair.abstract_name ≡ name

-- an APDU on a context of the module
abbrev pub IsPlaced : Base → Item → Type 0
IsPlaced base item = IsContextOf base.tables.name_oid item.id item.pair

-- The octets of such a transfer are within the limit, and under a set that gives its context its pair they are
-- read as that APDU.
pub record SpellsTransfers (base : Base) : Type 0 where
  pub within : (item : Item) → IsTransferable base item.apdu → IsPlaced base item → length (base.spellings.transfer item) ≤ most_transferred
  pub reads : (set : List SetItem) (item : Item) → IsTransferable base item.apdu → IsPlaced base item → pair_of set item.id ≡ Some item.pair →
      base.spellings.arrived set (base.spellings.transfer item) ≡ Ok (Whole item)

-- octets that are a transfer of this product, and the value that the model sees in them
pub record IsTransferOf (base : Base) (octets : List ℕ) (value : model.Value) : Type 0 where
  pub item : Item
  pub transferable : IsTransferable base item.apdu
  pub placed : IsPlaced base item
  pub spelled : octets ≡ base.spellings.transfer item
  pub is_its : value ≡ item_seen base item

-- The codec of the model has these spellings: it may write what is transferred, writes it so, and reads nothing else.
pub record Carries (free : Free) (base : Base) : Type 0 where
  pub writes : (item : Item) → IsTransferable base item.apdu → IsPlaced base item → free.codec.may_write (item_seen base item) ≡ true
  pub written : (item : Item) → IsTransferable base item.apdu → IsPlaced base item → free.codec.written (item_seen base item) ≡ base.spellings.transfer item
  pub reads : (set : List SetItem) (octets : List ℕ) (value : model.Value) → free.codec.read (set_seen set) octets ≡ Some value → IsTransferOf base octets value
