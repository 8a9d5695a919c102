-- What holds of the transfers of every end of reliable mode: what waits, and how far the current transfer is.
use Rattle.std.specs.Prelude.{◌≡◌, ℕ, suc, ◌*◌, ◌≤◌, ◌⊎◌, List, [], ◌∷◌, ◌++◌, length, Option, Some, None}
use Rattle.osi_base.specs.Limits.{checkpoint_unit}
use Rattle.stub_tables.specs.declared.apdu.Apdu.{Apdu}
use Rattle.end_model.specs.end_rules.Base.{Base}
use Rattle.end_model.specs.end_rules.State.{Piece, Octets, Marked, Encoded, Transfer, Queued, Sending, joined, highest}
use Rattle.reliable_model.specs.Codecs.{IsTransferable, IsPlaced}

abbrev pub AreTransferable : Base → List Queued → Type 0
AreTransferable base [] = Unit {0}
AreTransferable base (item ∷ items) = IsTransferable base item.apdu × AreTransferable base items

-- in front of each mark stand 1,024 octets or more since the one before it
abbrev pub Spaced : List Piece → Type 0
Spaced [] = Unit {0}
Spaced (Octets octets ∷ pieces) = Spaced pieces
Spaced (Marked number set ∷ pieces) = (number * checkpoint_unit ≤ length (joined pieces)) × Spaced pieces

-- the newest part is full, or the last
abbrev pub IsFull : List Piece → ℕ → Type 0
IsFull [] all = Unit {0}
IsFull (Marked number set ∷ pieces) all = Unit {0}
IsFull (Octets octets ∷ pieces) all =
    (suc (highest pieces) * checkpoint_unit ≤ length (joined pieces ++ octets)) ⊎ (length (joined pieces ++ octets) ≡ all)

-- what was sent is a beginning of the encoded item
pub record IsBeginning (base : Base) (apdu : Apdu) (pieces : List Piece) (encoded : Encoded) : Type 0 where
  pub same : encoded.item.apdu ≡ apdu
  pub placed : IsPlaced base encoded.item
  pub octets : encoded.octets ≡ base.spellings.transfer encoded.item
  pub left : List ℕ
  pub begins : joined pieces ++ left ≡ encoded.octets
  pub full : IsFull pieces (length encoded.octets)

-- before it is encoded nothing is sent of it
abbrev pub OnEncoded : Base → Apdu → List Piece → Option Encoded → Type 0
OnEncoded base apdu pieces None = pieces ≡ []
OnEncoded base apdu pieces (Some encoded) = IsBeginning base apdu pieces encoded

pub record IsCurrent (base : Base) (transfer : Transfer) : Type 0 where
  pub item : IsTransferable base transfer.item.apdu
  pub encoded : OnEncoded base transfer.item.apdu transfer.pieces transfer.encoded
  pub spaced : Spaced transfer.pieces

abbrev pub OnCurrent : Base → Option Transfer → Type 0
OnCurrent base None = Unit {0}
OnCurrent base (Some transfer) = IsCurrent base transfer

pub record IsSending (base : Base) (sending : Sending) : Type 0 where
  pub queue : AreTransferable base sending.queue
  pub current : OnCurrent base sending.current
