-- The transfers of an end stay sound through what is sent, confirmed, resumed and broken off.
use Rattle.std.proofs.Common.{◌≡◌, refl, true, false, ◌∙◌, sym, ap, subst, arith, ℕ, zero, suc, ◌+◌, ◌*◌, ◌≤◌, List, []}
use Rattle.std.proofs.Common.{◌∷◌, ◌++◌, length, take, ◌⊎◌, inl, inr}
use Rattle.std.specs.Prelude.{Bool, Option, Some, None, nat_eq, nat_le, if◌then◌else◌}
use Rattle.std.proofs.lemmas.Bool.Decides.{nat_tests}
use Rattle.std.proofs.lemmas.List.{append_assoc, length-append, length-take-le, take_all}
use Rattle.osi_base.specs.declared.syntax.Pair.{Pair}
use Rattle.osi_base.specs.Limits.{most_transferred}
use Rattle.stub_tables.specs.declared.apdu.Apdu.{Apdu}
use Rattle.end_model.specs.end_rules.Base.{Base}
use Rattle.end_model.specs.end_rules.State.{Body, Piece, Octets, Marked, Progress, Encoded, Transfer, Queued, Sending}
use Rattle.end_model.specs.end_rules.State.{joined, highest, from_mark, on_current, is_empty}
use Rattle.end_model.specs.end_rules.Requesting.{begun, resumed}
use Rattle.end_model.specs.end_rules.ByItself.{part_size, ends_in_octets, item_on, encoded_as}
use Rattle.reliable_model.specs.Codecs.{IsContextOf, IsTransferable, SpellsTransfers}
use Rattle.reliable_model.specs.Transferring.{AreTransferable, Spaced, IsFull, IsBeginning, OnEncoded, IsCurrent}
use Rattle.reliable_model.specs.Transferring.{OnCurrent, IsSending}

-- ---- the queue

pub queue-append : (base : Base) (xs ys : List Queued) → AreTransferable base xs → AreTransferable base ys → AreTransferable base (xs ++ ys)
queue-append base [] ys h k = k
queue-append base (x ∷ xs) ys h k = (h.0, queue-append base xs ys h.1 k)

-- ---- a change of the current transfer

pub changed : (base : Base) (change : Transfer → Transfer) (started : ℕ) (queue : List Queued) (current : Option Transfer) → AreTransferable base queue → ((t : Transfer) → current ≡ Some t → IsCurrent base (change t)) → IsSending base (on_current change (record { started = started; current = current; queue = queue }))
changed base change started queue None q h = record { queue = q; current = tt }
changed base change started queue (Some t) q h = record { queue = q; current = h t refl }

pub current-is : (base : Base) (sending : Sending) (t : Transfer) → IsSending base sending → sending.current ≡ Some t → IsCurrent base t
current-is base sending t h e = subst (OnCurrent base) e h.current

-- a change that leaves the item, the encoding and the pieces
pub kept-current : (base : Base) (change : Transfer → Transfer) (sending : Sending) → ((t : Transfer) → IsCurrent base t → IsCurrent base (change t)) → IsSending base sending → IsSending base (on_current change sending)
kept-current base change sending h s =
    changed base change sending.started sending.queue sending.current s.queue (λ t e. h t (current-is base sending t s e))

pub with-progress : (base : Base) (progress : Progress) (t : Transfer) → IsCurrent base t → IsCurrent base (record t { progress = progress })
with-progress base progress t h = record { item = h.item; encoded = h.encoded; spaced = h.spaced }

pub with-confirmed : (base : Base) (number : ℕ) (t : Transfer) → IsCurrent base t → IsCurrent base (record t { confirmed = number })
with-confirmed base number t h = record { item = h.item; encoded = h.encoded; spaced = h.spaced }

-- ---- the next item

pub begun-kept : (base : Base) (started : ℕ) (current : Option Transfer) (queue : List Queued) → AreTransferable base queue → IsSending base (begun (record { started = started; current = current; queue = queue }))
begun-kept base started current [] q = record { queue = tt; current = tt }
begun-kept base started current (item ∷ items) q = record { queue = q.1; current = record { item = q.0; encoded = refl; spaced = tt } }

-- ---- back to a mark

from-spaced : (n : ℕ) (pieces : List Piece) → Spaced pieces → Spaced (from_mark n pieces)
from-spaced n [] h = tt
from-spaced n (Octets octets ∷ pieces) h = from-spaced n pieces h
from-spaced n (Marked m set ∷ pieces) h = go (from-spaced n pieces h.1) (nat_eq m n)
  where
    go : Spaced (from_mark n pieces) → (b : Bool) → Spaced (if b then Marked m set ∷ pieces else from_mark n pieces)
    go later true = h
    go later false = later

record BeginAll (pieces : List Piece) (all : List ℕ) : Type 0 where
  left : List ℕ
  begins : joined pieces ++ left ≡ all

from-begins : (n : ℕ) (pieces : List Piece) (left all : List ℕ) → joined pieces ++ left ≡ all → BeginAll (from_mark n pieces) all
from-begins n [] left all h = record { left = left; begins = h }
from-begins n (Octets octets ∷ pieces) left all h = from-begins n pieces (octets ++ left) all (sym (append_assoc (joined pieces) octets left) ∙ h)
from-begins n (Marked m set ∷ pieces) left all h = go (from-begins n pieces left all h) (nat_eq m n)
  where
    go : BeginAll (from_mark n pieces) all → (b : Bool) → BeginAll (if b then Marked m set ∷ pieces else from_mark n pieces) all
    go later true = record { left = left; begins = h }
    go later false = later

from-full : (n : ℕ) (pieces : List Piece) (all : ℕ) → IsFull (from_mark n pieces) all
from-full n [] all = tt
from-full n (Octets octets ∷ pieces) all = from-full n pieces all
from-full n (Marked m set ∷ pieces) all = go (from-full n pieces all) (nat_eq m n)
  where
    go : IsFull (from_mark n pieces) all → (b : Bool) → IsFull (if b then Marked m set ∷ pieces else from_mark n pieces) all
    go later true = tt
    go later false = later

back-to : (base : Base) (apdu : Apdu) (n : ℕ) (pieces : List Piece) (encoded : Option Encoded) → OnEncoded base apdu pieces encoded → OnEncoded base apdu (from_mark n pieces) encoded
back-to base apdu n pieces None h = ap (from_mark n) h
back-to base apdu n pieces (Some e) h =
    let g = from-begins n pieces h.left e.octets h.begins in
    record { same = h.same; placed = h.placed; octets = h.octets; left = g.left; begins = g.begins; full = from-full n pieces (length e.octets) }

resumed-so : (base : Base) (t : Transfer) (n : ℕ) → t.confirmed ≡ n → IsCurrent base t → IsCurrent base (resumed t)
resumed-so base t zero e h = subst (λ (c : ℕ). IsCurrent base (resumed (record t { confirmed = c }))) (sym e) (record { item = h.item; encoded = refl; spaced = tt })
resumed-so base t (suc n) e h =
    subst (λ (c : ℕ). IsCurrent base (resumed (record t { confirmed = c }))) (sym e)
    (record { item = h.item; encoded = back-to base t.item.apdu (suc n) t.pieces t.encoded h.encoded; spaced = from-spaced (suc n) t.pieces h.spaced })

pub resumed-current : (base : Base) (t : Transfer) → IsCurrent base t → IsCurrent base (resumed t)
resumed-current base t h = resumed-so base t t.confirmed refl h

-- ---- an encoding

pub encoded-so : (base : Base) (body : Body) (apdu : Apdu) (context : ℕ) (item : Queued) (p : Option Pair) → item.apdu ≡ apdu → ((pair : Pair) → p ≡ Some pair → IsContextOf base.tables.name_oid context pair) → OnEncoded base apdu [] (encoded_as base body (item_on context item p))
encoded-so base body apdu context item None e placed = refl
encoded-so base body apdu context item (Some pair) e placed =
    record { same = e; placed = placed pair refl; octets = refl; left = base.spellings.transfer (record { id = context; pair = pair; apdu = item.apdu }); begins = refl; full = tt }

-- ---- a part

pub not-empty : (xs : List ℕ) → is_empty xs ≡ false → 1 ≤ length xs
not-empty [] h = cc
not-empty (x ∷ xs) h = omega arith

-- a part is all that is left, or full
pub part-length : (n : ℕ) (left : List ℕ) → (length (take (part_size n (length left)) left) ≡ length left) ⊎ (1024 ≤ length (take (part_size n (length left)) left))
part-length zero left = inl (ap length (take_all (length left) left (omega arith)))
part-length (suc n) left = go (nat_le (suc n * 1024) (length left)) refl
  where
    enough : (k l : ℕ) → nat_le k l ≡ true → k ≤ l
    enough k l h = grind (arith, nat_tests)

    few : (k l : ℕ) → nat_le k l ≡ false → l ≤ k
    few k l h = grind (arith, nat_tests)

    go : (b : Bool) → nat_le (suc n * 1024) (length left) ≡ b → (length (take (suc n * 1024) left) ≡ length left) ⊎ (1024 ≤ length (take (suc n * 1024) left))
    go true e = inr (omega (arith, length-take-le (suc n * 1024) left (enough (suc n * 1024) (length left) e)))
    go false e = inl (ap length (take_all (suc n * 1024) left (few (suc n * 1024) (length left) e)))

pub highest-spaced : (pieces : List Piece) → Spaced pieces → highest pieces * 1024 ≤ length (joined pieces)
highest-spaced [] h = omega arith
highest-spaced (Octets octets ∷ pieces) h =
    let k : highest pieces * 1024 ≤ length (joined pieces) = highest-spaced pieces h in
    omega (arith, length-append (joined pieces) octets)
highest-spaced (Marked number set ∷ pieces) h = h.0

-- what a part adds
pub part-full : (n : ℕ) (pieces : List Piece) (left all : List ℕ) → Spaced pieces → joined pieces ++ left ≡ all → IsFull (Octets (take (part_size n (length left)) left) ∷ pieces) (length all)
part-full n pieces left all spaced begins = go (part-length n left)
  where
    part : List ℕ
    part = take (part_size n (length left)) left

    go : (length (take (part_size n (length left)) left) ≡ length left) ⊎ (1024 ≤ length (take (part_size n (length left)) left)) → IsFull (Octets (take (part_size n (length left)) left) ∷ pieces) (length all)
    go (inl e) = inr (length-append (joined pieces) (take (part_size n (length left)) left) ∙ ap (λ (k : ℕ). length (joined pieces) + k) e ∙ sym (length-append (joined pieces) left) ∙ ap length begins)
    go (inr h) = inl (omega (arith, highest-spaced pieces spaced, length-append (joined pieces) (take (part_size n (length left)) left)))

-- there is room for the mark behind a part that isn't the last
pub mark-room : (pieces : List Piece) (left : List ℕ) (all : ℕ) → IsFull pieces all → ends_in_octets pieces ≡ true → length (joined pieces) + length left ≡ all → 1 ≤ length left → suc (highest pieces) * 1024 ≤ length (joined pieces)
mark-room [] left all f e s n = cc
mark-room (Marked number set ∷ pieces) left all f e s n = cc
mark-room (Octets octets ∷ pieces) left all (inl h) e s n = h
mark-room (Octets octets ∷ pieces) left all (inr h) e s n = absurd (none (length (joined pieces ++ octets)) (length left) all h s n)
  where
    none : (a b c : ℕ) → a ≡ c → a + b ≡ c → 1 ≤ b → ⊥
    none a b c h s n = omega arith

-- the octets of an encoding are within the limit
pub within : (base : Base) (apdu : Apdu) (pieces : List Piece) (e : Encoded) → SpellsTransfers base → IsTransferable base apdu → IsBeginning base apdu pieces e → length e.octets ≤ most_transferred
within base apdu pieces e spells item b =
    subst (λ (xs : List ℕ). length xs ≤ most_transferred) (sym b.octets) (spells.within e.item (subst (IsTransferable base) (sym b.same) item) b.placed)
