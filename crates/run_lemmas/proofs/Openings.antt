-- Openings and acceptances among messages.
use Rattle.std.proofs.Common.{◌≡◌, sym, subst, List, [], ◌∷◌, ◌++◌, ◌⊎◌, inl, inr}
use Rattle.end_rules.specs.Messages.{Message, Session, OfAssociation, Connect, Accept}

abbrev pub IsConnect : Message → Type 0
IsConnect (Session (OfAssociation (Connect session presentation values))) = Unit {0}
IsConnect message = ⊥

abbrev pub IsAcceptance : Message → Type 0
IsAcceptance (Session (OfAssociation (Accept session presentation values))) = Unit {0}
IsAcceptance message = ⊥

abbrev pub HasAcceptance : List Message → Type 0
HasAcceptance [] = ⊥
HasAcceptance (m ∷ ms) = IsAcceptance m ⊎ HasAcceptance ms

pub acceptance-in : (xs ys : List Message) → HasAcceptance (xs ++ ys) → HasAcceptance xs ⊎ HasAcceptance ys
acceptance-in [] ys h = inr h
acceptance-in (x ∷ xs) ys (inl h) = inl (inl h)
acceptance-in (x ∷ xs) ys (inr h) = go (acceptance-in xs ys h)
  where
    go : HasAcceptance xs ⊎ HasAcceptance ys → HasAcceptance (x ∷ xs) ⊎ HasAcceptance ys
    go (inl k) = inl (inr k)
    go (inr k) = inr k

pub acceptance-first : (m : Message) (ms left : List Message) → ms ≡ m ∷ left → IsAcceptance m → HasAcceptance ms
acceptance-first m ms left e h = subst HasAcceptance (sym e) (inl h)

pub acceptance-later : (m : Message) (ms left : List Message) → ms ≡ m ∷ left → HasAcceptance left → HasAcceptance ms
acceptance-later m ms left e h = subst HasAcceptance (sym e) (inr h)

pub none-one : (m : Message) → (IsAcceptance m → ⊥) → HasAcceptance (m ∷ []) → ⊥
none-one m f (inl h) = f h
none-one m f (inr h) = h

-- one message at most
pub data Few : List Message → Type 0 where
  nobody : Few []
  one : (m : Message) → Few (m ∷ [])
