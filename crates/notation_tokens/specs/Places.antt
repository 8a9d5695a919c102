-- The order of places.
use Rattle.std.specs.Prelude.{◌≡◌, ◌≤◌, ◌<◌, ◌⊎◌, List, [], ◌∷◌}
use Rattle.notation_tokens.specs.declared.token.Place.{Place}

-- one place isn't before the other
abbrev pub NotAfter : Place → Place → Type 0
NotAfter p q = (p.line < q.line) ⊎ (p.line ≡ q.line) × (p.column ≤ q.column)

-- places that never fall, from one to another
abbrev pub Rising : Place → Place → List Place → Type 0
Rising low high [] = NotAfter low high
Rising low high (p ∷ ps) = NotAfter low p × Rising p high ps

-- places never fall in text order
abbrev pub NeverFall : List Place → Type 0
NeverFall [] = Unit {0}
NeverFall (p ∷ ps) = (high : Place) × Rising p high ps
