-- What an end of an association does with octets, at a call and by itself is one thing.
use Rattle.std.specs.Prelude.{◌≡◌, ℕ, List}
use Rattle.dialogue.specs.declared.call.Call.{Call}
use Rattle.dialogue.specs.declared.indication.Indication.{Indication}
use Rattle.association_reading.specs.end_rules.Base.{Base}
use Rattle.association_reading.specs.end_rules.History.{Step}
use Rattle.association_line.specs.Line.{End}
use Rattle.association_line.specs.Feeding.{Feeds, Makes}

-- Octets that come to an end make the same steps and show the same, whoever feeds them.
abbrev pub OneFeed : Type 0
OneFeed =
    (base : Base) (end : End) (octets : List ℕ) (first second : List Step) (told later : List Indication) → Feeds base end octets first told → Feeds base end octets second later
    → (first ≡ second) × (told ≡ later)

-- A call makes the same steps, whoever makes it.
abbrev pub OneCall : Type 0
OneCall = (base : Base) (end : End) (call : Call) (first second : List Step) → Makes base end call first → Makes base end call second → first ≡ second
