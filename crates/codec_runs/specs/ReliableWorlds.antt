-- Two ends of reliable mode with the codecs whose lines are octets.
use Rattle.std.specs.Prelude.{◌≡◌, List, true, Some}
use Rattle.dialogue.specs.declared.config.Config.{Config}
use Rattle.dialogue.specs.declared.config.Mode.TheVariants.{Reliable}
use Rattle.dialogue.specs.declared.indication.Indication.{Indication}
use Rattle.stub_tables.specs.declared.tables.Tables.{Tables}
use Rattle.end_rules.specs.Base.{Fault}
use Rattle.end_rules.specs.Messages.{Message}
use Rattle.end_rules.specs.State.{Body, holds_turn}
use Rattle.end_rules.specs.Reacting.{Fails}
use Rattle.agreement.specs.Sets.{Role}
use Rattle.end_model.specs.BothEnds.{Common, base_at}
use Rattle.association_worlds.specs.association_reading.Front.{Intake, first_in}
use Rattle.association_worlds.specs.association_reading.Reacting.{react_to}
use Rattle.association_worlds.specs.Worlds.{LineEnds, end_at, Spoken}
use Rattle.association_worlds.specs.Laws.{IsSpelled}
use Rattle.transfer_laws.specs.Laws.{reliable_ends}
use Rattle.said_worlds.specs.Laws.{AreEndsIn}

-- of every module and every two configurations that may be ends of reliable mode
abbrev pub EverInWorlds : (Common → LineEnds → Type 0) → Type 0
EverInWorlds Law =
    (tables : Tables) (a b : Config) → AreEndsIn Reliable tables a b →
    (ends : LineEnds) → Spoken (reliable_ends tables a b) ends → Law (reliable_ends tables a b) ends

abbrev pub ReliableWorldsAreSpelled : Type 0
ReliableWorldsAreSpelled = EverInWorlds IsSpelled

-- Neither finds a fault in what came.
abbrev pub ReliableWorldsNeverFail : Type 0
ReliableWorldsNeverFail =
    EverInWorlds (λ common ends.
    (role : Role) (intake : Intake) (fault : Fault) (body : Body) (aborts : List Message) (shown : List Indication) →
    (end_at role ends).line.came ≡ Some intake → react_to (base_at role common) (end_at role ends).body (first_in intake) ≡ Some (Fails fault body aborts shown) → ⊥)

-- One holder: at no moment do both ends hold the turn.
abbrev pub ReliableWorldsHaveOneHolder : Type 0
ReliableWorldsHaveOneHolder = EverInWorlds (λ common ends. holds_turn ends.a.body ≡ true → holds_turn ends.b.body ≡ true → ⊥)
