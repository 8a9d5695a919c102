-- What a feed does, and what is left where memory was refused in it.
use Rattle.std.specs.Prelude.{◌≡◌, ℕ, List}
use Rattle.dialogue.specs.declared.config.Phase.TheVariants.{Dead}
use Rattle.dialogue.specs.declared.indication.Indication.{Indication}
use Rattle.end_rules.specs.History.{Step, History, fed}
use Rattle.association_line.specs.Line.{after, after_all, going_on}
use Rattle.association_line.specs.Feeding.{Feeds, Begins}
use Rattle.association_end.specs.View.{EndView, base, Stepped, StandsFor}

-- The octets were fed: the steps were made that feeding them makes, and the indications are those that are shown.
pub record Fed (old new : EndView) (octets : List ℕ) (shown : List Indication) : Type 0 where
  pub steps : List Step
  pub feeds : Feeds (base old) old.end octets steps shown
  pub made : Stepped old new steps
  -- where it stood for a history, it stands for it with these steps
  pub stands : (h : History) → StandsFor old h → StandsFor new (going_on h steps)

-- What the end did with these octets begins what it does with them, and what waits is what waited and the messages that are due for
-- that, each whole.
pub record BeganFeed (old new : EndView) (octets : List ℕ) : Type 0 where
  pub tables : new.tables ≡ old.tables
  pub config : new.config ≡ old.config
  pub steps : List Step
  pub begins : Begins (base old) (after (base old) old.end (fed octets)) steps
  pub due : new.end.line.waiting ≡ (after_all (base old) (after (base old) old.end (fed octets)) steps).line.waiting

-- An allocation was refused as these octets were fed: the end is dead.
pub record DiedFed (old new : EndView) (octets : List ℕ) : Type 0 where
  pub began : BeganFeed old new octets
  pub phase : new.end.body.link.phase ≡ Dead
