-- Octets that come to an end of bare mode are read in one way, however they are cut.
use Rattle.std.specs.Prelude.{◌≡◌, ℕ, List, ◌++◌}
use Rattle.stub_tables.specs.declared.tables.Tables.{Tables}
use Rattle.stub_tables.specs.Readable.{IsReadable}
use Rattle.dialogue.specs.declared.config.Config.{Config}
use Rattle.dialogue.specs.declared.indication.Indication.{Indication}
use Rattle.end_rules.specs.History.{Step}
use Rattle.bare_end.specs.end_wire.Bare.{bare_base}
use Rattle.bare_end.specs.end_wire.Line.{End, after_all}
use Rattle.bare_end.specs.end_wire.Feeding.{Feeds}

-- Octets that come to an end make the same steps and show the same, whoever feeds them.
abbrev pub OneFeed : Type 0
OneFeed =
    (tables : Tables) (config : Config) (end : End) (octets : List ℕ) (first second : List Step) (told later : List Indication) → IsReadable tables
    → Feeds (bare_base tables config) end octets first told → Feeds (bare_base tables config) end octets second later → (first ≡ second) × (told ≡ later)

-- Feeding one part and then the other shows what feeding both at once shows, and leads to the same end.
abbrev pub AnyCutting : Type 0
AnyCutting =
    (tables : Tables) (config : Config) (end : End) (front back : List ℕ) (first second whole : List Step) (told later all : List Indication) → IsReadable tables
    → Feeds (bare_base tables config) end front first told → Feeds (bare_base tables config) (after_all (bare_base tables config) end first) back second later
    → Feeds (bare_base tables config) end (front ++ back) whole all
    → (all ≡ told ++ later) × (after_all (bare_base tables config) end whole ≡ after_all (bare_base tables config) (after_all (bare_base tables config) end first) second)
