-- A base whose spellings nothing asks for.
use Rattle.std.specs.Prelude.{ℕ, List, [], Bool, not, ◌||◌, is_some, Err}
use Rattle.osi_base.specs.declared.layer_words.SetItem.{SetItem}
use Rattle.stub_tables.specs.declared.tables.Tables.{Tables}
use Rattle.dialogue.specs.declared.config.Config.{Config}
use Rattle.association_sets.specs.end_rules.Base.{Base, Spellings, BadReject, base_of}
use Rattle.association_sets.specs.end_rules.Sets.{has_parity}
use Rattle.osi_base.specs.SetPlaces.{pair_of}
use Rattle.association_sets.specs.end_rules.Faults.{rtse_fault}

abbrev pub no_spellings : Spellings
no_spellings =
    record { apdu = λ syntax apdu. []; head = λ syntax octets. BadReject; transfer = λ item. []; arrived = λ set octets. Err rtse_fault }

abbrev pub plain_base : Tables → Config → Base
plain_base tables config = base_of tables config no_spellings

-- the identifier is in the set, or of the other end
abbrev pub is_taken_id : Bool → List SetItem → ℕ → Bool
is_taken_id initiates held k = is_some (pair_of held k) || not (has_parity initiates k)
