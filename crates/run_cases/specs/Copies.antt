-- Two wrong copies of what is shared, to tell them from the right ones: a set that drops a context at its proposal, and a reading by
-- the newest set.
use Rattle.std.specs.Prelude.{ℕ, List, [], ◌∷◌, ◌++◌, map, if◌then◌else◌, Option}
use Rattle.osi_base.specs.declared.layer_words.Side.{Side}
use Rattle.osi_base.specs.declared.layer_words.SetItem.{SetItem}
use Rattle.osi_base.specs.declared.syntax.Pair.{Pair}
use Rattle.end_rules.specs.Sets.{with_deleted}
use Rattle.osi_base.specs.SetPlaces.{pair_of}
use Rattle.end_rules.specs.Messages.{Message, Session, OfData, DataValue, AlterContext}
use Rattle.end_rules.specs.History.{Step, sent}
use Rattle.end_rules.specs.World.{World, Ends, Shared, is_side, base_at, shared_first, shared_after, shared_at}
use Rattle.run_laws.specs.Passing.{sent_in, values_in}

-- what a proposal takes out of the set at once
abbrev pub dropped_by : Message → Shared → Shared
dropped_by (Session (OfData (AlterContext add delete))) shared = record shared { set = with_deleted delete (map (λ (k : ℕ). 0) delete) shared.set }
dropped_by _ shared = shared

abbrev pub dropped_at : Step → Shared → Shared
dropped_at (sent message) shared = dropped_by message shared
dropped_at _ shared = shared

-- the shared set that drops a context at its proposal
abbrev pub shared_dropping : Ends → World → Shared
shared_dropping ends [] = shared_first ends.a
shared_dropping ends (m ∷ w) = shared_after (base_at ends m.side) m.side m.step (dropped_at m.step (shared_dropping ends w))

abbrev pub set_dropping : Ends → World → List SetItem
set_dropping ends w = (shared_dropping ends w).set

-- the newest set, at every moment
abbrev pub set_newest : Ends → World → World → List SetItem
set_newest ends newest w = (shared_at ends newest).set

-- the pairs that the set of each moment gives the values that one end sends at it, the oldest first
abbrev pub pairs_under : List SetItem → List Message → List (Option Pair)
pairs_under set [] = []
pairs_under set (message ∷ messages) = map (λ (v : DataValue). pair_of set v.id) (values_in message) ++ pairs_under set messages

abbrev pub pairs_by : (World → List SetItem) → Side → World → List (Option Pair)
pairs_by set side [] = []
pairs_by set side (m ∷ w) = if is_side side m.side then pairs_by set side w ++ pairs_under (set w) (sent_in m.step) else pairs_by set side w
