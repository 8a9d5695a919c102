-- The sets, and what an end receives, as the rules of one end see them.
use Rattle.association_sets.specs.end_rules.State as rules
use Rattle.association_pieces.specs.declared.sets.Sets.{Sets}
use Rattle.association_pieces.specs.declared.receiving.Receiving.{Receiving}

abbrev pub seen_sets : Sets → rules.Sets
seen_sets sets = record { held = sets.held; inter = sets.inter; own = sets.own.items }

abbrev pub seen_receiving : Receiving → rules.Receiving
seen_receiving r = record { last = r.last; pieces = r.pieces; was_handed = r.was_handed; active = r.active }
