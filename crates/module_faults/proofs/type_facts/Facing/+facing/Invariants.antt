use Rattle.std.proofs.Common.{◌≡◌, ◌+◌, ◌*◌, [], length}
use Rattle.operation_notation.specs.TreeView.{parts_of as trees}
use Rattle.module_faults.specs.Least.{least_from}
use Rattle.module_faults.specs.Facts.{parts_nesting, parts_tags, parts_show, type_facts, type_shows}
use Rattle.module_faults.specs.Known.{env_by}
use Rattle.module_faults.proofs.type_facts.Facing.+facing.Given as goal

abbrev pub decreases-of_type : goal.decreases-of_type
decreases-of_type l = 5 * l.levels

abbrev pub decreases-item : goal.decreases-item
decreases-item l = 5 * l.levels + 1

abbrev pub decreases-parts : goal.decreases-parts
decreases-parts l = 5 * l.levels + 1

abbrev pub decreases-constructed : goal.decreases-constructed
decreases-constructed l = 5 * l.levels + 2

abbrev pub decreases-choice : goal.decreases-choice
decreases-choice l = 5 * l.levels + 2

abbrev pub decreases-of_plain : goal.decreases-of_plain
decreases-of_plain l = 5 * l.levels + 3

abbrev pub invariant-parts-loop-rest : goal.invariant-parts-loop-rest
invariant-parts-loop-rest l = record {
  nesting : parts_nesting (type_facts (env_by l.self) l.levels) l.nesting (trees l.rest) ≡ parts_nesting (type_facts (env_by l.self) l.levels) 0 (trees l.parts);
  tags : parts_tags (type_facts (env_by l.self) l.levels) l.runs l.before.keys (trees l.rest) ≡ parts_tags (type_facts (env_by l.self) l.levels) l.runs [] (trees l.parts);
  shows : least_from l.least.found (parts_show (type_facts (env_by l.self) l.levels) (type_shows (env_by l.self) l.levels) l.runs l.before.keys (trees l.rest)) ≡ least_from l.fn.least.found (parts_show (type_facts (env_by l.self) l.levels) (type_shows (env_by l.self) l.levels) l.runs [] (trees l.parts));
}

abbrev pub decreases-parts-loop-rest : goal.decreases-parts-loop-rest
decreases-parts-loop-rest l = length l.rest
