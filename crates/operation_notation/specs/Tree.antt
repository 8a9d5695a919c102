-- Types of the notation as trees (X.680 17; the profile has no other types). Each node has the place of its first token.
use Rattle.std.specs.Prelude.{ℕ, ◌+◌, Bool, max, List, Option}
use Rattle.notation_tokens.specs.declared.token.Located.{Located}
use Rattle.operation_notation.specs.declared.module.TagText.{TagText}
use Rattle.operation_notation.specs.declared.module.RangeText.{RangeText}
use Rattle.operation_notation.specs.declared.module.ItemText.{ItemText}
use Rattle.operation_notation.specs.declared.module.DfltText.{DfltText}

mutual
  -- a type: line and column, tag, and what it is without it
  pub data TypeTree : Type 0 where
    type_tree : ℕ → ℕ → Option TagText → PlainTree → TypeTree

  pub data PlainTree : Type 0 where
    boolean : PlainTree
    null : PlainTree
    integer : Option RangeText → PlainTree
    enumerated : List ItemText → PlainTree
    octets : Option RangeText → PlainTree
    bits : PlainTree
    object_id : PlainTree
    text : ℕ → PlainTree
    sequence_of : TypeTree → PlainTree
    set_of : TypeTree → PlainTree
    sequence : PartTrees → PlainTree
    set : PartTrees → PlainTree
    choice : PartTrees → PlainTree
    named : Located → PlainTree

  -- parts: name, type, whether it is optional, and its default
  pub data PartTrees : Type 0 where
    no_parts : PartTrees
    part : Located → TypeTree → Bool → Option DfltText → PartTrees → PartTrees

-- how deep types stand in one another
abbrev mutual
  pub depth : TypeTree → ℕ
  depth (type_tree line column tag plain) = depth_of_plain plain

  pub depth_of_plain : PlainTree → ℕ
  depth_of_plain boolean = 0
  depth_of_plain null = 0
  depth_of_plain (integer range) = 0
  depth_of_plain (enumerated items) = 0
  depth_of_plain (octets range) = 0
  depth_of_plain bits = 0
  depth_of_plain object_id = 0
  depth_of_plain (text kind) = 0
  depth_of_plain (sequence_of item) = depth item + 1
  depth_of_plain (set_of item) = depth item + 1
  depth_of_plain (sequence ps) = depth_of_parts ps
  depth_of_plain (set ps) = depth_of_parts ps
  depth_of_plain (choice ps) = depth_of_parts ps
  depth_of_plain (named name) = 0

  pub depth_of_parts : PartTrees → ℕ
  depth_of_parts no_parts = 0
  depth_of_parts (part name of optional dflt ps) = max (depth of + 1) (depth_of_parts ps)
