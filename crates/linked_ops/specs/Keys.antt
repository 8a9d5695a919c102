-- Keys of open invocations.
use Rattle.std.specs.Prelude.{Bool, true, false, not, ◌&&◌, Option, Some, None}
use Rattle.std.specs.Ordering.{int_eq}
use Rattle.linked_ops.specs.declared.key.Key.{Key}

abbrev pub same_bool : Bool → Bool → Bool
same_bool true b = b
same_bool false b = not b

abbrev pub same_key : Key → Key → Bool
same_key a b = same_bool a.own b.own && int_eq a.id b.id

-- the key above is this one
abbrev pub is_under : Key → Option Key → Bool
is_under key None = false
is_under key (Some above) = same_key above key
