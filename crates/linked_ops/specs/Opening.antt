-- What opening a key answers.
use Rattle.std.specs.Prelude.{◌≡◌, true, false, List, [], ◌∷◌, ◌++◌, Option, Some, Result, Ok, Err}
use Rattle.linked_ops.specs.declared.key.Key.{Key}
use Rattle.linked_ops.specs.declared.key.ForestRefusal.{ForestRefusal}
use Rattle.linked_ops.specs.declared.key.ForestRefusal.TheVariants.{Present, ParentAbsent, NoMemory}
use Rattle.linked_ops.specs.Entries.{Entry, is_open, is_open_or_none}

-- the first refusal that holds, or the key stands last; a refused call changes nothing
abbrev pub IsOpened : Key → Option Key → List Entry → List Entry → Result (Unit {0}) ForestRefusal → Type 0
IsOpened key above old new (Ok done) = (is_open key old ≡ false) × (is_open_or_none above old ≡ true) × (new ≡ old ++ (key, above) ∷ [])
IsOpened key above old new (Err (Present k)) = (is_open key old ≡ true) × (k ≡ key) × (new ≡ old)
IsOpened key above old new (Err (ParentAbsent k)) = (is_open key old ≡ false) × (above ≡ Some k) × (is_open k old ≡ false) × (new ≡ old)
IsOpened key above old new (Err NoMemory) = new ≡ old
