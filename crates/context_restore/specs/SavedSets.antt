-- The sets that can be restored: those of the marks, and the one from before an activity (this project's own rules).
use Rattle.std.specs.Prelude.{◌≡◌, ◌≢◌, ℕ, ◌+◌, Bool, ◌||◌, not, nat_eq, nat_lt, max, if◌then◌else◌, List, [], ◌∷◌, length, Option, Some, None}
use Rattle.osi_base.specs.Limits.{most_marks}
use Rattle.context_sets.specs.Sets.{ContextSet}
use Rattle.context_restore.specs.declared.refusal.SaveRefusal.{SaveRefusal}
use Rattle.context_restore.specs.declared.refusal.SaveRefusal.TheVariants.{NoSuchMark, MarksFull, NoActivity, NoMemory}
use Rattle.context_restore.specs.Versions.{Version, root, set_of, below}

-- the nodes have the newest first; inter is the set from before the activity, active whether one is in progress
pub record SavedSets : Type 0 where
  pub nodes : List Version
  pub inter : ContextSet
  pub active : Bool

-- a set with the number under which it is saved
pub record Mark : Type 0 where
  pub number : ℕ
  pub set : ContextSet

-- the saved sets, the newest first, down to number 0
abbrev pub marks_of : List Version → List Mark
marks_of [] = []
marks_of (version ∷ versions) = record { number = length versions; set = set_of (version ∷ versions) } ∷ marks_of versions

-- the number of the next mark
abbrev pub next_number : List Version → ℕ
next_number nodes = max 1 (length nodes)

-- no more than 65,536 marks are kept, number 0 not counted
abbrev pub mark_refusal : SavedSets → Option SaveRefusal
mark_refusal saved =
    if nat_lt most_marks (length saved.nodes) then Some MarksFull
    else if not saved.active then Some NoActivity
    else None

-- a restart goes to a number from 1 to the next
abbrev pub restart_refusal : SavedSets → ℕ → Option SaveRefusal
restart_refusal saved n =
    if nat_eq n 0 || nat_lt (next_number saved.nodes) n then Some (NoSuchMark n)
    else if not saved.active then Some NoActivity
    else None

-- a resumption begins at nothing, or at a mark that is kept
abbrev pub resume_refusal : SavedSets → ℕ → Option SaveRefusal
resume_refusal saved n =
    if nat_eq n 0 || nat_lt n (length saved.nodes) then None else Some (NoSuchMark n)

-- what a resumption leaves, and the set that it answers, where the present set is now
abbrev pub resumed_nodes : SavedSets → ℕ → ContextSet → List Version
resumed_nodes saved n now = if nat_eq n 0 then root now ∷ [] else below (n + 1) saved.nodes

abbrev pub resumed_set : SavedSets → ℕ → ContextSet → ContextSet
resumed_set saved n now = if nat_eq n 0 then now else set_of (below (n + 1) saved.nodes)

-- an activity that ends, is interrupted or discarded is in progress
abbrev pub leave_refusal : SavedSets → Option SaveRefusal
leave_refusal saved = if saved.active then None else Some NoActivity

-- what is refused is the first refusal; want of memory may come always
abbrev pub IsRefused : Option SaveRefusal → SaveRefusal → Type 0
IsRefused first answer = answer ≢ NoMemory → first ≡ Some answer
