-- Room and numbers for one more invocation.
use Rattle.std.specs.Prelude.{◌≡◌, ◌<◌, length, not, ◌&&◌, nat_le, true, false, Option, Some, None, Ok, Err, if◌then◌else◌}
use Rattle.osi_base.specs.Limits.{last_invocation, most_open}
use Rattle.stub_tables.specs.declared.operation.Operation.{Operation}
use Rattle.stub_tables.specs.Codes.{is_silent}
use Rattle.dialogue.specs.declared.call.CallRefusal.{CallRefusal}
use Rattle.dialogue.specs.declared.call.CallRefusal.TheVariants as refusals
use Rattle.end_rules.specs.Base.{Base}
use Rattle.end_rules.specs.State.{Body, opens_of}
use Rattle.end_rules.specs.Invoking.{Reply, next_id, is_queue_full}

-- there is a number, and where one is opened there is room for it
pub record HasRoom (body : Body) (operation : Operation) : Type 0 where
  pub numbers : body.calls.made < last_invocation
  pub room : is_silent operation ≡ false → length (opens_of true body.calls.opens) < most_open

-- the last rows of an invocation
abbrev pub last_rows : Base → Body → Operation → Reply
last_rows base body operation =
    if not (is_silent operation) && nat_le most_open (length (opens_of true body.calls.opens)) then Err refusals.TooManyOpen
    else (if nat_le last_invocation body.calls.made then Err refusals.NumbersSpent
    else (if is_queue_full base body then Err refusals.QueueFull
    else Ok (Some (next_id body))))

abbrev pub IsRoomy : Base → Body → Operation → Option CallRefusal → Type 0
IsRoomy base body operation None = HasRoom body operation × (last_rows base body operation ≡ Ok (Some (next_id body)))
IsRoomy base body operation (Some refusals.NoMemory) = Unit {0}
IsRoomy base body operation (Some refusal) = last_rows base body operation ≡ Err refusal
