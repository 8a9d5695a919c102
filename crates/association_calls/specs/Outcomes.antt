-- The last rows of outcomes.
use Rattle.std.specs.Prelude.{ℕ, None, Ok, Err, if◌then◌else◌}
use Rattle.stub_tables.specs.declared.apdu.Apdu.{Apdu}
use Rattle.dialogue.specs.declared.call.CallRefusal.TheVariants as refusals
use Rattle.end_rules.specs.Base.{Base}
use Rattle.end_rules.specs.State.{Body}
use Rattle.end_rules.specs.Invoking.{Reply, lacks_carrier, is_too_long, is_queue_full}

-- an outcome for a context
abbrev pub can_send_on : Base → Body → ℕ → Apdu → Reply
can_send_on base body context apdu =
    if lacks_carrier base body context then Err refusals.NoContext
    else (if is_too_long base apdu then Err refusals.TooLong
    else (if is_queue_full base body then Err refusals.QueueFull
    else Ok None))
