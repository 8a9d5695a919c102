-- Two wrong copies of what an end does by itself, to tell them from the right one: an end that leads without the turn, and one that starts
-- the next item before the end of the last is confirmed.
use Rattle.std.specs.Prelude.{Bool, ◌&&◌, Option, Some, None, if◌then◌else◌}
use Rattle.end_rules.specs.Base.{Base, is_reliable}
use Rattle.end_rules.specs.State.{Body, Transfer, is_up, is_free, is_empty, is_ending}
use Rattle.end_rules.specs.ByItself.{OwnAct, leads, next_start, next_in}

-- up, nothing awaited and no own alteration unanswered, whoever has the turn
abbrev pub leads_without_turn : Base → Body → Bool
leads_without_turn base body = is_reliable base.mode && is_up body.link.phase && is_free body.link.awaits && is_empty body.sets.own

abbrev pub next_without_turn : Base → Body → Option OwnAct
next_without_turn base body = if leads_without_turn base body then next_in base body body.sending.current else None

-- the next item, as soon as the end of the transfer in progress was sent
abbrev pub next_in_early : Base → Body → Option Transfer → Option OwnAct
next_in_early base body None = next_in base body None
next_in_early base body (Some transfer) =
    if is_ending transfer.progress then next_start base body body.sending.queue else next_in base body (Some transfer)

abbrev pub next_early : Base → Body → Option OwnAct
next_early base body = if leads base body then next_in_early base body body.sending.current else None
