-- Which units of the session may stand where they come: the phase, the functional units, the tokens, the
-- activities and the numbers (X.225 7; numbers and activities as in this project's profile).
use Rattle.std.specs.Prelude.{ℕ, suc, Bool, true, false, not, ◌&&◌, ◌||◌, nat_eq, nat_le, if◌then◌else◌, Option, Some, None}
use Rattle.osi_base.specs.declared.session_word.SessionWord.{SessionWord}
use Rattle.osi_base.specs.declared.session_word.SessionWord.TheVariants as units
use Rattle.osi_base.specs.Limits.{most_marks}
use Rattle.dialogue.specs.declared.config.Phase.{Phase}
use Rattle.dialogue.specs.declared.config.Phase.TheVariants.{Opening, Recovering}
use Rattle.end_rules.specs.Base.{Base, is_direct, is_reliable}
use Rattle.end_rules.specs.Sets.{next_number}
use Rattle.end_rules.specs.State.{Body, Awaited, RestartOf, InterruptOf, DiscardOf, ReleaseOf, Transfer, Receiving, is_up, is_joined, is_carrying, is_current, is_ending, is_suspended, highest, pieces_of}
use Rattle.end_rules.specs.Units.{has_units, needed_units, selected_with, has_version_two, has_marks, has_restarts, has_typed_data, has_activities, has_token}

-- up, and the peer has the turn
abbrev pub is_peers : Body → Bool
is_peers body = is_up body.link.phase && not body.link.turn

-- ---- the association

-- own CN sent, and neither accepted nor refused
abbrev pub is_opening : Phase → Bool
is_opening Opening = true
is_opening Recovering = true
is_opening _ = false

abbrev pub asked_to_open : Base → Body → Bool
asked_to_open base body = base.initiator && is_carrying body.link.stage && is_opening body.link.phase

-- a CN comes where an own CC was sent and no CN came
abbrev pub may_connect : Base → Body → Bool
may_connect base body = not base.initiator && is_joined body.link.stage

-- an AC names version 2 and the units that the mode can't do without
abbrev pub may_accept : Base → Body → Option ℕ → Option ℕ → Bool
may_accept base body version requirements =
    asked_to_open base body && has_version_two version && has_units (needed_units base.mode) (selected_with base.mode requirements)

-- an initiator releases, in reliable mode with the turn and with no activity in progress
abbrev pub may_finish : Base → Body → Bool
may_finish base body =
    not base.initiator && is_up body.link.phase && (not (is_reliable base.mode) || not body.link.turn && not body.receiving.active)

abbrev pub awaits_release : Awaited → Bool
awaits_release ReleaseOf = true
awaits_release _ = false

abbrev pub may_abort : Body → Bool
may_abort body = is_joined body.link.stage || is_carrying body.link.stage

-- ---- data

-- in reliable mode the peer has the turn and its activity is in progress
abbrev pub may_send_data : Base → Body → Bool
may_send_data base body = is_up body.link.phase && (not (is_reliable base.mode) || not body.link.turn && body.receiving.active)

abbrev pub may_send_typed : Body → Bool
may_send_typed body = is_up body.link.phase && has_typed_data body.link.selected

-- ---- marks, restarts and tokens

-- the number of the next mark that comes: in reliable mode of the peer's activity
abbrev pub next_coming : Base → Body → ℕ
next_coming base body = if is_reliable base.mode then suc (highest body.receiving.pieces) else next_number body.saved

abbrev pub may_mark : Base → Body → ℕ → Bool
may_mark base body number =
    is_peers body && has_marks body.link.selected && (not (is_reliable base.mode) || body.receiving.active) &&
    nat_eq number (next_coming base body) && nat_le number most_marks

-- the lowest mark of the transfer in progress that isn't confirmed
abbrev pub is_next_confirmed : Option Transfer → ℕ → Bool
is_next_confirmed None number = false
is_next_confirmed (Some transfer) number =
    not (is_suspended transfer.progress) && nat_eq number (suc transfer.confirmed) && nat_le number (highest transfer.pieces)

-- in direct mode any, which is passed over
abbrev pub may_confirm_mark : Base → Body → ℕ → Bool
may_confirm_mark base body number =
    is_up body.link.phase && has_marks body.link.selected && (not (is_reliable base.mode) || is_next_confirmed body.sending.current number)

abbrev pub may_restart : Body → ℕ → Bool
may_restart body number =
    is_up body.link.phase && has_restarts body.link.selected && nat_le 1 number && nat_le number (next_number body.saved)

abbrev pub awaits_restart : Awaited → ℕ → Bool
awaits_restart (RestartOf own) number = nat_eq own number
awaits_restart _ number = false

-- GT moves a token in direct mode; without a token item it only stands in front of another unit
abbrev pub may_give : Base → Body → Option ℕ → Bool
may_give base body None = true
may_give base body (Some tokens) = is_direct base.mode && has_marks body.link.selected && is_peers body

abbrev pub may_please : Base → Body → Option ℕ → Bool
may_please base body None = true
may_please base body (Some tokens) = is_up body.link.phase && has_token base body

-- GTC moves all tokens in reliable mode, while no activity is in progress
abbrev pub may_give_all : Base → Body → Bool
may_give_all base body = is_reliable base.mode && is_peers body && not body.receiving.active

-- ---- activities, in reliable mode

abbrev pub may_begin : Body → Bool
may_begin body = is_peers body && has_activities body.link.selected && not body.receiving.active

abbrev pub may_start : Body → ℕ → Bool
may_start body activity = may_begin body && nat_eq activity (suc body.receiving.last)

-- a resumption names the last activity and one of its marks, or 0; or the next activity and 0
abbrev pub may_resume_at : Receiving → ℕ → ℕ → Bool
may_resume_at receiving activity mark =
    nat_eq activity receiving.last && nat_le mark (highest receiving.pieces) ||
    nat_eq activity (suc receiving.last) && nat_eq mark 0

abbrev pub may_resume : Body → ℕ → ℕ → Bool
may_resume body activity mark = may_begin body && may_resume_at body.receiving activity mark

-- the peer's activity is in progress
abbrev pub is_receiving : Body → Bool
is_receiving body = is_up body.link.phase && body.receiving.active

abbrev pub may_end : Body → ℕ → Bool
may_end body number = is_receiving body && nat_eq number (suc (highest body.receiving.pieces))

abbrev pub may_confirm_end : Body → ℕ → Bool
may_confirm_end body number =
    is_up body.link.phase && is_current is_ending body.sending.current && nat_eq number (suc (highest (pieces_of body.sending.current)))

abbrev pub awaits_interrupt : Awaited → Bool
awaits_interrupt InterruptOf = true
awaits_interrupt _ = false

abbrev pub awaits_discard : Awaited → Bool
awaits_discard DiscardOf = true
awaits_discard _ = false

-- ---- all units

abbrev pub is_in_place : Base → Body → SessionWord → Bool
is_in_place base body (units.Connect parameters) = may_connect base body
is_in_place base body (units.Accept options version initial requirements user) = may_accept base body version requirements
is_in_place base body (units.Refuse transport reason user) = asked_to_open base body
is_in_place base body (units.Finish transport user) = may_finish base body
is_in_place base body (units.Disconnect user) = awaits_release body.link.awaits
is_in_place base body (units.Abort transport user) = may_abort body
is_in_place base body units.AbortAccept = may_abort body
is_in_place base body (units.GiveTokens tokens) = may_give base body tokens
is_in_place base body (units.PleaseTokens tokens user) = may_please base body tokens
is_in_place base body units.GiveTokensConfirm = may_give_all base body
is_in_place base body units.GiveTokensAck = is_up body.link.phase && body.link.gave
is_in_place base body (units.TypedData user) = may_send_typed body
is_in_place base body (units.Data user) = may_send_data base body
is_in_place base body (units.Mark number) = may_mark base body number
is_in_place base body (units.MarkAck number) = may_confirm_mark base body number
is_in_place base body (units.Resynchronize number user) = may_restart body number
is_in_place base body (units.ResynchronizeAck number user) = awaits_restart body.link.awaits number
is_in_place base body (units.ActivityStart activity) = may_start body activity
is_in_place base body (units.ActivityResume activity mark) = may_resume body activity mark
is_in_place base body (units.ActivityInterrupt reason) = is_receiving body
is_in_place base body units.ActivityInterruptAck = awaits_interrupt body.link.awaits
is_in_place base body (units.ActivityDiscard reason) = is_receiving body
is_in_place base body units.ActivityDiscardAck = awaits_discard body.link.awaits
is_in_place base body (units.ActivityEnd number) = may_end body number
is_in_place base body (units.ActivityEndAck number) = may_confirm_end body number
