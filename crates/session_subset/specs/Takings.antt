-- What a machine passes over, and what it may take (X.225 7).
use Rattle.std.specs.Prelude.{ℕ, nat_eq, nat_le, nat_lt, Bool, true, false, not, ◌&&◌, ◌||◌, if◌then◌else◌, Option, None, Result, Ok, Err}
use Rattle.osi_base.specs.declared.session_word.SessionWord.{SessionWord}
use Rattle.osi_base.specs.declared.session_word.SessionWord.TheVariants.{Connect, Accept, Refuse, Finish, Disconnect, Abort, AbortAccept, GiveTokens, PleaseTokens, GiveTokensConfirm, GiveTokensAck, TypedData, Data, Mark, MarkAck, Resynchronize, ResynchronizeAck, ActivityStart, ActivityResume, ActivityInterrupt, ActivityInterruptAck, ActivityDiscard, ActivityDiscardAck, ActivityEnd, ActivityEndAck}
use Rattle.osi_base.specs.Limits.{most_marks}
use Rattle.session_subset.specs.declared.fault.SessionFault.{SessionFault}
use Rattle.session_subset.specs.declared.fault.SessionFault.TheVariants.{OutOfPlace}
use Rattle.session_subset.specs.declared.session.Taken.{Taken}
use Rattle.session_subset.specs.declared.session.Taken.TheVariants.{Passed, Word}
use Rattle.session_subset.specs.declared.state.SessionRole.{SessionRole}
use Rattle.session_subset.specs.declared.state.SessionPhase.{SessionPhase}
use Rattle.session_subset.specs.declared.state.SessionPhase.TheVariants.{Idle, Opening, Releasing, Broken, Recovering}
use Rattle.session_subset.specs.declared.state.Awaited.{Awaited}
use Rattle.session_subset.specs.declared.state.Awaited.TheVariants as awaiting
use Rattle.session_subset.specs.declared.state.OwnActivity.{OwnActivity}
use Rattle.session_subset.specs.declared.state.PeerActivity.{PeerActivity}
use Rattle.session_subset.specs.declared.state.SessionState.{SessionState}
use Rattle.session_subset.specs.Units.{version_is_2, requirements_of, selected, are_enough}
use Rattle.session_subset.specs.Steps.{took}
use Rattle.session_subset.specs.Reading.{after}
use Rattle.session_subset.specs.Requests.{is_up, is_next, is_up_to_next, is_waiting, is_ending, is_in_progress, owes_nothing}

-- ---- what is passed over

-- of two restarts that cross the one to the lower mark wins, on a tie the initiator's (this project's
-- own rule); number is the peer's, own this end's
abbrev pub wins_against : SessionRole → ℕ → ℕ → Bool
wins_against role own number = nat_lt number own || (nat_eq number own && not role.initiator)

-- it answers the own request that is awaited; an RA is an answer to RS whatever its number
abbrev pub is_answer : Awaited → SessionWord → Bool
is_answer (awaiting.Restart own) (ResynchronizeAck number user) = true
is_answer awaiting.Interrupt ActivityInterruptAck = true
is_answer awaiting.Discard ActivityDiscardAck = true
is_answer awaiting.Release (Disconnect user) = true
is_answer _ _ = false

-- it is a restart that wins against the own one
abbrev pub is_winner : SessionRole → Awaited → SessionWord → Bool
is_winner role (awaiting.Restart own) (Resynchronize number user) = wins_against role own number
is_winner role _ _ = false

-- a release or an abort is heard at any time
abbrev pub ends_association : SessionWord → Bool
ends_association (Finish transport user) = true
ends_association (Abort transport user) = true
ends_association AbortAccept = true
ends_association _ = false

-- while an own request is unanswered all else is passed over (X.225 7.24, 7.31, 7.33)
abbrev pub is_purged : SessionRole → Awaited → SessionWord → Bool
is_purged role awaited word =
    is_waiting awaited && not ((is_answer awaited word || is_winner role awaited word) || ends_association word)

-- a GT or PT without a token item stands in front of another unit and moves nothing
abbrev pub moves_nothing : SessionWord → Bool
moves_nothing (GiveTokens None) = true
moves_nothing (PleaseTokens None user) = true
moves_nothing _ = false

-- ---- what may be taken

-- the last mark of the peer's activity, or in direct mode of the association
abbrev pub peer_last : SessionRole → SessionState → ℕ
peer_last role state = if role.reliable then state.peer.marks else state.mark

-- a CONNECT was sent on this connection and isn't answered
abbrev pub is_called : SessionPhase → Bool
is_called Opening = true
is_called Recovering = true
is_called _ = false

-- a CONNECT may come: the association isn't there, or is kept to be recovered
abbrev pub is_callable : SessionPhase → Bool
is_callable Idle = true
is_callable Opening = true
is_callable Broken = true
is_callable _ = false

abbrev pub is_releasing : SessionPhase → Bool
is_releasing Releasing = true
is_releasing _ = false

abbrev pub awaits_restart : Awaited → ℕ → Bool
awaits_restart (awaiting.Restart own) number = nat_eq number own
awaits_restart _ number = false

abbrev pub awaits_interrupt : Awaited → Bool
awaits_interrupt awaiting.Interrupt = true
awaits_interrupt _ = false

abbrev pub awaits_discard : Awaited → Bool
awaits_discard awaiting.Discard = true
awaits_discard _ = false

-- an acceptance has version 2 and selects what the mode needs
abbrev pub is_whole : SessionRole → SessionState → Option ℕ → Option ℕ → Bool
is_whole role state version requirements =
    version_is_2 version && are_enough role.reliable (selected role.reliable state.proposed (requirements_of requirements))

-- in reliable mode the peer has the turn, and its activity is in progress
abbrev pub has_activity : SessionRole → SessionState → Bool
has_activity role state = not role.reliable || (not state.turn && state.peer.active)

-- the peer has the turn, and none of its activities is in progress
abbrev pub peer_rests : SessionState → Bool
peer_rests state = not state.turn && not state.peer.active

-- a mark that is confirmed is the lowest unconfirmed of the own activity in progress; in direct mode
-- it may be any
abbrev pub is_lowest : SessionRole → OwnActivity → ℕ → Bool
is_lowest role own number =
    not role.reliable || (is_in_progress own.progress && (is_next number own.confirmed && nat_le number own.marks))

-- a resumption names the last activity and one of its marks that is kept, or 0; or the next and 0
abbrev pub is_resumable : PeerActivity → ℕ → ℕ → Bool
is_resumable peer activity mark =
    (nat_le 1 activity && (nat_eq activity peer.number && nat_le mark peer.marks))
    || (is_next activity peer.number && nat_eq mark 0)

-- may the word be taken, if it isn't passed over? The unit that X.225 has for it is selected, and all
-- but an opening, DN and an abort need an association that stands. A request may not come while an
-- earlier one isn't answered, nor a giving while an own one isn't.
abbrev pub may_take : SessionRole → SessionState → SessionWord → Bool
may_take role state (Connect connect) = (not role.initiator && not state.met) && is_callable state.phase
may_take role state (Accept options version initial requirements user) =
    ((role.initiator && state.met) && is_called state.phase) && is_whole role state version requirements
may_take role state (Refuse transport reason user) = (role.initiator && state.met) && is_called state.phase
may_take role state (Data user) = is_up state.phase && has_activity role state
may_take role state (TypedData user) = is_up state.phase && state.units.typed_data
may_take role state (Mark number) =
    ((is_up state.phase && state.units.minor_synchronize) && (not state.turn && (not role.reliable || state.peer.active)))
    && (is_next number (peer_last role state) && nat_le number most_marks)
may_take role state (MarkAck number) =
    (is_up state.phase && state.units.minor_synchronize) && is_lowest role state.own number
may_take role state (Resynchronize number user) =
    ((is_up state.phase && state.units.resynchronize) && owes_nothing state.owed)
    && is_up_to_next number state.mark
may_take role state (ResynchronizeAck number user) = is_up state.phase && awaits_restart state.awaited number
may_take role state (ActivityStart activity) =
    (is_up state.phase && state.units.activity_management) && (peer_rests state && is_next activity state.peer.number)
may_take role state (ActivityResume activity mark) =
    (is_up state.phase && state.units.activity_management) && (peer_rests state && is_resumable state.peer activity mark)
may_take role state (ActivityEnd number) =
    ((is_up state.phase && state.units.activity_management) && owes_nothing state.owed)
    && (state.peer.active && is_next number state.peer.marks)
may_take role state (ActivityInterrupt reason) =
    ((is_up state.phase && state.units.activity_management) && owes_nothing state.owed) && state.peer.active
may_take role state (ActivityDiscard reason) =
    ((is_up state.phase && state.units.activity_management) && owes_nothing state.owed) && state.peer.active
may_take role state (ActivityEndAck number) =
    is_up state.phase && (is_ending state.own.progress && is_next number state.own.marks)
may_take role state ActivityInterruptAck = is_up state.phase && awaits_interrupt state.awaited
may_take role state ActivityDiscardAck = is_up state.phase && awaits_discard state.awaited
may_take role state (Disconnect user) = is_releasing state.phase
may_take role state GiveTokensAck = is_up state.phase && state.giving
may_take role state (GiveTokens tokens) =
    (is_up state.phase && state.units.minor_synchronize) && (not role.reliable && not state.turn)
may_take role state GiveTokensConfirm =
    ((is_up state.phase && state.units.activity_management) && owes_nothing state.owed) && peer_rests state
may_take role state (PleaseTokens tokens user) = is_up state.phase && state.units.minor_synchronize
may_take role state (Finish transport user) =
    ((not role.initiator && is_up state.phase) && owes_nothing state.owed) && (not role.reliable || peer_rests state)
may_take role state (Abort transport user) = true
may_take role state AbortAccept = true

-- in direct mode a mark's confirmation is passed over
abbrev pub is_idle_ack : SessionRole → SessionWord → Bool
is_idle_ack role (MarkAck number) = not role.reliable
is_idle_ack role _ = false

-- ---- the answer

abbrev pub taking : SessionRole → SessionState → SessionWord → Result Taken SessionFault
taking role state word =
    if is_purged role state.awaited word then Ok Passed
    else if moves_nothing word then Ok Passed
    else if not (may_take role state word) then Err OutOfPlace
    else if is_idle_ack role word then Ok Passed
    else Ok (Word word)

-- the state afterwards: what is passed over or refused changes nothing
abbrev pub after_taking : SessionRole → SessionState → Result Taken SessionFault → SessionState
after_taking role state (Ok (Word word)) = after role state (took word)
after_taking role state (Ok Passed) = state
after_taking role state (Err fault) = state
