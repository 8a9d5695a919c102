-- What a history says of a machine: one function for each thing that is read, from the machine's own
-- steps alone (X.225 7).
use Rattle.std.specs.Prelude.{ℕ, ◌-◌, Bool, true, false, if◌then◌else◌, [], ◌∷◌, Some}
use Rattle.osi_base.specs.declared.session_word.SessionWord.{SessionWord}
use Rattle.osi_base.specs.declared.session_word.SessionWord.TheVariants.{Connect, Accept, Refuse, Finish, Disconnect, Abort, AbortAccept, GiveTokens, GiveTokensConfirm, GiveTokensAck, Mark, MarkAck, Resynchronize, ResynchronizeAck, ActivityStart, ActivityResume, ActivityInterrupt, ActivityInterruptAck, ActivityDiscard, ActivityDiscardAck, ActivityEnd, ActivityEndAck}
use Rattle.session_subset.specs.declared.units.FunctionalUnits.{FunctionalUnits}
use Rattle.session_subset.specs.declared.state.SessionRole.{SessionRole}
use Rattle.session_subset.specs.declared.state.SessionPhase.{SessionPhase}
use Rattle.session_subset.specs.declared.state.SessionPhase.TheVariants.{Idle, Opening, Up, Releasing, Broken, Recovering, Over}
use Rattle.session_subset.specs.declared.state.Awaited.{Awaited}
use Rattle.session_subset.specs.declared.state.Awaited.TheVariants as awaiting
use Rattle.session_subset.specs.declared.state.Owed.{Owed}
use Rattle.session_subset.specs.declared.state.Owed.TheVariants as owing
use Rattle.session_subset.specs.declared.state.Progress.{Progress}
use Rattle.session_subset.specs.declared.state.Progress.TheVariants.{Absent, Running, Ending, Suspended}
use Rattle.session_subset.specs.declared.state.OwnActivity.{OwnActivity}
use Rattle.session_subset.specs.declared.state.PeerActivity.{PeerActivity}
use Rattle.session_subset.specs.declared.state.SessionState.{SessionState}
use Rattle.session_subset.specs.Units.{requirements_of, selected}
use Rattle.session_subset.specs.Steps.{Step, History, requested, took, passed, transport_asked, transport_refused, broke}

-- ---- the phase

-- a connection is asked for by its initiator: at first, or to recover the association
abbrev pub asking : SessionPhase → SessionPhase
asking Idle = Opening
asking Broken = Recovering
asking phase = phase

-- a connection is asked for by the peer: a broken association stays so until it is accepted anew
abbrev pub asked : SessionPhase → SessionPhase
asked Idle = Opening
asked phase = phase

abbrev pub asked_by : Bool → SessionPhase → SessionPhase
asked_by initiator phase = if initiator then asking phase else asked phase

-- a connection that was asked for is refused: an association that the responder keeps stays broken
abbrev pub refused : SessionPhase → SessionPhase
refused Opening = Over
refused Recovering = Over
refused phase = phase

-- a break leaves an association of reliable mode to be recovered, once it stood
abbrev pub broken : Bool → SessionPhase → SessionPhase
broken reliable Idle = Idle
broken reliable Over = Over
broken reliable Opening = Over
broken reliable phase = if reliable then Broken else Over

abbrev pub phase_requested : SessionPhase → SessionWord → SessionPhase
phase_requested phase (Connect connect) = asking phase
phase_requested phase (Accept options version initial requirements user) = Up
phase_requested phase (Refuse transport reason user) = refused phase
phase_requested phase (Finish transport user) = Releasing
phase_requested phase (Disconnect user) = Over
phase_requested phase (Abort transport user) = Over
phase_requested phase _ = phase

abbrev pub phase_taken : SessionPhase → SessionWord → SessionPhase
phase_taken phase (Connect connect) = asked phase
phase_taken phase (Accept options version initial requirements user) = Up
phase_taken phase (Refuse transport reason user) = refused phase
phase_taken phase (Disconnect user) = Over
phase_taken phase (Abort transport user) = Over
phase_taken phase AbortAccept = Over
phase_taken phase _ = phase

abbrev pub phase_after : SessionRole → SessionPhase → Step → SessionPhase
phase_after role phase (requested word) = phase_requested phase word
phase_after role phase (took word) = phase_taken phase word
phase_after role phase (passed word) = phase
phase_after role phase transport_asked = asked_by role.initiator phase
phase_after role phase transport_refused = refused phase
phase_after role phase broke = broken role.reliable phase

-- ---- the connection, and the units selected

-- a CONNECT was sent or taken on this connection
abbrev pub met_after : Bool → Step → Bool
met_after met (requested (Connect connect)) = true
met_after met (took (Connect connect)) = true
met_after met broke = false
met_after met _ = met

-- the requirements of that CONNECT
abbrev pub proposed_after : ℕ → Step → ℕ
proposed_after proposed (requested (Connect connect)) = requirements_of connect.requirements
proposed_after proposed (took (Connect connect)) = requirements_of connect.requirements
proposed_after proposed _ = proposed

-- an acceptance selects the units that both ends want
abbrev pub units_after : SessionRole → ℕ → FunctionalUnits → Step → FunctionalUnits
units_after role proposed units (requested (Accept options version initial requirements user)) = selected role.reliable proposed (requirements_of requirements)
units_after role proposed units (took (Accept options version initial requirements user)) = selected role.reliable proposed (requirements_of requirements)
units_after role proposed units _ = units

-- ---- the turn

-- the turn is here: at first, after an acceptance and after a restart it is at the initiator, else a
-- giving moves it (X.225 8.3.16, 8.3.18)
abbrev pub turn_requested : SessionRole → Bool → SessionWord → Bool
turn_requested role turn (Accept options version initial requirements user) = role.initiator
turn_requested role turn (ResynchronizeAck number user) = role.initiator
turn_requested role turn (GiveTokens (Some tokens)) = false
turn_requested role turn GiveTokensConfirm = false
turn_requested role turn _ = turn

abbrev pub turn_taken : SessionRole → Bool → SessionWord → Bool
turn_taken role turn (Accept options version initial requirements user) = role.initiator
turn_taken role turn (ResynchronizeAck number user) = role.initiator
turn_taken role turn (GiveTokens (Some tokens)) = true
turn_taken role turn GiveTokensConfirm = true
turn_taken role turn _ = turn

abbrev pub turn_after : SessionRole → Bool → Step → Bool
turn_after role turn (requested word) = turn_requested role turn word
turn_after role turn (took word) = turn_taken role turn word
turn_after role turn _ = turn

-- an own GTC is unanswered, and the turn, which is on its way, hasn't come back
abbrev pub giving_after : Bool → Step → Bool
giving_after giving (requested (Accept options version initial requirements user)) = false
giving_after giving (took (Accept options version initial requirements user)) = false
giving_after giving (requested GiveTokensConfirm) = true
giving_after giving (took GiveTokensConfirm) = false
giving_after giving (took GiveTokensAck) = false
giving_after giving broke = false
giving_after giving _ = giving

-- ---- what is unanswered

-- the own request that stops all else; an own restart that lost isn't waited for any more
abbrev pub awaited_requested : Awaited → SessionWord → Awaited
awaited_requested awaited (Accept options version initial requirements user) = awaiting.Nothing
awaited_requested awaited (Finish transport user) = awaiting.Release
awaited_requested awaited (Resynchronize number user) = awaiting.Restart number
awaited_requested awaited (ActivityInterrupt reason) = awaiting.Interrupt
awaited_requested awaited (ActivityDiscard reason) = awaiting.Discard
awaited_requested awaited _ = awaited

abbrev pub awaited_taken : Awaited → SessionWord → Awaited
awaited_taken awaited (Accept options version initial requirements user) = awaiting.Nothing
awaited_taken awaited (Disconnect user) = awaiting.Nothing
awaited_taken awaited (Resynchronize number user) = awaiting.Nothing
awaited_taken awaited (ResynchronizeAck number user) = awaiting.Nothing
awaited_taken awaited ActivityInterruptAck = awaiting.Nothing
awaited_taken awaited ActivityDiscardAck = awaiting.Nothing
awaited_taken awaited _ = awaited

abbrev pub awaited_after : Awaited → Step → Awaited
awaited_after awaited (requested word) = awaited_requested awaited word
awaited_after awaited (took word) = awaited_taken awaited word
awaited_after awaited broke = awaiting.Nothing
awaited_after awaited _ = awaited

-- the peer's request that is to be answered
abbrev pub owed_requested : Owed → SessionWord → Owed
owed_requested owed (Accept options version initial requirements user) = owing.Nothing
owed_requested owed (Refuse transport reason user) = owing.Nothing
owed_requested owed (Disconnect user) = owing.Nothing
owed_requested owed GiveTokensAck = owing.Nothing
owed_requested owed (ResynchronizeAck number user) = owing.Nothing
owed_requested owed ActivityInterruptAck = owing.Nothing
owed_requested owed ActivityDiscardAck = owing.Nothing
owed_requested owed (ActivityEndAck number) = owing.Nothing
owed_requested owed _ = owed

abbrev pub owed_taken : Owed → SessionWord → Owed
owed_taken owed (Connect connect) = owing.Connect
owed_taken owed (Accept options version initial requirements user) = owing.Nothing
owed_taken owed (Finish transport user) = owing.Release
owed_taken owed GiveTokensConfirm = owing.Give
owed_taken owed (Resynchronize number user) = owing.Restart number
owed_taken owed (ActivityInterrupt reason) = owing.Interrupt
owed_taken owed (ActivityDiscard reason) = owing.Discard
owed_taken owed (ActivityEnd number) = owing.End number
owed_taken owed _ = owed

abbrev pub owed_after : Owed → Step → Owed
owed_after owed (requested word) = owed_requested owed word
owed_after owed (took word) = owed_taken owed word
owed_after owed broke = owing.Nothing
owed_after owed _ = owed

-- ---- marks of direct mode

-- the last mark; a restart to a number drops the marks from it on (X.225 7.24)
abbrev pub mark_on : Bool → ℕ → SessionWord → ℕ
mark_on reliable mark (Accept options version initial requirements user) = 0
mark_on reliable mark (Mark number) = if reliable then mark else number
mark_on reliable mark (ResynchronizeAck number user) = number - 1
mark_on reliable mark _ = mark

abbrev pub mark_after : SessionRole → ℕ → Step → ℕ
mark_after role mark (requested word) = mark_on role.reliable mark word
mark_after role mark (took word) = mark_on role.reliable mark word
mark_after role mark _ = mark

-- ---- activities (X.225 8.3.29 to 8.3.36)

-- a break suspends what was in progress
abbrev pub suspended : Progress → Progress
suspended Absent = Absent
suspended _ = Suspended

-- the last activity that this end started; sending AD voids what was confirmed
abbrev pub own_requested : SessionRole → OwnActivity → SessionWord → OwnActivity
own_requested role own (ActivityStart activity) = record { number = activity; progress = Running; marks = 0; confirmed = 0 }
own_requested role own (ActivityResume activity mark) = record own { progress = Running; marks = mark }
own_requested role own (Mark number) = if role.reliable then record own { marks = number } else own
own_requested role own (ActivityEnd number) = record own { progress = Ending }
own_requested role own (ActivityDiscard reason) = record own { confirmed = 0 }
own_requested role own _ = own

abbrev pub own_taken : OwnActivity → SessionWord → OwnActivity
own_taken own (MarkAck number) = record own { confirmed = number }
own_taken own (ActivityEndAck number) = record own { progress = Absent }
own_taken own ActivityInterruptAck = record own { progress = Suspended }
own_taken own ActivityDiscardAck = record own { progress = Absent }
own_taken own _ = own

abbrev pub own_after : SessionRole → OwnActivity → Step → OwnActivity
own_after role own (requested word) = own_requested role own word
own_after role own (took word) = own_taken own word
own_after role own broke = record own { progress = suspended own.progress }
own_after role own _ = own

-- the last activity that the peer started; of a discarded one only the number stays
abbrev pub peer_requested : PeerActivity → SessionWord → PeerActivity
peer_requested peer (MarkAck number) = record peer { confirmed = number }
peer_requested peer _ = peer

abbrev pub peer_taken : SessionRole → PeerActivity → SessionWord → PeerActivity
peer_taken role peer (ActivityStart activity) = record { number = activity; active = true; marks = 0; confirmed = 0 }
peer_taken role peer (ActivityResume activity mark) = record { number = activity; active = true; marks = mark; confirmed = mark }
peer_taken role peer (Mark number) = if role.reliable then record peer { marks = number } else peer
peer_taken role peer (ActivityEnd number) = record peer { active = false }
peer_taken role peer (ActivityInterrupt reason) = record peer { active = false }
peer_taken role peer (ActivityDiscard reason) = record peer { active = false; marks = 0; confirmed = 0 }
peer_taken role peer _ = peer

abbrev pub peer_after : SessionRole → PeerActivity → Step → PeerActivity
peer_after role peer (requested word) = peer_requested peer word
peer_after role peer (took word) = peer_taken role peer word
peer_after role peer broke = record peer { active = false }
peer_after role peer _ = peer

-- ---- all of it

abbrev pub after : SessionRole → SessionState → Step → SessionState
after role state step =
    record {
      phase = phase_after role state.phase step;
      met = met_after state.met step;
      proposed = proposed_after state.proposed step;
      units = units_after role state.proposed state.units step;
      turn = turn_after role state.turn step;
      giving = giving_after state.giving step;
      awaited = awaited_after state.awaited step;
      owed = owed_after state.owed step;
      mark = mark_after role state.mark step;
      own = own_after role state.own step;
      peer = peer_after role state.peer step;
    }

abbrev pub no_units : FunctionalUnits
no_units =
    record {
      half_duplex = false;
      duplex = false;
      minor_synchronize = false;
      resynchronize = false;
      activity_management = false;
      typed_data = false;
    }

-- a new machine: the turn is at the initiator
abbrev pub new_state : SessionRole → SessionState
new_state role =
    record {
      phase = Idle;
      met = false;
      proposed = 0;
      units = no_units;
      turn = role.initiator;
      giving = false;
      awaited = awaiting.Nothing;
      owed = owing.Nothing;
      mark = 0;
      own = record { number = 0; progress = Absent; marks = 0; confirmed = 0 };
      peer = record { number = 0; active = false; marks = 0; confirmed = 0 };
    }

-- what a history says
abbrev pub state_of : SessionRole → History → SessionState
state_of role [] = new_state role
state_of role (step ∷ history) = after role (state_of role history) step
