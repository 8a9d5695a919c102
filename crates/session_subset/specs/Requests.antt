-- When a word may be requested, why it is refused, and which units are sent for it (X.225 7).
use Rattle.std.specs.Prelude.{ℕ, ◌+◌, nat_eq, nat_le, Bool, true, false, not, ◌&&◌, ◌||◌, if◌then◌else◌, List, [], ◌∷◌, ◌++◌, Option, Some, None, is_some}
use Rattle.osi_base.specs.declared.session_word.SessionWord.{SessionWord}
use Rattle.osi_base.specs.declared.session_word.SessionWord.TheVariants.{Connect, Accept, Refuse, Finish, Disconnect, Abort, AbortAccept, GiveTokens, PleaseTokens, GiveTokensConfirm, GiveTokensAck, TypedData, Data, Mark, MarkAck, Resynchronize, ResynchronizeAck, ActivityStart, ActivityResume, ActivityInterrupt, ActivityInterruptAck, ActivityDiscard, ActivityDiscardAck, ActivityEnd, ActivityEndAck}
use Rattle.session_subset.specs.declared.fault.SessionRefusal.{SessionRefusal}
use Rattle.session_subset.specs.declared.fault.SessionRefusal.TheVariants as refusals
use Rattle.session_subset.specs.declared.state.SessionRole.{SessionRole}
use Rattle.session_subset.specs.declared.state.SessionPhase.{SessionPhase}
use Rattle.session_subset.specs.declared.state.SessionPhase.TheVariants.{Idle, Opening, Up, Broken, Recovering, Over}
use Rattle.session_subset.specs.declared.state.Awaited.{Awaited}
use Rattle.session_subset.specs.declared.state.Awaited.TheVariants as awaiting
use Rattle.session_subset.specs.declared.state.Owed.{Owed}
use Rattle.session_subset.specs.declared.state.Owed.TheVariants as owing
use Rattle.session_subset.specs.declared.state.Progress.{Progress}
use Rattle.session_subset.specs.declared.state.Progress.TheVariants.{Absent, Running, Ending, Suspended}
use Rattle.session_subset.specs.declared.state.SessionState.{SessionState}

-- ---- phases

abbrev pub is_up : SessionPhase → Bool
is_up Up = true
is_up _ = false

abbrev pub is_over : SessionPhase → Bool
is_over Over = true
is_over _ = false

-- a connection isn't accepted or refused yet, or may be asked for
abbrev pub is_unjoined : SessionPhase → Bool
is_unjoined Idle = true
is_unjoined Opening = true
is_unjoined Broken = true
is_unjoined Recovering = true
is_unjoined _ = false

-- ---- what is owed

abbrev pub owes_nothing : Owed → Bool
owes_nothing owing.Nothing = true
owes_nothing _ = false

abbrev pub owes_connect : Owed → Bool
owes_connect owing.Connect = true
owes_connect _ = false

abbrev pub owes_restart : Owed → ℕ → Bool
owes_restart (owing.Restart owed) number = nat_eq number owed
owes_restart _ number = false

abbrev pub owes_end : Owed → Bool
owes_end (owing.End owed) = true
owes_end _ = false

abbrev pub owes_this_end : Owed → ℕ → Bool
owes_this_end (owing.End owed) number = nat_eq number owed
owes_this_end _ number = false

abbrev pub owes_interrupt : Owed → Bool
owes_interrupt owing.Interrupt = true
owes_interrupt _ = false

abbrev pub owes_discard : Owed → Bool
owes_discard owing.Discard = true
owes_discard _ = false

abbrev pub owes_give : Owed → Bool
owes_give owing.Give = true
owes_give _ = false

abbrev pub owes_release : Owed → Bool
owes_release owing.Release = true
owes_release _ = false

-- ---- numbers

-- the number is the next after the last
abbrev pub is_next : ℕ → ℕ → Bool
is_next number last = nat_eq number (last + 1)

-- the number is one from 1 to the next after the last
abbrev pub is_up_to_next : ℕ → ℕ → Bool
is_up_to_next number last = nat_le 1 number && nat_le number (last + 1)

-- the last mark: of the association in direct mode, of the own activity in reliable mode
abbrev pub own_last : SessionRole → SessionState → ℕ
own_last role state = if role.reliable then state.own.marks else state.mark

-- ---- the conditions of a request

-- the phase allows the word, each number in it is the next or the one that is named, in RS one from 1
-- to the next, and a word that answers has a request that was taken and isn't answered
abbrev pub may_request : SessionRole → SessionState → SessionWord → Bool
may_request role state (Connect connect) = (role.initiator && not state.met) && is_unjoined state.phase
may_request role state (Accept options version initial requirements user) = owes_connect state.owed
may_request role state (Refuse transport reason user) = owes_connect state.owed
may_request role state (Finish transport user) = role.initiator && is_up state.phase
may_request role state (Disconnect user) = owes_release state.owed
may_request role state (Abort transport user) = not (is_over state.phase)
may_request role state AbortAccept = false
may_request role state (GiveTokens tokens) = is_up state.phase && is_some tokens
may_request role state (PleaseTokens tokens user) = is_up state.phase && is_some tokens
may_request role state GiveTokensConfirm = is_up state.phase
may_request role state GiveTokensAck = is_up state.phase && owes_give state.owed
may_request role state (TypedData user) = is_up state.phase
may_request role state (Data user) = is_up state.phase
may_request role state (Mark number) = is_up state.phase && is_next number (own_last role state)
may_request role state (MarkAck number) =
    ((is_up state.phase && role.reliable) && (state.peer.active || owes_end state.owed))
    && (is_next number state.peer.confirmed && nat_le number state.peer.marks)
may_request role state (Resynchronize number user) = is_up state.phase && is_up_to_next number state.mark
may_request role state (ResynchronizeAck number user) = is_up state.phase && owes_restart state.owed number
may_request role state (ActivityStart activity) = is_up state.phase && is_next activity state.own.number
may_request role state (ActivityResume activity mark) =
    is_up state.phase && (nat_eq activity state.own.number && nat_eq mark state.own.confirmed)
may_request role state (ActivityInterrupt reason) = is_up state.phase
may_request role state ActivityInterruptAck = is_up state.phase && owes_interrupt state.owed
may_request role state (ActivityDiscard reason) = is_up state.phase
may_request role state ActivityDiscardAck = is_up state.phase && owes_discard state.owed
may_request role state (ActivityEnd number) = is_up state.phase && is_next number state.own.marks
may_request role state (ActivityEndAck number) = is_up state.phase && owes_this_end state.owed number

-- ---- refusals: the first row that holds

pub record Row : Type 0 where
  pub holds : Bool
  pub refusal : SessionRefusal

abbrev pub first_that_holds : List Row → Option SessionRefusal
first_that_holds [] = None
first_that_holds (row ∷ rows) = if row.holds then Some row.refusal else first_that_holds rows

-- an own request is unanswered
abbrev pub is_waiting : Awaited → Bool
is_waiting awaiting.Nothing = false
is_waiting _ = true

-- an own activity is current, suspended ones too
abbrev pub is_current : Progress → Bool
is_current Absent = false
is_current _ = true

-- and in progress: one whose AE was sent is so until AEA is taken
abbrev pub is_in_progress : Progress → Bool
is_in_progress Running = true
is_in_progress Ending = true
is_in_progress _ = false

abbrev pub is_ending : Progress → Bool
is_ending Ending = true
is_ending _ = false

abbrev pub is_suspended : Progress → Bool
is_suspended Suspended = true
is_suspended _ = false

abbrev pub not_negotiated : Bool → Row
not_negotiated has = record { holds = not has; refusal = refusals.NotNegotiated }

abbrev pub waiting : SessionState → Row
waiting state = record { holds = is_waiting state.awaited; refusal = refusals.Waiting }

abbrev pub no_turn : SessionState → Row
no_turn state = record { holds = not state.turn; refusal = refusals.NoTurn }

abbrev pub has_turn : SessionState → Row
has_turn state = record { holds = state.turn; refusal = refusals.HasTurn }

-- an own activity is in progress
abbrev pub activity_open : SessionState → Row
activity_open state =
    record { holds = is_in_progress state.own.progress; refusal = refusals.ActivityOpen state.own.number }

-- an own activity is in progress or suspended
abbrev pub activity_left : SessionState → Row
activity_left state =
    record { holds = is_current state.own.progress; refusal = refusals.ActivityOpen state.own.number }

abbrev pub no_activity : SessionState → Row
no_activity state = record { holds = not (is_in_progress state.own.progress); refusal = refusals.NoActivity }

abbrev pub ending : SessionState → Row
ending state = record { holds = is_ending state.own.progress; refusal = refusals.Ending state.own.number }

abbrev pub not_suspended : SessionState → Row
not_suspended state = record { holds = not (is_suspended state.own.progress); refusal = refusals.NotSuspended }

-- rows that are asked in reliable mode alone
abbrev pub in_reliable : SessionRole → List Row → List Row
in_reliable role rows = if role.reliable then rows else []

-- the rows of each word, in their order; a word that answers has none, nor has one that opens, refuses
-- or aborts. What an end sends of itself in reliable mode, data and marks and the beginning and end of
-- an activity, has the rows that X.225 asks of its tokens and of its activity.
abbrev pub refusal_rows : SessionRole → SessionState → SessionWord → List Row
refusal_rows role state (Data user) = waiting state ∷ in_reliable role (no_turn state ∷ no_activity state ∷ ending state ∷ [])
refusal_rows role state (TypedData user) = not_negotiated state.units.typed_data ∷ waiting state ∷ []
refusal_rows role state (Mark number) =
    not_negotiated state.units.minor_synchronize ∷ waiting state ∷ no_turn state ∷ in_reliable role (no_activity state ∷ ending state ∷ [])
refusal_rows role state (GiveTokens tokens) =
    not_negotiated (not role.reliable && state.units.minor_synchronize) ∷ waiting state ∷ no_turn state ∷ []
refusal_rows role state GiveTokensConfirm =
    not_negotiated state.units.activity_management ∷ waiting state ∷ no_turn state ∷ activity_open state ∷ []
refusal_rows role state (PleaseTokens tokens user) =
    not_negotiated state.units.minor_synchronize ∷ waiting state ∷ has_turn state ∷ []
refusal_rows role state (Resynchronize number user) = not_negotiated state.units.resynchronize ∷ waiting state ∷ []
refusal_rows role state (ActivityInterrupt reason) =
    not_negotiated state.units.activity_management ∷ waiting state ∷ no_activity state ∷ ending state ∷ []
refusal_rows role state (ActivityDiscard reason) =
    not_negotiated state.units.activity_management ∷ waiting state ∷ no_activity state ∷ ending state ∷ []
refusal_rows role state (ActivityResume activity mark) =
    not_negotiated state.units.activity_management ∷ waiting state ∷ not_suspended state ∷ no_turn state ∷ []
refusal_rows role state (ActivityStart activity) =
    not_negotiated state.units.activity_management ∷ waiting state ∷ no_turn state ∷ activity_left state ∷ []
refusal_rows role state (ActivityEnd number) =
    not_negotiated state.units.activity_management ∷ waiting state ∷ no_turn state ∷ no_activity state ∷ ending state ∷ []
refusal_rows role state (Finish transport user) =
    waiting state ∷ in_reliable role (no_turn state ∷ []) ++ activity_left state ∷ []
refusal_rows role state _ = []

-- why a request of this word is refused
abbrev pub refusal_of : SessionRole → SessionState → SessionWord → Option SessionRefusal
refusal_of role state word = first_that_holds (refusal_rows role state word)

-- why an alteration of the contexts, which goes as typed data, may not be asked for now; its answer
-- has the rows of typed data alone
abbrev pub alteration_rows : SessionRole → SessionState → List Row
alteration_rows role state =
    not_negotiated state.units.typed_data ∷ waiting state ∷ in_reliable role (no_turn state ∷ ending state ∷ [])

abbrev pub alteration_refusal : SessionRole → SessionState → Option SessionRefusal
alteration_refusal role state = first_that_holds (alteration_rows role state)

-- ---- what is sent

-- it goes alone in a TSDU; others go behind an empty GT (X.225 6.3.7, 8.2)
abbrev pub goes_alone : SessionWord → Bool
goes_alone (Connect connect) = true
goes_alone (Accept options version initial requirements user) = true
goes_alone (Refuse transport reason user) = true
goes_alone (Finish transport user) = true
goes_alone (Disconnect user) = true
goes_alone (Abort transport user) = true
goes_alone AbortAccept = true
goes_alone (GiveTokens tokens) = true
goes_alone (PleaseTokens tokens user) = true
goes_alone GiveTokensConfirm = true
goes_alone GiveTokensAck = true
goes_alone (TypedData user) = true
goes_alone _ = false

-- the units that are sent for a word: for an abort before a CONNECT was sent or taken there is none
abbrev pub units_sent : SessionState → SessionWord → List SessionWord
units_sent state (Abort transport user) = if state.met then Abort transport user ∷ [] else []
units_sent state word = if goes_alone word then word ∷ [] else GiveTokens None ∷ word ∷ []
