-- What is passed over while an own request is unanswered (X.225 7.24, 7.31, 7.33).
use Rattle.std.specs.Prelude.{ℕ, Bool, true, false, not, ◌&&◌, ◌||◌, nat_eq, nat_lt}
use Rattle.osi_base.specs.declared.session_word.SessionWord.{SessionWord}
use Rattle.osi_base.specs.declared.session_word.SessionWord.TheVariants as units
use Rattle.end_rules.specs.State.{Awaited, NoAnswer, RestartOf, InterruptOf, DiscardOf, ReleaseOf}

-- Of two restarts that cross the one to the lower mark wins, on a tie the initiator's (this project's own
-- rule): the taker asked for own.
abbrev pub wins_against : Bool → ℕ → ℕ → Bool
wins_against initiator own number = nat_lt number own || (nat_eq number own && not initiator)

-- a release and an abort are taken at any time
abbrev pub ends_all : SessionWord → Bool
ends_all (units.Finish transport user) = true
ends_all (units.Abort transport user) = true
ends_all units.AbortAccept = true
ends_all _ = false

-- the answer to an own restart, or a restart that wins
abbrev pub settles_restart : Bool → ℕ → SessionWord → Bool
settles_restart initiator own (units.Resynchronize number user) = wins_against initiator own number
settles_restart initiator own (units.ResynchronizeAck number user) = true
settles_restart initiator own _ = false

abbrev pub settles_interrupt : SessionWord → Bool
settles_interrupt units.ActivityInterruptAck = true
settles_interrupt _ = false

abbrev pub settles_discard : SessionWord → Bool
settles_discard units.ActivityDiscardAck = true
settles_discard _ = false

abbrev pub settles_release : SessionWord → Bool
settles_release (units.Disconnect user) = true
settles_release _ = false

-- what settles the own request
abbrev pub settles : Bool → Awaited → SessionWord → Bool
settles initiator NoAnswer unit = true
settles initiator (RestartOf own) unit = settles_restart initiator own unit
settles initiator InterruptOf unit = settles_interrupt unit
settles initiator DiscardOf unit = settles_discard unit
settles initiator ReleaseOf unit = settles_release unit

-- While an own request is unanswered, all is passed over but what settles it, a release and an abort.
abbrev pub is_purged : Bool → Awaited → SessionWord → Bool
is_purged initiator awaited unit = not (settles initiator awaited unit || ends_all unit)

-- a transport unit is passed over then too
abbrev pub is_transport_purged : Awaited → Bool
is_transport_purged NoAnswer = false
is_transport_purged _ = true
