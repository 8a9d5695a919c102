-- For the level of octets: what is passed over is told by the kind of a message alone.
use Rattle.std.proofs.Common.{◌≡◌, ℕ, Bool, true, false, not, refl}
use Rattle.agreement.specs.Sets.{Role}
use Rattle.agreement.specs.Messages.{Message}
use Rattle.agreement.specs.Messages.Message.{Restart, RestartAnswer, InterruptAnswer, DiscardAnswer, Release, ReleaseAnswer, UserAbort}
use Rattle.agreement.specs.State.{Awaited}
use Rattle.agreement.specs.State.Awaited.{NoAnswer, RestartOf, InterruptOf, DiscardOf, ReleaseOf}
use Rattle.agreement.specs.Takings.{is_purged, wins_against}

-- the kinds that the purge tells apart; of a restart it looks at the number too
pub data Kind : Type 0 where
  ARestart : (number : ℕ) → Kind
  ARestartAnswer : Kind
  AnInterruptAnswer : Kind
  ADiscardAnswer : Kind
  ARelease : Kind
  AReleaseAnswer : Kind
  AnAbort : Kind
  Another : Kind

abbrev pub kind_of : Message → Kind
kind_of (Restart number list) = ARestart number
kind_of (RestartAnswer number list) = ARestartAnswer
kind_of InterruptAnswer = AnInterruptAnswer
kind_of DiscardAnswer = ADiscardAnswer
kind_of Release = ARelease
kind_of ReleaseAnswer = AReleaseAnswer
kind_of UserAbort = AnAbort
kind_of message = Another

abbrev pub is_kind_purged : Role → Awaited → Kind → Bool
is_kind_purged role NoAnswer kind = false
is_kind_purged role awaited ARelease = false
is_kind_purged role awaited AnAbort = false
is_kind_purged role (RestartOf own) ARestartAnswer = false
is_kind_purged role (RestartOf own) (ARestart number) = not (wins_against role own number)
is_kind_purged role InterruptOf AnInterruptAnswer = false
is_kind_purged role DiscardOf ADiscardAnswer = false
is_kind_purged role ReleaseOf AReleaseAnswer = false
is_kind_purged role awaited kind = true

pub purged-by_kind : (role : Role) (awaited : Awaited) (message : Message) → is_purged role awaited message ≡ is_kind_purged role awaited (kind_of message)
purged-by_kind role NoAnswer message = refl
purged-by_kind role (RestartOf own) (Restart number list) = refl
purged-by_kind role (RestartOf own) (RestartAnswer number list) = refl
purged-by_kind role (RestartOf own) InterruptAnswer = refl
purged-by_kind role (RestartOf own) DiscardAnswer = refl
purged-by_kind role (RestartOf own) Release = refl
purged-by_kind role (RestartOf own) ReleaseAnswer = refl
purged-by_kind role (RestartOf own) UserAbort = refl
purged-by_kind role (RestartOf own) message = refl
purged-by_kind role InterruptOf (Restart number list) = refl
purged-by_kind role InterruptOf (RestartAnswer number list) = refl
purged-by_kind role InterruptOf InterruptAnswer = refl
purged-by_kind role InterruptOf DiscardAnswer = refl
purged-by_kind role InterruptOf Release = refl
purged-by_kind role InterruptOf ReleaseAnswer = refl
purged-by_kind role InterruptOf UserAbort = refl
purged-by_kind role InterruptOf message = refl
purged-by_kind role DiscardOf (Restart number list) = refl
purged-by_kind role DiscardOf (RestartAnswer number list) = refl
purged-by_kind role DiscardOf InterruptAnswer = refl
purged-by_kind role DiscardOf DiscardAnswer = refl
purged-by_kind role DiscardOf Release = refl
purged-by_kind role DiscardOf ReleaseAnswer = refl
purged-by_kind role DiscardOf UserAbort = refl
purged-by_kind role DiscardOf message = refl
purged-by_kind role ReleaseOf (Restart number list) = refl
purged-by_kind role ReleaseOf (RestartAnswer number list) = refl
purged-by_kind role ReleaseOf InterruptAnswer = refl
purged-by_kind role ReleaseOf DiscardAnswer = refl
purged-by_kind role ReleaseOf Release = refl
purged-by_kind role ReleaseOf ReleaseAnswer = refl
purged-by_kind role ReleaseOf UserAbort = refl
purged-by_kind role ReleaseOf message = refl
