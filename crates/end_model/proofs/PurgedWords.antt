-- What is passed over, word by word.
use Rattle.std.proofs.Common.{◌≡◌, ℕ, List, [], true, false, refl, ap, ◌∙◌}
use Rattle.std.specs.Prelude.{Bool, not, ◌||◌, Option, None}
use Rattle.osi_base.specs.declared.session_word.SessionWord.TheVariants as units
use Rattle.osi_base.specs.declared.session_word.SessionConnect.{SessionConnect}
use Rattle.end_rules.specs.Messages.{Accepting}
use Rattle.end_rules.specs.State.{Awaited, NoAnswer, RestartOf, InterruptOf, DiscardOf, ReleaseOf}
use Rattle.end_rules.specs.Purging.{wins_against, is_purged}
use Rattle.agreement.specs.Sets.{Item, Listed, ContextSet, Result}
use Rattle.agreement.specs.Messages.{Value}
use Rattle.agreement.specs.Messages.Message.{Data as model_data, Alter as model_alter, Mark as model_mark, Restart as model_restart, RestartAnswer as model_restart_answer, Release as model_release, ReleaseAnswer as model_release_answer, UserAbort as model_abort, InterruptAnswer as model_interrupt_answer, DiscardAnswer as model_discard_answer, Chunk as model_chunk, AlterAnswer as model_alter_answer, MarkAnswer as model_mark_answer, Give as model_give, GiveAnswer as model_give_answer, Please as model_please, Start as model_start, Resume as model_resume, End as model_end, EndAnswer as model_end_answer, Interrupt as model_interrupt, Discard as model_discard, Connect as model_connect, Recover as model_recover, Accept as model_accept, Refuse as model_refuse}
use Rattle.agreement.specs.Takings.{wins_against as model_wins, is_purged as model_purged}
use Rattle.end_model.specs.Seen.{role_seen, awaited_seen}

pub or-false : (b : Bool) → (b || false) ≡ b
or-false true = refl
or-false false = refl

pub wins-seen : (initiator : Bool) (own number : ℕ) → wins_against initiator own number ≡ model_wins (role_seen initiator) own number
wins-seen true own number = refl
wins-seen false own number = refl

pub values : (v : Value) (initiator : Bool) (awaited : Awaited) → is_purged initiator awaited (units.Data []) ≡ model_purged (role_seen initiator) (awaited_seen awaited) (model_data v)
values v initiator NoAnswer = refl
values v initiator (RestartOf own) = refl
values v initiator InterruptOf = refl
values v initiator DiscardOf = refl
values v initiator ReleaseOf = refl

pub alter : (items : List Item) (initiator : Bool) (awaited : Awaited) → is_purged initiator awaited (units.TypedData []) ≡ model_purged (role_seen initiator) (awaited_seen awaited) (model_alter items)
alter items initiator NoAnswer = refl
alter items initiator (RestartOf own) = refl
alter items initiator InterruptOf = refl
alter items initiator DiscardOf = refl
alter items initiator ReleaseOf = refl

pub mark : (number : ℕ) (initiator : Bool) (awaited : Awaited) → is_purged initiator awaited (units.Mark number) ≡ model_purged (role_seen initiator) (awaited_seen awaited) (model_mark number)
mark number initiator NoAnswer = refl
mark number initiator (RestartOf own) = refl
mark number initiator InterruptOf = refl
mark number initiator DiscardOf = refl
mark number initiator ReleaseOf = refl

pub restart : (number : ℕ) (list : List Listed) (initiator : Bool) (awaited : Awaited) → is_purged initiator awaited (units.Resynchronize number None) ≡ model_purged (role_seen initiator) (awaited_seen awaited) (model_restart number list)
restart number list initiator NoAnswer = refl
restart number list initiator (RestartOf own) = ap not (or-false (wins_against initiator own number) ∙ wins-seen initiator own number)
restart number list initiator InterruptOf = refl
restart number list initiator DiscardOf = refl
restart number list initiator ReleaseOf = refl

pub restart_ack : (number : ℕ) (list : List Listed) (initiator : Bool) (awaited : Awaited) → is_purged initiator awaited (units.ResynchronizeAck number None) ≡ model_purged (role_seen initiator) (awaited_seen awaited) (model_restart_answer number list)
restart_ack number list initiator NoAnswer = refl
restart_ack number list initiator (RestartOf own) = refl
restart_ack number list initiator InterruptOf = refl
restart_ack number list initiator DiscardOf = refl
restart_ack number list initiator ReleaseOf = refl

pub finish : (transport : Option ℕ) (initiator : Bool) (awaited : Awaited) → is_purged initiator awaited (units.Finish transport []) ≡ model_purged (role_seen initiator) (awaited_seen awaited) model_release
finish transport initiator NoAnswer = refl
finish transport initiator (RestartOf own) = refl
finish transport initiator InterruptOf = refl
finish transport initiator DiscardOf = refl
finish transport initiator ReleaseOf = refl

pub disconnect : (initiator : Bool) (awaited : Awaited) → is_purged initiator awaited (units.Disconnect []) ≡ model_purged (role_seen initiator) (awaited_seen awaited) model_release_answer
disconnect initiator NoAnswer = refl
disconnect initiator (RestartOf own) = refl
disconnect initiator InterruptOf = refl
disconnect initiator DiscardOf = refl
disconnect initiator ReleaseOf = refl

pub abort : (transport : Option ℕ) (initiator : Bool) (awaited : Awaited) → is_purged initiator awaited (units.Abort transport None) ≡ model_purged (role_seen initiator) (awaited_seen awaited) model_abort
abort transport initiator NoAnswer = refl
abort transport initiator (RestartOf own) = refl
abort transport initiator InterruptOf = refl
abort transport initiator DiscardOf = refl
abort transport initiator ReleaseOf = refl

pub interrupt_ack : (initiator : Bool) (awaited : Awaited) → is_purged initiator awaited units.ActivityInterruptAck ≡ model_purged (role_seen initiator) (awaited_seen awaited) model_interrupt_answer
interrupt_ack initiator NoAnswer = refl
interrupt_ack initiator (RestartOf own) = refl
interrupt_ack initiator InterruptOf = refl
interrupt_ack initiator DiscardOf = refl
interrupt_ack initiator ReleaseOf = refl

pub discard_ack : (initiator : Bool) (awaited : Awaited) → is_purged initiator awaited units.ActivityDiscardAck ≡ model_purged (role_seen initiator) (awaited_seen awaited) model_discard_answer
discard_ack initiator NoAnswer = refl
discard_ack initiator (RestartOf own) = refl
discard_ack initiator InterruptOf = refl
discard_ack initiator DiscardOf = refl
discard_ack initiator ReleaseOf = refl

pub chunk : (octets : List ℕ) (initiator : Bool) (awaited : Awaited) → is_purged initiator awaited (units.Data []) ≡ model_purged (role_seen initiator) (awaited_seen awaited) (model_chunk octets)
chunk octets initiator NoAnswer = refl
chunk octets initiator (RestartOf own) = refl
chunk octets initiator InterruptOf = refl
chunk octets initiator DiscardOf = refl
chunk octets initiator ReleaseOf = refl

pub alter_ack : (results : List Result) (initiator : Bool) (awaited : Awaited) → is_purged initiator awaited (units.TypedData []) ≡ model_purged (role_seen initiator) (awaited_seen awaited) (model_alter_answer results)
alter_ack results initiator NoAnswer = refl
alter_ack results initiator (RestartOf own) = refl
alter_ack results initiator InterruptOf = refl
alter_ack results initiator DiscardOf = refl
alter_ack results initiator ReleaseOf = refl

pub mark_ack : (number : ℕ) (initiator : Bool) (awaited : Awaited) → is_purged initiator awaited (units.MarkAck number) ≡ model_purged (role_seen initiator) (awaited_seen awaited) (model_mark_answer number)
mark_ack number initiator NoAnswer = refl
mark_ack number initiator (RestartOf own) = refl
mark_ack number initiator InterruptOf = refl
mark_ack number initiator DiscardOf = refl
mark_ack number initiator ReleaseOf = refl

pub give : (tokens : Option ℕ) (initiator : Bool) (awaited : Awaited) → is_purged initiator awaited (units.GiveTokens tokens) ≡ model_purged (role_seen initiator) (awaited_seen awaited) (model_give)
give tokens initiator NoAnswer = refl
give tokens initiator (RestartOf own) = refl
give tokens initiator InterruptOf = refl
give tokens initiator DiscardOf = refl
give tokens initiator ReleaseOf = refl

pub give_all : (initiator : Bool) (awaited : Awaited) → is_purged initiator awaited (units.GiveTokensConfirm) ≡ model_purged (role_seen initiator) (awaited_seen awaited) (model_give)
give_all initiator NoAnswer = refl
give_all initiator (RestartOf own) = refl
give_all initiator InterruptOf = refl
give_all initiator DiscardOf = refl
give_all initiator ReleaseOf = refl

pub give_ack : (initiator : Bool) (awaited : Awaited) → is_purged initiator awaited (units.GiveTokensAck) ≡ model_purged (role_seen initiator) (awaited_seen awaited) (model_give_answer)
give_ack initiator NoAnswer = refl
give_ack initiator (RestartOf own) = refl
give_ack initiator InterruptOf = refl
give_ack initiator DiscardOf = refl
give_ack initiator ReleaseOf = refl

pub please : (tokens : Option ℕ) (priority : ℕ) (initiator : Bool) (awaited : Awaited) → is_purged initiator awaited (units.PleaseTokens tokens None) ≡ model_purged (role_seen initiator) (awaited_seen awaited) (model_please priority)
please tokens priority initiator NoAnswer = refl
please tokens priority initiator (RestartOf own) = refl
please tokens priority initiator InterruptOf = refl
please tokens priority initiator DiscardOf = refl
please tokens priority initiator ReleaseOf = refl

pub start : (activity : ℕ) (initiator : Bool) (awaited : Awaited) → is_purged initiator awaited (units.ActivityStart activity) ≡ model_purged (role_seen initiator) (awaited_seen awaited) (model_start activity)
start activity initiator NoAnswer = refl
start activity initiator (RestartOf own) = refl
start activity initiator InterruptOf = refl
start activity initiator DiscardOf = refl
start activity initiator ReleaseOf = refl

pub resume : (activity : ℕ) (number : ℕ) (initiator : Bool) (awaited : Awaited) → is_purged initiator awaited (units.ActivityResume activity number) ≡ model_purged (role_seen initiator) (awaited_seen awaited) (model_resume activity number)
resume activity number initiator NoAnswer = refl
resume activity number initiator (RestartOf own) = refl
resume activity number initiator InterruptOf = refl
resume activity number initiator DiscardOf = refl
resume activity number initiator ReleaseOf = refl

pub end : (number : ℕ) (initiator : Bool) (awaited : Awaited) → is_purged initiator awaited (units.ActivityEnd number) ≡ model_purged (role_seen initiator) (awaited_seen awaited) (model_end number)
end number initiator NoAnswer = refl
end number initiator (RestartOf own) = refl
end number initiator InterruptOf = refl
end number initiator DiscardOf = refl
end number initiator ReleaseOf = refl

pub end_ack : (number : ℕ) (initiator : Bool) (awaited : Awaited) → is_purged initiator awaited (units.ActivityEndAck number) ≡ model_purged (role_seen initiator) (awaited_seen awaited) (model_end_answer number)
end_ack number initiator NoAnswer = refl
end_ack number initiator (RestartOf own) = refl
end_ack number initiator InterruptOf = refl
end_ack number initiator DiscardOf = refl
end_ack number initiator ReleaseOf = refl

pub interrupt : (reason : Option ℕ) (initiator : Bool) (awaited : Awaited) → is_purged initiator awaited (units.ActivityInterrupt reason) ≡ model_purged (role_seen initiator) (awaited_seen awaited) (model_interrupt)
interrupt reason initiator NoAnswer = refl
interrupt reason initiator (RestartOf own) = refl
interrupt reason initiator InterruptOf = refl
interrupt reason initiator DiscardOf = refl
interrupt reason initiator ReleaseOf = refl

pub discard : (reason : Option ℕ) (initiator : Bool) (awaited : Awaited) → is_purged initiator awaited (units.ActivityDiscard reason) ≡ model_purged (role_seen initiator) (awaited_seen awaited) (model_discard)
discard reason initiator NoAnswer = refl
discard reason initiator (RestartOf own) = refl
discard reason initiator InterruptOf = refl
discard reason initiator DiscardOf = refl
discard reason initiator ReleaseOf = refl

pub connect : (session : SessionConnect) (initiator : Bool) (awaited : Awaited) → is_purged initiator awaited (units.Connect session) ≡ model_purged (role_seen initiator) (awaited_seen awaited) (model_connect)
connect session initiator NoAnswer = refl
connect session initiator (RestartOf own) = refl
connect session initiator InterruptOf = refl
connect session initiator DiscardOf = refl
connect session initiator ReleaseOf = refl

pub recover : (session : SessionConnect) (initiator : Bool) (awaited : Awaited) → is_purged initiator awaited (units.Connect session) ≡ model_purged (role_seen initiator) (awaited_seen awaited) (model_recover)
recover session initiator NoAnswer = refl
recover session initiator (RestartOf own) = refl
recover session initiator InterruptOf = refl
recover session initiator DiscardOf = refl
recover session initiator ReleaseOf = refl

pub accept : (session : Accepting) (set : ContextSet) (initiator : Bool) (awaited : Awaited) → is_purged initiator awaited (units.Accept session.options session.version session.initial session.requirements []) ≡ model_purged (role_seen initiator) (awaited_seen awaited) (model_accept set)
accept session set initiator NoAnswer = refl
accept session set initiator (RestartOf own) = refl
accept session set initiator InterruptOf = refl
accept session set initiator DiscardOf = refl
accept session set initiator ReleaseOf = refl

pub refuse : (transport : Option ℕ) (reason : Option ℕ) (initiator : Bool) (awaited : Awaited) → is_purged initiator awaited (units.Refuse transport reason None) ≡ model_purged (role_seen initiator) (awaited_seen awaited) (model_refuse)
refuse transport reason initiator NoAnswer = refl
refuse transport reason initiator (RestartOf own) = refl
refuse transport reason initiator InterruptOf = refl
refuse transport reason initiator DiscardOf = refl
refuse transport reason initiator ReleaseOf = refl
