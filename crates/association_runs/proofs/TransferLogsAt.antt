-- What the messages' ledger says of transfers is what the moments say.
use Rattle.std.proofs.Common.{◌≡◌, refl, ◌∙◌, sym, ℕ, List, [], ◌∷◌, map, true, false, None, Ok}
use Rattle.std.specs.Prelude.{Bool, Option, Some, ℤ, if◌then◌else◌}
use Rattle.osi_base.specs.declared.layer_words.Side.TheVariants.{A, B}
use Rattle.osi_base.specs.declared.layer_words.SetItem.{SetItem}
use Rattle.asn1_types.specs.declared.value.Val.{Val}
use Rattle.stub_tables.specs.declared.operation.Operation.{Operation}
use Rattle.stub_tables.specs.declared.apdu.Apdu.{Apdu}
use Rattle.stub_tables.specs.Lookup.{operation_at, error_at}
use Rattle.dialogue.specs.declared.call.Call.{Call}
use Rattle.dialogue.specs.declared.call.Call.TheVariants as the_calls
use Rattle.dialogue.specs.declared.config.Mode.{Mode}
use Rattle.dialogue.specs.declared.config.Mode.TheVariants.{Bare, Direct, Reliable}
use Rattle.end_model.specs.end_rules.Base.{Base}
use Rattle.end_model.specs.end_rules.Messages.{Message, Transport, Session, OfAssociation, OfData, OfMarks, OfActivities, Start, Resume, End, EndAck, Interrupt, InterruptAck, Discard, DiscardAck}
use Rattle.end_model.specs.end_rules.State.{Body, OpenCall, is_carrying, opened_with}
use Rattle.end_model.specs.end_rules.Invoking.{carrier_in}
use Rattle.end_model.specs.end_rules.Writing.{user_abort, give_message, please_message}
use Rattle.end_model.specs.end_rules.Requesting.{sent_at_once, due_invoke, due_outcome, result_in, error_for, due_of}
use Rattle.end_model.specs.end_rules.ByItself.{OwnAct, SendsNow, EncodesOn}
use Rattle.end_model.specs.end_rules.History.{Step, called, sent, encoded, took, answered, passed, broke, step_of}
use Rattle.end_model.specs.end_rules.World.{World, Ends, body_at, shared_at}
use Rattle.agreement.specs.Sets.{Role, other}
use Rattle.agreement.specs.Sets.Role.{Initiator, Responder}
use Rattle.end_model.specs.Sharing.{side_of}
use Rattle.end_model.specs.BothEnds as both_ends
use Rattle.end_model.specs.BothEnds.{Common, Two}
use Rattle.outcome_laws.specs.reliable_model.Ledgers.{Ledger, TransferLog, TransferLogs, transfer_log_of, on_transfer_log, longer_transfer_log, started_by, encoded_by, transfer_log_taken}
use Rattle.outcome_laws.specs.Exchanges.{Exchanges}
use Rattle.association_runs.specs.Sides.{ends_for}
use Rattle.association_runs.specs.Worlds.{stepping}
use Rattle.association_runs.specs.TransferLogsAt.{transfer_log_after, transfer_log_at}
use Rattle.association_runs.proofs.Histories.{end_for, body-for}
use Rattle.association_runs.proofs.Keeps.{IsQuiet, Keeps}
use Rattle.association_runs.proofs.Joint.{both}

-- ---- a call starts no activity

abbrev IsNoStart : Message → Type 0
IsNoStart (Session (OfActivities (Start activity))) = ⊥
IsNoStart _ = Unit {0}

abbrev AreNoStarts : List Message → Type 0
AreNoStarts [] = Unit {0}
AreNoStarts (m ∷ ms) = IsNoStart m × AreNoStarts ms

at-once-none : (mode : Mode) (body : Body) (id : Option ℕ) (apdu : Apdu) → AreNoStarts (sent_at_once mode body id apdu)
at-once-none Reliable body id apdu = tt
at-once-none Direct body None apdu = tt
at-once-none Bare body None apdu = tt
at-once-none Direct body (Some id) apdu = (tt, tt)
at-once-none Bare body (Some id) apdu = (tt, tt)

invoke-none : (base : Base) (body : Body) (context : ℕ) (id : ℤ) (linked : Option ℤ) (o : Option Operation) (argument : Option Val) → AreNoStarts (due_invoke base body context id linked o argument)
invoke-none base body context id linked None argument = tt
invoke-none base body context id linked (Some operation) argument = at-once-none base.mode body (Some context) _

outcome-none : (base : Base) (body : Body) (o : Option OpenCall) (apdu : Option Apdu) → AreNoStarts (due_outcome base body o apdu)
outcome-none base body (Some o) (Some apdu) = at-once-none base.mode body (carrier_in base body o.context) apdu
outcome-none base body (Some o) None = tt
outcome-none base body None apdu = tt

give-none : (mode : Mode) → AreNoStarts (give_message mode ∷ [])
give-none Reliable = (tt, tt)
give-none Direct = (tt, tt)
give-none Bare = (tt, tt)

please-none : (body : Body) (mode : Mode) (priority : ℕ) → AreNoStarts (please_message body mode priority ∷ [])
please-none body Reliable priority = (tt, tt)
please-none body Direct priority = (tt, tt)
please-none body Bare priority = (tt, tt)

abort-none : (b : Bool) (accepted : List SetItem) → AreNoStarts (if b then user_abort accepted 0 [] ∷ [] else [])
abort-none true accepted = (tt, tt)
abort-none false accepted = tt

due-none : (base : Base) (body : Body) (call : Call) (answer : Option ℤ) → AreNoStarts (due_of base body call (Ok answer))
due-none base body (the_calls.Invoke context operation argument linked) (Some id) = invoke-none base body context id linked (operation_at base.tables operation) argument
due-none base body (the_calls.Invoke context operation argument linked) None = tt
due-none base body (the_calls.Answer id result) answer = outcome-none base body (opened_with false id body.calls.opens) (result_in base body id result)
due-none base body (the_calls.Refuse id error parameter) answer = outcome-none base body (opened_with false id body.calls.opens) (error_for id parameter (error_at base.tables error))
due-none base body the_calls.Open answer = (tt, tt)
due-none base body the_calls.Recover answer = (tt, tt)
due-none base body (the_calls.Alter add delete) answer = (tt, tt)
due-none base body the_calls.Mark answer = (tt, tt)
due-none base body the_calls.Give answer = give-none base.mode
due-none base body (the_calls.Please priority) answer = please-none body base.mode priority
due-none base body (the_calls.Resync n) answer = (tt, tt)
due-none base body the_calls.Interrupt answer = (tt, tt)
due-none base body the_calls.Discard answer = (tt, tt)
due-none base body the_calls.Resume answer = (tt, tt)
due-none base body the_calls.Release answer = (tt, tt)
due-none base body the_calls.Abort answer = abort-none (is_carrying body.link.stage) body.link.accepted

one-sent : (base : Base) (body : Body) (set : List SetItem) (m : Message) (d : TransferLog) → IsNoStart m → transfer_log_after base body set (sent m) d ≡ d
one-sent base body set (Transport unit) d n = refl
one-sent base body set (Session (OfAssociation word)) d n = refl
one-sent base body set (Session (OfData word)) d n = refl
one-sent base body set (Session (OfMarks word)) d n = refl
one-sent base body set (Session (OfActivities (Start activity))) d n = absurd n
one-sent base body set (Session (OfActivities (Resume activity mark))) d n = refl
one-sent base body set (Session (OfActivities (End number))) d n = refl
one-sent base body set (Session (OfActivities (EndAck number))) d n = refl
one-sent base body set (Session (OfActivities (Interrupt reason))) d n = refl
one-sent base body set (Session (OfActivities InterruptAck)) d n = refl
one-sent base body set (Session (OfActivities (Discard reason))) d n = refl
one-sent base body set (Session (OfActivities DiscardAck)) d n = refl

-- ---- both ends

own-side : (role : Role) (f : TransferLog → TransferLog) (d : TransferLogs) → transfer_log_of role (on_transfer_log role f d) ≡ f (transfer_log_of role d)
own-side Initiator f d = refl
own-side Responder f d = refl

peer-side : (role : Role) (f : TransferLog → TransferLog) (d : TransferLogs) → transfer_log_of (other role) (on_transfer_log role f d) ≡ transfer_log_of (other role) d
peer-side Initiator f d = refl
peer-side Responder f d = refl

-- steps in which nothing is done
abbrev IsIdle : Step → Type 0
IsIdle (sent message) = ⊥
IsIdle (encoded context) = ⊥
IsIdle (took message) = ⊥
IsIdle _ = Unit {0}

quiet-idle : (x : Step) → IsQuiet x → IsIdle x
quiet-idle (sent message) q = absurd q
quiet-idle (encoded context) q = absurd q
quiet-idle (took message) q = absurd q
quiet-idle _ q = tt

module _ (common : Common) where
  abbrev ends : Ends
  ends = ends_for common

  -- one step of this role
  one-step : (role : Role) (w : World) (x : Step) → transfer_log_at ends (side_of role) (record { side = side_of role; step = x } ∷ w) ≡ transfer_log_after (both_ends.base_at role common) (body_at ends (side_of role) w) (shared_at ends w).set x (transfer_log_at ends (side_of role) w)
  one-step Initiator w x = refl
  one-step Responder w x = refl

  idle-after : (base : Base) (body : Body) (set : List SetItem) (x : Step) (d : TransferLog) → IsIdle x → transfer_log_after base body set x d ≡ d
  idle-after base body set (sent message) d n = absurd n
  idle-after base body set (encoded context) d n = absurd n
  idle-after base body set (took message) d n = absurd n
  idle-after base body set _ d n = refl

  one-idle : (role : Role) (w : World) (x : Step) → IsIdle x → transfer_log_at ends (side_of role) (record { side = side_of role; step = x } ∷ w) ≡ transfer_log_at ends (side_of role) w
  one-idle role w x n = one-step role w x ∙ idle-after (both_ends.base_at role common) (body_at ends (side_of role) w) (shared_at ends w).set x (transfer_log_at ends (side_of role) w) n

  sents-idle : (role : Role) (w : World) (ms : List Message) → AreNoStarts ms → transfer_log_at ends (side_of role) (stepping (side_of role) w (map sent ms)) ≡ transfer_log_at ends (side_of role) w
  sents-idle role w [] n = refl
  sents-idle role w (m ∷ ms) n =
      sents-idle role (record { side = side_of role; step = sent m } ∷ w) ms n.1 ∙ one-step role w (sent m)
      ∙ one-sent (both_ends.base_at role common) (body_at ends (side_of role) w) (shared_at ends w).set m (transfer_log_at ends (side_of role) w) n.0

  answers-idle : (role : Role) (w : World) (to : Message) (ms : List Message) → transfer_log_at ends (side_of role) (stepping (side_of role) w (map (answered to) ms)) ≡ transfer_log_at ends (side_of role) w
  answers-idle role w to [] = refl
  answers-idle role w to (m ∷ ms) = answers-idle role (record { side = side_of role; step = answered to m } ∷ w) to ms ∙ one-idle role w (answered to m) tt

  peer-same : (role : Role) (w : World) (xs : List Step) → transfer_log_at ends (side_of (other role)) (stepping (side_of role) w xs) ≡ transfer_log_at ends (side_of (other role)) w
  peer-same role w [] = refl
  peer-same Initiator w (x ∷ xs) = peer-same Initiator (record { side = A; step = x } ∷ w) xs
  peer-same Responder w (x ∷ xs) = peer-same Responder (record { side = B; step = x } ∷ w) xs

  abbrev pub AreDone : World → Two → Ledger → Exchanges → Type 0
  AreDone w two ledger exchanges = (role : Role) → transfer_log_at ends (side_of role) w ≡ transfer_log_of role ledger.transfer_logs

  -- the own transfer log changed, and the other's not
  changed : (role : Role) (w v : World) (before : TransferLogs) (f : TransferLog → TransferLog) → transfer_log_at ends (side_of role) v ≡ f (transfer_log_of role before) → transfer_log_at ends (side_of (other role)) v ≡ transfer_log_at ends (side_of (other role)) w
      → ((r : Role) → transfer_log_at ends (side_of r) w ≡ transfer_log_of r before) → (r : Role) → transfer_log_at ends (side_of r) v ≡ transfer_log_of r (on_transfer_log role f before)
  changed role w v before f own peer h =
      both role (λ (r : Role). transfer_log_at ends (side_of r) v ≡ transfer_log_of r (on_transfer_log role f before)) (own ∙ sym (own-side role f before)) (peer ∙ h (other role) ∙ sym (peer-side role f before))

  same-so : (role : Role) (w v : World) (before : TransferLogs) → transfer_log_at ends (side_of role) v ≡ transfer_log_at ends (side_of role) w → transfer_log_at ends (side_of (other role)) v ≡ transfer_log_at ends (side_of (other role)) w
      → ((r : Role) → transfer_log_at ends (side_of r) w ≡ transfer_log_of r before) → (r : Role) → transfer_log_at ends (side_of r) v ≡ transfer_log_of r before
  same-so role w v before own peer h = both role (λ (r : Role). transfer_log_at ends (side_of r) v ≡ transfer_log_of r before) (own ∙ h role) (peer ∙ h (other role))

  own-after : (base : Base) (body : Body) (set : List SetItem) (own : OwnAct) (d : TransferLog) → transfer_log_after base body set (step_of own) d ≡ longer_transfer_log (started_by body own) (encoded_by body set own) d
  own-after base body set (SendsNow message) d = refl
  own-after base body set (EncodesOn context) d = refl

  broke-so : (w : World) (ledger : Ledger) → ((r : Role) → transfer_log_at ends (side_of r) w ≡ transfer_log_of r ledger.transfer_logs) → (r : Role) → transfer_log_at ends (side_of r) (record { side = B; step = broke } ∷ record { side = A; step = broke } ∷ w) ≡ transfer_log_of r ledger.transfer_logs
  broke-so w ledger h Initiator = h Initiator
  broke-so w ledger h Responder = h Responder

  first-so : (r : Role) → transfer_log_at ends (side_of r) [] ≡ transfer_log_of r (record { a = record { started = []; encoded = []; arrived = [] }; b = record { started = []; encoded = []; arrived = [] } })
  first-so Initiator = refl
  first-so Responder = refl

  pub transfer-log-keeps : Keeps common AreDone
  transfer-log-keeps = record {
    begins = first-so;
    calls = λ role w two ledger exchanges call answer j c h.
        let due : List Message = due_of (both_ends.base_at role common) (end_for common role w).body call (Ok answer) in
        same-so role w (stepping (side_of role) w (called call (Ok answer) ∷ map sent due)) ledger.transfer_logs
        (sents-idle role (record { side = side_of role; step = called call (Ok answer) } ∷ w) due (due-none (both_ends.base_at role common) (end_for common role w).body call answer) ∙ one-idle role w (called call (Ok answer)) tt)
        (peer-same role w (called call (Ok answer) ∷ map sent due)) h;
    acts = λ role w two ledger exchanges own j c h.
        changed role w (stepping (side_of role) w (step_of own ∷ [])) ledger.transfer_logs (longer_transfer_log (started_by (both_ends.body_at role two) own) (encoded_by (both_ends.body_at role two) ledger.shared.set own))
        (one-step role w (step_of own) ∙ own-after (both_ends.base_at role common) (body_at ends (side_of role) w) (shared_at ends w).set own (transfer_log_at ends (side_of role) w)
        ∙ (λ i. longer_transfer_log (started_by ((body-for common role w ∙ j.bodies role) i) own) (encoded_by ((body-for common role w ∙ j.bodies role) i) (j.shared i).set own) (h role i)))
        (peer-same role w (step_of own ∷ [])) h;
    takes = λ role w two ledger exchanges message left body answers shown j e r h.
        changed role w (stepping (side_of role) w (took message ∷ map (answered message) answers)) ledger.transfer_logs (transfer_log_taken (both_ends.base_at role common) (both_ends.body_at role two) message)
        (answers-idle role (record { side = side_of role; step = took message } ∷ w) message answers ∙ one-step role w (took message)
        ∙ (λ i. transfer_log_taken (both_ends.base_at role common) ((body-for common role w ∙ j.bodies role) i) message (h role i)))
        (peer-same role w (took message ∷ map (answered message) answers)) h;
    passes = λ role w two ledger exchanges message left j e r h.
        same-so role w (stepping (side_of role) w (passed ∷ [])) ledger.transfer_logs (one-idle role w passed tt) (peer-same role w (passed ∷ [])) h;
    quiet = λ role w two ledger exchanges x q h.
        same-so role w (record { side = side_of role; step = x } ∷ w) ledger.transfer_logs (one-idle role w x (quiet-idle x q)) (peer-same role w (x ∷ [])) h;
    breaks = λ w two ledger exchanges j h. broke-so w ledger h;
  }
