-- The other calls are acts.
use Rattle.std.proofs.Common.{◌≡◌, refl, true, false, ◌∙◌, sym, ap, subst, arith, ℕ, ◌+◌, ◌≤◌, List}
use Rattle.std.proofs.Common.{[], ◌∷◌, length, map}
use Rattle.std.specs.Prelude.{ℤ, Bool, not, ◌&&◌, ◌||◌, Option, Some, None, Ok, nat_lt, nat_le}
use Rattle.std.proofs.lemmas.Bool.Decides.{nat_tests}
use Rattle.osi_base.specs.Limits.{most_marks}
use Rattle.dialogue.specs.declared.config.Mode.{Mode}
use Rattle.dialogue.specs.declared.config.Mode.TheVariants.{Direct, Reliable}
use Rattle.dialogue.specs.declared.config.Phase.{Phase}
use Rattle.dialogue.specs.declared.config.Phase.TheVariants as phases
use Rattle.dialogue.specs.declared.call.Call.TheVariants as the_calls
use Rattle.dialogue.specs.declared.call.CallRefusal.TheVariants as refusals
use Rattle.end_rules.specs.Base.{Base, is_direct, is_reliable}
use Rattle.end_rules.specs.Sets.{next_number}
use Rattle.end_rules.specs.State.{Body, OpenCall, Transfer, Progress, Running, Ending, Suspended}
use Rattle.end_rules.specs.State.{is_up, is_broken, is_free, is_empty, is_none, is_current}
use Rattle.end_rules.specs.State.{is_running, is_ending, is_suspended, opens_of}
use Rattle.end_rules.specs.Units.{has_token, has_marks, has_restarts}
use Rattle.end_rules.specs.Calling.{can_stop, can_release, has_activity, is_idle}
use Rattle.agreement.specs.Sets.Role.{Initiator}
use Rattle.agreement.specs.Messages as model
use Rattle.agreement.specs.Messages.Act.{Marks, GivesTurn, Pleads, Restarts, Interrupts, Discards}
use Rattle.agreement.specs.Messages.Act.{Resumes, Releases}
use Rattle.agreement.specs.Messages.Message.{Mark as model_mark, Restart as model_restart}
use Rattle.agreement.specs.Messages.Message.{Resume as model_resume}
use Rattle.agreement.specs.State as states
use Rattle.agreement.specs.State.Progress.{Running as model_running, Suspended as model_suspended}
use Rattle.agreement.specs.Acts.{IsFree, Leads, RestsOrNone, has_progress}
use Rattle.end_model.specs.Seen.{role_seen, phase_seen, items_seen, opens_seen_on, queued_seen}
use Rattle.end_model.specs.Seen.{progress_seen, transfer_seen, seen}
use Rattle.end_model.specs.Rows.{at}
use Rattle.end_model.specs.Requests.{CallActs, CallUnseen}
use Rattle.end_model.proofs.Facts.{up-seen, free-seen, is-empty}
use Rattle.end_model.proofs.Ladder.{passed, not-true, called}
use Rattle.end_model.proofs.Marks.{next-seen, mark-sent}
use Rattle.end_model.proofs.Sendings.{restored-seen, confirmed-of}
use Rattle.end_model.proofs.Transfers.{discard-sent}
use Rattle.end_model.proofs.Resuming.{resumption-sent}
use Rattle.end_model.proofs.OpenInvocations.{length-seen}

-- ---- what tests say

pub is-free_there : (base : Base) (body : Body) → is_up body.link.phase ≡ true → is_free body.link.awaits ≡ true → IsFree (seen base body)
is-free_there base body up calm = record { is_up = up-seen body.link.stage body.link.phase up; is_calm = free-seen body.link.awaits calm }

pub none-own : (base : Base) (body : Body) → is_empty body.sets.own ≡ true → (seen base body).sets.own ≡ []
none-own base body h = ap (map items_seen) (is-empty body.sets.own h)

pub leads-there : (base : Base) (body : Body) → is_up body.link.phase ≡ true → is_free body.link.awaits ≡ true → body.link.turn ≡ true → is_empty body.sets.own ≡ true → Leads (seen base body)
leads-there base body up calm turn own = record { is_free = is-free_there base body up calm; has_turn = turn; is_settled = none-own base body own }

-- ---- marks

pub mark-acts : CallActs Direct the_calls.Mark (λ body. Marks)
mark-acts free base proposed body answer sound h =
    let c = called (at Direct base) body the_calls.Mark answer h in
    let a = passed (not (is_direct Direct && has_marks body.link.selected)) refusals.NotNegotiated _ answer c.rows in
    let b = passed (not (is_free body.link.awaits)) refusals.Waiting _ answer a.later in
    let d = passed (not body.link.turn) refusals.NoTurn _ answer b.later in
    let e = passed (not (is_empty body.sets.own)) refusals.AlterPending _ answer d.later in
    let f = passed (nat_lt most_marks (next_number body.saved)) refusals.MarksFull (Ok None) answer e.later in
    let within : next_number body.saved ≤ most_marks = grind (arith, nat_tests, f.holds) in
    record {
      may =
          record {
            leads = leads-there (at Direct base) body c.in_phase (not-true (is_free body.link.awaits) b.holds) (not-true body.link.turn d.holds) (not-true (is_empty body.sets.own) e.holds);
            in_mode = subst (λ n. n ≤ most_marks) (next-seen body.saved) within;
          };
      after = mark-sent free base body;
      means = (ap model_mark (sym (next-seen body.saved)), tt);
    }

-- ---- the turn

rests : (base : Base) (t : Option Transfer) → is_current is_running t ≡ false → is_current is_ending t ≡ false → RestsOrNone (transfer_seen base t)
rests base None h k = tt
rests base (Some t) h k = go t.progress h k
  where
    go : (p : Progress) → is_running p ≡ false → is_ending p ≡ false → progress_seen p ≡ model_suspended
    go Running h k = cc
    go Ending h k = cc
    go Suspended h k = refl

or-left : (a b : Bool) → (a || b) ≡ false → a ≡ false
or-left false b h = refl
or-left true b h = cc

or-right : (a b : Bool) → (a || b) ≡ false → b ≡ false
or-right false b h = h
or-right true b h = cc

pub give-acts : CallActs Direct the_calls.Give (λ body. GivesTurn)
give-acts free base proposed body answer sound h =
    let c = called (at Direct base) body the_calls.Give answer h in
    let a = passed (not (has_token (at Direct base) body)) refusals.NotNegotiated _ answer c.rows in
    let b = passed (not (is_free body.link.awaits)) refusals.Waiting _ answer a.later in
    let d = passed (not body.link.turn) refusals.NoTurn _ answer b.later in
    let e = passed (not (is_empty body.sets.own)) refusals.AlterPending _ answer d.later in
    record {
      may =
          record {
            leads = leads-there (at Direct base) body c.in_phase (not-true (is_free body.link.awaits) b.holds) (not-true body.link.turn d.holds) (not-true (is_empty body.sets.own) e.holds);
            in_mode = tt;
          };
      after = refl;
      means = (refl, tt);
    }

pub give_all-acts : CallActs Reliable the_calls.Give (λ body. GivesTurn)
give_all-acts free base proposed body answer sound h =
    let c = called (at Reliable base) body the_calls.Give answer h in
    let a = passed (not (has_token (at Reliable base) body)) refusals.NotNegotiated _ answer c.rows in
    let b = passed (not (is_free body.link.awaits)) refusals.Waiting _ answer a.later in
    let d = passed (not body.link.turn) refusals.NoTurn _ answer b.later in
    let e = passed (not (is_empty body.sets.own)) refusals.AlterPending _ answer d.later in
    let f = passed (has_activity body) (refusals.ActivityOpen body.sending.started) (Ok None) answer e.later in
    record {
      may =
          record {
            leads = leads-there (at Reliable base) body c.in_phase (not-true (is_free body.link.awaits) b.holds) (not-true body.link.turn d.holds) (not-true (is_empty body.sets.own) e.holds);
            in_mode = rests (at Reliable base) body.sending.current (or-left (is_current is_running body.sending.current) (is_current is_ending body.sending.current) f.holds) (or-right (is_current is_running body.sending.current) (is_current is_ending body.sending.current) f.holds);
          };
      after = refl;
      means = (refl, tt);
    }

pub please-acts : (priority : ℕ) → CallActs Direct (the_calls.Please priority) (λ body. Pleads 0)
please-acts priority free base proposed body answer sound h =
    let c = called (at Direct base) body (the_calls.Please priority) answer h in
    let a = passed (not (has_token (at Direct base) body)) refusals.NotNegotiated _ answer c.rows in
    let b = passed (not (is_free body.link.awaits)) refusals.Waiting _ answer a.later in
    let d = passed body.link.turn refusals.HasTurn (Ok None) answer b.later in
    record {
      may = record { is_free = is-free_there (at Direct base) body c.in_phase (not-true (is_free body.link.awaits) b.holds); lacks_turn = d.holds; in_mode = tt };
      after = refl;
      means = (refl, tt);
    }

pub please_with-acts : (priority : ℕ) → CallActs Reliable (the_calls.Please priority) (λ body. Pleads priority)
please_with-acts priority free base proposed body answer sound h =
    let c = called (at Reliable base) body (the_calls.Please priority) answer h in
    let a = passed (not (has_token (at Reliable base) body)) refusals.NotNegotiated _ answer c.rows in
    let b = passed (not (is_free body.link.awaits)) refusals.Waiting _ answer a.later in
    let d = passed body.link.turn refusals.HasTurn (Ok None) answer b.later in
    record {
      may = record { is_free = is-free_there (at Reliable base) body c.in_phase (not-true (is_free body.link.awaits) b.holds); lacks_turn = d.holds; in_mode = tt };
      after = refl;
      means = (refl, tt);
    }

-- ---- restarts

and-true : (a b : Bool) → not (a && b) ≡ false → (a ≡ true) × (b ≡ true)
and-true true b h = (refl, not-true b h)
and-true false b h = cc

pub restart-acts : (n : ℕ) → CallActs Direct (the_calls.Resync n) (λ body. Restarts n)
restart-acts n free base proposed body answer sound h =
    let c = called (at Direct base) body (the_calls.Resync n) answer h in
    let a = passed (not (is_direct Direct && has_restarts body.link.selected)) refusals.NotNegotiated _ answer c.rows in
    let b = passed (not (is_free body.link.awaits)) refusals.Waiting _ answer a.later in
    let d = passed (not (nat_le 1 n && nat_le n (next_number body.saved))) (refusals.NoSuchMark n) (Ok None) answer b.later in
    let e = and-true (nat_le 1 n) (nat_le n (next_number body.saved)) d.holds in
    let low : 1 ≤ n = grind (arith, nat_tests, e.0) in
    let high : n ≤ next_number body.saved = grind (arith, nat_tests, e.1) in
    record {
      may =
          record {
            is_direct = refl;
            is_free = is-free_there (at Direct base) body c.in_phase (not-true (is_free body.link.awaits) b.holds);
            is_positive = low;
            is_known = subst (λ m. n ≤ m) (next-seen body.saved) high;
          };
      after = refl;
      means = (ap (model_restart n) (sym (restored-seen n body.saved)), tt);
    }

-- ---- transfers

runs-there : (base : Base) (t : Option Transfer) → (is_current is_running t || is_current is_ending t) ≡ true → is_current is_ending t ≡ false → has_progress model_running (transfer_seen base t)
runs-there base None h k = cc
runs-there base (Some t) h k = go t.progress h k
  where
    go : (p : Progress) → (is_running p || is_ending p) ≡ true → is_ending p ≡ false → progress_seen p ≡ model_running
    go Running h k = refl
    go Ending h k = cc
    go Suspended h k = cc

rests-there : (base : Base) (t : Option Transfer) → is_current is_suspended t ≡ true → has_progress model_suspended (transfer_seen base t)
rests-there base None h = cc
rests-there base (Some t) h = go t.progress h
  where
    go : (p : Progress) → is_suspended p ≡ true → progress_seen p ≡ model_suspended
    go Running h = cc
    go Ending h = cc
    go Suspended h = refl

record Stopping (base : Base) (body : Body) : Type 0 where
  free_ : IsFree (seen base body)
  runs : has_progress model_running (seen base body).outgoing.transfer

stopping : (base : Base) (body : Body) (answer : Option ℤ) → is_up body.link.phase ≡ true → can_stop (at Reliable base) body ≡ Ok answer → Stopping (at Reliable base) body
stopping base body answer up h =
    let a = passed (is_direct Reliable) refusals.NotNegotiated _ answer h in
    let b = passed (not (is_free body.link.awaits)) refusals.Waiting _ answer a.later in
    let d = passed (not (has_activity body)) refusals.NoActivity _ answer b.later in
    let e = passed (is_current is_ending body.sending.current) (refusals.Ending body.sending.started) (Ok None) answer d.later in
    record {
      free_ = is-free_there (at Reliable base) body up (not-true (is_free body.link.awaits) b.holds);
      runs = runs-there (at Reliable base) body.sending.current (not-true (has_activity body) d.holds) e.holds;
    }

pub interrupt-acts : CallActs Reliable the_calls.Interrupt (λ body. Interrupts)
interrupt-acts free base proposed body answer sound h =
    let c = called (at Reliable base) body the_calls.Interrupt answer h in
    let s = stopping base body answer c.in_phase c.rows in
    record { may = record { by_transfers = refl; is_free = s.free_; runs = s.runs }; after = refl; means = (refl, tt) }

pub discard-acts : CallActs Reliable the_calls.Discard (λ body. Discards)
discard-acts free base proposed body answer sound h =
    let c = called (at Reliable base) body the_calls.Discard answer h in
    let s = stopping base body answer c.in_phase c.rows in
    record { may = record { by_transfers = refl; is_free = s.free_; runs = s.runs }; after = discard-sent free base body; means = (refl, tt) }

pub resume-acts : CallActs Reliable the_calls.Resume (λ body. Resumes)
resume-acts free base proposed body answer sound h =
    let c = called (at Reliable base) body the_calls.Resume answer h in
    let a = passed (is_direct Reliable) refusals.NotNegotiated _ answer c.rows in
    let b = passed (not (is_free body.link.awaits)) refusals.Waiting _ answer a.later in
    let d = passed (not (is_current is_suspended body.sending.current)) refusals.NotSuspended _ answer b.later in
    let e = passed (not body.link.turn) refusals.NoTurn _ answer d.later in
    let f = passed (not (is_empty body.sets.own)) refusals.AlterPending (Ok None) answer e.later in
    record {
      may =
          record {
            by_transfers = refl;
            leads = leads-there (at Reliable base) body c.in_phase (not-true (is_free body.link.awaits) b.holds) (not-true body.link.turn e.holds) (not-true (is_empty body.sets.own) f.holds);
            rests = rests-there (at Reliable base) body.sending.current (not-true (is_current is_suspended body.sending.current) d.holds);
          };
      after = resumption-sent free base body;
      means = (ap (model_resume body.sending.started) (sym (confirmed-of (at Reliable base) body.sending.current)), tt);
    }

-- ---- release

initiates : (b : Bool) → not b ≡ false → role_seen b ≡ Initiator
initiates true h = refl
initiates false h = cc

none-open : (os : List OpenCall) → is_empty (opens_of true os) ≡ true → opens_seen_on true [] os ≡ []
none-open os h =
    no-length (opens_seen_on true [] os) (length-seen true [] os ∙ ap (λ (xs : List OpenCall). 0 + length xs) (is-empty (opens_of true os) h))
  where
    no-length : (cs : List model.Invocation) → length cs ≡ 0 + length {A = OpenCall} [] → cs ≡ []
    no-length [] e = refl
    no-length (c ∷ cs) e = absurd (omega (arith, e))

record Released (base : Base) (body : Body) (answer : Option ℤ) : Type 0 where
  calm : is_free body.link.awaits ≡ true
  turn : (is_reliable base.mode && not body.link.turn) ≡ false
  own : is_empty body.sets.own ≡ true
  current : body.sending.current ≡ None
  queue : body.sending.queue ≡ []
  open_ : opens_seen_on true [] body.calls.opens ≡ []

is-none : {X : Type 0} (x : Option X) → is_none x ≡ true → x ≡ None
is-none None h = refl
is-none (Some x) h = cc

released : (base : Base) (body : Body) (answer : Option ℤ) → can_release base body ≡ Ok answer → Released base body answer
released base body answer h =
    let a = passed (not (is_free body.link.awaits)) refusals.Waiting _ answer h in
    let b = passed (is_reliable base.mode && not body.link.turn) refusals.NoTurn _ answer a.later in
    let c = passed (not (is_empty body.sets.own)) refusals.AlterPending _ answer b.later in
    let d = passed (not (is_none body.sending.current)) (refusals.ActivityOpen body.sending.started) _ answer c.later in
    let e = passed (not (is_empty body.sending.queue)) (refusals.QueueWaiting (length body.sending.queue)) _ answer d.later in
    let f = passed (not (is_empty (opens_of true body.calls.opens))) (refusals.OpenInvocations (length (opens_of true body.calls.opens))) (Ok None) answer e.later in
    record {
      calm = not-true (is_free body.link.awaits) a.holds;
      turn = b.holds;
      own = not-true (is_empty body.sets.own) c.holds;
      current = is-none body.sending.current (not-true (is_none body.sending.current) d.holds);
      queue = is-empty body.sending.queue (not-true (is_empty body.sending.queue) e.holds);
      open_ = none-open body.calls.opens (not-true (is_empty (opens_of true body.calls.opens)) f.holds);
    }

pub release-acts : CallActs Direct the_calls.Release (λ body. Releases)
release-acts free base proposed body answer sound h =
    let c = called (at Direct base) body the_calls.Release answer h in
    let r = released (at Direct base) body answer c.rows in
    record {
      may = record { initiates = initiates base.initiator c.initiates; is_free = is-free_there (at Direct base) body c.in_phase r.calm; is_settled = none-own (at Direct base) body r.own; in_mode = tt; none_open = r.open_ };
      after = refl;
      means = (refl, tt);
    }

pub release_in_turn-acts : CallActs Reliable the_calls.Release (λ body. Releases)
release_in_turn-acts free base proposed body answer sound h =
    let c = called (at Reliable base) body the_calls.Release answer h in
    let r = released (at Reliable base) body answer c.rows in
    record {
      may =
          record {
            initiates = initiates base.initiator c.initiates;
            is_free = is-free_there (at Reliable base) body c.in_phase r.calm;
            is_settled = none-own (at Reliable base) body r.own;
            in_mode = (not-true body.link.turn r.turn, ap (transfer_seen (at Reliable base)) r.current, ap (map (queued_seen (at Reliable base))) r.queue);
            none_open = r.open_;
          };
      after = refl;
      means = (refl, tt);
    }

-- ---- openings

is-idle : (phase : Phase) → is_idle phase ≡ true → phase ≡ phases.Idle
is-idle phases.Idle h = refl
is-idle phases.Opening h = cc
is-idle phases.Up h = cc
is-idle phases.Releasing h = cc
is-idle phases.Broken h = cc
is-idle phases.Recovering h = cc
is-idle phases.Over h = cc
is-idle phases.Dead h = cc

is-broken : (phase : Phase) → is_broken phase ≡ true → phase ≡ phases.Broken
is-broken phases.Idle h = cc
is-broken phases.Opening h = cc
is-broken phases.Up h = cc
is-broken phases.Releasing h = cc
is-broken phases.Broken h = refl
is-broken phases.Recovering h = cc
is-broken phases.Over h = cc
is-broken phases.Dead h = cc

pub opens-unseen : (mode : Mode) → CallUnseen mode the_calls.Open
opens-unseen mode base proposed body answer h =
    let c = called (at mode base) body the_calls.Open answer h in
    let put : states.Phase → states.State = λ p. record (seen (at mode base) body) { phase = p } in
    (ap put (sym (ap (phase_seen body.link.stage) (is-idle body.link.phase c.in_phase))), tt)

pub recovers-unseen : (mode : Mode) → CallUnseen mode the_calls.Recover
recovers-unseen mode base proposed body answer h =
    let c = called (at mode base) body the_calls.Recover answer h in
    let put : states.Phase → states.State = λ p. record (seen (at mode base) body) { phase = p } in
    (ap put (sym (ap (phase_seen body.link.stage) (is-broken body.link.phase c.in_phase))), tt)
