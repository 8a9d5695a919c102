-- An end reads till less than a message is left, and only octets that are fed to it bring it another.
use Rattle.std.proofs.Common.{◌≡◌, refl, ◌∙◌, sym, ap, subst, ℕ, List, [], ◌∷◌, ◌++◌, map, length, true, false, None, Ok, Err}
use Rattle.std.specs.Prelude.{Bool, not, ◌&&◌, Option, Some, if◌then◌else◌}
use Rattle.osi_base.specs.declared.layer_words.Side.{Side}
use Rattle.osi_base.specs.declared.layer_words.Side.TheVariants.{A, B}
use Rattle.dialogue.specs.Carries.{first_octets}
use Rattle.dialogue.specs.declared.call.Call.{Call}
use Rattle.dialogue.specs.declared.call.Call.TheVariants as the_calls
use Rattle.dialogue.specs.declared.call.CallRefusal.{CallRefusal}
use Rattle.dialogue.specs.declared.call.CallRefusal.TheVariants as refusals
use Rattle.dialogue.specs.declared.config.Phase.{Phase}
use Rattle.dialogue.specs.declared.config.Phase.TheVariants as phases
use Rattle.dialogue.specs.declared.event.Event.{Event}
use Rattle.dialogue.specs.declared.event.Entry.{Entry}
use Rattle.dialogue.specs.declared.indication.Indication.{Indication}
use Rattle.end_model.specs.end_rules.Base.{Base, Fault, is_reliable, is_bare}
use Rattle.end_model.specs.end_rules.Messages.{Message}
use Rattle.end_model.specs.end_rules.State.{Body, passes_over, is_up, is_free, is_empty}
use Rattle.end_model.specs.end_rules.Invoking.{Reply}
use Rattle.end_model.specs.end_rules.Calling.{can_call, can_by_rows, is_dead, is_initiators, is_phase_for, is_of_bare_mode}
use Rattle.end_model.specs.end_rules.Requesting.{due_of, after_refused}
use Rattle.end_model.specs.end_rules.ByItself.{OwnAct, SendsNow, EncodesOn, leads, next_in, next_own}
use Rattle.end_model.specs.end_rules.History.{Step, called, sent, fed, passed, fault, aborted, feed_end, gave, broke, after_step, step_of, ByItself, rests, goes}
use Rattle.end_model.specs.end_rules.World.{World, Ends, base_at, history_of}
use Rattle.agreement.specs.Sets.{Role, other}
use Rattle.agreement.specs.Sets.Role.{Initiator, Responder}
use Rattle.end_model.specs.Sharing.{side_of}
use Rattle.association_line.specs.association_reading.Front.{Intake, Short, first_in}
use Rattle.association_line.specs.Line.{End, after, after_all, end_of}
use Rattle.association_line.specs.Feeding.{taking, failing, Reads, is_over, waits, passes, takes, fails, Feeds, OwnAfter, Makes}
use Rattle.association_runs.specs.Worlds.{end_at, stepping, Runs}
use Rattle.association_runs.specs.Worlds as runs
use Rattle.association_runs.specs.Octets.{NothingWholeWaits}
use Rattle.association_runs.proofs.Histories.{own-history, peer-history, end-going, all-append}

no : false ≡ true → ⊥
no e = cc

not-true : (b : Bool) → (b ≡ true → ⊥) → b ≡ false
not-true true h = absurd (h refl)
not-true false h = refl

and-first : (a b : Bool) → (a && b) ≡ true → a ≡ true
and-first true b h = refl
and-first false b h = cc

and-second : (a b : Bool) → (a && b) ≡ true → b ≡ true
and-second true b h = h
and-second false b h = cc

-- ---- what one end keeps

-- it looks at what comes, and less than a message is left of it
abbrev pub IsShort : Option Intake → Type 0
IsShort None = ⊥
IsShort (Some intake) = first_in intake ≡ Short

abbrev IsCalm : End → Type 0
IsCalm e = passes_over e.body.link.phase ≡ false → IsShort e.line.came

-- ---- reading

aborts-same : (base : Base) (e : End) (ms : List Message) → (after_all base e (map aborted ms)).body ≡ e.body
aborts-same base e [] = refl
aborts-same base e (m ∷ ms) = aborts-same base (after base e (aborted m)) ms

failed-over : (base : Base) (e : End) (f : Fault) (aborts : List Message) → passes_over (after_all base e (failing f aborts)).body.link.phase ≡ true
failed-over base e f aborts = ap (λ (b : Body). passes_over b.link.phase) (aborts-same base (after base e (fault f.layer f.place f.reason)) aborts)

read-calm : (base : Base) (e : End) (steps : List Step) (shown : List Indication) → Reads base e steps shown → IsCalm (after_all base e steps)
read-calm base e steps shown (is_over u) = λ p. absurd (no (sym p ∙ u))
read-calm base e steps shown (waits intake u c short) = λ p. subst IsShort (sym c) short
read-calm base e steps shown (passes {steps = more} {shown = later} intake u c t next_reads) = read-calm base (after base e passed) more later next_reads
read-calm base e steps shown (takes {steps = more} {shown = later} intake message body answers told u c i t next_reads) =
    subst IsCalm (sym (all-append base e (taking message answers) more)) (read-calm base (after_all base e (taking message answers)) more later next_reads)
read-calm base e steps shown (fails intake f body aborts told u c t) = λ p. absurd (no (sym p ∙ failed-over base e f aborts))

-- ---- what an end does by itself

up-goes : (phase : Phase) → is_up phase ≡ true → passes_over phase ≡ false
up-goes phases.Over h = absurd (no h)
up-goes phases.Dead h = absurd (no h)
up-goes phases.Idle h = refl
up-goes phases.Opening h = refl
up-goes phases.Up h = refl
up-goes phases.Releasing h = refl
up-goes phases.Broken h = refl
up-goes phases.Recovering h = refl

leading-up : (base : Base) (body : Body) → leads base body ≡ true → is_up body.link.phase ≡ true
leading-up base body h =
    and-second (is_reliable base.mode) (is_up body.link.phase)
    (and-first (is_reliable base.mode && is_up body.link.phase) body.link.turn
    (and-first (is_reliable base.mode && is_up body.link.phase && body.link.turn) (is_free body.link.awaits)
    (and-first (is_reliable base.mode && is_up body.link.phase && body.link.turn && is_free body.link.awaits) (is_empty body.sets.own) h)))

acting-leads : (b : Bool) (next_one : Option OwnAct) (act : OwnAct) → (if b then next_one else None) ≡ Some act → b ≡ true
acting-leads true next_one act h = refl
acting-leads false next_one act h = absurd cc

acting-goes : (base : Base) (body : Body) (act : OwnAct) → next_own base body ≡ Some act → passes_over body.link.phase ≡ false
acting-goes base body act h = up-goes body.link.phase (leading-up base body (acting-leads (leads base body) (next_in base body body.sending.current) act h))

acted-calm : (base : Base) (e : End) (act : OwnAct) → IsShort e.line.came → IsCalm (after base e (step_of act))
acted-calm base e (SendsNow message) h = λ p. h
acted-calm base e (EncodesOn context) h = λ p. h

own-calm : (base : Base) (e : End) (b : Body) (own : List Step) → e.body ≡ b → ByItself base b own → IsCalm e → IsCalm (after_all base e own)
own-calm base e b own is (rests h) c = c
own-calm base e b own is (goes {steps = more} act h more_goes) c =
    own-calm base (after base e (step_of act)) (after_step base b (step_of act)) more (ap (λ (x : Body). after_step base x (step_of act)) is) more_goes
    (acted-calm base e act (c (acting-goes base e.body act (ap (next_own base) is ∙ h))))

-- ---- calls

abbrev IsErr : Reply → Type 0
IsErr (Ok answer) = ⊥
IsErr (Err refusal) = Unit {0}

else-err : (b : Bool) (refusal : CallRefusal) (more : Reply) → IsErr more → IsErr (if b then Err refusal else more)
else-err true refusal more h = tt
else-err false refusal more h = h

never-over : (call : Call) → is_phase_for call phases.Over ≡ false
never-over the_calls.Open = refl
never-over (the_calls.Invoke context operation argument linked) = refl
never-over (the_calls.Answer id result) = refl
never-over (the_calls.Refuse id error parameter) = refl
never-over (the_calls.Alter add delete) = refl
never-over the_calls.Mark = refl
never-over the_calls.Give = refl
never-over (the_calls.Please priority) = refl
never-over (the_calls.Resync n) = refl
never-over the_calls.Interrupt = refl
never-over the_calls.Resume = refl
never-over the_calls.Discard = refl
never-over the_calls.Recover = refl
never-over the_calls.Release = refl
never-over the_calls.Abort = refl

unless : (b : Bool) (refusal : CallRefusal) (more : Reply) → b ≡ false → IsErr (if not b then Err refusal else more)
unless true refusal more h = absurd (no (sym h))
unless false refusal more h = tt

rows-refuse : (base : Base) (body : Body) (call : Call) (phase : Phase) (more : Reply) → passes_over phase ≡ true
    → IsErr (if is_dead phase then Err refusals.Dead
    else (if is_initiators call && not base.initiator then Err refusals.NotInitiator
    else (if not (is_phase_for call phase) then Err (refusals.WrongPhase phase) else more)))
rows-refuse base body call phases.Dead more h = tt
rows-refuse base body call phases.Over more h =
    else-err (is_initiators call && not base.initiator) refusals.NotInitiator (if not (is_phase_for call phases.Over) then Err (refusals.WrongPhase phases.Over) else more)
    (unless (is_phase_for call phases.Over) (refusals.WrongPhase phases.Over) more (never-over call))
rows-refuse base body call phases.Idle more h = absurd (no h)
rows-refuse base body call phases.Opening more h = absurd (no h)
rows-refuse base body call phases.Up more h = absurd (no h)
rows-refuse base body call phases.Releasing more h = absurd (no h)
rows-refuse base body call phases.Broken more h = absurd (no h)
rows-refuse base body call phases.Recovering more h = absurd (no h)

over-refuses : (base : Base) (body : Body) (call : Call) → passes_over body.link.phase ≡ true → IsErr (can_call base body call)
over-refuses base body call h =
    rows-refuse base body call body.link.phase (if is_bare base.mode && not (is_of_bare_mode call) then Err refusals.NotNegotiated else can_by_rows base body call) h

refused-over : (body : Body) (refusal : CallRefusal) → passes_over (after_refused body refusal).link.phase ≡ false → passes_over body.link.phase ≡ false
refused-over body refusals.NoMemory h = absurd (no (sym h))
refused-over body _ h = h

sents-same : (base : Base) (e : End) (ms : List Message) → (after_all base e (map sent ms)).line.came ≡ e.line.came
sents-same base e [] = refl
sents-same base e (m ∷ ms) = sents-same base (after base e (sent m)) ms

call-calm : (base : Base) (e : End) (call : Call) (reply : Reply) (own : List Step) → (passes_over e.body.link.phase ≡ true → IsErr reply)
    → OwnAfter base reply (after_all base e (called call reply ∷ map sent (due_of base e.body call reply))).body own → IsCalm e
    → IsCalm (after_all base e ((called call reply ∷ map sent (due_of base e.body call reply)) ++ own))
call-calm base e call (Ok answer) own over o c =
    let steps : List Step = called call (Ok answer) ∷ map sent (due_of base e.body call (Ok answer)) in
    let short : IsShort e.line.came = c (not-true (passes_over e.body.link.phase) over) in
    let later : IsCalm (after_all base e steps) = λ p. subst IsShort (sym (sents-same base (after base e (called call (Ok answer))) (due_of base e.body call (Ok answer)))) short in
    subst IsCalm (sym (all-append base e steps own)) (own-calm base (after_all base e steps) (after_all base e steps).body own refl o later)
call-calm base e call (Err refusal) own over o c =
    subst (λ (l : List Step). IsCalm (after_all base e ((called call (Err refusal) ∷ []) ++ l))) (sym o) (λ p. c (refused-over e.body refusal p))

made-calm : (base : Base) (e : End) (call : Call) (steps : List Step) → Makes base e call steps → IsCalm e → IsCalm (after_all base e steps)
made-calm base e call steps x c =
    subst (λ (l : List Step). IsCalm (after_all base e l)) (sym x.all) (call-calm base e call (can_call base e.body call) x.own (over-refuses base e.body call) x.by_itself c)

-- ---- feeds

fed-calm : (base : Base) (e : End) (octets : List ℕ) (steps : List Step) (shown : List Indication) → Feeds base e octets steps shown → IsCalm (after_all base e steps)
fed-calm base e octets steps shown x =
    let f = after base e (fed octets) in
    let read : IsCalm (after_all base f x.reading) = read-calm base f x.reading shown x.reads in
    let g = after base (after_all base f x.reading) feed_end in
    subst (λ (l : List Step). IsCalm (after_all base e l)) (sym x.all)
    (subst IsCalm (sym (all-append base f x.reading (feed_end ∷ x.own))) (own-calm base g (after_all base f x.reading).body x.own refl x.by_itself read))

-- ---- both ends

module _ (ends : Ends) where
  abbrev AreCalm : World → Type 0
  AreCalm w = (side : Side) → IsCalm (end_at ends side w)

  own-at : (role : Role) (w : World) (xs : List Step) → end_at ends (side_of role) (stepping (side_of role) w xs) ≡ after_all (base_at ends (side_of role)) (end_at ends (side_of role) w) xs
  own-at role w xs = ap (end_of (base_at ends (side_of role))) (own-history role w xs) ∙ end-going (base_at ends (side_of role)) (history_of (side_of role) w) xs

  peer-at : (role : Role) (w : World) (xs : List Step) → end_at ends (side_of (other role)) (stepping (side_of role) w xs) ≡ end_at ends (side_of (other role)) w
  peer-at role w xs = ap (end_of (base_at ends (side_of (other role)))) (peer-history role w xs)

  stepped : (role : Role) (w : World) (xs : List Step) → AreCalm w → IsCalm (after_all (base_at ends (side_of role)) (end_at ends (side_of role) w) xs) → AreCalm (stepping (side_of role) w xs)
  stepped Initiator w xs h c A = subst IsCalm (sym (own-at Initiator w xs)) c
  stepped Initiator w xs h c B = subst IsCalm (sym (peer-at Initiator w xs)) (h B)
  stepped Responder w xs h c A = subst IsCalm (sym (peer-at Responder w xs)) (h A)
  stepped Responder w xs h c B = subst IsCalm (sym (own-at Responder w xs)) c

  broken : (w : World) → AreCalm (record { side = B; step = broke } ∷ record { side = A; step = broke } ∷ w)
  broken w A = λ p. refl
  broken w B = λ p. refl

  all-calm : (w v : World) (all : List Event) (told : List Entry) → Runs ends w all told v → AreCalm w → AreCalm v
  all-calm w v all told runs.rests h = h
  all-calm w v all told (runs.calls {more = more} {told = later} A call steps makes next_run) h =
      all-calm (stepping A w steps) v more later next_run (stepped Initiator w steps h (made-calm (base_at ends A) (end_at ends A w) call steps makes (h A)))
  all-calm w v all told (runs.calls {more = more} {told = later} B call steps makes next_run) h =
      all-calm (stepping B w steps) v more later next_run (stepped Responder w steps h (made-calm (base_at ends B) (end_at ends B w) call steps makes (h B)))
  all-calm w v all told (runs.carries {more = more} {told = later} A most steps shown fd next_run) h =
      let octets = first_octets most (end_at ends A w).line.waiting in
      let u : World = record { side = A; step = gave (length octets) } ∷ w in
      let given : AreCalm u = stepped Initiator w (gave (length octets) ∷ []) h (h A) in
      all-calm (stepping B u steps) v more later next_run (stepped Responder u steps given (fed-calm (base_at ends B) (end_at ends B w) octets steps shown fd))
  all-calm w v all told (runs.carries {more = more} {told = later} B most steps shown fd next_run) h =
      let octets = first_octets most (end_at ends B w).line.waiting in
      let u : World = record { side = B; step = gave (length octets) } ∷ w in
      let given : AreCalm u = stepped Responder w (gave (length octets) ∷ []) h (h B) in
      all-calm (stepping A u steps) v more later next_run (stepped Initiator u steps given (fed-calm (base_at ends A) (end_at ends A w) octets steps shown fd))
  all-calm w v all told (runs.breaks {more = more} {told = later} next_run) h =
      all-calm (stepping B (stepping A w (broke ∷ [])) (broke ∷ [])) v more later next_run (broken w)

  at-first : AreCalm []
  at-first A = λ p. refl
  at-first B = λ p. refl

-- of an end that isn't over
pub ends-wait : (ends : Ends) (all : List Event) (told : List Entry) (w : World) → Runs ends [] all told w → (side : Side) → passes_over (end_at ends side w).body.link.phase ≡ false → IsShort (end_at ends side w).line.came
ends-wait ends all told w r = all-calm ends [] w all told r (at-first ends)

pub nothing-waits : (ends : Ends) (all : List Event) (told : List Entry) (w : World) → Runs ends [] all told w → NothingWholeWaits ends w
nothing-waits ends all told w r side intake p c = subst IsShort c (ends-wait ends all told w r side p)
