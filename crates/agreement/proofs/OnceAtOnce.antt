-- Each invocation is taken at most once, in bare and direct mode; and what no step makes.
use Rattle.std.proofs.Common.{◌≡◌, ℕ, ◌≤◌, true, false, List, [], ◌∷◌, ◌++◌, refl, sym, ap, ◌∙◌, arith, subst, subst₂, inl, inr, ◌⊎◌}
use Rattle.std.specs.Prelude.{Option, Some, None}
use Rattle.agreement.specs.Sets.{Role, other, ContextSet, Item}
use Rattle.agreement.specs.Sets.Role.{Initiator, Responder}
use Rattle.agreement.specs.Messages.{Apdu, Value, Mode, ModelSetup, Message, Act, Choice, Calls}
use Rattle.agreement.specs.Messages.Mode.{Bare, Direct, Reliable}
use Rattle.agreement.specs.Messages.Apdu.{Invoke, Outcome, Reject}
use Rattle.agreement.specs.Messages.Act.{Connects, Recovers, SaysValue, Queues, Drops, Alters, Marks, GivesTurn, Pleads, Restarts, Starts, Encodes, Sends, EndsActivity, Interrupts, Discards, Resumes, Releases, Aborts, Withdraws, TransportFails}
use Rattle.agreement.specs.Messages.Choice.{Nothing, Accepting, Refusing, Results}
use Rattle.agreement.specs.Messages.Message.{Connect, Recover, Accept, Refuse, Data, Alter, AlterAnswer, Mark, MarkAnswer, Restart, RestartAnswer, Start, Resume, Chunk, End, EndAnswer, Interrupt, InterruptAnswer, Discard, DiscardAnswer, Give, GiveAnswer, Please, Release, ReleaseAnswer, UserAbort}
use Rattle.agreement.specs.State.{Phase, Transfer, State}
use Rattle.agreement.specs.State.Phase.{Idle, Opening, Up, Broken, Over}
use Rattle.agreement.specs.Calls.{handed_in}
use Rattle.agreement.specs.Acts.{MayAct, acted, sent_by, marked_in, gave_in}
use Rattle.agreement.specs.Takings.{MayTake, IsUnjoined, taken, hears, handed_up, marked_from, cut_item, refusing, broken_phase, broken_calls, answer_to, mark_answer, give_answer}
use Rattle.agreement.specs.Worlds.{Step, World, Sending, sendings, state_of, shared_at, flight_to, taken_off, sent_in, IsStep, IsRun, after}
use Rattle.agreement.specs.Worlds.Step.{Acts, Takes, Passes}
use Rattle.agreement.specs.Worlds.Moment.{By, Break}
use Rattle.agreement.specs.Laws.{NoAbortOfItself, invocation_in, invoked_after, invoked, InvokedOnce}
use Rattle.agreement.proofs.Rising.{newest_of, rises-weaker, rises-top, Once, once-skip, once-heard, once-handed, made-heard, number_in, numbers_in, numbers-append}

-- taking makes no invocation, but for an opening, where none was made before
made-hears : (setup : ModelSetup) (v : Option Value) (x : State) → (hears setup v x).calls.made ≡ x.calls.made
made-hears setup None x = refl
made-hears setup (Some v) x = made-heard setup x.calls v.identifier v.apdu

made-cut : (t : Option Transfer) (calls : Calls) → (cut_item t calls).made ≡ calls.made
made-cut None calls = refl
made-cut (Some t) calls = go t.item.apdu
  where
    go : (a : Apdu) → (cut_item (Some (record t { item = record t.item { apdu = a } })) calls).made ≡ calls.made
    go (Invoke number operation link argument) = refl
    go (Outcome number content) = refl
    go (Reject number b) = refl

made-opened : (setup : ModelSetup) (role : Role) (x : State) (choice : Choice) → x.calls.made ≡ 0 → (taken setup role x Connect choice).calls.made ≡ x.calls.made
made-opened setup role x (Accepting set) z = sym z
made-opened setup role x Refusing z = refl
made-opened setup role x Nothing z = refl
made-opened setup role x (Results results) z = refl

made-recovered : (setup : ModelSetup) (role : Role) (x : State) (choice : Choice) → (taken setup role x Recover choice).calls.made ≡ x.calls.made
made-recovered setup role x (Accepting set) = refl
made-recovered setup role x Refusing = refl
made-recovered setup role x Nothing = refl
made-recovered setup role x (Results results) = refl

made-altered : (setup : ModelSetup) (role : Role) (x : State) (items : List Item) (choice : Choice) → (taken setup role x (Alter items) choice).calls.made ≡ x.calls.made
made-altered setup role x items (Results results) = refl
made-altered setup role x items (Accepting set) = refl
made-altered setup role x items Refusing = refl
made-altered setup role x items Nothing = refl

pub made-taken : (setup : ModelSetup) (role : Role) (x : State) (m : Message) (choice : Choice) → (m ≡ Connect → x.calls.made ≡ 0) → (taken setup role x m choice).calls.made ≡ x.calls.made
made-taken setup role x Connect choice z = made-opened setup role x choice (z refl)
made-taken setup role x Recover choice z = made-recovered setup role x choice
made-taken setup role x (Accept set) choice z = refl
made-taken setup role x Refuse choice z = refl
made-taken setup role x (Data value) choice z = made-heard setup x.calls value.identifier value.apdu
made-taken setup role x (Alter items) choice z = made-altered setup role x items choice
made-taken setup role x (AlterAnswer results) choice z = refl
made-taken setup role x (Mark number) choice z = go setup.mode
  where
    go : (m : Mode) → (marked_from m number x).calls.made ≡ x.calls.made
    go Bare = refl
    go Direct = refl
    go Reliable = refl
made-taken setup role x (MarkAnswer number) choice z = refl
made-taken setup role x (Restart number list) choice z = refl
made-taken setup role x (RestartAnswer number list) choice z = refl
made-taken setup role x (Start activity) choice z = refl
made-taken setup role x (Resume activity mark) choice z = refl
made-taken setup role x (Chunk octets) choice z = refl
made-taken setup role x (End number) choice z =
    made-hears setup (handed_up setup x.sets.held x.incoming) (record x { incoming = record x.incoming { was_handed = true; active = false } })
made-taken setup role x (EndAnswer number) choice z = refl
made-taken setup role x Interrupt choice z = refl
made-taken setup role x InterruptAnswer choice z = refl
made-taken setup role x Discard choice z = refl
made-taken setup role x DiscardAnswer choice z = made-cut x.outgoing.transfer x.calls
made-taken setup role x Give choice z = refl
made-taken setup role x GiveAnswer choice z = refl
made-taken setup role x (Please priority) choice z = refl
made-taken setup role x Release choice z = refl
made-taken setup role x ReleaseAnswer choice z = refl
made-taken setup role x UserAbort choice z = refl

-- answers hand nothing in
pub answer-numbers : (setup : ModelSetup) (x : State) (m : Message) (choice : Choice) (at : ContextSet) → numbers_in (sendings at (answer_to setup x m choice)) ≡ []
answer-numbers setup x Connect (Accepting set) at = refl
answer-numbers setup x Connect Refusing at = refl
answer-numbers setup x Connect Nothing at = refl
answer-numbers setup x Connect (Results results) at = refl
answer-numbers setup x Recover (Accepting set) at = refl
answer-numbers setup x Recover Refusing at = refl
answer-numbers setup x Recover Nothing at = refl
answer-numbers setup x Recover (Results results) at = refl
answer-numbers setup x (Alter items) (Results results) at = refl
answer-numbers setup x (Alter items) (Accepting set) at = refl
answer-numbers setup x (Alter items) Refusing at = refl
answer-numbers setup x (Alter items) Nothing at = refl
answer-numbers setup x (Mark number) choice at = go setup.mode
  where
    go : (m : Mode) → numbers_in (sendings at (mark_answer m number)) ≡ []
    go Bare = refl
    go Direct = refl
    go Reliable = refl
answer-numbers setup x (Restart number list) choice at = refl
answer-numbers setup x (End number) choice at = refl
answer-numbers setup x Interrupt choice at = refl
answer-numbers setup x Discard choice at = refl
answer-numbers setup x Give choice at = go setup.mode
  where
    go : (m : Mode) → numbers_in (sendings at (give_answer m)) ≡ []
    go Bare = refl
    go Direct = refl
    go Reliable = refl
answer-numbers setup x Release choice at = refl
answer-numbers setup x m choice at = refl

-- an end that wasn't joined to an association, where none outlives a connection, has made no invocation
abbrev Unmade : State → Type 0
Unmade x = IsUnjoined x.phase → x.calls.made ≡ 0

up-not : (x : State) (A : Type 0) → x.phase ≡ Up → IsUnjoined x.phase → A
up-not x A u j = absurd (subst IsUnjoined u j)

acts-unmade : (setup : ModelSetup) (role : Role) (x : State) (act : Act) → MayAct setup role x act → Unmade x → Unmade (acted setup x act)
acts-unmade setup role x Connects h u = λ j. absurd j
acts-unmade setup role x Recovers h u = λ j. absurd j
acts-unmade setup role x (SaysValue value) h u = up-not x _ h.is_free.is_up
acts-unmade setup role x (Queues context apdu) h u = up-not x _ h.is_up
acts-unmade setup role x Drops h u = u
acts-unmade setup role x (Alters items) h u = u
acts-unmade setup role x Marks h u = go setup.mode
  where
    go : (m : Mode) → Unmade (marked_in m x)
    go Bare = u
    go Direct = u
    go Reliable = u
acts-unmade setup role x GivesTurn h u = go setup.mode
  where
    go : (m : Mode) → Unmade (gave_in m x)
    go Bare = u
    go Direct = u
    go Reliable = u
acts-unmade setup role x (Pleads priority) h u = u
acts-unmade setup role x (Restarts number) h u = u
acts-unmade setup role x Starts h u = u
acts-unmade setup role x (Encodes context) h u = u
acts-unmade setup role x (Sends octets) h u = u
acts-unmade setup role x EndsActivity h u = u
acts-unmade setup role x Interrupts h u = u
acts-unmade setup role x Discards h u = u
acts-unmade setup role x Resumes h u = u
acts-unmade setup role x Releases h u = λ j. absurd j
acts-unmade setup role x Aborts h u = λ j. absurd j
acts-unmade setup role x Withdraws h u = λ j. absurd j
acts-unmade setup role x TransportFails h u = λ j. absurd j

refusing-unjoined : (p : Phase) → IsUnjoined (refusing p) → IsUnjoined p
refusing-unjoined Broken j = tt
refusing-unjoined p j = absurd j

opened-unmade : (setup : ModelSetup) (role : Role) (x : State) (choice : Choice) → Unmade x → Unmade (taken setup role x Connect choice)
opened-unmade setup role x (Accepting set) u = λ j. absurd j
opened-unmade setup role x Refusing u = λ j. u (refusing-unjoined x.phase j)
opened-unmade setup role x Nothing u = u
opened-unmade setup role x (Results results) u = u

recovered-unmade : (setup : ModelSetup) (role : Role) (x : State) (choice : Choice) → Unmade x → Unmade (taken setup role x Recover choice)
recovered-unmade setup role x (Accepting set) u = λ j. absurd j
recovered-unmade setup role x Refusing u = λ j. u (refusing-unjoined x.phase j)
recovered-unmade setup role x Nothing u = u
recovered-unmade setup role x (Results results) u = u

altered-unmade : (setup : ModelSetup) (role : Role) (x : State) (items : List Item) (choice : Choice) → Unmade x → Unmade (taken setup role x (Alter items) choice)
altered-unmade setup role x items (Results results) u = u
altered-unmade setup role x items (Accepting set) u = u
altered-unmade setup role x items Refusing u = u
altered-unmade setup role x items Nothing u = u

takes-unmade : (setup : ModelSetup) (role : Role) (x : State) (m : Message) (choice : Choice) → (setup.mode ≡ Reliable → ⊥) → MayTake setup role x m → Unmade x → Unmade (taken setup role x m choice)
takes-unmade setup role x Connect choice a h u = opened-unmade setup role x choice u
takes-unmade setup role x Recover choice a h u = recovered-unmade setup role x choice u
takes-unmade setup role x (Accept set) choice a h u = λ j. absurd j
takes-unmade setup role x Refuse choice a h u = λ j. absurd j
takes-unmade setup role x (Data value) choice a h u = up-not x _ h.is_up
takes-unmade setup role x (Alter items) choice a h u = altered-unmade setup role x items choice u
takes-unmade setup role x (AlterAnswer results) choice a h u = u
takes-unmade setup role x (Mark number) choice a h u = go setup.mode
  where
    go : (m : Mode) → Unmade (marked_from m number x)
    go Bare = u
    go Direct = u
    go Reliable = u
takes-unmade setup role x (MarkAnswer number) choice a h u = u
takes-unmade setup role x (Restart number list) choice a h u = u
takes-unmade setup role x (RestartAnswer number list) choice a h u = u
takes-unmade setup role x (Start activity) choice a h u = u
takes-unmade setup role x (Resume activity mark) choice a h u = u
takes-unmade setup role x (Chunk octets) choice a h u = u
takes-unmade setup role x (End number) choice a h u = absurd (a h.by_transfers)
takes-unmade setup role x (EndAnswer number) choice a h u = u
takes-unmade setup role x Interrupt choice a h u = u
takes-unmade setup role x InterruptAnswer choice a h u = u
takes-unmade setup role x Discard choice a h u = u
takes-unmade setup role x DiscardAnswer choice a h u = up-not x _ h.is_up
takes-unmade setup role x Give choice a h u = u
takes-unmade setup role x GiveAnswer choice a h u = u
takes-unmade setup role x (Please priority) choice a h u = u
takes-unmade setup role x Release choice a h u = λ j. absurd j
takes-unmade setup role x ReleaseAnswer choice a h u = λ j. absurd j
takes-unmade setup role x UserAbort choice a h u = λ j. absurd j

broken-unjoined : (m : Mode) (p : Phase) → (m ≡ Reliable → ⊥) → IsUnjoined (broken_phase m p) → IsUnjoined p
broken-unjoined m Idle a j = tt
broken-unjoined m Over a j = absurd j
broken-unjoined m Opening a j = absurd j
broken-unjoined Bare p a j = absurd j
broken-unjoined Direct p a j = absurd j
broken-unjoined Reliable p a j = absurd (a refl)

-- a break makes no invocation
pub made-broken : (m : Mode) (calls : Calls) → (broken_calls m calls).made ≡ calls.made
made-broken Bare calls = refl
made-broken Direct calls = refl
made-broken Reliable calls = refl

first-unmade : (m : Mode) (x : State) → x.calls.made ≡ 0 → Unmade x
first-unmade m x e = λ j. e

step-unmade : (setup : ModelSetup) → NoAbortOfItself setup → (setup.mode ≡ Reliable → ⊥) → (role : Role) (world : World) (step : Step) → IsRun setup (By role step ∷ world) → Unmade (state_of setup role world) → Unmade (after setup role (state_of setup role world) step)
step-unmade setup n a role world (Acts act) h u = acts-unmade setup role (state_of setup role world) act h.0 u
step-unmade setup n a role world (Takes m choice) h u = takes-unmade setup role (state_of setup role world) m choice a (n world role m choice h) u
step-unmade setup n a role world (Passes m) h u = u

pub unmade-kept : (setup : ModelSetup) → NoAbortOfItself setup → (setup.mode ≡ Reliable → ⊥) → (world : World) → IsRun setup world → (role : Role) → Unmade (state_of setup role world)
unmade-kept setup n a [] h role = λ j. refl
unmade-kept setup n a (Break ∷ world) h role =
    λ j. made-broken setup.mode (state_of setup role world).calls ∙ unmade-kept setup n a world h.1 role (broken-unjoined setup.mode (state_of setup role world).phase a j)
unmade-kept setup n a (By Initiator step ∷ world) h Initiator = step-unmade setup n a Initiator world step h (unmade-kept setup n a world h.1 Initiator)
unmade-kept setup n a (By Responder step ∷ world) h Responder = step-unmade setup n a Responder world step h (unmade-kept setup n a world h.1 Responder)
unmade-kept setup n a (By Initiator step ∷ world) h Responder = unmade-kept setup n a world h.1 Responder
unmade-kept setup n a (By Responder step ∷ world) h Initiator = unmade-kept setup n a world h.1 Initiator

pub nil-numbers : (xs : List ℕ) → xs ++ [] ≡ xs
nil-numbers [] = refl
nil-numbers (x ∷ xs) = ap (λ ys. x ∷ ys) (nil-numbers xs)

-- what is to come at the taker
coming : (setup : ModelSetup) (x : State) (m : Message) (choice : Choice) (ns pending : List ℕ) (made : ℕ) → MayTake setup Initiator x m ⊎ MayTake setup Responder x m → (setup.mode ≡ Reliable → ⊥) → Once ns (number_in m ++ pending) made → Once (invoked_after setup x (Takes m choice) ns) pending made
coming setup x Connect (Accepting set) ns pending made h a o = record { falling = tt; rising = rises-weaker (newest_of ns) 0 made pending least o.rising }
  where
    least : 0 ≤ newest_of ns
    least = omega arith
coming setup x (Data value) choice ns pending made h a o = once-heard setup x.calls value.apdu ns pending made o
coming setup x (End number) choice ns pending made (inl h) a o = absurd (a h.by_transfers)
coming setup x (End number) choice ns pending made (inr h) a o = absurd (a h.by_transfers)
coming setup x Connect choice ns pending made h a o = o
coming setup x m choice ns pending made h a o = o

taker-step : (setup : ModelSetup) (x : State) (flight : List Sending) (step : Step) (ns : List ℕ) (made : ℕ) (role : Role) → IsStep setup role x flight step → ((m : Message) (choice : Choice) → step ≡ Takes m choice → MayTake setup Initiator x m ⊎ MayTake setup Responder x m) → (setup.mode ≡ Reliable → ⊥) → Once ns (numbers_in flight) made → Once (invoked_after setup x step ns) (numbers_in (taken_off step flight)) made
taker-step setup x flight (Acts act) ns made role h t a o = o
taker-step setup x [] (Takes m choice) ns made role h t a o = absurd h.comes
taker-step setup x (s ∷ flight) (Takes m choice) ns made role h t a o =
    coming setup x m choice ns (numbers_in flight) made (t m choice refl) a (subst (λ q. Once ns (number_in q ++ numbers_in flight) made) h.comes o)
taker-step setup x [] (Passes m) ns made role h t a o = absurd h.comes
taker-step setup x (s ∷ flight) (Passes m) ns made role h t a o = once-skip ns (number_in s.message) (numbers_in flight) made o

-- what the sender adds
adds : (ns : List ℕ) (flight new : List Sending) (made more : ℕ) (numbers : List ℕ) → numbers_in new ≡ numbers → Once ns (numbers_in flight ++ numbers) more → Once ns (numbers_in (flight ++ new)) more
adds ns flight new made more numbers e o = subst (λ xs. Once ns xs more) (ap (λ ys. numbers_in flight ++ ys) (sym e) ∙ sym (numbers-append flight new)) o

same-adds : (ns : List ℕ) (flight new : List Sending) (made more : ℕ) → numbers_in new ≡ [] → more ≡ made → Once ns (numbers_in flight) made → Once ns (numbers_in (flight ++ new)) more
same-adds ns flight new made more e f o =
    adds ns flight new made more [] e (subst₂ (λ xs k. Once ns xs k) (sym (nil-numbers (numbers_in flight))) (sym f) o)

act-adds : (setup : ModelSetup) (role : Role) (x : State) (act : Act) (at : ContextSet) (flight : List Sending) (ns : List ℕ) → MayAct setup role x act → (setup.mode ≡ Reliable → ⊥) → Once ns (numbers_in flight) x.calls.made → Once ns (numbers_in (flight ++ sendings at (sent_by setup x act))) (acted setup x act).calls.made
act-adds setup role x (SaysValue value) at flight ns h a o =
    adds ns flight (sendings at (Data value ∷ [])) x.calls.made (handed_in setup x.calls value.identifier value.apdu).made (invocation_in value.apdu) (nil-numbers (invocation_in value.apdu))
    (once-handed setup x.calls x.outgoing.queue value.identifier value.apdu ns (numbers_in flight) h.may_hand_in o)
act-adds setup role x (Queues context apdu) at flight ns h a o = absurd (a h.by_transfers)
act-adds setup role x Marks at flight ns h a o = same-adds ns flight (sendings at (sent_by setup x Marks)) x.calls.made (acted setup x Marks).calls.made refl (go setup.mode) o
  where
    go : (m : Mode) → (marked_in m x).calls.made ≡ x.calls.made
    go Bare = refl
    go Direct = refl
    go Reliable = refl
act-adds setup role x GivesTurn at flight ns h a o = same-adds ns flight (sendings at (sent_by setup x GivesTurn)) x.calls.made (acted setup x GivesTurn).calls.made refl (go setup.mode) o
  where
    go : (m : Mode) → (gave_in m x).calls.made ≡ x.calls.made
    go Bare = refl
    go Direct = refl
    go Reliable = refl
act-adds setup role x act at flight ns h a o = same-adds ns flight (sendings at (sent_by setup x act)) x.calls.made (acted setup x act).calls.made refl refl o

sender-step : (setup : ModelSetup) (role : Role) (x : State) (step : Step) (at : ContextSet) (mine flight : List Sending) (ns : List ℕ) → IsStep setup role x mine step → ((m : Message) (choice : Choice) → step ≡ Takes m choice → m ≡ Connect → x.calls.made ≡ 0) → (setup.mode ≡ Reliable → ⊥) → Once ns (numbers_in flight) x.calls.made → Once ns (numbers_in (flight ++ sendings at (sent_in setup x step))) (after setup role x step).calls.made
sender-step setup role x (Acts act) at mine flight ns h z a o = act-adds setup role x act at flight ns h a o
sender-step setup role x (Takes m choice) at mine flight ns h z a o =
    same-adds ns flight (sendings at (answer_to setup x m choice)) x.calls.made (taken setup role x m choice).calls.made (answer-numbers setup x m choice at) (made-taken setup role x m choice (z m choice refl)) o
sender-step setup role x (Passes m) at mine flight ns h z a o = same-adds ns flight [] x.calls.made x.calls.made refl refl o

side : (setup : ModelSetup) (role : Role) (x : State) (m : Message) → MayTake setup role x m → MayTake setup Initiator x m ⊎ MayTake setup Responder x m
side setup Initiator x m h = inl h
side setup Responder x m h = inr h

unjoined-of : (setup : ModelSetup) (role : Role) (x : State) (m : Message) → m ≡ Connect → MayTake setup role x m → IsUnjoined x.phase
unjoined-of setup role x m e h = (subst (λ q. MayTake setup role x q) e h).is_unjoined

once-kept : (setup : ModelSetup) → NoAbortOfItself setup → (setup.mode ≡ Reliable → ⊥) → (world : World) → IsRun setup world → (role : Role) → Once (invoked setup role world) (numbers_in (flight_to setup role world)) (state_of setup (other role) world).calls.made
once-kept setup n a [] h Initiator = record { falling = tt; rising = omega arith }
once-kept setup n a [] h Responder = record { falling = tt; rising = omega arith }
once-kept setup n a (Break ∷ world) h role =
    let o = once-kept setup n a world h.1 role in
    subst (Once (invoked setup role world) []) (sym (made-broken setup.mode (state_of setup (other role) world).calls))
    (record { falling = o.falling; rising = rises-top (newest_of (invoked setup role world)) (state_of setup (other role) world).calls.made (numbers_in (flight_to setup role world)) o.rising })
once-kept setup n a (By Initiator step ∷ world) h Initiator =
    taker-step setup (state_of setup Initiator world) (flight_to setup Initiator world) step (invoked setup Initiator world) (state_of setup Responder world).calls.made Initiator h.0
    (λ m c e. side setup Initiator (state_of setup Initiator world) m (n world Initiator m c (subst (λ s. IsRun setup (By Initiator s ∷ world)) e h))) a (once-kept setup n a world h.1 Initiator)
once-kept setup n a (By Responder step ∷ world) h Responder =
    taker-step setup (state_of setup Responder world) (flight_to setup Responder world) step (invoked setup Responder world) (state_of setup Initiator world).calls.made Responder h.0
    (λ m c e. side setup Responder (state_of setup Responder world) m (n world Responder m c (subst (λ s. IsRun setup (By Responder s ∷ world)) e h))) a (once-kept setup n a world h.1 Responder)
once-kept setup n a (By Responder step ∷ world) h Initiator =
    sender-step setup Responder (state_of setup Responder world) step (shared_at setup world).set (flight_to setup Responder world) (flight_to setup Initiator world) (invoked setup Initiator world) h.0
    (λ m c e k. unmade-kept setup n a world h.1 Responder (unjoined-of setup Responder (state_of setup Responder world) m k (n world Responder m c (subst (λ s. IsRun setup (By Responder s ∷ world)) e h)))) a (once-kept setup n a world h.1 Initiator)
once-kept setup n a (By Initiator step ∷ world) h Responder =
    sender-step setup Initiator (state_of setup Initiator world) step (shared_at setup world).set (flight_to setup Initiator world) (flight_to setup Responder world) (invoked setup Responder world) h.0
    (λ m c e k. unmade-kept setup n a world h.1 Initiator (unjoined-of setup Initiator (state_of setup Initiator world) m k (n world Initiator m c (subst (λ s. IsRun setup (By Initiator s ∷ world)) e h)))) a (once-kept setup n a world h.1 Responder)

pub at-once_invoked : (setup : ModelSetup) → NoAbortOfItself setup → (setup.mode ≡ Reliable → ⊥) → InvokedOnce setup
at-once_invoked setup n a world h role = (once-kept setup n a world h role).falling
