-- An end has at most four unanswered alterations, which name each identifier once: what one end keeps.
use Rattle.std.proofs.Common.{◌≡◌, suc, ◌<◌, ◌≤◌, length, true, false, List, [], ◌∷◌, ◌++◌, refl, sym, ap, arith, subst}
use Rattle.std.specs.Prelude.{Option, Some, None}
use Rattle.osi_base.specs.Limits.{most_alterations}
use Rattle.agreement.specs.Sets.{Role, Item, AreDistinct, named}
use Rattle.agreement.specs.Sets.Role.{Initiator, Responder}
use Rattle.agreement.specs.Messages.{Value, Mode, ModelSetup, Message, Act, Choice}
use Rattle.agreement.specs.Messages.Mode.{Bare, Direct, Reliable}
use Rattle.agreement.specs.Messages.Act.{Connects, Recovers, SaysValue, Queues, Drops, Alters, Marks, GivesTurn, Pleads, Restarts, Starts, Encodes, Sends, EndsActivity, Interrupts, Discards, Resumes, Releases, Aborts, Withdraws, TransportFails}
use Rattle.agreement.specs.Messages.Choice.{Nothing, Accepting, Refusing, Results}
use Rattle.agreement.specs.Messages.Message.{Connect, Recover, Accept, Refuse, Data, Alter, AlterAnswer, Mark, MarkAnswer, Restart, RestartAnswer, Start, Resume, Chunk, End, EndAnswer, Interrupt, InterruptAnswer, Discard, DiscardAnswer, Give, GiveAnswer, Please, Release, ReleaseAnswer, UserAbort}
use Rattle.agreement.specs.State.{State}
use Rattle.agreement.specs.Acts.{MayAct, acted, marked_in, gave_in}
use Rattle.agreement.specs.Takings.{taken, hears, handed_up, marked_from, later}
use Rattle.agreement.specs.Worlds.{Step, Sending, state_of, IsStep, after}
use Rattle.agreement.specs.Worlds.Step.{Acts, Takes, Passes}
use Rattle.agreement.specs.Worlds.Moment.{By, Break}
use Rattle.agreement.specs.Laws.{AlterationsAreFew}
use Rattle.agreement.proofs.Names.{later-distinct}

abbrev AreFew : List (List Item) → Type 0
AreFew own = (length own ≤ most_alterations) × AreDistinct (named own)

abbrev FewOf : State → Type 0
FewOf x = AreFew x.sets.own

none-few : AreFew []
none-few = (least, tt)
  where
    least : 0 ≤ most_alterations
    least = omega arith

length-more : (own : List (List Item)) (items : List Item) → length (own ++ (items ∷ [])) ≡ suc (length own)
length-more [] items = refl
length-more (o ∷ own) items = ap suc (length-more own items)

few-more : (own : List (List Item)) (items : List Item) → length own < most_alterations → AreDistinct (named (own ++ (items ∷ []))) → AreFew (own ++ (items ∷ []))
few-more own items less once = (subst (λ n. n ≤ most_alterations) (sym (length-more own items)) less, once)

few-later : (own : List (List Item)) → AreFew own → AreFew (later own)
few-later [] f = f
few-later (items ∷ own) f = (fewer, later-distinct (items ∷ own) f.1)
  where
    fewer : length own ≤ most_alterations
    fewer = let h : suc (length own) ≤ most_alterations = f.0 in omega arith

acts-few : (setup : ModelSetup) (role : Role) (x : State) (act : Act) → MayAct setup role x act → FewOf x → FewOf (acted setup x act)
acts-few setup role x (Alters items) h f = few-more x.sets.own items h.has_place h.once
acts-few setup role x Marks h f = go setup.mode
  where
    go : (m : Mode) → FewOf (marked_in m x)
    go Bare = f
    go Direct = f
    go Reliable = f
acts-few setup role x GivesTurn h f = go setup.mode
  where
    go : (m : Mode) → FewOf (gave_in m x)
    go Bare = f
    go Direct = f
    go Reliable = f
acts-few setup role x Connects h f = f
acts-few setup role x Recovers h f = f
acts-few setup role x (SaysValue value) h f = f
acts-few setup role x (Queues context apdu) h f = f
acts-few setup role x Drops h f = f
acts-few setup role x (Pleads priority) h f = f
acts-few setup role x (Restarts number) h f = f
acts-few setup role x Starts h f = f
acts-few setup role x (Encodes context) h f = f
acts-few setup role x (Sends octets) h f = f
acts-few setup role x EndsActivity h f = f
acts-few setup role x Interrupts h f = f
acts-few setup role x Discards h f = f
acts-few setup role x Resumes h f = f
acts-few setup role x Releases h f = f
acts-few setup role x Aborts h f = f
acts-few setup role x Withdraws h f = f
acts-few setup role x TransportFails h f = f

hears-few : (setup : ModelSetup) (v : Option Value) (x : State) → FewOf x → FewOf (hears setup v x)
hears-few setup None x f = f
hears-few setup (Some v) x f = f

opens-few : (setup : ModelSetup) (role : Role) (x : State) (choice : Choice) → FewOf x → FewOf (taken setup role x Connect choice)
opens-few setup role x (Accepting set) f = none-few
opens-few setup role x Refusing f = f
opens-few setup role x Nothing f = f
opens-few setup role x (Results results) f = f

recovers-few : (setup : ModelSetup) (role : Role) (x : State) (choice : Choice) → FewOf x → FewOf (taken setup role x Recover choice)
recovers-few setup role x (Accepting set) f = none-few
recovers-few setup role x Refusing f = f
recovers-few setup role x Nothing f = f
recovers-few setup role x (Results results) f = f

alters-few : (setup : ModelSetup) (role : Role) (x : State) (items : List Item) (choice : Choice) → FewOf x → FewOf (taken setup role x (Alter items) choice)
alters-few setup role x items (Results results) f = f
alters-few setup role x items (Accepting set) f = f
alters-few setup role x items Refusing f = f
alters-few setup role x items Nothing f = f

takes-few : (setup : ModelSetup) (role : Role) (x : State) (m : Message) (choice : Choice) → FewOf x → FewOf (taken setup role x m choice)
takes-few setup role x Connect choice f = opens-few setup role x choice f
takes-few setup role x Recover choice f = recovers-few setup role x choice f
takes-few setup role x (Accept set) choice f = none-few
takes-few setup role x (Data value) choice f = hears-few setup (Some value) x f
takes-few setup role x (Alter items) choice f = alters-few setup role x items choice f
takes-few setup role x (AlterAnswer results) choice f = few-later x.sets.own f
takes-few setup role x (Mark number) choice f = go setup.mode
  where
    go : (m : Mode) → FewOf (marked_from m number x)
    go Bare = f
    go Direct = f
    go Reliable = f
takes-few setup role x (Restart number list) choice f = none-few
takes-few setup role x (RestartAnswer number list) choice f = none-few
takes-few setup role x (End number) choice f =
    hears-few setup (handed_up setup x.sets.held x.incoming) (record x { incoming = record x.incoming { was_handed = true; active = false } }) f
takes-few setup role x InterruptAnswer choice f = none-few
takes-few setup role x DiscardAnswer choice f = none-few
takes-few setup role x Refuse choice f = f
takes-few setup role x (MarkAnswer number) choice f = f
takes-few setup role x (Start activity) choice f = f
takes-few setup role x (Resume activity mark) choice f = f
takes-few setup role x (Chunk octets) choice f = f
takes-few setup role x (EndAnswer number) choice f = f
takes-few setup role x Interrupt choice f = f
takes-few setup role x Discard choice f = f
takes-few setup role x Give choice f = f
takes-few setup role x GiveAnswer choice f = f
takes-few setup role x (Please priority) choice f = f
takes-few setup role x Release choice f = f
takes-few setup role x ReleaseAnswer choice f = f
takes-few setup role x UserAbort choice f = f

step-few : (setup : ModelSetup) (role : Role) (x : State) (flight : List Sending) (step : Step) → IsStep setup role x flight step → FewOf x → FewOf (after setup role x step)
step-few setup role x flight (Acts act) h f = acts-few setup role x act h f
step-few setup role x flight (Takes m choice) h f = takes-few setup role x m choice f
step-few setup role x flight (Passes m) h f = f

pub alterations-few : (setup : ModelSetup) → AlterationsAreFew setup
alterations-few setup [] h role = none-few
alterations-few setup (Break ∷ world) h role = alterations-few setup world h.1 role
alterations-few setup (By Initiator step ∷ world) h Initiator = step-few setup Initiator (state_of setup Initiator world) _ step h.0 (alterations-few setup world h.1 Initiator)
alterations-few setup (By Responder step ∷ world) h Responder = step-few setup Responder (state_of setup Responder world) _ step h.0 (alterations-few setup world h.1 Responder)
alterations-few setup (By Initiator step ∷ world) h Responder = alterations-few setup world h.1 Responder
alterations-few setup (By Responder step ∷ world) h Initiator = alterations-few setup world h.1 Initiator
