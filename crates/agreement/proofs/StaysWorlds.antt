-- A context that is left alone stays: the shared set, what is on its way, and every world.
use Rattle.std.proofs.Common.{◌≡◌, ℕ, zero, suc, ◌≤◌, true, false, List, [], ◌∷◌, ◌++◌, refl, sym, ap, ◌∙◌, true≢false, subst, inl, inr, ◌⊎◌}
use Rattle.std.specs.Prelude.{Option, Some, None}
use Rattle.agreement.specs.Sets.{Role, ContextSet, Item, Saved, below, newest}
use Rattle.agreement.specs.Sets.Role.{Initiator, Responder}
use Rattle.agreement.specs.Messages.{Value, Mode, ModelSetup, Message, Act, Choice}
use Rattle.agreement.specs.Messages.Problem.{General}
use Rattle.agreement.specs.Messages.Apdu.{Reject}
use Rattle.agreement.specs.Messages.Mode.{Bare, Direct, Reliable}
use Rattle.agreement.specs.Messages.Act.{Connects, Recovers, SaysValue, Queues, Drops, Alters, Marks, GivesTurn, Pleads, Restarts, Starts, Encodes, Sends, EndsActivity, Interrupts, Discards, Resumes, Releases, Aborts, Withdraws, TransportFails}
use Rattle.agreement.specs.Messages.Choice.{Nothing, Accepting, Refusing, Results}
use Rattle.agreement.specs.Messages.Message.{Connect, Recover, Accept, Refuse, Data, Alter, AlterAnswer, Mark, MarkAnswer, Restart, RestartAnswer, Start, Resume, Chunk, End, EndAnswer, Interrupt, InterruptAnswer, Discard, DiscardAnswer, Give, GiveAnswer, Please, Release, ReleaseAnswer, UserAbort}
use Rattle.agreement.specs.State.{Phase, Transfer, State, new_end, first_phase, up_to, newest_set, highest}
use Rattle.agreement.specs.State.Phase.{Idle, Opening, Broken, Over}
use Rattle.agreement.specs.Acts.{MayAct, IsNotBare, acted, sent_by, marked_in, gave_in, pieces_of, confirmed_of}
use Rattle.agreement.specs.Takings.{MayTake, taken, answer_to, mark_answer, give_answer, hears, handed_up, between, marked_from, refusing, broken, broken_phase}
use Rattle.agreement.specs.Worlds.{Step, World, state_of, after, sent_in, Shared, saved_of, saving, shared_marked, shared_resumed, shared_all, shared_answered, shared_after, shared_at, Sending, sendings, sent_by_step, taken_off, flight_to, IsStep, IsRun}
use Rattle.agreement.specs.Worlds.Step.{Acts, Takes, Passes}
use Rattle.agreement.specs.Worlds.Moment.{By, Break}
use Rattle.agreement.specs.Laws.{NoAbortOfItself, LeavesAlone, IsLeftAlone, IsJoined, ContextsStay}
use Rattle.agreement.proofs.Pieces.{saved-up_to, newest-saved}
use Rattle.agreement.proofs.Flow.{SavedIn}
use Rattle.agreement.proofs.Standing.{reliable, Flowing}
use Rattle.agreement.proofs.Standing.Flowing.{Leads, Follows, Gives_away, Is_given}
use Rattle.agreement.proofs.StandingActs.{is-seen}
use Rattle.agreement.proofs.ReliableWorlds.{ReliableRelation, reliable-keeps}
use Rattle.agreement.proofs.Encoded.{up-stands}
use Rattle.agreement.proofs.Runs.{at-role, reached}
use Rattle.agreement.proofs.Views.{direct}
use Rattle.agreement.proofs.Mail.{by-mode}
use Rattle.agreement.proofs.Stays.{Gives_pair, Saves, saves-below, saves-newest, Unnamed, gives-altered, gives-mark, StayOf, HasItsMark, Sound, acts-stay, takes-stay, breaks-stay}

-- the shared set and what it saved give the pair
record Whole (v : Value) (shared : Shared) : Type 0 where
  pub set : Gives_pair v shared.set
  pub inter : Gives_pair v shared.inter
  pub saved : Saves v shared.saved

-- a resumption from a mark brings the shared set to what the sender then holds
abbrev ItsMark : Role → State → Shared → Type 0
ItsMark role x shared = (n : ℕ) → confirmed_of x.outgoing.transfer ≡ suc n → newest (below (suc (suc n)) (saved_of role shared)) ≡ newest_set (up_to (suc n) (pieces_of x.outgoing.transfer))

whole-saving : (v : Value) (role : Role) (marks : List Saved) (shared : Shared) → Whole v shared → Whole v (saving role marks shared)
whole-saving v Initiator marks shared w = record { set = w.set; inter = w.inter; saved = w.saved }
whole-saving v Responder marks shared w = record { set = w.set; inter = w.inter; saved = w.saved }

whole-resumed : (v : Value) (role : Role) (n : ℕ) (shared : Shared) → ((m : ℕ) → n ≡ suc m → Gives_pair v (newest (below (suc (suc m)) (saved_of role shared)))) → Whole v shared → Whole v (shared_resumed role n shared)
whole-resumed v role zero shared g w = whole-saving v role [] (record shared { inter = shared.set }) (record { set = w.set; inter = w.set; saved = w.saved })
whole-resumed v role (suc n) shared g w =
    whole-saving v role (below (suc (suc n)) (saved_of role shared)) (record shared { inter = shared.set; set = newest (below (suc (suc n)) (saved_of role shared)) })
    (record { set = g n refl; inter = w.set; saved = w.saved })

whole-acts : (v : Value) (setup : ModelSetup) (role : Role) (x : State) (act : Act) (shared : Shared) → (act ≡ Resumes → (n : ℕ) → confirmed_of x.outgoing.transfer ≡ suc n → Gives_pair v (newest (below (suc (suc n)) (saved_of role shared)))) → Whole v shared → Whole v (shared_all setup.mode role (sent_by setup x act) shared)
whole-acts v setup role x Connects shared g w = w
whole-acts v setup role x Recovers shared g w = w
whole-acts v setup role x (SaysValue value) shared g w = w
whole-acts v setup role x (Queues context apdu) shared g w = w
whole-acts v setup role x Drops shared g w = w
whole-acts v setup role x (Alters items) shared g w = w
whole-acts v setup role x Marks shared g w = go setup.mode
  where
    marked : (m : Mode) (n : ℕ) → Whole v (shared_marked m role n shared)
    marked Bare n = w
    marked Direct n = record { set = w.set; inter = w.inter; saved = (w.set, inr w.saved) }
    marked Reliable n = whole-saving v role (record { number = n; set = shared.set } ∷ saved_of role shared) shared w

    go : (m : Mode) → Whole v (shared_all m role (sent_by (record setup { mode = m }) x Marks) shared)
    go m = marked m _
whole-acts v setup role x GivesTurn shared g w = w
whole-acts v setup role x (Pleads priority) shared g w = w
whole-acts v setup role x (Restarts number) shared g w = w
whole-acts v setup role x Starts shared g w = whole-saving v role [] (record shared { inter = shared.set }) (record { set = w.set; inter = w.set; saved = w.saved })
whole-acts v setup role x (Encodes context) shared g w = w
whole-acts v setup role x (Sends octets) shared g w = w
whole-acts v setup role x EndsActivity shared g w = w
whole-acts v setup role x Interrupts shared g w = w
whole-acts v setup role x Discards shared g w = w
whole-acts v setup role x Resumes shared g w = whole-resumed v role (confirmed_of x.outgoing.transfer) shared (g refl) w
whole-acts v setup role x Releases shared g w = w
whole-acts v setup role x Aborts shared g w = w
whole-acts v setup role x Withdraws shared g w = w
whole-acts v setup role x TransportFails shared g w = w

-- an acceptance, of an opening or a recovery
abbrev AcceptsIn : Step → Type 0
AcceptsIn (Takes Connect (Accepting set)) = Unit {0}
AcceptsIn (Takes Recover (Accepting set)) = Unit {0}
AcceptsIn step = ⊥

opened-whole : (v : Value) (choice : Choice) (shared : Shared) → LeavesAlone v.identifier v.pair (Takes Connect choice) → AcceptsIn (Takes Connect choice) ⊎ Whole v shared → Whole v (shared_answered Connect choice shared)
opened-whole v (Accepting set) shared l w = record { set = l; inter = l; saved = (l, inl refl) }
opened-whole v Refusing shared l (inl a) = absurd a
opened-whole v Refusing shared l (inr w) = w
opened-whole v Nothing shared l (inl a) = absurd a
opened-whole v Nothing shared l (inr w) = w
opened-whole v (Results results) shared l (inl a) = absurd a
opened-whole v (Results results) shared l (inr w) = w

recovered-whole : (v : Value) (choice : Choice) (shared : Shared) → LeavesAlone v.identifier v.pair (Takes Recover choice) → AcceptsIn (Takes Recover choice) ⊎ Whole v shared → Whole v (shared_answered Recover choice shared)
recovered-whole v (Accepting set) shared l w = record { set = l; inter = l; saved = (l, inl refl) }
recovered-whole v Refusing shared l (inl a) = absurd a
recovered-whole v Refusing shared l (inr w) = w
recovered-whole v Nothing shared l (inl a) = absurd a
recovered-whole v Nothing shared l (inr w) = w
recovered-whole v (Results results) shared l (inl a) = absurd a
recovered-whole v (Results results) shared l (inr w) = w

altered-whole : (v : Value) (items : List Item) (choice : Choice) (shared : Shared) → Unnamed v items → Whole v shared → Whole v (shared_answered (Alter items) choice shared)
altered-whole v items (Results results) shared u w = record { set = gives-altered v items results shared.set u w.set; inter = w.inter; saved = w.saved }
altered-whole v items (Accepting set) shared u w = w
altered-whole v items Refusing shared u w = w
altered-whole v items Nothing shared u w = w

not-accepting : (A : Type 0) (m : Message) (choice : Choice) → (m ≡ Connect → ⊥) → (m ≡ Recover → ⊥) → AcceptsIn (Takes m choice) → A
not-accepting A Connect choice n k a = absurd (n refl)
not-accepting A Recover choice n k a = absurd (k refl)
not-accepting A m choice n k a = absurd a

whole-takes : (v : Value) (setup : ModelSetup) (role : Role) (x : State) (m : Message) (choice : Choice) (shared : Shared) → MayTake setup role x m → LeavesAlone v.identifier v.pair (Takes m choice) → Sound v m → AcceptsIn (Takes m choice) ⊎ Whole v shared → Whole v (shared_answered m choice shared)
whole-takes v setup role x Connect choice shared h l s w = opened-whole v choice shared l w
whole-takes v setup role x Recover choice shared h l s w = recovered-whole v choice shared l w
whole-takes v setup role x m choice shared h l s (inl a) = absurd (not-accepting ⊥ m choice (λ e. cc) (λ e. cc) a)
whole-takes v setup role x (Alter items) choice shared h l s (inr w) = altered-whole v items choice shared s w
whole-takes v setup role x (Restart number list) choice shared h l s (inr w) =
    let b = saves-below v number shared.saved h.is_positive w.saved in record { set = saves-newest v (below number shared.saved) b; inter = w.inter; saved = b }
whole-takes v setup role x (End number) choice shared h l s (inr w) = record { set = w.inter; inter = w.inter; saved = w.saved }
whole-takes v setup role x Interrupt choice shared h l s (inr w) = record { set = w.inter; inter = w.inter; saved = w.saved }
whole-takes v setup role x Discard choice shared h l s (inr w) = record { set = w.inter; inter = w.inter; saved = w.saved }
whole-takes v setup role x m choice shared h l s (inr w) = w

-- what is on its way
abbrev AllSound : Value → List Sending → Type 0
AllSound v [] = Unit {0}
AllSound v (s ∷ flight) = Sound v s.message × AllSound v flight

abbrev IsAcceptance : Message → Type 0
IsAcceptance (Accept set) = Unit {0}
IsAcceptance message = ⊥

abbrev HasAcceptance : List Sending → Type 0
HasAcceptance [] = ⊥
HasAcceptance (s ∷ flight) = IsAcceptance s.message ⊎ HasAcceptance flight

all-sound : (v : Value) (f g : List Sending) → AllSound v f → AllSound v g → AllSound v (f ++ g)
all-sound v [] g a b = b
all-sound v (s ∷ f) g a b = (a.0, all-sound v f g a.1 b)

acceptance-append : (f g : List Sending) → HasAcceptance (f ++ g) → HasAcceptance f ⊎ HasAcceptance g
acceptance-append [] g h = inr h
acceptance-append (s ∷ f) g (inl a) = inl (inl a)
acceptance-append (s ∷ f) g (inr h) = go (acceptance-append f g h)
  where
    go : HasAcceptance f ⊎ HasAcceptance g → HasAcceptance (s ∷ f) ⊎ HasAcceptance g
    go (inl a) = inl (inr a)
    go (inr b) = inr b

-- what an act sends, and what is answered
abbrev Plain_flight : Value → List Sending → Type 0
Plain_flight v flight = AllSound v flight × (HasAcceptance flight → ⊥)

neither : ⊥ ⊎ ⊥ → ⊥
neither (inl a) = a
neither (inr b) = b

none-plain : (v : Value) → Plain_flight v []
none-plain v = (tt, λ h. h)

acts-plain : (v : Value) (setup : ModelSetup) (x : State) (act : Act) (at : ContextSet) → LeavesAlone v.identifier v.pair (Acts act) → Plain_flight v (sendings at (sent_by setup x act))
acts-plain v setup x Connects at l = ((tt, tt), neither)
acts-plain v setup x Recovers at l = ((tt, tt), neither)
acts-plain v setup x (SaysValue value) at l = ((tt, tt), neither)
acts-plain v setup x (Queues context apdu) at l = none-plain v
acts-plain v setup x Drops at l = none-plain v
acts-plain v setup x (Alters items) at l = ((l, tt), neither)
acts-plain v setup x Marks at l = ((tt, tt), neither)
acts-plain v setup x GivesTurn at l = ((tt, tt), neither)
acts-plain v setup x (Pleads priority) at l = ((tt, tt), neither)
acts-plain v setup x (Restarts number) at l = ((tt, tt), neither)
acts-plain v setup x Starts at l = ((tt, tt), neither)
acts-plain v setup x (Encodes context) at l = none-plain v
acts-plain v setup x (Sends octets) at l = ((tt, tt), neither)
acts-plain v setup x EndsActivity at l = ((tt, tt), neither)
acts-plain v setup x Interrupts at l = ((tt, tt), neither)
acts-plain v setup x Discards at l = ((tt, tt), neither)
acts-plain v setup x Resumes at l = ((tt, tt), neither)
acts-plain v setup x Releases at l = ((tt, tt), neither)
acts-plain v setup x Aborts at l = ((tt, tt), neither)
acts-plain v setup x Withdraws at l = none-plain v
acts-plain v setup x TransportFails at l = none-plain v

abbrev Sends_soundly : Value → Step → List Sending → Type 0
Sends_soundly v step flight = AllSound v flight × (HasAcceptance flight → AcceptsIn step)

plainly : (v : Value) (step : Step) (flight : List Sending) → Plain_flight v flight → Sends_soundly v step flight
plainly v step flight p = (p.0, λ h. absurd (p.1 h))

accepts-soundly : (v : Value) (choice : Choice) (m : Message) (x : State) (setup : ModelSetup) (at : ContextSet) → (m ≡ Connect) ⊎ (m ≡ Recover) → LeavesAlone v.identifier v.pair (Takes m choice) → Sends_soundly v (Takes m choice) (sendings at (answer_to setup x m choice))
accepts-soundly v (Accepting set) Connect x setup at e l = ((l, tt), λ h. tt)
accepts-soundly v Refusing Connect x setup at e l = ((tt, tt), λ h. absurd (neither h))
accepts-soundly v Nothing Connect x setup at e l = (tt, λ h. absurd h)
accepts-soundly v (Results results) Connect x setup at e l = (tt, λ h. absurd h)
accepts-soundly v (Accepting set) Recover x setup at e l = ((l, tt), λ h. tt)
accepts-soundly v Refusing Recover x setup at e l = ((tt, tt), λ h. absurd (neither h))
accepts-soundly v Nothing Recover x setup at e l = (tt, λ h. absurd h)
accepts-soundly v (Results results) Recover x setup at e l = (tt, λ h. absurd h)
accepts-soundly v choice m x setup at (inl e) l = absurd (cc)
accepts-soundly v choice m x setup at (inr e) l = absurd (cc)

answers-soundly : (v : Value) (setup : ModelSetup) (x : State) (m : Message) (choice : Choice) (at : ContextSet) → LeavesAlone v.identifier v.pair (Takes m choice) → Sends_soundly v (Takes m choice) (sendings at (answer_to setup x m choice))
answers-soundly v setup x Connect choice at l = accepts-soundly v choice Connect x setup at (inl refl) l
answers-soundly v setup x Recover choice at l = accepts-soundly v choice Recover x setup at (inr refl) l
answers-soundly v setup x (Alter items) (Results results) at l = ((tt, tt), λ h. absurd (neither h))
answers-soundly v setup x (Alter items) (Accepting set) at l = (tt, λ h. absurd h)
answers-soundly v setup x (Alter items) Refusing at l = (tt, λ h. absurd h)
answers-soundly v setup x (Alter items) Nothing at l = (tt, λ h. absurd h)
answers-soundly v setup x (Mark number) choice at l = go setup.mode
  where
    go : (m : Mode) → Sends_soundly v (Takes (Mark number) choice) (sendings at (mark_answer m number))
    go Bare = (tt, λ h. absurd h)
    go Direct = (tt, λ h. absurd h)
    go Reliable = ((tt, tt), λ h. absurd (neither h))
answers-soundly v setup x (Restart number list) choice at l = ((tt, tt), λ h. absurd (neither h))
answers-soundly v setup x (End number) choice at l = ((tt, tt), λ h. absurd (neither h))
answers-soundly v setup x Interrupt choice at l = ((tt, tt), λ h. absurd (neither h))
answers-soundly v setup x Discard choice at l = ((tt, tt), λ h. absurd (neither h))
answers-soundly v setup x Give choice at l = go setup.mode
  where
    go : (m : Mode) → Sends_soundly v (Takes Give choice) (sendings at (give_answer m))
    go Bare = (tt, λ h. absurd h)
    go Direct = (tt, λ h. absurd h)
    go Reliable = ((tt, tt), λ h. absurd (neither h))
answers-soundly v setup x Release choice at l = ((tt, tt), λ h. absurd (neither h))
answers-soundly v setup x m choice at l = (tt, λ h. absurd h)

-- who joins by a step took an acceptance, made one, or was joined
joins-acting : (setup : ModelSetup) (role : Role) (x : State) (act : Act) → MayAct setup role x act → IsJoined (acted setup x act).phase → IsJoined x.phase
joins-acting setup role x Connects h j = absurd j
joins-acting setup role x Recovers h j = absurd j
joins-acting setup role x Marks h j = go setup.mode j
  where
    go : (m : Mode) → IsJoined (marked_in m x).phase → IsJoined x.phase
    go Bare j = j
    go Direct j = j
    go Reliable j = j
joins-acting setup role x GivesTurn h j = go setup.mode j
  where
    go : (m : Mode) → IsJoined (gave_in m x).phase → IsJoined x.phase
    go Bare j = j
    go Direct j = j
    go Reliable j = j
joins-acting setup role x Releases h j = subst IsJoined (sym h.is_free.is_up) tt
joins-acting setup role x Aborts h j = absurd j
joins-acting setup role x Withdraws h j = absurd j
joins-acting setup role x TransportFails h j = absurd j
joins-acting setup role x (SaysValue value) h j = j
joins-acting setup role x (Queues context apdu) h j = j
joins-acting setup role x Drops h j = j
joins-acting setup role x (Alters items) h j = j
joins-acting setup role x (Pleads priority) h j = j
joins-acting setup role x (Restarts number) h j = j
joins-acting setup role x Starts h j = j
joins-acting setup role x (Encodes context) h j = j
joins-acting setup role x (Sends octets) h j = j
joins-acting setup role x EndsActivity h j = j
joins-acting setup role x Interrupts h j = j
joins-acting setup role x Discards h j = j
joins-acting setup role x Resumes h j = j

refusing-apart : (p : Phase) → IsJoined (refusing p) → ⊥
refusing-apart Broken j = j
refusing-apart p j = j

abbrev Joining : Message → Choice → State → Type 0
Joining m choice x = AcceptsIn (Takes m choice) ⊎ (IsAcceptance m ⊎ IsJoined x.phase)

joins-taking : (setup : ModelSetup) (role : Role) (x : State) (m : Message) (choice : Choice) → IsJoined (taken setup role x m choice).phase → Joining m choice x
joins-taking setup role x Connect (Accepting set) j = inl tt
joins-taking setup role x Connect Refusing j = absurd (refusing-apart x.phase j)
joins-taking setup role x Connect Nothing j = inr (inr j)
joins-taking setup role x Connect (Results results) j = inr (inr j)
joins-taking setup role x Recover (Accepting set) j = inl tt
joins-taking setup role x Recover Refusing j = absurd (refusing-apart x.phase j)
joins-taking setup role x Recover Nothing j = inr (inr j)
joins-taking setup role x Recover (Results results) j = inr (inr j)
joins-taking setup role x (Accept set) choice j = inr (inl tt)
joins-taking setup role x Refuse choice j = absurd j
joins-taking setup role x (Alter items) (Results results) j = inr (inr j)
joins-taking setup role x (Alter items) (Accepting set) j = inr (inr j)
joins-taking setup role x (Alter items) Refusing j = inr (inr j)
joins-taking setup role x (Alter items) Nothing j = inr (inr j)
joins-taking setup role x (Mark number) choice j = go setup.mode j
  where
    go : (m : Mode) → IsJoined (marked_from m number x).phase → Joining (Mark number) choice x
    go Bare j = inr (inr j)
    go Direct j = inr (inr j)
    go Reliable j = inr (inr j)
joins-taking setup role x (End number) choice j = go (handed_up setup x.sets.held x.incoming) j
  where
    go : (up : Option Value) → IsJoined (between (hears setup up (record x { incoming = record x.incoming { was_handed = true; active = false } }))).phase → Joining (End number) choice x
    go None j = inr (inr j)
    go (Some value) j = inr (inr j)
joins-taking setup role x Release choice j = absurd j
joins-taking setup role x ReleaseAnswer choice j = absurd j
joins-taking setup role x UserAbort choice j = absurd j
joins-taking setup role x (Data value) choice j = inr (inr j)
joins-taking setup role x (AlterAnswer results) choice j = inr (inr j)
joins-taking setup role x (MarkAnswer number) choice j = inr (inr j)
joins-taking setup role x (Restart number list) choice j = inr (inr j)
joins-taking setup role x (RestartAnswer number list) choice j = inr (inr j)
joins-taking setup role x (Start activity) choice j = inr (inr j)
joins-taking setup role x (Resume activity mark) choice j = inr (inr j)
joins-taking setup role x (Chunk octets) choice j = inr (inr j)
joins-taking setup role x (EndAnswer number) choice j = inr (inr j)
joins-taking setup role x Interrupt choice j = inr (inr j)
joins-taking setup role x InterruptAnswer choice j = inr (inr j)
joins-taking setup role x Discard choice j = inr (inr j)
joins-taking setup role x DiscardAnswer choice j = inr (inr j)
joins-taking setup role x Give choice j = inr (inr j)
joins-taking setup role x GiveAnswer choice j = inr (inr j)
joins-taking setup role x (Please priority) choice j = inr (inr j)

-- of one end, with what comes to it; A says that an acceptance was sent
record Half (v : Value) (mode : Mode) (x : State) (f : List Sending) (A : Type 0) : Type 0 where
  pub me : StayOf v mode x
  pub sound : AllSound v f
  pub joined : IsJoined x.phase → A
  pub accepted : HasAcceptance f → A

own-half : (v : Value) (setup : ModelSetup) (role : Role) (x : State) (f : List Sending) (A : Type 0) (step : Step) → IsStep setup role x f step → ((m : Message) (choice : Choice) → step ≡ Takes m choice → MayTake setup role x m) → LeavesAlone v.identifier v.pair step → (step ≡ Acts Resumes → HasItsMark x.outgoing.transfer) → Half v setup.mode x f A → Half v setup.mode (after setup role x step) (taken_off step f) (AcceptsIn step ⊎ A)
own-half v setup role x f A (Acts act) h t l m k =
    record {
      me = acts-stay v setup role x act h l (λ e. m (ap Acts e)) k.me;
      sound = k.sound;
      joined = λ j. inr (k.joined (joins-acting setup role x act h j));
      accepted = λ a. inr (k.accepted a);
    }
own-half v setup role x [] A (Takes message choice) h t l m k = absurd h.comes
own-half v setup role x (s ∷ f) A (Takes message choice) h t l m k =
    record {
      me = takes-stay v setup role x message choice (t message choice refl) h.is_choice l (subst (Sound v) h.comes k.sound.0) k.me;
      sound = k.sound.1;
      joined = λ j. go (joins-taking setup role x message choice j);
      accepted = λ a. inr (k.accepted (inr a));
    }
  where
    go : Joining message choice x → AcceptsIn (Takes message choice) ⊎ A
    go (inl a) = inl a
    go (inr (inl a)) = inr (k.accepted (inl (subst IsAcceptance (sym h.comes) a)))
    go (inr (inr j)) = inr (k.joined j)
own-half v setup role x [] A (Passes message) h t l m k = absurd h.comes
own-half v setup role x (s ∷ f) A (Passes message) h t l m k =
    record { me = k.me; sound = k.sound.1; joined = λ j. inr (k.joined j); accepted = λ a. inr (k.accepted (inr a)) }

peer-half : (v : Value) (mode : Mode) (y : State) (g new : List Sending) (A : Type 0) (step : Step) → Sends_soundly v step new → Half v mode y g A → Half v mode y (g ++ new) (AcceptsIn step ⊎ A)
peer-half v mode y g new A step s k =
    record { me = k.me; sound = all-sound v g new k.sound s.0; joined = λ j. inr (k.joined j); accepted = λ a. go (acceptance-append g new a) }
  where
    go : HasAcceptance g ⊎ HasAcceptance new → AcceptsIn step ⊎ A
    go (inl a) = inr (k.accepted a)
    go (inr b) = inl (s.1 b)

sends-soundly : (v : Value) (setup : ModelSetup) (x : State) (step : Step) (at : ContextSet) → LeavesAlone v.identifier v.pair step → Sends_soundly v step (sendings at (sent_in setup x step))
sends-soundly v setup x (Acts act) at l = plainly v (Acts act) (sendings at (sent_by setup x act)) (acts-plain v setup x act at l)
sends-soundly v setup x (Takes m choice) at l = answers-soundly v setup x m choice at l
sends-soundly v setup x (Passes m) at l = (tt, λ h. absurd h)

gives-its_mark : (v : Value) (mode : Mode) (role : Role) (x : State) (shared : Shared) → HasItsMark x.outgoing.transfer → ItsMark role x shared → StayOf v mode x → (n : ℕ) → confirmed_of x.outgoing.transfer ≡ suc n → Gives_pair v (newest (below (suc (suc n)) (saved_of role shared)))
gives-its_mark v mode role x shared m i k n e =
    subst (Gives_pair v) (sym (i n e)) (gives-mark v n (pieces_of x.outgoing.transfer) (m n e).0 (m n e).1 k.sent)

whole-step : (v : Value) (setup : ModelSetup) (role : Role) (x : State) (f : List Sending) (A : Type 0) (step : Step) (shared : Shared) → IsStep setup role x f step → ((m : Message) (choice : Choice) → step ≡ Takes m choice → MayTake setup role x m) → LeavesAlone v.identifier v.pair step → (step ≡ Acts Resumes → HasItsMark x.outgoing.transfer × ItsMark role x shared) → Half v setup.mode x f A → (A → Whole v shared) → AcceptsIn step ⊎ A → Whole v (shared_after setup role x step shared)
whole-step v setup role x f A (Acts act) shared h t l m k w (inl a) = absurd a
whole-step v setup role x f A (Acts act) shared h t l m k w (inr a) =
    whole-acts v setup role x act shared (λ e. gives-its_mark v setup.mode role x shared (m (ap Acts e)).0 (m (ap Acts e)).1 k.me) (w a)
whole-step v setup role x [] A (Takes message choice) shared h t l m k w a = absurd h.comes
whole-step v setup role x (s ∷ f) A (Takes message choice) shared h t l m k w a =
    whole-takes v setup role x message choice shared (t message choice refl) l (subst (Sound v) h.comes k.sound.0) (go a)
  where
    go : AcceptsIn (Takes message choice) ⊎ A → AcceptsIn (Takes message choice) ⊎ Whole v shared
    go (inl b) = inl b
    go (inr b) = inr (w b)
whole-step v setup role x f A (Passes message) shared h t l m k w (inl a) = absurd a
whole-step v setup role x f A (Passes message) shared h t l m k w (inr a) = w a

-- an acceptance was sent
abbrev Stood : World → Type 0
Stood [] = ⊥
Stood (Break ∷ world) = Stood world
Stood (By who step ∷ world) = AcceptsIn step ⊎ Stood world

abbrev pub ResumeFacts : ModelSetup → Type 0
ResumeFacts setup = (world : World) (role : Role) → IsRun setup (By role (Acts Resumes) ∷ world) → HasItsMark (state_of setup role world).outgoing.transfer × ItsMark role (state_of setup role world) (shared_at setup world)

record Both (v : Value) (setup : ModelSetup) (world : World) : Type 0 where
  pub initiator : Half v setup.mode (state_of setup Initiator world) (flight_to setup Initiator world) (Stood world)
  pub responder : Half v setup.mode (state_of setup Responder world) (flight_to setup Responder world) (Stood world)
  pub whole : Stood world → Whole v (shared_at setup world)

first-apart : (m : Mode) → IsNotBare m → IsJoined (first_phase m) → ⊥
first-apart Bare n j = n
first-apart Direct n j = j
first-apart Reliable n j = j

broken-apart : (m : Mode) (p : Phase) → IsJoined (broken_phase m p) → ⊥
broken-apart m Idle j = j
broken-apart m Over j = j
broken-apart m Opening j = j
broken-apart Bare p j = j
broken-apart Direct p j = j
broken-apart Reliable p j = j

broken-half : (v : Value) (setup : ModelSetup) (x : State) (f : List Sending) (A : Type 0) → Half v setup.mode x f A → Half v setup.mode (broken setup x) [] A
broken-half v setup x f A k = record { me = breaks-stay v setup x k.me; sound = tt; joined = λ j. absurd (broken-apart setup.mode x.phase j); accepted = λ a. absurd a }

both-kept : (v : Value) (setup : ModelSetup) → NoAbortOfItself setup → ResumeFacts setup → IsNotBare setup.mode → (world : World) → IsRun setup world → IsLeftAlone v.identifier v.pair world → Both v setup world
both-kept v setup n r b [] h l = record { initiator = first Initiator; responder = first Responder; whole = λ a. absurd a }
  where
    first : (role : Role) → Half v setup.mode (new_end setup role) [] ⊥
    first role =
        record {
          me = record { sets = λ j. absurd (first-apart setup.mode b j); own = tt; asked = tt; sent = tt; came = (tt, tt) };
          sound = tt;
          joined = λ j. first-apart setup.mode b j;
          accepted = λ a. a;
        }
both-kept v setup n r b (Break ∷ world) h l =
    let k = both-kept v setup n r b world h.1 l in
    record {
      initiator = broken-half v setup (state_of setup Initiator world) (flight_to setup Initiator world) (Stood world) k.initiator;
      responder = broken-half v setup (state_of setup Responder world) (flight_to setup Responder world) (Stood world) k.responder;
      whole = k.whole;
    }
both-kept v setup n r b (By Initiator step ∷ world) h l =
    let k = both-kept v setup n r b world h.1 l.1 in
    record {
      initiator =
          own-half v setup Initiator (state_of setup Initiator world) (flight_to setup Initiator world) (Stood world) step h.0
          (λ m c e. n world Initiator m c (subst (λ s. IsRun setup (By Initiator s ∷ world)) e h)) l.0 (λ e. (r world Initiator (subst (λ s. IsRun setup (By Initiator s ∷ world)) e h)).0) k.initiator;
      responder =
          peer-half v setup.mode (state_of setup Responder world) (flight_to setup Responder world) (sent_by_step setup Initiator world step) (Stood world) step
          (sends-soundly v setup (state_of setup Initiator world) step (shared_at setup world).set l.0) k.responder;
      whole =
          whole-step v setup Initiator (state_of setup Initiator world) (flight_to setup Initiator world) (Stood world) step (shared_at setup world) h.0
          (λ m c e. n world Initiator m c (subst (λ s. IsRun setup (By Initiator s ∷ world)) e h)) l.0 (λ e. r world Initiator (subst (λ s. IsRun setup (By Initiator s ∷ world)) e h)) k.initiator k.whole;
    }
both-kept v setup n r b (By Responder step ∷ world) h l =
    let k = both-kept v setup n r b world h.1 l.1 in
    record {
      initiator =
          peer-half v setup.mode (state_of setup Initiator world) (flight_to setup Initiator world) (sent_by_step setup Responder world step) (Stood world) step
          (sends-soundly v setup (state_of setup Responder world) step (shared_at setup world).set l.0) k.initiator;
      responder =
          own-half v setup Responder (state_of setup Responder world) (flight_to setup Responder world) (Stood world) step h.0
          (λ m c e. n world Responder m c (subst (λ s. IsRun setup (By Responder s ∷ world)) e h)) l.0 (λ e. (r world Responder (subst (λ s. IsRun setup (By Responder s ∷ world)) e h)).0) k.responder;
      whole =
          whole-step v setup Responder (state_of setup Responder world) (flight_to setup Responder world) (Stood world) step (shared_at setup world) h.0
          (λ m c e. n world Responder m c (subst (λ s. IsRun setup (By Responder s ∷ world)) e h)) l.0 (λ e. r world Responder (subst (λ s. IsRun setup (By Responder s ∷ world)) e h)) k.responder k.whole;
    }

half-of : (v : Value) (setup : ModelSetup) (world : World) (role : Role) → Both v setup world → Half v setup.mode (state_of setup role world) (flight_to setup role world) (Stood world)
half-of v setup world Initiator k = k.initiator
half-of v setup world Responder k = k.responder

pub contexts-stay : (setup : ModelSetup) → NoAbortOfItself setup → ResumeFacts setup → ContextsStay setup
contexts-stay setup n r b world h k pair l role j =
    let v : Value = record { identifier = k; pair = pair; apdu = Reject 0 (General 0) } in
    let both = both-kept v setup n r b world h l in
    let half = half-of v setup world role both in
    ((half.me.sets j).0, (both.whole (half.joined j)).set)

-- what a resumption finds: nothing is resumed but in reliable mode
saved-facts : (setup : ModelSetup) (role : Role) (x : State) (shared : Shared) (t : Option Transfer) → x.outgoing.transfer ≡ t → SavedIn setup t (saved_of role shared) → HasItsMark t × ((n : ℕ) → confirmed_of t ≡ suc n → newest (below (suc (suc n)) (saved_of role shared)) ≡ newest_set (up_to (suc n) (pieces_of t)))
saved-facts setup role x shared None e s = ((λ n f. absurd (cc)), (λ n f. absurd (cc)))
saved-facts setup role x shared (Some t) e s = (
  (λ n f. (s.0, subst (λ q. q ≤ highest t.pieces) f s.2)),
  (λ n f. ap newest (ap (below (suc (suc n))) s.1 ∙ sym (saved-up_to (suc n) t.pieces s.0 (subst (λ q. q ≤ highest t.pieces) f s.2))) ∙ sym (newest-saved (up_to (suc n) t.pieces))),
)

reliable-facts : (base : ModelSetup) → ResumeFacts (reliable base)
reliable-facts base world role h =
    let x = state_of (reliable base) role world in
    let shared = shared_at (reliable base) world in
    saved-facts (reliable base) role x shared x.outgoing.transfer refl
    (resumes-saved role x _ (flight_to (reliable base) role world) _ shared h.0 (at-role (reliable base) (ReliableRelation base) (reliable-keeps base) role world (reached (reliable base) (ReliableRelation base) (reliable-keeps base) world h.1)))
  where
    resumes-saved : (role : Role) (x y : State) (f g : List Sending) (shared : Shared) → MayAct (reliable base) role x Resumes → ReliableRelation base role x y f g shared → SavedIn (reliable base) x.outgoing.transfer (saved_of role shared)
    resumes-saved role x y f g shared h r =
        let j = up-stands base role x y f g shared r h.leads.is_free.is_up in
        let i = is-seen role x f g j.me j.up h.leads.is_free.is_up j.sees_me in
        by_flow role x shared h j.peer j.down j.up (subst (λ z. Flowing (reliable base) role z j.peer j.down j.up shared) i.same j.flow)
      where
        by_flow : (role : Role) (x : State) (shared : Shared) → MayAct (reliable base) role x Resumes → (y : State) (down up : List Message) → Flowing (reliable base) role x y down up shared → SavedIn (reliable base) x.outgoing.transfer (saved_of role shared)
        by_flow role x shared h y down up (Leads o p n) = n.saved
        by_flow role x shared h y down up (Follows o p n) = absurd (true≢false (sym h.leads.has_turn ∙ o.turn))
        by_flow role x shared h y down up (Gives_away k) = absurd (true≢false (sym h.leads.has_turn ∙ k.giver.turn))
        by_flow role x shared h y down up (Is_given k) = absurd (true≢false (sym h.leads.has_turn ∙ k.taker.turn))

pub all-stay : ((setup : ModelSetup) → NoAbortOfItself setup) → (setup : ModelSetup) → ContextsStay setup
all-stay n =
    by-mode ContextsStay
    (λ base b. absurd b)
    (λ base. contexts-stay (direct base) (n (direct base)) (λ world role h. absurd (let e = h.0.by_transfers in cc)))
    (λ base. contexts-stay (reliable base) (n (reliable base)) (reliable-facts base))
