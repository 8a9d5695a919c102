-- Transfers arrive whole, and what is handed up was handed in at the other end.
use Rattle.std.proofs.Common.{◌≡◌, ℕ, zero, suc, Bool, true, false, if◌then◌else◌, List, [], ◌∷◌, ◌++◌, refl, sym, ap, ◌∙◌, true≢false, subst, subst₂, inl, inr, ◌⊎◌}
use Rattle.std.specs.Prelude.{Option, Some, None}
use Rattle.agreement.specs.Sets.{Role, other, Pair, ContextSet, lookup, Item}
use Rattle.agreement.specs.Sets.Role.{Initiator, Responder}
use Rattle.agreement.specs.Messages.{Apdu, Value, Mode, ModelSetup, Message, Act, Choice}
use Rattle.agreement.specs.Messages.Mode.{Bare, Direct, Reliable}
use Rattle.agreement.specs.Messages.Act.{Connects, Recovers, SaysValue, Queues, Drops, Alters, Marks, GivesTurn, Pleads, Restarts, Starts, Encodes, Sends, EndsActivity, Interrupts, Discards, Resumes, Releases, Aborts, Withdraws, TransportFails}
use Rattle.agreement.specs.Messages.Choice.{Nothing, Accepting, Refusing, Results}
use Rattle.agreement.specs.Messages.Message.{Connect, Recover, Accept, Refuse, Data, Alter, AlterAnswer, Mark, MarkAnswer, Restart, RestartAnswer, Start, Resume, Chunk, End, EndAnswer, Interrupt, InterruptAnswer, Discard, DiscardAnswer, Give, GiveAnswer, Please, Release, ReleaseAnswer, UserAbort}
use Rattle.agreement.specs.State.{Phase, Awaited, Progress, Handed, Transfer, Outgoing, State, new_end}
use Rattle.agreement.specs.State.Phase.{Idle, Opening, Up, Broken, Recovering}
use Rattle.agreement.specs.State.Awaited.{NoAnswer, RestartOf, InterruptOf, DiscardOf, ReleaseOf}
use Rattle.agreement.specs.State.Progress.{Running, Ending, Suspended}
use Rattle.agreement.specs.Acts.{MayAct, acted, marked_in, gave_in, resumed_value, IsUnencoded, value_on, started}
use Rattle.agreement.specs.Takings.{MayTake, taken, hears, handed_up, value_read, marked_from, broken}
use Rattle.agreement.specs.Worlds.{Step, World, Sending, Shared, state_of, shared_at, flight_to, IsStep, IsRun, after}
use Rattle.agreement.specs.Worlds.Step.{Acts, Takes, Passes}
use Rattle.agreement.specs.Worlds.Moment.{By, Break}
use Rattle.agreement.specs.Laws.{Encoding, encoded_by, encodings, IsNewest, ArriveWhole}
use Rattle.agreement.proofs.Down.{Follower, down-quiet}
use Rattle.agreement.proofs.Flow.{Leader, Purges, Rest, RestBy, RestIn, SpellsIn, value_in, IsOpen, has_final, ups-no_final}
use Rattle.agreement.proofs.Flow.Doing.{Resting}
use Rattle.agreement.proofs.Leads.{shared-held}
use Rattle.agreement.proofs.Runs.{at-role, reached}
use Rattle.agreement.proofs.Standing.{reliable, leader_of, follower_of, messages, FlowOf, Flowing, Standing, state_with}
use Rattle.agreement.proofs.Standing.Flowing.{Leads, Follows, Gives_away, Is_given}
use Rattle.agreement.proofs.StandingActs.{is-seen, seen-outgoing}
use Rattle.agreement.proofs.StandingSteps.{spells-value, stands-swap}
use Rattle.agreement.proofs.ReliableWorlds.{ReliableRelation, reliable-takes, reliable-keeps}
use Rattle.agreement.proofs.ReliableWorlds.Stage.{Fresh, Asked, Dropped, Refused, Lost, Dead, Stands, Apart, Recalling, Hanging, Denied, LeftB, LeftA, Deaf}

phase-of : (x z : State) (p : Phase) → x ≡ z → z.phase ≡ p → x.phase ≡ p
phase-of x z p e h = ap (λ (q : State). q.phase) e ∙ h

-- an end of reliable mode that is up stands on a connection
pub up-stands : (base : ModelSetup) (role : Role) (x y : State) (f g : List Sending) (shared : Shared) → ReliableRelation base role x y f g shared → x.phase ≡ Up → Standing (reliable base) role x y f g shared
up-stands base Initiator x y f g shared (Stands j) u = j
up-stands base Initiator x y f g shared (Fresh p q n d) u = absurd (let e = phase-of x (new_end (reliable base) Initiator) Idle p refl in cc)
up-stands base Initiator x y f g shared (Asked s p q n d w) u = absurd (let e = phase-of x (record (new_end (reliable base) Initiator) { phase = Opening }) Opening p refl in cc)
up-stands base Initiator x y f g shared (Dropped s behind p q n d w l) u = absurd (let e = p.0 in cc)
up-stands base Initiator x y f g shared (Refused s p w q n i) u = absurd (cc)
up-stands base Initiator x y f g shared (Lost p q v n) u = absurd (cc)
up-stands base Initiator x y f g shared (Dead p q) u = absurd (cc)
up-stands base Initiator x y f g shared (Apart p q w v r n d) u = absurd (cc)
up-stands base Initiator x y f g shared (Recalling s p q w v r n d i) u = absurd (cc)
up-stands base Initiator x y f g shared (Hanging s behind was p q v r n d i l) u = absurd (let e = p.0 in cc)
up-stands base Initiator x y f g shared (Denied s p q w v r n i d) u = absurd (cc)
up-stands base Initiator x y f g shared (LeftB p q v l) u = absurd (cc)
up-stands base Initiator x y f g shared (LeftA p w q n) u = absurd (go p)
  where
    go : (x.phase ≡ Broken) ⊎ (x.phase ≡ Recovering) → ⊥
    go (inl k) = cc
    go (inr k) = cc
up-stands base Initiator x y f g shared (Deaf p w q n) u = absurd (go p)
  where
    go : (x.phase ≡ Idle) ⊎ (x.phase ≡ Opening) → ⊥
    go (inl k) = cc
    go (inr k) = cc
up-stands base Responder x y f g shared (Stands j) u = stands-swap (reliable base) Initiator y x g f shared j
up-stands base Responder x y f g shared (Fresh p q n d) u = absurd (let e = phase-of x (new_end (reliable base) Responder) Idle q refl in cc)
up-stands base Responder x y f g shared (Asked s p q n d w) u = absurd (let e = phase-of x (new_end (reliable base) Responder) Idle q refl in cc)
up-stands base Responder x y f g shared (Dropped s behind p q n d w l) u = absurd (let e = phase-of x (new_end (reliable base) Responder) Idle q refl in cc)
up-stands base Responder x y f g shared (Refused s p w q n i) u = absurd (cc)
up-stands base Responder x y f g shared (Lost p q v n) u = absurd (cc)
up-stands base Responder x y f g shared (Dead p q) u = absurd (cc)
up-stands base Responder x y f g shared (Apart p q w v r n d) u = absurd (cc)
up-stands base Responder x y f g shared (Recalling s p q w v r n d i) u = absurd (cc)
up-stands base Responder x y f g shared (Hanging s behind was p q v r n d i l) u = absurd (cc)
up-stands base Responder x y f g shared (Denied s p q w v r n i d) u = absurd (cc)
up-stands base Responder x y f g shared (LeftB p q v l) u = absurd (cc)
up-stands base Responder x y f g shared (LeftA p w q n) u = absurd (cc)
up-stands base Responder x y f g shared (Deaf p w q n) u = absurd (cc)

-- at its encoding an item's context has the pair that the shared set gives it
encodes-shared : (base : ModelSetup) (role : Role) (x y : State) (f g : List Sending) (shared : Shared) (context : ℕ) → ReliableRelation base role x y f g shared → MayAct (reliable base) role x (Encodes context) → shared.set ≡ x.sets.held
encodes-shared base role x y f g shared context r h =
    let j = up-stands base role x y f g shared r h.leads.is_free.is_up in
    let i = is-seen role x f g j.me j.up h.leads.is_free.is_up j.sees_me in
    by_flow (j.peer) (j.down) (j.up) (subst (λ z. Flowing (reliable base) role z j.peer j.down j.up shared) i.same j.flow)
  where
    open-due : (t : Option Transfer) → IsUnencoded t → IsOpen NoAnswer t
    open-due None d = absurd d
    open-due (Some t) d = λ e. clash (sym d.0 ∙ e)
      where
        clash : Running ≡ Ending → ⊥
        clash e = cc

    by_flow : (y : State) (down up : List Message) → Flowing (reliable base) role x y down up shared → shared.set ≡ x.sets.held
    by_flow y down up (Leads o p n) =
        subst₂ (λ w q. FlowOf (reliable base) role (state_with x w q x.outgoing.transfer) y down up shared → shared.set ≡ x.sets.held) (sym h.leads.is_free.is_calm) (sym h.leads.is_settled)
        (shared-held (reliable base) role x.outgoing.transfer x.sets.held x.sets.inter x.outgoing.started x.incoming (follower_of y) y.outgoing.started y.outgoing.transfer down up shared.set shared.inter _ _ (open-due x.outgoing.transfer h.is_due)) n
    by_flow y down up (Follows o p n) = absurd (true≢false (sym h.leads.has_turn ∙ o.turn))
    by_flow y down up (Gives_away k) = absurd (true≢false (sym h.leads.has_turn ∙ k.giver.turn))
    by_flow y down up (Is_given k) = absurd (true≢false (sym h.leads.has_turn ∙ k.taker.turn))

-- an end that is answered was the leader's
purges-no_end : (d : Bool) (inter : ContextSet) (us : List Message) (n : ℕ) (there : ContextSet) → Purges d inter (us ++ (EndAnswer n ∷ [])) there → ⊥
purges-no_end d inter [] n there h = h
purges-no_end d inter (InterruptAnswer ∷ us) n there h = true≢false (sym (final-end us n) ∙ ups-no_final 0 0 [] inter inter (us ++ (EndAnswer n ∷ [])) there Resting (λ x. x) h.1)
  where
    final-end : (xs : List Message) (n : ℕ) → has_final (xs ++ (EndAnswer n ∷ [])) ≡ true
    final-end [] n = refl
    final-end (EndAnswer k ∷ xs) n = refl
    final-end (InterruptAnswer ∷ xs) n = refl
    final-end (DiscardAnswer ∷ xs) n = refl
    final-end (m ∷ xs) n = final-end xs n
purges-no_end d inter (DiscardAnswer ∷ us) n there h = true≢false (sym (final-end us n) ∙ ups-no_final 0 0 [] inter inter (us ++ (EndAnswer n ∷ [])) there Resting (λ x. x) h.1)
  where
    final-end : (xs : List Message) (n : ℕ) → has_final (xs ++ (EndAnswer n ∷ [])) ≡ true
    final-end [] n = refl
    final-end (EndAnswer k ∷ xs) n = refl
    final-end (InterruptAnswer ∷ xs) n = refl
    final-end (DiscardAnswer ∷ xs) n = refl
    final-end (m ∷ xs) n = final-end xs n
purges-no_end d inter (AlterAnswer r ∷ us) n there h = purges-no_end d inter us n there h
purges-no_end d inter (MarkAnswer m ∷ us) n there h = purges-no_end d inter us n there h
purges-no_end d inter (Please p ∷ us) n there h = purges-no_end d inter us n there h
purges-no_end d inter (UserAbort ∷ us) n there h = purges-no_end d inter us n there h
purges-no_end d inter (m ∷ us) n there h = h

final-of_end : (xs : List Message) (n : ℕ) → has_final (xs ++ (EndAnswer n ∷ [])) ≡ true
final-of_end [] n = refl
final-of_end (EndAnswer k ∷ xs) n = refl
final-of_end (InterruptAnswer ∷ xs) n = refl
final-of_end (DiscardAnswer ∷ xs) n = refl
final-of_end (m ∷ xs) n = final-of_end xs n

rest-last : (w : Awaited) (t : Option Transfer) (l : Leader) (us : List Message) (n : ℕ) (z : Follower) → RestBy w t l (us ++ (EndAnswer n ∷ [])) z → z.incoming.last ≡ l.started
rest-last NoAnswer None l us n z h = h.2
rest-last NoAnswer (Some t) l us n z h = go t.progress h
  where
    go : (p : Progress) → RestIn p t l (us ++ (EndAnswer n ∷ [])) z → z.incoming.last ≡ l.started
    go Suspended h = absurd (true≢false (sym (final-of_end us n) ∙ ups-no_final 0 0 l.sets.own l.sets.held l.sets.inter (us ++ (EndAnswer n ∷ [])) z.held Resting (λ x. x) h.0))
    go Running h = h.2
    go Ending h = h.2
rest-last InterruptOf (Some t) l us n z h = h.2
rest-last DiscardOf (Some t) l us n z h = h.2
rest-last InterruptOf None l us n z h = absurd h
rest-last DiscardOf None l us n z h = absurd h
rest-last (RestartOf k) t l us n z h = absurd h
rest-last ReleaseOf t l us n z h = absurd h

-- what ends on its way to an end is the other end's current transfer, spelled whole
pub record Source (base : ModelSetup) (x y : State) : Type 0 where
  pub spelled : SpellsIn (value_in y.outgoing.transfer) (reliable base) x.sets.held x.incoming
  pub current : x.incoming.last ≡ y.outgoing.started

end-source : (base : ModelSetup) (role : Role) (x y : State) (s : Sending) (f g : List Sending) (shared : Shared) (number : ℕ) → ReliableRelation base role x y (s ∷ f) g shared → s.message ≡ End number → MayTake (reliable base) role x (End number) → Source base x y
end-source base role x y s f g shared number r e h =
    let j = up-stands base role x y (s ∷ f) g shared r h.is_up in
    let i = is-seen role x (s ∷ f) g j.me j.up h.is_up j.sees_me in
    let out = seen-outgoing (other role) y g (s ∷ f) j.peer j.down j.sees_peer in
    let comes : j.up ≡ End number ∷ messages f = i.comes ∙ ap (λ m. m ∷ messages f) e in
    subst (λ (o : Outgoing). record { spelled : SpellsIn (value_in o.transfer) (reliable base) x.sets.held x.incoming; current : x.incoming.last ≡ o.started } → Source base x y) (sym out)
    (λ k. record { spelled = k.spelled; current = k.current })
    (by_flow j.peer j.down (subst₂ (λ z us. Flowing (reliable base) role z j.peer j.down us shared) i.same comes j.flow))
  where
    by_flow : (y : State) (down : List Message) → Flowing (reliable base) role x y down (End number ∷ messages f) shared → record { spelled : SpellsIn (value_in y.outgoing.transfer) (reliable base) x.sets.held x.incoming; current : x.incoming.last ≡ y.outgoing.started }
    by_flow y down (Leads o p n) = absurd (true≢false (sym o.turn ∙ h.lacks_turn))
    by_flow y down (Follows o p n) =
        record {
          spelled = n.runs.3;
          current =
              rest-last y.awaits y.outgoing.transfer (leader_of y) down number (record (follower_of x) { incoming = record x.incoming { was_handed = true; active = false }; held = x.sets.inter })
              (down-quiet (reliable base) (other role) (Rest (leader_of y)) (messages f) (record (follower_of x) { incoming = record x.incoming { was_handed = true; active = false }; held = x.sets.inter }) (down ++ (EndAnswer number ∷ [])) n.runs.2 n.runs.4).0;
        }
    by_flow y down (Gives_away k) = absurd k.quiet_up.0
    by_flow y down (Is_given k) = absurd (true≢false (sym h.is_active ∙ k.inactive_taker))

-- the current transfer's value is the newest that was encoded
abbrev pub EncodedIn : Option Value → Apdu → ℕ → List Encoding → Type 0
EncodedIn None a c es = Unit {0}
EncodedIn (Some v) a c es = IsNewest (record { activity = c; apdu = v.apdu; identifier = v.identifier; pair = Some v.pair }) es × (v.apdu ≡ a)

abbrev pub Encoded : Option Transfer → ℕ → List Encoding → Type 0
Encoded None c es = Unit {0}
Encoded (Some t) c es = EncodedIn t.value t.item.apdu c es

-- a state whose transfer is this
abbrev with_transfer : State → Option Transfer → State
with_transfer x t = record x { outgoing = record x.outgoing { transfer = t } }

resumed-encoded : (value : Option Value) (a : Apdu) (n : ℕ) (c : ℕ) (es : List Encoding) → EncodedIn value a c es → EncodedIn (resumed_value n value) a c es
resumed-encoded value a zero c es h = tt
resumed-encoded value a (suc n) c es h = h

acts-encoded : (setup : ModelSetup) (x : State) (shared : ContextSet) (t : Option Transfer) (act : Act) (es : List Encoding) → ((context : ℕ) → act ≡ Encodes context → shared ≡ x.sets.held) → Encoded t x.outgoing.started es → Encoded (acted setup (with_transfer x t) act).outgoing.transfer (acted setup (with_transfer x t) act).outgoing.started (encoded_by (with_transfer x t) shared (Acts act) ++ es)
acts-encoded setup x shared t Connects es k h = h
acts-encoded setup x shared t Recovers es k h = h
acts-encoded setup x shared t (SaysValue value) es k h = h
acts-encoded setup x shared t (Queues context apdu) es k h = h
acts-encoded setup x shared t Drops es k h = h
acts-encoded setup x shared t (Alters items) es k h = h
acts-encoded setup x shared t Marks es k h = go setup.mode t h
  where
    go : (m : Mode) (t : Option Transfer) → Encoded t x.outgoing.started es → Encoded (marked_in m (with_transfer x t)).outgoing.transfer (marked_in m (with_transfer x t)).outgoing.started es
    go Bare t h = h
    go Direct t h = h
    go Reliable None h = h
    go Reliable (Some t) h = h
acts-encoded setup x shared t GivesTurn es k h = go setup.mode
  where
    go : (m : Mode) → Encoded (gave_in m (with_transfer x t)).outgoing.transfer (gave_in m (with_transfer x t)).outgoing.started es
    go Bare = h
    go Direct = h
    go Reliable = h
acts-encoded setup x shared t (Pleads priority) es k h = h
acts-encoded setup x shared t (Restarts number) es k h = h
acts-encoded setup x shared t Starts es k h = go x.outgoing.queue
  where
    go : (queue : List Handed) → Encoded (started (record { started = x.outgoing.started; transfer = t; queue = queue })).transfer (suc x.outgoing.started) es
    go [] = tt
    go (item ∷ queue) = tt
acts-encoded setup x shared None (Encodes context) es k h = tt
acts-encoded setup x shared (Some t) (Encodes context) es k h = go (lookup x.sets.held context) refl
  where
    go : (found : Option Pair) → lookup x.sets.held context ≡ found → EncodedIn (value_on context t.item found) t.item.apdu x.outgoing.started (record { activity = x.outgoing.started; apdu = t.item.apdu; identifier = context; pair = lookup shared context } ∷ es)
    go None e = tt
    go (Some pair) e =
        ((λ i. record { activity = x.outgoing.started; apdu = t.item.apdu; identifier = context; pair = (ap (λ s. lookup s context) (k context refl) ∙ e) i }), refl)
acts-encoded setup x shared None (Sends octets) es k h = tt
acts-encoded setup x shared (Some t) (Sends octets) es k h = h
acts-encoded setup x shared None EndsActivity es k h = tt
acts-encoded setup x shared (Some t) EndsActivity es k h = h
acts-encoded setup x shared t Interrupts es k h = h
acts-encoded setup x shared None Discards es k h = tt
acts-encoded setup x shared (Some t) Discards es k h = h
acts-encoded setup x shared None Resumes es k h = tt
acts-encoded setup x shared (Some t) Resumes es k h = resumed-encoded t.value t.item.apdu t.confirmed x.outgoing.started es h
acts-encoded setup x shared t Releases es k h = h
acts-encoded setup x shared t Aborts es k h = h
acts-encoded setup x shared t Withdraws es k h = h
acts-encoded setup x shared t TransportFails es k h = h

hears-encoded : (setup : ModelSetup) (v : Option Value) (x : State) (es : List Encoding) → Encoded x.outgoing.transfer x.outgoing.started es → Encoded (hears setup v x).outgoing.transfer (hears setup v x).outgoing.started es
hears-encoded setup None x es h = h
hears-encoded setup (Some v) x es h = h

opens-encoded : (setup : ModelSetup) (role : Role) (x : State) (choice : Choice) (es : List Encoding) → Encoded x.outgoing.transfer x.outgoing.started es → Encoded (taken setup role x Connect choice).outgoing.transfer (taken setup role x Connect choice).outgoing.started es
opens-encoded setup role x (Accepting set) es h = tt
opens-encoded setup role x Refusing es h = h
opens-encoded setup role x Nothing es h = h
opens-encoded setup role x (Results results) es h = h

recovers-encoded : (setup : ModelSetup) (role : Role) (x : State) (choice : Choice) (es : List Encoding) → Encoded x.outgoing.transfer x.outgoing.started es → Encoded (taken setup role x Recover choice).outgoing.transfer (taken setup role x Recover choice).outgoing.started es
recovers-encoded setup role x (Accepting set) es h = h
recovers-encoded setup role x Refusing es h = h
recovers-encoded setup role x Nothing es h = h
recovers-encoded setup role x (Results results) es h = h

alters-encoded : (setup : ModelSetup) (role : Role) (x : State) (items : List Item) (choice : Choice) (es : List Encoding) → Encoded x.outgoing.transfer x.outgoing.started es → Encoded (taken setup role x (Alter items) choice).outgoing.transfer (taken setup role x (Alter items) choice).outgoing.started es
alters-encoded setup role x items (Results results) es h = h
alters-encoded setup role x items (Accepting set) es h = h
alters-encoded setup role x items Refusing es h = h
alters-encoded setup role x items Nothing es h = h

takes-encoded : (setup : ModelSetup) (role : Role) (x : State) (t : Option Transfer) (m : Message) (choice : Choice) (es : List Encoding) → Encoded t x.outgoing.started es → Encoded (taken setup role (with_transfer x t) m choice).outgoing.transfer (taken setup role (with_transfer x t) m choice).outgoing.started es
takes-encoded setup role x t Connect choice es h = opens-encoded setup role (with_transfer x t) choice es h
takes-encoded setup role x t Recover choice es h = recovers-encoded setup role (with_transfer x t) choice es h
takes-encoded setup role x t (Accept set) choice es h = h
takes-encoded setup role x t Refuse choice es h = h
takes-encoded setup role x t (Data value) choice es h = hears-encoded setup (Some value) (with_transfer x t) es h
takes-encoded setup role x t (Alter items) choice es h = alters-encoded setup role (with_transfer x t) items choice es h
takes-encoded setup role x t (AlterAnswer results) choice es h = h
takes-encoded setup role x t (Mark number) choice es h = go setup.mode
  where
    go : (m : Mode) → Encoded (marked_from m number (with_transfer x t)).outgoing.transfer (marked_from m number (with_transfer x t)).outgoing.started es
    go Bare = h
    go Direct = h
    go Reliable = h
takes-encoded setup role x None (MarkAnswer number) choice es h = h
takes-encoded setup role x (Some t) (MarkAnswer number) choice es h = h
takes-encoded setup role x t (Restart number list) choice es h = h
takes-encoded setup role x t (RestartAnswer number list) choice es h = h
takes-encoded setup role x t (Start activity) choice es h = h
takes-encoded setup role x t (Resume activity mark) choice es h = h
takes-encoded setup role x t (Chunk octets) choice es h = h
takes-encoded setup role x t (End number) choice es h =
    hears-encoded setup (handed_up setup x.sets.held x.incoming) (record (with_transfer x t) { incoming = record x.incoming { was_handed = true; active = false } }) es h
takes-encoded setup role x t (EndAnswer number) choice es h = tt
takes-encoded setup role x t Interrupt choice es h = h
takes-encoded setup role x None InterruptAnswer choice es h = h
takes-encoded setup role x (Some t) InterruptAnswer choice es h = h
takes-encoded setup role x t Discard choice es h = h
takes-encoded setup role x t DiscardAnswer choice es h = tt
takes-encoded setup role x t Give choice es h = h
takes-encoded setup role x t GiveAnswer choice es h = h
takes-encoded setup role x t (Please priority) choice es h = h
takes-encoded setup role x t Release choice es h = h
takes-encoded setup role x t ReleaseAnswer choice es h = h
takes-encoded setup role x t UserAbort choice es h = h

broken-encoded : (setup : ModelSetup) (x : State) (t : Option Transfer) (es : List Encoding) → Encoded t x.outgoing.started es → Encoded (broken setup (with_transfer x t)).outgoing.transfer x.outgoing.started es
broken-encoded setup x None es h = tt
broken-encoded setup x (Some t) es h = h

step-encoded : (base : ModelSetup) (role : Role) (world : World) (step : Step) → IsRun (reliable base) (By role step ∷ world) → Encoded (state_of (reliable base) role world).outgoing.transfer (state_of (reliable base) role world).outgoing.started (encodings (reliable base) role world) → Encoded (after (reliable base) role (state_of (reliable base) role world) step).outgoing.transfer (after (reliable base) role (state_of (reliable base) role world) step).outgoing.started (encoded_by (state_of (reliable base) role world) (shared_at (reliable base) world).set step ++ encodings (reliable base) role world)
step-encoded base role world (Acts act) h e =
    acts-encoded (reliable base) (state_of (reliable base) role world) (shared_at (reliable base) world).set (state_of (reliable base) role world).outgoing.transfer act (encodings (reliable base) role world)
    (λ context k.
    encodes-shared base role (state_of (reliable base) role world) (state_of (reliable base) (other role) world) (flight_to (reliable base) role world) (flight_to (reliable base) (other role) world) (shared_at (reliable base) world) context
    (at-role (reliable base) (ReliableRelation base) (reliable-keeps base) role world (reached (reliable base) (ReliableRelation base) (reliable-keeps base) world h.1))
    (subst (λ a. MayAct (reliable base) role (state_of (reliable base) role world) a) k h.0)) e
step-encoded base role world (Takes m choice) h e = takes-encoded (reliable base) role (state_of (reliable base) role world) (state_of (reliable base) role world).outgoing.transfer m choice (encodings (reliable base) role world) e
step-encoded base role world (Passes m) h e = e

pub encoded-kept : (base : ModelSetup) (world : World) → IsRun (reliable base) world → (role : Role) → Encoded (state_of (reliable base) role world).outgoing.transfer (state_of (reliable base) role world).outgoing.started (encodings (reliable base) role world)
encoded-kept base [] h role = tt
encoded-kept base (Break ∷ world) h role = broken-encoded (reliable base) (state_of (reliable base) role world) (state_of (reliable base) role world).outgoing.transfer (encodings (reliable base) role world) (encoded-kept base world h.1 role)
encoded-kept base (By Initiator step ∷ world) h Initiator = step-encoded base Initiator world step h (encoded-kept base world h.1 Initiator)
encoded-kept base (By Responder step ∷ world) h Responder = step-encoded base Responder world step h (encoded-kept base world h.1 Responder)
encoded-kept base (By Initiator step ∷ world) h Responder = encoded-kept base world h.1 Responder
encoded-kept base (By Responder step ∷ world) h Initiator = encoded-kept base world h.1 Initiator

-- the source of a transfer that ends, in a world
pub source-at : (base : ModelSetup) (world : World) (role : Role) (number : ℕ) (choice : Choice) → IsRun (reliable base) (By role (Takes (End number) choice) ∷ world) → Source base (state_of (reliable base) role world) (state_of (reliable base) (other role) world)
source-at base world role number choice h =
    go (flight_to (reliable base) role world) h.0
    (at-role (reliable base) (ReliableRelation base) (reliable-keeps base) role world (reached (reliable base) (ReliableRelation base) (reliable-keeps base) world h.1))
  where
    go : (flight : List Sending) → IsStep (reliable base) role (state_of (reliable base) role world) flight (Takes (End number) choice) → ReliableRelation base role (state_of (reliable base) role world) (state_of (reliable base) (other role) world) flight (flight_to (reliable base) (other role) world) (shared_at (reliable base) world) → Source base (state_of (reliable base) role world) (state_of (reliable base) (other role) world)
    go [] k r = absurd k.comes
    go (s ∷ flight) k r =
        end-source base role (state_of (reliable base) role world) (state_of (reliable base) (other role) world) s flight (flight_to (reliable base) (other role) world) (shared_at (reliable base) world) number r k.comes
        ((reliable-takes base role (state_of (reliable base) role world) (state_of (reliable base) (other role) world) s flight (flight_to (reliable base) (other role) world) (shared_at (reliable base) world) (End number) choice r k.comes k.is_alive k.is_kept k.is_choice).may tt)

-- what is handed up is what was spelled
pub handed-spelled : (base : ModelSetup) (x : State) (w value : Value) → SpellsIn (Some w) (reliable base) x.sets.held x.incoming → handed_up (reliable base) x.sets.held x.incoming ≡ Some value → w ≡ value
handed-spelled base x w value s e = go x.incoming.was_handed e
  where
    go : (b : Bool) → (if b then None else value_read (reliable base) x.sets.held x.incoming) ≡ Some value → w ≡ value
    go true e = absurd (cc)
    go false e = let r = spells-value base w x.sets.held x.incoming s in cc

whole-of : (base : ModelSetup) (x y : State) (es : List Encoding) (value : Value) (t : Option Transfer) → SpellsIn (value_in t) (reliable base) x.sets.held x.incoming → Encoded t y.outgoing.started es → x.incoming.last ≡ y.outgoing.started → handed_up (reliable base) x.sets.held x.incoming ≡ Some value → IsNewest (record { activity = x.incoming.last; apdu = value.apdu; identifier = value.identifier; pair = Some value.pair }) es
whole-of base x y es value None s e l h = absurd s
whole-of base x y es value (Some t) s e l h = go t.value s e
  where
    go : (v : Option Value) → SpellsIn v (reliable base) x.sets.held x.incoming → EncodedIn v t.item.apdu y.outgoing.started es → IsNewest (record { activity = x.incoming.last; apdu = value.apdu; identifier = value.identifier; pair = Some value.pair }) es
    go None s e = absurd s
    go (Some w) s e =
        subst₂ (λ c (v : Value). IsNewest (record { activity = c; apdu = v.apdu; identifier = v.identifier; pair = Some v.pair }) es) (sym l) (handed-spelled base x w value s h) e.0

pub reliable-whole : (base : ModelSetup) → ArriveWhole (reliable base)
reliable-whole base world role number choice value h e =
    let s = source-at base world role number choice h in
    whole-of base (state_of (reliable base) role world) (state_of (reliable base) (other role) world) (encodings (reliable base) (other role) world) value (state_of (reliable base) (other role) world).outgoing.transfer
    s.spelled (encoded-kept base world h.1 (other role)) s.current e
