-- Worlds of reliable mode: openings, connections, breaks and recoveries.
use Rattle.std.proofs.Common.{◌≡◌, true, false, List, [], ◌∷◌, ◌++◌, refl, sym, ap, ◌∙◌, true≢false, subst, subst₂, inl, inr, ◌⊎◌}
use Rattle.std.specs.Prelude.{Option, Some, None}
use Rattle.agreement.specs.Sets.{Role, other, ContextSet, Saved}
use Rattle.agreement.specs.Sets.Role.{Initiator, Responder}
use Rattle.agreement.specs.Messages.{ModelSetup, Message, Act, Choice}
use Rattle.agreement.specs.Messages.Mode.{Reliable}
use Rattle.agreement.specs.Messages.Act.{Connects, Recovers, Aborts, Withdraws, TransportFails}
use Rattle.agreement.specs.Messages.Choice.{Nothing, Accepting, Refusing, Results}
use Rattle.agreement.specs.Messages.Message.{Connect, Recover, Accept, Refuse, Please, UserAbort}
use Rattle.agreement.specs.State.{Phase, Transfer, Outgoing, Incoming, State, joined_with, new_end}
use Rattle.agreement.specs.State.Phase.{Idle, Opening, Up, Broken, Recovering, Over}
use Rattle.agreement.specs.State.Awaited.{NoAnswer}
use Rattle.agreement.specs.State.Progress.{Suspended}
use Rattle.agreement.specs.Acts.{MayAct, MayAbortIn, MayWithdrawIn, RestsOrNone, acted, sent_by, on_transfer}
use Rattle.agreement.specs.Takings.{is_purged, MayTake, IsChoice, IsUnjoined, IsBack, answer_to, taken, broken, broken_phase, refusing}
use Rattle.agreement.specs.Worlds.{Sending, Shared, sendings, shared_all, shared_answered, saved_of, pair_under}
use Rattle.agreement.proofs.Carried.{WasSent}
use Rattle.agreement.proofs.Views.{IsLive, AllAre, IsAbort, nil-append}
use Rattle.agreement.proofs.Down.{IsQuiet, AllQuiet, quiet-down}
use Rattle.agreement.proofs.Flow.{PairedIn, SavedIn, Rest, alters_in, quiet-flat, flat-begins, flat-waits}
use Rattle.agreement.proofs.DirectWorlds.{Acting, acting, over-still, idle-withdraws}
use Rattle.agreement.proofs.DirectWorlds.Acting.{ByConnecting, ByRecovering, ByAborting, ByWithdrawing, ByFailing, WhileUp}
use Rattle.agreement.proofs.Standing.{reliable, leader_of, follower_of, messages, FlowOf, Flowing, Sees, Standing}
use Rattle.agreement.proofs.Standing.Flowing.{Leads, Follows, Gives_away, Is_given}
use Rattle.agreement.proofs.Standing.Sees.{Same, Joins, Leaves, Gone}
use Rattle.agreement.proofs.StandingActs.{stands-acts, up-me}
use Rattle.agreement.proofs.StandingSteps.{stands-takes, stands-passes, stands-swap, at-rest_now, rests-value}
use Rattle.agreement.proofs.Runs.{Keeps, Relation}

-- the records of two ends that outlive a connection
pub record Records (setup : ModelSetup) (role : Role) (x y : State) (shared : Shared) : Type 0 where
  pub rests_me : RestsOrNone x.outgoing.transfer
  pub rests_peer : RestsOrNone y.outgoing.transfer
  pub pairs : PairedIn x.outgoing.transfer x.outgoing.started y.incoming
  pub others : PairedIn y.outgoing.transfer y.outgoing.started x.incoming
  pub saved_me : SavedIn setup x.outgoing.transfer (saved_of role shared)
  pub saved_peer : SavedIn setup y.outgoing.transfer (saved_of (other role) shared)
  pub inactive_me : x.incoming.active ≡ false
  pub inactive_peer : y.incoming.active ≡ false

-- the initiator a, the responder b, what comes to a, what comes to b
pub data Stage (setup : ModelSetup) (a b : State) (f g : List Sending) (shared : Shared) : Type 0 where
  Fresh : a ≡ new_end setup Initiator → b ≡ new_end setup Responder → f ≡ [] → g ≡ [] → Stage setup a b f g shared
  Asked : (s : Sending) → a ≡ record (new_end setup Initiator) { phase = Opening } → b ≡ new_end setup Responder → f ≡ [] → g ≡ s ∷ [] → s.message ≡ Connect → Stage setup a b f g shared
  Dropped : (s : Sending) → (behind : List Sending) → (a.phase ≡ Over) × (a.outgoing ≡ (new_end setup Initiator).outgoing) → b ≡ new_end setup Responder → f ≡ [] → g ≡ s ∷ behind → s.message ≡ Connect → AllAre IsAbort behind → Stage setup a b f g shared
  Refused : (s : Sending) → a.phase ≡ Opening → a.awaits ≡ NoAnswer → b.phase ≡ Over → f ≡ s ∷ [] → s.message ≡ Refuse → Stage setup a b f g shared
  Lost : a.phase ≡ Over → b.phase ≡ Idle → b.awaits ≡ NoAnswer → g ≡ [] → Stage setup a b f g shared
  Dead : a.phase ≡ Over → b.phase ≡ Over → Stage setup a b f g shared
  Stands : Standing setup Initiator a b f g shared → Stage setup a b f g shared
  Apart : a.phase ≡ Broken → b.phase ≡ Broken → a.awaits ≡ NoAnswer → b.awaits ≡ NoAnswer → Records setup Initiator a b shared → f ≡ [] → g ≡ [] → Stage setup a b f g shared
  Recalling : (s : Sending) → a.phase ≡ Recovering → b.phase ≡ Broken → a.awaits ≡ NoAnswer → b.awaits ≡ NoAnswer → Records setup Initiator a b shared → f ≡ [] → g ≡ s ∷ [] → s.message ≡ Recover → Stage setup a b f g shared
  Hanging : (s : Sending) → (behind : List Sending) → (was : State) → (a.phase ≡ Over) × (was.outgoing ≡ a.outgoing) → b.phase ≡ Broken → b.awaits ≡ NoAnswer → Records setup Initiator was b shared → f ≡ [] → g ≡ s ∷ behind → s.message ≡ Recover → AllAre IsAbort behind → Stage setup a b f g shared
  Denied : (s : Sending) → a.phase ≡ Recovering → b.phase ≡ Broken → a.awaits ≡ NoAnswer → b.awaits ≡ NoAnswer → Records setup Initiator a b shared → f ≡ s ∷ [] → s.message ≡ Refuse → g ≡ [] → Stage setup a b f g shared
  LeftB : a.phase ≡ Over → b.phase ≡ Broken → b.awaits ≡ NoAnswer → AllAre IsAbort g → Stage setup a b f g shared
  LeftA : (a.phase ≡ Broken) ⊎ (a.phase ≡ Recovering) → a.awaits ≡ NoAnswer → b.phase ≡ Over → f ≡ [] → Stage setup a b f g shared
  Deaf : (a.phase ≡ Idle) ⊎ (a.phase ≡ Opening) → a.awaits ≡ NoAnswer → b.phase ≡ Over → f ≡ [] → Stage setup a b f g shared

abbrev pub ReliableRelation : ModelSetup → Relation
ReliableRelation base Initiator x y f g shared = Stage (reliable base) x y f g shared
ReliableRelation base Responder x y f g shared = Stage (reliable base) y x g f shared

abbrev After : (base : ModelSetup) (role : Role) (x y : State) (f g : List Sending) (shared : Shared) (act : Act) → Type 0
After base role x y f g shared act = ReliableRelation base role (acted (reliable base) x act) y f (g ++ sendings shared.set (sent_by (reliable base) x act)) (shared_all Reliable role (sent_by (reliable base) x act) shared)

phase-of : (x z : State) (p : Phase) → x ≡ z → z.phase ≡ p → x.phase ≡ p
phase-of x z p e h = ap (λ (q : State). q.phase) e ∙ h

initiator-acts : (base : ModelSetup) (a b : State) (f g : List Sending) (shared : Shared) (act : Act) → Stage (reliable base) a b f g shared → MayAct (reliable base) Initiator a act → After base Initiator a b f g shared act
initiator-acts base a b f g shared act (Stands j) h = Stands (stands-acts base Initiator a b f g shared act h j)
initiator-acts base a b f g shared act (Fresh p q e d) h = go act (acting (reliable base) Initiator a act h)
  where
    idle : a.phase ≡ Idle
    idle = phase-of a (new_end (reliable base) Initiator) Idle p refl

    go : (act : Act) → Acting Initiator a act → After base Initiator a b f g shared act
    go Connects (ByConnecting r i) =
        Asked (record { message = Connect; shared = shared.set }) (ap (λ (x : State). record x { phase = Opening }) p) q e (ap (λ xs. xs ++ (record { message = Connect; shared = shared.set } ∷ [])) d) refl
    go Recovers (ByRecovering r i) = absurd (let z = idle in cc)
    go Aborts (ByAborting i) = absurd (subst MayAbortIn idle i)
    go Withdraws (ByWithdrawing i) =
        Lost refl (phase-of b (new_end (reliable base) Responder) Idle q refl) (ap (λ (x : State). x.awaits) q) (ap (λ xs. xs ++ []) d)
    go TransportFails (ByFailing i) =
        Lost refl (phase-of b (new_end (reliable base) Responder) Idle q refl) (ap (λ (x : State). x.awaits) q) (ap (λ xs. xs ++ []) d)
    go act (WhileUp i) = absurd (let z = idle in cc)
initiator-acts base a b f g shared act (Asked s p q e d m) h = go act (acting (reliable base) Initiator a act h)
  where
    opening : a.phase ≡ Opening
    opening = phase-of a (record (new_end (reliable base) Initiator) { phase = Opening }) Opening p refl

    go : (act : Act) → Acting Initiator a act → After base Initiator a b f g shared act
    go Connects (ByConnecting r j) = absurd (let z = opening in cc)
    go Recovers (ByRecovering r j) = absurd (let z = opening in cc)
    go Aborts (ByAborting j) =
        Dropped s (record { message = UserAbort; shared = shared.set } ∷ []) (refl, ap (λ (x : State). x.outgoing) p) q e (ap (λ xs. xs ++ (record { message = UserAbort; shared = shared.set } ∷ [])) d) m (tt, tt)
    go Withdraws (ByWithdrawing j) = absurd (subst (MayWithdrawIn Initiator) opening j)
    go TransportFails (ByFailing j) = absurd (subst (MayWithdrawIn Initiator) opening j)
    go act (WhileUp j) = absurd (let z = opening in cc)
initiator-acts base a b f g shared act (Refused s p k q e i) h = go act (acting (reliable base) Initiator a act h)
  where
    go : (act : Act) → Acting Initiator a act → After base Initiator a b f g shared act
    go Connects (ByConnecting r j) = absurd (cc)
    go Recovers (ByRecovering r j) = absurd (cc)
    go Aborts (ByAborting j) = Dead refl q
    go Withdraws (ByWithdrawing j) = absurd (subst (MayWithdrawIn Initiator) p j)
    go TransportFails (ByFailing j) = absurd (subst (MayWithdrawIn Initiator) p j)
    go act (WhileUp j) = absurd (cc)
initiator-acts base a b f g shared act (Apart p q w v r e d) h = go act (acting (reliable base) Initiator a act h)
  where
    go : (act : Act) → Acting Initiator a act → After base Initiator a b f g shared act
    go Connects (ByConnecting i j) = absurd (cc)
    go Recovers (ByRecovering i j) =
        Recalling (record { message = Recover; shared = shared.set }) refl q w v
        (record { rests_me = r.rests_me; rests_peer = r.rests_peer; pairs = r.pairs; others = r.others; saved_me = r.saved_me; saved_peer = r.saved_peer; inactive_me = r.inactive_me; inactive_peer = r.inactive_peer })
        e (ap (λ xs. xs ++ (record { message = Recover; shared = shared.set } ∷ [])) d) refl
    go Aborts (ByAborting j) = absurd (subst MayAbortIn p j)
    go Withdraws (ByWithdrawing j) = LeftB refl q v (subst (λ xs. AllAre IsAbort (xs ++ [])) (sym d) tt)
    go TransportFails (ByFailing j) = LeftB refl q v (subst (λ xs. AllAre IsAbort (xs ++ [])) (sym d) tt)
    go act (WhileUp j) = absurd (cc)
initiator-acts base a b f g shared act (Recalling s p q w v r e d m) h = go act (acting (reliable base) Initiator a act h)
  where
    go : (act : Act) → Acting Initiator a act → After base Initiator a b f g shared act
    go Connects (ByConnecting i j) = absurd (cc)
    go Recovers (ByRecovering i j) = absurd (cc)
    go Aborts (ByAborting j) =
        Hanging s (record { message = UserAbort; shared = shared.set } ∷ []) a (refl, refl) q v r e (ap (λ xs. xs ++ (record { message = UserAbort; shared = shared.set } ∷ [])) d) m (tt, tt)
    go Withdraws (ByWithdrawing j) = absurd (subst (MayWithdrawIn Initiator) p j)
    go TransportFails (ByFailing j) = absurd (subst (MayWithdrawIn Initiator) p j)
    go act (WhileUp j) = absurd (cc)
initiator-acts base a b f g shared act (Denied s p q w v r e m d) h = go act (acting (reliable base) Initiator a act h)
  where
    go : (act : Act) → Acting Initiator a act → After base Initiator a b f g shared act
    go Connects (ByConnecting i j) = absurd (cc)
    go Recovers (ByRecovering i j) = absurd (cc)
    go Aborts (ByAborting j) = LeftB refl q v (subst (λ xs. AllAre IsAbort (xs ++ (record { message = UserAbort; shared = shared.set } ∷ []))) (sym d) (tt, tt))
    go Withdraws (ByWithdrawing j) = absurd (subst (MayWithdrawIn Initiator) p j)
    go TransportFails (ByFailing j) = absurd (subst (MayWithdrawIn Initiator) p j)
    go act (WhileUp j) = absurd (cc)
initiator-acts base a b f g shared act (LeftA p w q e) h = go act (acting (reliable base) Initiator a act h)
  where
    not-phase : (k : Phase) → a.phase ≡ k → (Broken ≡ k → ⊥) → (Recovering ≡ k → ⊥) → ⊥
    not-phase k i n m = by p
      where
        by : (a.phase ≡ Broken) ⊎ (a.phase ≡ Recovering) → ⊥
        by (inl x) = n (sym x ∙ i)
        by (inr x) = m (sym x ∙ i)

    go : (act : Act) → Acting Initiator a act → After base Initiator a b f g shared act
    go Connects (ByConnecting i j) = absurd (not-phase Idle j (λ x. cc) (λ x. cc))
    go Recovers (ByRecovering i j) = LeftA (inr refl) w q e
    go Aborts (ByAborting j) = Dead refl q
    go Withdraws (ByWithdrawing j) = Dead refl q
    go TransportFails (ByFailing j) = Dead refl q
    go act (WhileUp j) = absurd (not-phase Up j (λ x. cc) (λ x. cc))
initiator-acts base a b f g shared act (Deaf (inl p) w q e) h = go act (acting (reliable base) Initiator a act h)
  where
    go : (act : Act) → Acting Initiator a act → After base Initiator a b f g shared act
    go Connects (ByConnecting r j) = Deaf (inr refl) w q e
    go Recovers (ByRecovering r j) = absurd (cc)
    go Aborts (ByAborting j) = absurd (subst MayAbortIn p j)
    go Withdraws (ByWithdrawing j) = Dead refl q
    go TransportFails (ByFailing j) = Dead refl q
    go act (WhileUp j) = absurd (cc)
initiator-acts base a b f g shared act (Deaf (inr p) w q e) h = go act (acting (reliable base) Initiator a act h)
  where
    go : (act : Act) → Acting Initiator a act → After base Initiator a b f g shared act
    go Connects (ByConnecting r j) = absurd (cc)
    go Recovers (ByRecovering r j) = absurd (cc)
    go Aborts (ByAborting j) = Dead refl q
    go Withdraws (ByWithdrawing j) = absurd (subst (MayWithdrawIn Initiator) p j)
    go TransportFails (ByFailing j) = absurd (subst (MayWithdrawIn Initiator) p j)
    go act (WhileUp j) = absurd (cc)
initiator-acts base a b f g shared act (Dropped s behind p q e d m l) h = absurd (over-still (reliable base) Initiator a act h p.0)
initiator-acts base a b f g shared act (Hanging s behind was p q v r e d m l) h = absurd (over-still (reliable base) Initiator a act h p.0)
initiator-acts base a b f g shared act (Lost p q v e) h = absurd (over-still (reliable base) Initiator a act h p)
initiator-acts base a b f g shared act (LeftB p q v e) h = absurd (over-still (reliable base) Initiator a act h p)
initiator-acts base a b f g shared act (Dead p q) h = absurd (over-still (reliable base) Initiator a act h p)

broken-still : (setup : ModelSetup) (x : State) (act : Act) → MayAct setup Responder x act → x.phase ≡ Broken → ⊥
broken-still setup x act h e = go act (acting setup Responder x act h)
  where
    go : (act : Act) → Acting Responder x act → ⊥
    go Connects (ByConnecting r j) = cc
    go Recovers (ByRecovering r j) = cc
    go Aborts (ByAborting j) = subst MayAbortIn e j
    go Withdraws (ByWithdrawing j) = let r = subst (MayWithdrawIn Responder) e j in cc
    go TransportFails (ByFailing j) = let r = subst (MayWithdrawIn Responder) e j in cc
    go act (WhileUp j) = cc

responder-acts : (base : ModelSetup) (a b : State) (f g : List Sending) (shared : Shared) (act : Act) → Stage (reliable base) a b f g shared → MayAct (reliable base) Responder b act → After base Responder b a g f shared act
responder-acts base a b f g shared act (Stands j) h =
    Stands (stands-swap (reliable base) Responder _ _ _ _ _ (stands-acts base Responder b a g f shared act h (stands-swap (reliable base) Initiator a b f g shared j)))
responder-acts base a b f g shared act (Fresh p q e d) h =
    idle-withdraws (reliable base) b act (After base Responder b a g f shared) h (phase-of b (new_end (reliable base) Responder) Idle q refl)
    (Deaf (inl (phase-of a (new_end (reliable base) Initiator) Idle p refl)) (ap (λ (x : State). x.awaits) p) refl (ap (λ xs. xs ++ []) e))
    (Deaf (inl (phase-of a (new_end (reliable base) Initiator) Idle p refl)) (ap (λ (x : State). x.awaits) p) refl (ap (λ xs. xs ++ []) e))
responder-acts base a b f g shared act (Asked s p q e d m) h =
    idle-withdraws (reliable base) b act (After base Responder b a g f shared) h (phase-of b (new_end (reliable base) Responder) Idle q refl)
    (Deaf (inr (phase-of a (record (new_end (reliable base) Initiator) { phase = Opening }) Opening p refl)) (ap (λ (x : State). x.awaits) p) refl (ap (λ xs. xs ++ []) e))
    (Deaf (inr (phase-of a (record (new_end (reliable base) Initiator) { phase = Opening }) Opening p refl)) (ap (λ (x : State). x.awaits) p) refl (ap (λ xs. xs ++ []) e))
responder-acts base a b f g shared act (Dropped s behind p q e d m l) h =
    idle-withdraws (reliable base) b act (After base Responder b a g f shared) h (phase-of b (new_end (reliable base) Responder) Idle q refl) (Dead p.0 refl) (Dead p.0 refl)
responder-acts base a b f g shared act (Refused s p k q e i) h = absurd (over-still (reliable base) Responder b act h q)
responder-acts base a b f g shared act (Lost p q v e) h =
    idle-withdraws (reliable base) b act (After base Responder b a g f shared) h q (Dead p refl) (Dead p refl)
responder-acts base a b f g shared act (Dead p q) h = absurd (over-still (reliable base) Responder b act h q)
responder-acts base a b f g shared act (Apart p q w v r e d) h = absurd (broken-still (reliable base) b act h q)
responder-acts base a b f g shared act (Recalling s p q w v r e d m) h = absurd (broken-still (reliable base) b act h q)
responder-acts base a b f g shared act (Hanging s behind was p q v r e d m l) h = absurd (broken-still (reliable base) b act h q)
responder-acts base a b f g shared act (Denied s p q w v r e m d) h = absurd (broken-still (reliable base) b act h q)
responder-acts base a b f g shared act (LeftB p q v e) h = absurd (broken-still (reliable base) b act h q)
responder-acts base a b f g shared act (LeftA p w q e) h = absurd (over-still (reliable base) Responder b act h q)
responder-acts base a b f g shared act (Deaf p w q e) h = absurd (over-still (reliable base) Responder b act h q)

-- a connection that begins: the initiator leads, and nothing but an abort is on its way to the responder
begins : (base : ModelSetup) (x y : State) (set : ContextSet) (down : List Message) (shared : Shared) → Records (reliable base) Initiator x y shared → AllQuiet down → FlowOf (reliable base) Initiator (joined_with Reliable Initiator set x) (joined_with Reliable Responder set y) down [] (record shared { set = set; inter = set })
begins base x y set down shared r q =
    let flat = quiet-flat down q in
    record {
      runs =
          quiet-down (reliable base) Initiator (Rest (leader_of (joined_with Reliable Initiator set x))) down (follower_of (joined_with Reliable Responder set y)) [] q
          (at-rest_now x.outgoing.transfer x.outgoing.started set set [] (follower_of (joined_with Reliable Responder set y)) r.rests_me tt refl r.inactive_peer r.pairs, refl, refl);
      asks = λ e. none down q;
      begins = flat-begins x.outgoing.started _ down flat;
      waits = flat-waits NoAnswer _ down flat;
      after = λ e. absurd (true≢false (sym e));
      idle = λ e. flat;
      pairs = r.pairs;
      acks = λ e. tt;
      others = r.others;
      rests = r.inactive_me;
      saved = r.saved_me;
      theirs_saved = r.saved_peer;
      value = rests-value x.outgoing.transfer (record { held = set; inter = set; own = [] }) r.rests_me;
      inters = refl;
      sets = refl;
    }
  where
    none : (xs : List Message) → AllQuiet xs → alters_in xs ≡ []
    none [] q = refl
    none (m ∷ xs) q = go m q.0 (none xs q.1)
      where
        go : (m : Message) → IsQuiet m → alters_in xs ≡ [] → alters_in (m ∷ xs) ≡ []
        go UserAbort h e = e
        go (Please p) h e = e
        go m h e = absurd h

aborts-quiet : (f : List Sending) → AllAre IsAbort f → AllQuiet (messages f)
aborts-quiet [] a = tt
aborts-quiet (s ∷ f) a = (go s.message a.0, aborts-quiet f a.1)
  where
    go : (m : Message) → IsAbort m → IsQuiet m
    go UserAbort h = tt
    go m h = absurd h

-- what a taking gives
pub record Took (base : ModelSetup) (role : Role) (x y : State) (f g : List Sending) (shared : Shared) (s : Sending) (m : Message) (choice : Choice) : Type 0 where
  pub may : WasSent (reliable base) m → MayTake (reliable base) role x m
  pub pair : pair_under x.sets.held m ≡ pair_under s.shared m
  pub next : ReliableRelation base role (taken (reliable base) role x m choice) y f (g ++ sendings shared.set (answer_to (reliable base) x m choice)) (shared_answered m choice shared)

initiator-takes : (base : ModelSetup) (a b : State) (s : Sending) (f g : List Sending) (shared : Shared) (m : Message) (choice : Choice) → Stage (reliable base) a b (s ∷ f) g shared → s.message ≡ m → (a.phase ≡ Over → ⊥) → is_purged Initiator a.awaits m ≡ false → IsChoice (reliable base) a m choice → Took base Initiator a b f g shared s m choice
initiator-takes base a b s f g shared m choice (Stands j) e alive kept c =
    let t = stands-takes base Initiator a b s f g shared m choice e alive kept c j in
    record { may = t.may; pair = t.pair; next = Stands t.next }
initiator-takes base a b s f g shared m choice (Fresh p q n d) e alive kept c = absurd (cc)
initiator-takes base a b s f g shared m choice (Asked t p q n d u) e alive kept c = absurd (cc)
initiator-takes base a b s f g shared m choice (Dropped t behind p q n d u l) e alive kept c = absurd (alive p.0)
initiator-takes base a b s f g shared m choice (Refused t p k q n i) e alive kept c =
    let first : s ≡ t = cc in
    let is : m ≡ Refuse = sym e ∙ ap (λ (u : Sending). u.message) first ∙ i in
    subst (λ u. Took base Initiator a b f g shared s u choice) (sym is)
    (record { may = λ w. record { initiates = refl; asked = subst IsBack (sym p) tt }; pair = refl; next = Dead refl q })
initiator-takes base a b s f g shared m choice (Lost p q v n) e alive kept c = absurd (alive p)
initiator-takes base a b s f g shared m choice (Dead p q) e alive kept c = absurd (alive p)
initiator-takes base a b s f g shared m choice (Apart p q w v r n d) e alive kept c = absurd (cc)
initiator-takes base a b s f g shared m choice (Recalling t p q w v r n d i) e alive kept c = absurd (cc)
initiator-takes base a b s f g shared m choice (Hanging t behind was p q v r n d i l) e alive kept c = absurd (alive p.0)
initiator-takes base a b s f g shared m choice (Denied t p q w v r n i d) e alive kept c =
    let first : s ≡ t = cc in
    let is : m ≡ Refuse = sym e ∙ ap (λ (u : Sending). u.message) first ∙ i in
    subst (λ u. Took base Initiator a b f g shared s u choice) (sym is)
    (record { may = λ w. record { initiates = refl; asked = subst IsBack (sym p) tt }; pair = refl; next = LeftB refl q v (subst (AllAre IsAbort) (sym (nil-append g ∙ d)) tt) })
initiator-takes base a b s f g shared m choice (LeftB p q v n) e alive kept c = absurd (alive p)
initiator-takes base a b s f g shared m choice (LeftA p w q n) e alive kept c = absurd (cc)
initiator-takes base a b s f g shared m choice (Deaf p w q n) e alive kept c = absurd (cc)

abbrev acceptance_of : ContextSet → Shared → Sending
acceptance_of set shared = record { message = Accept set; shared = shared.set }

-- the responder accepts or refuses an opening
new-records : (base : ModelSetup) (a : State) (shared : Shared) → a ≡ record (new_end (reliable base) Initiator) { phase = Opening } → Records (reliable base) Initiator a (new_end (reliable base) Responder) shared
new-records base a shared e =
    subst (λ x. Records (reliable base) Initiator x (new_end (reliable base) Responder) shared) (sym e)
    (record { rests_me = tt; rests_peer = tt; pairs = refl; others = refl; saved_me = tt; saved_peer = tt; inactive_me = refl; inactive_peer = refl })

-- the responder accepts: the association stands
joins : (base : ModelSetup) (a b : State) (f behind : List Sending) (set : ContextSet) (shared : Shared) → IsBack a.phase → a.awaits ≡ NoAnswer → f ≡ [] → behind ≡ [] → Records (reliable base) Initiator a b shared → Standing (reliable base) Initiator a (joined_with Reliable Responder set b) (f ++ (acceptance_of set shared ∷ [])) behind (record shared { set = set; inter = set; saved = record { number = 0; set = set } ∷ [] })
joins base a b f behind set shared p w e l r =
    record {
      me = joined_with Reliable Initiator set a;
      peer = joined_with Reliable Responder set b;
      down = messages behind;
      up = [];
      sees_me = Joins set (acceptance_of set shared) [] refl p w refl (ap (λ xs. xs ++ (acceptance_of set shared ∷ [])) e) refl refl (subst (AllAre IsLive) (sym l) tt);
      sees_peer = Same refl refl (subst (λ xs. AllAre IsLive (xs ++ (acceptance_of set shared ∷ []))) (sym e) (tt, tt));
      flow =
          Leads (record { up = refl; turn = refl; gave = refl }) (record { up = refl; turn = refl; calm = refl; own = refl; rests = r.rests_peer })
          (begins base a b set (messages behind) shared r (aborts-quiet behind (subst (AllAre IsAbort) (sym l) tt)));
    }

joins-without : (base : ModelSetup) (a was b : State) (f behind : List Sending) (set : ContextSet) (shared : Shared) → a.phase ≡ Over → was.outgoing ≡ a.outgoing → f ≡ [] → AllAre IsAbort behind → Records (reliable base) Initiator was b shared → Standing (reliable base) Initiator a (joined_with Reliable Responder set b) (f ++ (acceptance_of set shared ∷ [])) behind (record shared { set = set; inter = set; saved = record { number = 0; set = set } ∷ [] })
joins-without base a was b f behind set shared p same e l r =
    record {
      me = joined_with Reliable Initiator set was;
      peer = joined_with Reliable Responder set b;
      down = messages behind;
      up = [];
      sees_me = Gone p same;
      sees_peer = Same refl refl (subst (λ xs. AllAre IsLive (xs ++ (acceptance_of set shared ∷ []))) (sym e) (tt, tt));
      flow =
          Leads (record { up = refl; turn = refl; gave = refl }) (record { up = refl; turn = refl; calm = refl; own = refl; rests = r.rests_peer })
          (begins base was b set (messages behind) shared r (aborts-quiet behind l));
    }

no-marks : Shared → Shared
no-marks shared = record shared { of_initiator = []; of_responder = [] }

opens : (base : ModelSetup) (a b : State) (s : Sending) (f behind : List Sending) (shared : Shared) (choice : Choice) → (a ≡ record (new_end (reliable base) Initiator) { phase = Opening }) × (behind ≡ []) ⊎ ((a.phase ≡ Over) × (a.outgoing ≡ (new_end (reliable base) Initiator).outgoing)) → b ≡ new_end (reliable base) Responder → f ≡ [] → AllAre IsAbort behind → IsChoice (reliable base) b Connect choice → Took base Responder b a behind f shared s Connect choice
opens base a b s f behind shared (Accepting set) (inl h) q e l c =
    record {
      may = λ w. record { responds = refl; is_unjoined = subst IsUnjoined (sym (phase-of b (new_end (reliable base) Responder) Idle q refl)) tt };
      pair = refl;
      next =
          Stands (joins base a (new_end (reliable base) Responder) f behind set (record shared { of_initiator = []; of_responder = [] })
          (subst IsBack (sym (phase-of a (record (new_end (reliable base) Initiator) { phase = Opening }) Opening h.0 refl)) tt) (ap (λ (x : State). x.awaits) h.0) e h.1 (new-records base a (record shared { of_initiator = []; of_responder = [] }) h.0));
    }
opens base a b s f behind shared (Accepting set) (inr h) q e l c =
    record {
      may = λ w. record { responds = refl; is_unjoined = subst IsUnjoined (sym (phase-of b (new_end (reliable base) Responder) Idle q refl)) tt };
      pair = refl;
      next =
          Stands (joins-without base a (record (new_end (reliable base) Initiator) { phase = Opening }) (new_end (reliable base) Responder) f behind set (record shared { of_initiator = []; of_responder = [] }) h.0 (sym h.1) e l
          (new-records base (record (new_end (reliable base) Initiator) { phase = Opening }) (record shared { of_initiator = []; of_responder = [] }) refl));
    }
opens base a b s f behind shared Refusing (inl h) q e l c =
    record {
      may = λ w. record { responds = refl; is_unjoined = subst IsUnjoined (sym (phase-of b (new_end (reliable base) Responder) Idle q refl)) tt };
      pair = refl;
      next =
          Refused (record { message = Refuse; shared = shared.set }) (phase-of a (record (new_end (reliable base) Initiator) { phase = Opening }) Opening h.0 refl) (ap (λ (x : State). x.awaits) h.0)
          (ap refusing (phase-of b (new_end (reliable base) Responder) Idle q refl)) (ap (λ xs. xs ++ (record { message = Refuse; shared = shared.set } ∷ [])) e) refl;
    }
opens base a b s f behind shared Refusing (inr h) q e l c =
    record {
      may = λ w. record { responds = refl; is_unjoined = subst IsUnjoined (sym (phase-of b (new_end (reliable base) Responder) Idle q refl)) tt };
      pair = refl;
      next = Dead h.0 (ap refusing (phase-of b (new_end (reliable base) Responder) Idle q refl));
    }
opens base a b s f behind shared Nothing h q e l c = absurd c
opens base a b s f behind shared (Results results) h q e l c = absurd c

-- the responder accepts or refuses a recovery
recovers : (base : ModelSetup) (a b : State) (s : Sending) (f behind : List Sending) (shared : Shared) (choice : Choice) → (a.phase ≡ Recovering) × (a.awaits ≡ NoAnswer) × (behind ≡ []) × Records (reliable base) Initiator a b shared ⊎ ((a.phase ≡ Over) × record { was : State; same : was.outgoing ≡ a.outgoing; records : Records (reliable base) Initiator was b shared }) → b.phase ≡ Broken → b.awaits ≡ NoAnswer → f ≡ [] → AllAre IsAbort behind → IsChoice (reliable base) b Recover choice → Took base Responder b a behind f shared s Recover choice
recovers base a b s f behind shared (Accepting set) (inl h) q v e l c =
    record {
      may = λ w. record { responds = refl; is_unjoined = subst IsUnjoined (sym q) tt };
      pair = refl;
      next = Stands (joins base a b f behind set shared (subst IsBack (sym h.0) tt) h.1 e h.2 h.3);
    }
recovers base a b s f behind shared (Accepting set) (inr h) q v e l c =
    record {
      may = λ w. record { responds = refl; is_unjoined = subst IsUnjoined (sym q) tt };
      pair = refl;
      next = Stands (joins-without base a h.1.was b f behind set shared h.0 h.1.same e l h.1.records);
    }
recovers base a b s f behind shared Refusing (inl h) q v e l c =
    record {
      may = λ w. record { responds = refl; is_unjoined = subst IsUnjoined (sym q) tt };
      pair = refl;
      next =
          Denied (record { message = Refuse; shared = shared.set }) h.0 (ap refusing q) h.1 v
          (record { rests_me = h.3.rests_me; rests_peer = h.3.rests_peer; pairs = h.3.pairs; others = h.3.others; saved_me = h.3.saved_me; saved_peer = h.3.saved_peer; inactive_me = h.3.inactive_me; inactive_peer = h.3.inactive_peer })
          (ap (λ xs. xs ++ (record { message = Refuse; shared = shared.set } ∷ [])) e) refl h.2;
    }
recovers base a b s f behind shared Refusing (inr h) q v e l c =
    record {
      may = λ w. record { responds = refl; is_unjoined = subst IsUnjoined (sym q) tt };
      pair = refl;
      next = LeftB h.0 (ap refusing q) v l;
    }
recovers base a b s f behind shared Nothing h q v e l c = absurd c
recovers base a b s f behind shared (Results results) h q v e l c = absurd c

is-abort : (m : Message) → IsAbort m → m ≡ UserAbort
is-abort UserAbort h = refl
is-abort m h = absurd h

responder-takes : (base : ModelSetup) (a b : State) (s : Sending) (f g : List Sending) (shared : Shared) (m : Message) (choice : Choice) → Stage (reliable base) a b f (s ∷ g) shared → s.message ≡ m → (b.phase ≡ Over → ⊥) → is_purged Responder b.awaits m ≡ false → IsChoice (reliable base) b m choice → Took base Responder b a g f shared s m choice
responder-takes base a b s f g shared m choice (Stands j) e alive kept c =
    let t = stands-takes base Responder b a s g f shared m choice e alive kept c (stands-swap (reliable base) Initiator a b f (s ∷ g) shared j) in
    record { may = t.may; pair = t.pair; next = Stands (stands-swap (reliable base) Responder _ _ _ _ _ t.next) }
responder-takes base a b s f g shared m choice (Fresh p q n d) e alive kept c = absurd (cc)
responder-takes base a b s f g shared m choice (Asked t p q n d u) e alive kept c =
    let first : s ≡ t = cc in
    let rest : g ≡ [] = cc in
    let is : m ≡ Connect = sym e ∙ ap (λ (u : Sending). u.message) first ∙ u in
    subst (λ v. Took base Responder b a g f shared s v choice) (sym is)
    (opens base a b s f g shared choice (inl (p, rest)) q n (subst (AllAre IsAbort) (sym rest) tt) (subst (λ v. IsChoice (reliable base) b v choice) is c))
responder-takes base a b s f g shared m choice (Dropped t behind p q n d u l) e alive kept c =
    let first : s ≡ t = cc in
    let rest : g ≡ behind = cc in
    let is : m ≡ Connect = sym e ∙ ap (λ (u : Sending). u.message) first ∙ u in
    subst (λ v. Took base Responder b a g f shared s v choice) (sym is)
    (opens base a b s f g shared choice (inr p) q n (subst (AllAre IsAbort) (sym rest) l) (subst (λ v. IsChoice (reliable base) b v choice) is c))
responder-takes base a b s f g shared m choice (Refused t p k q n i) e alive kept c = absurd (alive q)
responder-takes base a b s f g shared m choice (Lost p q v n) e alive kept c = absurd (cc)
responder-takes base a b s f g shared m choice (Dead p q) e alive kept c = absurd (alive q)
responder-takes base a b s f g shared m choice (Apart p q w v r n d) e alive kept c = absurd (cc)
responder-takes base a b s f g shared m choice (Recalling t p q w v r n d i) e alive kept c =
    let first : s ≡ t = cc in
    let rest : g ≡ [] = cc in
    let is : m ≡ Recover = sym e ∙ ap (λ (u : Sending). u.message) first ∙ i in
    subst (λ z. Took base Responder b a g f shared s z choice) (sym is)
    (recovers base a b s f g shared choice (inl (p, w, rest, r)) q v n (subst (AllAre IsAbort) (sym rest) tt) (subst (λ z. IsChoice (reliable base) b z choice) is c))
responder-takes base a b s f g shared m choice (Hanging t behind was p q v r n d i l) e alive kept c =
    let first : s ≡ t = cc in
    let rest : g ≡ behind = cc in
    let is : m ≡ Recover = sym e ∙ ap (λ (u : Sending). u.message) first ∙ i in
    subst (λ z. Took base Responder b a g f shared s z choice) (sym is)
    (recovers base a b s f g shared choice (inr (p.0, record { was = was; same = p.1; records = r })) q v n (subst (AllAre IsAbort) (sym rest) l) (subst (λ z. IsChoice (reliable base) b z choice) is c))
responder-takes base a b s f g shared m choice (Denied t p q w v r n i d) e alive kept c = absurd (cc)
responder-takes base a b s f g shared m choice (LeftB p q v l) e alive kept c =
    subst (λ z. Took base Responder b a g f shared s z choice) (sym (is-abort s.message l.0) ∙ e)
    (record { may = λ w. tt; pair = refl; next = Dead p refl })
responder-takes base a b s f g shared m choice (LeftA p w q n) e alive kept c = absurd (alive q)
responder-takes base a b s f g shared m choice (Deaf p w q n) e alive kept c = absurd (alive q)

calm-passes : (role : Role) (x : State) (m : Message) → x.awaits ≡ NoAnswer → (x.phase ≡ Over → ⊥) → (x.phase ≡ Over) ⊎ (is_purged role x.awaits m ≡ true) → ⊥
calm-passes role x m w n (inl o) = n o
calm-passes role x m w n (inr k) = true≢false (sym (subst (λ q. is_purged role q m ≡ true) w k))

not-over : (x : State) (p : Phase) → x.phase ≡ p → (p ≡ Over → ⊥) → x.phase ≡ Over → ⊥
not-over x p e n o = n (sym e ∙ o)

initiator-passes : (base : ModelSetup) (a b : State) (s : Sending) (f g : List Sending) (shared : Shared) (m : Message) → Stage (reliable base) a b (s ∷ f) g shared → s.message ≡ m → (a.phase ≡ Over) ⊎ (is_purged Initiator a.awaits m ≡ true) → Stage (reliable base) a b f g shared
initiator-passes base a b s f g shared m (Stands j) e h = Stands (stands-passes base Initiator a b s f g shared m e h j)
initiator-passes base a b s f g shared m (Fresh p q n d) e h = absurd (cc)
initiator-passes base a b s f g shared m (Asked t p q n d u) e h = absurd (cc)
initiator-passes base a b s f g shared m (Dropped t behind p q n d u l) e h = absurd (cc)
initiator-passes base a b s f g shared m (Refused t p k q n i) e h = absurd (calm-passes Initiator a m k (not-over a Opening p (λ x. cc)) h)
initiator-passes base a b s f g shared m (Lost p q v n) e h = Lost p q v n
initiator-passes base a b s f g shared m (Dead p q) e h = Dead p q
initiator-passes base a b s f g shared m (Apart p q w v r n d) e h = absurd (cc)
initiator-passes base a b s f g shared m (Recalling t p q w v r n d i) e h = absurd (cc)
initiator-passes base a b s f g shared m (Hanging t behind was p q v r n d i l) e h = absurd (cc)
initiator-passes base a b s f g shared m (Denied t p q w v r n i d) e h = absurd (calm-passes Initiator a m w (not-over a Recovering p (λ x. cc)) h)
initiator-passes base a b s f g shared m (LeftB p q v l) e h = LeftB p q v l
initiator-passes base a b s f g shared m (LeftA p w q n) e h = absurd (cc)
initiator-passes base a b s f g shared m (Deaf p w q n) e h = absurd (cc)

responder-passes : (base : ModelSetup) (a b : State) (s : Sending) (f g : List Sending) (shared : Shared) (m : Message) → Stage (reliable base) a b f (s ∷ g) shared → s.message ≡ m → (b.phase ≡ Over) ⊎ (is_purged Responder b.awaits m ≡ true) → Stage (reliable base) a b f g shared
responder-passes base a b s f g shared m (Stands j) e h =
    Stands (stands-swap (reliable base) Responder _ _ _ _ _ (stands-passes base Responder b a s g f shared m e h (stands-swap (reliable base) Initiator a b f (s ∷ g) shared j)))
responder-passes base a b s f g shared m (Fresh p q n d) e h = absurd (cc)
responder-passes base a b s f g shared m (Asked t p q n d u) e h =
    absurd (calm-passes Responder b m (ap (λ (x : State). x.awaits) q) (not-over b Idle (phase-of b (new_end (reliable base) Responder) Idle q refl) (λ x. cc)) h)
responder-passes base a b s f g shared m (Dropped t behind p q n d u l) e h =
    absurd (calm-passes Responder b m (ap (λ (x : State). x.awaits) q) (not-over b Idle (phase-of b (new_end (reliable base) Responder) Idle q refl) (λ x. cc)) h)
responder-passes base a b s f g shared m (Refused t p k q n i) e h = Refused t p k q n i
responder-passes base a b s f g shared m (Lost p q v n) e h = absurd (cc)
responder-passes base a b s f g shared m (Dead p q) e h = Dead p q
responder-passes base a b s f g shared m (Apart p q w v r n d) e h = absurd (cc)
responder-passes base a b s f g shared m (Recalling t p q w v r n d i) e h = absurd (calm-passes Responder b m v (not-over b Broken q (λ x. cc)) h)
responder-passes base a b s f g shared m (Hanging t behind was p q v r n d i l) e h = absurd (calm-passes Responder b m v (not-over b Broken q (λ x. cc)) h)
responder-passes base a b s f g shared m (Denied t p q w v r n i d) e h = absurd (cc)
responder-passes base a b s f g shared m (LeftB p q v l) e h = LeftB p q v l.1
responder-passes base a b s f g shared m (LeftA p w q n) e h = LeftA p w q n
responder-passes base a b s f g shared m (Deaf p w q n) e h = Deaf p w q n

-- a break: transfers are suspended, and the records stay
abbrev suspend : Outgoing → Outgoing
suspend out = on_transfer (λ t. record t { progress = Suspended }) out

rests-suspend : (t : Option Transfer) (out : Outgoing) → RestsOrNone (suspend (record out { transfer = t })).transfer
rests-suspend None out = tt
rests-suspend (Some t) out = refl

paired-suspend : (t : Option Transfer) (out : Outgoing) (i : Incoming) → PairedIn t out.started i → PairedIn (suspend (record out { transfer = t })).transfer out.started (record i { active = false })
paired-suspend None out i h = h
paired-suspend (Some t) out i (inl h) = inl (h.0, h.1)
paired-suspend (Some t) out i (inr h) = inr h

saved-suspend : (setup : ModelSetup) (t : Option Transfer) (out : Outgoing) (marks : List Saved) → SavedIn setup t marks → SavedIn setup (suspend (record out { transfer = t })).transfer marks
saved-suspend setup None out marks h = h
saved-suspend setup (Some t) out marks h = h

-- the records of a connection that breaks
record Weak (setup : ModelSetup) (x y : State) (shared : Shared) : Type 0 where
  pub pairs : PairedIn x.outgoing.transfer x.outgoing.started y.incoming
  pub others : PairedIn y.outgoing.transfer y.outgoing.started x.incoming
  pub saved_me : SavedIn setup x.outgoing.transfer shared.of_initiator
  pub saved_peer : SavedIn setup y.outgoing.transfer shared.of_responder

flow-weak : (setup : ModelSetup) (x y : State) (down up : List Message) (shared : Shared) → Flowing setup Initiator x y down up shared → Weak setup x y shared
flow-weak setup x y down up shared (Leads o p n) = record { pairs = n.pairs; others = n.others; saved_me = n.saved; saved_peer = n.theirs_saved }
flow-weak setup x y down up shared (Follows o p n) = record { pairs = n.others; others = n.pairs; saved_me = n.theirs_saved; saved_peer = n.saved }
flow-weak setup x y down up shared (Gives_away k) = record { pairs = k.pairs; others = k.others; saved_me = k.saved; saved_peer = k.theirs }
flow-weak setup x y down up shared (Is_given k) = record { pairs = k.others; others = k.pairs; saved_me = k.theirs; saved_peer = k.saved }

weak-records : (base : ModelSetup) (a b : State) (shared : Shared) → Weak (reliable base) a b shared → Records (reliable base) Initiator (broken (reliable base) a) (broken (reliable base) b) shared
weak-records base a b shared w =
    record {
      rests_me = rests-suspend a.outgoing.transfer a.outgoing;
      rests_peer = rests-suspend b.outgoing.transfer b.outgoing;
      pairs = subst (λ c. PairedIn (suspend a.outgoing).transfer c (record b.incoming { active = false })) (sym (started-suspend a.outgoing)) (paired-suspend a.outgoing.transfer a.outgoing b.incoming w.pairs);
      others = subst (λ c. PairedIn (suspend b.outgoing).transfer c (record a.incoming { active = false })) (sym (started-suspend b.outgoing)) (paired-suspend b.outgoing.transfer b.outgoing a.incoming w.others);
      saved_me = saved-suspend (reliable base) a.outgoing.transfer a.outgoing shared.of_initiator w.saved_me;
      saved_peer = saved-suspend (reliable base) b.outgoing.transfer b.outgoing shared.of_responder w.saved_peer;
      inactive_me = refl;
      inactive_peer = refl;
    }
  where
    started-suspend : (out : Outgoing) → (suspend out).started ≡ out.started
    started-suspend out = refl

-- an end after a break
data Broke (x seen : State) : Type 0 where
  IsOver : broken_phase Reliable x.phase ≡ Over → Broke x seen
  IsBroken : broken_phase Reliable x.phase ≡ Broken → seen.outgoing ≡ x.outgoing → seen.incoming ≡ x.incoming → Broke x seen

broke : (role : Role) (x : State) (f g : List Sending) (seen : State) (coming : List Message) → seen.phase ≡ Up → Sees role x f g seen coming → Broke x seen
broke role x f g seen coming u (Same e c l) =
    IsBroken (ap (broken_phase Reliable) (ap (λ (z : State). z.phase) (sym e) ∙ u)) (ap (λ (z : State). z.outgoing) e) (ap (λ (z : State). z.incoming) e)
broke role x f g seen coming u (Joins set answer rest r p a e i m c l) = go x.phase refl p
  where
    go : (q : Phase) → x.phase ≡ q → IsBack q → Broke x seen
    go Opening k b = IsOver (ap (broken_phase Reliable) k)
    go Recovering k b = IsBroken (ap (broken_phase Reliable) k) (ap (λ (z : State). z.outgoing) e) (ap (λ (z : State). z.incoming) e)
    go q k b = absurd b
broke role x f g seen coming u (Leaves r p a l o i) = IsBroken (ap (broken_phase Reliable) p) o i
broke role x f g seen coming u (Gone p o) = IsOver (ap (broken_phase Reliable) p)

breaks-standing : (base : ModelSetup) (a b : State) (f g : List Sending) (shared : Shared) → Standing (reliable base) Initiator a b f g shared → Stage (reliable base) (broken (reliable base) a) (broken (reliable base) b) [] [] shared
breaks-standing base a b f g shared j =
    let u = up-me (reliable base) Initiator j.me j.peer j.down j.up shared j.flow in
    go (broke Initiator a f g j.me j.up u.0 j.sees_me) (broke Responder b g f j.peer j.down u.1 j.sees_peer)
  where
    weak : Weak (reliable base) j.me j.peer shared
    weak = flow-weak (reliable base) j.me j.peer j.down j.up shared j.flow

    real : j.me.outgoing ≡ a.outgoing → j.me.incoming ≡ a.incoming → j.peer.outgoing ≡ b.outgoing → j.peer.incoming ≡ b.incoming → Weak (reliable base) a b shared
    real p q r s =
        record {
          pairs = subst₂ (λ (o : Outgoing) (i : Incoming). PairedIn o.transfer o.started i) p s weak.pairs;
          others = subst₂ (λ (o : Outgoing) (i : Incoming). PairedIn o.transfer o.started i) r q weak.others;
          saved_me = subst (λ (o : Outgoing). SavedIn (reliable base) o.transfer shared.of_initiator) p weak.saved_me;
          saved_peer = subst (λ (o : Outgoing). SavedIn (reliable base) o.transfer shared.of_responder) r weak.saved_peer;
        }

    go : Broke a j.me → Broke b j.peer → Stage (reliable base) (broken (reliable base) a) (broken (reliable base) b) [] [] shared
    go (IsOver p) (IsOver q) = Dead p q
    go (IsOver p) (IsBroken q o i) = LeftB p q refl tt
    go (IsBroken p o i) (IsOver q) = LeftA (inl p) refl q refl
    go (IsBroken p o i) (IsBroken q r s) = Apart p q refl refl (weak-records base a b shared (real o i r s)) refl refl

again : (base : ModelSetup) (a b : State) (shared : Shared) → Records (reliable base) Initiator a b shared → Records (reliable base) Initiator (broken (reliable base) a) (broken (reliable base) b) shared
again base a b shared r = weak-records base a b shared (record { pairs = r.pairs; others = r.others; saved_me = r.saved_me; saved_peer = r.saved_peer })

breaks : (base : ModelSetup) (a b : State) (f g : List Sending) (shared : Shared) → Stage (reliable base) a b f g shared → Stage (reliable base) (broken (reliable base) a) (broken (reliable base) b) [] [] shared
breaks base a b f g shared (Stands j) = breaks-standing base a b f g shared j
breaks base a b f g shared (Fresh p q n d) = Fresh (ap (broken (reliable base)) p) (ap (broken (reliable base)) q) refl refl
breaks base a b f g shared (Asked t p q n d u) =
    Lost (ap (broken_phase Reliable) (phase-of a (record (new_end (reliable base) Initiator) { phase = Opening }) Opening p refl)) (ap (broken_phase Reliable) (phase-of b (new_end (reliable base) Responder) Idle q refl)) refl refl
breaks base a b f g shared (Dropped t behind p q n d u l) = Lost (ap (broken_phase Reliable) p.0) (ap (broken_phase Reliable) (phase-of b (new_end (reliable base) Responder) Idle q refl)) refl refl
breaks base a b f g shared (Refused t p k q n i) = Dead (ap (broken_phase Reliable) p) (ap (broken_phase Reliable) q)
breaks base a b f g shared (Lost p q v n) = Lost (ap (broken_phase Reliable) p) (ap (broken_phase Reliable) q) refl refl
breaks base a b f g shared (Dead p q) = Dead (ap (broken_phase Reliable) p) (ap (broken_phase Reliable) q)
breaks base a b f g shared (Apart p q w v r n d) = Apart (ap (broken_phase Reliable) p) (ap (broken_phase Reliable) q) refl refl (again base a b shared r) refl refl
breaks base a b f g shared (Recalling t p q w v r n d i) = Apart (ap (broken_phase Reliable) p) (ap (broken_phase Reliable) q) refl refl (again base a b shared r) refl refl
breaks base a b f g shared (Hanging t behind was p q v r n d i l) = LeftB (ap (broken_phase Reliable) p.0) (ap (broken_phase Reliable) q) refl tt
breaks base a b f g shared (Denied t p q w v r n i d) = Apart (ap (broken_phase Reliable) p) (ap (broken_phase Reliable) q) refl refl (again base a b shared r) refl refl
breaks base a b f g shared (LeftB p q v l) = LeftB (ap (broken_phase Reliable) p) (ap (broken_phase Reliable) q) refl tt
breaks base a b f g shared (Deaf (inl p) w q n) = Deaf (inl (ap (broken_phase Reliable) p)) refl (ap (broken_phase Reliable) q) refl
breaks base a b f g shared (Deaf (inr p) w q n) = Dead (ap (broken_phase Reliable) p) (ap (broken_phase Reliable) q)
breaks base a b f g shared (LeftA p w q n) = LeftA (inl (go p)) refl (ap (broken_phase Reliable) q) refl
  where
    go : (a.phase ≡ Broken) ⊎ (a.phase ≡ Recovering) → broken_phase Reliable a.phase ≡ Broken
    go (inl k) = ap (broken_phase Reliable) k
    go (inr k) = ap (broken_phase Reliable) k

pub reliable-takes : (base : ModelSetup) (role : Role) (x y : State) (s : Sending) (f g : List Sending) (shared : Shared) (m : Message) (choice : Choice) → ReliableRelation base role x y (s ∷ f) g shared → s.message ≡ m → (x.phase ≡ Over → ⊥) → is_purged role x.awaits m ≡ false → IsChoice (reliable base) x m choice → Took base role x y f g shared s m choice
reliable-takes base Initiator x y s f g shared m choice h e alive kept c = initiator-takes base x y s f g shared m choice h e alive kept c
reliable-takes base Responder x y s f g shared m choice h e alive kept c = responder-takes base y x s g f shared m choice h e alive kept c

reliable-acts : (base : ModelSetup) (role : Role) (x y : State) (f g : List Sending) (shared : Shared) (act : Act) → ReliableRelation base role x y f g shared → MayAct (reliable base) role x act → After base role x y f g shared act
reliable-acts base Initiator x y f g shared act h may = initiator-acts base x y f g shared act h may
reliable-acts base Responder x y f g shared act h may = responder-acts base y x g f shared act h may

reliable-passes : (base : ModelSetup) (role : Role) (x y : State) (s : Sending) (f g : List Sending) (shared : Shared) (m : Message) → ReliableRelation base role x y (s ∷ f) g shared → s.message ≡ m → (x.phase ≡ Over) ⊎ (is_purged role x.awaits m ≡ true) → ReliableRelation base role x y f g shared
reliable-passes base Initiator x y s f g shared m h e p = initiator-passes base x y s f g shared m h e p
reliable-passes base Responder x y s f g shared m h e p = responder-passes base y x s g f shared m h e p

reliable-swaps : (base : ModelSetup) (role : Role) (x y : State) (f g : List Sending) (shared : Shared) → ReliableRelation base role x y f g shared → ReliableRelation base (other role) y x g f shared
reliable-swaps base Initiator x y f g shared h = h
reliable-swaps base Responder x y f g shared h = h

reliable-breaks : (base : ModelSetup) (role : Role) (x y : State) (f g : List Sending) (shared : Shared) → ReliableRelation base role x y f g shared → ReliableRelation base role (broken (reliable base) x) (broken (reliable base) y) [] [] shared
reliable-breaks base Initiator x y f g shared h = breaks base x y f g shared h
reliable-breaks base Responder x y f g shared h = breaks base y x g f shared h

pub reliable-keeps : (base : ModelSetup) → Keeps (reliable base) (ReliableRelation base)
reliable-keeps base =
    record {
      starts = Fresh refl refl refl refl;
      swaps = reliable-swaps base;
      acts = reliable-acts base;
      takes = λ role x y s f g shared m choice h e alive kept c. (reliable-takes base role x y s f g shared m choice h e alive kept c).next;
      passes = reliable-passes base;
      breaks = reliable-breaks base;
    }
