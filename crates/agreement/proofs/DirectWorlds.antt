-- Worlds of direct mode: from the opening to the end, each step keeps agreement.
use Rattle.std.proofs.Common.{◌≡◌, ℕ, true, false, List, [], ◌∷◌, ◌++◌, refl, sym, ap, ◌∙◌, true≢false, subst, inl, inr, ◌⊎◌}
use Rattle.agreement.specs.Sets.{Role, other, ContextSet, Saved}
use Rattle.agreement.specs.Sets.Role.{Initiator, Responder}
use Rattle.agreement.specs.Messages.{ModelSetup, Message, Act, Choice}
use Rattle.agreement.specs.Messages.Mode.{Direct}
use Rattle.agreement.specs.Messages.Act.{Connects, Recovers, SaysValue, Queues, Drops, Alters, Marks, GivesTurn, Pleads, Restarts, Starts, Encodes, Sends, EndsActivity, Interrupts, Discards, Resumes, Releases, Aborts, Withdraws, TransportFails}
use Rattle.agreement.specs.Messages.Choice.{Nothing, Accepting, Refusing, Results}
use Rattle.agreement.specs.Messages.Message.{Connect, Accept, Refuse, UserAbort}
use Rattle.agreement.specs.State.{State, joined_with, new_end}
use Rattle.agreement.specs.State.Phase.{Idle, Opening, Up, Broken, Over}
use Rattle.agreement.specs.State.Awaited.{NoAnswer}
use Rattle.agreement.specs.Acts.{MayAct, MayAbortIn, MayWithdrawIn, acted, sent_by}
use Rattle.agreement.specs.Takings.{is_purged, MayTake, IsChoice, IsUnjoined, IsBack, answer_to, taken, broken, broken_phase, refusing}
use Rattle.agreement.specs.Worlds.{Sending, Shared, sendings, shared_all, shared_answered, pair_under}
use Rattle.agreement.proofs.Carried.{WasSent}
use Rattle.agreement.proofs.Normal.{Normal, begun, swapped}
use Rattle.agreement.proofs.Views.{direct, entries, IsLive, AllAre, IsAbort, core, View, Joined, swap_joined}
use Rattle.agreement.proofs.Views.Ask.{NotAsking}
use Rattle.agreement.proofs.Views.View.{Plain, Asking, Answered, Joining, Leaving, Gone}
use Rattle.agreement.proofs.Acting.{acts}
use Rattle.agreement.proofs.Taking.{push-aborts}
use Rattle.agreement.proofs.Steps.{takes, passes}
use Rattle.agreement.proofs.Runs.{Keeps, Relation}

-- the initiator a, the responder b, what comes to a, what comes to b
pub data Stage (most : ℕ) (a b : State) (f g : List Sending) (shared : Shared) : Type 0 where
  Fresh : a.phase ≡ Idle → b.phase ≡ Idle → f ≡ [] → g ≡ [] → a.awaits ≡ NoAnswer → b.awaits ≡ NoAnswer → Stage most a b f g shared
  Asked : (s : Sending) → a.phase ≡ Opening → a.awaits ≡ NoAnswer → b.phase ≡ Idle → b.awaits ≡ NoAnswer → f ≡ [] → g ≡ s ∷ [] → s.message ≡ Connect → Stage most a b f g shared
  Dropped : (s : Sending) → (behind : List Sending) → a.phase ≡ Over → b.phase ≡ Idle → b.awaits ≡ NoAnswer → f ≡ [] → g ≡ s ∷ behind → s.message ≡ Connect → AllAre IsAbort behind → Stage most a b f g shared
  Refused : (s : Sending) → a.phase ≡ Opening → a.awaits ≡ NoAnswer → b.phase ≡ Over → f ≡ s ∷ [] → s.message ≡ Refuse → Stage most a b f g shared
  Lost : a.phase ≡ Over → b.phase ≡ Idle → g ≡ [] → Stage most a b f g shared
  Dead : a.phase ≡ Over → b.phase ≡ Over → Stage most a b f g shared
  Deaf : (a.phase ≡ Idle) ⊎ (a.phase ≡ Opening) → a.awaits ≡ NoAnswer → b.phase ≡ Over → f ≡ [] → Stage most a b f g shared
  Stands : Joined most Initiator a b f g shared.set shared.saved → Stage most a b f g shared

abbrev pub DirectRelation : ModelSetup → Relation
DirectRelation base Initiator x y f g shared = Stage base.most_marks x y f g shared
DirectRelation base Responder x y f g shared = Stage base.most_marks y x g f shared

-- an end that is over does nothing, and nothing is done in an opening but an abort
pub over-still : (setup : ModelSetup) (role : Role) (x : State) (act : Act) → MayAct setup role x act → x.phase ≡ Over → ⊥
over-still setup role x Connects h e = let d = h.is_idle in cc
over-still setup role x Recovers h e = let d = h.is_broken in cc
over-still setup role x (SaysValue value) h e = let d = h.is_free.is_up in cc
over-still setup role x (Queues context apdu) h e = let d = h.is_up in cc
over-still setup role x Drops h e = let d = h.is_free.is_up in cc
over-still setup role x (Alters items) h e = let d = h.is_free.is_up in cc
over-still setup role x Marks h e = let d = h.leads.is_free.is_up in cc
over-still setup role x GivesTurn h e = let d = h.leads.is_free.is_up in cc
over-still setup role x (Pleads priority) h e = let d = h.is_free.is_up in cc
over-still setup role x (Restarts number) h e = let d = h.is_free.is_up in cc
over-still setup role x Starts h e = let d = h.leads.is_free.is_up in cc
over-still setup role x (Encodes context) h e = let d = h.leads.is_free.is_up in cc
over-still setup role x (Sends octets) h e = let d = h.leads.is_free.is_up in cc
over-still setup role x EndsActivity h e = let d = h.leads.is_free.is_up in cc
over-still setup role x Interrupts h e = let d = h.is_free.is_up in cc
over-still setup role x Discards h e = let d = h.is_free.is_up in cc
over-still setup role x Resumes h e = let d = h.leads.is_free.is_up in cc
over-still setup role x Releases h e = let d = h.is_free.is_up in cc
over-still setup role x Aborts h e = subst MayAbortIn e h.in_phase
over-still setup role x Withdraws h e = subst (MayWithdrawIn role) e h.in_phase
over-still setup role x TransportFails h e = subst (MayWithdrawIn role) e h.in_phase

-- the phase of who may act otherwise than by opening, recovering, aborting or withdrawing
pub data Acting (role : Role) (x : State) : Act → Type 0 where
  ByConnecting : role ≡ Initiator → x.phase ≡ Idle → Acting role x Connects
  ByRecovering : role ≡ Initiator → x.phase ≡ Broken → Acting role x Recovers
  ByAborting : MayAbortIn x.phase → Acting role x Aborts
  ByWithdrawing : MayWithdrawIn role x.phase → Acting role x Withdraws
  ByFailing : MayWithdrawIn role x.phase → Acting role x TransportFails
  WhileUp : {act : Act} → x.phase ≡ Up → Acting role x act

pub acting : (setup : ModelSetup) (role : Role) (x : State) (act : Act) → MayAct setup role x act → Acting role x act
acting setup role x Connects h = ByConnecting h.initiates h.is_idle
acting setup role x Recovers h = ByRecovering h.initiates h.is_broken
acting setup role x (SaysValue value) h = WhileUp h.is_free.is_up
acting setup role x (Queues context apdu) h = WhileUp h.is_up
acting setup role x Drops h = WhileUp h.is_free.is_up
acting setup role x (Alters items) h = WhileUp h.is_free.is_up
acting setup role x Marks h = WhileUp h.leads.is_free.is_up
acting setup role x GivesTurn h = WhileUp h.leads.is_free.is_up
acting setup role x (Pleads priority) h = WhileUp h.is_free.is_up
acting setup role x (Restarts number) h = WhileUp h.is_free.is_up
acting setup role x Starts h = WhileUp h.leads.is_free.is_up
acting setup role x (Encodes context) h = WhileUp h.leads.is_free.is_up
acting setup role x (Sends octets) h = WhileUp h.leads.is_free.is_up
acting setup role x EndsActivity h = WhileUp h.leads.is_free.is_up
acting setup role x Interrupts h = WhileUp h.is_free.is_up
acting setup role x Discards h = WhileUp h.is_free.is_up
acting setup role x Resumes h = WhileUp h.leads.is_free.is_up
acting setup role x Releases h = WhileUp h.is_free.is_up
acting setup role x Aborts h = ByAborting h.in_phase
acting setup role x Withdraws h = ByWithdrawing h.in_phase
acting setup role x TransportFails h = ByFailing h.in_phase

After : (base : ModelSetup) (role : Role) (x y : State) (f g : List Sending) (shared : Shared) (act : Act) → Type 0
After base role x y f g shared act = DirectRelation base role (acted (direct base) x act) y f (g ++ sendings shared.set (sent_by (direct base) x act)) (shared_all Direct role (sent_by (direct base) x act) shared)

initiator-acts : (base : ModelSetup) (a b : State) (f g : List Sending) (shared : Shared) (act : Act) → Stage base.most_marks a b f g shared → MayAct (direct base) Initiator a act → After base Initiator a b f g shared act
unfolding After
initiator-acts base a b f g shared act (Stands j) h = Stands (acts base Initiator a b f g shared act h j)
initiator-acts base a b f g shared act (Fresh p q e d c k) h = go act (acting (direct base) Initiator a act h)
  where
    go : (act : Act) → Acting Initiator a act → After base Initiator a b f g shared act
    go Connects (ByConnecting r i) =
        Asked (record { message = Connect; shared = shared.set }) refl c q k e (ap (λ xs. xs ++ (record { message = Connect; shared = shared.set } ∷ [])) d) refl
    go Recovers (ByRecovering r i) = absurd (cc)
    go Aborts (ByAborting i) = absurd (subst MayAbortIn p i)
    go Withdraws (ByWithdrawing i) = Lost refl q (ap (λ xs. xs ++ []) d)
    go TransportFails (ByFailing i) = Lost refl q (ap (λ xs. xs ++ []) d)
    go act (WhileUp i) = absurd (cc)
initiator-acts base a b f g shared act (Asked s p k q c e d i) h = go act (acting (direct base) Initiator a act h)
  where
    go : (act : Act) → Acting Initiator a act → After base Initiator a b f g shared act
    go Connects (ByConnecting r j) = absurd (cc)
    go Recovers (ByRecovering r j) = absurd (cc)
    go Aborts (ByAborting j) =
        Dropped s (record { message = UserAbort; shared = shared.set } ∷ []) refl q c e (ap (λ xs. xs ++ (record { message = UserAbort; shared = shared.set } ∷ [])) d) i (tt, tt)
    go Withdraws (ByWithdrawing j) = absurd (subst (MayWithdrawIn Initiator) p j)
    go TransportFails (ByFailing j) = absurd (subst (MayWithdrawIn Initiator) p j)
    go act (WhileUp j) = absurd (cc)
initiator-acts base a b f g shared act (Refused s p k q e i) h = go act (acting (direct base) Initiator a act h)
  where
    go : (act : Act) → Acting Initiator a act → After base Initiator a b f g shared act
    go Connects (ByConnecting r j) = absurd (cc)
    go Recovers (ByRecovering r j) = absurd (cc)
    go Aborts (ByAborting j) = Dead refl q
    go Withdraws (ByWithdrawing j) = absurd (subst (MayWithdrawIn Initiator) p j)
    go TransportFails (ByFailing j) = absurd (subst (MayWithdrawIn Initiator) p j)
    go act (WhileUp j) = absurd (cc)
initiator-acts base a b f g shared act (Deaf (inl p) c q e) h = go act (acting (direct base) Initiator a act h)
  where
    go : (act : Act) → Acting Initiator a act → After base Initiator a b f g shared act
    go Connects (ByConnecting r j) = Deaf (inr refl) c q e
    go Recovers (ByRecovering r j) = absurd (cc)
    go Aborts (ByAborting j) = absurd (subst MayAbortIn p j)
    go Withdraws (ByWithdrawing j) = Dead refl q
    go TransportFails (ByFailing j) = Dead refl q
    go act (WhileUp j) = absurd (cc)
initiator-acts base a b f g shared act (Deaf (inr p) c q e) h = go act (acting (direct base) Initiator a act h)
  where
    go : (act : Act) → Acting Initiator a act → After base Initiator a b f g shared act
    go Connects (ByConnecting r j) = absurd (cc)
    go Recovers (ByRecovering r j) = absurd (cc)
    go Aborts (ByAborting j) = Dead refl q
    go Withdraws (ByWithdrawing j) = absurd (subst (MayWithdrawIn Initiator) p j)
    go TransportFails (ByFailing j) = absurd (subst (MayWithdrawIn Initiator) p j)
    go act (WhileUp j) = absurd (cc)
initiator-acts base a b f g shared act (Dropped s behind p q c e d i l) h = absurd (over-still (direct base) Initiator a act h p)
initiator-acts base a b f g shared act (Lost p q e) h = absurd (over-still (direct base) Initiator a act h p)
initiator-acts base a b f g shared act (Dead p q) h = absurd (over-still (direct base) Initiator a act h p)

-- a responder that is idle can only go over
pub idle-withdraws : (setup : ModelSetup) (x : State) (act : Act) (P : Act → Type 0) → MayAct setup Responder x act → x.phase ≡ Idle → P Withdraws → P TransportFails → P act
idle-withdraws setup x act P h e p q = go act (acting setup Responder x act h)
  where
    go : (act : Act) → Acting Responder x act → P act
    go Connects (ByConnecting r j) = absurd (cc)
    go Recovers (ByRecovering r j) = absurd (cc)
    go Aborts (ByAborting j) = absurd (subst MayAbortIn e j)
    go Withdraws (ByWithdrawing j) = p
    go TransportFails (ByFailing j) = q
    go act (WhileUp j) = absurd (cc)

responder-acts : (base : ModelSetup) (a b : State) (f g : List Sending) (shared : Shared) (act : Act) → Stage base.most_marks a b f g shared → MayAct (direct base) Responder b act → After base Responder b a g f shared act
unfolding After
responder-acts base a b f g shared act (Stands j) h =
    Stands (swap_joined base.most_marks Responder _ _ _ _ _ _ (acts base Responder b a g f shared act h (swap_joined base.most_marks Initiator a b f g shared.set shared.saved j)))
responder-acts base a b f g shared act (Fresh p q e d c k) h =
    idle-withdraws (direct base) b act (After base Responder b a g f shared) h q (Deaf (inl p) c refl (ap (λ xs. xs ++ []) e)) (Deaf (inl p) c refl (ap (λ xs. xs ++ []) e))
responder-acts base a b f g shared act (Asked s p k q c e d i) h =
    idle-withdraws (direct base) b act (After base Responder b a g f shared) h q (Deaf (inr p) k refl (ap (λ xs. xs ++ []) e)) (Deaf (inr p) k refl (ap (λ xs. xs ++ []) e))
responder-acts base a b f g shared act (Dropped s behind p q c e d i l) h =
    idle-withdraws (direct base) b act (After base Responder b a g f shared) h q (Dead p refl) (Dead p refl)
responder-acts base a b f g shared act (Refused s p k q e i) h = absurd (over-still (direct base) Responder b act h q)
responder-acts base a b f g shared act (Lost p q e) h =
    idle-withdraws (direct base) b act (After base Responder b a g f shared) h q (Dead p refl) (Dead p refl)
responder-acts base a b f g shared act (Deaf p c q e) h = absurd (over-still (direct base) Responder b act h q)
responder-acts base a b f g shared act (Dead p q) h = absurd (over-still (direct base) Responder b act h q)

-- what a taking gives
pub record Took (base : ModelSetup) (role : Role) (x y : State) (f g : List Sending) (shared : Shared) (s : Sending) (m : Message) (choice : Choice) : Type 0 where
  pub may : WasSent (direct base) m → MayTake (direct base) role x m
  pub pair : pair_under x.sets.held m ≡ pair_under s.shared m
  pub next : DirectRelation base role (taken (direct base) role x m choice) y f (g ++ sendings shared.set (answer_to (direct base) x m choice)) (shared_answered m choice shared)

initiator-takes : (base : ModelSetup) (a b : State) (s : Sending) (f g : List Sending) (shared : Shared) (m : Message) (choice : Choice) → Stage base.most_marks a b (s ∷ f) g shared → s.message ≡ m → (a.phase ≡ Over → ⊥) → is_purged Initiator a.awaits m ≡ false → IsChoice (direct base) a m choice → Took base Initiator a b f g shared s m choice
initiator-takes base a b s f g shared m choice (Stands j) e alive kept c =
    let t = takes base Initiator a b s f g shared m choice e alive kept c j in
    record { may = t.may; pair = t.pair; next = Stands t.next }
initiator-takes base a b s f g shared m choice (Fresh p q n d i k) e alive kept c = absurd (cc)
initiator-takes base a b s f g shared m choice (Asked t p k q i n d u) e alive kept c = absurd (cc)
initiator-takes base a b s f g shared m choice (Dropped t behind p q i n d u l) e alive kept c = absurd (alive p)
initiator-takes base a b s f g shared m choice (Refused t p k q n i) e alive kept c =
    let first : s ≡ t = cc in
    let is : m ≡ Refuse = sym e ∙ ap (λ (u : Sending). u.message) first ∙ i in
    subst (λ u. Took base Initiator a b f g shared s u choice) (sym is)
    (record { may = λ w. record { initiates = refl; asked = subst IsBack (sym p) tt }; pair = refl; next = Dead refl q })
initiator-takes base a b s f g shared m choice (Lost p q n) e alive kept c = absurd (alive p)
initiator-takes base a b s f g shared m choice (Dead p q) e alive kept c = absurd (alive p)
initiator-takes base a b s f g shared m choice (Deaf p k q n) e alive kept c = absurd (cc)

abbrev acceptance_of : ContextSet → Shared → Sending
acceptance_of set shared = record { message = Accept set; shared = shared.set }

-- the responder accepts or refuses an opening
opens : (base : ModelSetup) (a b : State) (s : Sending) (f behind : List Sending) (shared : Shared) (choice : Choice) → (a.phase ≡ Opening) × (a.awaits ≡ NoAnswer) × (behind ≡ []) ⊎ (a.phase ≡ Over) → b.phase ≡ Idle → f ≡ [] → AllAre IsAbort behind → IsChoice (direct base) b Connect choice → Took base Responder b a behind f shared s Connect choice
opens base a b s f behind shared (Accepting set) h q e l c =
    record {
      may = λ w. record { responds = refl; is_unjoined = subst IsUnjoined (sym q) tt };
      pair = refl;
      next = Stands (subst (λ xs. Joined base.most_marks Initiator a (joined_with Direct Responder set (new_end (direct base) Responder)) (xs ++ (acceptance_of set shared ∷ [])) behind set (record { number = 0; set = set } ∷ [])) (sym e) joined);
    }
  where
    view : (a.phase ≡ Opening) × (a.awaits ≡ NoAnswer) × (behind ≡ []) ⊎ (a.phase ≡ Over) → View Initiator a (acceptance_of set shared ∷ []) behind NotAsking (core (joined_with Direct Initiator set a)) []
    view (inl k) = Joining set (acceptance_of set shared) refl k.0 k.1 refl refl refl refl (subst (AllAre IsLive) (sym k.2) tt)
    view (inr k) = Gone k

    joined : Joined base.most_marks Initiator a (joined_with Direct Responder set (new_end (direct base) Responder)) (acceptance_of set shared ∷ []) behind set (record { number = 0; set = set } ∷ [])
    joined =
        record {
          ask_me = NotAsking;
          ask_peer = NotAsking;
          me = core (joined_with Direct Initiator set a);
          peer = core (joined_with Direct Responder set (new_end (direct base) Responder));
          to_me = [];
          to_peer = behind;
          before_me = [];
          before_peer = behind;
          view_me = view h;
          view_peer = Plain refl refl refl refl refl (tt, tt);
          shape_me = refl;
          shape_peer = refl;
          normal = turned;
        }
      where
        turned : Normal base.most_marks Initiator (core (joined_with Direct Initiator set a)) (core (joined_with Direct Responder set (new_end (direct base) Responder))) [] (entries behind) set (record { number = 0; set = set } ∷ [])
        turned =
            swapped base.most_marks Responder (core (joined_with Direct Responder set (new_end (direct base) Responder))) (core (joined_with Direct Initiator set a)) (entries behind) [] set (record { number = 0; set = set } ∷ [])
            (push-aborts base.most_marks Responder (core (joined_with Direct Responder set (new_end (direct base) Responder))) (core (joined_with Direct Initiator set a)) behind [] [] set (record { number = 0; set = set } ∷ []) l
            (begun base.most_marks Responder set (record { number = 0; set = set } ∷ []) false true c.is_set (c.is_set, tt) (λ x y. true≢false (sym x))))
opens base a b s f behind shared Refusing (inl h) q e l c =
    record {
      may = λ w. record { responds = refl; is_unjoined = subst IsUnjoined (sym q) tt };
      pair = refl;
      next = Refused (record { message = Refuse; shared = shared.set }) h.0 h.1 (ap refusing q) (ap (λ xs. xs ++ (record { message = Refuse; shared = shared.set } ∷ [])) e) refl;
    }
opens base a b s f behind shared Refusing (inr h) q e l c =
    record {
      may = λ w. record { responds = refl; is_unjoined = subst IsUnjoined (sym q) tt };
      pair = refl;
      next = Dead h (ap refusing q);
    }
opens base a b s f behind shared Nothing h q e l c = absurd c
opens base a b s f behind shared (Results results) h q e l c = absurd c

responder-takes : (base : ModelSetup) (a b : State) (s : Sending) (f g : List Sending) (shared : Shared) (m : Message) (choice : Choice) → Stage base.most_marks a b f (s ∷ g) shared → s.message ≡ m → (b.phase ≡ Over → ⊥) → is_purged Responder b.awaits m ≡ false → IsChoice (direct base) b m choice → Took base Responder b a g f shared s m choice
responder-takes base a b s f g shared m choice (Stands j) e alive kept c =
    let t = takes base Responder b a s g f shared m choice e alive kept c (swap_joined base.most_marks Initiator a b f (s ∷ g) shared.set shared.saved j) in
    record { may = t.may; pair = t.pair; next = Stands (swap_joined base.most_marks Responder _ _ _ _ _ _ t.next) }
responder-takes base a b s f g shared m choice (Fresh p q n d i k) e alive kept c = absurd (cc)
responder-takes base a b s f g shared m choice (Asked t p k q i n d u) e alive kept c =
    let first : s ≡ t = cc in
    let rest : g ≡ [] = cc in
    let is : m ≡ Connect = sym e ∙ ap (λ (u : Sending). u.message) first ∙ u in
    subst (λ v. Took base Responder b a g f shared s v choice) (sym is)
    (opens base a b s f g shared choice (inl (p, k, rest)) q n (subst (AllAre IsAbort) (sym rest) tt) (subst (λ v. IsChoice (direct base) b v choice) is c))
responder-takes base a b s f g shared m choice (Dropped t behind p q i n d u l) e alive kept c =
    let first : s ≡ t = cc in
    let rest : g ≡ behind = cc in
    let is : m ≡ Connect = sym e ∙ ap (λ (u : Sending). u.message) first ∙ u in
    subst (λ v. Took base Responder b a g f shared s v choice) (sym is)
    (opens base a b s f g shared choice (inr p) q n (subst (AllAre IsAbort) (sym rest) l) (subst (λ v. IsChoice (direct base) b v choice) is c))
responder-takes base a b s f g shared m choice (Refused t p k q n i) e alive kept c = absurd (alive q)
responder-takes base a b s f g shared m choice (Lost p q n) e alive kept c = absurd (cc)
responder-takes base a b s f g shared m choice (Dead p q) e alive kept c = absurd (alive q)
responder-takes base a b s f g shared m choice (Deaf p k q n) e alive kept c = absurd (alive q)

initiator-passes : (base : ModelSetup) (a b : State) (s : Sending) (f g : List Sending) (shared : Shared) (m : Message) → Stage base.most_marks a b (s ∷ f) g shared → s.message ≡ m → (a.phase ≡ Over) ⊎ (is_purged Initiator a.awaits m ≡ true) → Stage base.most_marks a b f g shared
initiator-passes base a b s f g shared m (Stands j) e h = Stands (passes base Initiator a b s f g shared m e h j)
initiator-passes base a b s f g shared m (Fresh p q n d i k) e h = absurd (cc)
initiator-passes base a b s f g shared m (Asked t p k q i n d u) e h = absurd (cc)
initiator-passes base a b s f g shared m (Dropped t behind p q i n d u l) e h = absurd (cc)
initiator-passes base a b s f g shared m (Refused t p k q n i) e (inl h) = absurd (cc)
initiator-passes base a b s f g shared m (Refused t p k q n i) e (inr h) = absurd (true≢false (sym (subst (λ w. is_purged Initiator w m ≡ true) k h)))
initiator-passes base a b s f g shared m (Lost p q n) e h = Lost p q n
initiator-passes base a b s f g shared m (Dead p q) e h = Dead p q
initiator-passes base a b s f g shared m (Deaf p k q n) e h = absurd (cc)

responder-passes : (base : ModelSetup) (a b : State) (s : Sending) (f g : List Sending) (shared : Shared) (m : Message) → Stage base.most_marks a b f (s ∷ g) shared → s.message ≡ m → (b.phase ≡ Over) ⊎ (is_purged Responder b.awaits m ≡ true) → Stage base.most_marks a b f g shared
responder-passes base a b s f g shared m (Stands j) e h =
    Stands (swap_joined base.most_marks Responder _ _ _ _ _ _ (passes base Responder b a s g f shared m e h (swap_joined base.most_marks Initiator a b f (s ∷ g) shared.set shared.saved j)))
responder-passes base a b s f g shared m (Fresh p q n d i k) e h = absurd (cc)
responder-passes base a b s f g shared m (Asked t p k q i n d u) e (inl h) = absurd (cc)
responder-passes base a b s f g shared m (Asked t p k q i n d u) e (inr h) = absurd (true≢false (sym (subst (λ w. is_purged Responder w m ≡ true) i h)))
responder-passes base a b s f g shared m (Dropped t behind p q i n d u l) e (inl h) = absurd (cc)
responder-passes base a b s f g shared m (Dropped t behind p q i n d u l) e (inr h) = absurd (true≢false (sym (subst (λ w. is_purged Responder w m ≡ true) i h)))
responder-passes base a b s f g shared m (Refused t p k q n i) e h = Refused t p k q n i
responder-passes base a b s f g shared m (Lost p q n) e h = absurd (cc)
responder-passes base a b s f g shared m (Dead p q) e h = Dead p q
responder-passes base a b s f g shared m (Deaf p k q n) e h = Deaf p k q n

-- a break ends all, but for an end that is idle
over-after : (most : ℕ) (role : Role) (x y : State) (f g : List Sending) (s : ContextSet) (v : List Saved) → Joined most role x y f g s v → broken_phase Direct x.phase ≡ Over
over-after most role x y f g s v j = go j.view_me
  where
    go : View role x f g j.ask_me j.me j.to_me → broken_phase Direct x.phase ≡ Over
    go (Plain p a k h w l) = ap (broken_phase Direct) p
    go (Asking m passed p a k h w l) = ap (broken_phase Direct) p
    go (Answered m before answer list p a k h w i r q l) = ap (broken_phase Direct) p
    go (Joining set answer r p a k h w i l) = ap (broken_phase Direct) p
    go (Leaving r p a l) = ap (broken_phase Direct) p
    go (Gone p) = ap (broken_phase Direct) p

breaks : (base : ModelSetup) (a b : State) (f g : List Sending) (shared : Shared) → Stage base.most_marks a b f g shared → Stage base.most_marks (broken (direct base) a) (broken (direct base) b) [] [] shared
breaks base a b f g shared (Stands j) =
    Dead (over-after base.most_marks Initiator a b f g shared.set shared.saved j)
    (over-after base.most_marks Responder b a g f shared.set shared.saved (swap_joined base.most_marks Initiator a b f g shared.set shared.saved j))
breaks base a b f g shared (Fresh p q n d i k) = Fresh (ap (broken_phase Direct) p) (ap (broken_phase Direct) q) refl refl refl refl
breaks base a b f g shared (Asked t p k q i n d u) = Lost (ap (broken_phase Direct) p) (ap (broken_phase Direct) q) refl
breaks base a b f g shared (Dropped t behind p q i n d u l) = Lost (ap (broken_phase Direct) p) (ap (broken_phase Direct) q) refl
breaks base a b f g shared (Refused t p k q n i) = Dead (ap (broken_phase Direct) p) (ap (broken_phase Direct) q)
breaks base a b f g shared (Lost p q n) = Lost (ap (broken_phase Direct) p) (ap (broken_phase Direct) q) refl
breaks base a b f g shared (Dead p q) = Dead (ap (broken_phase Direct) p) (ap (broken_phase Direct) q)
breaks base a b f g shared (Deaf (inl p) k q n) = Deaf (inl (ap (broken_phase Direct) p)) refl (ap (broken_phase Direct) q) refl
breaks base a b f g shared (Deaf (inr p) k q n) = Dead (ap (broken_phase Direct) p) (ap (broken_phase Direct) q)

pub direct-takes : (base : ModelSetup) (role : Role) (x y : State) (s : Sending) (f g : List Sending) (shared : Shared) (m : Message) (choice : Choice) → DirectRelation base role x y (s ∷ f) g shared → s.message ≡ m → (x.phase ≡ Over → ⊥) → is_purged role x.awaits m ≡ false → IsChoice (direct base) x m choice → Took base role x y f g shared s m choice
direct-takes base Initiator x y s f g shared m choice h e alive kept c = initiator-takes base x y s f g shared m choice h e alive kept c
direct-takes base Responder x y s f g shared m choice h e alive kept c = responder-takes base y x s g f shared m choice h e alive kept c

direct-acts : (base : ModelSetup) (role : Role) (x y : State) (f g : List Sending) (shared : Shared) (act : Act) → DirectRelation base role x y f g shared → MayAct (direct base) role x act → After base role x y f g shared act
direct-acts base Initiator x y f g shared act h may = initiator-acts base x y f g shared act h may
direct-acts base Responder x y f g shared act h may = responder-acts base y x g f shared act h may

direct-passes : (base : ModelSetup) (role : Role) (x y : State) (s : Sending) (f g : List Sending) (shared : Shared) (m : Message) → DirectRelation base role x y (s ∷ f) g shared → s.message ≡ m → (x.phase ≡ Over) ⊎ (is_purged role x.awaits m ≡ true) → DirectRelation base role x y f g shared
direct-passes base Initiator x y s f g shared m h e p = initiator-passes base x y s f g shared m h e p
direct-passes base Responder x y s f g shared m h e p = responder-passes base y x s g f shared m h e p

direct-swaps : (base : ModelSetup) (role : Role) (x y : State) (f g : List Sending) (shared : Shared) → DirectRelation base role x y f g shared → DirectRelation base (other role) y x g f shared
direct-swaps base Initiator x y f g shared h = h
direct-swaps base Responder x y f g shared h = h

direct-breaks : (base : ModelSetup) (role : Role) (x y : State) (f g : List Sending) (shared : Shared) → DirectRelation base role x y f g shared → DirectRelation base role (broken (direct base) x) (broken (direct base) y) [] [] shared
direct-breaks base Initiator x y f g shared h = breaks base x y f g shared h
direct-breaks base Responder x y f g shared h = breaks base y x g f shared h

pub direct-keeps : (base : ModelSetup) → Keeps (direct base) (DirectRelation base)
unfolding After
direct-keeps base =
    record {
      starts = Fresh refl refl refl refl refl refl;
      swaps = direct-swaps base;
      acts = direct-acts base;
      takes = λ role x y s f g shared m choice h e alive kept c. (direct-takes base role x y s f g shared m choice h e alive kept c).next;
      passes = direct-passes base;
      breaks = direct-breaks base;
    }
