-- Reliable mode on a connection: what each act keeps.
use Rattle.std.proofs.Common.{◌≡◌, ℕ, List, [], ◌∷◌, ◌++◌, refl, sym, ap, ◌∙◌, true≢false, subst, subst₂, inl, inr, ◌⊎◌, append_assoc}
use Rattle.std.specs.Prelude.{Option, Some, None}
use Rattle.agreement.specs.Sets.{Role, other, ContextSet}
use Rattle.agreement.specs.Sets.Role.{Initiator, Responder}
use Rattle.agreement.specs.Messages.{ModelSetup, Message, Act, Apdu}
use Rattle.agreement.specs.Messages.Mode.{Reliable}
use Rattle.agreement.specs.Messages.Act.{Connects, Recovers, SaysValue, Queues, Drops, Alters, Marks, GivesTurn, Pleads, Restarts, Starts, Encodes, Sends, EndsActivity, Interrupts, Discards, Resumes, Releases, Aborts, Withdraws, TransportFails}
use Rattle.agreement.specs.Messages.Message.{Give, Please, Release, UserAbort}
use Rattle.agreement.specs.State.{Transfer, State}
use Rattle.agreement.specs.State.Phase.{Idle, Up, Broken, Over}
use Rattle.agreement.specs.State.Awaited.{NoAnswer}
use Rattle.agreement.specs.State.Progress.{Running, Suspended}
use Rattle.agreement.specs.Acts.{MayAct, MayWithdrawIn, acted, sent_by, has_progress, RestsOrNone}
use Rattle.agreement.specs.Takings.{IsBack}
use Rattle.agreement.specs.Worlds.{Sending, Shared, sendings, shared_all, saved_of}
use Rattle.agreement.proofs.Views.{IsLive, IsNoRelease, AllAre, all-append, withdraws-in}
use Rattle.agreement.proofs.Down.{IsQuiet, AllQuiet, at-rest, quiet-append}
use Rattle.agreement.proofs.Flow.{Rest, Flow}
use Rattle.agreement.proofs.Leads.{sends_abort, sends_release, quiet-part}
use Rattle.agreement.proofs.FollowTakes.{follower_sends}
use Rattle.agreement.proofs.Standing.{reliable, leader_of, follower_of, messages, LeadOk, FollowOk, FlowOf, Flowing, Sees, Standing, state_with, After, lead-acts, alters-act, interrupts-act, discards-act, nil-messages, quiet-rest}
use Rattle.agreement.proofs.Standing.Flowing.{Leads, Follows, Gives_away, Is_given}
use Rattle.agreement.proofs.Standing.Sees.{Same, Joins, Leaves, Gone}

pub messages-append : (f g : List Sending) → messages (f ++ g) ≡ messages f ++ messages g
messages-append [] g = refl
messages-append (s ∷ f) g = ap (λ xs. s.message ∷ xs) (messages-append f g)

pub messages-sendings : (s : ContextSet) (ms : List Message) → messages (sendings s ms) ≡ ms
messages-sendings s [] = refl
messages-sendings s (m ∷ ms) = ap (λ xs. m ∷ xs) (messages-sendings s ms)

live-no_release : (flight : List Sending) → AllAre IsLive flight → AllAre IsNoRelease flight
live-no_release [] h = tt
live-no_release (s ∷ flight) h = (go s.message h.0, live-no_release flight h.1)
  where
    go : (m : Message) → IsLive m → IsNoRelease m
    go Release k = k
    go m k = tt

-- more comes to an end
pub more : (role : Role) (x : State) (f g : List Sending) (seen : State) (coming : List Message) (s : ContextSet) (new : List Message) → (role ≡ Initiator → AllAre IsNoRelease (sendings s new)) → Sees role x f g seen coming → Sees role x (f ++ sendings s new) g seen (coming ++ new)
more role x f g seen coming s new n (Same e c l) =
    Same e (ap (λ xs. xs ++ new) c ∙ ap (λ ms. messages f ++ ms) (sym (messages-sendings s new)) ∙ sym (messages-append f (sendings s new))) l
more role x f g seen coming s new n (Joins set answer rest r p a e i m c l) =
    Joins set answer (rest ++ sendings s new) r p a e (ap (λ xs. xs ++ sendings s new) i) m
    (ap (λ xs. xs ++ new) c ∙ ap (λ ms. messages rest ++ ms) (sym (messages-sendings s new)) ∙ sym (messages-append rest (sendings s new))) l
more role x f g seen coming s new n (Leaves r p a l o q) = Leaves r p a (all-append IsNoRelease f (sendings s new) l (n r)) o q
more role x f g seen coming s new n (Gone p o) = Gone p o

-- what came from an end is taken off
pub fewer : (role : Role) (x : State) (f : List Sending) (s : Sending) (g : List Sending) (seen : State) (coming : List Message) → Sees role x f (s ∷ g) seen coming → Sees role x f g seen coming
fewer role x f s g seen coming (Same e c l) = Same e c l.1
fewer role x f s g seen coming (Joins set answer rest r p a e i m c l) = Joins set answer rest r p a e i m c l.1
fewer role x f s g seen coming (Leaves r p a l o q) = Leaves r p a l o q
fewer role x f s g seen coming (Gone p o) = Gone p o

-- what an end sends is as it is seen
pub seen-outgoing : (role : Role) (x : State) (f g : List Sending) (seen : State) (coming : List Message) → Sees role x f g seen coming → seen.outgoing ≡ x.outgoing
seen-outgoing role x f g seen coming (Same e c l) = ap (λ (z : State). z.outgoing) e
seen-outgoing role x f g seen coming (Joins set answer rest r p a e i m c l) = ap (λ (z : State). z.outgoing) e
seen-outgoing role x f g seen coming (Leaves r p a l o q) = o
seen-outgoing role x f g seen coming (Gone p o) = o

-- an act that isn't a release or an abort sends what is live
sent-live : (setup : ModelSetup) (x : State) (act : Act) (s : ContextSet) → (act ≡ Releases → ⊥) → (act ≡ Aborts → ⊥) → AllAre IsLive (sendings s (sent_by setup x act))
sent-live setup x Connects s r a = (tt, tt)
sent-live setup x Recovers s r a = (tt, tt)
sent-live setup x (SaysValue value) s r a = (tt, tt)
sent-live setup x (Queues context apdu) s r a = tt
sent-live setup x Drops s r a = tt
sent-live setup x (Alters items) s r a = (tt, tt)
sent-live setup x Marks s r a = (tt, tt)
sent-live setup x GivesTurn s r a = (tt, tt)
sent-live setup x (Pleads priority) s r a = (tt, tt)
sent-live setup x (Restarts number) s r a = (tt, tt)
sent-live setup x Starts s r a = (tt, tt)
sent-live setup x (Encodes context) s r a = tt
sent-live setup x (Sends octets) s r a = (tt, tt)
sent-live setup x EndsActivity s r a = (tt, tt)
sent-live setup x Interrupts s r a = (tt, tt)
sent-live setup x Discards s r a = (tt, tt)
sent-live setup x Resumes s r a = (tt, tt)
sent-live setup x Releases s r a = absurd (r refl)
sent-live setup x Aborts s r a = absurd (a refl)
sent-live setup x Withdraws s r a = tt
sent-live setup x TransportFails s r a = tt

-- an end that is up is as it is seen
pub record IsSeen (role : Role) (x : State) (f g : List Sending) (seen : State) (coming : List Message) : Type 0 where
  pub same : seen ≡ x
  pub comes : coming ≡ messages f
  pub live : AllAre IsLive g

pub is-seen : (role : Role) (x : State) (f g : List Sending) (seen : State) (coming : List Message) → x.phase ≡ Up → Sees role x f g seen coming → IsSeen role x f g seen coming
is-seen role x f g seen coming u (Same e c l) = record { same = e; comes = c; live = l }
is-seen role x f g seen coming u (Joins set answer rest r p a e i m c l) = absurd (subst IsBack u p)
is-seen role x f g seen coming u (Leaves r p a l o q) = absurd (cc)
is-seen role x f g seen coming u (Gone p o) = absurd (cc)

-- the leader acts
by-settled : (base : ModelSetup) (role : Role) (x y : State) (down up : List Message) (shared : Shared) (act : Act) → LeadOk x → FollowOk y → MayAct (reliable base) role x act → FlowOf (reliable base) role x y down up shared → (act ≡ Releases → ⊥) → (act ≡ Aborts → ⊥) → x.awaits ≡ NoAnswer → x.sets.own ≡ [] → After base role x y down up shared act
by-settled base role x y down up shared act o p h n r a calm own =
    subst₂ (λ w q. MayAct (reliable base) role (state_with x w q x.outgoing.transfer) act → FlowOf (reliable base) role (state_with x w q x.outgoing.transfer) y down up shared → After base role (state_with x w q x.outgoing.transfer) y down up shared act) (sym calm) (sym own)
    (λ h n. lead-acts base role x y x.outgoing.transfer down up shared act o p h n r a) h n

interrupting : (base : ModelSetup) (role : Role) (x y : State) (t : Option Transfer) (down up : List Message) (shared : Shared) → LeadOk x → FollowOk y → has_progress Running t → FlowOf (reliable base) role (state_with x NoAnswer x.sets.own t) y down up shared → After base role (state_with x NoAnswer x.sets.own t) y down up shared Interrupts
interrupting base role x y None down up shared o p h n = absurd h
interrupting base role x y (Some t) down up shared o p h n = interrupts-act base role x y x.sets.own t down up shared o p h n

discarding : (base : ModelSetup) (role : Role) (x y : State) (t : Option Transfer) (down up : List Message) (shared : Shared) → LeadOk x → FollowOk y → has_progress Running t → FlowOf (reliable base) role (state_with x NoAnswer x.sets.own t) y down up shared → After base role (state_with x NoAnswer x.sets.own t) y down up shared Discards
discarding base role x y None down up shared o p h n = absurd h
discarding base role x y (Some t) down up shared o p h n = discards-act base role x y x.sets.own t down up shared o p h n

leader-acts : (base : ModelSetup) (role : Role) (x y : State) (down up : List Message) (shared : Shared) (act : Act) → LeadOk x → FollowOk y → MayAct (reliable base) role x act → FlowOf (reliable base) role x y down up shared → (act ≡ Releases → ⊥) → (act ≡ Aborts → ⊥) → After base role x y down up shared act
leader-acts base role x y down up shared Connects o p h n r a = absurd (let e = h.is_idle in let f = o.up in cc)
leader-acts base role x y down up shared Recovers o p h n r a = absurd (let e = h.is_broken in let f = o.up in cc)
leader-acts base role x y down up shared (SaysValue value) o p h n r a = absurd (h.at_once refl)
leader-acts base role x y down up shared (Queues context apdu) o p h n r a =
    Leads (record { up = o.up; turn = o.turn; gave = o.gave }) p (subst (λ d. FlowOf (reliable base) role x y d up shared) (sym (nil-messages down)) n)
leader-acts base role x y down up shared Drops o p h n r a = absurd (h.at_once refl)
leader-acts base role x y down up shared (Alters items) o p h n r a =
    subst (λ w. MayAct (reliable base) role (state_with x w x.sets.own x.outgoing.transfer) (Alters items) → FlowOf (reliable base) role (state_with x w x.sets.own x.outgoing.transfer) y down up shared → After base role (state_with x w x.sets.own x.outgoing.transfer) y down up shared (Alters items)) (sym h.is_free.is_calm)
    (λ h n. alters-act base role x y x.sets.own x.outgoing.transfer items down up shared o p h n) h n
leader-acts base role x y down up shared Marks o p h n r a = by-settled base role x y down up shared Marks o p h n r a h.leads.is_free.is_calm h.leads.is_settled
leader-acts base role x y down up shared GivesTurn o p h n r a = by-settled base role x y down up shared GivesTurn o p h n r a h.leads.is_free.is_calm h.leads.is_settled
leader-acts base role x y down up shared (Pleads priority) o p h n r a = absurd (true≢false (sym o.turn ∙ h.lacks_turn))
leader-acts base role x y down up shared (Restarts number) o p h n r a = absurd (let e = h.is_direct in cc)
leader-acts base role x y down up shared Starts o p h n r a = by-settled base role x y down up shared Starts o p h n r a h.leads.is_free.is_calm h.leads.is_settled
leader-acts base role x y down up shared (Encodes context) o p h n r a = by-settled base role x y down up shared (Encodes context) o p h n r a h.leads.is_free.is_calm h.leads.is_settled
leader-acts base role x y down up shared (Sends octets) o p h n r a = by-settled base role x y down up shared (Sends octets) o p h n r a h.leads.is_free.is_calm h.leads.is_settled
leader-acts base role x y down up shared EndsActivity o p h n r a = by-settled base role x y down up shared EndsActivity o p h n r a h.leads.is_free.is_calm h.leads.is_settled
leader-acts base role x y down up shared Interrupts o p h n r a =
    subst (λ w. FlowOf (reliable base) role (state_with x w x.sets.own x.outgoing.transfer) y down up shared → After base role (state_with x w x.sets.own x.outgoing.transfer) y down up shared Interrupts) (sym h.is_free.is_calm)
    (interrupting base role x y x.outgoing.transfer down up shared o p h.runs) n
leader-acts base role x y down up shared Discards o p h n r a =
    subst (λ w. FlowOf (reliable base) role (state_with x w x.sets.own x.outgoing.transfer) y down up shared → After base role (state_with x w x.sets.own x.outgoing.transfer) y down up shared Discards) (sym h.is_free.is_calm)
    (discarding base role x y x.outgoing.transfer down up shared o p h.runs) n
leader-acts base role x y down up shared Resumes o p h n r a = by-settled base role x y down up shared Resumes o p h n r a h.leads.is_free.is_calm h.leads.is_settled
leader-acts base role x y down up shared Releases o p h n r a = absurd (r refl)
leader-acts base role x y down up shared Aborts o p h n r a = absurd (a refl)
leader-acts base role x y down up shared Withdraws o p h n r a = absurd (subst (MayWithdrawIn role) o.up h.in_phase)
leader-acts base role x y down up shared TransportFails o p h n r a = absurd (subst (MayWithdrawIn role) o.up h.in_phase)

-- an end without the turn only pleads and queues
pub data Waiting : Act → Type 0 where
  Queueing : (context : ℕ) → (apdu : Apdu) → Waiting (Queues context apdu)
  Pleading : (priority : ℕ) → Waiting (Pleads priority)

resting-runs : (t : Option Transfer) → RestsOrNone t → has_progress Running t → ⊥
resting-runs None r h = h
resting-runs (Some t) r h = clash (sym h ∙ r)
  where
    clash : Running ≡ Suspended → ⊥
    clash e = cc

waiting : (base : ModelSetup) (role : Role) (x : State) (act : Act) → FollowOk x → MayAct (reliable base) role x act → (act ≡ Aborts → ⊥) → Waiting act
waiting base role x Connects o h a = absurd (let e = h.is_idle in let f = o.up in cc)
waiting base role x Recovers o h a = absurd (let e = h.is_broken in let f = o.up in cc)
waiting base role x (SaysValue value) o h a = absurd (h.at_once refl)
waiting base role x (Queues context apdu) o h a = Queueing context apdu
waiting base role x Drops o h a = absurd (h.at_once refl)
waiting base role x (Alters items) o h a = absurd (true≢false (sym h.in_mode.0 ∙ o.turn))
waiting base role x Marks o h a = absurd (true≢false (sym h.leads.has_turn ∙ o.turn))
waiting base role x GivesTurn o h a = absurd (true≢false (sym h.leads.has_turn ∙ o.turn))
waiting base role x (Pleads priority) o h a = Pleading priority
waiting base role x (Restarts number) o h a = absurd (let e = h.is_direct in cc)
waiting base role x Starts o h a = absurd (true≢false (sym h.leads.has_turn ∙ o.turn))
waiting base role x (Encodes context) o h a = absurd (true≢false (sym h.leads.has_turn ∙ o.turn))
waiting base role x (Sends octets) o h a = absurd (true≢false (sym h.leads.has_turn ∙ o.turn))
waiting base role x EndsActivity o h a = absurd (true≢false (sym h.leads.has_turn ∙ o.turn))
waiting base role x Interrupts o h a = absurd (resting-runs x.outgoing.transfer o.rests h.runs)
waiting base role x Discards o h a = absurd (resting-runs x.outgoing.transfer o.rests h.runs)
waiting base role x Resumes o h a = absurd (true≢false (sym h.leads.has_turn ∙ o.turn))
waiting base role x Releases o h a = absurd (true≢false (sym h.in_mode.0 ∙ o.turn))
waiting base role x Aborts o h a = absurd (a refl)
waiting base role x Withdraws o h a = absurd (subst (MayWithdrawIn role) o.up h.in_phase)
waiting base role x TransportFails o h a = absurd (subst (MayWithdrawIn role) o.up h.in_phase)

follow-same : (x : State) → FollowOk x → FollowOk x
follow-same x o = o

-- what an end without the turn sends joins what is on its way from it
flow-quiet : (setup : ModelSetup) (role : Role) (x y : State) (down up : List Message) (shared : Shared) (u : Message) → IsQuiet u → (u ≡ UserAbort) ⊎ FollowOk x → Flowing setup role x y down up shared → Flowing setup role x y (down ++ (u ∷ [])) up shared
flow-quiet setup role x y down up shared u q (inl e) (Leads o p n) =
    Leads o p (subst (λ m. FlowOf setup role x y (down ++ (m ∷ [])) up shared) (sym e) (sends_abort setup role (leader_of x) x.incoming (follower_of y) y.outgoing.started y.outgoing.transfer down up shared.set shared.inter (saved_of role shared) (saved_of (other role) shared) n))
flow-quiet setup role x y down up shared u q (inr f) (Leads o p n) = absurd (true≢false (sym o.turn ∙ f.turn))
flow-quiet setup role x y down up shared u q c (Follows o p n) =
    Follows o p (follower_sends setup (other role) (leader_of y) y.incoming (follower_of x) x.outgoing.started x.outgoing.transfer u up down shared.set shared.inter (saved_of (other role) shared) (saved_of role shared) q n)
flow-quiet setup role x y down up shared u q c (Gives_away k) =
    Gives_away (record {
      before = k.before;
      behind = k.behind ++ (u ∷ []);
      shape = ap (λ xs. xs ++ (u ∷ [])) k.shape ∙ append_assoc k.before (Give ∷ k.behind) (u ∷ []);
      calm = k.calm;
      quiet_behind = quiet-append k.behind (u ∷ []) k.quiet_behind (q, tt);
      quiet_up = k.quiet_up;
      giver = k.giver;
      taker = k.taker;
      gave = k.gave;
      inactive_giver = k.inactive_giver;
      inactive_taker = k.inactive_taker;
      held = k.held;
      inter = k.inter;
      set = k.set;
      shared_inter = k.shared_inter;
      pairs = k.pairs;
      others = k.others;
      saved = k.saved;
      theirs = k.theirs;
    })
flow-quiet setup role x y down up shared u q c (Is_given k) =
    Is_given (record {
      before = k.before;
      behind = k.behind;
      shape = k.shape;
      calm = k.calm;
      quiet_behind = k.quiet_behind;
      quiet_up = quiet-append down (u ∷ []) k.quiet_up (q, tt);
      giver = k.giver;
      taker = k.taker;
      gave = k.gave;
      inactive_giver = k.inactive_giver;
      inactive_taker = k.inactive_taker;
      held = k.held;
      inter = k.inter;
      set = k.set;
      shared_inter = k.shared_inter;
      pairs = k.pairs;
      others = k.others;
      saved = k.saved;
      theirs = k.theirs;
    })

-- queueing changes nothing that the flow reads
flow-queues : (setup : ModelSetup) (role : Role) (x y : State) (down up : List Message) (shared : Shared) (context : ℕ) (apdu : Apdu) → FollowOk x → Flowing setup role x y down up shared → Flowing setup role (acted setup x (Queues context apdu)) y (down ++ []) up shared
flow-queues setup role x y down up shared context apdu f (Leads o p n) = absurd (true≢false (sym o.turn ∙ f.turn))
flow-queues setup role x y down up shared context apdu f (Follows o p n) =
    Follows (record { up = o.up; turn = o.turn; calm = o.calm; own = o.own; rests = o.rests }) p
    (subst (λ d. Flow setup (other role) (leader_of y) y.incoming (follower_of x) x.outgoing.started x.outgoing.transfer up d shared.set shared.inter (saved_of (other role) shared) (saved_of role shared)) (sym (nil-messages down)) n)
flow-queues setup role x y down up shared context apdu f (Gives_away k) =
    Gives_away (record {
      before = k.before;
      behind = k.behind;
      shape = nil-messages down ∙ k.shape;
      calm = k.calm;
      quiet_behind = k.quiet_behind;
      quiet_up = k.quiet_up;
      giver = record { up = f.up; turn = f.turn; calm = f.calm; own = f.own; rests = f.rests };
      taker = k.taker;
      gave = k.gave;
      inactive_giver = k.inactive_giver;
      inactive_taker = k.inactive_taker;
      held = k.held;
      inter = k.inter;
      set = k.set;
      shared_inter = k.shared_inter;
      pairs = k.pairs;
      others = k.others;
      saved = k.saved;
      theirs = k.theirs;
    })
flow-queues setup role x y down up shared context apdu f (Is_given k) =
    Is_given (record {
      before = k.before;
      behind = k.behind;
      shape = k.shape;
      calm = k.calm;
      quiet_behind = k.quiet_behind;
      quiet_up = subst AllQuiet (sym (nil-messages down)) k.quiet_up;
      giver = k.giver;
      taker = record { up = f.up; turn = f.turn; calm = f.calm; own = f.own; rests = f.rests };
      gave = k.gave;
      inactive_giver = k.inactive_giver;
      inactive_taker = k.inactive_taker;
      held = k.held;
      inter = k.inter;
      set = k.set;
      shared_inter = k.shared_inter;
      pairs = k.pairs;
      others = k.others;
      saved = k.saved;
      theirs = k.theirs;
    })

follower-acts : (base : ModelSetup) (role : Role) (x y : State) (down up : List Message) (shared : Shared) (act : Act) → FollowOk x → Waiting act → Flowing (reliable base) role x y down up shared → After base role x y down up shared act
follower-acts base role x y down up shared act o (Queueing context apdu) n = flow-queues (reliable base) role x y down up shared context apdu o n
follower-acts base role x y down up shared act o (Pleading priority) n = flow-quiet (reliable base) role x y down up shared (Please priority) tt (inr o) n

flow-acts : (base : ModelSetup) (role : Role) (x y : State) (down up : List Message) (shared : Shared) (act : Act) → MayAct (reliable base) role x act → (act ≡ Releases → ⊥) → (act ≡ Aborts → ⊥) → Flowing (reliable base) role x y down up shared → After base role x y down up shared act
flow-acts base role x y down up shared act h r a (Leads o p n) = leader-acts base role x y down up shared act o p h n r a
flow-acts base role x y down up shared act h r a (Follows o p n) = follower-acts base role x y down up shared act o (waiting base role x act o h a) (Follows o p n)
flow-acts base role x y down up shared act h r a (Gives_away k) = follower-acts base role x y down up shared act k.giver (waiting base role x act k.giver h a) (Gives_away k)
flow-acts base role x y down up shared act h r a (Is_given k) = follower-acts base role x y down up shared act k.taker (waiting base role x act k.taker h a) (Is_given k)

-- an act of an end that is up
stands-up : (base : ModelSetup) (role : Role) (x y : State) (f g : List Sending) (shared : Shared) (act : Act) → MayAct (reliable base) role x act → (act ≡ Releases → ⊥) → (act ≡ Aborts → ⊥) → x.phase ≡ Up → Standing (reliable base) role x y f g shared → Standing (reliable base) role (acted (reliable base) x act) y f (g ++ sendings shared.set (sent_by (reliable base) x act)) (shared_all Reliable role (sent_by (reliable base) x act) shared)
stands-up base role x y f g shared act h r a u j =
    let i = is-seen role x f g j.me j.up u j.sees_me in
    let live = sent-live (reliable base) x act shared.set r a in
    record {
      me = acted (reliable base) x act;
      peer = j.peer;
      down = j.down ++ sent_by (reliable base) x act;
      up = j.up;
      sees_me = Same refl i.comes (all-append IsLive g (sendings shared.set (sent_by (reliable base) x act)) i.live live);
      sees_peer = more (other role) y g f j.peer j.down shared.set (sent_by (reliable base) x act) (λ e. live-no_release (sendings shared.set (sent_by (reliable base) x act)) live) j.sees_peer;
      flow = flow-acts base role x j.peer j.down j.up shared act h r a (subst (λ z. Flowing (reliable base) role z j.peer j.down j.up shared) i.same j.flow);
    }

stands-aborts : (base : ModelSetup) (role : Role) (x y z : State) (f g : List Sending) (shared : Shared) → z.phase ≡ Over → x.outgoing ≡ z.outgoing → Standing (reliable base) role x y f g shared → Standing (reliable base) role z y f (g ++ (record { message = UserAbort; shared = shared.set } ∷ [])) shared
stands-aborts base role x y z f g shared over same j =
    record {
      me = j.me;
      peer = j.peer;
      down = j.down ++ (UserAbort ∷ []);
      up = j.up;
      sees_me = Gone over (seen-outgoing role x f g j.me j.up j.sees_me ∙ same);
      sees_peer = more (other role) y g f j.peer j.down shared.set (UserAbort ∷ []) (λ e. (tt, tt)) j.sees_peer;
      flow = flow-quiet (reliable base) role j.me j.peer j.down j.up shared UserAbort tt (inl refl) j.flow;
    }

quiet-no_release : (f : List Sending) → AllQuiet (messages f) → AllAre IsNoRelease f
quiet-no_release [] q = tt
quiet-no_release (s ∷ f) q = (go s.message q.0, quiet-no_release f q.1)
  where
    go : (m : Message) → IsQuiet m → IsNoRelease m
    go Release k = k
    go m k = tt

-- the initiator that leads releases
release-flow : (base : ModelSetup) (role : Role) (x y : State) (down up : List Message) (shared : Shared) → role ≡ Initiator → LeadOk x → FollowOk y → x.awaits ≡ NoAnswer → x.sets.own ≡ [] → x.outgoing.transfer ≡ None → FlowOf (reliable base) role x y down up shared → AllQuiet up × FlowOf (reliable base) role x y (down ++ (Release ∷ [])) up shared
release-flow base role x y down up shared r o p calm own none n = (
  subst₂ (λ w q. FlowOf (reliable base) role (state_with x w q x.outgoing.transfer) y down up shared → AllQuiet up) (sym calm) (sym own)
      (subst (λ t. FlowOf (reliable base) role (state_with x NoAnswer [] t) y down up shared → AllQuiet up) (sym none) quiet) n,
  subst₂ (λ w q. FlowOf (reliable base) role (state_with x w q x.outgoing.transfer) y down up shared → FlowOf (reliable base) role (state_with x w q x.outgoing.transfer) y (down ++ (Release ∷ [])) up shared) (sym calm) (sym own)
      (subst (λ t. FlowOf (reliable base) role (state_with x NoAnswer [] t) y down up shared → FlowOf (reliable base) role (state_with x NoAnswer [] t) y (down ++ (Release ∷ [])) up shared) (sym none)
      (sends_release (reliable base) role x.sets.held x.sets.inter x.outgoing.started x.incoming (follower_of y) y.outgoing.started y.outgoing.transfer down up shared.set shared.inter (saved_of role shared) (saved_of (other role) shared) r)) n,
)
  where
    quiet : FlowOf (reliable base) role (state_with x NoAnswer [] None) y down up shared → AllQuiet up
    quiet n =
        let a = at-rest (reliable base) role (Rest (leader_of (state_with x NoAnswer [] None))) down (follower_of y) up n.runs in
        quiet-part up a.more (quiet-rest None x.outgoing.started x.sets.held x.sets.inter (up ++ a.more) a.last tt a.rests.0).0

stands-releases : (base : ModelSetup) (role : Role) (x y : State) (f g : List Sending) (shared : Shared) → MayAct (reliable base) role x Releases → Standing (reliable base) role x y f g shared → Standing (reliable base) role (acted (reliable base) x Releases) y f (g ++ (record { message = Release; shared = shared.set } ∷ [])) shared
stands-releases base role x y f g shared h j =
    let i = is-seen role x f g j.me j.up h.is_free.is_up j.sees_me in
    by_flow i (subst (λ z. Flowing (reliable base) role z j.peer j.down j.up shared) i.same j.flow)
  where
    not_from : other role ≡ Initiator → ⊥
    not_from e = go role h.initiates e
      where
        go : (r : Role) → r ≡ Initiator → other r ≡ Initiator → ⊥
        go Initiator a b = cc
        go Responder a b = cc

    by_flow : IsSeen role x f g j.me j.up → Flowing (reliable base) role x j.peer j.down j.up shared → Standing (reliable base) role (acted (reliable base) x Releases) y f (g ++ (record { message = Release; shared = shared.set } ∷ [])) shared
    by_flow i (Leads o p n) =
        let r = release-flow base role x j.peer j.down j.up shared h.initiates o p h.is_free.is_calm h.is_settled h.in_mode.1 n in
        record {
          me = x;
          peer = j.peer;
          down = j.down ++ (Release ∷ []);
          up = j.up;
          sees_me = Leaves h.initiates refl refl (quiet-no_release f (subst AllQuiet i.comes r.0)) refl refl;
          sees_peer = more (other role) y g f j.peer j.down shared.set (Release ∷ []) (λ e. absurd (not_from e)) j.sees_peer;
          flow = Leads o p r.1;
        }
    by_flow i (Follows o p n) = absurd (true≢false (sym h.in_mode.0 ∙ o.turn))
    by_flow i (Gives_away k) = absurd (true≢false (sym h.in_mode.0 ∙ k.giver.turn))
    by_flow i (Is_given k) = absurd (true≢false (sym h.in_mode.0 ∙ k.taker.turn))

not-idle_of : (role : Role) (x : State) (f g : List Sending) (seen : State) (coming : List Message) → seen.phase ≡ Up → Sees role x f g seen coming → x.phase ≡ Idle → ⊥
not-idle_of role x f g seen coming u (Same e c l) i = let p : x.phase ≡ Up = ap (λ (z : State). z.phase) (sym e) ∙ u in cc
not-idle_of role x f g seen coming u (Joins set answer rest r p a e q m c l) i = subst IsBack i p
not-idle_of role x f g seen coming u (Leaves r p a l o q) i = cc
not-idle_of role x f g seen coming u (Gone p o) i = cc

not-broken_of : (role : Role) (x : State) (f g : List Sending) (seen : State) (coming : List Message) → seen.phase ≡ Up → Sees role x f g seen coming → x.phase ≡ Broken → ⊥
not-broken_of role x f g seen coming u (Same e c l) i = let p : x.phase ≡ Up = ap (λ (z : State). z.phase) (sym e) ∙ u in cc
not-broken_of role x f g seen coming u (Joins set answer rest r p a e q m c l) i = subst IsBack i p
not-broken_of role x f g seen coming u (Leaves r p a l o q) i = cc
not-broken_of role x f g seen coming u (Gone p o) i = cc

pub up-me : (setup : ModelSetup) (role : Role) (x y : State) (down up : List Message) (shared : Shared) → Flowing setup role x y down up shared → (x.phase ≡ Up) × (y.phase ≡ Up)
up-me setup role x y down up shared (Leads o p n) = (o.up, p.up)
up-me setup role x y down up shared (Follows o p n) = (o.up, p.up)
up-me setup role x y down up shared (Gives_away k) = (k.giver.up, k.taker.up)
up-me setup role x y down up shared (Is_given k) = (k.taker.up, k.giver.up)

-- what any act keeps
-- an end of an association that stands doesn't withdraw
stays-up : (base : ModelSetup) (role : Role) (x y : State) (f g : List Sending) (shared : Shared) → Standing (reliable base) role x y f g shared → (x.phase ≡ Idle) ⊎ ((x.phase ≡ Broken) × (role ≡ Initiator)) → ⊥
stays-up base role x y f g shared j (inl e) = not-idle_of role x f g j.me j.up (up-me (reliable base) role j.me j.peer j.down j.up shared j.flow).0 j.sees_me e
stays-up base role x y f g shared j (inr e) = not-broken_of role x f g j.me j.up (up-me (reliable base) role j.me j.peer j.down j.up shared j.flow).0 j.sees_me e.0

pub stands-acts : (base : ModelSetup) (role : Role) (x y : State) (f g : List Sending) (shared : Shared) (act : Act) → MayAct (reliable base) role x act → Standing (reliable base) role x y f g shared → Standing (reliable base) role (acted (reliable base) x act) y f (g ++ sendings shared.set (sent_by (reliable base) x act)) (shared_all Reliable role (sent_by (reliable base) x act) shared)
stands-acts base role x y f g shared Connects h j = absurd (not-idle_of role x f g j.me j.up (up-me (reliable base) role j.me j.peer j.down j.up shared j.flow).0 j.sees_me h.is_idle)
stands-acts base role x y f g shared Recovers h j = absurd (not-broken_of role x f g j.me j.up (up-me (reliable base) role j.me j.peer j.down j.up shared j.flow).0 j.sees_me h.is_broken)
stands-acts base role x y f g shared (SaysValue value) h j = absurd (h.at_once refl)
stands-acts base role x y f g shared (Queues context apdu) h j = stands-up base role x y f g shared (Queues context apdu) h (λ e. cc) (λ e. cc) h.is_up j
stands-acts base role x y f g shared Drops h j = absurd (h.at_once refl)
stands-acts base role x y f g shared (Alters items) h j = stands-up base role x y f g shared (Alters items) h (λ e. cc) (λ e. cc) h.is_free.is_up j
stands-acts base role x y f g shared Marks h j = stands-up base role x y f g shared Marks h (λ e. cc) (λ e. cc) h.leads.is_free.is_up j
stands-acts base role x y f g shared GivesTurn h j = stands-up base role x y f g shared GivesTurn h (λ e. cc) (λ e. cc) h.leads.is_free.is_up j
stands-acts base role x y f g shared (Pleads priority) h j = stands-up base role x y f g shared (Pleads priority) h (λ e. cc) (λ e. cc) h.is_free.is_up j
stands-acts base role x y f g shared (Restarts number) h j = absurd (let e = h.is_direct in cc)
stands-acts base role x y f g shared Starts h j = stands-up base role x y f g shared Starts h (λ e. cc) (λ e. cc) h.leads.is_free.is_up j
stands-acts base role x y f g shared (Encodes context) h j = stands-up base role x y f g shared (Encodes context) h (λ e. cc) (λ e. cc) h.leads.is_free.is_up j
stands-acts base role x y f g shared (Sends octets) h j = stands-up base role x y f g shared (Sends octets) h (λ e. cc) (λ e. cc) h.leads.is_free.is_up j
stands-acts base role x y f g shared EndsActivity h j = stands-up base role x y f g shared EndsActivity h (λ e. cc) (λ e. cc) h.leads.is_free.is_up j
stands-acts base role x y f g shared Interrupts h j = stands-up base role x y f g shared Interrupts h (λ e. cc) (λ e. cc) h.is_free.is_up j
stands-acts base role x y f g shared Discards h j = stands-up base role x y f g shared Discards h (λ e. cc) (λ e. cc) h.is_free.is_up j
stands-acts base role x y f g shared Resumes h j = stands-up base role x y f g shared Resumes h (λ e. cc) (λ e. cc) h.leads.is_free.is_up j
stands-acts base role x y f g shared Releases h j = stands-releases base role x y f g shared h j
stands-acts base role x y f g shared Aborts h j = stands-aborts base role x y (acted (reliable base) x Aborts) f g shared refl refl j
stands-acts base role x y f g shared Withdraws h j = absurd (stays-up base role x y f g shared j (withdraws-in role x.phase h.in_phase))
stands-acts base role x y f g shared TransportFails h j = absurd (stays-up base role x y f g shared j (withdraws-in role x.phase h.in_phase))
