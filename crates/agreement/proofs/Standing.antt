-- Reliable mode on a connection: each end as it is or will be, and what its acts keep.
use Rattle.std.proofs.Common.{◌≡◌, ℕ, zero, suc, Bool, true, false, ◌||◌, nat_eq, List, [], ◌∷◌, ◌++◌, refl, sym, ap, ◌∙◌, true≢false, subst, subst₂}
use Rattle.std.specs.Prelude.{Option, Some, None}
use Rattle.agreement.specs.Sets.{Role, other, ContextSet, Item, lookup, Saved, below, newest, AllMayAsk, Pair, is_among}
use Rattle.agreement.specs.Sets.Role.{Initiator, Responder}
use Rattle.agreement.specs.Sets.Item.{Addition, Deletion}
use Rattle.std.proofs.lemmas.Bool.{eqb-false}
use Rattle.agreement.specs.Messages.{Value, ModelSetup, Message, Act}
use Rattle.agreement.specs.Messages.Mode.{Reliable}
use Rattle.agreement.specs.Messages.Act.{Connects, Recovers, SaysValue, Queues, Drops, Alters, Marks, GivesTurn, Pleads, Restarts, Starts, Encodes, Sends, EndsActivity, Interrupts, Discards, Resumes, Releases, Aborts, Withdraws, TransportFails}
use Rattle.agreement.specs.Messages.Message.{Accept, Alter, Give, GiveAnswer, Please, Release, UserAbort}
use Rattle.agreement.specs.State.{Awaited, Progress, Handed, Transfer, Incoming, State, up_to, highest, joined, joined_with}
use Rattle.agreement.specs.State.Phase.{Up, Releasing, Over}
use Rattle.agreement.specs.State.Awaited.{NoAnswer, ReleaseOf}
use Rattle.agreement.specs.State.Progress.{Running, Ending, Suspended}
use Rattle.agreement.specs.Acts.{MayAct, acted, sent_by, RestsOrNone, IsNotEnding, MayWithdrawIn, OnEncoded, IsWritable, value_on, used}
use Rattle.agreement.specs.Takings.{IsBack}
use Rattle.agreement.specs.Worlds.{Sending, Shared, saved_of, saving, shared_all}
use Rattle.agreement.proofs.Flights.{AreSound}
use Rattle.agreement.proofs.Names.{IsUntouched, untouched-append}
use Rattle.agreement.proofs.Pieces.{saved_in, saved-up_to, newest-saved}
use Rattle.agreement.proofs.Views.{IsLive, IsNoRelease, AllAre}
use Rattle.agreement.proofs.Down.{Follower, AllQuiet, Down, AllFlat}
use Rattle.agreement.proofs.Flow.{Leader, PairedIn, Rest, RestOf, RestBy, RestIn, SavedIn, Flow, RestsNow, IsOpen, RunsValue, ValueIn, alters_in, unanswered-none, ups-quiet}
use Rattle.agreement.proofs.Leads.{sends_chunk, sends_mark, starts, encodes, sends_end, sends_interrupt, sends_discard, resumes, alters, shared-held}

abbrev pub reliable : ModelSetup → ModelSetup
reliable base = record base { mode = Reliable }

abbrev pub leader_of : State → Leader
leader_of x = record { awaits = x.awaits; sets = x.sets; started = x.outgoing.started; transfer = x.outgoing.transfer }

abbrev pub follower_of : State → Follower
follower_of y = record { held = y.sets.held; inter = y.sets.inter; incoming = y.incoming; gave = y.gave }

abbrev pub messages : List Sending → List Message
messages [] = []
messages (s ∷ flight) = s.message ∷ messages flight

pub record LeadOk (x : State) : Type 0 where
  pub up : x.phase ≡ Up
  pub turn : x.turn ≡ true
  pub gave : x.gave ≡ false

pub record FollowOk (y : State) : Type 0 where
  pub up : y.phase ≡ Up
  pub turn : y.turn ≡ false
  pub calm : y.awaits ≡ NoAnswer
  pub own : y.sets.own ≡ []
  pub rests : RestsOrNone y.outgoing.transfer

-- the flow with its leader first
abbrev pub FlowOf : ModelSetup → Role → State → State → List Message → List Message → Shared → Type 0
FlowOf setup role x y down up shared =
    Flow setup role (leader_of x) x.incoming (follower_of y) y.outgoing.started y.outgoing.transfer down up shared.set shared.inter (saved_of role shared) (saved_of (other role) shared)

-- before a giving only confirmed givings, pleas and the like are on their way
abbrev pub Calm : Role → Bool → List Message → Type 0
Calm from gave [] = gave ≡ false
Calm from gave (GiveAnswer ∷ down) = (gave ≡ true) × Calm from false down
Calm from gave (Release ∷ down) = (from ≡ Initiator) × Calm from gave down
Calm from gave (Please priority ∷ down) = Calm from gave down
Calm from gave (UserAbort ∷ down) = Calm from gave down
Calm from gave (message ∷ down) = ⊥

-- x gave the turn, and y is yet to take it
pub record Giving (setup : ModelSetup) (role : Role) (x y : State) (down up : List Message) (shared : Shared) : Type 0 where
  pub before : List Message
  pub behind : List Message
  pub shape : down ≡ before ++ (Give ∷ behind)
  pub calm : Calm role y.gave before
  pub quiet_behind : AllQuiet behind
  pub quiet_up : AllQuiet up
  pub giver : FollowOk x
  pub taker : FollowOk y
  pub gave : x.gave ≡ true
  pub inactive_giver : x.incoming.active ≡ false
  pub inactive_taker : y.incoming.active ≡ false
  pub held : x.sets.held ≡ y.sets.held
  pub inter : x.sets.inter ≡ y.sets.inter
  pub set : shared.set ≡ x.sets.held
  pub shared_inter : shared.inter ≡ x.sets.inter
  pub pairs : PairedIn x.outgoing.transfer x.outgoing.started y.incoming
  pub others : PairedIn y.outgoing.transfer y.outgoing.started x.incoming
  pub saved : SavedIn setup x.outgoing.transfer (saved_of role shared)
  pub theirs : SavedIn setup y.outgoing.transfer (saved_of (other role) shared)

-- of two ends, x of this role, with what goes from x to y and what comes from y to x
pub data Flowing (setup : ModelSetup) (role : Role) (x y : State) (down up : List Message) (shared : Shared) : Type 0 where
  Leads : LeadOk x → FollowOk y → FlowOf setup role x y down up shared → Flowing setup role x y down up shared
  Follows : FollowOk x → LeadOk y → Flow setup (other role) (leader_of y) y.incoming (follower_of x) x.outgoing.started x.outgoing.transfer up down shared.set shared.inter (saved_of (other role) shared) (saved_of role shared) → Flowing setup role x y down up shared
  Gives_away : Giving setup role x y down up shared → Flowing setup role x y down up shared
  Is_given : Giving setup (other role) y x up down shared → Flowing setup role x y down up shared

-- an end as it is, or as it will be once it took its acceptance; of an end that is leaving or over
-- nothing is said
pub data Sees (role : Role) (x : State) (f g : List Sending) (seen : State) (coming : List Message) : Type 0 where
  Same : seen ≡ x → coming ≡ messages f → AllAre IsLive g → Sees role x f g seen coming
  Joins : (set : ContextSet) → (answer : Sending) → (rest : List Sending) → role ≡ Initiator → IsBack x.phase → x.awaits ≡ NoAnswer → seen ≡ joined_with Reliable role set x → f ≡ answer ∷ rest → answer.message ≡ Accept set → coming ≡ messages rest → AllAre IsLive g → Sees role x f g seen coming
  Leaves : role ≡ Initiator → x.phase ≡ Releasing → x.awaits ≡ ReleaseOf → AllAre IsNoRelease f → seen.outgoing ≡ x.outgoing → seen.incoming ≡ x.incoming → Sees role x f g seen coming
  Gone : x.phase ≡ Over → seen.outgoing ≡ x.outgoing → Sees role x f g seen coming

-- f comes to x, g to y
pub record Standing (setup : ModelSetup) (role : Role) (x y : State) (f g : List Sending) (shared : Shared) : Type 0 where
  pub me : State
  pub peer : State
  pub down : List Message
  pub up : List Message
  pub sees_me : Sees role x f g me up
  pub sees_peer : Sees (other role) y g f peer down
  pub flow : Flowing setup role me peer down up shared

-- a leader with the fields that its acts read
abbrev pub state_with : State → Awaited → List (List Item) → Option Transfer → State
state_with x w own t = record x { awaits = w; sets = record x.sets { own = own }; outgoing = record x.outgoing { transfer = t } }

-- what the sending of a message of itself makes of the shared set, for the flow
abbrev pub After : ModelSetup → Role → State → State → List Message → List Message → Shared → Act → Type 0
After base role x y down up shared act =
    Flowing (reliable base) role (acted (reliable base) x act) y (down ++ sent_by (reliable base) x act) up (shared_all Reliable role (sent_by (reliable base) x act) shared)

pub nil-messages : (xs : List Message) → xs ++ [] ≡ xs
nil-messages [] = refl
nil-messages (x ∷ xs) = ap (λ ys. x ∷ ys) (nil-messages xs)

-- the marks of this end's activity, saved
saves : (setup : ModelSetup) (role : Role) (l : Leader) (lin : Incoming) (y : Follower) (yc : ℕ) (yt : Option Transfer) (down up : List Message) (set mid : ContextSet) (marks : List Saved) (shared : Shared) → Flow setup role l lin y yc yt down up set mid marks (saved_of (other role) shared) → Flow setup role l lin y yc yt down up (saving role marks (record shared { set = set; inter = mid })).set (saving role marks (record shared { set = set; inter = mid })).inter (saved_of role (saving role marks (record shared { set = set; inter = mid }))) (saved_of (other role) (saving role marks (record shared { set = set; inter = mid })))
saves setup Initiator l lin y yc yt down up set mid marks shared n = n
saves setup Responder l lin y yc yt down up set mid marks shared n = n

-- an alteration touches no context in use
used-head : (k : ℕ) (rest : List ℕ) (items : List Item) (role : Role) (held : ContextSet) (p : Pair) → lookup held k ≡ Some p → AllMayAsk role held (k ∷ rest) items → IsUntouched k items
used-head k rest [] role held p e a = tt
used-head k rest (Addition j o ∷ items) role held p e a = (λ same. clash (sym (ap (lookup held) same) ∙ a.0.1), used-head k rest items role held p e a.1)
  where
    clash : lookup held k ≡ None → ⊥
    clash f = cc
used-head k rest (Deletion j ∷ items) role held p e a = (eqb-false j k (left (nat_eq j k) (is_among j rest) a.0.1), used-head k rest items role held p e a.1)
  where
    left : (b c : Bool) → (b || c) ≡ false → b ≡ false
    left true c e = absurd (true≢false e)
    left false c e = refl

sound-asked : (role : Role) (held : ContextSet) (used : List ℕ) (items : List Item) → AllMayAsk role held used items → AreSound role held items
sound-asked role held used [] m = tt
sound-asked role held used (Addition k o ∷ items) m = (m.0, sound-asked role held used items m.1)
sound-asked role held used (Deletion k ∷ items) m = (m.0.0, sound-asked role held used items m.1)

keeps-value : (x : State) (role : Role) (own : List (List Item)) (t : Option Transfer) (items : List Item) → AllMayAsk role x.sets.held (used Reliable (state_with x NoAnswer own t)) items → RunsValue NoAnswer t (record x.sets { own = own }) → RunsValue NoAnswer t (record x.sets { own = own ++ (items ∷ []) })
keeps-value x role own None items a v = tt
keeps-value x role own (Some t) items a v = go t.progress t.value a v
  where
    go : (p : Progress) (value : Option Value) → AllMayAsk role x.sets.held (used Reliable (state_with x NoAnswer own (Some (record t { value = value; progress = p })))) items → ValueIn p value (record x.sets { own = own }) → ValueIn p value (record x.sets { own = own ++ (items ∷ []) })
    go Running None a v = tt
    go Running (Some w) a v = (v.0, untouched-append w.identifier own items v.1 (used-head w.identifier _ items role x.sets.held w.pair v.0 a))
    go Ending value a v = tt
    go Suspended value a v = tt

not-ending : (t : Option Transfer) → IsNotEnding t → IsOpen NoAnswer t
not-ending None h = tt
not-ending (Some t) h = h

-- what stands for a running transfer stands for one in progress
abbrev pub put : Transfer → Option Value → Progress → Option Transfer
put t value p = Some (record t { value = value; progress = p })

-- a leader with no own alteration and no activity: what is on its way is calm
flat-calm : (setup : ModelSetup) (role : Role) (l : Leader) (down : List Message) (y : Follower) (up : List Message) → AllFlat down → alters_in down ≡ [] → Down setup role (Rest l) down y up → Calm role y.gave down × RestOf l up (record y { gave = false })
flat-calm setup role l [] y up f a h = (h.2, (subst (λ g. RestBy l.awaits l.transfer l up (record y { gave = g })) h.2 h.0, h.1, refl))
flat-calm setup role l (Alter items ∷ d) y up f a h = absurd (cc)
flat-calm setup role l (GiveAnswer ∷ d) y up f a h = let r = flat-calm setup role l d (record y { gave = false }) up f.1 a h.1 in ((h.0, r.0), r.1)
flat-calm setup role l (Release ∷ d) y up f a h = let r = flat-calm setup role l d y up f.1 a h.2 in ((h.0, r.0), r.1)
flat-calm setup role l (Please p ∷ d) y up f a h = flat-calm setup role l d y up f.1 a h
flat-calm setup role l (UserAbort ∷ d) y up f a h = flat-calm setup role l d y up f.1 a h
flat-calm setup role l (m ∷ d) y up f a h = absurd f.0

rests-now : (t : Option Transfer) → RestsOrNone t → RestsNow NoAnswer t × IsOpen NoAnswer t
rests-now None r = (tt, tt)
rests-now (Some t) r = (r, λ e. clash (sym r ∙ e))
  where
    clash : Suspended ≡ Ending → ⊥
    clash e = cc

pub quiet-rest : (t : Option Transfer) (c : ℕ) (held inter : ContextSet) (up : List Message) (y : Follower) → RestsOrNone t → RestBy NoAnswer t (record { awaits = NoAnswer; sets = record { held = held; inter = inter; own = [] }; started = c; transfer = t }) up y → AllQuiet up × (held ≡ y.held) × (y.incoming.active ≡ false)
quiet-rest None c held inter up y r h = let q = ups-quiet held inter up y.held h.0 in (q.0, q.1, h.1)
quiet-rest (Some t) c held inter up y r h = go t.progress r h
  where
    go : (p : Progress) → p ≡ Suspended → RestIn p t (record { awaits = NoAnswer; sets = record { held = held; inter = inter; own = [] }; started = c; transfer = Some t }) up y → AllQuiet up × (held ≡ y.held) × (y.incoming.active ≡ false)
    go Suspended e h = let q = ups-quiet held inter up y.held h.0 in (q.0, q.1, h.1)
    go Running e h = absurd (cc)
    go Ending e h = absurd (cc)

gives-away : (base : ModelSetup) (role : Role) (x y : State) (t : Option Transfer) (down up : List Message) (shared : Shared) → LeadOk x → FollowOk y → RestsOrNone t → FlowOf (reliable base) role (state_with x NoAnswer [] t) y down up shared → Giving (reliable base) role (record (state_with x NoAnswer [] t) { turn = false; gave = true }) y (down ++ (Give ∷ [])) up shared
gives-away base role x y t down up shared o p r n =
    let w = rests-now t r in
    let c = flat-calm (reliable base) role (leader_of (state_with x NoAnswer [] t)) down (follower_of y) up (n.idle w.0) (n.asks refl ∙ unanswered-none up) n.runs in
    let q = quiet-rest t x.outgoing.started x.sets.held x.sets.inter up (record (follower_of y) { gave = false }) r c.1.0 in
    record {
      before = down;
      behind = [];
      shape = refl;
      calm = c.0;
      quiet_behind = tt;
      quiet_up = q.0;
      giver = record { up = o.up; turn = refl; calm = refl; own = refl; rests = r };
      taker = p;
      gave = refl;
      inactive_giver = n.rests;
      inactive_taker = q.2;
      held = q.1;
      inter = sym c.1.1;
      set = shared-held (reliable base) role t x.sets.held x.sets.inter x.outgoing.started x.incoming (follower_of y) y.outgoing.started y.outgoing.transfer down up shared.set shared.inter (saved_of role shared) (saved_of (other role) shared) w.1 n;
      shared_inter = n.inters;
      pairs = n.pairs;
      others = n.others;
      saved = n.saved;
      theirs = n.theirs_saved;
    }

-- an interrupt, a discard
pub interrupts-act : (base : ModelSetup) (role : Role) (x y : State) (own : List (List Item)) (t : Transfer) (down up : List Message) (shared : Shared) → LeadOk x → FollowOk y → t.progress ≡ Running → FlowOf (reliable base) role (state_with x NoAnswer own (Some t)) y down up shared → After base role (state_with x NoAnswer own (Some t)) y down up shared Interrupts
interrupts-act base role x y own t down up shared o p e n =
    subst (λ q. FlowOf (reliable base) role (state_with x NoAnswer own (put t t.value q)) y down up shared → After base role (state_with x NoAnswer own (put t t.value q)) y down up shared Interrupts) (sym e)
    (λ n. Leads (record { up = o.up; turn = o.turn; gave = o.gave }) p
    (sends_interrupt (reliable base) role (record x.sets { own = own }) x.outgoing.started t x.incoming (follower_of y) y.outgoing.started y.outgoing.transfer down up shared.set shared.inter (saved_of role shared) (saved_of (other role) shared) n)) n

pub discards-act : (base : ModelSetup) (role : Role) (x y : State) (own : List (List Item)) (t : Transfer) (down up : List Message) (shared : Shared) → LeadOk x → FollowOk y → t.progress ≡ Running → FlowOf (reliable base) role (state_with x NoAnswer own (Some t)) y down up shared → After base role (state_with x NoAnswer own (Some t)) y down up shared Discards
discards-act base role x y own t down up shared o p e n =
    subst (λ q. FlowOf (reliable base) role (state_with x NoAnswer own (put t t.value q)) y down up shared → After base role (state_with x NoAnswer own (put t t.value q)) y down up shared Discards) (sym e)
    (λ n. Leads (record { up = o.up; turn = o.turn; gave = o.gave }) p
    (sends_discard (reliable base) role (record x.sets { own = own }) x.outgoing.started t x.incoming (follower_of y) y.outgoing.started y.outgoing.transfer down up shared.set shared.inter (saved_of role shared) (saved_of (other role) shared) n)) n

-- a suspended transfer is resumed
resumes-act : (base : ModelSetup) (role : Role) (x y : State) (t : Transfer) (j : ℕ) (down up : List Message) (shared : Shared) → LeadOk x → FollowOk y → FlowOf (reliable base) role (state_with x NoAnswer [] (Some (record t { confirmed = j; progress = Suspended }))) y down up shared → After base role (state_with x NoAnswer [] (Some (record t { confirmed = j; progress = Suspended }))) y down up shared Resumes
resumes-act base role x y t zero down up shared o p n =
    Leads (record { up = o.up; turn = o.turn; gave = o.gave }) p
    (saves (reliable base) role _ _ _ _ _ _ _ shared.set shared.set [] shared
    (resumes (reliable base) role x.sets.held x.sets.inter x.outgoing.started (record t { confirmed = 0 }) x.incoming (follower_of y) y.outgoing.started y.outgoing.transfer down up shared.set shared.inter (saved_of role shared) (saved_of (other role) shared) 0 refl shared.set refl [] refl n))
resumes-act base role x y t (suc j) down up shared o p n =
    let cut : below (suc (suc j)) (saved_of role shared) ≡ saved_in (up_to (suc j) t.pieces) = ap (below (suc (suc j))) n.saved.1 ∙ sym (saved-up_to (suc j) t.pieces n.saved.0 n.saved.2) in
    Leads (record { up = o.up; turn = o.turn; gave = o.gave }) p
    (saves (reliable base) role _ _ _ _ _ _ _ (newest (below (suc (suc j)) (saved_of role shared))) shared.set (below (suc (suc j)) (saved_of role shared)) shared
    (resumes (reliable base) role x.sets.held x.sets.inter x.outgoing.started (record t { confirmed = suc j }) x.incoming (follower_of y) y.outgoing.started y.outgoing.transfer down up shared.set shared.inter (saved_of role shared) (saved_of (other role) shared) (suc j) refl
    (newest (below (suc (suc j)) (saved_of role shared))) (ap newest cut ∙ sym (newest-saved (up_to (suc j) t.pieces))) (below (suc (suc j)) (saved_of role shared)) cut n))

starts-act : (base : ModelSetup) (role : Role) (x y : State) (queue : List Handed) (down up : List Message) (shared : Shared) → LeadOk x → FollowOk y → (queue ≡ [] → ⊥) → FlowOf (reliable base) role (state_with x NoAnswer [] None) y down up shared → After base role (record (state_with x NoAnswer [] None) { outgoing = record { started = x.outgoing.started; transfer = None; queue = queue } }) y down up shared Starts
starts-act base role x y [] down up shared o p h n = absurd (h refl)
starts-act base role x y (item ∷ queue) down up shared o p h n =
    Leads (record { up = o.up; turn = o.turn; gave = o.gave }) p
    (saves (reliable base) role _ _ _ _ _ _ _ shared.set shared.set [] shared
    (starts (reliable base) role x.sets.held x.sets.inter x.outgoing.started item x.incoming (follower_of y) y.outgoing.started y.outgoing.transfer down up shared.set shared.inter (saved_of role shared) (saved_of (other role) shared) n))

encodes-act : (base : ModelSetup) (role : Role) (x y : State) (t : Transfer) (context : ℕ) (found : Option Pair) (down up : List Message) (shared : Shared) → LeadOk x → FollowOk y → lookup x.sets.held context ≡ found → IsWritable base.codec (value_on context t.item found) → FlowOf (reliable base) role (state_with x NoAnswer [] (put t None Running)) y down up shared → After base role (state_with x NoAnswer [] (put t None Running)) y down up shared (Encodes context)
encodes-act base role x y t context None down up shared o p e f n = absurd f
encodes-act base role x y t context (Some pair) down up shared o p e f n =
    Leads (record { up = o.up; turn = o.turn; gave = o.gave }) p
    (subst (λ d. FlowOf (reliable base) role (state_with x NoAnswer [] (put t (value_on context t.item (lookup x.sets.held context)) Running)) y d up shared) (sym (nil-messages down))
    (subst (λ l. FlowOf (reliable base) role (state_with x NoAnswer [] (put t (value_on context t.item l) Running)) y down up shared) (sym e)
    (encodes (reliable base) role x.sets.held x.sets.inter x.outgoing.started t (record { identifier = context; pair = pair; apdu = t.item.apdu }) x.incoming (follower_of y) y.outgoing.started y.outgoing.transfer down up shared.set shared.inter (saved_of role shared) (saved_of (other role) shared) e f n)))

-- the leader asks for an alteration
pub alters-act : (base : ModelSetup) (role : Role) (x y : State) (own : List (List Item)) (t : Option Transfer) (items : List Item) (down up : List Message) (shared : Shared) → LeadOk x → FollowOk y → MayAct (reliable base) role (state_with x NoAnswer own t) (Alters items) → FlowOf (reliable base) role (state_with x NoAnswer own t) y down up shared → After base role (state_with x NoAnswer own t) y down up shared (Alters items)
alters-act base role x y own t items down up shared o p h n =
    Leads (record { up = o.up; turn = o.turn; gave = o.gave }) p
    (alters (reliable base) role x.sets.held x.sets.inter own x.outgoing.started t items x.incoming (follower_of y) y.outgoing.started y.outgoing.transfer down up shared.set shared.inter (saved_of role shared) (saved_of (other role) shared)
    (not-ending t h.in_mode.1) (sound-asked role x.sets.held (used Reliable (state_with x NoAnswer own t)) items h.may_ask) h.once (keeps-value x role own t items h.may_ask n.value) n)

-- what the leader does while it awaits nothing and has no own alteration
pub lead-acts : (base : ModelSetup) (role : Role) (x y : State) (t : Option Transfer) (down up : List Message) (shared : Shared) (act : Act) → LeadOk x → FollowOk y → MayAct (reliable base) role (state_with x NoAnswer [] t) act → FlowOf (reliable base) role (state_with x NoAnswer [] t) y down up shared → (act ≡ Releases → ⊥) → (act ≡ Aborts → ⊥) → After base role (state_with x NoAnswer [] t) y down up shared act
lead-acts base role x y t down up shared Connects o p h n r a = absurd (let e = h.is_idle in let f = o.up in cc)
lead-acts base role x y t down up shared Recovers o p h n r a = absurd (let e = h.is_broken in let f = o.up in cc)
lead-acts base role x y t down up shared (SaysValue value) o p h n r a = absurd (h.at_once refl)
lead-acts base role x y t down up shared (Queues context apdu) o p h n r a =
    Leads (record { up = o.up; turn = o.turn; gave = o.gave }) p (subst (λ d. FlowOf (reliable base) role (state_with x NoAnswer [] t) y d up shared) (sym (nil-messages down)) n)
lead-acts base role x y t down up shared Drops o p h n r a = absurd (h.at_once refl)
lead-acts base role x y t down up shared (Alters items) o p h n r a = alters-act base role x y [] t items down up shared o p h n
lead-acts base role x y None down up shared Marks o p h n r a = absurd h.in_mode.0
lead-acts base role x y (Some t) down up shared Marks o p h n r a = by_value t.value h.in_mode.0.1 n
  where
    runs : (v : Value) → FlowOf (reliable base) role (state_with x NoAnswer [] (put t (Some v) Running)) y down up shared → After base role (state_with x NoAnswer [] (put t (Some v) Running)) y down up shared Marks
    runs v n =
        Leads (record { up = o.up; turn = o.turn; gave = o.gave }) p
        (saves (reliable base) role _ _ _ _ _ _ _ shared.set shared.inter (record { number = suc (highest t.pieces); set = shared.set } ∷ saved_of role shared) shared
        (sends_mark (reliable base) role x.sets.held x.sets.inter x.outgoing.started t v x.incoming (follower_of y) y.outgoing.started y.outgoing.transfer down up shared.set shared.inter (saved_of role shared) (saved_of (other role) shared) h.in_mode.1 n))

    by_value : (value : Option Value) → OnEncoded (λ sent all. Unit {0}) base.codec t.pieces value → FlowOf (reliable base) role (state_with x NoAnswer [] (put t value t.progress)) y down up shared → After base role (state_with x NoAnswer [] (put t value t.progress)) y down up shared Marks
    by_value None b n = absurd b
    by_value (Some v) b n = subst (λ q. FlowOf (reliable base) role (state_with x NoAnswer [] (put t (Some v) q)) y down up shared → After base role (state_with x NoAnswer [] (put t (Some v) q)) y down up shared Marks) (sym h.in_mode.0.0) (runs v) n
lead-acts base role x y t down up shared GivesTurn o p h n r a = Gives_away (gives-away base role x y t down up shared o p h.in_mode n)
lead-acts base role x y t down up shared (Pleads priority) o p h n r a = absurd (true≢false (sym o.turn ∙ h.lacks_turn))
lead-acts base role x y t down up shared (Restarts number) o p h n r a = absurd (let e = h.is_direct in cc)
lead-acts base role x y None down up shared Starts o p h n r a = starts-act base role x y x.outgoing.queue down up shared o p h.has_item n
lead-acts base role x y (Some t) down up shared Starts o p h n r a = absurd (let e = h.is_first in cc)
lead-acts base role x y None down up shared (Encodes context) o p h n r a = absurd h.is_due
lead-acts base role x y (Some t) down up shared (Encodes context) o p h n r a =
    subst₂ (λ q value. FlowOf (reliable base) role (state_with x NoAnswer [] (put t value q)) y down up shared → After base role (state_with x NoAnswer [] (put t value q)) y down up shared (Encodes context)) (sym h.is_due.0) (sym h.is_due.1)
    (encodes-act base role x y t context (lookup x.sets.held context) down up shared o p refl h.is_writable) n
lead-acts base role x y None down up shared (Sends octets) o p h n r a = absurd h.is_next
lead-acts base role x y (Some t) down up shared (Sends octets) o p h n r a = by_value t.value h.is_next.1 n
  where
    runs : (v : Value) → FlowOf (reliable base) role (state_with x NoAnswer [] (put t (Some v) Running)) y down up shared → After base role (state_with x NoAnswer [] (put t (Some v) Running)) y down up shared (Sends octets)
    runs v n =
        Leads (record { up = o.up; turn = o.turn; gave = o.gave }) p
        (sends_chunk (reliable base) role (record x.sets { own = [] }) x.outgoing.started t v octets x.incoming (follower_of y) y.outgoing.started y.outgoing.transfer down up shared.set shared.inter (saved_of role shared) (saved_of (other role) shared) h.is_within n)

    by_value : (value : Option Value) → OnEncoded (λ sent all. (rest : List ℕ) × ((sent ++ octets) ++ rest ≡ all)) base.codec t.pieces value → FlowOf (reliable base) role (state_with x NoAnswer [] (put t value t.progress)) y down up shared → After base role (state_with x NoAnswer [] (put t value t.progress)) y down up shared (Sends octets)
    by_value None b n = absurd b
    by_value (Some v) b n = subst (λ q. FlowOf (reliable base) role (state_with x NoAnswer [] (put t (Some v) q)) y down up shared → After base role (state_with x NoAnswer [] (put t (Some v) q)) y down up shared (Sends octets)) (sym h.is_next.0) (runs v) n
lead-acts base role x y None down up shared EndsActivity o p h n r a = absurd h.is_whole
lead-acts base role x y (Some t) down up shared EndsActivity o p h n r a = by_value t.value h.is_whole.1 n
  where
    runs : (v : Value) → joined t.pieces ≡ base.codec.written v → FlowOf (reliable base) role (state_with x NoAnswer [] (put t (Some v) Running)) y down up shared → After base role (state_with x NoAnswer [] (put t (Some v) Running)) y down up shared EndsActivity
    runs v w n =
        Leads (record { up = o.up; turn = o.turn; gave = o.gave }) p
        (sends_end (reliable base) role x.sets.held x.sets.inter x.outgoing.started t v x.incoming (follower_of y) y.outgoing.started y.outgoing.transfer down up shared.set shared.inter (saved_of role shared) (saved_of (other role) shared) w n)

    by_value : (value : Option Value) → OnEncoded (λ sent all. sent ≡ all) base.codec t.pieces value → FlowOf (reliable base) role (state_with x NoAnswer [] (put t value t.progress)) y down up shared → After base role (state_with x NoAnswer [] (put t value t.progress)) y down up shared EndsActivity
    by_value None b n = absurd b
    by_value (Some v) b n = subst (λ q. FlowOf (reliable base) role (state_with x NoAnswer [] (put t (Some v) q)) y down up shared → After base role (state_with x NoAnswer [] (put t (Some v) q)) y down up shared EndsActivity) (sym h.is_whole.0) (runs v b) n
lead-acts base role x y None down up shared Interrupts o p h n r a = absurd h.runs
lead-acts base role x y (Some t) down up shared Interrupts o p h n r a = interrupts-act base role x y [] t down up shared o p h.runs n
lead-acts base role x y None down up shared Discards o p h n r a = absurd h.runs
lead-acts base role x y (Some t) down up shared Discards o p h n r a = discards-act base role x y [] t down up shared o p h.runs n
lead-acts base role x y None down up shared Resumes o p h n r a = absurd h.rests
lead-acts base role x y (Some t) down up shared Resumes o p h n r a =
    subst (λ q. FlowOf (reliable base) role (state_with x NoAnswer [] (put t t.value q)) y down up shared → After base role (state_with x NoAnswer [] (put t t.value q)) y down up shared Resumes) (sym h.rests)
    (resumes-act base role x y t t.confirmed down up shared o p) n
lead-acts base role x y t down up shared Releases o p h n r a = absurd (r refl)
lead-acts base role x y t down up shared Aborts o p h n r a = absurd (a refl)
lead-acts base role x y t down up shared Withdraws o p h n r a = absurd (subst (MayWithdrawIn role) o.up h.in_phase)
lead-acts base role x y t down up shared TransportFails o p h n r a = absurd (subst (MayWithdrawIn role) o.up h.in_phase)
