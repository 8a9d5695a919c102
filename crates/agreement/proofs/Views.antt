-- Direct mode once an association was accepted: each end as it is, and as it will be once it took
-- what decides its restart.
use Rattle.std.proofs.Common.{◌≡◌, ℕ, ◌≤◌, true, List, [], ◌∷◌, ◌++◌, refl, sym, ap, ◌∙◌, subst, append_assoc, inl, inr, ◌⊎◌}
use Rattle.agreement.specs.Sets.{Role, other, ContextSet, Listed, Saved, listed, below, newest, next_number}
use Rattle.agreement.specs.Sets.Role.{Initiator, Responder}
use Rattle.agreement.specs.Messages.{ModelSetup, Message}
use Rattle.agreement.specs.Messages.Mode.{Direct}
use Rattle.agreement.specs.Messages.Message.{Accept, Data, Alter, AlterAnswer, Mark, Restart, RestartAnswer, Give, Please, Release, UserAbort}
use Rattle.agreement.specs.State.{Phase, State, joined_with}
use Rattle.agreement.specs.State.Phase.{Idle, Opening, Up, Releasing, Broken, Over}
use Rattle.agreement.specs.State.Awaited.{NoAnswer, RestartOf, ReleaseOf}
use Rattle.agreement.specs.Acts.{MayWithdrawIn}
use Rattle.agreement.specs.Takings.{is_purged}
use Rattle.agreement.specs.Worlds.{Sending}
use Rattle.agreement.proofs.Flights.{Entry}
use Rattle.agreement.proofs.Flights.Entry.{AValue, AnAsk, AnAnswer, AMark, AGive, ARelease, AQuiet, ABad}
use Rattle.agreement.proofs.Normal.{Core, Normal, back, swapped}

abbrev pub direct : ModelSetup → ModelSetup
direct base = record base { mode = Direct }

abbrev pub entry : ContextSet → Message → Entry
entry shared (Data value) = AValue shared value.identifier value.pair
entry shared (Alter items) = AnAsk shared items
entry shared (AlterAnswer results) = AnAnswer results
entry shared (Mark number) = AMark shared number
entry shared Give = AGive
entry shared Release = ARelease
entry shared (Please priority) = AQuiet
entry shared UserAbort = AQuiet
entry shared message = ABad

abbrev pub entries : List Sending → List Entry
entries [] = []
entries (sending ∷ flight) = entry sending.shared sending.message ∷ entries flight

pub entries-append : (f g : List Sending) → entries (f ++ g) ≡ entries f ++ entries g
entries-append [] g = refl
entries-append (s ∷ f) g = ap (λ xs. entry s.shared s.message ∷ xs) (entries-append f g)

pub nil-append : (f : List Sending) → f ++ [] ≡ f
nil-append [] = refl
nil-append (s ∷ f) = ap (λ xs. s ∷ xs) (nil-append f)

-- a message that ends nothing for its sender
abbrev pub IsLive : Message → Type 0
IsLive Release = ⊥
IsLive UserAbort = ⊥
IsLive message = Unit {0}

abbrev pub IsNoRelease : Message → Type 0
IsNoRelease Release = ⊥
IsNoRelease message = Unit {0}

abbrev pub AllAre : (Message → Type 0) → List Sending → Type 0
AllAre P [] = Unit {0}
AllAre P (s ∷ flight) = P s.message × AllAre P flight

pub all-append : (P : Message → Type 0) (f g : List Sending) → AllAre P f → AllAre P g → AllAre P (f ++ g)
all-append P [] g h k = k
all-append P (s ∷ f) g h k = (h.0, all-append P f g h.1 k)

abbrev pub IsAbort : Message → Type 0
IsAbort UserAbort = Unit {0}
IsAbort message = ⊥

abbrev pub core : State → Core
core x = record { held = x.sets.held; own = x.sets.own; turn = x.turn; saved = x.saved }

-- whether an end asks for a restart
pub data Ask : Type 0 where
  NotAsking : Ask
  Asks : (number : ℕ) → Ask

pub data View (role : Role) (x : State) (f g : List Sending) (ask : Ask) (c : Core) (whole : List Sending) : Type 0 where
  Plain : x.phase ≡ Up → x.awaits ≡ NoAnswer → ask ≡ NotAsking → c ≡ core x → whole ≡ f → AllAre IsLive g → View role x f g ask c whole
  Asking : (n : ℕ) → (passed : List Sending) → x.phase ≡ Up → x.awaits ≡ RestartOf n → ask ≡ Asks n → c ≡ core x → whole ≡ passed ++ f → AllAre IsLive g → View role x f g ask c whole
  Answered : (n : ℕ) → (before : List Sending) → (answer : Sending) → (list : List Listed) → x.phase ≡ Up → x.awaits ≡ RestartOf n → ask ≡ NotAsking → c ≡ back role n (core x) → f ≡ before ++ (answer ∷ whole) → answer.message ≡ RestartAnswer n list → list ≡ listed (newest (below n x.saved)) → AllAre (λ m. is_purged role (RestartOf n) m ≡ true) before → AllAre IsLive g → View role x f g ask c whole
  Joining : (set : ContextSet) → (answer : Sending) → role ≡ Initiator → x.phase ≡ Opening → x.awaits ≡ NoAnswer → ask ≡ NotAsking → c ≡ core (joined_with Direct role set x) → f ≡ answer ∷ whole → answer.message ≡ Accept set → AllAre IsLive g → View role x f g ask c whole
  Leaving : role ≡ Initiator → x.phase ≡ Releasing → x.awaits ≡ ReleaseOf → AllAre IsNoRelease f → View role x f g ask c whole
  Gone : x.phase ≡ Over → View role x f g ask c whole

-- the flight that an asker sends: all before, its restart, and perhaps an abort
pub record IsAskedIn (n : ℕ) (c : Core) (whole before : List Sending) : Type 0 where
  pub sending : Sending
  pub list : List Listed
  pub behind : List Sending
  pub shape : whole ≡ before ++ (sending ∷ behind)
  pub asks : sending.message ≡ Restart n list
  pub ends : AllAre IsAbort behind
  pub positive : 1 ≤ n
  pub known : n ≤ next_number c.saved
  pub same : list ≡ listed (newest (below n c.saved))

abbrev pub Shaped : Ask → Core → List Sending → List Sending → Type 0
Shaped NotAsking c whole before = whole ≡ before
Shaped (Asks n) c whole before = IsAskedIn n c whole before

pub record Joined (most : ℕ) (role : Role) (x y : State) (f g : List Sending) (shared : ContextSet) (saved : List Saved) : Type 0 where
  pub ask_me : Ask
  pub ask_peer : Ask
  pub me : Core
  pub peer : Core
  pub to_me : List Sending
  pub to_peer : List Sending
  pub before_me : List Sending
  pub before_peer : List Sending
  pub view_me : View role x f g ask_me me to_me
  pub view_peer : View (other role) y g f ask_peer peer to_peer
  pub shape_me : Shaped ask_me me to_peer before_peer
  pub shape_peer : Shaped ask_peer peer to_me before_me
  pub normal : Normal most role me peer (entries before_me) (entries before_peer) shared saved

pub swap_joined : (most : ℕ) (role : Role) (x y : State) (f g : List Sending) (s : ContextSet) (v : List Saved) → Joined most role x y f g s v → Joined most (other role) y x g f s v
swap_joined most Initiator x y f g s v j =
    record {
      ask_me = j.ask_peer;
      ask_peer = j.ask_me;
      me = j.peer;
      peer = j.me;
      to_me = j.to_peer;
      to_peer = j.to_me;
      before_me = j.before_peer;
      before_peer = j.before_me;
      view_me = j.view_peer;
      view_peer = j.view_me;
      shape_me = j.shape_peer;
      shape_peer = j.shape_me;
      normal = swapped most Initiator j.me j.peer (entries j.before_me) (entries j.before_peer) s v j.normal;
    }
swap_joined most Responder x y f g s v j =
    record {
      ask_me = j.ask_peer;
      ask_peer = j.ask_me;
      me = j.peer;
      peer = j.me;
      to_me = j.to_peer;
      to_peer = j.to_me;
      before_me = j.before_peer;
      before_peer = j.before_me;
      view_me = j.view_peer;
      view_peer = j.view_me;
      shape_me = j.shape_peer;
      shape_peer = j.shape_me;
      normal = swapped most Responder j.me j.peer (entries j.before_me) (entries j.before_peer) s v j.normal;
    }

-- more comes to an end
pub extended : (role : Role) (x : State) (f g : List Sending) (ask : Ask) (c : Core) (whole new : List Sending) → View role x f g ask c whole → (role ≡ Initiator → AllAre IsNoRelease new) → View role x (f ++ new) g ask c (whole ++ new)
extended role x f g ask c whole new (Plain p a k e w l) n = Plain p a k e (ap (λ xs. xs ++ new) w) l
extended role x f g ask c whole new (Asking m passed p a k e w l) n = Asking m passed p a k e (ap (λ xs. xs ++ new) w ∙ append_assoc passed f new) l
extended role x f g ask c whole new (Answered m before answer list p a k e w i s q l) n =
    Answered m before answer list p a k e (ap (λ xs. xs ++ new) w ∙ append_assoc before (answer ∷ whole) new) i s q l
extended role x f g ask c whole new (Joining set answer r p a k e w i l) n = Joining set answer r p a k e (ap (λ xs. xs ++ new) w) i l
extended role x f g ask c whole new (Leaving r p a l) n = Leaving r p a (all-append IsNoRelease f new l (n r))
extended role x f g ask c whole new (Gone p) n = Gone p

-- what came from an end is taken off
pub shortened : (role : Role) (x : State) (f : List Sending) (s : Sending) (g : List Sending) (ask : Ask) (c : Core) (whole : List Sending) → View role x f (s ∷ g) ask c whole → View role x f g ask c whole
shortened role x f s g ask c whole (Plain p a k e w l) = Plain p a k e w l.1
shortened role x f s g ask c whole (Asking m passed p a k e w l) = Asking m passed p a k e w l.1
shortened role x f s g ask c whole (Answered m before answer list p a k e w i r q l) = Answered m before answer list p a k e w i r q l.1
shortened role x f s g ask c whole (Joining set answer r p a k e w i l) = Joining set answer r p a k e w i l.1
shortened role x f s g ask c whole (Leaving r p a l) = Leaving r p a l
shortened role x f s g ask c whole (Gone p) = Gone p

-- an end that is up and awaits nothing, and its peer
pub record Free (most : ℕ) (role : Role) (x y : State) (f g : List Sending) (shared : ContextSet) (saved : List Saved) : Type 0 where
  pub ask_peer : Ask
  pub peer : Core
  pub to_peer : List Sending
  pub before_me : List Sending
  pub live : AllAre IsLive g
  pub view_peer : View (other role) y g f ask_peer peer to_peer
  pub shape_peer : Shaped ask_peer peer f before_me
  pub normal : Normal most role (core x) peer (entries before_me) (entries to_peer) shared saved

pub free : (most : ℕ) (role : Role) (x y : State) (f g : List Sending) (s : ContextSet) (v : List Saved) → Joined most role x y f g s v → x.phase ≡ Up → x.awaits ≡ NoAnswer → Free most role x y f g s v
free most role x y f g s v j up calm = go j.ask_me j.shape_me j.view_me
  where
    go : (ask : Ask) → Shaped ask j.me j.to_peer j.before_peer → View role x f g ask j.me j.to_me → Free most role x y f g s v
    go NotAsking shape (Plain p a k e w l) =
        record {
          ask_peer = j.ask_peer;
          peer = j.peer;
          to_peer = j.to_peer;
          before_me = j.before_me;
          live = l;
          view_peer = j.view_peer;
          shape_peer = subst (λ xs. Shaped j.ask_peer j.peer xs j.before_me) w j.shape_peer;
          normal =
              subst (λ c. Normal most role c j.peer (entries j.before_me) (entries j.to_peer) s v) e
              (subst (λ xs. Normal most role j.me j.peer (entries j.before_me) (entries xs) s v) (sym shape) j.normal);
        }
    go (Asks n) shape (Plain p a k e w l) = absurd (cc)
    go ask shape (Asking m passed p a k e w l) = absurd (cc)
    go ask shape (Answered m before answer list p a k e w i r q l) = absurd (cc)
    go ask shape (Joining set answer r p a k e w i l) = absurd (cc)
    go ask shape (Leaving r p a l) = absurd (cc)
    go ask shape (Gone p) = absurd (cc)

-- and back, with what it sent
pub sends : (most : ℕ) (role : Role) (x y z : State) (f g : List Sending) (s t : ContextSet) (v w : List Saved) (k : Free most role x y f g s v) (new : Sending) → z.phase ≡ Up → z.awaits ≡ NoAnswer → IsLive new.message → IsNoRelease new.message → Normal most role (core z) k.peer (entries k.before_me) (entries k.to_peer ++ (entry new.shared new.message ∷ [])) t w → Joined most role z y f (g ++ (new ∷ [])) t w
sends most role x y z f g s t v w k new up calm live keeps n =
    record {
      ask_me = NotAsking;
      ask_peer = k.ask_peer;
      me = core z;
      peer = k.peer;
      to_me = f;
      to_peer = k.to_peer ++ (new ∷ []);
      before_me = k.before_me;
      before_peer = k.to_peer ++ (new ∷ []);
      view_me = Plain up calm refl refl refl (all-append IsLive g (new ∷ []) k.live (live, tt));
      view_peer = extended (other role) y g f k.ask_peer k.peer k.to_peer (new ∷ []) k.view_peer (λ r. (keeps, tt));
      shape_me = refl;
      shape_peer = k.shape_peer;
      normal = subst (λ xs. Normal most role (core z) k.peer (entries k.before_me) xs t w) (sym (entries-append k.to_peer (new ∷ []))) n;
    }

-- nothing sent
pub keeps : (most : ℕ) (role : Role) (x y z : State) (f g : List Sending) (s t : ContextSet) (v w : List Saved) (k : Free most role x y f g s v) → z.phase ≡ Up → z.awaits ≡ NoAnswer → Normal most role (core z) k.peer (entries k.before_me) (entries k.to_peer) t w → Joined most role z y f g t w
keeps most role x y z f g s t v w k up calm n =
    record {
      ask_me = NotAsking;
      ask_peer = k.ask_peer;
      me = core z;
      peer = k.peer;
      to_me = f;
      to_peer = k.to_peer;
      before_me = k.before_me;
      before_peer = k.to_peer;
      view_me = Plain up calm refl refl refl k.live;
      view_peer = k.view_peer;
      shape_me = refl;
      shape_peer = k.shape_peer;
      normal = n;
    }

-- an end withdraws before an association stands
pub withdraws-in : (role : Role) (p : Phase) → MayWithdrawIn role p → (p ≡ Idle) ⊎ ((p ≡ Broken) × (role ≡ Initiator))
withdraws-in role Idle h = inl refl
withdraws-in role Broken h = inr (refl, h)
withdraws-in role p h = absurd h
