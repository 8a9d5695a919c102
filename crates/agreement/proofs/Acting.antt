-- Direct mode once an association was accepted: what an act keeps.
use Rattle.std.proofs.Common.{◌≡◌, ℕ, ◌≤◌, Bool, true, false, ◌||◌, nat_eq, List, [], ◌∷◌, ◌++◌, refl, sym, ap, ◌∙◌, true≢false, subst, inl, inr, ◌⊎◌, append_assoc}
use Rattle.std.specs.Prelude.{Some, None}
use Rattle.std.proofs.lemmas.Bool.{eqb-false}
use Rattle.agreement.specs.Sets.{Role, other, Pair, ContextSet, Item, Saved, lookup, listed, below, newest, next_number, AllMayAsk, altered, deletes, some_deletes}
use Rattle.agreement.specs.Sets.Role.{Initiator, Responder}
use Rattle.agreement.specs.Sets.Item.{Addition, Deletion}
use Rattle.agreement.specs.Messages.{ModelSetup, Message, Act}
use Rattle.agreement.specs.Messages.Mode.{Direct}
use Rattle.agreement.specs.Messages.Act.{Connects, Recovers, SaysValue, Queues, Drops, Alters, Marks, GivesTurn, Pleads, Restarts, Starts, Encodes, Sends, EndsActivity, Interrupts, Discards, Resumes, Releases, Aborts, Withdraws, TransportFails}
use Rattle.agreement.specs.Messages.Message.{Data, Alter, AlterAnswer, Mark, Restart, Give, Please, Release, UserAbort}
use Rattle.agreement.specs.State.{State}
use Rattle.agreement.specs.State.Phase.{Idle, Up, Releasing, Broken, Over}
use Rattle.agreement.specs.State.Awaited.{RestartOf, ReleaseOf}
use Rattle.agreement.specs.Acts.{MayAct, acted, sent_by, used}
use Rattle.agreement.specs.Takings.{altered_first, later}
use Rattle.agreement.specs.Worlds.{Sending, Shared, sendings, shared_all}
use Rattle.agreement.proofs.Flights.{AreSound, ReadsFlight, rejections, rejections-fit}
use Rattle.agreement.proofs.Names.{IsUntouched, AllUntouched}
use Rattle.agreement.proofs.Flights.Entry.{ARelease, AQuiet}
use Rattle.agreement.proofs.Normal.{Normal, AreAbsent, AllAbsent, said, sent_plain, asks, marked, gave}
use Rattle.agreement.proofs.Views.{direct, entry, entries, entries-append, IsLive, IsNoRelease, AllAre, all-append, IsAbort, core, Ask, View, Shaped, Joined, extended, Free, free, sends, keeps, nil-append, withdraws-in}
use Rattle.agreement.proofs.Views.Ask.{NotAsking, Asks}
use Rattle.agreement.proofs.Views.View.{Plain, Asking, Answered, Joining, Leaving, Gone}

-- an association that stands is neither idle nor broken
pub not-idle : (most : ℕ) (role : Role) (x y : State) (f g : List Sending) (s : ContextSet) (v : List Saved) → Joined most role x y f g s v → x.phase ≡ Idle → ⊥
not-idle most role x y f g s v j e = go j.view_me
  where
    go : View role x f g j.ask_me j.me j.to_me → ⊥
    go (Plain p a k h w l) = cc
    go (Asking m passed p a k h w l) = cc
    go (Answered m before answer list p a k h w i r q l) = cc
    go (Joining set answer r p a k h w i l) = cc
    go (Leaving r p a l) = cc
    go (Gone p) = cc

pub not-broken : (most : ℕ) (role : Role) (x y : State) (f g : List Sending) (s : ContextSet) (v : List Saved) → Joined most role x y f g s v → x.phase ≡ Broken → ⊥
not-broken most role x y f g s v j e = go j.view_me
  where
    go : View role x f g j.ask_me j.me j.to_me → ⊥
    go (Plain p a k h w l) = cc
    go (Asking m passed p a k h w l) = cc
    go (Answered m before answer list p a k h w i r q l) = cc
    go (Joining set answer r p a k h w i l) = cc
    go (Leaving r p a l) = cc
    go (Gone p) = cc

-- no own alteration names a context on which a value may be sent
untouched-items : (role : Role) (held : ContextSet) (items : List Item) (k : ℕ) (p : Pair) → AreAbsent role held items → lookup held k ≡ Some p → deletes k items ≡ false → IsUntouched k items
untouched-items role held [] k p a e d = tt
untouched-items role held (Addition j o ∷ items) k p a e d =
    (λ same. go (sym (ap (lookup held) same) ∙ a.0.1), untouched-items role held items k p a.1 e d)
  where
    go : lookup held k ≡ None → ⊥
    go f = cc
untouched-items role held (Deletion j ∷ items) k p a e d =
    (eqb-false j k (left (nat_eq j k) (deletes k items) d), untouched-items role held items k p a.1 e (right (nat_eq j k) (deletes k items) d))
  where
    left : (b c : Bool) → (b || c) ≡ false → b ≡ false
    left true c e = absurd (true≢false e)
    left false c e = refl

    right : (b c : Bool) → (b || c) ≡ false → c ≡ false
    right true c e = absurd (true≢false e)
    right false c e = e

all-untouched_of : (role : Role) (held : ContextSet) (own : List (List Item)) (k : ℕ) (p : Pair) → AllAbsent role held own → lookup held k ≡ Some p → some_deletes k own ≡ false → AllUntouched k own
all-untouched_of role held [] k p a e d = tt
all-untouched_of role held (items ∷ own) k p a e d =
    (untouched-items role held items k p a.0 e (left (deletes k items) (some_deletes k own) d), all-untouched_of role held own k p a.1 e (right (deletes k items) (some_deletes k own) d))
  where
    left : (b c : Bool) → (b || c) ≡ false → b ≡ false
    left true c e = absurd (true≢false e)
    left false c e = refl

    right : (b c : Bool) → (b || c) ≡ false → c ≡ false
    right true c e = absurd (true≢false e)
    right false c e = e

sound-of_asked : (role : Role) (held : ContextSet) (used : List ℕ) (items : List Item) → AllMayAsk role held used items → AreSound role held items
sound-of_asked role held used [] m = tt
sound-of_asked role held used (Addition k o ∷ items) m = (m.0, sound-of_asked role held used items m.1)
sound-of_asked role held used (Deletion k ∷ items) m = (m.0.0, sound-of_asked role held used items m.1)

-- a flight to an initiator holds no release
pub reads-no_release : (from : Role) (held : ContextSet) (own : List (List Item)) (flight : List Sending) (shared : ContextSet) → ReadsFlight from held own (entries flight) shared → (from ≡ Initiator → ⊥) → AllAre IsNoRelease flight
reads-no_release from held own [] shared h n = tt
reads-no_release from held own (s ∷ flight) shared h n = go (λ held own shared h. reads-no_release from held own flight shared h n) s.message h
  where
    go : ((held : ContextSet) (own : List (List Item)) (shared : ContextSet) → ReadsFlight from held own (entries flight) shared → AllAre IsNoRelease flight) → (m : Message) → ReadsFlight from held own (entry s.shared m ∷ entries flight) shared → IsNoRelease m × AllAre IsNoRelease flight
    go ih (Data value) h = (tt, ih held own shared h.2)
    go ih (Alter items) h = (tt, ih (altered items (rejections items) held) own (altered items (rejections items) shared) (h.3 (rejections items) (rejections-fit items)))
    go ih (AlterAnswer results) h = (tt, ih (altered_first own results held) (later own) shared h.1)
    go ih (Mark number) h = (tt, ih held own shared h.1)
    go ih Give h = (tt, ih held own shared h)
    go ih Release h = absurd (n h.0)
    go ih (Please priority) h = (tt, ih held own shared h)
    go ih UserAbort h = (tt, ih held own shared h)
    go ih m h = absurd h

-- an end that is free asks for a restart
restarts : (most : ℕ) (role : Role) (x y : State) (f g : List Sending) (s at : ContextSet) (v : List Saved) (n : ℕ) → Free most role x y f g s v → x.phase ≡ Up → 1 ≤ n → n ≤ next_number x.saved → Joined most role (record x { awaits = RestartOf n }) y f (g ++ (record { message = Restart n (listed (newest (below n x.saved))); shared = at } ∷ [])) s v
restarts most role x y f g s at v n k up positive known =
    let new : Sending = record { message = Restart n (listed (newest (below n x.saved))); shared = at } in
    record {
      ask_me = Asks n;
      ask_peer = k.ask_peer;
      me = core x;
      peer = k.peer;
      to_me = f;
      to_peer = k.to_peer ++ (new ∷ []);
      before_me = k.before_me;
      before_peer = k.to_peer;
      view_me = Asking n [] up refl refl refl refl (all-append IsLive g (new ∷ []) k.live (tt, tt));
      view_peer = extended (other role) y g f k.ask_peer k.peer k.to_peer (new ∷ []) k.view_peer (λ r. (tt, tt));
      shape_me =
          record {
            sending = new;
            list = listed (newest (below n x.saved));
            behind = [];
            shape = refl;
            asks = refl;
            ends = tt;
            positive = positive;
            known = known;
            same = refl;
          };
      shape_peer = k.shape_peer;
      normal = k.normal;
    }

-- an end aborts
aborts : (most : ℕ) (role : Role) (x y z : State) (f g : List Sending) (s at : ContextSet) (v : List Saved) → Joined most role x y f g s v → z.phase ≡ Over → Joined most role z y f (g ++ (record { message = UserAbort; shared = at } ∷ [])) s v
aborts most role x y z f g s at v j over = go j.ask_me j.shape_me
  where
    go : (ask : Ask) → Shaped ask j.me j.to_peer j.before_peer → Joined most role z y f (g ++ (record { message = UserAbort; shared = at } ∷ [])) s v
    go NotAsking shape =
        let new : Sending = record { message = UserAbort; shared = at } in
        record {
          ask_me = NotAsking;
          ask_peer = j.ask_peer;
          me = j.me;
          peer = j.peer;
          to_me = j.to_me;
          to_peer = j.to_peer ++ (new ∷ []);
          before_me = j.before_me;
          before_peer = j.before_peer ++ (new ∷ []);
          view_me = Gone over;
          view_peer = extended (other role) y g f j.ask_peer j.peer j.to_peer (new ∷ []) j.view_peer (λ r. (tt, tt));
          shape_me = ap (λ xs. xs ++ (new ∷ [])) shape;
          shape_peer = j.shape_peer;
          normal =
              subst (λ xs. Normal most role j.me j.peer (entries j.before_me) xs s v) (sym (entries-append j.before_peer (new ∷ [])))
              (sent_plain most role j.me j.peer (entries j.before_me) (entries j.before_peer) s v AQuiet j.normal (inl refl));
        }
    go (Asks n) shape =
        let new : Sending = record { message = UserAbort; shared = at } in
        record {
          ask_me = Asks n;
          ask_peer = j.ask_peer;
          me = j.me;
          peer = j.peer;
          to_me = j.to_me;
          to_peer = j.to_peer ++ (new ∷ []);
          before_me = j.before_me;
          before_peer = j.before_peer;
          view_me = Gone over;
          view_peer = extended (other role) y g f j.ask_peer j.peer j.to_peer (new ∷ []) j.view_peer (λ r. (tt, tt));
          shape_me =
              record {
                sending = shape.sending;
                list = shape.list;
                behind = shape.behind ++ (new ∷ []);
                shape = ap (λ xs. xs ++ (new ∷ [])) shape.shape ∙ append_assoc j.before_peer (shape.sending ∷ shape.behind) (new ∷ []);
                asks = shape.asks;
                ends = all-append IsAbort shape.behind (new ∷ []) shape.ends (tt, tt);
                positive = shape.positive;
                known = shape.known;
                same = shape.same;
              };
          shape_peer = j.shape_peer;
          normal = j.normal;
        }

aborts-no_release : (flight : List Sending) → AllAre IsAbort flight → AllAre IsNoRelease flight
aborts-no_release [] a = tt
aborts-no_release (s ∷ flight) a = (go s.message a.0, aborts-no_release flight a.1)
  where
    go : (m : Message) → IsAbort m → IsNoRelease m
    go UserAbort h = tt
    go m h = absurd h

-- the initiator releases
releases : (most : ℕ) (role : Role) (x y : State) (f g : List Sending) (s at : ContextSet) (v : List Saved) → Free most role x y f g s v → role ≡ Initiator → Joined most role (record x { phase = Releasing; awaits = ReleaseOf }) y f (g ++ (record { message = Release; shared = at } ∷ [])) s v
releases most role x y f g s at v k initiates =
    let new : Sending = record { message = Release; shared = at } in
    record {
      ask_me = NotAsking;
      ask_peer = k.ask_peer;
      me = core x;
      peer = k.peer;
      to_me = f;
      to_peer = k.to_peer ++ (new ∷ []);
      before_me = k.before_me;
      before_peer = k.to_peer ++ (new ∷ []);
      view_me = Leaving initiates refl refl (clean k.ask_peer k.shape_peer);
      view_peer = extended (other role) y g f k.ask_peer k.peer k.to_peer (new ∷ []) k.view_peer (λ r. absurd (not_from r));
      shape_me = refl;
      shape_peer = k.shape_peer;
      normal =
          subst (λ xs. Normal most role (core x) k.peer (entries k.before_me) xs s v) (sym (entries-append k.to_peer (new ∷ [])))
          (sent_plain most role (core x) k.peer (entries k.before_me) (entries k.to_peer) s v ARelease k.normal (inr (refl, initiates)));
    }
  where
    not_from : other role ≡ Initiator → ⊥
    not_from e = go role initiates e
      where
        go : (r : Role) → r ≡ Initiator → other r ≡ Initiator → ⊥
        go Initiator a b = cc
        go Responder a b = cc

    clean : (ask : Ask) → Shaped ask k.peer f k.before_me → AllAre IsNoRelease f
    clean NotAsking shape =
        subst (AllAre IsNoRelease) (sym shape) (reads-no_release (other role) x.sets.held x.sets.own k.before_me s k.normal.reads_me not_from)
    clean (Asks n) shape =
        subst (AllAre IsNoRelease) (sym shape.shape)
        (all-append IsNoRelease k.before_me (shape.sending ∷ shape.behind)
        (reads-no_release (other role) x.sets.held x.sets.own k.before_me s k.normal.reads_me not_from)
        (subst IsNoRelease (sym shape.asks) tt, aborts-no_release shape.behind shape.ends))

-- an end of an association that stands doesn't withdraw
stays : (base : ModelSetup) (role : Role) (x y : State) (f g : List Sending) (shared : Shared) → Joined base.most_marks role x y f g shared.set shared.saved → (x.phase ≡ Idle) ⊎ ((x.phase ≡ Broken) × (role ≡ Initiator)) → ⊥
stays base role x y f g shared j (inl e) = not-idle base.most_marks role x y f g shared.set shared.saved j e
stays base role x y f g shared j (inr e) = not-broken base.most_marks role x y f g shared.set shared.saved j e.0

-- what an act keeps
pub acts : (base : ModelSetup) (role : Role) (x y : State) (f g : List Sending) (shared : Shared) (act : Act) → MayAct (direct base) role x act → Joined base.most_marks role x y f g shared.set shared.saved → Joined base.most_marks role (acted (direct base) x act) y f (g ++ sendings shared.set (sent_by (direct base) x act)) (shared_all Direct role (sent_by (direct base) x act) shared).set (shared_all Direct role (sent_by (direct base) x act) shared).saved
acts base role x y f g shared Connects h j = absurd (not-idle base.most_marks role x y f g shared.set shared.saved j h.is_idle)
acts base role x y f g shared Recovers h j = absurd (not-broken base.most_marks role x y f g shared.set shared.saved j h.is_broken)
acts base role x y f g shared (SaysValue value) h j =
    let k = free base.most_marks role x y f g shared.set shared.saved j h.is_free.is_up h.is_free.is_calm in
    sends base.most_marks role x y (acted (direct base) x (SaysValue value)) f g shared.set shared.set shared.saved shared.saved k (record { message = Data value; shared = shared.set }) h.is_free.is_up h.is_free.is_calm tt tt
    (said base.most_marks role (core x) k.peer (entries k.before_me) (entries k.to_peer) shared.set shared.saved value.identifier value.pair k.normal h.is_there
    (all-untouched_of role x.sets.held x.sets.own value.identifier value.pair k.normal.absent_me h.is_there h.is_kept))
acts base role x y f g shared (Queues context apdu) h j = absurd (let e = h.by_transfers in cc)
acts base role x y f g shared Drops h j =
    let k = free base.most_marks role x y f g shared.set shared.saved j h.is_free.is_up h.is_free.is_calm in
    subst (λ xs. Joined base.most_marks role (acted (direct base) x Drops) y f xs shared.set shared.saved) (sym (nil-append g))
    (keeps base.most_marks role x y (acted (direct base) x Drops) f g shared.set shared.set shared.saved shared.saved k h.is_free.is_up h.is_free.is_calm k.normal)
acts base role x y f g shared (Alters items) h j =
    let k = free base.most_marks role x y f g shared.set shared.saved j h.is_free.is_up h.is_free.is_calm in
    sends base.most_marks role x y (acted (direct base) x (Alters items)) f g shared.set shared.set shared.saved shared.saved k (record { message = Alter items; shared = shared.set }) h.is_free.is_up h.is_free.is_calm tt tt
    (asks base.most_marks role (core x) k.peer (entries k.before_me) (entries k.to_peer) shared.set shared.saved items k.normal (sound-of_asked role x.sets.held (used Direct x) items h.may_ask) h.once)
acts base role x y f g shared Marks h j =
    let k = free base.most_marks role x y f g shared.set shared.saved j h.leads.is_free.is_up h.leads.is_free.is_calm in
    sends base.most_marks role x y (acted (direct base) x Marks) f g shared.set shared.set shared.saved (record { number = next_number x.saved; set = shared.set } ∷ shared.saved) k (record { message = Mark (next_number x.saved); shared = shared.set }) h.leads.is_free.is_up h.leads.is_free.is_calm tt tt
    (marked base.most_marks role (core x) k.peer (entries k.before_me) (entries k.to_peer) shared.set shared.saved k.normal h.leads.has_turn h.leads.is_settled h.in_mode)
acts base role x y f g shared GivesTurn h j =
    let k = free base.most_marks role x y f g shared.set shared.saved j h.leads.is_free.is_up h.leads.is_free.is_calm in
    sends base.most_marks role x y (acted (direct base) x GivesTurn) f g shared.set shared.set shared.saved shared.saved k (record { message = Give; shared = shared.set }) h.leads.is_free.is_up h.leads.is_free.is_calm tt tt
    (gave base.most_marks role (core x) k.peer (entries k.before_me) (entries k.to_peer) shared.set shared.saved k.normal h.leads.has_turn)
acts base role x y f g shared (Pleads priority) h j =
    let k = free base.most_marks role x y f g shared.set shared.saved j h.is_free.is_up h.is_free.is_calm in
    sends base.most_marks role x y (acted (direct base) x (Pleads priority)) f g shared.set shared.set shared.saved shared.saved k (record { message = Please priority; shared = shared.set }) h.is_free.is_up h.is_free.is_calm tt tt
    (sent_plain base.most_marks role (core x) k.peer (entries k.before_me) (entries k.to_peer) shared.set shared.saved AQuiet k.normal (inl refl))
acts base role x y f g shared (Restarts number) h j =
    restarts base.most_marks role x y f g shared.set shared.set shared.saved number
    (free base.most_marks role x y f g shared.set shared.saved j h.is_free.is_up h.is_free.is_calm) h.is_free.is_up h.is_positive h.is_known
acts base role x y f g shared Starts h j = absurd (let e = h.by_transfers in cc)
acts base role x y f g shared (Encodes context) h j = absurd (let e = h.by_transfers in cc)
acts base role x y f g shared (Sends octets) h j = absurd (let e = h.by_transfers in cc)
acts base role x y f g shared EndsActivity h j = absurd (let e = h.by_transfers in cc)
acts base role x y f g shared Interrupts h j = absurd (let e = h.by_transfers in cc)
acts base role x y f g shared Discards h j = absurd (let e = h.by_transfers in cc)
acts base role x y f g shared Resumes h j = absurd (let e = h.by_transfers in cc)
acts base role x y f g shared Releases h j =
    releases base.most_marks role x y f g shared.set shared.set shared.saved
    (free base.most_marks role x y f g shared.set shared.saved j h.is_free.is_up h.is_free.is_calm) h.initiates
acts base role x y f g shared Aborts h j =
    aborts base.most_marks role x y (acted (direct base) x Aborts) f g shared.set shared.set shared.saved j refl
acts base role x y f g shared Withdraws h j = absurd (stays base role x y f g shared j (withdraws-in role x.phase h.in_phase))
acts base role x y f g shared TransportFails h j = absurd (stays base role x y f g shared j (withdraws-in role x.phase h.in_phase))
