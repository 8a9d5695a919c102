-- Direct mode once an association was accepted: what is taken may be taken, and what a taking keeps.
use Rattle.std.proofs.Common.{◌≡◌, ℕ, ◌≤◌, Bool, true, false, ◌||◌, nat_eq, List, [], ◌∷◌, ◌++◌, refl, sym, ap, ◌∙◌, true≢false, subst, inl, append_assoc}
use Rattle.agreement.specs.Sets.{Role, other, ContextSet, Item, Listed, Saved, altered, listed, below, newest, next_number, AllMayBeAsked, AreDistinct, identifiers, is_among}
use Rattle.agreement.specs.Sets.Role.{Initiator, Responder}
use Rattle.agreement.specs.Sets.Item.{Addition, Deletion}
use Rattle.agreement.specs.Messages.{ModelSetup, Message, Choice}
use Rattle.agreement.specs.Messages.Choice.{Results}
use Rattle.agreement.specs.Messages.Message.{Data, Alter, AlterAnswer, Mark, Restart, RestartAnswer, Give, Please, Release, ReleaseAnswer, UserAbort}
use Rattle.agreement.specs.State.{State}
use Rattle.agreement.specs.State.Phase.{Up, Over}
use Rattle.agreement.specs.State.Awaited.{NoAnswer, RestartOf}
use Rattle.agreement.specs.Takings.{is_purged, MayTake, IsChoice, answer_to, taken, additions, altered_first, later}
use Rattle.agreement.specs.Worlds.{Sending, Shared, sendings, shared_answered, pair_under}
use Rattle.agreement.proofs.Carried.{WasSent}
use Rattle.agreement.proofs.Flights.{Entry, AreSound, ReadsFlight, rejections, rejections-fit}
use Rattle.agreement.proofs.Flights.Entry.{AQuiet}
use Rattle.agreement.proofs.Normal.{Core, Normal, back, swapped, takes_ask, takes_answer, takes_mark, takes_give, takes_value, takes_quiet, below-me, below-peer, restarted, sent_plain}
use Rattle.agreement.proofs.Views.{direct, entry, entries, entries-append, nil-append, IsLive, IsNoRelease, AllAre, all-append, IsAbort, core, Ask, View, Shaped, Joined, extended, shortened, keeps}
use Rattle.agreement.proofs.Views.Ask.{NotAsking, Asks}
use Rattle.agreement.proofs.Views.View.{Plain, Asking, Answered, Joining, Leaving, Gone}

-- what a taking gives: that it may be, that the pair is the one of the sending, and what goes on
pub record Takes (base : ModelSetup) (role : Role) (x y : State) (f g : List Sending) (shared : Shared) (s : Sending) (m : Message) (choice : Choice) : Type 0 where
  pub may : WasSent (direct base) m → MayTake (direct base) role x m
  pub pair : pair_under x.sets.held m ≡ pair_under s.shared m
  pub next : Joined base.most_marks role (taken (direct base) role x m choice) y f (g ++ sendings shared.set (answer_to (direct base) x m choice)) (shared_answered m choice shared).set (shared_answered m choice shared).saved

-- an end that is free, and what comes next to it
pub record Head (most : ℕ) (role : Role) (x y : State) (s : Sending) (f g : List Sending) (shared : ContextSet) (saved : List Saved) : Type 0 where
  pub ask_peer : Ask
  pub peer : Core
  pub to_peer : List Sending
  pub rest : List Sending
  pub live : AllAre IsLive g
  pub view_peer : View (other role) y g f ask_peer peer to_peer
  pub shape_peer : Shaped ask_peer peer f rest
  pub normal : Normal most role (core x) peer (entry s.shared s.message ∷ entries rest) (entries to_peer) shared saved

-- the end is free again after it took that
rest_of : (most : ℕ) (role : Role) (x y z : State) (s : Sending) (f g : List Sending) (a b : ContextSet) (v w : List Saved) (h : Head most role x y s f g a v) → z.phase ≡ Up → z.awaits ≡ NoAnswer → Normal most role (core z) h.peer (entries h.rest) (entries h.to_peer) b w → Joined most role z y f (g ++ []) b w
rest_of most role x y z s f g a b v w h up calm n =
    subst (λ xs. Joined most role z y f xs b w) (sym (nil-append g))
    (keeps most role z y z f g b b w w
    (record { ask_peer = h.ask_peer; peer = h.peer; to_peer = h.to_peer; before_me = h.rest; live = h.live; view_peer = h.view_peer; shape_peer = h.shape_peer; normal = n }) up calm n)

pub may-be_asked : (from : Role) (held : ContextSet) (items : List Item) → AreSound from held items → AllMayBeAsked from held items
may-be_asked from held [] s = tt
may-be_asked from held (Addition k o ∷ items) s = (s.0, may-be_asked from held items s.1)
may-be_asked from held (Deletion k ∷ items) s = (tt, may-be_asked from held items s.1)

fewer : (k : ℕ) (items : List Item) → is_among k (identifiers items) ≡ false → is_among k (identifiers (additions items)) ≡ false
fewer k [] h = refl
fewer k (Addition j o ∷ items) h = go (nat_eq k j) (is_among k (identifiers items)) h (fewer k items)
  where
    go : (b c : Bool) → (b || c) ≡ false → (c ≡ false → is_among k (identifiers (additions items)) ≡ false) → (b || is_among k (identifiers (additions items))) ≡ false
    go true c e n = absurd (true≢false e)
    go false c e n = n e
fewer k (Deletion j ∷ items) h = fewer k items (go (nat_eq k j) (is_among k (identifiers items)) h)
  where
    go : (b c : Bool) → (b || c) ≡ false → c ≡ false
    go true c e = absurd (true≢false e)
    go false c e = e

pub distinct-additions : (items : List Item) → AreDistinct (identifiers items) → AreDistinct (identifiers (additions items))
distinct-additions [] d = tt
distinct-additions (Addition k o ∷ items) d = (fewer k items d.0, distinct-additions items d.1)
distinct-additions (Deletion k ∷ items) d = distinct-additions items d.1

pub no-other : (role : Role) → other role ≡ Initiator → role ≡ Responder
no-other Initiator e = absurd (cc)
no-other Responder e = refl

-- an end that is free took that, and answers
answered_to : (most : ℕ) (role : Role) (x y z : State) (s : Sending) (f g : List Sending) (a b : ContextSet) (v w : List Saved) (h : Head most role x y s f g a v) (new : Sending) → z.phase ≡ Up → z.awaits ≡ NoAnswer → IsLive new.message → IsNoRelease new.message → Normal most role (core z) h.peer (entries h.rest) (entries h.to_peer ++ (entry new.shared new.message ∷ [])) b w → Joined most role z y f (g ++ (new ∷ [])) b w
answered_to most role x y z s f g a b v w h new up calm live keeps n =
    record {
      ask_me = NotAsking;
      ask_peer = h.ask_peer;
      me = core z;
      peer = h.peer;
      to_me = f;
      to_peer = h.to_peer ++ (new ∷ []);
      before_me = h.rest;
      before_peer = h.to_peer ++ (new ∷ []);
      view_me = Plain up calm refl refl refl (all-append IsLive g (new ∷ []) h.live (live, tt));
      view_peer = extended (other role) y g f h.ask_peer h.peer h.to_peer (new ∷ []) h.view_peer (λ r. (keeps, tt));
      shape_me = refl;
      shape_peer = h.shape_peer;
      normal = subst (λ xs. Normal most role (core z) h.peer (entries h.rest) xs b w) (sym (entries-append h.to_peer (new ∷ []))) n;
    }

-- an end that is over, after an abort or a release: nothing more is asked of it
pub over : (most : ℕ) (role : Role) (x y z : State) (f g h k : List Sending) (a : ContextSet) (v : List Saved) (j : Joined most role x y f g a v) → z.phase ≡ Over → View (other role) y k h j.ask_peer j.peer j.to_peer → Joined most role z y h k a v
over most role x y z f g h k a v j e view =
    record {
      ask_me = j.ask_me;
      ask_peer = j.ask_peer;
      me = j.me;
      peer = j.peer;
      to_me = j.to_me;
      to_peer = j.to_peer;
      before_me = j.before_me;
      before_peer = j.before_peer;
      view_me = Gone e;
      view_peer = view;
      shape_me = j.shape_me;
      shape_peer = j.shape_peer;
      normal = j.normal;
    }

-- who has released goes on waiting, whatever comes
left : (role : Role) (y : State) (g : List Sending) (s : Sending) (f : List Sending) (ask : Ask) (c : Core) (whole new : List Sending) → View role y g (s ∷ f) ask c whole → (IsLive s.message → ⊥) → AllAre IsNoRelease new → View role y (g ++ new) f ask c whole
left role y g s f ask c whole new (Plain p a k e w l) n q = absurd (n l.0)
left role y g s f ask c whole new (Asking m passed p a k e w l) n q = absurd (n l.0)
left role y g s f ask c whole new (Answered m before answer list p a k e w i r u l) n q = absurd (n l.0)
left role y g s f ask c whole new (Joining set answer r p a k e w i l) n q = absurd (n l.0)
left role y g s f ask c whole new (Leaving r p a l) n q = Leaving r p a (all-append IsNoRelease g new l q)
left role y g s f ask c whole new (Gone p) n q = Gone p

pub takes_abort : (base : ModelSetup) (role : Role) (x y : State) (s : Sending) (f g : List Sending) (shared : Shared) (choice : Choice) → Joined base.most_marks role x y (s ∷ f) g shared.set shared.saved → Takes base role x y f g shared s UserAbort choice
takes_abort base role x y s f g shared choice j =
    record {
      may = λ w. tt;
      pair = refl;
      next =
          over base.most_marks role x y (taken (direct base) role x UserAbort choice) (s ∷ f) g f (g ++ []) shared.set shared.saved j refl
          (subst (λ xs. View (other role) y xs f j.ask_peer j.peer j.to_peer) (sym (nil-append g)) (shortened (other role) y g s f j.ask_peer j.peer j.to_peer j.view_peer));
    }

pub takes_release : (base : ModelSetup) (role : Role) (x y : State) (s : Sending) (f g : List Sending) (shared : Shared) (choice : Choice) → s.message ≡ Release → x.phase ≡ Up → other role ≡ Initiator → Joined base.most_marks role x y (s ∷ f) g shared.set shared.saved → Takes base role x y f g shared s Release choice
takes_release base role x y s f g shared choice e up r j =
    record {
      may = λ w. record { responds = no-other role r; is_up = up; rests = λ q. absurd (cc) };
      pair = refl;
      next =
          over base.most_marks role x y (taken (direct base) role x Release choice) (s ∷ f) g f (g ++ (record { message = ReleaseAnswer; shared = shared.set } ∷ [])) shared.set shared.saved j refl
          (left (other role) y g s f j.ask_peer j.peer j.to_peer (record { message = ReleaseAnswer; shared = shared.set } ∷ []) j.view_peer (subst (λ m. IsLive m → ⊥) (sym e) (λ b. b)) (tt, tt));
    }

-- what is taken by an end that is free, but a restart
pub takes_free : (base : ModelSetup) (role : Role) (x y : State) (s : Sending) (f g : List Sending) (shared : Shared) (m : Message) (choice : Choice) → s.message ≡ m → x.phase ≡ Up → x.awaits ≡ NoAnswer → IsChoice (direct base) x m choice → Joined base.most_marks role x y (s ∷ f) g shared.set shared.saved → Head base.most_marks role x y s f g shared.set shared.saved → Takes base role x y f g shared s m choice
takes_free base role x y s f g shared m choice e up calm c j h =
    go m choice e c (subst (λ t. Normal base.most_marks role (core x) h.peer (entry s.shared t ∷ entries h.rest) (entries h.to_peer) shared.set shared.saved) e h.normal)
  where
    go : (m : Message) (choice : Choice) → s.message ≡ m → IsChoice (direct base) x m choice → Normal base.most_marks role (core x) h.peer (entry s.shared m ∷ entries h.rest) (entries h.to_peer) shared.set shared.saved → Takes base role x y f g shared s m choice
    go (Data value) choice e' c n =
        record {
          may = λ w. record { at_once = λ e. cc; is_up = up; is_read = n.reads_me.0 };
          pair = n.reads_me.0 ∙ sym n.reads_me.1;
          next =
              rest_of base.most_marks role x y (taken (direct base) role x (Data value) choice) s f g shared.set shared.set shared.saved shared.saved h up calm
              (takes_value base.most_marks role (core x) h.peer s.shared value.identifier value.pair (entries h.rest) (entries h.to_peer) shared.set shared.saved n);
        }
    go (Alter items) (Results results) e' c n =
        record {
          may =
              λ w.
              record {
                is_up = up;
                in_mode = tt;
                once = distinct-additions items n.reads_me.1;
                may_be_asked = may-be_asked (other role) x.sets.held items n.reads_me.0;
              };
          pair = refl;
          next =
              answered_to base.most_marks role x y (taken (direct base) role x (Alter items) (Results results)) s f g shared.set (altered items results shared.set) shared.saved shared.saved
              h (record { message = AlterAnswer results; shared = shared.set }) up calm tt tt
              (takes_ask base.most_marks role (core x) h.peer s.shared items results (entries h.rest) (entries h.to_peer) shared.set shared.saved n c.fits);
        }
    go (Alter items) choice e' c n = absurd c
    go (AlterAnswer results) choice e' c n =
        record {
          may = λ w. record { is_up = up; fits = n.reads_me.0; is_known = w };
          pair = refl;
          next =
              rest_of base.most_marks role x y (taken (direct base) role x (AlterAnswer results) choice) s f g shared.set shared.set shared.saved shared.saved h up calm
              (takes_answer base.most_marks role (core x) h.peer results (entries h.rest) (entries h.to_peer) shared.set shared.saved n);
        }
    go (Mark number) choice e' c n =
        record {
          may = λ w. record { is_up = up; in_mode = record { lacks_turn = n.paced_me.0; is_next = n.paced_me.1; is_within = n.paced_me.2 } };
          pair = refl;
          next =
              rest_of base.most_marks role x y (taken (direct base) role x (Mark number) choice) s f g shared.set shared.set shared.saved shared.saved h up calm
              (takes_mark base.most_marks role (core x) h.peer s.shared number (entries h.rest) (entries h.to_peer) shared.set shared.saved n);
        }
    go Give choice e' c n =
        record {
          may = λ w. record { is_up = up; in_mode = n.paced_me.0 };
          pair = refl;
          next =
              rest_of base.most_marks role x y (taken (direct base) role x Give choice) s f g shared.set shared.set shared.saved shared.saved h up calm
              (takes_give base.most_marks role (core x) h.peer (entries h.rest) (entries h.to_peer) shared.set shared.saved n);
        }
    go Release choice e' c n = takes_release base role x y s f g shared choice e' up n.reads_me.0 j
    go (Please priority) choice e' c n =
        record {
          may = λ w. record { is_up = up; in_mode = tt };
          pair = refl;
          next =
              rest_of base.most_marks role x y (taken (direct base) role x (Please priority) choice) s f g shared.set shared.set shared.saved shared.saved h up calm
              (takes_quiet base.most_marks role (core x) h.peer (entries h.rest) (entries h.to_peer) shared.set shared.saved n);
        }
    go UserAbort choice e' c n = takes_abort base role x y s f g shared choice j
    go m choice e' c n = absurd n.reads_me

-- what an end may find in a flight from the end of this role
abbrev pub IsGood : Role → Message → Type 0
IsGood from (Data value) = Unit {0}
IsGood from (Alter items) = Unit {0}
IsGood from (AlterAnswer results) = Unit {0}
IsGood from (Mark number) = Unit {0}
IsGood from Give = Unit {0}
IsGood from Release = from ≡ Initiator
IsGood from (Please priority) = Unit {0}
IsGood from UserAbort = Unit {0}
IsGood from message = ⊥

pub reads-good : (from : Role) (held : ContextSet) (own : List (List Item)) (flight : List Sending) (shared : ContextSet) → ReadsFlight from held own (entries flight) shared → AllAre (IsGood from) flight
reads-good from held own [] shared h = tt
reads-good from held own (s ∷ flight) shared h = go (λ held own shared h. reads-good from held own flight shared h) s.message h
  where
    go : ((held : ContextSet) (own : List (List Item)) (shared : ContextSet) → ReadsFlight from held own (entries flight) shared → AllAre (IsGood from) flight) → (m : Message) → ReadsFlight from held own (entry s.shared m ∷ entries flight) shared → IsGood from m × AllAre (IsGood from) flight
    go ih (Data value) h = (tt, ih held own shared h.2)
    go ih (Alter items) h = (tt, ih (altered items (rejections items) held) own (altered items (rejections items) shared) (h.3 (rejections items) (rejections-fit items)))
    go ih (AlterAnswer results) h = (tt, ih (altered_first own results held) (later own) shared h.1)
    go ih (Mark number) h = (tt, ih held own shared h.1)
    go ih Give h = (tt, ih held own shared h)
    go ih Release h = (h.0, ih held own shared h.1)
    go ih (Please priority) h = (tt, ih held own shared h)
    go ih UserAbort h = (tt, ih held own shared h)
    go ih m h = absurd h

pub abort-good : (from : Role) (m : Message) → IsAbort m → IsGood from m
abort-good from UserAbort h = tt
abort-good from m h = absurd h

-- a message that an asker passes over, unless its sender ends with it
abbrev pub IsFine : Role → ℕ → Message → Type 0
IsFine role n m = IsLive m → is_purged role (RestartOf n) m ≡ true

pub good-fine : (from role : Role) (n : ℕ) (m : Message) → IsGood from m → IsFine role n m
good-fine from role n (Data value) h = λ l. refl
good-fine from role n (Alter items) h = λ l. refl
good-fine from role n (AlterAnswer results) h = λ l. refl
good-fine from role n (Mark number) h = λ l. refl
good-fine from role n Give h = λ l. refl
good-fine from role n Release h = λ l. absurd l
good-fine from role n (Please priority) h = λ l. refl
good-fine from role n UserAbort h = λ l. absurd l
good-fine from role n m h = absurd h

pub all-map : (P Q : Message → Type 0) (flight : List Sending) → ((m : Message) → P m → Q m) → AllAre P flight → AllAre Q flight
all-map P Q [] f h = tt
all-map P Q (s ∷ flight) f h = (f s.message h.0, all-map P Q flight f h.1)

all-both : (role : Role) (n : ℕ) (flight : List Sending) → AllAre (IsFine role n) flight → AllAre IsLive flight → AllAre (λ m. is_purged role (RestartOf n) m ≡ true) flight
all-both role n [] h l = tt
all-both role n (s ∷ flight) h l = (h.0 l.0, all-both role n flight h.1 l.1)

all-behind : (P : Message → Type 0) (passed flight : List Sending) → AllAre P (passed ++ flight) → AllAre P flight
all-behind P [] flight h = h
all-behind P (s ∷ passed) flight h = all-behind P passed flight h.1

-- aborts join what comes to an end
pub push-aborts : (most : ℕ) (role : Role) (me peer : Core) (f : List Sending) (g : List Entry) (acc : List Entry) (s : ContextSet) (v : List Saved) → AllAre IsAbort f → Normal most role me peer acc g s v → Normal most role me peer (acc ++ entries f) g s v
push-aborts most role me peer [] g acc s v a n = subst (λ xs. Normal most role me peer xs g s v) (sym (none acc)) n
  where
    none : (xs : List Entry) → xs ++ [] ≡ xs
    none [] = refl
    none (x ∷ xs) = ap (λ ys. x ∷ ys) (none xs)
push-aborts most role me peer (t ∷ f) g acc s v a n =
    subst (λ xs. Normal most role me peer xs g s v) (append_assoc acc (entry t.shared t.message ∷ []) (entries f))
    (push-aborts most role me peer f g (acc ++ (entry t.shared t.message ∷ [])) s v a.1 (one role n))
  where
    quiet : (m : Message) → IsAbort m → entry t.shared m ≡ AQuiet
    quiet UserAbort h = refl
    quiet m h = absurd h

    one : (r : Role) → Normal most r me peer acc g s v → Normal most r me peer (acc ++ (entry t.shared t.message ∷ [])) g s v
    one Initiator n = swapped most Responder peer me g (acc ++ (entry t.shared t.message ∷ [])) s v (sent_plain most Responder peer me g acc s v (entry t.shared t.message) (swapped most Initiator me peer acc g s v n) (inl (quiet t.message a.0)))
    one Responder n = swapped most Initiator peer me g (acc ++ (entry t.shared t.message ∷ [])) s v (sent_plain most Initiator peer me g acc s v (entry t.shared t.message) (swapped most Responder me peer acc g s v n) (inl (quiet t.message a.0)))

-- the peer that asked is answered
answered_view : (role : Role) (y : State) (g : List Sending) (s : Sending) (f : List Sending) (m : ℕ) (c : Core) (whole : List Sending) (answer : Sending) (list : List Listed) → View role y g (s ∷ f) (Asks m) c whole → AllAre (IsFine role m) whole → AllAre IsLive g → answer.message ≡ RestartAnswer m list → list ≡ listed (newest (below m c.saved)) → View role y (g ++ (answer ∷ [])) f NotAsking (back role m c) []
answered_view role y g s f m c whole answer list (Plain p a k e w l) fine live i q = absurd (cc)
answered_view role y g s f m c whole answer list (Asking n passed p a k e w l) fine live i q =
    let same : n ≡ m = cc in
    Answered m g answer list p (a ∙ ap RestartOf same) refl (ap (back role m) e) refl i (q ∙ ap (λ d. listed (newest (below m d.saved))) e)
    (all-both role m g (all-behind (IsFine role m) passed g (subst (AllAre (IsFine role m)) w fine)) live) l.1
answered_view role y g s f m c whole answer list (Answered n before t u p a k e w i r z l) fine live j q = absurd (cc)
answered_view role y g s f m c whole answer list (Joining set t r p a k e w i l) fine live j q = absurd (cc)
answered_view role y g s f m c whole answer list (Leaving r p a l) fine live i q = Leaving r p a (all-append IsNoRelease g (answer ∷ []) l (clean answer.message i, tt))
  where
    clean : (t : Message) → t ≡ RestartAnswer m list → IsNoRelease t
    clean Release e = absurd (cc)
    clean t e = tt
answered_view role y g s f m c whole answer list (Gone p) fine live i q = Gone p

-- a restart is taken and answered
pub takes_restart : (base : ModelSetup) (role : Role) (x y : State) (s : Sending) (f g : List Sending) (shared : Shared) (m : ℕ) (list : List Listed) (choice : Choice) (peer : Core) (to_peer before_me before_peer : List Sending) → x.phase ≡ Up → 1 ≤ m → m ≤ next_number x.saved → m ≤ next_number peer.saved → list ≡ listed (newest (below m peer.saved)) → AllAre IsAbort f → AllAre (IsFine (other role) m) to_peer → AllAre IsLive g → View (other role) y g (s ∷ f) (Asks m) peer to_peer → Normal base.most_marks role (core x) peer (entries before_me) (entries before_peer) shared.set shared.saved → Takes base role x y f g shared s (Restart m list) choice
takes_restart base role x y s f g shared m list choice peer to_peer before_me before_peer up positive known asked same aborts fine live view n =
    let one = below-me base.most_marks role (core x) peer (entries before_me) (entries before_peer) shared.set shared.saved m n known in
    let two = below-peer base.most_marks role (core x) peer (entries before_me) (entries before_peer) shared.set shared.saved m n asked in
    let equal : below m peer.saved ≡ below m x.saved = two ∙ sym one in
    let answer : Sending = record { message = RestartAnswer m (listed (newest (below m x.saved))); shared = shared.set } in
    record {
      may = λ w. record { is_direct = refl; is_up = up; is_positive = positive; is_known = known; is_same = same ∙ ap (λ v. listed (newest v)) equal };
      pair = refl;
      next =
          record {
            ask_me = NotAsking;
            ask_peer = NotAsking;
            me = back role m (core x);
            peer = back (other role) m peer;
            to_me = f;
            to_peer = [];
            before_me = f;
            before_peer = [];
            view_me = Plain up refl refl refl refl (all-append IsLive g (answer ∷ []) live (tt, tt));
            view_peer = answered_view (other role) y g s f m peer to_peer answer (listed (newest (below m x.saved))) view fine live refl (ap (λ v. listed (newest v)) (sym equal));
            shape_me = refl;
            shape_peer = refl;
            normal =
                push-aborts base.most_marks role (back role m (core x)) (back (other role) m peer) f [] [] (newest (below m shared.saved)) (below m shared.saved) aborts
                (restarted base.most_marks role (core x) peer (entries before_me) (entries before_peer) shared.set shared.saved m n known asked);
          };
    }
