-- Direct mode once an association was accepted: each taking and each passing over.
use Rattle.std.proofs.Common.{◌≡◌, ℕ, ◌≤◌, true, false, not, List, [], ◌∷◌, ◌++◌, refl, sym, ap, ◌∙◌, arith, true≢false, subst, inl, inr, ◌⊎◌, append_assoc, le_trans}
use Rattle.std.proofs.lemmas.Bool.Decides.{nat_tests}
use Rattle.agreement.specs.Sets.{Role, other, ContextSet, Saved, next_number}
use Rattle.agreement.specs.Sets.Role.{Initiator, Responder}
use Rattle.agreement.specs.Messages.{ModelSetup, Message, Choice}
use Rattle.agreement.specs.Messages.Mode.{Direct}
use Rattle.agreement.specs.Messages.Message.{Accept, Data, Alter, AlterAnswer, Mark, Restart, RestartAnswer, Give, Please, Release, ReleaseAnswer, UserAbort}
use Rattle.agreement.specs.State.{State, joined_with}
use Rattle.agreement.specs.State.Phase.{Up, Over}
use Rattle.agreement.specs.State.Awaited.{NoAnswer, RestartOf, ReleaseOf}
use Rattle.agreement.specs.Takings.{is_purged, wins_against, IsChoice, IsBack, taken}
use Rattle.agreement.specs.Worlds.{Sending, Shared}
use Rattle.agreement.proofs.Normal.{Core, Normal, back, swapped, known-all}
use Rattle.agreement.proofs.Views.{direct, entry, entries, nil-append, IsLive, IsNoRelease, AllAre, IsAbort, core, Ask, View, IsAskedIn, Shaped, Joined, shortened, Free, free}
use Rattle.agreement.proofs.Views.Ask.{NotAsking, Asks}
use Rattle.agreement.proofs.Views.View.{Plain, Asking, Answered, Joining, Leaving, Gone}
use Rattle.agreement.proofs.Taking.{Takes, takes_free, takes_abort, takes_release, takes_restart, over, IsGood, IsFine, reads-good, good-fine, abort-good, all-map}

swapped_to : (most : ℕ) (role : Role) (me peer : Core) (g : List Sending) (f0 : List Sending) (s : ContextSet) (v : List Saved) → f0 ≡ [] → Normal most role me peer (entries f0) (entries g) s v → Normal most (other role) peer me (entries g) [] s v
swapped_to most role me peer g f0 s v e n = swapped most role me peer [] (entries g) s v (subst (λ xs. Normal most role me peer (entries xs) (entries g) s v) e n)

-- an end that is free takes what comes
takes_plain : (base : ModelSetup) (role : Role) (x y : State) (s : Sending) (f g : List Sending) (shared : Shared) (m : Message) (choice : Choice) → s.message ≡ m → x.phase ≡ Up → x.awaits ≡ NoAnswer → IsChoice (direct base) x m choice → Joined base.most_marks role x y (s ∷ f) g shared.set shared.saved → Free base.most_marks role x y (s ∷ f) g shared.set shared.saved → Takes base role x y f g shared s m choice
takes_plain base role x y s f g shared m choice e up calm c j k = by_ask k.ask_peer k.shape_peer k.view_peer
  where
    by_ask : (ask : Ask) → Shaped ask k.peer (s ∷ f) k.before_me → View (other role) y g (s ∷ f) ask k.peer k.to_peer → Takes base role x y f g shared s m choice
    by_ask NotAsking shape view =
        takes_free base role x y s f g shared m choice e up calm c j
        (record {
          ask_peer = NotAsking;
          peer = k.peer;
          to_peer = k.to_peer;
          rest = f;
          live = k.live;
          view_peer = shortened (other role) y g s f NotAsking k.peer k.to_peer view;
          shape_peer = refl;
          normal = subst (λ xs. Normal base.most_marks role (core x) k.peer (entries xs) (entries k.to_peer) shared.set shared.saved) (sym shape) k.normal;
        })
    by_ask (Asks n) shape view = by_before k.before_me refl
      where
        by_before : (before : List Sending) → k.before_me ≡ before → Takes base role x y f g shared s m choice
        by_before [] q =
            let whole : s ∷ f ≡ shape.sending ∷ shape.behind = shape.shape ∙ ap (λ xs. xs ++ (shape.sending ∷ shape.behind)) q in
            let first : s ≡ shape.sending = cc in
            let rest : f ≡ shape.behind = cc in
            let is : m ≡ Restart n shape.list = sym e ∙ ap (λ (t : Sending). t.message) first ∙ shape.asks in
            let turned = swapped_to base.most_marks role (core x) k.peer k.to_peer k.before_me shared.set shared.saved q k.normal in
            subst (λ t. Takes base role x y f g shared s t choice) (sym is)
            (takes_restart base role x y s f g shared n shape.list choice k.peer k.to_peer k.before_me k.to_peer up shape.positive
            (known-all base.most_marks (other role) k.peer (core x) (entries k.to_peer) shared.set shared.saved n turned shape.known)
            shape.known shape.same (subst (AllAre IsAbort) (sym rest) shape.ends)
            (all-map (IsGood role) (IsFine (other role) n) k.to_peer (good-fine role (other role) n) (reads-good role k.peer.held k.peer.own k.to_peer shared.set k.normal.reads_peer))
            k.live view k.normal)
        by_before (b ∷ rest) q =
            let whole : s ∷ f ≡ b ∷ (rest ++ (shape.sending ∷ shape.behind)) = shape.shape ∙ ap (λ xs. xs ++ (shape.sending ∷ shape.behind)) q in
            let first : s ≡ b = cc in
            let tail : f ≡ rest ++ (shape.sending ∷ shape.behind) = cc in
            takes_free base role x y s f g shared m choice e up calm c j
            (record {
              ask_peer = Asks n;
              peer = k.peer;
              to_peer = k.to_peer;
              rest = rest;
              live = k.live;
              view_peer = shortened (other role) y g s f (Asks n) k.peer k.to_peer view;
              shape_peer =
                  record {
                    sending = shape.sending;
                    list = shape.list;
                    behind = shape.behind;
                    shape = tail;
                    asks = shape.asks;
                    ends = shape.ends;
                    positive = shape.positive;
                    known = shape.known;
                    same = shape.same;
                  };
              normal =
                  subst (λ t. Normal base.most_marks role (core x) k.peer (entry t.shared t.message ∷ entries rest) (entries k.to_peer) shared.set shared.saved) (sym first)
                  (subst (λ xs. Normal base.most_marks role (core x) k.peer (entries xs) (entries k.to_peer) shared.set shared.saved) q k.normal);
            })

-- of a flight with a restart in it: what comes is good, or it is the restart
data Place (from : Role) (s : Sending) (f : List Sending) (restart : Sending) (behind : List Sending) : Type 0 where
  Within : IsGood from s.message → Place from s f restart behind
  There : s ≡ restart → f ≡ behind → Place from s f restart behind

place : (from : Role) (passed before : List Sending) (s : Sending) (f : List Sending) (restart : Sending) (behind : List Sending) → passed ++ (s ∷ f) ≡ before ++ (restart ∷ behind) → AllAre (IsGood from) before → AllAre IsAbort behind → Place from s f restart behind
place from [] [] s f restart behind e a b = let first : s ≡ restart = cc in let rest : f ≡ behind = cc in There first rest
place from [] (t ∷ before) s f restart behind e a b = let first : s ≡ t = cc in Within (subst (λ (u : Sending). IsGood from u.message) (sym first) a.0)
place from (t ∷ passed) [] s f restart behind e a b =
    let rest : passed ++ (s ∷ f) ≡ behind = cc in
    Within (abort-good from s.message (at passed (subst (AllAre IsAbort) (sym rest) b)))
  where
    at : (passed : List Sending) → AllAre IsAbort (passed ++ (s ∷ f)) → IsAbort s.message
    at [] h = h.0
    at (t ∷ passed) h = at passed h.1
place from (t ∷ passed) (u ∷ before) s f restart behind e a b =
    let rest : passed ++ (s ∷ f) ≡ before ++ (restart ∷ behind) = cc in
    place from passed before s f restart behind rest a.1 b

good-at : (from : Role) (passed : List Sending) (s : Sending) (f : List Sending) → AllAre (IsGood from) (passed ++ (s ∷ f)) → IsGood from s.message
good-at from [] s f h = h.0
good-at from (t ∷ passed) s f h = good-at from passed s f h.1

-- who wins goes back no further than it would itself
winner-lower : (role : Role) (own n : ℕ) → not (wins_against role own n) ≡ false → n ≤ own
winner-lower Initiator own n h = grind (arith, nat_tests)
winner-lower Responder own n h = grind (arith, nat_tests)

loser-passed : (role : Role) (own n : ℕ) → not (wins_against role own n) ≡ false → not (wins_against (other role) n own) ≡ true
loser-passed Initiator own n h = grind (arith, nat_tests)
loser-passed Responder own n h = grind (arith, nat_tests)

-- an end that asked for a restart takes what it doesn't pass over
takes_asking : (base : ModelSetup) (role : Role) (x y : State) (s : Sending) (f g : List Sending) (shared : Shared) (m : Message) (choice : Choice) (n : ℕ) (passed : List Sending) (j : Joined base.most_marks role x y (s ∷ f) g shared.set shared.saved) → s.message ≡ m → x.phase ≡ Up → x.awaits ≡ RestartOf n → is_purged role (RestartOf n) m ≡ false → j.ask_me ≡ Asks n → j.me ≡ core x → j.to_me ≡ passed ++ (s ∷ f) → AllAre IsLive g → Takes base role x y f g shared s m choice
takes_asking base role x y s f g shared m choice n passed j e up waits kept a c w live =
    by_ask j.ask_peer j.shape_peer j.view_peer (subst (λ (k : Ask). Shaped k j.me j.to_peer j.before_peer) a j.shape_me)
  where
    good_before : AllAre (IsGood (other role)) j.before_me
    good_before = reads-good (other role) j.me.held j.me.own j.before_me shared.set j.normal.reads_me

    by_good : (t : Message) → IsGood (other role) t → is_purged role (RestartOf n) t ≡ false → s.message ≡ t → Takes base role x y f g shared s t choice
    by_good (Data value) h k i = absurd (true≢false k)
    by_good (Alter items) h k i = absurd (true≢false k)
    by_good (AlterAnswer results) h k i = absurd (true≢false k)
    by_good (Mark number) h k i = absurd (true≢false k)
    by_good Give h k i = absurd (true≢false k)
    by_good Release h k i = takes_release base role x y s f g shared choice i up h j
    by_good (Please priority) h k i = absurd (true≢false k)
    by_good UserAbort h k i = takes_abort base role x y s f g shared choice j
    by_good t h k i = absurd h

    normal_x : Normal base.most_marks role (core x) j.peer (entries j.before_me) (entries j.before_peer) shared.set shared.saved
    normal_x = subst (λ d. Normal base.most_marks role d j.peer (entries j.before_me) (entries j.before_peer) shared.set shared.saved) c j.normal

    by_ask : (ask : Ask) → Shaped ask j.peer j.to_me j.before_me → View (other role) y g (s ∷ f) ask j.peer j.to_peer → IsAskedIn n j.me j.to_peer j.before_peer → Takes base role x y f g shared s m choice
    by_ask NotAsking shape view mine =
        by_good m (subst (IsGood (other role)) e (good-at (other role) passed s f (subst (AllAre (IsGood (other role))) (sym shape ∙ w) good_before))) kept e
    by_ask (Asks k) shape view mine =
        by_place (place (other role) passed j.before_me s f shape.sending shape.behind (sym w ∙ shape.shape) good_before shape.ends)
      where
        by_place : Place (other role) s f shape.sending shape.behind → Takes base role x y f g shared s m choice
        by_place (Within h) = by_good m (subst (IsGood (other role)) e h) kept e
        by_place (There first rest) =
            let is : m ≡ Restart k shape.list = sym e ∙ ap (λ (t : Sending). t.message) first ∙ shape.asks in
            let lost : not (wins_against role n k) ≡ false = subst (λ t. is_purged role (RestartOf n) t ≡ false) is kept in
            let own : n ≤ next_number x.saved = subst (λ (d : Core). n ≤ next_number d.saved) c mine.known in
            subst (λ t. Takes base role x y f g shared s t choice) (sym is)
            (takes_restart base role x y s f g shared k shape.list choice j.peer j.to_peer j.before_me j.before_peer up shape.positive
            (le_trans (winner-lower role n k lost) own)
            shape.known shape.same (subst (AllAre IsAbort) (sym rest) shape.ends)
            (fine k lost)
            live view normal_x)
          where
            fine : (k : ℕ) → not (wins_against role n k) ≡ false → AllAre (IsFine (other role) k) j.to_peer
            fine k lost =
                subst (AllAre (IsFine (other role) k)) (sym mine.shape)
                (join j.before_peer (reads-good role j.peer.held j.peer.own j.before_peer shared.set j.normal.reads_peer))
              where
                own_restart : (t : Message) → t ≡ Restart n mine.list → IsFine (other role) k t
                own_restart t i = subst (IsFine (other role) k) (sym i) (λ l. loser-passed role n k lost)

                join : (before : List Sending) → AllAre (IsGood role) before → AllAre (IsFine (other role) k) (before ++ (mine.sending ∷ mine.behind))
                join [] h = (own_restart mine.sending.message mine.asks, all-map IsAbort (IsFine (other role) k) mine.behind (λ t a. good-fine role (other role) k t (abort-good role t a)) mine.ends)
                join (t ∷ before) h = (good-fine role (other role) k t.message h.0, join before h.1)

-- whatever comes next and isn't passed over
pub takes : (base : ModelSetup) (role : Role) (x y : State) (s : Sending) (f g : List Sending) (shared : Shared) (m : Message) (choice : Choice) → s.message ≡ m → (x.phase ≡ Over → ⊥) → is_purged role x.awaits m ≡ false → IsChoice (direct base) x m choice → Joined base.most_marks role x y (s ∷ f) g shared.set shared.saved → Takes base role x y f g shared s m choice
takes base role x y s f g shared m choice e alive kept c j = by_view j.view_me
  where
    by_view : View role x (s ∷ f) g j.ask_me j.me j.to_me → Takes base role x y f g shared s m choice
    by_view (Plain p a k h w l) = takes_plain base role x y s f g shared m choice e p a c j (free base.most_marks role x y (s ∷ f) g shared.set shared.saved j p a)
    by_view (Asking n passed p a k h w l) =
        takes_asking base role x y s f g shared m choice n passed j e p a (subst (λ t. is_purged role t m ≡ false) a kept) k h w l
    by_view (Answered n before answer list p a k h w i q r l) = by_before before w r
      where
        by_before : (before : List Sending) → s ∷ f ≡ before ++ (answer ∷ j.to_me) → AllAre (λ t. is_purged role (RestartOf n) t ≡ true) before → Takes base role x y f g shared s m choice
        by_before (t ∷ before) w r =
            let first : s ≡ t = cc in
            let purged : is_purged role (RestartOf n) m ≡ true = subst (λ u. is_purged role (RestartOf n) u ≡ true) (ap (λ (u : Sending). u.message) (sym first) ∙ e) r.0 in
            absurd (true≢false (sym purged ∙ subst (λ t. is_purged role t m ≡ false) a kept))
        by_before [] w r =
            let first : s ≡ answer = cc in
            let rest : f ≡ j.to_me = cc in
            let is : m ≡ RestartAnswer n list = sym e ∙ ap (λ (u : Sending). u.message) first ∙ i in
            subst (λ t. Takes base role x y f g shared s t choice) (sym is)
            (record {
              may = λ w. record { is_direct = refl; is_up = p; asked = a; is_same = q };
              pair = refl;
              next =
                  record {
                    ask_me = NotAsking;
                    ask_peer = j.ask_peer;
                    me = back role n (core x);
                    peer = j.peer;
                    to_me = f;
                    to_peer = j.to_peer;
                    before_me = j.before_me;
                    before_peer = j.before_peer;
                    view_me = Plain p refl refl refl refl (subst (AllAre IsLive) (sym (nil-append g)) l);
                    view_peer = subst (λ xs. View (other role) y xs f j.ask_peer j.peer j.to_peer) (sym (nil-append g)) (shortened (other role) y g s f j.ask_peer j.peer j.to_peer j.view_peer);
                    shape_me = shape k j.shape_me;
                    shape_peer = subst (λ xs. Shaped j.ask_peer j.peer xs j.before_me) (sym rest) j.shape_peer;
                    normal = subst (λ d. Normal base.most_marks role d j.peer (entries j.before_me) (entries j.before_peer) shared.set shared.saved) h j.normal;
                  };
            })
          where
            shape : j.ask_me ≡ NotAsking → Shaped j.ask_me j.me j.to_peer j.before_peer → j.to_peer ≡ j.before_peer
            shape k z = subst (λ (t : Ask). Shaped t j.me j.to_peer j.before_peer) k z
    by_view (Joining set answer r p a k h w i l) =
        let first : s ≡ answer = cc in
        let rest : f ≡ j.to_me = cc in
        let is : m ≡ Accept set = sym e ∙ ap (λ (u : Sending). u.message) first ∙ i in
        subst (λ t. Takes base role x y f g shared s t choice) (sym is)
        (record {
          may = λ w. record { initiates = r; asked = subst IsBack (sym p) tt; is_set = w.0; is_known = w.1 };
          pair = refl;
          next =
              record {
                ask_me = NotAsking;
                ask_peer = j.ask_peer;
                me = core (joined_with Direct role set x);
                peer = j.peer;
                to_me = f;
                to_peer = j.to_peer;
                before_me = j.before_me;
                before_peer = j.before_peer;
                view_me = Plain refl refl refl refl refl (subst (AllAre IsLive) (sym (nil-append g)) l);
                view_peer = subst (λ xs. View (other role) y xs f j.ask_peer j.peer j.to_peer) (sym (nil-append g)) (shortened (other role) y g s f j.ask_peer j.peer j.to_peer j.view_peer);
                shape_me = subst (λ (t : Ask). Shaped t j.me j.to_peer j.before_peer) k j.shape_me;
                shape_peer = subst (λ xs. Shaped j.ask_peer j.peer xs j.before_me) (sym rest) j.shape_peer;
                normal = subst (λ d. Normal base.most_marks role d j.peer (entries j.before_me) (entries j.before_peer) shared.set shared.saved) h j.normal;
              };
        })
    by_view (Leaving r p a l) = by_message m e (subst (λ t. is_purged role t m ≡ false) a kept)
      where
        by_message : (t : Message) → s.message ≡ t → is_purged role ReleaseOf t ≡ false → Takes base role x y f g shared s t choice
        by_message ReleaseAnswer i k =
            record {
              may = λ w. record { is_releasing = p; asked = a };
              pair = refl;
              next =
                  over base.most_marks role x y (taken (direct base) role x ReleaseAnswer choice) (s ∷ f) g f (g ++ []) shared.set shared.saved j refl
                  (subst (λ xs. View (other role) y xs f j.ask_peer j.peer j.to_peer) (sym (nil-append g)) (shortened (other role) y g s f j.ask_peer j.peer j.to_peer j.view_peer));
            }
        by_message UserAbort i k = takes_abort base role x y s f g shared choice j
        by_message Release i k = absurd (subst IsNoRelease i l.0)
        by_message t i k = absurd (true≢false k)
    by_view (Gone p) = absurd (alive p)

-- whatever comes next and is passed over
pub passes : (base : ModelSetup) (role : Role) (x y : State) (s : Sending) (f g : List Sending) (shared : Shared) (m : Message) → s.message ≡ m → (x.phase ≡ Over) ⊎ (is_purged role x.awaits m ≡ true) → Joined base.most_marks role x y (s ∷ f) g shared.set shared.saved → Joined base.most_marks role x y f g shared.set shared.saved
passes base role x y s f g shared m e h j = with_view (by_view j.view_me h)
  where
    with_view : View role x f g j.ask_me j.me j.to_me → Joined base.most_marks role x y f g shared.set shared.saved
    with_view view =
        record {
          ask_me = j.ask_me;
          ask_peer = j.ask_peer;
          me = j.me;
          peer = j.peer;
          to_me = j.to_me;
          to_peer = j.to_peer;
          before_me = j.before_me;
          before_peer = j.before_peer;
          view_me = view;
          view_peer = shortened (other role) y g s f j.ask_peer j.peer j.to_peer j.view_peer;
          shape_me = j.shape_me;
          shape_peer = j.shape_peer;
          normal = j.normal;
        }

    calm : x.awaits ≡ NoAnswer → is_purged role x.awaits m ≡ true → ⊥
    calm a k = true≢false (sym (subst (λ t. is_purged role t m ≡ true) a k))

    by_view : View role x (s ∷ f) g j.ask_me j.me j.to_me → (x.phase ≡ Over) ⊎ (is_purged role x.awaits m ≡ true) → View role x f g j.ask_me j.me j.to_me
    by_view (Plain p a k c w l) (inl o) = absurd (cc)
    by_view (Plain p a k c w l) (inr o) = absurd (calm a o)
    by_view (Asking n passed p a k c w l) o = Asking n (passed ++ (s ∷ [])) p a k c (w ∙ sym (append_assoc passed (s ∷ []) f)) l
    by_view (Answered n before answer list p a k c w i q r l) (inl o) = absurd (cc)
    by_view (Answered n [] answer list p a k c w i q r l) (inr o) =
        let first : s ≡ answer = cc in
        let is : m ≡ RestartAnswer n list = sym e ∙ ap (λ (u : Sending). u.message) first ∙ i in
        absurd (true≢false (sym (subst (λ t. is_purged role (RestartOf n) t ≡ true) is (subst (λ t. is_purged role t m ≡ true) a o))))
    by_view (Answered n (t ∷ before) answer list p a k c w i q r l) (inr o) =
        let rest : f ≡ before ++ (answer ∷ j.to_me) = cc in
        Answered n before answer list p a k c rest i q r.1 l
    by_view (Joining set answer r p a k c w i l) (inl o) = absurd (cc)
    by_view (Joining set answer r p a k c w i l) (inr o) = absurd (calm a o)
    by_view (Leaving r p a l) o = Leaving r p a l.1
    by_view (Gone p) o = Gone p
