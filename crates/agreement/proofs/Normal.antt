-- Two ends in direct mode while neither asks for a restart: what each step keeps.
use Rattle.std.proofs.Common.{◌≡◌, ℕ, ◌≤◌, ◌%◌, Bool, true, false, List, [], ◌∷◌, ◌++◌, refl, sym, ap, ◌∙◌, arith, true≢false, subst, inl, inr, ◌⊎◌, ap₂, nat_lt}
use Rattle.std.specs.Prelude.{Some, None}
use Rattle.std.proofs.lemmas.Bool.Decides.{nat_tests}
use Rattle.agreement.specs.Sets.{Role, other, parity, Pair, ContextSet, Item, Result, AnswersEach, changed, altered, lookup, remove, IsRising, AreDistinct, identifiers, named, is_among, Saved, below, newest, next_number, is_initiator}
use Rattle.agreement.specs.Sets.Role.{Initiator, Responder}
use Rattle.agreement.specs.Sets.Item.{Addition, Deletion}
use Rattle.agreement.specs.Sets.Result.{Rejected, AcceptedAs, Accepted, Kept}
use Rattle.agreement.specs.Takings.{altered_first, later}
use Rattle.agreement.proofs.Order.{lookup-put_other, by_test}
use Rattle.agreement.proofs.Flights.{Entry, IsSoundItem, AreSound, AllApart, ReadsFlight, asked, unanswered, Paced, turn_after, saved_after, IsStill, rising-altered, reads-settled, reads-same, sound-shared, push-value, push-answer, push-ask, push-mark, push-plain, asks-apart, ask-more, unanswered-more, unanswered-untouched, unanswered-all_untouched, no-answers, asked-append, unanswered-append, paced-holder, paced-append, turn-append, saved-append, below-after, next-after}
use Rattle.agreement.proofs.Names.{IsUntouched, AllUntouched, AreUntouched, lookup-altered, once-distinct, once-untouched, first-untouched, later-distinct, among-named, among-later, among-item, among-items}
use Rattle.agreement.proofs.Flights.Entry.{AValue, AnAsk, AnAnswer, AMark, AGive, ARelease, AQuiet}

-- what agreement is about, of an end
pub record Core : Type 0 where
  pub held : ContextSet
  pub own : List (List Item)
  pub turn : Bool
  pub saved : List Saved

-- own additions are absent from the own set
abbrev pub IsAbsent : Role → ContextSet → Item → Type 0
IsAbsent role held (Addition k offers) = (k % 2 ≡ parity role) × (lookup held k ≡ None)
IsAbsent role held (Deletion k) = Unit {0}

abbrev pub AreAbsent : Role → ContextSet → List Item → Type 0
AreAbsent role held [] = Unit {0}
AreAbsent role held (item ∷ items) = IsAbsent role held item × AreAbsent role held items

abbrev pub AllAbsent : Role → ContextSet → List (List Item) → Type 0
AllAbsent role held [] = Unit {0}
AllAbsent role held (items ∷ rest) = AreAbsent role held items × AllAbsent role held rest

abbrev pub AllRising : List Saved → Type 0
AllRising [] = Unit {0}
AllRising (mark ∷ marks) = IsRising mark.set × AllRising marks

pub record Normal (most : ℕ) (role : Role) (me peer : Core) (to_me to_peer : List Entry) (shared : ContextSet) (saved : List Saved) : Type 0 where
  pub reads_me : ReadsFlight (other role) me.held me.own to_me shared
  pub reads_peer : ReadsFlight role peer.held peer.own to_peer shared
  pub asks_me : asked to_me ≡ unanswered to_peer peer.own
  pub asks_peer : asked to_peer ≡ unanswered to_me me.own
  pub once_me : AreDistinct (named me.own)
  pub once_peer : AreDistinct (named peer.own)
  pub absent_me : AllAbsent role me.held me.own
  pub absent_peer : AllAbsent (other role) peer.held peer.own
  pub rising : IsRising shared
  pub all_rising : AllRising saved
  pub paced_me : Paced most me.turn me.saved to_me
  pub paced_peer : Paced most peer.turn peer.saved to_peer
  pub one_turn : turn_after me.turn to_me ≡ true → turn_after peer.turn to_peer ≡ true → ⊥
  pub saved_me : saved_after me.saved to_me ≡ saved
  pub saved_peer : saved_after peer.saved to_peer ≡ saved

pub swapped : (most : ℕ) (role : Role) (me peer : Core) (f g : List Entry) (s : ContextSet) (v : List Saved) → Normal most role me peer f g s v → Normal most (other role) peer me g f s v
swapped most Initiator me peer f g s v n =
    record {
      reads_me = n.reads_peer;
      reads_peer = n.reads_me;
      asks_me = n.asks_peer;
      asks_peer = n.asks_me;
      once_me = n.once_peer;
      once_peer = n.once_me;
      absent_me = n.absent_peer;
      absent_peer = n.absent_me;
      rising = n.rising;
      all_rising = n.all_rising;
      paced_me = n.paced_peer;
      paced_peer = n.paced_me;
      one_turn = λ a b. n.one_turn b a;
      saved_me = n.saved_peer;
      saved_peer = n.saved_me;
    }
swapped most Responder me peer f g s v n =
    record {
      reads_me = n.reads_peer;
      reads_peer = n.reads_me;
      asks_me = n.asks_peer;
      asks_peer = n.asks_me;
      once_me = n.once_peer;
      once_peer = n.once_me;
      absent_me = n.absent_peer;
      absent_peer = n.absent_me;
      rising = n.rising;
      all_rising = n.all_rising;
      paced_me = n.paced_peer;
      paced_peer = n.paced_me;
      one_turn = λ a b. n.one_turn b a;
      saved_me = n.saved_peer;
      saved_peer = n.saved_me;
    }

-- two ends that begin with one set, or are restarted to it
pub begun : (most : ℕ) (role : Role) (s : ContextSet) (v : List Saved) (t u : Bool) → IsRising s → AllRising v → (t ≡ true → u ≡ true → ⊥) → Normal most role (record { held = s; own = []; turn = t; saved = v }) (record { held = s; own = []; turn = u; saved = v }) [] [] s v
begun most role s v t u h g n =
    record {
      reads_me = refl;
      reads_peer = refl;
      asks_me = refl;
      asks_peer = refl;
      once_me = tt;
      once_peer = tt;
      absent_me = tt;
      absent_peer = tt;
      rising = h;
      all_rising = g;
      paced_me = tt;
      paced_peer = tt;
      one_turn = n;
      saved_me = refl;
      saved_peer = refl;
    }

-- an entry that changes nothing of asking, turns and marks joins the flight to the peer
plain-more : (most : ℕ) (turn : Bool) (saved : List Saved) (e : Entry) → Type 0
plain-more most turn saved e = (asked (e ∷ []) ≡ []) × ((own : List (List Item)) → unanswered (e ∷ []) own ≡ own) × ((t : Bool) (v : List Saved) → Paced most t v (e ∷ [])) × ((t : Bool) → turn_after t (e ∷ []) ≡ t) × ((v : List Saved) → saved_after v (e ∷ []) ≡ v)

append-nil_of : (xs : List (List Item)) → xs ++ [] ≡ xs
append-nil_of [] = refl
append-nil_of (x ∷ xs) = ap (λ ys. x ∷ ys) (append-nil_of xs)

more : (most : ℕ) (role : Role) (me peer : Core) (f g : List Entry) (s : ContextSet) (v : List Saved) (e : Entry) → Normal most role me peer f g s v → plain-more most peer.turn peer.saved e → ReadsFlight role peer.held peer.own (g ++ (e ∷ [])) s → Normal most role me peer f (g ++ (e ∷ [])) s v
unfolding plain-more
more most role me peer f g s v e n q r =
    record {
      reads_me = n.reads_me;
      reads_peer = r;
      asks_me = n.asks_me ∙ sym (unanswered-append g (e ∷ []) peer.own ∙ q.1 (unanswered g peer.own));
      asks_peer = asked-append g (e ∷ []) ∙ ap (λ xs. asked g ++ xs) q.0 ∙ append-nil_of (asked g) ∙ n.asks_peer;
      once_me = n.once_me;
      once_peer = n.once_peer;
      absent_me = n.absent_me;
      absent_peer = n.absent_peer;
      rising = n.rising;
      all_rising = n.all_rising;
      paced_me = n.paced_me;
      paced_peer = paced-append most peer.turn peer.saved g (e ∷ []) n.paced_peer (q.2 (turn_after peer.turn g) (saved_after peer.saved g));
      one_turn = λ a b. n.one_turn a (sym (q.3 (turn_after peer.turn g)) ∙ sym (turn-append peer.turn g (e ∷ [])) ∙ b);
      saved_me = n.saved_me;
      saved_peer = saved-append peer.saved g (e ∷ []) ∙ q.4 (saved_after peer.saved g) ∙ n.saved_peer;
    }

-- a value is sent
pub said : (most : ℕ) (role : Role) (me peer : Core) (f g : List Entry) (s : ContextSet) (v : List Saved) (k : ℕ) (p : Pair) → Normal most role me peer f g s v → lookup me.held k ≡ Some p → AllUntouched k me.own → Normal most role me peer f (g ++ (AValue s k p ∷ [])) s v
unfolding plain-more
said most role me peer f g s v k p n h u =
    let there : lookup s k ≡ Some p = sym (reads-same (other role) me.held me.own f s k n.reads_me u) ∙ h in
    more most role me peer f g s v (AValue s k p) n (refl, λ own. refl, λ t w. tt, λ t. refl, λ w. refl)
    (push-value role peer.held peer.own g s s k p n.reads_peer there there
    (subst (λ xs. AllUntouched k xs) (sym n.asks_peer) (unanswered-untouched f me.own k u)))

-- an entry that asks nothing is sent: a plea, a release, an abort
pub sent_plain : (most : ℕ) (role : Role) (me peer : Core) (f g : List Entry) (s : ContextSet) (v : List Saved) (e : Entry) → Normal most role me peer f g s v → (e ≡ AQuiet) ⊎ (e ≡ ARelease) × (role ≡ Initiator) → Normal most role me peer f (g ++ (e ∷ [])) s v
unfolding plain-more
sent_plain most role me peer f g s v e n (inl q) =
    subst (λ x. Normal most role me peer f (g ++ (x ∷ [])) s v) (sym q)
    (more most role me peer f g s v AQuiet n (refl, λ own. refl, λ t w. tt, λ t. refl, λ w. refl) (push-plain role peer.held peer.own g s AQuiet n.reads_peer tt))
sent_plain most role me peer f g s v e n (inr q) =
    subst (λ x. Normal most role me peer f (g ++ (x ∷ [])) s v) (sym q.0)
    (more most role me peer f g s v ARelease n (refl, λ own. refl, λ t w. tt, λ t. refl, λ w. refl) (push-plain role peer.held peer.own g s ARelease n.reads_peer q.1))

-- nothing of an end with no own alteration is on its way to be answered
none-asked : (most : ℕ) (role : Role) (me peer : Core) (f g : List Entry) (s : ContextSet) (v : List Saved) → Normal most role me peer f g s v → me.own ≡ [] → asked g ≡ []
none-asked most role me peer f g s v n e =
    n.asks_peer ∙ no-answers (other role) me.held f s me.own (subst (λ o. ReadsFlight (other role) me.held o f s) e n.reads_me) ∙ e

holds-shared : (most : ℕ) (role : Role) (me peer : Core) (f g : List Entry) (s : ContextSet) (v : List Saved) → Normal most role me peer f g s v → me.own ≡ [] → me.held ≡ s
holds-shared most role me peer f g s v n e = reads-settled (other role) me.held f s (subst (λ o. ReadsFlight (other role) me.held o f s) e n.reads_me)

absent-sound : (role : Role) (held : ContextSet) (items : List Item) → AreSound role held items → AreAbsent role held items
absent-sound role held [] s = tt
absent-sound role held (Addition k o ∷ items) s = (s.0, absent-sound role held items s.1)
absent-sound role held (Deletion k ∷ items) s = (tt, absent-sound role held items s.1)

all-absent_more : (role : Role) (held : ContextSet) (own : List (List Item)) (items : List Item) → AllAbsent role held own → AreAbsent role held items → AllAbsent role held (own ++ (items ∷ []))
all-absent_more role held [] items a b = (b, tt)
all-absent_more role held (o ∷ own) items a b = (a.0, all-absent_more role held own items a.1 b)

-- an alteration is asked for
pub asks : (most : ℕ) (role : Role) (me peer : Core) (f g : List Entry) (s : ContextSet) (v : List Saved) (items : List Item) → Normal most role me peer f g s v → AreSound role me.held items → AreDistinct (named (me.own ++ (items ∷ []))) → Normal most role (record me { own = me.own ++ (items ∷ []) }) peer f (g ++ (AnAsk s items ∷ [])) s v
asks most role me peer f g s v items n h once =
    let u = once-untouched me.own items once in
    let apart = asks-apart role me.held me.own f s items n.reads_me u h in
    record {
      reads_me = ask-more (other role) me.held me.own items f s n.reads_me apart.0;
      reads_peer =
          push-ask role peer.held peer.own g s s items n.reads_peer
          (subst (λ xs. AreUntouched items xs) (sym n.asks_peer) (unanswered-all_untouched f me.own items u))
          (sound-shared (other role) role me.held me.own f s items n.reads_me u h) (once-distinct me.own items once)
          (subst (λ xs. AllApart xs items) n.asks_me apart.1);
      asks_me = n.asks_me ∙ sym (unanswered-append g (AnAsk s items ∷ []) peer.own);
      asks_peer = asked-append g (AnAsk s items ∷ []) ∙ ap (λ xs. xs ++ (items ∷ [])) n.asks_peer ∙ sym (unanswered-more (other role) me.held me.own items f s n.reads_me);
      once_me = once;
      once_peer = n.once_peer;
      absent_me = all-absent_more role me.held me.own items n.absent_me (absent-sound role me.held items h);
      absent_peer = n.absent_peer;
      rising = n.rising;
      all_rising = n.all_rising;
      paced_me = n.paced_me;
      paced_peer = paced-append most peer.turn peer.saved g (AnAsk s items ∷ []) n.paced_peer tt;
      one_turn = λ a b. n.one_turn a (sym (turn-append peer.turn g (AnAsk s items ∷ [])) ∙ b);
      saved_me = n.saved_me;
      saved_peer = saved-append peer.saved g (AnAsk s items ∷ []) ∙ n.saved_peer;
    }

parities : (role : Role) → parity role ≡ parity (other role) → ⊥
parities Initiator e = grind arith
parities Responder e = grind arith

absent-removed : (k j : ℕ) (held : ContextSet) → lookup held k ≡ None → lookup (remove j held) k ≡ None
absent-removed k j [] n = refl
absent-removed k j (c ∷ cs) n = let ih = absent-removed k j cs in grind (arith, nat_tests)

absent-changed : (role : Role) (set : ContextSet) (k : ℕ) (i : Item) (r : Result) (held : ContextSet) → k % 2 ≡ parity role → IsSoundItem (other role) set i → lookup held k ≡ None → lookup (changed i r held) k ≡ None
absent-changed role set k (Addition j o) (AcceptedAs p) held e h n =
    lookup-put_other k j p held (λ x. parities role (sym e ∙ ap (λ y. y % 2) x ∙ h.0)) ∙ n
absent-changed role set k (Addition j o) Rejected held e h n = n
absent-changed role set k (Addition j o) Accepted held e h n = n
absent-changed role set k (Addition j o) Kept held e h n = n
absent-changed role set k (Deletion j) Accepted held e h n = absent-removed k j held n
absent-changed role set k (Deletion j) Kept held e h n = n
absent-changed role set k (Deletion j) Rejected held e h n = n
absent-changed role set k (Deletion j) (AcceptedAs p) held e h n = n

absent-altered : (role : Role) (set : ContextSet) (k : ℕ) (items : List Item) (results : List Result) (held : ContextSet) → k % 2 ≡ parity role → AreSound (other role) set items → lookup held k ≡ None → lookup (altered items results held) k ≡ None
absent-altered role set k [] rs held e h n = n
absent-altered role set k (i ∷ is) [] held e h n = n
absent-altered role set k (i ∷ is) (r ∷ rs) held e h n =
    absent-altered role set k is rs (changed i r held) e h.1 (absent-changed role set k i r held e h.0 n)

stays-absent : (role : Role) (set : ContextSet) (own : List Item) (items : List Item) (results : List Result) (held : ContextSet) → AreSound (other role) set items → AreAbsent role held own → AreAbsent role (altered items results held) own
stays-absent role set [] items results held h a = tt
stays-absent role set (Addition k o ∷ own) items results held h a =
    ((a.0.0, absent-altered role set k items results held a.0.0 h a.0.1), stays-absent role set own items results held h a.1)
stays-absent role set (Deletion k ∷ own) items results held h a = (tt, stays-absent role set own items results held h a.1)

all-absent : (role : Role) (set : ContextSet) (own : List (List Item)) (items : List Item) (results : List Result) (held : ContextSet) → AreSound (other role) set items → AllAbsent role held own → AllAbsent role (altered items results held) own
all-absent role set [] items results held h a = tt
all-absent role set (o ∷ own) items results held h a = (stays-absent role set o items results held h a.0, all-absent role set own items results held h a.1)

-- an alteration is taken and answered
pub takes_ask : (most : ℕ) (role : Role) (me peer : Core) (at : ContextSet) (items : List Item) (results : List Result) (f g : List Entry) (s : ContextSet) (v : List Saved) → Normal most role me peer (AnAsk at items ∷ f) g s v → AnswersEach items results → Normal most role (record me { held = altered items results me.held }) peer f (g ++ (AnAnswer results ∷ [])) (altered items results s) v
takes_ask most role me peer at items results f g s v n fits =
    let h = n.reads_me in
    record {
      reads_me = h.3 results fits;
      reads_peer = push-answer role peer.held peer.own g s items (asked f) results n.reads_peer n.rising (sym n.asks_me) fits;
      asks_me = ap later n.asks_me ∙ sym (unanswered-append g (AnAnswer results ∷ []) peer.own);
      asks_peer = asked-append g (AnAnswer results ∷ []) ∙ append-nil_of (asked g) ∙ n.asks_peer;
      once_me = n.once_me;
      once_peer = n.once_peer;
      absent_me = all-absent role me.held me.own items results me.held h.0 n.absent_me;
      absent_peer = n.absent_peer;
      rising = rising-altered items results s n.rising;
      all_rising = n.all_rising;
      paced_me = n.paced_me;
      paced_peer = paced-append most peer.turn peer.saved g (AnAnswer results ∷ []) n.paced_peer tt;
      one_turn = λ a b. n.one_turn a (sym (turn-append peer.turn g (AnAnswer results ∷ [])) ∙ b);
      saved_me = n.saved_me;
      saved_peer = saved-append peer.saved g (AnAnswer results ∷ []) ∙ n.saved_peer;
    }

-- what the first alteration adds, no later one does
absent-later : (role : Role) (held : ContextSet) (first : List Item) (results : List Result) (items : List Item) → ((k : ℕ) → is_among k (identifiers items) ≡ true → IsUntouched k first) → AreAbsent role held items → AreAbsent role (altered first results held) items
absent-later role held first results [] u a = tt
absent-later role held first results (Addition k o ∷ items) u a =
    ((a.0.0, lookup-altered first results k held (u k (among-item (Addition k o) items)) ∙ a.0.1), absent-later role held first results items (λ j e. u j (among-items (Addition k o) items j e)) a.1)
absent-later role held first results (Deletion k ∷ items) u a = (tt, absent-later role held first results items (λ j e. u j (among-items (Deletion k) items j e)) a.1)

all-absent_later : (role : Role) (held : ContextSet) (first : List Item) (results : List Result) (own : List (List Item)) → ((k : ℕ) → is_among k (named own) ≡ true → IsUntouched k first) → AllAbsent role held own → AllAbsent role (altered first results held) own
all-absent_later role held first results [] u a = tt
all-absent_later role held first results (items ∷ own) u a =
    (absent-later role held first results items (λ k e. u k (among-named items own k e)) a.0, all-absent_later role held first results own (λ k e. u k (among-later items own k e)) a.1)

settles : (role : Role) (held : ContextSet) (own : List (List Item)) (results : List Result) → AreDistinct (named own) → AllAbsent role held own → AllAbsent role (altered_first own results held) (later own)
settles role held [] results d a = tt
settles role held (items ∷ own) results d a = all-absent_later role held items results own (first-untouched items own d) a.1

-- an alteration's answer is taken
pub takes_answer : (most : ℕ) (role : Role) (me peer : Core) (results : List Result) (f g : List Entry) (s : ContextSet) (v : List Saved) → Normal most role me peer (AnAnswer results ∷ f) g s v → Normal most role (record me { held = altered_first me.own results me.held; own = later me.own }) peer f g s v
takes_answer most role me peer results f g s v n =
    record {
      reads_me = n.reads_me.1;
      reads_peer = n.reads_peer;
      asks_me = n.asks_me;
      asks_peer = n.asks_peer;
      once_me = later-distinct me.own n.once_me;
      once_peer = n.once_peer;
      absent_me = settles role me.held me.own results n.once_me n.absent_me;
      absent_peer = n.absent_peer;
      rising = n.rising;
      all_rising = n.all_rising;
      paced_me = n.paced_me;
      paced_peer = n.paced_peer;
      one_turn = n.one_turn;
      saved_me = n.saved_me;
      saved_peer = n.saved_peer;
    }

-- a mark is taken
pub takes_mark : (most : ℕ) (role : Role) (me peer : Core) (at : ContextSet) (number : ℕ) (f g : List Entry) (s : ContextSet) (v : List Saved) → Normal most role me peer (AMark at number ∷ f) g s v → Normal most role (record me { saved = record { number = number; set = me.held } ∷ me.saved }) peer f g s v
takes_mark most role me peer at number f g s v n =
    let same = sym n.reads_me.0 in
    record {
      reads_me = n.reads_me.1;
      reads_peer = n.reads_peer;
      asks_me = n.asks_me;
      asks_peer = n.asks_peer;
      once_me = n.once_me;
      once_peer = n.once_peer;
      absent_me = n.absent_me;
      absent_peer = n.absent_peer;
      rising = n.rising;
      all_rising = n.all_rising;
      paced_me = subst (λ x. Paced most me.turn (record { number = number; set = x } ∷ me.saved) f) same n.paced_me.3;
      paced_peer = n.paced_peer;
      one_turn = n.one_turn;
      saved_me = subst (λ x. saved_after (record { number = number; set = x } ∷ me.saved) f ≡ v) same n.saved_me;
      saved_peer = n.saved_peer;
    }

-- the token is taken
pub takes_give : (most : ℕ) (role : Role) (me peer : Core) (f g : List Entry) (s : ContextSet) (v : List Saved) → Normal most role me peer (AGive ∷ f) g s v → Normal most role (record me { turn = true }) peer f g s v
takes_give most role me peer f g s v n =
    record {
      reads_me = n.reads_me;
      reads_peer = n.reads_peer;
      asks_me = n.asks_me;
      asks_peer = n.asks_peer;
      once_me = n.once_me;
      once_peer = n.once_peer;
      absent_me = n.absent_me;
      absent_peer = n.absent_peer;
      rising = n.rising;
      all_rising = n.all_rising;
      paced_me = n.paced_me.1;
      paced_peer = n.paced_peer;
      one_turn = n.one_turn;
      saved_me = n.saved_me;
      saved_peer = n.saved_peer;
    }

-- a value, a plea, a release is taken
pub takes_value : (most : ℕ) (role : Role) (me peer : Core) (at : ContextSet) (k : ℕ) (p : Pair) (f g : List Entry) (s : ContextSet) (v : List Saved) → Normal most role me peer (AValue at k p ∷ f) g s v → Normal most role me peer f g s v
takes_value most role me peer at k p f g s v n =
    record {
      reads_me = n.reads_me.2;
      reads_peer = n.reads_peer;
      asks_me = n.asks_me;
      asks_peer = n.asks_peer;
      once_me = n.once_me;
      once_peer = n.once_peer;
      absent_me = n.absent_me;
      absent_peer = n.absent_peer;
      rising = n.rising;
      all_rising = n.all_rising;
      paced_me = n.paced_me;
      paced_peer = n.paced_peer;
      one_turn = n.one_turn;
      saved_me = n.saved_me;
      saved_peer = n.saved_peer;
    }

pub takes_quiet : (most : ℕ) (role : Role) (me peer : Core) (f g : List Entry) (s : ContextSet) (v : List Saved) → Normal most role me peer (AQuiet ∷ f) g s v → Normal most role me peer f g s v
takes_quiet most role me peer f g s v n =
    record {
      reads_me = n.reads_me;
      reads_peer = n.reads_peer;
      asks_me = n.asks_me;
      asks_peer = n.asks_peer;
      once_me = n.once_me;
      once_peer = n.once_peer;
      absent_me = n.absent_me;
      absent_peer = n.absent_peer;
      rising = n.rising;
      all_rising = n.all_rising;
      paced_me = n.paced_me;
      paced_peer = n.paced_peer;
      one_turn = n.one_turn;
      saved_me = n.saved_me;
      saved_peer = n.saved_peer;
    }

-- the token's holder: nothing that moves it, and no mark, is on its way to it
still : (most : ℕ) (role : Role) (me peer : Core) (f g : List Entry) (s : ContextSet) (v : List Saved) → Normal most role me peer f g s v → me.turn ≡ true → IsStill most f
still most role me peer f g s v n e = paced-holder most me.saved f (subst (λ t. Paced most t me.saved f) e n.paced_me)

none-left : (most : ℕ) (role : Role) (me peer : Core) (f g : List Entry) (s : ContextSet) (v : List Saved) → Normal most role me peer f g s v → me.turn ≡ true → turn_after peer.turn g ≡ false
none-left most role me peer f g s v n e = go (turn_after peer.turn g) refl
  where
    go : (b : Bool) → turn_after peer.turn g ≡ b → turn_after peer.turn g ≡ false
    go false h = h
    go true h = absurd (n.one_turn ((still most role me peer f g s v n e).turn me.turn ∙ e) h)

-- a mark is set
pub marked : (most : ℕ) (role : Role) (me peer : Core) (f g : List Entry) (s : ContextSet) (v : List Saved) → Normal most role me peer f g s v → me.turn ≡ true → me.own ≡ [] → next_number me.saved ≤ most → Normal most role (record me { saved = record { number = next_number me.saved; set = me.held } ∷ me.saved }) peer f (g ++ (AMark s (next_number me.saved) ∷ [])) s (record { number = next_number me.saved; set = s } ∷ v)
marked most role me peer f g s v n t o w =
    let calm = still most role me peer f g s v n t in
    let same = holds-shared most role me peer f g s v n o in
    let marks : me.saved ≡ v = sym (calm.marks me.saved) ∙ n.saved_me in
    let none = none-asked most role me peer f g s v n o in
    let entry : Entry = AMark s (next_number me.saved) in
    record {
      reads_me = n.reads_me;
      reads_peer = push-mark role peer.held peer.own g s s (next_number me.saved) n.reads_peer none refl;
      asks_me = n.asks_me ∙ sym (unanswered-append g (entry ∷ []) peer.own);
      asks_peer = asked-append g (entry ∷ []) ∙ append-nil_of (asked g) ∙ n.asks_peer;
      once_me = n.once_me;
      once_peer = n.once_peer;
      absent_me = n.absent_me;
      absent_peer = n.absent_peer;
      rising = n.rising;
      all_rising = (n.rising, n.all_rising);
      paced_me = calm.paced me.turn (record { number = next_number me.saved; set = me.held } ∷ me.saved);
      paced_peer =
          paced-append most peer.turn peer.saved g (entry ∷ []) n.paced_peer
          (none-left most role me peer f g s v n t, ap next_number (marks ∙ sym n.saved_peer), w, tt);
      one_turn = λ a b. n.one_turn a (sym (turn-append peer.turn g (entry ∷ [])) ∙ b);
      saved_me = calm.marks (record { number = next_number me.saved; set = me.held } ∷ me.saved) ∙ ap₂ (λ (x : ContextSet) (xs : List Saved). record { number = next_number me.saved; set = x } ∷ xs) same marks;
      saved_peer = saved-append peer.saved g (entry ∷ []) ∙ ap (λ (xs : List Saved). record { number = next_number me.saved; set = s } ∷ xs) n.saved_peer;
    }

-- the token is given
pub gave : (most : ℕ) (role : Role) (me peer : Core) (f g : List Entry) (s : ContextSet) (v : List Saved) → Normal most role me peer f g s v → me.turn ≡ true → Normal most role (record me { turn = false }) peer f (g ++ (AGive ∷ [])) s v
gave most role me peer f g s v n t =
    let calm = still most role me peer f g s v n t in
    record {
      reads_me = n.reads_me;
      reads_peer = push-plain role peer.held peer.own g s AGive n.reads_peer tt;
      asks_me = n.asks_me ∙ sym (unanswered-append g (AGive ∷ []) peer.own);
      asks_peer = asked-append g (AGive ∷ []) ∙ append-nil_of (asked g) ∙ n.asks_peer;
      once_me = n.once_me;
      once_peer = n.once_peer;
      absent_me = n.absent_me;
      absent_peer = n.absent_peer;
      rising = n.rising;
      all_rising = n.all_rising;
      paced_me = calm.paced false me.saved;
      paced_peer = paced-append most peer.turn peer.saved g (AGive ∷ []) n.paced_peer (none-left most role me peer f g s v n t, tt);
      one_turn = λ a b. true≢false (sym a ∙ calm.turn false);
      saved_me = n.saved_me;
      saved_peer = saved-append peer.saved g (AGive ∷ []) ∙ n.saved_peer;
    }

-- both ends are restarted
abbrev pub back : Role → ℕ → Core → Core
back role number core =
    record { held = newest (below number core.saved); own = []; turn = is_initiator role; saved = below number core.saved }

rising-below : (n : ℕ) (v : List Saved) → AllRising v → AllRising (below n v)
rising-below n [] h = tt
rising-below n (mark ∷ marks) h = by_test AllRising (nat_lt mark.number n) _ _ (λ t. h) (λ t. rising-below n marks h.1)

rising-newest : (v : List Saved) → AllRising v → IsRising (newest v)
rising-newest [] h = tt
rising-newest (mark ∷ marks) h = h.0

pub below-me : (most : ℕ) (role : Role) (me peer : Core) (f g : List Entry) (s : ContextSet) (v : List Saved) (number : ℕ) → Normal most role me peer f g s v → number ≤ next_number me.saved → below number me.saved ≡ below number v
below-me most role me peer f g s v number n h = sym (below-after most me.turn me.saved f number n.paced_me h) ∙ ap (below number) n.saved_me

pub below-peer : (most : ℕ) (role : Role) (me peer : Core) (f g : List Entry) (s : ContextSet) (v : List Saved) (number : ℕ) → Normal most role me peer f g s v → number ≤ next_number peer.saved → below number peer.saved ≡ below number v
below-peer most role me peer f g s v number n h = sym (below-after most peer.turn peer.saved g number n.paced_peer h) ∙ ap (below number) n.saved_peer

-- an end that has taken all knows each mark
pub known-all : (most : ℕ) (role : Role) (me peer : Core) (f : List Entry) (s : ContextSet) (v : List Saved) (number : ℕ) → Normal most role me peer f [] s v → number ≤ next_number me.saved → number ≤ next_number peer.saved
known-all most role me peer f s v number n h =
    subst (λ m. number ≤ next_number m) (n.saved_me ∙ sym n.saved_peer) (next-after most me.turn me.saved f number n.paced_me h)

pub restarted : (most : ℕ) (role : Role) (me peer : Core) (f g : List Entry) (s : ContextSet) (v : List Saved) (number : ℕ) → Normal most role me peer f g s v → number ≤ next_number me.saved → number ≤ next_number peer.saved → Normal most role (back role number me) (back (other role) number peer) [] [] (newest (below number v)) (below number v)
restarted most role me peer f g s v number n h k =
    subst (λ m. Normal most role (record { held = newest m; own = []; turn = is_initiator role; saved = m }) (back (other role) number peer) [] [] (newest (below number v)) (below number v))
    (sym (below-me most role me peer f g s v number n h))
    (subst (λ m. Normal most role (record { held = newest (below number v); own = []; turn = is_initiator role; saved = below number v }) (record { held = newest m; own = []; turn = is_initiator (other role); saved = m }) [] [] (newest (below number v)) (below number v))
    (sym (below-peer most role me peer f g s v number n k))
    (begun most role (newest (below number v)) (below number v) (is_initiator role) (is_initiator (other role))
    (rising-newest (below number v) (rising-below number v n.all_rising)) (rising-below number v n.all_rising) (both role)))
  where
    both : (r : Role) → is_initiator r ≡ true → is_initiator (other r) ≡ true → ⊥
    both Initiator a b = true≢false (sym b)
    both Responder a b = true≢false (sym a)
