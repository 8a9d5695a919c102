-- Two ends and what is on its way between them: each invocation and each outcome names what is open at the end that it comes
-- to, by the time that it comes there.
use Rattle.std.proofs.Common.{◌&&◌, not, ◌≡◌, ℕ, suc, ◌<◌, ◌≤◌, Bool, true, false, ◌||◌, nat_eq, nat_lt, if◌then◌else◌, length, List, [], ◌∷◌, ◌++◌, refl, sym, ap, ◌∙◌, arith, true≢false, subst, eqb-true}
use Rattle.std.specs.Prelude.{Option, Some, None}
use Rattle.std.proofs.lemmas.Bool.Decides.{nat_tests}
use Rattle.agreement.specs.Messages.{Apdu, Value, ModelSetup, Invocation, Calls}
use Rattle.agreement.specs.Messages.Apdu.{Invoke, Outcome, Reject}
use Rattle.agreement.specs.Calls.{is_link_allowed, is_open, close, opened, MayHandIn, handed_in, has_room, is_accepted, accepted}
use Rattle.agreement.proofs.Order.{by_test}
use Rattle.agreement.proofs.Outcomes.{close-closed, both-true, right-true, left-true}
use Rattle.agreement.proofs.Answered.{answers-open}

-- ---- what hearing leaves

abbrev pub hear_all : ModelSetup → Calls → List Value → Calls
hear_all setup calls [] = calls
hear_all setup calls (v ∷ vs) = hear_all setup (accepted setup calls v.identifier v.apdu) vs

-- an invocation or an outcome is accepted; rejects there are none
abbrev pub IsTaken : ModelSetup → Calls → Apdu → Type 0
IsTaken setup calls (Invoke number operation link argument) = is_accepted setup calls (Invoke number operation link argument) ≡ true
IsTaken setup calls (Outcome number content) = is_accepted setup calls (Outcome number content) ≡ true
IsTaken setup calls (Reject number problem) = ⊥

abbrev pub AllTaken : ModelSetup → Calls → List Value → Type 0
AllTaken setup calls [] = Unit {0}
AllTaken setup calls (v ∷ vs) = IsTaken setup calls v.apdu × AllTaken setup (accepted setup calls v.identifier v.apdu) vs

hear-append : (setup : ModelSetup) (calls : Calls) (vs : List Value) (v : Value) → hear_all setup calls (vs ++ (v ∷ [])) ≡ accepted setup (hear_all setup calls vs) v.identifier v.apdu
hear-append setup calls [] v = refl
hear-append setup calls (w ∷ vs) v = hear-append setup (accepted setup calls w.identifier w.apdu) vs v

taken-append : (setup : ModelSetup) (calls : Calls) (vs : List Value) (v : Value) → AllTaken setup calls vs → IsTaken setup (hear_all setup calls vs) v.apdu → AllTaken setup calls (vs ++ (v ∷ []))
taken-append setup calls [] v h t = (t, tt)
taken-append setup calls (w ∷ vs) v h t = (h.0, taken-append setup (accepted setup calls w.identifier w.apdu) vs v h.1 t)

-- ---- lists of open invocations

abbrev pub AllUpTo : ℕ → List Invocation → Type 0
AllUpTo made [] = Unit {0}
AllUpTo made (call ∷ calls) = (call.number ≤ made) × AllUpTo made calls

upto-close : (n made : ℕ) (calls : List Invocation) → AllUpTo made calls → AllUpTo made (close n calls)
upto-close n made [] h = tt
upto-close n made (call ∷ calls) h = by_test (AllUpTo made) (nat_eq call.number n) _ _ (λ t. upto-close n made calls h.1) (λ t. (h.0, upto-close n made calls h.1))

upto-more : (made : ℕ) (calls : List Invocation) → AllUpTo made calls → AllUpTo (suc made) calls
upto-more made [] h = tt
upto-more made (call ∷ calls) h = (let l = h.0 in omega arith, upto-more made calls h.1)

open-upto : (n made : ℕ) (calls : List Invocation) → AllUpTo made calls → is_open n calls ≡ true → n ≤ made
open-upto n made [] h o = absurd (true≢false (sym o))
open-upto n made (call ∷ calls) h o = go (open-upto n made calls h.1) (nat_eq call.number n) refl o
  where
    go : (is_open n calls ≡ true → n ≤ made) → (b : Bool) → nat_eq call.number n ≡ b → (b || is_open n calls) ≡ true → n ≤ made
    go ih true e o = let s = eqb-true call.number n e in let b = h.0 in omega arith
    go ih false e o = ih o

not-open : (n made : ℕ) (calls : List Invocation) → AllUpTo made calls → made < n → is_open n calls ≡ false
not-open n made calls h l = go (is_open n calls) refl
  where
    go : (b : Bool) → is_open n calls ≡ b → b ≡ false
    go true e = let k = open-upto n made calls h e in absurd (omega arith)
    go false e = refl

length-close : (n : ℕ) (calls : List Invocation) → length (close n calls) ≤ length calls
length-close n [] = omega arith
length-close n (call ∷ calls) = let ih = length-close n calls in by_test (λ (xs : List Invocation). length xs ≤ suc (length calls)) (nat_eq call.number n) _ _ (λ t. omega arith) (λ t. omega arith)

-- one more, whose number isn't that one
open-still : (n : ℕ) (call : Invocation) (calls : List Invocation) → is_open n calls ≡ true → is_open n (call ∷ calls) ≡ true
open-still n call calls h = go (nat_eq call.number n)
  where
    go : (b : Bool) → (b || is_open n calls) ≡ true
    go true = refl
    go false = h

link-open : (setup : ModelSetup) (calls : List Invocation) (operation parent : ℕ) → is_link_allowed setup calls operation (Some parent) ≡ true → is_open parent calls ≡ true
link-open setup [] operation parent h = absurd (true≢false (sym h))
link-open setup (call ∷ calls) operation parent h = go (link-open setup calls operation parent) (nat_eq call.number parent) refl h
  where
    go : (is_link_allowed setup calls operation (Some parent) ≡ true → is_open parent calls ≡ true) → (b : Bool) → nat_eq call.number parent ≡ b → (if b then setup.links call.operation operation else is_link_allowed setup calls operation (Some parent)) ≡ true → (b || is_open parent calls) ≡ true
    go ih true e h = refl
    go ih false e h = ih h

-- a number that isn't open is another than one that is
differs : (n k : ℕ) (calls : List Invocation) → is_open k calls ≡ false → is_open n calls ≡ true → nat_eq k n ≡ false
differs n k calls f t = go (nat_eq k n) refl
  where
    go : (b : Bool) → nat_eq k n ≡ b → b ≡ false
    go true e = absurd (true≢false (sym t ∙ subst (λ j. is_open j calls ≡ false) (eqb-true k n e) f))
    go false e = refl

-- ---- an invocation joins

-- before the others, or nowhere where it is silent
abbrev joins : Bool → Invocation → List Invocation → List Invocation
joins silent call calls = if silent then calls else call ∷ calls

open-joins : (n : ℕ) (silent : Bool) (call : Invocation) (calls : List Invocation) → is_open n calls ≡ true → is_open n (joins silent call calls) ≡ true
open-joins n true call calls h = h
open-joins n false call calls h = open-still n call calls h

link-joins : (setup : ModelSetup) (silent : Bool) (call : Invocation) (calls : List Invocation) (operation : ℕ) (link : Option ℕ) → ((n : ℕ) → is_open n calls ≡ true → nat_eq call.number n ≡ false) → is_link_allowed setup calls operation link ≡ true → is_link_allowed setup (joins silent call calls) operation link ≡ true
link-joins setup silent call calls operation None d h = refl
link-joins setup true call calls operation (Some parent) d h = h
link-joins setup false call calls operation (Some parent) d h =
    ap (λ b. if b then setup.links call.operation operation else is_link_allowed setup calls operation (Some parent)) (d parent (link-open setup calls operation parent h)) ∙ h

close-joins : (n : ℕ) (silent : Bool) (call : Invocation) (calls : List Invocation) → nat_eq call.number n ≡ false → close n (joins silent call calls) ≡ joins silent call (close n calls)
close-joins n true call calls e = refl
close-joins n false call calls e = ap (λ b. if b then close n calls else call ∷ close n calls) e

-- ---- an end says an invocation: it is open here before the others, and what comes is taken as before

record MoreOwn (setup : ModelSetup) (silent : Bool) (call : Invocation) (calls later : Calls) (vs : List Value) : Type 0 where
  all : AllTaken setup later vs
  peers : (hear_all setup later vs).peer_open ≡ (hear_all setup calls vs).peer_open
  owns : (hear_all setup later vs).own_open ≡ joins silent call (hear_all setup calls vs).own_open

abbrev OwnRest : ModelSetup → Bool → Invocation → Calls → Calls → Value → List Value → Apdu → Type 0
OwnRest setup silent call calls later v vs a =
    IsTaken setup later a × MoreOwn setup silent call (accepted setup calls v.identifier a) (accepted setup later v.identifier a) vs

abbrev OwnStep : ModelSetup → Bool → Invocation → ℕ → List Value → Calls → Calls → Type 0
OwnStep setup silent call made vs calls later =
    later.peer_open ≡ calls.peer_open → later.own_open ≡ joins silent call calls.own_open → AllUpTo made calls.own_open → AllTaken setup calls vs → MoreOwn setup silent call calls later vs

own-other : (call : Invocation) (made : ℕ) (calls : List Invocation) → made < call.number → AllUpTo made calls → (n : ℕ) → is_open n calls ≡ true → nat_eq call.number n ≡ false
own-other call made calls l u n e = let b = open-upto n made calls u e in grind (arith, nat_tests)

own-by : (setup : ModelSetup) (silent : Bool) (call : Invocation) (made : ℕ) (calls later : Calls) (v : Value) (vs : List Value) (a : Apdu) → made < call.number → ((c d : Calls) → OwnStep setup silent call made vs c d) → later.peer_open ≡ calls.peer_open → later.own_open ≡ joins silent call calls.own_open → AllUpTo made calls.own_open → IsTaken setup calls a → AllTaken setup (accepted setup calls v.identifier a) vs → OwnRest setup silent call calls later v vs a
own-by setup silent call made calls later v vs (Invoke n operation link argument) l ih p o u t r =
    let both = left-true (not (is_open n calls.peer_open) && has_room setup operation calls.peer_open) (is_link_allowed setup calls.own_open operation link) t in
    let linked = right-true (not (is_open n calls.peer_open) && has_room setup operation calls.peer_open) (is_link_allowed setup calls.own_open operation link) t in
    let there : (not (is_open n later.peer_open) && has_room setup operation later.peer_open) ≡ true = ap (λ (xs : List Invocation). not (is_open n xs) && has_room setup operation xs) p ∙ both in
    let allowed : is_link_allowed setup later.own_open operation link ≡ true = ap (λ (xs : List Invocation). is_link_allowed setup xs operation link) o ∙ link-joins setup silent call calls.own_open operation link (own-other call made calls.own_open l u) linked in (
      ap (λ (b : Bool). b && is_link_allowed setup later.own_open operation link) there ∙ allowed,
      ih (accepted setup calls v.identifier (Invoke n operation link argument)) (accepted setup later v.identifier (Invoke n operation link argument))
          (ap (λ (xs : List Invocation). opened setup n operation v.identifier xs) p) o u r,
    )
own-by setup silent call made calls later v vs (Outcome n content) l ih p o u t r = (
  ap (is_open n) o ∙ open-joins n silent call calls.own_open t,
  ih (accepted setup calls v.identifier (Outcome n content)) (accepted setup later v.identifier (Outcome n content)) p
      (ap (close n) o ∙ close-joins n silent call calls.own_open (own-other call made calls.own_open l u n t)) (upto-close n made calls.own_open u) r,
)
own-by setup silent call made calls later v vs (Reject n problem) l ih p o u t r = absurd t

more-own : (setup : ModelSetup) (silent : Bool) (call : Invocation) (made : ℕ) (calls later : Calls) (vs : List Value) → made < call.number → OwnStep setup silent call made vs calls later
more-own setup silent call made calls later [] l p o u h = record { all = tt; peers = p; owns = o }
more-own setup silent call made calls later (v ∷ vs) l p o u h =
    let k = own-by setup silent call made calls later v vs v.apdu l (λ c d. more-own setup silent call made c d vs l) p o u h.0 h.1 in
    record { all = (k.0, k.1.all); peers = k.1.peers; owns = k.1.owns }

-- ---- an end says an outcome: an invocation of the peer closes here, and what comes is taken as before

record FewerPeer (setup : ModelSetup) (n : ℕ) (calls later : Calls) (vs : List Value) : Type 0 where
  all : AllTaken setup later vs
  owns : (hear_all setup later vs).own_open ≡ (hear_all setup calls vs).own_open
  peers : (hear_all setup later vs).peer_open ≡ close n (hear_all setup calls vs).peer_open

abbrev PeerRest : ModelSetup → ℕ → Calls → Calls → Value → List Value → Apdu → Type 0
PeerRest setup n calls later v vs a =
    IsTaken setup later a × FewerPeer setup n (accepted setup calls v.identifier a) (accepted setup later v.identifier a) vs

-- there is room for one more where fewer are open
room-fewer : (most : ℕ) (silent : Bool) (m n : ℕ) → n ≤ m → (silent || nat_lt m most) ≡ true → (silent || nat_lt n most) ≡ true
room-fewer most true m n l r = refl
room-fewer most false m n l r = grind (arith, nat_tests)

abbrev PeerStep : ModelSetup → ℕ → List Value → Calls → Calls → Type 0
PeerStep setup n vs calls later =
    later.own_open ≡ calls.own_open → later.peer_open ≡ close n calls.peer_open → is_open n calls.peer_open ≡ true → AllTaken setup calls vs → FewerPeer setup n calls later vs

room-closed : (setup : ModelSetup) (n operation : ℕ) (calls later : Calls) → later.peer_open ≡ close n calls.peer_open → has_room setup operation calls.peer_open ≡ true → has_room setup operation later.peer_open ≡ true
room-closed setup n operation calls later p r =
    room-fewer setup.most_open (setup.silent operation) (length calls.peer_open) (length later.peer_open)
    (subst (λ (xs : List Invocation). length xs ≤ length calls.peer_open) (sym p) (length-close n calls.peer_open)) r

peer-by : (setup : ModelSetup) (n : ℕ) (calls later : Calls) (v : Value) (vs : List Value) (a : Apdu) → ((c d : Calls) → PeerStep setup n vs c d) → later.own_open ≡ calls.own_open → later.peer_open ≡ close n calls.peer_open → is_open n calls.peer_open ≡ true → IsTaken setup calls a → AllTaken setup (accepted setup calls v.identifier a) vs → PeerRest setup n calls later v vs a
peer-by setup n calls later v vs (Invoke k operation link argument) ih o p t a r =
    let both = left-true (not (is_open k calls.peer_open) && has_room setup operation calls.peer_open) (is_link_allowed setup calls.own_open operation link) a in
    let linked = right-true (not (is_open k calls.peer_open) && has_room setup operation calls.peer_open) (is_link_allowed setup calls.own_open operation link) a in
    let two = both-true (is_open k calls.peer_open) (has_room setup operation calls.peer_open) both in
    let gone : is_open k later.peer_open ≡ false = ap (is_open k) p ∙ close-closed k n calls.peer_open two.0 in
    let call : Invocation = record { number = k; operation = operation; context = v.identifier } in
    let apart : nat_eq k n ≡ false = differs n k calls.peer_open two.0 t in (
      ap (λ (b : Bool). not b && has_room setup operation later.peer_open && is_link_allowed setup later.own_open operation link) gone
          ∙ ap (λ (b : Bool). b && is_link_allowed setup later.own_open operation link) (room-closed setup n operation calls later p two.1)
          ∙ ap (λ (xs : List Invocation). is_link_allowed setup xs operation link) o ∙ linked,
      ih (accepted setup calls v.identifier (Invoke k operation link argument)) (accepted setup later v.identifier (Invoke k operation link argument)) o
          (ap (λ (xs : List Invocation). opened setup k operation v.identifier xs) p ∙ sym (close-joins n (setup.silent operation) call calls.peer_open apart))
          (open-joins n (setup.silent operation) call calls.peer_open t) r,
    )
peer-by setup n calls later v vs (Outcome k content) ih o p t a r = (
  ap (is_open k) o ∙ a,
  ih (accepted setup calls v.identifier (Outcome k content)) (accepted setup later v.identifier (Outcome k content)) (ap (close k) o) p t r,
)
peer-by setup n calls later v vs (Reject k problem) ih o p t a r = absurd a

fewer-peer : (setup : ModelSetup) (n : ℕ) (calls later : Calls) (vs : List Value) → PeerStep setup n vs calls later
fewer-peer setup n calls later [] o p t h = record { all = tt; owns = o; peers = p }
fewer-peer setup n calls later (v ∷ vs) o p t h =
    let k = peer-by setup n calls later v vs v.apdu (λ c d. fewer-peer setup n c d vs) o p t h.0 h.1 in
    record { all = (k.0, k.1.all); owns = k.1.owns; peers = k.1.peers }

-- ---- what hearing keeps

record Kept (setup : ModelSetup) (made : ℕ) (calls : Calls) (vs : List Value) : Type 0 where
  upto : AllUpTo made (hear_all setup calls vs).own_open
  fewer : length (hear_all setup calls vs).own_open ≤ length calls.own_open
  links : (operation : ℕ) (link : Option ℕ) → is_link_allowed setup calls.peer_open operation link ≡ true → is_link_allowed setup (hear_all setup calls vs).peer_open operation link ≡ true
  opens : (n : ℕ) → is_open n calls.peer_open ≡ true → is_open n (hear_all setup calls vs).peer_open ≡ true

abbrev KeptStep : ModelSetup → ℕ → List Value → Calls → Type 0
KeptStep setup made vs calls = AllUpTo made calls.own_open → AllTaken setup calls vs → Kept setup made calls vs

kept-by : (setup : ModelSetup) (made : ℕ) (calls : Calls) (v : Value) (vs : List Value) (a : Apdu) → ((c : Calls) → KeptStep setup made vs c) → AllUpTo made calls.own_open → IsTaken setup calls a → AllTaken setup (accepted setup calls v.identifier a) vs → Kept setup made calls (record v { apdu = a } ∷ vs)
kept-by setup made calls v vs (Invoke k operation link argument) ih u a r =
    let both = left-true (not (is_open k calls.peer_open) && has_room setup operation calls.peer_open) (is_link_allowed setup calls.own_open operation link) a in
    let two = both-true (is_open k calls.peer_open) (has_room setup operation calls.peer_open) both in
    let call : Invocation = record { number = k; operation = operation; context = v.identifier } in
    let next = ih (accepted setup calls v.identifier (Invoke k operation link argument)) u r in
    record {
      upto = next.upto;
      fewer = next.fewer;
      links = λ o l q. next.links o l (link-joins setup (setup.silent operation) call calls.peer_open o l (λ m e. differs m k calls.peer_open two.0 e) q);
      opens = λ m q. next.opens m (open-joins m (setup.silent operation) call calls.peer_open q);
    }
kept-by setup made calls v vs (Outcome k content) ih u a r =
    let next = ih (accepted setup calls v.identifier (Outcome k content)) (upto-close k made calls.own_open u) r in
    let fewer : length (hear_all setup calls (record v { apdu = Outcome k content } ∷ vs)).own_open ≤ length (close k calls.own_open) = next.fewer in
    let shorter = length-close k calls.own_open in
    record { upto = next.upto; fewer = omega arith; links = next.links; opens = next.opens }
kept-by setup made calls v vs (Reject k problem) ih u a r = absurd a

kept : (setup : ModelSetup) (made : ℕ) (calls : Calls) (vs : List Value) → KeptStep setup made vs calls
kept setup made calls [] u h = record { upto = u; fewer = omega arith; links = λ operation link l. l; opens = λ n o. o }
kept setup made calls (v ∷ vs) u h = kept-by setup made calls v vs v.apdu (λ c. kept setup made c vs) u h.0 h.1

-- ---- two ends

-- What comes to each is taken; and once all is taken, what one has open the other knows of.
pub record Live (setup : ModelSetup) (x y : Calls) (to_x to_y : List Value) : Type 0 where
  pub here : AllTaken setup x to_x
  pub there : AllTaken setup y to_y
  pub of_y : (hear_all setup x to_x).peer_open ≡ (hear_all setup y to_y).own_open
  pub of_x : (hear_all setup y to_y).peer_open ≡ (hear_all setup x to_x).own_open
  pub made_x : AllUpTo x.made x.own_open
  pub made_y : AllUpTo y.made y.own_open

pub live-swapped : (setup : ModelSetup) (x y : Calls) (f g : List Value) → Live setup x y f g → Live setup y x g f
live-swapped setup x y f g l = record { here = l.there; there = l.here; of_y = l.of_x; of_x = l.of_y; made_x = l.made_y; made_y = l.made_x }

-- the first that comes is taken
pub live-took : (setup : ModelSetup) (x y : Calls) (v : Value) (f g : List Value) → Live setup x y (v ∷ f) g → (is_accepted setup x v.apdu ≡ true) × Live setup (accepted setup x v.identifier v.apdu) y f g
live-took setup x y v f g l = go v.apdu l.here.0 l.here.1 l.of_y l.of_x
  where
    go : (a : Apdu) → IsTaken setup x a → AllTaken setup (accepted setup x v.identifier a) f → (hear_all setup (accepted setup x v.identifier a) f).peer_open ≡ (hear_all setup y g).own_open → (hear_all setup y g).peer_open ≡ (hear_all setup (accepted setup x v.identifier a) f).own_open → (is_accepted setup x a ≡ true) × Live setup (accepted setup x v.identifier a) y f g
    go (Invoke k operation link argument) a r p q = (a, record { here = r; there = l.there; of_y = p; of_x = q; made_x = l.made_x; made_y = l.made_y })
    go (Outcome k content) a r p q = (a, record { here = r; there = l.there; of_y = p; of_x = q; made_x = upto-close k x.made x.own_open l.made_x; made_y = l.made_y })
    go (Reject k problem) a r p q = absurd a

joined-upto : (silent : Bool) (call : Invocation) (made : ℕ) (calls : List Invocation) → call.number ≤ suc made → AllUpTo made calls → AllUpTo (suc made) (joins silent call calls)
joined-upto true call made calls e h = upto-more made calls h
joined-upto false call made calls e h = (e, upto-more made calls h)

abbrev SaidLive : ModelSetup → Calls → Calls → Value → List Value → List Value → Apdu → Type 0
SaidLive setup x y v f g a = Live setup (handed_in setup x v.identifier a) y f (g ++ (record v { apdu = a } ∷ []))

-- an end says a value: nothing is due
pub live-said : (setup : ModelSetup) (x y : Calls) (v : Value) (f g : List Value) → Live setup x y f g → MayHandIn setup x [] v.apdu → Live setup (handed_in setup x v.identifier v.apdu) y f (g ++ (v ∷ []))
live-said setup x y v f g l may = go v.apdu may
  where
    k : Kept setup x.made x f
    k = kept setup x.made x f l.made_x l.here

    go : (a : Apdu) → MayHandIn setup x [] a → SaidLive setup x y v f g a
    go (Invoke n operation link argument) m =
        let w : Value = record v { apdu = Invoke n operation link argument } in
        let call : Invocation = record { number = n; operation = operation; context = v.identifier } in
        let later : Calls = handed_in setup x v.identifier (Invoke n operation link argument) in
        let next : n ≡ suc x.made = m.0 in
        let over : x.made < n = omega arith in
        let more = more-own setup (setup.silent operation) call x.made x later f over refl refl l.made_x l.here in
        let fresh : is_open n (hear_all setup y g).peer_open ≡ false = ap (is_open n) l.of_x ∙ not-open n x.made (hear_all setup x f).own_open k.upto over in
        let linked : is_link_allowed setup (hear_all setup y g).own_open operation link ≡ true = ap (λ xs. is_link_allowed setup xs operation link) (sym l.of_y) ∙ k.links operation link m.1 in
        let room : has_room setup operation (hear_all setup y g).peer_open ≡ true = ap (has_room setup operation) l.of_x ∙ room-fewer setup.most_open (setup.silent operation) (length x.own_open) (length (hear_all setup x f).own_open) k.fewer m.2 in
        let taken : IsTaken setup (hear_all setup y g) w.apdu =
        ap (λ b. not b && has_room setup operation (hear_all setup y g).peer_open && is_link_allowed setup (hear_all setup y g).own_open operation link) fresh
        ∙ ap (λ b. b && is_link_allowed setup (hear_all setup y g).own_open operation link) room ∙ linked in
        let heard = hear-append setup y g w in
        record {
          here = more.all;
          there = taken-append setup y g w l.there taken;
          of_y = more.peers ∙ l.of_y ∙ sym (ap (λ (c : Calls). c.own_open) heard);
          of_x = ap (λ (c : Calls). c.peer_open) heard ∙ ap (λ xs. opened setup n operation v.identifier xs) l.of_x ∙ sym more.owns;
          made_x = joined-upto (setup.silent operation) call x.made x.own_open (omega arith) l.made_x;
          made_y = l.made_y;
        }
    go (Outcome n content) m =
        let w : Value = record v { apdu = Outcome n content } in
        let later : Calls = handed_in setup x v.identifier (Outcome n content) in
        let there : is_open n x.peer_open ≡ true = answers-open setup x.peer_open n content m in
        let fewer = fewer-peer setup n x later f refl refl there l.here in
        let taken : is_open n (hear_all setup y g).own_open ≡ true = ap (is_open n) (sym l.of_y) ∙ k.opens n there in
        let heard = hear-append setup y g w in
        record {
          here = fewer.all;
          there = taken-append setup y g w l.there taken;
          of_y = fewer.peers ∙ ap (close n) l.of_y ∙ sym (ap (λ (c : Calls). c.own_open) heard);
          of_x = ap (λ (c : Calls). c.peer_open) heard ∙ l.of_x ∙ sym fewer.owns;
          made_x = l.made_x;
          made_y = l.made_y;
        }
    go (Reject n problem) m = absurd m
