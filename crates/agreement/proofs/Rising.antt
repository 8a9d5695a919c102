-- Each invocation is taken at most once: numbers that rise from the sender to the taker.
use Rattle.std.proofs.Common.{◌≡◌, ℕ, suc, ◌<◌, ◌≤◌, if◌then◌else◌, List, [], ◌∷◌, ◌++◌, refl, sym, ap, ◌∙◌, arith, subst, append_assoc}
use Rattle.agreement.specs.Messages.{Apdu, ModelSetup, Message, Calls}
use Rattle.agreement.specs.Messages.Apdu.{Invoke, Outcome, Reject}
use Rattle.agreement.specs.Messages.Message.{Data}
use Rattle.agreement.specs.State.{Handed}
use Rattle.agreement.specs.Calls.{is_accepted, heard, accepted, handed_in, MayHandIn, reject_of, rejects_of}
use Rattle.agreement.specs.Worlds.{Sending}
use Rattle.agreement.specs.Laws.{AreFalling, invocation_in}
use Rattle.agreement.proofs.Order.{by_test}

abbrev pub newest_of : List ℕ → ℕ
newest_of [] = 0
newest_of (n ∷ ns) = n

-- numbers that rise above low, up to top
abbrev pub Rises : ℕ → List ℕ → ℕ → Type 0
Rises low [] top = low ≤ top
Rises low (n ∷ ns) top = (low < n) × Rises n ns top

pub rises-weaker : (low lower top : ℕ) (ns : List ℕ) → lower ≤ low → Rises low ns top → Rises lower ns top
rises-weaker low lower top [] h r = omega arith
rises-weaker low lower top (n ∷ ns) h r = (let b = r.0 in omega arith, r.1)

pub rises-skip : (low n top : ℕ) (ns : List ℕ) → Rises low (n ∷ ns) top → Rises low ns top
rises-skip low n top ns r = rises-weaker n low top ns (let b = r.0 in omega arith) r.1

pub rises-off : (low top : ℕ) (ms ns : List ℕ) → Rises low (ms ++ ns) top → Rises low ns top
rises-off low top [] ns r = r
rises-off low top (m ∷ ms) ns r = rises-off low top ms ns (rises-skip low m top (ms ++ ns) r)

pub rises-top : (low top : ℕ) (ns : List ℕ) → Rises low ns top → low ≤ top
rises-top low top [] r = r
rises-top low top (n ∷ ns) r = let b = r.0 in let c = rises-top n top ns r.1 in omega arith

pub rises-more : (low top : ℕ) (ns : List ℕ) → Rises low ns top → Rises low (ns ++ (suc top ∷ [])) (suc top)
rises-more low top [] r = (first, last)
  where
    first : low < suc top
    first = omega arith

    last : suc top ≤ suc top
    last = omega arith
rises-more low top (n ∷ ns) r = (r.0, rises-more n top ns r.1)

-- the newest comes first where numbers fall
pub falls-more : (ns : List ℕ) (n top : ℕ) (rest : List ℕ) → AreFalling ns → Rises (newest_of ns) (n ∷ rest) top → AreFalling (n ∷ ns)
falls-more [] n top rest f r = tt
falls-more (m ∷ ns) n top rest f r = (r.0, f)

-- what was invoked, and what is to come
pub record Once (ns pending : List ℕ) (made : ℕ) : Type 0 where
  pub falling : AreFalling ns
  pub rising : Rises (newest_of ns) pending made

pub once-skip : (ns ms pending : List ℕ) (made : ℕ) → Once ns (ms ++ pending) made → Once ns pending made
once-skip ns ms pending made o = record { falling = o.falling; rising = rises-off (newest_of ns) made ms pending o.rising }

-- an APDU is heard: its number is told, or passed over
pub once-heard : (setup : ModelSetup) (calls : Calls) (apdu : Apdu) (ns pending : List ℕ) (made : ℕ) → Once ns (invocation_in apdu ++ pending) made → Once ((if is_accepted setup calls apdu then invocation_in apdu else []) ++ ns) pending made
once-heard setup calls apdu ns pending made o =
    by_test (λ (xs : List ℕ). Once (xs ++ ns) pending made) (is_accepted setup calls apdu) (invocation_in apdu) [] (λ t. told apdu o) (λ t. once-skip ns (invocation_in apdu) pending made o)
  where
    told : (a : Apdu) → Once ns (invocation_in a ++ pending) made → Once (invocation_in a ++ ns) pending made
    told (Invoke number operation link argument) o = record { falling = falls-more ns number made pending o.falling o.rising; rising = o.rising.1 }
    told (Outcome number content) o = o
    told (Reject number b) o = o

-- an APDU is handed in: its number comes last
pub once-handed : (setup : ModelSetup) (calls : Calls) (due : List Handed) (context : ℕ) (apdu : Apdu) (ns pending : List ℕ) → MayHandIn setup calls due apdu → Once ns pending calls.made → Once ns (pending ++ invocation_in apdu) (handed_in setup calls context apdu).made
once-handed setup calls due context (Invoke number operation link argument) ns pending m o =
    subst (λ n. Once ns (pending ++ (n ∷ [])) (suc calls.made)) (sym m.0) (record { falling = o.falling; rising = rises-more (newest_of ns) calls.made pending o.rising })
once-handed setup calls due context (Outcome number content) ns pending m o = subst (λ xs. Once ns xs calls.made) (sym (nil pending)) o
  where
    nil : (xs : List ℕ) → xs ++ [] ≡ xs
    nil [] = refl
    nil (x ∷ xs) = ap (λ ys. x ∷ ys) (nil xs)
once-handed setup calls due context (Reject number b) ns pending m o = subst (λ xs. Once ns xs calls.made) (sym (nil pending)) o
  where
    nil : (xs : List ℕ) → xs ++ [] ≡ xs
    nil [] = refl
    nil (x ∷ xs) = ap (λ ys. x ∷ ys) (nil xs)

-- hearing makes no invocation
pub made-heard : (setup : ModelSetup) (calls : Calls) (context : ℕ) (apdu : Apdu) → (heard setup calls context apdu).made ≡ calls.made
made-heard setup calls context apdu = by_test (λ (c : Calls). c.made ≡ calls.made) (is_accepted setup calls apdu) _ _ (λ t. go apdu) (λ t. refl)
  where
    go : (a : Apdu) → (accepted setup calls context a).made ≡ calls.made
    go (Invoke number operation link argument) = refl
    go (Outcome number content) = refl
    go (Reject number b) = refl

-- the numbers on their way, and those in a queue
abbrev pub number_in : Message → List ℕ
number_in (Data value) = invocation_in value.apdu
number_in message = []

abbrev pub numbers_in : List Sending → List ℕ
numbers_in [] = []
numbers_in (s ∷ flight) = number_in s.message ++ numbers_in flight

pub numbers-append : (f g : List Sending) → numbers_in (f ++ g) ≡ numbers_in f ++ numbers_in g
numbers-append [] g = refl
numbers-append (s ∷ f) g = ap (λ xs. number_in s.message ++ xs) (numbers-append f g) ∙ sym (append_assoc (number_in s.message) (numbers_in f) (numbers_in g))

abbrev pub numbers_of : List Handed → List ℕ
numbers_of [] = []
numbers_of (item ∷ items) = invocation_in item.apdu ++ numbers_of items

pub numbers-of_append : (xs ys : List Handed) → numbers_of (xs ++ ys) ≡ numbers_of xs ++ numbers_of ys
numbers-of_append [] ys = refl
numbers-of_append (x ∷ xs) ys = ap (λ zs. invocation_in x.apdu ++ zs) (numbers-of_append xs ys) ∙ sym (append_assoc (invocation_in x.apdu) (numbers_of xs) (numbers_of ys))

pub rejects-none : (setup : ModelSetup) (calls : Calls) (context : ℕ) (a : Apdu) → numbers_of (rejects_of setup calls context a) ≡ []
rejects-none setup calls context a = by_test (λ (xs : List Handed). numbers_of xs ≡ []) (is_accepted setup calls a) [] (reject_of setup calls context a) (λ t. refl) (λ t. go a)
  where
    go : (a : Apdu) → numbers_of (reject_of setup calls context a) ≡ []
    go (Invoke number operation link argument) = refl
    go (Outcome number content) = refl
    go (Reject number b) = refl
