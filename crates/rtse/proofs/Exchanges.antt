-- What is true of every exchange that two ends can reach.
use Rattle.std.proofs.Common.{◌≡◌, ℕ, ◌+◌, ◌-◌, ◌*◌, ◌<◌, ◌≤◌, nat_le, ◌||◌, Bool, true, false, suc, zero, eq-eqb, take, List, [], ◌∷◌, ◌++◌, length, Ok, if◌then◌else◌, refl, sym, ◌∙◌, ap, subst, inl, inr, ◌⊎◌, arith}
use Rattle.std.proofs.lemmas.Bool.{leb-false}
use Rattle.rtse.specs.declared.outgoing.Step.TheVariants.{Mark, End}
use Rattle.std.proofs.lemmas.Bool.Decides.{leb_tells}
use Rattle.rtse.specs.Sending as sent
use Rattle.rtse.specs.Sending.{Sending, MayStart, IsNext, size_of, step_of, stepped, waits, marks_given, is_ended}
use Rattle.rtse.specs.Receiving as received
use Rattle.rtse.specs.Receiving.{Receiving}
use Rattle.rtse.specs.Exchange.{Exchange, Word, Event, came, confirmations, words_of, happened, MayHappen, MayAllHappen, takes_first, confirms_first, begun, exchange_of, IsReached, NothingIsRefused, ArrivesWhole}
use Rattle.rtse.specs.Exchange.Word.{Start, Part, Point, Finish, Resume}
use Rattle.rtse.specs.Exchange.Event.{SendsWords, Takes, Confirms, Breaks, Renews}
use Rattle.rtse.proofs.Places.{closed, chunks_on, due_on, marks_at, word_at, IsOpen, IsAt, Taken, part-taken, mark-taken, finish-taken, back-taken, start-taken, anew-taken, renewed-taken, marks-due, marks-closed, marks-ended, marks-before, marks-le, next-mark}
use Rattle.std.proofs.Math.Seq.{take-nil}
use Rattle.rtse.specs.declared.incoming.Ended.TheVariants.{Whole}
use Rattle.std.proofs.Math.Nat.{zero-mul, mul-le-mul_right}

-- these words lead from one place of the transfer to another
abbrev pub Leads : List ℕ → ℕ → ℕ → Bool → List Word → ℕ → Bool → Type 0
Leads os size k d [] k' d' = (k ≡ k') × (d ≡ d')
Leads os size k d (w ∷ ws) k' d' =
    (w ≡ word_at os size k d) × IsOpen os size k d × Leads os size (chunks_on k d) (due_on d) ws k' d'

leads-on : (os : List ℕ) (size k : ℕ) (d : Bool) (ws : List Word) (k' : ℕ) (d' : Bool) → IsOpen os size k' d' → Leads os size k d ws k' d' → Leads os size k d (ws ++ word_at os size k' d' ∷ []) (chunks_on k' d') (due_on d')
leads-on os size k d [] k' d' free h =
    subst (λ n. Leads os size n d (word_at os size k' d' ∷ []) (chunks_on k' d') (due_on d')) (sym h.0)
    (subst (λ b. Leads os size k' b (word_at os size k' d' ∷ []) (chunks_on k' d') (due_on d')) (sym h.1) (refl, free, (refl, refl)))
leads-on os size k d (w ∷ ws) k' d' free h =
    (h.0, h.1, leads-on os size (chunks_on k d) (due_on d) ws k' d' free h.2)

-- these confirmations are of the marks behind this one up to that one, in order
abbrev pub Confirms_from : ℕ → List ℕ → ℕ → Type 0
Confirms_from c [] m = c ≡ m
Confirms_from c (n ∷ ns) m = (n ≡ c + 1) × Confirms_from n ns m

confirms-on : (c : ℕ) (ns : List ℕ) (m : ℕ) → Confirms_from c ns m → Confirms_from c (ns ++ (m + 1) ∷ []) (m + 1)
confirms-on c [] m h = (ap (λ x. x + 1) (sym h), refl)
confirms-on c (n ∷ ns) m h = (h.0, confirms-on n ns m h.1)

confirms-le : (c : ℕ) (ns : List ℕ) (m : ℕ) → Confirms_from c ns m → c ≤ m
confirms-le c [] m h = omega arith
confirms-le c (n ∷ ns) m h = let on : n ≤ m = confirms-le n ns m h.1 in omega arith

-- a place has at most as many marks as those behind it
marks-rise : (os : List ℕ) (size k : ℕ) (d : Bool) → IsOpen os size k d → marks_at os size k d ≤ marks_at os size (chunks_on k d) (due_on d)
marks-rise os size k true free =
    rw (marks-due os size k free.0)
    (elim (leb_tells (length os) (k * size)) [ inl t ↦ rw t.0 (omega arith) | inr t ↦ rw t.0 (omega arith) ])
marks-rise os size k false free =
    let e : k + 1 - 1 ≡ k = omega arith in
    let there : marks_at os size (k + 1) true ≡ k = ap (λ n. if nat_le (length os) (n * size) then n - 1 else n) e ∙ marks-closed os size k free.0 in
    let here : marks_at os size k false ≡ k = marks-closed os size k free.0 in
    omega arith

marks-lead : (os : List ℕ) (size k : ℕ) (d : Bool) (ws : List Word) (k' : ℕ) (d' : Bool) → Leads os size k d ws k' d' → marks_at os size k d ≤ marks_at os size k' d'
marks-lead os size k d [] k' d' h =
    subst (λ n. marks_at os size k d ≤ marks_at os size n d') h.0 (subst (λ b. marks_at os size k d ≤ marks_at os size k b) h.1 (omega arith))
marks-lead os size k d (w ∷ ws) k' d' h =
    let one : marks_at os size k d ≤ marks_at os size (chunks_on k d) (due_on d) = marks-rise os size k d h.1 in
    let rest : marks_at os size (chunks_on k d) (due_on d) ≤ marks_at os size k' d' = marks-lead os size (chunks_on k d) (due_on d) ws k' d' h.2 in
    omega arith

-- The receiver has what was given up to a place, and the words on their way lead on from there.
record Settled (s : Sending) (r : Receiving) (down : List Word) (up : List ℕ) : Type 0 where
  k : ℕ
  d : Bool
  valid : (k - 1) * size_of s < length s.octets
  there : IsAt s.number s.octets (size_of s) k d r
  leads : Leads s.octets (size_of s) k d down s.chunks s.due
  confirms : Confirms_from s.confirmed up (marks_at s.octets (size_of s) k d)

-- The start or a resumption is on its way, and what follows leads on from the highest confirmed mark.
record Resuming (s : Sending) (r : Receiving) (down : List Word) (up : List ℕ) : Type 0 where
  word : Word
  rest : List Word
  first : down ≡ word ∷ rest
  none : up ≡ []
  quiet : confirmations word ≡ []
  no_end : (n : ℕ) → word ≡ Finish n → ⊥
  leads : Leads s.octets (size_of s) s.confirmed false rest s.chunks s.due
  takes : Taken s.number s.octets (size_of s) s.confirmed false r word
  resumes : Taken s.number s.octets (size_of s) s.confirmed false r (Resume s.number s.confirmed)

record Holds (s : Sending) (r : Receiving) (down : List Word) (up : List ℕ) : Type 0 where
  may : MayStart s.number s.octets s.checkpoint s.window
  some_due : s.due ≡ true → 1 ≤ s.chunks
  before : s.confirmed * size_of s < length s.octets
  numbered : (r.number ≡ s.number) ⊎ (s.number ≡ r.number + 1)
  state : Settled s r down up ⊎ Resuming s r down up

abbrev Good : Exchange → Type 0
Good e = Holds e.sender e.receiver e.down e.up

good-begun : (number : ℕ) (os : List ℕ) (checkpoint window : ℕ) (r : Receiving) → MayStart number os checkpoint window → number ≡ r.number + 1 → Good (begun (sent.started number os checkpoint window) r)
good-begun number os checkpoint window r may behind =
    let s : Sending = sent.started number os checkpoint window in
    record {
      may = may;
      some_due = λ e. cc;
      before = rw (zero-mul (size_of s)) may.some;
      numbered = inr behind;
      state = inr (record {
        word = Start number;
        rest = [];
        first = refl;
        none = refl;
        quiet = refl;
        no_end = λ n e. cc;
        leads = (refl, refl);
        takes = start-taken number os (size_of s) r may.some behind;
        resumes = anew-taken number os (size_of s) r may.some behind;
      });
    }

good-breaks : (e : Exchange) → Good e → Good (happened e Breaks)
good-breaks e h =
    record {
      may = h.may;
      some_due = λ x. cc;
      before = h.before;
      numbered = h.numbered;
      state =
          let again : Taken e.sender.number e.sender.octets (size_of e.sender) e.sender.confirmed false e.receiver (Resume e.sender.number e.sender.confirmed) = resumes_from e h.state h.may.numbered.0 h.before in
          inr (record {
            word = Resume e.sender.number e.sender.confirmed;
            rest = [];
            first = refl;
            none = refl;
            quiet = refl;
            no_end = λ n x. cc;
            leads = (refl, refl);
            takes = again;
            resumes = again;
          });
    }
  where
    resumes_from : (e : Exchange) → Settled e.sender e.receiver e.down e.up ⊎ Resuming e.sender e.receiver e.down e.up → 1 ≤ e.sender.number → e.sender.confirmed * size_of e.sender < length e.sender.octets → Taken e.sender.number e.sender.octets (size_of e.sender) e.sender.confirmed false e.receiver (Resume e.sender.number e.sender.confirmed)
    resumes_from e (inr x) some before = x.resumes
    resumes_from e (inl x) some before =
        let marked : e.sender.confirmed ≤ marks_at e.sender.octets (size_of e.sender) x.k x.d = confirms-le e.sender.confirmed e.up _ x.confirms in
        let most : marks_at e.sender.octets (size_of e.sender) x.k x.d ≤ x.k = marks-le e.sender.octets (size_of e.sender) x.k x.d in
        let within : e.sender.confirmed ≤ x.k = omega arith in
        back-taken e.sender.number e.sender.octets (size_of e.sender) x.k x.d e.receiver e.sender.confirmed some marked within before x.there

good-renews : (e : Exchange) (os : List ℕ) (checkpoint window : ℕ) → Good e → MayStart e.sender.number os checkpoint window → Good (happened e (Renews os checkpoint window))
good-renews e os checkpoint window h may =
    let s : Sending = sent.started e.sender.number os checkpoint window in
    let again : Taken e.sender.number os (size_of s) 0 false e.receiver (Resume e.sender.number 0) = renewed-taken e.sender.number os (size_of s) e.receiver may.numbered.0 may.some h.numbered in
    record {
      may = may;
      some_due = λ x. cc;
      before = rw (zero-mul (size_of s)) may.some;
      numbered = h.numbered;
      state = inr (record {
        word = Resume e.sender.number 0;
        rest = [];
        first = refl;
        none = refl;
        quiet = refl;
        no_end = λ n x. cc;
        leads = (refl, refl);
        takes = again;
        resumes = again;
      });
    }

-- ---- the sender gives

or-left : (a b : Bool) → (a || b) ≡ false → a ≡ false
or-left true b h = cc
or-left false b h = refl

words-behind : (b : Bool) (k : ℕ) → words_of (if b then End k else Mark k) ≡ (if b then Finish k else Point k) ∷ []
words-behind true k = refl
words-behind false k = refl

-- what a sender gives that doesn't wait is the word behind its place
gives-so : (s : Sending) (b : Bool) → s.due ≡ b → waits s ≡ false → words_of (step_of s) ≡ word_at s.octets (size_of s) s.chunks s.due ∷ []
gives-so s true e w = rw (w, e) (words-behind (nat_le (length s.octets) (s.chunks * size_of s)) s.chunks)
gives-so s false e w = rw (w, e) refl

goes-on : (s : Sending) (b : Bool) → s.due ≡ b → waits s ≡ false → stepped s ≡ record s { chunks = chunks_on s.chunks s.due; due = due_on s.due }
goes-on s true e w = rw (w, e) refl
goes-on s false e w = rw (w, e) refl

closed-on : (k : ℕ) (b : Bool) → (b ≡ true → 1 ≤ k) → chunks_on k b ≡ closed k b + 1
closed-on k true h = let some : 1 ≤ k = h refl in omega arith
closed-on k false h = refl

is-open : (s : Sending) → waits s ≡ false → (s.due ≡ true → 1 ≤ s.chunks) → IsOpen s.octets (size_of s) s.chunks s.due
is-open s w some =
    (leb-false (length s.octets) (closed s.chunks s.due * size_of s) (or-left (is_ended s) _ w), closed-on s.chunks s.due some)

some-on : (k : ℕ) (b : Bool) → due_on b ≡ true → 1 ≤ chunks_on k b
some-on k true h = cc
some-on k false h = omega arith

-- one more word is on its way
one-more : (s : Sending) (r : Receiving) (down : List Word) (up : List ℕ) → IsOpen s.octets (size_of s) s.chunks s.due → Holds s r down up → Holds (record s { chunks = chunks_on s.chunks s.due; due = due_on s.due }) r (down ++ word_at s.octets (size_of s) s.chunks s.due ∷ []) up
one-more s r down up free h =
    record {
      may = h.may;
      some_due = some-on s.chunks s.due;
      before = h.before;
      numbered = h.numbered;
      state = on h.state;
    }
  where
    on : Settled s r down up ⊎ Resuming s r down up → Settled (record s { chunks = chunks_on s.chunks s.due; due = due_on s.due }) r (down ++ word_at s.octets (size_of s) s.chunks s.due ∷ []) up ⊎ Resuming (record s { chunks = chunks_on s.chunks s.due; due = due_on s.due }) r (down ++ word_at s.octets (size_of s) s.chunks s.due ∷ []) up
    on (inl x) = inl (record {
      k = x.k;
      d = x.d;
      valid = x.valid;
      there = x.there;
      leads = leads-on s.octets (size_of s) x.k x.d down s.chunks s.due free x.leads;
      confirms = x.confirms;
    })
    on (inr x) = inr (record {
      word = x.word;
      rest = x.rest ++ word_at s.octets (size_of s) s.chunks s.due ∷ [];
      first = ap (λ ws. ws ++ word_at s.octets (size_of s) s.chunks s.due ∷ []) x.first;
      none = x.none;
      quiet = x.quiet;
      no_end = x.no_end;
      leads = leads-on s.octets (size_of s) s.confirmed false x.rest s.chunks s.due free x.leads;
      takes = x.takes;
      resumes = x.resumes;
    })

nil-on : (ws : List Word) → ws ++ [] ≡ ws
nil-on [] = refl
nil-on (w ∷ ws) = ap (λ xs. w ∷ xs) (nil-on ws)

given-or-not : (s : Sending) (r : Receiving) (down : List Word) (up : List ℕ) (b : Bool) → waits s ≡ b → Holds s r down up → Holds (stepped s) r (down ++ words_of (step_of s)) up
given-or-not s r down up true w h = rw w (rw (nil-on down) h)
given-or-not s r down up false w h =
    subst (λ x. Holds x r (down ++ words_of (step_of s)) up) (sym (goes-on s s.due refl w))
    (subst (λ ws. Holds (record s { chunks = chunks_on s.chunks s.due; due = due_on s.due }) r (down ++ ws) up) (sym (gives-so s s.due refl w))
    (one-more s r down up (is-open s w h.some_due) h))

-- ---- the sender takes a confirmation

confirmed-so : (s : Sending) (r : Receiving) (down : List Word) (n : ℕ) (rest : List ℕ) → Holds s r down (n ∷ rest) → IsNext s n × Holds (record s { confirmed = n }) r down rest
confirmed-so s r down n rest h = by h.state
  where
    by : Settled s r down (n ∷ rest) ⊎ Resuming s r down (n ∷ rest) → IsNext s n × Holds (record s { confirmed = n }) r down rest
    by (inr x) = let none : n ∷ rest ≡ [] = x.none in absurd (cc)
    by (inl x) =
        let within : n ≤ marks_at s.octets (size_of s) x.k x.d = confirms-le n rest _ x.confirms.1 in
        let given : marks_at s.octets (size_of s) x.k x.d ≤ marks_given s = marks-lead s.octets (size_of s) x.k x.d down s.chunks s.due x.leads in
        let at_mark : n * size_of s ≤ marks_at s.octets (size_of s) x.k x.d * size_of s = mul-le-mul_right (size_of s) within in
        let inside : marks_at s.octets (size_of s) x.k x.d * size_of s < length s.octets = marks-before s.octets (size_of s) x.k x.d x.valid in (
          (x.confirms.0, omega arith),
          record {
            may = h.may;
            some_due = h.some_due;
            before = omega arith;
            numbered = h.numbered;
            state = inl (record { k = x.k; d = x.d; valid = x.valid; there = x.there; leads = x.leads; confirms = x.confirms.1 });
          },
        )

-- ---- the receiver takes a word

-- it is taken, and all goes on
record Goes_on (s : Sending) (r : Receiving) (word : Word) (rest : List Word) (up : List ℕ) : Type 0 where
  next : Receiving
  taken : came word r ≡ Ok next
  holds : Holds s next rest (up ++ confirmations word)

nil-up : (ns : List ℕ) → ns ++ [] ≡ ns
nil-up [] = refl
nil-up (n ∷ ns) = ap (λ xs. n ∷ xs) (nil-up ns)

-- a word is taken at a place, after which these confirmations are on their way
settles : (s : Sending) (r : Receiving) (down : List Word) (up : List ℕ) (word : Word) (rest : List Word) (up' : List ℕ) (k : ℕ) (d : Bool) → Holds s r down up → (k - 1) * size_of s < length s.octets → Leads s.octets (size_of s) k d rest s.chunks s.due → Confirms_from s.confirmed up' (marks_at s.octets (size_of s) k d) → up ++ confirmations word ≡ up' → Taken s.number s.octets (size_of s) k d r word → Goes_on s r word rest up
settles s r down up word rest up' k d h valid leads confirms same t =
    record {
      next = t.record_after;
      taken = t.is_taken;
      holds = record {
        may = h.may;
        some_due = h.some_due;
        before = h.before;
        numbered = inl t.is_there.numbered;
        state = inl (record { k = k; d = d; valid = valid; there = t.is_there; leads = leads; confirms = subst (λ ns. Confirms_from s.confirmed ns (marks_at s.octets (size_of s) k d)) (sym same) confirms });
      };
    }

takes-part : (s : Sending) (r : Receiving) (word : Word) (rest : List Word) (up : List ℕ) (k : ℕ) → Holds s r (word ∷ rest) up → IsAt s.number s.octets (size_of s) k false r → Leads s.octets (size_of s) k false (word ∷ rest) s.chunks s.due → Confirms_from s.confirmed up (marks_at s.octets (size_of s) k false) → Goes_on s r word rest up
takes-part s r word rest up k h there leads confirms =
    let e : k + 1 - 1 ≡ k = omega arith in
    let marks : marks_at s.octets (size_of s) (k + 1) true ≡ marks_at s.octets (size_of s) k false = ap (λ n. if nat_le (length s.octets) (n * size_of s) then n - 1 else n) e in
    subst (λ w. Goes_on s r w rest up) (sym leads.0)
    (settles s r (word ∷ rest) up (word_at s.octets (size_of s) k false) rest up (k + 1) true h
    (rw e leads.1.0) leads.2
    (subst (λ m. Confirms_from s.confirmed up m) (sym marks) confirms)
    (nil-up up)
    (part-taken s.number s.octets (size_of s) k r h.may.within there))

takes-finish : (s : Sending) (r : Receiving) (rest down : List Word) (up : List ℕ) (k : ℕ) → Holds s r down up → IsOpen s.octets (size_of s) k true → length s.octets ≤ k * size_of s → IsAt s.number s.octets (size_of s) k true r → Leads s.octets (size_of s) k false rest s.chunks s.due → Confirms_from s.confirmed up (marks_at s.octets (size_of s) k true) → Goes_on s r (Finish k) rest up
takes-finish s r rest down up k h free past there leads confirms =
    let marks : marks_at s.octets (size_of s) k true ≡ marks_at s.octets (size_of s) k false = marks-due s.octets (size_of s) k free.0 ∙ sym (marks-ended s.octets (size_of s) k past) in
    settles s r down up (Finish k) rest up k false h free.0 leads
    (subst (λ m. Confirms_from s.confirmed up m) marks confirms)
    (nil-up up)
    (finish-taken s.number s.octets (size_of s) k r free past there)

takes-mark : (s : Sending) (r : Receiving) (rest down : List Word) (up : List ℕ) (k : ℕ) → Holds s r down up → IsOpen s.octets (size_of s) k true → k * size_of s < length s.octets → IsAt s.number s.octets (size_of s) k true r → Leads s.octets (size_of s) k false rest s.chunks s.due → Confirms_from s.confirmed up (marks_at s.octets (size_of s) k true) → Goes_on s r (Point k) rest up
takes-mark s r rest down up k h free inside there leads confirms =
    let had : Confirms_from s.confirmed up (k - 1) = subst (λ m. Confirms_from s.confirmed up m) (marks-due s.octets (size_of s) k free.0) confirms in
    let on : Confirms_from s.confirmed (up ++ k ∷ []) k = subst (λ n. Confirms_from s.confirmed (up ++ n ∷ []) n) (sym free.1) (confirms-on s.confirmed up (k - 1) had) in
    settles s r down up (Point k) rest (up ++ k ∷ []) k false h free.0 leads
    (subst (λ m. Confirms_from s.confirmed (up ++ k ∷ []) m) (sym (marks-closed s.octets (size_of s) k inside)) on)
    refl
    (mark-taken s.number s.octets (size_of s) k r free inside there)

takes-point : (s : Sending) (r : Receiving) (word : Word) (rest : List Word) (up : List ℕ) (k : ℕ) → Holds s r (word ∷ rest) up → IsAt s.number s.octets (size_of s) k true r → Leads s.octets (size_of s) k true (word ∷ rest) s.chunks s.due → Confirms_from s.confirmed up (marks_at s.octets (size_of s) k true) → Goes_on s r word rest up
takes-point s r word rest up k h there leads confirms =
    subst (λ w. Goes_on s r w rest up) (sym leads.0)
    (elim (leb_tells (length s.octets) (k * size_of s)) [
      | inl t ↦ rw t.0 (takes-finish s r rest (word ∷ rest) up k h leads.1 t.1 there leads.2 confirms)
      | inr t ↦ rw t.0 (takes-mark s r rest (word ∷ rest) up k h leads.1 t.1 there leads.2 confirms)
    ])

settled-takes : (s : Sending) (r : Receiving) (word : Word) (rest : List Word) (up : List ℕ) (k : ℕ) (d : Bool) → Holds s r (word ∷ rest) up → IsAt s.number s.octets (size_of s) k d r → Leads s.octets (size_of s) k d (word ∷ rest) s.chunks s.due → Confirms_from s.confirmed up (marks_at s.octets (size_of s) k d) → Goes_on s r word rest up
settled-takes s r word rest up k true h there leads confirms = takes-point s r word rest up k h there leads confirms
settled-takes s r word rest up k false h there leads confirms = takes-part s r word rest up k h there leads confirms

first-of : Word → List Word → Word
first-of w [] = w
first-of w (x ∷ xs) = x

without-first : List Word → List Word
without-first [] = []
without-first (x ∷ xs) = xs

resuming-takes : (s : Sending) (r : Receiving) (word : Word) (rest : List Word) (up : List ℕ) → Holds s r (word ∷ rest) up → Resuming s r (word ∷ rest) up → Goes_on s r word rest up
unfolding first-of without-first
resuming-takes s r word rest up h x =
    let w : word ≡ x.word = ap (first-of word) x.first in
    let ws : rest ≡ x.rest = ap without-first x.first in
    let quiet : up ++ confirmations word ≡ [] = ap (λ ns. ns ++ confirmations word) x.none ∙ ap confirmations w ∙ x.quiet in
    let e : s.confirmed - 1 ≤ s.confirmed = omega arith in
    let inside : (s.confirmed - 1) * size_of s ≤ s.confirmed * size_of s = mul-le-mul_right (size_of s) e in
    let before : s.confirmed * size_of s < length s.octets = h.before in
    settles s r (word ∷ rest) up word rest [] s.confirmed false h (omega arith)
    (subst (λ xs. Leads s.octets (size_of s) s.confirmed false xs s.chunks s.due) (sym ws) x.leads)
    (sym (marks-closed s.octets (size_of s) s.confirmed h.before))
    quiet
    (subst (λ v. Taken s.number s.octets (size_of s) s.confirmed false r v) (sym w) x.takes)

goes-on_from : (s : Sending) (r : Receiving) (word : Word) (rest : List Word) (up : List ℕ) → Holds s r (word ∷ rest) up → Settled s r (word ∷ rest) up ⊎ Resuming s r (word ∷ rest) up → Goes_on s r word rest up
goes-on_from s r word rest up h (inl x) = settled-takes s r word rest up x.k x.d h x.there x.leads x.confirms
goes-on_from s r word rest up h (inr x) = resuming-takes s r word rest up h x

word-goes_on : (s : Sending) (r : Receiving) (word : Word) (rest : List Word) (up : List ℕ) → Holds s r (word ∷ rest) up → Goes_on s r word rest up
word-goes_on s r word rest up h = goes-on_from s r word rest up h h.state

-- ---- all events

takes-it : (e : Exchange) (down : List Word) → e.down ≡ down → Good e → Good (takes_first e down)
takes-it e [] same h = h
takes-it e (word ∷ rest) same h =
    let g : Goes_on e.sender e.receiver word rest e.up = word-goes_on e.sender e.receiver word rest e.up (subst (λ ws. Holds e.sender e.receiver ws e.up) same h) in
    rw g.taken g.holds

confirms-it : (e : Exchange) (up : List ℕ) → e.up ≡ up → Good e → Good (confirms_first e up)
confirms-it e [] same h = h
confirms-it e (n ∷ rest) same h =
    (confirmed-so e.sender e.receiver e.down n rest (subst (λ ns. Holds e.sender e.receiver e.down ns) same h)).1

good-happens : (e : Exchange) (event : Event) → MayHappen e event → Good e → Good (happened e event)
good-happens e SendsWords may h = given-or-not e.sender e.receiver e.down e.up (waits e.sender) refl h
good-happens e Takes may h = takes-it e e.down refl h
good-happens e Confirms may h = confirms-it e e.up refl h
good-happens e Breaks may h = good-breaks e h
good-happens e (Renews os checkpoint window) may h = good-renews e os checkpoint window h may

good-all : (e : Exchange) (events : List Event) → MayAllHappen e events → Good e → Good (exchange_of e events)
good-all e [] may h = h
good-all e (event ∷ events) may h = good-happens (exchange_of e events) event may.0 (good-all e events may.1 h)

good : (e : Exchange) → IsReached e → Good e
good e h =
    subst (λ x. Good x) (sym h.reached)
    (good-all (begun (sent.started h.number h.octets h.checkpoint h.window) h.before) h.events h.lawful
    (good-begun h.number h.octets h.checkpoint h.window h.before h.may h.behind))

pub nothing_refused : (e : Exchange) → IsReached e → NothingIsRefused e
nothing_refused e reached =
    let h : Good e = good e reached in
    record {
      taken = λ word rest same.
          let g : Goes_on e.sender e.receiver word rest e.up = word-goes_on e.sender e.receiver word rest e.up (subst (λ ws. Holds e.sender e.receiver ws e.up) same h) in
          (g.next, g.taken);
      confirmed = λ n rest same.
          (confirmed-so e.sender e.receiver e.down n rest (subst (λ ns. Holds e.sender e.receiver e.down ns) same h)).0;
    }

-- ---- the end

take-most : (n : ℕ) (xs : List ℕ) → length xs ≤ n → take n xs ≡ xs
take-most n [] h = take-nil n
take-most zero (x ∷ xs) h = absurd (omega arith)
take-most (suc n) (x ∷ xs) h = ap (λ ys. x ∷ ys) (take-most n xs (omega arith))

whole-end : (s : Sending) (r : Receiving) (k : ℕ) → IsOpen s.octets (size_of s) k true → length s.octets ≤ k * size_of s → IsAt s.number s.octets (size_of s) k true r → r.handed_up ≡ false → received.ended k r ≡ Ok (Whole s.octets, record r { handed_up = true })
whole-end s r k free past there fresh =
    let all : r.octets ≡ s.octets = there.came_so_far ∙ take-most (k * size_of s) s.octets past in
    rw (eq-eqb k (received.highest r + 1) (next-mark s.number s.octets (size_of s) k r free there), fresh, all) refl

not-part : (n : ℕ) (os : List ℕ) → Finish n ≡ Part os → ⊥
not-part n os h = cc

finish-ends : (s : Sending) (r : Receiving) (n k : ℕ) (d : Bool) → Finish n ≡ word_at s.octets (size_of s) k d → IsOpen s.octets (size_of s) k d → IsAt s.number s.octets (size_of s) k d r → r.handed_up ≡ false → received.ended n r ≡ Ok (Whole s.octets, record r { handed_up = true })
finish-ends s r n k false h free there fresh = absurd (not-part n _ h)
finish-ends s r n k true h free there fresh =
    elim (leb_tells (length s.octets) (k * size_of s)) [
      | inl t ↦
          let same : Finish n ≡ Finish k = h ∙ ap (λ b. if b then Finish k else Point k) t.0 in
          let number : n ≡ k = cc in
          rw number (whole-end s r k free t.1 there fresh)
      | inr t ↦
          let other : Finish n ≡ Point k = h ∙ ap (λ b. if b then Finish k else Point k) t.0 in
          absurd (cc)
    ]

pub whole : (e : Exchange) → IsReached e → ArrivesWhole e
unfolding first-of
whole e reached n rest same fresh =
    let h : Holds e.sender e.receiver (Finish n ∷ rest) e.up = subst (λ ws. Holds e.sender e.receiver ws e.up) same (good e reached) in
    by h.state
  where
    by : Settled e.sender e.receiver (Finish n ∷ rest) e.up ⊎ Resuming e.sender e.receiver (Finish n ∷ rest) e.up → received.ended n e.receiver ≡ Ok (Whole e.sender.octets, record e.receiver { handed_up = true })
    by (inl x) = finish-ends e.sender e.receiver n x.k x.d x.leads.0 x.leads.1 x.there fresh
    by (inr x) = absurd (x.no_end n (sym (ap (first-of (Finish n)) x.first)))
