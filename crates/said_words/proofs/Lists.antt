-- Sets, marks and alterations of an end of direct mode: identifiers of contexts, and how many there are.
use Rattle.std.proofs.Common.{◌≡◌, refl, true, false, ◌∙◌, sym, ap, subst, arith, ℕ, suc, ◌+◌, ◌≤◌, ◌<◌, List, [], ◌∷◌, ◌++◌, length}
use Rattle.std.specs.Prelude.{Bool, not, ◌||◌, Option, Some, None, is_some, find, nat_eq, nat_lt, if◌then◌else◌}
use Rattle.std.proofs.lemmas.Bool.Decides.{nat_tests}
use Rattle.osi_base.specs.declared.syntax.Pair.{Pair}
use Rattle.osi_base.specs.declared.layer_words.SetItem.{SetItem}
use Rattle.osi_base.specs.declared.layer_words.Proposal.{Proposal}
use Rattle.osi_base.specs.declared.layer_words.AddAnswer.{AddAnswer}
use Rattle.osi_base.specs.declared.layer_words.Answers.{Answers}
use Rattle.osi_base.specs.Limits.{most_marks, most_contexts}
use Rattle.end_model.specs.end_rules.Base.{Base}
use Rattle.end_model.specs.end_rules.Sets.{Alteration, Saved, is_among, put, put_accepted, pair_accepted, accepted_pair}
use Rattle.osi_base.specs.SetPlaces.{pair_of, without_context}
use Rattle.osi_base.specs.Syntax.{syntax_named}
use Rattle.end_model.specs.end_rules.Sets.{with_added, with_deleted, altered, count_added, below, newest, next_number, listed}
use Rattle.end_model.specs.end_rules.State.{Body}
use Rattle.end_model.specs.end_rules.Altering.{has_double}
use Rattle.end_model.specs.end_rules.Policy.{is_taken, takes_syntax, rejection, acceptance, answer_within, answer_to_addition, counted_with, answers_to_additions, policy}
use Rattle.reliable_model.proofs.Fixed.{AreIdentifiers}
use Rattle.said_words.specs.Fields.{IsContext, AreFew, AreRestored}

or-left : (a b : Bool) → (a || b) ≡ false → a ≡ false
or-left true b h = cc
or-left false b h = refl

or-right : (a b : Bool) → (a || b) ≡ false → b ≡ false
or-right true b h = cc
or-right false b h = h

eq-same : (a b : ℕ) → nat_eq a b ≡ true → a ≡ b
eq-same a b h = grind (arith, nat_tests)

-- ---- sets of identifiers of contexts

abbrev pub AreListed : List SetItem → Type 0
AreListed [] = Unit {0}
AreListed (item ∷ items) = IsContext item.id × AreListed items

pub listed-pair : (set : List SetItem) (k : ℕ) → AreListed set → is_some (pair_of set k) ≡ true → IsContext k
listed-pair [] k h e = cc
listed-pair (item ∷ items) k h e = go (listed-pair items k h.1) (nat_eq item.id k) refl e
  where
    go : (is_some (pair_of items k) ≡ true → IsContext k) → (b : Bool) → nat_eq item.id k ≡ b → is_some (if b then Some item.pair else pair_of items k) ≡ true → IsContext k
    go later true q e = subst IsContext (eq-same item.id k q) h.0
    go later false q e = later e

put-listed : (k : ℕ) (pair : Pair) (set : List SetItem) → IsContext k → AreListed set → AreListed (put k pair set)
put-listed k pair [] i h = (i, tt)
put-listed k pair (item ∷ items) i h = go (put-listed k pair items i h.1) (nat_lt k item.id) (nat_eq k item.id)
  where
    go : AreListed (put k pair items) → (a b : Bool) → AreListed (if a then record { id = k; pair = pair } ∷ item ∷ items else if b then record { id = k; pair = pair } ∷ items else item ∷ put k pair items)
    go later true b = (i, h)
    go later false true = (i, h.1)
    go later false false = (h.0, later)

put-few : (k : ℕ) (pair : Pair) (set : List SetItem) → length (put k pair set) ≤ suc (length set)
put-few k pair [] = omega arith
put-few k pair (item ∷ items) = go (put-few k pair items) (nat_lt k item.id) (nat_eq k item.id)
  where
    go : length (put k pair items) ≤ suc (length items) → (a b : Bool) → length (if a then record { id = k; pair = pair } ∷ item ∷ items else if b then record { id = k; pair = pair } ∷ items else item ∷ put k pair items) ≤ suc (suc (length items))
    go later true b = omega arith
    go later false true = omega arith
    go later false false = omega arith

without-listed : (k : ℕ) (set : List SetItem) → AreListed set → AreListed (without_context k set)
without-listed k [] h = tt
without-listed k (item ∷ items) h = go (without-listed k items h.1) (nat_eq item.id k)
  where
    go : AreListed (without_context k items) → (b : Bool) → AreListed (if b then without_context k items else item ∷ without_context k items)
    go later true = later
    go later false = (h.0, later)

without-few : (k : ℕ) (set : List SetItem) → length (without_context k set) ≤ length set
without-few k [] = omega arith
without-few k (item ∷ items) = go (without-few k items) (nat_eq item.id k)
  where
    go : length (without_context k items) ≤ length items → (b : Bool) → length (if b then without_context k items else item ∷ without_context k items) ≤ suc (length items)
    go later true = omega arith
    go later false = omega arith

without-fewer : (k : ℕ) (set : List SetItem) → is_some (pair_of set k) ≡ true → suc (length (without_context k set)) ≤ length set
without-fewer k [] h = cc
without-fewer k (item ∷ items) h = go (without-few k items) (without-fewer k items) (nat_eq item.id k) h
  where
    go : length (without_context k items) ≤ length items → (is_some (pair_of items k) ≡ true → suc (length (without_context k items)) ≤ length items) → (b : Bool) → is_some (if b then Some item.pair else pair_of items k) ≡ true → suc (length (if b then without_context k items else item ∷ without_context k items)) ≤ suc (length items)
    go few later true h = omega arith
    go few later false h = let l = later h in omega arith

-- ---- additions and deletions

accepted-listed : (k : ℕ) (p : Option Pair) (set : List SetItem) → IsContext k → AreListed set → AreListed (put_accepted k p set)
accepted-listed k None set i h = h
accepted-listed k (Some pair) set i h = put-listed k pair set i h

accepted-few : (k : ℕ) (p : Option Pair) (set : List SetItem) → length (put_accepted k p set) ≤ suc (length set)
accepted-few k None set = omega arith
accepted-few k (Some pair) set = put-few k pair set

pub added-listed : (ps : List Proposal) (answers : List AddAnswer) (set : List SetItem) → AreIdentifiers ps → AreListed set → AreListed (with_added ps answers set)
added-listed [] answers set f h = h
added-listed (p ∷ ps) [] set f h = h
added-listed (p ∷ ps) (answer ∷ answers) set f h =
    added-listed ps answers (put_accepted p.id (pair_accepted p answer) set) f.1 (accepted-listed p.id (pair_accepted p answer) set (f.0.low, f.0.high) h)

added-few : (ps : List Proposal) (answers : List AddAnswer) (set : List SetItem) → length (with_added ps answers set) ≤ length ps + length set
added-few [] answers set = omega arith
added-few (p ∷ ps) [] set = omega arith
added-few (p ∷ ps) (answer ∷ answers) set =
    let a = added-few ps answers (put_accepted p.id (pair_accepted p answer) set) in
    let b = accepted-few p.id (pair_accepted p answer) set in
    omega arith

deleted-listed : (js answers : List ℕ) (set : List SetItem) → AreListed set → AreListed (with_deleted js answers set)
deleted-listed [] answers set h = h
deleted-listed (j ∷ js) [] set h = h
deleted-listed (j ∷ js) (answer ∷ answers) set h = deleted-listed js answers (if nat_eq answer 0 then without_context j set else set) (go (nat_eq answer 0))
  where
    go : (b : Bool) → AreListed (if b then without_context j set else set)
    go true = without-listed j set h
    go false = h

deleted-few : (js answers : List ℕ) (set : List SetItem) → length (with_deleted js answers set) ≤ length set
deleted-few [] answers set = omega arith
deleted-few (j ∷ js) [] set = omega arith
deleted-few (j ∷ js) (answer ∷ answers) set =
    let a = deleted-few js answers (if nat_eq answer 0 then without_context j set else set) in
    let b = go (nat_eq answer 0) in
    omega arith
  where
    go : (b : Bool) → length (if b then without_context j set else set) ≤ length set
    go true = without-few j set
    go false = omega arith

pub altered-listed : (a : Alteration) (answers : Answers) (set : List SetItem) → AreIdentifiers a.add → AreListed set → AreListed (altered a answers set)
altered-listed a answers set f h = deleted-listed a.delete answers.deleted (with_added a.add answers.added set) (added-listed a.add answers.added set f h)

pub altered-few : (a : Alteration) (answers : Answers) (set : List SetItem) → length (altered a answers set) ≤ length a.add + length set
altered-few a answers set =
    let x = deleted-few a.delete answers.deleted (with_added a.add answers.added set) in
    let y = added-few a.add answers.added set in
    omega arith

-- ---- an end accepts no more than there is room for

record Room (more count : ℕ) (set : List SetItem) : Type 0 where
  fits : length set + more ≤ count
  most : count ≤ 64

answered-room : (more count : ℕ) (p : Proposal) (set : List SetItem) (b : Bool) (o : Option (List ℕ)) → Room more count set → Room more (counted_with count (if b then rejection 1 else answer_within count o)) (put_accepted p.id (pair_accepted p (if b then rejection 1 else answer_within count o)) set)
answered-room more count p set true o r = r
answered-room more count p set false None r = r
answered-room more count p set false (Some syntax) r = go (nat_lt count most_contexts) refl
  where
    less : (n : ℕ) → nat_lt n 64 ≡ true → n < 64
    less n h = grind (arith, nat_tests)

    go : (c : Bool) → nat_lt count most_contexts ≡ c → Room more (counted_with count (if c then acceptance syntax else rejection 3)) (put_accepted p.id (pair_accepted p (if c then acceptance syntax else rejection 3)) set)
    go false e = r
    go true e =
        let l = less count e in
        let f : length set + more ≤ count = r.fits in
        let a = accepted-few p.id (accepted_pair p (syntax_named syntax)) set in
        record { fits = omega arith; most = omega arith }

policy-room : (base : Base) (connecting : Bool) (more count : ℕ) (ps : List Proposal) (set : List SetItem) → Room more count set → length (with_added ps (answers_to_additions base connecting count ps) set) + more ≤ 64
policy-room base connecting more count [] set r = let f : length set + more ≤ count = r.fits in let m : count ≤ 64 = r.most in omega arith
policy-room base connecting more count (p ∷ ps) set r =
    policy-room base connecting more (counted_with count (answer_to_addition base connecting count p)) ps (put_accepted p.id (pair_accepted p (answer_to_addition base connecting count p)) set)
    (answered-room more count p set (not (is_taken base connecting p.abstract_name)) (find (takes_syntax base connecting p.abstract_name) p.transfers) r)

pub opened-few : (base : Base) (ps : List Proposal) → length (with_added ps (answers_to_additions base true 0 ps) []) ≤ 64
opened-few base ps = let a = policy-room base true 0 0 ps [] (record { fits = omega arith; most = omega arith }) in omega arith

pub policy-few : (base : Base) (body : Body) (a : Alteration) → length body.sets.held + count_added body.sets.own ≤ 64 → length (altered a (policy base body a) body.sets.held) + count_added body.sets.own ≤ 64
policy-few base body a h =
    let n : ℕ = length body.sets.held + count_added body.sets.own in
    let x = policy-room base false (count_added body.sets.own) n a.add body.sets.held (record { fits = omega arith; most = h }) in
    let y = deleted-few a.delete (policy base body a).deleted (with_added a.add (policy base body a).added body.sets.held) in
    omega arith

-- ---- own alterations

pub count-append : (own : List Alteration) (a : Alteration) → count_added (own ++ a ∷ []) ≡ count_added own + length a.add
count-append [] a = omega arith
count-append (x ∷ own) a = let l = count-append own a in omega arith

abbrev pub AreAsked : List Alteration → Type 0
AreAsked [] = Unit {0}
AreAsked (a ∷ own) = AreIdentifiers a.add × AreAsked own

pub asked-append : (own : List Alteration) (a : Alteration) → AreAsked own → AreIdentifiers a.add → AreAsked (own ++ a ∷ [])
asked-append [] a h i = (i, tt)
asked-append (x ∷ own) a h i = (h.0, asked-append own a h.1 i)

pub few-identifiers : (ps : List Proposal) → AreFew ps → AreIdentifiers ps
few-identifiers [] h = tt
few-identifiers (p ∷ ps) h = (record { low = h.0.0; high = h.0.1 }, few-identifiers ps h.2)

-- ---- deletions of contexts that are there

abbrev pub AllThere : List ℕ → List SetItem → Type 0
AllThere [] set = Unit {0}
AllThere (j ∷ js) set = (is_some (pair_of set j) ≡ true) × AllThere js set

removed-other : (j k : ℕ) (set : List SetItem) → nat_eq j k ≡ false → pair_of (without_context j set) k ≡ pair_of set k
removed-other j k [] e = refl
removed-other j k (item ∷ items) e = go (removed-other j k items e) (nat_eq item.id j) refl
  where
    apart : (i : ℕ) → nat_eq i j ≡ true → nat_eq j k ≡ false → nat_eq i k ≡ false
    apart i h e = grind (arith, nat_tests)

    go : pair_of (without_context j items) k ≡ pair_of items k → (b : Bool) → nat_eq item.id j ≡ b → pair_of (if b then without_context j items else item ∷ without_context j items) k ≡ (if nat_eq item.id k then Some item.pair else pair_of items k)
    go later true h = later ∙ sym (ap (λ c. if c then Some item.pair else pair_of items k) (apart item.id h e))
    go later false h = ap (λ p. if nat_eq item.id k then Some item.pair else p) later

still-there : (j : ℕ) (js : List ℕ) (set : List SetItem) → is_among j js ≡ false → AllThere js set → AllThere js (without_context j set)
still-there j [] set n h = tt
still-there j (k ∷ ks) set n h =
    (ap is_some (removed-other j k set (or-left (nat_eq j k) (is_among j ks) n)) ∙ h.0, still-there j ks set (or-right (nat_eq j k) (is_among j ks) n) h.1)

pub there-few : (js : List ℕ) (set : List SetItem) → has_double js ≡ false → AllThere js set → length js ≤ length set
there-few [] set d h = omega arith
there-few (j ∷ js) set d h =
    let rest = there-few js (without_context j set) (or-right (is_among j js) (has_double js) d) (still-there j js set (or-left (is_among j js) (has_double js) d) h.1) in
    let one = without-fewer j set h.0 in
    omega arith

pub double-behind : (xs ys : List ℕ) → has_double (xs ++ ys) ≡ false → has_double ys ≡ false
double-behind [] ys h = h
double-behind (x ∷ xs) ys h = double-behind xs ys (or-right (is_among x (xs ++ ys)) (has_double (xs ++ ys)) h)

-- ---- marks

pub record IsHeld (set : List SetItem) : Type 0 where
  pub listed : AreListed set
  pub few : length set ≤ 64

-- the oldest has number 0
abbrev pub AreMarks : List Saved → Type 0
AreMarks [] = ⊥
AreMarks (mark ∷ []) = (mark.number ≡ 0) × IsHeld mark.set
AreMarks (mark ∷ more ∷ marks) = (mark.number ≤ most_marks) × IsHeld mark.set × AreMarks (more ∷ marks)

pub next-low : (marks : List Saved) → AreMarks marks → 1 ≤ next_number marks
next-low [] h = absurd h
next-low (mark ∷ []) h = omega arith
next-low (mark ∷ more ∷ marks) h = omega arith

pub next-high : (marks : List Saved) → AreMarks marks → next_number marks ≤ 65537
next-high [] h = absurd h
next-high (mark ∷ []) h = let z : mark.number ≡ 0 = h.0 in omega arith
next-high (mark ∷ more ∷ marks) h = let z : mark.number ≤ 65536 = h.0 in omega arith

pub newest-held : (marks : List Saved) → AreMarks marks → IsHeld (newest marks)
newest-held [] h = absurd h
newest-held (mark ∷ []) h = h.1
newest-held (mark ∷ more ∷ marks) h = h.1

pub below-marks : (n : ℕ) (marks : List Saved) → 1 ≤ n → AreMarks marks → AreMarks (below n marks)
below-marks n [] low h = absurd h
below-marks n (mark ∷ []) low h = go (nat_lt mark.number n) (first mark.number n h.0 low)
  where
    first : (m n : ℕ) → m ≡ 0 → 1 ≤ n → nat_lt m n ≡ true
    first m n e l = grind (arith, nat_tests)

    go : (b : Bool) → b ≡ true → AreMarks (if b then mark ∷ [] else [])
    go true e = h
    go false e = cc
below-marks n (mark ∷ more ∷ marks) low h = go (below-marks n (more ∷ marks) low h.2) (nat_lt mark.number n)
  where
    go : AreMarks (below n (more ∷ marks)) → (b : Bool) → AreMarks (if b then mark ∷ more ∷ marks else below n (more ∷ marks))
    go later true = h
    go later false = later

pub marks-more : (mark : Saved) (marks : List Saved) → mark.number ≤ most_marks → IsHeld mark.set → AreMarks marks → AreMarks (mark ∷ marks)
marks-more mark [] n s h = absurd h
marks-more mark (more ∷ marks) n s h = (n, s, h)

-- ---- a set as a restart lists it

pub listed-restored : (set : List SetItem) → AreListed set → AreRestored (listed set)
listed-restored [] h = tt
listed-restored (item ∷ items) h = (h.0, (item.pair.transfer, refl), listed-restored items h.1)

pub listed-few : (set : List SetItem) → length (listed set) ≡ length set
listed-few [] = refl
listed-few (item ∷ items) = ap suc (listed-few items)
