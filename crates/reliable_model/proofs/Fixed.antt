-- What alterations and openings make of the contexts of a set: those of the association stay, and each other one has the module's
-- abstract syntax.
use Rattle.std.proofs.Common.{◌≡◌, refl, true, false, ◌∙◌, sym, ap, subst, arith, ℕ, ◌≤◌, List, [], ◌∷◌, ◌++◌, map, ◌⊎◌, inl, inr}
use Rattle.std.specs.Prelude.{Bool, not, ◌&&◌, ◌||◌, Option, Some, None, is_some, find, nat_eq, nat_lt, if◌then◌else◌}
use Rattle.std.specs.List.{list_any}
use Rattle.std.proofs.lemmas.Bool.Decides.{nat_tests}
use Rattle.std.proofs.lemmas.List.{append-nil}
use Rattle.osi_base.specs.declared.syntax.Pair.{Pair}
use Rattle.osi_base.specs.declared.syntax.Syntax.{Syntax}
use Rattle.osi_base.specs.declared.layer_words.SetItem.{SetItem}
use Rattle.osi_base.specs.declared.layer_words.Proposal.{Proposal}
use Rattle.osi_base.specs.declared.layer_words.AddAnswer.{AddAnswer}
use Rattle.osi_base.specs.declared.layer_words.Answers.{Answers}
use Rattle.osi_base.specs.Limits.{highest_context}
use Rattle.end_model.specs.dialogue.declared.call.CallRefusal.{CallRefusal}
use Rattle.end_model.specs.end_rules.Base.{Base}
use Rattle.end_model.specs.end_rules.Sets.{Alteration, same_name, is_among, put, put_accepted, pair_accepted, accepted_pair}
use Rattle.osi_base.specs.SetPlaces.{pair_of, without_context}
use Rattle.osi_base.specs.Proposals.{has_bad_transfers}
use Rattle.osi_base.specs.Syntax.{acse_name, rtse_name}
use Rattle.end_model.specs.end_rules.Sets.{named_syntax, with_added, with_deleted, altered, named_ids, proposed_ids, is_named_in, has_abstract, is_fixed, has_parity}
use Rattle.end_model.specs.end_rules.Altering.{has_double, is_no_context, is_bad, used, addition_refusal, additions_refusal}
use Rattle.end_model.specs.end_rules.Altering.{deletion_refusal, deletions_refusal, or_else}
use Rattle.end_model.specs.end_rules.State.{Body, is_empty}
use Rattle.end_model.specs.end_rules.Policy.{is_taken, takes_syntax, rejection, answer_within, answer_to_addition}
use Rattle.end_model.specs.end_rules.Policy.{counted_with, answers_to_additions, answer_to_deletion, policy, is_faulty_proposal}
use Rattle.agreement.specs.Sets.{IsRising}
use Rattle.agreement.proofs.Order.{rising-put, rising-remove}
use Rattle.end_model.specs.Seen.{pair_seen, set_seen}
use Rattle.end_model.proofs.Altered.{put-seen, without-seen}
use Rattle.end_model.proofs.Fitting.{one-name}
use Rattle.reliable_model.proofs.Contexts.{other-put, others-added}

or-left : (a b : Bool) → (a || b) ≡ false → a ≡ false
or-left true b h = cc
or-left false b h = refl

or-right : (a b : Bool) → (a || b) ≡ false → b ≡ false
or-right true b h = cc
or-right false b h = h

eq-other : (a b : ℕ) → nat_eq a b ≡ false → nat_eq b a ≡ false
eq-other a b h = grind (arith, nat_tests)

eq-same : (a b : ℕ) → nat_eq a b ≡ true → a ≡ b
eq-same a b h = grind (arith, nat_tests)

eq-itself : (n : ℕ) → nat_eq n n ≡ true
eq-itself n = grind (arith, nat_tests)

clash : (x : Bool) → x ≡ true → x ≡ false → ⊥
clash x h i = cc

pub fixed-there : (p : Option Pair) → is_fixed p ≡ true → is_some p ≡ true
fixed-there None h = cc
fixed-there (Some pair) h = refl

-- ---- what a deletion leaves alone

removed-other : (j k : ℕ) (set : List SetItem) → nat_eq j k ≡ false → pair_of (without_context j set) k ≡ pair_of set k
removed-other j k [] e = refl
removed-other j k (item ∷ items) e = go (removed-other j k items e) (nat_eq item.id j) refl
  where
    apart : (i : ℕ) → nat_eq i j ≡ true → nat_eq j k ≡ false → nat_eq i k ≡ false
    apart i h e = grind (arith, nat_tests)

    go : pair_of (without_context j items) k ≡ pair_of items k → (b : Bool) → nat_eq item.id j ≡ b → pair_of (if b then without_context j items else item ∷ without_context j items) k ≡ (if nat_eq item.id k then Some item.pair else pair_of items k)
    go later true h = later ∙ sym (ap (λ c. if c then Some item.pair else pair_of items k) (apart item.id h e))
    go later false h = ap (λ p. if nat_eq item.id k then Some item.pair else p) later

removed-itself : (k : ℕ) (set : List SetItem) → pair_of (without_context k set) k ≡ None
removed-itself k [] = refl
removed-itself k (item ∷ items) = go (removed-itself k items) (nat_eq item.id k) refl
  where
    go : pair_of (without_context k items) k ≡ None → (b : Bool) → nat_eq item.id k ≡ b → pair_of (if b then without_context k items else item ∷ without_context k items) k ≡ None
    go later true h = later
    go later false h = ap (λ c. if c then Some item.pair else pair_of (without_context k items) k) h ∙ later

put-itself : (k : ℕ) (p : Pair) (set : List SetItem) → pair_of (put k p set) k ≡ Some p
put-itself k p [] = ap (λ c. if c then Some p else None) (eq-itself k)
put-itself k p (item ∷ items) = go (put-itself k p items) (nat_lt k item.id) refl (nat_eq k item.id) refl
  where
    apart : (i : ℕ) → nat_lt k i ≡ false → nat_eq k i ≡ false → nat_eq i k ≡ false
    apart i h e = grind (arith, nat_tests)

    go : pair_of (put k p items) k ≡ Some p → (a : Bool) → nat_lt k item.id ≡ a → (b : Bool) → nat_eq k item.id ≡ b → pair_of (if a then record { id = k; pair = p } ∷ item ∷ items else if b then record { id = k; pair = p } ∷ items else item ∷ put k p items) k ≡ Some p
    go later true h b i = ap (λ c. if c then Some p else pair_of (item ∷ items) k) (eq-itself k)
    go later false h true i = ap (λ c. if c then Some p else pair_of items k) (eq-itself k)
    go later false h false i = ap (λ c. if c then Some item.pair else pair_of (put k p items) k) (apart item.id h i) ∙ later

-- none of the deletions that are accepted is of this context
abbrev pub Unharmed : ℕ → List ℕ → List ℕ → Type 0
Unharmed k [] answers = Unit {0}
Unharmed k (j ∷ js) [] = Unit {0}
Unharmed k (j ∷ js) (answer ∷ answers) = ((nat_eq j k ≡ false) ⊎ (nat_eq answer 0 ≡ false)) × Unharmed k js answers

others-deleted : (js answers : List ℕ) (set : List SetItem) (k : ℕ) → Unharmed k js answers → pair_of (with_deleted js answers set) k ≡ pair_of set k
others-deleted [] answers set k h = refl
others-deleted (j ∷ js) [] set k h = refl
others-deleted (j ∷ js) (answer ∷ answers) set k h =
    others-deleted js answers (if nat_eq answer 0 then without_context j set else set) k h.1 ∙ go (nat_eq answer 0) refl h.0
  where
    go : (b : Bool) → nat_eq answer 0 ≡ b → (nat_eq j k ≡ false) ⊎ (nat_eq answer 0 ≡ false) → pair_of (if b then without_context j set else set) k ≡ pair_of set k
    go false e h = refl
    go true e (inl n) = removed-other j k set n
    go true e (inr n) = absurd (clash (nat_eq answer 0) e n)

pub others-altered : (a : Alteration) (answers : Answers) (set : List SetItem) (k : ℕ) → is_among k (proposed_ids a.add) ≡ false → Unharmed k a.delete answers.deleted → pair_of (altered a answers set) k ≡ pair_of set k
others-altered a answers set k n u =
    others-deleted a.delete answers.deleted (with_added a.add answers.added set) k u ∙ others-added a.add answers.added set k n

pub unnamed-unharmed : (k : ℕ) (js answers : List ℕ) → is_among k js ≡ false → Unharmed k js answers
unnamed-unharmed k [] answers h = tt
unnamed-unharmed k (j ∷ js) [] h = tt
unnamed-unharmed k (j ∷ js) (answer ∷ answers) h =
    (inl (eq-other k j (or-left (nat_eq k j) (is_among k js) h)), unnamed-unharmed k js answers (or-right (nat_eq k j) (is_among k js) h))

or-true : (b : Bool) → (b || true) ≡ true
or-true true = refl
or-true false = refl

-- a fixed context isn't deleted by the answers of an end
pub fixed-unharmed : (body : Body) (k : ℕ) (js : List ℕ) → is_fixed (pair_of body.sets.held k) ≡ true → Unharmed k js (map (answer_to_deletion body) js)
fixed-unharmed body k [] h = tt
fixed-unharmed body k (j ∷ js) h = (go (nat_eq j k) refl, fixed-unharmed body k js h)
  where
    kept : (b : Bool) → b ≡ true → nat_eq (if b then 1 else 0) 0 ≡ false
    kept true e = refl
    kept false e = cc

    go : (b : Bool) → nat_eq j k ≡ b → (nat_eq j k ≡ false) ⊎ (nat_eq (answer_to_deletion body j) 0 ≡ false)
    go false e = inl e
    go true e =
        let same : j ≡ k = eq-same j k e in
        let fixed : is_fixed (pair_of body.sets.held j) ≡ true = subst (λ i. is_fixed (pair_of body.sets.held i) ≡ true) (sym same) h in
        inr (kept (is_among j (used body) || is_fixed (pair_of body.sets.held j)) (ap (λ b. is_among j (used body) || b) fixed ∙ or-true (is_among j (used body))))

-- ---- what is there isn't proposed

none-there : (q : Bool) (held : List SetItem) (k : ℕ) (ids : List ℕ) → list_any (λ j. is_some (pair_of held j) || not (has_parity q j)) ids ≡ false → is_some (pair_of held k) ≡ true → is_among k ids ≡ false
none-there q held k [] h there = refl
none-there q held k (j ∷ js) h there = go (λ r. none-there q held k js r there) (nat_eq k j) refl
  where
    first : (is_some (pair_of held j) || not (has_parity q j)) ≡ false
    first = or-left (is_some (pair_of held j) || not (has_parity q j)) (list_any (λ j. is_some (pair_of held j) || not (has_parity q j)) js) h

    rest : list_any (λ j. is_some (pair_of held j) || not (has_parity q j)) js ≡ false
    rest = or-right (is_some (pair_of held j) || not (has_parity q j)) (list_any (λ j. is_some (pair_of held j) || not (has_parity q j)) js) h

    go : (list_any (λ j. is_some (pair_of held j) || not (has_parity q j)) js ≡ false → is_among k js ≡ false) → (b : Bool) → nat_eq k j ≡ b → (b || is_among k js) ≡ false
    go later false e = later rest
    go later true e =
        absurd (clash (is_some (pair_of held j)) (subst (λ i. is_some (pair_of held i) ≡ true) (eq-same k j e) there) (or-left (is_some (pair_of held j)) (not (has_parity q j)) first))

pub unproposed : (q : Bool) (held : List SetItem) (k : ℕ) (add : List Proposal) → is_faulty_proposal q held add ≡ false → is_some (pair_of held k) ≡ true → is_among k (proposed_ids add) ≡ false
unproposed q held k add h there =
    none-there q held k (proposed_ids add) (or-right (has_double (proposed_ids add)) (list_any (λ j. is_some (pair_of held j) || not (has_parity q j)) (proposed_ids add)) h) there

none-first : (x y : Option CallRefusal) → or_else x y ≡ None → x ≡ None
none-first None y h = refl
none-first (Some refusal) y h = cc

none-second : (x y : Option CallRefusal) → or_else x y ≡ None → y ≡ None
none-second None y h = h
none-second (Some refusal) y h = cc

ladder : (a b c : Bool) (x y z : CallRefusal) → (if a then Some x else (if b then Some y else (if c then Some z else None))) ≡ None → c ≡ false
ladder true b c x y z h = cc
ladder false true c x y z h = cc
ladder false false true x y z h = cc
ladder false false false x y z h = refl

longer : (a b c d : Bool) (w x y z : CallRefusal) → (if a then Some w else (if b then Some x else (if c then Some y else (if d then Some z else None)))) ≡ None → c ≡ false
longer true b c d w x y z h = cc
longer false true c d w x y z h = cc
longer false false true d w x y z h = cc
longer false false false d w x y z h = refl

absent-added : (base : Base) (body : Body) (j : ℕ) → addition_refusal base body j ≡ None → is_some (pair_of body.sets.held j) ≡ false
absent-added base body j h = ladder (not (has_parity base.initiator j)) (is_named_in body.sets.own j) (is_some (pair_of body.sets.held j)) _ _ _ h

unfixed-deleted : (body : Body) (j : ℕ) → deletion_refusal body j ≡ None → is_fixed (pair_of body.sets.held j) ≡ false
unfixed-deleted body j h =
    longer (is_named_in body.sets.own j) (not (is_some (pair_of body.sets.held j))) (is_fixed (pair_of body.sets.held j)) (is_among j (used body)) _ _ _ _ h

-- so is what an own alteration names
pub unadded : (base : Base) (body : Body) (k : ℕ) (add : List Proposal) → additions_refusal base body add ≡ None → is_some (pair_of body.sets.held k) ≡ true → is_among k (proposed_ids add) ≡ false
unadded base body k [] h there = refl
unadded base body k (p ∷ ps) h there =
    go (unadded base body k ps (none-second (addition_refusal base body p.id) (additions_refusal base body ps) h) there) (nat_eq k p.id) refl
  where
    go : is_among k (proposed_ids ps) ≡ false → (b : Bool) → nat_eq k p.id ≡ b → (b || is_among k (proposed_ids ps)) ≡ false
    go later false e = later
    go later true e =
        absurd (clash (is_some (pair_of body.sets.held p.id)) (subst (λ i. is_some (pair_of body.sets.held i) ≡ true) (eq-same k p.id e) there)
        (absent-added base body p.id (none-first (addition_refusal base body p.id) (additions_refusal base body ps) h)))

pub undeleted : (body : Body) (k : ℕ) (delete : List ℕ) → deletions_refusal body delete ≡ None → is_fixed (pair_of body.sets.held k) ≡ true → is_among k delete ≡ false
undeleted body k [] h fixed = refl
undeleted body k (j ∷ js) h fixed = go (undeleted body k js (none-second (deletion_refusal body j) (deletions_refusal body js) h) fixed) (nat_eq k j) refl
  where
    go : is_among k js ≡ false → (b : Bool) → nat_eq k j ≡ b → (b || is_among k js) ≡ false
    go later false e = later
    go later true e =
        absurd (clash (is_fixed (pair_of body.sets.held j)) (subst (λ i. is_fixed (pair_of body.sets.held i) ≡ true) (eq-same k j e) fixed)
        (unfixed-deleted body j (none-first (deletion_refusal body j) (deletions_refusal body js) h)))

pub among-append : (k : ℕ) (xs ys : List ℕ) → is_among k xs ≡ false → is_among k ys ≡ false → is_among k (xs ++ ys) ≡ false
among-append k [] ys h i = i
among-append k (x ∷ xs) ys h i = go (or-left (nat_eq k x) (is_among k xs) h) (among-append k xs ys (or-right (nat_eq k x) (is_among k xs) h) i)
  where
    go : nat_eq k x ≡ false → is_among k (xs ++ ys) ≡ false → (nat_eq k x || is_among k (xs ++ ys)) ≡ false
    go e f = ap (λ b. b || is_among k (xs ++ ys)) e ∙ f

pub among-first : (k : ℕ) (xs ys : List ℕ) → is_among k (xs ++ ys) ≡ false → is_among k xs ≡ false
among-first k [] ys h = refl
among-first k (x ∷ xs) ys h = go (or-left (nat_eq k x) (is_among k (xs ++ ys)) h) (among-first k xs ys (or-right (nat_eq k x) (is_among k (xs ++ ys)) h))
  where
    go : nat_eq k x ≡ false → is_among k xs ≡ false → (nat_eq k x || is_among k xs) ≡ false
    go e f = ap (λ b. b || is_among k xs) e ∙ f

pub among-second : (k : ℕ) (xs ys : List ℕ) → is_among k (xs ++ ys) ≡ false → is_among k ys ≡ false
among-second k [] ys h = h
among-second k (x ∷ xs) ys h = among-second k xs ys (or-right (nat_eq k x) (is_among k (xs ++ ys)) h)

-- ---- identifiers of contexts

pub record IsIdentifier (k : ℕ) : Type 0 where
  pub low : 1 ≤ k
  pub high : k ≤ highest_context

abbrev pub AreIdentifiers : List Proposal → Type 0
AreIdentifiers [] = Unit {0}
AreIdentifiers (p ∷ ps) = IsIdentifier p.id × AreIdentifiers ps

identifier-so : (k : ℕ) → is_no_context k ≡ false → IsIdentifier k
identifier-so k h = record { low = low k (or-left (nat_eq k 0) (nat_lt highest_context k) h); high = high k (or-right (nat_eq k 0) (nat_lt highest_context k) h) }
  where
    low : (k : ℕ) → nat_eq k 0 ≡ false → 1 ≤ k
    low k h = grind (arith, nat_tests)

    high : (k : ℕ) → nat_lt 32767 k ≡ false → k ≤ 32767
    high k h = grind (arith, nat_tests)

all-identifiers : (add : List Proposal) (more : List ℕ) → list_any is_no_context (proposed_ids add ++ more) ≡ false → AreIdentifiers add
all-identifiers [] more h = tt
all-identifiers (p ∷ ps) more h =
    (identifier-so p.id (or-left (is_no_context p.id) (list_any is_no_context (proposed_ids ps ++ more)) h), all-identifiers ps more (or-right (is_no_context p.id) (list_any is_no_context (proposed_ids ps ++ more)) h))

pub listed-identifiers : (add : List Proposal) → list_any is_no_context (proposed_ids add) ≡ false → AreIdentifiers add
listed-identifiers add h = all-identifiers add [] (subst (λ ks. list_any is_no_context ks ≡ false) (sym (append-nil (proposed_ids add))) h)

-- an alteration that is asked for adds identifiers of contexts
pub good-identifiers : (a : Alteration) → is_bad a ≡ false → AreIdentifiers a.add
good-identifiers a h =
    all-identifiers a.add a.delete
    (or-right (is_empty (named_ids a) || has_double (named_ids a)) (list_any is_no_context (named_ids a))
    (or-left (is_empty (named_ids a) || has_double (named_ids a) || list_any is_no_context (named_ids a)) (list_any has_bad_transfers a.add) h))

-- ---- what is accepted

-- each addition that is accepted has an abstract syntax that is taken
abbrev pub AcceptTaken : Base → Bool → List Proposal → List AddAnswer → Type 0
AcceptTaken base connecting [] answers = Unit {0}
AcceptTaken base connecting (p ∷ ps) [] = Unit {0}
AcceptTaken base connecting (p ∷ ps) (answer ∷ answers) =
    ((pair : Pair) → pair_accepted p answer ≡ Some pair → is_taken base connecting pair.abstract_name ≡ true) × AcceptTaken base connecting ps answers

accepted-name : (p : Proposal) (s : Option Syntax) (pair : Pair) → accepted_pair p s ≡ Some pair → pair.abstract_name ≡ p.abstract_name
accepted-name p None pair h = cc
accepted-name p (Some syntax) pair h = let e : record { abstract_name = p.abstract_name; transfer = syntax } ≡ pair = cc in sym (ap (λ (q : Pair). q.abstract_name) e)

answer-taken : (base : Base) (connecting : Bool) (count : ℕ) (p : Proposal) (pair : Pair) → pair_accepted p (answer_to_addition base connecting count p) ≡ Some pair → is_taken base connecting pair.abstract_name ≡ true
answer-taken base connecting count p pair h = go (is_taken base connecting p.abstract_name) refl h
  where
    name : (answer : AddAnswer) → pair_accepted p answer ≡ Some pair → pair.abstract_name ≡ p.abstract_name
    name answer h = by (nat_eq answer.result 0) h
      where
        by : (b : Bool) → (if b then accepted_pair p (named_syntax answer.transfer) else None) ≡ Some pair → pair.abstract_name ≡ p.abstract_name
        by true h = accepted-name p (named_syntax answer.transfer) pair h
        by false h = cc

    go : (b : Bool) → is_taken base connecting p.abstract_name ≡ b → pair_accepted p (if not b then rejection 1 else answer_within count (find (takes_syntax base connecting p.abstract_name) p.transfers)) ≡ Some pair → is_taken base connecting pair.abstract_name ≡ true
    go true e h = ap (is_taken base connecting) (name (answer_within count (find (takes_syntax base connecting p.abstract_name) p.transfers)) h) ∙ e
    go false e h = cc

pub answers-taken : (base : Base) (connecting : Bool) (count : ℕ) (ps : List Proposal) → AcceptTaken base connecting ps (answers_to_additions base connecting count ps)
answers-taken base connecting count [] = tt
answers-taken base connecting count (p ∷ ps) = (answer-taken base connecting count p, answers-taken base connecting (counted_with count (answer_to_addition base connecting count p)) ps)

-- ---- what holds of all contexts of a set

pub record AllContexts (P : ℕ → Pair → Type 0) (set : List SetItem) : Type 0 where
  pub rising : IsRising (set_seen set)
  pub each : (k : ℕ) (pair : Pair) → pair_of set k ≡ Some pair → P k pair

pub none-contexts : (P : ℕ → Pair → Type 0) → AllContexts P []
none-contexts P = record { rising = tt; each = λ k pair h. cc }

put-contexts : (P : ℕ → Pair → Type 0) (j : ℕ) (p : Pair) (set : List SetItem) → P j p → AllContexts P set → AllContexts P (put j p set)
put-contexts P j p set h all =
    record { rising = subst IsRising (sym (put-seen j p set)) (rising-put j (pair_seen p) (set_seen set) all.rising); each = λ k q there. go k q there (nat_eq j k) refl }
  where
    one : (x y : Pair) → Some x ≡ Some y → x ≡ y
    one x y h = cc

    go : (k : ℕ) (q : Pair) → pair_of (put j p set) k ≡ Some q → (b : Bool) → nat_eq j k ≡ b → P k q
    go k q there false e = all.each k q (sym (other-put j k p set e) ∙ there)
    go k q there true e =
        let same : j ≡ k = eq-same j k e in
        let is : p ≡ q = one p q (sym (put-itself j p set) ∙ subst (λ i. pair_of (put j p set) i ≡ Some q) (sym same) there) in
        subst (λ i. P i q) same (subst (P j) is h)

without-contexts : (P : ℕ → Pair → Type 0) (j : ℕ) (set : List SetItem) → AllContexts P set → AllContexts P (without_context j set)
without-contexts P j set all =
    record { rising = subst IsRising (sym (without-seen j set)) (rising-remove j (set_seen set) all.rising); each = λ k q there. go k q there (nat_eq j k) refl }
  where
    none : (q : Pair) → None ≡ Some q → ⊥
    none q h = cc

    go : (k : ℕ) (q : Pair) → pair_of (without_context j set) k ≡ Some q → (b : Bool) → nat_eq j k ≡ b → P k q
    go k q there false e = all.each k q (sym (removed-other j k set e) ∙ there)
    go k q there true e =
        absurd (none q (sym (removed-itself j set) ∙ subst (λ i. pair_of (without_context j set) i ≡ Some q) (sym (eq-same j k e)) there))

pub added-contexts : (P : ℕ → Pair → Type 0) (base : Base) (connecting : Bool) → ((k : ℕ) (pair : Pair) → IsIdentifier k → is_taken base connecting pair.abstract_name ≡ true → P k pair) →
    (ps : List Proposal) (answers : List AddAnswer) (set : List SetItem) → AreIdentifiers ps → AcceptTaken base connecting ps answers → AllContexts P set → AllContexts P (with_added ps answers set)
added-contexts P base connecting f [] answers set i t all = all
added-contexts P base connecting f (p ∷ ps) [] set i t all = all
added-contexts P base connecting f (p ∷ ps) (answer ∷ answers) set i t all =
    added-contexts P base connecting f ps answers (put_accepted p.id (pair_accepted p answer) set) i.1 t.1 (go (pair_accepted p answer) refl)
  where
    go : (a : Option Pair) → pair_accepted p answer ≡ a → AllContexts P (put_accepted p.id a set)
    go None e = all
    go (Some pair) e = put-contexts P p.id pair set (f p.id pair i.0 (t.0 pair e)) all

deleted-contexts : (P : ℕ → Pair → Type 0) (js answers : List ℕ) (set : List SetItem) → AllContexts P set → AllContexts P (with_deleted js answers set)
deleted-contexts P [] answers set all = all
deleted-contexts P (j ∷ js) [] set all = all
deleted-contexts P (j ∷ js) (answer ∷ answers) set all = deleted-contexts P js answers (if nat_eq answer 0 then without_context j set else set) (go (nat_eq answer 0))
  where
    go : (b : Bool) → AllContexts P (if b then without_context j set else set)
    go true = without-contexts P j set all
    go false = all

-- an alteration as an end answers it
pub answered-contexts : (P : ℕ → Pair → Type 0) (base : Base) (body : Body) (a : Alteration) → ((k : ℕ) (pair : Pair) → IsIdentifier k → is_taken base false pair.abstract_name ≡ true → P k pair) →
    (set : List SetItem) → AreIdentifiers a.add → AllContexts P set → AllContexts P (altered a (policy base body a) set)
answered-contexts P base body a f set i all =
    deleted-contexts P a.delete (map (answer_to_deletion body) a.delete) (with_added a.add _ set)
    (added-contexts P base false f a.add _ set i (answers-taken base false _ a.add) all)

-- ---- names

-- what is taken outside an opening is the module's
pub module-taken : (base : Base) (name : List ℕ) → is_taken base false name ≡ true → name ≡ base.tables.name_oid
module-taken base name h = one-name name base.tables.name_oid (first (same_name name base.tables.name_oid) h)
  where
    first : (b : Bool) → (b || false) ≡ true → b ≡ true
    first true h = refl
    first false h = cc

-- of association control or of reliable transfer, and not of a module of this name
abbrev pub is_others : List ℕ → Option Pair → Bool
is_others name pair = is_fixed pair && not (has_abstract name pair)

-- and in one all that isn't theirs alone, too
pub module-or_others : (base : Base) (pair : Pair) → is_taken base true pair.abstract_name ≡ true → is_others base.tables.name_oid (Some pair) ≡ false → pair.abstract_name ≡ base.tables.name_oid
module-or_others base pair h others =
    one-name pair.abstract_name base.tables.name_oid
    (go (same_name pair.abstract_name base.tables.name_oid) (same_name pair.abstract_name acse_name) (same_name pair.abstract_name rtse_name) _ h others)
  where
    go : (m a r q : Bool) → (m || (true && (a || (q && r)))) ≡ true → ((a || r) && not m) ≡ false → m ≡ true
    go true a r q h f = refl
    go false true r q h f = cc
    go false false true q h f = cc
    go false false false true h f = cc
    go false false false false h f = cc
