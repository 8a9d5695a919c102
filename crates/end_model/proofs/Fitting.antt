-- Answers that fit an alteration are results that fit it in the model; the policy's answers fit.
use Rattle.std.proofs.Common.{◌≡◌, refl, true, false, ◌∙◌, sym, ap, subst, arith, ℕ, suc, List, []}
use Rattle.std.proofs.Common.{◌∷◌, ◌++◌, map, length}
use Rattle.std.specs.Prelude.{Bool, not, ◌&&◌, ◌||◌, Option, Some, None, is_some, if◌then◌else◌}
use Rattle.std.specs.Prelude.{nat_eq, nat_lt, Contains, find}
use Rattle.std.specs.List.{list_any}
use Rattle.std.proofs.lemmas.Bool.Decides.{nat_tests}
use Rattle.osi_base.specs.Syntax.{name_of, syntax_named}
use Rattle.osi_base.specs.declared.syntax.Syntax.{Syntax}
use Rattle.osi_base.specs.declared.syntax.Syntax.TheVariants.{Ber, Der, Packed}
use Rattle.osi_base.specs.declared.syntax.Pair.{Pair}
use Rattle.osi_base.specs.declared.layer_words.Proposal.{Proposal}
use Rattle.osi_base.specs.declared.layer_words.AddAnswer.{AddAnswer}
use Rattle.osi_base.specs.declared.layer_words.Answers.{Answers}
use Rattle.end_rules.specs.Base.{Base, ber_name}
use Rattle.osi_base.specs.Limits.{most_contexts}
use Rattle.end_rules.specs.State.{Body}
use Rattle.end_rules.specs.Sets.{Alteration, same_name, accepted_pair, named_syntax}
use Rattle.end_rules.specs.Sets.{pair_accepted, is_offered, fits_proposal, fit_proposals}
use Rattle.end_rules.specs.Sets.{fit_alteration}
use Rattle.end_rules.specs.Policy.{is_association, is_taken, takes_syntax, acceptance, rejection}
use Rattle.end_rules.specs.Policy.{answer_within, answer_to_addition, counted_with}
use Rattle.end_rules.specs.Policy.{answers_to_additions, answer_to_deletion, policy}
use Rattle.agreement.specs.Sets.{Item, Result, Pair as ModelPair, AnswersItem, AnswersEach, IsKnown, AreKnown}
use Rattle.agreement.specs.Sets.Item.{Deletion}
use Rattle.agreement.specs.Sets.Result.{Accepted, Kept}
use Rattle.end_model.specs.Seen.{addition_seen, items_seen}
use Rattle.end_model.specs.Words.{result_with, added_seen, deleted_seen, results_seen}

-- ---- names

pub one-name : (a b : List ℕ) → same_name a b ≡ true → a ≡ b
one-name [] [] h = refl
one-name [] (y ∷ b) h = cc
one-name (x ∷ a) [] h = cc
one-name (x ∷ a) (y ∷ b) h =
    let head : x ≡ y = its x y (left (nat_eq x y) (same_name a b) h) in
    let tail : a ≡ b = one-name a b (right (nat_eq x y) (same_name a b) h) in
    cc
  where
    its : (m n : ℕ) → nat_eq m n ≡ true → m ≡ n
    its m n e = grind (arith, nat_tests)

    left : (p q : Bool) → (p && q) ≡ true → p ≡ true
    left true q h = refl
    left false q h = cc

    right : (p q : Bool) → (p && q) ≡ true → q ≡ true
    right true q h = h
    right false q h = cc

pub same-itself : (name : List ℕ) → same_name name name ≡ true
same-itself [] = refl
same-itself (x ∷ xs) = rw (itself x) (same-itself xs)
  where
    itself : (n : ℕ) → nat_eq n n ≡ true
    itself n = grind (arith, nat_tests)

-- a syntax that a name is has that name
pub named-back : (name : List ℕ) (syntax : Syntax) → syntax_named name ≡ Some syntax → name_of syntax ≡ name
named-back name syntax h = go (same_name name (name_of Ber)) refl (same_name name (name_of Der)) refl (same_name name (name_of Packed)) refl h
  where
    go : (p : Bool) → same_name name (name_of Ber) ≡ p → (q : Bool) → same_name name (name_of Der) ≡ q → (r : Bool) → same_name name (name_of Packed) ≡ r → (if p then Some Ber else (if q then Some Der else (if r then Some Packed else None))) ≡ Some syntax → name_of syntax ≡ name
    go true e q f r g h = let s : Ber ≡ syntax = cc in ap name_of (sym s) ∙ sym (one-name name (name_of Ber) e)
    go false e true f r g h = let s : Der ≡ syntax = cc in ap name_of (sym s) ∙ sym (one-name name (name_of Der) f)
    go false e false f true g h = let s : Packed ≡ syntax = cc in ap name_of (sym s) ∙ sym (one-name name (name_of Packed) g)
    go false e false f false g h = cc

-- ---- what contains what

here : {X : Type 0} (x : X) (xs : List X) → Contains (x ∷ xs) x
here x xs = (0, omega arith, refl)

there : {X : Type 0} (x y : X) (xs : List X) → Contains xs x → Contains (y ∷ xs) x
there x y xs h = (suc h.0, omega arith, h.2)

abbrev offer : List ℕ → List ℕ → ModelPair
offer abstract_name name = record { abstract_syntax = abstract_name; transfer_syntax = name }

offered : (abstract_name name : List ℕ) (names : List (List ℕ)) → list_any (same_name name) names ≡ true → Contains (map (offer abstract_name) names) (offer abstract_name name)
offered abstract_name name [] h = cc
offered abstract_name name (n ∷ names) h = go (λ k. offered abstract_name name names k) (same_name name n) refl h
  where
    go : (list_any (same_name name) names ≡ true → Contains (map (offer abstract_name) names) (offer abstract_name name)) → (b : Bool) → same_name name n ≡ b → (b || list_any (same_name name) names) ≡ true → Contains (map (offer abstract_name) (n ∷ names)) (offer abstract_name name)
    go later true e h = subst (λ m. Contains (map (offer abstract_name) (n ∷ names)) (offer abstract_name m)) (sym (one-name name n e)) (here (offer abstract_name n) (map (offer abstract_name) names))
    go later false e h = there (offer abstract_name name) (offer abstract_name n) (map (offer abstract_name) names) (later h)

-- ---- an answer that fits is a result that fits

pub and-left : (p q : Bool) → (p && q) ≡ true → p ≡ true
and-left true q h = refl
and-left false q h = cc

pub and-right : (p q : Bool) → (p && q) ≡ true → q ≡ true
and-right true q h = h
and-right false q h = cc

record FitsSeen (p : Proposal) (pair : Option Pair) : Type 0 where
  fits : AnswersItem (addition_seen p) (result_with pair)
  known : IsKnown (λ name. is_some (syntax_named name)) (result_with pair)

pub known-syntax : (syntax : Syntax) → is_some (syntax_named (name_of syntax)) ≡ true
known-syntax Ber = refl
known-syntax Der = refl
known-syntax Packed = refl

accepted-fits : (p : Proposal) (name : List ℕ) (s : Option Syntax) → syntax_named name ≡ s → list_any (same_name name) p.transfers ≡ true → FitsSeen p (accepted_pair p s)
accepted-fits p name None e h = record { fits = tt; known = tt }
accepted-fits p name (Some syntax) e h =
    record {
      fits = subst (λ m. Contains (map (offer p.abstract_name) p.transfers) (offer p.abstract_name m)) (sym (named-back name syntax e)) (offered p.abstract_name name p.transfers h);
      known = known-syntax syntax;
    }

offered-fits : (p : Proposal) (t : Option (List ℕ)) → is_offered p.transfers t ≡ true → FitsSeen p (accepted_pair p (named_syntax t))
offered-fits p None h = cc
offered-fits p (Some name) h = accepted-fits p name (syntax_named name) refl (and-left (list_any (same_name name) p.transfers) (is_some (syntax_named name)) h)

answer-fits : (p : Proposal) (result : ℕ) (transfer : Option (List ℕ)) (reason : Option ℕ) → fits_proposal p (record { result = result; transfer = transfer; reason = reason }) ≡ true → FitsSeen p (pair_accepted p (record { result = result; transfer = transfer; reason = reason }))
answer-fits p result transfer reason h = go (nat_eq result 0) h
  where
    go : (b : Bool) → (not b || is_offered p.transfers transfer) ≡ true → FitsSeen p (if b then accepted_pair p (named_syntax transfer) else None)
    go false h = record { fits = tt; known = tt }
    go true h = offered-fits p transfer h

pub record AllFit (items : List Item) (results : List Result) : Type 0 where
  pub fits : AnswersEach items results
  pub known : AreKnown (λ name. is_some (syntax_named name)) results

deletion-fits : (k answer : ℕ) → AnswersItem (Deletion k) (deleted_seen answer) × IsKnown (λ name. is_some (syntax_named name)) (deleted_seen answer)
deletion-fits k answer = go (nat_eq answer 0)
  where
    go : (b : Bool) → AnswersItem (Deletion k) (if b then Accepted else Kept) × IsKnown (λ name. is_some (syntax_named name)) (if b then Accepted else Kept)
    go true = (tt, tt)
    go false = (tt, tt)

deletions-fit : (delete answers : List ℕ) → nat_eq (length delete) (length answers) ≡ true → AllFit (map Deletion delete) (map deleted_seen answers)
deletions-fit [] [] h = record { fits = tt; known = tt }
deletions-fit [] (answer ∷ answers) h = absurd (not-both (length answers) h)
  where
    not-both : (n : ℕ) → nat_eq 0 (suc n) ≡ true → ⊥
    not-both n h = absurd (grind (arith, nat_tests))
deletions-fit (k ∷ delete) [] h = absurd (not-both (length delete) h)
  where
    not-both : (n : ℕ) → nat_eq (suc n) 0 ≡ true → ⊥
    not-both n h = absurd (grind (arith, nat_tests))
deletions-fit (k ∷ delete) (answer ∷ answers) h =
    let one = deletion-fits k answer in
    let more = deletions-fit delete answers (fewer (length delete) (length answers) h) in
    record { fits = (one.0, more.fits); known = (one.1, more.known) }
  where
    fewer : (m n : ℕ) → nat_eq (suc m) (suc n) ≡ true → nat_eq m n ≡ true
    fewer m n h = grind (arith, nat_tests)

additions-fit : (add : List Proposal) (answers : List AddAnswer) (rest : List Item) (more : List Result) → fit_proposals add answers ≡ true → AllFit rest more → AllFit (map addition_seen add ++ rest) (added_seen add answers ++ more)
additions-fit [] [] rest more h all = all
additions-fit [] (answer ∷ answers) rest more h all = cc
additions-fit (p ∷ ps) [] rest more h all = cc
additions-fit (p ∷ ps) (answer ∷ answers) rest more h all =
    let one = answer-fits p answer.result answer.transfer answer.reason (and-left (fits_proposal p answer) (fit_proposals ps answers) h) in
    let later = additions-fit ps answers rest more (and-right (fits_proposal p answer) (fit_proposals ps answers) h) all in
    record { fits = (one.fits, later.fits); known = (one.known, later.known) }

pub all-fit : (a : Alteration) (answers : Answers) → fit_alteration a answers ≡ true → AllFit (items_seen a) (results_seen a answers)
all-fit a answers h =
    additions-fit a.add answers.added (map Deletion a.delete) (map deleted_seen answers.deleted) (and-left (fit_proposals a.add answers.added) (nat_eq (length a.delete) (length answers.deleted)) h)
    (deletions-fit a.delete answers.deleted (and-right (fit_proposals a.add answers.added) (nat_eq (length a.delete) (length answers.deleted)) h))

-- ---- the policy's answers fit

or-true : (b : Bool) → (b || true) ≡ true
or-true true = refl
or-true false = refl

-- a syntax that is found is one of them
found-offered : (test : List ℕ → Bool) (names : List (List ℕ)) (name : List ℕ) → find test names ≡ Some name → (list_any (same_name name) names ≡ true) × (test name ≡ true)
found-offered test [] name h = cc
found-offered test (n ∷ names) name h = go (λ k. found-offered test names name k) (test n) refl h
  where
    go : (find test names ≡ Some name → (list_any (same_name name) names ≡ true) × (test name ≡ true)) → (b : Bool) → test n ≡ b → (if b then Some n else find test names) ≡ Some name → ((same_name name n || list_any (same_name name) names) ≡ true) × (test name ≡ true)
    go later true e h =
        let s : n ≡ name = cc in
        (subst (λ m. (same_name m n || list_any (same_name m) names) ≡ true) s (rw (same-itself n) refl), subst (λ m. test m ≡ true) s e)
    go later false e h =
        let k = later h in
        (rw k.0 (or-true (same_name name n)), k.1)

-- a syntax that is taken is one of the three
known-taken : (base : Base) (connecting : Bool) (name syntax : List ℕ) → takes_syntax base connecting name syntax ≡ true → is_some (syntax_named syntax) ≡ true
known-taken base connecting name syntax h = go (connecting && is_association base name) h
  where
    go : (b : Bool) → (if b then same_name syntax ber_name else is_some (syntax_named syntax) && list_any (same_name syntax) base.config.accepts) ≡ true → is_some (syntax_named syntax) ≡ true
    go true e = ap (λ n. is_some (syntax_named n)) (one-name syntax ber_name e)
    go false e = and-left (is_some (syntax_named syntax)) (list_any (same_name syntax) base.config.accepts) e

policy-answer : (base : Base) (connecting : Bool) (count : ℕ) (p : Proposal) → fits_proposal p (answer_to_addition base connecting count p) ≡ true
policy-answer base connecting count p = go (is_taken base connecting p.abstract_name) (find (takes_syntax base connecting p.abstract_name) p.transfers) refl
  where
    within : (syntax : List ℕ) (b : Bool) → find (takes_syntax base connecting p.abstract_name) p.transfers ≡ Some syntax → fits_proposal p (if b then acceptance syntax else rejection 3) ≡ true
    within syntax true e =
        let f = found-offered (takes_syntax base connecting p.abstract_name) p.transfers syntax e in
        rw (f.0, known-taken base connecting p.abstract_name syntax f.1) refl
    within syntax false e = refl

    go : (b : Bool) (f : Option (List ℕ)) → find (takes_syntax base connecting p.abstract_name) p.transfers ≡ f → fits_proposal p (if not b then rejection 1 else answer_within count f) ≡ true
    go false f e = refl
    go true None e = refl
    go true (Some syntax) e = within syntax (nat_lt count most_contexts) e

pub additions-answered : (base : Base) (connecting : Bool) (count : ℕ) (add : List Proposal) → fit_proposals add (answers_to_additions base connecting count add) ≡ true
additions-answered base connecting count [] = refl
additions-answered base connecting count (p ∷ ps) =
    rw (policy-answer base connecting count p) (additions-answered base connecting (counted_with count (answer_to_addition base connecting count p)) ps)

same-length : (body : Body) (delete : List ℕ) → length delete ≡ length (map (answer_to_deletion body) delete)
same-length body [] = refl
same-length body (k ∷ delete) = ap suc (same-length body delete)

pub policy-fits : (base : Base) (body : Body) (a : Alteration) → fit_alteration a (policy base body a) ≡ true
policy-fits base body a =
    rw additions-answered (subst (λ n. nat_eq (length a.delete) n ≡ true) (same-length body a.delete) (itself (length a.delete)))
  where
    itself : (n : ℕ) → nat_eq n n ≡ true
    itself n = grind (arith, nat_tests)
