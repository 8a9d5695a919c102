-- The answers of an end to what is asked of its set.
use Rattle.std.proofs.Common.{◌≡◌, refl, true, false, sym, subst, arith, ℕ, ◌+◌, ◌≤◌, List, [], ◌∷◌, map, length}
use Rattle.std.specs.Prelude.{Bool, not, ◌&&◌, ◌||◌, Option, Some, None, is_some, find, nat_lt, if◌then◌else◌}
use Rattle.std.specs.List.{list_any}
use Rattle.osi_base.specs.declared.syntax.Syntax.{Syntax}
use Rattle.osi_base.specs.declared.syntax.Syntax.TheVariants.{Ber}
use Rattle.osi_base.specs.declared.layer_words.Proposal.{Proposal}
use Rattle.end_model.specs.end_rules.Base.{Base, ber_name}
use Rattle.end_model.specs.end_rules.Sets.{Alteration, same_name, is_among, is_fixed, count_added}
use Rattle.osi_base.specs.SetPlaces.{pair_of}
use Rattle.osi_base.specs.Limits.{most_contexts}
use Rattle.osi_base.specs.Syntax.{syntax_named}
use Rattle.end_model.specs.end_rules.State.{Body}
use Rattle.end_model.specs.end_rules.Altering.{used}
use Rattle.end_model.specs.end_rules.Policy.{is_association, is_taken, takes_syntax, acceptance, rejection, answer_within, counted_with, answer_to_addition, answers_to_additions, answer_to_deletion, policy}
use Rattle.end_model.proofs.Fitting.{one-name, named-back}
use Rattle.said_words.specs.Fields.{IsSyntaxName, IsResult, AreResults, AreVerdicts, IsAlteration, AreAnswers}

and-left : (a b : Bool) → (a && b) ≡ true → a ≡ true
and-left true b h = refl
and-left false b h = cc

-- ---- additions

find-so : (test : List ℕ → Bool) (xs : List (List ℕ)) (x : List ℕ) → find test xs ≡ Some x → test x ≡ true
find-so test [] x h = cc
find-so test (y ∷ ys) x h = go (find-so test ys x) (test y) refl h
  where
    go : (find test ys ≡ Some x → test x ≡ true) → (b : Bool) → test y ≡ b → (if b then Some y else find test ys) ≡ Some x → test x ≡ true
    go later true e h = let same : y ≡ x = cc in subst (λ z. test z ≡ true) same e
    go later false e h = later h

syntax-so : (name : List ℕ) (o : Option Syntax) → syntax_named name ≡ o → is_some o ≡ true → IsSyntaxName name
syntax-so name None e h = cc
syntax-so name (Some syntax) e h = (syntax, sym (named-back name syntax e))

taken-syntax : (base : Base) (connecting : Bool) (name syntax : List ℕ) → takes_syntax base connecting name syntax ≡ true → IsSyntaxName syntax
taken-syntax base connecting name syntax h = go (connecting && is_association base name) h
  where
    go : (b : Bool) → (if b then same_name syntax ber_name else (is_some (syntax_named syntax) && list_any (same_name syntax) base.config.accepts)) ≡ true → IsSyntaxName syntax
    go true h = (Ber, one-name syntax ber_name h)
    go false h = syntax-so syntax (syntax_named syntax) refl (and-left (is_some (syntax_named syntax)) (list_any (same_name syntax) base.config.accepts) h)

answer-so : (base : Base) (connecting : Bool) (count : ℕ) (p : Proposal) → IsResult (answer_to_addition base connecting count p)
answer-so base connecting count p = go (not (is_taken base connecting p.abstract_name)) (find (takes_syntax base connecting p.abstract_name) p.transfers) refl
  where
    within : (syntax : List ℕ) → IsSyntaxName syntax → (c : Bool) → IsResult (if c then acceptance syntax else rejection 3)
    within syntax i true = record { result = omega arith; transfer = i; reason = tt }
    within syntax i false = record { result = omega arith; transfer = tt; reason = omega arith }

    go : (b : Bool) (o : Option (List ℕ)) → find (takes_syntax base connecting p.abstract_name) p.transfers ≡ o → IsResult (if b then rejection 1 else answer_within count o)
    go true o e = record { result = omega arith; transfer = tt; reason = omega arith }
    go false None e = record { result = omega arith; transfer = tt; reason = omega arith }
    go false (Some syntax) e =
        within syntax (taken-syntax base connecting p.abstract_name syntax (find-so (takes_syntax base connecting p.abstract_name) p.transfers syntax e)) (nat_lt count most_contexts)

pub results-so : (base : Base) (connecting : Bool) (count : ℕ) (ps : List Proposal) → AreResults (answers_to_additions base connecting count ps)
results-so base connecting count [] = tt
results-so base connecting count (p ∷ ps) = (answer-so base connecting count p, results-so base connecting (counted_with count (answer_to_addition base connecting count p)) ps)

pub results-few : (base : Base) (connecting : Bool) (count : ℕ) (ps : List Proposal) → length (answers_to_additions base connecting count ps) ≡ length ps
results-few base connecting count [] = omega arith
results-few base connecting count (p ∷ ps) = let l = results-few base connecting (counted_with count (answer_to_addition base connecting count p)) ps in omega arith

-- ---- deletions

verdicts-so : (body : Body) (js : List ℕ) → AreVerdicts (map (answer_to_deletion body) js)
verdicts-so body [] = tt
verdicts-so body (j ∷ js) = (go (is_among j (used body) || is_fixed (pair_of body.sets.held j)), verdicts-so body js)
  where
    go : (b : Bool) → (if b then 1 else 0) ≤ 1
    go true = omega arith
    go false = omega arith

verdicts-few : (body : Body) (js : List ℕ) → length (map (answer_to_deletion body) js) ≡ length js
verdicts-few body [] = omega arith
verdicts-few body (j ∷ js) = let l = verdicts-few body js in omega arith

pub answers-so : (base : Base) (body : Body) (a : Alteration) → IsAlteration a.add a.delete → AreAnswers (policy base body a)
answers-so base body a i =
    let x = results-few base false (length body.sets.held + count_added body.sets.own) a.add in
    let y = verdicts-few body a.delete in
    let m : length a.add ≤ 64 = i.count in
    let n : length a.delete ≤ 64 = i.deletions in
    record { added = results-so base false (length body.sets.held + count_added body.sets.own) a.add; count = omega arith; deleted = verdicts-so body a.delete; deletions = omega arith }
