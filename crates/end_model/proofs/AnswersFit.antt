-- An answer that fits the alteration that it answers, and whose results fit another as the model sees that, fits the other
-- too, with the same results.
use Rattle.std.proofs.Common.{◌≡◌, refl, true, false, ap, subst, arith, ℕ, zero, suc, ◌<◌, List, []}
use Rattle.std.proofs.Common.{◌∷◌, ◌++◌, map, length}
use Rattle.std.specs.Prelude.{Bool, not, ◌||◌, Option, Some, None, is_some, if◌then◌else◌, nat_eq}
use Rattle.std.specs.Prelude.{slice_index_or}
use Rattle.std.proofs.lemmas.Bool.Decides.{nat_tests}
use Rattle.std.specs.List.{list_any}
use Rattle.osi_base.specs.Syntax.{name_of, syntax_named}
use Rattle.osi_base.specs.declared.syntax.Syntax.{Syntax}
use Rattle.osi_base.specs.declared.syntax.Pair.{Pair}
use Rattle.osi_base.specs.declared.layer_words.Proposal.{Proposal}
use Rattle.osi_base.specs.declared.layer_words.AddAnswer.{AddAnswer}
use Rattle.osi_base.specs.declared.layer_words.Answers.{Answers}
use Rattle.end_rules.specs.Sets.{Alteration, same_name, accepted_pair, named_syntax}
use Rattle.end_rules.specs.Sets.{pair_accepted, is_offered, fits_proposal, fit_proposals}
use Rattle.end_rules.specs.Sets.{fit_alteration}
use Rattle.agreement.specs.Sets.{Result, Pair as ModelPair, AnswersItem, AnswersEach}
use Rattle.agreement.specs.Sets.Item.{Deletion}
use Rattle.agreement.specs.Sets.Result.{AcceptedAs, Accepted, Kept}
use Rattle.end_model.specs.Seen.{pair_seen, addition_seen, items_seen}
use Rattle.end_model.specs.Words.{result_with, added_seen, deleted_seen, results_seen}
use Rattle.end_model.proofs.Fitting.{same-itself, named-back, and-left, and-right}

abbrev offer : List ℕ → List ℕ → ModelPair
offer abstract_name name = record { abstract_syntax = abstract_name; transfer_syntax = name }

-- an offer that is among these has their abstract syntax and one of their names
pub record IsOffered (abstract_name : List ℕ) (names : List (List ℕ)) (pair : ModelPair) : Type 0 where
  pub same : abstract_name ≡ pair.abstract_syntax
  pub among : list_any (same_name pair.transfer_syntax) names ≡ true

is-offered : (abstract_name : List ℕ) (names : List (List ℕ)) (pair : ModelPair) (k : ℕ) → k < length (map (offer abstract_name) names) → slice_index_or (map (offer abstract_name) names) k pair ≡ pair → IsOffered abstract_name names pair
is-offered abstract_name [] pair k lt e = absurd (omega arith)
is-offered abstract_name (n ∷ names) pair zero lt e =
    record {
      same = ap (λ (p : ModelPair). p.abstract_syntax) e;
      among = subst (λ m. (same_name m n || list_any (same_name m) names) ≡ true) (ap (λ (p : ModelPair). p.transfer_syntax) e) (rw (same-itself n) refl);
    }
is-offered abstract_name (n ∷ names) pair (suc k) lt e =
    let later = is-offered abstract_name names pair k (omega arith) e in
    record { same = later.same; among = rw later.among (or-true (same_name pair.transfer_syntax n)) }
  where
    or-true : (b : Bool) → (b || true) ≡ true
    or-true true = refl
    or-true false = refl

-- one answer
record AnswerFits (p asked : Proposal) (answer : AddAnswer) : Type 0 where
  same : result_with (pair_accepted p answer) ≡ result_with (pair_accepted asked answer)
  fits : fits_proposal p answer ≡ true

named-fits : (p asked : Proposal) (name : List ℕ) (s : Option Syntax) → syntax_named name ≡ s → is_some s ≡ true → AnswersItem (addition_seen p) (result_with (accepted_pair asked s)) → (result_with (accepted_pair p s) ≡ result_with (accepted_pair asked s)) × (list_any (same_name name) p.transfers ≡ true)
named-fits p asked name None e known h = cc
named-fits p asked name (Some syntax) e known h =
    let o = is-offered p.abstract_name p.transfers (pair_seen (record { abstract_name = asked.abstract_name; transfer = syntax })) h.0 h.1 h.2 in
    (ap (λ (n : List ℕ). AcceptedAs (offer n (name_of syntax))) o.same, subst (λ m. list_any (same_name m) p.transfers ≡ true) (named-back name syntax e) o.among)

transfer-fits : (p asked : Proposal) (t : Option (List ℕ)) → is_offered asked.transfers t ≡ true → AnswersItem (addition_seen p) (result_with (accepted_pair asked (named_syntax t))) → (result_with (accepted_pair p (named_syntax t)) ≡ result_with (accepted_pair asked (named_syntax t))) × (is_offered p.transfers t ≡ true)
transfer-fits p asked None h k = cc
transfer-fits p asked (Some name) h k =
    let known : is_some (syntax_named name) ≡ true = and-right (list_any (same_name name) asked.transfers) (is_some (syntax_named name)) h in
    let n = named-fits p asked name (syntax_named name) refl known k in
    (n.0, rw (n.1, known) refl)

answer-fits : (p asked : Proposal) (result : ℕ) (transfer : Option (List ℕ)) (reason : Option ℕ) → fits_proposal asked (record { result = result; transfer = transfer; reason = reason }) ≡ true → AnswersItem (addition_seen p) (result_with (pair_accepted asked (record { result = result; transfer = transfer; reason = reason }))) → AnswerFits p asked (record { result = result; transfer = transfer; reason = reason })
answer-fits p asked result transfer reason h k = let g = go (nat_eq result 0) h k in record { same = g.0; fits = g.1 }
  where
    go : (b : Bool) → (not b || is_offered asked.transfers transfer) ≡ true → AnswersItem (addition_seen p) (result_with (if b then accepted_pair asked (named_syntax transfer) else None)) → (result_with (if b then accepted_pair p (named_syntax transfer) else None) ≡ result_with (if b then accepted_pair asked (named_syntax transfer) else None)) × ((not b || is_offered p.transfers transfer) ≡ true)
    go false h k = (refl, refl)
    go true h k = transfer-fits p asked transfer h k

-- a result of an addition fits no deletion, and the other way round
no-deletion : (k : ℕ) (pair : Option Pair) → AnswersItem (Deletion k) (result_with pair) → ⊥
no-deletion k None h = h
no-deletion k (Some pair) h = h

no-addition : (p : Proposal) (answer : ℕ) → AnswersItem (addition_seen p) (deleted_seen answer) → ⊥
no-addition p answer h = go (nat_eq answer 0) h
  where
    go : (b : Bool) → AnswersItem (addition_seen p) (if b then Accepted else Kept) → ⊥
    go true h = h
    go false h = h

same-count : (delete answers : List ℕ) → AnswersEach (map Deletion delete) (map deleted_seen answers) → nat_eq (length delete) (length answers) ≡ true
same-count [] [] h = refl
same-count [] (answer ∷ answers) h = absurd h
same-count (k ∷ delete) [] h = absurd h
same-count (k ∷ delete) (answer ∷ answers) h = more (length delete) (length answers) (same-count delete answers h.1)
  where
    more : (m n : ℕ) → nat_eq m n ≡ true → nat_eq (suc m) (suc n) ≡ true
    more m n e = grind (arith, nat_tests)

record AllFit (add asked : List Proposal) (answers : List AddAnswer) (delete deleted : List ℕ) : Type 0 where
  same : added_seen add answers ≡ added_seen asked answers
  fit : fit_proposals add answers ≡ true
  counted : nat_eq (length delete) (length deleted) ≡ true

all-fit : (add asked : List Proposal) (answers : List AddAnswer) (delete deleted : List ℕ) → fit_proposals asked answers ≡ true → AnswersEach (map addition_seen add ++ map Deletion delete) (added_seen asked answers ++ map deleted_seen deleted) → AllFit add asked answers delete deleted
all-fit [] [] [] delete deleted h k = record { same = refl; fit = refl; counted = same-count delete deleted k }
all-fit (p ∷ ps) [] [] delete [] h k = absurd k
all-fit (p ∷ ps) [] [] delete (d ∷ deleted) h k = absurd (no-addition p d k.0)
all-fit add (q ∷ qs) [] delete deleted h k = cc
all-fit add [] (answer ∷ answers) delete deleted h k = cc
all-fit [] (q ∷ qs) (answer ∷ answers) [] deleted h k = absurd k
all-fit [] (q ∷ qs) (answer ∷ answers) (j ∷ delete) deleted h k = absurd (no-deletion j (pair_accepted q answer) k.0)
all-fit (p ∷ ps) (q ∷ qs) (answer ∷ answers) delete deleted h k =
    let one = answer-fits p q answer.result answer.transfer answer.reason (and-left (fits_proposal q answer) (fit_proposals qs answers) h) k.0 in
    let more = all-fit ps qs answers delete deleted (and-right (fits_proposal q answer) (fit_proposals qs answers) h) k.1 in
    record { same = append-same one.same more.same; fit = rw (one.fits, more.fit) refl; counted = more.counted }
  where
    append-same : {x y : Result} {xs ys : List Result} → x ≡ y → xs ≡ ys → x ∷ xs ≡ y ∷ ys
    append-same e f = cc

pub record FitsToo (a asked : Alteration) (answers : Answers) : Type 0 where
  pub same : results_seen a answers ≡ results_seen asked answers
  pub fits : fit_alteration a answers ≡ true

pub fits-too : (a asked : Alteration) (answers : Answers) → fit_alteration asked answers ≡ true → AnswersEach (items_seen a) (results_seen asked answers) → FitsToo a asked answers
fits-too a asked answers h k =
    let f = all-fit a.add asked.add answers.added a.delete answers.deleted (and-left (fit_proposals asked.add answers.added) (nat_eq (length asked.delete) (length answers.deleted)) h) k in
    record { same = ap (λ rs. rs ++ map deleted_seen answers.deleted) f.same; fits = rw (f.fit, f.counted) refl }
