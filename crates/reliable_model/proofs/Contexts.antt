-- The contexts of an opening in reliable mode: association control and reliable transfer are accepted under what is proposed, and
-- the lowest context with an abstract syntax has it.
use Rattle.std.proofs.Common.{◌≡◌, refl, true, false, ◌∙◌, ap, subst, arith, ℕ, ◌<◌, List, [], ◌∷◌}
use Rattle.std.specs.Prelude.{Bool, not, ◌&&◌, ◌||◌, Option, Some, None, nat_eq, nat_lt, if◌then◌else◌}
use Rattle.std.proofs.lemmas.Bool.Decides.{nat_tests}
use Rattle.osi_base.specs.declared.syntax.Pair.{Pair}
use Rattle.osi_base.specs.declared.syntax.Syntax.TheVariants.{Ber}
use Rattle.osi_base.specs.declared.layer_words.SetItem.{SetItem}
use Rattle.osi_base.specs.declared.layer_words.Proposal.{Proposal}
use Rattle.osi_base.specs.declared.layer_words.AddAnswer.{AddAnswer}
use Rattle.end_model.specs.dialogue.declared.config.Mode.TheVariants.{Reliable}
use Rattle.end_model.specs.end_rules.Base.{Base, ber_name}
use Rattle.end_model.specs.end_rules.Sets.{Alteration, same_name, is_among, put, put_accepted, pair_accepted, with_added, accepted_set}
use Rattle.osi_base.specs.SetPlaces.{pair_of}
use Rattle.osi_base.specs.Syntax.{acse_name, rtse_name}
use Rattle.end_model.specs.end_rules.Sets.{proposed_ids, has_abstract, lowest_with, is_deleted_in}
use Rattle.end_model.specs.end_rules.Altering.{has_double}
use Rattle.end_model.specs.end_rules.Writing.{proposal_in_ber}
use Rattle.end_model.specs.end_rules.Policy.{acceptance, rejection, answer_within, answer_to_addition, answers_to_additions, opening_policy}
use Rattle.agreement.specs.Sets.{AllAbove, IsRising}
use Rattle.end_model.specs.Seen.{set_seen}

-- ---- what an addition leaves alone

pub other-put : (j k : ℕ) (p : Pair) (set : List SetItem) → nat_eq j k ≡ false → pair_of (put j p set) k ≡ pair_of set k
other-put j k p [] e = rw e refl
other-put j k p (item ∷ items) e = go (other-put j k p items e) (nat_lt j item.id) (nat_eq j item.id) refl (nat_eq item.id k) refl
  where
    same : (i : ℕ) → nat_eq j i ≡ true → nat_eq i k ≡ false
    same i h = grind (arith, nat_tests)

    clash : (x : Bool) → x ≡ true → x ≡ false → ⊥
    clash x h i = cc

    go : pair_of (put j p items) k ≡ pair_of items k → (a b : Bool) → nat_eq j item.id ≡ b → (c : Bool) → nat_eq item.id k ≡ c → pair_of (if a then record { id = j; pair = p } ∷ item ∷ items else if b then record { id = j; pair = p } ∷ items else item ∷ put j p items) k ≡ (if nat_eq item.id k then Some item.pair else pair_of items k)
    go later true b h c i = rw e refl
    go later false true h true i = absurd (clash (nat_eq item.id k) i (same item.id h))
    go later false true h false i = rw (e, i) refl
    go later false false h true i = rw i refl
    go later false false h false i = rw i later

other-accepted : (j k : ℕ) (p : Option Pair) (set : List SetItem) → nat_eq j k ≡ false → pair_of (put_accepted j p set) k ≡ pair_of set k
other-accepted j k None set e = refl
other-accepted j k (Some p) set e = other-put j k p set e

or-first : (p q : Bool) → (p || q) ≡ false → p ≡ false
or-first true q h = cc
or-first false q h = refl

or-second : (p q : Bool) → (p || q) ≡ false → q ≡ false
or-second true q h = cc
or-second false q h = h

eq-sym : (a b : ℕ) → nat_eq a b ≡ false → nat_eq b a ≡ false
eq-sym a b h = grind (arith, nat_tests)

pub others-added : (ps : List Proposal) (answers : List AddAnswer) (set : List SetItem) (k : ℕ) → is_among k (proposed_ids ps) ≡ false → pair_of (with_added ps answers set) k ≡ pair_of set k
others-added [] answers set k h = refl
others-added (p ∷ ps) [] set k h = refl
others-added (p ∷ ps) (answer ∷ answers) set k h =
    others-added ps answers (put_accepted p.id (pair_accepted p answer) set) k (or-second (nat_eq k p.id) (is_among k (proposed_ids ps)) h) ∙
    other-accepted p.id k (pair_accepted p answer) set (eq-sym k p.id (or-first (nat_eq k p.id) (is_among k (proposed_ids ps)) h))

-- ---- what the responder answers to the contexts of the association

or-true : (b : Bool) → (b || true) ≡ true
or-true true = refl
or-true false = refl

takes-acse : (base : Base) (count : ℕ) → nat_lt count 64 ≡ true → answer_to_addition (record base { mode = Reliable }) true count (proposal_in_ber 1 acse_name) ≡ acceptance ber_name
takes-acse base count h =
    ap (λ b. if not b then rejection 1 else answer_within count (Some ber_name)) (or-true (same_name acse_name base.tables.name_oid)) ∙
    ap (λ b. if b then acceptance ber_name else rejection 3) h

takes-rtse : (base : Base) (count : ℕ) → nat_lt count 64 ≡ true → answer_to_addition (record base { mode = Reliable }) true count (proposal_in_ber 3 rtse_name) ≡ acceptance ber_name
takes-rtse base count h =
    ap (λ b. if not b then rejection 1 else answer_within count (Some ber_name)) (or-true (same_name rtse_name base.tables.name_oid)) ∙
    ap (λ b. if b then acceptance ber_name else rejection 3) h

abbrev pair_with : List ℕ → Pair
pair_with name = record { abstract_name = name; transfer = Ber }

abbrev first_two : List SetItem
first_two = record { id = 1; pair = pair_with acse_name } ∷ record { id = 3; pair = pair_with rtse_name } ∷ []

abbrev both : List Proposal → List Proposal
both contexts = proposal_in_ber 1 acse_name ∷ proposal_in_ber 3 rtse_name ∷ contexts

policy-so : (base : Base) (contexts : List Proposal) → opening_policy (record base { mode = Reliable }) (both contexts) ≡ acceptance ber_name ∷ acceptance ber_name ∷ answers_to_additions (record base { mode = Reliable }) true 2 contexts
policy-so base contexts = rw (takes-acse base 0 refl, takes-rtse base 1 refl) refl

-- the contexts that stand then
pub held-so : (base : Base) (contexts : List Proposal) → accepted_set (both contexts) (opening_policy (record base { mode = Reliable }) (both contexts)) ≡ with_added contexts (answers_to_additions (record base { mode = Reliable }) true 2 contexts) first_two
held-so base contexts = ap (accepted_set (both contexts)) (policy-so base contexts)

-- number 3 is the context of reliable transfer
pub on-three : (base : Base) (contexts : List Proposal) → has_double (proposed_ids (both contexts)) ≡ false → has_abstract rtse_name (pair_of (accepted_set (both contexts) (opening_policy (record base { mode = Reliable }) (both contexts))) 3) ≡ true
on-three base contexts h =
    let later = or-second (is_among 1 (3 ∷ proposed_ids contexts)) (is_among 3 (proposed_ids contexts) || has_double (proposed_ids contexts)) h in
    let no : is_among 3 (proposed_ids contexts) ≡ false = or-first (is_among 3 (proposed_ids contexts)) (has_double (proposed_ids contexts)) later in
    ap (λ set. has_abstract rtse_name (pair_of set 3)) (held-so base contexts) ∙
    ap (has_abstract rtse_name) (others-added contexts (answers_to_additions (record base { mode = Reliable }) true 2 contexts) first_two 3 no)

-- ---- the lowest context with an abstract syntax

eq-refl : (n : ℕ) → nat_eq n n ≡ true
eq-refl n = grind (arith, nat_tests)

lowest-above : (name : List ℕ) (own : List Alteration) (j k : ℕ) (set : List SetItem) → AllAbove j (set_seen set) → lowest_with name own set ≡ Some k → j < k
lowest-above name own j k [] above h = cc
lowest-above name own j k (item ∷ items) above h = go (lowest-above name own j k items above.1) (same_name item.pair.abstract_name name && not (is_deleted_in own item.id)) h
  where
    go : (lowest_with name own items ≡ Some k → j < k) → (b : Bool) → (if b then Some item.id else lowest_with name own items) ≡ Some k → j < k
    go later true h = let s : item.id ≡ k = cc in subst (λ n. j < n) s above.0
    go later false h = later h

pub lowest-found : (name : List ℕ) (own : List Alteration) (k : ℕ) (set : List SetItem) → IsRising (set_seen set) → lowest_with name own set ≡ Some k → has_abstract name (pair_of set k) ≡ true
lowest-found name own k [] rising h = cc
lowest-found name own k (item ∷ items) rising h = go (lowest-found name own k items rising.1) (same_name item.pair.abstract_name name) refl (not (is_deleted_in own item.id)) h
  where
    apart : (m n : ℕ) → m < n → nat_eq m n ≡ false
    apart m n h = grind (arith, nat_tests)

    later-so : (lowest_with name own items ≡ Some k → has_abstract name (pair_of items k) ≡ true) → lowest_with name own items ≡ Some k → has_abstract name (if nat_eq item.id k then Some item.pair else pair_of items k) ≡ true
    later-so later h = rw (apart item.id k (lowest-above name own item.id k items rising.0 h)) (later h)

    go : (lowest_with name own items ≡ Some k → has_abstract name (pair_of items k) ≡ true) → (b : Bool) → same_name item.pair.abstract_name name ≡ b → (d : Bool) → (if b && d then Some item.id else lowest_with name own items) ≡ Some k → has_abstract name (if nat_eq item.id k then Some item.pair else pair_of items k) ≡ true
    go later true e true h =
        let s : item.id ≡ k = cc in
        subst (λ n. has_abstract name (if nat_eq item.id n then Some item.pair else pair_of items n) ≡ true) s (rw (eq-refl item.id) e)
    go later true e false h = later-so later h
    go later false e d h = later-so later h

pub lowest-has : (name : List ℕ) (k : ℕ) (set : List SetItem) → IsRising (set_seen set) → lowest_with name [] set ≡ Some k → has_abstract name (pair_of set k) ≡ true
lowest-has name k set rising h = lowest-found name [] k set rising h
