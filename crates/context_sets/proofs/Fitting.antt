-- What the policy answers fits what was asked.
use Rattle.std.proofs.Common.{◌≡◌, ℕ, suc, Bool, true, false, ◌||◌, ◌&&◌, nat_le, if◌then◌else◌, List, [], ◌∷◌, length, Option, Some, None, is_some, Ok, Err, refl, sym, subst, ap, ◌∙◌, ◌+◌, arith}
use Rattle.std.proofs.lemmas.List.{length-map}
use Rattle.std.proofs.lemmas.Bool.Decides.{nat_tests}
use Rattle.std.specs.Option.{option_or}
use Rattle.osi_base.specs.Syntax.{name_of, syntax_named, is_listed}
use Rattle.osi_base.proofs.Syntaxes.{named_back}
use Rattle.osi_base.specs.declared.syntax.Syntax.{Syntax}
use Rattle.osi_base.specs.declared.syntax.Syntax.TheVariants.{Ber, Der, Packed}
use Rattle.osi_base.specs.declared.layer_words.Proposal.{Proposal}
use Rattle.osi_base.specs.declared.layer_words.Answers.{Answers}
use Rattle.context_sets.specs.declared.alteration.Alteration.{Alteration}
use Rattle.context_sets.specs.declared.rules.Rules.{Rules}
use Rattle.context_sets.specs.declared.rules.Rejection.TheVariants.{AbstractSyntax, LocalLimit}
use Rattle.context_sets.specs.Sets.{ContextSet}
use Rattle.context_sets.specs.Syntaxes.{is_same}
use Rattle.context_sets.specs.Alterations.{additions}
use Rattle.context_sets.specs.Policy.{is_service, accepts, acceptable, chosen, within_limit, judged, add_answer, taken_after, added_answers, deletion_answer, policy}
use Rattle.context_sets.specs.Results.{fits, all_fit, mismatch}

same_itself : (u : Syntax) → is_same (name_of u) (name_of u) ≡ true
same_itself Ber = refl
same_itself Der = refl
same_itself Packed = refl

acceptable_named : (t : List ℕ) (u : Syntax) (b : Bool) → (if b then syntax_named t else None) ≡ Some u → is_same (name_of u) t ≡ true
acceptable_named t u true h = subst (λ n. is_same (name_of u) n ≡ true) (sym (named_back t u h)) (same_itself u)
acceptable_named t u false h = cc

listed_first : (a b : Bool) → a ≡ true → (a || b) ≡ true
listed_first true b e = refl
listed_first false b e = cc

listed_later : (a b : Bool) → b ≡ true → (a || b) ≡ true
listed_later true b e = refl
listed_later false b e = e

chosen_listed : (rules : Rules) (name : List ℕ) (ts : List (List ℕ)) (s : Syntax) → chosen rules name ts ≡ Some s → is_listed (name_of s) ts ≡ true
chosen_listed rules name [] s e = cc
chosen_listed rules name (t ∷ ts) s e = go (chosen_listed rules name ts s) (acceptable rules name t) refl e
  where
    go : (chosen rules name ts ≡ Some s → is_listed (name_of s) ts ≡ true) → (o : Option Syntax) → acceptable rules name t ≡ o → option_or o (chosen rules name ts) ≡ Some s → is_listed (name_of s) (t ∷ ts) ≡ true
    go ih None f h = listed_later (is_same (name_of s) t) _ (ih h)
    go ih (Some u) f h = listed_first (is_same (name_of s) t) _ (acceptable_named t s (accepts rules name t) (f ∙ h))

known_name : (s : Syntax) → is_some (syntax_named (name_of s)) ≡ true
known_name Ber = refl
known_name Der = refl
known_name Packed = refl

both : (a b : Bool) → a ≡ true → b ≡ true → (a && b) ≡ true
both true true e f = refl
both true false e f = f
both false b e f = e

fits_within : (p : Proposal) (taken : ℕ) (o : Option Syntax) → ((s : Syntax) → o ≡ Some s → is_listed (name_of s) p.transfers ≡ true) → fits p (add_answer (within_limit taken o)) ≡ true
fits_within p taken None h = refl
fits_within p taken (Some s) h = go (nat_le 64 taken)
  where
    go : (b : Bool) → fits p (add_answer (if b then Err LocalLimit else Ok s)) ≡ true
    go true = refl
    go false = both (is_listed (name_of s) p.transfers) _ (h s refl) (known_name s)

fits_judged : (rules : Rules) (taken : ℕ) (p : Proposal) → fits p (add_answer (judged rules taken p)) ≡ true
fits_judged rules taken p = go (is_same p.abstract_name rules.module || is_service rules p.abstract_name)
  where
    go : (b : Bool) → fits p (add_answer (if b then within_limit taken (chosen rules p.abstract_name p.transfers) else Err AbstractSyntax)) ≡ true
    go true = fits_within p taken (chosen rules p.abstract_name p.transfers) (chosen_listed rules p.abstract_name p.transfers)
    go false = refl

all_fit_judged : (rules : Rules) (taken : ℕ) (ps : List Proposal) → all_fit ps (added_answers rules taken ps) ≡ true
all_fit_judged rules taken [] = refl
all_fit_judged rules taken (p ∷ ps) =
    both (fits p (add_answer (judged rules taken p))) _ (fits_judged rules taken p) (all_fit_judged rules (taken_after taken (judged rules taken p)) ps)

as_many_answers : (rules : Rules) (taken : ℕ) (ps : List Proposal) → length ps ≡ length (added_answers rules taken ps)
as_many_answers rules taken [] = refl
as_many_answers rules taken (p ∷ ps) = ap (λ n. suc n) (as_many_answers rules (taken_after taken (judged rules taken p)) ps)

no_mismatch : (asked : Alteration) (answers : Answers) → length asked.added ≡ length answers.added → length asked.deleted ≡ length answers.deleted → all_fit asked.added answers.added ≡ true → mismatch asked answers ≡ None
no_mismatch asked answers e f g = grind (arith, nat_tests, e, f, g)

pub answers_fit : (rules : Rules) (set : ContextSet) (own : List Alteration) (used : List ℕ) (asked : Alteration) → mismatch asked (policy rules set own used asked) ≡ None
answers_fit rules set own used asked =
    no_mismatch asked (policy rules set own used asked)
    (as_many_answers rules (length set + additions own) asked.added)
    (sym (length-map asked.deleted (deletion_answer set used)))
    (all_fit_judged rules (length set + additions own) asked.added)
