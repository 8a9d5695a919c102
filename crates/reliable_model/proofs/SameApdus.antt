-- Transferable APDUs that are one in the model are one.
use Rattle.std.proofs.Common.{◌≡◌, refl, ◌∙◌, sym, ap, subst, arith, ℕ, List, []}
use Rattle.std.specs.Prelude.{ℤ, pos, negsuc, Option, Some, None}
use Rattle.osi_base.specs.declared.layer_words.Problem.{Problem}
use Rattle.osi_base.specs.declared.layer_words.ProblemKind.{ProblemKind}
use Rattle.osi_base.specs.declared.layer_words.ProblemKind.TheVariants as problems
use Rattle.osi_base.specs.declared.syntax.Syntax.TheVariants.{Der}
use Rattle.asn1_types.specs.declared.value.Val.{Val}
use Rattle.stub_tables.specs.declared.operation.Code.{Code}
use Rattle.stub_tables.specs.declared.apdu.Apdu.{Apdu}
use Rattle.stub_tables.specs.declared.apdu.Apdu.TheVariants as apdus
use Rattle.stub_tables.specs.declared.apdu.Returned.{Returned}
use Rattle.end_model.specs.end_rules.Base.{Base}
use Rattle.end_model.specs.end_rules.Hearing.{carried_in, code_returned, value_returned, head_of_apdu}
use Rattle.agreement.specs.Messages as model
use Rattle.agreement.specs.Messages.Apdu.{Invoke, Outcome, Reject}
use Rattle.agreement.specs.Messages.Problem.{General as of_general, OfInvocation as of_invocation, OfResult as of_result, OfError as of_error}
use Rattle.end_model.specs.Seen.{number_seen, problem_in, problem_seen, rejected_seen, apdu_seen}
use Rattle.end_model.specs.OpenInvocations.{IsNamed, IsProblem}
use Rattle.end_model.specs.Acting.{ReadsBack}
use Rattle.reliable_model.specs.Codecs.{IsTransferable}

-- ---- heads

same-carried : (x y : Option Val) → carried_in x ≡ carried_in y → x ≡ y
same-carried None None e = refl
same-carried None (Some v) e = cc
same-carried (Some u) None e = cc
same-carried (Some u) (Some v) e = let s : u ≡ v = cc in ap Some s

same-returned : (x y : Option Returned) → code_returned x ≡ code_returned y → value_returned x ≡ value_returned y → x ≡ y
same-returned None None e f = refl
same-returned None (Some r) e f = cc
same-returned (Some r) None e f = cc
same-returned (Some r) (Some q) e f =
    let codes : r.code ≡ q.code = cc in
    let values : r.value ≡ q.value = cc in
    let put : Code → Val → Option Returned = λ c v. Some (record { code = c; value = v }) in
    ap (λ c. put c r.value) codes ∙ ap (put q.code) values

-- ---- what is handed in

abbrev IsHanded : Apdu → Type 0
IsHanded (apdus.Reject id problem) = ⊥
IsHanded apdu = Unit {0}

handed-head : (x y : Apdu) → IsHanded x → IsHanded y → head_of_apdu x ≡ head_of_apdu y → x ≡ y
handed-head (apdus.Invoke id linked code argument) (apdus.Invoke id' linked' code' argument') h k e =
    let arguments : carried_in argument ≡ carried_in argument' = cc in
    let same : argument ≡ argument' = same-carried argument argument' arguments in
    cc
handed-head (apdus.Result id r) (apdus.Result id' r') h k e =
    let codes : code_returned r ≡ code_returned r' = cc in
    let values : value_returned r ≡ value_returned r' = cc in
    let same : r ≡ r' = same-returned r r' codes values in
    cc
handed-head (apdus.Error id code parameter) (apdus.Error id' code' parameter') h k e =
    let parameters : carried_in parameter ≡ carried_in parameter' = cc in
    let same : parameter ≡ parameter' = same-carried parameter parameter' parameters in
    cc
handed-head (apdus.Invoke id linked code argument) (apdus.Result id' r) h k e = cc
handed-head (apdus.Invoke id linked code argument) (apdus.Error id' code' parameter) h k e = cc
handed-head (apdus.Result id r) (apdus.Invoke id' linked code argument) h k e = cc
handed-head (apdus.Result id r) (apdus.Error id' code parameter) h k e = cc
handed-head (apdus.Error id code parameter) (apdus.Invoke id' linked code' argument) h k e = cc
handed-head (apdus.Error id code parameter) (apdus.Result id' r) h k e = cc
handed-head (apdus.Reject id problem) y h k e = absurd h
handed-head x (apdus.Reject id problem) h k e = absurd k

octets-in : model.Apdu → List ℕ
octets-in (Invoke number operation link octets) = octets
octets-in (Outcome number octets) = octets
octets-in (Reject number problem) = []

octets-seen : (base : Base) (x : Apdu) → IsHanded x → octets-in (apdu_seen base x) ≡ base.spellings.apdu Der x
unfolding octets-in
octets-seen base (apdus.Invoke id linked code argument) h = refl
octets-seen base (apdus.Result id r) h = refl
octets-seen base (apdus.Error id code parameter) h = refl
octets-seen base (apdus.Reject id problem) h = absurd h

reads-so : (base : Base) (x : Apdu) → ReadsBack base → IsTransferable base x → IsHanded x → base.spellings.head Der (base.spellings.apdu Der x) ≡ head_of_apdu x
reads-so base (apdus.Invoke id linked code argument) back t h = back.reads (apdus.Invoke id linked code argument) t.proper t.short
reads-so base (apdus.Result id r) back t h = back.reads (apdus.Result id r) t.proper t.short
reads-so base (apdus.Error id code parameter) back t h = back.reads (apdus.Error id code parameter) t.proper t.short
reads-so base (apdus.Reject id problem) back t h = absurd h

handed-same : (base : Base) (x y : Apdu) → ReadsBack base → IsTransferable base x → IsTransferable base y → IsHanded x → IsHanded y → apdu_seen base x ≡ apdu_seen base y → x ≡ y
handed-same base x y back t u h k e =
    handed-head x y h k
    (sym (reads-so base x back t h) ∙
    ap (base.spellings.head Der) (sym (octets-seen base x h) ∙ ap octets-in e ∙ octets-seen base y k) ∙
    reads-so base y back u k)

-- ---- rejects

kind-of : model.Problem → ProblemKind
kind-of (of_general code) = problems.General
kind-of (of_invocation code) = problems.Invoke
kind-of (of_result code) = problems.Result
kind-of (of_error code) = problems.Error

code-of : model.Problem → ℕ
code-of (of_general code) = code
code-of (of_invocation code) = code
code-of (of_result code) = code
code-of (of_error code) = code

kind-seen : (kind : ProblemKind) (code : ℕ) → kind-of (problem_in kind code) ≡ kind
unfolding kind-of
kind-seen problems.General code = refl
kind-seen problems.Invoke code = refl
kind-seen problems.Result code = refl
kind-seen problems.Error code = refl

code-seen : (kind : ProblemKind) (code : ℕ) → code-of (problem_in kind code) ≡ code
unfolding code-of
code-seen problems.General code = refl
code-seen problems.Invoke code = refl
code-seen problems.Result code = refl
code-seen problems.Error code = refl

same-id : (x y : Option ℤ) → IsNamed x → IsNamed y → rejected_seen x ≡ rejected_seen y → x ≡ y
same-id None None h k e = refl
same-id None (Some (pos n)) h k e = absurd (omega (arith, e, k.0))
same-id None (Some (negsuc n)) h k e = absurd k
same-id (Some (pos n)) None h k e = absurd (omega (arith, e, h.0))
same-id (Some (negsuc n)) y h k e = absurd h
same-id (Some (pos n)) (Some (pos m)) h k e = ap (λ (i : ℕ). Some (pos i)) e
same-id (Some (pos n)) (Some (negsuc m)) h k e = absurd k

same-number : (id : Option ℤ) (kind : ProblemKind) (x y : ℤ) → IsProblem id kind x → IsProblem id kind y → number_seen x ≡ number_seen y → x ≡ y
same-number id kind (negsuc n) y h k e = absurd h
same-number id kind (pos n) (negsuc m) h k e = absurd k
same-number id kind (pos n) (pos m) h k e = ap pos e

same-problem : (id : Option ℤ) (x y : Problem) → IsProblem id x.kind x.number → IsProblem id y.kind y.number → problem_seen x ≡ problem_seen y → x ≡ y
same-problem id x y h k e =
    let kinds : x.kind ≡ y.kind = sym (kind-seen x.kind (number_seen x.number)) ∙ ap kind-of e ∙ kind-seen y.kind (number_seen y.number) in
    let codes : number_seen x.number ≡ number_seen y.number = sym (code-seen x.kind (number_seen x.number)) ∙ ap code-of e ∙ code-seen y.kind (number_seen y.number) in
    let numbers : x.number ≡ y.number = same-number id y.kind x.number y.number (subst (λ z. IsProblem id z x.number) kinds h) k codes in
    let put : ProblemKind → ℤ → Problem = λ z n. record { kind = z; number = n } in
    ap (λ z. put z x.number) kinds ∙ ap (put y.kind) numbers

number-in : model.Apdu → ℕ
number-in (Reject number problem) = number
number-in (Invoke number operation link octets) = 0
number-in (Outcome number octets) = 0

problem-of : model.Apdu → model.Problem
problem-of (Reject number problem) = problem
problem-of (Invoke number operation link octets) = of_general 0
problem-of (Outcome number octets) = of_general 0

rejects-same : (base : Base) (id id' : Option ℤ) (problem problem' : Problem) → IsTransferable base (apdus.Reject id problem) → IsTransferable base (apdus.Reject id' problem') → apdu_seen base (apdus.Reject id problem) ≡ apdu_seen base (apdus.Reject id' problem') → apdus.Reject id problem ≡ apdus.Reject id' problem'
unfolding number-in problem-of
rejects-same base id id' problem problem' t u e =
    let ids : id ≡ id' = same-id id id' t.proper.0 u.proper.0 (ap number-in e) in
    let theirs : IsProblem id problem'.kind problem'.number = subst (λ i. IsProblem i problem'.kind problem'.number) (sym ids) u.proper.1 in
    let problems_ : problem ≡ problem' = same-problem id problem problem' t.proper.1 theirs (ap problem-of e) in
    ap (λ i. apdus.Reject i problem) ids ∙ ap (apdus.Reject id') problems_

-- ---- all

pub apdus-same : (base : Base) (x y : Apdu) → ReadsBack base → IsTransferable base x → IsTransferable base y → apdu_seen base x ≡ apdu_seen base y → x ≡ y
apdus-same base (apdus.Reject id problem) (apdus.Reject id' problem') back t u e = rejects-same base id id' problem problem' t u e
apdus-same base (apdus.Reject id problem) (apdus.Invoke id' linked code argument) back t u e = cc
apdus-same base (apdus.Reject id problem) (apdus.Result id' r) back t u e = cc
apdus-same base (apdus.Reject id problem) (apdus.Error id' code parameter) back t u e = cc
apdus-same base (apdus.Invoke id linked code argument) (apdus.Reject id' problem) back t u e = cc
apdus-same base (apdus.Result id r) (apdus.Reject id' problem) back t u e = cc
apdus-same base (apdus.Error id code parameter) (apdus.Reject id' problem) back t u e = cc
apdus-same base (apdus.Invoke id linked code argument) (apdus.Invoke id' linked' code' argument') back t u e = handed-same base _ _ back t u tt tt e
apdus-same base (apdus.Invoke id linked code argument) (apdus.Result id' r) back t u e = handed-same base _ _ back t u tt tt e
apdus-same base (apdus.Invoke id linked code argument) (apdus.Error id' code' parameter) back t u e = handed-same base _ _ back t u tt tt e
apdus-same base (apdus.Result id r) (apdus.Invoke id' linked code argument) back t u e = handed-same base _ _ back t u tt tt e
apdus-same base (apdus.Result id r) (apdus.Result id' r') back t u e = handed-same base _ _ back t u tt tt e
apdus-same base (apdus.Result id r) (apdus.Error id' code parameter) back t u e = handed-same base _ _ back t u tt tt e
apdus-same base (apdus.Error id code parameter) (apdus.Invoke id' linked code' argument) back t u e = handed-same base _ _ back t u tt tt e
apdus-same base (apdus.Error id code parameter) (apdus.Result id' r) back t u e = handed-same base _ _ back t u tt tt e
apdus-same base (apdus.Error id code parameter) (apdus.Error id' code' parameter') back t u e = handed-same base _ _ back t u tt tt e
