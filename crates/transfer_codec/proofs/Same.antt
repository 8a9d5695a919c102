-- When values of the model are one.
use Rattle.std.proofs.Common.{◌≡◌, refl, true, false, ap, arith, ℕ}
use Rattle.std.specs.Prelude.{Bool, ◌&&◌, Option, Some, None, nat_eq}
use Rattle.std.proofs.lemmas.Bool.Decides.{nat_tests}
use Rattle.end_rules.specs.Sets.{same_name}
use Rattle.agreement.specs.Sets.{Pair}
use Rattle.agreement.specs.Messages.{Problem, Apdu, Value}
use Rattle.agreement.specs.Messages.Problem.{General, OfInvocation, OfResult, OfError}
use Rattle.agreement.specs.Messages.Apdu.{Invoke, Outcome, Reject}
use Rattle.end_model.proofs.Fitting.{one-name, same-itself}

pub left : (a b : Bool) → (a && b) ≡ true → a ≡ true
left true b h = refl
left false b h = cc

pub right : (a b : Bool) → (a && b) ≡ true → b ≡ true
right true b h = h
right false b h = cc

pub both : (a b : Bool) → a ≡ true → b ≡ true → (a && b) ≡ true
both true b e f = f
both false b e f = cc

number-so : (a b : ℕ) → nat_eq a b ≡ true → a ≡ b
number-so a b h = grind (arith, nat_tests)

number-itself : (n : ℕ) → nat_eq n n ≡ true
number-itself n = grind (arith, nat_tests)

abbrev same_pair : Pair → Pair → Bool
same_pair p q = same_name p.abstract_syntax q.abstract_syntax && same_name p.transfer_syntax q.transfer_syntax

abbrev same_link : Option ℕ → Option ℕ → Bool
same_link None None = true
same_link (Some a) (Some b) = nat_eq a b
same_link _ _ = false

abbrev same_problem : Problem → Problem → Bool
same_problem (General a) (General b) = nat_eq a b
same_problem (OfInvocation a) (OfInvocation b) = nat_eq a b
same_problem (OfResult a) (OfResult b) = nat_eq a b
same_problem (OfError a) (OfError b) = nat_eq a b
same_problem _ _ = false

abbrev same_apdu : Apdu → Apdu → Bool
same_apdu (Invoke n o l a) (Invoke m p k b) = nat_eq n m && nat_eq o p && same_link l k && same_name a b
same_apdu (Outcome n a) (Outcome m b) = nat_eq n m && same_name a b
same_apdu (Reject n a) (Reject m b) = nat_eq n m && same_problem a b
same_apdu _ _ = false

abbrev pub same_value : Value → Value → Bool
same_value v w = nat_eq v.identifier w.identifier && same_pair v.pair w.pair && same_apdu v.apdu w.apdu

pair-so : (p q : Pair) → same_pair p q ≡ true → p ≡ q
pair-so p q h =
    let a = one-name p.abstract_syntax q.abstract_syntax (left (same_name p.abstract_syntax q.abstract_syntax) _ h) in
    let b = one-name p.transfer_syntax q.transfer_syntax (right (same_name p.abstract_syntax q.abstract_syntax) _ h) in
    λ i. record { abstract_syntax = a i; transfer_syntax = b i }

link-so : (a b : Option ℕ) → same_link a b ≡ true → a ≡ b
link-so None None h = refl
link-so (Some a) (Some b) h = ap (λ (n : ℕ). Some n) (number-so a b h)
link-so None (Some b) h = cc
link-so (Some a) None h = cc

problem-so : (a b : Problem) → same_problem a b ≡ true → a ≡ b
problem-so (General a) (General b) h = ap General (number-so a b h)
problem-so (OfInvocation a) (OfInvocation b) h = ap OfInvocation (number-so a b h)
problem-so (OfResult a) (OfResult b) h = ap OfResult (number-so a b h)
problem-so (OfError a) (OfError b) h = ap OfError (number-so a b h)
problem-so a b h = absurd cc

apdu-so : (a b : Apdu) → same_apdu a b ≡ true → a ≡ b
apdu-so (Invoke n o l a) (Invoke m p k b) h =
    let x = left (nat_eq n m && nat_eq o p && same_link l k) (same_name a b) h in
    let y = left (nat_eq n m && nat_eq o p) (same_link l k) x in
    let e1 = number-so n m (left (nat_eq n m) (nat_eq o p) y) in
    let e2 = number-so o p (right (nat_eq n m) (nat_eq o p) y) in
    let e3 = link-so l k (right (nat_eq n m && nat_eq o p) (same_link l k) x) in
    let e4 = one-name a b (right (nat_eq n m && nat_eq o p && same_link l k) (same_name a b) h) in
    λ i. Invoke (e1 i) (e2 i) (e3 i) (e4 i)
apdu-so (Outcome n a) (Outcome m b) h =
    let e1 = number-so n m (left (nat_eq n m) (same_name a b) h) in
    let e2 = one-name a b (right (nat_eq n m) (same_name a b) h) in
    λ i. Outcome (e1 i) (e2 i)
apdu-so (Reject n a) (Reject m b) h =
    let e1 = number-so n m (left (nat_eq n m) (same_problem a b) h) in
    let e2 = problem-so a b (right (nat_eq n m) (same_problem a b) h) in
    λ i. Reject (e1 i) (e2 i)
apdu-so a b h = absurd cc

pub value-so : (v w : Value) → same_value v w ≡ true → v ≡ w
value-so v w h =
    let x = left (nat_eq v.identifier w.identifier && same_pair v.pair w.pair) (same_apdu v.apdu w.apdu) h in
    let e1 = number-so v.identifier w.identifier (left (nat_eq v.identifier w.identifier) (same_pair v.pair w.pair) x) in
    let e2 = pair-so v.pair w.pair (right (nat_eq v.identifier w.identifier) (same_pair v.pair w.pair) x) in
    let e3 = apdu-so v.apdu w.apdu (right (nat_eq v.identifier w.identifier && same_pair v.pair w.pair) (same_apdu v.apdu w.apdu) h) in
    λ i. record { identifier = e1 i; pair = e2 i; apdu = e3 i }

link-itself : (l : Option ℕ) → same_link l l ≡ true
link-itself None = refl
link-itself (Some n) = number-itself n

problem-itself : (p : Problem) → same_problem p p ≡ true
problem-itself (General n) = number-itself n
problem-itself (OfInvocation n) = number-itself n
problem-itself (OfResult n) = number-itself n
problem-itself (OfError n) = number-itself n

apdu-itself : (a : Apdu) → same_apdu a a ≡ true
apdu-itself (Invoke n o l a) = both (nat_eq n n && nat_eq o o && same_link l l) (same_name a a) (both (nat_eq n n && nat_eq o o) (same_link l l) (both (nat_eq n n) (nat_eq o o) (number-itself n) (number-itself o)) (link-itself l)) (same-itself a)
apdu-itself (Outcome n a) = both (nat_eq n n) (same_name a a) (number-itself n) (same-itself a)
apdu-itself (Reject n a) = both (nat_eq n n) (same_problem a a) (number-itself n) (problem-itself a)

pub value-itself : (v : Value) → same_value v v ≡ true
value-itself v =
    both (nat_eq v.identifier v.identifier && same_pair v.pair v.pair) (same_apdu v.apdu v.apdu)
    (both (nat_eq v.identifier v.identifier) (same_pair v.pair v.pair) (number-itself v.identifier) (both (same_name v.pair.abstract_syntax v.pair.abstract_syntax) (same_name v.pair.transfer_syntax v.pair.transfer_syntax) (same-itself v.pair.abstract_syntax) (same-itself v.pair.transfer_syntax)))
    (apdu-itself v.apdu)
