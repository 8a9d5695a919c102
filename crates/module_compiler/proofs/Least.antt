-- The least of faults: one of them, before which there is none; and none where there is no fault.
use Rattle.std.proofs.Common.{◌≡◌, ℕ, zero, suc, Bool, true, false, List, [], ◌∷◌, Option, None, Some, Result, Ok, Err, refl, sym, ap, subst, ◌∙◌, arith, inl, inr}
use Rattle.std.specs.Prelude.{◌⊎◌, not, nat_eq, nat_lt, IfErr, if◌then◌else◌}
use Rattle.std.specs.List.{Contains}
use Rattle.std.proofs.lemmas.Bool.Decides.{nat_tests}
use Rattle.stub_tables.specs.declared.tables.Tables.{Tables}
use Rattle.operation_notation.specs.declared.module.Assignment.{Assignment}
use Rattle.operation_notation.specs.declared.module.ModuleText.{ModuleText}
use Rattle.module_faults.specs.declared.kind.TableKind.{TableKind}
use Rattle.module_faults.specs.declared.least.Found.{Found}
use Rattle.module_faults.specs.Least.{fault, rank, is_before, lesser, least_from, least}
use Rattle.module_faults.specs.Recursion.{SaysRecursion}
use Rattle.module_faults.specs.Faults.{faults_by, IsLeastFault}
use Rattle.module_faults.proofs.OneFault.{one_least}
use Rattle.module_compiler.specs.declared.fault.TableFault.{TableFault}
use Rattle.module_compiler.specs.declared.fault.TableFault.TheVariants as faults
use Rattle.module_compiler.specs.Refusals.{IsFault, HasNoFault, HasFault, IsRefusedBy}
use Rattle.module_compiler.specs.Laws.{IsLeast}

-- ---- none

lesser_some : (s x : Found) → (t : Found) × (lesser (Some s) x ≡ Some t)
lesser_some s x = go (is_before x s) refl
  where
    go : (b : Bool) → is_before x s ≡ b → (t : Found) × (lesser (Some s) x ≡ Some t)
    go true e = (x, ap (λ (c : Bool). if c then Some x else Some s) e)
    go false e = (s, ap (λ (c : Bool). if c then Some x else Some s) e)

some_stays : (s : Found) (xs : List Found) → (t : Found) × (least_from (Some s) xs ≡ Some t)
unfolding least_from
some_stays s [] = (s, refl)
some_stays s (x ∷ xs) = let l = lesser_some s x in let r = some_stays l.0 xs in (r.0, ap (λ (o : Option Found). least_from o xs) l.1 ∙ r.1)

pub no_faults : (xs : List Found) → None ≡ least xs → xs ≡ []
unfolding least_from
no_faults [] e = refl
no_faults (x ∷ xs) e = let r = some_stays x xs in let f : None ≡ Some r.0 = e ∙ r.1 in absurd cc

none_least : None ≡ least []
unfolding least_from
none_least = refl

pub no_fault_of : (m : ModuleText) → IsLeastFault m.assignments None → HasNoFault m
no_fault_of m h = record { recursive = h.recursive; says = h.says; none = no_faults (faults_by m.assignments h.recursive) h.is }

pub none_is_least : (m : ModuleText) → HasNoFault m → IsLeastFault m.assignments None
none_is_least m h = record { recursive = h.recursive; says = h.says; is = none_least ∙ ap least (sym h.none) }

pub fault_or_none : (m : ModuleText) (line column : ℕ) (kind : TableKind) → HasNoFault m → HasFault m line column kind → ⊥
fault_or_none m line column kind none has = let e = one_least m.assignments None (Some (fault line column kind)) (none_is_least m none) has in cc

-- a module without a fault is refused for want of memory alone
pub complete_of : (m : ModuleText) (r : Result Tables TableFault) → IfErr r (IsRefusedBy m) → HasNoFault m → IfErr r (λ e. e ≡ faults.NoMemory)
complete_of m (Ok tables) h none = tt
complete_of m (Err (faults.At line column kind)) h none = absurd (fault_or_none m line column kind none h)
complete_of m (Err faults.NoMemory) h none = refl

-- ---- the least

contains_cases : (x : Found) (xs : List Found) (g : Found) → Contains (x ∷ xs) g → (x ≡ g) ⊎ Contains xs g
contains_cases x xs g (zero, lt, e) = inl e
contains_cases x xs g (suc k, lt, e) = inr (k, omega arith, e)

contains_there : (x : Found) (xs : List Found) (g : Found) → Contains xs g → Contains (x ∷ xs) g
contains_there x xs g (k, lt, e) = (suc k, omega arith, e)

-- three numbers before three others, by the first that differs
abbrev precedes : ℕ → ℕ → ℕ → ℕ → ℕ → ℕ → Bool
precedes a b c x y z = if not (nat_eq a x) then nat_lt a x else (if not (nat_eq b y) then nat_lt b y else nat_lt c z)

precedes_over : (a b c x y z l m n : ℕ) → precedes a b c x y z ≡ true → precedes x y z l m n ≡ true → precedes a b c l m n ≡ true
precedes_over a b c x y z l m n e f = grind (arith, nat_tests)

precedes_none : (a b c : ℕ) → precedes a b c a b c ≡ false
precedes_none a b c = grind (arith, nat_tests)

over : (f g h : Found) → is_before f g ≡ true → is_before g h ≡ true → is_before f h ≡ true
over f g h e k = precedes_over f.place.line f.place.column (rank f.kind) g.place.line g.place.column (rank g.kind) h.place.line h.place.column (rank h.kind) e k

not_itself : (f : Found) → is_before f f ≡ false
not_itself f = precedes_none f.place.line f.place.column (rank f.kind)

-- what isn't before one isn't before one that is before it
not_before : (g f s : Found) → is_before f s ≡ true → is_before g s ≡ false → is_before g f ≡ false
not_before g f s e k = go (is_before g f) refl
  where
    go : (b : Bool) → is_before g f ≡ b → b ≡ false
    go false h = refl
    go true h = let bad : is_before g s ≡ true = over g f s h e in cc

-- some of a list, before which stands none of those before and of that list
record LeastOf (s : Found) (xs : List Found) (f : Found) : Type 0 where
  among : (s ≡ f) ⊎ Contains xs f
  first : (g : Found) → (is_before g s ≡ false) ⊎ Contains xs g → is_before g f ≡ false

least_of : (s : Found) (xs : List Found) (f : Found) → least_from (Some s) xs ≡ Some f → LeastOf s xs f
unfolding least_from
least_of s [] f e =
    let same : s ≡ f = cc in
    record { among = inl same; first = λ g h. elim h as (λ z. is_before g f ≡ false) [ inl k ↦ subst (λ (x : Found). is_before g x ≡ false) same k | inr c ↦ absurd (omega (arith, c.1)) ] }
least_of s (x ∷ xs) f e = go (is_before x s) refl (λ h. least_of x xs f h) (λ h. least_of s xs f h)
  where
    go : (b : Bool) → is_before x s ≡ b → (least_from (Some x) xs ≡ Some f → LeastOf x xs f) → (least_from (Some s) xs ≡ Some f → LeastOf s xs f) → LeastOf s (x ∷ xs) f
    go true h new old =
        let r = new (sym (ap (λ (c : Bool). least_from (if c then Some x else Some s) xs) h) ∙ e) in
        record {
          among = elim r.among as (λ z. (s ≡ f) ⊎ Contains (x ∷ xs) f) [ inl same ↦ inr (0, omega arith, same) | inr c ↦ inr (contains_there x xs f c) ];
          first = λ g k. elim k as (λ z. is_before g f ≡ false) [
            | inl p ↦ r.first g (inl (not_before g x s h p))
            | inr c ↦ elim (contains_cases x xs g c) as (λ z. is_before g f ≡ false) [
              | inl same ↦ r.first g (inl (subst (λ (z : Found). is_before z x ≡ false) same (not_itself x)))
              | inr d ↦ r.first g (inr d)
            ]
          ];
        }
    go false h new old =
        let r = old (sym (ap (λ (c : Bool). least_from (if c then Some x else Some s) xs) h) ∙ e) in
        record {
          among = elim r.among as (λ z. (s ≡ f) ⊎ Contains (x ∷ xs) f) [ inl same ↦ inl same | inr c ↦ inr (contains_there x xs f c) ];
          first = λ g k. elim k as (λ z. is_before g f ≡ false) [
            | inl p ↦ r.first g (inl p)
            | inr c ↦ elim (contains_cases x xs g c) as (λ z. is_before g f ≡ false) [
              | inl same ↦ r.first g (inl (subst (λ (z : Found). is_before z s ≡ false) same h))
              | inr d ↦ r.first g (inr d)
            ]
          ];
        }

least_in : (xs : List Found) (f : Found) → Some f ≡ least xs → Contains xs f × ((g : Found) → Contains xs g → is_before g f ≡ false)
unfolding least_from
least_in [] f e = absurd cc
least_in (x ∷ xs) f e =
    let r = least_of x xs f (sym e) in (
      elim r.among as (λ z. Contains (x ∷ xs) f) [ inl same ↦ (0, omega arith, same) | inr c ↦ contains_there x xs f c ],
      λ g c. elim (contains_cases x xs g c) as (λ z. is_before g f ≡ false) [
        | inl same ↦ r.first g (inl (subst (λ (z : Found). is_before z x ≡ false) same (not_itself x)))
        | inr d ↦ r.first g (inr d)
      ],
    )

-- ---- one test of what reaches itself

same_truth : (a b : Bool) → (a ≡ true → b ≡ true) → (b ≡ true → a ≡ true) → a ≡ b
same_truth true b f g = sym (f refl)
same_truth false true f g = g refl
same_truth false false f g = refl

same_faults : (all : List Assignment) (one another : ℕ → Bool) → SaysRecursion all one → SaysRecursion all another → faults_by all one ≡ faults_by all another
same_faults all one another f g =
    let same : one ≡ another = (λ j. λ place. same_truth (one place) (another place) (λ (h : one place ≡ true). g.whole place (f.sound place h)) (λ (h : another place ≡ true). f.whole place (g.sound place h)) j) in
    ap (faults_by all) same

pub refused_are_least : (m : ModuleText) (line column : ℕ) (kind : TableKind) → HasFault m line column kind → IsLeast m (fault line column kind)
refused_are_least m line column kind h =
    let r = least_in (faults_by m.assignments h.recursive) (fault line column kind) h.is in
    record {
      is = record { recursive = h.recursive; says = h.says; among = r.0 };
      first = λ g k. r.1 g (subst (λ (xs : List Found). Contains xs g) (same_faults m.assignments k.recursive h.recursive k.says h.says) k.among);
    }

pub none_or_fault : (m : ModuleText) (found : Found) → HasNoFault m → IsFault m found → ⊥
none_or_fault m found none f =
    let empty : faults_by m.assignments f.recursive ≡ [] = same_faults m.assignments f.recursive none.recursive f.says none.says ∙ none.none in
    let in_none : Contains [] found = subst (λ (xs : List Found). Contains xs found) empty f.among in
    absurd (omega (arith, in_none.1))
