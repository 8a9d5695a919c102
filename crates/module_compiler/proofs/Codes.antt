-- In a module without a fault each operation has a code of its own, and each error.
use Rattle.std.proofs.Common.{◌≡◌, ℕ, ◌≤◌, Bool, true, false, List, [], ◌∷◌, ◌++◌, length, Option, None, Some, refl, sym, ap, ◌∙◌, arith, ℤ}
use Rattle.std.specs.Prelude.{◌||◌, ◌&&◌, not, nat_eq, map, if◌then◌else◌}
use Rattle.std.specs.List.{list_any, AllByRecursion}
use Rattle.std.specs.Ordering.{int_eq}
use Rattle.std.specs.Cmp.Lexicographic.{pointwise}
use Rattle.std.proofs.lemmas.Bool.Decides.{Decides-int_eq}
use Rattle.std.proofs.lemmas.Slice.Eq.{bytes_eq-Decides}
use Rattle.operation_notation.specs.declared.module.Assignment.{Assignment}
use Rattle.operation_notation.specs.declared.module.CodeText.{CodeText}
use Rattle.stub_tables.specs.Codes.{same_code, have_own_codes}
use Rattle.stub_tables.specs.declared.operation.Code.{Code}
use Rattle.stub_tables.specs.declared.operation.Code.TheVariants.{Local, Global}
use Rattle.module_faults.specs.declared.kind.TableKind.TheVariants as kinds
use Rattle.module_faults.specs.declared.least.Found.{Found}
use Rattle.module_faults.specs.Least.{fault, if_so}
use Rattle.module_faults.specs.Met.{has_list, with_list, has_number, with_number, Codes, has_by, has_code, with_by, with_code, no_codes}
use Rattle.module_faults.specs.Locals.{own_code, code_faults, and_code, double_codes}
use Rattle.module_compiler.specs.ModuleTables.{code_by}
use Rattle.module_compiler.proofs.OwnCodes.{any_end, either_false}
use Rattle.module_compiler.proofs.Rows.{nothing_first, nothing_behind}

-- ---- codes that are the same

swap : (p q : Bool) → (p ≡ true → q ≡ true) → (q ≡ true → p ≡ true) → p ≡ false → q ≡ false
swap p true f g e = let h : p ≡ true = g refl in absurd cc
swap p false f g e = refl

int_swap : (a b : ℤ) → int_eq a b ≡ false → int_eq b a ≡ false
int_swap a b e =
    swap (int_eq a b) (int_eq b a) (λ h. (Decides-int_eq b a).1 (sym ((Decides-int_eq a b).0 h))) (λ h. (Decides-int_eq a b).1 (sym ((Decides-int_eq b a).0 h))) e

list_swap : (a b : List ℕ) → pointwise nat_eq a b ≡ false → pointwise nat_eq b a ≡ false
list_swap a b e =
    swap (pointwise nat_eq a b) (pointwise nat_eq b a) (λ h. (bytes_eq-Decides b a).1 (sym ((bytes_eq-Decides a b).0 h))) (λ h. (bytes_eq-Decides a b).1 (sym ((bytes_eq-Decides b a).0 h))) e

-- ---- codes that were seen

abbrev pub holds : Codes → Code → Bool
holds seen (Local number) = has_number seen.locals number
holds seen (Global arcs) = has_list seen.globals arcs

-- this is written so
abbrev pub IsCode : CodeText → Code → Type 0
IsCode c d = code_by c.local c.global ≡ Some d

has_is : (seen : Codes) (l : Option ℤ) (g : Option (List ℕ)) (d : Code) → code_by l g ≡ Some d → has_by seen l g ≡ holds seen d
has_is seen (Some number) g d e = let same : Local number ≡ d = cc in ap (holds seen) same
has_is seen None (Some arcs) d e = let same : Global arcs ≡ d = cc in ap (holds seen) same
has_is seen None None d e = absurd cc

-- what isn't seen with one more isn't that one, and wasn't seen before
abbrev IsOther : Codes → Code → Code → Type 0
IsOther seen d e = (holds seen e ≡ false) × (same_code d e ≡ false)

pub number_more : (all : List ℤ) (n m : ℤ) → has_number all n ≡ false → has_number (with_number all n) m ≡ false → (has_number all m ≡ false) × (int_eq n m ≡ false)
number_more all n m is_new e =
    let grown : with_number all n ≡ all ++ n ∷ [] = ap (λ (b : Bool). if b then all else all ++ n ∷ []) is_new in
    let none : list_any (int_eq m) (all ++ n ∷ []) ≡ false = sym (ap (λ (l : List ℤ). has_number l m) grown) ∙ e in
    let both = either_false (int_eq m n) (list_any (int_eq m) all) (sym (any_end (int_eq m) all n) ∙ none) in
    (both.1, int_swap m n both.0)

pub list_more : (all : List (List ℕ)) (n m : List ℕ) → has_list all n ≡ false → has_list (with_list all n) m ≡ false → (has_list all m ≡ false) × (pointwise nat_eq n m ≡ false)
list_more all n m is_new e =
    let grown : with_list all n ≡ all ++ n ∷ [] = ap (λ (b : Bool). if b then all else all ++ n ∷ []) is_new in
    let none : list_any (λ (x : List ℕ). pointwise nat_eq m x) (all ++ n ∷ []) ≡ false = sym (ap (λ (l : List (List ℕ)). has_list l m) grown) ∙ e in
    let both = either_false (pointwise nat_eq m n) (list_any (λ (x : List ℕ). pointwise nat_eq m x) all) (sym (any_end (λ (x : List ℕ). pointwise nat_eq m x) all n) ∙ none) in
    (both.1, list_swap m n both.0)

other_by : (seen : Codes) (l : Option ℤ) (g : Option (List ℕ)) (d e : Code) → code_by l g ≡ Some d → holds seen d ≡ false → holds (with_by seen l g) e ≡ false → IsOther seen d e
other_by seen (Some number) g d e is is_new none = let same : Local number ≡ d = cc in at e none same is_new
  where
    at : (e : Code) → holds (with_by seen (Some number) g) e ≡ false → Local number ≡ d → holds seen d ≡ false → IsOther seen d e
    at (Local m) none same is_new =
        let new : has_number seen.locals number ≡ false = ap (holds seen) same ∙ is_new in
        let r = number_more seen.locals number m new none in
        (r.0, sym (ap (λ (c : Code). same_code c (Local m)) same) ∙ r.1)
    at (Global arcs) none same is_new = (none, sym (ap (λ (c : Code). same_code c (Global arcs)) same))
other_by seen None (Some arcs) d e is is_new none = let same : Global arcs ≡ d = cc in at e none same is_new
  where
    at : (e : Code) → holds (with_by seen None (Some arcs)) e ≡ false → Global arcs ≡ d → holds seen d ≡ false → IsOther seen d e
    at (Local m) none same is_new = (none, sym (ap (λ (c : Code). same_code c (Local m)) same))
    at (Global more) none same is_new =
        let new : has_list seen.globals arcs ≡ false = ap (holds seen) same ∙ is_new in
        let r = list_more seen.globals arcs more new none in
        (r.0, sym (ap (λ (c : Code). same_code c (Global more)) same) ∙ r.1)
other_by seen None None d e is is_new none = absurd cc

-- ---- the codes of assignments

-- these are the codes of the operations, or of the errors, in order
pub data Coded (errors : Bool) : List Assignment → List Code → Type 0 where
  no_more : Coded errors [] []
  passed : (a : Assignment) (xs : List Assignment) (ds : List Code) → own_code errors a.body ≡ None → Coded errors xs ds → Coded errors (a ∷ xs) ds
  coded : (a : Assignment) (xs : List Assignment) (c : CodeText) (d : Code) (ds : List Code) → own_code errors a.body ≡ Some c → IsCode c d → Coded errors xs ds → Coded errors (a ∷ xs) (d ∷ ds)

pub coded_few : (errors : Bool) (xs : List Assignment) (ds : List Code) → Coded errors xs ds → length ds ≤ length xs
coded_few errors _ _ no_more = omega arith
coded_few errors _ _ (passed a xs ds e more) = let r : length ds ≤ length xs = coded_few errors xs ds more in omega arith
coded_few errors _ _ (coded a xs c d ds e is more) = let r : length ds ≤ length xs = coded_few errors xs ds more in omega arith

abbrev Unseen : Codes → List Code → Type 0
Unseen seen ds = AllByRecursion (λ d. holds seen d ≡ false) ds

not_if : (b : Bool) (f : Found) → if_so b f ≡ [] → b ≡ false
not_if true f e = absurd cc
not_if false f e = refl

apart_from : (seen : Codes) (l : Option ℤ) (g : Option (List ℕ)) (d : Code) (ds : List Code) → code_by l g ≡ Some d → holds seen d ≡ false → Unseen (with_by seen l g) ds → Unseen seen ds × (list_any (λ y. same_code d y) ds ≡ false)
apart_from seen l g d [] is is_new h = (tt, refl)
apart_from seen l g d (e ∷ ds) is is_new h =
    let o = other_by seen l g d e is is_new h.0 in
    let r = apart_from seen l g d ds is is_new h.1 in
    ((o.0, r.0), none (same_code d e) (list_any (λ y. same_code d y) ds) o.1 r.1)
  where
    none : (a b : Bool) → a ≡ false → b ≡ false → (a || b) ≡ false
    none true b e f = absurd cc
    none false b e f = f

own_by : (b c : Bool) → b ≡ false → c ≡ true → (not b && c) ≡ true
own_by true c e f = absurd cc
own_by false c e f = f

each_own : (errors : Bool) (seen : Codes) (xs : List Assignment) (ds : List Code) → Coded errors xs ds → double_codes errors seen xs ≡ [] → Unseen seen ds × (have_own_codes (λ d. d) ds ≡ true)
each_own errors seen _ _ no_more h = (tt, refl)
each_own errors seen _ _ (passed a xs ds e more) h =
    each_own errors seen xs ds more (sym (ap (λ (o : Option CodeText). code_faults seen o ++ double_codes errors (and_code seen o) xs) e) ∙ h)
each_own errors seen _ _ (coded a xs c d ds e is more) h =
    let here : code_faults seen (Some c) ++ double_codes errors (with_code seen c) xs ≡ [] = sym (ap (λ (o : Option CodeText). code_faults seen o ++ double_codes errors (and_code seen o) xs) e) ∙ h in
    let was : has_code seen c ≡ false = not_if (has_code seen c) (fault c.line c.column kinds.DoubleCode) (nothing_first (code_faults seen (Some c)) (double_codes errors (with_code seen c) xs) here) in
    let is_new : holds seen d ≡ false = sym (has_is seen c.local c.global d is) ∙ was in
    let r = each_own errors (with_code seen c) xs ds more (nothing_behind (code_faults seen (Some c)) (double_codes errors (with_code seen c) xs) here) in
    let a = apart_from seen c.local c.global d ds is is_new r.0 in
    ((is_new, a.0), own_by (list_any (λ y. same_code d y) ds) (have_own_codes (λ d. d) ds) a.1 r.1)

any_map : {X : Type 0} (code : X → Code) (t : Code → Bool) (xs : List X) → list_any (λ x. t (code x)) xs ≡ list_any t (map code xs)
any_map code t [] = refl
any_map code t (x ∷ xs) = ap (λ (b : Bool). t (code x) || b) (any_map code t xs)

own_map : {X : Type 0} (code : X → Code) (xs : List X) → have_own_codes code xs ≡ have_own_codes (λ d. d) (map code xs)
own_map code [] = refl
own_map code (x ∷ xs) =
    ap (λ (b : Bool). not b && have_own_codes code xs) (any_map code (λ y. same_code (code x) y) xs)
    ∙ ap (λ (b : Bool). not (list_any (λ y. same_code (code x) y) (map code xs)) && b) (own_map code xs)

-- rows with the codes of a module without a fault
pub own_rows : {X : Type 0} (code : X → Code) (errors : Bool) (all : List Assignment) (xs : List X) → Coded errors all (map code xs) → double_codes errors no_codes all ≡ [] → have_own_codes code xs ≡ true
own_rows code errors all xs c h = own_map code xs ∙ (each_own errors no_codes all (map code xs) c h).1
