-- Sets of lists of numbers, as the lists that were seen.
use Rattle.std.proofs.Common.{◌≡◌, ℕ, Bool, true, false, List, [], ◌∷◌, ◌++◌, map, refl, sym, ap, ◌∙◌, if◌then◌else◌}
use Rattle.std.specs.Prelude.{◌||◌, not, nat_eq}
use Rattle.std.specs.List.{list_any}
use Rattle.std.specs.Cmp.Lexicographic.{pointwise}
use Rattle.indexmap.specs.IndexSet.{insert_key}
use denote.Ref.{Bor}
use Rattle.operation_notation.specs.declared.module.CodeText.{CodeText}
use Rattle.std.specs.Prelude.{ℤ, Option, None, Some}
use Rattle.module_faults.specs.Met.{has_list, with_list, Codes, has_by, has_code, with_by, with_code}

abbrev pub codes_with : List ℤ → List (List ℕ) → Codes
codes_with locals globals = record { locals = locals; globals = globals }

abbrev Key : Type 0
Key = Bor (List ℕ)

abbrev now_of : Key → List ℕ
now_of k = k.now

any_now : (n : List ℕ) (ks : List Key) → list_any (λ (k : Key). pointwise nat_eq n k.now) ks ≡ has_list (map now_of ks) n
any_now n [] = refl
any_now n (k ∷ ks) = ap (λ (b : Bool). pointwise nat_eq n k.now || b) (any_now n ks)

map_end : (ks : List Key) (k : Key) → map now_of (ks ++ k ∷ []) ≡ map now_of ks ++ k.now ∷ []
map_end [] k = refl
map_end (x ∷ ks) k = ap (λ (z : List (List ℕ)). x.now ∷ z) (map_end ks k)

pub twice : (b : Bool) → not (not b) ≡ b
twice true = refl
twice false = refl

-- whether a list was seen before
pub seen_was : (n : List ℕ) (ks : List Key) (k : Key) (r : Bool) → k.now ≡ n → r ≡ not (list_any (λ (y : Key). pointwise nat_eq k.now y.now) ks) → not r ≡ has_list (map (λ (y : Key). y.now) ks) n
seen_was n ks k r e h = ap not h ∙ twice (list_any (λ (y : Key). pointwise nat_eq k.now y.now) ks) ∙ any_now k.now ks ∙ ap (λ (m : List ℕ). has_list (map now_of ks) m) e

kept : (ks : List Key) (k : Key) (b c : Bool) → b ≡ c → map now_of (if b then ks else ks ++ k ∷ []) ≡ (if c then map now_of ks else map now_of ks ++ k.now ∷ [])
kept ks k true true e = refl
kept ks k false false e = map_end ks k
kept ks k true false e = absurd cc
kept ks k false true e = absurd cc

-- what was seen afterwards
pub seen_now : (n : List ℕ) (ks new : List Key) (k : Key) → k.now ≡ n → new ≡ insert_key (λ (x y : Key). pointwise nat_eq x.now y.now) ks k → map (λ (y : Key). y.now) new ≡ with_list (map (λ (y : Key). y.now) ks) n
seen_now n ks new k e h =
    ap (map now_of) h
    ∙ kept ks k (list_any (λ (y : Key). pointwise nat_eq k.now y.now) ks) (has_list (map now_of ks) k.now) (any_now k.now ks)
    ∙ ap (λ (m : List ℕ). with_list (map now_of ks) m) e

-- ---- codes

pub code_was : (v s : Codes) (code : CodeText) (arcs : List ℕ) (r : Bool) → v ≡ s → code.local ≡ None → code.global ≡ Some arcs → r ≡ has_list v.globals arcs → r ≡ has_code s code
code_was v s code arcs r e l g h =
    h ∙ ap (λ (o : Option (List ℕ)). has_by v None o) (sym g) ∙ ap (λ (o : Option ℤ). has_by v o code.global) (sym l) ∙ ap (λ (z : Codes). has_code z code) e

pub code_now : (v s : Codes) (code : CodeText) (arcs : List ℕ) (new : List (List ℕ)) → v ≡ s → code.local ≡ None → code.global ≡ Some arcs → new ≡ with_list v.globals arcs → codes_with v.locals new ≡ with_code s code
code_now v s code arcs new e l g h =
    ap (λ (z : List (List ℕ)). codes_with v.locals z) h ∙ ap (λ (o : Option (List ℕ)). with_by v None o) (sym g) ∙ ap (λ (o : Option ℤ). with_by v o code.global) (sym l) ∙ ap (λ (z : Codes). with_code z code) e
