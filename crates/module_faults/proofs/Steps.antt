-- Types, level by level.
use Rattle.std.proofs.Common.{◌≡◌, ℕ, zero, suc, List, [], ◌∷◌, ◌++◌, Option, Result, Ok, Err, refl, sym, ap, ◌∙◌}
use Rattle.std.specs.Prelude.{IfOk, OnOk}
use Rattle.operation_notation.specs.Tree.{TypeTree, type_tree, PlainTree}
use Rattle.operation_notation.specs.declared.module.Assignment.{Assignment}
use Rattle.operation_notation.specs.declared.module.TagText.{TagText}
use Rattle.module_faults.specs.declared.least.Found.{Found}
use Rattle.module_faults.specs.Least.{least_from}
use Rattle.module_faults.specs.Locals.{tag_faults, plain_faults, type_faults}
use Rattle.module_faults.specs.Recursion.{plain_uses, type_uses}
use Rattle.module_faults.specs.Facts.{other, Facts, simple, plain_facts, tagged, type_facts, plain_shows, type_shows}
use Rattle.module_faults.proofs.LeastLaws.{least_two, least_none}

-- what follows where it is Ok
pub on_ok : {T E A B : Type 0} (r : Result T E) → (A → B) → OnOk r A → OnOk r B
on_ok (Ok x) f h = f h
on_ok (Err e) f h = tt

pub if_ok : {T E : Type 0} (A B : T → Type 0) (r : Result T E) → ((x : T) → A x → B x) → IfOk r A → IfOk r B
if_ok A B (Ok x) f h = f x h
if_ok A B (Err e) f h = tt

-- ---- faults by themselves

pub types_none : (all : List Assignment) (levels : ℕ) (of : TypeTree) (s : Option Found) → levels ≡ zero → s ≡ least_from s (type_faults all levels of)
unfolding type_faults
types_none all levels of s e = least_none s ∙ ap (λ (k : ℕ). least_from s (type_faults all k of)) (sym e)

pub types_step : (all : List Assignment) (levels n : ℕ) (of : TypeTree) (line column : ℕ) (tag : Option TagText) (plain : PlainTree) (s m r : Option Found) → levels ≡ suc n → type_tree line column tag plain ≡ of
    → m ≡ least_from s (tag_faults line column tag) → r ≡ least_from m (plain_faults all (type_faults all n) plain) → r ≡ least_from s (type_faults all levels of)
unfolding type_faults
types_step all levels n of line column tag plain s m r e f t p =
    least_two s m r (tag_faults line column tag) (plain_faults all (type_faults all n) plain) t p
    ∙ ap (λ (z : TypeTree). least_from s (type_faults all (suc n) z)) f
    ∙ ap (λ (k : ℕ). least_from s (type_faults all k of)) (sym e)

-- ---- names

append_none : (xs : List ℕ) → xs ≡ xs ++ []
append_none [] = refl
append_none (x ∷ xs) = ap (λ (z : List ℕ). x ∷ z) (append_none xs)

pub uses_none : (all : List Assignment) (levels : ℕ) (of : TypeTree) (u : List ℕ) → levels ≡ zero → u ≡ u ++ type_uses all levels of
unfolding type_uses
uses_none all levels of u e = append_none u ∙ ap (λ (k : ℕ). u ++ type_uses all k of) (sym e)

pub uses_step : (all : List Assignment) (levels n : ℕ) (of : TypeTree) (line column : ℕ) (tag : Option TagText) (plain : PlainTree) (u v : List ℕ) → levels ≡ suc n → type_tree line column tag plain ≡ of
    → v ≡ u ++ plain_uses all (type_uses all n) plain → v ≡ u ++ type_uses all levels of
unfolding type_uses
uses_step all levels n of line column tag plain u v e f p =
    p ∙ ap (λ (z : TypeTree). u ++ type_uses all (suc n) z) f ∙ ap (λ (k : ℕ). u ++ type_uses all k of) (sym e)

-- ---- types as a whole

pub facts_none : (env : List ℕ → Facts) (levels : ℕ) (of : TypeTree) (f : Facts) → levels ≡ zero → f ≡ simple 0 33 other → f ≡ type_facts env levels of
unfolding type_facts
facts_none env levels of f e h = h ∙ ap (λ (k : ℕ). type_facts env k of) (sym e)

pub shows_none : (env : List ℕ → Facts) (levels : ℕ) (of : TypeTree) (s : Option Found) → levels ≡ zero → s ≡ least_from s (type_shows env levels of)
unfolding type_shows
shows_none env levels of s e = least_none s ∙ ap (λ (k : ℕ). least_from s (type_shows env k of)) (sym e)

pub facts_step : (env : List ℕ → Facts) (levels n : ℕ) (of : TypeTree) (line column : ℕ) (tag : Option TagText) (plain : PlainTree) (inner f : Facts) → levels ≡ suc n → type_tree line column tag plain ≡ of
    → inner ≡ plain_facts env (type_facts env n) plain → f ≡ tagged tag inner → f ≡ type_facts env levels of
unfolding type_facts
facts_step env levels n of line column tag plain inner f e g i t =
    t ∙ ap (tagged tag) i ∙ ap (λ (z : TypeTree). type_facts env (suc n) z) g ∙ ap (λ (k : ℕ). type_facts env k of) (sym e)

pub shows_step : (env : List ℕ → Facts) (levels n : ℕ) (of : TypeTree) (line column : ℕ) (tag : Option TagText) (plain : PlainTree) (s m : Option Found) → levels ≡ suc n → type_tree line column tag plain ≡ of
    → m ≡ least_from s (plain_shows (type_facts env n) (type_shows env n) plain) → m ≡ least_from s (type_shows env levels of)
unfolding type_shows type_facts
shows_step env levels n of line column tag plain s m e g p =
    p ∙ ap (λ (z : TypeTree). least_from s (type_shows env (suc n) z)) g ∙ ap (λ (k : ℕ). least_from s (type_shows env k of)) (sym e)

pub always : {T E A : Type 0} (r : Result T E) → A → OnOk r A
always (Ok x) a = a
always (Err e) a = tt
