-- Walking a type: its row without the tag, and then the tag over it.
use Rattle.std.proofs.Common.{◌≡◌, ℕ, suc, Option, Some, Result, sym, ap, subst}
use Rattle.operation_notation.specs.Tree.{TypeTree, type_tree, PlainTree}
use Rattle.operation_notation.specs.declared.module.TagText.{TagText}
use Rattle.asn1_types.specs.declared.row.TypeId.{TypeId}
use Rattle.module_compiler.specs.declared.fault.Halt.{Halt}
use Rattle.module_compiler.specs.Scope.{Ground}
use Rattle.module_compiler.specs.Numbering.{NumberedRows, Gives, after, tagged, plain_row, walk}

walk_step : (scope : Ground) (t line column : ℕ) (tag : Option TagText) (plain : PlainTree) (s mid : NumberedRows) (id : TypeId) → plain_row scope (walk scope t) plain s ≡ Some (id, mid) → walk scope (suc t) (type_tree line column tag plain) s ≡ tagged scope tag id mid
unfolding walk
walk_step scope t line column tag plain s mid id e = ap (λ (p : Option (TypeId × NumberedRows)). after p (tagged scope tag)) e

pub walk_gives : (scope : Ground) (turns t : ℕ) (of : TypeTree) (line column : ℕ) (tag : Option TagText) (plain : PlainTree) (s mid : NumberedRows) (id : TypeId) → turns ≡ suc t → type_tree line column tag plain ≡ of → plain_row scope (walk scope t) plain s ≡ Some (id, mid)
    → (r : Result TypeId Halt) (n : NumberedRows) → Gives r n (tagged scope tag id mid) → Gives r n (walk scope turns of s)
walk_gives scope turns t of line column tag plain s mid id e f g r n h =
    subst (λ (k : ℕ). Gives r n (walk scope k of s)) (sym e)
    (subst (λ (z : TypeTree). Gives r n (walk scope (suc t) z s)) f
    (subst (Gives r n) (sym (walk_step scope t line column tag plain s mid id g)) h))
