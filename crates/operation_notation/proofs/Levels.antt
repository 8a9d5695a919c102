-- Types at a number of levels.
use Rattle.std.proofs.Common.{◌≡◌, ℕ, zero, suc, ◌-◌, ◌<◌, List, refl, arith}
use Rattle.notation_tokens.specs.Lexeme.{Lexeme}
use Rattle.operation_notation.specs.Reading.{refuse_as}
use Rattle.operation_notation.specs.GrammarTypes.{narrow}
use Rattle.operation_notation.specs.ReadingTypes.{type_at, type_text_at, deep_kind}

pub type_at_none : (levels : ℕ) (ts : List Lexeme) → levels ≡ 0 → type_at narrow levels ts ≡ refuse_as (deep_kind ts) ts
unfolding type_at
type_at_none zero ts e = refl
type_at_none (suc n) ts e = absurd (omega arith)

pub type_at_some : (levels : ℕ) (ts : List Lexeme) → 0 < levels → type_at narrow levels ts ≡ type_text_at narrow (type_at narrow (levels - 1)) ts
unfolding type_at
type_at_some zero ts lt = absurd (omega arith)
type_at_some (suc n) ts lt = let e : suc n - 1 ≡ n = omega arith in rw e refl
