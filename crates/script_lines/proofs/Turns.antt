-- Turns of a loop over fields that are left.
use Rattle.std.proofs.Common.{◌≡◌, ℕ, zero, suc, ◌+◌, ◌-◌, ◌<◌, ◌≤◌, true, false, List, [], ◌∷◌, ◌++◌, refl, arith, Ok, Err, if◌then◌else◌}
use Rattle.script_lines.specs.declared.fault.ScriptKind.{ScriptKind}
use Rattle.script_lines.specs.declared.syntax.EndsBefore.{EndsBefore}
use Rattle.script_lines.specs.declared.line_fault.ScriptLineFault.{ScriptLineFault}
use Rattle.script_lines.specs.declared.line_fault.ScriptLineFault.TheVariants as faults
use Rattle.script_lines.specs.Reading.{Reading, FailsWith}
use Rattle.script_lines.specs.Syntaxes.{are_over, syntax_at, then_syntax, more_syntaxes}

-- a fault of one reading is one of another that fails as it does
pub fails_so : {X Y : Type 0} (fault : ScriptLineFault) (r : Reading X) (s : Reading Y) → ((kind : ScriptKind) → r ≡ Err kind → s ≡ Err kind) → FailsWith fault r → FailsWith fault s
fails_so (faults.Kind kind) r s h e = h kind e
fails_so faults.NoMemory r s h e = tt

pub one_more : (n turn : ℕ) → turn < n → n - turn ≡ suc (n - (turn + 1))
one_more n turn h = omega arith

pub none_left : (n turn : ℕ) → n ≤ turn → n - turn ≡ zero
none_left n turn h = omega arith

syntaxes_turn : (before : EndsBefore) (n turn : ℕ) (names : List (List ℕ)) (text : List ℕ) → turn < n
    → more_syntaxes before (n - turn) names text
    ≡ (if are_over before text then Ok (names, text) else then_syntax (more_syntaxes before (n - (turn + 1))) names (syntax_at text))
syntaxes_turn before n turn names text h = rw (one_more n turn h) refl

pub syntaxes_end : (before : EndsBefore) (n turn : ℕ) (names : List (List ℕ)) (text : List ℕ) → turn < n → are_over before text ≡ true
    → more_syntaxes before (n - turn) names text ≡ Ok (names, text)
syntaxes_end before n turn names text h e = rw (syntaxes_turn before n turn names text h, e) refl

pub syntaxes_more : (before : EndsBefore) (n turn : ℕ) (names : List (List ℕ)) (text name rest : List ℕ) → turn < n → are_over before text ≡ false
    → syntax_at text ≡ Ok (name, rest) → more_syntaxes before (n - turn) names text ≡ more_syntaxes before (n - (turn + 1)) (names ++ name ∷ []) rest
syntaxes_more before n turn names text name rest h e read = rw (syntaxes_turn before n turn names text h, e, read) refl

pub syntaxes_bad : (before : EndsBefore) (n turn : ℕ) (names : List (List ℕ)) (text : List ℕ) (kind : ScriptKind) → turn < n → are_over before text ≡ false
    → syntax_at text ≡ Err kind → more_syntaxes before (n - turn) names text ≡ Err kind
syntaxes_bad before n turn names text kind h e read = rw (syntaxes_turn before n turn names text h, e, read) refl

pub syntaxes_over : (before : EndsBefore) (n turn : ℕ) (names : List (List ℕ)) (text : List ℕ) → n ≤ turn → more_syntaxes before (n - turn) names text ≡ Ok (names, text)
syntaxes_over before n turn names text h = rw (none_left n turn h) refl
