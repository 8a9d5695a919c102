-- Turns of the loops over an alteration that are left.
use Rattle.std.proofs.Common.{◌≡◌, ℕ, ◌+◌, ◌-◌, ◌<◌, ◌≤◌, true, false, List, [], ◌∷◌, ◌++◌, refl, Ok, Err, if◌then◌else◌, codes}
use Rattle.osi_base.specs.declared.layer_words.Proposal.{Proposal}
use Rattle.stub_tables.specs.declared.tables.Tables.{Tables}
use Rattle.script_lines.specs.declared.fault.ScriptKind.{ScriptKind}
use Rattle.script_lines.proofs.Turns.{one_more, none_left}
use Rattle.script_lines.specs.Fields.{is_over, is_next, skip, number_at}
use Rattle.schedule_text.specs.Alterations.{addition_at, then_addition, more_additions, then_number, more_numbers}

-- ---- additions

additions_turn : (tables : Tables) (n turn : ℕ) (ps : List Proposal) (text : List ℕ) → turn < n
    → more_additions tables (n - turn) ps text
    ≡ (if is_next (codes "add") text then then_addition (more_additions tables (n - (turn + 1))) ps (addition_at tables (skip text)) else Ok (ps, text))
additions_turn tables n turn ps text h = rw (one_more n turn h) refl

pub additions_end : (tables : Tables) (n turn : ℕ) (ps : List Proposal) (text : List ℕ) → turn < n → is_next (codes "add") text ≡ false
    → more_additions tables (n - turn) ps text ≡ Ok (ps, text)
additions_end tables n turn ps text h e = rw (additions_turn tables n turn ps text h, e) refl

pub additions_more : (tables : Tables) (n turn : ℕ) (ps : List Proposal) (text : List ℕ) (p : Proposal) (rest : List ℕ) → turn < n → is_next (codes "add") text ≡ true
    → addition_at tables (skip text) ≡ Ok (p, rest) → more_additions tables (n - turn) ps text ≡ more_additions tables (n - (turn + 1)) (ps ++ p ∷ []) rest
additions_more tables n turn ps text p rest h e read = rw (additions_turn tables n turn ps text h, e, read) refl

pub additions_bad : (tables : Tables) (n turn : ℕ) (ps : List Proposal) (text : List ℕ) (kind : ScriptKind) → turn < n → is_next (codes "add") text ≡ true
    → addition_at tables (skip text) ≡ Err kind → more_additions tables (n - turn) ps text ≡ Err kind
additions_bad tables n turn ps text kind h e read = rw (additions_turn tables n turn ps text h, e, read) refl

pub additions_over : (tables : Tables) (n turn : ℕ) (ps : List Proposal) (text : List ℕ) → n ≤ turn → more_additions tables (n - turn) ps text ≡ Ok (ps, text)
additions_over tables n turn ps text h = rw (none_left n turn h) refl

-- ---- numbers

numbers_turn : (n turn : ℕ) (ns : List ℕ) (text : List ℕ) → turn < n
    → more_numbers (n - turn) ns text ≡ (if is_over text then Ok (ns, text) else then_number (more_numbers (n - (turn + 1))) ns (number_at text))
numbers_turn n turn ns text h = rw (one_more n turn h) refl

pub numbers_end : (n turn : ℕ) (ns : List ℕ) (text : List ℕ) → turn < n → is_over text ≡ true → more_numbers (n - turn) ns text ≡ Ok (ns, text)
numbers_end n turn ns text h e = rw (numbers_turn n turn ns text h, e) refl

pub numbers_more : (n turn : ℕ) (ns : List ℕ) (text : List ℕ) (m : ℕ) (rest : List ℕ) → turn < n → is_over text ≡ false
    → number_at text ≡ Ok (m, rest) → more_numbers (n - turn) ns text ≡ more_numbers (n - (turn + 1)) (ns ++ m ∷ []) rest
numbers_more n turn ns text m rest h e read = rw (numbers_turn n turn ns text h, e, read) refl

pub numbers_bad : (n turn : ℕ) (ns : List ℕ) (text : List ℕ) (kind : ScriptKind) → turn < n → is_over text ≡ false
    → number_at text ≡ Err kind → more_numbers (n - turn) ns text ≡ Err kind
numbers_bad n turn ns text kind h e read = rw (numbers_turn n turn ns text h, e, read) refl

pub numbers_over : (n turn : ℕ) (ns : List ℕ) (text : List ℕ) → n ≤ turn → more_numbers (n - turn) ns text ≡ Ok (ns, text)
numbers_over n turn ns text h = rw (none_left n turn h) refl
