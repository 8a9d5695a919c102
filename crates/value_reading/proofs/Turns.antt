-- Turns of a loop that are left.
use Rattle.std.proofs.Common.{◌≡◌, ℕ, zero, suc, ◌+◌, ◌-◌, ◌<◌, ◌≤◌, Bool, true, false, List, [], ◌∷◌, length, drop, get_or, None, Some, refl, arith, if◌then◌else◌, ◌==◌}
use Rattle.std.specs.Prelude.{slice_get, slice_set}
use Rattle.asn1_types.specs.declared.row.Part.{Part}
use Rattle.asn1_types.specs.Value.{Value}
use Rattle.value_text.specs.Numbers.{number_of}
use Rattle.value_reading.specs.Found.{Reader}
use Rattle.value_reading.specs.Words.{word, behind_word, after_comma}
use Rattle.value_reading.specs.Forms.{arcs_at, oid_before, then_arc}
use Rattle.value_reading.specs.Typed.{Slots, place_of, may_stand, part_at, named_part, parts_at, with_item, items_at}

one_more : (n turn : ℕ) → turn < n → n - turn ≡ suc (n - (turn + 1))
one_more n turn h = omega arith

none_left : (n turn : ℕ) → n ≤ turn → n - turn ≡ zero
none_left n turn h = omega arith

pub parts_turn : (inner : ℕ → Reader) (ordered : Bool) (ps : List Part) (n turn : ℕ) (slots : Slots) (least : ℕ) (text : List ℕ) → turn < n
    → parts_at inner ordered ps (n - turn) slots least text
    ≡ named_part inner ordered ps (parts_at inner ordered ps (n - (turn + 1))) slots least (place_of ps (word text)) (behind_word text)
parts_turn inner ordered ps n turn slots least text h = rw (one_more n turn h) refl

pub parts_over : (inner : ℕ → Reader) (ordered : Bool) (ps : List Part) (n turn : ℕ) (slots : Slots) (least : ℕ) (text : List ℕ) → n ≤ turn
    → parts_at inner ordered ps (n - turn) slots least text ≡ None
parts_over inner ordered ps n turn slots least text h = rw (none_left n turn h) refl

pub items_turn : (read : Reader) (n turn : ℕ) (values : List Value) (text : List ℕ) → turn < n
    → items_at read (n - turn) values text ≡ with_item (items_at read (n - (turn + 1))) values (read text)
items_turn read n turn values text h = rw (one_more n turn h) refl

pub items_over : (read : Reader) (n turn : ℕ) (values : List Value) (text : List ℕ) → n ≤ turn → items_at read (n - turn) values text ≡ None
items_over read n turn values text h = rw (none_left n turn h) refl

arcs_turn : (n turn : ℕ) (arcs : List ℕ) (c : ℕ) (cs : List ℕ) → turn < n
    → arcs_at (n - turn) arcs (c ∷ cs)
    ≡ (if c == 32 then arcs_at (n - (turn + 1)) arcs cs
    else if c == 125 then oid_before arcs cs
    else then_arc (λ done. arcs_at (n - (turn + 1)) done (behind_word (c ∷ cs))) arcs (number_of (word (c ∷ cs))))
arcs_turn n turn arcs c cs h = rw (one_more n turn h) refl

pub arcs_space : (n turn : ℕ) (arcs text : List ℕ) → turn < n → 0 < length text → (get_or text 0 0 == 32) ≡ true
    → arcs_at (n - turn) arcs text ≡ arcs_at (n - (turn + 1)) arcs (drop 1 text)
arcs_space n turn arcs [] h some e = absurd (omega arith)
arcs_space n turn arcs (c ∷ cs) h some e = rw (arcs_turn n turn arcs c cs h, e) refl

pub arcs_end : (n turn : ℕ) (arcs text : List ℕ) → turn < n → 0 < length text → (get_or text 0 0 == 32) ≡ false → (get_or text 0 0 == 125) ≡ true
    → arcs_at (n - turn) arcs text ≡ oid_before arcs (drop 1 text)
arcs_end n turn arcs [] h some e f = absurd (omega arith)
arcs_end n turn arcs (c ∷ cs) h some e f = rw (arcs_turn n turn arcs c cs h, e, f) refl

pub arcs_more : (n turn : ℕ) (arcs text : List ℕ) → turn < n → 0 < length text → (get_or text 0 0 == 32) ≡ false → (get_or text 0 0 == 125) ≡ false
    → arcs_at (n - turn) arcs text ≡ then_arc (λ done. arcs_at (n - (turn + 1)) done (behind_word text)) arcs (number_of (word text))
arcs_more n turn arcs [] h some e f = absurd (omega arith)
arcs_more n turn arcs (c ∷ cs) h some e f = rw (arcs_turn n turn arcs c cs h, e, f) refl

pub arcs_not : (n turn : ℕ) (arcs text : List ℕ) → turn < n → 0 < length text → (get_or text 0 0 == 32) ≡ false → (get_or text 0 0 == 125) ≡ false
    → number_of (word text) ≡ None → arcs_at (n - turn) arcs text ≡ None
arcs_not n turn arcs text h some e f none = rw (arcs_more n turn arcs text h some e f, none) refl

none_there : (n : ℕ) (arcs : List ℕ) → arcs_at n arcs [] ≡ None
none_there zero arcs = refl
none_there (suc n) arcs = refl

pub arcs_none : (n turn : ℕ) (arcs text : List ℕ) → length text ≡ 0 → arcs_at (n - turn) arcs text ≡ None
arcs_none n turn arcs [] h = none_there (n - turn) arcs
arcs_none n turn arcs (c ∷ cs) h = absurd (omega arith)

pub arcs_over : (n turn : ℕ) (arcs text : List ℕ) → n ≤ turn → arcs_at (n - turn) arcs text ≡ None
arcs_over n turn arcs text h = rw (none_left n turn h) refl

pub goes_on : (inner : ℕ → Reader) (ordered : Bool) (ps : List Part) (n turn : ℕ) (slots : Slots) (least : ℕ) (here : List ℕ) (place : ℕ) (part : Part) (v : Value) (rest next : List ℕ) → turn < n
    → place_of ps (word here) ≡ Some place → may_stand ordered least slots place ≡ true → slice_get ps place ≡ Some part
    → part_at inner (Some part) (behind_word here) ≡ Some (record { value = v; rest = rest }) → after_comma rest ≡ Some next
    → parts_at inner ordered ps (n - turn) slots least here ≡ parts_at inner ordered ps (n - (turn + 1)) (slice_set slots place (Some v)) (place + 1) next
goes_on inner ordered ps n turn slots least here place part v rest next h e1 e2 e3 e4 e5 =
    rw (parts_turn inner ordered ps n turn slots least here h, e1, e2, e3, e4, e5) refl
