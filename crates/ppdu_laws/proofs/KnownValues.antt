-- What is spelled in known fields alone is a value of the table's row.
use Rattle.std.proofs.Common.{◌≡◌, ℕ, ◌+◌, ◌<◌, Bool, true, false, List, [], ◌∷◌, Option, Some, None, inl, inr, refl, sym, ap, subst, arith}
use Rattle.std.specs.Prelude.{codes}
use Rattle.osi_base.specs.declared.presentation_word.PresentationWord as units
use Rattle.osi_base.specs.declared.presentation_word.PresentationWord.TheVariants as unit
use Rattle.asn1_types.specs.declared.row.Class.{Class}
use Rattle.asn1_types.specs.declared.row.Class.TheVariants.{Context}
use Rattle.asn1_types.specs.declared.row.Part.{Part}
use Rattle.asn1_types.specs.Tags.{front_rank}
use Rattle.asn1_types.specs.Value.{Value}
use Rattle.asn1_types.specs.FixedRows.{part}
use Rattle.ber_spelling.specs.Order.{Filled}
use Rattle.ber_spelling.specs.Rules.{plain, list_done, set_done}
use Rattle.ber_spelling.specs.Spelling.{IsConstructed, SequenceIs, Steps, ListStep, ListIs, SetStep, SetIs, SpelledBy}
use Rattle.passed_fields.specs.declared.field.Field as known
use Rattle.passed_fields.specs.Known.{of_row}
use Rattle.passed_fields.specs.Reading.{some_done}
use Rattle.passed_fields.specs.Spelling.{SomeItems, FieldsAre}
use Rattle.passed_fields.proofs.MoreTurns.{constructed_more, steps_more, turns_fewer}
use Rattle.passed_fields.proofs.FieldParts.{IsHeld, AreHeld, row_held, fields_sequence}
use Rattle.presentation_pdus.specs.Rows.{ppdu_rows}
use Rattle.presentation_pdus.specs.Fields.{context_tag, sequence_tag, set_tag, user_tag, user_field, accept_fields, reject_fields, user_abort_fields, provider_abort_fields}
use Rattle.presentation_pdus.specs.Selected.{Relation, Halves, HalfStep, HalvesAre, SelectedIs, halves_done, no_half}
use Rattle.presentation_pdus.specs.Units.{ModeIs, Fielded}
use Rattle.presentation_pdus.specs.Words.{row_of}
use Rattle.presentation_pdus.proofs.Added.{ppdu_sound}
use Rattle.ppdu_laws.specs.Known.{known_connect_fields, known_alter_fields, known_alter_ack_fields, known_restart_fields, KnownIs}
use Rattle.ppdu_laws.specs.Laws.{KnownPpduIsValue}
use Rattle.ppdu_laws.proofs.UnitsBack.{connect_parts, accept_parts, reject_parts, alter_parts, alter_ack_parts, restart_parts, user_abort_parts, provider_abort_parts}

-- ---- user data

list_is : (last : List Value) (v : Value) → some_done last ≡ Some v → list_done last ≡ Some v
list_is [] v e = absurd cc
list_is (x ∷ xs) v e = e

user_is : (strict : Bool) (levels : ℕ) (v : Value) (s : List ℕ) → IsConstructed user_tag strict levels (λ l c. SomeItems ppdu_rows 14 strict l v c) s → SpelledBy ppdu_rows 64 16 plain strict levels v s
user_is strict levels v s p =
    constructed_more user_tag strict levels (λ l c. SomeItems ppdu_rows 14 strict l v c) (λ l c. ListIs (SpelledBy ppdu_rows 62 14) strict v l c)
    (λ l c q. (q.0, list_is q.0 v q.1, q.2, steps_more (λ a b t. ListStep (SpelledBy ppdu_rows 64 14) a strict l b t) (λ a b t. ListStep (SpelledBy ppdu_rows 62 14) a strict l b t) (λ a b t w. (w.0, w.1, turns_fewer ppdu_rows ppdu_sound 2 62 14 (omega arith) plain strict l w.0 t w.2)) q.2 [] q.0 c q.3)) s p

-- ---- fields as parts, with so many turns

module _ (turns more : ℕ) (all : turns + more ≡ 64) (enough : 61 < turns) where
  held : (name : List ℕ) (class : Class) (number row : ℕ) (may : Bool) → row < turns → IsHeld ppdu_rows ppdu_sound turns (of_row class number row may) (part name row may)
  held name class number row may l = row_held ppdu_rows ppdu_sound turns more all (of_row class number row may) name row refl l

  user_held : IsHeld ppdu_rows ppdu_sound turns user_field (part (codes "user") 16 true)
  user_held = (
    λ o. refl,
    λ strict levels v s h. (refl, turns_fewer ppdu_rows ppdu_sound more turns 16 (omega arith) plain strict levels v s (subst (λ (k : ℕ). SpelledBy ppdu_rows k 16 plain strict levels v s) (sym all) (user_is strict levels v s h))),
  )

  connect_held : AreHeld ppdu_rows ppdu_sound turns known_connect_fields connect_parts
  connect_held = (held (codes "version") Context 0 32 true (omega arith), (held (codes "calling") Context 1 33 true (omega arith), (held (codes "called") Context 2 34 true (omega arith), (held (codes "definitions") Context 4 36 true (omega arith), (held (codes "requirements") Context 8 39 true (omega arith), (held (codes "session") Context 9 40 true (omega arith), (user_held, tt)))))))

  accept_held : AreHeld ppdu_rows ppdu_sound turns accept_fields accept_parts
  accept_held = (held (codes "version") Context 0 32 true (omega arith), (held (codes "responding") Context 3 35 true (omega arith), (held (codes "results") Context 5 37 true (omega arith), (held (codes "requirements") Context 8 39 true (omega arith), (held (codes "session") Context 9 40 true (omega arith), (user_held, tt))))))

  reject_held : AreHeld ppdu_rows ppdu_sound turns reject_fields reject_parts
  reject_held = (held (codes "version") Context 0 32 true (omega arith), (held (codes "responding") Context 3 35 true (omega arith), (held (codes "results") Context 5 37 true (omega arith), (held (codes "default") Context 7 38 true (omega arith), (held (codes "reason") Context 10 41 true (omega arith), (user_held, tt))))))

  alter_held : AreHeld ppdu_rows ppdu_sound turns known_alter_fields alter_parts
  alter_held = (held (codes "additions") Context 0 49 true (omega arith), (held (codes "deletions") Context 1 50 true (omega arith), tt))

  alter_ack_held : AreHeld ppdu_rows ppdu_sound turns known_alter_ack_fields alter_ack_parts
  alter_ack_held = (held (codes "additions") Context 0 53 true (omega arith), (held (codes "deletions") Context 1 54 true (omega arith), tt))

  restart_held : AreHeld ppdu_rows ppdu_sound turns known_restart_fields restart_parts
  restart_held = (held (codes "contexts") Context 0 57 true (omega arith), tt)

  user_abort_held : AreHeld ppdu_rows ppdu_sound turns user_abort_fields user_abort_parts
  user_abort_held = (held (codes "contexts") Context 0 57 true (omega arith), (user_held, tt))

provider_abort_held : AreHeld ppdu_rows ppdu_sound 63 provider_abort_fields provider_abort_parts
provider_abort_held = (held 63 1 refl (omega arith) (codes "reason") Context 0 61 false (omega arith), (held 63 1 refl (omega arith) (codes "event") Context 1 62 true (omega arith), tt))

-- fields under a context tag, and of a SEQUENCE
of_context : (n : ℕ) (fs : List known.Field) (ps : List Part) → AreHeld ppdu_rows ppdu_sound 62 fs ps → (levels : ℕ) (v : Value) (s : List ℕ) → Fielded fs [] (context_tag n) false levels v s
    → IsConstructed (context_tag n) false levels (λ l c. SequenceIs (SpelledBy ppdu_rows 62) false ps v l c) s
of_context n fs ps are levels v s p =
    constructed_more (context_tag n) false levels (λ l c. FieldsAre ppdu_rows fs [] false l v c) (λ l c. SequenceIs (SpelledBy ppdu_rows 62) false ps v l c) (λ l c q. fields_sequence ppdu_rows ppdu_sound 62 2 refl false fs ps are v l c q) s p

of_sequence : (fs : List known.Field) (ps : List Part) → AreHeld ppdu_rows ppdu_sound 63 fs ps → (levels : ℕ) (v : Value) (s : List ℕ) → Fielded fs [] sequence_tag false levels v s
    → IsConstructed sequence_tag false levels (λ l c. SequenceIs (SpelledBy ppdu_rows 63) false ps v l c) s
of_sequence fs ps are levels v s p =
    constructed_more sequence_tag false levels (λ l c. FieldsAre ppdu_rows fs [] false l v c) (λ l c. SequenceIs (SpelledBy ppdu_rows 63) false ps v l c) (λ l c q. fields_sequence ppdu_rows ppdu_sound 63 1 refl false fs ps are v l c q) s p

-- ---- the mode selector and the fields as parts of a SET

module _ (r : ℕ) (small : r < 63) (F : Relation) (as_row : (levels : ℕ) (v : Value) (s : List ℕ) → F false levels v s → SpelledBy ppdu_rows 64 r plain false levels v s) where
  abbrev set_parts : List Part
  set_parts = part (codes "mode") 31 false ∷ part (codes "fields") r false ∷ []

  abbrev filled : Halves → ℕ → Filled
  filled h n = record { found = h.0 ∷ h.1 ∷ []; least = n }

  abbrev Half : ℕ → Halves → Halves → List ℕ → Type 0
  Half levels a b s = HalfStep ModeIs F a false levels b s

  abbrev Slot : ℕ → Filled → Filled → List ℕ → Type 0
  Slot levels a b s = SetStep (SpelledBy ppdu_rows 63) set_parts a false levels b s

  slot : (levels : ℕ) (a b : Halves) (least : ℕ) (s : List ℕ) → Half levels a b s → Slot levels (filled a least) (filled b (front_rank s + 1)) s
  slot levels a b least s (inl q) = (
    0,
    part (codes "mode") 31 false,
    q.0,
    refl,
    ap Some q.1,
    turns_fewer ppdu_rows ppdu_sound 1 63 31 (omega arith) plain false levels q.0 s q.3,
    λ wrong. absurd (let no : false ≡ true = wrong in cc),
    ap (λ (x : Halves). filled x (front_rank s + 1)) q.2,
  )
  slot levels a b least s (inr q) = (
    1,
    part (codes "fields") r false,
    q.0,
    refl,
    ap Some q.1,
    turns_fewer ppdu_rows ppdu_sound 1 63 r small plain false levels q.0 s (as_row levels q.0 s q.3),
    λ wrong. absurd (let no : false ≡ true = wrong in cc),
    ap (λ (x : Halves). filled x (front_rank s + 1)) q.2,
  )

  slots : (levels : ℕ) (steps : List (List ℕ × Halves)) (a b : Halves) (least : ℕ) (c : List ℕ) → Steps (Half levels) steps a b c → (most : ℕ) × (more : List (List ℕ × Filled)) × Steps (Slot levels) more (filled a least) (filled b most) c
  slots levels [] a b least c p = (least, [], (ap (λ (x : Halves). filled x least) p.0, p.1))
  slots levels (s ∷ steps) a b least c p =
      let k = slots levels steps s.1 b (front_rank s.0 + 1) p.0 p.3 in
      (k.0, (s.0, filled s.1 (front_rank s.0 + 1)) ∷ k.1, (p.0, p.1, slot levels a s.1 least s.0 p.2, k.2))

  both_filled : (x : Halves) (least : ℕ) (v : Value) → halves_done x ≡ Some v → set_done set_parts (filled x least) ≡ Some v
  both_filled x least v e = by_halves x.0 x.1 e
    where
      by_halves : (a b : Option Value) → halves_done (a, b) ≡ Some v → set_done set_parts (filled (a, b) least) ≡ Some v
      by_halves None b d = absurd cc
      by_halves (Some m) None d = absurd cc
      by_halves (Some m) (Some w) d = d

  as_set : (v : Value) (levels : ℕ) (s : List ℕ) → SelectedIs ModeIs F false levels v s → IsConstructed set_tag false levels (λ l c. SetIs (SpelledBy ppdu_rows 63) set_parts false v l c) s
  as_set v levels s p =
      constructed_more set_tag false levels (λ l c. HalvesAre ModeIs F false l v c) (λ l c. SetIs (SpelledBy ppdu_rows 63) set_parts false v l c)
      (λ l c q. let k = slots l q.2 no_half q.0 0 c q.3 in (filled q.0 k.0, both_filled q.0 k.0 v q.1, k.1, k.2)) s p

-- ---- each unit

by_row : (word : units.PresentationWord) (v : Value) (s : List ℕ) → KnownIs word false 32 v s → SpelledBy ppdu_rows 64 (row_of word) plain false 32 v s
by_row (unit.Connect c) v s p = as_set 43 (omega arith) (Fielded known_connect_fields [] (context_tag 2)) (of_context 2 known_connect_fields connect_parts (connect_held 62 2 refl (omega arith))) v 32 s p
by_row (unit.Accept a) v s p = as_set 46 (omega arith) (Fielded accept_fields [] (context_tag 2)) (of_context 2 accept_fields accept_parts (accept_held 62 2 refl (omega arith))) v 32 s p
by_row (unit.Reject r) v s p = of_sequence reject_fields reject_parts (reject_held 63 1 refl (omega arith)) 32 v s p
by_row (unit.Alter add delete) v s p = of_context 0 known_alter_fields alter_parts (alter_held 62 2 refl (omega arith)) 32 v s p
by_row (unit.AlterAck answers) v s p = of_context 1 known_alter_ack_fields alter_ack_parts (alter_ack_held 62 2 refl (omega arith)) 32 v s p
by_row (unit.Resynchronize restored) v s p = of_sequence known_restart_fields restart_parts (restart_held 63 1 refl (omega arith)) 32 v s p
by_row (unit.ResynchronizeAck restored) v s p = of_sequence known_restart_fields restart_parts (restart_held 63 1 refl (omega arith)) 32 v s p
by_row (unit.UserAbort contexts user) v s p = of_context 0 user_abort_fields user_abort_parts (user_abort_held 62 2 refl (omega arith)) 32 v s p
by_row (unit.ProviderAbort reason event) v s p = of_sequence provider_abort_fields provider_abort_parts provider_abort_held 32 v s p
by_row (unit.Data user) v s p = user_is false 32 v s p

pub known_ppdu_is_value : KnownPpduIsValue
known_ppdu_is_value carrier word octets k = (k.value, k.says, record { by = by_row word k.value octets k.spelled; within = k.within })
