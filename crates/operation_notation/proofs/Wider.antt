-- The notation and a grammar that goes further are read alike, up to where reading the notation stops for what the other goes on with.
use Rattle.std.proofs.Common.{codes, ◌≡◌, ℕ, zero, suc, Bool, true, false, List, [], ◌∷◌, ◌++◌, length, Some, None, Ok, Err, refl, sym, ap, ◌∙◌, inl, inr}
use Rattle.std.proofs.lemmas.Bool.{or_parts}
use Rattle.std.specs.Prelude.{◌⊎◌, ◌||◌, is_some, if◌then◌else◌}
use Rattle.std.specs.List.{list_any}
use Rattle.notation_tokens.specs.Lexeme.{Lexeme, same, begins, goes_on}
use Rattle.notation_tokens.specs.Words.{is_type_name, type_name_of, text_kind_word}
use Rattle.operation_notation.specs.Reading.{◌>>=◌, after, give, here, Failure, Read, refuse, kind_at, token_at, word_at, type_name_at, value_name_at, maybe_at, many_at, all_at, listed_at}
use Rattle.operation_notation.specs.ReadingTypes.{starts_name, tag_at, part_at, parts_at, alternatives_at, text_kind, text_kind_at, named_at, text_or_name_at, leaf_at, sequence_at, set_at, choice_at, plain_at, type_text_at, type_words, starts_type, deep_kind, starts_mark, type_at, outer_type_at}
use Rattle.operation_notation.specs.ReadingModules.{use_at, maybe_use_at, signature_at, operation_at, error_at, typed_at, operation_body_at, error_body_at, body_at, valued_at, assignment_at, assignments_at, class_kind, imported_at, listed_imports_at, imports_at, maybe_imports_at, heading_at, module_at, whole_at}
use Rattle.operation_notation.specs.GrammarTypes.{Extent, narrow, marked, wide, is_empty, mark_of}
use Rattle.operation_notation.specs.GrammarModules.{name_of}
use Rattle.operation_notation.specs.Tree.{TypeTree, type_tree, text}
use Rattle.operation_notation.specs.declared.module.Assigned.TheVariants as bodies
use Rattle.notation_tokens.specs.declared.token.Located.{Located}
use Rattle.notation_tokens.specs.declared.token.Place.{Place}
use Rattle.notation_tokens.specs.declared.faults.NotationKind.{NotationKind}
use Rattle.notation_tokens.specs.declared.faults.NotationKind.TheVariants.{Unsupported, UnexpectedToken}
use Rattle.operation_notation.specs.declared.module.ModuleText.{ModuleText}
use Rattle.operation_notation.proofs.Means.{done}
use Rattle.operation_notation.proofs.Starts.{type_named, value_named}
use Rattle.operation_notation.proofs.Local.{fault, failed, fault_is}

-- reading stopped at a fault of this sort
pub record Stopped {A : Type 0} (E : Failure → Type 0) (x : Read A) : Type 0 where
  pub at : Failure
  pub is : x ≡ Err at
  pub sort : E at

-- two readings do the same, unless the first stops at a fault of this sort
abbrev pub Agree : {A : Type 0} → (Failure → Type 0) → (List Lexeme → Read A) → (List Lexeme → Read A) → Type 0
Agree E f g = (ts : List Lexeme) → (f ts ≡ g ts) ⊎ Stopped E (f ts)

-- ---- the means

same_way : {A : Type 0} {E : Failure → Type 0} (f : List Lexeme → Read A) → Agree E f f
same_way f ts = inl refl

module _ {A B : Type 0} {E : Failure → Type 0} (h k : A → List Lexeme → Read B) (ah : (a : A) → Agree E (h a) (k a)) where
  agree_behind : (x y : Read A) → x ≡ y → (after x h ≡ after y k) ⊎ Stopped E (after x h)
  agree_behind (Ok p) y e =
      elim (ah p.0 p.1) [
        | inl q ↦ inl (q ∙ ap (λ (z : Read A). after z k) e)
        | inr q ↦ inr q
      ]
  agree_behind (Err d) y e = inl (ap (λ (z : Read A). after z k) e)

  agree_stopped : (x : Read A) → Stopped E x → Stopped E (after x h)
  agree_stopped x q = record { at = q.at; is = ap (λ (z : Read A). after z h) q.is; sort = q.sort }

athen : {A B : Type 0} {E : Failure → Type 0} {f g : List Lexeme → Read A} {h k : A → List Lexeme → Read B} → Agree E f g → ((a : A) → Agree E (h a) (k a)) → Agree E (f >>= h) (g >>= k)
athen {f = f} {g = g} {h = h} {k = k} af ah ts =
    elim (af ts) [
      | inl e ↦ agree_behind h k ah (f ts) (g ts) e
      | inr q ↦ inr (agree_stopped h k ah (f ts) q)
    ]

-- behind what both read the same way
anext : {A B : Type 0} {E : Failure → Type 0} (f : List Lexeme → Read A) {h k : A → List Lexeme → Read B} → ((a : A) → Agree E (h a) (k a)) → Agree E (f >>= h) (f >>= k)
anext f ah = athen (same_way f) ah

apick : {A : Type 0} {E : Failure → Type 0} {f g h k : List Lexeme → Read A} (test : List Lexeme → Bool) → Agree E f h → Agree E g k → Agree E (λ ts. if test ts then f ts else g ts) (λ ts. if test ts then h ts else k ts)
apick {E = E} {f = f} {g = g} {h = h} {k = k} test left right ts = go (test ts)
  where
    go : (b : Bool) → ((if b then f ts else g ts) ≡ (if b then h ts else k ts)) ⊎ Stopped E (if b then f ts else g ts)
    go true = left ts
    go false = right ts

amaybe : {A : Type 0} {E : Failure → Type 0} {f g : List Lexeme → Read A} (w : List ℕ) → Agree E f g → Agree E (maybe_at w f) (maybe_at w g)
amaybe w af = apick (begins w) (athen af (λ a. same_way (give (Some a)))) (same_way (λ ts. Ok (None, ts)))

amany : {A : Type 0} {E : Failure → Type 0} {f g : List Lexeme → Read A} (test : List Lexeme → Bool) → Agree E f g → (n : ℕ) → Agree E (many_at test f n) (many_at test g n)
unfolding many_at
amany test af zero = same_way (λ ts. Ok ([], ts))
amany test af (suc n) = apick test (athen af (λ a. athen (amany test af n) (λ more. same_way (give (a ∷ more))))) (same_way (λ ts. Ok ([], ts)))

aall : {A : Type 0} {E : Failure → Type 0} {f g : List Lexeme → Read A} (test : List Lexeme → Bool) → Agree E f g → Agree E (all_at test f) (all_at test g)
aall test af ts = amany test af (length ts) ts

alisted : {A : Type 0} {E : Failure → Type 0} {f g : List Lexeme → Read A} (w : List ℕ) → Agree E f g → Agree E (listed_at w f) (listed_at w g)
alisted w af = athen af (λ first. athen (aall (begins w) (anext (word_at w) (λ _. af))) (λ others. same_way (give (first ∷ others))))

-- ---- types

module _ (E : Failure → Type 0) (ext : Extent) (a_named : (name : Located) → Agree E (named_at narrow name) (named_at ext name)) (f g : List Lexeme → Read TypeTree) (af : Agree E f g) where
  a_text_or_name : Agree E (text_or_name_at narrow) (text_or_name_at ext)
  unfolding text_or_name_at
  a_text_or_name = apick (λ ts. is_some (text_kind ts)) (same_way (text_kind_at >>= λ kind. give (text kind))) (anext type_name_at a_named)

  a_leaf : Agree E (leaf_at narrow) (leaf_at ext)
  unfolding leaf_at
  a_leaf = apick (begins (codes "BOOLEAN")) (same_way _) (apick (begins (codes "NULL")) (same_way _) (apick (begins (codes "INTEGER")) (same_way _) (apick (begins (codes "ENUMERATED")) (same_way _)
      (apick (begins (codes "OCTET")) (same_way _) (apick (begins (codes "BIT")) (same_way _) (apick (begins (codes "OBJECT")) (same_way _) a_text_or_name))))))

  a_part : (may : Bool) → Agree E (part_at may f) (part_at may g)
  unfolding part_at
  a_part may = anext _ (λ name. athen af (λ of. same_way _))

  a_parts : Agree E (parts_at f) (parts_at g)
  unfolding parts_at
  a_parts = anext _ (λ _. athen (apick (begins (codes "}")) (same_way _) (alisted (codes ",") (a_part true))) (λ parts. same_way _))

  a_alternatives : Agree E (alternatives_at f) (alternatives_at g)
  unfolding alternatives_at
  a_alternatives = anext _ (λ _. athen (alisted (codes ",") (a_part false)) (λ parts. same_way _))

  a_sequence : Agree E (sequence_at f) (sequence_at g)
  unfolding sequence_at
  a_sequence = anext _ (λ _. apick (begins (codes "OF")) (anext _ (λ _. athen af (λ item. same_way _))) (athen a_parts (λ parts. same_way _)))

  a_set : Agree E (set_at f) (set_at g)
  unfolding set_at
  a_set = anext _ (λ _. apick (begins (codes "OF")) (anext _ (λ _. athen af (λ item. same_way _))) (athen a_parts (λ parts. same_way _)))

  a_choice : Agree E (choice_at f) (choice_at g)
  unfolding choice_at
  a_choice = anext _ (λ _. athen a_alternatives (λ parts. same_way _))

  a_plain : Agree E (plain_at narrow f) (plain_at ext g)
  unfolding plain_at
  a_plain = apick (begins (codes "SEQUENCE")) a_sequence (apick (begins (codes "SET")) a_set (apick (begins (codes "CHOICE")) a_choice a_leaf))

  a_type_text : Agree E (type_text_at narrow f) (type_text_at ext g)
  unfolding type_text_at
  a_type_text = anext here (λ at. anext (maybe_at (codes "[") tag_at) (λ tag. athen a_plain (λ plain. same_way (give (type_tree at.line at.column tag plain)))))

-- ---- modules

module _ (E : Failure → Type 0) (ext : Extent) (a_outer : Agree E (outer_type_at narrow) (outer_type_at ext)) (a_imported : Agree E (imported_at narrow) (imported_at ext)) where
  a_use : (w : List ℕ) → Agree E (use_at narrow w) (use_at ext w)
  unfolding use_at
  a_use w = anext _ (λ at. athen a_outer (λ of. same_way _))

  a_maybe_use : (w : List ℕ) → Agree E (maybe_use_at narrow w) (maybe_use_at ext w)
  unfolding maybe_use_at
  a_maybe_use w = amaybe w (a_use w)

  a_signature : Agree E (signature_at narrow) (signature_at ext)
  unfolding signature_at
  a_signature = athen (a_maybe_use (codes "ARGUMENT")) (λ argument. athen (a_maybe_use (codes "RESULT")) (λ result. same_way _))

  a_operation : Agree E (operation_at narrow) (operation_at ext)
  unfolding operation_at
  a_operation = athen a_signature (λ signature. same_way _)

  a_error : Agree E (error_at narrow) (error_at ext)
  unfolding error_at
  a_error = athen (a_maybe_use (codes "PARAMETER")) (λ parameter. same_way _)

  a_typed : Agree E (typed_at narrow) (typed_at ext)
  unfolding typed_at
  a_typed = anext type_name_at (λ name. anext (word_at (codes "::=")) (λ _. athen a_outer (λ of. same_way (give (record { name = name; body = bodies.Typed of })))))

  a_operation_body : Agree E (operation_body_at narrow) (operation_body_at ext)
  unfolding operation_body_at
  a_operation_body = anext _ (λ _. athen a_operation (λ operation. same_way _))

  a_error_body : Agree E (error_body_at narrow) (error_body_at ext)
  unfolding error_body_at
  a_error_body = anext _ (λ _. athen a_error (λ error. same_way _))

  a_body : Agree E (body_at narrow) (body_at ext)
  unfolding body_at
  a_body = apick (begins (codes "OPERATION")) a_operation_body a_error_body

  a_valued : Agree E (valued_at narrow) (valued_at ext)
  unfolding valued_at
  a_valued = anext value_name_at (λ name. athen a_body (λ body. same_way _))

  a_assignment : Agree E (assignment_at narrow) (assignment_at ext)
  unfolding assignment_at
  a_assignment = apick starts_name a_valued a_typed

  a_assignments : Agree E (assignments_at narrow) (assignments_at ext)
  unfolding assignments_at
  a_assignments = aall (goes_on (codes "END")) a_assignment

  a_listed_imports : Agree E (listed_imports_at narrow) (listed_imports_at ext)
  unfolding listed_imports_at
  a_listed_imports = athen a_imported (λ first. athen (aall (begins (codes ",")) (anext _ (λ _. a_imported))) (λ others. same_way _))

  a_imports : Agree E (imports_at narrow) (imports_at ext)
  unfolding imports_at
  a_imports = anext _ (λ _. athen a_listed_imports (λ _. same_way _))

  a_maybe_imports : Agree E (maybe_imports_at narrow) (maybe_imports_at ext)
  unfolding maybe_imports_at
  a_maybe_imports = amaybe (codes "IMPORTS") a_imports

  a_module : Agree E (module_at narrow) (module_at ext)
  unfolding module_at
  a_module = anext heading_at (λ heading. anext (word_at (codes "BEGIN")) (λ _. athen a_maybe_imports (λ _. athen a_assignments (λ assignments. same_way _))))

  pub a_whole : Agree E (whole_at narrow) (whole_at ext)
  unfolding whole_at
  a_whole = athen a_module (λ m. same_way _)

-- ---- the wide grammar

abbrev AtUnsupported : Failure → Type 0
AtUnsupported d = d.kind ≡ Unsupported

wide_named : (name : Located) → Agree AtUnsupported (named_at narrow name) (named_at wide name)
wide_named name ts = go (begins (codes "{") ts) refl
  where
    go : (b : Bool) → begins (codes "{") ts ≡ b → (named_at narrow name ts ≡ named_at wide name ts) ⊎ Stopped AtUnsupported (named_at narrow name ts)
    go true e = inr (record { at = fault ts Unsupported; is = rw e refl; sort = refl })
    go false e = inl (rw e refl)

-- where no type begins, none is read
no_type : (f : List Lexeme → Read TypeTree) (ts : List Lexeme) → starts_type ts ≡ false → refuse ts ≡ type_text_at wide f ts
unfolding type_text_at plain_at leaf_at text_or_name_at text_kind_word type_name_at type_name_of
no_type f [] e = refl
no_type f (t ∷ ts) e =
    let s : List ℕ → Bool = same t.text in
    let named = or_parts (list_any s type_words) (is_type_name t.kind t.text) e in
    let p0 = or_parts (s (codes "[")) _ named.0 in
    let p1 = or_parts (s (codes "SEQUENCE")) _ p0.1 in
    let p2 = or_parts (s (codes "SET")) _ p1.1 in
    let p3 = or_parts (s (codes "CHOICE")) _ p2.1 in
    let p4 = or_parts (s (codes "BOOLEAN")) _ p3.1 in
    let p5 = or_parts (s (codes "NULL")) _ p4.1 in
    let p6 = or_parts (s (codes "INTEGER")) _ p5.1 in
    let p7 = or_parts (s (codes "ENUMERATED")) _ p6.1 in
    let p8 = or_parts (s (codes "OCTET")) _ p7.1 in
    let p9 = or_parts (s (codes "BIT")) _ p8.1 in
    let q0 = or_parts (s (codes "OBJECT")) _ p9.1 in
    let q1 = or_parts (s (codes "UTF8String")) _ q0.1 in
    let q2 = or_parts (s (codes "IA5String")) _ q1.1 in
    let q3 = or_parts (s (codes "VisibleString")) _ q2.1 in
    let q4 = or_parts (s (codes "PrintableString")) _ q3.1 in
    let q5 = or_parts (s (codes "NumericString")) _ q4.1 in
    rw (p0.0, p1.0, p2.0, p3.0, p4.0, p5.0, p6.0, p7.0, p8.0, p9.0, q0.0, q1.0, q2.0, q3.0, q4.0, q5.0, named.1) refl

wide_deep : Agree AtUnsupported (type_at narrow 0) (type_at wide 2)
unfolding type_at deep_kind
wide_deep ts = go (starts_type ts) refl
  where
    go : (b : Bool) → starts_type ts ≡ b → (failed (fault ts (if starts_type ts then Unsupported else kind_at ts)) ≡ type_text_at wide (type_at wide 1) ts) ⊎ Stopped AtUnsupported (failed {A = TypeTree} (fault ts (if starts_type ts then Unsupported else kind_at ts)))
    go true e = inr (record { at = fault ts Unsupported; is = rw e refl; sort = refl })
    go false e = inl (ap (λ (b : Bool). failed (fault ts (if b then Unsupported else kind_at ts))) e ∙ no_type (type_at wide 1) ts e)

abbrev two_more : ℕ → ℕ
two_more zero = 2
two_more (suc n) = suc (two_more n)

wide_type : (levels : ℕ) → Agree AtUnsupported (type_at narrow levels) (type_at wide (two_more levels))
unfolding type_at
wide_type zero = wide_deep
wide_type (suc n) = a_type_text AtUnsupported wide wide_named (type_at narrow n) (type_at wide (two_more n)) (wide_type n)

wide_outer : Agree AtUnsupported (outer_type_at narrow) (outer_type_at wide)
unfolding outer_type_at
wide_outer = wide_type 256

wide_other : Agree AtUnsupported (λ ts. failed {A = Place} (fault ts (class_kind ts))) (λ ts. if true then token_at name_of ts else refuse ts)
unfolding class_kind kind_at
wide_other [] = inl refl
wide_other (t ∷ ts) = go (type_named t || value_named t) refl
  where
    go : (b : Bool) → type_named t || value_named t ≡ b → (failed {A = Place} (fault (t ∷ ts) (class_kind (t ∷ ts))) ≡ token_at name_of (t ∷ ts)) ⊎ Stopped AtUnsupported (failed {A = Place} (fault (t ∷ ts) (class_kind (t ∷ ts))))
    go true e = inr (record { at = fault (t ∷ ts) Unsupported; is = rw e refl; sort = refl })
    go false e = inl (rw e refl)

wide_imported : Agree AtUnsupported (imported_at narrow) (imported_at wide)
unfolding imported_at
wide_imported = apick (begins (codes "OPERATION")) (same_way _) (apick (begins (codes "ERROR")) (same_way _) wide_other)

-- at a token that is unexpected in the notation reading stops in the wide grammar too
pub wide_stops : (x : List Lexeme) (t : Lexeme) (u : List Lexeme) → whole_at narrow (x ++ t ∷ u) ≡ Err (fault (t ∷ u) UnexpectedToken) → whole_at wide (x ++ t ∷ u) ≡ Err (fault (t ∷ u) UnexpectedToken)
wide_stops x t u e =
    elim (a_whole AtUnsupported wide wide_outer wide_imported (x ++ t ∷ u)) [
      | inl q ↦ sym q ∙ e
      | inr q ↦ let clash : UnexpectedToken ≡ Unsupported = ap (λ (d : Failure). d.kind) (fault_is (fault (t ∷ u) UnexpectedToken) q.at (sym e ∙ q.is)) ∙ q.sort in absurd cc
    ]

-- ---- marks

ok_not_err : (p : ModuleText × List Lexeme) (d : Failure) → done p ≡ failed d → ⊥
ok_not_err p d e = absurd cc

abbrev AtMark : Failure → Type 0
AtMark d = starts_mark d.rest ≡ true

mark_named : (name : Located) → Agree AtMark (named_at narrow name) (named_at marked name)
mark_named name = same_way (named_at narrow name)

mark_deep : Agree AtMark (type_at narrow 0) (type_at marked 0)
unfolding type_at
mark_deep ts = go (starts_mark ts) refl
  where
    go : (b : Bool) → starts_mark ts ≡ b → (failed (fault ts (deep_kind ts)) ≡ (if starts_mark ts then token_at mark_of ts else failed (fault ts (deep_kind ts)))) ⊎ Stopped AtMark (failed {A = TypeTree} (fault ts (deep_kind ts)))
    go true e = inr (record { at = fault ts (deep_kind ts); is = refl; sort = e })
    go false e = inl (rw e refl)

mark_type : (levels : ℕ) → Agree AtMark (type_at narrow levels) (type_at marked levels)
unfolding type_at
mark_type zero = mark_deep
mark_type (suc n) = a_type_text AtMark marked mark_named (type_at narrow n) (type_at marked n) (mark_type n)

mark_outer : Agree AtMark (outer_type_at narrow) (outer_type_at marked)
unfolding outer_type_at
mark_outer = mark_type 256

mark_imported : Agree AtMark (imported_at narrow) (imported_at marked)
unfolding imported_at
mark_imported = same_way (imported_at narrow)

-- what is read without marks is read so with them
pub mark_reads : (ts : List Lexeme) (m : ModuleText) (rest : List Lexeme) → whole_at narrow ts ≡ Ok (m, rest) → whole_at marked ts ≡ Ok (m, rest)
mark_reads ts m rest e =
    elim (a_whole AtMark marked mark_outer mark_imported ts) [
      | inl q ↦ sym q ∙ e
      | inr q ↦ let clash : whole_at narrow ts ≡ Err q.at = q.is in absurd (ok_not_err (m, rest) q.at (sym e ∙ clash))
    ]

-- and at a token that is no mark reading stops with them too
pub mark_stops : (ts : List Lexeme) (t : Lexeme) (u : List Lexeme) (k : NotationKind) → is_empty t.text ≡ false → whole_at narrow ts ≡ Err (fault (t ∷ u) k) → whole_at marked ts ≡ Err (fault (t ∷ u) k)
mark_stops ts t u k plain e =
    elim (a_whole AtMark marked mark_outer mark_imported ts) [
      | inl q ↦ sym q ∙ e
      | inr q ↦
          let same_fault = fault_is (fault (t ∷ u) k) q.at (sym e ∙ q.is) in
          let clash : false ≡ true = sym plain ∙ ap (λ (d : Failure). starts_mark d.rest) same_fault ∙ q.sort in
          absurd cc
    ]
