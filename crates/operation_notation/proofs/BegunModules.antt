-- Where reading stops, what it passed begins a module: the rules that depend on how far the grammar goes.
use Rattle.std.proofs.Common.{codes, ◌≡◌, ℕ, Bool, true, false, List, [], ◌∷◌, refl, subst, inl, inr}
use Rattle.std.specs.Prelude.{◌||◌, if◌then◌else◌}
use Rattle.notation_tokens.specs.Forms.{has_form}
use Rattle.notation_tokens.specs.Lexeme.{Lexeme, begins, goes_on}
use Rattle.notation_tokens.specs.Words.{place}
use Rattle.operation_notation.specs.Reading.{kind_at, word_at}
use Rattle.operation_notation.specs.ReadingTypes.{starts_name, outer_type_at}
use Rattle.operation_notation.specs.ReadingModules.{use_at, maybe_use_at, signature_at, operation_at, error_at, typed_at, operation_body_at, error_body_at, body_at, valued_at, assignment_at, assignments_at, class_kind, imported_at, listed_imports_at, imports_at, maybe_imports_at, module_at, whole_at}
use Rattle.operation_notation.specs.Grammar.{One, Then, Nothing, Either, Where, Maybe, Many}
use Rattle.operation_notation.specs.GrammarTypes.{Extent, narrow, OuterType}
use Rattle.operation_notation.specs.GrammarModules.{Use, SignatureSpelled, Operation, Error, Typed, OperationBody, ErrorBody, Valued, Assign, name_of, Imported, Imports, Module}
use Rattle.notation_tokens.specs.declared.token.TokenKind.TheVariants.{Word, Sign}
use Rattle.notation_tokens.specs.declared.faults.NotationKind.TheVariants.{Unsupported}
use Rattle.operation_notation.specs.declared.module.ModuleText.{ModuleText}
use Rattle.operation_notation.proofs.Starts.{type_named, value_named}
use Rattle.operation_notation.proofs.ModuleLaws.{FirstImported, fore_to}
use Rattle.operation_notation.proofs.Begun.{Goes, KindOf, Begun, begun_refuse, begun_give, bthen, bbehind, bwiden, alone, bsame, bpick, bmaybe, ball}
use Rattle.operation_notation.proofs.BegunRules.{word, sign, b_type_name, b_value_name, b_flag, b_flag_or, b_named_list, b_passed_priority, b_manner, b_maybe_code, b_opens, b_maybe_oid, b_heading, b_ended}

-- another name behind IMPORTS or a comma
other_goes : (wide : Bool) (t : Lexeme) (u : List Lexeme) → type_named t || value_named t ≡ true → wide ≡ true → Goes (Where wide (One name_of)) [] t
other_goes true t u e st = record {
  back = [];
  value = place t;
  filler = tt;
  spelled = record { token = t; alone = refl; passes = rw e refl };
}
other_goes false t u e st = absurd cc

module _ (ext : Extent) where
  class_goes : (t : Lexeme) (u : List Lexeme) → type_named t || value_named t ≡ true → ext.wide ≡ true → Goes (Imported ext) [] t
  class_goes t u e st = let g = other_goes ext.wide t u e st in record { back = g.back; value = g.value; filler = g.filler; spelled = inr (inr g.spelled) }

  word_kind : (b : Bool) (t : Lexeme) (u : List Lexeme) → type_named t || value_named t ≡ b → KindOf ext.wide (Imported ext) [] (t ∷ u) (if b then Unsupported else kind_at (t ∷ u))
  word_kind true t u e = inr (refl, λ st. class_goes t u e st)
  word_kind false t u e = inl refl

  class_is : (ts : List Lexeme) → KindOf ext.wide (Imported ext) [] ts (class_kind ts)
  unfolding class_kind
  class_is [] = refl
  class_is (t ∷ ts) = word_kind (type_named t || value_named t) t ts refl

  b_error_class : Begun ext.wide (Imported ext) (word_at (codes "ERROR"))
  b_error_class = bwiden (word (codes "ERROR") refl) (λ ts a d. inr (inl d))

  b_imported : Begun ext.wide (Imported ext) (imported_at narrow)
  unfolding imported_at
  b_imported = bsame (begins (codes "OPERATION")) (bwiden (word (codes "OPERATION") refl) (λ ts a d. inl d)) (bsame (begins (codes "ERROR")) b_error_class (begun_refuse class_kind b_error_class.filled class_is))

module _ (ext : Extent) (outer : Begun ext.wide (OuterType ext) (outer_type_at narrow)) where
  b_use : (w : List ℕ) → has_form Word w ≡ true → Begun ext.wide (Use ext w) (use_at narrow w)
  unfolding use_at
  b_use w form = bthen (word w form) (λ at. bthen outer (λ of. bthen (bmaybe (begins (codes "OPTIONAL")) (b_flag (codes "OPTIONAL") refl)) (λ optional. begun_give _)))

  b_maybe_use : (w : List ℕ) → has_form Word w ≡ true → Begun ext.wide (Maybe (Use ext w)) (maybe_use_at narrow w)
  unfolding maybe_use_at
  b_maybe_use w form = bmaybe (begins w) (b_use w form)

  b_signature : Begun ext.wide (SignatureSpelled ext) (signature_at narrow)
  unfolding signature_at
  b_signature = bthen (b_maybe_use (codes "ARGUMENT") refl) (λ argument. bthen (b_maybe_use (codes "RESULT") refl) (λ result. bthen (b_flag_or (codes "RETURN") (codes "RESULT") refl refl) (λ returns. begun_give _)))

  b_operation : Begun ext.wide (Operation ext) (operation_at narrow)
  unfolding operation_at
  b_operation = bthen b_signature (λ signature. bthen (b_named_list (codes "ERRORS") refl) (λ errors. bthen (b_named_list (codes "LINKED") refl) (λ linked. bthen b_manner (λ always. bthen b_maybe_code (λ code. begun_give _)))))

  b_error : Begun ext.wide (Error ext) (error_at narrow)
  unfolding error_at
  b_error = bthen (b_maybe_use (codes "PARAMETER") refl) (λ parameter. bthen (b_passed_priority (codes "PRIORITY") refl) (λ _. bthen b_maybe_code (λ code. begun_give _)))

  b_operation_body : Begun ext.wide (OperationBody ext) (operation_body_at narrow)
  unfolding operation_body_at
  b_operation_body = bthen (b_opens (codes "OPERATION") refl) (λ _. bthen b_operation (λ operation. bthen (sign (codes "}") refl) (λ _. begun_give _)))

  b_error_body : Begun ext.wide (ErrorBody ext) (error_body_at narrow)
  unfolding error_body_at
  b_error_body = bthen (b_opens (codes "ERROR") refl) (λ _. bthen b_error (λ error. bthen (sign (codes "}") refl) (λ _. begun_give _)))

  b_body : Begun ext.wide (Either (OperationBody ext) (ErrorBody ext)) (body_at narrow)
  unfolding body_at
  b_body = bpick (begins (codes "OPERATION")) b_operation_body b_error_body

  b_valued : Begun ext.wide (Valued ext) (valued_at narrow)
  unfolding valued_at
  b_valued = bthen b_value_name (λ name. bthen b_body (λ body. begun_give _))

  b_typed : Begun ext.wide (Typed ext) (typed_at narrow)
  unfolding typed_at
  b_typed = bthen b_type_name (λ name. bthen (sign (codes "::=") refl) (λ _. bthen outer (λ of. begun_give _)))

  b_assign : Begun ext.wide (Assign ext) (assignment_at narrow)
  unfolding assignment_at
  b_assign = bpick starts_name b_valued b_typed

  b_assignments : Begun ext.wide (Many (Assign ext)) (assignments_at narrow)
  unfolding assignments_at
  b_assignments = ball (goes_on (codes "END")) b_assign

  b_listed_imports : Begun ext.wide (FirstImported ext) (listed_imports_at narrow)
  unfolding listed_imports_at
  b_listed_imports = bthen (b_imported ext) (λ first. bthen (ball (begins (codes ",")) (bbehind Sign (codes ",") refl (b_imported ext))) (λ others. begun_give first))

  b_imports : Begun ext.wide (Imports ext) (imports_at narrow)
  unfolding imports_at
  b_imports = bthen (word (codes "IMPORTS") refl) (λ _. bwiden (bthen b_listed_imports (λ first. bthen (word (codes "FROM") refl) (λ _. bthen b_type_name (λ name. bthen b_maybe_oid (λ o. sign (codes ";") refl))))) (fore_to ext _))

  b_maybe_imports : Begun ext.wide (Maybe (Imports ext)) (maybe_imports_at narrow)
  unfolding maybe_imports_at
  b_maybe_imports = bmaybe (begins (codes "IMPORTS")) b_imports

  b_module : Begun ext.wide (Module ext) (module_at narrow)
  unfolding module_at
  b_module = bthen b_heading (λ heading. bthen (word (codes "BEGIN") refl) (λ _. bthen b_maybe_imports (λ imports. bthen b_assignments (λ assignments. bthen (word (codes "END") refl) (λ _. begun_give _)))))

  whole_module : (ts : List Lexeme) (m : ModuleText) → Then (Module ext) (λ a. Nothing a) ts m → Module ext ts m
  whole_module ts m d = let x = alone (Module ext) (λ a. a) ts m d in subst (λ (z : ModuleText). Module ext ts z) x.is x.spelled

  pub b_whole : Begun ext.wide (Module ext) (whole_at narrow)
  unfolding whole_at
  b_whole = bwiden (bthen b_module b_ended) whole_module
