-- In a module without a fault the walk of its assignments ends with rows, operations and errors.
use Rattle.std.proofs.Common.{◌≡◌, ℕ, zero, suc, ◌+◌, ◌^◌, ◌<◌, ◌≤◌, Bool, true, false, List, [], ◌∷◌, ◌++◌, length, Option, None, Some, refl, sym, ap, subst, ◌∙◌, arith, ℤ}
use Rattle.std.specs.Prelude.{not, max, map, is_some, IfSome, slice_get, replicate}
use Rattle.std.specs.List.{AllByRecursion}
use Rattle.std.proofs.lemmas.Bool.{ltb-false}
use Rattle.std.proofs.lemmas.List.{append_assoc, length-map}
use Rattle.asn1_types.specs.declared.row.TypeId.{TypeId}
use Rattle.asn1_types.specs.Table.{AreSoundRows}
use Rattle.notation_tokens.specs.declared.token.Located.{Located}
use Rattle.operation_notation.specs.Tree.{TypeTree}
use Rattle.operation_notation.specs.WellFormed.{IsWellUse, IsWellCode, IsWellBody, IsWellAssignment, IsWellFormed}
use Rattle.operation_notation.specs.declared.module.Assignment.{Assignment}
use Rattle.operation_notation.specs.declared.module.Assigned.{Assigned}
use Rattle.operation_notation.specs.declared.module.Assigned.TheVariants as bodies
use Rattle.operation_notation.specs.declared.module.CodeText.{CodeText}
use Rattle.operation_notation.specs.declared.module.ErrText.{ErrText}
use Rattle.operation_notation.specs.declared.module.ModuleText.{ModuleText}
use Rattle.operation_notation.specs.declared.module.OpText.{OpText}
use Rattle.operation_notation.specs.declared.module.UseText.{UseText}
use Rattle.stub_tables.specs.declared.operation.Code.{Code}
use Rattle.stub_tables.specs.declared.operation.Code.TheVariants as codes
use Rattle.stub_tables.specs.Codes.{have_own_codes}
use Rattle.stub_tables.specs.declared.operation.Operation.{Operation}
use Rattle.stub_tables.specs.declared.operation.ErrorRow.{ErrorRow}
use Rattle.stub_tables.specs.declared.operation.Use.{Use}
use Rattle.stub_tables.specs.declared.tables.Tables.{Tables}
use Rattle.module_faults.specs.declared.kind.TableKind.{TableKind}
use Rattle.module_faults.specs.declared.kind.TableKind.TheVariants as kinds
use Rattle.module_faults.specs.declared.least.Found.{Found}
use Rattle.module_faults.specs.Least.{at_name}
use Rattle.module_faults.specs.Names.{or_none, find, assigned, typed, type_at}
use Rattle.module_faults.specs.Met.{no_codes}
use Rattle.module_faults.specs.Locals.{kind_at, no_error, no_operation, names_faults, use_faults, contradiction, no_code, body_faults, bodies_faults, own_code, double_names, double_codes}
use Rattle.module_faults.specs.Recursion.{SaysRecursion}
use Rattle.module_faults.specs.Facts.{Facts, is_too_deep, type_facts, type_shows, env_of}
use Rattle.module_faults.specs.Faults.{use_shows, use_nesting, too_deep, body_shows, bodies_show, first_recursive, faults_by}
use Rattle.module_compiler.specs.declared.module_tables.Made.{Made}
use Rattle.module_compiler.specs.declared.module_tables.Whole.{Whole}
use Rattle.module_compiler.specs.declared.module_tables.Sort.TheVariants as sorts
use Rattle.module_compiler.specs.Refusals.{HasNoFault}
use Rattle.module_compiler.specs.Tables.{AreTablesOf}
use Rattle.module_compiler.specs.Scope.{Ground, numbered, own_numbers}
use Rattle.module_compiler.specs.Numbering.{NumberedRows, after, give, type_row, use_of}
use Rattle.module_compiler.specs.ModuleTables.{sort_test, number_if, number_by, code_by, code_of, numbers_of, operation_of, error_of, with_operation, with_error, body_of, assignment_of, walk_all, start, whole, whole_of}
use Rattle.module_compiler.proofs.Faultless.{IsFine, AreFine}
use Rattle.module_compiler.proofs.Codes.{Coded, no_more, passed, coded, coded_few, own_rows}
use Rattle.module_compiler.proofs.Parts.{no_fault_if}
use Rattle.module_compiler.proofs.Rows.{nothing_first, nothing_behind}
use Rattle.module_compiler.proofs.Walked.{Good, Ended, fine_walked, behind_fine}

-- ---- numbers of operations and errors

own_first : (b : Assigned) (i j : ℕ) (x y z : List ℕ) → (n : ℕ) × (slice_get (numbered i j b x y z) zero ≡ Some n)
own_first (bodies.Typed of) i j x y z = (0, refl)
own_first (bodies.Operation o) i j x y z = (i, refl)
own_first (bodies.Error e) i j x y z = (j, refl)

own_next : (b : Assigned) (i j p : ℕ) (x y z : List ℕ) → ((n : ℕ) × (slice_get x p ≡ Some n)) → ((n : ℕ) × (slice_get y p ≡ Some n)) → ((n : ℕ) × (slice_get z p ≡ Some n)) → (n : ℕ) × (slice_get (numbered i j b x y z) (suc p) ≡ Some n)
own_next (bodies.Typed of) i j p x y z f g h = h
own_next (bodies.Operation o) i j p x y z f g h = f
own_next (bodies.Error e) i j p x y z f g h = g

own_at : (xs : List Assignment) (i j p : ℕ) (a : Assignment) → slice_get xs p ≡ Some a → (n : ℕ) × (slice_get (own_numbers i j xs) p ≡ Some n)
own_at [] i j p a e = absurd cc
own_at (x ∷ xs) i j zero a e = own_first x.body i j (own_numbers (i + 1) j xs) (own_numbers i (j + 1) xs) (own_numbers i j xs)
own_at (x ∷ xs) i j (suc p) a e =
    own_next x.body i j p (own_numbers (i + 1) j xs) (own_numbers i (j + 1) xs) (own_numbers i j xs) (own_at xs (i + 1) j p a e) (own_at xs i (j + 1) p a e) (own_at xs i j p a e)

-- a name that is wrong in no way has a number
module _ (all : List Assignment) (is : Assigned → Bool) (wrong : Option Assigned → Option TableKind) (nobody : (name : Located) → kind_at (wrong None) name ≡ [] → ⊥)
    (right : (b : Assigned) (name : Located) → kind_at (wrong (Some b)) name ≡ [] → is b ≡ true) where
  number_made : (name : Located) → kind_at (wrong (assigned all name.text)) name ≡ [] → (n : ℕ) × (number_by is all name.text ≡ Some n)
  unfolding number_by
  number_made name e = by_place (find all name.text) refl e
    where
      by_item : (p : ℕ) (o : Option Assignment) → slice_get all p ≡ o → kind_at (wrong (or_none o (λ a. Some a.body))) name ≡ [] → (n : ℕ) × (or_none (slice_get all p) (λ a. number_if (is a.body) (slice_get (own_numbers 0 0 all) p)) ≡ Some n)
      by_item p None s h = absurd (nobody name h)
      by_item p (Some a) s h =
          let n = own_at all 0 0 p a s in
          (n.0, ap (λ (o : Option Assignment). or_none o (λ a. number_if (is a.body) (slice_get (own_numbers 0 0 all) p))) s ∙ ap (λ (b : Bool). number_if b (slice_get (own_numbers 0 0 all) p)) (right a.body name h) ∙ n.1)

      by_place : (o : Option ℕ) → find all name.text ≡ o → kind_at (wrong (or_none o (λ place. or_none (slice_get all place) (λ a. Some a.body)))) name ≡ []
          → (n : ℕ) × (or_none (find all name.text) (λ place. or_none (slice_get all place) (λ a. number_if (is a.body) (slice_get (own_numbers 0 0 all) place))) ≡ Some n)
      by_place None f h = absurd (nobody name h)
      by_place (Some p) f h =
          let n = by_item p (slice_get all p) refl h in
          (n.0, ap (λ (o : Option ℕ). or_none o (λ place. or_none (slice_get all place) (λ a. number_if (is a.body) (slice_get (own_numbers 0 0 all) place)))) f ∙ n.1)

  numbers_made : (so_far : List ℕ) (names : List Located) → names_faults wrong all names ≡ [] → (ns : List ℕ) × (numbers_of is all so_far names ≡ Some ns)
  unfolding numbers_of
  numbers_made so_far [] e = (so_far, refl)
  numbers_made so_far (name ∷ names) e =
      let here : List Found = kind_at (wrong (assigned all name.text)) name in
      let n = number_made name (nothing_first here (names_faults wrong all names) e) in
      let r = numbers_made (so_far ++ n.0 ∷ []) names (nothing_behind here (names_faults wrong all names) e) in
      (r.0, ap (λ (o : Option ℕ). or_none o (λ m. numbers_of is all (so_far ++ m ∷ []) names)) n.1 ∙ r.1)

error_right : (b : Assigned) (name : Located) → kind_at (no_error (Some b)) name ≡ [] → sort_test sorts.Error b ≡ true
error_right (bodies.Typed of) name e = absurd cc
error_right (bodies.Operation o) name e = absurd cc
error_right (bodies.Error o) name e = refl

operation_right : (b : Assigned) (name : Located) → kind_at (no_operation (Some b)) name ≡ [] → sort_test sorts.Operation b ≡ true
operation_right (bodies.Typed of) name e = absurd cc
operation_right (bodies.Operation o) name e = refl
operation_right (bodies.Error o) name e = absurd cc

errors_made : (all : List Assignment) (names : List Located) → names_faults no_error all names ≡ [] → (ns : List ℕ) × (numbers_of (sort_test sorts.Error) all [] names ≡ Some ns)
errors_made all names e = numbers_made all (sort_test sorts.Error) no_error (λ name h. cc) error_right [] names e

linked_made : (all : List Assignment) (names : List Located) → names_faults no_operation all names ≡ [] → (ns : List ℕ) × (numbers_of (sort_test sorts.Operation) all [] names ≡ Some ns)
linked_made all names e = numbers_made all (sort_test sorts.Operation) no_operation (λ name h. cc) operation_right [] names e

-- ---- codes

code_by_made : (l : Option ℤ) (g : Option (List ℕ)) → is_some l ≡ not (is_some g) → (c : Code) × (code_by l g ≡ Some c)
code_by_made (Some n) g e = (codes.Local n, refl)
code_by_made None (Some arcs) e = (codes.Global arcs, refl)
code_by_made None None e = absurd cc

-- a code that is written, and what it is
record CodeMade (code : Option CodeText) : Type 0 where
  text : CodeText
  given : code ≡ Some text
  made : Code
  is : code_by text.local text.global ≡ Some made

code_made : (name : Located) (code : Option CodeText) → no_code name code ≡ [] → IfSome code IsWellCode → CodeMade code
code_made name None e well = absurd cc
code_made name (Some c) e well = let d = code_by_made c.local c.global well in record { text = c; given = refl; made = d.0; is = d.1 }

code_is : (code : Option CodeText) (c : CodeMade code) → code_of code ≡ Some c.made
code_is code c = ap (λ (o : Option CodeText). or_none o (λ x. code_by x.local x.global)) c.given ∙ c.is

-- ---- what is assigned

abbrev FineUse : List Assignment → (List ℕ → Facts) → Option UseText → Type 0
FineUse all env u = IfSome u (λ t. IsFine all env 256 t.of)

pub record FineOperation (all : List Assignment) (env : List ℕ → Facts) (name : Located) (o : OpText) : Type 0 where
  pub argument : FineUse all env o.argument
  pub result : FineUse all env o.result
  pub errors : names_faults no_error all o.errors ≡ []
  pub linked : names_faults no_operation all o.linked ≡ []
  pub code : no_code name o.code ≡ []
  pub well : IfSome o.code IsWellCode

pub record FineError (all : List Assignment) (env : List ℕ → Facts) (name : Located) (e : ErrText) : Type 0 where
  pub parameter : FineUse all env e.parameter
  pub code : no_code name e.code ≡ []
  pub well : IfSome e.code IsWellCode

abbrev pub FineBody : List Assignment → (List ℕ → Facts) → Located → Assigned → Type 0
FineBody all env name (bodies.Typed of) = IsFine all env 256 of
FineBody all env name (bodies.Operation o) = FineOperation all env name o
FineBody all env name (bodies.Error e) = FineError all env name e

-- a module has rows: of its operations each has a code of its own, and so has each error; and there are no more of them than assignments
pub record HasRows (all : List Assignment) (ground : Ground) : Type 0 where
  pub whole : Whole
  pub is : whole_of ground ≡ Some whole
  pub sound : AreSoundRows whole.types
  pub few_operations : length whole.operations ≤ length all
  pub few_errors : length whole.errors ≤ length all
  pub operation_codes : have_own_codes (λ o. o.code) whole.operations ≡ true
  pub error_codes : have_own_codes (λ e. e.code) whole.errors ≡ true

never_given : (k q : ℕ) (id : TypeId) → slice_get (replicate k None) q ≡ Some (Some id) → ⊥
never_given zero q id e = cc
never_given (suc k) zero id e = cc
never_given (suc k) (suc q) id e = never_given k q id e

module _ (all : List Assignment) (recursive : ℕ → Bool) (implicit : Bool) (fine : AreFine all recursive) where
  abbrev env : List ℕ → Facts
  env = env_of all recursive

  abbrev ground : Ground
  ground = record { assignments = all; implicit = implicit }

  abbrev Fair : NumberedRows → Type 0
  Fair s = Good all recursive implicit fine s

  abbrev EndsFairly : (A : Type 0) → NumberedRows → Option (A × NumberedRows) → Type 0
  EndsFairly A s r = Ended all recursive implicit fine A s r

  use_made : (u : Option UseText) → FineUse all env u → (s : NumberedRows) → Fair s → EndsFairly Use s (use_of ground u s)
  unfolding use_of type_row
  use_made None h s good = record { value = record { inner = None; optional = false }; now = s; is = refl; more = λ n row e. e; good = good }
  use_made (Some u) h s good =
      let w = fine_walked all recursive implicit fine u.of h s good in
      record {
        value = record { inner = Some w.id; optional = u.optional };
        now = w.now;
        is = ap (λ (p : Option (TypeId × NumberedRows)). after p (λ id. give (record { inner = Some id; optional = u.optional }))) w.is;
        more = w.more;
        good = w.good;
      }

  -- what was made of assignments stands behind what was made before: operations and errors, with their codes
  record Grown (xs : List Assignment) (made now : Made) : Type 0 where
    own : List Operation
    others : List ErrorRow
    operations : now.operations ≡ made.operations ++ own
    errors : now.errors ≡ made.errors ++ others
    codes : Coded false xs (map (λ o. o.code) own)
    error_codes : Coded true xs (map (λ e. e.code) others)

  -- one assignment
  record Step (a : Assignment) (made : Made) (s : NumberedRows) (r : Option (Made × NumberedRows)) : Type 0 where
    ended : EndsFairly Made s r
    grown : (xs : List Assignment) (final : Made) → Grown xs ended.value final → Grown (a ∷ xs) made final

  operation_made : (made : Made) (name : Located) (o : OpText) (a : Assignment) → a.body ≡ bodies.Operation o → FineOperation all env name o → (s : NumberedRows) → Fair s
      → Step a made s (after (operation_of ground name o s) (λ row. give (with_operation made row)))
  unfolding operation_of
  operation_made made name o one same h s good =
      let a = use_made o.argument h.argument s good in
      let r = use_made o.result h.result a.now a.good in
      let c = code_made name o.code h.code h.well in
      let code : code_of o.code ≡ Some c.made = code_is o.code c in
      let e = errors_made all o.errors h.errors in
      let l = linked_made all o.linked h.linked in
      let row : Operation = record { name = name.text; code = c.made; argument = a.value; result = r.value; returns = o.returns; always = o.always; errors = e.0; linked = l.0 } in
      record {
        ended = record {
          value = with_operation made row;
          now = r.now;
          is = rw (a.is, r.is, code, e.1, l.1) refl;
          more = λ n row p. r.more n row (a.more n row p);
          good = r.good;
        };
        grown = λ xs final g. record {
          own = row ∷ g.own;
          others = g.others;
          operations = g.operations ∙ append_assoc made.operations (row ∷ []) g.own;
          errors = g.errors;
          codes = coded one xs c.text c.made (map (λ o. o.code) g.own) (ap (own_code false) same ∙ c.given) c.is g.codes;
          error_codes = passed one xs (map (λ e. e.code) g.others) (ap (own_code true) same) g.error_codes;
        };
      }

  error_made : (made : Made) (name : Located) (o : ErrText) (a : Assignment) → a.body ≡ bodies.Error o → FineError all env name o → (s : NumberedRows) → Fair s → Step a made s (after (error_of ground name o s) (λ row. give (with_error made row)))
  unfolding error_of
  error_made made name o one same h s good =
      let p = use_made o.parameter h.parameter s good in
      let c = code_made name o.code h.code h.well in
      let code : code_of o.code ≡ Some c.made = code_is o.code c in
      let row : ErrorRow = record { name = name.text; code = c.made; parameter = p.value } in
      record {
        ended = record {
          value = with_error made row;
          now = p.now;
          is = rw (p.is, code) refl;
          more = p.more;
          good = p.good;
        };
        grown = λ xs final g. record {
          own = g.own;
          others = row ∷ g.others;
          operations = g.operations;
          errors = g.errors ∙ append_assoc made.errors (row ∷ []) g.others;
          codes = passed one xs (map (λ o. o.code) g.own) (ap (own_code false) same) g.codes;
          error_codes = coded one xs c.text c.made (map (λ e. e.code) g.others) (ap (own_code true) same ∙ c.given) c.is g.error_codes;
        };
      }

  typed_made : (place : ℕ) (made : Made) (name : Located) (of : TypeTree) (a : Assignment) → a.body ≡ bodies.Typed of → type_at all place ≡ Some of → (s : NumberedRows) → Fair s → Step a made s (body_of ground place made name (bodies.Typed of) s)
  unfolding type_row
  typed_made place made name of one same at s good =
      let w = behind_fine all recursive implicit fine place of at s good in
      record {
        ended = record { value = made; now = w.now; is = ap (λ (p : Option (TypeId × NumberedRows)). after p (λ id. give made)) w.is; more = w.more; good = w.good };
        grown = λ xs final g. record {
          own = g.own;
          others = g.others;
          operations = g.operations;
          errors = g.errors;
          codes = passed one xs (map (λ o. o.code) g.own) (ap (own_code false) same) g.codes;
          error_codes = passed one xs (map (λ e. e.code) g.others) (ap (own_code true) same) g.error_codes;
        };
      }

  -- a type that is assigned stands at its place
  abbrev IsHere : ℕ → Assigned → Type 0
  IsHere place (bodies.Typed of) = type_at all place ≡ Some of
  IsHere place (bodies.Operation o) = Unit {0}
  IsHere place (bodies.Error e) = Unit {0}

  body_made : (place : ℕ) (made : Made) (name : Located) (b : Assigned) (a : Assignment) → a.body ≡ b → IsHere place b → FineBody all env name b → (s : NumberedRows) → Fair s → Step a made s (body_of ground place made name b s)
  body_made place made name (bodies.Typed of) a same at h s good = typed_made place made name of a same at s good
  body_made place made name (bodies.Operation o) a same at h s good = operation_made made name o a same h s good
  body_made place made name (bodies.Error e) a same at h s good = error_made made name e a same h s good

  body_here : (place : ℕ) (a : Assignment) → slice_get all place ≡ Some a → (b : Assigned) → a.body ≡ b → IsHere place b
  body_here place a e (bodies.Typed of) same = ap (λ (o : Option Assignment). or_none o (λ x. typed x.body)) e ∙ ap typed same
  body_here place a e (bodies.Operation o) same = tt
  body_here place a e (bodies.Error o) same = tt

  assignment_made : (place : ℕ) (made : Made) (a : Assignment) → slice_get all place ≡ Some a → FineBody all env a.name a.body → (s : NumberedRows) → Fair s → Step a made s (assignment_of ground place made a s)
  unfolding assignment_of
  assignment_made place made a e h s good = body_made place made a.name a.body a refl (body_here place a e a.body refl) h s good

  record Made_of (xs : List Assignment) (made : Made) (s : NumberedRows) (r : Option (Made × NumberedRows)) : Type 0 where
    ended : EndsFairly Made s r
    grown : Grown xs made ended.value

  append_none : {X : Type 0} (xs : List X) → xs ≡ xs ++ []
  append_none [] = refl
  append_none {X = X} (x ∷ xs) = ap (λ (l : List X). x ∷ l) (append_none xs)

  all_made : (place : ℕ) (made : Made) (xs : List Assignment) → ((i : ℕ) (a : Assignment) → slice_get xs i ≡ Some a → slice_get all (place + i) ≡ Some a) → AllByRecursion (λ a. FineBody all env a.name a.body) xs → (s : NumberedRows) → Fair s
      → Made_of xs made s (walk_all ground place made xs s)
  unfolding walk_all
  all_made place made [] at h s good = record {
    ended = record { value = made; now = s; is = refl; more = λ n row e. e; good = good };
    grown = record { own = []; others = []; operations = append_none made.operations; errors = append_none made.errors; codes = no_more; error_codes = no_more };
  }
  all_made place made (a ∷ xs) at h s good =
      let zeroth : place ≡ place + 0 = omega arith in
      let here : slice_get all place ≡ Some a = ap (slice_get all) zeroth ∙ at 0 a refl in
      let w = assignment_made place made a here h.0 s good in
      let next : (i : ℕ) (b : Assignment) → slice_get xs i ≡ Some b → slice_get all (place + 1 + i) ≡ Some b =
      λ i b e. let same : place + 1 + i ≡ place + suc i = omega arith in ap (slice_get all) same ∙ at (suc i) b e in
      let v = all_made (place + 1) w.ended.value xs next h.1 w.ended.now w.ended.good in
      record {
        ended = record {
          value = v.ended.value;
          now = v.ended.now;
          is = ap (λ (p : Option (Made × NumberedRows)). after p (λ now. walk_all ground (place + 1) now xs)) w.ended.is ∙ v.ended.is;
          more = λ n row e. v.ended.more n row (w.ended.more n row e);
          good = v.ended.good;
        };
        grown = w.grown xs v.ended.value v.grown;
      }

  start_good : Fair (start all)
  start_good = record { sound = record { each = λ n row e. absurd cc; short = λ n row e. absurd cc }; so = λ q id of e at. absurd (never_given (length all) q id e) }

  pub whole_made : AllByRecursion (λ a. FineBody all env a.name a.body) all → double_codes false no_codes all ≡ [] → double_codes true no_codes all ≡ [] → HasRows all ground
  unfolding whole_of
  whole_made h operations errors =
      let none : Made = record { operations = []; errors = [] } in
      let first : (i : ℕ) (a : Assignment) → slice_get all i ≡ Some a → slice_get all (0 + i) ≡ Some a = λ i a e. let same : 0 + i ≡ i = omega arith in ap (slice_get all) same ∙ e in
      let w = all_made 0 none all first h (start all) start_good in
      let g = w.grown in
      let few : length (map (λ o. o.code) g.own) ≤ length all = coded_few false all (map (λ o. o.code) g.own) g.codes in
      let error_few : length (map (λ e. e.code) g.others) ≤ length all = coded_few true all (map (λ e. e.code) g.others) g.error_codes in
      record {
        whole = record { types = w.ended.now.rows; operations = w.ended.value.operations; errors = w.ended.value.errors };
        is = ap whole w.ended.is;
        sound = w.ended.good.sound;
        few_operations = subst (λ (l : List Operation). length l ≤ length all) (sym g.operations) (omega (arith, length-map g.own (λ (o : Operation). o.code)));
        few_errors = subst (λ (l : List ErrorRow). length l ≤ length all) (sym g.errors) (omega (arith, length-map g.others (λ (e : ErrorRow). e.code)));
        operation_codes = subst (λ (l : List Operation). have_own_codes (λ o. o.code) l ≡ true) (sym g.operations) (own_rows (λ (o : Operation). o.code) false all g.own g.codes operations);
        error_codes = subst (λ (l : List ErrorRow). have_own_codes (λ e. e.code) l ≡ true) (sym g.errors) (own_rows (λ (e : ErrorRow). e.code) true all g.others g.error_codes errors);
      }

-- ---- from a module's faults, of which there are none

not_too_deep : (name : Located) (n : ℕ) → too_deep name n ≡ [] → n ≤ 32
not_too_deep name n e = ltb-false 32 n (no_fault_if (is_too_deep n) (at_name name kinds.TooNested) e)

module _ (all : List Assignment) (recursive : ℕ → Bool) where
  abbrev by_name : List ℕ → Facts
  by_name = env_of all recursive

  fine_use : (u : Option UseText) → use_faults all u ≡ [] → use_shows by_name u ≡ [] → use_nesting by_name u ≤ 32 → IfSome u IsWellUse → FineUse all by_name u
  fine_use None f h le well = tt
  fine_use (Some u) f h le well = record { faults = f; shows = h; well = well; nests = le }

  fine_body : (name : Located) (b : Assigned) → body_faults all name b ≡ [] → body_shows by_name name b ≡ [] → IsWellBody name b → FineBody all by_name name b
  fine_body name (bodies.Typed of) f h well = record {
    faults = f;
    shows = nothing_first (type_shows by_name 256 of) (too_deep name (type_facts by_name 256 of).nesting) h;
    well = well.1;
    nests = not_too_deep name (type_facts by_name 256 of).nesting (nothing_behind (type_shows by_name 256 of) (too_deep name (type_facts by_name 256 of).nesting) h);
  }
  fine_body name (bodies.Operation o) f h well =
      let shows : List Found = use_shows by_name o.argument ++ use_shows by_name o.result in
      let deep : ℕ = max (use_nesting by_name o.argument) (use_nesting by_name o.result) in
      let le : deep ≤ 32 = not_too_deep name deep (nothing_behind shows (too_deep name deep) h) in
      let both : shows ≡ [] = nothing_first shows (too_deep name deep) h in
      let code : List Found = no_code name o.code in
      let linked : List Found = names_faults no_operation all o.linked ++ code in
      let errors : List Found = names_faults no_error all o.errors ++ linked in
      let result : List Found = contradiction o.returns o.result ++ errors in
      let f_result : use_faults all o.result ++ result ≡ [] = nothing_behind (use_faults all o.argument) (use_faults all o.result ++ result) f in
      let f_rest : result ≡ [] = nothing_behind (use_faults all o.result) result f_result in
      let f_errors : errors ≡ [] = nothing_behind (contradiction o.returns o.result) errors f_rest in
      let f_linked : linked ≡ [] = nothing_behind (names_faults no_error all o.errors) linked f_errors in
      record {
        argument = fine_use o.argument (nothing_first (use_faults all o.argument) (use_faults all o.result ++ result) f) (nothing_first (use_shows by_name o.argument) (use_shows by_name o.result) both) (omega arith) well.1.argument;
        result = fine_use o.result (nothing_first (use_faults all o.result) result f_result) (nothing_behind (use_shows by_name o.argument) (use_shows by_name o.result) both) (omega arith) well.1.result;
        errors = nothing_first (names_faults no_error all o.errors) linked f_errors;
        linked = nothing_first (names_faults no_operation all o.linked) code f_linked;
        code = nothing_behind (names_faults no_operation all o.linked) code f_linked;
        well = well.1.code;
      }
  fine_body name (bodies.Error e) f h well = record {
    parameter =
        fine_use e.parameter (nothing_first (use_faults all e.parameter) (no_code name e.code) f) (nothing_first (use_shows by_name e.parameter) (too_deep name (use_nesting by_name e.parameter)) h)
        (not_too_deep name (use_nesting by_name e.parameter) (nothing_behind (use_shows by_name e.parameter) (too_deep name (use_nesting by_name e.parameter)) h)) well.1.parameter;
    code = nothing_behind (use_faults all e.parameter) (no_code name e.code) f;
    well = well.1.code;
  }

  fine_bodies : (xs : List Assignment) → bodies_faults all xs ≡ [] → bodies_show by_name xs ≡ [] → AllByRecursion IsWellAssignment xs → AllByRecursion (λ a. FineBody all by_name a.name a.body) xs
  fine_bodies [] f h well = tt
  fine_bodies (a ∷ xs) f h well =
      let here : List Found = body_faults all a.name a.body in
      let shown : List Found = body_shows by_name a.name a.body in (
        fine_body a.name a.body (nothing_first here (bodies_faults all xs) f) (nothing_first shown (bodies_show by_name xs) h) well.0,
        fine_bodies xs (nothing_behind here (bodies_faults all xs) f) (nothing_behind shown (bodies_show by_name xs) h) well.1,
      )

  typed_fine : (name : Located) (b : Assigned) (of : TypeTree) → typed b ≡ Some of → FineBody all by_name name b → IsFine all by_name 256 of
  typed_fine name (bodies.Typed t) of e h = let same : t ≡ of = cc in subst (λ (x : TypeTree). IsFine all by_name 256 x) same h
  typed_fine name (bodies.Operation o) of e h = absurd cc
  typed_fine name (bodies.Error o) of e h = absurd cc

  types_fine : (xs : List Assignment) → AllByRecursion (λ a. FineBody all by_name a.name a.body) xs → (q : ℕ) (of : TypeTree) → type_at xs q ≡ Some of → IsFine all by_name 256 of
  types_fine [] h q of e = absurd cc
  types_fine (a ∷ xs) h zero of e = typed_fine a.name a.body of e h.0
  types_fine (a ∷ xs) h (suc q) of e = types_fine xs h.1 q of e

  -- a module without a fault has rows
  pub has_rows : (implicit : Bool) → SaysRecursion all recursive → faults_by all recursive ≡ [] → AllByRecursion IsWellAssignment all → HasRows all (record { assignments = all; implicit = implicit })
  has_rows implicit says none well =
      let shows : List Found = bodies_show by_name all in
      let recursion : List Found = first_recursive recursive 0 all ++ shows in
      let errors : List Found = double_codes true no_codes all ++ recursion in
      let operations : List Found = double_codes false no_codes all ++ errors in
      let bodies : List Found = bodies_faults all all ++ operations in
      let f_bodies : bodies ≡ [] = nothing_behind (double_names all 0 all) bodies none in
      let f_operations : operations ≡ [] = nothing_behind (bodies_faults all all) operations f_bodies in
      let f_errors : errors ≡ [] = nothing_behind (double_codes false no_codes all) errors f_operations in
      let f_recursion : recursion ≡ [] = nothing_behind (double_codes true no_codes all) recursion f_errors in
      let fine = fine_bodies all (nothing_first (bodies_faults all all) operations f_bodies) (nothing_behind (first_recursive recursive 0 all) shows f_recursion) well in
      whole_made all recursive implicit (record { says = says; none = nothing_first (first_recursive recursive 0 all) shows f_recursion; fine = types_fine all fine }) fine
      (nothing_first (double_codes false no_codes all) errors f_operations) (nothing_first (double_codes true no_codes all) recursion f_errors)

pub rows_sound : (m : ModuleText) (tables : Tables) → IsWellFormed m → AreTablesOf m tables → AreSoundRows tables.types
rows_sound m tables well t =
    let r = has_rows m.assignments t.no_fault.recursive m.implicit t.no_fault.says t.no_fault.none well.assignments in
    let given : Whole = record { types = tables.types; operations = tables.operations; errors = tables.errors } in
    let same : r.whole ≡ given = let e : Some r.whole ≡ Some given = sym r.is ∙ t.rows in cc in
    subst AreSoundRows (ap (λ (w : Whole). w.types) same) r.sound

-- ---- the tables of a module

pub has_tables : (m : ModuleText) → IsWellFormed m → length m.assignments < 2 ^ 32 → HasNoFault m → (tables : Tables) × AreTablesOf m tables
has_tables m well few none =
    let r = has_rows m.assignments none.recursive m.implicit none.says none.none well.assignments in
    let operations : length r.whole.operations ≤ length m.assignments = r.few_operations in
    let errors : length r.whole.errors ≤ length m.assignments = r.few_errors in (
      record {
        name = m.name.text;
        name_oid = m.name_oid;
        types = r.whole.types;
        operations = r.whole.operations;
        errors = r.whole.errors;
        few_operations = below (length r.whole.operations) (length m.assignments) (2 ^ 32) operations few;
        few_errors = below (length r.whole.errors) (length m.assignments) (2 ^ 32) errors few;
        operation_codes = r.operation_codes;
        error_codes = r.error_codes;
      },
      record { no_fault = none; name = refl; name_oid = refl; rows = r.is },
    )
  where
    below : (a b c : ℕ) → a ≤ b → b < c → a < c
    below a b c h k = omega arith
