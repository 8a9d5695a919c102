-- Each reading looks no further than its fault.
use Rattle.std.proofs.Common.{codes, ◌≡◌, ℕ, zero, suc, Bool, true, false, List, [], ◌∷◌, ◌++◌, length, Option, Some, None, Ok, Err, refl, sym, ap, ◌∙◌, arith}
use Rattle.std.specs.Prelude.{◌||◌, ◌&&◌, is_some, unwrap_or, if◌then◌else◌}
use Rattle.std.proofs.lemmas.List.{length-append}
use Rattle.osi_base.specs.Limits.{most_32, most_signed}
use Rattle.notation_tokens.specs.Lexeme.{Lexeme, same, goes_on}
use Rattle.notation_tokens.specs.Words.{is_type_name, is_value_name, number, number_of, int, int_of, end_word, end_of, bool_word, bool_of, type_name_of, value_name_of, arc_name_of, text_kind_word, text_kind_of}
use Rattle.operation_notation.specs.Reading.{◌>>=◌, give, Read, refuse_as, token_at, word_at, number_at, number_64_at, int_at, end_at, bool_at, type_name_at, value_name_at}
use Rattle.operation_notation.specs.ReadingTypes.{starts_name, root_word, text_kind, arc_name_at, bracketed_at, arc_at, alone_at, named_root_at, root_at, most_second, oid_at, range_at, size_at, item_at, items_at, class_at, explicit_at, tag_at, dflt_at, absence_at, absent_at, part_at, parts_at, alternatives_at, integer_at, octets_at, text_kind_at, named_at, text_or_name_at, leaf_at, sequence_at, set_at, choice_at, plain_at, type_text_at, starts_type, deep_kind, starts_mark, type_at, outer_type_at}
use Rattle.operation_notation.specs.ReadingModules.{flag_at, flag_2_at, flag_or_at, passed_flag_at, use_at, maybe_use_at, names_at, named_list_at, priority_at, passed_priority_at, invoke_priority_at, local_at, global_at, code_value_at, code_at, maybe_code_at, signature_at, manner_at, operation_at, error_at, typed_at, opens_at, operation_body_at, error_body_at, body_at, valued_at, assignment_at, assignments_at, class_kind, imported_at, listed_imports_at, maybe_oid_at, imports_at, maybe_imports_at, tagging_at, heading_at, module_at, ended_at, whole_at}
use Rattle.operation_notation.specs.GrammarTypes.{Extent, mark_of, dflt_of, standing, optional, by_default}
use Rattle.operation_notation.specs.GrammarModules.{name_of, Module}
use Rattle.operation_notation.specs.Tree.{TypeTree, type_tree, named}
use Rattle.notation_tokens.specs.declared.faults.NotationKind.{NotationKind}
use Rattle.notation_tokens.specs.declared.faults.NotationKind.TheVariants.{Unsupported}
use Rattle.notation_tokens.specs.declared.token.Located.{Located}
use Rattle.operation_notation.specs.declared.module.ModuleText.{ModuleText}
use Rattle.operation_notation.proofs.Starts.{headed_takes}
use Rattle.operation_notation.proofs.Leaves.{Leaves, no_cut}
use Rattle.operation_notation.proofs.ModuleLaws.{law_assign, starts_assign, whole_only, assigned}
use Rattle.operation_notation.proofs.Local.{Local, fault, kind_local, refuse_by, local_refuse, local_give, local_one, local_choice, local_peek, local_here, goes_on_far, lthen, lpick, lmaybe, lword, lbehind, local_counted, Takes, local_all, llisted, lmore}

l_number : (most : ℕ) → Local (number_at most)
unfolding number_at number
l_number most = local_one (number_of most)

l_number_64 : Local number_64_at
unfolding number_64_at
l_number_64 = lthen (l_number most_signed) (λ n. local_give _)

l_int : Local int_at
unfolding int_at int number
l_int = local_one int_of

l_end : Local end_at
unfolding end_at end_word int number same
l_end = local_one end_of

l_bool : Local bool_at
unfolding bool_at bool_word same
l_bool = local_one bool_of

l_type_name : Local type_name_at
unfolding type_name_at
l_type_name = local_one type_name_of

l_value_name : Local value_name_at
unfolding value_name_at
l_value_name = local_one value_name_of

l_arc_name : Local arc_name_at
unfolding arc_name_at
l_arc_name = local_one arc_name_of

l_text_kind : Local text_kind_at
unfolding text_kind_at text_kind_word same
l_text_kind = local_one text_kind_of

-- ---- object identifiers

name_far : (x : List Lexeme) (t : Lexeme) (u v : List Lexeme) → starts_name (x ++ t ∷ u) ≡ starts_name (x ++ t ∷ v)
name_far [] t u v = refl
name_far (s ∷ x) t u v = refl

root_far : (x : List Lexeme) (t : Lexeme) (u v : List Lexeme) → root_word (x ++ t ∷ u) ≡ root_word (x ++ t ∷ v)
root_far [] t u v = refl
root_far (s ∷ x) t u v = refl

l_bracketed : (most : ℕ) → Local (bracketed_at most)
unfolding bracketed_at
l_bracketed most = lthen (lword (codes "(")) (λ _. lthen (l_number most) (λ arc. lthen (lword (codes ")")) (λ _. local_give arc)))

l_arc : (most : ℕ) → Local (arc_at most)
unfolding arc_at
l_arc most = local_choice starts_name _ _ name_far (lthen l_arc_name (λ _. l_bracketed most)) (l_number most)

l_alone : (o : Option ℕ) → Local (alone_at o)
l_alone (Some root) = local_give root
l_alone None = local_refuse

l_named_root : (o : Option ℕ) → Local (named_root_at o)
unfolding named_root_at
l_named_root o = lpick (codes "(") (l_bracketed 2) (l_alone o)

l_root : Local root_at
unfolding root_at
l_root = local_choice starts_name (λ ts. (arc_name_at >>= λ _. named_root_at (root_word ts)) ts) (number_at 2) name_far
    (lthen (local_peek root_word root_far) (λ w. lthen l_arc_name (λ _. l_named_root w))) (l_number 2)

l_oid : Local oid_at
unfolding oid_at
l_oid = lthen (lword (codes "{")) (λ _. lthen l_root (λ root. lthen (l_arc (most_second root)) (λ second. lthen (local_counted (goes_on (codes "}")) (arc_at most_32) (goes_on_far (codes "}")) (l_arc most_32) 30) (λ others. lthen (lword (codes "}")) (λ _. local_give _)))))

-- ---- types

l_range : Local range_at
unfolding range_at
l_range = lthen (lword (codes "(")) (λ _. lthen local_here (λ at. lthen l_end (λ low. lthen (lword (codes "..")) (λ _. lthen l_end (λ high. lthen (lword (codes ")")) (λ _. local_give (record { line = at.line; column = at.column; low = low; high = high })))))))

l_size : Local size_at
unfolding size_at
l_size = lthen (lword (codes "(")) (λ _. lthen (lword (codes "SIZE")) (λ _. lthen (lword (codes "(")) (λ _. lthen local_here (λ at. lthen l_number_64 (λ low. lthen (lword (codes "..")) (λ _. lthen l_number_64 (λ high. lthen (lword (codes ")")) (λ _. lthen (lword (codes ")")) (λ _. local_give (record { line = at.line; column = at.column; low = low; high = high }))))))))))

l_item : Local item_at
unfolding item_at
l_item = lthen l_value_name (λ name. lthen (lword (codes "(")) (λ _. lthen l_int (λ number. lthen (lword (codes ")")) (λ _. local_give _))))

l_items : Local items_at
unfolding items_at
l_items = lthen (lword (codes "{")) (λ _. lthen (llisted (codes ",") l_item) (λ items. lthen (lword (codes "}")) (λ _. local_give items)))

l_stands : {A : Type 0} (w : List ℕ) → (a : A) → Local (word_at w >>= λ _. give a)
l_stands w a = lthen (lword w) (λ _. local_give a)

l_class : Local class_at
unfolding class_at
l_class = lpick (codes "UNIVERSAL") (l_stands (codes "UNIVERSAL") 0) (lpick (codes "APPLICATION") (l_stands (codes "APPLICATION") 1) (lpick (codes "PRIVATE") (l_stands (codes "PRIVATE") 3) (local_give 2)))

l_explicit : Local explicit_at
unfolding explicit_at
l_explicit = lpick (codes "IMPLICIT") (l_stands (codes "IMPLICIT") (Some false)) (lpick (codes "EXPLICIT") (l_stands (codes "EXPLICIT") (Some true)) (local_give None))

l_tag : Local tag_at
unfolding tag_at
l_tag = lthen (lword (codes "[")) (λ _. lthen l_class (λ class. lthen (l_number most_32) (λ number. lthen (lword (codes "]")) (λ _. lthen l_explicit (λ explicit. local_give _)))))

l_dflt : Local dflt_at
unfolding dflt_at
l_dflt = local_one dflt_of

l_absence : Local absence_at
unfolding absence_at
l_absence = lpick (codes "OPTIONAL") (l_stands (codes "OPTIONAL") optional) (lpick (codes "DEFAULT") (lthen (lword (codes "DEFAULT")) (λ _. lthen l_dflt (λ d. local_give (by_default d)))) (local_give standing))

l_absent : (may : Bool) → Local (absent_at may)
unfolding absent_at
l_absent true = l_absence
l_absent false = local_give standing

l_integer : Local integer_at
unfolding integer_at
l_integer = lthen (lword (codes "INTEGER")) (λ _. lthen (lmaybe (codes "(") l_range) (λ r. local_give _))

l_octets : Local octets_at
unfolding octets_at
l_octets = lthen (lword (codes "OCTET")) (λ _. lthen (lword (codes "STRING")) (λ _. lthen (lmaybe (codes "(") l_size) (λ r. local_give _)))

kind_word_far : (x : List Lexeme) (t : Lexeme) (u v : List Lexeme) → is_some (text_kind (x ++ t ∷ u)) ≡ is_some (text_kind (x ++ t ∷ v))
kind_word_far [] t u v = refl
kind_word_far (s ∷ x) t u v = refl

l_brace : (wide : Bool) (name : Located) → Local (λ ts. if wide then (word_at (codes "{") >>= λ _. give (named name)) ts else refuse_as Unsupported ts)
l_brace true name = l_stands (codes "{") (named name)
l_brace false name = refuse_by (λ ts. Unsupported) (λ x t u v. refl)

l_named : (ext : Extent) (name : Located) → Local (named_at ext name)
l_named ext name = lpick (codes "{") (l_brace ext.wide name) (local_give (named name))

l_text_or_name : (ext : Extent) → Local (text_or_name_at ext)
unfolding text_or_name_at
l_text_or_name ext = local_choice (λ ts. is_some (text_kind ts)) _ _ kind_word_far (lthen l_text_kind (λ k. local_give _)) (lthen l_type_name (l_named ext))

l_leaf : (ext : Extent) → Local (leaf_at ext)
unfolding leaf_at
l_leaf ext = lpick (codes "BOOLEAN") (l_stands (codes "BOOLEAN") _) (lpick (codes "NULL") (l_stands (codes "NULL") _) (lpick (codes "INTEGER") l_integer (lpick (codes "ENUMERATED") (lthen (lword (codes "ENUMERATED")) (λ _. lthen l_items (λ items. local_give _)))
    (lpick (codes "OCTET") l_octets (lpick (codes "BIT") (lthen (lword (codes "BIT")) (λ _. l_stands (codes "STRING") _)) (lpick (codes "OBJECT") (lthen (lword (codes "OBJECT")) (λ _. l_stands (codes "IDENTIFIER") _)) (l_text_or_name ext)))))))

module _ (ext : Extent) (inner : List Lexeme → Read TypeTree) (li : Local inner) where
  l_part : (may : Bool) → Local (part_at may inner)
  unfolding part_at
  l_part may = lthen l_value_name (λ name. lthen li (λ of. lthen (l_absent may) (λ absence. local_give (record { name = name; of = of; optional = absence.optional; dflt = absence.dflt }))))

  l_parts : Local (parts_at inner)
  unfolding parts_at
  l_parts = lthen (lword (codes "{")) (λ _. lthen (lpick (codes "}") (local_give []) (llisted (codes ",") (l_part true))) (λ parts. lthen (lword (codes "}")) (λ _. local_give parts)))

  l_alternatives : Local (alternatives_at inner)
  unfolding alternatives_at
  l_alternatives = lthen (lword (codes "{")) (λ _. lthen (llisted (codes ",") (l_part false)) (λ parts. lthen (lword (codes "}")) (λ _. local_give parts)))

  l_sequence : Local (sequence_at inner)
  unfolding sequence_at
  l_sequence = lthen (lword (codes "SEQUENCE")) (λ _. lpick (codes "OF") (lthen (lword (codes "OF")) (λ _. lthen li (λ item. local_give _))) (lthen l_parts (λ parts. local_give _)))

  l_set : Local (set_at inner)
  unfolding set_at
  l_set = lthen (lword (codes "SET")) (λ _. lpick (codes "OF") (lthen (lword (codes "OF")) (λ _. lthen li (λ item. local_give _))) (lthen l_parts (λ parts. local_give _)))

  l_choice : Local (choice_at inner)
  unfolding choice_at
  l_choice = lthen (lword (codes "CHOICE")) (λ _. lthen l_alternatives (λ parts. local_give _))

  l_plain : Local (plain_at ext inner)
  unfolding plain_at
  l_plain = lpick (codes "SEQUENCE") l_sequence (lpick (codes "SET") l_set (lpick (codes "CHOICE") l_choice (l_leaf ext)))

  l_type_text : Local (type_text_at ext inner)
  unfolding type_text_at
  l_type_text = lthen local_here (λ at. lthen (lmaybe (codes "[") l_tag) (λ tag. lthen l_plain (λ plain. local_give (type_tree at.line at.column tag plain))))

deep_far : (x : List Lexeme) (t : Lexeme) (u v : List Lexeme) → deep_kind (x ++ t ∷ u) ≡ deep_kind (x ++ t ∷ v)
unfolding deep_kind
deep_far [] t u v = ap (λ (k : NotationKind). if starts_type (t ∷ []) then Unsupported else k) (kind_local [] t u v)
deep_far (s ∷ x) t u v = ap (λ (k : NotationKind). if starts_type (s ∷ []) then Unsupported else k) (kind_local (s ∷ x) t u v)

mark_far : (x : List Lexeme) (t : Lexeme) (u v : List Lexeme) → starts_mark (x ++ t ∷ u) ≡ starts_mark (x ++ t ∷ v)
mark_far [] t u v = refl
mark_far (s ∷ x) t u v = refl

l_mark : (marks : Bool) → Local (λ ts. if marks && starts_mark ts then token_at mark_of ts else refuse_as (deep_kind ts) ts)
l_mark true = local_choice starts_mark (token_at mark_of) (λ ts. refuse_as (deep_kind ts) ts) mark_far (local_one mark_of) (refuse_by deep_kind deep_far)
l_mark false = refuse_by deep_kind deep_far

l_type : (ext : Extent) (levels : ℕ) → Local (type_at ext levels)
unfolding type_at
l_type ext zero = l_mark ext.marked
l_type ext (suc n) = l_type_text ext (type_at ext n) (l_type ext n)

l_outer : (ext : Extent) → Local (outer_type_at ext)
unfolding outer_type_at
l_outer ext = l_type ext ext.levels

-- ---- bodies

l_flag : (w : List ℕ) → Local (flag_at w)
unfolding flag_at
l_flag w = lbehind w l_bool

l_flag_2 : (w n : List ℕ) → Local (flag_2_at w n)
unfolding flag_2_at
l_flag_2 w n = lbehind w (lbehind n l_bool)

l_flag_or : (w n : List ℕ) → Local (flag_or_at w n)
unfolding flag_or_at
l_flag_or w n = lthen (lmaybe w (l_flag_2 w n)) (λ f. local_give _)

l_passed_flag : (w : List ℕ) → Local (passed_flag_at w)
unfolding passed_flag_at
l_passed_flag w = lmaybe w (l_flag w)

l_use : (ext : Extent) (w : List ℕ) → Local (use_at ext w)
unfolding use_at
l_use ext w = lthen (lword w) (λ at. lthen (l_outer ext) (λ of. lthen (lmaybe (codes "OPTIONAL") (l_flag (codes "OPTIONAL"))) (λ o. local_give (record { line = at.line; column = at.column; of = of; optional = unwrap_or o false }))))

l_maybe_use : (ext : Extent) (w : List ℕ) → Local (maybe_use_at ext w)
unfolding maybe_use_at
l_maybe_use ext w = lmaybe w (l_use ext w)

l_names : Local names_at
unfolding names_at
l_names = lthen (lword (codes "{")) (λ _. lthen (llisted (codes "|") l_value_name) (λ names. lthen (lword (codes "}")) (λ _. local_give names)))

l_named_list : (w : List ℕ) → Local (named_list_at w)
unfolding named_list_at
l_named_list w = lpick w (lbehind w l_names) (local_give [])

l_priority : Local priority_at
unfolding priority_at
l_priority = lthen (lword (codes "{")) (λ _. lthen l_number_64 (λ n. lword (codes "}")))

l_passed_priority : (w : List ℕ) → Local (passed_priority_at w)
unfolding passed_priority_at
l_passed_priority w = lmaybe w (lbehind w l_priority)

l_invoke : Local invoke_priority_at
unfolding invoke_priority_at
l_invoke = lmaybe (codes "INVOKE") (lbehind (codes "INVOKE") (lbehind (codes "PRIORITY") l_priority))

l_local : Local local_at
unfolding local_at
l_local = lthen (lword (codes "local")) (λ at. lthen (lword (codes ":")) (λ _. lthen l_int (λ n. local_give (record { line = at.line; column = at.column; local = Some n; global = None }))))

l_global : Local global_at
unfolding global_at
l_global = lthen (lword (codes "global")) (λ at. lthen (lword (codes ":")) (λ _. lthen l_oid (λ o. local_give (record { line = at.line; column = at.column; local = None; global = Some o }))))

l_code_value : Local code_value_at
unfolding code_value_at
l_code_value = lpick (codes "local") l_local l_global

l_code : Local code_at
unfolding code_at
l_code = lbehind (codes "CODE") l_code_value

l_maybe_code : Local maybe_code_at
unfolding maybe_code_at
l_maybe_code = lmaybe (codes "CODE") l_code

l_signature : (ext : Extent) → Local (signature_at ext)
unfolding signature_at
l_signature ext = lthen (l_maybe_use ext (codes "ARGUMENT")) (λ a. lthen (l_maybe_use ext (codes "RESULT")) (λ r. lthen (l_flag_or (codes "RETURN") (codes "RESULT")) (λ f. local_give _)))

l_manner : Local manner_at
unfolding manner_at
l_manner = lthen (l_passed_flag (codes "SYNCHRONOUS")) (λ _. lthen (l_passed_flag (codes "IDEMPOTENT")) (λ _. lthen (l_flag_or (codes "ALWAYS") (codes "RESPONDS")) (λ always. lthen l_invoke (λ _. lthen (l_passed_priority (codes "RESULT-PRIORITY")) (λ _. local_give always)))))

l_operation : (ext : Extent) → Local (operation_at ext)
unfolding operation_at
l_operation ext = lthen (l_signature ext) (λ s. lthen (l_named_list (codes "ERRORS")) (λ e. lthen (l_named_list (codes "LINKED")) (λ k. lthen l_manner (λ a. lthen l_maybe_code (λ c. local_give (record { argument = s.argument; result = s.result; returns = s.returns; always = a; errors = e; linked = k; code = c }))))))

l_error : (ext : Extent) → Local (error_at ext)
unfolding error_at
l_error ext = lthen (l_maybe_use ext (codes "PARAMETER")) (λ p. lthen (l_passed_priority (codes "PRIORITY")) (λ _. lthen l_maybe_code (λ c. local_give _)))

-- ---- assignments and modules

l_typed : (ext : Extent) → Local (typed_at ext)
unfolding typed_at
l_typed ext = lthen l_type_name (λ name. lthen (lword (codes "::=")) (λ _. lthen (l_outer ext) (λ of. local_give _)))

l_opens : (w : List ℕ) → Local (opens_at w)
unfolding opens_at
l_opens w = lbehind w (lbehind (codes "::=") (lword (codes "{")))

l_operation_body : (ext : Extent) → Local (operation_body_at ext)
unfolding operation_body_at
l_operation_body ext = lthen (l_opens (codes "OPERATION")) (λ _. lthen (l_operation ext) (λ o. lthen (lword (codes "}")) (λ _. local_give _)))

l_error_body : (ext : Extent) → Local (error_body_at ext)
unfolding error_body_at
l_error_body ext = lthen (l_opens (codes "ERROR")) (λ _. lthen (l_error ext) (λ o. lthen (lword (codes "}")) (λ _. local_give _)))

l_body : (ext : Extent) → Local (body_at ext)
unfolding body_at
l_body ext = lpick (codes "OPERATION") (l_operation_body ext) (l_error_body ext)

l_valued : (ext : Extent) → Local (valued_at ext)
unfolding valued_at
l_valued ext = lthen l_value_name (λ name. lthen (l_body ext) (λ body. local_give _))

l_assignment : (ext : Extent) → Local (assignment_at ext)
unfolding assignment_at
l_assignment ext = local_choice starts_name _ _ name_far (l_valued ext) (l_typed ext)

assignment_takes : (ext : Extent) → Takes (assignment_at ext)
assignment_takes ext ts a rest e =
    let x = (law_assign ext).found ts a rest e in
    omega (arith, ap length x.parts, length-append x.text rest, headed_takes assigned x.text (starts_assign ext x.text a x.spelled))

l_assignments : (ext : Extent) → Local (assignments_at ext)
unfolding assignments_at
l_assignments ext = local_all (goes_on (codes "END")) (assignment_at ext) (goes_on_far (codes "END")) refl (assignment_takes ext) (l_assignment ext)

class_far : (x : List Lexeme) (t : Lexeme) (u v : List Lexeme) → class_kind (x ++ t ∷ u) ≡ class_kind (x ++ t ∷ v)
unfolding class_kind
class_far [] t u v = ap (λ (k : NotationKind). if is_type_name t.kind t.text || is_value_name t.kind t.text then Unsupported else k) (kind_local [] t u v)
class_far (s ∷ x) t u v = ap (λ (k : NotationKind). if is_type_name s.kind s.text || is_value_name s.kind s.text then Unsupported else k) (kind_local (s ∷ x) t u v)

l_other : (wide : Bool) → Local (λ ts. if wide then token_at name_of ts else refuse_as (class_kind ts) ts)
l_other true = local_one name_of
l_other false = refuse_by class_kind class_far

l_imported : (ext : Extent) → Local (imported_at ext)
unfolding imported_at
l_imported ext = lpick (codes "OPERATION") (lword (codes "OPERATION")) (lpick (codes "ERROR") (lword (codes "ERROR")) (l_other ext.wide))

l_listed_imports : (ext : Extent) → Local (listed_imports_at ext)
unfolding listed_imports_at
l_listed_imports ext = lthen (l_imported ext) (λ first. lthen (lmore (codes ",") (l_imported ext)) (λ others. local_give first))

l_maybe_oid : Local maybe_oid_at
unfolding maybe_oid_at
l_maybe_oid = lmaybe (codes "{") l_oid

l_imports : (ext : Extent) → Local (imports_at ext)
unfolding imports_at
l_imports ext = lthen (lword (codes "IMPORTS")) (λ _. lthen (l_listed_imports ext) (λ _. lthen (lword (codes "FROM")) (λ _. lthen l_type_name (λ _. lthen l_maybe_oid (λ _. lword (codes ";"))))))

l_maybe_imports : (ext : Extent) → Local (maybe_imports_at ext)
unfolding maybe_imports_at
l_maybe_imports ext = lmaybe (codes "IMPORTS") (l_imports ext)

l_tags : (w : List ℕ) → (b : Bool) → Local (word_at w >>= λ _. word_at (codes "TAGS") >>= λ _. give b)
l_tags w b = lthen (lword w) (λ _. lthen (lword (codes "TAGS")) (λ _. local_give b))

l_tagging : Local tagging_at
unfolding tagging_at
l_tagging = lpick (codes "EXPLICIT") (lthen (lbehind (codes "EXPLICIT") (lword (codes "TAGS"))) (λ _. local_give false)) (lpick (codes "IMPLICIT") (lthen (lbehind (codes "IMPLICIT") (lword (codes "TAGS"))) (λ _. local_give true)) (local_give false))

l_heading : Local heading_at
unfolding heading_at
l_heading = lthen l_type_name (λ name. lthen l_oid (λ oid. lthen (lword (codes "DEFINITIONS")) (λ _. lthen l_tagging (λ implicit. lthen (lword (codes "::=")) (λ _. local_give _)))))

pub l_module : (ext : Extent) → Local (module_at ext)
unfolding module_at
l_module ext = lthen l_heading (λ heading. lthen (lword (codes "BEGIN")) (λ _. lthen (l_maybe_imports ext) (λ _. lthen (l_assignments ext) (λ assignments. lthen (lword (codes "END")) (λ _. local_give (record { name = heading.name; name_oid = heading.name_oid; implicit = heading.implicit; assignments = assignments }))))))

-- ---- no module goes on from a fault

ended_leaves : (found : ModuleText) → Leaves (ended_at found)
ended_leaves found [] = no_cut []
ended_leaves found (t ∷ ts) = no_cut (t ∷ ts)

ended_ok : (found : ModuleText) (x y : List Lexeme) (t : Lexeme) (u v : List Lexeme) (a : ModuleText) → ended_at found (x ++ t ∷ u) ≡ Ok (a, y ++ t ∷ u) → ended_at found (x ++ t ∷ v) ≡ Ok (a, y ++ t ∷ v)
ended_ok found [] y t u v a e = absurd cc
ended_ok found (s ∷ x) y t u v a e = absurd cc

ended_err : (found : ModuleText) (x y : List Lexeme) (t : Lexeme) (u v : List Lexeme) (k : NotationKind) → ended_at found (x ++ t ∷ u) ≡ Err (fault (y ++ t ∷ u) k) → ended_at found (x ++ t ∷ v) ≡ Err (fault (y ++ t ∷ v) k)
ended_err found [] y t u v k e = (local_refuse {A = ModuleText}).looks.err [] y t u v k e
ended_err found (s ∷ x) y t u v k e = (local_refuse {A = ModuleText}).looks.err (s ∷ x) y t u v k e

l_ended : (found : ModuleText) → Local (ended_at found)
l_ended found = record { leaves = ended_leaves found; looks = record { ok = ended_ok found; err = ended_err found } }

pub l_whole : (ext : Extent) → Local (whole_at ext)
unfolding whole_at
l_whole ext = lthen (l_module ext) l_ended

-- no module begins with the tokens up to a faulty one, with it
pub none_goes_on : (ext : Extent) (x : List Lexeme) (t : Lexeme) (u v : List Lexeme) (kind : NotationKind) (m : ModuleText) → whole_at ext (x ++ t ∷ u) ≡ Err (fault (t ∷ u) kind) → Module ext (x ++ t ∷ v) m → ⊥
none_goes_on ext x t u v kind m e d =
    let stopped = (l_whole ext).looks.err x [] t u v kind e in
    let read = whole_only ext (x ++ t ∷ v) m d in
    let answer : Read ModuleText = Ok (m, []) in
    let clash : answer ≡ Err (fault (t ∷ v) kind) = sym read ∙ stopped in
    absurd cc
