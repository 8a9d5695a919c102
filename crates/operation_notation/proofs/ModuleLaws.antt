-- Reading modules against their grammar.
use Rattle.std.proofs.Common.{codes, ◌≡◌, ℕ, Bool, true, false, List, [], ◌∷◌, ◌++◌, length, Option, Some, None, Result, Ok, Err, refl, sym, ap, subst, ◌∙◌, arith}
use Rattle.std.specs.Prelude.{IfOk, ◌||◌, ◌&&◌, not, nat_lt, if◌then◌else◌}
use Rattle.std.specs.List.{list_any, list_all}
use Rattle.std.specs.Char.{is_ascii_uppercase, is_ascii_lowercase}
use Rattle.std.specs.Str.{bytes_eq}
use Rattle.std.proofs.lemmas.Bool.{not-false, ltb-false, le-ltb}
use Rattle.std.proofs.lemmas.List.{append-nil}
use Rattle.std.proofs.lemmas.Bool.Decides.{nat_tests}
use Rattle.osi_base.specs.Limits.{most_module_octets}
use Rattle.notation_tokens.specs.Lexeme.{Lexeme, lexemes, same, begins, goes_on}
use Rattle.notation_tokens.specs.Words.{place, bool_of, is_value_name, is_kind_word, begins_lower, begins_upper}
use Rattle.operation_notation.specs.Reading.{◌>>=◌, after, give, Read, refuse_as, token_at, word_at, bool_at, all_at, behind}
use Rattle.operation_notation.specs.ReadingTypes.{starts_name}
use Rattle.operation_notation.specs.ReadingModules.{flag_at, flag_2_at, flag_or_at, passed_flag_at, use_at, maybe_use_at, names_at, named_list_at, priority_at, passed_priority_at, invoke_priority_at, local_at, global_at, code_value_at, code_at, maybe_code_at, signature_at, manner_at, operation_at, error_at, typed_at, opens_at, operation_body_at, error_body_at, body_at, valued_at, assignment_at, assignments_at, class_kind, imported_at, listed_imports_at, maybe_oid_at, imports_at, maybe_imports_at, tagging_at, heading_at, module_at, ended_at, whole_at}
use Rattle.notation_tokens.specs.Texts.{Answers, unless_stopped, too_long}
use Rattle.operation_notation.specs.Modules.{ReadsAsModule, module_of, verdict, refused}
use Rattle.notation_tokens.specs.Lexing.{lexed_of}
use Rattle.notation_tokens.specs.declared.token_cutting.Lexed.{Lexed}
use Rattle.notation_tokens.specs.declared.faults.NotationFault.{NotationFault}
use Rattle.notation_tokens.specs.declared.faults.NotationKind.{NotationKind}
use Rattle.operation_notation.specs.Grammar.{One, Then, Nothing, Either, Where, Maybe, Many, The, Behind, Listed}
use Rattle.operation_notation.specs.GrammarTypes.{OidSpelled, Extent, narrow}
use Rattle.operation_notation.specs.GrammarModules.{Flag, FlagOr, Use, Names, NamedList, Priority, Local, Global, Code, SignatureSpelled, Manner, Operation, Error, Typed, Opens, OperationBody, ErrorBody, Valued, Assign, name_of, Imported, Imports, Tagging, HeadingSpelled, Module}
use Rattle.notation_tokens.specs.declared.token.Place.{Place}
use Rattle.operation_notation.specs.declared.module.ModuleText.{ModuleText}
use Rattle.operation_notation.specs.declared.module.Assignment.{Assignment}
use Rattle.operation_notation.proofs.Means.{Law, never, law_then, law_one, law_word, law_nothing, law_choice, Loops, law_all, after_ok, ok_is}
use Rattle.operation_notation.proofs.Starts.{Headed, Starts, headed_append, headed_takes, starts_then, starts_one, starts_either, among, Excludes, excludes_among, excludes_type_name, excludes_value_name, excludes_or, type_named, value_named, type_name_parts, no_value_name, no_type_name, begins_any, headed_any, headed_is, fewer, fewer_one, starts_the, starts_word, or_false}
use Rattle.operation_notation.proofs.Chains.{next, map_law, law_weaken, law_any, law_behind, starts_behind, MayStart, may_starts, may_then, may_nothing, may_maybe, may_either, behind_may, behind_starts, behind_word, same_excludes, pick, pick_may, maybe_word, law_listed, weaker_headed, or_left, or_right}
use Rattle.operation_notation.proofs.TypeLaws.{law_int, law_type_name, law_value_name, law_number_64, starts_value_name, starts_type_name, type_stops, part_stops, law_outer_type}
use Rattle.operation_notation.proofs.OidLaws.{law_oid, law_same}

law_bool : Law (One bool_of) bool_at never
unfolding bool_at
law_bool = law_one bool_of

law_flag : (w : List ℕ) → Law (Flag w) (flag_at w) never
unfolding flag_at
law_flag w = law_behind w law_bool

law_flag_2 : (w n : List ℕ) → Law (Behind w (Flag n)) (flag_2_at w n) never
unfolding flag_2_at
law_flag_2 w n = law_behind w (law_behind n law_bool)

-- a word is in a list of itself
abbrev itself : List ℕ → Type 0
itself w = list_any (bytes_eq w) (w ∷ []) ≡ true

law_flag_or : (w n : List ℕ) → itself w → Law (FlagOr w n) (flag_or_at w n) (begins_any (w ∷ []))
unfolding flag_or_at
law_flag_or w n e = map_law _ (maybe_word (begins_any (w ∷ [])) w (law_flag_2 w n) (starts_behind w _) (fewer_one w (w ∷ []) e) (λ rest st. refl))

law_passed_flag : (w : List ℕ) → itself w → Law (Maybe (Flag w)) (passed_flag_at w) (begins_any (w ∷ []))
unfolding passed_flag_at
law_passed_flag w e = maybe_word (begins_any (w ∷ [])) w (law_flag w) (starts_behind w _) (fewer_one w (w ∷ []) e) (λ rest st. refl)

law_use : (ext : Extent) (w : List ℕ) → Law (Use ext w) (use_at ext w) (begins_any part_stops)
unfolding use_at
law_use ext w = next (law_word w) (λ at. behind_may type_stops part_stops (among (codes "OPTIONAL" ∷ [])) (law_outer_type ext)
    (λ of. map_law _ (maybe_word (begins_any part_stops) (codes "OPTIONAL") (law_flag (codes "OPTIONAL")) (starts_behind (codes "OPTIONAL") _) (fewer_one (codes "OPTIONAL") part_stops refl) (λ rest st. refl)))
    (λ of. may_then (may_maybe (starts_then _ _ _ (starts_word (codes "OPTIONAL") (codes "OPTIONAL" ∷ []) refl))) (λ o. may_nothing _ _))
    (excludes_among (codes "OPTIONAL" ∷ []) type_stops refl) refl)

law_maybe_use : (ext : Extent) (w : List ℕ) → list_any (bytes_eq w) (w ∷ part_stops) ≡ true → list_all (λ v. list_any (bytes_eq v) (w ∷ part_stops)) part_stops ≡ true → Law (Maybe (Use ext w)) (maybe_use_at ext w) (begins_any (w ∷ part_stops))
unfolding maybe_use_at
law_maybe_use ext w e l = maybe_word (begins_any (w ∷ part_stops)) w (law_use ext w) (starts_then _ _ _ (starts_the w)) (fewer_one w (w ∷ part_stops) e) (fewer part_stops (w ∷ part_stops) l)

law_names : Law Names names_at never
unfolding names_at
law_names = next (law_word (codes "{")) (λ _. behind_word (codes "|" ∷ []) (codes "}") (law_listed [] (codes "|" ∷ []) (codes "|") (law_any [] law_value_name) refl refl refl) (λ names _. law_nothing names never) refl)

law_named_list : (w : List ℕ) → itself w → Law (NamedList w) (named_list_at w) (begins_any (w ∷ []))
unfolding named_list_at
law_named_list w e = pick_may (begins_any (w ∷ [])) w (among []) (law_behind w law_names) (law_nothing [] (begins_any (w ∷ []))) (starts_behind w _) (may_nothing [] (among []))
    (excludes_among [] (w ∷ []) refl) (fewer_one w (w ∷ []) e) (λ rest st. refl) (λ rest st. st)

law_priority : Law Priority priority_at never
unfolding priority_at
law_priority = next (law_word (codes "{")) (λ _. next law_number_64 (λ n. law_word (codes "}")))

law_passed_priority : (w : List ℕ) → itself w → Law (Maybe (Behind w Priority)) (passed_priority_at w) (begins_any (w ∷ []))
unfolding passed_priority_at
law_passed_priority w e = maybe_word (begins_any (w ∷ [])) w (law_behind w law_priority) (starts_behind w _) (fewer_one w (w ∷ []) e) (λ rest st. refl)

law_invoke_priority : Law (Maybe (Behind (codes "INVOKE") (Behind (codes "PRIORITY") Priority))) invoke_priority_at (begins_any (codes "INVOKE" ∷ []))
unfolding invoke_priority_at
law_invoke_priority = maybe_word (begins_any (codes "INVOKE" ∷ [])) (codes "INVOKE") (law_behind (codes "INVOKE") (law_behind (codes "PRIORITY") law_priority)) (starts_behind (codes "INVOKE") _) (fewer_one (codes "INVOKE") (codes "INVOKE" ∷ []) refl) (λ rest st. refl)

law_local : Law Local local_at never
unfolding local_at
law_local = next (law_word (codes "local")) (λ at. next (law_word (codes ":")) (λ _. next law_int (λ n. law_nothing _ never)))

law_global : Law Global global_at never
unfolding global_at
law_global = next (law_word (codes "global")) (λ at. next (law_word (codes ":")) (λ _. next law_oid (λ o. law_nothing _ never)))

law_code_value : Law (Either Local Global) code_value_at never
unfolding code_value_at
law_code_value = pick never (codes "local") (λ t. same t.text (codes "global")) law_local law_global (starts_then _ _ _ (starts_the (codes "local"))) (starts_then _ _ _ (starts_the (codes "global")))
    (same_excludes (codes "global") (codes "local" ∷ []) refl) (λ rest st. refl) (λ rest st. refl)

law_code : Law Code code_at never
unfolding code_at
law_code = law_behind (codes "CODE") law_code_value

law_maybe_code : Law (Maybe Code) maybe_code_at (begins_any (codes "CODE" ∷ []))
unfolding maybe_code_at
law_maybe_code = maybe_word (begins_any (codes "CODE" ∷ [])) (codes "CODE") law_code (starts_behind (codes "CODE") _) (fewer_one (codes "CODE") (codes "CODE" ∷ []) refl) (λ rest st. refl)

-- ---- bodies: what each part begins with, and with what it may go on

abbrev returns_words : List (List ℕ)
returns_words = codes "RETURN" ∷ []

abbrev result_words : List (List ℕ)
result_words = codes "RESULT" ∷ returns_words

abbrev signature_stops : List (List ℕ)
signature_stops = codes "ARGUMENT" ∷ codes "RESULT" ∷ codes "RETURN" ∷ part_stops

may_flag_or : (w n : List ℕ) (ws : List (List ℕ)) → list_any (bytes_eq w) ws ≡ true → MayStart (FlagOr w n) (among ws)
may_flag_or w n ws e = may_then (may_maybe (starts_then _ _ (among ws) (starts_word w ws e))) (λ o. may_nothing _ (among ws))

may_use : (ext : Extent) (w : List ℕ) (ws : List (List ℕ)) → list_any (bytes_eq w) ws ≡ true → MayStart (Maybe (Use ext w)) (among ws)
may_use ext w ws e = may_maybe (starts_then _ _ (among ws) (starts_word w ws e))

may_behind : {A : Type 0} (r : List Lexeme → A → Type 0) (w : List ℕ) (ws : List (List ℕ)) → list_any (bytes_eq w) ws ≡ true → MayStart (Maybe (Behind w r)) (among ws)
may_behind r w ws e = may_maybe (starts_then _ _ (among ws) (starts_word w ws e))

may_named_list : (w : List ℕ) (ws : List (List ℕ)) → list_any (bytes_eq w) ws ≡ true → MayStart (NamedList w) (among ws)
may_named_list w ws e = may_either (may_starts (starts_then _ _ (among ws) (starts_word w ws e))) (may_nothing [] (among ws))

law_signature : (ext : Extent) → Law (SignatureSpelled ext) (signature_at ext) (begins_any signature_stops)
unfolding signature_at
law_signature ext =
    behind_may (codes "ARGUMENT" ∷ part_stops) signature_stops (among result_words) (law_maybe_use ext (codes "ARGUMENT") refl refl)
    (λ argument. behind_may (codes "RESULT" ∷ part_stops) signature_stops (among returns_words) (law_maybe_use ext (codes "RESULT") refl refl)
    (λ result. map_law _ (law_weaken (begins_any signature_stops) (law_flag_or (codes "RETURN") (codes "RESULT") refl) (fewer (codes "RETURN" ∷ []) signature_stops refl)))
    (λ result. may_then (may_flag_or (codes "RETURN") (codes "RESULT") returns_words refl) (λ o. may_nothing _ _))
    (excludes_among returns_words (codes "RESULT" ∷ part_stops) refl) refl)
    (λ argument. may_then (may_use ext (codes "RESULT") result_words refl) (λ o. may_then (may_flag_or (codes "RETURN") (codes "RESULT") result_words refl) (λ p. may_nothing _ _)))
    (excludes_among result_words (codes "ARGUMENT" ∷ part_stops) refl) refl

abbrev manner_words : List (List ℕ)
manner_words = codes "SYNCHRONOUS" ∷ codes "IDEMPOTENT" ∷ codes "ALWAYS" ∷ codes "INVOKE" ∷ codes "RESULT-PRIORITY" ∷ []

abbrev manner_2 : List (List ℕ)
manner_2 = codes "IDEMPOTENT" ∷ codes "ALWAYS" ∷ codes "INVOKE" ∷ codes "RESULT-PRIORITY" ∷ []

abbrev manner_3 : List (List ℕ)
manner_3 = codes "ALWAYS" ∷ codes "INVOKE" ∷ codes "RESULT-PRIORITY" ∷ []

abbrev manner_4 : List (List ℕ)
manner_4 = codes "INVOKE" ∷ codes "RESULT-PRIORITY" ∷ []

abbrev manner_5 : List (List ℕ)
manner_5 = codes "RESULT-PRIORITY" ∷ []

may_manner_5 : (always : Bool) (ws : List (List ℕ)) → list_any (bytes_eq (codes "RESULT-PRIORITY")) ws ≡ true → MayStart (Then (Maybe (Behind (codes "RESULT-PRIORITY") Priority)) (λ _. Nothing always)) (among ws)
may_manner_5 always ws e = may_then (may_behind _ (codes "RESULT-PRIORITY") ws e) (λ o. may_nothing always (among ws))

pub law_manner : Law Manner manner_at (begins_any manner_words)
unfolding manner_at
law_manner =
    behind_may (codes "SYNCHRONOUS" ∷ []) manner_words (among manner_2) (law_passed_flag (codes "SYNCHRONOUS") refl)
    (λ _. behind_may (codes "IDEMPOTENT" ∷ []) manner_words (among manner_3) (law_passed_flag (codes "IDEMPOTENT") refl)
    (λ _. behind_may (codes "ALWAYS" ∷ []) manner_words (among manner_4) (law_flag_or (codes "ALWAYS") (codes "RESPONDS") refl)
    (λ always. behind_may (codes "INVOKE" ∷ []) manner_words (among manner_5) law_invoke_priority
    (λ _. map_law _ (law_weaken (begins_any manner_words) (law_passed_priority (codes "RESULT-PRIORITY") refl) (fewer (codes "RESULT-PRIORITY" ∷ []) manner_words refl)))
    (λ _. may_manner_5 always manner_5 refl) (excludes_among manner_5 (codes "INVOKE" ∷ []) refl) refl)
    (λ always. may_then (may_behind _ (codes "INVOKE") manner_4 refl) (λ _. may_manner_5 always manner_4 refl)) (excludes_among manner_4 (codes "ALWAYS" ∷ []) refl) refl)
    (λ _. may_then (may_flag_or (codes "ALWAYS") (codes "RESPONDS") manner_3 refl) (λ always. may_then (may_behind _ (codes "INVOKE") manner_3 refl) (λ _. may_manner_5 always manner_3 refl))) (excludes_among manner_3 (codes "IDEMPOTENT" ∷ []) refl) refl)
    (λ _. may_then (may_behind _ (codes "IDEMPOTENT") manner_2 refl) (λ _. may_then (may_flag_or (codes "ALWAYS") (codes "RESPONDS") manner_2 refl) (λ always. may_then (may_behind _ (codes "INVOKE") manner_2 refl) (λ _. may_manner_5 always manner_2 refl)))) (excludes_among manner_2 (codes "SYNCHRONOUS" ∷ []) refl) refl

-- ---- whole bodies

abbrev code_words : List (List ℕ)
code_words = codes "CODE" ∷ []

abbrev manner_code : List (List ℕ)
manner_code = codes "CODE" ∷ manner_words

abbrev linked_words : List (List ℕ)
linked_words = codes "LINKED" ∷ manner_code

abbrev errors_words : List (List ℕ)
errors_words = codes "ERRORS" ∷ linked_words

abbrev operation_stops : List (List ℕ)
operation_stops = codes "ARGUMENT" ∷ codes "RESULT" ∷ codes "RETURN" ∷ codes "ERRORS" ∷ codes "LINKED" ∷ codes "SYNCHRONOUS" ∷ codes "IDEMPOTENT" ∷ codes "ALWAYS" ∷ codes "INVOKE" ∷ codes "RESULT-PRIORITY" ∷ codes "CODE" ∷ part_stops

may_code : (ws : List (List ℕ)) → list_any (bytes_eq (codes "CODE")) ws ≡ true → MayStart (Maybe Code) (among ws)
may_code ws e = may_behind _ (codes "CODE") ws e

abbrev all_in : List (List ℕ) → List (List ℕ) → Type 0
all_in vs ws = list_all (λ v. list_any (bytes_eq v) ws) vs ≡ true

may_flag : (w : List ℕ) (ws : List (List ℕ)) → list_any (bytes_eq w) ws ≡ true → MayStart (Maybe (Flag w)) (among ws)
may_flag w ws e = may_behind _ w ws e

may_manner : (ws : List (List ℕ)) → list_any (bytes_eq (codes "SYNCHRONOUS")) ws ≡ true → list_any (bytes_eq (codes "IDEMPOTENT")) ws ≡ true → list_any (bytes_eq (codes "ALWAYS")) ws ≡ true
    → list_any (bytes_eq (codes "INVOKE")) ws ≡ true → list_any (bytes_eq (codes "RESULT-PRIORITY")) ws ≡ true → MayStart Manner (among ws)
may_manner ws s i a v r = may_then (may_flag (codes "SYNCHRONOUS") ws s) (λ _. may_then (may_flag (codes "IDEMPOTENT") ws i) (λ _. may_then (may_flag_or (codes "ALWAYS") (codes "RESPONDS") ws a) (λ always. may_then (may_behind _ (codes "INVOKE") ws v) (λ _. may_manner_5 always ws r))))

law_operation : (ext : Extent) → Law (Operation ext) (operation_at ext) (begins_any operation_stops)
unfolding operation_at
law_operation ext =
    behind_may signature_stops operation_stops (among errors_words) (law_signature ext)
    (λ signature. behind_may (codes "ERRORS" ∷ []) operation_stops (among linked_words) (law_named_list (codes "ERRORS") refl)
    (λ errors. behind_may (codes "LINKED" ∷ []) operation_stops (among manner_code) (law_named_list (codes "LINKED") refl)
    (λ linked. behind_may manner_words operation_stops (among code_words) law_manner
    (λ always. map_law _ (law_weaken (begins_any operation_stops) law_maybe_code (fewer code_words operation_stops refl)))
    (λ always. may_then (may_code code_words refl) (λ code. may_nothing _ _)) (excludes_among code_words manner_words refl) refl)
    (λ linked. may_then (may_manner manner_code refl refl refl refl refl) (λ always. may_then (may_code manner_code refl) (λ code. may_nothing _ _))) (excludes_among manner_code (codes "LINKED" ∷ []) refl) refl)
    (λ errors. may_then (may_named_list (codes "LINKED") linked_words refl) (λ linked. may_then (may_manner linked_words refl refl refl refl refl) (λ always. may_then (may_code linked_words refl) (λ code. may_nothing _ _)))) (excludes_among linked_words (codes "ERRORS" ∷ []) refl) refl)
    (λ signature. may_then (may_named_list (codes "ERRORS") errors_words refl) (λ errors. may_then (may_named_list (codes "LINKED") errors_words refl) (λ linked. may_then (may_manner errors_words refl refl refl refl refl) (λ always. may_then (may_code errors_words refl) (λ code. may_nothing _ _)))))
    (excludes_among errors_words signature_stops refl) refl

abbrev error_stops : List (List ℕ)
error_stops = codes "PARAMETER" ∷ codes "PRIORITY" ∷ codes "CODE" ∷ part_stops

abbrev priority_words : List (List ℕ)
priority_words = codes "PRIORITY" ∷ codes "CODE" ∷ []

law_error : (ext : Extent) → Law (Error ext) (error_at ext) (begins_any error_stops)
unfolding error_at
law_error ext =
    behind_may (codes "PARAMETER" ∷ part_stops) error_stops (among priority_words) (law_maybe_use ext (codes "PARAMETER") refl refl)
    (λ parameter. behind_may (codes "PRIORITY" ∷ []) error_stops (among code_words) (law_passed_priority (codes "PRIORITY") refl)
    (λ _. map_law _ (law_weaken (begins_any error_stops) law_maybe_code (fewer code_words error_stops refl)))
    (λ _. may_then (may_code code_words refl) (λ code. may_nothing _ _)) (excludes_among code_words (codes "PRIORITY" ∷ []) refl) refl)
    (λ parameter. may_then (may_behind _ (codes "PRIORITY") priority_words refl) (λ _. may_then (may_code priority_words refl) (λ code. may_nothing _ _)))
    (excludes_among priority_words (codes "PARAMETER" ∷ part_stops) refl) refl

-- ---- assignments

law_opens : (w : List ℕ) → Law (Opens w) (opens_at w) never
unfolding opens_at
law_opens w = law_behind w (law_behind (codes "::=") (law_word (codes "{")))

law_operation_body : (ext : Extent) → Law (OperationBody ext) (operation_body_at ext) never
unfolding operation_body_at
law_operation_body ext = next (law_opens (codes "OPERATION")) (λ _. behind_word operation_stops (codes "}") (law_operation ext) (λ operation _. law_nothing _ never) refl)

law_error_body : (ext : Extent) → Law (ErrorBody ext) (error_body_at ext) never
unfolding error_body_at
law_error_body ext = next (law_opens (codes "ERROR")) (λ _. behind_word error_stops (codes "}") (law_error ext) (λ error _. law_nothing _ never) refl)

law_body : (ext : Extent) → Law (Either (OperationBody ext) (ErrorBody ext)) (body_at ext) never
unfolding body_at
law_body ext = pick never (codes "OPERATION") (λ t. same t.text (codes "ERROR")) (law_operation_body ext) (law_error_body ext)
    (starts_then _ _ _ (starts_behind (codes "OPERATION") _)) (starts_then _ _ _ (starts_behind (codes "ERROR") _)) (same_excludes (codes "ERROR") (codes "OPERATION" ∷ []) refl) (λ rest st. refl) (λ rest st. refl)

law_valued : (ext : Extent) → Law (Valued ext) (valued_at ext) never
unfolding valued_at
law_valued ext = next law_value_name (λ name. map_law _ (law_body ext))

law_typed : (ext : Extent) → Law (Typed ext) (typed_at ext) (begins_any type_stops)
unfolding typed_at
law_typed ext = next law_type_name (λ name. next (law_word (codes "::=")) (λ _. map_law _ (law_outer_type ext)))

upper_not_lower : (c : ℕ) → is_ascii_uppercase c ≡ true → is_ascii_lowercase c ≡ false
upper_not_lower c e = grind (arith, nat_tests)

text_not_lower : (text : List ℕ) → begins_upper text ≡ true → begins_lower text ≡ false
text_not_lower [] e = refl
text_not_lower (c ∷ cs) e = upper_not_lower c e

and_false : (b c : Bool) → c ≡ false → b && c ≡ false
and_false true c e = e
and_false false c e = refl

type_no_value : (t : Lexeme) → type_named t ≡ true → value_named t ≡ false
unfolding is_value_name
type_no_value t e = and_false (is_kind_word t.kind) (begins_lower t.text) (text_not_lower t.text (type_name_parts t.kind t.text e).0)

starts_valued : (ext : Extent) → Starts (Valued ext) value_named
starts_valued ext = starts_then _ _ value_named starts_value_name

starts_typed : (ext : Extent) → Starts (Typed ext) type_named
starts_typed ext = starts_then _ _ type_named starts_type_name

valued_name : (y rest : List Lexeme) → Headed value_named y → starts_name (y ++ rest) ≡ true
valued_name y rest h = ap (λ (z : List Lexeme). starts_name (z ++ rest)) h.is ∙ h.passes

typed_no_name : (y rest : List Lexeme) → Headed type_named y → starts_name (y ++ rest) ≡ false
typed_no_name y rest h = ap (λ (z : List Lexeme). starts_name (z ++ rest)) h.is ∙ type_no_value h.token h.passes

pub law_assign : (ext : Extent) → Law (Assign ext) (assignment_at ext) (begins_any type_stops)
unfolding assignment_at
law_assign ext = law_choice starts_name _ _ _ _ never (begins_any type_stops) (begins_any type_stops) (law_valued ext) (law_typed ext)
    (record { tells = λ text a rest d st. valued_name text rest (starts_valued ext text a d); own_stops = λ rest st. refl })
    (record { tells = λ text a rest d st. typed_no_name text rest (starts_typed ext text a d); own_stops = λ rest st. st })

abbrev pub assigned : Lexeme → Bool
assigned t = value_named t || type_named t

pub starts_assign : (ext : Extent) → Starts (Assign ext) assigned
starts_assign ext = starts_either _ _ assigned (λ text a d. weaker_headed value_named assigned text (λ t e. or_left _ (type_named t) e) (starts_valued ext text a d))
    (λ text a d. weaker_headed type_named assigned text (λ t e. or_right (value_named t) _ e) (starts_typed ext text a d))

excludes_assigned : (ws : List (List ℕ)) → list_all no_value_name ws ≡ true → list_all no_type_name ws ≡ true → Excludes assigned ws
excludes_assigned ws v n = excludes_or value_named type_named ws (excludes_value_name ws v) (excludes_type_name ws n)

abbrev ending : List Lexeme → Bool
ending rest = goes_on (codes "END") rest

goes_on_headed : (w : List ℕ) (y rest : List Lexeme) (p : Lexeme → Bool) → Headed p y → Excludes p (w ∷ []) → goes_on w (y ++ rest) ≡ true
goes_on_headed w y rest p h x = ap (λ (z : List Lexeme). goes_on w (z ++ rest)) h.is ∙ ap not (sym (or_false (same h.token.text w)) ∙ x h.token h.passes)

goes_on_closed : (w : List ℕ) (y rest : List Lexeme) → Headed (λ t. same t.text w) y → goes_on w (y ++ rest) ≡ false
goes_on_closed w y rest h = ap (λ (z : List Lexeme). goes_on w (z ++ rest)) h.is ∙ ap not h.passes

ending_stops : (rest : List Lexeme) → ending rest ≡ false → begins_any type_stops rest ≡ false
ending_stops [] st = refl
ending_stops (t ∷ ts) st = same_excludes (codes "END") type_stops refl t (not-false (same t.text (codes "END")) st)

assign_loops : (ext : Extent) → Loops ending (Assign ext) (begins_any type_stops) ending
assign_loops ext = record {
  goes = λ text a rest d. goes_on_headed (codes "END") text rest assigned (starts_assign ext text a d) (excludes_assigned (codes "END" ∷ []) refl refl);
  takes = λ text a d. headed_takes assigned text (starts_assign ext text a d);
  ends = λ rest st. st;
  last = ending_stops;
  next = λ text a rest d. headed_any assigned type_stops text rest (starts_assign ext text a d) (excludes_assigned type_stops refl refl);
}

law_assignments : (ext : Extent) → Law (Many (Assign ext)) (assignments_at ext) ending
unfolding assignments_at
law_assignments ext = law_all ending (Assign ext) (assignment_at ext) (begins_any type_stops) ending (law_assign ext) (assign_loops ext)

-- ---- imports

law_other : (wide : Bool) → Law (Where wide (One name_of)) (λ ts. if wide then token_at name_of ts else refuse_as (class_kind ts) ts) never
law_other true = law_one name_of
law_other false = record { found = λ ts a rest e. absurd cc; only = λ text a rest d st. absurd d }

pub name_is : (t : Lexeme) (a : Place) → name_of t ≡ Some a → type_named t || value_named t ≡ true
name_is t a e = go (type_named t || value_named t) refl e
  where
    go : (b : Bool) → type_named t || value_named t ≡ b → (if b then Some (place t) else None) ≡ Some a → b ≡ true
    go true is h = refl
    go false is h = absurd cc

starts_other : (wide : Bool) → Starts (Where wide (One name_of)) (λ t. type_named t || value_named t)
starts_other true = starts_one name_of (λ t. type_named t || value_named t) name_is
starts_other false = λ text a d. absurd d

abbrev other_class : Lexeme → Bool
other_class t = same t.text (codes "ERROR") || (type_named t || value_named t)

starts_other_class : (wide : Bool) → Starts (Either (The (codes "ERROR")) (Where wide (One name_of))) other_class
starts_other_class wide = starts_either _ _ other_class (λ text a d. weaker_headed (λ t. same t.text (codes "ERROR")) other_class text (λ t e. or_left _ (type_named t || value_named t) e) (starts_the (codes "ERROR") text a d))
    (λ text a d. weaker_headed (λ t. type_named t || value_named t) other_class text (λ t e. or_right (same t.text (codes "ERROR")) _ e) (starts_other wide text a d))

pub excludes_named : (ws : List (List ℕ)) → list_all no_value_name ws ≡ true → list_all no_type_name ws ≡ true → Excludes (λ t. type_named t || value_named t) ws
excludes_named ws v n = excludes_or type_named value_named ws (excludes_type_name ws n) (excludes_value_name ws v)

law_imported : (ext : Extent) → Law (Imported ext) (imported_at ext) never
unfolding imported_at
law_imported ext =
    pick never (codes "OPERATION") other_class (law_word (codes "OPERATION"))
    (pick never (codes "ERROR") (λ t. type_named t || value_named t) (law_word (codes "ERROR")) (law_other ext.wide) (starts_the (codes "ERROR")) (starts_other ext.wide)
    (excludes_named (codes "ERROR" ∷ []) refl refl) (λ rest st. refl) (λ rest st. refl))
    (starts_the (codes "OPERATION")) (starts_other_class ext.wide)
    (excludes_or (λ t. same t.text (codes "ERROR")) (λ t. type_named t || value_named t) (codes "OPERATION" ∷ []) (same_excludes (codes "ERROR") (codes "OPERATION" ∷ []) refl) (excludes_named (codes "OPERATION" ∷ []) refl refl))
    (λ rest st. refl) (λ rest st. refl)

abbrev comma : List (List ℕ)
comma = codes "," ∷ []

abbrev pub FirstImported : (ext : Extent) → List Lexeme → Place → Type 0
FirstImported ext = Then (Imported ext) (λ first. Then (Many (Behind (codes ",") (Imported ext))) (λ _. Nothing first))

law_more_imports : (ext : Extent) → Law (Many (Behind (codes ",") (Imported ext))) (all_at (begins (codes ",")) (behind (codes ",") (imported_at ext))) (begins_any comma)
law_more_imports ext = law_all (begins (codes ",")) _ _ never (begins_any comma) (law_behind (codes ",") (law_imported ext)) (record {
  goes = λ text a rest d. headed_is (codes ",") text rest (starts_behind (codes ",") (Imported ext) text a d);
  takes = λ text a d. headed_takes (λ t. same t.text (codes ",")) text (starts_behind (codes ",") (Imported ext) text a d);
  ends = fewer_one (codes ",") comma refl;
  last = λ rest st. refl;
  next = λ text a rest d. refl;
})

pub law_listed_imports : (ext : Extent) → Law (FirstImported ext) (listed_imports_at ext) (begins_any comma)
unfolding listed_imports_at
law_listed_imports ext = next (law_imported ext) (λ first. map_law (λ _. first) (law_more_imports ext))

-- the same tokens in front of what doesn't ask for the value
pub fore_to : (ext : Extent) {B : Type 0} (G : List Lexeme → B → Type 0) (ts : List Lexeme) (b : B) → Then (FirstImported ext) (λ _. G) ts b → Then (Listed (codes ",") (Imported ext)) (λ _. G) ts b
fore_to ext G ts b d =
    let e = d.first in
    record {
      front = d.front;
      back = d.back;
      value = e.value ∷ e.second.value;
      whole = d.whole;
      second = d.second;
      first = record {
        front = e.front;
        back = e.back;
        value = e.value;
        whole = e.whole;
        first = e.first;
        second = record { front = e.second.front; back = e.second.back; value = e.second.value; whole = e.second.whole; first = e.second.first; second = record { none = e.second.second.none; same_value = refl } };
      };
    }

fore_from : (ext : Extent) {B : Type 0} (G : List Lexeme → B → Type 0) (ts : List Lexeme) (b : B) → Then (Listed (codes ",") (Imported ext)) (λ _. G) ts b → Then (FirstImported ext) (λ _. G) ts b
fore_from ext G ts b d =
    let e = d.first in
    record {
      front = d.front;
      back = d.back;
      value = e.value;
      whole = d.whole;
      second = d.second;
      first = record {
        front = e.front;
        back = e.back;
        value = e.value;
        whole = e.whole;
        first = e.first;
        second = record { front = e.second.front; back = e.second.back; value = e.second.value; whole = e.second.whole; first = e.second.first; second = record { none = e.second.second.none; same_value = refl } };
      };
    }

law_fore : (ext : Extent) {B : Type 0} {G : List Lexeme → B → Type 0} {f : List Lexeme → Read B} {u : List Lexeme → Bool} → Law (Then (FirstImported ext) (λ _. G)) f u → Law (Then (Listed (codes ",") (Imported ext)) (λ _. G)) f u
law_fore ext {G = G} law = law_same law (fore_to ext G) (fore_from ext G)

starts_oid : Starts OidSpelled (λ t. same t.text (codes "{"))
starts_oid text a d = starts_then _ _ (λ t. same t.text (codes "{")) (starts_the (codes "{")) text a d.spelled

law_maybe_oid : Law (Maybe OidSpelled) maybe_oid_at (begins_any (codes "{" ∷ []))
unfolding maybe_oid_at
law_maybe_oid = maybe_word (begins_any (codes "{" ∷ [])) (codes "{") law_oid starts_oid (fewer_one (codes "{") (codes "{" ∷ []) refl) (λ rest st. refl)

law_imports : (ext : Extent) → Law (Imports ext) (imports_at ext) never
unfolding imports_at
law_imports ext = next (law_word (codes "IMPORTS")) (λ _. law_fore ext (behind_word comma (codes "FROM") (law_listed_imports ext) (λ first _. next law_type_name (λ name.
    behind_starts (codes "{" ∷ []) (λ t. same t.text (codes ";")) law_maybe_oid (λ o. law_word (codes ";")) (λ o. starts_the (codes ";")) (same_excludes (codes ";") (codes "{" ∷ []) refl))) refl))

law_maybe_imports : (ext : Extent) → Law (Maybe (Imports ext)) (maybe_imports_at ext) (begins_any (codes "IMPORTS" ∷ []))
unfolding maybe_imports_at
law_maybe_imports ext = maybe_word (begins_any (codes "IMPORTS" ∷ [])) (codes "IMPORTS") (law_imports ext) (starts_then _ _ _ (starts_the (codes "IMPORTS"))) (fewer_one (codes "IMPORTS") (codes "IMPORTS" ∷ []) refl) (λ rest st. refl)

-- ---- modules

abbrev taggings : List (List ℕ)
taggings = codes "EXPLICIT" ∷ codes "IMPLICIT" ∷ []

law_tags : (w : List ℕ) (b : Bool) → Law (Then (Behind w (The (codes "TAGS"))) (λ _. Nothing b)) (behind w (word_at (codes "TAGS")) >>= λ _. give b) never
law_tags w b = next (law_behind w (law_word (codes "TAGS"))) (λ _. law_nothing b never)

law_tagging : Law Tagging tagging_at (begins_any taggings)
unfolding tagging_at
law_tagging =
    pick_may (begins_any taggings) (codes "EXPLICIT") (among (codes "IMPLICIT" ∷ [])) (law_tags (codes "EXPLICIT") false)
    (pick_may (begins_any taggings) (codes "IMPLICIT") (among []) (law_tags (codes "IMPLICIT") true) (law_nothing false (begins_any taggings)) (starts_then _ _ _ (starts_behind (codes "IMPLICIT") _)) (may_nothing false (among []))
    (excludes_among [] (codes "IMPLICIT" ∷ []) refl) (fewer_one (codes "IMPLICIT") taggings refl) (λ rest st. refl) (λ rest st. st))
    (starts_then _ _ _ (starts_behind (codes "EXPLICIT") _))
    (may_either (may_starts (starts_then _ _ _ (starts_then _ _ (among (codes "IMPLICIT" ∷ [])) (starts_word (codes "IMPLICIT") (codes "IMPLICIT" ∷ []) refl)))) (may_nothing false (among (codes "IMPLICIT" ∷ []))))
    (excludes_among (codes "IMPLICIT" ∷ []) (codes "EXPLICIT" ∷ []) refl) (fewer_one (codes "EXPLICIT") taggings refl) (λ rest st. refl) (λ rest st. st)

law_heading : Law HeadingSpelled heading_at never
unfolding heading_at
law_heading = next law_type_name (λ name. next law_oid (λ oid. next (law_word (codes "DEFINITIONS")) (λ _. behind_word taggings (codes "::=") law_tagging (λ implicit _. law_nothing _ never) refl)))

-- assignments, or none, and the end
abbrev tail_heads : Lexeme → Bool
tail_heads t = assigned t || same t.text (codes "END")

tail_headed : (ext : Extent) {B : Type 0} (g : List Assignment → Place → List Lexeme → B → Type 0) (l : List Assignment) (front back : List Lexeme) (b : B) → Many (Assign ext) front l → Then (The (codes "END")) (g l) back b → Headed tail_heads (front ++ back)
tail_headed ext g [] front back b d e = subst (λ (z : List Lexeme). Headed tail_heads (z ++ back)) (sym d)
    (weaker_headed (λ t. same t.text (codes "END")) tail_heads back (λ t h. or_right (assigned t) _ h) (starts_then _ _ (λ t. same t.text (codes "END")) (starts_the (codes "END")) back b e))
tail_headed ext g (a ∷ l) front back b d e = headed_append tail_heads front back
    (weaker_headed assigned tail_heads front (λ t h. or_left _ (same t.text (codes "END")) h) (subst (Headed assigned) (sym d.whole) (headed_append assigned d.front d.back (starts_assign ext d.front a d.first))))

starts_tail : (ext : Extent) {B : Type 0} (g : List Assignment → Place → List Lexeme → B → Type 0) → Starts (Then (Many (Assign ext)) (λ l. Then (The (codes "END")) (g l))) tail_heads
starts_tail ext g text b d = subst (Headed tail_heads) (sym d.whole) (tail_headed ext g d.value d.front d.back b d.first d.second)

excludes_tail : Excludes tail_heads (codes "IMPORTS" ∷ [])
excludes_tail = excludes_or assigned (λ t. same t.text (codes "END")) (codes "IMPORTS" ∷ []) (excludes_assigned (codes "IMPORTS" ∷ []) refl refl) (same_excludes (codes "END") (codes "IMPORTS" ∷ []) refl)

pub law_module : (ext : Extent) → Law (Module ext) (module_at ext) never
unfolding module_at
law_module ext = next law_heading (λ heading. next (law_word (codes "BEGIN")) (λ _. behind_starts (codes "IMPORTS" ∷ []) tail_heads (law_maybe_imports ext)
    (λ imports. law_then _ _ ending _ _ never (law_assignments ext) (λ assignments. next (law_word (codes "END")) (λ _. law_nothing _ never))
    (λ assignments b y rest d st. goes_on_closed (codes "END") y rest (starts_then _ _ _ (starts_the (codes "END")) y b d)))
    (λ imports. starts_tail ext _) excludes_tail))

-- ---- whole texts

ended_is : (found : ModuleText) (ts : List Lexeme) (a : ModuleText) (rest : List Lexeme) → ended_at found ts ≡ Ok (a, rest) → (ts ≡ []) × (found ≡ a)
ended_is found [] a rest e = (refl, ap (λ (z : ModuleText × List Lexeme). z.0) (ok_is (found, []) (a, rest) e))
ended_is found (t ∷ ts) a rest e = absurd cc

-- what is read is spelled so, to the last token
pub whole_found : (ext : Extent) (ts : List Lexeme) (a : ModuleText) (rest : List Lexeme) → whole_at ext ts ≡ Ok (a, rest) → Module ext ts a
unfolding whole_at
whole_found ext ts a rest e =
    let p = after_ok (module_at ext ts) ended_at a rest e in
    let x = (law_module ext).found ts p.value p.mid p.is in
    let q = ended_is p.value p.mid a rest p.behind in
    let all : ts ≡ x.text = x.parts ∙ ap (λ (z : List Lexeme). x.text ++ z) q.0 ∙ append-nil x.text in
    subst (λ (z : List Lexeme). (Module ext) z a) (sym all) (subst (λ (m : ModuleText). (Module ext) x.text m) q.1 x.spelled)

-- what is spelled so is read
pub whole_only : (ext : Extent) (ts : List Lexeme) (a : ModuleText) → Module ext ts a → whole_at ext ts ≡ Ok (a, [])
unfolding whole_at
whole_only ext ts a d = ap (λ (x : Read ModuleText). after x ended_at) (ap (module_at ext) (sym (append-nil ts)) ∙ (law_module ext).only ts a [] d refl)

-- no tokens spell two modules
pub one_module : (ext : Extent) (ts : List Lexeme) (a b : ModuleText) → Module ext ts a → Module ext ts b → a ≡ b
one_module ext ts a b d e = ap (λ (z : ModuleText × List Lexeme). z.0) (ok_is (a, []) (b, []) (sym (whole_only ext ts a d) ∙ whole_only ext ts b e))

-- ---- texts

-- what a text is read as is what it reads as
record ReadAs (l : Lexed) (r : Read ModuleText) (a : ModuleText) : Type 0 where
  rest : List Lexeme
  stop : l.stop ≡ None
  is : r ≡ Ok (a, rest)

unstopped : (o : Option NotationKind) (p : Place) (x a : ModuleText) → unless_stopped o p x ≡ Ok a → (o ≡ None) × (x ≡ a)
unstopped None p x a h = (refl, cc)
unstopped (Some kind) p x a h = absurd cc

no_refusal : (l : Lexed) (rest : List Lexeme) (kind : NotationKind) (a : ModuleText) → refused l rest kind ≡ Ok a → ⊥
no_refusal l [] kind a h = absurd cc
no_refusal l (t ∷ ts) kind a h = absurd cc

verdict_found : (l : Lexed) (r : Read ModuleText) (a : ModuleText) → verdict l r ≡ Ok a → ReadAs l r a
verdict_found l (Ok x) a e =
    let p = unstopped l.stop l.place x.0 a e in
    record { rest = x.1; stop = p.0; is = ap (λ (m : ModuleText). Ok (m, x.1)) p.1 }
verdict_found l (Err d) a e = absurd (no_refusal l d.rest d.kind a e)

pub reads_found : (text : List ℕ) (a : ModuleText) → module_of text ≡ Ok a → ReadsAsModule text a
unfolding module_of
reads_found text a e = go (nat_lt most_module_octets (length text)) refl e
  where
    go : (b : Bool) → nat_lt most_module_octets (length text) ≡ b → (if b then too_long else verdict (lexed_of text) (whole_at narrow (lexemes text (lexed_of text).tokens))) ≡ Ok a → ReadsAsModule text a
    go true is h = absurd cc
    go false is h =
        let p = verdict_found (lexed_of text) (whole_at narrow (lexemes text (lexed_of text).tokens)) a h in
        record { fits = ltb-false _ _ is; ends = p.stop; spelled = whole_found narrow (lexemes text (lexed_of text).tokens) a p.rest p.is }

-- what a text reads as is what it is read as
pub reads_only : (text : List ℕ) (a : ModuleText) → ReadsAsModule text a → module_of text ≡ Ok a
unfolding module_of
reads_only text a d =
    let fits : nat_lt most_module_octets (length text) ≡ false = le-ltb _ _ d.fits in
    let read : (whole_at narrow) (lexemes text (lexed_of text).tokens) ≡ Ok (a, []) = whole_only narrow (lexemes text (lexed_of text).tokens) a d.spelled in
    rw (fits, read, d.ends) refl

pub one_reading : (text : List ℕ) (a b : ModuleText) → ReadsAsModule text a → ReadsAsModule text b → a ≡ b
one_reading text a b d e = one_module narrow (lexemes text (lexed_of text).tokens) a b d.spelled e.spelled

-- ---- what a function answers

pub answer_found : (text : List ℕ) (r : Result ModuleText NotationFault) → Answers r (module_of text) → IfOk r (λ m. ReadsAsModule text m)
answer_found text (Ok m) h = reads_found text m h
answer_found text (Err e) h = tt

pub answer_only : (text : List ℕ) (r : Result ModuleText NotationFault) → Answers r (module_of text) → (m : ModuleText) → ReadsAsModule text m → Answers r (Ok m)
answer_only text r h m d = subst (λ (x : Result ModuleText NotationFault). Answers r x) (reads_only text m d) h
