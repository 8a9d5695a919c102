-- Reading object identifiers against their grammar.
use Rattle.std.proofs.Common.{codes, ◌≡◌, ℕ, ◌≤◌, Bool, true, false, List, [], ◌∷◌, ◌++◌, length, Option, Some, None, Ok, refl, sym, ap, subst, ◌∙◌, append_assoc, arith, inl, inr}
use Rattle.std.specs.Prelude.{◌||◌, ◌&&◌, ◌==◌, not, is_some, nat_lt, nat_le, if◌then◌else◌}
use Rattle.std.specs.List.{list_all}
use Rattle.std.specs.Char.{is_ascii_digit, is_ascii_lowercase}
use Rattle.std.specs.Str.Parse.{digits_value}
use Rattle.std.proofs.lemmas.Bool.{not-true, leb-true, le-leb, false≢true, and_parts}
use Rattle.std.proofs.lemmas.Bool.Decides.{nat_tests}
use Rattle.osi_base.specs.Oid.{IsOid}
use Rattle.osi_base.specs.Limits.{most_32}
use Rattle.notation_tokens.specs.Lexeme.{Lexeme, same, goes_on}
use Rattle.notation_tokens.specs.Words.{number, number_of, is_decimal, is_value_name, is_kind_word, begins_lower, arc_name_of, root_name, place}
use Rattle.operation_notation.specs.Reading.{Read, number_at, many_at}
use Rattle.operation_notation.specs.ReadingTypes.{starts_name, arc_name_at, bracketed_at, arc_at, alone_at, named_root_at, root_at, most_second, oid_at}
use Rattle.operation_notation.specs.Grammar.{One, Then, Nothing, Either, Many, The}
use Rattle.operation_notation.specs.GrammarTypes.{root_of, Arc, Root, OidSpelled}
use Rattle.notation_tokens.specs.declared.token.Place.{Place}
use Rattle.notation_tokens.proofs.Numbers.{joined}
use Rattle.operation_notation.proofs.Means.{Front, Law, never, law_then, law_one, law_word, law_nothing, law_choice, Loops, many_found, many_only, many_count}
use Rattle.operation_notation.proofs.Starts.{Headed, Starts, headed_takes, starts_then, starts_one, Excludes, excludes_value_name, excludes_among, excludes_or, no_value_name, or_false, value_named, begins_any, starts_the, among, fewer_one}
use Rattle.operation_notation.proofs.Chains.{next, behind_starts, pick_may, excludes_text, or_left, or_right}
use Rattle.operation_notation.proofs.TypeLaws.{law_number}

-- ---- numbers up to a bound

number_step : (most : ℕ) (text : List ℕ) (n : ℕ) (b c : Bool) → (if b && c then Some (digits_value 10 text) else None) ≡ Some n → (b ≡ true) × (c ≡ true) × (digits_value 10 text ≡ n)
number_step most text n true true e = (refl, refl, cc)
number_step most text n true false e = absurd cc
number_step most text n false c e = absurd cc

-- what a number is: decimal, of that value, and within the bound
pub number_is : (most : ℕ) (text : List ℕ) (n : ℕ) → number most text ≡ Some n → (is_decimal text ≡ true) × (n ≤ most) × (digits_value 10 text ≡ n)
unfolding number
number_is most text n e =
    let p = number_step most text n (is_decimal text) (nat_le (digits_value 10 text) most) e in
    (p.0, subst (λ (k : ℕ). k ≤ most) p.2 (leb-true _ _ p.1), p.2)

number_at_most : (most more : ℕ) (text : List ℕ) (n : ℕ) → number most text ≡ Some n → n ≤ more → number more text ≡ Some n
unfolding number
number_at_most most more text n e le =
    let p = number_is most text n e in
    let fits : nat_le (digits_value 10 text) more ≡ true = le-leb _ _ (subst (λ (k : ℕ). k ≤ more) (sym p.2) le) in
    rw (p.0, fits) (ap Some p.2)

digit_not_lower : (d : ℕ) → is_ascii_digit d ≡ true → is_ascii_lowercase d ≡ false
digit_not_lower d e = grind (arith, nat_tests)

decimal_not_lower : (text : List ℕ) → is_decimal text ≡ true → begins_lower text ≡ false
decimal_not_lower [] e = refl
decimal_not_lower (d ∷ []) e = digit_not_lower d e
decimal_not_lower (d ∷ c ∷ ds) e = digit_not_lower d (and_parts (is_ascii_digit d) (not (d == 48)) (and_parts (is_ascii_digit d && not (d == 48)) (list_all is_ascii_digit (c ∷ ds)) e).0).0

and_false : (b c : Bool) → c ≡ false → b && c ≡ false
and_false true c e = e
and_false false c e = refl

number_no_name : (most : ℕ) (t : Lexeme) (n : ℕ) → number_of most t ≡ Some n → is_value_name t.kind t.text ≡ false
unfolding is_value_name
number_no_name most t n e = and_false (is_kind_word t.kind) (begins_lower t.text) (decimal_not_lower t.text (number_is most t.text n e).0)

-- ---- arcs up to a bound

abbrev pub Bracketed : ℕ → List Lexeme → ℕ → Type 0
Bracketed most = Then (The (codes "(")) (λ _. Then (One (number_of most)) (λ arc. Then (The (codes ")")) (λ _. Nothing arc)))

abbrev pub NamedUpTo : ℕ → List Lexeme → ℕ → Type 0
NamedUpTo most = Then (One arc_name_of) (λ _. Bracketed most)

abbrev pub ArcUpTo : ℕ → List Lexeme → ℕ → Type 0
ArcUpTo most = Either (One (number_of most)) (NamedUpTo most)

law_bracketed : (most : ℕ) → Law (Bracketed most) (bracketed_at most) never
unfolding bracketed_at
law_bracketed most = next (law_word (codes "(")) (λ _. next (law_number most) (λ arc. next (law_word (codes ")")) (λ _. law_nothing arc never)))

law_arc_name : Law (One arc_name_of) arc_name_at never
unfolding arc_name_at
law_arc_name = law_one arc_name_of

arc_name_is : (t : Lexeme) (a : Place) → arc_name_of t ≡ Some a → value_named t ≡ true
unfolding arc_name_of
arc_name_is t a e = go (value_named t) refl e
  where
    go : (b : Bool) → value_named t ≡ b → (if b then Some (place t) else None) ≡ Some a → b ≡ true
    go true is h = refl
    go false is h = absurd cc

abbrev unnamed : Lexeme → Bool
unnamed t = not (value_named t)

starts_named : (most : ℕ) → Starts (NamedUpTo most) value_named
starts_named most = starts_then _ _ value_named (starts_one arc_name_of value_named arc_name_is)

starts_numbered : (most : ℕ) → Starts (One (number_of most)) unnamed
starts_numbered most = starts_one (number_of most) unnamed (λ t n e. ap not (number_no_name most t n e))

name_of_headed : (y rest : List Lexeme) → Headed value_named y → starts_name (y ++ rest) ≡ true
name_of_headed y rest h = ap (λ (z : List Lexeme). starts_name (z ++ rest)) h.is ∙ h.passes

no_name_of_headed : (y rest : List Lexeme) → Headed unnamed y → starts_name (y ++ rest) ≡ false
no_name_of_headed y rest h = ap (λ (z : List Lexeme). starts_name (z ++ rest)) h.is ∙ not-true _ h.passes

swap : {A : Type 0} (r s : List Lexeme → A → Type 0) (ts : List Lexeme) (a : A) → Either r s ts a → Either s r ts a
swap r s ts a (inl d) = inr d
swap r s ts a (inr d) = inl d

pub law_same : {A : Type 0} {r s : List Lexeme → A → Type 0} {f : List Lexeme → Read A} {u : List Lexeme → Bool} → Law r f u → ((ts : List Lexeme) (a : A) → r ts a → s ts a) → ((ts : List Lexeme) (a : A) → s ts a → r ts a) → Law s f u
law_same law to from = record {
  found = λ ts a rest e. let x = law.found ts a rest e in record { text = x.text; parts = x.parts; spelled = to x.text a x.spelled };
  only = λ text a rest d st. law.only text a rest (from text a d) st;
}

law_arc : (most : ℕ) → Law (ArcUpTo most) (arc_at most) never
unfolding arc_at
law_arc most = law_same (law_choice starts_name _ _ _ _ never never never (next law_arc_name (λ _. law_bracketed most)) (law_number most)
    (record { tells = λ text a rest d st. name_of_headed text rest (starts_named most text a d); own_stops = λ rest st. refl })
    (record { tells = λ text a rest d st. no_name_of_headed text rest (starts_numbered most text a d); own_stops = λ rest st. refl }))
    (swap _ _) (swap _ _)

-- ---- the bounds as facts

one_up : (most : ℕ) (ts : List Lexeme) (n : ℕ) → One (number_of most) ts n → n ≤ most
one_up most ts n d = (number_is most d.token.text n d.passes).1

one_more : (most more : ℕ) (ts : List Lexeme) (n : ℕ) → n ≤ more → One (number_of most) ts n → One (number_of more) ts n
one_more most more ts n le d = record { token = d.token; alone = d.alone; passes = number_at_most most more d.token.text n d.passes le }

bracketed_up : (most : ℕ) (ts : List Lexeme) (n : ℕ) → Bracketed most ts n → n ≤ most
bracketed_up most ts n d = subst (λ (k : ℕ). k ≤ most) d.second.second.second.same_value (one_up most d.second.front d.second.value d.second.first)

bracketed_more : (most more : ℕ) (ts : List Lexeme) (n : ℕ) → n ≤ more → Bracketed most ts n → Bracketed more ts n
bracketed_more most more ts n le d = record {
  front = d.front;
  back = d.back;
  value = d.value;
  whole = d.whole;
  first = d.first;
  second = record {
    front = d.second.front;
    back = d.second.back;
    value = d.second.value;
    whole = d.second.whole;
    second = d.second.second;
    first = one_more most more d.second.front d.second.value (subst (λ (k : ℕ). k ≤ more) (sym d.second.second.second.same_value) le) d.second.first;
  };
}

arc_up : (most : ℕ) (ts : List Lexeme) (n : ℕ) → ArcUpTo most ts n → n ≤ most
arc_up most ts n (inl d) = one_up most ts n d
arc_up most ts n (inr d) = bracketed_up most d.back n d.second

arc_more : (most more : ℕ) (ts : List Lexeme) (n : ℕ) → n ≤ more → ArcUpTo most ts n → ArcUpTo more ts n
arc_more most more ts n le (inl d) = inl (one_more most more ts n le d)
arc_more most more ts n le (inr d) = inr (record { front = d.front; back = d.back; value = d.value; whole = d.whole; first = d.first; second = bracketed_more most more d.back n le d.second })

-- ---- the first arc

pub record AloneOf (o : Option ℕ) (ts : List Lexeme) (a : ℕ) : Type 0 where
  pub none : ts ≡ []
  pub is : o ≡ Some a

pub alone_found : (o : Option ℕ) (ts : List Lexeme) (a : ℕ) (rest : List Lexeme) → alone_at o ts ≡ Ok (a, rest) → Front (AloneOf o) ts a rest
alone_found (Some r) ts a rest e =
    let x = (law_nothing r never).found ts a rest e in
    record { text = x.text; parts = x.parts; spelled = record { none = x.spelled.none; is = ap Some x.spelled.same_value } }
alone_found None ts a rest e = absurd cc

law_alone : (o : Option ℕ) (s : List Lexeme → Bool) → Law (AloneOf o) (alone_at o) s
law_alone o s = record {
  found = alone_found o;
  only = λ text a rest d st. ap (λ (z : List Lexeme). alone_at o (z ++ rest)) d.none ∙ ap (λ (q : Option ℕ). alone_at q rest) d.is;
}

abbrev pub NamedRoot : Option ℕ → List Lexeme → ℕ → Type 0
NamedRoot o = Either (Bracketed 2) (AloneOf o)

abbrev bracket : List (List ℕ)
bracket = codes "(" ∷ []

law_named_root : (o : Option ℕ) → Law (NamedRoot o) (named_root_at o) (begins_any bracket)
unfolding named_root_at
law_named_root o = pick_may (begins_any bracket) (codes "(") (among []) (law_bracketed 2) (law_alone o (begins_any bracket)) (starts_then _ _ _ (starts_the (codes "(")))
    (λ text a d. inl d.none) (excludes_among [] (codes "(" ∷ []) refl) (fewer_one (codes "(") bracket refl) (λ rest st. refl) (λ rest st. st)

abbrev pub RootUpTo : List Lexeme → ℕ → Type 0
RootUpTo = Either (ArcUpTo 2) (One root_of)

pub root_step : (t : Lexeme) (ts : List Lexeme) → is_value_name t.kind t.text ≡ true → root_at (t ∷ ts) ≡ named_root_at (root_name t.text) ts
unfolding root_at arc_name_at arc_name_of
root_step t ts e = rw e refl

pub root_plain : (t : Lexeme) (ts : List Lexeme) → is_value_name t.kind t.text ≡ false → root_at (t ∷ ts) ≡ number_at 2 (t ∷ ts)
unfolding root_at
root_plain t ts e = rw e refl

pub root_none : root_at [] ≡ number_at 2 []
unfolding root_at
root_none = refl

arc_name_some : (t : Lexeme) → is_value_name t.kind t.text ≡ true → arc_name_of t ≡ Some (place t)
unfolding arc_name_of
arc_name_some t e = rw e refl

root_some : (t : Lexeme) (a : ℕ) → is_value_name t.kind t.text ≡ true → root_name t.text ≡ Some a → root_of t ≡ Some a
root_some t a e h = rw e h

root_is : (t : Lexeme) (a : ℕ) → root_of t ≡ Some a → (is_value_name t.kind t.text ≡ true) × (root_name t.text ≡ Some a)
root_is t a e = go (is_value_name t.kind t.text) refl e
  where
    go : (b : Bool) → is_value_name t.kind t.text ≡ b → (if b then root_name t.text else None) ≡ Some a → (b ≡ true) × (root_name t.text ≡ Some a)
    go true is h = (refl, h)
    go false is h = absurd cc

pub named_root_spelled : (t : Lexeme) (y : List Lexeme) (a : ℕ) → is_value_name t.kind t.text ≡ true → NamedRoot (root_name t.text) y a → RootUpTo (t ∷ y) a
named_root_spelled t y a e (inl d) = inl (inr (record { front = t ∷ []; back = y; value = place t; whole = refl; first = record { token = t; alone = refl; passes = arc_name_some t e }; second = d }))
named_root_spelled t y a e (inr d) = inr (record { token = t; alone = ap (λ (z : List Lexeme). t ∷ z) d.none; passes = root_some t a e d.is })

root_found_at : (t : Lexeme) (ts : List Lexeme) (a : ℕ) (rest : List Lexeme) (b : Bool) → is_value_name t.kind t.text ≡ b → root_at (t ∷ ts) ≡ Ok (a, rest) → Front RootUpTo (t ∷ ts) a rest
root_found_at t ts a rest true is e =
    let x = (law_named_root (root_name t.text)).found ts a rest (sym (root_step t ts is) ∙ e) in
    record { text = t ∷ x.text; parts = ap (λ (z : List Lexeme). t ∷ z) x.parts; spelled = named_root_spelled t x.text a is x.spelled }
root_found_at t ts a rest false is e =
    let x = (law_number 2).found (t ∷ ts) a rest (sym (root_plain t ts is) ∙ e) in
    record { text = x.text; parts = x.parts; spelled = inl (inl x.spelled) }

pub root_found : (ts : List Lexeme) (a : ℕ) (rest : List Lexeme) → root_at ts ≡ Ok (a, rest) → Front RootUpTo ts a rest
root_found [] a rest e =
    let x = (law_number 2).found [] a rest (sym root_none ∙ e) in
    record { text = x.text; parts = x.parts; spelled = inl (inl x.spelled) }
root_found (t ∷ ts) a rest e = root_found_at t ts a rest (is_value_name t.kind t.text) refl e

root_only : (text : List Lexeme) (a : ℕ) (rest : List Lexeme) → RootUpTo text a → begins_any bracket rest ≡ false → root_at (text ++ rest) ≡ Ok (a, rest)
root_only text a rest (inl (inl d)) st =
    ap (λ (z : List Lexeme). root_at (z ++ rest)) d.alone ∙ root_plain d.token rest (number_no_name 2 d.token a d.passes)
    ∙ ap (λ (z : List Lexeme). number_at 2 (z ++ rest)) (sym d.alone) ∙ (law_number 2).only text a rest d refl
root_only text a rest (inl (inr d)) st =
    let t = d.first.token in
    let whole : text ++ rest ≡ t ∷ (d.back ++ rest) = ap (λ (z : List Lexeme). z ++ rest) (d.whole ∙ ap (λ (z : List Lexeme). z ++ d.back) d.first.alone) in
    ap root_at whole ∙ root_step t (d.back ++ rest) (arc_name_is t d.value d.first.passes) ∙ (law_named_root (root_name t.text)).only d.back a rest (inl d.second) st
root_only text a rest (inr d) st =
    let t = d.token in
    let p = root_is t a d.passes in
    ap (λ (z : List Lexeme). root_at (z ++ rest)) d.alone ∙ root_step t rest p.0 ∙ (law_named_root (root_name t.text)).only [] a rest (inr (record { none = refl; is = p.1 })) st

law_root : Law RootUpTo root_at (begins_any bracket)
law_root = record { found = root_found; only = root_only }

-- ---- the arcs behind the second

pub record FewArcs (ts : List Lexeme) (l : List ℕ) : Type 0 where
  pub spelled : Many (ArcUpTo most_32) ts l
  pub few : length l ≤ 30

abbrev close : List Lexeme → Bool
close rest = goes_on (codes "}") rest

arc_heads : Lexeme → Bool
arc_heads t = is_some (number_of most_32 t) || value_named t

starts_arc : (most : ℕ) → most ≤ most_32 → Starts (ArcUpTo most) arc_heads
unfolding arc_heads
starts_arc most le text a (inl d) = record { token = d.token; others = []; is = d.alone; passes = or_left _ (value_named d.token) (ap is_some (number_at_most most most_32 d.token.text a d.passes (omega (arith, (number_is most d.token.text a d.passes).1)))) }
starts_arc most le text a (inr d) =
    let h = starts_named most text a d in
    record { token = h.token; others = h.others; is = h.is; passes = or_right (is_some (number_of most_32 h.token)) (value_named h.token) h.passes }

excludes_arc : (ws : List (List ℕ)) → list_all (λ w. not (is_some (number most_32 w))) ws ≡ true → list_all no_value_name ws ≡ true → Excludes arc_heads ws
unfolding arc_heads
excludes_arc ws n v = excludes_or (λ t. is_some (number_of most_32 t)) value_named ws (excludes_text (λ x. is_some (number most_32 x)) ws n) (excludes_value_name ws v)

no_number_close : list_all (λ w. not (is_some (number most_32 w))) (codes "}" ∷ []) ≡ true
unfolding number
no_number_close = refl

no_number_bracket : list_all (λ w. not (is_some (number most_32 w))) bracket ≡ true
unfolding number
no_number_bracket = refl

goes_on_headed : (w : List ℕ) (y rest : List Lexeme) (p : Lexeme → Bool) → Headed p y → Excludes p (w ∷ []) → goes_on w (y ++ rest) ≡ true
goes_on_headed w y rest p h x = ap (λ (z : List Lexeme). goes_on w (z ++ rest)) h.is ∙ ap not (sym (or_false (same h.token.text w)) ∙ x h.token h.passes)

goes_on_closed : (w : List ℕ) (y rest : List Lexeme) → Headed (λ t. same t.text w) y → goes_on w (y ++ rest) ≡ false
goes_on_closed w y rest h = ap (λ (z : List Lexeme). goes_on w (z ++ rest)) h.is ∙ ap not h.passes

arc_loops : Loops close (ArcUpTo most_32) never close
arc_loops = record {
  goes = λ text a rest d. goes_on_headed (codes "}") text rest arc_heads (starts_arc most_32 (omega arith) text a d) (excludes_arc (codes "}" ∷ []) no_number_close refl);
  takes = λ text a d. headed_takes arc_heads text (starts_arc most_32 (omega arith) text a d);
  ends = λ rest st. st;
  last = λ rest st. refl;
  next = λ text a rest d. refl;
}

law_few : Law FewArcs (many_at close (arc_at most_32) 30) close
law_few = record {
  found = λ ts l rest e.
      let x = many_found close (ArcUpTo most_32) (arc_at most_32) never (law_arc most_32) 30 ts l rest e in
      record { text = x.text; parts = x.parts; spelled = record { spelled = x.spelled; few = many_count close (arc_at most_32) 30 ts l rest e } };
  only = λ text l rest d st. many_only close (ArcUpTo most_32) (arc_at most_32) never close (law_arc most_32) arc_loops 30 text l rest d.few d.spelled st;
}

-- ---- whole object identifiers

root_name_up : (text : List ℕ) (a : ℕ) → root_name text ≡ Some a → a ≤ 2
unfolding root_name
root_name_up text a e = go (same text (codes "itu-t") || same text (codes "ccitt")) (same text (codes "iso")) (same text (codes "joint-iso-itu-t") || same text (codes "joint-iso-ccitt")) e
  where
    go : (x y z : Bool) → (if x then Some 0 else if y then Some 1 else if z then Some 2 else None) ≡ Some a → a ≤ 2
    go true y z h = let k : 0 ≡ a = cc in omega arith
    go false true z h = let k : 1 ≡ a = cc in omega arith
    go false false true h = let k : 2 ≡ a = cc in omega arith
    go false false false h = absurd cc

no_single : (root : ℕ) → IsOid (root ∷ []) → ⊥
no_single root o = absurd (false≢true (and_parts (nat_le 1 32) false o).1)

well_root : (root second : ℕ) → nat_lt root 2 && nat_lt second 40 || nat_le root 2 && nat_le 2 root ≡ true → root ≤ 2
well_root root second e = grind (arith, nat_tests)

second_bound : (root : ℕ) → most_second root ≤ most_32
second_bound root = go (nat_lt root 2)
  where
    go : (b : Bool) → (if b then 39 else most_32) ≤ most_32
    go true = omega arith
    go false = omega arith

abbrev pub ArcsUpTo : List Lexeme → List ℕ → Type 0
ArcsUpTo = Then (The (codes "{")) (λ _. Then RootUpTo (λ root. Then (ArcUpTo (most_second root)) (λ second. Then FewArcs (λ others. Then (The (codes "}")) (λ _. Nothing (root ∷ second ∷ others))))))

law_arcs : Law ArcsUpTo oid_at never
unfolding oid_at
law_arcs = next (law_word (codes "{")) (λ _. behind_starts bracket arc_heads law_root
    (λ root. next (law_arc (most_second root)) (λ second. law_then _ _ close _ _ never law_few (λ others. next (law_word (codes "}")) (λ _. law_nothing _ never))
    (λ others b y rest d st. goes_on_closed (codes "}") y rest (starts_then _ _ _ (starts_the (codes "}")) y b d))))
    (λ root. starts_then _ _ arc_heads (starts_arc (most_second root) (second_bound root))) (excludes_arc bracket no_number_bracket refl))

well_step : (root second : ℕ) (b : Bool) → nat_lt root 2 ≡ b → root ≤ 2 → second ≤ (if b then 39 else most_32) → b && nat_lt second 40 || nat_le root 2 && nat_le 2 root ≡ true
well_step root second true e r s = grind (arith, nat_tests)
well_step root second false e r s = grind (arith, nat_tests)

oid_is : (root second : ℕ) (others : List ℕ) → root ≤ 2 → second ≤ most_second root → length others ≤ 30 → IsOid (root ∷ second ∷ others)
oid_is root second others r s few = joined (nat_le (length (root ∷ second ∷ others)) 32) _ (le-leb _ _ (omega arith)) (well_step root second (nat_lt root 2) refl r s)

well_is : (root second : ℕ) (b : Bool) → nat_lt root 2 ≡ b → second ≤ most_32 → b && nat_lt second 40 || nat_le root 2 && nat_le 2 root ≡ true → second ≤ (if b then 39 else most_32)
well_is root second true e s w = grind (arith, nat_tests)
well_is root second false e s w = s

root_up : (ts : List Lexeme) (a : ℕ) → RootUpTo ts a → a ≤ 2
root_up ts a (inl d) = arc_up 2 ts a d
root_up ts a (inr d) = root_name_up d.token.text a (root_is d.token a d.passes).1

root_to : (ts : List Lexeme) (a : ℕ) → RootUpTo ts a → Root ts a
root_to ts a (inl d) = inl (arc_more 2 most_32 ts a (omega (arith, arc_up 2 ts a d)) d)
root_to ts a (inr d) = inr d

root_from : (ts : List Lexeme) (a : ℕ) → Root ts a → a ≤ 2 → RootUpTo ts a
root_from ts a (inl d) le = inl (arc_more most_32 2 ts a le d)
root_from ts a (inr d) le = inr d

pub arcs_to : (ts : List Lexeme) (arcs : List ℕ) → ArcsUpTo ts arcs → OidSpelled ts arcs
arcs_to ts arcs d =
    let a = d.second in
    let b = a.second in
    let c = b.second in
    record {
      spelled = record {
        front = d.front;
        back = d.back;
        value = d.value;
        whole = d.whole;
        first = d.first;
        second = record {
          front = a.front;
          back = a.back;
          value = a.value;
          whole = a.whole;
          first = root_to a.front a.value a.first;
          second = record {
            front = b.front ++ c.front;
            back = c.back;
            value = b.value ∷ c.value;
            whole = b.whole ∙ ap (λ (z : List Lexeme). b.front ++ z) c.whole ∙ sym (append_assoc b.front c.front c.back);
            first = record { front = b.front; back = c.front; whole = refl; first = arc_more (most_second a.value) most_32 b.front b.value (omega (arith, arc_up (most_second a.value) b.front b.value b.first, second_bound a.value)) b.first; second = c.first.spelled };
            second = c.second;
          };
        };
      };
      is_oid = subst (λ (l : List ℕ). IsOid l) c.second.second.same_value (oid_is a.value b.value c.value (root_up a.front a.value a.first) (arc_up (most_second a.value) b.front b.value b.first) c.first.few);
    }

oid_parts : (root second : ℕ) (others : List ℕ) → IsOid (root ∷ second ∷ others) → second ≤ most_32 → (root ≤ 2) × (second ≤ most_second root) × (length others ≤ 30)
oid_parts root second others o s =
    let h = and_parts (nat_le (length (root ∷ second ∷ others)) 32) _ o in
    (well_root root second h.1, well_is root second (nat_lt root 2) refl s h.1, omega (arith, leb-true (length (root ∷ second ∷ others)) 32 h.0))

arcs_from_list : (root : ℕ) (rf : List Lexeme) (l : List ℕ) (mf back : List Lexeme) → Root rf root → Many Arc mf l → IsOid (root ∷ l) → (arcs : List ℕ) → Then (The (codes "}")) (λ _. Nothing (root ∷ l)) back arcs
    → Then RootUpTo (λ root. Then (ArcUpTo (most_second root)) (λ second. Then FewArcs (λ others. Then (The (codes "}")) (λ _. Nothing (root ∷ second ∷ others))))) (rf ++ (mf ++ back)) arcs
arcs_from_list root rf [] mf back r m o arcs e = absurd (no_single root o)
arcs_from_list root rf (second ∷ others) mf back r m o arcs e =
    let p = oid_parts root second others o (arc_up most_32 m.front second m.first) in
    record {
      front = rf;
      back = mf ++ back;
      value = root;
      whole = refl;
      first = root_from rf root r p.0;
      second = record {
        front = m.front;
        back = m.back ++ back;
        value = second;
        whole = ap (λ (z : List Lexeme). z ++ back) m.whole ∙ append_assoc m.front m.back back;
        first = arc_more most_32 (most_second root) m.front second p.1 m.first;
        second = record {
          front = m.back;
          back = back;
          value = others;
          whole = refl;
          first = record { spelled = m.second; few = p.2 };
          second = e;
        };
      };
    }

arcs_from : (ts : List Lexeme) (arcs : List ℕ) → OidSpelled ts arcs → ArcsUpTo ts arcs
arcs_from ts arcs o =
    let d = o.spelled in
    let a = d.second in
    let b = a.second in
    let is : IsOid (a.value ∷ b.value) = subst (λ (l : List ℕ). IsOid l) (sym b.second.second.same_value) o.is_oid in
    record {
      front = d.front;
      back = d.back;
      value = d.value;
      whole = d.whole;
      first = d.first;
      second = subst (λ (z : List Lexeme). Then RootUpTo (λ root. Then (ArcUpTo (most_second root)) (λ second. Then FewArcs (λ others. Then (The (codes "}")) (λ _. Nothing (root ∷ second ∷ others))))) z arcs)
          (sym (a.whole ∙ ap (λ (z : List Lexeme). a.front ++ z) b.whole)) (arcs_from_list a.value a.front b.value b.front b.back a.first b.first is arcs b.second);
    }

pub law_oid : Law OidSpelled oid_at never
law_oid = law_same law_arcs arcs_to arcs_from
