-- What the texts of a rule begin with.
use Rattle.std.proofs.Common.{◌≡◌, ℕ, ◌<◌, Bool, true, false, List, [], ◌∷◌, ◌++◌, length, Option, Some, None, refl, sym, ap, subst, ◌∙◌, arith, inl, inr}
use Rattle.std.specs.Prelude.{◌&&◌, ◌||◌, not, if◌then◌else◌}
use Rattle.std.specs.List.{list_any, list_all, AllByRecursion}
use Rattle.std.specs.Str.{bytes_eq}
use Rattle.std.proofs.lemmas.Bool.{not-true, both_ways, or_cases, and_parts}
use Rattle.std.proofs.lemmas.Slice.Eq.{bytes_eq-Decides}
use Rattle.notation_tokens.specs.declared.token.TokenKind.{TokenKind}
use Rattle.notation_tokens.specs.Lexeme.{Lexeme, same, begins}
use Rattle.notation_tokens.specs.Words.{word_of, place, quoted, is_quoted, is_unsupported, is_type_name, is_value_name, begins_lower, begins_upper, is_kind_word}
use Rattle.operation_notation.specs.Grammar.{One, Then, Either, The, Placed}
use Rattle.notation_tokens.specs.declared.token.Place.{Place}
use Rattle.notation_tokens.proofs.Numbers.{joined}

-- a text whose first token passes a test
pub record Headed (p : Lexeme → Bool) (ts : List Lexeme) : Type 0 where
  pub token : Lexeme
  pub others : List Lexeme
  pub is : ts ≡ token ∷ others
  pub passes : p token ≡ true

abbrev pub Starts : {A : Type 0} → (List Lexeme → A → Type 0) → (Lexeme → Bool) → Type 0
Starts r p = (text : List Lexeme) (a : _) → r text a → Headed p text

pub headed_append : (p : Lexeme → Bool) (x y : List Lexeme) → Headed p x → Headed p (x ++ y)
headed_append p x y h = record { token = h.token; others = h.others ++ y; is = ap (λ (z : List Lexeme). z ++ y) h.is; passes = h.passes }

pub headed_takes : (p : Lexeme → Bool) (x : List Lexeme) → Headed p x → 0 < length x
headed_takes p x h = rw h.is (omega arith)

pub starts_then : {A B : Type 0} (r : List Lexeme → A → Type 0) (g : A → List Lexeme → B → Type 0) (p : Lexeme → Bool) → Starts r p → Starts (Then r g) p
starts_then r g p s text b d = subst (Headed p) (sym d.whole) (headed_append p d.front d.back (s d.front d.value d.first))

pub starts_one : {A : Type 0} (test : Lexeme → Option A) (p : Lexeme → Bool) → ((t : Lexeme) (a : A) → test t ≡ Some a → p t ≡ true) → Starts (One test) p
starts_one test p h text a d = record { token = d.token; others = []; is = d.alone; passes = h d.token a d.passes }

pub starts_either : {A : Type 0} (r s : List Lexeme → A → Type 0) (p : Lexeme → Bool) → Starts r p → Starts s p → Starts (Either r s) p
starts_either r s p f g text a (inl d) = f text a d
starts_either r s p f g text a (inr d) = g text a d

pub starts_placed : {A : Type 0} (r : Place → List Lexeme → A → Type 0) (p : Lexeme → Bool) → ((at : Place) → Starts (r at) p) → Starts (Placed r) p
starts_placed r p f text a d = f d.at text a d.spelled

-- ---- texts and words

abbrev pub among : List (List ℕ) → Lexeme → Bool
among ws t = list_any (same t.text) ws

pub same_is : (a b : List ℕ) → same a b ≡ true → a ≡ b
unfolding same
same_is a b e = (bytes_eq-Decides a b).0 e

-- what holds of each word holds of a token that is one of them
pub among_all : (P : List ℕ → Type 0) (ws : List (List ℕ)) (t : Lexeme) → AllByRecursion P ws → among ws t ≡ true → P t.text
among_all P [] t all e = absurd cc
among_all P (w ∷ ws) t all e =
    elim (or_cases (same t.text w) (among ws t) e) [
      | inl h ↦ subst P (sym (same_is t.text w h)) all.0
      | inr h ↦ among_all P ws t all.1 h
    ]

pub all_from : {X : Type 0} (p : X → Bool) (xs : List X) → list_all p xs ≡ true → AllByRecursion (λ x. p x ≡ true) xs
all_from p [] e = tt
all_from p (x ∷ xs) e = let h = and_parts (p x) (list_all p xs) e in (h.0, all_from p xs h.1)

-- a token that is one of these words
pub among_word : (ws : List (List ℕ)) (w : List ℕ) (t : Lexeme) → list_any (bytes_eq w) ws ≡ true → same t.text w ≡ true → among ws t ≡ true
unfolding same
among_word ws w t e h = subst (λ (x : List ℕ). list_any (bytes_eq x) ws ≡ true) (sym (same_is t.text w h)) e

-- ---- tests that no word of a list passes

abbrev pub Excludes : (Lexeme → Bool) → List (List ℕ) → Type 0
Excludes p ws = (t : Lexeme) → p t ≡ true → among ws t ≡ false

-- no word stands in both lists
abbrev pub apart : List (List ℕ) → List (List ℕ) → Bool
apart vs ws = list_all (λ v. not (list_any (bytes_eq v) ws)) vs

pub excludes_among : (vs ws : List (List ℕ)) → apart vs ws ≡ true → Excludes (among vs) ws
unfolding same
excludes_among vs ws e t h = not-true _ (among_all (λ x. not (list_any (bytes_eq x) ws) ≡ true) vs t (all_from (λ v. not (list_any (bytes_eq v) ws)) vs e) h)

abbrev pub type_named : Lexeme → Bool
type_named t = is_type_name t.kind t.text

abbrev pub value_named : Lexeme → Bool
value_named t = is_value_name t.kind t.text

-- a word that can't be a Name, or a name
abbrev pub no_type_name : List ℕ → Bool
no_type_name w = list_any (bytes_eq w) quoted || not (begins_upper w)

abbrev pub no_value_name : List ℕ → Bool
no_value_name w = not (begins_lower w)

pub type_name_parts : (kind : TokenKind) (text : List ℕ) → is_type_name kind text ≡ true → (begins_upper text ≡ true) × (is_quoted text ≡ false)
unfolding is_type_name
type_name_parts kind text e =
    let h = and_parts (is_kind_word kind && begins_upper text) (not (is_quoted text) && not (is_unsupported text)) e in
    ((and_parts (is_kind_word kind) (begins_upper text) h.0).1, not-true (is_quoted text) (and_parts (not (is_quoted text)) (not (is_unsupported text)) h.1).0)

value_name_parts : (kind : TokenKind) (text : List ℕ) → is_value_name kind text ≡ true → begins_lower text ≡ true
unfolding is_value_name
value_name_parts kind text e = (and_parts (is_kind_word kind) (begins_lower text) e).1

no_type_name_is : (text : List ℕ) → begins_upper text ≡ true → is_quoted text ≡ false → no_type_name text ≡ true → ⊥
unfolding is_quoted same
no_type_name_is text upper plain e =
    elim (or_cases (list_any (bytes_eq text) quoted) (not (begins_upper text)) e) [
      | inl h ↦ absurd cc
      | inr h ↦ both_ways (begins_upper text) (not-true (begins_upper text) h) upper
    ]

pub excludes_type_name : (ws : List (List ℕ)) → list_all no_type_name ws ≡ true → Excludes type_named ws
excludes_type_name ws e t h = go (among ws t) refl
  where
    go : (b : Bool) → among ws t ≡ b → b ≡ false
    go true m =
        let p = type_name_parts t.kind t.text h in
        absurd (no_type_name_is t.text p.0 p.1 (among_all (λ x. no_type_name x ≡ true) ws t (all_from no_type_name ws e) m))
    go false m = refl

pub excludes_value_name : (ws : List (List ℕ)) → list_all no_value_name ws ≡ true → Excludes value_named ws
excludes_value_name ws e t h = go (among ws t) refl
  where
    go : (b : Bool) → among ws t ≡ b → b ≡ false
    go true m = absurd (both_ways (begins_lower t.text) (not-true (begins_lower t.text) (among_all (λ x. no_value_name x ≡ true) ws t (all_from no_value_name ws e) m)) (value_name_parts t.kind t.text h))
    go false m = refl

pub excludes_or : (p q : Lexeme → Bool) (ws : List (List ℕ)) → Excludes p ws → Excludes q ws → Excludes (λ t. p t || q t) ws
excludes_or p q ws f g t e =
    elim (or_cases (p t) (q t) e) [
      | inl h ↦ f t h
      | inr h ↦ g t h
    ]

-- ---- what follows

-- the first token is one of these words
abbrev pub begins_any : List (List ℕ) → List Lexeme → Bool
begins_any ws [] = false
begins_any ws (t ∷ ts) = among ws t

pub headed_any : (p : Lexeme → Bool) (ws : List (List ℕ)) (y rest : List Lexeme) → Headed p y → Excludes p ws → begins_any ws (y ++ rest) ≡ false
headed_any p ws y rest h e = ap (λ (z : List Lexeme). begins_any ws (z ++ rest)) h.is ∙ e h.token h.passes

pub or_false : (a : Bool) → a || false ≡ a
or_false true = refl
or_false false = refl

pub begins_of_any : (w : List ℕ) (ts : List Lexeme) → begins w ts ≡ begins_any (w ∷ []) ts
begins_of_any w [] = refl
begins_of_any w (t ∷ ts) = sym (or_false (same t.text w))

pub headed_not : (p : Lexeme → Bool) (w : List ℕ) (y rest : List Lexeme) → Headed p y → Excludes p (w ∷ []) → begins w (y ++ rest) ≡ false
headed_not p w y rest h e = begins_of_any w (y ++ rest) ∙ headed_any p (w ∷ []) y rest h e

pub headed_is : (w : List ℕ) (y rest : List Lexeme) → Headed (λ t. same t.text w) y → begins w (y ++ rest) ≡ true
headed_is w y rest h = ap (λ (z : List Lexeme). begins w (z ++ rest)) h.is ∙ h.passes

-- stopping at more words is stopping at fewer
pub in_all : (vs ws : List (List ℕ)) (t : Lexeme) → list_all (λ v. list_any (bytes_eq v) ws) vs ≡ true → among vs t ≡ true → among ws t ≡ true
unfolding same
in_all vs ws t e k = among_all (λ x. list_any (bytes_eq x) ws ≡ true) vs t (all_from (λ v. list_any (bytes_eq v) ws) vs e) k

fewer_among : (vs ws : List (List ℕ)) (t : Lexeme) → list_all (λ v. list_any (bytes_eq v) ws) vs ≡ true → among ws t ≡ false → among vs t ≡ false
fewer_among vs ws t e h = go (among vs t) refl
  where
    go : (b : Bool) → among vs t ≡ b → b ≡ false
    go true m = absurd (both_ways (among ws t) h (in_all vs ws t e m))
    go false m = refl

pub fewer : (vs ws : List (List ℕ)) → list_all (λ v. list_any (bytes_eq v) ws) vs ≡ true → (rest : List Lexeme) → begins_any ws rest ≡ false → begins_any vs rest ≡ false
fewer vs ws e [] h = refl
fewer vs ws e (t ∷ ts) h = fewer_among vs ws t e h

pub fewer_one : (w : List ℕ) (ws : List (List ℕ)) → list_any (bytes_eq w) ws ≡ true → (rest : List Lexeme) → begins_any ws rest ≡ false → begins w rest ≡ false
fewer_one w ws e rest h = begins_of_any w rest ∙ fewer (w ∷ []) ws (joined (list_any (bytes_eq w) ws) true e refl) rest h

-- ---- words as rules

word_of_is : (w : List ℕ) (t : Lexeme) (a : Place) → word_of w t ≡ Some a → same t.text w ≡ true
unfolding word_of
word_of_is w t a e = go (same t.text w) refl e
  where
    go : (b : Bool) → same t.text w ≡ b → (if b then Some (place t) else None) ≡ Some a → b ≡ true
    go true is h = refl
    go false is h = absurd cc

pub starts_the : (w : List ℕ) → Starts (The w) (λ t. same t.text w)
starts_the w = starts_one (word_of w) (λ t. same t.text w) (λ t a e. word_of_is w t a e)

pub starts_word : (w : List ℕ) (ws : List (List ℕ)) → list_any (bytes_eq w) ws ≡ true → Starts (The w) (among ws)
starts_word w ws e = starts_one (word_of w) (among ws) (λ t a h. among_word ws w t e (word_of_is w t a h))
