-- Laws of rules one behind another, by what the next begins with.
use Rattle.std.proofs.Common.{◌≡◌, ℕ, Bool, true, false, List, [], ◌∷◌, ◌++◌, Option, Some, None, Ok, refl, sym, ap, subst, ◌∙◌, inl, inr}
use Rattle.std.specs.Prelude.{◌⊎◌, ◌||◌, not, if◌then◌else◌}
use Rattle.std.specs.List.{list_any, list_all}
use Rattle.std.specs.Str.{bytes_eq}
use Rattle.std.proofs.lemmas.Bool.{not-true, not-false, both_ways, or_cases}
use Rattle.notation_tokens.specs.Lexeme.{Lexeme, same, begins}
use Rattle.operation_notation.specs.Reading.{◌>>=◌, give, here, place_of, Read, word_at, all_at, behind, listed_at}
use Rattle.operation_notation.specs.Grammar.{Then, Nothing, Either, Maybe, Many, The, Behind, Listed, Placed, StartsAt}
use Rattle.notation_tokens.specs.declared.token.Place.{Place}
use Rattle.operation_notation.proofs.Means.{Law, never, law_then, law_next, law_word, law_nothing, law_choice, law_maybe, Loops, law_all}
use Rattle.operation_notation.proofs.Starts.{Headed, Starts, headed_append, headed_takes, starts_then, starts_either, among, Excludes, excludes_among, excludes_type_name, excludes_or, apart, type_named, no_type_name, among_all, all_from, begins_any, headed_any, headed_not, headed_is, fewer, fewer_one, starts_the}

-- ---- with less to write

pub next : {A B : Type 0} {r : List Lexeme → A → Type 0} {f : List Lexeme → Read A} {g : A → List Lexeme → B → Type 0} {h : A → List Lexeme → Read B} {t : List Lexeme → Bool}
    → Law r f never → ((a : A) → Law (g a) (h a) t) → Law (Then r g) (f >>= h) t
next first second = law_next _ _ _ _ _ first second

pub law_weaken : {A : Type 0} {r : List Lexeme → A → Type 0} {f : List Lexeme → Read A} {u : List Lexeme → Bool} (s : List Lexeme → Bool) → Law r f u → ((rest : List Lexeme) → s rest ≡ false → u rest ≡ false) → Law r f s
law_weaken s law less = record { found = law.found; only = λ text a rest d st. law.only text a rest d (less rest st) }

pub law_any : {A : Type 0} {r : List Lexeme → A → Type 0} {f : List Lexeme → Read A} (ss : List (List ℕ)) → Law r f never → Law r f (begins_any ss)
law_any ss law = law_weaken (begins_any ss) law (λ rest st. refl)

pub law_behind : {A : Type 0} {r : List Lexeme → A → Type 0} {f : List Lexeme → Read A} {s : List Lexeme → Bool} (w : List ℕ) → Law r f s → Law (Behind w r) (behind w f) s
law_behind w law = next (law_word w) (λ p. law)

pub starts_behind : {A : Type 0} (w : List ℕ) (r : List Lexeme → A → Type 0) → Starts (Behind w r) (λ t. same t.text w)
starts_behind w r = starts_then (The w) (λ _. r) (λ t. same t.text w) (starts_the w)

-- ---- what may be empty

abbrev pub EmptyOr : (Lexeme → Bool) → List Lexeme → Type 0
EmptyOr p y = (y ≡ []) ⊎ Headed p y

abbrev pub MayStart : {A : Type 0} → (List Lexeme → A → Type 0) → (Lexeme → Bool) → Type 0
MayStart r p = (text : List Lexeme) (a : _) → r text a → EmptyOr p text

pub may_starts : {A : Type 0} {r : List Lexeme → A → Type 0} {p : Lexeme → Bool} → Starts r p → MayStart r p
may_starts s text a d = inr (s text a d)

may_join : (p : Lexeme → Bool) (x y : List Lexeme) → EmptyOr p x → EmptyOr p y → EmptyOr p (x ++ y)
may_join p x y (inl e) k = subst (λ (z : List Lexeme). EmptyOr p (z ++ y)) (sym e) k
may_join p x y (inr h) k = inr (headed_append p x y h)

pub may_then : {A B : Type 0} {r : List Lexeme → A → Type 0} {g : A → List Lexeme → B → Type 0} {p : Lexeme → Bool} → MayStart r p → ((a : A) → MayStart (g a) p) → MayStart (Then r g) p
may_then {p = p} m n text b d = subst (EmptyOr p) (sym d.whole) (may_join p d.front d.back (m d.front d.value d.first) (n d.value d.back b d.second))

pub may_nothing : {A : Type 0} (a : A) (p : Lexeme → Bool) → MayStart (Nothing a) p
may_nothing a p text b d = inl d.none

pub may_maybe : {A : Type 0} {r : List Lexeme → A → Type 0} {p : Lexeme → Bool} → Starts r p → MayStart (Maybe r) p
may_maybe s text None d = inl d
may_maybe s text (Some a) d = inr (s text a d)

pub may_either : {A : Type 0} {r s : List Lexeme → A → Type 0} {p : Lexeme → Bool} → MayStart r p → MayStart s p → MayStart (Either r s) p
may_either m n text a (inl d) = m text a d
may_either m n text a (inr d) = n text a d

pub empty_or_any : (p : Lexeme → Bool) (ss : List (List ℕ)) (y rest : List Lexeme) → EmptyOr p y → Excludes p ss → begins_any ss rest ≡ false → begins_any ss (y ++ rest) ≡ false
empty_or_any p ss y rest (inl e) x st = ap (λ (z : List Lexeme). begins_any ss (z ++ rest)) e ∙ st
empty_or_any p ss y rest (inr h) x st = headed_any p ss y rest h x

-- what may be empty behind what stops at some words
pub behind_may : {A B : Type 0} {r : List Lexeme → A → Type 0} {f : List Lexeme → Read A} {g : A → List Lexeme → B → Type 0} {h : A → List Lexeme → Read B} (ss ts : List (List ℕ)) (p : Lexeme → Bool)
    → Law r f (begins_any ss) → ((a : A) → Law (g a) (h a) (begins_any ts)) → ((a : A) → MayStart (g a) p) → Excludes p ss → list_all (λ v. list_any (bytes_eq v) ts) ss ≡ true
    → Law (Then r g) (f >>= h) (begins_any ts)
behind_may ss ts p first second m x le = law_then _ _ (begins_any ss) _ _ (begins_any ts) first second
    (λ a b y rest d st. empty_or_any p ss y rest (m a y b d) x (fewer ss ts le rest st))

-- what isn't empty behind what stops at some words
pub behind_starts : {A B : Type 0} {r : List Lexeme → A → Type 0} {f : List Lexeme → Read A} {g : A → List Lexeme → B → Type 0} {h : A → List Lexeme → Read B} {t : List Lexeme → Bool} (ss : List (List ℕ)) (p : Lexeme → Bool)
    → Law r f (begins_any ss) → ((a : A) → Law (g a) (h a) t) → ((a : A) → Starts (g a) p) → Excludes p ss → Law (Then r g) (f >>= h) t
behind_starts {t = t} ss p first second s x = law_then _ _ (begins_any ss) _ _ t first second (λ a b y rest d st. headed_any p ss y rest (s a y b d) x)

-- a word behind what stops at some others
pub behind_word : {A B : Type 0} {r : List Lexeme → A → Type 0} {f : List Lexeme → Read A} {g : A → Place → List Lexeme → B → Type 0} {h : A → Place → List Lexeme → Read B} {t : List Lexeme → Bool} (ss : List (List ℕ)) (w : List ℕ)
    → Law r f (begins_any ss) → ((a : A) (p : Place) → Law (g a p) (h a p) t) → apart (w ∷ []) ss ≡ true → Law (Then r (λ a. Then (The w) (g a))) (f >>= λ a. word_at w >>= h a) t
behind_word ss w first second x = behind_starts ss (λ t. same t.text w) first (λ a. next (law_word w) (second a)) (λ a. starts_then (The w) _ (λ t. same t.text w) (starts_the w)) (same_excludes w ss x)
  where
    same_excludes : (w : List ℕ) (ss : List (List ℕ)) → apart (w ∷ []) ss ≡ true → Excludes (λ t. same t.text w) ss
    same_excludes w ss x t e = excludes_among (w ∷ []) ss x t (ap (λ (b : Bool). b || false) e)

pub same_excludes : (w : List ℕ) (ss : List (List ℕ)) → apart (w ∷ []) ss ≡ true → Excludes (λ t. same t.text w) ss
same_excludes w ss x t e = excludes_among (w ∷ []) ss x t (ap (λ (b : Bool). b || false) e)

-- ---- the place of the first token

place_is : (text rest : List Lexeme) (p : Place) → StartsAt text p → place_of (text ++ rest) ≡ p
place_is [] rest p s = absurd s
place_is (t ∷ ts) rest p s = s

pub starts_at : (p : Lexeme → Bool) (ts text rest : List Lexeme) → ts ≡ text ++ rest → Headed p text → StartsAt text (place_of ts)
starts_at p ts [] rest e h = absurd cc
starts_at p ts (t ∷ text) rest e h = sym (ap place_of e)

pub law_placed : {A : Type 0} {r : Place → List Lexeme → A → Type 0} {g : Place → List Lexeme → Read A} {s : List Lexeme → Bool} (p : Lexeme → Bool)
    → ((at : Place) → Starts (r at) p) → ((at : Place) → Law (r at) (g at) s) → Law (Placed r) (here >>= g) s
law_placed {r = r} {g = g} p st law = record {
  found = λ ts a rest e.
      let x = (law (place_of ts)).found ts a rest e in
      record { text = x.text; parts = x.parts; spelled = record { at = place_of ts; starts = starts_at p ts x.text rest x.parts (st (place_of ts) x.text a x.spelled); spelled = x.spelled } };
  only = λ text a rest d stop.
      ap (λ (q : Place). g q (text ++ rest)) (place_is text rest d.at d.starts) ∙ (law d.at).only text a rest d.spelled stop;
}

-- ---- choices by a word

abbrev pub Under : (List Lexeme → Bool) → (List Lexeme → Bool) → Type 0
Under u s = (rest : List Lexeme) → s rest ≡ false → u rest ≡ false

pub pick : {A : Type 0} {r s : List Lexeme → A → Type 0} {f g : List Lexeme → Read A} {u v : List Lexeme → Bool} (stops : List Lexeme → Bool) (w : List ℕ) (p : Lexeme → Bool)
    → Law r f u → Law s g v → Starts r (λ t. same t.text w) → Starts s p → Excludes p (w ∷ []) → Under u stops → Under v stops → Law (Either r s) (λ ts. if begins w ts then f ts else g ts) stops
pick stops w p left right a b x lu lv = law_choice (begins w) _ _ _ _ _ _ stops left right
    (record { tells = λ text c rest d st. headed_is w text rest (a text c d); own_stops = lu })
    (record { tells = λ text c rest d st. headed_not p w text rest (b text c d) x; own_stops = lv })

empty_or_not : (p : Lexeme → Bool) (w : List ℕ) (y rest : List Lexeme) → EmptyOr p y → Excludes p (w ∷ []) → begins w rest ≡ false → begins w (y ++ rest) ≡ false
empty_or_not p w y rest (inl e) x st = ap (λ (z : List Lexeme). begins w (z ++ rest)) e ∙ st
empty_or_not p w y rest (inr h) x st = headed_not p w y rest h x

pub pick_may : {A : Type 0} {r s : List Lexeme → A → Type 0} {f g : List Lexeme → Read A} {u v : List Lexeme → Bool} (stops : List Lexeme → Bool) (w : List ℕ) (p : Lexeme → Bool)
    → Law r f u → Law s g v → Starts r (λ t. same t.text w) → MayStart s p → Excludes p (w ∷ []) → Under (begins w) stops → Under u stops → Under v stops → Law (Either r s) (λ ts. if begins w ts then f ts else g ts) stops
pick_may stops w p left right a b x lw lu lv = law_choice (begins w) _ _ _ _ _ _ stops left right
    (record { tells = λ text c rest d st. headed_is w text rest (a text c d); own_stops = lu })
    (record { tells = λ text c rest d st. empty_or_not p w text rest (b text c d) x (lw rest st); own_stops = lv })

pub maybe_word : {A : Type 0} {r : List Lexeme → A → Type 0} {f : List Lexeme → Read A} {u : List Lexeme → Bool} (stops : List Lexeme → Bool) (w : List ℕ)
    → Law r f u → Starts r (λ t. same t.text w) → Under (begins w) stops → Under u stops → Law (Maybe r) (λ ts. if begins w ts then (f >>= λ a. give (Some a)) ts else Ok (None, ts)) stops
maybe_word stops w law a lw lu = law_maybe (begins w) _ _ _ stops law (record { tells = λ text c rest d st. headed_is w text rest (a text c d); own_stops = lu }) lw

-- ---- lists parted by a word

many_may : {A : Type 0} (r : List Lexeme → A → Type 0) (p : Lexeme → Bool) → Starts r p → MayStart (Many r) p
many_may r p s text [] d = inl d
many_may r p s text (a ∷ l) d = inr (subst (Headed p) (sym d.whole) (headed_append p d.front d.back (s d.front a d.first)))

pub law_listed : {A : Type 0} {r : List Lexeme → A → Type 0} {f : List Lexeme → Read A} (us ss : List (List ℕ)) (w : List ℕ)
    → Law r f (begins_any us) → apart (w ∷ []) us ≡ true → list_any (bytes_eq w) ss ≡ true → list_all (λ v. list_any (bytes_eq v) ss) us ≡ true → Law (Listed w r) (listed_at w f) (begins_any ss)
law_listed {r = r} {f = f} us ss w law x in_ss le =
    let one : Law (Behind w r) (behind w f) (begins_any us) = law_behind w law in
    let loops : Loops (begins w) (Behind w r) (begins_any us) (begins_any ss) = record {
      goes = λ text a rest d. headed_is w text rest (starts_behind w r text a d);
      takes = λ text a d. headed_takes (λ t. same t.text w) text (starts_behind w r text a d);
      ends = fewer_one w ss in_ss;
      last = fewer us ss le;
      next = λ text a rest d. headed_any (λ t. same t.text w) us text rest (starts_behind w r text a d) (same_excludes w us x);
    } in
    let more : Law (Many (Behind w r)) (all_at (begins w) (behind w f)) (begins_any ss) = law_all (begins w) (Behind w r) (behind w f) (begins_any us) (begins_any ss) one loops in
    behind_may us ss (λ t. same t.text w) law
    (λ first. law_then _ _ (begins_any ss) _ _ (begins_any ss) more (λ others. law_nothing (first ∷ others) (begins_any ss)) (λ a b y rest d st. ap (λ (z : List Lexeme). begins_any ss (z ++ rest)) d.none ∙ st))
    (λ first. may_then (many_may (Behind w r) (λ t. same t.text w) (starts_behind w r)) (λ others. may_nothing (first ∷ others) (λ t. same t.text w)))
    (same_excludes w us x) le

-- ---- the value of a rule, seen by a function

pub map_law : {A B : Type 0} {r : List Lexeme → A → Type 0} {f : List Lexeme → Read A} {s : List Lexeme → Bool} (k : A → B) → Law r f s → Law (Then r (λ a. Nothing (k a))) (f >>= λ a. give (k a)) s
map_law {s = s} k law = law_then _ _ s _ _ s law (λ a. law_nothing (k a) s) (λ a b y rest d st. ap (λ (z : List Lexeme). s (z ++ rest)) d.none ∙ st)

-- ---- what must be followed by a word

abbrev pub closes : List ℕ → List Lexeme → Bool
closes w rest = not (begins w rest)

pub closes_under : (w : List ℕ) (ss : List (List ℕ)) → apart (w ∷ []) ss ≡ true → Under (begins_any ss) (closes w)
closes_under w ss x [] st = refl
closes_under w ss x (t ∷ ts) st = same_excludes w ss x t (not-false (same t.text w) st)

pub closed_by : {A B : Type 0} {r : List Lexeme → A → Type 0} {f : List Lexeme → Read A} {g : A → Place → List Lexeme → B → Type 0} {h : A → Place → List Lexeme → Read B} {t : List Lexeme → Bool} (w : List ℕ)
    → Law r f (closes w) → ((a : A) (p : Place) → Law (g a p) (h a p) t) → Law (Then r (λ a. Then (The w) (g a))) (f >>= λ a. word_at w >>= h a) t
closed_by {t = t} w first second = law_then _ _ (closes w) _ _ t first (λ a. next (law_word w) (second a))
    (λ a b y rest d st. ap not (headed_is w y rest (starts_then (The w) _ (λ k. same k.text w) (starts_the w) y b d)))

-- ---- tests of a token's text

pub excludes_text : (q : List ℕ → Bool) (ws : List (List ℕ)) → list_all (λ w. not (q w)) ws ≡ true → Excludes (λ t. q t.text) ws
excludes_text q ws e t h = go (among ws t) refl
  where
    go : (b : Bool) → among ws t ≡ b → b ≡ false
    go true m = absurd (both_ways (q t.text) (not-true (q t.text) (among_all (λ x. not (q x) ≡ true) ws t (all_from (λ w. not (q w)) ws e) m)) h)
    go false m = refl

-- ---- words and names

abbrev pub or_named : List (List ℕ) → Lexeme → Bool
or_named ws t = among ws t || type_named t

pub excludes_or_named : (ws vs : List (List ℕ)) → apart ws vs ≡ true → list_all no_type_name vs ≡ true → Excludes (or_named ws) vs
excludes_or_named ws vs x n = excludes_or (among ws) type_named vs (excludes_among ws vs x) (excludes_type_name vs n)

pub or_left : (a b : Bool) → a ≡ true → a || b ≡ true
or_left a b e = rw e refl

pub or_right : (a b : Bool) → b ≡ true → a || b ≡ true
or_right true b e = refl
or_right false b e = e

pub word_or_named : (w : List ℕ) (ws : List (List ℕ)) (t : Lexeme) → same t.text w ≡ true → or_named (w ∷ ws) t ≡ true
word_or_named w ws t e = or_left _ (type_named t) (or_left _ (among ws t) e)

pub more_or_named : (w : List ℕ) (ws : List (List ℕ)) (t : Lexeme) → or_named ws t ≡ true → or_named (w ∷ ws) t ≡ true
more_or_named w ws t e =
    elim (or_cases (among ws t) (type_named t) e) [
      | inl h ↦ or_left _ (type_named t) (or_right (same t.text w) (among ws t) h)
      | inr h ↦ or_right (among (w ∷ ws) t) (type_named t) h
    ]

pub weaker_headed : (p q : Lexeme → Bool) (y : List Lexeme) → ((t : Lexeme) → p t ≡ true → q t ≡ true) → Headed p y → Headed q y
weaker_headed p q y f h = record { token = h.token; others = h.others; is = h.is; passes = f h.token h.passes }

-- a choice of one more word in front of words and names
pub record Picked {A : Type 0} (r : List Lexeme → A → Type 0) (f : List Lexeme → Read A) (ws : List (List ℕ)) (s : List Lexeme → Bool) : Type 0 where
  pub law : Law r f s
  pub starts : Starts r (or_named ws)

pub picks : {A : Type 0} {r s : List Lexeme → A → Type 0} {f g : List Lexeme → Read A} {u : List Lexeme → Bool} {stops : List Lexeme → Bool} {ws : List (List ℕ)} (w : List ℕ)
    → Law r f u → Starts r (λ t. same t.text w) → Under u stops → apart ws (w ∷ []) ≡ true → list_all no_type_name (w ∷ []) ≡ true → Picked s g ws stops
    → Picked (Either r s) (λ ts. if begins w ts then f ts else g ts) (w ∷ ws) stops
picks {stops = stops} {ws = ws} w law starts under x n others = record {
  law = pick stops w (or_named ws) law others.law starts others.starts (excludes_or_named ws (w ∷ []) x n) under (λ rest st. st);
  starts = starts_either _ _ (or_named (w ∷ ws)) (λ text a d. weaker_headed _ (or_named (w ∷ ws)) text (word_or_named w ws) (starts text a d)) (λ text a d. weaker_headed (or_named ws) (or_named (w ∷ ws)) text (more_or_named w ws) (others.starts text a d));
}

-- a rule or nothing, in front of one that isn't empty
starts_with_maybe : {A B : Type 0} (r : List Lexeme → A → Type 0) (g : Option A → List Lexeme → B → Type 0) (p : Lexeme → Bool) → Starts r p → ((o : Option A) → Starts (g o) p)
    → (o : Option A) (front back : List Lexeme) (b : B) → Maybe r front o → g o back b → Headed p (front ++ back)
starts_with_maybe r g p s t None front back b d e = subst (λ (z : List Lexeme). Headed p (z ++ back)) (sym d) (t None back b e)
starts_with_maybe r g p s t (Some a) front back b d e = headed_append p front back (s front a d)

pub starts_maybe : {A B : Type 0} {r : List Lexeme → A → Type 0} {g : Option A → List Lexeme → B → Type 0} (p : Lexeme → Bool) → Starts r p → ((o : Option A) → Starts (g o) p) → Starts (Then (Maybe r) g) p
starts_maybe {r = r} {g = g} p s t text b d = subst (Headed p) (sym d.whole) (starts_with_maybe r g p s t d.value d.front d.back b d.first d.second)
