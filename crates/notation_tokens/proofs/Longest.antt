-- Tokens are cut longest first, in order, with their places.
use Rattle.std.proofs.Common.{codes, ◌≡◌, ℕ, zero, suc, ◌+◌, ◌-◌, ◌<◌, ◌≤◌, Bool, true, false, List, [], ◌∷◌, ◌++◌, length, take, drop, Option, Some, None, Result, Ok, Err, refl, sym, ap, subst, ◌∙◌, arith, inl, inr}
use Rattle.std.specs.Prelude.{IfOk, ◌==◌, ◌&&◌, ◌||◌, nat_lt, nat_eq, if◌then◌else◌, slice_range, IsTrue}
use Rattle.std.specs.List.{AllByRecursion, list_all, list_any}
use Rattle.std.specs.Char.{is_ascii_alphabetic, is_ascii_alphanumeric, is_ascii_digit}
use Rattle.std.specs.Str.{bytes_eq}
use Rattle.std.proofs.lemmas.Slice.Eq.{bytes_eq-Decides}
use Rattle.std.proofs.lemmas.Bool.{ltb-true, eqb-true, or_cases, and_parts}
use Rattle.std.proofs.lemmas.Bool.Decides.{nat_tests}
use Rattle.std.proofs.lemmas.List.{length-drop, length-take-le, drop-drop, take-append-drop, take-take, drop-take}
use Rattle.osi_base.specs.Limits.{most_module_octets}
use Rattle.notation_tokens.specs.declared.token.Place.{Place}
use Rattle.notation_tokens.specs.declared.token_cutting.Lexed.{Lexed}
use Rattle.notation_tokens.specs.declared.token_cutting.Piece.{Piece}
use Rattle.notation_tokens.specs.declared.token_cutting.Piece.TheVariants.{Passed, Cut, Bad}
use Rattle.notation_tokens.specs.declared.token.Token.{Token}
use Rattle.notation_tokens.specs.Forms.{is_blank, goes_on_well, is_word, are_digits, is_number, is_sign, signs, has_form}
use Rattle.notation_tokens.specs.Lexing.{behind_octet, behind_octets, first_place, starts_alphanumeric, goes_on_length, word_length, digits_length, number_length, behind_hyphen, sign_length, single_sign_length, single_signs, starts, piece_of, cut, cut_after, lexed_of}
use Rattle.notation_tokens.specs.Texts.{Answers, tokens_of, unless_stopped, too_long}
use Rattle.notation_tokens.specs.declared.faults.NotationFault.{NotationFault}
use Rattle.notation_tokens.specs.declared.faults.NotationKind.{NotationKind}
use Rattle.notation_tokens.specs.Tokens.{AreTokens, Gap, outside, behind_all}
use Rattle.notation_tokens.proofs.Numbers.{joined}
use Rattle.notation_tokens.proofs.Gaps.{Fit, Passes, blank_passes, begins_outside, comment_passes, Passed_since, nothing_passed, more_passed, all_passed}
use Rattle.notation_tokens.proofs.Spans.{word_form, word_within, number_form, number_within, sign_form, chosen_piece}

-- ---- words

not_hyphen : (c : ℕ) → is_ascii_alphanumeric c ≡ true → (c == 45) ≡ false
not_hyphen c e = grind (arith, nat_tests)

suc_or : (b : Bool) (m n : ℕ) → b ≡ true → m ≤ n → suc m ≤ (if b then suc n else 0)
suc_or true m n e le = omega arith
suc_or false m n e le = absurd cc

or_in_left : (a b : Bool) → a ≡ true → a || b ≡ true
or_in_left true b e = refl
or_in_left false b e = absurd cc

or_in_right : (a b : Bool) → b ≡ true → a || b ≡ true
or_in_right true b e = refl
or_in_right false b e = e

-- what goes on well without a hyphen before it begins with a letter or digit
starts_well_on : (n : ℕ) (cs : List ℕ) → goes_on_well false (take n cs) ≡ true → starts_alphanumeric cs ≡ true
starts_well_on zero cs e = absurd cc
starts_well_on (suc n) [] e = absurd cc
starts_well_on (suc n) (c ∷ cs) e = go (c == 45) e
  where
    go : (b : Bool) → (if b then false && goes_on_well false (take n cs) else is_ascii_alphanumeric c && goes_on_well true (take n cs)) ≡ true → is_ascii_alphanumeric c ≡ true
    go true h = absurd cc
    go false h = (and_parts (is_ascii_alphanumeric c) (goes_on_well true (take n cs)) h).0

goes_on_step : (bare : Bool) (c : ℕ) (n : ℕ) (cs : List ℕ) → ((b : Bool) → goes_on_well b (take n cs) ≡ true → n ≤ goes_on_length cs)
    → (h : Bool) → (c == 45) ≡ h → (if h then bare && goes_on_well false (take n cs) else is_ascii_alphanumeric c && goes_on_well true (take n cs)) ≡ true
    → suc n ≤ (if is_ascii_alphanumeric c || c == 45 && starts_alphanumeric cs then suc (goes_on_length cs) else 0)
goes_on_step bare c n cs ih true is e =
    let p = and_parts bare (goes_on_well false (take n cs)) e in
    suc_or _ n (goes_on_length cs) (or_in_right (is_ascii_alphanumeric c) _ (joined (c == 45) (starts_alphanumeric cs) is (starts_well_on n cs p.1))) (ih false p.1)
goes_on_step bare c n cs ih false is e =
    let p = and_parts (is_ascii_alphanumeric c) (goes_on_well true (take n cs)) e in
    suc_or _ n (goes_on_length cs) (or_in_left (is_ascii_alphanumeric c) _ p.0) (ih true p.1)

goes_on_longest : (cs : List ℕ) (n : ℕ) (bare : Bool) → n ≤ length cs → goes_on_well bare (take n cs) ≡ true → n ≤ goes_on_length cs
goes_on_longest cs zero bare le e = omega arith
goes_on_longest [] (suc n) bare le e = absurd (omega arith)
goes_on_longest (c ∷ cs) (suc n) bare le e = goes_on_step bare c n cs (λ b h. goes_on_longest cs n b (omega arith) h) (c == 45) refl e

pub word_longest : (rest : List ℕ) (n : ℕ) → n ≤ length rest → is_word (take n rest) ≡ true → n ≤ word_length rest
word_longest rest zero le e = omega arith
word_longest [] (suc n) le e = absurd (omega arith)
word_longest (c ∷ cs) (suc n) le e =
    let p = and_parts (is_ascii_alphabetic c) (goes_on_well true (take n cs)) e in
    suc_or (is_ascii_alphabetic c) n (goes_on_length cs) p.0 (goes_on_longest cs n true (omega arith) p.1)

-- ---- numbers

digits_longest : (cs : List ℕ) (n : ℕ) → n ≤ length cs → list_all is_ascii_digit (take n cs) ≡ true → n ≤ digits_length cs
digits_longest cs zero le e = omega arith
digits_longest [] (suc n) le e = absurd (omega arith)
digits_longest (c ∷ cs) (suc n) le e =
    let p = and_parts (is_ascii_digit c) (list_all is_ascii_digit (take n cs)) e in
    suc_or (is_ascii_digit c) n (digits_length cs) p.0 (digits_longest cs n (omega arith) p.1)

all_digits : (text : List ℕ) → are_digits text ≡ true → list_all is_ascii_digit text ≡ true
all_digits [] e = absurd cc
all_digits (d ∷ ds) e = e

are_some : (n : ℕ) (cs : List ℕ) → are_digits (take n cs) ≡ true → 0 < n
are_some zero cs e = absurd cc
are_some (suc n) cs e = omega arith

behind_up : (n m : ℕ) → 0 < n → n ≤ m → suc n ≤ behind_hyphen m
behind_up n zero lt le = absurd (omega arith)
behind_up n (suc m) lt le = omega arith

number_step : (c : ℕ) (cs : List ℕ) (n : ℕ) → n ≤ length cs → (b : Bool) → (if b then are_digits (take n cs) else are_digits (c ∷ take n cs)) ≡ true → suc n ≤ (if b then behind_hyphen (digits_length cs) else digits_length (c ∷ cs))
number_step c cs n le true e = behind_up n (digits_length cs) (are_some n cs e) (digits_longest cs n le (all_digits (take n cs) e))
number_step c cs n le false e = digits_longest (c ∷ cs) (suc n) (omega arith) e

pub number_longest : (rest : List ℕ) (n : ℕ) → n ≤ length rest → is_number (take n rest) ≡ true → n ≤ number_length rest
number_longest rest zero le e = omega arith
number_longest [] (suc n) le e = absurd (omega arith)
number_longest (c ∷ cs) (suc n) le e = number_step c cs n (omega arith) (c == 45) e

-- ---- signs

low : (k : ℕ) (b : Bool) (n m : ℕ) → (b ≡ true → k ≤ n) → (b ≡ false → k ≤ m) → k ≤ (if b then n else m)
low k true n m f g = f refl
low k false n m f g = g refl

clash : (b : Bool) → b ≡ true → b ≡ false → ⊥
clash true e f = absurd cc
clash false e f = absurd cc

single_low : (c : ℕ) → list_any (λ s. nat_eq s c) single_signs ≡ true → (rest : List ℕ) → starts (c ∷ []) rest ≡ true → 1 ≤ single_sign_length rest
single_low c is [] e = absurd cc
single_low c is (d ∷ cs) e =
    let same_octet : c ≡ d = eqb-true c d (and_parts (nat_eq c d) true e).0 in
    low 1 (list_any (λ s. nat_eq s d) single_signs) 1 0 (λ h. omega arith) (λ h. absurd (clash (list_any (λ s. nat_eq s d) single_signs) (subst (λ (z : ℕ). list_any (λ s. nat_eq s z) single_signs ≡ true) same_octet is) h))

module _ (rest : List ℕ) where
  abbrev P : List ℕ → Type 0
  P s = starts s rest ≡ true → length s ≤ sign_length rest

  single_case : (c : ℕ) → list_any (λ s. nat_eq s c) single_signs ≡ true → P (c ∷ [])
  single_case c is e =
      low 1 (starts (codes "::=") rest) 3 _ (λ h. omega arith) (λ h. low 1 (starts (codes "...") rest) 3 _ (λ h. omega arith) (λ h. low 1 (starts (codes "..") rest) 2 _ (λ h. omega arith) (λ h. low 1 (starts (codes "/*") rest) 2 _ (λ h. omega arith) (λ h. single_low c is rest e))))

  all_signs : AllByRecursion P signs
  all_signs = (
    (λ e. low 3 (starts (codes "::=") rest) 3 _ (λ h. omega arith) (λ h. absurd (clash _ e h))),
    (
      (λ e. low 3 (starts (codes "::=") rest) 3 _ (λ h. omega arith) (λ h. low 3 (starts (codes "...") rest) 3 _ (λ h. omega arith) (λ h. absurd (clash _ e h)))),
      (
        (λ e. low 2 (starts (codes "::=") rest) 3 _ (λ h. omega arith) (λ h. low 2 (starts (codes "...") rest) 3 _ (λ h. omega arith) (λ h. low 2 (starts (codes "..") rest) 2 _ (λ h. omega arith) (λ h. absurd (clash _ e h))))),
        (
          (λ e. low 2 (starts (codes "::=") rest) 3 _ (λ h. omega arith) (λ h. low 2 (starts (codes "...") rest) 3 _ (λ h. omega arith) (λ h. low 2 (starts (codes "..") rest) 2 _ (λ h. omega arith) (λ h. low 2 (starts (codes "/*") rest) 2 _ (λ h. omega arith) (λ h. absurd (clash _ e h)))))),
          (single_case 123 refl, (single_case 125 refl, (single_case 40 refl, (single_case 41 refl, (single_case 91 refl, (single_case 93 refl, (single_case 44 refl, (single_case 59 refl, (single_case 58 refl, (single_case 124 refl, tt)))))))))),
        ),
      ),
    ),
  )

  sign_of : (n : ℕ) → n ≤ length rest → (ss : List (List ℕ)) → AllByRecursion P ss → list_any (bytes_eq (take n rest)) ss ≡ true → n ≤ sign_length rest
  sign_of n le [] all e = absurd cc
  sign_of n le (s ∷ ss) all e =
      elim (or_cases (bytes_eq (take n rest) s) (list_any (bytes_eq (take n rest)) ss) e) [
        | inl h ↦ sign_is n le s ((bytes_eq-Decides (take n rest) s).0 h) all.0
        | inr h ↦ sign_of n le ss all.1 h
      ]
    where
      sign_is : (n : ℕ) → n ≤ length rest → (s : List ℕ) → take n rest ≡ s → P s → n ≤ sign_length rest
      sign_is n le s same_text p =
          let long : n ≡ length s = sym (length-take-le n rest le) ∙ ap length same_text in
          let begin : take (length s) rest ≡ s = ap (λ (k : ℕ). take k rest) (sym long) ∙ same_text in
          let st : starts s rest ≡ true = (bytes_eq-Decides s (take (length s) rest)).1 (sym begin) in
          omega (arith, p st, long)

  pub sign_longest : (n : ℕ) → n ≤ length rest → is_sign (take n rest) ≡ true → n ≤ sign_length rest
  sign_longest n le e = sign_of n le signs all_signs e

-- ---- pieces

abbrev pub Longest : List ℕ → Piece → Type 0
Longest rest (Passed n) = Passes rest n
Longest rest (Cut kind n) = (0 < n) × (n ≤ length rest) × IsTrue (has_form kind (take n rest)) × ((k : ℕ) → k ≤ length rest → IsTrue (has_form kind (take k rest)) → k ≤ n) × ((g : Gap) → Fit g rest → g ≡ outside)
Longest rest Bad = Unit {0}

pub chosen_by : (P : Piece → Type 0) (b : Bool) (p q : Piece) → (b ≡ true → P p) → (b ≡ false → P q) → P (if b then p else q)
chosen_by P true p q f g = f refl
chosen_by P false p q f g = g refl

pub piece_longest : (c : ℕ) (cs : List ℕ) → Longest (c ∷ cs) (piece_of (c ∷ cs))
unfolding piece_of
piece_longest c cs =
    let rest = c ∷ cs in
    chosen_by (Longest rest) (is_blank c) _ _ (λ e. blank_passes c cs e) (λ dark.
    chosen_piece (Longest rest) (starts (codes "--") rest) _ _ (λ e. comment_passes c cs dark e)
    (chosen_piece (Longest rest) (nat_lt 0 (word_length rest)) _ _ (λ e. (ltb-true _ _ e, word_within rest, word_form rest (ltb-true _ _ e), word_longest rest, begins_outside c cs dark))
    (chosen_piece (Longest rest) (nat_lt 0 (number_length rest)) _ _ (λ e. (ltb-true _ _ e, number_within rest, number_form rest (ltb-true _ _ e), number_longest rest, begins_outside c cs dark))
    (chosen_piece (Longest rest) (nat_lt 0 (sign_length rest)) _ _ (λ e. let f = sign_form rest (ltb-true _ _ e) in (ltb-true _ _ e, f.1, f.0, sign_longest rest, begins_outside c cs dark)) tt))))

-- ---- all tokens of a text

behind_append : (p : Place) (x y : List ℕ) → behind_octets p (x ++ y) ≡ behind_octets (behind_octets p x) y
behind_append p [] y = refl
behind_append p (c ∷ x) y = behind_append (behind_octet p c) x y

take_add : (n m : ℕ) (xs : List ℕ) → take (n + m) xs ≡ take n xs ++ take m (drop n xs)
take_add n m xs =
    sym (take-append-drop n (take (n + m) xs)) ∙ ap (λ (z : List ℕ). z ++ drop n (take (n + m) xs)) (take-take n (n + m) xs (omega arith)) ∙ ap (λ (z : List ℕ). take n xs ++ z) (drop-take n m xs)

-- where cutting stands
pub record Stands (source : List ℕ) (from : ℕ) (p : Place) (rest : List ℕ) : Type 0 where
  pub left : rest ≡ drop from source
  pub here : p ≡ behind_octets first_place (take from source)

pub moves : (source : List ℕ) (from : ℕ) (p : Place) (rest : List ℕ) (n : ℕ) → Stands source from p rest → Stands source (from + n) (behind_octets p (take n rest)) (drop n rest)
moves source from p rest n s = record {
  left = ap (drop n) s.left ∙ drop-drop n from source;
  here = ap (λ (q : Place). behind_octets q (take n rest)) s.here ∙ sym (behind_append first_place (take from source) (take n rest)) ∙ ap (behind_octets first_place) (ap (λ (z : List ℕ). take from source ++ take n z) s.left ∙ sym (take_add from n source));
}

pub slice_is : (source : List ℕ) (from : ℕ) (p : Place) (rest : List ℕ) (n : ℕ) → Stands source from p rest → slice_range source from (from + n) ≡ take n rest
slice_is source from p rest n s =
    let k : (from + n) - from ≡ n = omega arith in
    ap (λ (i : ℕ). take i (drop from source)) k ∙ ap (take n) (sym s.left)

tokens_after : (source : List ℕ) (more : ℕ → ℕ → Place → List ℕ → Lexed)
    → ((left from : ℕ) (p : Place) (rest : List ℕ) (least : ℕ) → Stands source from p rest → least ≤ from → Passed_since source least from → (more left from p rest).stop ≡ None → AreTokens source least (more left from p rest).tokens)
    → (left from : ℕ) (p : Place) (rest : List ℕ) (least : ℕ) (piece : Piece) → Stands source from p rest → 0 < length rest → least ≤ from → Passed_since source least from → Longest rest piece
    → (cut_after more left from p rest piece).stop ≡ None → AreTokens source least (cut_after more left from p rest piece).tokens
tokens_after source more ih left from p rest least (Passed n) s some le g f e =
    ih left (from + n) (behind_octets p (take n rest)) (drop n rest) least (moves source from p rest n s) (omega arith) (more_passed source least from n le (subst (λ (z : List ℕ). Passes z n) s.left f) g) e
tokens_after source more ih zero from p rest least (Cut kind n) s some le g f e = absurd cc
tokens_after source more ih (suc left) from p rest least (Cut kind n) s some le g f e =
    let length_is : length rest ≡ length source - from = ap length s.left ∙ length-drop from source in
    let in_front : Fit (behind_all outside (slice_range source least from)) rest = subst (λ (z : List ℕ). Fit (behind_all outside (slice_range source least from)) z) (sym s.left) g in (
      record {
        some = omega (arith, f.0);
        within = omega (arith, f.1, length_is);
        form = subst (λ (z : List ℕ). IsTrue (has_form kind z)) (sym (slice_is source from p rest n s)) f.2;
        longest = λ k fits e. let le_n : k ≤ n = f.3 k (omega (arith, length_is)) (subst (λ (z : List ℕ). IsTrue (has_form kind z)) (slice_is source from p rest k s) e) in omega arith;
        place = s.here;
      },
      le,
      f.4 (behind_all outside (slice_range source least from)) in_front,
      ih left (from + n) (behind_octets p (take n rest)) (drop n rest) (from + n) (moves source from p rest n s) (omega arith) (nothing_passed source (from + n)) e,
    )
tokens_after source more ih left from p rest least Bad s some le g f e = absurd cc

cut_tokens : (source : List ℕ) (turns left from : ℕ) (p : Place) (rest : List ℕ) (least : ℕ) → Stands source from p rest → least ≤ from → Passed_since source least from
    → (cut turns left from p rest).stop ≡ None → AreTokens source least (cut turns left from p rest).tokens
unfolding cut
cut_tokens source turns left from p [] least s le g e = all_passed source least from le (sym s.left) g
cut_tokens source zero left from p (c ∷ cs) least s le g e = absurd cc
cut_tokens source (suc turns) left from p (c ∷ cs) least s le g e = tokens_after source (cut turns) (cut_tokens source turns) left from p (c ∷ cs) least (piece_of (c ∷ cs)) s (omega arith) le g (piece_longest c cs) e

lexed_tokens : (text : List ℕ) → (lexed_of text).stop ≡ None → AreTokens text 0 (lexed_of text).tokens
unfolding lexed_of
lexed_tokens text e = cut_tokens text (length text) _ 0 first_place text 0 (record { left = refl; here = refl }) (omega arith) (nothing_passed text 0) e

record Unstopped (o : Option NotationKind) (ts l : List Token) : Type 0 where
  none : o ≡ None
  is : ts ≡ l

unstopped_tokens : (o : Option NotationKind) (p : Place) (ts l : List Token) → unless_stopped o p ts ≡ Ok l → Unstopped o ts l
unstopped_tokens None p ts l e = record { none = refl; is = cc }
unstopped_tokens (Some kind) p ts l e = absurd cc

tokens_are : (text : List ℕ) (ts : List Token) → tokens_of text ≡ Ok ts → AreTokens text 0 ts
unfolding tokens_of
tokens_are text ts e = go (nat_lt most_module_octets (length text)) e
  where
    go : (b : Bool) → (if b then too_long else unless_stopped (lexed_of text).stop (lexed_of text).place (lexed_of text).tokens) ≡ Ok ts → AreTokens text 0 ts
    go true h = absurd cc
    go false h =
        let u = unstopped_tokens (lexed_of text).stop (lexed_of text).place (lexed_of text).tokens ts h in
        subst (AreTokens text 0) u.is (lexed_tokens text u.none)

pub lex_tokens : (text : List ℕ) (r : Result (List Token) NotationFault) → Answers r (tokens_of text) → IfOk r (λ ts. AreTokens text 0 ts)
lex_tokens text (Ok ts) h = tokens_are text ts h
lex_tokens text (Err e) h = tt
