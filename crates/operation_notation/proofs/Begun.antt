-- Where reading stops, what it passed goes on to what the grammar spells: the laws of the means.
use Rattle.std.proofs.Common.{◌≡◌, ℕ, zero, suc, ◌≤◌, Bool, true, false, List, [], ◌∷◌, ◌++◌, length, Option, Some, None, Ok, Err, refl, sym, ap, subst, ◌∙◌, append_assoc, append-nil, arith, inl, inr}
use Rattle.std.specs.Prelude.{◌⊎◌, if◌then◌else◌}
use Rattle.std.specs.List.{AllByRecursion}
use Rattle.std.proofs.lemmas.Slice.Eq.{bytes_eq-Decides}
use Rattle.notation_tokens.specs.Forms.{has_form}
use Rattle.notation_tokens.specs.Lexeme.{Lexeme, same, begins}
use Rattle.notation_tokens.specs.Words.{place, word_of}
use Rattle.notation_tokens.specs.Lexing.{first_place}
use Rattle.operation_notation.specs.Reading.{◌>>=◌, give, here, place_of, Read, token_at, refuse_as, kind_at, word_at, many_at, all_at, behind, listed_at}
use Rattle.operation_notation.specs.Faults.{IsFormed}
use Rattle.operation_notation.specs.Grammar.{One, Then, Nothing, Either, Maybe, Many, The, Behind, Listed, Placed, StartsAt}
use Rattle.notation_tokens.specs.declared.token.TokenKind.{TokenKind}
use Rattle.notation_tokens.specs.declared.token.Place.{Place}
use Rattle.notation_tokens.specs.declared.faults.NotationKind.{NotationKind}
use Rattle.notation_tokens.specs.declared.faults.NotationKind.TheVariants.{Unsupported, UnexpectedToken}
use Rattle.operation_notation.proofs.Means.{Front, never, after_ok, law_one, law_nothing}
use Rattle.operation_notation.proofs.Starts.{Headed, Starts}
use Rattle.operation_notation.proofs.Chains.{starts_at}
use Rattle.operation_notation.proofs.Local.{fault, failed, fault_is, after_err, left_out}

-- a token with which a text may be filled up
pub record IsFiller (t : Lexeme) : Type 0 where
  pub form : IsFormed t
  pub at : place t ≡ first_place

abbrev pub AreFillers : List Lexeme → Type 0
AreFillers ts = AllByRecursion IsFiller ts

fillers_append : (x y : List Lexeme) → AreFillers x → AreFillers y → AreFillers (x ++ y)
fillers_append [] y p q = q
fillers_append (t ∷ x) y p q = (p.0, fillers_append x y p.1 q)

-- some text of a rule
pub record Filled {A : Type 0} (r : List Lexeme → A → Type 0) : Type 0 where
  pub text : List Lexeme
  pub value : A
  pub filler : AreFillers text
  pub spelled : r text value

-- these tokens and one more go on to a text of the rule
pub record Goes {A : Type 0} (r : List Lexeme → A → Type 0) (front : List Lexeme) (t : Lexeme) : Type 0 where
  pub back : List Lexeme
  pub value : A
  pub filler : AreFillers back
  pub spelled : r (front ++ t ∷ back) value

-- The kind of a fault behind these tokens. Where it is asked, what isn't supported here but elsewhere goes on under the rule.
abbrev pub KindOf : {A : Type 0} → Bool → (List Lexeme → A → Type 0) → List Lexeme → List Lexeme → NotationKind → Type 0
KindOf s r front [] k = k ≡ UnexpectedToken
KindOf s r front (t ∷ u) k = (k ≡ kind_at (t ∷ u)) ⊎ ((k ≡ Unsupported) × (s ≡ true → Goes r front t))

-- reading stopped in front of the rest: what stands before it goes on to a text of the rule
pub record Halts {A : Type 0} (s : Bool) (r : List Lexeme → A → Type 0) (ts rest : List Lexeme) (k : NotationKind) : Type 0 where
  pub front : List Lexeme
  pub back : List Lexeme
  pub value : A
  pub filler : AreFillers back
  pub whole : ts ≡ front ++ rest
  pub spelled : r (front ++ back) value
  pub kind : KindOf s r front rest k

pub record Begun {A : Type 0} (s : Bool) (r : List Lexeme → A → Type 0) (f : List Lexeme → Read A) : Type 0 where
  pub found : (ts : List Lexeme) (a : A) (rest : List Lexeme) → f ts ≡ Ok (a, rest) → Front r ts a rest
  pub halts : (ts rest : List Lexeme) (k : NotationKind) → f ts ≡ Err (fault rest k) → Halts s r ts rest k
  pub filled : Filled r

-- what goes on to a text of another rule
pub record Longer {A : Type 0} (q : List Lexeme → A → Type 0) (ts : List Lexeme) : Type 0 where
  pub tail : List Lexeme
  pub value : A
  pub filler : AreFillers tail
  pub spelled : q (ts ++ tail) value

pub now : {A : Type 0} (q : List Lexeme → A → Type 0) (ts : List Lexeme) (a : A) → q ts a → Longer q ts
now q ts a d = record { tail = []; value = a; filler = tt; spelled = subst (λ (z : List Lexeme). q z a) (sym (append-nil ts)) d }

module _ {A B : Type 0} (s : Bool) (r : List Lexeme → A → Type 0) (q : List Lexeme → B → Type 0) (front far : List Lexeme) (to : (more : List Lexeme) (a : A) → r (front ++ more) a → Longer q (far ++ more)) where
  goes_map : (t : Lexeme) → Goes r front t → Goes q far t
  goes_map t g =
      let x = to (t ∷ g.back) g.value g.spelled in
      record {
        back = g.back ++ x.tail;
        value = x.value;
        filler = fillers_append g.back x.tail g.filler x.filler;
        spelled = subst (λ (z : List Lexeme). q z x.value) (append_assoc far (t ∷ g.back) x.tail) x.spelled;
      }

  pub kind_map : (rest : List Lexeme) (k : NotationKind) → KindOf s r front rest k → KindOf s q far rest k
  kind_map [] k e = e
  kind_map (t ∷ u) k (inl e) = inl e
  kind_map (t ∷ u) k (inr p) = inr (p.0, λ st. goes_map t (p.1 st))

-- ---- refusals

pub kind_is : {A : Type 0} (s : Bool) (r : List Lexeme → A → Type 0) (ts : List Lexeme) → KindOf s r [] ts (kind_at ts)
unfolding kind_at
kind_is s r [] = refl
kind_is s r (t ∷ ts) = inl refl

pub refused_at : {A : Type 0} {s : Bool} {r : List Lexeme → A → Type 0} (ts rest : List Lexeme) (d k : NotationKind) → Filled r → KindOf s r [] ts d → failed {A = A} (fault ts d) ≡ Err (fault rest k) → Halts s r ts rest k
refused_at {s = s} {r = r} ts rest d k w i e =
    let q = fault_is (fault ts d) (fault rest k) e in
    let at_rest : Halts s r ts rest d = record { front = []; back = w.text; value = w.value; filler = w.filler; whole = ap (λ (z : _). z.rest) q; spelled = w.spelled; kind = subst (λ (z : List Lexeme). KindOf s r [] z d) (ap (λ (z : _). z.rest) q) i } in
    subst (λ (z : NotationKind). Halts s r ts rest z) (ap (λ (z : _). z.kind) q) at_rest

pub begun_refuse : {A : Type 0} {s : Bool} {r : List Lexeme → A → Type 0} (kind : List Lexeme → NotationKind) → Filled r → ((ts : List Lexeme) → KindOf s r [] ts (kind ts)) → Begun s r (λ ts. refuse_as (kind ts) ts)
begun_refuse kind w i = record {
  found = λ ts a rest e. absurd cc;
  halts = λ ts rest k e. refused_at ts rest (kind ts) k w (i ts) e;
  filled = w;
}

-- ---- one token, and nothing

module _ {A : Type 0} (test : Lexeme → Option A) (kind : TokenKind) (text : List ℕ) (a : A) (form : has_form kind text ≡ true) where
  abbrev filler_token : Lexeme
  filler_token = record { kind = kind; text = text; line = 1; column = 1 }

  one_filled : test filler_token ≡ Some a → Filled (One test)
  one_filled e = record { text = filler_token ∷ []; value = a; filler = (record { form = inl form; at = refl }, tt); spelled = record { token = filler_token; alone = refl; passes = e } }

  one_halts : {s : Bool} → test filler_token ≡ Some a → (ts rest : List Lexeme) (k : NotationKind) → token_at test ts ≡ Err (fault rest k) → Halts s (One test) ts rest k
  one_halts {s = s} w [] rest k e = refused_at [] rest (kind_at []) k (one_filled w) (kind_is s (One test) []) e
  one_halts {s = s} w (t ∷ ts) rest k e = refused_at (t ∷ ts) rest (kind_at (t ∷ ts)) k (one_filled w) (kind_is s (One test) (t ∷ ts)) (left_out (test t) t ts (fault rest k) e).1

  pub begun_one : {s : Bool} → test filler_token ≡ Some a → Begun s (One test) (token_at test)
  begun_one w = record { found = (law_one test).found; halts = one_halts w; filled = one_filled w }

same_self : (w : List ℕ) → same w w ≡ true
unfolding same
same_self w = (bytes_eq-Decides w w).1 refl

pub word_passes : (kind : TokenKind) (w : List ℕ) → word_of w (record { kind = kind; text = w; line = 1; column = 1 }) ≡ Some first_place
unfolding word_of
word_passes kind w = rw (same_self w) refl

pub begun_word : {s : Bool} (kind : TokenKind) (w : List ℕ) → has_form kind w ≡ true → Begun s (The w) (word_at w)
unfolding word_at
begun_word kind w form = begun_one (word_of w) kind w first_place form (word_passes kind w)

pub begun_give : {A : Type 0} {s : Bool} (a : A) → Begun s (Nothing a) (give a)
begun_give a = record {
  found = (law_nothing a never).found;
  halts = λ ts rest k e. absurd cc;
  filled = record { text = []; value = a; filler = tt; spelled = record { none = refl; same_value = refl } };
}

-- ---- one behind the other

module _ {A B : Type 0} {s : Bool} (r : List Lexeme → A → Type 0) (f : List Lexeme → Read A) (g : A → List Lexeme → B → Type 0) (h : A → List Lexeme → Read B) (first : Begun s r f) (second : (a : A) → Begun s (g a) (h a)) where
  then_found : (ts : List Lexeme) (b : B) (rest : List Lexeme) → (f >>= h) ts ≡ Ok (b, rest) → Front (Then r g) ts b rest
  then_found ts b rest e =
      let p = after_ok (f ts) h b rest e in
      let x = first.found ts p.value p.mid p.is in
      let y = (second p.value).found p.mid b rest p.behind in
      record {
        text = x.text ++ y.text;
        parts = x.parts ∙ ap (λ (z : List Lexeme). x.text ++ z) y.parts ∙ sym (append_assoc x.text y.text rest);
        spelled = record { front = x.text; back = y.text; value = p.value; whole = refl; first = x.spelled; second = y.spelled };
      }

  on : (front more : List Lexeme) (a : A) → r (front ++ more) a → Longer (Then r g) (front ++ more)
  on front more a d =
      let w = (second a).filled in
      record { tail = w.text; value = w.value; filler = w.filler; spelled = record { front = front ++ more; back = w.text; value = a; whole = refl; first = d; second = w.spelled } }

  first_halts : (ts rest : List Lexeme) (k : NotationKind) → Halts s r ts rest k → Halts s (Then r g) ts rest k
  first_halts ts rest k x =
      let w = (second x.value).filled in
      record {
        front = x.front;
        back = x.back ++ w.text;
        value = w.value;
        filler = fillers_append x.back w.text x.filler w.filler;
        whole = x.whole;
        spelled = record { front = x.front ++ x.back; back = w.text; value = x.value; whole = sym (append_assoc x.front x.back w.text); first = x.spelled; second = w.spelled };
        kind = kind_map s r (Then r g) x.front x.front (on x.front) rest k x.kind;
      }

  second_halts : (ts : List Lexeme) (a : A) (mid rest : List Lexeme) (k : NotationKind) → Front r ts a mid → Halts s (g a) mid rest k → Halts s (Then r g) ts rest k
  second_halts ts a mid rest k x y = record {
    front = x.text ++ y.front;
    back = y.back;
    value = y.value;
    filler = y.filler;
    whole = x.parts ∙ ap (λ (z : List Lexeme). x.text ++ z) y.whole ∙ sym (append_assoc x.text y.front rest);
    spelled = record { front = x.text; back = y.front ++ y.back; value = a; whole = append_assoc x.text y.front y.back; first = x.spelled; second = y.spelled };
    kind = kind_map s (g a) (Then r g) y.front (x.text ++ y.front)
        (λ more b d. now (Then r g) ((x.text ++ y.front) ++ more) b (record { front = x.text; back = y.front ++ more; value = a; whole = append_assoc x.text y.front more; first = x.spelled; second = d }))
        rest k y.kind;
  }

  then_halts : (ts rest : List Lexeme) (k : NotationKind) → (f >>= h) ts ≡ Err (fault rest k) → Halts s (Then r g) ts rest k
  then_halts ts rest k e =
      elim (after_err (f ts) h (fault rest k) e) [
        | inl q ↦ first_halts ts rest k (first.halts ts rest k (sym q))
        | inr q ↦ second_halts ts q.0.0 q.0.1 rest k (first.found ts q.0.0 q.0.1 q.1) ((second q.0.0).halts q.0.1 rest k q.2)
      ]

  then_filled : Filled (Then r g)
  then_filled =
      let x = first.filled in
      let y = (second x.value).filled in
      record { text = x.text ++ y.text; value = y.value; filler = fillers_append x.text y.text x.filler y.filler; spelled = record { front = x.text; back = y.text; value = x.value; whole = refl; first = x.spelled; second = y.spelled } }

  pub begun_both : Begun s (Then r g) (f >>= h)
  begun_both = record { found = then_found; halts = then_halts; filled = then_filled }

pub bthen : {A B : Type 0} {s : Bool} {r : List Lexeme → A → Type 0} {f : List Lexeme → Read A} {g : A → List Lexeme → B → Type 0} {h : A → List Lexeme → Read B} → Begun s r f → ((a : A) → Begun s (g a) (h a)) → Begun s (Then r g) (f >>= h)
bthen first second = begun_both _ _ _ _ first second

pub bbehind : {A : Type 0} {s : Bool} {r : List Lexeme → A → Type 0} {f : List Lexeme → Read A} (kind : TokenKind) (w : List ℕ) → has_form kind w ≡ true → Begun s r f → Begun s (Behind w r) (behind w f)
bbehind kind w form b = bthen (begun_word kind w form) (λ _. b)

-- ---- the same reading under a wider rule

pub bwiden : {A : Type 0} {s : Bool} {r q : List Lexeme → A → Type 0} {f : List Lexeme → Read A} → Begun s r f → ((ts : List Lexeme) (a : A) → r ts a → q ts a) → Begun s q f
bwiden {s = s} {r = r} {q = q} b to = record {
  found = λ ts a rest e. let x = b.found ts a rest e in record { text = x.text; parts = x.parts; spelled = to x.text a x.spelled };
  halts = λ ts rest k e. let x = b.halts ts rest k e in record { front = x.front; back = x.back; value = x.value; filler = x.filler; whole = x.whole; spelled = to (x.front ++ x.back) x.value x.spelled; kind = kind_map s r q x.front x.front (λ more a d. now q (x.front ++ more) a (to (x.front ++ more) a d)) rest k x.kind };
  filled = let x = b.filled in record { text = x.text; value = x.value; filler = x.filler; spelled = to x.text x.value x.spelled };
}

-- what a rule spells, where nothing stands behind it
pub record Alone {A B : Type 0} (r : List Lexeme → A → Type 0) (k : A → B) (ts : List Lexeme) (b : B) : Type 0 where
  pub value : A
  pub is : k value ≡ b
  pub spelled : r ts value

pub alone : {A B : Type 0} (r : List Lexeme → A → Type 0) (k : A → B) (ts : List Lexeme) (b : B) → Then r (λ a. Nothing (k a)) ts b → Alone r k ts b
alone r k ts b d = record {
  value = d.value;
  is = d.second.same_value;
  spelled = subst (λ (z : List Lexeme). r z d.value) (sym (d.whole ∙ ap (λ (z : List Lexeme). d.front ++ z) d.second.none ∙ append-nil d.front)) d.first;
}

-- ---- choices

module _ {A : Type 0} {s : Bool} (r : List Lexeme → A → Type 0) (f g : List Lexeme → Read A) (left : Begun s r f) (right : Begun s r g) where
  picked_found : (b : Bool) (ts : List Lexeme) (a : A) (rest : List Lexeme) → (if b then f ts else g ts) ≡ Ok (a, rest) → Front r ts a rest
  picked_found true = left.found
  picked_found false = right.found

  picked_halts : (b : Bool) (ts rest : List Lexeme) (k : NotationKind) → (if b then f ts else g ts) ≡ Err (fault rest k) → Halts s r ts rest k
  picked_halts true = left.halts
  picked_halts false = right.halts

  pub begun_picked : (test : List Lexeme → Bool) → Begun s r (λ ts. if test ts then f ts else g ts)
  begun_picked test = record {
    found = λ ts. picked_found (test ts) ts;
    halts = λ ts. picked_halts (test ts) ts;
    filled = right.filled;
  }

-- either way the same rule
pub bsame : {A : Type 0} {s : Bool} {r : List Lexeme → A → Type 0} {f g : List Lexeme → Read A} (test : List Lexeme → Bool) → Begun s r f → Begun s r g → Begun s r (λ ts. if test ts then f ts else g ts)
bsame test left right = begun_picked _ _ _ left right test

-- one rule or the other
pub bpick : {A : Type 0} {s : Bool} {r q : List Lexeme → A → Type 0} {f g : List Lexeme → Read A} (test : List Lexeme → Bool) → Begun s r f → Begun s q g → Begun s (Either r q) (λ ts. if test ts then f ts else g ts)
bpick test left right = bsame test (bwiden left (λ ts a d. inl d)) (bwiden right (λ ts a d. inr d))

-- a rule, or nothing
some_maybe : {A : Type 0} (r : List Lexeme → A → Type 0) (ts : List Lexeme) (o : Option A) → Then r (λ a. Nothing (Some a)) ts o → Maybe r ts o
some_maybe r ts o d = let x = alone r Some ts o d in subst (λ (z : Option _). Maybe r ts z) x.is x.spelled

none_maybe : {A : Type 0} (r : List Lexeme → A → Type 0) (ts : List Lexeme) (o : Option A) → Nothing None ts o → Maybe r ts o
none_maybe r ts o d = subst (λ (z : Option _). Maybe r ts z) d.same_value d.none

pub bmaybe : {A : Type 0} {s : Bool} {r : List Lexeme → A → Type 0} {f : List Lexeme → Read A} (test : List Lexeme → Bool) → Begun s r f → Begun s (Maybe r) (λ ts. if test ts then (f >>= λ a. give (Some a)) ts else Ok (None, ts))
bmaybe {r = r} test b = bsame test (bwiden (bthen b (λ a. begun_give (Some a))) (some_maybe r)) (bwiden (begun_give None) (none_maybe r))

-- ---- again and again

-- at most so many times
pub record UpTo {A : Type 0} (r : List Lexeme → A → Type 0) (n : ℕ) (ts : List Lexeme) (l : List A) : Type 0 where
  pub spelled : Many r ts l
  pub few : length l ≤ n

no_more : {A : Type 0} (r : List Lexeme → A → Type 0) (n : ℕ) (ts : List Lexeme) (l : List A) → Nothing [] ts l → UpTo r n ts l
no_more r n ts l d = subst (λ (z : List _). UpTo r n ts z) d.same_value (record { spelled = d.none; few = omega arith })

one_more : {A : Type 0} (r : List Lexeme → A → Type 0) (n : ℕ) (ts : List Lexeme) (l : List A) → Then r (λ a. Then (UpTo r n) (λ more. Nothing (a ∷ more))) ts l → UpTo r (suc n) ts l
one_more r n ts l d =
    let x = alone (UpTo r n) (λ more. d.value ∷ more) d.back l d.second in
    let le = x.spelled.few in
    subst (λ (z : List _). UpTo r (suc n) ts z) x.is (record { spelled = record { front = d.front; back = d.back; whole = d.whole; first = d.first; second = x.spelled.spelled }; few = omega (arith, le) })

pub begun_counted : {A : Type 0} {s : Bool} (test : List Lexeme → Bool) (r : List Lexeme → A → Type 0) (f : List Lexeme → Read A) → Begun s r f → (n : ℕ) → Begun s (UpTo r n) (many_at test f n)
unfolding many_at
begun_counted test r f b zero = bwiden (begun_give []) (no_more r zero)
begun_counted test r f b (suc n) = bsame test (bwiden (bthen b (λ a. bthen (begun_counted test r f b n) (λ more. begun_give (a ∷ more)))) (one_more r n)) (bwiden (begun_give []) (no_more r (suc n)))

pub ball : {A : Type 0} {s : Bool} {r : List Lexeme → A → Type 0} {f : List Lexeme → Read A} (test : List Lexeme → Bool) → Begun s r f → Begun s (Many r) (all_at test f)
ball {s = s} {r = r} {f = f} test b =
    let many : (n : ℕ) → Begun s (Many r) (many_at test f n) = λ n. bwiden (begun_counted test r f b n) (λ ts l d. d.spelled) in
    record {
      found = λ ts. (many (length ts)).found ts;
      halts = λ ts. (many (length ts)).halts ts;
      filled = (many 0).filled;
    }

pub blisted : {A : Type 0} {s : Bool} {r : List Lexeme → A → Type 0} {f : List Lexeme → Read A} (kind : TokenKind) (w : List ℕ) → has_form kind w ≡ true → Begun s r f → Begun s (Listed w r) (listed_at w f)
blisted kind w form b = bthen b (λ first. bthen (ball (begins w) (bbehind kind w form b)) (λ others. begun_give (first ∷ others)))

-- ---- the place of the first token

fillers_start : (p : Lexeme → Bool) (text : List Lexeme) → AreFillers text → Headed p text → StartsAt text first_place
fillers_start p [] a h = absurd cc
fillers_start p (t ∷ ts) a h = a.0.at

module _ {A : Type 0} {s : Bool} (r : Place → List Lexeme → A → Type 0) (g : Place → List Lexeme → Read A) (p : Lexeme → Bool) (starts : (at : Place) → Starts (r at) p) (b : (at : Place) → Begun s (r at) (g at)) where
  placed_found : (ts : List Lexeme) (a : A) (rest : List Lexeme) → (here >>= g) ts ≡ Ok (a, rest) → Front (Placed r) ts a rest
  placed_found ts a rest e =
      let x = (b (place_of ts)).found ts a rest e in
      record { text = x.text; parts = x.parts; spelled = record { at = place_of ts; starts = starts_at p ts x.text rest x.parts (starts (place_of ts) x.text a x.spelled); spelled = x.spelled } }

  placed_filled : Filled (Placed r)
  placed_filled =
      let x = (b first_place).filled in
      record { text = x.text; value = x.value; filler = x.filler; spelled = record { at = first_place; starts = fillers_start p x.text x.filler (starts first_place x.text x.value x.spelled); spelled = x.spelled } }

  first_at : (ts : List Lexeme) (t : Lexeme) (u back front : List Lexeme) → ts ≡ front ++ t ∷ u → StartsAt (front ++ t ∷ back) (place_of ts)
  first_at ts t u back [] e = sym (ap place_of e)
  first_at ts t u back (c ∷ front) e = sym (ap place_of e)

  placed_kind : (ts rest : List Lexeme) (k : NotationKind) (front : List Lexeme) → ts ≡ front ++ rest → KindOf s (r (place_of ts)) front rest k → KindOf s (Placed r) front rest k
  placed_kind ts [] k front e i = i
  placed_kind ts (t ∷ u) k front e (inl i) = inl i
  placed_kind ts (t ∷ u) k front e (inr i) =
      inr (i.0, λ st. let x = i.1 st in record { back = x.back; value = x.value; filler = x.filler; spelled = record { at = place_of ts; starts = first_at ts t u x.back front e; spelled = x.spelled } })

  placed_in : (ts rest : List Lexeme) (k : NotationKind) (front back : List Lexeme) (a : A) → AreFillers back → ts ≡ front ++ rest → r (place_of ts) (front ++ back) a → KindOf s (Placed r) front rest k → Halts s (Placed r) ts rest k
  placed_in ts rest k [] back a filler whole spelled kind =
      let x = placed_filled in
      record { front = []; back = x.text; value = x.value; filler = x.filler; whole = whole; spelled = x.spelled; kind = kind }
  placed_in ts rest k (t ∷ front) back a filler whole spelled kind =
      record { front = t ∷ front; back = back; value = a; filler = filler; whole = whole; spelled = record { at = place_of ts; starts = sym (ap place_of whole); spelled = spelled }; kind = kind }

  placed_halts : (ts rest : List Lexeme) (k : NotationKind) → (here >>= g) ts ≡ Err (fault rest k) → Halts s (Placed r) ts rest k
  placed_halts ts rest k e =
      let x = (b (place_of ts)).halts ts rest k e in
      placed_in ts rest k x.front x.back x.value x.filler x.whole x.spelled (placed_kind ts rest k x.front x.whole x.kind)

  pub begun_placed : Begun s (Placed r) (here >>= g)
  begun_placed = record { found = placed_found; halts = placed_halts; filled = placed_filled }

pub bplaced : {A : Type 0} {s : Bool} {r : Place → List Lexeme → A → Type 0} {g : Place → List Lexeme → Read A} (p : Lexeme → Bool) → ((at : Place) → Starts (r at) p) → ((at : Place) → Begun s (r at) (g at)) → Begun s (Placed r) (here >>= g)
bplaced p starts b = begun_placed _ _ p starts b
