-- Reading against the grammar: the laws of the means.
use Rattle.std.proofs.Common.{◌≡◌, ℕ, zero, suc, ◌<◌, ◌≤◌, Bool, true, false, List, [], ◌∷◌, ◌++◌, length, Option, Some, None, Ok, Err, refl, sym, ap, subst, ◌∙◌, append_assoc, arith, inl, inr}
use Rattle.std.specs.Prelude.{if◌then◌else◌}
use Rattle.std.proofs.lemmas.List.{length-append}
use Rattle.notation_tokens.specs.Lexeme.{Lexeme}
use Rattle.notation_tokens.specs.Words.{word_of}
use Rattle.operation_notation.specs.Reading.{◌>>=◌, after, give, Read, taken, token_at, word_at, many_at, all_at}
use Rattle.operation_notation.specs.Grammar.{One, Then, Nothing, Either, Maybe, Many, The}

-- what is taken from the front
pub record Front {A : Type 0} (r : List Lexeme → A → Type 0) (ts : List Lexeme) (a : A) (rest : List Lexeme) : Type 0 where
  pub text : List Lexeme
  pub parts : ts ≡ text ++ rest
  pub spelled : r text a

-- What is read is spelled so; what is spelled so is read, where the next token is none of those with which it would go on.
pub record Law {A : Type 0} (r : List Lexeme → A → Type 0) (f : List Lexeme → Read A) (stops : List Lexeme → Bool) : Type 0 where
  pub found : (ts : List Lexeme) (a : A) (rest : List Lexeme) → f ts ≡ Ok (a, rest) → Front r ts a rest
  pub only : (text : List Lexeme) (a : A) (rest : List Lexeme) → r text a → stops rest ≡ false → f (text ++ rest) ≡ Ok (a, rest)

abbrev pub never : List Lexeme → Bool
never rest = false

abbrev pub done : {A : Type 0} → A × List Lexeme → Read A
done p = Ok p

pub ok_is : {A : Type 0} (p q : A × List Lexeme) → done p ≡ done q → p ≡ q
ok_is p q e = cc

pub record AfterOk {A B : Type 0} (x : Read A) (k : A → List Lexeme → Read B) (b : B) (rest : List Lexeme) : Type 0 where
  pub value : A
  pub mid : List Lexeme
  pub is : x ≡ Ok (value, mid)
  pub behind : k value mid ≡ Ok (b, rest)

pub after_ok : {A B : Type 0} (x : Read A) (k : A → List Lexeme → Read B) (b : B) (rest : List Lexeme) → after x k ≡ Ok (b, rest) → AfterOk x k b rest
after_ok (Ok p) k b rest e = record { value = p.0; mid = p.1; is = refl; behind = e }
after_ok (Err d) k b rest e = absurd cc

pub law_then : {A B : Type 0} (r : List Lexeme → A → Type 0) (f : List Lexeme → Read A) (s : List Lexeme → Bool) (g : A → List Lexeme → B → Type 0) (h : A → List Lexeme → Read B) (t : List Lexeme → Bool)
    → Law r f s → ((a : A) → Law (g a) (h a) t) → ((a : A) (b : B) (y rest : List Lexeme) → g a y b → t rest ≡ false → s (y ++ rest) ≡ false) → Law (Then r g) (f >>= h) t
law_then r f s g h t first second link = record {
  found = λ ts b rest e.
      let p = after_ok (f ts) h b rest e in
      let x = first.found ts p.value p.mid p.is in
      let y = (second p.value).found p.mid b rest p.behind in
      record {
        text = x.text ++ y.text;
        parts = x.parts ∙ ap (λ (z : List Lexeme). x.text ++ z) y.parts ∙ sym (append_assoc x.text y.text rest);
        spelled = record { front = x.text; back = y.text; value = p.value; whole = refl; first = x.spelled; second = y.spelled };
      };
  only = λ text b rest d st.
      let one = first.only d.front d.value (d.back ++ rest) d.first (link d.value b d.back rest d.second st) in
      let two = (second d.value).only d.back b rest d.second st in
      let regrouped : text ++ rest ≡ d.front ++ (d.back ++ rest) = ap (λ (z : List Lexeme). z ++ rest) d.whole ∙ append_assoc d.front d.back rest in
      ap (λ (z : List Lexeme). after (f z) h) regrouped ∙ ap (λ (z : Read _). after z h) one ∙ two;
}

-- where the first rule ends by itself
pub law_next : {A B : Type 0} (r : List Lexeme → A → Type 0) (f : List Lexeme → Read A) (g : A → List Lexeme → B → Type 0) (h : A → List Lexeme → Read B) (t : List Lexeme → Bool)
    → Law r f never → ((a : A) → Law (g a) (h a) t) → Law (Then r g) (f >>= h) t
law_next r f g h t first second = law_then r f never g h t first second (λ a b y rest d st. refl)

-- ---- one token

record TakenOk {A : Type 0} (o : Option A) (ts : List Lexeme) (a : A) (rest : List Lexeme) : Type 0 where
  is : o ≡ Some a
  left : ts ≡ rest

taken_ok : {A : Type 0} (o : Option A) (t : Lexeme) (ts : List Lexeme) (a : A) (rest : List Lexeme) → taken o t ts ≡ Ok (a, rest) → TakenOk o ts a rest
taken_ok (Some b) t ts a rest e =
    let p = ok_is (b, ts) (a, rest) e in
    record { is = ap (λ (z : _ × List Lexeme). Some z.0) p; left = ap (λ (z : _ × List Lexeme). z.1) p }
taken_ok None t ts a rest e = absurd cc

one_found : {A : Type 0} (test : Lexeme → Option A) (ts : List Lexeme) (a : A) (rest : List Lexeme) → token_at test ts ≡ Ok (a, rest) → Front (One test) ts a rest
one_found test [] a rest e = absurd cc
one_found test (t ∷ ts) a rest e =
    let p = taken_ok (test t) t ts a rest e in
    record { text = t ∷ []; parts = ap (λ (z : List Lexeme). t ∷ z) p.left; spelled = record { token = t; alone = refl; passes = p.is } }

pub law_one : {A : Type 0} (test : Lexeme → Option A) → Law (One test) (token_at test) never
law_one test = record {
  found = one_found test;
  only = λ text a rest d st. ap (λ (z : List Lexeme). token_at test (z ++ rest)) d.alone ∙ ap (λ (o : Option _). taken o d.token rest) d.passes;
}

pub law_word : (word : List ℕ) → Law (The word) (word_at word) never
unfolding word_at
law_word word = law_one (word_of word)

-- ---- nothing

nothing_found : {A : Type 0} (a : A) (ts : List Lexeme) (b : A) (rest : List Lexeme) → give a ts ≡ Ok (b, rest) → Front (Nothing a) ts b rest
nothing_found a ts b rest e =
    let p = ok_is (a, ts) (b, rest) e in
    record { text = []; parts = ap (λ (z : _ × List Lexeme). z.1) p; spelled = record { none = refl; same_value = ap (λ (z : _ × List Lexeme). z.0) p } }

pub law_nothing : {A : Type 0} (a : A) (s : List Lexeme → Bool) → Law (Nothing a) (give a) s
law_nothing a s = record {
  found = nothing_found a;
  only = λ text b rest d st. ap (λ (z : List Lexeme). give a (z ++ rest)) d.none ∙ ap (λ (c : _). Ok (c, rest)) d.same_value;
}

-- ---- choices

choice_found : {A : Type 0} (r s : List Lexeme → A → Type 0) (f g : List Lexeme → Read A) (u v : List Lexeme → Bool) → Law r f u → Law s g v
    → (b : Bool) (ts : List Lexeme) (a : A) (rest : List Lexeme) → (if b then f ts else g ts) ≡ Ok (a, rest) → Front (Either r s) ts a rest
choice_found r s f g u v left right true ts a rest e = let x = left.found ts a rest e in record { text = x.text; parts = x.parts; spelled = inl x.spelled }
choice_found r s f g u v left right false ts a rest e = let x = right.found ts a rest e in record { text = x.text; parts = x.parts; spelled = inr x.spelled }

-- what a test says of all that a rule spells, in front of what may follow
pub record Tells {A : Type 0} (r : List Lexeme → A → Type 0) (test : List Lexeme → Bool) (answer : Bool) (stops own : List Lexeme → Bool) : Type 0 where
  pub tells : (text : List Lexeme) (a : A) (rest : List Lexeme) → r text a → stops rest ≡ false → test (text ++ rest) ≡ answer
  pub own_stops : (rest : List Lexeme) → stops rest ≡ false → own rest ≡ false

choice_only : {A : Type 0} (test : List Lexeme → Bool) (r s : List Lexeme → A → Type 0) (f g : List Lexeme → Read A) (u v stops : List Lexeme → Bool) → Law r f u → Law s g v
    → Tells r test true stops u → Tells s test false stops v
    → (text : List Lexeme) (a : A) (rest : List Lexeme) → Either r s text a → stops rest ≡ false → (if test (text ++ rest) then f (text ++ rest) else g (text ++ rest)) ≡ Ok (a, rest)
choice_only test r s f g u v stops left right one other text a rest (inl d) st =
    ap (λ (b : Bool). if b then f (text ++ rest) else g (text ++ rest)) (one.tells text a rest d st) ∙ left.only text a rest d (one.own_stops rest st)
choice_only test r s f g u v stops left right one other text a rest (inr d) st =
    ap (λ (b : Bool). if b then f (text ++ rest) else g (text ++ rest)) (other.tells text a rest d st) ∙ right.only text a rest d (other.own_stops rest st)

pub law_choice : {A : Type 0} (test : List Lexeme → Bool) (r s : List Lexeme → A → Type 0) (f g : List Lexeme → Read A) (u v stops : List Lexeme → Bool) → Law r f u → Law s g v
    → Tells r test true stops u → Tells s test false stops v → Law (Either r s) (λ ts. if test ts then f ts else g ts) stops
law_choice test r s f g u v stops left right one other = record {
  found = λ ts a rest e. choice_found r s f g u v left right (test ts) ts a rest e;
  only = choice_only test r s f g u v stops left right one other;
}

-- ---- a rule or nothing

maybe_found : {A : Type 0} (r : List Lexeme → A → Type 0) (f : List Lexeme → Read A) (u : List Lexeme → Bool) → Law r f u
    → (b : Bool) (ts : List Lexeme) (o : Option A) (rest : List Lexeme) → (if b then (f >>= λ a. give (Some a)) ts else Ok (None, ts)) ≡ Ok (o, rest) → Front (Maybe r) ts o rest
maybe_found r f u law true ts o rest e =
    let p = after_ok (f ts) (λ a. give (Some a)) o rest e in
    let q = ok_is (Some p.value, p.mid) (o, rest) p.behind in
    let x = law.found ts p.value p.mid p.is in
    subst (λ (z : Option _ × List Lexeme). Front (Maybe r) ts z.0 z.1) q (record { text = x.text; parts = x.parts; spelled = x.spelled })
maybe_found r f u law false ts o rest e =
    let q = ok_is (None, ts) (o, rest) e in
    subst (λ (z : Option _ × List Lexeme). Front (Maybe r) ts z.0 z.1) q (record { text = []; parts = refl; spelled = refl })

maybe_only : {A : Type 0} (test : List Lexeme → Bool) (r : List Lexeme → A → Type 0) (f : List Lexeme → Read A) (u stops : List Lexeme → Bool) → Law r f u
    → Tells r test true stops u → ((rest : List Lexeme) → stops rest ≡ false → test rest ≡ false)
    → (text : List Lexeme) (o : Option A) (rest : List Lexeme) → Maybe r text o → stops rest ≡ false → (if test (text ++ rest) then (f >>= λ a. give (Some a)) (text ++ rest) else Ok (None, text ++ rest)) ≡ Ok (o, rest)
maybe_only test r f u stops law one none text None rest d st =
    ap (λ (z : List Lexeme). if test (z ++ rest) then (f >>= λ a. give (Some a)) (z ++ rest) else Ok (None, z ++ rest)) d
    ∙ ap (λ (b : Bool). if b then (f >>= λ a. give (Some a)) rest else Ok (None, rest)) (none rest st)
maybe_only test r f u stops law one none text (Some a) rest d st =
    ap (λ (b : Bool). if b then (f >>= λ a. give (Some a)) (text ++ rest) else Ok (None, text ++ rest)) (one.tells text a rest d st)
    ∙ ap (λ (x : Read _). after x (λ a. give (Some a))) (law.only text a rest d (one.own_stops rest st))

pub law_maybe : {A : Type 0} (test : List Lexeme → Bool) (r : List Lexeme → A → Type 0) (f : List Lexeme → Read A) (u stops : List Lexeme → Bool) → Law r f u
    → Tells r test true stops u → ((rest : List Lexeme) → stops rest ≡ false → test rest ≡ false) → Law (Maybe r) (λ ts. if test ts then (f >>= λ a. give (Some a)) ts else Ok (None, ts)) stops
law_maybe test r f u stops law one none = record {
  found = λ ts o rest e. maybe_found r f u law (test ts) ts o rest e;
  only = maybe_only test r f u stops law one none;
}

-- ---- a rule again and again

many_step_found : {A : Type 0} (test : List Lexeme → Bool) (r : List Lexeme → A → Type 0) (f : List Lexeme → Read A) (u : List Lexeme → Bool) → Law r f u
    → (n : ℕ) → ((ts : List Lexeme) (l : List A) (rest : List Lexeme) → many_at test f n ts ≡ Ok (l, rest) → Front (Many r) ts l rest)
    → (b : Bool) (ts : List Lexeme) (l : List A) (rest : List Lexeme) → (if b then (f >>= λ a. many_at test f n >>= λ more. give (a ∷ more)) ts else Ok ([], ts)) ≡ Ok (l, rest) → Front (Many r) ts l rest
many_step_found test r f u law n ih true ts l rest e =
    let p = after_ok (f ts) (λ a. many_at test f n >>= λ more. give (a ∷ more)) l rest e in
    let q = after_ok (many_at test f n p.mid) (λ more. give (p.value ∷ more)) l rest p.behind in
    let w = ok_is (p.value ∷ q.value, q.mid) (l, rest) q.behind in
    let x = law.found ts p.value p.mid p.is in
    let y = ih p.mid q.value q.mid q.is in
    subst (λ (z : List _ × List Lexeme). Front (Many r) ts z.0 z.1) w (record {
      text = x.text ++ y.text;
      parts = x.parts ∙ ap (λ (z : List Lexeme). x.text ++ z) y.parts ∙ sym (append_assoc x.text y.text q.mid);
      spelled = record { front = x.text; back = y.text; whole = refl; first = x.spelled; second = y.spelled };
    })
many_step_found test r f u law n ih false ts l rest e =
    let q = ok_is ([], ts) (l, rest) e in
    subst (λ (z : List _ × List Lexeme). Front (Many r) ts z.0 z.1) q (record { text = []; parts = refl; spelled = refl })

pub many_found : {A : Type 0} (test : List Lexeme → Bool) (r : List Lexeme → A → Type 0) (f : List Lexeme → Read A) (u : List Lexeme → Bool) → Law r f u
    → (n : ℕ) (ts : List Lexeme) (l : List A) (rest : List Lexeme) → many_at test f n ts ≡ Ok (l, rest) → Front (Many r) ts l rest
unfolding many_at
many_found test r f u law zero ts l rest e =
    let q = ok_is ([], ts) (l, rest) e in
    subst (λ (z : List _ × List Lexeme). Front (Many r) ts z.0 z.1) q (record { text = []; parts = refl; spelled = refl })
many_found test r f u law (suc n) ts l rest e = many_step_found test r f u law n (many_found test r f u law n) (test ts) ts l rest e

-- what a loop needs: each turn's text passes the test and isn't empty, what follows ends the loop, and a turn ends before the next
pub record Loops {A : Type 0} (test : List Lexeme → Bool) (r : List Lexeme → A → Type 0) (u stops : List Lexeme → Bool) : Type 0 where
  pub goes : (text : List Lexeme) (a : A) (rest : List Lexeme) → r text a → test (text ++ rest) ≡ true
  pub takes : (text : List Lexeme) (a : A) → r text a → 0 < length text
  pub ends : (rest : List Lexeme) → stops rest ≡ false → test rest ≡ false
  pub last : (rest : List Lexeme) → stops rest ≡ false → u rest ≡ false
  pub next : (text : List Lexeme) (a : A) (rest : List Lexeme) → r text a → u (text ++ rest) ≡ false

many_follows : {A : Type 0} (test : List Lexeme → Bool) (r : List Lexeme → A → Type 0) (u stops : List Lexeme → Bool) → Loops test r u stops
    → (text : List Lexeme) (l : List A) (rest : List Lexeme) → Many r text l → stops rest ≡ false → u (text ++ rest) ≡ false
many_follows test r u stops loops text [] rest d st = ap (λ (z : List Lexeme). u (z ++ rest)) d ∙ loops.last rest st
many_follows test r u stops loops text (a ∷ l) rest d st =
    ap u (ap (λ (z : List Lexeme). z ++ rest) d.whole ∙ append_assoc d.front d.back rest) ∙ loops.next d.front a (d.back ++ rest) d.first

pub many_length : {A : Type 0} (test : List Lexeme → Bool) (r : List Lexeme → A → Type 0) (u stops : List Lexeme → Bool) → Loops test r u stops
    → (text : List Lexeme) (l : List A) → Many r text l → length l ≤ length text
many_length test r u stops loops text [] d = omega arith
many_length test r u stops loops text (a ∷ l) d =
    omega (arith, ap length d.whole, length-append d.front d.back, loops.takes d.front a d.first, many_length test r u stops loops d.back l d.second)

pub many_only : {A : Type 0} (test : List Lexeme → Bool) (r : List Lexeme → A → Type 0) (f : List Lexeme → Read A) (u stops : List Lexeme → Bool) → Law r f u → Loops test r u stops
    → (n : ℕ) (text : List Lexeme) (l : List A) (rest : List Lexeme) → length l ≤ n → Many r text l → stops rest ≡ false → many_at test f n (text ++ rest) ≡ Ok (l, rest)
unfolding many_at
many_only test r f u stops law loops zero text [] rest le d st = ap (λ (z : List Lexeme). Ok ([], z ++ rest)) d
many_only test r f u stops law loops zero text (a ∷ l) rest le d st = absurd (omega arith)
many_only test r f u stops law loops (suc n) text [] rest le d st =
    ap (λ (z : List Lexeme). many_at test f (suc n) (z ++ rest)) d ∙ ap (λ (b : Bool). if b then (f >>= λ a. many_at test f n >>= λ more. give (a ∷ more)) rest else Ok ([], rest)) (loops.ends rest st)
many_only test r f u stops law loops (suc n) text (a ∷ l) rest le d st =
    let regrouped : text ++ rest ≡ d.front ++ (d.back ++ rest) = ap (λ (z : List Lexeme). z ++ rest) d.whole ∙ append_assoc d.front d.back rest in
    let one = law.only d.front a (d.back ++ rest) d.first (many_follows test r u stops loops d.back l rest d.second st) in
    let two = many_only test r f u stops law loops n d.back l rest (omega arith) d.second st in
    ap (many_at test f (suc n)) regrouped
    ∙ ap (λ (b : Bool). if b then (f >>= λ a. many_at test f n >>= λ more. give (a ∷ more)) (d.front ++ (d.back ++ rest)) else Ok ([], d.front ++ (d.back ++ rest))) (loops.goes d.front a (d.back ++ rest) d.first)
    ∙ ap (λ (x : Read _). after x (λ a. many_at test f n >>= λ more. give (a ∷ more))) one
    ∙ ap (λ (x : Read (List _)). after x (λ more. give (a ∷ more))) two

pub law_all : {A : Type 0} (test : List Lexeme → Bool) (r : List Lexeme → A → Type 0) (f : List Lexeme → Read A) (u stops : List Lexeme → Bool) → Law r f u → Loops test r u stops → Law (Many r) (all_at test f) stops
law_all test r f u stops law loops = record {
  found = λ ts l rest e. many_found test r f u law (length ts) ts l rest e;
  only = λ text l rest d st. many_only test r f u stops law loops (length (text ++ rest)) text l rest (omega (arith, length-append text rest, many_length test r u stops loops text l d)) d st;
}

-- a counted loop gives no more values than it has turns
count_step : {A : Type 0} (test : List Lexeme → Bool) (f : List Lexeme → Read A) (n : ℕ) → ((ts : List Lexeme) (l : List A) (rest : List Lexeme) → many_at test f n ts ≡ Ok (l, rest) → length l ≤ n)
    → (b : Bool) (ts : List Lexeme) (l : List A) (rest : List Lexeme) → (if b then (f >>= λ a. many_at test f n >>= λ more. give (a ∷ more)) ts else Ok ([], ts)) ≡ Ok (l, rest) → length l ≤ suc n
count_step test f n ih true ts l rest e =
    let p = after_ok (f ts) (λ a. many_at test f n >>= λ more. give (a ∷ more)) l rest e in
    let q = after_ok (many_at test f n p.mid) (λ more. give (p.value ∷ more)) l rest p.behind in
    let w = ok_is (p.value ∷ q.value, q.mid) (l, rest) q.behind in
    let le = ih p.mid q.value q.mid q.is in
    subst (λ (z : List _ × List Lexeme). length z.0 ≤ suc n) w (omega (arith, le))
count_step test f n ih false ts l rest e =
    let q = ok_is ([], ts) (l, rest) e in
    subst (λ (z : List _ × List Lexeme). length z.0 ≤ suc n) q (omega arith)

pub many_count : {A : Type 0} (test : List Lexeme → Bool) (f : List Lexeme → Read A) (n : ℕ) (ts : List Lexeme) (l : List A) (rest : List Lexeme) → many_at test f n ts ≡ Ok (l, rest) → length l ≤ n
unfolding many_at
many_count test f zero ts l rest e =
    let q = ok_is ([], ts) (l, rest) e in
    subst (λ (z : List _ × List Lexeme). length z.0 ≤ 0) q (omega arith)
many_count test f (suc n) ts l rest e = count_step test f n (many_count test f n) (test ts) ts l rest e
