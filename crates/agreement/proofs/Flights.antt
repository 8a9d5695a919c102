-- What is on its way to an end in direct mode, as that end will read it.
use Rattle.std.proofs.Common.{◌≡◌, ℕ, suc, ◌≤◌, ◌%◌, Bool, true, false, List, [], ◌∷◌, ◌++◌, refl, sym, ap, ◌∙◌, arith, true≢false, subst}
use Rattle.std.specs.Prelude.{Some, None, is_some}
use Rattle.std.proofs.lemmas.Bool.Decides.{nat_tests}
use Rattle.agreement.specs.Sets.{Role, other, parity, Pair, ContextSet, Item, Result, AnswersEach, changed, altered, lookup, IsRising, AreDistinct, identifier_of, identifiers, Saved, below, next_number}
use Rattle.agreement.specs.Sets.Role.{Initiator, Responder}
use Rattle.agreement.specs.Sets.Item.{Addition, Deletion}
use Rattle.agreement.specs.Sets.Result.{Rejected, AcceptedAs, Accepted, Kept}
use Rattle.agreement.specs.Takings.{OnFirst, altered_first, later}
use Rattle.agreement.proofs.Order.{put-put, put-remove, remove-remove, rising-put, rising-remove}
use Rattle.agreement.proofs.Names.{AllUntouched, AreUntouched, later-untouched, later-all_untouched, lookup-altered}

pub data Entry : Type 0 where
  AValue : (shared : ContextSet) → (identifier : ℕ) → (pair : Pair) → Entry
  AnAsk : (shared : ContextSet) → (items : List Item) → Entry
  AnAnswer : (results : List Result) → Entry
  AMark : (shared : ContextSet) → (number : ℕ) → Entry
  AGive : Entry
  ARelease : Entry
  AQuiet : Entry
  ABad : Entry

-- the items are sound over a set: additions of what is absent, under the asker's parity, and
-- deletions of what is there
abbrev pub IsSoundItem : Role → ContextSet → Item → Type 0
IsSoundItem role set (Addition k offers) = (k % 2 ≡ parity role) × (lookup set k ≡ None)
IsSoundItem role set (Deletion k) = is_some (lookup set k) ≡ true

abbrev pub AreSound : Role → ContextSet → List Item → Type 0
AreSound role set [] = Unit {0}
AreSound role set (item ∷ items) = IsSoundItem role set item × AreSound role set items

-- items that commute: an addition is of another context than the other item
abbrev pub IsApart : Item → Item → Type 0
IsApart (Addition j offers) item = j ≡ identifier_of item → ⊥
IsApart (Deletion j) (Addition k offers) = j ≡ k → ⊥
IsApart (Deletion j) (Deletion k) = Unit {0}

abbrev pub IsApartFrom : Item → List Item → Type 0
IsApartFrom item [] = Unit {0}
IsApartFrom item (first ∷ items) = IsApart item first × IsApartFrom item items

abbrev pub AreApart : List Item → List Item → Type 0
AreApart [] others = Unit {0}
AreApart (item ∷ items) others = IsApartFrom item others × AreApart items others

-- each own alteration is apart from the items
abbrev pub AllApart : List (List Item) → List Item → Type 0
AllApart [] items = Unit {0}
AllApart (own ∷ rest) items = AreApart own items × AllApart rest items

-- How a taker with this set and these own alterations reads a flight from the end of this role: each
-- value under the set, and in the end, however it answers, it holds the shared set.
abbrev pub ReadsFlight : Role → ContextSet → List (List Item) → List Entry → ContextSet → Type 0
ReadsFlight from held own [] shared = held ≡ shared
ReadsFlight from held own (AValue at k p ∷ flight) shared =
    (lookup held k ≡ Some p) × (lookup at k ≡ Some p) × ReadsFlight from held own flight shared
ReadsFlight from held own (AnAsk at items ∷ flight) shared =
    AreSound from held items × AreDistinct (identifiers items) × AllApart own items ×
    ((results : List Result) → AnswersEach items results → ReadsFlight from (altered items results held) own flight (altered items results shared))
ReadsFlight from held own (AnAnswer results ∷ flight) shared =
    OnFirst (λ items. AnswersEach items results) own × ReadsFlight from (altered_first own results held) (later own) flight shared
ReadsFlight from held own (AMark at number ∷ flight) shared = (held ≡ at) × ReadsFlight from held own flight shared
ReadsFlight from held own (AGive ∷ flight) shared = ReadsFlight from held own flight shared
ReadsFlight from held own (ARelease ∷ flight) shared = (from ≡ Initiator) × ReadsFlight from held own flight shared
ReadsFlight from held own (AQuiet ∷ flight) shared = ReadsFlight from held own flight shared
ReadsFlight from held own (ABad ∷ flight) shared = ⊥

-- the alterations in a flight, and those of the taker that it doesn't answer
abbrev pub asked : List Entry → List (List Item)
asked [] = []
asked (AValue at k p ∷ flight) = asked flight
asked (AnAsk at items ∷ flight) = items ∷ asked flight
asked (AnAnswer results ∷ flight) = asked flight
asked (AMark at number ∷ flight) = asked flight
asked (AGive ∷ flight) = asked flight
asked (ARelease ∷ flight) = asked flight
asked (AQuiet ∷ flight) = asked flight
asked (ABad ∷ flight) = asked flight

abbrev pub unanswered : List Entry → List (List Item) → List (List Item)
unanswered [] own = own
unanswered (AValue at k p ∷ flight) own = unanswered flight own
unanswered (AnAsk at items ∷ flight) own = unanswered flight own
unanswered (AnAnswer results ∷ flight) own = unanswered flight (later own)
unanswered (AMark at number ∷ flight) own = unanswered flight own
unanswered (AGive ∷ flight) own = unanswered flight own
unanswered (ARelease ∷ flight) own = unanswered flight own
unanswered (AQuiet ∷ flight) own = unanswered flight own
unanswered (ABad ∷ flight) own = unanswered flight own

-- changes that are apart commute
changed-changed : (i j : Item) (r q : Result) (set : ContextSet) → IsApart i j → IsRising set → changed i r (changed j q set) ≡ changed j q (changed i r set)
changed-changed (Addition i o) (Addition j u) (AcceptedAs p) (AcceptedAs s) set a h = put-put i j p s set a h
changed-changed (Addition i o) (Addition j u) (AcceptedAs p) Rejected set a h = refl
changed-changed (Addition i o) (Addition j u) (AcceptedAs p) Accepted set a h = refl
changed-changed (Addition i o) (Addition j u) (AcceptedAs p) Kept set a h = refl
changed-changed (Addition i o) (Deletion j) (AcceptedAs p) Accepted set a h = put-remove i j p set a h
changed-changed (Addition i o) (Deletion j) (AcceptedAs p) Kept set a h = refl
changed-changed (Addition i o) (Deletion j) (AcceptedAs p) Rejected set a h = refl
changed-changed (Addition i o) (Deletion j) (AcceptedAs p) (AcceptedAs s) set a h = refl
changed-changed (Addition i o) j Rejected q set a h = refl
changed-changed (Addition i o) j Accepted q set a h = refl
changed-changed (Addition i o) j Kept q set a h = refl
changed-changed (Deletion i) (Addition j u) Accepted (AcceptedAs s) set a h = sym (put-remove j i s set (λ e. a (sym e)) h)
changed-changed (Deletion i) (Addition j u) Accepted Rejected set a h = refl
changed-changed (Deletion i) (Addition j u) Accepted Accepted set a h = refl
changed-changed (Deletion i) (Addition j u) Accepted Kept set a h = refl
changed-changed (Deletion i) (Deletion j) Accepted Accepted set a h = remove-remove i j set h
changed-changed (Deletion i) (Deletion j) Accepted Kept set a h = refl
changed-changed (Deletion i) (Deletion j) Accepted Rejected set a h = refl
changed-changed (Deletion i) (Deletion j) Accepted (AcceptedAs s) set a h = refl
changed-changed (Deletion i) j Rejected q set a h = refl
changed-changed (Deletion i) j Kept q set a h = refl
changed-changed (Deletion i) j (AcceptedAs p) q set a h = refl

rising-changed : (i : Item) (r : Result) (set : ContextSet) → IsRising set → IsRising (changed i r set)
rising-changed (Addition k o) (AcceptedAs p) set h = rising-put k p set h
rising-changed (Addition k o) Rejected set h = h
rising-changed (Addition k o) Accepted set h = h
rising-changed (Addition k o) Kept set h = h
rising-changed (Deletion k) Accepted set h = rising-remove k set h
rising-changed (Deletion k) Kept set h = h
rising-changed (Deletion k) Rejected set h = h
rising-changed (Deletion k) (AcceptedAs p) set h = h

pub rising-altered : (items : List Item) (results : List Result) (set : ContextSet) → IsRising set → IsRising (altered items results set)
rising-altered [] rs set h = h
rising-altered (i ∷ is) [] set h = h
rising-altered (i ∷ is) (r ∷ rs) set h = rising-altered is rs (changed i r set) (rising-changed i r set h)

changed-altered : (i : Item) (r : Result) (items : List Item) (results : List Result) (set : ContextSet) → IsApartFrom i items → IsRising set → changed i r (altered items results set) ≡ altered items results (changed i r set)
changed-altered i r [] qs set a h = refl
changed-altered i r (j ∷ js) [] set a h = refl
changed-altered i r (j ∷ js) (q ∷ qs) set a h =
    changed-altered i r js qs (changed j q set) a.1 (rising-changed j q set h) ∙ ap (altered js qs) (changed-changed i j r q set a.0 h)

pub altered-altered : (xs : List Item) (rs : List Result) (ys : List Item) (qs : List Result) (set : ContextSet) → AreApart xs ys → IsRising set → altered xs rs (altered ys qs set) ≡ altered ys qs (altered xs rs set)
altered-altered [] rs ys qs set a h = refl
altered-altered (x ∷ xs) [] ys qs set a h = refl
altered-altered (x ∷ xs) (r ∷ rs) ys qs set a h =
    ap (altered xs rs) (changed-altered x r ys qs set a.0 h) ∙ altered-altered xs rs ys qs (changed x r set) a.1 (rising-changed x r set h)

-- all items rejected: nothing changes
rejection : Item → Result
rejection (Addition k offers) = Rejected
rejection (Deletion k) = Kept

pub rejections : List Item → List Result
rejections [] = []
rejections (item ∷ items) = rejection item ∷ rejections items

pub rejections-fit : (items : List Item) → AnswersEach items (rejections items)
unfolding rejections rejection
rejections-fit [] = tt
rejections-fit (Addition k o ∷ items) = (tt, rejections-fit items)
rejections-fit (Deletion k ∷ items) = (tt, rejections-fit items)

pub rejections-altered : (items : List Item) (set : ContextSet) → altered items (rejections items) set ≡ set
unfolding rejections rejection
rejections-altered [] set = refl
rejections-altered (Addition k o ∷ items) set = rejections-altered items set
rejections-altered (Deletion k ∷ items) set = rejections-altered items set

-- an end with no own alteration holds the shared set, but for alterations that it has yet to answer
pub reads-settled : (from : Role) (held : ContextSet) (flight : List Entry) (shared : ContextSet) → ReadsFlight from held [] flight shared → held ≡ shared
reads-settled from held [] shared h = h
reads-settled from held (AValue at k p ∷ flight) shared h = reads-settled from held flight shared h.2
reads-settled from held (AnAsk at items ∷ flight) shared h =
    let rest = h.3 (rejections items) (rejections-fit items) in
    let e = rejections-altered items held in
    let f = rejections-altered items shared in
    reads-settled from held flight shared (subst (λ s. ReadsFlight from held [] flight s) f (subst (λ s. ReadsFlight from s [] flight (altered items (rejections items) shared)) e rest))
reads-settled from held (AnAnswer results ∷ flight) shared h = absurd h.0
reads-settled from held (AMark at number ∷ flight) shared h = reads-settled from held flight shared h.1
reads-settled from held (AGive ∷ flight) shared h = reads-settled from held flight shared h
reads-settled from held (ARelease ∷ flight) shared h = reads-settled from held flight shared h.1
reads-settled from held (AQuiet ∷ flight) shared h = reads-settled from held flight shared h
reads-settled from held (ABad ∷ flight) shared h = absurd h

-- what no own alteration names is in the shared set as in the own
pub reads-same : (from : Role) (held : ContextSet) (own : List (List Item)) (flight : List Entry) (shared : ContextSet) (k : ℕ) → ReadsFlight from held own flight shared → AllUntouched k own → lookup held k ≡ lookup shared k
reads-same from held own [] shared k h u = ap (λ s. lookup s k) h
reads-same from held own (AValue at j q ∷ flight) shared k h u = reads-same from held own flight shared k h.2 u
reads-same from held own (AnAsk at items ∷ flight) shared k h u =
    let rest = h.3 (rejections items) (rejections-fit items) in
    let f = rejections-altered items held in
    let g = rejections-altered items shared in
    reads-same from held own flight shared k (subst (λ s. ReadsFlight from held own flight s) g (subst (λ s. ReadsFlight from s own flight (altered items (rejections items) shared)) f rest)) u
reads-same from held [] (AnAnswer results ∷ flight) shared k h u = absurd h.0
reads-same from held (items ∷ own) (AnAnswer results ∷ flight) shared k h u =
    sym (lookup-altered items results k held u.0) ∙ reads-same from (altered items results held) own flight shared k h.1 u.1
reads-same from held own (AMark at number ∷ flight) shared k h u = reads-same from held own flight shared k h.1 u
reads-same from held own (AGive ∷ flight) shared k h u = reads-same from held own flight shared k h u
reads-same from held own (ARelease ∷ flight) shared k h u = reads-same from held own flight shared k h.1 u
reads-same from held own (AQuiet ∷ flight) shared k h u = reads-same from held own flight shared k h u
reads-same from held own (ABad ∷ flight) shared k h u = absurd h

-- a value joins a flight
pub push-value : (from : Role) (held : ContextSet) (own : List (List Item)) (flight : List Entry) (shared at : ContextSet) (k : ℕ) (p : Pair) → ReadsFlight from held own flight shared → lookup at k ≡ Some p → lookup shared k ≡ Some p → AllUntouched k (asked flight) → ReadsFlight from held own (flight ++ (AValue at k p ∷ [])) shared
push-value from held own [] shared at k p h a e u = (subst (λ s. lookup s k ≡ Some p) (sym h) e, a, h)
push-value from held own (AValue bt j q ∷ flight) shared at k p h a e u = (h.0, h.1, push-value from held own flight shared at k p h.2 a e u)
push-value from held own (AnAsk bt items ∷ flight) shared at k p h a e u =
    (h.0, h.1, h.2, λ results fits. push-value from (altered items results held) own flight (altered items results shared) at k p (h.3 results fits) a (lookup-altered items results k shared u.0 ∙ e) u.1)
push-value from held own (AnAnswer results ∷ flight) shared at k p h a e u = (h.0, push-value from (altered_first own results held) (later own) flight shared at k p h.1 a e u)
push-value from held own (AMark bt number ∷ flight) shared at k p h a e u = (h.0, push-value from held own flight shared at k p h.1 a e u)
push-value from held own (AGive ∷ flight) shared at k p h a e u = push-value from held own flight shared at k p h a e u
push-value from held own (ARelease ∷ flight) shared at k p h a e u = (h.0, push-value from held own flight shared at k p h.1 a e u)
push-value from held own (AQuiet ∷ flight) shared at k p h a e u = push-value from held own flight shared at k p h a e u
push-value from held own (ABad ∷ flight) shared at k p h a e u = absurd h

-- what isn't answered yet is of the own alterations
unanswered-apart : (flight : List Entry) (own : List (List Item)) (items : List Item) → AllApart own items → AllApart (unanswered flight own) items
unanswered-apart [] own items a = a
unanswered-apart (AValue bt j q ∷ flight) own items a = unanswered-apart flight own items a
unanswered-apart (AnAsk bt asks ∷ flight) own items a = unanswered-apart flight own items a
unanswered-apart (AnAnswer results ∷ flight) own items a = unanswered-apart flight (later own) items (go own a)
  where
    go : (own : List (List Item)) → AllApart own items → AllApart (later own) items
    go [] a = tt
    go (o ∷ own) a = a.1
unanswered-apart (AMark bt number ∷ flight) own items a = unanswered-apart flight own items a
unanswered-apart (AGive ∷ flight) own items a = unanswered-apart flight own items a
unanswered-apart (ARelease ∷ flight) own items a = unanswered-apart flight own items a
unanswered-apart (AQuiet ∷ flight) own items a = unanswered-apart flight own items a
unanswered-apart (ABad ∷ flight) own items a = unanswered-apart flight own items a

pub unanswered-untouched : (flight : List Entry) (own : List (List Item)) (k : ℕ) → AllUntouched k own → AllUntouched k (unanswered flight own)
unanswered-untouched [] own k u = u
unanswered-untouched (AValue bt j q ∷ flight) own k u = unanswered-untouched flight own k u
unanswered-untouched (AnAsk bt asks ∷ flight) own k u = unanswered-untouched flight own k u
unanswered-untouched (AnAnswer results ∷ flight) own k u = unanswered-untouched flight (later own) k (later-untouched k own u)
unanswered-untouched (AMark bt number ∷ flight) own k u = unanswered-untouched flight own k u
unanswered-untouched (AGive ∷ flight) own k u = unanswered-untouched flight own k u
unanswered-untouched (ARelease ∷ flight) own k u = unanswered-untouched flight own k u
unanswered-untouched (AQuiet ∷ flight) own k u = unanswered-untouched flight own k u
unanswered-untouched (ABad ∷ flight) own k u = unanswered-untouched flight own k u

pub unanswered-all_untouched : (flight : List Entry) (own : List (List Item)) (items : List Item) → AreUntouched items own → AreUntouched items (unanswered flight own)
unanswered-all_untouched flight own [] u = tt
unanswered-all_untouched flight own (i ∷ is) u = (unanswered-untouched flight own (identifier_of i) u.0, unanswered-all_untouched flight own is u.1)

-- an answer joins the flight to the end that asked for these items
answer-ends : (own : List (List Item)) (held shared : ContextSet) (items : List Item) (more : List (List Item)) (results : List Result) → own ≡ items ∷ more → held ≡ shared → AnswersEach items results → OnFirst (λ is. AnswersEach is results) own × (altered_first own results held ≡ altered items results shared)
answer-ends own held shared items more results e h fits =
    subst (λ (o : List (List Item)). OnFirst (λ is. AnswersEach is results) o × (altered_first o results held ≡ altered items results shared)) (sym e) (fits, ap (altered items results) h)

pub push-answer : (from : Role) (held : ContextSet) (own : List (List Item)) (flight : List Entry) (shared : ContextSet) (items : List Item) (more : List (List Item)) (results : List Result) → ReadsFlight from held own flight shared → IsRising shared → unanswered flight own ≡ items ∷ more → AnswersEach items results → ReadsFlight from held own (flight ++ (AnAnswer results ∷ [])) (altered items results shared)
push-answer from held own [] shared items more results h r e fits = answer-ends own held shared items more results e h fits
push-answer from held own (AValue bt j q ∷ flight) shared items more results h r e fits = (h.0, h.1, push-answer from held own flight shared items more results h.2 r e fits)
push-answer from held own (AnAsk bt asks ∷ flight) shared items more results h r e fits = (
  h.0,
  h.1,
  h.2,
  λ qs fit.
      subst (λ s. ReadsFlight from (altered asks qs held) own (flight ++ (AnAnswer results ∷ [])) s)
      (altered-altered items results asks qs shared (subst (λ (o : List (List Item)). AllApart o asks) e (unanswered-apart flight own asks h.2)).0 r)
      (push-answer from (altered asks qs held) own flight (altered asks qs shared) items more results (h.3 qs fit) (rising-altered asks qs shared r) e fits),
)
push-answer from held own (AnAnswer rs ∷ flight) shared items more results h r e fits = (h.0, push-answer from (altered_first own rs held) (later own) flight shared items more results h.1 r e fits)
push-answer from held own (AMark bt number ∷ flight) shared items more results h r e fits = (h.0, push-answer from held own flight shared items more results h.1 r e fits)
push-answer from held own (AGive ∷ flight) shared items more results h r e fits = push-answer from held own flight shared items more results h r e fits
push-answer from held own (ARelease ∷ flight) shared items more results h r e fits = (h.0, push-answer from held own flight shared items more results h.1 r e fits)
push-answer from held own (AQuiet ∷ flight) shared items more results h r e fits = push-answer from held own flight shared items more results h r e fits
push-answer from held own (ABad ∷ flight) shared items more results h r e fits = absurd h

-- sound items of one end are apart from those of the other, over one set
sound-apart_item : (role : Role) (set : ContextSet) (i j : Item) → IsSoundItem role set i → IsSoundItem (other role) set j → IsApart i j
sound-apart_item role set (Addition i o) (Addition j u) h g = λ e. parities role (sym h.0 ∙ ap (λ k. k % 2) e ∙ g.0)
  where
    parities : (r : Role) → parity r ≡ parity (other r) → ⊥
    parities Initiator e = grind arith
    parities Responder e = grind arith
sound-apart_item role set (Addition i o) (Deletion j) h g = λ e. true≢false (sym g ∙ ap (λ k. is_some (lookup set k)) (sym e) ∙ ap is_some h.1)
sound-apart_item role set (Deletion i) (Addition j u) h g = λ e. true≢false (sym h ∙ ap (λ k. is_some (lookup set k)) e ∙ ap is_some g.1)
sound-apart_item role set (Deletion i) (Deletion j) h g = tt

sound-apart_from : (role : Role) (set : ContextSet) (i : Item) (js : List Item) → IsSoundItem role set i → AreSound (other role) set js → IsApartFrom i js
sound-apart_from role set i [] h g = tt
sound-apart_from role set i (j ∷ js) h g = (sound-apart_item role set i j h g.0, sound-apart_from role set i js h g.1)

pub sound-apart : (role : Role) (set : ContextSet) (is js : List Item) → AreSound role set is → AreSound (other role) set js → AreApart is js
sound-apart role set [] js h g = tt
sound-apart role set (i ∷ is) js h g = (sound-apart_from role set i js h.0 g, sound-apart role set is js h.1 g)

-- items are sound over a set that is altered only where they name nothing
abbrev pub AreSame : ContextSet → ContextSet → List Item → Type 0
AreSame set other [] = Unit {0}
AreSame set other (item ∷ items) = (lookup set (identifier_of item) ≡ lookup other (identifier_of item)) × AreSame set other items

pub sound-same : (role : Role) (set other : ContextSet) (items : List Item) → AreSound role set items → AreSame set other items → AreSound role other items
sound-same role set other [] s e = tt
sound-same role set other (Addition k o ∷ items) s e = ((s.0.0, sym e.0 ∙ s.0.1), sound-same role set other items s.1 e.1)
sound-same role set other (Deletion k ∷ items) s e = (ap is_some (sym e.0) ∙ s.0, sound-same role set other items s.1 e.1)

same-altered : (set : ContextSet) (asks : List Item) (results : List Result) (items : List Item) (rest : List (List Item)) → AreUntouched items (asks ∷ rest) → AreSame set (altered asks results set) items
same-altered set asks results [] rest u = tt
same-altered set asks results (i ∷ is) rest u = (sym (lookup-altered asks results (identifier_of i) set u.0.0), same-altered set asks results is rest u.1)

pub sound-altered : (role : Role) (set : ContextSet) (asks : List Item) (results : List Result) (items : List Item) (rest : List (List Item)) → AreUntouched items (asks ∷ rest) → AreSound role set items → AreSound role (altered asks results set) items
sound-altered role set asks results items rest u s = sound-same role set (altered asks results set) items s (same-altered set asks results items rest u)

pub sound-shared : (from role : Role) (held : ContextSet) (own : List (List Item)) (flight : List Entry) (shared : ContextSet) (items : List Item) → ReadsFlight from held own flight shared → AreUntouched items own → AreSound role held items → AreSound role shared items
sound-shared from role held own flight shared items h u s = sound-same role held shared items s (same items u)
  where
    same : (is : List Item) → AreUntouched is own → AreSame held shared is
    same [] u = tt
    same (i ∷ is) u = (reads-same from held own flight shared (identifier_of i) h u.0, same is u.1)

-- an alteration joins a flight
pub push-ask : (from : Role) (held : ContextSet) (own : List (List Item)) (flight : List Entry) (shared at : ContextSet) (items : List Item) → ReadsFlight from held own flight shared → AreUntouched items (asked flight) → AreSound from shared items → AreDistinct (identifiers items) → AllApart (unanswered flight own) items → ReadsFlight from held own (flight ++ (AnAsk at items ∷ [])) shared
push-ask from held own [] shared at items h n s d u =
    (subst (λ x. AreSound from x items) (sym h) s, d, u, λ results fits. ap (altered items results) h)
push-ask from held own (AValue bt j q ∷ flight) shared at items h n s d u = (h.0, h.1, push-ask from held own flight shared at items h.2 n s d u)
push-ask from held own (AnAsk bt asks ∷ flight) shared at items h n s d u =
    (h.0, h.1, h.2, λ results fits. push-ask from (altered asks results held) own flight (altered asks results shared) at items (h.3 results fits) (rest items n) (sound-altered from shared asks results items (asked flight) n s) d u)
  where
    rest : (is : List Item) → AreUntouched is (asks ∷ asked flight) → AreUntouched is (asked flight)
    rest [] n = tt
    rest (i ∷ is) n = (n.0.1, rest is n.1)
push-ask from held own (AnAnswer results ∷ flight) shared at items h n s d u = (h.0, push-ask from (altered_first own results held) (later own) flight shared at items h.1 n s d u)
push-ask from held own (AMark bt number ∷ flight) shared at items h n s d u = (h.0, push-ask from held own flight shared at items h.1 n s d u)
push-ask from held own (AGive ∷ flight) shared at items h n s d u = push-ask from held own flight shared at items h n s d u
push-ask from held own (ARelease ∷ flight) shared at items h n s d u = (h.0, push-ask from held own flight shared at items h.1 n s d u)
push-ask from held own (AQuiet ∷ flight) shared at items h n s d u = push-ask from held own flight shared at items h n s d u
push-ask from held own (ABad ∷ flight) shared at items h n s d u = absurd h

-- a mark joins a flight
pub push-mark : (from : Role) (held : ContextSet) (own : List (List Item)) (flight : List Entry) (shared at : ContextSet) (number : ℕ) → ReadsFlight from held own flight shared → asked flight ≡ [] → shared ≡ at → ReadsFlight from held own (flight ++ (AMark at number ∷ [])) shared
push-mark from held own [] shared at number h n a = (h ∙ a, h)
push-mark from held own (AValue bt j q ∷ flight) shared at number h n a = (h.0, h.1, push-mark from held own flight shared at number h.2 n a)
push-mark from held own (AnAsk bt asks ∷ flight) shared at number h n a = absurd (cc)
push-mark from held own (AnAnswer results ∷ flight) shared at number h n a = (h.0, push-mark from (altered_first own results held) (later own) flight shared at number h.1 n a)
push-mark from held own (AMark bt m ∷ flight) shared at number h n a = (h.0, push-mark from held own flight shared at number h.1 n a)
push-mark from held own (AGive ∷ flight) shared at number h n a = push-mark from held own flight shared at number h n a
push-mark from held own (ARelease ∷ flight) shared at number h n a = (h.0, push-mark from held own flight shared at number h.1 n a)
push-mark from held own (AQuiet ∷ flight) shared at number h n a = push-mark from held own flight shared at number h n a
push-mark from held own (ABad ∷ flight) shared at number h n a = absurd h

-- an entry that asks nothing of the sets
abbrev pub IsPlain : Role → Entry → Type 0
IsPlain from AGive = Unit {0}
IsPlain from AQuiet = Unit {0}
IsPlain from ARelease = from ≡ Initiator
IsPlain from entry = ⊥

plain-end : (from : Role) (held : ContextSet) (own : List (List Item)) (shared : ContextSet) (e : Entry) → IsPlain from e → held ≡ shared → ReadsFlight from held own (e ∷ []) shared
plain-end from held own shared AGive p h = h
plain-end from held own shared AQuiet p h = h
plain-end from held own shared ARelease p h = (p, h)
plain-end from held own shared (AValue bt j q) p h = absurd p
plain-end from held own shared (AnAsk bt asks) p h = absurd p
plain-end from held own shared (AnAnswer results) p h = absurd p
plain-end from held own shared (AMark bt m) p h = absurd p
plain-end from held own shared ABad p h = absurd p

pub push-plain : (from : Role) (held : ContextSet) (own : List (List Item)) (flight : List Entry) (shared : ContextSet) (e : Entry) → ReadsFlight from held own flight shared → IsPlain from e → ReadsFlight from held own (flight ++ (e ∷ [])) shared
push-plain from held own [] shared e h p = plain-end from held own shared e p h
push-plain from held own (AValue bt j q ∷ flight) shared e h p = (h.0, h.1, push-plain from held own flight shared e h.2 p)
push-plain from held own (AnAsk bt asks ∷ flight) shared e h p =
    (h.0, h.1, h.2, λ results fits. push-plain from (altered asks results held) own flight (altered asks results shared) e (h.3 results fits) p)
push-plain from held own (AnAnswer results ∷ flight) shared e h p = (h.0, push-plain from (altered_first own results held) (later own) flight shared e h.1 p)
push-plain from held own (AMark bt m ∷ flight) shared e h p = (h.0, push-plain from held own flight shared e h.1 p)
push-plain from held own (AGive ∷ flight) shared e h p = push-plain from held own flight shared e h p
push-plain from held own (ARelease ∷ flight) shared e h p = (h.0, push-plain from held own flight shared e h.1 p)
push-plain from held own (AQuiet ∷ flight) shared e h p = push-plain from held own flight shared e h p
push-plain from held own (ABad ∷ flight) shared e h p = absurd h

-- the alterations on their way to an end are apart from what it may ask for
abbrev pub ApartFromAll : List Item → List (List Item) → Type 0
ApartFromAll items [] = Unit {0}
ApartFromAll items (asks ∷ rest) = AreApart items asks × ApartFromAll items rest

pub asks-apart : (role : Role) (held : ContextSet) (own : List (List Item)) (flight : List Entry) (shared : ContextSet) (items : List Item) → ReadsFlight (other role) held own flight shared → AreUntouched items own → AreSound role held items → ApartFromAll items (asked flight) × AllApart (asked flight) items
asks-apart role held own [] shared items h u s = (tt, tt)
asks-apart role held own (AValue bt j q ∷ flight) shared items h u s = asks-apart role held own flight shared items h.2 u s
asks-apart role held own (AnAsk bt asks ∷ flight) shared items h u s =
    let rest = h.3 (rejections asks) (rejections-fit asks) in
    let f = rejections-altered asks held in
    let g = rejections-altered asks shared in
    let ih = asks-apart role held own flight shared items (subst (λ x. ReadsFlight (other role) held own flight x) g (subst (λ x. ReadsFlight (other role) x own flight (altered asks (rejections asks) shared)) f rest)) u s in
    ((sound-apart role held items asks s h.0, ih.0), (backwards role s h.0, ih.1))
  where
    backwards : (r : Role) → AreSound r held items → AreSound (other r) held asks → AreApart asks items
    backwards Initiator s h = sound-apart Responder held asks items h s
    backwards Responder s h = sound-apart Initiator held asks items h s
asks-apart role held [] (AnAnswer results ∷ flight) shared items h u s = absurd h.0
asks-apart role held (o ∷ own) (AnAnswer results ∷ flight) shared items h u s =
    asks-apart role (altered o results held) own flight shared items h.1 (later-all_untouched items (o ∷ own) u) (sound-altered role held o results items own u s)
asks-apart role held own (AMark bt m ∷ flight) shared items h u s = asks-apart role held own flight shared items h.1 u s
asks-apart role held own (AGive ∷ flight) shared items h u s = asks-apart role held own flight shared items h u s
asks-apart role held own (ARelease ∷ flight) shared items h u s = asks-apart role held own flight shared items h.1 u s
asks-apart role held own (AQuiet ∷ flight) shared items h u s = asks-apart role held own flight shared items h u s
asks-apart role held own (ABad ∷ flight) shared items h u s = absurd h

-- an end asks: what comes to it is read as before
all-apart_more : (own : List (List Item)) (items asks : List Item) → AllApart own asks → AreApart items asks → AllApart (own ++ (items ∷ [])) asks
all-apart_more [] items asks a b = (b, tt)
all-apart_more (o ∷ own) items asks a b = (a.0, all-apart_more own items asks a.1 b)

pub ask-more : (from : Role) (held : ContextSet) (own : List (List Item)) (items : List Item) (flight : List Entry) (shared : ContextSet) → ReadsFlight from held own flight shared → ApartFromAll items (asked flight) → ReadsFlight from held (own ++ (items ∷ [])) flight shared
ask-more from held own items [] shared h a = h
ask-more from held own items (AValue bt j q ∷ flight) shared h a = (h.0, h.1, ask-more from held own items flight shared h.2 a)
ask-more from held own items (AnAsk bt asks ∷ flight) shared h a =
    (h.0, h.1, all-apart_more own items asks h.2 a.0, λ results fits. ask-more from (altered asks results held) own items flight (altered asks results shared) (h.3 results fits) a.1)
ask-more from held [] items (AnAnswer results ∷ flight) shared h a = absurd h.0
ask-more from held (o ∷ own) items (AnAnswer results ∷ flight) shared h a = (h.0, ask-more from (altered o results held) own items flight shared h.1 a)
ask-more from held own items (AMark bt m ∷ flight) shared h a = (h.0, ask-more from held own items flight shared h.1 a)
ask-more from held own items (AGive ∷ flight) shared h a = ask-more from held own items flight shared h a
ask-more from held own items (ARelease ∷ flight) shared h a = (h.0, ask-more from held own items flight shared h.1 a)
ask-more from held own items (AQuiet ∷ flight) shared h a = ask-more from held own items flight shared h a
ask-more from held own items (ABad ∷ flight) shared h a = absurd h

-- an alteration that joins the own ones isn't answered
pub unanswered-more : (from : Role) (held : ContextSet) (own : List (List Item)) (items : List Item) (flight : List Entry) (shared : ContextSet) → ReadsFlight from held own flight shared → unanswered flight (own ++ (items ∷ [])) ≡ unanswered flight own ++ (items ∷ [])
unanswered-more from held own items [] shared h = refl
unanswered-more from held own items (AValue bt j q ∷ flight) shared h = unanswered-more from held own items flight shared h.2
unanswered-more from held own items (AnAsk bt asks ∷ flight) shared h =
    unanswered-more from (altered asks (rejections asks) held) own items flight (altered asks (rejections asks) shared) (h.3 (rejections asks) (rejections-fit asks))
unanswered-more from held [] items (AnAnswer results ∷ flight) shared h = absurd h.0
unanswered-more from held (o ∷ own) items (AnAnswer results ∷ flight) shared h = unanswered-more from (altered o results held) own items flight shared h.1
unanswered-more from held own items (AMark bt m ∷ flight) shared h = unanswered-more from held own items flight shared h.1
unanswered-more from held own items (AGive ∷ flight) shared h = unanswered-more from held own items flight shared h
unanswered-more from held own items (ARelease ∷ flight) shared h = unanswered-more from held own items flight shared h.1
unanswered-more from held own items (AQuiet ∷ flight) shared h = unanswered-more from held own items flight shared h
unanswered-more from held own items (ABad ∷ flight) shared h = absurd h

-- no answer is in a flight to an end with no own alteration
pub no-answers : (from : Role) (held : ContextSet) (flight : List Entry) (shared : ContextSet) (own : List (List Item)) → ReadsFlight from held [] flight shared → unanswered flight own ≡ own
no-answers from held [] shared own h = refl
no-answers from held (AValue bt j q ∷ flight) shared own h = no-answers from held flight shared own h.2
no-answers from held (AnAsk bt asks ∷ flight) shared own h =
    no-answers from (altered asks (rejections asks) held) flight (altered asks (rejections asks) shared) own (h.3 (rejections asks) (rejections-fit asks))
no-answers from held (AnAnswer results ∷ flight) shared own h = absurd h.0
no-answers from held (AMark bt m ∷ flight) shared own h = no-answers from held flight shared own h.1
no-answers from held (AGive ∷ flight) shared own h = no-answers from held flight shared own h
no-answers from held (ARelease ∷ flight) shared own h = no-answers from held flight shared own h.1
no-answers from held (AQuiet ∷ flight) shared own h = no-answers from held flight shared own h
no-answers from held (ABad ∷ flight) shared own h = absurd h

pub asked-append : (flight more : List Entry) → asked (flight ++ more) ≡ asked flight ++ asked more
asked-append [] more = refl
asked-append (AValue bt j q ∷ flight) more = asked-append flight more
asked-append (AnAsk bt asks ∷ flight) more = ap (λ xs. asks ∷ xs) (asked-append flight more)
asked-append (AnAnswer results ∷ flight) more = asked-append flight more
asked-append (AMark bt m ∷ flight) more = asked-append flight more
asked-append (AGive ∷ flight) more = asked-append flight more
asked-append (ARelease ∷ flight) more = asked-append flight more
asked-append (AQuiet ∷ flight) more = asked-append flight more
asked-append (ABad ∷ flight) more = asked-append flight more

pub unanswered-append : (flight more : List Entry) (own : List (List Item)) → unanswered (flight ++ more) own ≡ unanswered more (unanswered flight own)
unanswered-append [] more own = refl
unanswered-append (AValue bt j q ∷ flight) more own = unanswered-append flight more own
unanswered-append (AnAsk bt asks ∷ flight) more own = unanswered-append flight more own
unanswered-append (AnAnswer results ∷ flight) more own = unanswered-append flight more (later own)
unanswered-append (AMark bt m ∷ flight) more own = unanswered-append flight more own
unanswered-append (AGive ∷ flight) more own = unanswered-append flight more own
unanswered-append (ARelease ∷ flight) more own = unanswered-append flight more own
unanswered-append (AQuiet ∷ flight) more own = unanswered-append flight more own
unanswered-append (ABad ∷ flight) more own = unanswered-append flight more own

-- marks and the token: a mark carries the next number and comes from the token's holder
abbrev pub Paced : ℕ → Bool → List Saved → List Entry → Type 0
Paced most turn saved [] = Unit {0}
Paced most turn saved (AValue bt j q ∷ flight) = Paced most turn saved flight
Paced most turn saved (AnAsk bt asks ∷ flight) = Paced most turn saved flight
Paced most turn saved (AnAnswer results ∷ flight) = Paced most turn saved flight
Paced most turn saved (AMark at number ∷ flight) =
    (turn ≡ false) × (number ≡ next_number saved) × (number ≤ most) × Paced most turn (record { number = number; set = at } ∷ saved) flight
Paced most turn saved (AGive ∷ flight) = (turn ≡ false) × Paced most true saved flight
Paced most turn saved (ARelease ∷ flight) = Paced most turn saved flight
Paced most turn saved (AQuiet ∷ flight) = Paced most turn saved flight
Paced most turn saved (ABad ∷ flight) = Paced most turn saved flight

abbrev pub turn_after : Bool → List Entry → Bool
turn_after turn [] = turn
turn_after turn (AValue bt j q ∷ flight) = turn_after turn flight
turn_after turn (AnAsk bt asks ∷ flight) = turn_after turn flight
turn_after turn (AnAnswer results ∷ flight) = turn_after turn flight
turn_after turn (AMark at number ∷ flight) = turn_after turn flight
turn_after turn (AGive ∷ flight) = turn_after true flight
turn_after turn (ARelease ∷ flight) = turn_after turn flight
turn_after turn (AQuiet ∷ flight) = turn_after turn flight
turn_after turn (ABad ∷ flight) = turn_after turn flight

abbrev pub saved_after : List Saved → List Entry → List Saved
saved_after saved [] = saved
saved_after saved (AValue bt j q ∷ flight) = saved_after saved flight
saved_after saved (AnAsk bt asks ∷ flight) = saved_after saved flight
saved_after saved (AnAnswer results ∷ flight) = saved_after saved flight
saved_after saved (AMark at number ∷ flight) = saved_after (record { number = number; set = at } ∷ saved) flight
saved_after saved (AGive ∷ flight) = saved_after saved flight
saved_after saved (ARelease ∷ flight) = saved_after saved flight
saved_after saved (AQuiet ∷ flight) = saved_after saved flight
saved_after saved (ABad ∷ flight) = saved_after saved flight

-- no mark and no giving is on its way to the token's holder
pub record IsStill (most : ℕ) (flight : List Entry) : Type 0 where
  pub paced : (turn : Bool) (saved : List Saved) → Paced most turn saved flight
  pub turn : (turn : Bool) → turn_after turn flight ≡ turn
  pub marks : (saved : List Saved) → saved_after saved flight ≡ saved

still-same : (most : ℕ) (flight : List Entry) (e : Entry) → ((turn : Bool) (saved : List Saved) → Paced most turn saved flight → Paced most turn saved (e ∷ flight)) → ((turn : Bool) → turn_after turn (e ∷ flight) ≡ turn_after turn flight) → ((saved : List Saved) → saved_after saved (e ∷ flight) ≡ saved_after saved flight) → IsStill most flight → IsStill most (e ∷ flight)
still-same most flight e p t m s =
    record { paced = λ turn saved. p turn saved (s.paced turn saved); turn = λ turn. t turn ∙ s.turn turn; marks = λ saved. m saved ∙ s.marks saved }

pub paced-holder : (most : ℕ) (saved : List Saved) (flight : List Entry) → Paced most true saved flight → IsStill most flight
paced-holder most saved [] p = record { paced = λ turn saved. tt; turn = λ turn. refl; marks = λ saved. refl }
paced-holder most saved (AValue bt j q ∷ flight) p = still-same most flight _ (λ t v h. h) (λ t. refl) (λ v. refl) (paced-holder most saved flight p)
paced-holder most saved (AnAsk bt asks ∷ flight) p = still-same most flight _ (λ t v h. h) (λ t. refl) (λ v. refl) (paced-holder most saved flight p)
paced-holder most saved (AnAnswer results ∷ flight) p = still-same most flight _ (λ t v h. h) (λ t. refl) (λ v. refl) (paced-holder most saved flight p)
paced-holder most saved (AMark at number ∷ flight) p = absurd (true≢false p.0)
paced-holder most saved (AGive ∷ flight) p = absurd (true≢false p.0)
paced-holder most saved (ARelease ∷ flight) p = still-same most flight _ (λ t v h. h) (λ t. refl) (λ v. refl) (paced-holder most saved flight p)
paced-holder most saved (AQuiet ∷ flight) p = still-same most flight _ (λ t v h. h) (λ t. refl) (λ v. refl) (paced-holder most saved flight p)
paced-holder most saved (ABad ∷ flight) p = still-same most flight _ (λ t v h. h) (λ t. refl) (λ v. refl) (paced-holder most saved flight p)

pub paced-append : (most : ℕ) (turn : Bool) (saved : List Saved) (flight more : List Entry) → Paced most turn saved flight → Paced most (turn_after turn flight) (saved_after saved flight) more → Paced most turn saved (flight ++ more)
paced-append most turn saved [] more p q = q
paced-append most turn saved (AValue bt j s ∷ flight) more p q = paced-append most turn saved flight more p q
paced-append most turn saved (AnAsk bt asks ∷ flight) more p q = paced-append most turn saved flight more p q
paced-append most turn saved (AnAnswer results ∷ flight) more p q = paced-append most turn saved flight more p q
paced-append most turn saved (AMark at number ∷ flight) more p q = (p.0, p.1, p.2, paced-append most turn (record { number = number; set = at } ∷ saved) flight more p.3 q)
paced-append most turn saved (AGive ∷ flight) more p q = (p.0, paced-append most true saved flight more p.1 q)
paced-append most turn saved (ARelease ∷ flight) more p q = paced-append most turn saved flight more p q
paced-append most turn saved (AQuiet ∷ flight) more p q = paced-append most turn saved flight more p q
paced-append most turn saved (ABad ∷ flight) more p q = paced-append most turn saved flight more p q

pub turn-append : (turn : Bool) (flight more : List Entry) → turn_after turn (flight ++ more) ≡ turn_after (turn_after turn flight) more
turn-append turn [] more = refl
turn-append turn (AValue bt j s ∷ flight) more = turn-append turn flight more
turn-append turn (AnAsk bt asks ∷ flight) more = turn-append turn flight more
turn-append turn (AnAnswer results ∷ flight) more = turn-append turn flight more
turn-append turn (AMark at number ∷ flight) more = turn-append turn flight more
turn-append turn (AGive ∷ flight) more = turn-append true flight more
turn-append turn (ARelease ∷ flight) more = turn-append turn flight more
turn-append turn (AQuiet ∷ flight) more = turn-append turn flight more
turn-append turn (ABad ∷ flight) more = turn-append turn flight more

pub saved-append : (saved : List Saved) (flight more : List Entry) → saved_after saved (flight ++ more) ≡ saved_after (saved_after saved flight) more
saved-append saved [] more = refl
saved-append saved (AValue bt j s ∷ flight) more = saved-append saved flight more
saved-append saved (AnAsk bt asks ∷ flight) more = saved-append saved flight more
saved-append saved (AnAnswer results ∷ flight) more = saved-append saved flight more
saved-append saved (AMark at number ∷ flight) more = saved-append (record { number = number; set = at } ∷ saved) flight more
saved-append saved (AGive ∷ flight) more = saved-append saved flight more
saved-append saved (ARelease ∷ flight) more = saved-append saved flight more
saved-append saved (AQuiet ∷ flight) more = saved-append saved flight more
saved-append saved (ABad ∷ flight) more = saved-append saved flight more

-- what is saved below a number that was reached stays, whatever marks come
pub below-after : (most : ℕ) (turn : Bool) (saved : List Saved) (flight : List Entry) (n : ℕ) → Paced most turn saved flight → n ≤ next_number saved → below n (saved_after saved flight) ≡ below n saved
below-after most turn saved [] n p h = refl
below-after most turn saved (AValue bt j s ∷ flight) n p h = below-after most turn saved flight n p h
below-after most turn saved (AnAsk bt asks ∷ flight) n p h = below-after most turn saved flight n p h
below-after most turn saved (AnAnswer results ∷ flight) n p h = below-after most turn saved flight n p h
below-after most turn saved (AMark at number ∷ flight) n p h =
    let e = p.1 in
    let high : n ≤ suc number = omega arith in
    let low : n ≤ number = omega arith in
    let skip : below n (record { number = number; set = at } ∷ saved) ≡ below n saved = grind (arith, nat_tests) in
    below-after most turn (record { number = number; set = at } ∷ saved) flight n p.3 high ∙ skip
below-after most turn saved (AGive ∷ flight) n p h = below-after most true saved flight n p.1 h
below-after most turn saved (ARelease ∷ flight) n p h = below-after most turn saved flight n p h
below-after most turn saved (AQuiet ∷ flight) n p h = below-after most turn saved flight n p h
below-after most turn saved (ABad ∷ flight) n p h = below-after most turn saved flight n p h

pub next-after : (most : ℕ) (turn : Bool) (saved : List Saved) (flight : List Entry) (n : ℕ) → Paced most turn saved flight → n ≤ next_number saved → n ≤ next_number (saved_after saved flight)
next-after most turn saved [] n p h = h
next-after most turn saved (AValue bt j s ∷ flight) n p h = next-after most turn saved flight n p h
next-after most turn saved (AnAsk bt asks ∷ flight) n p h = next-after most turn saved flight n p h
next-after most turn saved (AnAnswer results ∷ flight) n p h = next-after most turn saved flight n p h
next-after most turn saved (AMark at number ∷ flight) n p h =
    let e = p.1 in
    next-after most turn (record { number = number; set = at } ∷ saved) flight n p.3 (omega arith)
next-after most turn saved (AGive ∷ flight) n p h = next-after most true saved flight n p.1 h
next-after most turn saved (ARelease ∷ flight) n p h = next-after most turn saved flight n p h
next-after most turn saved (AQuiet ∷ flight) n p h = next-after most turn saved flight n p h
next-after most turn saved (ABad ∷ flight) n p h = next-after most turn saved flight n p h
