-- The laws of reading whole values.
use Rattle.std.proofs.Common.{◌≡◌, ◌≢◌, ℕ, ◌+◌, ◌≤◌, ◌<◌, ◌^◌, List, [], ◌++◌, length, take, drop, Result, Ok, Err, refl, sym, ap, ◌∙◌, subst, arith, length-append, IfOk, inl, inr}
use Rattle.std.proofs.lemmas.List.{append-nil, take_at, take-append-drop, length-take}
use Rattle.osi_base.specs.Limits.{most_items}
use Rattle.asn1_types.specs.declared.row.TypeRow.{TypeRow}
use Rattle.asn1_types.specs.Value.{Value}
use Rattle.packed_codec.specs.declared.fault.PackedFault.{PackedFault}
use Rattle.packed_codec.specs.declared.fault.PackedFault.TheVariants as faults
use Rattle.packed_codec.specs.declared.whole_values.Read.{Read}
use Rattle.osi_base.specs.Octets.{AreOctets}
use Rattle.osi_base.proofs.OctetLaws.{octets_left}
use Rattle.packed_codec.specs.Reading.{Spot, Reading, ◌>>=◌, Gives}
use Rattle.packed_codec.specs.Rules.{reads, start, read_at}
use Rattle.packed_codec.specs.Writing.{packed, items}
use Rattle.packed_codec.specs.Laws.{packs, Packed, IsRead, ReadIsSpelled, SpelledIsRead, NoneBegins, ReadStays, FaultStays, IsAt, FaultIsFirst, BeginsSpelled, OneHolds, OneOfThree, BeginningIsShort, WrittenIsRead}
use Rattle.packed_codec.proofs.Growing.{Grows, Grows-bind, with_spot, along_grows}
use Rattle.packed_codec.proofs.Inside.{Inside, second, along_inside}
use Rattle.packed_codec.proofs.Taking.{bind_ok, ok_is}
use Rattle.packed_codec.proofs.RowLaws.{along_found, along_only}

read_grows : (rows : List TypeRow) (n limit : ℕ) (bytes more : List ℕ) → Grows (λ x. x) (read_at rows n limit bytes) (read_at rows n limit (bytes ++ more))
unfolding read_at reads
read_grows rows n limit bytes more =
    Grows-bind (with_spot more) (λ x. x) (reads rows n limit (start bytes)) (reads rows n limit (start (bytes ++ more))) _ _
    ((along_grows rows _ n).grows limit (start bytes) more) (λ x e. refl)

grown_ok : (r s : Reading (Value × ℕ)) (x : Value × ℕ) → Grows (λ x. x) r s → r ≡ Ok x → s ≡ Ok x
grown_ok r s x g e = let h : Grows (λ x. x) (Ok x) s = subst (λ (t : Reading (Value × ℕ)). Grows (λ x. x) t s) e g in h

pub read_stays : ReadStays
read_stays rows n limit bytes more v used e = grown_ok _ _ (v, used) (read_grows rows n limit bytes more) e

grown_err : (f : PackedFault) (r s : Reading (Value × ℕ)) → f ≢ faults.Short → Grows (λ x. x) r s → r ≡ Err f → s ≡ Err f
grown_err f r s a g e = by_fault f s a (subst (λ (t : Reading (Value × ℕ)). Grows (λ x. x) t s) e g)
  where
    by_fault : (f : PackedFault) (s : Reading (Value × ℕ)) → f ≢ faults.Short → Grows (λ x. x) (Err f) s → s ≡ Err f
    by_fault (faults.NotSpelled place kind) s a g = g
    by_fault faults.Short s a g = absurd (a refl)
    by_fault (faults.TooLong place) s a g = g
    by_fault faults.NoMemory s a g = g

pub fault_stays : FaultStays
fault_stays rows n limit bytes more fault a e = grown_err fault _ _ a (read_grows rows n limit bytes more) e

pub read_is_spelled : ReadIsSpelled
unfolding read_at reads packs packed
read_is_spelled rows n limit bytes v used are e =
    let b = bind_ok (reads rows n limit (start bytes)) (λ x. Ok (x.0, x.1.place)) (v, used) e in
    let w : Value = b.0.0 in
    let to : Spot = b.0.1 in
    let r = (along_found rows (length rows) n).found limit (start bytes) w to are (omega arith) b.1 in
    let same = ok_is {A = Value × ℕ} (w, to.place) (v, used) b.2 in
    let len : to.place ≡ length (packed rows n w) = omega (arith, r.onward) in
    let front : take to.place bytes ≡ packed rows n w = ap (take to.place) r.parts ∙ take_at (packed rows n w) to.rest to.place (sym len) in
    let whole : to.place ≤ length bytes = omega (arith, ap length r.parts, length-append (packed rows n w) to.rest) in
    let few : items w ≤ most_items = omega (arith, r.spent) in
    let within : length (take to.place bytes) ≤ limit = omega (arith, ap length front, r.inside) in
    subst (λ (y : Value × ℕ). (y.1 ≤ length bytes) × Packed rows n limit y.0 (take y.1 bytes)) same
    (whole, record { fit = r.fit; are = front; within = within; few = few })

pub spelled_is_read : SpelledIsRead
unfolding read_at reads packs packed
spelled_is_read rows n limit v spelled rest lt p =
    let c : List ℕ = packed rows n v in
    let len : length spelled ≡ length c = ap length p.are in
    let le : 0 + length c ≤ limit = omega (arith, p.within) in
    let few = p.few in
    let r = (along_only rows (length rows) n).only limit 0 most_items v rest p.fit lt le few (omega arith) in
    let end : 0 + length c ≡ length spelled = omega arith in
    ap (λ (x : List ℕ). read_at rows n limit (x ++ rest)) p.are ∙ rw r (ap (λ (k : ℕ). Ok (v, k)) end)

abbrev finished : Value × ℕ → Reading (Value × ℕ)
finished x = Ok x

abbrev failed : PackedFault → Reading (Value × ℕ)
failed f = Err f

err_is : (f g : PackedFault) → failed f ≡ failed g → f ≡ g
err_is f g e = cc

-- fronts of one list that are as long are one
same_front : (a b x y : List ℕ) → a ++ x ≡ b ++ y → length a ≡ length b → a ≡ b
same_front a b x y e len = sym (take_at a x (length a) refl) ∙ ap (take (length a)) e ∙ take_at b y (length a) (sym len)

pub none_begins : NoneBegins
none_begins rows n limit v w a b x y lt p q e =
    let first = spelled_is_read rows n limit v a x lt p in
    let second = spelled_is_read rows n limit w b y lt q in
    let same : finished (v, length a) ≡ finished (w, length b) = sym first ∙ ap (read_at rows n limit) e ∙ second in
    let pair = ok_is {A = Value × ℕ} (v, length a) (w, length b) same in
    (same_front a b x y e (ap (λ (z : Value × ℕ). z.1) pair), ap (λ (z : Value × ℕ). z.0) pair)

pub written_is_read : WrittenIsRead
written_is_read rows n limit v rest lt f le few =
    spelled_is_read rows n limit v (packed rows n v) rest lt (record { fit = f; are = refl; within = le; few = few })

pub beginning_is_short : BeginningIsShort
beginning_is_short rows n limit v front back lt are p some = by_case (read_at rows n limit front) refl
  where
    whole : read_at rows n limit (front ++ back) ≡ Ok (v, length (front ++ back))
    whole = ap (read_at rows n limit) (sym (append-nil (front ++ back))) ∙ spelled_is_read rows n limit v (front ++ back) [] lt p

    wrong : (f : PackedFault) → f ≢ faults.Short → read_at rows n limit front ≡ Err f → ⊥
    wrong f ne e = let stays = fault_stays rows n limit front back f ne e in let no_way : Err f ≡ finished (v, length (front ++ back)) = sym stays ∙ whole in cc

    by_case : (r : Reading (Value × ℕ)) → read_at rows n limit front ≡ r → r ≡ Err faults.Short
    by_case (Ok x) e =
        let stays = read_stays rows n limit front back x.0 x.1 e in
        let same = ok_is {A = Value × ℕ} x (v, length (front ++ back)) (sym stays ∙ whole) in
        let used : x.1 ≡ length (front ++ back) = ap (λ (z : Value × ℕ). z.1) same in
        let le : x.1 ≤ length front = (read_is_spelled rows n limit front x.0 x.1 (octets_left front back are) e).0 in
        absurd (omega (arith, length-append front back))
    by_case (Err faults.Short) e = refl
    by_case (Err (faults.NotSpelled place kind)) e = absurd (wrong (faults.NotSpelled place kind) (λ q. cc) e)
    by_case (Err (faults.TooLong place)) e = absurd (wrong (faults.TooLong place) (λ q. cc) e)
    by_case (Err faults.NoMemory) e = absurd (wrong faults.NoMemory (λ q. cc) e)

-- ---- the first fault

abbrev PlaceInside : ℕ → Reading (Value × ℕ) → Type 0
PlaceInside end (Ok x) = Unit {0}
PlaceInside end (Err fault) = (fault ≢ faults.NoMemory) × ((place : ℕ) → IsAt fault place → place ≤ end)

place_inside : (end : ℕ) (r : Reading (Value × Spot)) → Inside second end r → PlaceInside end (r >>= (λ x. Ok (x.0, x.1.place)))
place_inside end (Ok x) h = tt
place_inside end (Err (faults.NotSpelled at kind)) h = (λ q. cc, λ place e. omega arith)
place_inside end (Err faults.Short) h = (λ q. cc, λ place e. absurd e)
place_inside end (Err (faults.TooLong at)) h = (λ q. cc, λ place e. omega arith)
place_inside end (Err faults.NoMemory) h = absurd h

fault_inside : (rows : List TypeRow) (n limit : ℕ) (bytes : List ℕ) → PlaceInside (length bytes) (read_at rows n limit bytes)
unfolding read_at reads
fault_inside rows n limit bytes =
    place_inside (length bytes) (reads rows n limit (start bytes)) ((along_inside rows (length rows) n).each limit (start bytes) (length bytes) (omega arith))

at_fault : (rows : List TypeRow) (n limit : ℕ) (bytes : List ℕ) (fault : PackedFault) → read_at rows n limit bytes ≡ Err fault → PlaceInside (length bytes) (Err fault)
at_fault rows n limit bytes fault e = subst (λ (r : Reading (Value × ℕ)). PlaceInside (length bytes) r) e (fault_inside rows n limit bytes)

pub fault_is_first : FaultIsFirst
fault_is_first rows n limit bytes fault place at e = ((at_fault rows n limit bytes fault e).1 place at, λ k lt. before k lt (read_at rows n limit (take k bytes)) refl)
  where
    whole : (k : ℕ) → read_at rows n limit (take k bytes ++ drop k bytes) ≡ Err fault
    whole k = ap (read_at rows n limit) (take-append-drop k bytes) ∙ e

    wrong : (k : ℕ) → k < place → (f : PackedFault) → f ≢ faults.Short → read_at rows n limit (take k bytes) ≡ Err f → ⊥
    wrong k lt f ne d =
        let stays = fault_stays rows n limit (take k bytes) (drop k bytes) f ne d in
        let same : f ≡ fault = err_is f fault (sym stays ∙ whole k) in
        let le = (at_fault rows n limit (take k bytes) f d).1 place (subst (λ (g : PackedFault). IsAt g place) (sym same) at) in
        omega (arith, length-take k bytes)

    before : (k : ℕ) → k < place → (r : Reading (Value × ℕ)) → read_at rows n limit (take k bytes) ≡ r → r ≡ Err faults.Short
    before k lt (Ok x) d = let stays = read_stays rows n limit (take k bytes) (drop k bytes) x.0 x.1 d in let no_way : finished x ≡ Err fault = sym stays ∙ whole k in absurd cc
    before k lt (Err faults.Short) d = refl
    before k lt (Err (faults.NotSpelled p kind)) d = absurd (wrong k lt (faults.NotSpelled p kind) (λ q. cc) d)
    before k lt (Err (faults.TooLong p)) d = absurd (wrong k lt (faults.TooLong p) (λ q. cc) d)
    before k lt (Err faults.NoMemory) d = absurd (wrong k lt faults.NoMemory (λ q. cc) d)

pub one_of_three : OneOfThree
one_of_three rows n limit bytes lt are = by_case (read_at rows n limit bytes) refl
  where
    not_spelled : (f : PackedFault) → read_at rows n limit bytes ≡ Err f → BeginsSpelled rows n limit bytes → ⊥
    not_spelled f e p =
        let read = spelled_is_read rows n limit p.0 (take p.1 bytes) (drop p.1 bytes) lt p.3 in
        let same : read_at rows n limit bytes ≡ finished (p.0, length (take p.1 bytes)) = ap (read_at rows n limit) (sym (take-append-drop p.1 bytes)) ∙ read in
        let wrong : failed f ≡ finished (p.0, length (take p.1 bytes)) = sym e ∙ same in
        cc

    by_case : (r : Reading (Value × ℕ)) → read_at rows n limit bytes ≡ r → OneHolds rows n limit bytes
    by_case (Ok x) e = let found = read_is_spelled rows n limit bytes x.0 x.1 are e in inl ((x.0, x.1, found.0, found.1), λ f q. let wrong : finished x ≡ failed f = sym e ∙ q in cc)
    by_case (Err faults.Short) e = inr (inr (not_spelled faults.Short e, e))
    by_case (Err (faults.NotSpelled place kind)) e = inr (inl (not_spelled (faults.NotSpelled place kind) e, faults.NotSpelled place kind, place, refl, e))
    by_case (Err (faults.TooLong place)) e = inr (inl (not_spelled (faults.TooLong place) e, faults.TooLong place, place, refl, e))
    by_case (Err faults.NoMemory) e = absurd ((at_fault rows n limit bytes faults.NoMemory e).0 refl)

-- ---- for the calls

pub is_found : (rows : List TypeRow) (n limit : ℕ) (bytes : List ℕ) (result : Result Read PackedFault) → AreOctets bytes
    → Gives (λ r. (r.value, r.used)) result (read_at rows n limit bytes) → IfOk result (λ r. (r.used ≤ length bytes) × Packed rows n limit r.value (take r.used bytes))
is_found rows n limit bytes (Ok r) are e = read_is_spelled rows n limit bytes r.value r.used are e
is_found rows n limit bytes (Err f) are e = tt

is_read : (v : Value) (used : ℕ) (result : Result Read PackedFault) → Gives (λ r. (r.value, r.used)) result (finished (v, used)) → IsRead result v used
is_read v used (Ok r) e = let same = ok_is {A = Value × ℕ} (v, used) (r.value, r.used) e in (ap (λ (x : Value × ℕ). x.0) (sym same), ap (λ (x : Value × ℕ). x.1) (sym same))
is_read v used (Err (faults.NotSpelled place kind)) e = absurd cc
is_read v used (Err faults.Short) e = absurd cc
is_read v used (Err (faults.TooLong place)) e = absurd cc
is_read v used (Err faults.NoMemory) e = refl

pub is_only : (rows : List TypeRow) (n limit : ℕ) (bytes : List ℕ) (result : Result Read PackedFault) → limit < 2 ^ 32
    → Gives (λ r. (r.value, r.used)) result (read_at rows n limit bytes) → (v : Value) (k : ℕ) → k ≤ length bytes → Packed rows n limit v (take k bytes) → IsRead result v k
is_only rows n limit bytes result lt e v k le p =
    let read = spelled_is_read rows n limit v (take k bytes) (drop k bytes) lt p in
    let len : length (take k bytes) ≡ k = omega (arith, length-take k bytes) in
    let same : read_at rows n limit bytes ≡ Ok (v, k) = ap (read_at rows n limit) (sym (take-append-drop k bytes)) ∙ read ∙ ap (λ (j : ℕ). Ok (v, j)) len in
    is_read v k result (subst (λ (r : Reading (Value × ℕ)). Gives (λ x. (x.value, x.used)) result r) same e)
