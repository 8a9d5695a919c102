-- The laws of reading whole values.
use Rattle.std.proofs.Common.{◌≡◌, ◌≢◌, ℕ, ◌+◌, ◌≤◌, Bool, List, [], ◌++◌, length, take, drop, Ok, Err, refl, sym, ap, ◌∙◌, subst, arith, length-append, inl, inr}
use Rattle.std.proofs.lemmas.List.{append-nil, take_at, take-append-drop}
use Rattle.osi_base.proofs.OctetLaws.{octets_left}
use Rattle.asn1_types.specs.declared.row.TypeRow.{TypeRow}
use Rattle.asn1_types.specs.Value.{Value}
use Rattle.ber_spelling.specs.declared.fault.ReadFault.{ReadFault}
use Rattle.ber_spelling.specs.declared.fault.ReadFault.TheVariants as faults
use Rattle.ber_spelling.specs.Reading.{Spot, Reading}
use Rattle.ber_spelling.specs.Fields.{identifier_at}
use Rattle.ber_spelling.specs.Rules.{reads, value_at, read_at, outermost, plain}
use Rattle.ber_spelling.specs.Spelling.{SpelledBy, Spells}
use Rattle.ber_spelling.specs.Laws.{ReadIsSpelled, SpelledIsRead, NoneBegins, ReadStays, FaultStays, BeginningIsShort, BeginsSpelled, OneHolds, OneOfThree}
use Rattle.ber_spelling.proofs.Identifiers.{IsIn, bind_ok, ok_is}
use Rattle.ber_spelling.proofs.Growing.{Grows, Grows-bind, with_spot, with_opened, identifier_grows}
use Rattle.ber_spelling.proofs.GrowingRules.{along_grows}
use Rattle.ber_spelling.proofs.RowLaws.{along_found, along_only}

pub read_is_spelled : ReadIsSpelled
unfolding read_at value_at reads
read_is_spelled rows n strict limit bytes v used are e =
    let scope = outermost limit strict in
    let b1 = bind_ok (value_at rows n scope 0 bytes) _ (v, used) e in
    let w : Value = b1.0.0 in
    let to : Spot = b1.0.1 in
    let b2 = bind_ok (identifier_at scope 0 bytes) _ (w, to) b1.1 in
    let r = (along_found rows (length rows) n plain).found scope 0 bytes b2.0.0 b2.0.1 w to are b2.1 b2.2 in
    let same = ok_is {A = Value × ℕ} (w, to.place) (v, used) b1.2 in
    let len : to.place ≡ length r.text = omega (arith, r.taken.onward) in
    let front : take to.place bytes ≡ r.text = ap (take to.place) r.taken.parts ∙ take_at r.text to.rest to.place (sym len) in
    let whole : to.place ≤ length bytes = omega (arith, ap length r.taken.parts, length-append r.text to.rest) in
    subst (λ (y : Value × ℕ). (y.1 ≤ length bytes) × Spells rows n strict limit y.0 (take y.1 bytes)) same
    (whole, record { by = subst (λ (x : List ℕ). SpelledBy rows (length rows) n plain strict 32 w x) (sym front) r.spelled; within = rw front (omega (arith, r.is_in.limit)) })

pub spelled_is_read : SpelledIsRead
unfolding read_at value_at reads
spelled_is_read rows n strict limit v spelled rest sound p =
    let scope = outermost limit strict in
    let le : 0 + length spelled ≤ limit = omega (arith, p.within) in
    let here : IsIn scope (0 + length spelled) = record { limit = le; end = refl } in
    let r = (along_only rows sound (length rows) n plain tt).only scope 0 v spelled rest p.by here in
    rw (r.opens, r.reads) (let none : 0 + length spelled ≡ length spelled = omega arith in ap (λ (k : ℕ). Ok (v, k)) none)

abbrev done : Value × ℕ → Reading (Value × ℕ)
done x = Ok x

-- fronts of one list that are as long are one
same_front : (a b x y : List ℕ) → a ++ x ≡ b ++ y → length a ≡ length b → a ≡ b
same_front a b x y e len = sym (take_at a x (length a) refl) ∙ ap (take (length a)) e ∙ take_at b y (length a) (sym len)

pub none_begins : NoneBegins
none_begins rows n strict limit v w a b x y sound p q e =
    let first = spelled_is_read rows n strict limit v a x sound p in
    let second = spelled_is_read rows n strict limit w b y sound q in
    let same : done (v, length a) ≡ done (w, length b) = sym first ∙ ap (read_at rows n strict limit) e ∙ second in
    let pair = ok_is {A = Value × ℕ} (v, length a) (w, length b) same in
    (same_front a b x y e (ap (λ (z : Value × ℕ). z.1) pair), ap (λ (z : Value × ℕ). z.0) pair)

read_grows : (rows : List TypeRow) (n : ℕ) (strict : Bool) (limit : ℕ) (bytes more : List ℕ) → Grows (λ x. x) (read_at rows n strict limit bytes) (read_at rows n strict limit (bytes ++ more))
unfolding read_at value_at reads
read_grows rows n strict limit bytes more =
    let scope = outermost limit strict in
    Grows-bind (with_spot more) (λ x. x) (value_at rows n scope 0 bytes) (value_at rows n scope 0 (bytes ++ more)) _ _
    (Grows-bind (with_opened more) (with_spot more) (identifier_at scope 0 bytes) (identifier_at scope 0 (bytes ++ more)) _ _ (identifier_grows scope 0 bytes more) (λ x e.
    (along_grows rows (length rows) n plain).grows scope x.0 x.1 more)) (λ x e. refl)

grown_ok : (r s : Reading (Value × ℕ)) (x : Value × ℕ) → Grows (λ x. x) r s → r ≡ Ok x → s ≡ Ok x
grown_ok r s x g e = let h : Grows (λ x. x) (Ok x) s = subst (λ (t : Reading (Value × ℕ)). Grows (λ x. x) t s) e g in h

pub read_stays : ReadStays
read_stays rows n strict limit bytes more v used e = grown_ok _ _ (v, used) (read_grows rows n strict limit bytes more) e

grown_err : (f : ReadFault) (r s : Reading (Value × ℕ)) → f ≢ faults.Short → Grows (λ x. x) r s → r ≡ Err f → s ≡ Err f
grown_err f r s a g e = by_fault f s a (subst (λ (t : Reading (Value × ℕ)). Grows (λ x. x) t s) e g)
  where
    by_fault : (f : ReadFault) (s : Reading (Value × ℕ)) → f ≢ faults.Short → Grows (λ x. x) (Err f) s → s ≡ Err f
    by_fault (faults.NotSpelled place kind) s a g = g
    by_fault faults.Short s a g = absurd (a refl)
    by_fault (faults.TooDeep place) s a g = g
    by_fault (faults.TooLong place) s a g = g
    by_fault faults.NoMemory s a g = g

pub fault_stays : FaultStays
fault_stays rows n strict limit bytes more fault a e = grown_err fault _ _ a (read_grows rows n strict limit bytes more) e

pub beginning_is_short : BeginningIsShort
beginning_is_short rows n strict limit v front back sound are p some = by_case (read_at rows n strict limit front) refl
  where
    whole : read_at rows n strict limit (front ++ back) ≡ Ok (v, length (front ++ back))
    whole = ap (read_at rows n strict limit) (sym (append-nil (front ++ back))) ∙ spelled_is_read rows n strict limit v (front ++ back) [] sound p

    wrong : (f : ReadFault) → f ≢ faults.Short → read_at rows n strict limit front ≡ Err f → ⊥
    wrong f ne e = let stays = fault_stays rows n strict limit front back f ne e in let no : Err f ≡ done (v, length (front ++ back)) = sym stays ∙ whole in cc

    by_case : (r : Reading (Value × ℕ)) → read_at rows n strict limit front ≡ r → r ≡ Err faults.Short
    by_case (Ok x) e =
        let stays = read_stays rows n strict limit front back x.0 x.1 e in
        let same = ok_is {A = Value × ℕ} x (v, length (front ++ back)) (sym stays ∙ whole) in
        let used : x.1 ≡ length (front ++ back) = ap (λ (z : Value × ℕ). z.1) same in
        let le : x.1 ≤ length front = (read_is_spelled rows n strict limit front x.0 x.1 (octets_left front back are) e).0 in
        absurd (omega (arith, length-append front back))
    by_case (Err faults.Short) e = refl
    by_case (Err (faults.NotSpelled place kind)) e = absurd (wrong (faults.NotSpelled place kind) (λ q. cc) e)
    by_case (Err (faults.TooDeep place)) e = absurd (wrong (faults.TooDeep place) (λ q. cc) e)
    by_case (Err (faults.TooLong place)) e = absurd (wrong (faults.TooLong place) (λ q. cc) e)
    by_case (Err faults.NoMemory) e = absurd (wrong faults.NoMemory (λ q. cc) e)

pub one_of_three : OneOfThree
one_of_three rows n strict limit bytes sound are = by_case (read_at rows n strict limit bytes) refl
  where
    not_spelled : (f : ReadFault) → read_at rows n strict limit bytes ≡ Err f → BeginsSpelled rows n strict limit bytes → ⊥
    not_spelled f e p =
        let read = spelled_is_read rows n strict limit p.0 (take p.1 bytes) (drop p.1 bytes) sound p.3 in
        let same : read_at rows n strict limit bytes ≡ done (p.0, length (take p.1 bytes)) = ap (read_at rows n strict limit) (sym (take-append-drop p.1 bytes)) ∙ read in
        let wrong : Err f ≡ done (p.0, length (take p.1 bytes)) = sym e ∙ same in
        cc

    by_case : (r : Reading (Value × ℕ)) → read_at rows n strict limit bytes ≡ r → OneHolds rows n strict limit bytes
    by_case (Ok x) e = let found = read_is_spelled rows n strict limit bytes x.0 x.1 are e in inl ((x.0, x.1, found.0, found.1), λ f q. let wrong : done x ≡ Err f = sym e ∙ q in cc)
    by_case (Err faults.Short) e = inr (inr (not_spelled faults.Short e, e))
    by_case (Err (faults.NotSpelled place kind)) e = inr (inl (not_spelled (faults.NotSpelled place kind) e, faults.NotSpelled place kind, (λ q. cc), e))
    by_case (Err (faults.TooDeep place)) e = inr (inl (not_spelled (faults.TooDeep place) e, faults.TooDeep place, (λ q. cc), e))
    by_case (Err (faults.TooLong place)) e = inr (inl (not_spelled (faults.TooLong place) e, faults.TooLong place, (λ q. cc), e))
    by_case (Err faults.NoMemory) e = inr (inl (not_spelled faults.NoMemory e, faults.NoMemory, (λ q. cc), e))
