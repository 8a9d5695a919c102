-- Fields: a fault of reading is one by the grammar, and the other way round; and what stands there is read.
use Rattle.std.proofs.Common.{◌≡◌, ◌≢◌, ℕ, zero, suc, ◌+◌, ◌-◌, ◌<◌, ◌≤◌, ◌^◌, Bool, true, false, List, [], ◌∷◌, length, take, drop, Ok, Err, refl, sym, ap, ◌∙◌, subst, arith, length-append, ◌⊎◌, inl, inr}
use Rattle.std.specs.Prelude.{nat_lt, nat_eq, slice_index}
use Rattle.std.proofs.lemmas.Bool.{lt-ltb, le-ltb, ltb-false, ltb-true, ne_eqb}
use Rattle.std.proofs.lemmas.List.{take_at, drop_at}
use Rattle.osi_base.specs.Limits.{most_items}
use Rattle.byteorder.specs.Endian.{big_number}
use Rattle.asn1_types.specs.Value.{Value}
use Rattle.packed_codec.specs.declared.fault.PackedFault.{PackedFault}
use Rattle.packed_codec.specs.declared.fault.PackedFault.TheVariants.{Short, TooLong}
use Rattle.osi_base.specs.Octets.{AreOctets}
use Rattle.osi_base.proofs.OctetLaws.{octets_left, octets_right}
use Rattle.packed_codec.specs.Reading.{Spot, Reading, within}
use Rattle.packed_codec.specs.Fields.{moved, announced_at, field_at, octet_at, count_at}
use Rattle.packed_codec.specs.Rules.{Reader}
use Rattle.packed_codec.specs.Writing.{Writer, items}
use Rattle.packed_codec.proofs.Taking.{done, bind_ok, unless_ok, ok_is, Took, Announced, announced_found, octet_found}
use Rattle.packed_codec.proofs.Spelled.{ReadAs, Only}
use Rattle.packed_faults.specs.Values.{IsAt, Crosses, FieldFault, Takes, Counts, Stands}
use Rattle.packed_faults.proofs.Steps.{failed, err_is, not_err, bind_err, bind_fails, bind_goes, cond_err, cond_yes, cond_no, refused, refusal_is}

pub within_err : (limit place until : ℕ) (f : PackedFault) → within limit place until ≡ Err f → Crosses limit place until f
unfolding within
within_err limit place until f e =
    elim (cond_err (nat_lt limit until) (Err (TooLong place)) (Ok tt) f e) [
      | inl t ↦ (ltb-true limit until t.0, sym (err_is (TooLong place) f t.1))
      | inr t ↦ absurd (not_err tt f t.1)
    ]

pub crosses_err : (limit place until : ℕ) (f : PackedFault) → Crosses limit place until f → within limit place until ≡ Err f
unfolding within
crosses_err limit place until f c = cond_yes (nat_lt limit until) _ _ _ (lt-ltb limit until c.0) (ap (λ (g : PackedFault). failed g) (sym c.1))

within_ok : (limit place until : ℕ) (x : Unit {0}) → within limit place until ≡ Ok x → until ≤ limit
unfolding within
within_ok limit place until x e = let t = unless_ok (nat_lt limit until) (TooLong place) (Ok tt) x e in ltb-false limit until t.0

within_goes : (limit place until : ℕ) → until ≤ limit → within limit place until ≡ Ok tt
unfolding within
within_goes limit place until le = rw (le-ltb limit until le) refl

-- ---- octets that are announced

abbrev pub AnnouncedFault : ℕ → ℕ → Bool → ℕ → PackedFault → Type 0
AnnouncedFault limit place allowed until f = Crosses limit place until f ⊎ ((until ≤ limit) × (allowed ≡ false) × IsAt place f)

pub announced_err : (limit place : ℕ) (allowed : Bool) (size : ℕ) (s : Spot) (f : PackedFault) → (f ≡ Short → ⊥) → announced_at limit place allowed size s ≡ Err f → AnnouncedFault limit place allowed (s.place + size) f
unfolding announced_at
announced_err limit place allowed size s f ne e =
    elim (bind_err (within limit place (s.place + size)) _ f e) [
      | inl t ↦ inl (within_err limit place (s.place + size) f t)
      | inr t ↦ elim (cond_err allowed _ _ f t.2) [
        | inl u ↦ elim (cond_err (nat_lt (length s.rest) size) (failed Short) _ f u.1) [
          | inl w ↦ absurd (ne (sym (err_is {A = List ℕ × Spot} Short f w.1)))
          | inr w ↦ absurd (not_err {A = List ℕ × Spot} (take size s.rest, moved size s) f w.1)
        ]
        | inr u ↦ inr (within_ok limit place (s.place + size) t.0 t.1, u.0, refusal_is {A = List ℕ × Spot} place f u.1)
      ]
    ]

pub announced_fails : (limit place : ℕ) (allowed : Bool) (size : ℕ) (s : Spot) (f : PackedFault) → AnnouncedFault limit place allowed (s.place + size) f → announced_at limit place allowed size s ≡ Err f
unfolding announced_at
announced_fails limit place allowed size s f (inl c) = bind_fails (within limit place (s.place + size)) _ f (crosses_err limit place (s.place + size) f c)
announced_fails limit place allowed size s f (inr c) =
    bind_goes (within limit place (s.place + size)) _ tt (failed f) (within_goes limit place (s.place + size) c.0) (cond_no allowed _ _ _ c.1 (refused {A = List ℕ × Spot} place f c.2))

abbrev spot_so : ℕ × ℕ → List ℕ → Spot
spot_so x rest = record { place = x.0; rest = rest; left = x.1 }

-- octets that are there are taken
pub announced_takes : (limit place : ℕ) (s to : Spot) (c : List ℕ) → Takes limit s c to → announced_at limit place true (length c) s ≡ Ok (c, to)
unfolding announced_at
announced_takes limit place s to c t =
    let whole : length s.rest ≡ length c + length to.rest = ap length t.parts ∙ length-append c to.rest in
    let enough : length c ≤ length s.rest = omega arith in
    let within' : s.place + length c ≤ limit = let le = t.within in let on = t.onward in omega arith in
    let front : take (length c) s.rest ≡ c = ap (take (length c)) t.parts ∙ take_at c to.rest (length c) refl in
    let back : drop (length c) s.rest ≡ to.rest = ap (drop (length c)) t.parts ∙ drop_at c to.rest (length c) refl in
    let onward : s.place + length c ≡ to.place = sym t.onward in
    let left : s.left ≡ to.left = sym t.same_left in
    bind_goes (within limit place (s.place + length c)) _ tt _ (within_goes limit place (s.place + length c) within')
    (cond_no (nat_lt (length s.rest) (length c)) _ _ _ (le-ltb (length s.rest) (length c) enough)
    (ap (λ (x : List ℕ × List ℕ × ℕ × ℕ). done {A = List ℕ × Spot} (x.0, record { place = x.2; rest = x.1; left = x.3 })) (λ i. (front i, back i, onward i, left i))))

pub takes_of : (limit : ℕ) (s to : Spot) (text : List ℕ) → Took limit s text to → Takes limit s text to
takes_of limit s to text t = record { parts = t.parts; onward = t.onward; within = t.inside; same_left = t.left }

pub takes_octets : (limit : ℕ) (s to : Spot) (text : List ℕ) → Takes limit s text to → AreOctets s.rest → AreOctets to.rest
takes_octets limit s to text t are = octets_right text to.rest (subst AreOctets t.parts are)

pub text_octets : (limit : ℕ) (s to : Spot) (text : List ℕ) → Takes limit s text to → AreOctets s.rest → AreOctets text
text_octets limit s to text t are = octets_left text to.rest (subst AreOctets t.parts are)

-- ---- fields

some_length : (n : ℕ) → nat_eq n 0 ≡ false → 0 < n
some_length zero e = absurd cc
some_length (suc n) e = omega arith

field_err : (limit size : ℕ) (s : Spot) (f : PackedFault) → (f ≡ Short → ⊥) → field_at limit size s ≡ Err f → FieldFault size limit s f
unfolding field_at
field_err limit size s f ne e =
    elim (cond_err (nat_eq (length s.rest) 0) (failed Short) _ f e) [
      | inl t ↦ absurd (ne (sym (err_is {A = List ℕ × Spot} Short f t.1)))
      | inr t ↦ elim (announced_err limit s.place true size s f ne t.1) [
        | inl c ↦ (some_length (length s.rest) t.0, c)
        | inr c ↦ absurd (let wrong : true ≡ false = c.1 in cc)
      ]
    ]

field_fails : (limit size : ℕ) (s : Spot) (f : PackedFault) → FieldFault size limit s f → field_at limit size s ≡ Err f
unfolding field_at
field_fails limit size s f h =
    let some : length s.rest ≢ 0 = λ e. let lt = h.0 in omega arith in
    cond_no (nat_eq (length s.rest) 0) _ _ _ (ne_eqb (length s.rest) 0 some) (announced_fails limit s.place true size s f (inl h.1))

field_takes : (limit : ℕ) (s to : Spot) (c : List ℕ) → 0 < length c → Takes limit s c to → field_at limit (length c) s ≡ Ok (c, to)
unfolding field_at
field_takes limit s to c lt t =
    let whole : length s.rest ≡ length c + length to.rest = ap length t.parts ∙ length-append c to.rest in
    let some : length s.rest ≢ 0 = λ e. omega arith in
    cond_no (nat_eq (length s.rest) 0) _ _ _ (ne_eqb (length s.rest) 0 some) (announced_takes limit s.place s to c t)

abbrev first_octet : List ℕ × Spot → Reading (ℕ × Spot)
first_octet f = done {A = ℕ × Spot} (slice_index f.0 0, f.1)

abbrev number_of : List ℕ × Spot → Reading (ℕ × Spot)
number_of f = done {A = ℕ × Spot} (big_number 4 f.0, f.1)

pub octet_err : (limit : ℕ) (s : Spot) (f : PackedFault) → (f ≡ Short → ⊥) → octet_at limit s ≡ Err f → FieldFault 1 limit s f
unfolding octet_at
octet_err limit s f ne e =
    elim (bind_err (field_at limit 1 s) first_octet f e) [
      | inl t ↦ field_err limit 1 s f ne t
      | inr t ↦ absurd (not_err {A = ℕ × Spot} (slice_index t.0.0 0, t.0.1) f t.2)
    ]

pub octet_fails : (limit : ℕ) (s : Spot) (f : PackedFault) → FieldFault 1 limit s f → octet_at limit s ≡ Err f
unfolding octet_at
octet_fails limit s f h = bind_fails (field_at limit 1 s) first_octet f (field_fails limit 1 s f h)

pub octet_takes : (limit : ℕ) (s to : Spot) (o : ℕ) → Takes limit s (o ∷ []) to → octet_at limit s ≡ Ok (o, to)
unfolding octet_at
octet_takes limit s to o t = bind_goes (field_at limit 1 s) first_octet (o ∷ [], to) (done (o, to)) (field_takes limit s to (o ∷ []) (omega arith) t) refl

pub count_err : (limit : ℕ) (s : Spot) (f : PackedFault) → (f ≡ Short → ⊥) → count_at limit s ≡ Err f → FieldFault 4 limit s f
unfolding count_at
count_err limit s f ne e =
    elim (bind_err (field_at limit 4 s) number_of f e) [
      | inl t ↦ field_err limit 4 s f ne t
      | inr t ↦ absurd (not_err {A = ℕ × Spot} (big_number 4 t.0.0, t.0.1) f t.2)
    ]

pub count_fails : (limit : ℕ) (s : Spot) (f : PackedFault) → FieldFault 4 limit s f → count_at limit s ≡ Err f
unfolding count_at
count_fails limit s f h = bind_fails (field_at limit 4 s) number_of f (field_fails limit 4 s f h)

pub count_takes : (limit : ℕ) (s to : Spot) (n : ℕ) → Counts limit s n to → count_at limit s ≡ Ok (n, to)
unfolding count_at
count_takes limit s to n h =
    let some : 0 < length h.text = let four = h.four in omega arith in
    let read : field_at limit 4 s ≡ Ok (h.text, to) = subst (λ (k : ℕ). field_at limit k s ≡ Ok (h.text, to)) h.four (field_takes limit s to h.text some h.takes) in
    bind_goes (field_at limit 4 s) number_of (h.text, to) (done (n, to)) read (ap (λ (k : ℕ). done {A = ℕ × Spot} (k, to)) (sym h.number))

field_found : (limit size : ℕ) (s to : Spot) (c : List ℕ) → field_at limit size s ≡ Ok (c, to) → Announced limit true size s c to
unfolding field_at
field_found limit size s to c e =
    let t = unless_ok (nat_eq (length s.rest) 0) Short (announced_at limit s.place true size s) (c, to) e in
    announced_found limit s.place true size s to c t.1

pub count_found : (limit : ℕ) (s to : Spot) (n : ℕ) → count_at limit s ≡ Ok (n, to) → Counts limit s n to
unfolding count_at
count_found limit s to n e =
    let b = bind_ok (field_at limit 4 s) number_of (n, to) e in
    let f = field_found limit 4 s b.0.1 b.0.0 b.1 in
    let same = ok_is {A = ℕ × Spot} (big_number 4 b.0.0, b.0.1) (n, to) b.2 in
    let number : n ≡ big_number 4 b.0.0 = ap (λ (x : ℕ × Spot). x.0) (sym same) in
    let at : b.0.1 ≡ to = ap (λ (x : ℕ × Spot). x.1) same in
    record { text = b.0.0; four = f.len; number = number; takes = subst (λ (y : Spot). Takes limit s b.0.0 y) at (takes_of limit s b.0.1 b.0.0 f.took) }

pub octet_takes_of : (limit : ℕ) (s to : Spot) (o : ℕ) → octet_at limit s ≡ Ok (o, to) → Takes limit s (o ∷ []) to
octet_takes_of limit s to o e = takes_of limit s to (o ∷ []) (octet_found limit s to o e)

-- ---- values

pub stands_of : (test : Value → Bool) (write : Writer) (limit : ℕ) (s : Spot) (v : Value) (to : Spot) → ReadAs test write limit s v to → Stands test write limit s v to
stands_of test write limit s v to r = record { parts = r.parts; onward = r.onward; within = r.inside; spent = r.spent; fits = r.fit }

pub stands_octets : (test : Value → Bool) (write : Writer) (limit : ℕ) (s : Spot) (v : Value) (to : Spot) → Stands test write limit s v to → AreOctets s.rest → AreOctets to.rest
stands_octets test write limit s v to h are = octets_right (write v) to.rest (subst AreOctets h.parts are)

pub stands_left : (test : Value → Bool) (write : Writer) (limit : ℕ) (s : Spot) (v : Value) (to : Spot) → Stands test write limit s v to → s.left ≤ most_items → to.left ≤ most_items
stands_left test write limit s v to h le = let spent = h.spent in omega arith

pub stands_reads : (test : Value → Bool) (write : Writer) (r : Reader) → Only test write r → (limit : ℕ) (s : Spot) (v : Value) (to : Spot) → limit < 2 ^ 32 → s.left ≤ most_items → Stands test write limit s v to → r limit s ≡ Ok (v, to)
stands_reads test write r only limit s v to lt most h =
    let inside : s.place + length (write v) ≤ limit = let le = h.within in let on = h.onward in omega arith in
    let few : items v ≤ s.left = let spent = h.spent in omega arith in
    let read = only.only limit s.place s.left v to.rest h.fits lt inside few most in
    let onward : s.place + length (write v) ≡ to.place = sym h.onward in
    let left : s.left - items v ≡ to.left = let spent = h.spent in omega arith in
    ap (λ (x : List ℕ). r limit (record { place = s.place; rest = x; left = s.left })) h.parts ∙ read
    ∙ ap (λ (x : ℕ × ℕ). done {A = Value × Spot} (v, record { place = x.0; rest = to.rest; left = x.1 })) (λ i. (onward i, left i))
