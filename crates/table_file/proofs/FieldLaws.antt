-- Fields: what is written comes back, and what is read was written so.
use Rattle.std.proofs.Common.{◌≡◌, ℕ, zero, suc, ◌+◌, ◌-◌, ◌*◌, ◌/◌, ◌%◌, ◌^◌, ◌≤◌, ◌<◌, Bool, true, false, cond, List, [], ◌∷◌, ◌++◌, length, take, Option, Some, None, Result, Ok, Err, refl, sym, ap, subst, arith, length-append}
use Rattle.std.specs.Prelude.{ℤ, nat_lt, slice_index}
use Rattle.std.specs.List.{list_all}
use Rattle.std.proofs.lemmas.Bool.{le-ltb, ltb-false, and_parts}
use Rattle.osi_base.specs.Oid.{IsOid, is_oid}
use Rattle.std.proofs.lemmas.List.{take_at, drop_at, take-append-drop, length-take}
use Rattle.byteorder.specs.Endian.{big_number, big_bytes}
use Rattle.byteorder.specs.Numbers.{big_number-reads_back}
use Rattle.asn1_types.specs.declared.row.TextKind.TheVariants.{Ia5}
use Rattle.asn1_types.specs.Fits.{is_text, has_32_bits}
use Rattle.asn1_types.specs.Value.{Value, boolean, integer, null, octets, bits, object_id, text, parts, list, chosen, any}
use Rattle.packed_codec.specs.declared.fault.PackedFault.{PackedFault}
use Rattle.packed_codec.specs.Laws.{packs}
use Rattle.osi_base.specs.Octets.{AreOctets}
use Rattle.osi_base.proofs.OctetLaws.{octets_left}
use Rattle.packed_codec.specs.Rules.{read_at, spent}
use Rattle.packed_codec.specs.Writing.{counted, packed, items}
use Rattle.packed_codec.proofs.WholeValues.{written_is_read, read_is_spelled}
use Rattle.packed_codec.specs.Fields.{moved}
use Rattle.packed_codec.specs.Reading.{Spot}
use Rattle.table_file.specs.declared.fault.Stop.{Stop}
use Rattle.table_file.specs.FieldTypes.{field_types}
use Rattle.table_file.specs.Reading.{Reading}
use Rattle.table_file.specs.Fields.{octets_at, octet_at, count_at, counted_at, truth_of, judged, truth_at, text_at, shifted, value_at, number_in, arcs_in, integer_at, object_id_at}
use Rattle.table_file.specs.Files.{integer_file, oid_file, truth_file}
use Rattle.table_file.specs.Sound.{IsNumber, AreArcs}
use Rattle.table_file.proofs.Sizes.{integer_room, oid_room}
use Rattle.table_file.proofs.Spots.{at, Comes, comes_here, then_comes, comes_from, comes_apart, Went, went_then, went_as, bind_ok, done, ok_is}

-- ---- octets

pub octets_back : (os more : List ℕ) (p l : ℕ) → Comes (octets_at (length os) (at p (os ++ more) l)) os more l
unfolding octets_at
octets_back os more p l =
    let enough : length os ≤ length (os ++ more) = omega (arith, length-append os more) in
    record { place = p + length os; is = rw (le-ltb (length (os ++ more)) (length os) enough, take_at os more (length os) refl, drop_at os more (length os) refl) refl }

unless_ok : {A : Type 0} (b : Bool) (f : Stop) (r : Reading A) (y : A) → cond b (Err f) r ≡ Ok y → (b ≡ false) × (r ≡ Ok y)
unless_ok true f r y e = absurd cc
unless_ok false f r y e = (refl, e)

if_ok : {A : Type 0} (b : Bool) (f : Stop) (r : Reading A) (y : A) → cond b r (Err f) ≡ Ok y → (b ≡ true) × (r ≡ Ok y)
if_ok true f r y e = (refl, e)
if_ok false f r y e = absurd cc

pub octets_found : (n : ℕ) (s t : Spot) (os : List ℕ) → octets_at n s ≡ Ok (os, t) → (length os ≡ n) × Went os 0 s t
unfolding octets_at
octets_found n s t os e =
    let u = unless_ok (nat_lt (length s.rest) n) _ (done (take n s.rest, moved n s)) (os, t) e in
    let enough : n ≤ length s.rest = ltb-false (length s.rest) n u.0 in
    let same = ok_is {A = List ℕ × Spot} (take n s.rest, moved n s) (os, t) u.1 in
    let len : length (take n s.rest) ≡ n = omega (arith, length-take n s.rest) in
    subst (λ (y : List ℕ × Spot). (length y.0 ≡ n) × Went y.0 0 s y.1) same (len, record { rest = sym (take-append-drop n s.rest); left = omega arith })

pub octet_back : (o : ℕ) (more : List ℕ) (p l : ℕ) → Comes (octet_at (at p (o ∷ more) l)) o more l
unfolding octet_at
octet_back o more p l =
    then_comes (octets_at 1 (at p (o ∷ more) l)) (λ f. Ok (slice_index f.0 0, f.1)) (o ∷ []) o more more l l (octets_back (o ∷ []) more p l) (λ q. comes_here o q l more)

one_back : (c : List ℕ) → length c ≡ 1 → c ≡ slice_index c 0 ∷ []
one_back [] e = absurd (omega arith)
one_back (o ∷ []) e = refl
one_back (o ∷ p ∷ c) e = absurd (omega arith)

pub octet_found : (s t : Spot) (o : ℕ) → octet_at s ≡ Ok (o, t) → Went (o ∷ []) 0 s t
unfolding octet_at
octet_found s t o e =
    let b = bind_ok (octets_at 1 s) (λ f. Ok (slice_index f.0 0, f.1)) (o, t) e in
    let f = octets_found 1 s b.0.1 b.0.0 b.1 in
    let same = ok_is {A = ℕ × Spot} (slice_index b.0.0 0, b.0.1) (o, t) b.2 in
    subst (λ (y : ℕ × Spot). Went (y.0 ∷ []) 0 s y.1) same (went_as b.0.0 (slice_index b.0.0 0 ∷ []) 0 0 s b.0.1 (one_back b.0.0 f.0) refl f.1)

-- ---- counts

pub count_back : (n : ℕ) (more : List ℕ) (p l : ℕ) → n < 2 ^ 32 → Comes (count_at (at p (big_bytes 4 n ++ more) l)) n more l
unfolding count_at
count_back n more p l lt =
    then_comes (octets_at 4 (at p (big_bytes 4 n ++ more) l)) (λ f. Ok (big_number 4 f.0, f.1)) (big_bytes 4 n) n more more l l (octets_back (big_bytes 4 n) more p l)
    (λ q. record { place = q; is = ap (λ (k : ℕ). Ok (k, at q more l)) (big_number-reads_back 4 n [] lt) })

-- four octets are a count of 32 bits
pub record IsCount (c : List ℕ) : Type 0 where
  pub short : big_number 4 c < 2 ^ 32
  pub are : c ≡ big_bytes 4 (big_number 4 c)

four_count : (c : List ℕ) → AreOctets c → length c ≡ 4 → IsCount c
four_count [] h e = absurd (omega arith)
four_count (a ∷ []) h e = absurd (omega arith)
four_count (a ∷ b ∷ []) h e = absurd (omega arith)
four_count (a ∷ b ∷ c ∷ []) h e = absurd (omega arith)
four_count (a ∷ b ∷ c ∷ d ∷ []) h e =
    let p : a < 256 = h.each 0 in
    let q : b < 256 = h.each 1 in
    let r : c < 256 = h.each 2 in
    let s : d < 256 = h.each 3 in
    let n : ℕ = a * 16777216 + (b * 65536 + (c * 256 + (d * 1 + 0))) in
    let first : a ≡ n / 16777216 % 256 = omega arith in
    let second : b ≡ n / 65536 % 256 = omega arith in
    let third : c ≡ n / 256 % 256 = omega arith in
    let fourth : d ≡ n % 256 = omega arith in
    record { short = omega arith; are = λ i. first i ∷ second i ∷ third i ∷ fourth i ∷ [] }
four_count (a ∷ b ∷ c ∷ d ∷ x ∷ xs) h e = absurd (omega arith)

pub count_found : (s t : Spot) (n : ℕ) → AreOctets s.rest → count_at s ≡ Ok (n, t) → (n < 2 ^ 32) × Went (big_bytes 4 n) 0 s t
unfolding count_at
count_found s t n are e =
    let b = bind_ok (octets_at 4 s) (λ f. Ok (big_number 4 f.0, f.1)) (n, t) e in
    let f = octets_found 4 s b.0.1 b.0.0 b.1 in
    let same = ok_is {A = ℕ × Spot} (big_number 4 b.0.0, b.0.1) (n, t) b.2 in
    let four = four_count b.0.0 (octets_left b.0.0 b.0.1.rest (subst AreOctets f.1.rest are)) f.0 in
    subst (λ (y : ℕ × Spot). (y.0 < 2 ^ 32) × Went (big_bytes 4 y.0) 0 s y.1) same
    (four.short, went_as b.0.0 (big_bytes 4 (big_number 4 b.0.0)) 0 0 s b.0.1 four.are refl f.1)

pub counted_back : (n : ℕ) (more : List ℕ) (p l : ℕ) → n < 2 ^ 32 → Comes (counted_at (at p (big_bytes 4 n ++ more) (n + l))) n more l
unfolding counted_at
counted_back n more p l lt =
    let le : n ≤ n + l = omega arith in
    let off : n + l - n ≡ l = omega arith in
    then_comes (count_at (at p (big_bytes 4 n ++ more) (n + l))) _ n n more more (n + l) l (count_back n more p (n + l) lt)
    (λ q. record { place = q; is = rw (le-ltb (n + l) n le) (ap (λ (k : ℕ). Ok (n, at q more k)) off) })

pub counted_found : (s t : Spot) (n : ℕ) → AreOctets s.rest → counted_at s ≡ Ok (n, t) → Went (big_bytes 4 n) n s t
unfolding counted_at
counted_found s t n are e =
    let b = bind_ok (count_at s) _ (n, t) e in
    let f = count_found s b.0.1 b.0.0 are b.1 in
    let u = unless_ok (nat_lt b.0.1.left b.0.0) _ (done (b.0.0, spent b.0.0 b.0.1)) (n, t) b.2 in
    let enough : b.0.0 ≤ b.0.1.left = ltb-false b.0.1.left b.0.0 u.0 in
    let same = ok_is {A = ℕ × Spot} (b.0.0, spent b.0.0 b.0.1) (n, t) u.1 in
    subst (λ (y : ℕ × Spot). Went (big_bytes 4 y.0) y.0 s y.1) same (record { rest = f.1.rest; left = omega (arith, f.1.left) })

-- ---- truth values and texts

pub truth_back : (b : Bool) (more : List ℕ) (p l : ℕ) → Comes (truth_at (at p (truth_file b ++ more) l)) b more l
unfolding truth_at
truth_back true more p l = then_comes (octet_at (at p (1 ∷ more) l)) _ 1 true more more l l (octet_back 1 more p l) (λ q. comes_here true q l more)
truth_back false more p l = then_comes (octet_at (at p (0 ∷ more) l)) _ 0 false more more l l (octet_back 0 more p l) (λ q. comes_here false q l more)

judged_ok : {A : Type 0} (place : ℕ) (o : Option A) (a : A) (s t : Spot) → judged place o s ≡ Ok (a, t) → (o ≡ Some a) × (s ≡ t)
judged_ok place None a s t e = absurd cc
judged_ok {A} place (Some b) a s t e = let same = ok_is {A = A × Spot} (b, s) (a, t) e in (ap (λ (y : A × Spot). Some y.0) same, ap (λ (y : A × Spot). y.1) same)

truth_is : (o : ℕ) (b : Bool) → truth_of o ≡ Some b → truth_file b ≡ o ∷ []
truth_is zero true e = absurd cc
truth_is zero false e = refl
truth_is (suc zero) true e = refl
truth_is (suc zero) false e = absurd cc
truth_is (suc (suc o)) b e = absurd cc

pub truth_found : (s t : Spot) (b : Bool) → truth_at s ≡ Ok (b, t) → Went (truth_file b) 0 s t
unfolding truth_at
truth_found s t b e =
    let f = bind_ok (octet_at s) _ (b, t) e in
    let j = judged_ok s.place (truth_of f.0.0) b f.0.1 t f.2 in
    subst (λ (y : Spot). Went (truth_file b) 0 s y) j.1 (went_as (f.0.0 ∷ []) (truth_file b) 0 0 s f.0.1 (sym (truth_is f.0.0 b j.0)) refl (octet_found s f.0.1 f.0.0 f.1))

pub text_back : (os more : List ℕ) (p l : ℕ) → is_text Ia5 os ≡ true → length os < 2 ^ 32 → Comes (text_at (at p (counted os ++ more) l)) os more l
unfolding text_at
text_back os more p l is lt =
    comes_apart text_at os p (big_bytes 4 (length os)) os more l l
    (then_comes (count_at (at p (big_bytes 4 (length os) ++ (os ++ more)) l)) _ (length os) os (os ++ more) more l l (count_back (length os) (os ++ more) p l lt)
    (λ q. then_comes (octets_at (length os) (at q (os ++ more) l)) _ os os more more l l (octets_back os more q l)
    (λ r. record { place = r; is = rw is refl })))

pub text_found : (s t : Spot) (os : List ℕ) → AreOctets s.rest → text_at s ≡ Ok (os, t) → (length os < 2 ^ 32) × Went (counted os) 0 s t
unfolding text_at
text_found s t os are e =
    let b = bind_ok (count_at s) _ (os, t) e in
    let f = count_found s b.0.1 b.0.0 are b.1 in
    let d = bind_ok (octets_at b.0.0 b.0.1) _ (os, t) b.2 in
    let g = octets_found b.0.0 b.0.1 d.0.1 d.0.0 d.1 in
    let u = if_ok (is_text Ia5 d.0.0) _ (done d.0) (os, t) d.2 in
    let same = ok_is {A = List ℕ × Spot} d.0 (os, t) u.1 in
    let w = went_then (big_bytes 4 b.0.0) d.0.0 0 0 s b.0.1 d.0.1 f.1 g.1 in
    subst (λ (y : List ℕ × Spot). (length y.0 < 2 ^ 32) × Went (counted y.0) 0 s y.1) same
    (omega (arith, g.0, f.0), went_as (big_bytes 4 b.0.0 ++ d.0.0) (counted d.0.0) 0 0 s d.0.1 (ap (λ (k : ℕ). big_bytes 4 k ++ d.0.0) (sym g.0)) refl w)

-- ---- numbers and object identifiers

value_back : (of : ℕ) (v : Value) (more : List ℕ) (p l : ℕ) → packs field_types of v ≡ true → length (packed field_types of v) ≤ 200 → items v ≤ 0
    → Comes (value_at of (at p (packed field_types of v ++ more) l)) v more l
unfolding value_at
value_back of v more p l fit few none =
    let text : List ℕ = packed field_types of v in
    let r = written_is_read field_types of 4294967295 v more (omega arith) fit (omega (arith, few)) (omega (arith, none)) in
    record { place = p + length text; is = rw (r, drop_at text more (length text) refl) refl }

shifted_ok : (s t : Spot) (r : Result (Value × ℕ) PackedFault) (v : Value) → shifted s r ≡ Ok (v, t) → (x : Value × ℕ) × (r ≡ Ok x) × (done {A = Value × Spot} (x.0, moved x.1 s) ≡ Ok (v, t))
shifted_ok s t (Ok x) v e = (x, refl, e)
shifted_ok s t (Err f) v e = absurd cc

value_found : (of : ℕ) (s t : Spot) (v : Value) → AreOctets s.rest → value_at of s ≡ Ok (v, t) → (packs field_types of v ≡ true) × Went (packed field_types of v) 0 s t
unfolding value_at
value_found of s t v are e =
    let x = shifted_ok s t (read_at field_types of 4294967295 s.rest) v e in
    let same = ok_is {A = Value × Spot} (x.0.0, moved x.0.1 s) (v, t) x.2 in
    let r = read_is_spelled field_types of 4294967295 s.rest x.0.0 x.0.1 are x.1 in
    subst (λ (y : Value × Spot). (packs field_types of y.0 ≡ true) × Went (packed field_types of y.0) 0 s y.1) same
    (r.1.fit, went_as (take x.0.1 s.rest) (packed field_types of x.0.0) 0 0 s (moved x.0.1 s) r.1.are refl (record { rest = sym (take-append-drop x.0.1 s.rest); left = omega arith }))

integer_packs : (z : ℤ) → packs field_types 0 (integer z) ≡ true → IsNumber z
unfolding packs
integer_packs z e = e

packs_integer : (z : ℤ) → IsNumber z → packs field_types 0 (integer z) ≡ true
unfolding packs
packs_integer z e = e

integer_is : (z : ℤ) → packed field_types 0 (integer z) ≡ integer_file z
unfolding packed
integer_is z = refl

pub integer_back : (z : ℤ) (more : List ℕ) (p l : ℕ) → IsNumber z → Comes (integer_at (at p (integer_file z ++ more) l)) z more l
unfolding integer_at
integer_back z more p l h =
    comes_from integer_at z p (integer_file z ++ more) (packed field_types 0 (integer z) ++ more) more l l l (ap (λ (y : List ℕ). y ++ more) (sym (integer_is z))) refl
    (then_comes (value_at 0 (at p (packed field_types 0 (integer z) ++ more) l)) _ (integer z) z more more l l
    (value_back 0 (integer z) more p l (packs_integer z h) (integer_room field_types z refl) (omega arith)) (λ q. comes_here z q l more))

number_is : (v : Value) (z : ℤ) → number_in v ≡ Some z → v ≡ integer z
number_is (boolean b) z e = absurd cc
number_is (integer y) z e = ap integer (let same : y ≡ z = cc in same)
number_is null z e = absurd cc
number_is (octets os) z e = absurd cc
number_is (bits os n) z e = absurd cc
number_is (object_id arcs) z e = absurd cc
number_is (text os) z e = absurd cc
number_is (parts ps) z e = absurd cc
number_is (list vs) z e = absurd cc
number_is (chosen n v) z e = absurd cc
number_is (any os) z e = absurd cc

pub integer_found : (s t : Spot) (z : ℤ) → AreOctets s.rest → integer_at s ≡ Ok (z, t) → IsNumber z × Went (integer_file z) 0 s t
unfolding integer_at
integer_found s t z are e =
    let b = bind_ok (value_at 0 s) _ (z, t) e in
    let j = judged_ok s.place (number_in b.0.0) z b.0.1 t b.2 in
    let f = value_found 0 s b.0.1 b.0.0 are b.1 in
    let is = number_is b.0.0 z j.0 in
    let at_z : (packs field_types 0 (integer z) ≡ true) × Went (packed field_types 0 (integer z)) 0 s b.0.1
    = subst (λ (y : Value). (packs field_types 0 y ≡ true) × Went (packed field_types 0 y) 0 s b.0.1) is f in
    (integer_packs z at_z.0, subst (λ (y : Spot). Went (integer_file z) 0 s y) j.1 (went_as (packed field_types 0 (integer z)) (integer_file z) 0 0 s b.0.1 (integer_is z) refl at_z.1))

arcs_pack : (arcs : List ℕ) → packs field_types 1 (object_id arcs) ≡ true → AreArcs arcs
unfolding packs
arcs_pack arcs e = e

packs_arcs : (arcs : List ℕ) → AreArcs arcs → packs field_types 1 (object_id arcs) ≡ true
unfolding packs
packs_arcs arcs e = e

arcs_are : (arcs : List ℕ) → packed field_types 1 (object_id arcs) ≡ oid_file arcs
unfolding packed
arcs_are arcs = refl

oid_of : (arcs : List ℕ) → AreArcs arcs → IsOid arcs
oid_of arcs h = (and_parts (is_oid arcs) (list_all has_32_bits arcs) h).0

pub oid_back : (arcs more : List ℕ) (p l : ℕ) → AreArcs arcs → Comes (object_id_at (at p (oid_file arcs ++ more) l)) arcs more l
unfolding object_id_at
oid_back arcs more p l h =
    comes_from object_id_at arcs p (oid_file arcs ++ more) (packed field_types 1 (object_id arcs) ++ more) more l l l (ap (λ (y : List ℕ). y ++ more) (sym (arcs_are arcs))) refl
    (then_comes (value_at 1 (at p (packed field_types 1 (object_id arcs) ++ more) l)) _ (object_id arcs) arcs more more l l
    (value_back 1 (object_id arcs) more p l (packs_arcs arcs h) (oid_room field_types arcs refl (oid_of arcs h)) (omega arith)) (λ q. comes_here arcs q l more))

arcs_is : (v : Value) (arcs : List ℕ) → arcs_in v ≡ Some arcs → v ≡ object_id arcs
arcs_is (boolean b) arcs e = absurd cc
arcs_is (integer y) arcs e = absurd cc
arcs_is null arcs e = absurd cc
arcs_is (octets os) arcs e = absurd cc
arcs_is (bits os n) arcs e = absurd cc
arcs_is (object_id has) arcs e = ap object_id (let same : has ≡ arcs = cc in same)
arcs_is (text os) arcs e = absurd cc
arcs_is (parts ps) arcs e = absurd cc
arcs_is (list vs) arcs e = absurd cc
arcs_is (chosen n v) arcs e = absurd cc
arcs_is (any os) arcs e = absurd cc

pub oid_found : (s t : Spot) (arcs : List ℕ) → AreOctets s.rest → object_id_at s ≡ Ok (arcs, t) → AreArcs arcs × Went (oid_file arcs) 0 s t
unfolding object_id_at
oid_found s t arcs are e =
    let b = bind_ok (value_at 1 s) _ (arcs, t) e in
    let j = judged_ok s.place (arcs_in b.0.0) arcs b.0.1 t b.2 in
    let f = value_found 1 s b.0.1 b.0.0 are b.1 in
    let is = arcs_is b.0.0 arcs j.0 in
    let there : (packs field_types 1 (object_id arcs) ≡ true) × Went (packed field_types 1 (object_id arcs)) 0 s b.0.1
    = subst (λ (y : Value). (packs field_types 1 y ≡ true) × Went (packed field_types 1 y) 0 s b.0.1) is f in
    (arcs_pack arcs there.0, subst (λ (y : Spot). Went (oid_file arcs) 0 s y) j.1 (went_as (packed field_types 1 (object_id arcs)) (oid_file arcs) 0 0 s b.0.1 (arcs_are arcs) refl there.1))
