-- What contents spell fits: numbers, object identifiers and strings.
use Rattle.std.proofs.Common.{◌≡◌, ℕ, zero, suc, ◌-◌, ◌*◌, ◌%◌, ◌^◌, ◌<◌, ◌≤◌, ℤ, pos, negsuc, Bool, true, false, ◌&&◌, cond, List, [], ◌∷◌, ◌++◌, length, drop, Option, Some, None, refl, sym, ap, ◌∙◌, subst, arith, inl, inr}
use Rattle.std.specs.Prelude.{slice_index, nat_le, nat_lt}
use Rattle.std.specs.List.{list_all}
use Rattle.std.proofs.lemmas.Bool.{lt-ltb, ltb-true, ltb-false, and_parts}
use Rattle.std.proofs.lemmas.List.Folds.{list_all-append}
use Rattle.asn1_types.specs.declared.row.Item.{Item}
use Rattle.asn1_types.specs.declared.row.TextKind.{TextKind}
use Rattle.asn1_types.specs.Value.{Value, boolean, integer, null, octets, bits, object_id, text, parts, list, chosen, any}
use Rattle.asn1_types.specs.Fits.{is_number, is_octet, is_text, boolean_fits, integer_fits, enumerated_fits, null_fits, object_id_fits, octets_fit, bits_fit, text_fits, any_fits}
use Rattle.asn1_types.specs.Whole.{number_256}
use Rattle.osi_base.specs.Octets.{AreOctets}
use Rattle.osi_base.proofs.OctetLaws.{octets_left, octets_right, octets_tail}
use Rattle.asn1_types.specs.declared.row.Tag as tags
use Rattle.ber_spelling.specs.declared.spot.StringKind.{StringKind}
use Rattle.ber_spelling.specs.declared.spot.StringKind.TheVariants.{OfOctets, OfBits}
use Rattle.ber_spelling.specs.declared.spot.Gathered.{Gathered}
use Rattle.ber_spelling.specs.Rules.{segment_tag, is_segment, nothing, gathered, segment_rule, string_rule, and_whole, cleared, whole_octets, whole_text, whole_bits}
use Rattle.ber_spelling.specs.Spelling.{IsInteger, BooleanIs, IntegerIs, EnumeratedIs, NullIs, ObjectIdIs, AnyIs, Steps, ItemsAre, SegmentIs, StringIs}
use Rattle.ber_spelling.proofs.Numbers.{few_256, number_small, number_large}
use Rattle.ber_spelling.proofs.Contents.{int_not_lt}
use Rattle.ber_spelling.proofs.Oids.{small_arcs, well_begun}
use Rattle.ber_spelling.proofs.WholeSpelled.{is_whole_of}
use Rattle.ber_spelling.proofs.Wholes.{cond_some as else_some}
use Rattle.std.proofs.lemmas.Option.{cond_some}
use Rattle.ber_spelling.proofs.Around.{in_primitive, in_constructed}
use Rattle.ber_spelling.proofs.Segments.{some_gathered}
use Rattle.ber_spelling.proofs.LastOctets.{snoc}
use Rattle.ber_spelling.proofs.UnusedBits.{last_cleared, bits_zeros}

-- ---- plain values

-- 1 to 8 octets are a number of 64 bits
integer_number : (c : List ℕ) (z : ℤ) → AreOctets c → IsInteger c z → is_number z ≡ true
integer_number c z are h = subst (λ (x : ℤ). is_number x ≡ true) h.number (by_test (nat_lt (slice_index c 0) 128) refl)
  where
    by_test : (b : Bool) → nat_lt (slice_index c 0) 128 ≡ b → is_number (cond b (pos (number_256 0 c)) (negsuc (256 ^ length c - suc (number_256 0 c)))) ≡ true
    by_test true t = lt-ltb (number_256 0 c) (2 ^ 63) (number_small c are h.some h.few (ltb-true (slice_index c 0) 128 t))
    by_test false t =
        let large : 256 ^ length c ≤ 2 * number_256 0 c = number_large c h.some (ltb-false (slice_index c 0) 128 t) in
        lt-ltb (256 ^ length c - suc (number_256 0 c)) (2 ^ 63) (omega (arith, few_256 (length c) h.few))

pub boolean_fitting : (strict : Bool) (v : Value) (c : List ℕ) → BooleanIs strict v c → boolean_fits v ≡ true
boolean_fitting strict (boolean b) c p = refl
boolean_fitting strict (integer x) c p = absurd p
boolean_fitting strict null c p = absurd p
boolean_fitting strict (octets x) c p = absurd p
boolean_fitting strict (bits x n) c p = absurd p
boolean_fitting strict (object_id x) c p = absurd p
boolean_fitting strict (text x) c p = absurd p
boolean_fitting strict (parts x) c p = absurd p
boolean_fitting strict (list x) c p = absurd p
boolean_fitting strict (chosen n x) c p = absurd p
boolean_fitting strict (any x) c p = absurd p

pub null_fitting : (v : Value) (c : List ℕ) → NullIs v c → null_fits v ≡ true
null_fitting null c p = refl
null_fitting (boolean x) c p = absurd p
null_fitting (integer x) c p = absurd p
null_fitting (octets x) c p = absurd p
null_fitting (bits x n) c p = absurd p
null_fitting (object_id x) c p = absurd p
null_fitting (text x) c p = absurd p
null_fitting (parts x) c p = absurd p
null_fitting (list x) c p = absurd p
null_fitting (chosen n x) c p = absurd p
null_fitting (any x) c p = absurd p

pub integer_fitting : (low high : ℤ) (v : Value) (c : List ℕ) → AreOctets c → IntegerIs low high v c → integer_fits low high v ≡ true
integer_fitting low high (integer z) c are p = rw (integer_number c z are p.0, int_not_lt low z p.1, int_not_lt z high p.2) refl
integer_fitting low high (boolean x) c are p = absurd p
integer_fitting low high null c are p = absurd p
integer_fitting low high (octets x) c are p = absurd p
integer_fitting low high (bits x n) c are p = absurd p
integer_fitting low high (object_id x) c are p = absurd p
integer_fitting low high (text x) c are p = absurd p
integer_fitting low high (parts x) c are p = absurd p
integer_fitting low high (list x) c are p = absurd p
integer_fitting low high (chosen n x) c are p = absurd p
integer_fitting low high (any x) c are p = absurd p

pub enumerated_fitting : (items : List Item) (v : Value) (c : List ℕ) → AreOctets c → EnumeratedIs items v c → enumerated_fits items v ≡ true
enumerated_fitting items (integer z) c are p = rw (integer_number c z are p.0, p.1) refl
enumerated_fitting items (boolean x) c are p = absurd p
enumerated_fitting items null c are p = absurd p
enumerated_fitting items (octets x) c are p = absurd p
enumerated_fitting items (bits x n) c are p = absurd p
enumerated_fitting items (object_id x) c are p = absurd p
enumerated_fitting items (text x) c are p = absurd p
enumerated_fitting items (parts x) c are p = absurd p
enumerated_fitting items (list x) c are p = absurd p
enumerated_fitting items (chosen n x) c are p = absurd p
enumerated_fitting items (any x) c are p = absurd p

pub object_id_fitting : (v : Value) (c : List ℕ) → ObjectIdIs v c → object_id_fits v ≡ true
object_id_fitting (object_id arcs) c p = rw (well_begun arcs p.is_oid, small_arcs arcs p.small) refl
object_id_fitting (boolean x) c p = absurd p
object_id_fitting (integer x) c p = absurd p
object_id_fitting null c p = absurd p
object_id_fitting (octets x) c p = absurd p
object_id_fitting (bits x n) c p = absurd p
object_id_fitting (text x) c p = absurd p
object_id_fitting (parts x) c p = absurd p
object_id_fitting (list x) c p = absurd p
object_id_fitting (chosen n x) c p = absurd p
object_id_fitting (any x) c p = absurd p

pub any_fitting : (levels : ℕ) (v : Value) (s : List ℕ) → AnyIs levels v s → any_fits v ≡ true
any_fitting levels (any os) s p = is_whole_of os p.2
any_fitting levels (boolean x) s p = absurd p
any_fitting levels (integer x) s p = absurd p
any_fitting levels null s p = absurd p
any_fitting levels (octets x) s p = absurd p
any_fitting levels (bits x n) s p = absurd p
any_fitting levels (object_id x) s p = absurd p
any_fitting levels (text x) s p = absurd p
any_fitting levels (parts x) s p = absurd p
any_fitting levels (list x) s p = absurd p
any_fitting levels (chosen n x) s p = absurd p

-- ---- strings

all_octets : (os : List ℕ) → AreOctets os → list_all is_octet os ≡ true
all_octets [] h = refl
all_octets (o ∷ os) h = rw (lt-ltb o 256 (h.each 0), all_octets os (octets_tail o os h)) refl

all_behind : (os : List ℕ) → AreOctets os → list_all is_octet (drop 1 os) ≡ true
all_behind [] h = refl
all_behind (o ∷ os) h = all_octets os (octets_tail o os h)

all_both : (a b : List ℕ) → list_all is_octet a ≡ true → list_all is_octet b ≡ true → list_all is_octet (a ++ b) ≡ true
all_both a b e f = list_all-append is_octet a b ∙ rw e f

abbrev HasOctets : Gathered → Type 0
HasOctets g = list_all is_octet g.octets ≡ true

gathered_octets : (kind : StringKind) (a : Gathered) (c : List ℕ) → AreOctets c → HasOctets a → HasOctets (gathered kind a c)
gathered_octets OfOctets a c are e = all_both a.octets c e (all_octets c are)
gathered_octets OfBits a c are e = all_both a.octets (drop 1 c) e (all_behind c are)

rule_octets : (kind : StringKind) (a b : Gathered) (c : List ℕ) → AreOctets c → HasOctets a → segment_rule kind a c ≡ Some b → HasOctets b
rule_octets kind a b c are e r =
    let t = cond_some (is_segment kind c) (gathered kind a c) b r in
    subst HasOctets t.1 (gathered_octets kind a c are e)

steps_octets : (R : Gathered → Gathered → List ℕ → Type 0) → ((a b : Gathered) (s : List ℕ) → AreOctets s → HasOctets a → R a b s → HasOctets b) → (steps : List (List ℕ × Gathered)) (a b : Gathered) (c : List ℕ)
    → AreOctets c → HasOctets a → Steps R steps a b c → HasOctets b
steps_octets R each [] a b c are e p = subst HasOctets p.0 e
steps_octets R each (s ∷ more) a b c are e p =
    let both : AreOctets (s.0 ++ p.0) = subst AreOctets p.1 are in
    steps_octets R each more s.1 b p.0 (octets_right s.0 p.0 both) (each a s.1 s.0 (octets_left s.0 p.0 both) e p.2) p.3

items_octets : (kind : StringKind) (depth : ℕ) (strict : Bool) (levels : ℕ) → ((a b : Gathered) (s : List ℕ) → AreOctets s → HasOctets a → SegmentIs kind depth a strict levels b s → HasOctets b) → (a b : Gathered) (c : List ℕ)
    → AreOctets c → HasOctets a → ItemsAre some_gathered (SegmentIs kind depth) a strict levels b c → HasOctets b
items_octets kind depth strict levels each a b c are e p =
    let same : p.0 ≡ b = let x = p.1 in cc in
    subst HasOctets same (steps_octets (λ x y s. SegmentIs kind depth x strict levels y s) each p.2 a p.0 c are e p.3)

segment_octets : (kind : StringKind) (depth : ℕ) (strict : Bool) (levels : ℕ) (a b : Gathered) (s : List ℕ) → AreOctets s → HasOctets a → SegmentIs kind depth a strict levels b s → HasOctets b
segment_octets kind zero strict levels a b s are e p = absurd p
segment_octets kind (suc depth) strict levels a b s are e (inl p) =
    in_primitive (segment_tag kind) strict levels (λ c. segment_rule kind a c ≡ Some b) s are p (λ c of r. rule_octets kind a b c of e r)
segment_octets kind (suc depth) strict levels a b s are e (inr p) =
    in_constructed (segment_tag kind) strict levels (λ l c. ItemsAre some_gathered (SegmentIs kind depth) a strict l b c) s are p
    (λ l c of q. items_octets kind depth strict l (λ x y t. segment_octets kind depth strict l x y t) a b c of e q)

-- what a string is of: octets that are gathered
record Gathers (whole : Gathered → Option Value) (v : Value) : Type 0 where
  all : Gathered
  is : whole all ≡ Some v
  octets : HasOctets all

string_gathers : (kind : StringKind) (whole : Gathered → Option Value) (canonical : List ℕ → Bool) (tag : tags.Tag) (levels : ℕ) (v : Value) (s : List ℕ) → AreOctets s → StringIs kind whole canonical tag false levels v s → Gathers whole v
string_gathers kind whole canonical tag levels v s are (inl p) =
    in_primitive tag false levels (λ c. (string_rule kind whole c ≡ Some v) × (false ≡ true → canonical c ≡ true)) s are p (λ c of q. by c of (segment_rule kind nothing c) refl q.0)
  where
    by : (c : List ℕ) → AreOctets c → (o : Option Gathered) → segment_rule kind nothing c ≡ o → and_whole whole o ≡ Some v → Gathers whole v
    by c of None r e = absurd cc
    by c of (Some g) r e = record { all = g; is = e; octets = rule_octets kind nothing g c of refl r }
string_gathers kind whole canonical tag levels v s are (inr p) =
    in_constructed tag false levels (λ l c. ItemsAre some_gathered (SegmentIs kind 32) nothing false l p.1 c) s are p.3
    (λ l c of q. record { all = p.1; is = p.2; octets = items_octets kind 32 false l (λ x y t. segment_octets kind 32 false l x y t) nothing p.1 c of refl q })

pub octets_fitting : (most : ℕ) (canonical : List ℕ → Bool) (tag : tags.Tag) (levels : ℕ) (v : Value) (s : List ℕ) → AreOctets s → StringIs OfOctets (whole_octets most) canonical tag false levels v s → octets_fit most v ≡ true
octets_fitting most canonical tag levels v s are p =
    let g = string_gathers OfOctets (whole_octets most) canonical tag levels v s are p in
    let t = cond_some (nat_le (length g.all.octets) most) (octets g.all.octets) v g.is in
    subst (λ (x : Value). octets_fit most x ≡ true) t.1 (rw (g.octets, t.0) refl)

pub text_fitting : (kind : TextKind) (canonical : List ℕ → Bool) (tag : tags.Tag) (levels : ℕ) (v : Value) (s : List ℕ) → AreOctets s → StringIs OfOctets (whole_text kind) canonical tag false levels v s → text_fits kind v ≡ true
text_fitting kind canonical tag levels v s are p =
    let g = string_gathers OfOctets (whole_text kind) canonical tag levels v s are p in
    let t = cond_some (is_text kind g.all.octets) (text g.all.octets) v g.is in
    subst (λ (x : Value). text_fits kind x ≡ true) t.1 (rw (g.octets, t.0) refl)

cleared_octet : (x m : ℕ) → list_all is_octet (x ∷ []) ≡ true → list_all is_octet ((x - x % m) ∷ []) ≡ true
cleared_octet x m e =
    let small : x < 256 = by (nat_lt x 256) refl e in
    rw (lt-ltb (x - x % m) 256 (omega arith)) refl
  where
    by : (b : Bool) → nat_lt x 256 ≡ b → (b && true) ≡ true → x < 256
    by true t f = ltb-true x 256 t
    by false t f = absurd cc

cleared_octets : (unused : ℕ) (os : List ℕ) → list_all is_octet os ≡ true → list_all is_octet (cleared unused os) ≡ true
cleared_octets unused [] e = refl
cleared_octets unused (o ∷ os) e =
    let n = snoc o os in
    let t = and_parts (list_all is_octet n.0) (list_all is_octet (n.1 ∷ [])) (sym (list_all-append is_octet n.0 (n.1 ∷ [])) ∙ ap (list_all is_octet) (sym n.2) ∙ e) in
    ap (λ (x : List ℕ). list_all is_octet (cleared unused x)) n.2 ∙ ap (list_all is_octet) (last_cleared unused n.0 n.1)
    ∙ all_both n.0 ((n.1 - n.1 % 2 ^ unused) ∷ []) t.0 (cleared_octet n.1 (2 ^ unused) t.1)

pub bits_fitting : (canonical : List ℕ → Bool) (tag : tags.Tag) (levels : ℕ) (v : Value) (s : List ℕ) → AreOctets s → StringIs OfBits whole_bits canonical tag false levels v s → bits_fit v ≡ true
bits_fitting canonical tag levels v s are p =
    let g = string_gathers OfBits whole_bits canonical tag levels v s are p in
    let t = else_some _ (Some (bits (cleared g.all.unused g.all.octets) g.all.unused)) v g.is in
    let same : bits (cleared g.all.unused g.all.octets) g.all.unused ≡ v = let x = t.1 in cc in
    let z = bits_zeros canonical tag levels (cleared g.all.unused g.all.octets) g.all.unused s (subst (λ (x : Value). StringIs OfBits whole_bits canonical tag false levels x s) (sym same) p) in
    subst (λ (x : Value). bits_fit x ≡ true) same (rw (cleared_octets g.all.unused g.all.octets g.octets) z.0)
