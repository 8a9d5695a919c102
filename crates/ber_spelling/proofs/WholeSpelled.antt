-- Each DER spelling is one whole value, as `fits` tests it.
use Rattle.std.proofs.Common.{◌≡◌, ◌≢◌, ℕ, zero, suc, ◌+◌, ◌-◌, ◌*◌, ◌%◌, ◌^◌, ◌<◌, ◌≤◌, Bool, true, false, ◌&&◌, List, [], ◌∷◌, ◌++◌, length, take, drop, Option, Some, None, refl, sym, ap, ◌∙◌, subst, arith, append_assoc, length-append, ◌⊎◌, inl, inr}
use Rattle.std.specs.Prelude.{slice_get, nat_le}
use Rattle.std.proofs.lemmas.Bool.{lt-ltb, le-ltb, le-leb, lt-leb, eq-eqb, ne_eqb, eqb-false}
use Rattle.std.proofs.lemmas.List.{take_at, drop_at, append-nil}
use Rattle.asn1_types.specs.declared.row.Class.{Class}
use Rattle.asn1_types.specs.declared.row.Class.TheVariants.{Universal, Application, Context, Private}
use Rattle.asn1_types.specs.declared.row.Part.{Part}
use Rattle.asn1_types.specs.declared.row.TypeRow.{TypeRow}
use Rattle.asn1_types.specs.declared.row.TypeRow.TheVariants as row
use Rattle.asn1_types.specs.Rows.{is_no_tag, text_number}
use Rattle.asn1_types.specs.Table.{AreSoundRows, is_bad_range}
use Rattle.asn1_types.specs.Value.{Value, boolean, integer, null, octets, bits, object_id, text, parts, list, chosen, any}
use Rattle.asn1_types.specs.Whole.{number_256, behind_digits, behind_high, behind_identifier, behind_octets, behind_counted, behind_sized, is_constructed as is_formed, is_ended, behind_values, behind_whole, is_nothing, is_whole}
use Rattle.asn1_types.specs.Fits.{has_form}
use Rattle.asn1_types.proofs.Sound.{sound_row}
use Rattle.asn1_types.specs.declared.row.Tag as tags
use Rattle.ber_spelling.specs.Fields.{is_constructed}
use Rattle.ber_spelling.specs.declared.spot.StringKind.{StringKind}
use Rattle.ber_spelling.specs.declared.spot.StringKind.TheVariants.{OfOctets, OfBits}
use Rattle.ber_spelling.specs.Rules.{string_rule, whole_octets, whole_bits, whole_text, has_zero_bits, always, Guise, bare, plain, under}
use Rattle.ber_spelling.specs.declared.spot.Gathered.{Gathered}
use Rattle.ber_spelling.specs.Spelling.{AreDigits, low_bits, IsBase128, IsIdentifier, IsLength, IsDefinite, IsIndefinite, IsPrimitive, IsConstructed, AreAll, IsWhole, Spelled, SequenceIs, SetIs, ChoiceIs, BooleanIs, IntegerIs, EnumeratedIs, StringIs, ListIs, NullIs, ObjectIdIs, AnyIs, RowIs, RowOr, SpelledBy, Spells, OrExplicit, IsOther, SetOfIs}
use Rattle.asn1_types.specs.Writing.{written}
use Rattle.asn1_types.specs.Tags.{tag_or, leading}
use Rattle.ber_spelling.proofs.Identifiers.{low_at, form_at}
use Rattle.ber_spelling.proofs.Steady.{Head, head_some, regroup, regroup_marked}
use Rattle.ber_spelling.proofs.RowLaws.{text_tag, OkTag, tag_ok}
use Rattle.ber_spelling.proofs.Written.{written_spelled}
use Rattle.ber_spelling.proofs.Wholes.{whole_is}
use Rattle.ber_spelling.proofs.WholeReads.{unmarked}
use Rattle.ber_spelling.proofs.Lax.{lax_length}

-- ---- identifiers

digits_passed : (digits rest : List ℕ) → AreDigits digits → behind_digits (digits ++ rest) ≡ Some rest
digits_passed [] rest h = absurd h
digits_passed (d ∷ []) rest h = rw (lt-ltb d 128 h) refl
digits_passed (d ∷ e ∷ ds) rest h = rw (le-ltb d 128 h.0, lt-ltb d 256 h.1) (digits_passed (e ∷ ds) rest h.2)

high_first : (d : ℕ) (more : List ℕ) → 31 ≤ d → d ≢ 128 → behind_high (d ∷ more) ≡ behind_digits (d ∷ more)
high_first d more le ne = rw (le-ltb d 31 le, ne_eqb d 128 ne) refl

high_passed : (digits rest : List ℕ) (n : ℕ) → 31 ≤ n → IsBase128 digits n → behind_high (digits ++ rest) ≡ Some rest
high_passed [] rest n le h = absurd h.are
high_passed (d ∷ []) rest n le h =
    let small : d < 128 = h.are in
    let low : low_bits d ≡ d = rw (lt-ltb d 128 small) refl in
    let number : 128 * 0 + low_bits d ≡ n = h.number in
    high_first d rest (omega arith) h.shortest ∙ digits_passed (d ∷ []) rest small
high_passed (d ∷ e ∷ ds) rest n le h =
    let large : 128 ≤ d = h.are.0 in
    high_first d (e ∷ (ds ++ rest)) (omega arith) h.shortest ∙ digits_passed (d ∷ e ∷ ds) rest h.are

short_form : (first : ℕ) (rest : List ℕ) → first ≢ 0 → first ≢ 32 → first < 256 → first % 32 ≢ 31 → behind_identifier (first ∷ rest) ≡ Some rest
short_form first rest a b lt c = rw (ne_eqb first 0 a, ne_eqb first 32 b, lt-leb 256 first lt, ne_eqb (first % 32) 31 c) refl

long_form : (first : ℕ) (rest : List ℕ) → first ≢ 0 → first ≢ 32 → first < 256 → first % 32 ≡ 31 → behind_identifier (first ∷ rest) ≡ behind_high rest
long_form first rest a b lt c = rw (ne_eqb first 0 a, ne_eqb first 32 b, lt-leb 256 first lt, eq-eqb (first % 32) 31 c) refl

-- a first octet that isn't of UNIVERSAL 0
record First (first : ℕ) : Type 0 where
  some : first ≢ 0
  more : first ≢ 32
  octet : first < 256

first_octet_begins : (class : Class) (constructed : Bool) (k : ℕ) → k < 32 → is_no_tag class k ≡ false → First (leading class constructed + k)
first_octet_begins Universal true k lt t = let some : k ≢ 0 = eqb-false k 0 t in record { some = λ e. omega arith; more = λ e. some (omega arith); octet = omega arith }
first_octet_begins Universal false k lt t = let some : k ≢ 0 = eqb-false k 0 t in record { some = λ e. some (omega arith); more = λ e. omega arith; octet = omega arith }
first_octet_begins Application true k lt t = record { some = λ e. omega arith; more = λ e. omega arith; octet = omega arith }
first_octet_begins Application false k lt t = record { some = λ e. omega arith; more = λ e. omega arith; octet = omega arith }
first_octet_begins Context true k lt t = record { some = λ e. omega arith; more = λ e. omega arith; octet = omega arith }
first_octet_begins Context false k lt t = record { some = λ e. omega arith; more = λ e. omega arith; octet = omega arith }
first_octet_begins Private true k lt t = record { some = λ e. omega arith; more = λ e. omega arith; octet = omega arith }
first_octet_begins Private false k lt t = record { some = λ e. omega arith; more = λ e. omega arith; octet = omega arith }

high_tag : (class : Class) → is_no_tag class 31 ≡ false
high_tag Universal = refl
high_tag Application = refl
high_tag Context = refl
high_tag Private = refl

identifier_passed : (class : Class) (constructed : Bool) (number : ℕ) (head rest : List ℕ) → is_no_tag class number ≡ false → IsIdentifier class constructed number head → behind_identifier (head ++ rest) ≡ Some rest
identifier_passed class constructed number [] rest t h = absurd h
identifier_passed class constructed number (first ∷ digits) rest t (inl h) =
    let lt : number < 31 = h.0 in
    let f = subst First (sym h.1) (first_octet_begins class constructed number (omega arith) t) in
    let low : first % 32 ≡ number = ap (λ (n : ℕ). n % 32) h.1 ∙ low_at class constructed number (omega arith) in
    ap (λ (ds : List ℕ). behind_identifier (first ∷ (ds ++ rest))) h.2 ∙ short_form first rest f.some f.more f.octet (λ e. omega arith)
identifier_passed class constructed number (first ∷ digits) rest t (inr h) =
    let f = subst First (sym h.1) (first_octet_begins class constructed 31 (omega arith) (high_tag class)) in
    let low : first % 32 ≡ 31 = ap (λ (n : ℕ). n % 32) h.1 ∙ low_at class constructed 31 (omega arith) in
    long_form first (digits ++ rest) f.some f.more f.octet low ∙ high_passed digits rest number h.0 h.2

-- ---- lengths

both : (a b : Bool) → a ≡ true → b ≡ true → (a && b) ≡ true
both true b e f = f
both false b e f = absurd cc

passed : (count : ℕ) (contents rest : List ℕ) → count ≡ length contents → behind_octets count (contents ++ rest) ≡ Some rest
passed count contents rest is =
    let enough : count ≤ length (contents ++ rest) = omega (arith, length-append contents rest) in
    rw (le-leb count (length (contents ++ rest)) enough, drop_at contents rest count (sym is)) refl

counted : (digits contents rest : List ℕ) (n : ℕ) → n ≡ length digits → 1 ≤ length digits → length digits ≤ 8 → number_256 0 digits ≡ length contents → behind_counted n (digits ++ (contents ++ rest)) ≡ Some rest
counted digits contents rest n is some few number =
    let len : length (digits ++ (contents ++ rest)) ≡ length digits + length (contents ++ rest) = length-append digits (contents ++ rest) in
    let front : take n (digits ++ (contents ++ rest)) ≡ digits = take_at digits (contents ++ rest) n (sym is) in
    let back : drop n (digits ++ (contents ++ rest)) ≡ contents ++ rest = drop_at digits (contents ++ rest) n (sym is) in
    let test = both (nat_le 1 n && nat_le n 8) (nat_le n (length (digits ++ (contents ++ rest)))) (both (nat_le 1 n) (nat_le n 8) (le-leb 1 n (omega arith)) (le-leb n 8 (omega arith))) (le-leb n (length (digits ++ (contents ++ rest))) (omega arith)) in
    rw (test, front, back) (passed (number_256 0 digits) contents rest number)

sized : (size contents rest : List ℕ) → IsLength false size (length contents) → behind_sized (size ++ (contents ++ rest)) ≡ Some rest
sized [] contents rest h = absurd h
sized (first ∷ digits) contents rest (inl h) =
    ap (λ (ds : List ℕ). behind_sized (first ∷ (ds ++ (contents ++ rest)))) h.1 ∙ rw (lt-ltb first 128 h.0) (passed first contents rest (sym h.2))
sized (first ∷ digits) contents rest (inr l) =
    let size : first ≡ 128 + length digits = l.size in
    let large : 128 ≤ first = omega arith in
    rw (le-ltb first 128 large) (counted digits contents rest (first - 128) (omega arith) l.some l.few l.number)

-- ---- whole values

formed : (class : Class) (constructed : Bool) (number : ℕ) (head rest : List ℕ) → IsIdentifier class constructed number head → is_formed (head ++ rest) ≡ constructed
formed class constructed number [] rest h = absurd h
formed class constructed number (first ∷ digits) rest (inl h) = ap is_constructed h.1 ∙ form_at class constructed number (omega (arith, h.0))
formed class constructed number (first ∷ digits) rest (inr h) = ap is_constructed h.1 ∙ form_at class constructed 31 (omega arith)

headed : (a b : List ℕ) → Head a → Head (a ++ b)
headed a b h = record { first = h.first; others = h.others ++ b; are = ap (λ (x : List ℕ). x ++ b) h.are; some = h.some }

whole_head : (depth : ℕ) (os : List ℕ) → IsWhole depth os → Head os
whole_head zero os h = absurd h
whole_head (suc inner) os (inl w) = subst Head (sym w.are) (headed w.head (w.size ++ w.contents) (head_some w.class w.constructed w.number w.head w.is_tag w.is_identifier))
whole_head (suc inner) os (inr w) = subst Head (sym w.are) (headed w.head (128 ∷ (w.contents ++ (0 ∷ 0 ∷ []))) (head_some w.class true w.number w.head w.is_tag w.is_identifier))

not_ended : (first : ℕ) (rest : List ℕ) → first ≢ 0 → is_ended (first ∷ rest) ≡ false
not_ended first [] ne = refl
not_ended first (second ∷ rest) ne = rw (ne_eqb first 0 ne) refl

headed_goes_on : (os rest : List ℕ) → Head os → is_ended (os ++ rest) ≡ false
headed_goes_on os rest h = ap (λ (x : List ℕ). is_ended (x ++ rest)) h.are ∙ not_ended h.first (h.others ++ rest) h.some

values_passed : (depth : ℕ) → ((os rest : List ℕ) → IsWhole depth os → behind_whole depth (os ++ rest) ≡ Some rest) → (turns : ℕ) (values : List (List ℕ)) (contents rest : List ℕ)
    → AreAll (IsWhole depth) values contents → length contents < turns → behind_values (behind_whole depth) turns (contents ++ (0 ∷ 0 ∷ rest)) ≡ Some rest
unfolding behind_values
values_passed depth h zero values contents rest p lt = absurd (omega arith)
values_passed depth h (suc turns) [] contents rest p lt = ap (λ (c : List ℕ). behind_values (behind_whole depth) (suc turns) (c ++ (0 ∷ 0 ∷ rest))) p
values_passed depth h (suc turns) (s ∷ more) contents rest p lt =
    let others : List ℕ = p.0 in
    let tail : List ℕ = others ++ (0 ∷ 0 ∷ rest) in
    let head = whole_head depth s p.2 in
    let len : length contents ≡ length s + length others = ap length p.1 ∙ length-append s others in
    let some : length s ≡ suc (length head.others) = ap length head.are in
    let later = values_passed depth h turns more others rest p.3 (omega arith) in
    let whole : contents ++ (0 ∷ 0 ∷ rest) ≡ s ++ tail = ap (λ (c : List ℕ). c ++ (0 ∷ 0 ∷ rest)) p.1 ∙ append_assoc s others (0 ∷ 0 ∷ rest) in
    ap (λ (c : List ℕ). behind_values (behind_whole depth) (suc turns) c) whole ∙ rw (headed_goes_on s tail head, h s tail p.2) later

whole_passed : (depth : ℕ) (os rest : List ℕ) → IsWhole depth os → behind_whole depth (os ++ rest) ≡ Some rest
unfolding behind_whole
whole_passed zero os rest h = absurd h
whole_passed (suc inner) os rest (inl w) =
    let tail : List ℕ = w.size ++ (w.contents ++ rest) in
    let parts : os ++ rest ≡ w.head ++ tail = ap (λ (x : List ℕ). x ++ rest) w.are ∙ regroup w.head w.size w.contents rest in
    ap (behind_whole (suc inner)) parts
    ∙ rw (identifier_passed w.class w.constructed w.number w.head tail w.is_tag w.is_identifier, unmarked w.size (w.contents ++ rest) (length w.contents) w.is_length) (sized w.size w.contents rest w.is_length)
whole_passed (suc inner) os rest (inr w) =
    let inside : List ℕ = w.contents ++ (0 ∷ 0 ∷ rest) in
    let parts : os ++ rest ≡ w.head ++ (128 ∷ inside) = ap (λ (x : List ℕ). x ++ rest) w.are ∙ regroup_marked w.head w.contents rest in
    let values = values_passed inner (λ t r g. whole_passed inner t r g) (length inside) w.values w.contents rest w.holds (omega (arith, length-append w.contents (0 ∷ 0 ∷ rest))) in
    ap (behind_whole (suc inner)) parts
    ∙ rw (identifier_passed w.class true w.number w.head (128 ∷ inside) w.is_tag w.is_identifier, formed w.class true w.number w.head (128 ∷ inside) w.is_identifier) values

-- the test passes each whole value
pub is_whole_of : (os : List ℕ) → IsWhole 32 os → is_whole os ≡ true
unfolding is_whole
is_whole_of os w = ap is_nothing (ap (behind_whole 32) (sym (append-nil os)) ∙ whole_passed 32 os [] w)

-- ---- DER spellings

definite_whole : (constructed : Bool) (tag : tags.Tag) (P : List ℕ → Type 0) (s : List ℕ) → is_no_tag tag.class tag.number ≡ false → IsDefinite true constructed tag P s → IsWhole 32 s
definite_whole constructed tag P s t d = inl (record {
  class = tag.class;
  constructed = constructed;
  number = tag.number;
  is_tag = t;
  head = d.head;
  size = d.size;
  contents = d.contents;
  is_identifier = d.is_identifier;
  is_length = lax_length d.size (length d.contents) d.is_length;
  are = d.are;
})

primitive_whole : (tag : tags.Tag) (levels : ℕ) (P : List ℕ → Type 0) (s : List ℕ) → is_no_tag tag.class tag.number ≡ false → IsPrimitive tag true levels P s → IsWhole 32 s
primitive_whole tag levels P s t p = definite_whole false tag P s t p.form

constructed_whole : (tag : tags.Tag) (levels : ℕ) (P : ℕ → List ℕ → Type 0) (s : List ℕ) → is_no_tag tag.class tag.number ≡ false → IsConstructed tag true levels P s → IsWhole 32 s
constructed_whole tag levels P s t p = by_form p.form
  where
    by_form : IsDefinite true true tag (P p.inner) s ⊎ ((true ≡ false) × IsIndefinite tag (P p.inner) s) → IsWhole 32 s
    by_form (inl d) = definite_whole true tag (P p.inner) s t d
    by_form (inr i) = let no : true ≡ false = i.0 in absurd cc

-- in DER a string is one segment
string_whole : (kind : StringKind) (whole : Gathered → Option Value) (canonical : List ℕ → Bool) (tag : tags.Tag) (levels : ℕ) (v : Value) (s : List ℕ) → is_no_tag tag.class tag.number ≡ false
    → StringIs kind whole canonical tag true levels v s → IsWhole 32 s
string_whole kind whole canonical tag levels v s t (inl p) = primitive_whole tag levels (λ c. (string_rule kind whole c ≡ Some v) × (true ≡ true → canonical c ≡ true)) s t p
string_whole kind whole canonical tag levels v s t (inr p) = absurd (let no : true ≡ false = p.0 in cc)

-- what holds of a row: each DER spelling under a tag that isn't UNIVERSAL 0 is whole
record AreWhole (rel : Spelled) : Type 0 where
  is : (t : Guise) (levels : ℕ) (v : Value) (s : List ℕ) → OkTag t.tag → rel t true levels v s → IsWhole 32 s

any_whole : (levels : ℕ) (v : Value) (s : List ℕ) → AnyIs levels v s → IsWhole 32 s
any_whole levels (any os) s p = subst (IsWhole 32) (sym p.1) p.2
any_whole levels (boolean x) s p = absurd p
any_whole levels (integer x) s p = absurd p
any_whole levels null s p = absurd p
any_whole levels (octets x) s p = absurd p
any_whole levels (bits x n) s p = absurd p
any_whole levels (object_id x) s p = absurd p
any_whole levels (text x) s p = absurd p
any_whole levels (parts x) s p = absurd p
any_whole levels (list x) s p = absurd p
any_whole levels (chosen n x) s p = absurd p

explicit_whole : (P : Bool → ℕ → Value → List ℕ → Type 0) → ((levels : ℕ) (v : Value) (s : List ℕ) → P true levels v s → IsWhole 32 s) → (t : Option tags.Tag) (levels : ℕ) (v : Value) (s : List ℕ) → OkTag t → OrExplicit P t true levels v s → IsWhole 32 s
explicit_whole P each None levels v s ok p = each levels v s p
explicit_whole P each (Some t) levels v s ok p = constructed_whole t levels (λ inner contents. P true inner v contents) s ok p

module _ (spell : ℕ → Value → List ℕ) (rel : ℕ → Spelled) (each : (m : ℕ) → AreWhole (rel m)) where
  chosen_whole : (ps : List Part) (levels : ℕ) (v : Value) (s : List ℕ) → ChoiceIs rel ps true levels v s → IsWhole 32 s
  chosen_whole ps levels (chosen which v) s p = (each p.0.inner.0).is plain levels v s tt p.2
  chosen_whole ps levels (boolean x) s p = absurd p
  chosen_whole ps levels (integer x) s p = absurd p
  chosen_whole ps levels null s p = absurd p
  chosen_whole ps levels (octets x) s p = absurd p
  chosen_whole ps levels (bits x n) s p = absurd p
  chosen_whole ps levels (object_id x) s p = absurd p
  chosen_whole ps levels (text x) s p = absurd p
  chosen_whole ps levels (parts x) s p = absurd p
  chosen_whole ps levels (list x) s p = absurd p
  chosen_whole ps levels (any x) s p = absurd p

  row_whole : (r : TypeRow) → is_bad_range r ≡ false → (t : Guise) (levels : ℕ) (v : Value) (s : List ℕ) → OkTag t.tag → RowIs spell rel r t true levels v s → IsWhole 32 s
  row_whole row.Boolean good t levels v s ok p = primitive_whole (tag_or t.tag Universal 1) levels (λ c. BooleanIs true v c × IsOther t.default true v) s (tag_ok t.tag Universal 1 ok refl) p
  row_whole (row.Integer low high) good t levels v s ok p = primitive_whole (tag_or t.tag Universal 2) levels (λ c. IntegerIs low high v c × IsOther t.default true v) s (tag_ok t.tag Universal 2 ok refl) p
  row_whole (row.Enumerated items) good t levels v s ok p = primitive_whole (tag_or t.tag Universal 10) levels (λ c. EnumeratedIs items v c × IsOther t.default true v) s (tag_ok t.tag Universal 10 ok refl) p
  row_whole row.Null good t levels v s ok p = primitive_whole (tag_or t.tag Universal 5) levels (NullIs v) s (tag_ok t.tag Universal 5 ok refl) p
  row_whole (row.OctetString most) good t levels v s ok p = string_whole OfOctets (whole_octets most) always (tag_or t.tag Universal 4) levels v s (tag_ok t.tag Universal 4 ok refl) p
  row_whole row.BitString good t levels v s ok p = string_whole OfBits whole_bits has_zero_bits (tag_or t.tag Universal 3) levels v s (tag_ok t.tag Universal 3 ok refl) p
  row_whole row.ObjectId good t levels v s ok p = primitive_whole (tag_or t.tag Universal 6) levels (ObjectIdIs v) s (tag_ok t.tag Universal 6 ok refl) p
  row_whole (row.Text kind) good t levels v s ok p = string_whole OfOctets (whole_text kind) always (tag_or t.tag Universal (text_number kind)) levels v s (tag_ok t.tag Universal (text_number kind) ok (text_tag kind)) p
  row_whole (row.Sequence ps) good t levels v s ok p = constructed_whole (tag_or t.tag Universal 16) levels (SequenceIs rel true ps v) s (tag_ok t.tag Universal 16 ok refl) p
  row_whole (row.Set ps) good t levels v s ok p = constructed_whole (tag_or t.tag Universal 17) levels (SetIs rel ps true v) s (tag_ok t.tag Universal 17 ok refl) p
  row_whole (row.SequenceOf of) good t levels v s ok p = constructed_whole (tag_or t.tag Universal 16) levels (ListIs (rel of.0) true v) s (tag_ok t.tag Universal 16 ok refl) p
  row_whole (row.SetOf of) good t levels v s ok p = constructed_whole (tag_or t.tag Universal 17) levels (SetOfIs (spell of.0) (rel of.0) true v) s (tag_ok t.tag Universal 17 ok refl) p
  row_whole (row.Choice ps) good t levels v s ok p = explicit_whole (ChoiceIs rel ps) (chosen_whole ps) t.tag levels v s ok p
  row_whole (row.Tagged class number true of) good t levels v s ok p =
      constructed_whole (tag_or t.tag class number) levels (λ l contents. rel of.0 (bare t.default) true l v contents) s (tag_ok t.tag class number ok good) p
  row_whole (row.Tagged class number false of) good t levels v s ok p = (each of.0).is (under (Some (tag_or t.tag class number)) t.default) levels v s (tag_ok t.tag class number ok good) p
  row_whole row.Any good t levels v s ok p = explicit_whole (λ strict. AnyIs) any_whole t.tag levels v s ok p

module _ (rows : List TypeRow) (sound : AreSoundRows rows) where
  all_whole : (turns n : ℕ) → AreWhole (SpelledBy rows turns n)
  all_whole zero n = record { is = λ t levels v s ok p. absurd p }
  all_whole (suc turns) n = record { is = by_row (slice_get rows n) refl (λ m. all_whole turns m) }
    where
      by_row : (o : Option TypeRow) → slice_get rows n ≡ o → ((m : ℕ) → AreWhole (SpelledBy rows turns m)) → (t : Guise) (levels : ℕ) (v : Value) (s : List ℕ) → OkTag t.tag → RowOr (RowIs (written rows) (SpelledBy rows turns)) o t true levels v s → IsWhole 32 s
      by_row None g h t levels v s ok p = absurd p
      by_row (Some r) g h t levels v s ok p = row_whole (written rows) (SpelledBy rows turns) h r (sound_row rows sound n r g).range t levels v s ok p

  -- what DER spells is one whole value
  pub der_whole : (n limit : ℕ) (v : Value) (s : List ℕ) → Spells rows n true limit v s → IsWhole 32 s
  der_whole n limit v s p = (all_whole (length rows) n).is plain 32 v s tt p.by

  pub der_is_whole : (n limit : ℕ) (v : Value) (s : List ℕ) → Spells rows n true limit v s → is_whole s ≡ true
  der_is_whole n limit v s p = is_whole_of s (der_whole n limit v s p)

  -- and so is what is written of a value that fits
  pub written_whole : (n : ℕ) (v : Value) → has_form rows n v ≡ true → length (written rows n v) < 2 ^ 64 → is_whole (written rows n v) ≡ true
  written_whole n v e lt =
      let size : ℕ = length (written rows n v) in
      der_is_whole n size v (written rows n v) (written_spelled whole_is rows sound n v e true size lt (omega arith))
