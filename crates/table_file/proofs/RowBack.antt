-- Rows of types, items and parts: what is written comes back.
use Rattle.std.proofs.Common.{◌≡◌, ℕ, ◌+◌, ◌≤◌, Bool, true, false, List, [], ◌∷◌, ◌++◌, length, Option, Some, None, Ok, refl, sym, ap, ◌∙◌, append_assoc, arith}
use Rattle.std.specs.Prelude.{ℤ, pos, nat_lt}
use Rattle.std.proofs.lemmas.Bool.{le-ltb, lt-ltb, le-leb}
use Rattle.asn1_types.specs.declared.row.Item.{Item}
use Rattle.asn1_types.specs.declared.row.Part.{Part}
use Rattle.asn1_types.specs.declared.row.TypeId.{TypeId}
use Rattle.asn1_types.specs.declared.row.Class.{Class}
use Rattle.asn1_types.specs.declared.row.Class.TheVariants.{Universal, Application, Context, Private}
use Rattle.asn1_types.specs.declared.row.TextKind.{TextKind}
use Rattle.asn1_types.specs.declared.row.TextKind.TheVariants.{Utf8, Ia5, Visible, Printable, Numeric}
use Rattle.asn1_types.specs.declared.row.TypeRow.{TypeRow}
use Rattle.asn1_types.specs.declared.row.TypeRow.TheVariants as rows
use Rattle.asn1_types.specs.Rows.{class_number}
use Rattle.packed_codec.specs.Writing.{counted}
use Rattle.table_file.specs.declared.row_parts.Version.{Version}
use Rattle.table_file.specs.declared.row_parts.Version.TheVariants as versions
use Rattle.table_file.specs.declared.rows.Made.{Made}
use Rattle.table_file.specs.declared.rows.Made.TheVariants as makes
use Rattle.table_file.specs.Fields.{octet_at, truth_at, text_at, integer_at}
use Rattle.table_file.specs.RowParts.{number_32, name_at, row_number_at, list_at, item_at, default_if, default_at, part_at, index_at}
use Rattle.asn1_types.specs.Numbered.{kind_numbered, class_numbered}
use Rattle.table_file.specs.Rows.{range_at, most_at, kind_at, tagged_at, enumerated_at, sequence_of_at, set_of_at, of_parts_at, made_row, row_behind, row_at, adds}
use Rattle.table_file.specs.Files.{integer_file, number_file, truth_file, list_file, kind_number, item_file, default_file, part_file, row_file}
use Rattle.table_file.specs.Sound.{Each, IsNamed, IsNumber, IsShortNumber, IsItem, IsDefault, IsPart, HasRowForm, IsRow, items_in_row, IsPlace}
use Rattle.table_file.proofs.Spots.{at, Comes, comes_here, then_comes, comes_from, comes_apart}
use Rattle.table_file.proofs.FieldLaws.{octet_back, truth_back, text_back, integer_back}
use Rattle.table_file.proofs.ListLaws.{StepBack, list_back}
use Rattle.table_file.proofs.Names.{name_is_text}

-- ---- numbers and names

pub short_number : (n : ℕ) → IsShortNumber n → IsNumber (pos n)
short_number n h = let le : nat_lt 9223372036854775807 n ≡ false = le-ltb 9223372036854775807 n (omega arith) in grind (arith, le)

pub short_comes : (n : ℕ) → IsShortNumber n → number_32 (pos n) ≡ Some n
short_comes n h = rw (le-leb n 4294967295 h) refl

pub number_back : (n : ℕ) (more : List ℕ) (p l : ℕ) → IsShortNumber n → Comes (integer_at (at p (number_file n ++ more) l)) (pos n) more l
number_back n more p l h = integer_back (pos n) more p l (short_number n h)

pub name_back : (name more : List ℕ) (p l : ℕ) → IsNamed name → Comes (name_at (at p (counted name ++ more) l)) (Some name) more l
unfolding name_at
name_back name more p l h =
    then_comes (text_at (at p (counted name ++ more) l)) _ name (Some name) more more l l (text_back name more p l (name_is_text name h.0) h.1)
    (λ q. record { place = q; is = rw h.0 refl })

pub row_number_back : (id : TypeId) (more : List ℕ) (p l : ℕ) → IsShortNumber id.0 → Comes (row_number_at (at p (number_file id.0 ++ more) l)) (Some id) more l
unfolding row_number_at
row_number_back id more p l h =
    then_comes (integer_at (at p (number_file id.0 ++ more) l)) _ (pos id.0) (Some id) more more l l (number_back id.0 more p l h)
    (λ q. record { place = q; is = rw (short_comes id.0 h) refl })

pub place_back : (count n : ℕ) (more : List ℕ) (p l : ℕ) → IsPlace count n → Comes (index_at count (at p (number_file n ++ more) l)) (Some n) more l
unfolding index_at
place_back count n more p l h =
    then_comes (integer_at (at p (number_file n ++ more) l)) _ (pos n) (Some n) more more l l (number_back n more p l h.1)
    (λ q. record { place = q; is = rw (short_comes n h.1, lt-ltb n count h.0) refl })

-- ---- items and parts

pub item_back : (i : Item) (p l : ℕ) (more : List ℕ) → IsItem i → Comes (item_at (at p (item_file i ++ more) l)) (Some i) more l
unfolding item_at item_file
item_back i p l more h =
    comes_apart item_at (Some i) p (counted i.name) (integer_file i.number) more l l
    (then_comes (name_at (at p (counted i.name ++ (integer_file i.number ++ more)) l)) _ (Some i.name) (Some i) (integer_file i.number ++ more) more l l
    (name_back i.name (integer_file i.number ++ more) p l h.name)
    (λ q. then_comes (integer_at (at q (integer_file i.number ++ more) l)) _ i.number (Some i) more more l l (integer_back i.number more q l h.number)
    (λ r. comes_here (Some i) r l more)))

default_back : (version : Version) (d : Option ℤ) (more : List ℕ) (p l : ℕ) → IsDefault version d → Comes (default_at version (at p (default_file version d ++ more) l)) d more l
unfolding default_at
default_back versions.One d more p l h = record { place = p; is = ap (λ (y : Option ℤ). Ok (y, at p more l)) (sym h) }
default_back versions.Two None more p l h = then_comes (truth_at (at p (0 ∷ more) l)) default_if false None more more l l (truth_back false more p l) (λ q. comes_here None q l more)
default_back versions.Two (Some z) more p l h =
    then_comes (truth_at (at p (1 ∷ (integer_file z ++ more)) l)) default_if true (Some z) (integer_file z ++ more) more l l (truth_back true (integer_file z ++ more) p l)
    (λ q. then_comes (integer_at (at q (integer_file z ++ more) l)) _ z (Some z) more more l l (integer_back z more q l h) (λ r. comes_here (Some z) r l more))

in_four : (a b c d more : List ℕ) → (a ++ (b ++ (c ++ d))) ++ more ≡ a ++ (b ++ (c ++ (d ++ more)))
in_four a b c d more =
    append_assoc a (b ++ (c ++ d)) more
    ∙ ap (λ (y : List ℕ). a ++ y) (append_assoc b (c ++ d) more ∙ ap (λ (y : List ℕ). b ++ y) (append_assoc c d more))

pub part_back : (version : Version) (t : Part) (p l : ℕ) (more : List ℕ) → IsPart version t → Comes (part_at version (at p (part_file version t ++ more) l)) (Some t) more l
unfolding part_at part_file
part_back version t p l more h =
    let d : List ℕ = default_file version t.default ++ more in
    let b : List ℕ = truth_file t.optional ++ d in
    let a : List ℕ = number_file t.inner.0 ++ b in
    comes_from (part_at version) (Some t) p
    ((counted t.name ++ (number_file t.inner.0 ++ (truth_file t.optional ++ default_file version t.default))) ++ more) (counted t.name ++ a) more l l l
    (in_four (counted t.name) (number_file t.inner.0) (truth_file t.optional) (default_file version t.default) more) refl
    (then_comes (name_at (at p (counted t.name ++ a) l)) _ (Some t.name) (Some t) a more l l (name_back t.name a p l h.name)
    (λ q. then_comes (row_number_at (at q a l)) _ (Some t.inner) (Some t) b more l l (row_number_back t.inner b q l h.inner)
    (λ r. then_comes (truth_at (at r b l)) _ t.optional (Some t) d more l l (truth_back t.optional d r l)
    (λ u. then_comes (default_at version (at u d l)) _ t.default (Some t) more more l l (default_back version t.default more u l h.default)
    (λ v. comes_here (Some t) v l more)))))

-- ---- rows

kind_comes : (kind : TextKind) → kind_numbered (pos (kind_number kind)) ≡ Some kind
kind_comes Utf8 = refl
kind_comes Ia5 = refl
kind_comes Visible = refl
kind_comes Printable = refl
kind_comes Numeric = refl

kind_short : (kind : TextKind) → IsShortNumber (kind_number kind)
kind_short Utf8 = omega arith
kind_short Ia5 = omega arith
kind_short Visible = omega arith
kind_short Printable = omega arith
kind_short Numeric = omega arith

class_comes : (class : Class) → class_numbered (pos (class_number class)) ≡ Some class
class_comes Universal = refl
class_comes Application = refl
class_comes Context = refl
class_comes Private = refl

class_short : (class : Class) → IsShortNumber (class_number class)
class_short Universal = omega arith
class_short Application = omega arith
class_short Context = omega arith
class_short Private = omega arith

range_back : (low high : ℤ) (more : List ℕ) (p l : ℕ) → IsNumber low → IsNumber high → Comes (range_at (at p ((integer_file low ++ integer_file high) ++ more) l)) (Some (rows.Integer low high)) more l
unfolding range_at
range_back low high more p l g h =
    comes_apart range_at (Some (rows.Integer low high)) p (integer_file low) (integer_file high) more l l
    (then_comes (integer_at (at p (integer_file low ++ (integer_file high ++ more)) l)) _ low (Some (rows.Integer low high)) (integer_file high ++ more) more l l
    (integer_back low (integer_file high ++ more) p l g)
    (λ q. then_comes (integer_at (at q (integer_file high ++ more) l)) _ high (Some (rows.Integer low high)) more more l l (integer_back high more q l h)
    (λ r. comes_here (Some (rows.Integer low high)) r l more)))

most_back : (most : ℕ) (more : List ℕ) (p l : ℕ) → IsShortNumber most → Comes (most_at (at p (number_file most ++ more) l)) (Some (rows.OctetString most)) more l
unfolding most_at
most_back most more p l h =
    then_comes (integer_at (at p (number_file most ++ more) l)) _ (pos most) (Some (rows.OctetString most)) more more l l (number_back most more p l h)
    (λ q. record { place = q; is = rw (short_comes most h) refl })

kind_back : (kind : TextKind) (more : List ℕ) (p l : ℕ) → Comes (kind_at (at p (number_file (kind_number kind) ++ more) l)) (Some (rows.Text kind)) more l
unfolding kind_at
kind_back kind more p l =
    then_comes (integer_at (at p (number_file (kind_number kind) ++ more) l)) _ (pos (kind_number kind)) (Some (rows.Text kind)) more more l l
    (number_back (kind_number kind) more p l (kind_short kind))
    (λ q. record { place = q; is = rw (kind_comes kind) refl })

tagged_back : (class : Class) (number : ℕ) (explicit : Bool) (inner : TypeId) (more : List ℕ) (p l : ℕ) → IsShortNumber number → IsShortNumber inner.0
    → Comes (tagged_at (at p ((number_file (class_number class) ++ (number_file number ++ (truth_file explicit ++ number_file inner.0))) ++ more) l)) (Some (rows.Tagged class number explicit inner)) more l
unfolding tagged_at
tagged_back class number explicit inner more p l g h =
    let row : Option TypeRow = Some (rows.Tagged class number explicit inner) in
    let d : List ℕ = number_file inner.0 ++ more in
    let b : List ℕ = truth_file explicit ++ d in
    let a : List ℕ = number_file number ++ b in
    comes_from tagged_at row p _ (number_file (class_number class) ++ a) more l l l (in_four (number_file (class_number class)) (number_file number) (truth_file explicit) (number_file inner.0) more) refl
    (then_comes (integer_at (at p (number_file (class_number class) ++ a) l)) _ (pos (class_number class)) row a more l l (number_back (class_number class) a p l (class_short class))
    (λ q. then_comes (integer_at (at q a l)) _ (pos number) row b more l l (number_back number b q l g)
    (λ r. then_comes (truth_at (at r b l)) _ explicit row d more l l (truth_back explicit d r l)
    (λ u. then_comes (row_number_at (at u d l)) _ (Some inner) row more more l l (row_number_back inner more u l h)
    (λ v. record { place = v; is = rw (class_comes class, short_comes number g) refl })))))

parts_back : (version : Version) (made : Made) (parts : List Part) (more : List ℕ) (p l : ℕ) → Each (IsPart version) parts → length parts + l ≤ 131072
    → Comes (of_parts_at version (made_row made) (at p (list_file (part_file version) parts ++ more) (length parts + l))) (Some (made_row made parts)) more l
unfolding of_parts_at
parts_back version made parts more p l h few =
    then_comes (list_at (part_at version) (at p (list_file (part_file version) parts ++ more) (length parts + l))) _ (Some parts) (Some (made_row made parts)) more more l l
    (list_back (part_at version) (part_file version) (IsPart version) (part_back version) parts p l more h few)
    (λ q. comes_here (Some (made_row made parts)) q l more)

items_back : (items : List Item) (more : List ℕ) (p l : ℕ) → Each IsItem items → length items + l ≤ 131072
    → Comes (enumerated_at (at p (list_file item_file items ++ more) (length items + l))) (Some (rows.Enumerated items)) more l
unfolding enumerated_at
items_back items more p l h few =
    then_comes (list_at item_at (at p (list_file item_file items ++ more) (length items + l))) _ (Some items) (Some (rows.Enumerated items)) more more l l
    (list_back item_at item_file IsItem item_back items p l more h few)
    (λ q. comes_here (Some (rows.Enumerated items)) q l more)

sequence_of_back : (inner : TypeId) (more : List ℕ) (p l : ℕ) → IsShortNumber inner.0 → Comes (sequence_of_at (at p (number_file inner.0 ++ more) l)) (Some (rows.SequenceOf inner)) more l
unfolding sequence_of_at
sequence_of_back inner more p l h =
    then_comes (row_number_at (at p (number_file inner.0 ++ more) l)) _ (Some inner) (Some (rows.SequenceOf inner)) more more l l (row_number_back inner more p l h)
    (λ q. comes_here (Some (rows.SequenceOf inner)) q l more)

set_of_back : (place : ℕ) (inner : TypeId) (more : List ℕ) (p l : ℕ) → IsShortNumber inner.0 → Comes (set_of_at versions.Two place (at p (number_file inner.0 ++ more) l)) (Some (rows.SetOf inner)) more l
unfolding set_of_at
set_of_back place inner more p l h =
    then_comes (row_number_at (at p (number_file inner.0 ++ more) l)) _ (Some inner) (Some (rows.SetOf inner)) more more l l (row_number_back inner more p l h)
    (λ q. comes_here (Some (rows.SetOf inner)) q l more)

zero_and : (l : ℕ) → 0 + l ≡ l
zero_and l = omega arith

-- a row behind the octet that tells which
behind_octet : (version : Version) (o : ℕ) (row : TypeRow) (text more : List ℕ) (p l k : ℕ) → ((q : ℕ) → Comes (row_behind version p o (at q (text ++ more) l)) (Some row) more k)
    → Comes (row_at version (at p ((o ∷ text) ++ more) l)) (Some row) more k
unfolding row_at
behind_octet version o row text more p l k g =
    then_comes (octet_at (at p (o ∷ (text ++ more)) l)) _ o (Some row) (text ++ more) more l k (octet_back o (text ++ more) p l) g

pub row_back : (version : Version) (row : TypeRow) (p l : ℕ) (more : List ℕ) → HasRowForm version row → items_in_row row + l ≤ 131072
    → Comes (row_at version (at p (row_file version row ++ more) (items_in_row row + l))) (Some row) more l
unfolding row_file
row_back version rows.Boolean p l more h few = behind_octet version 0 rows.Boolean [] more p (0 + l) l (λ q. record { place = q; is = ap (λ (k : ℕ). Ok (Some rows.Boolean, at q more k)) (zero_and l) })
row_back version (rows.Integer low high) p l more h few = behind_octet version 1 (rows.Integer low high) (integer_file low ++ integer_file high) more p (0 + l) l
    (λ q. comes_from range_at (Some (rows.Integer low high)) q _ _ more (0 + l) l l refl (zero_and l) (range_back low high more q l h.0 h.1))
row_back version (rows.Enumerated items) p l more h few = behind_octet version 2 (rows.Enumerated items) (list_file item_file items) more p (length items + l) l (λ q. items_back items more q l h few)
row_back version rows.Null p l more h few = behind_octet version 3 rows.Null [] more p (0 + l) l (λ q. record { place = q; is = ap (λ (k : ℕ). Ok (Some rows.Null, at q more k)) (zero_and l) })
row_back version (rows.OctetString most) p l more h few = behind_octet version 4 (rows.OctetString most) (number_file most) more p (0 + l) l
    (λ q. comes_from most_at (Some (rows.OctetString most)) q _ _ more (0 + l) l l refl (zero_and l) (most_back most more q l h))
row_back version rows.BitString p l more h few = behind_octet version 5 rows.BitString [] more p (0 + l) l (λ q. record { place = q; is = ap (λ (k : ℕ). Ok (Some rows.BitString, at q more k)) (zero_and l) })
row_back version rows.ObjectId p l more h few = behind_octet version 6 rows.ObjectId [] more p (0 + l) l (λ q. record { place = q; is = ap (λ (k : ℕ). Ok (Some rows.ObjectId, at q more k)) (zero_and l) })
row_back version (rows.Text kind) p l more h few = behind_octet version 7 (rows.Text kind) (number_file (kind_number kind)) more p (0 + l) l
    (λ q. comes_from kind_at (Some (rows.Text kind)) q _ _ more (0 + l) l l refl (zero_and l) (kind_back kind more q l))
row_back version (rows.Sequence parts) p l more h few = behind_octet version 8 (rows.Sequence parts) (list_file (part_file version) parts) more p (length parts + l) l (λ q. parts_back version makes.Sequence parts more q l h few)
row_back version (rows.Set parts) p l more h few = behind_octet version 9 (rows.Set parts) (list_file (part_file version) parts) more p (length parts + l) l (λ q. parts_back version makes.Set parts more q l h few)
row_back version (rows.SequenceOf inner) p l more h few = behind_octet version 10 (rows.SequenceOf inner) (number_file inner.0) more p (0 + l) l
    (λ q. comes_from sequence_of_at (Some (rows.SequenceOf inner)) q _ _ more (0 + l) l l refl (zero_and l) (sequence_of_back inner more q l h))
row_back version (rows.Choice parts) p l more h few = behind_octet version 11 (rows.Choice parts) (list_file (part_file version) parts) more p (length parts + l) l (λ q. parts_back version makes.Choice parts more q l h few)
row_back version (rows.Tagged class number explicit inner) p l more h few =
    behind_octet version 12 (rows.Tagged class number explicit inner) (number_file (class_number class) ++ (number_file number ++ (truth_file explicit ++ number_file inner.0))) more p (0 + l) l
    (λ q. comes_from tagged_at (Some (rows.Tagged class number explicit inner)) q _ _ more (0 + l) l l refl (zero_and l) (tagged_back class number explicit inner more q l h.0 h.1))
row_back versions.One (rows.SetOf inner) p l more h few = absurd h
row_back versions.Two (rows.SetOf inner) p l more h few = behind_octet versions.Two 13 (rows.SetOf inner) (number_file inner.0) more p (0 + l) l
    (λ q. comes_from (set_of_at versions.Two p) (Some (rows.SetOf inner)) q _ _ more (0 + l) l l refl (zero_and l) (set_of_back p inner more q l h))
row_back version rows.Any p l more h few = absurd h

pub rows_step : (version : Version) → StepBack (adds version) (λ x. x) (row_file version) items_in_row (IsRow version)
unfolding adds
rows_step version before row p l more v few =
    then_comes (row_at version (at p (row_file version row ++ more) (items_in_row row + l))) _ (Some row) (before ++ row ∷ []) more more l l
    (row_back version row p l more v.form few)
    (λ q. record { place = q; is = rw v.sound refl })
