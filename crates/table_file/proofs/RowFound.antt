-- Rows of types, items and parts: what is read was written so.
use Rattle.std.proofs.Common.{◌≡◌, ℕ, zero, suc, ◌+◌, ◌^◌, ◌≤◌, ◌<◌, Bool, true, false, cond, List, [], ◌∷◌, ◌++◌, length, Option, Some, None, Ok, refl, sym, ap, ◌∙◌, subst, arith}
use Rattle.std.specs.Prelude.{ℤ, pos, negsuc, option_map, nat_lt, nat_le, if◌then◌else◌}
use Rattle.std.proofs.lemmas.Bool.{ltb-true, leb-true}
use Rattle.asn1_types.specs.declared.row.Item.{Item}
use Rattle.asn1_types.specs.declared.row.Part.{Part}
use Rattle.asn1_types.specs.declared.row.TypeId.{TypeId}
use Rattle.asn1_types.specs.declared.row.Class.{Class}
use Rattle.asn1_types.specs.declared.row.Class.TheVariants.{Universal, Application, Context, Private}
use Rattle.asn1_types.specs.declared.row.TextKind.{TextKind}
use Rattle.asn1_types.specs.declared.row.TextKind.TheVariants.{Utf8, Ia5, Visible, Printable, Numeric}
use Rattle.asn1_types.specs.declared.row.TypeRow.{TypeRow}
use Rattle.asn1_types.specs.declared.row.TypeRow.TheVariants as rows
use Rattle.asn1_types.specs.declared.refusal.RowRefusal.{RowRefusal}
use Rattle.asn1_types.specs.Rows.{class_number}
use Rattle.asn1_types.specs.Table.{refusal}
use Rattle.notation_tokens.specs.Words.{is_name_of_value}
use Rattle.osi_base.specs.Octets.{AreOctets}
use Rattle.packed_codec.specs.Writing.{counted}
use Rattle.packed_codec.specs.Reading.{Spot}
use Rattle.table_file.specs.declared.row_parts.Version.{Version}
use Rattle.table_file.specs.declared.row_parts.Version.TheVariants as versions
use Rattle.table_file.specs.declared.rows.Made.{Made}
use Rattle.table_file.specs.declared.rows.Made.TheVariants as makes
use Rattle.table_file.specs.Reading.{Reading, ◌>>=◌}
use Rattle.table_file.specs.Fields.{octet_at, truth_at, text_at, integer_at}
use Rattle.table_file.specs.RowParts.{number_32, name_at, id_of, row_number_at, list_at, item_of, item_at, default_if, default_at, part_of, part_at, index_of, index_at}
use Rattle.asn1_types.specs.Numbered.{kind_numbered, class_numbered}
use Rattle.table_file.specs.Rows.{range_at, most_at, kind_at, tag_of, tagged_at, enumerated_at, sequence_of_at, set_of_at, of_parts_at, made_row, row_behind, row_at, unless_refused, added, adds}
use Rattle.table_file.specs.Files.{integer_file, number_file, truth_file, maybe_file, list_file, kind_number, item_file, default_file, part_file, row_file}
use Rattle.table_file.specs.Sound.{Each, IsNamed, IsShortNumber, IsItem, IsDefault, IsPart, HasRowForm, IsRow, items_in_row, IsPlace}
use Rattle.table_file.proofs.Spots.{Went, went_then, went_as, went_octets, bind_ok, done, ok_is}
use Rattle.table_file.proofs.FieldLaws.{octet_found, truth_found, text_found, integer_found}
use Rattle.table_file.proofs.ListLaws.{StepFound, list_found}

-- ---- what a step ends with

some_is : {X : Type 0} (a b : X) → Some a ≡ Some b → a ≡ b
some_is a b e = cc

-- a reading that ends in `Ok (a, m)`
pub ends_as : {X : Type 0} (a b : X) (m t : Spot) → done {A = X × Spot} (a, m) ≡ Ok (b, t) → (a ≡ b) × (m ≡ t)
ends_as {X} a b m t e = let same = ok_is {A = X × Spot} (a, m) (b, t) e in (ap (λ (y : X × Spot). y.0) same, ap (λ (y : X × Spot). y.1) same)

-- ---- numbers and names

number_32_is : (z : ℤ) (n : ℕ) → number_32 z ≡ Some n → IsShortNumber n × (z ≡ pos n)
number_32_is (pos k) n e = by (nat_le k 4294967295) refl e
  where
    by : (b : Bool) → nat_le k 4294967295 ≡ b → cond b (Some k) None ≡ Some n → IsShortNumber n × (pos k ≡ pos n)
    by true t h = let is = some_is k n h in (subst (λ (y : ℕ). y ≤ 4294967295) is (leb-true k 4294967295 t), ap pos is)
    by false t h = absurd cc
number_32_is (negsuc k) n e = absurd cc

pub number_found : (s m : Spot) (z : ℤ) (n : ℕ) → AreOctets s.rest → integer_at s ≡ Ok (z, m) → number_32 z ≡ Some n → IsShortNumber n × Went (number_file n) 0 s m
number_found s m z n are e is =
    let f = number_32_is z n is in
    (f.0, went_as (integer_file z) (number_file n) 0 0 s m (ap integer_file f.1) refl (integer_found s m z are e).1)

pub name_found : (s t : Spot) (name : List ℕ) → AreOctets s.rest → name_at s ≡ Ok (Some name, t) → IsNamed name × Went (counted name) 0 s t
unfolding name_at
name_found s t name are e =
    let b = bind_ok (text_at s) _ (Some name, t) e in
    let f = text_found s b.0.1 b.0.0 are b.1 in
    let k = ends_as (if is_name_of_value b.0.0 then Some b.0.0 else None) (Some name) b.0.1 t b.2 in
    let n = by (is_name_of_value b.0.0) b.0.0 refl k.0 in
    let there : (length name < 2 ^ 32) × Went (counted name) 0 s t = subst (λ (y : Spot). (length name < 2 ^ 32) × Went (counted name) 0 s y) k.1 (subst (λ (y : List ℕ). (length y < 2 ^ 32) × Went (counted y) 0 s b.0.1) n.1 f) in
    ((subst (λ (y : List ℕ). is_name_of_value y ≡ true) n.1 n.0, there.0), there.1)
  where
    by : (b : Bool) (text : List ℕ) → is_name_of_value text ≡ b → cond b (Some text) None ≡ Some name → (is_name_of_value text ≡ true) × (text ≡ name)
    by true text t h = (t, some_is text name h)
    by false text t h = absurd cc

id_is : (z : ℤ) (id : TypeId) → id_of z ≡ Some id → number_32 z ≡ Some id.0
id_is z id e = by (number_32 z) e
  where
    by : (o : Option ℕ) → option_map (λ n. record { 0 = n }) o ≡ Some id → o ≡ Some id.0
    by None h = absurd cc
    by (Some n) h = let is : record { 0 = n } ≡ id = some_is {X = TypeId} (record { 0 = n }) id h in ap (λ (y : TypeId). Some y.0) is

pub row_number_found : (s t : Spot) (id : TypeId) → AreOctets s.rest → row_number_at s ≡ Ok (Some id, t) → IsShortNumber id.0 × Went (number_file id.0) 0 s t
unfolding row_number_at
row_number_found s t id are e =
    let b = bind_ok (integer_at s) _ (Some id, t) e in
    let k = ends_as (id_of b.0.0) (Some id) b.0.1 t b.2 in
    let f = number_found s b.0.1 b.0.0 id.0 are b.1 (id_is b.0.0 id k.0) in
    (f.0, subst (λ (y : Spot). Went (number_file id.0) 0 s y) k.1 f.1)

pub place_found : (count : ℕ) (n : ℕ) (s t : Spot) → AreOctets s.rest → index_at count s ≡ Ok (Some n, t) → IsPlace count n × Went (number_file n) 0 s t
unfolding index_at
place_found count n s t are e =
    let b = bind_ok (integer_at s) _ (Some n, t) e in
    let k = ends_as (index_of count (number_32 b.0.0)) (Some n) b.0.1 t b.2 in
    let is = by (number_32 b.0.0) k.0 in
    let f = number_found s b.0.1 b.0.0 n are b.1 is.0 in
    ((is.1, f.0), subst (λ (y : Spot). Went (number_file n) 0 s y) k.1 f.1)
  where
    below : (k : ℕ) (b : Bool) → nat_lt k count ≡ b → cond b (Some k) None ≡ Some n → (Some k ≡ Some n) × (n < count)
    below k true t h = let is = some_is k n h in (h, subst (λ (y : ℕ). y < count) is (ltb-true k count t))
    below k false t h = absurd cc

    by : (o : Option ℕ) → index_of count o ≡ Some n → (o ≡ Some n) × (n < count)
    by None h = absurd cc
    by (Some k) h = below k (nat_lt k count) refl h

-- ---- items and parts

pub item_found : (i : Item) (s t : Spot) → AreOctets s.rest → item_at s ≡ Ok (Some i, t) → IsItem i × Went (item_file i) 0 s t
unfolding item_at item_file
item_found i s t are e =
    let b = bind_ok (name_at s) _ (Some i, t) e in
    let d = bind_ok (integer_at b.0.1) _ (Some i, t) b.2 in
    let k = ends_as (item_of b.0.0 d.0.0) (Some i) d.0.1 t d.2 in
    let is = by b.0.0 d.0.0 k.0 in
    let f = name_found s b.0.1 i.name are (b.1 ∙ ap (λ (y : Option (List ℕ)). Ok (y, b.0.1)) is.0) in
    let g = integer_found b.0.1 d.0.1 i.number (went_octets (counted i.name) 0 s b.0.1 f.1 are) (d.1 ∙ ap (λ (y : ℤ). Ok (y, d.0.1)) is.1) in (
      record { name = f.0; number = g.0 },
      subst (λ (y : Spot). Went (counted i.name ++ integer_file i.number) 0 s y) k.1 (went_then (counted i.name) (integer_file i.number) 0 0 s b.0.1 d.0.1 f.1 g.1),
    )
  where
    by : (o : Option (List ℕ)) (z : ℤ) → item_of o z ≡ Some i → (o ≡ Some i.name) × (z ≡ i.number)
    by None z h = absurd cc
    by (Some n) z h = let is = some_is {X = Item} (record { name = n; number = z }) i h in (ap (λ (y : Item). Some y.name) is, ap (λ (y : Item). y.number) is)

default_found : (version : Version) (d : Option ℤ) (s t : Spot) → AreOctets s.rest → default_at version s ≡ Ok (d, t) → IsDefault version d × Went (default_file version d) 0 s t
unfolding default_at
default_found versions.One d s t are e =
    let k = ends_as None d s t e in
    (sym k.0, subst (λ (y : Spot). Went [] 0 s y) k.1 (record { rest = refl; left = omega arith }))
default_found versions.Two d s t are e =
    let b = bind_ok (truth_at s) default_if (d, t) e in
    let f = truth_found s b.0.1 b.0.0 b.1 in
    by b.0.0 b.0.1 f b.2
  where
    by : (there : Bool) (m : Spot) → Went (truth_file there) 0 s m → default_if (there, m) ≡ Ok (d, t) → IsDefault versions.Two d × Went (maybe_file integer_file d) 0 s t
    by false m w h =
        let k = ends_as None d m t h in
        subst (λ (y : Option ℤ). IsDefault versions.Two y × Went (maybe_file integer_file y) 0 s t) k.0 (tt, subst (λ (y : Spot). Went (0 ∷ []) 0 s y) k.1 w)
    by true m w h =
        let c = bind_ok (integer_at m) _ (d, t) h in
        let k = ends_as (Some c.0.0) d c.0.1 t c.2 in
        let g = integer_found m c.0.1 c.0.0 (went_octets (1 ∷ []) 0 s m w are) c.1 in
        subst (λ (y : Option ℤ). IsDefault versions.Two y × Went (maybe_file integer_file y) 0 s t) k.0
        (g.0, subst (λ (y : Spot). Went (1 ∷ integer_file c.0.0) 0 s y) k.1 (went_then (1 ∷ []) (integer_file c.0.0) 0 0 s m c.0.1 w g.1))

pub part_found : (version : Version) (p : Part) (s t : Spot) → AreOctets s.rest → part_at version s ≡ Ok (Some p, t) → IsPart version p × Went (part_file version p) 0 s t
unfolding part_at part_file
part_found version p s t are e =
    let b = bind_ok (name_at s) _ (Some p, t) e in
    let c = bind_ok (row_number_at b.0.1) _ (Some p, t) b.2 in
    let d = bind_ok (truth_at c.0.1) _ (Some p, t) c.2 in
    let h = bind_ok (default_at version d.0.1) _ (Some p, t) d.2 in
    let k = ends_as (part_of b.0.0 c.0.0 d.0.0 h.0.0) (Some p) h.0.1 t h.2 in
    let is = by b.0.0 c.0.0 d.0.0 h.0.0 k.0 in
    let fb = name_found s b.0.1 p.name are (b.1 ∙ ap (λ (y : Option (List ℕ)). Ok (y, b.0.1)) is.0) in
    let are_c = went_octets (counted p.name) 0 s b.0.1 fb.1 are in
    let fc = row_number_found b.0.1 c.0.1 p.inner are_c (c.1 ∙ ap (λ (y : Option TypeId). Ok (y, c.0.1)) is.1) in
    let are_d = went_octets (number_file p.inner.0) 0 b.0.1 c.0.1 fc.1 are_c in
    let fd = truth_found c.0.1 d.0.1 p.optional (d.1 ∙ ap (λ (y : Bool). Ok (y, d.0.1)) is.2) in
    let are_h = went_octets (truth_file p.optional) 0 c.0.1 d.0.1 fd are_d in
    let fh = default_found version p.default d.0.1 h.0.1 are_h (h.1 ∙ ap (λ (y : Option ℤ). Ok (y, h.0.1)) is.3) in
    let w_h = went_then (truth_file p.optional) (default_file version p.default) 0 0 c.0.1 d.0.1 h.0.1 fd fh.1 in
    let w_c = went_then (number_file p.inner.0) _ 0 0 b.0.1 c.0.1 h.0.1 fc.1 w_h in
    let w = went_then (counted p.name) _ 0 0 s b.0.1 h.0.1 fb.1 w_c in
    (record { name = fb.0; inner = fc.0; default = fh.0 }, subst (λ (y : Spot). Went (counted p.name ++ (number_file p.inner.0 ++ (truth_file p.optional ++ default_file version p.default))) 0 s y) k.1 w)
  where
    by : (n : Option (List ℕ)) (i : Option TypeId) (o : Bool) (d : Option ℤ) → part_of n i o d ≡ Some p → (n ≡ Some p.name) × (i ≡ Some p.inner) × (o ≡ p.optional) × (d ≡ p.default)
    by None i o d h = absurd cc
    by (Some n) None o d h = absurd cc
    by (Some n) (Some i) o d h =
        let is = some_is {X = Part} (record { name = n; inner = i; optional = o; default = d }) p h in
        (ap (λ (y : Part). Some y.name) is, ap (λ (y : Part). Some y.inner) is, ap (λ (y : Part). y.optional) is, ap (λ (y : Part). y.default) is)

-- ---- rows

-- a row was read behind the octet that tells which
pub record RowWent (version : Version) (o : ℕ) (row : TypeRow) (s t : Spot) : Type 0 where
  pub form : HasRowForm version row
  pub text : List ℕ
  pub is : row_file version row ≡ o ∷ text
  pub went : Went text (items_in_row row) s t

row_went : (version : Version) (o : ℕ) (made row : TypeRow) (text : List ℕ) (s m t : Spot) → done {A = Option TypeRow × Spot} (Some made, m) ≡ Ok (Some row, t) → HasRowForm version made
    → row_file version made ≡ o ∷ text → Went text (items_in_row made) s m → RowWent version o row s t
row_went version o made row text s m t e form is w =
    let k = ends_as (Some made) (Some row) m t e in
    subst (λ (y : TypeRow). RowWent version o y s t) (some_is made row k.0)
    (subst (λ (y : Spot). RowWent version o made s y) k.1 (record { form = form; text = text; is = is; went = w }))

nothing_went : (s : Spot) → Went [] 0 s s
nothing_went s = record { rest = refl; left = omega arith }

range_found : (version : Version) (row : TypeRow) (s t : Spot) → AreOctets s.rest → range_at s ≡ Ok (Some row, t) → RowWent version 1 row s t
unfolding range_at row_file
range_found version row s t are e =
    let b = bind_ok (integer_at s) _ (Some row, t) e in
    let f = integer_found s b.0.1 b.0.0 are b.1 in
    let d = bind_ok (integer_at b.0.1) _ (Some row, t) b.2 in
    let g = integer_found b.0.1 d.0.1 d.0.0 (went_octets (integer_file b.0.0) 0 s b.0.1 f.1 are) d.1 in
    row_went version 1 (rows.Integer b.0.0 d.0.0) row (integer_file b.0.0 ++ integer_file d.0.0) s d.0.1 t d.2 (f.0, g.0) refl
    (went_then (integer_file b.0.0) (integer_file d.0.0) 0 0 s b.0.1 d.0.1 f.1 g.1)

-- what a map gives
mapped : {X : Type 0} (f : X → TypeRow) (o : Option X) (row : TypeRow) → option_map f o ≡ Some row → (x : X) × (o ≡ Some x) × (f x ≡ row)
mapped f None row e = absurd cc
mapped f (Some x) row e = (x, refl, some_is (f x) row e)

abbrev mapped_end : {X : Type 0} → (X → TypeRow) → Option X × Spot → Reading (Option TypeRow × Spot)
mapped_end f y = Ok (option_map f y.0, y.1)

made_went : {X : Type 0} (f : X → TypeRow) (read : Reading (Option X × Spot)) (version : Version) (o : ℕ) (row : TypeRow) (s t : Spot)
    → (read >>= mapped_end f) ≡ Ok (Some row, t)
    → ((x : X) (m : Spot) → read ≡ Ok (Some x, m) → RowWent version o (f x) s m) → RowWent version o row s t
made_went {X} f read version o row s t e g =
    let b = bind_ok read (mapped_end f) (Some row, t) e in
    let k = ends_as (option_map f b.0.0) (Some row) b.0.1 t b.2 in
    let m = mapped f b.0.0 row k.0 in
    let w = g m.0 b.0.1 (b.1 ∙ ap (λ (y : Option X). Ok (y, b.0.1)) m.1) in
    subst (λ (y : Spot). RowWent version o row s y) k.1 (subst (λ (y : TypeRow). RowWent version o y s b.0.1) m.2 w)

most_found : (version : Version) (row : TypeRow) (s t : Spot) → AreOctets s.rest → most_at s ≡ Ok (Some row, t) → RowWent version 4 row s t
unfolding most_at row_file
most_found version row s t are e =
    let b = bind_ok (integer_at s) _ (Some row, t) e in
    let k = ends_as (option_map rows.OctetString (number_32 b.0.0)) (Some row) b.0.1 t b.2 in
    let m = mapped rows.OctetString (number_32 b.0.0) row k.0 in
    let f = number_found s b.0.1 b.0.0 m.0 are b.1 m.1 in
    subst (λ (y : Spot). RowWent version 4 row s y) k.1 (subst (λ (y : TypeRow). RowWent version 4 y s b.0.1) m.2 (record { form = f.0; text = number_file m.0; is = refl; went = f.1 }))

kind_is : (z : ℤ) (kind : TextKind) → kind_numbered z ≡ Some kind → z ≡ pos (kind_number kind)
kind_is (pos zero) kind e = by kind (some_is Utf8 kind e)
  where
    by : (kind : TextKind) → Utf8 ≡ kind → pos zero ≡ pos (kind_number kind)
    by kind h = ap (λ (y : TextKind). pos (kind_number y)) h
kind_is (pos (suc zero)) kind e = ap (λ (y : TextKind). pos (kind_number y)) (some_is Ia5 kind e)
kind_is (pos (suc (suc zero))) kind e = ap (λ (y : TextKind). pos (kind_number y)) (some_is Visible kind e)
kind_is (pos (suc (suc (suc zero)))) kind e = ap (λ (y : TextKind). pos (kind_number y)) (some_is Printable kind e)
kind_is (pos (suc (suc (suc (suc zero))))) kind e = ap (λ (y : TextKind). pos (kind_number y)) (some_is Numeric kind e)
kind_is (pos (suc (suc (suc (suc (suc n)))))) kind e = absurd cc
kind_is (negsuc n) kind e = absurd cc

kind_found : (version : Version) (row : TypeRow) (s t : Spot) → AreOctets s.rest → kind_at s ≡ Ok (Some row, t) → RowWent version 7 row s t
unfolding kind_at row_file
kind_found version row s t are e =
    let b = bind_ok (integer_at s) _ (Some row, t) e in
    let k = ends_as (option_map rows.Text (kind_numbered b.0.0)) (Some row) b.0.1 t b.2 in
    let m = mapped rows.Text (kind_numbered b.0.0) row k.0 in
    let w = went_as (integer_file b.0.0) (number_file (kind_number m.0)) 0 0 s b.0.1 (ap integer_file (kind_is b.0.0 m.0 m.1)) refl (integer_found s b.0.1 b.0.0 are b.1).1 in
    subst (λ (y : Spot). RowWent version 7 row s y) k.1 (subst (λ (y : TypeRow). RowWent version 7 y s b.0.1) m.2 (record { form = tt; text = number_file (kind_number m.0); is = refl; went = w }))

class_is : (z : ℤ) (class : Class) → class_numbered z ≡ Some class → z ≡ pos (class_number class)
class_is (pos zero) class e = ap (λ (y : Class). pos (class_number y)) (some_is Universal class e)
class_is (pos (suc zero)) class e = ap (λ (y : Class). pos (class_number y)) (some_is Application class e)
class_is (pos (suc (suc zero))) class e = ap (λ (y : Class). pos (class_number y)) (some_is Context class e)
class_is (pos (suc (suc (suc zero)))) class e = ap (λ (y : Class). pos (class_number y)) (some_is Private class e)
class_is (pos (suc (suc (suc (suc n))))) class e = absurd cc
class_is (negsuc n) class e = absurd cc

tag_is : (class : Option Class) (number : Option ℕ) (explicit : Bool) (inner : Option TypeId) (row : TypeRow) → tag_of class number explicit inner ≡ Some row
    → (c : Class) × (n : ℕ) × (i : TypeId) × (class ≡ Some c) × (number ≡ Some n) × (inner ≡ Some i) × (rows.Tagged c n explicit i ≡ row)
tag_is None number explicit inner row e = absurd cc
tag_is (Some c) None explicit inner row e = absurd cc
tag_is (Some c) (Some n) explicit None row e = absurd cc
tag_is (Some c) (Some n) explicit (Some i) row e = (c, n, i, refl, refl, refl, some_is (rows.Tagged c n explicit i) row e)

tagged_found : (version : Version) (row : TypeRow) (s t : Spot) → AreOctets s.rest → tagged_at s ≡ Ok (Some row, t) → RowWent version 12 row s t
unfolding tagged_at row_file
tagged_found version row s t are e =
    let b = bind_ok (integer_at s) _ (Some row, t) e in
    let fb = integer_found s b.0.1 b.0.0 are b.1 in
    let are_c = went_octets (integer_file b.0.0) 0 s b.0.1 fb.1 are in
    let c = bind_ok (integer_at b.0.1) _ (Some row, t) b.2 in
    let fc = integer_found b.0.1 c.0.1 c.0.0 are_c c.1 in
    let are_d = went_octets (integer_file c.0.0) 0 b.0.1 c.0.1 fc.1 are_c in
    let d = bind_ok (truth_at c.0.1) _ (Some row, t) c.2 in
    let fd = truth_found c.0.1 d.0.1 d.0.0 d.1 in
    let are_h = went_octets (truth_file d.0.0) 0 c.0.1 d.0.1 fd are_d in
    let h = bind_ok (row_number_at d.0.1) _ (Some row, t) d.2 in
    let k = ends_as (tag_of (class_numbered b.0.0) (number_32 c.0.0) d.0.0 h.0.0) (Some row) h.0.1 t h.2 in
    let is = tag_is (class_numbered b.0.0) (number_32 c.0.0) d.0.0 h.0.0 row k.0 in
    let wb = went_as (integer_file b.0.0) (number_file (class_number is.0)) 0 0 s b.0.1 (ap integer_file (class_is b.0.0 is.0 is.3)) refl fb.1 in
    let wc = number_found b.0.1 c.0.1 c.0.0 is.1 are_c c.1 is.4 in
    let wh = row_number_found d.0.1 h.0.1 is.2 are_h (h.1 ∙ ap (λ (y : Option TypeId). Ok (y, h.0.1)) is.5) in
    let w3 = went_then (truth_file d.0.0) (number_file is.2.0) 0 0 c.0.1 d.0.1 h.0.1 fd wh.1 in
    let w2 = went_then (number_file is.1) _ 0 0 b.0.1 c.0.1 h.0.1 wc.1 w3 in
    let w1 = went_then (number_file (class_number is.0)) _ 0 0 s b.0.1 h.0.1 wb w2 in
    subst (λ (y : Spot). RowWent version 12 row s y) k.1 (subst (λ (y : TypeRow). RowWent version 12 y s h.0.1) is.6
    (record { form = (wc.0, wh.0); text = number_file (class_number is.0) ++ (number_file is.1 ++ (truth_file d.0.0 ++ number_file is.2.0)); is = refl; went = w1 }))

items_found : (version : Version) (row : TypeRow) (s t : Spot) → AreOctets s.rest → enumerated_at s ≡ Ok (Some row, t) → RowWent version 2 row s t
unfolding enumerated_at row_file
items_found version row s t are e =
    made_went rows.Enumerated (list_at item_at s) version 2 row s t e
    (λ xs m h. let f = list_found item_at item_file IsItem item_found xs s m are h in record { form = f.0; text = list_file item_file xs; is = refl; went = f.1 })

sequence_of_found : (version : Version) (row : TypeRow) (s t : Spot) → AreOctets s.rest → sequence_of_at s ≡ Ok (Some row, t) → RowWent version 10 row s t
unfolding sequence_of_at row_file
sequence_of_found version row s t are e =
    made_went rows.SequenceOf (row_number_at s) version 10 row s t e
    (λ i m h. let f = row_number_found s m i are h in record { form = f.0; text = number_file i.0; is = refl; went = f.1 })

set_of_found : (version : Version) (place : ℕ) (row : TypeRow) (s t : Spot) → AreOctets s.rest → set_of_at version place s ≡ Ok (Some row, t) → RowWent version 13 row s t
unfolding set_of_at row_file
set_of_found versions.One place row s t are e = absurd cc
set_of_found versions.Two place row s t are e =
    made_went rows.SetOf (row_number_at s) versions.Two 13 row s t e
    (λ i m h. let f = row_number_found s m i are h in record { form = f.0; text = number_file i.0; is = refl; went = f.1 })

abbrev which_made : Made → ℕ
which_made makes.Sequence = 8
which_made makes.Set = 9
which_made makes.Choice = 11

parts_went : (version : Version) (made : Made) (ps : List Part) (s t : Spot) → Each (IsPart version) ps → Went (list_file (part_file version) ps) (length ps) s t → RowWent version (which_made made) (made_row made ps) s t
unfolding row_file
parts_went version makes.Sequence ps s t h w = record { form = h; text = list_file (part_file version) ps; is = refl; went = w }
parts_went version makes.Set ps s t h w = record { form = h; text = list_file (part_file version) ps; is = refl; went = w }
parts_went version makes.Choice ps s t h w = record { form = h; text = list_file (part_file version) ps; is = refl; went = w }

parts_found : (version : Version) (made : Made) (row : TypeRow) (s t : Spot) → AreOctets s.rest → of_parts_at version (made_row made) s ≡ Ok (Some row, t) → RowWent version (which_made made) row s t
unfolding of_parts_at
parts_found version made row s t are e =
    made_went (made_row made) (list_at (part_at version) s) version (which_made made) row s t e
    (λ xs m h. let f = list_found (part_at version) (part_file version) (IsPart version) (part_found version) xs s m are h in parts_went version made xs s m f.0 f.1)

bare_found : (version : Version) (o : ℕ) (made row : TypeRow) (s t : Spot) → HasRowForm version made → row_file version made ≡ o ∷ [] → items_in_row made ≡ 0
    → done {A = Option TypeRow × Spot} (Some made, s) ≡ Ok (Some row, t) → RowWent version o row s t
bare_found version o made row s t form is none e = row_went version o made row [] s s t e form is (went_as [] [] 0 (items_in_row made) s s refl (sym none) (nothing_went s))

behind_found : (version : Version) (place o : ℕ) (row : TypeRow) (s t : Spot) → AreOctets s.rest → row_behind version place o s ≡ Ok (Some row, t) → RowWent version o row s t
unfolding row_file
behind_found version place zero row s t are e = bare_found version 0 rows.Boolean row s t tt refl refl e
behind_found version place (suc zero) row s t are e = range_found version row s t are e
behind_found version place (suc (suc zero)) row s t are e = items_found version row s t are e
behind_found version place (suc (suc (suc zero))) row s t are e = bare_found version 3 rows.Null row s t tt refl refl e
behind_found version place (suc (suc (suc (suc zero)))) row s t are e = most_found version row s t are e
behind_found version place (suc (suc (suc (suc (suc zero))))) row s t are e = bare_found version 5 rows.BitString row s t tt refl refl e
behind_found version place (suc (suc (suc (suc (suc (suc zero)))))) row s t are e = bare_found version 6 rows.ObjectId row s t tt refl refl e
behind_found version place (suc (suc (suc (suc (suc (suc (suc zero))))))) row s t are e = kind_found version row s t are e
behind_found version place (suc (suc (suc (suc (suc (suc (suc (suc zero)))))))) row s t are e = parts_found version makes.Sequence row s t are e
behind_found version place (suc (suc (suc (suc (suc (suc (suc (suc (suc zero))))))))) row s t are e = parts_found version makes.Set row s t are e
behind_found version place (suc (suc (suc (suc (suc (suc (suc (suc (suc (suc zero)))))))))) row s t are e = sequence_of_found version row s t are e
behind_found version place (suc (suc (suc (suc (suc (suc (suc (suc (suc (suc (suc zero))))))))))) row s t are e = parts_found version makes.Choice row s t are e
behind_found version place (suc (suc (suc (suc (suc (suc (suc (suc (suc (suc (suc (suc zero)))))))))))) row s t are e = tagged_found version row s t are e
behind_found version place (suc (suc (suc (suc (suc (suc (suc (suc (suc (suc (suc (suc (suc zero))))))))))))) row s t are e = set_of_found version place row s t are e
behind_found version place (suc (suc (suc (suc (suc (suc (suc (suc (suc (suc (suc (suc (suc (suc n)))))))))))))) row s t are e = absurd cc

pub row_found : (version : Version) (row : TypeRow) (s t : Spot) → AreOctets s.rest → row_at version s ≡ Ok (Some row, t) → HasRowForm version row × Went (row_file version row) (items_in_row row) s t
unfolding row_at
row_found version row s t are e =
    let b = bind_ok (octet_at s) _ (Some row, t) e in
    let w = octet_found s b.0.1 b.0.0 b.1 in
    let f = behind_found version s.place b.0.0 row b.0.1 t (went_octets (b.0.0 ∷ []) 0 s b.0.1 w are) b.2 in
    (f.form, went_as (b.0.0 ∷ f.text) (row_file version row) (0 + items_in_row row) (items_in_row row) s t (sym f.is) (omega arith) (went_then (b.0.0 ∷ []) f.text 0 (items_in_row row) s b.0.1 t w f.went))

added_is : (place : ℕ) (before all : List TypeRow) (o : Option TypeRow) → added place before o ≡ Ok all → (row : TypeRow) × (o ≡ Some row) × (refusal before row ≡ None) × (before ++ row ∷ [] ≡ all)
added_is place before all None e = absurd cc
added_is place before all (Some row) e = let f = by (refusal before row) refl e in (row, refl, f.0, f.1)
  where
    by : (r : Option RowRefusal) → refusal before row ≡ r → unless_refused place (before ++ row ∷ []) r ≡ Ok all → (refusal before row ≡ None) × (before ++ row ∷ [] ≡ all)
    by None h e = (h, ok_is (before ++ row ∷ []) all e)
    by (Some r) h e = absurd cc

pub rows_found : (version : Version) → StepFound (adds version) (λ x. x) (row_file version) items_in_row (IsRow version)
unfolding adds
rows_found version before ys s t are e =
    let b = bind_ok (row_at version s) _ (ys, t) e in
    let d = bind_ok (added s.place before b.0.0) _ (ys, t) b.2 in
    let k = ends_as d.0 ys b.0.1 t d.2 in
    let a = added_is s.place before d.0 b.0.0 d.1 in
    let f = row_found version a.0 s b.0.1 are (b.1 ∙ ap (λ (y : Option TypeRow). Ok (y, b.0.1)) a.1) in
    record {
      one = a.0;
      joined_to = sym (a.3 ∙ k.0);
      stands = record { form = f.0; sound = a.2 };
      went = subst (λ (y : Spot). Went (row_file version a.0) (items_in_row a.0) s y) k.1 f.1;
    }
