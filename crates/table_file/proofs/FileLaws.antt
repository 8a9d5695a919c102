-- Whole table files: those of sound tables are loaded, and what is loaded is one.
use Rattle.std.proofs.Common.{◌≡◌, ℕ, ◌+◌, ◌-◌, ◌≤◌, Bool, true, false, cond, List, [], ◌∷◌, ◌++◌, length, take, drop, Option, Ok, Err, refl, sym, ap, ◌∙◌, subst, append_assoc, arith}
use Rattle.std.specs.Prelude.{◌&&◌, ◌==◌, ℤ, nat_lt, nat_eq, if◌then◌else◌}
use Rattle.std.proofs.lemmas.Bool.{le-ltb, ltb-false, and_parts}
use Rattle.std.proofs.lemmas.Bool.Decides.{nat_tests}
use Rattle.std.proofs.lemmas.List.{append-nil}
use Rattle.asn1_types.specs.declared.row.Part.{Part}
use Rattle.asn1_types.specs.declared.row.TypeRow.{TypeRow}
use Rattle.asn1_types.specs.declared.row.TypeRow.TheVariants as rows
use Rattle.notation_tokens.specs.Words.{is_name_of_type}
use Rattle.osi_base.specs.Octets.{AreOctets}
use Rattle.osi_base.proofs.OctetLaws.{octets_right}
use Rattle.packed_codec.specs.Writing.{counted}
use Rattle.packed_codec.specs.Reading.{Spot}
use Rattle.stub_tables.specs.declared.operation.ErrorRow.{ErrorRow}
use Rattle.table_file.specs.declared.fault.Stop.TheVariants.{Cut, Bad, NoMemory}
use Rattle.table_file.specs.declared.fault.LoadFault.{LoadFault}
use Rattle.table_file.specs.declared.row_parts.Version.{Version}
use Rattle.table_file.specs.declared.row_parts.Version.TheVariants as versions
use Rattle.table_file.specs.Contents.{Contents}
use Rattle.table_file.specs.Reading.{Reading, ◌>>=◌}
use Rattle.table_file.specs.Fields.{text_at, object_id_at}
use Rattle.table_file.specs.Rows.{adds, rows_at}
use Rattle.table_file.specs.Sections.{adds_error, errors_at, adds_operation, operations_at}
use Rattle.table_file.specs.Files.{oid_file, list_file, row_file, error_file, operation_file, version_number, head_file, contents_file, file_of}
use Rattle.table_file.specs.Loading.{is_magic, version_of, version_at, module_name_at, contents_at, file_at, loaded_if, ended, load_of}
use Rattle.table_file.specs.Sound.{Along, Each, IsTitled, IsDefault, IsPart, HasRowForm, IsRow, IsError, IsOperation, items_in_row, items_in_operation, AreSound, items_in, sum_of, counted_in}
use Rattle.table_file.specs.Laws.{IsTableFile, FilesAreLoaded, LoadedAreFiles, StoredIsLoaded, MigratedIsLoaded}
use Rattle.table_file.proofs.Names.{title_is_text}
use Rattle.table_file.proofs.Spots.{at, Comes, comes_here, then_comes, comes_from, Went, went_then, went_octets, bind_ok, done, ok_is}
use Rattle.table_file.proofs.FieldLaws.{text_back, text_found, oid_back, oid_found}
use Rattle.table_file.proofs.ListLaws.{many_back, many_found}
use Rattle.table_file.proofs.RowBack.{rows_step}
use Rattle.table_file.proofs.RowFound.{ends_as, rows_found}
use Rattle.table_file.proofs.SectionLaws.{errors_step, errors_found, operations_step, operations_found}

-- ---- the value behind the head

title_back : (name more : List ℕ) (p l : ℕ) → IsTitled name → Comes (module_name_at (at p (counted name ++ more) l)) name more l
unfolding module_name_at
title_back name more p l h =
    then_comes (text_at (at p (counted name ++ more) l)) _ name name more more l l (text_back name more p l (title_is_text name h.0) h.1)
    (λ q. record { place = q; is = rw h.0 refl })

in_five : (a b c d e more : List ℕ) → (a ++ (b ++ (c ++ (d ++ e)))) ++ more ≡ a ++ (b ++ (c ++ (d ++ (e ++ more))))
in_five a b c d e more =
    append_assoc a _ more ∙ ap (λ (y : List ℕ). a ++ y)
    (append_assoc b _ more ∙ ap (λ (y : List ℕ). b ++ y)
    (append_assoc c _ more ∙ ap (λ (y : List ℕ). c ++ y)
    (append_assoc d e more)))

none_in_errors : (es : List ErrorRow) → sum_of (λ (e : ErrorRow). 0) es ≡ 0
none_in_errors [] = refl
none_in_errors (e ∷ es) = omega (arith, none_in_errors es)

contents_back : (version : Version) (c : Contents) (p l : ℕ) (more : List ℕ) → AreSound version c → items_in c + l ≤ 131072
    → Comes (contents_at version (at p (contents_file version c ++ more) (items_in c + l))) c more l
unfolding contents_at contents_file
contents_back version c p l more v few =
    let kt : ℕ = counted_in items_in_row c.types in
    let ke : ℕ = counted_in (λ (e : ErrorRow). 0) c.errors in
    let ko : ℕ = counted_in items_in_operation c.operations in
    let none = none_in_errors c.errors in
    let m : ℕ = kt + (ke + (ko + l)) in
    let t4 : List ℕ = list_file operation_file c.operations ++ more in
    let t3 : List ℕ = list_file error_file c.errors ++ t4 in
    let t2 : List ℕ = list_file (row_file version) c.types ++ t3 in
    let t1 : List ℕ = oid_file c.name_oid ++ t2 in
    comes_from (contents_at version) c p _ (counted c.name ++ t1) more (kt + (length c.errors + ko) + l) m l
    (in_five (counted c.name) (oid_file c.name_oid) (list_file (row_file version) c.types) (list_file error_file c.errors) (list_file operation_file c.operations) more) (omega (arith, none))
    (then_comes (module_name_at (at p (counted c.name ++ t1) m)) _ c.name c t1 more m l (title_back c.name t1 p m v.name)
    (λ q. then_comes (object_id_at (at q t1 m)) _ c.name_oid c t2 more m l (oid_back c.name_oid t2 q m v.name_oid)
    (λ q2. then_comes (rows_at version (at q2 t2 m)) _ c.types c t3 more (ke + (ko + l)) l
    (many_back (λ n. adds version) (λ x. x) (row_file version) items_in_row (λ n. IsRow version) c.types (rows_step version) q2 (ke + (ko + l)) t3 v.types (omega (arith, none, few)))
    (λ q3. then_comes (errors_at c.types (at q3 t3 (ke + (ko + l)))) _ c.errors c t4 more (ko + l) l
    (many_back (λ n. adds_error c.types) (λ x. x) error_file (λ e. 0) (λ n. IsError c.types) c.errors (errors_step c.types) q3 (ko + l) t4 v.errors (omega (arith, none, few)))
    (λ q4. then_comes (operations_at c.types c.errors (at q4 t4 (ko + l))) _ c.operations c more more l l
    (many_back (adds_operation c.types c.errors) (λ x. x) operation_file items_in_operation (IsOperation c.types c.errors) c.operations (operations_step c.types c.errors (length c.operations)) q4 l more v.operations (omega (arith, few)))
    (λ q5. comes_here c q5 l more))))))

title_is : (place : ℕ) (x : List ℕ × Spot) (name : List ℕ) (t : Spot) → (if is_name_of_type x.0 then Ok x else Err (Bad place)) ≡ Ok (name, t) → (is_name_of_type x.0 ≡ true) × (done x ≡ Ok (name, t))
title_is place x name t e = by (is_name_of_type x.0) refl e
  where
    by : (b : Bool) → is_name_of_type x.0 ≡ b → cond b (Ok x) (Err (Bad place)) ≡ Ok (name, t) → (is_name_of_type x.0 ≡ true) × (done x ≡ Ok (name, t))
    by true h k = (h, k)
    by false h k = absurd cc

title_found : (name : List ℕ) (s t : Spot) → AreOctets s.rest → module_name_at s ≡ Ok (name, t) → IsTitled name × Went (counted name) 0 s t
unfolding module_name_at
title_found name s t are e =
    let b = bind_ok (text_at s) _ (name, t) e in
    let f = text_found s b.0.1 b.0.0 are b.1 in
    let k = title_is s.place b.0 name t b.2 in
    let same = ok_is {A = List ℕ × Spot} b.0 (name, t) k.1 in
    subst (λ (y : List ℕ × Spot). IsTitled y.0 × Went (counted y.0) 0 s y.1) same ((k.0, f.0), f.1)

any_alive : {A : Type 0} (a b : A) → (z : A) × (a ≡ z)
any_alive a b = (a, refl)

pub record ContentsRead (version : Version) (c : Contents) (s t : Spot) : Type 0 where
  pub sound : AreSound version c
  pub went : Went (contents_file version c) (items_in c) s t

contents_found : (version : Version) (c : Contents) (s t : Spot) → AreOctets s.rest → contents_at version s ≡ Ok (c, t) → ContentsRead version c s t
unfolding contents_at contents_file
contents_found version c s t are h =
    let n = bind_ok (module_name_at s) _ (c, t) h in
    let i = bind_ok (object_id_at n.0.1) _ (c, t) n.2 in
    let r = bind_ok (rows_at version i.0.1) _ (c, t) i.2 in
    let e = bind_ok (errors_at r.0.0 r.0.1) _ (c, t) r.2 in
    let o = bind_ok (operations_at r.0.0 e.0.0 e.0.1) _ (c, t) e.2 in
    let made : Contents = record { name = n.0.0; name_oid = i.0.0; types = r.0.0; operations = o.0.0; errors = e.0.0 } in
    let k = ends_as made c o.0.1 t o.2 in
    let fn = title_found n.0.0 s n.0.1 are n.1 in
    let are_i = went_octets (counted n.0.0) 0 s n.0.1 fn.1 are in
    let fi = oid_found n.0.1 i.0.1 i.0.0 are_i i.1 in
    let are_r = went_octets (oid_file i.0.0) 0 n.0.1 i.0.1 fi.1 are_i in
    let fr = many_found (λ n. adds version) (λ x. x) (row_file version) items_in_row (λ n. IsRow version) (λ n. rows_found version) (λ n a k ys s t e. (a, refl)) (λ a b e. e) r.0.0 i.0.1 r.0.1 are_r r.1 in
    let are_e = went_octets (list_file (row_file version) r.0.0) (counted_in items_in_row r.0.0) i.0.1 r.0.1 fr.went are_r in
    let fe = many_found (λ n. adds_error r.0.0) (λ x. x) error_file (λ e. 0) (λ n. IsError r.0.0) (λ n. errors_found r.0.0) (λ n a k ys s t e. (a, refl)) (λ a b e. e) e.0.0 r.0.1 e.0.1 are_e e.1 in
    let are_o = went_octets (list_file error_file e.0.0) (counted_in (λ (e : ErrorRow). 0) e.0.0) r.0.1 e.0.1 fe.went are_e in
    let fo = many_found (adds_operation r.0.0 e.0.0) (λ x. x) operation_file items_in_operation (IsOperation r.0.0 e.0.0) (operations_found r.0.0 e.0.0) (λ n a k ys s t e. (a, refl)) (λ a b e. e) o.0.0 e.0.1 o.0.1 are_o o.1 in
    let w4 = went_then (list_file error_file e.0.0) (list_file operation_file o.0.0) _ _ r.0.1 e.0.1 o.0.1 fe.went fo.went in
    let w3 = went_then (list_file (row_file version) r.0.0) _ _ _ i.0.1 r.0.1 o.0.1 fr.went w4 in
    let w2 = went_then (oid_file i.0.0) _ 0 _ n.0.1 i.0.1 o.0.1 fi.1 w3 in
    let w1 = went_then (counted n.0.0) _ 0 _ s n.0.1 o.0.1 fn.1 w2 in
    let none = none_in_errors e.0.0 in
    let read : ContentsRead version made s o.0.1 = record {
      sound = record { name = fn.0; name_oid = fi.0; types = fr.stand; errors = fe.stand; operations = fo.stand };
      went = record { rest = w1.rest; left = omega (arith, w1.left, none) };
    } in
    subst (λ (y : Spot). ContentsRead version c s y) k.1 (subst (λ (y : Contents). ContentsRead version y s o.0.1) k.0 read)

-- ---- the file

version_back : (version : Version) (more : List ℕ) → version_at (head_file version ++ more) ≡ Ok version
unfolding version_at
version_back versions.One more = refl
version_back versions.Two more = refl

-- octets that begin as a file of this version
pub record Begins (version : Version) (bytes : List ℕ) : Type 0 where
  pub rest : List ℕ
  pub are : bytes ≡ head_file version ++ rest

same_octet : (a b : ℕ) → (a == b) ≡ true → a ≡ b
same_octet a b e = grind (arith, nat_tests)

version_found : (bytes : List ℕ) (version : Version) → version_at bytes ≡ Ok version → Begins version bytes
unfolding version_at
version_found [] version e = absurd cc
version_found (a ∷ []) version e = absurd cc
version_found (a ∷ b ∷ []) version e = absurd cc
version_found (a ∷ b ∷ c ∷ []) version e = absurd cc
version_found (a ∷ b ∷ c ∷ d ∷ []) version e = absurd cc
version_found (a ∷ b ∷ c ∷ d ∷ high ∷ []) version e = absurd cc
version_found (a ∷ b ∷ c ∷ d ∷ high ∷ low ∷ more) version e = by (is_magic a b c d) refl e
  where
    two : (x : Bool) → ((high == 0) && (low == 2)) ≡ x → cond x (Ok versions.Two) (Err (Bad 4)) ≡ Ok version → (high ≡ 0) × (low ≡ version_number version)
    two true h k =
        let p = and_parts (high == 0) (low == 2) h in
        (same_octet high 0 p.0, same_octet low 2 p.1 ∙ ap version_number (ok_is versions.Two version k))
    two false h k = absurd cc

    one : (x : Bool) → ((high == 0) && (low == 1)) ≡ x → cond x (Ok versions.One) (cond ((high == 0) && (low == 2)) (Ok versions.Two) (Err (Bad 4))) ≡ Ok version → (high ≡ 0) × (low ≡ version_number version)
    one true h k =
        let p = and_parts (high == 0) (low == 1) h in
        (same_octet high 0 p.0, same_octet low 1 p.1 ∙ ap version_number (ok_is versions.One version k))
    one false h k = two ((high == 0) && (low == 2)) refl k

    by : (x : Bool) → is_magic a b c d ≡ x → cond x (version_of high low) (Err (Bad 0)) ≡ Ok version → Begins version (a ∷ b ∷ c ∷ d ∷ high ∷ low ∷ more)
    by true h k =
        let p = and_parts ((a == 79) && (b == 84)) ((c == 65) && (d == 66)) h in
        let q = and_parts (a == 79) (b == 84) p.0 in
        let r = and_parts (c == 65) (d == 66) p.1 in
        let v = one ((high == 0) && (low == 1)) refl k in
        let ea = same_octet a 79 q.0 in
        let eb = same_octet b 84 q.1 in
        let ec = same_octet c 65 r.0 in
        let ed = same_octet d 66 r.1 in
        let eh = v.0 in
        let el = v.1 in
        record { rest = more; are = λ i. ea i ∷ eb i ∷ ec i ∷ ed i ∷ eh i ∷ el i ∷ more }
    by false h k = absurd cc

file_back : (version : Version) (c : Contents) → AreSound version c → items_in c ≤ 131072 → Comes (file_at (file_of version c)) c [] (131072 - items_in c)
unfolding file_at
file_back version c v few =
    let text : List ℕ = contents_file version c in
    let l : ℕ = 131072 - items_in c in
    let d = comes_from (contents_at version) c 6 text (text ++ []) [] 131072 (items_in c + l) l (sym (append-nil text)) (omega (arith, few)) (contents_back version c 6 l [] v (omega (arith, few))) in
    record { place = d.place; is = ap (λ (r : Reading Version). r >>= λ w. contents_at w (at 6 text 131072)) (version_back version text) ∙ d.is }

pub files_are_loaded : FilesAreLoaded
unfolding load_of
files_are_loaded bytes c f =
    let d = file_back f.version c f.sound f.items in
    let read : file_at bytes ≡ Ok (c, at d.place [] (131072 - items_in c)) = ap file_at f.are ∙ d.is in
    rw (le-ltb 16777216 (length bytes) f.size, read) refl

if_ok : (b : Bool) (x c : Contents) (e : LoadFault) → loaded_if b x e ≡ Ok c → (b ≡ true) × (x ≡ c)
if_ok true x c e h = let same : x ≡ c = cc in (refl, same)
if_ok false x c e h = absurd cc

long_fails : (size : ℕ) (r : Reading (Contents × Spot)) (c : Contents) → ended true size r ≡ Ok c → ⊥
long_fails size (Ok x) c e = by (nat_eq (length x.1.rest) 0) (if_ok (nat_eq (length x.1.rest) 0 && false) x.0 c _ e).0
  where
    by : (b : Bool) → (b && false) ≡ true → ⊥
    by true h = cc
    by false h = cc
long_fails size (Err Cut) c e = cc
long_fails size (Err (Bad place)) c e = cc
long_fails size (Err NoMemory) c e = cc

-- what was read to the end
pub record ReadsAll (r : Reading (Contents × Spot)) (c : Contents) : Type 0 where
  pub to : Spot
  pub is : r ≡ Ok (c, to)
  pub end : to.rest ≡ []

nothing : (os : List ℕ) → (nat_eq (length os) 0 && true) ≡ true → os ≡ []
nothing os e = empty os (none os (and_parts (nat_eq (length os) 0) true e).0)
  where
    none : (os : List ℕ) → nat_eq (length os) 0 ≡ true → length os ≡ 0
    none os h = grind (arith, nat_tests)

    empty : (os : List ℕ) → length os ≡ 0 → os ≡ []
    empty [] h = refl
    empty (o ∷ os) h = absurd (omega arith)

ended_found : (size : ℕ) (r : Reading (Contents × Spot)) (c : Contents) → ended false size r ≡ Ok c → ReadsAll r c
ended_found size (Ok x) c e =
    let f = if_ok (nat_eq (length x.1.rest) 0 && true) x.0 c _ e in
    record { to = x.1; is = ap (λ (y : Contents). Ok (y, x.1)) f.1; end = nothing x.1.rest f.0 }
ended_found size (Err Cut) c e = absurd cc
ended_found size (Err (Bad place)) c e = absurd cc
ended_found size (Err NoMemory) c e = absurd cc

file_found : (bytes : List ℕ) (c : Contents) → AreOctets bytes → length bytes ≤ 16777216 → ReadsAll (file_at bytes) c → IsTableFile bytes c
unfolding file_at
file_found bytes c are size r =
    let v = bind_ok (version_at bytes) _ (c, r.to) r.is in
    let b = version_found bytes v.0 v.1 in
    let behind : drop 6 bytes ≡ b.rest = ap (drop 6) b.are in
    let are_rest : AreOctets (drop 6 bytes) = subst AreOctets (sym behind) (octets_right (head_file v.0) b.rest (subst AreOctets b.are are)) in
    let f = contents_found v.0 c (at 6 (drop 6 bytes) 131072) r.to are_rest v.2 in
    let rest_is : b.rest ≡ contents_file v.0 c = sym behind ∙ f.went.rest ∙ ap (λ (y : List ℕ). contents_file v.0 c ++ y) r.end ∙ append-nil (contents_file v.0 c) in
    record {
      version = v.0;
      are = b.are ∙ ap (λ (y : List ℕ). head_file v.0 ++ y) rest_is;
      sound = f.sound;
      size = size;
      items = omega (arith, f.went.left);
    }

pub loaded_are_files : LoadedAreFiles
unfolding load_of
loaded_are_files bytes c are e = by (nat_lt 16777216 (length bytes)) refl e
  where
    by : (b : Bool) → nat_lt 16777216 (length bytes) ≡ b → cond b (ended true 16777216 (file_at (take 16777216 bytes))) (ended false (length bytes) (file_at bytes)) ≡ Ok c → IsTableFile bytes c
    by true h k = absurd (long_fails 16777216 (file_at (take 16777216 bytes)) c k)
    by false h k = file_found bytes c are (ltb-false 16777216 (length bytes) h) (ended_found (length bytes) (file_at bytes) c k)

-- ---- sound tables of version 1 are sound in version 2

default_renewed : (version : Version) (d : Option ℤ) → IsDefault version d → IsDefault versions.Two d
default_renewed versions.One d h = subst (IsDefault versions.Two) (sym h) tt
default_renewed versions.Two d h = h

part_renewed : (version : Version) (p : Part) → IsPart version p → IsPart versions.Two p
part_renewed version p h = record { name = h.name; inner = h.inner; default = default_renewed version p.default h.default }

along_renewed : {X : Type 0} (V W : List X → X → Type 0) → ((before : List X) (x : X) → V before x → W before x) → (before xs : List X) → Along V before xs → Along W before xs
along_renewed V W f before [] h = tt
along_renewed V W f before (x ∷ xs) h = (f before x h.0, along_renewed V W f (before ++ x ∷ []) xs h.1)

parts_renewed : (version : Version) (ps : List Part) → Each (IsPart version) ps → Each (IsPart versions.Two) ps
parts_renewed version ps h = along_renewed (λ before. IsPart version) (λ before. IsPart versions.Two) (λ before. part_renewed version) [] ps h

form_renewed : (version : Version) (row : TypeRow) → HasRowForm version row → HasRowForm versions.Two row
form_renewed version rows.Boolean h = tt
form_renewed version (rows.Integer low high) h = h
form_renewed version (rows.Enumerated items) h = h
form_renewed version rows.Null h = tt
form_renewed version (rows.OctetString most) h = h
form_renewed version rows.BitString h = tt
form_renewed version rows.ObjectId h = tt
form_renewed version (rows.Text kind) h = tt
form_renewed version (rows.Sequence ps) h = parts_renewed version ps h
form_renewed version (rows.Set ps) h = parts_renewed version ps h
form_renewed version (rows.SequenceOf inner) h = h
form_renewed version (rows.Choice ps) h = parts_renewed version ps h
form_renewed version (rows.Tagged class number explicit inner) h = h
form_renewed versions.One (rows.SetOf inner) h = absurd h
form_renewed versions.Two (rows.SetOf inner) h = h
form_renewed version rows.Any h = absurd h

row_renewed : (version : Version) (before : List TypeRow) (row : TypeRow) → IsRow version before row → IsRow versions.Two before row
row_renewed version before row h = record { form = form_renewed version row h.form; sound = h.sound }

renewed : (version : Version) (c : Contents) → AreSound version c → AreSound versions.Two c
renewed version c h = record {
  name = h.name;
  name_oid = h.name_oid;
  types = along_renewed (IsRow version) (IsRow versions.Two) (row_renewed version) [] c.types h.types;
  errors = h.errors;
  operations = h.operations;
}

pub stored_is_loaded : StoredIsLoaded
stored_is_loaded c v size few = files_are_loaded (file_of versions.Two c) c (record { version = versions.Two; are = refl; sound = v; size = size; items = few })

pub migrated_is_loaded : MigratedIsLoaded
migrated_is_loaded bytes c are e size =
    let f = loaded_are_files bytes c are e in
    stored_is_loaded c (renewed f.version c f.sound) size f.items
