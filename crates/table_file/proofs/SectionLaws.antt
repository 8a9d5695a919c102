-- Errors and operations: what is written comes back, and what is read was written so.
use Rattle.std.proofs.Common.{◌≡◌, ℕ, zero, suc, ◌+◌, ◌≤◌, ◌<◌, Bool, true, false, cond, List, [], ◌∷◌, ◌++◌, length, Option, Some, None, Ok, refl, sym, ap, ◌∙◌, subst, append_assoc, arith}
use Rattle.std.specs.Prelude.{◌||◌, nat_lt}
use Rattle.std.proofs.lemmas.Bool.{lt-ltb, ltb-true}
use Rattle.asn1_types.specs.declared.row.TypeId.{TypeId}
use Rattle.asn1_types.specs.declared.row.TypeRow.{TypeRow}
use Rattle.osi_base.specs.Octets.{AreOctets}
use Rattle.packed_codec.specs.Writing.{counted}
use Rattle.packed_codec.specs.Reading.{Spot}
use Rattle.stub_tables.specs.declared.operation.Use.{Use}
use Rattle.stub_tables.specs.declared.operation.Code.{Code}
use Rattle.stub_tables.specs.declared.operation.Code.TheVariants.{Local, Global}
use Rattle.stub_tables.specs.declared.operation.Operation.{Operation}
use Rattle.stub_tables.specs.declared.operation.ErrorRow.{ErrorRow}
use Rattle.table_file.specs.Reading.{Reading, ◌>>=◌}
use Rattle.table_file.specs.Fields.{octet_at, truth_at, integer_at, object_id_at}
use Rattle.table_file.specs.RowParts.{name_at, row_number_at, list_at, index_at}
use Rattle.table_file.specs.Sections.{code_behind, code_at, known_row, some_type, type_if, type_at, use_of, use_at, error_of, error_at, error_named, error_coded, unless, error_added, adds_error, both, operation_of, operation_at, operation_named, operation_coded, operation_added, adds_operation}
use Rattle.table_file.specs.Files.{integer_file, number_file, oid_file, truth_file, maybe_file, list_file, code_file, id_file, use_file, error_file, operation_file}
use Rattle.table_file.specs.Sound.{Each, IsNamed, IsCode, IsRowNumber, IsUse, IsError, IsPlace, IsOperation, items_in_operation}
use Rattle.table_file.proofs.Spots.{at, Comes, comes_here, then_comes, comes_from, comes_apart, Went, went_then, went_as, went_octets, bind_ok, ok_is}
use Rattle.table_file.proofs.FieldLaws.{octet_back, octet_found, truth_back, truth_found, integer_back, integer_found, oid_back, oid_found}
use Rattle.table_file.proofs.ListLaws.{StepBack, StepFound, list_back, list_found}
use Rattle.table_file.proofs.RowBack.{name_back, row_number_back, place_back}
use Rattle.table_file.proofs.RowFound.{ends_as, name_found, row_number_found, place_found}

some_is : {X : Type 0} (a b : X) → Some a ≡ Some b → a ≡ b
some_is a b e = cc

-- ---- codes

pub code_back : (code : Code) (more : List ℕ) (p l : ℕ) → IsCode code → Comes (code_at (at p (code_file code ++ more) l)) code more l
unfolding code_at
code_back (Local z) more p l h =
    then_comes (octet_at (at p (0 ∷ (integer_file z ++ more)) l)) _ 0 (Local z) (integer_file z ++ more) more l l (octet_back 0 (integer_file z ++ more) p l)
    (λ q. then_comes (integer_at (at q (integer_file z ++ more) l)) _ z (Local z) more more l l (integer_back z more q l h) (λ r. comes_here (Local z) r l more))
code_back (Global arcs) more p l h =
    then_comes (octet_at (at p (1 ∷ (oid_file arcs ++ more)) l)) _ 1 (Global arcs) (oid_file arcs ++ more) more l l (octet_back 1 (oid_file arcs ++ more) p l)
    (λ q. then_comes (object_id_at (at q (oid_file arcs ++ more) l)) _ arcs (Global arcs) more more l l (oid_back arcs more q l h) (λ r. comes_here (Global arcs) r l more))

behind_code : (place o : ℕ) (code : Code) (s t : Spot) → AreOctets s.rest → code_behind place o s ≡ Ok (code, t) → IsCode code × (text : List ℕ) × (code_file code ≡ o ∷ text) × Went text 0 s t
behind_code place zero code s t are e =
    let b = bind_ok (integer_at s) _ (code, t) e in
    let k = ends_as (Local b.0.0) code b.0.1 t b.2 in
    let f = integer_found s b.0.1 b.0.0 are b.1 in
    subst (λ (y : Code). IsCode y × (text : List ℕ) × (code_file y ≡ 0 ∷ text) × Went text 0 s t) k.0
    (f.0, integer_file b.0.0, refl, subst (λ (y : Spot). Went (integer_file b.0.0) 0 s y) k.1 f.1)
behind_code place (suc zero) code s t are e =
    let b = bind_ok (object_id_at s) _ (code, t) e in
    let k = ends_as (Global b.0.0) code b.0.1 t b.2 in
    let f = oid_found s b.0.1 b.0.0 are b.1 in
    subst (λ (y : Code). IsCode y × (text : List ℕ) × (code_file y ≡ 1 ∷ text) × Went text 0 s t) k.0
    (f.0, oid_file b.0.0, refl, subst (λ (y : Spot). Went (oid_file b.0.0) 0 s y) k.1 f.1)
behind_code place (suc (suc o)) code s t are e = absurd cc

pub code_found : (code : Code) (s t : Spot) → AreOctets s.rest → code_at s ≡ Ok (code, t) → IsCode code × Went (code_file code) 0 s t
unfolding code_at
code_found code s t are e =
    let b = bind_ok (octet_at s) _ (code, t) e in
    let w = octet_found s b.0.1 b.0.0 b.1 in
    let f = behind_code s.place b.0.0 code b.0.1 t (went_octets (b.0.0 ∷ []) 0 s b.0.1 w are) b.2 in
    (f.0, went_as (b.0.0 ∷ f.1) (code_file code) 0 0 s t (sym f.2) refl (went_then (b.0.0 ∷ []) f.1 0 0 s b.0.1 t w f.3))

-- ---- what is carried

type_back : (types : List TypeRow) (o : Option TypeId) (more : List ℕ) (p l : ℕ) → IsRowNumber (length types) o → Comes (type_at types (at p (maybe_file id_file o ++ more) l)) (Some o) more l
unfolding type_at
type_back types None more p l h = then_comes (truth_at (at p (0 ∷ more) l)) (type_if types) false (Some None) more more l l (truth_back false more p l) (λ q. comes_here (Some None) q l more)
type_back types (Some id) more p l h =
    then_comes (truth_at (at p (1 ∷ (number_file id.0 ++ more)) l)) (type_if types) true (Some (Some id)) (number_file id.0 ++ more) more l l (truth_back true (number_file id.0 ++ more) p l)
    (λ q. then_comes (row_number_at (at q (number_file id.0 ++ more) l)) _ (Some id) (Some (Some id)) more more l l (row_number_back id more q l h.1)
    (λ r. record { place = r; is = rw (lt-ltb id.0 (length types) h.0) refl }))

pub use_back : (types : List TypeRow) (u : Use) (more : List ℕ) (p l : ℕ) → IsUse (length types) u → Comes (use_at types (at p (use_file u ++ more) l)) (Some u) more l
unfolding use_at
use_back types u more p l h =
    comes_apart (use_at types) (Some u) p (maybe_file id_file u.inner) (truth_file u.optional) more l l
    (then_comes (type_at types (at p (maybe_file id_file u.inner ++ (truth_file u.optional ++ more)) l)) _ (Some u.inner) (Some u) (truth_file u.optional ++ more) more l l
    (type_back types u.inner (truth_file u.optional ++ more) p l h)
    (λ q. then_comes (truth_at (at q (truth_file u.optional ++ more) l)) _ u.optional (Some u) more more l l (truth_back u.optional more q l)
    (λ r. comes_here (Some u) r l more)))

known_is : (types : List TypeRow) (i : Option TypeId) (o : Option TypeId) → some_type (known_row types i) ≡ Some o → (id : TypeId) × (i ≡ Some id) × (id.0 < length types) × (o ≡ Some id)
known_is types None o e = absurd cc
known_is types (Some id) o e = by (nat_lt id.0 (length types)) refl e
  where
    by : (b : Bool) → nat_lt id.0 (length types) ≡ b → some_type (cond b (Some id) None) ≡ Some o → (k : TypeId) × (Some id ≡ Some k) × (k.0 < length types) × (o ≡ Some k)
    by true t h = (id, refl, ltb-true id.0 (length types) t, sym (some_is (Some id) o h))
    by false t h = absurd cc

type_found : (types : List TypeRow) (o : Option TypeId) (s t : Spot) → AreOctets s.rest → type_at types s ≡ Ok (Some o, t) → IsRowNumber (length types) o × Went (maybe_file id_file o) 0 s t
unfolding type_at
type_found types o s t are e =
    let b = bind_ok (truth_at s) (type_if types) (Some o, t) e in
    by b.0.0 b.0.1 (truth_found s b.0.1 b.0.0 b.1) b.2
  where
    by : (there : Bool) (m : Spot) → Went (truth_file there) 0 s m → type_if types (there, m) ≡ Ok (Some o, t) → IsRowNumber (length types) o × Went (maybe_file id_file o) 0 s t
    by false m w h =
        let k = ends_as (Some None) (Some o) m t h in
        subst (λ (y : Option TypeId). IsRowNumber (length types) y × Went (maybe_file id_file y) 0 s t) (some_is None o k.0) (tt, subst (λ (y : Spot). Went (0 ∷ []) 0 s y) k.1 w)
    by true m w h =
        let c = bind_ok (row_number_at m) _ (Some o, t) h in
        let k = ends_as (some_type (known_row types c.0.0)) (Some o) c.0.1 t c.2 in
        let is = known_is types c.0.0 o k.0 in
        let g = row_number_found m c.0.1 is.0 (went_octets (1 ∷ []) 0 s m w are) (c.1 ∙ ap (λ (y : Option TypeId). Ok (y, c.0.1)) is.1) in
        subst (λ (y : Option TypeId). IsRowNumber (length types) y × Went (maybe_file id_file y) 0 s t) (sym is.3)
        ((is.2, g.0), subst (λ (y : Spot). Went (1 ∷ number_file is.0.0) 0 s y) k.1 (went_then (1 ∷ []) (number_file is.0.0) 0 0 s m c.0.1 w g.1))

use_is : (i : Option (Option TypeId)) (b : Bool) (u : Use) → use_of i b ≡ Some u → (i ≡ Some u.inner) × (b ≡ u.optional)
use_is None b u e = absurd cc
use_is (Some i) b u e = let is = some_is {X = Use} (record { inner = i; optional = b }) u e in (ap (λ (y : Use). Some y.inner) is, ap (λ (y : Use). y.optional) is)

pub use_found : (types : List TypeRow) (u : Use) (s t : Spot) → AreOctets s.rest → use_at types s ≡ Ok (Some u, t) → IsUse (length types) u × Went (use_file u) 0 s t
unfolding use_at
use_found types u s t are e =
    let b = bind_ok (type_at types s) _ (Some u, t) e in
    let d = bind_ok (truth_at b.0.1) _ (Some u, t) b.2 in
    let k = ends_as (use_of b.0.0 d.0.0) (Some u) d.0.1 t d.2 in
    let is = use_is b.0.0 d.0.0 u k.0 in
    let f = type_found types u.inner s b.0.1 are (b.1 ∙ ap (λ (y : Option (Option TypeId)). Ok (y, b.0.1)) is.0) in
    let g = truth_found b.0.1 d.0.1 u.optional (d.1 ∙ ap (λ (y : Bool). Ok (y, d.0.1)) is.1) in
    (f.0, subst (λ (y : Spot). Went (use_file u) 0 s y) k.1 (went_then (maybe_file id_file u.inner) (truth_file u.optional) 0 0 s b.0.1 d.0.1 f.1 g))

-- ---- errors

pub errors_step : (types : List TypeRow) → StepBack (adds_error types) (λ x. x) error_file (λ e. 0) (IsError types)
unfolding adds_error error_at error_file
errors_step types before e p l more v few =
    comes_from (adds_error types before) (before ++ e ∷ []) p ((counted e.name ++ (code_file e.code ++ use_file e.parameter)) ++ more) (counted e.name ++ (code_file e.code ++ (use_file e.parameter ++ more))) more (0 + l) l l
    (append_assoc (counted e.name) (code_file e.code ++ use_file e.parameter) more ∙ ap (λ (y : List ℕ). counted e.name ++ y) (append_assoc (code_file e.code) (use_file e.parameter) more)) (omega arith)
    (then_comes (error_at types (at p (counted e.name ++ (code_file e.code ++ (use_file e.parameter ++ more))) l)) _ (Some e) (before ++ e ∷ []) more more l l
    (then_comes (name_at (at p (counted e.name ++ (code_file e.code ++ (use_file e.parameter ++ more))) l)) _ (Some e.name) (Some e) (code_file e.code ++ (use_file e.parameter ++ more)) more l l
    (name_back e.name (code_file e.code ++ (use_file e.parameter ++ more)) p l v.name)
    (λ q. then_comes (code_at (at q (code_file e.code ++ (use_file e.parameter ++ more)) l)) _ e.code (Some e) (use_file e.parameter ++ more) more l l (code_back e.code (use_file e.parameter ++ more) q l v.code)
    (λ r. then_comes (use_at types (at r (use_file e.parameter ++ more) l)) _ (Some e.parameter) (Some e) more more l l (use_back types e.parameter more r l v.parameter)
    (λ u. comes_here (Some e) u l more))))
    (λ q. record { place = q; is = rw v.own refl }))

error_is : (n : Option (List ℕ)) (c : Code) (u : Option Use) (e : ErrorRow) → error_of n c u ≡ Some e → (n ≡ Some e.name) × (c ≡ e.code) × (u ≡ Some e.parameter)
error_is None c u e h = absurd cc
error_is (Some n) c None e h = absurd cc
error_is (Some n) c (Some u) e h =
    let is = some_is {X = ErrorRow} (record { name = n; code = c; parameter = u }) e h in
    (ap (λ (y : ErrorRow). Some y.name) is, ap (λ (y : ErrorRow). y.code) is, ap (λ (y : ErrorRow). Some y.parameter) is)

unless_is : {A : Type 0} (b : Bool) (place : ℕ) (a all : A) → unless b place a ≡ Ok all → (b ≡ false) × (a ≡ all)
unless_is true place a all e = absurd cc
unless_is false place a all e = (refl, ok_is a all e)

error_added_is : (place : ℕ) (before all : List ErrorRow) (o : Option ErrorRow) → error_added place before o ≡ Ok all
    → (e : ErrorRow) × (o ≡ Some e) × ((error_named before e.name || error_coded before e.code) ≡ false) × (before ++ e ∷ [] ≡ all)
error_added_is place before all None h = absurd cc
error_added_is place before all (Some e) h = let u = unless_is (error_named before e.name || error_coded before e.code) place (before ++ e ∷ []) all h in (e, refl, u.0, u.1)

pub errors_found : (types : List TypeRow) → StepFound (adds_error types) (λ x. x) error_file (λ e. 0) (IsError types)
unfolding adds_error error_at error_file
errors_found types before ys s t are h =
    let z = bind_ok (error_at types s) _ (ys, t) h in
    let a = bind_ok (error_added s.place before z.0.0) _ (ys, t) z.2 in
    let k = ends_as a.0 ys z.0.1 t a.2 in
    let o = error_added_is s.place before a.0 z.0.0 a.1 in
    let e = o.0 in
    let whole : error_at types s ≡ Ok (Some e, z.0.1) = z.1 ∙ ap (λ (y : Option ErrorRow). Ok (y, z.0.1)) o.1 in
    let n = bind_ok (name_at s) _ (Some e, z.0.1) whole in
    let c = bind_ok (code_at n.0.1) _ (Some e, z.0.1) n.2 in
    let u = bind_ok (use_at types c.0.1) _ (Some e, z.0.1) c.2 in
    let j = ends_as (error_of n.0.0 c.0.0 u.0.0) (Some e) u.0.1 z.0.1 u.2 in
    let is = error_is n.0.0 c.0.0 u.0.0 e j.0 in
    let fn = name_found s n.0.1 e.name are (n.1 ∙ ap (λ (y : Option (List ℕ)). Ok (y, n.0.1)) is.0) in
    let are_c = went_octets (counted e.name) 0 s n.0.1 fn.1 are in
    let fc = code_found e.code n.0.1 c.0.1 are_c (c.1 ∙ ap (λ (y : Code). Ok (y, c.0.1)) is.1) in
    let are_u = went_octets (code_file e.code) 0 n.0.1 c.0.1 fc.1 are_c in
    let fu = use_found types e.parameter c.0.1 u.0.1 are_u (u.1 ∙ ap (λ (y : Option Use). Ok (y, u.0.1)) is.2) in
    let w = went_then (counted e.name) (code_file e.code ++ use_file e.parameter) 0 0 s n.0.1 u.0.1 fn.1 (went_then (code_file e.code) (use_file e.parameter) 0 0 n.0.1 c.0.1 u.0.1 fc.1 fu.1) in
    record {
      one = e;
      joined_to = sym (o.3 ∙ k.0);
      stands = record { name = fn.0; code = fc.0; parameter = fu.0; own = o.2 };
      went = subst (λ (y : Spot). Went (counted e.name ++ (code_file e.code ++ use_file e.parameter)) 0 s y) (j.1 ∙ k.1) w;
    }

-- ---- operations

in_eight : (a b c d e f g h more : List ℕ) → (a ++ (b ++ (c ++ (d ++ (e ++ (f ++ (g ++ h))))))) ++ more ≡ a ++ (b ++ (c ++ (d ++ (e ++ (f ++ (g ++ (h ++ more)))))))
in_eight a b c d e f g h more =
    append_assoc a _ more ∙ ap (λ (y : List ℕ). a ++ y)
    (append_assoc b _ more ∙ ap (λ (y : List ℕ). b ++ y)
    (append_assoc c _ more ∙ ap (λ (y : List ℕ). c ++ y)
    (append_assoc d _ more ∙ ap (λ (y : List ℕ). d ++ y)
    (append_assoc e _ more ∙ ap (λ (y : List ℕ). e ++ y)
    (append_assoc f _ more ∙ ap (λ (y : List ℕ). f ++ y)
    (append_assoc g h more))))))

operation_back : (types : List TypeRow) (errors : List ErrorRow) (count : ℕ) (before : List Operation) (o : Operation) (p l : ℕ) (more : List ℕ)
    → IsOperation types errors count before o → items_in_operation o + l ≤ 131072
    → Comes (operation_at types (length errors) count (at p (operation_file o ++ more) (items_in_operation o + l))) (Some o) more l
unfolding operation_at operation_file
operation_back types errors count before o p l more v few =
    let m : ℕ = length o.errors + (length o.linked + l) in
    let t7 : List ℕ = list_file number_file o.linked ++ more in
    let t6 : List ℕ = list_file number_file o.errors ++ t7 in
    let t5 : List ℕ = truth_file o.always ++ t6 in
    let t4 : List ℕ = truth_file o.returns ++ t5 in
    let t3 : List ℕ = use_file o.result ++ t4 in
    let t2 : List ℕ = use_file o.argument ++ t3 in
    let t1 : List ℕ = code_file o.code ++ t2 in
    comes_from (operation_at types (length errors) count) (Some o) p _ (counted o.name ++ t1) more (length o.errors + length o.linked + l) m l
    (in_eight (counted o.name) (code_file o.code) (use_file o.argument) (use_file o.result) (truth_file o.returns) (truth_file o.always) (list_file number_file o.errors) (list_file number_file o.linked) more) (omega arith)
    (then_comes (name_at (at p (counted o.name ++ t1) m)) _ (Some o.name) (Some o) t1 more m l (name_back o.name t1 p m v.name)
    (λ q. then_comes (code_at (at q t1 m)) _ o.code (Some o) t2 more m l (code_back o.code t2 q m v.code)
    (λ q2. then_comes (use_at types (at q2 t2 m)) _ (Some o.argument) (Some o) t3 more m l (use_back types o.argument t3 q2 m v.argument)
    (λ q3. then_comes (use_at types (at q3 t3 m)) _ (Some o.result) (Some o) t4 more m l (use_back types o.result t4 q3 m v.result)
    (λ q4. then_comes (truth_at (at q4 t4 m)) _ o.returns (Some o) t5 more m l (truth_back o.returns t5 q4 m)
    (λ q5. then_comes (truth_at (at q5 t5 m)) _ o.always (Some o) t6 more m l (truth_back o.always t6 q5 m)
    (λ q6. then_comes (list_at (index_at (length errors)) (at q6 t6 m)) _ (Some o.errors) (Some o) t7 more (length o.linked + l) l
    (list_back (index_at (length errors)) number_file (IsPlace (length errors)) (λ n a b c. place_back (length errors) n c a b) o.errors q6 (length o.linked + l) t7 v.errors_known (omega (arith, few)))
    (λ q7. then_comes (list_at (index_at count) (at q7 t7 (length o.linked + l))) _ (Some o.linked) (Some o) more more l l
    (list_back (index_at count) number_file (IsPlace count) (λ n a b c. place_back count n c a b) o.linked q7 l more v.linked_known (omega (arith, few)))
    (λ q8. comes_here (Some o) q8 l more)))))))))

pub operations_step : (types : List TypeRow) (errors : List ErrorRow) (count : ℕ) → StepBack (adds_operation types errors count) (λ x. x) operation_file items_in_operation (IsOperation types errors count)
unfolding adds_operation
operations_step types errors count before o p l more v few =
    then_comes (operation_at types (length errors) count (at p (operation_file o ++ more) (items_in_operation o + l))) _ (Some o) (before ++ o ∷ []) more more l l
    (operation_back types errors count before o p l more v few)
    (λ q. record { place = q; is = rw v.own refl })

both_is : {A B : Type 0} (a : Option A) (b : Option B) (x : A × B) → both a b ≡ Some x → (a ≡ Some x.0) × (b ≡ Some x.1)
both_is None b x e = absurd cc
both_is (Some a) None x e = absurd cc
both_is {A} {B} (Some a) (Some b) x e = let is = some_is {X = A × B} (a, b) x e in (ap (λ (y : A × B). Some y.0) is, ap (λ (y : A × B). Some y.1) is)

-- the pieces of an operation
pub record Made (o : Operation) (n : Option (List ℕ)) (c : Code) (a r : Option Use) (returns always : Bool) (e l : Option (List ℕ)) : Type 0 where
  pub name : n ≡ Some o.name
  pub code : c ≡ o.code
  pub argument : a ≡ Some o.argument
  pub result : r ≡ Some o.result
  pub returned : returns ≡ o.returns
  pub always_told : always ≡ o.always
  pub errors : e ≡ Some o.errors
  pub linked : l ≡ Some o.linked

made_of : (o : Operation) (n : Option (List ℕ)) (c : Code) (u : Option (Use × Use)) (returns always : Bool) (q : Option (List ℕ × List ℕ)) → operation_of n c u returns always q ≡ Some o
    → (n ≡ Some o.name) × (c ≡ o.code) × (u ≡ Some (o.argument, o.result)) × (returns ≡ o.returns) × (always ≡ o.always) × (q ≡ Some (o.errors, o.linked))
made_of o None c u returns always q h = absurd cc
made_of o (Some n) c None returns always q h = absurd cc
made_of o (Some n) c (Some u) returns always None h = absurd cc
made_of o (Some n) c (Some u) returns always (Some q) h =
    let is = some_is {X = Operation} (record { name = n; code = c; argument = u.0; result = u.1; returns = returns; always = always; errors = q.0; linked = q.1 }) o h in (
      ap (λ (y : Operation). Some y.name) is,
      ap (λ (y : Operation). y.code) is,
      ap (λ (y : Operation). Some (y.argument, y.result)) is,
      ap (λ (y : Operation). y.returns) is,
      ap (λ (y : Operation). y.always) is,
      ap (λ (y : Operation). Some (y.errors, y.linked)) is,
    )

operation_is : (o : Operation) (n : Option (List ℕ)) (c : Code) (a r : Option Use) (returns always : Bool) (e l : Option (List ℕ))
    → operation_of n c (both a r) returns always (both e l) ≡ Some o → Made o n c a r returns always e l
operation_is o n c a r returns always e l h =
    let m = made_of o n c (both a r) returns always (both e l) h in
    let u = both_is a r (o.argument, o.result) m.2 in
    let q = both_is e l (o.errors, o.linked) m.5 in
    record { name = m.0; code = m.1; argument = u.0; result = u.1; returned = m.3; always_told = m.4; errors = q.0; linked = q.1 }

-- the fields behind what is carried, of an operation with these pieces before them
tail : ℕ → ℕ → Option (List ℕ) → Code → Option Use → Option Use → Spot → Reading (Option Operation × Spot)
tail errors count n c a r s = do
  b ← truth_at s
  d ← truth_at b.1
  e ← list_at (index_at errors) d.1
  l ← list_at (index_at count) e.1
  Ok (operation_of n c (both a r) b.0 d.0 (both e.0 l.0), l.1)

split : (types : List TypeRow) (errors count : ℕ) (s : Spot) → operation_at types errors count s
    ≡ (name_at s >>= λ n. code_at n.1 >>= λ c. use_at types c.1 >>= λ a. use_at types a.1 >>= λ r. tail errors count n.0 c.0 a.0 r.0 r.1)
unfolding operation_at tail
split types errors count s = refl

abbrev tail_file : Operation → List ℕ
tail_file o = truth_file o.returns ++ (truth_file o.always ++ (list_file number_file o.errors ++ list_file number_file o.linked))

pub record TailSteps (errors count : ℕ) (o : Operation) (n : Option (List ℕ)) (c : Code) (a r : Option Use) (s t : Spot) : Type 0 where
  pub name : n ≡ Some o.name
  pub code : c ≡ o.code
  pub argument : a ≡ Some o.argument
  pub result : r ≡ Some o.result
  pub b : Spot
  pub d : Spot
  pub e : Spot
  pub returned : truth_at s ≡ Ok (o.returns, b)
  pub always_told : truth_at b ≡ Ok (o.always, d)
  pub errors_read : list_at (index_at errors) d ≡ Ok (Some o.errors, e)
  pub linked_read : list_at (index_at count) e ≡ Ok (Some o.linked, t)

-- the lists of places, as they went
lists_went : (errors count : ℕ) (o : Operation) (s m t : Spot) → AreOctets s.rest → list_at (index_at errors) s ≡ Ok (Some o.errors, m) → list_at (index_at count) m ≡ Ok (Some o.linked, t)
    → Each (IsPlace errors) o.errors × Each (IsPlace count) o.linked × Went (list_file number_file o.errors ++ list_file number_file o.linked) (items_in_operation o) s t
lists_went errors count o s m t are e l =
    let fe = list_found (index_at errors) number_file (IsPlace errors) (place_found errors) o.errors s m are e in
    let fl = list_found (index_at count) number_file (IsPlace count) (place_found count) o.linked m t (went_octets (list_file number_file o.errors) (length o.errors) s m fe.1 are) l in
    (fe.0, fl.0, went_then (list_file number_file o.errors) (list_file number_file o.linked) (length o.errors) (length o.linked) s m t fe.1 fl.1)

marks_went : (o : Operation) (text : List ℕ) (k : ℕ) (s b d t : Spot) → truth_at s ≡ Ok (o.returns, b) → truth_at b ≡ Ok (o.always, d) → Went text k d t
    → Went (truth_file o.returns ++ (truth_file o.always ++ text)) k s t
marks_went o text k s b d t e h w =
    let w2 = went_then (truth_file o.always) text 0 k b d t (truth_found b d o.always h) w in
    let w1 = went_then (truth_file o.returns) (truth_file o.always ++ text) 0 (0 + k) s b t (truth_found s b o.returns e) w2 in
    record { rest = w1.rest; left = omega (arith, w1.left) }

tail_steps : (errors count : ℕ) (o : Operation) (n : Option (List ℕ)) (c : Code) (a r : Option Use) (s t : Spot)
    → tail errors count n c a r s ≡ Ok (Some o, t) → TailSteps errors count o n c a r s t
unfolding tail
tail_steps errors count o n c a r s t h =
    let b = bind_ok (truth_at s) _ (Some o, t) h in
    let d = bind_ok (truth_at b.0.1) _ (Some o, t) b.2 in
    let e = bind_ok (list_at (index_at errors) d.0.1) _ (Some o, t) d.2 in
    let l = bind_ok (list_at (index_at count) e.0.1) _ (Some o, t) e.2 in
    let k = ends_as (operation_of n c (both a r) b.0.0 d.0.0 (both e.0.0 l.0.0)) (Some o) l.0.1 t l.2 in
    let m = operation_is o n c a r b.0.0 d.0.0 e.0.0 l.0.0 k.0 in
    record {
      name = m.name;
      code = m.code;
      argument = m.argument;
      result = m.result;
      b = b.0.1;
      d = d.0.1;
      e = e.0.1;
      returned = b.1 ∙ ap (λ (y : Bool). Ok (y, b.0.1)) m.returned;
      always_told = d.1 ∙ ap (λ (y : Bool). Ok (y, d.0.1)) m.always_told;
      errors_read = e.1 ∙ ap (λ (y : Option (List ℕ)). Ok (y, e.0.1)) m.errors;
      linked_read = l.1 ∙ ap (λ (y : Option (List ℕ)). Ok (y, l.0.1)) m.linked ∙ ap (λ (y : Spot). Ok (Some o.linked, y)) k.1;
    }

tail_went : (errors count : ℕ) (o : Operation) (n : Option (List ℕ)) (c : Code) (a r : Option Use) (s t : Spot) → TailSteps errors count o n c a r s t → AreOctets s.rest
    → Each (IsPlace errors) o.errors × Each (IsPlace count) o.linked × Went (tail_file o) (items_in_operation o) s t
tail_went errors count o n c a r s t h are =
    let are_b = went_octets (truth_file o.returns) 0 s h.b (truth_found s h.b o.returns h.returned) are in
    let are_d = went_octets (truth_file o.always) 0 h.b h.d (truth_found h.b h.d o.always h.always_told) are_b in
    let f = lists_went errors count o h.d h.e t are_d h.errors_read h.linked_read in
    (f.0, f.1, marks_went o (list_file number_file o.errors ++ list_file number_file o.linked) (items_in_operation o) s h.b h.d t h.returned h.always_told f.2)

-- an operation, but for its own name and code
pub record OperationRead (types : List TypeRow) (errors count : ℕ) (o : Operation) (s t : Spot) : Type 0 where
  pub name : IsNamed o.name
  pub code : IsCode o.code
  pub argument : IsUse (length types) o.argument
  pub result : IsUse (length types) o.result
  pub errors_known : Each (IsPlace errors) o.errors
  pub linked_known : Each (IsPlace count) o.linked
  pub went : Went (operation_file o) (items_in_operation o) s t

-- the uses, as they went
uses_went : (types : List TypeRow) (o : Operation) (text : List ℕ) (k : ℕ) (s a r t : Spot) → AreOctets s.rest → use_at types s ≡ Ok (Some o.argument, a) → use_at types a ≡ Ok (Some o.result, r)
    → IsUse (length types) o.argument × IsUse (length types) o.result × AreOctets r.rest × (Went text k r t → Went (use_file o.argument ++ (use_file o.result ++ text)) k s t)
uses_went types o text k s a r t are e h =
    let fa = use_found types o.argument s a are e in
    let are_a = went_octets (use_file o.argument) 0 s a fa.1 are in
    let fr = use_found types o.result a r are_a h in
    (fa.0, fr.0, went_octets (use_file o.result) 0 a r fr.1 are_a, λ w. whole fa.1 fr.1 w)
  where
    whole : Went (use_file o.argument) 0 s a → Went (use_file o.result) 0 a r → Went text k r t → Went (use_file o.argument ++ (use_file o.result ++ text)) k s t
    whole u v w =
        let w2 = went_then (use_file o.result) text 0 k a r t v w in
        let w1 = went_then (use_file o.argument) (use_file o.result ++ text) 0 (0 + k) s a t u w2 in
        record { rest = w1.rest; left = omega (arith, w1.left) }

heads_went : (o : Operation) (text : List ℕ) (k : ℕ) (s n c t : Spot) → AreOctets s.rest → name_at s ≡ Ok (Some o.name, n) → code_at n ≡ Ok (o.code, c)
    → IsNamed o.name × IsCode o.code × AreOctets c.rest × (Went text k c t → Went (counted o.name ++ (code_file o.code ++ text)) k s t)
heads_went o text k s n c t are e h =
    let fn = name_found s n o.name are e in
    let are_n = went_octets (counted o.name) 0 s n fn.1 are in
    let fc = code_found o.code n c are_n h in
    (fn.0, fc.0, went_octets (code_file o.code) 0 n c fc.1 are_n, λ w. whole fn.1 fc.1 w)
  where
    whole : Went (counted o.name) 0 s n → Went (code_file o.code) 0 n c → Went text k c t → Went (counted o.name ++ (code_file o.code ++ text)) k s t
    whole u v w =
        let w2 = went_then (code_file o.code) text 0 k n c t v w in
        let w1 = went_then (counted o.name) (code_file o.code ++ text) 0 (0 + k) s n t u w2 in
        record { rest = w1.rest; left = omega (arith, w1.left) }

operation_found : (types : List TypeRow) (errors count : ℕ) (o : Operation) (s t : Spot) → AreOctets s.rest → operation_at types errors count s ≡ Ok (Some o, t) → OperationRead types errors count o s t
unfolding operation_file
operation_found types errors count o s t are h =
    let n = bind_ok (name_at s) _ (Some o, t) (sym (split types errors count s) ∙ h) in
    let c = bind_ok (code_at n.0.1) _ (Some o, t) n.2 in
    let a = bind_ok (use_at types c.0.1) _ (Some o, t) c.2 in
    let r = bind_ok (use_at types a.0.1) _ (Some o, t) a.2 in
    let m = tail_steps errors count o n.0.0 c.0.0 a.0.0 r.0.0 r.0.1 t r.2 in
    let rest : List ℕ = tail_file o in
    let uses : List ℕ = use_file o.argument ++ (use_file o.result ++ rest) in
    let k : ℕ = items_in_operation o in
    let fh = heads_went o uses k s n.0.1 c.0.1 t are (n.1 ∙ ap (λ (y : Option (List ℕ)). Ok (y, n.0.1)) m.name) (c.1 ∙ ap (λ (y : Code). Ok (y, c.0.1)) m.code) in
    let fu = uses_went types o rest k c.0.1 a.0.1 r.0.1 t fh.2 (a.1 ∙ ap (λ (y : Option Use). Ok (y, a.0.1)) m.argument) (r.1 ∙ ap (λ (y : Option Use). Ok (y, r.0.1)) m.result) in
    let ft = tail_went errors count o n.0.0 c.0.0 a.0.0 r.0.0 r.0.1 t m fu.2 in
    record { name = fh.0; code = fh.1; argument = fu.0; result = fu.1; errors_known = ft.0; linked_known = ft.1; went = fh.3 (fu.3 ft.2) }

operation_added_is : (place : ℕ) (errors : List ErrorRow) (before all : List Operation) (x : Option Operation) → operation_added place errors before x ≡ Ok all
    → (o : Operation) × (x ≡ Some o) × (((error_named errors o.name || operation_named before o.name) || operation_coded before o.code) ≡ false) × (before ++ o ∷ [] ≡ all)
operation_added_is place errors before all None h = absurd cc
operation_added_is place errors before all (Some o) h =
    let u = unless_is ((error_named errors o.name || operation_named before o.name) || operation_coded before o.code) place (before ++ o ∷ []) all h in (o, refl, u.0, u.1)

pub operations_found : (types : List TypeRow) (errors : List ErrorRow) (count : ℕ) → StepFound (adds_operation types errors count) (λ x. x) operation_file items_in_operation (IsOperation types errors count)
unfolding adds_operation
operations_found types errors count before ys s t are h =
    let z = bind_ok (operation_at types (length errors) count s) _ (ys, t) h in
    let a = bind_ok (operation_added s.place errors before z.0.0) _ (ys, t) z.2 in
    let k = ends_as a.0 ys z.0.1 t a.2 in
    let x = operation_added_is s.place errors before a.0 z.0.0 a.1 in
    let o = x.0 in
    let f = operation_found types (length errors) count o s z.0.1 are (z.1 ∙ ap (λ (y : Option Operation). Ok (y, z.0.1)) x.1) in
    record {
      one = o;
      joined_to = sym (x.3 ∙ k.0);
      stands = record { name = f.name; code = f.code; argument = f.argument; result = f.result; errors_known = f.errors_known; linked_known = f.linked_known; own = x.2 };
      went = subst (λ (y : Spot). Went (operation_file o) (items_in_operation o) s y) k.1 f.went;
    }
