-- Octets spell one head at most, and one APDU.
use Rattle.std.proofs.Common.{◌≡◌, ℕ, ◌≤◌, ℤ, true, false, List, [], ◌++◌, Option, Some, None, refl, sym, ap, subst, ◌∙◌, arith, option_map}
use Rattle.std.proofs.lemmas.List.{append_cancel_left}
use Rattle.osi_base.specs.declared.syntax.Syntax.{Syntax}
use Rattle.osi_base.specs.declared.syntax.Syntax.TheVariants as syntax
use Rattle.osi_base.specs.declared.layer_words.Problem.{Problem}
use Rattle.osi_base.specs.declared.layer_words.ProblemKind.{ProblemKind}
use Rattle.osi_base.specs.declared.layer_words.ProblemKind.TheVariants as kinds
use Rattle.asn1_types.specs.declared.value.Val.{Val}
use Rattle.asn1_types.specs.declared.row.TypeId.{TypeId}
use Rattle.asn1_types.specs.Value.{Value, present}
use Rattle.asn1_types.specs.Table.{AreSoundRows}
use Rattle.ber_spelling.proofs.WholeValues as ber
use Rattle.packed_codec.proofs.WholeValues as packed
use Rattle.stub_tables.specs.declared.tables.Tables.{Tables}
use Rattle.stub_tables.specs.declared.operation.Code.{Code}
use Rattle.stub_tables.specs.declared.operation.Code.TheVariants.{Local, Global}
use Rattle.stub_tables.specs.declared.operation.Use.{Use}
use Rattle.stub_tables.specs.declared.apdu.Apdu.{Apdu}
use Rattle.stub_tables.specs.declared.apdu.Apdu.TheVariants as apdus
use Rattle.stub_tables.specs.declared.apdu.Returned.{Returned}
use Rattle.stub_tables.specs.Apdus.{argument_of, result_of, parameter_of, operation_coded, error_coded}
use Rattle.apdu_spelling.specs.Heads.{ReturnedOctets, Head, invoke, result, error, reject, carried, or_none}
use Rattle.apdu_spelling.specs.Rows.{head_rows, apdu_row, packed_apdu_row}
use Rattle.apdu_spelling.specs.Values.{code_value, linked_part, rejected_value, kind_place, problem_value, any_part, returned_part, ber_value, mark_part, code_part, packed_value}
use Rattle.apdu_spelling.specs.Spellings.{SpellsHead, SpelledAs, TypedAs, CarriedAs, room_behind, SaysInvoke, SaysResult, SaysError, ReturnedAs, Says, Spells}
use Rattle.apdu_spelling.proofs.HeadsSound.{heads_sound}

-- ---- pieces of heads

pub one_code : (c d : Code) → code_value c ≡ code_value d → c ≡ d
one_code (Local a) (Local b) e = cc
one_code (Global a) (Global b) e = cc
one_code (Local a) (Global b) e = absurd cc
one_code (Global a) (Local b) e = absurd cc

one_any : (a b : Option (List ℕ)) → any_part a ≡ any_part b → a ≡ b
one_any None None e = refl
one_any (Some a) (Some b) e = cc
one_any None (Some b) e = absurd cc
one_any (Some a) None e = absurd cc

outcomes : (c d : Code) (a b : List ℕ) → c ≡ d → a ≡ b → (let x : ReturnedOctets = record { code = c; octets = a } in let y : ReturnedOctets = record { code = d; octets = b } in Some x ≡ Some y)
outcomes c d a b e f = λ i. Some (record { code = e i; octets = f i })

one_returned : (a b : Option ReturnedOctets) → returned_part a ≡ returned_part b → a ≡ b
one_returned None None e = refl
one_returned (Some a) (Some b) e =
    let x : code_value a.code ≡ code_value b.code = cc in
    let y : a.octets ≡ b.octets = cc in
    outcomes a.code b.code a.octets b.octets (one_code a.code b.code x) y
one_returned None (Some b) e = absurd cc
one_returned (Some a) None e = absurd cc

one_mark : (a b : Option (List ℕ)) → mark_part a ≡ mark_part b → or_none a ≡ or_none b → a ≡ b
one_mark None None e f = refl
one_mark (Some a) (Some b) e f = ap Some f
one_mark None (Some b) e f = absurd cc
one_mark (Some a) None e f = absurd cc

one_outcome : (id : ℤ) (a b : Option ReturnedOctets) → code_part a ≡ code_part b → carried (result id a) ≡ carried (result id b) → a ≡ b
one_outcome id None None e f = refl
one_outcome id (Some a) (Some b) e f =
    let x : code_value a.code ≡ code_value b.code = cc in
    outcomes a.code b.code a.octets b.octets (one_code a.code b.code x) f
one_outcome id None (Some b) e f = absurd cc
one_outcome id (Some a) None e f = absurd cc

one_rejected : (a b : Option ℤ) → rejected_value a ≡ rejected_value b → a ≡ b
one_rejected None None e = refl
one_rejected (Some a) (Some b) e = cc
one_rejected None (Some b) e = absurd cc
one_rejected (Some a) None e = absurd cc

one_kind : (a b : ProblemKind) → kind_place a ≡ kind_place b → a ≡ b
one_kind kinds.General kinds.General e = refl
one_kind kinds.General kinds.Invoke e = absurd cc
one_kind kinds.General kinds.Result e = absurd cc
one_kind kinds.General kinds.Error e = absurd cc
one_kind kinds.Invoke kinds.General e = absurd cc
one_kind kinds.Invoke kinds.Invoke e = refl
one_kind kinds.Invoke kinds.Result e = absurd cc
one_kind kinds.Invoke kinds.Error e = absurd cc
one_kind kinds.Result kinds.General e = absurd cc
one_kind kinds.Result kinds.Invoke e = absurd cc
one_kind kinds.Result kinds.Result e = refl
one_kind kinds.Result kinds.Error e = absurd cc
one_kind kinds.Error kinds.General e = absurd cc
one_kind kinds.Error kinds.Invoke e = absurd cc
one_kind kinds.Error kinds.Result e = absurd cc
one_kind kinds.Error kinds.Error e = refl

one_problem : (p q : Problem) → problem_value p ≡ problem_value q → p ≡ q
one_problem p q e =
    let x : kind_place p.kind ≡ kind_place q.kind = cc in
    let y : p.number ≡ q.number = cc in
    let z = one_kind p.kind q.kind x in
    λ i. record { kind = z i; number = y i }

one_linked : (k l : Option ℤ) (x y : Value) (a b : Option (List ℕ)) → linked_part k (present x (any_part a)) ≡ linked_part l (present y (any_part b)) → (k ≡ l) × (x ≡ y) × (any_part a ≡ any_part b)
one_linked None None x y a b e = (refl, cc, cc)
one_linked (Some k) (Some l) x y a b e = let z : k ≡ l = cc in (ap Some z, cc, cc)
one_linked None (Some l) x y a b e = absurd cc
one_linked (Some k) None x y a b e = absurd cc

one_marked : (k l : Option ℤ) (x y : Value) (a b : Option (List ℕ)) → linked_part k (present x (mark_part a)) ≡ linked_part l (present y (mark_part b)) → (k ≡ l) × (x ≡ y) × (mark_part a ≡ mark_part b)
one_marked None None x y a b e = (refl, cc, cc)
one_marked (Some k) (Some l) x y a b e = let z : k ≡ l = cc in (ap Some z, cc, cc)
one_marked None (Some l) x y a b e = absurd cc
one_marked (Some k) None x y a b e = absurd cc

-- ---- heads by their values

invokes : (i j : ℤ) (k l : Option ℤ) (c d : Code) (a b : Option (List ℕ)) → i ≡ j → k ≡ l → c ≡ d → a ≡ b → invoke i k c a ≡ invoke j l d b
invokes i j k l c d a b e f g h = cc

errors : (i j : ℤ) (c d : Code) (a b : Option (List ℕ)) → i ≡ j → c ≡ d → a ≡ b → error i c a ≡ error j d b
errors i j c d a b e f g = cc

pub one_ber : (h k : Head) → ber_value h ≡ ber_value k → h ≡ k
one_ber (invoke i k c a) (invoke j l d b) e =
    let x : i ≡ j = cc in
    let y : linked_part k (present (code_value c) (any_part a)) ≡ linked_part l (present (code_value d) (any_part b)) = cc in
    let z = one_linked k l (code_value c) (code_value d) a b y in
    invokes i j k l c d a b x z.0 (one_code c d z.1) (one_any a b z.2)
one_ber (result i a) (result j b) e =
    let x : i ≡ j = cc in
    let y : returned_part a ≡ returned_part b = cc in
    let z = one_returned a b y in cc
one_ber (error i c a) (error j d b) e =
    let x : i ≡ j = cc in
    let y : code_value c ≡ code_value d = cc in
    let z : any_part a ≡ any_part b = cc in
    errors i j c d a b x (one_code c d y) (one_any a b z)
one_ber (reject i p) (reject j q) e =
    let x : rejected_value i ≡ rejected_value j = cc in
    let y : problem_value p ≡ problem_value q = cc in
    let z = one_rejected i j x in
    let w = one_problem p q y in cc
one_ber (invoke i k c a) (result j b) e = absurd cc
one_ber (invoke i k c a) (error j d b) e = absurd cc
one_ber (invoke i k c a) (reject j q) e = absurd cc
one_ber (result i a) (invoke j l d b) e = absurd cc
one_ber (result i a) (error j d b) e = absurd cc
one_ber (result i a) (reject j q) e = absurd cc
one_ber (error i c a) (invoke j l d b) e = absurd cc
one_ber (error i c a) (result j b) e = absurd cc
one_ber (error i c a) (reject j q) e = absurd cc
one_ber (reject i p) (invoke j l d b) e = absurd cc
one_ber (reject i p) (result j b) e = absurd cc
one_ber (reject i p) (error j d b) e = absurd cc

pub one_packed : (h k : Head) → packed_value h ≡ packed_value k → carried h ≡ carried k → h ≡ k
one_packed (invoke i k c a) (invoke j l d b) e f =
    let x : i ≡ j = cc in
    let y : linked_part k (present (code_value c) (mark_part a)) ≡ linked_part l (present (code_value d) (mark_part b)) = cc in
    let z = one_marked k l (code_value c) (code_value d) a b y in
    invokes i j k l c d a b x z.0 (one_code c d z.1) (one_mark a b z.2 f)
one_packed (result i a) (result j b) e f =
    let x : i ≡ j = cc in
    let y : code_part a ≡ code_part b = cc in
    let z = one_outcome i a b y f in cc
one_packed (error i c a) (error j d b) e f =
    let x : i ≡ j = cc in
    let y : code_value c ≡ code_value d = cc in
    let z : mark_part a ≡ mark_part b = cc in
    errors i j c d a b x (one_code c d y) (one_mark a b z f)
one_packed (reject i p) (reject j q) e f =
    let x : rejected_value i ≡ rejected_value j = cc in
    let y : problem_value p ≡ problem_value q = cc in
    let z = one_rejected i j x in
    let w = one_problem p q y in cc
one_packed (invoke i k c a) (result j b) e f = absurd cc
one_packed (invoke i k c a) (error j d b) e f = absurd cc
one_packed (invoke i k c a) (reject j q) e f = absurd cc
one_packed (result i a) (invoke j l d b) e f = absurd cc
one_packed (result i a) (error j d b) e f = absurd cc
one_packed (result i a) (reject j q) e f = absurd cc
one_packed (error i c a) (invoke j l d b) e f = absurd cc
one_packed (error i c a) (result j b) e f = absurd cc
one_packed (error i c a) (reject j q) e f = absurd cc
one_packed (reject i p) (invoke j l d b) e f = absurd cc
one_packed (reject i p) (result j b) e f = absurd cc
one_packed (reject i p) (error j d b) e f = absurd cc

-- ---- heads by their spellings

pub one_head : (s : Syntax) (h k : Head) (text : List ℕ) → SpellsHead s h text → SpellsHead s k text → h ≡ k
one_head syntax.Ber h k text p q = one_ber h k (ber.none_begins head_rows apdu_row false 262144 (ber_value h) (ber_value k) text text [] [] heads_sound p q refl).1
one_head syntax.Der h k text p q = one_ber h k (ber.none_begins head_rows apdu_row true 262144 (ber_value h) (ber_value k) text text [] [] heads_sound p q refl).1
one_head syntax.Packed h k text p q =
    let both : p.front ++ carried h ≡ q.front ++ carried k = sym p.are ∙ q.are in
    let one = packed.none_begins head_rows packed_apdu_row 262144 (packed_value h) (packed_value k) p.front q.front (carried h) (carried k) (omega arith) p.packs q.packs both in
    one_packed h k one.1 (append_cancel_left q.front (carried h) (carried k) (subst (λ (x : List ℕ). x ++ carried h ≡ q.front ++ carried k) one.0 both))

-- ---- values

one_spelled : (s : Syntax) (t : Tables) (limit of : ℕ) (v w : Val) (os : List ℕ) → AreSoundRows t.types → limit ≤ 262144 → SpelledAs s t.types limit of v os → SpelledAs s t.types limit of w os → v ≡ w
one_spelled syntax.Ber t limit of v w os sound le p q = (ber.none_begins t.types of false limit v w os os [] [] sound p q refl).1
one_spelled syntax.Der t limit of v w os sound le p q = (ber.none_begins t.types of true limit v w os os [] [] sound p q refl).1
one_spelled syntax.Packed t limit of v w os sound le p q = (packed.none_begins t.types of limit v w os os [] [] (omega arith) p q refl).1

room_le : (s : Syntax) (h : Head) → room_behind s h ≤ 262144
room_le syntax.Ber h = omega arith
room_le syntax.Der h = omega arith
room_le syntax.Packed h = omega arith

module _ (s : Syntax) (t : Tables) (sound : AreSoundRows t.types) (limit : ℕ) (le : limit ≤ 262144) where
  one_typed : (of : Option TypeId) (v w : Val) (os : List ℕ) → TypedAs s t.types limit of v os → TypedAs s t.types limit of w os → v ≡ w
  one_typed None v w os p q = absurd p
  one_typed (Some of) v w os p q = one_spelled s t limit of.0 v w os sound le p q

  pub one_carried : (u : Option Use) (v w : Option Val) (os : Option (List ℕ)) → CarriedAs s t.types limit u v os → CarriedAs s t.types limit u w os → v ≡ w
  one_carried None v w os p q = absurd p
  one_carried (Some u) None None os p q = refl
  one_carried (Some u) (Some v) (Some w) (Some os) p q = ap Some (one_typed u.inner v w os p q)
  one_carried (Some u) (Some v) (Some w) None p q = absurd p
  one_carried (Some u) None (Some w) None p q = absurd q
  one_carried (Some u) None (Some w) (Some os) p q = absurd p
  one_carried (Some u) (Some v) None None p q = absurd p
  one_carried (Some u) (Some v) None (Some os) p q = absurd q

  some_is : (a b : Val) → Some a ≡ Some b → a ≡ b
  some_is a b e = cc

  one_return : (a b : Option Returned) (o : Option ReturnedOctets) → ReturnedAs t s limit a o → ReturnedAs t s limit b o → a ≡ b
  one_return None None o p q = refl
  one_return (Some a) (Some b) None p q = absurd p
  one_return None (Some b) None p q = absurd q
  one_return None (Some b) (Some o) p q = absurd p
  one_return (Some a) None None p q = absurd p
  one_return (Some a) None (Some o) p q = absurd q
  one_return (Some a) (Some b) (Some o) p q =
      let c : a.code ≡ b.code = sym p.0 ∙ q.0 in
      let m : CarriedAs s t.types limit (option_map result_of (operation_coded t b.code)) (Some a.value) (Some o.octets) =
      subst (λ (x : Code). CarriedAs s t.types limit (option_map result_of (operation_coded t x)) (Some a.value) (Some o.octets)) c p.1 in
      let v = some_is a.value b.value (one_carried (option_map result_of (operation_coded t b.code)) (Some a.value) (Some b.value) (Some o.octets) m q.1) in
      λ i. Some (record { code = c i; value = v i })

-- ---- APDUs

module _ (s : Syntax) (t : Tables) (sound : AreSoundRows t.types) where
  one_invoke : (i j : ℤ) (k l : Option ℤ) (c d : Code) (v w : Option Val) (h : Head) → SaysInvoke t s i k c v h → SaysInvoke t s j l d w h → apdus.Invoke i k c v ≡ apdus.Invoke j l d w
  one_invoke i j k l c d v w h p q =
      let e : invoke i k c p.octets ≡ invoke j l d q.octets = sym p.head_is ∙ q.head_is in
      let x : i ≡ j = cc in let y : k ≡ l = cc in let z : c ≡ d = cc in let o : p.octets ≡ q.octets = cc in
      let m : CarriedAs s t.types (room_behind s h) (option_map argument_of (operation_coded t d)) v q.octets =
      subst (λ (b : Code). CarriedAs s t.types (room_behind s h) (option_map argument_of (operation_coded t b)) v q.octets) z (subst (λ (b : Option (List ℕ)). CarriedAs s t.types (room_behind s h) (option_map argument_of (operation_coded t c)) v b) o p.typed) in
      let u : v ≡ w = one_carried s t sound (room_behind s h) (room_le s h) (option_map argument_of (operation_coded t d)) v w q.octets m q.typed in cc

  one_error : (i j : ℤ) (c d : Code) (v w : Option Val) (h : Head) → SaysError t s i c v h → SaysError t s j d w h → apdus.Error i c v ≡ apdus.Error j d w
  one_error i j c d v w h p q =
      let e : error i c p.octets ≡ error j d q.octets = sym p.head_is ∙ q.head_is in
      let x : i ≡ j = cc in let z : c ≡ d = cc in let o : p.octets ≡ q.octets = cc in
      let m : CarriedAs s t.types (room_behind s h) (option_map parameter_of (error_coded t d)) v q.octets =
      subst (λ (b : Code). CarriedAs s t.types (room_behind s h) (option_map parameter_of (error_coded t b)) v q.octets) z (subst (λ (b : Option (List ℕ)). CarriedAs s t.types (room_behind s h) (option_map parameter_of (error_coded t c)) v b) o p.typed) in
      let u : v ≡ w = one_carried s t sound (room_behind s h) (room_le s h) (option_map parameter_of (error_coded t d)) v w q.octets m q.typed in cc

  one_result : (i j : ℤ) (a b : Option Returned) (h : Head) → SaysResult t s i a h → SaysResult t s j b h → apdus.Result i a ≡ apdus.Result j b
  one_result i j a b h p q =
      let e : result i p.outcome ≡ result j q.outcome = sym p.head_is ∙ q.head_is in
      let x : i ≡ j = cc in let o : p.outcome ≡ q.outcome = cc in
      let m : ReturnedAs t s (room_behind s h) a q.outcome = subst (λ (y : Option ReturnedOctets). ReturnedAs t s (room_behind s h) a y) o p.typed in
      let u : a ≡ b = one_return s t sound (room_behind s h) (room_le s h) a b q.outcome m q.typed in cc

  one_said : (a b : Apdu) (h : Head) → Says t s a h → Says t s b h → a ≡ b
  one_said (apdus.Invoke i k c v) (apdus.Invoke j l d w) h p q = one_invoke i j k l c d v w h p q
  one_said (apdus.Result i a) (apdus.Result j b) h p q = one_result i j a b h p q
  one_said (apdus.Error i c v) (apdus.Error j d w) h p q = one_error i j c d v w h p q
  one_said (apdus.Reject i x) (apdus.Reject j y) h p q = let e : reject i x ≡ reject j y = sym p ∙ q in cc
  one_said (apdus.Invoke i k c v) (apdus.Result j b) h p q = let e : invoke i k c p.octets ≡ result j q.outcome = sym p.head_is ∙ q.head_is in absurd cc
  one_said (apdus.Invoke i k c v) (apdus.Error j d w) h p q = let e : invoke i k c p.octets ≡ error j d q.octets = sym p.head_is ∙ q.head_is in absurd cc
  one_said (apdus.Invoke i k c v) (apdus.Reject j y) h p q = let e : invoke i k c p.octets ≡ reject j y = sym p.head_is ∙ q in absurd cc
  one_said (apdus.Result i a) (apdus.Invoke j l d w) h p q = let e : result i p.outcome ≡ invoke j l d q.octets = sym p.head_is ∙ q.head_is in absurd cc
  one_said (apdus.Result i a) (apdus.Error j d w) h p q = let e : result i p.outcome ≡ error j d q.octets = sym p.head_is ∙ q.head_is in absurd cc
  one_said (apdus.Result i a) (apdus.Reject j y) h p q = let e : result i p.outcome ≡ reject j y = sym p.head_is ∙ q in absurd cc
  one_said (apdus.Error i c v) (apdus.Invoke j l d w) h p q = let e : error i c p.octets ≡ invoke j l d q.octets = sym p.head_is ∙ q.head_is in absurd cc
  one_said (apdus.Error i c v) (apdus.Result j b) h p q = let e : error i c p.octets ≡ result j q.outcome = sym p.head_is ∙ q.head_is in absurd cc
  one_said (apdus.Error i c v) (apdus.Reject j y) h p q = let e : error i c p.octets ≡ reject j y = sym p.head_is ∙ q in absurd cc
  one_said (apdus.Reject i x) (apdus.Invoke j l d w) h p q = let e : reject i x ≡ invoke j l d q.octets = sym p ∙ q.head_is in absurd cc
  one_said (apdus.Reject i x) (apdus.Result j b) h p q = let e : reject i x ≡ result j q.outcome = sym p ∙ q.head_is in absurd cc
  one_said (apdus.Reject i x) (apdus.Error j d w) h p q = let e : reject i x ≡ error j d q.octets = sym p ∙ q.head_is in absurd cc

  pub one_apdu : (a b : Apdu) (text : List ℕ) → Spells t s a text → Spells t s b text → a ≡ b
  one_apdu a b text p q =
      let same = one_head s p.head q.head text p.is_head q.is_head in
      one_said a b q.head (subst (Says t s a) same p.says) q.says
