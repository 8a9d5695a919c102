-- The head that a value is has this value.
use Rattle.std.proofs.Common.{◌≡◌, ℕ, zero, suc, ℤ, true, false, List, [], ◌∷◌, Option, Some, None, refl, sym, ap, ◌∙◌, option_map}
use Rattle.osi_base.specs.declared.layer_words.Problem.{Problem}
use Rattle.osi_base.specs.declared.layer_words.ProblemKind.{ProblemKind}
use Rattle.osi_base.specs.declared.layer_words.ProblemKind.TheVariants as kinds
use Rattle.asn1_types.specs.Value.{Value, boolean, integer, null, object_id, parts, chosen, any, MaybeValues, no_parts, present}
use Rattle.asn1_types.specs.ValueView.{parts_of}
use Rattle.stub_tables.specs.declared.operation.Code.{Code}
use Rattle.stub_tables.specs.declared.operation.Code.TheVariants.{Local, Global}
use Rattle.apdu_spelling.specs.Heads.{ReturnedOctets, Head, invoke, result, error, reject, carried, or_none}
use Rattle.apdu_spelling.specs.Values.{code_value, linked_part, rejected_value, problem_value, kind_place, any_part, returned_part, ber_value, mark_part, code_part, packed_value}
use Rattle.apdu_codec.specs.Pieces.{pieces_of, integer_in, linked_in, code_in, any_in, octets_in, rejected_in, problem_by, problem_in, outcome_by, invoke_by, result_by, error_by, reject_by, outcome_pieces, returned_in, invoke_pieces, result_pieces, error_pieces, reject_pieces, ber_pieces, ber_head, none_behind, marked_in, outcome_in, packed_invoke_pieces, packed_result_pieces, packed_error_pieces, packed_pieces, packed_head}
use Rattle.apdu_codec.proofs.Lists.{parts_back}

-- ---- pieces

integer_is : (o : Option Value) (i : ℤ) → integer_in o ≡ Some i → o ≡ Some (integer i)
integer_is (Some (integer n)) i e = cc
integer_is _ i e = absurd cc

code_is : (o : Option Value) (c : Code) → code_in o ≡ Some c → o ≡ Some (code_value c)
code_is (Some (chosen zero (integer n))) (Local m) e = cc
code_is (Some (chosen zero (integer n))) (Global m) e = absurd cc
code_is (Some (chosen (suc zero) (object_id n))) (Global m) e = cc
code_is (Some (chosen (suc zero) (object_id n))) (Local m) e = absurd cc
code_is _ c e = absurd cc

octets_is : (o : Option Value) (a : List ℕ) → octets_in o ≡ Some a → o ≡ Some (any a)
octets_is (Some (any os)) a e = cc
octets_is _ a e = absurd cc

linked_is : (o : Option Value) (l : Option ℤ) (xs : List (Option Value)) → linked_in o ≡ Some l → parts_of (o ∷ xs) ≡ linked_part l (parts_of xs)
linked_is None None xs e = refl
linked_is None (Some l) xs e = absurd cc
linked_is (Some (integer n)) None xs e = absurd cc
linked_is (Some (integer n)) (Some l) xs e = let x : n ≡ l = cc in ap (λ (z : ℤ). present (integer z) (parts_of xs)) x
linked_is (Some _) l xs e = absurd cc

any_is : (o : Option Value) (a : Option (List ℕ)) → any_in o ≡ Some a → parts_of (o ∷ []) ≡ any_part a
any_is None None e = refl
any_is None (Some a) e = absurd cc
any_is (Some (any os)) None e = absurd cc
any_is (Some (any os)) (Some a) e = let x : os ≡ a = cc in ap (λ (z : List ℕ). present (any z) no_parts) x
any_is (Some _) a e = absurd cc

rejected_is : (o : Option Value) (i : Option ℤ) → rejected_in o ≡ Some i → o ≡ Some (rejected_value i)
rejected_is (Some (chosen zero (integer n))) (Some m) e = cc
rejected_is (Some (chosen zero (integer n))) None e = absurd cc
rejected_is (Some (chosen (suc zero) null)) None e = refl
rejected_is (Some (chosen (suc zero) null)) (Some m) e = absurd cc
rejected_is _ i e = absurd cc

abbrev told : ProblemKind → ℤ → Problem
told k n = record { kind = k; number = n }

some_problem : (a b : Problem) → Some a ≡ Some b → a ≡ b
some_problem a b e = cc

problem_of : (k : ProblemKind) (v : Value) (p : Problem) → problem_by k v ≡ Some p → chosen (kind_place k) v ≡ problem_value p
problem_of k (integer n) p e = ap problem_value (some_problem (told k n) p e)
problem_of k _ p e = absurd cc

problem_is : (o : Option Value) (p : Problem) → problem_in o ≡ Some p → o ≡ Some (problem_value p)
problem_is (Some (chosen zero v)) p e = ap Some (problem_of kinds.General v p e)
problem_is (Some (chosen (suc zero) v)) p e = ap Some (problem_of kinds.Invoke v p e)
problem_is (Some (chosen (suc (suc zero)) v)) p e = ap Some (problem_of kinds.Result v p e)
problem_is (Some (chosen (suc (suc (suc zero))) v)) p e = ap Some (problem_of kinds.Error v p e)
problem_is (Some (chosen (suc (suc (suc (suc n)))) v)) p e = absurd cc
problem_is _ p e = absurd cc

-- ---- what is returned

record IsOutcome (c : Option Code) (a : Option (List ℕ)) (o : ReturnedOctets) : Type 0 where
  code : c ≡ Some o.code
  octets : a ≡ Some o.octets

abbrev made : Code → List ℕ → ReturnedOctets
made c a = record { code = c; octets = a }

some_outcome : (x y : ReturnedOctets) → Some x ≡ Some y → x ≡ y
some_outcome x y e = cc

outcomes : (c : Option Code) (a : Option (List ℕ)) (o : ReturnedOctets) → outcome_by c a ≡ Some o → IsOutcome c a o
outcomes (Some c) (Some a) o e =
    let same = some_outcome (made c a) o e in
    record { code = ap Some (ap (λ (z : ReturnedOctets). z.code) same); octets = ap Some (ap (λ (z : ReturnedOctets). z.octets) same) }
outcomes None a o e = absurd cc
outcomes (Some c) None o e = absurd cc

two_is : (ps : List (Option Value)) (o : ReturnedOctets) → outcome_pieces ps ≡ Some o → parts_of ps ≡ present (code_value o.code) (present (any o.octets) no_parts)
two_is (code ∷ value ∷ []) o e =
    let x = outcomes (code_in code) (octets_in value) o e in
    ap (λ (z : Option Value). parts_of (z ∷ value ∷ [])) (code_is code o.code x.code)
    ∙ ap (λ (z : Option Value). present (code_value o.code) (parts_of (z ∷ []))) (octets_is value o.octets x.octets)
two_is [] o e = absurd cc
two_is (a ∷ []) o e = absurd cc
two_is (a ∷ b ∷ c ∷ ps) o e = absurd cc

returned_is : (p : Option Value) (x : Option ReturnedOctets) → returned_in p ≡ Some x → parts_of (p ∷ []) ≡ returned_part x
returned_is None None e = refl
returned_is None (Some o) e = absurd cc
returned_is (Some (parts vs)) x e = by_outcome (outcome_pieces (pieces_of vs)) refl e
  where
    by_outcome : (y : Option ReturnedOctets) → outcome_pieces (pieces_of vs) ≡ y → option_map Some y ≡ Some x → present (parts vs) no_parts ≡ returned_part x
    by_outcome None is f = absurd cc
    by_outcome (Some o) is f =
        let z : Some o ≡ x = cc in
        ap (λ (w : MaybeValues). present (parts w) no_parts) (sym (parts_back vs) ∙ two_is (pieces_of vs) o is) ∙ ap returned_part z
returned_is (Some _) x e = absurd cc

-- ---- heads by their pieces

record Invokes (a : Option ℤ) (b : Option (Option ℤ)) (c : Option Code) (d : Option (Option (List ℕ))) (h : Head) : Type 0 where
  i : ℤ
  l : Option ℤ
  k : Code
  o : Option (List ℕ)
  id : a ≡ Some i
  linked : b ≡ Some l
  code : c ≡ Some k
  octets : d ≡ Some o
  head : invoke i l k o ≡ h

some_head : (x y : Head) → Some x ≡ Some y → x ≡ y
some_head x y e = cc

invokes : (a : Option ℤ) (b : Option (Option ℤ)) (c : Option Code) (d : Option (Option (List ℕ))) (h : Head) → invoke_by a b c d ≡ Some h → Invokes a b c d h
invokes (Some i) (Some l) (Some k) (Some o) h e = record { i = i; l = l; k = k; o = o; id = refl; linked = refl; code = refl; octets = refl; head = some_head (invoke i l k o) h e }
invokes None b c d h e = absurd cc
invokes (Some i) None c d h e = absurd cc
invokes (Some i) (Some l) None d h e = absurd cc
invokes (Some i) (Some l) (Some k) None h e = absurd cc

record Results (a : Option ℤ) (b : Option (Option ReturnedOctets)) (h : Head) : Type 0 where
  i : ℤ
  o : Option ReturnedOctets
  id : a ≡ Some i
  outcome : b ≡ Some o
  head : result i o ≡ h

results : (a : Option ℤ) (b : Option (Option ReturnedOctets)) (h : Head) → result_by a b ≡ Some h → Results a b h
results (Some i) (Some o) h e = record { i = i; o = o; id = refl; outcome = refl; head = some_head (result i o) h e }
results None b h e = absurd cc
results (Some i) None h e = absurd cc

record Errors (a : Option ℤ) (c : Option Code) (d : Option (Option (List ℕ))) (h : Head) : Type 0 where
  i : ℤ
  k : Code
  o : Option (List ℕ)
  id : a ≡ Some i
  code : c ≡ Some k
  octets : d ≡ Some o
  head : error i k o ≡ h

errors : (a : Option ℤ) (c : Option Code) (d : Option (Option (List ℕ))) (h : Head) → error_by a c d ≡ Some h → Errors a c d h
errors (Some i) (Some k) (Some o) h e = record { i = i; k = k; o = o; id = refl; code = refl; octets = refl; head = some_head (error i k o) h e }
errors None c d h e = absurd cc
errors (Some i) None d h e = absurd cc
errors (Some i) (Some k) None h e = absurd cc

record Rejects (a : Option (Option ℤ)) (b : Option Problem) (h : Head) : Type 0 where
  i : Option ℤ
  p : Problem
  id : a ≡ Some i
  problem : b ≡ Some p
  head : reject i p ≡ h

rejects : (a : Option (Option ℤ)) (b : Option Problem) (h : Head) → reject_by a b ≡ Some h → Rejects a b h
rejects (Some i) (Some p) h e = record { i = i; p = p; id = refl; problem = refl; head = some_head (reject i p) h e }
rejects None b h e = absurd cc
rejects (Some i) None h e = absurd cc

-- the parts of an invocation, and of an error, with what stands in their last
invoke_parts : (id linked code : Option Value) (xs : List (Option Value)) (i : ℤ) (l : Option ℤ) (k : Code) → integer_in id ≡ Some i → linked_in linked ≡ Some l → code_in code ≡ Some k
    → parts_of (id ∷ linked ∷ code ∷ xs) ≡ present (integer i) (linked_part l (present (code_value k) (parts_of xs)))
invoke_parts id linked code xs i l k a b c =
    ap (λ (z : Option Value). parts_of (z ∷ linked ∷ code ∷ xs)) (integer_is id i a)
    ∙ ap (present (integer i)) (linked_is linked l (code ∷ xs) b)
    ∙ ap (λ (z : Option Value). present (integer i) (linked_part l (parts_of (z ∷ xs)))) (code_is code k c)

error_parts : (id code : Option Value) (xs : List (Option Value)) (i : ℤ) (k : Code) → integer_in id ≡ Some i → code_in code ≡ Some k
    → parts_of (id ∷ code ∷ xs) ≡ present (integer i) (present (code_value k) (parts_of xs))
error_parts id code xs i k a c =
    ap (λ (z : Option Value). parts_of (z ∷ code ∷ xs)) (integer_is id i a)
    ∙ ap (λ (z : Option Value). present (integer i) (parts_of (z ∷ xs))) (code_is code k c)

reject_parts : (id problem : Option Value) (i : Option ℤ) (p : Problem) → rejected_in id ≡ Some i → problem_in problem ≡ Some p
    → parts_of (id ∷ problem ∷ []) ≡ present (rejected_value i) (present (problem_value p) no_parts)
reject_parts id problem i p a b =
    ap (λ (z : Option Value). parts_of (z ∷ problem ∷ [])) (rejected_is id i a)
    ∙ ap (λ (z : Option Value). present (rejected_value i) (parts_of (z ∷ []))) (problem_is problem p b)

-- ---- BER and DER

invoke_is : (ps : List (Option Value)) (h : Head) → invoke_pieces ps ≡ Some h → chosen 0 (parts (parts_of ps)) ≡ ber_value h
invoke_is (id ∷ linked ∷ code ∷ argument ∷ []) h e =
    let x = invokes (integer_in id) (linked_in linked) (code_in code) (any_in argument) h e in
    ap (λ (z : MaybeValues). chosen 0 (parts z)) (invoke_parts id linked code (argument ∷ []) x.i x.l x.k x.id x.linked x.code
    ∙ ap (λ (z : MaybeValues). present (integer x.i) (linked_part x.l (present (code_value x.k) z))) (any_is argument x.o x.octets)) ∙ ap ber_value x.head
invoke_is [] h e = absurd cc
invoke_is (a ∷ []) h e = absurd cc
invoke_is (a ∷ b ∷ []) h e = absurd cc
invoke_is (a ∷ b ∷ c ∷ []) h e = absurd cc
invoke_is (a ∷ b ∷ c ∷ d ∷ f ∷ ps) h e = absurd cc

result_is : (ps : List (Option Value)) (h : Head) → result_pieces ps ≡ Some h → chosen 1 (parts (parts_of ps)) ≡ ber_value h
result_is (id ∷ returned ∷ []) h e =
    let x = results (integer_in id) (returned_in returned) h e in
    ap (λ (z : MaybeValues). chosen 1 (parts z)) (ap (λ (z : Option Value). parts_of (z ∷ returned ∷ [])) (integer_is id x.i x.id) ∙ ap (present (integer x.i)) (returned_is returned x.o x.outcome)) ∙ ap ber_value x.head
result_is [] h e = absurd cc
result_is (a ∷ []) h e = absurd cc
result_is (a ∷ b ∷ c ∷ ps) h e = absurd cc

error_is : (ps : List (Option Value)) (h : Head) → error_pieces ps ≡ Some h → chosen 2 (parts (parts_of ps)) ≡ ber_value h
error_is (id ∷ code ∷ parameter ∷ []) h e =
    let x = errors (integer_in id) (code_in code) (any_in parameter) h e in
    ap (λ (z : MaybeValues). chosen 2 (parts z)) (error_parts id code (parameter ∷ []) x.i x.k x.id x.code
    ∙ ap (λ (z : MaybeValues). present (integer x.i) (present (code_value x.k) z)) (any_is parameter x.o x.octets)) ∙ ap ber_value x.head
error_is [] h e = absurd cc
error_is (a ∷ []) h e = absurd cc
error_is (a ∷ b ∷ []) h e = absurd cc
error_is (a ∷ b ∷ c ∷ d ∷ ps) h e = absurd cc

reject_is : (which : ℕ) (ps : List (Option Value)) (h : Head) (value : Head → Value) → ((i : Option ℤ) (p : Problem) → chosen which (parts (present (rejected_value i) (present (problem_value p) no_parts))) ≡ value (reject i p))
    → reject_pieces ps ≡ Some h → chosen which (parts (parts_of ps)) ≡ value h
reject_is which (id ∷ problem ∷ []) h value is e =
    let x = rejects (rejected_in id) (problem_in problem) h e in
    ap (λ (z : MaybeValues). chosen which (parts z)) (reject_parts id problem x.i x.p x.id x.problem) ∙ is x.i x.p ∙ ap value x.head
reject_is which [] h value is e = absurd cc
reject_is which (a ∷ []) h value is e = absurd cc
reject_is which (a ∷ b ∷ c ∷ ps) h value is e = absurd cc

pieces_are : (which : ℕ) (ps : List (Option Value)) (h : Head) → ber_pieces which ps ≡ Some h → chosen which (parts (parts_of ps)) ≡ ber_value h
pieces_are zero ps h e = invoke_is ps h e
pieces_are (suc zero) ps h e = result_is ps h e
pieces_are (suc (suc zero)) ps h e = error_is ps h e
pieces_are (suc (suc (suc zero))) ps h e = reject_is 3 ps h ber_value (λ i p. refl) e
pieces_are (suc (suc (suc (suc n)))) ps h e = absurd cc

pub ber_back : (v : Value) (h : Head) → ber_head v ≡ Some h → v ≡ ber_value h
ber_back (chosen which (parts vs)) h e = ap (λ (z : MaybeValues). chosen which (parts z)) (sym (parts_back vs)) ∙ pieces_are which (pieces_of vs) h e
ber_back _ h e = absurd cc

-- ---- the packed syntax

nothing_behind : {A : Type 0} (rest : List ℕ) (x : Option A) (y : A) → none_behind rest x ≡ Some y → (rest ≡ []) × (x ≡ Some y)
nothing_behind [] x y e = (refl, e)
nothing_behind (o ∷ os) x y e = absurd cc

mark_is : (o : Option Value) (rest : List ℕ) (a : Option (List ℕ)) → marked_in o rest ≡ Some a → (parts_of (o ∷ []) ≡ mark_part a) × (rest ≡ or_none a)
mark_is (Some (boolean true)) rest (Some a) e = let x : rest ≡ a = cc in (refl, x)
mark_is (Some (boolean true)) rest None e = absurd cc
mark_is (Some (boolean false)) [] None e = (refl, refl)
mark_is (Some (boolean false)) [] (Some a) e = absurd cc
mark_is (Some (boolean false)) (o ∷ os) a e = absurd cc
mark_is _ rest a e = absurd cc

abbrev outcome_octets : Option ReturnedOctets → List ℕ
outcome_octets None = []
outcome_octets (Some o) = o.octets

outcome_is : (p : Option Value) (rest : List ℕ) (x : Option ReturnedOctets) → outcome_in p rest ≡ Some x → (parts_of (p ∷ []) ≡ code_part x) × (rest ≡ outcome_octets x)
outcome_is None [] None e = (refl, refl)
outcome_is None [] (Some o) e = absurd cc
outcome_is None (o ∷ os) x e = absurd cc
outcome_is (Some v) rest x e = by_outcome (outcome_by (code_in (Some v)) (Some rest)) refl e
  where
    by_outcome : (y : Option ReturnedOctets) → outcome_by (code_in (Some v)) (Some rest) ≡ y → option_map Some y ≡ Some x → (present v no_parts ≡ code_part x) × (rest ≡ outcome_octets x)
    by_outcome None is f = absurd cc
    by_outcome (Some o) is f =
        let z : Some o ≡ x = cc in
        let y = outcomes (code_in (Some v)) (Some rest) o is in
        let w : rest ≡ o.octets = (let q = y.octets in cc) in
        (ap (λ (u : Option Value). parts_of (u ∷ [])) (code_is (Some v) o.code y.code) ∙ ap code_part z, w ∙ ap outcome_octets z)

packed_invoke_is : (ps : List (Option Value)) (rest : List ℕ) (h : Head) → packed_invoke_pieces ps rest ≡ Some h → (chosen 1 (parts (parts_of ps)) ≡ packed_value h) × (rest ≡ carried h)
packed_invoke_is (id ∷ linked ∷ code ∷ mark ∷ []) rest h e =
    let x = invokes (integer_in id) (linked_in linked) (code_in code) (marked_in mark rest) h e in
    let m = mark_is mark rest x.o x.octets in (
      ap (λ (z : MaybeValues). chosen 1 (parts z)) (invoke_parts id linked code (mark ∷ []) x.i x.l x.k x.id x.linked x.code
          ∙ ap (λ (z : MaybeValues). present (integer x.i) (linked_part x.l (present (code_value x.k) z))) m.0) ∙ ap packed_value x.head,
      m.1 ∙ ap carried x.head,
    )
packed_invoke_is [] rest h e = absurd cc
packed_invoke_is (a ∷ []) rest h e = absurd cc
packed_invoke_is (a ∷ b ∷ []) rest h e = absurd cc
packed_invoke_is (a ∷ b ∷ c ∷ []) rest h e = absurd cc
packed_invoke_is (a ∷ b ∷ c ∷ d ∷ f ∷ ps) rest h e = absurd cc

carried_outcome : (i : ℤ) (o : Option ReturnedOctets) → outcome_octets o ≡ carried (result i o)
carried_outcome i None = refl
carried_outcome i (Some o) = refl

packed_result_is : (ps : List (Option Value)) (rest : List ℕ) (h : Head) → packed_result_pieces ps rest ≡ Some h → (chosen 2 (parts (parts_of ps)) ≡ packed_value h) × (rest ≡ carried h)
packed_result_is (id ∷ code ∷ []) rest h e =
    let x = results (integer_in id) (outcome_in code rest) h e in
    let m = outcome_is code rest x.o x.outcome in (
      ap (λ (z : MaybeValues). chosen 2 (parts z)) (ap (λ (z : Option Value). parts_of (z ∷ code ∷ [])) (integer_is id x.i x.id) ∙ ap (present (integer x.i)) m.0) ∙ ap packed_value x.head,
      m.1 ∙ carried_outcome x.i x.o ∙ ap carried x.head,
    )
packed_result_is [] rest h e = absurd cc
packed_result_is (a ∷ []) rest h e = absurd cc
packed_result_is (a ∷ b ∷ c ∷ ps) rest h e = absurd cc

packed_error_is : (ps : List (Option Value)) (rest : List ℕ) (h : Head) → packed_error_pieces ps rest ≡ Some h → (chosen 3 (parts (parts_of ps)) ≡ packed_value h) × (rest ≡ carried h)
packed_error_is (id ∷ code ∷ mark ∷ []) rest h e =
    let x = errors (integer_in id) (code_in code) (marked_in mark rest) h e in
    let m = mark_is mark rest x.o x.octets in (
      ap (λ (z : MaybeValues). chosen 3 (parts z)) (error_parts id code (mark ∷ []) x.i x.k x.id x.code
          ∙ ap (λ (z : MaybeValues). present (integer x.i) (present (code_value x.k) z)) m.0) ∙ ap packed_value x.head,
      m.1 ∙ ap carried x.head,
    )
packed_error_is [] rest h e = absurd cc
packed_error_is (a ∷ []) rest h e = absurd cc
packed_error_is (a ∷ b ∷ []) rest h e = absurd cc
packed_error_is (a ∷ b ∷ c ∷ d ∷ ps) rest h e = absurd cc

reject_carries : (ps : List (Option Value)) (h : Head) → reject_pieces ps ≡ Some h → [] ≡ carried h
reject_carries (id ∷ problem ∷ []) h e = let x = rejects (rejected_in id) (problem_in problem) h e in ap carried x.head
reject_carries [] h e = absurd cc
reject_carries (a ∷ []) h e = absurd cc
reject_carries (a ∷ b ∷ c ∷ ps) h e = absurd cc

packed_are : (which : ℕ) (ps : List (Option Value)) (rest : List ℕ) (h : Head) → packed_pieces which ps rest ≡ Some h → (chosen which (parts (parts_of ps)) ≡ packed_value h) × (rest ≡ carried h)
packed_are zero ps rest h e = absurd cc
packed_are (suc zero) ps rest h e = packed_invoke_is ps rest h e
packed_are (suc (suc zero)) ps rest h e = packed_result_is ps rest h e
packed_are (suc (suc (suc zero))) ps rest h e = packed_error_is ps rest h e
packed_are (suc (suc (suc (suc zero)))) ps rest h e =
    let n = nothing_behind rest (reject_pieces ps) h e in
    (reject_is 4 ps h packed_value (λ i p. refl) n.1, n.0 ∙ reject_carries ps h n.1)
packed_are (suc (suc (suc (suc (suc n))))) ps rest h e = absurd cc

pub packed_back : (v : Value) (rest : List ℕ) (h : Head) → packed_head v rest ≡ Some h → (v ≡ packed_value h) × (rest ≡ carried h)
packed_back (chosen which (parts vs)) rest h e =
    let p = packed_are which (pieces_of vs) rest h e in
    (ap (λ (z : MaybeValues). chosen which (parts z)) (sym (parts_back vs)) ∙ p.0, p.1)
packed_back _ rest h e = absurd cc
