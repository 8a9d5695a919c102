-- Each head is the one that its value is.
use Rattle.std.proofs.Common.{◌≡◌, ℕ, ℤ, List, [], Option, Some, None, refl}
use Rattle.osi_base.specs.declared.layer_words.ProblemKind.{ProblemKind}
use Rattle.osi_base.specs.declared.layer_words.ProblemKind.TheVariants as kinds
use Rattle.stub_tables.specs.declared.operation.Code.{Code}
use Rattle.stub_tables.specs.declared.operation.Code.TheVariants.{Local, Global}
use Rattle.apdu_spelling.specs.Heads.{Head, invoke, result, error, reject, carried}
use Rattle.apdu_spelling.specs.Values.{ber_value, packed_value}
use Rattle.apdu_codec.specs.Pieces.{ber_head, packed_head}

module _ (number : ℤ) where
  reject_forth : (id : Option ℤ) (k : ProblemKind) → ber_head (ber_value (reject id (record { kind = k; number = number }))) ≡ Some (reject id (record { kind = k; number = number }))
  reject_forth None kinds.General = refl
  reject_forth None kinds.Invoke = refl
  reject_forth None kinds.Result = refl
  reject_forth None kinds.Error = refl
  reject_forth (Some id) kinds.General = refl
  reject_forth (Some id) kinds.Invoke = refl
  reject_forth (Some id) kinds.Result = refl
  reject_forth (Some id) kinds.Error = refl

  reject_packed : (id : Option ℤ) (k : ProblemKind) → packed_head (packed_value (reject id (record { kind = k; number = number }))) [] ≡ Some (reject id (record { kind = k; number = number }))
  reject_packed None kinds.General = refl
  reject_packed None kinds.Invoke = refl
  reject_packed None kinds.Result = refl
  reject_packed None kinds.Error = refl
  reject_packed (Some id) kinds.General = refl
  reject_packed (Some id) kinds.Invoke = refl
  reject_packed (Some id) kinds.Result = refl
  reject_packed (Some id) kinds.Error = refl

module _ (id : ℤ) (os : List ℕ) where
  result_forth : (c : Code) → ber_head (ber_value (result id (Some (record { code = c; octets = os })))) ≡ Some (result id (Some (record { code = c; octets = os })))
  result_forth (Local n) = refl
  result_forth (Global arcs) = refl

  result_packed : (c : Code) → packed_head (packed_value (result id (Some (record { code = c; octets = os })))) os ≡ Some (result id (Some (record { code = c; octets = os })))
  result_packed (Local n) = refl
  result_packed (Global arcs) = refl

pub ber_forth : (h : Head) → ber_head (ber_value h) ≡ Some h
ber_forth (invoke id None (Local n) None) = refl
ber_forth (invoke id None (Local n) (Some os)) = refl
ber_forth (invoke id None (Global n) None) = refl
ber_forth (invoke id None (Global n) (Some os)) = refl
ber_forth (invoke id (Some l) (Local n) None) = refl
ber_forth (invoke id (Some l) (Local n) (Some os)) = refl
ber_forth (invoke id (Some l) (Global n) None) = refl
ber_forth (invoke id (Some l) (Global n) (Some os)) = refl
ber_forth (result id None) = refl
ber_forth (result id (Some o)) = result_forth id o.octets o.code
ber_forth (error id (Local n) None) = refl
ber_forth (error id (Local n) (Some os)) = refl
ber_forth (error id (Global n) None) = refl
ber_forth (error id (Global n) (Some os)) = refl
ber_forth (reject id p) = reject_forth p.number id p.kind

pub packed_forth : (h : Head) → packed_head (packed_value h) (carried h) ≡ Some h
packed_forth (invoke id None (Local n) None) = refl
packed_forth (invoke id None (Local n) (Some os)) = refl
packed_forth (invoke id None (Global n) None) = refl
packed_forth (invoke id None (Global n) (Some os)) = refl
packed_forth (invoke id (Some l) (Local n) None) = refl
packed_forth (invoke id (Some l) (Local n) (Some os)) = refl
packed_forth (invoke id (Some l) (Global n) None) = refl
packed_forth (invoke id (Some l) (Global n) (Some os)) = refl
packed_forth (result id None) = refl
packed_forth (result id (Some o)) = result_packed id o.octets o.code
packed_forth (error id (Local n) None) = refl
packed_forth (error id (Local n) (Some os)) = refl
packed_forth (error id (Global n) None) = refl
packed_forth (error id (Global n) (Some os)) = refl
packed_forth (reject id p) = reject_packed p.number id p.kind
