-- What reading the octets of a value says of what they carry.
use Rattle.std.proofs.Common.{◌≡◌, ℕ, ◌≤◌, Bool, true, false, not, List, Option, Some, None, refl, sym, ap, subst, ◌∙◌, arith}
use Rattle.osi_base.specs.declared.syntax.Syntax.{Syntax}
use Rattle.osi_base.specs.declared.syntax.Syntax.TheVariants as syntax
use Rattle.asn1_types.specs.declared.value.Val.{Val}
use Rattle.end_wire.specs.Heads.{room_in}
use Rattle.stub_tables.specs.declared.tables.Tables.{Tables}
use Rattle.stub_tables.specs.declared.operation.Use.{Use}
use Rattle.stub_tables.specs.Readable.{IsReadable}
use Rattle.stub_tables.specs.Uses.{is_carried, may_lack}
use Rattle.apdu_spelling.specs.Spellings.{CarriedAs}
use Rattle.apdu_spelling.proofs.OneHead.{one_carried}
use Rattle.end_wire.specs.end_rules.Base.{Carried, Absent, Spelled, Unspelled}
use Rattle.end_wire.specs.end_rules.Hearing.{problem_if, value_in}
use Rattle.rose_roles.specs.declared.apdu_problems.ValueOrProblem.TheVariants as value_or_problem
use Rattle.rose_roles.specs.Heads.{Carries}
use Rattle.rose_roles.specs.Values.{IsAllowedIn}
use Rattle.rose_roles.specs.ApduProblems.{is_right, IsAllowed, IsValueOrProblem}

room_le : (s : Syntax) (room : ℕ) → room_in s room ≤ 262144
room_le syntax.Ber room = omega arith
room_le syntax.Der room = omega arith
room_le syntax.Packed room = omega arith

module _ (t : Tables) (readable : IsReadable t) (s : Syntax) (room : ℕ) (used : Use) where
  abbrev As : Option Val → Option (List ℕ) → Type 0
  As v os = CarriedAs s t.types (room_in s room) (Some used) v os

  same : (v w : Option Val) (os : Option (List ℕ)) → As v os → As w os → v ≡ w
  same v w os p q = one_carried s t readable.types (room_in s room) (room_le s room) (Some used) v w os p q

  no_lack : (os : List ℕ) → As None (Some os) → ⊥
  no_lack os h = h

  not_some : (b : Bool) → (b ≡ true → false ≡ true) → b ≡ false
  not_some true f = sym (f refl)
  not_some false f = refl

  right : (os : Option (List ℕ)) (c : Carried) (v : Option Val) → Carries s t.types room (Some used) os c → IsAllowedIn s t.types room used os (Some v) → IsAllowed (is_right t.types used c) (value_in c) (Some v)
  right None Absent None k h = (h.1, refl)
  right None Absent (Some v) k h = absurd h.0
  right None (Spelled w) v k h = absurd k
  right None Unspelled v k h = absurd k
  right (Some os) Absent v k h = absurd k
  right (Some os) (Spelled w) v k h =
      let e : v ≡ Some w = same v (Some w) (Some os) h.0 k in (subst (λ (x : Option Val). is_carried t.types used x ≡ true) e h.1, e)
  right (Some os) Unspelled None k h = absurd h.0
  right (Some os) Unspelled (Some v) k h = absurd (k v h.0)

  wrong : (os : Option (List ℕ)) (c : Carried) → Carries s t.types room (Some used) os c → IsAllowedIn s t.types room used os None → is_right t.types used c ≡ false
  wrong None Absent k h = not_some (may_lack used.inner used.optional) (λ e. sym (h None e) ∙ e)
  wrong None (Spelled w) k h = absurd k
  wrong None Unspelled k h = absurd k
  wrong (Some os) Absent k h = absurd k
  wrong (Some os) (Spelled w) k h = h (Some w) k
  wrong (Some os) Unspelled k h = refl

  pub right_there : (os : Option (List ℕ)) (problem : ℕ) (c : Carried) (v : Option Val) → Carries s t.types room (Some used) os c → IsAllowedIn s t.types room used os (Some v) → IsValueOrProblem (problem_if (not (is_right t.types used c)) problem) (value_in c) (value_or_problem.Right v)
  right_there os problem c v k h = let r = right os c v k h in (ap (λ (b : Bool). problem_if (not b) problem) r.0, r.1)

  pub wrong_there : (os : Option (List ℕ)) (problem : ℕ) (c : Carried) → Carries s t.types room (Some used) os c → IsAllowedIn s t.types room used os None → IsValueOrProblem (problem_if (not (is_right t.types used c)) problem) (value_in c) (value_or_problem.Wrong problem)
  wrong_there os problem c k h = ap (λ (b : Bool). problem_if (not b) problem) (wrong os c k h)
