-- What tests that pass or fail say.
use Rattle.std.proofs.Common.{◌≡◌, refl, true, false}
use Rattle.std.specs.Prelude.{Bool, not, ◌&&◌, Option, None, Some}
use Rattle.end_rules.specs.Base.{Fault}
use Rattle.end_rules.specs.Faults.{fault_if, or_fault}

pub clash : (x : Bool) → x ≡ true → x ≡ false → ⊥
clash x h i = cc

pub and-left : (a b : Bool) → (a && b) ≡ true → a ≡ true
and-left true b h = refl
and-left false b h = cc

pub and-right : (a b : Bool) → (a && b) ≡ true → b ≡ true
and-right true b h = h
and-right false b h = cc

-- ---- where there is no fault

pub no-fault : (b : Bool) (fault : Fault) → fault_if b fault ≡ None → b ≡ false
no-fault true fault h = cc
no-fault false fault h = refl

pub no-fault-so : (b : Bool) (fault : Fault) → fault_if (not b) fault ≡ None → b ≡ true
no-fault-so true fault h = refl
no-fault-so false fault h = cc

pub none-second : (x y : Option Fault) → or_fault x y ≡ None → y ≡ None
none-second None y h = h
none-second (Some fault) y h = cc
