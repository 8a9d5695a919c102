-- Steps that may fail, taken apart.
use Rattle.std.proofs.Common.{◌≡◌, Bool, true, false, cond, Result, Ok, Err, refl, inl, inr}
use Rattle.std.specs.Prelude.{◌⊎◌}
use Rattle.spdu_codec.specs.Reading.{UnitFault, ◌>>=◌}

abbrev done : {A : Type 0} → A → Result A UnitFault
done x = Ok x

pub ok_is : {A : Type 0} (x y : A) → done x ≡ done y → x ≡ y
ok_is x y e = cc

-- a test that refuses did not hold
pub refused : {A : Type 0} (b : Bool) (s : UnitFault) (r : Result A UnitFault) (y : A) → cond b (Err s) r ≡ Ok y → (b ≡ false) × (r ≡ Ok y)
refused true s r y e = absurd cc
refused false s r y e = (refl, e)

-- a test that lets pass held
pub passed : {A : Type 0} (b : Bool) (s : UnitFault) (r : Result A UnitFault) (y : A) → cond b r (Err s) ≡ Ok y → (b ≡ true) × (r ≡ Ok y)
passed true s r y e = (refl, e)
passed false s r y e = absurd cc

-- which way a test went
pub chosen : {A : Type 0} (b : Bool) (x y z : A) → cond b x y ≡ z → ((b ≡ true) × (x ≡ z)) ⊎ ((b ≡ false) × (y ≡ z))
chosen true x y z e = inl (refl, e)
chosen false x y z e = inr (refl, e)

-- a first step that was right
pub bound : {A B : Type 0} (r : Result A UnitFault) (f : A → Result B UnitFault) (y : B) → (r >>= f) ≡ Ok y → (x : A) × (r ≡ Ok x) × (f x ≡ Ok y)
bound (Ok x) f y e = (x, refl, e)
bound (Err s) f y e = absurd cc

-- equal steps
pub same_steps : {A B : Type 0} (r : Result A UnitFault) (f g : A → Result B UnitFault) → ((x : A) → r ≡ Ok x → f x ≡ g x) → (r >>= f) ≡ (r >>= g)
same_steps (Ok x) f g e = e x refl
same_steps (Err s) f g e = refl
