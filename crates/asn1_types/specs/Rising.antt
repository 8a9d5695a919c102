-- The order of the items of a SET OF: by their DER spellings, octet by octet (X.690 11.6).
use Rattle.std.specs.Prelude.{ℕ, Bool, true, false, not, ◌&&◌, ◌||◌, List, [], ◌∷◌, nat_lt, nat_eq, if◌then◌else◌}
use Rattle.asn1_types.specs.Value.{Value, list, Values, no_values, value}

-- the first octet that differs is less, or the others begin with these
abbrev pub is_less : List ℕ → List ℕ → Bool
is_less [] [] = false
is_less [] (y ∷ ys) = true
is_less (x ∷ xs) [] = false
is_less (x ∷ xs) (y ∷ ys) = nat_lt x y || (nat_eq x y && is_less xs ys)

-- a value may stand behind another; equal ones may
abbrev pub follows : (Value → List ℕ) → Value → Value → Bool
follows spell v w = not (is_less (spell w) (spell v))

-- each item stands behind the one before
abbrev pub rise_behind : (Value → List ℕ) → Value → Values → Bool
rise_behind spell v no_values = true
rise_behind spell v (value w ws) = follows spell v w && rise_behind spell w ws

abbrev pub rise : (Value → List ℕ) → Values → Bool
rise spell no_values = true
rise spell (value v vs) = rise_behind spell v vs

abbrev pub set_rises : (Value → List ℕ) → Value → Bool
set_rises spell (list vs) = rise spell vs
set_rises spell v = false

-- the last item may stand before this value
abbrev pub behind_last : (Value → List ℕ) → List Value → Value → Bool
behind_last spell [] v = true
behind_last spell (w ∷ []) v = follows spell w v
behind_last spell (w ∷ x ∷ ws) v = behind_last spell (x ∷ ws) v

-- a value put before the first that may stand behind it
abbrev pub placed : (Value → List ℕ) → Value → List Value → List Value
placed spell v [] = v ∷ []
placed spell v (w ∷ ws) = if is_less (spell w) (spell v) then w ∷ placed spell v ws else v ∷ w ∷ ws

-- in rising order; equal ones stay as they stood
abbrev pub sorted : (Value → List ℕ) → List Value → List Value
sorted spell [] = []
sorted spell (v ∷ vs) = placed spell v (sorted spell vs)
