-- The command `check MODULE [--table]`.
use Rattle.std.specs.Prelude.{ℕ, ◌==◌, Bool, true, false, not, ◌&&◌, ◌||◌, if◌then◌else◌, List, [], ◌∷◌, Option, None, Some, is_some, codes, bytes_eq}

-- a check, by the name of the module's file, and whether its table file is wanted
pub record Check : Type 0 where
  pub «module» : List ℕ
  pub table : Bool

-- a word that begins with `-` and is longer
abbrev pub is_flag : List ℕ → Bool
is_flag [] = false
is_flag (first ∷ []) = false
is_flag (first ∷ second ∷ more) = first == 45

abbrev pub is_check : Option (List ℕ) → Bool → Option Check
is_check None table = None
is_check (Some name) table = Some (record { «module» = name; table = table })

-- The words behind `check`, from the left: whether `--` ended the flags, whether `--table` stood, and the name so far. A flag stands at
-- most once, in any place before a `--`; there is one name.
abbrev pub check_words : Bool → Bool → Option (List ℕ) → List (List ℕ) → Option Check
check_words ended table name [] = is_check name table
check_words ended table name (word ∷ words) =
    if not ended && bytes_eq word (codes "--") then check_words true table name words
    else (if not ended && bytes_eq word (codes "--table") then (if table then None else check_words ended true name words)
    else (if (not ended && is_flag word) || is_some name then None else check_words ended table (Some word) words))

-- the check that words give
abbrev pub check_of : List (List ℕ) → Option Check
check_of [] = None
check_of (word ∷ words) = if bytes_eq word (codes "check") then check_words false false None words else None
