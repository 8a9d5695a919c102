-- Reading tokens from left to right, with the first fault that is met: the means.
use Rattle.std.specs.Prelude.{◌≡◌, ◌<◌, ◌≤◌, ℕ, zero, suc, ℤ, pos, Bool, List, [], ◌∷◌, length, Option, Some, None, Result, Ok, Err, OnOk, if◌then◌else◌}
use Rattle.osi_base.specs.Limits.{most_signed}
use Rattle.notation_tokens.specs.Lexeme.{Lexeme, begins}
use Rattle.notation_tokens.specs.Words.{is_unsupported, place, word_of, type_name_of, value_name_of, number_of, int_of, end_of, bool_of}
use Rattle.notation_tokens.specs.declared.faults.NotationKind.{NotationKind}
use Rattle.notation_tokens.specs.declared.faults.NotationKind.TheVariants.{Unsupported, UnexpectedToken}
use Rattle.operation_notation.specs.declared.fault.Refusal.{Refusal}
use Rattle.operation_notation.specs.declared.fault.Refusal.TheVariants as refusals
use Rattle.notation_tokens.specs.declared.token.Place.{Place}
use Rattle.notation_tokens.specs.declared.token.Located.{Located}

-- the tokens from the faulty one on (none where the text ends too early), and what is wrong with it
pub record Failure : Type 0 where
  pub rest : List Lexeme
  pub kind : NotationKind

-- what reading gives: a value and the tokens after it, or the first fault
abbrev pub Read : Type 0 → Type 0
Read A = Result (A × List Lexeme) Failure

abbrev pub after : {A B : Type 0} → Read A → (A → List Lexeme → Read B) → Read B
after (Ok x) f = f x.0 x.1
after (Err e) f = Err e

-- one after the other
infixl 10 ◌>>=◌
abbrev pub ◌>>=◌ : {A B : Type 0} → (List Lexeme → Read A) → (A → List Lexeme → Read B) → List Lexeme → Read B
(r >>= f) ts = after (r ts) f

abbrev pub give : {A : Type 0} → A → List Lexeme → Read A
give a ts = Ok (a, ts)

abbrev pub FailsWith : {A : Type 0} → Refusal → List Lexeme → Read A → Type 0
FailsWith refusals.NoMemory rest read = Unit {0}
FailsWith (refusals.Fault kind) rest read = read ≡ Err (record { rest = rest; kind = kind })

-- What a function returned, and the tokens that it left, are what reading gives, unless memory ran out.
abbrev pub Gives : {A : Type 0} → Result A Refusal → List Lexeme → Read A → Type 0
Gives (Ok x) rest read = read ≡ Ok (x, rest)
Gives (Err e) rest read = FailsWith e rest read

-- the same, where the function's value is seen by a view
abbrev pub GivesAs : {A B : Type 0} → (A → B) → Result A Refusal → List Lexeme → Read B → Type 0
GivesAs view (Ok x) rest read = read ≡ Ok (view x, rest)
GivesAs view (Err e) rest read = FailsWith e rest read

-- where a function succeeds it has taken a token at least, and it never leaves more tokens than it found
pub record Shortens {A E : Type 0} (result : Result A E) (old new : List Lexeme) : Type 0 where
  pub on_ok : OnOk result (length new < length old)
  pub always : length new ≤ length old

-- what is wrong with a first token that can't stand where it stands
unfoldable pub kind_at : List Lexeme → NotationKind
kind_at [] = UnexpectedToken
kind_at (t ∷ ts) = if is_unsupported t.text then Unsupported else UnexpectedToken

abbrev pub refuse : {A : Type 0} → List Lexeme → Read A
refuse ts = Err (record { rest = ts; kind = kind_at ts })

abbrev pub refuse_as : {A : Type 0} → NotationKind → List Lexeme → Read A
refuse_as kind ts = Err (record { rest = ts; kind = kind })

abbrev pub taken : {A : Type 0} → Option A → Lexeme → List Lexeme → Read A
taken (Some a) t ts = Ok (a, ts)
taken None t ts = refuse (t ∷ ts)

-- one token that passes a test
abbrev pub token_at : {A : Type 0} → (Lexeme → Option A) → List Lexeme → Read A
token_at test [] = refuse []
token_at test (t ∷ ts) = taken (test t) t ts

unfoldable pub word_at : List ℕ → List Lexeme → Read Place
word_at word = token_at (word_of word)

unfoldable pub type_name_at : List Lexeme → Read Located
type_name_at = token_at type_name_of

unfoldable pub value_name_at : List Lexeme → Read Located
value_name_at = token_at value_name_of

unfoldable pub number_at : ℕ → List Lexeme → Read ℕ
number_at most = token_at (number_of most)

-- a number without a sign among those of 64 bits with one
unfoldable pub number_64_at : List Lexeme → Read ℤ
number_64_at = number_at most_signed >>= λ n. give (pos n)

unfoldable pub int_at : List Lexeme → Read ℤ
int_at = token_at int_of

unfoldable pub end_at : List Lexeme → Read ℤ
end_at = token_at end_of

unfoldable pub bool_at : List Lexeme → Read Bool
bool_at = token_at bool_of

-- the place of the first token, which isn't taken
abbrev pub place_of : List Lexeme → Place
place_of [] = record { line = 0; column = 0 }
place_of (t ∷ ts) = place t

abbrev pub here : List Lexeme → Read Place
here ts = Ok (place_of ts, ts)

-- r where the first token is this word
abbrev pub maybe_at : {A : Type 0} → List ℕ → (List Lexeme → Read A) → List Lexeme → Read (Option A)
maybe_at word r ts = if begins word ts then (r >>= λ a. give (Some a)) ts else Ok (None, ts)

-- r again and again while the test holds, at most so often
unfoldable pub many_at : {A : Type 0} → (List Lexeme → Bool) → (List Lexeme → Read A) → ℕ → List Lexeme → Read (List A)
many_at test r zero ts = Ok ([], ts)
many_at test r (suc n) ts = if test ts then (r >>= λ a. many_at test r n >>= λ more. give (a ∷ more)) ts else Ok ([], ts)

-- r again and again while the test holds; each time takes a token at least
abbrev pub all_at : {A : Type 0} → (List Lexeme → Bool) → (List Lexeme → Read A) → List Lexeme → Read (List A)
all_at test r ts = many_at test r (length ts) ts

-- r behind a word
abbrev pub behind : {A : Type 0} → List ℕ → (List Lexeme → Read A) → List Lexeme → Read A
behind word r = word_at word >>= λ _. r

-- one or more, parted by a word
abbrev pub listed_at : {A : Type 0} → List ℕ → (List Lexeme → Read A) → List Lexeme → Read (List A)
listed_at word r = do
  first ← r
  others ← all_at (begins word) (behind word r)
  give (first ∷ others)
