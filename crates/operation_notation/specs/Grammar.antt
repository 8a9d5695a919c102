-- The grammar's means, over tokens: which tokens spell which value. Nothing here says how tokens are read.
use Rattle.std.specs.Prelude.{◌≡◌, ◌⊎◌, ℕ, Bool, true, false, List, [], ◌∷◌, ◌++◌, Option, Some, None}
use Rattle.notation_tokens.specs.Lexeme.{Lexeme}
use Rattle.notation_tokens.specs.Words.{place, word_of}
use Rattle.notation_tokens.specs.declared.token.Place.{Place}

-- which tokens spell which value
abbrev pub Rule : Type 0 → Type 1
Rule A = List Lexeme → A → Type 0

-- one token that passes a test
pub record One {A : Type 0} (test : Lexeme → Option A) (ts : List Lexeme) (a : A) : Type 0 where
  pub token : Lexeme
  pub alone : ts ≡ token ∷ []
  pub passes : test token ≡ Some a

-- what spells a, and behind it what the rule for a says
pub record Then {A B : Type 0} (r : List Lexeme → A → Type 0) (f : A → List Lexeme → B → Type 0) (ts : List Lexeme) (b : B) : Type 0 where
  pub front : List Lexeme
  pub back : List Lexeme
  pub value : A
  pub whole : ts ≡ front ++ back
  pub first : r front value
  pub second : f value back b

infixl 10 ◌>>=◌
abbrev pub ◌>>=◌ : {A B : Type 0} → (List Lexeme → A → Type 0) → (A → List Lexeme → B → Type 0) → List Lexeme → B → Type 0
r >>= f = Then r f

-- no token, which spells a
pub record Nothing {A : Type 0} (a : A) (ts : List Lexeme) (b : A) : Type 0 where
  pub none : ts ≡ []
  pub same_value : a ≡ b

-- one rule or the other
abbrev pub Either : {A : Type 0} → (List Lexeme → A → Type 0) → (List Lexeme → A → Type 0) → List Lexeme → A → Type 0
Either r s ts a = r ts a ⊎ s ts a

-- a rule, where it holds
abbrev pub Where : {A : Type 0} → Bool → (List Lexeme → A → Type 0) → List Lexeme → A → Type 0
Where true r ts a = r ts a
Where false r ts a = ⊥

-- a rule, or nothing
abbrev pub Maybe : {A : Type 0} → (List Lexeme → A → Type 0) → List Lexeme → Option A → Type 0
Maybe r ts None = ts ≡ []
Maybe r ts (Some a) = r ts a

-- one, and behind it the other
pub record Joined (p q : List Lexeme → Type 0) (ts : List Lexeme) : Type 0 where
  pub front : List Lexeme
  pub back : List Lexeme
  pub whole : ts ≡ front ++ back
  pub first : p front
  pub second : q back

-- a rule any number of times
abbrev pub Many : {A : Type 0} → (List Lexeme → A → Type 0) → List Lexeme → List A → Type 0
Many r ts [] = ts ≡ []
Many r ts (a ∷ more) = Joined (λ x. r x a) (λ y. Many r y more) ts

-- a word of the grammar's, with its place
abbrev pub The : List ℕ → List Lexeme → Place → Type 0
The word = One (word_of word)

-- a rule behind a word
abbrev pub Behind : {A : Type 0} → List ℕ → (List Lexeme → A → Type 0) → List Lexeme → A → Type 0
Behind word r = The word >>= λ _. r

-- one or more, parted by a word
abbrev pub Listed : {A : Type 0} → List ℕ → (List Lexeme → A → Type 0) → List Lexeme → List A → Type 0
Listed word r = r >>= λ first. Many (Behind word r) >>= λ others. Nothing (first ∷ others)

-- the first token stands here
abbrev pub StartsAt : List Lexeme → Place → Type 0
StartsAt [] p = ⊥
StartsAt (t ∷ ts) p = place t ≡ p

-- a rule, with the place of its first token
pub record Placed {A : Type 0} (r : Place → List Lexeme → A → Type 0) (ts : List Lexeme) (a : A) : Type 0 where
  pub at : Place
  pub starts : StartsAt ts at
  pub spelled : r at ts a
