-- Presentation contexts, sets of them and their alterations (X.216 7.2, X.226 6.2, 6.3).
use Rattle.std.specs.Prelude.{◌≡◌, ℕ, suc, ◌<◌, ◌%◌, Bool, true, false, ◌||◌, ◌++◌, nat_eq, nat_lt, if◌then◌else◌, List, [], ◌∷◌, Option, Some, None, is_some, Contains}

-- the two ends of an association (X.217: the one that asks for it, and the other)
pub data Role : Type 0 where
  Initiator : Role
  Responder : Role

abbrev pub other : Role → Role
other Initiator = Responder
other Responder = Initiator

abbrev pub is_initiator : Role → Bool
is_initiator Initiator = true
is_initiator Responder = false

-- an abstract syntax with a transfer syntax, as object identifiers (X.216 3.4)
pub record Pair : Type 0 where
  pub abstract_syntax : List ℕ
  pub transfer_syntax : List ℕ

-- a presentation context: an identifier with its pair
pub record Context : Type 0 where
  pub identifier : ℕ
  pub pair : Pair

-- a defined context set, by rising identifier (X.216 3.4)
abbrev pub ContextSet : Type 0
ContextSet = List Context

-- all identifiers of the set lie above k
abbrev pub AllAbove : ℕ → ContextSet → Type 0
AllAbove k [] = Unit {0}
AllAbove k (c ∷ cs) = (k < c.identifier) × AllAbove k cs

abbrev pub IsRising : ContextSet → Type 0
IsRising [] = Unit {0}
IsRising (c ∷ cs) = AllAbove c.identifier cs × IsRising cs

-- the pair that a set gives an identifier
abbrev pub lookup : ContextSet → ℕ → Option Pair
lookup [] k = None
lookup (c ∷ cs) k = if nat_eq c.identifier k then Some c.pair else lookup cs k

abbrev pub put : ℕ → Pair → ContextSet → ContextSet
put k p [] = record { identifier = k; pair = p } ∷ []
put k p (c ∷ cs) =
    if nat_lt k c.identifier
    then record { identifier = k; pair = p } ∷ c ∷ cs
    else if nat_eq k c.identifier
    then record { identifier = k; pair = p } ∷ cs
    else c ∷ put k p cs

abbrev pub remove : ℕ → ContextSet → ContextSet
remove k [] = []
remove k (c ∷ cs) = if nat_eq c.identifier k then remove k cs else c ∷ remove k cs

-- one item of an alteration: a context to be added, with the pairs that are offered for it, or one
-- to be deleted (X.226 8.2)
pub data Item : Type 0 where
  Addition : (identifier : ℕ) → (offers : List Pair) → Item
  Deletion : (identifier : ℕ) → Item

-- its result: an addition is rejected, or accepted with one of its pairs; a deletion is accepted, or its context is
-- kept (X.226 8.2)
pub data Result : Type 0 where
  Rejected : Result
  AcceptedAs : (pair : Pair) → Result
  Accepted : Result
  Kept : Result

-- a set after one item with its result
abbrev pub changed : Item → Result → ContextSet → ContextSet
changed (Addition k offers) (AcceptedAs p) set = put k p set
changed (Addition k offers) Rejected set = set
changed (Addition k offers) Accepted set = set
changed (Addition k offers) Kept set = set
changed (Deletion k) Accepted set = remove k set
changed (Deletion k) Kept set = set
changed (Deletion k) Rejected set = set
changed (Deletion k) (AcceptedAs p) set = set

-- a set after an alteration, whose additions stand before its deletions
abbrev pub altered : List Item → List Result → ContextSet → ContextSet
altered [] results set = set
altered (item ∷ items) [] set = set
altered (item ∷ items) (result ∷ results) set = altered items results (changed item result set)

abbrev pub AnswersItem : Item → Result → Type 0
AnswersItem (Addition k offers) Rejected = Unit {0}
AnswersItem (Addition k offers) (AcceptedAs p) = Contains offers p
AnswersItem (Addition k offers) Accepted = ⊥
AnswersItem (Addition k offers) Kept = ⊥
AnswersItem (Deletion k) Accepted = Unit {0}
AnswersItem (Deletion k) Kept = Unit {0}
AnswersItem (Deletion k) Rejected = ⊥
AnswersItem (Deletion k) (AcceptedAs p) = ⊥

-- the results answer the items, one for one, in their order (X.226 8.2)
abbrev pub AnswersEach : List Item → List Result → Type 0
AnswersEach [] [] = Unit {0}
AnswersEach [] (result ∷ results) = ⊥
AnswersEach (item ∷ items) [] = ⊥
AnswersEach (item ∷ items) (result ∷ results) = AnswersItem item result × AnswersEach items results

-- each accepted addition has a transfer syntax that the ends know
abbrev pub IsKnown : (List ℕ → Bool) → Result → Type 0
IsKnown knows Rejected = Unit {0}
IsKnown knows Accepted = Unit {0}
IsKnown knows Kept = Unit {0}
IsKnown knows (AcceptedAs p) = knows p.transfer_syntax ≡ true

abbrev pub AreKnown : (List ℕ → Bool) → List Result → Type 0
AreKnown knows [] = Unit {0}
AreKnown knows (result ∷ results) = IsKnown knows result × AreKnown knows results

-- so has each context of an accepted set
abbrev pub IsKnownSet : (List ℕ → Bool) → ContextSet → Type 0
IsKnownSet knows [] = Unit {0}
IsKnownSet knows (c ∷ cs) = (knows c.pair.transfer_syntax ≡ true) × IsKnownSet knows cs

abbrev pub is_among : ℕ → List ℕ → Bool
is_among k [] = false
is_among k (j ∷ js) = nat_eq k j || is_among k js

-- an initiator's identifiers are odd, a responder's even (X.226 8.2)
abbrev pub parity : Role → ℕ
parity Initiator = 1
parity Responder = 0

abbrev pub identifier_of : Item → ℕ
identifier_of (Addition k offers) = k
identifier_of (Deletion k) = k

abbrev pub identifiers : List Item → List ℕ
identifiers [] = []
identifiers (item ∷ items) = identifier_of item ∷ identifiers items

abbrev pub AreDistinct : List ℕ → Type 0
AreDistinct [] = Unit {0}
AreDistinct (k ∷ ks) = (is_among k ks ≡ false) × AreDistinct ks

-- the identifiers that some alterations name
abbrev pub named : List (List Item) → List ℕ
named [] = []
named (items ∷ rest) = identifiers items ++ named rest

-- what an end may ask for over its set: to add what is absent, under its own parity; to delete what
-- is there and not in use
abbrev pub MayAsk : Role → ContextSet → List ℕ → Item → Type 0
MayAsk role held used (Addition k offers) = (k % 2 ≡ parity role) × (lookup held k ≡ None)
MayAsk role held used (Deletion k) = (is_some (lookup held k) ≡ true) × (is_among k used ≡ false)

abbrev pub AllMayAsk : Role → ContextSet → List ℕ → List Item → Type 0
AllMayAsk role held used [] = Unit {0}
AllMayAsk role held used (item ∷ items) = MayAsk role held used item × AllMayAsk role held used items

-- what an end takes of such an alteration: additions of what is absent, under the asker's parity
abbrev pub MayBeAsked : Role → ContextSet → Item → Type 0
MayBeAsked asker held (Addition k offers) = (k % 2 ≡ parity asker) × (lookup held k ≡ None)
MayBeAsked asker held (Deletion k) = Unit {0}

abbrev pub AllMayBeAsked : Role → ContextSet → List Item → Type 0
AllMayBeAsked asker held [] = Unit {0}
AllMayBeAsked asker held (item ∷ items) = MayBeAsked asker held item × AllMayBeAsked asker held items

-- some own alteration deletes the context
abbrev pub deletes : ℕ → List Item → Bool
deletes k [] = false
deletes k (Addition j offers ∷ items) = deletes k items
deletes k (Deletion j ∷ items) = nat_eq j k || deletes k items

abbrev pub some_deletes : ℕ → List (List Item) → Bool
some_deletes k [] = false
some_deletes k (items ∷ rest) = deletes k items || some_deletes k rest

-- a context with its transfer syntax, as a restart lists it (this project's own rule)
pub record Listed : Type 0 where
  pub identifier : ℕ
  pub transfer_syntax : List ℕ

abbrev pub listed : ContextSet → List Listed
listed [] = []
listed (c ∷ cs) = record { identifier = c.identifier; transfer_syntax = c.pair.transfer_syntax } ∷ listed cs

-- a set that a mark saved under its number; lists of them have the newest first
pub record Saved : Type 0 where
  pub number : ℕ
  pub set : ContextSet

-- what is saved under the numbers below n
abbrev pub below : ℕ → List Saved → List Saved
below n [] = []
below n (mark ∷ marks) = if nat_lt mark.number n then mark ∷ marks else below n marks

-- the set of the newest mark
abbrev pub newest : List Saved → ContextSet
newest [] = []
newest (mark ∷ marks) = mark.set

-- the number of the next mark
abbrev pub next_number : List Saved → ℕ
next_number [] = 0
next_number (mark ∷ marks) = suc mark.number
