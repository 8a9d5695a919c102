-- The messages of an association, with their values kept abstract (X.225, X.226, X.227, X.228, X.880).
use Rattle.std.specs.Prelude.{◌≡◌, ℕ, Bool, true, false, List, Option, Some}
use Rattle.agreement.specs.Sets.{Pair, Context, ContextSet, Item, Result, Listed, lookup}

-- why an APDU is rejected (X.880 9): a problem of any APDU, of an invocation, of a result, of an error
pub data Problem : Type 0 where
  General : (code : ℕ) → Problem
  OfInvocation : (code : ℕ) → Problem
  OfResult : (code : ℕ) → Problem
  OfError : (code : ℕ) → Problem

abbrev pub is_of_invocation : Problem → Bool
is_of_invocation (OfInvocation code) = true
is_of_invocation problem = false

-- an APDU of remote operations (X.880 9): an invocation with its number, operation, link and argument,
-- an outcome (a result or an error) with its number, or a reject; argument and content are octets
pub data Apdu : Type 0 where
  Invoke : (number : ℕ) → (operation : ℕ) → (link : Option ℕ) → (argument : List ℕ) → Apdu
  Outcome : (number : ℕ) → (content : List ℕ) → Apdu
  Reject : (number : ℕ) → (problem : Problem) → Apdu

-- an open invocation with its operation and context
pub record Invocation : Type 0 where
  pub number : ℕ
  pub operation : ℕ
  pub context : ℕ

-- the own and the peer's open invocations of an end, and how many were made here
pub record Calls : Type 0 where
  pub own_open : List Invocation
  pub peer_open : List Invocation
  pub made : ℕ

-- a presentation value: an APDU on a context, with the pair that it is written under
pub record Value : Type 0 where
  pub identifier : ℕ
  pub pair : Pair
  pub apdu : Apdu

-- how values stand in octets: of the values that it may write, what is written under the pair that a
-- set gives its context is read under that set as the same value
pub record Codec : Type 0 where
  pub written : Value → List ℕ
  pub read : ContextSet → List ℕ → Option Value
  pub may_write : Value → Bool
  pub faithful : (set : ContextSet) (value : Value) → may_write value ≡ true → lookup set value.identifier ≡ Some value.pair → read set (written value) ≡ Some value

pub data Mode : Type 0 where
  Bare : Mode
  Direct : Mode
  Reliable : Mode

-- what the two ends have in common: the mode, the codec, the transfer syntaxes that they know, which
-- operations have no outcome, which operation may be linked to an invocation of which, which outcomes an
-- operation has (X.880 8), the problem for which an APDU that isn't accepted is rejected, the one context
-- of bare mode, and the limits: the most marks, the most octets of a transfer, the most open invocations
-- of one end
pub record ModelSetup : Type 0 where
  pub mode : Mode
  pub codec : Codec
  pub knows : List ℕ → Bool
  pub silent : ℕ → Bool
  pub links : ℕ → ℕ → Bool
  pub allows : ℕ → List ℕ → Bool
  pub problem : Calls → Apdu → Problem
  pub bare_context : Context
  pub most_marks : ℕ
  pub most_transferred : ℕ
  pub most_open : ℕ

pub data Message : Type 0 where
  Connect : Message  -- CN (X.225 8.3.1) for a new association
  Recover : Message  -- CN that recovers one (X.228)
  Accept : (set : ContextSet) → Message  -- AC (X.225 8.3.4), the accepted contexts
  Refuse : Message  -- RF (X.225 8.3.5)
  Data : (value : Value) → Message  -- DT (X.225 8.3.11)
  Alter : (items : List Item) → Message  -- alter context (X.226 8.2)
  AlterAnswer : (results : List Result) → Message  -- its acknowledgement (X.226 8.2)
  Mark : (number : ℕ) → Message  -- MIP, a minor synchronization point (X.225 8.3.20)
  MarkAnswer : (number : ℕ) → Message  -- MIA (X.225 8.3.21)
  Restart : (number : ℕ) → (list : List Listed) → Message  -- RS (X.225 8.3.24)
  RestartAnswer : (number : ℕ) → (list : List Listed) → Message  -- RA (X.225 8.3.25)
  Start : (activity : ℕ) → Message  -- AS (X.225 8.3.29)
  Resume : (activity : ℕ) → (mark : ℕ) → Message  -- AR (X.225 8.3.30)
  Chunk : (octets : List ℕ) → Message  -- DT with a part of a transfer (X.228)
  End : (number : ℕ) → Message  -- AE (X.225 8.3.35)
  EndAnswer : (number : ℕ) → Message  -- AEA (X.225 8.3.36)
  Interrupt : Message  -- AI (X.225 8.3.31)
  InterruptAnswer : Message  -- AIA (X.225 8.3.32)
  Discard : Message  -- AD (X.225 8.3.33)
  DiscardAnswer : Message  -- ADA (X.225 8.3.34)
  Give : Message  -- GT, in reliable mode GTC (X.225 8.3.16, 8.3.18)
  GiveAnswer : Message  -- GTA (X.225 8.3.19)
  Please : (priority : ℕ) → Message  -- PT (X.225 8.3.17)
  Release : Message  -- FN (X.225 8.3.6)
  ReleaseAnswer : Message  -- DN (X.225 8.3.7)
  UserAbort : Message  -- AB (X.225 8.3.9)

-- what an end does of itself
pub data Act : Type 0 where
  Connects : Act
  Recovers : Act
  SaysValue : (value : Value) → Act
  Queues : (context : ℕ) → (apdu : Apdu) → Act  -- reliable mode: hands an APDU in
  Drops : Act  -- else: drops the reject that is due, where no context may carry it
  Alters : (items : List Item) → Act
  Marks : Act
  GivesTurn : Act
  Pleads : (priority : ℕ) → Act
  Restarts : (number : ℕ) → Act
  Starts : Act
  Encodes : (context : ℕ) → Act  -- encodes the item of the current transfer
  Sends : (octets : List ℕ) → Act
  EndsActivity : Act
  Interrupts : Act
  Discards : Act
  Resumes : Act
  Releases : Act
  Aborts : Act
  Withdraws : Act  -- goes over before it sent or took a CN on this connection, with nothing sent
  TransportFails : Act  -- so too, as the transport connection is refused (DR, X.224); what is open stays open

-- what the taker of a message decides: the contexts that it accepts, that it refuses, or the results
pub data Choice : Type 0 where
  Nothing : Choice
  Accepting : (set : ContextSet) → Choice
  Refusing : Choice
  Results : (results : List Result) → Choice
