-- One transfer between two ends, through breaks and resumptions (X.228 7, 8.2).
use Rattle.std.specs.Prelude.{◌≡◌, ℕ, ◌+◌, List, [], ◌∷◌, ◌++◌, false, true, Result, Ok, Err}
use Rattle.rtse.specs.declared.fault.RtseFault.{RtseFault}
use Rattle.rtse.specs.declared.outgoing.Step.{Step}
use Rattle.rtse.specs.declared.outgoing.Step.TheVariants.{Chunk, Mark, End, Wait}
use Rattle.rtse.specs.declared.incoming.Ended.{Ended}
use Rattle.rtse.specs.declared.incoming.Ended.TheVariants.{Whole}
use Rattle.rtse.specs.Sending as sent
use Rattle.rtse.specs.Sending.{Sending, MayStart, IsNext, step_of, stepped}
use Rattle.rtse.specs.Receiving as received
use Rattle.rtse.specs.Receiving.{Receiving}

-- what goes from the sender to the receiver: the start, octets, a mark, the end, a resumption at a mark
pub data Word : Type 0 where
  Start : (number : ℕ) → Word
  Part : (octets : List ℕ) → Word
  Point : (n : ℕ) → Word
  Finish : (n : ℕ) → Word
  Resume : (number : ℕ) → (n : ℕ) → Word

-- what is sent for a step of the sender
abbrev pub words_of : Step → List Word
words_of (Chunk octets) = Part octets ∷ []
words_of (Mark n) = Point n ∷ []
words_of (End n) = Finish n ∷ []
words_of Wait = []

abbrev pub record_behind : Result (Ended × Receiving) RtseFault → Result Receiving RtseFault
record_behind (Ok end) = Ok end.1
record_behind (Err fault) = Err fault

-- what a word that comes makes of the receiver's record
abbrev pub came : Word → Receiving → Result Receiving RtseFault
came (Start number) r = received.start_taken number r
came (Part octets) r = received.chunked octets r
came (Point n) r = received.marked n r
came (Finish n) r = record_behind (received.ended n r)
came (Resume number n) r = received.resumption_taken number n r

-- A mark that comes is confirmed.
abbrev pub confirmations : Word → List ℕ
confirmations (Start number) = []
confirmations (Part octets) = []
confirmations (Point n) = n ∷ []
confirmations (Finish n) = []
confirmations (Resume number n) = []

-- the two ends, the words on their way to the receiver and the confirmations on their way back, the oldest first
pub record Exchange : Type 0 where
  pub sender : Sending
  pub receiver : Receiving
  pub down : List Word
  pub up : List ℕ

-- What may happen: the sender gives what is next; the receiver takes the next word; the sender takes the next confirmation;
-- what is on its way is lost, in a break or as an interrupt purges it, and the sender resumes at its highest confirmed mark;
-- the same, and the value is encoded anew, which is resumed from nothing.
pub data Event : Type 0 where
  SendsWords : Event
  Takes : Event
  Confirms : Event
  Breaks : Event
  Renews : (octets : List ℕ) → (checkpoint : ℕ) → (window : ℕ) → Event

abbrev pub took : Exchange → List Word → Word → Result Receiving RtseFault → Exchange
took e rest word (Ok r) = record e { receiver = r; down = rest; up = e.up ++ confirmations word }
took e rest word (Err fault) = e

abbrev pub takes_first : Exchange → List Word → Exchange
takes_first e [] = e
takes_first e (word ∷ rest) = took e rest word (came word e.receiver)

abbrev pub confirms_first : Exchange → List ℕ → Exchange
confirms_first e [] = e
confirms_first e (n ∷ rest) = record e { sender = record e.sender { confirmed = n }; up = rest }

-- the exchange after an event; where nothing is on its way, and where the receiver refuses, nothing changes
abbrev pub happened : Exchange → Event → Exchange
happened e SendsWords = record e { sender = stepped e.sender; down = e.down ++ words_of (step_of e.sender) }
happened e Takes = takes_first e e.down
happened e Confirms = confirms_first e e.up
happened e Breaks =
    record e { sender = sent.resumed e.sender; down = Resume e.sender.number e.sender.confirmed ∷ []; up = [] }
happened e (Renews octets checkpoint window) =
    record e { sender = sent.started e.sender.number octets checkpoint window; down = Resume e.sender.number 0 ∷ []; up = [] }

-- what is encoded anew is within the limits, too
abbrev pub MayHappen : Exchange → Event → Type 0
MayHappen e SendsWords = Unit {0}
MayHappen e Takes = Unit {0}
MayHappen e Confirms = Unit {0}
MayHappen e Breaks = Unit {0}
MayHappen e (Renews octets checkpoint window) = MayStart e.sender.number octets checkpoint window

-- the exchange at its start, with the record that the receiver has of the activity before
abbrev pub begun : Sending → Receiving → Exchange
begun s r = record { sender = s; receiver = r; down = Start s.number ∷ []; up = [] }

-- the exchange after these events, the newest first
abbrev pub exchange_of : Exchange → List Event → Exchange
exchange_of e [] = e
exchange_of e (event ∷ events) = happened (exchange_of e events) event

abbrev pub MayAllHappen : Exchange → List Event → Type 0
MayAllHappen e [] = Unit {0}
MayAllHappen e (event ∷ events) = MayHappen (exchange_of e events) event × MayAllHappen e events

-- an exchange that two ends can reach
pub record IsReached (e : Exchange) : Type 0 where
  pub number : ℕ
  pub octets : List ℕ
  pub checkpoint : ℕ
  pub window : ℕ
  pub before : Receiving
  pub events : List Event
  pub may : MayStart number octets checkpoint window
  pub behind : number ≡ before.number + 1
  pub lawful : MayAllHappen (begun (sent.started number octets checkpoint window) before) events
  pub reached : e ≡ exchange_of (begun (sent.started number octets checkpoint window) before) events

-- No word is refused: what comes next to the receiver is taken, and what comes next to the sender confirms the mark that is due.
pub record NothingIsRefused (e : Exchange) : Type 0 where
  pub taken : (word : Word) (rest : List Word) → e.down ≡ word ∷ rest → (r : Receiving) × (came word e.receiver ≡ Ok r)
  pub confirmed : (n : ℕ) (rest : List ℕ) → e.up ≡ n ∷ rest → IsNext e.sender n

-- The end of a transfer that wasn't handed up brings the octets that its sender has.
abbrev pub ArrivesWhole : Exchange → Type 0
ArrivesWhole e =
    (n : ℕ) (rest : List Word) → e.down ≡ Finish n ∷ rest → e.receiver.handed_up ≡ false →
    received.ended n e.receiver ≡ Ok (Whole e.sender.octets, record e.receiver { handed_up = true })
