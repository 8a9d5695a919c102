-- One end of an association with its octets: those that wait to be given out, what came and isn't reacted to yet, and how
-- many octets a DT of it has at most.
use Rattle.std.specs.Prelude.{ℕ, List, [], ◌∷◌, ◌++◌, drop, Bool, true, false, if◌then◌else◌, Option, Some, None, option_map}
use Rattle.osi_base.specs.Limits.{unit_least, unit_most}
use Rattle.association_reading.specs.end_rules.Base.{Base}
use Rattle.association_reading.specs.end_rules.Messages.{Message, Transport, Session, TransportUnit, ConnectionRequest, ConnectionConfirm, DisconnectRequest, TransportError}
use Rattle.association_reading.specs.end_rules.State.{Body, new_body, passes_over}
use Rattle.association_reading.specs.end_rules.TakesTransport.{is_size, octets_of_size}
use Rattle.association_reading.specs.end_rules.History.{Step, History, called, sent, encoded, fed, took, answered, passed, fault, aborted, feed_end, gave, broke, after_step}
use Rattle.association_reading.specs.association_wire.Written.{written}
use Rattle.association_reading.specs.Front.{Intake, nothing_came, with_octets, behind_first}

pub record Line : Type 0 where
  -- octets that are due and weren't given out
  pub waiting : List ℕ
  -- what came and wasn't reacted to; None where nothing that comes is looked at any more
  pub came : Option Intake
  -- octets of a DT at most
  pub size : ℕ

-- an end: its body, and its line
pub record End : Type 0 where
  pub body : Body
  pub line : Line

-- where no size is named, an initiator uses 128 octets (X.224 13.3.4) and a responder 65,531 (RFC 1006 5)
abbrev pub first_size : Bool → ℕ
first_size true = unit_least
first_size false = unit_most

abbrev pub first_line : Base → Line
first_line base = record { waiting = []; came = Some nothing_came; size = first_size base.initiator }

abbrev pub new_end : Base → End
new_end base = record { body = new_body base; line = first_line base }

-- ---- sizes: a responder uses what the CR asks for, and an initiator what the CC names

abbrev pub size_named : ℕ → ℕ → Option ℕ → ℕ
size_named first before size = if is_size size then octets_of_size first size else before

abbrev pub size_of_unit : ℕ → ℕ → TransportUnit → ℕ
size_of_unit first before (ConnectionRequest source size calling selector) = size_named first before size
size_of_unit first before (ConnectionConfirm destination size) = size_named first before size
size_of_unit first before (DisconnectRequest destination) = before
size_of_unit first before TransportError = before

abbrev pub size_after : Base → ℕ → Message → ℕ
size_after base before (Transport unit) = size_of_unit (first_size base.initiator) before unit
size_after base before (Session word) = before

-- ---- steps

abbrev pub writes : Base → Message → Line → Line
writes base message line = record line { waiting = line.waiting ++ written base.tables line.size message }

abbrev pub takes_first : Line → Line
takes_first line = record line { came = option_map behind_first line.came }

-- What a step changes. An end that is over or dead keeps nothing of what comes, and a break loses what waits in both
-- directions.
abbrev pub after_line : Base → Body → Line → Step → Line
after_line base body line (called call reply) = line
after_line base body line (sent message) = writes base message line
after_line base body line (encoded context) = line
after_line base body line (fed octets) = record line { came = if passes_over body.link.phase then None else option_map (with_octets octets) line.came }
after_line base body line (took message) = record (takes_first line) { size = size_after base line.size message }
after_line base body line (answered to answer) = writes base answer line
after_line base body line passed = takes_first line
after_line base body line (fault layer place reason) = record line { came = None }
after_line base body line (aborted message) = writes base message line
after_line base body line feed_end = line
after_line base body line (gave n) = record line { waiting = drop n line.waiting }
after_line base body line broke = first_line base

abbrev pub after : Base → End → Step → End
after base end step = record { body = after_step base end.body step; line = after_line base end.body end.line step }

-- these steps, oldest first
abbrev pub after_all : Base → End → List Step → End
after_all base end [] = end
after_all base end (x ∷ xs) = after_all base (after base end x) xs

-- what a history says of an end
abbrev pub end_of : Base → History → End
end_of base [] = new_end base
end_of base (x ∷ h) = after base (end_of base h) x

-- the history with these steps, oldest first
abbrev pub going_on : History → List Step → History
going_on h [] = h
going_on h (x ∷ xs) = going_on (x ∷ h) xs
