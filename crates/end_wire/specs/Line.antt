-- One end of bare mode with its octets: what waits to be given out, and what came and is no whole message yet.
use Rattle.std.specs.Prelude.{ℕ, List, [], ◌∷◌, ◌++◌, drop, if◌then◌else◌}
use Rattle.end_rules.specs.Base.{Base}
use Rattle.end_rules.specs.Messages.{Message}
use Rattle.end_rules.specs.State.{Body, passes_over, new_body}
use Rattle.end_rules.specs.History.{Step, History, called, sent, encoded, fed, took, answered, passed, fault, aborted, feed_end, gave, broke, after_step}
use Rattle.end_wire.specs.Bare.{first_at, behind, written}

pub record Line : Type 0 where
  -- octets that are due and weren't given out
  pub waiting : List ℕ
  -- octets that came and weren't reacted to
  pub rest : List ℕ

-- an end: its body, and its line
pub record End : Type 0 where
  pub body : Body
  pub line : Line

abbrev pub new_end : Base → End
new_end base = record { body = new_body base; line = record { waiting = []; rest = [] } }

abbrev pub writes : Base → Line → Message → Line
writes base line message = record line { waiting = line.waiting ++ written base.tables message }

abbrev pub reads_first : Line → Line
reads_first line = record line { rest = behind (first_at line.rest) line.rest }

-- What a step changes. An end that is over or dead keeps nothing of what comes, and a break loses what waits in both
-- directions.
abbrev pub after_line : Base → Body → Line → Step → Line
after_line base body line (called call reply) = line
after_line base body line (sent message) = writes base line message
after_line base body line (encoded context) = line
after_line base body line (fed octets) = record line { rest = if passes_over body.link.phase then [] else line.rest ++ octets }
after_line base body line (took message) = reads_first line
after_line base body line (answered to answer) = writes base line answer
after_line base body line passed = reads_first line
after_line base body line (fault layer place reason) = record line { rest = [] }
after_line base body line (aborted message) = writes base line message
after_line base body line feed_end = line
after_line base body line (gave n) = record line { waiting = drop n line.waiting }
after_line base body line broke = record { waiting = []; rest = [] }

abbrev pub after : Base → End → Step → End
after base end step = record { body = after_step base end.body step; line = after_line base end.body end.line step }

-- these steps, oldest first
abbrev pub after_all : Base → End → List Step → End
after_all base end [] = end
after_all base end (x ∷ xs) = after_all base (after base end x) xs

-- what a history says of an end
abbrev pub end_of : Base → History → End
end_of base [] = new_end base
end_of base (x ∷ h) = after base (end_of base h) x

-- the history with these steps, oldest first
abbrev pub going_on : History → List Step → History
going_on h [] = h
going_on h (x ∷ xs) = going_on (x ∷ h) xs
