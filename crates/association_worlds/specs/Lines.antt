-- An end of an association with its line: the octets that wait to be given out, and what came and isn't reacted to yet.
use Rattle.std.specs.Prelude.{ℕ, List, [], ◌∷◌, ◌++◌, Option, Some, None}
use Rattle.stub_tables.specs.declared.tables.Tables.{Tables}
use Rattle.association_reading.specs.end_rules.Base.{Base}
use Rattle.association_reading.specs.end_rules.Messages.{Message}
use Rattle.association_reading.specs.end_rules.State.{Body, new_body}
use Rattle.association_reading.specs.association_wire.Written.{written}
use Rattle.association_reading.specs.Front.{Intake, nothing_came, with_octets}

-- None: it takes nothing any more, as one that is over
pub record Line : Type 0 where
  pub waiting : List ℕ
  pub came : Option Intake

pub record End : Type 0 where
  pub body : Body
  pub line : Line

abbrev pub new_line : Line
new_line = record { waiting = []; came = Some nothing_came }

abbrev pub new_end : Base → End
new_end base = record { body = new_body base; line = new_line }

-- what is written of messages, one behind the other
abbrev pub written_all : Tables → ℕ → List Message → List ℕ
written_all tables size [] = []
written_all tables size (message ∷ messages) = written tables size message ++ written_all tables size messages

abbrev pub more_came : List ℕ → Option Intake → Option Intake
more_came octets None = None
more_came octets (Some intake) = Some (with_octets octets intake)
