-- How an end of an association acts in a run.
use Rattle.std.specs.Prelude.{List, [], ◌∷◌}
use Rattle.dialogue.specs.declared.event.Event.{Event}
use Rattle.dialogue.specs.declared.event.Entry.{Entry}
use Rattle.end_rules.specs.History.{broke}
use Rattle.end_rules.specs.World.{World, Ends}
use Rattle.two_ends.specs.Conduct.{Conduct}
use Rattle.association_end.specs.View.{EndView, Stepped}
use Rattle.association_end.specs.Called.{Answered}
use Rattle.association_end.specs.Fed.{Fed}
use Rattle.association_duo.specs.Ran.{Stand, Ran}

-- What waits, and what a call, octets and a break make of the end.
abbrev pub conduct : Conduct EndView
conduct = record {
  waiting = λ e. e.end.line.waiting;
  with_waiting = λ octets e. record e { end = record e.end { line = record e.end.line { waiting = octets } } };
  answered = λ e e_after call answer. Answered e e_after call answer;
  fed = λ e e_after octets shown. Fed e e_after octets shown;
  broke = λ e e_after. Stepped e e_after (broke ∷ []);
}

-- From every world for which the ends stand, the events ran.
abbrev pub RunsOn : List Event → List Entry → EndView → EndView → EndView → EndView → Type 0
RunsOn all told a b a_after b_after = (ends : Ends) (w : World) → Stand ends w a b → Ran ends w all told a_after b_after
