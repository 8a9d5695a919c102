-- How an end of bare mode acts in a run.
use Rattle.std.specs.Prelude.{List, [], ◌∷◌}
use Rattle.stub_tables.specs.declared.tables.Tables.{Tables}
use Rattle.dialogue.specs.declared.bare_setup.BareSetup.{BareSetup}
use Rattle.dialogue.specs.declared.event.Event.{Event}
use Rattle.dialogue.specs.declared.event.Entry.{Entry}
use Rattle.end_rules.specs.Calling.{can_call}
use Rattle.end_rules.specs.History.{broke}
use Rattle.end_rules.specs.World.{World}
use Rattle.two_ends.specs.Conduct.{Conduct}
use Rattle.bare_end.specs.View.{EndView, base, body, Stepped, Answered}
use Rattle.bare_end.specs.Feed.{Fed}
use Rattle.bare_duo.specs.Ran.{Stand, Ran}

-- What waits, and what a call, octets and a break make of the end.
abbrev pub conduct : Conduct EndView
conduct = record {
  waiting = λ e. e.waiting;
  with_waiting = λ octets e. record e { waiting = octets };
  answered = λ e e_after call answer. Answered (can_call (base e) (body e) call) e e_after call answer;
  fed = λ e e_after octets shown. Fed e e_after octets shown;
  broke = λ e e_after. Stepped e e_after (broke ∷ []);
}

-- From every world for which the ends stand, the events ran.
abbrev pub RunsOn : List Event → List Entry → EndView → EndView → EndView → EndView → Type 0
RunsOn all told a b a_after b_after = (setup : BareSetup) (tables : Tables) (w : World) → Stand setup tables w a b → Ran setup tables w all told a_after b_after
