use Rattle.std.proofs.Common.{Bool, ap, sym, ◌∙◌, subst}
use Rattle.std.specs.Prelude.{MatchResult}
use Rattle.end_rules.specs.State.{passes_over}
use Rattle.bare_end.specs.First.{IsFirst}
use Rattle.bare_end.specs.View.{EndView, Keeps}
use Rattle.bare_end.specs.Feed.{ReadOneOrAll}
use Rattle.bare_end.proofs.end.End.read_next.Goals as goal

pub read-requires-clause-first : goal.read-requires-clause-first
read-requires-clause-first c = subst (λ (e : EndView). IsFirst e.rest c.front-front.result) (sym c.front-front.ensures.same) c.front-front.ensures.first

pub read-requires-clause-up : goal.read-requires-clause-up
read-requires-clause-up c = ap (λ (e : EndView). passes_over e.phase) c.front-front.ensures.same ∙ c.requires

pub returns : goal.returns
returns c =
    subst (λ (e : EndView). MatchResult c.read.result (λ (more : Bool). ReadOneOrAll more e c.read.new.self c.args.shown.now c.read.new.shown) (λ _. Keeps e c.read.new.self)) c.front-front.ensures.same c.read.ensures
