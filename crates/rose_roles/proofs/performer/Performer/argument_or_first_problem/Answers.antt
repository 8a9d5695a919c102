use Rattle.std.proofs.Common.{ℕ, Option, sym, ap, ◌∙◌}
use Rattle.std.specs.Option.{option_map}
use Rattle.stub_tables.specs.Lookup.{operation_at}
use Rattle.stub_tables.specs.Apdus.{placed, argument_of}
use Rattle.end_wire.specs.end_rules.Hearing.{first_problem}
use Rattle.rose_roles.specs.Heads.{Carries}
use Rattle.rose_roles.specs.ApduProblems.{argument_problem}
use Rattle.rose_roles.proofs.Hearings.{later, is_free_of}
use Rattle.rose_roles.proofs.performer.Performer.argument_or_first_problem.Goals as goal

pub returns-in-Some-clause-found : goal.returns-in-Some-clause-found
returns-in-Some-clause-found c = λ carried k.
    ap (λ (e : Option ℕ). first_problem e (argument_problem c.args.tables.now c.args.place carried)) (sym c.early_problem.ensures ∙ c.in-Some.is)

pub returns-in_ok-found-in-None-clause-found : goal.returns-in_ok-found-in-None-clause-found
returns-in_ok-found-in-None-clause-found c =
    later (Carries c.args.syntax c.args.tables.now.types c.args.head.now.room (option_map argument_of (placed (operation_at c.args.tables.now) c.args.place)) c.args.head.now.rest) _ (argument_problem c.args.tables.now c.args.place) c.in_ok-found-in-None.found
    (sym c.early_problem.ensures ∙ c.in-None.is) c.in_ok-found-in-None.ensures

pub returns-in_ok-found-in-None-clause-free : goal.returns-in_ok-found-in-None-clause-free
returns-in_ok-found-in-None-clause-free c = is_free_of _ c.in_ok-found-in-None.found (sym c.early_problem.ensures ∙ c.in-None.is)
