use Rattle.std.proofs.Common.{ℕ, List, ap, ◌∙◌}
use Rattle.module_faults.specs.Met.{has_list, with_list}
use Rattle.module_faults.proofs.SeenLists.{seen_was, seen_now}
use Rattle.module_faults.proofs.seen_names.SeenNames.see.Goals as goal

pub returns-clause-was : goal.returns-clause-was
returns-clause-was c =
    seen_was c.args.name.now c.self.inside.names.keys c.as_str.result c.in_ok-insert.field-0 c.as_str.ensures c.in_ok-insert.ensures.added
    ∙ ap (λ (z : List (List ℕ)). has_list z c.args.name.now) c.self.view_is

pub returns-clause-now : goal.returns-clause-now
returns-clause-now c =
    seen_now c.args.name.now c.self.inside.names.keys c.insert.new.self.keys c.as_str.result c.as_str.ensures c.in_ok-insert.ensures.keys
    ∙ ap (λ (z : List (List ℕ)). with_list z c.args.name.now) c.self.view_is
