use Rattle.std.proofs.Common.{refl, ◌∙◌, nat_eq}
use Rattle.std.specs.Cmp.Lexicographic.{pointwise}
use Rattle.table_file.proofs.Seen.{seen_as, code_seen}
use Rattle.table_file.proofs.names_and_codes.Codes.see.Goals as goal

pub returns-in_ok-insert-in-Global-clause-seen : goal.returns-in_ok-insert-in-Global-clause-seen
returns-in_ok-insert-in-Global-clause-seen c =
    code_seen c.args.self.now (record { alloc = c.args.self.now.alloc; locals = c.args.self.now.locals; globals = c.insert-in-Global.new.self }) c.args.code.now c.in-Global.oid c.in-Global.is refl
    (seen_as (λ k. k.items) (λ a b. pointwise nat_eq a.items b.items) c.args.self.now.globals.keys c.insert-in-Global.new.self.keys c.in_ok-arcs-in-Global.arcs c.in-Global.oid (c.in_ok-arcs-in-Global.ensures.items ∙ c.arcs.ensures.value) (λ k. refl) c.in_ok-insert-in-Global.ensures.keys)
