use Rattle.std.proofs.Common.{refl, ◌∙◌, nat_eq}
use Rattle.std.specs.Cmp.Lexicographic.{pointwise}
use Rattle.table_file.proofs.Seen.{seen_as}
use Rattle.table_file.proofs.names_and_codes.Names.see.Goals as goal

pub returns-clause-seen : goal.returns-clause-seen
returns-clause-seen c =
    seen_as (λ k. k.items) (λ a b. pointwise nat_eq a.items b.items) c.args.self.now.names.keys c.insert.new.self.keys c.in_ok-octets.octets c.args.name.now (c.in_ok-octets.ensures.items ∙ c.as_bytes.ensures) (λ k. refl) c.in_ok-insert.ensures.keys
