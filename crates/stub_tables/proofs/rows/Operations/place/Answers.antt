use Rattle.std.proofs.Common.{ap, ◌∙◌}
use Rattle.stub_tables.specs.Codes.{place_with}
use Rattle.stub_tables.proofs.CodePlaces.{place_within}
use Rattle.stub_tables.proofs.rows.Operations.place.Goals as goal

pub returns-clause-bound : goal.returns-clause-bound
returns-clause-bound c =
    place_within (λ r. r.code) c.args.code.now c.args.self.now c.place.result
    (c.place.ensures ∙ c.self.invariant.each c.args.code.now ∙ ap (place_with (λ r. r.code) c.args.code.now) c.self.view_is)
