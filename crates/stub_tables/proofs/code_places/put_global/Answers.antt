use Rattle.std.proofs.Common.{ap, ◌∙◌}
use Rattle.stub_tables.specs.Places.{global_place}
use Rattle.stub_tables.proofs.CodePlaces.{put_arcs}
use Rattle.stub_tables.proofs.code_places.put_global.Goals.{in-Ok, in-Err}
use Rattle.stub_tables.proofs.code_places.put_global.Goals as goal

pub returns-clause-ok : goal.returns-clause-ok
returns-clause-ok c =
    elim c.match-insert.branch [
      | in-Ok w ↦
          rw w.result-is
          (λ q. ap (λ es. global_place es q) w.in-Ok.ensures.entries ∙ put_arcs c.args.globals.now.entries c.in_ok-key.key c.args.arcs.now c.args.place q c.in_ok-key.ensures.items)
      | in-Err w ↦ rw w.result-is tt
    ]
