use Rattle.std.proofs.Common.{refl}
use Rattle.stub_tables.proofs.CodePlaces.{put_global_ok}
use Rattle.stub_tables.proofs.code_places.CodePlaces.put.Goals as goal

pub returns-in-Global-clause-ok : goal.returns-in-Global-clause-ok
returns-in-Global-clause-ok c =
    put_global_ok c.put_global.result c.args.self.now (record { alloc = c.args.self.now.alloc; locals = c.args.self.now.locals; globals = c.put_global.new.globals }) c.args.code.now c.in-Global.oid c.arcs.result.now c.args.place c.place.result
    c.in-Global.is c.arcs.ensures.value refl c.place.ensures c.if-is_some.ensures c.put_global.ensures.ok
