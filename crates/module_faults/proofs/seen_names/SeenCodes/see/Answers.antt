use Rattle.std.specs.Prelude.{map}
use Rattle.module_faults.proofs.SeenLists.{seen_was, seen_now, codes_with, code_was, code_now}
use Rattle.module_faults.proofs.seen_names.SeenCodes.see.Goals as goal

pub returns-in_ok-insert-in-None-Some-clause-was :
    goal.returns-in_ok-insert-in-None-Some-clause-was
returns-in_ok-insert-in-None-Some-clause-was c =
    code_was (codes_with c.self.inside.locals.keys (map (λ k. k.now) c.self.inside.globals.keys)) c.args.self.now c.args.code.now c.in-None-Some.oid _ c.self.view_is c.in-None-Some.is-0 c.in-None-Some.is-1
    (seen_was c.in-None-Some.oid c.self.inside.globals.keys c.arcs.result c.in_ok-insert-in-None-Some.field-0 c.arcs.ensures.value c.in_ok-insert-in-None-Some.ensures.added)

pub returns-in_ok-insert-in-None-Some-clause-now :
    goal.returns-in_ok-insert-in-None-Some-clause-now
returns-in_ok-insert-in-None-Some-clause-now c =
    code_now (codes_with c.self.inside.locals.keys (map (λ k. k.now) c.self.inside.globals.keys)) c.args.self.now c.args.code.now c.in-None-Some.oid _ c.self.view_is c.in-None-Some.is-0 c.in-None-Some.is-1
    (seen_now c.in-None-Some.oid c.self.inside.globals.keys c.insert-in-None-Some.new.self.keys c.arcs.result c.arcs.ensures.value c.in_ok-insert-in-None-Some.ensures.keys)
