use Rattle.std.proofs.Common.{refl, ap, ◌∙◌}
use Rattle.module_faults.specs.Least.{least_from}
use Rattle.module_faults.specs.Standings.{says}
use Rattle.module_faults.specs.Facts.{env_of}
use Rattle.module_faults.specs.Faults.{body_shows, bodies_show}
use Rattle.module_faults.proofs.Loops.{rest_of, loop_step, loop_end}
use Rattle.module_faults.proofs.Settling.{judged}
use Rattle.module_faults.proofs.AllLearned.{body_settled}
use Rattle.module_faults.proofs.type_faults.judge_all.Goals as goal

pub loop-rest-preserved : goal.loop-rest-preserved
loop-rest-preserved c =
    let names = c.args.facing.now.names.now in
    let standings = c.args.facing.now.standings.now in
    let known = c.args.facing.now.known.now in
    let env = env_of names (says standings) in
    let item = c.assignment-item.result in
    let shows = c.in_ok-of_body.ensures ∙ ap (least_from c.loop-rest.least.found) (judged names standings known item.name item.body c.requires.known (body_settled names standings known c.requires.settled item.body)) in
    loop_step (bodies_show env) c.loop-rest.rest.now item (body_shows env item.name item.body) (bodies_show env (rest_of c.loop-rest.rest.now)) c.loop-rest.least.found c.of_body.new.least.found _ c.in-len1-up.len_at_least c.assignment-item.is refl shows c.loop-rest.invariant

pub returns : goal.returns
returns c = loop_end (bodies_show (env_of c.args.facing.now.names.now (says c.args.facing.now.standings.now))) c.loop-rest.rest.now c.loop-rest.least.found _ c.in_default.len_below refl c.loop-rest.invariant
