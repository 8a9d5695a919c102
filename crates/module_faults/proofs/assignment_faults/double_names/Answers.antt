use Rattle.std.proofs.Common.{◌≡◌, ◌+◌, suc, length, refl, ap, ◌∙◌, not, arith}
use Rattle.module_faults.specs.declared.kind.TableKind.TheVariants as kinds
use Rattle.module_faults.specs.Least.{at_name, if_so, least_from}
use Rattle.module_faults.specs.Names.{find}
use Rattle.module_faults.specs.Locals.{is_at, double_names}
use Rattle.module_faults.proofs.Loops.{rest_of, cons_of, loop_step, loop_end}
use Rattle.module_faults.proofs.assignment_faults.double_names.Goals as goal

pub loop-rest-preserved : goal.loop-rest-preserved
loop-rest-preserved c =
    let one : length c.loop-rest.rest.now ≡ suc (length (rest_of c.loop-rest.rest.now)) = ap length (cons_of c.loop-rest.rest.now c.assignment-item.result c.in-len1-up.len_at_least c.assignment-item.is) in
    let so_far : c.loop-rest.place + length c.loop-rest.rest.now ≡ length c.args.names.now = c.loop-rest.invariant.count in
    record {
      found = loop_step (double_names c.args.names.now c.loop-rest.place) c.loop-rest.rest.now c.assignment-item.result (if_so (not (is_at c.loop-rest.place (find c.args.names.now c.assignment-item.result.name.text))) (at_name c.assignment-item.result.name kinds.DoubleName)) (double_names c.args.names.now (c.loop-rest.place + 1) (rest_of c.loop-rest.rest.now)) c.loop-rest.least.found c.note_if.new.self.found _ c.in-len1-up.len_at_least c.assignment-item.is refl
          (c.note_if.ensures ∙ ap (λ b. least_from c.loop-rest.least.found (if_so (not b) (at_name c.assignment-item.result.name kinds.DoubleName))) (c.is_at-is_first.ensures ∙ ap (is_at c.loop-rest.place) c.find.ensures)) c.loop-rest.invariant.found;
      count = omega arith;
    }

pub returns-clause-found : goal.returns-clause-found
returns-clause-found c = loop_end (double_names c.args.names.now c.loop-rest.place) c.loop-rest.rest.now c.loop-rest.least.found _ c.in_default.len_below refl c.loop-rest.invariant.found
