use Rattle.std.proofs.Common.{◌≡◌, ◌++◌, Some, refl, sym, ap, ◌∙◌}
use Rattle.std.specs.Option.{option_copied}
use Rattle.module_faults.specs.declared.kind.TableKind.TheVariants as kinds
use Rattle.module_faults.specs.Least.{fault, if_so, least_from}
use Rattle.module_faults.specs.Met.{has_code}
use Rattle.module_faults.specs.Locals.{own_code, code_faults, and_code, double_codes}
use Rattle.module_faults.proofs.Loops.{rest_of, loop_step, loop_end}
use Rattle.module_faults.proofs.assignment_faults.double_codes.Goals as goal

pub loop-rest-preserved-in_ok-is_old : goal.loop-rest-preserved-in_ok-is_old
loop-rest-preserved-in_ok-is_old c =
    let own : own_code c.args.errors c.assignment-item.result.body ≡ Some c.in-Some.code.now = sym c.own_code.ensures ∙ ap option_copied c.in-Some.is in
    loop_step (double_codes c.args.errors c.loop-rest.seen) c.loop-rest.rest.now c.assignment-item.result (if_so (has_code c.loop-rest.seen c.in-Some.code.now) (fault c.in-Some.code.now.line c.in-Some.code.now.column kinds.DoubleCode)) (double_codes c.args.errors c.see.new.self (rest_of c.loop-rest.rest.now)) c.loop-rest.least.found c.note_if.new.self.found _ c.in-len1-up.len_at_least c.assignment-item.is
    (ap (λ o. code_faults c.loop-rest.seen o ++ double_codes c.args.errors (and_code c.loop-rest.seen o) (rest_of c.loop-rest.rest.now)) own
    ∙ ap (λ z. if_so (has_code c.loop-rest.seen c.in-Some.code.now) (fault c.in-Some.code.now.line c.in-Some.code.now.column kinds.DoubleCode) ++ double_codes c.args.errors z (rest_of c.loop-rest.rest.now)) (sym c.in_ok-is_old.ensures.now))
    (c.note_if.ensures ∙ ap (λ b. least_from c.loop-rest.least.found (if_so b (fault c.in-Some.code.now.line c.in-Some.code.now.column kinds.DoubleCode))) c.in_ok-is_old.ensures.was) c.loop-rest.invariant

pub returns : goal.returns
returns c = loop_end (double_codes c.args.errors c.loop-rest.seen) c.loop-rest.rest.now c.loop-rest.least.found _ c.in_default.len_below refl c.loop-rest.invariant
