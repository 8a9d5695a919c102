use Rattle.std.proofs.Common.{◌≡◌, ◌++◌, refl, sym, ap, ◌∙◌, arith}
use Rattle.std.specs.Prelude.{◌||◌}
use Rattle.std.proofs.lemmas.Grind.{common_steps}
use Rattle.module_faults.specs.declared.kind.TableKind.TheVariants as kinds
use Rattle.module_faults.specs.Least.{at_name, if_so, least_from}
use Rattle.module_faults.specs.Met.{has_list, has_number, with_number}
use Rattle.module_faults.specs.Locals.{item_faults}
use Rattle.module_faults.proofs.Loops.{rest_of, loop_step, loop_end}
use Rattle.module_faults.proofs.locals.items.Goals as goal
use Rattle.module_faults.proofs.locals.items.Goals.{then-is_old_name, else-is_old_name}

pub loop-rest-preserved : goal.loop-rest-preserved
loop-rest-preserved c =
    let flag : c.if-is_old_name.note_if ≡ (c.in_ok-is_old_name.is_old_name || c.in_ok-is_old_number.is_old_number) =
    elim c.if-is_old_name.branch [ then-is_old_name w ↦ grind (arith, common_steps) | else-is_old_name w ↦ grind (arith, common_steps) ] in
    let both : c.if-is_old_name.note_if ≡ (has_list c.loop-rest.names c.item-item.result.name.text || has_number c.loop-rest.numbers.keys c.item-item.result.number) =
    flag ∙ ap (λ b. b || c.in_ok-is_old_number.is_old_number) c.in_ok-is_old_name.ensures.was ∙ ap (λ b. has_list c.loop-rest.names c.item-item.result.name.text || b) c.in_ok-is_old_number.ensures.was in
    loop_step (item_faults c.loop-rest.names c.loop-rest.numbers.keys) c.loop-rest.rest.now c.item-item.result (if_so (has_list c.loop-rest.names c.item-item.result.name.text || has_number c.loop-rest.numbers.keys c.item-item.result.number) (at_name c.item-item.result.name kinds.DoubleName)) (item_faults c.see.new.self c.see_number.new.numbers.keys (rest_of c.loop-rest.rest.now)) c.loop-rest.least.found c.note_if.new.self.found _ c.in-len1-up.len_at_least c.item-item.is
    (ap (λ z. if_so (has_list c.loop-rest.names c.item-item.result.name.text || has_number c.loop-rest.numbers.keys c.item-item.result.number) (at_name c.item-item.result.name kinds.DoubleName) ++ item_faults z (with_number c.loop-rest.numbers.keys c.item-item.result.number) (rest_of c.loop-rest.rest.now)) (sym c.in_ok-is_old_name.ensures.now)
    ∙ ap (λ z. if_so (has_list c.loop-rest.names c.item-item.result.name.text || has_number c.loop-rest.numbers.keys c.item-item.result.number) (at_name c.item-item.result.name kinds.DoubleName) ++ item_faults c.see.new.self z (rest_of c.loop-rest.rest.now)) (sym c.in_ok-is_old_number.ensures.now))
    (c.note_if.ensures ∙ ap (λ b. least_from c.loop-rest.least.found (if_so b (at_name c.item-item.result.name kinds.DoubleName))) both) c.loop-rest.invariant

pub returns : goal.returns
returns c = loop_end (item_faults c.loop-rest.names c.loop-rest.numbers.keys) c.loop-rest.rest.now c.loop-rest.least.found _ c.in_default.len_below refl c.loop-rest.invariant
