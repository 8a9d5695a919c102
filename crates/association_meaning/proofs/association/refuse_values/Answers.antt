use Rattle.std.proofs.Common.{List, Result, Ok, sym, subst, ◌∙◌}
use Rattle.osi_base.specs.declared.layer_words.SetItem.{SetItem}
use Rattle.end_rules.specs.Base.{Fault}
use Rattle.end_rules.specs.Messages.{DataValue}
use Rattle.association_intake.specs.association_reading.Values.{and_informed}
use Rattle.association_intake.specs.association_reading.Places.{pdv_places}
use Rattle.association_intake.specs.association_reading.Association.{is_response, unasked_values, set_refused, refuse_values}
use Rattle.association_words.specs.Seen.{seen_values}
use Rattle.association_meaning.specs.Grounds.{association_base, GivesAs}
use Rattle.association_meaning.proofs.Fails.{halts, informed_fails}
use Rattle.association_meaning.proofs.association.refuse_values.Goals as goal

pub returns-in_err-values : goal.returns-in_err-values
returns-in_err-values c =
    halts seen_values c.from_residual-in_err-values.result (refuse_values (association_base c.args.basis.now.tables.now c.args.basis.now.config.now) c.args.presentation.now (pdv_places c.args.carrier.now.place c.args.carrier.now.start c.args.carrier.now.user.now)) c.in_err-values.field-0.0 c.from_residual-in_err-values.ensures.1 (informed_fails c.in_err-values.field-0.0 (association_base c.args.basis.now.tables.now c.args.basis.now.config.now) (set_refused (association_base c.args.basis.now.tables.now c.args.basis.now.config.now) c.args.presentation.now) is_response (unasked_values (pdv_places c.args.carrier.now.place c.args.carrier.now.start c.args.carrier.now.user.now) c.args.presentation.now.user) (rw c.as_slice.ensures at c.in_err-values.ensures))

pub returns : goal.returns
returns c =
    subst (λ (r : Result (List DataValue) Fault). GivesAs seen_values c.and_informed.result (and_informed (association_base c.args.basis.now.tables.now c.args.basis.now.config.now) (set_refused (association_base c.args.basis.now.tables.now c.args.basis.now.config.now) c.args.presentation.now) is_response r)) (sym (rw c.as_slice.ensures at c.in_ok-values.ensures))
    (subst (λ (s : List SetItem). GivesAs seen_values c.and_informed.result (and_informed (association_base c.args.basis.now.tables.now c.args.basis.now.config.now) s is_response (Ok (seen_values c.in_ok-values.values)))) (c.as_slice-2.ensures ∙ c.in_ok-set.ensures) c.and_informed.ensures)
