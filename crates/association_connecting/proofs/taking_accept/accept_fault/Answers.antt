use Rattle.std.proofs.Common.{List, sym, ap, ◌∙◌}
use Rattle.osi_base.specs.declared.layer_words.SetItem.{SetItem}
use Rattle.end_rules.specs.Sets.{fit_proposals}
use Rattle.association_answers.specs.association_reading.Transfers.{association_spellings}
use Rattle.association_words.specs.Seen.{seen_values}
use Rattle.association_answers.specs.association_state.Seen.{base_in}
use Rattle.association_connecting.specs.Accepted.{accepted_fault}
use Rattle.association_connecting.proofs.Requests.{fits_then}
use Rattle.association_connecting.proofs.taking_accept.accept_fault.Goals as goal

pub returns : goal.returns
returns c =
    fits_then (base_in c.args.basis.now) c.args.presentation.now (seen_values c.args.values.now) _
    ((λ i. fit_proposals (sym (c.as_slice.ensures ∙ c.in_ok-own.ensures) i) (sym c.as_slice-2.ensures i)) ∙ sym c.fit_proposals.ensures ∙ c.if-not-fit_proposals.false)
    (c.accepted_fault.ensures ∙ ap (λ (s : List SetItem). accepted_fault (base_in c.args.basis.now) s (seen_values c.args.values.now)) (c.as_slice-3.ensures ∙ c.in_ok-accepted.ensures (association_spellings c.args.basis.now.tables.now)))
