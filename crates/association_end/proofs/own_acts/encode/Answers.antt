use Rattle.std.proofs.Common.{Option, refl, sym, ap, ◌∙◌}
use Rattle.std.specs.Prelude.{option_map}
use Rattle.osi_base.specs.SetPlaces.{pair_of}
use Rattle.end_rules.specs.State as rules
use Rattle.end_rules.specs.ByItself.{item_on}
use Rattle.association_pieces.specs.declared.sending.Transfer.{Transfer}
use Rattle.association_pieces.specs.Sending.{seen_transfer}
use Rattle.association_reacting.specs.association_state.Seen.{base_in, seen}
use Rattle.association_end.proofs.Own.{encoding_none, encoding_some, encoded_by}
use Rattle.association_end.proofs.own_acts.encode.Goals as goal

pub returns-in-None-clause-ok : goal.returns-in-None-clause-ok
returns-in-None-clause-ok c =
    let old = seen c.args.body.now in
    ap (λ (t : Option Transfer). record old { sending = record old.sending { current = option_map seen_transfer t } }) (c.take.ensures.after ∙ sym c.in-None.is ∙ c.take.ensures.value)
    ∙ encoding_none (base_in c.args.basis.now) c.args.context old (ap (option_map seen_transfer) (sym c.take.ensures.value ∙ c.in-None.is))

pub returns-in_ok-encoded-in-Some-clause-ok : goal.returns-in_ok-encoded-in-Some-clause-ok
returns-in_ok-encoded-in-Some-clause-ok c =
    let b = base_in c.args.basis.now in
    let old = seen c.args.body.now in
    let t : rules.Transfer = seen_transfer c.in-Some.transfer in
    let mid : rules.Body = record old { sending = record old.sending { current = option_map seen_transfer c.take.new.self } } in
    encoding_some b c.args.context old t (seen_transfer c.in_ok-encoded-in-Some.encoded) (ap (option_map seen_transfer) (sym c.take.ensures.value ∙ c.in-Some.is))
    (c.in_ok-encoded-in-Some.ensures
    ∙ ap (λ (e : Option rules.Encoded). record t { encoded = e }) (encoded_by b mid old (item_on c.args.context t.item (pair_of old.sets.held c.args.context)) refl))
