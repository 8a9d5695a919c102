use Rattle.std.proofs.Common.{not, nat_eq, rules, tests, ◌∙◌}
use Rattle.std.proofs.lemmas.Fn.{filter_same}
use Rattle.osi_base.specs.declared.layer_words.SetItem.{SetItem}
use Rattle.osi_base.proofs.Placing.{without-filter}
use Rattle.osi_base.proofs.set_places.remove_context.Goals as goal

pub returns-clause-items : goal.returns-clause-items
returns-clause-items c =
    filter_same _ (λ (item : SetItem). not (nat_eq item.id c.args.id)) _ (λ x b f k. search (rules, tests)) _ _ c.retain.ensures.filtered
    ∙ without-filter c.args.id c.args.items.now.items
