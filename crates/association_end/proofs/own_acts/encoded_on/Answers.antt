use Rattle.std.proofs.Common.{Option, Some, None, sym, ap, subst, ◌≡◌, ◌∙◌}
use Rattle.std.specs.Prelude.{IfOk}
use Rattle.osi_base.specs.declared.syntax.Pair.{Pair}
use Rattle.osi_base.specs.declared.layer_words.SetItem.{SetItem}
use Rattle.end_rules.specs.Base.{Item}
use Rattle.osi_base.specs.SetPlaces.{pair_of}
use Rattle.end_rules.specs.ByItself.{item_on, encoded_as}
use Rattle.association_pieces.specs.Sending.{seen_queued, seen_transfer}
use Rattle.association_reacting.specs.association_state.Seen.{base_in, seen}
use Rattle.std.proofs.Common.{List}
use Rattle.association_end.proofs.own_acts.encoded_on.Goals as goal

pub returns-in-None : goal.returns-in-None
returns-in-None c =
    let b = base_in c.args.basis.now in
    let body = seen c.args.body.now in
    let pair_is : None ≡ pair_of body.sets.held c.args.context
    = sym c.in-None.is ∙ c.in-Ok.ensures ∙ ap (λ (s : List SetItem). pair_of s c.args.context) c.as_slice.ensures in
    ap (λ (p : Option Pair). record (seen_transfer c.args.transfer) { encoded = encoded_as b body (item_on c.args.context (seen_queued c.args.transfer.item) p) }) pair_is

pub returns-in-Some : goal.returns-in-Some
returns-in-Some c =
    let b = base_in c.args.basis.now in
    let body = seen c.args.body.now in
    let pair_is : Some c.in-Some.pair ≡ pair_of body.sets.held c.args.context
    = sym c.in-Some.is ∙ c.in-Ok.ensures ∙ ap (λ (s : List SetItem). pair_of s c.args.context) c.as_slice.ensures in
    subst (λ (i : Option Item). IfOk c.encoded_under.result (λ t. seen_transfer t ≡ record (seen_transfer c.args.transfer) { encoded = encoded_as b body i }))
    (ap (item_on c.args.context (seen_queued c.args.transfer.item)) pair_is) c.encoded_under.ensures
