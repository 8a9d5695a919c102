-- Numbers and lists in what is sent are those of the model.
use Rattle.std.proofs.Common.{◌≡◌, ℕ, List, [], ◌∷◌, refl, ap, ◌∙◌}
use Rattle.std.specs.Prelude.{Option, Some, None, option_map}
use Rattle.osi_base.specs.declared.layer_words.SetItem.{SetItem}
use Rattle.osi_base.specs.Syntax.{name_of}
use Rattle.end_rules.specs.Base.{Base}
use Rattle.end_rules.specs.Sets.{Saved, below, newest, listed}
use Rattle.end_rules.specs.State.{Transfer, highest, pieces_of, confirmed_of}
use Rattle.agreement.specs.Sets.{Listed, below as model_below, newest as model_newest, listed as model_listed}
use Rattle.agreement.specs.State as model
use Rattle.agreement.specs.Acts.{pieces_of as model_pieces, confirmed_of as model_confirmed}
use Rattle.end_model.specs.Seen.{set_seen, saved_seen, listed_seen, current_seen}
use Rattle.end_model.proofs.Restarts.{below-seen, newest-seen}
use Rattle.end_model.proofs.Transfers.{highest-seen}

listed-seen : (set : List SetItem) → listed_seen (listed set) ≡ model_listed (set_seen set)
listed-seen [] = refl
listed-seen (item ∷ items) = ap (λ (rest : List Listed). record { identifier = item.id; transfer_syntax = name_of item.pair.transfer } ∷ rest) (listed-seen items)

pub restored-seen : (number : ℕ) (saved : List Saved) → listed_seen (listed (newest (below number saved))) ≡ model_listed (model_newest (model_below number (saved_seen saved)))
restored-seen number saved =
    listed-seen (newest (below number saved)) ∙
    ap model_listed (newest-seen (below number saved) ∙ ap model_newest (below-seen number saved))

pub highest-of : (base : Base) (current : Option Transfer) → highest (pieces_of current) ≡ model.highest (model_pieces (option_map (current_seen base) current))
highest-of base None = refl
highest-of base (Some t) = highest-seen t.pieces

pub confirmed-of : (base : Base) (current : Option Transfer) → confirmed_of current ≡ model_confirmed (option_map (current_seen base) current)
confirmed-of base None = refl
confirmed-of base (Some t) = refl
