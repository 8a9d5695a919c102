-- The answers to additions don't ask how values are spelled.
use Rattle.std.proofs.Common.{◌≡◌, ℕ, Bool, List, [], ◌∷◌, refl, ap}
use Rattle.osi_base.specs.declared.layer_words.Proposal.{Proposal}
use Rattle.osi_base.specs.declared.layer_words.AddAnswer.{AddAnswer}
use Rattle.stub_tables.specs.declared.tables.Tables.{Tables}
use Rattle.dialogue.specs.declared.config.Config.{Config}
use Rattle.association_sets.specs.end_rules.Base.{Spellings, base_of}
use Rattle.association_sets.specs.end_rules.Policy.{answer_to_addition, counted_with, answers_to_additions}
use Rattle.set_rules.specs.Plain.{plain_base}

pub plain_answers : (tables : Tables) (config : Config) (spellings : Spellings) (connecting : Bool) (count : ℕ) (ps : List Proposal)
    → answers_to_additions (plain_base tables config) connecting count ps ≡ answers_to_additions (base_of tables config spellings) connecting count ps
plain_answers tables config spellings connecting count [] = refl
plain_answers tables config spellings connecting count (p ∷ ps) =
    let answer : AddAnswer = answer_to_addition (plain_base tables config) connecting count p in
    ap (λ (answers : List AddAnswer). answer ∷ answers) (plain_answers tables config spellings connecting (counted_with count answer) ps)
