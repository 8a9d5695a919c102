-- The sending of a mark in direct mode.
use Rattle.std.proofs.Common.{◌≡◌, ℕ, List, [], ◌∷◌, ◌++◌, map, refl, ap}
use Rattle.osi_base.specs.declared.layer_words.Proposal.{Proposal}
use Rattle.dialogue.specs.declared.config.Mode.{Mode}
use Rattle.dialogue.specs.declared.config.Mode.TheVariants.{Direct}
use Rattle.end_rules.specs.Sets.{Saved, next_number}
use Rattle.end_rules.specs.Messages.{Session, OfData, OfMarks, Mark, AlterContext}
use Rattle.end_rules.specs.TakesData.{alteration}
use Rattle.agreement.specs.Sets.{next_number as model_next}
use Rattle.agreement.specs.Messages.Act.{Marks, Alters}
use Rattle.end_model.specs.Seen.{items_seen, saved_seen, set_seen, seen}
use Rattle.end_model.specs.Rows.{at, SendsAs}

pub next-seen : (saved : List Saved) → next_number saved ≡ model_next (saved_seen saved)
next-seen [] = refl
next-seen (mark ∷ marks) = refl

pub mark-sent : SendsAs Direct (λ body. Session (OfMarks (Mark (next_number body.saved)))) (λ body. Marks)
mark-sent free base body =
    ap (λ n. record (seen (at Direct base) body) { saved = record { number = n; set = set_seen body.sets.held } ∷ saved_seen body.saved }) (next-seen body.saved)

pub map-snoc : {A B : Type 0} (f : A → B) (xs : List A) (y : A) → map f (xs ++ y ∷ []) ≡ map f xs ++ f y ∷ []
map-snoc f [] y = refl
map-snoc f (x ∷ xs) y = ap (λ ys. f x ∷ ys) (map-snoc f xs y)

pub alter-sent : (mode : Mode) (add : List Proposal) (delete : List ℕ) → SendsAs mode (λ body. Session (OfData (AlterContext add delete))) (λ body. Alters (items_seen (alteration add delete)))
alter-sent mode add delete free base body =
    ap (λ own. record (seen (at mode base) body) { sets = record { held = set_seen body.sets.held; inter = set_seen body.sets.inter; own = own } })
    (map-snoc items_seen body.sets.own (alteration add delete))
