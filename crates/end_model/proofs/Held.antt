-- What a set and the own alterations say of an identifier is what they say in the model.
use Rattle.std.proofs.Common.{◌≡◌, refl, true, false, ◌∙◌, sym, ap, arith, ℕ, List, [], ◌∷◌, ◌++◌}
use Rattle.std.proofs.Common.{map}
use Rattle.std.specs.Prelude.{Bool, not, ◌&&◌, ◌||◌, Option, Some, None, is_some, option_map}
use Rattle.std.specs.Prelude.{if◌then◌else◌, nat_eq}
use Rattle.std.proofs.lemmas.Bool.Decides.{nat_tests}
use Rattle.osi_base.specs.declared.syntax.Pair.{Pair}
use Rattle.osi_base.specs.declared.layer_words.SetItem.{SetItem}
use Rattle.osi_base.specs.declared.layer_words.Proposal.{Proposal}
use Rattle.end_rules.specs.Sets.{Alteration, is_among, is_deleted_in, may_send}
use Rattle.osi_base.specs.SetPlaces.{pair_of}
use Rattle.agreement.specs.Sets.{Item, lookup, deletes, some_deletes}
use Rattle.agreement.specs.Sets.Item.{Deletion}
use Rattle.end_model.specs.Seen.{pair_seen, set_seen, addition_seen, items_seen}
use Rattle.end_model.proofs.Restarts.{if-map}

pub eq-sym : (a b : ℕ) → nat_eq a b ≡ nat_eq b a
eq-sym a b = grind (arith, nat_tests)

pub lookup-seen : (set : List SetItem) (k : ℕ) → lookup (set_seen set) k ≡ option_map pair_seen (pair_of set k)
lookup-seen [] k = refl
lookup-seen (item ∷ items) k =
    ap (λ later. if nat_eq item.id k then Some (pair_seen item.pair) else later) (lookup-seen items k) ∙
    sym (if-map (option_map pair_seen) (nat_eq item.id k) (Some item.pair) (pair_of items k))

pub found-pair : (set : List SetItem) (k : ℕ) (pair : Pair) → pair_of set k ≡ Some pair → lookup (set_seen set) k ≡ Some (pair_seen pair)
found-pair set k pair h = lookup-seen set k ∙ ap (option_map pair_seen) h

deletions-seen : (k : ℕ) (delete : List ℕ) → deletes k (map Deletion delete) ≡ is_among k delete
deletions-seen k [] = refl
deletions-seen k (j ∷ delete) = ap (λ b. b || deletes k (map Deletion delete)) (eq-sym j k) ∙ ap (λ b. nat_eq k j || b) (deletions-seen k delete)

deletes-append : (k : ℕ) (add : List Proposal) (rest : List Item) → deletes k (map addition_seen add ++ rest) ≡ deletes k rest
deletes-append k [] rest = refl
deletes-append k (p ∷ add) rest = deletes-append k add rest

pub deletes-seen : (k : ℕ) (a : Alteration) → deletes k (items_seen a) ≡ is_among k a.delete
deletes-seen k a = deletes-append k a.add (map Deletion a.delete) ∙ deletions-seen k a.delete

pub some-deletes : (k : ℕ) (own : List Alteration) → some_deletes k (map items_seen own) ≡ is_deleted_in own k
some-deletes k [] = refl
some-deletes k (a ∷ own) = ap (λ b. b || some_deletes k (map items_seen own)) (deletes-seen k a) ∙ ap (λ b. is_among k a.delete || b) (some-deletes k own)

-- ---- a carrier may be sent on

-- a context that is in the set, under this pair, and that no own alteration deletes
pub record MaySend (held : List SetItem) (own : List Alteration) (k : ℕ) : Type 0 where
  pub pair : Pair
  pub there : pair_of held k ≡ Some pair
  pub kept : is_deleted_in own k ≡ false

pub may-send : (held : List SetItem) (own : List Alteration) (k : ℕ) → may_send held own k ≡ true → MaySend held own k
may-send held own k h = go (pair_of held k) refl (is_deleted_in own k) refl h
  where
    go : (p : Option Pair) → pair_of held k ≡ p → (d : Bool) → is_deleted_in own k ≡ d → (is_some p && not d) ≡ true → MaySend held own k
    go (Some pair) e false f h = record { pair = pair; there = e; kept = f }
    go (Some pair) e true f h = cc
    go None e d f h = cc
