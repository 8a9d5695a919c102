-- What the model may take has no fault.
use Rattle.std.proofs.Common.{◌≡◌, refl, true, false, ◌∙◌, sym, ap, subst, arith, ℕ, ◌≤◌, ◌%◌, List}
use Rattle.std.proofs.Common.{[], ◌∷◌, ◌++◌, map}
use Rattle.std.specs.Prelude.{Bool, not, ◌&&◌, ◌||◌, Option, Some, None, is_some, option_map}
use Rattle.std.specs.Prelude.{nat_eq, nat_le}
use Rattle.std.specs.List.{list_any}
use Rattle.std.proofs.lemmas.Bool.Decides.{nat_tests}
use Rattle.osi_base.specs.declared.syntax.Pair.{Pair}
use Rattle.osi_base.specs.declared.layer_words.SetItem.{SetItem}
use Rattle.osi_base.specs.declared.layer_words.Proposal.{Proposal}
use Rattle.osi_base.specs.declared.layer_words.RestoredItem.{RestoredItem}
use Rattle.end_rules.specs.Base.{Base}
use Rattle.end_rules.specs.State.{Body, Awaited, NoAnswer, RestartOf, InterruptOf, DiscardOf}
use Rattle.end_rules.specs.State.{ReleaseOf, is_up}
use Rattle.end_rules.specs.Sets.{Alteration, is_among, same_name, same_lists, listed}
use Rattle.osi_base.specs.SetPlaces.{pair_of}
use Rattle.end_rules.specs.Sets.{has_parity, proposed_ids}
use Rattle.end_rules.specs.Altering.{has_double}
use Rattle.end_rules.specs.Policy.{is_faulty_proposal}
use Rattle.end_rules.specs.InPlace.{is_in_place, awaits_restart, awaits_release, awaits_interrupt}
use Rattle.end_rules.specs.TakesMarks.{restored_set, list_fault}
use Rattle.end_rules.specs.Reacting.{fault_above, word_fault}
use Rattle.end_rules.specs.Messages.{Word, unit_of}
use Rattle.agreement.specs.Sets as sets
use Rattle.agreement.specs.Sets.Role.{Responder}
use Rattle.agreement.specs.Sets.Item.{Deletion}
use Rattle.agreement.specs.Takings.{additions}
use Rattle.agreement.specs.State.Phase.{Up as model_up}
use Rattle.agreement.specs.State.Awaited.{RestartOf as model_restart_of}
use Rattle.agreement.specs.State.Awaited.{ReleaseOf as model_release_of}
use Rattle.agreement.specs.State.Awaited.{InterruptOf as model_interrupt_of}
use Rattle.end_model.specs.Seen.{role_seen, pair_seen, set_seen, addition_seen, items_seen}
use Rattle.end_model.specs.Seen.{listed_seen, awaited_seen, saved_seen, phase_seen}
use Rattle.end_model.specs.Meant.{list_meant}
use Rattle.end_model.proofs.Facts.{up-there}
use Rattle.end_model.proofs.Held.{lookup-seen}
use Rattle.end_model.proofs.Sendings.{restored-seen}
use Rattle.end_model.proofs.Fitting.{same-itself}

-- ---- tests

pub eq-true : (m n : ℕ) → m ≡ n → nat_eq m n ≡ true
eq-true m n e = grind (arith, nat_tests)

pub le-true : (m n : ℕ) → m ≤ n → nat_le m n ≡ true
le-true m n h = grind (arith, nat_tests)

pub up-now : (base : Base) (body : Body) → phase_seen body.link.stage body.link.phase ≡ model_up → is_up body.link.phase ≡ true
up-now base body h = ap is_up (up-there body.link.stage body.link.phase h)

pub is-responder : (initiator : Bool) → role_seen initiator ≡ Responder → initiator ≡ false
is-responder true h = cc
is-responder false h = refl

pub fine : (base : Base) (body : Body) (word : Word) → is_in_place base body (unit_of word) ≡ true → fault_above base body word ≡ None → word_fault base body word ≡ None
fine base body word h k = rw (h, k) refl

-- ---- restarts

abbrev one_listed : RestoredItem → sets.Listed
one_listed x = record { identifier = x.id; transfer_syntax = x.transfer }

same-list : (xs ys : List RestoredItem) → listed_seen xs ≡ listed_seen ys → same_lists xs ys ≡ true
same-list [] [] h = refl
same-list [] (y ∷ ys) h = cc
same-list (x ∷ xs) [] h = cc
same-list (x ∷ xs) (y ∷ ys) h =
    let one : one_listed x ≡ one_listed y = cc in
    let ids : x.id ≡ y.id = ap (λ (l : sets.Listed). l.identifier) one in
    let names : x.transfer ≡ y.transfer = ap (λ (l : sets.Listed). l.transfer_syntax) one in
    let rest : listed_seen xs ≡ listed_seen ys = cc in
    let same : (nat_eq x.id y.id && same_name x.transfer y.transfer) ≡ true = both (nat_eq x.id y.id) (same_name x.transfer y.transfer) (eq-true x.id y.id ids) (ap (λ n. same_name n y.transfer) names ∙ same-itself y.transfer) in
    both (nat_eq x.id y.id && same_name x.transfer y.transfer) (same_lists xs ys) same (same-list xs ys rest)
  where
    both : (a b : Bool) → a ≡ true → b ≡ true → (a && b) ≡ true
    both true b h k = k
    both false b h k = cc

pub no-list_fault : (body : Body) (number : ℕ) (list : Option (List RestoredItem)) → list_meant list ≡ sets.listed (sets.newest (sets.below number (saved_seen body.saved))) → list_fault body number list ≡ None
no-list_fault body number None h = refl
no-list_fault body number (Some list) h =
    let same : same_lists list (listed (restored_set body number)) ≡ true = same-list list (listed (restored_set body number)) (h ∙ sym (restored-seen number body.saved)) in
    rw same refl

pub awaits-restart : (awaited : Awaited) (number : ℕ) → awaited_seen awaited ≡ model_restart_of number → awaits_restart awaited number ≡ true
awaits-restart NoAnswer number h = cc
awaits-restart (RestartOf own) number h = let e : own ≡ number = cc in eq-true own number e
awaits-restart InterruptOf number h = cc
awaits-restart DiscardOf number h = cc
awaits-restart ReleaseOf number h = cc

pub awaits-release : (awaited : Awaited) → awaited_seen awaited ≡ model_release_of → awaits_release awaited ≡ true
awaits-release NoAnswer h = cc
awaits-release (RestartOf own) h = cc
awaits-release InterruptOf h = cc
awaits-release DiscardOf h = cc
awaits-release ReleaseOf h = refl

pub awaits-interrupt : (awaited : Awaited) → awaited_seen awaited ≡ model_interrupt_of → awaits_interrupt awaited ≡ true
awaits-interrupt NoAnswer h = cc
awaits-interrupt (RestartOf own) h = cc
awaits-interrupt InterruptOf h = refl
awaits-interrupt DiscardOf h = cc
awaits-interrupt ReleaseOf h = cc

-- ---- proposals

pub among-seen : (k : ℕ) (ks : List ℕ) → sets.is_among k ks ≡ is_among k ks
among-seen k [] = refl
among-seen k (j ∷ ks) = ap (λ b. nat_eq k j || b) (among-seen k ks)

pub distinct-ids : (ks : List ℕ) → sets.AreDistinct ks → has_double ks ≡ false
distinct-ids [] h = refl
distinct-ids (k ∷ ks) h = rw (sym (among-seen k ks) ∙ h.0) (distinct-ids ks h.1)

pub ids-seen : (add : List Proposal) (delete : List ℕ) → sets.identifiers (additions (map addition_seen add ++ map Deletion delete)) ≡ proposed_ids add
ids-seen [] delete = ap sets.identifiers (no-additions delete)
  where
    no-additions : (delete : List ℕ) → additions (map Deletion delete) ≡ []
    no-additions [] = refl
    no-additions (k ∷ delete) = no-additions delete
ids-seen (p ∷ add) delete = ap (λ (ks : List ℕ). p.id ∷ ks) (ids-seen add delete)

pub none-there : (p : Option Pair) → option_map pair_seen p ≡ None → is_some p ≡ false
none-there None h = refl
none-there (Some pair) h = cc

right-parity : (initiator : Bool) (k : ℕ) → k % 2 ≡ sets.parity (sets.other (role_seen initiator)) → has_parity (not initiator) k ≡ true
right-parity true k h = eq-true (k % 2) 0 h
right-parity false k h = eq-true (k % 2) 1 h

may-ask : (initiator : Bool) (held : List SetItem) (add : List Proposal) (rest : List sets.Item) → sets.AllMayBeAsked (sets.other (role_seen initiator)) (set_seen held) (map addition_seen add ++ rest) → list_any (λ k. is_some (pair_of held k) || not (has_parity (not initiator) k)) (proposed_ids add) ≡ false
may-ask initiator held [] rest h = refl
may-ask initiator held (p ∷ add) rest h =
    let absent : is_some (pair_of held p.id) ≡ false = none-there (pair_of held p.id) (sym (lookup-seen held p.id) ∙ h.0.1) in
    rw (absent, right-parity initiator p.id h.0.0) (may-ask initiator held add rest h.1)

pub no-faulty_proposal : (initiator : Bool) (held : List SetItem) (a : Alteration) → sets.AreDistinct (sets.identifiers (additions (items_seen a))) → sets.AllMayBeAsked (sets.other (role_seen initiator)) (set_seen held) (items_seen a) → is_faulty_proposal (not initiator) held a.add ≡ false
no-faulty_proposal initiator held a once may =
    rw (distinct-ids (proposed_ids a.add) (subst sets.AreDistinct (ids-seen a.add a.delete) once)) (may-ask initiator held a.add (map Deletion a.delete) may)
