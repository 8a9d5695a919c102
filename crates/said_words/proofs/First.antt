-- What an opening accepts: association control has the lowest identifier, so that nothing refuses, and every value of it goes there.
use Rattle.std.proofs.Common.{◌≡◌, refl, true, false, ◌∙◌, sym, ap, subst, arith, ℕ, ◌≤◌, List, [], ◌∷◌}
use Rattle.std.specs.Prelude.{Bool, not, ◌&&◌, ◌||◌, Option, Some, None, find, nat_eq, nat_lt, if◌then◌else◌}
use Rattle.std.proofs.lemmas.Bool.Decides.{nat_tests}
use Rattle.osi_base.specs.declared.syntax.Pair.{Pair}
use Rattle.osi_base.specs.declared.layer_words.SetItem.{SetItem}
use Rattle.osi_base.specs.declared.layer_words.Proposal.{Proposal}
use Rattle.osi_base.specs.declared.layer_words.AddAnswer.{AddAnswer}
use Rattle.stub_tables.specs.declared.tables.Tables.{Tables}
use Rattle.dialogue.specs.declared.config.Config.{Config}
use Rattle.end_model.specs.end_rules.Base.{Spellings, ber_name}
use Rattle.end_model.specs.end_rules.Sets.{same_name, is_among, put, put_accepted, pair_accepted, with_added, proposed_ids}
use Rattle.osi_base.specs.SetPlaces.{pair_of}
use Rattle.osi_base.specs.Syntax.{acse_name}
use Rattle.end_model.specs.end_rules.State.{Body}
use Rattle.end_model.specs.end_rules.Altering.{has_double}
use Rattle.end_model.specs.end_rules.Policy.{is_association, takes_syntax, acceptance, rejection, answer_within, answer_to_addition, counted_with, answers_to_additions, opening_policy}
use Rattle.end_model.specs.end_rules.Writing.{acse_pair, acse_context, proposal_in_ber, proposals, session_connect, presentation_connect, connect_values}
use Rattle.end_model.specs.end_rules.Connecting.{set_for, has_acse, is_refused}
use Rattle.agreement.specs.Sets.Role.{Initiator, Responder}
use Rattle.end_model.specs.BothEnds.{Common, base_at}
use Rattle.end_model.specs.DirectEnds.{direct_common, ProposesRightly}
use Rattle.reliable_model.proofs.Fixed.{AreIdentifiers}
use Rattle.said_words.proofs.Lists.{IsHeld, added-listed, opened-few}

or-left : (a b : Bool) → (a || b) ≡ false → a ≡ false
or-left true b h = cc
or-left false b h = refl

or-right : (a b : Bool) → (a || b) ≡ false → b ≡ false
or-right true b h = cc
or-right false b h = h

acse_item : SetItem
acse_item = record { id = 1; pair = acse_pair }

-- ---- later contexts go behind it

abbrev AreLater : List Proposal → Type 0
AreLater [] = Unit {0}
AreLater (p ∷ ps) = (2 ≤ p.id) × AreLater ps

later-so : (ps : List Proposal) → AreIdentifiers ps → is_among 1 (proposed_ids ps) ≡ false → AreLater ps
later-so [] i n = tt
later-so (p ∷ ps) i n = (two p.id i.0.low (or-left (nat_eq 1 p.id) (is_among 1 (proposed_ids ps)) n), later-so ps i.1 (or-right (nat_eq 1 p.id) (is_among 1 (proposed_ids ps)) n))
  where
    two : (k : ℕ) → 1 ≤ k → nat_eq 1 k ≡ false → 2 ≤ k
    two k l n = grind (arith, nat_tests)

put-behind : (k : ℕ) (pair : Pair) (items : List SetItem) → 2 ≤ k → put k pair (acse_item ∷ items) ≡ acse_item ∷ put k pair items
unfolding acse_item
put-behind k pair items h = go (nat_lt k 1) (nat_eq k 1) (not-less k h) (not-same k h)
  where
    not-less : (k : ℕ) → 2 ≤ k → nat_lt k 1 ≡ false
    not-less k h = grind (arith, nat_tests)

    not-same : (k : ℕ) → 2 ≤ k → nat_eq k 1 ≡ false
    not-same k h = grind (arith, nat_tests)

    go : (a b : Bool) → a ≡ false → b ≡ false → (if a then record { id = k; pair = pair } ∷ record { id = 1; pair = acse_pair } ∷ items else if b then record { id = k; pair = pair } ∷ items else record { id = 1; pair = acse_pair } ∷ put k pair items) ≡ record { id = 1; pair = acse_pair } ∷ put k pair items
    go true b e f = cc
    go false true e f = cc
    go false false e f = refl

accepted-behind : (k : ℕ) (p : Option Pair) (items : List SetItem) → 2 ≤ k → (rest : List SetItem) × (put_accepted k p (acse_item ∷ items) ≡ acse_item ∷ rest)
accepted-behind k None items h = (items, refl)
accepted-behind k (Some pair) items h = (put k pair items, put-behind k pair items h)

added-behind : (ps : List Proposal) (answers : List AddAnswer) (items : List SetItem) → AreLater ps → (rest : List SetItem) × (with_added ps answers (acse_item ∷ items) ≡ acse_item ∷ rest)
added-behind [] answers items h = (items, refl)
added-behind (p ∷ ps) [] items h = (items, refl)
added-behind (p ∷ ps) (answer ∷ answers) items h =
    let a = accepted-behind p.id (pair_accepted p answer) items h.0 in
    let b = added-behind ps answers a.0 h.1 in
    (b.0, ap (with_added ps answers) a.1 ∙ b.1)

-- ---- what is first accepted

abbrev pub first_accepted : Common → List SetItem
first_accepted common = set_for (base_at Responder common) (presentation_connect (base_at Initiator common))

module _ (tables : Tables) (spellings : Spellings) (a b : Config) where
  abbrev common : Common
  common = direct_common tables spellings a b

  abbrev acse_proposal : Proposal
  acse_proposal = proposal_in_ber 1 acse_name

  accepts-acse : answer_to_addition (base_at Responder common) true 0 acse_proposal ≡ acceptance ber_name
  accepts-acse = go (same_name acse_name tables.name_oid)
    where
      go : (x : Bool) → (if not (x || (true && is_association (base_at Responder common) acse_name)) then rejection 1 else answer_within 0 (find (takes_syntax (base_at Responder common) true acse_name) (ber_name ∷ []))) ≡ acceptance ber_name
      go true = refl
      go false = refl

  -- it stands first
  begins : ProposesRightly common → AreIdentifiers (proposals (base_at Initiator common)) → (rest : List SetItem) × (first_accepted common ≡ acse_item ∷ rest)
  unfolding acse_item
  begins right ids =
      let doubles = or-left (has_double (proposed_ids (proposals (base_at Initiator common)))) _ right in
      let later = later-so a.contexts ids.1 (or-left (is_among 1 (proposed_ids a.contexts)) (has_double (proposed_ids a.contexts)) doubles) in
      subst (λ (answer : AddAnswer). (rest : List SetItem) × (with_added a.contexts (answers_to_additions (base_at Responder common) true (counted_with 0 answer) a.contexts) (put_accepted 1 (pair_accepted acse_proposal answer) []) ≡ record { id = 1; pair = acse_pair } ∷ rest)) (sym accepts-acse)
      (added-behind a.contexts (answers_to_additions (base_at Responder common) true 1 a.contexts) [] later)

  pub first-pair : ProposesRightly common → AreIdentifiers (proposals (base_at Initiator common)) → pair_of (first_accepted common) 1 ≡ Some acse_pair
  unfolding acse_item
  first-pair right ids = let b = begins right ids in ap (λ (set : List SetItem). pair_of set 1) b.1

  pub first-context : ProposesRightly common → AreIdentifiers (proposals (base_at Initiator common)) → acse_context (first_accepted common) ≡ 1
  unfolding acse_item
  first-context right ids = let b = begins right ids in ap acse_context b.1

  pub first-acse : ProposesRightly common → AreIdentifiers (proposals (base_at Initiator common)) → has_acse (first_accepted common) ≡ true
  unfolding acse_item
  first-acse right ids = let b = begins right ids in ap has_acse b.1

  pub none-refused : (body : Body) → ProposesRightly common → AreIdentifiers (proposals (base_at Initiator common)) → is_refused (base_at Responder common) body (session_connect (base_at Initiator common)) (presentation_connect (base_at Initiator common)) (connect_values (base_at Initiator common) false) ≡ false
  none-refused body right ids = ap (λ (x : Bool). not x || false || false) (first-acse right ids)

  pub first-held : AreIdentifiers (proposals (base_at Initiator common)) → IsHeld (first_accepted common)
  first-held ids =
      record {
        listed = added-listed (proposals (base_at Initiator common)) (opening_policy (base_at Responder common) (proposals (base_at Initiator common))) [] ids tt;
        few = opened-few (base_at Responder common) (proposals (base_at Initiator common));
      }
