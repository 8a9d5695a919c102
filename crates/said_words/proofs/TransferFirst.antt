-- What an opening of reliable mode accepts: association control and reliable transfer have the lowest identifiers, so that their
-- values go there, and between two such ends nothing is refused.
use Rattle.std.proofs.Common.{◌≡◌, refl, true, false, ◌∙◌, ap, arith, ℕ, ◌≤◌, ◌<◌, ◌%◌, List, [], ◌∷◌}
use Rattle.std.specs.Prelude.{Bool, not, ◌||◌, Option, Some, None, is_some, nat_eq, nat_lt, if◌then◌else◌}
use Rattle.std.specs.List.{list_any}
use Rattle.std.proofs.lemmas.Bool.Decides.{nat_tests}
use Rattle.osi_base.specs.declared.syntax.Pair.{Pair}
use Rattle.osi_base.specs.declared.layer_words.SetItem.{SetItem}
use Rattle.osi_base.specs.declared.layer_words.Proposal.{Proposal}
use Rattle.osi_base.specs.declared.layer_words.AddAnswer.{AddAnswer}
use Rattle.stub_tables.specs.declared.tables.Tables.{Tables}
use Rattle.dialogue.specs.declared.config.Config.{Config}
use Rattle.dialogue.specs.declared.config.Mode.TheVariants.{Reliable}
use Rattle.end_model.specs.end_rules.Base.{Spellings}
use Rattle.end_model.specs.end_rules.Sets.{is_among, put, put_accepted, pair_accepted, with_added, proposed_ids, has_parity}
use Rattle.osi_base.specs.SetPlaces.{pair_of}
use Rattle.end_model.specs.end_rules.State.{Body}
use Rattle.end_model.specs.end_rules.Altering.{has_double}
use Rattle.end_model.specs.end_rules.Policy.{answers_to_additions}
use Rattle.end_model.specs.end_rules.Writing.{acse_pair, acse_context, rtse_context, proposals, session_connect, presentation_connect, connect_values, connection_data}
use Rattle.end_model.specs.end_rules.Connecting.{has_acse, has_rtse, has_association, is_refused}
use Rattle.agreement.specs.Sets.Role.{Initiator, Responder}
use Rattle.end_model.specs.BothEnds.{Common, base_at}
use Rattle.end_model.specs.DirectEnds.{ProposesRightly}
use Rattle.reliable_model.specs.ReliableEnds.{reliable_common}
use Rattle.reliable_model.proofs.Fixed.{AreIdentifiers}
use Rattle.reliable_model.proofs.Contexts.{held-so}
use Rattle.said_words.specs.Words.{rtse_pair}
use Rattle.said_words.proofs.First.{first_accepted}

or-left : (a b : Bool) → (a || b) ≡ false → a ≡ false
or-left true b h = cc
or-left false b h = refl

or-right : (a b : Bool) → (a || b) ≡ false → b ≡ false
or-right true b h = cc
or-right false b h = h

abbrev acse_item : SetItem
acse_item = record { id = 1; pair = acse_pair }

abbrev rtse_item : SetItem
rtse_item = record { id = 3; pair = rtse_pair }

-- ---- later contexts go behind them

abbrev AreLater : List Proposal → Type 0
AreLater [] = Unit {0}
AreLater (p ∷ ps) = (4 ≤ p.id) × AreLater ps

four : (k : ℕ) → 1 ≤ k → nat_eq 1 k ≡ false → nat_eq 3 k ≡ false → not (nat_eq (k % 2) 1) ≡ false → 4 ≤ k
four k l n m o = go (nat_eq (k % 2) 1) refl o
  where
    odd : (k : ℕ) → 1 ≤ k → nat_eq 1 k ≡ false → nat_eq 3 k ≡ false → nat_eq (k % 2) 1 ≡ true → 4 ≤ k
    odd k l n m e = grind (arith, nat_tests)

    go : (c : Bool) → nat_eq (k % 2) 1 ≡ c → not c ≡ false → 4 ≤ k
    go true e h = odd k l n m e
    go false e h = cc

later-so : (ps : List Proposal) → AreIdentifiers ps → is_among 1 (proposed_ids ps) ≡ false → is_among 3 (proposed_ids ps) ≡ false → list_any (λ k. is_some (pair_of [] k) || not (has_parity true k)) (proposed_ids ps) ≡ false → AreLater ps
later-so [] i n m o = tt
later-so (p ∷ ps) i n m o = (
  four p.id i.0.low (or-left (nat_eq 1 p.id) (is_among 1 (proposed_ids ps)) n) (or-left (nat_eq 3 p.id) (is_among 3 (proposed_ids ps)) m)
      (or-left (not (nat_eq (p.id % 2) 1)) (list_any (λ k. is_some (pair_of [] k) || not (has_parity true k)) (proposed_ids ps)) o),
  later-so ps i.1 (or-right (nat_eq 1 p.id) (is_among 1 (proposed_ids ps)) n) (or-right (nat_eq 3 p.id) (is_among 3 (proposed_ids ps)) m)
      (or-right (not (nat_eq (p.id % 2) 1)) (list_any (λ k. is_some (pair_of [] k) || not (has_parity true k)) (proposed_ids ps)) o),
)

put-one : (k : ℕ) (pair : Pair) (item : SetItem) (items : List SetItem) → nat_lt k item.id ≡ false → nat_eq k item.id ≡ false → put k pair (item ∷ items) ≡ item ∷ put k pair items
put-one k pair item items e f = go (nat_lt k item.id) (nat_eq k item.id) e f
  where
    go : (a b : Bool) → a ≡ false → b ≡ false → (if a then record { id = k; pair = pair } ∷ item ∷ items else if b then record { id = k; pair = pair } ∷ items else item ∷ put k pair items) ≡ item ∷ put k pair items
    go true b e f = cc
    go false true e f = cc
    go false false e f = refl

put-behind : (k : ℕ) (pair : Pair) (items : List SetItem) → 4 ≤ k → put k pair (acse_item ∷ rtse_item ∷ items) ≡ acse_item ∷ rtse_item ∷ put k pair items
put-behind k pair items h =
    put-one k pair acse_item (rtse_item ∷ items) (not-less k 1 (omega arith)) (not-same k 1 (omega arith)) ∙
    ap (λ (xs : List SetItem). acse_item ∷ xs) (put-one k pair rtse_item items (not-less k 3 (omega arith)) (not-same k 3 (omega arith)))
  where
    not-less : (k n : ℕ) → n < k → nat_lt k n ≡ false
    not-less k n h = grind (arith, nat_tests)

    not-same : (k n : ℕ) → n < k → nat_eq k n ≡ false
    not-same k n h = grind (arith, nat_tests)

accepted-behind : (k : ℕ) (p : Option Pair) (items : List SetItem) → 4 ≤ k → (rest : List SetItem) × (put_accepted k p (acse_item ∷ rtse_item ∷ items) ≡ acse_item ∷ rtse_item ∷ rest)
accepted-behind k None items h = (items, refl)
accepted-behind k (Some pair) items h = (put k pair items, put-behind k pair items h)

added-behind : (ps : List Proposal) (answers : List AddAnswer) (items : List SetItem) → AreLater ps → (rest : List SetItem) × (with_added ps answers (acse_item ∷ rtse_item ∷ items) ≡ acse_item ∷ rtse_item ∷ rest)
added-behind [] answers items h = (items, refl)
added-behind (p ∷ ps) [] items h = (items, refl)
added-behind (p ∷ ps) (answer ∷ answers) items h =
    let a = accepted-behind p.id (pair_accepted p answer) items h.0 in
    let b = added-behind ps answers a.0 h.1 in
    (b.0, ap (with_added ps answers) a.1 ∙ b.1)

-- ---- what is first accepted

-- nothing refuses
refused-none : (acse rtse windowless known : Bool) → acse ≡ true → rtse ≡ true → windowless ≡ false → known ≡ true → ((not acse || (not rtse || false)) || is_some {T = ℕ} (if windowless then Some 2 else (if not known then Some 1 else None))) ≡ false
refused-none true true false true e f g h = refl
refused-none true true false false e f g h = cc
refused-none true true true known e f g h = cc
refused-none true false windowless known e f g h = cc
refused-none false rtse windowless known e f g h = cc

module _ (tables : Tables) (spellings : Spellings) (a b : Config) where
  abbrev common : Common
  common = reliable_common tables spellings a b

  module _ (right : ProposesRightly common) (ids : AreIdentifiers (proposals (base_at Initiator common))) where
    later : AreLater a.contexts
    later =
        let doubles = or-left (has_double (1 ∷ 3 ∷ proposed_ids a.contexts)) (list_any (λ k. is_some (pair_of [] k) || not (has_parity true k)) (1 ∷ 3 ∷ proposed_ids a.contexts)) right in
        let parities = or-right (has_double (1 ∷ 3 ∷ proposed_ids a.contexts)) (list_any (λ k. is_some (pair_of [] k) || not (has_parity true k)) (1 ∷ 3 ∷ proposed_ids a.contexts)) right in
        let one = or-left (is_among 1 (3 ∷ proposed_ids a.contexts)) (is_among 3 (proposed_ids a.contexts) || has_double (proposed_ids a.contexts)) doubles in
        let three = or-right (is_among 1 (3 ∷ proposed_ids a.contexts)) (is_among 3 (proposed_ids a.contexts) || has_double (proposed_ids a.contexts)) doubles in
        later-so a.contexts ids.1.1 one (or-left (is_among 3 (proposed_ids a.contexts)) (has_double (proposed_ids a.contexts)) three) parities

    -- they stand first
    begins : (rest : List SetItem) × (first_accepted common ≡ acse_item ∷ rtse_item ∷ rest)
    begins =
        let x = added-behind a.contexts (answers_to_additions (record (base_at Responder common) { mode = Reliable }) true 2 a.contexts) [] later in
        (x.0, held-so (base_at Responder common) a.contexts ∙ x.1)

    pub acse-pair : pair_of (first_accepted common) 1 ≡ Some acse_pair
    acse-pair = ap (λ (set : List SetItem). pair_of set 1) begins.1

    pub rtse-pair : pair_of (first_accepted common) 3 ≡ Some rtse_pair
    rtse-pair = ap (λ (set : List SetItem). pair_of set 3) begins.1

    pub on-acse : acse_context (first_accepted common) ≡ 1
    on-acse = ap acse_context begins.1

    pub on-rtse : rtse_context (first_accepted common) ≡ 3
    on-rtse = ap rtse_context begins.1

    pub with-acse : has_acse (first_accepted common) ≡ true
    with-acse = ap has_acse begins.1

    pub with-rtse : has_rtse (first_accepted common) ≡ true
    with-rtse = ap has_rtse begins.1

    pub never-refused : (body : Body) (recovers : Bool) → nat_eq a.window 0 ≡ false → has_association body (connection_data (base_at Initiator common) recovers) ≡ true →
        is_refused (base_at Responder common) body (session_connect (base_at Initiator common)) (presentation_connect (base_at Initiator common)) (connect_values (base_at Initiator common) recovers) ≡ false
    never-refused body recovers window known =
        refused-none (has_acse (first_accepted common)) (has_rtse (first_accepted common)) (nat_eq a.window 0) (has_association body (connection_data (base_at Initiator common) recovers)) with-acse with-rtse window known
