-- Marks that the shared set saved of an activity, and marks of a transfer; acceptances, and messages whose values stand with the pairs of a
-- set.
use Rattle.std.proofs.Common.{◌≡◌, refl, true, false, ◌∙◌, sym, ap, subst, arith, ℕ, suc, ◌≤◌, List, [], ◌∷◌, map}
use Rattle.std.specs.Prelude.{Bool, not, Option, Some, None, nat_eq, nat_lt, if◌then◌else◌}
use Rattle.std.proofs.lemmas.Bool.Decides.{nat_tests}
use Rattle.osi_base.specs.declared.layer_words.SetItem.{SetItem}
use Rattle.end_rules.specs.Base.{Base}
use Rattle.end_rules.specs.Sets.{Alteration, Saved, is_fixed, altered, below, newest}
use Rattle.osi_base.specs.SetPlaces.{pair_of}
use Rattle.end_rules.specs.Policy.{policy, is_faulty_proposal}
use Rattle.end_rules.specs.Messages.{Message, DataValue}
use Rattle.end_rules.specs.State.{Body, Piece, Octets, Marked, Transfer, Queued, Sending, from_mark, highest, pieces_of, on_current, on_transfer}
use Rattle.end_rules.specs.Requesting.{begun}
use Rattle.end_rules.specs.World.{Shared, saved_of, saving}
use Rattle.agreement.specs.Sets.{Role, other}
use Rattle.agreement.specs.Sets.Role.{Initiator, Responder}
use Rattle.end_model.specs.Sharing.{side_of}
use Rattle.reliable_model.proofs.Fixed.{fixed-there, others-altered, fixed-unharmed, unproposed}
use Rattle.reliable_model.proofs.Firm.{Keeps}
use Rattle.run_laws.specs.Passing.{values_in}
use Rattle.run_lemmas.proofs.Tests.{clash}

-- ---- what marks saved

-- the set of each mark up to this number keeps the contexts
abbrev pub MarksKeep : List SetItem → ℕ → List Saved → Type 0
MarksKeep first top marks = (n : ℕ) → 1 ≤ n → n ≤ top → Keeps first (newest (below (suc n) marks))

pub no-marks : (first : List SetItem) (top : ℕ) (marks : List Saved) → top ≡ 0 → MarksKeep first top marks
no-marks first top marks e n low high = absurd (omega arith)

pub fewer-marks : (first : List SetItem) (top fewer : ℕ) (marks : List Saved) → fewer ≤ top → MarksKeep first top marks → MarksKeep first fewer marks
fewer-marks first top fewer marks e h n low high = h n low (omega arith)

pub mark-more : (first : List SetItem) (top : ℕ) (set : List SetItem) (marks : List Saved) → Keeps first set → MarksKeep first top marks → MarksKeep first (suc top) (record { number = suc top; set = set } ∷ marks)
mark-more first top set marks k h n low high = go (nat_lt (suc top) (suc n)) refl
  where
    before : (t n : ℕ) → nat_lt (suc t) (suc n) ≡ false → n ≤ t
    before t n e = grind (arith, nat_tests)

    go : (b : Bool) → nat_lt (suc top) (suc n) ≡ b → Keeps first (newest (if b then record { number = suc top; set = set } ∷ marks else below (suc n) marks))
    go true e = k
    go false e = h n low (before top n e)

pub below-below : (m n : ℕ) (marks : List Saved) → m ≤ n → below m (below n marks) ≡ below m marks
below-below m n [] h = refl
below-below m n (mark ∷ marks) h = go (nat_lt mark.number n) refl (nat_lt mark.number m) refl (below-below m n marks h)
  where
    less : (k m n : ℕ) → m ≤ n → nat_lt k n ≡ false → nat_lt k m ≡ false
    less k m n h e = grind (arith, nat_tests)

    go : (x : Bool) → nat_lt mark.number n ≡ x → (y : Bool) → nat_lt mark.number m ≡ y → below m (below n marks) ≡ below m marks → below m (if x then mark ∷ marks else below n marks) ≡ (if y then mark ∷ marks else below m marks)
    go true e y f later = ap (λ (b : Bool). if b then mark ∷ marks else below m marks) f
    go false e true f later = absurd (clash (nat_lt mark.number m) f (less mark.number m n h e))
    go false e false f later = later

pub mark-back : (first : List SetItem) (top n : ℕ) (marks : List Saved) → n ≤ top → MarksKeep first top marks → MarksKeep first n (below (suc n) marks)
mark-back first top n marks e h k low high =
    subst (λ (ms : List Saved). Keeps first (newest ms)) (sym (below-below (suc k) (suc n) marks (omega arith))) (h k low (omega arith))

-- ---- marks of a transfer

pub highest-from : (n : ℕ) (pieces : List Piece) → highest (from_mark n pieces) ≤ n
highest-from n [] = omega arith
highest-from n (Octets octets ∷ pieces) = highest-from n pieces
highest-from n (Marked m set ∷ pieces) = go (nat_eq m n) refl (highest-from n pieces)
  where
    same : (m n : ℕ) → nat_eq m n ≡ true → m ≤ n
    same m n e = grind (arith, nat_tests)

    go : (b : Bool) → nat_eq m n ≡ b → highest (from_mark n pieces) ≤ n → highest (if b then Marked m set ∷ pieces else from_mark n pieces) ≤ n
    go true e later = same m n e
    go false e later = later

-- how many marks a transfer has
abbrev pub marks_in : Body → ℕ
marks_in body = highest (pieces_of body.sending.current)

-- a change that adds no mark
pub changed-marks : (change : Transfer → Transfer) (body : Body) → ((t : Transfer) → highest (change t).pieces ≡ highest t.pieces) → marks_in (on_transfer change body) ≡ marks_in body
changed-marks change body f = go body.sending.current
  where
    go : (c : Option Transfer) → highest (pieces_of (on_current change (record body.sending { current = c })).current) ≡ highest (pieces_of c)
    go None = refl
    go (Some t) = f t

-- a change of a transfer that is there
pub changed-there : (change : Transfer → Transfer) (body : Body) (t : Transfer) → body.sending.current ≡ Some t → marks_in (on_transfer change body) ≡ highest (change t).pieces
changed-there change body t e = ap (λ (c : Option Transfer). highest (pieces_of (on_current change (record body.sending { current = c })).current)) e

pub begun-marks : (sending : Sending) → highest (pieces_of (begun sending).current) ≡ 0
begun-marks sending = go sending.queue
  where
    go : (queue : List Queued) → highest (pieces_of (begun (record sending { queue = queue })).current) ≡ 0
    go [] = refl
    go (item ∷ items) = refl

-- ---- the shared set

pub record Keeping (first : List SetItem) (shared : Shared) : Type 0 where
  pub set : Keeps first shared.set
  pub inter : Keeps first shared.inter

pub own-saved : (role : Role) (marks : List Saved) (shared : Shared) → saved_of (side_of role) (saving (side_of role) marks shared) ≡ marks
own-saved Initiator marks shared = refl
own-saved Responder marks shared = refl

pub peer-saved : (role : Role) (marks : List Saved) (shared : Shared) → saved_of (side_of (other role)) (saving (side_of role) marks shared) ≡ saved_of (side_of (other role)) shared
peer-saved Initiator marks shared = refl
peer-saved Responder marks shared = refl

pub saving-keeps : (first : List SetItem) (role : Role) (marks : List Saved) (shared : Shared) → Keeping first shared → Keeping first (saving (side_of role) marks shared)
saving-keeps first Initiator marks shared k = record { set = k.set; inter = k.inter }
saving-keeps first Responder marks shared k = record { set = k.set; inter = k.inter }

-- another set, with the same marks
pub set-saved : (role : Role) (set inter : List SetItem) (shared : Shared) → saved_of (side_of role) (record shared { set = set; inter = inter }) ≡ saved_of (side_of role) shared
set-saved Initiator set inter shared = refl
set-saved Responder set inter shared = refl

-- an alteration as an end answers it
pub altered-keeps : (first : List SetItem) (base : Base) (body : Body) (a : Alteration) → is_faulty_proposal (not base.initiator) body.sets.held a.add ≡ false → Keeps first body.sets.held → (set : List SetItem) → Keeps first set → Keeps first (altered a (policy base body a) set)
altered-keeps first base body a proposes h set s k e =
    let fixed : is_fixed (pair_of body.sets.held k) ≡ true = ap is_fixed (h k e) ∙ e in
    others-altered a (policy base body a) set k (unproposed (not base.initiator) body.sets.held k a.add proposes (fixed-there (pair_of body.sets.held k) fixed)) (fixed-unharmed body k a.delete fixed) ∙ s k e

-- ---- messages

-- its values stand with the pairs that the set gives their contexts
abbrev pub IsRight : List SetItem → Message → Type 0
IsRight set message = map (λ (v : DataValue). pair_of set v.id) (values_in message) ≡ map (λ (v : DataValue). v.pair) (values_in message)

abbrev pub AllRight : List SetItem → List Message → Type 0
AllRight set [] = Unit {0}
AllRight set (m ∷ ms) = IsRight set m × AllRight set ms
