-- What an end holds stays sound.
use Rattle.std.proofs.Common.{◌≡◌, ◌∙◌, ap, Bool, ℕ, ◌+◌, ◌<◌, ◌≤◌, List, [], ◌∷◌, ◌++◌, length, length-append, get_or, remove, Option, None, refl, sym, subst, arith}
use Rattle.osi_base.specs.declared.layer_words.Answers.{Answers}
use Rattle.context_sets.specs.declared.alteration.Alteration.{Alteration}
use Rattle.context_sets.specs.Sets.{ContextSet, IsRising}
use Rattle.context_sets.specs.Alterations.{additions, altered}
use Rattle.context_sets.specs.HeldSets.{IsSoundHeldSet, oldest, later}
use Rattle.context_sets.specs.declared.fault.SetRefusal.{SetRefusal}
use Rattle.context_sets.specs.declared.fault.SetFault.{SetFault}
use Rattle.context_sets.specs.Asking.{refusal}
use Rattle.context_sets.specs.Results.{acceptances, mismatch}
use Rattle.context_sets.proofs.Rising.{rising-altered}
use Rattle.context_sets.proofs.Bounds.{additions-push, IsAllowed, is_allowed, as_many, acceptances_few}

pub sound_asked : (set : ContextSet) (own : List Alteration) (asked : Alteration) (before room : ℕ) → IsSoundHeldSet set own before → IsAllowed set own asked → additions own + length asked.added ≤ room → IsSoundHeldSet set (own ++ asked ∷ []) room
sound_asked set own asked before room s a h =
    let e = additions-push own asked in
    let few = a.few in
    let within = a.within in
    let len : length (own ++ asked ∷ []) ≡ length own + 1 = length-append own (asked ∷ []) in
    record { rises = s.rises; few = omega arith; within = omega arith; has_room = omega arith }

pub sound_at : (set set' : ContextSet) (own own' : List Alteration) (room : ℕ) → set' ≡ set → own' ≡ own → IsSoundHeldSet set own room → IsSoundHeldSet set' own' room
sound_at set set' own own' room e f s =
    subst (λ (x : ContextSet). IsSoundHeldSet x own' room) (sym e) (subst (λ (x : List Alteration). IsSoundHeldSet set x room) (sym f) s)

pub sound_answered : (set set' : ContextSet) (own : List Alteration) (alteration : Alteration) (answers : Answers) (more before room : ℕ) → IsSoundHeldSet set own before → set' ≡ altered alteration answers set → length set' ≤ length set + more → length set + additions own + more ≤ 64 → additions own ≤ room → IsSoundHeldSet set' own room
sound_answered set set' own alteration answers more before room s e len within h =
    record {
      rises = subst IsRising (sym e) (rising-altered alteration answers set s.rises);
      few = s.few;
      within = omega arith;
      has_room = h;
    }

pub sound_confirmed : (set set' : ContextSet) (own : List Alteration) (alteration : Alteration) (answers : Answers) (before room : ℕ) → IsSoundHeldSet set (alteration ∷ own) before → set' ≡ altered alteration answers set → length set' ≤ length set + length alteration.added → additions own ≤ room → IsSoundHeldSet set' own room
sound_confirmed set set' own alteration answers before room s e len h =
    let within = s.within in
    let few = s.few in
    record {
      rises = subst IsRising (sym e) (rising-altered alteration answers set s.rises);
      few = omega arith;
      within = omega arith;
      has_room = h;
    }

-- the first of some alterations, and those behind it
pub record IsFirst (own : List Alteration) (first : Alteration) : Type 0 where
  pub is_oldest : oldest own ≡ first
  pub others : remove own 0 ≡ later own
  pub all : own ≡ first ∷ later own

pub first_of_some : (own : List Alteration) (first : Alteration) → 0 < length own → first ≡ get_or own 0 first → IsFirst own first
first_of_some [] first h e = absurd (omega arith)
first_of_some (alteration ∷ own) first h e = record { is_oldest = sym e; others = refl; all = subst (λ (x : Alteration). alteration ∷ own ≡ x ∷ own) (sym e) refl }

-- the same over equal lists
pub is_allowed_at : (initiator : Bool) (set set' : ContextSet) (own own' : List Alteration) (used used' : List ℕ) (asked : Alteration) (first : Option SetRefusal) → set' ≡ set → own' ≡ own → first ≡ refusal initiator set' own' used' asked → first ≡ None → IsAllowed set own asked
is_allowed_at initiator set set' own own' used used' asked first e f g h =
    subst (λ (x : ContextSet). IsAllowed x own asked) e
    (subst (λ (x : List Alteration). IsAllowed set' x asked) f (is_allowed initiator set' own' used' asked (sym g ∙ h)))

pub accepts_asked : (own own' : List Alteration) (first : Alteration) (answers : Answers) (found : Option SetFault) → own' ≡ own → found ≡ mismatch (oldest own') answers → found ≡ None → IsFirst own first → acceptances answers.added ≤ length first.added
accepts_asked own own' first answers found e f g h =
    let is_it : oldest own' ≡ first = ap oldest e ∙ h.is_oldest in
    let none : mismatch first answers ≡ None = ap (λ (x : Alteration). mismatch x answers) (sym is_it) ∙ sym f ∙ g in
    let many = as_many first answers none in
    let few = acceptances_few answers.added in
    omega arith
