-- The other calls: marks, givings, pleas, restarts, interrupts, discards, resumptions, releases, alterations, aborts.
use Rattle.std.specs.Prelude.{◌≡◌, ℕ, ℤ, List, [], ◌∷◌, Option, Ok}
use Rattle.osi_base.specs.declared.layer_words.Proposal.{Proposal}
use Rattle.dialogue.specs.declared.config.Mode.{Mode}
use Rattle.dialogue.specs.declared.config.Mode.TheVariants.{Direct, Reliable}
use Rattle.dialogue.specs.declared.call.Call.{Call}
use Rattle.dialogue.specs.declared.call.Call.TheVariants as the_calls
use Rattle.end_rules.specs.Base.{Base}
use Rattle.end_rules.specs.State.{Body}
use Rattle.end_rules.specs.Messages.{Message}
use Rattle.end_rules.specs.Calling.{can_call}
use Rattle.end_rules.specs.Requesting.{after_call, after_sent, due_of}
use Rattle.agreement.specs.Messages.{Act}
use Rattle.agreement.specs.Messages.Act.{Alters, Marks, GivesTurn, Pleads, Restarts, Interrupts}
use Rattle.agreement.specs.Messages.Act.{Discards, Resumes, Releases}
use Rattle.agreement.specs.Sets.{AreDistinct, named}
use Rattle.end_rules.specs.TakesData.{alteration}
use Rattle.end_model.specs.Seen.{Free, items_seen, seen}
use Rattle.end_model.specs.Rows.{at}
use Rattle.end_model.specs.Words.{AreMeant}
use Rattle.end_model.specs.Acting.{ActsAs, IsSoundBody}

abbrev pub sent_all : Mode → Body → List Message → Body
sent_all mode body [] = body
sent_all mode body (message ∷ messages) = sent_all mode (after_sent mode body message) messages

-- the body once the call was answered and what it makes due was sent
abbrev pub after_called : Mode → Base → Body → Call → Option ℤ → Body
after_called mode base body call answer =
    sent_all mode (after_call (at mode base) body call (Ok answer)) (due_of (at mode base) body call (Ok answer))

-- In this mode an accepted call of this kind is the act.
abbrev pub CallActs : Mode → Call → (Body → Act) → Type 0
CallActs mode call act =
    (free : Free) (base : Base) (proposed : List Proposal) (body : Body) (answer : Option ℤ) →
    IsSoundBody mode base body → can_call (at mode base) body call ≡ Ok answer →
    ActsAs free mode base proposed body (after_called mode base body call answer) (due_of (at mode base) body call (Ok answer)) (act body)

pub record CallsAct : Type 0 where
  pub mark : CallActs Direct the_calls.Mark (λ body. Marks)
  pub give : CallActs Direct the_calls.Give (λ body. GivesTurn)
  pub give_all : CallActs Reliable the_calls.Give (λ body. GivesTurn)
  pub please : (priority : ℕ) → CallActs Direct (the_calls.Please priority) (λ body. Pleads 0)
  pub please_with : (priority : ℕ) → CallActs Reliable (the_calls.Please priority) (λ body. Pleads priority)
  pub restart : (n : ℕ) → CallActs Direct (the_calls.Resync n) (λ body. Restarts n)
  pub interrupt : CallActs Reliable the_calls.Interrupt (λ body. Interrupts)
  pub discard : CallActs Reliable the_calls.Discard (λ body. Discards)
  pub resume : CallActs Reliable the_calls.Resume (λ body. Resumes)
  pub release : CallActs Direct the_calls.Release (λ body. Releases)
  pub release_in_turn : CallActs Reliable the_calls.Release (λ body. Releases)

-- A call of this kind changes nothing that the model sees: the association of the model begins with the CN.
abbrev pub CallUnseen : Mode → Call → Type 0
CallUnseen mode call =
    (base : Base) (proposed : List Proposal) (body : Body) (answer : Option ℤ) → can_call (at mode base) body call ≡ Ok answer →
    (seen (at mode base) (after_called mode base body call answer) ≡ seen (at mode base) body) ×
    AreMeant proposed (at mode base) (due_of (at mode base) body call (Ok answer)) []

pub record CallsUnseen : Type 0 where
  pub open_ : (mode : Mode) → CallUnseen mode the_calls.Open
  pub recover : (mode : Mode) → CallUnseen mode the_calls.Recover

-- An accepted Alter is the act, where the own alterations that aren't answered name each identifier once, as they do in
-- every run of the model.
abbrev pub AlterActs : Mode → List Proposal → List ℕ → Type 0
AlterActs mode add delete =
    (free : Free) (base : Base) (proposed : List Proposal) (body : Body) (answer : Option ℤ) →
    IsSoundBody mode base body → AreDistinct (named (seen (at mode base) body).sets.own) → can_call (at mode base) body (the_calls.Alter add delete) ≡ Ok answer →
    ActsAs free mode base proposed body (after_called mode base body (the_calls.Alter add delete) answer) (due_of (at mode base) body (the_calls.Alter add delete) (Ok answer))
    (Alters (items_seen (alteration add delete)))

pub record AltersAct : Type 0 where
  pub direct : (add : List Proposal) (delete : List ℕ) → AlterActs Direct add delete
  pub reliable : (add : List Proposal) (delete : List ℕ) → AlterActs Reliable add delete
