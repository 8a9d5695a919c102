-- The phases of the ends of reliable mode: which calls each allows, and what a break makes of it.
use Rattle.std.proofs.Common.{◌≡◌, refl, true, false, ◌∙◌, sym, ap, subst, List, [], ◌∷◌, ◌⊎◌, inl, inr}
use Rattle.std.specs.Prelude.{ℤ, Bool, Option, Some, Ok, if◌then◌else◌}
use Rattle.stub_tables.specs.declared.tables.Tables.{Tables}
use Rattle.end_model.specs.dialogue.declared.config.Config.{Config}
use Rattle.end_model.specs.dialogue.declared.config.Mode.TheVariants.{Reliable}
use Rattle.end_model.specs.dialogue.declared.config.Phase.{Phase}
use Rattle.end_model.specs.dialogue.declared.config.Phase.TheVariants.{Idle, Opening, Up, Releasing, Broken, Recovering, Over}
use Rattle.end_model.specs.dialogue.declared.call.Call.{Call}
use Rattle.end_model.specs.dialogue.declared.call.Call.TheVariants as the_calls
use Rattle.end_model.specs.end_rules.Base.{Base, Spellings}
use Rattle.end_model.specs.end_rules.Messages.{Message, Session, OfAssociation, Abort}
use Rattle.end_model.specs.end_rules.State.{Body, Stage, Unused, Asked, Joined, Carrying, is_carrying}
use Rattle.end_model.specs.end_rules.Writing.{user_abort}
use Rattle.end_model.specs.end_rules.Faults.{over}
use Rattle.end_model.specs.end_rules.Calling.{can_call, is_phase_for}
use Rattle.end_model.specs.end_rules.ByItself.{OwnAct, next_own}
use Rattle.end_model.specs.end_rules.History.{broken_phase}
use Rattle.agreement.specs.Messages.Mode.{Reliable as model_reliable}
use Rattle.agreement.specs.Takings.{broken_phase as model_broken_phase}
use Rattle.end_model.specs.Seen.{phase_seen}
use Rattle.end_model.specs.Requests.{sent_all}
use Rattle.end_model.specs.BothEnds.{Common}
use Rattle.end_model.specs.Steps.{BreaksSo}
use Rattle.end_model.proofs.Facts.{up-there}
use Rattle.end_model.proofs.Ladder.{called}
use Rattle.end_model.proofs.OwnActs.{leading}
use Rattle.end_model.proofs.DirectOpening.{At}
use Rattle.reliable_model.specs.ReliableEnds.{reliable_common}
use Rattle.reliable_model.proofs.Words.{AreOwn, Side, Stands, IsOver}
use Rattle.reliable_model.proofs.Opening.{Way, First, Again, rests, asks, joins}

-- ---- which calls a phase allows

pub only-open : (call : Call) → is_phase_for call Idle ≡ true → call ≡ the_calls.Open
only-open the_calls.Open h = refl
only-open call h = cc

pub only-recover : (call : Call) → is_phase_for call Broken ≡ true → call ≡ the_calls.Recover
only-recover the_calls.Recover h = refl
only-recover call h = cc

pub only-abort : (way : Way) (call : Call) → is_phase_for call (asks way) ≡ true → call ≡ the_calls.Abort
only-abort First the_calls.Abort h = refl
only-abort First call h = cc
only-abort Again the_calls.Abort h = refl
only-abort Again call h = cc

none-over : (call : Call) → is_phase_for call Over ≡ true → ⊥
none-over the_calls.Open h = cc
none-over call h = cc

pub over-calls : (base : Base) (body : Body) (call : Call) (answer : Option ℤ) → body.link.phase ≡ Over → can_call base body call ≡ Ok answer → ⊥
over-calls base body call answer e h = none-over call (ap (is_phase_for call) (sym e) ∙ (called base body call answer h).in_phase)

-- an abort leaves an end over
pub aborted-over : (body : Body) (sends : Bool) → (sent_all Reliable (over body) (if sends then user_abort body.link.accepted 0 [] ∷ [] else [])).link.phase ≡ Over
aborted-over body true = refl
aborted-over body false = refl

-- aborts alone
abbrev pub OnlyAborts : List Message → Type 0
OnlyAborts [] = Unit {0}
OnlyAborts (Session (OfAssociation (Abort transport user)) ∷ messages) = OnlyAborts messages
OnlyAborts messages = ⊥

pub aborts-own : (messages : List Message) → OnlyAborts messages → AreOwn messages
aborts-own [] h = tt
aborts-own (Session (OfAssociation (Abort transport user)) ∷ messages) h = (tt, aborts-own messages h)
aborts-own messages h = absurd h

-- only an end that is up acts by itself
pub own-up : (base : Base) (body : Body) (own : OwnAct) → next_own (record base { mode = Reliable }) body ≡ Some own → body.link.phase ≡ Up
own-up base body own h = up-there body.link.stage body.link.phase (leading base body own h).leads_so.is_free.is_up

-- ---- what a break makes of an end

pub rests-still : (way : Way) → broken_phase Reliable (rests way) ≡ rests way
rests-still First = refl
rests-still Again = refl

module _ (tables : Tables) (spellings : Spellings) (a b : Config) where
  abbrev common : Common
  common = reliable_common tables spellings a b

  pub data Breakable (body : Body) : Type 0 where
    AsModel : BreaksSo common body → Breakable body
    BeforeCn : body.link.phase ≡ Opening → is_carrying body.link.stage ≡ false → Breakable body

  pub over-breaks : (body : Body) → body.link.phase ≡ Over → BreaksSo common body
  over-breaks body e = subst (λ p. phase_seen Unused (broken_phase Reliable p) ≡ model_broken_phase model_reliable (phase_seen body.link.stage p)) (sym e) refl

  at-breaks : (phase : Phase) (stage : Stage) (body : Body) → phase_seen Unused (broken_phase Reliable phase) ≡ model_broken_phase model_reliable (phase_seen stage phase) → At phase stage body → BreaksSo common body
  at-breaks phase stage body h at =
      subst (λ p. phase_seen Unused (broken_phase Reliable p) ≡ model_broken_phase model_reliable (phase_seen body.link.stage p)) (sym at.phase_is)
      (subst (λ s. phase_seen Unused (broken_phase Reliable phase) ≡ model_broken_phase model_reliable (phase_seen s phase)) (sym at.stage_is) h)

  -- it is over, or broken
  pub data Outcome (body : Body) : Type 0 where
    EndsOver : Breakable body → broken_phase Reliable body.link.phase ≡ Over → Outcome body
    EndsBroken : Breakable body → broken_phase Reliable body.link.phase ≡ Broken → Outcome body

  pub asked-outcome : (way : Way) (body : Body) → At (asks way) Asked body → Outcome body
  asked-outcome First body at = EndsOver (BeforeCn at.phase_is (ap is_carrying at.stage_is)) (ap (broken_phase Reliable) at.phase_is)
  asked-outcome Again body at = EndsBroken (AsModel (at-breaks Recovering Asked body refl at)) (ap (broken_phase Reliable) at.phase_is)

  pub carrying-outcome : (way : Way) (body : Body) → At (asks way) Carrying body → Outcome body
  carrying-outcome First body at = EndsOver (AsModel (at-breaks Opening Carrying body refl at)) (ap (broken_phase Reliable) at.phase_is)
  carrying-outcome Again body at = EndsBroken (AsModel (at-breaks Recovering Carrying body refl at)) (ap (broken_phase Reliable) at.phase_is)

  pub joined-outcome : (way : Way) (body : Body) → At (joins way) Joined body → Outcome body
  joined-outcome First body at = EndsOver (BeforeCn at.phase_is (ap is_carrying at.stage_is)) (ap (broken_phase Reliable) at.phase_is)
  joined-outcome Again body at = EndsBroken (AsModel (at-breaks Broken Joined body refl at)) (ap (broken_phase Reliable) at.phase_is)

  pub refused-outcome : (body : Body) → At Broken Carrying body → Outcome body
  refused-outcome body at = EndsBroken (AsModel (at-breaks Broken Carrying body refl at)) (ap (broken_phase Reliable) at.phase_is)

  pub over-outcome : (body : Body) → body.link.phase ≡ Over → Outcome body
  over-outcome body e = EndsOver (AsModel (over-breaks body e)) (ap (broken_phase Reliable) e)

  pub side-outcome : (body : Body) (coming : List Message) → Side body coming → Outcome body
  side-outcome body coming (IsOver e) = over-outcome body e
  side-outcome body coming (Stands live own) = go live.phase
    where
      go : (body.link.phase ≡ Up) ⊎ (body.link.phase ≡ Releasing) → Outcome body
      go (inl e) = EndsBroken (AsModel (subst (λ p. phase_seen Unused (broken_phase Reliable p) ≡ model_broken_phase model_reliable (phase_seen body.link.stage p)) (sym e) refl)) (ap (broken_phase Reliable) e)
      go (inr e) = EndsBroken (AsModel (subst (λ p. phase_seen Unused (broken_phase Reliable p) ≡ model_broken_phase model_reliable (phase_seen body.link.stage p)) (sym e) refl)) (ap (broken_phase Reliable) e)

  pub rests-breaks : (way : Way) (body : Body) → At (rests way) Unused body → BreaksSo common body
  rests-breaks First body at = at-breaks Idle Unused body refl at
  rests-breaks Again body at = at-breaks Broken Unused body refl at
