-- What calls add to what was made and answered in a run.
use Rattle.std.proofs.Common.{◌≡◌, refl, ◌∙◌, sym, ap, subst, List, [], ◌∷◌, ◌++◌, map, Ok, Err}
use Rattle.std.specs.Prelude.{ℤ, Option}
use Rattle.std.proofs.lemmas.List.{append-nil}
use Rattle.stub_tables.specs.declared.tables.Tables.{Tables}
use Rattle.dialogue.specs.declared.call.Call.{Call}
use Rattle.dialogue.specs.declared.call.Call.TheVariants as the_calls
use Rattle.end_rules.specs.Messages.{Message}
use Rattle.end_rules.specs.History.{Step, called, sent, fed, feed_end, gave}
use Rattle.end_rules.specs.World.{World}
use Rattle.agreement.specs.Sets.{Role}
use Rattle.end_model.specs.Sharing.{side_of}
use Rattle.outcome_laws.specs.Exchanges.{Asked, asked_by}
use Rattle.run_laws.specs.Outcomes.{Invocation, ToldOutcome, invoked_by, answered_by}
use Rattle.association_runs.specs.Worlds.{stepping}
use Rattle.association_runs.proofs.Keeps.{IsQuiet}
use Rattle.association_runs.proofs.Transcribed.{calls_at, all_calls, own-calls, sents-call}
use Rattle.association_runs.proofs.Noted.{AreMade, made-on}

-- an accepted call, and what is sent of it
pub calls-more : {X : Type 0} (tells : _ → _ → List X) (role : Role) (w : World) (call : Call) (answer : Option ℤ) (due : List Message) → calls_at tells (side_of role) (stepping (side_of role) w (called call (Ok answer) ∷ map sent due)) ≡ calls_at tells (side_of role) w ++ tells call (Ok answer)
calls-more tells role w call answer due =
    own-calls tells (side_of role) w (called call (Ok answer) ∷ map sent due)
    ∙ ap (λ (l : List _). calls_at tells (side_of role) w ++ l) (ap (λ (l : List _). tells call (Ok answer) ++ l) (sents-call tells due) ∙ append-nil (tells call (Ok answer)))

-- steps in which nothing is called
pub calls-same : {X : Type 0} (tells : _ → _ → List X) (role : Role) (w : World) (xs : List Step) → all_calls tells xs ≡ [] → calls_at tells (side_of role) (stepping (side_of role) w xs) ≡ calls_at tells (side_of role) w
calls-same tells role w xs e = own-calls tells (side_of role) w xs ∙ ap (λ (l : List _). calls_at tells (side_of role) w ++ l) e ∙ append-nil (calls_at tells (side_of role) w)

-- ---- a refused call makes nothing

invokes-none : (call : Call) (refusal : _) → invoked_by call (Err refusal) ≡ []
invokes-none (the_calls.Invoke context operation argument linked) refusal = refl
invokes-none _ refusal = refl

answers-none : (call : Call) (refusal : _) → answered_by call (Err refusal) ≡ []
answers-none (the_calls.Answer id value) refusal = refl
answers-none (the_calls.Refuse id place parameter) refusal = refl
answers-none _ refusal = refl

pub quiet-invokes : (x : Step) → IsQuiet x → all_calls invoked_by (x ∷ []) ≡ []
quiet-invokes (called call (Err refusal)) q = ap (λ (l : List Invocation). l ++ []) (invokes-none call refusal)
quiet-invokes (fed octets) q = refl
quiet-invokes feed_end q = refl
quiet-invokes (gave n) q = refl
quiet-invokes _ q = absurd q

pub quiet-answers : (x : Step) → IsQuiet x → all_calls answered_by (x ∷ []) ≡ []
quiet-answers (called call (Err refusal)) q = ap (λ (l : List ToldOutcome). l ++ []) (answers-none call refusal)
quiet-answers (fed octets) q = refl
quiet-answers feed_end q = refl
quiet-answers (gave n) q = refl
quiet-answers _ q = absurd q

-- ---- what a call that asks nothing leaves

pub asks-none : (tables : Tables) (call : Call) (answer : Option ℤ) → asked_by call answer ≡ [] → (made : List Invocation) (asked : List Asked) → AreMade tables made asked → AreMade tables (made ++ invoked_by call (Ok answer)) (asked_by call answer ++ asked)
asks-none tables call answer e made asked x = subst (λ (l : List Asked). AreMade tables (made ++ invoked_by call (Ok answer)) (l ++ asked)) (sym e) (made-on tables made (invoked_by call (Ok answer)) asked x)
