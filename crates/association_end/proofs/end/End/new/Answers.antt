use Rattle.std.proofs.Common.{[], ◌≡◌, ◌≢◌, Option, Some, None, refl, sym, subst}
use Rattle.std.specs.Prelude.{Result, Ok, Err}
use Rattle.std.proofs.lemmas.Result.{err_from_is_err_and}
use Rattle.dialogue.specs.declared.config.ConfigRefusal.{ConfigRefusal}
use Rattle.dialogue.specs.declared.config.ConfigRefusal.TheVariants.{NoMemory}
use Rattle.dialogue.specs.Config.{refused_if}
use Rattle.end_config.specs.Refusing.{config_refusal}
use Rattle.association_end.specs.View.{EndView, StandsFor}
use Rattle.association_end.proofs.end.End.new.Goals as goal

module _ (answer : Result (Unit {0}) ConfigRefusal) where
  refused_as : (o : Option ConfigRefusal) (r : ConfigRefusal) → answer ≡ Err r → (answer ≢ Err NoMemory → answer ≡ refused_if o) → r ≢ NoMemory → o ≡ Some r
  refused_as None r is h ne = let e = h (λ x. ne cc) in cc
  refused_as (Some other) r is h ne = let e = h (λ x. ne cc) in cc

  accepted_as : (o : Option ConfigRefusal) (u : Unit {0}) → answer ≡ Ok u → (answer ≢ Err NoMemory → answer ≡ refused_if o) → o ≡ None
  accepted_as None u is h = refl
  accepted_as (Some other) u is h = let e = h (λ x. cc) in cc

pub with-requires-clause-accepted : goal.with-requires-clause-accepted
with-requires-clause-accepted c = accepted_as (Ok c.in_ok-check_config.field-0) (config_refusal c.args.config) c.in_ok-check_config.field-0 refl c.in_ok-check_config.ensures.exact

pub returns-in-Ok-clause-accepted : goal.returns-in-Ok-clause-accepted
returns-in-Ok-clause-accepted c = accepted_as (Ok c.in_ok-check_config.field-0) (config_refusal c.args.config) c.in_ok-check_config.field-0 refl c.in_ok-check_config.ensures.exact

pub returns-in_err-check_config-clause-refused : goal.returns-in_err-check_config-clause-refused
returns-in_err-check_config-clause-refused c =
    let p = err_from_is_err_and c.from_residual.result c.from_residual.ensures.1 in
    rw (p.1, p.2) (λ ne. refused_as (Err c.in_err-check_config.field-0.0) (config_refusal c.args.config) c.in_err-check_config.field-0.0 refl c.in_err-check_config.ensures.exact ne)

pub returns-in-Ok-clause-history : goal.returns-in-Ok-clause-history
returns-in-Ok-clause-history c = subst (λ (e : EndView). StandsFor e []) (sym c.in-Ok.ensures) refl
