-- What is heard of an invocation, by its first problem and its operation's place.
use Rattle.std.proofs.Common.{◌≡◌, ℕ, ℤ, false, Option, Some, None, refl, sym, ap, ◌∙◌}
use Rattle.osi_base.specs.declared.layer_words.ProblemKind.TheVariants as kinds
use Rattle.asn1_types.specs.declared.value.Val.{Val}
use Rattle.dialogue.specs.declared.indication.Indication.TheVariants as indications
use Rattle.rose_roles.specs.declared.apdu_taken.RoseTaken.TheVariants as takens
use Rattle.rose_roles.specs.Hearing.{heard_with}
use Rattle.end_rules.specs.Base.{Base}
use Rattle.end_rules.specs.State.{Calls}
use Rattle.end_rules.specs.Hearing.{Heard, carried_in, value_in, showing, rejected, unless_problem, with_opened, invoked, invoke_problem}

value_same : (v : Option Val) → value_in (carried_in v) ≡ v
value_same None = refl
value_same (Some v) = refl

module _ (base : Base) (calls : Calls) (context : ℕ) (id : ℤ) (linked : Option ℤ) (argument : Option Val) where
  -- what is heard where the operation stands there
  abbrev pub heard_at : Option ℕ → Heard
  heard_at place = unless_problem (invoke_problem base calls id linked place (carried_in argument)) (rejected calls (Some id) kinds.Invoke) (invoked base calls context id linked place (carried_in argument))

  without_problem : (place : Option ℕ) (at : ℕ) → place ≡ Some at → invoke_problem base calls id linked place (carried_in argument) ≡ None → heard_at place ≡ invoked base calls context id linked (Some at) (carried_in argument)
  without_problem place at e none =
      ap (λ (x : Option ℕ). unless_problem x (rejected calls (Some id) kinds.Invoke) (invoked base calls context id linked place (carried_in argument))) none
      ∙ ap (λ (o : Option ℕ). invoked base calls context id linked o (carried_in argument)) e

  -- one that is right is opened and told
  pub right_heard : (place : Option ℕ) (after : Calls) (at : ℕ) → place ≡ Some at → invoke_problem base calls id linked place (carried_in argument) ≡ None
      → after ≡ with_opened base (record { own = false; id = id; operation = at; context = context; parent = linked }) calls
      → heard_with after (takens.Invoked id at linked argument) ≡ heard_at place
  right_heard place after at e none is =
      (λ k. showing (is k) (indications.Invoked id at linked (sym (value_same argument) k)))
      ∙ sym (without_problem place at e none)
