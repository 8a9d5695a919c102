-- What the taking of values did in code, as the rules of one end have it.
use Rattle.std.specs.Prelude.{◌≡◌, ◌++◌}
use Rattle.end_rules.specs.State.{Body}
use Rattle.end_rules.specs.Hearing as rules
use Rattle.association_answers.specs.declared.brought.Brought.{Brought}
use Rattle.association_answers.specs.BroughtAs.{seen_messages}

-- the body afterwards, the answers and what is shown are those of the rules
pub record TookAs (taken : rules.Taken) (body : Body) (came : Brought) : Type 0 where
  pub body_is : body ≡ taken.body
  pub answers_are : seen_messages came.answers ≡ taken.answers
  pub shown_is : came.shown ≡ taken.shown

-- one taking behind the other
pub record Joined (before more after : Brought) : Type 0 where
  pub answers : after.answers ≡ before.answers ++ more.answers
  pub shown : after.shown ≡ before.shown ++ more.shown
