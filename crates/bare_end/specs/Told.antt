-- How what became of an APDU is told and answered.
use Rattle.std.specs.Prelude.{◌≡◌, ℕ, List, [], ◌∷◌, Option, Some, IfSome}
use Rattle.osi_base.specs.declared.syntax.Syntax.TheVariants.{Ber}
use Rattle.osi_base.specs.Octets.{AreOctets}
use Rattle.apdu_spelling.specs.declared.head.ApduHead.{ApduHead}
use Rattle.apdu_spelling.specs.Writing.{written_apdu}
use Rattle.dialogue.specs.declared.indication.Indication.{Indication}
use Rattle.dialogue.specs.declared.indication.Indication.TheVariants as indications
use Rattle.rose_roles.specs.Heads.{HeadCarries, said_by}
use Rattle.end_rules.specs.Base.{Carried, HeardHead}
use Rattle.end_rules.specs.State.{Calls}
use Rattle.end_rules.specs.Messages.{Message}
use Rattle.end_rules.specs.Hearing as rules
use Rattle.end_rules.specs.Hearing.{data_on, hear, reject_apdu, showing}
use Rattle.bare_end.specs.declared.hearing.Taken as takens
use Rattle.bare_end.specs.declared.hearing.Taken.TheVariants as taken
use Rattle.bare_end.specs.View.{EndView, base, body, with_calls, with_waiting}

-- octets, where there are some
abbrev pub HoldsOctets : Option (List ℕ) → Type 0
HoldsOctets octets = IfSome octets AreOctets

-- what becomes of an APDU: an indication, or a reject that is due
abbrev pub heard_as : Calls → takens.Taken → rules.Heard
heard_as calls (taken.Told indication) = showing calls indication
heard_as calls (taken.Rejects id problem) = record { calls = calls; shown = []; reject = Some (record { id = id; problem = problem }) }

-- The end did what is heard in this head, and answers it.
pub record Heard (old new : EndView) (head : HeardHead) (t : takens.Taken) : Type 0 where
  pub heard_is : heard_as new.calls t ≡ hear (base old) old.calls 0 head
  pub end_is : new ≡ with_calls new.calls old

-- whatever the octets behind the head carry
pub record HeardIn (old new : EndView) (head : ApduHead) (t : takens.Taken) : Type 0 where
  pub heard_is : (carried : Carried) → HeadCarries old.tables Ber head carried → heard_as new.calls t ≡ hear (base old) old.calls 0 (said_by head carried)
  pub end_is : new ≡ with_calls new.calls old

abbrev pub told_by : takens.Taken → List Indication
told_by (taken.Told indication) = indication ∷ []
told_by (taken.Rejects id problem) = indications.RejectSent id problem ∷ []

abbrev pub answers_by : EndView → takens.Taken → List Message
answers_by e (taken.Told indication) = []
answers_by e (taken.Rejects id problem) = data_on (body e) 0 (reject_apdu (record { id = id; problem = problem })) ∷ []

abbrev pub answered_end : takens.Taken → EndView → EndView
answered_end (taken.Told indication) e = e
answered_end (taken.Rejects id problem) e = with_waiting (written_apdu e.tables Ber (reject_apdu (record { id = id; problem = problem }))) e
