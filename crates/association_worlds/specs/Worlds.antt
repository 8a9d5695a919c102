-- What two ends reach whose lines are octets: what an end does is what its own rules say of it and of what stands first in the
-- octets that came to it; of the other end it sees octets alone, in any cutting.
use Rattle.std.specs.Prelude.{◌≡◌, ℕ, ℤ, List, [], ◌++◌, take, drop, true, Option, Some, None, Ok}
use Rattle.stub_tables.specs.declared.tables.Tables.{Tables}
use Rattle.dialogue.specs.declared.call.Call.{Call}
use Rattle.dialogue.specs.declared.indication.Indication.{Indication}
use Rattle.association_reading.specs.end_rules.Base.{Fault}
use Rattle.association_reading.specs.end_rules.Messages.{Message}
use Rattle.association_reading.specs.end_rules.State.{Body, passes_over}
use Rattle.association_reading.specs.end_rules.Calling.{can_call}
use Rattle.association_reading.specs.end_rules.Requesting.{due_of}
use Rattle.association_reading.specs.end_rules.ByItself.{OwnAct, next_own}
use Rattle.association_reading.specs.end_rules.Reacting.{Passes, Takes, Fails}
use Rattle.association_reading.specs.end_rules.History.{after_step, step_of, after_broke}
use Rattle.agreement.specs.Sets.{Role}
use Rattle.agreement.specs.Sets.Role.{Initiator, Responder}
use Rattle.said_words.specs.end_model.Requests.{after_called}
use Rattle.said_words.specs.end_model.BothEnds.{Common, base_at}
use Rattle.said_words.specs.reliable_model.Ledgers.{own_messages}
use Rattle.association_reading.specs.Front.{Intake, first_in, behind_first}
use Rattle.association_reading.specs.Reacting.{react_to}
use Rattle.said_words.specs.Calls.{IsCall}
use Rattle.association_worlds.specs.Lines.{End, new_line, new_end, written_all, more_came}
use Rattle.osi_base.specs.Limits.{IsUnitSize}

pub record LineEnds : Type 0 where
  pub a : End
  pub b : End

abbrev pub ends_new : Common → LineEnds
ends_new common = record { a = new_end (base_at Initiator common); b = new_end (base_at Responder common) }

abbrev pub end_at : Role → LineEnds → End
end_at Initiator ends = ends.a
end_at Responder ends = ends.b

abbrev pub with_end : Role → End → LineEnds → LineEnds
with_end Initiator end ends = record ends { a = end }
with_end Responder end ends = record ends { b = end }

-- an end with another body, which sent these messages and has this left of what came
abbrev pub sending : Tables → ℕ → End → Body → List Message → Option Intake → End
sending tables size end body messages came =
    record { body = body; line = record { waiting = end.line.waiting ++ written_all tables size messages; came = came } }

abbrev pub giving : ℕ → End → End
giving n end = record end { line = record end.line { waiting = drop n end.line.waiting } }

abbrev pub getting : List ℕ → End → End
getting octets end = record end { line = record end.line { came = more_came octets end.line.came } }

-- the first octets that wait at one end come to the other
abbrev pub carried : Role → ℕ → LineEnds → LineEnds
carried Initiator n ends = record { a = giving n ends.a; b = getting (take n ends.a.line.waiting) ends.b }
carried Responder n ends = record { a = getting (take n ends.b.line.waiting) ends.a; b = giving n ends.b }

abbrev pub both_cut : Common → LineEnds → LineEnds
both_cut common ends =
    record {
      a = record { body = after_broke (base_at Initiator common) ends.a.body; line = new_line };
      b = record { body = after_broke (base_at Responder common) ends.b.body; line = new_line };
    }

pub data Spoken (common : Common) : LineEnds → Type 0 where
  begins : Spoken common (ends_new common)
  -- An accepted call is made, and sends what it makes due.
  calls : (ends : LineEnds) (role : Role) (call : Call) (answer : Option ℤ) (size : ℕ) → IsUnitSize size → IsCall call → Spoken common ends
      → can_call (base_at role common) (end_at role ends).body call ≡ Ok answer
      → Spoken common (with_end role (sending common.tables size (end_at role ends)
      (after_called common.mode (base_at role common) (end_at role ends).body call answer)
      (due_of (base_at role common) (end_at role ends).body call (Ok answer)) (end_at role ends).line.came) ends)
  -- An end makes a step by itself.
  acts : (ends : LineEnds) (role : Role) (own : OwnAct) (size : ℕ) → IsUnitSize size → Spoken common ends
      → next_own (base_at role common) (end_at role ends).body ≡ Some own
      → Spoken common (with_end role (sending common.tables size (end_at role ends)
      (after_step (base_at role common) (end_at role ends).body (step_of own)) (own_messages own) (end_at role ends).line.came) ends)
  -- Octets go over.
  carries : (ends : LineEnds) (role : Role) (n : ℕ) → Spoken common ends → Spoken common (carried role n ends)
  -- What stands first is taken and answered, passed over, or is a fault, behind which nothing is taken any more.
  takes : (ends : LineEnds) (role : Role) (intake : Intake) (body : Body) (answers : List Message) (shown : List Indication) (size : ℕ) → IsUnitSize size → Spoken common ends
      → (end_at role ends).line.came ≡ Some intake → react_to (base_at role common) (end_at role ends).body (first_in intake) ≡ Some (Takes body answers shown)
      → Spoken common (with_end role (sending common.tables size (end_at role ends) body answers (Some (behind_first intake))) ends)
  passes : (ends : LineEnds) (role : Role) (intake : Intake) → Spoken common ends
      → (end_at role ends).line.came ≡ Some intake → react_to (base_at role common) (end_at role ends).body (first_in intake) ≡ Some Passes
      → Spoken common (with_end role (sending common.tables 128 (end_at role ends) (end_at role ends).body [] (Some (behind_first intake))) ends)
  fails : (ends : LineEnds) (role : Role) (intake : Intake) (fault : Fault) (body : Body) (aborts : List Message) (shown : List Indication) (size : ℕ) → IsUnitSize size → Spoken common ends
      → (end_at role ends).line.came ≡ Some intake → react_to (base_at role common) (end_at role ends).body (first_in intake) ≡ Some (Fails fault body aborts shown)
      → Spoken common (with_end role (sending common.tables size (end_at role ends) body aborts None) ends)
  -- An end that is over or dead keeps nothing of what comes.
  closes : (ends : LineEnds) (role : Role) → Spoken common ends → passes_over (end_at role ends).body.link.phase ≡ true
      → Spoken common (with_end role (sending common.tables 128 (end_at role ends) (end_at role ends).body [] None) ends)
  -- The connection breaks, and what was on its way is lost.
  breaks : (ends : LineEnds) → Spoken common ends → Spoken common (both_cut common ends)
