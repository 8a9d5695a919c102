-- What a side answers to an APDU: what the rules of one end hear in it.
use Rattle.std.specs.Prelude.{◌≡◌, ℕ, ℤ, [], Option, Some, None, Result, Ok, Err}
use Rattle.osi_base.specs.declared.syntax.Syntax.{Syntax}
use Rattle.osi_base.specs.declared.fault.NoMemory.{NoMemory}
use Rattle.osi_base.specs.declared.layer_words.ProblemKind.TheVariants as kinds
use Rattle.stub_tables.specs.declared.tables.Tables.{Tables}
use Rattle.asn1_types.specs.declared.value.Val.{Val}
use Rattle.apdu_spelling.specs.declared.head.ApduHead.{ApduHead}
use Rattle.end_wire.specs.apdu_codec.declared.fault.HeadFault as faults
use Rattle.end_wire.specs.apdu_codec.declared.fault.HeadFault.TheVariants as fault
use Rattle.dialogue.specs.declared.indication.Indication.TheVariants as indications
use Rattle.end_wire.specs.end_rules.Base.{Base, Carried, HeardHead}
use Rattle.end_wire.specs.end_rules.State as ends
use Rattle.end_wire.specs.end_rules.Hearing.{Heard, showing, hear, problem_with}
use Rattle.rose_roles.specs.declared.apdu_taken.RoseTaken as takens
use Rattle.rose_roles.specs.declared.apdu_taken.RoseTaken.TheVariants as taken
use Rattle.rose_roles.specs.declared.apdu_problems.ValueOrProblem as values_or_problems
use Rattle.rose_roles.specs.declared.apdu_problems.ValueOrProblem.TheVariants as value_or_problem
use Rattle.rose_roles.specs.Heads.{HeadCarries, said_by}

-- an answer as an indication, or as the reject that is due
abbrev pub heard_with : ends.Calls → takens.RoseTaken → Heard
heard_with calls (taken.Invoked id operation linked argument) = showing calls (indications.Invoked id operation linked argument)
heard_with calls (taken.Result id value) = showing calls (indications.Result id value)
heard_with calls (taken.Error id error parameter) = showing calls (indications.Error id error parameter)
heard_with calls (taken.Rejected id problem) = showing calls (indications.Rejected id problem)
heard_with calls (taken.RejectTaken id problem) = showing calls (indications.RejectTaken id problem)
heard_with calls taken.BadReject = showing calls indications.BadReject
heard_with calls (taken.Reject id problem) = record { calls = calls; shown = []; reject = Some (record { id = id; problem = problem }) }

-- The answer, with the open invocations afterwards, is what an end with these tables hears in a head that carries this.
abbrev pub HearsHead : Tables → ℕ → (Carried → HeardHead) → (Carried → Type 0) → ends.Calls → ends.Calls → takens.RoseTaken → Type 0
HearsHead tables context head Carrying before after answer =
    (base : Base) (carried : Carried) → base.tables ≡ tables → Carrying carried → heard_with after answer ≡ hear base before context (head carried)

-- It is what an end hears in the head and in what its octets carry.
abbrev pub Hears : Tables → Syntax → ℕ → ApduHead → ends.Calls → ends.Calls → takens.RoseTaken → Type 0
Hears tables syntax context head before after answer = HearsHead tables context (said_by head) (HeadCarries tables syntax head) before after answer

-- what an outcome tells, by its value or its problem
abbrev pub result_taken : ℤ → values_or_problems.ValueOrProblem → takens.RoseTaken
result_taken id (value_or_problem.Right value) = taken.Result id value
result_taken id (value_or_problem.Wrong number) = taken.Reject (Some id) (problem_with kinds.Result number)

abbrev pub error_placed : ℤ → Option ℕ → Option Val → takens.RoseTaken
error_placed id None parameter = taken.Reject (Some id) (problem_with kinds.Error 2)
error_placed id (Some error) parameter = taken.Error id error parameter

abbrev pub error_taken : ℤ → Option ℕ → values_or_problems.ValueOrProblem → takens.RoseTaken
error_taken id error (value_or_problem.Right parameter) = error_placed id error parameter
error_taken id error (value_or_problem.Wrong number) = taken.Reject (Some id) (problem_with kinds.Error number)

-- octets that are no head
abbrev pub refused_as : faults.HeadFault → Result takens.RoseTaken NoMemory
refused_as (fault.General number) = Ok (taken.Reject None (problem_with kinds.General number))
refused_as fault.BadReject = Ok taken.BadReject
refused_as fault.NoMemory = Err (record {})
