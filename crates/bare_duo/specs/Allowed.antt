-- What may be taken while invocations are open (X.880 8.2 to 8.4).
use Rattle.std.specs.Prelude.{◌≡◌, ℕ, ℤ, [], ◌∷◌, length, Bool, true, false, not, ◌&&◌, ◌||◌, nat_lt, is_some, Option, Some, None}
use Rattle.osi_base.specs.Limits.{most_open}
use Rattle.asn1_types.specs.declared.value.Val.{Val}
use Rattle.stub_tables.specs.declared.tables.Tables.{Tables}
use Rattle.stub_tables.specs.declared.operation.Operation.{Operation}
use Rattle.stub_tables.specs.declared.apdu.Apdu.{Apdu}
use Rattle.stub_tables.specs.declared.apdu.Apdu.TheVariants as apdus
use Rattle.stub_tables.specs.declared.apdu.Returned.{Returned}
use Rattle.stub_tables.specs.Codes.{is_silent}
use Rattle.stub_tables.specs.Lookup.{operation_at, operation_with, error_with}
use Rattle.stub_tables.specs.Uses.{is_carried}
use Rattle.end_rules.specs.State.{Calls, OpenCall, opened_with, opens_of}
use Rattle.end_rules.specs.Invoking.{is_linked_to}
use Rattle.end_rules.specs.Hearing.{is_place}
use Rattle.end_rules.specs.History.{Step, called, sent, encoded, fed, took, answered, passed, fault, aborted, feed_end, gave, broke}
use Rattle.end_rules.specs.World.{World, Ends}
use Rattle.bare_duo.specs.Shows.{apdu_in}
use Rattle.bare_duo.specs.Worlds.{end_at}
use Rattle.run_laws.specs.Outcomes.{has_result, has_error}

-- the operation of an open invocation
abbrev pub operation_in : Tables → Option OpenCall → Option Operation
operation_in tables None = None
operation_in tables (Some o) = operation_at tables o.operation

-- ---- an invocation

-- it is linked to none, or to an open one of the end that takes it, whose operation has this one linked (X.880 8.2.6)
abbrev pub may_link : Tables → Calls → ℕ → Option ℤ → Bool
may_link tables calls place None = true
may_link tables calls place (Some linked) = is_linked_to (operation_in tables (opened_with true linked calls.opens)) place

-- the argument is one of the operation, and there is room for it: at most 4,096 are open at a time
abbrev pub may_be_invoked : Tables → Calls → Option Operation → Option Val → Bool
may_be_invoked tables calls None argument = false
may_be_invoked tables calls (Some operation) argument =
    (is_silent operation || nat_lt (length (opens_of false calls.opens)) most_open) && is_carried tables.types operation.argument argument

-- its identifier is free
abbrev pub may_invoke : Tables → Calls → ℤ → Option ℤ → Option ℕ → Option Val → Bool
may_invoke tables calls id linked None argument = false
may_invoke tables calls id linked (Some place) argument =
    not (is_some (opened_with false id calls.opens)) && (may_be_invoked tables calls (operation_at tables place) argument && may_link tables calls place linked)

-- ---- an outcome of an open invocation

-- a result that returns the value of its own operation
abbrev pub may_return : Tables → ℕ → Option Operation → Option Returned → Bool
may_return tables place None returned = false
may_return tables place (Some operation) None = has_result tables operation None
may_return tables place (Some operation) (Some r) = is_place (operation_with tables r.code) place && has_result tables operation (Some r.value)

abbrev pub may_result : Tables → Option OpenCall → Option Returned → Bool
may_result tables None returned = false
may_result tables (Some o) returned = may_return tables o.operation (operation_at tables o.operation) returned

abbrev pub may_error : Tables → Option Operation → Option ℕ → Option Val → Bool
may_error tables None place parameter = false
may_error tables (Some operation) None parameter = false
may_error tables (Some operation) (Some place) parameter = has_error tables operation place parameter

-- ---- messages

abbrev pub may_take_apdu : Tables → Calls → Apdu → Bool
may_take_apdu tables calls (apdus.Invoke id linked code argument) = may_invoke tables calls id linked (operation_with tables code) argument
may_take_apdu tables calls (apdus.Result id returned) = may_result tables (opened_with true id calls.opens) returned
may_take_apdu tables calls (apdus.Error id code parameter) =
    may_error tables (operation_in tables (opened_with true id calls.opens)) (error_with tables code) parameter
may_take_apdu tables calls (apdus.Reject id problem) = false

abbrev pub may_take : Tables → Calls → Option Apdu → Bool
may_take tables calls None = false
may_take tables calls (Some apdu) = may_take_apdu tables calls apdu

-- Each message that an end took might be taken then: an invocation while its identifier was free, an outcome while its
-- invocation was open, each with a value that fits.
abbrev pub MightTake : Tables → Calls → Step → Type 0
MightTake tables calls (took m) = may_take tables calls (apdu_in m) ≡ true
MightTake tables calls (called call reply) = Unit {0}
MightTake tables calls (sent m) = Unit {0}
MightTake tables calls (encoded context) = Unit {0}
MightTake tables calls (fed octets) = Unit {0}
MightTake tables calls (answered to m) = Unit {0}
MightTake tables calls passed = Unit {0}
MightTake tables calls (fault layer place reason) = Unit {0}
MightTake tables calls (aborted m) = Unit {0}
MightTake tables calls feed_end = Unit {0}
MightTake tables calls (gave n) = Unit {0}
MightTake tables calls broke = Unit {0}

abbrev pub TakesAllowed : Tables → Ends → World → Type 0
TakesAllowed tables ends [] = Unit {0}
TakesAllowed tables ends (m ∷ w) = MightTake tables (end_at ends m.side w).body.calls m.step × TakesAllowed tables ends w
