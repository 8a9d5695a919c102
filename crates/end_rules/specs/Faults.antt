-- What ends an association from this side: the fault, what is sent and shown then (X.225 7.9, X.226 6.4.2,
-- X.227 7.3, X.228 7.8).
use Rattle.std.specs.Prelude.{ℕ, pos, List, [], ◌∷◌, ◌++◌, map, Bool, true, false, if◌then◌else◌, Option, Some, None}
use Rattle.osi_base.specs.declared.layer_words.Layer.{Layer}
use Rattle.osi_base.specs.declared.layer_words.Layer.TheVariants as layers
use Rattle.osi_base.specs.declared.layer_words.SetItem.{SetItem}
use Rattle.osi_base.specs.declared.rtse_word.Rtse.TheVariants as rtse
use Rattle.dialogue.specs.declared.config.Phase.TheVariants.{Over}
use Rattle.dialogue.specs.declared.indication.Indication.{Indication}
use Rattle.dialogue.specs.declared.indication.Indication.TheVariants as indications
use Rattle.end_rules.specs.Base.{Fault}
use Rattle.end_rules.specs.Sets.{Alteration}
use Rattle.end_rules.specs.Messages.{Message, Transferring}
use Rattle.end_rules.specs.State.{Body, OpenCall, post_order, cut_all, in_phase}
use Rattle.end_rules.specs.Writing.{rtse_context, session_abort, provider_abort, user_abort}

abbrev pub fault_at : Layer → ℕ → ℕ → Fault
fault_at layer place reason = record { layer = layer; place = place; reason = reason; shown_before = [] }

-- what no single field breaks has the place 0
abbrev pub transport_fault : Fault
transport_fault = fault_at layers.Transport 0 0

abbrev pub session_fault : Fault
session_fault = fault_at layers.Session 0 0

-- an unexpected PPDU (2), an invalid one (6) (X.226 8.2.5)
abbrev pub unexpected_ppdu : Fault
unexpected_ppdu = fault_at layers.Presentation 0 2

abbrev pub invalid_ppdu : Fault
invalid_ppdu = fault_at layers.Presentation 0 6

abbrev pub acse_fault : Fault
acse_fault = fault_at layers.Acse 0 0

abbrev pub rtse_fault : Fault
rtse_fault = fault_at layers.Rtse 0 4

abbrev pub fault_if : Bool → Fault → Option Fault
fault_if true fault = Some fault
fault_if false fault = None

-- the first of these
abbrev pub or_fault : Option Fault → Option Fault → Option Fault
or_fault None later = later
or_fault (Some fault) later = Some fault

-- ---- what is sent

-- AB by the layer of the fault; a fault of the transport sends one once a CN was sent or taken, one of remote
-- operations never
abbrev pub abort_of : Bool → List SetItem → Layer → ℕ → List Message
abort_of connected accepted layers.Transport reason = if connected then session_abort ∷ [] else []
abort_of connected accepted layers.Session reason = session_abort ∷ []
abort_of connected accepted layers.Presentation reason = provider_abort reason ∷ []
abort_of connected accepted layers.Acse reason = user_abort accepted 1 [] ∷ []
abort_of connected accepted layers.Rtse reason = user_abort accepted 0 (Transferring (rtse_context accepted) (rtse.Abort (pos 4)) ∷ []) ∷ []
abort_of connected accepted layers.Rose reason = []

-- ---- what is shown

abbrev pub cut_of : OpenCall → Indication
cut_of o = indications.Cut o.own o.id

-- open invocations are cut, children before their parents
abbrev pub cuts : Body → List Indication
cuts body = map cut_of (post_order body.calls.opens)

-- one for each own alteration that wasn't answered
abbrev pub losses : Body → List Indication
losses body = map (λ (a : Alteration). indications.AlterLost) body.sets.own

abbrev pub aborted_own : Fault → Indication
aborted_own fault = indications.Aborted true fault.layer fault.place fault.reason

abbrev pub shown_at_fault : Body → Fault → List Indication
shown_at_fault body fault = fault.shown_before ++ cuts body ++ aborted_own fault ∷ []

-- ---- what is left

-- over: what was open is cut
abbrev pub over : Body → Body
over body = in_phase Over (cut_all body)
