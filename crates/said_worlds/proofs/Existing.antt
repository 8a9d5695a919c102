-- There are two ends of direct mode, and two of reliable mode.
use Rattle.std.proofs.Common.{◌≡◌, refl, true, false, arith, ℕ, ◌+◌, ◌≤◌, List, [], ◌∷◌, length}
use Rattle.std.specs.Prelude.{Bool, ◌&&◌, ◌||◌, Option, Some, None, nat_lt, slice_get, if◌then◌else◌}
use Rattle.std.proofs.lemmas.Bool.Decides.{nat_tests}
use Rattle.osi_base.specs.declared.presentation_word.PdvContent.TheVariants as forms
use Rattle.osi_base.specs.declared.acse_word.Acse.TheVariants as acse
use Rattle.osi_base.specs.Syntax.{acse_name, rtse_name}
use Rattle.asn1_types.proofs.OctetTests.{octets_by_test}
use Rattle.dialogue.specs.declared.config.Config.{Config}
use Rattle.dialogue.specs.declared.config.ConfigRefusal.TheVariants as refusals
use Rattle.dialogue.specs.declared.config.ConfigRefusal.{ConfigRefusal}
use Rattle.dialogue.specs.declared.config.Mode.TheVariants.{Direct, Reliable}
use Rattle.end_laws.specs.end_config.Refusing.{config_refusal, early_refusal, or_refusal, is_too_long, has_connect}
use Rattle.end_laws.specs.end_config.Connecting.{connect_octets, connection_data, transfer_request}
use Rattle.end_rules.specs.Cases.{calc, config_of}
use Rattle.end_rules.specs.Writing.{proposal_in_ber, requirement_bits}
use Rattle.transfer_spelling.specs.Laws.{IsModule}
use Rattle.said_spellings.specs.acse.Written.{written_acse}
use Rattle.said_spellings.specs.Laws.{IsEndIn}
use Rattle.said_spellings.proofs.Sizes.{Each}
use Rattle.said_spellings.proofs.Ppdus.{Defined, connect-few}
use Rattle.said_spellings.proofs.Association.{asking, asking-is, asking-few, bits-true}
use Rattle.said_spellings.proofs.Transfers.{IsConnection, Spelled, carrying, reliable_context, request-spelled, asking-spelled}
use Rattle.said_worlds.specs.Laws.{EndsAreMet}

no-row : {X : Type 0} (n : ℕ) (x : X) → slice_get {X = X} [] n ≡ Some x → ⊥
no-row n x h = cc

module-met : IsModule calc
module-met =
    record {
      readable = record { types = record { each = λ n row h. absurd (no-row n row h); short = λ n row h. absurd (no-row n row h) }; operations = refl; errors = refl };
      typed = record { each = λ n h. no-row n _ h };
    }

-- ---- one length of CP for all

not-long : (n : ℕ) → n ≤ 10240 → nat_lt 10240 n ≡ false
not-long n h = grind (arith, nat_tests)

neither : (p q : Bool) → p ≡ false → q ≡ false → (p || q) ≡ false
neither false q e f = f
neither true q e f = cc

accepted-so : (config : Config) → early_refusal config ≡ None → ((recovers : Bool) → length (connect_octets config recovers) ≤ 10240) → config_refusal config ≡ None
accepted-so config early short = at-end (early_refusal config) (is_too_long config) early not-too_long
  where
    not-too_long : is_too_long config ≡ false
    not-too_long =
        neither (nat_lt 10240 (length (connect_octets config false))) (nat_lt 10240 (length (connect_octets config true)))
        (not-long (length (connect_octets config false)) (short false)) (not-long (length (connect_octets config true)) (short true))

    none-late : (x : Bool) → x ≡ false → (if x then Some refusals.TooLong else None) ≡ None
    none-late false e = refl
    none-late true e = cc

    with-connect : (p q : Bool) → q ≡ false → (p && q) ≡ false
    with-connect true q e = e
    with-connect false q e = refl

    at-end : (r : Option ConfigRefusal) (q : Bool) → r ≡ None → q ≡ false → or_refusal r (if has_connect config && q then Some refusals.TooLong else None) ≡ None
    at-end None q e f = none-late (has_connect config && q) (with-connect (has_connect config) q f)
    at-end (Some x) q e f = cc

-- ---- direct mode

abbrev own : Config
own = config_of true Direct

of-association : Defined (proposal_in_ber 1 acse_name)
of-association = record { named = record { id = (omega arith, omega arith); name = refl; transfers = (refl, tt) }; few = omega arith }

of-transfer : Defined (proposal_in_ber 3 rtse_name)
of-transfer = record { named = record { id = (omega arith, omega arith); name = refl; transfers = (refl, tt) }; few = omega arith }

of-module : Each Defined own.contexts
of-module = (record { named = record { id = (omega arith, omega arith); name = refl; transfers = (refl, tt) }; few = omega arith }, tt)

short : (recovers : Bool) → length (connect_octets own recovers) ≤ 10240
short recovers =
    let f = asking-few in
    let x = connect-few own.calling own.called (proposal_in_ber 1 acse_name) own.contexts (requirement_bits true) 1 (forms.SingleAsn1Type asking) (omega arith) (octets_by_test _ refl) (omega arith) (of-association, of-module) (omega arith) bits-true (omega arith, omega arith) asking-is (omega arith) in
    let y : length (connect_octets own recovers) ≤ 6350 + length asking = x in
    omega arith

initiator-met : IsEndIn Direct own
initiator-met = record { mode = refl; accepted = accepted-so own refl short; calling = octets_by_test _ refl; called = octets_by_test _ refl; references = tt; contexts = (refl, (refl, tt), tt) }

responder-met : IsEndIn Direct (config_of false Direct)
responder-met = record { mode = refl; accepted = refl; calling = octets_by_test _ refl; called = octets_by_test _ refl; references = tt; contexts = (refl, (refl, tt), tt) }

-- ---- reliable mode: the same, and context 3 for reliable transfer, whose request the CP carries

abbrev own_r : Config
own_r = config_of true Reliable

connection-is : (recovers : Bool) → IsConnection (connection_data own_r recovers)
connection-is false = refl
connection-is true = ((octets_by_test _ refl, omega arith), (octets_by_test _ refl, omega arith))

request-is : (recovers : Bool) → Spelled (transfer_request own_r recovers) 150
request-is recovers =
    let s = (request-spelled 1 2 (connection_data own_r recovers) (omega arith) (omega arith) (connection-is recovers)).spelled in
    let few : length (transfer_request own_r recovers) ≤ 140 = s.few in
    record { is_whole_one = s.is_whole_one; octets_are = s.octets_are; few = omega arith }

abbrev asking_r : Bool → List ℕ
asking_r recovers = written_acse (acse.AssociateRequest None reliable_context (carrying 3 (transfer_request own_r recovers) ∷ []))

asking-r : (recovers : Bool) → Spelled (asking_r recovers) 400
asking-r recovers = (asking-spelled 3 (transfer_request own_r recovers) (omega arith, omega arith) (request-is recovers)).spelled

short-r : (recovers : Bool) → length (connect_octets own_r recovers) ≤ 10240
short-r recovers =
    let s = asking-r recovers in
    let f : length (asking_r recovers) ≤ 400 = s.few in
    let x = connect-few own_r.calling own_r.called (proposal_in_ber 1 acse_name) (proposal_in_ber 3 rtse_name ∷ own_r.contexts) (requirement_bits true) 1 (forms.SingleAsn1Type (asking_r recovers)) (omega arith) (octets_by_test _ refl) (omega arith)
    (of-association, (of-transfer, of-module)) (omega arith) bits-true (omega arith, omega arith) (s.is_whole_one, s.octets_are) (omega arith) in
    let y : length (connect_octets own_r recovers) ≤ 6350 + length (asking_r recovers) = x in
    omega arith

initiator-met_r : IsEndIn Reliable own_r
initiator-met_r = record { mode = refl; accepted = accepted-so own_r refl short-r; calling = octets_by_test _ refl; called = octets_by_test _ refl; references = (octets_by_test _ refl, octets_by_test _ refl); contexts = (refl, (refl, tt), tt) }

responder-met_r : IsEndIn Reliable (config_of false Reliable)
responder-met_r = record { mode = refl; accepted = refl; calling = octets_by_test _ refl; called = octets_by_test _ refl; references = (octets_by_test _ refl, octets_by_test _ refl); contexts = (refl, (refl, tt), tt) }

pub ends-met : EndsAreMet
ends-met = (
  record { module_s = module-met; of_a = initiator-met; initiator = refl; of_b = responder-met },
  record { module_s = module-met; of_a = initiator-met_r; initiator = refl; of_b = responder-met_r },
)
