-- Values and alterations (X.225 7.11, 7.13; X.226 6.2, 6.3; X.228 7.3).
use Rattle.std.specs.Prelude.{ℕ, List, [], ◌∷◌, ◌++◌, length, Bool, true, false, not, ◌&&◌, ◌||◌, nat_lt, if◌then◌else◌, Option, Some}
use Rattle.std.specs.List.{list_any}
use Rattle.osi_base.specs.declared.layer_words.Proposal.{Proposal}
use Rattle.osi_base.specs.declared.layer_words.Answers.{Answers}
use Rattle.osi_base.specs.Limits.{most_transferred}
use Rattle.dialogue.specs.declared.indication.Indication.{Indication}
use Rattle.dialogue.specs.declared.indication.Indication.TheVariants as indications
use Rattle.end_rules.specs.Base.{Base, Fault, is_reliable}
use Rattle.end_rules.specs.Sets.{Alteration, proposed_ids, altered, fit_alteration}
use Rattle.end_rules.specs.Messages.{ValueContent, Remote, Unread, Association, Part, DataValue, DataWord, Values, AlterContext, AlterContextAck, OfData, Message, Session}
use Rattle.end_rules.specs.State.{Body, Octets, joined}
use Rattle.end_rules.specs.Policy.{policy, is_faulty_proposal}
use Rattle.end_rules.specs.Hearing.{Taken, take_values}
use Rattle.end_rules.specs.Faults.{unexpected_ppdu, invalid_ppdu, acse_fault, rtse_fault, fault_if, or_fault}

-- ---- parts of a transfer

abbrev pub part_in : ValueContent → List ℕ
part_in (Part octets) = octets
part_in _ = []

abbrev pub parts_in : List DataValue → List ℕ
parts_in [] = []
parts_in (value ∷ values) = part_in value.content ++ parts_in values

abbrev pub is_part : ValueContent → Bool
is_part (Part octets) = true
is_part _ = false

abbrev pub is_associated : ValueContent → Bool
is_associated (Association apdu user) = true
is_associated _ = false

abbrev pub is_remote : ValueContent → Bool
is_remote (Remote apdu) = true
is_remote (Unread octets) = true
is_remote _ = false

-- what data may not carry: values of association control anywhere; in reliable mode what is no part of a transfer;
-- else what is none of remote operations
abbrev pub values_fault : Base → Body → List DataValue → Option Fault
values_fault base body values =
    or_fault (fault_if (list_any (λ (v : DataValue). is_associated v.content) values) acse_fault)
    (if is_reliable base.mode
    then or_fault (fault_if (list_any (λ (v : DataValue). not (is_part v.content)) values) rtse_fault)
    (fault_if (nat_lt most_transferred (length (joined body.receiving.pieces ++ parts_in values))) rtse_fault)
    else fault_if (list_any (λ (v : DataValue). not (is_remote v.content)) values) invalid_ppdu)

-- one piece for each part
abbrev pub with_parts : List DataValue → Body → Body
with_parts [] body = body
with_parts (value ∷ values) body =
    with_parts values (record body { receiving = record body.receiving { pieces = Octets (part_in value.content) ∷ body.receiving.pieces } })

abbrev pub values_taken : Base → Body → List DataValue → Taken
values_taken base body values =
    if is_reliable base.mode then record { body = with_parts values body; answers = []; shown = [] } else take_values base body values

-- ---- alterations

-- AC may stand where context management is selected and, in reliable mode, from the end that has the turn
abbrev pub alter_fault : Base → Body → List Proposal → Option Fault
alter_fault base body add =
    or_fault (fault_if (not body.link.manages || is_reliable base.mode && body.link.turn) unexpected_ppdu)
    (fault_if (is_faulty_proposal (not base.initiator) body.sets.held add) invalid_ppdu)

abbrev pub answered_fault : List Alteration → Answers → Option Fault
answered_fault [] answers = Some unexpected_ppdu
answered_fault (a ∷ own) answers = fault_if (not (fit_alteration a answers)) invalid_ppdu

abbrev pub alteration : List Proposal → List ℕ → Alteration
alteration add delete = record { add = add; delete = delete }

abbrev pub after_alter : Base → Body → Alteration → Body
after_alter base body a = record body { sets = record body.sets { held = altered a (policy base body a) body.sets.held } }

-- an answer settles the oldest own alteration
abbrev pub settled : List Alteration → Answers → Body → Body
settled [] answers body = body
settled (a ∷ own) answers body = record body { sets = record body.sets { held = altered a answers body.sets.held; own = own } }

abbrev pub shown_settled : List Alteration → Answers → List Indication
shown_settled [] answers = []
shown_settled (a ∷ own) answers = indications.Altered (proposed_ids a.add) a.delete answers ∷ []

-- ---- the four answers of a taking

abbrev pub data_fault : Base → Body → DataWord → Option Fault
data_fault base body (Values values) = values_fault base body values
data_fault base body (AlterContext add delete) = alter_fault base body add
data_fault base body (AlterContextAck answers) = answered_fault body.sets.own answers

abbrev pub after_data : Base → Body → DataWord → Body
after_data base body (Values values) = (values_taken base body values).body
after_data base body (AlterContext add delete) = after_alter base body (alteration add delete)
after_data base body (AlterContextAck answers) = settled body.sets.own answers body

abbrev pub answers_to_data : Base → Body → DataWord → List Message
answers_to_data base body (Values values) = (values_taken base body values).answers
answers_to_data base body (AlterContext add delete) = Session (OfData (AlterContextAck (policy base body (alteration add delete)))) ∷ []
answers_to_data base body (AlterContextAck answers) = []

abbrev pub shown_of_data : Base → Body → DataWord → List Indication
shown_of_data base body (Values values) = (values_taken base body values).shown
shown_of_data base body (AlterContext add delete) =
    indications.AlterTaken (proposed_ids add) delete (policy base body (alteration add delete)) ∷ []
shown_of_data base body (AlterContextAck answers) = shown_settled body.sets.own answers
