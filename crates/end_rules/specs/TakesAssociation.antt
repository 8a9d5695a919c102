-- Openings, refusals, releases and aborts (X.225 7.1 to 7.9, X.226 6.1, 6.4, X.227 7).
use Rattle.std.specs.Prelude.{List, [], ◌∷◌, ◌++◌, Bool, true, false, not, Option, Some, None}
use Rattle.osi_base.specs.declared.layer_words.Layer.TheVariants as layers
use Rattle.osi_base.specs.declared.layer_words.SetItem.{SetItem}
use Rattle.osi_base.specs.declared.acse_word.Acse.{Acse}
use Rattle.osi_base.specs.declared.acse_word.Acse.TheVariants as acse
use Rattle.dialogue.specs.declared.config.Phase.TheVariants.{Over}
use Rattle.dialogue.specs.declared.indication.Indication.{Indication}
use Rattle.dialogue.specs.declared.indication.Indication.TheVariants as indications
use Rattle.end_rules.specs.Base.{Base, Fault}
use Rattle.end_rules.specs.Messages.{AssociationWord, Connect, Accept, Refuse, Finish, Disconnect, Abort, AbortAccept, Message}
use Rattle.end_rules.specs.State.{Body, NoAnswer, in_phase, awaiting}
use Rattle.end_rules.specs.Writing.{disconnect_message}
use Rattle.end_rules.specs.Faults.{acse_fault, fault_if, cuts, over}
use Rattle.end_rules.specs.Connecting.{Associated, the_one, connect_fault, after_connect, answer_to_connect, shown_at_connect, accept_fault, after_accept, shown_at_accept, set_for}

abbrev pub is_release_request : Option Associated → Bool
is_release_request None = false
is_release_request (Some a) = is_rlrq a.apdu
  where
    is_rlrq : Acse → Bool
    is_rlrq (acse.ReleaseRequest reason) = true
    is_rlrq _ = false

abbrev pub is_release_response : Option Associated → Bool
is_release_response None = false
is_release_response (Some a) = is_rlre a.apdu
  where
    is_rlre : Acse → Bool
    is_rlre (acse.ReleaseResponse reason) = true
    is_rlre _ = false

-- what is wrong above the session
abbrev pub association_fault : Base → Body → AssociationWord → Option Fault
association_fault base body (Connect session presentation values) = connect_fault base presentation values
association_fault base body (Accept session presentation values) = accept_fault base presentation values
association_fault base body (Refuse transport reason presentation values) = None
association_fault base body (Finish transport values) = fault_if (not (is_release_request (the_one values))) acse_fault
association_fault base body (Disconnect values) = fault_if (not (is_release_response (the_one values))) acse_fault
association_fault base body (Abort transport user) = None
association_fault base body AbortAccept = None

-- the contexts on which an abort for this word would go: those of a CN are answered as it comes
abbrev pub contexts_for : Base → Body → AssociationWord → List SetItem
contexts_for base body (Connect session presentation values) = set_for base presentation
contexts_for base body _ = body.link.accepted

abbrev pub after_association : Base → Body → AssociationWord → Body
after_association base body (Connect session presentation values) = after_connect base body session presentation values
after_association base body (Accept session presentation values) = after_accept base body session presentation values
after_association base body (Refuse transport reason presentation values) = in_phase Over body
after_association base body (Finish transport values) = over body
after_association base body (Disconnect values) = awaiting NoAnswer (over body)
after_association base body (Abort transport user) = over body
after_association base body AbortAccept = over body

abbrev pub answers_to_association : Base → Body → AssociationWord → List Message
answers_to_association base body (Connect session presentation values) = answer_to_connect base body session presentation values
answers_to_association base body (Finish transport values) = disconnect_message body ∷ []
answers_to_association base body _ = []

abbrev pub aborted_by_peer : Indication
aborted_by_peer = indications.Aborted false layers.Session 0 0

abbrev pub shown_of_association : Base → Body → AssociationWord → List Indication
shown_of_association base body (Connect session presentation values) = shown_at_connect base body session presentation values
shown_of_association base body (Accept session presentation values) = shown_at_accept body
shown_of_association base body (Refuse transport reason presentation values) = indications.AssociationRefused ∷ []
shown_of_association base body (Finish transport values) = cuts body ++ indications.Released ∷ []
shown_of_association base body (Disconnect values) = cuts body ++ indications.Released ∷ []
shown_of_association base body (Abort transport user) = cuts body ++ aborted_by_peer ∷ []
shown_of_association base body AbortAccept = cuts body ++ aborted_by_peer ∷ []
