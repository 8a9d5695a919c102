-- What two ends of reliable mode take of each other stands on the contexts of the association.
use Rattle.std.proofs.Common.{◌≡◌, ◌∷◌}
use Rattle.end_rules.specs.Messages.{Session, Word, OfAssociation, OfData, OfMarks, OfActivities, Connect, Accept, Refuse, Finish, Disconnect, Abort, AbortAccept, Values, AlterContext, AlterContextAck, Mark, MarkAck, Restart, RestartAck, Give, Please, GiveConfirm, GiveAck}
use Rattle.end_rules.specs.Reacting.{Takes, react}
use Rattle.end_rules.specs.Writing.{proposals}
use Rattle.agreement.specs.Sets.Role.{Initiator}
use Rattle.end_model.specs.BothEnds.{base_at, body_at, coming_to}
use Rattle.reliable_model.specs.ReliableEnds.{reliable_common}
use Rattle.reliable_model.proofs.Fixed.{AreIdentifiers, listed-identifiers}
use Rattle.reliable_model.proofs.Machine as machine
use Rattle.said_words.proofs.TransferWorlds.{some-window, taken-on}
use Rattle.said_takings.specs.Laws.{IsTakenInTransfer, ReliableTakesRightly}

pub reliable-takes_rightly : ReliableTakesRightly
reliable-takes_rightly free tables spellings a b carries fit window two ledger s role word left body answers shown e h = go word e h
  where
    ids : AreIdentifiers (proposals (base_at Initiator (reliable_common tables spellings a b)))
    ids = listed-identifiers (proposals (base_at Initiator (reliable_common tables spellings a b))) fit.identifiers

    q : machine.Presumed free tables spellings a b
    q = record { fit = fit; carries = carries }

    go : (w : Word) → coming_to role two ≡ Session w ∷ left → react (base_at role (reliable_common tables spellings a b)) (body_at role two) (Session w) ≡ Takes body answers shown → IsTakenInTransfer (body_at role two) w
    go (OfData (Values values)) e h = (taken-on free tables spellings a b q ids (some-window a.window window) two ledger s.goes s.calls role (OfData (Values values)) left body answers shown tt e h).rtse
    go (OfMarks (Please tokens values)) e h = (taken-on free tables spellings a b q ids (some-window a.window window) two ledger s.goes s.calls role (OfMarks (Please tokens values)) left body answers shown tt e h).rtse
    go (OfAssociation (Finish transport values)) e h = (taken-on free tables spellings a b q ids (some-window a.window window) two ledger s.goes s.calls role (OfAssociation (Finish transport values)) left body answers shown tt e h).acse
    go (OfAssociation (Disconnect values)) e h = (taken-on free tables spellings a b q ids (some-window a.window window) two ledger s.goes s.calls role (OfAssociation (Disconnect values)) left body answers shown tt e h).acse
    go (OfData (AlterContext add delete)) e h = tt
    go (OfData (AlterContextAck answers_)) e h = tt
    go (OfAssociation (Connect session presentation values)) e h = tt
    go (OfAssociation (Accept session presentation values)) e h = tt
    go (OfAssociation (Refuse transport reason presentation values)) e h = tt
    go (OfAssociation (Abort transport user)) e h = tt
    go (OfAssociation AbortAccept) e h = tt
    go (OfMarks (Mark n)) e h = tt
    go (OfMarks (MarkAck n)) e h = tt
    go (OfMarks (Restart n list)) e h = tt
    go (OfMarks (RestartAck n list)) e h = tt
    go (OfMarks (Give tokens)) e h = tt
    go (OfMarks GiveConfirm) e h = tt
    go (OfMarks GiveAck) e h = tt
    go (OfActivities w) e h = tt
