-- Each transfer of a run arrives whole.
use Rattle.std.proofs.Common.{◌≡◌, refl, ◌∙◌, sym, ap, subst, List, [], ◌∷◌, map, true, false, Ok}
use Rattle.std.specs.Prelude.{Bool, Some}
use Rattle.osi_base.specs.declared.layer_words.Side.{Side}
use Rattle.osi_base.specs.declared.layer_words.Side.TheVariants.{A, B}
use Rattle.end_model.specs.end_rules.Encodings.{item_of, IsOf, IsNewest}
use Rattle.dialogue.specs.declared.indication.Indication.{Indication}
use Rattle.end_model.specs.end_rules.Messages.{Message, Session, OfActivities, End}
use Rattle.end_model.specs.end_rules.State.{Body}
use Rattle.end_model.specs.end_rules.Requesting.{due_of}
use Rattle.end_model.specs.end_rules.ByItself.{OwnAct, SendsNow, EncodesOn}
use Rattle.end_model.specs.end_rules.Reacting.{Takes, react}
use Rattle.end_model.specs.end_rules.TakesActivities.{arrived_now}
use Rattle.end_model.specs.end_rules.History.{Step, called, sent, took, answered, step_of}
use Rattle.end_model.specs.end_rules.World.{World, Ends, body_at}
use Rattle.agreement.specs.Sets.{Role}
use Rattle.agreement.specs.Sets.Role.{Initiator, Responder}
use Rattle.end_model.specs.Sharing.{side_of}
use Rattle.end_model.specs.BothEnds as both_ends
use Rattle.end_model.specs.BothEnds.{Common, Two, coming_to}
use Rattle.outcome_laws.specs.reliable_model.Ledgers.{Ledger, TransferLog}
use Rattle.outcome_laws.specs.reliable_model.Transfers.{ArrivesWhole}
use Rattle.outcome_laws.specs.Exchanges.{Exchanges}
use Rattle.association_runs.specs.Worlds.{stepping}
use Rattle.association_runs.specs.Sides.{ends_for}
use Rattle.association_runs.specs.TransferLogsAt.{transfer_log_at}
use Rattle.association_runs.specs.Arriving.{IsWhole, UnlessHanded, ArrivesThen, EachArrivesWhole, TransfersAreWhole, ItemsAreKept}
use Rattle.association_runs.proofs.Histories.{end_for, body-for}
use Rattle.association_runs.proofs.Keeps.{IsQuiet, Keeps}
use Rattle.association_runs.proofs.Joint.{Joint}
use Rattle.association_runs.proofs.TransferLogsAt.{AreDone, transfer-log-keeps}

-- steps that end no transfer
abbrev IsNoTaking : Step → Type 0
IsNoTaking (took message) = ⊥
IsNoTaking _ = Unit {0}

abbrev AreNoTakings : List Step → Type 0
AreNoTakings [] = Unit {0}
AreNoTakings (x ∷ xs) = IsNoTaking x × AreNoTakings xs

sents-none : (ms : List Message) → AreNoTakings (map sent ms)
sents-none [] = tt
sents-none (m ∷ ms) = (tt, sents-none ms)

answers-none : (to : Message) (ms : List Message) → AreNoTakings (map (answered to) ms)
answers-none to [] = tt
answers-none to (m ∷ ms) = (tt, answers-none to ms)

own-none : (own : OwnAct) → AreNoTakings (step_of own ∷ [])
own-none (SendsNow message) = (tt, tt)
own-none (EncodesOn context) = (tt, tt)

quiet-none : (x : Step) → IsQuiet x → IsNoTaking x
quiet-none (took message) q = absurd q
quiet-none _ q = tt

module _ (common : Common) (whole : TransfersAreWhole common) (items : ItemsAreKept common) where
  abbrev ends : Ends
  ends = ends_for common

  none-ends : (side : Side) (w : World) (x : Step) → IsNoTaking x → ArrivesThen ends side w x
  none-ends side w (took message) n = absurd n
  none-ends side w _ n = tt

  all-on : (side : Side) (w : World) (xs : List Step) → AreNoTakings xs → EachArrivesWhole ends w → EachArrivesWhole ends (stepping side w xs)
  all-on side w [] n h = h
  all-on side w (x ∷ xs) n h = all-on side (record { side = side; step = x } ∷ w) xs n.1 (none-ends side w x n.0, h)

  -- an end of a transfer that is taken
  whole-at : (role : Role) (w : World) (two : Two) (ledger : Ledger) (exchanges : Exchanges) → Joint common w two ledger exchanges → AreDone common w two ledger exchanges → ArrivesWhole common two ledger role → IsWhole ends (side_of role) w
  whole-at Initiator w two ledger exchanges j d a =
      let body : body_at ends A w ≡ two.a = body-for common Initiator w ∙ j.bodies Initiator in
      let kept = items two ledger j.speaks.goes Responder (record { activity = two.a.receiving.last; id = a.item.id; pair = Some a.item.pair; apdu = a.item.apdu }) a.encoded in
      record {
        item = a.item;
        arrived = ap (arrived_now (both_ends.base_at Initiator common)) body ∙ a.arrived;
        encoded =
            subst (λ (b : Body). IsNewest (record { activity = b.receiving.last; id = a.item.id; pair = Some a.item.pair; apdu = a.item.apdu }) (transfer_log_at ends B w).encoded) (sym body)
            (subst (λ (x : TransferLog). IsNewest (record { activity = two.a.receiving.last; id = a.item.id; pair = Some a.item.pair; apdu = a.item.apdu }) x.encoded) (sym (d Responder)) a.encoded);
        started =
            subst (λ (b : Body). IsOf a.item.apdu (item_of b.receiving.last (transfer_log_at ends B w).started)) (sym body)
            (subst (λ (x : TransferLog). IsOf a.item.apdu (item_of two.a.receiving.last x.started)) (sym (d Responder)) kept);
      }
  whole-at Responder w two ledger exchanges j d a =
      let body : body_at ends B w ≡ two.b = body-for common Responder w ∙ j.bodies Responder in
      let kept = items two ledger j.speaks.goes Initiator (record { activity = two.b.receiving.last; id = a.item.id; pair = Some a.item.pair; apdu = a.item.apdu }) a.encoded in
      record {
        item = a.item;
        arrived = ap (arrived_now (both_ends.base_at Responder common)) body ∙ a.arrived;
        encoded =
            subst (λ (b : Body). IsNewest (record { activity = b.receiving.last; id = a.item.id; pair = Some a.item.pair; apdu = a.item.apdu }) (transfer_log_at ends A w).encoded) (sym body)
            (subst (λ (x : TransferLog). IsNewest (record { activity = two.b.receiving.last; id = a.item.id; pair = Some a.item.pair; apdu = a.item.apdu }) x.encoded) (sym (d Initiator)) a.encoded);
        started =
            subst (λ (b : Body). IsOf a.item.apdu (item_of b.receiving.last (transfer_log_at ends A w).started)) (sym body)
            (subst (λ (x : TransferLog). IsOf a.item.apdu (item_of two.b.receiving.last x.started)) (sym (d Initiator)) kept);
      }

  taken-at : (role : Role) (w : World) (two : Two) (ledger : Ledger) (exchanges : Exchanges) (left : List Message) (body : Body) (answers : List Message) (shown : List Indication) → Joint common w two ledger exchanges → AreDone common w two ledger exchanges
      → (message : Message) → coming_to role two ≡ message ∷ left → react (both_ends.base_at role common) (both_ends.body_at role two) message ≡ Takes body answers shown → ArrivesThen ends (side_of role) w (took message)
  taken-at role w two ledger exchanges left body answers shown j d (Session (OfActivities (End number))) e r =
      subst (λ (b : Body). UnlessHanded b.receiving.was_handed (IsWhole ends (side_of role) w)) (sym (body-for common role w ∙ j.bodies role)) (go (both_ends.body_at role two).receiving.was_handed refl)
    where
      go : (h : Bool) → (both_ends.body_at role two).receiving.was_handed ≡ h → UnlessHanded h (IsWhole ends (side_of role) w)
      go true k = tt
      go false k =
          whole-at role w two ledger exchanges j d
          (whole two ledger j.speaks.goes role (record { number = number; left = left; body = body; answers = answers; shown = shown; comes = e; taken = r; is_new = k }))
  taken-at role w two ledger exchanges left body answers shown j d message e r = tt

  pub whole-keeps : Keeps common (λ w two ledger exchanges. AreDone common w two ledger exchanges × EachArrivesWhole ends w)
  whole-keeps =
      let d = transfer-log-keeps common in
      record {
        begins = (d.begins, tt);
        calls = λ role w two ledger exchanges call answer j c h. (
          d.calls role w two ledger exchanges call answer j c h.0,
          all-on (side_of role) w (called call (Ok answer) ∷ map sent (due_of (both_ends.base_at role common) (end_for common role w).body call (Ok answer))) (tt, sents-none (due_of (both_ends.base_at role common) (end_for common role w).body call (Ok answer))) h.1,
        );
        acts = λ role w two ledger exchanges own j c h. (d.acts role w two ledger exchanges own j c h.0, all-on (side_of role) w (step_of own ∷ []) (own-none own) h.1);
        takes = λ role w two ledger exchanges message left body answers shown j e r h. (
          d.takes role w two ledger exchanges message left body answers shown j e r h.0,
          all-on (side_of role) (record { side = side_of role; step = took message } ∷ w) (map (answered message) answers) (answers-none message answers)
              (taken-at role w two ledger exchanges left body answers shown j h.0 message e r, h.1),
        );
        passes = λ role w two ledger exchanges message left j e r h. (d.passes role w two ledger exchanges message left j e r h.0, (tt, h.1));
        quiet = λ role w two ledger exchanges x q h. (d.quiet role w two ledger exchanges x q h.0, (none-ends (side_of role) w x (quiet-none x q), h.1));
        breaks = λ w two ledger exchanges j h. (d.breaks w two ledger exchanges j h.0, (tt, (tt, h.1)));
      }
