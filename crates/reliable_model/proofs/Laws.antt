-- Two ends of reliable mode: the run that goes with them, that neither aborts of itself, one holder of the turn; transfers arrive
-- whole and at most once, and are taken as sent.
use Rattle.std.proofs.Common.{◌≡◌, true, false, ◌∙◌, sym, ap, subst, ℕ, suc, List, [], ◌∷◌, map, length}
use Rattle.std.specs.Prelude.{Bool, Some, Ok, Result, nat_eq, if◌then◌else◌}
use Rattle.std.proofs.lemmas.List.{length-map}
use Rattle.stub_tables.specs.declared.tables.Tables.{Tables}
use Rattle.stub_tables.specs.declared.apdu.Apdu.{Apdu}
use Rattle.end_model.specs.dialogue.declared.config.Config.{Config}
use Rattle.end_model.specs.end_rules.Base.{Base, Spellings, Item, Arrived, Whole, Fault}
use Rattle.end_model.specs.end_rules.State.{Queued}
use Rattle.osi_base.specs.SetPlaces.{pair_of}
use Rattle.end_model.specs.end_rules.Encodings.{item_of, IsOf, Encoding, IsNewest}
use Rattle.agreement.specs.Sets.{Role, other}
use Rattle.agreement.specs.Sets.Role.{Initiator, Responder}
use Rattle.agreement.specs.Messages as model
use Rattle.agreement.specs.Laws as model_laws
use Rattle.agreement.specs.Laws.{HoldsTurn, AreFalling}
use Rattle.agreement.proofs.Interface.{laws}
use Rattle.end_model.specs.Seen.{Free, apdu_seen, queued_seen}
use Rattle.end_model.specs.BothEnds.{Common, base_at, Two, body_at}
use Rattle.end_model.proofs.DirectLaws.{holds-so}
use Rattle.end_model.specs.Acting.{ReadsBack}
use Rattle.reliable_model.specs.Codecs.{IsTransferable, Carries}
use Rattle.reliable_model.specs.Transferring.{AreTransferable}
use Rattle.reliable_model.specs.Ledgers.{transfer_log_of, Ledger, ReachedWithLedger}
use Rattle.reliable_model.specs.OwnRows.{encoding_seen}
use Rattle.reliable_model.specs.ReliableEnds.{reliable_common, IsFit, ReliableModelled, ReliableTakes, ReliableOneHolder}
use Rattle.reliable_model.specs.Transfers.{ReliableArriveWhole, ReliableAsSent}
use Rattle.reliable_model.specs.Transfers.{ReliableItems, ReliableArriveOnce}
use Rattle.reliable_model.proofs.Ledgers.{AreEncodable}
use Rattle.reliable_model.proofs.SameApdus.{apdus-same}
use Rattle.reliable_model.proofs.Taking as taking
use Rattle.reliable_model.proofs.Machine as machine
use Rattle.reliable_model.proofs.Arriving as arriving
use Rattle.reliable_model.proofs.Placing as placing

item-found : (base : Base) (k : ℕ) (apdu : Apdu) (items : List Queued) → ReadsBack base → AreTransferable base items → IsTransferable base apdu → model_laws.IsOf (apdu_seen base apdu) (model_laws.item_of k (map (queued_seen base) items)) → IsOf apdu (item_of k items)
item-found base k apdu [] back t u h = absurd h
item-found base k apdu (item ∷ items) back t u h =
    go (item-found base k apdu items back t.1 u) (nat_eq k (suc (length items)))
    (subst (λ n. model_laws.IsOf (apdu_seen base apdu) (if nat_eq k (suc n) then Some (queued_seen base item) else model_laws.item_of k (map (queued_seen base) items))) (length-map items (queued_seen base)) h)
  where
    go : (model_laws.IsOf (apdu_seen base apdu) (model_laws.item_of k (map (queued_seen base) items)) → IsOf apdu (item_of k items)) → (b : Bool) → model_laws.IsOf (apdu_seen base apdu) (if b then Some (queued_seen base item) else model_laws.item_of k (map (queued_seen base) items)) → IsOf apdu (if b then Some item else item_of k items)
    go later true h = apdus-same base item.apdu apdu back t.0 u h
    go later false h = later h

newest-item : (base : Base) (e : Encoding) (es : List Encoding) → AreEncodable base es → IsNewest e es → model_laws.IsNewest (encoding_seen base e) (map (encoding_seen base) es) × IsTransferable base e.apdu
newest-item base e [] t h = absurd h
newest-item base e (x ∷ es) t h = (ap (encoding_seen base) h, subst (λ (y : Encoding). IsTransferable base y.apdu) h t.0)

one-item : (x y : Item) → ◌≡◌ {A = Result Arrived Fault} (Ok (Whole x)) (Ok (Whole y)) → x ≡ y
one-item x y e = cc

module _ (free : Free) (tables : Tables) (spellings : Spellings) (a b : Config) where
  abbrev common : Common
  common = reliable_common tables spellings a b

  abbrev base : Role → Base
  base role = base_at role common

  abbrev Kept : Two → Ledger → Type 0
  Kept = machine.Kept free tables spellings a b

  kept-of : Carries free (base Initiator) → IsFit common → (two : Two) (ledger : Ledger) → ReachedWithLedger common two ledger → Kept two ledger
  kept-of carries fit two ledger reached = placing.all-kept free tables spellings a b (record { fit = fit; carries = carries }) two ledger reached

  items-so : (two : Two) (ledger : Ledger) (role : Role) (encoding : Encoding) → IsFit common → Kept two ledger → IsNewest encoding (transfer_log_of role ledger.transfer_logs).encoded → IsOf encoding.apdu (item_of encoding.activity (transfer_log_of role ledger.transfer_logs).started)
  items-so two ledger role encoding fit k h =
      let setup : model.ModelSetup = taking.setup free tables spellings a b in
      let d = k.joint.transfer_logs role in
      let n = newest-item (base Initiator) encoding (transfer_log_of role ledger.transfer_logs).encoded d.encodings h in
      let theirs = (laws setup).items k.world role (encoding_seen (base Initiator) encoding) k.joint.ends.run (subst (model_laws.IsNewest (encoding_seen (base Initiator) encoding)) d.encoded n.0) in
      item-found (base Initiator) encoding.activity encoding.apdu (transfer_log_of role ledger.transfer_logs).started fit.reads d.items n.1
      (subst (λ items. model_laws.IsOf (apdu_seen (base Initiator) encoding.apdu) (model_laws.item_of encoding.activity items)) (sym d.started) theirs)

  once-so : (two : Two) (ledger : Ledger) (role : Role) → Kept two ledger → AreFalling (transfer_log_of role ledger.transfer_logs).arrived
  once-so two ledger role k =
      let setup : model.ModelSetup = taking.setup free tables spellings a b in
      subst AreFalling (sym (k.joint.transfer_logs role).arrived) ((laws setup).once k.world k.joint.ends.run role)

pub reliable-modelled : ReliableModelled
reliable-modelled free tables spellings a b carries fit two ledger reached =
    let k = kept-of free tables spellings a b carries fit two ledger reached in
    record { world = k.world; run = k.joint.ends.run; a = k.joint.ends.own; b = k.joint.ends.others }

pub reliable-takes : ReliableTakes
reliable-takes free tables spellings a b carries fit two ledger role message left fault body aborts shown reached comes h =
    machine.never-fails free tables spellings a b two ledger role message left fault body aborts shown
    (machine.handles free tables spellings a b two ledger role message left (record { fit = fit; carries = carries }) (kept-of free tables spellings a b carries fit two ledger reached) comes) h

pub reliable-one_holder : ReliableOneHolder
reliable-one_holder free tables spellings a b carries fit two ledger reached x y =
    let k = kept-of free tables spellings a b carries fit two ledger reached in
    let common : Common = reliable_common tables spellings a b in
    (laws (taking.setup free tables spellings a b)).one_holder k.world k.joint.ends.run
    (subst HoldsTurn (sym k.joint.ends.own.state) (holds-so (base_at Initiator common) two.a x))
    (subst HoldsTurn (sym k.joint.ends.others.state) (holds-so (base_at Responder common) two.b y))

pub reliable-whole : ReliableArriveWhole
reliable-whole free tables spellings a b carries fit two ledger reached role e =
    let w = arriving.whole-at free tables spellings a b two ledger role carries fit (kept-of free tables spellings a b carries fit two ledger reached) e in
    record { item = w.item; arrived = w.arrived; encoded = w.encoded }

pub reliable-as_sent : ReliableAsSent
reliable-as_sent free tables spellings a b carries fit two ledger reached role item e arrived =
    let w = arriving.whole-at free tables spellings a b two ledger role carries fit (kept-of free tables spellings a b carries fit two ledger reached) e in
    let same : w.item ≡ item = one-item w.item item (sym w.arrived ∙ arrived) in
    let there : pair_of (body_at role two).sets.held item.id ≡ Some item.pair = subst (λ (x : Item). pair_of (body_at role two).sets.held x.id ≡ Some x.pair) same w.there in (
      there,
      subst (λ p. IsNewest (record { activity = (body_at role two).receiving.last; id = item.id; pair = p; apdu = item.apdu }) (transfer_log_of (other role) ledger.transfer_logs).encoded) (sym there)
          (subst (λ (x : Item). IsNewest (record { activity = (body_at role two).receiving.last; id = x.id; pair = Some x.pair; apdu = x.apdu }) (transfer_log_of (other role) ledger.transfer_logs).encoded) same w.encoded),
    )

pub reliable-items : ReliableItems
reliable-items free tables spellings a b carries fit two ledger reached role encoding h =
    items-so free tables spellings a b two ledger role encoding fit (kept-of free tables spellings a b carries fit two ledger reached) h

pub reliable-once : ReliableArriveOnce
reliable-once free tables spellings a b carries fit two ledger reached role =
    once-so free tables spellings a b two ledger role (kept-of free tables spellings a b carries fit two ledger reached)
