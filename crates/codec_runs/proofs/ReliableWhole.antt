-- In reliable mode each transfer of a run arrives whole, and at most once.
use Rattle.std.proofs.Common.{◌≡◌, refl, true, false, ◌∙◌, sym, ap, subst, ℕ, List, [], ◌∷◌, ◌++◌, map, inl, inr, ◌⊎◌, Ok}
use Rattle.std.specs.Prelude.{Bool, ◌||◌, Some, if◌then◌else◌, Result}
use Rattle.osi_base.specs.declared.layer_words.Side.{Side}
use Rattle.osi_base.specs.declared.layer_words.Side.TheVariants.{A, B}
use Rattle.osi_base.specs.declared.layer_words.SetItem.{SetItem}
use Rattle.stub_tables.specs.declared.tables.Tables.{Tables}
use Rattle.dialogue.specs.declared.config.Config.{Config}
use Rattle.dialogue.specs.declared.indication.Indication.{Indication}
use Rattle.end_rules.specs.Base.{Base, Spellings, Item, Arrived, Whole as WholeItem, Fault}
use Rattle.end_rules.specs.Messages.{Message, Session, OfAssociation, OfActivities, Connect, Start, End}
use Rattle.end_rules.specs.State.{Body, Queued}
use Rattle.osi_base.specs.SetPlaces.{pair_of}
use Rattle.end_rules.specs.Encodings.{next_queued, item_of, IsOf, Encoding, encoding_of, IsNewest}
use Rattle.end_rules.specs.Connecting.{is_refused, recovers_in}
use Rattle.end_rules.specs.Requesting.{due_of}
use Rattle.end_rules.specs.ByItself.{OwnAct, SendsNow, EncodesOn}
use Rattle.end_rules.specs.TakesActivities.{arrived_now, values_arrived, handed_up}
use Rattle.end_rules.specs.Reacting.{Takes, react}
use Rattle.end_rules.specs.History.{Step, called, sent, encoded, took, answered, step_of}
use Rattle.dialogue.specs.Sides.{other as other_side}
use Rattle.end_rules.specs.World as sides
use Rattle.end_rules.specs.World.{World, Ends, shared_at}
use Rattle.agreement.specs.Sets.{Role}
use Rattle.agreement.specs.Sets.Role.{Initiator, Responder}
use Rattle.agreement.specs.Laws as model
use Rattle.end_model.specs.Seen.{Free}
use Rattle.end_model.specs.BothEnds as both_ends
use Rattle.end_model.specs.BothEnds.{Common, Two, coming_to}
use Rattle.end_model.specs.Sharing.{side_of}
use Rattle.reliable_model.specs.Ledgers.{Ledger, TransferLog, ReachedWithLedger}
use Rattle.reliable_model.specs.ReliableEnds.{reliable_common}
use Rattle.reliable_model.proofs.Machine as machine
use Rattle.outcome_laws.specs.Exchanges.{Exchanges}
use Rattle.run_laws.specs.Transfers.{started_in, started, encoded_in, encodings, Arrival, arrivals_of, arrived_in, arrivals, AreWhole, ArriveWhole, AreFalling, OneTransfer}
use Rattle.association_runs.specs.Worlds.{stepping}
use Rattle.association_runs.specs.Sides.{ends_for}
use Rattle.association_runs.specs.TransferLogsAt.{transfer_log_after, transfer_log_at}
use Rattle.association_runs.specs.Arriving as arriving
use Rattle.association_runs.specs.Arriving.{UnlessHanded, ArrivesThen, EachArrivesWhole}
use Rattle.association_runs.proofs.Histories.{end_for, body-for}
use Rattle.association_runs.proofs.Keeps.{IsQuiet, Keeps}
use Rattle.association_runs.proofs.Joint.{Joint}
use Rattle.association_runs.proofs.TransferLogsAt.{AreDone, transfer-log-keeps}
use Rattle.codec_runs.proofs.ReliableEarly as early

-- ---- no opening forgets what was started or handed up

abbrev pub KeepsAll : Base → Body → TransferLog → Step → Type 0
KeepsAll base body transfer_log (took (Session (OfAssociation (Connect session presentation values)))) =
    ((is_refused base body session presentation values || recovers_in base values) ≡ true) ⊎ ((transfer_log.started ≡ []) × (transfer_log.arrived ≡ []))
KeepsAll base body transfer_log _ = Unit {0}

abbrev pub KeepThen : Ends → World → Type 0
KeepThen ends [] = Unit {0}
KeepThen ends (m ∷ w) = KeepsAll (sides.base_at ends m.side) (sides.body_at ends m.side w) (transfer_log_at ends m.side w) m.step × KeepThen ends w

abbrev IsNoTaking : Step → Type 0
IsNoTaking (took message) = ⊥
IsNoTaking _ = Unit {0}

abbrev AreNoTakings : List Step → Type 0
AreNoTakings [] = Unit {0}
AreNoTakings (x ∷ xs) = IsNoTaking x × AreNoTakings xs

sents-none : (ms : List Message) → AreNoTakings (map sent ms)
sents-none [] = tt
sents-none (m ∷ ms) = (tt, sents-none ms)

answers-none : (to : Message) (ms : List Message) → AreNoTakings (map (answered to) ms)
answers-none to [] = tt
answers-none to (m ∷ ms) = (tt, answers-none to ms)

act-none : (own : OwnAct) → IsNoTaking (step_of own)
act-none (SendsNow message) = tt
act-none (EncodesOn context) = tt

quiet-none : (x : Step) → IsQuiet x → IsNoTaking x
quiet-none (took message) q = absurd q
quiet-none _ q = tt

none-keeps : (base : Base) (body : Body) (transfer_log : TransferLog) (x : Step) → IsNoTaking x → KeepsAll base body transfer_log x
none-keeps base body transfer_log (took message) n = absurd n
none-keeps base body transfer_log _ n = tt

all-keep : (ends : Ends) (side : Side) (w : World) (xs : List Step) → AreNoTakings xs → KeepThen ends w → KeepThen ends (stepping side w xs)
all-keep ends side w [] n h = h
all-keep ends side w (x ∷ xs) n h =
    all-keep ends side (record { side = side; step = x } ∷ w) xs n.1 (none-keeps (sides.base_at ends side) (sides.body_at ends side w) (transfer_log_at ends side w) x n.0, h)

-- ---- what was started, encoded and handed up, with nothing forgotten

pub anew-same : {X : Type 0} (b : Bool) (xs : List X) → (b ≡ true) ⊎ (xs ≡ []) → (if b then xs else []) ≡ xs
anew-same true xs h = refl
anew-same false xs (inl e) = absurd cc
anew-same false xs (inr e) = sym e

pub first-half : {P Q R : Type 0} → P ⊎ (Q × R) → P ⊎ Q
first-half (inl p) = inl p
first-half (inr h) = inr h.0

pub second-half : {P Q R : Type 0} → P ⊎ (Q × R) → P ⊎ R
second-half (inl p) = inl p
second-half (inr h) = inr h.1

step-started : (base : Base) (body : Body) (set : List SetItem) (transfer_log : TransferLog) (x : Step) (before : List Queued) → KeepsAll base body transfer_log x → transfer_log.started ≡ before → (transfer_log_after base body set x transfer_log).started ≡ started_in body x ++ before
step-started base body set transfer_log (sent (Session (OfActivities (Start activity)))) before k e = ap (λ (l : List Queued). next_queued body.sending.queue ++ l) e
step-started base body set transfer_log (sent _) before k e = e
step-started base body set transfer_log (took (Session (OfAssociation (Connect session presentation values)))) before k e =
    anew-same (is_refused base body session presentation values || recovers_in base values) transfer_log.started (first-half k) ∙ e
step-started base body set transfer_log (took _) before k e = e
step-started base body set transfer_log _ before k e = e

map-two : {X Y : Type 0} (f : X → Y) (xs ys : List X) → map f (xs ++ ys) ≡ map f xs ++ map f ys
map-two {Y = Y} f [] ys = refl
map-two {Y = Y} f (x ∷ xs) ys = ap (λ (l : List Y). f x ∷ l) (map-two f xs ys)

-- numbers of what is handed up
abbrev number_of : Arrival → ℕ
number_of x = x.activity

-- what one end of a transfer hands up, where it is whole
values-so : (last : ℕ) (arrived : Result Arrived Fault) (item : Item) → arrived ≡ Ok (WholeItem item) → map number_of (arrivals_of last (values_arrived arrived)) ≡ last ∷ []
values-so last arrived item e = ap (λ (r : Result Arrived Fault). map number_of (arrivals_of last (values_arrived r))) e

falling-so : (xs : List Arrival) → model.AreFalling (map number_of xs) → AreFalling xs
falling-so [] h = tt
falling-so (x ∷ []) h = tt
falling-so (x ∷ (y ∷ ys)) h = (h.0, falling-so (y ∷ ys) h.1)

module _ (ends : Ends) where
  step-encoded : (side : Side) (w : World) (x : Step) (transfer_log : TransferLog) (before : List Encoding) → transfer_log.encoded ≡ before
      → (transfer_log_after (sides.base_at ends side) (sides.body_at ends side w) (shared_at ends w).set x transfer_log).encoded ≡ encoded_in ends w (sides.body_at ends side w) x ++ before
  step-encoded side w (encoded context) transfer_log before e =
      let body : Body = sides.body_at ends side w in
      ap (λ (l : List Encoding). encoding_of body.sending.started context (pair_of (shared_at ends w).set context) body.sending.current ++ l) e
  step-encoded side w _ transfer_log before e = e

  one-encoded : (side s : Side) (x : Step) (w : World) → (transfer_log_at ends side w).encoded ≡ encodings ends side w → (transfer_log_at ends side (record { side = s; step = x } ∷ w)).encoded ≡ encodings ends side (record { side = s; step = x } ∷ w)
  one-encoded A A x w e = step-encoded A w x (transfer_log_at ends A w) (encodings ends A w) e
  one-encoded B B x w e = step-encoded B w x (transfer_log_at ends B w) (encodings ends B w) e
  one-encoded A B x w e = e
  one-encoded B A x w e = e

  encoded-same : (side : Side) (w : World) → (transfer_log_at ends side w).encoded ≡ encodings ends side w
  encoded-same side [] = refl
  encoded-same side (m ∷ w) = one-encoded side m.side m.step w (encoded-same side w)

  one-started : (side s : Side) (x : Step) (w : World) → KeepsAll (sides.base_at ends s) (sides.body_at ends s w) (transfer_log_at ends s w) x → (transfer_log_at ends side w).started ≡ started ends side w → (transfer_log_at ends side (record { side = s; step = x } ∷ w)).started ≡ started ends side (record { side = s; step = x } ∷ w)
  one-started A A x w k e = step-started (sides.base_at ends A) (sides.body_at ends A w) (shared_at ends w).set (transfer_log_at ends A w) x (started ends A w) k e
  one-started B B x w k e = step-started (sides.base_at ends B) (sides.body_at ends B w) (shared_at ends w).set (transfer_log_at ends B w) x (started ends B w) k e
  one-started A B x w k e = e
  one-started B A x w k e = e

  started-same : (side : Side) (w : World) → KeepThen ends w → (transfer_log_at ends side w).started ≡ started ends side w
  started-same side [] k = refl
  started-same side (m ∷ w) k = one-started side m.side m.step w k.0 (started-same side w k.1)

  step-arrived : (side : Side) (w : World) (x : Step) (transfer_log : TransferLog) (before : List Arrival) → KeepsAll (sides.base_at ends side) (sides.body_at ends side w) transfer_log x → ArrivesThen ends side w x → transfer_log.arrived ≡ map number_of before
      → (transfer_log_after (sides.base_at ends side) (sides.body_at ends side w) (shared_at ends w).set x transfer_log).arrived ≡ map number_of (arrived_in (sides.base_at ends side) (sides.body_at ends side w) x ++ before)
  step-arrived side w (took (Session (OfActivities (End number)))) transfer_log before k h e =
      (λ i. here (sides.body_at ends side w).receiving.was_handed h i ++ e i)
      ∙ sym (map-two number_of (arrivals_of (sides.body_at ends side w).receiving.last (handed_up (sides.base_at ends side) (sides.body_at ends side w))) before)
    where
      here : (handed : Bool) → UnlessHanded handed (arriving.IsWhole ends side w) → (if handed then [] else (sides.body_at ends side w).receiving.last ∷ []) ≡ map number_of (arrivals_of (sides.body_at ends side w).receiving.last (if handed then [] else values_arrived (arrived_now (sides.base_at ends side) (sides.body_at ends side w))))
      here true h = refl
      here false h = sym (values-so (sides.body_at ends side w).receiving.last (arrived_now (sides.base_at ends side) (sides.body_at ends side w)) h.item h.arrived)
  step-arrived side w (took (Session (OfAssociation (Connect session presentation values)))) transfer_log before k h e =
      anew-same (is_refused (sides.base_at ends side) (sides.body_at ends side w) session presentation values || recovers_in (sides.base_at ends side) values) transfer_log.arrived (second-half k) ∙ e
  step-arrived side w (took _) transfer_log before k h e = e
  step-arrived side w _ transfer_log before k h e = e

  one-arrived : (side s : Side) (x : Step) (w : World) → KeepsAll (sides.base_at ends s) (sides.body_at ends s w) (transfer_log_at ends s w) x → ArrivesThen ends s w x → (transfer_log_at ends side w).arrived ≡ map number_of (arrivals ends side w) → (transfer_log_at ends side (record { side = s; step = x } ∷ w)).arrived ≡ map number_of (arrivals ends side (record { side = s; step = x } ∷ w))
  one-arrived A A x w k h e = step-arrived A w x (transfer_log_at ends A w) (arrivals ends A w) k h e
  one-arrived B B x w k h e = step-arrived B w x (transfer_log_at ends B w) (arrivals ends B w) k h e
  one-arrived A B x w k h e = e
  one-arrived B A x w k h e = e

  arrived-same : (side : Side) (w : World) → KeepThen ends w → EachArrivesWhole ends w → (transfer_log_at ends side w).arrived ≡ map number_of (arrivals ends side w)
  arrived-same side [] k h = refl
  arrived-same side (m ∷ w) k h = one-arrived side m.side m.step w k.0 h.0 (arrived-same side w k.1 h.1)

  -- ---- each arrives whole

  step-whole : (side : Side) (w : World) (x : Step) → ArrivesThen ends side w x → KeepThen ends w → AreWhole (started ends (other_side side) w) (encodings ends (other_side side) w) (arrived_in (sides.base_at ends side) (sides.body_at ends side w) x)
  step-whole side w (took (Session (OfActivities (End number)))) h k = here (sides.body_at ends side w).receiving.was_handed h
    where
      here : (handed : Bool) → UnlessHanded handed (arriving.IsWhole ends side w) → AreWhole (started ends (other_side side) w) (encodings ends (other_side side) w) (arrivals_of (sides.body_at ends side w).receiving.last (if handed then [] else values_arrived (arrived_now (sides.base_at ends side) (sides.body_at ends side w))))
      here true h = tt
      here false h =
          let last : ℕ = (sides.body_at ends side w).receiving.last in
          subst (λ (r : Result Arrived Fault). AreWhole (started ends (other_side side) w) (encodings ends (other_side side) w) (arrivals_of (sides.body_at ends side w).receiving.last (values_arrived r))) (sym h.arrived) (
            record {
              apdu = h.item.apdu;
              is_remote = refl;
              is_its = subst (λ (l : List Queued). IsOf h.item.apdu (item_of last l)) (started-same (other_side side) w k) h.started;
              is_encoded =
                  subst (IsNewest (record { activity = last; id = h.item.id; pair = Some h.item.pair; apdu = h.item.apdu })) (encoded-same (other_side side) w) h.encoded;
            },
            tt,
          )
  step-whole side w _ h k = tt

  all-whole : (w : World) → EachArrivesWhole ends w → KeepThen ends w → ArriveWhole ends w
  all-whole [] h k = tt
  all-whole (m ∷ w) h k = (step-whole m.side w m.step h.0 k.1, all-whole w h.1 k.1)

  pub transferred-once : (w : World) → EachArrivesWhole ends w → KeepThen ends w → ((side : Side) → model.AreFalling (transfer_log_at ends side w).arrived) → OneTransfer ends w
  transferred-once w h k f = record {
    whole = all-whole w h k;
    once = λ side. falling-so (arrivals ends side w) (subst model.AreFalling (arrived-same side w k h) (f side));
  }

-- ---- two ends

module _ (free : Free) (tables : Tables) (spellings : Spellings) (a b : Config) where
  abbrev common : Common
  common = reliable_common tables spellings a b

  abbrev ends : Ends
  ends = ends_for common

  module _ (never : early.NeverFails free tables spellings a b) (kept : (two : Two) (ledger : Ledger) → ReachedWithLedger common two ledger → machine.Kept free tables spellings a b two ledger) where
    taken-keeps : (role : Role) (w : World) (two : Two) (ledger : Ledger) (exchanges : Exchanges) (left : List Message) (body : Body) (answers : List Message) (shown : List Indication) → Joint common w two ledger exchanges → AreDone common w two ledger exchanges
        → (message : Message) → coming_to role two ≡ message ∷ left → react (both_ends.base_at role common) (both_ends.body_at role two) message ≡ Takes body answers shown
        → KeepsAll (sides.base_at ends (side_of role)) (sides.body_at ends (side_of role) w) (transfer_log_at ends (side_of role) w) (took message)
    taken-keeps Initiator w two ledger exchanges left body answers shown j d (Session (OfAssociation (Connect session presentation values))) e r =
        absurd (early.no-opening free tables spellings a b two session presentation values body answers shown r)
    taken-keeps Responder w two ledger exchanges left body answers shown j d (Session (OfAssociation (Connect session presentation values))) e r =
        subst (λ (y : Body). KeepsAll (sides.base_at ends B) y (transfer_log_at ends B w) (took (Session (OfAssociation (Connect session presentation values))))) (sym (body-for common Responder w ∙ j.bodies Responder))
        (subst (λ (x : TransferLog). KeepsAll (sides.base_at ends B) two.b x (took (Session (OfAssociation (Connect session presentation values))))) (sym (d Responder))
        (go (early.opening-keeps free tables spellings a b two session presentation values left body answers shown (kept two ledger j.speaks.goes) e r)))
      where
        go : early.Opens free tables spellings a b two session presentation values → KeepsAll (sides.base_at ends B) two.b ledger.transfer_logs.b (took (Session (OfAssociation (Connect session presentation values))))
        go (inl k) = inl k
        go (inr soon) = inr (early.nothing free tables spellings a b never two ledger j.speaks.goes soon)
    taken-keeps role w two ledger exchanges left body answers shown j d message e r = tt

    pub keep-keeps : Keeps common (λ w two ledger exchanges. AreDone common w two ledger exchanges × KeepThen ends w)
    keep-keeps =
        let d = transfer-log-keeps common in
        record {
          begins = (d.begins, tt);
          calls = λ role w two ledger exchanges call answer j c h. (
            d.calls role w two ledger exchanges call answer j c h.0,
            all-keep ends (side_of role) w (called call (Ok answer) ∷ map sent (due_of (both_ends.base_at role common) (end_for common role w).body call (Ok answer))) (tt, sents-none (due_of (both_ends.base_at role common) (end_for common role w).body call (Ok answer))) h.1,
          );
          acts = λ role w two ledger exchanges own j c h. (d.acts role w two ledger exchanges own j c h.0, all-keep ends (side_of role) w (step_of own ∷ []) (act-none own, tt) h.1);
          takes = λ role w two ledger exchanges message left body answers shown j e r h. (
            d.takes role w two ledger exchanges message left body answers shown j e r h.0,
            all-keep ends (side_of role) (record { side = side_of role; step = took message } ∷ w) (map (answered message) answers) (answers-none message answers)
                (taken-keeps role w two ledger exchanges left body answers shown j h.0 message e r, h.1),
          );
          passes = λ role w two ledger exchanges message left j e r h. (d.passes role w two ledger exchanges message left j e r h.0, (tt, h.1));
          quiet = λ role w two ledger exchanges x q h. (
            d.quiet role w two ledger exchanges x q h.0,
            (none-keeps (sides.base_at ends (side_of role)) (sides.body_at ends (side_of role) w) (transfer_log_at ends (side_of role) w) x (quiet-none x q), h.1),
          );
          breaks = λ w two ledger exchanges j h. (d.breaks w two ledger exchanges j h.0, (tt, (tt, h.1)));
        }
