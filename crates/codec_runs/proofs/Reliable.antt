-- The laws of runs at two ends of reliable mode.
use Rattle.std.proofs.Common.{◌≡◌, sym, subst, List, []}
use Rattle.dialogue.specs.declared.config.Config.{Config}
use Rattle.dialogue.specs.declared.event.Event.{Event}
use Rattle.dialogue.specs.declared.event.Entry.{Entry}
use Rattle.stub_tables.specs.declared.tables.Tables.{Tables}
use Rattle.end_rules.specs.World.{World, Ends}
use Rattle.association_worlds.specs.association_reading.Transfers.{association_spellings}
use Rattle.association_worlds.specs.Laws.{IsMeant, SaidIsMeant}
use Rattle.transfer_laws.specs.Laws.{reliable_ends}
use Rattle.transfer_laws.proofs.Premises.{ends-one_holder, ends-take, ends-whole, ends-items, ends-once, ends-answers}
use Rattle.said_worlds.specs.Laws.{ReliableIsSaid}
use Rattle.codec_runs.proofs.ReliableSpoken.{all-meant, of_first, of_second}
use Rattle.run_laws.specs.Passing.{TakenInPlace}
use Rattle.run_laws.specs.Showing.{EachCarryShows}
use Rattle.run_laws.specs.Laws.{AtEachMoment, NothingFails, OneHolder}
use Rattle.association_runs.specs.Worlds.{ends_of, Runs}
use Rattle.association_runs.specs.Sides.{ends_for}
use Rattle.association_runs.specs.Arriving.{EachArrivesWhole}
use Rattle.association_runs.specs.TransferLogsAt.{transfer_log_at}
use Rattle.association_runs.specs.OwnExchanges.{Own, own_at}
use Rattle.outcome_laws.specs.Exchanges.{exchange_of, AreDistinct, outcomes_in}
use Rattle.outcome_laws.specs.Outcomes.{AreAllowed, AreAnswers}
use Rattle.agreement.specs.Laws.{AreFalling}
use Rattle.agreement.specs.Sets.{Role}
use Rattle.agreement.specs.Sets.Role.{Initiator, Responder}
use Rattle.osi_base.specs.declared.layer_words.Side.{Side}
use Rattle.osi_base.specs.declared.layer_words.Side.TheVariants.{A, B}
use Rattle.end_rules.specs.Encodings.{item_of, IsOf, Encoding, IsNewest}
use Rattle.dialogue.specs.Sides.{other}
use Rattle.end_model.specs.BothEnds.{Two}
use Rattle.reliable_model.specs.Ledgers.{TransferLog, Ledger, ReachedWithLedger, transfer_log_of}
use Rattle.reliable_model.specs.Transfers.{TakesTransferEnd as Ends_of, ArrivesWhole}
use Rattle.run_laws.specs.Transfers.{OneTransfer}
use Rattle.association_runs.proofs.TransferLogsAt.{AreDone}
use Rattle.association_runs.specs.Laws.{AreEvents, AreOneHolder, ReachesMessages, RunsReachMessages, RunsTakeInPlace, RunsShowWhatIsTaken, RunsNeverFail, RunsHaveOneHolder, RunsTransferWhole, RunsTellOneOutcome, RunsLeaveNothingWhole, RunKeepsLaws}
use Rattle.counted_runs.specs.Laws.{RunsTakeWhatIsWhole}
use Rattle.codec_runs.specs.ReliableLaws.{AreReliable, ReliableRunsTakeInPlace, ReliableRunsShowWhatIsTaken, ReliableRunsTellOneOutcome, ReliableRunsNeverFail, ReliableRunsHaveOneHolder, ReliableRunsArriveWhole, ReliableRunsArriveOnce, ReliableRunsTellAnswers, ReliableRunsKeepLaws}
use Rattle.association_runs.proofs.Carried.{from-start}
use Rattle.codec_runs.proofs.ReliableAlive.{nobody-dead, free, presumed, identifiers, window, kept}
use Rattle.codec_runs.proofs.ReliableEarly.{NeverFails}
use Rattle.codec_runs.proofs.ReliableSent.{taken-as-sent}
use Rattle.codec_runs.proofs.ReliableOutcomes.{Presumed, tell-rightly}
use Rattle.codec_runs.proofs.ReliableWhole.{KeepThen, keep-keeps, transferred-once}

module _ (tables : Tables) (a b : Config) (d : AreReliable tables a b) where
  same-ends : ends_for (reliable_ends tables a b) ≡ ends_of tables a b
  same-ends = λ i. record {
    a = record { tables = tables; config = a; initiator = sym d.ends.initiator i; mode = sym d.ends.of_a.mode i; spellings = association_spellings tables };
    b = record { tables = tables; config = b; initiator = sym d.responder i; mode = sym d.ends.of_b.mode i; spellings = association_spellings tables };
  }

  -- what holds of runs of the one holds of runs of the other
  over : (Law : Ends → World → Type 0) → ((all : List Event) (told : List Entry) (w : World) → AreEvents all → Runs (ends_for (reliable_ends tables a b)) [] all told w → Law (ends_for (reliable_ends tables a b)) w)
      → (all : List Event) (told : List Entry) (w : World) → AreEvents all → Runs (ends_of tables a b) [] all told w → Law (ends_of tables a b) w
  over Law h = subst (λ (e : Ends). (all : List Event) (told : List Entry) (w : World) → AreEvents all → Runs e [] all told w → Law e w) same-ends h

  meant : SaidIsMeant → ReliableIsSaid → IsMeant (reliable_ends tables a b)
  meant law is_said = all-meant tables a b d.ends law is_said

  holder : AreOneHolder (reliable_ends tables a b)
  holder two ledger g = ends-one_holder tables a b d.ends.module_s (of_first tables a b d.ends) (of_second tables a b d.ends) two ledger g

pub take-in-place : RunsTakeInPlace → SaidIsMeant → ReliableIsSaid → ReliableRunsTakeInPlace
take-in-place runs law is_said tables a b d = over tables a b d (λ ends w. AtEachMoment (TakenInPlace ends) w) (runs (reliable_ends tables a b) (meant tables a b d law is_said))

pub show-what-is-taken : RunsShowWhatIsTaken → SaidIsMeant → ReliableIsSaid → ReliableRunsShowWhatIsTaken
show-what-is-taken runs law is_said tables a b d =
    subst (λ (e : Ends). (all : List Event) (told : List Entry) (w : World) → AreEvents all → Runs e [] all told w → EachCarryShows e told w) (same-ends tables a b d)
    (runs (reliable_ends tables a b) (meant tables a b d law is_said))

pub tell-one : RunsTellOneOutcome → SaidIsMeant → ReliableIsSaid → ReliableRunsTellOneOutcome
tell-one runs law is_said tables a b d =
    over tables a b d (λ ends w. (side : Side) → AreDistinct (outcomes_in (own_at ends side w).shown) × AreAllowed ends.a.tables (own_at ends side w).asked (own_at ends side w).shown) go
  where
    go : (all : List Event) (told : List Entry) (w : World) → AreEvents all → Runs (ends_for (reliable_ends tables a b)) [] all told w
        → (side : Side) → AreDistinct (outcomes_in (own_at (ends_for (reliable_ends tables a b)) side w).shown) × AreAllowed tables (own_at (ends_for (reliable_ends tables a b)) side w).asked (own_at (ends_for (reliable_ends tables a b)) side w).shown
    go all told w typed r A = let o = runs (reliable_ends tables a b) (meant tables a b d law is_said) all told w typed r Initiator in (o.once, o.allowed)
    go all told w typed r B = let o = runs (reliable_ends tables a b) (meant tables a b d law is_said) all told w typed r Responder in (o.once, o.allowed)

pub never-fail : RunsNeverFail → SaidIsMeant → ReliableIsSaid → ReliableRunsNeverFail
never-fail runs law is_said tables a b d = over tables a b d (λ ends w. NothingFails w) (runs (reliable_ends tables a b) (meant tables a b d law is_said))

pub have-one-holder : RunsHaveOneHolder → SaidIsMeant → ReliableIsSaid → ReliableRunsHaveOneHolder
have-one-holder runs law is_said tables a b d =
    over tables a b d (λ ends w. AtEachMoment (OneHolder ends) w) (λ all told w typed r. runs (reliable_ends tables a b) (meant tables a b d law is_said) all told w typed r (holder tables a b d))

pub arrive-whole : RunsTransferWhole → SaidIsMeant → ReliableIsSaid → ReliableRunsArriveWhole
arrive-whole runs law is_said tables a b d =
    over tables a b d EachArrivesWhole
    (λ all told w typed r. runs (reliable_ends tables a b) (meant tables a b d law is_said) all told w typed r
    (λ two ledger g. ends-whole tables a b d.ends.module_s (of_first tables a b d.ends) (of_second tables a b d.ends) two ledger g) (λ two ledger g. ends-items tables a b d.ends.module_s (of_first tables a b d.ends) (of_second tables a b d.ends) two ledger g))

module _ (tables : Tables) (a b : Config) (d : AreReliable tables a b) where
  never : NeverFails (free tables a b d) tables (reliable_ends tables a b).spellings a b
  never two ledger g role message left fault body aborts shown e h = ends-take tables a b d.ends.module_s (of_first tables a b d.ends) (of_second tables a b d.ends) two ledger g role message left fault body aborts shown e h

  whole : (two : Two) (ledger : Ledger) → ReachedWithLedger (reliable_ends tables a b) two ledger → (role : Role) → Ends_of (reliable_ends tables a b) two role → ArrivesWhole (reliable_ends tables a b) two ledger role
  whole two ledger g = ends-whole tables a b d.ends.module_s (of_first tables a b d.ends) (of_second tables a b d.ends) two ledger g

  items : (two : Two) (ledger : Ledger) → ReachedWithLedger (reliable_ends tables a b) two ledger → (role : Role) (encoding : Encoding) → IsNewest encoding (transfer_log_of role ledger.transfer_logs).encoded → IsOf encoding.apdu (item_of encoding.activity (transfer_log_of role ledger.transfer_logs).started)
  items two ledger g = ends-items tables a b d.ends.module_s (of_first tables a b d.ends) (of_second tables a b d.ends) two ledger g

  falls : (two : Two) (ledger : Ledger) → ReachedWithLedger (reliable_ends tables a b) two ledger → (role : Role) → AreFalling (transfer_log_of role ledger.transfer_logs).arrived
  falls two ledger g role = ends-once tables a b d.ends.module_s (of_first tables a b d.ends) (of_second tables a b d.ends) two ledger g role

  falling : (w : World) → ReachesMessages (reliable_ends tables a b) w → (side : Side) → AreFalling (transfer_log_at (ends_for (reliable_ends tables a b)) side w).arrived
  falling w s A = subst (λ (x : TransferLog). AreFalling x.arrived) (sym (s.transfer_log Initiator)) (falls s.two s.ledger s.speaks.goes Initiator)
  falling w s B = subst (λ (x : TransferLog). AreFalling x.arrived) (sym (s.transfer_log Responder)) (falls s.two s.ledger s.speaks.goes Responder)

  one-transfer : RunsReachMessages → RunsTransferWhole → SaidIsMeant → ReliableIsSaid → (all : List Event) (told : List Entry) (w : World) → AreEvents all → Runs (ends_for (reliable_ends tables a b)) [] all told w → OneTransfer (ends_for (reliable_ends tables a b)) w
  one-transfer runs arrive law is_said all told w typed r =
      let m = meant tables a b d law is_said in
      let s = runs (reliable_ends tables a b) m all told w typed r in
      let keeps = keep-keeps (free tables a b d) tables (reliable_ends tables a b).spellings a b never (kept tables a b d) in
      transferred-once (ends_for (reliable_ends tables a b)) w (arrive (reliable_ends tables a b) m all told w typed r whole items)
      (from-start (reliable_ends tables a b) m (λ w two ledger exchanges. AreDone (reliable_ends tables a b) w two ledger exchanges × KeepThen (ends_for (reliable_ends tables a b)) w) keeps w all told typed r).extra.1
      (falling w s)

  given : Presumed (free tables a b d) tables (reliable_ends tables a b).spellings a b
  given = record { never = never; kept = kept tables a b d; whole = whole; items = items; falls = falls }

pub arrive-once : RunsReachMessages → SaidIsMeant → ReliableIsSaid → ReliableRunsArriveOnce
arrive-once runs law is_said tables a b d =
    over tables a b d (λ ends w. (side : Side) → AreFalling (transfer_log_at ends side w).arrived) (λ all told w typed r. falling tables a b d w (runs (reliable_ends tables a b) (meant tables a b d law is_said) all told w typed r))

pub tell-answers : RunsReachMessages → SaidIsMeant → ReliableIsSaid → ReliableRunsTellAnswers
tell-answers runs law is_said tables a b d = over tables a b d (λ ends w. (side : Side) → AreAnswers ends.a.tables (own_at ends (other side) w).wrote (own_at ends side w).shown) go
  where
    go : (all : List Event) (told : List Entry) (w : World) → AreEvents all → Runs (ends_for (reliable_ends tables a b)) [] all told w
        → (side : Side) → AreAnswers tables (own_at (ends_for (reliable_ends tables a b)) (other side) w).wrote (own_at (ends_for (reliable_ends tables a b)) side w).shown
    go all told w typed r A =
        let s = runs (reliable_ends tables a b) (meant tables a b d law is_said) all told w typed r in
        subst (λ (o : Own). AreAnswers tables o.wrote (own_at (ends_for (reliable_ends tables a b)) A w).shown) (sym (s.exchange Responder))
        (subst (λ (o : Own). AreAnswers tables (exchange_of Responder s.exchanges).wrote o.shown) (sym (s.exchange Initiator)) (ends-answers tables a b d.ends.module_s (of_first tables a b d.ends) (of_second tables a b d.ends) s.two s.ledger s.exchanges s.reached_exchanges Initiator))
    go all told w typed r B =
        let s = runs (reliable_ends tables a b) (meant tables a b d law is_said) all told w typed r in
        subst (λ (o : Own). AreAnswers tables o.wrote (own_at (ends_for (reliable_ends tables a b)) B w).shown) (sym (s.exchange Initiator))
        (subst (λ (o : Own). AreAnswers tables (exchange_of Initiator s.exchanges).wrote o.shown) (sym (s.exchange Responder)) (ends-answers tables a b d.ends.module_s (of_first tables a b d.ends) (of_second tables a b d.ends) s.two s.ledger s.exchanges s.reached_exchanges Responder))

-- ---- all of them

pub keep-laws : RunsReachMessages → RunsTakeInPlace → RunsShowWhatIsTaken → RunsNeverFail → RunsHaveOneHolder → RunsTransferWhole → RunsTakeWhatIsWhole → RunsLeaveNothingWhole → SaidIsMeant → ReliableIsSaid → ReliableRunsKeepLaws
keep-laws runs places shows calm one_holder arrive taken waits law is_said tables a b d =
    subst (λ (e : Ends). (all : List Event) (told : List Entry) (w : World) → AreEvents all → Runs e [] all told w → RunKeepsLaws tables e told w) (same-ends tables a b d) go
  where
    go : (all : List Event) (told : List Entry) (w : World) → AreEvents all → Runs (ends_for (reliable_ends tables a b)) [] all told w → RunKeepsLaws tables (ends_for (reliable_ends tables a b)) told w
    go all told w typed r =
        let m = meant tables a b d law is_said in
        record {
          laws =
              record {
                taken_as_sent =
                    taken-as-sent (free tables a b d) tables (reliable_ends tables a b).spellings a b (presumed tables a b d) (identifiers tables a b d) (window tables a b d) m w all told typed r (places (reliable_ends tables a b) m all told w typed r);
                one_outcome = tell-rightly (free tables a b d) tables (reliable_ends tables a b).spellings a b (given tables a b d) m w all told typed r;
                one_transfer = one-transfer tables a b d runs arrive law is_said all told w typed r;
                nothing_fails = calm (reliable_ends tables a b) m all told w typed r;
                nobody_is_dead = nobody-dead tables a b d w (runs (reliable_ends tables a b) m all told w typed r);
                one_holder = one_holder (reliable_ends tables a b) m all told w typed r (holder tables a b d);
                carries_show = shows (reliable_ends tables a b) m all told w typed r;
              };
          taken_when_whole = taken (reliable_ends tables a b) m all told w typed r;
          nothing_whole_waits = waits (ends_for (reliable_ends tables a b)) all told w r;
        }
