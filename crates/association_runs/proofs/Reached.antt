-- The laws of every run, each by what is kept of it.
use Rattle.std.proofs.Common.{◌∙◌}
use Rattle.end_model.specs.end_rules.World.{World}
use Rattle.end_model.specs.BothEnds.{Common}
use Rattle.run_laws.specs.Passing.{TakenInPlace}
use Rattle.run_laws.specs.Laws.{AtEachMoment, NothingFails, OneHolder}
use Rattle.association_runs.specs.Sides.{ends_for}
use Rattle.association_runs.specs.Laws.{RunsReachMessages, RunsTakeInPlace, RunsShowWhatIsTaken, RunsNeverFail, RunsHaveOneHolder, RunsTransferWhole}
use Rattle.association_runs.proofs.Carried.{from-start}
use Rattle.association_runs.proofs.Holder.{holder-keeps}
use Rattle.association_runs.proofs.InPlace.{place-keeps}
use Rattle.association_runs.proofs.Calm.{calm-keeps}
use Rattle.association_runs.proofs.Histories.{body-for}
use Rattle.association_runs.proofs.Exchanged.{AreExchanged, exchange-keeps}
use Rattle.association_runs.proofs.TransferLogsAt.{AreDone, transfer-log-keeps}
use Rattle.association_runs.specs.Arriving.{EachArrivesWhole}
use Rattle.association_runs.proofs.Arriving.{whole-keeps}
use Rattle.association_runs.proofs.Shown.{each-carry-shows}
use Rattle.association_runs.proofs.Keeps.{Keeps}
use Rattle.end_model.specs.BothEnds.{Two}
use Rattle.outcome_laws.specs.reliable_model.Ledgers.{Ledger}
use Rattle.outcome_laws.specs.Exchanges.{Exchanges}

-- two things that are kept are kept together
both-keep : (common : Common) (First Second : World → Two → Ledger → Exchanges → Type 0) → Keeps common First → Keeps common Second → Keeps common (λ w two ledger exchanges. First w two ledger exchanges × Second w two ledger exchanges)
both-keep common First Second f g = record {
  begins = (f.begins, g.begins);
  calls = λ role w two ledger exchanges call answer j c h. (f.calls role w two ledger exchanges call answer j c h.0, g.calls role w two ledger exchanges call answer j c h.1);
  acts = λ role w two ledger exchanges own j c h. (f.acts role w two ledger exchanges own j c h.0, g.acts role w two ledger exchanges own j c h.1);
  takes = λ role w two ledger exchanges message left body answers shown j e r h.
      (f.takes role w two ledger exchanges message left body answers shown j e r h.0, g.takes role w two ledger exchanges message left body answers shown j e r h.1);
  passes = λ role w two ledger exchanges message left j e r h. (f.passes role w two ledger exchanges message left j e r h.0, g.passes role w two ledger exchanges message left j e r h.1);
  quiet = λ role w two ledger exchanges x q h. (f.quiet role w two ledger exchanges x q h.0, g.quiet role w two ledger exchanges x q h.1);
  breaks = λ w two ledger exchanges j h. (f.breaks w two ledger exchanges j h.0, g.breaks w two ledger exchanges j h.1);
}

pub reach-messages : RunsReachMessages
reach-messages common m all told w typed r =
    let s = from-start common m (λ w two ledger exchanges. AreExchanged common w two ledger exchanges × AreDone common w two ledger exchanges) (both-keep common (AreExchanged common) (AreDone common) (exchange-keeps common) (transfer-log-keeps common)) w all told typed r in
    record {
      two = s.two;
      ledger = s.ledger;
      exchanges = s.exchanges;
      reached_exchanges = s.joint.reached_exchanges;
      speaks = s.joint.speaks;
      bodies = λ role. body-for common role w ∙ s.joint.bodies role;
      shared = s.joint.shared;
      exchange = s.extra.0;
      transfer_log = s.extra.1;
    }

pub take-in-place : RunsTakeInPlace
take-in-place common m all told w typed r =
    (from-start common m (λ w two ledger exchanges. AtEachMoment (TakenInPlace (ends_for common)) w) (place-keeps common) w all told typed r).extra

pub never-fail : RunsNeverFail
never-fail common m all told w typed r = (from-start common m (λ w two ledger exchanges. NothingFails w) (calm-keeps common) w all told typed r).extra

pub have-one-holder : RunsHaveOneHolder
have-one-holder common m all told w typed r one =
    (from-start common m (λ w two ledger exchanges. AtEachMoment (OneHolder (ends_for common)) w) (holder-keeps common one) w all told typed r).extra

pub show-what-is-taken : RunsShowWhatIsTaken
show-what-is-taken common m all told w typed r = each-carry-shows common m w all told typed r

pub transfer-whole : RunsTransferWhole
transfer-whole common m all told w typed r whole items =
    (from-start common m (λ w two ledger exchanges. AreDone common w two ledger exchanges × EachArrivesWhole (ends_for common) w) (whole-keeps common whole items) w all told typed r).extra.1
