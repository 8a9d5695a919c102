-- No step of a run is a fault or an abort of an end by itself.
use Rattle.std.proofs.Common.{List, [], ◌∷◌, map, Ok}
use Rattle.osi_base.specs.declared.layer_words.Side.{Side}
use Rattle.end_model.specs.end_rules.Messages.{Message}
use Rattle.end_model.specs.end_rules.Requesting.{due_of}
use Rattle.end_model.specs.end_rules.ByItself.{OwnAct, SendsNow, EncodesOn}
use Rattle.end_model.specs.end_rules.History.{Step, called, sent, took, answered, fault, aborted, step_of}
use Rattle.end_model.specs.end_rules.World.{World}
use Rattle.end_model.specs.Sharing.{side_of}
use Rattle.end_model.specs.BothEnds.{Common, base_at}
use Rattle.run_laws.specs.Laws.{IsFaultless, NothingFails}
use Rattle.association_runs.specs.Worlds.{stepping}
use Rattle.association_runs.proofs.Histories.{end_for}
use Rattle.association_runs.proofs.Keeps.{IsQuiet, Keeps}

abbrev AreFaultless : List Step → Type 0
AreFaultless [] = Unit {0}
AreFaultless (x ∷ xs) = IsFaultless x × AreFaultless xs

all-calm : (side : Side) (w : World) (xs : List Step) → AreFaultless xs → NothingFails w → NothingFails (stepping side w xs)
all-calm side w [] f h = h
all-calm side w (x ∷ xs) f h = all-calm side (record { side = side; step = x } ∷ w) xs f.1 (f.0, h)

sents-calm : (ms : List Message) → AreFaultless (map sent ms)
sents-calm [] = tt
sents-calm (m ∷ ms) = (tt, sents-calm ms)

answers-calm : (to : Message) (ms : List Message) → AreFaultless (map (answered to) ms)
answers-calm to [] = tt
answers-calm to (m ∷ ms) = (tt, answers-calm to ms)

own-calm : (own : OwnAct) → AreFaultless (step_of own ∷ [])
own-calm (SendsNow message) = (tt, tt)
own-calm (EncodesOn context) = (tt, tt)

quiet-calm : (x : Step) → IsQuiet x → IsFaultless x
quiet-calm (fault layer place reason) q = absurd q
quiet-calm (aborted message) q = absurd q
quiet-calm _ q = tt

pub calm-keeps : (common : Common) → Keeps common (λ w two ledger exchanges. NothingFails w)
calm-keeps common = record {
  begins = tt;
  calls = λ role w two ledger exchanges call answer j c h. all-calm (side_of role) w (called call (Ok answer) ∷ map sent (due_of (base_at role common) (end_for common role w).body call (Ok answer))) (tt, sents-calm (due_of (base_at role common) (end_for common role w).body call (Ok answer))) h;
  acts = λ role w two ledger exchanges own j c h. all-calm (side_of role) w (step_of own ∷ []) (own-calm own) h;
  takes = λ role w two ledger exchanges message left body answers shown j e r h. all-calm (side_of role) w (took message ∷ map (answered message) answers) (tt, answers-calm message answers) h;
  passes = λ role w two ledger exchanges message left j e r h. (tt, h);
  quiet = λ role w two ledger exchanges x q h. (quiet-calm x q, h);
  breaks = λ w two ledger exchanges j h. (tt, (tt, h));
}
