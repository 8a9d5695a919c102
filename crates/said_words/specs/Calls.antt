-- Calls of two ends as their types have them: names are object identifiers whose arcs have 32 bits, and numbers have 32 bits.
use Rattle.std.specs.Prelude.{◌≡◌, ℕ, ◌<◌, ◌^◌, List, [], ◌∷◌, true}
use Rattle.osi_base.specs.declared.layer_words.Proposal.{Proposal}
use Rattle.asn1_types.specs.Fits.{object_id_fits}
use Rattle.asn1_types.specs.Value.{object_id}
use Rattle.dialogue.specs.declared.call.Call.{Call}
use Rattle.dialogue.specs.declared.call.Call.TheVariants as the_calls
use Rattle.end_model.specs.BothEnds.{Common, Two}
use Rattle.reliable_model.specs.Ledgers.{Ledger, ReachedWithLedger}
use Rattle.reliable_model.specs.Ledgers as ledgers

-- X.660 7.6
abbrev pub IsName : List ℕ → Type 0
IsName arcs = object_id_fits (object_id arcs) ≡ true

abbrev pub AreNames : List (List ℕ) → Type 0
AreNames [] = Unit {0}
AreNames (name ∷ names) = IsName name × AreNames names

abbrev pub AreNamed : List Proposal → Type 0
AreNamed [] = Unit {0}
AreNamed (p ∷ ps) = IsName p.abstract_name × AreNames p.transfers × AreNamed ps

abbrev pub IsCall : Call → Type 0
IsCall (the_calls.Alter add delete) = AreNamed add
IsCall (the_calls.Please priority) = priority < 2 ^ 32
IsCall call = Unit {0}

-- so is each call by which two ends reached what they have
abbrev pub AreCalls : (common : Common) (two : Two) (ledger : Ledger) → ReachedWithLedger common two ledger → Type 0
AreCalls common two ledger ledgers.begins = Unit {0}
AreCalls common two ledger (ledgers.calls before l role call answer g c) = IsCall call × AreCalls common before l g
AreCalls common two ledger (ledgers.acts before l role own g c) = AreCalls common before l g
AreCalls common two ledger (ledgers.takes before l role message left body answers shown g e r) = AreCalls common before l g
AreCalls common two ledger (ledgers.passes before l role message left g e r) = AreCalls common before l g
AreCalls common two ledger (ledgers.fails before l role message left fault body aborts shown g e r) = AreCalls common before l g
AreCalls common two ledger (ledgers.breaks before l g) = AreCalls common before l g

pub record Speaks (common : Common) (two : Two) (ledger : Ledger) : Type 0 where
  pub goes : ReachedWithLedger common two ledger
  pub calls : AreCalls common two ledger goes
