-- What fits is what its type keeps.
use Rattle.std.proofs.Common.{◌≡◌, ℕ, Bool, true, false, ◌&&◌, None, List, [], ◌∷◌, refl, arith}
use Rattle.std.specs.List.{list_all}
use Rattle.std.proofs.lemmas.Bool.Decides.{nat_tests}
use Rattle.osi_base.specs.declared.layer_words.Proposal.{Proposal}
use Rattle.osi_base.specs.Octets.{AreOctets}
use Rattle.dialogue.specs.declared.call.Call.{Call}
use Rattle.dialogue.specs.declared.call.Call.TheVariants as calls
use Rattle.dialogue.specs.declared.config.Config.{Config}
use Rattle.dialogue.specs.declared.config.Mode.{Mode}
use Rattle.dialogue.specs.declared.config.Mode.TheVariants.{Bare, Direct, Reliable}
use Rattle.dialogue.specs.declared.event.Event.{Event}
use Rattle.dialogue.specs.declared.event.Event.TheVariants as events
use Rattle.schedule_text.specs.end_config.Refusing.{config_refusal}
use Rattle.said_words.specs.Calls.{AreNames, AreNamed, IsCall}
use Rattle.said_worlds.specs.said_spellings.Laws.{AreReferences, IsEndIn}
use Rattle.association_runs.specs.Laws.{IsEvent, AreEvents}
use Rattle.schedule_ends.specs.Fitting.{name_fits, proposal_fits, call_fits, event_fits}

both : (a b : Bool) → (a && b) ≡ true → (a ≡ true) × (b ≡ true)
both true true e = (refl, refl)
both true false e = absurd (let no : ⊥ = cc in no)
both false b e = absurd (let no : ⊥ = cc in no)

names_of : (names : List (List ℕ)) → list_all name_fits names ≡ true → AreNames names
names_of [] e = tt
names_of (name ∷ names) e =
    let h = both (name_fits name) (list_all name_fits names) e in
    (h.0, names_of names h.1)

pub named_of : (ps : List Proposal) → list_all proposal_fits ps ≡ true → AreNamed ps
named_of [] e = tt
named_of (p ∷ ps) e =
    let h = both (proposal_fits p) (list_all proposal_fits ps) e in
    let k = both (name_fits p.abstract_name) (list_all name_fits p.transfers) h.0 in
    (k.0, names_of p.transfers k.1, named_of ps h.1)

call_of : (call : Call) → call_fits call ≡ true → IsCall call
call_of calls.Open e = tt
call_of (calls.Invoke context operation argument linked) e = tt
call_of (calls.Answer id result) e = tt
call_of (calls.Refuse id error parameter) e = tt
call_of (calls.Alter add delete) e = named_of add e
call_of calls.Mark e = tt
call_of calls.Give e = tt
call_of (calls.Please priority) e = grind (arith, nat_tests)
call_of (calls.Resync n) e = tt
call_of calls.Interrupt e = tt
call_of calls.Resume e = tt
call_of calls.Discard e = tt
call_of calls.Recover e = tt
call_of calls.Release e = tt
call_of calls.Abort e = tt

event_of : (event : Event) → event_fits event ≡ true → IsEvent event
event_of (events.Call side call) e = call_of call e
event_of (events.Carry side most) e = tt
event_of events.Break e = tt

pub events_of : (all : List Event) → list_all event_fits all ≡ true → AreEvents all
events_of [] e = tt
events_of (event ∷ more) e =
    let h = both (event_fits event) (list_all event_fits more) e in
    (event_of event h.0, events_of more h.1)

references_of : (mode : Mode) (config : Config) → AreOctets config.reference → AreOctets config.common → AreReferences mode config
references_of Bare config r c = tt
references_of Direct config r c = tt
references_of Reliable config r c = (r, c)

pub end_of : (config : Config) → AreOctets config.calling → AreOctets config.called → AreOctets config.reference → AreOctets config.common
    → list_all proposal_fits config.contexts ≡ true → config_refusal config ≡ None → IsEndIn config.mode config
end_of config calling called reference common contexts accepted = record {
  mode = refl;
  accepted = accepted;
  calling = calling;
  called = called;
  references = references_of config.mode config reference common;
  contexts = named_of config.contexts contexts;
}
