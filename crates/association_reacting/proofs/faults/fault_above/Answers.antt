use Rattle.std.proofs.Common.{Option, None, false, sym, subst, ◌≡◌}
use Rattle.std.specs.Prelude.{IfOk, option_map}
use Rattle.end_rules.specs.Reacting.{fault_above}
use Rattle.association_words.specs.declared.faults.Fault.{Fault}
use Rattle.association_words.specs.declared.words.Word.{Word}
use Rattle.association_words.specs.Seen.{seen_fault, seen_word, seen_activities}
use Rattle.association_place.specs.association_state.Seen.{base_in, seen}
use Rattle.association_reacting.specs.ActivityEnds.{is_end_word}
use Rattle.association_reacting.proofs.Reactions.{no_fault}
use Rattle.association_reacting.proofs.faults.fault_above.Goals as goal

pub returns-in-OfAssociation : goal.returns-in-OfAssociation
returns-in-OfAssociation c =
    subst (λ (w : Word). IfOk c.association_fault.result (λ (fault : Option Fault). option_map seen_fault fault ≡ fault_above (base_in c.args.basis.now) (seen c.args.body.now) (seen_word w))) (sym c.in-OfAssociation.is) c.association_fault.ensures

pub returns-in-OfMarks : goal.returns-in-OfMarks
returns-in-OfMarks c =
    subst (λ (w : Word). IfOk c.mark_fault.result (λ (fault : Option Fault). option_map seen_fault fault ≡ fault_above (base_in c.args.basis.now) (seen c.args.body.now) (seen_word w))) (sym c.in-OfMarks.is) c.mark_fault.ensures

pub returns-in-OfData : goal.returns-in-OfData
returns-in-OfData c =
    subst (λ (w : Word). option_map seen_fault c.data_fault.result ≡ fault_above (base_in c.args.basis.now) (seen c.args.body.now) (seen_word w)) (sym c.in-OfData.is) c.data_fault.ensures

pub returns-in-OfActivities : goal.returns-in-OfActivities
returns-in-OfActivities c =
    let b = base_in c.args.basis.now in
    let old = seen c.args.body.now in
    subst (λ (w : Word). None ≡ fault_above b old (seen_word w)) (sym c.in-OfActivities.is)
    (sym (no_fault b old (seen_activities c.in-OfActivities.field-0) (subst (λ (w : Word). is_end_word (seen_word w) ≡ false) c.in-OfActivities.is c.requires)))
