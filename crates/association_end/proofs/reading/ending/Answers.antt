use Rattle.std.proofs.Common.{false, sym, subst, ◌≡◌}
use Rattle.std.specs.Prelude.{MatchOption}
use Rattle.end_rules.specs.Messages.{OfActivities, End}
use Rattle.association_words.specs.declared.words.Word.{Word}
use Rattle.association_words.specs.Seen.{seen_word, seen_activities}
use Rattle.association_reacting.specs.ActivityEnds.{is_end_word}
use Rattle.association_end.proofs.Units.{ending_so}
use Rattle.association_end.proofs.reading.ending.Goals as goal

pub returns-in-OfActivities : goal.returns-in-OfActivities
returns-in-OfActivities c =
    subst (λ (w : Word). MatchOption c.end_number.result (is_end_word (seen_word w) ≡ false) (λ number. seen_word w ≡ OfActivities (End number))) (sym c.in-OfActivities.is)
    (ending_so (seen_activities c.in-OfActivities.word) c.end_number.result c.end_number.ensures)
