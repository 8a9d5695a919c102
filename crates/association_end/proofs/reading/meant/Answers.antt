use Rattle.std.proofs.Common.{sym, subst}
use Rattle.end_rules.specs.Base.{Base}
use Rattle.association_line.specs.association_reading.Meaning.{meaning}
use Rattle.association_words.specs.Seen.{seen_word}
use Rattle.association_reacting.specs.association_state.Seen.{seen}
use Rattle.association_meaning.specs.Grounds.{association_base, GivesAs}
use Rattle.association_end.proofs.reading.meant.Goals as goal

pub returns : goal.returns
returns c =
    subst (λ (b : Base). GivesAs seen_word c.meaning_of_unit.result (meaning b (seen c.args.body.now) c.args.unit.now c.args.start))
    (λ i. association_base (c.reading.ensures.tables i) (c.reading.ensures.config i))
    (c.meaning_of_unit.ensures (seen c.args.body.now) (sym c.as_slice.ensures) (sym c.as_slice-2.ensures))
