use Rattle.std.proofs.Common.{◌≡◌, List, [], ◌∷◌, ◌++◌, None, refl, sym, ap, subst, ◌∙◌, arith}
use Rattle.osi_base.specs.declared.session_word.SessionWord.{SessionWord}
use Rattle.osi_base.specs.declared.session_word.SessionWord.TheVariants.{GiveTokens}
use Rattle.spdu_codec.specs.Written.{AreWritable}
use Rattle.spdu_codec.proofs.SizeLaws.{word_size}
use Rattle.layer_tests.proofs.session_units.second.Goals as goal

pub check-requires : goal.check-requires
check-requires c d =
    let word = d.args.word in
    let first : d.add.new.words ≡ GiveTokens None ∷ [] = d.add.ensures ∙ ap (λ (l : List SessionWord). l ++ GiveTokens None ∷ []) d.new-words.ensures in
    let whole : d.add-2.new.words ≡ GiveTokens None ∷ word ∷ [] = d.add-2.ensures ∙ ap (λ (l : List SessionWord). l ++ word ∷ []) first in
    subst AreWritable (sym whole) (
      refl,
      record { fields = tt; size = omega arith },
      d.requires.stands,
      record { fields = d.requires.fields; size = omega (arith, d.requires.short, word_size word d.requires.fields) },
    )
