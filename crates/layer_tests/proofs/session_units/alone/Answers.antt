use Rattle.std.proofs.Common.{◌≡◌, List, [], ◌∷◌, ◌++◌, sym, ap, subst, ◌∙◌, arith}
use Rattle.osi_base.specs.declared.session_word.SessionWord.{SessionWord}
use Rattle.spdu_codec.specs.Written.{AreWritable}
use Rattle.spdu_codec.proofs.SizeLaws.{word_size}
use Rattle.layer_tests.proofs.session_units.alone.Goals as goal

pub check-requires : goal.check-requires
check-requires c d =
    let word = d.args.word in
    let whole : d.add.new.words ≡ word ∷ [] = d.add.ensures ∙ ap (λ (l : List SessionWord). l ++ word ∷ []) d.new-words.ensures in
    subst AreWritable (sym whole) (d.requires.stands, record { fields = d.requires.fields; size = omega (arith, d.requires.short, word_size word d.requires.fields) })
