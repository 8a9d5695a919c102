-- Words and numbers of texts.
use Rattle.std.specs.Prelude.{ℕ, List, codes}
use Rattle.osi_base.specs.declared.layer_words.Side.{Side}
use Rattle.osi_base.specs.declared.layer_words.Side.TheVariants.{A, B}
use Rattle.dialogue.specs.declared.config.Mode.{Mode}
use Rattle.dialogue.specs.declared.config.Mode.TheVariants.{Bare, Direct, Reliable}
use Rattle.dialogue.specs.declared.config.Phase.{Phase}
use Rattle.dialogue.specs.declared.config.Phase.TheVariants.{Idle, Opening, Up, Releasing, Broken, Recovering, Over, Dead}

abbrev pub side_word : Side → List ℕ
side_word A = codes "A"
side_word B = codes "B"

abbrev pub mode_word : Mode → List ℕ
mode_word Bare = codes "bare"
mode_word Direct = codes "direct"
mode_word Reliable = codes "reliable"

abbrev pub phase_word : Phase → List ℕ
phase_word Idle = codes "idle"
phase_word Opening = codes "opening"
phase_word Up = codes "up"
phase_word Releasing = codes "releasing"
phase_word Broken = codes "broken"
phase_word Recovering = codes "recovering"
phase_word Over = codes "over"
phase_word Dead = codes "dead"
