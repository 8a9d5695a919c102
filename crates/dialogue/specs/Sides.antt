-- The two ends.
use Rattle.osi_base.specs.declared.layer_words.Side.{Side}
use Rattle.osi_base.specs.declared.layer_words.Side.TheVariants.{A, B}

-- the other end
abbrev pub other : Side → Side
other A = B
other B = A
