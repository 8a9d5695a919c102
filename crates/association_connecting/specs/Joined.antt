-- The parts of what an end holds once an opening is accepted.
use Rattle.std.specs.Prelude.{ℕ, Bool, false, List, [], ◌∷◌}
use Rattle.osi_base.specs.declared.layer_words.SetItem.{SetItem}
use Rattle.dialogue.specs.declared.config.Mode.{Mode}
use Rattle.dialogue.specs.declared.config.Mode.TheVariants.{Bare, Direct, Reliable}
use Rattle.dialogue.specs.declared.config.Phase.TheVariants.{Up}
use Rattle.end_rules.specs.State.{Body, Carrying, NoAnswer}
use Rattle.end_rules.specs.Connecting.{Agreed}

abbrev pub kept_first : Mode → List SetItem → Body → Body
kept_first Reliable accepted body = record body { sets = record body.sets { inter = accepted } }
kept_first Direct accepted body = record body { saved = record { number = 0; set = accepted } ∷ [] }
kept_first Bare accepted body = body

abbrev pub stood : Bool → List SetItem → ℕ → Bool → Agreed → Body → Body
stood initiator accepted selected manages agreed body =
    record body {
      link =
          record body.link {
            phase = Up;
            stage = Carrying;
            selected = selected;
            manages = manages;
            turn = initiator;
            gave = false;
            awaits = NoAnswer;
            accepted = accepted;
            checkpoint = agreed.checkpoint;
            window = agreed.window;
          };
    }
