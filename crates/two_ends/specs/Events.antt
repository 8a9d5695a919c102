-- What the events of a run do to two ends, each of which acts in its way.
use Rattle.std.specs.Prelude.{◌≡◌, ℕ, List, [], ◌∷◌, ◌++◌, length, Option}
use Rattle.osi_base.specs.declared.layer_words.Side.{Side}
use Rattle.osi_base.specs.declared.layer_words.Side.TheVariants.{A, B}
use Rattle.dialogue.specs.Carries.{first_octets}
use Rattle.dialogue.specs.declared.call.Call.{Call}
use Rattle.dialogue.specs.declared.event.Event.{Event}
use Rattle.dialogue.specs.declared.event.Event.TheVariants as events
use Rattle.dialogue.specs.declared.event.Entry.{Entry}
use Rattle.dialogue.specs.declared.event.Entry.TheVariants as entries
use Rattle.dialogue.specs.declared.event.Carried.{Carried}
use Rattle.two_ends.specs.Conduct.{CallAnswer, Conduct, given_out}

-- One end answered a call, and the other is as it was.
pub record AnsweredOne {X Y : Type 0} (acts : Conduct X) (call : Call) (answer : CallAnswer) (end : X) (rest : Y) (end_after : X) (rest_after : Y) : Type 0 where
  pub answered : acts.answered end end_after call answer
  pub kept : rest_after ≡ rest

abbrev pub AnsweredAt : {X Y : Type 0} → Conduct X → Conduct Y → Side → Call → CallAnswer → X → Y → X → Y → Type 0
AnsweredAt p q A call answer a b a_after b_after = AnsweredOne p call answer a b a_after b_after
AnsweredAt p q B call answer a b a_after b_after = AnsweredOne q call answer b a b_after a_after

-- The first octets that waited at one end were fed to another.
pub record CarriedOver {X Y : Type 0} (giver : Conduct X) (taker : Conduct Y) (most : Option ℕ) (carried : Carried) (from : X) (to : Y) (from_after : X) (to_after : Y) : Type 0 where
  pub octets_are : carried.octets ≡ first_octets most (giver.waiting from)
  pub gives : from_after ≡ given_out giver (length carried.octets) from
  pub feeds : taker.fed to to_after carried.octets carried.shown

abbrev pub CarriedFrom : {X Y : Type 0} → Conduct X → Conduct Y → Side → Option ℕ → Carried → X → Y → X → Y → Type 0
CarriedFrom p q A most carried a b a_after b_after = CarriedOver p q most carried a b a_after b_after
CarriedFrom p q B most carried a b a_after b_after = CarriedOver q p most carried b a b_after a_after

-- The event made this entry, and changed the ends so.
pub data Happened {X Y : Type 0} (p : Conduct X) (q : Conduct Y) : Event → Entry → X → Y → X → Y → Type 0 where
  called : {a a_after : X} {b b_after : Y} (side : Side) (call : Call) (answer : CallAnswer) → AnsweredAt p q side call answer a b a_after b_after
      → Happened p q (events.Call side call) (entries.Call side call answer) a b a_after b_after
  carried_over : {a a_after : X} {b b_after : Y} (side : Side) (most : Option ℕ) (carried : Carried) → CarriedFrom p q side most carried a b a_after b_after
      → Happened p q (events.Carry side most) (entries.Carry side most carried) a b a_after b_after
  both_broke : {a a_after : X} {b b_after : Y} → p.broke a a_after → q.broke b b_after
      → Happened p q events.Break entries.Break a b a_after b_after

-- From these two ends, the events made these entries one after the other, and changed the ends so.
pub data AllHappened {X Y : Type 0} (p : Conduct X) (q : Conduct Y) (a : X) (b : Y) : List Event → List Entry → X → Y → Type 0 where
  nothing_yet : AllHappened p q a b [] [] a b
  one_more : {all : List Event} {told : List Entry} {a_then : X} {b_then : Y} {a_after : X} {b_after : Y} (event : Event) (entry : Entry)
      → AllHappened p q a b all told a_then b_then → Happened p q event entry a_then b_then a_after b_after
      → AllHappened p q a b (all ++ event ∷ []) (told ++ entry ∷ []) a_after b_after
