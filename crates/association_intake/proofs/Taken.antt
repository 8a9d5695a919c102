-- What stands first is taken off.
use Rattle.std.proofs.Common.{◌≡◌, List, [], ◌∷◌, Option, Some, None, refl, sym, subst, ap}
use Rattle.std.specs.Prelude.{IsSome}
use Rattle.osi_base.specs.declared.layer_words.Layer.TheVariants.{Transport}
use Rattle.tpkt.specs.declared.packet.TFault.{TFault}
use Rattle.tpkt.specs.declared.reader_state.ReaderState.{ReaderState}
use Rattle.association_reading.specs.Front as reading
use Rattle.association_intake.specs.declared.front.Front.{Front}
use Rattle.association_intake.specs.declared.front.Front.TheVariants.{Short, Faulty}
use Rattle.association_intake.specs.Seen.{TakesFirst}
use Rattle.association_intake.specs.View.{held_with, IsFaultOf}

-- the first of some
pub takes_one : (fronts left : List Front) (front : Front) (held : Option ReaderState) → IsSome held → fronts ≡ front ∷ left → TakesFirst (held_with fronts held) front (held_with left held)
takes_one fronts left front None s e = cc
takes_one fronts left front (Some held) s e = subst (λ (fs : List Front). TakesFirst (held_with fs (Some held)) front (held_with left (Some held))) (sym e) (refl, refl)

-- none are there, but the fault of the stream
pub takes_fault : (fronts left : List Front) (fault : TFault) (held : Option ReaderState) → IsSome held → fronts ≡ [] → left ≡ [] → IsFaultOf held (Some fault)
    → TakesFirst (held_with fronts held) (Faulty Transport fault.place) (held_with left held)
takes_fault fronts left fault None s e f k = cc
takes_fault fronts left fault (Some held) s e f k =
    subst (λ (fs : List Front). TakesFirst (held_with fs (Some held)) (Faulty Transport fault.place) (held_with left (Some held))) (sym e)
    (subst (λ (fs : List Front). TakesFirst (held_with [] (Some held)) (Faulty Transport fault.place) (held_with fs (Some held))) (sym f)
    (ap reading.front_held k, refl))

-- none are there
pub takes_none : (fronts left : List Front) (held : Option ReaderState) → IsSome held → fronts ≡ [] → left ≡ [] → IsFaultOf held None
    → TakesFirst (held_with fronts held) Short (held_with left held)
takes_none fronts left None s e f k = cc
takes_none fronts left (Some held) s e f k =
    subst (λ (fs : List Front). TakesFirst (held_with fs (Some held)) Short (held_with left (Some held))) (sym e)
    (subst (λ (fs : List Front). TakesFirst (held_with [] (Some held)) Short (held_with fs (Some held))) (sym f)
    (ap reading.front_held k, refl))
