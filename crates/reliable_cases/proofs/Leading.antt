-- Where events lead is computed as far as a row asks.
use Rattle.std.proofs.Common.{◌≡◌, refl, List}
use Rattle.std.specs.Prelude.{true, Option, Some, None, is_some}
use Rattle.end_model.specs.BothEnds.{Common}
use Rattle.reliable_cases.specs.Played.{Event, Place, start_of, played, Leads}
use Rattle.reliable_cases.proofs.Reached.{played-reached}

abbrev place_of : Place → Option Place → Place
place_of start None = start
place_of start (Some place) = place

abbrev pub place_at : Common → List Event → Place
place_at common events = place_of (start_of common) (played common events)

some-so : (start : Place) (o : Option Place) → is_some o ≡ true → o ≡ Some (place_of start o)
some-so start None h = cc
some-so start (Some place) h = refl

pub leads : (common : Common) (events : List Event) (Law : Place → Type 0) → is_some (played common events) ≡ true → Law (place_at common events) → Leads common events Law
leads common events Law h law =
    (place_at common events, some-so (start_of common) (played common events) h, played-reached common events _ (some-so (start_of common) (played common events) h), law)
