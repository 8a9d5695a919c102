-- Transfers between two ends: what each started and encoded, and what arrived at the other (X.228 7; the numbers of activities and
-- what is kept of them are this project's own rule).
use Rattle.std.specs.Prelude.{◌≡◌, ℕ, ◌<◌, List, [], ◌∷◌, ◌++◌, if◌then◌else◌}
use Rattle.osi_base.specs.declared.layer_words.Side.{Side}
use Rattle.end_rules.specs.Encodings.{next_queued, item_of, IsOf, Encoding, encoding_of, IsNewest}
use Rattle.dialogue.specs.Sides.{other}
use Rattle.stub_tables.specs.declared.apdu.Apdu.{Apdu}
use Rattle.end_rules.specs.Base.{Base}
use Rattle.end_rules.specs.Messages.{Session, OfActivities, Start, End, Remote, DataValue}
use Rattle.end_rules.specs.State.{Body, Queued}
use Rattle.end_rules.specs.TakesActivities.{handed_up}
use Rattle.end_rules.specs.History.{Step, sent, encoded, took}
use Rattle.end_rules.specs.World.{World, Ends, base_at, body_at, is_side, pair_at_sending}

-- ---- what an end started: the k-th in its activity k; the newest first

abbrev pub started_in : Body → Step → List Queued
started_in body (sent (Session (OfActivities (Start activity)))) = next_queued body.sending.queue
started_in body _ = []

abbrev pub started : Ends → Side → World → List Queued
started ends side [] = []
started ends side (m ∷ w) = if is_side side m.side then started_in (body_at ends side w) m.step ++ started ends side w else started ends side w

-- ---- what it encoded: in which activity, on which context, under the pair that the shared set gave the context just then; the newest first

abbrev pub encoded_in : Ends → World → Body → Step → List Encoding
encoded_in ends w body (encoded context) = encoding_of body.sending.started context (pair_at_sending ends w context) body.sending.current
encoded_in ends w body _ = []

abbrev pub encodings : Ends → Side → World → List Encoding
encodings ends side [] = []
encodings ends side (m ∷ w) = if is_side side m.side then encoded_in ends w (body_at ends side w) m.step ++ encodings ends side w else encodings ends side w

-- ---- what arrived at an end, with the number of its activity; the newest first

pub record Arrival : Type 0 where
  pub activity : ℕ
  pub value : DataValue

abbrev pub arrivals_of : ℕ → List DataValue → List Arrival
arrivals_of activity [] = []
arrivals_of activity (value ∷ values) = record { activity = activity; value = value } ∷ arrivals_of activity values

abbrev pub arrived_in : Base → Body → Step → List Arrival
arrived_in base body (took (Session (OfActivities (End number)))) = arrivals_of body.receiving.last (handed_up base body)
arrived_in base body _ = []

abbrev pub arrivals : Ends → Side → World → List Arrival
arrivals ends side [] = []
arrivals ends side (m ∷ w) = if is_side side m.side then arrived_in (base_at ends side) (body_at ends side w) m.step ++ arrivals ends side w else arrivals ends side w

-- ---- whole, and at most once

-- it is the item that was started with that number, as it was encoded last, read under its pair
pub record ArrivedWhole (items : List Queued) (made : List Encoding) (arrival : Arrival) : Type 0 where
  pub apdu : Apdu
  pub is_remote : arrival.value.content ≡ Remote apdu
  pub is_its : IsOf apdu (item_of arrival.activity items)
  pub is_encoded : IsNewest (record { activity = arrival.activity; id = arrival.value.id; pair = arrival.value.pair; apdu = apdu }) made

-- so is each as it arrives
abbrev pub AreWhole : List Queued → List Encoding → List Arrival → Type 0
AreWhole items made [] = Unit {0}
AreWhole items made (arrival ∷ more) = ArrivedWhole items made arrival × AreWhole items made more

abbrev pub ArriveWhole : Ends → World → Type 0
ArriveWhole ends [] = Unit {0}
ArriveWhole ends (m ∷ w) =
    AreWhole (started ends (other m.side) w) (encodings ends (other m.side) w) (arrived_in (base_at ends m.side) (body_at ends m.side w) m.step) × ArriveWhole ends w

-- the numbers rise
abbrev pub AreFalling : List Arrival → Type 0
AreFalling [] = Unit {0}
AreFalling (first ∷ []) = Unit {0}
AreFalling (first ∷ second ∷ more) = (second.activity < first.activity) × AreFalling (second ∷ more)

pub record OneTransfer (ends : Ends) (w : World) : Type 0 where
  pub whole : ArriveWhole ends w
  pub once : (side : Side) → AreFalling (arrivals ends side w)
