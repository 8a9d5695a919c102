-- What a transcript tells one end of invocations and outcomes, where what it was shown is noted.
use Rattle.std.proofs.Common.{◌≡◌, refl, true, false, ◌∙◌, sym, ap, subst, ℕ, List, [], ◌∷◌, ◌++◌, append_assoc}
use Rattle.std.specs.Prelude.{◌≢◌, ℤ, Option, Some, None, flat_map}
use Rattle.std.specs.Ordering.{int_eq}
use Rattle.std.specs.List.{list_any, AllByRecursion}
use Rattle.std.proofs.lemmas.Bool.Decides.{Decides-int_eq}
use Rattle.asn1_types.specs.declared.value.Val.{Val}
use Rattle.osi_base.specs.declared.layer_words.Side.{Side}
use Rattle.end_model.specs.end_rules.Members.{IsIn}
use Rattle.dialogue.specs.Sides.{other}
use Rattle.stub_tables.specs.declared.tables.Tables.{Tables}
use Rattle.stub_tables.specs.Lookup.{operation_at}
use Rattle.dialogue.specs.declared.indication.Indication.{Indication}
use Rattle.dialogue.specs.declared.indication.Indication.TheVariants as indications
use Rattle.dialogue.specs.declared.event.Event.{Event}
use Rattle.dialogue.specs.declared.event.Entry.{Entry}
use Rattle.end_model.specs.end_rules.Invoking.{is_linked_to}
use Rattle.end_model.specs.end_rules.World.{World, Ends}
use Rattle.end_model.proofs.Numbered.{or-first, or-second}
use Rattle.outcome_laws.specs.Exchanges.{Asked, outcomes_in, AreDistinct}
use Rattle.outcome_laws.specs.Links.{IsAllowedLink, AreAllowedLinks, links_in}
use Rattle.run_laws.specs.Showing.{indications_at, EachCarryShows}
use Rattle.run_laws.specs.Outcomes.{Invocation, ToldOutcome, id_of, invoked_by, answered_by, invocations, answers, invocation_in, outcome_in, told_invocations, outcomes, IsAllowed, IsAnswer, Differ, AreOnce, IsLinkAllowed, OneOutcome}
use Rattle.association_runs.specs.Worlds.{Runs}
use Rattle.association_runs.proofs.Transcribed.{calls_at, calls-told, seen_at, seen-told}
use Rattle.association_runs.proofs.Noted.{IsMade, AreMade, made-of, AreNoted, IsPlain, ArePlain}

-- ---- what notes there are among what was shown

abbrev pub note_of : Indication → List Indication
note_of (indications.Invoked id place linked argument) = indications.Invoked id place linked argument ∷ []
note_of (indications.Result id value) = indications.Result id value ∷ []
note_of (indications.Error id place parameter) = indications.Error id place parameter ∷ []
note_of (indications.Rejected id problem) = indications.Rejected id problem ∷ []
note_of indication = []

abbrev pub notes_of : List Indication → List Indication
notes_of [] = []
notes_of (i ∷ shown) = note_of i ++ notes_of shown

pub notes-append : (xs ys : List Indication) → notes_of (xs ++ ys) ≡ notes_of xs ++ notes_of ys
notes-append [] ys = refl
notes-append (x ∷ xs) ys = ap (λ (l : List Indication). note_of x ++ l) (notes-append xs ys) ∙ sym (append_assoc (note_of x) (notes_of xs) (notes_of ys))

plain-note : (i : Indication) → IsPlain i → note_of i ≡ []
plain-note (indications.Invoked id place linked argument) h = absurd h
plain-note (indications.Result id value) h = absurd h
plain-note (indications.Error id place parameter) h = absurd h
plain-note (indications.Rejected id problem) h = absurd h
plain-note _ h = refl

pub plain-notes : (shown : List Indication) → ArePlain shown → notes_of shown ≡ []
plain-notes [] h = refl
plain-notes (i ∷ shown) h = ap (λ (l : List Indication). l ++ notes_of shown) (plain-note i h.0) ∙ plain-notes shown h.1

flat-append : {X : Type 0} (f : Indication → List X) (xs ys : List Indication) → flat_map f (xs ++ ys) ≡ flat_map f xs ++ flat_map f ys
flat-append {X} f [] ys = refl
flat-append {X} f (x ∷ xs) ys = ap (λ (l : List X). f x ++ l) (flat-append f xs ys) ∙ sym (append_assoc (f x) (flat_map f xs) (flat_map f ys))

-- what is read of notes alone
notes-flat : {X : Type 0} (f : Indication → List X) → ((i : Indication) → flat_map f (note_of i) ≡ f i) → (shown : List Indication) → flat_map f (notes_of shown) ≡ flat_map f shown
notes-flat f h [] = refl
notes-flat f h (i ∷ shown) = flat-append f (note_of i) (notes_of shown) ∙ (λ n. h i n ++ notes-flat f h shown n)

note-invocation : (i : Indication) → flat_map invocation_in (note_of i) ≡ invocation_in i
note-invocation (indications.Invoked id place linked argument) = refl
note-invocation _ = refl

pub note-outcome : (i : Indication) → flat_map outcome_in (note_of i) ≡ outcome_in i
note-outcome (indications.Result id value) = refl
note-outcome (indications.Error id place parameter) = refl
note-outcome (indications.Rejected id problem) = refl
note-outcome _ = refl

pub same-flat : {X : Type 0} (f : Indication → List X) → ((i : Indication) → flat_map f (note_of i) ≡ f i) → (seen shown : List Indication) → notes_of seen ≡ notes_of shown → flat_map f shown ≡ flat_map f seen
same-flat f h seen shown e = sym (notes-flat f h shown) ∙ ap (flat_map f) (sym e) ∙ notes-flat f h seen

-- ---- identifiers of invocations

abbrev invoked_in : Indication → List ℤ
invoked_in (indications.Invoked id place linked argument) = id ∷ []
invoked_in indication = []

abbrev pub invoked_ids : List Indication → List ℤ
invoked_ids [] = []
invoked_ids (i ∷ shown) = invoked_in i ++ invoked_ids shown

pub ids-append : (xs ys : List Indication) → invoked_ids (xs ++ ys) ≡ invoked_ids xs ++ invoked_ids ys
ids-append [] ys = refl
ids-append (x ∷ xs) ys = ap (λ (l : List ℤ). invoked_in x ++ l) (ids-append xs ys) ∙ sym (append_assoc (invoked_in x) (invoked_ids xs) (invoked_ids ys))

plain-id : (i : Indication) → IsPlain i → invoked_in i ≡ []
plain-id (indications.Invoked id place linked argument) h = absurd h
plain-id _ h = refl

pub plain-ids : (shown : List Indication) → ArePlain shown → invoked_ids shown ≡ []
plain-ids [] h = refl
plain-ids (i ∷ shown) h = ap (λ (l : List ℤ). l ++ invoked_ids shown) (plain-id i h.0) ∙ plain-ids shown h.1

abbrev pub IsFresh : ℤ → List ℤ → Type 0
IsFresh i [] = Unit {0}
IsFresh i (j ∷ js) = (j ≡ i → ⊥) × IsFresh i js

abbrev pub AreFresh : List ℤ → Type 0
AreFresh [] = Unit {0}
AreFresh (i ∷ is) = IsFresh i is × AreFresh is

-- ---- what one end is told

pub record TellsRightly (tables : Tables) (own made : List Invocation) (given : List ToldOutcome) (invoked : List Invocation) (outcomes : List ToldOutcome) : Type 0 where
  pub invoked_right : AllByRecursion (λ (i : Invocation). IsIn i made) invoked
  pub invoked_once : AreOnce invoked
  pub linked : AllByRecursion (IsLinkAllowed tables own) invoked
  pub once : Differ outcomes
  pub allowed : AllByRecursion (IsAllowed tables own) outcomes
  pub answered : AllByRecursion (IsAnswer given) outcomes

module _ (tables : Tables) (own made : List Invocation) (given : List ToldOutcome) where
  invoked-told : (shown : List Indication) → AreNoted tables own made given shown → AllByRecursion (λ (i : Invocation). IsIn i made) (flat_map invocation_in shown)
  invoked-told [] h = tt
  invoked-told (indications.Invoked id place linked argument ∷ shown) h = (h.0, invoked-told shown h.1)
  invoked-told (_ ∷ shown) h = invoked-told shown h.1

  allowed-told : (shown : List Indication) → AreNoted tables own made given shown → AllByRecursion (IsAllowed tables own) (flat_map outcome_in shown)
  allowed-told [] h = tt
  allowed-told (indications.Result id value ∷ shown) h = (h.0.1, allowed-told shown h.1)
  allowed-told (indications.Error id place parameter ∷ shown) h = (h.0.1, allowed-told shown h.1)
  allowed-told (indications.Rejected id problem ∷ shown) h = (h.0, allowed-told shown h.1)
  allowed-told (_ ∷ shown) h = allowed-told shown h.1

  answered-told : (shown : List Indication) → AreNoted tables own made given shown → AllByRecursion (IsAnswer given) (flat_map outcome_in shown)
  answered-told [] h = tt
  answered-told (indications.Result id value ∷ shown) h = (h.0.0, answered-told shown h.1)
  answered-told (indications.Error id place parameter ∷ shown) h = (h.0.0, answered-told shown h.1)
  answered-told (indications.Rejected id problem ∷ shown) h = (tt, answered-told shown h.1)
  answered-told (_ ∷ shown) h = answered-told shown h.1

  one-link : (asked : List Asked) → AreMade tables own asked → (id : ℤ) (place : ℕ) (linked : ℤ) (argument : Option Val) → IsAllowedLink tables asked (record { linked = linked; place = place }) → IsLinkAllowed tables own (record { id = id; operation = place; argument = argument; linked = Some linked })
  one-link asked m id place linked argument f =
      let x : IsMade tables own f.invocation = made-of tables own asked f.invocation m f.is_own in
      record {
        parent = x.invocation;
        is_made = x.is_made;
        is_its = x.same_id ∙ f.is_named;
        may_link = ap (λ (o : ℕ). is_linked_to (operation_at tables o) place) x.same_operation ∙ f.may_link;
      }

  links-told : (asked : List Asked) → AreMade tables own asked → (shown : List Indication) → AreAllowedLinks tables asked (links_in shown) → AllByRecursion (IsLinkAllowed tables own) (flat_map invocation_in shown)
  links-told asked m [] h = tt
  links-told asked m (indications.Invoked id place None argument ∷ shown) h = (tt, links-told asked m shown h)
  links-told asked m (indications.Invoked id place (Some linked) argument ∷ shown) h = (one-link asked m id place linked argument h.0, links-told asked m shown h.1)
  links-told asked m (_ ∷ shown) h = links-told asked m shown h

-- ---- at most once

differs : (i j : ℤ) → int_eq i j ≡ false → j ≢ i
differs i j h e = let same : int_eq i j ≡ true = (Decides-int_eq i j).1 (sym e) in absurd cc

apart-told : (i : ℤ) (shown : List Indication) → list_any (int_eq i) (outcomes_in shown) ≡ false → AllByRecursion (λ (p : ToldOutcome). id_of p ≢ i) (flat_map outcome_in shown)
apart-told i [] h = tt
apart-told i (indications.Result id value ∷ shown) h = (differs i id (or-first (int_eq i id) (list_any (int_eq i) (outcomes_in shown)) h), apart-told i shown (or-second (int_eq i id) (list_any (int_eq i) (outcomes_in shown)) h))
apart-told i (indications.Error id place parameter ∷ shown) h = (differs i id (or-first (int_eq i id) (list_any (int_eq i) (outcomes_in shown)) h), apart-told i shown (or-second (int_eq i id) (list_any (int_eq i) (outcomes_in shown)) h))
apart-told i (indications.Rejected id problem ∷ shown) h = (differs i id (or-first (int_eq i id) (list_any (int_eq i) (outcomes_in shown)) h), apart-told i shown (or-second (int_eq i id) (list_any (int_eq i) (outcomes_in shown)) h))
apart-told i (_ ∷ shown) h = apart-told i shown h

pub once-told : (shown : List Indication) → AreDistinct (outcomes_in shown) → Differ (flat_map outcome_in shown)
once-told [] h = tt
once-told (indications.Result id value ∷ shown) h = (apart-told id shown h.0, once-told shown h.1)
once-told (indications.Error id place parameter ∷ shown) h = (apart-told id shown h.0, once-told shown h.1)
once-told (indications.Rejected id problem ∷ shown) h = (apart-told id shown h.0, once-told shown h.1)
once-told (_ ∷ shown) h = once-told shown h

fresh-told : (i : ℤ) (shown : List Indication) → IsFresh i (invoked_ids shown) → AllByRecursion (λ (j : Invocation). j.id ≢ i) (flat_map invocation_in shown)
fresh-told i [] h = tt
fresh-told i (indications.Invoked id place linked argument ∷ shown) h = (h.0, fresh-told i shown h.1)
fresh-told i (_ ∷ shown) h = fresh-told i shown h

invoked-once : (shown : List Indication) → AreFresh (invoked_ids shown) → AreOnce (flat_map invocation_in shown)
invoked-once [] h = tt
invoked-once (indications.Invoked id place linked argument ∷ shown) h = (fresh-told id shown h.0, invoked-once shown h.1)
invoked-once (_ ∷ shown) h = invoked-once shown h

-- What one end was told, where it has these notes.
pub tells-rightly : (tables : Tables) (own made : List Invocation) (given : List ToldOutcome) (asked : List Asked) (seen shown : List Indication) → notes_of seen ≡ notes_of shown → AreMade tables own asked → AreNoted tables own made given shown → AreFresh (invoked_ids shown) → AreDistinct (outcomes_in shown) → AreAllowedLinks tables asked (links_in shown)
    → TellsRightly tables own made given (flat_map invocation_in seen) (flat_map outcome_in seen)
tells-rightly tables own made given asked seen shown e m n f d l =
    subst (λ (os : List ToldOutcome). TellsRightly tables own made given (flat_map invocation_in seen) os) (same-flat outcome_in note-outcome seen shown e)
    (subst (λ (is : List Invocation). TellsRightly tables own made given is (flat_map outcome_in shown)) (same-flat invocation_in note-invocation seen shown e)
    (record {
      invoked_right = invoked-told tables own made given shown n;
      invoked_once = invoked-once shown f;
      linked = links-told tables own made given asked m shown l;
      once = once-told shown d;
      allowed = allowed-told tables own made given shown n;
      answered = answered-told tables own made given shown n;
    }))

-- ---- the whole transcript

abbrev pub ToldRightly : Tables → Ends → World → Side → Type 0
ToldRightly tables ends w side =
    TellsRightly tables (calls_at invoked_by side w) (calls_at invoked_by (other side) w) (calls_at answered_by (other side) w) (flat_map invocation_in (seen_at ends side w)) (flat_map outcome_in (seen_at ends side w))

module _ (tables : Tables) (ends : Ends) (w : World) (all : List Event) (told : List Entry) (r : Runs ends [] all told w) (shows : EachCarryShows ends told w) (h : (side : Side) → ToldRightly tables ends w side) where
  by-side : (side : Side) → TellsRightly tables (invocations side told) (invocations (other side) told) (answers (other side) told) (told_invocations side told) (outcomes side told)
  by-side side =
      let seen : seen_at ends side w ≡ indications_at side told = sym (seen-told ends w all told r shows side) in
      subst (λ (l : List Indication). TellsRightly tables (invocations side told) (invocations (other side) told) (answers (other side) told) (flat_map invocation_in l) (flat_map outcome_in l)) seen
      (subst (λ (l : List Invocation). TellsRightly tables l (invocations (other side) told) (answers (other side) told) (flat_map invocation_in (seen_at ends side w)) (flat_map outcome_in (seen_at ends side w))) (calls-told invoked_by ends side w all told r)
      (subst (λ (l : List Invocation). TellsRightly tables (calls_at invoked_by side w) l (answers (other side) told) (flat_map invocation_in (seen_at ends side w)) (flat_map outcome_in (seen_at ends side w))) (calls-told invoked_by ends (other side) w all told r)
      (subst (λ (l : List ToldOutcome). TellsRightly tables (calls_at invoked_by side w) (calls_at invoked_by (other side) w) l (flat_map invocation_in (seen_at ends side w)) (flat_map outcome_in (seen_at ends side w))) (calls-told answered_by ends (other side) w all told r) (h side))))

  pub one-outcome : OneOutcome tables told
  one-outcome = record {
    invoked = λ side. (by-side side).invoked_right;
    invoked_once = λ side. (by-side side).invoked_once;
    linked = λ side. (by-side side).linked;
    once = λ side. (by-side side).once;
    allowed = λ side. (by-side side).allowed;
    answered = λ side. (by-side side).answered;
  }
