-- What arrives at the end of a transfer is the item that the other end encoded last.
use Rattle.std.proofs.Common.{◌≡◌, refl, true, false, ◌∙◌, sym, ap, subst, ℕ, List, [], ◌∷◌, map, ◌⊎◌, inl, inr}
use Rattle.std.specs.Prelude.{Bool, Option, Some, None, Ok, option_map, if◌then◌else◌}
use Rattle.osi_base.specs.declared.syntax.Pair.{Pair}
use Rattle.stub_tables.specs.declared.tables.Tables.{Tables}
use Rattle.end_model.specs.dialogue.declared.config.Config.{Config}
use Rattle.end_model.specs.dialogue.declared.config.Phase.TheVariants.{Broken, Over}
use Rattle.end_model.specs.dialogue.declared.indication.Indication.{Indication}
use Rattle.end_model.specs.end_rules.Base.{Base, Spellings, Item, Whole}
use Rattle.end_model.specs.end_rules.Messages.{Message, TransportUnit, AssociationWord, Transport, Session, Word, OfAssociation, OfActivities, End}
use Rattle.end_model.specs.end_rules.Messages.{unit_of}
use Rattle.end_model.specs.end_rules.State.{Body, Carrying}
use Rattle.osi_base.specs.SetPlaces.{pair_of}
use Rattle.end_model.specs.end_rules.Encodings.{Encoding, IsNewest}
use Rattle.end_model.specs.end_rules.Purging.{is_purged}
use Rattle.end_model.specs.end_rules.TakesActivities.{arrived_now}
use Rattle.end_model.specs.end_rules.Reacting.{Passes, Takes, react, on_word, word_fault}
use Rattle.agreement.specs.Sets.{Role, other, is_initiator}
use Rattle.agreement.specs.Sets.Role.{Initiator, Responder}
use Rattle.agreement.specs.Messages as model
use Rattle.agreement.specs.Messages.Choice.{Nothing}
use Rattle.agreement.specs.State as states
use Rattle.agreement.specs.Takings.{value_read, handed_up}
use Rattle.agreement.specs.Worlds.{World, state_of}
use Rattle.agreement.specs.Laws as model_laws
use Rattle.agreement.proofs.Interface.{laws}
use Rattle.end_model.specs.Seen.{Free, pair_seen, set_seen, item_seen, apdu_seen, incoming_seen}
use Rattle.end_model.specs.BothEnds.{Common, base_at, Two, body_at}
use Rattle.end_model.proofs.DirectLaws.{same-pair}
use Rattle.end_model.proofs.DirectOpening.{At}
use Rattle.end_model.specs.Acting.{ReadsBack}
use Rattle.reliable_model.specs.Codecs.{IsTransferable, IsPlaced, Carries}
use Rattle.reliable_model.specs.Ledgers.{transfer_log_of, Ledger}
use Rattle.reliable_model.specs.OwnRows.{encoding_seen}
use Rattle.reliable_model.specs.ReliableEnds.{reliable_common, IsFit}
use Rattle.reliable_model.specs.Transfers.{TakesTransferEnd}
use Rattle.reliable_model.proofs.Ledgers.{AreEncodable}
use Rattle.reliable_model.proofs.SameApdus.{apdus-same}
use Rattle.reliable_model.proofs.Words.{Live, Stands, IsOver}
use Rattle.reliable_model.proofs.Taking as taking
use Rattle.reliable_model.proofs.Taking.{reacts-so}
use Rattle.reliable_model.proofs.Calling as calling
use Rattle.reliable_model.proofs.Opening.{Way}
use Rattle.reliable_model.proofs.Machine as machine
use Rattle.reliable_model.proofs.Machine.{Resting, Calling, Confirming, Connecting, Accepting, Refusing, Deaf, Gone, Standing}
use Rattle.reliable_model.proofs.Machine.{DeafRest, DeafAsked, DeafCarrying, LeftIdle, LeftJoined, LeftBroken}
use Rattle.reliable_model.proofs.Phases.{OnlyAborts}

-- ---- encodings and items, from what the model sees of them

same-pairs : (x : Option Pair) (pair : Pair) → option_map pair_seen x ≡ Some (pair_seen pair) → x ≡ Some pair
same-pairs None pair e = cc
same-pairs (Some q) pair e = let s : pair_seen q ≡ pair_seen pair = cc in ap Some (same-pair q pair s)

one-encoding : (base : Base) (e : Encoding) (activity : ℕ) (item : Item) → ReadsBack base → IsTransferable base e.apdu → IsTransferable base item.apdu → encoding_seen base e ≡ record { activity = activity; apdu = apdu_seen base item.apdu; identifier = item.id; pair = Some (pair_seen item.pair) } → e ≡ record { activity = activity; id = item.id; pair = Some item.pair; apdu = item.apdu }
one-encoding base e activity item back t u is =
    let activities : e.activity ≡ activity = ap (λ (x : model_laws.Encoding). x.activity) is in
    let ids : e.id ≡ item.id = ap (λ (x : model_laws.Encoding). x.identifier) is in
    let pairs : e.pair ≡ Some item.pair = same-pairs e.pair item.pair (ap (λ (x : model_laws.Encoding). x.pair) is) in
    let apdus : e.apdu ≡ item.apdu = apdus-same base e.apdu item.apdu back t u (ap (λ (x : model_laws.Encoding). x.apdu) is) in
    λ i. record { activity = activities i; id = ids i; pair = pairs i; apdu = apdus i }

newest-so : (base : Base) (es : List Encoding) (activity : ℕ) (item : Item) → ReadsBack base → AreEncodable base es → IsTransferable base item.apdu → model_laws.IsNewest (record { activity = activity; apdu = apdu_seen base item.apdu; identifier = item.id; pair = Some (pair_seen item.pair) }) (map (encoding_seen base) es) → IsNewest (record { activity = activity; id = item.id; pair = Some item.pair; apdu = item.apdu }) es
newest-so base [] activity item back t u h = absurd h
newest-so base (e ∷ es) activity item back t u h = one-encoding base e activity item back t.0 u h

module _ (free : Free) (tables : Tables) (spellings : Spellings) (a b : Config) where
  abbrev common : Common
  common = reliable_common tables spellings a b

  abbrev base : Role → Base
  base role = base_at role common

  abbrev Kept : Two → Ledger → Type 0
  Kept = machine.Kept free tables spellings a b

  -- ---- the end of a transfer comes to an end whose association stands

  -- by an end that is over nothing is taken
  over-takes : (role : Role) (body : Body) (message : Message) (later : Body) (answers : List Message) (shown : List Indication) → body.link.phase ≡ Over → react (base role) body message ≡ Takes later answers shown → ⊥
  over-takes role body message later answers shown over h =
      let no_take : Passes ≡ Takes later answers shown = sym (machine.over-passes free tables spellings a b role body message over) ∙ h in cc

  none-coming : (word : Word) (left ms : List Message) → ms ≡ [] → ms ≡ Session word ∷ left → ⊥
  none-coming word left ms e f = let same : [] ≡ Session word ∷ left = sym e ∙ f in cc

  no-unit : (unit : TransportUnit) (more : List Message) (number : ℕ) (left ms : List Message) → ms ≡ Transport unit ∷ more → ms ≡ Session (OfActivities (End number)) ∷ left → ⊥
  no-unit unit more number left ms e f = let same : Transport unit ∷ more ≡ Session (OfActivities (End number)) ∷ left = sym e ∙ f in cc

  no-association : (w : AssociationWord) (more : List Message) (number : ℕ) (left ms : List Message) → ms ≡ Session (OfAssociation w) ∷ more → ms ≡ Session (OfActivities (End number)) ∷ left → ⊥
  no-association w more number left ms e f = let same : Session (OfAssociation w) ∷ more ≡ Session (OfActivities (End number)) ∷ left = sym e ∙ f in cc

  no-abort : (number : ℕ) (left ms : List Message) → ms ≡ Session (OfActivities (End number)) ∷ left → OnlyAborts ms → ⊥
  no-abort number left ms e h = subst OnlyAborts e h

  stands-a : (two : Two) (ledger : Ledger) → Kept two ledger → (e : TakesTransferEnd common two Initiator) → Live two.a
  stands-a two ledger k e = go k.opened
    where
      word : Word
      word = OfActivities (End e.number)

      none : two.to_a ≡ [] → Live two.a
      none f = absurd (none-coming word e.left two.to_a f e.comes)

      deaf : (way : Way) → machine.Deafened free tables spellings a b way two.a two.to_a → Live two.a
      deaf way (DeafRest at f) = none f
      deaf way (DeafAsked at (inl f)) = none f
      deaf way (DeafAsked at (inr f)) = absurd (no-unit _ [] e.number e.left two.to_a f e.comes)
      deaf way (DeafCarrying at f) = none f

      of_word : (w : Word) (x : AssociationWord) (more : List Message) → w ≡ OfAssociation x → two.to_a ≡ Session w ∷ more → Live two.a
      of_word w x more is f = absurd (no-association x more e.number e.left two.to_a (f ∙ ap (λ y. Session y ∷ more) is) e.comes)

      go : machine.Opened free tables spellings a b two.a two.b two.to_a two.to_b → Live two.a
      go (Resting way x y f g) = none f
      go (Calling way x y f g) = none f
      go (Confirming way x y f g) = absurd (no-unit _ [] e.number e.left two.to_a f e.comes)
      go (Connecting way x y f g) = none f
      go (Accepting way x w accept more f own s) = of_word w _ more accept.is_it f
      go (Refusing way x y w refusal f) = of_word w _ [] refusal.is_it f
      go (Deaf way q d) = deaf way d
      go (Gone q l) = absurd (over-takes Initiator two.a (Session word) e.body e.answers e.shown q e.taken)
      go (Standing (Stands live own) s) = live
      go (Standing (IsOver q) s) = absurd (over-takes Initiator two.a (Session word) e.body e.answers e.shown q e.taken)

  stands-b : (two : Two) (ledger : Ledger) → Kept two ledger → (e : TakesTransferEnd common two Responder) → Live two.b
  stands-b two ledger k e = go k.opened
    where
      word : Word
      word = OfActivities (End e.number)

      none : two.to_b ≡ [] → Live two.b
      none f = absurd (none-coming word e.left two.to_b f e.comes)

      over : two.b.link.phase ≡ Over → Live two.b
      over q = absurd (over-takes Responder two.b (Session word) e.body e.answers e.shown q e.taken)

      left : machine.Left free tables spellings a b two.b two.to_b → Live two.b
      left (LeftIdle way at (inl f)) = none f
      left (LeftIdle way at (inr f)) = absurd (no-unit _ [] e.number e.left two.to_b f e.comes)
      left (LeftJoined way at (inl f)) = none f
      left (LeftJoined way at (inr w)) = absurd (no-association _ w.0 e.number e.left two.to_b w.1 e.comes)
      left (LeftBroken at h) = absurd (no-abort e.number e.left two.to_b e.comes h)

      refusing : (two.b.link.phase ≡ Over) ⊎ (At Broken Carrying two.b × (two.to_b ≡ [])) → Live two.b
      refusing (inl q) = over q
      refusing (inr q) = none q.1

      go : machine.Opened free tables spellings a b two.a two.b two.to_a two.to_b → Live two.b
      go (Resting way x y f g) = none g
      go (Calling way x y f g) = absurd (no-unit _ [] e.number e.left two.to_b g e.comes)
      go (Confirming way x y f g) = none g
      go (Connecting way x y f g) = absurd (no-association _ [] e.number e.left two.to_b g e.comes)
      go (Accepting way x w accept more f own (Stands live o)) = live
      go (Accepting way x w accept more f own (IsOver q)) = over q
      go (Refusing way x y w refusal f) = refusing y
      go (Deaf way q d) = over q
      go (Gone q l) = left l
      go (Standing s (Stands live own)) = live
      go (Standing s (IsOver q)) = over q

  -- ---- what arrives

  pub record Whole_ (two : Two) (ledger : Ledger) (role : Role) : Type 0 where
    pub item : Item
    pub placed : IsPlaced (base role) item
    pub there : pair_of (body_at role two).sets.held item.id ≡ Some item.pair
    pub arrived : arrived_now (base role) (body_at role two) ≡ Ok (Whole item)
    pub encoded : IsNewest (record { activity = (body_at role two).receiving.last; id = item.id; pair = Some item.pair; apdu = item.apdu }) (transfer_log_of (other role) ledger.transfer_logs).encoded

  taken-kept : (role : Role) (body : Body) (number : ℕ) (later : Body) (answers : List Message) (shown : List Indication) → Live body → react (base role) body (Session (OfActivities (End number))) ≡ Takes later answers shown → is_purged (is_initiator role) body.link.awaits (unit_of (OfActivities (End number))) ≡ false
  taken-kept role body number later answers shown live h = go (is_purged (is_initiator role) body.link.awaits (unit_of (OfActivities (End number)))) refl
    where
      go : (p : Bool) → is_purged (is_initiator role) body.link.awaits (unit_of (OfActivities (End number))) ≡ p → is_purged (is_initiator role) body.link.awaits (unit_of (OfActivities (End number))) ≡ false
      go false e = e
      go true e =
          let no_take : Passes ≡ Takes later answers shown = sym (reacts-so (base role) body (OfActivities (End number)) live ∙ ap (λ p. if p then Passes else on_word (base role) body (OfActivities (End number)) (word_fault (base role) body (OfActivities (End number)))) e) ∙ h in
          cc

  whole : (world : World) (role : Role) (two : Two) (peer : Body) (to_peer : List Message) (ledger : Ledger) → Carries free (base Initiator) → IsFit common → (e : TakesTransferEnd common two role) → taking.AreJoint free tables spellings a b world role (body_at role two) (Session (OfActivities (End e.number)) ∷ e.left) peer to_peer ledger → Live (body_at role two) → Whole_ two ledger role
  whole world role two peer to_peer ledger carries fit e j live =
      let body : Body = body_at role two in
      let here = taken-kept role body e.number e.body e.answers e.shown live e.taken in
      let x = taking.at-end free tables spellings a b world role body e.number e.left peer to_peer ledger j live here in
      let r = taking.arrives free tables spellings a b role body (calling.spells-at free tables spellings a b role fit.spells) (calling.carries-at free tables spellings a b role carries) (x.may.is_read e.is_new) in
      let setup : model.ModelSetup = taking.setup free tables spellings a b in
      let up : handed_up setup (set_seen body.sets.held) (incoming_seen body.receiving) ≡ Some (item_seen (base role) r.item) = ap (λ w. if w then None else value_read setup (set_seen body.sets.held) (incoming_seen body.receiving)) e.is_new ∙ r.read in
      let now : handed_up setup (state_of setup role world).sets.held (state_of setup role world).incoming ≡ Some (item_seen (base role) r.item) = ap (λ (s : states.State). handed_up setup s.sets.held s.incoming) j.ends.own.state ∙ up in
      let n = (laws setup).whole world role e.number Nothing (item_seen (base role) r.item) x.run now in
      let d = j.transfer_logs (other role) in
      let last : (state_of setup role world).incoming.last ≡ body.receiving.last = ap (λ (s : states.State). s.incoming.last) j.ends.own.state in
      let theirs : model_laws.IsNewest (record { activity = body.receiving.last; apdu = apdu_seen (base Initiator) r.item.apdu; identifier = r.item.id; pair = Some (pair_seen r.item.pair) }) (map (encoding_seen (base Initiator)) (transfer_log_of (other role) ledger.transfer_logs).encoded) =
      subst (model_laws.IsNewest (record { activity = body.receiving.last; apdu = apdu_seen (base Initiator) r.item.apdu; identifier = r.item.id; pair = Some (pair_seen r.item.pair) })) (sym d.encoded)
      (subst (λ k. model_laws.IsNewest (record { activity = k; apdu = apdu_seen (base Initiator) r.item.apdu; identifier = r.item.id; pair = Some (pair_seen r.item.pair) }) (model_laws.encodings setup (other role) world)) last n) in
      record {
        item = r.item;
        placed = r.placed;
        there = r.there;
        arrived = r.arrived;
        encoded = newest-so (base Initiator) (transfer_log_of (other role) ledger.transfer_logs).encoded body.receiving.last r.item fit.reads d.encodings (calling.transferable-at free tables spellings a b role r.item.apdu r.transferable) theirs;
      }

  pub whole-at : (two : Two) (ledger : Ledger) (role : Role) → Carries free (base Initiator) → IsFit common → Kept two ledger → TakesTransferEnd common two role → Whole_ two ledger role
  whole-at two ledger Initiator carries fit k e =
      whole k.world Initiator two two.b two.to_b ledger carries fit e (machine.coming-a free tables spellings a b two ledger k (Session (OfActivities (End e.number)) ∷ e.left) e.comes) (stands-a two ledger k e)
  whole-at two ledger Responder carries fit k e =
      whole k.world Responder two two.a two.to_a ledger carries fit e (machine.coming-b free tables spellings a b two ledger k (Session (OfActivities (End e.number)) ∷ e.left) e.comes) (stands-b two ledger k e)
