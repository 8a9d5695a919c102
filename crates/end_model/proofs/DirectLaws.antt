-- Two ends of direct mode: the run that goes with them, that neither aborts of itself, and that values are taken as sent.
use Rattle.std.proofs.Common.{◌≡◌, refl, true, false, ◌∙◌, sym, ap, subst, List, [], ◌∷◌, ◌⊎◌, inl}
use Rattle.std.proofs.Common.{inr}
use Rattle.std.specs.Prelude.{ℕ, Bool, not, ◌&&◌, Option, Some, None, option_map, if◌then◌else◌}
use Rattle.osi_base.specs.Syntax.{name_of}
use Rattle.osi_base.specs.declared.syntax.Pair.{Pair}
use Rattle.osi_base.specs.declared.syntax.Syntax.{Syntax}
use Rattle.osi_base.specs.declared.syntax.Syntax.TheVariants.{Ber, Der, Packed}
use Rattle.osi_base.specs.declared.layer_words.SetItem.{SetItem}
use Rattle.stub_tables.specs.declared.tables.Tables.{Tables}
use Rattle.dialogue.specs.declared.config.Config.{Config}
use Rattle.dialogue.specs.declared.config.Phase.TheVariants.{Over}
use Rattle.dialogue.specs.declared.indication.Indication.{Indication}
use Rattle.end_rules.specs.Base.{Base, Spellings, Item}
use Rattle.end_rules.specs.Messages.{Message, TransportUnit, Transport, Session, Word, value_of_item}
use Rattle.end_rules.specs.Messages.{AssociationWord, OfAssociation, OfData, Values, DataValue, unit_of}
use Rattle.end_rules.specs.State.{Body, Awaited, NoAnswer, RestartOf, InterruptOf, DiscardOf}
use Rattle.end_rules.specs.State.{ReleaseOf, is_up, is_restarting, holds_turn}
use Rattle.osi_base.specs.SetPlaces.{pair_of}
use Rattle.end_rules.specs.Purging.{is_purged}
use Rattle.end_rules.specs.Reacting.{Passes, Takes, react, on_word, word_fault}
use Rattle.end_rules.specs.World.{Shared}
use Rattle.agreement.specs.Sets.{Role, is_initiator, lookup, Pair as ModelPair}
use Rattle.agreement.specs.Sets.Role.{Initiator, Responder}
use Rattle.agreement.specs.Messages as model
use Rattle.agreement.specs.Messages.Message.{Data as model_data}
use Rattle.agreement.specs.Messages.Choice.{Nothing}
use Rattle.agreement.specs.State as states
use Rattle.agreement.specs.State.Phase.{Over as model_over}
use Rattle.agreement.specs.Takings.{is_purged as model_purged}
use Rattle.agreement.specs.Worlds.{Sending, World, ComesNext, state_of, flight_to}
use Rattle.agreement.specs.Laws.{HoldsTurn, IsNotRestarting}
use Rattle.agreement.proofs.Interface.{takes, laws}
use Rattle.end_model.specs.Seen.{Free, awaited_seen, pair_seen, set_seen, item_seen, seen}
use Rattle.end_model.specs.Acting.{ReadsBack}
use Rattle.end_model.specs.BothEnds.{Common, base_at, Two, body_at, coming_to, Reached, begins, calls}
use Rattle.end_model.specs.BothEnds.{takes as reached_takes, passes, fails, breaks, setup_of}
use Rattle.end_model.specs.BothEnds.{WritesAll}
use Rattle.end_model.specs.DirectEnds.{direct_common, ProposesRightly, DirectModelled, DirectTakes}
use Rattle.end_model.specs.DirectEnds.{DirectOneHolder}
use Rattle.end_model.specs.Sharing.{SetsSent, sets_to, none_sent, Shares, begins as shares_begin}
use Rattle.end_model.specs.Sharing.{calls as shares_call, takes as shares_take}
use Rattle.end_model.specs.Sharing.{passes as shares_pass, fails as shares_fail}
use Rattle.end_model.specs.Sharing.{breaks as shares_break, DirectAsSent}
use Rattle.end_model.proofs.Facts.{up-seen}
use Rattle.end_model.proofs.Fitting.{and-left as left, and-right as right}
use Rattle.end_model.proofs.Held.{lookup-seen}
use Rattle.end_model.proofs.Machine.{next-word}
use Rattle.end_model.proofs.Joint.{SetsOnWay}
use Rattle.agreement.proofs.Mail.{SamePair}
use Rattle.end_model.proofs.DirectWords.{OwnValues, AreOwn, Live, Stands, IsOver}
use Rattle.end_model.proofs.DirectTaking as taking
use Rattle.end_model.proofs.DirectTaking.{reacts-so}
use Rattle.end_model.proofs.DirectMachine as machine
use Rattle.end_model.proofs.DirectMachine.{Fresh, Calling, Confirming, Connecting, Accepting}
use Rattle.end_model.proofs.DirectMachine.{Refusing, Deaf, Gone, Standing}

-- ---- what is on its way has its sets

record NotEmpty (fs : List (List SetItem)) : Type 0 where
  first : List SetItem
  rest : List (List SetItem)
  is_it : fs ≡ first ∷ rest

not-empty : (message : Message) (left : List Message) (fs : List (List SetItem)) (flight : List Sending) → SetsOnWay (message ∷ left) fs flight → NotEmpty fs
not-empty (Transport unit) left [] flight s = absurd s
not-empty (Transport unit) left (f ∷ rest) flight s = record { first = f; rest = rest; is_it = refl }
not-empty (Session word) left [] flight s = absurd s
not-empty (Session word) left (f ∷ rest) flight s = record { first = f; rest = rest; is_it = refl }

-- ---- pairs

same-syntax : (s t : Syntax) → name_of s ≡ name_of t → s ≡ t
same-syntax Ber Ber e = refl
same-syntax Der Der e = refl
same-syntax Packed Packed e = refl
same-syntax Ber Der e = cc
same-syntax Ber Packed e = cc
same-syntax Der Ber e = cc
same-syntax Der Packed e = cc
same-syntax Packed Ber e = cc
same-syntax Packed Der e = cc

pub same-pair : (x y : Pair) → pair_seen x ≡ pair_seen y → x ≡ y
same-pair x y e =
    let names : x.abstract_name ≡ y.abstract_name = ap (λ (p : ModelPair). p.abstract_syntax) e in
    let syntaxes : x.transfer ≡ y.transfer = same-syntax x.transfer y.transfer (ap (λ (p : ModelPair). p.transfer_syntax) e) in
    λ i. record { abstract_name = names i; transfer = syntaxes i }

pub found-back : (set : List SetItem) (k : ℕ) (pair : Pair) → lookup (set_seen set) k ≡ Some (pair_seen pair) → pair_of set k ≡ Some pair
found-back set k pair h = go (pair_of set k) (sym (lookup-seen set k) ∙ h)
  where
    go : (p : Option Pair) → option_map pair_seen p ≡ Some (pair_seen pair) → p ≡ Some pair
    go None e = cc
    go (Some q) e = let same : pair_seen q ≡ pair_seen pair = cc in ap Some (same-pair q pair same)

module _ (free : Free) (tables : Tables) (spellings : Spellings) (a b : Config) where
  abbrev common : Common
  common = direct_common tables spellings a b

  abbrev base : Role → Base
  base = taking.base free tables spellings a b

  abbrev setup : model.ModelSetup
  setup = taking.setup free tables spellings a b

  abbrev Kept : Two → Shared → SetsSent → Type 0
  Kept = machine.Kept free tables spellings a b

  record SharedBy (two : Two) : Type 0 where
    shared : Shared
    sets : SetsSent
    shares : Shares common two shared sets

  sets-there : (two : Two) (shared : Shared) (sets : SetsSent) (role : Role) (message : Message) (left : List Message) → Kept two shared sets → coming_to role two ≡ message ∷ left → NotEmpty (sets_to role sets)
  sets-there two shared sets Initiator message left k e =
      not-empty message left sets.to_a (flight_to setup Initiator k.world) (subst (λ ms. SetsOnWay ms sets.to_a (flight_to setup Initiator k.world)) e k.joint.own_sets)
  sets-there two shared sets Responder message left k e =
      not-empty message left sets.to_b (flight_to setup Responder k.world) (subst (λ ms. SetsOnWay ms sets.to_b (flight_to setup Responder k.world)) e k.joint.peer_sets)

  shared-by : WritesAll free → ReadsBack (base Initiator) → ProposesRightly common → (two : Two) → Reached common two → SharedBy two
  shared-by writes back list two begins = record { shared = _; sets = none_sent; shares = shares_begin }
  shared-by writes back list two (calls x role call answer reached h) =
      let s = shared-by writes back list x reached in
      record { shared = _; sets = _; shares = shares_call x s.shared s.sets role call answer s.shares h }
  shared-by writes back list two (reached_takes x role message left body answers shown reached comes h) =
      let s = shared-by writes back list x reached in
      let n = sets-there x s.shared s.sets role message left (machine.all-kept free tables spellings a b writes back list x s.shared s.sets s.shares) comes in
      record { shared = _; sets = _; shares = shares_take x s.shared s.sets role message left n.first n.rest body answers shown s.shares comes n.is_it h }
  shared-by writes back list two (passes x role message left reached comes h) =
      let s = shared-by writes back list x reached in
      let n = sets-there x s.shared s.sets role message left (machine.all-kept free tables spellings a b writes back list x s.shared s.sets s.shares) comes in
      record { shared = _; sets = _; shares = shares_pass x s.shared s.sets role message left n.first n.rest s.shares comes n.is_it h }
  shared-by writes back list two (fails x role message left fault body aborts shown reached comes h) =
      let s = shared-by writes back list x reached in
      let n = sets-there x s.shared s.sets role message left (machine.all-kept free tables spellings a b writes back list x s.shared s.sets s.shares) comes in
      record { shared = _; sets = _; shares = shares_fail x s.shared s.sets role message left n.first n.rest fault body aborts shown s.shares comes n.is_it h }
  shared-by writes back list two (breaks x reached) =
      let s = shared-by writes back list x reached in
      record { shared = _; sets = none_sent; shares = shares_break x s.shared s.sets s.shares }

  kept-of : (writes : WritesAll free) (back : ReadsBack (base Initiator)) (list : ProposesRightly common) (two : Two) (reached : Reached common two) → Kept two (shared-by writes back list two reached).shared (shared-by writes back list two reached).sets
  kept-of writes back list two reached =
      let s = shared-by writes back list two reached in machine.all-kept free tables spellings a b writes back list two s.shared s.sets s.shares

  -- ---- a value that is taken

  abbrev Reacts : Two → Role → Message → Body → List Message → List Indication → Type 0
  Reacts two role message body answers shown = react (base role) (body_at role two) message ≡ Takes body answers shown

  over-takes : (two : Two) (role : Role) (message : Message) (body : Body) (answers : List Message) (shown : List Indication) → (body_at role two).link.phase ≡ Over → Reacts two role message body answers shown → ⊥
  over-takes two role message body answers shown over h =
      let no_take : Passes ≡ Takes body answers shown = sym (machine.over-passes free tables spellings a b role (body_at role two) message over) ∙ h in cc

  -- data are taken by an end whose association stands, and are of this product
  abbrev IsStanding : Body → List DataValue → Type 0
  IsStanding body values = Live body × OwnValues (base Initiator) values

  stands-a : (two : Two) (shared : Shared) (sets : SetsSent) (values : List DataValue) (left : List Message) (body : Body) (answers : List Message) (shown : List Indication) → Kept two shared sets → two.to_a ≡ Session (OfData (Values values)) ∷ left → Reacts two Initiator (Session (OfData (Values values))) body answers shown → IsStanding two.a values
  stands-a two shared sets values left body answers shown k comes h = go k.opened
    where
      none : two.to_a ≡ [] → ⊥
      none e = let same : [] ≡ Session (OfData (Values values)) ∷ left = sym e ∙ comes in cc

      a_unit : (unit : TransportUnit) (more : List Message) → two.to_a ≡ Transport unit ∷ more → ⊥
      a_unit unit more e = let same : Transport unit ∷ more ≡ Session (OfData (Values values)) ∷ left = sym e ∙ comes in cc

      of_association : (word : Word) (w : AssociationWord) (more : List Message) → word ≡ OfAssociation w → two.to_a ≡ Session word ∷ more → ⊥
      of_association word w more is e = let same : Session word ∷ more ≡ Session (OfData (Values values)) ∷ left = sym e ∙ comes in cc

      go : machine.Opened free tables spellings a b two.a two.b two.to_a two.to_b → IsStanding two.a values
      go (Fresh p q e f) = absurd (none e)
      go (Calling p q e f) = absurd (none e)
      go (Connecting p q e f) = absurd (none e)
      go (Confirming p q e f) = absurd (a_unit _ [] e)
      go (Accepting p word x more e own s) = absurd (of_association word _ more x.is_it e)
      go (Refusing p q word x e) = absurd (of_association word _ [] x.is_it e)
      go (Deaf q (inl x)) = absurd (a_unit _ [] x.1)
      go (Deaf q (inr x)) = absurd (none x.1)
      go (Gone p l) = absurd (over-takes two Initiator (Session (OfData (Values values))) body answers shown p h)
      go (Standing (Stands live own) s) = let o = subst (AreOwn (base Initiator)) comes own in (live, o.0)
      go (Standing (IsOver p) s) = absurd (over-takes two Initiator (Session (OfData (Values values))) body answers shown p h)

  stands-b : (two : Two) (shared : Shared) (sets : SetsSent) (values : List DataValue) (left : List Message) (body : Body) (answers : List Message) (shown : List Indication) → Kept two shared sets → two.to_b ≡ Session (OfData (Values values)) ∷ left → Reacts two Responder (Session (OfData (Values values))) body answers shown → IsStanding two.b values
  stands-b two shared sets values left body answers shown k comes h = go k.opened
    where
      none : two.to_b ≡ [] → ⊥
      none e = let same : [] ≡ Session (OfData (Values values)) ∷ left = sym e ∙ comes in cc

      a_unit : (unit : TransportUnit) (more : List Message) → two.to_b ≡ Transport unit ∷ more → ⊥
      a_unit unit more e = let same : Transport unit ∷ more ≡ Session (OfData (Values values)) ∷ left = sym e ∙ comes in cc

      of_association : (w : AssociationWord) (more : List Message) → two.to_b ≡ Session (OfAssociation w) ∷ more → ⊥
      of_association w more e = let same : Session (OfAssociation w) ∷ more ≡ Session (OfData (Values values)) ∷ left = sym e ∙ comes in cc

      over : two.b.link.phase ≡ Over → IsStanding two.b values
      over q = absurd (over-takes two Responder (Session (OfData (Values values))) body answers shown q h)

      go : machine.Opened free tables spellings a b two.a two.b two.to_a two.to_b → IsStanding two.b values
      go (Fresh p q e f) = absurd (none f)
      go (Calling p q e f) = absurd (a_unit _ [] f)
      go (Confirming p q e f) = absurd (none f)
      go (Connecting p q e f) = absurd (of_association _ [] f)
      go (Accepting p word x more e own (Stands live o)) = let c = subst (AreOwn (base Initiator)) comes o in (live, c.0)
      go (Accepting p word x more e own (IsOver q)) = over q
      go (Refusing p q word x e) = over q
      go (Deaf q x) = over q
      go (Gone p (inl x)) = idle x.1
        where
          idle : (two.to_b ≡ []) ⊎ (two.to_b ≡ machine.cr free tables spellings a b ∷ []) → IsStanding two.b values
          idle (inl f) = absurd (none f)
          idle (inr f) = absurd (a_unit _ [] f)
      go (Gone p (inr x)) = waiting x.1
        where
          waiting : (two.to_b ≡ []) ⊎ ((more : List Message) × (two.to_b ≡ machine.cn free tables spellings a b ∷ more) × AreOwn (base Initiator) more) → IsStanding two.b values
          waiting (inl f) = absurd (none f)
          waiting (inr w) = absurd (of_association _ w.0 w.1)
      go (Standing s (Stands live own)) = let o = subst (AreOwn (base Initiator)) comes own in (live, o.0)
      go (Standing s (IsOver q)) = over q

  -- what the model says of it
  value-as_sent : (world : World) (role : Role) (body : Body) (value : DataValue) (left : List Message) (peer : Body) (to_peer : List Message) (set : List SetItem) (rest gs : List (List SetItem)) (shared : Shared) (later : Body) (answers : List Message) (shown : List Indication) → taking.AreJoint free tables spellings a b world role body (Session (OfData (Values (value ∷ []))) ∷ left) peer to_peer (set ∷ rest) gs shared → IsStanding body (value ∷ []) → react (base role) body (Session (OfData (Values (value ∷ [])))) ≡ Takes later answers shown → (pair_of body.sets.held value.id ≡ value.pair) × (pair_of set value.id ≡ value.pair)
  value-as_sent world role body value left peer to_peer set rest gs shared later answers shown j stands h = go (is_purged (is_initiator role) body.link.awaits (unit_of (OfData (Values (value ∷ []))))) refl
    where
      head : List DataValue → DataValue
      head [] = value
      head (v ∷ vs) = v

      result : is_purged (is_initiator role) body.link.awaits (unit_of (OfData (Values (value ∷ [])))) ≡ false → (pair_of body.sets.held value.id ≡ value.pair) × (pair_of set value.id ≡ value.pair)
      result here =
          let n = next-word (taking.proposed free tables spellings a b) (base Initiator) (OfData (Values (value ∷ []))) left (flight_to setup role world) j.ends.own.flight in
          let item : Item = n.means.item in
          let v : model.Value = item_seen (base Initiator) item in
          let is : value ≡ value_of_item item = ap head n.means.is_one in
          let now = j.ends.own.state in
          let next : ComesNext (model_data v) (flight_to setup role world) = subst (ComesNext (model_data v)) (sym n.is_it) n.means.is_its in
          let alive_now : (state_of setup role world).phase ≡ model_over → ⊥ = λ e. taking.alive free tables spellings a b role body stands.0 (sym (ap (λ (x : states.State). x.phase) now) ∙ e) in
          let kept : model_purged role (seen (base role) body).awaits (model_data v) ≡ false =
          sym (taking.kept-as free tables spellings a b role body (OfData (Values (value ∷ []))) (model_data v) stands.1 (record { item = item; is_one = n.means.is_one; is_its = refl })) ∙ here in
          let kept_now : model_purged role (state_of setup role world).awaits (model_data v) ≡ false = ap (λ (x : states.State). model_purged role x.awaits (model_data v)) now ∙ kept in
          let t = takes setup world role (model_data v) Nothing j.ends.run next alive_now kept_now tt in
          let read : lookup (set_seen body.sets.held) item.id ≡ Some (pair_seen item.pair) = ap (λ (x : states.State). lookup x.sets.held item.id) (sym now) ∙ t.may.is_read in
          let same : lookup (state_of setup role world).sets.held item.id ≡ lookup n.first.shared item.id = subst (λ f. SamePair (state_of setup role world) f (model_data v)) n.is_it t.pair in
          let sets : (set_seen set ≡ n.first.shared) × SetsOnWay left rest n.rest = subst (SetsOnWay (Session (OfData (Values (value ∷ []))) ∷ left) (set ∷ rest)) n.is_it j.own_sets in
          let sent : lookup (set_seen set) item.id ≡ Some (pair_seen item.pair) = ap (λ s. lookup s item.id) sets.0 ∙ sym same ∙ t.may.is_read in
          subst (λ (x : DataValue). (pair_of body.sets.held x.id ≡ x.pair) × (pair_of set x.id ≡ x.pair)) (sym is)
          (found-back body.sets.held item.id item.pair read, found-back set item.id item.pair sent)

      go : (p : Bool) → is_purged (is_initiator role) body.link.awaits (unit_of (OfData (Values (value ∷ [])))) ≡ p → (pair_of body.sets.held value.id ≡ value.pair) × (pair_of set value.id ≡ value.pair)
      go false e = result e
      go true e =
          let no_take : Passes ≡ Takes later answers shown =
          sym (reacts-so (base role) body (OfData (Values (value ∷ []))) stands.0 ∙ ap (λ p. if p then Passes else on_word (base role) body (OfData (Values (value ∷ []))) (word_fault (base role) body (OfData (Values (value ∷ []))))) e) ∙ h in
          cc

  as-sent : (two : Two) (shared : Shared) (sets : SetsSent) (role : Role) (value : DataValue) (left : List Message) (set : List SetItem) (rest : List (List SetItem)) (body : Body) (answers : List Message) (shown : List Indication) → Kept two shared sets → coming_to role two ≡ Session (OfData (Values (value ∷ []))) ∷ left → sets_to role sets ≡ set ∷ rest → Reacts two role (Session (OfData (Values (value ∷ [])))) body answers shown → (pair_of (body_at role two).sets.held value.id ≡ value.pair) × (pair_of set value.id ≡ value.pair)
  as-sent two shared sets Initiator value left set rest body answers shown k comes e h =
      value-as_sent k.world Initiator two.a value left two.b two.to_b set rest sets.to_b shared body answers shown (machine.coming-a free tables spellings a b two shared sets k (Session (OfData (Values (value ∷ []))) ∷ left) (set ∷ rest) comes e) (stands-a two shared sets (value ∷ []) left body answers shown k comes h) h
  as-sent two shared sets Responder value left set rest body answers shown k comes e h =
      value-as_sent k.world Responder two.b value left two.a two.to_a set rest sets.to_a shared body answers shown (machine.coming-b free tables spellings a b two shared sets k (Session (OfData (Values (value ∷ []))) ∷ left) (set ∷ rest) comes e) (stands-b two shared sets (value ∷ []) left body answers shown k comes h) h

pub direct-as_sent : DirectAsSent
direct-as_sent free tables spellings a b writes back list two shared sets role value left set rest body answers shown shares comes e h =
    as-sent free tables spellings a b two shared sets role value left set rest body answers shown (machine.all-kept free tables spellings a b writes back list two shared sets shares) comes e h

pub direct-modelled : DirectModelled
direct-modelled free tables spellings a b writes back list two reached =
    let k = kept-of free tables spellings a b writes back list two reached in
    record { world = k.world; run = k.joint.ends.run; a = k.joint.ends.own; b = k.joint.ends.others }

pub direct-takes : DirectTakes
direct-takes free tables spellings a b writes back list two role message left fault body aborts shown reached comes h =
    let s = shared-by free tables spellings a b writes back list two reached in
    let k = kept-of free tables spellings a b writes back list two reached in
    let n = sets-there free tables spellings a b two s.shared s.sets role message left k comes in
    machine.never-fails free tables spellings a b two s.shared s.sets role message left n.rest fault body aborts shown
    (machine.handles free tables spellings a b two s.shared s.sets role message left n.first n.rest writes list k comes n.is_it) h

-- ---- who holds the turn

pub holds-so : (base : Base) (body : Body) → holds_turn body ≡ true → HoldsTurn (seen base body)
holds-so base body h = go body.link.turn refl body.link.awaits refl h
  where
    go : (turn : Bool) → body.link.turn ≡ turn → (awaited : Awaited) → body.link.awaits ≡ awaited → (turn && is_up body.link.phase && not (is_restarting awaited)) ≡ true → HoldsTurn (seen base body)
    go false e w f h = cc
    go true e NoAnswer f h = (e, up-seen body.link.stage body.link.phase (left (is_up body.link.phase) true h), subst (λ x. IsNotRestarting (awaited_seen x)) (sym f) tt)
    go true e (RestartOf number) f h = let none = right (is_up body.link.phase) false h in cc
    go true e InterruptOf f h = (e, up-seen body.link.stage body.link.phase (left (is_up body.link.phase) true h), subst (λ x. IsNotRestarting (awaited_seen x)) (sym f) tt)
    go true e DiscardOf f h = (e, up-seen body.link.stage body.link.phase (left (is_up body.link.phase) true h), subst (λ x. IsNotRestarting (awaited_seen x)) (sym f) tt)
    go true e ReleaseOf f h = (e, up-seen body.link.stage body.link.phase (left (is_up body.link.phase) true h), subst (λ x. IsNotRestarting (awaited_seen x)) (sym f) tt)

pub direct-one_holder : DirectOneHolder
direct-one_holder free tables spellings a b writes back list two reached x y =
    let k = kept-of free tables spellings a b writes back list two reached in
    let common : Common = direct_common tables spellings a b in
    (laws (setup_of free common)).one_holder k.world k.joint.ends.run
    (subst HoldsTurn (sym k.joint.ends.own.state) (holds-so (base_at Initiator common) two.a x))
    (subst HoldsTurn (sym k.joint.ends.others.state) (holds-so (base_at Responder common) two.b y))
