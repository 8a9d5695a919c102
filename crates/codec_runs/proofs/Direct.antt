-- The laws of runs at two ends of direct mode.
use Rattle.std.proofs.Common.{◌≡◌, refl, sym, subst, List, []}
use Rattle.dialogue.specs.declared.config.Config.{Config}
use Rattle.dialogue.specs.declared.event.Event.{Event}
use Rattle.dialogue.specs.declared.event.Entry.{Entry}
use Rattle.stub_tables.specs.declared.tables.Tables.{Tables}
use Rattle.end_rules.specs.World.{World, Ends}
use Rattle.association_runs.specs.OwnExchanges.{own_at}
use Rattle.outcome_laws.specs.Exchanges.{AreDistinct, outcomes_in}
use Rattle.outcome_laws.specs.Outcomes.{AreAllowed, AreAnswers}
use Rattle.agreement.specs.Sets.Role.{Initiator, Responder}
use Rattle.osi_base.specs.declared.layer_words.Side.{Side}
use Rattle.osi_base.specs.declared.layer_words.Side.TheVariants.{A, B}
use Rattle.dialogue.specs.Sides.{other}
use Rattle.end_model.specs.BothEnds.{HasCodec}
use Rattle.end_rules.specs.Base.{Spellings}
use Rattle.end_laws.specs.end_wire.Values.{spellings_with}
use Rattle.end_model.specs.Acting.{ReadsBack}
use Rattle.end_model.specs.BothEnds.{base_at}
use Rattle.end_model.specs.DirectEnds.{ProposesRightly}
use Rattle.end_laws.specs.Codecs.{IsDirect}
use Rattle.end_laws.proofs.Premises.{direct-back, rightly}
use Rattle.transfer_laws.proofs.Configs.{identifiers-right}
use Rattle.said_words.specs.Laws.{ProposesContexts}
use Rattle.end_laws.specs.Laws.{DirectEndsTake, DirectTurnHasOneHolder}
use Rattle.association_worlds.specs.association_reading.Transfers.{association_spellings}
use Rattle.association_worlds.specs.Laws.{IsMeant, SaidIsMeant}
use Rattle.said_worlds.specs.Laws.{DirectIsSaid}
use Rattle.codec_runs.proofs.DirectSpoken.{reached, all-meant}
use Rattle.run_laws.specs.Passing.{TakenInPlace}
use Rattle.run_laws.specs.Showing.{EachCarryShows}
use Rattle.run_laws.specs.Laws.{AtEachMoment, NothingFails, OneHolder}
use Rattle.association_runs.specs.Worlds.{ends_of, Runs}
use Rattle.association_runs.specs.Sides.{ends_for}
use Rattle.association_runs.specs.Laws.{AreEvents, AreOneHolder, RunsTakeInPlace, RunsShowWhatIsTaken, RunsNeverFail, RunsHaveOneHolder, RunsTellOneOutcome, RunsTellAnswers, RunsLeaveNothingWhole, RunKeepsLaws}
use Rattle.counted_runs.specs.Laws.{RunsTakeWhatIsWhole}
use Rattle.codec_runs.proofs.DirectSent.{taken-as-sent}
use Rattle.codec_runs.proofs.DirectTold.{tell-rightly}
use Rattle.codec_runs.proofs.DirectAlive.{nothing-transferred, nobody-dead}
use Rattle.codec_runs.specs.DirectLaws.{transfers_of, ends_meant, AreDirect, DirectRunsTakeInPlace, DirectRunsShowWhatIsTaken, DirectRunsNeverFail, DirectRunsHaveOneHolder, DirectRunsTellOneOutcome, DirectRunsTellAnswers, DirectRunsKeepLaws}

module _ (tables : Tables) (a b : Config) (d : AreDirect tables a b) where
  same-ends : ends_for (ends_meant tables a b) ≡ ends_of tables a b
  same-ends = λ i. record {
    a = record { tables = tables; config = a; initiator = sym d.ends.initiator i; mode = sym d.ends.of_a.mode i; spellings = association_spellings tables };
    b = record { tables = tables; config = b; initiator = sym d.responder i; mode = sym d.ends.of_b.mode i; spellings = association_spellings tables };
  }

  -- what holds of runs of the one holds of runs of the other
  over : (Law : Ends → World → Type 0) → ((all : List Event) (told : List Entry) (w : World) → AreEvents all → Runs (ends_for (ends_meant tables a b)) [] all told w → Law (ends_for (ends_meant tables a b)) w)
      → (all : List Event) (told : List Entry) (w : World) → AreEvents all → Runs (ends_of tables a b) [] all told w → Law (ends_of tables a b) w
  over Law h = subst (λ (e : Ends). (all : List Event) (told : List Entry) (w : World) → AreEvents all → Runs e [] all told w → Law e w) same-ends h

  meant : SaidIsMeant → DirectEndsTake → HasCodec → DirectIsSaid → IsMeant (ends_meant tables a b)
  meant law take codec is_said = all-meant law take codec is_said tables (transfers_of tables) a b d.ends

  holder : HasCodec → DirectTurnHasOneHolder → AreOneHolder (ends_meant tables a b)
  holder codec one two ledger g = one codec.0 tables (transfers_of tables) a b codec.1 d.ends.module_s.readable (record { mode = d.ends.of_a.mode; accepted = d.ends.of_a.accepted }) two (reached tables (transfers_of tables) a b two ledger g)

pub take-in-place : RunsTakeInPlace → SaidIsMeant → DirectEndsTake → HasCodec → DirectIsSaid → DirectRunsTakeInPlace
take-in-place runs law take codec is_said tables a b d = over tables a b d (λ ends w. AtEachMoment (TakenInPlace ends) w) (runs (ends_meant tables a b) (meant tables a b d law take codec is_said))

pub show-what-is-taken : RunsShowWhatIsTaken → SaidIsMeant → DirectEndsTake → HasCodec → DirectIsSaid → DirectRunsShowWhatIsTaken
show-what-is-taken runs law take codec is_said tables a b d =
    subst (λ (e : Ends). (all : List Event) (told : List Entry) (w : World) → AreEvents all → Runs e [] all told w → EachCarryShows e told w) (same-ends tables a b d)
    (runs (ends_meant tables a b) (meant tables a b d law take codec is_said))

pub never-fail : RunsNeverFail → SaidIsMeant → DirectEndsTake → HasCodec → DirectIsSaid → DirectRunsNeverFail
never-fail runs law take codec is_said tables a b d = over tables a b d (λ ends w. NothingFails w) (runs (ends_meant tables a b) (meant tables a b d law take codec is_said))

pub have-one-holder : RunsHaveOneHolder → SaidIsMeant → DirectEndsTake → HasCodec → DirectIsSaid → DirectTurnHasOneHolder → DirectRunsHaveOneHolder
have-one-holder runs law take codec is_said one tables a b d =
    over tables a b d (λ ends w. AtEachMoment (OneHolder ends) w) (λ all told w typed r. runs (ends_meant tables a b) (meant tables a b d law take codec is_said) all told w typed r (holder tables a b d codec one))

pub tell-one : RunsTellOneOutcome → SaidIsMeant → DirectEndsTake → HasCodec → DirectIsSaid → DirectRunsTellOneOutcome
tell-one runs law take codec is_said tables a b d =
    over tables a b d (λ ends w. (side : Side) → AreDistinct (outcomes_in (own_at ends side w).shown) × AreAllowed ends.a.tables (own_at ends side w).asked (own_at ends side w).shown) go
  where
    go : (all : List Event) (told : List Entry) (w : World) → AreEvents all → Runs (ends_for (ends_meant tables a b)) [] all told w
        → (side : Side) → AreDistinct (outcomes_in (own_at (ends_for (ends_meant tables a b)) side w).shown) × AreAllowed tables (own_at (ends_for (ends_meant tables a b)) side w).asked (own_at (ends_for (ends_meant tables a b)) side w).shown
    go all told w typed r A = let o = runs (ends_meant tables a b) (meant tables a b d law take codec is_said) all told w typed r Initiator in (o.once, o.allowed)
    go all told w typed r B = let o = runs (ends_meant tables a b) (meant tables a b d law take codec is_said) all told w typed r Responder in (o.once, o.allowed)

pub tell-answers : RunsTellAnswers → SaidIsMeant → DirectEndsTake → HasCodec → DirectIsSaid → DirectRunsTellAnswers
tell-answers runs law take codec is_said tables a b d = over tables a b d (λ ends w. (side : Side) → AreAnswers ends.a.tables (own_at ends (other side) w).wrote (own_at ends side w).shown) go
  where
    go : (all : List Event) (told : List Entry) (w : World) → AreEvents all → Runs (ends_for (ends_meant tables a b)) [] all told w
        → (side : Side) → AreAnswers tables (own_at (ends_for (ends_meant tables a b)) (other side) w).wrote (own_at (ends_for (ends_meant tables a b)) side w).shown
    go all told w typed r A = runs (ends_meant tables a b) (meant tables a b d law take codec is_said) all told w typed r refl Initiator
    go all told w typed r B = runs (ends_meant tables a b) (meant tables a b d law take codec is_said) all told w typed r refl Responder

-- ---- all of them

module _ (tables : Tables) (a b : Config) (d : AreDirect tables a b) where
  abbrev spellings : Spellings
  spellings = spellings_with tables (transfers_of tables).octets (transfers_of tables).arrived

  direct : IsDirect a
  direct = record { mode = d.ends.of_a.mode; accepted = d.ends.of_a.accepted }

  back : ReadsBack (base_at Initiator (ends_meant tables a b))
  back = direct-back tables (transfers_of tables) a b d.ends.module_s.readable

  right : ProposesRightly (ends_meant tables a b)
  right = rightly tables (transfers_of tables) a b d.ends.module_s.readable direct

  contexts : ProposesContexts (ends_meant tables a b)
  contexts = identifiers-right a d.ends.of_a.accepted

pub keep-laws : RunsShowWhatIsTaken → RunsNeverFail → RunsHaveOneHolder → RunsTakeWhatIsWhole → RunsLeaveNothingWhole → SaidIsMeant → DirectEndsTake → HasCodec → DirectIsSaid → DirectTurnHasOneHolder → DirectRunsKeepLaws
keep-laws shows calm one_holder whole waits law take codec is_said one tables a b d =
    subst (λ (e : Ends). (all : List Event) (told : List Entry) (w : World) → AreEvents all → Runs e [] all told w → RunKeepsLaws tables e told w) (same-ends tables a b d) go
  where
    go : (all : List Event) (told : List Entry) (w : World) → AreEvents all → Runs (ends_for (ends_meant tables a b)) [] all told w → RunKeepsLaws tables (ends_for (ends_meant tables a b)) told w
    go all told w typed r =
        let m = meant tables a b d law take codec is_said in
        record {
          laws =
              record {
                taken_as_sent = taken-as-sent codec.0 tables (spellings tables a b d) a b codec.1 (back tables a b d) (right tables a b d) (contexts tables a b d) m w all told typed r;
                one_outcome = tell-rightly codec.0 tables (spellings tables a b d) a b codec.1 (back tables a b d) (right tables a b d) (contexts tables a b d) m w all told typed r;
                one_transfer = nothing-transferred codec.0 tables (spellings tables a b d) a b codec.1 (back tables a b d) (right tables a b d) (contexts tables a b d) m w all told typed r;
                nothing_fails = calm (ends_meant tables a b) m all told w typed r;
                nobody_is_dead = nobody-dead codec.0 tables (spellings tables a b d) a b codec.1 (back tables a b d) (right tables a b d) (contexts tables a b d) m w all told typed r;
                one_holder = one_holder (ends_meant tables a b) m all told w typed r (holder tables a b d codec one);
                carries_show = shows (ends_meant tables a b) m all told w typed r;
              };
          taken_when_whole = whole (ends_meant tables a b) m all told w typed r;
          nothing_whole_waits = waits (ends_for (ends_meant tables a b)) all told w r;
        }
