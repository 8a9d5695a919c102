-- An end took what came whole, and each carry shows it.
use Rattle.std.proofs.Common.{◌≡◌, refl, true, false, ◌∙◌, sym, ap, subst, ℕ, ◌+◌, List, [], ◌∷◌, ◌++◌, length, drop}
use Rattle.std.proofs.lemmas.List.{append-nil}
use Rattle.std.specs.Prelude.{Bool}
use Rattle.osi_base.specs.declared.layer_words.Side.{Side}
use Rattle.osi_base.specs.declared.layer_words.Side.TheVariants.{A, B}
use Rattle.dialogue.specs.Sides.{other}
use Rattle.dialogue.specs.Carries.{first_octets}
use Rattle.stub_tables.specs.declared.tables.Tables.{Tables}
use Rattle.stub_tables.specs.Readable.{IsReadable}
use Rattle.dialogue.specs.declared.config.Config.{Config}
use Rattle.dialogue.specs.declared.call.Call.{Call}
use Rattle.dialogue.specs.declared.event.Event.{Event}
use Rattle.dialogue.specs.declared.event.Entry.{Entry}
use Rattle.dialogue.specs.declared.event.Entry.TheVariants as entries
use Rattle.dialogue.specs.declared.indication.Indication.{Indication}
use Rattle.end_rules.specs.Base.{Base}
use Rattle.end_rules.specs.Messages.{Message}
use Rattle.end_rules.specs.State.{passes_over}
use Rattle.end_rules.specs.Calling.{can_call}
use Rattle.end_rules.specs.History.{Step, fed, gave, call_steps}
use Rattle.end_rules.specs.World.{World, Ends}
use Rattle.bare_end.specs.end_wire.Bare.{Short, first_at}
use Rattle.bare_end.specs.end_wire.Line.{End, after}
use Rattle.bare_end.specs.end_wire.Feeding.{Reads, passes, waits, takes, fails}
use Rattle.bare_end.specs.end_wire.Laws.{WrittenIsFirst, OneContent}
use Rattle.agreement.specs.Sets.Role.{Initiator, Responder}
use Rattle.end_model.specs.Seen.{Free}
use Rattle.end_model.specs.Acting.{ReadsBack}
use Rattle.end_model.specs.BothEnds.{base_at, WritesAll, BareModelled}
use Rattle.bare_duo.specs.Shows.{shown_all}
use Rattle.bare_duo.specs.Worlds.{end_at, stepping, Runs, rests, calls, carries, breaks}
use Rattle.run_laws.specs.Showing.{indications_at}
use Rattle.bare_duo.specs.Passing.{sent_by, taken_by}
use Rattle.bare_duo.specs.Carrying.{octets_given, whole_within, TakenWhenWhole, ShowsItsMessages, CarriesShow, EachCarryShows}
use Rattle.bare_duo.proofs.Flights.{AllSent, parts, written_all}
use Rattle.bare_duo.proofs.Counts.{taken_among}
use Rattle.bare_duo.proofs.Kept.{Way, View, pair, call_given, call_phase, own_over, peer_over, reads_so, peer_stays, peer_given_stays}
use Rattle.bare_duo.proofs.AllRuns.{base, ends, view_a, view_b, to_b, steps_a, steps_b, Kept, Added, first_kept, added_by_a, added_by_b, given_to_a, given_to_b, carry_to_a, carry_to_b, added_to_a, added_to_b, broken_world, added_by_break, then_added, runs_keep, first_some}

-- an end that is over is shown nothing
over-shows : (b : Base) (e : End) (steps : List Step) (shown : List Indication) → Reads b e steps shown → passes_over e.body.link.phase ≡ true → shown ≡ []
over-shows b e steps shown (passes o) over = refl
over-shows b e steps shown (waits up first) over = let k : false ≡ true = sym up ∙ over in cc
over-shows b e steps shown (takes used content body answers told up first is re next) over = let k : false ≡ true = sym up ∙ over in cc
over-shows b e steps shown (fails place up first) over = let k : false ≡ true = sym up ∙ over in cc

module _ (t : Tables) (ca cb : Config) (free : Free) (readable : IsReadable t) (writes : WritesAll free) (modelled : BareModelled) (first_law : WrittenIsFirst) (one_content : OneContent) (back : ReadsBack (base_at Initiator (pair t ca cb free readable writes modelled first_law one_content))) where
  abbrev base_i : Base
  base_i = base t ca cb free readable writes modelled first_law one_content back Initiator

  abbrev base_r : Base
  base_r = base t ca cb free readable writes modelled first_law one_content back Responder

  abbrev two_ends : Ends
  two_ends = ends t ca cb free readable writes modelled first_law one_content back

  abbrev Stands : World → Type 0
  Stands w = Kept t ca cb free readable writes modelled first_law one_content back w

  abbrev Adds : World → World → List Entry → Type 0
  Adds w v told = Added t ca cb free readable writes modelled first_law one_content back w v told

  abbrev see_a : World → View
  see_a w = view_a t ca cb free readable writes modelled first_law one_content back w

  abbrev see_b : World → View
  see_b w = view_b t ca cb free readable writes modelled first_law one_content back w

  -- ---- what came whole was taken

  way-taken : (over : Bool) (rest waiting : List ℕ) (given : ℕ) (s k c later : List Message) → Way t over rest waiting given s k c → over ≡ false → first_at rest ≡ Short → AllSent t later → whole_within t given (s ++ later) ≡ k
  way-taken over rest waiting given s k c later w up short more =
      let is : s ≡ k ++ c = w.kept ∙ ap (λ (ms : List Message). k ++ (ms ++ c)) (w.none_gone up) in
      ap (λ (ms : List Message). whole_within t given (ms ++ later)) is
      ∙ taken_among t readable first_law rest waiting given k c later short w.good more (w.octets up) (w.counted up ∙ ap (λ (ms : List Message). length (written_all t ms)) is)

  -- of what one end sent and what it sends later
  taken-now : (side : Side) (w : World) (later : List Message) → Stands w → passes_over (end_at two_ends (other side) w).body.link.phase ≡ false → AllSent t later → whole_within t (octets_given side w) (sent_by side w ++ later) ≡ taken_by (other side) w
  taken-now A w later k up more =
      let h = k.holds in
      way-taken (passes_over (end_at two_ends B w).body.link.phase) (end_at two_ends B w).line.rest (end_at two_ends A w).line.waiting (octets_given A w) (sent_by A w) (taken_by B w) h.two.to_b later h.from up (k.whole B up) more
  taken-now B w later k up more =
      let h = k.holds in
      way-taken (passes_over (end_at two_ends A w).body.link.phase) (end_at two_ends A w).line.rest (end_at two_ends B w).line.waiting (octets_given B w) (sent_by B w) (taken_by A w) h.two.to_a later h.to up (k.whole A up) more

  pub taken_whole : (w : World) → Stands w → TakenWhenWhole t two_ends w
  taken_whole w k side up = sym (taken-now side w [] k up tt) ∙ ap (whole_within t (octets_given side w)) (append-nil (sent_by side w))

  -- all that an end sent are messages of the module
  all-sent : (side : Side) (w : World) → Stands w → AllSent t (sent_by side w)
  all-sent A w k = k.holds.from.all
  all-sent B w k = k.holds.to.all

  abbrev out-of : (side : Side) (w v : World) (told : List Entry) → Adds w v told → List Message
  out-of A w v told x = x.out_a
  out-of B w v told x = x.out_b

  sent-out : (side : Side) (w v : World) (told : List Entry) (x : Adds w v told) → sent_by side v ≡ sent_by side w ++ out-of side w v told x
  sent-out A w v told x = x.sent_a
  sent-out B w v told x = x.sent_b

  -- of all that is sent in a run
  taken-of : (side : Side) (w v : World) (told : List Entry) → Stands w → Adds w v told → passes_over (end_at two_ends (other side) w).body.link.phase ≡ false → whole_within t (octets_given side w) (sent_by side v) ≡ taken_by (other side) w
  taken-of side w v told k x up =
      let e = sent-out side w v told x in
      let p = parts t (sent_by side w) (out-of side w v told x) (subst (AllSent t) e (all-sent side v x.kept)) in
      ap (whole_within t (octets_given side w)) e ∙ taken-now side w (out-of side w v told x) k up p.back

  -- ---- what an event leaves: so many octets were given out at one end, and the other is over or not as before

  record Went (side : Side) (w u : World) (given : ℕ) : Type 0 where
    given_is : octets_given side u ≡ given
    phase_is : passes_over (end_at two_ends (other side) u).body.link.phase ≡ passes_over (end_at two_ends (other side) w).body.link.phase

  abbrev called_a : World → Call → World
  called_a w call = stepping A w (call_steps base_i (end_at two_ends A w).body call)

  abbrev called_b : World → Call → World
  called_b w call = stepping B w (call_steps base_r (end_at two_ends B w).body call)

  call-a : (side : Side) (w : World) (call : Call) → Stands w → Went side w (called_a w call) (octets_given side w)
  call-a A w call k =
      let steps = call_steps base_i (end_at two_ends A w).body call in
      let is = steps_a t ca cb free readable writes modelled first_law one_content back w steps in
      record {
        given_is = ap (λ (x : View). x.own_given) is ∙ call_given t ca cb free readable writes modelled first_law one_content Initiator (see_a w) call (can_call base_i (end_at two_ends A w).body call);
        phase_is = ap (λ (x : View). passes_over x.peer.body.link.phase) is ∙ ap (λ (x : End). passes_over x.body.link.phase) (peer_stays base_i (see_a w) steps);
      }
  call-a B w call k =
      let steps = call_steps base_i (end_at two_ends A w).body call in
      let is = steps_a t ca cb free readable writes modelled first_law one_content back w steps in
      record {
        given_is = ap (λ (x : View). x.peer_given) is ∙ peer_given_stays base_i (see_a w) steps;
        phase_is = ap (λ (x : View). passes_over x.own.body.link.phase) is
            ∙ ap passes_over (call_phase t ca cb free readable writes modelled first_law one_content back Initiator (see_a w) call (can_call base_i (end_at two_ends A w).body call) k.holds refl);
      }

  call-b : (side : Side) (w : World) (call : Call) → Stands w → Went side w (called_b w call) (octets_given side w)
  call-b B w call k =
      let steps = call_steps base_r (end_at two_ends B w).body call in
      let is = steps_b t ca cb free readable writes modelled first_law one_content back w steps in
      record {
        given_is = ap (λ (x : View). x.own_given) is ∙ call_given t ca cb free readable writes modelled first_law one_content Responder (see_b w) call (can_call base_r (end_at two_ends B w).body call);
        phase_is = ap (λ (x : View). passes_over x.peer.body.link.phase) is ∙ ap (λ (x : End). passes_over x.body.link.phase) (peer_stays base_r (see_b w) steps);
      }
  call-b A w call k =
      let steps = call_steps base_r (end_at two_ends B w).body call in
      let is = steps_b t ca cb free readable writes modelled first_law one_content back w steps in
      record {
        given_is = ap (λ (x : View). x.peer_given) is ∙ peer_given_stays base_r (see_b w) steps;
        phase_is = ap (λ (x : View). passes_over x.own.body.link.phase) is
            ∙ ap passes_over (call_phase t ca cb free readable writes modelled first_law one_content back Responder (see_b w) call (can_call base_r (end_at two_ends B w).body call)
            (to_b t ca cb free readable writes modelled first_law one_content back w k.holds) refl);
      }

  -- ---- carries

  abbrev moved_b : World → List ℕ → World
  moved_b w octets = given_to_b t ca cb free readable writes modelled first_law one_content back w (length octets) octets

  abbrev moved_a : World → List ℕ → World
  moved_a w octets = given_to_a t ca cb free readable writes modelled first_law one_content back w (length octets) octets

  abbrev RestOf : List ℕ → List ℕ → Type 0
  RestOf all octets = all ≡ octets ++ drop (length octets) all

  carry-b : (side : Side) (w : World) (octets : List ℕ) (reading : List Step) (shown : List Indication) → Stands w → RestOf (end_at two_ends A w).line.waiting octets → Reads base_r (after base_r (end_at two_ends B w) (fed octets)) reading shown
      → (given : ℕ) → octets_given side (moved_b w octets) ≡ given → Went side w (stepping B (moved_b w octets) reading) given
  carry-b A w octets reading shown k e reads given g =
      let u : World = moved_b w octets in
      let is = steps_b t ca cb free readable writes modelled first_law one_content back u reading in
      let r = reads_so t ca cb free readable writes modelled first_law one_content back Responder (see_b u) (after base_r (end_at two_ends B w) (fed octets)) reading shown reads refl
      (carry_to_b t ca cb free readable writes modelled first_law one_content back w octets k e) in
      record {
        given_is = ap (λ (x : View). x.peer_given) is ∙ peer_given_stays base_r (see_b u) reading ∙ g;
        phase_is = ap (λ (x : View). passes_over x.own.body.link.phase) is ∙ ap passes_over r.phase_is;
      }
  carry-b B w octets reading shown k e reads given g =
      let u : World = moved_b w octets in
      let is = steps_b t ca cb free readable writes modelled first_law one_content back u reading in
      let r = reads_so t ca cb free readable writes modelled first_law one_content back Responder (see_b u) (after base_r (end_at two_ends B w) (fed octets)) reading shown reads refl
      (carry_to_b t ca cb free readable writes modelled first_law one_content back w octets k e) in
      record {
        given_is = ap (λ (x : View). x.own_given) is ∙ r.given_is ∙ g;
        phase_is = ap (λ (x : View). passes_over x.peer.body.link.phase) is ∙ ap (λ (x : End). passes_over x.body.link.phase) (peer_stays base_r (see_b u) reading);
      }

  carry-a : (side : Side) (w : World) (octets : List ℕ) (reading : List Step) (shown : List Indication) → Stands w → RestOf (end_at two_ends B w).line.waiting octets → Reads base_i (after base_i (end_at two_ends A w) (fed octets)) reading shown
      → (given : ℕ) → octets_given side (moved_a w octets) ≡ given → Went side w (stepping A (moved_a w octets) reading) given
  carry-a B w octets reading shown k e reads given g =
      let u : World = moved_a w octets in
      let is = steps_a t ca cb free readable writes modelled first_law one_content back u reading in
      let r = reads_so t ca cb free readable writes modelled first_law one_content back Initiator (see_a u) (after base_i (end_at two_ends A w) (fed octets)) reading shown reads refl
      (carry_to_a t ca cb free readable writes modelled first_law one_content back w octets k e) in
      record {
        given_is = ap (λ (x : View). x.peer_given) is ∙ peer_given_stays base_i (see_a u) reading ∙ g;
        phase_is = ap (λ (x : View). passes_over x.own.body.link.phase) is ∙ ap passes_over r.phase_is;
      }
  carry-a A w octets reading shown k e reads given g =
      let u : World = moved_a w octets in
      let is = steps_a t ca cb free readable writes modelled first_law one_content back u reading in
      let r = reads_so t ca cb free readable writes modelled first_law one_content back Initiator (see_a u) (after base_i (end_at two_ends A w) (fed octets)) reading shown reads refl
      (carry_to_a t ca cb free readable writes modelled first_law one_content back w octets k e) in
      record {
        given_is = ap (λ (x : View). x.own_given) is ∙ r.given_is ∙ g;
        phase_is = ap (λ (x : View). passes_over x.peer.body.link.phase) is ∙ ap (λ (x : End). passes_over x.body.link.phase) (peer_stays base_i (see_a u) reading);
      }

  -- what a carry showed is what came whole in it
  shows-its : (side : Side) (w u v : World) (octets : List ℕ) (shown : List Indication) (one later : List Entry) (new : List Message) → Stands w → Adds w v one → Stands u → Adds u v later
      → passes_over (end_at two_ends (other side) w).body.link.phase ≡ false → Went side w u (octets_given side w + length octets) → taken_by (other side) u ≡ taken_by (other side) w ++ new → shown ≡ shown_all t new
      → ShowsItsMessages t (sent_by side v) (octets_given side w) (record { octets = octets; shown = shown })
  shows-its side w u v octets shown one later new k x l y up went took shows =
      record {
        new = new;
        whole = ap (λ (n : ℕ). whole_within t n (sent_by side v)) (sym went.given_is) ∙ taken-of side u v later l y (went.phase_is ∙ up) ∙ took
            ∙ ap (λ (ms : List Message). ms ++ new) (sym (taken-of side w v one k x up));
        shown = shows;
      }

  -- ---- from an end that is over on nothing is shown

  both-over : (side : Side) (w : World) → Stands w → passes_over (end_at two_ends (other side) (broken_world t ca cb free readable writes modelled first_law one_content back w)).body.link.phase ≡ true
  both-over A w k = peer_over t ca cb free readable writes modelled first_law one_content back Initiator (see_a w) k.holds
  both-over B w k = own_over t ca cb free readable writes modelled first_law one_content back Initiator (see_a w) k.holds

  none-shown : (side : Side) (w v : World) (all : List Event) (told : List Entry) → Runs two_ends w all told v → Stands w → passes_over (end_at two_ends (other side) w).body.link.phase ≡ true → indications_at (other side) told ≡ []
  none-shown side w v all told rests k over = refl
  none-shown A w v all told (calls {more = more} {told = later} A call next) k over =
      none-shown A (called_a w call) v more later next (added_by_a t ca cb free readable writes modelled first_law one_content back w call k).kept ((call-a A w call k).phase_is ∙ over)
  none-shown B w v all told (calls {more = more} {told = later} A call next) k over =
      none-shown B (called_a w call) v more later next (added_by_a t ca cb free readable writes modelled first_law one_content back w call k).kept ((call-a B w call k).phase_is ∙ over)
  none-shown A w v all told (calls {more = more} {told = later} B call next) k over =
      none-shown A (called_b w call) v more later next (added_by_b t ca cb free readable writes modelled first_law one_content back w call k).kept ((call-b A w call k).phase_is ∙ over)
  none-shown B w v all told (calls {more = more} {told = later} B call next) k over =
      none-shown B (called_b w call) v more later next (added_by_b t ca cb free readable writes modelled first_law one_content back w call k).kept ((call-b B w call k).phase_is ∙ over)
  none-shown side w v all told (carries {more = more} {told = later} A most steps shown fd next) k over =
      let octets : List ℕ = first_octets most (end_at two_ends A w).line.waiting in
      let one = added_to_b t ca cb free readable writes modelled first_law one_content back w most octets fd.reading shown k (first_some most (end_at two_ends A w).line.waiting) fd.reads in
      let u : World = stepping B (moved_b w octets) fd.reading in
      let same : stepping B (record { side = A; step = gave (length octets) } ∷ w) steps ≡ u = ap (λ (xs : List Step). stepping B (record { side = A; step = gave (length octets) } ∷ w) xs) fd.all in
      let went = carry-b side w octets fd.reading shown k (first_some most (end_at two_ends A w).line.waiting) fd.reads (octets_given side (moved_b w octets)) refl in
      let rest = none-shown side (stepping B (record { side = A; step = gave (length octets) } ∷ w) steps) v more later next (subst Stands (sym same) one.kept)
      (ap (λ (x : World). passes_over (end_at two_ends (other side) x).body.link.phase) same ∙ went.phase_is ∙ over) in
      from-a side (over-shows base_r (after base_r (end_at two_ends B w) (fed octets)) fd.reading shown fd.reads) over rest
    where
      from-a : (side : Side) → (passes_over (end_at two_ends B w).body.link.phase ≡ true → shown ≡ []) → passes_over (end_at two_ends (other side) w).body.link.phase ≡ true → indications_at (other side) later ≡ []
          → indications_at (other side) (entries.Carry A most (record { octets = first_octets most (end_at two_ends A w).line.waiting; shown = shown }) ∷ later) ≡ []
      from-a A f o r = ap (λ (l : List Indication). l ++ indications_at B later) (f o) ∙ r
      from-a B f o r = r
  none-shown side w v all told (carries {more = more} {told = later} B most steps shown fd next) k over =
      let octets : List ℕ = first_octets most (end_at two_ends B w).line.waiting in
      let one = added_to_a t ca cb free readable writes modelled first_law one_content back w most octets fd.reading shown k (first_some most (end_at two_ends B w).line.waiting) fd.reads in
      let u : World = stepping A (moved_a w octets) fd.reading in
      let same : stepping A (record { side = B; step = gave (length octets) } ∷ w) steps ≡ u = ap (λ (xs : List Step). stepping A (record { side = B; step = gave (length octets) } ∷ w) xs) fd.all in
      let went = carry-a side w octets fd.reading shown k (first_some most (end_at two_ends B w).line.waiting) fd.reads (octets_given side (moved_a w octets)) refl in
      let rest = none-shown side (stepping A (record { side = B; step = gave (length octets) } ∷ w) steps) v more later next (subst Stands (sym same) one.kept)
      (ap (λ (x : World). passes_over (end_at two_ends (other side) x).body.link.phase) same ∙ went.phase_is ∙ over) in
      from-b side (over-shows base_i (after base_i (end_at two_ends A w) (fed octets)) fd.reading shown fd.reads) over rest
    where
      from-b : (side : Side) → (passes_over (end_at two_ends A w).body.link.phase ≡ true → shown ≡ []) → passes_over (end_at two_ends (other side) w).body.link.phase ≡ true → indications_at (other side) later ≡ []
          → indications_at (other side) (entries.Carry B most (record { octets = first_octets most (end_at two_ends B w).line.waiting; shown = shown }) ∷ later) ≡ []
      from-b B f o r = ap (λ (l : List Indication). l ++ indications_at A later) (f o) ∙ r
      from-b A f o r = r
  none-shown side w v all told (breaks {more = more} {told = later} next) k over =
      none-shown side (broken_world t ca cb free readable writes modelled first_law one_content back w) v more later next (added_by_break t ca cb free readable writes modelled first_law one_content back w k).kept (both-over side w k)

  -- ---- each carry shows what comes whole in it

  shows-on : (side : Side) (w v : World) (all : List Event) (told : List Entry) → Runs two_ends w all told v → Stands w → passes_over (end_at two_ends (other side) w).body.link.phase ≡ false
      → CarriesShow t side (sent_by side v) (octets_given side w) told
  shows-on side w v all told rests k up = tt
  shows-on A w v all told (calls {more = more} {told = later} A call next) k up =
      let went = call-a A w call k in
      subst (λ (n : ℕ). CarriesShow t A (sent_by A v) n later) went.given_is
      (shows-on A (called_a w call) v more later next (added_by_a t ca cb free readable writes modelled first_law one_content back w call k).kept (went.phase_is ∙ up))
  shows-on B w v all told (calls {more = more} {told = later} A call next) k up =
      let went = call-a B w call k in
      subst (λ (n : ℕ). CarriesShow t B (sent_by B v) n later) went.given_is
      (shows-on B (called_a w call) v more later next (added_by_a t ca cb free readable writes modelled first_law one_content back w call k).kept (went.phase_is ∙ up))
  shows-on A w v all told (calls {more = more} {told = later} B call next) k up =
      let went = call-b A w call k in
      subst (λ (n : ℕ). CarriesShow t A (sent_by A v) n later) went.given_is
      (shows-on A (called_b w call) v more later next (added_by_b t ca cb free readable writes modelled first_law one_content back w call k).kept (went.phase_is ∙ up))
  shows-on B w v all told (calls {more = more} {told = later} B call next) k up =
      let went = call-b B w call k in
      subst (λ (n : ℕ). CarriesShow t B (sent_by B v) n later) went.given_is
      (shows-on B (called_b w call) v more later next (added_by_b t ca cb free readable writes modelled first_law one_content back w call k).kept (went.phase_is ∙ up))
  shows-on A w v all told (carries {more = more} {told = later} A most steps shown fd next) k up =
      let octets : List ℕ = first_octets most (end_at two_ends A w).line.waiting in
      let some = first_some most (end_at two_ends A w).line.waiting in
      let one = added_to_b t ca cb free readable writes modelled first_law one_content back w most octets fd.reading shown k some fd.reads in
      let u : World = stepping B (moved_b w octets) fd.reading in
      let same : stepping B (record { side = A; step = gave (length octets) } ∷ w) steps ≡ u = ap (λ (xs : List Step). stepping B (record { side = A; step = gave (length octets) } ∷ w) xs) fd.all in
      let here : Runs two_ends u more later v = subst (λ (x : World). Runs two_ends x more later v) same next in
      let went = carry-b A w octets fd.reading shown k some fd.reads (octets_given A w + length octets) refl in
      let rest = runs_keep t ca cb free readable writes modelled first_law one_content back u v more later here one.kept in
      let whole = then_added t ca cb free readable writes modelled first_law one_content back w u v (entries.Carry A most (record { octets = octets; shown = shown }) ∷ []) later one rest in (
        shows-its A w u v octets shown (entries.Carry A most (record { octets = octets; shown = shown }) ∷ later) later one.new_b k whole one.kept rest up went one.took_b (sym (append-nil shown) ∙ one.shown_b),
        subst (λ (n : ℕ). CarriesShow t A (sent_by A v) n later) (ap (octets_given A) same ∙ went.given_is)
            (shows-on A (stepping B (record { side = A; step = gave (length octets) } ∷ w) steps) v more later next (subst Stands (sym same) one.kept) (ap (λ (x : World). passes_over (end_at two_ends B x).body.link.phase) same ∙ went.phase_is ∙ up)),
      )
  shows-on B w v all told (carries {more = more} {told = later} A most steps shown fd next) k up =
      let octets : List ℕ = first_octets most (end_at two_ends A w).line.waiting in
      let some = first_some most (end_at two_ends A w).line.waiting in
      let one = added_to_b t ca cb free readable writes modelled first_law one_content back w most octets fd.reading shown k some fd.reads in
      let u : World = stepping B (moved_b w octets) fd.reading in
      let same : stepping B (record { side = A; step = gave (length octets) } ∷ w) steps ≡ u = ap (λ (xs : List Step). stepping B (record { side = A; step = gave (length octets) } ∷ w) xs) fd.all in
      let went = carry-b B w octets fd.reading shown k some fd.reads (octets_given B w) refl in (
        tt,
        subst (λ (n : ℕ). CarriesShow t B (sent_by B v) n later) (ap (octets_given B) same ∙ went.given_is)
            (shows-on B (stepping B (record { side = A; step = gave (length octets) } ∷ w) steps) v more later next (subst Stands (sym same) one.kept) (ap (λ (x : World). passes_over (end_at two_ends A x).body.link.phase) same ∙ went.phase_is ∙ up)),
      )
  shows-on B w v all told (carries {more = more} {told = later} B most steps shown fd next) k up =
      let octets : List ℕ = first_octets most (end_at two_ends B w).line.waiting in
      let some = first_some most (end_at two_ends B w).line.waiting in
      let one = added_to_a t ca cb free readable writes modelled first_law one_content back w most octets fd.reading shown k some fd.reads in
      let u : World = stepping A (moved_a w octets) fd.reading in
      let same : stepping A (record { side = B; step = gave (length octets) } ∷ w) steps ≡ u = ap (λ (xs : List Step). stepping A (record { side = B; step = gave (length octets) } ∷ w) xs) fd.all in
      let here : Runs two_ends u more later v = subst (λ (x : World). Runs two_ends x more later v) same next in
      let went = carry-a B w octets fd.reading shown k some fd.reads (octets_given B w + length octets) refl in
      let rest = runs_keep t ca cb free readable writes modelled first_law one_content back u v more later here one.kept in
      let whole = then_added t ca cb free readable writes modelled first_law one_content back w u v (entries.Carry B most (record { octets = octets; shown = shown }) ∷ []) later one rest in (
        shows-its B w u v octets shown (entries.Carry B most (record { octets = octets; shown = shown }) ∷ later) later one.new_a k whole one.kept rest up went one.took_a (sym (append-nil shown) ∙ one.shown_a),
        subst (λ (n : ℕ). CarriesShow t B (sent_by B v) n later) (ap (octets_given B) same ∙ went.given_is)
            (shows-on B (stepping A (record { side = B; step = gave (length octets) } ∷ w) steps) v more later next (subst Stands (sym same) one.kept) (ap (λ (x : World). passes_over (end_at two_ends A x).body.link.phase) same ∙ went.phase_is ∙ up)),
      )
  shows-on A w v all told (carries {more = more} {told = later} B most steps shown fd next) k up =
      let octets : List ℕ = first_octets most (end_at two_ends B w).line.waiting in
      let some = first_some most (end_at two_ends B w).line.waiting in
      let one = added_to_a t ca cb free readable writes modelled first_law one_content back w most octets fd.reading shown k some fd.reads in
      let u : World = stepping A (moved_a w octets) fd.reading in
      let same : stepping A (record { side = B; step = gave (length octets) } ∷ w) steps ≡ u = ap (λ (xs : List Step). stepping A (record { side = B; step = gave (length octets) } ∷ w) xs) fd.all in
      let went = carry-a A w octets fd.reading shown k some fd.reads (octets_given A w) refl in (
        tt,
        subst (λ (n : ℕ). CarriesShow t A (sent_by A v) n later) (ap (octets_given A) same ∙ went.given_is)
            (shows-on A (stepping A (record { side = B; step = gave (length octets) } ∷ w) steps) v more later next (subst Stands (sym same) one.kept) (ap (λ (x : World). passes_over (end_at two_ends B x).body.link.phase) same ∙ went.phase_is ∙ up)),
      )
  shows-on side w v all told (breaks {more = more} {told = later} next) k up =
      none-shown side (broken_world t ca cb free readable writes modelled first_law one_content back w) v more later next (added_by_break t ca cb free readable writes modelled first_law one_content back w k).kept (both-over side w k)

  pub carries_show : (all : List Event) (told : List Entry) (w : World) → Runs two_ends [] all told w → EachCarryShows t told w
  carries_show all told w r side = go side
    where
      go : (side : Side) → CarriesShow t side (sent_by side w) 0 told
      go A = shows-on A [] w all told r (first_kept t ca cb free readable writes modelled first_law one_content back) refl
      go B = shows-on B [] w all told r (first_kept t ca cb free readable writes modelled first_law one_content back) refl
