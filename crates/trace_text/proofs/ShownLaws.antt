-- What is shown of a direction as its octets come.
use Rattle.std.proofs.Common.{◌≡◌, ℕ, Bool, true, false, List, [], ◌∷◌, ◌++◌, length, drop, Option, Some, None, Result, Ok, Err, OnOk, refl, sym, ap, subst, ◌∙◌, append_assoc}
use Rattle.std.specs.Prelude.{flat_map}
use Rattle.std.proofs.lemmas.List.{append-nil}
use Rattle.std.proofs.Math.Seq.{drop-append_seam, drop-length}
use Rattle.osi_base.specs.declared.layer_words.Side.{Side}
use Rattle.osi_base.specs.declared.layer_words.Side.TheVariants.{A, B}
use Rattle.stub_tables.specs.declared.tables.Tables.{Tables}
use Rattle.tpkt.specs.declared.reader_state.ReaderState.{ReaderState}
use Rattle.tpkt.specs.declared.packet.Packet.{Packet}
use Rattle.tpkt.specs.declared.packet.TFault.{TFault}
use Rattle.tpkt.specs.declared.packet.TFed.{TFed}
use Rattle.tpkt.specs.Reader.{ReaderProgress, reading, nothing, IsFed}
use Rattle.tpkt.specs.Stream.{HasRead}
use Rattle.tpkt.proofs.ReaderLaws.{after_fault}
use Rattle.tpkt.proofs.StreamLaws.{any_cut}
use Rattle.trace_text.specs.declared.direction.Direction.{Direction}
use Rattle.trace_text.specs.declared.direction.Directions as boths
use Rattle.trace_text.specs.Directions.{AllSaid, Shows}
use Rattle.trace_file.specs.declared.reading.Recorded.{Recorded}
use Rattle.trace_text.specs.Trace.{Sent, nothing_sent, line_from, sent_more, ShowsWith, TraceBehind, TraceTextOf}
use Rattle.trace_text.specs.ShownSoFar.{AllPut, GoesOn, StandsIf, StandsFor, ShownWith, BothStand, RecordShown}
use Rattle.trace_text.proofs.SaidLaws.{join, no_fault, stays}

abbrev Texts : Type 0
Texts = List (List ℕ)

abbrev of_fed : List Packet → ReaderState → ReaderProgress
of_fed packets held = record { packets = packets; held = held }

-- what is shown of a stream, by what its reader made of it
shows_as : (tables : Tables) (sent : List ℕ) (fed : ReaderProgress) (over : Bool) (shown : Texts) → reading nothing sent ≡ fed → AllSaid tables fed.packets fed.held.fault over shown → Shows tables sent shown
shows_as tables sent fed over shown e h = (over, subst (λ (f : ReaderProgress). AllSaid tables f.packets f.held.fault over shown) (sym e) h)

-- ---- a direction stands at its beginning

pub begins : (tables : Tables) (reader : Option ReaderState) → reader ≡ Some nothing → HasRead [] [] reader → GoesOn tables [] [] reader
begins tables reader e h = record {
  packets = [];
  held = nothing;
  is = e;
  read = subst (λ (r : Option ReaderState). HasRead [] [] r) e h;
  right = refl;
  said = (refl, refl);
}

-- ---- what stands is shown

goes_shown : (tables : Tables) (sent : List ℕ) (shown : Texts) (reader : Option ReaderState) → GoesOn tables sent shown reader → Shows tables sent shown
goes_shown tables sent shown reader g =
    shows_as tables sent (of_fed g.packets g.held) false shown g.read (subst (λ (x : Option TFault). AllSaid tables g.packets x false shown) (sym g.right) g.said)

stands_shown : (tables : Tables) (sent : List ℕ) (shown : Texts) (over : Bool) (reader : Option ReaderState) → StandsIf over tables sent shown reader → Shows tables sent shown
stands_shown tables sent shown true reader h = subst (λ (l : List ℕ). Shows tables l shown) (append-nil sent) (h [])
stands_shown tables sent shown false reader h = goes_shown tables sent shown reader h

-- ---- behind a fault

stays_over : (tables : Tables) (sent octets : List ℕ) (shown : Texts) → ((more : List ℕ) → Shows tables (sent ++ more) shown) → (more : List ℕ) → Shows tables ((sent ++ octets) ++ more) shown
stays_over tables sent octets shown h more = subst (λ (l : List ℕ). Shows tables l shown) (sym (append_assoc sent octets more)) (h (octets ++ more))

pub over_shown : (tables : Tables) (from : Side) (sent octets text : List ℕ) (direction : Direction) → direction.is_over ≡ true → StandsFor tables sent direction → ShownWith tables from sent octets direction text text
over_shown tables from sent octets text direction e s =
    let shown = s.0 in
    let h : (more : List ℕ) → Shows tables (sent ++ more) shown = subst (λ (b : Bool). StandsIf b tables sent shown direction.reader) e s.1 in
    let after : StandsIf direction.is_over tables (sent ++ octets) shown direction.reader =
    subst (λ (b : Bool). StandsIf b tables (sent ++ octets) shown direction.reader) (sym e) (stays_over tables sent octets shown h) in
    let none : [] ≡ flat_map (line_from from) (drop (length shown) shown) = sym (ap (λ (l : Texts). flat_map (line_from from) l) (drop-length shown)) in
    ((shown, after), ([], (shown, shown, stands_shown tables sent shown direction.is_over direction.reader s.1, h octets, none), sym (append-nil text)))

-- ---- a feed

-- what was held at the fault of a stream stays as it is
follows_fault : (held : ReaderState) (fault : TFault) (more : List ℕ) → held.fault ≡ Some fault → reading held more ≡ of_fed [] held
follows_fault held fault more e = after_fault (of_fed [] held) fault more e

abbrev later : List Packet → ReaderState → List ℕ → ReaderProgress
later packets held more = of_fed (packets ++ (reading held more).packets) (reading held more).held

read_on : (sent more : List ℕ) (packets : List Packet) (held : ReaderState) → reading nothing sent ≡ of_fed packets held → reading nothing (sent ++ more) ≡ later packets held more
read_on sent more packets held e = any_cut nothing sent more ∙ ap (λ (f : ReaderProgress). later f.packets f.held more) e

-- what is over by its packets or by the fault of its stream is shown so, whatever follows
whatever_follows : (tables : Tables) (sent : List ℕ) (packets : List Packet) (held : ReaderState) (fault : Option TFault) (shown : Texts) → held.fault ≡ fault → reading nothing sent ≡ of_fed packets held
    → AllSaid tables packets fault true shown → (more : List ℕ) → Shows tables (sent ++ more) shown
whatever_follows tables sent packets held None shown e r h more =
    shows_as tables (sent ++ more) (later packets held more) true shown (read_on sent more packets held r)
    (stays tables packets (reading held more).packets None (reading held more).held.fault shown tt h)
whatever_follows tables sent packets held (Some fault) shown e r h more =
    let f = follows_fault held fault more e in
    shows_as tables (sent ++ more) (later packets held more) true shown (read_on sent more packets held r)
    (stays tables packets (reading held more).packets (Some fault) (reading held more).held.fault shown (ap (λ (x : ReaderProgress). x.packets) f, ap (λ (x : ReaderProgress). x.held.fault) f ∙ e) h)

-- what a feed made of a reader that held something
abbrev FedTo : List ℕ → List Packet → ReaderState → Option TFault → Option ReaderState → Type 0
FedTo sent packets held fault reader = (reader ≡ Some held) × HasRead sent packets (Some held) × (held.fault ≡ fault)

fed_to : (sent octets : List ℕ) (packets : List Packet) (held : ReaderState) (fed : TFed) (reader : Option ReaderState) → IsFed (Some held) octets fed reader
    → HasRead (sent ++ octets) (packets ++ fed.packets) reader → (now : ReaderState) × FedTo (sent ++ octets) (packets ++ fed.packets) now fed.fault reader
fed_to sent octets packets held fed None i h = absurd i
fed_to sent octets packets held fed (Some now) i h = (now, (refl, h, sym i.1))

stands_after : (tables : Tables) (sent : List ℕ) (packets : List Packet) (held : ReaderState) (fault : Option TFault) (reader : Option ReaderState) (over : Bool) (shown : Texts)
    → FedTo sent packets held fault reader → AllSaid tables packets fault over shown → StandsIf over tables sent shown reader
stands_after tables sent packets held fault reader true shown f h = whatever_follows tables sent packets held fault shown f.2 f.1 h
stands_after tables sent packets held fault reader false shown f h =
    let none = no_fault tables packets fault shown h in
    record {
      packets = packets;
      held = held;
      is = f.0;
      read = f.1;
      right = f.2 ∙ none;
      said = subst (λ (x : Option TFault). AllSaid tables packets x false shown) none h;
    }

shown_behind : (tables : Tables) (from : Side) (sent octets : List ℕ) (shown more : Texts) (before after : List ℕ) → Shows tables sent shown → Shows tables (sent ++ octets) (shown ++ more)
    → after ≡ before ++ flat_map (line_from from) more → (text : List ℕ) × ShowsWith tables from sent octets text × (after ≡ before ++ text)
shown_behind tables from sent octets shown more before after s t e =
    (flat_map (line_from from) more, (shown, shown ++ more, s, t, sym (ap (λ (l : Texts). flat_map (line_from from) l) (drop-append_seam shown more))), e)

abbrev Feeds : List ℕ → List ℕ → TFed → Option ReaderState → Option ReaderState → Type 0
Feeds sent octets fed old new = (given : List Packet) → HasRead sent given old → HasRead (sent ++ octets) (given ++ fed.packets) new

fed_shown_if : (tables : Tables) (from : Side) (sent octets : List ℕ) (old new : Option ReaderState) (fed : TFed) (over : Bool) (before after : List ℕ) (shown : Texts)
    → GoesOn tables sent shown old → IsFed old octets fed new → Feeds sent octets fed old new → AllPut tables from fed.packets fed.fault over before after
    → ShownWith tables from sent octets (record { reader = new; is_over = over }) before after
fed_shown_if tables from sent octets old new fed over before after shown g i f p =
    let held_now = fed_to sent octets g.packets g.held fed new (subst (λ (r : Option ReaderState). IsFed r octets fed new) g.is i)
    (f g.packets (subst (λ (r : Option ReaderState). HasRead sent g.packets r) (sym g.is) g.read)) in
    let said = join tables g.packets fed.packets fed.fault over shown p.0 g.said p.1 in
    let stands = stands_after tables (sent ++ octets) (g.packets ++ fed.packets) held_now.0 fed.fault new over (shown ++ p.0) held_now.1 said in (
      (shown ++ p.0, stands),
      shown_behind tables from sent octets shown p.0 before after (goes_shown tables sent shown old g) (stands_shown tables (sent ++ octets) (shown ++ p.0) over new stands) p.2,
    )

pub fed_shown : (tables : Tables) (from : Side) (sent octets : List ℕ) (direction : Direction) (new : Option ReaderState) (fed : TFed) (over : Bool) (before after : List ℕ)
    → direction.is_over ≡ false → StandsFor tables sent direction → IsFed direction.reader octets fed new → Feeds sent octets fed direction.reader new
    → AllPut tables from fed.packets fed.fault over before after → ShownWith tables from sent octets (record { reader = new; is_over = over }) before after
fed_shown tables from sent octets direction new fed over before after e s i f p =
    fed_shown_if tables from sent octets direction.reader new fed over before after s.0 (subst (λ (b : Bool). StandsIf b tables sent s.0 direction.reader) e s.1) i f p

-- ---- both directions

pub a_shown : (tables : Tables) (octets : List ℕ) (sent : Sent) (a : Direction) (old : boths.Directions) (before after : List ℕ) → BothStand tables sent old
    → ShownWith tables A sent.a octets a before after → RecordShown tables A octets sent (record old { a = a }) before after
a_shown tables octets sent a old before after s h = ((h.0, s.1), h.1)

pub b_shown : (tables : Tables) (octets : List ℕ) (sent : Sent) (b : Direction) (old : boths.Directions) (before after : List ℕ) → BothStand tables sent old
    → ShownWith tables B sent.b octets b before after → RecordShown tables B octets sent (record old { b = b }) before after
b_shown tables octets sent b old before after s h = ((s.0, h.0), h.1)

-- ---- records, one after the other

record_first : (tables : Tables) (rest more : List Recorded) (one : Recorded) (sent : Sent) (directions : boths.Directions) (before mid later : List ℕ) → rest ≡ one ∷ more
    → RecordShown tables one.from one.octets sent directions before mid → TraceBehind tables (sent_more one.from one.octets sent) more later
    → (text : List ℕ) × TraceBehind tables sent rest text × (before ++ text ≡ mid ++ later)
record_first tables rest more one sent directions before mid later e p q = (
  p.1.0 ++ later,
  subst (λ (l : List Recorded). TraceBehind tables sent l (p.1.0 ++ later)) (sym e) (p.1.0, later, p.1.1, q, refl),
  sym (ap (λ (l : List ℕ). l ++ later) p.1.2 ∙ append_assoc before p.1.0 later),
)

pub next_record : (tables : Tables) (told rest more : List Recorded) (one : Recorded) (old new : boths.Directions) (before mid : List ℕ) → rest ≡ one ∷ more
    → ((sent : Sent) → BothStand tables sent old → RecordShown tables one.from one.octets sent new before mid)
    → (sent : Sent) × BothStand tables sent old × ((more : List ℕ) → TraceBehind tables sent rest more → TraceBehind tables nothing_sent told (before ++ more))
    → (sent : Sent) × BothStand tables sent new × ((later : List ℕ) → TraceBehind tables sent more later → TraceBehind tables nothing_sent told (mid ++ later))
next_record tables told rest more one old new before mid e shows l =
    let p = shows l.0 l.1 in (
      sent_more one.from one.octets l.0,
      p.0,
      (
          λ later q. let r = record_first tables rest more one l.0 new before mid later e p q in subst (λ (t : List ℕ). TraceBehind tables nothing_sent told t) r.2 (l.2 r.0 r.1)
          ),
    )

pub no_more_records : (tables : Tables) (told rest : List Recorded) (directions : boths.Directions) (text : List ℕ) → rest ≡ []
    → (sent : Sent) × BothStand tables sent directions × ((more : List ℕ) → TraceBehind tables sent rest more → TraceBehind tables nothing_sent told (text ++ more)) → TraceTextOf tables told text
no_more_records tables told rest directions text e l =
    subst (λ (t : List ℕ). TraceBehind tables nothing_sent told t) (append-nil text)
    (l.2 [] (subst (λ (r : List Recorded). TraceBehind tables l.0 r []) (sym e) refl))

-- ---- a call that may have been refused memory

pub a_shown_if : {X E : Type 0} (r : Result X E) (tables : Tables) (from : Side) (octets given : List ℕ) (sent : Sent) (a : Direction) (old : boths.Directions) (before after : List ℕ) → from ≡ A
    → given ≡ octets → BothStand tables sent old → OnOk r (ShownWith tables A sent.a given a before after) → OnOk r (RecordShown tables from octets sent (record old { a = a }) before after)
a_shown_if (Ok x) tables from octets given sent a old before after e f s h =
    subst (λ (side : Side). RecordShown tables side octets sent (record old { a = a }) before after) (sym e)
    (a_shown tables octets sent a old before after s (subst (λ (l : List ℕ). ShownWith tables A sent.a l a before after) f h))
a_shown_if (Err x) tables from octets given sent a old before after e f s h = tt

pub b_shown_if : {X E : Type 0} (r : Result X E) (tables : Tables) (from : Side) (octets given : List ℕ) (sent : Sent) (b : Direction) (old : boths.Directions) (before after : List ℕ) → from ≡ B
    → given ≡ octets → BothStand tables sent old → OnOk r (ShownWith tables B sent.b given b before after) → OnOk r (RecordShown tables from octets sent (record old { b = b }) before after)
b_shown_if (Ok x) tables from octets given sent b old before after e f s h =
    subst (λ (side : Side). RecordShown tables side octets sent (record old { b = b }) before after) (sym e)
    (b_shown tables octets sent b old before after s (subst (λ (l : List ℕ). ShownWith tables B sent.b l b before after) f h))
b_shown_if (Err x) tables from octets given sent b old before after e f s h = tt

pub first_records : (tables : Tables) (told rest : List Recorded) (text : List ℕ) → rest ≡ told → text ≡ [] → (more : List ℕ) → TraceBehind tables nothing_sent rest more
    → TraceBehind tables nothing_sent told (text ++ more)
first_records tables told rest text e f more h =
    subst (λ (t : List ℕ). TraceBehind tables nothing_sent told (t ++ more)) (sym f) (subst (λ (l : List Recorded). TraceBehind tables nothing_sent l more) e h)
