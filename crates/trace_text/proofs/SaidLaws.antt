-- What is said of packets, one after the other.
use Rattle.std.proofs.Common.{◌≡◌, ℕ, Bool, true, false, List, [], ◌∷◌, ◌++◌, Option, Some, None, refl, sym, ap, subst, ◌∙◌, append_assoc}
use Rattle.std.specs.Prelude.{flat_map}
use Rattle.std.proofs.lemmas.List.{append-nil}
use Rattle.osi_base.specs.declared.layer_words.Side.{Side}
use Rattle.stub_tables.specs.declared.tables.Tables.{Tables}
use Rattle.tpkt.specs.declared.packet.Packet.{Packet}
use Rattle.tpkt.specs.declared.packet.TFault.{TFault}
use Rattle.trace_units.specs.declared.said_text.Said.{Said}
use Rattle.trace_units.specs.declared.said_text.Said.TheVariants as said
use Rattle.trace_text.specs.Directions.{PacketSaid, stream_fault, Behind, AllSaid}
use Rattle.trace_text.specs.Trace.{line_from}
use Rattle.trace_text.specs.ShownSoFar.{PutSaid, PacketPut, StopPut, AllPut}

abbrev Texts : Type 0
Texts = List (List ℕ)

-- ---- what is said of all packets so far, and then of more

join_behind : (tables : Tables) (first : Said) (P Q : Texts → Type 0) (over : Bool) (shown more : Texts)
    → ((rest : Texts) → P rest → Q (rest ++ more)) → Behind first P false shown → Behind first Q over (shown ++ more)
join_behind tables (said.Line text) P Q over shown more step h =
    (h.0 ++ more, step h.0 h.1, ap (λ (l : Texts). l ++ more) h.2)
join_behind tables (said.Fault text) P Q over shown more step h = absurd cc

pub join : (tables : Tables) (packets later : List Packet) (fault : Option TFault) (over : Bool) (shown more : Texts)
    → AllSaid tables packets None false shown → AllSaid tables later fault over more → AllSaid tables (packets ++ later) fault over (shown ++ more)
join tables [] later fault over shown more h k = subst (λ (l : Texts). AllSaid tables later fault over (l ++ more)) (sym h.1) k
join tables (packet ∷ packets) later fault over shown more h k =
    (h.0, h.1, join_behind tables h.0 (AllSaid tables packets None false) (AllSaid tables (packets ++ later) fault over) over shown more (λ rest p. join tables packets later fault over rest more p k) h.2)

-- ---- what isn't over has no fault

none_behind : (first : Said) (P : Texts → Type 0) (fault : Option TFault) (shown : Texts) → ((rest : Texts) → P rest → fault ≡ None) → Behind first P false shown → fault ≡ None
none_behind (said.Line text) P fault shown step h = step h.0 h.1
none_behind (said.Fault text) P fault shown step h = absurd cc

pub no_fault : (tables : Tables) (packets : List Packet) (fault : Option TFault) (shown : Texts) → AllSaid tables packets fault false shown → fault ≡ None
no_fault tables [] None shown h = refl
no_fault tables [] (Some fault) shown h = absurd cc
no_fault tables (packet ∷ packets) fault shown h = none_behind h.0 (AllSaid tables packets fault false) fault shown (λ rest p. no_fault tables packets fault rest p) h.2

-- ---- what is over stays as it is, whatever follows; behind the fault of a stream nothing follows

abbrev Follows : Option TFault → List Packet → Option TFault → Type 0
Follows None later after = Unit {0}
Follows (Some fault) later after = (later ≡ []) × (after ≡ Some fault)

stay_behind : (first : Said) (P Q : Texts → Type 0) (shown : Texts) → ((rest : Texts) → P rest → Q rest) → Behind first P true shown → Behind first Q true shown
stay_behind (said.Line text) P Q shown step h = (h.0, step h.0 h.1, h.2)
stay_behind (said.Fault text) P Q shown step h = h

pub stays : (tables : Tables) (packets later : List Packet) (fault after : Option TFault) (shown : Texts) → Follows fault later after → AllSaid tables packets fault true shown
    → AllSaid tables (packets ++ later) after true shown
stays tables [] later None after shown f h = absurd cc
stays tables [] later (Some fault) after shown f h =
    subst (λ (l : List Packet). AllSaid tables l after true shown) (sym f.0) (subst (λ (x : Option TFault). AllSaid tables [] x true shown) (sym f.1) h)
stays tables (packet ∷ packets) later fault after shown f h =
    (h.0, h.1, stay_behind h.0 (AllSaid tables packets fault true) (AllSaid tables (packets ++ later) after true) shown (λ rest p. stays tables packets later fault after rest f p) h.2)

-- ---- what was put behind a text

put_line_behind : (tables : Tables) (from : Side) (packet : Packet) (more : List Packet) (fault : Option TFault) (over : Bool) (first : Said) (before mid after : List ℕ)
    → PacketSaid tables packet first → PutSaid from first false before mid → AllPut tables from more fault over mid after → AllPut tables from (packet ∷ more) fault over before after
put_line_behind tables from packet more fault over (said.Line text) before mid after s p q = (
  text ∷ q.0,
  (said.Line text, s, (q.0, q.1, refl)),
  q.2 ∙ ap (λ (l : List ℕ). l ++ flat_map (line_from from) q.0) p.1 ∙ append_assoc before (line_from from text) (flat_map (line_from from) q.0),
)
put_line_behind tables from packet more fault over (said.Fault text) before mid after s p q = absurd cc

put_fault_behind : (tables : Tables) (from : Side) (packet : Packet) (more : List Packet) (fault : Option TFault) (first : Said) (before after : List ℕ)
    → PacketSaid tables packet first → PutSaid from first true before after → AllPut tables from (packet ∷ more) fault true before after
put_fault_behind tables from packet more fault (said.Line text) before after s p = absurd cc
put_fault_behind tables from packet more fault (said.Fault text) before after s p =
    (text ∷ [], (said.Fault text, s, (refl, refl)), p.1 ∙ ap (λ (l : List ℕ). before ++ l) (sym (append-nil (line_from from text))))

pub put_first : (tables : Tables) (from : Side) (packets more : List Packet) (packet : Packet) (fault : Option TFault) (over put : Bool) (before mid after : List ℕ)
    → packets ≡ packet ∷ more → put ≡ false → PacketPut tables from packet put before mid → AllPut tables from more fault over mid after → AllPut tables from packets fault over before after
put_first tables from packets more packet fault over put before mid after e f p q =
    subst (λ (l : List Packet). AllPut tables from l fault over before after) (sym e)
    (put_line_behind tables from packet more fault over p.0 before mid after p.1 (subst (λ (b : Bool). PutSaid from p.0 b before mid) f p.2) q)

pub put_over : (tables : Tables) (from : Side) (packets more : List Packet) (packet : Packet) (fault : Option TFault) (put : Bool) (before after : List ℕ)
    → packets ≡ packet ∷ more → put ≡ true → PacketPut tables from packet put before after → AllPut tables from packets fault true before after
put_over tables from packets more packet fault put before after e f p =
    subst (λ (l : List Packet). AllPut tables from l fault true before after) (sym e)
    (put_fault_behind tables from packet more fault p.0 before after p.1 (subst (λ (b : Bool). PutSaid from p.0 b before after) f p.2))

put_no_more : (tables : Tables) (from : Side) (fault : Option TFault) (over : Bool) (before after : List ℕ) → StopPut from fault over before after → AllPut tables from [] fault over before after
put_no_more tables from None over before after p = ([], (p.0, refl), p.1 ∙ sym (append-nil before))
put_no_more tables from (Some fault) over before after p =
    (stream_fault fault ∷ [], (p.0, refl), p.1 ∙ ap (λ (l : List ℕ). before ++ l) (sym (append-nil (line_from from (stream_fault fault)))))

pub put_end : (tables : Tables) (from : Side) (packets : List Packet) (fault : Option TFault) (over : Bool) (before after : List ℕ) → packets ≡ [] → StopPut from fault over before after
    → AllPut tables from packets fault over before after
put_end tables from packets fault over before after e p = subst (λ (l : List Packet). AllPut tables from l fault over before after) (sym e) (put_no_more tables from fault over before after p)
