-- Octets are read in one way, however they are cut.
use Rattle.std.proofs.Common.{◌≡◌, ℕ, ◌≤◌, Bool, true, false, List, [], ◌∷◌, ◌++◌, map, length, take, Ok, refl, sym, ap, subst, ◌∙◌, arith, append_assoc}
use Rattle.std.specs.Prelude.{Option, Some, None, if◌then◌else◌}
use Rattle.std.proofs.lemmas.List.{append-nil, take-append-le, drop-append-le}
use Rattle.osi_base.specs.declared.layer_words.Layer.TheVariants.{Rose}
use Rattle.asn1_types.specs.Value.{Value}
use Rattle.ber_spelling.specs.Fields.{identifier_at}
use Rattle.ber_spelling.specs.Reading.{Reading}
use Rattle.ber_spelling.specs.Rules.{reads, value_at, read_at, outermost, plain}
use Rattle.ber_spelling.proofs.Inside.{Inside, Inside-bind, second, Begun, identifier_inside}
use Rattle.ber_spelling.proofs.InsideRules.{along_inside}
use Rattle.ber_spelling.proofs.WholeValues.{read_stays}
use Rattle.stub_tables.specs.declared.tables.Tables.{Tables}
use Rattle.stub_tables.specs.AnyValue.{any_value_rows, any_value_row}
use Rattle.stub_tables.specs.Readable.{IsReadable}
use Rattle.dialogue.specs.declared.config.Config.{Config}
use Rattle.dialogue.specs.declared.indication.Indication.{Indication}
use Rattle.end_rules.specs.Base.{Base}
use Rattle.end_rules.specs.Faults.{fault_at, shown_at_fault}
use Rattle.end_rules.specs.Messages.{Message, ValueContent, DataValue}
use Rattle.end_rules.specs.State.{Body, Link, passes_over}
use Rattle.end_rules.specs.Invoking.{carrier_in}
use Rattle.end_rules.specs.Hearing.{Rejecting, Heard, hear, head_of, with_reject, sent_on, syntax_of}
use Rattle.osi_base.specs.SetPlaces.{pair_of}
use Rattle.end_rules.specs.History.{Step, fed, took, answered, fault, feed_end, after_taken}
use Rattle.bare_end.specs.end_wire.Values.{IsContent}
use Rattle.bare_end.specs.end_wire.Bare.{Whole, beginning_of, first_at, front, behind, bare_base, bare_value, bare_message}
use Rattle.bare_end.specs.end_wire.Line.{End, after, after_all}
use Rattle.bare_end.specs.end_wire.Feeding.{Reads, passes, waits, takes, fails, taking, Feeds}
use Rattle.bare_end.specs.end_wire.Laws.{OneContent}
use Rattle.bare_duo.specs.Cutting.{OneFeed, AnyCutting}
use Rattle.bare_duo.proofs.Fronts.{faulty_stays, read_of}
use Rattle.bare_duo.proofs.Unique.{same_reads}

-- ---- what stands first stays, whatever follows

abbrev done : Value × ℕ → Reading (Value × ℕ)
done x = Ok x

read-within : (bytes : List ℕ) → Inside (λ (x : Value × ℕ). x.1 ≤ length bytes) (length bytes) (read_at any_value_rows any_value_row false 262144 bytes)
unfolding read_at value_at reads
read-within bytes =
    let scope = outermost 262144 false in
    let end : ℕ = length bytes in
    Inside-bind (second end) (λ (x : Value × ℕ). x.1 ≤ end) end (value_at any_value_rows any_value_row scope 0 bytes) _
    (Inside-bind (Begun end) (second end) end (identifier_at scope 0 bytes) _ (identifier_inside scope 0 bytes end (omega arith)) (λ x k.
    (along_inside any_value_rows (length any_value_rows) any_value_row plain).each end scope x.0 x.1 k.0 k.1)) (λ x k. omega arith)

pub whole_within_text : (text : List ℕ) (used : ℕ) → first_at text ≡ Whole used → used ≤ length text
whole_within_text text used e =
    let r = read_of text used e in
    subst (λ (x : Reading (Value × ℕ)). Inside (λ (y : Value × ℕ). y.1 ≤ length text) (length text) x) r.read (read-within text)

pub whole_stays : (text more : List ℕ) (used : ℕ) → first_at text ≡ Whole used → first_at (text ++ more) ≡ Whole used
unfolding first_at
whole_stays text more used e =
    let r = read_of text used e in ap beginning_of (read_stays any_value_rows any_value_row false 262144 text more r.value used r.read)

-- ---- one end

clash : {X : Type 0} (b : Bool) → b ≡ true → b ≡ false → X
clash b h k = let r : true ≡ false = sym h ∙ k in cc

-- what came, and more; and nothing of it
abbrev with_more : End → List ℕ → End
with_more e ys = record e { line = record e.line { rest = e.line.rest ++ ys } }

abbrev dropped : End → End
dropped e = record e { line = record e.line { rest = [] } }

module _ (t : Tables) (config : Config) (readable : IsReadable t) (one_content : OneContent) where
  abbrev b : Base
  b = bare_base t config

  all-append : (e : End) (xs ys : List Step) → after_all b e (xs ++ ys) ≡ after_all b (after_all b e xs) ys
  all-append e [] ys = refl
  all-append e (x ∷ xs) ys = all-append (after b e x) xs ys

  -- ---- a taking leaves the association

  reject-link : (body : Body) (context : ℕ) (r : Option Rejecting) → (with_reject b body context r).body.link ≡ body.link
  reject-link body context None = refl
  reject-link body context (Some r) = go (carrier_in b body context)
    where
      go : (c : Option ℕ) → (sent_on body r c).body.link ≡ body.link
      go None = refl
      go (Some id) = refl

  took-link : (body : Body) (content : ValueContent) → (after_taken b body (bare_message body.sets.held content)).link ≡ body.link
  took-link body content =
      let v : DataValue = bare_value body.sets.held content in
      let heard : Heard = hear b body.calls v.id (head_of b v) in reject-link (record body { calls = heard.calls }) v.id heard.reject

  answers-body : (e : End) (m : Message) (answers : List Message) → (after_all b e (map (answered m) answers)).body ≡ e.body
  answers-body e m [] = refl
  answers-body e m (a ∷ answers) = answers-body (after b e (answered m a)) m answers

  took-up : (e : End) (content : ValueContent) (answers : List Message) → passes_over e.body.link.phase ≡ false → passes_over (after_all b e (taking (bare_message e.body.sets.held content) answers)).body.link.phase ≡ false
  took-up e content answers up =
      let m : Message = bare_message e.body.sets.held content in
      ap (λ (x : Body). passes_over x.link.phase) (answers-body (after b e (took m)) m answers) ∙ ap (λ (x : Link). passes_over x.phase) (took-link e.body content) ∙ up

  answers-more : (e : End) (m : Message) (answers : List Message) (ys : List ℕ) → with_more (after_all b e (map (answered m) answers)) ys ≡ after_all b (with_more e ys) (map (answered m) answers)
  answers-more e m [] ys = refl
  answers-more e m (a ∷ answers) ys = answers-more (after b e (answered m a)) m answers ys

  took-more : (e : End) (m : Message) (answers : List Message) (used : ℕ) (ys : List ℕ) → first_at e.line.rest ≡ Whole used → with_more (after_all b e (taking m answers)) ys ≡ after_all b (with_more e ys) (taking m answers)
  took-more e m answers used ys first =
      let rest : List ℕ = e.line.rest in
      let later : behind (first_at rest) rest ++ ys ≡ behind (first_at (rest ++ ys)) (rest ++ ys) =
      ap (λ f. behind f rest ++ ys) first ∙ sym (drop-append-le used rest ys (whole_within_text rest used first)) ∙ sym (ap (λ f. behind f (rest ++ ys)) (whole_stays rest ys used first)) in
      let one : with_more (after b e (took m)) ys ≡ after b (with_more e ys) (took m) =
      λ i. record { body = after_taken b e.body m; line = record { waiting = e.line.waiting; rest = later i } } in
      answers-more (after b e (took m)) m answers ys ∙ ap (λ (x : End). after_all b x (map (answered m) answers)) one

  -- ---- an end that is over

  record ReadsNothing (xs : List Step) (is : List Indication) : Type 0 where
    steps : xs ≡ feed_end ∷ []
    shown : is ≡ []

  over-reads : (e : End) (xs : List Step) (is : List Indication) → passes_over e.body.link.phase ≡ true → Reads b e xs is → ReadsNothing xs is
  over-reads e xs is over (passes o) = record { steps = refl; shown = refl }
  over-reads e xs is over (waits up first) = clash (passes_over e.body.link.phase) over up
  over-reads e xs is over (takes used content body answers told up first isc re next) = clash (passes_over e.body.link.phase) over up
  over-reads e xs is over (fails place up first) = clash (passes_over e.body.link.phase) over up

  over-after : (e : End) (ys : List ℕ) → passes_over e.body.link.phase ≡ true → after b e (fed ys) ≡ dropped e
  over-after e ys over = ap (λ (x : Bool). record e { line = record e.line { rest = if x then [] else e.line.rest ++ ys } }) over

  up-after : (e : End) (ys : List ℕ) → passes_over e.body.link.phase ≡ false → after b e (fed ys) ≡ with_more e ys
  up-after e ys up = ap (λ (x : Bool). record e { line = record e.line { rest = if x then [] else e.line.rest ++ ys } }) up

  record FeedsNothing (e : End) (zs : List Step) (js : List Indication) : Type 0 where
    shown : js ≡ []
    left : after_all b e zs ≡ dropped e

  over-feeds : (e : End) (ys : List ℕ) (zs : List Step) (js : List Indication) → passes_over e.body.link.phase ≡ true → Feeds b e ys zs js → FeedsNothing e zs js
  over-feeds e ys zs js over f =
      let here : Reads b (dropped e) f.reading js = subst (λ (x : End). Reads b x f.reading js) (over-after e ys over) f.reads in
      let r = over-reads (dropped e) f.reading js over here in
      record { shown = r.shown; left = ap (after_all b e) (f.all ∙ ap (λ (l : List Step). fed ys ∷ l) r.steps) ∙ over-after e ys over }

  -- ---- reading what came, and then what more comes, is reading both

  record Joined (e : End) (ys : List ℕ) (xs zs : List Step) (is js : List Indication) : Type 0 where
    steps : List Step
    reading : Reads b (with_more e ys) steps (is ++ js)
    left : after_all b (with_more e ys) steps ≡ after_all b (after_all b e xs) zs

  join-reads : (e : End) (ys : List ℕ) (xs zs : List Step) (is js : List Indication) → passes_over e.body.link.phase ≡ false → Reads b e xs is → Feeds b (after_all b e xs) ys zs js → Joined e ys xs zs is js
  join-reads e ys xs zs is js up (passes over) f = clash (passes_over e.body.link.phase) over up
  join-reads e ys xs zs is js up (waits u first) f =
      record {
        steps = f.reading;
        reading = subst (λ (x : End). Reads b x f.reading js) (up-after e ys up) f.reads;
        left = ap (λ (x : End). after_all b x f.reading) (sym (up-after e ys up)) ∙ ap (after_all b e) (sym f.all);
      }
  join-reads e ys xs zs is js up (takes {steps = later} {shown = told} used content body answers tells u first isc re next) f =
      let m : Message = bare_message e.body.sets.held content in
      let one : End = after_all b e (taking m answers) in
      let fed_on : Feeds b (after_all b one later) ys zs js = subst (λ (x : End). Feeds b x ys zs js) (all-append e (taking m answers) later) f in
      let r = join-reads one ys later zs told js (took-up e content answers up) next fed_on in
      let same : with_more one ys ≡ after_all b (with_more e ys) (taking m answers) = took-more e m answers used ys first in
      let here : Reads b (after_all b (with_more e ys) (taking m answers)) r.steps (told ++ js) = subst (λ (x : End). Reads b x r.steps (told ++ js)) same r.reading in
      let its : IsContent t (syntax_of (pair_of e.body.sets.held 0)) (take used (e.line.rest ++ ys)) content =
      subst (λ (os : List ℕ). IsContent t (syntax_of (pair_of e.body.sets.held 0)) os content) (sym (take-append-le used e.line.rest ys (whole_within_text e.line.rest used first))) isc in
      let all : Reads b (with_more e ys) (taking m answers ++ r.steps) (tells ++ (told ++ js)) = takes used content body answers tells up (whole_stays e.line.rest ys used first) its re here in
      record {
        steps = taking m answers ++ r.steps;
        reading = subst (Reads b (with_more e ys) (taking m answers ++ r.steps)) (sym (append_assoc tells told js)) all;
        left = all-append (with_more e ys) (taking m answers) r.steps ∙ ap (λ (x : End). after_all b x r.steps) (sym same) ∙ r.left
            ∙ ap (λ (x : End). after_all b x zs) (sym (all-append e (taking m answers) later));
      }
  join-reads e ys xs zs is js up (fails place u first) f =
      let n = over-feeds (after_all b e (fault Rose place 0 ∷ feed_end ∷ [])) ys zs js refl f in
      record {
        steps = fault Rose place 0 ∷ feed_end ∷ [];
        reading = subst (Reads b (with_more e ys) (fault Rose place 0 ∷ feed_end ∷ []))
            (sym (append-nil (shown_at_fault e.body (fault_at Rose place 0))) ∙ ap (λ (l : List Indication). shown_at_fault e.body (fault_at Rose place 0) ++ l) (sym n.shown))
            (fails place up (faulty_stays e.line.rest ys place first));
        left = sym n.left;
      }

  record Cut (e : End) (whole first second : List Step) (all told later : List Indication) : Type 0 where
    shown : all ≡ told ++ later
    left : after_all b e whole ≡ after_all b (after_all b e first) second

  cut-when : (o : Bool) (e : End) (front back : List ℕ) (first second whole : List Step) (told later all : List Indication) → passes_over e.body.link.phase ≡ o
      → Feeds b e front first told → Feeds b (after_all b e first) back second later → Feeds b e (front ++ back) whole all → Cut e whole first second all told later
  cut-when true e front back first second whole told later all over f g h =
      let one = over-feeds e front first told over f in
      let here : Feeds b (dropped e) back second later = subst (λ (x : End). Feeds b x back second later) one.left g in
      let two = over-feeds (dropped e) back second later over here in
      let both = over-feeds e (front ++ back) whole all over h in
      record {
        shown = both.shown ∙ sym (ap (λ (l : List Indication). l ++ later) one.shown ∙ two.shown);
        left = both.left ∙ sym (ap (λ (x : End). after_all b x second) one.left ∙ two.left);
      }
  cut-when false e front back first second whole told later all up f g h =
      let u : End = with_more e front in
      let begun : Reads b u f.reading told = subst (λ (x : End). Reads b x f.reading told) (up-after e front up) f.reads in
      let end_is : after_all b e first ≡ after_all b u f.reading = ap (after_all b e) f.all ∙ ap (λ (x : End). after_all b x f.reading) (up-after e front up) in
      let next : Feeds b (after_all b u f.reading) back second later = subst (λ (x : End). Feeds b x back second later) end_is g in
      let r = join-reads u back f.reading second told later up begun next in
      let same : with_more u back ≡ after b e (fed (front ++ back)) =
      ap (λ (l : List ℕ). record e { line = record e.line { rest = l } }) (append_assoc e.line.rest front back) ∙ sym (up-after e (front ++ back) up) in
      let made : Reads b (after b e (fed (front ++ back))) r.steps (told ++ later) = subst (λ (x : End). Reads b x r.steps (told ++ later)) same r.reading in
      let s = same_reads b readable one_content (after b e (fed (front ++ back))) (after b e (fed (front ++ back))) h.reading r.steps all (told ++ later) refl h.reads made in
      record {
        shown = s.shown_are;
        left = ap (after_all b e) (h.all ∙ ap (λ (l : List Step). fed (front ++ back) ∷ l) s.steps_are) ∙ ap (λ (x : End). after_all b x r.steps) (sym same) ∙ r.left
            ∙ ap (λ (x : End). after_all b x second) (sym end_is);
      }

pub one_feed : OneContent → OneFeed
one_feed one_content t config e octets first second told later readable f g =
    let base : Base = bare_base t config in
    let s = same_reads base readable one_content (after base e (fed octets)) (after base e (fed octets)) f.reading g.reading told later refl f.reads g.reads in
    (f.all ∙ ap (λ (l : List Step). fed octets ∷ l) s.steps_are ∙ sym g.all, s.shown_are)

pub any_cutting : OneContent → AnyCutting
any_cutting one_content t config e front back first second whole told later all readable f g h =
    let c = cut-when t config readable one_content (passes_over e.body.link.phase) e front back first second whole told later all refl f g h in (c.shown, c.left)
