-- A message that was heard was taken, as the rules have it.
use Rattle.std.proofs.Common.{◌≡◌, ℕ, ◌<◌, ◌≤◌, Bool, false, if◌then◌else◌, List, [], ◌++◌, length, take, drop, map, refl, sym, ap, ◌∙◌}
use Rattle.std.proofs.lemmas.List.{append-nil}
use Rattle.osi_base.specs.declared.syntax.Syntax.TheVariants.{Ber}
use Rattle.stub_tables.specs.Readable.{IsReadable}
use Rattle.dialogue.specs.declared.indication.Indication.{Indication}
use Rattle.end_rules.specs.Base.{HeardHead}
use Rattle.end_rules.specs.State.{Body, Calls, bare_set, passes_over}
use Rattle.end_rules.specs.Messages.{ValueContent, Remote, Unread, Association, Plea, Part, Message}
use Rattle.end_rules.specs.Hearing.{Heard, Taken, hear, on_heard, take_head, head_of, reject_apdu}
use Rattle.end_rules.specs.Reacting.{Reaction, Passes, Takes, Fails, react, react_alive}
use Rattle.end_rules.specs.History.{Step, took as took_step, answered, after_taken}
use Rattle.apdu_spelling.specs.Writing.{written_apdu}
use Rattle.end_wire.specs.Heads.{head_at}
use Rattle.end_wire.specs.Values.{IsContent, content_at}
use Rattle.end_wire.specs.Bare.{First, Whole, first_at, behind, bare_message, bare_value}
use Rattle.end_wire.specs.Line.{End, after, after_all}
use Rattle.end_wire.specs.Feeding.{taking}
use Rattle.end_wire.proofs.ContentLaws.{content_says}
use Rattle.bare_end.specs.declared.hearing.Taken as takens
use Rattle.bare_end.specs.declared.hearing.Taken.TheVariants as taken
use Rattle.bare_end.specs.Told.{heard_as, told_by, answers_by, answered_end}
use Rattle.bare_end.specs.Told as told_specs
use Rattle.bare_end.specs.View.{EndView, base, body, bare_body, seen, Stepped, with_calls}
use Rattle.bare_end.specs.Feed.{TookOne}
use Rattle.bare_end.proofs.Sent.{written_on}

-- ---- the reaction to a value

abbrev takes_as : Taken → Reaction
takes_as t = Takes t.body (t.answers ++ []) (t.shown ++ [])

module _ (e : EndView) where
  alive_remote : (c : ValueContent) (octets : List ℕ) → IsContent e.tables Ber octets c → react_alive (base e) (body e) (bare_message (bare_set e.tables) c) ≡ takes_as (take_head (base e) (body e) 0 (head_of (base e) (bare_value (bare_set e.tables) c)))
  alive_remote (Remote a) octets p = refl
  alive_remote (Unread kept) octets p = refl
  alive_remote (Association apdu user) octets p = absurd p
  alive_remote (Plea priority) octets p = absurd p
  alive_remote (Part part) octets p = absurd p

  pub reacts : (c : ValueContent) (octets : List ℕ) → IsReadable e.tables → passes_over e.phase ≡ false → IsContent e.tables Ber octets c
      → react (base e) (body e) (bare_message (bare_set e.tables) c) ≡ takes_as (take_head (base e) (body e) 0 (head_at e.tables Ber octets))
  reacts c octets readable up p =
      ap (λ (b : Bool). if b then Passes else react_alive (base e) (body e) (bare_message (bare_set e.tables) c)) up
      ∙ alive_remote c octets p
      ∙ ap (λ (h : HeardHead). takes_as (take_head (base e) (body e) 0 h)) (content_says e.tables e.config (bare_set e.tables) octets c readable p)

  -- what is heard, as it is taken
  pub on_taken : (c : Calls) (t : takens.Taken) → takes_as (on_heard (base e) (body e) 0 (heard_as c t)) ≡ Takes (bare_body (base e) e.phase c) (answers_by e t) (told_by t)
  on_taken c (taken.Told indication) = refl
  on_taken c (taken.Rejects id problem) = refl

pub calls_told : (c : Calls) (t : takens.Taken) → (heard_as c t).calls ≡ c
calls_told c (taken.Told indication) = refl
calls_told c (taken.Rejects id problem) = refl

-- ---- the steps of a taking

abbrev taken_body : Body → Reaction → Body
taken_body d Passes = d
taken_body d (Takes b answers shown) = b
taken_body d (Fails f b aborts shown) = d

module _ (e : EndView) where
  -- the body after a taking is that of the reaction
  alive_body : (c : ValueContent) (octets : List ℕ) → IsContent e.tables Ber octets c
      → taken_body (body e) (react_alive (base e) (body e) (bare_message (bare_set e.tables) c)) ≡ after_taken (base e) (body e) (bare_message (bare_set e.tables) c)
  alive_body (Remote a) octets p = refl
  alive_body (Unread kept) octets p = refl
  alive_body (Association apdu user) octets p = absurd p
  alive_body (Plea priority) octets p = absurd p
  alive_body (Part part) octets p = absurd p

  body_after : (c : ValueContent) (octets : List ℕ) (b : Body) (answers : List Message) (shown : List Indication) → passes_over e.phase ≡ false → IsContent e.tables Ber octets c
      → react (base e) (body e) (bare_message (bare_set e.tables) c) ≡ Takes b answers shown → after_taken (base e) (body e) (bare_message (bare_set e.tables) c) ≡ b
  body_after c octets b answers shown up p r =
      sym (alive_body c octets p)
      ∙ ap (taken_body (body e)) (sym (ap (λ (x : Bool). if x then Passes else react_alive (base e) (body e) (bare_message (bare_set e.tables) c)) up) ∙ r)

module _ (e : EndView) (c : ValueContent) (octets : List ℕ) (calls_after : Calls) (t : takens.Taken) (used : ℕ) where
  abbrev told : List Step
  told = taking (bare_message (bare_set e.tables) c) (answers_by e t)

  abbrev taken_end : EndView
  taken_end = record (with_calls calls_after e) { rest = drop used e.rest }

  -- after the message alone
  abbrev after_took : End
  after_took = after (base e) (seen e) (took_step (bare_message (bare_set e.tables) c))

  answered_so : (x : takens.Taken) → seen (answered_end x taken_end) ≡ after_all (base e) (seen taken_end) (map (answered (bare_message (bare_set e.tables) c)) (answers_by e x))
  answered_so (taken.Told indication) = refl
  answered_so (taken.Rejects id problem) =
      ap (λ (text : List ℕ). record (seen taken_end) { line = record (seen taken_end).line { waiting = e.waiting ++ text } })
      (sym (written_on e 0 (reject_apdu (record { id = id; problem = problem }))))

  same_tables : (x : takens.Taken) → ((answered_end x taken_end).tables ≡ e.tables) × ((answered_end x taken_end).config ≡ e.config) × ((answered_end x taken_end).phase ≡ e.phase) × ((answered_end x taken_end).rest ≡ drop used e.rest)
  same_tables (taken.Told indication) = (refl, refl, refl, refl)
  same_tables (taken.Rejects id problem) = (refl, refl, refl, refl)

  abbrev due_by : takens.Taken → List ℕ
  due_by (taken.Told indication) = []
  due_by (taken.Rejects id problem) = written_apdu e.tables Ber (reject_apdu (record { id = id; problem = problem }))

  waits : (x : takens.Taken) → (answered_end x taken_end).waiting ≡ e.waiting ++ due_by x
  waits (taken.Told indication) = sym (append-nil e.waiting)
  waits (taken.Rejects id problem) = refl

-- ---- one message was taken

module _ (old : EndView) (used : ℕ) (readable : IsReadable old.tables) (up : passes_over old.phase ≡ false)
    (first : first_at old.rest ≡ Whole used) (some : 0 < used) (within : used ≤ length old.rest) where
  abbrev octets : List ℕ
  octets = take used old.rest

  abbrev content : ValueContent
  content = content_at old.tables Ber octets

  abbrev heard : Heard
  heard = hear (base old) old.calls 0 (head_at old.tables Ber octets)

  module _ (means : IsContent old.tables Ber octets content) (t : takens.Taken) (told_so : heard_as heard.calls t ≡ heard) where
    reaction : react (base old) (body old) (bare_message (bare_set old.tables) content) ≡ Takes (bare_body (base old) old.phase heard.calls) (answers_by old t) (told_by t)
    reaction =
        reacts old content octets readable up means
        ∙ ap (λ (h : Heard). takes_as (on_heard (base old) (body old) 0 h)) (sym told_so)
        ∙ on_taken old heard.calls t

    body_so : after_taken (base old) (body old) (bare_message (bare_set old.tables) content) ≡ bare_body (base old) old.phase heard.calls
    body_so = body_after old content octets (bare_body (base old) old.phase heard.calls) (answers_by old t) (told_by t) up means reaction

    took_so : seen (taken_end old content octets heard.calls t used) ≡ after_took old content octets heard.calls t used
    took_so = λ i. record {
      body = sym body_so i;
      line = record { waiting = old.waiting; rest = ap (λ (f : First). behind f old.rest) (sym first) i };
    }

    pub took_one : (new : EndView) (before later : List Indication) → new ≡ answered_end t (taken_end old content octets heard.calls t used) → later ≡ before ++ told_by t → TookOne old new before later
    took_one new before later is shown =
        let same = same_tables old content octets heard.calls t used t in
        let steps : Stepped old new (taking (bare_message (bare_set old.tables) content) (answers_by old t)) = record {
          tables = ap (λ (x : EndView). x.tables) is ∙ same.0;
          config = ap (λ (x : EndView). x.config) is ∙ same.1;
          end = ap seen is ∙ answered_so old content octets heard.calls t used t
              ∙ ap (λ (x : End). after_all (base old) x (map (answered (bare_message (bare_set old.tables) content)) (answers_by old t))) took_so;
        } in
        record {
          used = used;
          content = content;
          left = bare_body (base old) old.phase heard.calls;
          answers = answers_by old t;
          told = told_by t;
          first = first;
          is = means;
          reacts = reaction;
          steps = steps;
          phase_stays = ap (λ (x : EndView). x.phase) is ∙ same.2;
          some = some;
          within = within;
          rest_is = ap (λ (x : EndView). x.rest) is ∙ same.3;
          due = due_by old content octets heard.calls t used t;
          waiting = ap (λ (x : EndView). x.waiting) is ∙ waits old content octets heard.calls t used t;
          shown_is = shown;
        }

-- as the code comes by it
pub took : (old heard_end skipped new : EndView) (before later : List Indication) (used : ℕ) (t : takens.Taken) → IsReadable old.tables
    → passes_over old.phase ≡ false → first_at old.rest ≡ Whole used → 0 < used → used ≤ length old.rest
    → IsContent old.tables Ber (take used old.rest) (content_at old.tables Ber (take used old.rest))
    → told_specs.Heard old heard_end (head_at old.tables Ber (take used old.rest)) t → skipped ≡ record heard_end { rest = drop used heard_end.rest }
    → new ≡ answered_end t skipped → later ≡ before ++ told_by t → TookOne old new before later
took old heard_end skipped new before later used t readable up first some within means h skips answers shown =
    let text : List ℕ = take used old.rest in
    let left : Calls = (hear (base old) old.calls 0 (head_at old.tables Ber text)).calls in
    let same : heard_end.calls ≡ left = sym (calls_told heard_end.calls t) ∙ ap (λ (x : Heard). x.calls) h.heard_is in
    let told_so : heard_as left t ≡ hear (base old) old.calls 0 (head_at old.tables Ber text) = ap (λ (c : Calls). heard_as c t) (sym same) ∙ h.heard_is in
    let at : skipped ≡ taken_end old (content_at old.tables Ber text) text left t used
    = skips ∙ ap (λ (x : EndView). record x { rest = drop used x.rest }) (h.end_is ∙ ap (λ (c : Calls). with_calls c old) same) in
    took_one old used readable up first some within means t told_so new before later (answers ∙ ap (answered_end t) at) shown
