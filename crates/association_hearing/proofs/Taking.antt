-- Values that are taken, one after the other, with one more behind them.
use Rattle.std.proofs.Common.{◌≡◌, ℕ, List, [], ◌∷◌, ◌++◌, refl, ap, sym, subst, ◌∙◌, append_assoc}
use Rattle.std.proofs.lemmas.List.{append-nil, map-append}
use Rattle.end_rules.specs.Base.{Base, HeardHead}
use Rattle.end_rules.specs.State.{Body, Calls}
use Rattle.end_rules.specs.Messages.{DataValue}
use Rattle.end_rules.specs.Hearing.{Taken, hear, on_heard, head_of, take_head, take_values, then_taken}
use Rattle.rose_roles.specs.declared.apdu_taken.RoseTaken as roses
use Rattle.rose_roles.specs.declared.apdu_taken.RoseTaken.TheVariants as rose
use Rattle.rose_roles.specs.Hearing.{heard_with}
use Rattle.association_answers.specs.declared.brought.Brought as broughts
use Rattle.association_answers.specs.BroughtAs.{seen_messages}
use Rattle.association_words.specs.declared.values.Value as words
use Rattle.association_words.specs.Seen.{seen_message, seen_value, seen_values}
use Rattle.association_hearing.specs.ValuesTaken.{TookAs, Joined}

-- ---- one behind the other

-- nothing is taken behind
ended : (t : Taken) → then_taken t (record { body = t.body; answers = []; shown = [] }) ≡ t
ended t = λ k. record { body = t.body; answers = append-nil t.answers k; shown = append-nil t.shown k }

-- takings are joined in any order
regrouped : (a b c : Taken) → then_taken a (then_taken b c) ≡ then_taken (then_taken a b) c
regrouped a b c = λ k. record { body = c.body; answers = sym (append_assoc a.answers b.answers c.answers) k; shown = sym (append_assoc a.shown b.shown c.shown) k }

pub taken_push : (base : Base) (body : Body) (values : List DataValue) (value : DataValue)
    → take_values base body (values ++ value ∷ []) ≡ then_taken (take_values base body values) (take_head base (take_values base body values).body value.id (head_of base value))
taken_push base body [] value = ended (take_head base body value.id (head_of base value))
taken_push base body (v ∷ values) value =
    let t = take_head base body v.id (head_of base v) in
    let rest = take_values base t.body values in
    ap (then_taken t) (taken_push base t.body values value) ∙ regrouped t rest (take_head base rest.body value.id (head_of base value))

-- ---- in code

-- the taking of one value more, joined with those before
pub took_more : (base : Base) (start now after : Body) (values : List DataValue) (value : DataValue) (all came joined : broughts.Brought)
    → TookAs (take_values base start values) now all → TookAs (take_head base now value.id (head_of base value)) after came → Joined all came joined
    → TookAs (take_values base start (values ++ value ∷ [])) after joined
took_more base start now after values value all came joined h g j =
    let first : Taken = take_values base start values in
    let second : Taken = take_head base first.body value.id (head_of base value) in
    let here : take_head base now value.id (head_of base value) ≡ second = ap (λ (b : Body). take_head base b value.id (head_of base value)) h.body_is in
    let whole : take_values base start (values ++ value ∷ []) ≡ then_taken first second = taken_push base start values value in
    let answers : seen_messages came.answers ≡ second.answers = g.answers_are ∙ ap (λ (t : Taken). t.answers) here in
    let shown : came.shown ≡ second.shown = g.shown_is ∙ ap (λ (t : Taken). t.shown) here in
    record {
      body_is = g.body_is ∙ ap (λ (t : Taken). t.body) here ∙ sym (ap (λ (t : Taken). t.body) whole);
      answers_are = ap seen_messages j.answers ∙ map-append seen_message all.answers came.answers ∙ (λ k. h.answers_are k ++ answers k) ∙ sym (ap (λ (t : Taken). t.answers) whole);
      shown_is = j.shown ∙ (λ k. h.shown_is k ++ shown k) ∙ sym (ap (λ (t : Taken). t.shown) whole);
    }

-- the same of the values of the code
pub took_next : (base : Base) (start now after : Body) (values : List words.Value) (value : words.Value) (all came joined : broughts.Brought)
    → TookAs (take_values base start (seen_values values)) now all → TookAs (take_head base now value.id (head_of base (seen_value value))) after came → Joined all came joined
    → TookAs (take_values base start (seen_values (values ++ value ∷ []))) after joined
took_next base start now after values value all came joined h g j =
    subst (λ (vs : List DataValue). TookAs (take_values base start vs) after joined) (sym (map-append seen_value values (value ∷ [])))
    (took_more base start now after (seen_values values) (seen_value value) all came joined h g j)

-- one value alone
pub took_one : (base : Base) (body after : Body) (value : DataValue) (came : broughts.Brought) → TookAs (take_head base body value.id (head_of base value)) after came → TookAs (take_values base body (value ∷ [])) after came
took_one base body after value came h = subst (λ (t : Taken). TookAs t after came) (sym (ended (take_head base body value.id (head_of base value)))) h

calls_told : (c : Calls) (t : roses.RoseTaken) → (heard_with c t).calls ≡ c
calls_told c (rose.Invoked id operation linked argument) = refl
calls_told c (rose.Result id value) = refl
calls_told c (rose.Error id error parameter) = refl
calls_told c (rose.Rejected id problem) = refl
calls_told c (rose.RejectTaken id problem) = refl
calls_told c rose.BadReject = refl
calls_told c (rose.Reject id problem) = refl

-- what is done with what was heard is the taking
pub took_so : (base : Base) (old : Body) (others : Calls) (context : ℕ) (head : HeardHead) (t : roses.RoseTaken) (after : Body) (came : broughts.Brought)
    → heard_with others t ≡ hear base old.calls context head → TookAs (on_heard base (record old { calls = others }) context (heard_with others t)) after came
    → TookAs (take_head base old context head) after came
took_so base old others context head t after came h g =
    let same : on_heard base (record old { calls = others }) context (heard_with others t) ≡ on_heard base old context (heard_with others t)
    = ap (λ (c : Calls). on_heard base (record old { calls = c }) context (heard_with others t)) (sym (calls_told others t)) in
    let whole : on_heard base (record old { calls = others }) context (heard_with others t) ≡ take_head base old context head
    = same ∙ ap (on_heard base old context) h in
    subst (λ (x : Taken). TookAs x after came) whole g
