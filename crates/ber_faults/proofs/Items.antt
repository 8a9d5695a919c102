-- Values one after the other: a fault of reading is one by the grammar, and the other way round.
use Rattle.std.proofs.Common.{◌≡◌, ℕ, zero, suc, ◌+◌, ◌<◌, Bool, List, length, Option, Some, None, Ok, Err, refl, sym, ap, ◌∙◌, subst, arith, length-append, inl, inr}
use Rattle.osi_base.specs.declared.layer_words.Kind.TheVariants.{Missing}
use Rattle.asn1_types.specs.declared.row.Class.{Class}
use Rattle.ber_spelling.specs.declared.fault.ReadFault.{ReadFault}
use Rattle.ber_spelling.specs.declared.fault.ReadFault.TheVariants.{Short}
use Rattle.ber_spelling.specs.declared.spot.Scope.{Scope}
use Rattle.osi_base.specs.Octets.{AreOctets}
use Rattle.osi_base.proofs.OctetLaws.{octets_right}
use Rattle.ber_spelling.specs.Reading.{Spot, Opened, Ahead, ended, begun, Reading, ◌>>=◌}
use Rattle.ber_spelling.specs.Fields.{identifier_at, look_at}
use Rattle.ber_spelling.specs.Rules.{finish, item_at, items_at, all_items_at}
use Rattle.ber_spelling.proofs.Identifiers.{IsIn, done}
use Rattle.ber_spelling.proofs.Steady.{RelationOf, ReadAs, Found, Only, taken_octets}
use Rattle.ber_spelling.proofs.Constructed.{begun_again}
use Rattle.ber_faults.specs.Fields.{IsWithin, Stands}
use Rattle.ber_faults.specs.Values.{Wrong, IsAt, ItemsFault, item_ahead, item_lacks, item_inside, item_behind}
use Rattle.ber_faults.proofs.Steps.{bind_err, bind_fails, bind_goes, failed, err_is, not_err, in_within, within_in}
use Rattle.ber_faults.proofs.Identifiers.{opens_read}
use Rattle.ber_faults.proofs.Ends.{look_err, look_fails, begins_found, begins_read, ends_found, ends_read}
use Rattle.ber_faults.proofs.Readers.{StepFinds, StepTells, BodyFinds, BodyTells, refused, refusal_is}

abbrev Step : Type 0 → Type 0
Step S = S → Scope → Opened → Spot → Reading (S × Spot)

abbrev Goes : Type 0 → Type 1
Goes S = S → Bool → ℕ → S → List ℕ → Type 0

-- what was read stands there
pub stands_of : {A : Type 0} (P : RelationOf A) (scope : Scope) (at : Spot) (v : A) (to : Spot) → ReadAs P scope at.place at.rest v to → Stands P scope at v to
stands_of P scope at v to r = record { text = r.text; parts = r.taken.parts; onward = r.taken.onward; spelled = r.spelled; within = within_in scope to.place r.is_in }

pub octets_of_stands : {A : Type 0} (P : RelationOf A) (scope : Scope) (at : Spot) (v : A) (to : Spot) → Stands P scope at v to → AreOctets at.rest → AreOctets to.rest
octets_of_stands P scope at v to h are = octets_right h.text to.rest (subst AreOctets h.parts are)

-- what stands there is read
pub record ReadsOn {A : Type 0} (B : Class → ℕ → Type 0) (r : Scope → Opened → Spot → Reading (A × Spot)) (scope : Scope) (at : Spot) (v : A) (to : Spot) : Type 0 where
  pub opened : Opened
  pub spot : Spot
  pub looks : look_at scope at.place at.rest ≡ Ok (begun opened spot)
  pub opens : identifier_at scope at.place at.rest ≡ Ok (opened, spot)
  pub allowed : B opened.class opened.number
  pub reads : r scope opened spot ≡ Ok (v, to)
  pub shorter : length to.rest < length at.rest

pub reads_on : {A : Type 0} (B : Class → ℕ → Type 0) (r : Scope → Opened → Spot → Reading (A × Spot)) (P : RelationOf A) → Only B r P → (scope : Scope) (at : Spot) (v : A) (to : Spot) → Stands P scope at v to → ReadsOn B r scope at v to
reads_on {A} B r P only scope at v to h =
    let here : IsIn scope (at.place + length h.text) = in_within scope (at.place + length h.text) (subst (IsWithin scope) h.onward h.within) in
    let b = only.only scope at.place v h.text to.rest h.spelled here in
    let onward : at.place + length h.text ≡ to.place = sym h.onward in
    let some : length h.text ≡ suc (length b.others) = ap length b.begins in
    let whole : length at.rest ≡ length h.text + length to.rest = ap length h.parts ∙ length-append h.text to.rest in
    record {
      opened = b.opened;
      spot = b.spot;
      looks = ap (look_at scope at.place) h.parts ∙ begun_again B r scope at.place h.text to.rest v b here;
      opens = ap (identifier_at scope at.place) h.parts ∙ b.opens;
      allowed = b.allowed;
      reads = b.reads ∙ ap (λ (n : ℕ). done {A = A × Spot} (v, record { place = n; rest = to.rest })) onward;
      shorter = omega arith;
    }

finish_fails : {T : Type 0} (place : ℕ) (o : Option T) (b : Spot) (f : ReadFault) → o ≡ None → IsAt place Missing f → (finish place o >>= λ x. done {A = T × Spot} (x, b)) ≡ failed f
finish_fails {T} place o b f none is = ap (λ (z : Option T). finish place z >>= λ x. done {A = T × Spot} (x, b)) none ∙ refused {A = T × Spot} place Missing f is

finish_err : {T : Type 0} (place : ℕ) (o : Option T) (b : Spot) (f : ReadFault) → (finish place o >>= λ x. done {A = T × Spot} (x, b)) ≡ failed f → (o ≡ None) × IsAt place Missing f
finish_err {T} place None b f e = (refl, refusal_is {A = T × Spot} place Missing f e)
finish_err {T} place (Some x) b f e = absurd (not_err {A = T × Spot} (x, b) f e)

module _ {S T : Type 0} (step : Step S) (finished : S → Option T) (P : Goes S) (W : S → Wrong) where
  -- ---- what is read is a fault by the grammar

  by_ahead : ((a : S) → Found (step a) (P a)) → ((a : S) → StepFinds (step a) (W a)) → (scope : Scope) (turns : ℕ) (state : S) (at : Spot) (f : ReadFault) → (f ≡ Short → ⊥) → AreOctets at.rest → IsIn scope at.place
      → ((next : S) (m : Spot) → AreOctets m.rest → IsIn scope m.place → items_at step finished turns next scope m ≡ Err f → ItemsFault P finished W scope next m f)
      → (a : Ahead) → look_at scope at.place at.rest ≡ Ok a → item_at step finished (λ next after. items_at step finished turns next scope after) state scope a ≡ Err f → ItemsFault P finished W scope state at f
  by_ahead found finds scope turns state at f ne are here later (ended p b) look e =
      let x = ends_found scope at p b here look in
      let y = finish_err p (finished state) b f e in
      item_lacks state at b f x.1 y.0 (subst (λ (q : ℕ). IsAt q Missing f) x.0 y.1)
  by_ahead found finds scope turns state at f ne are here later (begun o s) look e =
      let begins = begins_found scope at o s are here look in
      elim (bind_err (step state scope o s) (λ x. items_at step finished turns x.0 scope x.1) f e) [
        | inl t ↦ item_inside state at o s f begins ((finds state).finds scope at o s f ne are begins t)
        | inr t ↦
            let r = (found state).found scope at.place at.rest o s t.0.0 t.0.1 are (opens_read scope at.place at.rest o s begins.opens) t.1 in
            item_behind state t.0.0 at t.0.1 f (stands_of (P state) scope at t.0.0 t.0.1 r) (later t.0.0 t.0.1 (taken_octets at.place at.rest r.text t.0.1 r.taken are) r.is_in t.2)
      ]

  items_err : ((a : S) → Found (step a) (P a)) → ((a : S) → StepFinds (step a) (W a)) → (scope : Scope) (turns : ℕ) (state : S) (at : Spot) (f : ReadFault) → (f ≡ Short → ⊥) → AreOctets at.rest → IsIn scope at.place
      → items_at step finished turns state scope at ≡ Err f → ItemsFault P finished W scope state at f
  unfolding items_at
  items_err found finds scope zero state at f ne are here e = absurd (ne (sym (err_is {A = T × Spot} Short f e)))
  items_err found finds scope (suc turns) state at f ne are here e =
      elim (bind_err (look_at scope at.place at.rest) (λ a. item_at step finished (λ next after. items_at step finished turns next scope after) state scope a) f e) [
        | inl t ↦ item_ahead state at f (look_err scope at.place at.rest f ne are t)
        | inr t ↦ by_ahead found finds scope turns state at f ne are here (λ next m o i g. items_err found finds scope turns next m f ne o i g) t.0 t.1 t.2
      ]

  pub all_finds : ((a : S) → Found (step a) (P a)) → ((a : S) → StepFinds (step a) (W a)) → (first : S) → BodyFinds (all_items_at step finished first) (λ x b f. ItemsFault P finished W x first b f)
  all_finds found finds first = record { finds = λ x s f ne are here e. items_err found finds x (suc (length s.rest)) first s f ne are here e }

  -- ---- a fault by the grammar is read

  items_fail : (B : Class → ℕ → Type 0) → ((a : S) → Only B (step a) (P a)) → ((a : S) → StepTells (step a) (W a)) → (scope : Scope) (turns : ℕ) (state : S) (at : Spot) (f : ReadFault) → AreOctets at.rest → length at.rest < turns
      → ItemsFault P finished W scope state at f → items_at step finished turns state scope at ≡ Err f
  unfolding items_at
  items_fail B only tells scope zero state at f are lt h = absurd (omega arith)
  items_fail B only tells scope (suc turns) _ _ _ are lt (item_ahead state at f c) = bind_fails (look_at scope at.place at.rest) _ f (look_fails scope at.place at.rest f c)
  items_fail B only tells scope (suc turns) _ _ _ are lt (item_lacks state at b f ends none is) =
      bind_goes (look_at scope at.place at.rest) _ (ended at.place b) (failed f) (ends_read scope at b ends) (finish_fails at.place (finished state) b f none is)
  items_fail B only tells scope (suc turns) _ _ _ are lt (item_inside state at o s f begins w) =
      bind_goes (look_at scope at.place at.rest) _ (begun o s) (failed f) (begins_read scope at o s begins)
      (bind_fails (step state scope o s) _ f ((tells state).tells scope at o s f are begins w))
  items_fail B only tells scope (suc turns) _ _ _ are lt (item_behind state next at to f stands h) =
      let r = reads_on B (step state) (P state) (only state) scope at next to stands in
      let less : length to.rest < turns = let k = r.shorter in omega arith in
      bind_goes (look_at scope at.place at.rest) _ (begun r.opened r.spot) (failed f) r.looks
      (bind_goes (step state scope r.opened r.spot) _ (next, to) (failed f) r.reads (items_fail B only tells scope turns next to f (octets_of_stands (P state) scope at next to stands are) less h))

  pub all_tells : (B : Class → ℕ → Type 0) → ((a : S) → Only B (step a) (P a)) → ((a : S) → StepTells (step a) (W a)) → (first : S) → BodyTells (all_items_at step finished first) (λ x b f. ItemsFault P finished W x first b f)
  all_tells B only tells first = record { tells = λ x s f are h. items_fail B only tells x (suc (length s.rest)) first s f are (omega arith) h }
