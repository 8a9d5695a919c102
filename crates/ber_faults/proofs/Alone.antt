-- An identifier behind which no octet stands: the fault that it has by itself is read so, whatever the table.
use Rattle.std.proofs.Common.{◌≡◌, ℕ, suc, ◌+◌, Bool, true, List, [], ◌∷◌, ◌++◌, Option, Some, None, Err, sym, ◌∙◌, subst, arith, inl, inr}
use Rattle.osi_base.specs.declared.layer_words.Kind.TheVariants.{Tag, Length}
use Rattle.asn1_types.specs.declared.row.Class.{Class}
use Rattle.asn1_types.specs.declared.row.Part.{Part}
use Rattle.asn1_types.specs.declared.row.Tag as tags
use Rattle.asn1_types.specs.Value.{Value, chosen}
use Rattle.ber_spelling.specs.declared.fault.ReadFault.TheVariants.{NotSpelled, TooLong}
use Rattle.ber_spelling.specs.declared.spot.Scope.{Scope}
use Rattle.osi_base.specs.Octets.{AreOctets}
use Rattle.ber_spelling.specs.Reading.{Spot, Opened, ◌>>=◌}
use Rattle.ber_spelling.specs.Fields.{extent_at}
use Rattle.ber_spelling.specs.Rules.{Reader, constructed_at, explicit_at, choice_at, or_explicit, plain}
use Rattle.ber_spelling.specs.Spelling.{IsLength}
use Rattle.ber_spelling.proofs.Identifiers.{IsIn, done}
use Rattle.ber_spelling.proofs.Steady.{Run, RunOf}
use Rattle.ber_spelling.proofs.Constructed.{BodyOf, explicit_body, explicit_same}
use Rattle.ber_faults.specs.Fields.{Crosses, ExtentFault, Extends}
use Rattle.ber_faults.specs.Values.{Wrong, WrongAs, WrongIn, BodyFault, ConstructedFault, OneFault, OrExplicitFault, ChoiceFault}
use Rattle.ber_faults.proofs.Steps.{bind_fails, cond_yes, cond_no}
use Rattle.ber_faults.proofs.Readers.{Tells, tag_fails, refused}

pub no_octets : AreOctets []
no_octets = record { each = λ i. omega arith }

-- a reader gives the wrong tags of a relation where no octet follows
pub record TellsAlone {A : Type 0} (r : RunOf A) (W : Wrong) : Type 0 where
  pub alone : (scope : Scope) (o : Opened) (s : Spot) (place : ℕ) → s.rest ≡ [] → IsIn scope s.place → W scope o s (NotSpelled place Tag) → r scope o s ≡ Err (NotSpelled place Tag)

pub alone_of : {A : Type 0} (r : RunOf A) (W : Wrong) → Tells r W → TellsAlone r W
alone_of r W h = record { alone = λ scope o s place none here w. h.tells scope o s (NotSpelled place Tag) (subst AreOctets (sym none) no_octets) here w }

-- ---- constructed values

no_crossing : (scope : Scope) (from until place : ℕ) → Crosses scope from until (NotSpelled place Tag) → ⊥
no_crossing scope from until place (inl c) = let wrong : NotSpelled place Tag ≡ TooLong from = c.1 in absurd cc
no_crossing scope from until place (inr c) = let wrong : NotSpelled place Tag ≡ NotSpelled from Length = c.2 in absurd cc

no_extent : (scope : Scope) (from : ℕ) (octets : List ℕ) (place : ℕ) → octets ≡ [] → ExtentFault scope from octets (NotSpelled place Tag) → ⊥
no_extent scope from [] place none h = no_crossing scope from (from + 1) place h.1
no_extent scope from (first ∷ rest) place none h = absurd cc

no_extending : (scope : Scope) (s : Spot) (x : Scope) (b : Spot) → s.rest ≡ [] → Extends scope s x b → ⊥
no_extending scope s x b none (inl h) = by_size h.0 h.2 (sym h.3 ∙ none)
  where
    by_size : (size : List ℕ) → IsLength scope.strict size h.1 → size ++ b.rest ≡ [] → ⊥
    by_size [] l e = l
    by_size (first ∷ digits) l e = absurd cc
no_extending scope s x b none (inr h) = let wrong : ◌≡◌ {A = List ℕ} (128 ∷ b.rest) [] = sym h.1 ∙ none in absurd cc

no_body : (Inside : WrongIn) (scope : Scope) (s : Spot) (place : ℕ) → s.rest ≡ [] → BodyFault Inside scope s (NotSpelled place Tag) → ⊥
no_body Inside scope s place none (inl e) = no_extent scope s.place s.rest place none e
no_body Inside scope s place none (inr e) = no_extending scope s e.0 e.1 none e.2

pub constructed_alone : {A : Type 0} (body : BodyOf A) (tag : tags.Tag) (Inside : WrongIn) → TellsAlone (constructed_at body tag) (ConstructedFault tag Inside)
constructed_alone body tag Inside = record {
  alone = λ scope o s place none here w.
      tag_fails tag true o (λ _. extent_at scope s.place s.rest >>= λ x. body x.0 x.1) (NotSpelled place Tag) (elim w [
        | inl k ↦ inl k
        | inr k ↦ absurd (no_body Inside scope s place none k.1)
      ]);
}

pub explicit_alone : (run : Run) (P : Bool → ℕ → Value → List ℕ → Type 0) (W : Wrong) (tag : tags.Tag) → TellsAlone (explicit_at run tag) (ConstructedFault tag (OneFault P W))
explicit_alone run P W tag = subst (λ (r : Run). TellsAlone r (ConstructedFault tag (OneFault P W))) (explicit_same run tag) (constructed_alone (explicit_body run) tag (OneFault P W))

pub or_alone : (run : Run) (P : Bool → ℕ → Value → List ℕ → Type 0) (W : Wrong) (t : Option tags.Tag) → TellsAlone run W → TellsAlone (or_explicit run t) (OrExplicitFault P W t)
or_alone run P W None h = h
or_alone run P W (Some t) h = explicit_alone run P W t

-- ---- CHOICE

module _ (begins : ℕ → Class → ℕ → Bool) (inner : ℕ → Reader) (W : ℕ → WrongAs) (each : (n : ℕ) → TellsAlone (inner n plain) (W n plain)) where
  pub choice_alone : (which : ℕ) (ps : List Part) → TellsAlone (choice_at begins inner which ps) (ChoiceFault begins W ps)
  unfolding choice_at
  choice_alone which [] = record { alone = λ scope o s place none here w. refused {A = Value × Spot} o.start.place Tag (NotSpelled place Tag) w }
  choice_alone which (p ∷ ps) = record {
    alone = λ scope o s place none here w.
        elim w [
          | inl t ↦ cond_yes (begins p.inner.0 o.class o.number) _ _ _ t.0 (bind_fails (inner p.inner.0 plain scope o s) (λ v. done {A = Value × Spot} (chosen which v.0, v.1)) (NotSpelled place Tag) ((each p.inner.0).alone scope o s place none here t.1))
          | inr t ↦ cond_no (begins p.inner.0 o.class o.number) _ _ _ t.0 ((choice_alone (suc which) ps).alone scope o s place none here t.1)
        ];
  }
