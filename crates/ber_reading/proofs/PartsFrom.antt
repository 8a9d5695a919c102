-- Parts read from where the next may stand are those read from what stands there.
use Rattle.std.proofs.Common.{◌≡◌, ℕ, ◌+◌, ◌<◌, ◌≤◌, Bool, true, false, length, drop, get_or, add-one, drop-cons, List, [], ◌∷◌, ◌++◌, Option, None, Ok, Err, refl, sym, ap, ◌∙◌, append_assoc, append-nil}
use Rattle.std.specs.Prelude.{if◌then◌else◌}
use Rattle.std.proofs.lemmas.List.{drop_all}
use Rattle.osi_base.specs.declared.layer_words.Kind.TheVariants.{Missing}
use Rattle.asn1_types.specs.Value.{Value, parts}
use Rattle.asn1_types.specs.ValueView.{parts_of}
use Rattle.asn1_types.specs.declared.row.Class.{Class}
use Rattle.asn1_types.specs.declared.row.Part.{Part}
use Rattle.asn1_types.specs.Defaults.{may_be_absent, kept}
use Rattle.ber_spelling.specs.declared.fault.ReadFault.{ReadFault}
use Rattle.ber_spelling.specs.declared.spot.Scope.{Scope}
use Rattle.asn1_types.specs.declared.row.Tag as tags
use Rattle.ber_spelling.specs.Reading.{Spot, Opened, Ahead, ended, begun, Reading, ◌>>=◌, FailsWith, refuse}
use Rattle.ber_spelling.specs.Fields.{look_at, extent_at}
use Rattle.ber_spelling.specs.Rules.{Reader, part_at, parts_at, present_at, end_ahead, close_at, expect_at, sequence_at, bare}
use Rattle.ber_spelling.proofs.Steps.{FailsWith-bind, FailsWith-same}
use Rattle.ber_reading.specs.Parts.{taken_at, absent_at, found_at, part_from, parts_from, parts_behind}

abbrev Parts : Type 0
Parts = Reading (List (Option Value) × Spot)

abbrev cons : Option Value → List (Option Value) × Spot → Parts
cons o more = Ok (o ∷ more.0, more.1)

abbrev seen : Option Value → Ahead → Reading (Option Value × Ahead)
seen o a = Ok (o, a)

abbrev taken : Part → Value × Spot → Reading (Option Value × Spot)
taken p v = Ok (kept p v.0, v.1)

abbrev still : Bool → ℕ → Ahead → Reading (Option Value × Ahead)
still may place a = if may then Ok (None, a) else refuse place Missing

module _ (begins : ℕ → Class → ℕ → Bool) (inner : ℕ → Reader) (scope : Scope) where
  abbrev ahead_all : List Part → Option Value × Ahead → Parts
  ahead_all ps x = parts_at begins inner scope x.1 ps >>= cons x.0

  abbrev from_all : List Part → Option Value × Spot → Parts
  from_all ps x = parts_from begins inner scope x.1 ps >>= cons x.0

  looked_goes : (ps : List Part) (o : Option Value) (read : Reading Ahead)
      → ((read >>= seen o) >>= ahead_all ps) ≡ ((read >>= λ a. parts_at begins inner scope a ps) >>= cons o)
  looked_goes ps o (Ok a) = refl
  looked_goes ps o (Err e) = refl

  -- behind a value that was read the next thing is looked at
  present_goes : (p : Part) (ps : List Part) (read : Reading (Value × Spot))
      → ((read >>= λ v. look_at scope v.1.place v.1.rest >>= seen (kept p v.0)) >>= ahead_all ps) ≡ ((read >>= taken p) >>= from_all ps)
  unfolding parts_from
  present_goes p ps (Ok v) = looked_goes ps (kept p v.0) (look_at scope v.1.place v.1.rest)
  present_goes p ps (Err e) = refl

  -- a part that isn't there leaves all as it is
  absent_goes : (ps : List Part) (may : Bool) (place : ℕ) (s : Spot) (a : Ahead) → look_at scope s.place s.rest ≡ Ok a
      → (still may place a >>= ahead_all ps) ≡ (absent_at may place s >>= from_all ps)
  unfolding parts_from
  absent_goes ps true place s a look = rw look refl
  absent_goes ps false place s a look = refl

  begins_goes : (p : Part) (ps : List Part) (s : Spot) (o : Opened) (t : Spot) → look_at scope s.place s.rest ≡ Ok (begun o t) → (b : Bool)
      → ((if b then present_at (inner p.inner.0) p scope (begun o t) else still (may_be_absent p) o.start.place (begun o t)) >>= ahead_all ps)
      ≡ ((if b then taken_at (inner p.inner.0) p scope (begun o t) else absent_at (may_be_absent p) o.start.place s) >>= from_all ps)
  begins_goes p ps s o t look true = present_goes p ps (inner p.inner.0 (bare p.default) scope o t)
  begins_goes p ps s o t look false = absent_goes ps (may_be_absent p) o.start.place s (begun o t) look

  found_goes : (p : Part) (ps : List Part) (s : Spot) (a : Ahead) → look_at scope s.place s.rest ≡ Ok a
      → parts_at begins inner scope a (p ∷ ps) ≡ (found_at begins (inner p.inner.0) p scope s a >>= from_all ps)
  unfolding parts_at part_at
  found_goes p ps s (ended place after) look = absent_goes ps (may_be_absent p) place s (ended place after) look
  found_goes p ps s (begun o t) look = begins_goes p ps s o t look (begins p.inner.0 o.class o.number)

  looks_goes : (p : Part) (ps : List Part) (s : Spot) (read : Reading Ahead) → look_at scope s.place s.rest ≡ read
      → (read >>= λ a. parts_at begins inner scope a (p ∷ ps)) ≡ ((read >>= λ a. found_at begins (inner p.inner.0) p scope s a) >>= from_all ps)
  looks_goes p ps s (Ok a) look = found_goes p ps s a look
  looks_goes p ps s (Err e) look = refl

  -- one part, and those behind it
  pub part_goes : (p : Part) (ps : List Part) (s : Spot)
      → parts_from begins inner scope s (p ∷ ps) ≡ (part_from begins (inner p.inner.0) p scope s >>= from_all ps)
  unfolding parts_from part_from
  part_goes p ps s = looks_goes p ps s (look_at scope s.place s.rest) refl

behind_fails : (e : ReadFault) (front : List (Option Value)) (read : Parts) → FailsWith e read → FailsWith e (parts_behind front read)
behind_fails e front read h = FailsWith-bind e read _ h

regroup : (front : List (Option Value)) (o : Option Value) (read : Parts) → parts_behind front (read >>= cons o) ≡ parts_behind (front ++ o ∷ []) read
regroup front o (Ok x) = ap (λ (os : List (Option Value)). Ok (os, x.1)) (simp append_assoc)
regroup front o (Err f) = refl

module _ (begins : ℕ → Class → ℕ → Bool) (inner : ℕ → Reader) (scope : Scope) (ps : List Part) (i : ℕ) (p : Part) (front : List (Option Value)) (s : Spot) (total : Parts) (lt : i < length ps) (at : p ≡ get_or ps i p) (so_far : parts_behind front (parts_from begins inner scope s (drop i ps)) ≡ total) where
  cell : drop i ps ≡ p ∷ drop (i + 1) ps
  cell = rw (add-one, drop-cons ps i p lt, ← at) refl

  pub part_fails : (e : ReadFault) → FailsWith e (part_from begins (inner p.inner.0) p scope s) → FailsWith e total
  part_fails e h =
      let now : FailsWith e (parts_from begins inner scope s (drop i ps)) = rw (cell, part_goes begins inner scope p (drop (i + 1) ps) s) (FailsWith-bind e (part_from begins (inner p.inner.0) p scope s) _ h) in
      FailsWith-same e _ total so_far (behind_fails e front _ now)

  pub part_goes_on : (o : Option Value) (next : Spot) → part_from begins (inner p.inner.0) p scope s ≡ Ok (o, next)
      → parts_behind (front ++ o ∷ []) (parts_from begins inner scope next (drop (i + 1) ps)) ≡ total
  part_goes_on o next read =
      let one : parts_behind front (parts_from begins inner scope s (drop i ps)) ≡ parts_behind (front ++ o ∷ []) (parts_from begins inner scope next (drop (i + 1) ps)) =
      rw (cell, part_goes begins inner scope p (drop (i + 1) ps) s, read) (regroup front o (parts_from begins inner scope next (drop (i + 1) ps))) in
      sym one ∙ so_far

abbrev nothing_before : Spot → Parts
nothing_before after = Ok ([], after)

closes : (read : Reading Ahead) → (read >>= λ a. end_ahead a >>= nothing_before) ≡ ((read >>= end_ahead) >>= nothing_before)
closes (Ok (ended place after)) = refl
closes (Ok (begun opened after)) = refl
closes (Err e) = refl

module _ (begins : ℕ → Class → ℕ → Bool) (inner : ℕ → Reader) (scope : Scope) (ps : List Part) (i : ℕ) (front : List (Option Value)) (s : Spot) (total : Parts) (past : length ps ≤ i) (so_far : parts_behind front (parts_from begins inner scope s (drop i ps)) ≡ total) where
  parts_end : parts_from begins inner scope s (drop i ps) ≡ (close_at scope s >>= nothing_before)
  unfolding parts_from parts_at close_at
  parts_end = rw (drop_all i ps past) (closes (look_at scope s.place s.rest))

  pub end_fails : (e : ReadFault) → FailsWith e (close_at scope s) → FailsWith e total
  end_fails e h =
      let now : FailsWith e (parts_from begins inner scope s (drop i ps)) = rw parts_end (FailsWith-bind e (close_at scope s) _ h) in
      FailsWith-same e _ total so_far (behind_fails e front _ now)

  pub end_gives : (after : Spot) → close_at scope s ≡ Ok after → total ≡ Ok (front, after)
  end_gives after closed =
      let one : parts_behind front (parts_from begins inner scope s (drop i ps)) ≡ Ok (front ++ [], after) = rw (parts_end, closed) refl in
      sym so_far ∙ one ∙ ap (λ (os : List (Option Value)). Ok (os, after)) (append-nil front)

module _ (begins : ℕ → Class → ℕ → Bool) (inner : ℕ → Reader) (ps : List Part) (tag : tags.Tag) (scope inside : Scope) (o : Opened) (s m : Spot) (u : Unit {0}) (expected : expect_at tag true o ≡ Ok u) (extent : extent_at scope s.place s.rest ≡ Ok (inside, m)) where
  abbrev whole : Parts → Reading (Value × Spot)
  whole read = read >>= λ found. Ok (parts (parts_of found.0), found.1)

  looked_first : (read : Reading Ahead) → (read >>= λ a. parts_at begins inner inside a ps >>= λ found. Ok (parts (parts_of found.0), found.1)) ≡ whole (read >>= λ a. parts_at begins inner inside a ps)
  looked_first (Ok a) = refl
  looked_first (Err e) = refl

  sequence_from : sequence_at begins inner ps tag scope o s ≡ whole (parts_from begins inner inside m ps)
  unfolding sequence_at parts_from
  sequence_from = rw (expected, extent) (looked_first (look_at inside m.place m.rest))

  pub sequence_fails : (e : ReadFault) → FailsWith e (parts_from begins inner inside m ps) → FailsWith e (sequence_at begins inner ps tag scope o s)
  sequence_fails e h = rw sequence_from (FailsWith-bind e (parts_from begins inner inside m ps) _ h)

  pub sequence_gives : (found : List (Option Value)) (after : Spot) → parts_from begins inner inside m ps ≡ Ok (found, after) → sequence_at begins inner ps tag scope o s ≡ Ok (parts (parts_of found), after)
  sequence_gives found after h = sequence_from ∙ rw h refl
