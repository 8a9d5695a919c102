-- What is spelled with some turns is spelled with more, and with as many as the row's number asks for.
use Rattle.std.proofs.Common.{◌≡◌, ℕ, zero, suc, ◌+◌, ◌<◌, Bool, true, false, List, [], ◌∷◌, Option, Some, None, ◌⊎◌, inl, inr, refl, subst, arith}
use Rattle.std.specs.Prelude.{slice_get}
use Rattle.asn1_types.specs.declared.row.Part.{Part}
use Rattle.asn1_types.specs.declared.row.TypeRow.{TypeRow}
use Rattle.asn1_types.specs.declared.row.TypeRow.TheVariants as row
use Rattle.asn1_types.specs.declared.row.Class.TheVariants.{Universal}
use Rattle.std.specs.List.{AllByRecursion}
use Rattle.asn1_types.specs.Rows.{rows_of_parts, names_of}
use Rattle.asn1_types.specs.Table.{AreSoundRows}
use Rattle.asn1_types.proofs.Sound.{is_down}
use Rattle.asn1_types.specs.Value.{Value, parts, chosen, MaybeValues, no_parts, absent, present}
use Rattle.asn1_types.specs.declared.row.Tag as tags
use Rattle.asn1_types.specs.Tags.{tag_or}
use Rattle.asn1_types.specs.Writing.{written}
use Rattle.ber_spelling.specs.Rules.{Guise, plain, nothing_filled}
use Rattle.ber_spelling.specs.Spelling.{Spelled, IsConstructed, IsDefinite, IsIndefinite, PartIs, PartsAre, SequenceIs, Steps, ListStep, ListIs, SetItemStep, SetOfIs, SetStep, SetIs, ChoiceIs, OrExplicit, RowIs, RowOr, SpelledBy}

pub constructed_more : (tag : tags.Tag) (strict : Bool) (levels : ℕ) (P Q : ℕ → List ℕ → Type 0) → ((l : ℕ) (c : List ℕ) → P l c → Q l c) → (s : List ℕ) → IsConstructed tag strict levels P s → IsConstructed tag strict levels Q s
constructed_more tag strict levels P Q k s p = record { inner = p.inner; level = p.level; small = p.small; form = by_form p.form }
  where
    by_form : IsDefinite strict true tag (P p.inner) s ⊎ ((strict ≡ false) × IsIndefinite tag (P p.inner) s) → IsDefinite strict true tag (Q p.inner) s ⊎ ((strict ≡ false) × IsIndefinite tag (Q p.inner) s)
    by_form (inl f) = inl (record { head = f.head; size = f.size; contents = f.contents; is_identifier = f.is_identifier; is_length = f.is_length; holds = k p.inner f.contents f.holds; are = f.are })
    by_form (inr f) = inr (f.0, record { head = f.1.head; contents = f.1.contents; is_identifier = f.1.is_identifier; holds = k p.inner f.1.contents f.1.holds; are = f.1.are })

pub steps_more : {S : Type 0} (R Q : S → S → List ℕ → Type 0) → ((a b : S) (s : List ℕ) → R a b s → Q a b s) → (steps : List (List ℕ × S)) (first last : S) (c : List ℕ) → Steps R steps first last c → Steps Q steps first last c
steps_more R Q k [] first last c p = p
steps_more R Q k (s ∷ more) first last c p = (p.0, p.1, k first s.1 s.0 p.2, steps_more R Q k more s.1 last p.0 p.3)

module _ (spell : ℕ → Value → List ℕ) (inner other : ℕ → Spelled) where
  -- what is spelled by the one is spelled by the other
  abbrev Turned : ℕ → Type 0
  Turned m = (g : Guise) (strict : Bool) (levels : ℕ) (v : Value) (s : List ℕ) → inner m g strict levels v s → other m g strict levels v s

  abbrev AllTurned : List ℕ → Type 0
  AllTurned ns = AllByRecursion Turned ns

  nth_turned : (ps : List Part) (i : ℕ) (p : Part) → AllTurned (rows_of_parts ps) → slice_get ps i ≡ Some p → Turned p.inner.0
  nth_turned [] i p h e = absurd cc
  nth_turned (q ∷ ps) zero p h e = let same : q ≡ p = cc in subst (λ (x : Part). Turned x.inner.0) same h.0
  nth_turned (q ∷ ps) (suc i) p h e = nth_turned ps i p h.1 e

  part_turned : (p : Part) → Turned p.inner.0 → (strict : Bool) (levels : ℕ) (o : Option Value) (s : List ℕ) → PartIs (inner p.inner.0) strict levels p o s → PartIs (other p.inner.0) strict levels p o s
  part_turned p h strict levels o s (inl a) = inl a
  part_turned p h strict levels o s (inr a) = inr (a.0, a.1, h _ strict levels a.0 s a.2)

  parts_turned : (ps : List Part) → AllTurned (rows_of_parts ps) → (strict : Bool) (levels : ℕ) (vs : MaybeValues) (c : List ℕ) → PartsAre inner strict levels ps vs c → PartsAre other strict levels ps vs c
  parts_turned [] h strict levels no_parts c p = p
  parts_turned [] h strict levels (absent vs) c p = absurd p
  parts_turned [] h strict levels (present v vs) c p = absurd p
  parts_turned (q ∷ ps) h strict levels no_parts c p = absurd p
  parts_turned (q ∷ ps) h strict levels (absent vs) c p = (p.0, p.1, p.2, part_turned q h.0 strict levels None p.0 p.3, parts_turned ps h.1 strict levels vs p.1 p.4)
  parts_turned (q ∷ ps) h strict levels (present v vs) c p = (p.0, p.1, p.2, part_turned q h.0 strict levels (Some v) p.0 p.3, parts_turned ps h.1 strict levels vs p.1 p.4)

  sequence_turned : (ps : List Part) → AllTurned (rows_of_parts ps) → (strict : Bool) (v : Value) (levels : ℕ) (c : List ℕ) → SequenceIs inner strict ps v levels c → SequenceIs other strict ps v levels c
  sequence_turned ps h strict (parts vs) levels c p = parts_turned ps h strict levels vs c p
  sequence_turned ps h strict v levels c p = absurd p

  list_turned : (n : ℕ) → Turned n → (strict : Bool) (v : Value) (levels : ℕ) (c : List ℕ) → ListIs (inner n) strict v levels c → ListIs (other n) strict v levels c
  list_turned n h strict v levels c p =
      (p.0, p.1, p.2, steps_more (λ a b s. ListStep (inner n) a strict levels b s) (λ a b s. ListStep (other n) a strict levels b s) (λ a b s q. (q.0, q.1, h plain strict levels q.0 s q.2)) p.2 [] p.0 c p.3)

  set_of_turned : (n : ℕ) → Turned n → (strict : Bool) (v : Value) (levels : ℕ) (c : List ℕ) → SetOfIs (spell n) (inner n) strict v levels c → SetOfIs (spell n) (other n) strict v levels c
  set_of_turned n h strict v levels c p =
      (p.0, p.1, p.2, steps_more (λ a b s. SetItemStep (spell n) (inner n) a strict levels b s) (λ a b s. SetItemStep (spell n) (other n) a strict levels b s) (λ a b s q. (q.0, q.1, h plain strict levels q.0 s q.2, q.3)) p.2 [] p.0 c p.3)

  set_turned : (ps : List Part) → AllTurned (rows_of_parts ps) → (strict : Bool) (v : Value) (levels : ℕ) (c : List ℕ) → SetIs inner ps strict v levels c → SetIs other ps strict v levels c
  set_turned ps h strict v levels c p =
      (p.0, p.1, p.2, steps_more (λ a b s. SetStep inner ps a strict levels b s) (λ a b s. SetStep other ps a strict levels b s) (λ a b s q. (q.0, q.1, q.2, q.3, q.4, nth_turned ps q.0 q.1 h q.3 _ strict levels q.2 s q.5, q.6, q.7)) p.2 (nothing_filled ps) p.0 c p.3)

  choice_turned : (ps : List Part) → AllTurned (rows_of_parts ps) → (strict : Bool) (levels : ℕ) (v : Value) (s : List ℕ) → ChoiceIs inner ps strict levels v s → ChoiceIs other ps strict levels v s
  choice_turned ps h strict levels (chosen which v) s p = (p.0, p.1, nth_turned ps which p.0 h p.1 plain strict levels v s p.2)
  choice_turned ps h strict levels v s p = absurd p

  or_turned : (ps : List Part) → AllTurned (rows_of_parts ps) → (t : Option tags.Tag) (strict : Bool) (levels : ℕ) (v : Value) (s : List ℕ) → OrExplicit (ChoiceIs inner ps) t strict levels v s → OrExplicit (ChoiceIs other ps) t strict levels v s
  or_turned ps h None strict levels v s p = choice_turned ps h strict levels v s p
  or_turned ps h (Some t) strict levels v s p = constructed_more t strict levels _ _ (λ l c q. choice_turned ps h strict l v c q) s p

  row_turned : (r : TypeRow) → AllTurned (names_of r) → (g : Guise) (strict : Bool) (levels : ℕ) (v : Value) (s : List ℕ) → RowIs spell inner r g strict levels v s → RowIs spell other r g strict levels v s
  row_turned row.Boolean h g strict levels v s p = p
  row_turned (row.Integer low high) h g strict levels v s p = p
  row_turned (row.Enumerated items) h g strict levels v s p = p
  row_turned row.Null h g strict levels v s p = p
  row_turned (row.OctetString most) h g strict levels v s p = p
  row_turned row.BitString h g strict levels v s p = p
  row_turned row.ObjectId h g strict levels v s p = p
  row_turned (row.Text kind) h g strict levels v s p = p
  row_turned (row.Sequence ps) h g strict levels v s p = constructed_more (tag_or g.tag Universal 16) strict levels _ _ (λ l c q. sequence_turned ps h strict v l c q) s p
  row_turned (row.Set ps) h g strict levels v s p = constructed_more (tag_or g.tag Universal 17) strict levels _ _ (λ l c q. set_turned ps h strict v l c q) s p
  row_turned (row.SequenceOf of) h g strict levels v s p = constructed_more (tag_or g.tag Universal 16) strict levels _ _ (λ l c q. list_turned of.0 h.0 strict v l c q) s p
  row_turned (row.SetOf of) h g strict levels v s p = constructed_more (tag_or g.tag Universal 17) strict levels _ _ (λ l c q. set_of_turned of.0 h.0 strict v l c q) s p
  row_turned (row.Choice ps) h g strict levels v s p = or_turned ps h g.tag strict levels v s p
  row_turned (row.Tagged class number true of) h g strict levels v s p = constructed_more (tag_or g.tag class number) strict levels _ _ (λ l c q. h.0 _ strict l v c q) s p
  row_turned (row.Tagged class number false of) h g strict levels v s p = h.0 _ strict levels v s p
  row_turned row.Any h g strict levels v s p = p

  row_or_turned : (o : Option TypeRow) → ((r : TypeRow) → o ≡ Some r → AllTurned (names_of r)) → (g : Guise) (strict : Bool) (levels : ℕ) (v : Value) (s : List ℕ) → RowOr (RowIs spell inner) o g strict levels v s → RowOr (RowIs spell other) o g strict levels v s
  row_or_turned None h g strict levels v s p = absurd p
  row_or_turned (Some r) h g strict levels v s p = row_turned r (h r refl) g strict levels v s p

  pub all_turned : (ns : List ℕ) → ((m : ℕ) → Turned m) → AllTurned ns
  all_turned [] h = tt
  all_turned (m ∷ ns) h = (h m, all_turned ns h)

  -- of names below one
  below_turned : (n : ℕ) (ns : List ℕ) → AllByRecursion (λ m. m < n) ns → ((m : ℕ) → m < n → Turned m) → AllTurned ns
  below_turned n [] b h = tt
  below_turned n (m ∷ ns) b h = (h m b.0, below_turned n ns b.1 h)

pub one_more : (rows : List TypeRow) (turns n : ℕ) (g : Guise) (strict : Bool) (levels : ℕ) (v : Value) (s : List ℕ) → SpelledBy rows turns n g strict levels v s → SpelledBy rows (suc turns) n g strict levels v s
one_more rows zero n g strict levels v s p = absurd p
one_more rows (suc turns) n g strict levels v s p =
    row_or_turned (written rows) (SpelledBy rows turns) (SpelledBy rows (suc turns)) (slice_get rows n) (λ r e. all_turned (written rows) (SpelledBy rows turns) (SpelledBy rows (suc turns)) (names_of r) (λ m. one_more rows turns m)) g strict levels v s p

pub turns_more : (rows : List TypeRow) (more turns n : ℕ) (g : Guise) (strict : Bool) (levels : ℕ) (v : Value) (s : List ℕ) → SpelledBy rows turns n g strict levels v s → SpelledBy rows (turns + more) n g strict levels v s
turns_more rows zero turns n g strict levels v s p = let none : turns ≡ turns + zero = omega arith in subst (λ (k : ℕ). SpelledBy rows k n g strict levels v s) none p
turns_more rows (suc more) turns n g strict levels v s p =
    let one : suc turns + more ≡ turns + suc more = omega arith in
    subst (λ (k : ℕ). SpelledBy rows k n g strict levels v s) one (turns_more rows more (suc turns) n g strict levels v s (one_more rows turns n g strict levels v s p))

-- each row names lower ones alone, so a turn for each row up to it is enough
one_less : (rows : List TypeRow) → AreSoundRows rows → (turns n : ℕ) → n < turns → (g : Guise) (strict : Bool) (levels : ℕ) (v : Value) (s : List ℕ) → SpelledBy rows (suc turns) n g strict levels v s → SpelledBy rows turns n g strict levels v s
one_less rows sound zero n l g strict levels v s p = absurd (omega arith)
one_less rows sound (suc turns) n l g strict levels v s p =
    row_or_turned (written rows) (SpelledBy rows (suc turns)) (SpelledBy rows turns) (slice_get rows n)
    (λ r e. below_turned (written rows) (SpelledBy rows (suc turns)) (SpelledBy rows turns) n (names_of r) ((is_down rows sound).lower n r e) (λ m b. one_less rows sound turns m (omega arith))) g strict levels v s p

pub turns_fewer : (rows : List TypeRow) → AreSoundRows rows → (more turns n : ℕ) → n < turns → (g : Guise) (strict : Bool) (levels : ℕ) (v : Value) (s : List ℕ) → SpelledBy rows (turns + more) n g strict levels v s → SpelledBy rows turns n g strict levels v s
turns_fewer rows sound zero turns n l g strict levels v s p = let none : turns + zero ≡ turns = omega arith in subst (λ (k : ℕ). SpelledBy rows k n g strict levels v s) none p
turns_fewer rows sound (suc more) turns n l g strict levels v s p =
    let one : turns + suc more ≡ suc (turns + more) = omega arith in
    turns_fewer rows sound more turns n l g strict levels v s
    (one_less rows sound (turns + more) n (omega arith) g strict levels v s (subst (λ (k : ℕ). SpelledBy rows k n g strict levels v s) one p))
