-- Values that all of the octets are: what is read is spelled so, what is spelled so is read, and a fault is the first.
use Rattle.std.proofs.Common.{◌≡◌, ◌≢◌, ℕ, ◌+◌, ◌≤◌, ◌<◌, Bool, true, false, cond, List, [], ◌++◌, length, take, drop, Result, Ok, Err, refl, sym, ap, ◌∙◌, subst, arith}
use Rattle.std.specs.Prelude.{nat_eq}
use Rattle.std.proofs.lemmas.Bool.{eqb-true}
use Rattle.std.proofs.lemmas.List.{append-nil, take_at, take-append-drop, length-take}
use Rattle.std.proofs.Math.Seq.{take-length}
use Rattle.osi_base.specs.declared.layer_words.Kind.{Kind}
use Rattle.osi_base.specs.declared.layer_words.Kind.TheVariants.{Missing, Extra}
use Rattle.osi_base.specs.declared.layer_words.Kind.TheVariants as why
use Rattle.asn1_types.specs.declared.row.Class.{Class}
use Rattle.asn1_types.specs.Value.{Value}
use Rattle.ber_spelling.specs.declared.fault.ReadFault.TheVariants as faults
use Rattle.osi_base.specs.Octets.{AreOctets}
use Rattle.ber_spelling.specs.Reading.{Spot, Reading}
use Rattle.ber_spelling.specs.Fields.{identifier_at}
use Rattle.ber_spelling.specs.Rules.{outermost}
use Rattle.ber_spelling.proofs.Identifiers.{IsIn, bind_ok, ok_is}
use Rattle.ber_spelling.proofs.Growing.{Grows, Grows-bind, with_spot, with_opened, identifier_grows}
use Rattle.ber_spelling.proofs.Steady.{Run, Relation, Found, Only}
use Rattle.ber_spelling.proofs.Items.{GrowsRun}
use Rattle.ber_spelling.proofs.Inside.{Inside, Inside-bind, second, Begun, identifier_inside}
use Rattle.ber_spelling.proofs.InsideRules.{InsideRun}
use Rattle.fixed_tables.specs.declared.pdu.PduFault as units
use Rattle.fixed_tables.specs.declared.pdu.PduFault.TheVariants as unit
use Rattle.fixed_tables.specs.Whole.{of_whole}
use Rattle.passed_fields.specs.AllOctets.{front_at, all_at, IsFirstOf}

abbrev was : Value × ℕ → Reading (Value × ℕ)
was x = Ok x

-- what was read used all octets
all_is : (end : ℕ) (r : Reading (Value × ℕ)) (v : Value) → of_whole end r ≡ Ok v → r ≡ Ok (v, end)
all_is end (Ok x) v e = by_test (nat_eq x.1 end) refl e
  where
    by_test : (b : Bool) → nat_eq x.1 end ≡ b → cond {A = Result Value units.PduFault} b (Ok x.0) (Err (unit.At x.1 Extra)) ≡ Ok v → ◌≡◌ {A = Reading (Value × ℕ)} (Ok x) (Ok (v, end))
    by_test true t e = let used : x.1 ≡ end = eqb-true x.1 end t in let same : x.0 ≡ v = cc in ap (λ (w : Value). Ok (w, x.1)) same ∙ ap (λ (n : ℕ). Ok (v, n)) used
    by_test false t e = absurd cc
all_is end (Err f) v e = absurd cc

is_all : (end : ℕ) (v : Value) → of_whole end (Ok (v, end)) ≡ Ok v
is_all end v = by_test (nat_eq end end) (itself end)
  where
    itself : (n : ℕ) → nat_eq n n ≡ true
    itself n = grind arith

    by_test : (b : Bool) → b ≡ true → cond {A = Result Value units.PduFault} b (Ok v) (Err (unit.At end Extra)) ≡ Ok v
    by_test true t = refl
    by_test false t = absurd cc

module _ (run : Run) where
  pub all_found : (P : Relation) → Found run P → (limit : ℕ) (octets : List ℕ) (v : Value) → AreOctets octets → all_at run limit octets ≡ Ok v → P false 32 v octets × (length octets ≤ limit)
  all_found P h limit octets v are e =
      let scope = outermost limit false in
      let read = all_is (length octets) (front_at run limit octets) v e in
      let b1 = bind_ok (identifier_at scope 0 octets) _ (v, length octets) read in
      let b2 = bind_ok (run scope b1.0.0 b1.0.1) (λ w. Ok (w.0, w.1.place)) (v, length octets) b1.2 in
      let w : Value = b2.0.0 in
      let to : Spot = b2.0.1 in
      let same = ok_is {A = Value × ℕ} (w, to.place) (v, length octets) b2.2 in
      let r = h.found scope 0 octets b1.0.0 b1.0.1 w to are b1.1 b2.1 in
      let end : to.place ≡ length octets = ap (λ (x : Value × ℕ). x.1) same in
      let len : length r.text ≡ length octets = omega (arith, r.taken.onward) in
      let front : take (length r.text) octets ≡ r.text = ap (take (length r.text)) r.taken.parts ∙ take_at r.text to.rest (length r.text) refl in
      let whole : octets ≡ r.text = sym (take-length octets) ∙ ap (λ (n : ℕ). take n octets) (sym len) ∙ front in
      let value : w ≡ v = ap (λ (x : Value × ℕ). x.0) same in
      (subst (λ (x : List ℕ). P false 32 v x) (sym whole) (subst (λ (x : Value). P false 32 x r.text) value r.spelled), omega (arith, r.is_in.limit))

  pub all_only : (B : Class → ℕ → Type 0) (P : Relation) → Only B run P → (limit : ℕ) (octets : List ℕ) (v : Value) → P false 32 v octets → length octets ≤ limit → all_at run limit octets ≡ Ok v
  all_only B P h limit octets v p within =
      let scope = outermost limit false in
      let le : 0 + length octets ≤ limit = omega (arith, within) in
      let here : IsIn scope (0 + length octets) = record { limit = le; end = refl } in
      let r = h.only scope 0 v octets [] p here in
      let opens : identifier_at scope 0 octets ≡ Ok (r.opened, r.spot) = ap (identifier_at scope 0) (sym (append-nil octets)) ∙ r.opens in
      let none : 0 + length octets ≡ length octets = omega arith in
      let front : front_at run limit octets ≡ Ok (v, length octets) = rw (opens, r.reads) (ap (λ (k : ℕ). Ok (v, k)) none) in
      ap (of_whole (length octets)) front ∙ is_all (length octets) v

  module _ (grows : GrowsRun run) (inside : InsideRun run) (limit : ℕ) where
    front_grows : (octets more : List ℕ) → Grows (λ x. x) (front_at run limit octets) (front_at run limit (octets ++ more))
    front_grows octets more =
        Grows-bind (with_opened more) (λ x. x) (identifier_at (outermost limit false) 0 octets) (identifier_at (outermost limit false) 0 (octets ++ more)) _ _ (identifier_grows (outermost limit false) 0 octets more) (λ x e.
        Grows-bind (with_spot more) (λ x. x) _ _ _ _ (grows.grows (outermost limit false) x.0 x.1 more) (λ v k. refl))

    abbrev Used : ℕ → Value × ℕ → Type 0
    Used end x = x.1 ≤ end

    front_inside : (octets : List ℕ) → Inside (Used (length octets)) (length octets) (front_at run limit octets)
    front_inside octets =
        let end : ℕ = length octets in
        Inside-bind (Begun end) (Used end) end (identifier_at (outermost limit false) 0 octets) _ (identifier_inside (outermost limit false) 0 octets end (omega arith)) (λ x k.
        Inside-bind (second end) (Used end) end (run (outermost limit false) x.0 x.1) _ (inside.each end (outermost limit false) x.0 x.1 k.0 k.1) (λ v l. omega (arith, l)))

    -- what octets and those that follow are read as: the same, or the octets were too few
    abbrev Stays : Reading (Value × ℕ) → Reading (Value × ℕ) → Type 0
    Stays r s = (r ≢ Err faults.Short) → r ≡ s

    stays : (r s : Reading (Value × ℕ)) → Grows (λ x. x) r s → Stays r s
    stays (Ok x) s g = λ n. sym g
    stays (Err (faults.NotSpelled place kind)) s g = λ n. sym g
    stays (Err faults.Short) s g = λ n. absurd (n refl)
    stays (Err (faults.TooDeep place)) s g = λ n. sym g
    stays (Err (faults.TooLong place)) s g = λ n. sym g
    stays (Err faults.NoMemory) s g = λ n. sym g

    -- the place of what was read: where its octets end, or of its fault
    abbrev LiesBy : ℕ → Reading (Value × ℕ) → Type 0
    LiesBy place (Ok x) = x.1 ≡ place
    LiesBy place (Err (faults.NotSpelled at kind)) = at ≡ place
    LiesBy place (Err faults.Short) = ⊥
    LiesBy place (Err (faults.TooDeep at)) = at ≡ place
    LiesBy place (Err (faults.TooLong at)) = at ≡ place
    LiesBy place (Err faults.NoMemory) = ⊥

    lies_in : (end place : ℕ) (r : Reading (Value × ℕ)) → Inside (Used end) end r → LiesBy place r → place ≤ end
    lies_in end place (Ok x) i l = omega (arith, i, l)
    lies_in end place (Err (faults.NotSpelled at kind)) i l = omega (arith, i, l)
    lies_in end place (Err faults.Short) i l = absurd l
    lies_in end place (Err (faults.TooDeep at)) i l = omega (arith, i, l)
    lies_in end place (Err (faults.TooLong at)) i l = omega (arith, i, l)
    lies_in end place (Err faults.NoMemory) i l = absurd l

    short_or : (r : Reading (Value × ℕ)) → (r ≡ Err faults.Short → ⊥) → r ≢ Err faults.Short
    short_or r n = n

    -- octets that end before the place of what is read are too few
    before_short : (octets : List ℕ) (place k : ℕ) → LiesBy place (front_at run limit octets) → k < place → front_at run limit (take k octets) ≡ Err faults.Short
    before_short octets place k l lt = by_read (front_at run limit (take k octets)) refl
      where
        wrong : (r : Reading (Value × ℕ)) → front_at run limit (take k octets) ≡ r → r ≢ Err faults.Short → ⊥
        wrong r e n =
            let whole : front_at run limit (take k octets ++ drop k octets) ≡ front_at run limit octets = ap (front_at run limit) (take-append-drop k octets) in
            let same : r ≡ front_at run limit octets = sym e ∙ stays _ _ (front_grows (take k octets) (drop k octets)) (λ q. n (sym e ∙ q)) ∙ whole in
            let at : LiesBy place (front_at run limit (take k octets)) = subst (LiesBy place) (sym same ∙ sym e) l in
            let le : place ≤ length (take k octets) = lies_in (length (take k octets)) place (front_at run limit (take k octets)) (front_inside (take k octets)) at in
            omega (arith, length-take k octets)

        by_read : (r : Reading (Value × ℕ)) → front_at run limit (take k octets) ≡ r → r ≡ Err faults.Short
        by_read (Ok x) e = absurd (wrong (Ok x) e (λ q. cc))
        by_read (Err (faults.NotSpelled p kind)) e = absurd (wrong (Err (faults.NotSpelled p kind)) e (λ q. cc))
        by_read (Err faults.Short) e = refl
        by_read (Err (faults.TooDeep p)) e = absurd (wrong (Err (faults.TooDeep p)) e (λ q. cc))
        by_read (Err (faults.TooLong p)) e = absurd (wrong (Err (faults.TooLong p)) e (λ q. cc))
        by_read (Err faults.NoMemory) e = absurd (wrong (Err faults.NoMemory) e (λ q. cc))

    -- what is too few before a place
    before_missing : (octets : List ℕ) (place k : ℕ) → place ≤ length octets → LiesBy place (front_at run limit octets) → k < place → all_at run limit (take k octets) ≡ Err (unit.At k Missing)
    before_missing octets place k le l lt =
        let len : length (take k octets) ≡ k = omega (arith, length-take k octets) in
        ap (of_whole (length (take k octets))) (before_short octets place k l lt) ∙ ap (λ (n : ℕ). Err (unit.At n Missing)) len

    -- too few octets stay too few without some of them
    still_short : (octets : List ℕ) (k : ℕ) → front_at run limit octets ≡ Err faults.Short → front_at run limit (take k octets) ≡ Err faults.Short
    still_short octets k e = by_read (front_at run limit (take k octets)) refl
      where
        wrong : (r : Reading (Value × ℕ)) → front_at run limit (take k octets) ≡ r → r ≢ Err faults.Short → ⊥
        wrong r d n =
            let whole : front_at run limit (take k octets ++ drop k octets) ≡ front_at run limit octets = ap (front_at run limit) (take-append-drop k octets) in
            n (sym d ∙ stays _ _ (front_grows (take k octets) (drop k octets)) (λ q. n (sym d ∙ q)) ∙ whole ∙ e)

        by_read : (r : Reading (Value × ℕ)) → front_at run limit (take k octets) ≡ r → r ≡ Err faults.Short
        by_read (Ok x) e = absurd (wrong (Ok x) e (λ q. cc))
        by_read (Err (faults.NotSpelled p kind)) e = absurd (wrong (Err (faults.NotSpelled p kind)) e (λ q. cc))
        by_read (Err faults.Short) e = refl
        by_read (Err (faults.TooDeep p)) e = absurd (wrong (Err (faults.TooDeep p)) e (λ q. cc))
        by_read (Err (faults.TooLong p)) e = absurd (wrong (Err (faults.TooLong p)) e (λ q. cc))
        by_read (Err faults.NoMemory) e = absurd (wrong (Err faults.NoMemory) e (λ q. cc))

    at_place : (p q : ℕ) (a b : Kind) → ◌≡◌ {A = Result Value units.PduFault} (Err (unit.At p a)) (Err (unit.At q b)) → p ≡ q
    at_place p q a b e = ap place_in e
      where
        place_of : units.PduFault → ℕ
        place_of (unit.At n k) = n
        place_of unit.NoMemory = 0

        place_in : Result Value units.PduFault → ℕ
        place_in (Ok v) = 0
        place_in (Err f) = place_of f

    pub all_first : (octets : List ℕ) (place : ℕ) (kind : Kind) → all_at run limit octets ≡ Err (unit.At place kind) → IsFirstOf run limit octets place
    all_first octets place kind e = by_read (front_at run limit octets) refl
      where
        end : ℕ
        end = length octets

        told : (r : Reading (Value × ℕ)) → front_at run limit octets ≡ r → of_whole end r ≡ Err (unit.At place kind)
        told r d = sym (ap (of_whole end) d) ∙ e

        from : (r : Reading (Value × ℕ)) → front_at run limit octets ≡ r → LiesBy place r → IsFirstOf run limit octets place
        from r d l =
            let there : LiesBy place (front_at run limit octets) = subst (LiesBy place) (sym d) l in
            let le : place ≤ end = lies_in end place (front_at run limit octets) (front_inside octets) there in
            (le, λ k lt. before_missing octets place k le there lt)

        by_end : (x : Value × ℕ) (b : Bool) → cond {A = Result Value units.PduFault} b (Ok x.0) (Err (unit.At x.1 Extra)) ≡ Err (unit.At place kind) → x.1 ≡ place
        by_end x true h = absurd cc
        by_end x false h = at_place x.1 place Extra kind h

        by_read : (r : Reading (Value × ℕ)) → front_at run limit octets ≡ r → IsFirstOf run limit octets place
        by_read (Ok x) d = from (Ok x) d (by_end x (nat_eq x.1 end) (told (Ok x) d))
        by_read (Err (faults.NotSpelled p k)) d = from (Err (faults.NotSpelled p k)) d (at_place p place k kind (told (Err (faults.NotSpelled p k)) d))
        by_read (Err faults.Short) d =
            let at : end ≡ place = at_place end place Missing kind (told (Err faults.Short) d) in (
              omega (arith, at),
              λ k lt.
                  (let len : length (take k octets) ≡ k = omega (arith, at, length-take k octets) in
                  ap (of_whole (length (take k octets))) (still_short octets k d) ∙ ap (λ (n : ℕ). Err (unit.At n Missing)) len),
            )
        by_read (Err (faults.TooDeep p)) d = from (Err (faults.TooDeep p)) d (at_place p place why.Tag kind (told (Err (faults.TooDeep p)) d))
        by_read (Err (faults.TooLong p)) d = from (Err (faults.TooLong p)) d (at_place p place why.Length kind (told (Err (faults.TooLong p)) d))
        by_read (Err faults.NoMemory) d = absurd (let i : Inside (Used end) end (Err faults.NoMemory) = subst (λ (r : Reading (Value × ℕ)). Inside (Used end) end r) d (front_inside octets) in i)
