-- The laws of first faults.
use Rattle.std.proofs.Common.{◌≡◌, ℕ, ◌≤◌, List, length, Err, sym, subst, ◌∙◌, arith, inl, inr}
use Rattle.asn1_types.specs.declared.row.TypeRow.{TypeRow}
use Rattle.asn1_types.specs.Value.{Value}
use Rattle.packed_codec.specs.declared.fault.PackedFault.{PackedFault}
use Rattle.packed_codec.specs.declared.fault.PackedFault.TheVariants.{NotSpelled, Short, TooLong, NoMemory}
use Rattle.osi_base.specs.Octets.{AreOctets}
use Rattle.packed_codec.specs.Reading.{Spot, Reading}
use Rattle.packed_codec.specs.Rules.{reads, read_at, start}
use Rattle.packed_codec.specs.Laws.{IsAt, OneHolds, BeginsSpelled}
use Rattle.packed_codec.proofs.Taking.{done}
use Rattle.packed_codec.proofs.WholeValues.{one_of_three}
use Rattle.packed_faults.specs.FirstFault.{HasPlace, FaultBy}
use Rattle.packed_faults.specs.Laws.{GivenIsFirst, FirstIsGiven, OneFirst, ThreeCases, ShortExactly}
use Rattle.packed_faults.proofs.Rows.{along_finds, along_tells}
use Rattle.packed_faults.proofs.Steps.{bind_err, bind_fails, err_is, not_err}

abbrev with_length : Value × Spot → Reading (Value × ℕ)
with_length x = done {A = Value × ℕ} (x.0, x.1.place)

has_place : (f : PackedFault) (place : ℕ) → IsAt f place → HasPlace f
has_place (NotSpelled at kind) place h = tt
has_place (TooLong at) place h = tt
has_place Short place h = absurd h
has_place NoMemory place h = absurd h

no_short : (f : PackedFault) → f ≡ Short → HasPlace f → ⊥
no_short f e h = subst HasPlace e h

fault_by : (rows : List TypeRow) (n limit : ℕ) (bytes : List ℕ) (f : PackedFault) → AreOctets bytes → (f ≡ Short → ⊥) → read_at rows n limit bytes ≡ Err f → FaultBy rows (length rows) n limit (start bytes) f
unfolding read_at reads
fault_by rows n limit bytes f are ne e =
    elim (bind_err (reads rows n limit (start bytes)) with_length f e) [
      | inl t ↦ let none : 0 ≤ limit = omega arith in (along_finds rows (length rows) n).finds limit (start bytes) f ne are none t
      | inr t ↦ absurd (not_err {A = Value × ℕ} (t.0.0, t.0.1.place) f t.2)
    ]

pub given_is_first : GivenIsFirst
given_is_first rows n limit bytes f place are at e =
    let has : HasPlace f = has_place f place at in
    (has, fault_by rows n limit bytes f are (λ s. no_short f s has) e)

pub first_is_given : FirstIsGiven
unfolding read_at reads
first_is_given rows n limit bytes f lt are h =
    let most : 131072 ≤ 131072 = omega arith in
    bind_fails (reads rows n limit (start bytes)) with_length f ((along_tells rows (length rows) n).tells limit (start bytes) f are lt most h.1)

pub one_first : OneFirst
one_first rows n limit bytes f g lt are x y = err_is {A = Value × ℕ} f g (sym (first_is_given rows n limit bytes f lt are x) ∙ first_is_given rows n limit bytes g lt are y)

pub three_cases : ThreeCases
three_cases rows n limit bytes lt are =
    elim (one_of_three rows n limit bytes lt are) [
      | inl t ↦ inl (t.0, λ h. t.1 h.0 (first_is_given rows n limit bytes h.0 lt are h.1))
      | inr t ↦ elim t [
        | inl u ↦ inr (inl (u.0, (u.1, given_is_first rows n limit bytes u.1 u.2 are u.3 u.4)))
        | inr u ↦ inr (inr ((u.0, λ h. no_short h.0 (err_is {A = Value × ℕ} h.0 Short (sym (first_is_given rows n limit bytes h.0 lt are h.1) ∙ u.1)) h.1.0), u.1))
      ]
    ]

pub short_exactly : ShortExactly
short_exactly rows n limit bytes lt are = (
  λ e. elim (three_cases rows n limit bytes lt are) [
    | inl t ↦ absurd (spelled_goes (one_of_three rows n limit bytes lt are) t.0 e)
    | inr t ↦ elim t [
      | inl u ↦ absurd (let h = u.1 in no_short h.0 (err_is {A = Value × ℕ} h.0 Short (sym (first_is_given rows n limit bytes h.0 lt are h.1) ∙ e)) h.1.0)
      | inr u ↦ u.0
    ]
  ],
  λ s. elim (three_cases rows n limit bytes lt are) [
    | inl t ↦ absurd (s.0 t.0)
    | inr t ↦ elim t [ inl u ↦ absurd (s.1 u.1) | inr u ↦ u.1 ]
  ],
)
  where
    spelled_goes : OneHolds rows n limit bytes → BeginsSpelled rows n limit bytes → read_at rows n limit bytes ≡ Err Short → ⊥
    spelled_goes (inl t) b e = t.1 Short e
    spelled_goes (inr (inl t)) b e = t.0 b
    spelled_goes (inr (inr t)) b e = t.0 b
