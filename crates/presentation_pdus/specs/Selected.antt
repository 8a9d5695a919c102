-- A SET of two values, each once, in any order (X.690 8.11): the mode selector, [0], and the fields of normal mode, [2]
-- (X.226 8.2.1).
use Rattle.std.specs.Prelude.{◌≡◌, ℕ, ◌⊎◌, Bool, ◌&&◌, Option, Some, None, List, [], ◌∷◌, Ok, nat_eq, if◌then◌else◌}
use Rattle.osi_base.specs.declared.layer_words.Kind.{Kind}
use Rattle.osi_base.specs.declared.layer_words.Kind.TheVariants.{Tag, Extra}
use Rattle.asn1_types.specs.declared.row.Class.TheVariants.{Context}
use Rattle.asn1_types.specs.Rows.{same_class}
use Rattle.asn1_types.specs.Value.{Value, parts}
use Rattle.asn1_types.specs.ValueView.{parts_of}
use Rattle.ber_spelling.specs.declared.spot.Scope.{Scope}
use Rattle.ber_spelling.specs.Reading.{Spot, Opened, Reading, ◌>>=◌, refuse}
use Rattle.ber_spelling.specs.Rules.{constructed_at, all_items_at}
use Rattle.ber_spelling.specs.Spelling.{IsConstructed, ItemsAre}
use Rattle.presentation_pdus.specs.Fields.{set_tag}

-- the mode and the fields, as far as they stand
abbrev pub Halves : Type 0
Halves = Option Value × Option Value

abbrev pub Run : Type 0
Run = Scope → Opened → Spot → Reading (Value × Spot)

-- one that stands already comes again, or what comes isn't one at all
abbrev pub again_kind : Bool → Kind
again_kind constructed = if constructed then Extra else Tag

abbrev pub once_at : Option Value → Run → (Value → Halves) → Scope → Opened → Spot → Reading (Halves × Spot)
once_at None run put scope opened spot = do
  v ← run scope opened spot
  Ok (put v.0, v.1)
once_at (Some w) run put scope opened spot = refuse opened.start.place (again_kind opened.constructed)

abbrev pub has_context : Opened → ℕ → Bool
has_context opened number = same_class opened.class Context && nat_eq opened.number number

unfoldable pub half_at : Run → Run → Halves → Scope → Opened → Spot → Reading (Halves × Spot)
half_at mode fields before scope opened spot =
    if has_context opened 0 then once_at before.0 mode (λ v. (Some v, before.1)) scope opened spot
    else (if has_context opened 2 then once_at before.1 fields (λ v. (before.0, Some v)) scope opened spot
    else refuse opened.start.place Extra)

abbrev pub both : Option Value → Option Value → Option Value
both None fields = None
both (Some mode) None = None
both (Some mode) (Some fields) = Some (parts (parts_of (Some mode ∷ Some fields ∷ [])))

abbrev pub halves_done : Halves → Option Value
halves_done h = both h.0 h.1

abbrev pub no_half : Halves
no_half = (None, None)

abbrev pub halves_at : Run → Run → Scope → Spot → Reading (Value × Spot)
halves_at mode fields = all_items_at (half_at mode fields) halves_done no_half

abbrev pub selected_at : Run → Run → Scope → Opened → Spot → Reading (Value × Spot)
selected_at mode fields = constructed_at (halves_at mode fields) set_tag

-- ---- apart from reading

abbrev pub Relation : Type 1
Relation = Bool → ℕ → Value → List ℕ → Type 0

-- one more of them, which didn't stand yet
abbrev pub HalfStep : Relation → Relation → Halves → Bool → ℕ → Halves → List ℕ → Type 0
HalfStep M F before strict levels after spelled =
    ((v : Value) × (before.0 ≡ None) × (after ≡ (Some v, before.1)) × M strict levels v spelled)
    ⊎ ((v : Value) × (before.1 ≡ None) × (after ≡ (before.0, Some v)) × F strict levels v spelled)

abbrev pub HalvesAre : Relation → Relation → Bool → ℕ → Value → List ℕ → Type 0
HalvesAre M F strict levels v contents = ItemsAre halves_done (HalfStep M F) no_half strict levels v contents

abbrev pub SelectedIs : Relation → Relation → Bool → ℕ → Value → List ℕ → Type 0
SelectedIs M F strict levels v spelled = IsConstructed set_tag strict levels (λ inner contents. HalvesAre M F strict inner v contents) spelled
