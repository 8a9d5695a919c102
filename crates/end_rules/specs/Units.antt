-- Functional units of the session and what they allow (X.225 5.9, 8.3.1; X.226 6.3, 6.7).
use Rattle.std.specs.Prelude.{ℕ, Bool, false, ◌&&◌, ◌||◌, nat_eq, bit_and, Option, Some, None, unwrap_or}
use Rattle.osi_base.specs.declared.bit_string.BitString.{BitString}
use Rattle.osi_base.specs.BitString.{has_bit}
use Rattle.dialogue.specs.declared.config.Mode.{Mode}
use Rattle.dialogue.specs.declared.config.Mode.TheVariants.{Bare, Direct, Reliable}
use Rattle.end_rules.specs.Base.{Base, is_direct, is_reliable}
use Rattle.end_rules.specs.State.{Body}

-- all these bits are set
abbrev pub has_units : ℕ → ℕ → Bool
has_units bits requirements = nat_eq (bit_and requirements bits) bits

-- minor synchronize, resynchronize, activity management, typed data
abbrev pub has_marks : ℕ → Bool
has_marks requirements = has_units 8 requirements

abbrev pub has_restarts : ℕ → Bool
has_restarts requirements = has_units 32 requirements

abbrev pub has_activities : ℕ → Bool
has_activities requirements = has_units 64 requirements

abbrev pub has_typed_data : ℕ → Bool
has_typed_data requirements = has_units 1024 requirements

-- what an initiator proposes: in direct mode duplex, marks, restarts and typed data; in reliable mode
-- half-duplex, marks, activities and typed data
abbrev pub proposed_units : Mode → ℕ
proposed_units Reliable = 1097
proposed_units Direct = 1066
proposed_units Bare = 1066

-- what a mode can't do without: duplex; half-duplex, marks and activities
abbrev pub needed_units : Mode → ℕ
needed_units Reliable = 73
needed_units Direct = 2
needed_units Bare = 2

-- the units of both ends; parameter 20 that lacks selects none
abbrev pub selected_with : Mode → Option ℕ → ℕ
selected_with mode theirs = bit_and (proposed_units mode) (unwrap_or theirs 0)

-- version 2 of the session protocol (X.225 8.3.1.12)
abbrev pub has_version_two : Option ℕ → Bool
has_version_two None = false
has_version_two (Some versions) = has_units 2 versions

-- both bits of the presentation requirements: context management and restoration (X.226 8.2.1.9)
abbrev pub has_both : Option BitString → Bool
has_both None = false
has_both (Some bits) = has_bit bits 0 && has_bit bits 1

-- both are selected where both are proposed, typed data is selected, and marks with restarts or activities are
abbrev pub manages_with : Option BitString → ℕ → Bool
manages_with requirements selected =
    has_both requirements && has_typed_data selected && (has_marks selected && has_restarts selected || has_activities selected)

-- there is a token that can be given and asked for
abbrev pub has_token : Base → Body → Bool
has_token base body = is_reliable base.mode || is_direct base.mode && has_marks body.link.selected
