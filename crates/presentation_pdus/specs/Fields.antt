-- The fields of the units of the presentation protocol (X.226 8.2 to 8.4): those that are known, and those that are
-- passed over.
use Rattle.std.specs.Prelude.{ℕ, true, false, List, [], ◌∷◌}
use Rattle.asn1_types.specs.declared.row.Class.TheVariants.{Universal, Application, Context}
use Rattle.asn1_types.specs.declared.row.Tag as tags
use Rattle.passed_fields.specs.declared.field.Field as known
use Rattle.passed_fields.specs.declared.field.Passed as over
use Rattle.passed_fields.specs.declared.field.Holds.TheVariants as holds
use Rattle.passed_fields.specs.Known.{of_row, until_place}

abbrev pub context_tag : ℕ → tags.Tag
context_tag number = record { class = Context; number = number }

abbrev pub sequence_tag : tags.Tag
sequence_tag = record { class = Universal; number = 16 }

abbrev pub set_tag : tags.Tag
set_tag = record { class = Universal; number = 17 }

abbrev pub user_tag : tags.Tag
user_tag = record { class = Application; number = 1 }

-- the row of presentation data values
abbrev pub pdv_row : ℕ
pdv_row = 14

abbrev pub mode_row : ℕ
mode_row = 31

-- user data: data values, at least one
abbrev pub user_field : known.Field
user_field = record { class = Application; number = 1; holds = holds.Some (record { 0 = 14 }); optional = true }

-- user data of which nothing is kept but that it stands
abbrev pub unread_user_field : known.Field
unread_user_field = record { class = Application; number = 1; holds = holds.Any; optional = true }

-- a default context: any one value
abbrev pub default_field : known.Field
default_field = record { class = Context; number = 6; holds = holds.Any; optional = true }

-- CP: version, calling, called, definitions, default context, requirements, session requirements, user data
abbrev pub connect_fields : List known.Field
connect_fields =
    of_row Context 0 32 true ∷ of_row Context 1 33 true ∷ of_row Context 2 34 true ∷ of_row Context 4 36 true
    ∷ default_field ∷ of_row Context 8 39 true ∷ of_row Context 9 40 true ∷ user_field ∷ []

-- before the user data
abbrev pub connect_passed : List over.Passed
connect_passed = until_place 11 14 7 ∷ []

-- CPA: version, responding, results, requirements, session requirements, user data
abbrev pub accept_fields : List known.Field
accept_fields = of_row Context 0 32 true ∷ of_row Context 3 35 true ∷ of_row Context 5 37 true ∷ of_row Context 8 39 true ∷ of_row Context 9 40 true ∷ user_field ∷ []

abbrev pub accept_passed : List over.Passed
accept_passed = until_place 11 14 5 ∷ []

-- CPR: version, responding, results, default result, reason, user data
abbrev pub reject_fields : List known.Field
reject_fields = of_row Context 0 32 true ∷ of_row Context 3 35 true ∷ of_row Context 5 37 true ∷ of_row Context 7 38 true ∷ of_row Context 10 41 true ∷ user_field ∷ []

-- AC: additions, deletions
abbrev pub alter_fields : List known.Field
alter_fields = of_row Context 0 49 true ∷ of_row Context 1 50 true ∷ unread_user_field ∷ []

-- ACA: the answers to them
abbrev pub alter_ack_fields : List known.Field
alter_ack_fields = of_row Context 0 53 true ∷ of_row Context 1 54 true ∷ unread_user_field ∷ []

-- RS and RSA: contexts that are restored
abbrev pub restart_fields : List known.Field
restart_fields = of_row Context 0 57 true ∷ unread_user_field ∷ []

-- ARU: contexts, user data
abbrev pub user_abort_fields : List known.Field
user_abort_fields = of_row Context 0 57 true ∷ user_field ∷ []

-- ARP: reason, which must stand, and event
abbrev pub provider_abort_fields : List known.Field
provider_abort_fields = of_row Context 0 61 false ∷ of_row Context 1 62 true ∷ []
