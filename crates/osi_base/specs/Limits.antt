-- The limits that definitions and contracts cite, each once, as literals: what each is, and where it comes from.
-- A number of a format, as the code of a unit, stands with the format.
use Rattle.std.specs.Prelude.{ℕ, ◌≤◌}

-- ---- integers and places (what those of the code hold)

-- bits of a number with a sign
abbrev pub number_bits : ℕ
number_bits = 64

-- the last number of 64 bits with a sign
abbrev pub most_signed : ℕ
most_signed = 9223372036854775807

-- the number whose negative is the least of 64 bits with a sign
abbrev pub most_negated : ℕ
most_negated = 9223372036854775808

-- the first number that is no place: a slice has fewer octets
abbrev pub past_places : ℕ
past_places = 9223372036854775808

-- the last value of a count, which has 64 bits
abbrev pub last_count : ℕ
last_count = 18446744073709551615

-- the last number of 32 bits
abbrev pub most_32 : ℕ
most_32 = 4294967295

-- the last number of an octet
abbrev pub last_octet : ℕ
last_octet = 255

-- the first number that two octets don't hold
abbrev pub past_two_octets : ℕ
past_two_octets = 65536

-- ---- values and their spellings (this project's own)

-- levels of types in one another, and of values in their spellings
abbrev pub most_levels : ℕ
most_levels = 32

-- octets of a value's spelling
abbrev pub most_octets : ℕ
most_octets = 262144

-- octets of each spelling of a value that fits
abbrev pub most_spelled : ℕ
most_spelled = 4294967295

-- items of the lists of one value in the packed syntax, together
abbrev pub most_items : ℕ
most_items = 131072

-- alternatives of a CHOICE
abbrev pub most_alternatives : ℕ
most_alternatives = 256

-- arcs of an object identifier
abbrev pub most_arcs : ℕ
most_arcs = 32

-- ---- texts of the notation (this project's own)

-- octets of a module's text
abbrev pub most_module_octets : ℕ
most_module_octets = 1048576

-- tokens of a module's text
abbrev pub most_tokens : ℕ
most_tokens = 65536

-- levels of types in one another in a module's text
abbrev pub most_type_levels : ℕ
most_type_levels = 256

-- ---- files, schedules and recordings (this project's own)

-- how many octets of a file are handed up at most: one more than any file that is read whole may have
abbrev pub file_most : ℕ
file_most = 16777217

-- how many octets a schedule or a recorded dialogue may have
abbrev pub text_most : ℕ
text_most = 16777216

-- how many events a schedule may have
abbrev pub event_most : ℕ
event_most = 20000

-- ---- transport: packets, their units, and TSDUs

-- the least size of a unit that both ends can agree on (X.224 13.3.4)
abbrev pub unit_least : ℕ
unit_least = 128

-- a unit has at most this many octets, so that its packet has at most 65,535 (RFC 1006 5)
abbrev pub unit_most : ℕ
unit_most = 65531

-- how many octets the units of an end may have at most: a size that a CR or a CC names, or that is used without one
pub record IsUnitSize (size : ℕ) : Type 0 where
  pub least : unit_least ≤ size
  pub most : size ≤ unit_most

-- the greatest size of a unit that a CR or a CC can name (X.224 13.3.4)
abbrev pub named_most : ℕ
named_most = 8192

-- octets of a header behind its length (X.224 13.2.1)
abbrev pub most_header_fields : ℕ
most_header_fields = 254

-- octets of a header with its length (X.224 13.2.1)
abbrev pub most_header : ℕ
most_header = 255

-- the length of a header that is reserved (X.224 13.2.1)
abbrev pub reserved_length : ℕ
reserved_length = 255

-- octets of a TSDU (this project's own)
abbrev pub tsdu_limit : ℕ
tsdu_limit = 1048576

-- ---- session: user data, activities and marks

-- octets of user data of a CONNECT that stand in the parameter User Data; more of them stand in Extended User Data (X.225 8.3.1)
abbrev pub most_short_data : ℕ
most_short_data = 512

-- octets of user data that a CONNECT carries (X.225 8.3.1.20)
abbrev pub most_connect_data : ℕ
most_connect_data = 10240

-- the last number of an activity, and of a mark in a session unit: six digits, as X.225 is used here
abbrev pub last_serial : ℕ
last_serial = 999999

-- marks that are kept (this project's own)
abbrev pub most_marks : ℕ
most_marks = 65536

-- ---- configurations of an end (this project's own, but for the unit of a checkpoint)

-- octets of a selector
abbrev pub most_selector : ℕ
most_selector = 16

-- octets of a reference
abbrev pub most_reference : ℕ
most_reference = 64

-- octets of a common reference, a UTCTime
abbrev pub common_octets : ℕ
common_octets = 13

-- contexts that an initiator proposes beside those of association control and reliable transfer
abbrev pub most_proposed : ℕ
most_proposed = 62

-- octets of one unit of a checkpoint (X.228 8.1)
abbrev pub checkpoint_unit : ℕ
checkpoint_unit = 1024

-- the highest checkpoint, in such units
abbrev pub most_checkpoint : ℕ
most_checkpoint = 255

-- the widest window
abbrev pub most_window : ℕ
most_window = 255

-- ---- contexts, invocations and transfers of an end (this project's own)

-- contexts of a set
abbrev pub most_contexts : ℕ
most_contexts = 64

-- the highest identifier of a presentation context (X.226 8.1.1.1 asks for no limit)
abbrev pub highest_context : ℕ
highest_context = 32767

-- own alterations that aren't answered
abbrev pub most_alterations : ℕ
most_alterations = 4

-- transfer syntaxes of one addition
abbrev pub most_transfers : ℕ
most_transfers = 8

-- open invocations of one end
abbrev pub most_open : ℕ
most_open = 4096

-- the last identifier of an invocation
abbrev pub last_invocation : ℕ
last_invocation = 2147483647

-- items that wait for their transfer
abbrev pub most_queued : ℕ
most_queued = 64

-- octets of a transfer
abbrev pub most_transferred : ℕ
most_transferred = 262400

-- octets that an end of a run gives out at once
abbrev pub most_given : ℕ
most_given = 256
