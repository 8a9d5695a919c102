-- What an end keeps of open invocations, and what an APDU that came carries.
use Rattle.std.specs.Prelude.{◌≡◌, ℕ, ◌<◌, ◌≤◌, ℤ, pos, Bool, true, false, List, Option, Some, None, is_some}
use Rattle.osi_base.specs.declared.syntax.Syntax.{Syntax}
use Rattle.osi_base.specs.Limits.{last_invocation}
use Rattle.stub_tables.specs.declared.tables.Tables.{Tables}
use Rattle.rose_roles.specs.apdu_spelling.declared.head.ApduHead.{ApduHead}
use Rattle.linked_ops.specs.Entries.{Entry}
use Rattle.rose_roles.specs.Calls.{Kept, Invoking, AreOpen, open_calls_in}
use Rattle.rose_roles.specs.declared.invoked_with.InvokedWith.{InvokedWith}
use Rattle.rose_roles.specs.Heads.{HeadCarries}
use Rattle.rose_roles.specs.end_rules.Base.{Carried}
use Rattle.rose_roles.specs.end_rules.State.{OpenCall, opened_with}

-- The keys of the forest are what each end has open; no own number is open that wasn't given yet.
pub record AreKept (forest : List Entry) (invoking : Invoking) (performed : Kept) : Type 0 where
  pub own : AreOpen true forest invoking.kept
  pub peer : AreOpen false forest performed
  pub fresh : (n : ℕ) → invoking.made < n → opened_with true (pos n) (open_calls_in forest invoking.kept performed) ≡ None
  pub most : invoking.made ≤ last_invocation

-- a link names an open invocation of the peer
abbrev pub is_link : Option ℤ → List OpenCall → Bool
is_link None opens = true
is_link (Some id) opens = is_some (opened_with false id opens)

-- a link of the peer names an open invocation of this end
abbrev pub is_link_back : Option ℤ → List OpenCall → Bool
is_link_back None opens = true
is_link_back (Some id) opens = is_some (opened_with true id opens)

-- what an open invocation called
abbrev pub called_in : Option OpenCall → Option InvokedWith
called_in None = None
called_in (Some o) = Some (record { operation = o.operation; context = o.context })

-- the operation of an open invocation
abbrev pub operation_in : Option OpenCall → Option ℕ
operation_in None = None
operation_in (Some o) = Some o.operation

-- the octets behind the head carry a value, none, or none that is spelled
pub record SomeCarried (tables : Tables) (syntax : Syntax) (head : ApduHead) : Type 0 where
  pub carried : Carried
  pub carries : HeadCarries tables syntax head carried
