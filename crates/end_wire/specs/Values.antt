-- Values of the module's abstract syntax in octets: what they are, and the one spelling in which they are written
-- (X.226 8.4.2, X.882 9); and with it how the rules of an end see spellings.
use Rattle.std.specs.Prelude.{◌≡◌, ℕ, List, [], Option, Some, None, Result, Err}
use Rattle.osi_base.specs.declared.syntax.Syntax.{Syntax}
use Rattle.osi_base.specs.declared.layer_words.SetItem.{SetItem}
use Rattle.stub_tables.specs.declared.tables.Tables.{Tables}
use Rattle.stub_tables.specs.declared.apdu.Apdu.{Apdu}
use Rattle.apdu_spelling.specs.Spellings.{Spells}
use Rattle.apdu_spelling.specs.Writing.{written_apdu}
use Rattle.end_rules.specs.Base.{Item, Fault, Arrived, Spellings}
use Rattle.end_rules.specs.Messages.{ValueContent, Remote, Unread, Association, Plea, Part}
use Rattle.end_rules.specs.Faults.{rtse_fault}
use Rattle.end_wire.specs.Heads.{head_at, apdu_of}

-- Octets of the module's abstract syntax are an APDU that they spell; those that spell none stand as they came.
abbrev pub IsContent : Tables → Syntax → List ℕ → ValueContent → Type 0
IsContent tables syntax octets (Remote apdu) = Spells tables syntax apdu octets
IsContent tables syntax octets (Unread kept) = (kept ≡ octets) × ((apdu : Apdu) → Spells tables syntax apdu octets → ⊥)
IsContent tables syntax octets (Association apdu user) = ⊥
IsContent tables syntax octets (Plea priority) = ⊥
IsContent tables syntax octets (Part part) = ⊥

-- the same as a function, which the laws tie to it
abbrev pub content_of : List ℕ → Option Apdu → ValueContent
content_of octets (Some apdu) = Remote apdu
content_of octets None = Unread octets

abbrev pub content_at : Tables → Syntax → List ℕ → ValueContent
content_at tables syntax octets = content_of octets (apdu_of tables (head_at tables syntax octets))

-- the one spelling in which it is written: octets that spell no APDU are their own spelling
abbrev pub written_content : Tables → Syntax → ValueContent → List ℕ
written_content tables syntax (Remote apdu) = written_apdu tables syntax apdu
written_content tables syntax (Unread octets) = octets
written_content tables syntax (Association apdu user) = []
written_content tables syntax (Plea priority) = []
written_content tables syntax (Part octets) = octets

-- how the rules see spellings, given those of transfers
abbrev pub spellings_with : Tables → (Item → List ℕ) → (List SetItem → List ℕ → Result Arrived Fault) → Spellings
spellings_with tables transfer arrived =
    record { apdu = written_apdu tables; head = head_at tables; transfer = transfer; arrived = arrived }

-- in bare mode there are no transfers
abbrev pub bare_spellings : Tables → Spellings
bare_spellings tables = spellings_with tables (λ item. []) (λ set octets. Err rtse_fault)
