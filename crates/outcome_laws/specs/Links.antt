-- Linked invocations that an end is shown: each is linked to an own invocation, whose operation may have it linked (X.880 8.2.6).
use Rattle.std.specs.Prelude.{◌≡◌, ℕ, ℤ, List, [], ◌∷◌, ◌++◌, true, Some}
use Rattle.end_model.specs.end_rules.Members.{IsIn}
use Rattle.stub_tables.specs.declared.tables.Tables.{Tables}
use Rattle.stub_tables.specs.Lookup.{operation_at}
use Rattle.dialogue.specs.declared.indication.Indication.{Indication}
use Rattle.dialogue.specs.declared.indication.Indication.TheVariants as indications
use Rattle.end_model.specs.end_rules.Invoking.{is_linked_to}
use Rattle.agreement.specs.Sets.{Role}
use Rattle.outcome_laws.specs.Exchanges.{Asked, exchange_of, EverExchanges}

-- to which invocation one of this operation is linked
pub record Link : Type 0 where
  pub linked : ℤ
  pub place : ℕ

abbrev pub link_in : Indication → List Link
link_in (indications.Invoked id place (Some linked) value) = record { linked = linked; place = place } ∷ []
link_in indication = []

abbrev pub links_in : List Indication → List Link
links_in [] = []
links_in (indication ∷ shown) = link_in indication ++ links_in shown

pub record IsAllowedLink (tables : Tables) (asked : List Asked) (link : Link) : Type 0 where
  pub invocation : Asked
  pub is_own : IsIn invocation asked
  pub is_named : invocation.id ≡ link.linked
  pub may_link : is_linked_to (operation_at tables invocation.operation) link.place ≡ true

abbrev pub AreAllowedLinks : Tables → List Asked → List Link → Type 0
AreAllowedLinks tables asked [] = Unit {0}
AreAllowedLinks tables asked (link ∷ links) = IsAllowedLink tables asked link × AreAllowedLinks tables asked links

abbrev pub LinksAreAllowed : Type 0
LinksAreAllowed =
    EverExchanges (λ tables two ledger exchanges. (role : Role) → AreAllowedLinks tables (exchange_of role exchanges).asked (links_in (exchange_of role exchanges).shown))
