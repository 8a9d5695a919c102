-- What the octets of a transfer bring.
use Rattle.std.proofs.Common.{◌≡◌, ℕ, List, [], ◌∷◌, Bool, true, false, if◌then◌else◌, Some, None, sym, ap, subst, ◌∙◌}
use Rattle.std.specs.Prelude.{Ok, Err}
use Rattle.osi_base.specs.declared.layer_words.SetItem.{SetItem}
use Rattle.stub_tables.specs.declared.tables.Tables.{Tables}
use Rattle.end_rules.specs.Base.{Base}
use Rattle.end_rules.specs.Messages as meant
use Rattle.end_rules.specs.State.{Body}
use Rattle.end_rules.specs.TakesActivities.{arrived_now, arrived_value, values_arrived, fault_in, end_fault}
use Rattle.association_line.specs.association_reading.Transfers.{arrived_at}
use Rattle.association_words.specs.declared.faults.Fault.{Fault}
use Rattle.association_words.specs.declared.values.Value.{Value}
use Rattle.association_words.specs.declared.values.Arrived.{Arrived}
use Rattle.association_words.specs.Seen.{seen_value, seen_arrived, seen_fault}
use Rattle.association_meaning.specs.declared.basis.Halt.{Halt}
use Rattle.association_meaning.specs.declared.basis.Halt.TheVariants as halts
use Rattle.association_meaning.specs.Grounds.{FailsAs}
use Rattle.association_reacting.specs.ActivityEnds.{Arrives}

-- the octets under a set, by their parts
pub read_so : (tables other : Tables) (set held : List SetItem) (octets pieces : List ℕ) → tables ≡ other → set ≡ held → octets ≡ pieces → arrived_at tables set octets ≡ arrived_at other held pieces
read_so tables other set held octets pieces t s o = λ i. arrived_at (t i) (s i) (o i)

module _ (b : Base) (body : Body) where
  pub arrives_handed : body.receiving.was_handed ≡ true → Arrives b body None
  arrives_handed h = record {
    value_is = ap (λ (k : Bool). if k then [] else values_arrived (arrived_now b body)) (sym h);
    sound = ap (λ (k : Bool). if k then None else fault_in (arrived_now b body)) h;
  }

  pub arrives_value : (arrived : Arrived) (value : Value) → body.receiving.was_handed ≡ false → arrived_now b body ≡ Ok (seen_arrived arrived) → seen_value value ≡ arrived_value (seen_arrived arrived) → Arrives b body (Some value)
  arrives_value arrived value h r v = record {
    value_is = ap (λ (x : meant.DataValue). x ∷ []) v ∙ ap values_arrived (sym r) ∙ ap (λ (k : Bool). if k then [] else values_arrived (arrived_now b body)) (sym h);
    sound = ap (λ (k : Bool). if k then None else fault_in (arrived_now b body)) h ∙ ap fault_in r;
  }

  pub arrives_fault : (halt : Halt) (fault : Fault) → body.receiving.was_handed ≡ false → FailsAs halt (arrived_now b body) → halt ≡ halts.Faulty fault → end_fault b body ≡ Some (seen_fault fault)
  arrives_fault halt fault h f e =
      let read : arrived_now b body ≡ Err (seen_fault fault) = subst (λ (x : Halt). FailsAs x (arrived_now b body)) e f in
      ap (λ (k : Bool). if k then None else fault_in (arrived_now b body)) h ∙ ap fault_in read
