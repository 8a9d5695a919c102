-- Modules without a fault, and those with one.
use Rattle.std.proofs.Common.{◌≡◌, ℕ, List, Some, Result, Ok, Err, true, false, refl, sym, subst, ◌∙◌, inl, inr}
use Rattle.std.specs.Prelude.{◌⊎◌, IfErr}
use Rattle.operation_notation.specs.declared.module.ModuleText.{ModuleText}
use Rattle.operation_notation.specs.Modules.{module_of}
use Rattle.operation_notation.proofs.ModuleLaws.{reads_found}
use Rattle.operation_notation.proofs.Well.{reads_well}
use Rattle.stub_tables.specs.declared.tables.Tables.{Tables}
use Rattle.table_file.specs.Contents.{contents_of}
use Rattle.module_faults.specs.declared.kind.TableKind.{TableKind}
use Rattle.module_faults.specs.declared.least.Found.{Found}
use Rattle.module_faults.specs.Least.{fault}
use Rattle.module_faults.proofs.OneFault.{one_least}
use Rattle.module_compiler.specs.Refusals.{HasNoFault, HasFault}
use Rattle.module_compiler.specs.Laws.{HasLeastFault}
use Rattle.module_compiler.proofs.Deciding.{fault_or_none}
use Rattle.module_compiler.proofs.Least.{fault_or_none as never_both}
use Rattle.module_compiler.proofs.Tabled.{has_tables}
use Rattle.module_reading.specs.declared.fault.ModuleKind.{ModuleKind}
use Rattle.module_reading.specs.declared.fault.ModuleKind.TheVariants as kinds
use Rattle.module_reading.specs.declared.fault.ModuleFault.{ModuleFault}
use Rattle.module_reading.specs.declared.fault.ModuleFault.TheVariants as faults
use Rattle.module_reading.proofs.Few.{assignments_few}
use Rattle.module_reading.specs.Laws.{AreFaulty}
use Rattle.module_reading.specs.Modules.{is_table_file, HasTables, IsRefused, IsFaultless}

pub tables_faultless : (octets : List ℕ) (tables : Tables) → HasTables octets tables → IsFaultless octets
tables_faultless octets tables (inl h) = inl (h.0, (contents_of tables, h.1))
tables_faultless octets tables (inr h) = inr (h.0, (h.1.read, h.1.reads, h.1.has.no_fault))

same_read : (octets : List ℕ) (m n : ModuleText) → module_of octets ≡ Ok m → module_of octets ≡ Ok n → m ≡ n
same_read octets m n e f = let both : Ok m ≡ module_of octets = sym e in let g = both ∙ f in cc

pub never_refused : (octets : List ℕ) (line column : ℕ) (kind : ModuleKind) → IsFaultless octets → IsRefused octets (faults.At line column kind) → ⊥
never_refused octets line column (kinds.Notation kind) (inl h) refused = let e : true ≡ false = sym h.0 ∙ refused.0 in cc
never_refused octets line column (kinds.Table kind) (inl h) refused = let e : true ≡ false = sym h.0 ∙ refused.0 in cc
never_refused octets line column (kinds.File kind) (inl h) refused = let e = sym h.1.1 ∙ refused.2 in cc
never_refused octets line column (kinds.Notation kind) (inr h) refused = let e = sym h.1.1 ∙ refused.1 in cc
never_refused octets line column (kinds.Table kind) (inr h) refused =
    let same : h.1.0 ≡ refused.1 = same_read octets h.1.0 refused.1 h.1.1 refused.2 in
    never_both refused.1 line column kind (subst HasNoFault same h.1.2) refused.3
never_refused octets line column (kinds.File kind) (inr h) refused = let e : true ≡ false = sym refused.0 ∙ h.0 in cc

pub complete_of : (octets : List ℕ) (r : Result Tables ModuleFault) → IfErr r (IsRefused octets) → IsFaultless octets → IfErr r (λ e. e ≡ faults.NoMemory)
complete_of octets (Ok tables) h none = tt
complete_of octets (Err (faults.At line column kind)) h none = absurd (never_refused octets line column kind none h)
complete_of octets (Err faults.NoMemory) h none = refl

pub texts_have_tables : (text : List ℕ) → is_table_file text ≡ false → IsFaultless text → (tables : Tables) × HasTables text tables
texts_have_tables text is (inl h) = let e : true ≡ false = sym h.0 ∙ is in absurd cc
texts_have_tables text is (inr h) =
    let read : ModuleText = h.1.0 in
    let reads = reads_found text read h.1.1 in
    let t = has_tables read (reads_well text read reads) (assignments_few text read reads) h.1.2 in
    (t.0, inr (is, record { read = read; reads = h.1.1; has = t.1 }))

pub modules_have_either : (text : List ℕ) (read : ModuleText) → is_table_file text ≡ false → module_of text ≡ Ok read → ((tables : Tables) × HasTables text tables) ⊎ AreFaulty text
modules_have_either text read is e = by_module (fault_or_none read)
  where
    by_module : HasNoFault read ⊎ HasLeastFault read → ((tables : Tables) × HasTables text tables) ⊎ AreFaulty text
    by_module (inl none) = inl (texts_have_tables text is (inr (is, (read, e, none))))
    by_module (inr least) = inr (record { line = least.line; column = least.column; kind = kinds.Table least.kind; is = (is, read, e, least.is) })

-- ---- one fault

one_of_module : (m : ModuleText) (line column l c : ℕ) (kind k : TableKind) → HasFault m line column kind → HasFault m l c k → fault line column kind ≡ fault l c k
one_of_module m line column l c kind k f g = let e = one_least m.assignments (Some (fault line column kind)) (Some (fault l c k)) f g in cc

told : (line column l c : ℕ) (kind k : TableKind) → fault line column kind ≡ fault l c k → faults.At line column (kinds.Table kind) ≡ faults.At l c (kinds.Table k)
told line column l c kind k e =
    let at : Found → ModuleFault = λ f. faults.At f.place.line f.place.column (kinds.Table f.kind) in ap_at at
  where
    ap_at : (at : Found → ModuleFault) → at (fault line column kind) ≡ at (fault l c k)
    ap_at at = (λ j. at (e j))

pub one_fault : (octets : List ℕ) (line column l c : ℕ) (kind k : ModuleKind) → IsRefused octets (faults.At line column kind) → IsRefused octets (faults.At l c k) → faults.At line column kind ≡ faults.At l c k
one_fault octets line column l c (kinds.Notation kind) (kinds.Notation k) f g = let e = sym f.1 ∙ g.1 in cc
one_fault octets line column l c (kinds.Notation kind) (kinds.Table k) f g = let e = sym f.1 ∙ g.2 in absurd cc
one_fault octets line column l c (kinds.Notation kind) (kinds.File k) f g = let e : true ≡ false = sym g.0 ∙ f.0 in absurd cc
one_fault octets line column l c (kinds.Table kind) (kinds.Notation k) f g = let e = sym f.2 ∙ g.1 in absurd cc
one_fault octets line column l c (kinds.Table kind) (kinds.Table k) f g =
    let same : f.1 ≡ g.1 = same_read octets f.1 g.1 f.2 g.2 in
    told line column l c kind k (one_of_module g.1 line column l c kind k (subst (λ (m : ModuleText). HasFault m line column kind) same f.3) g.3)
one_fault octets line column l c (kinds.Table kind) (kinds.File k) f g = let e : true ≡ false = sym g.0 ∙ f.0 in absurd cc
one_fault octets line column l c (kinds.File kind) (kinds.Notation k) f g = let e : true ≡ false = sym f.0 ∙ g.0 in absurd cc
one_fault octets line column l c (kinds.File kind) (kinds.Table k) f g = let e : true ≡ false = sym f.0 ∙ g.0 in absurd cc
one_fault octets line column l c (kinds.File kind) (kinds.File k) f g = let e = sym f.2 ∙ g.2 in let lines : line ≡ l = f.1 ∙ sym g.1 in cc
