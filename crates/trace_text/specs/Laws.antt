-- The law of traces.
use Rattle.std.specs.Prelude.{◌≡◌, ℕ, List}
use Rattle.stub_tables.specs.declared.tables.Tables.{Tables}
use Rattle.trace_file.specs.declared.reading.Recorded.{Recorded}
use Rattle.trace_text.specs.Trace.{TraceTextOf}

-- A recorded dialogue has one trace at most by the same tables.
abbrev pub OneTrace : Type 0
OneTrace = (tables : Tables) (told : List Recorded) (x y : List ℕ) → TraceTextOf tables told x → TraceTextOf tables told y → x ≡ y
