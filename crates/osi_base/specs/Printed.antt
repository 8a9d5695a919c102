-- What faults print as.
use Rattle.std.specs.Prelude.{ℕ, ℤ, List, Option, Some, None, ◌++◌, codes, decimal}
use Rattle.std.specs.Fmt.{signed_decimal}
use Rattle.osi_base.specs.declared.layer_words.Kind.{Kind}
use Rattle.osi_base.specs.declared.layer_words.Kind.TheVariants as kinds
use Rattle.osi_base.specs.declared.layer_words.Layer.{Layer}
use Rattle.osi_base.specs.declared.layer_words.Layer.TheVariants as layers
use Rattle.osi_base.specs.declared.layer_words.Problem.{Problem}
use Rattle.osi_base.specs.declared.layer_words.ProblemKind.{ProblemKind}
use Rattle.osi_base.specs.declared.layer_words.ProblemKind.TheVariants as problems
use Rattle.osi_base.specs.declared.files.FileFault.{FileFault}
use Rattle.osi_base.specs.declared.files.FileFault.TheVariants as files
use Rattle.osi_base.specs.declared.sink.SinkFault.{SinkFault}
use Rattle.osi_base.specs.declared.sink.SinkFault.TheVariants as sinks
use Rattle.osi_base.specs.declared.line.LineFault.{LineFault}
use Rattle.osi_base.specs.declared.line.LineFault.TheVariants as lines

-- the name of a kind of fault
abbrev pub kind_word : Kind → List ℕ
kind_word kinds.Tag = codes "Tag"
kind_word kinds.Missing = codes "Missing"
kind_word kinds.Extra = codes "Extra"
kind_word kinds.Length = codes "Length"
kind_word kinds.Content = codes "Content"
kind_word kinds.Form = codes "Form"

-- the name of a layer
abbrev pub layer_word : Layer → List ℕ
layer_word layers.Transport = codes "transport"
layer_word layers.Session = codes "session"
layer_word layers.Presentation = codes "presentation"
layer_word layers.Acse = codes "acse"
layer_word layers.Rtse = codes "rtse"
layer_word layers.Rose = codes "rose"

abbrev pub no_memory_text : List ℕ
no_memory_text = codes "out of memory"

abbrev pub file_fault_text : FileFault → List ℕ
file_fault_text files.Failed = codes "reading failed"
file_fault_text files.Missing = codes "there is no such file"
file_fault_text files.NoMemory = no_memory_text

abbrev pub sink_fault_text : SinkFault → List ℕ
sink_fault_text sinks.Failed = codes "writing failed"
sink_fault_text sinks.NoMemory = no_memory_text

abbrev pub line_fault_text : LineFault → List ℕ
line_fault_text lines.Failed = codes "the line failed"
line_fault_text lines.NoMemory = no_memory_text

-- a cause, and the octet at which it stands
abbrev pub fault_at_text : List ℕ → ℕ → List ℕ
fault_at_text cause place = cause ++ (codes " at octet " ++ decimal place)

-- a word, and the number that comes with it, if any does
abbrev pub numbered_text : List ℕ → Option ℤ → List ℕ
numbered_text word (Some number) = word ++ (codes " " ++ signed_decimal number)
numbered_text word None = word

-- what a reject speaks of
abbrev pub problem_word : ProblemKind → List ℕ
problem_word problems.General = codes "general"
problem_word problems.Invoke = codes "invoke"
problem_word problems.Result = codes "result"
problem_word problems.Error = codes "error"

-- the problem that a reject carries
abbrev pub problem_text : Problem → List ℕ
problem_text problem = numbered_text (problem_word problem.kind) (Some problem.number)
