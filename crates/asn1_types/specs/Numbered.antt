-- Classes and kinds of text by the numbers that stand for them in table files and in modules that were read.
use Rattle.std.specs.Prelude.{zero, suc, ℤ, pos, negsuc, Option, Some, None}
use Rattle.asn1_types.specs.declared.row.Class.{Class}
use Rattle.asn1_types.specs.declared.row.Class.TheVariants.{Universal, Application, Context, Private}
use Rattle.asn1_types.specs.declared.row.TextKind.{TextKind}
use Rattle.asn1_types.specs.declared.row.TextKind.TheVariants.{Utf8, Ia5, Visible, Printable, Numeric}

abbrev pub kind_numbered : ℤ → Option TextKind
kind_numbered (pos zero) = Some Utf8
kind_numbered (pos (suc zero)) = Some Ia5
kind_numbered (pos (suc (suc zero))) = Some Visible
kind_numbered (pos (suc (suc (suc zero)))) = Some Printable
kind_numbered (pos (suc (suc (suc (suc zero))))) = Some Numeric
kind_numbered (pos (suc (suc (suc (suc (suc n)))))) = None
kind_numbered (negsuc n) = None

abbrev pub class_numbered : ℤ → Option Class
class_numbered (pos zero) = Some Universal
class_numbered (pos (suc zero)) = Some Application
class_numbered (pos (suc (suc zero))) = Some Context
class_numbered (pos (suc (suc (suc zero)))) = Some Private
class_numbered (pos (suc (suc (suc (suc n))))) = None
class_numbered (negsuc n) = None
