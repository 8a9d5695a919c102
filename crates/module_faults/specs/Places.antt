-- The tests of single tokens.
use Rattle.std.specs.Prelude.{◌==◌, Bool, not, ◌&&◌, ◌||◌, pos, int_lt}
use Rattle.std.specs.Ordering.{int_eq}
use Rattle.osi_base.specs.Limits.{most_32}
use Rattle.operation_notation.specs.declared.module.RangeText.{RangeText}
use Rattle.operation_notation.specs.declared.module.TagText.{TagText}

-- a range whose high end is below its low end (X.680 51.4)
abbrev pub is_bad_range : RangeText → Bool
is_bad_range range = int_lt range.high range.low

-- a SIZE that doesn't begin with 0, or passes 32 bits
abbrev pub is_bad_size : RangeText → Bool
is_bad_size size = not (int_eq size.low (pos 0)) || (int_lt size.high (pos 0) || int_lt (pos most_32) size.high)

-- the tag UNIVERSAL 0 (X.690 8.1.5 keeps it for the end of contents)
abbrev pub is_bad_tag : TagText → Bool
is_bad_tag tag = (tag.class == 0) && (tag.number == 0)
