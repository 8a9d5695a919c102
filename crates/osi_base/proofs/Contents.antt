-- Contents of files that are handed up.
use Rattle.std.proofs.Common.{Option, None, Some, ◌≤◌, ℕ, List, length, take, IfSome, find, length-take, arith}
use Rattle.std.specs.Option.{option_map}
use Rattle.std.specs.Str.{bytes_eq}
use Rattle.osi_base.specs.Memory.{contents_in}
use Rattle.osi_base.specs.Limits.{file_most}
use Rattle.osi_base.specs.declared.mem_files.MemFile.{MemFile}

cut_short : (most : ℕ) (octets : List ℕ) → length (take most octets) ≤ most
cut_short most octets = rw length-take (omega arith)

-- a cut content is short enough
cut_bounded : (found : Option MemFile)
    → IfSome (option_map (λ file. take file_most file.contents) found) (λ octets. length octets ≤ file_most)
cut_bounded None = tt
cut_bounded (Some file) = cut_short file_most file.contents

pub contents_in_bounded : (files : List MemFile) (name : List ℕ)
    → IfSome (contents_in files name) (λ octets. length octets ≤ file_most)
contents_in_bounded files name = cut_bounded (find (λ file. bytes_eq file.name name) files)
