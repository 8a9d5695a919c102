-- Files that are held in memory.
use Rattle.std.specs.Prelude.{List, take, find}
use Rattle.std.specs.Option.{option_map}
use Rattle.std.specs.Str.{bytes_eq}
use Rattle.osi_base.specs.Outside.{FileMap}
use Rattle.osi_base.specs.Limits.{file_most}
use Rattle.osi_base.specs.declared.mem_files.MemFile.{MemFile}

-- the contents by name, cut after as many octets as are handed up; of two files with one name the first counts
abbrev pub contents_in : List MemFile → FileMap
contents_in files name =
    option_map (λ file. take file_most file.contents) (find (λ file. bytes_eq file.name name) files)
