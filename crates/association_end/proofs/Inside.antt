-- An end by its fields.
use Rattle.association_end.specs.declared.end.End.TheInside.{Inside}
use Rattle.association_end.specs.View.{EndView}
use Rattle.association_end.specs.Seen.{view_of}

abbrev pub view_in : Inside → EndView
view_in e = view_of e.basis e.body e.waiting e.intake e.size
