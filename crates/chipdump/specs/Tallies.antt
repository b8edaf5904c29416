-- How many entries of a mapping table have a mark.
use Rattle.std.specs.Prelude.{ℕ, Bool, List, count_by, ◌==◌}
use Rattle.layout.specs.declared.entries.Entry.{Entry}
use Rattle.layout.specs.declared.entries.Mark.{Mark}
use Rattle.layout.specs.Entries.{mark_number}

abbrev pub has : Mark → Entry → Bool
has mark e = mark_number e.mark == mark_number mark

abbrev pub marked_as : Mark → List Entry → ℕ
marked_as mark entries = count_by (has mark) entries
