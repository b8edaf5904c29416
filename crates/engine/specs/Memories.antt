-- What a cache's memory says of its chip between calls.
use Rattle.device.specs.Chips.{Pages}
use Rattle.table.specs.Tables.{Table}
use Rattle.journal.specs.Notes.{noted, pages_of}
use Rattle.engine.specs.declared.memory.Memory.{Memory}
use Rattle.engine.specs.Works.{Holding}

-- the chip holds a committed table, and the memory what has become of it since
abbrev pub HoldsSomeTable : Pages → Memory → Type 0
HoldsSomeTable m w = (t : Table) × Holding (pages_of w.journal) m (noted w.journal) w.space t
