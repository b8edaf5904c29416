-- A cache as its callers see it, and what it keeps true of that between calls.
use Rattle.std.specs.Prelude.{◌≡◌, ℕ, Some, None, Option}
use Rattle.device.specs.declared.faults.Fault.{Fault}
use Rattle.device.specs.Chips.{Pages}
use Rattle.journal.specs.declared.memory.Journal.{Journal}
use Rattle.space.specs.declared.blanks.Space.{Space}
use Rattle.engine.specs.declared.memory.Memory.{Memory}
use Rattle.engine.specs.Memories.{HoldsSomeTable}

-- a working cache: its chip, what it keeps in memory, and the fault that put or kept it off
pub record Working (C : Type 0) : Type 0 where
  pub chip : C
  pub journal : Journal
  pub space : Space
  pub off : Option Fault

-- a bare cache: its chip, what a form or an adopt found, and the number of the last permit
pub record Bare (C : Type 0) : Type 0 where
  pub chip : C
  pub memory : Option Memory
  pub number : ℕ

-- between calls the chip holds a committed table, while the cache is on
pub record Sound (m : Pages) (w : Memory) (off : Option Fault) : Type 0 where
  pub fits : m.size ≡ w.journal.geometry.blocks
  pub on : off ≡ None → HoldsSomeTable m w

-- what opening will hold in memory fits the chip
pub record ReadyToOpen (m : Pages) (w : Memory) : Type 0 where
  pub fits : m.size ≡ w.journal.geometry.blocks
  pub holding : HoldsSomeTable m w

abbrev pub BareSound : Pages → Option Memory → Type 0
BareSound m memory = (w : Memory) → memory ≡ Some w → ReadyToOpen m w
