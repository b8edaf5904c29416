-- When the calls of a cache are refused, in the order in which the conditions are looked for: off, the buffer, the place, then what is held.
use Rattle.std.specs.Prelude.{ℕ, ◌+◌, cond, ◌&&◌, Some, None, Ok, Err, Option, Result, ◌==◌, nat_le}
use Rattle.device.specs.declared.faults.Fault.{Fault}
use Rattle.device.specs.declared.faults.Refusal.{Refusal}
use Rattle.device.specs.declared.faults.Refusal.TheVariants.{PowerOff, BadSize, OutOfRange, Unsettled, NotBlank, Torn, Blank, NotHeld, Full, NoCheckpoint, Breach, BadGeometry}
use Rattle.recovery.specs.Recovering.{cache_fault}
use Rattle.table.specs.Tables.{Table, held}

-- while a cache is off, it repeats the fault that put or kept it so, whatever the arguments
abbrev pub unless_off : Option Fault → Option Fault → Option Fault
unless_off None other = other
unless_off (Some f) other = Some f

abbrev pub write_refusal : Option Fault → ℕ → ℕ → Option Fault
write_refusal off a len = unless_off off (cond (len == 512) None (Some (cache_fault a BadSize)))

abbrev pub held_refusal : Table → ℕ → Option Fault
held_refusal t a = cond (held t a) None (Some (cache_fault a NotHeld))

abbrev pub read_refusal : Option Fault → Table → ℕ → ℕ → Option Fault
read_refusal off t a len = unless_off off (cond (len == 512) (held_refusal t a) (Some (cache_fault a BadSize)))

-- 1 to 512 marks, of addresses up to the last one
abbrev pub exists_refusal : Option Fault → ℕ → ℕ → Option Fault
exists_refusal off first len =
    unless_off off (cond (nat_le 1 len && nat_le len 512) (cond (nat_le (first + len) 4294967296) None (Some (cache_fault first OutOfRange))) (Some (cache_fault first BadSize)))

-- power that fails puts the cache off with that very fault; no other refusal of a working cache does
abbrev pub by_refusal : Refusal → Fault → Option Fault
by_refusal PowerOff f = Some f
by_refusal BadSize f = None
by_refusal OutOfRange f = None
by_refusal Unsettled f = None
by_refusal NotBlank f = None
by_refusal Torn f = None
by_refusal Blank f = None
by_refusal NotHeld f = None
by_refusal Full f = None
by_refusal NoCheckpoint f = None
by_refusal Breach f = None
by_refusal BadGeometry f = None

abbrev pub off_by : Fault → Option Fault
off_by f = by_refusal f.refusal f

-- what an answer leaves a cache that was on
abbrev pub off_after : Result (Unit {0}) Fault → Option Fault
off_after (Ok x) = None
off_after (Err f) = off_by f
