-- What the calls of a cache answer and leave, over any chip by what it means.
use Rattle.std.specs.Prelude.{◌≡◌, ℕ, Bool, ◌⊎◌, List, length, Some, None, Ok, Err, Option, Result}
use Rattle.device.specs.declared.faults.Fault.{Fault}
use Rattle.device.specs.Chips.{Pages}
use Rattle.layout.specs.declared.entries.Mark.{Mark}
use Rattle.layout.specs.declared.entries.Mark.TheVariants.{Empty, Clean, Dirty}
use Rattle.layout.specs.Geometry.{data_pages, geometry_refusal}
use Rattle.table.specs.Tables.{Table, mark_of}
use Rattle.table.specs.Views.{marks_from}
use Rattle.journal.specs.Notes.{Noted, noted, pages_of}
use Rattle.journal.specs.Steps.{Fails}
use Rattle.engine.specs.declared.memory.Memory.{Memory}
use Rattle.engine.specs.Works.{Holding, Writes, Evicts, Cleans, Flushes, Fetches, Woken, StaysDark, Begun}
use Rattle.cache.specs.declared.bare.Permit.{Permit}
use Rattle.cache.specs.Views.{Working, Bare, Sound}
use Rattle.cache.specs.Refusals.{write_refusal, read_refusal, held_refusal, exists_refusal, unless_off, off_by}

module _ {C : Type 0} (meaning : C → Pages) where
  -- what the cache's chip means
  abbrev pub chip_of : Working C → Pages
  chip_of c = meaning c.chip

  abbrev pub view_of : Working C → Noted
  view_of c = noted c.journal

  -- between calls the chip holds a committed table, while the cache is on
  abbrev pub HoldsTable : Working C → Table → Type 0
  HoldsTable c t = Holding (pages_of c.journal) (chip_of c) (view_of c) c.space t

  -- what the type of a cache keeps, for those who see only its value
  abbrev pub IsSound : Working C → Type 0
  IsSound c = Sound (chip_of c) (record { journal = c.journal; space = c.space }) c.off

  -- A call that its conditions refuse answers that refusal, and nothing has changed. Any other does its work, and is off afterwards only if power failed.
  abbrev pub Call : {T : Type 0} → Option Fault → (Result T Fault → Type 0) → Working C → Result T Fault → Working C → Type 0
  Call refusal Work c (Ok x) d = (refusal ≡ None) × (d.off ≡ None) × Work (Ok x)
  Call refusal Work c (Err f) d = ((refusal ≡ Some f) × (d ≡ c)) ⊎ ((refusal ≡ None) × (d.off ≡ off_by f) × Work (Err f))

  abbrev pub WriteCall : Bool → ℕ → List ℕ → Working C → Result (Unit {0}) Fault → Working C → Type 0
  WriteCall dirty a bytes c r d =
      Call (write_refusal c.off a (length bytes))
      (λ r. Writes (pages_of c.journal) c.journal.geometry.blocks dirty a bytes (chip_of c) (view_of c) c.space r (chip_of d) (view_of d) d.space) c r d

  -- the buffer holds the data, or what it held before
  abbrev pub ReadCall : ℕ → List ℕ → Working C → Result (Unit {0}) Fault → List ℕ → Working C → Type 0
  ReadCall a buf c (Ok x) after d =
      Call (read_refusal c.off (view_of c).table a (length buf))
      (λ r. Fetches (pages_of c.journal) a (chip_of c) (view_of c) c.space buf r after (chip_of d) × (view_of d ≡ view_of c) × (d.space ≡ c.space)) c (Ok x) d
  ReadCall a buf c (Err f) after d =
      (after ≡ buf)
      × Call {T = Unit {0}} (read_refusal c.off (view_of c).table a (length buf)) (λ r. Fetches (pages_of c.journal) a (chip_of c) (view_of c) c.space buf r after (chip_of d)) c (Err f) d

  abbrev pub EvictCall : ℕ → Working C → Result (Unit {0}) Fault → Working C → Type 0
  EvictCall a c r d =
      Call (unless_off c.off (held_refusal (view_of c).table a))
      (λ r. Evicts (pages_of c.journal) a (chip_of c) (view_of c) c.space r (chip_of d) (view_of d) × (d.space ≡ c.space)) c r d

  -- on a clean address nothing happens
  abbrev pub CleanWork : Mark → ℕ → Working C → Result (Unit {0}) Fault → Working C → Type 0
  CleanWork Empty a c r d = ⊥
  CleanWork Clean a c r d = (r ≡ Ok tt) × (d ≡ c)
  CleanWork Dirty a c r d = Cleans (pages_of c.journal) a (chip_of c) (view_of c) c.space r (chip_of d) (view_of d) × (d.space ≡ c.space)

  abbrev pub CleanCall : ℕ → Working C → Result (Unit {0}) Fault → Working C → Type 0
  CleanCall a c r d =
      Call (unless_off c.off (held_refusal (view_of c).table a)) (λ r. CleanWork (mark_of (view_of c).table a) a c r d) c r d

  abbrev pub SyncCall : Working C → Result (Unit {0}) Fault → Working C → Type 0
  SyncCall c r d =
      Call (unless_off c.off None) (λ r. Flushes (pages_of c.journal) (chip_of c) (view_of c) c.space r (chip_of d) (view_of d) × (d.space ≡ c.space)) c r d

  -- the marks of the addresses, 0 where one is not held; the cache is only looked at
  abbrev pub ExistsCall : ℕ → List ℕ → Working C → Result (Unit {0}) Fault → List ℕ → Type 0
  ExistsCall first buf c (Ok x) after = (exists_refusal c.off first (length buf) ≡ None) × (after ≡ marks_from (view_of c).table first (length buf))
  ExistsCall first buf c (Err f) after = (exists_refusal c.off first (length buf) ≡ Some f) × (after ≡ buf)

  -- Power-on: what recovery finds on the chip as the cut left it; a refused one keeps the cache off with its fault.
  abbrev pub PowerCall : Working C → Result (Unit {0}) Fault → Working C → Type 0
  PowerCall c (Ok x) d = (d.off ≡ None) × Woken (pages_of c.journal) (chip_of c) (chip_of d) d.journal d.space
  PowerCall c (Err f) d =
      (d.off ≡ Some f) × StaysDark (pages_of c.journal) (chip_of c) f (chip_of d) × (d.journal ≡ c.journal) × (d.space ≡ c.space)

  -- A bare cache.

  abbrev pub bare_chip : Bare C → Pages
  bare_chip b = meaning b.chip

  -- this bare cache, as it is now, granted the permit
  pub record Granted (b : Bare C) (p : Permit) : Type 0 where
    pub this : p.number ≡ b.number
    pub formed : (w : Memory) × (b.memory ≡ Some w)

  -- Form and adopt. `Made` is what is served, `Dark` what a refusal leaves; a chip of a wrong size is refused before it is touched.
  abbrev pub Starts : (Pages → Memory → Pages → Type 0) → (Pages → Fault → Pages → Type 0) → Bare C → Result Permit Fault → Bare C → Type 0
  Starts Made Dark b (Ok p) d = (geometry_refusal (bare_chip b).size ≡ None) × Granted d p × ((w : Memory) × (d.memory ≡ Some w) × Made (bare_chip b) w (bare_chip d))
  Starts Made Dark b (Err f) d =
      ((geometry_refusal (bare_chip b).size ≡ Some f) × (d ≡ b)) ⊎ ((geometry_refusal (bare_chip b).size ≡ None) × (d.memory ≡ None) × Dark (bare_chip b) f (bare_chip d))

  abbrev pub FormCall : Bare C → Result Permit Fault → Bare C → Type 0
  FormCall b r d = Starts (λ m w n. Begun (data_pages m.size) m n w.journal w.space) Fails b r d

  abbrev pub AdoptCall : Bare C → Result Permit Fault → Bare C → Type 0
  AdoptCall b r d = Starts (λ m w n. Woken (data_pages m.size) m n w.journal w.space) (λ m f n. StaysDark (data_pages m.size) m f n) b r d

  -- a working cache is on, with what the bare one had in memory
  pub record Opens (b : Bare C) (w : Memory) (c : Working C) : Type 0 where
    pub chip : c.chip ≡ b.chip
    pub journal : c.journal ≡ w.journal
    pub space : c.space ≡ w.space
    pub on : c.off ≡ None
