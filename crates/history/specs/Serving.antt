-- What serving one call of a list means for the cache, and what a whole run answers.
use Rattle.std.specs.Prelude.{◌≡◌, ℕ, true, false, ◌⊎◌, List, length, take, Some, None, Ok, Err, vec_items, Result}
use Rattle.std.specs.Global.{Vec}
use Rattle.device.specs.declared.faults.Fault.{Fault}
use Rattle.device.specs.Chips.{Pages}
use Rattle.layout.specs.Geometry.{geometry_refusal}
use Rattle.journal.specs.Steps.{Fails}
use Rattle.cache.specs.Views.{Working}
use Rattle.cache.specs.Caches.{WriteCall, ReadCall, EvictCall, CleanCall, ExistsCall, SyncCall, PowerCall}
use Rattle.history.specs.declared.calls.Call.{Call}
use Rattle.history.specs.declared.calls.Call.TheVariants.{WriteDirty, WriteClean, Read, Evict, Clean, Exists, Sync, PowerOn}
use Rattle.history.specs.Answers.{Answer}
use Rattle.history.specs.declared.calls.Served.TheVariants.{Done, Data, Marks}
use Rattle.history.specs.declared.runs.NotRun.{NotRun}
use Rattle.history.specs.declared.runs.NotRun.TheVariants.{NoMemory, NotFormed}
use Rattle.history.specs.Histories.{Fits}

-- a call that answers nothing but that it is done
abbrev pub Plain : (Result (Unit {0}) Fault → Type 0) → Answer → Type 0
Plain ResultIs (Ok Done) = ResultIs (Ok tt)
Plain ResultIs (Err f) = ResultIs (Err f)
Plain ResultIs (Ok (Data page)) = ⊥
Plain ResultIs (Ok (Marks page len)) = ⊥

module _ {C : Type 0} (meaning : C → Pages) where
  -- a read into a buffer of this length
  abbrev pub ReadServes : ℕ → ℕ → Working C → Answer → Working C → Type 0
  ReadServes a len c (Ok Done) d = ⊥
  ReadServes a len c (Ok (Marks page n)) d = ⊥
  ReadServes a len c (Ok (Data page)) d = (buf : List ℕ) × (length buf ≡ len) × ReadCall meaning a buf c (Ok tt) page d
  ReadServes a len c (Err f) d = (buf : List ℕ) × (after : List ℕ) × (length buf ≡ len) × ReadCall meaning a buf c (Err f) after d

  -- the marks of as many addresses as the buffer has room for; the cache is only looked at
  abbrev pub ExistsServes : ℕ → ℕ → Working C → Answer → Working C → Type 0
  ExistsServes a len c (Ok Done) d = ⊥
  ExistsServes a len c (Ok (Data page)) d = ⊥
  ExistsServes a len c (Ok (Marks page n)) d = (d ≡ c) × (n ≡ len) × ((buf : List ℕ) × (length buf ≡ len) × ExistsCall meaning a buf c (Ok tt) (take n page))
  ExistsServes a len c (Err f) d = (d ≡ c) × ((buf : List ℕ) × (after : List ℕ) × (length buf ≡ len) × ExistsCall meaning a buf c (Err f) after)

  abbrev pub Serves : Working C → Call → Answer → Working C → Type 0
  Serves c (WriteDirty a bytes) x d = Plain (λ r. WriteCall meaning true a.0 bytes.now c r d) x
  Serves c (WriteClean a bytes) x d = Plain (λ r. WriteCall meaning false a.0 bytes.now c r d) x
  Serves c (Read a len) x d = ReadServes a.0 len c x d
  Serves c (Evict a) x d = Plain (λ r. EvictCall meaning a.0 c r d) x
  Serves c (Clean a) x d = Plain (λ r. CleanCall meaning a.0 c r d) x
  Serves c (Exists a len) x d = ExistsServes a.0 len c x d
  Serves c Sync x d = Plain (λ r. SyncCall meaning c r d) x
  Serves c PowerOn x d = Plain (λ r. PowerCall meaning c r d) x

-- A whole run: the answers fit, whenever the form was served. A chip of a wrong size, or whose power failed in the form, is not formed; without memory for the
-- answers nothing is touched.
abbrev pub Law : Pages → List Call → Result (Vec Answer) NotRun → Pages → Type 0
Law m cs (Ok xs) n = Fits cs (vec_items xs)
Law m cs (Err (NotFormed f)) n = ((geometry_refusal m.size ≡ Some f) × (n ≡ m)) ⊎ ((geometry_refusal m.size ≡ None) × Fails m f n)
Law m cs (Err NoMemory) n = n ≡ m
