-- How a cache follows a history: what its tables say of each address, while it is on, and what a power cut may leave, while it is off.
use Rattle.std.specs.Prelude.{◌≡◌, ℕ, true, false, ◌⊎◌, List, Some, None}
use Rattle.device.specs.declared.faults.Fault.{Fault}
use Rattle.device.specs.Faults.{refusal_number}
use Rattle.device.specs.Chips.{State, Pages, data_page_at}
use Rattle.device.specs.Chips as chips
use Rattle.layout.specs.declared.entries.Mark.TheVariants.{Dirty}
use Rattle.layout.specs.Pages.{data_note}
use Rattle.recovery.specs.Looking.{shown}
use Rattle.table.specs.Tables.{Table, entry, entry_at, holds, held}
use Rattle.journal.specs.Notes.{pages_of}
use Rattle.journal.specs.Points.{Left}
use Rattle.cache.specs.Views.{Working}
use Rattle.cache.specs.Caches.{chip_of, view_of, HoldsTable}
use Rattle.history.specs.Histories.{Slot, History, Phase}
use Rattle.history.specs.Histories.Slot.{absent, cached, kept}
use Rattle.history.specs.Histories.Phase.{on, off}

-- a data page holds these bytes of an address
abbrev pub PageHas : (ℕ → State) → ℕ → ℕ → List ℕ → Type 0
PageHas pages i a bytes = pages (data_page_at i) ≡ chips.State.held (data_note a) bytes

-- Kept bytes are on a dirty page. Cached ones are on the page that holds the address, if one does. An absent address is on no page.
abbrev pub SlotIs : Slot → Table → (ℕ → State) → ℕ → Type 0
SlotIs absent t pages a = held t a ≡ false
SlotIs (cached bytes) t pages a = (held t a ≡ false) ⊎ ((i : ℕ) × (holds a (entry_at t i) ≡ true) × PageHas pages i a bytes)
SlotIs (kept bytes) t pages a = (i : ℕ) × (entry_at t i ≡ entry Dirty a) × PageHas pages i a bytes

abbrev pub Agrees : History → Table → (ℕ → State) → Type 0
Agrees h t pages = (a : ℕ) → SlotIs (h a) t pages a

module _ {C : Type 0} (meaning : C → Pages) where
  -- the table in memory and the committed one both agree with the history
  pub record FollowsOn (h : History) (c : Working C) : Type 0 where
    pub power : c.off ≡ None
    pub table : Agrees h (view_of meaning c).table (shown (chip_of meaning c))
    pub committed : Table
    pub holding : HoldsTable meaning c committed
    pub agrees : Agrees h committed (shown (chip_of meaning c))

  -- whichever way a cut goes, recovery comes out at a table that agrees with one of the two histories
  pub record FollowsOff (h h' : History) (c : Working C) : Type 0 where
    pub fault : Fault
    pub power : c.off ≡ Some fault
    pub number : refusal_number fault.refusal ≡ 1
    pub left : Left (pages_of c.journal) (chip_of meaning c) (λ x. Agrees h x.table x.pages ⊎ Agrees h' x.table x.pages)

  abbrev pub Follows : Phase → Working C → Type 0
  Follows (on h) c = FollowsOn h c
  Follows (off h h') c = FollowsOff h h' c
