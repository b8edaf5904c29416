-- What the whole of recovery answers.
use Rattle.std.specs.Prelude.{◌≡◌, true, ◌⊎◌, Some, None, Ok, Err, Result}
use Rattle.device.specs.declared.faults.Fault.{Fault}
use Rattle.device.specs.Chips.{Pages}
use Rattle.layout.specs.Geometry.{data_pages, geometry_refusal}
use Rattle.table.specs.Views.{table_of}
use Rattle.recovery.specs.declared.restored.Restored.{Restored}
use Rattle.recovery.specs.Recovering.{Found, Recovers}
use Rattle.recovery.specs.Looking.{shown, Lost}

abbrev pub found_of : Restored → Found
found_of r = record { table = table_of r.table; area = r.area; number = r.number; next = r.next }

-- A chip of a wrong size is refused untouched. Of any other, the answer is what its pages say, with the chip on; or the chip has no power.
abbrev pub Restores : Pages → Result Restored Fault → Pages → Type 0
Restores m (Ok r) n = (geometry_refusal m.size ≡ None) × (n.on ≡ true) × Recovers (data_pages m.size) (shown m) (Ok (found_of r))
Restores m (Err f) n =
    ((geometry_refusal m.size ≡ Some f) × (n ≡ m))
    ⊎ ((geometry_refusal m.size ≡ None) × (Lost f n ⊎ ((n.on ≡ true) × Recovers (data_pages m.size) (shown m) (Err f))))
