-- What an image device does exactly: beyond the rules of its kind, nothing settles early, and power fails just where its fuse is spent.
use Rattle.std.specs.Prelude.{◌≡◌, ℕ, zero, suc, pred, ◌*◌, ◌/◌, ◌<◌, ◌≤◌, Bool, true, false, ◌⊎◌, List, [], ◌∷◌, length, Some, None, Ok, Err, Option, Result}
use Rattle.std.specs.Borrow.{MutBor}
use Rattle.device.specs.declared.faults.Fault.{Fault}
use Rattle.device.specs.declared.faults.Layer.{Layer}
use Rattle.device.specs.declared.faults.Refusal.{Refusal}
use Rattle.image.specs.declared.fuses.Power.{Power}

-- the power of a device: whether it is on, what its present fuse has left, and the fuses of the power-ons to come
pub record Supply : Type 0 where
  pub on : Bool
  pub left : Option ℕ
  pub rest : List ℕ

abbrev pub supply : Power → Supply
supply p = record { on = p.on; left = p.left; rest = p.rest.now }

-- what a contract sees of a refusal to make one: why, and the image that comes back
pub record Declined : Type 0 where
  pub fault : Fault
  pub image : MutBor (List ℕ)

-- what a contract sees of an image device: the image that it was lent, and its power
pub record Device : Type 0 where
  pub image : MutBor (List ℕ)
  pub power : Power

-- an image device: its power and its image
pub record View : Type 0 where
  pub power : Supply
  pub bytes : List ℕ

-- how a device is made: off, with no power-on behind it
abbrev pub new_supply : List ℕ → Supply
new_supply fuses = record { on = false; left = None; rest = fuses }

abbrev pub fresh : List ℕ → List ℕ → View
fresh xs fuses = record { power = new_supply fuses; bytes = xs }

-- A fuse counts the programs, writes, erases and syncs that are still served. Without one, power does not fail.
abbrev pub spent : Option ℕ → Bool
spent None = false
spent (Some zero) = true
spent (Some (suc n)) = false

abbrev pub one_less : Option ℕ → Option ℕ
one_less None = None
one_less (Some n) = Some (pred n)

-- the fuse of the next power-on, and those after it
abbrev pub next_fuse : List ℕ → Option ℕ
next_fuse [] = None
next_fuse (n ∷ more) = Some n

abbrev pub later_fuses : List ℕ → List ℕ
later_fuses [] = []
later_fuses (n ∷ more) = more

-- power with one call less to come, lost power, and power with the next fuse
abbrev pub burnt : Supply → Supply
burnt s = record { on = s.on; left = one_less s.left; rest = s.rest }

abbrev pub dark : Supply → Supply
dark s = record { on = false; left = s.left; rest = s.rest }

abbrev pub powered : Supply → Supply
powered s = record { on = true; left = next_fuse s.rest; rest = later_fuses s.rest }

-- what a fuse does at a call that is to be served: it burns, or power fails, and nothing else changes
abbrev pub Burns : Fault → Supply → Result (Unit {0}) Fault → Supply → Type 0
Burns lost s (Ok x) t = (spent s.left ≡ false) × (t ≡ burnt s)
Burns lost s (Err f) t = (spent s.left ≡ true) × (f ≡ lost) × (t ≡ dark s)

-- A call that counts: refused, or served with the image changed as `changed` says and as long as it was, or its power fails since its fuse is spent,
-- with no byte changed.
abbrev pub Counted : Option Fault → Fault → View → (List ℕ → Type 0) → Result (Unit {0}) Fault → View → Type 0
Counted refusal lost v changed (Ok x) w =
    (refusal ≡ None) × (spent v.power.left ≡ false) × changed w.bytes × (length w.bytes ≡ length v.bytes)
    × (w ≡ record { power = burnt v.power; bytes = w.bytes })
Counted refusal lost v changed (Err f) w =
    ((refusal ≡ Some f) × (w ≡ v))
    ⊎ ((refusal ≡ None) × (spent v.power.left ≡ true) × (f ≡ lost) × (w ≡ record { power = dark v.power; bytes = v.bytes }))

-- A read: refused, or served; it does not count, and it leaves the device as it was.
abbrev pub Looked : {T : Type 0} → Option Fault → (T → Type 0) → Type 0 → Result T Fault → Type 0
Looked refusal ok same (Ok x) = (refusal ≡ None) × ok x
Looked refusal ok same (Err f) = (refusal ≡ Some f) × same

-- A power-on: always served, with the next fuse, and the image cut as `changed` says.
abbrev pub Switched : View → (List ℕ → Type 0) → View → Type 0
Switched v changed w =
    changed w.bytes × (length w.bytes ≡ length v.bytes)
    × (w ≡ record { power = powered v.power; bytes = w.bytes })

-- the answer of a look at a call's conditions
abbrev pub Allows : Option Fault → Result (Unit {0}) Fault → Type 0
Allows refusal (Ok x) = refusal ≡ None
Allows refusal (Err f) = refusal ≡ Some f

-- a refusal, by its layer and its place
abbrev pub fault_at : Layer → ℕ → Refusal → Fault
fault_at layer p r = record { refusal = r; layer = layer; place = p }

-- 1 to `most` whole blocks of so many bytes, with up to eight fuses
pub record Serves (len block most : ℕ) (fuses : List ℕ) : Type 0 where
  pub whole : len ≡ block * (len / block)
  pub some : 0 < len / block
  pub few : len / block ≤ most
  pub fused : length fuses ≤ 8

-- The answer to whether an image and its fuses serve: `size` is the fault of a wrong size, or of more than eight fuses; else `bad p` is that of the first
-- frame p whose state is out of its list.
abbrev pub UnfitFor : Type 0 → Type 0 → Fault → (ℕ → Fault) → (ℕ → Type 0) → List ℕ → Result (Unit {0}) Fault → Type 0
UnfitFor fits good size bad first fuses (Ok x) = fits × (length fuses ≤ 8) × good
UnfitFor fits good size bad first fuses (Err f) =
    (((f ≡ size) × (fits × (length fuses ≤ 8) → ⊥))) ⊎ (fits × (length fuses ≤ 8) × ((p : ℕ) × (f ≡ bad p) × first p))
