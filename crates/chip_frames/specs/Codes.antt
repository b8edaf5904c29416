-- The numbers of the states and fates of a frame, and what each byte stands for.
use Rattle.std.specs.Prelude.{◌≡◌, ℕ, zero, suc}
use Rattle.chip_frames.specs.declared.states.State.{State}
use Rattle.chip_frames.specs.declared.states.State.TheVariants.{Blank, Held, Torn, Programmed, HeldErased, TornErased}
use Rattle.chip_frames.specs.declared.states.Fate.{Fate}
use Rattle.chip_frames.specs.declared.states.Fate.TheVariants.{Old, New, Torn as TornFate}

abbrev pub state_number : State → ℕ
state_number Blank = 0
state_number Held = 1
state_number Torn = 2
state_number Programmed = 3
state_number HeldErased = 4
state_number TornErased = 5

-- a byte past the list counts as torn
abbrev pub state_of : ℕ → State
state_of zero = Blank
state_of (suc zero) = Held
state_of (suc (suc zero)) = Torn
state_of (suc (suc (suc zero))) = Programmed
state_of (suc (suc (suc (suc zero)))) = HeldErased
state_of (suc (suc (suc (suc (suc zero))))) = TornErased
state_of (suc (suc (suc (suc (suc (suc n)))))) = Torn

abbrev pub fate_number : Fate → ℕ
fate_number Old = 0
fate_number New = 1
fate_number TornFate = 2

abbrev pub fate_of : ℕ → Fate
fate_of zero = Old
fate_of (suc zero) = New
fate_of (suc (suc n)) = TornFate

-- the change makes of the state and the fate that stand in a frame the state whose number is put there
abbrev pub Changes : (State → Fate → State → Type 0) → ℕ → ℕ → ℕ → Type 0
Changes post state fate after = (s : State) × post (state_of state) (fate_of fate) s × (after ≡ state_number s)
