-- A number that is read as a state or a fate, and written again: the rules of the states say the same of both.
use Rattle.std.proofs.Common.{◌≡◌, ℕ, zero, suc, refl}
use Rattle.chip_frames.specs.Frames.{settled_state, erased_state, by_fate, cut_state, unsettled_state}
use Rattle.chip_frames.specs.Codes.{state_number, state_of, fate_number, fate_of}

pub settled_number : (n : ℕ) → settled_state (state_number (state_of n)) ≡ settled_state n
settled_number zero = refl
settled_number (suc zero) = refl
settled_number (suc (suc zero)) = refl
settled_number (suc (suc (suc zero))) = refl
settled_number (suc (suc (suc (suc zero)))) = refl
settled_number (suc (suc (suc (suc (suc zero))))) = refl
settled_number (suc (suc (suc (suc (suc (suc n)))))) = refl

pub erased_number : (n : ℕ) → erased_state (state_number (state_of n)) ≡ erased_state n
erased_number zero = refl
erased_number (suc zero) = refl
erased_number (suc (suc zero)) = refl
erased_number (suc (suc (suc zero))) = refl
erased_number (suc (suc (suc (suc zero)))) = refl
erased_number (suc (suc (suc (suc (suc zero))))) = refl
erased_number (suc (suc (suc (suc (suc (suc n)))))) = refl

by_fate_number : (fate old new : ℕ) → by_fate (fate_number (fate_of fate)) old new ≡ by_fate fate old new
by_fate_number zero old new = refl
by_fate_number (suc zero) old new = refl
by_fate_number (suc (suc n)) old new = refl

pub cut_number : (n fate : ℕ) → cut_state (state_number (state_of n)) (fate_number (fate_of fate)) ≡ cut_state n fate
cut_number zero fate = refl
cut_number (suc zero) fate = refl
cut_number (suc (suc zero)) fate = refl
cut_number (suc (suc (suc zero))) fate = by_fate_number fate 0 1
cut_number (suc (suc (suc (suc zero)))) fate = by_fate_number fate 1 0
cut_number (suc (suc (suc (suc (suc zero))))) fate = by_fate_number fate 2 0
cut_number (suc (suc (suc (suc (suc (suc n)))))) fate = refl

pub unsettled_number : (n : ℕ) → unsettled_state (state_number (state_of n)) ≡ unsettled_state n
unsettled_number zero = refl
unsettled_number (suc zero) = refl
unsettled_number (suc (suc zero)) = refl
unsettled_number (suc (suc (suc zero))) = refl
unsettled_number (suc (suc (suc (suc zero)))) = refl
unsettled_number (suc (suc (suc (suc (suc zero))))) = refl
unsettled_number (suc (suc (suc (suc (suc (suc n)))))) = refl
