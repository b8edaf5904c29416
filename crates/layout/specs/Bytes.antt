-- Numbers in bytes, most significant first, and what it means to read a value back from bytes.
use Rattle.std.specs.Prelude.{◌≡◌, ℕ, ◌/◌, ◌%◌, List, [], ◌∷◌, replicate, Some, None, Option, ◌≢◌}

-- a number in two bytes, before `rest`
abbrev pub two_bytes : ℕ → List ℕ → List ℕ
two_bytes n rest = (n / 256 % 256) ∷ (n % 256) ∷ rest

-- a number in four bytes
abbrev pub four_bytes : ℕ → List ℕ
four_bytes n = (n / 16777216 % 256) ∷ (n / 65536 % 256) ∷ (n / 256 % 256) ∷ (n % 256) ∷ []

abbrev pub zeros : ℕ → List ℕ
zeros n = replicate n 0

-- Reading `xs` answers the one proper value that has these bytes, or that no proper value has them.
abbrev pub Decodes : {X : Type 0} → (X → Type 0) → (X → List ℕ) → List ℕ → Option X → Type 0
Decodes {X} Proper bytes xs (Some x) = Proper x × (xs ≡ bytes x) × ((y : X) → Proper y → xs ≡ bytes y → y ≡ x)
Decodes {X} Proper bytes xs None = (y : X) → Proper y → xs ≢ bytes y
