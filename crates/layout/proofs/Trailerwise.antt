-- No two trailers have the same bytes.
use Rattle.std.proofs.Common.{◌≡◌, rules}
use Rattle.layout.specs.declared.trailers.Trailer.{Trailer}
use Rattle.layout.specs.Pages.{trailer_bytes, ProperTrailer}
use Rattle.std.proofs.Common.{ℕ, ◌<◌, List, [], ◌∷◌, length, get_or}
use Rattle.layout.specs.declared.areas.Area.{Area}
use Rattle.layout.specs.Geometry.{first_page}
use Rattle.layout.proofs.Numbers.{two_number, two_in, eight_listed}

pub same_trailer : (t u : Trailer) → ProperTrailer t → ProperTrailer u → trailer_bytes t ≡ trailer_bytes u → t ≡ u
same_trailer t u ht hu e = search rules

abbrev trailer_of : Area → ℕ → Trailer
trailer_of a n = record { area = a; pages = n }

-- eight bytes as a trailer's head
module _ (xs : List ℕ) (len : length xs ≡ 8) (small : (i : ℕ) → get_or xs i 0 < 256) (h0 : get_or xs 0 0 ≡ 70) (h1 : get_or xs 1 0 ≡ 84) (h2 : get_or xs 2 0 ≡ 67) (h3 : get_or xs 3 0 ≡ 80) where
  pub trailer_read : (a : Area) (f n : ℕ) → f ≡ two_number (get_or xs 4 0) (get_or xs 5 0) → n ≡ two_number (get_or xs 6 0) (get_or xs 7 0) → f ≡ first_page a
      → xs ≡ trailer_bytes (trailer_of a n)
  trailer_read a f n hf hn ha =
      let e = eight_listed xs len in
      let s = two_in (get_or xs 4 0) (get_or xs 5 0) (get_or xs 6 0 ∷ get_or xs 7 0 ∷ []) (small 4) (small 5) in
      let t = two_in (get_or xs 6 0) (get_or xs 7 0) [] (small 6) (small 7) in
      cc
