-- What the two trailers say, once both have been looked at.
use Rattle.std.proofs.Common.{◌≡◌, ℕ, true, ◌⊎◌, Some, None, Ok, Err, Option, Result, sym, refl, subst, inl, inr}
use mathlib.Core.Path.{fun_ext}
use Rattle.device.specs.declared.faults.Fault.{Fault}
use Rattle.device.specs.declared.faults.Refusal.TheVariants.{Breach}
use Rattle.device.specs.Chips.{State, Pages}
use Rattle.layout.specs.declared.areas.Area.{Area}
use Rattle.layout.specs.declared.areas.Area.TheVariants.{One, Two}
use Rattle.layout.specs.Geometry.{trailer_at}
use Rattle.recovery.specs.declared.trailers.ActiveArea.{ActiveArea}
use Rattle.recovery.specs.Recovering.{cache_fault, Numbered, Active, Malformed, Failed}
use Rattle.recovery.specs.Recovering.Failed.{no_trailer, second_trailer, same_number}
use Rattle.recovery.specs.Looking.{shown, Quiet, Stage, Lost}
use Rattle.recovery.specs.Trailers.{TrailerIs, Judged, Chosen}
use Rattle.recovery.proofs.Lookwise.{quiet_shown}
use Rattle.std.proofs.Common.{List, ap, ◌∙◌}
use Rattle.device.specs.Chips.{Note}
use Rattle.device.specs.Chips.State.{held}
use Rattle.layout.specs.Pages.{trailer_note, trailer_data, TrailerRead}
use Rattle.recovery.specs.Recovering.{Counts}

pub formed : (D : ℕ) (s : ℕ → State) (area : Area) (o : Option ℕ) → TrailerIs D s area o → Malformed D s area → ⊥
formed D s area (Some n) h (c, not) = not n h
formed D s area None h (c, not) = h c

pub second_breach : (D : ℕ) (s : ℕ → State) (o : Option ℕ) (f : Fault) (n : Pages) → TrailerIs D s One o
    → Lost f n ⊎ ((n.on ≡ true) × ((f ≡ cache_fault (trailer_at D Two) Breach) × Malformed D s Two)) → Lost f n ⊎ ((n.on ≡ true) × Failed D s f)
second_breach D s o f n one (inl x) = inl x
second_breach D s o f n one (inr (on, (e, bad))) = inr (on, second_trailer e (formed D s One o one) bad)

pub trailers_found : (D : ℕ) (s : ℕ → State) (one two : Option ℕ) (r : Result ActiveArea Fault) (n : Pages) → n.on ≡ true → TrailerIs D s One one
    → TrailerIs D s Two two → Chosen D one two r → Stage (λ a. Active D s a.area a.number) (Failed D s) r n
trailers_found D s None None r n on a b e = rw e (inr (on, no_trailer refl a b))
trailers_found D s (Some i) None r n on a b e = rw e (on, record { own = a; other = inl b })
trailers_found D s None (Some j) r n on a b e = rw e (on, record { own = b; other = inl a })
trailers_found D s (Some i) (Some j) r n on a b (inl (same, e)) =
    rw e (inr (on, same_number refl i a (subst (Numbered D Two (s (trailer_at D Two))) (sym same) b)))
trailers_found D s (Some i) (Some j) r n on a b (inr (inl (next, e))) = rw e (on, record { own = a; other = inr (j, b, next) })
trailers_found D s (Some i) (Some j) r n on a b (inr (inr (next, e))) = rw e (on, record { own = b; other = inr (i, a, next) })

-- The same after two looks: what the second saw is what the chip showed at first.
module _ (D : ℕ) (m m₁ m₂ : Pages) (one : Option ℕ) (q : Quiet m m₁) (first : TrailerIs D (shown m) One one) where
  abbrev Second : Result (Option ℕ) Fault → (ℕ → State) → Type 0
  Second r s = Stage (TrailerIs D s Two) (λ f. (f ≡ cache_fault (trailer_at D Two) Breach) × Malformed D s Two) r m₂

  same_shown : shown m₁ ≡ shown m
  same_shown = fun_ext (quiet_shown m m₁ q)

  pub second_failed : (f : Fault) → Second (Err f) (shown m₁) → Lost f m₂ ⊎ ((m₂.on ≡ true) × Failed D (shown m) f)
  second_failed f h = second_breach D (shown m) one f m₂ first (subst (Second (Err f)) same_shown h)

  pub both_found : (two : Option ℕ) (r : Result ActiveArea Fault) → Second (Ok two) (shown m₁) → Chosen D one two r
      → Stage (λ a. Active D (shown m) a.area a.number) (Failed D (shown m)) r m₂
  both_found two r h e = let t = subst (Second (Ok two)) same_shown h in trailers_found D (shown m) one two r m₂ t.0 first t.1 e

-- what the page says is what the trailer is
pub judged_stage : (D : ℕ) (s : ℕ → State) (area : Area) (r : Result (Option ℕ) Fault) (n : Pages) → n.on ≡ true → Judged D area (s (trailer_at D area)) r
    → Stage (TrailerIs D s area) (λ f. (f ≡ cache_fault (trailer_at D area) Breach) × Malformed D s area) r n
judged_stage D s area (Ok (Some n)) m on h = (on, h)
judged_stage D s area (Ok None) m on h = (on, h)
judged_stage D s area (Err f) m on h = inr (on, h)

-- a page of kind 2 that is no trailer of the area
pub malformed : (D : ℕ) (page : State) (area : Area) (note : Note) (bytes : List ℕ) → page ≡ held note bytes → note.0 ≡ 2 → TrailerRead area D note bytes None
    → Counts page × ((n : ℕ) → Numbered D area page n → ⊥)
malformed D page area note bytes e two no_one = (
  subst Counts (sym e) two,
  λ n h.
      let both : held note bytes ≡ held (trailer_note D n) (trailer_data area D) = sym e ∙ h.is in
      no_one n h.small (note_of note (trailer_note D n) bytes (trailer_data area D) both) (bytes_of note (trailer_note D n) bytes (trailer_data area D) both),
)
  where
    note_of : (m k : Note) (xs ys : List ℕ) → held m xs ≡ held k ys → m ≡ k
    note_of m k xs ys e = cc

    bytes_of : (m k : Note) (xs ys : List ℕ) → held m xs ≡ held k ys → xs ≡ ys
    bytes_of m k xs ys e = cc

-- a page of kind 2 that is one
pub numbered : (D : ℕ) (page : State) (area : Area) (note : Note) (bytes : List ℕ) (n : ℕ) → page ≡ held note bytes → TrailerRead area D note bytes (Some n) → Numbered D area page n
numbered D page area note bytes n e (l, a, b) = record { small = l; is = e ∙ ap (λ z. held z bytes) a ∙ ap (held (trailer_note D n)) b }

-- a page that is not held with kind 2
pub uncounted : (page : State) (note : Note) (bytes : List ℕ) → page ≡ held note bytes → (note.0 ≡ 2 → ⊥) → Counts page → ⊥
uncounted page note bytes e not c = not (subst Counts e c)
