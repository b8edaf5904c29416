-- Room for a page: the first blank page by the memory is the first one of the chip, and a reclaim makes eight pages blank.
use Rattle.std.proofs.Common.{◌≡◌, ℕ, ◌-◌, ◌*◌, ◌<◌, Bool, true, false, eqb, get_or, Some, None, Ok, Err, Option, sym, refl, ap, ◌∙◌, subst, inl, inr, arith}
use Rattle.std.proofs.lemmas.Bool.{eq-eqb, both_ways, cond-true}
use Rattle.device.specs.declared.faults.Fault.{Fault}
use Rattle.device.specs.declared.places.DataPage.{DataPage}
use Rattle.device.specs.Chips.{Pages, block_of, data_page_at}
use Rattle.device.specs.Chips.State.{blank}
use Rattle.layout.specs.declared.chip_size.Geometry.{Geometry}
use Rattle.layout.specs.Geometry.{data_pages}
use Rattle.recovery.specs.Looking.{shown}
use Rattle.table.specs.Choices.{steps_to, FirstRound, FindsRound, Victim}
use Rattle.table.specs.Tables.{Table}
use Rattle.table.specs.Views.{page_number}
use Rattle.journal.specs.Notes.{Noted}
use Rattle.space.specs.Rooms.{NoneBlank, ReclaimPoints, RoomPoints, Keeps, Reclaims, FindsRoom}
use Rattle.space.specs.Worlds.{world, is_blank, blank_page, flags, data_page_count, Fits}
use Rattle.space.specs.declared.blanks.Space.{Space}
use Rattle.journal.proofs.Leaving.{left_more}

-- a page found by one test is found by another that agrees with it
round_same : (f g : ℕ → Bool) (pages D cursor i : ℕ) → pages ≡ D → ((j : ℕ) → j < D → f j ≡ g j) → FirstRound f pages cursor i → FirstRound g D cursor i
round_same f g pages D cursor i same agree h =
    let inside : i < D = omega (arith, h.inside) in
    record {
      inside = inside;
      found = sym (agree i inside) ∙ h.found;
      before = λ j l less. sym (agree j l) ∙ h.before j (omega arith) (subst (λ n. steps_to n cursor j < steps_to n cursor i) (sym same) less);
    }

-- what the memory finds
abbrev pub ByMemory : Space → Option ℕ → Type 0
ByMemory sp r = FindsRound (λ i. get_or (flags sp) i false) (data_page_count sp) sp.cursor.0 r

memory_first : (D : ℕ) (m : Pages) (sp : Space) (i : ℕ) → Fits D m sp → ByMemory sp (Some i) → FirstRound (blank_page (shown m)) D sp.cursor.0 i
memory_first D m sp i fits h = round_same (λ i. get_or (flags sp) i false) (blank_page (shown m)) (data_page_count sp) D sp.cursor.0 i fits.long fits.each h

memory_none : (D : ℕ) (m : Pages) (v : Noted) (sp : Space) → Fits D m sp → ByMemory sp None → NoneBlank D (world m v sp)
memory_none D m v sp fits h i l = sym (fits.each i l) ∙ h i (omega (arith, fits.long))

-- A page is blank, and nothing changes.
pub room_there : (D blocks : ℕ) (m : Pages) (v : Noted) (sp : Space) (i : DataPage) → (t : Table) × Keeps D m v sp t → ByMemory sp (Some i.0)
    → FindsRoom D blocks m v sp (Ok (Some i)) m v sp
room_there D blocks m v sp i (t, k) h =
    let found = memory_first D m sp i.0 k.fits h in
    (refl, inl (refl, (i.0, found.inside, found.found)), found, (λ u ku. (u, ku, inl refl)), λ p. inl refl)

-- the victim by the journal's table and geometry
pub victim_is : (t u : Table) (x y : Geometry) (r : Option ℕ) → t ≡ u → x ≡ y → Victim t x.blocks r → Victim u y.blocks r
victim_is t u x y r e f h = subst (λ g. Victim u g.blocks r) f (subst (λ s. Victim s x.blocks r) e h)

-- No page is blank, and the victim is reclaimed.
module _ (blocks b : ℕ) (m : Pages) (v : Noted) (sp : Space) (base : (t : Table) × Keeps (data_pages blocks) m v sp t) (none : ByMemory sp None)
    (victim : Victim v.table blocks (Some b)) where
  abbrev D : ℕ
  D = data_pages blocks

  full : NoneBlank D (world m v sp)
  full = memory_none D m v sp base.1.fits none

  pub room_fails : (f : Fault) (m' : Pages) (v' : Noted) (sp' : Space) → Reclaims D b m v sp (Err f) m' v' sp' → FindsRoom D blocks m v sp (Err f) m' v' sp'
  room_fails f m' v' sp' (fails, left) =
      (fails, λ t k. left_more D m' (ReclaimPoints b t (world m v sp)) (RoomPoints D blocks t (world m v sp)) (λ x h. (full, (b, victim, h))) (left t k))

  module _ (m' : Pages) (v' : Noted) (sp' : Space) (done : Reclaims D b m v sp (Ok tt) m' v' sp') where
    keeps' : Keeps D m' v' sp' v'.table
    keeps' = done.3 base.0 base.1

    -- the first page of the erase block
    abbrev first : ℕ
    first = 8 * b - 64

    first_inside : first < D
    first_inside = omega (arith, victim.from, victim.below)

    first_blank : blank_page (shown m') first ≡ true
    first_blank =
        let here : block_of (data_page_at first) ≡ b = omega (arith, victim.from) in
        ap (λ w. blank_page w.pages first) done.2 ∙ ap is_blank (cond-true (eqb (block_of (data_page_at first)) b) blank _ (eq-eqb (block_of (data_page_at first)) b here))

    pub room_made : (r : Option DataPage) → ByMemory sp' (page_number r) → FindsRoom D blocks m v sp (Ok r) m' v' sp'
    room_made None h = absurd (both_ways (blank_page (shown m') first) (memory_none D m' v' sp' keeps'.fits h first first_inside) first_blank)
    room_made (Some i) h =
        (done.0, inr (full, (b, victim, done.2)), memory_first D m' sp' i.0 keeps'.fits h, (λ t k. (v'.table, done.3 t k, inr refl)), λ p. inr done.1)
