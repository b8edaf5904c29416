-- A checkpoint and a log page determine what they hold.
use Rattle.std.proofs.Common.{◌≡◌, ℕ, ◌+◌, ◌-◌, ◌*◌, ◌<◌, min, ◌⊎◌, List, [], ◌∷◌, length, drop, sym, refl, ap, ◌∙◌, subst, inl, inr, arith, rules}
use Rattle.std.specs.List.{AllByRecursion}
use Rattle.std.proofs.lemmas.Bool.{cases_order}
use Rattle.std.proofs.lemmas.List.{length-take, length-drop}
use Rattle.std.proofs.ByRecursion.{All-take, All-drop}
use Rattle.device.specs.Chips.{Note, State}
use Rattle.device.specs.Chips.State.{held}
use Rattle.layout.specs.declared.areas.Area.{Area}
use Rattle.layout.specs.declared.entries.Entry.{Entry}
use Rattle.layout.specs.declared.records.Record.{Record}
use Rattle.layout.specs.declared.trailers.Trailer.{Trailer}
use Rattle.layout.specs.Geometry.{first_page, entry_pages}
use Rattle.layout.specs.Entries.{entry_bytes, ProperEntry}
use Rattle.layout.specs.Records.{record_bytes, ProperRecord}
use Rattle.layout.specs.Pages.{entry_part, entry_data, entry_note, trailer_bytes, ProperTrailer, trailer_data, trailer_note, log_data, log_note}
use Rattle.layout.specs.Laws.{ProperTable, Checkpoint, entry_page, trailer_page, OneCheckpoint, OneLog}
use Rattle.layout.specs.Apart.{same_record, same_entry}
use Rattle.layout.proofs.Trailerwise.{same_trailer}
use Rattle.layout.proofs.Cellwise.{same_cells}
use Rattle.layout.proofs.Partwise.{same_parts}

held_note : (m n : Note) (xs ys : List ℕ) → held m xs ≡ held n ys → m ≡ n
held_note m n xs ys e = cc

held_bytes : (m n : Note) (xs ys : List ℕ) → held m xs ≡ held n ys → xs ≡ ys
held_bytes m n xs ys e = cc

record_eight : (r : Record) → length (record_bytes r) ≡ 8
record_eight r = search rules

-- pages that are the same entry page of two tables as long as each other
same_entry_page : (t u : List Entry) (j : ℕ) → AllByRecursion ProperEntry t → AllByRecursion ProperEntry u → length t ≡ length u → entry_page t j ≡ entry_page u j
    → entry_part t j ≡ entry_part u j
same_entry_page t u j ps qs l e =
    let lt : length (entry_part t j) ≡ min 64 (length (drop (64 * j) t)) = length-take 64 (drop (64 * j) t) in
    let lu : length (entry_part u j) ≡ min 64 (length (drop (64 * j) u)) = length-take 64 (drop (64 * j) u) in
    let same : length (entry_part t j) ≡ length (entry_part u j) =
    lt ∙ ap (min 64) (length-drop (64 * j) t ∙ ap (λ n. n - 64 * j) l ∙ sym (length-drop (64 * j) u)) ∙ sym lu in
    same_cells entry_bytes (λ x. refl) ProperEntry same_entry (entry_part t j) (entry_part u j) same
    (All-take ProperEntry 64 (drop (64 * j) t) (All-drop ProperEntry (64 * j) t ps)) (All-take ProperEntry 64 (drop (64 * j) u) (All-drop ProperEntry (64 * j) u qs))
    (held_bytes (entry_note j) (entry_note j) (entry_data t j) (entry_data u j) e)

-- an entry page is no trailer
not_trailer : (t : List Entry) (j : ℕ) (area : Area) (d n : ℕ) → entry_page t j ≡ trailer_page area d n → ⊥
not_trailer t j area d n e =
    let k : ◌≡◌ {A = ℕ} 1 2 = ap (λ z. z.0) (held_note (entry_note j) (trailer_note d n) (entry_data t j) (trailer_data area d) e) in omega arith

module _ (pages : ℕ → State) (area : Area) (t u : List Entry) (m n : ℕ) (pt : ProperTable t) (pu : ProperTable u) (ct : Checkpoint pages area t m) (cu : Checkpoint pages area u n) where
  same_count : entry_pages (length t) ≡ entry_pages (length u)
  same_count = go (cases_order (entry_pages (length t)) (entry_pages (length u)))
    where
      go : (entry_pages (length t) ≡ entry_pages (length u)) ⊎ ((entry_pages (length t) < entry_pages (length u)) ⊎ (entry_pages (length u) < entry_pages (length t)))
          → entry_pages (length t) ≡ entry_pages (length u)
      go (inl e) = e
      go (inr (inl l)) = absurd (not_trailer u (entry_pages (length t)) area (length t) m (sym (cu.entries (entry_pages (length t)) l) ∙ ct.trailer))
      go (inr (inr l)) = absurd (not_trailer t (entry_pages (length u)) area (length u) n (sym (ct.entries (entry_pages (length u)) l) ∙ cu.trailer))

  same_trailers : trailer_page area (length t) m ≡ trailer_page area (length u) n
  same_trailers = sym ct.trailer ∙ ap (λ k. pages (first_page area + k)) same_count ∙ cu.trailer

  same_length : length t ≡ length u
  same_length =
      let ht : length t < 65536 = omega (arith, pt.few) in
      let hu : length u < 65536 = omega (arith, pu.few) in
      let x : Trailer = record { area = area; pages = length t } in
      let y : Trailer = record { area = area; pages = length u } in
      head x y (same_cells trailer_bytes (λ z. refl) ProperTrailer same_trailer (x ∷ []) (y ∷ []) refl (ht, tt) (hu, tt)
      (held_bytes (trailer_note (length t) m) (trailer_note (length u) n) (trailer_data area (length t)) (trailer_data area (length u)) same_trailers))
    where
      head : (x y : Trailer) → ◌≡◌ {A = List Trailer} (x ∷ []) (y ∷ []) → x.pages ≡ y.pages
      head x y e = let f : x ≡ y = cc in ap (λ z. z.pages) f

  same_table : t ≡ u
  same_table =
      let l : length t ≡ length u = same_length in
      same_parts t u (entry_pages (length t)) (omega arith) (omega arith)
      (λ j h.
      let k : j < entry_pages (length u) = subst (λ z. j < z) same_count h in
      same_entry_page t u j pt.each pu.each l (sym (ct.entries j h) ∙ cu.entries j k))

  same_number : m ≡ n
  same_number =
      ap (λ z. z.2) (held_note (trailer_note (length t) m) (trailer_note (length u) n) (trailer_data area (length t)) (trailer_data area (length u)) same_trailers)

pub one_checkpoint : OneCheckpoint
one_checkpoint pages area t u m n pt pu ct cu = (same_table pages area t u m n pt pu ct cu, same_number pages area t u m n pt pu ct cu)

pub one_log : OneLog
one_log rs ss pr ps e =
    same_cells record_bytes record_eight ProperRecord same_record rs ss (ap (λ z. z.1) (held_note (log_note rs) (log_note ss) (log_data rs) (log_data ss) e))
    pr.each ps.each (held_bytes (log_note rs) (log_note ss) (log_data rs) (log_data ss) e)
