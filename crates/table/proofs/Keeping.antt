-- The table in memory: it is proper, and what a write of one entry makes of the table.
use Rattle.std.proofs.Common.{◌≡◌, ℕ, ◌≤◌, List, length, take, replicate, set, sym, ap, ◌∙◌, subst}
use Rattle.std.proofs.lemmas.List.{length-set, take-replicate}
use Rattle.arrayvec.specs.ArrayVec.{ArrayVec, with_items}
use Rattle.arrayvec.proofs.ArrayVecLemmas.{items-with_items}
use Rattle.device.specs.declared.places.DataPage.{DataPage}
use Rattle.layout.specs.declared.entries.Entry.{Entry}
use Rattle.layout.specs.declared.entries.Mark.{Mark}
use Rattle.table.specs.declared.mapping.MappingTable.{MappingTable}
use Rattle.table.specs.Tables.{Table, empty, empty_table, ProperTable}
use Rattle.table.specs.Views.{table_of, AloneAt, entry_with, remarked}
use Rattle.table.proofs.Tablewise.{proper_from}
use Rattle.table.proofs.Changing.{remarked_one}

pub table_proper : (m : MappingTable) → ProperTable (table_of m)
table_proper m = proper_from (table_of m) m.fit m.distinct

-- one entry written, through the slice of the entries
pub written : (v : ArrayVec Entry) (now : List Entry) (p : ℕ) (e : Entry) → now ≡ v.items → (with_items v (set now p e)).items ≡ set v.items p e
written v now p e same = items-with_items v (set now p e) (length-set now p e ∙ ap length same) ∙ ap (λ xs. set xs p e) same

-- a slice of the entries with one of them written is no longer than they were
pub length_written : (n : ℕ) (v : ArrayVec Entry) (now : List Entry) (p : ℕ) (e : Entry) → now ≡ v.items → length v.items ≤ n → length (with_items v (set now p e)).items ≤ n
length_written n v now p e same few = subst (λ xs. length xs ≤ n) (sym (written v now p e same)) (subst (λ k. k ≤ n) (sym (length-set v.items p e)) few)

-- the entry of the page that was found, written with another mark
pub remarked_there : (m : MappingTable) (a : ℕ) (p : DataPage) (mark : Mark) (now : List Entry) (e : Entry) → AloneAt (table_of m) a p.0 → now ≡ table_of m → e ≡ entry_with mark a → (with_items m.entries (set now p.0 e)).items ≡ remarked (table_of m) mark a
remarked_there m a p mark now e only same is =
    written m.entries now p.0 e same ∙ ap (set (table_of m) p.0) is ∙ sym (remarked_one (table_of m) a p.0 only mark)

-- the first n entries of an array without a mark
pub unmarked : (n : ℕ) (all t : Table) → t ≡ take n all → all ≡ replicate 448 empty → n ≤ 448 → t ≡ empty_table n
unmarked n all t cut blank few = cut ∙ ap (take n) blank ∙ take-replicate n 448 empty few
