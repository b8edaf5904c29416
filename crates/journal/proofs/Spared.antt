-- The table without the pages of an erase block: its entries, the records that make it, and that the journal stays ready with the drops staged.
use Rattle.std.proofs.Common.{◌≡◌, ℕ, zero, suc, ◌+◌, ◌-◌, ◌*◌, ◌<◌, ◌≤◌, Bool, true, false, cond, ◌&&◌, List, [], ◌∷◌, length, take, Some, sym, refl, ap, ◌∙◌, subst, ⊎_elim, arith}
use Rattle.std.proofs.ByRecursion.{All-push}
use Rattle.std.proofs.lemmas.List.{length-append}
use Rattle.std.proofs.lemmas.Bool.{and_parts, eq-eqb, eqb-true, both_ways, cases_Bool, cond_both, cond-true, cond-false}
use Rattle.std.specs.List.{AllByRecursion}
use Rattle.device.specs.Chips.{Pages, block_of, data_page_at}
use Rattle.layout.specs.declared.records.Record.{Record}
use Rattle.layout.specs.declared.records.Record.TheVariants.{Drop}
use Rattle.layout.specs.Records.{ProperRecord}
use Rattle.table.specs.Tables.{Table, empty, has_mark, entry_at, marked_at, without, replayed, ProperTable}
use Rattle.table.proofs.Tablewise.{held_fits, entry_proper}
use Rattle.table.proofs.Changing.{without_proper, replayed_append}
use Rattle.recovery.specs.Looking.{shown}
use Rattle.recovery.specs.Recovering.{IsData, Backed}
use Rattle.journal.specs.Notes.{Noted, staging}
use Rattle.journal.specs.Drops.{in_block, drops_from, spared_from, drops, spared, dropping_page, dropping}
use Rattle.journal.specs.Ready.{Ready}
use Rattle.journal.proofs.Dropped.{drop_applies, length_spared_from, dropped_upto, dropped_none, dropped_all, dropped_beside, dropped_more}

-- An erase block has eight pages.

in_block_range : (b i : ℕ) → in_block b i ≡ true → (8 * b ≤ 64 + i) × (64 + i < 8 * b + 8)
in_block_range b i h = let e = eqb-true (block_of (data_page_at i)) b h in (omega arith, omega arith)

few_more : (c : Bool) (r : Record) (rs : List Record) (n : ℕ) → (c ≡ true → length rs < n) → length rs ≤ n → length (cond c (r ∷ rs) rs) ≤ n
few_more true r rs n h k = omega (arith, h refl)
few_more false r rs n h k = k

drops_below : (t : Table) (i b : ℕ) → (length (drops_from t i b) ≤ 8) × (length (drops_from t i b) ≤ 8 * b + 8 - (64 + i))
drops_below [] i b = (omega arith, omega arith)
drops_below (e ∷ es) i b =
    let rest = drops_below es (suc i) b in
    let c = in_block b i && has_mark e.mark in
    let there : c ≡ true → (8 * b ≤ 64 + i) × (64 + i < 8 * b + 8) = λ h. in_block_range b i (and_parts (in_block b i) (has_mark e.mark) h).0 in (
      few_more c (Drop e.address) (drops_from es (suc i) b) 8 (λ h. omega (arith, (there h).0, (there h).1, rest.1)) rest.0,
      few_more c (Drop e.address) (drops_from es (suc i) b) (8 * b + 8 - (64 + i)) (λ h. omega (arith, (there h).0, (there h).1, rest.1)) (omega (arith, rest.1)),
    )

pub drops_few : (t : Table) (i b : ℕ) → length (drops_from t i b) ≤ 8
drops_few t i b = (drops_below t i b).0

pub upto_few : (b i : ℕ) (v : Noted) → v.staged ≡ [] → length (dropped_upto b i v).staged ≤ 8
upto_few b i v none =
    omega (arith, ap length none, length-append v.staged (drops_from (take i v.table) 0 b), drops_few (take i v.table) 0 b)

pub dropping_few : (b : ℕ) (v : Noted) → v.staged ≡ [] → length (dropping b v).staged ≤ 8
dropping_few b v none = omega (arith, ap length none, length-append v.staged (drops v.table b), drops_few v.table 0 b)

-- Entry by entry.

pub length_spared : (t : Table) (b : ℕ) → length (spared t b) ≡ length t
length_spared t b = length_spared_from t 0 b

spared_from_at : (t : Table) (i b j n : ℕ) → i + j ≡ n → entry_at (spared_from t i b) j ≡ cond (in_block b n) empty (entry_at t j)
spared_from_at [] i b j n e = cond_both (in_block b n) empty empty (λ x. empty ≡ x) (λ _. refl) (λ _. refl)
spared_from_at (x ∷ xs) i b zero n e = let same : i ≡ n = omega arith in ap (λ k. cond (in_block b k) empty x) same
spared_from_at (x ∷ xs) i b (suc j) n e = spared_from_at xs (suc i) b j n (omega arith)

pub spared_at : (t : Table) (b i : ℕ) → entry_at (spared t b) i ≡ cond (in_block b i) empty (entry_at t i)
spared_at t b i = spared_from_at t 0 b i i (omega arith)

-- no page of the block has a mark then
pub spared_in : (t : Table) (b i : ℕ) → block_of (data_page_at i) ≡ b → marked_at (spared t b) i ≡ false
spared_in t b i e =
    ap (λ x. has_mark x.mark) (spared_at t b i ∙ cond-true (in_block b i) empty (entry_at t i) (eq-eqb (block_of (data_page_at i)) b e))

-- a page that has one is outside, with the entry that it had
pub spared_out : (t : Table) (b i : ℕ) → marked_at (spared t b) i ≡ true → (block_of (data_page_at i) ≡ b → ⊥) × (entry_at (spared t b) i ≡ entry_at t i)
spared_out t b i h =
    let out : block_of (data_page_at i) ≡ b → ⊥ = λ e. both_ways (marked_at (spared t b) i) (spared_in t b i e) h in (
      out,
      ⊎_elim
          (λ (y : in_block b i ≡ true). absurd (out (eqb-true (block_of (data_page_at i)) b y)))
          (λ (n : in_block b i ≡ false). spared_at t b i ∙ cond-false (in_block b i) empty (entry_at t i) n)
          (cases_Bool (in_block b i)),
    )

-- The staged records turn the table t into the one in memory, a proper one.
pub record Follows (t : Table) (v : Noted) : Type 0 where
  pub proper : ProperTable v.table
  pub makes : replayed (Some t) v.staged ≡ Some v.table
  pub records : AllByRecursion ProperRecord v.staged

page_follows : (t : Table) (v : Noted) (i : ℕ) → Follows t v → Follows t (dropping_page i v)
page_follows t v i h =
    let e = entry_at v.table i in
    cond_both (marked_at v.table i) (staging v (without v.table e.address.0) (Drop e.address)) v (Follows t)
    (λ marked. record {
      proper = without_proper v.table h.proper e.address.0;
      makes = replayed_append (Some t) v.staged (Drop e.address ∷ []) ∙ ap (λ o. replayed o (Drop e.address ∷ [])) h.makes ∙ drop_applies v.table i marked;
      records = All-push ProperRecord v.staged (Drop e.address) h.records (held_fits e.mark e.address.0 marked (entry_proper v.table i h.proper));
    })
    (λ _. h)

upto_follows : (t : Table) (b i : ℕ) (v : Noted) → i ≤ length v.table → Follows t v → Follows t (dropped_upto b i v)
upto_follows t b zero v l h = subst (Follows t) (dropped_none b v) h
upto_follows t b (suc i) v l h =
    let before = upto_follows t b i v (omega arith) h in
    let one : i + 1 ≡ suc i = omega arith in
    let inside : i < length v.table = omega arith in
    subst (λ k. Follows t (dropped_upto b k v)) one
    (⊎_elim
    (λ (at : in_block b i ≡ true). subst (Follows t) (dropped_more b i v inside at before.proper) (page_follows t (dropped_upto b i v) i before))
    (λ (out : in_block b i ≡ false). subst (Follows t) (dropped_beside b i v inside out) before)
    (cases_Bool (in_block b i)))

pub dropping_follows : (t : Table) (b : ℕ) (v : Noted) → Follows t v → Follows t (dropping b v)
dropping_follows t b v h = subst (Follows t) (dropped_all b (length v.table) v (omega arith)) (upto_follows t b (length v.table) v (omega arith) h)

-- With nothing staged before, the journal is ready once the drops are staged.

pub spared_backed : (D : ℕ) (m : Pages) (t : Table) (b : ℕ) → Backed (shown m) t D → Backed (shown m) (spared t b) D
spared_backed D m t b h i l k =
    let e = (spared_out t b i k).1 in
    let (bytes, is) = h i l (ap (λ x. has_mark x.mark) (sym e) ∙ k) in
    subst (λ x. IsData (shown m (data_page_at i)) x.address.0) (sym e) (bytes, is)

pub dropping_ready : (D : ℕ) (m : Pages) (v : Noted) (t : Table) (b : ℕ) → Ready D m v t → v.staged ≡ [] → Ready D m (dropping b v) t
dropping_ready D m v t b h none =
    let f = dropping_follows t b v (record { proper = h.proper; makes = h.makes; records = h.records }) in
    record {
      power = h.power;
      enough = h.enough;
      few = h.few;
      large = h.large;
      holds = h.holds;
      small = h.small;
      makes = f.makes;
      room = omega (arith, dropping_few b v none);
      records = f.records;
      long = length_spared v.table b ∙ h.long;
      proper = f.proper;
      ends = h.ends;
      ahead = h.ahead;
      areas = h.areas;
      firm = h.firm;
      backed = spared_backed D m v.table b h.backed;
      blanks = h.blanks;
    }
