-- The choices: the pages of each erase block counted, places and their numbers, and the cheapest block.
use Rattle.std.proofs.Common.{◌≡◌, ℕ, suc, ◌+◌, ◌<◌, ◌≤◌, Bool, true, false, cond, ◌&&◌, eqb, List, [], ◌∷◌, ◌++◌, length, take, set, Some, None, Option, MatchOption, IsSomeAnd, sym, refl, ap, ◌∙◌, subst, ap₂, ⊎_elim, add-zero, arith}
use Rattle.std.proofs.lemmas.List.{get_or-set_same, get_or-set_other, length-take-le, take_all, take_more}
use Rattle.std.proofs.lemmas.Bool.{eq-eqb, ne_eqb, cases_eq}
use Rattle.device.specs.declared.places.DataPage.{DataPage}
use Rattle.device.specs.declared.places.EraseBlock.{EraseBlock}
use Rattle.device.specs.Chips.{block_of, data_page_at}
use Rattle.layout.specs.declared.entries.Entry.{Entry}
use Rattle.layout.specs.declared.entries.Mark.{Mark}
use Rattle.table.specs.declared.choices.Usage.{Usage}
use Rattle.table.specs.Tables.{Table, empty, has_mark, is_dirty, entry_at}
use Rattle.table.specs.Choices.{tally, Chooses}
use Rattle.table.specs.Usages.{usage, usage_at, usage_in, one_more, FirstFrom, FindsFrom}
use Rattle.table.specs.Views.{page_number, block_number}
use Rattle.std.proofs.Common.{◌-◌, leb}
use Rattle.std.proofs.lemmas.Bool.{le-leb, lt-leb, both_ways, cases_lt, cond-true, cond-false}
use Rattle.table.specs.Choices.{steps_to, FirstRound, FindsRound}

-- Counting

tally_push : (test : Entry → Bool) (t : Table) (e : Entry) (i n b : ℕ) → i + length t ≡ n → tally test (t ++ e ∷ []) i b ≡ tally test t i b + cond (eqb (block_of (data_page_at n)) b && test e) 1 0
tally_push test [] e i n b h =
    let same : i ≡ n = omega arith in
    let turn : ◌≡◌ {A = ℕ} (cond (eqb (block_of (data_page_at i)) b && test e) 1 0) (cond (eqb (block_of (data_page_at n)) b && test e) 1 0) = ap (λ k. cond (eqb (block_of (data_page_at k)) b && test e) 1 0) same in
    omega arith
tally_push test (x ∷ xs) e i n b h =
    let rest = tally_push test xs e (suc i) n b (omega arith) in
    omega arith

-- one entry more
pub tally_more : (test : Entry → Bool) (t : Table) (i b : ℕ) → i < length t → tally test (take (i + 1) t) 0 b ≡ tally test (take i t) 0 b + cond (eqb (block_of (data_page_at i)) b && test (entry_at t i)) 1 0
tally_more test t i b l =
    ap (λ u. tally test u 0 b) (take_more t i empty l) ∙ tally_push test (take i t) (entry_at t i) 0 i b (omega (arith, length-take-le i t (omega arith)))

cond_le : (b : Bool) → cond b 1 0 ≤ 1
cond_le true = omega arith
cond_le false = omega arith

pub tally_le : (test : Entry → Bool) (t : Table) (i b : ℕ) → tally test t i b ≤ length t
tally_le test [] i b = omega arith
tally_le test (e ∷ es) i b = omega (arith, cond_le (eqb (block_of (data_page_at i)) b && test e), tally_le test es (suc i) b)

-- the counts after the first i entries
abbrev pub Counted : List Usage → Table → ℕ → Type 0
Counted us t i = (b : ℕ) → b < 64 → usage_at us b ≡ usage_in (take i t) b

module _ (us : List Usage) (t : Table) (i : ℕ) (whole : length us ≡ 64) (l : i < length t) (at : ℕ) (is : at ≡ block_of (data_page_at i)) (u : Usage) (more : u ≡ one_more (usage_at us at) (entry_at t i).mark) (inside : at < 64) (counted : Counted us t i) where
  here : (b : ℕ) → at ≡ b → (test : Mark → Bool) → tally (λ e. test e.mark) (take (i + 1) t) 0 b ≡ tally (λ e. test e.mark) (take i t) 0 b + cond (test (entry_at t i).mark) 1 0
  here b same test =
      tally_more (λ e. test e.mark) t i b l
      ∙ ap (λ x. tally (λ e. test e.mark) (take i t) 0 b + cond (x && test (entry_at t i).mark) 1 0) (eq-eqb (block_of (data_page_at i)) b (sym is ∙ same))

  elsewhere : (b : ℕ) → (at ≡ b → ⊥) → (test : Mark → Bool) → tally (λ e. test e.mark) (take (i + 1) t) 0 b ≡ tally (λ e. test e.mark) (take i t) 0 b
  elsewhere b ne test =
      tally_more (λ e. test e.mark) t i b l
      ∙ ap (λ x. tally (λ e. test e.mark) (take i t) 0 b + cond (x && test (entry_at t i).mark) 1 0) (ne_eqb (block_of (data_page_at i)) b (λ q. ne (is ∙ q)))
      ∙ add-zero (tally (λ e. test e.mark) (take i t) 0 b)

  pub counted_more : Counted (set us at u) t (i + 1)
  counted_more b lt =
      ⊎_elim
      (λ same.
      ap (usage_at (set us at u)) (sym same)
      ∙ get_or-set_same us at u (usage 0 0) (omega arith)
      ∙ more
      ∙ ap (λ v. one_more v (entry_at t i).mark) (ap (usage_at us) same ∙ counted b lt)
      ∙ ap₂ usage (sym (here b same has_mark)) (sym (here b same is_dirty)))
      (λ ne.
      get_or-set_other us at b u (usage 0 0) (λ q. ne (sym q))
      ∙ counted b lt
      ∙ ap₂ usage (sym (elsewhere b ne has_mark)) (sym (elsewhere b ne is_dirty)))
      (cases_eq at b)

pub counted_all : (us : List Usage) (t : Table) (i : ℕ) → length t ≤ i → Counted us t i → (b : ℕ) → b < 64 → usage_at us b ≡ usage_in t b
counted_all us t i all counted b l = counted b l ∙ ap (λ u. usage_in u b) (take_all i t all)

-- no count passes the number of entries
pub counted_small : (us : List Usage) (t : Table) (i at : ℕ) → at < 64 → i ≤ length t → length t ≤ 448 → Counted us t i → ((usage_at us at).marked < 65535) × ((usage_at us at).dirty < 65535)
counted_small us t i at inside le few counted =
    let e = counted at inside in
    let n = length-take-le i t le in
    let m = tally_le (λ e. has_mark e.mark) (take i t) 0 at in
    let d = tally_le (λ e. is_dirty e.mark) (take i t) 0 at in
    (omega (arith, ap (λ u. u.marked) e), omega (arith, ap (λ u. u.dirty) e))

-- Places and their numbers

-- the first page from `low` on, as a place
pub found_from : (test : ℕ → Bool) (pages low : ℕ) (r : Option ℕ) (o : Option DataPage) (R : ℕ → DataPage → Type 0) → MatchOption r ((k : ℕ) → low ≤ k → k < pages → test k ≡ false) (λ i. (low ≤ i) × (i < pages) × (test i ≡ true) × ((k : ℕ) → low ≤ k → k < i → test k ≡ false)) → MatchOption r (o ≡ None) (λ i. IsSomeAnd o (R i)) → ((i : ℕ) (p : DataPage) → i < pages → R i p → p.0 ≡ i) → FindsFrom test pages low (page_number o)
found_from test pages low None None R first placed same = first
found_from test pages low None (Some p) R first placed same = absurd (cc)
found_from test pages low (Some i) None R first placed same = absurd placed
found_from test pages low (Some i) (Some p) R first placed same =
    subst (FirstFrom test pages low) (sym (same i p first.1 placed)) (record { inside = first.1; from = first.0; found = first.2; before = first.3 })

pub numbered : (r : Option ℕ) (o : Option EraseBlock) (R : ℕ → EraseBlock → Type 0) → MatchOption r (o ≡ None) (λ b. IsSomeAnd o (R b)) → ((b : ℕ) (x : EraseBlock) → R b x → x.0 ≡ b) → block_number o ≡ r
numbered None None R placed same = refl
numbered None (Some x) R placed same = absurd (cc)
numbered (Some b) None R placed same = absurd placed
numbered (Some b) (Some x) R placed same = ap Some (same b x placed)

-- The cheapest

-- the same choice by tests and costs that agree
chooses_same : (fits also : ℕ → Bool) (cost price : ℕ → ℕ) (end : ℕ) → ((c : ℕ) → c < end → fits c ≡ also c) → ((c : ℕ) → c < end → cost c ≡ price c) → (r : Option ℕ) → Chooses fits cost 8 end r → Chooses also price 8 end r
chooses_same fits also cost price end f k None h = λ c ge lt. sym (f c lt) ∙ h c ge lt
chooses_same fits also cost price end f k (Some b) h = record {
  from = h.from;
  below = h.below;
  fit = sym (f b h.below) ∙ h.fit;
  least = λ c ge lt y. omega (arith, k b h.below, k c lt, h.least c ge lt (f c lt ∙ y));
  lowest = λ c ge lt y. let under : c < end = omega (arith, h.below) in omega (arith, k b h.below, k c under, h.lowest c ge lt (f c under ∙ y));
}

-- a choice by the counts is one by the table
pub chosen_by_table : (fit : Usage → Bool) (cost : Usage → ℕ) (us : List Usage) (t : Table) (end blocks : ℕ) (r s : Option ℕ) → end ≡ blocks → blocks ≤ 64 → s ≡ r → ((c : ℕ) → c < 64 → usage_at us c ≡ usage_in t c) → Chooses (λ c. fit (usage_at us c)) (λ c. cost (usage_at us c)) 8 end r → Chooses (λ c. fit (usage_in t c)) (λ c. cost (usage_in t c)) 8 blocks s
chosen_by_table fit cost us t end blocks r s same few is each so =
    subst (Chooses (λ c. fit (usage_in t c)) (λ c. cost (usage_in t c)) 8 blocks) (sym is)
    (chooses_same (λ c. fit (usage_at us c)) (λ c. fit (usage_in t c)) (λ c. cost (usage_at us c)) (λ c. cost (usage_in t c)) blocks
    (λ c l. ap fit (each c (omega arith))) (λ c l. ap cost (each c (omega arith))) r
    (subst (λ n. Chooses (λ c. fit (usage_at us c)) (λ c. cost (usage_at us c)) 8 n r) same so))

-- Going round

module _ (test : ℕ → Bool) (pages cursor : ℕ) where
  steps_ahead : (i : ℕ) → cursor ≤ i → steps_to pages cursor i ≡ i - cursor
  steps_ahead i l = cond-true (leb cursor i) (i - cursor) (i + pages - cursor) (le-leb cursor i l)

  steps_round : (i : ℕ) → i < cursor → steps_to pages cursor i ≡ i + pages - cursor
  steps_round i l = cond-false (leb cursor i) (i - cursor) (i + pages - cursor) (lt-leb cursor i l)

  pub round_ahead : (i : ℕ) → FirstFrom test pages cursor i → FirstRound test pages cursor i
  round_ahead i first = record {
    inside = first.inside;
    found = first.found;
    before = λ j l less.
        ⊎_elim
        (λ behind. absurd (omega (arith, first.inside, first.from, steps_round j behind, steps_ahead i first.from)))
        (λ ahead. first.before j ahead (omega (arith, steps_ahead j ahead, steps_ahead i first.from)))
        (cases_lt j cursor);
  }

  pub round_behind : (i : ℕ) → FindsFrom test pages cursor None → FirstFrom test pages 0 i → FirstRound test pages cursor i
  round_behind i none first =
      let behind : i < cursor = ⊎_elim (λ l. l) (λ ge. absurd (both_ways (test i) (none i ge first.inside) first.found)) (cases_lt i cursor) in
      record {
        inside = first.inside;
        found = first.found;
        before = λ j l less.
            ⊎_elim
            (λ b. first.before j (omega arith) (omega (arith, steps_round j b, steps_round i behind)))
            (λ ahead. none j ahead l)
            (cases_lt j cursor);
      }

  pub round_again : (r : Option DataPage) → FindsFrom test pages cursor None → FindsFrom test pages 0 (page_number r) → FindsRound test pages cursor (page_number r)
  round_again None none all = λ j l. all j (omega arith) l
  round_again (Some p) none first = round_behind p.0 none first
