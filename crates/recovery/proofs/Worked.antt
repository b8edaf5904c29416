-- The worked examples, computed.
use Rattle.std.proofs.Common.{◌≡◌, Some, refl, subst}
use Rattle.table.specs.Tables.{Table, entry, empty, entry_at, mark_of}
use Rattle.layout.specs.declared.entries.Mark.TheVariants.{Dirty}
use Rattle.recovery.specs.Examples.{WorkedExamples}
use Rattle.recovery.proofs.OneAnswer.{zero_follows_two, same_number_refused}

same_table : (t u : Table) → Some t ≡ Some u → t ≡ u
same_table t u e = cc

pub worked_examples : WorkedExamples
worked_examples = record {
  smallest = record { data_are = refl; entries_are = refl; log_are = refl };
  largest = record { data_are = refl; entries_are = refl; log_are = refl };
  newer = zero_follows_two;
  equal = same_number_refused;
  bytes = refl;
  after_puts = λ t e. subst (λ z. (mark_of z 5 ≡ Dirty) × (entry_at z 1 ≡ entry Dirty 5) × (entry_at z 0 ≡ empty)) (same_table _ t e) (refl, refl, refl);
  some_puts = (_, refl);
  after_drop = refl;
  second_drop = refl;
}
