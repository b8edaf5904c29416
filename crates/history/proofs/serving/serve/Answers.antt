use Rattle.std.proofs.Common.{true, false, sym, subst}
use Rattle.cache.specs.Caches.{WriteCall, EvictCall}
use Rattle.history.specs.Serving.{Serves}
use Rattle.history.proofs.Answering.{plainly}
use Rattle.history.proofs.serving.serve.Goals as goal

pub returns-in-WriteDirty : goal.returns-in-WriteDirty
returns-in-WriteDirty g c =
    let meaning = g.C.Chip.meaning in
    let before = c.args.cache.now in
    let after = c.write_dirty.new.self in
    let done =
    plainly (λ r. WriteCall meaning true c.in-WriteDirty.address.0 c.in-WriteDirty.bytes.now before r after)
    c.write_dirty.result c.plain.result c.plain.ensures c.write_dirty.ensures.call in
    record {
      size = c.write_dirty.ensures.size;
      serves = subst (λ k. Serves meaning before k c.plain.result after) (sym c.in-WriteDirty.is) done;
    }

pub returns-in-WriteClean : goal.returns-in-WriteClean
returns-in-WriteClean g c =
    let meaning = g.C.Chip.meaning in
    let before = c.args.cache.now in
    let after = c.write_clean.new.self in
    let done =
    plainly (λ r. WriteCall meaning false c.in-WriteClean.address.0 c.in-WriteClean.bytes.now before r after)
    c.write_clean.result c.plain-in-WriteClean.result c.plain-in-WriteClean.ensures c.write_clean.ensures.call in
    record {
      size = c.write_clean.ensures.size;
      serves = subst (λ k. Serves meaning before k c.plain-in-WriteClean.result after) (sym c.in-WriteClean.is) done;
    }

pub returns-in-Evict : goal.returns-in-Evict
returns-in-Evict g c =
    let meaning = g.C.Chip.meaning in
    let before = c.args.cache.now in
    let after = c.evict.new.self in
    let done =
    plainly (λ r. EvictCall meaning c.in-Evict.address.0 before r after)
    c.evict.result c.plain-in-Evict.result c.plain-in-Evict.ensures c.evict.ensures.call in
    record {
      size = c.evict.ensures.size;
      serves = subst (λ k. Serves meaning before k c.plain-in-Evict.result after) (sym c.in-Evict.is) done;
    }
