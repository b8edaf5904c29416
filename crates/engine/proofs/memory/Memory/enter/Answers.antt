-- The put is staged, and committed if it must be.
use Rattle.std.proofs.Common.{◌≡◌, ◌<◌, length, Ok, refl, sym, ap, ◌∙◌, subst, rules}
use Rattle.layout.specs.Geometry.{data_pages}
use Rattle.table.specs.Tables.{mark_of}
use Rattle.journal.specs.Notes.{noted, pages_of}
use Rattle.journal.specs.Ready.{Ready}
use Rattle.journal.specs.Steps.{Commits}
use Rattle.engine.specs.Works.{Enters}
use Rattle.space.specs.Worlds.{world}
use Rattle.engine.proofs.Entering.{held_by_mark, must_by, put_fits, put_staged, put_holding, enters_later, enters_now}
use Rattle.engine.proofs.memory.Memory.enter.Goals as goal

pub stage-owed-requires : goal.stage-owed-requires
stage-owed-requires g c =
    let t = (noted c.args.self.now.journal).table in
    let i = c.args.page.0 in
    let inside : i < length t = subst (λ n. i < n) (sym c.requires.holding.1.keeps.ready.long) c.requires.inside in
    record { room = c.requires.room; fits = put_fits c.args.dirty i c.args.address.0 t c.put-record.result inside c.requires.unmarked c.put-record.ensures }

pub stage_for_later-requires : goal.stage_for_later-requires
stage_for_later-requires g c =
    let t = (noted c.args.self.now.journal).table in
    let i = c.args.page.0 in
    let inside : i < length t = subst (λ n. i < n) (sym c.requires.holding.1.keeps.ready.long) c.requires.inside in
    record { room = c.requires.room; fits = put_fits c.args.dirty i c.args.address.0 t c.put-record.result inside c.requires.unmarked c.put-record.ensures }

pub commit_owed-requires : goal.commit_owed-requires
commit_owed-requires g c =
    let D = pages_of c.args.self.now.journal in
    let m = g.C.Chip.meaning c.args.chip.now in
    let v = noted c.args.self.now.journal in
    let sp = c.args.self.now.space in
    let i = c.args.page.0 in
    let a = c.args.address.0 in
    let t = c.requires.holding.0 in
    let small : a < 4294967296 = search rules in
    let inside : i < length v.table = subst (λ n. i < n) (sym c.requires.holding.1.keeps.ready.long) c.requires.inside in
    let same = put_staged c.args.dirty i a v (noted c.stage-owed.new.self) c.put-record.result inside c.requires.unmarked c.put-record.ensures c.stage-owed.ensures.after in
    let size : pages_of c.stage-owed.new.self ≡ D = ap (λ z. data_pages z.blocks) c.stage-owed.ensures.size in
    let put = put_holding D c.args.dirty i a m v c.requires.room c.requires.inside c.requires.unmarked c.requires.data small sp t c.requires.holding.1 in
    record {
      ready = (t, subst (λ d. Ready d m (noted c.stage-owed.new.self) t) (sym size) (subst (λ x. Ready D m x t) (sym same) put.keeps.ready));
    }

pub returns-then-held : goal.returns-then-held
returns-then-held g c =
    let D = pages_of c.args.self.now.journal in
    let m = g.C.Chip.meaning c.args.chip.now in
    let v = noted c.args.self.now.journal in
    let sp = c.args.self.now.space in
    let i = c.args.page.0 in
    let a = c.args.address.0 in
    let v₁ = noted c.stage-owed.new.self in
    let m' = g.C.Chip.meaning c.commit_owed.new.chip in
    let v' = noted c.commit_owed.new.self in
    let small : a < 4294967296 = search rules in
    let inside : i < length v.table = subst (λ n. i < n) (sym c.requires.holding.1.keeps.ready.long) c.requires.inside in
    let same = put_staged c.args.dirty i a v v₁ c.put-record.result inside c.requires.unmarked c.put-record.ensures c.stage-owed.ensures.after in
    let size : pages_of c.stage-owed.new.self ≡ D = ap (λ z. data_pages z.blocks) c.stage-owed.ensures.size in
    let had = held_by_mark v.table a c.mark.result c.ne-held.result (c.mark.ensures ∙ ap (λ t. mark_of t a) c.table.ensures) c.ne-held.ensures in
    let done = subst (λ x. Commits D m x c.commit_owed.result m' v') same (subst (λ d. Commits d m v₁ c.commit_owed.result m' v') size c.commit_owed.ensures.commits) in
    record {
      size = c.commit_owed.ensures.size ∙ c.stage-owed.ensures.size;
      space = refl;
      enters = enters_now D c.args.dirty i a m v c.requires.room c.requires.inside c.requires.unmarked c.requires.data small sp c.commit_owed.result m' v'
          (must_by c.args.dirty c.ne-held.result a (world m v sp) had c.if-held.either) done;
    }

pub returns-else-held : goal.returns-else-held
returns-else-held g c =
    let D = pages_of c.args.self.now.journal in
    let m = g.C.Chip.meaning c.args.chip.now in
    let v = noted c.args.self.now.journal in
    let sp = c.args.self.now.space in
    let i = c.args.page.0 in
    let a = c.args.address.0 in
    let v₁ = noted c.stage_for_later.new.self in
    let small : a < 4294967296 = search rules in
    let inside : i < length v.table = subst (λ n. i < n) (sym c.requires.holding.1.keeps.ready.long) c.requires.inside in
    let same = put_staged c.args.dirty i a v v₁ c.put-record.result inside c.requires.unmarked c.put-record.ensures c.stage_for_later.ensures.after in
    let had = held_by_mark v.table a c.mark.result c.ne-held.result (c.mark.ensures ∙ ap (λ t. mark_of t a) c.table.ensures) c.ne-held.ensures in
    record {
      size = c.stage_for_later.ensures.size;
      space = refl;
      enters = subst (λ x. Enters D c.args.dirty i a m v sp (Ok tt) m x) (sym same)
          (enters_later D c.args.dirty i a m v c.requires.room c.requires.inside c.requires.unmarked c.requires.data small sp c.if-held.false.0 (sym had ∙ c.if-held.false.1));
    }
