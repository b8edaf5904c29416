use Rattle.std.proofs.Common.{refl, ap, ◌∙◌}
use Rattle.std.proofs.lemmas.Result.{err_from_is_err_and}
use Rattle.layout.specs.Geometry.{data_pages}
use Rattle.journal.specs.Drops.{dropping}
use Rattle.journal.specs.Notes.{noted, pages_of}
use Rattle.space.proofs.Reclaiming.{CommittedTwice, committed_staged, commit_fails, dropped_requires, second_fails, committed_twice, erase_fails, sync_fails, reclaims}
use Rattle.space.proofs.blanks.Space.reclaim.Given as given
use Rattle.space.proofs.blanks.Space.reclaim.Goals as goal
use Rattle.space.proofs.blanks.Space.reclaim.Goals.{In_ok-drop_all}

-- both commits were served
both : (g : given.Over) (c : goal.In_ok-drop_all g)
    → CommittedTwice (pages_of c.args.journal.now) c.args.block.0 (g.C.Chip.meaning c.args.chip.now) (noted c.args.journal.now) c.args.self.now
    (g.C.Chip.meaning c.drop_all.new.chip) (noted c.drop_all.new.journal)
both g c =
    let j = c.args.journal.now in
    let j₁ = c.commit.new.self in
    committed_twice j.geometry.blocks c.args.block.0 (g.C.Chip.meaning c.args.chip.now) (g.C.Chip.meaning c.commit.new.chip) (g.C.Chip.meaning c.drop_all.new.chip)
    (noted j) (noted j₁) (dropping c.args.block.0 (noted j₁)) (noted c.drop_all.new.journal) c.args.self.now
    c.requires.behind c.requires.within c.requires.keeps c.in_ok-commit.ensures.commits refl (pages_of j₁) (ap (λ x. data_pages x.blocks) c.in_ok-commit.ensures.size)
    c.in_ok-drop_all.ensures.commits

pub returns-in_err-commit-clause-reclaims : goal.returns-in_err-commit-clause-reclaims
returns-in_err-commit-clause-reclaims g c =
    let j = c.args.journal.now in
    let p = err_from_is_err_and c.from_residual.result c.from_residual.ensures.1 in
    rw (p.1, p.2) (commit_fails (pages_of j) c.args.block.0 (g.C.Chip.meaning c.args.chip.now) (g.C.Chip.meaning c.commit.new.chip) (noted j) (noted c.commit.new.self)
    c.args.self.now c.in_err-commit.field-0.0 c.in_err-commit.ensures.commits)

pub drop_all-requires : goal.drop_all-requires
drop_all-requires g c =
    let j = c.args.journal.now in
    let j₁ = c.commit.new.self in
    let h = c.in_ok-commit.ensures in
    record {
      none = ap (λ x. x.staged) h.commits.1 ∙ committed_staged (pages_of j) (noted j);
      behind = c.requires.behind;
      ready = dropped_requires (pages_of j) c.args.block.0 (g.C.Chip.meaning c.args.chip.now) (g.C.Chip.meaning c.commit.new.chip) (noted j) (noted j₁)
          (dropping c.args.block.0 (noted j₁)) c.args.self.now h.commits refl (pages_of j₁) (ap (λ x. data_pages x.blocks) h.size) c.requires.keeps;
    }

pub returns-in_err-drop_all-clause-reclaims : goal.returns-in_err-drop_all-clause-reclaims
returns-in_err-drop_all-clause-reclaims g c =
    let j = c.args.journal.now in
    let j₁ = c.commit.new.self in
    let h = c.in_ok-commit.ensures in
    let p = err_from_is_err_and c.from_residual-in_err-drop_all.result c.from_residual-in_err-drop_all.ensures.1 in
    rw (p.1, p.2) (second_fails (pages_of j) c.args.block.0 (g.C.Chip.meaning c.args.chip.now) (g.C.Chip.meaning c.commit.new.chip) (noted j) (noted j₁)
    (dropping c.args.block.0 (noted j₁)) c.args.self.now h.commits refl (pages_of j₁) (ap (λ x. data_pages x.blocks) h.size) c.in_err-drop_all.field-0.0
    (g.C.Chip.meaning c.drop_all.new.chip) (noted c.drop_all.new.journal) c.in_err-drop_all.ensures.commits)

pub returns-in_err-erase-clause-reclaims : goal.returns-in_err-erase-clause-reclaims
returns-in_err-erase-clause-reclaims g c =
    let p = err_from_is_err_and c.from_residual-in_err-erase.result c.from_residual-in_err-erase.ensures.1 in
    rw (p.1, p.2) (erase_fails (pages_of c.args.journal.now) c.args.block.0 (g.C.Chip.meaning c.args.chip.now) (g.C.Chip.meaning c.drop_all.new.chip)
    (noted c.args.journal.now) (noted c.drop_all.new.journal) c.args.self.now (both g (goal.at.returns-in_err-erase-clause-reclaims g c).In_ok-drop_all)
    c.in_err-erase.field-0.0 (g.C.Chip.meaning c.erase.new.self) c.in_err-erase.ensures.rules)

pub returns-in_err-sync-clause-reclaims : goal.returns-in_err-sync-clause-reclaims
returns-in_err-sync-clause-reclaims g c =
    let p = err_from_is_err_and c.from_residual-in_err-sync.result c.from_residual-in_err-sync.ensures.1 in
    rw (p.1, p.2) (sync_fails (pages_of c.args.journal.now) c.args.block.0 (g.C.Chip.meaning c.args.chip.now) (g.C.Chip.meaning c.drop_all.new.chip)
    (noted c.args.journal.now) (noted c.drop_all.new.journal) c.args.self.now (both g (goal.at.returns-in_err-sync-clause-reclaims g c).In_ok-drop_all)
    (g.C.Chip.meaning c.erase.new.self) c.in_ok-erase.ensures.rules c.in_err-sync.field-0.0 (g.C.Chip.meaning c.sync.new.self) c.in_err-sync.ensures.rules)

pub returns-clause-reclaims : goal.returns-clause-reclaims
returns-clause-reclaims g c =
    reclaims (pages_of c.args.journal.now) c.args.block.0 (g.C.Chip.meaning c.args.chip.now) (g.C.Chip.meaning c.drop_all.new.chip)
    (noted c.args.journal.now) (noted c.drop_all.new.journal) c.args.self.now (both g (goal.at.returns-clause-reclaims g c).In_ok-drop_all)
    (g.C.Chip.meaning c.erase.new.self) c.in_ok-erase.ensures.rules (g.C.Chip.meaning c.sync.new.self) c.in_ok-sync.ensures.rules
    c.free.new.self c.free.ensures.long c.free.ensures.each c.free.ensures.stays
