-- A commit: the sync before it failed or was served, and then one of three ways.
use Rattle.std.proofs.Common.{rules, ◌<◌, ◌≤◌, sym, refl, ◌∙◌, arith}
use Rattle.std.proofs.lemmas.Result.{err_from_is_err_and}
use Rattle.layout.specs.Geometry.{log_pages}
use Rattle.journal.specs.Notes.{noted, pages_of}
use Rattle.journal.proofs.Committing.{unsynced, synced_flat, synced_ready, commit_nothing, commit_logged, commit_checkpointed}
use Rattle.journal.proofs.memory.Journal.commit.Goals as goal

pub returns-in_err-settle_data : goal.returns-in_err-settle_data
returns-in_err-settle_data g c =
    let j = c.args.self.now in
    let m = g.C.Chip.meaning c.args.chip.now in
    let m₁ = g.C.Chip.meaning c.settle_data.new.chip in
    let h = c.in_err-settle_data.ensures in
    let p = err_from_is_err_and c.from_residual.result c.from_residual.ensures.1 in
    record { size = refl; commits = rw (p.1, p.2) (unsynced (pages_of j) m m₁ (noted j) _ c.requires.ready h.rules) }

pub returns-then-is_empty : goal.returns-then-is_empty
returns-then-is_empty g c =
    let j = c.args.self.now in
    let m = g.C.Chip.meaning c.args.chip.now in
    let m₁ = g.C.Chip.meaning c.settle_data.new.chip in
    let h = c.in_ok-settle_data.ensures in
    record { size = refl; commits = commit_nothing (pages_of j) m m₁ (noted j) h.rules (sym c.is_empty.ensures ∙ c.if-is_empty.true) }

pub log-requires : goal.log-requires
log-requires g c =
    let j = c.args.self.now in
    let m = g.C.Chip.meaning c.args.chip.now in
    let m₁ = g.C.Chip.meaning c.settle_data.new.chip in
    let h = c.in_ok-settle_data.ensures in
    record {
      ready = synced_ready (pages_of j) m m₁ (noted j) h.rules c.requires.ready;
      settled = synced_flat (pages_of j) m m₁ (noted j) h.rules;
      some = search rules;
      room = omega (arith, c.if-self-log_pages.true, c.log_pages.ensures);
    }

pub checkpoint-requires : goal.checkpoint-requires
checkpoint-requires g c =
    let j = c.args.self.now in
    let m = g.C.Chip.meaning c.args.chip.now in
    let m₁ = g.C.Chip.meaning c.settle_data.new.chip in
    let h = c.in_ok-settle_data.ensures in
    record {
      ready = synced_ready (pages_of j) m m₁ (noted j) h.rules c.requires.ready;
      settled = synced_flat (pages_of j) m m₁ (noted j) h.rules;
    }

pub returns-then-self-log_pages : goal.returns-then-self-log_pages
returns-then-self-log_pages g c =
    let j = c.args.self.now in
    let m = g.C.Chip.meaning c.args.chip.now in
    let m₁ = g.C.Chip.meaning c.settle_data.new.chip in
    let m₂ = g.C.Chip.meaning c.log.new.chip in
    let room : j.next < log_pages (pages_of j) = omega (arith, c.if-self-log_pages.true, c.log_pages.ensures) in
    record {
      size = c.log.ensures.size;
      commits = commit_logged (pages_of j) m m₁ m₂ (noted j) (noted c.log.new.self) c.log.result c.in_ok-settle_data.ensures.rules
          (sym c.is_empty.ensures ∙ c.if-is_empty.false) room c.log.ensures.commits;
    }

pub returns-else-self-log_pages : goal.returns-else-self-log_pages
returns-else-self-log_pages g c =
    let j = c.args.self.now in
    let m = g.C.Chip.meaning c.args.chip.now in
    let m₁ = g.C.Chip.meaning c.settle_data.new.chip in
    let m₂ = g.C.Chip.meaning c.checkpoint.new.chip in
    let full : log_pages (pages_of j) ≤ j.next = omega (arith, c.if-self-log_pages.false, c.log_pages.ensures) in
    record {
      size = c.checkpoint.ensures.size;
      commits = commit_checkpointed (pages_of j) m m₁ m₂ (noted j) (noted c.checkpoint.new.self) c.checkpoint.result c.in_ok-settle_data.ensures.rules
          (sym c.is_empty.ensures ∙ c.if-is_empty.false) full c.checkpoint.ensures.commits;
    }
