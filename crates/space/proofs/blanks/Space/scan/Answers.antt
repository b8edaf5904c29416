use Rattle.std.proofs.Common.{◌≡◌, ap, ◌∙◌, arith}
use Rattle.recovery.specs.Looking.{shown}
use Rattle.recovery.proofs.Lookwise.{quiet_then, quiet_shown}
use Rattle.space.specs.Worlds.{is_blank, blank_page}
use Rattle.space.proofs.Flagging.{told_more}
use Rattle.space.proofs.blanks.Space.scan.Goals as goal

pub loop-i-preserved : goal.loop-i-preserved
loop-i-preserved g c =
    let m = g.C.Chip.meaning c.args.chip.now in
    let m₁ = g.C.Chip.meaning c.loop-i.chip in
    let h = c.in_ok-seen.ensures in
    let inv = c.loop-i.invariant in
    let told : c.is_blank.result ≡ blank_page (shown m) c.loop-i.i =
    c.is_blank.ensures (shown m₁ c.chip_page.result.0) c.look.new.buf h.saw.1
    ∙ ap (λ p. is_blank (shown m₁ p)) c.chip_page.ensures ∙ ap is_blank (quiet_shown m m₁ inv.1 _) in (
      h.saw.0,
      quiet_then m m₁ (g.C.Chip.meaning c.look.new.chip) inv.1 h.quiet,
      omega (arith, c.push.ensures.len, inv.2),
      told_more m c.loop-i.i c.loop-i.blank.items c.is_blank.result c.push.new.self.items c.push.ensures.items inv.2 inv.3 told,
    )
