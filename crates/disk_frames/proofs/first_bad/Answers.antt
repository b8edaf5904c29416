use Rattle.std.proofs.Common.{◌<◌, ◌≤◌, get_or, rules, tests}
use Rattle.std.proofs.lemmas.Iterator.{IsFirst-from_position, YieldsList-from_slice}
use Rattle.disk_frames.proofs.Parts.{bad_by_frames}
use Rattle.disk_frames.proofs.first_bad.Goals as goal

pub returns-in_err-b : goal.returns-in_err-b
returns-in_err-b c =
    let found = IsFirst-from_position _ _ c.position.result (λ x. 1 < get_or x 0 0) (λ x. get_or x 0 0 ≤ 1) c.position.ensures.ran (YieldsList-from_slice c.frames_of.result.now cc) (λ x q k. search (rules, tests)) (λ x q k. search (rules, tests)) in
    let listed = bad_by_frames c.args.image.now c.frames_of.result.now c.frames_of.ensures.frames c.position.result c.frames_of.ensures.count found in
    search rules

pub returns : goal.returns
returns c =
    let found = IsFirst-from_position _ _ c.position.result (λ x. 1 < get_or x 0 0) (λ x. get_or x 0 0 ≤ 1) c.position.ensures.ran (YieldsList-from_slice c.frames_of.result.now cc) (λ x q k. search (rules, tests)) (λ x q k. search (rules, tests)) in
    let bad = bad_by_frames c.args.image.now c.frames_of.result.now c.frames_of.ensures.frames c.position.result c.frames_of.ensures.count found in
    search rules
