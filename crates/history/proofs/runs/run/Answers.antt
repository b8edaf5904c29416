use Rattle.history.proofs.Followed.{follows_at_first}
use Rattle.history.proofs.runs.run.Goals as goal

pub answer_all-requires : goal.answer_all-requires
answer_all-requires g c =
    let formed = c.in-Ok-form.ensures.forms.2 in
    let w = formed.0 in
    let meaning = g.C.Chip.meaning in
    record {
      follows =
          follows_at_first meaning (meaning c.new-bare.result.chip) c.form.new.self w c.open.result (c.in-Ok-form.ensures.ready w formed.1) formed.2
          (c.open.ensures.opens w formed.1);
      none = (c.in-Ok.ensures.items, c.in-Ok.ensures.len);
      room = c.in-Ok.ensures.capacity;
    }
