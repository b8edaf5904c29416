use Rattle.crash.proofs.Orders.{stopping_loses}
use Rattle.crash.proofs.stopping_at_a_torn_page_loses.Goals as goal

pub returns : goal.returns
returns c = stopping_loses
