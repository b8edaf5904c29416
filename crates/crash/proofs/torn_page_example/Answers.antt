use Rattle.crash.proofs.Orders.{stopping_loses_seven}
use Rattle.crash.proofs.torn_page_example.Goals as goal

pub returns : goal.returns
returns c = stopping_loses_seven
