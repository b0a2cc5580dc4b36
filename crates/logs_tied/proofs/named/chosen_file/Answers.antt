use Rattle.std.proofs.Common.{inl, inr}
use Rattle.logs_tied.proofs.named.chosen_file.Goals as goal

pub returns-in-Some : goal.returns-in-Some
returns-in-Some c = (c.in-Some.ensures.0, inl c.in-Some.ensures.1)

pub returns-in-None : goal.returns-in-None
returns-in-None c = (c.first_ready.ensures.ready, inr (c.in-None.ensures, c.first_ready.ensures.first))
