use Rattle.steps_why_branches.specs.Traces.{here}
use Rattle.steps_why_branches.specs.Branches.{Onward, Turns}
use Rattle.steps_why_branches.proofs.Cutting.{cut_more, cut_none}
use Rattle.steps_why_branches.proofs.listing.cut_law.Goals as goal

pub returns : goal.returns
returns c = record {
  more = λ g sp d m es p. (λ ys x l a. cut_more m (Onward (Turns g sp d) d es (here p)) ys x l a, λ xs l a. cut_none m (Onward (Turns g sp d) d es (here p)) xs l a);
}
