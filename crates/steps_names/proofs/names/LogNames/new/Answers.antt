use Rattle.std.proofs.Common.{◌≤◌, ℕ, sym, subst}
use Rattle.std.proofs.lemmas.Grind.{merely}
use Rattle.steps_names.proofs.names.LogNames.new.Goals as goal

pub invariant_of-result-clause-ordered : goal.invariant_of-result-clause-ordered
invariant_of-result-clause-ordered c = merely c.requires

pub invariant_of-result-clause-ready : goal.invariant_of-result-clause-ready
invariant_of-result-clause-ready c =
    let few : c.len.result ≤ 64 = subst (λ (n : ℕ). n ≤ 64) (sym c.len.ensures) c.requires.few in
    merely (record { few = few; smaller = c.requires.smaller; whole = c.in_ok-reads.ensures.whole; kept = c.in_ok-reads.ensures.kept c.len.result few })
