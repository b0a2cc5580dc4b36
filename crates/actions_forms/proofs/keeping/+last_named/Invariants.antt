use Rattle.actions_forms.proofs.keeping.+last_named.Given as goal

abbrev pub decreases-last_named : goal.decreases-last_named
decreases-last_named l = l.bound
