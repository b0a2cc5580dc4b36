-- The job of the smoke test is one that words may give.
use Rattle.std.proofs.Common.{◌≡◌, [], inl, refl, subst, sym, arith, codes}
use Rattle.reading_tokens.specs.Spellings.{kind_in, words}
use Rattle.run_words.specs.Names.{IsModule, IsName}
use Rattle.run_words.specs.Words.{JobMeets, OptionsMeet}
use Rattle.run_words.specs.declared.job.Job.{Job}
use Rattle.run_words.proofs.ModuleLaws.{module_in}
use Rattle.run_ring.specs.Ring.{ring_job}

ring_named : IsName (codes "Ring")
unfolding kind_in words
ring_named = refl

ring_path : IsModule (codes "Ring.tla")
ring_path = module_in [] (codes "Ring") (inl refl) ring_named

ring_meets : JobMeets ring_job
ring_meets = record {
  module_path = ring_path;
  some = omega arith;
  few = omega arith;
  logs = refl;
  config = tt;
  silent = tt;
  options = record { within_least = omega arith; within_most = omega arith; limit_least = omega arith; limit_most = omega arith };
  why = tt;
  near = tt;
  ties = tt;
}

pub meets_as_ring : (job : Job) → job ≡ ring_job → JobMeets job
meets_as_ring job is = subst JobMeets (sym is) ring_meets
