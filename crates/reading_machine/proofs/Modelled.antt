-- How the model's run goes over names and bounds.
use Rattle.std.proofs.Common.{◌≡◌, ℕ, List, ◌∷◌, ◌++◌, sym, ◌∙◌}
use Rattle.reading_trees.specs.declared.laid.Laid.{Laid}
use Rattle.reading_tokens.specs.declared.token.Symbol.TheVariants as symbols
use Rattle.reading_trees.specs.Grammar.{NamesText, sign}
use Rattle.reading_machine.specs.declared.frame.Binding.{Binding}
use Rattle.reading_machine.specs.declared.frame.Frame.{Frame}
use Rattle.reading_machine.specs.declared.frame.Frame.TheVariants as frame
use Rattle.reading_machine.specs.declared.frame.Mode.TheVariants as mode
use Rattle.reading_machine.specs.Machine.{run}
use Rattle.reading_machine.proofs.Runner.{model, model_runs}
use Rattle.reading_machine.proofs.RunsBounds as bounds

pub names_run : (b : Binding) (ms ns : List (List ℕ)) (fs : List Frame) (xs ys zs : List Laid) → NamesText ns xs ys → sign symbols.Member ys zs
    → run xs fs (mode.BoundName b ms) ≡ run zs (frame.BoundSet b (ms ++ ns) ∷ fs) mode.Want
names_run b ms ns fs xs ys zs h s =
    model_runs xs fs (mode.BoundName b ms) ∙ bounds.names_run model b ms ns fs xs ys zs h s ∙ sym (model_runs zs (frame.BoundSet b (ms ++ ns) ∷ fs) mode.Want)
