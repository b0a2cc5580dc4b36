-- A reader that goes over laid tokens as the model does, and tells of its last state what it is asked.
use Rattle.std.proofs.Common.{◌≡◌, ℕ, List, [], ◌∷◌, refl}
use Rattle.base_core.specs.declared.place.Place.{Place}
use Rattle.reading_trees.specs.declared.laid.Laid.{Laid}
use Rattle.reading_trees.specs.Trees as tree
use Rattle.reading_trees.specs.Trees.{Tree, NoTrees}
use Rattle.reading_machine.specs.declared.frame.Action.{Action}
use Rattle.reading_machine.specs.declared.frame.Frame.{Frame}
use Rattle.reading_machine.specs.declared.frame.Frame.TheVariants as frame
use Rattle.reading_machine.specs.declared.frame.Mode.{Mode}
use Rattle.reading_machine.specs.declared.frame.Mode.TheVariants as mode
use Rattle.reading_machine.specs.Machine as machine
use Rattle.reading_machine.specs.Machine.{Stepped, Reads, Stops, Clashes, Ends, EndsDefinition, step, Outcome, StopsAt, ClashesAt, EndsAt, EndsDefinitionAt}

pub record Runner : Type 1 where
  -- what is told
  pub Told : Type 0
  -- of a token that is not read, with those behind it
  pub stops : Stepped → List Laid → Told
  -- of the state behind the last token
  pub ends : List Frame → Mode → Told
  -- of which these are told the same
  pub bracket_name : (at : Place) (n : List ℕ) (p : Place) (fs : List Frame) → ends fs (mode.BracketName at n p) ≡ ends (frame.Bracket at ∷ fs) (mode.Have (tree.Name p n))
  pub bracket_start : (at : Place) (fs : List Frame) → ends fs (mode.BracketStart at) ≡ ends (frame.Bracket at ∷ fs) mode.Want
  pub brace_name : (at : Place) (n : List ℕ) (p : Place) (fs : List Frame) → ends fs (mode.BraceName at n p) ≡ ends (frame.Braces at NoTrees ∷ fs) (mode.Have (tree.Name p n))
  pub subscript : (k : Action) (at : Place) (e : Tree) (fs : List Frame) → ends fs (mode.SubscriptStart k at e) ≡ ends (frame.Subscript k at e ∷ fs) mode.Want
  pub fair : (at : Place) (fs : List Frame) → ends fs (mode.FairStart at) ≡ ends (frame.FairSubscript at ∷ fs) mode.Want

abbrev pub after : (reader : Runner) → Stepped → List Laid → (List Frame → Mode → reader.Told) → reader.Told
after reader (Reads fs m) here next = next fs m
after reader Stops here next = reader.stops Stops here
after reader (Clashes p q) here next = reader.stops (Clashes p q) here
after reader (Ends e) here next = reader.stops (Ends e) here
after reader (EndsDefinition n p ns form e) here next = reader.stops (EndsDefinition n p ns form e) here

abbrev pub run : (reader : Runner) → List Laid → List Frame → Mode → reader.Told
run reader [] fs m = reader.ends fs m
run reader (x ∷ xs) fs m = after reader (step x fs m) (x ∷ xs) (run reader xs)

-- the reader that tells what the model's run gives
abbrev stopped : Stepped → List Laid → Outcome
stopped (Reads fs m) here = StopsAt here
stopped Stops here = StopsAt here
stopped (Clashes p q) here = ClashesAt p q here
stopped (Ends e) here = EndsAt e here
stopped (EndsDefinition n p ns form e) here = EndsDefinitionAt n p ns form e here

abbrev pub model : Runner
model = record {
  Told = Outcome;
  stops = stopped;
  ends = λ fs m. StopsAt [];
  bracket_name = λ at n p fs. refl;
  bracket_start = λ at fs. refl;
  brace_name = λ at n p fs. refl;
  subscript = λ k at e fs. refl;
  fair = λ at fs. refl;
}

model_after : (s : Stepped) (xs here : List Laid) → ((fs : List Frame) (m : Mode) → machine.run xs fs m ≡ run model xs fs m) → machine.after s here (machine.run xs) ≡ after model s here (run model xs)
model_after (Reads fs m) xs here f = f fs m
model_after Stops xs here f = refl
model_after (Clashes p q) xs here f = refl
model_after (Ends e) xs here f = refl
model_after (EndsDefinition n p ns form e) xs here f = refl

pub model_runs : (xs : List Laid) (fs : List Frame) (m : Mode) → machine.run xs fs m ≡ run model xs fs m
model_runs [] fs m = refl
model_runs (x ∷ xs) fs m = model_after (step x fs m) xs (x ∷ xs) (λ gs n. model_runs xs gs n)
