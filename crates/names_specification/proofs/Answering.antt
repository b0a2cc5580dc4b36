-- From what resolving once answers to what resolving with the word and without it does.
use Rattle.std.proofs.Common.{◌≡◌, subst, sym, ℕ, List, Option, Result, Ok, Err, IfOk, IfErr}
use Rattle.std.specs.Prelude.{Bool, true, false}
use Rattle.reading_trees.specs.declared.config.Config.{Config}
use Rattle.reading_trees.specs.declared.module.Program.{Program}
use Rattle.names_terms.specs.declared.spec.Spec.{Spec}
use Rattle.names_resolving.specs.Resolved.{Answers, Resolved}
use Rattle.names_resolving.specs.declared.fault.ResolveFault.{ResolveFault}
use Rattle.names_resolving.specs.declared.fault.ResolveFault.TheVariants.{TooManyVariables, UnknownName, WrongArity, Recursion, NoValue, LevelTooHigh, PrimedArgument, NoOperator, NotTheShape, NotAVariable, NoSubstitute, NoMemory}
use Rattle.names_specification.specs.Behind.{looked_through}
use Rattle.names_specification.specs.Resolving.{AnswersBy, ResolvedBy, ResolvedWide, by_the_one_behind, refused_twice}

pub as_answer : (wide : Bool) (p : Program) (c : Config) (silent : Option (List ℕ)) (f : ResolveFault) → ResolvedBy wide p c silent (Err f) → AnswersBy wide p c silent (Err f)
as_answer wide p c silent (TooManyVariables at) h = h
as_answer wide p c silent (UnknownName n at) h = h
as_answer wide p c silent (WrongArity n k m at) h = h
as_answer wide p c silent (Recursion n at) h = h
as_answer wide p c silent (NoValue n at) h = h
as_answer wide p c silent (LevelTooHigh l m at) h = h
as_answer wide p c silent (PrimedArgument at) h = h
as_answer wide p c silent (NoOperator n) h = h
as_answer wide p c silent (NotTheShape at) h = h
as_answer wide p c silent (NotAVariable n at) h = h
as_answer wide p c silent (NoSubstitute n at) h = h
as_answer wide p c silent NoMemory h = tt

pub answers_strictly : (p : Program) (c : Config) (silent : Option (List ℕ)) (f : ResolveFault) → Answers p c silent (Err f) → AnswersBy false p c silent (Err f)
answers_strictly p c silent (TooManyVariables at) h = h
answers_strictly p c silent (UnknownName n at) h = h
answers_strictly p c silent (WrongArity n k m at) h = h
answers_strictly p c silent (Recursion n at) h = h
answers_strictly p c silent (NoValue n at) h = h
answers_strictly p c silent (LevelTooHigh l m at) h = h
answers_strictly p c silent (PrimedArgument at) h = h
answers_strictly p c silent (NoOperator n) h = h
answers_strictly p c silent (NotTheShape at) h = h
answers_strictly p c silent (NotAVariable n at) h = h
answers_strictly p c silent (NoSubstitute n at) h = h
answers_strictly p c silent NoMemory h = tt

module _ (p : Program) (c d : Config) (silent : Option (List ℕ)) (refusal : ResolveFault) (same : d ≡ looked_through p c) (strict : Resolved p c silent (Err refusal)) where
  pub accepted_behind : (s : Spec) → Resolved p d silent (Ok s) → ResolvedWide p c silent (Ok s)
  accepted_behind s is = by_the_one_behind refusal s strict (subst (λ (x : Config). Resolved p x silent (Ok s)) same is)

  pub refused_behind : (other : ResolveFault) → Resolved p d silent (Err other) → AnswersBy true p c silent (Err refusal)
  refused_behind other is = as_answer true p c silent refusal (refused_twice refusal other strict (subst (λ (x : Config). Resolved p x silent (Err other)) same is))

each_strictly : (p : Program) (c : Config) (silent : Option (List ℕ)) (r : Result Spec ResolveFault) → IfErr r (λ (f : ResolveFault). Answers p c silent (Err f))
    → IfErr r (λ (f : ResolveFault). AnswersBy false p c silent (Err f))
each_strictly p c silent (Ok s) h = tt
each_strictly p c silent (Err f) h = answers_strictly p c silent f h

module _ (p : Program) (c : Config) (silent : Option (List ℕ)) (r : Result Spec ResolveFault) where
  pub wide_accepted : (wide : Bool) → wide ≡ true → IfOk r (λ (s : Spec). ResolvedBy true p c silent (Ok s)) → IfOk r (λ (s : Spec). ResolvedBy wide p c silent (Ok s))
  wide_accepted wide e h = subst (λ (w : Bool). IfOk r (λ (s : Spec). ResolvedBy w p c silent (Ok s))) (sym e) h

  pub if_accepted : (wide : Bool) → wide ≡ false → IfOk r (λ (s : Spec). Resolved p c silent (Ok s)) → IfOk r (λ (s : Spec). ResolvedBy wide p c silent (Ok s))
  if_accepted wide e h = subst (λ (w : Bool). IfOk r (λ (s : Spec). ResolvedBy w p c silent (Ok s))) (sym e) h

  pub if_refused : (wide : Bool) → wide ≡ false → IfErr r (λ (f : ResolveFault). Answers p c silent (Err f)) → IfErr r (λ (f : ResolveFault). AnswersBy wide p c silent (Err f))
  if_refused wide e h = subst (λ (w : Bool). IfErr r (λ (f : ResolveFault). AnswersBy w p c silent (Err f))) (sym e) (each_strictly p c silent r h)
