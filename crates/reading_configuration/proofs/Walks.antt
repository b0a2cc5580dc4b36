-- What is expected and given behind marks.
use Rattle.std.proofs.Common.{◌≡◌, Bool, List, [], ◌∷◌, ◌++◌, Option, Some, None, Ok, Err, refl, sym, ap, ◌∙◌, append_assoc}
use Rattle.reading_trees.specs.declared.config.Config.{Config}
use Rattle.reading_configuration.specs.declared.mark.Mark.{Mark}
use Rattle.reading_configuration.specs.declared.expects.Expects.{Expects}
use Rattle.reading_configuration.specs.declared.fault.ConfigKind.{ConfigKind}
use Rattle.reading_configuration.specs.Steps.{Next, step}

-- what is expected, and what was given
abbrev pub Reached : Type 0
Reached = Expects × Config

abbrev pub walk_on : Next → (Expects → Config → Option Reached) → Option Reached
walk_on (Ok p) rest = rest p.0 p.1
walk_on (Err kind) rest = None

abbrev pub walk : Bool → Bool → Expects → Config → List Mark → Option Reached
walk once ended e c [] = Some (e, c)
walk once ended e c (m ∷ ms) = walk_on (step once ended e c m) (λ f d. walk once ended f d ms)

-- the marks behind what was reached
abbrev pub walk_behind : Bool → Bool → Option Reached → List Mark → Option Reached
walk_behind once ended None ms = None
walk_behind once ended (Some p) ms = walk once ended p.0 p.1 ms

on_behind : (once ended : Bool) (n : Next) (rest whole : Expects → Config → Option Reached) (ms : List Mark)
    → ((f : Expects) (d : Config) → whole f d ≡ walk_behind once ended (rest f d) ms) → walk_on n whole ≡ walk_behind once ended (walk_on n rest) ms
on_behind once ended (Ok p) rest whole ms h = h p.0 p.1
on_behind once ended (Err k) rest whole ms h = refl

pub walk_append : (once ended : Bool) (e : Expects) (c : Config) (xs ys : List Mark)
    → walk once ended e c (xs ++ ys) ≡ walk_behind once ended (walk once ended e c xs) ys
walk_append once ended e c [] ys = refl
walk_append once ended e c (m ∷ xs) ys =
    on_behind once ended (step once ended e c m) (λ f d. walk once ended f d xs) (λ f d. walk once ended f d (xs ++ ys)) ys
    (λ f d. walk_append once ended f d xs ys)

-- marks behind those that were walked
pub walk_further : (once ended : Bool) (e f : Expects) (c d : Config) (xs ys : List Mark) → walk once ended e c xs ≡ Some (f, d)
    → walk once ended e c (xs ++ ys) ≡ walk once ended f d ys
walk_further once ended e f c d xs ys h = walk_append once ended e c xs ys ∙ ap (λ o. walk_behind once ended o ys) h

reached : (once ended : Bool) (o : Option Reached) (ys : List Mark) (p : Reached) → walk_behind once ended o ys ≡ Some p → (q : Reached) × (o ≡ Some q)
reached once ended None ys p h = absurd cc
reached once ended (Some q) ys p h = (q, refl)

-- a front is walked wherever the whole is
pub walk_front : (once ended : Bool) (e : Expects) (c : Config) (xs ys : List Mark) (p : Reached)
    → walk once ended e c (xs ++ ys) ≡ Some p → (q : Reached) × (walk once ended e c xs ≡ Some q)
walk_front once ended e c xs ys p h = reached once ended (walk once ended e c xs) ys p (sym (walk_append once ended e c xs ys) ∙ h)

-- marks behind one that leads nowhere are not walked
pub walk_stops : (once ended : Bool) (e f : Expects) (c d : Config) (xs ys : List Mark) (m : Mark) (k : ConfigKind)
    → walk once ended e c xs ≡ Some (f, d) → step once ended f d m ≡ Err k → walk once ended e c ((xs ++ m ∷ []) ++ ys) ≡ None
walk_stops once ended e f c d xs ys m k h g =
    ap (walk once ended e c) (append_assoc xs (m ∷ []) ys) ∙ walk_further once ended e f c d xs (m ∷ ys) h
    ∙ ap (λ n. walk_on n (λ a b. walk once ended a b ys)) g

-- and one that leads on is walked
pub walk_one : (once ended : Bool) (e f : Expects) (c d : Config) (xs : List Mark) (m : Mark) (p : Reached)
    → walk once ended e c xs ≡ Some (f, d) → step once ended f d m ≡ Ok p → walk once ended e c (xs ++ m ∷ []) ≡ Some p
walk_one once ended e f c d xs m p h g =
    walk_further once ended e f c d xs (m ∷ []) h ∙ ap (λ n. walk_on n (λ a b. walk once ended a b [])) g
