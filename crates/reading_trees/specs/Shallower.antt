-- Each value in a list of values is less deep.
use Rattle.std.specs.Prelude.{◌≡◌, ℕ, zero, suc, max, ◌≤◌, ◌<◌, List, [], ◌∷◌, map, length, get_or}
use Rattle.std.proofs.Common.{arith, ap}
use denote.Param.Weighed.{most}
use Rattle.reading_trees.specs.Lits.{lits_of, depth, depth_of}
use Rattle.reading_trees.specs.Literals.{lit_of, depth_in}
use Rattle.reading_trees.specs.declared.config.Literal.{Literal}
use Rattle.reading_trees.specs.declared.config.Literal.TheVariants.{Number, Str, Truth, Model, Set}
use Rattle.reading_trees.specs.declared.config.Literals.TheDeep.{deep-Literal}

less_deep : (l : Literal) → deep-Literal l ≤ suc (depth (lit_of l))
less_deep (Number z) = omega arith
less_deep (Str s) = omega arith
less_deep (Truth b) = omega arith
less_deep (Model s) = omega arith
less_deep (Set ls) = omega arith

all_less_deep : (ls : List Literal) → most deep-Literal ls ≤ suc (depth_of (lits_of (map lit_of ls)))
all_less_deep [] = omega arith
all_less_deep (l ∷ ls) = omega (arith, less_deep l, all_less_deep ls)

pub shallower : (ls : List Literal) → max (most deep-Literal ls) 0 ≤ depth_in (map lit_of ls)
shallower ls = omega (arith, all_less_deep ls)

-- and so is each of them than the set that they are the members of
pub member_deep : (ls : List Literal) (i : ℕ) (d l : Literal) → i < length ls → l ≡ get_or ls i d → depth (lit_of l) ≤ depth_of (lits_of (map lit_of ls))
member_deep [] i d l h e = absurd (omega (arith, h))
member_deep (x ∷ ls) zero d l h e = let same : depth (lit_of l) ≡ depth (lit_of x) = ap (λ y. depth (lit_of y)) e in omega arith
member_deep (x ∷ ls) (suc i) d l h e =
    let rest : depth (lit_of l) ≤ depth_of (lits_of (map lit_of ls)) = member_deep ls i d l (omega arith) e in omega arith
