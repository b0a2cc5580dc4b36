-- What is left of conjuncts that are gone through from their beginning.
use Rattle.std.proofs.Common.{◌≡◌, ◌∙◌, ap, List, ◌++◌, map}
use Rattle.std.proofs.lemmas.List.{map-append}
use Rattle.std.proofs.lemmas.List.Elements.{filter-append}
use Rattle.std.specs.Prelude.{not}
use Rattle.std.specs.Borrow.{Bor}
use Rattle.std.specs.List.{filter}
use Rattle.reading_trees.specs.Trees.{Tree}
use Rattle.reading_trees.specs.declared.config.Config.{Config}
use Rattle.reading_trees.specs.declared.module.Program.{Program}
use Rattle.names_specification.specs.Behind.{deepest}
use Rattle.names_specification.specs.Fair.{is_fair}

abbrev pub unfair_in : Program → Config → List (Bor Tree) → List Tree
unfair_in p c es = filter (λ e. not (is_fair deepest p c e)) (map (λ (e : Bor Tree). e.now) es)

pub unfair_behind : (p : Program) (c : Config) (xs ys : List (Bor Tree)) → unfair_in p c (xs ++ ys) ≡ unfair_in p c xs ++ unfair_in p c ys
unfair_behind p c xs ys =
    ap (filter (λ e. not (is_fair deepest p c e))) (map-append (λ (e : Bor Tree). e.now) xs ys)
    ∙ filter-append (λ e. not (is_fair deepest p c e)) (map (λ (e : Bor Tree). e.now) xs) (map (λ (e : Bor Tree). e.now) ys)
