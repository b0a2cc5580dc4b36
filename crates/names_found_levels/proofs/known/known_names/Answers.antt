use Rattle.std.proofs.Common.{◌≡◌, ◌∙◌, sym, ap, subst, List, [], ◌∷◌, ◌++◌, ℕ, ◌+◌, drop}
use Rattle.names_found_levels.specs.Found.{AreFound}
use Rattle.names_least_levels.specs.declared.told.NameLevel.{NameLevel}
use Rattle.names_found_levels.proofs.Mapped.{walked_one}
use Rattle.names_found_levels.proofs.known.known_names.Goals as goal

pub loop-known-preserved : goal.loop-known-preserved
loop-known-preserved c =
    let one : c.push.new.self.items ≡ c.loop-known.copies.items ++ c.known-item.result ∷ [] = c.in_ok-push.ensures.items ∙ ap (λ (m : List ℕ). c.loop-known.copies.items ++ record { name = m; told = c.known-item.result.told } ∷ []) c.in_ok-name.ensures in
    record {
      copied = ap (λ (l : List NameLevel). l ++ drop (c.loop-known.known-index + 1) c.args.names.now) one ∙ walked_one c.loop-known.copies.items c.args.names.now c.loop-known.known-index c.known-item.result c.loop-known.invariant.copied c.loop-known-test.true c.known-item.is;
      found = subst (λ (l : List NameLevel). AreFound l c.put.new.found) (sym one) (c.in_ok-put.ensures c.loop-known.copies.items c.loop-known.invariant.found);
    }
