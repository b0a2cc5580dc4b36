-- Calls with another number of arguments than TLC's operators have.
use Rattle.std.proofs.Common.{◌≡◌, ◌≢◌, ◌∙◌, ℕ, List, [], ◌∷◌, length, ap, refl, sym}
use Rattle.std.specs.Prelude.{Bool, false}
use Rattle.base_core.specs.declared.place.Place.{Place}
use Rattle.reading_trees.specs.TreeViews.{trees_from, trees_of}
use Rattle.reading_trees.specs.Trees.{Tree, Call, Trees, NoTrees, MoreTrees}
use Rattle.names_tlc_calls.specs.Spelled.{called, called_of, spelled_each}
use Rattle.names_tlc_calls.proofs.Items.{NameList}

-- three trees or more
abbrev AreMany : Trees → Type 0
AreMany NoTrees = ⊥
AreMany (MoreTrees NoTrees e) = ⊥
AreMany (MoreTrees (MoreTrees NoTrees e) f) = ⊥
AreMany (MoreTrees (MoreTrees (MoreTrees es d) e) f) = Unit {0}

one_more : (es : Trees) (x : Tree) → AreMany es → AreMany (MoreTrees es x)
one_more NoTrees x h = absurd h
one_more (MoreTrees NoTrees e) x h = absurd h
one_more (MoreTrees (MoreTrees NoTrees e) f) x h = absurd h
one_more (MoreTrees (MoreTrees (MoreTrees es d) e) f) x h = tt

many_from : (es : Trees) (xs : List Tree) → AreMany es → AreMany (trees_from es xs)
many_from es [] h = h
many_from es (x ∷ xs) h = many_from (MoreTrees es x) xs (one_more es x h)

many_spelled : (own : NameList) (es : Trees) → AreMany es → AreMany (spelled_each own es)
many_spelled own NoTrees h = absurd h
many_spelled own (MoreTrees NoTrees e) h = absurd h
many_spelled own (MoreTrees (MoreTrees NoTrees e) f) h = absurd h
many_spelled own (MoreTrees (MoreTrees (MoreTrees es d) e) f) h = tt

many_stay : (at : Place) (n : List ℕ) (es : Trees) → AreMany es → Call at n es ≡ called_of at n es
many_stay at n NoTrees h = absurd h
many_stay at n (MoreTrees NoTrees e) h = absurd h
many_stay at n (MoreTrees (MoreTrees NoTrees e) f) h = absurd h
many_stay at n (MoreTrees (MoreTrees (MoreTrees es d) e) f) h = refl

others_stay : (own : NameList) (at : Place) (n : List ℕ) (items : List Tree) → length items ≢ 1 → length items ≢ 2
    → Call at n (spelled_each own (trees_of items)) ≡ called_of at n (spelled_each own (trees_of items))
others_stay own at n [] a b = refl
others_stay own at n (x ∷ []) a b = absurd (a refl)
others_stay own at n (x ∷ y ∷ []) a b = absurd (b refl)
others_stay own at n (x ∷ y ∷ z ∷ items) a b =
    let es = MoreTrees (MoreTrees (MoreTrees NoTrees x) y) z in
    many_stay at n (spelled_each own (trees_from es items)) (many_spelled own (trees_from es items) (many_from es items tt))

pub call_stays : (own : NameList) (at : Place) (n : List ℕ) (items : List Tree) (es : Trees) (hidden : Bool) → trees_of items ≡ es → length items ≢ 1 → length items ≢ 2 → hidden ≡ false
    → Call at n (spelled_each own es) ≡ called hidden at n (spelled_each own es)
call_stays own at n items es hidden whole a b e =
    ap (λ (ts : Trees). Call at n (spelled_each own ts)) (sym whole) ∙ others_stay own at n items a b
    ∙ ap (λ (ts : Trees). called_of at n (spelled_each own ts)) whole ∙ ap (λ (h : Bool). called h at n (spelled_each own es)) (sym e)
