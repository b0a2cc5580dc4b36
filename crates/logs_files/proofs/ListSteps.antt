-- One more of a list that is gone through.
use Rattle.std.proofs.Common.{◌≡◌, ℕ, suc, ◌+◌, ◌<◌, List, [], ◌∷◌, ◌++◌, length, take, drop, get_or, ap, sym, ◌∙◌, add-one}
use Rattle.std.proofs.Math.Seq.{drop-cons, take-suc}

module _ {X : Type 0} where
  pub rest_at : (xs : List X) (i : ℕ) (x : X) → i < length xs → x ≡ get_or xs i x → drop i xs ≡ x ∷ drop (i + 1) xs
  rest_at xs i x h e = rw (add-one i) (drop-cons xs i x h ∙ ap (λ (d : X). d ∷ drop (suc i) xs) (sym e))

  pub take_more : (xs : List X) (i : ℕ) (x : X) → i < length xs → x ≡ get_or xs i x → take (i + 1) xs ≡ take i xs ++ x ∷ []
  take_more xs i x h e = rw (add-one i) (take-suc xs i x h ∙ ap (λ (d : X). take i xs ++ d ∷ []) (sym e))
