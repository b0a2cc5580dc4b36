-- Outcomes that are kept from one list to another, item by item.
use Rattle.std.proofs.Common.{List, [], ◌∷◌}
use Rattle.std.specs.Prelude.{Bool, true, false}
use Rattle.std.specs.List.{AllZip}
use Rattle.eval_meanings.specs.Outcomes.{Outcome, Gives, Each, AllTrue, SomeTrue}
use Rattle.eval_laws.proofs.Keeping.{Keeps, keeps_itself, keeps_then, keeps_first, keeps_either}

module _ {A B : Type 0} (R : A → B → Type 0) where
  pub zips_each : {C : Type 0} (P : A → Outcome C) (Q : B → Outcome C) → ((x : A) (y : B) → R x y → Keeps (P x) (Q y)) → (xs : List A) (ys : List B) → AllZip R xs ys
      → Keeps (Each P xs) (Each Q ys)
  zips_each P Q p [] [] z = keeps_itself (Gives [])
  zips_each P Q p [] (y ∷ ys) z = absurd z
  zips_each P Q p (x ∷ xs) [] z = absurd z
  zips_each P Q p (x ∷ xs) (y ∷ ys) z = keeps_then (P x) (Q y) _ _ (p x y z.0) (λ v. keeps_first (Each P xs) (Each Q ys) _ (zips_each P Q p xs ys z.1))

  pub zips_all_true : (P : A → Outcome Bool) (Q : B → Outcome Bool) → ((x : A) (y : B) → R x y → Keeps (P x) (Q y)) → (xs : List A) (ys : List B) → AllZip R xs ys
      → Keeps (AllTrue P xs) (AllTrue Q ys)
  zips_all_true P Q p [] [] z = keeps_itself (Gives true)
  zips_all_true P Q p [] (y ∷ ys) z = absurd z
  zips_all_true P Q p (x ∷ xs) [] z = absurd z
  zips_all_true P Q p (x ∷ xs) (y ∷ ys) z =
      keeps_then (P x) (Q y) _ _ (p x y z.0)
      (λ b. keeps_either b (AllTrue P xs) (Gives false) (AllTrue Q ys) (Gives false) (zips_all_true P Q p xs ys z.1) (keeps_itself (Gives false)))

  pub zips_some_true : (P : A → Outcome Bool) (Q : B → Outcome Bool) → ((x : A) (y : B) → R x y → Keeps (P x) (Q y)) → (xs : List A) (ys : List B) → AllZip R xs ys
      → Keeps (SomeTrue P xs) (SomeTrue Q ys)
  zips_some_true P Q p [] [] z = keeps_itself (Gives false)
  zips_some_true P Q p [] (y ∷ ys) z = absurd z
  zips_some_true P Q p (x ∷ xs) [] z = absurd z
  zips_some_true P Q p (x ∷ xs) (y ∷ ys) z =
      keeps_then (P x) (Q y) _ _ (p x y z.0)
      (λ b. keeps_either b (Gives true) (SomeTrue P xs) (Gives true) (SomeTrue Q ys) (keeps_itself (Gives true)) (zips_some_true P Q p xs ys z.1))
