-- A walk along rows whose last part reaches as far right as possible: rows that are made but for their last part, and the names that are bound there.
use Rattle.std.proofs.Common.{◌≡◌, ◌∙◌, sym, ap, refl, List, [], ◌∷◌, ◌++◌, append_assoc, append-nil, ◌≤◌, arith}
use Rattle.std.specs.Prelude.{ℕ}
use Rattle.base_core.specs.declared.place.Place.{Place}
use Rattle.reading_trees.specs.Trees as tree
use Rattle.reading_trees.specs.Trees.{Tree}
use Rattle.reading_trees.specs.TreeSizes.{tree_size}
use Rattle.reading_trees.specs.declared.operators.Quantifier.{Quantifier}
use Rattle.names_instances.specs.Made.{StandIns, bound_by, defined_by, made, made_bounds, made_definitions}
use Rattle.names_instances.specs.Rows.{closed, closed_all, tree_with}
use Rattle.names_instances.specs.declared.rows.Opening.{Opening}
use Rattle.names_instances.specs.declared.rows.Opening.TheVariants.{If, Quantified, Choose, Let}
use Rattle.names_instances.specs.declared.rows.Row.{Row}
use Rattle.names_instances.proofs.Items.{NameList}

pub closed_behind : (rs : List Row) (r : Row) (x : Tree) → closed_all (rs ++ r ∷ []) x ≡ closed_all rs (closed r x)
closed_behind [] r x = refl
closed_behind (q ∷ rs) r x = ap (λ y. closed q y) (closed_behind rs r x)

-- from a tree and the names around it to the last part of a row in it, with the rows that wait for that part
pub record Makes (by : StandIns) (bs : NameList) (t : Tree) (bs' : NameList) (rs : List Row) (t' : Tree) : Type 0 where
  pub same : closed_all rs (made by bs' t') ≡ made by bs t
  pub more : NameList
  pub grown : bs' ≡ bs ++ more
  pub within : tree_size t' ≤ tree_size t

abbrev pub row : Place → Opening → Row
row at o = record { at = at; opening = o }

module _ (by : StandIns) (bs : NameList) (t : Tree) (mid : NameList) (rs : List Row) (rest : Tree) (h : Makes by bs t mid rs rest) where
  -- one row more
  opened : (new : NameList) (rows : List Row) (at : Place) (o : Opening) (last : Tree) (names : NameList)
      → rows ≡ rs ++ row at o ∷ [] → new ≡ mid ++ names → tree_with at o (made by new last) ≡ made by mid rest → tree_size last ≤ tree_size rest → Makes by bs t new rows last
  opened new rows at o last names pushed grown is below =
      record {
        same = ap (λ (q : List Row). closed_all q (made by new last)) pushed ∙ closed_behind rs (row at o) (made by new last) ∙ ap (λ (x : Tree). closed_all rs x) is ∙ h.same;
        more = h.more ++ names;
        grown = grown ∙ ap (λ (z : NameList). z ++ names) h.grown ∙ append_assoc bs h.more names;
        within = omega (arith, below, h.within);
      }

  pub if_opened : (new new' : NameList) (rows : List Row) (at : Place) (p e last p' e' : Tree) → tree.If at p e last ≡ rest → new ≡ mid → new' ≡ new → p' ≡ made by mid p → e' ≡ made by new e
      → rows ≡ rs ++ row at (If p' e') ∷ [] → Makes by bs t new' rows last
  if_opened new new' rows at p e last p' e' view n n' pm em pushed =
      let back : new' ≡ mid = n' ∙ n in
      let size : tree_size (tree.If at p e last) ≡ tree_size rest = ap tree_size view in
      opened new' rows at (If p' e') last [] pushed (back ∙ sym (append-nil mid))
      (ap (λ (z : Tree). tree.If at z e' (made by new' last)) pm ∙ ap (λ (z : Tree). tree.If at (made by mid p) z (made by new' last)) (em ∙ ap (λ (z : NameList). made by z e) n)
      ∙ ap (λ (z : NameList). tree.If at (made by mid p) (made by mid e) (made by z last)) back ∙ ap (λ (z : Tree). made by mid z) view)
      (omega (arith, size))

  pub quantified_opened : (new new' : NameList) (rows : List Row) (at : Place) (q : Quantifier) (bounds sets : tree.Bounds) (last : Tree) → tree.Quantified at q bounds last ≡ rest → new ≡ mid → new' ≡ new ++ bound_by bounds
      → sets ≡ made_bounds by mid bounds → rows ≡ rs ++ row at (Quantified q sets) ∷ [] → Makes by bs t new' rows last
  quantified_opened new new' rows at q bounds sets last view n n' sm pushed =
      let grown : new' ≡ mid ++ bound_by bounds = n' ∙ ap (λ (z : NameList). z ++ bound_by bounds) n in
      let size : tree_size (tree.Quantified at q bounds last) ≡ tree_size rest = ap tree_size view in
      opened new' rows at (Quantified q sets) last (bound_by bounds) pushed grown
      (ap (λ (z : tree.Bounds). tree.Quantified at q z (made by new' last)) sm ∙ ap (λ (z : NameList). tree.Quantified at q (made_bounds by mid bounds) (made by z last)) grown ∙ ap (λ (z : Tree). made by mid z) view)
      (omega (arith, size))

  pub choose_opened : (new new' : NameList) (rows : List Row) (at : Place) (n n' : List ℕ) (s s' last : Tree) → tree.Choose at n s last ≡ rest → new ≡ mid → new' ≡ new ++ n ∷ [] → n' ≡ n → s' ≡ made by mid s
      → rows ≡ rs ++ row at (Choose n' s') ∷ [] → Makes by bs t new' rows last
  choose_opened new new' rows at n n' s s' last view b b' nn sm pushed =
      let grown : new' ≡ mid ++ n ∷ [] = b' ∙ ap (λ (z : NameList). z ++ n ∷ []) b in
      let size : tree_size (tree.Choose at n s last) ≡ tree_size rest = ap tree_size view in
      opened new' rows at (Choose n' s') last (n ∷ []) pushed grown
      (ap (λ (z : List ℕ). tree.Choose at z s' (made by new' last)) nn ∙ ap (λ (z : Tree). tree.Choose at n z (made by new' last)) sm ∙ ap (λ (z : NameList). tree.Choose at n (made by mid s) (made by z last)) grown ∙ ap (λ (z : Tree). made by mid z) view)
      (omega (arith, size))

  pub let_opened : (new : NameList) (rows : List Row) (at : Place) (ds ds' : tree.Definitions) (last : Tree) → tree.Let at ds last ≡ rest → new ≡ mid ++ defined_by ds → ds' ≡ made_definitions by mid ds
      → rows ≡ rs ++ row at (Let ds') ∷ [] → Makes by bs t new rows last
  let_opened new rows at ds ds' last view grown dm pushed =
      let size : tree_size (tree.Let at ds last) ≡ tree_size rest = ap tree_size view in
      opened new rows at (Let ds') last (defined_by ds) pushed grown
      (ap (λ (z : tree.Definitions). tree.Let at z (made by new last)) dm ∙ ap (λ (z : NameList). tree.Let at (made_definitions by mid ds) (made by z last)) grown ∙ ap (λ (z : Tree). made by mid z) view)
      (omega (arith, size))
