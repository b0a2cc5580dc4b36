-- A walk along rows whose last part reaches as far right as possible: rows that are spelled but for their last part, and the names that are bound there.
use Rattle.std.proofs.Common.{◌≡◌, ◌∙◌, sym, ap, refl, List, [], ◌∷◌, ◌++◌, append_assoc, append-nil, ◌≤◌, arith}
use Rattle.std.specs.Prelude.{ℕ}
use Rattle.base_core.specs.declared.place.Place.{Place}
use Rattle.reading_trees.specs.Trees as tree
use Rattle.reading_trees.specs.Trees.{Tree}
use Rattle.reading_trees.specs.TreeSizes.{tree_size}
use Rattle.reading_trees.specs.declared.operators.Quantifier.{Quantifier}
use Rattle.names_tlc_calls.specs.Spelled.{bound_by, defined_by, spelled, spelled_bounds, spelled_definitions}
use Rattle.names_tlc_calls.specs.Rows.{closed, closed_all, tree_with}
use Rattle.names_tlc_calls.specs.declared.rows.Opening.{Opening}
use Rattle.names_tlc_calls.specs.declared.rows.Opening.TheVariants.{If, Quantified, Choose, Let}
use Rattle.names_tlc_calls.specs.declared.rows.Row.{Row}
use Rattle.names_tlc_calls.proofs.Items.{NameList}

pub closed_behind : (rs : List Row) (r : Row) (x : Tree) → closed_all (rs ++ r ∷ []) x ≡ closed_all rs (closed r x)
closed_behind [] r x = refl
closed_behind (q ∷ rs) r x = ap (λ y. closed q y) (closed_behind rs r x)

-- from a tree and the names around it to the last part of a row in it, with the rows that wait for that part
pub record Spells (bs : NameList) (t : Tree) (bs' : NameList) (rs : List Row) (t' : Tree) : Type 0 where
  pub same : closed_all rs (spelled bs' t') ≡ spelled bs t
  pub more : NameList
  pub grown : bs' ≡ bs ++ more
  pub within : tree_size t' ≤ tree_size t

abbrev pub row : Place → Opening → Row
row at o = record { at = at; opening = o }

module _ (bs : NameList) (t : Tree) (mid : NameList) (rs : List Row) (rest : Tree) (h : Spells bs t mid rs rest) where
  -- one row more
  opened : (new : NameList) (rows : List Row) (at : Place) (o : Opening) (last : Tree) (names : NameList)
      → rows ≡ rs ++ row at o ∷ [] → new ≡ mid ++ names → tree_with at o (spelled new last) ≡ spelled mid rest → tree_size last ≤ tree_size rest → Spells bs t new rows last
  opened new rows at o last names pushed grown is below =
      record {
        same = ap (λ (q : List Row). closed_all q (spelled new last)) pushed ∙ closed_behind rs (row at o) (spelled new last) ∙ ap (λ (x : Tree). closed_all rs x) is ∙ h.same;
        more = h.more ++ names;
        grown = grown ∙ ap (λ (z : NameList). z ++ names) h.grown ∙ append_assoc bs h.more names;
        within = omega (arith, below, h.within);
      }

  pub if_opened : (new new' : NameList) (rows : List Row) (at : Place) (p e last p' e' : Tree) → tree.If at p e last ≡ rest → new ≡ mid → new' ≡ new → p' ≡ spelled mid p → e' ≡ spelled new e
      → rows ≡ rs ++ row at (If p' e') ∷ [] → Spells bs t new' rows last
  if_opened new new' rows at p e last p' e' view n n' pm em pushed =
      let back : new' ≡ mid = n' ∙ n in
      let size : tree_size (tree.If at p e last) ≡ tree_size rest = ap tree_size view in
      opened new' rows at (If p' e') last [] pushed (back ∙ sym (append-nil mid))
      (ap (λ (z : Tree). tree.If at z e' (spelled new' last)) pm ∙ ap (λ (z : Tree). tree.If at (spelled mid p) z (spelled new' last)) (em ∙ ap (λ (z : NameList). spelled z e) n)
      ∙ ap (λ (z : NameList). tree.If at (spelled mid p) (spelled mid e) (spelled z last)) back ∙ ap (λ (z : Tree). spelled mid z) view)
      (omega (arith, size))

  pub quantified_opened : (new new' : NameList) (rows : List Row) (at : Place) (q : Quantifier) (bounds sets : tree.Bounds) (last : Tree) → tree.Quantified at q bounds last ≡ rest → new ≡ mid → new' ≡ new ++ bound_by bounds
      → sets ≡ spelled_bounds mid bounds → rows ≡ rs ++ row at (Quantified q sets) ∷ [] → Spells bs t new' rows last
  quantified_opened new new' rows at q bounds sets last view n n' sm pushed =
      let grown : new' ≡ mid ++ bound_by bounds = n' ∙ ap (λ (z : NameList). z ++ bound_by bounds) n in
      let size : tree_size (tree.Quantified at q bounds last) ≡ tree_size rest = ap tree_size view in
      opened new' rows at (Quantified q sets) last (bound_by bounds) pushed grown
      (ap (λ (z : tree.Bounds). tree.Quantified at q z (spelled new' last)) sm ∙ ap (λ (z : NameList). tree.Quantified at q (spelled_bounds mid bounds) (spelled z last)) grown ∙ ap (λ (z : Tree). spelled mid z) view)
      (omega (arith, size))

  pub choose_opened : (new new' : NameList) (rows : List Row) (at : Place) (n n' : List ℕ) (s s' last : Tree) → tree.Choose at n s last ≡ rest → new ≡ mid → new' ≡ new ++ n ∷ [] → n' ≡ n → s' ≡ spelled mid s
      → rows ≡ rs ++ row at (Choose n' s') ∷ [] → Spells bs t new' rows last
  choose_opened new new' rows at n n' s s' last view b b' nn sm pushed =
      let grown : new' ≡ mid ++ n ∷ [] = b' ∙ ap (λ (z : NameList). z ++ n ∷ []) b in
      let size : tree_size (tree.Choose at n s last) ≡ tree_size rest = ap tree_size view in
      opened new' rows at (Choose n' s') last (n ∷ []) pushed grown
      (ap (λ (z : List ℕ). tree.Choose at z s' (spelled new' last)) nn ∙ ap (λ (z : Tree). tree.Choose at n z (spelled new' last)) sm ∙ ap (λ (z : NameList). tree.Choose at n (spelled mid s) (spelled z last)) grown ∙ ap (λ (z : Tree). spelled mid z) view)
      (omega (arith, size))

  pub let_opened : (new : NameList) (rows : List Row) (at : Place) (ds ds' : tree.Definitions) (last : Tree) → tree.Let at ds last ≡ rest → new ≡ mid ++ defined_by ds → ds' ≡ spelled_definitions mid ds
      → rows ≡ rs ++ row at (Let ds') ∷ [] → Spells bs t new rows last
  let_opened new rows at ds ds' last view grown dm pushed =
      let size : tree_size (tree.Let at ds last) ≡ tree_size rest = ap tree_size view in
      opened new rows at (Let ds') last (defined_by ds) pushed grown
      (ap (λ (z : tree.Definitions). tree.Let at z (spelled new last)) dm ∙ ap (λ (z : NameList). tree.Let at (spelled_definitions mid ds) (spelled z last)) grown ∙ ap (λ (z : Tree). spelled mid z) view)
      (omega (arith, size))
