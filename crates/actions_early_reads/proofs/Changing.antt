-- The terms in changes, item by item.
use Rattle.std.proofs.Common.{◌≡◌, ◌∙◌, ap, sym, List, [], ◌∷◌, ◌++◌, map, length, take, get_or, append_assoc}
use Rattle.std.specs.Prelude.{◌<◌, ◌+◌, ℕ, false}
use Rattle.std.proofs.lemmas.List.{map-append}
use Rattle.names_terms.specs.declared.term.Change.{Change}
use Rattle.names_terms.specs.declared.term.StepAt.{StepAt}
use Rattle.names_terms.specs.TermViews.{steps_of, changes_of}
use Rattle.names_term_parts.specs.Parts.{Part, part}
use Rattle.names_term_parts.proofs.Lists.{changes_next}
use Rattle.actions_meanings.specs.Reads.{path_terms}
use Rattle.actions_early_reads.specs.Paths.{change_terms}
use Rattle.actions_early_reads.proofs.Rows.{changes_more}
use Rattle.actions_early_reads.proofs.Following.{items_terms, path_of_items}

pub changes-on : (xs : List Change) (i : ℕ) (x : Change) (ys : List StepAt) (old now new after : List Part) → i < length xs → x ≡ get_or xs i x → steps_of ys ≡ x.path → now ≡ old ++ map (part false) (change_terms (changes_of (take i xs))) → new ≡ now ++ map (part false) (items_terms ys) → after ≡ new ++ part false x.value ∷ [] → after ≡ old ++ map (part false) (change_terms (changes_of (take (i + 1) xs)))
changes-on xs i x ys old now new after lt is path way first last =
    let before : List Part = map (part false) (change_terms (changes_of (take i xs))) in
    let own : List Part = map (part false) (path_terms x.path) in
    let same_path : map (part false) (items_terms ys) ≡ own = ap (map (part false)) (sym (path_of_items ys) ∙ ap path_terms path) in
    let cut : map (part false) (change_terms (changes_of (take (i + 1) xs))) ≡ before ++ (own ++ part false x.value ∷ []) =
    ap (λ cs. map (part false) (change_terms cs)) (changes_next xs i x lt is) ∙ ap (map (part false)) (changes_more (changes_of (take i xs)) x.path x.value) ∙ map-append (part false) (change_terms (changes_of (take i xs))) (path_terms x.path ++ x.value ∷ []) ∙ ap (λ (ps : List Part). before ++ ps) (map-append (part false) (path_terms x.path) (x.value ∷ [])) in
    last ∙ ap (λ (ps : List Part). ps ++ part false x.value ∷ []) (first ∙ ap (λ (ps : List Part). ps ++ map (part false) (items_terms ys)) way ∙ ap (λ (ps : List Part). (old ++ before) ++ ps) same_path)
    ∙ append_assoc (old ++ before) own (part false x.value ∷ []) ∙ append_assoc old before (own ++ part false x.value ∷ []) ∙ ap (λ (ps : List Part). old ++ ps) (sym cut)
