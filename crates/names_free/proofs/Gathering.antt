-- A walk finds a name exactly where it was found before, or occurs in the tree, free there, and is not hidden.
use Rattle.std.proofs.Common.{◌≡◌, ◌∙◌, sym, ap, refl, List, [], ◌∷◌, ◌++◌}
use Rattle.std.specs.Prelude.{ℕ, Bool, true, false, not, ◌&&◌, ◌||◌, ◌↔◌, if◌then◌else◌, Contains, get_or}
use Rattle.std.specs.Str.{bytes_eq}
use Rattle.std.specs.Cmp.Lexicographic.{bytes_decides}
use Rattle.std.proofs.Math.Bool.{or-false}
use Rattle.std.proofs.lemmas.List.Folds.{list_any-append, list_any_at}
use Rattle.std.proofs.lemmas.Map.Views.{Contains-from_any}
use Rattle.base_core.specs.Texts.{same_bytes}
use Rattle.reading_trees.specs.Trees as tree
use Rattle.reading_trees.specs.Trees.{Tree}
use Rattle.names_scopes.specs.Mentions.{is_one_of, binds, defines, mentions, mentions_each, mentions_operands, mentions_step, mentions_steps, mentions_bounds, mentions_fields, mentions_changes, mentions_arms, mentions_definitions}
use Rattle.names_scopes.specs.Scopes.{at_sign}
use Rattle.names_free.specs.Gathered.{NameList, bound_by, defined_by, add, gather, gather_each, gather_operands, gather_step, gather_steps, gather_bounds, gather_fields, gather_changes, gather_arms, gather_definitions}

-- found before, or occurring where it is not hidden
abbrev seen : Bool → Bool → Bool → Bool
seen found hidden occurs = found || (not hidden && occurs)

seen_twice : (a h b c : Bool) → seen (seen a h b) h c ≡ seen a h (b || c)
seen_twice true h b c = refl
seen_twice false true b c = refl
seen_twice false false b c = refl

seen_under : (a h m b c : Bool) → seen (seen a h b) (h || m) c ≡ seen a h (b || (not m && c))
seen_under true h m b c = refl
seen_under false true m b c = refl
seen_under false false m b c = refl

seen_nothing : (a h : Bool) → a ≡ seen a h false
seen_nothing true h = refl
seen_nothing false true = refl
seen_nothing false false = refl

seen_hidden : (a b : Bool) → a ≡ seen a true b
seen_hidden true b = refl
seen_hidden false b = refl

seen_shown : (a b : Bool) → (a || (b || false)) ≡ seen a false b
seen_shown a b = ap (λ x. a || x) (or-false b)

swapped : (b c : Bool) → (b || c) ≡ (c || b)
swapped true true = refl
swapped true false = refl
swapped false true = refl
swapped false false = refl

regrouped : (a b c d : Bool) → (a || b || c || d) ≡ (a || (b || c || d))
regrouped true b c d = refl
regrouped false b c d = refl

-- Names that are hidden.

one_more : (n m : List ℕ) (hs : NameList) → is_one_of n (hs ++ m ∷ []) ≡ (is_one_of n hs || bytes_eq m n)
one_more n m hs = list_any-append (λ k. bytes_eq k n) hs (m ∷ []) ∙ ap (λ x. is_one_of n hs || x) (or-false (bytes_eq m n))

bound_in : (n : List ℕ) (bs : tree.Bounds) → is_one_of n (bound_by bs) ≡ binds bs n
bound_in n tree.NoBounds = refl
bound_in n (tree.MoreBounds bs ms e) = list_any-append (λ k. bytes_eq k n) (bound_by bs) ms ∙ ap (λ x. x || is_one_of n ms) (bound_in n bs)

more_bound : (n : List ℕ) (bs : tree.Bounds) (hs : NameList) → is_one_of n (hs ++ bound_by bs) ≡ (is_one_of n hs || binds bs n)
more_bound n bs hs = list_any-append (λ k. bytes_eq k n) hs (bound_by bs) ∙ ap (λ x. is_one_of n hs || x) (bound_in n bs)

defined_in : (n : List ℕ) (ds : tree.Definitions) → is_one_of n (defined_by ds) ≡ defines ds n
defined_in n tree.NoDefinitions = refl
defined_in n (tree.MoreDefinitions ds m at ps form e) = one_more n m (defined_by ds) ∙ ap (λ x. x || bytes_eq m n) (defined_in n ds)

more_defined : (n : List ℕ) (ds : tree.Definitions) (hs : NameList) → is_one_of n (hs ++ defined_by ds) ≡ (is_one_of n hs || defines ds n)
more_defined n ds hs = list_any-append (λ k. bytes_eq k n) hs (defined_by ds) ∙ ap (λ x. is_one_of n hs || x) (defined_in n ds)

in_definition : (n m : List ℕ) (ds : tree.Definitions) (ps hs : NameList) → is_one_of n (hs ++ defined_by ds ++ m ∷ [] ++ ps) ≡ (is_one_of n hs || (defines ds n || bytes_eq m n || is_one_of n ps))
in_definition n m ds ps hs =
    list_any-append (λ k. bytes_eq k n) (hs ++ defined_by ds ++ m ∷ []) ps ∙ ap (λ x. x || is_one_of n ps) (one_more n m (hs ++ defined_by ds) ∙ ap (λ x. x || bytes_eq m n) (more_defined n ds hs)) ∙ regrouped (is_one_of n hs) (defines ds n) (bytes_eq m n) (is_one_of n ps)

-- Steps of a walk.

-- a walk under hidden names, from those found before to those found behind it, over what has the name or not
abbrev Finds : List ℕ → NameList → NameList → NameList → Bool → Type 0
Finds n hs ns ms b = is_one_of n ms ≡ seen (is_one_of n ns) (is_one_of n hs) b

nothing : (n : List ℕ) (hs ns : NameList) → Finds n hs ns ns false
nothing n hs ns = seen_nothing (is_one_of n ns) (is_one_of n hs)

both : (n : List ℕ) (hs ns ms ls : NameList) (b c : Bool) → Finds n hs ns ms b → Finds n hs ms ls c → Finds n hs ns ls (b || c)
both n hs ns ms ls b c p q = q ∙ ap (λ x. seen x (is_one_of n hs) c) p ∙ seen_twice (is_one_of n ns) (is_one_of n hs) b c

under : (n : List ℕ) (hs ks ns ms ls : NameList) (m b c : Bool) → is_one_of n ks ≡ (is_one_of n hs || m) → Finds n hs ns ms b → Finds n ks ms ls c → Finds n hs ns ls (b || (not m && c))
under n hs ks ns ms ls m b c k p q =
    q ∙ ap (λ x. seen x (is_one_of n ks) c) p ∙ ap (λ x. seen (seen (is_one_of n ns) (is_one_of n hs) b) x c) k ∙ seen_under (is_one_of n ns) (is_one_of n hs) m b c

turned : (n : List ℕ) (hs ns ms : NameList) (b c : Bool) → Finds n hs ns ms (b || c) → Finds n hs ns ms (c || b)
turned n hs ns ms b c p = p ∙ ap (λ x. seen (is_one_of n ns) (is_one_of n hs) x) (swapped b c)

added : (n m : List ℕ) (hs ns : NameList) → Finds n hs ns (add hs ns m) (bytes_eq m n)
added n m hs ns = so (is_one_of m hs) (bytes_eq m n) refl refl
  where
    hidden : (c : Bool) → is_one_of m hs ≡ c → bytes_eq m n ≡ true → is_one_of n hs ≡ c
    hidden c p q = ap (λ k. is_one_of k hs) (sym (same_bytes m n q)) ∙ p

    so : (c e : Bool) → is_one_of m hs ≡ c → bytes_eq m n ≡ e → Finds n hs ns (add hs ns m) (bytes_eq m n)
    so true true p q =
        ap (λ x. is_one_of n (if x then ns else ns ++ m ∷ [])) p ∙ seen_hidden (is_one_of n ns) (bytes_eq m n) ∙ ap (λ x. seen (is_one_of n ns) x (bytes_eq m n)) (sym (hidden true p q))
    so true false p q =
        ap (λ x. is_one_of n (if x then ns else ns ++ m ∷ [])) p ∙ seen_nothing (is_one_of n ns) (is_one_of n hs) ∙ ap (λ x. seen (is_one_of n ns) (is_one_of n hs) x) (sym q)
    so false true p q =
        ap (λ x. is_one_of n (if x then ns else ns ++ m ∷ [])) p ∙ list_any-append (λ k. bytes_eq k n) ns (m ∷ []) ∙ seen_shown (is_one_of n ns) (bytes_eq m n) ∙ ap (λ x. seen (is_one_of n ns) x (bytes_eq m n)) (sym (hidden false p q))
    so false false p q =
        ap (λ x. is_one_of n (if x then ns else ns ++ m ∷ [])) p ∙ list_any-append (λ k. bytes_eq k n) ns (m ∷ []) ∙ ap (λ x. is_one_of n ns || (x || false)) q ∙ or-false (is_one_of n ns) ∙ seen_nothing (is_one_of n ns) (is_one_of n hs) ∙ ap (λ x. seen (is_one_of n ns) (is_one_of n hs) x) (sym q)

-- Whole trees.

mutual
  pub found : (n : List ℕ) (hs ns : NameList) (t : Tree) → Finds n hs ns (gather hs ns t) (mentions n t)
  found n hs ns (tree.Number at z) = nothing n hs ns
  found n hs ns (tree.Str at z) = nothing n hs ns
  found n hs ns (tree.Truth at z) = nothing n hs ns
  found n hs ns (tree.Builtin at z) = nothing n hs ns
  found n hs ns (tree.Name at m) = added n m hs ns
  found n hs ns (tree.Call at m es) = both n hs ns (add hs ns m) (gather_each hs (add hs ns m) es) (bytes_eq m n) (mentions_each n es) (added n m hs ns) (found_each n hs (add hs ns m) es)
  found n hs ns (tree.Qualified at m es) = both n hs ns (add hs ns m) (gather_each hs (add hs ns m) es) (bytes_eq m n) (mentions_each n es) (added n m hs ns) (found_each n hs (add hs ns m) es)
  found n hs ns (tree.At at) = added n at_sign hs ns
  found n hs ns (tree.Parenthesized at e) = found n hs ns e
  found n hs ns (tree.Junction at b es) = found_each n hs ns es
  found n hs ns (tree.Prefix at o e) = found n hs ns e
  found n hs ns (tree.Infix at o os e) = both n hs ns (gather_operands hs ns os) (gather hs (gather_operands hs ns os) e) (mentions_operands n os) (mentions n e) (found_operands n hs ns os) (found n hs (gather_operands hs ns os) e)
  found n hs ns (tree.Postfix at e ss s) = both n hs ns (gather_steps hs (gather hs ns e) ss) (gather_step hs (gather_steps hs (gather hs ns e) ss) s) (mentions n e || mentions_steps n ss) (mentions_step n s) (both n hs ns (gather hs ns e) (gather_steps hs (gather hs ns e) ss) (mentions n e) (mentions_steps n ss) (found n hs ns e) (found_steps n hs (gather hs ns e) ss)) (found_step n hs (gather_steps hs (gather hs ns e) ss) s)
  found n hs ns (tree.SetOf at es) = found_each n hs ns es
  found n hs ns (tree.Filter at m s e) = under n hs (hs ++ m ∷ []) ns (gather hs ns s) (gather (hs ++ m ∷ []) (gather hs ns s) e) (bytes_eq m n) (mentions n s) (mentions n e) (one_more n m hs) (found n hs ns s) (found n (hs ++ m ∷ []) (gather hs ns s) e)
  found n hs ns (tree.Map at e bs) = turned n hs ns (gather (hs ++ bound_by bs) (gather_bounds hs ns bs) e) (mentions_bounds n bs) (not (binds bs n) && mentions n e) (under n hs (hs ++ bound_by bs) ns (gather_bounds hs ns bs) (gather (hs ++ bound_by bs) (gather_bounds hs ns bs) e) (binds bs n) (mentions_bounds n bs) (mentions n e) (more_bound n bs hs) (found_bounds n hs ns bs) (found n (hs ++ bound_by bs) (gather_bounds hs ns bs) e))
  found n hs ns (tree.Tuple at es) = found_each n hs ns es
  found n hs ns (tree.Function at bs e) = under n hs (hs ++ bound_by bs) ns (gather_bounds hs ns bs) (gather (hs ++ bound_by bs) (gather_bounds hs ns bs) e) (binds bs n) (mentions_bounds n bs) (mentions n e) (more_bound n bs hs) (found_bounds n hs ns bs) (found n (hs ++ bound_by bs) (gather_bounds hs ns bs) e)
  found n hs ns (tree.FunctionSet at s e) = both n hs ns (gather hs ns s) (gather hs (gather hs ns s) e) (mentions n s) (mentions n e) (found n hs ns s) (found n hs (gather hs ns s) e)
  found n hs ns (tree.Record at fs) = found_fields n hs ns fs
  found n hs ns (tree.RecordSet at fs) = found_fields n hs ns fs
  found n hs ns (tree.Except at e cs) = both n hs ns (gather hs ns e) (gather_changes hs (gather hs ns e) cs) (mentions n e) (mentions_changes n cs) (found n hs ns e) (found_changes n hs (gather hs ns e) cs)
  found n hs ns (tree.Quantified at q bs e) = under n hs (hs ++ bound_by bs) ns (gather_bounds hs ns bs) (gather (hs ++ bound_by bs) (gather_bounds hs ns bs) e) (binds bs n) (mentions_bounds n bs) (mentions n e) (more_bound n bs hs) (found_bounds n hs ns bs) (found n (hs ++ bound_by bs) (gather_bounds hs ns bs) e)
  found n hs ns (tree.Choose at m s e) = under n hs (hs ++ m ∷ []) ns (gather hs ns s) (gather (hs ++ m ∷ []) (gather hs ns s) e) (bytes_eq m n) (mentions n s) (mentions n e) (one_more n m hs) (found n hs ns s) (found n (hs ++ m ∷ []) (gather hs ns s) e)
  found n hs ns (tree.If at p e f) = both n hs ns (gather hs (gather hs ns p) e) (gather hs (gather hs (gather hs ns p) e) f) (mentions n p || mentions n e) (mentions n f) (both n hs ns (gather hs ns p) (gather hs (gather hs ns p) e) (mentions n p) (mentions n e) (found n hs ns p) (found n hs (gather hs ns p) e)) (found n hs (gather hs (gather hs ns p) e) f)
  found n hs ns (tree.Case at arms) = found_arms n hs ns arms
  found n hs ns (tree.CaseOther at arms e) = both n hs ns (gather_arms hs ns arms) (gather hs (gather_arms hs ns arms) e) (mentions_arms n arms) (mentions n e) (found_arms n hs ns arms) (found n hs (gather_arms hs ns arms) e)
  found n hs ns (tree.Let at ds e) = under n hs (hs ++ defined_by ds) ns (gather_definitions hs ns ds) (gather (hs ++ defined_by ds) (gather_definitions hs ns ds) e) (defines ds n) (mentions_definitions n ds) (mentions n e) (more_defined n ds hs) (found_definitions n hs ns ds) (found n (hs ++ defined_by ds) (gather_definitions hs ns ds) e)
  found n hs ns (tree.BoxAction at e v) = both n hs ns (gather hs ns e) (gather hs (gather hs ns e) v) (mentions n e) (mentions n v) (found n hs ns e) (found n hs (gather hs ns e) v)
  found n hs ns (tree.AngleAction at e v) = both n hs ns (gather hs ns e) (gather hs (gather hs ns e) v) (mentions n e) (mentions n v) (found n hs ns e) (found n hs (gather hs ns e) v)
  found n hs ns (tree.Fairness at v e) = both n hs ns (gather hs ns v) (gather hs (gather hs ns v) e) (mentions n v) (mentions n e) (found n hs ns v) (found n hs (gather hs ns v) e)

  found_each : (n : List ℕ) (hs ns : NameList) (es : tree.Trees) → Finds n hs ns (gather_each hs ns es) (mentions_each n es)
  found_each n hs ns tree.NoTrees = nothing n hs ns
  found_each n hs ns (tree.MoreTrees es e) = both n hs ns (gather_each hs ns es) (gather hs (gather_each hs ns es) e) (mentions_each n es) (mentions n e) (found_each n hs ns es) (found n hs (gather_each hs ns es) e)

  found_operands : (n : List ℕ) (hs ns : NameList) (os : tree.Operands) → Finds n hs ns (gather_operands hs ns os) (mentions_operands n os)
  found_operands n hs ns (tree.First e) = found n hs ns e
  found_operands n hs ns (tree.Next os at e) = both n hs ns (gather_operands hs ns os) (gather hs (gather_operands hs ns os) e) (mentions_operands n os) (mentions n e) (found_operands n hs ns os) (found n hs (gather_operands hs ns os) e)

  found_step : (n : List ℕ) (hs ns : NameList) (s : tree.Step) → Finds n hs ns (gather_step hs ns s) (mentions_step n s)
  found_step n hs ns tree.Prime = nothing n hs ns
  found_step n hs ns (tree.Index es) = found_each n hs ns es
  found_step n hs ns (tree.Field h) = nothing n hs ns

  found_steps : (n : List ℕ) (hs ns : NameList) (ss : tree.Steps) → Finds n hs ns (gather_steps hs ns ss) (mentions_steps n ss)
  found_steps n hs ns tree.NoSteps = nothing n hs ns
  found_steps n hs ns (tree.MoreSteps ss at s) = both n hs ns (gather_steps hs ns ss) (gather_step hs (gather_steps hs ns ss) s) (mentions_steps n ss) (mentions_step n s) (found_steps n hs ns ss) (found_step n hs (gather_steps hs ns ss) s)

  found_bounds : (n : List ℕ) (hs ns : NameList) (bs : tree.Bounds) → Finds n hs ns (gather_bounds hs ns bs) (mentions_bounds n bs)
  found_bounds n hs ns tree.NoBounds = nothing n hs ns
  found_bounds n hs ns (tree.MoreBounds bs ms e) = both n hs ns (gather_bounds hs ns bs) (gather hs (gather_bounds hs ns bs) e) (mentions_bounds n bs) (mentions n e) (found_bounds n hs ns bs) (found n hs (gather_bounds hs ns bs) e)

  found_fields : (n : List ℕ) (hs ns : NameList) (fs : tree.Fields) → Finds n hs ns (gather_fields hs ns fs) (mentions_fields n fs)
  found_fields n hs ns tree.NoFields = nothing n hs ns
  found_fields n hs ns (tree.MoreFields fs m e) = both n hs ns (gather_fields hs ns fs) (gather hs (gather_fields hs ns fs) e) (mentions_fields n fs) (mentions n e) (found_fields n hs ns fs) (found n hs (gather_fields hs ns fs) e)

  found_changes : (n : List ℕ) (hs ns : NameList) (cs : tree.Changes) → Finds n hs ns (gather_changes hs ns cs) (mentions_changes n cs)
  found_changes n hs ns tree.NoChanges = nothing n hs ns
  found_changes n hs ns (tree.MoreChanges cs path e) = under n hs (hs ++ at_sign ∷ []) ns (gather_steps hs (gather_changes hs ns cs) path) (gather (hs ++ at_sign ∷ []) (gather_steps hs (gather_changes hs ns cs) path) e) (bytes_eq at_sign n) (mentions_changes n cs || mentions_steps n path) (mentions n e) (one_more n at_sign hs) (both n hs ns (gather_changes hs ns cs) (gather_steps hs (gather_changes hs ns cs) path) (mentions_changes n cs) (mentions_steps n path) (found_changes n hs ns cs) (found_steps n hs (gather_changes hs ns cs) path)) (found n (hs ++ at_sign ∷ []) (gather_steps hs (gather_changes hs ns cs) path) e)

  found_arms : (n : List ℕ) (hs ns : NameList) (arms : tree.Arms) → Finds n hs ns (gather_arms hs ns arms) (mentions_arms n arms)
  found_arms n hs ns tree.NoArms = nothing n hs ns
  found_arms n hs ns (tree.MoreArms arms p e) = both n hs ns (gather hs (gather_arms hs ns arms) p) (gather hs (gather hs (gather_arms hs ns arms) p) e) (mentions_arms n arms || mentions n p) (mentions n e) (both n hs ns (gather_arms hs ns arms) (gather hs (gather_arms hs ns arms) p) (mentions_arms n arms) (mentions n p) (found_arms n hs ns arms) (found n hs (gather_arms hs ns arms) p)) (found n hs (gather hs (gather_arms hs ns arms) p) e)

  found_definitions : (n : List ℕ) (hs ns : NameList) (ds : tree.Definitions) → Finds n hs ns (gather_definitions hs ns ds) (mentions_definitions n ds)
  found_definitions n hs ns tree.NoDefinitions = nothing n hs ns
  found_definitions n hs ns (tree.MoreDefinitions ds m at ps form e) = under n hs (hs ++ defined_by ds ++ m ∷ [] ++ ps) ns (gather_definitions hs ns ds) (gather (hs ++ defined_by ds ++ m ∷ [] ++ ps) (gather_definitions hs ns ds) e) (defines ds n || bytes_eq m n || is_one_of n ps) (mentions_definitions n ds) (mentions n e) (in_definition n m ds ps hs) (found_definitions n hs ns ds) (found n (hs ++ defined_by ds ++ m ∷ [] ++ ps) (gather_definitions hs ns ds) e)

is_in : (ns : NameList) (n : List ℕ) → Contains ns n → is_one_of n ns ≡ true
is_in ns n (k, h, e) = list_any_at (λ m. bytes_eq m n) ns k n h ((bytes_decides (get_or ns k n) n).1 e)

-- what a walk finds with nothing hidden and nothing found before
pub all_found : (t : Tree) (ns : NameList) → ns ≡ gather [] [] t → (n : List ℕ) → Contains ns n ↔ (mentions n t ≡ true)
all_found t ns e n =
    let same : is_one_of n ns ≡ mentions n t = ap (λ l. is_one_of n l) e ∙ found n [] [] t in
    (λ h. sym same ∙ is_in ns n h, λ h. Contains-from_any {eq = λ a b. bytes_eq b a} (λ a b q. sym (same_bytes b a q)) n ns (same ∙ h))
