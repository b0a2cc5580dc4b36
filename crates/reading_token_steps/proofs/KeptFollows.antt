-- What a token does behind a primary, by the names that do not unfold.
use Rattle.std.proofs.Common.{◌≡◌, ℕ, Bool, true, false, List, ◌∷◌, Some, None, refl, sym, ap, ◌∙◌}
use Rattle.base_core.specs.declared.place.Place.{Place}
use Rattle.reading_trees.specs.declared.laid.Laid.{Laid}
use Rattle.reading_trees.specs.declared.laid.Laid.TheVariants.{Plain, ListOpen, ListItem, ListClose}
use Rattle.reading_trees.specs.declared.operators.InfixOperator.{InfixOperator}
use Rattle.reading_tokens.specs.declared.token.Kind.{Kind}
use Rattle.reading_tokens.specs.declared.token.Kind.TheVariants as kinds
use Rattle.reading_tokens.specs.declared.token.Symbol.{Symbol}
use Rattle.reading_tokens.specs.declared.token.Symbol.TheVariants as symbols
use Rattle.reading_trees.specs.Trees as tree
use Rattle.reading_trees.specs.Trees.{Tree, Trees}
use Rattle.reading_trees.specs.TreeViews.{are_none}
use Rattle.reading_machine.specs.Machine.{Stepped, Stops, want, call_step, settle, settled_closes, is_case_mark, behind, kind_follows, symbol_follows, symbol_or, on_symbol, infix_or, infix_of_symbol, infix_step}
use Rattle.reading_token_steps.specs.Kept.{kept_follows, kept_behind, kept_closes}
use Rattle.reading_machine.specs.declared.frame.Frame.{Frame}
use Rattle.reading_machine.specs.declared.frame.Frame.TheVariants as frame

pub behind_settled : (x : Laid) (fs gs : List Frame) (e w : Tree) (k : Bool) → k ≡ is_case_mark x → settle k fs e ≡ record { frames = gs; tree = w } → kept_behind x fs e ≡ kept_closes x gs w
unfolding kept_behind kept_closes
behind_settled x fs gs e w k p q = ap (λ b. settled_closes x (settle b fs e)) (sym p) ∙ ap (settled_closes x) q

pub some_operator : (s : Symbol) (at : Place) (fs : List Frame) (e : Tree) (b : Stepped) (q : InfixOperator) → Some q ≡ infix_of_symbol s → infix_or (infix_of_symbol s) at fs e b ≡ infix_step q at fs e
some_operator s at fs e b q h = ap (λ o. infix_or o at fs e b) (sym h)

pub no_operator : (s : Symbol) (at : Place) (fs : List Frame) (e : Tree) (b : Stepped) → None ≡ infix_of_symbol s → infix_or (infix_of_symbol s) at fs e b ≡ b
no_operator s at fs e b h = ap (λ o. infix_or o at fs e b) (sym h)

pub other_follows : (s : Symbol) (p : Place) (fs : List Frame) (e : Tree) (b : Stepped) → (s ≡ symbols.Prime → ⊥) → (s ≡ symbols.OpenBracket → ⊥) → (s ≡ symbols.Dot → ⊥) → (s ≡ symbols.OpenParenthesis → ⊥) → (s ≡ symbols.Exclamation → ⊥) → symbol_follows s p fs e b ≡ infix_or (infix_of_symbol s) p fs e b
other_follows symbols.Prime p fs e b h i j k l = absurd (h refl)
other_follows symbols.OpenBracket p fs e b h i j k l = absurd (i refl)
other_follows symbols.Dot p fs e b h i j k l = absurd (j refl)
other_follows symbols.OpenParenthesis p fs e b h i j k l = absurd (k refl)
other_follows symbols.Exclamation p fs e b h i j k l = absurd (l refl)
other_follows _ p fs e b h i j k l = refl

-- `(` behind a qualified name
pub no_arguments : (at : Place) (n : List ℕ) (es : Trees) (fs : List Frame) → are_none es ≡ true → call_step (tree.Qualified at n es) fs ≡ want (frame.QualifiedCall n at es ∷ fs)
no_arguments at n tree.NoTrees fs h = refl
no_arguments at n (tree.MoreTrees es e) fs h = absurd (let q : false ≡ true = h in cc)

pub some_arguments : (at : Place) (n : List ℕ) (es : Trees) (fs : List Frame) → are_none es ≡ false → call_step (tree.Qualified at n es) fs ≡ Stops
some_arguments at n tree.NoTrees fs h = absurd (let q : true ≡ false = h in cc)
some_arguments at n (tree.MoreTrees es e) fs h = refl

kind_follows_is : (k : Kind) (p : Place) (fs : List Frame) (e : Tree) (b : Stepped) → kind_follows k p fs e b ≡ symbol_or k (λ s. symbol_follows s p fs e b) b
kind_follows_is (kinds.Symbol s) p fs e b = refl
kind_follows_is _ p fs e b = refl

follows_is : (x : Laid) (fs : List Frame) (e : Tree) → kept_follows x fs e ≡ on_symbol x (λ s p. symbol_follows s p fs e (kept_behind x fs e)) (kept_behind x fs e)
unfolding kept_follows kept_behind
follows_is (Plain t) fs e = kind_follows_is t.kind t.place fs e (behind (Plain t) fs e)
follows_is (ListOpen b at) fs e = refl
follows_is (ListItem b at) fs e = refl
follows_is (ListClose at) fs e = refl

pub symbol_goes_on : (x : Laid) (fs : List Frame) (e : Tree) (s : Symbol) (p : Place) → ((next : Symbol → Place → Stepped) (other : Stepped) → on_symbol x next other ≡ next s p) → kept_follows x fs e ≡ symbol_follows s p fs e (kept_behind x fs e)
symbol_goes_on x fs e s p h = follows_is x fs e ∙ h (λ t q. symbol_follows t q fs e (kept_behind x fs e)) (kept_behind x fs e)

pub no_symbol : (x : Laid) (fs : List Frame) (e : Tree) → ((next : Symbol → Place → Stepped) (other : Stepped) → on_symbol x next other ≡ other) → kept_follows x fs e ≡ kept_behind x fs e
no_symbol x fs e h = follows_is x fs e ∙ h (λ t q. symbol_follows t q fs e (kept_behind x fs e)) (kept_behind x fs e)
