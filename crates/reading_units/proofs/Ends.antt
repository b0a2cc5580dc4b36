-- The End stands at the last index, and no other token does.
use Rattle.std.specs.Prelude.{◌≡◌, ℕ, suc, zero, ◌+◌, Bool, true, false, List, [], ◌∷◌, ◌++◌, drop, refl}
use Rattle.std.proofs.Common.{sym, ◌∙◌, ap, subst, arith}
use Rattle.reading_trees.specs.declared.laid.Laid.{Laid}
use Rattle.reading_trees.specs.declared.laid.Laid.TheVariants.{Plain, ListOpen, ListItem, ListClose}
use Rattle.reading_tokens.specs.declared.token.Token.{Token}
use Rattle.reading_tokens.specs.declared.token.Kind.TheVariants as kinds
use Rattle.reading_trees.specs.Opens.{is_end}
use Rattle.reading_trees.specs.Grammar.{some_token}
use Rattle.reading_trees.specs.Modules.{NoLaidEnd, LaidEndsOnce}

abbrev tail_of : List Laid → List Laid
tail_of [] = []
tail_of (x ∷ xs) = xs

-- whether the first element is the End
abbrev begins_end : List Laid → Bool
begins_end (Plain t ∷ xs) = is_end t.kind
begins_end _ = false

true_not_false : true ≡ false → ⊥
true_not_false e = let P : Bool → Type 0 = λ b. elim b [ true ↦ Unit {0} | false ↦ ⊥ ] in subst P e tt

apart : (b : Bool) → b ≡ true → b ≡ false → ⊥
apart b t f = true_not_false (sym t ∙ f)

nothing_begins : (i : ℕ) → begins_end (drop i []) ≡ false
nothing_begins zero = refl
nothing_begins (suc i) = refl

-- what is behind the End is nothing
behind_in : (before : List Laid) (last : Token) (i : ℕ) → NoLaidEnd before → begins_end (drop i (before ++ Plain last ∷ [])) ≡ true → drop (suc i) (before ++ Plain last ∷ []) ≡ []
behind_in [] last zero once e = refl
behind_in [] last (suc i) once e = absurd (apart _ e (nothing_begins i))
behind_in (Plain t ∷ bs) last zero once e = absurd (apart _ e once.0)
behind_in (ListOpen b at ∷ bs) last zero once e = absurd (apart _ refl (sym e))
behind_in (ListItem b at ∷ bs) last zero once e = absurd (apart _ refl (sym e))
behind_in (ListClose at ∷ bs) last zero once e = absurd (apart _ refl (sym e))
behind_in (Plain t ∷ bs) last (suc i) once e = behind_in bs last i once.1 e
behind_in (ListOpen b at ∷ bs) last (suc i) once e = behind_in bs last i once e
behind_in (ListItem b at ∷ bs) last (suc i) once e = behind_in bs last i once e
behind_in (ListClose at ∷ bs) last (suc i) once e = behind_in bs last i once e

-- behind an End nothing stands
pub last_end : (xs : List Laid) (i : ℕ) (t : Token) → LaidEndsOnce xs → drop i xs ≡ Plain t ∷ drop (i + 1) xs → t.kind ≡ kinds.End → some_token kinds.End (drop i xs) []
last_end xs i t ends e k =
    let here : begins_end (drop i xs) ≡ true = ap begins_end e ∙ ap is_end k in
    let there : drop (suc i) (ends.before ++ Plain ends.last ∷ []) ≡ [] = behind_in ends.before ends.last i ends.once (subst (λ l. begins_end (drop i l) ≡ true) ends.whole here) in
    let behind : drop (suc i) xs ≡ [] = subst (λ l. drop (suc i) l ≡ []) (sym ends.whole) there in
    let next : i + 1 ≡ suc i = omega arith in
    let rest : drop (i + 1) xs ≡ [] = ap (λ n. drop n xs) next ∙ behind in
    let told : Plain t ∷ drop (i + 1) xs ≡ Plain (record { kind = kinds.End; place = t.place }) ∷ drop (i + 1) xs = ap (λ n. Plain (record { kind = n; place = t.place }) ∷ drop (i + 1) xs) k in
    (t.place, e ∙ told ∙ ap (λ ys. Plain (record { kind = kinds.End; place = t.place }) ∷ ys) rest)
