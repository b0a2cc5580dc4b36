-- A path is cut in one way: its folder ends with its last slash.
use Rattle.std.proofs.Common.{◌≡◌, ◌≢◌, ◌⊎◌, ◌∙◌, ℕ, List, [], ◌∷◌, ◌++◌, inl, inr, refl, sym, ap, subst}
use Rattle.std.specs.Prelude.{All, codes}
use Rattle.std.proofs.lemmas.Bool.{eqb-false}
use Rattle.std.proofs.lemmas.List.{append_cancel_right}
use Rattle.std.proofs.lemmas.List.Elements.{All-nil, All-cons, All-head, All-tail, All-append}
use Rattle.reading_modules.specs.Paths.{IsPath}

abbrev IsNoSlash : ℕ → Type 0
IsNoSlash b = b ≢ 47

abbrev HasNoSlash : List ℕ → Type 0
HasNoSlash = All IsNoSlash

abbrev IsFolder : List ℕ → Type 0
IsFolder folder = (folder ≡ []) ⊎ ((front : List ℕ) × (folder ≡ front ++ 47 ∷ []))

abbrev IsSome : List ℕ → Type 0
IsSome [] = ⊥
IsSome (b ∷ bs) = Unit {0}

abbrev head : List ℕ → ℕ
head [] = 0
head (b ∷ bs) = b

abbrev tail : List ℕ → List ℕ
tail [] = []
tail (b ∷ bs) = bs

-- behind its first byte a folder is one, or none
behind : (b : ℕ) (f front : List ℕ) → b ∷ f ≡ front ++ 47 ∷ [] → IsFolder f
behind b f [] e = inl (ap tail e)
behind b f (c ∷ front) e = inr (front, ap tail e)

rest_of : (b : ℕ) (f : List ℕ) → IsFolder (b ∷ f) → IsFolder f
rest_of b f (inl e) = absurd (subst IsSome e tt)
rest_of b f (inr h) = behind b f h.0 h.1

slash_in : (front t : List ℕ) → HasNoSlash ((front ++ 47 ∷ []) ++ t) → ⊥
slash_in [] t n = All-head IsNoSlash 47 t n refl
slash_in (b ∷ front) t n = slash_in front t (All-tail IsNoSlash b ((front ++ 47 ∷ []) ++ t) n)

-- a folder that is not none has a slash
has_slash : (b : ℕ) (f t : List ℕ) → IsFolder (b ∷ f) → HasNoSlash ((b ∷ f) ++ t) → ⊥
has_slash b f t (inl e) n = subst IsSome e tt
has_slash b f t (inr h) n = slash_in h.0 t (subst (λ v. HasNoSlash (v ++ t)) h.1 n)

cut_same : (f g s t : List ℕ) → IsFolder f → IsFolder g → HasNoSlash s → HasNoSlash t → f ++ s ≡ g ++ t → (f ≡ g) × (s ≡ t)
cut_same [] [] s t h k n m e = (refl, e)
cut_same [] (c ∷ g) s t h k n m e = absurd (has_slash c g t k (subst HasNoSlash e n))
cut_same (b ∷ f) [] s t h k n m e = absurd (has_slash b f s h (subst HasNoSlash (sym e) m))
cut_same (b ∷ f) (c ∷ g) s t h k n m e =
    let r = cut_same f g s t (rest_of b f h) (rest_of c g k) n m (ap tail e) in
    (ap (λ v. v ∷ f) (ap head e) ∙ ap (λ v. c ∷ v) r.0, r.1)

no_slash_behind : HasNoSlash (codes ".tla")
no_slash_behind =
    All-cons IsNoSlash 46 (116 ∷ 108 ∷ 97 ∷ []) (eqb-false 46 47 refl)
    (All-cons IsNoSlash 116 (108 ∷ 97 ∷ []) (eqb-false 116 47 refl)
    (All-cons IsNoSlash 108 (97 ∷ []) (eqb-false 108 47 refl) (All-cons IsNoSlash 97 [] (eqb-false 97 47 refl) (All-nil IsNoSlash))))

no_slash : (name : List ℕ) → HasNoSlash name → HasNoSlash (name ++ codes ".tla")
no_slash name n = All-append IsNoSlash name (codes ".tla") n no_slash_behind

pub path_same : (path folder front name main : List ℕ) → IsPath path folder name → IsPath path front main → (folder ≡ front) × (name ≡ main)
path_same path folder front name main p q =
    let r = cut_same folder front (name ++ codes ".tla") (main ++ codes ".tla") p.whole q.whole (no_slash name p.plain) (no_slash main q.plain) (sym p.parts ∙ q.parts) in
    (r.0, append_cancel_right name main (codes ".tla") r.1)
