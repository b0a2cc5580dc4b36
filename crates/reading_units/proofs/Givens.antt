-- What WITH gives, in the rest of a module.
use Rattle.std.proofs.Common.{◌≡◌, ◌≤◌, ◌+◌, ℕ, zero, suc, Bool, true, false, List, [], ◌∷◌, ◌++◌, length, length-append, Some, inl, inr, refl, sym, ap, subst, ◌∙◌, arith}
use Rattle.base_core.specs.declared.place.Place.{Place}
use Rattle.reading_trees.specs.declared.laid.Laid.{Laid}
use Rattle.reading_trees.specs.declared.laid.Laid.TheVariants.{Plain}
use Rattle.reading_tokens.specs.declared.token.Kind.{Kind}
use Rattle.reading_tokens.specs.declared.token.Kind.TheVariants as kinds
use Rattle.reading_tokens.specs.declared.token.Symbol.TheVariants as symbols
use Rattle.reading_trees.specs.Grammar.{name}
use Rattle.reading_trees.specs.Modules.{IsNoneOf}
use Rattle.reading_trees.specs.Trees as tree
use Rattle.reading_machine.specs.LawsOfTrees.{EndsText}
use Rattle.reading_expressions.specs.Refused.{IsRefusedAt}
use Rattle.reading_expressions.specs.declared.fault.ParseFault.{ParseFault}
use Rattle.reading_units.specs.Marks.{mark_of}
use Rattle.reading_units.specs.Reads.{SameHead, Leads, Lacks, RefusedIn, BegunBy}
use Rattle.reading_units.specs.Rests.{Then, Marked, FitsIf, Expression, Given, MoreGiven, SomeMoreGiven, AllGiven, MaybeGiven, NamedLeft, GivenLeft, MoreLeft, ArrowLeft, Tail}
use Rattle.reading_units.specs.declared.marks.Mark.TheVariants as marks
use Rattle.reading_units.proofs.Extents.{Ending}
use Rattle.reading_units.proofs.MarksTold.{told, plain, has_mark}
use Rattle.reading_units.proofs.OneModuleTokens.{TextEnds}
use Rattle.reading_units.proofs.RestSteps.{no_token, refused_first}
use Rattle.reading_units.proofs.TailSteps.{tail_avoids, tail_ending, some_tail, last_tokens}

-- ---- WITH, or nothing

no_with_comes : (fit : Bool) (xs zs vs : List Laid) → Lacks marks.With xs → SameHead xs zs → MaybeGiven fit zs vs → Tail fit vs → Tail fit zs
no_with_comes fit xs zs vs l s (inl q) t = subst (Tail fit) (sym q) t
no_with_comes fit xs zs vs l s (inr h) t = absurd (no_token marks.With xs zs h.0 l s h.1)

pub no_with : (xs : List Laid) → Lacks marks.With xs → Leads NamedLeft Tail xs xs
no_with xs l = record {
  text = [];
  whole = refl;
  goes = λ fit zs t. (zs, inl refl, t);
  comes = λ fit zs s t. no_with_comes fit xs zs t.0 l s t.1 t.2;
}

with_comes : (fit : Bool) (x : Laid) (zs vs : List Laid) → mark_of x ≡ Some marks.With → MaybeGiven fit (x ∷ zs) vs → Tail fit vs → GivenLeft [] fit zs
with_comes fit x zs vs e (inl q) t = absurd (tail_avoids marks.With (λ b. b) fit (x ∷ zs) (subst (Tail fit) (sym q) t) e)
with_comes fit x zs vs e (inr h) t = (vs, subst (λ v. AllGiven fit [] v vs) (sym h.1.1) h.2, t)

pub with_leads : (xs ws : List Laid) → Marked marks.With xs ws → Leads NamedLeft (GivenLeft []) xs ws
with_leads [] ws h = absurd h
with_leads (x ∷ xs) ws h = record {
  text = x ∷ [];
  whole = ap (λ v. x ∷ v) h.1;
  goes = λ fit zs u. (u.0, inr (zs, (h.0, refl), u.1), u.2);
  comes = λ fit zs s t. with_comes fit x zs t.0 h.0 t.1 t.2;
}

-- ---- a name that is given

abbrev head_or : Laid → List Laid → Laid
head_or u [] = u
head_or u (x ∷ xs) = x

abbrev tail_or : List Laid → List Laid
tail_or [] = []
tail_or (x ∷ xs) = xs

abbrev name_in : Kind → List ℕ
name_in (kinds.Name n) = n
name_in _ = []

abbrev name_told : Laid → List ℕ
name_told (Plain t) = name_in t.kind
name_told _ = []

-- a token is one name
pub same_name : (m n : List ℕ) (x : Laid) (zs vs us ws : List Laid) → name m (x ∷ zs) vs → name n (x ∷ us) ws → m ≡ n
same_name m n x zs vs us ws h g = sym (ap (λ v. name_told (head_or x v)) h.1) ∙ ap (λ v. name_told (head_or x v)) g.1

name_comes : (before : List (List ℕ)) (n : List ℕ) (fit : Bool) (x : Laid) (xs ws zs : List Laid) → name n (x ∷ xs) ws → GivenLeft before fit (x ∷ zs) → ArrowLeft before n fit zs
name_comes before n fit x xs ws zs h t =
    let all = t.1 in
    let given = all.1.1 in
    let text = given.1 in
    let same : all.0 ≡ n = same_name all.0 n x zs text.0 xs ws text.1 h in
    let there : text.0 ≡ zs = ap tail_or (sym text.1.1) in (
      text.2.0,
      subst (λ v. Marked marks.Arrow v text.2.0) there text.2.1,
      (all.1.0, text.2.2, (t.0, subst (λ m. SomeMoreGiven fit (before ++ m ∷ []) all.1.0 t.0) same all.1.2, t.2)),
    )

pub name_leads : (before : List (List ℕ)) (n : List ℕ) (xs ws : List Laid) → IsNoneOf before n → name n xs ws → Leads (GivenLeft before) (ArrowLeft before n) xs ws
name_leads before n [] ws new h = absurd (let q : [] ≡ Plain (record { kind = kinds.Name n; place = h.0 }) ∷ ws = h.1 in cc)
name_leads before n (x ∷ xs) ws new h = record {
  text = x ∷ [];
  whole = ap (λ v. x ∷ v) (ap tail_or h.1);
  goes = λ fit zs u. (
    u.2.2.0,
    (n, (u.2.0, (new, (zs, (h.0, ap (λ v. head_or x v ∷ zs) h.1), (u.0, u.1, u.2.1))), u.2.2.1)),
    u.2.2.2,
  );
  comes = λ fit zs s t. name_comes before n fit x xs ws zs h t;
}

-- no name stands there that was not given
abbrev pub NoNewName : List (List ℕ) → List Laid → Type 0
NoNewName before xs = (n : List ℕ) (ws : List Laid) → IsNoneOf before n → name n xs ws → ⊥

no_new_name : (before : List (List ℕ)) (xs zs : List Laid) → NoNewName before xs → SameHead xs zs → (n : List ℕ) (ws : List Laid) → IsNoneOf before n → name n zs ws → ⊥
no_new_name before [] zs absent s n ws new h = absurd s
no_new_name before (x ∷ xs) [] absent s n ws new h = absurd s
no_new_name before (x ∷ xs) (z ∷ zs) absent s n ws new h = absent n xs new (h.0, ap (λ v. v ∷ xs) (s ∙ ap (head_or z) h.1))

-- a list that is longer than each of these names
abbrev pub fresh : List (List ℕ) → List ℕ
fresh [] = []
fresh (m ∷ ms) = 0 ∷ m ++ fresh ms

longer_new : (ms : List (List ℕ)) (n : List ℕ) → length (fresh ms) ≤ length n → IsNoneOf ms n
longer_new [] n h = tt
longer_new (m ∷ ms) n h =
    let l : length (m ++ fresh ms) ≡ length m + length (fresh ms) = length-append m (fresh ms) in
    ((λ q. let e : length n ≡ length m = ap length q in absurd (omega (arith, h, l, e))), longer_new ms n (omega (arith, h, l)))

pub fresh_new : (ms : List (List ℕ)) → IsNoneOf ms (fresh ms)
fresh_new ms = longer_new ms (fresh ms) (omega arith)

abbrev value_tokens : List Laid
value_tokens = plain (kinds.Name []) ∷ last_tokens

abbrev arrow_tokens : List Laid
arrow_tokens = plain (kinds.Symbol symbols.LeftArrow) ∷ value_tokens

fits_name : (fit : Bool) (at : Place) (n : List ℕ) → FitsIf fit (tree.Name at n)
fits_name true at n = tt
fits_name false at n = tt

pub some_more : (before : List (List ℕ)) (fit : Bool) → MoreLeft before fit last_tokens
some_more before fit = (last_tokens, (zero, refl), some_tail fit)

some_value : (before : List (List ℕ)) (fit : Bool) → Then Expression (MoreLeft before) fit value_tokens
some_value before fit = (last_tokens, (tree.Name (record { file = 0; line = 0; col = 0 }) [], refl, fits_name fit _ []), some_more before fit)

some_arrow : (before : List (List ℕ)) (n : List ℕ) (fit : Bool) → ArrowLeft before n fit arrow_tokens
some_arrow before n fit = (value_tokens, (has_mark marks.Arrow, refl), some_value (before ++ n ∷ []) fit)

pub arrow_begun : (before : List (List ℕ)) (n : List ℕ) (fit : Bool) → BegunBy (ArrowLeft before n) fit []
arrow_begun before n fit = (arrow_tokens, some_arrow before n fit)

pub given_begun : (before : List (List ℕ)) (fit : Bool) → BegunBy (GivenLeft before) fit []
given_begun before fit =
    let n = fresh before in
    let v = some_value (before ++ n ∷ []) fit in (
      plain (kinds.Name n) ∷ arrow_tokens,
      (v.2.0, (n, (v.0, (fresh_new before, (arrow_tokens, (record { file = 0; line = 0; col = 0 }, refl), (value_tokens, (has_mark marks.Arrow, refl), v.1))), v.2.1)), v.2.2),
    )

given_names : (before : List (List ℕ)) (zs : List Laid) → GivenLeft before false zs → (n : List ℕ) × (ws : List Laid) × IsNoneOf before n × name n zs ws
given_names before zs t = let given = t.1.1.1 in (t.1.0, given.1.0, given.0, given.1.1)

-- where no new name stands, that token is refused
pub name_refused : (before : List (List ℕ)) (D : Place → Type 0) (H : List Laid → Type 0) (xs : List Laid) (e : ParseFault) → H [] → NoNewName before xs → IsRefusedAt xs e → RefusedIn (GivenLeft before) D H xs e
name_refused before D H xs e held absent r =
    refused_first (GivenLeft before) D H xs e held (given_begun before) (λ zs s t. let k = given_names before zs t in no_new_name before xs zs absent s k.0 k.1 k.2 k.3) r

-- ---- behind an expression

comma_ends : (x : Laid) → mark_of x ≡ Some marks.Comma → EndsText x
comma_ends x e =
    let t = told marks.Comma x e in
    subst EndsText (sym (t.1 ∙ ap (λ k. Plain (record { kind = k; place = t.0.place })) t.2)) tt

more_ending_by : (before : List (List ℕ)) (k : ℕ) (fit : Bool) (zs ys : List Laid) → MoreGiven fit before k zs ys → Tail fit ys → TextEnds zs
more_ending_by before zero fit zs ys h t = subst TextEnds (sym h) (tail_ending fit ys t)
more_ending_by before (suc k) fit [] ys h t = absurd h.1
more_ending_by before (suc k) fit (z ∷ zs) ys h t = comma_ends z h.1.0

-- what stands behind an expression that is given ends it
pub more_ending : (before : List (List ℕ)) → Ending (MoreLeft before)
more_ending before fit zs t = more_ending_by before t.1.0 fit zs t.0 t.1.1 t.2

comma_comes : (before : List (List ℕ)) (k : ℕ) (fit : Bool) (x : Laid) (zs ys : List Laid) → mark_of x ≡ Some marks.Comma → MoreGiven fit before k (x ∷ zs) ys → Tail fit ys → GivenLeft before fit zs
comma_comes before zero fit x zs ys e h t = absurd (tail_avoids marks.Comma (λ b. b) fit (x ∷ zs) (subst (Tail fit) (sym h) t) e)
comma_comes before (suc k) fit x zs ys e h t =
    let given = h.2 in
    let rest = given.1 in
    (ys, (given.0, (rest.0, subst (λ v. Given fit before given.0 v rest.0) (sym h.1.1) rest.1, (k, rest.2))), t)

pub comma_leads : (before : List (List ℕ)) (xs ws : List Laid) → Marked marks.Comma xs ws → Leads (MoreLeft before) (GivenLeft before) xs ws
comma_leads before [] ws h = absurd h
comma_leads before (x ∷ xs) ws h = record {
  text = x ∷ [];
  whole = ap (λ v. x ∷ v) h.1;
  goes = λ fit zs u. (u.0, (suc u.1.1.2.0, (zs, (h.0, refl), (u.1.0, (u.1.1.0, u.1.1.1, u.1.1.2.1)))), u.2);
  comes = λ fit zs s t. comma_comes before t.1.0 fit x zs t.0 h.0 t.1.1 t.2;
}

no_comma_comes : (before : List (List ℕ)) (k : ℕ) (fit : Bool) (xs zs ys : List Laid) → Lacks marks.Comma xs → SameHead xs zs → MoreGiven fit before k zs ys → Tail fit ys → Tail fit zs
no_comma_comes before zero fit xs zs ys l s h t = subst (Tail fit) (sym h) t
no_comma_comes before (suc k) fit xs zs ys l s h t = absurd (no_token marks.Comma xs zs h.0 l s h.1)

pub no_comma : (before : List (List ℕ)) (xs : List Laid) → Lacks marks.Comma xs → Leads (MoreLeft before) Tail xs xs
no_comma before xs l = record {
  text = [];
  whole = refl;
  goes = λ fit zs t. (zs, (zero, refl), t);
  comes = λ fit zs s t. no_comma_comes before t.1.0 fit xs zs t.0 l s t.1.1 t.2;
}
