-- The equals signs and the End behind the pieces.
use Rattle.std.proofs.Common.{◌≡◌, ◌∙◌, ◌+◌, ◌-◌, ◌<◌, ◌≤◌, arith, append_assoc, get_or, length, take, Option, Some, None, Result, Ok, Err, true, false, List, [], ◌∷◌, ◌++◌, refl, sym, ap, subst}
use Rattle.std.specs.Prelude.{IfOk, MatchOption}
use Rattle.std.proofs.Math.Seq.{take-length}
use Rattle.std.proofs.lemmas.List.{take_more}
use Rattle.reading_tokens.specs.declared.token.Kind.{Kind}
use Rattle.reading_tokens.specs.declared.token.Kind.TheVariants as kinds
use Rattle.reading_tokens.specs.declared.token.Token.{Token}
use Rattle.reading_tokens.specs.Tokens.{token_at}
use Rattle.reading_trees.specs.declared.module.Module.{Module}
use Rattle.reading_pieces.specs.Pieces.{has_module}
use Rattle.reading_wide_modules.specs.declared.unread.Unread.{Unread}
use Rattle.reading_wide_modules.specs.Alone.{ending}
use Rattle.reading_wide_modules.specs.Parts.{HasNoPieces, IsUnparted, are_ending}
use Rattle.reading_wide_modules.specs.Pieces.{InPieces, Parted}

pub record Same (body other : List Token) (x a y b : Token) : Type 0 where
  pub fronts : body ≡ other
  pub firsts : x ≡ a
  pub seconds : y ≡ b

pub last_two : (body other : List Token) (x y a b : Token) → body ++ x ∷ y ∷ [] ≡ other ++ a ∷ b ∷ [] → Same body other x a y b
last_two [] [] x y a b e = record { fronts = refl; firsts = cc; seconds = cc }
last_two (t ∷ body) (u ∷ other) x y a b e =
    let tail : body ++ x ∷ y ∷ [] ≡ other ++ a ∷ b ∷ [] = cc in
    let same = last_two body other x y a b tail in
    let fronts : body ≡ other = same.fronts in
    record { fronts = cc; firsts = same.firsts; seconds = same.seconds }
last_two [] (u ∷ []) x y a b e = absurd (cc)
last_two [] (u ∷ v ∷ []) x y a b e = absurd (cc)
last_two [] (u ∷ v ∷ w ∷ other) x y a b e = absurd (cc)
last_two (t ∷ []) [] x y a b e = absurd (cc)
last_two (t ∷ s ∷ []) [] x y a b e = absurd (cc)
last_two (t ∷ s ∷ r ∷ body) [] x y a b e = absurd (cc)

record AreEnding (equals end : Kind) : Type 0 where
  pub first : equals ≡ kinds.Equals
  pub second : end ≡ kinds.End

ending_kinds : (equals end : Kind) → are_ending equals end ≡ true → AreEnding equals end
ending_kinds kinds.Equals kinds.End e = record { first = refl; second = refl }
ending_kinds _ _ e = absurd (cc)

ending_is : (equals end : Token) → are_ending equals.kind end.kind ≡ true → equals ∷ end ∷ [] ≡ ending equals.place end.place
ending_is equals end e =
    let both = ending_kinds equals.kind end.kind e in
    ap (λ k. token_at k equals.place ∷ end ∷ []) both.first ∙ ap (λ k. token_at kinds.Equals equals.place ∷ token_at k end.place ∷ []) both.second

pub framed_parted : (tokens body : List Token) (equals end : Token) (m : Module) (unread : List Unread) → tokens ≡ body ++ equals ∷ end ∷ [] → has_module tokens ≡ false
    → are_ending equals.kind end.kind ≡ true → Parted body equals.place m unread → InPieces tokens m unread
framed_parted tokens body equals end m unread e s k p =
    record { body = body; equals = equals.place; end = end.place; whole = e ∙ ap (λ v. body ++ v) (ending_is equals end k); single = s; parted = p }

pub framed_unparted : (tokens body : List Token) (equals end : Token) → tokens ≡ body ++ equals ∷ end ∷ [] → IsUnparted body equals.place → HasNoPieces tokens
framed_unparted tokens body equals end e none m unread p =
    let same = last_two p.body body (token_at kinds.Equals p.equals) (token_at kinds.End p.end) equals end (sym p.whole ∙ e) in
    none m unread (subst (λ v. Parted v equals.place m unread) same.fronts (subst (λ v. Parted p.body v m unread) (ap (λ t. t.place) same.firsts) p.parted))

-- ---- what was answered of the body, of all tokens

either_parted : {A : Type 0} (module_of : A → Module) (unread_of : A → List Unread) (tokens body : List Token) (equals end : Token) (o : Option A) → tokens ≡ body ++ equals ∷ end ∷ []
    → has_module tokens ≡ false → are_ending equals.kind end.kind ≡ true → MatchOption o (IsUnparted body equals.place) (λ w. Parted body equals.place (module_of w) (unread_of w))
    → MatchOption o (HasNoPieces tokens) (λ w. InPieces tokens (module_of w) (unread_of w))
either_parted module_of unread_of tokens body equals end None e s k h = framed_unparted tokens body equals end e h
either_parted module_of unread_of tokens body equals end (Some w) e s k h = framed_parted tokens body equals end (module_of w) (unread_of w) e s k h

pub answer_parted : {A E : Type 0} (module_of : A → Module) (unread_of : A → List Unread) (tokens body : List Token) (equals end : Token) (r : Result (Option A) E)
    → tokens ≡ body ++ equals ∷ end ∷ [] → has_module tokens ≡ false → are_ending equals.kind end.kind ≡ true
    → IfOk r (λ o. MatchOption o (IsUnparted body equals.place) (λ w. Parted body equals.place (module_of w) (unread_of w)))
    → IfOk r (λ o. MatchOption o (HasNoPieces tokens) (λ w. InPieces tokens (module_of w) (unread_of w)))
answer_parted module_of unread_of tokens body equals end (Ok o) e s k h = either_parted module_of unread_of tokens body equals end o e s k h
answer_parted module_of unread_of tokens body equals end (Err x) e s k h = tt

-- the last two of tokens, and those before them
pub with_last : (tokens : List Token) (x y : Token) → 2 ≤ length tokens → x ≡ get_or tokens (length tokens - 2) x → y ≡ get_or tokens (length tokens - 1) y
    → tokens ≡ take (length tokens - 2) tokens ++ x ∷ y ∷ []
with_last tokens x y l p q =
    let n = length tokens - 2 in
    let first : n < length tokens = omega arith in
    let second : n + 1 < length tokens = omega arith in
    let place : length tokens - 1 ≡ n + 1 = omega arith in
    let all : n + 1 + 1 ≡ length tokens = omega arith in
    let y_is : y ≡ get_or tokens (n + 1) y = q ∙ ap (λ k. get_or tokens k y) place in
    let one : take (n + 1) tokens ≡ take n tokens ++ x ∷ [] = take_more tokens n x first ∙ ap (λ v. take n tokens ++ v ∷ []) (sym p) in
    let two : take (n + 1 + 1) tokens ≡ take (n + 1) tokens ++ y ∷ [] = take_more tokens (n + 1) y second ∙ ap (λ v. take (n + 1) tokens ++ v ∷ []) (sym y_is) in
    let whole : take (n + 1 + 1) tokens ≡ tokens = ap (λ k. take k tokens) all ∙ take-length tokens in
    sym whole ∙ two ∙ ap (λ v. v ++ y ∷ []) one ∙ append_assoc (take n tokens) (x ∷ []) (y ∷ [])
