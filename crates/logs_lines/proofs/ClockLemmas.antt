-- A clock is refused for one thing at most, and what is not refused may follow the clocks before.
use Rattle.std.proofs.Common.{◌≡◌, ◌⊎◌, ◌<◌, ◌≤◌, ◌<ℤ◌, ◌≤ℤ◌, ℕ, ℤ, pos, List, [], ◌∷◌, ◌++◌, Option, Some, None, inl, inr, refl, ap, sym, ◌∙◌, subst, arith, append_assoc, string_bytes}
use Rattle.std.specs.Prelude.{All}
use Rattle.std.specs.Int.Signed.{<ℤ-≤ℤ_trans, clash_ℤ, ≤ℤ_refl}
use Rattle.std.proofs.lemmas.Int.{by_lt_z}
use Rattle.std.proofs.lemmas.List.{append-nil}
use Rattle.std.proofs.lemmas.List.Elements.{All-head, All-tail}
use Rattle.serde_json.specs.View.{view, members_view}
use Rattle.serde_json.proofs.Views.{Entry}
use Rattle.logs_shapes.specs.Clocks.{ClockShape, of_nodes, one}
use Rattle.logs_shapes.specs.ClockSeen.{counts_in}
use Rattle.base_clocks.specs.Falls.{IsFirstFall}
use Rattle.base_clocks.specs.Stamps.{IsAtMost, number}
use Rattle.base_clocks.specs.declared.stamp.Stamp.{Stamp}
use Rattle.base_clocks.proofs.Numbers.{not_at_most}
use Rattle.logs_updates.specs.Clocks.{MayFollow}
use Rattle.logs_updates.specs.declared.clock.Clock.{Clock}
use Rattle.logs_updates.specs.declared.clock.Clock.TheVariants.{Number, Vector}
use Rattle.logs_lines.specs.Clocks.{FallsBack, IsNoLower, IsOtherForm, clock_or, form_after, stamp_of, stamps_of}
use Rattle.logs_lines.specs.declared.clocks.ClockForm.{ClockForm}
use Rattle.logs_lines.specs.declared.clocks.ClockForm.TheVariants as form
use Rattle.logs_lines.specs.declared.kind.LogKind.{LogKind}
use Rattle.logs_lines.specs.declared.kind.LogKind.TheVariants as kind

-- one stamp more
pub stamps_more : (e : Entry) (es rest : List Entry) (old new all : List Stamp) (name : List ℕ) → es ≡ e ∷ rest → name ≡ string_bytes e.0 → new ≡ old ++ stamp_of name (view e.1) ∷ []
    → old ++ stamps_of (counts_in (members_view es)) ≡ all → new ++ stamps_of (counts_in (members_view rest)) ≡ all
stamps_more e es rest old new all name i n w h =
    let tail = stamps_of (counts_in (members_view rest)) in
    ap (λ (s : List Stamp). s ++ tail) w ∙ append_assoc old (stamp_of name (view e.1) ∷ []) tail ∙ ap (λ (k : List ℕ). old ++ stamp_of k (view e.1) ∷ tail) n
    ∙ ap (λ (fs : List Entry). old ++ stamps_of (counts_in (members_view fs))) (sym i) ∙ h

-- none is left
pub stamps_end : (es : List Entry) (stamps all : List Stamp) → es ≡ [] → stamps ++ stamps_of (counts_in (members_view es)) ≡ all → stamps ≡ all
stamps_end es stamps all i h = sym (append-nil stamps) ∙ ap (λ (fs : List Entry). stamps ++ stamps_of (counts_in (members_view fs))) (sym i) ∙ h

abbrev Falls : List Stamp → Stamp → Type 0
Falls v s = number v s.node < s.number

abbrev Holds : List Stamp → Stamp → Type 0
Holds v s = s.number ≤ number v s.node

heads : (a b : Stamp) (xs ys : List Stamp) → a ∷ xs ≡ b ∷ ys → a ≡ b
heads a b xs ys e = cc

tails : (a b : Stamp) (xs ys : List Stamp) → a ∷ xs ≡ b ∷ ys → xs ≡ ys
tails a b xs ys e = cc

clash : (v : List Stamp) (a b : Stamp) → a ≡ b → Falls v a → Holds v b → ⊥
clash v a b e f h = let holds : a.number ≤ number v a.node = subst (Holds v) (sym e) h in omega (arith, f, holds)

-- of two that fall, each behind such as do not, there is one
one_fall : (v xs ys more others : List Stamp) (a b : Stamp) → xs ++ a ∷ more ≡ ys ++ b ∷ others → All (Holds v) xs → All (Holds v) ys → Falls v a → Falls v b → a ≡ b
one_fall v [] [] more others a b e p q f g = heads a b more others e
one_fall v [] (y ∷ ys) more others a b e p q f g = absurd (clash v a y (heads a y more (ys ++ b ∷ others) e) f (All-head (Holds v) y ys q))
one_fall v (x ∷ xs) [] more others a b e p q f g = absurd (clash v b x (sym (heads x b (xs ++ a ∷ more) others e)) g (All-head (Holds v) x xs p))
one_fall v (x ∷ xs) (y ∷ ys) more others a b e p q f g =
    one_fall v xs ys more others a b (tails x y (xs ++ a ∷ more) (ys ++ b ∷ others) e) (All-tail (Holds v) x xs p) (All-tail (Holds v) y ys q) f g

one_node : (u v : List Stamp) (m n : List ℕ) → IsFirstFall u v m → IsFirstFall u v n → m ≡ n
one_node u v m n a b =
    let first : Falls v a.at = subst (λ (k : List ℕ). number v k < a.at.number) a.is a.falls in
    let second : Falls v b.at = subst (λ (k : List ℕ). number v k < b.at.number) b.is b.falls in
    a.is ∙ ap (λ (s : Stamp). s.node) (one_fall v a.before b.before a.behind b.behind a.at b.at (sym a.parts ∙ b.parts) a.first b.first first second) ∙ sym b.is

pub one_why : (a b : Clock) (v w : LogKind) → FallsBack a b v → FallsBack a b w → v ≡ w
one_why (Number a) (Number b) v w x y = x.1 ∙ sym y.1
one_why (Vector s) (Vector t) v w x y = x.2 ∙ ap (λ (n : List ℕ). kind.VectorBack n (number s n) (number t n)) (one_node s t x.0 y.0 x.1 y.1) ∙ sym y.2
one_why (Number a) (Vector t) v w x y = absurd x
one_why (Vector s) (Number b) v w x y = absurd x

pub not_both : (a b : Clock) (why : LogKind) → FallsBack a b why → IsNoLower a b → ⊥
not_both (Number a) (Number b) why x h = clash_ℤ x.0 h
not_both (Vector s) (Vector t) why x h = not_at_most s t x.0 x.1 h
not_both (Number a) (Vector t) why x h = absurd x
not_both (Vector s) (Number b) why x h = absurd x

rises : (a b c : ℤ) → a ≤ℤ b → b ≤ℤ c → a ≤ℤ c
rises a b c p q = by_lt_z c a (λ l. clash_ℤ (<ℤ-≤ℤ_trans l p) q) (λ le. le)

most_of : (u v w : List Stamp) → IsAtMost u v → IsAtMost v w → IsAtMost u w
most_of u v w p q node = let a = p node in let b = q node in omega (arith, a, b)

most_itself : (u : List Stamp) → IsAtMost u u
most_itself u node = omega arith

pub follows_itself : (a : Clock) → MayFollow a a
follows_itself (Number n) = ≤ℤ_refl n
follows_itself (Vector u) = most_itself u

pub follows_on : (a b c : Clock) → MayFollow a b → MayFollow b c → MayFollow a c
follows_on (Number a) (Number b) (Number c) p q = rises a b c p q
follows_on (Number a) (Number b) (Vector w) p q = rises a b (pos 0) p q
follows_on (Number a) (Vector v) (Vector w) p q = p
follows_on (Number a) (Vector v) (Number c) p q = absurd q
follows_on (Vector u) (Vector v) (Vector w) p q = most_of u v w p q
follows_on (Vector u) (Vector v) (Number c) p q = absurd q
follows_on (Vector u) (Number b) c p q = absurd p

-- the clock before is of the form that was read: it is 0 where there was none yet
abbrev pub Agrees : ClockForm → Clock → Type 0
Agrees form.Free (Number a) = a ≤ℤ pos 0
Agrees form.Vector (Number a) = a ≤ℤ pos 0
Agrees form.Number (Number a) = Unit {0}
Agrees form.Vector (Vector v) = Unit {0}
Agrees form.Free (Vector v) = ⊥
Agrees form.Number (Vector v) = ⊥

pub agrees_at_first : (f : ClockForm) → Agrees f (Number (pos 0))
agrees_at_first form.Free = ≤ℤ_refl (pos 0)
agrees_at_first form.Number = tt
agrees_at_first form.Vector = ≤ℤ_refl (pos 0)

pub agrees_on : (f : ClockForm) (before : Clock) (o : Option ClockShape) → Agrees f before → Agrees (form_after f o) (clock_or before o)
agrees_on f before None h = h
agrees_on f before (Some (one n)) h = tt
agrees_on f before (Some (of_nodes ns)) h = tt

-- a clock of no other form that is not lower may follow
pub may_follow : (f : ClockForm) (before : Clock) (o : Option ClockShape) → Agrees f before → ¬ IsOtherForm f o → IsNoLower before (clock_or before o) → MayFollow before (clock_or before o)
may_follow f before None h n l = follows_itself before
may_follow f (Number a) (Some (one c)) h n l = l
may_follow form.Free (Vector u) (Some (one c)) h n l = absurd h
may_follow form.Number (Vector u) (Some (one c)) h n l = absurd h
may_follow form.Vector (Vector u) (Some (one c)) h n l = absurd (n tt)
may_follow form.Free (Number a) (Some (of_nodes ns)) h n l = h
may_follow form.Vector (Number a) (Some (of_nodes ns)) h n l = h
may_follow form.Number (Number a) (Some (of_nodes ns)) h n l = absurd (n tt)
may_follow f (Vector u) (Some (of_nodes ns)) h n l = l
