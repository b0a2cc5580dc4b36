-- The outcome of a text is the only one, and there is one.
use Rattle.std.proofs.Common.{◌≡◌, ℕ, Bool, true, false, List, [], ◌∷◌, ◌++◌, Option, Some, Ok, Err, refl, sym, ap, subst, ◌∙◌}
use Rattle.std.specs.Prelude.{if◌then◌else◌}
use Rattle.base_core.specs.declared.place.Place.{Place}
use Rattle.reading_tokens.specs.declared.token.Token.{Token}
use Rattle.reading_trees.specs.LexedEnds.{TokensEndOnce}
use Rattle.reading_tokens.specs.Tokens as lexer
use Rattle.reading_trees.specs.declared.config.Config.{Config}
use Rattle.reading_configuration.specs.declared.mark.Mark.{Mark}
use Rattle.reading_configuration.specs.declared.mark.Mark.TheVariants.{Name, End}
use Rattle.reading_configuration.specs.declared.expects.Expects.{Expects}
use Rattle.reading_configuration.specs.declared.expects.Expects.TheVariants as expects
use Rattle.reading_configuration.specs.declared.fault.ConfigKind.{ConfigKind}
use Rattle.reading_configuration.specs.declared.fault.ConfigKind.TheVariants.{Syntax, Unsupported, Twice, NoBehaviour}
use Rattle.reading_configuration.specs.Marks.{mark_of, marks_of}
use Rattle.reading_configuration.specs.Given.{nothing_given, after_all, has_behaviour}
use Rattle.reading_configuration.specs.Steps.{Next, step, reads, read_on}
use Rattle.reading_configuration.specs.Reads.{Outcome, Begins, BeginsNew, AreWhole, IsUnsupported, Why, Stops, Gives, OfTokens, OfLexed, OneConfiguration, SomeConfiguration}
use Rattle.reading_configuration.proofs.Walks.{Reached, walk, walk_on, walk_front, walk_one}
use Rattle.reading_configuration.proofs.Outcomes.{first, Cause, caused, at_error, ends, same_step, end_ok}
use Rattle.reading_configuration.proofs.Meets.{unsupported_step, new_walk, whole_walk, whole_from, begins_new, at_statement, not_begun, why, of_reads}

is_end : (m : Mark) → ends m ≡ true → m ≡ End
is_end End h = refl
is_end _ h = absurd cc

end_stops : (o : Bool) (e : Expects) (c : Config) → step o false e c End ≡ Err Syntax
end_stops o (expects.Statement f) c = refl
end_stops o _ c = refl

not_both : (n : Next) (p : Reached) → n ≡ Err Syntax → n ≡ Ok p → ⊥
not_both (Ok q) p h g = cc
not_both (Err k) p h g = cc

-- what is walked without an end is no End
full_step : (b o : Bool) (e : Expects) (c : Config) (m : Mark) (p : Reached) → ends m ≡ b → step o false e c m ≡ Ok p → step o true e c m ≡ Ok p
full_step false o e c m p h g = same_step o e c m h ∙ g
full_step true o e c m p h g =
    absurd (not_both (step o false e c m) p (ap (step o false e c) (is_end m h) ∙ end_stops o e c) g)

reads_on : (n l : Next) (at : Place) (us : List Token) (k : Expects → Config → Option Reached) (j : Expects → Config → Outcome) (f : Expects) (d : Config)
    → ((p : Reached) → n ≡ Ok p → l ≡ Ok p) → ((e : Expects) (c : Config) → k e c ≡ Some (f, d) → j e c ≡ reads f d us)
    → walk_on n k ≡ Some (f, d) → read_on l at j ≡ reads f d us
reads_on (Ok p) l at us k j f d g h i = ap (λ x. read_on x at j) (g p refl) ∙ h p.0 p.1 i
reads_on (Err e) l at us k j f d g h i = absurd cc

some_pair : (e f : Expects) (c d : Config) → ◌≡◌ {A = Option Reached} (Some (e, c)) (Some (f, d)) → ◌≡◌ {A = Reached} (e, c) (f, d)
some_pair e f c d h = cc

-- what is walked is read
reads_walk : (b us : List Token) (e f : Expects) (c d : Config) → walk true false e c (marks_of b) ≡ Some (f, d) → reads e c (b ++ us) ≡ reads f d us
reads_walk [] us e f c d h = ap (λ (p : Reached). reads p.0 p.1 us) (some_pair e f c d h)
reads_walk (t ∷ b) us e f c d h =
    reads_on (step true false e c (mark_of t)) (step true true e c (mark_of t)) t.place us
    (λ a z. walk true false a z (marks_of b)) (λ a z. reads a z (b ++ us)) f d
    (λ p. full_step (ends (mark_of t)) true e c (mark_of t) p refl) (λ a z. reads_walk b us a f z d) h

two_names : (m : Mark) (w v : List ℕ) (at by : Place) → m ≡ Name w at → m ≡ Name v by → w ≡ v
two_names m w v at by h g = let same : Name w at ≡ Name v by = sym h ∙ g in cc

name_not_end : (m : Mark) (w : List ℕ) (at : Place) → m ≡ Name w at → m ≡ End → ⊥
name_not_end m w at h g = let same : Name w at ≡ End = sym h ∙ g in cc

not_unsupported_ok : (n : Next) (w : List ℕ) (p : Reached) → n ≡ Err (Unsupported w) → n ≡ Ok p → ⊥
not_unsupported_ok (Ok q) w p h g = cc
not_unsupported_ok (Err k) w p h g = cc

true_false : (b : Bool) → b ≡ true → b ≡ false → ⊥
true_false true h g = cc
true_false false h g = cc

forget : (name : List ℕ) (ms : List Mark) → BeginsNew name ms → Begins ms
forget name ms b = record { statements = b.statements; behind = b.behind; writes = b.writes }

module _ (name : List ℕ) (before : List Mark) (e : Expects) (c : Config) (m : Mark) (reached : walk true false first (nothing_given name) before ≡ Some (e, c)) where
  refuses : (o q : Bool) (w : List ℕ) → IsUnsupported name before m w → step o q e c m ≡ Err (Unsupported w)
  refuses o q w u =
      let r = at_statement name before e c m reached u.whole in
      ap (λ x. step o q x c m) r.1.0 ∙ ap (step o q (expects.Statement r.0) c) u.is_name ∙ unsupported_step o q r.0 c w u.at u.is_keyword

  -- no two causes
  one_why : (k l : ConfigKind) → Why name before m k → Why name before m l → k ≡ l
  one_why Syntax Syntax h g = refl
  one_why Syntax (Unsupported w) h g = absurd (h.1 w g)
  one_why Syntax (Twice w) h g = absurd (h.0 g.0)
  one_why Syntax NoBehaviour h g = absurd (h.2 g.0 g.1.0)
  one_why (Unsupported w) Syntax h g = absurd (g.1 w h)
  one_why (Unsupported w) (Unsupported v) h g = ap Unsupported (two_names m w v h.at g.at h.is_name g.is_name)
  one_why (Unsupported w) (Twice v) h g = absurd (not_begun name before e c m reached (Unsupported w) (refuses false false w h) g.0)
  one_why (Unsupported w) NoBehaviour h g = absurd (name_not_end m w h.at h.is_name g.0)
  one_why (Twice w) Syntax h g = absurd (g.0 h.0)
  one_why (Twice w) (Unsupported v) h g = absurd (not_begun name before e c m reached (Unsupported v) (refuses false false v g) h.0)
  one_why (Twice w) (Twice v) h g = ap Twice (two_names m w v h.2.0 g.2.0 h.2.1 g.2.1)
  one_why (Twice w) NoBehaviour h g = absurd (name_not_end m w h.2.0 h.2.1 g.0)
  one_why NoBehaviour Syntax h g = absurd (g.2 h.0 h.1.0)
  one_why NoBehaviour (Unsupported v) h g = absurd (name_not_end m v g.at g.is_name h.0)
  one_why NoBehaviour (Twice v) h g = absurd (name_not_end m v g.2.0 g.2.1 h.0)
  one_why NoBehaviour NoBehaviour h g = refl

  -- a mark that is read on is refused for no cause
  end_cause : (k : ConfigKind) → m ≡ End → AreWhole name before → has_behaviour c ≡ true → Why name before m k → ⊥
  end_cause Syntax is whole b w = w.2 is whole
  end_cause (Unsupported v) is whole b w = name_not_end m v w.at w.is_name is
  end_cause (Twice v) is whole b w = name_not_end m v w.2.0 w.2.1 is
  end_cause NoBehaviour is whole b w =
      true_false (has_behaviour c) b (sym (ap has_behaviour (at_statement name before e c m reached w.1.0).1.1) ∙ w.1.1)

  ends_not : (p : Reached) (k : ConfigKind) → m ≡ End → step true true e c m ≡ Ok p → Why name before m k → ⊥
  ends_not p k is g w =
      let r = end_ok e c p (subst (λ x. step true true e c x ≡ Ok p) is g) in
      let whole : AreWhole name before = whole_from name before r.0 c (reached ∙ ap (λ x. Some (x, c)) r.1.0) in
      end_cause k is whole r.1.1.0 w

  go_cause : (p : Reached) (k : ConfigKind) → ends m ≡ false → step true true e c m ≡ Ok p → BeginsNew name (before ++ m ∷ []) → Why name before m k → ⊥
  go_cause p Syntax no_end g new w = w.0 (forget name (before ++ m ∷ []) new)
  go_cause p (Unsupported v) no_end g new w = not_unsupported_ok (step true true e c m) v p (refuses true true v w) g
  go_cause p (Twice v) no_end g new w = w.1 new
  go_cause p NoBehaviour no_end g new w = true_false (ends m) (ap ends w.0) no_end

  goes_not : (p : Reached) (k : ConfigKind) → ends m ≡ false → step true true e c m ≡ Ok p → Why name before m k → ⊥
  goes_not p k no_end g w =
      let new : BeginsNew name (before ++ m ∷ []) = begins_new name (before ++ m ∷ []) p.0 p.1 (walk_one true false first e (nothing_given name) c before m p reached (sym (same_step true e c m no_end) ∙ g)) in
      go_cause p k no_end g new w

  goes_on : (b : Bool) (p : Reached) (k : ConfigKind) → ends m ≡ b → step true true e c m ≡ Ok p → Why name before m k → ⊥
  goes_on false p k h g w = goes_not p k h g w
  goes_on true p k h g w = ends_not p k (is_end m h) g w

  stops_by : (n : Next) (k : ConfigKind) → step true true e c m ≡ n → Why name before m k → n ≡ Err k
  stops_by (Ok p) k h w = absurd (goes_on (ends m) p k refl h w)
  stops_by (Err l) k h w =
      let cause : Cause e c m l = at_error (step true true e c m) l (Cause e c m) h (caused e c m) in
      ap (λ x. Err x) (one_why l k (why name before e c m reached l h cause) w)

module _ (name : List ℕ) where
  stops_read : (ts : List Token) (k : ConfigKind) (at : Place) → Stops name ts k at → Err (k, at) ≡ reads first (nothing_given name) ts
  stops_read ts k at s =
      let new = new_walk name (marks_of s.before) s.begins true false in
      let front = walk_front true false first (nothing_given name) (marks_of s.before) s.begins.behind new.0 new.1 in
      let e = front.0.0 in
      let c = front.0.1 in
      let m = mark_of s.token in
      let refused : step true true e c m ≡ Err k = stops_by name (marks_of s.before) e c m front.1 (step true true e c m) k refl s.why in
      sym (ap (reads first (nothing_given name)) s.whole ∙ reads_walk s.before (s.token ∷ s.behind) first e (nothing_given name) c front.1
      ∙ ap (λ n. read_on n s.token.place (λ f d. reads f d s.behind)) refused ∙ ap (λ p. Err (k, p)) (sym s.here))

  ended : (b : Bool) (d : Config) → b ≡ true → ◌≡◌ {A = Next} (if b then Ok (first, d) else Err NoBehaviour) (Ok (first, d))
  ended true d h = refl
  ended false d h = absurd cc

  gives_read : (ts : List Token) (d : Config) → Gives name ts d → Ok d ≡ reads first (nothing_given name) ts
  gives_read ts d g =
      let whole : AreWhole name (marks_of g.before) = record { statements = g.statements; writes = g.writes; new = g.new } in
      let r = whole_walk name (marks_of g.before) whole true false in
      let given = after_all (nothing_given name) g.statements in
      let goes : step true true (expects.Statement r.0) given (mark_of g.last) ≡ Ok (first, given) =
      ap (step true true (expects.Statement r.0) given) g.is_end ∙ ended (has_behaviour given) given (ap has_behaviour (sym g.gives) ∙ g.behaviour) in
      ap (λ x. Ok x) g.gives
      ∙ sym (ap (reads first (nothing_given name)) g.whole ∙ reads_walk g.before (g.last ∷ []) first (expects.Statement r.0) (nothing_given name) given r.1
      ∙ ap (λ n. read_on n g.last.place (λ f d. reads f d [])) goes)

  of_tokens : (ts : List Token) (o : Outcome) → OfTokens name ts o → o ≡ reads first (nothing_given name) ts
  of_tokens ts (Ok d) h = gives_read ts d h
  of_tokens ts (Err f) h = stops_read ts f.0 f.1 h

  pub one_of_tokens : (ts : List Token) (a b : Outcome) → OfTokens name ts a → OfTokens name ts b → a ≡ b
  one_of_tokens ts a b h g = of_tokens ts a h ∙ sym (of_tokens ts b g)

  of_lexed : (l : lexer.Outcome) (a b : Outcome) → OfLexed name l a → OfLexed name l b → a ≡ b
  of_lexed (Ok ts) a b h g = one_of_tokens ts a b h g
  of_lexed (Err f) a b h g = h ∙ sym g

  some_lexed : (file : ℕ) (text : List ℕ) (l : lexer.Outcome) → lexer.Tokens false file text l → TokensEndOnce → (o : Outcome) × OfLexed name l o
  some_lexed file text (Ok ts) h law = (_, of_reads name ts (law false file text ts h))
  some_lexed file text (Err f) h law = (_, refl)

pub one_configuration : lexer.OneOutcome → OneConfiguration
one_configuration law file name text a b h g =
    of_lexed name h.lexed a b h.of_lexed (subst (λ l. OfLexed name l b) (sym (law false file text h.lexed g.lexed h.tokens g.tokens)) g.of_lexed)

pub some_configuration : lexer.SomeOutcome → TokensEndOnce → SomeConfiguration
some_configuration law ends_once file name text =
    let l = law false file text in
    let o = some_lexed name file text l.0 l.1 ends_once in
    (o.0, record { lexed = l.0; tokens = l.1; of_lexed = o.1 })
