-- Lines that stand at one place in logs whose lines are related one by one.
use Rattle.std.proofs.Common.{◌≡◌, inl, inr, ℕ, zero, suc, List, [], ◌∷◌, Option, Some, None, ap, sym, ◌∙◌, subst, refl}
use Rattle.std.specs.List.{AllZip, slice_get}
use Rattle.base_core.specs.declared.place.LineAt.{LineAt}
use Rattle.base_clock_order.specs.declared.order.LineRef.{LineRef}
use Rattle.logs_updates.specs.declared.line.Line.{Line}
use Rattle.steps_lines_defs.specs.Logs.{place_of_line}
use Rattle.base_cuts.specs.Cuts.{Cut}
use Rattle.base_cuts.specs.Orders.{IsReadyAt, Order}
use Rattle.logs_tied.specs.Lines.{StandsIn}
use Rattle.logs_tied.specs.Named.{IsChosen, IsNamed}
use Rattle.logs_tied.proofs.Zips.{zip_at}
use Rattle.steps_tied.specs.Tied.{IsFirstReady, TakesLine, line_at, line_in}

pub zip_turned : {A B : Type 0} (R : A → B → Type 0) (Q : B → A → Type 0) → ((x : A) (y : B) → R x y → Q y x) → (xs : List A) (ys : List B) → AllZip R xs ys → AllZip Q ys xs
zip_turned R Q turn [] [] z = tt
zip_turned R Q turn [] (y ∷ ys) z = absurd z
zip_turned R Q turn (x ∷ xs) [] z = absurd z
zip_turned R Q turn (x ∷ xs) (y ∷ ys) z = (turn x y z.0, zip_turned R Q turn xs ys z.1)

module _ (R : Line → Line → Type 0) (places : (l k : Line) → R l k → l.at ≡ k.at) where
  -- where the line of that number stands
  same_in : (xs ys : List Line) (i : ℕ) → AllZip R xs ys → place_of_line (slice_get xs i) ≡ place_of_line (slice_get ys i)
  same_in [] [] i z = refl
  same_in [] (y ∷ ys) i z = absurd z
  same_in (x ∷ xs) [] i z = absurd z
  same_in (x ∷ xs) (y ∷ ys) zero z = places x y z.0
  same_in (x ∷ xs) (y ∷ ys) (suc i) z = same_in xs ys i z.1

  same_of : (files others : List (List Line)) (f i : ℕ) → AllZip (AllZip R) files others → place_of_line (line_in (slice_get files f) i) ≡ place_of_line (line_in (slice_get others f) i)
  same_of [] [] f i z = refl
  same_of [] (y ∷ ys) f i z = absurd z
  same_of (x ∷ xs) [] f i z = absurd z
  same_of (x ∷ xs) (y ∷ ys) zero i z = same_in x y i z.0
  same_of (x ∷ xs) (y ∷ ys) (suc f) i z = same_of xs ys f i z.1

  module _ (files others : List (List Line)) (z : AllZip (AllZip R) files others) where
    pub same_place : (l : LineRef) → place_of_line (line_at files l) ≡ place_of_line (line_at others l)
    same_place l = same_of files others l.file l.index z

    -- the line that stands there in the other logs
    pub stands_there : (l : LineRef) (line : Line) → StandsIn files l line → (other : Line) × StandsIn others l other × R line other
    stands_there l line s =
        let log = zip_at (AllZip R) files others l.file s.0 z s.1 in
        let x = zip_at R s.0 log.0 l.index line log.2 s.2 in
        (x.0, (log.0, log.1, x.1), x.2)

    pub lines_there : (order : List LineRef) (lines : List Line) → AllZip (StandsIn files) order lines → (found : List Line) × AllZip (StandsIn others) order found × AllZip R lines found
    lines_there [] [] h = ([], tt, tt)
    lines_there [] (y ∷ ys) h = absurd h
    lines_there (x ∷ xs) [] h = absurd h
    lines_there (x ∷ xs) (y ∷ ys) h =
        let first = stands_there x y h.0 in
        let rest = lines_there xs ys h.1 in
        (first.0 ∷ rest.0, (first.1, rest.1), (first.2, rest.2))

    pub named_there : (at : Option LineAt) (l : LineRef) → IsNamed files at l → IsNamed others at l
    named_there at l n = let x = stands_there l n.0 n.1 in (x.0, x.1, n.2 ∙ ap Some (places n.0 x.0 x.2))

    module _ (o q : Order) (same : o ≡ q) where
      ready : (c : Cut) (l : LineRef) → IsReadyAt o c l → IsReadyAt q c l
      ready c l r = subst (λ (p : Order). IsReadyAt p c l) same r

      ready_back : (c : Cut) (l : LineRef) → IsReadyAt q c l → IsReadyAt o c l
      ready_back c l r = subst (λ (p : Order). IsReadyAt p c l) (sym same) r

      pub takes_there : (c d : Cut) (P Q : Line → Type 0) → ((l k : Line) → R l k → P l → Q k) → TakesLine files o c d P → TakesLine others q c d Q
      takes_there c d P Q through h =
          let x = stands_there h.place h.line h.stands in
          record { place = h.place; ready = ready c h.place h.ready; further = h.further; line = x.0; stands = x.1; holds = through h.line x.0 x.2 h.holds }

      pub first_there : (c : Cut) (at : LineAt) → IsFirstReady files o c at → IsFirstReady others q c at
      first_there c at h =
          let x = stands_there h.place h.line h.stands in
          record {
            place = h.place;
            ready = ready c h.place h.ready;
            first = λ other r. h.first other (ready_back c other r);
            line = x.0;
            stands = x.1;
            is = h.is ∙ places h.line x.0 x.2;
          }

      pub chosen_there : ((at : Option LineAt) (l : LineRef) → IsNamed others at l → IsNamed files at l) → (c : Cut) (at : Option LineAt) (l : LineRef) → IsChosen files o c at l
          → IsChosen others q c at l
      chosen_there back c at l (r, inl n) = (ready c l r, inl (named_there at l n))
      chosen_there back c at l (r, inr h) = (ready c l r, inr (λ m s n. h.0 m (ready_back c m s) (back at m n), λ m s. h.1 m (ready_back c m s)))
