-- The line of a state: the text of an object whose members say how the state was reached, and its values.
use Rattle.std.proofs.Common.{◌≡◌, ℕ, ◌^◌, ◌<◌, ◌≤◌, List, ◌∷◌, ◌++◌, Bool, true, Option, Some, None, Ok, refl, sym, ap, ◌∙◌, arith, append_assoc, codes, decimal, nat_lt, if◌then◌else◌}
use Rattle.std.proofs.lemmas.Bool.Decides.{nat_tests}
use Rattle.json.specs.Print.{escape_byte}
use Rattle.json.proofs.Printed.Utf8.{IsUtf8-are_ascii}
use Rattle.serde_json.specs.Data.{object, members_depth, depth}
use Rattle.serde_json.specs.Written.{compact_text}
use Rattle.states_core.specs.States.{Values}
use Rattle.states_core.specs.declared.state.Mark.{Mark}
use Rattle.states_core.specs.declared.state.Mark.TheVariants as mark
use Rattle.states_files.specs.Fields.{below_2_32, fields_of, or_key, or_other, or_told}
use Rattle.run_texts.specs.States.{before_text, behind_text, state_text, in_order}
use Rattle.twice_printed.specs.StateFiles.{IsMark}
use Rattle.twice_printed.proofs.CleanData.{IsClean, HaveClean}
use Rattle.twice_printed.proofs.ShownData.{AreGiven, line_data, state_data, state_written}

-- the file and the line are read as they were printed
in_range : (n : ℕ) → n < 2 ^ 32 → below_2_32 n ≡ Some n
in_range n h = let test : nat_lt n (2 ^ 32) ≡ true = grind (arith, nat_tests, h) in ap (λ (b : Bool). if b then Some n else None) test

pub fields_back : (names : List (List ℕ)) (m : Mark) (s : Values) → IsMark m → fields_of (line_data names m s) ≡ Ok (record { mark = m; state = state_data names s })
fields_back names mark.Init s h = refl
fields_back names mark.Silent s h = refl
fields_back names (mark.Line at) s h =
    ap (λ (o : Option ℕ). or_told (or_key (codes "file") o (λ file. or_key (codes "line") (below_2_32 at.line) (λ line. Ok (mark.Line (record { file = file; line = line })))))
    (λ (m : Mark). or_other None (Ok (record { mark = m; state = state_data names s })))) (in_range at.file h.0)
    ∙ ap (λ (o : Option ℕ). or_told (or_key (codes "line") o (λ line. Ok (mark.Line (record { file = at.file; line = line }))))
    (λ (m : Mark). or_other None (Ok (record { mark = m; state = state_data names s })))) (in_range at.line h.1)

pub line_low : (names : List (List ℕ)) (m : Mark) (s : Values) → members_depth (state_data names s) ≤ 97 → depth (object (line_data names m s)) ≤ 127
line_low names mark.Init s h = omega (arith, h)
line_low names mark.Silent s h = omega (arith, h)
line_low names (mark.Line at) s h = omega (arith, h)

pub line_clean : (names : List (List ℕ)) (m : Mark) (s : Values) → IsMark m → HaveClean (state_data names s) → IsClean (object (line_data names m s))
line_clean names mark.Init s k h = (IsUtf8-are_ascii (codes "state") refl, h, (refl, tt), (IsUtf8-are_ascii (codes "step") refl, IsUtf8-are_ascii (codes "init") refl, tt, tt))
line_clean names mark.Silent s k h = (IsUtf8-are_ascii (codes "state") refl, h, (refl, tt), (IsUtf8-are_ascii (codes "step") refl, IsUtf8-are_ascii (codes "silent") refl, tt, tt))
line_clean names (mark.Line at) s k h =
    let file : at.file < 2 ^ 63 = let low = k.0 in omega (arith, low) in
    let line : at.line < 2 ^ 63 = let low = k.1 in omega (arith, low) in (
      IsUtf8-are_ascii (codes "file") refl,
      file,
      (refl, (refl, (refl, tt))),
      (
        IsUtf8-are_ascii (codes "line") refl,
        line,
        (refl, (refl, tt)),
        (IsUtf8-are_ascii (codes "state") refl, h, (refl, tt), (IsUtf8-are_ascii (codes "step") refl, IsUtf8-are_ascii (codes "line") refl, tt, tt)),
      ),
    )

-- what ends a line is behind the text of its state
ended : (x a b rest : List ℕ) → b ++ rest ≡ a ++ 10 ∷ rest → (x ++ b) ++ rest ≡ (x ++ a) ++ 10 ∷ rest
ended x a b rest e = append_assoc x b rest ∙ ap (λ (t : List ℕ). x ++ t) e ∙ sym (append_assoc x a (10 ∷ rest))

placed : (d e x a b rest : List ℕ) → b ++ rest ≡ a ++ 10 ∷ rest
    → ((((((codes "{\"file\":" ++ d) ++ codes ",\"line\":") ++ e) ++ codes ",\"state\":") ++ x) ++ b) ++ rest
    ≡ (codes "{\"file\":" ++ (d ++ (codes ",\"line\":" ++ (e ++ (codes ",\"state\":" ++ (x ++ a)))))) ++ 10 ∷ rest
placed d e x a b rest same =
    let p : List ℕ = codes "{\"file\":" in
    let q : List ℕ = codes ",\"line\":" in
    let r : List ℕ = codes ",\"state\":" in
    regroup p d q e r x b rest ∙ ap (λ (t : List ℕ). p ++ (d ++ (q ++ (e ++ (r ++ (x ++ t)))))) same ∙ sym (regroup_whole p d q e r x a (10 ∷ rest))
  where
    regroup : (p d q e r x b rest : List ℕ) → ((((((p ++ d) ++ q) ++ e) ++ r) ++ x) ++ b) ++ rest ≡ p ++ (d ++ (q ++ (e ++ (r ++ (x ++ (b ++ rest))))))
    regroup p d q e r x b rest = simp append_assoc

    regroup_whole : (p d q e r x a rest : List ℕ) → (p ++ (d ++ (q ++ (e ++ (r ++ (x ++ a)))))) ++ rest ≡ p ++ (d ++ (q ++ (e ++ (r ++ (x ++ (a ++ rest))))))
    regroup_whole p d q e r x a rest = simp append_assoc

shown_line : (names : List (List ℕ)) (m : Mark) (s : Values) (rest : List ℕ)
    → ((before_text m ++ compact_text (object (state_data names s))) ++ behind_text m) ++ rest ≡ compact_text (object (line_data names m s)) ++ 10 ∷ rest
unfolding escape_byte
shown_line names mark.Init s rest =
    ap (λ (t : List ℕ). codes "{\"state\":" ++ t) (ended (compact_text (object (state_data names s))) (codes ",\"step\":\"init\"}") (codes ",\"step\":\"init\"}\n") rest refl)
shown_line names mark.Silent s rest =
    ap (λ (t : List ℕ). codes "{\"state\":" ++ t) (ended (compact_text (object (state_data names s))) (codes ",\"step\":\"silent\"}") (codes ",\"step\":\"silent\"}\n") rest refl)
shown_line names (mark.Line at) s rest =
    placed (decimal at.file) (decimal at.line) (compact_text (object (state_data names s))) (codes ",\"step\":\"line\"}") (codes ",\"step\":\"line\"}\n") rest refl

-- a state's line is the text of its object, and a line feed
pub line_written : (names : List (List ℕ)) (m : Mark) (s : Values) (rest : List ℕ) → AreGiven s (in_order names)
    → ((before_text m ++ state_text names s) ++ behind_text m) ++ rest ≡ compact_text (object (line_data names m s)) ++ 10 ∷ rest
line_written names m s rest g = ap (λ (t : List ℕ). ((before_text m ++ t) ++ behind_text m) ++ rest) (state_written names s g) ∙ shown_line names m s rest
