-- Texts of lines that are no states, and names and places without a line feed in them.
use Rattle.std.proofs.Common.{◌≡◌, ◌≢◌, ◌∙◌, ap, refl, ℕ, zero, suc, List, [], ◌∷◌, ◌++◌, All, append_assoc, codes, decimal, false, true}
use Rattle.std.specs.Prelude.{◌==◌}
use Rattle.std.specs.List.{AllByRecursion}
use Rattle.std.proofs.lemmas.List.Elements.{All-append, All-cons, All-from_recursion, All-head, All-nil, All-tail}
use Rattle.base_core.specs.declared.place.LineAt.{LineAt}
use Rattle.base_core.specs.declared.place.Place.{Place}
use Rattle.run_texts.specs.Answers.{log_name}
use Rattle.run_texts.specs.Logs.{line_text}
use Rattle.run_texts.specs.Places.{at_place, name_at, place_text}
use Rattle.twice_printed.specs.StateFiles.{IsAside, IsOneLine, asides_text}
use Rattle.twice_printed.proofs.Feedless.{NoFeed, feedless-append, feedless-decimal, feedless-tested}
use Rattle.twice_printed.proofs.ReportSays.{one_line}

-- ---- lines without a line feed in them

no_feed_byte : (b : ℕ) → (b == 10) ≡ false → b ≢ 10
no_feed_byte b e is = let same : (b == 10) ≡ true = rw is refl in cc

pub feedless_is_one_line : (text : List ℕ) → NoFeed text → IsOneLine text
feedless_is_one_line text h = All-from_recursion (λ b. b ≢ 10) text (each text h)
  where
    each : (bs : List ℕ) → NoFeed bs → AllByRecursion (λ b. b ≢ 10) bs
    each [] h = tt
    each (b ∷ bs) h = (no_feed_byte b h.0, each bs h.1)

-- a name among some, or none
pub name_feedless : (names : List (List ℕ)) (i : ℕ) → All IsOneLine names → NoFeed (name_at names i)
name_feedless [] i h = tt
name_feedless (n ∷ ns) zero h = one_line n (All-head IsOneLine n ns h)
name_feedless (n ∷ ns) (suc i) h = name_feedless ns i (All-tail IsOneLine n ns h)

pub log_feedless : (logs : List (List ℕ)) (file : ℕ) → All IsOneLine logs → NoFeed (log_name logs file)
log_feedless logs zero h = tt
log_feedless logs (suc n) h = name_feedless logs n h

-- where a line stands
pub line_feedless : (logs : List (List ℕ)) (at : LineAt) → All IsOneLine logs → NoFeed (line_text (log_name logs at.file) at.line)
line_feedless logs at h =
    feedless-append (log_name logs at.file ++ codes ":") (decimal at.line)
    (feedless-append (log_name logs at.file) (codes ":") (log_feedless logs at.file h) (feedless-tested (codes ":") refl)) (feedless-decimal at.line)

-- where a part stands
pub at_feedless : (files : List (List ℕ)) (at : Place) → All IsOneLine files → NoFeed (at_place files at)
at_feedless files at h =
    let colon = feedless-tested (codes ":") refl in
    let name = feedless-append (name_at files at.file) (codes ":") (name_feedless files at.file h) colon in
    let line = feedless-append (name_at files at.file ++ codes ":") (decimal at.line) name (feedless-decimal at.line) in
    let col = feedless-append (name_at files at.file ++ codes ":" ++ decimal at.line) (codes ":") line colon in
    feedless-append (codes " at ") (place_text files at) (feedless-tested (codes " at ") refl)
    (feedless-append (name_at files at.file ++ codes ":" ++ decimal at.line ++ codes ":") (decimal at.col) col (feedless-decimal at.col))

-- ---- lines that are no states

-- a text is some lines that are no states
pub record AreAsides (text : List ℕ) : Type 0 where
  pub lines : List (List ℕ)
  pub aside : All IsAside lines
  pub is : text ≡ asides_text lines

pub none_aside : AreAsides []
none_aside = record { lines = []; aside = All-nil IsAside; is = refl }

-- a line more before them
pub line_aside : (line rest : List ℕ) → NoFeed line → IsAside line → AreAsides rest → AreAsides ((line ++ codes "\n") ++ rest)
line_aside line rest h one more = record {
  lines = line ∷ more.lines;
  aside = All-cons IsAside line more.lines one more.aside;
  is = append_assoc line (codes "\n") rest ∙ ap (λ (t : List ℕ). line ++ 10 ∷ t) more.is;
}

asides_append : (xs ys : List (List ℕ)) → asides_text xs ++ asides_text ys ≡ asides_text (xs ++ ys)
asides_append [] ys = refl
asides_append (x ∷ xs) ys = append_assoc x (10 ∷ asides_text xs) (asides_text ys) ∙ ap (λ (t : List ℕ). x ++ 10 ∷ t) (asides_append xs ys)

-- and others behind them
pub both_aside : (t u : List ℕ) → AreAsides t → AreAsides u → AreAsides (t ++ u)
both_aside t u first others = record {
  lines = first.lines ++ others.lines;
  aside = All-append IsAside first.lines others.lines first.aside others.aside;
  is = ap (λ (x : List ℕ). x ++ u) first.is ∙ ap (λ (x : List ℕ). asides_text first.lines ++ x) others.is ∙ asides_append first.lines others.lines;
}
