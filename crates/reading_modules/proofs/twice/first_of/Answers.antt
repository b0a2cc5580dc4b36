-- proofs/twice/first_of/Answers.antt
use Rattle.std.proofs.Common.{◌≡◌, sym, ◌∙◌, arith, subst, List, ℕ, length, ◌<◌, take}
use Rattle.std.specs.Prelude.{Some, None}
use Rattle.std.specs.Str.{bytes_eq}
use Rattle.std.specs.HashMap.{Updates}
use Rattle.reading_modules.specs.Twice.{stands, IsTwice}
use Rattle.reading_modules.proofs.Declares.{known_on, twice_at}
use Rattle.reading_modules.proofs.twice.first_of.Goals as goal

pub returns-in-Some : goal.returns-in-Some
returns-in-Some c =
    let i = c.loop-declared.declared-index in
    let d = c.declared-item.result in
    let below : i < length c.args.names.now = omega arith in
    let is : stands c.args.standard.now (take i c.args.names.now) d.name ≡ Some c.in-Some.earlier =
    sym (c.stands.ensures (take i c.args.names.now) c.loop-declared.invariant.knows) ∙ c.in-Some.is in
    subst (λ (n : List ℕ). IsTwice c.args.standard.now c.args.names.now n d.at c.in-Some.earlier) (sym c.in_ok-name.ensures)
    (twice_at c.args.standard.now c.args.names.now i d c.in-Some.earlier below c.declared-item.is c.loop-declared.invariant.new_so_far is)

pub loop-declared-preserved : goal.loop-declared-preserved
loop-declared-preserved c =
    let i = c.loop-declared.declared-index in
    let d = c.declared-item.result in
    let known = c.loop-declared.known in
    let below : i < length c.args.names.now = omega arith in
    let none : stands c.args.standard.now (take i c.args.names.now) d.name ≡ None =
    sym (c.stands.ensures (take i c.args.names.now) c.loop-declared.invariant.knows) ∙ c.in_default.is in
    let put : Updates bytes_eq known c.insert.new.self d.name (Some d.at) =
    subst (λ (n : List ℕ). Updates bytes_eq known c.insert.new.self n (Some d.at)) c.in_ok-copy.ensures c.in_ok-insert.ensures.updates in
    let both = known_on c.args.standard.now known c.insert.new.self c.args.names.now i d below c.declared-item.is c.loop-declared.invariant.knows
    c.loop-declared.invariant.new_so_far none put in
    record { knows = both.0; new_so_far = both.1 }
