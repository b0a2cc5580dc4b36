use Rattle.std.proofs.Common.{◌≡◌, ◌≤◌, ℕ, ◌++◌, ◌∷◌, [], List, length, take, sym, ap, ◌∙◌, subst, arith}
use Rattle.std.proofs.lemmas.List.{take_all, length-map}
use Rattle.values_core.specs.Data.{Val}
use Rattle.values_core.specs.Functions.{keys_in, pairs_in}
use Rattle.values_json.proofs.PrintLemmas.{one_more, take_last, pairs_counted}
use Rattle.values_json.proofs.printing.keys_of.Goals as goal

pub loop-i-preserved : goal.loop-i-preserved
loop-i-preserved c =
    let keys = keys_in c.args.value.now in
    subst (λ (n : ℕ). c.push.new.self.items ≡ take n keys) (one_more c.loop-i.i)
    (c.in_ok-push.ensures.items ∙ ap (λ (ks : List Val). ks ++ c.in_ok-key.key ∷ []) c.loop-i.invariant ∙ sym (take_last keys c.loop-i.i c.in_ok-key.key c.in_ok-key.ensures))

pub key_at-requires : goal.key_at-requires
key_at-requires c = omega (arith, pairs_counted c.args.value.now c.requires)

pub returns : goal.returns
returns c =
    let f = c.args.value.now in
    let whole : length (keys_in f) ≤ c.loop-i.i = omega (arith, pairs_counted f c.requires, length-map (pairs_in f) (λ (p : Val × Val). p.0)) in
    c.loop-i.invariant ∙ take_all c.loop-i.i (keys_in f) whole
