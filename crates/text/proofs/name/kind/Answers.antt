use mathlib.Core.Path.{refl, ap, ◌∙◌}
use mathlib.Core.List.{map}
use lib.ListN.{length}
use Rattle.std.proofs.Common.{rules, tests}
use Rattle.std.specs.Str.{bytes_eq}
use Rattle.std.proofs.lemmas.Iterator.{YieldsList-from_slice}
use Rattle.std.proofs.lemmas.Iterator.Search.{position_from_yields_List}
use Rattle.text.specs.Name.{kind_names}
use Rattle.text.proofs.Names.{kind-none, kind-some}
use Rattle.text.proofs.name.kind.Goals as goal

pub returns-in_err-place : goal.returns-in_err-place
unfolding kind_names
returns-in_err-place c =
    c.from_residual.ensures
    ∙ kind-none c.iter.result.rest.now (ap (map (λ k. k.now)) c.iter.ensures.rest) (ap length c.iter.ensures.rest) c.args.name.now c.args.name c.position.result
    (position_from_yields_List (λ k. bytes_eq k.now c.args.name.now) _ _ c.position.result c.position.ensures.ran (YieldsList-from_slice c.iter.result.rest.now refl)
    (λ x b q k. search (rules, tests)))
    c.in_err-place.was

pub returns : goal.returns
unfolding kind_names
returns c =
    kind-some c.iter.result.rest.now (ap (map (λ k. k.now)) c.iter.ensures.rest) (ap length c.iter.ensures.rest) c.args.name.now c.args.name c.position.result c.in_ok-place.place
    (position_from_yields_List (λ k. bytes_eq k.now c.args.name.now) _ _ c.position.result c.position.ensures.ran (YieldsList-from_slice c.iter.result.rest.now refl)
    (λ x b q k. search (rules, tests)))
    c.in_ok-place.was
