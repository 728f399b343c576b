use Rattle.std.proofs.Common.{rules, tests}
use mathlib.Core.Path.{ap, ◌∙◌}
use Rattle.text.specs.Read.Stored.{stored}
use Rattle.text.specs.Name.{word_name}
use Rattle.text.proofs.Fields.{count-none, count-some}
use Rattle.text.proofs.Texts.{read-no-word, read_left, read_all}
use Rattle.text.proofs.read.read_text.Goals as goal

pub returns-in_err-word : goal.returns-in_err-word
unfolding word_name
returns-in_err-word c =
    ap (λ r. stored r c.args.addrs.now c.args.nodes.now) c.from_residual.ensures ∙ read-no-word _ _ _ (count-none c.pair_line.result _ c.pair_line.ensures c.in_err-word.was)

pub returns-then-not-is_empty : goal.returns-then-not-is_empty
unfolding word_name
returns-then-not-is_empty c =
    read_left _ _ _ _ _ (count-some c.pair_line.result _ _ _ c.pair_line.ensures c.in_ok-word.was) _ _ _ _ _ _ c.read_addrs-listed.ensures c.read_nodes-count.ensures (search (rules, tests))

pub returns : goal.returns
unfolding word_name
returns c =
    read_all _ _ _ _ _ (count-some c.pair_line.result _ _ _ c.pair_line.ensures c.in_ok-word.was) _ _ _ _ _ _ c.read_addrs-listed.ensures c.read_nodes-count.ensures (search (rules, tests))
