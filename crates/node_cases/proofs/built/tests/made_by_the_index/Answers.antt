-- `node_cases::built::tests::made_by_the_index` may call `make`: the index is as the manager left it. Assumes nothing.
use Rattle.std.proofs.Common.{rules}
use Rattle.nodes.proofs.Holding.{indexing_behind}
use Rattle.nodes.proofs.Starting.{helping_left}
use Rattle.node_cases.proofs.built.tests.made_by_the_index.Goals as goal

pub make-requires-clause-indexing : goal.make-requires-clause-indexing
make-requires-clause-indexing g c =
    indexing_behind _ _ (helping_left c.new-first.result (search rules) (search rules) (search rules) (search rules)).indexed 252 3 (search rules)
