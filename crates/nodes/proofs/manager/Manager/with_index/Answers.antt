-- `nodes::manager::Manager::with_index` meets its contract. Assumes nothing.
use Rattle.nodes.specs.internal.Packed.{packed_table}
use Rattle.nodes.proofs.Starting.{forgets_helps}
use Rattle.nodes.proofs.manager.Manager.with_index.Goals as goal

pub resume-requires-clause-helping : goal.resume-requires-clause-helping
resume-requires-clause-helping c =
    let a = c.args in
    forgets_helps (packed_table a.packed.now a.high.now a.used) a.work.now _ c.requires.indexing c.forget.ensures
