use Rattle.std.proofs.Common.{length}
use Rattle.pe_cnf.proofs.LeafLemmas.{leaves_within}
use Rattle.pe_solver.proofs.questions.question.Goals as goal

pub returns-clause-made : goal.returns-clause-made
returns-clause-made c = record {
  nodes = c.args.job.now.graph;
  goal = c.args.goal;
  width = length c.args.job.now.leaves;
  cited = c.args.cited.now;
  graph = c.graph_law.ensures;
  has_goal = c.requires.goal;
  has_cited = c.requires.cited;
  has_leaves = leaves_within c.args.job.now.graph _ c.args.job.now.leaf_each;
  cone = c.in_ok-set.ensures;
}
