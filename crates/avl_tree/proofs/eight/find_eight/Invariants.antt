use Rattle.avl_tree.specs.Nodes.{LeadsTo}
use Rattle.avl_tree.proofs.eight.find_eight.Given as goal

abbrev pub invariant-loop : goal.invariant-loop
invariant-loop g l = record {
  first : LeadsTo g.K.Ord.cmp l.ka l.tree l.a;
  second : LeadsTo g.K.Ord.cmp l.kb l.tree l.b;
  third : LeadsTo g.K.Ord.cmp l.kc l.tree l.c;
  fourth : LeadsTo g.K.Ord.cmp l.kd l.tree l.d;
  fifth : LeadsTo g.K.Ord.cmp l.ke l.tree l.e;
  sixth : LeadsTo g.K.Ord.cmp l.kf l.tree l.f;
  seventh : LeadsTo g.K.Ord.cmp l.kg l.tree l.g;
  eighth : LeadsTo g.K.Ord.cmp l.kh l.tree l.h;
}
