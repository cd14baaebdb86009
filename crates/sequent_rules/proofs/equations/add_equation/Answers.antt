use Rattle.ref_terms.specs.search.Joint.{over_joint}
use Rattle.level_terms.specs.Reading.{read}
use Rattle.beta_fragment.specs.Names.{names}
use Rattle.sequent_rules.proofs.EquationLemmas.{equation-put, equation-valid}
use Rattle.sequent_rules.proofs.KeptLemmas.{keeps-grown}
use Rattle.sequent_rules.proofs.equations.add_equation.Goals as goal

pub returns-clause-reads : goal.returns-clause-reads
returns-clause-reads c =
    equation-put c.args.heap.now c.over_joint.new.heap c.args.lifting.now.depth c.args.equations.now.items c.push.new.self.items c.args.pattern c.in_ok-lifted.lifted
    (over_joint c.args.lifting.now.map.now (read c.args.heap.now c.args.t.index names))
    (keeps-grown c.args.heap.now c.over_joint.new.heap c.is_sound.ensures c.over_joint.ensures.grows)
    c.requires.older c.in_ok-push.ensures.items c.requires.pattern c.in_ok-lifted.ensures.lifted.reads

pub returns-clause-valid : goal.returns-clause-valid
returns-clause-valid c =
    equation-valid c.args.heap.now c.over_joint.new.heap c.args.lifting.now.depth c.args.equations.now.items c.push.new.self.items c.args.pattern c.in_ok-lifted.lifted
    (keeps-grown c.args.heap.now c.over_joint.new.heap c.is_sound.ensures c.over_joint.ensures.grows)
    c.requires.older c.in_ok-push.ensures.items c.requires.pattern c.in_ok-lifted.ensures.lifted.valid
