use Rattle.std.proofs.Common.{◌≡◌, ℕ, suc, ◌+◌, map, take, subst, arith}
use Rattle.eigen_align.specs.Sequents.{sequents_read, bare}
use Rattle.sequent_rules.specs.inside.Tuples.{tuple_in}
use Rattle.sequent_rules.proofs.TakenLemmas.{goals-read, goals-valid}
use Rattle.sequent_rules.proofs.heads.sequents_of.Goals as goal

pub loop-i-preserved : goal.loop-i-preserved
loop-i-preserved c =
    let next : suc c.loop-i.i ≡ c.loop-i.i + 1 = omega arith in
    record {
      reads = λ g. subst (λ (k : ℕ). sequents_read g c.push.new.self.items ≡ map bare (take k (tuple_in g c.args.store.now c.args.ids.now))) next
          (goals-read c.args.store.now c.args.ids.now c.loop-i.i c.loop-i-test.true c.get-constraint.result.now c.get-constraint.ensures c.loop-i.sequents.items c.push.new.self.items c.in_ok-push.ensures.items g (c.loop-i.invariant.reads g));
      valid = λ g all. goals-valid c.args.store.now c.args.ids.now c.loop-i.i c.loop-i-test.true c.get-constraint.result.now c.get-constraint.ensures c.loop-i.sequents.items c.push.new.self.items c.in_ok-push.ensures.items g all (c.loop-i.invariant.valid g all);
    }
