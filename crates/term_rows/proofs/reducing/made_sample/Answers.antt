use Rattle.std.proofs.Common.{ap}
use Rattle.level_terms.specs.Graph.{Graph}
use Rattle.term_rows.proofs.SampleLemmas.{IsSample, sample-made, constant-there, name-there, lam-there, redex-there, constant-plain}
use Rattle.term_rows.proofs.reducing.made_sample.Goals.{After-is_sound}
use Rattle.term_rows.proofs.reducing.made_sample.Goals as goal

made : (c : After-is_sound) → IsSample c.app-2.new.self.nodes c.in_ok-constant.constant c.in_ok-name.name c.in_ok-lam.lam c.in_ok-redex.redex
made c =
    let nodes : Graph → _ = λ g. g.nodes in
    sample-made _ _ c.args.heap.now.nodes c.con.new.self.nodes c.con-2.new.self.nodes c.level.new.self.nodes c.app.new.self.nodes c.lam.new.self.nodes c.app-2.new.self.nodes
    c.in_ok-f.f c.in_ok-constant.constant c.in_ok-name.name c.in_ok-body.body c.in_ok-lam.lam c.in_ok-redex.redex c.as_slice.result.now c.as_slice-2.result.now
    c.requires c.in_ok-f.ensures.ok.0 (ap nodes c.in_ok-f.ensures.ok.1) c.in_ok-constant.ensures.ok.0 (ap nodes c.in_ok-constant.ensures.ok.1) c.in_ok-name.ensures.ok.0 (ap nodes c.in_ok-name.ensures.ok.1)
    c.as_slice.ensures c.in_ok-body.ensures.ok.0 (ap nodes c.in_ok-body.ensures.ok.1) c.in_ok-lam.ensures.ok.0 (ap nodes c.in_ok-lam.ensures.ok.1)
    c.as_slice-2.ensures c.in_ok-redex.ensures.ok.0 (ap nodes c.in_ok-redex.ensures.ok.1)

pub returns-clause-constant : goal.returns-clause-constant
returns-clause-constant c = constant-there c.app-2.new.self.depths c.app-2.new.self.nodes c.in_ok-constant.constant c.in_ok-name.name c.in_ok-lam.lam c.in_ok-redex.redex (made c)

pub returns-clause-name : goal.returns-clause-name
returns-clause-name c = name-there c.app-2.new.self.depths c.app-2.new.self.nodes c.in_ok-constant.constant c.in_ok-name.name c.in_ok-lam.lam c.in_ok-redex.redex (made c)

pub returns-clause-lam : goal.returns-clause-lam
returns-clause-lam c = lam-there c.app-2.new.self.depths c.app-2.new.self.nodes c.in_ok-constant.constant c.in_ok-name.name c.in_ok-lam.lam c.in_ok-redex.redex (made c)

pub returns-clause-redex : goal.returns-clause-redex
returns-clause-redex c = redex-there c.app-2.new.self.depths c.app-2.new.self.nodes c.in_ok-constant.constant c.in_ok-name.name c.in_ok-lam.lam c.in_ok-redex.redex (made c)

pub returns-clause-plain : goal.returns-clause-plain
returns-clause-plain c = constant-plain c.app-2.new.self c.in_ok-constant.constant c.in_ok-name.name c.in_ok-lam.lam c.in_ok-redex.redex c.is_sound.ensures (made c)
