use Rattle.std.proofs.Common.{◌≡◌, ◌<◌, ◌-◌, ◌∷◌, suc, sym, ap, ◌∙◌, subst, arith}
use Rattle.level_terms.specs.Valid.{IsValid}
use Rattle.search_moves.specs.declared.frame.Frame.{Frame}
use Rattle.search_moves.specs.World.{chain, IsContextAt}
use Rattle.search_moves.proofs.MoveLemmas.{if-ok}
use Rattle.search_moves.proofs.StageLemmas.{frame-read}
use Rattle.search_moves.proofs.stage.Stage.goal.Goals as goal

pub returns-clause-goals : goal.returns-clause-goals
returns-clause-goals c =
    let w = c.args.self.now in
    let frame = c.index-frame.result.now in
    let it = frame-read w.heap c.self.inside.frames.items w.frames c.args.first frame (ap (λ z. z.frames) c.self.view_is) c.requires.frames c.requires.some c.requires.there c.index-frame.ensures in
    let n : c.args.first ≡ suc (c.args.first - 1) = omega (arith, c.requires.some) in
    let good : Frame → Type 0 = λ f. chain w.frames c.args.first ≡ f ∷ chain w.frames f.next in
    if-ok c.copy.result (λ f. f ≡ frame) good (λ f e. subst good (sym e) (ap (chain w.frames) n ∙ it.goals)) c.copy.ensures

pub returns-clause-valid : goal.returns-clause-valid
returns-clause-valid c =
    let w = c.args.self.now in
    let frame = c.index-frame.result.now in
    let it = frame-read w.heap c.self.inside.frames.items w.frames c.args.first frame (ap (λ z. z.frames) c.self.view_is) c.requires.frames c.requires.some c.requires.there c.index-frame.ensures in
    let good : Frame → Type 0 = λ f. IsValid w.heap f.term.index f.depth in
    if-ok c.copy.result (λ f. f ≡ frame) good (λ f e. subst good (sym e) it.valid) c.copy.ensures

pub returns-clause-context : goal.returns-clause-context
returns-clause-context c =
    let w = c.args.self.now in
    let frame = c.index-frame.result.now in
    let it = frame-read w.heap c.self.inside.frames.items w.frames c.args.first frame (ap (λ z. z.frames) c.self.view_is) c.requires.frames c.requires.some c.requires.there c.index-frame.ensures in
    let good : Frame → Type 0 = λ f. IsContextAt w.heap f.depth f.context in
    if-ok c.copy.result (λ f. f ≡ frame) good (λ f e. subst good (sym e) it.context) c.copy.ensures

pub returns-clause-later : goal.returns-clause-later
returns-clause-later c =
    let w = c.args.self.now in
    let frame = c.index-frame.result.now in
    let it = frame-read w.heap c.self.inside.frames.items w.frames c.args.first frame (ap (λ z. z.frames) c.self.view_is) c.requires.frames c.requires.some c.requires.there c.index-frame.ensures in
    let good : Frame → Type 0 = λ f. f.next < c.args.first in
    if-ok c.copy.result (λ f. f ≡ frame) good (λ f e. subst good (sym e) (let later = it.later in omega (arith, later, c.requires.some))) c.copy.ensures
