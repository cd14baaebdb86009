use Rattle.std.proofs.Common.{◌≡◌, ℕ, ◌++◌, ◌∷◌, [], List, take, length, ap, sym, ◌∙◌, subst}
use Rattle.std.proofs.lemmas.Result.{IfOk-weaker}
use Rattle.level_terms.specs.Valid.{IsValid}
use Rattle.level_terms.proofs.GrowthLemmas.{grows-refl, grows-trans}
use Rattle.beta_fragment.specs.Body.{IsLam}
use Rattle.level_terms.specs.Values.{value_of}
use Rattle.beta_fragment.proofs.EnterLemmas.{body-valid}
use Rattle.beta_fragment.proofs.HeadLemmas.{lam-same, lam-same_valid, lam-within, lam-renamed, take-more}
use Rattle.beta_fragment.proofs.head.renamed_lam.Goals as goal

pub returns-then-made-fixed-clause-reads : goal.returns-then-made-fixed-clause-reads
returns-then-made-fixed-clause-reads c = lam-same c.args.heap.now c.args.t.index c.args.made c.args.body (length c.args.levels.now) c.args.fixed c.args.depth c.args.levels.now c.is_sound.ensures c.requires.here c.requires.valid c.if-made-fixed.true c.requires.moves

pub returns-then-made-fixed-clause-valid : goal.returns-then-made-fixed-clause-valid
returns-then-made-fixed-clause-valid c = lam-same_valid c.args.heap.now c.args.t.index c.args.made c.args.body (length c.args.levels.now) c.args.fixed c.args.depth c.args.levels.now c.is_sound.ensures c.requires.here c.requires.valid c.if-made-fixed.true c.requires.moves

pub returns-then-made-fixed-clause-grows : goal.returns-then-made-fixed-clause-grows
returns-then-made-fixed-clause-grows c = grows-refl c.args.heap.now []

pub returns-in_err-inner-clause-grows : goal.returns-in_err-inner-clause-grows
returns-in_err-inner-clause-grows c = grows-refl c.args.heap.now []

pub returns-in_err-push-clause-grows : goal.returns-in_err-push-clause-grows
returns-in_err-push-clause-grows c = grows-refl c.args.heap.now []

pub moved_node-requires-clause-valid : goal.moved_node-requires-clause-valid
moved_node-requires-clause-valid c =
    let more : c.push.new.self ≡ take c.args.made c.args.levels.now ++ c.args.depth ∷ [] = c.in_ok-push.ensures ∙ ap (λ (ls : List ℕ). ls ++ c.args.depth ∷ []) c.truncate.ensures in
    let long = ap length more ∙ take-more c.args.levels.now c.args.depth c.args.made (lam-within c.args.heap.now c.args.t.index c.args.made c.args.body (length c.args.levels.now) c.is_sound.ensures c.requires.here c.requires.valid) in
    subst (IsValid c.args.heap.now c.args.body.index) (sym long) (body-valid c.args.heap.now c.is_sound.ensures c.args.t.index c.args.made c.args.body (length c.args.levels.now) c.requires.here c.requires.valid)

pub returns-clause-reads : goal.returns-clause-reads
returns-clause-reads c =
    let more : c.push.new.self ≡ take c.args.made c.args.levels.now ++ c.args.depth ∷ [] = c.in_ok-push.ensures ∙ ap (λ (ls : List ℕ). ls ++ c.args.depth ∷ []) c.truncate.ensures in
    IfOk-weaker c.made_lam.result _ _
    (λ r w. (lam-renamed c.args.heap.now c.args.t.index c.args.made c.args.body c.args.depth c.in_ok-inner.inner c.args.levels.now c.push.new.self (value_of c.moved_node.new.heap c.in_ok-r.r) (value_of c.made_lam.new.heap r) c.is_sound.ensures c.requires.here c.requires.valid c.requires.moves.below more c.in_ok-inner.ensures c.in_ok-r.ensures.moves w).0)
    c.made_lam.ensures.lam

pub returns-clause-valid : goal.returns-clause-valid
returns-clause-valid c =
    let more : c.push.new.self ≡ take c.args.made c.args.levels.now ++ c.args.depth ∷ [] = c.in_ok-push.ensures ∙ ap (λ (ls : List ℕ). ls ++ c.args.depth ∷ []) c.truncate.ensures in
    IfOk-weaker c.made_lam.result _ _
    (λ r w. (lam-renamed c.args.heap.now c.args.t.index c.args.made c.args.body c.args.depth c.in_ok-inner.inner c.args.levels.now c.push.new.self (value_of c.moved_node.new.heap c.in_ok-r.r) (value_of c.made_lam.new.heap r) c.is_sound.ensures c.requires.here c.requires.valid c.requires.moves.below more c.in_ok-inner.ensures c.in_ok-r.ensures.moves w).1)
    c.made_lam.ensures.lam

pub returns-clause-lam : goal.returns-clause-lam
returns-clause-lam c = IfOk-weaker c.made_lam.result _ _ (λ r e. subst IsLam (sym e) tt) c.made_lam.ensures.node

pub returns-clause-grows : goal.returns-clause-grows
returns-clause-grows c = grows-trans c.args.heap.now c.moved_node.new.heap c.made_lam.new.heap [] [] [] c.moved_node.ensures.grows c.made_lam.ensures.grows
