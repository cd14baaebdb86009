use Rattle.std.proofs.Common.{◌≡◌, ◌++◌, ◌∷◌, [], List, length, sym, ◌∙◌, subst}
use Rattle.level_terms.specs.declared.node.Node.TheVariants.{App}
use Rattle.level_terms.specs.declared.node.TermId.{TermId}
use Rattle.level_terms.specs.Sound.{IsHead, AllOlder}
use Rattle.level_terms.proofs.GrowthLemmas.{grows-trans}
use Rattle.level_terms.proofs.MakeLemmas.{head-none, parts-there}
use Rattle.beta_fragment.proofs.MoveLemmas.{node-after}
use Rattle.beta_fragment.proofs.AppliedNodes.{IsMadeWith, args-older, last-applied, applied-reads, applied-valid, last-made_unreached}
use Rattle.beta_fragment.proofs.body.with_last.Goals as goal

pub app-requires-clause-head : goal.app-requires-clause-head
app-requires-clause-head c = (args-older c.args.heap.now c.level.new.self c.args.t c.in_ok-name.name c.args.head c.args.args c.args.depth c.is_sound.ensures c.requires.here c.in_ok-name.ensures.ok.0 c.in_ok-name.ensures.ok.1).0

pub app-requires-clause-no_application : goal.app-requires-clause-no_application
app-requires-clause-no_application c =
    subst IsHead (sym (node-after c.args.heap.now c.level.new.self c.level.ensures.grows c.args.head.index (parts-there c.args.heap.now c.args.t.index (App c.args.head c.args.args) c.is_sound.ensures c.requires.here).0))
    (head-none c.args.heap.now c.args.t.index c.args.head c.args.args c.is_sound.ensures c.requires.here)

pub app-requires-clause-args : goal.app-requires-clause-args
app-requires-clause-args c =
    subst (AllOlder (length c.level.new.self.nodes)) (sym (c.as_slice.ensures ∙ c.in_ok-push.ensures.last))
    (args-older c.args.heap.now c.level.new.self c.args.t c.in_ok-name.name c.args.head c.args.args c.args.depth c.is_sound.ensures c.requires.here c.in_ok-name.ensures.ok.0 c.in_ok-name.ensures.ok.1).1

-- the two nodes that are made
made : (c : goal.Joined-args-4) → IsMadeWith c.args.heap.now c.level.new.self c.app.new.self c.in_ok-name.name c.in_ok-r.r c.args.head (c.args.args ++ c.in_ok-name.name ∷ []) c.args.depth
made c = record {
  sound = c.is_sound.ensures;
  sound_one = c.is_sound-2.ensures;
  sound_new = c.is_sound-3.ensures;
  name_at = c.in_ok-name.ensures.ok.0;
  one_is = c.in_ok-name.ensures.ok.1;
  at = c.in_ok-r.ensures.ok.0;
  new_is = subst (λ (ts : List TermId). c.app.new.self ≡ record c.level.new.self { nodes = App c.args.head ts ∷ c.level.new.self.nodes }) (c.as_slice.ensures ∙ c.in_ok-push.ensures.last) c.in_ok-r.ensures.ok.1;
}

pub returns-clause-reads : goal.returns-clause-reads
returns-clause-reads c =
    applied-reads c.args.heap.now c.level.new.self c.app.new.self c.args.t c.in_ok-name.name c.in_ok-r.r c.args.depth
    (last-applied c.args.heap.now c.level.new.self c.app.new.self c.args.t c.in_ok-name.name c.in_ok-r.r c.args.head c.args.args c.args.depth (made c) c.requires.valid c.requires.here)

pub returns-clause-valid : goal.returns-clause-valid
returns-clause-valid c =
    applied-valid c.args.heap.now c.level.new.self c.app.new.self c.args.t c.in_ok-name.name c.in_ok-r.r c.args.depth
    (last-applied c.args.heap.now c.level.new.self c.app.new.self c.args.t c.in_ok-name.name c.in_ok-r.r c.args.head c.args.args c.args.depth (made c) c.requires.valid c.requires.here)

pub returns-clause-unreached : goal.returns-clause-unreached
returns-clause-unreached c = last-made_unreached c.args.heap.now c.level.new.self c.app.new.self c.args.t c.in_ok-name.name c.in_ok-r.r c.args.head c.args.args c.args.depth (made c) c.requires.valid c.requires.here

pub returns-clause-grows : goal.returns-clause-grows
returns-clause-grows c = grows-trans c.args.heap.now c.level.new.self c.app.new.self [] [] [] c.level.ensures.grows c.app.ensures.grows
