use Rattle.std.proofs.Common.{ℕ, ◌<◌, ◌≤◌, ◌-◌, ◌∙◌, List, [], length, length-drop, map, get_or, drop, sym, subst, arith, rules}
use Rattle.std.specs.List.{slice_range}
use Rattle.std.proofs.lemmas.List.{length-map, length-take}
use Rattle.std.specs.List.{All}
use Rattle.std.proofs.lemmas.List.Elements.{All-drop, All-take}
use Rattle.level_terms.specs.declared.node.TermId.{TermId}
use Rattle.level_terms.specs.Graph.{Graph}
use Rattle.level_terms.specs.Valid.{IsValid}
use Rattle.level_terms.proofs.GrowthLemmas.{grows-refl}
use Rattle.level_terms.proofs.ValidLemmas.{valid_deeper}
use Rattle.beta_fragment.specs.HeadForm.{AllValidAt}
use Rattle.level_terms.proofs.MakeLemmas.{head-other}
use Rattle.level_terms.proofs.ReadLemmas.{valid-below}
use Rattle.term_rows.specs.declared.builder.Item.{Item}
use Rattle.term_rows.proofs.BuildLemmas.{all-valid, all-older, applied-valid}
use Rattle.term_rows.proofs.builder.applied.Goals as goal

-- the first item, of which there is one
abbrev none : Item
none = record { node = record { index = 0 }; least = 0 }

-- its node is there
first-there : (g : Graph) (items : List Item) → 2 ≤ length items → All (λ it. IsValid g it.node.index it.least) items → (get_or items 0 none).node.index < length g.nodes
first-there g items some valid = valid-below g (get_or items 0 none).node.index (get_or items 0 none).least (valid 0 none (omega arith))

-- the others
abbrev others : List Item → List Item
others items = slice_range items 1 (length items)

-- they are valid
args-valid : (g : Graph) (d : ℕ) (items : List Item) → All (λ it. IsValid g it.node.index it.least) items → All (λ it. it.least ≤ d) items → AllValidAt g (map (λ it. it.node) (others items)) d
args-valid g d items valid deep = all-valid {X = Item} (λ it. it.node) (λ it. it.least) g d (others items)
    (All-take (λ it. IsValid g it.node.index it.least) (length items - 1) (drop 1 items) (All-drop (λ it. IsValid g it.node.index it.least) 1 items valid))
    (All-take (λ it. it.least ≤ d) (length items - 1) (drop 1 items) (All-drop (λ it. it.least ≤ d) 1 items deep))

-- and there is one
args-some : (items : List Item) → 2 ≤ length items → 0 < length (map (λ (it : Item). it.node) (others items))
args-some items some = simp (length-map, length-take, length-drop) (omega arith)

pub returns-then-items-lt2-clause-grows : goal.returns-then-items-lt2-clause-grows
returns-then-items-lt2-clause-grows c = grows-refl c.args.heap.now []

pub view-requires : goal.view-requires
view-requires c = first-there c.args.heap.now c.args.items.now c.if-items-lt2.false c.requires

pub returns-in-App-clause-grows : goal.returns-in-App-clause-grows
returns-in-App-clause-grows c = grows-refl c.args.heap.now []

pub returns-in_err-args : goal.returns-in_err-args
returns-in_err-args c = record { valid = search rules; grows = grows-refl c.args.heap.now [] }

pub app-requires : goal.app-requires
app-requires c =
    let args : AllValidAt c.args.heap.now c.as_slice.result.now c.deepest-least.result =
    subst (λ (ts : List TermId). AllValidAt c.args.heap.now ts c.deepest-least.result) (sym (c.as_slice.ensures.value ∙ c.in_ok-args.ensures)) (args-valid c.args.heap.now c.deepest-least.result c.args.items.now c.requires c.deepest-least.ensures) in
    record {
      head = first-there c.args.heap.now c.args.items.now c.if-items-lt2.false c.requires;
      no_application = head-other c.args.heap.now (get_or c.args.items.now 0 none).node.index c.view.result.now c.view.ensures c.in_default.not-App;
      args = all-older c.args.heap.now c.deepest-least.result c.as_slice.result.now args;
      some = subst (λ (ts : List TermId). 0 < length ts) (sym (c.as_slice.ensures.value ∙ c.in_ok-args.ensures)) (args-some c.args.items.now c.if-items-lt2.false);
    }

pub returns : goal.returns
returns c =
    let args : AllValidAt c.args.heap.now c.as_slice.result.now c.deepest-least.result =
    subst (λ (ts : List TermId). AllValidAt c.args.heap.now ts c.deepest-least.result) (sym (c.as_slice.ensures.value ∙ c.in_ok-args.ensures)) (args-valid c.args.heap.now c.deepest-least.result c.args.items.now c.requires c.deepest-least.ensures) in
    let first : Item = get_or c.args.items.now 0 none in
    record {
      valid = applied-valid c.args.heap.now c.app.new.self first.node c.as_slice.result.now c.in_ok-node.node c.deepest-least.result c.is_sound.ensures c.is_sound-2.ensures c.in_ok-node.ensures.ok.0 c.in_ok-node.ensures.ok.1
          (valid_deeper c.args.heap.now first.node.index first.least c.deepest-least.result (c.requires 0 none (omega arith)) (c.deepest-least.ensures 0 none (omega arith))) args;
      grows = c.app.ensures.grows;
    }
