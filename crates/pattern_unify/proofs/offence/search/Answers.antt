use Rattle.std.proofs.Common.{◌≡◌, ◌<◌, subst, ◌∙◌, ◌++◌, [], ◌∷◌, false, List, ap, sym, refl, arith, reverse}
use Rattle.level_terms.proofs.GrowthLemmas.{grows-refl, grows-trans}
use Rattle.beta_fragment.proofs.SplitLemmas.{empty-list}
use Rattle.pattern_unify.specs.declared.offence.Subterm.{Subterm}
use Rattle.pattern_unify.specs.declared.offence.Verdict.TheVariants.{Fine}
use Rattle.pattern_unify.specs.inside.Searching.{searching, subterm, first_verdict, AllSearchable, search_size}
use Rattle.pattern_unify.proofs.SearchLemmas.{first-search, next-valid, next-deep, turn-searchable, turn-fine, turn-found, turn-less}
use Rattle.pattern_unify.proofs.offence.search.Goals as goal

pub loop-work-init : goal.loop-work-init
loop-work-init c =
    let one : c.new-work.result.items ++ subterm c.args.depth false c.args.t ∷ [] ≡ subterm c.args.depth false c.args.t ∷ [] = ap (λ (zs : List Subterm). zs ++ subterm c.args.depth false c.args.t ∷ []) c.new-work.ensures.items in
    let first = first-search (searching c.args.mark.index c.args.x.index c.args.ns.now c.args.base) c.args.heap.now c.args.t c.args.depth (c.new-work.result.items ++ subterm c.args.depth false c.args.t ∷ []) c.requires.base c.requires.valid one in
    record {
      searchable = first.0;
      verdict = first.1;
      variables = refl;
      grows = grows-refl c.args.heap.now [];
    }

pub look-requires-clause-valid : goal.look-requires-clause-valid
look-requires-clause-valid c =
    next-valid (searching c.args.mark.index c.args.x.index c.args.ns.now c.args.base) c.loop-work.heap c.loop-work.heap c.loop-work.at (c.loop-work.work.items ++ c.loop-work.at ∷ []) c.loop-work.work.items c.loop-work.work.items Fine c.is_sound.ensures (grows-refl c.loop-work.heap []) refl c.loop-work.invariant.searchable

pub look-requires-clause-base : goal.look-requires-clause-base
look-requires-clause-base c =
    next-deep (searching c.args.mark.index c.args.x.index c.args.ns.now c.args.base) c.loop-work.heap c.loop-work.heap c.loop-work.at (c.loop-work.work.items ++ c.loop-work.at ∷ []) c.loop-work.work.items c.loop-work.work.items Fine c.is_sound.ensures (grows-refl c.loop-work.heap []) refl c.loop-work.invariant.searchable

pub returns-in_err-verdict-clause-variables : goal.returns-in_err-verdict-clause-variables
returns-in_err-verdict-clause-variables c = c.look.ensures.variables ∙ c.loop-work.invariant.variables

pub returns-in_err-verdict-clause-grows : goal.returns-in_err-verdict-clause-grows
returns-in_err-verdict-clause-grows c = grows-trans c.args.heap.now c.loop-work.heap c.look.new.heap [] [] [] c.loop-work.invariant.grows c.look.ensures.grows

pub returns-then-not-is_fine-clause-verdict : goal.returns-then-not-is_fine-clause-verdict
returns-then-not-is_fine-clause-verdict c =
    let found = turn-found (searching c.args.mark.index c.args.x.index c.args.ns.now c.args.base) c.loop-work.heap c.look.new.heap c.loop-work.at (c.loop-work.work.items ++ c.loop-work.at ∷ []) c.loop-work.work.items c.look.new.work.items c.in_ok-verdict.verdict c.is_sound.ensures c.look.ensures.grows refl c.loop-work.invariant.searchable c.in_ok-verdict.ensures.looks (sym c.is_fine.ensures ∙ c.if-not-is_fine.true) in
    sym
    (c.loop-work.invariant.verdict
    ∙ found)

pub returns-then-not-is_fine-clause-variables : goal.returns-then-not-is_fine-clause-variables
returns-then-not-is_fine-clause-variables c = c.look.ensures.variables ∙ c.loop-work.invariant.variables

pub returns-then-not-is_fine-clause-grows : goal.returns-then-not-is_fine-clause-grows
returns-then-not-is_fine-clause-grows c = grows-trans c.args.heap.now c.loop-work.heap c.look.new.heap [] [] [] c.loop-work.invariant.grows c.look.ensures.grows

pub loop-work-smaller : goal.loop-work-smaller
loop-work-smaller c =
    subst (λ (ps : List Subterm). search_size c.look.new.heap (reverse ps) < search_size c.loop-work.heap (reverse (c.loop-work.work.items ++ c.loop-work.at ∷ []))) c.in-Some.ensures.items
    (turn-less (searching c.args.mark.index c.args.x.index c.args.ns.now c.args.base) c.loop-work.heap c.look.new.heap c.loop-work.at (c.loop-work.work.items ++ c.loop-work.at ∷ []) c.loop-work.work.items c.look.new.work.items c.in_ok-verdict.verdict c.is_sound.ensures c.look.ensures.grows refl c.loop-work.invariant.searchable c.in_ok-verdict.ensures.looks)

pub loop-work-preserved : goal.loop-work-preserved
loop-work-preserved c =
    let next = turn-fine (searching c.args.mark.index c.args.x.index c.args.ns.now c.args.base) c.loop-work.heap c.look.new.heap c.loop-work.at (c.loop-work.work.items ++ c.loop-work.at ∷ []) c.loop-work.work.items c.look.new.work.items c.in_ok-verdict.verdict c.is_sound.ensures c.look.ensures.grows refl c.loop-work.invariant.searchable c.in_ok-verdict.ensures.looks (sym c.is_fine.ensures ∙ c.if-not-is_fine.false) in
    record {
      searchable = subst (λ (ps : List Subterm). AllSearchable (searching c.args.mark.index c.args.x.index c.args.ns.now c.args.base) c.look.new.heap (reverse ps)) c.in-Some.ensures.items
          (turn-searchable (searching c.args.mark.index c.args.x.index c.args.ns.now c.args.base) c.loop-work.heap c.look.new.heap c.loop-work.at (c.loop-work.work.items ++ c.loop-work.at ∷ []) c.loop-work.work.items c.look.new.work.items c.in_ok-verdict.verdict c.is_sound.ensures c.look.ensures.grows refl c.loop-work.invariant.searchable c.in_ok-verdict.ensures.looks);
      verdict = c.loop-work.invariant.verdict ∙ next ∙ ap (λ (ps : List Subterm). first_verdict (searching c.args.mark.index c.args.x.index c.args.ns.now c.args.base) c.look.new.heap (reverse ps)) c.in-Some.ensures.items;
      variables = c.look.ensures.variables ∙ c.loop-work.invariant.variables;
      grows = grows-trans c.args.heap.now c.loop-work.heap c.look.new.heap [] [] [] c.loop-work.invariant.grows c.look.ensures.grows;
    }

pub returns-in-None-clause-verdict : goal.returns-in-None-clause-verdict
returns-in-None-clause-verdict c =
    let none = empty-list c.look.new.work.items (omega (arith, c.look.new.work.ok, c.in-None.ensures.cases.0)) in
    let next = turn-fine (searching c.args.mark.index c.args.x.index c.args.ns.now c.args.base) c.loop-work.heap c.look.new.heap c.loop-work.at (c.loop-work.work.items ++ c.loop-work.at ∷ []) c.loop-work.work.items c.look.new.work.items c.in_ok-verdict.verdict c.is_sound.ensures c.look.ensures.grows refl c.loop-work.invariant.searchable c.in_ok-verdict.ensures.looks (sym c.is_fine.ensures ∙ c.if-not-is_fine.false) in
    sym
    (c.loop-work.invariant.verdict
    ∙ next
    ∙ ap (λ (ps : List Subterm). first_verdict (searching c.args.mark.index c.args.x.index c.args.ns.now c.args.base) c.look.new.heap (reverse ps)) none)

pub returns-in-None-clause-variables : goal.returns-in-None-clause-variables
returns-in-None-clause-variables c = c.look.ensures.variables ∙ c.loop-work.invariant.variables

pub returns-in-None-clause-grows : goal.returns-in-None-clause-grows
returns-in-None-clause-grows c = grows-trans c.args.heap.now c.loop-work.heap c.look.new.heap [] [] [] c.loop-work.invariant.grows c.look.ensures.grows
