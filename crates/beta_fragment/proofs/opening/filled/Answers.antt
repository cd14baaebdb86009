use Rattle.std.proofs.Common.{[], subst}
use Rattle.std.proofs.lemmas.Result.{IfOk-weaker}
use Rattle.level_terms.specs.Valid.{IsValid}
use Rattle.level_terms.proofs.GrowthLemmas.{grows-refl, grows-trans}
use Rattle.level_terms.proofs.ValidLemmas.{growth_keeps_valid}
use Rattle.level_terms.proofs.ReadLemmas.{valid-below, grown-reads}
use Rattle.beta_fragment.proofs.EnterLemmas.{body-valid}
use Rattle.beta_fragment.proofs.FilledLemmas.{filled-reads}
use Rattle.beta_fragment.proofs.opening.filled.Goals as goal

pub returns-in_err-inner-clause-grows : goal.returns-in_err-inner-clause-grows
returns-in_err-inner-clause-grows c = grows-refl c.args.heap.now []

pub is_taken-taken-requires : goal.is_taken-taken-requires
is_taken-taken-requires c = growth_keeps_valid c.args.heap.now c.opened.new.heap [] [] c.args.arg.index c.args.depth c.is_sound.ensures c.in_ok-named.ensures.grows (valid-below c.args.heap.now c.args.arg.index c.args.depth c.requires.argument) c.requires.argument

pub put_name-requires-clause-put : goal.put_name-requires-clause-put
put_name-requires-clause-put c = growth_keeps_valid c.args.heap.now c.opened.new.heap [] [] c.args.arg.index c.args.depth c.is_sound.ensures c.in_ok-named.ensures.grows (valid-below c.args.heap.now c.args.arg.index c.args.depth c.requires.argument) c.requires.argument

pub put_name-requires-clause-valid : goal.put_name-requires-clause-valid
put_name-requires-clause-valid c = subst (IsValid c.opened.new.heap c.in_ok-named.named.index) c.in_ok-inner.ensures c.in_ok-named.ensures.valid

pub returns-clause-reads : goal.returns-clause-reads
returns-clause-reads c =
    let same = grown-reads c.args.heap.now c.opened.new.heap c.is_sound.ensures c.in_ok-named.ensures.grows c.args.arg.index (valid-below c.args.heap.now c.args.arg.index c.args.depth c.requires.argument) in
    let body = body-valid c.args.heap.now c.is_sound.ensures c.args.lam.index c.args.made c.args.body c.args.made c.requires.here c.requires.valid in
    IfOk-weaker c.put_name.result _ _
    (λ r m. filled-reads c.args.heap.now c.opened.new.heap c.put_name.new.heap c.args.depth c.args.made c.args.body c.args.arg c.in_ok-named.named r c.is_sound.ensures c.requires.low body c.in_ok-named.ensures.reads same m)
    c.put_name.ensures.reads

pub returns-clause-grows : goal.returns-clause-grows
returns-clause-grows c = grows-trans c.args.heap.now c.opened.new.heap c.put_name.new.heap [] [] [] c.in_ok-named.ensures.grows c.put_name.ensures.grows
