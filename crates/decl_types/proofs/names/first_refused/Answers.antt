use Rattle.std.proofs.Common.{◌∙◌, false, get_or}
use Rattle.std.proofs.lemmas.List.{get_or_default}
use Rattle.decl_types.specs.declared.names.DeclaredName.{DeclaredName}
use Rattle.decl_types.proofs.Lists.{no-name}
use Rattle.decl_types.proofs.NameLemmas.{names-more, found-more}
use Rattle.decl_types.proofs.names.first_refused.Goals as goal

pub loop-declared-preserved : goal.loop-declared-preserved
loop-declared-preserved c =
    let none : DeclaredName = record { name = no-name; refused = false } in
    let i = c.loop-declared.declared-index in
    let xs = c.args.names.now in
    let x = get_or xs i none in
    let is = get_or_default xs i none x c.loop-declared-test.true in
    record {
      names = names-more xs i x c.loop-declared.seen.keys c.insert.new.self.keys c.loop-declared-test.true is c.in_ok-is_new.ensures.keys c.loop-declared.invariant.names;
      found = c.loop-declared.invariant.found ∙ found-more c.args.rule xs i x c.loop-declared.seen.keys c.in_ok-is_new.is_new c.is_broken-broken.result
          c.loop-declared.found c.breach_if.result c.earlier-found.result c.loop-declared-test.true is c.loop-declared.invariant.names c.in_ok-is_new.ensures.added
          c.is_broken-broken.ensures c.breach_if.ensures c.earlier-found.ensures;
    }
