use Rattle.std.proofs.Common.{◌≡◌, ◌∙◌, length, map, refl, ap, sym, subst}
use Rattle.std.proofs.lemmas.List.{length-map}
use Rattle.ref_terms.specs.search.Front.{term_of}
use Rattle.clause_compile.specs.inside.Meaning.{IsCompiled}
use Rattle.clause_compile.proofs.rules.head_code.Goals as goal

pub compile_terms-requires-clause-within : goal.compile_terms-requires-clause-within
compile_terms-requires-clause-within c = c.atom_of-atom.ensures.within c.args.variables c.requires.fit.goal

pub returns-clause-code : goal.returns-clause-code
returns-clause-code c = record {
  context = refl;
  context_there = c.requires.fit.context;
  pred = c.atom_of-atom.ensures.constant;
  arity = sym (ap length c.atom_of-atom.ensures.args ∙ length-map c.atom_of-atom.result.args.now (term_of 0));
  args = subst (IsCompiled c.args.variables c.compile_terms.new.heap.nodes c.in_ok-args.args) (sym c.atom_of-atom.ensures.args) c.in_ok-args.ensures.skeleton;
}
