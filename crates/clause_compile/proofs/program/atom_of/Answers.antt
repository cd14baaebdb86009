use Rattle.std.proofs.Common.{◌≡◌, ◌∙◌, map, ap, sym, subst, Some, option_map}
use Rattle.ref_terms.specs.declared.sym.Sym.{Sym}
use Rattle.ref_terms.specs.search.Front.{term_of}
use Rattle.lp_resolve.specs.Heads.{constant_of}
use Rattle.clause_compile.specs.inside.Compiled.{AllWithin}
use Rattle.clause_compile.proofs.AtomLemmas.{atom-headed, atom-args, atom-within}
use Rattle.clause_compile.proofs.program.atom_of.Goals as goal

pub returns-clause-constant : goal.returns-clause-constant
returns-clause-constant c =
    let head : constant_of c.args.tree.now ≡ Some c.in-Some.constant.0 = sym c.constant_of.ensures ∙ ap (option_map (λ (s : Sym). s.0)) c.in-Some.is in
    atom-headed c.args.tree.now c.in-Some.constant.0 head

pub returns-clause-args : goal.returns-clause-args
returns-clause-args c =
    let head : constant_of c.args.tree.now ≡ Some c.in-Some.constant.0 = sym c.constant_of.ensures ∙ ap (option_map (λ (s : Sym). s.0)) c.in-Some.is in
    atom-args c.args.tree.now c.in-Some.constant.0 head ∙ ap (map (term_of 0)) (sym c.args_of-args.ensures)

pub returns-clause-within : goal.returns-clause-within
returns-clause-within c = λ variables w.
    let head : constant_of c.args.tree.now ≡ Some c.in-Some.constant.0 = sym c.constant_of.ensures ∙ ap (option_map (λ (s : Sym). s.0)) c.in-Some.is in
    subst (AllWithin variables 0) (sym c.args_of-args.ensures) (atom-within variables c.args.tree.now c.in-Some.constant.0 head w)
