use Rattle.std.proofs.Common.{◌≡◌, ◌∙◌, ℕ, suc, ◌<◌, List, [], ◌∷◌, ◌++◌, Option, Some, None, length, map, drop, sym, ap, subst, rules}
use Rattle.std.specs.Prelude.{IfOk, OnOk, IsTrue, flat_map}
use Rattle.std.proofs.lemmas.List.{map-append}
use Rattle.lp_parser.specs.declared.ast.AstTerm.{AstTerm}
use Rattle.lp_parser.specs.declared.ast.AstTerm.TheVariants.{List as Listed}
use Rattle.ref_terms.specs.terms.Term as term
use Rattle.ref_terms.specs.terms.Term.{Term}
use Rattle.ref_terms.specs.terms.Eta.{lam}
use Rattle.ref_terms.specs.terms.Text.{text_apply_all}
use Rattle.ref_terms.specs.declared.tree.Tree.{Tree}
use Rattle.lp_resolve.specs.Symbols.{number_of, interned, interned_all, Begins}
use Rattle.lp_resolve.specs.Texts.{texts_of}
use Rattle.lp_resolve.specs.Variables.{Met}
use Rattle.lp_resolve.specs.Trees.{as_term, head_term, Shape, shape, all_fit}
use Rattle.lp_resolve.specs.Reading.{Reading, Readings, Reader, read_all, reading, word, constant, application, abstraction, listing, tail_of, list_term}
use Rattle.lp_resolve.specs.Reads.{IsReadBy, IsRead, AreRead}
use Rattle.lp_resolve.proofs.ReadingForms.{begins-twice}
use Rattle.lp_resolve.proofs.ReadingSteps.{read-word, read-str, read-app, read-bind, read-op, read-quant, read-tailed, read-untailed, step-read, all-read, step-texts, table-app, table-op, table-tailed, table-untailed}
use Rattle.lp_resolve.proofs.Results.{if-ok, if-ok-two, on-ok, on-ok-any}
use Rattle.lp_resolve.proofs.Shapes.{fit-last}
use Rattle.lp_resolve.proofs.TreeForms.{term-str, term-con}
use Rattle.lp_resolve.proofs.read.+read.Goals as goal

pub read_abstraction-returns-clause-read : goal.read_abstraction-returns-clause-read
read_abstraction-returns-clause-read t c =
    let w = c.in_ok-word.word.0 in
    let last = c.read.new.symbols in
    let number : w ≡ number_of c.intern.new.self c.in-Bind.text = c.in_ok-word.ensures.number ∙ ap (number_of c.intern.new.self) c.as_slice.ensures in
    let scope : c.enter.new.self ≡ w ∷ c.args.scope.now = c.in_ok-enter.ensures in
    let Given : AstTerm → List ℕ → Type 0 = λ t s. IsRead last s c.args.variables.now t c.read.new.variables c.in_ok-body.body in
    let inside : IsRead last (w ∷ c.args.scope.now) c.args.variables.now c.in-Bind.body c.read.new.variables c.in_ok-body.body =
    subst (λ (s : List ℕ). Given c.in-Bind.body s) scope (subst (λ (t : AstTerm). Given t c.enter.new.self) c.get.ensures c.in_ok-body.ensures.read) in
    if-ok-two c.abstraction.result (λ (tree : Tree). as_term tree ≡ lam (as_term c.in_ok-body.body)) (λ (tree : Tree). IsTrue (shape tree).fits) _
    (λ tree same fits. read-bind c.intern.new.self last c.args.scope.now c.args.variables.now c.read.new.variables c.args.term.now c.in-Bind.body c.in-Bind.text c.in-Bind.field-1 w
    c.in_ok-body.body tree c.in-Bind.is number c.in_ok-word.ensures.within c.in_ok-body.ensures.begins inside same fits)
    c.abstraction.ensures.term c.abstraction.ensures.fits

pub read_operator-returns-clause-read : goal.read_operator-returns-clause-read
read_operator-returns-clause-read t c =
    let last = c.read-2.new.symbols in
    let left : IsRead c.read.new.symbols c.args.scope.now c.args.variables.now c.in-Op.left c.read.new.variables c.in_ok-left.left =
    subst (λ (t : AstTerm). IsRead c.read.new.symbols c.args.scope.now c.args.variables.now t c.read.new.variables c.in_ok-left.left) c.get.ensures c.in_ok-left.ensures.read in
    let Given : AstTerm → List ℕ → Type 0 = λ t s. IsRead last s c.read.new.variables t c.read-2.new.variables c.in_ok-right.right in
    let right : IsRead last c.args.scope.now c.read.new.variables c.in-Op.right c.read-2.new.variables c.in_ok-right.right =
    subst (λ (s : List ℕ). Given c.in-Op.right s) c.in_ok-left.ensures.scope (subst (λ (t : AstTerm). Given t c.read.new.scope) c.get-2.ensures c.in_ok-right.ensures.read) in
    if-ok-two c.constant_of_two.result (λ (tree : Tree). as_term tree ≡ term.App (term.App (term.At (term.Con c.operator_symbol.result.0)) (as_term c.in_ok-left.left)) (as_term c.in_ok-right.right)) (λ (tree : Tree). IsTrue (shape tree).fits) _
    (λ tree same fits. read-op c.read.new.symbols last c.args.scope.now c.args.variables.now c.read.new.variables c.read-2.new.variables c.args.term.now c.in-Op.left c.in-Op.right c.in-Op.operator c.in-Op.field-1
    c.operator_symbol.result.0 c.in_ok-left.left c.in_ok-right.right tree c.in-Op.is left c.in_ok-right.ensures.begins right c.operator_symbol.ensures same fits)
    c.constant_of_two.ensures.term c.constant_of_two.ensures.fits

pub read_quantifier-returns-clause-read : goal.read_quantifier-returns-clause-read
read_quantifier-returns-clause-read t c =
    let inside : IsRead c.read.new.symbols c.args.scope.now c.args.variables.now c.in-Quant.body c.read.new.variables c.in_ok-body.body =
    subst (λ (t : AstTerm). IsRead c.read.new.symbols c.args.scope.now c.args.variables.now t c.read.new.variables c.in_ok-body.body) c.get.ensures c.in_ok-body.ensures.read in
    if-ok-two c.constant_of_one.result (λ (tree : Tree). as_term tree ≡ term.App (term.At (term.Con c.quantifier_symbol.result.0)) (as_term c.in_ok-body.body)) (λ (tree : Tree). IsTrue (shape tree).fits) _
    (λ tree same fits. read-quant c.read.new.symbols c.args.scope.now c.args.variables.now c.read.new.variables c.args.term.now c.in-Quant.body c.in-Quant.universal c.in-Quant.field-1
    c.quantifier_symbol.result.0 c.in_ok-body.body tree c.in-Quant.is inside c.quantifier_symbol.ensures same fits)
    c.constant_of_one.ensures.term c.constant_of_one.ensures.fits

pub read_all-loop-term-preserved : goal.read_all-loop-term-preserved
read_all-loop-term-preserved t c =
    let i = c.loop-term.term-index in
    let terms = c.as_slice-term-items.result.now in
    let x = c.term-item.result in
    let images : map shape c.push.new.self ≡ map shape c.loop-term.trees ++ shape c.in_ok-tree.tree ∷ [] = ap (λ (ts : List Tree). map shape ts) c.in_ok-push.ensures.last ∙ map-append shape c.loop-term.trees (c.in_ok-tree.tree ∷ []) in
    record {
      fit = subst (λ (shapes : List Shape). IsTrue (all_fit shapes)) (sym images) (fit-last (map shape c.loop-term.trees) (shape c.in_ok-tree.tree) c.loop-term.invariant.fit c.in_ok-tree.ensures.read.fits);
      begins = begins-twice c.args.symbols.now c.loop-term.symbols c.read.new.symbols c.loop-term.invariant.begins c.in_ok-tree.ensures.begins;
      scope = c.in_ok-tree.ensures.scope ∙ c.loop-term.invariant.scope;
      table = step-texts terms i x c.loop-term-test.true c.term-item.is c.args.symbols.now c.loop-term.symbols c.read.new.symbols c.loop-term.invariant.table c.in_ok-tree.ensures.table;
      reads = step-read terms i x c.loop-term-test.true c.term-item.is c.loop-term.symbols c.read.new.symbols c.loop-term.scope c.args.scope.now c.read.new.scope c.args.variables.now c.loop-term.variables c.read.new.variables
          c.loop-term.trees c.push.new.self c.in_ok-tree.tree c.loop-term.invariant.reads c.in_ok-tree.ensures.begins c.in_ok-tree.ensures.read c.in_ok-tree.ensures.scope c.in_ok-push.ensures.last;
    }

pub read_all-returns-clause-read : goal.read_all-returns-clause-read
read_all-returns-clause-read t c =
    let terms = c.as_slice-term-items.result.now in
    subst (λ (ts : List AstTerm). AreRead c.loop-term.symbols c.args.scope.now c.args.variables.now ts c.loop-term.variables c.loop-term.trees) c.as_slice-term-items.ensures
    (all-read terms c.loop-term.term-index c.loop-term-test.false c.loop-term.symbols c.loop-term.scope c.args.scope.now c.args.variables.now c.loop-term.variables c.loop-term.trees
    c.loop-term.invariant.reads c.loop-term.invariant.fit)

pub read_list-returns-in_ok-tail-in-Some-clause-table : goal.read_list-returns-in_ok-tail-in-Some-clause-table
read_list-returns-in_ok-tail-in-Some-clause-table t c =
    let elements : c.read_all.new.symbols ≡ interned_all c.args.symbols.now (flat_map texts_of c.in-List.elements) =
    c.in_ok-elements.ensures.table in
    let tail : c.read.new.symbols ≡ interned_all c.read_all.new.symbols (texts_of c.in-Some.tail) =
    c.in_ok-tail-in-Some.ensures.table ∙ ap (λ (t : AstTerm). interned_all c.read_all.new.symbols (texts_of t)) c.get.ensures in
    let is : c.args.term.now ≡ Listed c.in-List.field-0 c.in-List.elements (Some c.in-Some.tail) = c.in-List.is ∙ ap (Listed c.in-List.field-0 c.in-List.elements) c.in-Some.is in
    on-ok-any c.list_tree.result _ (table-tailed c.args.symbols.now c.read_all.new.symbols c.read.new.symbols c.args.term.now c.in-List.field-0 c.in-List.elements c.in-Some.tail is elements tail)

pub read_list-returns-in_ok-tail-in-Some-clause-read : goal.read_list-returns-in_ok-tail-in-Some-clause-read
read_list-returns-in_ok-tail-in-Some-clause-read t c =
    let last = c.read.new.symbols in
    let trees = c.in_ok-elements.elements in
    let elements : AreRead c.read_all.new.symbols c.args.scope.now c.args.variables.now c.in-List.elements c.read_all.new.variables trees =
    c.in_ok-elements.ensures.read in
    let Given : AstTerm → List ℕ → Type 0 = λ t s. IsRead last s c.read_all.new.variables t c.read.new.variables c.in_ok-tail-in-Some.tail in
    let tail : IsRead last c.args.scope.now c.read_all.new.variables c.in-Some.tail c.read.new.variables c.in_ok-tail-in-Some.tail =
    subst (λ (s : List ℕ). Given c.in-Some.tail s) c.in_ok-elements.ensures.scope (subst (λ (t : AstTerm). Given t c.read_all.new.scope) c.get.ensures c.in_ok-tail-in-Some.ensures.read) in
    let is : c.args.term.now ≡ Listed c.in-List.field-0 c.in-List.elements (Some c.in-Some.tail) = c.in-List.is ∙ ap (Listed c.in-List.field-0 c.in-List.elements) c.in-Some.is in
    if-ok-two c.list_tree.result (λ (tree : Tree). as_term tree ≡ list_term (map as_term trees) (as_term c.in_ok-tail-in-Some.tail)) (λ (tree : Tree). IsTrue (shape tree).fits) _
    (λ tree same fits. read-tailed c.read_all.new.symbols last c.args.scope.now c.args.variables.now c.read_all.new.variables c.read.new.variables c.args.term.now c.in-List.field-0 c.in-List.elements c.in-Some.tail
    trees c.in_ok-tail-in-Some.tail tree is elements c.in_ok-tail-in-Some.ensures.begins tail same fits)
    c.list_tree.ensures.term c.list_tree.ensures.fits

pub read_list-returns-in-None-clause-table : goal.read_list-returns-in-None-clause-table
read_list-returns-in-None-clause-table t c =
    let elements : c.read_all.new.symbols ≡ interned_all c.args.symbols.now (flat_map texts_of c.in-List.elements) =
    c.in_ok-elements.ensures.table in
    let is : c.args.term.now ≡ Listed c.in-List.field-0 c.in-List.elements None = c.in-List.is ∙ ap (Listed c.in-List.field-0 c.in-List.elements) c.in-None.is in
    on-ok-any c.list_tree-in-None.result _ (table-untailed c.args.symbols.now c.read_all.new.symbols c.args.term.now c.in-List.field-0 c.in-List.elements is elements)

pub read_list-returns-in-None-clause-read : goal.read_list-returns-in-None-clause-read
read_list-returns-in-None-clause-read t c =
    let trees = c.in_ok-elements.elements in
    let elements : AreRead c.read_all.new.symbols c.args.scope.now c.args.variables.now c.in-List.elements c.read_all.new.variables trees =
    c.in_ok-elements.ensures.read in
    let is : c.args.term.now ≡ Listed c.in-List.field-0 c.in-List.elements None = c.in-List.is ∙ ap (Listed c.in-List.field-0 c.in-List.elements) c.in-None.is in
    if-ok-two c.list_tree-in-None.result (λ (tree : Tree). as_term tree ≡ list_term (map as_term trees) (as_term c.atom.result)) (λ (tree : Tree). IsTrue (shape tree).fits) _
    (λ tree same fits. read-untailed c.read_all.new.symbols c.args.scope.now c.args.variables.now c.read_all.new.variables c.args.term.now c.in-List.field-0 c.in-List.elements
    trees (as_term c.atom.result) tree is elements (c.atom.ensures.term ∙ term-con _) same fits)
    c.list_tree-in-None.ensures.term c.list_tree-in-None.ensures.fits

pub read_application-returns-clause-table : goal.read_application-returns-clause-table
read_application-returns-clause-table t c =
    let head : c.read.new.symbols ≡ interned_all c.args.symbols.now (texts_of c.in-App.head) = c.in_ok-function.ensures.table ∙ ap (λ (t : AstTerm). interned_all c.args.symbols.now (texts_of t)) c.get.ensures in
    let rest : c.read_all.new.symbols ≡ interned_all c.read.new.symbols (flat_map texts_of c.in-App.arguments) =
    c.in_ok-arguments.ensures.table in
    on-ok-any c.applied_all.result _ (table-app c.args.symbols.now c.read.new.symbols c.read_all.new.symbols c.args.term.now c.in-App.head c.in-App.arguments c.in-App.is head rest)

pub read_application-returns-clause-read : goal.read_application-returns-clause-read
read_application-returns-clause-read t c =
    let last = c.read_all.new.symbols in
    let trees = c.in_ok-arguments.arguments in
    let head : IsRead c.read.new.symbols c.args.scope.now c.args.variables.now c.in-App.head c.read.new.variables c.in_ok-function.function =
    subst (λ (t : AstTerm). IsRead c.read.new.symbols c.args.scope.now c.args.variables.now t c.read.new.variables c.in_ok-function.function) c.get.ensures c.in_ok-function.ensures.read in
    let Given : List AstTerm → List ℕ → Type 0 = λ ts s. AreRead last s c.read.new.variables ts c.read_all.new.variables trees in
    let rest : AreRead last c.args.scope.now c.read.new.variables c.in-App.arguments c.read_all.new.variables trees =
    subst (λ (s : List ℕ). Given c.in-App.arguments s) c.in_ok-function.ensures.scope c.in_ok-arguments.ensures.read in
    if-ok-two c.applied_all.result (λ (tree : Tree). as_term tree ≡ text_apply_all (as_term c.in_ok-function.function) (map as_term trees)) (λ (tree : Tree). IsTrue (shape tree).fits) _
    (λ tree same fits. read-app c.read.new.symbols last c.args.scope.now c.args.variables.now c.read.new.variables c.read_all.new.variables c.args.term.now c.in-App.head c.in-App.arguments
    c.in_ok-function.function trees tree c.in-App.is head c.in_ok-arguments.ensures.begins rest same fits)
    c.applied_all.ensures.term c.applied_all.ensures.fits
