use Rattle.std.proofs.Common.{ℕ, ◌≡◌, ◌<◌, ◌≤◌, ◌+◌, ◌++◌, ◌∷◌, [], List, length, take, Some, None, IfOk, sym, ap, ◌∙◌, subst, arith, reverse, get_or, ◌-◌}
use Rattle.std.proofs.lemmas.List.{take_more}
use Rattle.ref_terms.specs.declared.tree.Tree.{Tree}
use Rattle.ref_terms.specs.terms.Term as term
use Rattle.ref_terms.specs.terms.Term.{Term}
use Rattle.lp_resolve.specs.Trees.{as_term, head_term}
use Rattle.type_terms.specs.Nodes.{Answers, Reads, Applies}
use Rattle.type_terms.specs.Read.{declared_of, Has, HasTree, HasFront, HasSpine, scope}
use Rattle.lp_resolve.proofs.TreeForms.{term-lam, term-ap, term-con, term-bound, term-variable}
use Rattle.type_terms.proofs.Composing.{if-ok}
use Rattle.type_terms.proofs.Readings.{IsScope, abstracted, abstracted-none, headed, headed-none, listed, spine-next, spine-untyped, spine-whole, bound-at, bound-past}
use Rattle.type_terms.proofs.Scopes.{all-reverse}
use Rattle.type_terms.proofs.trees.+types.Goals as goal

pub read-returns-in_ok-arrow-in-Some-clause-read : goal.read-returns-in_ok-arrow-in-Some-clause-read
read-returns-in_ok-arrow-in-Some-clause-read t c =
    let d = declared_of c.args.scope.now.declared.now in
    let cs = c.args.scope.now.constants.now in
    let xs = c.args.scope.now.variables.now in
    let bs = c.args.binders.now.items in
    let a = c.in_ok-binder-in-Lam.binder in
    let is : IsScope c.args.graph.now (scope d cs xs bs) = record { constants = c.requires.known.constants; variables = c.requires.known.variables; binders = c.requires.binders } in
    let inner : Answers c.free.new.self c.read.new.graph (Has (scope d cs xs c.push.new.self.items) (as_term c.get.result.now)) (Some c.in-Some.body) =
    subst (Answers c.free.new.self c.read.new.graph (HasTree (scope d cs xs c.push.new.self.items) c.get.result.now)) c.in-Some.is c.in_ok-found-in-Lam.ensures.read in
    let body : Reads c.free.new.self c.read.new.graph (Has (scope d cs xs (bs ++ a ∷ [])) (as_term c.in-Lam.body)) c.in-Some.body =
    subst (λ (b : Tree). Reads c.free.new.self c.read.new.graph (Has (scope d cs xs (bs ++ a ∷ [])) (as_term b)) c.in-Some.body) c.get.ensures
    (subst (λ (ks : List ℕ). Reads c.free.new.self c.read.new.graph (Has (scope d cs xs ks) (as_term c.get.result.now)) c.in-Some.body) c.in_ok-push-in-Lam.ensures.items inner) in
    abstracted c.args.graph.now c.free.new.self c.read.new.graph c.arrow.new.graph d cs xs bs (as_term c.in-Lam.body) (as_term c.args.tree.now) a c.in-Some.body c.in_ok-arrow-in-Some.field-0 is
    (ap as_term c.in-Lam.is ∙ term-lam c.in-Lam.body) c.in_ok-binder-in-Lam.ensures.ok body c.in_ok-arrow-in-Some.ensures

pub read-returns-in-None-clause-read : goal.read-returns-in-None-clause-read
read-returns-in-None-clause-read t c =
    let d = declared_of c.args.scope.now.declared.now in
    let cs = c.args.scope.now.constants.now in
    let xs = c.args.scope.now.variables.now in
    let bs = c.args.binders.now.items in
    let a = c.in_ok-binder-in-Lam.binder in
    let is : IsScope c.args.graph.now (scope d cs xs bs) = record { constants = c.requires.known.constants; variables = c.requires.known.variables; binders = c.requires.binders } in
    let inner : Answers c.free.new.self c.read.new.graph (Has (scope d cs xs c.push.new.self.items) (as_term c.get.result.now)) None =
    subst (Answers c.free.new.self c.read.new.graph (HasTree (scope d cs xs c.push.new.self.items) c.get.result.now)) c.in-None.is c.in_ok-found-in-Lam.ensures.read in
    let body : Answers c.free.new.self c.read.new.graph (Has (scope d cs xs (bs ++ a ∷ [])) (as_term c.in-Lam.body)) None =
    subst (λ (b : Tree). Answers c.free.new.self c.read.new.graph (Has (scope d cs xs (bs ++ a ∷ [])) (as_term b)) None) c.get.ensures
    (subst (λ (ks : List ℕ). Answers c.free.new.self c.read.new.graph (Has (scope d cs xs ks) (as_term c.get.result.now)) None) c.in_ok-push-in-Lam.ensures.items inner) in
    abstracted-none c.args.graph.now c.free.new.self c.read.new.graph d cs xs bs (as_term c.in-Lam.body) (as_term c.args.tree.now) a is
    (ap as_term c.in-Lam.is ∙ term-lam c.in-Lam.body) c.in_ok-binder-in-Lam.ensures.ok body

pub read-returns-in-Some-2-clause-read : goal.read-returns-in-Some-2-clause-read
read-returns-in-Some-2-clause-read t c =
    let d = declared_of c.args.scope.now.declared.now in
    let cs = c.args.scope.now.constants.now in
    let xs = c.args.scope.now.variables.now in
    let bs = c.args.binders.now.items in
    let s = scope d cs xs bs in
    let is : IsScope c.args.graph.now s = record { constants = c.requires.known.constants; variables = c.requires.known.variables; binders = c.requires.binders } in
    let f = c.in-Some-2.function in
    let head : Reads c.args.graph.now c.read_head.new.graph (HasFront s c.in-Ap.head) f =
    subst (Answers c.args.graph.now c.read_head.new.graph (HasFront s c.in-Ap.head)) c.in-Some-2.is c.in_ok-function-in-Ap.ensures.read in
    if-ok c.read_all.result (Answers c.read_head.new.graph c.read_all.new.graph (HasSpine (scope d cs xs c.read_head.new.binders.items) f c.as_slice.result.now)) (Answers c.args.graph.now c.read_all.new.graph (HasTree s c.args.tree.now))
    (λ r rest. headed c.args.graph.now c.read_head.new.graph c.read_all.new.graph s (head_term c.in-Ap.head) (as_term c.args.tree.now) c.in-Ap.args f r is (ap as_term c.in-Ap.is ∙ term-ap c.in-Ap.head c.in-Ap.args) head
    (subst (λ (ts : List Tree). Answers c.read_head.new.graph c.read_all.new.graph (HasSpine s f ts) r) c.as_slice.ensures
    (subst (λ (ks : List ℕ). Answers c.read_head.new.graph c.read_all.new.graph (HasSpine (scope d cs xs ks) f c.as_slice.result.now) r) c.in_ok-function-in-Ap.ensures.kept rest)))
    c.read_all.ensures.read

pub read-returns-in-None-2-clause-read : goal.read-returns-in-None-2-clause-read
read-returns-in-None-2-clause-read t c =
    let s = scope (declared_of c.args.scope.now.declared.now) c.args.scope.now.constants.now c.args.scope.now.variables.now c.args.binders.now.items in
    headed-none c.args.graph.now c.read_head.new.graph s (head_term c.in-Ap.head) (as_term c.args.tree.now) c.in-Ap.args (ap as_term c.in-Ap.is ∙ term-ap c.in-Ap.head c.in-Ap.args)
    (subst (Answers c.args.graph.now c.read_head.new.graph (HasFront s c.in-Ap.head)) c.in-None-2.is c.in_ok-function-in-Ap.ensures.read)

pub read_all-returns-in_default-clause-read : goal.read_all-returns-in_default-clause-read
read_all-returns-in_default-clause-read t c =
    let d = declared_of c.args.scope.now.declared.now in
    let cs = c.args.scope.now.constants.now in
    let xs = c.args.scope.now.variables.now in
    let bs = c.args.binders.now.items in
    let s = scope d cs xs bs in
    let is : IsScope c.args.graph.now s = record { constants = c.requires.known.constants; variables = c.requires.known.variables; binders = c.requires.binders } in
    let i = c.loop-arg.arg-index in
    let ts = c.args.args.now in
    let x = c.arg-item.result in
    let arg : Answers c.loop-arg.graph c.read.new.graph (HasTree s x) None =
    subst (λ (ks : List ℕ). Answers c.loop-arg.graph c.read.new.graph (HasTree (scope d cs xs ks) x) None) c.loop-arg.invariant.kept
    (subst (Answers c.loop-arg.graph c.read.new.graph (HasTree (scope d cs xs c.loop-arg.binders.items) x)) c.in_default.is c.in_ok-argument.ensures.read) in
    let more : take (i + 1) ts ≡ take i ts ++ x ∷ [] = take_more ts i x c.loop-arg-test.true ∙ ap (λ (y : Tree). take i ts ++ y ∷ []) (sym c.arg-item.is) in
    spine-whole c.args.graph.now c.read.new.graph s c.args.function (i + 1) ts
    (subst (λ (us : List Tree). Answers c.args.graph.now c.read.new.graph (HasSpine s c.args.function us) None) (sym more)
    (spine-untyped c.args.graph.now c.loop-arg.graph c.read.new.graph s c.args.function (take i ts) x c.loop-arg.result is c.loop-arg.invariant.read arg))

pub read_all-returns-in_default-2-clause-read : goal.read_all-returns-in_default-2-clause-read
read_all-returns-in_default-2-clause-read t c =
    let d = declared_of c.args.scope.now.declared.now in
    let cs = c.args.scope.now.constants.now in
    let xs = c.args.scope.now.variables.now in
    let bs = c.args.binders.now.items in
    let s = scope d cs xs bs in
    let is : IsScope c.args.graph.now s = record { constants = c.requires.known.constants; variables = c.requires.known.variables; binders = c.requires.binders } in
    let i = c.loop-arg.arg-index in
    let ts = c.args.args.now in
    let x = c.arg-item.result in
    let arg : Reads c.loop-arg.graph c.read.new.graph (HasTree s x) c.in-Some.argument =
    subst (λ (ks : List ℕ). Reads c.loop-arg.graph c.read.new.graph (HasTree (scope d cs xs ks) x) c.in-Some.argument) c.loop-arg.invariant.kept
    (subst (Answers c.loop-arg.graph c.read.new.graph (HasTree (scope d cs xs c.loop-arg.binders.items) x)) c.in-Some.is c.in_ok-argument.ensures.read) in
    let more : take (i + 1) ts ≡ take i ts ++ x ∷ [] = take_more ts i x c.loop-arg-test.true ∙ ap (λ (y : Tree). take i ts ++ y ∷ []) (sym c.arg-item.is) in
    spine-whole c.args.graph.now c.applied.new.graph s c.args.function (i + 1) ts
    (subst (λ (us : List Tree). Answers c.args.graph.now c.applied.new.graph (HasSpine s c.args.function us) None) (sym more)
    (spine-next c.args.graph.now c.loop-arg.graph c.read.new.graph c.applied.new.graph s c.args.function (take i ts) x c.loop-arg.result c.in-Some.argument None is c.loop-arg.invariant.read arg
    (subst (Applies c.read.new.graph c.loop-arg.result c.in-Some.argument c.applied.new.graph) c.in_default-2.is c.in_ok-next.ensures)))

pub read_all-loop-arg-preserved : goal.read_all-loop-arg-preserved
read_all-loop-arg-preserved t c =
    let d = declared_of c.args.scope.now.declared.now in
    let cs = c.args.scope.now.constants.now in
    let xs = c.args.scope.now.variables.now in
    let bs = c.args.binders.now.items in
    let s = scope d cs xs bs in
    let is : IsScope c.args.graph.now s = record { constants = c.requires.known.constants; variables = c.requires.known.variables; binders = c.requires.binders } in
    let i = c.loop-arg.arg-index in
    let ts = c.args.args.now in
    let x = c.arg-item.result in
    let arg : Reads c.loop-arg.graph c.read.new.graph (HasTree s x) c.in-Some.argument =
    subst (λ (ks : List ℕ). Reads c.loop-arg.graph c.read.new.graph (HasTree (scope d cs xs ks) x) c.in-Some.argument) c.loop-arg.invariant.kept
    (subst (Answers c.loop-arg.graph c.read.new.graph (HasTree (scope d cs xs c.loop-arg.binders.items) x)) c.in-Some.is c.in_ok-argument.ensures.read) in
    let item = c.arg-item.is in
    let more : take (i + 1) ts ≡ take i ts ++ x ∷ [] = take_more ts i x c.loop-arg-test.true ∙ ap (λ (y : Tree). take i ts ++ y ∷ []) (sym item) in
    record {
      kept = c.in_ok-argument.ensures.kept ∙ c.loop-arg.invariant.kept;
      read = subst (λ (us : List Tree). Reads c.args.graph.now c.applied.new.graph (HasSpine s c.args.function us) c.in-Some-2.next) (sym more)
          (spine-next c.args.graph.now c.loop-arg.graph c.read.new.graph c.applied.new.graph s c.args.function (take i ts) x c.loop-arg.result c.in-Some.argument (Some c.in-Some-2.next) is c.loop-arg.invariant.read arg
          (subst (Applies c.read.new.graph c.loop-arg.result c.in-Some.argument c.applied.new.graph) c.in-Some-2.is c.in_ok-next.ensures));
    }

pub read_head-returns-in-ClauseVar-clause-read : goal.read_head-returns-in-ClauseVar-clause-read
read_head-returns-in-ClauseVar-clause-read t c =
    let s = scope (declared_of c.args.scope.now.declared.now) c.args.scope.now.constants.now c.args.scope.now.variables.now c.args.binders.now.items in
    let e : head_term c.args.head.now ≡ term.At (term.Var c.in-ClauseVar.variable) = ap head_term c.in-ClauseVar.is ∙ term-variable c.in-ClauseVar.variable in
    subst (λ (u : Term). Answers c.args.graph.now c.args.graph.now (Has s u) c.node_of.result) (sym e)
    (listed c.args.graph.now (Has s (term.At (term.Var c.in-ClauseVar.variable))) c.args.scope.now.variables.now c.in-ClauseVar.variable c.node_of.result c.node_of.ensures c.requires.known.variables (λ v u j. j) (λ v u j. j))

pub read_head-returns-then-index-len-clause-read : goal.read_head-returns-then-index-len-clause-read
read_head-returns-then-index-len-clause-read t c =
    let bs = c.args.binders.now.items in
    let i = c.in-Bound.index in
    let s = scope (declared_of c.args.scope.now.declared.now) c.args.scope.now.constants.now c.args.scope.now.variables.now bs in
    let e : head_term c.args.head.now ≡ term.At (term.Bound i) = ap head_term c.in-Bound.is ∙ term-bound i in
    let h : i < length bs = omega (arith, c.if-index-len.true, c.len.ensures, c.args.binders.now.ok) in
    let len : c.len-then-index-len.result ≡ length bs = omega (arith, c.len-then-index-len.ensures, c.args.binders.now.ok) in
    let at : c.index.result.now ≡ get_or bs (length bs - 1 - i) c.index.result.now = c.index.ensures ∙ ap (λ (n : ℕ). get_or bs (n - 1 - i) c.index.result.now) len in
    subst (λ (u : Term). Reads c.args.graph.now c.args.graph.now (Has s u) c.index.result.now) (sym e)
    (listed c.args.graph.now (Has s (term.At (term.Bound i))) (reverse bs) i (Some c.index.result.now) (sym (bound-at bs i c.index.result.now h at))
    (all-reverse (length c.args.graph.now) bs c.requires.binders) (λ v u j. j) (λ v u j. j))

pub read_head-returns-else-index-len-clause-read : goal.read_head-returns-else-index-len-clause-read
read_head-returns-else-index-len-clause-read t c =
    let bs = c.args.binders.now.items in
    let i = c.in-Bound.index in
    let s = scope (declared_of c.args.scope.now.declared.now) c.args.scope.now.constants.now c.args.scope.now.variables.now bs in
    let e : head_term c.args.head.now ≡ term.At (term.Bound i) = ap head_term c.in-Bound.is ∙ term-bound i in
    let h : length bs ≤ i = omega (arith, c.if-index-len.false, c.len.ensures, c.args.binders.now.ok) in
    subst (λ (u : Term). Answers c.args.graph.now c.args.graph.now (Has s u) None) (sym e)
    (listed c.args.graph.now (Has s (term.At (term.Bound i))) (reverse bs) i None (sym (bound-past bs i h))
    (all-reverse (length c.args.graph.now) bs c.requires.binders) (λ v u j. j) (λ v u j. j))

pub read_head-returns-in-Con-clause-read : goal.read_head-returns-in-Con-clause-read
read_head-returns-in-Con-clause-read t c =
    let s = scope (declared_of c.args.scope.now.declared.now) c.args.scope.now.constants.now c.args.scope.now.variables.now c.args.binders.now.items in
    let e : head_term c.args.head.now ≡ term.At (term.Con c.in-Con.constant.0) = ap head_term c.in-Con.is ∙ term-con c.in-Con.constant in
    subst (λ (u : Term). IfOk c.read_constant.result (Answers c.args.graph.now c.read_constant.new.graph (Has s u))) (sym e) c.read_constant.ensures
