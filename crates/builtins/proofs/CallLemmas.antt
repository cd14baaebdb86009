-- What calls of built-ins answer.
use Rattle.std.proofs.Common.{◌≡◌, ℕ, ◌<◌, ◌≤◌, ℤ, Bool, true, false, MatchBool, List, [], ◌∷◌, length, Option, Some, Result, Ok, Err, IfOk, IfErr, OnOk, refl, sym, ap, ap₂, ◌∙◌, subst, arith}
use Rattle.level_terms.specs.declared.node.Node.{Node}
use Rattle.level_terms.specs.declared.node.Node.TheVariants as node
use Rattle.level_terms.specs.declared.node.TermId.{TermId}
use Rattle.level_terms.specs.Graph.{Graph, node_at}
use Rattle.level_terms.specs.Growth.{Grows}
use Rattle.level_terms.specs.Reading.{read}
use Rattle.level_terms.specs.Sound.{IsSound}
use Rattle.level_terms.specs.Valid.{IsValid}
use Rattle.level_terms.proofs.NodeLemmas.{nodes_read}
use Rattle.level_terms.proofs.ValidLemmas.{growth_keeps_readings, nodes_valid}
use Rattle.ref_terms.specs.terms.Term.{Term, At, Int}
use Rattle.ref_terms.specs.unification.Problem.{Problem}
use Rattle.ref_terms.specs.search.Arithmetic.{less, value_of}
use Rattle.ref_terms.specs.search.Fault.{Judged, Good, Bad}
use Rattle.ref_terms.specs.search.Program.{Program}
use Rattle.ref_terms.specs.search.Branch.{Goal, Branch, with_goals, bound}
use Rattle.ref_terms.specs.search.State.{Alternative}
use Rattle.ref_terms.specs.search.Resolve.{Unification}
use Rattle.ref_terms.specs.search.BranchMove.{evaluates, compares}
use Rattle.ref_terms.specs.declared.fault.Fault.TheVariants.{Arity}
use Rattle.beta_fragment.specs.Names.{names}
use Rattle.beta_fragment.specs.declared.answer.UnifyStop.{UnifyStop}
use Rattle.beta_fragment.specs.declared.answer.UnifyStop.TheVariants.{Fault, Memory}
use Rattle.level_terms.proofs.MakeLemmas.{grown-length, newest}
use Rattle.beta_fragment.proofs.EnterLemmas.{names-places}
use Rattle.pattern_unify.specs.Answers.{problem_of, AnswersTrue, AnswersFalse, StopsSo}
use Rattle.goal_form.specs.declared.builtin.Builtin.{Builtin}
use Rattle.goal_form.specs.declared.builtin.Builtin.TheVariants.{Equal, Same, Var, Name, Is, Less, Print, Beta}
use Rattle.builtins.specs.Laws.{OutcomesMove, outcome_move}
use Rattle.builtins.specs.Outcome.{Outcome, Equates, Tells, Prints, Breaks, outcome, evaluated, told, printed_after, equation_in, Stays, Succeeds, Fails, Stops, StopsBy}

-- where nodes are added alone
pub stays-grown : (g h : Graph) → IsSound g → h.depths ≡ g.depths → Grows g h [] [] → Stays g h
stays-grown g h sound vs grows = record { readings = λ t env k. growth_keeps_readings g h t env sound grows k; variables = vs; grows = grows }

-- the node of an integer
module _ (g h : Graph) (z : ℤ) (r : TermId) (at : r.index ≡ length g.nodes) (made : h ≡ record g { nodes = node.Int z ∷ g.nodes }) where
  pub int-variables : h.depths ≡ g.depths
  int-variables = λ i. (made i).depths

  int-at : node_at h.nodes r.index ≡ Some (node.Int z)
  int-at = ap₂ (λ (ns : List Node) (i : ℕ). node_at ns i) (λ i. (made i).nodes) at ∙ newest (node.Int z) g.nodes

  pub int-reads : IsSound h → read h r.index names ≡ At (Int z)
  int-reads sound = nodes_read h r.index (node.Int z) names sound names-places int-at

  pub int-valid : IsSound h → (depth : ℕ) → IsValid h r.index depth
  int-valid sound depth = nodes_valid h r.index (node.Int z) depth sound int-at

-- an answer, whatever it is
pub ok-each : {A E : Type 0} (P Q : A → Type 0) (r : Result A E) → ((x : A) → P x → Q x) → IfOk r P → IfOk r Q
ok-each P Q (Ok x) f h = f x h
ok-each P Q (Err e) f h = tt

pub err-each : {A E : Type 0} (P Q : E → Type 0) (r : Result A E) → ((e : E) → P e → Q e) → IfErr r P → IfErr r Q
err-each P Q (Ok x) f h = tt
err-each P Q (Err e) f h = f e h

pub ok-both : {A E : Type 0} (P R : A → Type 0) (Q : Type 0) (r : Result A E) → ((x : A) → P x → Q → R x) → IfOk r P → OnOk r Q → IfOk r R
ok-both P R Q (Ok x) f h k = f x h k
ok-both P R Q (Err e) f h k = tt

-- want of memory
pub memory-stops : (g : Graph) (depth : ℕ) (o : Outcome) → Stops g depth o Memory
memory-stops g depth (Equates s t) = tt
memory-stops g depth (Tells c) = refl
memory-stops g depth (Prints t) = refl
memory-stops g depth (Breaks e) = tt

-- questions
pub tells-answer : (g h : Graph) (depth : ℕ) (c b : Bool) → b ≡ c → Stays g h → MatchBool b (Succeeds g h depth (Tells c)) (Fails g depth (Tells c))
tells-answer g h depth c true e s = (sym e, s)
tells-answer g h depth c false e s = sym e

pub told-answer : (g h : Graph) (depth : ℕ) (j : Judged Bool) (b : Bool) → j ≡ Good b → Stays g h → MatchBool b (Succeeds g h depth (told j)) (Fails g depth (told j))
told-answer g h depth j b e s = subst (λ (k : Judged Bool). MatchBool b (Succeeds g h depth (told k)) (Fails g depth (told k))) (sym e) (tells-answer g h depth b b refl s)

pub told-stops : (g : Graph) (depth : ℕ) (j : Judged Bool) (stop : UnifyStop) → StopsBy j stop → Stops g depth (told j) stop
told-stops g depth j (Fault f) e = subst (λ (k : Judged Bool). Stops g depth (told k) (Fault f)) (sym e) refl
told-stops g depth j Memory e = memory-stops g depth (told j)

pub evaluated-stops : (g : Graph) (depth : ℕ) (x : Term) (j : Judged ℤ) (stop : UnifyStop) → StopsBy j stop → Stops g depth (evaluated x j) stop
evaluated-stops g depth x j (Fault f) e = subst (λ (k : Judged ℤ). Stops g depth (evaluated x k) (Fault f)) (sym e) refl
evaluated-stops g depth x j Memory e = memory-stops g depth (evaluated x j)

-- unification in a heap that gained nodes
module _ (g mid : Graph) (depth : ℕ) (s t : Term) (a b : ℕ) (vs : mid.depths ≡ g.depths) (left : read mid a names ≡ s) (right : read mid b names ≡ t) where
  same-problem : problem_of mid a b depth ≡ equation_in g depth s t
  same-problem = λ i. record { next_var = length (vs i); equations = record { names = depth; left = left i; right = right i } ∷ []; bindings = [] }

  pub equated-stops : (stop : UnifyStop) → StopsSo 0 (problem_of mid a b depth) stop → Stops g depth (Equates s t) stop
  equated-stops stop w = subst (λ (p : Problem). StopsSo 0 p stop) same-problem w

  pub equated-answer : (new : Graph) (r : Bool) → IsSound g → Grows g mid [] [] → MatchBool r (AnswersTrue 0 mid new (problem_of mid a b depth)) (AnswersFalse 0 (problem_of mid a b depth)) → MatchBool r (Succeeds g new depth (Equates s t)) (Fails g depth (Equates s t))
  equated-answer new false sound grows w = subst (AnswersFalse 0) same-problem w
  equated-answer new true sound grows w =
      let answer : AnswersTrue 0 mid new (equation_in g depth s t) = subst (AnswersTrue 0 mid new) same-problem w in
      let more = grown-length g mid grows in (
        answer.0,
        answer.1,
        record {
          readings = λ n env k. answer.2.readings n env (omega (arith, k, more)) ∙ ap (bound (answer.0).bindings) (growth_keeps_readings g mid n env sound grows k);
          variables = answer.2.variables;
        },
      )

pub evaluated-stops_later : (g mid : Graph) (depth : ℕ) (x : Term) (z : ℤ) (j : Judged ℤ) (stop : UnifyStop) → j ≡ Good z → Stops g depth (evaluated x (Good z)) stop → Stops g depth (evaluated x j) stop
evaluated-stops_later g mid depth x z j stop e w = subst (λ (k : Judged ℤ). Stops g depth (evaluated x k) stop) (sym e) w

pub evaluated-answer : (g new : Graph) (depth : ℕ) (x : Term) (z : ℤ) (j : Judged ℤ) (r : Bool) → j ≡ Good z → MatchBool r (Succeeds g new depth (evaluated x (Good z))) (Fails g depth (evaluated x (Good z))) → MatchBool r (Succeeds g new depth (evaluated x j)) (Fails g depth (evaluated x j))
evaluated-answer g new depth x z j r e w = subst (λ (k : Judged ℤ). MatchBool r (Succeeds g new depth (evaluated x k)) (Fails g depth (evaluated x k))) (sym e) w

-- another number of arguments
pub one-other : (g : Graph) (depth : ℕ) (k : Builtin) (x : Term) → (k ≡ Var → ⊥) → (k ≡ Name → ⊥) → (k ≡ Print → ⊥) → Stops g depth (outcome k (x ∷ [])) (Fault Arity)
one-other g depth Equal x h0 h1 h2 = refl
one-other g depth Same x h0 h1 h2 = refl
one-other g depth Var x h0 h1 h2 = absurd (h0 refl)
one-other g depth Name x h0 h1 h2 = absurd (h1 refl)
one-other g depth Is x h0 h1 h2 = refl
one-other g depth Less x h0 h1 h2 = refl
one-other g depth Print x h0 h1 h2 = absurd (h2 refl)
one-other g depth Beta x h0 h1 h2 = refl

pub two-other : (g : Graph) (depth : ℕ) (k : Builtin) (x y : Term) → (k ≡ Equal → ⊥) → (k ≡ Same → ⊥) → (k ≡ Is → ⊥) → (k ≡ Less → ⊥) → Stops g depth (outcome k (x ∷ y ∷ [])) (Fault Arity)
two-other g depth Equal x y h0 h1 h2 h3 = absurd (h0 refl)
two-other g depth Same x y h0 h1 h2 h3 = absurd (h1 refl)
two-other g depth Var x y h0 h1 h2 h3 = refl
two-other g depth Name x y h0 h1 h2 h3 = refl
two-other g depth Is x y h0 h1 h2 h3 = absurd (h2 refl)
two-other g depth Less x y h0 h1 h2 h3 = absurd (h3 refl)
two-other g depth Print x y h0 h1 h2 h3 = refl
two-other g depth Beta x y h0 h1 h2 h3 = refl

pub three-other : (g : Graph) (depth : ℕ) (k : Builtin) (x y z : Term) → (k ≡ Beta → ⊥) → Stops g depth (outcome k (x ∷ y ∷ z ∷ [])) (Fault Arity)
three-other g depth Equal x y z h0 = refl
three-other g depth Same x y z h0 = refl
three-other g depth Var x y z h0 = refl
three-other g depth Name x y z h0 = refl
three-other g depth Is x y z h0 = refl
three-other g depth Less x y z h0 = refl
three-other g depth Print x y z h0 = refl
three-other g depth Beta x y z h0 = absurd (h0 refl)

pub none-other : (g : Graph) (depth : ℕ) (k : Builtin) → Stops g depth (outcome k []) (Fault Arity)
none-other g depth Equal = refl
none-other g depth Same = refl
none-other g depth Var = refl
none-other g depth Name = refl
none-other g depth Is = refl
none-other g depth Less = refl
none-other g depth Print = refl
none-other g depth Beta = refl

pub more-other : (g : Graph) (depth : ℕ) (k : Builtin) (x y z w : Term) (ts : List Term) → Stops g depth (outcome k (x ∷ y ∷ z ∷ w ∷ ts)) (Fault Arity)
more-other g depth Equal x y z w ts = refl
more-other g depth Same x y z w ts = refl
more-other g depth Var x y z w ts = refl
more-other g depth Name x y z w ts = refl
more-other g depth Is x y z w ts = refl
more-other g depth Less x y z w ts = refl
more-other g depth Print x y z w ts = refl
more-other g depth Beta x y z w ts = refl

pub any-other : (g : Graph) (depth : ℕ) (k : Builtin) (ts : List Term) → (1 ≤ length ts → length ts < 4 → ⊥) → Stops g depth (outcome k ts) (Fault Arity)
any-other g depth k [] n = none-other g depth k
any-other g depth k (x ∷ []) n = absurd (n (omega arith) (omega arith))
any-other g depth k (x ∷ y ∷ []) n = absurd (n (omega arith) (omega arith))
any-other g depth k (x ∷ y ∷ z ∷ []) n = absurd (n (omega arith) (omega arith))
any-other g depth k (x ∷ y ∷ z ∷ w ∷ ts) n = more-other g depth k x y z w ts

-- nothing is printed by a call with two arguments or three
evaluated-silent : (table : List (List ℕ)) (before : Option (List ℕ)) (x : Term) (j : Judged ℤ) → before ≡ printed_after table (evaluated x j) before
evaluated-silent table before x (Good z) = refl
evaluated-silent table before x (Bad e) = refl

told-silent : (table : List (List ℕ)) (before : Option (List ℕ)) (j : Judged Bool) → before ≡ printed_after table (told j) before
told-silent table before (Good c) = refl
told-silent table before (Bad e) = refl

pub two-silent : (table : List (List ℕ)) (before : Option (List ℕ)) (k : Builtin) (x y : Term) → before ≡ printed_after table (outcome k (x ∷ y ∷ [])) before
two-silent table before Equal x y = refl
two-silent table before Same x y = refl
two-silent table before Var x y = refl
two-silent table before Name x y = refl
two-silent table before Is x y = evaluated-silent table before x (value_of y)
two-silent table before Less x y = told-silent table before (less x y)
two-silent table before Print x y = refl
two-silent table before Beta x y = refl

pub three-silent : (table : List (List ℕ)) (before : Option (List ℕ)) (k : Builtin) (x y z : Term) → before ≡ printed_after table (outcome k (x ∷ y ∷ z ∷ [])) before
three-silent table before Equal x y z = refl
three-silent table before Same x y z = refl
three-silent table before Var x y z = refl
three-silent table before Name x y z = refl
three-silent table before Is x y z = refl
three-silent table before Less x y z = refl
three-silent table before Print x y z = refl
three-silent table before Beta x y z = refl

-- the moves
module _ (unify : Unification) (program : Program) (branch : Branch) (goal : Goal) (rest : List Goal) (alternatives : List Alternative) where
  evaluates-moves : (x : Term) (j : Judged ℤ) → evaluates unify goal.names x j (with_goals rest branch) alternatives ≡ outcome_move unify program branch goal rest alternatives (evaluated x j)
  evaluates-moves x (Good z) = refl
  evaluates-moves x (Bad e) = refl

  compares-moves : (j : Judged Bool) → compares j (with_goals rest branch) alternatives ≡ outcome_move unify program branch goal rest alternatives (told j)
  compares-moves (Good c) = refl
  compares-moves (Bad e) = refl

pub outcomes-move : OutcomesMove
outcomes-move unify program branch goal rest alternatives Equal [] = refl
outcomes-move unify program branch goal rest alternatives Equal (x ∷ []) = refl
outcomes-move unify program branch goal rest alternatives Equal (x ∷ y ∷ []) = refl
outcomes-move unify program branch goal rest alternatives Equal (x ∷ y ∷ z ∷ ts) = refl
outcomes-move unify program branch goal rest alternatives Same [] = refl
outcomes-move unify program branch goal rest alternatives Same (x ∷ []) = refl
outcomes-move unify program branch goal rest alternatives Same (x ∷ y ∷ []) = refl
outcomes-move unify program branch goal rest alternatives Same (x ∷ y ∷ z ∷ ts) = refl
outcomes-move unify program branch goal rest alternatives Var [] = refl
outcomes-move unify program branch goal rest alternatives Var (x ∷ []) = refl
outcomes-move unify program branch goal rest alternatives Var (x ∷ y ∷ ts) = refl
outcomes-move unify program branch goal rest alternatives Name [] = refl
outcomes-move unify program branch goal rest alternatives Name (x ∷ []) = refl
outcomes-move unify program branch goal rest alternatives Name (x ∷ y ∷ ts) = refl
outcomes-move unify program branch goal rest alternatives Is [] = refl
outcomes-move unify program branch goal rest alternatives Is (x ∷ []) = refl
outcomes-move unify program branch goal rest alternatives Is (x ∷ y ∷ []) = evaluates-moves unify program branch goal rest alternatives x (value_of y)
outcomes-move unify program branch goal rest alternatives Is (x ∷ y ∷ z ∷ ts) = refl
outcomes-move unify program branch goal rest alternatives Less [] = refl
outcomes-move unify program branch goal rest alternatives Less (x ∷ []) = refl
outcomes-move unify program branch goal rest alternatives Less (x ∷ y ∷ []) = compares-moves unify program branch goal rest alternatives (less x y)
outcomes-move unify program branch goal rest alternatives Less (x ∷ y ∷ z ∷ ts) = refl
outcomes-move unify program branch goal rest alternatives Print [] = refl
outcomes-move unify program branch goal rest alternatives Print (x ∷ []) = refl
outcomes-move unify program branch goal rest alternatives Print (x ∷ y ∷ ts) = refl
outcomes-move unify program branch goal rest alternatives Beta [] = refl
outcomes-move unify program branch goal rest alternatives Beta (x ∷ []) = refl
outcomes-move unify program branch goal rest alternatives Beta (x ∷ y ∷ []) = refl
outcomes-move unify program branch goal rest alternatives Beta (x ∷ y ∷ z ∷ []) = refl
outcomes-move unify program branch goal rest alternatives Beta (x ∷ y ∷ z ∷ w ∷ ts) = refl
