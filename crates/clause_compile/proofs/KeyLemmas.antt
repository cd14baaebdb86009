-- The keys of clauses.
use Rattle.std.proofs.Common.{◌≡◌, ◌∙◌, ℕ, zero, suc, ◌+◌, ◌<◌, Bool, List, [], ◌∷◌, ◌++◌, map, length, Option, Some, None, option_map, refl, ap, sym, subst, arith, get_or}
use Rattle.std.specs.Prelude.{unwrap_or}
use Rattle.std.specs.Option.{option_map_or}
use mathlib.Core.Path.{fun_ext}
use Rattle.ref_terms.specs.terms.Term as term
use Rattle.ref_terms.specs.terms.Term.{Term, Head, At}
use Rattle.ref_terms.specs.terms.Apply.{fill}
use Rattle.ref_terms.specs.terms.Built.{IsBuilt}
use Rattle.ref_terms.specs.terms.Renamed.{vars, vars_head}
use Rattle.ref_terms.specs.ending.Measure.{fill-renames}
use Rattle.ref_terms.specs.unification.Shape.{headed}
use Rattle.ref_terms.specs.unification.Spine.{args_of, head_of}
use Rattle.ref_terms.specs.search.Program.{Program, Clause, modes_of, constant_of}
use Rattle.ref_terms.specs.search.Next.{constant_modes}
use Rattle.ref_terms.specs.search.Instance.{instance, fresh_for_variable}
use Rattle.level_terms.specs.declared.node.Node.{Node}
use Rattle.level_terms.specs.Graph.{Graph, Assigned}
use Rattle.level_terms.specs.Growth.{Grows, changes_of}
use Rattle.level_terms.specs.Sound.{IsSound, AllAssigned}
use Rattle.level_terms.specs.Undo.{undone, mark_of, IsTrailOf}
use Rattle.level_terms.proofs.GrowthLemmas.{undo_now, ignores_growth}
use Rattle.lp_resolve.specs.declared.program.Pred.{Pred}
use Rattle.lp_resolve.specs.declared.program.ClauseTree.{ClauseTree}
use Rattle.lp_resolve.specs.Plain.{plain_clause}
use Rattle.lp_resolve.specs.Preds.{pred_at}
use Rattle.clause_key.specs.declared.key.Key.{Key}
use Rattle.clause_key.specs.declared.key.Key.TheVariants.{Any}
use Rattle.clause_key.specs.Keys.{key_of_head, key_of_shape, key_of, key_argument, key_among, atom_key}
use Rattle.clause_key.proofs.CallerLemmas.{argument-map, argument-holds, instance-args, key-headed}
use Rattle.clause_compile.specs.Instances.{all_read, IsHeadOf}
use Rattle.clause_compile.specs.Programs.{inputs_of}
use Rattle.clause_compile.specs.inside.Meaning.{AreShared}
use Rattle.clause_compile.specs.inside.Codes.{IsClauseCode, AreClauseCodes}
use Rattle.clause_compile.specs.inside.Keys.{AllHeadsBuilt, key_in, inputs_at}
use Rattle.clause_compile.specs.declared.skeleton.ClauseCode.{ClauseCode}
use Rattle.clause_compile.specs.declared.instance.Instance.{Instance}
use Rattle.clause_compile.proofs.BuiltLemmas.{tree-built}
use Rattle.clause_compile.proofs.CompiledLemmas.{closed-made}

-- a renaming of variables leaves keys
head-renamed : (p : ℕ → ℕ) (h : Head) → key_of_head (vars_head p h) ≡ key_of_head h
head-renamed p (term.Con c) = refl
head-renamed p (term.Int n) = refl
head-renamed p (term.Str s) = refl
head-renamed p (term.Name n) = refl
head-renamed p (term.Bound i) = refl
head-renamed p (term.Var v) = refl

head_of-renamed : (p : ℕ → ℕ) (t : Term) → head_of (vars p t) ≡ option_map (vars_head p) (head_of t)
head_of-renamed p (term.Lam b) = refl
head_of-renamed p (At h) = refl
head_of-renamed p (term.App f a) = head_of-renamed p f

key-renamed : (p : ℕ → ℕ) (t : Term) → key_of (vars p t) ≡ key_of t
key-renamed p (term.Lam b) = refl
key-renamed p (At h) = key-headed (vars_head p h) [] ∙ head-renamed p h ∙ sym (key-headed h [])
key-renamed p (term.App f a) =
    ap (λ o. key_of_shape (headed 0 o (args_of (vars p f) ++ vars p a ∷ []))) (head_of-renamed p f) ∙ by (head_of f) (args_of (vars p f) ++ vars p a ∷ []) (args_of f ++ a ∷ [])
  where
    by : (o : Option Head) (xs ys : List Term) → key_of_shape (headed 0 (option_map (vars_head p) o) xs) ≡ key_of_shape (headed 0 o ys)
    by None xs ys = refl
    by (Some h) xs ys = key-headed (vars_head p h) xs ∙ head-renamed p h ∙ sym (key-headed h ys)

-- at no names, fresh variables are a renaming
fresh-renames : (next : ℕ) (h : Head) → fresh_for_variable 0 next h ≡ At (vars_head (λ v. next + v) h)
fresh-renames next (term.Var v) = refl
fresh-renames next (term.Con c) = refl
fresh-renames next _ = refl

key-fresh : (next : ℕ) (t : Term) → IsBuilt t → key_of (instance 0 next t) ≡ key_of t
key-fresh next t w = ap key_of (ap (λ (r : Head → Term). fill r t) (fun_ext (fresh-renames next)) ∙ fill-renames (λ v. next + v) t w) ∙ key-renamed (λ v. next + v) t

-- the arguments of a built term are built
abbrev EachBuilt : List Term → Type 0
EachBuilt [] = Unit {0}
EachBuilt (t ∷ ts) = IsBuilt t × EachBuilt ts

each-more : (ts : List Term) (t : Term) → EachBuilt ts → IsBuilt t → EachBuilt (ts ++ t ∷ [])
each-more [] t w v = (v, tt)
each-more (x ∷ ts) t w v = (w.0, each-more ts t w.1 v)

args-built : (t : Term) → IsBuilt t → EachBuilt (args_of t)
args-built (term.Lam b) w = tt
args-built (At h) w = tt
args-built (term.App f a) w = each-more (args_of f) a (args-built f w.0) w.1

among-fresh : (next : ℕ) (ms : List Bool) (ts : List Term) → EachBuilt ts → key_among ms (map (instance 0 next) ts) ≡ key_among ms ts
among-fresh next ms ts w = ap (λ o. option_map_or key_of o Any) (argument-map (instance 0 next) ms ts) ∙ by (key_argument ms ts) refl
  where
    by : (o : Option Term) → key_argument ms ts ≡ o → option_map_or key_of (option_map (instance 0 next) o) Any ≡ option_map_or key_of o Any
    by None e = refl
    by (Some t) e = key-fresh next t (argument-holds IsBuilt EachBuilt (λ x xs w. w.0) (λ x xs w. w.1) ms ts t e w)

-- what is made of a head has the clause's key
pub made-key : (k : Clause) (g h : Graph) (made : Instance) (nodes : List Node) (code : ClauseCode) (ms : List Bool) → IsHeadOf k 0 g h made → IsClauseCode nodes code k → IsBuilt k.head → key_among ms (all_read h made.args.items) ≡ key_among ms (args_of k.head)
made-key k g h made nodes code ms w c b =
    ap (key_among ms) (w.args ∙ instance-args 0 (length g.depths) code.pred.0 k.head c.pred) ∙ among-fresh (length g.depths) ms (args_of k.head) (args-built k.head b)

-- a heap without variables has no assignment
pub none-assigned : (g : Graph) → IsSound g → g.depths ≡ [] → IsTrailOf g []
none-assigned g s e = ap changes_of (none g.assigned (subst (λ (ds : List ℕ). AllAssigned (length g.nodes) (length ds) g.assigned) e s.assigned))
  where
    none : (xs : List Assigned) → AllAssigned (length g.nodes) 0 xs → [] ≡ xs
    none [] w = refl
    none (a ∷ xs) w = absurd (let z : a.variable < 0 = w.1 in omega (arith, z))

-- a heap without variables shares its nodes
pub own-shared : (g : Graph) → IsSound g → g.depths ≡ [] → AreShared (length g.nodes) g g.nodes
own-shared g s e = record { new = []; is = refl; count = refl; closed = closed-made g s e }

-- undoing to a mark at which only nodes and variables were added since
pub taken-back : (g h : Graph) → Grows g h [] [] → undone (mark_of g) h ≡ g
taken-back g h w = ignores_growth g h [] [] (mark_of g) w (record { nodes = omega arith; variables = omega arith; entries = omega arith }) ∙ undo_now g

-- the codes of clauses, the last one apart
pub record Split (nodes : List Node) (cs : List ClauseCode) (c : ClauseCode) (ks : List Clause) : Type 0 where
  pub front : List Clause
  pub last : Clause
  pub is : ks ≡ front ++ last ∷ []
  pub codes : AreClauseCodes nodes cs front
  pub code : IsClauseCode nodes c last

pub split-last : (nodes : List Node) (cs : List ClauseCode) (c : ClauseCode) (ks : List Clause) → AreClauseCodes nodes (cs ++ c ∷ []) ks → Split nodes cs c ks
split-last nodes [] c [] w = absurd w
split-last nodes [] c (k ∷ []) w = record { front = []; last = k; is = refl; codes = tt; code = w.0 }
split-last nodes [] c (k ∷ l ∷ ks) w = absurd w.1
split-last nodes (x ∷ cs) c [] w = absurd w
split-last nodes (x ∷ cs) c (k ∷ ks) w =
    let s = split-last nodes cs c ks w.1 in
    record { front = k ∷ s.front; last = s.last; is = ap (λ (z : List Clause). k ∷ z) s.is; codes = (w.0, s.codes); code = s.code }

pub built-front : (ks : List Clause) (k : Clause) → AllHeadsBuilt (ks ++ k ∷ []) → AllHeadsBuilt ks × IsBuilt k.head
built-front [] k w = (tt, w.0)
built-front (x ∷ ks) k w = let r = built-front ks k w.1 in ((w.0, r.0), r.1)

-- the code of each clause of a front part
pub codes-front : (nodes : List Node) (cs ds : List ClauseCode) (ks : List Clause) → AreClauseCodes nodes (cs ++ ds) ks → (us : List Clause) × AreClauseCodes nodes cs us
codes-front nodes [] ds ks w = ([], tt)
codes-front nodes (c ∷ cs) ds [] w = absurd w
codes-front nodes (c ∷ cs) ds (k ∷ ks) w = let r = codes-front nodes cs ds ks w.1 in (k ∷ r.0, (w.0, r.1))

-- the clause of one of the codes
pub clause-of : (nodes : List Node) (cs : List ClauseCode) (ks : List Clause) (i : ℕ) (c : ClauseCode) → AreClauseCodes nodes cs ks → i < length cs → c ≡ get_or cs i c → (k : Clause) × IsClauseCode nodes c k
clause-of nodes [] ks i c w l e = absurd (let z : i < 0 = l in omega (arith, z))
clause-of nodes (x ∷ cs) [] i c w l e = absurd w
clause-of nodes (x ∷ cs) (k ∷ ks) zero c w l e = (k, subst (λ (z : ClauseCode). IsClauseCode nodes z k) (sym e) w.0)
clause-of nodes (x ∷ cs) (k ∷ ks) (suc i) c w l e = clause-of nodes cs ks i c w.1 (let z : suc i < suc (length cs) = l in omega (arith, z)) e

-- keys by the code's predicates are those of the program
key-same : (p : Program) (preds : List (ℕ × Pred)) → ((s : ℕ) → inputs_of (pred_at s preds) ≡ modes_of p s) → (k : Clause) → key_in preds k ≡ atom_key p k.head
key-same p preds same k = by (constant_of (head_of k.head))
  where
    by : (o : Option ℕ) → key_among (unwrap_or (inputs_at preds o) []) (args_of k.head) ≡ key_among (unwrap_or (constant_modes p o) []) (args_of k.head)
    by None = refl
    by (Some c) = ap (λ o. key_among (unwrap_or o []) (args_of k.head)) (same c)

pub keys-same : (p : Program) (preds : List (ℕ × Pred)) → ((s : ℕ) → inputs_of (pred_at s preds) ≡ modes_of p s) → (ks : List Clause) → map (key_in preds) ks ≡ map (λ (k : Clause). atom_key p k.head) ks
keys-same p preds same ks = ap (λ (f : Clause → Key). map f ks) (fun_ext (key-same p preds same))

-- the heads of plain clauses are built
pub heads-built : (ks : List ClauseTree) → AllHeadsBuilt (map plain_clause ks)
heads-built [] = tt
heads-built (k ∷ ks) = (tree-built k.head, heads-built ks)
